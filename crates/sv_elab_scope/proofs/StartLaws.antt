-- Declarations before the first round are the rows of the definition.
use Rattle.std.proofs.Common.{◌≡◌, ℕ, suc, Bool, true, false, List, [], ◌∷◌, ◌++◌, map, refl, ap, if◌then◌else◌}
use Rattle.sv_names.specs.Entries as entries
use Rattle.sv_names.specs.Rounds.{Row, rows_of, waits, is_announcement}
use Rattle.sv_elab_scope.specs.declared.declared.Entry.{Entry}
use Rattle.sv_elab_scope.specs.Views.{entry_in}
use Rattle.sv_elab_scope.specs.Rows.{rows_at, rows_from, row_of, Agree, AllAgree}
use Rattle.sv_elab_scope.specs.Starting.{without_announcements, waiting_one, all_waiting}

agree-waiting : (es : List Entry) → Agree es (all_waiting es)
agree-waiting [] = tt
agree-waiting (e ∷ es) = (refl, refl, agree-waiting es)

-- what waits is of the entries
pub lists-agree-waiting : (ess : List (List Entry)) → AllAgree ess (map all_waiting ess)
lists-agree-waiting [] = tt
lists-agree-waiting (es ∷ more) = (agree-waiting es, lists-agree-waiting more)

row-if : (h : ℕ) (e : Entry) (es : List Entry) (b : Bool) (rs : List Row) → rs ≡ rows_at h es (all_waiting es)
    → (if b then rs else record { home = h; entry = entry_in e; value = waits } ∷ rs)
    ≡ rows_at h ((if b then [] else e ∷ []) ++ es) (all_waiting ((if b then [] else e ∷ []) ++ es))
row-if h e es true rs is = is
row-if h e es false rs is = ap (λ more. row_of h e (waiting_one e) ∷ more) is

pub rows-waiting : (h : ℕ) (es : List Entry)
    → rows_of h (map entry_in es) ≡ rows_at h (without_announcements es) (all_waiting (without_announcements es))
rows-waiting h [] = refl
rows-waiting h (e ∷ es) =
    row-if h e (without_announcements es) (is_announcement (entry_in e).what) (rows_of h (map entry_in es)) (rows-waiting h es)

-- the rows of several scopes, numbered from here on
abbrev pub rows_of_lists : ℕ → List (List entries.Entry) → List Row
rows_of_lists h [] = []
rows_of_lists h (es ∷ more) = rows_of h es ++ rows_of_lists (suc h) more

pub lists-waiting : (h : ℕ) (ess : List (List Entry))
    → rows_of_lists h (map (λ es. map entry_in es) ess)
    ≡ rows_from h (map without_announcements ess) (map all_waiting (map without_announcements ess))
lists-waiting h [] = refl
lists-waiting h (es ∷ more) = λ i. rows-waiting h es i ++ lists-waiting (suc h) more i
