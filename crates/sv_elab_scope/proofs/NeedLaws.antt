-- Declarations that wait where all others are tried, in place, are those of the definition.
use Rattle.std.proofs.Common.{◌≡◌, ℕ, suc, Bool, true, false, not, ◌&&◌, List, [], ◌∷◌, ◌++◌, map, refl, ap, sym, ◌∙◌, if◌then◌else◌}
use Rattle.std.proofs.lemmas.List.{map-append}
use Rattle.sv_names.specs.declared.checked.Checked.{Checked}
use Rattle.sv_names.specs.declared.named.Known.{Known}
use Rattle.sv_names.specs.declared.named.Named.{Named}
use Rattle.sv_names.specs.Types.{Path}
use Rattle.sv_names.specs.Named.{Around}
use Rattle.sv_names.specs.Rounds as rounds
use Rattle.sv_names.specs.Rounds.{Row, does_wait, or_waits, as_tried, same_row}
use Rattle.sv_names.specs.Groups.{Group, in_group}
use Rattle.sv_elab_scope.specs.declared.declared.Entry.{Entry}
use Rattle.sv_elab_scope.specs.declared.ids.RowId.{RowId}
use Rattle.sv_elab_scope.specs.declared.loops.Needed.{Needed}
use Rattle.sv_elab_scope.specs.Views.{entry_in}
use Rattle.sv_elab_scope.specs.Rows.{all_known, row_of, rows_at, rows_from, all_rows, AllAgree, group_over}
use Rattle.sv_elab_scope.specs.Settling.{Meant, prepare_over, evaluated_by, renewal, renewals, waits_in, marks_in}
use Rattle.sv_elab_scope.specs.Ids.{id_of, id_if, ids_at, ids_from}
use Rattle.sv_elab_scope.specs.Changes.{Others, changed}
use Rattle.sv_elab_scope.specs.Needs.{is_waiting, still_at, still_in, waiting_over, needed_from, left_over}
use Rattle.sv_elab_scope.proofs.RoundLaws.{Stands, stands_in, renewals_from, evaluated-stands}
use Rattle.sv_elab_scope.proofs.PlaceLaws.{Becomes, becomes-is}
use Rattle.sv_elab_scope.proofs.ChangeLaws.{Like, like-changed, others-leave, others_of, others-become}
use Rattle.sv_elab_scope.proofs.LoopLaws.{needed_of}

-- ---- those that wait still

module _ {P : Type 0} (prepare : List Row → P) (evaluate : P → Row → Checked Named) (p : P) where
  still-if : (b : Bool) (x : Row) (as' bs cs : List Row) → as' ≡ bs ++ cs
      → (if b then x ∷ as' else as') ≡ (if b then x ∷ bs else bs) ++ cs
  still-if true x as' bs cs e = ap (λ rs. x ∷ rs) e
  still-if false x as' bs cs e = e

  waiting_over-append : (a b : List Row)
      → rounds.waiting_over prepare evaluate p (a ++ b) ≡ rounds.waiting_over prepare evaluate p a ++ rounds.waiting_over prepare evaluate p b
  waiting_over-append [] b = refl
  waiting_over-append (x ∷ a) b =
      still-if (does_wait x.value && does_wait (or_waits (evaluate p x))) x (rounds.waiting_over prepare evaluate p (a ++ b))
      (rounds.waiting_over prepare evaluate p a) (rounds.waiting_over prepare evaluate p b) (waiting_over-append a b)

id-found : (b : Bool) (r : Row) (rest : List RowId) (ws : List Row) → rest ≡ map id_of ws
    → id_if b (id_of r) ++ rest ≡ map id_of (if b then r ∷ ws else ws)
id-found true r rest ws is = ap (λ ids. id_of r ∷ ids) is
id-found false r rest ws is = is

id-still : (m : Bool) (c d : Checked Named) (r : Row) (rest : List RowId) (ws : List Row) → d ≡ c → rest ≡ map id_of ws
    → id_if (is_waiting (renewal m c)) (id_of r) ++ rest ≡ map id_of (if m && does_wait (or_waits d) then r ∷ ws else ws)
id-still true c d r rest ws same is =
    ap (λ x. id_if (does_wait (or_waits x)) (id_of r) ++ rest) (sym same) ∙ id-found (does_wait (or_waits d)) r rest ws is
id-still false c d r rest ws same is = is

module _ {P : Type 0} (prepare : List Row → P) (evaluate : P → Row → Checked Named) (p : P) (f : Stands)
    (is : (h : ℕ) (e : Entry) (k : Known) → evaluate p (row_of h e k) ≡ f h (entry_in e)) where
  still-ids-at : (h : ℕ) (es : List Entry) (ks : List Known)
      → ids_at h es (still_at (renewals (f h) es (waits_in ks))) ≡ map id_of (rounds.waiting_over prepare evaluate p (rows_at h es ks))
  still-ids-at h [] ks = refl
  still-ids-at h (e ∷ es) [] = refl
  still-ids-at h (e ∷ es) (k ∷ ks) =
      id-still (does_wait k.value) (f h (entry_in e)) (evaluate p (row_of h e k)) (row_of h e k)
      (ids_at h es (still_at (renewals (f h) es (waits_in ks)))) (rounds.waiting_over prepare evaluate p (rows_at h es ks))
      (is h e k) (still-ids-at h es ks)

  pub still-ids-from : (h : ℕ) (ess : List (List Entry)) (kss : List (List Known))
      → ids_from h ess (still_in (renewals_from f h ess (marks_in kss))) ≡ map id_of (rounds.waiting_over prepare evaluate p (rows_from h ess kss))
  still-ids-from h [] kss = refl
  still-ids-from h (es ∷ more) [] = refl
  still-ids-from h (es ∷ more) (ks ∷ kss) =
      (λ i. still-ids-at h es ks i ++ still-ids-from (suc h) more kss i)
      ∙ sym (map-append id_of (rounds.waiting_over prepare evaluate p (rows_at h es ks)) (rounds.waiting_over prepare evaluate p (rows_from (suc h) more kss)))
      ∙ ap (map id_of) (sym (waiting_over-append prepare evaluate p (rows_at h es ks) (rows_from (suc h) more kss)))

-- ---- those that wait

-- of all rows
abbrev pub waiting_rows : List Row → List Row
waiting_rows [] = []
waiting_rows (r ∷ rs) = if does_wait r.value then r ∷ waiting_rows rs else waiting_rows rs

waiting_rows-if : (b : Bool) (x : Row) (as' bs cs : List Row) → as' ≡ bs ++ cs
    → (if b then x ∷ as' else as') ≡ (if b then x ∷ bs else bs) ++ cs
waiting_rows-if true x as' bs cs e = ap (λ rs. x ∷ rs) e
waiting_rows-if false x as' bs cs e = e

waiting_rows-append : (a b : List Row) → waiting_rows (a ++ b) ≡ waiting_rows a ++ waiting_rows b
waiting_rows-append [] b = refl
waiting_rows-append (x ∷ a) b =
    waiting_rows-if (does_wait x.value) x (waiting_rows (a ++ b)) (waiting_rows a) (waiting_rows b) (waiting_rows-append a b)

marked-at : (h : ℕ) (es : List Entry) (ks : List Known) → ids_at h es (waits_in ks) ≡ map id_of (waiting_rows (rows_at h es ks))
marked-at h [] ks = refl
marked-at h (e ∷ es) [] = refl
marked-at h (e ∷ es) (k ∷ ks) =
    id-found (does_wait k.value) (row_of h e k) (ids_at h es (waits_in ks)) (waiting_rows (rows_at h es ks)) (marked-at h es ks)

pub marked-from : (h : ℕ) (ess : List (List Entry)) (kss : List (List Known))
    → ids_from h ess (marks_in kss) ≡ map id_of (waiting_rows (rows_from h ess kss))
marked-from h [] kss = refl
marked-from h (es ∷ more) [] = refl
marked-from h (es ∷ more) (ks ∷ kss) =
    (λ i. marked-at h es ks i ++ marked-from (suc h) more kss i)
    ∙ sym (map-append id_of (waiting_rows (rows_at h es ks)) (waiting_rows (rows_from (suc h) more kss)))
    ∙ ap (map id_of) (sym (waiting_rows-append (rows_at h es ks) (rows_from (suc h) more kss)))

-- ---- each with those that need it

module _ (meant : Meant) (ar : Around) (p : Path) (ess : List (List Entry)) (old : Group) (a : AllAgree ess (all_known old)) where
  -- one, with those that wait where all others are tried
  abbrev pub needing : RowId → Needed
  needing y =
      record {
        one = y;
        by =
            map id_of
            (rounds.waiting_over (prepare_over ar old) (evaluated_by meant false p)
            (prepare_over ar old (as_tried (others_of y) (all_rows ess old))) (all_rows ess old));
      }

  over-is : (y : RowId) (g : Group) → Like [] ess old g
      → waiting_over meant ar p ess (marks_in (all_known old)) (changed (Others y) ess (marks_in (all_known old)) g) ≡ (needing y).by
  over-is y g l =
      let new : Group = changed (Others y) ess (marks_in (all_known old)) g in
      let b : Becomes ess old (as_tried (others_of y) (all_rows ess old)) new = others-become y ess old g a l in
      let whole : new ≡ group_over old (as_tried (others_of y) (all_rows ess old)) = becomes-is ess old _ new b in
      ap (λ vss. ids_from 0 ess (still_in vss)) (evaluated-stands meant false ar p ess (marks_in (all_known old)) new b.agree)
      ∙ still-ids-from (prepare_over ar old) (evaluated_by meant false p) (new, in_group new ar) (stands_in meant false p (new, in_group new ar))
      (λ h e k. refl) 0 ess (all_known old)
      ∙ ap (λ (n : Group). map id_of (rounds.waiting_over (prepare_over ar old) (evaluated_by meant false p) (n, in_group n ar) (all_rows ess old))) whole

  needed-is : (xs : List RowId) (g : Group) → Like [] ess old g → needed_from meant ar p ess (marks_in (all_known old)) xs g ≡ map needing xs
  needed-is [] g l = refl
  needed-is (x ∷ xs) g l =
      λ i. record { one = x; by = over-is x g l i } ∷ needed-is xs (changed (Others x) ess (marks_in (all_known old)) g) (like-changed (Others x) [] (others-leave x) ess old g l) i

  needs-if : (b : Bool) (y : Row) (ns : List rounds.Needed) (ws : List Row) → map needed_of ns ≡ map needing (map id_of ws)
      → map needed_of (if b then record {
        one = y;
        by =
            rounds.waiting_over (prepare_over ar old) (evaluated_by meant false p)
            (prepare_over ar old (as_tried (λ x. does_wait x.value && not (same_row y x)) (all_rows ess old))) (all_rows ess old);
      } ∷ ns else ns)
      ≡ map needing (map id_of (if b then y ∷ ws else ws))
  needs-if true y ns ws is = ap (λ more. needing (id_of y) ∷ more) is
  needs-if false y ns ws is = is

  needs-are : (ys : List Row)
      → map needed_of (rounds.needed (prepare_over ar old) (evaluated_by meant false p) (all_rows ess old) ys) ≡ map needing (map id_of (waiting_rows ys))
  needs-are [] = refl
  needs-are (y ∷ ys) =
      needs-if (does_wait y.value) y (rounds.needed (prepare_over ar old) (evaluated_by meant false p) (all_rows ess old) ys) (waiting_rows ys) (needs-are ys)

  -- all that wait
  pub all-needed : (g : Group) → Like [] ess old g
      → needed_from meant ar p ess (marks_in (all_known old)) (ids_from 0 ess (marks_in (all_known old))) g
      ≡ map needed_of (rounds.needed (prepare_over ar old) (evaluated_by meant false p) (all_rows ess old) (all_rows ess old))
  all-needed g l =
      needed-is (ids_from 0 ess (marks_in (all_known old))) g l
      ∙ ap (map needing) (marked-from 0 ess (all_known old))
      ∙ sym (needs-are (all_rows ess old))

  -- what the trials leave
  pub left-like : (xs : List RowId) (g : Group) → Like [] ess old g → Like [] ess old (left_over ess (marks_in (all_known old)) xs g)
  left-like [] g l = l
  left-like (x ∷ xs) g l =
      left-like xs (changed (Others x) ess (marks_in (all_known old)) g) (like-changed (Others x) [] (others-leave x) ess old g l)
