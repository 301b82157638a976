-- What is reached through calls: a round that finds nothing new is the last one.
use Rattle.std.proofs.Common.{◌≡◌, ℕ, zero, suc, ◌-◌, ◌<◌, ◌≤◌, Bool, true, false, List, [], ◌∷◌, ◌++◌, length, refl, sym, ap, ◌∙◌, arith}
use Rattle.std.specs.Prelude.{if◌then◌else◌}
use Rattle.std.proofs.lemmas.List.{length-append}
use Rattle.sv_names.specs.declared.around.ClassInfo.{ClassInfo}
use Rattle.sv_names.specs.Types.{Path, has_path}
use Rattle.sv_names.specs.Writers.{Table, with_new, reached_within}
use Rattle.sv_elab_writers.specs.Reaching.{reached_once}

-- one path, and then others
pub new_first : (ps qs : List Path) (q : Path) → with_new (with_new ps (q ∷ [])) qs ≡ with_new ps (q ∷ qs)
new_first ps qs q = by (has_path q ps)
  where
    by : (b : Bool) → with_new (if b then ps else ps ++ q ∷ []) qs ≡ (if b then with_new ps qs else with_new (ps ++ q ∷ []) qs)
    by true = refl
    by false = refl

-- no path is lost
grows : (qs ps : List Path) → length ps ≤ length (with_new ps qs)
grows [] ps = omega arith
grows (q ∷ qs) ps = by (has_path q ps) (grows qs ps) (grows qs (ps ++ q ∷ []))
  where
    by : (b : Bool) → length ps ≤ length (with_new ps qs) → length (ps ++ q ∷ []) ≤ length (with_new (ps ++ q ∷ []) qs)
        → length ps ≤ length (if b then with_new ps qs else with_new (ps ++ q ∷ []) qs)
    by true here more = here
    by false here more = omega (arith, length-append ps (q ∷ []))

-- of the same length, they are the same
pub none_new : (qs ps : List Path) → length (with_new ps qs) ≡ length ps → with_new ps qs ≡ ps
none_new [] ps = λ same. refl
none_new (q ∷ qs) ps = by (has_path q ps) (none_new qs ps)
  where
    by : (b : Bool) → (length (with_new ps qs) ≡ length ps → with_new ps qs ≡ ps)
        → length (if b then with_new ps qs else with_new (ps ++ q ∷ []) qs) ≡ length ps
        → (if b then with_new ps qs else with_new (ps ++ q ∷ []) qs) ≡ ps
    by true go same = go same
    by false go same = absurd (omega (arith, grows qs (ps ++ q ∷ []), length-append ps (q ∷ [])))

-- further rounds find nothing new
pub rounds_end : (n : ℕ) (ks : List ClassInfo) (t : Table) (ps : List Path) → reached_once ks t ps ≡ ps → reached_within n ks t ps ≡ ps
rounds_end zero ks t ps last = refl
rounds_end (suc n) ks t ps last = ap (reached_within n ks t) last ∙ rounds_end n ks t ps last

-- a round that finds nothing new is the last one
pub last_round : (n : ℕ) (ks : List ClassInfo) (t : Table) (ps qs : List Path) → qs ≡ reached_once ks t ps → length qs ≡ length ps
    → qs ≡ reached_within n ks t ps
last_round n ks t ps qs is same =
    let last : reached_once ks t ps ≡ ps = none_new _ ps (ap length (sym is) ∙ same) in
    is ∙ last ∙ sym (rounds_end n ks t ps last)

-- a round, and those that are left
pub one_round : (n : ℕ) (ks : List ClassInfo) (t : Table) (ps qs : List Path) → 0 < n → qs ≡ reached_once ks t ps
    → reached_within (n - 1) ks t qs ≡ reached_within n ks t ps
one_round zero ks t ps qs some is = absurd (omega arith)
one_round (suc n) ks t ps qs some is =
    let less : suc n - 1 ≡ n = omega arith in ap (λ k. reached_within k ks t qs) less ∙ ap (reached_within n ks t) is
