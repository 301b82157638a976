-- What is reached through calls: a round that finds nothing new is the last one.
use Rattle.std.proofs.Common.{◌≡◌, ℕ, zero, suc, ◌-◌, ◌<◌, ◌≤◌, Bool, true, false, List, [], ◌∷◌, ◌++◌, length, refl, sym, ap, ◌∙◌, arith}
use Rattle.std.specs.Prelude.{if◌then◌else◌, flat_map}
use Rattle.std.proofs.lemmas.List.{length-append}
use Rattle.sv_value.specs.declared.number.RoutineId.{RoutineId}
use Rattle.sv_flat.specs.declared.design.Parts.{Parts}
use Rattle.sv_flat.specs.Names.{is_listed, called_in, with_new, called_within}
use Rattle.sv_elab_comb.specs.Standing.{reached_once}

-- one routine, and then others
pub new_first : (rs qs : List RoutineId) (q : RoutineId) → with_new (with_new rs (q ∷ [])) qs ≡ with_new rs (q ∷ qs)
new_first rs qs q = refl

-- no routine is lost
grows : (qs rs : List RoutineId) → length rs ≤ length (with_new rs qs)
grows [] rs = omega arith
grows (q ∷ qs) rs = by (is_listed q rs) (grows qs rs) (grows qs (rs ++ q ∷ []))
  where
    by : (b : Bool) → length rs ≤ length (with_new rs qs) → length (rs ++ q ∷ []) ≤ length (with_new (rs ++ q ∷ []) qs)
        → length rs ≤ length (with_new (if b then rs else rs ++ q ∷ []) qs)
    by true here more = here
    by false here more = omega (arith, length-append rs (q ∷ []))

-- of the same length, they are the same
none_new : (qs rs : List RoutineId) → length (with_new rs qs) ≡ length rs → with_new rs qs ≡ rs
none_new [] rs = λ same. refl
none_new (q ∷ qs) rs = by (is_listed q rs) (none_new qs rs)
  where
    by : (b : Bool) → (length (with_new rs qs) ≡ length rs → with_new rs qs ≡ rs)
        → length (with_new (if b then rs else rs ++ q ∷ []) qs) ≡ length rs
        → with_new (if b then rs else rs ++ q ∷ []) qs ≡ rs
    by true go same = go same
    by false go same = absurd (omega (arith, grows qs (rs ++ q ∷ []), length-append rs (q ∷ [])))

-- further rounds find nothing new
rounds_end : (n : ℕ) (d : Parts) (rs : List RoutineId) → reached_once d rs ≡ rs → called_within n d rs ≡ rs
rounds_end zero d rs last = refl
rounds_end (suc n) d rs last = ap (called_within n d) last ∙ rounds_end n d rs last

-- a round that finds nothing new is the last one
pub last_round : (n : ℕ) (d : Parts) (rs qs : List RoutineId) → qs ≡ reached_once d rs → length qs ≡ length rs
    → qs ≡ called_within n d rs
last_round n d rs qs is same =
    let last : reached_once d rs ≡ rs = none_new (flat_map (called_in d) rs) rs (ap length (sym is) ∙ same) in
    is ∙ last ∙ sym (rounds_end n d rs last)

-- a round, and those that are left
pub one_round : (n : ℕ) (d : Parts) (rs qs : List RoutineId) → 0 < n → qs ≡ reached_once d rs
    → called_within (n - 1) d qs ≡ called_within n d rs
one_round zero d rs qs some is = absurd (omega arith)
one_round (suc n) d rs qs some is =
    let less : suc n - 1 ≡ n = omega arith in ap (λ k. called_within k d qs) less ∙ ap (called_within n d) is
