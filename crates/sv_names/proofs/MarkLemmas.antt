-- An index of marks grows with them, and a path stands nowhere before the first that has its mark.
use Rattle.std.proofs.Common.{◌≡◌, ℕ, suc, ◌+◌, Bool, true, false, cond, List, [], ◌∷◌, ◌++◌, length, drop, Option, Some, None, option_map, is_some, refl, sym, ap, ◌∙◌, true≢false, arith}
use Rattle.std.specs.Prelude.{◌&&◌}
use Rattle.std.specs.Bool.{nat_eq}
use Rattle.std.specs.Ordering.{nat_cmp}
use Rattle.std.specs.Cmp.{unsigned_tied}
use Rattle.std.specs.Cmp.Lexicographic.{bytes_decides}
use Rattle.std.specs.BTreeMap.{BTreeMap, get, is_at}
use Rattle.std.proofs.lemmas.Bool.{eqb-true, eq-eqb}
use Rattle.sv_names.specs.Types.{Path, same_bytes, same_path, position_of}
use Rattle.sv_names.specs.Index.{first_at}
use Rattle.sv_names.specs.Marks.{Marks, marks_of, with_path}
use Rattle.sv_names.proofs.FirstLemmas.{first-stays, first-added}

module _ (index : BTreeMap ℕ ℕ) (ms : List ℕ) (m : ℕ) (is : Marks index ms) where
  exact : (x y : ℕ) → (nat_eq x y ≡ true → x ≡ y) × (x ≡ y → nat_eq x y ≡ true)
  exact x y = (eqb-true x y, eq-eqb x y)

  -- a mark that is known does not change it
  pub mark-stays : is_some (get nat_cmp index m) ≡ true → Marks index (ms ++ m ∷ [])
  mark-stays = first-stays nat_eq exact (get nat_cmp index) ms m is

  -- a new one is found at its position
  pub mark-added : (new : BTreeMap ℕ ℕ) (i : ℕ) → length ms ≡ i → is_some (get nat_cmp index m) ≡ false
      → ((x : ℕ) → get nat_cmp new x ≡ cond (is_at (nat_cmp m) x) (Some i) (get nat_cmp index x)) → Marks new (ms ++ m ∷ [])
  mark-added new i long absent updates =
      first-added nat_eq exact (get nat_cmp index) ms m is (get nat_cmp new) i long absent
      (λ x. updates x ∙ ap (λ b. cond b (Some i) (get nat_cmp index x)) (unsigned_tied m x))

-- ---- look-up

both_true : (a b : Bool) → (a && b) ≡ true → (a ≡ true) × (b ≡ true)
both_true true b e = (refl, e)
both_true false b e = absurd (true≢false (sym e))

same-path : (p q : Path) → same_path p q ≡ true → p ≡ q
same-path [] [] e = refl
same-path [] (y ∷ ys) e = absurd (true≢false (sym e))
same-path (x ∷ xs) [] e = absurd (true≢false (sym e))
same-path (x ∷ xs) (y ∷ ys) e =
    let both = both_true (same_bytes x y) (same_path xs ys) e in
    λ j. (bytes_decides x y).0 both.0 j ∷ same-path xs ys both.1 j

-- the position from the first mark on
abbrev pub from_mark : ℕ → Path → List Path → Option ℕ → ℕ
from_mark k p ps None = k + length ps
from_mark k p ps (Some i) = position_of (k + i) p (drop i ps)

from-suc : (k : ℕ) (p q : Path) (ps : List Path) (r : Option ℕ) → from_mark (k + 1) p ps r ≡ from_mark k p (q ∷ ps) (option_map suc r)
from-suc k p q ps None = omega arith
from-suc k p q ps (Some i) = let e : k + 1 + i ≡ k + suc i = omega arith in ap (λ n. position_of n p (drop i ps)) e

-- a path stands nowhere before it
pub marked-first : (k : ℕ) (p : Path) (ps : List Path) → position_of k p ps ≡ from_mark k p ps (first_at nat_eq (with_path 0 p) (marks_of ps))
marked-first k p [] = omega arith
marked-first k p (q ∷ ps) =
    by (nat_eq (with_path 0 p) (with_path 0 q)) refl (same_path p q) refl (marked-first (k + 1) p ps)
  where
    by : (b : Bool) → nat_eq (with_path 0 p) (with_path 0 q) ≡ b → (s : Bool) → same_path p q ≡ s
        → position_of (k + 1) p ps ≡ from_mark (k + 1) p ps (first_at nat_eq (with_path 0 p) (marks_of ps))
        → position_of k p (q ∷ ps) ≡ from_mark k p (q ∷ ps) (cond b (Some 0) (option_map suc (first_at nat_eq (with_path 0 p) (marks_of ps))))
    by true e s f more = let z : k ≡ k + 0 = omega arith in ap (λ n. position_of n p (q ∷ ps)) z
    by false e true f more = absurd (true≢false (sym (eq-eqb (with_path 0 p) (with_path 0 q) (ap (with_path 0) (same-path p q f))) ∙ e))
    by false e false f more =
        ap (λ b. cond b k (position_of (k + 1) p ps)) f ∙ more ∙ from-suc k p q ps (first_at nat_eq (with_path 0 p) (marks_of ps))

-- the position from the first mark on, from the beginning
abbrev pub from_first : Path → List Path → Option ℕ → ℕ
from_first p ps None = length ps
from_first p ps (Some i) = position_of i p (drop i ps)

from-first : (p : Path) (ps : List Path) (r : Option ℕ) → from_first p ps r ≡ from_mark 0 p ps r
from-first p ps None = omega arith
from-first p ps (Some i) = let e : i ≡ 0 + i = omega arith in ap (λ n. position_of n p (drop i ps)) e

-- so it is found from there
pub found-from : (index : BTreeMap ℕ ℕ) (p : Path) (ps : List Path) → Marks index (marks_of ps) → (m : ℕ) (r : Option ℕ)
    → m ≡ with_path 0 p → r ≡ get nat_cmp index m → from_first p ps r ≡ position_of 0 p ps
found-from index p ps is m r mark found =
    from-first p ps r ∙ ap (from_mark 0 p ps) (found ∙ is m ∙ ap (λ n. first_at nat_eq n (marks_of ps)) mark) ∙ sym (marked-first 0 p ps)
