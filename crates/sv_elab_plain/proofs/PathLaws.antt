-- Paths that are compared.
use Rattle.std.proofs.Common.{◌≡◌, ◌∙◌, ℕ, Bool, true, false, true≢false, ◌&&◌, List, [], ◌∷◌, Option, Some, None, if◌then◌else◌, refl, ap, ap₂, sym, subst}
use Rattle.std.specs.Cmp.Lexicographic.{bytes_decides}
use Rattle.sv_names.specs.declared.around.ClassInfo.{ClassInfo}
use Rattle.sv_names.specs.Named.{class_in}
use Rattle.sv_names.specs.Types.{Path, same_bytes, same_path}

and_first : (a b : Bool) → (a && b) ≡ true → a ≡ true
and_first true b h = refl
and_first false b h = h

and_second : (a b : Bool) → (a && b) ≡ true → b ≡ true
and_second true b h = h
and_second false b h = absurd (true≢false (sym h))

-- paths that are the same
pub path_is : (p q : Path) → same_path p q ≡ true → p ≡ q
path_is [] [] h = refl
path_is [] (y ∷ ys) h = absurd (true≢false (sym h))
path_is (x ∷ xs) [] h = absurd (true≢false (sym h))
path_is (x ∷ xs) (y ∷ ys) h =
    ap₂ (λ (z : List ℕ) (zs : Path). z ∷ zs) ((bytes_decides x y).0 (and_first (same_bytes x y) (same_path xs ys) h))
    (path_is xs ys (and_second (same_bytes x y) (same_path xs ys) h))

-- whether there is nothing
abbrev IsNothing : {A : Type 0} → Option A → Type 0
IsNothing None = Unit {0}
IsNothing (Some a) = ⊥

-- what is there, or another one
abbrev kept_or : {A : Type 0} → A → Option A → A
kept_or a None = a
kept_or a (Some b) = b

-- the path of a class that is found
pub class_there : (p : Path) (ks : List ClassInfo) (k : ClassInfo) → class_in ks p ≡ Some k → k.path ≡ p
class_there p [] k h = absurd (subst (λ (o : Option ClassInfo). IsNothing o) h tt)
class_there p (c ∷ cs) k h = by (λ found. class_there p cs k found) (same_path p c.path) refl
  where
    by : (class_in cs p ≡ Some k → k.path ≡ p) → (b : Bool) → same_path p c.path ≡ b → k.path ≡ p
    by go true e =
        let found : Some c ≡ Some k = sym (ap (λ (b : Bool). if b then Some c else class_in cs p) e) ∙ h in
        sym (ap (λ (q : ClassInfo). q.path) (ap (kept_or c) found)) ∙ sym (path_is p c.path e)
    by go false e = go (sym (ap (λ (b : Bool). if b then Some c else class_in cs p) e) ∙ h)
