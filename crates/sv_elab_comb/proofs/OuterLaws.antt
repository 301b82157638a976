-- The path of what stands around.
use Rattle.std.proofs.Common.{◌≡◌, suc, ◌-◌, Bool, true, false, List, [], ◌∷◌, ◌++◌, length, take, refl, sym, ap, ◌∙◌, arith}
use Rattle.std.specs.Prelude.{◌||◌}
use Rattle.sv_flat.specs.declared.design.Instance.{Instance}
use Rattle.sv_names.specs.Types.{Path, same_path}
use Rattle.sv_names.specs.Design.{without_last, is_path_of}

-- all but the last
pub without_of : (p : Path) → take (length p - 1) p ≡ without_last p
without_of [] = refl
without_of (x ∷ []) = refl
without_of (x ∷ y ∷ p) =
    let more : length (x ∷ y ∷ p) - 1 ≡ suc (length (y ∷ p) - 1) = omega arith in
    ap (λ n. take n (x ∷ y ∷ p)) more ∙ ap (λ l. x ∷ l) (without_of (y ∷ p))

-- ---- instances in two lists

-- a path of one of them
of_both : (p : Path) (xs ys : List Instance) → is_path_of p (xs ++ ys) ≡ (is_path_of p xs || is_path_of p ys)
of_both p [] ys = refl
of_both p (x ∷ xs) ys = ap (λ q. same_path p x.path || q) (of_both p xs ys) ∙ by (same_path p x.path)
  where
    by : (b : Bool) → (b || (is_path_of p xs || is_path_of p ys)) ≡ ((b || is_path_of p xs) || is_path_of p ys)
    by true = refl
    by false = refl

-- it is found in the second list
pub found_behind : (p : Path) (all xs ys : List Instance) → all ≡ xs ++ ys → true ≡ is_path_of p ys → true ≡ is_path_of p all
found_behind p all xs ys both is =
    sym (ap (is_path_of p) both ∙ of_both p xs ys ∙ ap (λ q. is_path_of p xs || q) (sym is) ∙ by (is_path_of p xs))
  where
    by : (b : Bool) → (b || true) ≡ true
    by true = refl
    by false = refl

-- or in the first one
pub found_before : (p : Path) (all xs ys : List Instance) → all ≡ xs ++ ys → true ≡ is_path_of p xs → true ≡ is_path_of p all
found_before p all xs ys both is = sym (ap (is_path_of p) both ∙ of_both p xs ys ∙ ap (λ q. q || is_path_of p ys) (sym is))

-- or in none
pub found_nowhere : (p : Path) (all xs ys : List Instance) → all ≡ xs ++ ys → false ≡ is_path_of p xs → false ≡ is_path_of p ys
    → false ≡ is_path_of p all
found_nowhere p all xs ys both before behind =
    sym (ap (is_path_of p) both ∙ of_both p xs ys ∙ (λ i. sym before i || sym behind i))
