-- Types that are one enum have one integral type.
use Rattle.std.proofs.Common.{◌≡◌, ℕ, Bool, true, false, true≢false, ◌&&◌, List, [], ◌∷◌, refl, ap, ap₂, sym, ◌∙◌, ◌==◌}
use Rattle.std.specs.Cmp.Lexicographic.{bytes_decides}
use Rattle.std.proofs.lemmas.Bool.Decides.{Decides-eqb}
use Rattle.sv_value.specs.declared.place.Place.{Place}
use Rattle.sv_value.specs.declared.val.Integral.{Integral}
use Rattle.sv_names.specs.declared.ty.Ty.{Ty}
use Rattle.sv_names.specs.declared.ty.Ty.TheVariants.{Enum}
use Rattle.sv_names.specs.Checked.{same_place}
use Rattle.sv_names.specs.Types.{Path, same_bytes, same_path, same_enum, width_of_type, sign_of_type}
use Rattle.sv_elab_laws.specs.Fits.{Enums, IsType}

-- both parts of a test
pub and_first : (a b : Bool) → (a && b) ≡ true → a ≡ true
and_first true b h = refl
and_first false b h = h

pub and_second : (a b : Bool) → (a && b) ≡ true → b ≡ true
and_second true b h = h
and_second false b h = absurd (true≢false (sym h))

path_is : (p q : Path) → same_path p q ≡ true → p ≡ q
path_is [] [] h = refl
path_is [] (y ∷ ys) h = absurd (true≢false (sym h))
path_is (x ∷ xs) [] h = absurd (true≢false (sym h))
path_is (x ∷ xs) (y ∷ ys) h =
    ap₂ (λ (z : List ℕ) (zs : Path). z ∷ zs) ((bytes_decides x y).0 (and_first (same_bytes x y) (same_path xs ys) h))
    (path_is xs ys (and_second (same_bytes x y) (same_path xs ys) h))

place_is : (p q : Place) → same_place p q ≡ true → p ≡ q
place_is p q h =
    let first : ((p.file == q.file) && (p.line == q.line)) ≡ true = and_first _ _ h in
    let file : p.file ≡ q.file = (Decides-eqb p.file q.file).0 (and_first _ _ first) in
    let line : p.line ≡ q.line = (Decides-eqb p.line q.line).0 (and_second _ _ first) in
    let col : p.col ≡ q.col = (Decides-eqb p.col q.col).0 (and_second ((p.file == q.file) && (p.line == q.line)) _ h) in
    λ i. record { file = file i; line = line i; col = col i }

-- two integral types
pub record Alike (a b : Ty) : Type 0 where
  pub width : width_of_type a ≡ width_of_type b
  pub sign : sign_of_type a ≡ sign_of_type b

alike : (enums : Enums) (s s' : Path) (at at' : Place) (t t' : Integral) → t ≡ enums s at → t' ≡ enums s' at' → s ≡ s' → at ≡ at' → t ≡ t'
alike enums s s' at at' t t' h k same there = h ∙ ap₂ enums same there ∙ sym k

pub enum_alike : (enums : Enums) (a b : Ty) → IsType enums a → IsType enums b → same_enum a b ≡ true → Alike a b
enum_alike enums (Enum s at t b w) (Enum s' at' t' b' w') h k is =
    let one : t ≡ t' = alike enums s s' at at' t t' h k (path_is s s' (and_first _ _ is)) (place_is at at' (and_second (same_path s s') _ is)) in
    record { width = ap (λ (i : Integral). i.width) one; sign = ap (λ (i : Integral). i.signed) one }
enum_alike enums a b h k is = absurd (true≢false (sym is))
