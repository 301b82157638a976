-- The slots of a class are those of its base, and its own.
use Rattle.std.proofs.Common.{◌≡◌, ℕ, zero, suc, ◌<◌, ◌-◌, Bool, true, false, List, [], ◌∷◌, Option, Some, None, refl, ap, arith, if◌then◌else◌}
use Rattle.sv_names.specs.declared.around.ClassInfo.{ClassInfo}
use Rattle.sv_names.specs.Groups as groups
use Rattle.sv_names.specs.Groups.{Head, slots_known, slots_of, slots_over, over_base, base_in}
use Rattle.sv_names.specs.Named.{class_in}
use Rattle.sv_names.specs.Types.{Path, same_path}

-- the slots of a class that may not be known
abbrev pub slots_in : Option ClassInfo → List (List ℕ)
slots_in None = []
slots_in (Some k) = k.slots

known_if : (k : ClassInfo) (x : List (List ℕ)) (y : Option ClassInfo) → x ≡ slots_in y → (b : Bool)
    → (if b then k.slots else x) ≡ slots_in (if b then Some k else y)
known_if k x y is true = refl
known_if k x y is false = is

pub known_is : (ks : List ClassInfo) (p : Path) → slots_known ks p ≡ slots_in (class_in ks p)
known_is [] p = refl
known_is (k ∷ ks) p = known_if k (slots_known ks p) (class_in ks p) (known_is ks p) (same_path p k.path)

-- one class further
pub slots_step : (n : ℕ) (ks : List ClassInfo) (hs : List Head) (p : Path) → 0 < n
    → slots_of n ks hs (Some p)
    ≡ over_base (λ h. slots_over (slots_of (n - 1) ks hs (base_in hs h)) h.tree.items) (slots_known ks p) (groups.head_in p hs)
slots_step zero ks hs p some = absurd (omega arith)
slots_step (suc n) ks hs p some =
    let e : n ≡ suc n - 1 = omega arith in
    ap (λ m. over_base (λ h. slots_over (slots_of m ks hs (base_in hs h)) h.tree.items) (slots_known ks p) (groups.head_in p hs)) e

-- where there is none
pub slots_none : (n : ℕ) (ks : List ClassInfo) (hs : List Head) → slots_of n ks hs None ≡ []
slots_none zero ks hs = refl
slots_none (suc n) ks hs = refl

pub slots_zero : (ks : List ClassInfo) (hs : List Head) (p : Option Path) → slots_of 0 ks hs p ≡ []
slots_zero ks hs p = refl
