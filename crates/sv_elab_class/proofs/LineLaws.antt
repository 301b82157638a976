-- The bases of classes, one after the other.
use Rattle.std.proofs.Common.{◌≡◌, ℕ, zero, suc, ◌<◌, ◌-◌, ◌||◌, Bool, true, false, List, [], ◌∷◌, Option, Some, None, refl, ap, arith, length, map, if◌then◌else◌}
use Rattle.std.proofs.lemmas.List.{length-map}
use Rattle.sv_names.specs.Groups as groups
use Rattle.sv_names.specs.Groups.{Head, raw_of, is_met}
use Rattle.sv_names.specs.Types.{Path, same_path}
use Rattle.sv_elab_class.specs.Heads.{head_in}
use Rattle.sv_elab_class.specs.declared.heads.ClassHead.{ClassHead}

-- the base that is written, of a class that may not be there
abbrev pub raw_in : Option Head → Option Path
raw_in None = None
raw_in (Some h) = h.raw

raw_if : (h : Head) (x : Option Path) (y : Option Head) → x ≡ raw_in y → (b : Bool)
    → (if b then h.raw else x) ≡ raw_in (if b then Some h else y)
raw_if h x y is true = refl
raw_if h x y is false = is

-- the base of the class with a path
pub raw_is : (p : Path) (hs : List Head) → raw_of p hs ≡ raw_in (groups.head_in p hs)
raw_is p [] = refl
raw_is p (h ∷ hs) = raw_if h (raw_of p hs) (groups.head_in p hs) (raw_is p hs) (same_path p h.path)

-- one class further
pub met_step : (n : ℕ) (hs : List Head) (p q : Path) → 0 < n → is_met n hs p (Some q) ≡ (same_path p q || is_met (n - 1) hs p (raw_of q hs))
met_step zero hs p q some = absurd (omega arith)
met_step (suc n) hs p q some = let e : n ≡ suc n - 1 = omega arith in ap (λ m. same_path p q || is_met m hs p (raw_of q hs)) e

-- where there is none
pub met_none : (n : ℕ) (hs : List Head) (p : Path) → is_met n hs p None ≡ false
met_none zero hs p = refl
met_none (suc n) hs p = refl

-- as many as there are heads
pub as_many : (hs : List ClassHead) → length (map head_in hs) ≡ length hs
as_many hs = simp length-map
