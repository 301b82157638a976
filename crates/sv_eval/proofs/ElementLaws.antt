-- Elements of fixed arrays.
use Rattle.std.proofs.Common.{◌≡◌, ℕ, ℤ, Option, Some, None, refl}
use Rattle.sv_value.specs.declared.val.Val.{Val}
use Rattle.sv_value.specs.declared.val.Plain.{Plain}
use Rattle.sv_flat.specs.declared.object.Bounds.{Bounds}
use Rattle.sv_flat.specs.Eval.{element}
use Rattle.sv_eval.specs.Evaluates.{place_at, value_or_initial}

-- an element by its place
pub element_is : (t : Plain) (read : ℕ → Val) (b : Bounds) (i : Option ℤ) (p : Option ℕ) → place_at b i ≡ p → element t read b i ≡ value_or_initial t read p
element_is t read b None None h = refl
element_is t read b None (Some n) h = cc
element_is t read b (Some i) None h = rw h refl
element_is t read b (Some i) (Some n) h = rw h refl
