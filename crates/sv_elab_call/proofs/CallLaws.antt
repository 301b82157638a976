-- What is called, form by form.
use Rattle.std.proofs.Common.{◌≡◌, Bool, List, refl}
use Rattle.sv_flat.specs.declared.call.Argument.{Argument}
use Rattle.sv_flat.specs.Expr as flat
use Rattle.sv_names.specs.declared.named.Callee.{Callee}
use Rattle.sv_names.specs.declared.ty.Ty.{Ty}
use Rattle.sv_names.specs.declared.ty.Ty.TheVariants.{Class}
use Rattle.sv_names.specs.Calls.{method_form}
use Rattle.sv_names.specs.Named.{Around}
use Rattle.sv_names.specs.Types.{Path}
use Rattle.sv_elab_call.specs.Forms.{named_method}

-- what is no object of a class has no virtual methods
pub method_other : (ar : Around) (c : Callee) (direct : Bool) (t : Ty) (o : flat.Expr) (as' : List Argument)
    → ((p : Path) → t ≡ Class p → ⊥) → named_method ar c o as' ≡ method_form ar c direct t o as'
method_other ar c direct (Class p) o as' other = absurd (other p refl)
method_other ar c direct t o as' other = refl
