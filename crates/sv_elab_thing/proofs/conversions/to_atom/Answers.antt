use Rattle.std.proofs.Common.{false, subst}
use Rattle.std.specs.Prelude.{Option}
use Rattle.sv_value.specs.declared.val.Integral.{Integral}
use Rattle.sv_flat.specs.declared.object.Bounds.{Bounds}
use Rattle.sv_names.specs.declared.ty.Ty.{Ty}
use Rattle.sv_names.specs.declared.ty.Ty.TheVariants as ty
use Rattle.sv_names.specs.Checked.{◌▷◌}
use Rattle.sv_names.specs.Operators as operators
use Rattle.sv_names.specs.Types as types
use Rattle.sv_names.specs.Given.{Gives}
use Rattle.sv_elab_thing.proofs.conversions.to_atom.Goals as goal

pub returns : goal.returns
returns c ar x h =
    let P : Ty → Type 0 = λ t. Gives c.cast_number.result (x ▷ operators.cast_to ar t c.args.place c.args.at) in
    let to = c.atom_type-to.result in
    subst (λ (i : Integral). P (ty.Vector i (types.whole i.width) false)) c.atom_type-to.ensures
    (subst (λ (b : Option Bounds). P (ty.Vector to b false)) c.whole.ensures (c.cast_number.ensures ar x h))
