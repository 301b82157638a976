use Rattle.std.proofs.Common.{◌≡◌, map, Option, IfOk, subst}
use Rattle.sv_names.specs.declared.ty.Ty.{Ty}
use Rattle.sv_elab_value.proofs.References.{plain_reference}
use Rattle.sv_elab_value.proofs.fits.common_reference.Goals as goal

pub returns-in_default-b-2 : goal.returns-in_default-b-2
returns-in_default-b-2 c =
    subst (λ (u : Option Ty). IfOk c.one_type-in_default-b-2.result (λ t. t ≡ u))
    (plain_reference (map (λ k. k.now) c.args.classes.now) c.args.a.now c.args.b.now c.in_default.not-Null c.in_default.not-Class c.in_default-b-2.not-Null)
    c.one_type-in_default-b-2.ensures
