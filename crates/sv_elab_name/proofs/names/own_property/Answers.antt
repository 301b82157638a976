use Rattle.std.proofs.Common.{false, subst, Option}
use Rattle.sv_names.specs.declared.named.Named.TheVariants.{Property}
use Rattle.sv_names.specs.declared.typed.Typed.{Typed}
use Rattle.sv_names.specs.Given.{GivesAs}
use Rattle.sv_names.specs.Things.{member_thing}
use Rattle.sv_names.specs.Views.{around_in}
use Rattle.sv_elab_name.specs.Things.{thing_in}
use Rattle.sv_elab_name.proofs.names.own_property.Goals as goal

pub returns : goal.returns
returns c =
    subst
    (λ (o : Option Typed). GivesAs thing_in c.property.result
    (member_thing (around_in c.args.around.now) c.args.at o false (Property c.args.class.now c.args.protection c.args.name.now c.args.ty.now)))
    c.in_ok-object.ensures.ok (c.property.ensures false)
