use Rattle.std.proofs.Common.{subst, sym}
use Rattle.sv_names.specs.Given.{GivesAs}
use Rattle.sv_names.specs.Views.{around_in}
use Rattle.sv_elab_name.specs.Things.{thing_in}
use Rattle.sv_elab_name.proofs.MemberLaws.{value_other}
use Rattle.sv_elab_name.proofs.suffixes.value_member.Goals as goal

pub returns-in_default : goal.returns-in_default
returns-in_default c =
    subst (λ r. GivesAs thing_in c.method_member.result r) (sym (value_other (around_in c.args.around.now) c.args.name.now c.args.object c.args.object.ty c.in_default.not-Class)) c.method_member.ensures
