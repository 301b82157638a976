use Rattle.std.proofs.Common.{subst}
use Rattle.sv_names.specs.declared.checked.Checked.{Checked}
use Rattle.sv_names.specs.declared.typed.Typed.{Typed}
use Rattle.sv_names.specs.Views.{around_in, meaning_in}
use Rattle.sv_names.specs.Given.{Gives}
use Rattle.sv_elab_thing.specs.Casts.{width_named}
use Rattle.sv_elab_thing.proofs.CastLaws.{other_named}
use Rattle.sv_elab_thing.proofs.conversions.by_meaning.Goals as goal

pub returns-in_default : goal.returns-in_default
returns-in_default c x h =
    let ar = around_in c.args.around.now in
    let m = c.args.meaning in
    subst (λ (r : Checked Typed). Gives c.sized_by.result r)
    (other_named ar c.args.place c.args.written c.args.at m.up m.place m.named.now x c.in_default.not-TypeName c.in_default.not-ClassName)
    (c.sized_by.ensures (width_named ar c.args.written (meaning_in m)) x c.width_named-width.ensures h)
