use Rattle.std.proofs.Common.{refl, subst}
use Rattle.sv_names.specs.declared.checked.Checked.{Checked}
use Rattle.sv_names.specs.Arguments.{values_stand}
use Rattle.sv_names.specs.Checked.{broken_at}
use Rattle.sv_names.specs.Given.{Gives}
use Rattle.sv_elab_step.proofs.SystemLaws.{some_given}
use Rattle.sv_elab_step.proofs.system.none_of.Goals as goal

pub returns-in_default : goal.returns-in_default
returns-in_default c =
    subst (λ (x : Checked (Unit {0})). Gives c.where_also.result x) (some_given c.args.at c.args.args.now c.in_default.len_at_least)
    (c.where_also.ensures (broken_at {A = Unit {0}} 31 c.args.at) (values_stand c.args.args.now) refl c.values_stand.ensures)
