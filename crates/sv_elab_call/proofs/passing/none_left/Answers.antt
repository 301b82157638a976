use Rattle.std.proofs.Common.{refl, subst}
use Rattle.sv_names.specs.declared.checked.Checked.{Checked}
use Rattle.sv_names.specs.Arguments.{values_stand}
use Rattle.sv_names.specs.Checked.{broken_at}
use Rattle.sv_names.specs.Given.{Gives}
use Rattle.sv_elab_call.proofs.PassingLaws.{some_left}
use Rattle.sv_elab_call.proofs.passing.none_left.Goals as goal

pub returns-in-len1-up : goal.returns-in-len1-up
returns-in-len1-up c =
    subst (λ (x : Checked (Unit {0})). Gives c.where_also.result x) (some_left c.args.at c.args.args.now c.in-len1-up.len_at_least)
    (c.where_also.ensures (broken_at 31 c.args.at) (values_stand c.args.args.now) refl c.values_stand.ensures)
