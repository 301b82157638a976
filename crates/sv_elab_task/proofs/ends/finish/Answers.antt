use Rattle.std.proofs.Common.{◌<◌, List, length, subst}
use Rattle.sv_flat.specs.declared.stmt.Form.{Form}
use Rattle.sv_names.specs.declared.argument.Arg.{Arg}
use Rattle.sv_names.specs.declared.checked.Checked.{Checked}
use Rattle.sv_names.specs.declared.hoisted.Hoisted.{Hoisted}
use Rattle.sv_names.specs.Given.{Gives}
use Rattle.sv_elab_task.specs.Tasks.{refused}
use Rattle.sv_elab_task.proofs.TaskLaws.{several_finish}
use Rattle.sv_elab_task.proofs.ends.finish.Goals as goal

pub returns-then-as_slice-gt1 : goal.returns-then-as_slice-gt1
returns-then-as_slice-gt1 c =
    let as' = c.args.args in
    subst (λ (x : Checked (Hoisted Form)). Gives c.refused.result x)
    (several_finish c.args.at as' (subst (λ (xs : List Arg). 1 < length xs) c.as_slice.ensures c.if-as_slice-gt1.true))
    (subst (λ (xs : List Arg). Gives c.refused.result (refused 31 c.args.at xs)) c.as_slice-then-as_slice-gt1.ensures c.refused.ensures)
