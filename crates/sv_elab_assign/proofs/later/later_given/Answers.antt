use Rattle.std.proofs.Common.{List, subst, ap, ◌∙◌}
use Rattle.sv_flat.specs.declared.stmt.Form.{Form}
use Rattle.sv_names.specs.declared.checked.Checked.{Checked}
use Rattle.sv_names.specs.declared.hoisted.Hoisted.{Hoisted}
use Rattle.sv_names.specs.Assignments.{begin_of}
use Rattle.sv_names.specs.Given.{Gives}
use Rattle.sv_names.specs.Targets.{Spot}
use Rattle.sv_names.specs.Views.{around_in}
use Rattle.sv_elab_assign.specs.Amounts.{amount_if}
use Rattle.sv_elab_assign.specs.Forms.{later_by, signal_of}
use Rattle.sv_elab_assign.proofs.TargetLaws.{later_is}
use Rattle.sv_elab_assign.proofs.later.later_given.Goals as goal

pub returns : goal.returns
returns c =
    let ar = around_in c.args.around.now in
    let d = amount_if c.args.amount in
    let ss = c.args.spots in
    subst (λ (x : Checked (Hoisted Form)). Gives c.later_by.result x)
    (ap (later_by ar d c.args.at ss c.args.value)
    (c.signal_of_target-signal.ensures ∙ ap (λ (qs : List Spot). signal_of ar (begin_of qs)) c.as_slice.ensures)
    ∙ later_is ar d c.args.at ss c.args.value (begin_of ss))
    c.later_by.ensures
