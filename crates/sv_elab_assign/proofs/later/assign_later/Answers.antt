use Rattle.std.proofs.Common.{subst}
use Rattle.sv_flat.specs.declared.stmt.Form.{Form}
use Rattle.sv_names.specs.declared.checked.Checked.{Checked}
use Rattle.sv_names.specs.declared.hoisted.Hoisted.{Hoisted}
use Rattle.sv_names.specs.Assignments.{no_container}
use Rattle.sv_names.specs.Checked.{given}
use Rattle.sv_names.specs.Given.{Gives}
use Rattle.sv_names.specs.Views.{around_in}
use Rattle.sv_elab_assign.specs.Amounts.{amount_if}
use Rattle.sv_elab_assign.specs.Wholes.{later_parts}
use Rattle.sv_elab_assign.proofs.WholeLaws.{later_whole}
use Rattle.sv_elab_assign.proofs.later.assign_later.Goals as goal

pub returns : goal.returns
returns c e place is =
    let ar = around_in c.args.around.now in
    let parts = c.both_parts-parts.result in
    subst (λ (x : Checked (Hoisted Form)). Gives c.where_also.result x)
    (later_whole ar c.args.target (given amount_if c.args.amount) parts e c.args.at c.args.value c.both_parts-parts.ensures place is)
    (c.where_also.ensures (later_parts ar c.args.at parts c.args.value) (no_container c.args.target) c.later_parts.ensures c.no_container-stands.ensures)
