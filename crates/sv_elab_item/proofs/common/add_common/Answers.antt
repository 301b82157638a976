-- An item by its form.
use Rattle.std.proofs.Common.{sym, subst}
use Rattle.sv_tree.specs.declared.unit.Item.{Item}
use Rattle.sv_tree.specs.declared.unit.Routine.{Routine}
use Rattle.sv_tree.specs.UnitView.{item}
use Rattle.sv_names.specs.Items.{nothing, common_parts}
use Rattle.sv_names.specs.Views.{around_in}
use Rattle.sv_elab_parts.specs.Adding.{Adding}
use Rattle.sv_elab_plain.specs.Parts.{routine_at}
use Rattle.sv_elab_plain.proofs.CommonLaws.{nothing_added}
use Rattle.sv_elab_item.proofs.ItemLaws.{other_common}
use Rattle.sv_elab_item.proofs.common.add_common.Goals as goal

pub returns-in-Routine : goal.returns-in-Routine
returns-in-Routine c =
    let ar = around_in c.args.around.now in
    let x = c.args.so_far.now in
    let y = c.add_routine.new.so_far in
    subst (λ (i : Item). Adding x y c.add_routine.result (common_parts ar c.args.path.now (item i))) (sym c.in-Routine.is)
    (subst (λ (r : Routine). Adding x y c.add_routine.result (routine_at ar c.args.path.now r)) c.deref-in-Routine.ensures c.add_routine.ensures)

pub returns-in_default : goal.returns-in_default
returns-in_default c = (
  nothing,
  other_common (around_in c.args.around.now) c.args.path.now c.args.one.now c.in_default.not-Class c.in_default.not-Routine,
  nothing_added c.args.so_far.now,
)
