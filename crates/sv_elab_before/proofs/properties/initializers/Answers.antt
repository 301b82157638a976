-- One item after another.
use Rattle.std.proofs.Common.{map, sym, subst}
use Rattle.sv_tree.specs.UnitView.{class_item}
use Rattle.sv_names.specs.declared.checked.Checked.{Checked}
use Rattle.sv_names.specs.declared.checked.Checked.TheVariants.{Good}
use Rattle.sv_names.specs.Blocks.{in_sequence}
use Rattle.sv_names.specs.Code.{Code, empty}
use Rattle.sv_names.specs.Emits.{Emits}
use Rattle.sv_names.specs.Subroutines.{initializers}
use Rattle.sv_names.specs.Views.{around_in}
use Rattle.sv_elab_flow.proofs.Grouped.{none_first}
use Rattle.sv_elab_before.specs.Properties.{item_code}
use Rattle.sv_elab_before.proofs.PropertyLaws.{item_next, items_all}
use Rattle.sv_elab_before.proofs.properties.initializers.Goals as goal

pub loop-item-init : goal.loop-item-init
loop-item-init c = (
  Good empty,
  (λ rs os. c.nothing-done.ensures rs os),
  none_first (initializers (around_in c.args.around.now) c.args.class.now (map class_item c.args.items.now)),
)

pub loop-item-preserved : goal.loop-item-preserved
loop-item-preserved c =
    let ar = around_in c.args.around.now in
    let k = c.args.class.now in
    let whole = initializers ar k (map class_item c.args.items.now) in
    let before = c.loop-item.invariant.0 in
    let next = item_code ar k (class_item c.item-item.result) in (
      in_sequence before next,
      (λ rs os. c.in_sequence-done.ensures rs rs rs os os os before next (c.loop-item.invariant.1 rs os) (c.item_code-made.ensures rs os)),
      item_next ar k c.args.items.now c.loop-item.item-index c.item-item.result before whole c.loop-item-test.true (sym c.item-item.is)
          c.loop-item.invariant.2,
    )

pub returns : goal.returns
returns c = λ rs os.
    let ar = around_in c.args.around.now in
    let k = c.args.class.now in
    let whole = initializers ar k (map class_item c.args.items.now) in
    subst (λ (w : Checked Code). Emits rs rs os os c.loop-item.done w)
    (items_all ar k c.args.items.now c.loop-item.item-index c.loop-item.invariant.0 whole c.loop-item-test.false c.loop-item.invariant.2)
    (c.loop-item.invariant.1 rs os)
