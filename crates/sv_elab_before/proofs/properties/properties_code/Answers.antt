-- One property after another.
use Rattle.std.proofs.Common.{map, sym, subst}
use Rattle.sv_tree.specs.StmtView.{declarator}
use Rattle.sv_names.specs.declared.checked.Checked.{Checked}
use Rattle.sv_names.specs.declared.checked.Checked.TheVariants.{Good}
use Rattle.sv_names.specs.Blocks.{in_sequence}
use Rattle.sv_names.specs.Code.{Code, empty}
use Rattle.sv_names.specs.Emits.{Emits}
use Rattle.sv_names.specs.Subroutines.{property_code, properties_code}
use Rattle.sv_names.specs.Views.{around_in}
use Rattle.sv_elab_flow.proofs.Grouped.{none_first}
use Rattle.sv_elab_before.proofs.PropertyLaws.{property_next, properties_all}
use Rattle.sv_elab_before.proofs.properties.properties_code.Goals as goal

pub loop-one-init : goal.loop-one-init
loop-one-init c = (
  Good empty,
  (λ rs os. c.nothing-done.ensures rs os),
  none_first (properties_code (around_in c.args.around.now) c.args.class.now (map declarator c.args.names.now)),
)

pub loop-one-preserved : goal.loop-one-preserved
loop-one-preserved c =
    let ar = around_in c.args.around.now in
    let k = c.args.class.now in
    let whole = properties_code ar k (map declarator c.args.names.now) in
    let before = c.loop-one.invariant.0 in
    let next = property_code ar k (declarator c.one-item.result) in (
      in_sequence before next,
      (λ rs os. c.in_sequence-done.ensures rs rs rs os os os before next (c.loop-one.invariant.1 rs os) (c.property_code-made.ensures rs os)),
      property_next ar k c.args.names.now c.loop-one.one-index c.one-item.result before whole c.loop-one-test.true (sym c.one-item.is)
          c.loop-one.invariant.2,
    )

pub returns : goal.returns
returns c = λ rs os.
    let ar = around_in c.args.around.now in
    let k = c.args.class.now in
    let whole = properties_code ar k (map declarator c.args.names.now) in
    subst (λ (w : Checked Code). Emits rs rs os os c.loop-one.done w)
    (properties_all ar k c.args.names.now c.loop-one.one-index c.loop-one.invariant.0 whole c.loop-one-test.false c.loop-one.invariant.2)
    (c.loop-one.invariant.1 rs os)
