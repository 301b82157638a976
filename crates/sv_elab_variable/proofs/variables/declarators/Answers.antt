use Rattle.std.proofs.Common.{map, sym, subst}
use Rattle.sv_tree.specs.StmtView as view
use Rattle.sv_names.specs.declared.checked.Checked.{Checked}
use Rattle.sv_names.specs.declared.checked.Checked.TheVariants.{Good}
use Rattle.sv_names.specs.Blocks.{declarator_code, declarators_code, in_sequence}
use Rattle.sv_names.specs.Code.{Code, empty}
use Rattle.sv_names.specs.Emits.{Emits}
use Rattle.sv_names.specs.Views.{around_in}
use Rattle.sv_elab_flow.proofs.Grouped.{none_first}
use Rattle.sv_elab_variable.proofs.ListLaws.{variable_next, variables_all}
use Rattle.sv_elab_variable.proofs.variables.declarators.Goals as goal

pub loop-one-init : goal.loop-one-init
loop-one-init c = (
  Good empty,
  (λ rs. c.nothing-done.ensures rs c.args.objects.now),
  none_first (declarators_code (around_in c.args.around.now) c.args.life (map view.declarator c.args.names.now)),
)

pub loop-one-preserved : goal.loop-one-preserved
loop-one-preserved c =
    let ar = around_in c.args.around.now in
    let whole = declarators_code ar c.args.life (map view.declarator c.args.names.now) in
    let before = c.loop-one.invariant.0 in
    let next = declarator_code ar c.args.life (view.declarator c.one-item.result) in (
      in_sequence before next,
      (λ rs. c.in_sequence-done.ensures rs rs rs c.args.objects.now c.loop-one.objects c.declarator-made.new.objects before next
          (c.loop-one.invariant.1 rs) (c.declarator-made.ensures rs)),
      variable_next ar c.args.life c.args.names.now c.loop-one.one-index c.one-item.result before whole c.loop-one-test.true (sym c.one-item.is)
          c.loop-one.invariant.2,
    )

pub returns : goal.returns
returns c = λ rs.
    let ar = around_in c.args.around.now in
    let whole = declarators_code ar c.args.life (map view.declarator c.args.names.now) in
    subst (λ (w : Checked Code). Emits rs rs c.args.objects.now c.loop-one.objects c.loop-one.done w)
    (variables_all ar c.args.life c.args.names.now c.loop-one.one-index c.loop-one.invariant.0 whole c.loop-one-test.false c.loop-one.invariant.2)
    (c.loop-one.invariant.1 rs)
