use Rattle.std.proofs.Common.{List, map, sym, subst}
use Rattle.sv_tree.specs.declared.statement.Declarator.{Declarator}
use Rattle.sv_tree.specs.StmtView as view
use Rattle.sv_names.specs.declared.checked.Checked.{Checked}
use Rattle.sv_names.specs.declared.checked.Checked.TheVariants.{Good}
use Rattle.sv_names.specs.Blocks.{declarators_code, decls_code, in_sequence}
use Rattle.sv_names.specs.Code.{Code, empty}
use Rattle.sv_names.specs.Emits.{Emits}
use Rattle.sv_names.specs.Views.{around_in}
use Rattle.sv_elab_flow.proofs.Grouped.{none_first}
use Rattle.sv_elab_variable.proofs.ListLaws.{decl_next, decls_all}
use Rattle.sv_elab_variable.proofs.variables.declarations.Goals as goal

pub loop-one-init : goal.loop-one-init
loop-one-init c = (
  Good empty,
  (λ rs. c.nothing-done.ensures rs c.args.objects.now),
  none_first (decls_code (around_in c.args.around.now) (map view.decl c.args.declared.now)),
)

pub loop-one-preserved : goal.loop-one-preserved
loop-one-preserved c =
    let ar = around_in c.args.around.now in
    let whole = decls_code ar (map view.decl c.args.declared.now) in
    let before = c.loop-one.invariant.0 in
    let of : List Declarator → Checked Code = λ xs. declarators_code ar c.one-item.result.life (map view.declarator xs) in
    let next = of c.one-item.result.names.items in (
      in_sequence before next,
      (λ rs. c.in_sequence-done.ensures rs rs rs c.args.objects.now c.loop-one.objects c.declarators-made.new.objects before next
          (c.loop-one.invariant.1 rs)
          (subst (λ xs. Emits rs rs c.loop-one.objects c.declarators-made.new.objects c.declarators-made.result (of xs))
          c.as_slice-names.ensures.value (c.declarators-made.ensures rs))),
      decl_next ar c.args.declared.now c.loop-one.one-index c.one-item.result before whole c.loop-one-test.true (sym c.one-item.is)
          c.loop-one.invariant.2,
    )

pub returns : goal.returns
returns c = λ rs.
    let ar = around_in c.args.around.now in
    let whole = decls_code ar (map view.decl c.args.declared.now) in
    subst (λ (w : Checked Code). Emits rs rs c.args.objects.now c.loop-one.objects c.loop-one.done w)
    (decls_all ar c.args.declared.now c.loop-one.one-index c.loop-one.invariant.0 whole c.loop-one-test.false c.loop-one.invariant.2)
    (c.loop-one.invariant.1 rs)
