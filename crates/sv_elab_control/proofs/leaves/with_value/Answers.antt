use Rattle.std.proofs.Common.{Some, sym, subst}
use Rattle.sv_tree.specs.View as tree_view
use Rattle.sv_names.specs.declared.around.Returns.{Returns}
use Rattle.sv_names.specs.Given.{Gives}
use Rattle.sv_names.specs.Statements as statements
use Rattle.sv_names.specs.Types.{Path}
use Rattle.sv_names.specs.Views.{around_in}
use Rattle.sv_elab_flow.specs.Returned as returned
use Rattle.sv_elab_control.proofs.leaves.with_value.Goals as goal

pub returns-in-SomeValue : goal.returns-in-SomeValue
returns-in-SomeValue c =
    let ar = around_in c.args.around.now in
    let e = tree_view.expr c.args.e.now in
    let at_returns : Returns → Type 0 = λ r. Gives c.result_of.result (statements.return_of ar c.args.at c.args.word (Some e) r) in
    let at_path : Path → Type 0 = λ p. Gives c.result_of.result (returned.result_of ar c.args.at p c.in-SomeValue.ty e) in
    subst at_returns (sym c.in-SomeValue.is) (subst at_path c.as_slice.ensures c.result_of.ensures)
