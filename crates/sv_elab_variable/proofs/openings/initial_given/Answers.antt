use Rattle.std.proofs.Common.{sym, subst}
use Rattle.sv_tree.specs.declared.statement.Init.{Init}
use Rattle.sv_tree.specs.StmtView as view
use Rattle.sv_names.specs.Assignments as assignments
use Rattle.sv_names.specs.Given.{Gives}
use Rattle.sv_names.specs.Views.{around_in}
use Rattle.sv_elab_variable.proofs.openings.initial_given.Goals as goal

pub returns-in-Copy : goal.returns-in-Copy
returns-in-Copy c =
    let ar = around_in c.args.around.now in
    let at_init : Init → Type 0 = λ i. Gives c.copy_opening.result (assignments.initial_given ar c.args.at c.args.ty.now (view.init i)) in
    subst at_init (sym c.in-Copy.is) c.copy_opening.ensures
