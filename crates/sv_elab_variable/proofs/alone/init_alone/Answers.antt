-- An initializer by its form.
use Rattle.std.proofs.Common.{◌∙◌, Option, sym, ap, subst}
use Rattle.sv_tree.specs.declared.expr.Expr.{Expr}
use Rattle.sv_tree.specs.declared.statement.Init.{Init}
use Rattle.sv_tree.specs.declared.statement.Init.TheVariants.{Array}
use Rattle.sv_tree.specs.StmtView as view
use Rattle.sv_tree.specs.View as tree_view
use Rattle.sv_names.specs.declared.checked.Checked.{Checked}
use Rattle.sv_names.specs.Assignments as assignments
use Rattle.sv_names.specs.Checked.{only}
use Rattle.sv_names.specs.Expressions as expressions
use Rattle.sv_names.specs.Given.{Gives}
use Rattle.sv_names.specs.Views.{around_in}
use Rattle.sv_elab_variable.proofs.AloneLaws.{both_stand}
use Rattle.sv_elab_variable.proofs.alone.init_alone.Goals as goal

pub returns-in-Copy : goal.returns-in-Copy
returns-in-Copy c =
    subst (λ (v : Init). Gives c.copy_stands.result (assignments.init_alone (around_in c.args.around.now) (view.init v)))
    (sym c.in-Copy.is)
    c.copy_stands.ensures

pub returns-in-Some : goal.returns-in-Some
returns-in-Some c =
    let ar = around_in c.args.around.now in
    let size = expressions.expr ar (tree_view.expr c.in-Array.size) in
    let source = expressions.expr ar (tree_view.expr c.in-Some.source) in
    subst (λ (v : Init). Gives c.where_also.result (assignments.init_alone ar (view.init v)))
    (sym (c.in-Array.is ∙ ap (λ (o : Option Expr). Array c.in-Array.at c.in-Array.size o) c.in-Some.is))
    (subst (λ (x : Checked (Unit {0})). Gives c.where_also.result x) (both_stand size source)
    (c.where_also.ensures (only size) (only source) c.expr_stands-size.ensures c.expr_stands-in-Some.ensures))
