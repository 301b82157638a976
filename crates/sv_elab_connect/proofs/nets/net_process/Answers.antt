use Rattle.std.proofs.Common.{List, ap, subst, ◌∙◌}
use Rattle.sv_tree.specs.declared.expr.Root.{Root}
use Rattle.sv_tree.specs.declared.expr.Root.TheVariants as root
use Rattle.sv_tree.specs.Expr as tree
use Rattle.sv_tree.specs.View as view
use Rattle.sv_names.specs.declared.checked.Checked.{Checked}
use Rattle.sv_names.specs.declared.typed.How.TheVariants.{Continuous}
use Rattle.sv_names.specs.Expressions.{expr, target}
use Rattle.sv_names.specs.Given.{Gives}
use Rattle.sv_names.specs.Targets.{Spot}
use Rattle.sv_names.specs.Views.{around_in}
use Rattle.sv_elab_expr.specs.Walk.{name_as_target}
use Rattle.sv_elab_connect.proofs.nets.net_process.Goals as goal

pub returns : goal.returns
returns c =
    let ar = around_in c.args.around.now in
    let there = c.in_ok-target.ensures.ok ∙ ap (λ (r : Root). name_as_target Continuous ar r tree.NoSuffix) c.in_ok-root.ensures in
    c.continuous.ensures (target Continuous ar (tree.Lval.Post (root.Plain c.args.name.now) tree.NoSuffix)) (expr ar (view.expr c.args.e.now))
    (subst (λ (x : Checked (List Spot)). Gives c.answer-spots.result x) there c.answer-spots.ensures) c.expr-value.ensures
