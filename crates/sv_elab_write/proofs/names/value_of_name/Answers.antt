use Rattle.std.proofs.Common.{ℕ, List, subst}
use Rattle.sv_tree.specs.declared.expr.Root.TheVariants as root
use Rattle.sv_tree.specs.Expr as tree
use Rattle.sv_names.specs.Expressions as expressions
use Rattle.sv_names.specs.Given.{Gives}
use Rattle.sv_names.specs.Views.{around_in}
use Rattle.sv_elab_write.proofs.names.value_of_name.Goals as goal

pub returns-clause-ok : goal.returns-clause-ok
returns-clause-ok c =
    let ar = around_in c.args.around.now in
    let n = c.args.name.now in
    c.judged.ensures.ok (expressions.expr ar (tree.Post (root.Plain n) tree.NoSuffix))
    (subst (λ (x : List ℕ). Gives c.named.result (expressions.expr ar (tree.Post (root.Plain (record { at = n.at; text = x })) tree.NoSuffix)))
    c.in_ok-text.ensures c.named.ensures)
