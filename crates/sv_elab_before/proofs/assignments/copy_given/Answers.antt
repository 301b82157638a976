use Rattle.std.proofs.Common.{◌∙◌, ap}
use Rattle.sv_tree.specs.declared.expr.Root.TheVariants as root
use Rattle.sv_tree.specs.Expr as tree
use Rattle.sv_names.specs.Expressions as expressions
use Rattle.sv_names.specs.Named.{Around}
use Rattle.sv_elab_before.proofs.assignments.copy_given.Goals as goal

pub returns : goal.returns
returns c =
    let n = c.args.name.now in
    let there = c.in_ok-given.ensures.ok ∙ ap (λ (i : Around). expressions.expr i (tree.Post (root.Plain n) tree.NoSuffix)) c.value_around.ensures in
    c.assign_copy.ensures n there
