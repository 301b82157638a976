-- A name as an expression.
use Rattle.std.proofs.Common.{rules, ap, ◌∙◌}
use Rattle.sv_tree.specs.declared.expr.Expr.{the_lemmas}
use Rattle.sv_tree.specs.declared.expr.Root.TheVariants as root
use Rattle.sv_tree.specs.Expr as tree
use Rattle.sv_tree.specs.View.{suffix_list, suffixes_are}
use Rattle.sv_elab_walk.proofs.givens.plain_name.Goals as goal

pub returns : goal.returns
returns c =
    search (rules, the_lemmas, suffixes_are)
    ∙ ap (λ ss. tree.Post (root.Plain c.in_ok-name.name) (suffix_list ss)) c.new.ensures.items
    ∙ ap (λ n. tree.Post (root.Plain n) tree.NoSuffix) c.in_ok-name.ensures
