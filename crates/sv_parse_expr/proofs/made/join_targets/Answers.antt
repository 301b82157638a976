use Rattle.std.proofs.Common.{rules}
use Rattle.sv_tree.specs.declared.expr.Lval.{the_lemmas}
use Rattle.sv_tree.specs.StmtView.{lvals_are}
use Rattle.sv_parse_expr.proofs.made.join_targets.Goals as goal

pub returns : goal.returns
returns c = search (the_lemmas, lvals_are, rules)
