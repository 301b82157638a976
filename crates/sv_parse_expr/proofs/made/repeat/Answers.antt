use Rattle.std.proofs.Common.{rules}
use Rattle.sv_tree.specs.declared.expr.Expr.{the_lemmas}
use Rattle.sv_tree.specs.View.{exprs_are, suffixes_are}
use Rattle.sv_parse_expr.proofs.made.repeat.Goals as goal

pub returns : goal.returns
returns c = search (the_lemmas, exprs_are, suffixes_are, rules)
