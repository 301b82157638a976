use Rattle.std.proofs.Common.{rules}
use Rattle.sv_tree.specs.declared.expr.Expr.{the_lemmas}
use Rattle.sv_tree.specs.View.{exprs_are, suffixes_are}
use Rattle.sv_tree.proofs.expr.Expr.into_dimension.Goals as goal

pub returns-in-Post : goal.returns-in-Post
returns-in-Post c = search (the_lemmas, exprs_are, suffixes_are, rules)
