use Rattle.std.proofs.Common.{rules}
use Rattle.sv_tree.specs.declared.expr.Expr.{the_lemmas}
use Rattle.sv_tree.specs.View.{exprs_are}
use Rattle.sv_parse_type.proofs.InitialLaws.{exprs_are_listed}
use Rattle.sv_parse_type.proofs.initial.written.Goals as goal

pub returns : goal.returns
returns c = search (the_lemmas, exprs_are, exprs_are_listed, rules)
