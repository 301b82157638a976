use Rattle.std.proofs.Common.{arith}
use Rattle.std.proofs.lemmas.Grind.{common_steps}
use Rattle.sv_tree.specs.ExprGrammar.{number, cast}
use Rattle.sv_parse_expr.proofs.Known.{cast_low}
use Rattle.sv_parse_expr.proofs.Budgets.{reach_one}
use Rattle.sv_parse_expr.proofs.fronts.number.Goals as goal

pub returns-in-Err-clause-reads : goal.returns-in-Err-clause-reads
unfolding number cast
returns-in-Err-clause-reads c = grind (arith, common_steps, cast_low, reach_one)

pub returns-then-not-is_next-clause-reads : goal.returns-then-not-is_next-clause-reads
unfolding number cast
returns-then-not-is_next-clause-reads c = grind (arith, common_steps, cast_low, reach_one)

pub returns-in-Err-deeper-clause-reads : goal.returns-in-Err-deeper-clause-reads
unfolding number cast
returns-in-Err-deeper-clause-reads c = grind (arith, common_steps, cast_low, reach_one)

pub returns-in-Err-expect-clause-reads : goal.returns-in-Err-expect-clause-reads
unfolding number cast
returns-in-Err-expect-clause-reads c = grind (arith, common_steps, cast_low, reach_one)

pub returns-in-Err-expect-2-clause-reads : goal.returns-in-Err-expect-2-clause-reads
unfolding number cast
returns-in-Err-expect-2-clause-reads c = grind (arith, common_steps, cast_low, reach_one)

pub returns-clause-reads : goal.returns-clause-reads
unfolding number cast
returns-clause-reads c = grind (arith, common_steps, cast_low, reach_one)
