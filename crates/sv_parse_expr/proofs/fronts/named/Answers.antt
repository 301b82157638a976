use Rattle.std.proofs.Common.{arith}
use Rattle.std.proofs.lemmas.Grind.{common_steps}
use Rattle.sv_tree.specs.ExprGrammar.{named, cast, post_rest, suffixes}
use Rattle.sv_parse_expr.proofs.Known.{cast_low, post_rest_low}
use Rattle.sv_parse_expr.proofs.Budgets.{reach_one}
use Rattle.sv_parse_expr.proofs.fronts.named.Goals as goal

pub returns-in-Err-clause-reads : goal.returns-in-Err-clause-reads
unfolding named cast post_rest suffixes
returns-in-Err-clause-reads c = grind (arith, common_steps, cast_low, post_rest_low, reach_one)

pub returns-in-Err-scope-clause-reads : goal.returns-in-Err-scope-clause-reads
unfolding named cast post_rest suffixes
returns-in-Err-scope-clause-reads c = grind (arith, common_steps, cast_low, post_rest_low, reach_one)

pub returns-then-not-is_next-clause-reads : goal.returns-then-not-is_next-clause-reads
unfolding named cast post_rest suffixes
returns-then-not-is_next-clause-reads c = grind (arith, common_steps, cast_low, post_rest_low, reach_one)

pub returns-in-Err-deeper-clause-reads : goal.returns-in-Err-deeper-clause-reads
unfolding named cast post_rest suffixes
returns-in-Err-deeper-clause-reads c = grind (arith, common_steps, cast_low, post_rest_low, reach_one)

pub returns-in-Err-expect-clause-reads : goal.returns-in-Err-expect-clause-reads
unfolding named cast post_rest suffixes
returns-in-Err-expect-clause-reads c = grind (arith, common_steps, cast_low, post_rest_low, reach_one)

pub returns-in-Err-expect-2-clause-reads : goal.returns-in-Err-expect-2-clause-reads
unfolding named cast post_rest suffixes
returns-in-Err-expect-2-clause-reads c = grind (arith, common_steps, cast_low, post_rest_low, reach_one)

pub returns-clause-reads : goal.returns-clause-reads
unfolding named cast post_rest suffixes
returns-clause-reads c = grind (arith, common_steps, cast_low, post_rest_low, reach_one)
