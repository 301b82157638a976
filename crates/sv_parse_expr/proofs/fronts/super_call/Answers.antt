use Rattle.std.proofs.Common.{arith}
use Rattle.std.proofs.lemmas.Grind.{common_steps}
use Rattle.sv_tree.specs.ExprGrammar.{super_call, suffixes}
use Rattle.sv_parse_expr.proofs.fronts.super_call.Goals as goal

pub returns-in-Err-clause-reads : goal.returns-in-Err-clause-reads
unfolding super_call suffixes
returns-in-Err-clause-reads c = grind (arith, common_steps)

pub returns-in-Err-expect-clause-reads : goal.returns-in-Err-expect-clause-reads
unfolding super_call suffixes
returns-in-Err-expect-clause-reads c = grind (arith, common_steps)

pub returns-in-Err-name-clause-reads : goal.returns-in-Err-name-clause-reads
unfolding super_call suffixes
returns-in-Err-name-clause-reads c = grind (arith, common_steps)

pub returns-then-not-is_next-clause-reads : goal.returns-then-not-is_next-clause-reads
unfolding super_call suffixes
returns-then-not-is_next-clause-reads c = grind (arith, common_steps)

pub returns-in-Err-expect-2-clause-reads : goal.returns-in-Err-expect-2-clause-reads
unfolding super_call suffixes
returns-in-Err-expect-2-clause-reads c = grind (arith, common_steps)

pub returns-clause-reads : goal.returns-clause-reads
unfolding super_call suffixes
returns-clause-reads c = grind (arith, common_steps)
