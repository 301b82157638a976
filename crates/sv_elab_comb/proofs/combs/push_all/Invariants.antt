use Rattle.std.proofs.Common.{◌≡◌, ◌++◌}
use Rattle.sv_elab_comb.proofs.combs.push_all.Given as goal

abbrev pub invariant-loop-operand : goal.invariant-loop-operand
invariant-loop-operand l = l.list ++ l.operand-iterator.rest.items ≡ l.initial.list ++ l.fn.more
