use Rattle.std.proofs.Common.{◌≡◌}
use Rattle.sv_names.specs.Arguments.{parts_beside, parts_of}
use Rattle.sv_names.specs.Joined.{joined}
use Rattle.sv_elab_operator.proofs.placed.parts.Given as goal

abbrev pub invariant-loop-a : goal.invariant-loop-a
invariant-loop-a l = joined l.list (parts_beside l.first l.a-iterator.rest.items) ≡ parts_of l.fn.args
