use Rattle.std.proofs.Common.{◌≡◌, drop}
use Rattle.sv_io.specs.Failing.{failing_at}
use Rattle.sv_io.proofs.failing.failing_at.Given as goal

abbrev pub invariant-loop-fail : goal.invariant-loop-fail
invariant-loop-fail l = failing_at (drop l.fail-index l.failing) l.call ≡ failing_at l.failing l.call
