use Rattle.std.proofs.Common.{ℕ, ◌≡◌, ◌≤◌, ◌<◌, ◌+◌, []}
use Rattle.sv_sched.specs.Rings.{ring_at}
use Rattle.sv_sched.proofs.rings.near_time.Given as goal

-- the rings that were passed are empty
abbrev pub invariant-loop-ticks : goal.invariant-loop-ticks
invariant-loop-ticks l = (t : ℕ) → l.last ≤ t → t < l.last + l.ticks → ring_at l.rings t ≡ []
