use Rattle.std.proofs.Common.{ℕ, ◌≡◌, [], length, get_or}
use Rattle.sv_sched.proofs.rings.empty_rings.Given as goal

abbrev pub invariant-loop : goal.invariant-loop
invariant-loop l = record { count : length l.rings.items ≡ l.counter; empty : (i : ℕ) → get_or l.rings.items i [] ≡ [] }
