use Rattle.std.proofs.Common.{◌≡◌, [], replicate}
use Rattle.sv_arena.proofs.activations.Activations.new.Given as goal

abbrev pub invariant-loop : goal.invariant-loop
invariant-loop l = l.by_process.items ≡ replicate l.counter []
