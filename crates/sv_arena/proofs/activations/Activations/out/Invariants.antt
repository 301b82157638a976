use Rattle.std.proofs.Common.{◌≡◌, ◌-◌, Some}
use Rattle.sv_flat.specs.State.{activation_out}
use Rattle.sv_arena.proofs.activations.Activations.out.Given as goal

abbrev pub invariant-loop : goal.invariant-loop
invariant-loop l = activation_out l.self.activations (l.up - l.counter) (Some l.name) ≡ activation_out l.self.activations l.fn.up l.fn.scope
