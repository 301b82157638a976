use Rattle.std.proofs.Common.{◌≡◌, drop, length}
use Rattle.std.specs.Prelude.{fold}
use Rattle.sv_value.specs.Operators.{resolved}
use Rattle.sv_flat.specs.State.{net_value}
use Rattle.sv_store.proofs.net.resolved_value.Given as goal

abbrev pub invariant-loop-driver : goal.invariant-loop-driver
invariant-loop-driver l = record {
  rest : fold resolved l.value (drop l.driver-index l.drivers) ≡ net_value l.width l.drivers;
  wide : length l.value.symbols ≡ l.width;
}
