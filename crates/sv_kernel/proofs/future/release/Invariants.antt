use Rattle.std.proofs.Common.{◌≡◌, ◌≤◌, ◌<◌, ◌+◌, ◌^◌, length, Some}
use Rattle.std.specs.Prelude.{◌≢◌, sum_by}
use Rattle.std.specs.List.{AllByRecursion}
use Rattle.sv_value.specs.declared.number.ProcessId.{ProcessId}
use Rattle.sv_value.specs.Regions.{standing}
use Rattle.sv_flat.specs.Steps.{came_due, least_time}
use Rattle.sv_sound.specs.Sound.{weight_of_event}
use Rattle.sv_kernel.specs.Future.{HoldsEvent}
use Rattle.sv_sound.proofs.Weights.{one}
use Rattle.sv_sound.proofs.Room.{ones}
use Rattle.sv_sched.specs.Future.{due_at, not_due_at}
use Rattle.sv_sched.proofs.FutureLemmas.{AllFrom}
use Rattle.sv_kernel.proofs.future.release.Given as goal

-- what has come into its region, and what is due yet, is what was due
abbrev pub invariant-loop-wheel : goal.invariant-loop-wheel
invariant-loop-wheel l = record {
  due : came_due (due_at l.time l.wheel.events) l.regions ≡ came_due (due_at l.time l.initial.wheel.events) l.initial.regions;
  rest : not_due_at l.time l.wheel.events ≡ not_due_at l.time l.initial.wheel.events;
  all_from : AllFrom l.time l.wheel.events;
  plain : AllByRecursion HoldsEvent l.wheel.events;
  once : (p : ProcessId) → sum_by (one p) (standing l.regions) + sum_by (weight_of_event (one p)) l.wheel.events ≤ 1;
  few : sum_by ones (standing l.regions) + sum_by (weight_of_event ones) l.wheel.events < 2 ^ 31;
  last : least_time l.wheel.events ≢ Some l.time → l.wheel.last ≤ l.time;
}

abbrev pub decreases-loop-wheel : goal.decreases-loop-wheel
decreases-loop-wheel l = length l.wheel.events
