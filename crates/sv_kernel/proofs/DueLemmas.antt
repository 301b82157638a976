-- What is due next, of a machine that stands for a configuration.
use Rattle.std.proofs.Common.{ℕ, ◌≡◌, ◌+◌, ◌<◌, ◌≤◌, ◌^◌, ap, subst, sym, arith}
use Rattle.std.specs.Prelude.{sum_by}
use Rattle.std.specs.List.{AllByRecursion}
use Rattle.sv_value.specs.declared.number.ProcessId.{ProcessId}
use Rattle.sv_value.specs.Regions.{standing}
use Rattle.sv_flat.specs.declared.design.Parts.{Parts}
use Rattle.sv_built.specs.Built.{IsBuilt}
use Rattle.sv_sound.specs.Sound.{IsPlainEvent, weight_of_all, weight_of_event}
use Rattle.sv_sound.proofs.Weights.{one, once}
use Rattle.sv_sound.proofs.Room.{ones, all_count}
use Rattle.sv_machine.specs.declared.machine.Machine.{Machine}
use Rattle.sv_machine.specs.Machine.{Picture, IsAt}
use Rattle.sv_kernel.specs.Future.{HoldsEvent}
use Rattle.sv_kernel.proofs.ReleaseLemmas.{events_hold}

module _ (d : Parts) (b : IsBuilt d) (m : Machine) (at : IsAt d m) where
  weights : (w : ProcessId → ℕ) → sum_by w (standing m.regions) + sum_by (weight_of_event w) m.wheel.events ≤ weight_of_all w at.config.processes
  weights w =
      let c = at.config in
      let h = at.stands.sound.weights w in
      let e : sum_by w (standing m.regions) + sum_by (weight_of_event w) m.wheel.events ≡ sum_by w (standing c.regions) + sum_by (weight_of_event w) c.future =
      ap (λ (u : Picture). sum_by w (standing u.regions) + sum_by (weight_of_event w) u.future) at.stands.stands.picture in
      omega (arith, h, e)

  pub room : sum_by ones (standing m.regions) + sum_by (weight_of_event ones) m.wheel.events < 2 ^ 31
  room =
      let w = weights ones in
      let a = all_count at.config.processes in
      let f = at.stands.sound.related.few in
      omega (arith, w, a, f)

  pub once_only : (p : ProcessId) → sum_by (one p) (standing m.regions) + sum_by (weight_of_event (one p)) m.wheel.events ≤ 1
  once_only p =
      let w = weights (one p) in
      let l = once p 0 at.config.processes in
      omega (arith, w, l)

  pub each_holds : AllByRecursion HoldsEvent m.wheel.events
  each_holds = events_hold m.wheel.events (subst (AllByRecursion IsPlainEvent) (sym (ap (λ (u : Picture). u.future) at.stands.stands.picture)) at.stands.sound.each_event)
