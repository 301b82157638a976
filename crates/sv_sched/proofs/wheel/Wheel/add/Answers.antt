use Rattle.std.proofs.Common.{arith, ◌∙◌, Some, ap, sym}
use Rattle.std.proofs.lemmas.Grind.{common_steps}
use Rattle.std.specs.Ordering.{nat_cmp}
use Rattle.std.specs.BTreeMap.{get}
use Rattle.sv_value.specs.declared.schedule.Event.{Event}
use Rattle.sv_flat.specs.Steps.{least_time}
use Rattle.sv_sched.specs.Rings.{IsKept, with_moment}
use Rattle.sv_sched.proofs.FutureLemmas.{least_added}
use Rattle.sv_sched.proofs.wheel.Wheel.add.Goals as goal

pub invariant_of-self-2 : goal.invariant_of-self-2
invariant_of-self-2 c =
    let kept : IsKept c.if-time-self-lt256.self-inside.rings.items c.if-time-self-lt256.self-inside.latest (get nat_cmp c.if-time-self-lt256.self-inside.later) c.if-time-self-lt256.self-inside.last c.with-added.result.events =
    grind (arith, common_steps) in
    let event : Event = record { time = c.args.time; region = c.args.region; due = c.args.due } in
    (kept, c.sooner-first.ensures ∙ (λ i. Some (with_moment (c.self.invariant.1 i) c.args.time)) ∙ sym (least_added c.self.inside.added.events event) ∙ ap least_time (sym c.with-added.ensures))
