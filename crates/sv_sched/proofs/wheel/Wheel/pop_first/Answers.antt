use Rattle.std.proofs.Common.{◌≡◌, ◌∙◌, List, Some, ap, sym, subst, rules}
use Rattle.std.specs.Ordering.{nat_cmp}
use Rattle.std.specs.BTreeMap.{get}
use Rattle.sv_value.specs.declared.schedule.Event.{Event}
use Rattle.sv_flat.specs.Steps.{least_time}
use Rattle.sv_sched.specs.Future.{without_first_at}
use Rattle.sv_sched.specs.Rings.{ring_at, IsKept}
use Rattle.sv_sched.proofs.DueLemmas.{first_time_is}
use Rattle.sv_sched.proofs.RingLemmas.{kept_some, kept_given, given_due, first_given}
use Rattle.sv_sched.proofs.wheel.Wheel.pop_first.Goals as goal

pub pop_near-event-requires-clause-some : goal.pop_near-event-requires-clause-some
pop_near-event-requires-clause-some c =
    let least : least_time c.self.inside.added.events ≡ Some c.in_ok-time.time = sym c.self.invariant.1 ∙ (search rules) in
    kept_some c.come_near-self-inside.new.rings.items c.come_near-self-inside.result (get nat_cmp c.come_near-self-inside.new.later) c.in_ok-time.time c.self.inside.added.events
    (c.come_near-self-inside.ensures.kept c.self.inside.last c.self.inside.added.events c.self.invariant.0 least) least

pub first_in-self-inside-requires : goal.first_in-self-inside-requires
first_in-self-inside-requires c =
    let least : least_time c.self.inside.added.events ≡ Some c.in_ok-time.time = sym c.self.invariant.1 ∙ (search rules) in
    subst (λ (rings : List (List Event)). IsKept rings c.come_near-self-inside.result (get nat_cmp c.come_near-self-inside.new.later) c.in_ok-time.time c.without_first-self-inside.result.events) (sym c.deref.ensures.value)
    (kept_given c.come_near-self-inside.new.rings.items c.pop_near-event.new.rings.items c.come_near-self-inside.result (get nat_cmp c.come_near-self-inside.new.later) c.in_ok-time.time c.self.inside.added.events
    c.without_first-self-inside.result.events c.pop_near-event.result (c.come_near-self-inside.ensures.kept c.self.inside.last c.self.inside.added.events c.self.invariant.0 least)
    c.pop_near-event.ensures.first c.pop_near-event.ensures.left c.without_first-self-inside.ensures)

pub invariant_of-self : goal.invariant_of-self
invariant_of-self c =
    let least : least_time c.self.inside.added.events ≡ Some c.in_ok-time.time = sym c.self.invariant.1 ∙ (search rules) in (
      kept_given c.come_near-self-inside.new.rings.items c.pop_near-event.new.rings.items c.come_near-self-inside.result (get nat_cmp c.come_near-self-inside.new.later) c.in_ok-time.time c.self.inside.added.events
          c.without_first-self-inside.result.events c.pop_near-event.result (c.come_near-self-inside.ensures.kept c.self.inside.last c.self.inside.added.events c.self.invariant.0 least)
          c.pop_near-event.ensures.first c.pop_near-event.ensures.left c.without_first-self-inside.ensures,
      c.first_in-self-inside.ensures,
    )

pub returns-clause-first : goal.returns-clause-first
returns-clause-first c =
    let least : least_time c.args.self.now.events ≡ Some c.in_ok-time.time = sym (ap (λ s. least_time s.events) c.self.view_is) ∙ sym c.self.invariant.1 ∙ (search rules) in
    let kept = subst (λ (es : List Event). IsKept c.self.inside.rings.items c.self.inside.latest (get nat_cmp c.self.inside.later) c.self.inside.last es) (ap (λ s. s.events) c.self.view_is) c.self.invariant.0 in
    first_given c.in_ok-time.time c.args.self.now.events c.pop_near-event.result (ring_at c.pop_near-event.new.rings.items c.in_ok-time.time)
    (given_due c.come_near-self-inside.new.rings.items c.come_near-self-inside.result (get nat_cmp c.come_near-self-inside.new.later) c.in_ok-time.time c.args.self.now.events c.pop_near-event.result
    (ring_at c.pop_near-event.new.rings.items c.in_ok-time.time) (c.come_near-self-inside.ensures.kept c.self.inside.last c.args.self.now.events kept least) c.pop_near-event.ensures.first) least

pub returns-clause-left : goal.returns-clause-left
returns-clause-left c =
    let least : least_time c.args.self.now.events ≡ Some c.in_ok-time.time = sym (ap (λ s. least_time s.events) c.self.view_is) ∙ sym c.self.invariant.1 ∙ (search rules) in
    let kept = subst (λ (es : List Event). IsKept c.self.inside.rings.items c.self.inside.latest (get nat_cmp c.self.inside.later) c.self.inside.last es) (ap (λ s. s.events) c.self.view_is) c.self.invariant.0 in
    let time : c.pop_near-event.result.time ≡ c.in_ok-time.time =
    first_time_is c.in_ok-time.time c.args.self.now.events c.pop_near-event.result (ring_at c.pop_near-event.new.rings.items c.in_ok-time.time)
    (given_due c.come_near-self-inside.new.rings.items c.come_near-self-inside.result (get nat_cmp c.come_near-self-inside.new.later) c.in_ok-time.time c.args.self.now.events c.pop_near-event.result
    (ring_at c.pop_near-event.new.rings.items c.in_ok-time.time) (c.come_near-self-inside.ensures.kept c.self.inside.last c.args.self.now.events kept least) c.pop_near-event.ensures.first) in
    let events : c.without_first-self-inside.result.events ≡ without_first_at c.pop_near-event.result.time c.args.self.now.events =
    c.without_first-self-inside.ensures ∙ ap (λ s. without_first_at c.pop_near-event.result.time s.events) c.self.view_is in
    λ i. record { events = events i; last = sym time i }
