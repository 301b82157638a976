use Rattle.std.proofs.Common.{List, sym, subst}
use Rattle.std.specs.Ordering.{nat_cmp}
use Rattle.std.specs.BTreeMap.{get}
use Rattle.sv_value.specs.declared.schedule.Event.{Event}
use Rattle.sv_sched.specs.Rings.{IsKept}
use Rattle.sv_sched.proofs.RingLemmas.{kept_left}
use Rattle.sv_sched.proofs.wheel.Wheel.remove.Goals as goal

pub first_in-self-inside-requires : goal.first_in-self-inside-requires
first_in-self-inside-requires c =
    let kept : IsKept c.remove_near.new.rings.items c.self.inside.latest (get nat_cmp c.remove_later.new.later) c.self.inside.last c.without-self-inside.result.events =
    subst (λ (es : List Event). IsKept c.remove_near.new.rings.items c.self.inside.latest (get nat_cmp c.remove_later.new.later) c.self.inside.last es) (sym c.without-self-inside.ensures)
    (kept_left c.args.process c.self.inside.rings.items c.remove_near.new.rings.items c.self.inside.latest (get nat_cmp c.self.inside.later) (get nat_cmp c.remove_later.new.later) c.self.inside.last
    c.self.inside.added.events c.self.invariant.0 c.remove_near.ensures.count c.remove_near.ensures.left c.remove_later.ensures) in
    subst (λ (rings : List (List Event)). IsKept rings c.self.inside.latest (get nat_cmp c.remove_later.new.later) c.self.inside.last c.without-self-inside.result.events) (sym c.deref.ensures.value) kept

pub invariant_of-self : goal.invariant_of-self
invariant_of-self c = (
  subst (λ (es : List Event). IsKept c.remove_near.new.rings.items c.self.inside.latest (get nat_cmp c.remove_later.new.later) c.self.inside.last es) (sym c.without-self-inside.ensures)
      (kept_left c.args.process c.self.inside.rings.items c.remove_near.new.rings.items c.self.inside.latest (get nat_cmp c.self.inside.later) (get nat_cmp c.remove_later.new.later) c.self.inside.last
      c.self.inside.added.events c.self.invariant.0 c.remove_near.ensures.count c.remove_near.ensures.left c.remove_later.ensures),
  c.first_in-self-inside.ensures,
)
