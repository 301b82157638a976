use Rattle.std.proofs.Common.{ℕ, ◌≡◌, ◌<◌, ◌+◌, ◌%◌, ◌∙◌, List, None, Some, length, max, ap, sym, subst, arith, rules}
use Rattle.std.specs.Ordering.{nat_cmp}
use Rattle.std.specs.BTreeMap.{get}
use Rattle.std.proofs.lemmas.Grind.{common_steps}
use Rattle.std.proofs.lemmas.List.{length-set}
use Rattle.sv_value.specs.declared.schedule.Event.{Event}
use Rattle.sv_sched.proofs.RingLemmas.{IsComing, coming_first, coming_next, coming_last}
use Rattle.sv_sched.proofs.later.come_near.Goals as goal

pub loop-moment-init : goal.loop-moment-init
loop-moment-init c = record { count = c.requires; coming = λ last es k l. coming_first c.args.rings.now.items c.args.latest (get nat_cmp c.args.later.now) last c.args.time es k l }

pub loop-moment-preserved : goal.loop-moment-preserved
loop-moment-preserved c =
    let here : get nat_cmp c.loop-moment.later c.in-Some.moment ≡ Some c.in-Some-remove.queue = search rules in
    let left : get nat_cmp c.remove.new.self c.in-Some.moment ≡ None = search rules in
    let others : (t : ℕ) → (t ≡ c.in-Some.moment → ⊥) → get nat_cmp c.remove.new.self t ≡ get nat_cmp c.loop-moment.later t = λ t o. grind (arith, common_steps) in
    let reached : c.max-reached.result ≡ max c.loop-moment.reached c.in-Some.moment = search rules in
    record {
      count = ap (λ (rings : List (List Event)). length rings) c.put_near.ensures ∙ length-set c.loop-moment.rings.items (c.in-Some.moment % 256) c.in-Some-remove.queue ∙ c.loop-moment.invariant.count;
      coming = λ last es k l.
          subst (λ (n : ℕ). IsComing c.put_near.new.rings.items n (get nat_cmp c.remove.new.self) c.args.time es) (sym reached)
          (subst (λ (rings : List (List Event)). IsComing rings (max c.loop-moment.reached c.in-Some.moment) (get nat_cmp c.remove.new.self) c.args.time es) (sym c.put_near.ensures)
          (coming_next c.loop-moment.rings.items c.loop-moment.reached (get nat_cmp c.loop-moment.later) (get nat_cmp c.remove.new.self) c.args.time c.in-Some.moment c.in-Some-remove.queue es
          (c.loop-moment.invariant.coming last es k l) c.in-Some.ensures.within here left others));
    }

pub returns-clause-kept : goal.returns-clause-kept
returns-clause-kept c = λ last es k l.
    (let none : (t : ℕ) → t < c.args.time + 256 → get nat_cmp c.loop-moment.later t ≡ None = search rules in
    coming_last c.loop-moment.rings.items c.loop-moment.reached (get nat_cmp c.loop-moment.later) c.args.time es (c.loop-moment.invariant.coming last es k l) none)
