use Rattle.std.proofs.Common.{◌≡◌, ◌∙◌, sym, ap, refl, arith}
use Rattle.sv_value.specs.Regions.{standing}
use Rattle.sv_flat.specs.Steps.{came_due}
use Rattle.sv_sound.proofs.Weights.{one}
use Rattle.sv_sound.proofs.Room.{ones, count_processes}
use Rattle.sv_sched.proofs.FutureLemmas.{AllFrom-least_time, none_due}
use Rattle.sv_kernel.proofs.ReleaseLemmas.{GivenOut, now, due_stays, rest_stays, still_from, one_fewer, plain_stays, plain_first, weight_stays, due_free}
use Rattle.sv_kernel.proofs.future.release.Goals as goal

pub loop-wheel-init : goal.loop-wheel-init
loop-wheel-init c = record {
  due = refl;
  rest = refl;
  all_from = AllFrom-least_time c.args.time c.args.wheel.now.events c.requires.least;
  plain = c.requires.plain;
  once = c.requires.once;
  few = c.requires.few;
  last = λ n. absurd (n c.requires.least);
}

pub loop-wheel-smaller : goal.loop-wheel-smaller
loop-wheel-smaller c =
    let given : GivenOut c.args.time c.in-Some.field-0-0 c.in-Some.region c.in-Some.due c.loop-wheel.wheel.events c.pop_first.new.self.events =
    record { least = c.in-Some.ensures.first.0; first = c.in-Some.ensures.first.1; left = ap (λ s. s.events) c.in-Some.ensures.left } in
    let fewer = one_fewer c.args.time c.in-Some.field-0-0 c.in-Some.region c.in-Some.due c.loop-wheel.wheel.events c.pop_first.new.self.events c.loop-wheel.regions c.come_due.new.regions
    (c.is_due.ensures.0 c.loop-wheel-test.true) given c.in_ok-come_due.ensures.ok in
    omega (arith, fewer)

pub loop-wheel-preserved : goal.loop-wheel-preserved
loop-wheel-preserved c =
    let is_due = c.is_due.ensures.0 c.loop-wheel-test.true in
    let given : GivenOut c.args.time c.in-Some.field-0-0 c.in-Some.region c.in-Some.due c.loop-wheel.wheel.events c.pop_first.new.self.events =
    record { least = c.in-Some.ensures.first.0; first = c.in-Some.ensures.first.1; left = ap (λ s. s.events) c.in-Some.ensures.left } in
    let same = now c.args.time c.in-Some.field-0-0 c.in-Some.region c.in-Some.due c.loop-wheel.wheel.events c.pop_first.new.self.events c.loop-wheel.regions c.come_due.new.regions is_due given c.in_ok-come_due.ensures.ok in
    let stays = weight_stays c.args.time c.in-Some.field-0-0 c.in-Some.region c.in-Some.due c.loop-wheel.wheel.events c.pop_first.new.self.events c.loop-wheel.regions c.come_due.new.regions is_due given c.in_ok-come_due.ensures.ok in
    let last : c.pop_first.new.self.last ≡ c.in-Some.field-0-0 = ap (λ s. s.last) c.in-Some.ensures.left in
    record {
      due = due_stays c.args.time c.in-Some.field-0-0 c.in-Some.region c.in-Some.due c.loop-wheel.wheel.events c.pop_first.new.self.events c.loop-wheel.regions c.come_due.new.regions is_due given c.in_ok-come_due.ensures.ok
          ∙ c.loop-wheel.invariant.due;
      rest = rest_stays c.args.time c.in-Some.field-0-0 c.in-Some.region c.in-Some.due c.loop-wheel.wheel.events c.pop_first.new.self.events c.loop-wheel.regions c.come_due.new.regions is_due given c.in_ok-come_due.ensures.ok
          ∙ c.loop-wheel.invariant.rest;
      all_from = still_from c.args.time c.in-Some.field-0-0 c.in-Some.region c.in-Some.due c.loop-wheel.wheel.events c.pop_first.new.self.events c.loop-wheel.regions c.come_due.new.regions is_due given c.in_ok-come_due.ensures.ok
          c.loop-wheel.invariant.all_from;
      plain = plain_stays c.args.time c.in-Some.field-0-0 c.in-Some.region c.in-Some.due c.loop-wheel.wheel.events c.pop_first.new.self.events c.loop-wheel.regions c.come_due.new.regions is_due given c.in_ok-come_due.ensures.ok c.loop-wheel.invariant.plain;
      once = λ p. (let s = stays (one p) in let o = c.loop-wheel.invariant.once p in omega (arith, s, o));
      few = (let s = stays ones in let f = c.loop-wheel.invariant.few in omega (arith, s, f));
      last = λ _. omega (arith, same, last);
    }

pub returns-clause-due : goal.returns-clause-due
returns-clause-due c =
    let none = none_due c.args.time c.loop-wheel.wheel.events c.loop-wheel.invariant.all_from (λ e. cc (c.is_due.ensures.1 e)) in
    sym (ap (λ es. came_due es c.loop-wheel.regions) none.due) ∙ c.loop-wheel.invariant.due

pub returns-clause-rest : goal.returns-clause-rest
returns-clause-rest c =
    let none = none_due c.args.time c.loop-wheel.wheel.events c.loop-wheel.invariant.all_from (λ e. cc (c.is_due.ensures.1 e)) in
    sym none.rest ∙ c.loop-wheel.invariant.rest

pub come_due-requires-clause-due : goal.come_due-requires-clause-due
come_due-requires-clause-due c = (plain_first c.in-Some.field-0-0 c.loop-wheel.wheel.events _ c.loop-wheel.invariant.plain c.in-Some.ensures.first.1).due

pub come_due-requires-clause-absent : goal.come_due-requires-clause-absent
come_due-requires-clause-absent c =
    due_free c.in-Some.field-0-0 c.loop-wheel.wheel.events c.in-Some.region c.in-Some.due c.in-Some.field-0-0 c.loop-wheel.regions c.in-Some.ensures.first.1 c.loop-wheel.invariant.once

pub come_due-requires-clause-few : goal.come_due-requires-clause-few
come_due-requires-clause-few c =
    let n = count_processes (standing c.loop-wheel.regions) in
    let f = c.loop-wheel.invariant.few in
    omega (arith, n, f)
