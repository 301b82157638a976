use Rattle.std.proofs.Common.{◌≡◌, ◌+◌, ◌∙◌, Some, ap, sym, get_or, rules}
use Rattle.sv_sched.specs.Rings.{time_of_first, ring_at}
use Rattle.sv_sched.proofs.RingLemmas.{read_ring, found_near}
use Rattle.sv_sched.proofs.rings.near_time.Goals as goal

pub returns-in-Some-clause-found : goal.returns-in-Some-clause-found
returns-in-Some-clause-found c =
    let got : get_or c.args.rings.now c.place_after.result c.index-rings-place_after.result ≡ c.index-rings-place_after.result = search rules in
    let ring = read_ring c.args.rings.now c.place_after.result (c.args.last + c.loop-ticks.ticks) c.index-rings-place_after.result c.requires.count c.place_after.ensures got in
    let time : time_of_first (ring_at c.args.rings.now (c.args.last + c.loop-ticks.ticks)) ≡ Some c.in-Some.time = ap time_of_first ring ∙ sym c.first_time.ensures ∙ c.in-Some.is in
    found_near c.args.rings.now c.args.last c.loop-ticks.ticks c.in-Some.time c.loop-ticks-test.true c.loop-ticks.invariant time
