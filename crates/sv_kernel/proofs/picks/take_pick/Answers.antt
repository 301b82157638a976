use Rattle.sv_kernel.proofs.PickLemmas.{pick_tracks}
use Rattle.sv_kernel.proofs.picks.take_pick.Goals as goal

pub returns-clause-taken : goal.returns-clause-taken
returns-clause-taken c = λ c' h.
    pick_tracks c.args.design.now c.args.machine.now c.args.side c.args.count c.place_on-place.result c.requires.side c.requires.count
    c' h c.args.active.now c.args.reactive.now c.place_on-place.ensures.place c.do_pick.new.machine c.count_used.new.machine c.count_used.ensures (c.in_ok-do_pick.ensures.done c' h)
