use Rattle.std.proofs.Common.{sym}
use Rattle.std.specs.Ordering.{nat_cmp}
use Rattle.std.specs.BTreeMap.{get}
use Rattle.sv_sched.proofs.RingLemmas.{least_near, later_first}
use Rattle.sv_sched.proofs.wheel.first_in.Goals as goal

pub returns-in-Some : goal.returns-in-Some
returns-in-Some c =
    sym (least_near c.args.rings.now c.args.latest (get nat_cmp c.args.later.now) c.args.last c.in-Some.time c.args._added.now.events c.requires c.in-Some.ensures.found)

pub returns-in-None : goal.returns-in-None
returns-in-None c =
    later_first c.args.rings.now c.args.latest (get nat_cmp c.args.later.now) c.args.last c.args._added.now.events c.first_later.result c.requires c.in-None.ensures.none
    c.first_later.ensures.there c.first_later.ensures.least c.first_later.ensures.none
