use Rattle.std.proofs.Common.{ℕ, ◌≡◌, List, Some, length}
use Rattle.std.specs.Ordering.{nat_cmp}
use Rattle.std.specs.BTreeMap.{get}
use Rattle.sv_value.specs.declared.schedule.Event.{Event}
use Rattle.sv_flat.specs.Steps.{least_time}
use Rattle.sv_sched.specs.Rings.{IsKept}
use Rattle.sv_sched.proofs.RingLemmas.{IsComing}
use Rattle.sv_sched.proofs.later.come_near.Given as goal

-- the queues that left the map stand in the rings
abbrev pub invariant-loop-moment : goal.invariant-loop-moment
invariant-loop-moment l = record {
  count : length l.rings.items ≡ 256;
  coming : (last : ℕ) (es : List Event) → IsKept l.initial.rings.items l.latest (get nat_cmp l.initial.later) last es → least_time es ≡ Some l.time
      → IsComing l.rings.items l.reached (get nat_cmp l.later) l.time es;
}

abbrev pub decreases-loop-moment : goal.decreases-loop-moment
decreases-loop-moment l = length l.later.entries
