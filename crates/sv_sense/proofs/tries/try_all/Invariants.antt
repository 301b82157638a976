use Rattle.std.proofs.Common.{◌≡◌, ◌++◌, length}
use Rattle.sv_sense.specs.Wakes.{fires_at, scenes_before, scenes_after, tried, woken_of}
use Rattle.sv_sense.proofs.tries.try_all.Given as goal

-- what is left gives the rest
abbrev pub invariant-loop-left : goal.invariant-loop-left
invariant-loop-left l =
    let t = fires_at l.fn.design (scenes_before l.fn.before) (scenes_after l.fn.before) in
    record {
      waits : tried t l.left l.waits.items ≡ tried t l.processes l.initial.waits.items;
      woken : l.woken.items ++ woken_of t l.left l.waits.items ≡ l.initial.woken.items ++ woken_of t l.processes l.initial.waits.items;
    }

abbrev pub decreases-loop-left : goal.decreases-loop-left
decreases-loop-left l = length l.left
