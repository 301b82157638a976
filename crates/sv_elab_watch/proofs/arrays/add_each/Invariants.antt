use Rattle.std.proofs.Common.{◌≡◌, ◌++◌}
use Rattle.sv_names.specs.Watched.{each_index}
use Rattle.sv_elab_watch.specs.Reading.{element}
use Rattle.sv_elab_watch.proofs.arrays.add_each.Given as goal

abbrev pub invariant-elements : goal.invariant-elements
invariant-elements l =
    l.list ++ each_index l.left l.index l.step (element l.array)
    ≡ l.initial.list ++ each_index l.initial.left l.initial.index l.step (element l.array)

abbrev pub decreases-elements : goal.decreases-elements
decreases-elements l = l.left
