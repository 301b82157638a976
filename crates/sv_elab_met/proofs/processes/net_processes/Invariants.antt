use Rattle.std.proofs.Common.{◌≡◌, ◌++◌, map, length}
use Rattle.sv_names.specs.Views.{around_in}
use Rattle.sv_elab_writers.specs.Views.{process_in}
use Rattle.sv_elab_met.specs.Met as words
use Rattle.sv_elab_met.proofs.processes.net_processes.Given as goal

abbrev pub invariant-loop-left : goal.invariant-loop-left
invariant-loop-left l =
    map process_in l.done ++ words.net_processes (around_in l.around) l.left ≡ words.net_processes (around_in l.around) l.nets

abbrev pub decreases-loop-left : goal.decreases-loop-left
decreases-loop-left l = length l.left
