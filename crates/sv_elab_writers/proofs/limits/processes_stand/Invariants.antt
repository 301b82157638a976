use Rattle.std.proofs.Common.{◌≡◌, drop, map}
use Rattle.std.specs.Prelude.{flat_map}
use Rattle.sv_elab_writers.specs.Views.{met_in}
use Rattle.sv_elab_writers.specs.Counting.{at_most_of}
use Rattle.sv_elab_writers.proofs.limits.processes_stand.Given as goal

abbrev pub invariant-loop-met : goal.invariant-loop-met
invariant-loop-met l =
    at_most_of l.left (flat_map (λ m. m.processes) (map met_in (drop l.met-index l.mets)))
    ≡ at_most_of l.initial.left (flat_map (λ m. m.processes) (map met_in l.mets))
