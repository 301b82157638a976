use Rattle.std.proofs.Common.{◌≡◌, drop, map}
use Rattle.std.specs.Prelude.{flat_map}
use Rattle.sv_names.specs.Sources.{touches_in}
use Rattle.sv_elab_writers.specs.Views.{met_in}
use Rattle.sv_elab_writers.specs.Counting.{counted_from}
use Rattle.sv_elab_writers.proofs.limits.all_counted.Given as goal

abbrev pub invariant-loop-met : goal.invariant-loop-met
invariant-loop-met l =
    counted_from l.counts (flat_map touches_in (map met_in (drop l.met-index l.mets)))
    ≡ counted_from l.initial.counts (flat_map touches_in (map met_in l.mets))
