use Rattle.std.proofs.Common.{◌≡◌, drop, map}
use Rattle.sv_names.specs.Writers.{has_alone}
use Rattle.sv_elab_writers.specs.Views.{source_in}
use Rattle.sv_elab_writers.proofs.standing.has_alone.Given as goal

abbrev pub invariant-loop-source : goal.invariant-loop-source
invariant-loop-source l =
    has_alone (map source_in (drop l.source-index l.sources)) ≡ has_alone (map source_in l.sources)
