use Rattle.std.proofs.Common.{◌≡◌, drop}
use Rattle.sv_names.specs.Types.{has_path}
use Rattle.sv_elab_writers.proofs.reached.has_path.Given as goal

abbrev pub invariant-loop-one : goal.invariant-loop-one
invariant-loop-one l =
    has_path l.path (drop l.one-index l.paths) ≡ has_path l.path l.paths
