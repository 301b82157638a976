use Rattle.std.proofs.Common.{◌≡◌, drop, map}
use Rattle.sv_names.specs.Checked.{all, ◌where_also◌}
use Rattle.sv_names.specs.Writers.{not_initialized}
use Rattle.sv_elab_writers.specs.Views.{write_in, initialized_in}
use Rattle.sv_elab_writers.proofs.clashes.none_continued.Given as goal

abbrev pub invariant-loop-one : goal.invariant-loop-one
invariant-loop-one l =
    (l.guards where_also all (not_initialized (map write_in l.writes)) (map initialized_in (drop l.one-index l.variables)))
    ≡ all (not_initialized (map write_in l.writes)) (map initialized_in l.variables)
