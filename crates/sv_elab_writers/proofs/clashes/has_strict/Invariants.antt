use Rattle.std.proofs.Common.{◌≡◌, drop, map}
use Rattle.sv_names.specs.Writers.{some}
use Rattle.sv_elab_writers.specs.Laws.{strict}
use Rattle.sv_elab_writers.specs.Views.{write_in}
use Rattle.sv_elab_writers.proofs.clashes.has_strict.Given as goal

abbrev pub invariant-loop-w : goal.invariant-loop-w
invariant-loop-w l = some (strict l.law) (map write_in (drop l.w-index l.writes)) ≡ some (strict l.law) (map write_in l.writes)
