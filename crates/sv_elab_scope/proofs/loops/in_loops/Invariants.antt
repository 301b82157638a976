use Rattle.std.proofs.Common.{◌≡◌, ◌++◌, drop}
use Rattle.sv_elab_scope.specs.Loops.{in_loops}
use Rattle.sv_elab_scope.proofs.loops.in_loops.Given as goal

abbrev pub invariant-loop-one : goal.invariant-loop-one
invariant-loop-one l = l.found ++ in_loops l.needed (drop l.one-index l.needed) ≡ in_loops l.needed l.needed
