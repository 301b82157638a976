use Rattle.std.proofs.Common.{◌≡◌, drop}
use Rattle.sv_elab_scope.specs.Loops.{grown}
use Rattle.sv_elab_scope.proofs.loops.grown.Given as goal

abbrev pub invariant-loop-one : goal.invariant-loop-one
invariant-loop-one l = grown (drop l.one-index l.needed) l.found ≡ grown l.needed l.initial.found
