use Rattle.std.proofs.Common.{◌≡◌, replicate}
use Rattle.sv_names.specs.Design.{no_routine}
use Rattle.sv_elab_parts.proofs.so_far.no_routines.Given as goal

abbrev pub invariant-loop-place : goal.invariant-loop-place
invariant-loop-place l = l.places ≡ replicate l._place no_routine
