use Rattle.std.proofs.Common.{◌≡◌, vec_len}
use Rattle.sv_elab_select.specs.Written.{reads_before}
use Rattle.sv_elab_select.proofs.written.reads_before.Given as goal

abbrev pub invariant-loop-part : goal.invariant-loop-part
invariant-loop-part l = reads_before l.spots.items l.whole ≡ reads_before l.initial.spots.items l.initial.whole

abbrev pub decreases-loop-part : goal.decreases-loop-part
decreases-loop-part l = vec_len l.spots
