use Rattle.std.proofs.Common.{◌≡◌, vec_len}
use Rattle.sv_names.specs.Views.{around_in}
use Rattle.sv_elab_select.specs.Written.{written_before}
use Rattle.sv_elab_select.proofs.written.written_before.Given as goal

abbrev pub invariant-loop-part : goal.invariant-loop-part
invariant-loop-part l = written_before (around_in l.around) l.spots.items l.whole ≡ written_before (around_in l.around) l.initial.spots.items l.initial.whole

abbrev pub decreases-loop-part : goal.decreases-loop-part
decreases-loop-part l = vec_len l.spots
