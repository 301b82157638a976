use Rattle.std.proofs.Common.{length}
use Rattle.sv_elab_drives.proofs.counts.+times_in.Given as goal

abbrev pub decreases-times_in : goal.decreases-times_in
decreases-times_in l = length l.list.now
