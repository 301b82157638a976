use Rattle.std.proofs.Common.{length}
use Rattle.sv_elab_connect.proofs.fits.+fit_from.Given as goal

abbrev pub decreases-fit_from : goal.decreases-fit_from
decreases-fit_from l = length l.all.now
