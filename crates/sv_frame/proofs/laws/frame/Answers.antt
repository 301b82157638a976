use Rattle.sv_frame.proofs.Framed.{built_framed}
use Rattle.sv_frame.proofs.laws.frame.Goals as goal

pub returns : goal.returns
returns c = built_framed
