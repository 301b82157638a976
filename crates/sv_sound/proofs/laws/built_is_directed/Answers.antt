use Rattle.sv_sound.proofs.Room.{built_directed}
use Rattle.sv_sound.proofs.laws.built_is_directed.Goals as goal

pub returns : goal.returns
returns c = built_directed
