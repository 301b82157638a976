use Rattle.sv_simulate.proofs.OneSaid.{one_said}
use Rattle.sv_simulate.proofs.laws.one_said.Goals as goal

pub returns : goal.returns
returns c = one_said
