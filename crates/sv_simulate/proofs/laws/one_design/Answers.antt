use Rattle.sv_simulate.proofs.SourceLemmas.{one_design}
use Rattle.sv_simulate.proofs.laws.one_design.Goals as goal

pub returns : goal.returns
returns c = one_design
