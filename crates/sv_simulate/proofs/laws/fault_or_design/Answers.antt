use Rattle.sv_simulate.proofs.FaultLemmas.{fault_or_design}
use Rattle.sv_simulate.proofs.laws.fault_or_design.Goals as goal

pub returns : goal.returns
returns c = fault_or_design
