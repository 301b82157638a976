use Rattle.sv_simulate.proofs.FaultLemmas.{one_fault}
use Rattle.sv_simulate.proofs.laws.one_fault.Goals as goal

pub returns : goal.returns
returns c = one_fault
