use Rattle.sv_elab_operator.proofs.References.{chosen_by}
use Rattle.sv_elab_operator.proofs.choices.choose.Goals as goal

pub returns : goal.returns
returns c ar x y z h hx hy hz = chosen_by ar _ _ _ _ x y z _ h (c.choose_by.ensures x y z hx hy hz)
