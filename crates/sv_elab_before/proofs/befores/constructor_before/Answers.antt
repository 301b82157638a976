-- The constructor of the base, and then the properties.
use Rattle.sv_elab_before.proofs.befores.constructor_before.Goals as goal

pub returns : goal.returns
returns c = λ rs os.
    c.in_sequence.ensures rs rs rs os os os _ _ (c.super_of-base.ensures rs os) (c.properties_of-values.ensures rs os)
