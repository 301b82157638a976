use Rattle.sv_elab_variable.proofs.openings.copy_opening.Goals as goal

pub returns : goal.returns
returns c = c.copy_at_opening.ensures c.args.name.now c.in_ok-value.ensures.ok
