use Rattle.sv_elab_class.proofs.slots.+slots_of.Given as goal

abbrev pub decreases-slots_of : goal.decreases-slots_of
decreases-slots_of l = l.most
