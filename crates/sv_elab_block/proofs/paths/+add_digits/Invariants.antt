use Rattle.sv_elab_block.proofs.paths.+add_digits.Given as goal

abbrev pub decreases-add_digits : goal.decreases-add_digits
decreases-add_digits l = l.most
