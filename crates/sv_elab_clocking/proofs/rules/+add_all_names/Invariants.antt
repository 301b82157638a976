use Rattle.std.proofs.Common.{length}
use Rattle.sv_elab_clocking.proofs.rules.+add_all_names.Given as goal

abbrev pub decreases-add_all_names : goal.decreases-add_all_names
decreases-add_all_names l = length l.items.now
