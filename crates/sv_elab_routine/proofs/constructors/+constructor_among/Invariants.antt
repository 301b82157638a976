use Rattle.std.proofs.Common.{length}
use Rattle.sv_elab_routine.proofs.constructors.+constructor_among.Given as goal

abbrev pub decreases-constructor_among : goal.decreases-constructor_among
decreases-constructor_among l = length l.items.now
