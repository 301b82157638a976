use Rattle.std.proofs.Common.{length}
use Rattle.sv_simulate.proofs.front.+read_texts.Given as goal

abbrev pub decreases-read_texts : goal.decreases-read_texts
decreases-read_texts l = length l.texts.now
