use Rattle.std.proofs.Common.{length}
use Rattle.sv_machine.proofs.writes.+write_updates.Given as goal

-- proposed from what the function passes where it calls itself
abbrev pub decreases-write_updates : goal.decreases-write_updates
decreases-write_updates l = length l.updates.now.items
