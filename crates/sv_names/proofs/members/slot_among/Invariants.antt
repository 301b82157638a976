use Rattle.std.proofs.Common.{◌≡◌, drop}
use Rattle.sv_names.specs.Calls.{slot_from}
use Rattle.sv_names.proofs.members.slot_among.Given as goal

abbrev pub invariant-loop-other : goal.invariant-loop-other
invariant-loop-other l = (l.slot ≡ l.other-index) × (slot_from l.slot l.name (drop l.other-index l.slots) ≡ slot_from 0 l.name l.slots)
