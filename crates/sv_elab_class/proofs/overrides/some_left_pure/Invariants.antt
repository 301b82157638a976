use Rattle.std.proofs.Common.{◌≡◌, drop}
use Rattle.sv_names.specs.Classes.{some_left}
use Rattle.sv_names.specs.Views.{around_in}
use Rattle.sv_elab_class.proofs.overrides.some_left_pure.Given as goal

abbrev pub invariant-loop-slot : goal.invariant-loop-slot
invariant-loop-slot l = some_left (around_in l.around) l.class (drop l.slot-index l.slots) ≡ some_left (around_in l.around) l.class l.slots
