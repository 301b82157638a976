use Rattle.std.proofs.Common.{◌≡◌, ◌++◌, drop, map}
use Rattle.sv_names.specs.Classes.{method_number}
use Rattle.sv_names.specs.Views.{around_in}
use Rattle.sv_elab_member.proofs.flat.methods_of.Given as goal

abbrev pub invariant-loop-slot : goal.invariant-loop-slot
invariant-loop-slot l =
    l.methods ++ map (method_number (around_in l.around) l.class) (drop l.slot-index l.slots)
    ≡ map (method_number (around_in l.around) l.class) l.slots
