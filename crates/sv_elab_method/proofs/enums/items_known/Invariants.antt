use Rattle.std.proofs.Common.{◌≡◌, drop}
use Rattle.sv_names.specs.Calls.{items_known}
use Rattle.sv_names.specs.Joined.{joined}
use Rattle.sv_elab_method.proofs.enums.items_known.Given as goal

abbrev pub invariant-loop-declaration : goal.invariant-loop-declaration
invariant-loop-declaration l = joined l.list (items_known l.at (drop l.declaration-index l.known)) ≡ items_known l.at l.known
