use Rattle.std.proofs.Common.{◌≡◌, ◌++◌}
use Rattle.std.specs.Prelude.{filter}
use Rattle.sv_names.specs.Connections.{is_of_object}
use Rattle.sv_elab_drive.proofs.watched.of_objects.Given as goal

abbrev pub invariant-loop-operand : goal.invariant-loop-operand
invariant-loop-operand l = l.kept ++ filter is_of_object l.operand-iterator.rest.items ≡ filter is_of_object l.fn.operands
