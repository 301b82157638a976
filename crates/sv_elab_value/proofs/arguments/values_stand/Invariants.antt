use Rattle.std.proofs.Common.{◌≡◌, drop}
use Rattle.sv_names.specs.Checked.{◌where_also◌}
use Rattle.sv_names.specs.Arguments.{values_stand}
use Rattle.sv_elab_value.proofs.arguments.values_stand.Given as goal

abbrev pub invariant-loop-a : goal.invariant-loop-a
invariant-loop-a l = l.stands where_also values_stand (drop l.a-index l.args) ≡ values_stand l.args
