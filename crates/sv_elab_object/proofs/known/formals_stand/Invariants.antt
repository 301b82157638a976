use Rattle.std.proofs.Common.{◌≡◌, drop}
use Rattle.sv_names.specs.Checked.{all, ◌where_also◌}
use Rattle.sv_elab_object.specs.Known.{formal_stands}
use Rattle.sv_elab_object.proofs.known.formals_stand.Given as goal

abbrev pub invariant-loop-formal : goal.invariant-loop-formal
invariant-loop-formal l = (l.guards where_also all formal_stands (drop l.formal-index l.formals)) ≡ all formal_stands l.formals
