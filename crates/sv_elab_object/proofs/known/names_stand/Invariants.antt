use Rattle.std.proofs.Common.{◌≡◌, drop}
use Rattle.sv_names.specs.Checked.{all, ◌where_also◌}
use Rattle.sv_elab_object.specs.Known.{known_stands}
use Rattle.sv_elab_object.proofs.known.names_stand.Given as goal

abbrev pub invariant-loop-one : goal.invariant-loop-one
invariant-loop-one l = (l.guards where_also all known_stands (drop l.one-index l.known)) ≡ all known_stands l.known
