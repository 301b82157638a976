use Rattle.std.proofs.Common.{◌≡◌, drop, map}
use Rattle.sv_names.specs.Groups.{class_among}
use Rattle.sv_elab_scope.specs.Views.{entry_in}
use Rattle.sv_elab_class.proofs.bases.class_among.Given as goal

abbrev pub invariant-loop-entry : goal.invariant-loop-entry
invariant-loop-entry l = class_among l.name (map entry_in (drop l.entry-index l.entries)) ≡ class_among l.name (map entry_in l.entries)
