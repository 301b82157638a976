use Rattle.std.proofs.Common.{◌≡◌, drop, map}
use Rattle.sv_names.specs.Classes.{is_declared}
use Rattle.sv_elab_scope.specs.Views.{entry_in}
use Rattle.sv_elab_class.proofs.announced.is_declared.Given as goal

abbrev pub invariant-loop-entry : goal.invariant-loop-entry
invariant-loop-entry l = is_declared l.name (map entry_in (drop l.entry-index l.entries)) ≡ is_declared l.name (map entry_in l.entries)
