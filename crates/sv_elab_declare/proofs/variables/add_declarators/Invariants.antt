use Rattle.std.proofs.Common.{◌≡◌, ◌++◌, map, length}
use Rattle.sv_tree.specs.StmtView.{type, declarator}
use Rattle.sv_names.specs.Entries.{declarator_entries}
use Rattle.sv_elab_scope.specs.Views.{entry_in, variable_in}
use Rattle.sv_elab_declare.proofs.variables.add_declarators.Given as goal

abbrev pub invariant-loop-left : goal.invariant-loop-left
invariant-loop-left l =
    map entry_in l.names ++ declarator_entries (variable_in l.held) (type l.of) (map declarator l.left)
    ≡ map entry_in l.initial.names ++ declarator_entries (variable_in l.held) (type l.of) (map declarator l.all)

abbrev pub decreases-loop-left : goal.decreases-loop-left
decreases-loop-left l = length l.left
