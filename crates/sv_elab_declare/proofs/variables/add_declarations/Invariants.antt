use Rattle.std.proofs.Common.{◌≡◌, ◌++◌, map, length}
use Rattle.std.specs.Prelude.{flat_map}
use Rattle.sv_tree.specs.StmtView.{decl}
use Rattle.sv_names.specs.Entries.{decl_entries}
use Rattle.sv_elab_scope.specs.Views.{entry_in}
use Rattle.sv_elab_declare.proofs.variables.add_declarations.Given as goal

abbrev pub invariant-loop-left : goal.invariant-loop-left
invariant-loop-left l =
    map entry_in l.names ++ flat_map (decl_entries l.usual) (map decl l.left)
    ≡ map entry_in l.initial.names ++ flat_map (decl_entries l.usual) (map decl l.all)

abbrev pub decreases-loop-left : goal.decreases-loop-left
decreases-loop-left l = length l.left
