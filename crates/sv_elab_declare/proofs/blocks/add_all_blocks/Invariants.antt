use Rattle.std.proofs.Common.{◌≡◌, ◌++◌, map, drop}
use Rattle.sv_tree.specs.StmtView.{stmt_list}
use Rattle.sv_names.specs.Entries.{blocks_of}
use Rattle.sv_elab_scope.specs.Views.{entry_in}
use Rattle.sv_elab_declare.proofs.blocks.add_all_blocks.Given as goal

abbrev pub invariant-loop-one : goal.invariant-loop-one
invariant-loop-one l =
    map entry_in l.names ++ blocks_of (stmt_list (drop l.one-index l.all))
    ≡ map entry_in l.initial.names ++ blocks_of (stmt_list l.all)
