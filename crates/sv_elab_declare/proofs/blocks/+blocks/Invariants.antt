use Rattle.std.proofs.Common.{◌≡◌, ◌++◌, map, drop}
use Rattle.sv_tree.specs.StmtView.{case_item_list}
use Rattle.sv_names.specs.Entries.{blocks_of_items}
use Rattle.sv_elab_scope.specs.Views.{entry_in}
use Rattle.sv_elab_declare.proofs.blocks.+blocks.Given as goal

abbrev pub invariant-add_case_blocks-loop-item : goal.invariant-add_case_blocks-loop-item
invariant-add_case_blocks-loop-item l =
    map entry_in l.names ++ blocks_of_items (case_item_list (drop l.item-index l.items))
    ≡ map entry_in l.initial.names ++ blocks_of_items (case_item_list l.items)
