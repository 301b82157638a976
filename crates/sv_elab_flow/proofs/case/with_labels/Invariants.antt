use Rattle.std.proofs.Common.{◌≡◌, ◌++◌, drop}
use Rattle.sv_tree.specs.StmtView as view
use Rattle.sv_names.specs.Cases as cases
use Rattle.sv_elab_flow.proofs.case.with_labels.Given as goal

abbrev pub invariant-loop-item : goal.invariant-loop-item
invariant-loop-item l =
    l.ids ++ cases.with_labels (view.case_item_list (drop l.item-index l.items)) l.rest ≡ cases.with_labels (view.case_item_list l.items) l.bodies
