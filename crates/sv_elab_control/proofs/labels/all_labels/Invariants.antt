use Rattle.std.proofs.Common.{◌≡◌, drop}
use Rattle.sv_tree.specs.StmtView as view
use Rattle.sv_names.specs.Cases as cases
use Rattle.sv_names.specs.Joined.{joined}
use Rattle.sv_names.specs.Views.{around_in}
use Rattle.sv_elab_control.proofs.labels.all_labels.Given as goal

abbrev pub invariant-loop-item : goal.invariant-loop-item
invariant-loop-item l =
    joined l.done (cases.all_labels (around_in l.place) l.subject (view.case_item_list (drop l.item-index l.items)))
    ≡ cases.all_labels (around_in l.around) l.subject (view.case_item_list l.items)
