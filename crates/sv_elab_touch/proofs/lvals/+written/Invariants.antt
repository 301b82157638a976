use Rattle.std.proofs.Common.{◌≡◌, ◌++◌, map, drop}
use Rattle.sv_tree.specs.StmtView.{lval_list}
use Rattle.sv_names.specs.Expressions.{as_exprs}
use Rattle.sv_names.specs.Views.{around_in}
use Rattle.sv_names.specs.Writers.{targets_touches}
use Rattle.sv_elab_writers.specs.Views.{touch_in}
use Rattle.sv_elab_touch.proofs.lvals.+written.Given as goal

abbrev pub invariant-add_all_written-loop-item : goal.invariant-add_all_written-loop-item
invariant-add_all_written-loop-item l =
    map touch_in l.touches ++ targets_touches l.how (around_in l.around) (as_exprs (lval_list (drop l.item-index l.items)))
    ≡ map touch_in l.initial.touches ++ targets_touches l.how (around_in l.around) (as_exprs (lval_list l.items))
