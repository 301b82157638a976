use Rattle.std.proofs.Common.{◌≡◌, ◌++◌, map, drop}
use Rattle.sv_tree.specs.StmtView.{lval_list}
use Rattle.sv_names.specs.Expressions.{as_exprs}
use Rattle.sv_names.specs.Views.{around_in}
use Rattle.sv_names.specs.Writers.{exprs_touches}
use Rattle.sv_elab_writers.specs.Views.{touch_in}
use Rattle.sv_elab_touch.proofs.lvals.+read.Given as goal

abbrev pub invariant-add_all_selects-loop-item : goal.invariant-add_all_selects-loop-item
invariant-add_all_selects-loop-item l =
    map touch_in l.touches ++ exprs_touches (around_in l.around) (as_exprs (lval_list (drop l.item-index l.items)))
    ≡ map touch_in l.initial.touches ++ exprs_touches (around_in l.around) (as_exprs (lval_list l.items))
