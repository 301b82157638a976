use Rattle.std.proofs.Common.{◌≡◌, ◌++◌, map, drop}
use Rattle.sv_tree.specs.StmtView as view
use Rattle.sv_names.specs.Views.{around_in}
use Rattle.sv_names.specs.Writers.{stmts_touches, items_touches}
use Rattle.sv_elab_writers.specs.Views.{touch_in}
use Rattle.sv_elab_act.proofs.statement.+stmt.Given as goal

abbrev pub invariant-add_stmts-loop-x : goal.invariant-add_stmts-loop-x
invariant-add_stmts-loop-x l =
    map touch_in l.touches ++ stmts_touches (around_in l.place) (view.stmt_list (drop l.x-index l.list))
    ≡ map touch_in l.initial.touches ++ stmts_touches (around_in l.around) (view.stmt_list l.list)

abbrev pub invariant-add_items-loop-x : goal.invariant-add_items-loop-x
invariant-add_items-loop-x l =
    map touch_in l.touches ++ items_touches (around_in l.place) (view.case_item_list (drop l.x-index l.list))
    ≡ map touch_in l.initial.touches ++ items_touches (around_in l.around) (view.case_item_list l.list)
