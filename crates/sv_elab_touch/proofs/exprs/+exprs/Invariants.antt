use Rattle.std.proofs.Common.{◌≡◌, ◌++◌, map, drop}
use Rattle.sv_tree.specs.View.{expr_list, suffix_list}
use Rattle.sv_names.specs.Checked.{given}
use Rattle.sv_names.specs.Views.{around_in}
use Rattle.sv_names.specs.Writers.{exprs_touches, suffix_touches}
use Rattle.sv_elab_name.specs.Things.{thing_in}
use Rattle.sv_elab_writers.specs.Views.{touch_in}
use Rattle.sv_elab_touch.proofs.exprs.+exprs.Given as goal

abbrev pub invariant-add_exprs-loop-e : goal.invariant-add_exprs-loop-e
invariant-add_exprs-loop-e l =
    map touch_in l.touches ++ exprs_touches (around_in l.around) (expr_list (drop l.e-index l.items))
    ≡ map touch_in l.initial.touches ++ exprs_touches (around_in l.around) (expr_list l.items)

abbrev pub invariant-add_suffixes-loop-suffix : goal.invariant-add_suffixes-loop-suffix
invariant-add_suffixes-loop-suffix l =
    map touch_in l.touches ++ suffix_touches (around_in l.around) l.place (given thing_in l.thing) (suffix_list (drop l.suffix-index l.suffixes))
    ≡ map touch_in l.initial.touches ++ suffix_touches (around_in l.around) l.place (given thing_in l.initial.thing) (suffix_list l.suffixes)
