use Rattle.std.proofs.Common.{◌≡◌, ◌++◌, map, drop}
use Rattle.sv_tree.specs.View.{expr_list}
use Rattle.sv_names.specs.Views.{around_in}
use Rattle.sv_names.specs.Writers.{targets_touches}
use Rattle.sv_elab_writers.specs.Views.{touch_in}
use Rattle.sv_elab_touch.proofs.targets.+targets.Given as goal

abbrev pub invariant-add_targets-loop-e : goal.invariant-add_targets-loop-e
invariant-add_targets-loop-e l =
    map touch_in l.touches ++ targets_touches l.how (around_in l.around) (expr_list (drop l.e-index l.items))
    ≡ map touch_in l.initial.touches ++ targets_touches l.how (around_in l.around) (expr_list l.items)
