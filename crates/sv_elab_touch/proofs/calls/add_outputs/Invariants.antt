use Rattle.std.proofs.Common.{◌≡◌, ◌++◌, map, drop}
use Rattle.sv_tree.specs.View.{expr_list}
use Rattle.sv_names.specs.Views.{around_in}
use Rattle.sv_names.specs.Writers.{output_touches}
use Rattle.sv_elab_writers.specs.Views.{touch_in}
use Rattle.sv_elab_touch.proofs.calls.add_outputs.Given as goal

abbrev pub invariant-loop-e : goal.invariant-loop-e
invariant-loop-e l =
    map touch_in l.touches ++ output_touches (around_in l.around) l.left (expr_list (drop l.e-index l.actuals))
    ≡ map touch_in l.initial.touches ++ output_touches (around_in l.around) l.formals (expr_list l.actuals)
