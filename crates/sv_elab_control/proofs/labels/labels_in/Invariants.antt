use Rattle.std.proofs.Common.{◌≡◌, drop}
use Rattle.sv_tree.specs.View.{expr_list}
use Rattle.sv_names.specs.Cases as cases
use Rattle.sv_names.specs.Joined.{joined}
use Rattle.sv_names.specs.Views.{around_in}
use Rattle.sv_elab_control.proofs.labels.labels_in.Given as goal

abbrev pub invariant-loop-e : goal.invariant-loop-e
invariant-loop-e l =
    joined l.done (cases.labels_in (around_in l.place) l.subject (expr_list (drop l.e-index l.list)))
    ≡ cases.labels_in (around_in l.around) l.subject (expr_list l.list)
