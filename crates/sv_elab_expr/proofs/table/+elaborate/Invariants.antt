use Rattle.std.proofs.Common.{◌≡◌, ◌++◌, drop, length}
use Rattle.sv_tree.specs.View.{expr_list, suffix_list}
use Rattle.sv_names.specs.Checked.{given}
use Rattle.sv_names.specs.Expressions.{args, things, targets_in, before_select}
use Rattle.sv_names.specs.Views.{around_in}
use Rattle.sv_elab_name.specs.Things.{thing_in}
use Rattle.sv_elab_step.specs.Before.{or_else}
use Rattle.sv_elab_expr.proofs.table.+elaborate.Given as goal

abbrev pub invariant-args-loop-e : goal.invariant-args-loop-e
invariant-args-loop-e l =
    l.done ++ args (around_in l.place) l.outputs (expr_list (drop l.e-index l.actuals))
    ≡ args (around_in l.around) l.initial.outputs (expr_list l.actuals)

abbrev pub invariant-behind_root-loop-suffix : goal.invariant-behind_root-loop-suffix
invariant-behind_root-loop-suffix l =
    things (around_in l.around) l.place (given thing_in l.thing) (suffix_list (drop l.suffix-index l.suffixes))
    ≡ things (around_in l.around) l.place (given thing_in l.initial.thing) (suffix_list l.suffixes)

abbrev pub invariant-targets_in-loop-e : goal.invariant-targets_in-loop-e
invariant-targets_in-loop-e l =
    l.done.items ++ targets_in l.how (around_in l.place) (expr_list (drop l.e-index l.items))
    ≡ targets_in l.how (around_in l.around) (expr_list l.items)

abbrev pub invariant-target_followed-loop-suffix : goal.invariant-target_followed-loop-suffix
invariant-target_followed-loop-suffix l =
    (l.left ≡ length (drop l.suffix-index l.suffixes))
    × (things (around_in l.around) l.place (given thing_in l.thing) (suffix_list (drop l.suffix-index l.suffixes))
    ≡ things (around_in l.around) l.place (given thing_in l.initial.thing) (suffix_list l.suffixes))
    × (or_else l.before (before_select (around_in l.around) l.place (given thing_in l.thing) (suffix_list (drop l.suffix-index l.suffixes)))
    ≡ before_select (around_in l.around) l.place (given thing_in l.initial.thing) (suffix_list l.suffixes))
