use Rattle.std.proofs.Common.{◌≡◌, ◌++◌, drop, map}
use Rattle.sv_tree.specs.UnitView.{argument}
use Rattle.sv_names.specs.Views.{around_in}
use Rattle.sv_elab_before.specs.Objects.{objects_of}
use Rattle.sv_elab_before.proofs.objects.add_arguments.Given as goal

abbrev pub invariant-loop-one : goal.invariant-loop-one
invariant-loop-one l =
    l.objects ++ objects_of (around_in l.around) l.scope (map argument (drop l.one-index l.of))
    ≡ l.fn.objects ++ objects_of (around_in l.around) l.scope (map argument l.of)
