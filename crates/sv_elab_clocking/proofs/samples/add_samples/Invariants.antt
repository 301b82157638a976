use Rattle.std.proofs.Common.{◌≡◌, ◌++◌, length}
use Rattle.sv_names.specs.Clockings.{sample_objects}
use Rattle.sv_names.specs.Views.{around_in}
use Rattle.sv_elab_clocking.proofs.samples.add_samples.Given as goal

abbrev pub invariant-loop-left : goal.invariant-loop-left
invariant-loop-left l =
    l.objects ++ sample_objects (around_in l.around) l.left ≡ l.initial.objects ++ sample_objects (around_in l.around) l.infos

abbrev pub decreases-loop-left : goal.decreases-loop-left
decreases-loop-left l = length l.left
