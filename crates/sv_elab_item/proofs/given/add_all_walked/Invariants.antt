use Rattle.std.proofs.Common.{◌≡◌, List, drop, map}
use Rattle.sv_tree.specs.UnitView.{description}
use Rattle.sv_names.specs.declared.checked.Checked.{Checked}
use Rattle.sv_names.specs.Items.{GivenParts}
use Rattle.sv_names.specs.Joined.{joined}
use Rattle.sv_names.specs.Views.{around_in}
use Rattle.sv_elab_parts.specs.declared.so_far.SoFar.{SoFar}
use Rattle.sv_elab_parts.specs.Adding.{AddingAll}
use Rattle.sv_elab_walk.specs.Insts.{walked_in}
use Rattle.sv_elab_item.specs.Given.{walked_given}
use Rattle.sv_elab_item.proofs.given.add_all_walked.Given as goal

abbrev pub invariant-loop-step : goal.invariant-loop-step
invariant-loop-step l =
    (start : SoFar) (b : Checked (List GivenParts)) → AddingAll start l.fn.so_far l.fn.before b
    → (c : Checked (List GivenParts)) × AddingAll start l.so_far l.done c
    × (joined c (walked_given (map description l.units) (around_in l.files) (map walked_in (drop l.step-index l.all)))
    ≡ joined b (walked_given (map description l.units) (around_in l.files) (map walked_in l.all)))
