use Rattle.std.proofs.Common.{◌≡◌, drop, map}
use Rattle.sv_tree.specs.StmtView.{event_part}
use Rattle.sv_names.specs.Checked.{each}
use Rattle.sv_names.specs.Events.{watch_of}
use Rattle.sv_names.specs.Joined.{joined}
use Rattle.sv_names.specs.Views.{around_in}
use Rattle.sv_elab_event.proofs.controls.all_parts.Given as goal

abbrev pub invariant-loop-part : goal.invariant-loop-part
invariant-loop-part l =
    joined l.list (each (watch_of (around_in l.around)) (map event_part (drop l.part-index l.parts)))
    ≡ each (watch_of (around_in l.around)) (map event_part l.parts)
