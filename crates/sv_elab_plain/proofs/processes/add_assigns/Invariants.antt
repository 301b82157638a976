use Rattle.std.proofs.Common.{◌≡◌, List, drop, map}
use Rattle.sv_tree.specs.UnitView.{assign_item}
use Rattle.sv_names.specs.declared.checked.Checked.{Checked}
use Rattle.sv_names.specs.Connections.{Made}
use Rattle.sv_names.specs.Joined.{joined}
use Rattle.sv_names.specs.Views.{around_in}
use Rattle.sv_elab_plain.specs.Adding.{AddsProcesses}
use Rattle.sv_elab_plain.specs.Parts.{assign_processes}
use Rattle.sv_elab_plain.proofs.processes.add_assigns.Given as goal

abbrev pub invariant-loop-one : goal.invariant-loop-one
invariant-loop-one l =
    (c : Checked (List Made))
    × AddsProcesses l.fn.processes l.processes l.fn.routines l.routines l.fn.before l.before l.done c
    × (joined c (assign_processes (around_in l.around) (map assign_item (drop l.one-index l.all))) ≡ assign_processes (around_in l.around) (map assign_item l.all))
