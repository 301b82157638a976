use Rattle.std.proofs.Common.{◌≡◌, List, drop, map}
use Rattle.sv_tree.specs.UnitView.{net_item}
use Rattle.sv_names.specs.declared.checked.Checked.{Checked}
use Rattle.sv_names.specs.Connections.{Made}
use Rattle.sv_names.specs.Joined.{joined}
use Rattle.sv_names.specs.Views.{around_in}
use Rattle.sv_elab_plain.specs.Adding.{AddsProcesses}
use Rattle.sv_elab_plain.specs.Parts.{net_processes}
use Rattle.sv_elab_plain.proofs.processes.add_net_values.Given as goal

abbrev pub invariant-loop-one : goal.invariant-loop-one
invariant-loop-one l =
    (c : Checked (List Made))
    × AddsProcesses l.fn.processes l.processes l.fn.routines l.routines l.fn.before l.before l.done c
    × (joined c (net_processes (around_in l.around) (map net_item (drop l.one-index l.all))) ≡ net_processes (around_in l.around) (map net_item l.all))
