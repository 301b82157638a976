use Rattle.std.proofs.Common.{◌≡◌, List, drop, map}
use Rattle.sv_tree.specs.UnitView.{connection}
use Rattle.sv_names.specs.declared.checked.Checked.{Checked}
use Rattle.sv_names.specs.Connections.{Made}
use Rattle.sv_names.specs.Instances.{Inst, port_names}
use Rattle.sv_names.specs.Joined.{joined}
use Rattle.sv_names.specs.Views.{around_in}
use Rattle.sv_elab_unit.specs.Definitions.{names_in}
use Rattle.sv_elab_unit.specs.Ports.{port_in}
use Rattle.sv_elab_plain.specs.Adding.{AddsProcesses}
use Rattle.sv_elab_plain.specs.Parts.{link_processes}
use Rattle.sv_elab_plain.proofs.processes.add_links.Given as goal

abbrev pub invariant-loop-port : goal.invariant-loop-port
invariant-loop-port l =
    (i : Inst) → i.group.scope ≡ l.scope → names_in l.names ≡ port_names i.unit.element
    → (c : Checked (List Made))
    × AddsProcesses l.fn.processes l.processes l.fn.routines l.routines l.fn.before l.before l.done c
    × (joined c (link_processes (around_in l.around) i (map connection l.all) (map port_in (drop l.port-index l.ports)))
    ≡ link_processes (around_in l.around) i (map connection l.all) (map port_in l.ports))
