use Rattle.std.proofs.Common.{◌∙◌, List, map, ap, refl, sym}
use Rattle.sv_tree.specs.UnitView.{connection, design_element}
use Rattle.sv_names.specs.Views.{around_in}
use Rattle.sv_elab_unit.specs.Definitions.{names_in}
use Rattle.sv_elab_unit.specs.declared.ports.PortInfo.{PortInfo}
use Rattle.sv_elab_unit.specs.Ports.{port_in}
use Rattle.sv_elab_writers.specs.Views.{process_in}
use Rattle.sv_elab_met.specs.Met as words
use Rattle.sv_elab_met.proofs.BehindLaws.{turn_behind}
use Rattle.sv_elab_met.proofs.ports.port_processes.Goals as goal

pub loop-port-preserved : goal.loop-port-preserved
loop-port-preserved c =
    let ar = around_in c.args.around.now in
    let u = design_element c.args.of.now in
    let cs = map connection c.args.all.now in
    turn_behind process_in (λ (ps : List PortInfo). words.port_processes ar u cs (map port_in ps)) c.as_slice-list.result.now c.loop-port.port-index c.port-item.result
    c.loop-port.done c.add_port.new.list (words.port_process ar u cs (port_in c.port-item.result)) c.loop-port-test.true (sym c.port-item.is) refl
    (c.in_ok-add_port.ensures u (ap names_in c.as_slice.ensures ∙ c.in_ok-names.ensures))
    ∙ c.loop-port.invariant
