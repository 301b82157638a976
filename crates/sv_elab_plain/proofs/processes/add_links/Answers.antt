use Rattle.std.proofs.Common.{List, [], map, refl, sym, subst}
use Rattle.sv_tree.specs.UnitView.{connection}
use Rattle.sv_names.specs.declared.checked.Checked.{Checked}
use Rattle.sv_names.specs.declared.checked.Checked.TheVariants.{Good}
use Rattle.sv_names.specs.Connections.{Made, port_link}
use Rattle.sv_names.specs.Joined.{joined}
use Rattle.sv_names.specs.Views.{around_in}
use Rattle.sv_names.proofs.Joined.{joined_first}
use Rattle.sv_elab_unit.specs.Ports.{port_in}
use Rattle.sv_elab_plain.specs.Adding.{AddsProcesses}
use Rattle.sv_elab_plain.specs.Parts.{link_processes}
use Rattle.sv_elab_plain.proofs.EachLaws.{lists_next, lists_all}
use Rattle.sv_elab_plain.proofs.ProcessLaws.{no_process}
use Rattle.sv_elab_plain.proofs.processes.add_links.Goals as goal

pub loop-port-init : goal.loop-port-init
loop-port-init c = λ i scope names. (
  Good [],
  ([], refl, no_process c.args.processes.now c.args.routines.now c.args.before.now),
  joined_first (link_processes (around_in c.args.around.now) i (map connection c.args.all.now) (map port_in c.args.ports.now)),
)

pub loop-port-preserved : goal.loop-port-preserved
loop-port-preserved c = λ i scope names.
    let ar = around_in c.args.around.now in
    let cs = map connection c.args.all.now in
    let kept = c.loop-port.invariant i scope names in
    let next = port_link ar i cs (port_in c.port-item.result) in (
      joined kept.0 next,
      c.and_processes-done.ensures c.args.processes.now c.loop-port.processes c.add_any.new.processes
          c.args.routines.now c.loop-port.routines c.port_link-made.new.routines c.args.before.now c.loop-port.before c.port_link-made.new.before
          kept.0 next kept.1
          (c.add_any.ensures c.loop-port.routines c.port_link-made.new.routines c.loop-port.before c.port_link-made.new.before next
          (c.port_link-made.ensures i scope names)),
      lists_next (port_link ar i cs) port_in c.args.ports.now c.loop-port.port-index c.port-item.result kept.0
          (link_processes ar i cs (map port_in c.args.ports.now)) c.loop-port-test.true (sym c.port-item.is) kept.2,
    )

pub returns : goal.returns
returns c = λ i scope names.
    let ar = around_in c.args.around.now in
    let cs = map connection c.args.all.now in
    let kept = c.loop-port.invariant i scope names in
    subst (λ (w : Checked (List Made)).
    AddsProcesses c.args.processes.now c.loop-port.processes c.args.routines.now c.loop-port.routines c.args.before.now c.loop-port.before
    c.loop-port.done w)
    (lists_all (port_link ar i cs) port_in c.args.ports.now c.loop-port.port-index kept.0 (link_processes ar i cs (map port_in c.args.ports.now))
    c.loop-port-test.false kept.2)
    kept.1
