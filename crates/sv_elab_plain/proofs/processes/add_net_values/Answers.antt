use Rattle.std.proofs.Common.{List, [], map, refl, sym, subst}
use Rattle.sv_tree.specs.UnitView.{net_item}
use Rattle.sv_names.specs.declared.checked.Checked.{Checked}
use Rattle.sv_names.specs.declared.checked.Checked.TheVariants.{Good}
use Rattle.sv_names.specs.Connections.{Made, net_made}
use Rattle.sv_names.specs.Joined.{joined}
use Rattle.sv_names.specs.Views.{around_in}
use Rattle.sv_names.proofs.Joined.{joined_first}
use Rattle.sv_elab_plain.specs.Adding.{AddsProcesses}
use Rattle.sv_elab_plain.specs.Parts.{net_processes}
use Rattle.sv_elab_plain.proofs.EachLaws.{lists_next, lists_all}
use Rattle.sv_elab_plain.proofs.ProcessLaws.{no_process}
use Rattle.sv_elab_plain.proofs.processes.add_net_values.Goals as goal

pub loop-one-init : goal.loop-one-init
loop-one-init c = (
  Good [],
  ([], refl, no_process c.args.processes.now c.args.routines.now c.args.before.now),
  joined_first (net_processes (around_in c.args.around.now) (map net_item c.args.all.now)),
)

pub loop-one-preserved : goal.loop-one-preserved
loop-one-preserved c =
    let ar = around_in c.args.around.now in
    let kept = c.loop-one.invariant in
    let next = net_made ar (net_item c.one-item.result) in (
      joined kept.0 next,
      c.and_processes-done.ensures c.args.processes.now c.loop-one.processes c.add_any.new.processes
          c.args.routines.now c.loop-one.routines c.net_made-made.new.routines c.args.before.now c.loop-one.before c.net_made-made.new.before
          kept.0 next kept.1
          (c.add_any.ensures c.loop-one.routines c.net_made-made.new.routines c.loop-one.before c.net_made-made.new.before
          (net_made ar (net_item c.one-item.result)) c.net_made-made.ensures),
      lists_next (net_made ar) net_item c.args.all.now c.loop-one.one-index c.one-item.result kept.0
          (net_processes ar (map net_item c.args.all.now)) c.loop-one-test.true (sym c.one-item.is) kept.2,
    )

pub returns : goal.returns
returns c =
    let ar = around_in c.args.around.now in
    let kept = c.loop-one.invariant in
    subst (λ (w : Checked (List Made)).
    AddsProcesses c.args.processes.now c.loop-one.processes c.args.routines.now c.loop-one.routines c.args.before.now c.loop-one.before
    c.loop-one.done w)
    (lists_all (net_made ar) net_item c.args.all.now c.loop-one.one-index kept.0 (net_processes ar (map net_item c.args.all.now))
    c.loop-one-test.false kept.2)
    kept.1
