-- The objects of nets, and the processes that give them values.
use Rattle.std.proofs.Common.{List, map, refl, sym, subst}
use Rattle.sv_tree.specs.declared.unit.NetItem.{NetItem}
use Rattle.sv_tree.specs.UnitView.{net_item}
use Rattle.sv_names.specs.Views.{around_in}
use Rattle.sv_elab_parts.specs.Adding.{Adding}
use Rattle.sv_elab_walk.specs.Insts.{inst_in}
use Rattle.sv_elab_plain.specs.Parts.{nets_of, net_processes, objects_and_processes}
use Rattle.sv_elab_item.proofs.GivenLaws.{both_given}
use Rattle.sv_elab_item.proofs.items.add_net.Goals as goal

pub returns : goal.returns
returns c =
    let ar = around_in c.args.around.now in
    let g = (inst_in c.args.inst.now).group in
    let x = c.args.so_far.now in
    let os' = c.add_nets-objects.new.objects in
    let ps' = c.add_net_values-values.new.processes in
    let rs' = c.add_net_values-values.new.routines in
    let ds' = c.add_net_values-values.new.before in
    let y = record x { objects = os'; processes = ps'; routines = rs'; drives = ds' } in
    let objects = λ (ns : List NetItem). nets_of ar g (map net_item ns) in
    let processes = λ (ns : List NetItem). net_processes ar (map net_item ns) in
    subst (λ (ns : List NetItem). Adding x y c.sooner.result (objects_and_processes (objects ns) (processes ns)))
    c.as_slice-names.ensures.value
    (subst (λ r. Adding x y r (objects_and_processes (objects c.as_slice-names.result.now) (processes c.as_slice-names.result.now)))
    (sym c.sooner.ensures)
    (both_given x os' ps' rs' ds' c.add_nets-objects.result c.add_net_values-values.result (objects c.as_slice-names.result.now)
    (processes c.as_slice-names.result.now) (c.add_nets-objects.ensures g refl) c.add_net_values-values.ensures))
