-- The objects of the ports of an instance.
use Rattle.std.proofs.Common.{◌∙◌, map, refl, ap, subst}
use Rattle.sv_names.specs.Views.{around_in}
use Rattle.sv_elab_parts.specs.Adding.{Adding}
use Rattle.sv_elab_unit.specs.Ports.{port_in}
use Rattle.sv_elab_walk.specs.Insts.{inst_in}
use Rattle.sv_elab_plain.specs.Parts.{only_objects, ports_in}
use Rattle.sv_elab_item.proofs.GivenLaws.{objects_given}
use Rattle.sv_elab_item.proofs.walked.add_inst_ports.Goals as goal

pub returns : goal.returns
returns c =
    let x = c.args.so_far.now in
    let i = inst_in c.args.inst.now in
    let os' = c.add_ports.new.objects in
    let all = ports_in (around_in c.args.around.now) i.group in
    subst (λ ps. Adding x (record x { objects = os' }) c.add_ports.result (only_objects (all ps)))
    (ap (map port_in) c.as_slice.ensures ∙ c.in_ok-ports.ensures refl)
    (objects_given x os' c.add_ports.result (all (map port_in c.as_slice.result.now)) (c.add_ports.ensures i.group refl))
