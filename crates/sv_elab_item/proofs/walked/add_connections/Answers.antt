-- The processes of port connections.
use Rattle.std.proofs.Common.{◌∙◌, map, refl, ap, subst}
use Rattle.sv_tree.specs.UnitView.{connection}
use Rattle.sv_names.specs.Checked.{each}
use Rattle.sv_names.specs.Connections.{port_link}
use Rattle.sv_names.specs.Instances.{ports_of}
use Rattle.sv_names.specs.Views.{around_in}
use Rattle.sv_elab_parts.specs.Adding.{Adding}
use Rattle.sv_elab_unit.specs.Definitions.{names_in}
use Rattle.sv_elab_unit.specs.Ports.{port_in}
use Rattle.sv_elab_walk.specs.Insts.{inst_in}
use Rattle.sv_elab_plain.specs.Parts.{only_processes, link_processes}
use Rattle.sv_elab_item.proofs.GivenLaws.{links_are, processes_given}
use Rattle.sv_elab_item.proofs.walked.add_connections.Goals as goal

pub returns : goal.returns
returns c =
    let x = c.args.so_far.now in
    let ar = around_in c.args.around.now in
    let i = inst_in c.args.inner.now in
    let cs = map connection c.args.list.now in
    let ps' = c.add_links.new.processes in
    let rs' = c.add_links.new.routines in
    let ds' = c.add_links.new.before in
    let y = record x { processes = ps'; routines = rs'; drives = ds' } in
    subst (λ p. Adding x y c.add_links.result p)
    (ap (λ ps. only_processes (link_processes ar i cs ps)) (ap (map port_in) c.as_slice-2.ensures ∙ c.in_ok-ports.ensures refl)
    ∙ links_are (each (port_link ar i cs) (ports_of i.unit.element)))
    (processes_given x ps' rs' ds' c.add_links.result (link_processes ar i cs (map port_in c.as_slice-2.result.now))
    (c.add_links.ensures i refl (ap names_in c.as_slice.ensures ∙ c.in_ok-names.ensures)))
