-- The rules on an item with instances guard nothing.
use Rattle.std.proofs.Common.{◌∙◌, List, Option, map, refl, sym, ap, subst}
use Rattle.sv_tree.specs.declared.unit.Connection.{Connection}
use Rattle.sv_tree.specs.UnitView.{connection, description, instances}
use Rattle.sv_names.specs.declared.checked.Checked.TheVariants.{Good}
use Rattle.sv_names.specs.Checked.{◌where_also◌}
use Rattle.sv_names.specs.Connections.{connections_stand}
use Rattle.sv_names.specs.Given.{Gives}
use Rattle.sv_names.specs.Instances.{Definition, definition_named}
use Rattle.sv_names.specs.Items.{nothing, instances_stand}
use Rattle.sv_names.specs.Views.{around_in}
use Rattle.sv_elab_unit.specs.Definitions.{names_in}
use Rattle.sv_elab_walk.specs.Insts.{inst_in}
use Rattle.sv_elab_plain.proofs.CommonLaws.{nothing_added}
use Rattle.sv_elab_item.proofs.items.add_instances.Goals as goal

pub returns : goal.returns
returns c =
    let ar = around_in c.args.around.now in
    let us = map description c.args.units.now in
    let i = inst_in c.args.inst.now in
    let x = c.args.so_far.now in
    let of = instances c.args.of.now in
    let unit = c.named-unit.ensures ∙ ap (λ n. definition_named n us) c.bytes.ensures in
    let stand = instances_stand ar i of (definition_named of.of.text us) in
    let values = connections_stand ar of.params in
    c.guarded_adding.ensures x x (Good nothing where_also stand) values
    (c.guarded_adding-guarded.ensures x x (Good nothing) stand (nothing, refl, nothing_added x)
    (subst (λ (u : Option Definition). Gives c.instances_stand-stand.result (instances_stand ar i of u)) unit
    (c.instances_stand-stand.ensures i (ap names_in (sym c.as_slice.ensures)))))
    (subst (λ (cs : List Connection). Gives c.connections_stand.result (connections_stand ar (map connection cs))) c.as_slice-2.ensures.value
    c.connections_stand.ensures)
