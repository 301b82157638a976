-- One declaration after another.
use Rattle.std.proofs.Common.{◌++◌, sym}
use Rattle.std.specs.Prelude.{flat_map}
use Rattle.sv_names.specs.Classes.{property_entry}
use Rattle.sv_names.specs.Views.{around_in}
use Rattle.sv_elab_member.proofs.FlatLaws.{entry_next, entries_all}
use Rattle.sv_elab_member.proofs.flat.add_properties.Goals as goal

pub loop-one-preserved : goal.loop-one-preserved
loop-one-preserved c =
    let ar = around_in c.args.around.now in
    entry_next ar c.args.known.now c.loop-one.one-index c.one-item.result c.loop-one.variables c.add_property.new.variables
    (c.args.variables.now ++ flat_map (property_entry ar) c.args.known.now) c.loop-one-test.true (sym c.one-item.is)
    c.in_ok-add_property.ensures c.loop-one.invariant

pub returns : goal.returns
returns c =
    let ar = around_in c.args.around.now in
    entries_all ar c.args.known.now c.loop-one.one-index c.loop-one.variables
    (c.args.variables.now ++ flat_map (property_entry ar) c.args.known.now) c.loop-one-test.false c.loop-one.invariant
