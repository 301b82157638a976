-- An item by its form.
use Rattle.std.proofs.Common.{map, refl, sym, subst}
use Rattle.sv_tree.specs.UnitView.{description, item}
use Rattle.sv_tree.specs.declared.unit.Item.{Item}
use Rattle.sv_names.specs.declared.checked.Checked.{Checked}
use Rattle.sv_names.specs.declared.checked.Checked.TheVariants.{Good}
use Rattle.sv_names.specs.Items.{GivenParts, nothing, common_parts, item_parts}
use Rattle.sv_names.specs.Types.{Path}
use Rattle.sv_names.specs.Views.{around_in}
use Rattle.sv_elab_parts.specs.Adding.{Adding}
use Rattle.sv_elab_walk.specs.Insts.{inst_in}
use Rattle.sv_elab_plain.specs.Parts.{default_stands}
use Rattle.sv_elab_plain.proofs.CommonLaws.{nothing_added}
use Rattle.sv_elab_item.proofs.ItemLaws.{other_item}
use Rattle.sv_elab_item.proofs.items.add_item.Goals as goal

pub returns-in-DefaultClocking : goal.returns-in-DefaultClocking
returns-in-DefaultClocking c =
    let ar = around_in c.args.around.now in
    let x = c.args.so_far.now in
    subst (λ (i : Item). Adding x x c.guarded_adding.result (item_parts (map description c.args.units.now) ar (inst_in c.args.inst.now) (item i)))
    (sym c.in-DefaultClocking.is)
    (c.guarded_adding.ensures x x (Good nothing) (default_stands ar c.in-DefaultClocking.name) (nothing, refl, nothing_added x)
    c.default_stands.ensures)

pub returns-in_default : goal.returns-in_default
returns-in_default c =
    let d = c.in_default in
    subst (λ (p : Checked GivenParts). Adding c.args.so_far.now c.add_common.new.so_far c.add_common.result p)
    (other_item (map description c.args.units.now) (around_in c.args.around.now) (inst_in c.args.inst.now) c.args.one.now d.not-Decl d.not-Net d.not-Assign
    d.not-Procedure d.not-Instances d.not-Clocking d.not-DefaultClocking)
    (subst (λ (p : Path). Adding c.args.so_far.now c.add_common.new.so_far c.add_common.result (common_parts (around_in c.args.around.now) p (item c.args.one.now)))
    c.as_slice-in_default.ensures c.add_common.ensures)
