-- Objects, subroutines and the class, and the rules on it.
use Rattle.std.proofs.Common.{map, refl, subst}
use Rattle.sv_tree.specs.UnitView.{class, class_item}
use Rattle.sv_names.specs.declared.checked.Checked.{Checked}
use Rattle.sv_names.specs.Checked.{◌where_also◌}
use Rattle.sv_names.specs.Classes.{class_stands}
use Rattle.sv_names.specs.Items.{GivenParts}
use Rattle.sv_names.specs.Views.{around_in}
use Rattle.sv_elab_parts.specs.Adding.{Adding}
use Rattle.sv_elab_member.specs.Parts.{given_by, subroutines_of}
use Rattle.sv_elab_member.specs.Statics.{all_statics}
use Rattle.sv_elab_member.proofs.classes.class_inside.Goals as goal

pub returns : goal.returns
returns c =
    let i = around_in c.args.inner.now in
    let k = c.args.class.now in
    let o = class c.args.of.now in
    let a = c.args.so_far.now in
    let d = c.class_put-put.new.so_far in
    let b = record a { objects = c.all_statics-statics.new.objects } in
    let items = c.as_slice-items.ensures.value in
    let put = c.class_put-put.ensures a b _ _ refl c.all_statics-statics.ensures c.subroutines_put-subroutines.ensures in
    subst (λ (x : Checked GivenParts). Adding a d c.guarded_adding.result (x where_also class_stands i k o))
    (λ j.
    given_by (c.as_slice-path.ensures j) (c.in_ok-flat.ensures j) (all_statics i k (map class_item (items j)))
    (subroutines_of i k (map class_item (items j)))) (c.guarded_adding.ensures a d _ _ put c.class_stands.ensures)
