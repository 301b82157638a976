-- One after another.
use Rattle.std.proofs.Common.{List, [], map, refl, sym, subst, append-nil}
use Rattle.sv_flat.specs.declared.object.Object.{Object}
use Rattle.sv_tree.specs.UnitView.{class_item}
use Rattle.sv_names.specs.declared.checked.Checked.{Checked}
use Rattle.sv_names.specs.declared.checked.Checked.TheVariants.{Good}
use Rattle.sv_names.specs.Classes.{static_objects}
use Rattle.sv_names.specs.Joined as lists
use Rattle.sv_names.specs.Views.{around_in}
use Rattle.sv_names.proofs.Joined.{joined_first}
use Rattle.sv_elab_member.specs.Statics.{all_statics}
use Rattle.sv_elab_member.specs.Putting.{Placing}
use Rattle.sv_elab_member.proofs.PuttingLaws.{list_next, lists_all}
use Rattle.sv_elab_member.proofs.statics.all_statics.Goals as goal

pub loop-item-init : goal.loop-item-init
loop-item-init c = (
  Good [],
  ([], refl, sym (append-nil c.args.objects.now)),
  joined_first (all_statics (around_in c.args.around.now) c.args.class.now (map class_item c.args.items.now)),
)

pub loop-item-preserved : goal.loop-item-preserved
loop-item-preserved c =
    let ar = around_in c.args.around.now in
    let k = c.args.class.now in
    let whole = all_statics ar k (map class_item c.args.items.now) in
    let before = c.loop-item.invariant.0 in
    let next = static_objects ar k (class_item c.item-item.result) in (
      lists.joined before next,
      c.and_placing-done.ensures c.args.objects.now c.loop-item.objects c.static_objects-next.new.objects before next c.loop-item.invariant.1
          c.static_objects-next.ensures,
      list_next class_item (static_objects ar k) c.args.items.now c.loop-item.item-index c.item-item.result before whole c.loop-item-test.true
          (sym c.item-item.is) c.loop-item.invariant.2,
    )

pub returns : goal.returns
returns c =
    let ar = around_in c.args.around.now in
    let k = c.args.class.now in
    let whole = all_statics ar k (map class_item c.args.items.now) in
    subst (λ (x : Checked (List Object)). Placing c.args.objects.now c.loop-item.objects c.loop-item.done x)
    (lists_all class_item (static_objects ar k) c.args.items.now c.loop-item.item-index c.loop-item.invariant.0 whole c.loop-item-test.false
    c.loop-item.invariant.2) c.loop-item.invariant.1
