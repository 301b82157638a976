-- One after another.
use Rattle.std.proofs.Common.{List, [], map, refl, sym, subst, append-nil}
use Rattle.sv_flat.specs.declared.object.Object.{Object}
use Rattle.sv_tree.specs.StmtView.{declarator}
use Rattle.sv_names.specs.declared.checked.Checked.{Checked}
use Rattle.sv_names.specs.declared.checked.Checked.TheVariants.{Good}
use Rattle.sv_names.specs.Classes.{static_object}
use Rattle.sv_names.specs.Joined as lists
use Rattle.sv_names.specs.Views.{around_in}
use Rattle.sv_names.proofs.Joined.{joined_first}
use Rattle.sv_elab_member.specs.Statics.{static_names}
use Rattle.sv_elab_member.specs.Putting.{Placing}
use Rattle.sv_elab_member.proofs.PuttingLaws.{list_next, lists_all}
use Rattle.sv_elab_member.proofs.statics.static_names.Goals as goal

pub loop-one-init : goal.loop-one-init
loop-one-init c = (
  Good [],
  ([], refl, sym (append-nil c.args.objects.now)),
  joined_first (static_names (around_in c.args.around.now) c.args.class.now (map declarator c.args.names.now)),
)

pub loop-one-preserved : goal.loop-one-preserved
loop-one-preserved c =
    let ar = around_in c.args.around.now in
    let k = c.args.class.now in
    let whole = static_names ar k (map declarator c.args.names.now) in
    let before = c.loop-one.invariant.0 in
    let next = static_object ar k (declarator c.one-item.result) in (
      lists.joined before next,
      c.and_placing-done.ensures c.args.objects.now c.loop-one.objects c.static_object-next.new.objects before next c.loop-one.invariant.1
          c.static_object-next.ensures,
      list_next declarator (static_object ar k) c.args.names.now c.loop-one.one-index c.one-item.result before whole c.loop-one-test.true
          (sym c.one-item.is) c.loop-one.invariant.2,
    )

pub returns : goal.returns
returns c =
    let ar = around_in c.args.around.now in
    let k = c.args.class.now in
    let whole = static_names ar k (map declarator c.args.names.now) in
    subst (λ (x : Checked (List Object)). Placing c.args.objects.now c.loop-one.objects c.loop-one.done x)
    (lists_all declarator (static_object ar k) c.args.names.now c.loop-one.one-index c.loop-one.invariant.0 whole c.loop-one-test.false
    c.loop-one.invariant.2) c.loop-one.invariant.1
