use Rattle.std.proofs.Common.{List, [], map, refl, sym, subst, append-nil}
use Rattle.sv_flat.specs.declared.object.Object.{Object}
use Rattle.sv_tree.specs.UnitView.{net_item}
use Rattle.sv_names.specs.declared.checked.Checked.{Checked}
use Rattle.sv_names.specs.declared.checked.Checked.TheVariants.{Good}
use Rattle.sv_names.specs.Items.{net_object}
use Rattle.sv_names.specs.Joined.{joined}
use Rattle.sv_names.specs.Views.{around_in}
use Rattle.sv_names.proofs.Joined.{joined_first}
use Rattle.sv_elab_plain.specs.Adding.{AddsObjects}
use Rattle.sv_elab_plain.specs.Parts.{nets_of}
use Rattle.sv_elab_plain.proofs.EachLaws.{lists_next, lists_all}
use Rattle.sv_elab_plain.proofs.objects.add_nets.Goals as goal

pub loop-one-init : goal.loop-one-init
loop-one-init c = λ g is.
    let ar = around_in c.args.around.now in
    (Good [], ([], refl, sym (append-nil c.args.objects.now)), joined_first (nets_of ar g (map net_item c.args.all.now)))

pub loop-one-preserved : goal.loop-one-preserved
loop-one-preserved c = λ g is.
    let ar = around_in c.args.around.now in
    let kept = c.loop-one.invariant g is in
    let next = net_object ar g (net_item c.one-item.result) in (
      joined kept.0 next,
      c.and_objects-done.ensures c.args.objects.now c.loop-one.objects c.add_net-next.new.objects kept.0 next kept.1 (c.add_net-next.ensures g is),
      lists_next (net_object ar g) net_item c.args.all.now c.loop-one.one-index c.one-item.result kept.0 (nets_of ar g (map net_item c.args.all.now))
          c.loop-one-test.true (sym c.one-item.is) kept.2,
    )

pub returns : goal.returns
returns c = λ g is.
    let ar = around_in c.args.around.now in
    let kept = c.loop-one.invariant g is in
    subst (λ (w : Checked (List Object)). AddsObjects c.args.objects.now c.loop-one.objects c.loop-one.done w)
    (lists_all (net_object ar g) net_item c.args.all.now c.loop-one.one-index kept.0 (nets_of ar g (map net_item c.args.all.now)) c.loop-one-test.false kept.2)
    kept.1
