-- One argument after another.
use Rattle.std.proofs.Common.{◌++◌, map, sym}
use Rattle.sv_tree.specs.UnitView.{argument}
use Rattle.sv_names.specs.Views.{around_in}
use Rattle.sv_elab_before.specs.Objects.{objects_of}
use Rattle.sv_elab_before.proofs.ObjectLaws.{argument_next, arguments_all}
use Rattle.sv_elab_before.proofs.objects.add_arguments.Goals as goal

pub loop-one-preserved : goal.loop-one-preserved
loop-one-preserved c =
    let ar = around_in c.args.around.now in
    let s = c.args.scope.now in
    argument_next ar s c.args.of.now c.loop-one.one-index c.one-item.result c.loop-one.objects c.add_argument.new.objects
    (c.args.objects.now ++ objects_of ar s (map argument c.args.of.now)) c.loop-one-test.true (sym c.one-item.is)
    c.in_ok-add_argument.ensures c.loop-one.invariant

pub returns : goal.returns
returns c =
    let ar = around_in c.args.around.now in
    let s = c.args.scope.now in
    arguments_all ar s c.args.of.now c.loop-one.one-index c.loop-one.objects
    (c.args.objects.now ++ objects_of ar s (map argument c.args.of.now)) c.loop-one-test.false c.loop-one.invariant
