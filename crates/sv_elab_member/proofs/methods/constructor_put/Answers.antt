-- The routine of the constructor stands behind the others, by the name `new` in its class.
use Rattle.std.proofs.Common.{◌∙◌, map, sym, ap}
use Rattle.sv_tree.specs.UnitView.{class_item}
use Rattle.sv_names.specs.Classes.{constructor_of}
use Rattle.sv_names.specs.Subroutines.{constructor_path}
use Rattle.sv_names.specs.Views.{around_in}
use Rattle.sv_elab_member.proofs.MethodLaws.{constructor_named, put_given}
use Rattle.sv_elab_member.proofs.methods.constructor_put.Goals as goal

pub returns-in_ok-add_subroutine-in-Ok : goal.returns-in_ok-add_subroutine-in-Ok
returns-in_ok-add_subroutine-in-Ok c =
    let ar = around_in c.args.around.now in
    let k = c.args.class.now in
    let items = map class_item c.args.items.now in
    put_given (constructor_of ar k items items) c.args.so_far.now c.add_subroutine.new.self c.in_ok-path.path c.constructor_made-routine.new.routines
    c.constructor_made-routine.new.objects c.in-Ok.routine
    (λ m is. constructor_named ar k items items m is ∙ sym (c.in_ok-path.ensures ∙ ap constructor_path c.as_slice.ensures)) c.in-Ok.ensures
    c.in_ok-add_subroutine-in-Ok.ensures
