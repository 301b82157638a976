use Rattle.std.proofs.Common.{[], ◌∷◌, refl}
use Rattle.sv_names.specs.declared.method.Action.TheVariants as action
use Rattle.sv_names.specs.Views.{around_in}
use Rattle.sv_elab_method.specs.Steps as steps
use Rattle.sv_elab_method.proofs.MethodLaws.{push_is, delete_is, walk_is, put_is, get_is, does}
use Rattle.sv_elab_method.proofs.methods.acted_with.Goals as goal

pub returns-in-Push : goal.returns-in-Push
returns-in-Push c =
    let ar = around_in c.args.around.now in
    let at = c.args.at in
    let gives = c.args.gives.now in
    does ar at gives c.args.object (c.args.arg ∷ []) c.push.result (steps.push ar c.in-Push.end c.args.object c.args.arg) c.args.action (action.Push c.in-Push.end) c.in-Push.is
    (push_is ar at gives c.args.object c.args.arg c.in-Push.end) c.push.ensures

pub returns-in-Delete : goal.returns-in-Delete
returns-in-Delete c =
    let ar = around_in c.args.around.now in
    let at = c.args.at in
    let gives = c.args.gives.now in
    does ar at gives c.args.object (c.args.arg ∷ []) c.delete_item.result (steps.delete_item ar c.args.object c.args.arg) c.args.action action.Delete c.in-Delete.is
    (delete_is ar at gives c.args.object c.args.arg) c.delete_item.ensures

pub returns-in-Walk : goal.returns-in-Walk
returns-in-Walk c =
    let ar = around_in c.args.around.now in
    let at = c.args.at in
    let gives = c.args.gives.now in
    does ar at gives c.args.object (c.args.arg ∷ []) c.walk.result (steps.walk ar c.in-Walk.step c.args.object c.args.arg) c.args.action (action.Walk c.in-Walk.step) c.in-Walk.is
    (walk_is ar at gives c.args.object c.args.arg c.in-Walk.step) c.walk.ensures

pub returns-in-Put : goal.returns-in-Put
returns-in-Put c =
    let ar = around_in c.args.around.now in
    let at = c.args.at in
    let gives = c.args.gives.now in
    does ar at gives c.args.object (c.args.arg ∷ []) c.put.result (steps.put ar c.in-Put.waits gives c.args.object c.args.arg) c.args.action (action.Put c.in-Put.waits) c.in-Put.is
    (put_is ar at gives c.args.object c.args.arg c.in-Put.waits) c.put.ensures

pub returns-in-Get : goal.returns-in-Get
returns-in-Get c =
    let ar = around_in c.args.around.now in
    let at = c.args.at in
    let gives = c.args.gives.now in
    does ar at gives c.args.object (c.args.arg ∷ []) c.get.result (steps.get ar c.in-Get.peeks c.in-Get.waits gives c.args.object c.args.arg) c.args.action (action.Get c.in-Get.peeks c.in-Get.waits) c.in-Get.is
    (get_is ar at gives c.args.object c.args.arg c.in-Get.peeks c.in-Get.waits) c.get.ensures

pub returns-in-Exists : goal.returns-in-Exists
returns-in-Exists c =
    let ar = around_in c.args.around.now in
    let gives = c.args.gives.now in
    does ar c.args.at gives c.args.object (c.args.arg ∷ []) c.exists.result _ c.args.action action.Exists c.in-Exists.is refl (c.exists.ensures gives)
