use Rattle.std.proofs.Common.{option_map}
use Rattle.sv_tree.specs.StmtView as view
use Rattle.sv_names.specs.Views.{around_in}
use Rattle.sv_elab_variable.proofs.VariableLaws.{object_emitted, opening_failed}
use Rattle.sv_elab_variable.proofs.variables.good_variable.Goals as goal

pub returns-in_ok-add_object-in-Ok : goal.returns-in_ok-add_object-in-Ok
returns-in_ok-add_object-in-Ok c = λ rs.
    object_emitted (around_in c.args.around.now) c.args.name.now (option_map view.init c.args.init.now) c.args.named.now c.in-Ok.initial c.new.result
    rs c.args.objects.now c.add_object.new.objects c.in-Ok.ensures c.in_ok-add_object-in-Ok.ensures c.new.ensures

pub returns-in-Err : goal.returns-in-Err
returns-in-Err c = λ rs.
    opening_failed (around_in c.args.around.now) c.args.name.now (option_map view.init c.args.init.now) c.args.named.now c.in-Err.e c.in-Err.ensures
