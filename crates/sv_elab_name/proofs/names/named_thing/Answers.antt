use Rattle.std.proofs.Common.{rules, false}
use Rattle.sv_names.specs.Views.{around_in}
use Rattle.sv_elab_name.proofs.names.named_thing.Goals as goal

pub returns-in-Input : goal.returns-in-Input
returns-in-Input c = let given = c.input.ensures c.in-Input.is_net in search rules

pub returns-in-StaticProperty : goal.returns-in-StaticProperty
returns-in-StaticProperty c = let given = c.static_property.ensures false in search rules

pub returns-in-Constant : goal.returns-in-Constant
returns-in-Constant c = let given = c.constant.ensures (around_in c.args.around.now) in search rules

pub returns-in-TypeName : goal.returns-in-TypeName
returns-in-TypeName c = let given = c.type_name.ensures (around_in c.args.around.now) in search rules

pub returns-in-ClassName : goal.returns-in-ClassName
returns-in-ClassName c = let given = c.class_name.ensures (around_in c.args.around.now) in search rules
