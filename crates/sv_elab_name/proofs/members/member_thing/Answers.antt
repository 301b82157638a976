use Rattle.std.proofs.Common.{rules}
use Rattle.sv_names.specs.Views.{around_in}
use Rattle.sv_elab_name.proofs.members.member_thing.Goals as goal

pub returns-in-Property : goal.returns-in-Property
returns-in-Property c = let given = c.property.ensures c.args.is_direct in search rules

pub returns-in-StaticProperty : goal.returns-in-StaticProperty
returns-in-StaticProperty c = let given = c.static_property.ensures c.args.is_direct in search rules

pub returns-in-Constant : goal.returns-in-Constant
returns-in-Constant c = let given = c.constant_member.ensures (around_in c.args.around.now) c.args.is_direct in search rules
