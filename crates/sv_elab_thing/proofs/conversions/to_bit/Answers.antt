use Rattle.std.proofs.Common.{Bool, false, subst}
use Rattle.sv_names.specs.Checked.{◌▷◌}
use Rattle.sv_names.specs.Operators as operators
use Rattle.sv_names.specs.Types as types
use Rattle.sv_names.specs.Given.{Gives}
use Rattle.sv_elab_thing.proofs.conversions.to_bit.Goals as goal

pub returns : goal.returns
returns c ar x h =
    subst (λ (four : Bool). Gives c.cast_number.result (x ▷ operators.cast_to ar (types.plain_vector 1 false four) c.args.place c.args.at))
    c.has_four_states.ensures (c.cast_number.ensures ar x h)
