use Rattle.std.proofs.Common.{refl, List}
use Rattle.sv_value.specs.declared.operator.Piece.{Piece}
use Rattle.sv_names.specs.Arguments.{values_stand}
use Rattle.sv_names.specs.Checked.{broken_at}
use Rattle.sv_elab_print.proofs.strings.no_format.Goals as goal

pub returns : goal.returns
returns c = c.where_also.ensures (broken_at {A = List Piece} 50 c.args.at) (values_stand c.args.args.now) refl c.values_stand.ensures
