use Rattle.sv_sense.proofs.EdgeLaws.{same_symbols}
use Rattle.sv_sense.proofs.edges.same_bits.Goals as goal

pub returns : goal.returns
returns c = same_symbols c.same.result c.args.before.now.symbols c.args.after.now.symbols c.same.ensures
