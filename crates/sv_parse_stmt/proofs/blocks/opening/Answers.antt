use Rattle.std.proofs.Common.{arith}
use Rattle.sv_tree.specs.Codes.{toks}
use Rattle.sv_parse_stmt.proofs.BlockLaws.{opens_late, opens_low}
use Rattle.sv_parse_stmt.proofs.blocks.opening.Goals as goal

pub returns-then-left-gt0 : goal.returns-then-left-gt0
returns-then-left-gt0 c = opens_late c.args.budget c.in-Ok.read.0.items (toks c.args.tokens.now) (toks c.in-Ok.read.1.now) c.in-Ok.ensures.0 c.in-Ok.ensures.1 (omega arith)

pub returns : goal.returns
returns c = opens_low c.args.budget c.in-Ok.read.0.items (toks c.args.tokens.now) (toks c.in-Ok.read.1.now) c.in-Ok.ensures.0 c.in-Ok.ensures.1 (omega arith) c.in-Ok-no_statement.ensures
