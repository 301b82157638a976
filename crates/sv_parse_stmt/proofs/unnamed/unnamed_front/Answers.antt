use Rattle.std.proofs.Common.{rules}
use Rattle.sv_tree.specs.Codes.{toks}
use Rattle.sv_parse_stmt.proofs.UnnamedLaws.{unnamed_break, unnamed_continue}
use Rattle.sv_parse_stmt.proofs.unnamed.unnamed_front.Goals as goal

pub returns-then-is_next-11 : goal.returns-then-is_next-11
returns-then-is_next-11 c = rw (unnamed_break c.args.budget (toks c.args.tokens.now) (search rules)) (c.word_alone.ensures c.args.budget)

pub returns-then-is_next-12 : goal.returns-then-is_next-12
returns-then-is_next-12 c = rw (unnamed_continue c.args.budget (toks c.args.tokens.now) (search rules)) (c.word_alone-then-is_next-12.ensures c.args.budget)
