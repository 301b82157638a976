use Rattle.std.proofs.Common.{rules}
use Rattle.sv_tree.specs.Codes.{tok, toks}
use Rattle.sv_parse_stmt.proofs.CaseLaws.{default_follows, labels_follow}
use Rattle.sv_parse_stmt.proofs.cases.case_item_head.Goals as goal

pub returns-then-is_next : goal.returns-then-is_next
returns-then-is_next c = default_follows c.args.budget (toks c.args.tokens.now) (tok c.in-Ok.read.0.now, toks c.in-Ok.read.1.now) _ c.requires (search rules) c.in-Ok.ensures c.skip.ensures

pub returns : goal.returns
returns c = labels_follow c.args.budget (toks c.args.tokens.now) c.in-Ok-list.read.0.items (toks c.in-Ok-list.read.1.now) (tok c.in-Ok-expect.read.0.now, toks c.in-Ok-expect.read.1.now) c.requires (search rules) c.in-Ok-list.ensures c.in-Ok-expect.ensures
