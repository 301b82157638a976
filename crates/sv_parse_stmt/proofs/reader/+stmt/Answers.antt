use Rattle.std.proofs.Common.{rules, map, refl, arith}
use Rattle.std.proofs.lemmas.List.{map_push}
use Rattle.sv_grammar.specs.Code.Code.{Rep}
use Rattle.sv_tree.specs.Codes.{toks}
use Rattle.sv_tree.specs.Forms.{statement}
use Rattle.sv_tree.specs.StmtGrammar as grammar
use Rattle.sv_tree.specs.StmtView.{stmt, case_item}
use Rattle.sv_tree.specs.Grammar.{reads}
use Rattle.sv_parse.proofs.Loops.{loop_ends, loop_goes_on, loop_shorter}
use Rattle.sv_parse_stmt.specs.Begins.{case_item_first, stmt_first}
use Rattle.sv_parse_stmt.proofs.BlockLaws.{stmts_loop}
use Rattle.sv_parse_stmt.proofs.CaseLaws.{items_loop}
use Rattle.sv_parse_stmt.proofs.InnerLaws.{inner_stmt}
use Rattle.sv_parse_stmt.proofs.KindLaws.{reach_one}
use Rattle.sv_parse_stmt.proofs.reader.+stmt.Goals as goal

pub statement-returns-in-Err : goal.statement-returns-in-Err
statement-returns-in-Err t c =
    rw (inner_stmt c.in-Ok.inner c.args.budget (toks c.args.tokens.now) c.in-Ok.ensures.0) (c.in-Err.ensures c.in-Ok.inner)

pub statements-stmts-preserved : goal.statements-stmts-preserved
statements-stmts-preserved t c = loop_goes_on statement stmt_first 1 stmts_loop c.args.budget (map stmt c.stmts.list.items) (map stmt c.push.new.self.items) (toks c.stmts.rest.now) (stmt c.in-Ok-statement.read.0, toks c.in-Ok-statement.read.1.now) (reads c.args.budget (Rep statement) (toks c.args.tokens.now)) (search rules) (reach_one c.args.budget (omega arith)) c.in-Ok-statement.ensures (rw c.in-Ok-push.ensures.items (map_push stmt c.stmts.list.items c.in-Ok-statement.read.0)) c.stmts.invariant

pub statements-stmts-smaller : goal.statements-stmts-smaller
statements-stmts-smaller t c = loop_shorter statement stmt_first 1 stmts_loop c.args.budget c.stmts.rest.now c.in-Ok-statement.read.1.now (stmt c.in-Ok-statement.read.0, toks c.in-Ok-statement.read.1.now) (reach_one c.args.budget (omega arith)) c.in-Ok-statement.ensures refl

pub statements-returns-in-Err-statement : goal.statements-returns-in-Err-statement
statements-returns-in-Err-statement t c =
    (loop_ends statement stmt_first 1 stmts_loop c.args.budget c.in-Err-statement.error (map stmt c.stmts.list.items) (toks c.stmts.rest.now) (reads c.args.budget (Rep statement) (toks c.args.tokens.now)) (search rules) (reach_one c.args.budget (omega arith)) c.in-Err-statement.ensures c.stmts.invariant)

pub case_items-items-preserved : goal.case_items-items-preserved
case_items-items-preserved t c = loop_goes_on grammar.case_item case_item_first 1 items_loop c.args.budget (map case_item c.items.list.items) (map case_item c.push.new.self.items) (toks c.items.rest.now) (case_item c.in-Ok-case_item.read.0, toks c.in-Ok-case_item.read.1.now) (reads c.args.budget (Rep grammar.case_item) (toks c.args.tokens.now)) (search rules) (reach_one c.args.budget (omega arith)) c.in-Ok-case_item.ensures (rw c.in-Ok-push.ensures.items (map_push case_item c.items.list.items c.in-Ok-case_item.read.0)) c.items.invariant

pub case_items-items-smaller : goal.case_items-items-smaller
case_items-items-smaller t c = loop_shorter grammar.case_item case_item_first 1 items_loop c.args.budget c.items.rest.now c.in-Ok-case_item.read.1.now (case_item c.in-Ok-case_item.read.0, toks c.in-Ok-case_item.read.1.now) (reach_one c.args.budget (omega arith)) c.in-Ok-case_item.ensures refl

pub case_items-returns-in-Err-case_item : goal.case_items-returns-in-Err-case_item
case_items-returns-in-Err-case_item t c =
    (loop_ends grammar.case_item case_item_first 1 items_loop c.args.budget c.in-Err-case_item.error (map case_item c.items.list.items) (toks c.items.rest.now) (reads c.args.budget (Rep grammar.case_item) (toks c.args.tokens.now)) (search rules) (reach_one c.args.budget (omega arith)) c.in-Err-case_item.ensures c.items.invariant)
