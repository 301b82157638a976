use Rattle.std.proofs.Common.{◌≡◌, ◌+◌, ◌*◌, length, map}
use Rattle.sv_grammar.specs.Code.Code.{Rep}
use Rattle.sv_tree.specs.Codes.{toks}
use Rattle.sv_tree.specs.Forms.{statement}
use Rattle.sv_tree.specs.StmtGrammar as grammar
use Rattle.sv_tree.specs.StmtView as view
use Rattle.sv_tree.specs.Grammar.{reads}
use Rattle.sv_parse.specs.Parts.{from}
use Rattle.sv_parse_stmt.proofs.reader.+stmt.Given as goal

abbrev pub decreases-statement : goal.decreases-statement
decreases-statement l = 8 * l.budget

abbrev pub decreases-completed : goal.decreases-completed
decreases-completed l = 8 * l.budget + 4

abbrev pub decreases-statements : goal.decreases-statements
decreases-statements l = 8 * l.budget + 1

abbrev pub decreases-case_items : goal.decreases-case_items
decreases-case_items l = 8 * l.budget + 2

abbrev pub decreases-case_item : goal.decreases-case_item
decreases-case_item l = 8 * l.budget + 1

abbrev pub decreases-if_rest : goal.decreases-if_rest
decreases-if_rest l = 8 * l.budget + 1

-- the items so far, read on, give what all give
abbrev pub invariant-case_items-items : goal.invariant-case_items-items
invariant-case_items-items l = from grammar.case_item l.budget (map view.case_item l.list.items) (toks l.rest) ≡ reads l.budget (Rep grammar.case_item) (toks l.tokens)

abbrev pub decreases-case_items-items : goal.decreases-case_items-items
decreases-case_items-items l = length l.rest

-- the statements so far, read on, give what all give
abbrev pub invariant-statements-stmts : goal.invariant-statements-stmts
invariant-statements-stmts l = from statement l.budget (map view.stmt l.list.items) (toks l.rest) ≡ reads l.budget (Rep statement) (toks l.tokens)

abbrev pub decreases-statements-stmts : goal.decreases-statements-stmts
decreases-statements-stmts l = length l.rest
