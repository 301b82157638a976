use Rattle.std.proofs.Common.{◌≡◌, ◌+◌, ◌*◌, length, map}
use Rattle.sv_tree.specs.Codes.{toks}
use Rattle.sv_tree.specs.ExprGrammar as grammar
use Rattle.sv_tree.specs.Forms.{comma, list}
use Rattle.sv_tree.specs.StmtView.{lval}
use Rattle.sv_tree.specs.Grammar.{reads}
use Rattle.sv_parse.specs.Parts.{from}
use Rattle.sv_parse_expr.proofs.target.+target.Given as goal

abbrev pub decreases-lval : goal.decreases-lval
decreases-lval l = 4 * l.budget + 1

abbrev pub decreases-targets : goal.decreases-targets
decreases-targets l = 4 * l.budget

abbrev pub decreases-target_list : goal.decreases-target_list
decreases-target_list l = 4 * l.budget + 3

abbrev pub decreases-comma_target : goal.decreases-comma_target
decreases-comma_target l = 4 * l.budget + 2

-- the targets so far, read on, give what all give
abbrev pub invariant-target_list-commas : goal.invariant-target_list-commas
invariant-target_list-commas l = from (comma grammar.lval) l.budget (map lval l.targets.items) (toks l.rest) ≡ reads l.budget (list grammar.lval) (toks l.tokens)

abbrev pub decreases-target_list-commas : goal.decreases-target_list-commas
decreases-target_list-commas l = length l.rest
