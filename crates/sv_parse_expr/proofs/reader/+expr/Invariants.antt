use Rattle.std.proofs.Common.{◌≡◌, ◌+◌, ◌-◌, ◌*◌, ◌≤◌, [], ◌∷◌, length, map}
use Rattle.sv_grammar.specs.Code.Code.{Rep}
use Rattle.sv_tree.specs.Codes.{toks}
use Rattle.sv_tree.specs.Depth.{depth, exprs_depth, suffixes_depth}
use Rattle.sv_tree.specs.View.{expr, expr_list, suffix, suffix_list}
use Rattle.sv_tree.specs.Forms.{comma}
use Rattle.sv_tree.specs.Grammar.{reads}
use Rattle.sv_tree.specs.ExprGrammar as grammar
use Rattle.sv_parse.specs.Parts.{from}
use Rattle.sv_parse_expr.specs.Chains.{links, climbed}
use Rattle.sv_parse_expr.proofs.reader.+expr.Given as goal

abbrev pub decreases-comma_expr : goal.decreases-comma_expr
decreases-comma_expr l = 64 * l.budget + 22

abbrev pub decreases-exprs_after : goal.decreases-exprs_after
decreases-exprs_after l = 64 * l.budget + 23

abbrev pub decreases-listed : goal.decreases-listed
decreases-listed l = 64 * l.budget + 24

abbrev pub decreases-arguments : goal.decreases-arguments
decreases-arguments l = 64 * l.budget + 25

abbrev pub decreases-measured_actuals : goal.decreases-measured_actuals
decreases-measured_actuals l = 64 * l.budget

abbrev pub decreases-select : goal.decreases-select
decreases-select l = 64 * l.inner + 25

abbrev pub decreases-suffix : goal.decreases-suffix
decreases-suffix l = 64 * l.budget + 1

abbrev pub decreases-measured_suffixes : goal.decreases-measured_suffixes
decreases-measured_suffixes l = 64 * l.budget + 2

abbrev pub decreases-repeated : goal.decreases-repeated
decreases-repeated l = 64 * l.inner + 25

abbrev pub decreases-braces : goal.decreases-braces
decreases-braces l = 64 * l.inner + 26

abbrev pub decreases-prim : goal.decreases-prim
decreases-prim l = 64 * l.budget + 6

abbrev pub decreases-unary : goal.decreases-unary
decreases-unary l = 64 * l.budget + 7

abbrev pub decreases-operators : goal.decreases-operators
decreases-operators l = 64 * l.budget + length l.precedences.now

abbrev pub decreases-level : goal.decreases-level
decreases-level l = 64 * l.budget + length l.precedences.now + 8

abbrev pub decreases-choose : goal.decreases-choose
decreases-choose l = 64 * l.budget

abbrev pub decreases-expression : goal.decreases-expression
decreases-expression l = 64 * l.budget + 21

-- the expressions so far, read on, give what all give
abbrev pub invariant-exprs_after-commas : goal.invariant-exprs_after-commas
invariant-exprs_after-commas l = record {
  told : from (comma grammar.expr) l.budget (map expr l.list.items) (toks l.rest) ≡ from (comma grammar.expr) l.budget (expr l.fn.first.tree ∷ []) (toks l.tokens);
  depth : l.depth ≡ exprs_depth (expr_list l.list.items);
  low : l.depth ≤ l.budget;
}

abbrev pub decreases-exprs_after-commas : goal.decreases-exprs_after-commas
decreases-exprs_after-commas l = length l.rest

-- what follows the name so far, read on, gives what all gives
abbrev pub invariant-measured_suffixes-suffixes : goal.invariant-measured_suffixes-suffixes
invariant-measured_suffixes-suffixes l = record {
  told : from grammar.suffix l.budget (map suffix l.list.items) (toks l.rest) ≡ reads l.budget (Rep grammar.suffix) (toks l.tokens);
  depth : l.depth ≡ suffixes_depth (suffix_list l.list.items);
  low : l.depth ≤ l.budget;
}

abbrev pub decreases-measured_suffixes-suffixes : goal.decreases-measured_suffixes-suffixes
decreases-measured_suffixes-suffixes l = length l.rest

-- the chain so far, read on, gives what all gives
abbrev pub invariant-operators-links : goal.invariant-operators-links
invariant-operators-links l = record {
  told : links l.weakest l.budget (expr l.left.tree) (toks l.rest) ≡ climbed l.fn.precedences l.budget (expr l.fn.operand.tree) (toks l.fn.tokens);
  depth : l.left.depth ≡ depth (expr l.left.tree);
  low : l.left.depth ≤ l.budget;
}

abbrev pub decreases-operators-links : goal.decreases-operators-links
decreases-operators-links l = l.budget - l.left.depth
