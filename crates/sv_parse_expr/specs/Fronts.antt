-- What is left to be read of an operand, after the part before its first expression.
use Rattle.std.specs.Prelude.{◌≡◌, ℕ, ◌+◌, ◌≤◌, List, Result, Ok, Err}
use Rattle.std.specs.Borrow.{Bor}
use Rattle.sv_grammar.specs.Tokens.{Tok}
use Rattle.sv_grammar.specs.Language.{Miss, Out}
use Rattle.sv_tree.specs.declared.token.Token.{Token}
use Rattle.sv_tree.specs.Codes.{toks}
use Rattle.sv_tree.specs.Depth.{depth, most_depth}
use Rattle.sv_tree.specs.Expr as tree
use Rattle.sv_tree.specs.View.{expr}
use Rattle.sv_tree.specs.Grammar.{reads}
use Rattle.sv_tree.specs.ExprGrammar as grammar
use Rattle.sv_parse.specs.Outcome.{Fails}
use Rattle.sv_parse.specs.declared.tokens.ReadError.{ReadError}
use Rattle.sv_parse_expr.specs.declared.fronts.Opening.{Opening}
use Rattle.sv_parse_expr.specs.declared.fronts.Opening.TheVariants as opening
use Rattle.sv_parse_expr.specs.declared.fronts.Callee.{Callee}
use Rattle.sv_parse_expr.specs.declared.fronts.Callee.TheVariants as callee
use Rattle.sv_parse_expr.specs.declared.fronts.Front.{Front}
use Rattle.sv_parse_expr.specs.declared.fronts.Front.TheVariants as front

-- an expression in parentheses, after what stands before it
abbrev pub bracketed : Opening → tree.Expr → tree.Expr
bracketed (opening.Group at) e = tree.Group at e
bracketed (opening.Cast to) e = tree.Cast to e

-- a call with its arguments
abbrev pub called : Callee → tree.Actuals → tree.Expr
called (callee.System n) a = tree.System n a
called (callee.SuperNew at new) a = tree.SuperNew at new a

-- whatever a part gives, the whole gives: f of it, or the same fault
abbrev pub Follows : {A B : Type 0} → (A → B) → Out A → Out B → Type 0
Follows f part all = ((m : Miss) → part ≡ Err m → all ≡ Err m) × ((y : _) → part ≡ Ok y → all ≡ Ok (f y.0, y.1))

-- what all is, by what is left to be read
abbrev pub Remains : ℕ → Front → List Tok → Out tree.Expr → Type 0
Remains d (front.Whole e) ts all = all ≡ Ok (expr e, ts)
Remains d (front.Bracket o inner) ts all = Follows (bracketed o) (reads d grammar.closed ts) all
Remains d (front.Call c) ts all = Follows (called c) (reads d grammar.maybe_actuals ts) all
Remains d (front.Post r) ts all = Follows (tree.Expr.Post r) (reads d grammar.suffixes ts) all
Remains d (front.Braces inner) ts all = all ≡ reads d grammar.braces ts

-- the front of an operand was read, or reading it failed
abbrev pub Begun : ℕ → Result (Front × Bor (List Token)) ReadError → Out tree.Expr → Type 0
Begun d (Ok x) all = Remains d x.0 (toks x.1.now) all
Begun d (Err e) all = Fails e all

-- the budget of what is left
abbrev pub Fits : ℕ → Front → Type 0
Fits d (front.Whole e) = depth (expr e) ≡ 0
Fits d (front.Bracket o inner) = (inner + 1 ≡ d) × (d ≤ most_depth)
Fits d (front.Call c) = Unit {0}
Fits d (front.Post r) = Unit {0}
Fits d (front.Braces inner) = (inner + 1 ≡ d) × (d ≤ most_depth)
