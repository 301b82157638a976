-- Initial values: what each begins with.
use Rattle.std.proofs.Common.{◌≡◌, ℕ, true, false, List, [], ◌∷◌, map, Ok, refl, ap, ◌∙◌}
use Rattle.sv_value.specs.declared.place.Place.{Place}
use Rattle.sv_grammar.specs.Tokens.{Tok, next, mem}
use Rattle.sv_grammar.specs.Reading.{◌>>=◌}
use Rattle.sv_grammar.specs.Code.{info, least}
use Rattle.sv_grammar.specs.Code.Code.{Map, Alt, Done}
use Rattle.sv_tree.specs.declared.kind.Kind.TheVariants as k
use Rattle.sv_tree.specs.declared.expr.Expr.{Expr}
use Rattle.sv_tree.specs.Codes.{code}
use Rattle.sv_tree.specs.Expr as tree
use Rattle.sv_tree.specs.Stmt as stmts
use Rattle.sv_tree.specs.View.{expr as view, expr_list}
use Rattle.sv_tree.specs.Forms.{Production, Value, C, tok, name, exprs, pair, optional, list_or_none, in_parentheses, in_brackets}
use Rattle.sv_tree.specs.ExprGrammar.{expr}
use Rattle.sv_tree.specs.TypeGrammar.{init, new_with, new_alone, new_rest}
use Rattle.sv_tree.specs.Grammar.{heads, need, reads, expr_first}
use Rattle.sv_parse.proofs.ExprParts.{expr_known}
use Rattle.sv_parse_type.specs.Applied.{applied}
use Rattle.sv_parse_type.proofs.Shapes.{is_one, alt_first, alt_second, pair_is}

pub exprs_are_listed : (es : List Expr) → exprs (map view es) ≡ expr_list es
exprs_are_listed [] = refl
exprs_are_listed (e ∷ es) = ap (λ x. tree.AndExpr (view e) x) (exprs_are_listed es)

-- ---- after "new"

abbrev with_arguments : C (Place → stmts.Init)
with_arguments = Map new_with (in_parentheses (list_or_none expr))

abbrev copied : C (Place → stmts.Init)
copied = Map (λ n at. stmts.Copy at n) name

abbrev array : C (Place → stmts.Init)
array = pair (λ e o at. stmts.Array at e o) (in_brackets expr) (optional (in_parentheses expr))

arguments_low : least Production Value heads need with_arguments ≡ 0
arguments_low = rw expr_known.low refl

array_low : least Production Value heads need array ≡ 0
array_low = rw expr_known.low refl

alone_low : least Production Value heads need (Alt array (Done new_alone)) ≡ 0
alone_low = rw array_low refl

pub starts_arguments : (d : ℕ) (ts : List Tok) → mem (next ts).code (code k.LeftParenthesis ∷ []) ≡ true → reads d new_rest ts ≡ reads d with_arguments ts
unfolding new_rest
starts_arguments d ts h = alt_first with_arguments (Alt copied (Alt array (Done new_alone))) (code k.LeftParenthesis ∷ []) d ts refl arguments_low h

no_arguments : (d : ℕ) (ts : List Tok) → mem (next ts).code (code k.LeftParenthesis ∷ []) ≡ false → reads d new_rest ts ≡ reads d (Alt copied (Alt array (Done new_alone))) ts
unfolding new_rest
no_arguments d ts h = alt_second with_arguments (Alt copied (Alt array (Done new_alone))) (code k.LeftParenthesis ∷ []) d ts refl refl h

pub starts_copy : (d : ℕ) (ts : List Tok) → mem (next ts).code (code k.Name ∷ []) ≡ true → reads d new_rest ts ≡ reads d copied ts
starts_copy d ts h = no_arguments d ts (rw (is_one (next ts).code (code k.Name) h) refl) ∙ alt_first copied (Alt array (Done new_alone)) (code k.Name ∷ []) d ts refl refl h

no_copy : (d : ℕ) (ts : List Tok) → mem (next ts).code (code k.LeftParenthesis ∷ []) ≡ false → mem (next ts).code (code k.Name ∷ []) ≡ false → reads d new_rest ts ≡ reads d (Alt array (Done new_alone)) ts
no_copy d ts g h = no_arguments d ts g ∙ alt_second copied (Alt array (Done new_alone)) (code k.Name ∷ []) d ts refl alone_low h

pub starts_array : (d : ℕ) (ts : List Tok) → mem (next ts).code (code k.LeftBracket ∷ []) ≡ true → reads d new_rest ts ≡ reads d array ts
starts_array d ts h =
    let is = is_one (next ts).code (code k.LeftBracket) h in
    no_copy d ts (rw is refl) (rw is refl) ∙ alt_first array (Done new_alone) (code k.LeftBracket ∷ []) d ts refl array_low h

pub starts_nothing : (d : ℕ) (ts : List Tok) → mem (next ts).code (code k.LeftParenthesis ∷ []) ≡ false → mem (next ts).code (code k.Name ∷ []) ≡ false → mem (next ts).code (code k.LeftBracket ∷ []) ≡ false → reads d new_rest ts ≡ Ok (new_alone, ts)
starts_nothing d ts g h i = no_copy d ts g h ∙ alt_second array (Done new_alone) (code k.LeftBracket ∷ []) d ts refl refl i

pub ruleset after_new = (starts_arguments, starts_copy, starts_array, starts_nothing)

new_low : least Production Value heads need new_rest ≡ 0
unfolding new_rest
new_low = rw arguments_low refl

-- ---- initial values

abbrev valued : C stmts.Init
valued = Map stmts.Value expr

abbrev newly : C stmts.Init
newly = pair (λ t f. f t.at) (tok k.New) new_rest

values_begin : (info Production Value heads need valued).first ≡ expr_first
values_begin = rw (expr_known.some, expr_known.begins) refl

value_low : least Production Value heads need valued ≡ 0
value_low = expr_known.low

pub init_value : (d : ℕ) (ts : List Tok) → mem (next ts).code expr_first ≡ true → reads d init ts ≡ (reads d expr ts >>= λ e. Ok (stmts.Value e.0, e.1))
unfolding init
init_value d ts h = alt_first valued newly expr_first d ts values_begin value_low h

pub init_new : (d : ℕ) (ts : List Tok) → mem (next ts).code expr_first ≡ false → reads d init ts ≡ (reads d (tok k.New) ts >>= λ t. applied t.0.at (reads d new_rest t.1))
unfolding init
init_new d ts h = alt_second valued newly expr_first d ts values_begin new_low h ∙ pair_is (λ t (f : Place → stmts.Init). f t.at) (tok k.New) new_rest d ts
