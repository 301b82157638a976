-- What is known of the productions of expressions.
use Rattle.std.proofs.Common.{◌≡◌, ℕ, Bool, true, false, cond, eqb, List, [], ◌∷◌, map, Ok, Err, refl, sym, ap, ◌∙◌, arith}
use Rattle.std.proofs.lemmas.Bool.{eqb-true}
use Rattle.sv_grammar.specs.Tokens.{Tok, next, mem}
use Rattle.sv_grammar.specs.Language.{Unexpected, Out}
use Rattle.sv_grammar.specs.Reading.{◌>>=◌}
use Rattle.sv_grammar.specs.Code.{fine, info, least, reach}
use Rattle.sv_grammar.specs.Code.Code.{Rep}
use Rattle.sv_grammar.proofs.Codes.{exact, grammar}
use Rattle.sv_grammar.proofs.Whole.{not_begun}
use Rattle.sv_tree.specs.declared.kind.Kind.TheVariants as k
use Rattle.sv_tree.specs.Codes.{code}
use Rattle.sv_tree.specs.Expr as tree
use Rattle.sv_tree.specs.Forms.{Production, Value, comma, list, list_or_none}
use Rattle.sv_tree.specs.Grammar.{heads, need, table, reads, texts_of, expr_first, prim_first}
use Rattle.sv_tree.specs.ExprGrammar.{expr, prim, plain_prim, word_cast, number, time, text, null_, dollar, group, named, post_rest, this, this_post, super_call, system_call, braces, closed, cast, suffixes, suffix, select, comma_expr}
use Rattle.sv_tree.proofs.Good.{good}
use Rattle.sv_tree.specs.declared.expr.Suffix.{Suffix}
use Rattle.sv_tree.specs.View.{suffix as suffix_view, suffix_list}
use Rattle.sv_parse.specs.Outcome.{Fails}
use Rattle.sv_parse.specs.declared.tokens.ReadError.{ReadError}
use Rattle.sv_parse.specs.declared.tokens.ReadError.TheVariants as errors
use Rattle.sv_parse.specs.Parts.{from}
use Rattle.sv_parse.proofs.Loops.{IsLoop, loop_is, loop_stop}
use Rattle.sv_parse.proofs.PartLaws as laws
use Rattle.sv_parse.proofs.ExprParts.{expr_known, expr_listed}
use Rattle.sv_parse_expr.specs.First.{suffix_first}
use Rattle.sv_parse_expr.proofs.Lists.{suffixes_are_stacked}

-- the one kind of a list
pub is_one : (n m : ℕ) → mem n (m ∷ []) ≡ true → n ≡ m
is_one n m h = go (eqb n m) refl h
  where
    go : (b : Bool) → eqb n m ≡ b → cond b true false ≡ true → n ≡ m
    go true e h = eqb-true n m e
    go false e h = absurd cc

-- ---- lists of expressions

pub list_is : (d : ℕ) (ts : List Tok) → reads d (list expr) ts ≡ (reads d expr ts >>= λ x. from (comma expr) d (x.0 ∷ []) x.1)
list_is d ts = laws.list_is expr expr_first expr_known d ts

pub commas_loop : IsLoop (comma expr) (code k.Comma ∷ []) 0
commas_loop = laws.listed_loop expr expr_first expr_known expr_listed

pub commas_stop : (d : ℕ) (prefix : List tree.Expr) (ts : List Tok) → mem (next ts).code (code k.Comma ∷ []) ≡ false → from (comma expr) d prefix ts ≡ Ok (prefix, ts)
commas_stop d prefix ts h = loop_stop (comma expr) (code k.Comma ∷ []) 0 commas_loop d prefix ts h

pub some_listed : (d : ℕ) (ts : List Tok) → mem (next ts).code expr_first ≡ true → reads d (list_or_none expr) ts ≡ reads d (list expr) ts
some_listed d ts h = rw (expr_known.some, expr_known.begins, expr_known.low, h) refl

pub none_listed : (d : ℕ) (ts : List Tok) → mem (next ts).code expr_first ≡ false → reads d (list_or_none expr) ts ≡ Ok ([], ts)
none_listed d ts h = rw (expr_known.some, expr_known.begins, expr_known.low, h) refl

-- ---- what follows a name

pub suffixes_loop : IsLoop suffix suffix_first 0
unfolding suffix select
suffixes_loop = record { passes = refl; begins = refl; needs = refl }

pub suffixes_are : (d : ℕ) (ts : List Tok) → reads d (Rep suffix) ts ≡ from suffix d [] ts
suffixes_are d ts = loop_is suffix suffix_first 0 suffixes_loop d ts

pub suffixes_stop : (d : ℕ) (prefix : List (tree.Suffixes → tree.Suffixes)) (ts : List Tok) → mem (next ts).code suffix_first ≡ false → from suffix d prefix ts ≡ Ok (prefix, ts)
suffixes_stop d prefix ts h = loop_stop suffix suffix_first 0 suffixes_loop d prefix ts h

-- what follows a name is read to its end
pub suffixes_read : (d : ℕ) (ss : List Suffix) (rest ts : List Tok) → from suffix d (map suffix_view ss) rest ≡ reads d (Rep suffix) ts → mem (next rest).code suffix_first ≡ false → reads d suffixes ts ≡ Ok (suffix_list ss, rest)
unfolding suffixes
suffixes_read d ss rest ts told h = rw (sym told ∙ suffixes_stop d (map suffix_view ss) rest h) (ap (λ (x : tree.Suffixes). read_as (x, rest)) (suffixes_are_stacked ss))
  where
    read_as : tree.Suffixes × List Tok → Out tree.Suffixes
    read_as x = Ok x

-- where one of them fails, all fail
pub suffixes_fail : (d : ℕ) (ts : List Tok) (e : ReadError) → Fails e (reads d (Rep suffix) ts) → Fails e (reads d suffixes ts)
unfolding suffixes
suffixes_fail d ts errors.Memory h = tt
suffixes_fail d ts (errors.TooDeep rest) h = rw h refl
suffixes_fail d ts (errors.Unexpected rest) h = rw h refl

-- what follows a name may be nothing
pub post_rest_low : least Production Value heads need post_rest ≡ 0
unfolding post_rest suffixes
post_rest_low = refl

-- ---- operands

pub cast_low : least Production Value heads need closed ≡ 1
unfolding closed
cast_low = refl

pub prim_low : least Production Value heads need prim ≡ 0
unfolding prim plain_prim word_cast number time text null_ dollar group named post_rest this this_post super_call system_call braces closed cast suffixes suffix select comma_expr
prim_low = refl

prim_fine : fine Production Value heads need prim ≡ true
unfolding prim plain_prim word_cast number time text null_ dollar group named post_rest this this_post super_call system_call braces closed cast suffixes suffix select comma_expr
prim_fine = refl

prim_begins : (info Production Value heads need prim).null ≡ false
unfolding prim plain_prim word_cast number time text null_ dollar group named post_rest this this_post super_call system_call braces closed cast suffixes suffix select comma_expr
prim_begins = refl

prim_first_is : (info Production Value heads need prim).first ≡ prim_first
unfolding prim plain_prim word_cast number time text null_ dollar group named post_rest this this_post super_call system_call braces closed cast suffixes suffix select comma_expr
prim_first_is = refl

-- where no operand begins, none is read
pub prim_unexpected : (d : ℕ) (ts : List Tok) → mem (next ts).code prim_first ≡ false → reads d prim ts ≡ Err (Unexpected ts)
prim_unexpected d ts h = not_begun (texts_of prim) (info Production Value heads need prim) (λ e. reach (least Production Value heads need prim) e) (grammar Production Value heads need table good prim prim_fine) prim_begins d ts (reads d prim ts) (exact Production Value heads need table good prim prim_fine d (omega (arith, prim_low)) ts) (rw prim_first_is h)
