-- Which operand begins with the next token.
use Rattle.std.proofs.Common.{◌≡◌, ℕ, ◌<◌, Bool, true, false, cond, ◌==◌, List, [], ◌∷◌, Err, refl}
use Rattle.sv_grammar.specs.Tokens.{Tok, next, mem, disjoint}
use Rattle.sv_grammar.specs.Language.{TooDeep, Unexpected}
use Rattle.sv_grammar.specs.Code.{info}
use Rattle.sv_grammar.proofs.Lists.{apart}
use Rattle.sv_tree.specs.declared.kind.Kind.TheVariants as k
use Rattle.sv_tree.specs.Codes.{code}
use Rattle.sv_tree.specs.Forms.{Production, Value}
use Rattle.sv_tree.specs.Grammar.{heads, need, reads, prim_first}
use Rattle.sv_tree.specs.ExprGrammar.{prim, plain_prim, word_cast, number, time, text, null_, dollar, group, named, post_rest, this, this_post, super_call, system_call, braces, closed, cast, suffixes, suffix, select, comma_expr}
use Rattle.sv_parse_expr.specs.First.{cast_first}
use Rattle.sv_parse_expr.proofs.Budgets.{reach_one}
use Rattle.sv_parse_expr.proofs.Known.{is_one, prim_unexpected}

pub prim_number : (d : ℕ) (ts : List Tok) → mem (next ts).code (code k.Number ∷ []) ≡ true → reads d prim ts ≡ reads d number ts
unfolding prim plain_prim word_cast number time text null_ dollar group named post_rest this this_post super_call system_call braces closed cast suffixes suffix select comma_expr
prim_number d ts h = rw (is_one (next ts).code (code k.Number) h) refl

pub prim_time : (d : ℕ) (ts : List Tok) → mem (next ts).code (code k.TimeLiteral ∷ []) ≡ true → reads d prim ts ≡ reads d time ts
unfolding prim plain_prim word_cast number time text null_ dollar group named post_rest this this_post super_call system_call braces closed cast suffixes suffix select comma_expr
prim_time d ts h = rw (is_one (next ts).code (code k.TimeLiteral) h) refl

pub prim_text : (d : ℕ) (ts : List Tok) → mem (next ts).code (code k.StringLiteral ∷ []) ≡ true → reads d prim ts ≡ reads d text ts
unfolding prim plain_prim word_cast number time text null_ dollar group named post_rest this this_post super_call system_call braces closed cast suffixes suffix select comma_expr
prim_text d ts h = rw (is_one (next ts).code (code k.StringLiteral) h) refl

pub prim_null : (d : ℕ) (ts : List Tok) → mem (next ts).code (code k.Null ∷ []) ≡ true → reads d prim ts ≡ reads d null_ ts
unfolding prim plain_prim word_cast number time text null_ dollar group named post_rest this this_post super_call system_call braces closed cast suffixes suffix select comma_expr
prim_null d ts h = rw (is_one (next ts).code (code k.Null) h) refl

pub prim_dollar : (d : ℕ) (ts : List Tok) → mem (next ts).code (code k.Dollar ∷ []) ≡ true → reads d prim ts ≡ reads d dollar ts
unfolding prim plain_prim word_cast number time text null_ dollar group named post_rest this this_post super_call system_call braces closed cast suffixes suffix select comma_expr
prim_dollar d ts h = rw (is_one (next ts).code (code k.Dollar) h) refl

pub prim_named : (d : ℕ) (ts : List Tok) → mem (next ts).code (code k.Name ∷ []) ≡ true → reads d prim ts ≡ reads d named ts
unfolding prim plain_prim word_cast number time text null_ dollar group named post_rest this this_post super_call system_call braces closed cast suffixes suffix select comma_expr
prim_named d ts h = rw (is_one (next ts).code (code k.Name) h) refl

pub prim_this : (d : ℕ) (ts : List Tok) → mem (next ts).code (code k.This ∷ []) ≡ true → reads d prim ts ≡ reads d this ts
unfolding prim plain_prim word_cast number time text null_ dollar group named post_rest this this_post super_call system_call braces closed cast suffixes suffix select comma_expr
prim_this d ts h = rw (is_one (next ts).code (code k.This) h) refl

pub prim_super : (d : ℕ) (ts : List Tok) → mem (next ts).code (code k.Super ∷ []) ≡ true → reads d prim ts ≡ reads d super_call ts
unfolding prim plain_prim word_cast number time text null_ dollar group named post_rest this this_post super_call system_call braces closed cast suffixes suffix select comma_expr
prim_super d ts h = rw (is_one (next ts).code (code k.Super) h) refl

pub prim_system : (d : ℕ) (ts : List Tok) → mem (next ts).code (code k.SystemName ∷ []) ≡ true → reads d prim ts ≡ reads d system_call ts
unfolding prim plain_prim word_cast number time text null_ dollar group named post_rest this this_post super_call system_call braces closed cast suffixes suffix select comma_expr
prim_system d ts h = rw (is_one (next ts).code (code k.SystemName) h) refl

pub prim_group : (d : ℕ) (ts : List Tok) → 0 < d → mem (next ts).code (code k.LeftParenthesis ∷ []) ≡ true → reads d prim ts ≡ reads d group ts
unfolding prim plain_prim word_cast number time text null_ dollar group named post_rest this this_post super_call system_call braces closed cast suffixes suffix select comma_expr
prim_group d ts some h = rw (is_one (next ts).code (code k.LeftParenthesis) h, reach_one d some) refl

pub deep_group : (d : ℕ) (ts : List Tok) → d ≡ 0 → mem (next ts).code (code k.LeftParenthesis ∷ []) ≡ true → reads d prim ts ≡ Err (TooDeep ts)
unfolding prim plain_prim word_cast number time text null_ dollar group named post_rest this this_post super_call system_call braces closed cast suffixes suffix select comma_expr
deep_group d ts none h = rw (none, is_one (next ts).code (code k.LeftParenthesis) h) refl

pub prim_braces : (d : ℕ) (ts : List Tok) → 0 < d → mem (next ts).code (code k.LeftBrace ∷ []) ≡ true → reads d prim ts ≡ reads d braces ts
unfolding prim plain_prim word_cast number time text null_ dollar group named post_rest this this_post super_call system_call braces closed cast suffixes suffix select comma_expr
prim_braces d ts some h = rw (is_one (next ts).code (code k.LeftBrace) h, reach_one d some) refl

pub deep_braces : (d : ℕ) (ts : List Tok) → d ≡ 0 → mem (next ts).code (code k.LeftBrace ∷ []) ≡ true → reads d prim ts ≡ Err (TooDeep ts)
unfolding prim plain_prim word_cast number time text null_ dollar group named post_rest this this_post super_call system_call braces closed cast suffixes suffix select comma_expr
deep_braces d ts none h = rw (none, is_one (next ts).code (code k.LeftBrace) h) refl

plain_apart : disjoint cast_first (info Production Value heads need plain_prim).first ≡ true
unfolding prim plain_prim word_cast number time text null_ dollar group named post_rest this this_post super_call system_call braces closed cast suffixes suffix select comma_expr
plain_apart = refl

plain_off : (n : ℕ) → mem n cast_first ≡ true → mem n (info Production Value heads need plain_prim).first ≡ false
plain_off n h = go (mem n (info Production Value heads need plain_prim).first) refl
  where
    go : (b : Bool) → mem n (info Production Value heads need plain_prim).first ≡ b → b ≡ false
    go true e = absurd (apart n cast_first (info Production Value heads need plain_prim).first plain_apart h e)
    go false e = refl

pub prim_cast : (d : ℕ) (ts : List Tok) → 0 < d → mem (next ts).code cast_first ≡ true → reads d prim ts ≡ reads d word_cast ts
unfolding prim word_cast closed cast
prim_cast d ts some h = rw (plain_off (next ts).code h, reach_one d some) refl

pub deep_cast : (d : ℕ) (ts : List Tok) → d ≡ 0 → mem (next ts).code cast_first ≡ true → reads d prim ts ≡ Err (TooDeep ts)
unfolding prim word_cast closed cast
deep_cast d ts none h = rw (none, plain_off (next ts).code h, h) refl

-- where none of them begins
off : (n m : ℕ) → mem n (m ∷ []) ≡ false → (n == m) ≡ false
off n m h = go (n == m) refl h
  where
    go : (b : Bool) → (n == m) ≡ b → cond b true false ≡ false → b ≡ false
    go true e h = absurd cc
    go false e h = refl

none_first : (n : ℕ) → mem n cast_first ≡ false → (n == 3) ≡ false → (n == 4) ≡ false → (n == 6) ≡ false → (n == 90) ≡ false → (n == 155) ≡ false → (n == 94) ≡ false → (n == 1) ≡ false → (n == 88) ≡ false → (n == 89) ≡ false → (n == 2) ≡ false → (n == 98) ≡ false → mem n prim_first ≡ false
none_first n h a b c d e f g i j l m = rw (a, b, c, d, e, f, g, i, j, l, m) h

pub prim_none : (d : ℕ) (ts : List Tok) → mem (next ts).code cast_first ≡ false → mem (next ts).code (code k.Number ∷ []) ≡ false → mem (next ts).code (code k.TimeLiteral ∷ []) ≡ false → mem (next ts).code (code k.StringLiteral ∷ []) ≡ false → mem (next ts).code (code k.Null ∷ []) ≡ false → mem (next ts).code (code k.Dollar ∷ []) ≡ false → mem (next ts).code (code k.Name ∷ []) ≡ false → mem (next ts).code (code k.This ∷ []) ≡ false → mem (next ts).code (code k.Super ∷ []) ≡ false → mem (next ts).code (code k.SystemName ∷ []) ≡ false → mem (next ts).code (code k.LeftParenthesis ∷ []) ≡ false → mem (next ts).code (code k.LeftBrace ∷ []) ≡ false → reads d prim ts ≡ Err (Unexpected ts)
prim_none d ts h0 h1 h2 h3 h4 h5 h6 h7 h8 h9 h10 h11 = prim_unexpected d ts (none_first (next ts).code h0 (off _ 3 h1) (off _ 4 h2) (off _ 6 h3) (off _ 90 h4) (off _ 155 h5) (off _ 94 h10) (off _ 1 h6) (off _ 88 h7) (off _ 89 h8) (off _ 2 h9) (off _ 98 h11))
