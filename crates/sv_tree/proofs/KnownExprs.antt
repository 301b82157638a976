-- What is known of the productions of expressions: with one token of look-ahead each is read rightly, what begins it, and the
-- least depth of its trees.
use Rattle.std.proofs.Common.{◌≡◌, true, false, [], ◌∷◌, ◌++◌, refl}
use Rattle.sv_grammar.specs.Code.{fine}
use Rattle.sv_grammar.specs.Code.Code.{Chain, Rep}
use Rattle.sv_tree.specs.declared.kind.Kind.TheVariants as k
use Rattle.sv_tree.specs.declared.word.Precedence.{Precedence}
use Rattle.sv_tree.specs.declared.word.Precedence.TheVariants as precedence
use Rattle.sv_tree.specs.Depth.{depth}
use Rattle.sv_tree.specs.Forms.{Production, Value, codes_of, commas, kinds_of}
use Rattle.sv_tree.specs.ExprGrammar.{stronger, joined, link, comma_expr, inner_exprs, select, suffix, suffixes, post_rest, named_post, this_post, super_post, post, targets, lval, system_call, super_call, call, closed, cast, number, time, text, null_, dollar, group, named, this, repeated, braces, word_cast, plain_prim, prim, prefixed, unary, levels, expr_over, expr, plain_unary, plain_expr, cast_rest, arguments, atom_words, unary_words, vector_words}
use Rattle.sv_tree.specs.Grammar.{heads, need, expr_first, prim_first}
use Rattle.sv_tree.proofs.Known.{IsKnown}

pub comma_expr_known : IsKnown comma_expr (codes_of (k.Comma ∷ [])) false 1
unfolding comma_expr
comma_expr_known = record { passes = refl; info_is = refl; low_is = refl }

pub inner_exprs_known : IsKnown inner_exprs expr_first false 1
unfolding comma_expr inner_exprs
inner_exprs_known = record { passes = refl; info_is = refl; low_is = refl }

pub select_known : IsKnown select (codes_of (k.LeftBracket ∷ [])) false 1
unfolding select
select_known = record { passes = refl; info_is = refl; low_is = refl }

pub suffix_known : IsKnown suffix (codes_of (k.Dot ∷ k.LeftParenthesis ∷ k.LeftBracket ∷ [])) false 0
unfolding select suffix
suffix_known = record { passes = refl; info_is = refl; low_is = refl }

pub suffixes_known : IsKnown suffixes (codes_of (k.Dot ∷ k.LeftParenthesis ∷ k.LeftBracket ∷ [])) true 0
unfolding select suffix suffixes
suffixes_known = record { passes = refl; info_is = refl; low_is = refl }

pub post_rest_known : IsKnown post_rest (codes_of (k.ColonColon ∷ k.Dot ∷ k.LeftParenthesis ∷ k.LeftBracket ∷ [])) true 0
unfolding select suffix suffixes post_rest
post_rest_known = record { passes = refl; info_is = refl; low_is = refl }

pub named_post_known : IsKnown named_post (codes_of (k.Name ∷ [])) false 0
unfolding select suffix suffixes post_rest named_post
named_post_known = record { passes = refl; info_is = refl; low_is = refl }

pub this_post_known : IsKnown this_post (codes_of (k.This ∷ [])) false 0
unfolding select suffix suffixes this_post
this_post_known = record { passes = refl; info_is = refl; low_is = refl }

pub super_post_known : IsKnown super_post (codes_of (k.Super ∷ [])) false 0
unfolding select suffix suffixes super_post
super_post_known = record { passes = refl; info_is = refl; low_is = refl }

pub post_known : IsKnown post (codes_of (k.Name ∷ k.This ∷ k.Super ∷ [])) false 0
unfolding select suffix suffixes post_rest named_post this_post super_post post
post_known = record { passes = refl; info_is = refl; low_is = refl }

pub targets_known : IsKnown targets (codes_of (k.LeftBrace ∷ [])) false 1
unfolding targets
targets_known = record { passes = refl; info_is = refl; low_is = refl }

pub lval_known : IsKnown lval (codes_of (k.Name ∷ k.This ∷ k.Super ∷ k.LeftBrace ∷ [])) false 0
unfolding select suffix suffixes post_rest named_post this_post super_post post targets lval
lval_known = record { passes = refl; info_is = refl; low_is = refl }

pub system_call_known : IsKnown system_call (codes_of (k.SystemName ∷ [])) false 0
unfolding system_call
system_call_known = record { passes = refl; info_is = refl; low_is = refl }

pub super_call_known : IsKnown super_call (codes_of (k.Super ∷ [])) false 0
unfolding select suffix suffixes super_call
super_call_known = record { passes = refl; info_is = refl; low_is = refl }

pub call_known : IsKnown call (codes_of (k.Name ∷ k.This ∷ k.Super ∷ k.SystemName ∷ [])) false 0
unfolding select suffix suffixes post_rest named_post this_post system_call super_call call
call_known = record { passes = refl; info_is = refl; low_is = refl }

pub closed_known : IsKnown closed expr_first false 1
unfolding closed
closed_known = record { passes = refl; info_is = refl; low_is = refl }

pub cast_known : IsKnown cast (codes_of (k.Apostrophe ∷ [])) false 1
unfolding closed cast
cast_known = record { passes = refl; info_is = refl; low_is = refl }

pub number_known : IsKnown number (codes_of (k.Number ∷ [])) false 0
unfolding closed cast number
number_known = record { passes = refl; info_is = refl; low_is = refl }

pub time_known : IsKnown time (codes_of (k.TimeLiteral ∷ [])) false 0
unfolding time
time_known = record { passes = refl; info_is = refl; low_is = refl }

pub text_known : IsKnown text (codes_of (k.StringLiteral ∷ [])) false 0
unfolding text
text_known = record { passes = refl; info_is = refl; low_is = refl }

pub null__known : IsKnown null_ (codes_of (k.Null ∷ [])) false 0
unfolding null_
null__known = record { passes = refl; info_is = refl; low_is = refl }

pub dollar_known : IsKnown dollar (codes_of (k.Dollar ∷ [])) false 0
unfolding dollar
dollar_known = record { passes = refl; info_is = refl; low_is = refl }

pub group_known : IsKnown group (codes_of (k.LeftParenthesis ∷ [])) false 1
unfolding closed group
group_known = record { passes = refl; info_is = refl; low_is = refl }

pub named_known : IsKnown named (codes_of (k.Name ∷ [])) false 0
unfolding select suffix suffixes post_rest closed cast named
named_known = record { passes = refl; info_is = refl; low_is = refl }

pub this_known : IsKnown this (codes_of (k.This ∷ [])) false 0
unfolding select suffix suffixes this_post this
this_known = record { passes = refl; info_is = refl; low_is = refl }

pub repeated_known : IsKnown repeated (codes_of (k.LeftBrace ∷ [])) false 1
unfolding comma_expr inner_exprs repeated
repeated_known = record { passes = refl; info_is = refl; low_is = refl }

pub braces_known : IsKnown braces (codes_of (k.LeftBrace ∷ [])) false 1
unfolding comma_expr braces
braces_known = record { passes = refl; info_is = refl; low_is = refl }

pub word_cast_known : IsKnown word_cast (kinds_of vector_words ++ kinds_of atom_words ++ codes_of (k.String ∷ k.Event ∷ k.Semaphore ∷ k.Mailbox ∷ [])) false 1
unfolding closed cast word_cast
word_cast_known = record { passes = refl; info_is = refl; low_is = refl }

pub plain_prim_known : IsKnown plain_prim (codes_of (k.Number ∷ k.TimeLiteral ∷ k.StringLiteral ∷ k.Null ∷ k.Dollar ∷ k.LeftParenthesis ∷ k.Name ∷ k.This ∷ k.Super ∷ k.SystemName ∷ k.LeftBrace ∷ [])) false 0
unfolding comma_expr select suffix suffixes post_rest this_post system_call super_call closed cast number time text null_ dollar group named this braces plain_prim
plain_prim_known = record { passes = refl; info_is = refl; low_is = refl }

pub prim_known : IsKnown prim prim_first false 0
unfolding comma_expr select suffix suffixes post_rest this_post system_call super_call closed cast number time text null_ dollar group named this braces word_cast plain_prim prim
prim_known = record { passes = refl; info_is = refl; low_is = refl }

pub prefixed_known : IsKnown prefixed (kinds_of unary_words) false 1
unfolding prefixed
prefixed_known = record { passes = refl; info_is = refl; low_is = refl }

pub unary_known : IsKnown unary expr_first false 0
unfolding comma_expr select suffix suffixes post_rest this_post system_call super_call closed cast number time text null_ dollar group named this braces word_cast plain_prim prim prefixed unary
unary_known = record { passes = refl; info_is = refl; low_is = refl }

pub expr_known : IsKnown expr expr_first false 0
unfolding comma_expr select suffix suffixes post_rest this_post system_call super_call closed cast number time text null_ dollar group named this braces word_cast plain_prim prim prefixed unary levels expr_over expr
expr_known = record { passes = refl; info_is = refl; low_is = refl }

pub plain_unary_known : IsKnown plain_unary (kinds_of unary_words ++ codes_of (k.Number ∷ k.TimeLiteral ∷ k.StringLiteral ∷ k.Null ∷ k.Dollar ∷ k.LeftParenthesis ∷ k.Name ∷ k.This ∷ k.Super ∷ k.SystemName ∷ k.LeftBrace ∷ [])) false 0
unfolding comma_expr select suffix suffixes post_rest this_post system_call super_call closed cast number time text null_ dollar group named this braces plain_prim prefixed plain_unary
plain_unary_known = record { passes = refl; info_is = refl; low_is = refl }

pub plain_expr_known : IsKnown plain_expr (kinds_of unary_words ++ codes_of (k.Number ∷ k.TimeLiteral ∷ k.StringLiteral ∷ k.Null ∷ k.Dollar ∷ k.LeftParenthesis ∷ k.Name ∷ k.This ∷ k.Super ∷ k.SystemName ∷ k.LeftBrace ∷ [])) false 0
unfolding comma_expr select suffix suffixes post_rest this_post system_call super_call closed cast number time text null_ dollar group named this braces plain_prim prefixed levels expr_over plain_unary plain_expr
plain_expr_known = record { passes = refl; info_is = refl; low_is = refl }

pub cast_rest_known : IsKnown cast_rest (codes_of (k.Apostrophe ∷ [])) false 1
unfolding closed cast levels expr_over cast_rest
cast_rest_known = record { passes = refl; info_is = refl; low_is = refl }

pub arguments_known : IsKnown arguments (codes_of (k.LeftParenthesis ∷ [])) false 0
unfolding comma_expr select suffix suffixes post_rest this_post system_call super_call closed cast number time text null_ dollar group named this braces word_cast plain_prim prim prefixed unary levels expr_over expr arguments
arguments_known = record { passes = refl; info_is = refl; low_is = refl }

-- ---- lists of them

pub suffix_list : fine Production Value heads need (Rep suffix) ≡ true
unfolding select suffix
suffix_list = refl

pub comma_expr_list : fine Production Value heads need (Rep comma_expr) ≡ true
unfolding comma_expr
comma_expr_list = refl

pub expr_commas : fine Production Value heads need (commas expr) ≡ true
unfolding comma_expr select suffix suffixes post_rest this_post system_call super_call closed cast number time text null_ dollar group named this braces word_cast plain_prim prim prefixed unary levels expr_over expr
expr_commas = refl

-- ---- the operators of each precedence

pub level_fine : (p : Precedence) → fine Production Value heads need (Chain depth (joined p) (levels unary (stronger p)) (link p)) ≡ true
unfolding comma_expr select suffix suffixes post_rest this_post system_call super_call closed cast number time text null_ dollar group named this braces word_cast plain_prim prim prefixed unary levels
level_fine precedence.Power = refl
level_fine precedence.Multiplicative = refl
level_fine precedence.Additive = refl
level_fine precedence.Shift = refl
level_fine precedence.Relational = refl
level_fine precedence.Equality = refl
level_fine precedence.And = refl
level_fine precedence.Xor = refl
level_fine precedence.Or = refl
level_fine precedence.LogicalAnd = refl
level_fine precedence.LogicalOr = refl
