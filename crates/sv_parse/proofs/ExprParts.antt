-- What is known of the parts of expressions.
use Rattle.std.proofs.Common.{◌≡◌, ℕ, Bool, true, false, cond, ◌||◌, ◌==◌, List, [], ◌∷◌, ◌++◌, refl}
use Rattle.sv_grammar.specs.Tokens.{mem}
use Rattle.sv_grammar.specs.Code.{least}
use Rattle.sv_tree.specs.declared.kind.Kind.TheVariants as k
use Rattle.sv_tree.specs.Codes.{code}
use Rattle.sv_tree.specs.Forms.{Production, Value, ◌▸◌, in_parentheses}
use Rattle.sv_tree.specs.Grammar.{heads, need, expr_first}
use Rattle.sv_tree.specs.ExprGrammar.{expr, expr_over, levels, unary, prefixed, prim, plain_prim, word_cast, number, time, text, null_, dollar, group, named, post_rest, this, this_post, super_call, system_call, braces, closed, cast, suffixes, suffix, select, comma_expr}
use Rattle.sv_parse.specs.Parts.{IsKnown, IsListed}

-- a kind stands in two lists together where it stands in one of them
pub mem_both : (n : ℕ) (xs ys : List ℕ) → mem n (xs ++ ys) ≡ (mem n xs || mem n ys)
mem_both n [] ys = refl
mem_both n (x ∷ xs) ys = go (n == x) (mem_both n xs ys)
  where
    go : (b : Bool) → mem n (xs ++ ys) ≡ (mem n xs || mem n ys) → cond b true (mem n (xs ++ ys)) ≡ (cond b true (mem n xs) || mem n ys)
    go true h = refl
    go false h = h

pub expr_known : IsKnown expr expr_first
unfolding expr expr_over levels unary prefixed prim plain_prim word_cast number time text null_ dollar group named post_rest this this_post super_call system_call braces closed cast suffixes suffix select comma_expr
expr_known = record { passes = refl; begins = refl; some = refl; kinds = refl; low = refl }

pub expr_listed : IsListed expr
unfolding expr expr_over levels unary prefixed prim plain_prim word_cast number time text null_ dollar group named post_rest this this_post super_call system_call braces closed cast suffixes suffix select comma_expr
expr_listed = refl

pub value_known : IsKnown (k.Equals ▸ expr) (code k.Equals ∷ [])
unfolding expr expr_over levels unary prefixed prim plain_prim word_cast number time text null_ dollar group named post_rest this this_post super_call system_call braces closed cast suffixes suffix select comma_expr
value_known = record { passes = refl; begins = refl; some = refl; kinds = refl; low = refl }

pub enclosed_known : IsKnown (in_parentheses expr) (code k.LeftParenthesis ∷ [])
unfolding expr expr_over levels unary prefixed prim plain_prim word_cast number time text null_ dollar group named post_rest this this_post super_call system_call braces closed cast suffixes suffix select comma_expr
enclosed_known = record { passes = refl; begins = refl; some = refl; kinds = refl; low = refl }
