-- What is known of the parts of types and declarations: the kinds that begin them, and that lists of them may be read.
use Rattle.std.proofs.Common.{◌≡◌, ℕ, true, false, List, [], ◌∷◌, refl}
use Rattle.sv_tree.specs.declared.kind.Kind.TheVariants as k
use Rattle.sv_tree.specs.Codes.{code}
use Rattle.sv_tree.specs.Forms.{◌▸◌}
use Rattle.sv_tree.specs.ExprGrammar.{comma_expr, select, suffix, suffixes, post_rest, this_post, system_call, super_call, closed, cast, number, time, text, null_, dollar, group, named, this, braces, word_cast, plain_prim, prim, prefixed, unary, levels, expr_over, expr, plain_unary, plain_expr, cast_rest}
use Rattle.sv_tree.specs.TypeGrammar.{range, enum_item, enum, dimension_inside, dimension, new_rest, init, declarator_rest, declarator}
use Rattle.sv_parse.specs.Parts.{IsKnown, IsListed}

pub range_known : IsKnown range (code k.LeftBracket ∷ [])
unfolding range comma_expr select suffix suffixes post_rest this_post system_call super_call closed cast number time text null_ dollar group named this braces word_cast plain_prim prim prefixed unary levels expr_over expr
range_known = record { passes = refl; begins = refl; some = refl; kinds = refl; low = refl }

pub enum_item_known : IsKnown enum_item (code k.Name ∷ [])
unfolding enum_item comma_expr select suffix suffixes post_rest this_post system_call super_call closed cast number time text null_ dollar group named this braces word_cast plain_prim prim prefixed unary levels expr_over expr
enum_item_known = record { passes = refl; begins = refl; some = refl; kinds = refl; low = refl }

pub enum_item_listed : IsListed enum_item
unfolding enum_item comma_expr select suffix suffixes post_rest this_post system_call super_call closed cast number time text null_ dollar group named this braces word_cast plain_prim prim prefixed unary levels expr_over expr
enum_item_listed = refl

pub dimension_known : IsKnown dimension (code k.LeftBracket ∷ [])
unfolding dimension dimension_inside range enum_item enum plain_unary plain_expr cast_rest comma_expr select suffix suffixes post_rest this_post system_call super_call closed cast number time text null_ dollar group named this braces word_cast plain_prim prim prefixed unary levels expr_over expr
dimension_known = record { passes = refl; begins = refl; some = refl; kinds = refl; low = refl }

pub given_init_known : IsKnown (k.Equals ▸ init) (code k.Equals ∷ [])
unfolding new_rest init comma_expr select suffix suffixes post_rest this_post system_call super_call closed cast number time text null_ dollar group named this braces word_cast plain_prim prim prefixed unary levels expr_over expr
given_init_known = record { passes = refl; begins = refl; some = refl; kinds = refl; low = refl }

pub declarator_known : IsKnown declarator (code k.Name ∷ [])
unfolding declarator declarator_rest dimension dimension_inside range enum_item enum plain_unary plain_expr cast_rest new_rest init comma_expr select suffix suffixes post_rest this_post system_call super_call closed cast number time text null_ dollar group named this braces word_cast plain_prim prim prefixed unary levels expr_over expr
declarator_known = record { passes = refl; begins = refl; some = refl; kinds = refl; low = refl }

pub declarator_listed : IsListed declarator
unfolding declarator declarator_rest dimension dimension_inside range enum_item enum plain_unary plain_expr cast_rest new_rest init comma_expr select suffix suffixes post_rest this_post system_call super_call closed cast number time text null_ dollar group named this braces word_cast plain_prim prim prefixed unary levels expr_over expr
declarator_listed = refl
