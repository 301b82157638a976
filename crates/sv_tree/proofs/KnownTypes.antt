-- What is known of the productions of types, dimensions and declarations: with one token of look-ahead each is read rightly, what begins it, and the
-- least depth of its trees.
use Rattle.std.proofs.Common.{◌≡◌, true, false, [], ◌∷◌, ◌++◌, refl}
use Rattle.sv_grammar.specs.Code.{fine}
use Rattle.sv_tree.specs.declared.kind.Kind.TheVariants as k
use Rattle.sv_tree.specs.Forms.{Production, Value, codes_of, commas, kinds_of}
use Rattle.sv_tree.specs.ExprGrammar.{comma_expr, select, suffix, suffixes, post_rest, this_post, system_call, super_call, closed, cast, number, time, text, null_, dollar, group, named, this, braces, word_cast, plain_prim, prim, prefixed, unary, levels, expr_over, expr, plain_unary, plain_expr, cast_rest, atom_words, unary_words, vector_words}
use Rattle.sv_tree.specs.TypeGrammar.{range, enum_item, enum, vector_type, atom_type, mailbox_type, word_type, named_type, type, unnamed_implied, named_name, typed_name, dimension_inside, dimension, new_rest, init, declarator_rest, declarator, declarators, more_declarators, life_decl, var_decl, plain_decl, word_decl, named_decl_rest, life_words, sign_words}
use Rattle.sv_tree.specs.Grammar.{heads, need, expr_first}
use Rattle.sv_tree.proofs.Known.{IsKnown}

pub range_known : IsKnown range (codes_of (k.LeftBracket ∷ [])) false 0
unfolding comma_expr select suffix suffixes post_rest this_post system_call super_call closed cast number time text null_ dollar group named this braces word_cast plain_prim prim prefixed unary levels expr_over expr range
range_known = record { passes = refl; info_is = refl; low_is = refl }

pub enum_item_known : IsKnown enum_item (codes_of (k.Name ∷ [])) false 0
unfolding comma_expr select suffix suffixes post_rest this_post system_call super_call closed cast number time text null_ dollar group named this braces word_cast plain_prim prim prefixed unary levels expr_over expr enum_item
enum_item_known = record { passes = refl; info_is = refl; low_is = refl }

pub enum_known : IsKnown enum (codes_of (k.Enum ∷ [])) false 0
unfolding comma_expr select suffix suffixes post_rest this_post system_call super_call closed cast number time text null_ dollar group named this braces word_cast plain_prim prim prefixed unary levels expr_over expr enum_item enum
enum_known = record { passes = refl; info_is = refl; low_is = refl }

pub vector_type_known : IsKnown vector_type (kinds_of vector_words) false 0
unfolding comma_expr select suffix suffixes post_rest this_post system_call super_call closed cast number time text null_ dollar group named this braces word_cast plain_prim prim prefixed unary levels expr_over expr range vector_type
vector_type_known = record { passes = refl; info_is = refl; low_is = refl }

pub atom_type_known : IsKnown atom_type (kinds_of atom_words) false 0
unfolding atom_type
atom_type_known = record { passes = refl; info_is = refl; low_is = refl }

pub mailbox_type_known : IsKnown mailbox_type (codes_of (k.Mailbox ∷ [])) false 0
unfolding mailbox_type
mailbox_type_known = record { passes = refl; info_is = refl; low_is = refl }

pub word_type_known : IsKnown word_type (kinds_of vector_words ++ kinds_of atom_words ++ codes_of (k.String ∷ k.Event ∷ k.Semaphore ∷ k.Mailbox ∷ k.Enum ∷ [])) false 0
unfolding comma_expr select suffix suffixes post_rest this_post system_call super_call closed cast number time text null_ dollar group named this braces word_cast plain_prim prim prefixed unary levels expr_over expr range enum_item enum vector_type atom_type mailbox_type word_type
word_type_known = record { passes = refl; info_is = refl; low_is = refl }

pub named_type_known : IsKnown named_type (codes_of (k.Name ∷ [])) false 0
unfolding named_type
named_type_known = record { passes = refl; info_is = refl; low_is = refl }

pub type_known : IsKnown type (kinds_of vector_words ++ kinds_of atom_words ++ codes_of (k.String ∷ k.Event ∷ k.Semaphore ∷ k.Mailbox ∷ k.Enum ∷ k.Name ∷ [])) false 0
unfolding comma_expr select suffix suffixes post_rest this_post system_call super_call closed cast number time text null_ dollar group named this braces word_cast plain_prim prim prefixed unary levels expr_over expr range enum_item enum vector_type atom_type mailbox_type word_type named_type type
type_known = record { passes = refl; info_is = refl; low_is = refl }

pub unnamed_implied_known : IsKnown unnamed_implied (kinds_of vector_words ++ kinds_of atom_words ++ codes_of (k.String ∷ k.Event ∷ k.Semaphore ∷ k.Mailbox ∷ k.Enum ∷ []) ++ kinds_of sign_words ++ codes_of (k.LeftBracket ∷ [])) false 0
unfolding comma_expr select suffix suffixes post_rest this_post system_call super_call closed cast number time text null_ dollar group named this braces word_cast plain_prim prim prefixed unary levels expr_over expr range enum_item enum vector_type atom_type mailbox_type word_type unnamed_implied
unnamed_implied_known = record { passes = refl; info_is = refl; low_is = refl }

pub named_name_known : IsKnown named_name (codes_of (k.Name ∷ [])) false 0
unfolding named_name
named_name_known = record { passes = refl; info_is = refl; low_is = refl }

pub typed_name_known : IsKnown typed_name (kinds_of vector_words ++ kinds_of atom_words ++ codes_of (k.String ∷ k.Event ∷ k.Semaphore ∷ k.Mailbox ∷ k.Enum ∷ []) ++ kinds_of sign_words ++ codes_of (k.LeftBracket ∷ k.Name ∷ [])) false 0
unfolding comma_expr select suffix suffixes post_rest this_post system_call super_call closed cast number time text null_ dollar group named this braces word_cast plain_prim prim prefixed unary levels expr_over expr range enum_item enum vector_type atom_type mailbox_type word_type unnamed_implied named_name typed_name
typed_name_known = record { passes = refl; info_is = refl; low_is = refl }

pub dimension_inside_known : IsKnown dimension_inside (kinds_of vector_words ++ kinds_of atom_words ++ codes_of (k.String ∷ k.Event ∷ k.Semaphore ∷ k.Mailbox ∷ k.Enum ∷ []) ++ kinds_of unary_words ++ codes_of (k.Number ∷ k.TimeLiteral ∷ k.StringLiteral ∷ k.Null ∷ k.Dollar ∷ k.LeftParenthesis ∷ k.Name ∷ k.This ∷ k.Super ∷ k.SystemName ∷ k.LeftBrace ∷ [])) true 0
unfolding comma_expr select suffix suffixes post_rest this_post system_call super_call closed cast number time text null_ dollar group named this braces word_cast plain_prim prim prefixed unary levels expr_over expr plain_unary plain_expr cast_rest range enum_item enum dimension_inside
dimension_inside_known = record { passes = refl; info_is = refl; low_is = refl }

pub dimension_known : IsKnown dimension (codes_of (k.LeftBracket ∷ [])) false 0
unfolding comma_expr select suffix suffixes post_rest this_post system_call super_call closed cast number time text null_ dollar group named this braces word_cast plain_prim prim prefixed unary levels expr_over expr plain_unary plain_expr cast_rest range enum_item enum dimension_inside dimension
dimension_known = record { passes = refl; info_is = refl; low_is = refl }

pub new_rest_known : IsKnown new_rest (codes_of (k.LeftParenthesis ∷ k.Name ∷ k.LeftBracket ∷ [])) true 0
unfolding comma_expr select suffix suffixes post_rest this_post system_call super_call closed cast number time text null_ dollar group named this braces word_cast plain_prim prim prefixed unary levels expr_over expr new_rest
new_rest_known = record { passes = refl; info_is = refl; low_is = refl }

pub init_known : IsKnown init (expr_first ++ codes_of (k.New ∷ [])) false 0
unfolding comma_expr select suffix suffixes post_rest this_post system_call super_call closed cast number time text null_ dollar group named this braces word_cast plain_prim prim prefixed unary levels expr_over expr new_rest init
init_known = record { passes = refl; info_is = refl; low_is = refl }

pub declarator_rest_known : IsKnown declarator_rest (codes_of (k.LeftBracket ∷ k.Equals ∷ [])) true 0
unfolding comma_expr select suffix suffixes post_rest this_post system_call super_call closed cast number time text null_ dollar group named this braces word_cast plain_prim prim prefixed unary levels expr_over expr plain_unary plain_expr cast_rest range enum_item enum dimension_inside dimension new_rest init declarator_rest
declarator_rest_known = record { passes = refl; info_is = refl; low_is = refl }

pub declarator_known : IsKnown declarator (codes_of (k.Name ∷ [])) false 0
unfolding comma_expr select suffix suffixes post_rest this_post system_call super_call closed cast number time text null_ dollar group named this braces word_cast plain_prim prim prefixed unary levels expr_over expr plain_unary plain_expr cast_rest range enum_item enum dimension_inside dimension new_rest init declarator_rest declarator
declarator_known = record { passes = refl; info_is = refl; low_is = refl }

pub declarators_known : IsKnown declarators (codes_of (k.Name ∷ [])) false 0
unfolding comma_expr select suffix suffixes post_rest this_post system_call super_call closed cast number time text null_ dollar group named this braces word_cast plain_prim prim prefixed unary levels expr_over expr plain_unary plain_expr cast_rest range enum_item enum dimension_inside dimension new_rest init declarator_rest declarator declarators
declarators_known = record { passes = refl; info_is = refl; low_is = refl }

pub more_declarators_known : IsKnown more_declarators (codes_of (k.LeftBracket ∷ k.Equals ∷ k.Comma ∷ [])) true 0
unfolding comma_expr select suffix suffixes post_rest this_post system_call super_call closed cast number time text null_ dollar group named this braces word_cast plain_prim prim prefixed unary levels expr_over expr plain_unary plain_expr cast_rest range enum_item enum dimension_inside dimension new_rest init declarator_rest declarator more_declarators
more_declarators_known = record { passes = refl; info_is = refl; low_is = refl }

pub life_decl_known : IsKnown life_decl (kinds_of life_words) false 0
unfolding comma_expr select suffix suffixes post_rest this_post system_call super_call closed cast number time text null_ dollar group named this braces word_cast plain_prim prim prefixed unary levels expr_over expr plain_unary plain_expr cast_rest range enum_item enum vector_type atom_type mailbox_type word_type named_type type dimension_inside dimension new_rest init declarator_rest declarator declarators life_decl
life_decl_known = record { passes = refl; info_is = refl; low_is = refl }

pub var_decl_known : IsKnown var_decl (codes_of (k.Var ∷ [])) false 0
unfolding comma_expr select suffix suffixes post_rest this_post system_call super_call closed cast number time text null_ dollar group named this braces word_cast plain_prim prim prefixed unary levels expr_over expr plain_unary plain_expr cast_rest range enum_item enum vector_type atom_type mailbox_type word_type named_type type dimension_inside dimension new_rest init declarator_rest declarator declarators var_decl
var_decl_known = record { passes = refl; info_is = refl; low_is = refl }

pub plain_decl_known : IsKnown plain_decl (kinds_of vector_words ++ kinds_of atom_words ++ codes_of (k.String ∷ k.Event ∷ k.Semaphore ∷ k.Mailbox ∷ k.Enum ∷ [])) false 0
unfolding comma_expr select suffix suffixes post_rest this_post system_call super_call closed cast number time text null_ dollar group named this braces word_cast plain_prim prim prefixed unary levels expr_over expr plain_unary plain_expr cast_rest range enum_item enum vector_type atom_type mailbox_type word_type dimension_inside dimension new_rest init declarator_rest declarator declarators plain_decl
plain_decl_known = record { passes = refl; info_is = refl; low_is = refl }

pub word_decl_known : IsKnown word_decl (kinds_of life_words ++ codes_of (k.Var ∷ []) ++ kinds_of vector_words ++ kinds_of atom_words ++ codes_of (k.String ∷ k.Event ∷ k.Semaphore ∷ k.Mailbox ∷ k.Enum ∷ [])) false 0
unfolding comma_expr select suffix suffixes post_rest this_post system_call super_call closed cast number time text null_ dollar group named this braces word_cast plain_prim prim prefixed unary levels expr_over expr plain_unary plain_expr cast_rest range enum_item enum vector_type atom_type mailbox_type word_type named_type type dimension_inside dimension new_rest init declarator_rest declarator declarators life_decl var_decl plain_decl word_decl
word_decl_known = record { passes = refl; info_is = refl; low_is = refl }

pub named_decl_rest_known : IsKnown named_decl_rest (codes_of (k.Name ∷ [])) false 0
unfolding comma_expr select suffix suffixes post_rest this_post system_call super_call closed cast number time text null_ dollar group named this braces word_cast plain_prim prim prefixed unary levels expr_over expr plain_unary plain_expr cast_rest range enum_item enum dimension_inside dimension new_rest init declarator_rest declarator more_declarators named_decl_rest
named_decl_rest_known = record { passes = refl; info_is = refl; low_is = refl }

-- ---- lists of them

pub enum_item_commas : fine Production Value heads need (commas enum_item) ≡ true
unfolding comma_expr select suffix suffixes post_rest this_post system_call super_call closed cast number time text null_ dollar group named this braces word_cast plain_prim prim prefixed unary levels expr_over expr enum_item
enum_item_commas = refl

pub declarator_commas : fine Production Value heads need (commas declarator) ≡ true
unfolding comma_expr select suffix suffixes post_rest this_post system_call super_call closed cast number time text null_ dollar group named this braces word_cast plain_prim prim prefixed unary levels expr_over expr plain_unary plain_expr cast_rest range enum_item enum dimension_inside dimension new_rest init declarator_rest declarator
declarator_commas = refl
