-- What is known of the productions of descriptions and their items: with one token of look-ahead each is read rightly, what begins it, and the
-- least depth of its trees.
use Rattle.std.proofs.Common.{◌≡◌, true, false, [], ◌∷◌, ◌++◌, refl}
use Rattle.sv_grammar.specs.Code.{fine}
use Rattle.sv_grammar.specs.Code.Code.{Rep}
use Rattle.sv_tree.specs.declared.kind.Kind.TheVariants as k
use Rattle.sv_tree.specs.Forms.{Production, Value, codes_of, commas, kinds_of, name}
use Rattle.sv_tree.specs.ExprGrammar.{comma_expr, select, suffix, suffixes, post_rest, named_post, this_post, super_post, post, targets, lval, system_call, super_call, closed, cast, number, time, text, null_, dollar, group, named, this, braces, word_cast, plain_prim, prim, prefixed, unary, levels, expr_over, expr, plain_unary, plain_expr, cast_rest, atom_words, vector_words}
use Rattle.sv_tree.specs.TypeGrammar.{range, enum_item, enum, vector_type, atom_type, mailbox_type, word_type, named_type, type, unnamed_implied, named_name, typed_name, dimension_inside, dimension, new_rest, init, declarator_rest, declarator, declarators, more_declarators, life_decl, var_decl, plain_decl, word_decl, named_decl_rest, life_words, sign_words}
use Rattle.sv_tree.specs.StmtGrammar.{enclosed, amount, early_rest, early, block_items}
use Rattle.sv_tree.specs.UnitGrammar.{param_item, param, element_param, element_params, directed_port, plain_port, next_port, ports, typedef_rest, typedef, argument, arguments as unit_arguments, called, function_head, task_head, head, routine_name, routine_end, routine, skew_rest, skew, default_skew, output_side, input_side, sides, default_skews, clocking_item, clocking_rest, plain_clocking, default_rest, default_clocking, clocking, automatic_decl, class_decl, member, pure_method, qualified, class_item, class_rest, virtual_class, plain_class, class, named_items, initial, common, named_decl, program_item, given, dotted, connection, connections, instance, instances_rest, decl_rest, second_named, valued_instances, named_item_rest, named_item, net_item, net_word, net, assign_item, assign, always, module_item, element_head, module_element, program_element, description, file, argument_directions, param_words, port_directions, procedure_words}
use Rattle.sv_tree.specs.Grammar.{heads, need, expr_first}
use Rattle.sv_tree.proofs.Known.{IsKnown}

pub param_item_known : IsKnown param_item (codes_of (k.Name ∷ [])) false 0
unfolding comma_expr select suffix suffixes post_rest this_post system_call super_call closed cast number time text null_ dollar group named this braces word_cast plain_prim prim prefixed unary levels expr_over expr param_item
param_item_known = record { passes = refl; info_is = refl; low_is = refl }

pub param_known : IsKnown param (kinds_of param_words) false 0
unfolding comma_expr select suffix suffixes post_rest this_post system_call super_call closed cast number time text null_ dollar group named this braces word_cast plain_prim prim prefixed unary levels expr_over expr range enum_item enum vector_type atom_type mailbox_type word_type unnamed_implied named_name typed_name param_item param
param_known = record { passes = refl; info_is = refl; low_is = refl }

pub element_param_known : IsKnown element_param (codes_of (k.Parameter ∷ []) ++ kinds_of vector_words ++ kinds_of atom_words ++ codes_of (k.String ∷ k.Event ∷ k.Semaphore ∷ k.Mailbox ∷ k.Enum ∷ []) ++ kinds_of sign_words ++ codes_of (k.LeftBracket ∷ k.Name ∷ [])) false 0
unfolding comma_expr select suffix suffixes post_rest this_post system_call super_call closed cast number time text null_ dollar group named this braces word_cast plain_prim prim prefixed unary levels expr_over expr range enum_item enum vector_type atom_type mailbox_type word_type unnamed_implied named_name typed_name element_param
element_param_known = record { passes = refl; info_is = refl; low_is = refl }

pub element_params_known : IsKnown element_params (codes_of (k.Hash ∷ [])) false 0
unfolding comma_expr select suffix suffixes post_rest this_post system_call super_call closed cast number time text null_ dollar group named this braces word_cast plain_prim prim prefixed unary levels expr_over expr range enum_item enum vector_type atom_type mailbox_type word_type unnamed_implied named_name typed_name element_param element_params
element_params_known = record { passes = refl; info_is = refl; low_is = refl }

pub directed_port_known : IsKnown directed_port (kinds_of port_directions) false 0
unfolding comma_expr select suffix suffixes post_rest this_post system_call super_call closed cast number time text null_ dollar group named this braces word_cast plain_prim prim prefixed unary levels expr_over expr range enum_item enum vector_type atom_type mailbox_type word_type unnamed_implied named_name typed_name directed_port
directed_port_known = record { passes = refl; info_is = refl; low_is = refl }

pub plain_port_known : IsKnown plain_port (codes_of (k.Name ∷ [])) false 0
unfolding plain_port
plain_port_known = record { passes = refl; info_is = refl; low_is = refl }

pub next_port_known : IsKnown next_port (kinds_of port_directions ++ codes_of (k.Name ∷ [])) false 0
unfolding comma_expr select suffix suffixes post_rest this_post system_call super_call closed cast number time text null_ dollar group named this braces word_cast plain_prim prim prefixed unary levels expr_over expr range enum_item enum vector_type atom_type mailbox_type word_type unnamed_implied named_name typed_name directed_port plain_port next_port
next_port_known = record { passes = refl; info_is = refl; low_is = refl }

pub ports_known : IsKnown ports (codes_of (k.LeftParenthesis ∷ [])) false 0
unfolding comma_expr select suffix suffixes post_rest this_post system_call super_call closed cast number time text null_ dollar group named this braces word_cast plain_prim prim prefixed unary levels expr_over expr range enum_item enum vector_type atom_type mailbox_type word_type unnamed_implied named_name typed_name directed_port plain_port next_port ports
ports_known = record { passes = refl; info_is = refl; low_is = refl }

pub argument_known : IsKnown argument (kinds_of argument_directions ++ kinds_of vector_words ++ kinds_of atom_words ++ codes_of (k.String ∷ k.Event ∷ k.Semaphore ∷ k.Mailbox ∷ k.Enum ∷ []) ++ kinds_of sign_words ++ codes_of (k.LeftBracket ∷ k.Name ∷ [])) false 0
unfolding comma_expr select suffix suffixes post_rest this_post system_call super_call closed cast number time text null_ dollar group named this braces word_cast plain_prim prim prefixed unary levels expr_over expr range enum_item enum vector_type atom_type mailbox_type word_type unnamed_implied named_name typed_name argument
argument_known = record { passes = refl; info_is = refl; low_is = refl }

pub unit_arguments_known : IsKnown unit_arguments (codes_of (k.LeftParenthesis ∷ [])) false 0
unfolding comma_expr select suffix suffixes post_rest this_post system_call super_call closed cast number time text null_ dollar group named this braces word_cast plain_prim prim prefixed unary levels expr_over expr range enum_item enum vector_type atom_type mailbox_type word_type unnamed_implied named_name typed_name argument unit_arguments
unit_arguments_known = record { passes = refl; info_is = refl; low_is = refl }

pub called_known : IsKnown called (codes_of (k.New ∷ k.Void ∷ []) ++ kinds_of vector_words ++ kinds_of atom_words ++ codes_of (k.String ∷ k.Event ∷ k.Semaphore ∷ k.Mailbox ∷ k.Enum ∷ []) ++ kinds_of sign_words ++ codes_of (k.LeftBracket ∷ k.Name ∷ [])) false 0
unfolding comma_expr select suffix suffixes post_rest this_post system_call super_call closed cast number time text null_ dollar group named this braces word_cast plain_prim prim prefixed unary levels expr_over expr range enum_item enum vector_type atom_type mailbox_type word_type unnamed_implied named_name typed_name called
called_known = record { passes = refl; info_is = refl; low_is = refl }

pub function_head_known : IsKnown function_head (codes_of (k.Function ∷ [])) false 0
unfolding comma_expr select suffix suffixes post_rest this_post system_call super_call closed cast number time text null_ dollar group named this braces word_cast plain_prim prim prefixed unary levels expr_over expr range enum_item enum vector_type atom_type mailbox_type word_type unnamed_implied named_name typed_name argument unit_arguments called function_head
function_head_known = record { passes = refl; info_is = refl; low_is = refl }

pub task_head_known : IsKnown task_head (codes_of (k.Task ∷ [])) false 0
unfolding comma_expr select suffix suffixes post_rest this_post system_call super_call closed cast number time text null_ dollar group named this braces word_cast plain_prim prim prefixed unary levels expr_over expr range enum_item enum vector_type atom_type mailbox_type word_type unnamed_implied named_name typed_name argument unit_arguments task_head
task_head_known = record { passes = refl; info_is = refl; low_is = refl }

pub head_known : IsKnown head (codes_of (k.Function ∷ k.Task ∷ [])) false 0
unfolding comma_expr select suffix suffixes post_rest this_post system_call super_call closed cast number time text null_ dollar group named this braces word_cast plain_prim prim prefixed unary levels expr_over expr range enum_item enum vector_type atom_type mailbox_type word_type unnamed_implied named_name typed_name argument unit_arguments called function_head task_head head
head_known = record { passes = refl; info_is = refl; low_is = refl }

pub routine_name_known : IsKnown routine_name (codes_of (k.Name ∷ k.New ∷ [])) false 0
unfolding routine_name
routine_name_known = record { passes = refl; info_is = refl; low_is = refl }

pub routine_end_known : IsKnown routine_end (codes_of (k.Endfunction ∷ k.Endtask ∷ [])) false 0
unfolding routine_name routine_end
routine_end_known = record { passes = refl; info_is = refl; low_is = refl }

pub routine_known : IsKnown routine (codes_of (k.Function ∷ k.Task ∷ [])) false 0
unfolding comma_expr select suffix suffixes post_rest this_post system_call super_call closed cast number time text null_ dollar group named this braces word_cast plain_prim prim prefixed unary levels expr_over expr plain_unary plain_expr cast_rest range enum_item enum vector_type atom_type mailbox_type word_type named_type type unnamed_implied named_name typed_name dimension_inside dimension new_rest init declarator_rest declarator declarators more_declarators life_decl var_decl plain_decl word_decl named_decl_rest early_rest early block_items argument unit_arguments called function_head task_head head routine_name routine_end routine
routine_known = record { passes = refl; info_is = refl; low_is = refl }

pub skew_rest_known : IsKnown skew_rest (codes_of (k.Number ∷ k.TimeLiteral ∷ k.Name ∷ k.LeftParenthesis ∷ k.OneStep ∷ [])) false 0
unfolding comma_expr select suffix suffixes post_rest this_post system_call super_call closed cast number time text null_ dollar group named this braces word_cast plain_prim prim prefixed unary levels expr_over expr enclosed amount skew_rest
skew_rest_known = record { passes = refl; info_is = refl; low_is = refl }

pub skew_known : IsKnown skew (codes_of (k.Hash ∷ [])) false 0
unfolding comma_expr select suffix suffixes post_rest this_post system_call super_call closed cast number time text null_ dollar group named this braces word_cast plain_prim prim prefixed unary levels expr_over expr enclosed amount skew_rest skew
skew_known = record { passes = refl; info_is = refl; low_is = refl }

pub default_skew_known : IsKnown default_skew (kinds_of port_directions) false 0
unfolding comma_expr select suffix suffixes post_rest this_post system_call super_call closed cast number time text null_ dollar group named this braces word_cast plain_prim prim prefixed unary levels expr_over expr enclosed amount skew_rest skew default_skew
default_skew_known = record { passes = refl; info_is = refl; low_is = refl }

pub output_side_known : IsKnown output_side (codes_of (k.Output ∷ [])) false 0
unfolding comma_expr select suffix suffixes post_rest this_post system_call super_call closed cast number time text null_ dollar group named this braces word_cast plain_prim prim prefixed unary levels expr_over expr enclosed amount skew_rest skew output_side
output_side_known = record { passes = refl; info_is = refl; low_is = refl }

pub input_side_known : IsKnown input_side (codes_of (k.Input ∷ [])) false 0
unfolding comma_expr select suffix suffixes post_rest this_post system_call super_call closed cast number time text null_ dollar group named this braces word_cast plain_prim prim prefixed unary levels expr_over expr enclosed amount skew_rest skew output_side input_side
input_side_known = record { passes = refl; info_is = refl; low_is = refl }

pub sides_known : IsKnown sides (kinds_of argument_directions) false 0
unfolding comma_expr select suffix suffixes post_rest this_post system_call super_call closed cast number time text null_ dollar group named this braces word_cast plain_prim prim prefixed unary levels expr_over expr enclosed amount skew_rest skew output_side input_side sides
sides_known = record { passes = refl; info_is = refl; low_is = refl }

pub default_skews_known : IsKnown default_skews (codes_of (k.Default ∷ [])) false 0
unfolding comma_expr select suffix suffixes post_rest this_post system_call super_call closed cast number time text null_ dollar group named this braces word_cast plain_prim prim prefixed unary levels expr_over expr enclosed amount skew_rest skew default_skew default_skews
default_skews_known = record { passes = refl; info_is = refl; low_is = refl }

pub clocking_item_known : IsKnown clocking_item (codes_of (k.Default ∷ []) ++ kinds_of argument_directions) false 0
unfolding comma_expr select suffix suffixes post_rest this_post system_call super_call closed cast number time text null_ dollar group named this braces word_cast plain_prim prim prefixed unary levels expr_over expr enclosed amount skew_rest skew default_skew output_side input_side sides default_skews clocking_item
clocking_item_known = record { passes = refl; info_is = refl; low_is = refl }

pub clocking_rest_known : IsKnown clocking_rest (codes_of (k.At ∷ [])) false 0
unfolding comma_expr select suffix suffixes post_rest this_post system_call super_call closed cast number time text null_ dollar group named this braces word_cast plain_prim prim prefixed unary levels expr_over expr enclosed amount skew_rest skew default_skew output_side input_side sides default_skews clocking_item clocking_rest
clocking_rest_known = record { passes = refl; info_is = refl; low_is = refl }

pub plain_clocking_known : IsKnown plain_clocking (codes_of (k.Clocking ∷ [])) false 0
unfolding comma_expr select suffix suffixes post_rest this_post system_call super_call closed cast number time text null_ dollar group named this braces word_cast plain_prim prim prefixed unary levels expr_over expr enclosed amount skew_rest skew default_skew output_side input_side sides default_skews clocking_item clocking_rest plain_clocking
plain_clocking_known = record { passes = refl; info_is = refl; low_is = refl }

pub default_rest_known : IsKnown default_rest (codes_of (k.Semicolon ∷ k.At ∷ [])) false 0
unfolding comma_expr select suffix suffixes post_rest this_post system_call super_call closed cast number time text null_ dollar group named this braces word_cast plain_prim prim prefixed unary levels expr_over expr enclosed amount skew_rest skew default_skew output_side input_side sides default_skews clocking_item clocking_rest default_rest
default_rest_known = record { passes = refl; info_is = refl; low_is = refl }

pub default_clocking_known : IsKnown default_clocking (codes_of (k.Default ∷ [])) false 0
unfolding comma_expr select suffix suffixes post_rest this_post system_call super_call closed cast number time text null_ dollar group named this braces word_cast plain_prim prim prefixed unary levels expr_over expr enclosed amount skew_rest skew default_skew output_side input_side sides default_skews clocking_item clocking_rest default_rest default_clocking
default_clocking_known = record { passes = refl; info_is = refl; low_is = refl }

pub clocking_known : IsKnown clocking (codes_of (k.Clocking ∷ k.Default ∷ [])) false 0
unfolding comma_expr select suffix suffixes post_rest this_post system_call super_call closed cast number time text null_ dollar group named this braces word_cast plain_prim prim prefixed unary levels expr_over expr enclosed amount skew_rest skew default_skew output_side input_side sides default_skews clocking_item clocking_rest plain_clocking default_rest default_clocking clocking
clocking_known = record { passes = refl; info_is = refl; low_is = refl }

pub automatic_decl_known : IsKnown automatic_decl (codes_of (k.Automatic ∷ [])) false 0
unfolding comma_expr select suffix suffixes post_rest this_post system_call super_call closed cast number time text null_ dollar group named this braces word_cast plain_prim prim prefixed unary levels expr_over expr plain_unary plain_expr cast_rest range enum_item enum vector_type atom_type mailbox_type word_type named_type type dimension_inside dimension new_rest init declarator_rest declarator declarators automatic_decl
automatic_decl_known = record { passes = refl; info_is = refl; low_is = refl }

pub class_decl_known : IsKnown class_decl (codes_of (k.Automatic ∷ k.Var ∷ []) ++ kinds_of vector_words ++ kinds_of atom_words ++ codes_of (k.String ∷ k.Event ∷ k.Semaphore ∷ k.Mailbox ∷ k.Enum ∷ k.Name ∷ [])) false 0
unfolding comma_expr select suffix suffixes post_rest this_post system_call super_call closed cast number time text null_ dollar group named this braces word_cast plain_prim prim prefixed unary levels expr_over expr plain_unary plain_expr cast_rest range enum_item enum vector_type atom_type mailbox_type word_type named_type type dimension_inside dimension new_rest init declarator_rest declarator declarators automatic_decl class_decl
class_decl_known = record { passes = refl; info_is = refl; low_is = refl }

pub member_known : IsKnown member (codes_of (k.Automatic ∷ k.Var ∷ []) ++ kinds_of vector_words ++ kinds_of atom_words ++ codes_of (k.String ∷ k.Event ∷ k.Semaphore ∷ k.Mailbox ∷ k.Enum ∷ k.Name ∷ k.Function ∷ k.Task ∷ [])) false 0
unfolding comma_expr select suffix suffixes post_rest this_post system_call super_call closed cast number time text null_ dollar group named this braces word_cast plain_prim prim prefixed unary levels expr_over expr plain_unary plain_expr cast_rest range enum_item enum vector_type atom_type mailbox_type word_type named_type type unnamed_implied named_name typed_name dimension_inside dimension new_rest init declarator_rest declarator declarators more_declarators life_decl var_decl plain_decl word_decl named_decl_rest early_rest early block_items argument unit_arguments called function_head task_head head routine_name routine_end routine automatic_decl class_decl member
member_known = record { passes = refl; info_is = refl; low_is = refl }

pub pure_method_known : IsKnown pure_method (codes_of (k.Pure ∷ [])) false 0
unfolding comma_expr select suffix suffixes post_rest this_post system_call super_call closed cast number time text null_ dollar group named this braces word_cast plain_prim prim prefixed unary levels expr_over expr range enum_item enum vector_type atom_type mailbox_type word_type unnamed_implied named_name typed_name argument unit_arguments called function_head task_head head pure_method
pure_method_known = record { passes = refl; info_is = refl; low_is = refl }

pub qualified_known : IsKnown qualified (codes_of (k.Local ∷ k.Protected ∷ k.Static ∷ k.Virtual ∷ [])) false 0
unfolding comma_expr select suffix suffixes post_rest this_post system_call super_call closed cast number time text null_ dollar group named this braces word_cast plain_prim prim prefixed unary levels expr_over expr plain_unary plain_expr cast_rest range enum_item enum vector_type atom_type mailbox_type word_type named_type type unnamed_implied named_name typed_name dimension_inside dimension new_rest init declarator_rest declarator declarators more_declarators life_decl var_decl plain_decl word_decl named_decl_rest early_rest early block_items argument unit_arguments called function_head task_head head routine_name routine_end routine automatic_decl class_decl member qualified
qualified_known = record { passes = refl; info_is = refl; low_is = refl }

pub class_item_known : IsKnown class_item (codes_of (k.Pure ∷ k.Typedef ∷ k.Semicolon ∷ k.Local ∷ k.Protected ∷ k.Static ∷ k.Virtual ∷ k.Automatic ∷ k.Var ∷ []) ++ kinds_of vector_words ++ kinds_of atom_words ++ codes_of (k.String ∷ k.Event ∷ k.Semaphore ∷ k.Mailbox ∷ k.Enum ∷ k.Name ∷ k.Function ∷ k.Task ∷ [])) false 0
unfolding comma_expr select suffix suffixes post_rest this_post system_call super_call closed cast number time text null_ dollar group named this braces word_cast plain_prim prim prefixed unary levels expr_over expr plain_unary plain_expr cast_rest range enum_item enum vector_type atom_type mailbox_type word_type named_type type unnamed_implied named_name typed_name dimension_inside dimension new_rest init declarator_rest declarator declarators more_declarators life_decl var_decl plain_decl word_decl named_decl_rest early_rest early block_items typedef_rest typedef argument unit_arguments called function_head task_head head routine_name routine_end routine automatic_decl class_decl member pure_method qualified class_item
class_item_known = record { passes = refl; info_is = refl; low_is = refl }

pub class_rest_known : IsKnown class_rest (codes_of (k.Name ∷ [])) false 0
unfolding comma_expr select suffix suffixes post_rest this_post system_call super_call closed cast number time text null_ dollar group named this braces word_cast plain_prim prim prefixed unary levels expr_over expr plain_unary plain_expr cast_rest range enum_item enum vector_type atom_type mailbox_type word_type named_type type unnamed_implied named_name typed_name dimension_inside dimension new_rest init declarator_rest declarator declarators more_declarators life_decl var_decl plain_decl word_decl named_decl_rest early_rest early block_items typedef_rest typedef argument unit_arguments called function_head task_head head routine_name routine_end routine automatic_decl class_decl member pure_method qualified class_item class_rest
class_rest_known = record { passes = refl; info_is = refl; low_is = refl }

pub virtual_class_known : IsKnown virtual_class (codes_of (k.Virtual ∷ [])) false 0
unfolding comma_expr select suffix suffixes post_rest this_post system_call super_call closed cast number time text null_ dollar group named this braces word_cast plain_prim prim prefixed unary levels expr_over expr plain_unary plain_expr cast_rest range enum_item enum vector_type atom_type mailbox_type word_type named_type type unnamed_implied named_name typed_name dimension_inside dimension new_rest init declarator_rest declarator declarators more_declarators life_decl var_decl plain_decl word_decl named_decl_rest early_rest early block_items typedef_rest typedef argument unit_arguments called function_head task_head head routine_name routine_end routine automatic_decl class_decl member pure_method qualified class_item class_rest virtual_class
virtual_class_known = record { passes = refl; info_is = refl; low_is = refl }

pub plain_class_known : IsKnown plain_class (codes_of (k.Class ∷ [])) false 0
unfolding comma_expr select suffix suffixes post_rest this_post system_call super_call closed cast number time text null_ dollar group named this braces word_cast plain_prim prim prefixed unary levels expr_over expr plain_unary plain_expr cast_rest range enum_item enum vector_type atom_type mailbox_type word_type named_type type unnamed_implied named_name typed_name dimension_inside dimension new_rest init declarator_rest declarator declarators more_declarators life_decl var_decl plain_decl word_decl named_decl_rest early_rest early block_items typedef_rest typedef argument unit_arguments called function_head task_head head routine_name routine_end routine automatic_decl class_decl member pure_method qualified class_item class_rest plain_class
plain_class_known = record { passes = refl; info_is = refl; low_is = refl }

pub class_known : IsKnown class (codes_of (k.Virtual ∷ k.Class ∷ [])) false 0
unfolding comma_expr select suffix suffixes post_rest this_post system_call super_call closed cast number time text null_ dollar group named this braces word_cast plain_prim prim prefixed unary levels expr_over expr plain_unary plain_expr cast_rest range enum_item enum vector_type atom_type mailbox_type word_type named_type type unnamed_implied named_name typed_name dimension_inside dimension new_rest init declarator_rest declarator declarators more_declarators life_decl var_decl plain_decl word_decl named_decl_rest early_rest early block_items typedef_rest typedef argument unit_arguments called function_head task_head head routine_name routine_end routine automatic_decl class_decl member pure_method qualified class_item class_rest virtual_class plain_class class
class_known = record { passes = refl; info_is = refl; low_is = refl }

pub named_items_known : IsKnown named_items (codes_of (k.Typedef ∷ k.Virtual ∷ k.Class ∷ []) ++ kinds_of param_words ++ codes_of (k.Function ∷ k.Task ∷ [])) false 0
unfolding comma_expr select suffix suffixes post_rest this_post system_call super_call closed cast number time text null_ dollar group named this braces word_cast plain_prim prim prefixed unary levels expr_over expr plain_unary plain_expr cast_rest range enum_item enum vector_type atom_type mailbox_type word_type named_type type unnamed_implied named_name typed_name dimension_inside dimension new_rest init declarator_rest declarator declarators more_declarators life_decl var_decl plain_decl word_decl named_decl_rest early_rest early block_items param_item param typedef_rest typedef argument unit_arguments called function_head task_head head routine_name routine_end routine automatic_decl class_decl member pure_method qualified class_item class_rest virtual_class plain_class class named_items
named_items_known = record { passes = refl; info_is = refl; low_is = refl }

pub initial_known : IsKnown initial (codes_of (k.Initial ∷ [])) false 1
unfolding initial
initial_known = record { passes = refl; info_is = refl; low_is = refl }

pub common_known : IsKnown common (kinds_of life_words ++ codes_of (k.Var ∷ []) ++ kinds_of vector_words ++ kinds_of atom_words ++ codes_of (k.String ∷ k.Event ∷ k.Semaphore ∷ k.Mailbox ∷ k.Enum ∷ k.Typedef ∷ k.Virtual ∷ k.Class ∷ []) ++ kinds_of param_words ++ codes_of (k.Function ∷ k.Task ∷ k.Clocking ∷ k.Default ∷ k.Initial ∷ k.Semicolon ∷ [])) false 0
unfolding comma_expr select suffix suffixes post_rest this_post system_call super_call closed cast number time text null_ dollar group named this braces word_cast plain_prim prim prefixed unary levels expr_over expr plain_unary plain_expr cast_rest range enum_item enum vector_type atom_type mailbox_type word_type named_type type unnamed_implied named_name typed_name dimension_inside dimension new_rest init declarator_rest declarator declarators more_declarators life_decl var_decl plain_decl word_decl named_decl_rest enclosed amount early_rest early block_items param_item param typedef_rest typedef argument unit_arguments called function_head task_head head routine_name routine_end routine skew_rest skew default_skew output_side input_side sides default_skews clocking_item clocking_rest plain_clocking default_rest default_clocking clocking automatic_decl class_decl member pure_method qualified class_item class_rest virtual_class plain_class class named_items initial common
common_known = record { passes = refl; info_is = refl; low_is = refl }

pub named_decl_known : IsKnown named_decl (codes_of (k.Name ∷ [])) false 0
unfolding comma_expr select suffix suffixes post_rest this_post system_call super_call closed cast number time text null_ dollar group named this braces word_cast plain_prim prim prefixed unary levels expr_over expr plain_unary plain_expr cast_rest range enum_item enum dimension_inside dimension new_rest init declarator_rest declarator more_declarators named_decl_rest named_decl
named_decl_known = record { passes = refl; info_is = refl; low_is = refl }

pub program_item_known : IsKnown program_item (kinds_of life_words ++ codes_of (k.Var ∷ []) ++ kinds_of vector_words ++ kinds_of atom_words ++ codes_of (k.String ∷ k.Event ∷ k.Semaphore ∷ k.Mailbox ∷ k.Enum ∷ k.Typedef ∷ k.Virtual ∷ k.Class ∷ []) ++ kinds_of param_words ++ codes_of (k.Function ∷ k.Task ∷ k.Clocking ∷ k.Default ∷ k.Initial ∷ k.Semicolon ∷ k.Name ∷ [])) false 0
unfolding comma_expr select suffix suffixes post_rest this_post system_call super_call closed cast number time text null_ dollar group named this braces word_cast plain_prim prim prefixed unary levels expr_over expr plain_unary plain_expr cast_rest range enum_item enum vector_type atom_type mailbox_type word_type named_type type unnamed_implied named_name typed_name dimension_inside dimension new_rest init declarator_rest declarator declarators more_declarators life_decl var_decl plain_decl word_decl named_decl_rest enclosed amount early_rest early block_items param_item param typedef_rest typedef argument unit_arguments called function_head task_head head routine_name routine_end routine skew_rest skew default_skew output_side input_side sides default_skews clocking_item clocking_rest plain_clocking default_rest default_clocking clocking automatic_decl class_decl member pure_method qualified class_item class_rest virtual_class plain_class class named_items initial common named_decl program_item
program_item_known = record { passes = refl; info_is = refl; low_is = refl }

pub given_known : IsKnown given (codes_of (k.LeftParenthesis ∷ [])) false 0
unfolding comma_expr select suffix suffixes post_rest this_post system_call super_call closed cast number time text null_ dollar group named this braces word_cast plain_prim prim prefixed unary levels expr_over expr given
given_known = record { passes = refl; info_is = refl; low_is = refl }

pub dotted_known : IsKnown dotted (codes_of (k.Dot ∷ [])) false 0
unfolding comma_expr select suffix suffixes post_rest this_post system_call super_call closed cast number time text null_ dollar group named this braces word_cast plain_prim prim prefixed unary levels expr_over expr given dotted
dotted_known = record { passes = refl; info_is = refl; low_is = refl }

pub connection_known : IsKnown connection (codes_of (k.Dot ∷ k.DotStar ∷ []) ++ expr_first) false 0
unfolding comma_expr select suffix suffixes post_rest this_post system_call super_call closed cast number time text null_ dollar group named this braces word_cast plain_prim prim prefixed unary levels expr_over expr given dotted connection
connection_known = record { passes = refl; info_is = refl; low_is = refl }

pub connections_known : IsKnown connections (codes_of (k.LeftParenthesis ∷ [])) false 0
unfolding comma_expr select suffix suffixes post_rest this_post system_call super_call closed cast number time text null_ dollar group named this braces word_cast plain_prim prim prefixed unary levels expr_over expr given dotted connection connections
connections_known = record { passes = refl; info_is = refl; low_is = refl }

pub instance_known : IsKnown instance (codes_of (k.Name ∷ [])) false 0
unfolding comma_expr select suffix suffixes post_rest this_post system_call super_call closed cast number time text null_ dollar group named this braces word_cast plain_prim prim prefixed unary levels expr_over expr given dotted connection connections instance
instance_known = record { passes = refl; info_is = refl; low_is = refl }

pub instances_rest_known : IsKnown instances_rest (codes_of (k.LeftParenthesis ∷ [])) false 0
unfolding comma_expr select suffix suffixes post_rest this_post system_call super_call closed cast number time text null_ dollar group named this braces word_cast plain_prim prim prefixed unary levels expr_over expr given dotted connection connections instance instances_rest
instances_rest_known = record { passes = refl; info_is = refl; low_is = refl }

pub decl_rest_known : IsKnown decl_rest (codes_of (k.LeftBracket ∷ k.Equals ∷ k.Comma ∷ k.Semicolon ∷ [])) false 0
unfolding comma_expr select suffix suffixes post_rest this_post system_call super_call closed cast number time text null_ dollar group named this braces word_cast plain_prim prim prefixed unary levels expr_over expr plain_unary plain_expr cast_rest range enum_item enum dimension_inside dimension new_rest init declarator_rest declarator more_declarators decl_rest
decl_rest_known = record { passes = refl; info_is = refl; low_is = refl }

pub second_named_known : IsKnown second_named (codes_of (k.LeftParenthesis ∷ k.LeftBracket ∷ k.Equals ∷ k.Comma ∷ k.Semicolon ∷ [])) false 0
unfolding comma_expr select suffix suffixes post_rest this_post system_call super_call closed cast number time text null_ dollar group named this braces word_cast plain_prim prim prefixed unary levels expr_over expr plain_unary plain_expr cast_rest range enum_item enum dimension_inside dimension new_rest init declarator_rest declarator more_declarators given dotted connection connections instance instances_rest decl_rest second_named
second_named_known = record { passes = refl; info_is = refl; low_is = refl }

pub valued_instances_known : IsKnown valued_instances (codes_of (k.Hash ∷ [])) false 0
unfolding comma_expr select suffix suffixes post_rest this_post system_call super_call closed cast number time text null_ dollar group named this braces word_cast plain_prim prim prefixed unary levels expr_over expr given dotted connection connections instance valued_instances
valued_instances_known = record { passes = refl; info_is = refl; low_is = refl }

pub named_item_rest_known : IsKnown named_item_rest (codes_of (k.Hash ∷ k.Name ∷ [])) false 0
unfolding comma_expr select suffix suffixes post_rest this_post system_call super_call closed cast number time text null_ dollar group named this braces word_cast plain_prim prim prefixed unary levels expr_over expr plain_unary plain_expr cast_rest range enum_item enum dimension_inside dimension new_rest init declarator_rest declarator more_declarators given dotted connection connections instance instances_rest decl_rest second_named valued_instances named_item_rest
named_item_rest_known = record { passes = refl; info_is = refl; low_is = refl }

pub named_item_known : IsKnown named_item (codes_of (k.Name ∷ [])) false 0
unfolding comma_expr select suffix suffixes post_rest this_post system_call super_call closed cast number time text null_ dollar group named this braces word_cast plain_prim prim prefixed unary levels expr_over expr plain_unary plain_expr cast_rest range enum_item enum dimension_inside dimension new_rest init declarator_rest declarator more_declarators given dotted connection connections instance instances_rest decl_rest second_named valued_instances named_item_rest named_item
named_item_known = record { passes = refl; info_is = refl; low_is = refl }

pub net_item_known : IsKnown net_item (codes_of (k.Name ∷ [])) false 0
unfolding comma_expr select suffix suffixes post_rest this_post system_call super_call closed cast number time text null_ dollar group named this braces word_cast plain_prim prim prefixed unary levels expr_over expr net_item
net_item_known = record { passes = refl; info_is = refl; low_is = refl }

pub net_word_known : IsKnown net_word (codes_of (k.Wire ∷ k.Tri ∷ [])) false 0
unfolding net_word
net_word_known = record { passes = refl; info_is = refl; low_is = refl }

pub net_known : IsKnown net (codes_of (k.Wire ∷ k.Tri ∷ [])) false 0
unfolding comma_expr select suffix suffixes post_rest this_post system_call super_call closed cast number time text null_ dollar group named this braces word_cast plain_prim prim prefixed unary levels expr_over expr range net_item net_word net
net_known = record { passes = refl; info_is = refl; low_is = refl }

pub assign_item_known : IsKnown assign_item (codes_of (k.Name ∷ k.This ∷ k.Super ∷ k.LeftBrace ∷ [])) false 0
unfolding comma_expr select suffix suffixes post_rest named_post this_post super_post post targets lval system_call super_call closed cast number time text null_ dollar group named this braces word_cast plain_prim prim prefixed unary levels expr_over expr assign_item
assign_item_known = record { passes = refl; info_is = refl; low_is = refl }

pub assign_known : IsKnown assign (codes_of (k.Assign ∷ [])) false 0
unfolding comma_expr select suffix suffixes post_rest named_post this_post super_post post targets lval system_call super_call closed cast number time text null_ dollar group named this braces word_cast plain_prim prim prefixed unary levels expr_over expr assign_item assign
assign_known = record { passes = refl; info_is = refl; low_is = refl }

pub always_known : IsKnown always (kinds_of procedure_words) false 1
unfolding always
always_known = record { passes = refl; info_is = refl; low_is = refl }

pub module_item_known : IsKnown module_item (kinds_of life_words ++ codes_of (k.Var ∷ []) ++ kinds_of vector_words ++ kinds_of atom_words ++ codes_of (k.String ∷ k.Event ∷ k.Semaphore ∷ k.Mailbox ∷ k.Enum ∷ k.Typedef ∷ k.Virtual ∷ k.Class ∷ []) ++ kinds_of param_words ++ codes_of (k.Function ∷ k.Task ∷ k.Clocking ∷ k.Default ∷ k.Initial ∷ k.Semicolon ∷ k.Wire ∷ k.Tri ∷ k.Assign ∷ []) ++ kinds_of procedure_words ++ codes_of (k.Name ∷ [])) false 0
unfolding comma_expr select suffix suffixes post_rest named_post this_post super_post post targets lval system_call super_call closed cast number time text null_ dollar group named this braces word_cast plain_prim prim prefixed unary levels expr_over expr plain_unary plain_expr cast_rest range enum_item enum vector_type atom_type mailbox_type word_type named_type type unnamed_implied named_name typed_name dimension_inside dimension new_rest init declarator_rest declarator declarators more_declarators life_decl var_decl plain_decl word_decl named_decl_rest enclosed amount early_rest early block_items param_item param typedef_rest typedef argument unit_arguments called function_head task_head head routine_name routine_end routine skew_rest skew default_skew output_side input_side sides default_skews clocking_item clocking_rest plain_clocking default_rest default_clocking clocking automatic_decl class_decl member pure_method qualified class_item class_rest virtual_class plain_class class named_items initial common given dotted connection connections instance instances_rest decl_rest second_named valued_instances named_item_rest named_item net_item net_word net assign_item assign always module_item
module_item_known = record { passes = refl; info_is = refl; low_is = refl }

pub element_head_known : IsKnown element_head (codes_of (k.Hash ∷ k.LeftParenthesis ∷ k.Semicolon ∷ [])) false 0
unfolding comma_expr select suffix suffixes post_rest this_post system_call super_call closed cast number time text null_ dollar group named this braces word_cast plain_prim prim prefixed unary levels expr_over expr range enum_item enum vector_type atom_type mailbox_type word_type unnamed_implied named_name typed_name element_param element_params directed_port plain_port next_port ports element_head
element_head_known = record { passes = refl; info_is = refl; low_is = refl }

pub module_element_known : IsKnown module_element (codes_of (k.Module ∷ [])) false 0
unfolding comma_expr select suffix suffixes post_rest named_post this_post super_post post targets lval system_call super_call closed cast number time text null_ dollar group named this braces word_cast plain_prim prim prefixed unary levels expr_over expr plain_unary plain_expr cast_rest range enum_item enum vector_type atom_type mailbox_type word_type named_type type unnamed_implied named_name typed_name dimension_inside dimension new_rest init declarator_rest declarator declarators more_declarators life_decl var_decl plain_decl word_decl named_decl_rest enclosed amount early_rest early block_items param_item param element_param element_params directed_port plain_port next_port ports typedef_rest typedef argument unit_arguments called function_head task_head head routine_name routine_end routine skew_rest skew default_skew output_side input_side sides default_skews clocking_item clocking_rest plain_clocking default_rest default_clocking clocking automatic_decl class_decl member pure_method qualified class_item class_rest virtual_class plain_class class named_items initial common given dotted connection connections instance instances_rest decl_rest second_named valued_instances named_item_rest named_item net_item net_word net assign_item assign always module_item element_head module_element
module_element_known = record { passes = refl; info_is = refl; low_is = refl }

pub program_element_known : IsKnown program_element (codes_of (k.Program ∷ [])) false 0
unfolding comma_expr select suffix suffixes post_rest this_post system_call super_call closed cast number time text null_ dollar group named this braces word_cast plain_prim prim prefixed unary levels expr_over expr plain_unary plain_expr cast_rest range enum_item enum vector_type atom_type mailbox_type word_type named_type type unnamed_implied named_name typed_name dimension_inside dimension new_rest init declarator_rest declarator declarators more_declarators life_decl var_decl plain_decl word_decl named_decl_rest enclosed amount early_rest early block_items param_item param element_param element_params directed_port plain_port next_port ports typedef_rest typedef argument unit_arguments called function_head task_head head routine_name routine_end routine skew_rest skew default_skew output_side input_side sides default_skews clocking_item clocking_rest plain_clocking default_rest default_clocking clocking automatic_decl class_decl member pure_method qualified class_item class_rest virtual_class plain_class class named_items initial common named_decl program_item element_head program_element
program_element_known = record { passes = refl; info_is = refl; low_is = refl }

pub description_known : IsKnown description (codes_of (k.Module ∷ k.Program ∷ k.Typedef ∷ k.Virtual ∷ k.Class ∷ []) ++ kinds_of param_words ++ codes_of (k.Function ∷ k.Task ∷ k.Semicolon ∷ [])) false 0
unfolding comma_expr select suffix suffixes post_rest named_post this_post super_post post targets lval system_call super_call closed cast number time text null_ dollar group named this braces word_cast plain_prim prim prefixed unary levels expr_over expr plain_unary plain_expr cast_rest range enum_item enum vector_type atom_type mailbox_type word_type named_type type unnamed_implied named_name typed_name dimension_inside dimension new_rest init declarator_rest declarator declarators more_declarators life_decl var_decl plain_decl word_decl named_decl_rest enclosed amount early_rest early block_items param_item param element_param element_params directed_port plain_port next_port ports typedef_rest typedef argument unit_arguments called function_head task_head head routine_name routine_end routine skew_rest skew default_skew output_side input_side sides default_skews clocking_item clocking_rest plain_clocking default_rest default_clocking clocking automatic_decl class_decl member pure_method qualified class_item class_rest virtual_class plain_class class named_items initial common named_decl program_item given dotted connection connections instance instances_rest decl_rest second_named valued_instances named_item_rest named_item net_item net_word net assign_item assign always module_item element_head module_element program_element description
description_known = record { passes = refl; info_is = refl; low_is = refl }

pub file_known : IsKnown file (codes_of (k.Module ∷ k.Program ∷ k.Typedef ∷ k.Virtual ∷ k.Class ∷ []) ++ kinds_of param_words ++ codes_of (k.Function ∷ k.Task ∷ k.Semicolon ∷ k.EndOfText ∷ [])) false 0
unfolding comma_expr select suffix suffixes post_rest named_post this_post super_post post targets lval system_call super_call closed cast number time text null_ dollar group named this braces word_cast plain_prim prim prefixed unary levels expr_over expr plain_unary plain_expr cast_rest range enum_item enum vector_type atom_type mailbox_type word_type named_type type unnamed_implied named_name typed_name dimension_inside dimension new_rest init declarator_rest declarator declarators more_declarators life_decl var_decl plain_decl word_decl named_decl_rest enclosed amount early_rest early block_items param_item param element_param element_params directed_port plain_port next_port ports typedef_rest typedef argument unit_arguments called function_head task_head head routine_name routine_end routine skew_rest skew default_skew output_side input_side sides default_skews clocking_item clocking_rest plain_clocking default_rest default_clocking clocking automatic_decl class_decl member pure_method qualified class_item class_rest virtual_class plain_class class named_items initial common named_decl program_item given dotted connection connections instance instances_rest decl_rest second_named valued_instances named_item_rest named_item net_item net_word net assign_item assign always module_item element_head module_element program_element description file
file_known = record { passes = refl; info_is = refl; low_is = refl }

-- ---- lists of them

pub default_skew_list : fine Production Value heads need (Rep default_skew) ≡ true
unfolding comma_expr select suffix suffixes post_rest this_post system_call super_call closed cast number time text null_ dollar group named this braces word_cast plain_prim prim prefixed unary levels expr_over expr enclosed amount skew_rest skew default_skew
default_skew_list = refl

pub clocking_item_list : fine Production Value heads need (Rep clocking_item) ≡ true
unfolding comma_expr select suffix suffixes post_rest this_post system_call super_call closed cast number time text null_ dollar group named this braces word_cast plain_prim prim prefixed unary levels expr_over expr enclosed amount skew_rest skew default_skew output_side input_side sides default_skews clocking_item
clocking_item_list = refl

pub class_item_list : fine Production Value heads need (Rep class_item) ≡ true
unfolding comma_expr select suffix suffixes post_rest this_post system_call super_call closed cast number time text null_ dollar group named this braces word_cast plain_prim prim prefixed unary levels expr_over expr plain_unary plain_expr cast_rest range enum_item enum vector_type atom_type mailbox_type word_type named_type type unnamed_implied named_name typed_name dimension_inside dimension new_rest init declarator_rest declarator declarators more_declarators life_decl var_decl plain_decl word_decl named_decl_rest early_rest early block_items typedef_rest typedef argument unit_arguments called function_head task_head head routine_name routine_end routine automatic_decl class_decl member pure_method qualified class_item
class_item_list = refl

pub module_item_list : fine Production Value heads need (Rep module_item) ≡ true
unfolding comma_expr select suffix suffixes post_rest named_post this_post super_post post targets lval system_call super_call closed cast number time text null_ dollar group named this braces word_cast plain_prim prim prefixed unary levels expr_over expr plain_unary plain_expr cast_rest range enum_item enum vector_type atom_type mailbox_type word_type named_type type unnamed_implied named_name typed_name dimension_inside dimension new_rest init declarator_rest declarator declarators more_declarators life_decl var_decl plain_decl word_decl named_decl_rest enclosed amount early_rest early block_items param_item param typedef_rest typedef argument unit_arguments called function_head task_head head routine_name routine_end routine skew_rest skew default_skew output_side input_side sides default_skews clocking_item clocking_rest plain_clocking default_rest default_clocking clocking automatic_decl class_decl member pure_method qualified class_item class_rest virtual_class plain_class class named_items initial common given dotted connection connections instance instances_rest decl_rest second_named valued_instances named_item_rest named_item net_item net_word net assign_item assign always module_item
module_item_list = refl

pub program_item_list : fine Production Value heads need (Rep program_item) ≡ true
unfolding comma_expr select suffix suffixes post_rest this_post system_call super_call closed cast number time text null_ dollar group named this braces word_cast plain_prim prim prefixed unary levels expr_over expr plain_unary plain_expr cast_rest range enum_item enum vector_type atom_type mailbox_type word_type named_type type unnamed_implied named_name typed_name dimension_inside dimension new_rest init declarator_rest declarator declarators more_declarators life_decl var_decl plain_decl word_decl named_decl_rest enclosed amount early_rest early block_items param_item param typedef_rest typedef argument unit_arguments called function_head task_head head routine_name routine_end routine skew_rest skew default_skew output_side input_side sides default_skews clocking_item clocking_rest plain_clocking default_rest default_clocking clocking automatic_decl class_decl member pure_method qualified class_item class_rest virtual_class plain_class class named_items initial common named_decl program_item
program_item_list = refl

pub description_list : fine Production Value heads need (Rep description) ≡ true
unfolding comma_expr select suffix suffixes post_rest named_post this_post super_post post targets lval system_call super_call closed cast number time text null_ dollar group named this braces word_cast plain_prim prim prefixed unary levels expr_over expr plain_unary plain_expr cast_rest range enum_item enum vector_type atom_type mailbox_type word_type named_type type unnamed_implied named_name typed_name dimension_inside dimension new_rest init declarator_rest declarator declarators more_declarators life_decl var_decl plain_decl word_decl named_decl_rest enclosed amount early_rest early block_items param_item param element_param element_params directed_port plain_port next_port ports typedef_rest typedef argument unit_arguments called function_head task_head head routine_name routine_end routine skew_rest skew default_skew output_side input_side sides default_skews clocking_item clocking_rest plain_clocking default_rest default_clocking clocking automatic_decl class_decl member pure_method qualified class_item class_rest virtual_class plain_class class named_items initial common named_decl program_item given dotted connection connections instance instances_rest decl_rest second_named valued_instances named_item_rest named_item net_item net_word net assign_item assign always module_item element_head module_element program_element description
description_list = refl

pub name_commas : fine Production Value heads need (commas name) ≡ true
name_commas = refl

pub param_item_commas : fine Production Value heads need (commas param_item) ≡ true
unfolding comma_expr select suffix suffixes post_rest this_post system_call super_call closed cast number time text null_ dollar group named this braces word_cast plain_prim prim prefixed unary levels expr_over expr param_item
param_item_commas = refl

pub element_param_commas : fine Production Value heads need (commas element_param) ≡ true
unfolding comma_expr select suffix suffixes post_rest this_post system_call super_call closed cast number time text null_ dollar group named this braces word_cast plain_prim prim prefixed unary levels expr_over expr range enum_item enum vector_type atom_type mailbox_type word_type unnamed_implied named_name typed_name element_param
element_param_commas = refl

pub next_port_commas : fine Production Value heads need (commas next_port) ≡ true
unfolding comma_expr select suffix suffixes post_rest this_post system_call super_call closed cast number time text null_ dollar group named this braces word_cast plain_prim prim prefixed unary levels expr_over expr range enum_item enum vector_type atom_type mailbox_type word_type unnamed_implied named_name typed_name directed_port plain_port next_port
next_port_commas = refl

pub argument_commas : fine Production Value heads need (commas argument) ≡ true
unfolding comma_expr select suffix suffixes post_rest this_post system_call super_call closed cast number time text null_ dollar group named this braces word_cast plain_prim prim prefixed unary levels expr_over expr range enum_item enum vector_type atom_type mailbox_type word_type unnamed_implied named_name typed_name argument
argument_commas = refl

pub instance_commas : fine Production Value heads need (commas instance) ≡ true
unfolding comma_expr select suffix suffixes post_rest this_post system_call super_call closed cast number time text null_ dollar group named this braces word_cast plain_prim prim prefixed unary levels expr_over expr given dotted connection connections instance
instance_commas = refl

pub connection_commas : fine Production Value heads need (commas connection) ≡ true
unfolding comma_expr select suffix suffixes post_rest this_post system_call super_call closed cast number time text null_ dollar group named this braces word_cast plain_prim prim prefixed unary levels expr_over expr given dotted connection
connection_commas = refl

pub net_item_commas : fine Production Value heads need (commas net_item) ≡ true
unfolding comma_expr select suffix suffixes post_rest this_post system_call super_call closed cast number time text null_ dollar group named this braces word_cast plain_prim prim prefixed unary levels expr_over expr net_item
net_item_commas = refl

pub assign_item_commas : fine Production Value heads need (commas assign_item) ≡ true
unfolding comma_expr select suffix suffixes post_rest named_post this_post super_post post targets lval system_call super_call closed cast number time text null_ dollar group named this braces word_cast plain_prim prim prefixed unary levels expr_over expr assign_item
assign_item_commas = refl
