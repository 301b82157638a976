-- What is known of the productions of statements: with one token of look-ahead each is read rightly, what begins it, and the
-- least depth of its trees.
use Rattle.std.proofs.Common.{◌≡◌, true, false, [], ◌∷◌, ◌++◌, refl}
use Rattle.sv_grammar.specs.Code.{fine}
use Rattle.sv_grammar.specs.Code.Code.{Rep}
use Rattle.sv_tree.specs.declared.kind.Kind.TheVariants as k
use Rattle.sv_tree.specs.Forms.{Production, Value, codes_of, kinds_of}
use Rattle.sv_tree.specs.ExprGrammar.{comma_expr, select, suffix, suffixes, post_rest, named_post, this_post, super_post, post, targets, lval, system_call, super_call, call, closed, cast, number, time, text, null_, dollar, group, named, this, braces, word_cast, plain_prim, prim, prefixed, unary, levels, expr_over, expr, plain_unary, plain_expr, cast_rest, atom_words, vector_words}
use Rattle.sv_tree.specs.TypeGrammar.{range, enum_item, enum, vector_type, atom_type, mailbox_type, word_type, named_type, type, dimension_inside, dimension, new_rest, init, declarator_rest, declarator, declarators, more_declarators, life_decl, var_decl, plain_decl, word_decl, named_decl_rest, life_words}
use Rattle.sv_tree.specs.StmtGrammar.{enclosed, amount, delay, cycles_amount, event_part, next_event_part, event_parts, event_list, event, blocking_rest, nonblocking_rest, operator_rest, step_after, assign_end, post_end, named_rest, super_rest, super_statement, early_rest, early, block_items, block_rest, fork_rest, block, fork, else_, if_rest, if_, default_item, labelled_item, case_item, case_rest, case_, for_step_rest, for_step_before, for_step, for_init_rest, unnamed_lval, for_init, for_, while_, do_rest, do_, repeat, forever, foreach, after, on_event, cycles, wait_rest, wait, ignore, return_, null_statement, step_statement, system_statement, this_statement, targets_statement, disable, trigger, break_, continue_, unnamed, body, named_statement, stmt, assign_words, case_words, edge_words, join_words, step_words}
use Rattle.sv_tree.specs.Grammar.{heads, need, expr_first, named_first, unnamed_first}
use Rattle.sv_tree.proofs.Known.{IsKnown}

pub enclosed_known : IsKnown enclosed (codes_of (k.LeftParenthesis ∷ [])) false 0
unfolding comma_expr select suffix suffixes post_rest this_post system_call super_call closed cast number time text null_ dollar group named this braces word_cast plain_prim prim prefixed unary levels expr_over expr enclosed
enclosed_known = record { passes = refl; info_is = refl; low_is = refl }

pub amount_known : IsKnown amount (codes_of (k.Number ∷ k.TimeLiteral ∷ k.Name ∷ k.LeftParenthesis ∷ [])) false 0
unfolding comma_expr select suffix suffixes post_rest this_post system_call super_call closed cast number time text null_ dollar group named this braces word_cast plain_prim prim prefixed unary levels expr_over expr enclosed amount
amount_known = record { passes = refl; info_is = refl; low_is = refl }

pub delay_known : IsKnown delay (codes_of (k.Hash ∷ [])) false 0
unfolding comma_expr select suffix suffixes post_rest this_post system_call super_call closed cast number time text null_ dollar group named this braces word_cast plain_prim prim prefixed unary levels expr_over expr enclosed amount delay
delay_known = record { passes = refl; info_is = refl; low_is = refl }

pub cycles_amount_known : IsKnown cycles_amount (codes_of (k.Number ∷ k.Name ∷ k.LeftParenthesis ∷ [])) false 0
unfolding comma_expr select suffix suffixes post_rest this_post system_call super_call closed cast number time text null_ dollar group named this braces word_cast plain_prim prim prefixed unary levels expr_over expr enclosed cycles_amount
cycles_amount_known = record { passes = refl; info_is = refl; low_is = refl }

pub event_part_known : IsKnown event_part (kinds_of edge_words ++ expr_first) false 0
unfolding comma_expr select suffix suffixes post_rest this_post system_call super_call closed cast number time text null_ dollar group named this braces word_cast plain_prim prim prefixed unary levels expr_over expr event_part
event_part_known = record { passes = refl; info_is = refl; low_is = refl }

pub next_event_part_known : IsKnown next_event_part (codes_of (k.Or ∷ k.Comma ∷ [])) false 0
unfolding comma_expr select suffix suffixes post_rest this_post system_call super_call closed cast number time text null_ dollar group named this braces word_cast plain_prim prim prefixed unary levels expr_over expr event_part next_event_part
next_event_part_known = record { passes = refl; info_is = refl; low_is = refl }

pub event_parts_known : IsKnown event_parts (kinds_of edge_words ++ expr_first) false 0
unfolding comma_expr select suffix suffixes post_rest this_post system_call super_call closed cast number time text null_ dollar group named this braces word_cast plain_prim prim prefixed unary levels expr_over expr event_part next_event_part event_parts
event_parts_known = record { passes = refl; info_is = refl; low_is = refl }

pub event_list_known : IsKnown event_list (codes_of (k.Star ∷ []) ++ kinds_of edge_words ++ expr_first) false 0
unfolding comma_expr select suffix suffixes post_rest this_post system_call super_call closed cast number time text null_ dollar group named this braces word_cast plain_prim prim prefixed unary levels expr_over expr event_part next_event_part event_parts event_list
event_list_known = record { passes = refl; info_is = refl; low_is = refl }

pub event_known : IsKnown event (codes_of (k.Name ∷ k.Star ∷ k.LeftParenthesis ∷ [])) false 0
unfolding comma_expr select suffix suffixes post_rest this_post system_call super_call closed cast number time text null_ dollar group named this braces word_cast plain_prim prim prefixed unary levels expr_over expr event_part next_event_part event_parts event_list event
event_known = record { passes = refl; info_is = refl; low_is = refl }

pub blocking_rest_known : IsKnown blocking_rest (codes_of (k.Equals ∷ [])) false 0
unfolding comma_expr select suffix suffixes post_rest this_post system_call super_call closed cast number time text null_ dollar group named this braces word_cast plain_prim prim prefixed unary levels expr_over expr new_rest init enclosed amount delay blocking_rest
blocking_rest_known = record { passes = refl; info_is = refl; low_is = refl }

pub nonblocking_rest_known : IsKnown nonblocking_rest (codes_of (k.LessEquals ∷ [])) false 0
unfolding comma_expr select suffix suffixes post_rest this_post system_call super_call closed cast number time text null_ dollar group named this braces word_cast plain_prim prim prefixed unary levels expr_over expr enclosed amount delay nonblocking_rest
nonblocking_rest_known = record { passes = refl; info_is = refl; low_is = refl }

pub operator_rest_known : IsKnown operator_rest (kinds_of assign_words) false 0
unfolding comma_expr select suffix suffixes post_rest this_post system_call super_call closed cast number time text null_ dollar group named this braces word_cast plain_prim prim prefixed unary levels expr_over expr operator_rest
operator_rest_known = record { passes = refl; info_is = refl; low_is = refl }

pub step_after_known : IsKnown step_after (kinds_of step_words) false 0
unfolding step_after
step_after_known = record { passes = refl; info_is = refl; low_is = refl }

pub assign_end_known : IsKnown assign_end (codes_of (k.Equals ∷ k.LessEquals ∷ []) ++ kinds_of assign_words ++ kinds_of step_words) false 0
unfolding comma_expr select suffix suffixes post_rest this_post system_call super_call closed cast number time text null_ dollar group named this braces word_cast plain_prim prim prefixed unary levels expr_over expr new_rest init enclosed amount delay blocking_rest nonblocking_rest operator_rest step_after assign_end
assign_end_known = record { passes = refl; info_is = refl; low_is = refl }

pub post_end_known : IsKnown post_end (codes_of (k.Equals ∷ k.LessEquals ∷ []) ++ kinds_of assign_words ++ kinds_of step_words ++ codes_of (k.Semicolon ∷ [])) false 0
unfolding comma_expr select suffix suffixes post_rest this_post system_call super_call closed cast number time text null_ dollar group named this braces word_cast plain_prim prim prefixed unary levels expr_over expr new_rest init enclosed amount delay blocking_rest nonblocking_rest operator_rest step_after assign_end post_end
post_end_known = record { passes = refl; info_is = refl; low_is = refl }

pub named_rest_known : IsKnown named_rest (codes_of (k.ColonColon ∷ k.Dot ∷ k.LeftParenthesis ∷ k.LeftBracket ∷ k.Equals ∷ k.LessEquals ∷ []) ++ kinds_of assign_words ++ kinds_of step_words ++ codes_of (k.Semicolon ∷ [])) false 0
unfolding comma_expr select suffix suffixes post_rest this_post system_call super_call closed cast number time text null_ dollar group named this braces word_cast plain_prim prim prefixed unary levels expr_over expr new_rest init enclosed amount delay blocking_rest nonblocking_rest operator_rest step_after assign_end post_end named_rest
named_rest_known = record { passes = refl; info_is = refl; low_is = refl }

pub super_rest_known : IsKnown super_rest (codes_of (k.New ∷ k.Name ∷ [])) false 0
unfolding comma_expr select suffix suffixes post_rest this_post system_call super_call closed cast number time text null_ dollar group named this braces word_cast plain_prim prim prefixed unary levels expr_over expr new_rest init enclosed amount delay blocking_rest nonblocking_rest operator_rest step_after assign_end post_end super_rest
super_rest_known = record { passes = refl; info_is = refl; low_is = refl }

pub super_statement_known : IsKnown super_statement (codes_of (k.Super ∷ [])) false 0
unfolding comma_expr select suffix suffixes post_rest this_post system_call super_call closed cast number time text null_ dollar group named this braces word_cast plain_prim prim prefixed unary levels expr_over expr new_rest init enclosed amount delay blocking_rest nonblocking_rest operator_rest step_after assign_end post_end super_rest super_statement
super_statement_known = record { passes = refl; info_is = refl; low_is = refl }

pub early_rest_known : IsKnown early_rest (codes_of (k.Name ∷ []) ++ named_first) false 0
unfolding comma_expr select suffix suffixes post_rest this_post system_call super_call closed cast number time text null_ dollar group named this braces word_cast plain_prim prim prefixed unary levels expr_over expr plain_unary plain_expr cast_rest range enum_item enum dimension_inside dimension new_rest init declarator_rest declarator more_declarators named_decl_rest early_rest
early_rest_known = record { passes = refl; info_is = refl; low_is = refl }

pub early_known : IsKnown early (codes_of (k.Name ∷ []) ++ kinds_of life_words ++ codes_of (k.Var ∷ []) ++ kinds_of vector_words ++ kinds_of atom_words ++ codes_of (k.String ∷ k.Event ∷ k.Semaphore ∷ k.Mailbox ∷ k.Enum ∷ []) ++ unnamed_first) false 0
unfolding comma_expr select suffix suffixes post_rest this_post system_call super_call closed cast number time text null_ dollar group named this braces word_cast plain_prim prim prefixed unary levels expr_over expr plain_unary plain_expr cast_rest range enum_item enum vector_type atom_type mailbox_type word_type named_type type dimension_inside dimension new_rest init declarator_rest declarator declarators more_declarators life_decl var_decl plain_decl word_decl named_decl_rest early_rest early
early_known = record { passes = refl; info_is = refl; low_is = refl }

pub block_items_known : IsKnown block_items (codes_of (k.Name ∷ []) ++ kinds_of life_words ++ codes_of (k.Var ∷ []) ++ kinds_of vector_words ++ kinds_of atom_words ++ codes_of (k.String ∷ k.Event ∷ k.Semaphore ∷ k.Mailbox ∷ k.Enum ∷ []) ++ unnamed_first) true 0
unfolding comma_expr select suffix suffixes post_rest this_post system_call super_call closed cast number time text null_ dollar group named this braces word_cast plain_prim prim prefixed unary levels expr_over expr plain_unary plain_expr cast_rest range enum_item enum vector_type atom_type mailbox_type word_type named_type type dimension_inside dimension new_rest init declarator_rest declarator declarators more_declarators life_decl var_decl plain_decl word_decl named_decl_rest early_rest early block_items
block_items_known = record { passes = refl; info_is = refl; low_is = refl }

pub block_rest_known : IsKnown block_rest (codes_of (k.Name ∷ []) ++ kinds_of life_words ++ codes_of (k.Var ∷ []) ++ kinds_of vector_words ++ kinds_of atom_words ++ codes_of (k.String ∷ k.Event ∷ k.Semaphore ∷ k.Mailbox ∷ k.Enum ∷ []) ++ unnamed_first ++ codes_of (k.End ∷ [])) false 0
unfolding comma_expr select suffix suffixes post_rest this_post system_call super_call closed cast number time text null_ dollar group named this braces word_cast plain_prim prim prefixed unary levels expr_over expr plain_unary plain_expr cast_rest range enum_item enum vector_type atom_type mailbox_type word_type named_type type dimension_inside dimension new_rest init declarator_rest declarator declarators more_declarators life_decl var_decl plain_decl word_decl named_decl_rest early_rest early block_items block_rest
block_rest_known = record { passes = refl; info_is = refl; low_is = refl }

pub fork_rest_known : IsKnown fork_rest (codes_of (k.Name ∷ []) ++ kinds_of life_words ++ codes_of (k.Var ∷ []) ++ kinds_of vector_words ++ kinds_of atom_words ++ codes_of (k.String ∷ k.Event ∷ k.Semaphore ∷ k.Mailbox ∷ k.Enum ∷ []) ++ unnamed_first ++ kinds_of join_words) false 0
unfolding comma_expr select suffix suffixes post_rest this_post system_call super_call closed cast number time text null_ dollar group named this braces word_cast plain_prim prim prefixed unary levels expr_over expr plain_unary plain_expr cast_rest range enum_item enum vector_type atom_type mailbox_type word_type named_type type dimension_inside dimension new_rest init declarator_rest declarator declarators more_declarators life_decl var_decl plain_decl word_decl named_decl_rest early_rest early block_items fork_rest
fork_rest_known = record { passes = refl; info_is = refl; low_is = refl }

pub block_known : IsKnown block (codes_of (k.Begin ∷ [])) false 0
unfolding comma_expr select suffix suffixes post_rest this_post system_call super_call closed cast number time text null_ dollar group named this braces word_cast plain_prim prim prefixed unary levels expr_over expr plain_unary plain_expr cast_rest range enum_item enum vector_type atom_type mailbox_type word_type named_type type dimension_inside dimension new_rest init declarator_rest declarator declarators more_declarators life_decl var_decl plain_decl word_decl named_decl_rest early_rest early block_items block_rest block
block_known = record { passes = refl; info_is = refl; low_is = refl }

pub fork_known : IsKnown fork (codes_of (k.Fork ∷ [])) false 0
unfolding comma_expr select suffix suffixes post_rest this_post system_call super_call closed cast number time text null_ dollar group named this braces word_cast plain_prim prim prefixed unary levels expr_over expr plain_unary plain_expr cast_rest range enum_item enum vector_type atom_type mailbox_type word_type named_type type dimension_inside dimension new_rest init declarator_rest declarator declarators more_declarators life_decl var_decl plain_decl word_decl named_decl_rest early_rest early block_items fork_rest fork
fork_known = record { passes = refl; info_is = refl; low_is = refl }

pub else__known : IsKnown else_ (codes_of (k.Else ∷ [])) true 1
unfolding else_
else__known = record { passes = refl; info_is = refl; low_is = refl }

pub if_rest_known : IsKnown if_rest (codes_of (k.Name ∷ []) ++ unnamed_first) false 1
unfolding else_ if_rest
if_rest_known = record { passes = refl; info_is = refl; low_is = refl }

pub if__known : IsKnown if_ (codes_of (k.If ∷ [])) false 1
unfolding comma_expr select suffix suffixes post_rest this_post system_call super_call closed cast number time text null_ dollar group named this braces word_cast plain_prim prim prefixed unary levels expr_over expr else_ if_rest if_
if__known = record { passes = refl; info_is = refl; low_is = refl }

pub default_item_known : IsKnown default_item (codes_of (k.Default ∷ [])) false 1
unfolding default_item
default_item_known = record { passes = refl; info_is = refl; low_is = refl }

pub labelled_item_known : IsKnown labelled_item expr_first false 1
unfolding comma_expr select suffix suffixes post_rest this_post system_call super_call closed cast number time text null_ dollar group named this braces word_cast plain_prim prim prefixed unary levels expr_over expr labelled_item
labelled_item_known = record { passes = refl; info_is = refl; low_is = refl }

pub case_item_known : IsKnown case_item (codes_of (k.Default ∷ []) ++ expr_first) false 1
unfolding comma_expr select suffix suffixes post_rest this_post system_call super_call closed cast number time text null_ dollar group named this braces word_cast plain_prim prim prefixed unary levels expr_over expr default_item labelled_item case_item
case_item_known = record { passes = refl; info_is = refl; low_is = refl }

pub case_rest_known : IsKnown case_rest (codes_of (k.Default ∷ []) ++ expr_first ++ codes_of (k.Endcase ∷ [])) false 0
unfolding comma_expr select suffix suffixes post_rest this_post system_call super_call closed cast number time text null_ dollar group named this braces word_cast plain_prim prim prefixed unary levels expr_over expr default_item labelled_item case_item case_rest
case_rest_known = record { passes = refl; info_is = refl; low_is = refl }

pub case__known : IsKnown case_ (kinds_of case_words) false 0
unfolding comma_expr select suffix suffixes post_rest this_post system_call super_call closed cast number time text null_ dollar group named this braces word_cast plain_prim prim prefixed unary levels expr_over expr default_item labelled_item case_item case_rest case_
case__known = record { passes = refl; info_is = refl; low_is = refl }

pub for_step_rest_known : IsKnown for_step_rest (codes_of (k.Equals ∷ []) ++ kinds_of assign_words ++ kinds_of step_words) false 0
unfolding comma_expr select suffix suffixes post_rest this_post system_call super_call closed cast number time text null_ dollar group named this braces word_cast plain_prim prim prefixed unary levels expr_over expr for_step_rest
for_step_rest_known = record { passes = refl; info_is = refl; low_is = refl }

pub for_step_before_known : IsKnown for_step_before (kinds_of step_words) false 0
unfolding select suffix suffixes post_rest named_post this_post super_post post targets lval for_step_before
for_step_before_known = record { passes = refl; info_is = refl; low_is = refl }

pub for_step_known : IsKnown for_step (codes_of (k.Name ∷ k.This ∷ k.Super ∷ k.LeftBrace ∷ []) ++ kinds_of step_words) false 0
unfolding comma_expr select suffix suffixes post_rest named_post this_post super_post post targets lval system_call super_call closed cast number time text null_ dollar group named this braces word_cast plain_prim prim prefixed unary levels expr_over expr for_step_rest for_step_before for_step
for_step_known = record { passes = refl; info_is = refl; low_is = refl }

pub for_init_rest_known : IsKnown for_init_rest (codes_of (k.Name ∷ k.ColonColon ∷ k.Dot ∷ k.LeftParenthesis ∷ k.LeftBracket ∷ k.Equals ∷ [])) false 0
unfolding comma_expr select suffix suffixes post_rest this_post system_call super_call closed cast number time text null_ dollar group named this braces word_cast plain_prim prim prefixed unary levels expr_over expr for_init_rest
for_init_rest_known = record { passes = refl; info_is = refl; low_is = refl }

pub unnamed_lval_known : IsKnown unnamed_lval (codes_of (k.This ∷ k.Super ∷ k.LeftBrace ∷ [])) false 0
unfolding select suffix suffixes this_post super_post targets unnamed_lval
unnamed_lval_known = record { passes = refl; info_is = refl; low_is = refl }

pub for_init_known : IsKnown for_init (codes_of (k.Name ∷ []) ++ kinds_of vector_words ++ kinds_of atom_words ++ codes_of (k.String ∷ k.Event ∷ k.Semaphore ∷ k.Mailbox ∷ k.Enum ∷ k.This ∷ k.Super ∷ k.LeftBrace ∷ [])) false 0
unfolding comma_expr select suffix suffixes post_rest this_post super_post targets system_call super_call closed cast number time text null_ dollar group named this braces word_cast plain_prim prim prefixed unary levels expr_over expr range enum_item enum vector_type atom_type mailbox_type word_type for_init_rest unnamed_lval for_init
for_init_known = record { passes = refl; info_is = refl; low_is = refl }

pub for__known : IsKnown for_ (codes_of (k.For ∷ [])) false 1
unfolding comma_expr select suffix suffixes post_rest named_post this_post super_post post targets lval system_call super_call closed cast number time text null_ dollar group named this braces word_cast plain_prim prim prefixed unary levels expr_over expr range enum_item enum vector_type atom_type mailbox_type word_type for_step_rest for_step_before for_step for_init_rest unnamed_lval for_init for_
for__known = record { passes = refl; info_is = refl; low_is = refl }

pub while__known : IsKnown while_ (codes_of (k.While ∷ [])) false 1
unfolding comma_expr select suffix suffixes post_rest this_post system_call super_call closed cast number time text null_ dollar group named this braces word_cast plain_prim prim prefixed unary levels expr_over expr while_
while__known = record { passes = refl; info_is = refl; low_is = refl }

pub do_rest_known : IsKnown do_rest (codes_of (k.Name ∷ []) ++ unnamed_first) false 1
unfolding comma_expr select suffix suffixes post_rest this_post system_call super_call closed cast number time text null_ dollar group named this braces word_cast plain_prim prim prefixed unary levels expr_over expr do_rest
do_rest_known = record { passes = refl; info_is = refl; low_is = refl }

pub do__known : IsKnown do_ (codes_of (k.Do ∷ [])) false 1
unfolding comma_expr select suffix suffixes post_rest this_post system_call super_call closed cast number time text null_ dollar group named this braces word_cast plain_prim prim prefixed unary levels expr_over expr do_rest do_
do__known = record { passes = refl; info_is = refl; low_is = refl }

pub repeat_known : IsKnown repeat (codes_of (k.Repeat ∷ [])) false 1
unfolding comma_expr select suffix suffixes post_rest this_post system_call super_call closed cast number time text null_ dollar group named this braces word_cast plain_prim prim prefixed unary levels expr_over expr repeat
repeat_known = record { passes = refl; info_is = refl; low_is = refl }

pub forever_known : IsKnown forever (codes_of (k.Forever ∷ [])) false 1
unfolding forever
forever_known = record { passes = refl; info_is = refl; low_is = refl }

pub foreach_known : IsKnown foreach (codes_of (k.Foreach ∷ [])) false 1
unfolding foreach
foreach_known = record { passes = refl; info_is = refl; low_is = refl }

pub after_known : IsKnown after (codes_of (k.Hash ∷ [])) false 1
unfolding comma_expr select suffix suffixes post_rest this_post system_call super_call closed cast number time text null_ dollar group named this braces word_cast plain_prim prim prefixed unary levels expr_over expr enclosed amount delay after
after_known = record { passes = refl; info_is = refl; low_is = refl }

pub on_event_known : IsKnown on_event (codes_of (k.At ∷ [])) false 1
unfolding comma_expr select suffix suffixes post_rest this_post system_call super_call closed cast number time text null_ dollar group named this braces word_cast plain_prim prim prefixed unary levels expr_over expr event_part next_event_part event_parts event_list event on_event
on_event_known = record { passes = refl; info_is = refl; low_is = refl }

pub cycles_known : IsKnown cycles (codes_of (k.HashHash ∷ [])) false 1
unfolding comma_expr select suffix suffixes post_rest this_post system_call super_call closed cast number time text null_ dollar group named this braces word_cast plain_prim prim prefixed unary levels expr_over expr enclosed cycles_amount cycles
cycles_known = record { passes = refl; info_is = refl; low_is = refl }

pub wait_rest_known : IsKnown wait_rest (codes_of (k.LeftParenthesis ∷ k.Fork ∷ [])) false 0
unfolding comma_expr select suffix suffixes post_rest this_post system_call super_call closed cast number time text null_ dollar group named this braces word_cast plain_prim prim prefixed unary levels expr_over expr wait_rest
wait_rest_known = record { passes = refl; info_is = refl; low_is = refl }

pub wait_known : IsKnown wait (codes_of (k.Wait ∷ [])) false 0
unfolding comma_expr select suffix suffixes post_rest this_post system_call super_call closed cast number time text null_ dollar group named this braces word_cast plain_prim prim prefixed unary levels expr_over expr wait_rest wait
wait_known = record { passes = refl; info_is = refl; low_is = refl }

pub ignore_known : IsKnown ignore (codes_of (k.Void ∷ [])) false 0
unfolding select suffix suffixes post_rest named_post this_post system_call super_call call ignore
ignore_known = record { passes = refl; info_is = refl; low_is = refl }

pub return__known : IsKnown return_ (codes_of (k.Return ∷ [])) false 0
unfolding comma_expr select suffix suffixes post_rest this_post system_call super_call closed cast number time text null_ dollar group named this braces word_cast plain_prim prim prefixed unary levels expr_over expr return_
return__known = record { passes = refl; info_is = refl; low_is = refl }

pub null_statement_known : IsKnown null_statement (codes_of (k.Semicolon ∷ [])) false 0
unfolding null_statement
null_statement_known = record { passes = refl; info_is = refl; low_is = refl }

pub step_statement_known : IsKnown step_statement (kinds_of step_words) false 0
unfolding select suffix suffixes post_rest named_post this_post super_post post targets lval step_statement
step_statement_known = record { passes = refl; info_is = refl; low_is = refl }

pub system_statement_known : IsKnown system_statement (codes_of (k.SystemName ∷ [])) false 0
unfolding system_call system_statement
system_statement_known = record { passes = refl; info_is = refl; low_is = refl }

pub this_statement_known : IsKnown this_statement (codes_of (k.This ∷ [])) false 0
unfolding comma_expr select suffix suffixes post_rest this_post system_call super_call closed cast number time text null_ dollar group named this braces word_cast plain_prim prim prefixed unary levels expr_over expr new_rest init enclosed amount delay blocking_rest nonblocking_rest operator_rest step_after assign_end post_end this_statement
this_statement_known = record { passes = refl; info_is = refl; low_is = refl }

pub targets_statement_known : IsKnown targets_statement (codes_of (k.LeftBrace ∷ [])) false 1
unfolding comma_expr select suffix suffixes post_rest this_post targets system_call super_call closed cast number time text null_ dollar group named this braces word_cast plain_prim prim prefixed unary levels expr_over expr new_rest init enclosed amount delay blocking_rest nonblocking_rest operator_rest step_after assign_end targets_statement
targets_statement_known = record { passes = refl; info_is = refl; low_is = refl }

pub disable_known : IsKnown disable (codes_of (k.Disable ∷ [])) false 0
unfolding disable
disable_known = record { passes = refl; info_is = refl; low_is = refl }

pub trigger_known : IsKnown trigger (codes_of (k.Arrow ∷ [])) false 0
unfolding select suffix suffixes post_rest named_post this_post super_post post targets lval trigger
trigger_known = record { passes = refl; info_is = refl; low_is = refl }

pub break__known : IsKnown break_ (codes_of (k.Break ∷ [])) false 0
unfolding break_
break__known = record { passes = refl; info_is = refl; low_is = refl }

pub continue__known : IsKnown continue_ (codes_of (k.Continue ∷ [])) false 0
unfolding continue_
continue__known = record { passes = refl; info_is = refl; low_is = refl }

pub unnamed_known : IsKnown unnamed (codes_of (k.Semicolon ∷ k.Begin ∷ k.Fork ∷ []) ++ kinds_of step_words ++ codes_of (k.SystemName ∷ k.Super ∷ k.This ∷ k.LeftBrace ∷ k.Void ∷ k.If ∷ []) ++ kinds_of case_words ++ codes_of (k.For ∷ k.While ∷ k.Do ∷ k.Repeat ∷ k.Forever ∷ k.Foreach ∷ k.Hash ∷ k.At ∷ k.HashHash ∷ k.Wait ∷ k.Disable ∷ k.Arrow ∷ k.Break ∷ k.Continue ∷ k.Return ∷ [])) false 0
unfolding comma_expr select suffix suffixes post_rest named_post this_post super_post post targets lval system_call super_call call closed cast number time text null_ dollar group named this braces word_cast plain_prim prim prefixed unary levels expr_over expr plain_unary plain_expr cast_rest range enum_item enum vector_type atom_type mailbox_type word_type named_type type dimension_inside dimension new_rest init declarator_rest declarator declarators more_declarators life_decl var_decl plain_decl word_decl named_decl_rest enclosed amount delay cycles_amount event_part next_event_part event_parts event_list event blocking_rest nonblocking_rest operator_rest step_after assign_end post_end super_rest super_statement early_rest early block_items block_rest fork_rest block fork else_ if_rest if_ default_item labelled_item case_item case_rest case_ for_step_rest for_step_before for_step for_init_rest unnamed_lval for_init for_ while_ do_rest do_ repeat forever foreach after on_event cycles wait_rest wait ignore return_ null_statement step_statement system_statement this_statement targets_statement disable trigger break_ continue_ unnamed
unnamed_known = record { passes = refl; info_is = refl; low_is = refl }

pub body_known : IsKnown body (codes_of (k.Name ∷ k.Semicolon ∷ k.Begin ∷ k.Fork ∷ []) ++ kinds_of step_words ++ codes_of (k.SystemName ∷ k.Super ∷ k.This ∷ k.LeftBrace ∷ k.Void ∷ k.If ∷ []) ++ kinds_of case_words ++ codes_of (k.For ∷ k.While ∷ k.Do ∷ k.Repeat ∷ k.Forever ∷ k.Foreach ∷ k.Hash ∷ k.At ∷ k.HashHash ∷ k.Wait ∷ k.Disable ∷ k.Arrow ∷ k.Break ∷ k.Continue ∷ k.Return ∷ [])) false 0
unfolding comma_expr select suffix suffixes post_rest named_post this_post super_post post targets lval system_call super_call call closed cast number time text null_ dollar group named this braces word_cast plain_prim prim prefixed unary levels expr_over expr plain_unary plain_expr cast_rest range enum_item enum vector_type atom_type mailbox_type word_type named_type type dimension_inside dimension new_rest init declarator_rest declarator declarators more_declarators life_decl var_decl plain_decl word_decl named_decl_rest enclosed amount delay cycles_amount event_part next_event_part event_parts event_list event blocking_rest nonblocking_rest operator_rest step_after assign_end post_end named_rest super_rest super_statement early_rest early block_items block_rest fork_rest block fork else_ if_rest if_ default_item labelled_item case_item case_rest case_ for_step_rest for_step_before for_step for_init_rest unnamed_lval for_init for_ while_ do_rest do_ repeat forever foreach after on_event cycles wait_rest wait ignore return_ null_statement step_statement system_statement this_statement targets_statement disable trigger break_ continue_ unnamed body
body_known = record { passes = refl; info_is = refl; low_is = refl }

pub named_statement_known : IsKnown named_statement (codes_of (k.Colon ∷ k.ColonColon ∷ k.Dot ∷ k.LeftParenthesis ∷ k.LeftBracket ∷ k.Equals ∷ k.LessEquals ∷ []) ++ kinds_of assign_words ++ kinds_of step_words ++ codes_of (k.Semicolon ∷ [])) false 0
unfolding comma_expr select suffix suffixes post_rest named_post this_post super_post post targets lval system_call super_call call closed cast number time text null_ dollar group named this braces word_cast plain_prim prim prefixed unary levels expr_over expr plain_unary plain_expr cast_rest range enum_item enum vector_type atom_type mailbox_type word_type named_type type dimension_inside dimension new_rest init declarator_rest declarator declarators more_declarators life_decl var_decl plain_decl word_decl named_decl_rest enclosed amount delay cycles_amount event_part next_event_part event_parts event_list event blocking_rest nonblocking_rest operator_rest step_after assign_end post_end named_rest super_rest super_statement early_rest early block_items block_rest fork_rest block fork else_ if_rest if_ default_item labelled_item case_item case_rest case_ for_step_rest for_step_before for_step for_init_rest unnamed_lval for_init for_ while_ do_rest do_ repeat forever foreach after on_event cycles wait_rest wait ignore return_ null_statement step_statement system_statement this_statement targets_statement disable trigger break_ continue_ unnamed body named_statement
named_statement_known = record { passes = refl; info_is = refl; low_is = refl }

pub stmt_known : IsKnown stmt (codes_of (k.Name ∷ k.Semicolon ∷ k.Begin ∷ k.Fork ∷ []) ++ kinds_of step_words ++ codes_of (k.SystemName ∷ k.Super ∷ k.This ∷ k.LeftBrace ∷ k.Void ∷ k.If ∷ []) ++ kinds_of case_words ++ codes_of (k.For ∷ k.While ∷ k.Do ∷ k.Repeat ∷ k.Forever ∷ k.Foreach ∷ k.Hash ∷ k.At ∷ k.HashHash ∷ k.Wait ∷ k.Disable ∷ k.Arrow ∷ k.Break ∷ k.Continue ∷ k.Return ∷ [])) false 0
unfolding comma_expr select suffix suffixes post_rest named_post this_post super_post post targets lval system_call super_call call closed cast number time text null_ dollar group named this braces word_cast plain_prim prim prefixed unary levels expr_over expr plain_unary plain_expr cast_rest range enum_item enum vector_type atom_type mailbox_type word_type named_type type dimension_inside dimension new_rest init declarator_rest declarator declarators more_declarators life_decl var_decl plain_decl word_decl named_decl_rest enclosed amount delay cycles_amount event_part next_event_part event_parts event_list event blocking_rest nonblocking_rest operator_rest step_after assign_end post_end named_rest super_rest super_statement early_rest early block_items block_rest fork_rest block fork else_ if_rest if_ default_item labelled_item case_item case_rest case_ for_step_rest for_step_before for_step for_init_rest unnamed_lval for_init for_ while_ do_rest do_ repeat forever foreach after on_event cycles wait_rest wait ignore return_ null_statement step_statement system_statement this_statement targets_statement disable trigger break_ continue_ unnamed body named_statement stmt
stmt_known = record { passes = refl; info_is = refl; low_is = refl }

-- ---- lists of them

pub next_event_part_list : fine Production Value heads need (Rep next_event_part) ≡ true
unfolding comma_expr select suffix suffixes post_rest this_post system_call super_call closed cast number time text null_ dollar group named this braces word_cast plain_prim prim prefixed unary levels expr_over expr event_part next_event_part
next_event_part_list = refl

pub case_item_list : fine Production Value heads need (Rep case_item) ≡ true
unfolding comma_expr select suffix suffixes post_rest this_post system_call super_call closed cast number time text null_ dollar group named this braces word_cast plain_prim prim prefixed unary levels expr_over expr default_item labelled_item case_item
case_item_list = refl
