-- The grammar passes the tests: reading it with one token of look-ahead is right.
use Rattle.std.proofs.Common.{◌≡◌, ℕ, zero, suc, true, false, refl, ◌<◌, ◌-◌, List, arith, sub-one}
use Rattle.sv_grammar.specs.Tokens.{Tok, mem}
use Rattle.sv_grammar.specs.Code.{info, fine, least, leads, subset, reach, readers}
use Rattle.sv_grammar.proofs.Codes.{IsGood}
use Rattle.sv_tree.specs.declared.word.Precedence.TheVariants as precedence
use Rattle.sv_tree.specs.Forms.{Production, Expression, Level, Arguments, Repeated, Target, A_type, Statement, Named, Unnamed, Value}
use Rattle.sv_tree.specs.Grammar.{table, heads, need, reads}
use Rattle.sv_tree.specs.ExprGrammar.{comma_expr, inner_exprs, select, arguments, suffix, suffixes, post_rest, named_post, this_post, super_post, post, targets, lval, system_call, super_call, call, closed, cast, number, time, text, null_, dollar, group, named, this, repeated, braces, word_cast, plain_prim, prim, prefixed, unary, levels, expr_over, expr, plain_unary, plain_expr, cast_rest}
use Rattle.sv_tree.specs.TypeGrammar.{range, enum_item, enum, vector_type, atom_type, mailbox_type, word_type, named_type, type, unnamed_implied, named_name, typed_name, dimension_inside, dimension, new_rest, init, declarator_rest, declarator, declarators, more_declarators, life_decl, var_decl, plain_decl, word_decl, named_decl_rest}
use Rattle.sv_tree.specs.StmtGrammar.{enclosed, amount, delay, cycles_amount, event_part, next_event_part, event_parts, event_list, event, blocking_rest, nonblocking_rest, operator_rest, step_after, assign_end, post_end, named_rest, super_rest, super_statement, early_rest, early, block_items, block_rest, fork_rest, block, fork, else_, if_rest, if_, default_item, labelled_item, case_item, case_rest, case_, for_step_rest, for_step_before, for_step, for_init_rest, unnamed_lval, for_init, for_, while_, do_rest, do_, repeat, forever, foreach, after, on_event, cycles, wait_rest, wait, ignore, return_, null_statement, step_statement, system_statement, this_statement, targets_statement, disable, trigger, break_, continue_, unnamed, body, named_statement, stmt}
use Rattle.sv_tree.specs.UnitGrammar.{param_item, param, element_param, element_params, directed_port, plain_port, next_port, ports, typedef_rest, typedef, argument, arguments as unit_arguments, called, function_head, task_head, head, routine_name, routine_end, routine, skew_rest, skew, default_skew, output_side, input_side, sides, default_skews, clocking_item, clocking_rest, plain_clocking, default_rest, default_clocking, clocking, automatic_decl, class_decl, member, pure_method, qualified, class_item, class_rest, virtual_class, plain_class, class, named_items, initial, common, named_decl, program_item, given, dotted, connection, connections, instance, instances_rest, decl_rest, second_named, valued_instances, named_item_rest, named_item, net_item, net_word, net, assign_item, assign, always, module_item, element_head, module_element, program_element, description, file}

-- a production begins only with productions that come before it
abbrev pub order : Production → ℕ
order Expression = 0
order (Level p) = 0
order Arguments = 0
order Repeated = 0
order Target = 0
order A_type = 0
order Statement = 0
order Named = 1
order Unnamed = 0

passes : (n : Production) → fine Production Value heads need (table n) ≡ true
unfolding comma_expr inner_exprs select suffix suffixes post_rest named_post this_post super_post post targets lval system_call super_call call closed cast number time text null_ dollar group named this repeated braces word_cast plain_prim prim prefixed unary levels expr_over expr plain_unary plain_expr cast_rest arguments range enum_item enum vector_type atom_type mailbox_type word_type named_type type unnamed_implied named_name typed_name dimension_inside dimension new_rest init declarator_rest declarator declarators more_declarators life_decl var_decl plain_decl word_decl named_decl_rest enclosed amount delay cycles_amount event_part next_event_part event_parts event_list event blocking_rest nonblocking_rest operator_rest step_after assign_end post_end named_rest super_rest super_statement early_rest early block_items block_rest fork_rest block fork else_ if_rest if_ default_item labelled_item case_item case_rest case_ for_step_rest for_step_before for_step for_init_rest unnamed_lval for_init for_ while_ do_rest do_ repeat forever foreach after on_event cycles wait_rest wait ignore return_ null_statement step_statement system_statement this_statement targets_statement disable trigger break_ continue_ unnamed body named_statement stmt
passes Expression = refl
passes (Level precedence.Power) = refl
passes (Level precedence.Multiplicative) = refl
passes (Level precedence.Additive) = refl
passes (Level precedence.Shift) = refl
passes (Level precedence.Relational) = refl
passes (Level precedence.Equality) = refl
passes (Level precedence.And) = refl
passes (Level precedence.Xor) = refl
passes (Level precedence.Or) = refl
passes (Level precedence.LogicalAnd) = refl
passes (Level precedence.LogicalOr) = refl
passes Arguments = refl
passes Repeated = refl
passes Target = refl
passes A_type = refl
passes Statement = refl
passes Named = refl
passes Unnamed = refl

begins : (n : Production) → subset (info Production Value heads need (table n)).first (heads n).first ≡ true
unfolding comma_expr inner_exprs select suffix suffixes post_rest named_post this_post super_post post targets lval system_call super_call call closed cast number time text null_ dollar group named this repeated braces word_cast plain_prim prim prefixed unary levels expr_over expr plain_unary plain_expr cast_rest arguments range enum_item enum vector_type atom_type mailbox_type word_type named_type type unnamed_implied named_name typed_name dimension_inside dimension new_rest init declarator_rest declarator declarators more_declarators life_decl var_decl plain_decl word_decl named_decl_rest enclosed amount delay cycles_amount event_part next_event_part event_parts event_list event blocking_rest nonblocking_rest operator_rest step_after assign_end post_end named_rest super_rest super_statement early_rest early block_items block_rest fork_rest block fork else_ if_rest if_ default_item labelled_item case_item case_rest case_ for_step_rest for_step_before for_step for_init_rest unnamed_lval for_init for_ while_ do_rest do_ repeat forever foreach after on_event cycles wait_rest wait ignore return_ null_statement step_statement system_statement this_statement targets_statement disable trigger break_ continue_ unnamed body named_statement stmt
begins Expression = refl
begins (Level precedence.Power) = refl
begins (Level precedence.Multiplicative) = refl
begins (Level precedence.Additive) = refl
begins (Level precedence.Shift) = refl
begins (Level precedence.Relational) = refl
begins (Level precedence.Equality) = refl
begins (Level precedence.And) = refl
begins (Level precedence.Xor) = refl
begins (Level precedence.Or) = refl
begins (Level precedence.LogicalAnd) = refl
begins (Level precedence.LogicalOr) = refl
begins Arguments = refl
begins Repeated = refl
begins Target = refl
begins A_type = refl
begins Statement = refl
begins Named = refl
begins Unnamed = refl

begun : (n : Production) → subset (heads n).first (info Production Value heads need (table n)).first ≡ true
unfolding comma_expr inner_exprs select suffix suffixes post_rest named_post this_post super_post post targets lval system_call super_call call closed cast number time text null_ dollar group named this repeated braces word_cast plain_prim prim prefixed unary levels expr_over expr plain_unary plain_expr cast_rest arguments range enum_item enum vector_type atom_type mailbox_type word_type named_type type unnamed_implied named_name typed_name dimension_inside dimension new_rest init declarator_rest declarator declarators more_declarators life_decl var_decl plain_decl word_decl named_decl_rest enclosed amount delay cycles_amount event_part next_event_part event_parts event_list event blocking_rest nonblocking_rest operator_rest step_after assign_end post_end named_rest super_rest super_statement early_rest early block_items block_rest fork_rest block fork else_ if_rest if_ default_item labelled_item case_item case_rest case_ for_step_rest for_step_before for_step for_init_rest unnamed_lval for_init for_ while_ do_rest do_ repeat forever foreach after on_event cycles wait_rest wait ignore return_ null_statement step_statement system_statement this_statement targets_statement disable trigger break_ continue_ unnamed body named_statement stmt
begun Expression = refl
begun (Level precedence.Power) = refl
begun (Level precedence.Multiplicative) = refl
begun (Level precedence.Additive) = refl
begun (Level precedence.Shift) = refl
begun (Level precedence.Relational) = refl
begun (Level precedence.Equality) = refl
begun (Level precedence.And) = refl
begun (Level precedence.Xor) = refl
begun (Level precedence.Or) = refl
begun (Level precedence.LogicalAnd) = refl
begun (Level precedence.LogicalOr) = refl
begun Arguments = refl
begun Repeated = refl
begun Target = refl
begun A_type = refl
begun Statement = refl
begun Named = refl
begun Unnamed = refl

continues : (n : Production) → subset (info Production Value heads need (table n)).cont (heads n).cont ≡ true
unfolding comma_expr inner_exprs select suffix suffixes post_rest named_post this_post super_post post targets lval system_call super_call call closed cast number time text null_ dollar group named this repeated braces word_cast plain_prim prim prefixed unary levels expr_over expr plain_unary plain_expr cast_rest arguments range enum_item enum vector_type atom_type mailbox_type word_type named_type type unnamed_implied named_name typed_name dimension_inside dimension new_rest init declarator_rest declarator declarators more_declarators life_decl var_decl plain_decl word_decl named_decl_rest enclosed amount delay cycles_amount event_part next_event_part event_parts event_list event blocking_rest nonblocking_rest operator_rest step_after assign_end post_end named_rest super_rest super_statement early_rest early block_items block_rest fork_rest block fork else_ if_rest if_ default_item labelled_item case_item case_rest case_ for_step_rest for_step_before for_step for_init_rest unnamed_lval for_init for_ while_ do_rest do_ repeat forever foreach after on_event cycles wait_rest wait ignore return_ null_statement step_statement system_statement this_statement targets_statement disable trigger break_ continue_ unnamed body named_statement stmt
continues Expression = refl
continues (Level precedence.Power) = refl
continues (Level precedence.Multiplicative) = refl
continues (Level precedence.Additive) = refl
continues (Level precedence.Shift) = refl
continues (Level precedence.Relational) = refl
continues (Level precedence.Equality) = refl
continues (Level precedence.And) = refl
continues (Level precedence.Xor) = refl
continues (Level precedence.Or) = refl
continues (Level precedence.LogicalAnd) = refl
continues (Level precedence.LogicalOr) = refl
continues Arguments = refl
continues Repeated = refl
continues Target = refl
continues A_type = refl
continues Statement = refl
continues Named = refl
continues Unnamed = refl

empties : (n : Production) → (info Production Value heads need (table n)).null ≡ (heads n).null
unfolding comma_expr inner_exprs select suffix suffixes post_rest named_post this_post super_post post targets lval system_call super_call call closed cast number time text null_ dollar group named this repeated braces word_cast plain_prim prim prefixed unary levels expr_over expr plain_unary plain_expr cast_rest arguments range enum_item enum vector_type atom_type mailbox_type word_type named_type type unnamed_implied named_name typed_name dimension_inside dimension new_rest init declarator_rest declarator declarators more_declarators life_decl var_decl plain_decl word_decl named_decl_rest enclosed amount delay cycles_amount event_part next_event_part event_parts event_list event blocking_rest nonblocking_rest operator_rest step_after assign_end post_end named_rest super_rest super_statement early_rest early block_items block_rest fork_rest block fork else_ if_rest if_ default_item labelled_item case_item case_rest case_ for_step_rest for_step_before for_step for_init_rest unnamed_lval for_init for_ while_ do_rest do_ repeat forever foreach after on_event cycles wait_rest wait ignore return_ null_statement step_statement system_statement this_statement targets_statement disable trigger break_ continue_ unnamed body named_statement stmt
empties Expression = refl
empties (Level precedence.Power) = refl
empties (Level precedence.Multiplicative) = refl
empties (Level precedence.Additive) = refl
empties (Level precedence.Shift) = refl
empties (Level precedence.Relational) = refl
empties (Level precedence.Equality) = refl
empties (Level precedence.And) = refl
empties (Level precedence.Xor) = refl
empties (Level precedence.Or) = refl
empties (Level precedence.LogicalAnd) = refl
empties (Level precedence.LogicalOr) = refl
empties Arguments = refl
empties Repeated = refl
empties Target = refl
empties A_type = refl
empties Statement = refl
empties Named = refl
empties Unnamed = refl

needs : (n : Production) → least Production Value heads need (table n) ≡ need n
unfolding comma_expr inner_exprs select suffix suffixes post_rest named_post this_post super_post post targets lval system_call super_call call closed cast number time text null_ dollar group named this repeated braces word_cast plain_prim prim prefixed unary levels expr_over expr plain_unary plain_expr cast_rest arguments range enum_item enum vector_type atom_type mailbox_type word_type named_type type unnamed_implied named_name typed_name dimension_inside dimension new_rest init declarator_rest declarator declarators more_declarators life_decl var_decl plain_decl word_decl named_decl_rest enclosed amount delay cycles_amount event_part next_event_part event_parts event_list event blocking_rest nonblocking_rest operator_rest step_after assign_end post_end named_rest super_rest super_statement early_rest early block_items block_rest fork_rest block fork else_ if_rest if_ default_item labelled_item case_item case_rest case_ for_step_rest for_step_before for_step for_init_rest unnamed_lval for_init for_ while_ do_rest do_ repeat forever foreach after on_event cycles wait_rest wait ignore return_ null_statement step_statement system_statement this_statement targets_statement disable trigger break_ continue_ unnamed body named_statement stmt
needs Expression = refl
needs (Level precedence.Power) = refl
needs (Level precedence.Multiplicative) = refl
needs (Level precedence.Additive) = refl
needs (Level precedence.Shift) = refl
needs (Level precedence.Relational) = refl
needs (Level precedence.Equality) = refl
needs (Level precedence.And) = refl
needs (Level precedence.Xor) = refl
needs (Level precedence.Or) = refl
needs (Level precedence.LogicalAnd) = refl
needs (Level precedence.LogicalOr) = refl
needs Arguments = refl
needs Repeated = refl
needs Target = refl
needs A_type = refl
needs Statement = refl
needs Named = refl
needs Unnamed = refl

led : (n : Production) → leads Production Value heads need (λ m. reach (suc (order m)) (order n)) (table n) ≡ true
unfolding comma_expr inner_exprs select suffix suffixes post_rest named_post this_post super_post post targets lval system_call super_call call closed cast number time text null_ dollar group named this repeated braces word_cast plain_prim prim prefixed unary levels expr_over expr plain_unary plain_expr cast_rest arguments range enum_item enum vector_type atom_type mailbox_type word_type named_type type unnamed_implied named_name typed_name dimension_inside dimension new_rest init declarator_rest declarator declarators more_declarators life_decl var_decl plain_decl word_decl named_decl_rest enclosed amount delay cycles_amount event_part next_event_part event_parts event_list event blocking_rest nonblocking_rest operator_rest step_after assign_end post_end named_rest super_rest super_statement early_rest early block_items block_rest fork_rest block fork else_ if_rest if_ default_item labelled_item case_item case_rest case_ for_step_rest for_step_before for_step for_init_rest unnamed_lval for_init for_ while_ do_rest do_ repeat forever foreach after on_event cycles wait_rest wait ignore return_ null_statement step_statement system_statement this_statement targets_statement disable trigger break_ continue_ unnamed body named_statement stmt
led Expression = refl
led (Level precedence.Power) = refl
led (Level precedence.Multiplicative) = refl
led (Level precedence.Additive) = refl
led (Level precedence.Shift) = refl
led (Level precedence.Relational) = refl
led (Level precedence.Equality) = refl
led (Level precedence.And) = refl
led (Level precedence.Xor) = refl
led (Level precedence.Or) = refl
led (Level precedence.LogicalAnd) = refl
led (Level precedence.LogicalOr) = refl
led Arguments = refl
led Repeated = refl
led Target = refl
led A_type = refl
led Statement = refl
led Named = refl
led Unnamed = refl

pub good : IsGood Production Value heads need table
good = record { order = order; fine_ = passes; first1 = begins; first2 = begun; cont_ = continues; null_ = empties; least_ = needs; leads_ = led }

-- a production that is one deeper, at a budget that is not 0
pub inner_is : (d : ℕ) → 0 < d → (n : Production) (ts : List Tok) → readers Production Value heads need table d n ts ≡ reads (d - 1) (table n) ts
inner_is zero h n ts = absurd (omega arith)
inner_is (suc d) h n ts = rw sub-one refl

-- ---- the whole file

pub file_fine : fine Production Value heads need file ≡ true
unfolding comma_expr inner_exprs select suffix suffixes post_rest named_post this_post super_post post targets lval system_call super_call call closed cast number time text null_ dollar group named this repeated braces word_cast plain_prim prim prefixed unary levels expr_over expr plain_unary plain_expr cast_rest arguments range enum_item enum vector_type atom_type mailbox_type word_type named_type type unnamed_implied named_name typed_name dimension_inside dimension new_rest init declarator_rest declarator declarators more_declarators life_decl var_decl plain_decl word_decl named_decl_rest enclosed amount delay cycles_amount event_part next_event_part event_parts event_list event blocking_rest nonblocking_rest operator_rest step_after assign_end post_end named_rest super_rest super_statement early_rest early block_items block_rest fork_rest block fork else_ if_rest if_ default_item labelled_item case_item case_rest case_ for_step_rest for_step_before for_step for_init_rest unnamed_lval for_init for_ while_ do_rest do_ repeat forever foreach after on_event cycles wait_rest wait ignore return_ null_statement step_statement system_statement this_statement targets_statement disable trigger break_ continue_ unnamed body named_statement stmt param_item param element_param element_params directed_port plain_port next_port ports typedef_rest typedef argument called function_head task_head head routine_name routine_end routine skew_rest skew default_skew output_side input_side sides default_skews clocking_item clocking_rest plain_clocking default_rest default_clocking clocking automatic_decl class_decl member pure_method qualified class_item class_rest virtual_class plain_class class named_items initial common named_decl program_item given dotted connection connections instance instances_rest decl_rest second_named valued_instances named_item_rest named_item net_item net_word net assign_item assign always module_item element_head module_element program_element description file unit_arguments
file_fine = refl

-- no text of a file goes on past its end
pub file_nil : mem 0 (info Production Value heads need file).cont ≡ false
unfolding comma_expr inner_exprs select suffix suffixes post_rest named_post this_post super_post post targets lval system_call super_call call closed cast number time text null_ dollar group named this repeated braces word_cast plain_prim prim prefixed unary levels expr_over expr plain_unary plain_expr cast_rest arguments range enum_item enum vector_type atom_type mailbox_type word_type named_type type unnamed_implied named_name typed_name dimension_inside dimension new_rest init declarator_rest declarator declarators more_declarators life_decl var_decl plain_decl word_decl named_decl_rest enclosed amount delay cycles_amount event_part next_event_part event_parts event_list event blocking_rest nonblocking_rest operator_rest step_after assign_end post_end named_rest super_rest super_statement early_rest early block_items block_rest fork_rest block fork else_ if_rest if_ default_item labelled_item case_item case_rest case_ for_step_rest for_step_before for_step for_init_rest unnamed_lval for_init for_ while_ do_rest do_ repeat forever foreach after on_event cycles wait_rest wait ignore return_ null_statement step_statement system_statement this_statement targets_statement disable trigger break_ continue_ unnamed body named_statement stmt param_item param element_param element_params directed_port plain_port next_port ports typedef_rest typedef argument called function_head task_head head routine_name routine_end routine skew_rest skew default_skew output_side input_side sides default_skews clocking_item clocking_rest plain_clocking default_rest default_clocking clocking automatic_decl class_decl member pure_method qualified class_item class_rest virtual_class plain_class class named_items initial common named_decl program_item given dotted connection connections instance instances_rest decl_rest second_named valued_instances named_item_rest named_item net_item net_word net assign_item assign always module_item element_head module_element program_element description file unit_arguments
file_nil = refl

pub file_least : least Production Value heads need file ≡ 0
unfolding comma_expr inner_exprs select suffix suffixes post_rest named_post this_post super_post post targets lval system_call super_call call closed cast number time text null_ dollar group named this repeated braces word_cast plain_prim prim prefixed unary levels expr_over expr plain_unary plain_expr cast_rest arguments range enum_item enum vector_type atom_type mailbox_type word_type named_type type unnamed_implied named_name typed_name dimension_inside dimension new_rest init declarator_rest declarator declarators more_declarators life_decl var_decl plain_decl word_decl named_decl_rest enclosed amount delay cycles_amount event_part next_event_part event_parts event_list event blocking_rest nonblocking_rest operator_rest step_after assign_end post_end named_rest super_rest super_statement early_rest early block_items block_rest fork_rest block fork else_ if_rest if_ default_item labelled_item case_item case_rest case_ for_step_rest for_step_before for_step for_init_rest unnamed_lval for_init for_ while_ do_rest do_ repeat forever foreach after on_event cycles wait_rest wait ignore return_ null_statement step_statement system_statement this_statement targets_statement disable trigger break_ continue_ unnamed body named_statement stmt param_item param element_param element_params directed_port plain_port next_port ports typedef_rest typedef argument called function_head task_head head routine_name routine_end routine skew_rest skew default_skew output_side input_side sides default_skews clocking_item clocking_rest plain_clocking default_rest default_clocking clocking automatic_decl class_decl member pure_method qualified class_item class_rest virtual_class plain_class class named_items initial common named_decl program_item given dotted connection connections instance instances_rest decl_rest second_named valued_instances named_item_rest named_item net_item net_word net assign_item assign always module_item element_head module_element program_element description file unit_arguments
file_least = refl
