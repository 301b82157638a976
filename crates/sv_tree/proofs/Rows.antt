-- What is read of texts, computed.
use Rattle.std.proofs.Common.{◌≡◌, ℕ, List, [], ◌∷◌, map, Option, Some, None, Ok, Err, refl}
use Rattle.std.specs.Prelude.{codes}
use Rattle.sv_value.specs.declared.place.Place.{Place}
use Rattle.sv_grammar.specs.Tokens.{next}
use Rattle.sv_grammar.specs.Language.{Out, TooDeep, Unexpected}
use Rattle.sv_tree.specs.declared.token.Refused.{Refused}
use Rattle.sv_tree.specs.declared.token.Refused.TheVariants as refused
use Rattle.sv_tree.specs.declared.kind.Kind.TheVariants as k
use Rattle.sv_tree.specs.declared.word.BinaryWord.TheVariants as binary_word
use Rattle.sv_tree.specs.declared.expr.Root.TheVariants as root
use Rattle.sv_tree.specs.Codes.{toks}
use Rattle.sv_tree.specs.Expr as tree
use Rattle.sv_tree.specs.Forms.{C}
use Rattle.sv_tree.specs.Depth.{most_depth}
use Rattle.sv_tree.specs.Grammar.{reads}
use Rattle.sv_tree.specs.Longest.{longest}
use Rattle.sv_tree.specs.Tokens.{spelled, is_one, is_after, is_name, is_system_name, is_plain_number, is_filling_number, is_decimal_body, is_base, is_signed_base, is_based_number, is_size_rest, is_sized_number, is_number, is_unit, is_time_rest, is_time, is_one_step, is_string_rest, is_string, is_spelled, words, signs, unused, plain_word, kind_of_name, kind_of}
use Rattle.sv_tree.specs.Directives.{after_word, after_some_spaces, after_end_of_word, power_at, magnitude_at, unit_at, scale_at, timescale_at, nettype_at}
use Rattle.sv_tree.specs.Lexing.{is_blank, is_line_comment, is_comment_rest, is_comment, is_separator, is_token, no_token, token_piece, directive_piece, piece_at, after, start, with_piece, reading, whole, lex_fault}
use Rattle.sv_tree.specs.ExprGrammar.{comma_expr, inner_exprs, select, suffix, suffixes, post_rest, named_post, this_post, super_post, post, targets, lval, system_call, super_call, call, closed, cast, number, time, text, null_, dollar, group, named, this, repeated, braces, word_cast, plain_prim, prim, prefixed, unary, levels, expr_over, expr, plain_unary, plain_expr, cast_rest, arguments}
use Rattle.sv_tree.specs.TypeGrammar.{range, enum_item, enum, vector_type, atom_type, mailbox_type, word_type, named_type, type, unnamed_implied, named_name, typed_name, dimension_inside, dimension, new_rest, init, declarator_rest, declarator, declarators, more_declarators, life_decl, var_decl, plain_decl, word_decl, named_decl_rest}
use Rattle.sv_tree.specs.StmtGrammar.{enclosed, amount, delay, cycles_amount, event_part, next_event_part, event_parts, event_list, event, blocking_rest, nonblocking_rest, operator_rest, step_after, assign_end, post_end, named_rest, super_rest, super_statement, early_rest, early, block_items, block_rest, fork_rest, block, fork, else_, if_rest, if_, default_item, labelled_item, case_item, case_rest, case_, for_step_rest, for_step_before, for_step, for_init_rest, unnamed_lval, for_init, for_, while_, do_rest, do_, repeat, forever, foreach, after as after_delay, on_event, cycles, wait_rest, wait, ignore, return_, null_statement, step_statement, system_statement, this_statement, targets_statement, disable, trigger, break_, continue_, unnamed, body, named_statement, stmt}
use Rattle.sv_tree.specs.UnitGrammar.{param_item, param, element_param, element_params, directed_port, plain_port, next_port, ports, typedef_rest, typedef, argument, arguments as unit_arguments, called, function_head, task_head, head, routine_name, routine_end, routine, skew_rest, skew, default_skew, output_side, input_side, sides, default_skews, clocking_item, clocking_rest, plain_clocking, default_rest, default_clocking, clocking, automatic_decl, class_decl, member, pure_method, qualified, class_item, class_rest, virtual_class, plain_class, class, named_items, initial, common, named_decl, program_item, given, dotted, connection, connections, instance, instances_rest, decl_rest, second_named, valued_instances, named_item_rest, named_item, net_item, net_word, net, assign_item, assign, always, module_item, element_head, module_element, program_element, description, file}

abbrev at : ℕ → ℕ → Place
at line col = record { file = 0; line = line; col = col }

-- ---- lexical faults

abbrev lexical : List (List ℕ × Option (Refused × Place))
lexical =
    (codes "module t; int a = 4'b2; endmodule", Some (refused.Literal, at 1 19)) ∷
    (codes "module t; initial $display(\"hi", Some (refused.OpenText, at 1 28)) ∷
    (codes "a = \"\\q\";", Some (refused.BadByte, at 1 5)) ∷
    (codes "module t; /* x", Some (refused.OpenComment, at 1 11)) ∷
    (codes "`define A", Some (refused.Directive, at 1 1)) ∷
    (codes "`timescale 1ns/10 ps // a comment", None) ∷
    (codes "a <<<= 'dx?;", Some (refused.Literal, at 1 8)) ∷
    (codes "a // b\n /* c */ \\", Some (refused.BadByte, at 2 10)) ∷ []

lexical_rows : map (λ x. lex_fault 0 x.0) lexical ≡ map (λ x. x.1) lexical
unfolding longest spelled is_one is_after is_name is_system_name is_plain_number is_filling_number is_decimal_body is_base is_signed_base is_based_number is_size_rest is_sized_number is_number is_unit is_time_rest is_time is_one_step is_string_rest is_string is_spelled words signs unused plain_word kind_of_name kind_of after_word after_some_spaces after_end_of_word power_at magnitude_at unit_at scale_at timescale_at nettype_at is_blank is_line_comment is_comment_rest is_comment is_separator is_token no_token token_piece directive_piece piece_at after start with_piece reading
lexical_rows = refl

-- ---- kinds

kind_row : map (λ t. t.kind) (whole 0 (codes "a<<<=1stepx 10nsy 4'hFx$b $ join_any within")).tokens ≡ k.Name ∷ k.ShiftLeftSignedEquals ∷ k.OneStep ∷ k.Name ∷ k.TimeLiteral ∷ k.Name ∷ k.Number ∷ k.SystemName ∷ k.Dollar ∷ k.JoinAny ∷ k.Reserved ∷ k.EndOfText ∷ []
unfolding longest spelled is_one is_after is_name is_system_name is_plain_number is_filling_number is_decimal_body is_base is_signed_base is_based_number is_size_rest is_sized_number is_number is_unit is_time_rest is_time is_one_step is_string_rest is_string is_spelled words signs unused plain_word kind_of_name kind_of after_word after_some_spaces after_end_of_word power_at magnitude_at unit_at scale_at timescale_at nettype_at is_blank is_line_comment is_comment_rest is_comment is_separator is_token no_token token_piece directive_piece piece_at after start with_piece reading
kind_row = refl

-- ---- syntax faults

-- all is read, or the first token that fits no text, or none of this depth
data Outcome : Type 0 where
  All_read : Outcome
  Unexpected_at : Place → Outcome
  Too_deep_at : Place → Outcome

abbrev told : {A : Type 0} → Out A → Outcome
told (Ok x) = All_read
told (Err (Unexpected rest)) = Unexpected_at (next rest).at
told (Err (TooDeep rest)) = Too_deep_at (next rest).at

-- what is told of a text, read at a budget of depth
abbrev outcome : {A : Type 0} → ℕ → C A → List ℕ → Outcome
outcome budget c text = told (reads budget c (toks (whole 0 text).tokens))

abbrev files : List (List ℕ × Outcome)
files =
    (codes "module t; initial begin $display(1) end endmodule", Unexpected_at (at 1 37)) ∷
    (codes "module t; initial a b; endmodule", Unexpected_at (at 1 21)) ∷
    (codes "module t; wire [3:0] w = 1; u #(.P(2)) a(.*), b(); C d = new(1); endmodule : t", All_read) ∷
    (codes "module t; initial begin C c; c = new; c.f(); a <= #1 b; int d; end endmodule", Unexpected_at (at 1 57)) ∷
    (codes "program p(input logic [7:0] a, b); clocking cb @(posedge c); input #1step a; endclocking endprogram", All_read) ∷
    (codes "class C extends B; static int n; pure virtual function int f(); endclass", All_read) ∷
    (codes "module t; int m[string]; int q[$]; int a[int'(2)]; int b[N:0]; endmodule", All_read) ∷
    (codes "module t;", Unexpected_at (at 1 10)) ∷
    ([], All_read) ∷ []

file_rows : map (λ x. outcome most_depth file x.0) files ≡ map (λ x. x.1) files
unfolding longest spelled is_one is_after is_name is_system_name is_plain_number is_filling_number is_decimal_body is_base is_signed_base is_based_number is_size_rest is_sized_number is_number is_unit is_time_rest is_time is_one_step is_string_rest is_string is_spelled words signs unused plain_word kind_of_name kind_of after_word after_some_spaces after_end_of_word power_at magnitude_at unit_at scale_at timescale_at nettype_at is_blank is_line_comment is_comment_rest is_comment is_separator is_token no_token token_piece directive_piece piece_at after start with_piece reading comma_expr inner_exprs select suffix suffixes post_rest named_post this_post super_post post targets lval system_call super_call call closed cast number time text null_ dollar group named this repeated braces word_cast plain_prim prim prefixed unary levels expr_over expr plain_unary plain_expr cast_rest arguments range enum_item enum vector_type atom_type mailbox_type word_type named_type type unnamed_implied named_name typed_name dimension_inside dimension new_rest init declarator_rest declarator declarators more_declarators life_decl var_decl plain_decl word_decl named_decl_rest enclosed amount delay cycles_amount event_part next_event_part event_parts event_list event blocking_rest nonblocking_rest operator_rest step_after assign_end post_end named_rest super_rest super_statement early_rest early block_items block_rest fork_rest block fork else_ if_rest if_ default_item labelled_item case_item case_rest case_ for_step_rest for_step_before for_step for_init_rest unnamed_lval for_init for_ while_ do_rest do_ repeat forever foreach after_delay on_event cycles wait_rest wait ignore return_ null_statement step_statement system_statement this_statement targets_statement disable trigger break_ continue_ unnamed body named_statement stmt param_item param element_param element_params directed_port plain_port next_port ports typedef_rest typedef argument unit_arguments called function_head task_head head routine_name routine_end routine skew_rest skew default_skew output_side input_side sides default_skews clocking_item clocking_rest plain_clocking default_rest default_clocking clocking automatic_decl class_decl member pure_method qualified class_item class_rest virtual_class plain_class class named_items initial common named_decl program_item given dotted connection connections instance instances_rest decl_rest second_named valued_instances named_item_rest named_item net_item net_word net assign_item assign always module_item element_head module_element program_element description file
file_rows = refl

-- ---- depth

abbrev statements : List (List ℕ × Outcome)
statements =
    (codes "begin begin ; end end", All_read) ∷
    (codes "begin begin begin end end end", All_read) ∷
    (codes "begin begin begin ; end end end", Too_deep_at (at 1 19)) ∷
    (codes "begin begin wait fork; end end", All_read) ∷
    (codes "begin begin wait (a) ; end end", Too_deep_at (at 1 18)) ∷
    (codes "begin begin if (a) ; end end", Too_deep_at (at 1 13)) ∷
    (codes "begin begin a = 1; end end", All_read) ∷
    (codes "begin begin a = f(1); end end", Too_deep_at (at 1 18)) ∷
    (codes "begin a = f(1, b); end", All_read) ∷
    (codes "begin a = f(g()); end", Too_deep_at (at 1 14)) ∷
    (codes "begin a = (b); end", All_read) ∷
    (codes "begin a = ((b)); end", Too_deep_at (at 1 12)) ∷
    (codes "begin a = b + c + d; end", Too_deep_at (at 1 17)) ∷ []

statement_rows : map (λ x. outcome 2 stmt x.0) statements ≡ map (λ x. x.1) statements
unfolding longest spelled is_one is_after is_name is_system_name is_plain_number is_filling_number is_decimal_body is_base is_signed_base is_based_number is_size_rest is_sized_number is_number is_unit is_time_rest is_time is_one_step is_string_rest is_string is_spelled words signs unused plain_word kind_of_name kind_of after_word after_some_spaces after_end_of_word power_at magnitude_at unit_at scale_at timescale_at nettype_at is_blank is_line_comment is_comment_rest is_comment is_separator is_token no_token token_piece directive_piece piece_at after start with_piece reading comma_expr inner_exprs select suffix suffixes post_rest named_post this_post super_post post targets lval system_call super_call call closed cast number time text null_ dollar group named this repeated braces word_cast plain_prim prim prefixed unary levels expr_over expr plain_unary plain_expr cast_rest arguments range enum_item enum vector_type atom_type mailbox_type word_type named_type type unnamed_implied named_name typed_name dimension_inside dimension new_rest init declarator_rest declarator declarators more_declarators life_decl var_decl plain_decl word_decl named_decl_rest enclosed amount delay cycles_amount event_part next_event_part event_parts event_list event blocking_rest nonblocking_rest operator_rest step_after assign_end post_end named_rest super_rest super_statement early_rest early block_items block_rest fork_rest block fork else_ if_rest if_ default_item labelled_item case_item case_rest case_ for_step_rest for_step_before for_step for_init_rest unnamed_lval for_init for_ while_ do_rest do_ repeat forever foreach after_delay on_event cycles wait_rest wait ignore return_ null_statement step_statement system_statement this_statement targets_statement disable trigger break_ continue_ unnamed body named_statement stmt param_item param element_param element_params directed_port plain_port next_port ports typedef_rest typedef argument unit_arguments called function_head task_head head routine_name routine_end routine skew_rest skew default_skew output_side input_side sides default_skews clocking_item clocking_rest plain_clocking default_rest default_clocking clocking automatic_decl class_decl member pure_method qualified class_item class_rest virtual_class plain_class class named_items initial common named_decl program_item given dotted connection connections instance instances_rest decl_rest second_named valued_instances named_item_rest named_item net_item net_word net assign_item assign always module_item element_head module_element program_element description file
statement_rows = refl

-- ---- trees

-- the tree that is read at the greatest depth
abbrev tree_of : {A : Type 0} → C A → List ℕ → Option A
tree_of {A} c text = given (reads most_depth c (toks (whole 0 text).tokens))
  where
    given : Out A → Option A
    given (Ok x) = Some x.0
    given (Err m) = None

-- a name alone
abbrev alone : List ℕ → ℕ → tree.Expr
alone text col = tree.Expr.Post (root.Plain (record { at = at 1 col; text = text })) tree.NoSuffix

abbrev a : tree.Expr
a = alone (codes "a") 1

abbrev b : tree.Expr
b = alone (codes "b") 3

abbrev c : tree.Expr
c = alone (codes "c") 5

abbrev expressions : List (List ℕ × Option tree.Expr)
expressions =
    (codes "a+b*c", Some (tree.Binary binary_word.Plus (at 1 2) a (tree.Binary binary_word.Multiply (at 1 4) b c))) ∷
    (codes "a*b+c", Some (tree.Binary binary_word.Plus (at 1 4) (tree.Binary binary_word.Multiply (at 1 2) a b) c)) ∷
    (codes "a-b-c", Some (tree.Binary binary_word.Minus (at 1 4) (tree.Binary binary_word.Minus (at 1 2) a b) c)) ∷
    (codes "a|b&c", Some (tree.Binary binary_word.Or (at 1 2) a (tree.Binary binary_word.And (at 1 4) b c))) ∷
    (codes "a?b:c", Some (tree.Choose a b c)) ∷
    (codes "$f", Some (tree.System (record { at = at 1 1; text = codes "$f" }) tree.Unwritten)) ∷
    (codes "$f()", Some (tree.System (record { at = at 1 1; text = codes "$f" }) (tree.Written tree.NoExpr))) ∷ []

expression_rows : map (λ x. tree_of expr x.0) expressions ≡ map (λ x. x.1) expressions
unfolding longest spelled is_one is_after is_name is_system_name is_plain_number is_filling_number is_decimal_body is_base is_signed_base is_based_number is_size_rest is_sized_number is_number is_unit is_time_rest is_time is_one_step is_string_rest is_string is_spelled words signs unused plain_word kind_of_name kind_of after_word after_some_spaces after_end_of_word power_at magnitude_at unit_at scale_at timescale_at nettype_at is_blank is_line_comment is_comment_rest is_comment is_separator is_token no_token token_piece directive_piece piece_at after start with_piece reading comma_expr inner_exprs select suffix suffixes post_rest named_post this_post super_post post targets lval system_call super_call call closed cast number time text null_ dollar group named this repeated braces word_cast plain_prim prim prefixed unary levels expr_over expr plain_unary plain_expr cast_rest arguments
expression_rows = refl

abbrev amounts : List (List ℕ × Option tree.Expr)
amounts =
    (codes "10ns", Some (tree.Time (at 1 1) (codes "10ns"))) ∷
    (codes "(10ns)", Some (tree.Group (at 1 1) (tree.Time (at 1 2) (codes "10ns")))) ∷ []

amount_rows : map (λ x. tree_of amount x.0) amounts ≡ map (λ x. x.1) amounts
unfolding longest spelled is_one is_after is_name is_system_name is_plain_number is_filling_number is_decimal_body is_base is_signed_base is_based_number is_size_rest is_sized_number is_number is_unit is_time_rest is_time is_one_step is_string_rest is_string is_spelled words signs unused plain_word kind_of_name kind_of after_word after_some_spaces after_end_of_word power_at magnitude_at unit_at scale_at timescale_at nettype_at is_blank is_line_comment is_comment_rest is_comment is_separator is_token no_token token_piece directive_piece piece_at after start with_piece reading comma_expr inner_exprs select suffix suffixes post_rest named_post this_post super_post post targets lval system_call super_call call closed cast number time text null_ dollar group named this repeated braces word_cast plain_prim prim prefixed unary levels expr_over expr plain_unary plain_expr cast_rest arguments enclosed amount
amount_rows = refl
