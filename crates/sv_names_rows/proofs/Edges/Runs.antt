-- Texts at the edges of the forms and the rules: what a run shows.
use Rattle.std.proofs.Common.{◌≡◌, List, [], ◌∷◌, true, false, refl}
use Rattle.std.specs.Prelude.{Some, None, codes}
use Rattle.sv_value.specs.Vector.{symbols_of, word_of}
use Rattle.sv_value.specs.declared.place.FaultKind.TheVariants as kind
use Rattle.sv_flat.specs.declared.choices.Choices.TheVariants.{Listed}
use Rattle.sv_flat.specs.Directed.{Done, Faulted}
use Rattle.sv_tree.specs.declared.word.UnaryWord.TheVariants as unary_word
use Rattle.sv_tree.specs.declared.word.BinaryWord.TheVariants as binary_word
use Rattle.sv_tree.specs.declared.word.PartWord.TheVariants as part_word
use Rattle.sv_tree.specs.declared.word.VectorWord.TheVariants as vector_word
use Rattle.sv_tree.specs.declared.word.AtomWord.TheVariants as atom_word
use Rattle.sv_tree.specs.declared.word.Sign.TheVariants as sign
use Rattle.sv_tree.specs.declared.word.Life.TheVariants as life
use Rattle.sv_tree.specs.declared.word.JoinWord.TheVariants as join_word
use Rattle.sv_tree.specs.declared.word.EdgeWord.TheVariants as edge
use Rattle.sv_tree.specs.declared.word.StepWord.TheVariants as step_word
use Rattle.sv_tree.specs.declared.word.ProcedureWord.TheVariants as procedure_word
use Rattle.sv_tree.specs.declared.word.Direction.TheVariants as direction
use Rattle.sv_tree.specs.declared.expr.Root.TheVariants as root
use Rattle.sv_tree.specs.declared.expr.CastType.TheVariants as cast
use Rattle.sv_tree.specs.Expr as tree
use Rattle.sv_tree.specs.Types as types
use Rattle.sv_tree.specs.Stmt as stmts
use Rattle.sv_tree.specs.Units as units
use Rattle.sv_tree.specs.Items as items
use Rattle.sv_tree.specs.Descriptions as descriptions
use Rattle.sv_tree.specs.Descriptions.{Description}
use Rattle.sv_names.specs.Design.{elaborated}
use Rattle.sv_names_rows.proofs.Kit.{argument, assign_item, at, blocking, class_, decl, declarator, delay, enum_item, event_part, expressions, head, lines, method, module_, name, net, net_item, number, plain, procedure, property, qualifiers, range, routine, scale, seen_in, statements, system, target, text, unqualified, Ran}

-- class C; endclass module t; C h; initial h = new; endmodule
abbrev t1 : List Description
t1 = descriptions.Item (items.Class (class_ (at 0 1 1) false (name (at 0 1 7) "C") None [] None)) ∷ module_ (at 0 1 19) life.Unwritten (name (at 0 1 26) "t") None [] (items.Decl (decl life.Unwritten (types.Named (name (at 0 1 29) "C")) (declarator (name (at 0 1 31) "h") None None ∷ [])) ∷ procedure (at 0 1 34) procedure_word.Initial (stmts.Statement (at 0 1 42) None (blocking (target (at 0 1 42) "h") None (stmts.New (at 0 1 46) tree.Unwritten))) ∷ []) None ∷ []

t1_seen : seen_in (Listed []) (Listed []) (elaborated t1 [] None) 9 ≡ Ran (record { log = []; wave = lines ("$timescale 1ns $end" ∷ "$scope module t $end" ∷ "$upscope $end" ∷ "$enddefinitions $end" ∷ "#0" ∷ "$dumpvars" ∷ "$end" ∷ []); outcome = Done; time = 0; steps = 6; race = Some (10, at 0 1 31) })
unfolding symbols_of word_of
t1_seen = refl

-- module t; int d[]; initial d = new[3]; endmodule
abbrev t2 : List Description
t2 = module_ (at 0 1 1) life.Unwritten (name (at 0 1 8) "t") None [] (items.Decl (decl life.Unwritten (types.Atom (at 0 1 11) atom_word.Int sign.Unwritten) (declarator (name (at 0 1 15) "d") (Some (stmts.Empty (at 0 1 16))) None ∷ [])) ∷ procedure (at 0 1 20) procedure_word.Initial (stmts.Statement (at 0 1 28) None (blocking (target (at 0 1 28) "d") None (stmts.Array (at 0 1 32) (number (at 0 1 36) "3") None))) ∷ []) None ∷ []

t2_seen : seen_in (Listed []) (Listed []) (elaborated t2 [] None) 7 ≡ Ran (record { log = []; wave = lines ("$timescale 1ns $end" ∷ "$scope module t $end" ∷ "$upscope $end" ∷ "$enddefinitions $end" ∷ "#0" ∷ "$dumpvars" ∷ "$end" ∷ []); outcome = Done; time = 0; steps = 4; race = Some (10, at 0 1 15) })
unfolding symbols_of word_of
t2_seen = refl

-- module t; initial repeat (1) ; endmodule
abbrev t3 : List Description
t3 = module_ (at 0 1 1) life.Unwritten (name (at 0 1 8) "t") None [] (procedure (at 0 1 11) procedure_word.Initial (stmts.Statement (at 0 1 19) None (stmts.Repeat (number (at 0 1 27) "1") (stmts.Statement (at 0 1 30) None stmts.Null))) ∷ []) None ∷ []

t3_seen : seen_in (Listed []) (Listed []) (elaborated t3 [] None) 9 ≡ Ran (record { log = []; wave = lines ("$timescale 1ns $end" ∷ "$scope module t $end" ∷ "$upscope $end" ∷ "$enddefinitions $end" ∷ "#0" ∷ "$dumpvars" ∷ "$end" ∷ []); outcome = Done; time = 0; steps = 6; race = Some (8, at 0 1 11) })
unfolding symbols_of word_of
t3_seen = refl

-- module t; initial repeat (1) $display("x"); endmodule
abbrev t4 : List Description
t4 = module_ (at 0 1 1) life.Unwritten (name (at 0 1 8) "t") None [] (procedure (at 0 1 11) procedure_word.Initial (stmts.Statement (at 0 1 19) None (stmts.Repeat (number (at 0 1 27) "1") (stmts.Statement (at 0 1 30) None (stmts.Call (system (at 0 1 30) "$display" (text (at 0 1 39) "x" ∷ [])))))) ∷ []) None ∷ []

t4_seen : seen_in (Listed []) (Listed []) (elaborated t4 [] None) 9 ≡ Ran (record { log = lines ("x" ∷ []); wave = lines ("$timescale 1ns $end" ∷ "$scope module t $end" ∷ "$upscope $end" ∷ "$enddefinitions $end" ∷ "#0" ∷ "$dumpvars" ∷ "$end" ∷ []); outcome = Done; time = 0; steps = 6; race = Some (8, at 0 1 11) })
unfolding symbols_of word_of
t4_seen = refl

-- module t; initial for (int i = 0; i < 0; i++) ; endmodule
abbrev t5 : List Description
t5 = module_ (at 0 1 1) life.Unwritten (name (at 0 1 8) "t") None [] (procedure (at 0 1 11) procedure_word.Initial (stmts.Statement (at 0 1 19) None (stmts.For (stmts.Declare (types.Atom (at 0 1 24) atom_word.Int sign.Unwritten) (name (at 0 1 28) "i") (number (at 0 1 32) "0")) (tree.Binary binary_word.Less (at 0 1 37) (plain (at 0 1 35) "i") (number (at 0 1 39) "0")) (stmts.ForStep.Step (at 0 1 42) (target (at 0 1 42) "i") step_word.Increment) (stmts.Statement (at 0 1 47) None stmts.Null))) ∷ []) None ∷ []

t5_seen : seen_in (Listed []) (Listed []) (elaborated t5 [] None) 9 ≡ Ran (record { log = []; wave = lines ("$timescale 1ns $end" ∷ "$scope module t $end" ∷ "$upscope $end" ∷ "$enddefinitions $end" ∷ "#0" ∷ "$dumpvars" ∷ "$end" ∷ []); outcome = Done; time = 0; steps = 6; race = Some (8, at 0 1 11) })
unfolding symbols_of word_of
t5_seen = refl

-- module t; int q[$]; initial foreach (q[i]) ; endmodule
abbrev t6 : List Description
t6 = module_ (at 0 1 1) life.Unwritten (name (at 0 1 8) "t") None [] (items.Decl (decl life.Unwritten (types.Atom (at 0 1 11) atom_word.Int sign.Unwritten) (declarator (name (at 0 1 15) "q") (Some (stmts.Queue (at 0 1 16))) None ∷ [])) ∷ procedure (at 0 1 21) procedure_word.Initial (stmts.Statement (at 0 1 29) None (stmts.Foreach (name (at 0 1 38) "q") (name (at 0 1 40) "i") (stmts.Statement (at 0 1 44) None stmts.Null))) ∷ []) None ∷ []

t6_seen : seen_in (Listed []) (Listed []) (elaborated t6 [] None) 7 ≡ Ran (record { log = []; wave = lines ("$timescale 1ns $end" ∷ "$scope module t $end" ∷ "$upscope $end" ∷ "$enddefinitions $end" ∷ "#0" ∷ "$dumpvars" ∷ "$end" ∷ []); outcome = Done; time = 0; steps = 4; race = Some (10, at 0 1 15) })
unfolding symbols_of word_of
t6_seen = refl

-- class A; endclass class B extends A; endclass module t; B h; initial h = new; endmodule
abbrev t7 : List Description
t7 = descriptions.Item (items.Class (class_ (at 0 1 1) false (name (at 0 1 7) "A") None [] None)) ∷ descriptions.Item (items.Class (class_ (at 0 1 19) false (name (at 0 1 25) "B") (Some (name (at 0 1 35) "A")) [] None)) ∷ module_ (at 0 1 47) life.Unwritten (name (at 0 1 54) "t") None [] (items.Decl (decl life.Unwritten (types.Named (name (at 0 1 57) "B")) (declarator (name (at 0 1 59) "h") None None ∷ [])) ∷ procedure (at 0 1 62) procedure_word.Initial (stmts.Statement (at 0 1 70) None (blocking (target (at 0 1 70) "h") None (stmts.New (at 0 1 74) tree.Unwritten))) ∷ []) None ∷ []

t7_seen : seen_in (Listed []) (Listed []) (elaborated t7 [] None) 11 ≡ Ran (record { log = []; wave = lines ("$timescale 1ns $end" ∷ "$scope module t $end" ∷ "$upscope $end" ∷ "$enddefinitions $end" ∷ "#0" ∷ "$dumpvars" ∷ "$end" ∷ []); outcome = Done; time = 0; steps = 8; race = Some (10, at 0 1 59) })
unfolding symbols_of word_of
t7_seen = refl

-- module t; mailbox m = new(); int v; initial begin m.get(v); $display("x"); end initial #1 m.put(3); endmodule
abbrev t8 : List Description
t8 = module_ (at 0 1 1) life.Unwritten (name (at 0 1 8) "t") None [] (items.Decl (decl life.Unwritten (types.Mailbox (at 0 1 11)) (declarator (name (at 0 1 19) "m") None (Some (stmts.New (at 0 1 23) (tree.Written tree.NoExpr))) ∷ [])) ∷ items.Decl (decl life.Unwritten (types.Atom (at 0 1 30) atom_word.Int sign.Unwritten) (declarator (name (at 0 1 34) "v") None None ∷ [])) ∷ procedure (at 0 1 37) procedure_word.Initial (stmts.Statement (at 0 1 45) None (stmts.Block None [] (statements (stmts.Statement (at 0 1 51) None (stmts.Call (tree.Expr.Post (root.Plain (name (at 0 1 51) "m")) (tree.Member (name (at 0 1 53) "get") (tree.Call (at 0 1 56) (expressions (plain (at 0 1 57) "v" ∷ [])) tree.NoSuffix)))) ∷ stmts.Statement (at 0 1 61) None (stmts.Call (system (at 0 1 61) "$display" (text (at 0 1 70) "x" ∷ []))) ∷ [])) None)) ∷ procedure (at 0 1 80) procedure_word.Initial (stmts.Statement (at 0 1 88) None (stmts.After (delay (at 0 1 88) (number (at 0 1 89) "1")) (stmts.Statement (at 0 1 91) None (stmts.Call (tree.Expr.Post (root.Plain (name (at 0 1 91) "m")) (tree.Member (name (at 0 1 93) "put") (tree.Call (at 0 1 96) (expressions (number (at 0 1 97) "3" ∷ [])) tree.NoSuffix))))))) ∷ []) None ∷ []

t8_seen : seen_in (Listed []) (Listed []) (elaborated t8 [] None) 18 ≡ Ran (record { log = lines ("x" ∷ []); wave = lines ("$timescale 1ns $end" ∷ "$scope module t $end" ∷ "$var reg 32 ! v $end" ∷ "$upscope $end" ∷ "$enddefinitions $end" ∷ "#0" ∷ "$dumpvars" ∷ "b0 !" ∷ "$end" ∷ "#1" ∷ "b11 !" ∷ []); outcome = Done; time = 1; steps = 15; race = Some (10, at 0 1 19) })
unfolding symbols_of word_of
t8_seen = refl

-- module t; initial begin fork #1 ; join end endmodule
abbrev t9 : List Description
t9 = module_ (at 0 1 1) life.Unwritten (name (at 0 1 8) "t") None [] (procedure (at 0 1 11) procedure_word.Initial (stmts.Statement (at 0 1 19) None (stmts.Block None [] (statements (stmts.Statement (at 0 1 25) None (stmts.Fork None [] (statements (stmts.Statement (at 0 1 30) None (stmts.After (delay (at 0 1 30) (number (at 0 1 31) "1")) (stmts.Statement (at 0 1 33) None stmts.Null)) ∷ [])) join_word.All None) ∷ [])) None)) ∷ []) None ∷ []

t9_seen : seen_in (Listed []) (Listed []) (elaborated t9 [] None) 17 ≡ Ran (record { log = []; wave = lines ("$timescale 1ns $end" ∷ "$scope module t $end" ∷ "$upscope $end" ∷ "$enddefinitions $end" ∷ "#0" ∷ "$dumpvars" ∷ "$end" ∷ []); outcome = Done; time = 1; steps = 14; race = Some (8, at 0 1 11) })
unfolding symbols_of word_of
t9_seen = refl

-- module t; mailbox m = new(); int v, w; initial begin #1 m.peek(v); $display("a"); end initial begin m.peek(w); $display("b"); end initial #2 m.put(3); endmodule
abbrev t10 : List Description
t10 = module_ (at 0 1 1) life.Unwritten (name (at 0 1 8) "t") None [] (items.Decl (decl life.Unwritten (types.Mailbox (at 0 1 11)) (declarator (name (at 0 1 19) "m") None (Some (stmts.New (at 0 1 23) (tree.Written tree.NoExpr))) ∷ [])) ∷ items.Decl (decl life.Unwritten (types.Atom (at 0 1 30) atom_word.Int sign.Unwritten) (declarator (name (at 0 1 34) "v") None None ∷ declarator (name (at 0 1 37) "w") None None ∷ [])) ∷ procedure (at 0 1 40) procedure_word.Initial (stmts.Statement (at 0 1 48) None (stmts.Block None [] (statements (stmts.Statement (at 0 1 54) None (stmts.After (delay (at 0 1 54) (number (at 0 1 55) "1")) (stmts.Statement (at 0 1 57) None (stmts.Call (tree.Expr.Post (root.Plain (name (at 0 1 57) "m")) (tree.Member (name (at 0 1 59) "peek") (tree.Call (at 0 1 63) (expressions (plain (at 0 1 64) "v" ∷ [])) tree.NoSuffix)))))) ∷ stmts.Statement (at 0 1 68) None (stmts.Call (system (at 0 1 68) "$display" (text (at 0 1 77) "a" ∷ []))) ∷ [])) None)) ∷ procedure (at 0 1 87) procedure_word.Initial (stmts.Statement (at 0 1 95) None (stmts.Block None [] (statements (stmts.Statement (at 0 1 101) None (stmts.Call (tree.Expr.Post (root.Plain (name (at 0 1 101) "m")) (tree.Member (name (at 0 1 103) "peek") (tree.Call (at 0 1 107) (expressions (plain (at 0 1 108) "w" ∷ [])) tree.NoSuffix)))) ∷ stmts.Statement (at 0 1 112) None (stmts.Call (system (at 0 1 112) "$display" (text (at 0 1 121) "b" ∷ []))) ∷ [])) None)) ∷ procedure (at 0 1 131) procedure_word.Initial (stmts.Statement (at 0 1 139) None (stmts.After (delay (at 0 1 139) (number (at 0 1 140) "2")) (stmts.Statement (at 0 1 142) None (stmts.Call (tree.Expr.Post (root.Plain (name (at 0 1 142) "m")) (tree.Member (name (at 0 1 144) "put") (tree.Call (at 0 1 147) (expressions (number (at 0 1 148) "3" ∷ [])) tree.NoSuffix))))))) ∷ []) None ∷ []

t10_seen : seen_in (Listed []) (Listed []) (elaborated t10 [] None) 29 ≡ Ran (record { log = lines ("b" ∷ "a" ∷ []); wave = lines ("$timescale 1ns $end" ∷ "$scope module t $end" ∷ "$var reg 32 ! v $end" ∷ "$var reg 32 \" w $end" ∷ "$upscope $end" ∷ "$enddefinitions $end" ∷ "#0" ∷ "$dumpvars" ∷ "b0 !" ∷ "b0 \"" ∷ "$end" ∷ "#2" ∷ "b11 !" ∷ "b11 \"" ∷ []); outcome = Done; time = 2; steps = 26; race = Some (10, at 0 1 19) })
unfolding symbols_of word_of
t10_seen = refl

-- module t; int a[3]; int i; task automatic w(output int x); i = 1; x = 5; endtask initial begin w(a[i]); $display("%0d %0d", a[0], a[1]); end endmodule
abbrev t11 : List Description
t11 = module_ (at 0 1 1) life.Unwritten (name (at 0 1 8) "t") None [] (items.Decl (decl life.Unwritten (types.Atom (at 0 1 11) atom_word.Int sign.Unwritten) (declarator (name (at 0 1 15) "a") (Some (stmts.Size (at 0 1 16) (number (at 0 1 17) "3"))) None ∷ [])) ∷ items.Decl (decl life.Unwritten (types.Atom (at 0 1 21) atom_word.Int sign.Unwritten) (declarator (name (at 0 1 25) "i") None None ∷ [])) ∷ items.Routine (routine (head (at 0 1 28) life.Automatic units.Task (name (at 0 1 43) "w") (argument (Some direction.Output) (types.Written (types.Atom (at 0 1 52) atom_word.Int sign.Unwritten)) (name (at 0 1 56) "x") None ∷ [])) [] (stmts.Statement (at 0 1 60) None (blocking (target (at 0 1 60) "i") None (stmts.Value (number (at 0 1 64) "1"))) ∷ stmts.Statement (at 0 1 67) None (blocking (target (at 0 1 67) "x") None (stmts.Value (number (at 0 1 71) "5"))) ∷ []) None) ∷ procedure (at 0 1 82) procedure_word.Initial (stmts.Statement (at 0 1 90) None (stmts.Block None [] (statements (stmts.Statement (at 0 1 96) None (stmts.Call (tree.Expr.Post (root.Plain (name (at 0 1 96) "w")) (tree.Call (at 0 1 97) (expressions (tree.Expr.Post (root.Plain (name (at 0 1 98) "a")) (tree.Select (at 0 1 99) (plain (at 0 1 100) "i") tree.NoSuffix) ∷ [])) tree.NoSuffix))) ∷ stmts.Statement (at 0 1 105) None (stmts.Call (system (at 0 1 105) "$display" (text (at 0 1 114) "%0d %0d" ∷ tree.Expr.Post (root.Plain (name (at 0 1 125) "a")) (tree.Select (at 0 1 126) (number (at 0 1 127) "0") tree.NoSuffix) ∷ tree.Expr.Post (root.Plain (name (at 0 1 131) "a")) (tree.Select (at 0 1 132) (number (at 0 1 133) "1") tree.NoSuffix) ∷ []))) ∷ [])) None)) ∷ []) None ∷ []

t11_seen : seen_in (Listed []) (Listed []) (elaborated t11 [] None) 12 ≡ Ran (record { log = lines ("0 5" ∷ []); wave = lines ("$timescale 1ns $end" ∷ "$scope module t $end" ∷ "$var reg 32 ! i $end" ∷ "$upscope $end" ∷ "$enddefinitions $end" ∷ "#0" ∷ "$dumpvars" ∷ "b1 !" ∷ "$end" ∷ []); outcome = Done; time = 0; steps = 9; race = Some (8, at 0 1 82) })
unfolding symbols_of word_of
t11_seen = refl

-- module t; int a[3]; int i; task automatic w(output int x, y); i = 1; x = 2; y = 5; endtask initial begin w(i, a[i]); $display("%0d %0d %0d", i, a[1], a[2]); end endmodule
abbrev t12 : List Description
t12 = module_ (at 0 1 1) life.Unwritten (name (at 0 1 8) "t") None [] (items.Decl (decl life.Unwritten (types.Atom (at 0 1 11) atom_word.Int sign.Unwritten) (declarator (name (at 0 1 15) "a") (Some (stmts.Size (at 0 1 16) (number (at 0 1 17) "3"))) None ∷ [])) ∷ items.Decl (decl life.Unwritten (types.Atom (at 0 1 21) atom_word.Int sign.Unwritten) (declarator (name (at 0 1 25) "i") None None ∷ [])) ∷ items.Routine (routine (head (at 0 1 28) life.Automatic units.Task (name (at 0 1 43) "w") (argument (Some direction.Output) (types.Written (types.Atom (at 0 1 52) atom_word.Int sign.Unwritten)) (name (at 0 1 56) "x") None ∷ argument None types.Unwritten (name (at 0 1 59) "y") None ∷ [])) [] (stmts.Statement (at 0 1 63) None (blocking (target (at 0 1 63) "i") None (stmts.Value (number (at 0 1 67) "1"))) ∷ stmts.Statement (at 0 1 70) None (blocking (target (at 0 1 70) "x") None (stmts.Value (number (at 0 1 74) "2"))) ∷ stmts.Statement (at 0 1 77) None (blocking (target (at 0 1 77) "y") None (stmts.Value (number (at 0 1 81) "5"))) ∷ []) None) ∷ procedure (at 0 1 92) procedure_word.Initial (stmts.Statement (at 0 1 100) None (stmts.Block None [] (statements (stmts.Statement (at 0 1 106) None (stmts.Call (tree.Expr.Post (root.Plain (name (at 0 1 106) "w")) (tree.Call (at 0 1 107) (expressions (plain (at 0 1 108) "i" ∷ tree.Expr.Post (root.Plain (name (at 0 1 111) "a")) (tree.Select (at 0 1 112) (plain (at 0 1 113) "i") tree.NoSuffix) ∷ [])) tree.NoSuffix))) ∷ stmts.Statement (at 0 1 118) None (stmts.Call (system (at 0 1 118) "$display" (text (at 0 1 127) "%0d %0d %0d" ∷ plain (at 0 1 142) "i" ∷ tree.Expr.Post (root.Plain (name (at 0 1 145) "a")) (tree.Select (at 0 1 146) (number (at 0 1 147) "1") tree.NoSuffix) ∷ tree.Expr.Post (root.Plain (name (at 0 1 151) "a")) (tree.Select (at 0 1 152) (number (at 0 1 153) "2") tree.NoSuffix) ∷ []))) ∷ [])) None)) ∷ []) None ∷ []

t12_seen : seen_in (Listed []) (Listed []) (elaborated t12 [] None) 13 ≡ Ran (record { log = lines ("2 5 0" ∷ []); wave = lines ("$timescale 1ns $end" ∷ "$scope module t $end" ∷ "$var reg 32 ! i $end" ∷ "$upscope $end" ∷ "$enddefinitions $end" ∷ "#0" ∷ "$dumpvars" ∷ "b10 !" ∷ "$end" ∷ []); outcome = Done; time = 0; steps = 10; race = Some (8, at 0 1 92) })
unfolding symbols_of word_of
t12_seen = refl

-- class C; string s; endclass module t; C h; string s = "abcdefgh"; initial begin repeat (12) s = {s, s}; h.s = {s, s}; end endmodule
abbrev t13 : List Description
t13 = descriptions.Item (items.Class (class_ (at 0 1 1) false (name (at 0 1 7) "C") None (property unqualified (decl life.Unwritten (types.Text (at 0 1 10)) (declarator (name (at 0 1 17) "s") None None ∷ [])) ∷ []) None)) ∷ module_ (at 0 1 29) life.Unwritten (name (at 0 1 36) "t") None [] (items.Decl (decl life.Unwritten (types.Named (name (at 0 1 39) "C")) (declarator (name (at 0 1 41) "h") None None ∷ [])) ∷ items.Decl (decl life.Unwritten (types.Text (at 0 1 44)) (declarator (name (at 0 1 51) "s") None (Some (stmts.Value (text (at 0 1 55) "abcdefgh"))) ∷ [])) ∷ procedure (at 0 1 67) procedure_word.Initial (stmts.Statement (at 0 1 75) None (stmts.Block None [] (statements (stmts.Statement (at 0 1 81) None (stmts.Repeat (number (at 0 1 89) "12") (stmts.Statement (at 0 1 93) None (blocking (target (at 0 1 93) "s") None (stmts.Value (tree.Expr.Join (at 0 1 97) (expressions (plain (at 0 1 98) "s" ∷ plain (at 0 1 101) "s" ∷ []))))))) ∷ stmts.Statement (at 0 1 105) None (blocking (tree.Lval.Post (root.Plain (name (at 0 1 105) "h")) (tree.Member (name (at 0 1 107) "s") tree.NoSuffix)) None (stmts.Value (tree.Expr.Join (at 0 1 111) (expressions (plain (at 0 1 112) "s" ∷ plain (at 0 1 115) "s" ∷ []))))) ∷ [])) None)) ∷ []) None ∷ []

t13_seen : seen_in (Listed []) (Listed []) (elaborated t13 [] None) 32 ≡ Ran (record { log = []; wave = lines ("$timescale 1ns $end" ∷ "$scope module t $end" ∷ "$upscope $end" ∷ "$enddefinitions $end" ∷ []); outcome = Faulted (record { kind = kind.Null; at = at 0 1 105; time = 0 }); time = 0; steps = 29; race = Some (10, at 0 1 41) })
unfolding symbols_of word_of
t13_seen = refl

-- class C; int x; endclass
-- module t; C h; initial
-- for (int i = 0;
-- i < h.x; i++) ; endmodule
abbrev t14 : List Description
t14 = descriptions.Item (items.Class (class_ (at 0 1 1) false (name (at 0 1 7) "C") None (property unqualified (decl life.Unwritten (types.Atom (at 0 1 10) atom_word.Int sign.Unwritten) (declarator (name (at 0 1 14) "x") None None ∷ [])) ∷ []) None)) ∷ module_ (at 0 2 1) life.Unwritten (name (at 0 2 8) "t") None [] (items.Decl (decl life.Unwritten (types.Named (name (at 0 2 11) "C")) (declarator (name (at 0 2 13) "h") None None ∷ [])) ∷ procedure (at 0 2 16) procedure_word.Initial (stmts.Statement (at 0 3 1) None (stmts.For (stmts.Declare (types.Atom (at 0 3 6) atom_word.Int sign.Unwritten) (name (at 0 3 10) "i") (number (at 0 3 14) "0")) (tree.Binary binary_word.Less (at 0 4 3) (plain (at 0 4 1) "i") (tree.Expr.Post (root.Plain (name (at 0 4 5) "h")) (tree.Member (name (at 0 4 7) "x") tree.NoSuffix))) (stmts.ForStep.Step (at 0 4 10) (target (at 0 4 10) "i") step_word.Increment) (stmts.Statement (at 0 4 15) None stmts.Null))) ∷ []) None ∷ []

t14_seen : seen_in (Listed []) (Listed []) (elaborated t14 [] None) 8 ≡ Ran (record { log = []; wave = lines ("$timescale 1ns $end" ∷ "$scope module t $end" ∷ "$upscope $end" ∷ "$enddefinitions $end" ∷ []); outcome = Faulted (record { kind = kind.Null; at = at 0 3 1; time = 0 }); time = 0; steps = 5; race = Some (10, at 0 2 13) })
unfolding symbols_of word_of
t14_seen = refl

-- class C; int x; endclass
-- module t; C h; int y; initial
-- lab: y = h.x; endmodule
abbrev t15 : List Description
t15 = descriptions.Item (items.Class (class_ (at 0 1 1) false (name (at 0 1 7) "C") None (property unqualified (decl life.Unwritten (types.Atom (at 0 1 10) atom_word.Int sign.Unwritten) (declarator (name (at 0 1 14) "x") None None ∷ [])) ∷ []) None)) ∷ module_ (at 0 2 1) life.Unwritten (name (at 0 2 8) "t") None [] (items.Decl (decl life.Unwritten (types.Named (name (at 0 2 11) "C")) (declarator (name (at 0 2 13) "h") None None ∷ [])) ∷ items.Decl (decl life.Unwritten (types.Atom (at 0 2 16) atom_word.Int sign.Unwritten) (declarator (name (at 0 2 20) "y") None None ∷ [])) ∷ procedure (at 0 2 23) procedure_word.Initial (stmts.Statement (at 0 3 6) (Some (name (at 0 3 1) "lab")) (blocking (target (at 0 3 6) "y") None (stmts.Value (tree.Expr.Post (root.Plain (name (at 0 3 10) "h")) (tree.Member (name (at 0 3 12) "x") tree.NoSuffix))))) ∷ []) None ∷ []

t15_seen : seen_in (Listed []) (Listed []) (elaborated t15 [] None) 6 ≡ Ran (record { log = []; wave = lines ("$timescale 1ns $end" ∷ "$scope module t $end" ∷ "$var reg 32 ! y $end" ∷ "$upscope $end" ∷ "$enddefinitions $end" ∷ []); outcome = Faulted (record { kind = kind.Null; at = at 0 3 1; time = 0 }); time = 0; steps = 3; race = Some (10, at 0 2 13) })
unfolding symbols_of word_of
t15_seen = refl

-- module t; function automatic int f(int n); return n < 0 ? 1 : n; endfunction wire [31:0] y;
-- assign y = f(1); endmodule
abbrev t16 : List Description
t16 = module_ (at 0 1 1) life.Unwritten (name (at 0 1 8) "t") None [] (items.Routine (routine (head (at 0 1 11) life.Automatic (units.Returns.Value (types.Written (types.Atom (at 0 1 30) atom_word.Int sign.Unwritten))) (name (at 0 1 34) "f") (argument None (types.Written (types.Atom (at 0 1 36) atom_word.Int sign.Unwritten)) (name (at 0 1 40) "n") None ∷ [])) [] (stmts.Statement (at 0 1 44) None (stmts.Return (Some (tree.Choose (tree.Binary binary_word.Less (at 0 1 53) (plain (at 0 1 51) "n") (number (at 0 1 55) "0")) (number (at 0 1 59) "1") (plain (at 0 1 63) "n")))) ∷ []) None) ∷ net (at 0 1 78) sign.Unwritten (Some (range (at 0 1 83) (number (at 0 1 84) "31") (number (at 0 1 87) "0"))) (net_item (name (at 0 1 90) "y") None ∷ []) ∷ items.Assign (assign_item (target (at 0 2 8) "y") (tree.Expr.Post (root.Plain (name (at 0 2 12) "f")) (tree.Call (at 0 2 13) (expressions (number (at 0 2 14) "1" ∷ [])) tree.NoSuffix)) ∷ []) ∷ []) None ∷ []

t16_seen : seen_in (Listed []) (Listed []) (elaborated t16 [] None) 10 ≡ Ran (record { log = []; wave = lines ("$timescale 1ns $end" ∷ "$scope module t $end" ∷ "$var wire 32 ! y [31:0] $end" ∷ "$upscope $end" ∷ "$enddefinitions $end" ∷ "#0" ∷ "$dumpvars" ∷ "b1 !" ∷ "$end" ∷ []); outcome = Done; time = 0; steps = 7; race = None })
unfolding symbols_of word_of
t16_seen = refl

-- class A; endclass class B extends A; endclass module t; A a; B b; initial begin a = new; void'($cast(b, a)); $display("on"); end endmodule
abbrev t17 : List Description
t17 = descriptions.Item (items.Class (class_ (at 0 1 1) false (name (at 0 1 7) "A") None [] None)) ∷ descriptions.Item (items.Class (class_ (at 0 1 19) false (name (at 0 1 25) "B") (Some (name (at 0 1 35) "A")) [] None)) ∷ module_ (at 0 1 47) life.Unwritten (name (at 0 1 54) "t") None [] (items.Decl (decl life.Unwritten (types.Named (name (at 0 1 57) "A")) (declarator (name (at 0 1 59) "a") None None ∷ [])) ∷ items.Decl (decl life.Unwritten (types.Named (name (at 0 1 62) "B")) (declarator (name (at 0 1 64) "b") None None ∷ [])) ∷ procedure (at 0 1 67) procedure_word.Initial (stmts.Statement (at 0 1 75) None (stmts.Block None [] (statements (stmts.Statement (at 0 1 81) None (blocking (target (at 0 1 81) "a") None (stmts.New (at 0 1 85) tree.Unwritten)) ∷ stmts.Statement (at 0 1 90) None (stmts.Ignore (at 0 1 90) (system (at 0 1 96) "$cast" (plain (at 0 1 102) "b" ∷ plain (at 0 1 105) "a" ∷ []))) ∷ stmts.Statement (at 0 1 110) None (stmts.Call (system (at 0 1 110) "$display" (text (at 0 1 119) "on" ∷ []))) ∷ [])) None)) ∷ []) None ∷ []

t17_seen : seen_in (Listed []) (Listed []) (elaborated t17 [] None) 12 ≡ Ran (record { log = lines ("on" ∷ []); wave = lines ("$timescale 1ns $end" ∷ "$scope module t $end" ∷ "$upscope $end" ∷ "$enddefinitions $end" ∷ "#0" ∷ "$dumpvars" ∷ "$end" ∷ []); outcome = Done; time = 0; steps = 9; race = Some (10, at 0 1 59) })
unfolding symbols_of word_of
t17_seen = refl

-- module t; initial $display("%b", 'X); endmodule
abbrev t18 : List Description
t18 = module_ (at 0 1 1) life.Unwritten (name (at 0 1 8) "t") None [] (procedure (at 0 1 11) procedure_word.Initial (stmts.Statement (at 0 1 19) None (stmts.Call (system (at 0 1 19) "$display" (text (at 0 1 28) "%b" ∷ number (at 0 1 34) "'X" ∷ [])))) ∷ []) None ∷ []

t18_seen : seen_in (Listed []) (Listed []) (elaborated t18 [] None) 7 ≡ Ran (record { log = lines ("x" ∷ []); wave = lines ("$timescale 1ns $end" ∷ "$scope module t $end" ∷ "$upscope $end" ∷ "$enddefinitions $end" ∷ "#0" ∷ "$dumpvars" ∷ "$end" ∷ []); outcome = Done; time = 0; steps = 4; race = Some (8, at 0 1 11) })
unfolding symbols_of word_of
t18_seen = refl

-- module t; initial $display("%0d", 4'b_1); endmodule
abbrev t19 : List Description
t19 = module_ (at 0 1 1) life.Unwritten (name (at 0 1 8) "t") None [] (procedure (at 0 1 11) procedure_word.Initial (stmts.Statement (at 0 1 19) None (stmts.Call (system (at 0 1 19) "$display" (text (at 0 1 28) "%0d" ∷ number (at 0 1 35) "4'b_1" ∷ [])))) ∷ []) None ∷ []

t19_seen : seen_in (Listed []) (Listed []) (elaborated t19 [] None) 7 ≡ Ran (record { log = lines ("1" ∷ []); wave = lines ("$timescale 1ns $end" ∷ "$scope module t $end" ∷ "$upscope $end" ∷ "$enddefinitions $end" ∷ "#0" ∷ "$dumpvars" ∷ "$end" ∷ []); outcome = Done; time = 0; steps = 4; race = Some (8, at 0 1 11) })
unfolding symbols_of word_of
t19_seen = refl

-- module t; initial $display("%0d", 'd1_0); endmodule
abbrev t20 : List Description
t20 = module_ (at 0 1 1) life.Unwritten (name (at 0 1 8) "t") None [] (procedure (at 0 1 11) procedure_word.Initial (stmts.Statement (at 0 1 19) None (stmts.Call (system (at 0 1 19) "$display" (text (at 0 1 28) "%0d" ∷ number (at 0 1 35) "'d1_0" ∷ [])))) ∷ []) None ∷ []

t20_seen : seen_in (Listed []) (Listed []) (elaborated t20 [] None) 7 ≡ Ran (record { log = lines ("10" ∷ []); wave = lines ("$timescale 1ns $end" ∷ "$scope module t $end" ∷ "$upscope $end" ∷ "$enddefinitions $end" ∷ "#0" ∷ "$dumpvars" ∷ "$end" ∷ []); outcome = Done; time = 0; steps = 4; race = Some (8, at 0 1 11) })
unfolding symbols_of word_of
t20_seen = refl

-- module t; initial $display("%0d", 'd4294967297); endmodule
abbrev t22 : List Description
t22 = module_ (at 0 1 1) life.Unwritten (name (at 0 1 8) "t") None [] (procedure (at 0 1 11) procedure_word.Initial (stmts.Statement (at 0 1 19) None (stmts.Call (system (at 0 1 19) "$display" (text (at 0 1 28) "%0d" ∷ number (at 0 1 35) "'d4294967297" ∷ [])))) ∷ []) None ∷ []

t22_seen : seen_in (Listed []) (Listed []) (elaborated t22 [] None) 7 ≡ Ran (record { log = lines ("1" ∷ []); wave = lines ("$timescale 1ns $end" ∷ "$scope module t $end" ∷ "$upscope $end" ∷ "$enddefinitions $end" ∷ "#0" ∷ "$dumpvars" ∷ "$end" ∷ []); outcome = Done; time = 0; steps = 4; race = Some (8, at 0 1 11) })
unfolding symbols_of word_of
t22_seen = refl

-- `timescale 1 ns / 1ps
-- module t; initial #1 ; endmodule
abbrev t23 : List Description
t23 = module_ (at 0 2 1) life.Unwritten (name (at 0 2 8) "t") None [] (procedure (at 0 2 11) procedure_word.Initial (stmts.Statement (at 0 2 19) None (stmts.After (delay (at 0 2 19) (number (at 0 2 20) "1")) (stmts.Statement (at 0 2 22) None stmts.Null))) ∷ []) None ∷ []

t23_seen : seen_in (Listed []) (Listed []) (elaborated t23 (scale 6 3 (at 0 1 1) ∷ []) None) 12 ≡ Ran (record { log = []; wave = lines ("$timescale 1ps $end" ∷ "$scope module t $end" ∷ "$upscope $end" ∷ "$enddefinitions $end" ∷ "#0" ∷ "$dumpvars" ∷ "$end" ∷ []); outcome = Done; time = 1000; steps = 9; race = Some (8, at 0 2 11) })
unfolding symbols_of word_of
t23_seen = refl

-- module t; task w(); endfunction endmodule
abbrev t24 : List Description
t24 = module_ (at 0 1 1) life.Unwritten (name (at 0 1 8) "t") None [] (items.Routine (routine (head (at 0 1 11) life.Unwritten units.Task (name (at 0 1 16) "w") []) [] [] None) ∷ []) None ∷ []

t24_seen : seen_in (Listed []) (Listed []) (elaborated t24 [] None) 5 ≡ Ran (record { log = []; wave = lines ("$timescale 1ns $end" ∷ "$scope module t $end" ∷ "$upscope $end" ∷ "$enddefinitions $end" ∷ "#0" ∷ "$dumpvars" ∷ "$end" ∷ []); outcome = Done; time = 0; steps = 2; race = None })
unfolding symbols_of word_of
t24_seen = refl

-- module t; initial $display("%s", string'("a")); endmodule
abbrev t25 : List Description
t25 = module_ (at 0 1 1) life.Unwritten (name (at 0 1 8) "t") None [] (procedure (at 0 1 11) procedure_word.Initial (stmts.Statement (at 0 1 19) None (stmts.Call (system (at 0 1 19) "$display" (text (at 0 1 28) "%s" ∷ tree.Cast (cast.Text (at 0 1 34)) (text (at 0 1 42) "a") ∷ [])))) ∷ []) None ∷ []

t25_seen : seen_in (Listed []) (Listed []) (elaborated t25 [] None) 7 ≡ Ran (record { log = lines ("a" ∷ []); wave = lines ("$timescale 1ns $end" ∷ "$scope module t $end" ∷ "$upscope $end" ∷ "$enddefinitions $end" ∷ "#0" ∷ "$dumpvars" ∷ "$end" ∷ []); outcome = Done; time = 0; steps = 4; race = Some (8, at 0 1 11) })
unfolding symbols_of word_of
t25_seen = refl

-- module t; function int f(int n); f = n; f = f + 1; endfunction initial $display("%0d", f(6)); endmodule
abbrev t30 : List Description
t30 = module_ (at 0 1 1) life.Unwritten (name (at 0 1 8) "t") None [] (items.Routine (routine (head (at 0 1 11) life.Unwritten (units.Returns.Value (types.Written (types.Atom (at 0 1 20) atom_word.Int sign.Unwritten))) (name (at 0 1 24) "f") (argument None (types.Written (types.Atom (at 0 1 26) atom_word.Int sign.Unwritten)) (name (at 0 1 30) "n") None ∷ [])) [] (stmts.Statement (at 0 1 34) None (blocking (target (at 0 1 34) "f") None (stmts.Value (plain (at 0 1 38) "n"))) ∷ stmts.Statement (at 0 1 41) None (blocking (target (at 0 1 41) "f") None (stmts.Value (tree.Binary binary_word.Plus (at 0 1 47) (plain (at 0 1 45) "f") (number (at 0 1 49) "1")))) ∷ []) None) ∷ procedure (at 0 1 64) procedure_word.Initial (stmts.Statement (at 0 1 72) None (stmts.Call (system (at 0 1 72) "$display" (text (at 0 1 81) "%0d" ∷ tree.Expr.Post (root.Plain (name (at 0 1 88) "f")) (tree.Call (at 0 1 89) (expressions (number (at 0 1 90) "6" ∷ [])) tree.NoSuffix) ∷ [])))) ∷ []) None ∷ []

t30_seen : seen_in (Listed []) (Listed []) (elaborated t30 [] None) 11 ≡ Ran (record { log = lines ("7" ∷ []); wave = lines ("$timescale 1ns $end" ∷ "$scope module t $end" ∷ "$upscope $end" ∷ "$enddefinitions $end" ∷ "#0" ∷ "$dumpvars" ∷ "$end" ∷ []); outcome = Done; time = 0; steps = 8; race = Some (7, at 0 1 24) })
unfolding symbols_of word_of
t30_seen = refl

-- module t; function int f(int n); if (n > 3) f = n; endfunction initial begin $display("%0d", f(4)); $display("%0d", f(0)); end endmodule
abbrev t31 : List Description
t31 = module_ (at 0 1 1) life.Unwritten (name (at 0 1 8) "t") None [] (items.Routine (routine (head (at 0 1 11) life.Unwritten (units.Returns.Value (types.Written (types.Atom (at 0 1 20) atom_word.Int sign.Unwritten))) (name (at 0 1 24) "f") (argument None (types.Written (types.Atom (at 0 1 26) atom_word.Int sign.Unwritten)) (name (at 0 1 30) "n") None ∷ [])) [] (stmts.Statement (at 0 1 34) None (stmts.If (tree.Binary binary_word.Greater (at 0 1 40) (plain (at 0 1 38) "n") (number (at 0 1 42) "3")) (stmts.Statement (at 0 1 45) None (blocking (target (at 0 1 45) "f") None (stmts.Value (plain (at 0 1 49) "n"))))) ∷ []) None) ∷ procedure (at 0 1 64) procedure_word.Initial (stmts.Statement (at 0 1 72) None (stmts.Block None [] (statements (stmts.Statement (at 0 1 78) None (stmts.Call (system (at 0 1 78) "$display" (text (at 0 1 87) "%0d" ∷ tree.Expr.Post (root.Plain (name (at 0 1 94) "f")) (tree.Call (at 0 1 95) (expressions (number (at 0 1 96) "4" ∷ [])) tree.NoSuffix) ∷ []))) ∷ stmts.Statement (at 0 1 101) None (stmts.Call (system (at 0 1 101) "$display" (text (at 0 1 110) "%0d" ∷ tree.Expr.Post (root.Plain (name (at 0 1 117) "f")) (tree.Call (at 0 1 118) (expressions (number (at 0 1 119) "0" ∷ [])) tree.NoSuffix) ∷ []))) ∷ [])) None)) ∷ []) None ∷ []

t31_seen : seen_in (Listed []) (Listed []) (elaborated t31 [] None) 16 ≡ Ran (record { log = lines ("4" ∷ "4" ∷ []); wave = lines ("$timescale 1ns $end" ∷ "$scope module t $end" ∷ "$upscope $end" ∷ "$enddefinitions $end" ∷ "#0" ∷ "$dumpvars" ∷ "$end" ∷ []); outcome = Done; time = 0; steps = 13; race = Some (7, at 0 1 24) })
unfolding symbols_of word_of
t31_seen = refl

-- module t; function automatic int f(int n); if (n > 3) f = n; endfunction initial begin $display("%0d", f(4)); $display("%0d", f(0)); end endmodule
abbrev t32 : List Description
t32 = module_ (at 0 1 1) life.Unwritten (name (at 0 1 8) "t") None [] (items.Routine (routine (head (at 0 1 11) life.Automatic (units.Returns.Value (types.Written (types.Atom (at 0 1 30) atom_word.Int sign.Unwritten))) (name (at 0 1 34) "f") (argument None (types.Written (types.Atom (at 0 1 36) atom_word.Int sign.Unwritten)) (name (at 0 1 40) "n") None ∷ [])) [] (stmts.Statement (at 0 1 44) None (stmts.If (tree.Binary binary_word.Greater (at 0 1 50) (plain (at 0 1 48) "n") (number (at 0 1 52) "3")) (stmts.Statement (at 0 1 55) None (blocking (target (at 0 1 55) "f") None (stmts.Value (plain (at 0 1 59) "n"))))) ∷ []) None) ∷ procedure (at 0 1 74) procedure_word.Initial (stmts.Statement (at 0 1 82) None (stmts.Block None [] (statements (stmts.Statement (at 0 1 88) None (stmts.Call (system (at 0 1 88) "$display" (text (at 0 1 97) "%0d" ∷ tree.Expr.Post (root.Plain (name (at 0 1 104) "f")) (tree.Call (at 0 1 105) (expressions (number (at 0 1 106) "4" ∷ [])) tree.NoSuffix) ∷ []))) ∷ stmts.Statement (at 0 1 111) None (stmts.Call (system (at 0 1 111) "$display" (text (at 0 1 120) "%0d" ∷ tree.Expr.Post (root.Plain (name (at 0 1 127) "f")) (tree.Call (at 0 1 128) (expressions (number (at 0 1 129) "0" ∷ [])) tree.NoSuffix) ∷ []))) ∷ [])) None)) ∷ []) None ∷ []

t32_seen : seen_in (Listed []) (Listed []) (elaborated t32 [] None) 16 ≡ Ran (record { log = lines ("4" ∷ "0" ∷ []); wave = lines ("$timescale 1ns $end" ∷ "$scope module t $end" ∷ "$upscope $end" ∷ "$enddefinitions $end" ∷ "#0" ∷ "$dumpvars" ∷ "$end" ∷ []); outcome = Done; time = 0; steps = 13; race = Some (8, at 0 1 74) })
unfolding symbols_of word_of
t32_seen = refl

-- module t; function int f(int n); int f; f = 3; return n; endfunction initial $display("%0d", f(5)); endmodule
abbrev t33 : List Description
t33 = module_ (at 0 1 1) life.Unwritten (name (at 0 1 8) "t") None [] (items.Routine (routine (head (at 0 1 11) life.Unwritten (units.Returns.Value (types.Written (types.Atom (at 0 1 20) atom_word.Int sign.Unwritten))) (name (at 0 1 24) "f") (argument None (types.Written (types.Atom (at 0 1 26) atom_word.Int sign.Unwritten)) (name (at 0 1 30) "n") None ∷ [])) (decl life.Unwritten (types.Atom (at 0 1 34) atom_word.Int sign.Unwritten) (declarator (name (at 0 1 38) "f") None None ∷ []) ∷ []) (stmts.Statement (at 0 1 41) None (blocking (target (at 0 1 41) "f") None (stmts.Value (number (at 0 1 45) "3"))) ∷ stmts.Statement (at 0 1 48) None (stmts.Return (Some (plain (at 0 1 55) "n"))) ∷ []) None) ∷ procedure (at 0 1 70) procedure_word.Initial (stmts.Statement (at 0 1 78) None (stmts.Call (system (at 0 1 78) "$display" (text (at 0 1 87) "%0d" ∷ tree.Expr.Post (root.Plain (name (at 0 1 94) "f")) (tree.Call (at 0 1 95) (expressions (number (at 0 1 96) "5" ∷ [])) tree.NoSuffix) ∷ [])))) ∷ []) None ∷ []

t33_seen : seen_in (Listed []) (Listed []) (elaborated t33 [] None) 11 ≡ Ran (record { log = lines ("5" ∷ []); wave = lines ("$timescale 1ns $end" ∷ "$scope module t $end" ∷ "$upscope $end" ∷ "$enddefinitions $end" ∷ "#0" ∷ "$dumpvars" ∷ "$end" ∷ []); outcome = Done; time = 0; steps = 8; race = Some (7, at 0 1 24) })
unfolding symbols_of word_of
t33_seen = refl

-- module t; function int f(int n); f = n; endfunction int x, y, u, v; always_comb x = f(u); always_comb y = f(v); initial begin u = 1; v = 2; #1 $display("%0d %0d", x, y); end endmodule
abbrev t34 : List Description
t34 = module_ (at 0 1 1) life.Unwritten (name (at 0 1 8) "t") None [] (items.Routine (routine (head (at 0 1 11) life.Unwritten (units.Returns.Value (types.Written (types.Atom (at 0 1 20) atom_word.Int sign.Unwritten))) (name (at 0 1 24) "f") (argument None (types.Written (types.Atom (at 0 1 26) atom_word.Int sign.Unwritten)) (name (at 0 1 30) "n") None ∷ [])) [] (stmts.Statement (at 0 1 34) None (blocking (target (at 0 1 34) "f") None (stmts.Value (plain (at 0 1 38) "n"))) ∷ []) None) ∷ items.Decl (decl life.Unwritten (types.Atom (at 0 1 53) atom_word.Int sign.Unwritten) (declarator (name (at 0 1 57) "x") None None ∷ declarator (name (at 0 1 60) "y") None None ∷ declarator (name (at 0 1 63) "u") None None ∷ declarator (name (at 0 1 66) "v") None None ∷ [])) ∷ procedure (at 0 1 69) procedure_word.AlwaysComb (stmts.Statement (at 0 1 81) None (blocking (target (at 0 1 81) "x") None (stmts.Value (tree.Expr.Post (root.Plain (name (at 0 1 85) "f")) (tree.Call (at 0 1 86) (expressions (plain (at 0 1 87) "u" ∷ [])) tree.NoSuffix))))) ∷ procedure (at 0 1 91) procedure_word.AlwaysComb (stmts.Statement (at 0 1 103) None (blocking (target (at 0 1 103) "y") None (stmts.Value (tree.Expr.Post (root.Plain (name (at 0 1 107) "f")) (tree.Call (at 0 1 108) (expressions (plain (at 0 1 109) "v" ∷ [])) tree.NoSuffix))))) ∷ procedure (at 0 1 113) procedure_word.Initial (stmts.Statement (at 0 1 121) None (stmts.Block None [] (statements (stmts.Statement (at 0 1 127) None (blocking (target (at 0 1 127) "u") None (stmts.Value (number (at 0 1 131) "1"))) ∷ stmts.Statement (at 0 1 134) None (blocking (target (at 0 1 134) "v") None (stmts.Value (number (at 0 1 138) "2"))) ∷ stmts.Statement (at 0 1 141) None (stmts.After (delay (at 0 1 141) (number (at 0 1 142) "1")) (stmts.Statement (at 0 1 144) None (stmts.Call (system (at 0 1 144) "$display" (text (at 0 1 153) "%0d %0d" ∷ plain (at 0 1 164) "x" ∷ plain (at 0 1 167) "y" ∷ []))))) ∷ [])) None)) ∷ []) None ∷ []

t34_seen : seen_in (Listed []) (Listed []) (elaborated t34 [] None) 25 ≡ Ran (record { log = lines ("1 2" ∷ []); wave = lines ("$timescale 1ns $end" ∷ "$scope module t $end" ∷ "$var reg 32 ! x $end" ∷ "$var reg 32 \" y $end" ∷ "$var reg 32 # u $end" ∷ "$var reg 32 $ v $end" ∷ "$upscope $end" ∷ "$enddefinitions $end" ∷ "#0" ∷ "$dumpvars" ∷ "b1 !" ∷ "b10 \"" ∷ "b1 #" ∷ "b10 $" ∷ "$end" ∷ []); outcome = Done; time = 1; steps = 22; race = Some (7, at 0 1 24) })
unfolding symbols_of word_of
t34_seen = refl

-- module t; string s = "a"; initial $display("%b", s === "a"); endmodule
abbrev t45 : List Description
t45 = module_ (at 0 1 1) life.Unwritten (name (at 0 1 8) "t") None [] (items.Decl (decl life.Unwritten (types.Text (at 0 1 11)) (declarator (name (at 0 1 18) "s") None (Some (stmts.Value (text (at 0 1 22) "a"))) ∷ [])) ∷ procedure (at 0 1 27) procedure_word.Initial (stmts.Statement (at 0 1 35) None (stmts.Call (system (at 0 1 35) "$display" (text (at 0 1 44) "%b" ∷ tree.Binary binary_word.CaseEqual (at 0 1 52) (plain (at 0 1 50) "s") (text (at 0 1 56) "a") ∷ [])))) ∷ []) None ∷ []

t45_seen : seen_in (Listed []) (Listed []) (elaborated t45 [] None) 7 ≡ Ran (record { log = lines ("1" ∷ []); wave = lines ("$timescale 1ns $end" ∷ "$scope module t $end" ∷ "$upscope $end" ∷ "$enddefinitions $end" ∷ "#0" ∷ "$dumpvars" ∷ "$end" ∷ []); outcome = Done; time = 0; steps = 4; race = Some (8, at 0 1 27) })
unfolding symbols_of word_of
t45_seen = refl

-- module t; mailbox m = new(); int v; initial begin m.put(32'd1); m.get(v); end endmodule
abbrev t50 : List Description
t50 = module_ (at 0 1 1) life.Unwritten (name (at 0 1 8) "t") None [] (items.Decl (decl life.Unwritten (types.Mailbox (at 0 1 11)) (declarator (name (at 0 1 19) "m") None (Some (stmts.New (at 0 1 23) (tree.Written tree.NoExpr))) ∷ [])) ∷ items.Decl (decl life.Unwritten (types.Atom (at 0 1 30) atom_word.Int sign.Unwritten) (declarator (name (at 0 1 34) "v") None None ∷ [])) ∷ procedure (at 0 1 37) procedure_word.Initial (stmts.Statement (at 0 1 45) None (stmts.Block None [] (statements (stmts.Statement (at 0 1 51) None (stmts.Call (tree.Expr.Post (root.Plain (name (at 0 1 51) "m")) (tree.Member (name (at 0 1 53) "put") (tree.Call (at 0 1 56) (expressions (number (at 0 1 57) "32'd1" ∷ [])) tree.NoSuffix)))) ∷ stmts.Statement (at 0 1 65) None (stmts.Call (tree.Expr.Post (root.Plain (name (at 0 1 65) "m")) (tree.Member (name (at 0 1 67) "get") (tree.Call (at 0 1 70) (expressions (plain (at 0 1 71) "v" ∷ [])) tree.NoSuffix)))) ∷ [])) None)) ∷ []) None ∷ []

t50_seen : seen_in (Listed []) (Listed []) (elaborated t50 [] None) 8 ≡ Ran (record { log = []; wave = lines ("$timescale 1ns $end" ∷ "$scope module t $end" ∷ "$var reg 32 ! v $end" ∷ "$upscope $end" ∷ "$enddefinitions $end" ∷ []); outcome = Faulted (record { kind = kind.MessageType; at = at 0 1 65; time = 0 }); time = 0; steps = 5; race = Some (10, at 0 1 19) })
unfolding symbols_of word_of
t50_seen = refl

-- class A; virtual function void f(int x); endfunction endclass class B extends A; function void f(int y); endfunction endclass module t;  endmodule
abbrev t52 : List Description
t52 = descriptions.Item (items.Class (class_ (at 0 1 1) false (name (at 0 1 7) "A") None (method (qualifiers false false false true) (routine (head (at 0 1 18) life.Unwritten units.Void (name (at 0 1 32) "f") (argument None (types.Written (types.Atom (at 0 1 34) atom_word.Int sign.Unwritten)) (name (at 0 1 38) "x") None ∷ [])) [] [] None) ∷ []) None)) ∷ descriptions.Item (items.Class (class_ (at 0 1 63) false (name (at 0 1 69) "B") (Some (name (at 0 1 79) "A")) (method unqualified (routine (head (at 0 1 82) life.Unwritten units.Void (name (at 0 1 96) "f") (argument None (types.Written (types.Atom (at 0 1 98) atom_word.Int sign.Unwritten)) (name (at 0 1 102) "y") None ∷ [])) [] [] None) ∷ []) None)) ∷ module_ (at 0 1 127) life.Unwritten (name (at 0 1 134) "t") None [] [] None ∷ []

t52_seen : seen_in (Listed []) (Listed []) (elaborated t52 [] None) 5 ≡ Ran (record { log = []; wave = lines ("$timescale 1ns $end" ∷ "$scope module t $end" ∷ "$upscope $end" ∷ "$enddefinitions $end" ∷ "#0" ∷ "$dumpvars" ∷ "$end" ∷ []); outcome = Done; time = 0; steps = 2; race = None })
unfolding symbols_of word_of
t52_seen = refl

-- module t; initial $dumpvars(0, nosuch); endmodule
abbrev t56 : List Description
t56 = module_ (at 0 1 1) life.Unwritten (name (at 0 1 8) "t") None [] (procedure (at 0 1 11) procedure_word.Initial (stmts.Statement (at 0 1 19) None (stmts.Call (system (at 0 1 19) "$dumpvars" (number (at 0 1 29) "0" ∷ plain (at 0 1 32) "nosuch" ∷ [])))) ∷ []) None ∷ []

t56_seen : seen_in (Listed []) (Listed []) (elaborated t56 [] None) 7 ≡ Ran (record { log = []; wave = lines ("$timescale 1ns $end" ∷ "$scope module t $end" ∷ "$upscope $end" ∷ "$enddefinitions $end" ∷ "#0" ∷ "$dumpvars" ∷ "$end" ∷ []); outcome = Done; time = 0; steps = 4; race = Some (8, at 0 1 11) })
unfolding symbols_of word_of
t56_seen = refl

-- module t; initial a: begin end : a endmodule
abbrev t57 : List Description
t57 = module_ (at 0 1 1) life.Unwritten (name (at 0 1 8) "t") None [] (procedure (at 0 1 11) procedure_word.Initial (stmts.Statement (at 0 1 22) (Some (name (at 0 1 19) "a")) (stmts.Block None [] stmts.NoStmt (Some (name (at 0 1 34) "a")))) ∷ []) None ∷ []

t57_seen : seen_in (Listed []) (Listed []) (elaborated t57 [] None) 7 ≡ Ran (record { log = []; wave = lines ("$timescale 1ns $end" ∷ "$scope module t $end" ∷ "$upscope $end" ∷ "$enddefinitions $end" ∷ "#0" ∷ "$dumpvars" ∷ "$end" ∷ []); outcome = Done; time = 0; steps = 4; race = Some (8, at 0 1 11) })
unfolding symbols_of word_of
t57_seen = refl

-- module t; function automatic int f(int a, b); return a + b; endfunction initial $display("%0d", f(1, 6)); endmodule
abbrev t58 : List Description
t58 = module_ (at 0 1 1) life.Unwritten (name (at 0 1 8) "t") None [] (items.Routine (routine (head (at 0 1 11) life.Automatic (units.Returns.Value (types.Written (types.Atom (at 0 1 30) atom_word.Int sign.Unwritten))) (name (at 0 1 34) "f") (argument None (types.Written (types.Atom (at 0 1 36) atom_word.Int sign.Unwritten)) (name (at 0 1 40) "a") None ∷ argument None types.Unwritten (name (at 0 1 43) "b") None ∷ [])) [] (stmts.Statement (at 0 1 47) None (stmts.Return (Some (tree.Binary binary_word.Plus (at 0 1 56) (plain (at 0 1 54) "a") (plain (at 0 1 58) "b")))) ∷ []) None) ∷ procedure (at 0 1 73) procedure_word.Initial (stmts.Statement (at 0 1 81) None (stmts.Call (system (at 0 1 81) "$display" (text (at 0 1 90) "%0d" ∷ tree.Expr.Post (root.Plain (name (at 0 1 97) "f")) (tree.Call (at 0 1 98) (expressions (number (at 0 1 99) "1" ∷ number (at 0 1 102) "6" ∷ [])) tree.NoSuffix) ∷ [])))) ∷ []) None ∷ []

t58_seen : seen_in (Listed []) (Listed []) (elaborated t58 [] None) 10 ≡ Ran (record { log = lines ("7" ∷ []); wave = lines ("$timescale 1ns $end" ∷ "$scope module t $end" ∷ "$upscope $end" ∷ "$enddefinitions $end" ∷ "#0" ∷ "$dumpvars" ∷ "$end" ∷ []); outcome = Done; time = 0; steps = 7; race = Some (8, at 0 1 73) })
unfolding symbols_of word_of
t58_seen = refl

-- `timescale 10ns/1ns
-- module t; initial #(15ns) ; endmodule
abbrev t60 : List Description
t60 = module_ (at 0 2 1) life.Unwritten (name (at 0 2 8) "t") None [] (procedure (at 0 2 11) procedure_word.Initial (stmts.Statement (at 0 2 19) None (stmts.After (delay (at 0 2 19) (tree.Group (at 0 2 20) (tree.Time (at 0 2 21) (codes "15ns")))) (stmts.Statement (at 0 2 27) None stmts.Null))) ∷ []) None ∷ []

t60_seen : seen_in (Listed []) (Listed []) (elaborated t60 (scale 7 6 (at 0 1 1) ∷ []) None) 12 ≡ Ran (record { log = []; wave = lines ("$timescale 1ns $end" ∷ "$scope module t $end" ∷ "$upscope $end" ∷ "$enddefinitions $end" ∷ "#0" ∷ "$dumpvars" ∷ "$end" ∷ []); outcome = Done; time = 20; steps = 9; race = Some (8, at 0 2 11) })
unfolding symbols_of word_of
t60_seen = refl

-- module t; int q[$]; initial begin q.push_back(1); q.push_back(2); foreach (q[i]) begin $display("%0d", i); i = 5; end end endmodule
abbrev t62 : List Description
t62 = module_ (at 0 1 1) life.Unwritten (name (at 0 1 8) "t") None [] (items.Decl (decl life.Unwritten (types.Atom (at 0 1 11) atom_word.Int sign.Unwritten) (declarator (name (at 0 1 15) "q") (Some (stmts.Queue (at 0 1 16))) None ∷ [])) ∷ procedure (at 0 1 21) procedure_word.Initial (stmts.Statement (at 0 1 29) None (stmts.Block None [] (statements (stmts.Statement (at 0 1 35) None (stmts.Call (tree.Expr.Post (root.Plain (name (at 0 1 35) "q")) (tree.Member (name (at 0 1 37) "push_back") (tree.Call (at 0 1 46) (expressions (number (at 0 1 47) "1" ∷ [])) tree.NoSuffix)))) ∷ stmts.Statement (at 0 1 51) None (stmts.Call (tree.Expr.Post (root.Plain (name (at 0 1 51) "q")) (tree.Member (name (at 0 1 53) "push_back") (tree.Call (at 0 1 62) (expressions (number (at 0 1 63) "2" ∷ [])) tree.NoSuffix)))) ∷ stmts.Statement (at 0 1 67) None (stmts.Foreach (name (at 0 1 76) "q") (name (at 0 1 78) "i") (stmts.Statement (at 0 1 82) None (stmts.Block None [] (statements (stmts.Statement (at 0 1 88) None (stmts.Call (system (at 0 1 88) "$display" (text (at 0 1 97) "%0d" ∷ plain (at 0 1 104) "i" ∷ []))) ∷ stmts.Statement (at 0 1 108) None (blocking (target (at 0 1 108) "i") None (stmts.Value (number (at 0 1 112) "5"))) ∷ [])) None))) ∷ [])) None)) ∷ []) None ∷ []

t62_seen : seen_in (Listed []) (Listed []) (elaborated t62 [] None) 18 ≡ Ran (record { log = lines ("0" ∷ "1" ∷ []); wave = lines ("$timescale 1ns $end" ∷ "$scope module t $end" ∷ "$upscope $end" ∷ "$enddefinitions $end" ∷ "#0" ∷ "$dumpvars" ∷ "$end" ∷ []); outcome = Done; time = 0; steps = 15; race = Some (10, at 0 1 15) })
unfolding symbols_of word_of
t62_seen = refl

-- module t; function logic [A:0] g(); enum {A = 3} e; return 5; endfunction initial $display("%0d", g()); endmodule
abbrev t67 : List Description
t67 = module_ (at 0 1 1) life.Unwritten (name (at 0 1 8) "t") None [] (items.Routine (routine (head (at 0 1 11) life.Unwritten (units.Returns.Value (types.Written (types.WrittenType.Vector (at 0 1 20) vector_word.Logic sign.Unwritten (Some (range (at 0 1 26) (plain (at 0 1 27) "A") (number (at 0 1 29) "0")))))) (name (at 0 1 32) "g") []) (decl life.Unwritten (types.Enum (at 0 1 37) (enum_item (name (at 0 1 43) "A") (Some (number (at 0 1 47) "3")) ∷ [])) (declarator (name (at 0 1 50) "e") None None ∷ []) ∷ []) (stmts.Statement (at 0 1 53) None (stmts.Return (Some (number (at 0 1 60) "5"))) ∷ []) None) ∷ procedure (at 0 1 75) procedure_word.Initial (stmts.Statement (at 0 1 83) None (stmts.Call (system (at 0 1 83) "$display" (text (at 0 1 92) "%0d" ∷ tree.Expr.Post (root.Plain (name (at 0 1 99) "g")) (tree.Call (at 0 1 100) tree.NoExpr tree.NoSuffix) ∷ [])))) ∷ []) None ∷ []

t67_seen : seen_in (Listed []) (Listed []) (elaborated t67 [] None) 10 ≡ Ran (record { log = lines ("5" ∷ []); wave = lines ("$timescale 1ns $end" ∷ "$scope module t $end" ∷ "$upscope $end" ∷ "$enddefinitions $end" ∷ "#0" ∷ "$dumpvars" ∷ "$end" ∷ []); outcome = Done; time = 0; steps = 7; race = Some (7, at 0 1 32) })
unfolding symbols_of word_of
t67_seen = refl

-- module t; function automatic int f(); $display("run"); return 1; endfunction initial $display("%0d", $bits(f())); endmodule
abbrev t70 : List Description
t70 = module_ (at 0 1 1) life.Unwritten (name (at 0 1 8) "t") None [] (items.Routine (routine (head (at 0 1 11) life.Automatic (units.Returns.Value (types.Written (types.Atom (at 0 1 30) atom_word.Int sign.Unwritten))) (name (at 0 1 34) "f") []) [] (stmts.Statement (at 0 1 39) None (stmts.Call (system (at 0 1 39) "$display" (text (at 0 1 48) "run" ∷ []))) ∷ stmts.Statement (at 0 1 56) None (stmts.Return (Some (number (at 0 1 63) "1"))) ∷ []) None) ∷ procedure (at 0 1 78) procedure_word.Initial (stmts.Statement (at 0 1 86) None (stmts.Call (system (at 0 1 86) "$display" (text (at 0 1 95) "%0d" ∷ system (at 0 1 102) "$bits" (tree.Expr.Post (root.Plain (name (at 0 1 108) "f")) (tree.Call (at 0 1 109) tree.NoExpr tree.NoSuffix) ∷ []) ∷ [])))) ∷ []) None ∷ []

t70_seen : seen_in (Listed []) (Listed []) (elaborated t70 [] None) 11 ≡ Ran (record { log = lines ("run" ∷ "32" ∷ []); wave = lines ("$timescale 1ns $end" ∷ "$scope module t $end" ∷ "$upscope $end" ∷ "$enddefinitions $end" ∷ "#0" ∷ "$dumpvars" ∷ "$end" ∷ []); outcome = Done; time = 0; steps = 8; race = Some (8, at 0 1 78) })
unfolding symbols_of word_of
t70_seen = refl

-- module t; initial begin automatic int a[2]; a[1] = 3; $display("%0d", a[1]); end endmodule
abbrev t71 : List Description
t71 = module_ (at 0 1 1) life.Unwritten (name (at 0 1 8) "t") None [] (procedure (at 0 1 11) procedure_word.Initial (stmts.Statement (at 0 1 19) None (stmts.Block None (decl life.Automatic (types.Atom (at 0 1 35) atom_word.Int sign.Unwritten) (declarator (name (at 0 1 39) "a") (Some (stmts.Size (at 0 1 40) (number (at 0 1 41) "2"))) None ∷ []) ∷ []) (statements (stmts.Statement (at 0 1 45) None (blocking (tree.Lval.Post (root.Plain (name (at 0 1 45) "a")) (tree.Select (at 0 1 46) (number (at 0 1 47) "1") tree.NoSuffix)) None (stmts.Value (number (at 0 1 52) "3"))) ∷ stmts.Statement (at 0 1 55) None (stmts.Call (system (at 0 1 55) "$display" (text (at 0 1 64) "%0d" ∷ tree.Expr.Post (root.Plain (name (at 0 1 71) "a")) (tree.Select (at 0 1 72) (number (at 0 1 73) "1") tree.NoSuffix) ∷ []))) ∷ [])) None)) ∷ []) None ∷ []

t71_seen : seen_in (Listed []) (Listed []) (elaborated t71 [] None) 9 ≡ Ran (record { log = lines ("3" ∷ []); wave = lines ("$timescale 1ns $end" ∷ "$scope module t $end" ∷ "$upscope $end" ∷ "$enddefinitions $end" ∷ "#0" ∷ "$dumpvars" ∷ "$end" ∷ []); outcome = Done; time = 0; steps = 6; race = Some (8, at 0 1 11) })
unfolding symbols_of word_of
t71_seen = refl

-- module t; automatic int x = 4; initial $display("%0d", x); endmodule
abbrev t73 : List Description
t73 = module_ (at 0 1 1) life.Unwritten (name (at 0 1 8) "t") None [] (items.Decl (decl life.Automatic (types.Atom (at 0 1 21) atom_word.Int sign.Unwritten) (declarator (name (at 0 1 25) "x") None (Some (stmts.Value (number (at 0 1 29) "4"))) ∷ [])) ∷ procedure (at 0 1 32) procedure_word.Initial (stmts.Statement (at 0 1 40) None (stmts.Call (system (at 0 1 40) "$display" (text (at 0 1 49) "%0d" ∷ plain (at 0 1 56) "x" ∷ [])))) ∷ []) None ∷ []

t73_seen : seen_in (Listed []) (Listed []) (elaborated t73 [] None) 7 ≡ Ran (record { log = lines ("4" ∷ []); wave = lines ("$timescale 1ns $end" ∷ "$scope module t $end" ∷ "$var reg 32 ! x $end" ∷ "$upscope $end" ∷ "$enddefinitions $end" ∷ "#0" ∷ "$dumpvars" ∷ "b100 !" ∷ "$end" ∷ []); outcome = Done; time = 0; steps = 4; race = Some (8, at 0 1 32) })
unfolding symbols_of word_of
t73_seen = refl

-- module t; initial for (int i = 0; i < 3; i++) begin int k; k = k + 1; $display("%0d", k); end endmodule
abbrev t75 : List Description
t75 = module_ (at 0 1 1) life.Unwritten (name (at 0 1 8) "t") None [] (procedure (at 0 1 11) procedure_word.Initial (stmts.Statement (at 0 1 19) None (stmts.For (stmts.Declare (types.Atom (at 0 1 24) atom_word.Int sign.Unwritten) (name (at 0 1 28) "i") (number (at 0 1 32) "0")) (tree.Binary binary_word.Less (at 0 1 37) (plain (at 0 1 35) "i") (number (at 0 1 39) "3")) (stmts.ForStep.Step (at 0 1 42) (target (at 0 1 42) "i") step_word.Increment) (stmts.Statement (at 0 1 47) None (stmts.Block None (decl life.Unwritten (types.Atom (at 0 1 53) atom_word.Int sign.Unwritten) (declarator (name (at 0 1 57) "k") None None ∷ []) ∷ []) (statements (stmts.Statement (at 0 1 60) None (blocking (target (at 0 1 60) "k") None (stmts.Value (tree.Binary binary_word.Plus (at 0 1 66) (plain (at 0 1 64) "k") (number (at 0 1 68) "1")))) ∷ stmts.Statement (at 0 1 71) None (stmts.Call (system (at 0 1 71) "$display" (text (at 0 1 80) "%0d" ∷ plain (at 0 1 87) "k" ∷ []))) ∷ [])) None)))) ∷ []) None ∷ []

t75_seen : seen_in (Listed []) (Listed []) (elaborated t75 [] None) 24 ≡ Ran (record { log = lines ("1" ∷ "2" ∷ "3" ∷ []); wave = lines ("$timescale 1ns $end" ∷ "$scope module t $end" ∷ "$upscope $end" ∷ "$enddefinitions $end" ∷ "#0" ∷ "$dumpvars" ∷ "$end" ∷ []); outcome = Done; time = 0; steps = 21; race = Some (8, at 0 1 11) })
unfolding symbols_of word_of
t75_seen = refl

-- class C; int x; endclass module t; C h; logic a = 0; initial @(a or h.x) $display("w"); initial #1 a = 1; endmodule
abbrev t80 : List Description
t80 = descriptions.Item (items.Class (class_ (at 0 1 1) false (name (at 0 1 7) "C") None (property unqualified (decl life.Unwritten (types.Atom (at 0 1 10) atom_word.Int sign.Unwritten) (declarator (name (at 0 1 14) "x") None None ∷ [])) ∷ []) None)) ∷ module_ (at 0 1 26) life.Unwritten (name (at 0 1 33) "t") None [] (items.Decl (decl life.Unwritten (types.Named (name (at 0 1 36) "C")) (declarator (name (at 0 1 38) "h") None None ∷ [])) ∷ items.Decl (decl life.Unwritten (types.WrittenType.Vector (at 0 1 41) vector_word.Logic sign.Unwritten None) (declarator (name (at 0 1 47) "a") None (Some (stmts.Value (number (at 0 1 51) "0"))) ∷ [])) ∷ procedure (at 0 1 54) procedure_word.Initial (stmts.Statement (at 0 1 62) None (stmts.On (stmts.Parts (event_part edge.Unwritten (plain (at 0 1 64) "a") None ∷ event_part edge.Unwritten (tree.Expr.Post (root.Plain (name (at 0 1 69) "h")) (tree.Member (name (at 0 1 71) "x") tree.NoSuffix)) None ∷ [])) (stmts.Statement (at 0 1 74) None (stmts.Call (system (at 0 1 74) "$display" (text (at 0 1 83) "w" ∷ [])))))) ∷ procedure (at 0 1 89) procedure_word.Initial (stmts.Statement (at 0 1 97) None (stmts.After (delay (at 0 1 97) (number (at 0 1 98) "1")) (stmts.Statement (at 0 1 100) None (blocking (target (at 0 1 100) "a") None (stmts.Value (number (at 0 1 104) "1")))))) ∷ []) None ∷ []

t80_seen : seen_in (Listed []) (Listed []) (elaborated t80 [] None) 16 ≡ Ran (record { log = lines ("w" ∷ []); wave = lines ("$timescale 1ns $end" ∷ "$scope module t $end" ∷ "$var reg 1 ! a $end" ∷ "$upscope $end" ∷ "$enddefinitions $end" ∷ "#0" ∷ "$dumpvars" ∷ "0!" ∷ "$end" ∷ "#1" ∷ "1!" ∷ []); outcome = Done; time = 1; steps = 13; race = Some (10, at 0 1 38) })
unfolding symbols_of word_of
t80_seen = refl

-- module t; initial $display("%0d %b", {1, 4'd2}, {'1, 1'b0}); endmodule
abbrev t83 : List Description
t83 = module_ (at 0 1 1) life.Unwritten (name (at 0 1 8) "t") None [] (procedure (at 0 1 11) procedure_word.Initial (stmts.Statement (at 0 1 19) None (stmts.Call (system (at 0 1 19) "$display" (text (at 0 1 28) "%0d %b" ∷ tree.Expr.Join (at 0 1 38) (expressions (number (at 0 1 39) "1" ∷ number (at 0 1 42) "4'd2" ∷ [])) ∷ tree.Expr.Join (at 0 1 49) (expressions (number (at 0 1 50) "'1" ∷ number (at 0 1 54) "1'b0" ∷ [])) ∷ [])))) ∷ []) None ∷ []

t83_seen : seen_in (Listed []) (Listed []) (elaborated t83 [] None) 7 ≡ Ran (record { log = lines ("18 10" ∷ []); wave = lines ("$timescale 1ns $end" ∷ "$scope module t $end" ∷ "$upscope $end" ∷ "$enddefinitions $end" ∷ "#0" ∷ "$dumpvars" ∷ "$end" ∷ []); outcome = Done; time = 0; steps = 4; race = Some (8, at 0 1 11) })
unfolding symbols_of word_of
t83_seen = refl

-- module t; function [7:0] f(); return 8'h9a; endfunction initial $display("%h", f()[7:4]); endmodule
abbrev t84 : List Description
t84 = module_ (at 0 1 1) life.Unwritten (name (at 0 1 8) "t") None [] (items.Routine (routine (head (at 0 1 11) life.Unwritten (units.Returns.Value (types.ImpliedType.Vector (at 0 1 20) sign.Unwritten (Some (range (at 0 1 20) (number (at 0 1 21) "7") (number (at 0 1 23) "0"))))) (name (at 0 1 26) "f") []) [] (stmts.Statement (at 0 1 31) None (stmts.Return (Some (number (at 0 1 38) "8'h9a"))) ∷ []) None) ∷ procedure (at 0 1 57) procedure_word.Initial (stmts.Statement (at 0 1 65) None (stmts.Call (system (at 0 1 65) "$display" (text (at 0 1 74) "%h" ∷ tree.Expr.Post (root.Plain (name (at 0 1 80) "f")) (tree.Call (at 0 1 81) tree.NoExpr (tree.Part (at 0 1 83) part_word.Fixed (number (at 0 1 84) "7") (number (at 0 1 86) "4") tree.NoSuffix)) ∷ [])))) ∷ []) None ∷ []

t84_seen : seen_in (Listed []) (Listed []) (elaborated t84 [] None) 10 ≡ Ran (record { log = lines ("9" ∷ []); wave = lines ("$timescale 1ns $end" ∷ "$scope module t $end" ∷ "$upscope $end" ∷ "$enddefinitions $end" ∷ "#0" ∷ "$dumpvars" ∷ "$end" ∷ []); outcome = Done; time = 0; steps = 7; race = Some (7, at 0 1 26) })
unfolding symbols_of word_of
t84_seen = refl

-- module t; initial $display("%b", +4'b10xz); endmodule
abbrev t86 : List Description
t86 = module_ (at 0 1 1) life.Unwritten (name (at 0 1 8) "t") None [] (procedure (at 0 1 11) procedure_word.Initial (stmts.Statement (at 0 1 19) None (stmts.Call (system (at 0 1 19) "$display" (text (at 0 1 28) "%b" ∷ tree.Unary (at 0 1 34) unary_word.Plus (number (at 0 1 35) "4'b10xz") ∷ [])))) ∷ []) None ∷ []

t86_seen : seen_in (Listed []) (Listed []) (elaborated t86 [] None) 7 ≡ Ran (record { log = lines ("xxxx" ∷ []); wave = lines ("$timescale 1ns $end" ∷ "$scope module t $end" ∷ "$upscope $end" ∷ "$enddefinitions $end" ∷ "#0" ∷ "$dumpvars" ∷ "$end" ∷ []); outcome = Done; time = 0; steps = 4; race = Some (8, at 0 1 11) })
unfolding symbols_of word_of
t86_seen = refl

-- `timescale 1us/1ns
-- module t; initial $display("%0t", 64'hffffffffffffffff); endmodule
abbrev t88 : List Description
t88 = module_ (at 0 2 1) life.Unwritten (name (at 0 2 8) "t") None [] (procedure (at 0 2 11) procedure_word.Initial (stmts.Statement (at 0 2 19) None (stmts.Call (system (at 0 2 19) "$display" (text (at 0 2 28) "%0t" ∷ number (at 0 2 35) "64'hffffffffffffffff" ∷ [])))) ∷ []) None ∷ []

t88_seen : seen_in (Listed []) (Listed []) (elaborated t88 (scale 9 6 (at 0 1 1) ∷ []) None) 7 ≡ Ran (record { log = lines ("18446744073709551615000" ∷ []); wave = lines ("$timescale 1ns $end" ∷ "$scope module t $end" ∷ "$upscope $end" ∷ "$enddefinitions $end" ∷ "#0" ∷ "$dumpvars" ∷ "$end" ∷ []); outcome = Done; time = 0; steps = 4; race = Some (8, at 0 2 11) })
unfolding symbols_of word_of
t88_seen = refl

-- module t; int a[3:1]; initial foreach (a[i]) $display("%0d", i); endmodule
abbrev t89 : List Description
t89 = module_ (at 0 1 1) life.Unwritten (name (at 0 1 8) "t") None [] (items.Decl (decl life.Unwritten (types.Atom (at 0 1 11) atom_word.Int sign.Unwritten) (declarator (name (at 0 1 15) "a") (Some (stmts.Bounds (range (at 0 1 16) (number (at 0 1 17) "3") (number (at 0 1 19) "1")))) None ∷ [])) ∷ procedure (at 0 1 23) procedure_word.Initial (stmts.Statement (at 0 1 31) None (stmts.Foreach (name (at 0 1 40) "a") (name (at 0 1 42) "i") (stmts.Statement (at 0 1 46) None (stmts.Call (system (at 0 1 46) "$display" (text (at 0 1 55) "%0d" ∷ plain (at 0 1 62) "i" ∷ [])))))) ∷ []) None ∷ []

t89_seen : seen_in (Listed []) (Listed []) (elaborated t89 [] None) 13 ≡ Ran (record { log = lines ("3" ∷ "2" ∷ "1" ∷ []); wave = lines ("$timescale 1ns $end" ∷ "$scope module t $end" ∷ "$upscope $end" ∷ "$enddefinitions $end" ∷ "#0" ∷ "$dumpvars" ∷ "$end" ∷ []); outcome = Done; time = 0; steps = 10; race = Some (8, at 0 1 23) })
unfolding symbols_of word_of
t89_seen = refl

-- module t; initial begin $monitor("%0d", $time + 1); #1 ; #1 ; end endmodule
abbrev t90 : List Description
t90 = module_ (at 0 1 1) life.Unwritten (name (at 0 1 8) "t") None [] (procedure (at 0 1 11) procedure_word.Initial (stmts.Statement (at 0 1 19) None (stmts.Block None [] (statements (stmts.Statement (at 0 1 25) None (stmts.Call (system (at 0 1 25) "$monitor" (text (at 0 1 34) "%0d" ∷ tree.Binary binary_word.Plus (at 0 1 47) (tree.System (name (at 0 1 41) "$time") tree.Unwritten) (number (at 0 1 49) "1") ∷ []))) ∷ stmts.Statement (at 0 1 53) None (stmts.After (delay (at 0 1 53) (number (at 0 1 54) "1")) (stmts.Statement (at 0 1 56) None stmts.Null)) ∷ stmts.Statement (at 0 1 58) None (stmts.After (delay (at 0 1 58) (number (at 0 1 59) "1")) (stmts.Statement (at 0 1 61) None stmts.Null)) ∷ [])) None)) ∷ []) None ∷ []

t90_seen : seen_in (Listed []) (Listed []) (elaborated t90 [] None) 20 ≡ Ran (record { log = lines ("1" ∷ "2" ∷ "3" ∷ []); wave = lines ("$timescale 1ns $end" ∷ "$scope module t $end" ∷ "$upscope $end" ∷ "$enddefinitions $end" ∷ "#0" ∷ "$dumpvars" ∷ "$end" ∷ []); outcome = Done; time = 2; steps = 17; race = Some (8, at 0 1 11) })
unfolding symbols_of word_of
t90_seen = refl

-- module t; logic [1:0] a; logic b, c; always_comb begin a[0] = c; b = a[1]; end initial begin c = 0; #1 $display("%b", b); end endmodule
abbrev t91 : List Description
t91 = module_ (at 0 1 1) life.Unwritten (name (at 0 1 8) "t") None [] (items.Decl (decl life.Unwritten (types.WrittenType.Vector (at 0 1 11) vector_word.Logic sign.Unwritten (Some (range (at 0 1 17) (number (at 0 1 18) "1") (number (at 0 1 20) "0")))) (declarator (name (at 0 1 23) "a") None None ∷ [])) ∷ items.Decl (decl life.Unwritten (types.WrittenType.Vector (at 0 1 26) vector_word.Logic sign.Unwritten None) (declarator (name (at 0 1 32) "b") None None ∷ declarator (name (at 0 1 35) "c") None None ∷ [])) ∷ procedure (at 0 1 38) procedure_word.AlwaysComb (stmts.Statement (at 0 1 50) None (stmts.Block None [] (statements (stmts.Statement (at 0 1 56) None (blocking (tree.Lval.Post (root.Plain (name (at 0 1 56) "a")) (tree.Select (at 0 1 57) (number (at 0 1 58) "0") tree.NoSuffix)) None (stmts.Value (plain (at 0 1 63) "c"))) ∷ stmts.Statement (at 0 1 66) None (blocking (target (at 0 1 66) "b") None (stmts.Value (tree.Expr.Post (root.Plain (name (at 0 1 70) "a")) (tree.Select (at 0 1 71) (number (at 0 1 72) "1") tree.NoSuffix)))) ∷ [])) None)) ∷ procedure (at 0 1 80) procedure_word.Initial (stmts.Statement (at 0 1 88) None (stmts.Block None [] (statements (stmts.Statement (at 0 1 94) None (blocking (target (at 0 1 94) "c") None (stmts.Value (number (at 0 1 98) "0"))) ∷ stmts.Statement (at 0 1 101) None (stmts.After (delay (at 0 1 101) (number (at 0 1 102) "1")) (stmts.Statement (at 0 1 104) None (stmts.Call (system (at 0 1 104) "$display" (text (at 0 1 113) "%b" ∷ plain (at 0 1 119) "b" ∷ []))))) ∷ [])) None)) ∷ []) None ∷ []

t91_seen : seen_in (Listed []) (Listed []) (elaborated t91 [] None) 18 ≡ Ran (record { log = lines ("x" ∷ []); wave = lines ("$timescale 1ns $end" ∷ "$scope module t $end" ∷ "$var reg 2 ! a [1:0] $end" ∷ "$var reg 1 \" b $end" ∷ "$var reg 1 # c $end" ∷ "$upscope $end" ∷ "$enddefinitions $end" ∷ "#0" ∷ "$dumpvars" ∷ "bx0 !" ∷ "x\"" ∷ "0#" ∷ "$end" ∷ []); outcome = Done; time = 1; steps = 15; race = Some (5, at 0 1 38) })
unfolding symbols_of word_of
t91_seen = refl

-- class C; static int s = 2; endclass module t; C h; initial $display("%0d", h.s); endmodule
abbrev t92 : List Description
t92 = descriptions.Item (items.Class (class_ (at 0 1 1) false (name (at 0 1 7) "C") None (property (qualifiers false false true false) (decl life.Unwritten (types.Atom (at 0 1 17) atom_word.Int sign.Unwritten) (declarator (name (at 0 1 21) "s") None (Some (stmts.Value (number (at 0 1 25) "2"))) ∷ [])) ∷ []) None)) ∷ module_ (at 0 1 37) life.Unwritten (name (at 0 1 44) "t") None [] (items.Decl (decl life.Unwritten (types.Named (name (at 0 1 47) "C")) (declarator (name (at 0 1 49) "h") None None ∷ [])) ∷ procedure (at 0 1 52) procedure_word.Initial (stmts.Statement (at 0 1 60) None (stmts.Call (system (at 0 1 60) "$display" (text (at 0 1 69) "%0d" ∷ tree.Expr.Post (root.Plain (name (at 0 1 76) "h")) (tree.Member (name (at 0 1 78) "s") tree.NoSuffix) ∷ [])))) ∷ []) None ∷ []

t92_seen : seen_in (Listed []) (Listed []) (elaborated t92 [] None) 6 ≡ Ran (record { log = []; wave = lines ("$timescale 1ns $end" ∷ "$scope module t $end" ∷ "$upscope $end" ∷ "$enddefinitions $end" ∷ []); outcome = Faulted (record { kind = kind.Null; at = at 0 1 60; time = 0 }); time = 0; steps = 3; race = Some (10, at 0 1 49) })
unfolding symbols_of word_of
t92_seen = refl

-- module t; initial ; endmodule
abbrev t93 : List Description
t93 = module_ (at 0 1 1) life.Unwritten (name (at 0 1 8) "t") None [] (procedure (at 0 1 11) procedure_word.Initial (stmts.Statement (at 0 1 19) None stmts.Null) ∷ []) None ∷ []

t93_seen : seen_in (Listed []) (Listed []) (elaborated t93 [] None) 7 ≡ Ran (record { log = []; wave = lines ("$timescale 1ns $end" ∷ "$scope module t $end" ∷ "$upscope $end" ∷ "$enddefinitions $end" ∷ "#0" ∷ "$dumpvars" ∷ "$end" ∷ []); outcome = Done; time = 0; steps = 4; race = Some (8, at 0 1 11) })
unfolding symbols_of word_of
t93_seen = refl

-- module t; byte a = 100; initial $display("%0d %0d", int'(a + a), int'('1)); endmodule
abbrev t94 : List Description
t94 = module_ (at 0 1 1) life.Unwritten (name (at 0 1 8) "t") None [] (items.Decl (decl life.Unwritten (types.Atom (at 0 1 11) atom_word.Byte sign.Unwritten) (declarator (name (at 0 1 16) "a") None (Some (stmts.Value (number (at 0 1 20) "100"))) ∷ [])) ∷ procedure (at 0 1 25) procedure_word.Initial (stmts.Statement (at 0 1 33) None (stmts.Call (system (at 0 1 33) "$display" (text (at 0 1 42) "%0d %0d" ∷ tree.Cast (cast.Atom (at 0 1 53) atom_word.Int) (tree.Binary binary_word.Plus (at 0 1 60) (plain (at 0 1 58) "a") (plain (at 0 1 62) "a")) ∷ tree.Cast (cast.Atom (at 0 1 66) atom_word.Int) (number (at 0 1 71) "'1") ∷ [])))) ∷ []) None ∷ []

t94_seen : seen_in (Listed []) (Listed []) (elaborated t94 [] None) 7 ≡ Ran (record { log = lines ("200 -1" ∷ []); wave = lines ("$timescale 1ns $end" ∷ "$scope module t $end" ∷ "$var reg 8 ! a $end" ∷ "$upscope $end" ∷ "$enddefinitions $end" ∷ "#0" ∷ "$dumpvars" ∷ "b1100100 !" ∷ "$end" ∷ []); outcome = Done; time = 0; steps = 4; race = Some (8, at 0 1 25) })
unfolding symbols_of word_of
t94_seen = refl

-- module t; logic [7:0] u = 200; logic signed [3:0] s = -1; initial $display("%0d %0d %0d %0d", 9'(u + u), 4'(u), 8'(s), 9'(s + 4'b0)); endmodule
abbrev t95 : List Description
t95 = module_ (at 0 1 1) life.Unwritten (name (at 0 1 8) "t") None [] (items.Decl (decl life.Unwritten (types.WrittenType.Vector (at 0 1 11) vector_word.Logic sign.Unwritten (Some (range (at 0 1 17) (number (at 0 1 18) "7") (number (at 0 1 20) "0")))) (declarator (name (at 0 1 23) "u") None (Some (stmts.Value (number (at 0 1 27) "200"))) ∷ [])) ∷ items.Decl (decl life.Unwritten (types.WrittenType.Vector (at 0 1 32) vector_word.Logic sign.Signed (Some (range (at 0 1 45) (number (at 0 1 46) "3") (number (at 0 1 48) "0")))) (declarator (name (at 0 1 51) "s") None (Some (stmts.Value (tree.Unary (at 0 1 55) unary_word.Minus (number (at 0 1 56) "1")))) ∷ [])) ∷ procedure (at 0 1 59) procedure_word.Initial (stmts.Statement (at 0 1 67) None (stmts.Call (system (at 0 1 67) "$display" (text (at 0 1 76) "%0d %0d %0d %0d" ∷ tree.Cast (cast.Width (at 0 1 95) (codes "9")) (tree.Binary binary_word.Plus (at 0 1 100) (plain (at 0 1 98) "u") (plain (at 0 1 102) "u")) ∷ tree.Cast (cast.Width (at 0 1 106) (codes "4")) (plain (at 0 1 109) "u") ∷ tree.Cast (cast.Width (at 0 1 113) (codes "8")) (plain (at 0 1 116) "s") ∷ tree.Cast (cast.Width (at 0 1 120) (codes "9")) (tree.Binary binary_word.Plus (at 0 1 125) (plain (at 0 1 123) "s") (number (at 0 1 127) "4'b0")) ∷ [])))) ∷ []) None ∷ []

t95_seen : seen_in (Listed []) (Listed []) (elaborated t95 [] None) 7 ≡ Ran (record { log = lines ("400 8 -1 15" ∷ []); wave = lines ("$timescale 1ns $end" ∷ "$scope module t $end" ∷ "$var reg 8 ! u [7:0] $end" ∷ "$var reg 4 \" s [3:0] $end" ∷ "$upscope $end" ∷ "$enddefinitions $end" ∷ "#0" ∷ "$dumpvars" ∷ "b11001000 !" ∷ "b1111 \"" ∷ "$end" ∷ []); outcome = Done; time = 0; steps = 4; race = Some (8, at 0 1 59) })
unfolding symbols_of word_of
t95_seen = refl

-- class C; int x; event e; endclass module t; C h; initial @(h.x) $display("a"); initial @(h.e) $display("b"); initial begin #1 h = new; #1 h.x = 3; ->h.e; end endmodule
abbrev t96 : List Description
t96 = descriptions.Item (items.Class (class_ (at 0 1 1) false (name (at 0 1 7) "C") None (property unqualified (decl life.Unwritten (types.Atom (at 0 1 10) atom_word.Int sign.Unwritten) (declarator (name (at 0 1 14) "x") None None ∷ [])) ∷ property unqualified (decl life.Unwritten (types.Event (at 0 1 17)) (declarator (name (at 0 1 23) "e") None None ∷ [])) ∷ []) None)) ∷ module_ (at 0 1 35) life.Unwritten (name (at 0 1 42) "t") None [] (items.Decl (decl life.Unwritten (types.Named (name (at 0 1 45) "C")) (declarator (name (at 0 1 47) "h") None None ∷ [])) ∷ procedure (at 0 1 50) procedure_word.Initial (stmts.Statement (at 0 1 58) None (stmts.On (stmts.Parts (event_part edge.Unwritten (tree.Expr.Post (root.Plain (name (at 0 1 60) "h")) (tree.Member (name (at 0 1 62) "x") tree.NoSuffix)) None ∷ [])) (stmts.Statement (at 0 1 65) None (stmts.Call (system (at 0 1 65) "$display" (text (at 0 1 74) "a" ∷ [])))))) ∷ procedure (at 0 1 80) procedure_word.Initial (stmts.Statement (at 0 1 88) None (stmts.On (stmts.Parts (event_part edge.Unwritten (tree.Expr.Post (root.Plain (name (at 0 1 90) "h")) (tree.Member (name (at 0 1 92) "e") tree.NoSuffix)) None ∷ [])) (stmts.Statement (at 0 1 95) None (stmts.Call (system (at 0 1 95) "$display" (text (at 0 1 104) "b" ∷ [])))))) ∷ procedure (at 0 1 110) procedure_word.Initial (stmts.Statement (at 0 1 118) None (stmts.Block None [] (statements (stmts.Statement (at 0 1 124) None (stmts.After (delay (at 0 1 124) (number (at 0 1 125) "1")) (stmts.Statement (at 0 1 127) None (blocking (target (at 0 1 127) "h") None (stmts.New (at 0 1 131) tree.Unwritten)))) ∷ stmts.Statement (at 0 1 136) None (stmts.After (delay (at 0 1 136) (number (at 0 1 137) "1")) (stmts.Statement (at 0 1 139) None (blocking (tree.Lval.Post (root.Plain (name (at 0 1 139) "h")) (tree.Member (name (at 0 1 141) "x") tree.NoSuffix)) None (stmts.Value (number (at 0 1 145) "3"))))) ∷ stmts.Statement (at 0 1 148) None (stmts.Trigger (tree.Lval.Post (root.Plain (name (at 0 1 150) "h")) (tree.Member (name (at 0 1 152) "e") tree.NoSuffix))) ∷ [])) None)) ∷ []) None ∷ []

t96_seen : seen_in (Listed []) (Listed []) (elaborated t96 [] None) 26 ≡ Ran (record { log = []; wave = lines ("$timescale 1ns $end" ∷ "$scope module t $end" ∷ "$upscope $end" ∷ "$enddefinitions $end" ∷ "#0" ∷ "$dumpvars" ∷ "$end" ∷ []); outcome = Done; time = 2; steps = 23; race = Some (10, at 0 1 47) })
unfolding symbols_of word_of
t96_seen = refl

-- class C; int x; endclass module t; C h; initial wait (h.x) $display("a"); endmodule
abbrev t97 : List Description
t97 = descriptions.Item (items.Class (class_ (at 0 1 1) false (name (at 0 1 7) "C") None (property unqualified (decl life.Unwritten (types.Atom (at 0 1 10) atom_word.Int sign.Unwritten) (declarator (name (at 0 1 14) "x") None None ∷ [])) ∷ []) None)) ∷ module_ (at 0 1 26) life.Unwritten (name (at 0 1 33) "t") None [] (items.Decl (decl life.Unwritten (types.Named (name (at 0 1 36) "C")) (declarator (name (at 0 1 38) "h") None None ∷ [])) ∷ procedure (at 0 1 41) procedure_word.Initial (stmts.Statement (at 0 1 49) None (stmts.Wait (at 0 1 49) (tree.Expr.Post (root.Plain (name (at 0 1 55) "h")) (tree.Member (name (at 0 1 57) "x") tree.NoSuffix)) (stmts.Statement (at 0 1 60) None (stmts.Call (system (at 0 1 60) "$display" (text (at 0 1 69) "a" ∷ [])))))) ∷ []) None ∷ []

t97_seen : seen_in (Listed []) (Listed []) (elaborated t97 [] None) 6 ≡ Ran (record { log = []; wave = lines ("$timescale 1ns $end" ∷ "$scope module t $end" ∷ "$upscope $end" ∷ "$enddefinitions $end" ∷ []); outcome = Faulted (record { kind = kind.Null; at = at 0 1 49; time = 0 }); time = 0; steps = 3; race = Some (10, at 0 1 38) })
unfolding symbols_of word_of
t97_seen = refl

-- module t; event e; wire y; assign y = e.triggered; initial begin #1 ->e; #0 $display("%b", y); end endmodule
abbrev t99 : List Description
t99 = module_ (at 0 1 1) life.Unwritten (name (at 0 1 8) "t") None [] (items.Decl (decl life.Unwritten (types.Event (at 0 1 11)) (declarator (name (at 0 1 17) "e") None None ∷ [])) ∷ net (at 0 1 20) sign.Unwritten None (net_item (name (at 0 1 25) "y") None ∷ []) ∷ items.Assign (assign_item (target (at 0 1 35) "y") (tree.Expr.Post (root.Plain (name (at 0 1 39) "e")) (tree.Member (name (at 0 1 41) "triggered") tree.NoSuffix)) ∷ []) ∷ procedure (at 0 1 52) procedure_word.Initial (stmts.Statement (at 0 1 60) None (stmts.Block None [] (statements (stmts.Statement (at 0 1 66) None (stmts.After (delay (at 0 1 66) (number (at 0 1 67) "1")) (stmts.Statement (at 0 1 69) None (stmts.Trigger (target (at 0 1 71) "e")))) ∷ stmts.Statement (at 0 1 74) None (stmts.After (delay (at 0 1 74) (number (at 0 1 75) "0")) (stmts.Statement (at 0 1 77) None (stmts.Call (system (at 0 1 77) "$display" (text (at 0 1 86) "%b" ∷ plain (at 0 1 92) "y" ∷ []))))) ∷ [])) None)) ∷ []) None ∷ []

t99_seen : seen_in (Listed []) (Listed []) (elaborated t99 [] None) 19 ≡ Ran (record { log = lines ("0" ∷ []); wave = lines ("$timescale 1ns $end" ∷ "$scope module t $end" ∷ "$var wire 1 ! y $end" ∷ "$upscope $end" ∷ "$enddefinitions $end" ∷ "#0" ∷ "$dumpvars" ∷ "0!" ∷ "$end" ∷ []); outcome = Done; time = 1; steps = 16; race = Some (10, at 0 1 17) })
unfolding symbols_of word_of
t99_seen = refl
