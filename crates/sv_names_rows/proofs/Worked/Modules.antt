-- Whole programs of modules alone: what a run of the flat design shows.
use Rattle.std.proofs.Common.{◌≡◌, List, [], ◌∷◌, false, refl}
use Rattle.std.specs.Prelude.{Some, None}
use Rattle.sv_value.specs.Vector.{symbols_of, word_of}
use Rattle.sv_flat.specs.declared.choices.Choices.TheVariants.{Listed}
use Rattle.sv_flat.specs.Directed.{Done, Spent}
use Rattle.sv_tree.specs.declared.word.UnaryWord.TheVariants as unary_word
use Rattle.sv_tree.specs.declared.word.BinaryWord.TheVariants as binary_word
use Rattle.sv_tree.specs.declared.word.VectorWord.TheVariants as vector_word
use Rattle.sv_tree.specs.declared.word.AtomWord.TheVariants as atom_word
use Rattle.sv_tree.specs.declared.word.Sign.TheVariants as sign
use Rattle.sv_tree.specs.declared.word.Life.TheVariants as life
use Rattle.sv_tree.specs.declared.word.JoinWord.TheVariants as join_word
use Rattle.sv_tree.specs.declared.word.EdgeWord.TheVariants as edge
use Rattle.sv_tree.specs.declared.word.StepWord.TheVariants as step_word
use Rattle.sv_tree.specs.declared.word.ProcedureWord.TheVariants as procedure_word
use Rattle.sv_tree.specs.declared.word.PortDirection.TheVariants as port_direction
use Rattle.sv_tree.specs.declared.expr.Root.TheVariants as root
use Rattle.sv_tree.specs.Expr as tree
use Rattle.sv_tree.specs.Types as types
use Rattle.sv_tree.specs.Stmt as stmts
use Rattle.sv_tree.specs.Units as units
use Rattle.sv_tree.specs.Items as items
use Rattle.sv_tree.specs.Descriptions.{Description}
use Rattle.sv_names.specs.Design.{elaborated}
use Rattle.sv_names_rows.proofs.Kit.{argument, assign_item, at, blocking, decl, declarator, delay, event_part, expressions, head, lines, module_, name, nested, net, net_item, nonblocking, number, plain, port, procedure, range, routine, seen_in, statements, system, target, text, Ran}

-- module t; initial $display("hi"); endmodule
abbrev t1 : List Description
t1 = module_ (at 0 1 1) life.Unwritten (name (at 0 1 8) "t") None [] (procedure (at 0 1 11) procedure_word.Initial (stmts.Statement (at 0 1 19) None (stmts.Call (system (at 0 1 19) "$display" (text (at 0 1 28) "hi" ∷ [])))) ∷ []) None ∷ []

t1_seen : seen_in (Listed []) (Listed []) (elaborated t1 [] None) 7 ≡ Ran (record { log = lines ("hi" ∷ []); wave = lines ("$timescale 1ns $end" ∷ "$scope module t $end" ∷ "$upscope $end" ∷ "$enddefinitions $end" ∷ "#0" ∷ "$dumpvars" ∷ "$end" ∷ []); outcome = Done; time = 0; steps = 4; race = Some (8, at 0 1 11) })
unfolding symbols_of word_of
t1_seen = refl

-- module t; int a, b; initial begin a=1; b=2; a<=b; b<=a; #1 $display("%0d %0d",a,b); end endmodule
abbrev t2 : List Description
t2 = module_ (at 0 1 1) life.Unwritten (name (at 0 1 8) "t") None [] (items.Decl (decl life.Unwritten (types.Atom (at 0 1 11) atom_word.Int sign.Unwritten) (declarator (name (at 0 1 15) "a") None None ∷ declarator (name (at 0 1 18) "b") None None ∷ [])) ∷ procedure (at 0 1 21) procedure_word.Initial (stmts.Statement (at 0 1 29) None (stmts.Block None [] (statements (stmts.Statement (at 0 1 35) None (blocking (target (at 0 1 35) "a") None (stmts.Value (number (at 0 1 37) "1"))) ∷ stmts.Statement (at 0 1 40) None (blocking (target (at 0 1 40) "b") None (stmts.Value (number (at 0 1 42) "2"))) ∷ stmts.Statement (at 0 1 45) None (nonblocking (target (at 0 1 45) "a") None (plain (at 0 1 48) "b")) ∷ stmts.Statement (at 0 1 51) None (nonblocking (target (at 0 1 51) "b") None (plain (at 0 1 54) "a")) ∷ stmts.Statement (at 0 1 57) None (stmts.After (delay (at 0 1 57) (number (at 0 1 58) "1")) (stmts.Statement (at 0 1 60) None (stmts.Call (system (at 0 1 60) "$display" (text (at 0 1 69) "%0d %0d" ∷ plain (at 0 1 79) "a" ∷ plain (at 0 1 81) "b" ∷ []))))) ∷ [])) None)) ∷ []) None ∷ []

t2_seen : seen_in (Listed []) (Listed []) (elaborated t2 [] None) 20 ≡ Ran (record { log = lines ("2 1" ∷ []); wave = lines ("$timescale 1ns $end" ∷ "$scope module t $end" ∷ "$var reg 32 ! a $end" ∷ "$var reg 32 \" b $end" ∷ "$upscope $end" ∷ "$enddefinitions $end" ∷ "#0" ∷ "$dumpvars" ∷ "b10 !" ∷ "b1 \"" ∷ "$end" ∷ []); outcome = Done; time = 1; steps = 17; race = Some (8, at 0 1 21) })
unfolding symbols_of word_of
t2_seen = refl

-- module t; logic a; initial begin a=0; a<=1; $strobe("%0d",a); #0 $display("%0d",a); end endmodule
abbrev t3 : List Description
t3 = module_ (at 0 1 1) life.Unwritten (name (at 0 1 8) "t") None [] (items.Decl (decl life.Unwritten (types.WrittenType.Vector (at 0 1 11) vector_word.Logic sign.Unwritten None) (declarator (name (at 0 1 17) "a") None None ∷ [])) ∷ procedure (at 0 1 20) procedure_word.Initial (stmts.Statement (at 0 1 28) None (stmts.Block None [] (statements (stmts.Statement (at 0 1 34) None (blocking (target (at 0 1 34) "a") None (stmts.Value (number (at 0 1 36) "0"))) ∷ stmts.Statement (at 0 1 39) None (nonblocking (target (at 0 1 39) "a") None (number (at 0 1 42) "1")) ∷ stmts.Statement (at 0 1 45) None (stmts.Call (system (at 0 1 45) "$strobe" (text (at 0 1 53) "%0d" ∷ plain (at 0 1 59) "a" ∷ []))) ∷ stmts.Statement (at 0 1 63) None (stmts.After (delay (at 0 1 63) (number (at 0 1 64) "0")) (stmts.Statement (at 0 1 66) None (stmts.Call (system (at 0 1 66) "$display" (text (at 0 1 75) "%0d" ∷ plain (at 0 1 81) "a" ∷ []))))) ∷ [])) None)) ∷ []) None ∷ []

t3_seen : seen_in (Listed []) (Listed []) (elaborated t3 [] None) 16 ≡ Ran (record { log = lines ("0" ∷ "1" ∷ []); wave = lines ("$timescale 1ns $end" ∷ "$scope module t $end" ∷ "$var reg 1 ! a $end" ∷ "$upscope $end" ∷ "$enddefinitions $end" ∷ "#0" ∷ "$dumpvars" ∷ "1!" ∷ "$end" ∷ []); outcome = Done; time = 0; steps = 13; race = Some (8, at 0 1 20) })
unfolding symbols_of word_of
t3_seen = refl

-- module t; initial $display("A"); initial $display("B"); endmodule
abbrev t4 : List Description
t4 = module_ (at 0 1 1) life.Unwritten (name (at 0 1 8) "t") None [] (procedure (at 0 1 11) procedure_word.Initial (stmts.Statement (at 0 1 19) None (stmts.Call (system (at 0 1 19) "$display" (text (at 0 1 28) "A" ∷ [])))) ∷ procedure (at 0 1 34) procedure_word.Initial (stmts.Statement (at 0 1 42) None (stmts.Call (system (at 0 1 42) "$display" (text (at 0 1 51) "B" ∷ [])))) ∷ []) None ∷ []

t4_seen : seen_in (Listed []) (Listed []) (elaborated t4 [] None) 9 ≡ Ran (record { log = lines ("A" ∷ "B" ∷ []); wave = lines ("$timescale 1ns $end" ∷ "$scope module t $end" ∷ "$upscope $end" ∷ "$enddefinitions $end" ∷ "#0" ∷ "$dumpvars" ∷ "$end" ∷ []); outcome = Done; time = 0; steps = 6; race = Some (8, at 0 1 11) })
unfolding symbols_of word_of
t4_seen = refl

t4_seen_2 : seen_in (Listed (1 ∷ [])) (Listed []) (elaborated t4 [] None) 9 ≡ Ran (record { log = lines ("B" ∷ "A" ∷ []); wave = lines ("$timescale 1ns $end" ∷ "$scope module t $end" ∷ "$upscope $end" ∷ "$enddefinitions $end" ∷ "#0" ∷ "$dumpvars" ∷ "$end" ∷ []); outcome = Done; time = 0; steps = 6; race = Some (8, at 0 1 11) })
unfolding symbols_of word_of
t4_seen_2 = refl

t4_seen_3 : seen_in (Listed (2 ∷ [])) (Listed []) (elaborated t4 [] None) 9 ≡ Ran (record { log = lines ("A" ∷ "B" ∷ []); wave = lines ("$timescale 1ns $end" ∷ "$scope module t $end" ∷ "$upscope $end" ∷ "$enddefinitions $end" ∷ "#0" ∷ "$dumpvars" ∷ "$end" ∷ []); outcome = Done; time = 0; steps = 6; race = Some (8, at 0 1 11) })
unfolding symbols_of word_of
t4_seen_3 = refl

-- module t; initial $display("%b", 4'b1x0z + 4'd1); endmodule
abbrev t5 : List Description
t5 = module_ (at 0 1 1) life.Unwritten (name (at 0 1 8) "t") None [] (procedure (at 0 1 11) procedure_word.Initial (stmts.Statement (at 0 1 19) None (stmts.Call (system (at 0 1 19) "$display" (text (at 0 1 28) "%b" ∷ tree.Binary binary_word.Plus (at 0 1 42) (number (at 0 1 34) "4'b1x0z") (number (at 0 1 44) "4'd1") ∷ [])))) ∷ []) None ∷ []

t5_seen : seen_in (Listed []) (Listed []) (elaborated t5 [] None) 7 ≡ Ran (record { log = lines ("xxxx" ∷ []); wave = lines ("$timescale 1ns $end" ∷ "$scope module t $end" ∷ "$upscope $end" ∷ "$enddefinitions $end" ∷ "#0" ∷ "$dumpvars" ∷ "$end" ∷ []); outcome = Done; time = 0; steps = 4; race = Some (8, at 0 1 11) })
unfolding symbols_of word_of
t5_seen = refl

-- module t; initial $display("%h", 4'b1x0z); endmodule
abbrev t6 : List Description
t6 = module_ (at 0 1 1) life.Unwritten (name (at 0 1 8) "t") None [] (procedure (at 0 1 11) procedure_word.Initial (stmts.Statement (at 0 1 19) None (stmts.Call (system (at 0 1 19) "$display" (text (at 0 1 28) "%h" ∷ number (at 0 1 34) "4'b1x0z" ∷ [])))) ∷ []) None ∷ []

t6_seen : seen_in (Listed []) (Listed []) (elaborated t6 [] None) 7 ≡ Ran (record { log = lines ("X" ∷ []); wave = lines ("$timescale 1ns $end" ∷ "$scope module t $end" ∷ "$upscope $end" ∷ "$enddefinitions $end" ∷ "#0" ∷ "$dumpvars" ∷ "$end" ∷ []); outcome = Done; time = 0; steps = 4; race = Some (8, at 0 1 11) })
unfolding symbols_of word_of
t6_seen = refl

-- module t; initial $display("%d", 8'bz); endmodule
abbrev t7 : List Description
t7 = module_ (at 0 1 1) life.Unwritten (name (at 0 1 8) "t") None [] (procedure (at 0 1 11) procedure_word.Initial (stmts.Statement (at 0 1 19) None (stmts.Call (system (at 0 1 19) "$display" (text (at 0 1 28) "%d" ∷ number (at 0 1 34) "8'bz" ∷ [])))) ∷ []) None ∷ []

t7_seen : seen_in (Listed []) (Listed []) (elaborated t7 [] None) 7 ≡ Ran (record { log = lines ("  z" ∷ []); wave = lines ("$timescale 1ns $end" ∷ "$scope module t $end" ∷ "$upscope $end" ∷ "$enddefinitions $end" ∷ "#0" ∷ "$dumpvars" ∷ "$end" ∷ []); outcome = Done; time = 0; steps = 4; race = Some (8, at 0 1 11) })
unfolding symbols_of word_of
t7_seen = refl

-- module t; initial $display("%d|%h|%b", 8'd7, 8'h0a, 4'd5); endmodule
abbrev t8 : List Description
t8 = module_ (at 0 1 1) life.Unwritten (name (at 0 1 8) "t") None [] (procedure (at 0 1 11) procedure_word.Initial (stmts.Statement (at 0 1 19) None (stmts.Call (system (at 0 1 19) "$display" (text (at 0 1 28) "%d|%h|%b" ∷ number (at 0 1 40) "8'd7" ∷ number (at 0 1 46) "8'h0a" ∷ number (at 0 1 53) "4'd5" ∷ [])))) ∷ []) None ∷ []

t8_seen : seen_in (Listed []) (Listed []) (elaborated t8 [] None) 7 ≡ Ran (record { log = lines ("  7|0a|0101" ∷ []); wave = lines ("$timescale 1ns $end" ∷ "$scope module t $end" ∷ "$upscope $end" ∷ "$enddefinitions $end" ∷ "#0" ∷ "$dumpvars" ∷ "$end" ∷ []); outcome = Done; time = 0; steps = 4; race = Some (8, at 0 1 11) })
unfolding symbols_of word_of
t8_seen = refl

-- module t; logic [63:0] a; initial begin a = 64'hFFFF_FFFF_FFFF_FFFF; a = a + 1; $display("%0d", a); end endmodule
abbrev t9 : List Description
t9 = module_ (at 0 1 1) life.Unwritten (name (at 0 1 8) "t") None [] (items.Decl (decl life.Unwritten (types.WrittenType.Vector (at 0 1 11) vector_word.Logic sign.Unwritten (Some (range (at 0 1 17) (number (at 0 1 18) "63") (number (at 0 1 21) "0")))) (declarator (name (at 0 1 24) "a") None None ∷ [])) ∷ procedure (at 0 1 27) procedure_word.Initial (stmts.Statement (at 0 1 35) None (stmts.Block None [] (statements (stmts.Statement (at 0 1 41) None (blocking (target (at 0 1 41) "a") None (stmts.Value (number (at 0 1 45) "64'hFFFF_FFFF_FFFF_FFFF"))) ∷ stmts.Statement (at 0 1 70) None (blocking (target (at 0 1 70) "a") None (stmts.Value (tree.Binary binary_word.Plus (at 0 1 76) (plain (at 0 1 74) "a") (number (at 0 1 78) "1")))) ∷ stmts.Statement (at 0 1 81) None (stmts.Call (system (at 0 1 81) "$display" (text (at 0 1 90) "%0d" ∷ plain (at 0 1 97) "a" ∷ []))) ∷ [])) None)) ∷ []) None ∷ []

t9_seen : seen_in (Listed []) (Listed []) (elaborated t9 [] None) 10 ≡ Ran (record { log = lines ("0" ∷ []); wave = lines ("$timescale 1ns $end" ∷ "$scope module t $end" ∷ "$var reg 64 ! a [63:0] $end" ∷ "$upscope $end" ∷ "$enddefinitions $end" ∷ "#0" ∷ "$dumpvars" ∷ "b0 !" ∷ "$end" ∷ []); outcome = Done; time = 0; steps = 7; race = Some (8, at 0 1 27) })
unfolding symbols_of word_of
t9_seen = refl

-- module t; logic a, b; wire w; assign w = a; assign w = b; initial begin a = 0; b = 1; #1 $display("%b", w); a = 1'bz; #1 $display("%b", w); end endmodule
abbrev t10 : List Description
t10 = module_ (at 0 1 1) life.Unwritten (name (at 0 1 8) "t") None [] (items.Decl (decl life.Unwritten (types.WrittenType.Vector (at 0 1 11) vector_word.Logic sign.Unwritten None) (declarator (name (at 0 1 17) "a") None None ∷ declarator (name (at 0 1 20) "b") None None ∷ [])) ∷ net (at 0 1 23) sign.Unwritten None (net_item (name (at 0 1 28) "w") None ∷ []) ∷ items.Assign (assign_item (target (at 0 1 38) "w") (plain (at 0 1 42) "a") ∷ []) ∷ items.Assign (assign_item (target (at 0 1 52) "w") (plain (at 0 1 56) "b") ∷ []) ∷ procedure (at 0 1 59) procedure_word.Initial (stmts.Statement (at 0 1 67) None (stmts.Block None [] (statements (stmts.Statement (at 0 1 73) None (blocking (target (at 0 1 73) "a") None (stmts.Value (number (at 0 1 77) "0"))) ∷ stmts.Statement (at 0 1 80) None (blocking (target (at 0 1 80) "b") None (stmts.Value (number (at 0 1 84) "1"))) ∷ stmts.Statement (at 0 1 87) None (stmts.After (delay (at 0 1 87) (number (at 0 1 88) "1")) (stmts.Statement (at 0 1 90) None (stmts.Call (system (at 0 1 90) "$display" (text (at 0 1 99) "%b" ∷ plain (at 0 1 105) "w" ∷ []))))) ∷ stmts.Statement (at 0 1 109) None (blocking (target (at 0 1 109) "a") None (stmts.Value (number (at 0 1 113) "1'bz"))) ∷ stmts.Statement (at 0 1 119) None (stmts.After (delay (at 0 1 119) (number (at 0 1 120) "1")) (stmts.Statement (at 0 1 122) None (stmts.Call (system (at 0 1 122) "$display" (text (at 0 1 131) "%b" ∷ plain (at 0 1 137) "w" ∷ []))))) ∷ [])) None)) ∷ []) None ∷ []

t10_seen : seen_in (Listed []) (Listed []) (elaborated t10 [] None) 32 ≡ Ran (record { log = lines ("x" ∷ "1" ∷ []); wave = lines ("$timescale 1ns $end" ∷ "$scope module t $end" ∷ "$var reg 1 ! a $end" ∷ "$var reg 1 \" b $end" ∷ "$var wire 1 # w $end" ∷ "$upscope $end" ∷ "$enddefinitions $end" ∷ "#0" ∷ "$dumpvars" ∷ "0!" ∷ "1\"" ∷ "x#" ∷ "$end" ∷ "#1" ∷ "z!" ∷ "1#" ∷ []); outcome = Done; time = 2; steps = 29; race = Some (1, at 0 1 28) })
unfolding symbols_of word_of
t10_seen = refl

-- module t; initial begin for (int i=0;i<3;i++) fork $display("%0d",i); join_none #1; end endmodule
abbrev t14 : List Description
t14 = module_ (at 0 1 1) life.Unwritten (name (at 0 1 8) "t") None [] (procedure (at 0 1 11) procedure_word.Initial (stmts.Statement (at 0 1 19) None (stmts.Block None [] (statements (stmts.Statement (at 0 1 25) None (stmts.For (stmts.Declare (types.Atom (at 0 1 30) atom_word.Int sign.Unwritten) (name (at 0 1 34) "i") (number (at 0 1 36) "0")) (tree.Binary binary_word.Less (at 0 1 39) (plain (at 0 1 38) "i") (number (at 0 1 40) "3")) (stmts.ForStep.Step (at 0 1 42) (target (at 0 1 42) "i") step_word.Increment) (stmts.Statement (at 0 1 47) None (stmts.Fork None [] (statements (stmts.Statement (at 0 1 52) None (stmts.Call (system (at 0 1 52) "$display" (text (at 0 1 61) "%0d" ∷ plain (at 0 1 67) "i" ∷ []))) ∷ [])) join_word.None None))) ∷ stmts.Statement (at 0 1 81) None (stmts.After (delay (at 0 1 81) (number (at 0 1 82) "1")) (stmts.Statement (at 0 1 83) None stmts.Null)) ∷ [])) None)) ∷ []) None ∷ []

t14_seen : seen_in (Listed []) (Listed []) (elaborated t14 [] None) 31 ≡ Ran (record { log = lines ("3" ∷ "3" ∷ "3" ∷ []); wave = lines ("$timescale 1ns $end" ∷ "$scope module t $end" ∷ "$upscope $end" ∷ "$enddefinitions $end" ∷ "#0" ∷ "$dumpvars" ∷ "$end" ∷ []); outcome = Done; time = 1; steps = 28; race = Some (8, at 0 1 11) })
unfolding symbols_of word_of
t14_seen = refl

-- module t; initial begin for (int i=0;i<3;i++) fork automatic int k = i; $display("%0d",k); join_none #1; end endmodule
abbrev t15 : List Description
t15 = module_ (at 0 1 1) life.Unwritten (name (at 0 1 8) "t") None [] (procedure (at 0 1 11) procedure_word.Initial (stmts.Statement (at 0 1 19) None (stmts.Block None [] (statements (stmts.Statement (at 0 1 25) None (stmts.For (stmts.Declare (types.Atom (at 0 1 30) atom_word.Int sign.Unwritten) (name (at 0 1 34) "i") (number (at 0 1 36) "0")) (tree.Binary binary_word.Less (at 0 1 39) (plain (at 0 1 38) "i") (number (at 0 1 40) "3")) (stmts.ForStep.Step (at 0 1 42) (target (at 0 1 42) "i") step_word.Increment) (stmts.Statement (at 0 1 47) None (stmts.Fork None (decl life.Automatic (types.Atom (at 0 1 62) atom_word.Int sign.Unwritten) (declarator (name (at 0 1 66) "k") None (Some (stmts.Value (plain (at 0 1 70) "i"))) ∷ []) ∷ []) (statements (stmts.Statement (at 0 1 73) None (stmts.Call (system (at 0 1 73) "$display" (text (at 0 1 82) "%0d" ∷ plain (at 0 1 88) "k" ∷ []))) ∷ [])) join_word.None None))) ∷ stmts.Statement (at 0 1 102) None (stmts.After (delay (at 0 1 102) (number (at 0 1 103) "1")) (stmts.Statement (at 0 1 104) None stmts.Null)) ∷ [])) None)) ∷ []) None ∷ []

t15_seen : seen_in (Listed []) (Listed []) (elaborated t15 [] None) 37 ≡ Ran (record { log = lines ("0" ∷ "1" ∷ "2" ∷ []); wave = lines ("$timescale 1ns $end" ∷ "$scope module t $end" ∷ "$upscope $end" ∷ "$enddefinitions $end" ∷ "#0" ∷ "$dumpvars" ∷ "$end" ∷ []); outcome = Done; time = 1; steps = 34; race = Some (8, at 0 1 11) })
unfolding symbols_of word_of
t15_seen = refl

-- module t; initial forever ; endmodule
abbrev t20 : List Description
t20 = module_ (at 0 1 1) life.Unwritten (name (at 0 1 8) "t") None [] (procedure (at 0 1 11) procedure_word.Initial (stmts.Statement (at 0 1 19) None (stmts.Forever (stmts.Statement (at 0 1 27) None stmts.Null))) ∷ []) None ∷ []

t20_seen : seen_in (Listed []) (Listed []) (elaborated t20 [] None) 120 ≡ Ran (record { log = []; wave = lines ("$timescale 1ns $end" ∷ "$scope module t $end" ∷ "$upscope $end" ∷ "$enddefinitions $end" ∷ []); outcome = Spent; time = 0; steps = 120; race = Some (8, at 0 1 11) })
unfolding symbols_of word_of
t20_seen = refl

-- module t; int q[$]; initial begin $display("%0d", q.pop_front()); q.push_back(4); q[$+1] = 5; q[5] = 9; $display("%0d %0d", q.size(), q[1]); end endmodule
abbrev t21 : List Description
t21 = module_ (at 0 1 1) life.Unwritten (name (at 0 1 8) "t") None [] (items.Decl (decl life.Unwritten (types.Atom (at 0 1 11) atom_word.Int sign.Unwritten) (declarator (name (at 0 1 15) "q") (Some (stmts.Queue (at 0 1 16))) None ∷ [])) ∷ procedure (at 0 1 21) procedure_word.Initial (stmts.Statement (at 0 1 29) None (stmts.Block None [] (statements (stmts.Statement (at 0 1 35) None (stmts.Call (system (at 0 1 35) "$display" (text (at 0 1 44) "%0d" ∷ tree.Expr.Post (root.Plain (name (at 0 1 51) "q")) (tree.Member (name (at 0 1 53) "pop_front") (tree.Call (at 0 1 62) tree.NoExpr tree.NoSuffix)) ∷ []))) ∷ stmts.Statement (at 0 1 67) None (stmts.Call (tree.Expr.Post (root.Plain (name (at 0 1 67) "q")) (tree.Member (name (at 0 1 69) "push_back") (tree.Call (at 0 1 78) (expressions (number (at 0 1 79) "4" ∷ [])) tree.NoSuffix)))) ∷ stmts.Statement (at 0 1 83) None (blocking (tree.Lval.Post (root.Plain (name (at 0 1 83) "q")) (tree.Select (at 0 1 84) (tree.Binary binary_word.Plus (at 0 1 86) (tree.Dollar (at 0 1 85)) (number (at 0 1 87) "1")) tree.NoSuffix)) None (stmts.Value (number (at 0 1 92) "5"))) ∷ stmts.Statement (at 0 1 95) None (blocking (tree.Lval.Post (root.Plain (name (at 0 1 95) "q")) (tree.Select (at 0 1 96) (number (at 0 1 97) "5") tree.NoSuffix)) None (stmts.Value (number (at 0 1 102) "9"))) ∷ stmts.Statement (at 0 1 105) None (stmts.Call (system (at 0 1 105) "$display" (text (at 0 1 114) "%0d %0d" ∷ tree.Expr.Post (root.Plain (name (at 0 1 125) "q")) (tree.Member (name (at 0 1 127) "size") (tree.Call (at 0 1 131) tree.NoExpr tree.NoSuffix)) ∷ tree.Expr.Post (root.Plain (name (at 0 1 135) "q")) (tree.Select (at 0 1 136) (number (at 0 1 137) "1") tree.NoSuffix) ∷ []))) ∷ [])) None)) ∷ []) None ∷ []

t21_seen : seen_in (Listed []) (Listed []) (elaborated t21 [] None) 13 ≡ Ran (record { log = lines ("0" ∷ "2 5" ∷ []); wave = lines ("$timescale 1ns $end" ∷ "$scope module t $end" ∷ "$upscope $end" ∷ "$enddefinitions $end" ∷ "#0" ∷ "$dumpvars" ∷ "$end" ∷ []); outcome = Done; time = 0; steps = 10; race = Some (10, at 0 1 15) })
unfolding symbols_of word_of
t21_seen = refl

-- module t(input logic en, d, output logic y);
-- always_comb if (en) y = d;
-- endmodule
abbrev t22 : List Description
t22 = module_ (at 0 1 1) life.Unwritten (name (at 0 1 8) "t") None (port (Some port_direction.Input) false (types.Written (types.WrittenType.Vector (at 0 1 16) vector_word.Logic sign.Unwritten None)) (name (at 0 1 22) "en") ∷ port None false types.Unwritten (name (at 0 1 26) "d") ∷ port (Some port_direction.Output) false (types.Written (types.WrittenType.Vector (at 0 1 36) vector_word.Logic sign.Unwritten None)) (name (at 0 1 42) "y") ∷ []) (procedure (at 0 2 1) procedure_word.AlwaysComb (stmts.Statement (at 0 2 13) None (stmts.If (plain (at 0 2 17) "en") (stmts.Statement (at 0 2 21) None (blocking (target (at 0 2 21) "y") None (stmts.Value (plain (at 0 2 25) "d")))))) ∷ []) None ∷ []

t22_seen : seen_in (Listed []) (Listed []) (elaborated t22 [] None) 7 ≡ Ran (record { log = []; wave = lines ("$timescale 1ns $end" ∷ "$scope module t $end" ∷ "$var wire 1 ! en $end" ∷ "$var wire 1 \" d $end" ∷ "$var reg 1 # y $end" ∷ "$upscope $end" ∷ "$enddefinitions $end" ∷ "#0" ∷ "$dumpvars" ∷ "z!" ∷ "z\"" ∷ "x#" ∷ "$end" ∷ []); outcome = Done; time = 0; steps = 4; race = Some (5, at 0 2 1) })
unfolding symbols_of word_of
t22_seen = refl

-- module top; bit clk; initial #5 clk = 1; endmodule
abbrev t24 : List Description
t24 = module_ (at 0 1 1) life.Unwritten (name (at 0 1 8) "top") None [] (items.Decl (decl life.Unwritten (types.WrittenType.Vector (at 0 1 13) vector_word.Bit sign.Unwritten None) (declarator (name (at 0 1 17) "clk") None None ∷ [])) ∷ procedure (at 0 1 22) procedure_word.Initial (stmts.Statement (at 0 1 30) None (stmts.After (delay (at 0 1 30) (number (at 0 1 31) "5")) (stmts.Statement (at 0 1 33) None (blocking (target (at 0 1 33) "clk") None (stmts.Value (number (at 0 1 39) "1")))))) ∷ []) None ∷ []

t24_seen : seen_in (Listed []) (Listed []) (elaborated t24 [] None) 12 ≡ Ran (record { log = []; wave = lines ("$timescale 1ns $end" ∷ "$scope module top $end" ∷ "$var reg 1 ! clk $end" ∷ "$upscope $end" ∷ "$enddefinitions $end" ∷ "#0" ∷ "$dumpvars" ∷ "0!" ∷ "$end" ∷ "#5" ∷ "1!" ∷ []); outcome = Done; time = 5; steps = 9; race = Some (8, at 0 1 22) })
unfolding symbols_of word_of
t24_seen = refl

-- module t; initial $display("%b %b %0d %0d %0d", 8'hx3, 4'd20, -7/2, -7%2, 7/0); endmodule
abbrev t25 : List Description
t25 = module_ (at 0 1 1) life.Unwritten (name (at 0 1 8) "t") None [] (procedure (at 0 1 11) procedure_word.Initial (stmts.Statement (at 0 1 19) None (stmts.Call (system (at 0 1 19) "$display" (text (at 0 1 28) "%b %b %0d %0d %0d" ∷ number (at 0 1 49) "8'hx3" ∷ number (at 0 1 56) "4'd20" ∷ tree.Binary binary_word.Divide (at 0 1 65) (tree.Unary (at 0 1 63) unary_word.Minus (number (at 0 1 64) "7")) (number (at 0 1 66) "2") ∷ tree.Binary binary_word.Remainder (at 0 1 71) (tree.Unary (at 0 1 69) unary_word.Minus (number (at 0 1 70) "7")) (number (at 0 1 72) "2") ∷ tree.Binary binary_word.Divide (at 0 1 76) (number (at 0 1 75) "7") (number (at 0 1 77) "0") ∷ [])))) ∷ []) None ∷ []

t25_seen : seen_in (Listed []) (Listed []) (elaborated t25 [] None) 7 ≡ Ran (record { log = lines ("xxxx0011 0100 -3 -1 x" ∷ []); wave = lines ("$timescale 1ns $end" ∷ "$scope module t $end" ∷ "$upscope $end" ∷ "$enddefinitions $end" ∷ "#0" ∷ "$dumpvars" ∷ "$end" ∷ []); outcome = Done; time = 0; steps = 4; race = Some (8, at 0 1 11) })
unfolding symbols_of word_of
t25_seen = refl

-- module t; int m[string]; initial begin m["b"]=2; m["a"]=1; foreach (m[k]) $display("%s %0d",k,m[k]); $display("%0d %0d",m["c"],m.num()); end endmodule
abbrev t26 : List Description
t26 = module_ (at 0 1 1) life.Unwritten (name (at 0 1 8) "t") None [] (items.Decl (decl life.Unwritten (types.Atom (at 0 1 11) atom_word.Int sign.Unwritten) (declarator (name (at 0 1 15) "m") (Some (stmts.Key (at 0 1 16) (types.Text (at 0 1 17)))) None ∷ [])) ∷ procedure (at 0 1 26) procedure_word.Initial (stmts.Statement (at 0 1 34) None (stmts.Block None [] (statements (stmts.Statement (at 0 1 40) None (blocking (tree.Lval.Post (root.Plain (name (at 0 1 40) "m")) (tree.Select (at 0 1 41) (text (at 0 1 42) "b") tree.NoSuffix)) None (stmts.Value (number (at 0 1 47) "2"))) ∷ stmts.Statement (at 0 1 50) None (blocking (tree.Lval.Post (root.Plain (name (at 0 1 50) "m")) (tree.Select (at 0 1 51) (text (at 0 1 52) "a") tree.NoSuffix)) None (stmts.Value (number (at 0 1 57) "1"))) ∷ stmts.Statement (at 0 1 60) None (stmts.Foreach (name (at 0 1 69) "m") (name (at 0 1 71) "k") (stmts.Statement (at 0 1 75) None (stmts.Call (system (at 0 1 75) "$display" (text (at 0 1 84) "%s %0d" ∷ plain (at 0 1 93) "k" ∷ tree.Expr.Post (root.Plain (name (at 0 1 95) "m")) (tree.Select (at 0 1 96) (plain (at 0 1 97) "k") tree.NoSuffix) ∷ []))))) ∷ stmts.Statement (at 0 1 102) None (stmts.Call (system (at 0 1 102) "$display" (text (at 0 1 111) "%0d %0d" ∷ tree.Expr.Post (root.Plain (name (at 0 1 121) "m")) (tree.Select (at 0 1 122) (text (at 0 1 123) "c") tree.NoSuffix) ∷ tree.Expr.Post (root.Plain (name (at 0 1 128) "m")) (tree.Member (name (at 0 1 130) "num") (tree.Call (at 0 1 133) tree.NoExpr tree.NoSuffix)) ∷ []))) ∷ [])) None)) ∷ []) None ∷ []

t26_seen : seen_in (Listed []) (Listed []) (elaborated t26 [] None) 15 ≡ Ran (record { log = lines ("a 1" ∷ "b 2" ∷ "0 2" ∷ []); wave = lines ("$timescale 1ns $end" ∷ "$scope module t $end" ∷ "$upscope $end" ∷ "$enddefinitions $end" ∷ "#0" ∷ "$dumpvars" ∷ "$end" ∷ []); outcome = Done; time = 0; steps = 12; race = Some (10, at 0 1 15) })
unfolding symbols_of word_of
t26_seen = refl

-- module t; logic a=0, b=0; initial @(a & b) $display("f %0t",$time); initial begin #1 a=1; #1 b=1; end endmodule
abbrev t27 : List Description
t27 = module_ (at 0 1 1) life.Unwritten (name (at 0 1 8) "t") None [] (items.Decl (decl life.Unwritten (types.WrittenType.Vector (at 0 1 11) vector_word.Logic sign.Unwritten None) (declarator (name (at 0 1 17) "a") None (Some (stmts.Value (number (at 0 1 19) "0"))) ∷ declarator (name (at 0 1 22) "b") None (Some (stmts.Value (number (at 0 1 24) "0"))) ∷ [])) ∷ procedure (at 0 1 27) procedure_word.Initial (stmts.Statement (at 0 1 35) None (stmts.On (stmts.Parts (event_part edge.Unwritten (tree.Binary binary_word.And (at 0 1 39) (plain (at 0 1 37) "a") (plain (at 0 1 41) "b")) None ∷ [])) (stmts.Statement (at 0 1 44) None (stmts.Call (system (at 0 1 44) "$display" (text (at 0 1 53) "f %0t" ∷ tree.System (name (at 0 1 61) "$time") tree.Unwritten ∷ [])))))) ∷ procedure (at 0 1 69) procedure_word.Initial (stmts.Statement (at 0 1 77) None (stmts.Block None [] (statements (stmts.Statement (at 0 1 83) None (stmts.After (delay (at 0 1 83) (number (at 0 1 84) "1")) (stmts.Statement (at 0 1 86) None (blocking (target (at 0 1 86) "a") None (stmts.Value (number (at 0 1 88) "1"))))) ∷ stmts.Statement (at 0 1 91) None (stmts.After (delay (at 0 1 91) (number (at 0 1 92) "1")) (stmts.Statement (at 0 1 94) None (blocking (target (at 0 1 94) "b") None (stmts.Value (number (at 0 1 96) "1"))))) ∷ [])) None)) ∷ []) None ∷ []

t27_seen : seen_in (Listed []) (Listed []) (elaborated t27 [] None) 23 ≡ Ran (record { log = lines ("f 2" ∷ []); wave = lines ("$timescale 1ns $end" ∷ "$scope module t $end" ∷ "$var reg 1 ! a $end" ∷ "$var reg 1 \" b $end" ∷ "$upscope $end" ∷ "$enddefinitions $end" ∷ "#0" ∷ "$dumpvars" ∷ "0!" ∷ "0\"" ∷ "$end" ∷ "#1" ∷ "1!" ∷ "#2" ∷ "1\"" ∷ []); outcome = Done; time = 2; steps = 20; race = Some (8, at 0 1 27) })
unfolding symbols_of word_of
t27_seen = refl

-- module t; initial begin fork #1 $display("a"); #2 $display("b"); join_any disable fork; $display("c %0t",$time); #5; end endmodule
abbrev t28 : List Description
t28 = module_ (at 0 1 1) life.Unwritten (name (at 0 1 8) "t") None [] (procedure (at 0 1 11) procedure_word.Initial (stmts.Statement (at 0 1 19) None (stmts.Block None [] (statements (stmts.Statement (at 0 1 25) None (stmts.Fork None [] (statements (stmts.Statement (at 0 1 30) None (stmts.After (delay (at 0 1 30) (number (at 0 1 31) "1")) (stmts.Statement (at 0 1 33) None (stmts.Call (system (at 0 1 33) "$display" (text (at 0 1 42) "a" ∷ []))))) ∷ stmts.Statement (at 0 1 48) None (stmts.After (delay (at 0 1 48) (number (at 0 1 49) "2")) (stmts.Statement (at 0 1 51) None (stmts.Call (system (at 0 1 51) "$display" (text (at 0 1 60) "b" ∷ []))))) ∷ [])) join_word.Any None) ∷ stmts.Statement (at 0 1 75) None stmts.DisableFork ∷ stmts.Statement (at 0 1 89) None (stmts.Call (system (at 0 1 89) "$display" (text (at 0 1 98) "c %0t" ∷ tree.System (name (at 0 1 106) "$time") tree.Unwritten ∷ []))) ∷ stmts.Statement (at 0 1 114) None (stmts.After (delay (at 0 1 114) (number (at 0 1 115) "5")) (stmts.Statement (at 0 1 116) None stmts.Null)) ∷ [])) None)) ∷ []) None ∷ []

t28_seen : seen_in (Listed []) (Listed []) (elaborated t28 [] None) 26 ≡ Ran (record { log = lines ("a" ∷ "c 1" ∷ []); wave = lines ("$timescale 1ns $end" ∷ "$scope module t $end" ∷ "$upscope $end" ∷ "$enddefinitions $end" ∷ "#0" ∷ "$dumpvars" ∷ "$end" ∷ []); outcome = Done; time = 6; steps = 23; race = Some (8, at 0 1 11) })
unfolding symbols_of word_of
t28_seen = refl

-- module t; initial begin fork #1; #9; join_any disable fork; end endmodule
abbrev t29 : List Description
t29 = module_ (at 0 1 1) life.Unwritten (name (at 0 1 8) "t") None [] (procedure (at 0 1 11) procedure_word.Initial (stmts.Statement (at 0 1 19) None (stmts.Block None [] (statements (stmts.Statement (at 0 1 25) None (stmts.Fork None [] (statements (stmts.Statement (at 0 1 30) None (stmts.After (delay (at 0 1 30) (number (at 0 1 31) "1")) (stmts.Statement (at 0 1 32) None stmts.Null)) ∷ stmts.Statement (at 0 1 34) None (stmts.After (delay (at 0 1 34) (number (at 0 1 35) "9")) (stmts.Statement (at 0 1 36) None stmts.Null)) ∷ [])) join_word.Any None) ∷ stmts.Statement (at 0 1 47) None stmts.DisableFork ∷ [])) None)) ∷ []) None ∷ []

t29_seen : seen_in (Listed []) (Listed []) (elaborated t29 [] None) 19 ≡ Ran (record { log = []; wave = lines ("$timescale 1ns $end" ∷ "$scope module t $end" ∷ "$upscope $end" ∷ "$enddefinitions $end" ∷ "#0" ∷ "$dumpvars" ∷ "$end" ∷ []); outcome = Done; time = 1; steps = 16; race = Some (8, at 0 1 11) })
unfolding symbols_of word_of
t29_seen = refl

-- module t; logic [3:0] a = 0; wire [3:0] y; assign y = a + 1; always @(y) $display("%0d", y); initial begin #1 a = 4; #1 a[0] = 1; end endmodule
abbrev t36 : List Description
t36 = module_ (at 0 1 1) life.Unwritten (name (at 0 1 8) "t") None [] (items.Decl (decl life.Unwritten (types.WrittenType.Vector (at 0 1 11) vector_word.Logic sign.Unwritten (Some (range (at 0 1 17) (number (at 0 1 18) "3") (number (at 0 1 20) "0")))) (declarator (name (at 0 1 23) "a") None (Some (stmts.Value (number (at 0 1 27) "0"))) ∷ [])) ∷ net (at 0 1 30) sign.Unwritten (Some (range (at 0 1 35) (number (at 0 1 36) "3") (number (at 0 1 38) "0"))) (net_item (name (at 0 1 41) "y") None ∷ []) ∷ items.Assign (assign_item (target (at 0 1 51) "y") (tree.Binary binary_word.Plus (at 0 1 57) (plain (at 0 1 55) "a") (number (at 0 1 59) "1")) ∷ []) ∷ procedure (at 0 1 62) procedure_word.Always (stmts.Statement (at 0 1 69) None (stmts.On (stmts.Parts (event_part edge.Unwritten (plain (at 0 1 71) "y") None ∷ [])) (stmts.Statement (at 0 1 74) None (stmts.Call (system (at 0 1 74) "$display" (text (at 0 1 83) "%0d" ∷ plain (at 0 1 90) "y" ∷ [])))))) ∷ procedure (at 0 1 94) procedure_word.Initial (stmts.Statement (at 0 1 102) None (stmts.Block None [] (statements (stmts.Statement (at 0 1 108) None (stmts.After (delay (at 0 1 108) (number (at 0 1 109) "1")) (stmts.Statement (at 0 1 111) None (blocking (target (at 0 1 111) "a") None (stmts.Value (number (at 0 1 115) "4"))))) ∷ stmts.Statement (at 0 1 118) None (stmts.After (delay (at 0 1 118) (number (at 0 1 119) "1")) (stmts.Statement (at 0 1 121) None (blocking (tree.Lval.Post (root.Plain (name (at 0 1 121) "a")) (tree.Select (at 0 1 122) (number (at 0 1 123) "0") tree.NoSuffix)) None (stmts.Value (number (at 0 1 128) "1"))))) ∷ [])) None)) ∷ []) None ∷ []

t36_seen : seen_in (Listed []) (Listed []) (elaborated t36 [] None) 33 ≡ Ran (record { log = lines ("5" ∷ "6" ∷ []); wave = lines ("$timescale 1ns $end" ∷ "$scope module t $end" ∷ "$var reg 4 ! a [3:0] $end" ∷ "$var wire 4 \" y [3:0] $end" ∷ "$upscope $end" ∷ "$enddefinitions $end" ∷ "#0" ∷ "$dumpvars" ∷ "b0 !" ∷ "b1 \"" ∷ "$end" ∷ "#1" ∷ "b100 !" ∷ "b101 \"" ∷ "#2" ∷ "b101 !" ∷ "b110 \"" ∷ []); outcome = Done; time = 2; steps = 30; race = Some (8, at 0 1 62) })
unfolding symbols_of word_of
t36_seen = refl

t36_seen_2 : seen_in (Listed (1 ∷ [])) (Listed []) (elaborated t36 [] None) 36 ≡ Ran (record { log = lines ("1" ∷ "5" ∷ "6" ∷ []); wave = lines ("$timescale 1ns $end" ∷ "$scope module t $end" ∷ "$var reg 4 ! a [3:0] $end" ∷ "$var wire 4 \" y [3:0] $end" ∷ "$upscope $end" ∷ "$enddefinitions $end" ∷ "#0" ∷ "$dumpvars" ∷ "b0 !" ∷ "b1 \"" ∷ "$end" ∷ "#1" ∷ "b100 !" ∷ "b101 \"" ∷ "#2" ∷ "b101 !" ∷ "b110 \"" ∷ []); outcome = Done; time = 2; steps = 33; race = Some (8, at 0 1 62) })
unfolding symbols_of word_of
t36_seen_2 = refl

-- module t; task automatic w(int n); #n $display("%0d", n); endtask initial begin fork w(2); w(1); join $display("j %0t", $time); end endmodule
abbrev t37 : List Description
t37 = module_ (at 0 1 1) life.Unwritten (name (at 0 1 8) "t") None [] (items.Routine (routine (head (at 0 1 11) life.Automatic units.Task (name (at 0 1 26) "w") (argument None (types.Written (types.Atom (at 0 1 28) atom_word.Int sign.Unwritten)) (name (at 0 1 32) "n") None ∷ [])) [] (stmts.Statement (at 0 1 36) None (stmts.After (delay (at 0 1 36) (plain (at 0 1 37) "n")) (stmts.Statement (at 0 1 39) None (stmts.Call (system (at 0 1 39) "$display" (text (at 0 1 48) "%0d" ∷ plain (at 0 1 55) "n" ∷ []))))) ∷ []) None) ∷ procedure (at 0 1 67) procedure_word.Initial (stmts.Statement (at 0 1 75) None (stmts.Block None [] (statements (stmts.Statement (at 0 1 81) None (stmts.Fork None [] (statements (stmts.Statement (at 0 1 86) None (stmts.Call (tree.Expr.Post (root.Plain (name (at 0 1 86) "w")) (tree.Call (at 0 1 87) (expressions (number (at 0 1 88) "2" ∷ [])) tree.NoSuffix))) ∷ stmts.Statement (at 0 1 92) None (stmts.Call (tree.Expr.Post (root.Plain (name (at 0 1 92) "w")) (tree.Call (at 0 1 93) (expressions (number (at 0 1 94) "1" ∷ [])) tree.NoSuffix))) ∷ [])) join_word.All None) ∷ stmts.Statement (at 0 1 103) None (stmts.Call (system (at 0 1 103) "$display" (text (at 0 1 112) "j %0t" ∷ tree.System (name (at 0 1 121) "$time") tree.Unwritten ∷ []))) ∷ [])) None)) ∷ []) None ∷ []

t37_seen : seen_in (Listed []) (Listed []) (elaborated t37 [] None) 28 ≡ Ran (record { log = lines ("1" ∷ "2" ∷ "j 2" ∷ []); wave = lines ("$timescale 1ns $end" ∷ "$scope module t $end" ∷ "$upscope $end" ∷ "$enddefinitions $end" ∷ "#0" ∷ "$dumpvars" ∷ "$end" ∷ []); outcome = Done; time = 2; steps = 25; race = Some (8, at 0 1 67) })
unfolding symbols_of word_of
t37_seen = refl

-- module t; task static w(int n); #n $display("%0d", n); endtask initial begin fork w(2); w(1); join $display("j %0t", $time); end endmodule
abbrev t38 : List Description
t38 = module_ (at 0 1 1) life.Unwritten (name (at 0 1 8) "t") None [] (items.Routine (routine (head (at 0 1 11) life.Static units.Task (name (at 0 1 23) "w") (argument None (types.Written (types.Atom (at 0 1 25) atom_word.Int sign.Unwritten)) (name (at 0 1 29) "n") None ∷ [])) [] (stmts.Statement (at 0 1 33) None (stmts.After (delay (at 0 1 33) (plain (at 0 1 34) "n")) (stmts.Statement (at 0 1 36) None (stmts.Call (system (at 0 1 36) "$display" (text (at 0 1 45) "%0d" ∷ plain (at 0 1 52) "n" ∷ []))))) ∷ []) None) ∷ procedure (at 0 1 64) procedure_word.Initial (stmts.Statement (at 0 1 72) None (stmts.Block None [] (statements (stmts.Statement (at 0 1 78) None (stmts.Fork None [] (statements (stmts.Statement (at 0 1 83) None (stmts.Call (tree.Expr.Post (root.Plain (name (at 0 1 83) "w")) (tree.Call (at 0 1 84) (expressions (number (at 0 1 85) "2" ∷ [])) tree.NoSuffix))) ∷ stmts.Statement (at 0 1 89) None (stmts.Call (tree.Expr.Post (root.Plain (name (at 0 1 89) "w")) (tree.Call (at 0 1 90) (expressions (number (at 0 1 91) "1" ∷ [])) tree.NoSuffix))) ∷ [])) join_word.All None) ∷ stmts.Statement (at 0 1 100) None (stmts.Call (system (at 0 1 100) "$display" (text (at 0 1 109) "j %0t" ∷ tree.System (name (at 0 1 118) "$time") tree.Unwritten ∷ []))) ∷ [])) None)) ∷ []) None ∷ []

t38_seen : seen_in (Listed []) (Listed []) (elaborated t38 [] None) 28 ≡ Ran (record { log = lines ("1" ∷ "1" ∷ "j 2" ∷ []); wave = lines ("$timescale 1ns $end" ∷ "$scope module t $end" ∷ "$upscope $end" ∷ "$enddefinitions $end" ∷ "#0" ∷ "$dumpvars" ∷ "$end" ∷ []); outcome = Done; time = 2; steps = 25; race = Some (8, at 0 1 64) })
unfolding symbols_of word_of
t38_seen = refl

-- module t; event e; initial begin #1 ->e; $display("%0d", e.triggered); #1 $display("%0d", e.triggered); end initial begin @e $display("e %0t", $time); end endmodule
abbrev t40 : List Description
t40 = module_ (at 0 1 1) life.Unwritten (name (at 0 1 8) "t") None [] (items.Decl (decl life.Unwritten (types.Event (at 0 1 11)) (declarator (name (at 0 1 17) "e") None None ∷ [])) ∷ procedure (at 0 1 20) procedure_word.Initial (stmts.Statement (at 0 1 28) None (stmts.Block None [] (statements (stmts.Statement (at 0 1 34) None (stmts.After (delay (at 0 1 34) (number (at 0 1 35) "1")) (stmts.Statement (at 0 1 37) None (stmts.Trigger (target (at 0 1 39) "e")))) ∷ stmts.Statement (at 0 1 42) None (stmts.Call (system (at 0 1 42) "$display" (text (at 0 1 51) "%0d" ∷ tree.Expr.Post (root.Plain (name (at 0 1 58) "e")) (tree.Member (name (at 0 1 60) "triggered") tree.NoSuffix) ∷ []))) ∷ stmts.Statement (at 0 1 72) None (stmts.After (delay (at 0 1 72) (number (at 0 1 73) "1")) (stmts.Statement (at 0 1 75) None (stmts.Call (system (at 0 1 75) "$display" (text (at 0 1 84) "%0d" ∷ tree.Expr.Post (root.Plain (name (at 0 1 91) "e")) (tree.Member (name (at 0 1 93) "triggered") tree.NoSuffix) ∷ []))))) ∷ [])) None)) ∷ procedure (at 0 1 109) procedure_word.Initial (stmts.Statement (at 0 1 117) None (stmts.Block None [] (statements (stmts.Statement (at 0 1 123) None (stmts.On (stmts.Event.Named (name (at 0 1 124) "e")) (stmts.Statement (at 0 1 126) None (stmts.Call (system (at 0 1 126) "$display" (text (at 0 1 135) "e %0t" ∷ tree.System (name (at 0 1 144) "$time") tree.Unwritten ∷ []))))) ∷ [])) None)) ∷ []) None ∷ []

t40_seen : seen_in (Listed []) (Listed []) (elaborated t40 [] None) 25 ≡ Ran (record { log = lines ("1" ∷ "e 1" ∷ "0" ∷ []); wave = lines ("$timescale 1ns $end" ∷ "$scope module t $end" ∷ "$upscope $end" ∷ "$enddefinitions $end" ∷ "#0" ∷ "$dumpvars" ∷ "$end" ∷ []); outcome = Done; time = 2; steps = 22; race = Some (10, at 0 1 17) })
unfolding symbols_of word_of
t40_seen = refl

-- module t(input logic a); wire w; assign w = a; assign w = ~a; endmodule
abbrev t41 : List Description
t41 = module_ (at 0 1 1) life.Unwritten (name (at 0 1 8) "t") None (port (Some port_direction.Input) false (types.Written (types.WrittenType.Vector (at 0 1 16) vector_word.Logic sign.Unwritten None)) (name (at 0 1 22) "a") ∷ []) (net (at 0 1 26) sign.Unwritten None (net_item (name (at 0 1 31) "w") None ∷ []) ∷ items.Assign (assign_item (target (at 0 1 41) "w") (plain (at 0 1 45) "a") ∷ []) ∷ items.Assign (assign_item (target (at 0 1 55) "w") (tree.Unary (at 0 1 59) unary_word.Invert (plain (at 0 1 60) "a")) ∷ []) ∷ []) None ∷ []

t41_seen : seen_in (Listed []) (Listed []) (elaborated t41 [] None) 9 ≡ Ran (record { log = []; wave = lines ("$timescale 1ns $end" ∷ "$scope module t $end" ∷ "$var wire 1 ! a $end" ∷ "$var wire 1 \" w $end" ∷ "$upscope $end" ∷ "$enddefinitions $end" ∷ "#0" ∷ "$dumpvars" ∷ "z!" ∷ "x\"" ∷ "$end" ∷ []); outcome = Done; time = 0; steps = 6; race = Some (1, at 0 1 31) })
unfolding symbols_of word_of
t41_seen = refl

-- module t; logic a, b; always_comb a = b; always_comb b = a; endmodule
abbrev t42 : List Description
t42 = module_ (at 0 1 1) life.Unwritten (name (at 0 1 8) "t") None [] (items.Decl (decl life.Unwritten (types.WrittenType.Vector (at 0 1 11) vector_word.Logic sign.Unwritten None) (declarator (name (at 0 1 17) "a") None None ∷ declarator (name (at 0 1 20) "b") None None ∷ [])) ∷ procedure (at 0 1 23) procedure_word.AlwaysComb (stmts.Statement (at 0 1 35) None (blocking (target (at 0 1 35) "a") None (stmts.Value (plain (at 0 1 39) "b")))) ∷ procedure (at 0 1 42) procedure_word.AlwaysComb (stmts.Statement (at 0 1 54) None (blocking (target (at 0 1 54) "b") None (stmts.Value (plain (at 0 1 58) "a")))) ∷ []) None ∷ []

t42_seen : seen_in (Listed []) (Listed []) (elaborated t42 [] None) 9 ≡ Ran (record { log = []; wave = lines ("$timescale 1ns $end" ∷ "$scope module t $end" ∷ "$var reg 1 ! a $end" ∷ "$var reg 1 \" b $end" ∷ "$upscope $end" ∷ "$enddefinitions $end" ∷ "#0" ∷ "$dumpvars" ∷ "x!" ∷ "x\"" ∷ "$end" ∷ []); outcome = Done; time = 0; steps = 6; race = Some (6, at 0 1 23) })
unfolding symbols_of word_of
t42_seen = refl

-- module t; logic a; always @* a = 1; endmodule
abbrev t43 : List Description
t43 = module_ (at 0 1 1) life.Unwritten (name (at 0 1 8) "t") None [] (items.Decl (decl life.Unwritten (types.WrittenType.Vector (at 0 1 11) vector_word.Logic sign.Unwritten None) (declarator (name (at 0 1 17) "a") None None ∷ [])) ∷ procedure (at 0 1 20) procedure_word.Always (stmts.Statement (at 0 1 27) None (stmts.On stmts.Star (stmts.Statement (at 0 1 30) None (blocking (target (at 0 1 30) "a") None (stmts.Value (number (at 0 1 34) "1")))))) ∷ []) None ∷ []

t43_seen : seen_in (Listed []) (Listed []) (elaborated t43 [] None) 7 ≡ Ran (record { log = []; wave = lines ("$timescale 1ns $end" ∷ "$scope module t $end" ∷ "$var reg 1 ! a $end" ∷ "$upscope $end" ∷ "$enddefinitions $end" ∷ "#0" ∷ "$dumpvars" ∷ "x!" ∷ "$end" ∷ []); outcome = Done; time = 0; steps = 4; race = Some (8, at 0 1 20) })
unfolding symbols_of word_of
t43_seen = refl

-- module t; logic [63:0] a; always_comb a = $time; endmodule
abbrev t45 : List Description
t45 = module_ (at 0 1 1) life.Unwritten (name (at 0 1 8) "t") None [] (items.Decl (decl life.Unwritten (types.WrittenType.Vector (at 0 1 11) vector_word.Logic sign.Unwritten (Some (range (at 0 1 17) (number (at 0 1 18) "63") (number (at 0 1 21) "0")))) (declarator (name (at 0 1 24) "a") None None ∷ [])) ∷ procedure (at 0 1 27) procedure_word.AlwaysComb (stmts.Statement (at 0 1 39) None (blocking (target (at 0 1 39) "a") None (stmts.Value (tree.System (name (at 0 1 43) "$time") tree.Unwritten)))) ∷ []) None ∷ []

t45_seen : seen_in (Listed []) (Listed []) (elaborated t45 [] None) 7 ≡ Ran (record { log = []; wave = lines ("$timescale 1ns $end" ∷ "$scope module t $end" ∷ "$var reg 64 ! a [63:0] $end" ∷ "$upscope $end" ∷ "$enddefinitions $end" ∷ "#0" ∷ "$dumpvars" ∷ "b0 !" ∷ "$end" ∷ []); outcome = Done; time = 0; steps = 4; race = Some (11, at 0 1 43) })
unfolding symbols_of word_of
t45_seen = refl

-- module t; initial #256 $display("a"); initial #255 $display("b"); initial #1 #255 $display("c"); endmodule
abbrev t47 : List Description
t47 = module_ (at 0 1 1) life.Unwritten (name (at 0 1 8) "t") None [] (procedure (at 0 1 11) procedure_word.Initial (stmts.Statement (at 0 1 19) None (stmts.After (delay (at 0 1 19) (number (at 0 1 20) "256")) (stmts.Statement (at 0 1 24) None (stmts.Call (system (at 0 1 24) "$display" (text (at 0 1 33) "a" ∷ [])))))) ∷ procedure (at 0 1 39) procedure_word.Initial (stmts.Statement (at 0 1 47) None (stmts.After (delay (at 0 1 47) (number (at 0 1 48) "255")) (stmts.Statement (at 0 1 52) None (stmts.Call (system (at 0 1 52) "$display" (text (at 0 1 61) "b" ∷ [])))))) ∷ procedure (at 0 1 67) procedure_word.Initial (stmts.Statement (at 0 1 75) None (stmts.After (delay (at 0 1 75) (number (at 0 1 76) "1")) (stmts.Statement (at 0 1 78) None (stmts.After (delay (at 0 1 78) (number (at 0 1 79) "255")) (stmts.Statement (at 0 1 83) None (stmts.Call (system (at 0 1 83) "$display" (text (at 0 1 92) "c" ∷ [])))))))) ∷ []) None ∷ []

t47_seen : seen_in (Listed []) (Listed []) (elaborated t47 [] None) 28 ≡ Ran (record { log = lines ("b" ∷ "a" ∷ "c" ∷ []); wave = lines ("$timescale 1ns $end" ∷ "$scope module t $end" ∷ "$upscope $end" ∷ "$enddefinitions $end" ∷ "#0" ∷ "$dumpvars" ∷ "$end" ∷ []); outcome = Done; time = 256; steps = 25; race = Some (8, at 0 1 11) })
unfolding symbols_of word_of
t47_seen = refl

-- module t; initial begin begin .. begin ; end .. end end endmodule, with 199 blocks in one another
abbrev t48 : List Description
t48 = module_ (at 0 1 1) life.Unwritten (name (at 0 1 8) "t") None [] (procedure (at 0 1 11) procedure_word.Initial (nested 199 19) ∷ []) None ∷ []

t48_seen : seen_in (Listed []) (Listed []) (elaborated t48 [] None) 120 ≡ Ran (record { log = []; wave = lines ("$timescale 1ns $end" ∷ "$scope module t $end" ∷ "$upscope $end" ∷ "$enddefinitions $end" ∷ []); outcome = Spent; time = 0; steps = 120; race = Some (8, at 0 1 11) })
unfolding symbols_of word_of
t48_seen = refl

-- module t;
-- function automatic int f(int n);
-- if (n > 1)
-- return f(n - 1);
-- return 1;
-- endfunction
-- initial $display("%0d", f(1001));
-- endmodule
abbrev t49 : List Description
t49 = module_ (at 0 1 1) life.Unwritten (name (at 0 1 8) "t") None [] (items.Routine (routine (head (at 0 2 1) life.Automatic (units.Returns.Value (types.Written (types.Atom (at 0 2 20) atom_word.Int sign.Unwritten))) (name (at 0 2 24) "f") (argument None (types.Written (types.Atom (at 0 2 26) atom_word.Int sign.Unwritten)) (name (at 0 2 30) "n") None ∷ [])) [] (stmts.Statement (at 0 3 1) None (stmts.If (tree.Binary binary_word.Greater (at 0 3 7) (plain (at 0 3 5) "n") (number (at 0 3 9) "1")) (stmts.Statement (at 0 4 1) None (stmts.Return (Some (tree.Expr.Post (root.Plain (name (at 0 4 8) "f")) (tree.Call (at 0 4 9) (expressions (tree.Binary binary_word.Minus (at 0 4 12) (plain (at 0 4 10) "n") (number (at 0 4 14) "1") ∷ [])) tree.NoSuffix)))))) ∷ stmts.Statement (at 0 5 1) None (stmts.Return (Some (number (at 0 5 8) "1"))) ∷ []) None) ∷ procedure (at 0 7 1) procedure_word.Initial (stmts.Statement (at 0 7 9) None (stmts.Call (system (at 0 7 9) "$display" (text (at 0 7 18) "%0d" ∷ tree.Expr.Post (root.Plain (name (at 0 7 25) "f")) (tree.Call (at 0 7 26) (expressions (number (at 0 7 27) "1001" ∷ [])) tree.NoSuffix) ∷ [])))) ∷ []) None ∷ []

t49_seen : seen_in (Listed []) (Listed []) (elaborated t49 [] None) 120 ≡ Ran (record { log = []; wave = lines ("$timescale 1ns $end" ∷ "$scope module t $end" ∷ "$upscope $end" ∷ "$enddefinitions $end" ∷ []); outcome = Spent; time = 0; steps = 120; race = Some (7, at 0 2 24) })
unfolding symbols_of word_of
t49_seen = refl

-- module t;
-- function automatic int f(int n);
-- if (n > 1)
-- return f(n - 1);
-- return 1;
-- endfunction
-- initial $display("%0d", f(1000));
-- endmodule
abbrev t50 : List Description
t50 = module_ (at 0 1 1) life.Unwritten (name (at 0 1 8) "t") None [] (items.Routine (routine (head (at 0 2 1) life.Automatic (units.Returns.Value (types.Written (types.Atom (at 0 2 20) atom_word.Int sign.Unwritten))) (name (at 0 2 24) "f") (argument None (types.Written (types.Atom (at 0 2 26) atom_word.Int sign.Unwritten)) (name (at 0 2 30) "n") None ∷ [])) [] (stmts.Statement (at 0 3 1) None (stmts.If (tree.Binary binary_word.Greater (at 0 3 7) (plain (at 0 3 5) "n") (number (at 0 3 9) "1")) (stmts.Statement (at 0 4 1) None (stmts.Return (Some (tree.Expr.Post (root.Plain (name (at 0 4 8) "f")) (tree.Call (at 0 4 9) (expressions (tree.Binary binary_word.Minus (at 0 4 12) (plain (at 0 4 10) "n") (number (at 0 4 14) "1") ∷ [])) tree.NoSuffix)))))) ∷ stmts.Statement (at 0 5 1) None (stmts.Return (Some (number (at 0 5 8) "1"))) ∷ []) None) ∷ procedure (at 0 7 1) procedure_word.Initial (stmts.Statement (at 0 7 9) None (stmts.Call (system (at 0 7 9) "$display" (text (at 0 7 18) "%0d" ∷ tree.Expr.Post (root.Plain (name (at 0 7 25) "f")) (tree.Call (at 0 7 26) (expressions (number (at 0 7 27) "1000" ∷ [])) tree.NoSuffix) ∷ [])))) ∷ []) None ∷ []

t50_seen : seen_in (Listed []) (Listed []) (elaborated t50 [] None) 120 ≡ Ran (record { log = []; wave = lines ("$timescale 1ns $end" ∷ "$scope module t $end" ∷ "$upscope $end" ∷ "$enddefinitions $end" ∷ []); outcome = Spent; time = 0; steps = 120; race = Some (7, at 0 2 24) })
unfolding symbols_of word_of
t50_seen = refl

-- module t; int q[$]; initial begin
-- repeat (1048576) q.push_back(0); $display("%0d", q.size());
-- q.push_back(0);
-- end endmodule
abbrev t51 : List Description
t51 = module_ (at 0 1 1) life.Unwritten (name (at 0 1 8) "t") None [] (items.Decl (decl life.Unwritten (types.Atom (at 0 1 11) atom_word.Int sign.Unwritten) (declarator (name (at 0 1 15) "q") (Some (stmts.Queue (at 0 1 16))) None ∷ [])) ∷ procedure (at 0 1 21) procedure_word.Initial (stmts.Statement (at 0 1 29) None (stmts.Block None [] (statements (stmts.Statement (at 0 2 1) None (stmts.Repeat (number (at 0 2 9) "1048576") (stmts.Statement (at 0 2 18) None (stmts.Call (tree.Expr.Post (root.Plain (name (at 0 2 18) "q")) (tree.Member (name (at 0 2 20) "push_back") (tree.Call (at 0 2 29) (expressions (number (at 0 2 30) "0" ∷ [])) tree.NoSuffix)))))) ∷ stmts.Statement (at 0 2 34) None (stmts.Call (system (at 0 2 34) "$display" (text (at 0 2 43) "%0d" ∷ tree.Expr.Post (root.Plain (name (at 0 2 50) "q")) (tree.Member (name (at 0 2 52) "size") (tree.Call (at 0 2 56) tree.NoExpr tree.NoSuffix)) ∷ []))) ∷ stmts.Statement (at 0 3 1) None (stmts.Call (tree.Expr.Post (root.Plain (name (at 0 3 1) "q")) (tree.Member (name (at 0 3 3) "push_back") (tree.Call (at 0 3 12) (expressions (number (at 0 3 13) "0" ∷ [])) tree.NoSuffix)))) ∷ [])) None)) ∷ []) None ∷ []

t51_seen : seen_in (Listed []) (Listed []) (elaborated t51 [] None) 120 ≡ Ran (record { log = []; wave = lines ("$timescale 1ns $end" ∷ "$scope module t $end" ∷ "$upscope $end" ∷ "$enddefinitions $end" ∷ []); outcome = Spent; time = 0; steps = 120; race = Some (10, at 0 1 15) })
unfolding symbols_of word_of
t51_seen = refl
