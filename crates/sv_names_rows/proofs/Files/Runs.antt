-- Texts of several files, units and roots: what a run shows.
use Rattle.std.proofs.Common.{◌≡◌, List, [], ◌∷◌, true, false, refl}
use Rattle.std.specs.Prelude.{Some, None, codes}
use Rattle.sv_value.specs.Vector.{symbols_of, word_of}
use Rattle.sv_flat.specs.declared.choices.Choices.TheVariants.{Listed}
use Rattle.sv_flat.specs.Directed.{Done}
use Rattle.sv_tree.specs.declared.word.BinaryWord.TheVariants as binary_word
use Rattle.sv_tree.specs.declared.word.VectorWord.TheVariants as vector_word
use Rattle.sv_tree.specs.declared.word.AtomWord.TheVariants as atom_word
use Rattle.sv_tree.specs.declared.word.Sign.TheVariants as sign
use Rattle.sv_tree.specs.declared.word.Life.TheVariants as life
use Rattle.sv_tree.specs.declared.word.ProcedureWord.TheVariants as procedure_word
use Rattle.sv_tree.specs.declared.word.PortDirection.TheVariants as port_direction
use Rattle.sv_tree.specs.declared.word.ParamWord.TheVariants as param_word
use Rattle.sv_tree.specs.declared.expr.Root.TheVariants as root
use Rattle.sv_tree.specs.Expr as tree
use Rattle.sv_tree.specs.Types as types
use Rattle.sv_tree.specs.Stmt as stmts
use Rattle.sv_tree.specs.Units as units
use Rattle.sv_tree.specs.Items as items
use Rattle.sv_tree.specs.Descriptions as descriptions
use Rattle.sv_tree.specs.Descriptions.{Description}
use Rattle.sv_names.specs.Design.{elaborated}
use Rattle.sv_names_rows.proofs.Kit.{argument, at, blocking, class_, decl, declarator, delay, enum_item, expressions, head, instance, instances, lines, method, module_, name, number, param, plain, port, procedure, program_, property, qualifiers, range, routine, scale, seen_in, statements, system, target, text, typedef, unqualified, value, Ran}

-- `timescale 1ns/1ns
-- `timescale 1ns/1ns
-- module t; initial #3 $display("%0t", $time); endmodule
abbrev t2 : List Description
t2 = module_ (at 0 3 1) life.Unwritten (name (at 0 3 8) "t") None [] (procedure (at 0 3 11) procedure_word.Initial (stmts.Statement (at 0 3 19) None (stmts.After (delay (at 0 3 19) (number (at 0 3 20) "3")) (stmts.Statement (at 0 3 22) None (stmts.Call (system (at 0 3 22) "$display" (text (at 0 3 31) "%0t" ∷ tree.System (name (at 0 3 38) "$time") tree.Unwritten ∷ [])))))) ∷ []) None ∷ []

t2_seen : seen_in (Listed []) (Listed []) (elaborated t2 (scale 6 6 (at 0 1 1) ∷ scale 6 6 (at 0 2 1) ∷ []) None) 12 ≡ Ran (record { log = lines ("3" ∷ []); wave = lines ("$timescale 1ns $end" ∷ "$scope module t $end" ∷ "$upscope $end" ∷ "$enddefinitions $end" ∷ "#0" ∷ "$dumpvars" ∷ "$end" ∷ []); outcome = Done; time = 3; steps = 9; race = Some (8, at 0 3 11) })
unfolding symbols_of word_of
t2_seen = refl

-- `timescale 1ns/1ps
-- module t; initial #1 $display("%0t", $time); endmodule
-- ----
-- `timescale 1ns/1ps
-- module u; initial #2 $display("%0t", $time); endmodule
abbrev t3 : List Description
t3 = module_ (at 0 2 1) life.Unwritten (name (at 0 2 8) "t") None [] (procedure (at 0 2 11) procedure_word.Initial (stmts.Statement (at 0 2 19) None (stmts.After (delay (at 0 2 19) (number (at 0 2 20) "1")) (stmts.Statement (at 0 2 22) None (stmts.Call (system (at 0 2 22) "$display" (text (at 0 2 31) "%0t" ∷ tree.System (name (at 0 2 38) "$time") tree.Unwritten ∷ [])))))) ∷ []) None ∷ module_ (at 1 2 1) life.Unwritten (name (at 1 2 8) "u") None [] (procedure (at 1 2 11) procedure_word.Initial (stmts.Statement (at 1 2 19) None (stmts.After (delay (at 1 2 19) (number (at 1 2 20) "2")) (stmts.Statement (at 1 2 22) None (stmts.Call (system (at 1 2 22) "$display" (text (at 1 2 31) "%0t" ∷ tree.System (name (at 1 2 38) "$time") tree.Unwritten ∷ [])))))) ∷ []) None ∷ []

t3_seen : seen_in (Listed []) (Listed []) (elaborated t3 (scale 6 3 (at 0 1 1) ∷ scale 6 3 (at 1 1 1) ∷ []) None) 19 ≡ Ran (record { log = lines ("1000" ∷ "2000" ∷ []); wave = lines ("$timescale 1ps $end" ∷ "$scope module t $end" ∷ "$upscope $end" ∷ "$scope module u $end" ∷ "$upscope $end" ∷ "$enddefinitions $end" ∷ "#0" ∷ "$dumpvars" ∷ "$end" ∷ []); outcome = Done; time = 2000; steps = 16; race = Some (8, at 0 2 11) })
unfolding symbols_of word_of
t3_seen = refl

-- module t; u x(); initial $display("t"); endmodule
-- ----
-- module u; initial $display("u"); endmodule
abbrev t7 : List Description
t7 = module_ (at 0 1 1) life.Unwritten (name (at 0 1 8) "t") None [] (instances (name (at 0 1 11) "u") [] (instance (name (at 0 1 13) "x") [] ∷ []) ∷ procedure (at 0 1 18) procedure_word.Initial (stmts.Statement (at 0 1 26) None (stmts.Call (system (at 0 1 26) "$display" (text (at 0 1 35) "t" ∷ [])))) ∷ []) None ∷ module_ (at 1 1 1) life.Unwritten (name (at 1 1 8) "u") None [] (procedure (at 1 1 11) procedure_word.Initial (stmts.Statement (at 1 1 19) None (stmts.Call (system (at 1 1 19) "$display" (text (at 1 1 28) "u" ∷ [])))) ∷ []) None ∷ []

t7_seen : seen_in (Listed []) (Listed []) (elaborated t7 [] None) 9 ≡ Ran (record { log = lines ("u" ∷ "t" ∷ []); wave = lines ("$timescale 1ns $end" ∷ "$scope module t $end" ∷ "$scope module x $end" ∷ "$upscope $end" ∷ "$upscope $end" ∷ "$enddefinitions $end" ∷ "#0" ∷ "$dumpvars" ∷ "$end" ∷ []); outcome = Done; time = 0; steps = 6; race = Some (8, at 0 1 18) })
unfolding symbols_of word_of
t7_seen = refl

-- module u; initial $display("u"); endmodule
-- ----
-- module t; u x(); u y(); initial $display("t"); endmodule
abbrev t8 : List Description
t8 = module_ (at 0 1 1) life.Unwritten (name (at 0 1 8) "u") None [] (procedure (at 0 1 11) procedure_word.Initial (stmts.Statement (at 0 1 19) None (stmts.Call (system (at 0 1 19) "$display" (text (at 0 1 28) "u" ∷ [])))) ∷ []) None ∷ module_ (at 1 1 1) life.Unwritten (name (at 1 1 8) "t") None [] (instances (name (at 1 1 11) "u") [] (instance (name (at 1 1 13) "x") [] ∷ []) ∷ instances (name (at 1 1 18) "u") [] (instance (name (at 1 1 20) "y") [] ∷ []) ∷ procedure (at 1 1 25) procedure_word.Initial (stmts.Statement (at 1 1 33) None (stmts.Call (system (at 1 1 33) "$display" (text (at 1 1 42) "t" ∷ [])))) ∷ []) None ∷ []

t8_seen : seen_in (Listed []) (Listed []) (elaborated t8 [] None) 11 ≡ Ran (record { log = lines ("u" ∷ "u" ∷ "t" ∷ []); wave = lines ("$timescale 1ns $end" ∷ "$scope module t $end" ∷ "$scope module x $end" ∷ "$upscope $end" ∷ "$scope module y $end" ∷ "$upscope $end" ∷ "$upscope $end" ∷ "$enddefinitions $end" ∷ "#0" ∷ "$dumpvars" ∷ "$end" ∷ []); outcome = Done; time = 0; steps = 8; race = Some (8, at 0 1 11) })
unfolding symbols_of word_of
t8_seen = refl

-- localparam A = B + 1;
-- ----
-- localparam B = 2; module t; initial $display("%0d", A); endmodule
abbrev t9 : List Description
t9 = descriptions.Item (items.Param (param param_word.Localparam types.Unwritten (value (name (at 0 1 12) "A") (tree.Binary binary_word.Plus (at 0 1 18) (plain (at 0 1 16) "B") (number (at 0 1 20) "1")) ∷ []))) ∷ descriptions.Item (items.Param (param param_word.Localparam types.Unwritten (value (name (at 1 1 12) "B") (number (at 1 1 16) "2") ∷ []))) ∷ module_ (at 1 1 19) life.Unwritten (name (at 1 1 26) "t") None [] (procedure (at 1 1 29) procedure_word.Initial (stmts.Statement (at 1 1 37) None (stmts.Call (system (at 1 1 37) "$display" (text (at 1 1 46) "%0d" ∷ plain (at 1 1 53) "A" ∷ [])))) ∷ []) None ∷ []

t9_seen : seen_in (Listed []) (Listed []) (elaborated t9 [] None) 7 ≡ Ran (record { log = lines ("3" ∷ []); wave = lines ("$timescale 1ns $end" ∷ "$scope module t $end" ∷ "$upscope $end" ∷ "$enddefinitions $end" ∷ "#0" ∷ "$dumpvars" ∷ "$end" ∷ []); outcome = Done; time = 0; steps = 4; race = Some (8, at 1 1 29) })
unfolding symbols_of word_of
t9_seen = refl

-- class P; int v = 1; endclass
-- ----
-- class Q extends P; int w = 2; endclass
-- ----
-- module t; Q q; initial begin q = new; $display("%0d %0d", q.v, q.w); end endmodule
abbrev t11 : List Description
t11 = descriptions.Item (items.Class (class_ (at 0 1 1) false (name (at 0 1 7) "P") None (property unqualified (decl life.Unwritten (types.Atom (at 0 1 10) atom_word.Int sign.Unwritten) (declarator (name (at 0 1 14) "v") None (Some (stmts.Value (number (at 0 1 18) "1"))) ∷ [])) ∷ []) None)) ∷ descriptions.Item (items.Class (class_ (at 1 1 1) false (name (at 1 1 7) "Q") (Some (name (at 1 1 17) "P")) (property unqualified (decl life.Unwritten (types.Atom (at 1 1 20) atom_word.Int sign.Unwritten) (declarator (name (at 1 1 24) "w") None (Some (stmts.Value (number (at 1 1 28) "2"))) ∷ [])) ∷ []) None)) ∷ module_ (at 2 1 1) life.Unwritten (name (at 2 1 8) "t") None [] (items.Decl (decl life.Unwritten (types.Named (name (at 2 1 11) "Q")) (declarator (name (at 2 1 13) "q") None None ∷ [])) ∷ procedure (at 2 1 16) procedure_word.Initial (stmts.Statement (at 2 1 24) None (stmts.Block None [] (statements (stmts.Statement (at 2 1 30) None (blocking (target (at 2 1 30) "q") None (stmts.New (at 2 1 34) tree.Unwritten)) ∷ stmts.Statement (at 2 1 39) None (stmts.Call (system (at 2 1 39) "$display" (text (at 2 1 48) "%0d %0d" ∷ tree.Expr.Post (root.Plain (name (at 2 1 59) "q")) (tree.Member (name (at 2 1 61) "v") tree.NoSuffix) ∷ tree.Expr.Post (root.Plain (name (at 2 1 64) "q")) (tree.Member (name (at 2 1 66) "w") tree.NoSuffix) ∷ []))) ∷ [])) None)) ∷ []) None ∷ []

t11_seen : seen_in (Listed []) (Listed []) (elaborated t11 [] None) 15 ≡ Ran (record { log = lines ("1 2" ∷ []); wave = lines ("$timescale 1ns $end" ∷ "$scope module t $end" ∷ "$upscope $end" ∷ "$enddefinitions $end" ∷ "#0" ∷ "$dumpvars" ∷ "$end" ∷ []); outcome = Done; time = 0; steps = 12; race = Some (10, at 2 1 13) })
unfolding symbols_of word_of
t11_seen = refl

-- class Q extends P; int w = 2; endclass
-- ----
-- class P; int v = 1; endclass module t; Q q; initial begin q = new; $display("%0d %0d", q.v, q.w); end endmodule
abbrev t12 : List Description
t12 = descriptions.Item (items.Class (class_ (at 0 1 1) false (name (at 0 1 7) "Q") (Some (name (at 0 1 17) "P")) (property unqualified (decl life.Unwritten (types.Atom (at 0 1 20) atom_word.Int sign.Unwritten) (declarator (name (at 0 1 24) "w") None (Some (stmts.Value (number (at 0 1 28) "2"))) ∷ [])) ∷ []) None)) ∷ descriptions.Item (items.Class (class_ (at 1 1 1) false (name (at 1 1 7) "P") None (property unqualified (decl life.Unwritten (types.Atom (at 1 1 10) atom_word.Int sign.Unwritten) (declarator (name (at 1 1 14) "v") None (Some (stmts.Value (number (at 1 1 18) "1"))) ∷ [])) ∷ []) None)) ∷ module_ (at 1 1 30) life.Unwritten (name (at 1 1 37) "t") None [] (items.Decl (decl life.Unwritten (types.Named (name (at 1 1 40) "Q")) (declarator (name (at 1 1 42) "q") None None ∷ [])) ∷ procedure (at 1 1 45) procedure_word.Initial (stmts.Statement (at 1 1 53) None (stmts.Block None [] (statements (stmts.Statement (at 1 1 59) None (blocking (target (at 1 1 59) "q") None (stmts.New (at 1 1 63) tree.Unwritten)) ∷ stmts.Statement (at 1 1 68) None (stmts.Call (system (at 1 1 68) "$display" (text (at 1 1 77) "%0d %0d" ∷ tree.Expr.Post (root.Plain (name (at 1 1 88) "q")) (tree.Member (name (at 1 1 90) "v") tree.NoSuffix) ∷ tree.Expr.Post (root.Plain (name (at 1 1 93) "q")) (tree.Member (name (at 1 1 95) "w") tree.NoSuffix) ∷ []))) ∷ [])) None)) ∷ []) None ∷ []

t12_seen : seen_in (Listed []) (Listed []) (elaborated t12 [] None) 15 ≡ Ran (record { log = lines ("1 2" ∷ []); wave = lines ("$timescale 1ns $end" ∷ "$scope module t $end" ∷ "$upscope $end" ∷ "$enddefinitions $end" ∷ "#0" ∷ "$dumpvars" ∷ "$end" ∷ []); outcome = Done; time = 0; steps = 12; race = Some (10, at 1 1 42) })
unfolding symbols_of word_of
t12_seen = refl

-- typedef enum {A, B} e;
-- ----
-- module t; e x; initial begin x = B; $display("%s", x.name()); end endmodule
abbrev t19 : List Description
t19 = descriptions.Item (items.Typedef (typedef (types.Enum (at 0 1 9) (enum_item (name (at 0 1 15) "A") None ∷ enum_item (name (at 0 1 18) "B") None ∷ [])) (name (at 0 1 21) "e"))) ∷ module_ (at 1 1 1) life.Unwritten (name (at 1 1 8) "t") None [] (items.Decl (decl life.Unwritten (types.Named (name (at 1 1 11) "e")) (declarator (name (at 1 1 13) "x") None None ∷ [])) ∷ procedure (at 1 1 16) procedure_word.Initial (stmts.Statement (at 1 1 24) None (stmts.Block None [] (statements (stmts.Statement (at 1 1 30) None (blocking (target (at 1 1 30) "x") None (stmts.Value (plain (at 1 1 34) "B"))) ∷ stmts.Statement (at 1 1 37) None (stmts.Call (system (at 1 1 37) "$display" (text (at 1 1 46) "%s" ∷ tree.Expr.Post (root.Plain (name (at 1 1 52) "x")) (tree.Member (name (at 1 1 54) "name") (tree.Call (at 1 1 58) tree.NoExpr tree.NoSuffix)) ∷ []))) ∷ [])) None)) ∷ []) None ∷ []

t19_seen : seen_in (Listed []) (Listed []) (elaborated t19 [] None) 9 ≡ Ran (record { log = lines ("B" ∷ []); wave = lines ("$timescale 1ns $end" ∷ "$scope module t $end" ∷ "$var reg 32 ! x $end" ∷ "$upscope $end" ∷ "$enddefinitions $end" ∷ "#0" ∷ "$dumpvars" ∷ "b1 !" ∷ "$end" ∷ []); outcome = Done; time = 0; steps = 6; race = Some (8, at 1 1 16) })
unfolding symbols_of word_of
t19_seen = refl

-- task automatic w(int x); #x $display("w%0d", x); endtask
-- ----
-- program p; initial begin w(2); w(3); end endprogram
abbrev t20 : List Description
t20 = descriptions.Item (items.Routine (routine (head (at 0 1 1) life.Automatic units.Task (name (at 0 1 16) "w") (argument None (types.Written (types.Atom (at 0 1 18) atom_word.Int sign.Unwritten)) (name (at 0 1 22) "x") None ∷ [])) [] (stmts.Statement (at 0 1 26) None (stmts.After (delay (at 0 1 26) (plain (at 0 1 27) "x")) (stmts.Statement (at 0 1 29) None (stmts.Call (system (at 0 1 29) "$display" (text (at 0 1 38) "w%0d" ∷ plain (at 0 1 46) "x" ∷ []))))) ∷ []) None)) ∷ program_ (at 1 1 1) life.Unwritten (name (at 1 1 9) "p") None [] (procedure (at 1 1 12) procedure_word.Initial (stmts.Statement (at 1 1 20) None (stmts.Block None [] (statements (stmts.Statement (at 1 1 26) None (stmts.Call (tree.Expr.Post (root.Plain (name (at 1 1 26) "w")) (tree.Call (at 1 1 27) (expressions (number (at 1 1 28) "2" ∷ [])) tree.NoSuffix))) ∷ stmts.Statement (at 1 1 32) None (stmts.Call (tree.Expr.Post (root.Plain (name (at 1 1 32) "w")) (tree.Call (at 1 1 33) (expressions (number (at 1 1 34) "3" ∷ [])) tree.NoSuffix))) ∷ [])) None)) ∷ []) None ∷ []

t20_seen : seen_in (Listed []) (Listed []) (elaborated t20 [] None) 23 ≡ Ran (record { log = lines ("w2" ∷ "w3" ∷ []); wave = lines ("$timescale 1ns $end" ∷ "$scope module p $end" ∷ "$upscope $end" ∷ "$enddefinitions $end" ∷ "#0" ∷ "$dumpvars" ∷ "$end" ∷ []); outcome = Done; time = 5; steps = 20; race = None })
unfolding symbols_of word_of
t20_seen = refl

-- module t; initial $display("t"); endmodule
-- ----
-- program p; initial $display("p"); endprogram
abbrev t21 : List Description
t21 = module_ (at 0 1 1) life.Unwritten (name (at 0 1 8) "t") None [] (procedure (at 0 1 11) procedure_word.Initial (stmts.Statement (at 0 1 19) None (stmts.Call (system (at 0 1 19) "$display" (text (at 0 1 28) "t" ∷ [])))) ∷ []) None ∷ program_ (at 1 1 1) life.Unwritten (name (at 1 1 9) "p") None [] (procedure (at 1 1 12) procedure_word.Initial (stmts.Statement (at 1 1 20) None (stmts.Call (system (at 1 1 20) "$display" (text (at 1 1 29) "p" ∷ [])))) ∷ []) None ∷ []

t21_seen : seen_in (Listed []) (Listed []) (elaborated t21 [] None) 9 ≡ Ran (record { log = lines ("t" ∷ "p" ∷ []); wave = lines ("$timescale 1ns $end" ∷ "$scope module t $end" ∷ "$upscope $end" ∷ "$scope module p $end" ∷ "$upscope $end" ∷ "$enddefinitions $end" ∷ "#0" ∷ "$dumpvars" ∷ "$end" ∷ []); outcome = Done; time = 0; steps = 6; race = Some (8, at 0 1 11) })
unfolding symbols_of word_of
t21_seen = refl

-- program p; endprogram
-- ----
-- program q; endprogram
abbrev t22 : List Description
t22 = program_ (at 0 1 1) life.Unwritten (name (at 0 1 9) "p") None [] [] None ∷ program_ (at 1 1 1) life.Unwritten (name (at 1 1 9) "q") None [] [] None ∷ []

t22_seen : seen_in (Listed []) (Listed []) (elaborated t22 [] None) 5 ≡ Ran (record { log = []; wave = lines ("$timescale 1ns $end" ∷ "$scope module p $end" ∷ "$upscope $end" ∷ "$scope module q $end" ∷ "$upscope $end" ∷ "$enddefinitions $end" ∷ "#0" ∷ "$dumpvars" ∷ "$end" ∷ []); outcome = Done; time = 0; steps = 2; race = None })
unfolding symbols_of word_of
t22_seen = refl

-- module t; initial $display("t"); endmodule module u; initial $display("u"); endmodule
abbrev t23 : List Description
t23 = module_ (at 0 1 1) life.Unwritten (name (at 0 1 8) "t") None [] (procedure (at 0 1 11) procedure_word.Initial (stmts.Statement (at 0 1 19) None (stmts.Call (system (at 0 1 19) "$display" (text (at 0 1 28) "t" ∷ [])))) ∷ []) None ∷ module_ (at 0 1 44) life.Unwritten (name (at 0 1 51) "u") None [] (procedure (at 0 1 54) procedure_word.Initial (stmts.Statement (at 0 1 62) None (stmts.Call (system (at 0 1 62) "$display" (text (at 0 1 71) "u" ∷ [])))) ∷ []) None ∷ []

t23_seen : seen_in (Listed []) (Listed []) (elaborated t23 [] (Some (codes "u"))) 7 ≡ Ran (record { log = lines ("u" ∷ []); wave = lines ("$timescale 1ns $end" ∷ "$scope module u $end" ∷ "$upscope $end" ∷ "$enddefinitions $end" ∷ "#0" ∷ "$dumpvars" ∷ "$end" ∷ []); outcome = Done; time = 0; steps = 4; race = Some (8, at 0 1 54) })
unfolding symbols_of word_of
t23_seen = refl

-- module t; u x(); initial $display("t"); endmodule module u; initial $display("u"); endmodule
abbrev t24 : List Description
t24 = module_ (at 0 1 1) life.Unwritten (name (at 0 1 8) "t") None [] (instances (name (at 0 1 11) "u") [] (instance (name (at 0 1 13) "x") [] ∷ []) ∷ procedure (at 0 1 18) procedure_word.Initial (stmts.Statement (at 0 1 26) None (stmts.Call (system (at 0 1 26) "$display" (text (at 0 1 35) "t" ∷ [])))) ∷ []) None ∷ module_ (at 0 1 51) life.Unwritten (name (at 0 1 58) "u") None [] (procedure (at 0 1 61) procedure_word.Initial (stmts.Statement (at 0 1 69) None (stmts.Call (system (at 0 1 69) "$display" (text (at 0 1 78) "u" ∷ [])))) ∷ []) None ∷ []

t24_seen : seen_in (Listed []) (Listed []) (elaborated t24 [] (Some (codes "t"))) 9 ≡ Ran (record { log = lines ("u" ∷ "t" ∷ []); wave = lines ("$timescale 1ns $end" ∷ "$scope module t $end" ∷ "$scope module x $end" ∷ "$upscope $end" ∷ "$upscope $end" ∷ "$enddefinitions $end" ∷ "#0" ∷ "$dumpvars" ∷ "$end" ∷ []); outcome = Done; time = 0; steps = 6; race = Some (8, at 0 1 18) })
unfolding symbols_of word_of
t24_seen = refl

-- module t; int a; int a; endmodule module u; initial $display("u"); endmodule
abbrev t25 : List Description
t25 = module_ (at 0 1 1) life.Unwritten (name (at 0 1 8) "t") None [] (items.Decl (decl life.Unwritten (types.Atom (at 0 1 11) atom_word.Int sign.Unwritten) (declarator (name (at 0 1 15) "a") None None ∷ [])) ∷ items.Decl (decl life.Unwritten (types.Atom (at 0 1 18) atom_word.Int sign.Unwritten) (declarator (name (at 0 1 22) "a") None None ∷ [])) ∷ []) None ∷ module_ (at 0 1 35) life.Unwritten (name (at 0 1 42) "u") None [] (procedure (at 0 1 45) procedure_word.Initial (stmts.Statement (at 0 1 53) None (stmts.Call (system (at 0 1 53) "$display" (text (at 0 1 62) "u" ∷ [])))) ∷ []) None ∷ []

t25_seen : seen_in (Listed []) (Listed []) (elaborated t25 [] (Some (codes "u"))) 7 ≡ Ran (record { log = lines ("u" ∷ []); wave = lines ("$timescale 1ns $end" ∷ "$scope module u $end" ∷ "$upscope $end" ∷ "$enddefinitions $end" ∷ "#0" ∷ "$dumpvars" ∷ "$end" ∷ []); outcome = Done; time = 0; steps = 4; race = Some (8, at 0 1 45) })
unfolding symbols_of word_of
t25_seen = refl

-- module t; u x(); endmodule module u #(parameter P = 4); initial $display("%0d", P); endmodule
abbrev t27 : List Description
t27 = module_ (at 0 1 1) life.Unwritten (name (at 0 1 8) "t") None [] (instances (name (at 0 1 11) "u") [] (instance (name (at 0 1 13) "x") [] ∷ []) ∷ []) None ∷ module_ (at 0 1 28) life.Unwritten (name (at 0 1 35) "u") (Some (param param_word.Parameter types.Unwritten (value (name (at 0 1 49) "P") (number (at 0 1 53) "4") ∷ []) ∷ [])) [] (procedure (at 0 1 57) procedure_word.Initial (stmts.Statement (at 0 1 65) None (stmts.Call (system (at 0 1 65) "$display" (text (at 0 1 74) "%0d" ∷ plain (at 0 1 81) "P" ∷ [])))) ∷ []) None ∷ []

t27_seen : seen_in (Listed []) (Listed []) (elaborated t27 [] (Some (codes "u"))) 7 ≡ Ran (record { log = lines ("4" ∷ []); wave = lines ("$timescale 1ns $end" ∷ "$scope module u $end" ∷ "$upscope $end" ∷ "$enddefinitions $end" ∷ "#0" ∷ "$dumpvars" ∷ "$end" ∷ []); outcome = Done; time = 0; steps = 4; race = Some (8, at 0 1 57) })
unfolding symbols_of word_of
t27_seen = refl

-- class C; function new(int a); endfunction endclass
-- ----
-- class D extends C; function new(); super.new(2); endfunction endclass module t; D d; initial begin d = new; $display("%0d", d != null); end endmodule
abbrev t39 : List Description
t39 = descriptions.Item (items.Class (class_ (at 0 1 1) false (name (at 0 1 7) "C") None (method unqualified (routine (head (at 0 1 10) life.Unwritten (units.Returns.Value types.Unwritten) (name (at 0 1 19) "new") (argument None (types.Written (types.Atom (at 0 1 23) atom_word.Int sign.Unwritten)) (name (at 0 1 27) "a") None ∷ [])) [] [] None) ∷ []) None)) ∷ descriptions.Item (items.Class (class_ (at 1 1 1) false (name (at 1 1 7) "D") (Some (name (at 1 1 17) "C")) (method unqualified (routine (head (at 1 1 20) life.Unwritten (units.Returns.Value types.Unwritten) (name (at 1 1 29) "new") []) [] (stmts.Statement (at 1 1 36) None (stmts.Call (tree.SuperNew (at 1 1 36) (at 1 1 42) (tree.Written (expressions (number (at 1 1 46) "2" ∷ []))))) ∷ []) None) ∷ []) None)) ∷ module_ (at 1 1 71) life.Unwritten (name (at 1 1 78) "t") None [] (items.Decl (decl life.Unwritten (types.Named (name (at 1 1 81) "D")) (declarator (name (at 1 1 83) "d") None None ∷ [])) ∷ procedure (at 1 1 86) procedure_word.Initial (stmts.Statement (at 1 1 94) None (stmts.Block None [] (statements (stmts.Statement (at 1 1 100) None (blocking (target (at 1 1 100) "d") None (stmts.New (at 1 1 104) tree.Unwritten)) ∷ stmts.Statement (at 1 1 109) None (stmts.Call (system (at 1 1 109) "$display" (text (at 1 1 118) "%0d" ∷ tree.Binary binary_word.NotEqual (at 1 1 127) (plain (at 1 1 125) "d") (tree.Null (at 1 1 130)) ∷ []))) ∷ [])) None)) ∷ []) None ∷ []

t39_seen : seen_in (Listed []) (Listed []) (elaborated t39 [] None) 13 ≡ Ran (record { log = lines ("1" ∷ []); wave = lines ("$timescale 1ns $end" ∷ "$scope module t $end" ∷ "$upscope $end" ∷ "$enddefinitions $end" ∷ "#0" ∷ "$dumpvars" ∷ "$end" ∷ []); outcome = Done; time = 0; steps = 10; race = Some (10, at 1 1 83) })
unfolding symbols_of word_of
t39_seen = refl

-- `timescale 10ns/1ns
-- module t; initial begin #1 $display("%0t %0d", $time, $time); #20ns $display("%t", $time); end endmodule
abbrev t42 : List Description
t42 = module_ (at 0 2 1) life.Unwritten (name (at 0 2 8) "t") None [] (procedure (at 0 2 11) procedure_word.Initial (stmts.Statement (at 0 2 19) None (stmts.Block None [] (statements (stmts.Statement (at 0 2 25) None (stmts.After (delay (at 0 2 25) (number (at 0 2 26) "1")) (stmts.Statement (at 0 2 28) None (stmts.Call (system (at 0 2 28) "$display" (text (at 0 2 37) "%0t %0d" ∷ tree.System (name (at 0 2 48) "$time") tree.Unwritten ∷ tree.System (name (at 0 2 55) "$time") tree.Unwritten ∷ []))))) ∷ stmts.Statement (at 0 2 63) None (stmts.After (delay (at 0 2 63) (tree.Time (at 0 2 64) (codes "20ns"))) (stmts.Statement (at 0 2 69) None (stmts.Call (system (at 0 2 69) "$display" (text (at 0 2 78) "%t" ∷ tree.System (name (at 0 2 84) "$time") tree.Unwritten ∷ []))))) ∷ [])) None)) ∷ []) None ∷ []

t42_seen : seen_in (Listed []) (Listed []) (elaborated t42 (scale 7 6 (at 0 1 1) ∷ []) None) 19 ≡ Ran (record { log = lines ("10 1" ∷ "                  30" ∷ []); wave = lines ("$timescale 1ns $end" ∷ "$scope module t $end" ∷ "$upscope $end" ∷ "$enddefinitions $end" ∷ "#0" ∷ "$dumpvars" ∷ "$end" ∷ []); outcome = Done; time = 30; steps = 16; race = Some (8, at 0 2 11) })
unfolding symbols_of word_of
t42_seen = refl

-- `timescale 10ns/1ns
-- module t; initial begin #12ns $display("%0t %0d", $time, $time); #15ns $display("%t", $time); end endmodule
abbrev t43 : List Description
t43 = module_ (at 0 2 1) life.Unwritten (name (at 0 2 8) "t") None [] (procedure (at 0 2 11) procedure_word.Initial (stmts.Statement (at 0 2 19) None (stmts.Block None [] (statements (stmts.Statement (at 0 2 25) None (stmts.After (delay (at 0 2 25) (tree.Time (at 0 2 26) (codes "12ns"))) (stmts.Statement (at 0 2 31) None (stmts.Call (system (at 0 2 31) "$display" (text (at 0 2 40) "%0t %0d" ∷ tree.System (name (at 0 2 51) "$time") tree.Unwritten ∷ tree.System (name (at 0 2 58) "$time") tree.Unwritten ∷ []))))) ∷ stmts.Statement (at 0 2 66) None (stmts.After (delay (at 0 2 66) (tree.Time (at 0 2 67) (codes "15ns"))) (stmts.Statement (at 0 2 72) None (stmts.Call (system (at 0 2 72) "$display" (text (at 0 2 81) "%t" ∷ tree.System (name (at 0 2 87) "$time") tree.Unwritten ∷ []))))) ∷ [])) None)) ∷ []) None ∷ []

t43_seen : seen_in (Listed []) (Listed []) (elaborated t43 (scale 7 6 (at 0 1 1) ∷ []) None) 19 ≡ Ran (record { log = lines ("10 1" ∷ "                  30" ∷ []); wave = lines ("$timescale 1ns $end" ∷ "$scope module t $end" ∷ "$upscope $end" ∷ "$enddefinitions $end" ∷ "#0" ∷ "$dumpvars" ∷ "$end" ∷ []); outcome = Done; time = 27; steps = 16; race = Some (8, at 0 2 11) })
unfolding symbols_of word_of
t43_seen = refl

-- parameter int n = 3;
-- ----
-- module t; initial $display("%0d", n); endmodule
abbrev t44 : List Description
t44 = descriptions.Item (items.Param (param param_word.Parameter (types.Written (types.Atom (at 0 1 11) atom_word.Int sign.Unwritten)) (value (name (at 0 1 15) "n") (number (at 0 1 19) "3") ∷ []))) ∷ module_ (at 1 1 1) life.Unwritten (name (at 1 1 8) "t") None [] (procedure (at 1 1 11) procedure_word.Initial (stmts.Statement (at 1 1 19) None (stmts.Call (system (at 1 1 19) "$display" (text (at 1 1 28) "%0d" ∷ plain (at 1 1 35) "n" ∷ [])))) ∷ []) None ∷ []

t44_seen : seen_in (Listed []) (Listed []) (elaborated t44 [] None) 7 ≡ Ran (record { log = lines ("3" ∷ []); wave = lines ("$timescale 1ns $end" ∷ "$scope module t $end" ∷ "$upscope $end" ∷ "$enddefinitions $end" ∷ "#0" ∷ "$dumpvars" ∷ "$end" ∷ []); outcome = Done; time = 0; steps = 4; race = Some (8, at 1 1 11) })
unfolding symbols_of word_of
t44_seen = refl

-- module t; initial $display("%0d", n); endmodule
-- ----
-- parameter int n = 3;
abbrev t45 : List Description
t45 = module_ (at 0 1 1) life.Unwritten (name (at 0 1 8) "t") None [] (procedure (at 0 1 11) procedure_word.Initial (stmts.Statement (at 0 1 19) None (stmts.Call (system (at 0 1 19) "$display" (text (at 0 1 28) "%0d" ∷ plain (at 0 1 35) "n" ∷ [])))) ∷ []) None ∷ descriptions.Item (items.Param (param param_word.Parameter (types.Written (types.Atom (at 1 1 11) atom_word.Int sign.Unwritten)) (value (name (at 1 1 15) "n") (number (at 1 1 19) "3") ∷ []))) ∷ []

t45_seen : seen_in (Listed []) (Listed []) (elaborated t45 [] None) 7 ≡ Ran (record { log = lines ("3" ∷ []); wave = lines ("$timescale 1ns $end" ∷ "$scope module t $end" ∷ "$upscope $end" ∷ "$enddefinitions $end" ∷ "#0" ∷ "$dumpvars" ∷ "$end" ∷ []); outcome = Done; time = 0; steps = 4; race = Some (8, at 0 1 11) })
unfolding symbols_of word_of
t45_seen = refl

-- function automatic int f(int x); return x + k; endfunction
-- ----
-- localparam int k = 4; module t; initial $display("%0d", f(3)); endmodule
abbrev t50 : List Description
t50 = descriptions.Item (items.Routine (routine (head (at 0 1 1) life.Automatic (units.Returns.Value (types.Written (types.Atom (at 0 1 20) atom_word.Int sign.Unwritten))) (name (at 0 1 24) "f") (argument None (types.Written (types.Atom (at 0 1 26) atom_word.Int sign.Unwritten)) (name (at 0 1 30) "x") None ∷ [])) [] (stmts.Statement (at 0 1 34) None (stmts.Return (Some (tree.Binary binary_word.Plus (at 0 1 43) (plain (at 0 1 41) "x") (plain (at 0 1 45) "k")))) ∷ []) None)) ∷ descriptions.Item (items.Param (param param_word.Localparam (types.Written (types.Atom (at 1 1 12) atom_word.Int sign.Unwritten)) (value (name (at 1 1 16) "k") (number (at 1 1 20) "4") ∷ []))) ∷ module_ (at 1 1 23) life.Unwritten (name (at 1 1 30) "t") None [] (procedure (at 1 1 33) procedure_word.Initial (stmts.Statement (at 1 1 41) None (stmts.Call (system (at 1 1 41) "$display" (text (at 1 1 50) "%0d" ∷ tree.Expr.Post (root.Plain (name (at 1 1 57) "f")) (tree.Call (at 1 1 58) (expressions (number (at 1 1 59) "3" ∷ [])) tree.NoSuffix) ∷ [])))) ∷ []) None ∷ []

t50_seen : seen_in (Listed []) (Listed []) (elaborated t50 [] None) 10 ≡ Ran (record { log = lines ("7" ∷ []); wave = lines ("$timescale 1ns $end" ∷ "$scope module t $end" ∷ "$upscope $end" ∷ "$enddefinitions $end" ∷ "#0" ∷ "$dumpvars" ∷ "$end" ∷ []); outcome = Done; time = 0; steps = 7; race = Some (8, at 1 1 33) })
unfolding symbols_of word_of
t50_seen = refl

-- typedef logic [W-1:0] w;
-- ----
-- localparam W = 4; module t; w x; initial begin x = '1; $display("%b", x); end endmodule
abbrev t51 : List Description
t51 = descriptions.Item (items.Typedef (typedef (types.WrittenType.Vector (at 0 1 9) vector_word.Logic sign.Unwritten (Some (range (at 0 1 15) (tree.Binary binary_word.Minus (at 0 1 17) (plain (at 0 1 16) "W") (number (at 0 1 18) "1")) (number (at 0 1 20) "0")))) (name (at 0 1 23) "w"))) ∷ descriptions.Item (items.Param (param param_word.Localparam types.Unwritten (value (name (at 1 1 12) "W") (number (at 1 1 16) "4") ∷ []))) ∷ module_ (at 1 1 19) life.Unwritten (name (at 1 1 26) "t") None [] (items.Decl (decl life.Unwritten (types.Named (name (at 1 1 29) "w")) (declarator (name (at 1 1 31) "x") None None ∷ [])) ∷ procedure (at 1 1 34) procedure_word.Initial (stmts.Statement (at 1 1 42) None (stmts.Block None [] (statements (stmts.Statement (at 1 1 48) None (blocking (target (at 1 1 48) "x") None (stmts.Value (number (at 1 1 52) "'1"))) ∷ stmts.Statement (at 1 1 56) None (stmts.Call (system (at 1 1 56) "$display" (text (at 1 1 65) "%b" ∷ plain (at 1 1 71) "x" ∷ []))) ∷ [])) None)) ∷ []) None ∷ []

t51_seen : seen_in (Listed []) (Listed []) (elaborated t51 [] None) 9 ≡ Ran (record { log = lines ("1111" ∷ []); wave = lines ("$timescale 1ns $end" ∷ "$scope module t $end" ∷ "$var reg 4 ! x [3:0] $end" ∷ "$upscope $end" ∷ "$enddefinitions $end" ∷ "#0" ∷ "$dumpvars" ∷ "b1111 !" ∷ "$end" ∷ []); outcome = Done; time = 0; steps = 6; race = Some (8, at 1 1 34) })
unfolding symbols_of word_of
t51_seen = refl

-- class C; static int n = 4; endclass
-- ----
-- module t; initial C::n = 5; endmodule
-- ----
-- module u; initial #1 $display("%0d", C::n); endmodule
abbrev t54 : List Description
t54 = descriptions.Item (items.Class (class_ (at 0 1 1) false (name (at 0 1 7) "C") None (property (qualifiers false false true false) (decl life.Unwritten (types.Atom (at 0 1 17) atom_word.Int sign.Unwritten) (declarator (name (at 0 1 21) "n") None (Some (stmts.Value (number (at 0 1 25) "4"))) ∷ [])) ∷ []) None)) ∷ module_ (at 1 1 1) life.Unwritten (name (at 1 1 8) "t") None [] (procedure (at 1 1 11) procedure_word.Initial (stmts.Statement (at 1 1 19) None (blocking (tree.Lval.Post (root.Scoped (name (at 1 1 19) "C") (name (at 1 1 22) "n")) tree.NoSuffix) None (stmts.Value (number (at 1 1 26) "5")))) ∷ []) None ∷ module_ (at 2 1 1) life.Unwritten (name (at 2 1 8) "u") None [] (procedure (at 2 1 11) procedure_word.Initial (stmts.Statement (at 2 1 19) None (stmts.After (delay (at 2 1 19) (number (at 2 1 20) "1")) (stmts.Statement (at 2 1 22) None (stmts.Call (system (at 2 1 22) "$display" (text (at 2 1 31) "%0d" ∷ tree.Expr.Post (root.Scoped (name (at 2 1 38) "C") (name (at 2 1 41) "n")) tree.NoSuffix ∷ [])))))) ∷ []) None ∷ []

t54_seen : seen_in (Listed []) (Listed []) (elaborated t54 [] None) 14 ≡ Ran (record { log = lines ("5" ∷ []); wave = lines ("$timescale 1ns $end" ∷ "$scope module t $end" ∷ "$upscope $end" ∷ "$scope module u $end" ∷ "$upscope $end" ∷ "$enddefinitions $end" ∷ "#0" ∷ "$dumpvars" ∷ "$end" ∷ []); outcome = Done; time = 1; steps = 11; race = Some (8, at 1 1 11) })
unfolding symbols_of word_of
t54_seen = refl

-- module t; task w(); $display("t.w"); endtask initial w(); endmodule
-- ----
-- task w(); $display("w"); endtask module u; initial w(); endmodule
abbrev t56 : List Description
t56 = module_ (at 0 1 1) life.Unwritten (name (at 0 1 8) "t") None [] (items.Routine (routine (head (at 0 1 11) life.Unwritten units.Task (name (at 0 1 16) "w") []) [] (stmts.Statement (at 0 1 21) None (stmts.Call (system (at 0 1 21) "$display" (text (at 0 1 30) "t.w" ∷ []))) ∷ []) None) ∷ procedure (at 0 1 46) procedure_word.Initial (stmts.Statement (at 0 1 54) None (stmts.Call (tree.Expr.Post (root.Plain (name (at 0 1 54) "w")) (tree.Call (at 0 1 55) tree.NoExpr tree.NoSuffix)))) ∷ []) None ∷ descriptions.Item (items.Routine (routine (head (at 1 1 1) life.Unwritten units.Task (name (at 1 1 6) "w") []) [] (stmts.Statement (at 1 1 11) None (stmts.Call (system (at 1 1 11) "$display" (text (at 1 1 20) "w" ∷ []))) ∷ []) None)) ∷ module_ (at 1 1 34) life.Unwritten (name (at 1 1 41) "u") None [] (procedure (at 1 1 44) procedure_word.Initial (stmts.Statement (at 1 1 52) None (stmts.Call (tree.Expr.Post (root.Plain (name (at 1 1 52) "w")) (tree.Call (at 1 1 53) tree.NoExpr tree.NoSuffix)))) ∷ []) None ∷ []

t56_seen : seen_in (Listed []) (Listed []) (elaborated t56 [] None) 13 ≡ Ran (record { log = lines ("t.w" ∷ "w" ∷ []); wave = lines ("$timescale 1ns $end" ∷ "$scope module t $end" ∷ "$upscope $end" ∷ "$scope module u $end" ∷ "$upscope $end" ∷ "$enddefinitions $end" ∷ "#0" ∷ "$dumpvars" ∷ "$end" ∷ []); outcome = Done; time = 0; steps = 10; race = Some (8, at 0 1 46) })
unfolding symbols_of word_of
t56_seen = refl

-- module a; b x(); endmodule module b; c x(); endmodule module c; a x(); endmodule module t; endmodule
abbrev t58 : List Description
t58 = module_ (at 0 1 1) life.Unwritten (name (at 0 1 8) "a") None [] (instances (name (at 0 1 11) "b") [] (instance (name (at 0 1 13) "x") [] ∷ []) ∷ []) None ∷ module_ (at 0 1 28) life.Unwritten (name (at 0 1 35) "b") None [] (instances (name (at 0 1 38) "c") [] (instance (name (at 0 1 40) "x") [] ∷ []) ∷ []) None ∷ module_ (at 0 1 55) life.Unwritten (name (at 0 1 62) "c") None [] (instances (name (at 0 1 65) "a") [] (instance (name (at 0 1 67) "x") [] ∷ []) ∷ []) None ∷ module_ (at 0 1 82) life.Unwritten (name (at 0 1 89) "t") None [] [] None ∷ []

t58_seen : seen_in (Listed []) (Listed []) (elaborated t58 [] None) 5 ≡ Ran (record { log = []; wave = lines ("$timescale 1ns $end" ∷ "$scope module t $end" ∷ "$upscope $end" ∷ "$enddefinitions $end" ∷ "#0" ∷ "$dumpvars" ∷ "$end" ∷ []); outcome = Done; time = 0; steps = 2; race = None })
unfolding symbols_of word_of
t58_seen = refl

t58_seen_2 : seen_in (Listed []) (Listed []) (elaborated t58 [] (Some (codes "t"))) 5 ≡ Ran (record { log = []; wave = lines ("$timescale 1ns $end" ∷ "$scope module t $end" ∷ "$upscope $end" ∷ "$enddefinitions $end" ∷ "#0" ∷ "$dumpvars" ∷ "$end" ∷ []); outcome = Done; time = 0; steps = 2; race = None })
unfolding symbols_of word_of
t58_seen_2 = refl

-- module a; endmodule program p; endprogram
abbrev t60 : List Description
t60 = module_ (at 0 1 1) life.Unwritten (name (at 0 1 8) "a") None [] [] None ∷ program_ (at 0 1 21) life.Unwritten (name (at 0 1 29) "p") None [] [] None ∷ []

t60_seen : seen_in (Listed []) (Listed []) (elaborated t60 [] (Some (codes "a"))) 5 ≡ Ran (record { log = []; wave = lines ("$timescale 1ns $end" ∷ "$scope module a $end" ∷ "$upscope $end" ∷ "$enddefinitions $end" ∷ "#0" ∷ "$dumpvars" ∷ "$end" ∷ []); outcome = Done; time = 0; steps = 2; race = None })
unfolding symbols_of word_of
t60_seen = refl

-- module a; endmodule program p; initial $display("p"); endprogram
abbrev t61 : List Description
t61 = module_ (at 0 1 1) life.Unwritten (name (at 0 1 8) "a") None [] [] None ∷ program_ (at 0 1 21) life.Unwritten (name (at 0 1 29) "p") None [] (procedure (at 0 1 32) procedure_word.Initial (stmts.Statement (at 0 1 40) None (stmts.Call (system (at 0 1 40) "$display" (text (at 0 1 49) "p" ∷ [])))) ∷ []) None ∷ []

t61_seen : seen_in (Listed []) (Listed []) (elaborated t61 [] (Some (codes "p"))) 7 ≡ Ran (record { log = lines ("p" ∷ []); wave = lines ("$timescale 1ns $end" ∷ "$scope module p $end" ∷ "$upscope $end" ∷ "$enddefinitions $end" ∷ "#0" ∷ "$dumpvars" ∷ "$end" ∷ []); outcome = Done; time = 0; steps = 4; race = None })
unfolding symbols_of word_of
t61_seen = refl

-- program p; initial $display("p"); endprogram module t; p x(); initial $display("t"); endmodule
abbrev t62 : List Description
t62 = program_ (at 0 1 1) life.Unwritten (name (at 0 1 9) "p") None [] (procedure (at 0 1 12) procedure_word.Initial (stmts.Statement (at 0 1 20) None (stmts.Call (system (at 0 1 20) "$display" (text (at 0 1 29) "p" ∷ [])))) ∷ []) None ∷ module_ (at 0 1 46) life.Unwritten (name (at 0 1 53) "t") None [] (instances (name (at 0 1 56) "p") [] (instance (name (at 0 1 58) "x") [] ∷ []) ∷ procedure (at 0 1 63) procedure_word.Initial (stmts.Statement (at 0 1 71) None (stmts.Call (system (at 0 1 71) "$display" (text (at 0 1 80) "t" ∷ [])))) ∷ []) None ∷ []

t62_seen : seen_in (Listed []) (Listed []) (elaborated t62 [] None) 9 ≡ Ran (record { log = lines ("t" ∷ "p" ∷ []); wave = lines ("$timescale 1ns $end" ∷ "$scope module t $end" ∷ "$scope module x $end" ∷ "$upscope $end" ∷ "$upscope $end" ∷ "$enddefinitions $end" ∷ "#0" ∷ "$dumpvars" ∷ "$end" ∷ []); outcome = Done; time = 0; steps = 6; race = Some (8, at 0 1 63) })
unfolding symbols_of word_of
t62_seen = refl

-- module t #(parameter P = 0); initial $display("%0d", P); endmodule
abbrev t65 : List Description
t65 = module_ (at 0 1 1) life.Unwritten (name (at 0 1 8) "t") (Some (param param_word.Parameter types.Unwritten (value (name (at 0 1 22) "P") (number (at 0 1 26) "0") ∷ []) ∷ [])) [] (procedure (at 0 1 30) procedure_word.Initial (stmts.Statement (at 0 1 38) None (stmts.Call (system (at 0 1 38) "$display" (text (at 0 1 47) "%0d" ∷ plain (at 0 1 54) "P" ∷ [])))) ∷ []) None ∷ []

t65_seen : seen_in (Listed []) (Listed []) (elaborated t65 [] (Some (codes "t"))) 7 ≡ Ran (record { log = lines ("0" ∷ []); wave = lines ("$timescale 1ns $end" ∷ "$scope module t $end" ∷ "$upscope $end" ∷ "$enddefinitions $end" ∷ "#0" ∷ "$dumpvars" ∷ "$end" ∷ []); outcome = Done; time = 0; steps = 4; race = Some (8, at 0 1 30) })
unfolding symbols_of word_of
t65_seen = refl

-- module u(input a, b); endmodule module t; logic c; u x(c); endmodule
abbrev t70 : List Description
t70 = module_ (at 0 1 1) life.Unwritten (name (at 0 1 8) "u") None (port (Some port_direction.Input) false types.Unwritten (name (at 0 1 16) "a") ∷ port None false types.Unwritten (name (at 0 1 19) "b") ∷ []) [] None ∷ module_ (at 0 1 33) life.Unwritten (name (at 0 1 40) "t") None [] (items.Decl (decl life.Unwritten (types.WrittenType.Vector (at 0 1 43) vector_word.Logic sign.Unwritten None) (declarator (name (at 0 1 49) "c") None None ∷ [])) ∷ instances (name (at 0 1 52) "u") [] (instance (name (at 0 1 54) "x") (units.Connection.Value (plain (at 0 1 56) "c") ∷ []) ∷ []) ∷ []) None ∷ []

t70_seen : seen_in (Listed []) (Listed []) (elaborated t70 [] None) 7 ≡ Ran (record { log = []; wave = lines ("$timescale 1ns $end" ∷ "$scope module t $end" ∷ "$var reg 1 ! c $end" ∷ "$scope module x $end" ∷ "$var wire 1 \" a $end" ∷ "$var wire 1 # b $end" ∷ "$upscope $end" ∷ "$upscope $end" ∷ "$enddefinitions $end" ∷ "#0" ∷ "$dumpvars" ∷ "x!" ∷ "x\"" ∷ "z#" ∷ "$end" ∷ []); outcome = Done; time = 0; steps = 4; race = None })
unfolding symbols_of word_of
t70_seen = refl

-- module u(input a, b); endmodule module t; logic c; u x(.a(), .b(c)); endmodule
abbrev t73 : List Description
t73 = module_ (at 0 1 1) life.Unwritten (name (at 0 1 8) "u") None (port (Some port_direction.Input) false types.Unwritten (name (at 0 1 16) "a") ∷ port None false types.Unwritten (name (at 0 1 19) "b") ∷ []) [] None ∷ module_ (at 0 1 33) life.Unwritten (name (at 0 1 40) "t") None [] (items.Decl (decl life.Unwritten (types.WrittenType.Vector (at 0 1 43) vector_word.Logic sign.Unwritten None) (declarator (name (at 0 1 49) "c") None None ∷ [])) ∷ instances (name (at 0 1 52) "u") [] (instance (name (at 0 1 54) "x") (units.Given (at 0 1 56) (name (at 0 1 57) "a") None ∷ units.Given (at 0 1 62) (name (at 0 1 63) "b") (Some (plain (at 0 1 65) "c")) ∷ []) ∷ []) ∷ []) None ∷ []

t73_seen : seen_in (Listed []) (Listed []) (elaborated t73 [] None) 7 ≡ Ran (record { log = []; wave = lines ("$timescale 1ns $end" ∷ "$scope module t $end" ∷ "$var reg 1 ! c $end" ∷ "$scope module x $end" ∷ "$var wire 1 \" a $end" ∷ "$var wire 1 # b $end" ∷ "$upscope $end" ∷ "$upscope $end" ∷ "$enddefinitions $end" ∷ "#0" ∷ "$dumpvars" ∷ "x!" ∷ "z\"" ∷ "x#" ∷ "$end" ∷ []); outcome = Done; time = 0; steps = 4; race = None })
unfolding symbols_of word_of
t73_seen = refl

-- module u; parameter A = 1; endmodule module t; u #(3) x(); endmodule
abbrev t77 : List Description
t77 = module_ (at 0 1 1) life.Unwritten (name (at 0 1 8) "u") None [] (items.Param (param param_word.Parameter types.Unwritten (value (name (at 0 1 21) "A") (number (at 0 1 25) "1") ∷ [])) ∷ []) None ∷ module_ (at 0 1 38) life.Unwritten (name (at 0 1 45) "t") None [] (instances (name (at 0 1 48) "u") (units.Connection.Value (number (at 0 1 52) "3") ∷ []) (instance (name (at 0 1 55) "x") [] ∷ []) ∷ []) None ∷ []

t77_seen : seen_in (Listed []) (Listed []) (elaborated t77 [] None) 5 ≡ Ran (record { log = []; wave = lines ("$timescale 1ns $end" ∷ "$scope module t $end" ∷ "$scope module x $end" ∷ "$upscope $end" ∷ "$upscope $end" ∷ "$enddefinitions $end" ∷ "#0" ∷ "$dumpvars" ∷ "$end" ∷ []); outcome = Done; time = 0; steps = 2; race = None })
unfolding symbols_of word_of
t77_seen = refl

-- class A; function new(int x = 2); endfunction endclass class B extends A; int y; endclass module t; B b; initial b = new; endmodule
abbrev t80 : List Description
t80 = descriptions.Item (items.Class (class_ (at 0 1 1) false (name (at 0 1 7) "A") None (method unqualified (routine (head (at 0 1 10) life.Unwritten (units.Returns.Value types.Unwritten) (name (at 0 1 19) "new") (argument None (types.Written (types.Atom (at 0 1 23) atom_word.Int sign.Unwritten)) (name (at 0 1 27) "x") (Some (number (at 0 1 31) "2")) ∷ [])) [] [] None) ∷ []) None)) ∷ descriptions.Item (items.Class (class_ (at 0 1 56) false (name (at 0 1 62) "B") (Some (name (at 0 1 72) "A")) (property unqualified (decl life.Unwritten (types.Atom (at 0 1 75) atom_word.Int sign.Unwritten) (declarator (name (at 0 1 79) "y") None None ∷ [])) ∷ []) None)) ∷ module_ (at 0 1 91) life.Unwritten (name (at 0 1 98) "t") None [] (items.Decl (decl life.Unwritten (types.Named (name (at 0 1 101) "B")) (declarator (name (at 0 1 103) "b") None None ∷ [])) ∷ procedure (at 0 1 106) procedure_word.Initial (stmts.Statement (at 0 1 114) None (blocking (target (at 0 1 114) "b") None (stmts.New (at 0 1 118) tree.Unwritten))) ∷ []) None ∷ []

t80_seen : seen_in (Listed []) (Listed []) (elaborated t80 [] None) 11 ≡ Ran (record { log = []; wave = lines ("$timescale 1ns $end" ∷ "$scope module t $end" ∷ "$upscope $end" ∷ "$enddefinitions $end" ∷ "#0" ∷ "$dumpvars" ∷ "$end" ∷ []); outcome = Done; time = 0; steps = 8; race = Some (10, at 0 1 103) })
unfolding symbols_of word_of
t80_seen = refl

-- class A; function new(int x); endfunction endclass class B extends A; function new(); int k; super.new(1); endfunction endclass module t; endmodule
abbrev t82 : List Description
t82 = descriptions.Item (items.Class (class_ (at 0 1 1) false (name (at 0 1 7) "A") None (method unqualified (routine (head (at 0 1 10) life.Unwritten (units.Returns.Value types.Unwritten) (name (at 0 1 19) "new") (argument None (types.Written (types.Atom (at 0 1 23) atom_word.Int sign.Unwritten)) (name (at 0 1 27) "x") None ∷ [])) [] [] None) ∷ []) None)) ∷ descriptions.Item (items.Class (class_ (at 0 1 52) false (name (at 0 1 58) "B") (Some (name (at 0 1 68) "A")) (method unqualified (routine (head (at 0 1 71) life.Unwritten (units.Returns.Value types.Unwritten) (name (at 0 1 80) "new") []) (decl life.Unwritten (types.Atom (at 0 1 87) atom_word.Int sign.Unwritten) (declarator (name (at 0 1 91) "k") None None ∷ []) ∷ []) (stmts.Statement (at 0 1 94) None (stmts.Call (tree.SuperNew (at 0 1 94) (at 0 1 100) (tree.Written (expressions (number (at 0 1 104) "1" ∷ []))))) ∷ []) None) ∷ []) None)) ∷ module_ (at 0 1 129) life.Unwritten (name (at 0 1 136) "t") None [] [] None ∷ []

t82_seen : seen_in (Listed []) (Listed []) (elaborated t82 [] None) 5 ≡ Ran (record { log = []; wave = lines ("$timescale 1ns $end" ∷ "$scope module t $end" ∷ "$upscope $end" ∷ "$enddefinitions $end" ∷ "#0" ∷ "$dumpvars" ∷ "$end" ∷ []); outcome = Done; time = 0; steps = 2; race = None })
unfolding symbols_of word_of
t82_seen = refl

-- module t; initial begin $dumpvars(1, t); $dumpfile("a"); $dumpvars; $dumpvars(0); end endmodule
abbrev t89 : List Description
t89 = module_ (at 0 1 1) life.Unwritten (name (at 0 1 8) "t") None [] (procedure (at 0 1 11) procedure_word.Initial (stmts.Statement (at 0 1 19) None (stmts.Block None [] (statements (stmts.Statement (at 0 1 25) None (stmts.Call (system (at 0 1 25) "$dumpvars" (number (at 0 1 35) "1" ∷ plain (at 0 1 38) "t" ∷ []))) ∷ stmts.Statement (at 0 1 42) None (stmts.Call (system (at 0 1 42) "$dumpfile" (text (at 0 1 52) "a" ∷ []))) ∷ stmts.Statement (at 0 1 58) None (stmts.Call (tree.System (name (at 0 1 58) "$dumpvars") tree.Unwritten)) ∷ stmts.Statement (at 0 1 69) None (stmts.Call (system (at 0 1 69) "$dumpvars" (number (at 0 1 79) "0" ∷ []))) ∷ [])) None)) ∷ []) None ∷ []

t89_seen : seen_in (Listed []) (Listed []) (elaborated t89 [] None) 11 ≡ Ran (record { log = []; wave = lines ("$timescale 1ns $end" ∷ "$scope module t $end" ∷ "$upscope $end" ∷ "$enddefinitions $end" ∷ "#0" ∷ "$dumpvars" ∷ "$end" ∷ []); outcome = Done; time = 0; steps = 8; race = Some (8, at 0 1 11) })
unfolding symbols_of word_of
t89_seen = refl

-- module t; initial $dumpvars(2); endmodule
abbrev t91 : List Description
t91 = module_ (at 0 1 1) life.Unwritten (name (at 0 1 8) "t") None [] (procedure (at 0 1 11) procedure_word.Initial (stmts.Statement (at 0 1 19) None (stmts.Call (system (at 0 1 19) "$dumpvars" (number (at 0 1 29) "2" ∷ [])))) ∷ []) None ∷ []

t91_seen : seen_in (Listed []) (Listed []) (elaborated t91 [] None) 7 ≡ Ran (record { log = []; wave = lines ("$timescale 1ns $end" ∷ "$scope module t $end" ∷ "$upscope $end" ∷ "$enddefinitions $end" ∷ "#0" ∷ "$dumpvars" ∷ "$end" ∷ []); outcome = Done; time = 0; steps = 4; race = Some (8, at 0 1 11) })
unfolding symbols_of word_of
t91_seen = refl

-- module t; initial $dumpfile(3); endmodule
abbrev t92 : List Description
t92 = module_ (at 0 1 1) life.Unwritten (name (at 0 1 8) "t") None [] (procedure (at 0 1 11) procedure_word.Initial (stmts.Statement (at 0 1 19) None (stmts.Call (system (at 0 1 19) "$dumpfile" (number (at 0 1 29) "3" ∷ [])))) ∷ []) None ∷ []

t92_seen : seen_in (Listed []) (Listed []) (elaborated t92 [] None) 7 ≡ Ran (record { log = []; wave = lines ("$timescale 1ns $end" ∷ "$scope module t $end" ∷ "$upscope $end" ∷ "$enddefinitions $end" ∷ "#0" ∷ "$dumpvars" ∷ "$end" ∷ []); outcome = Done; time = 0; steps = 4; race = Some (8, at 0 1 11) })
unfolding symbols_of word_of
t92_seen = refl

-- module t; string s; initial $dumpfile(s); endmodule
abbrev t93 : List Description
t93 = module_ (at 0 1 1) life.Unwritten (name (at 0 1 8) "t") None [] (items.Decl (decl life.Unwritten (types.Text (at 0 1 11)) (declarator (name (at 0 1 18) "s") None None ∷ [])) ∷ procedure (at 0 1 21) procedure_word.Initial (stmts.Statement (at 0 1 29) None (stmts.Call (system (at 0 1 29) "$dumpfile" (plain (at 0 1 39) "s" ∷ [])))) ∷ []) None ∷ []

t93_seen : seen_in (Listed []) (Listed []) (elaborated t93 [] None) 7 ≡ Ran (record { log = []; wave = lines ("$timescale 1ns $end" ∷ "$scope module t $end" ∷ "$upscope $end" ∷ "$enddefinitions $end" ∷ "#0" ∷ "$dumpvars" ∷ "$end" ∷ []); outcome = Done; time = 0; steps = 4; race = Some (8, at 0 1 21) })
unfolding symbols_of word_of
t93_seen = refl
