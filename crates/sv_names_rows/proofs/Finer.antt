-- Finer points of calls, values, writers and places: what a run shows, or the first rule that is broken.
use Rattle.std.proofs.Common.{◌≡◌, List, [], ◌∷◌, true, false, refl}
use Rattle.std.specs.Prelude.{Some, None, codes}
use Rattle.sv_value.specs.Vector.{symbols_of, word_of}
use Rattle.sv_value.specs.declared.place.FaultKind.TheVariants as kind
use Rattle.sv_flat.specs.declared.choices.Choices.TheVariants.{Listed}
use Rattle.sv_flat.specs.Directed.{Done, Faulted}
use Rattle.sv_tree.specs.declared.word.BinaryWord.TheVariants as binary_word
use Rattle.sv_tree.specs.declared.word.PartWord.TheVariants as part_word
use Rattle.sv_tree.specs.declared.word.VectorWord.TheVariants as vector_word
use Rattle.sv_tree.specs.declared.word.AtomWord.TheVariants as atom_word
use Rattle.sv_tree.specs.declared.word.Sign.TheVariants as sign
use Rattle.sv_tree.specs.declared.word.Life.TheVariants as life
use Rattle.sv_tree.specs.declared.word.CaseWord.TheVariants as case_word
use Rattle.sv_tree.specs.declared.word.EdgeWord.TheVariants as edge
use Rattle.sv_tree.specs.declared.word.StepWord.TheVariants as step_word
use Rattle.sv_tree.specs.declared.word.ProcedureWord.TheVariants as procedure_word
use Rattle.sv_tree.specs.declared.word.Direction.TheVariants as direction
use Rattle.sv_tree.specs.declared.word.ParamWord.TheVariants as param_word
use Rattle.sv_tree.specs.declared.expr.Root.TheVariants as root
use Rattle.sv_tree.specs.declared.expr.CastType.TheVariants as cast
use Rattle.sv_tree.specs.Expr as tree
use Rattle.sv_tree.specs.Types as types
use Rattle.sv_tree.specs.Stmt as stmts
use Rattle.sv_tree.specs.Units as units
use Rattle.sv_tree.specs.Items as items
use Rattle.sv_tree.specs.Descriptions as descriptions
use Rattle.sv_tree.specs.Descriptions.{Description}
use Rattle.sv_names.specs.Design.{broken, elaborated}
use Rattle.sv_names_rows.proofs.Kit.{argument, assign_item, at, blocking, class_, clocking, decl, declarator, delay, enum_item, expressions, fault, head, lines, method, module_, name, nonblocking, number, param, plain, procedure, property, qualifiers, range, routine, seen_in, sided, statements, system, target, targets, text, typedef, unqualified, value, Ran}

-- module t; int a = 1, b = 0; initial $display("%b %b %b", 8'(a / b), {a / b}, a / b); endmodule
abbrev t1 : List Description
t1 = module_ (at 0 1 1) life.Unwritten (name (at 0 1 8) "t") None [] (items.Decl (decl life.Unwritten (types.Atom (at 0 1 11) atom_word.Int sign.Unwritten) (declarator (name (at 0 1 15) "a") None (Some (stmts.Value (number (at 0 1 19) "1"))) ∷ declarator (name (at 0 1 22) "b") None (Some (stmts.Value (number (at 0 1 26) "0"))) ∷ [])) ∷ procedure (at 0 1 29) procedure_word.Initial (stmts.Statement (at 0 1 37) None (stmts.Call (system (at 0 1 37) "$display" (text (at 0 1 46) "%b %b %b" ∷ tree.Cast (cast.Width (at 0 1 58) (codes "8")) (tree.Binary binary_word.Divide (at 0 1 63) (plain (at 0 1 61) "a") (plain (at 0 1 65) "b")) ∷ tree.Expr.Join (at 0 1 69) (expressions (tree.Binary binary_word.Divide (at 0 1 72) (plain (at 0 1 70) "a") (plain (at 0 1 74) "b") ∷ [])) ∷ tree.Binary binary_word.Divide (at 0 1 80) (plain (at 0 1 78) "a") (plain (at 0 1 82) "b") ∷ [])))) ∷ []) None ∷ []

t1_seen : seen_in (Listed []) (Listed []) (elaborated t1 [] None) 7 ≡ Ran (record { log = lines ("xxxxxxxx xxxxxxxxxxxxxxxxxxxxxxxxxxxxxxxx xxxxxxxxxxxxxxxxxxxxxxxxxxxxxxxx" ∷ []); wave = lines ("$timescale 1ns $end" ∷ "$scope module t $end" ∷ "$var reg 32 ! a $end" ∷ "$var reg 32 \" b $end" ∷ "$upscope $end" ∷ "$enddefinitions $end" ∷ "#0" ∷ "$dumpvars" ∷ "b1 !" ∷ "b0 \"" ∷ "$end" ∷ []); outcome = Done; time = 0; steps = 4; race = Some (8, at 0 1 29) })
unfolding symbols_of word_of
t1_seen = refl

-- module t; int a = 1, b = 0; initial $display("%b %b %b", {2{a % b}}, $signed(a / b), $unsigned(a / b)); endmodule
abbrev t2 : List Description
t2 = module_ (at 0 1 1) life.Unwritten (name (at 0 1 8) "t") None [] (items.Decl (decl life.Unwritten (types.Atom (at 0 1 11) atom_word.Int sign.Unwritten) (declarator (name (at 0 1 15) "a") None (Some (stmts.Value (number (at 0 1 19) "1"))) ∷ declarator (name (at 0 1 22) "b") None (Some (stmts.Value (number (at 0 1 26) "0"))) ∷ [])) ∷ procedure (at 0 1 29) procedure_word.Initial (stmts.Statement (at 0 1 37) None (stmts.Call (system (at 0 1 37) "$display" (text (at 0 1 46) "%b %b %b" ∷ tree.Repeat (at 0 1 58) (number (at 0 1 59) "2") (at 0 1 60) (expressions (tree.Binary binary_word.Remainder (at 0 1 63) (plain (at 0 1 61) "a") (plain (at 0 1 65) "b") ∷ [])) ∷ system (at 0 1 70) "$signed" (tree.Binary binary_word.Divide (at 0 1 80) (plain (at 0 1 78) "a") (plain (at 0 1 82) "b") ∷ []) ∷ system (at 0 1 86) "$unsigned" (tree.Binary binary_word.Divide (at 0 1 98) (plain (at 0 1 96) "a") (plain (at 0 1 100) "b") ∷ []) ∷ [])))) ∷ []) None ∷ []

t2_seen : seen_in (Listed []) (Listed []) (elaborated t2 [] None) 7 ≡ Ran (record { log = lines ("xxxxxxxxxxxxxxxxxxxxxxxxxxxxxxxxxxxxxxxxxxxxxxxxxxxxxxxxxxxxxxxx xxxxxxxxxxxxxxxxxxxxxxxxxxxxxxxx xxxxxxxxxxxxxxxxxxxxxxxxxxxxxxxx" ∷ []); wave = lines ("$timescale 1ns $end" ∷ "$scope module t $end" ∷ "$var reg 32 ! a $end" ∷ "$var reg 32 \" b $end" ∷ "$upscope $end" ∷ "$enddefinitions $end" ∷ "#0" ∷ "$dumpvars" ∷ "b1 !" ∷ "b0 \"" ∷ "$end" ∷ []); outcome = Done; time = 0; steps = 4; race = Some (8, at 0 1 29) })
unfolding symbols_of word_of
t2_seen = refl

-- module t; initial $display("%s", {70000{"a"}}); endmodule
abbrev t3 : List Description
t3 = module_ (at 0 1 1) life.Unwritten (name (at 0 1 8) "t") None [] (procedure (at 0 1 11) procedure_word.Initial (stmts.Statement (at 0 1 19) None (stmts.Call (system (at 0 1 19) "$display" (text (at 0 1 28) "%s" ∷ tree.Repeat (at 0 1 34) (number (at 0 1 35) "70000") (at 0 1 40) (expressions (text (at 0 1 41) "a" ∷ [])) ∷ [])))) ∷ []) None ∷ []

t3_seen : seen_in (Listed []) (Listed []) (elaborated t3 [] None) 6 ≡ Ran (record { log = []; wave = lines ("$timescale 1ns $end" ∷ "$scope module t $end" ∷ "$upscope $end" ∷ "$enddefinitions $end" ∷ []); outcome = Faulted (record { kind = kind.Length; at = at 0 1 19; time = 0 }); time = 0; steps = 3; race = Some (8, at 0 1 11) })
unfolding symbols_of word_of
t3_seen = refl

-- module t; enum logic {A, B} e; initial $display("%b", e[0]); endmodule
abbrev t4 : List Description
t4 = module_ (at 0 1 1) life.Unwritten (name (at 0 1 8) "t") None [] (items.Decl (decl life.Unwritten (types.EnumOf (at 0 1 11) (types.WrittenType.Vector (at 0 1 16) vector_word.Logic sign.Unwritten None) (enum_item (name (at 0 1 23) "A") None ∷ enum_item (name (at 0 1 26) "B") None ∷ [])) (declarator (name (at 0 1 29) "e") None None ∷ [])) ∷ procedure (at 0 1 32) procedure_word.Initial (stmts.Statement (at 0 1 40) None (stmts.Call (system (at 0 1 40) "$display" (text (at 0 1 49) "%b" ∷ tree.Expr.Post (root.Plain (name (at 0 1 55) "e")) (tree.Select (at 0 1 56) (number (at 0 1 57) "0") tree.NoSuffix) ∷ [])))) ∷ []) None ∷ []

t4_seen : seen_in (Listed []) (Listed []) (elaborated t4 [] None) 7 ≡ Ran (record { log = lines ("x" ∷ []); wave = lines ("$timescale 1ns $end" ∷ "$scope module t $end" ∷ "$var reg 1 ! e $end" ∷ "$upscope $end" ∷ "$enddefinitions $end" ∷ "#0" ∷ "$dumpvars" ∷ "x!" ∷ "$end" ∷ []); outcome = Done; time = 0; steps = 4; race = Some (8, at 0 1 32) })
unfolding symbols_of word_of
t4_seen = refl

-- module t; int a; initial a = 5'("s"); endmodule
abbrev t5 : List Description
t5 = module_ (at 0 1 1) life.Unwritten (name (at 0 1 8) "t") None [] (items.Decl (decl life.Unwritten (types.Atom (at 0 1 11) atom_word.Int sign.Unwritten) (declarator (name (at 0 1 15) "a") None None ∷ [])) ∷ procedure (at 0 1 18) procedure_word.Initial (stmts.Statement (at 0 1 26) None (blocking (target (at 0 1 26) "a") None (stmts.Value (tree.Cast (cast.Width (at 0 1 30) (codes "5")) (text (at 0 1 33) "s"))))) ∷ []) None ∷ []

t5_broken : broken t5 [] None ≡ Some (fault 16 0 1 33)
unfolding symbols_of word_of
t5_broken = refl

-- module t; task w(); endtask function void g(); int x; x = w(); endfunction endmodule
abbrev t6 : List Description
t6 = module_ (at 0 1 1) life.Unwritten (name (at 0 1 8) "t") None [] (items.Routine (routine (head (at 0 1 11) life.Unwritten units.Task (name (at 0 1 16) "w") []) [] [] None) ∷ items.Routine (routine (head (at 0 1 29) life.Unwritten units.Void (name (at 0 1 43) "g") []) (decl life.Unwritten (types.Atom (at 0 1 48) atom_word.Int sign.Unwritten) (declarator (name (at 0 1 52) "x") None None ∷ []) ∷ []) (stmts.Statement (at 0 1 55) None (blocking (target (at 0 1 55) "x") None (stmts.Value (tree.Expr.Post (root.Plain (name (at 0 1 59) "w")) (tree.Call (at 0 1 60) tree.NoExpr tree.NoSuffix)))) ∷ []) None) ∷ []) None ∷ []

t6_broken : broken t6 [] None ≡ Some (fault 27 0 1 59)
unfolding symbols_of word_of
t6_broken = refl

-- module t; function automatic int f(); static int x = f; return x; endfunction endmodule
abbrev t7 : List Description
t7 = module_ (at 0 1 1) life.Unwritten (name (at 0 1 8) "t") None [] (items.Routine (routine (head (at 0 1 11) life.Automatic (units.Returns.Value (types.Written (types.Atom (at 0 1 30) atom_word.Int sign.Unwritten))) (name (at 0 1 34) "f") []) (decl life.Static (types.Atom (at 0 1 46) atom_word.Int sign.Unwritten) (declarator (name (at 0 1 50) "x") None (Some (stmts.Value (plain (at 0 1 54) "f"))) ∷ []) ∷ []) (stmts.Statement (at 0 1 57) None (stmts.Return (Some (plain (at 0 1 64) "x"))) ∷ []) None) ∷ []) None ∷ []

t7_broken : broken t7 [] None ≡ Some (fault 7 0 1 54)
unfolding symbols_of word_of
t7_broken = refl

-- module t; function int f(); f = 1; $strobe("%0d", f); return 1; endfunction initial void'(f()); endmodule
abbrev t8 : List Description
t8 = module_ (at 0 1 1) life.Unwritten (name (at 0 1 8) "t") None [] (items.Routine (routine (head (at 0 1 11) life.Unwritten (units.Returns.Value (types.Written (types.Atom (at 0 1 20) atom_word.Int sign.Unwritten))) (name (at 0 1 24) "f") []) [] (stmts.Statement (at 0 1 29) None (blocking (target (at 0 1 29) "f") None (stmts.Value (number (at 0 1 33) "1"))) ∷ stmts.Statement (at 0 1 36) None (stmts.Call (system (at 0 1 36) "$strobe" (text (at 0 1 44) "%0d" ∷ plain (at 0 1 51) "f" ∷ []))) ∷ stmts.Statement (at 0 1 55) None (stmts.Return (Some (number (at 0 1 62) "1"))) ∷ []) None) ∷ procedure (at 0 1 77) procedure_word.Initial (stmts.Statement (at 0 1 85) None (stmts.Ignore (at 0 1 85) (tree.Expr.Post (root.Plain (name (at 0 1 91) "f")) (tree.Call (at 0 1 92) tree.NoExpr tree.NoSuffix)))) ∷ []) None ∷ []

t8_seen : seen_in (Listed []) (Listed []) (elaborated t8 [] None) 11 ≡ Ran (record { log = lines ("1" ∷ []); wave = lines ("$timescale 1ns $end" ∷ "$scope module t $end" ∷ "$upscope $end" ∷ "$enddefinitions $end" ∷ "#0" ∷ "$dumpvars" ∷ "$end" ∷ []); outcome = Done; time = 0; steps = 8; race = Some (7, at 0 1 24) })
unfolding symbols_of word_of
t8_seen = refl

-- module t; function automatic int f(); f = 1; $strobe("%0d", f); return 1; endfunction endmodule
abbrev t9 : List Description
t9 = module_ (at 0 1 1) life.Unwritten (name (at 0 1 8) "t") None [] (items.Routine (routine (head (at 0 1 11) life.Automatic (units.Returns.Value (types.Written (types.Atom (at 0 1 30) atom_word.Int sign.Unwritten))) (name (at 0 1 34) "f") []) [] (stmts.Statement (at 0 1 39) None (blocking (target (at 0 1 39) "f") None (stmts.Value (number (at 0 1 43) "1"))) ∷ stmts.Statement (at 0 1 46) None (stmts.Call (system (at 0 1 46) "$strobe" (text (at 0 1 54) "%0d" ∷ plain (at 0 1 61) "f" ∷ []))) ∷ stmts.Statement (at 0 1 65) None (stmts.Return (Some (number (at 0 1 72) "1"))) ∷ []) None) ∷ []) None ∷ []

t9_broken : broken t9 [] None ≡ Some (fault 51 0 1 61)
unfolding symbols_of word_of
t9_broken = refl

-- module t; task w(output int x = 3); endtask initial w(); endmodule
abbrev t10 : List Description
t10 = module_ (at 0 1 1) life.Unwritten (name (at 0 1 8) "t") None [] (items.Routine (routine (head (at 0 1 11) life.Unwritten units.Task (name (at 0 1 16) "w") (argument (Some direction.Output) (types.Written (types.Atom (at 0 1 25) atom_word.Int sign.Unwritten)) (name (at 0 1 29) "x") (Some (number (at 0 1 33) "3")) ∷ [])) [] [] None) ∷ procedure (at 0 1 45) procedure_word.Initial (stmts.Statement (at 0 1 53) None (stmts.Call (tree.Expr.Post (root.Plain (name (at 0 1 53) "w")) (tree.Call (at 0 1 54) tree.NoExpr tree.NoSuffix)))) ∷ []) None ∷ []

t10_broken : broken t10 [] None ≡ Some (fault 31 0 1 53)
unfolding symbols_of word_of
t10_broken = refl

-- module t; class A; function new(output int x = 3); endfunction endclass class B extends A; endclass endmodule
abbrev t11 : List Description
t11 = module_ (at 0 1 1) life.Unwritten (name (at 0 1 8) "t") None [] (items.Class (class_ (at 0 1 11) false (name (at 0 1 17) "A") None (method unqualified (routine (head (at 0 1 20) life.Unwritten (units.Returns.Value types.Unwritten) (name (at 0 1 29) "new") (argument (Some direction.Output) (types.Written (types.Atom (at 0 1 40) atom_word.Int sign.Unwritten)) (name (at 0 1 44) "x") (Some (number (at 0 1 48) "3")) ∷ [])) [] [] None) ∷ []) None) ∷ items.Class (class_ (at 0 1 73) false (name (at 0 1 79) "B") (Some (name (at 0 1 89) "A")) [] None) ∷ []) None ∷ []

t11_broken : broken t11 [] None ≡ Some (fault 40 0 1 79)
unfolding symbols_of word_of
t11_broken = refl

-- module t; function int f(int n); int f; f = 3; endfunction initial $display("%0d", f(5)); endmodule
abbrev t12 : List Description
t12 = module_ (at 0 1 1) life.Unwritten (name (at 0 1 8) "t") None [] (items.Routine (routine (head (at 0 1 11) life.Unwritten (units.Returns.Value (types.Written (types.Atom (at 0 1 20) atom_word.Int sign.Unwritten))) (name (at 0 1 24) "f") (argument None (types.Written (types.Atom (at 0 1 26) atom_word.Int sign.Unwritten)) (name (at 0 1 30) "n") None ∷ [])) (decl life.Unwritten (types.Atom (at 0 1 34) atom_word.Int sign.Unwritten) (declarator (name (at 0 1 38) "f") None None ∷ []) ∷ []) (stmts.Statement (at 0 1 41) None (blocking (target (at 0 1 41) "f") None (stmts.Value (number (at 0 1 45) "3"))) ∷ []) None) ∷ procedure (at 0 1 60) procedure_word.Initial (stmts.Statement (at 0 1 68) None (stmts.Call (system (at 0 1 68) "$display" (text (at 0 1 77) "%0d" ∷ tree.Expr.Post (root.Plain (name (at 0 1 84) "f")) (tree.Call (at 0 1 85) (expressions (number (at 0 1 86) "5" ∷ [])) tree.NoSuffix) ∷ [])))) ∷ []) None ∷ []

t12_seen : seen_in (Listed []) (Listed []) (elaborated t12 [] None) 10 ≡ Ran (record { log = lines ("0" ∷ []); wave = lines ("$timescale 1ns $end" ∷ "$scope module t $end" ∷ "$upscope $end" ∷ "$enddefinitions $end" ∷ "#0" ∷ "$dumpvars" ∷ "$end" ∷ []); outcome = Done; time = 0; steps = 7; race = Some (7, at 0 1 24) })
unfolding symbols_of word_of
t12_seen = refl

-- module t; class C; enum {A = 1} e; endclass C h; function C f(); $display("f"); return h; endfunction initial $display("%0d", f().A); endmodule
abbrev t13 : List Description
t13 = module_ (at 0 1 1) life.Unwritten (name (at 0 1 8) "t") None [] (items.Class (class_ (at 0 1 11) false (name (at 0 1 17) "C") None (property unqualified (decl life.Unwritten (types.Enum (at 0 1 20) (enum_item (name (at 0 1 26) "A") (Some (number (at 0 1 30) "1")) ∷ [])) (declarator (name (at 0 1 33) "e") None None ∷ [])) ∷ []) None) ∷ items.Decl (decl life.Unwritten (types.Named (name (at 0 1 45) "C")) (declarator (name (at 0 1 47) "h") None None ∷ [])) ∷ items.Routine (routine (head (at 0 1 50) life.Unwritten (units.Returns.Value (types.Written (types.Named (name (at 0 1 59) "C")))) (name (at 0 1 61) "f") []) [] (stmts.Statement (at 0 1 66) None (stmts.Call (system (at 0 1 66) "$display" (text (at 0 1 75) "f" ∷ []))) ∷ stmts.Statement (at 0 1 81) None (stmts.Return (Some (plain (at 0 1 88) "h"))) ∷ []) None) ∷ procedure (at 0 1 103) procedure_word.Initial (stmts.Statement (at 0 1 111) None (stmts.Call (system (at 0 1 111) "$display" (text (at 0 1 120) "%0d" ∷ tree.Expr.Post (root.Plain (name (at 0 1 127) "f")) (tree.Call (at 0 1 128) tree.NoExpr (tree.Member (name (at 0 1 131) "A") tree.NoSuffix)) ∷ [])))) ∷ []) None ∷ []

t13_seen : seen_in (Listed []) (Listed []) (elaborated t13 [] None) 11 ≡ Ran (record { log = lines ("f" ∷ "1" ∷ []); wave = lines ("$timescale 1ns $end" ∷ "$scope module t $end" ∷ "$upscope $end" ∷ "$enddefinitions $end" ∷ "#0" ∷ "$dumpvars" ∷ "$end" ∷ []); outcome = Done; time = 0; steps = 8; race = Some (10, at 0 1 47) })
unfolding symbols_of word_of
t13_seen = refl

-- module t; class C; enum {A = 1} e; endclass C h; function C f(); return h; endfunction logic [f().A:0] x; endmodule
abbrev t14 : List Description
t14 = module_ (at 0 1 1) life.Unwritten (name (at 0 1 8) "t") None [] (items.Class (class_ (at 0 1 11) false (name (at 0 1 17) "C") None (property unqualified (decl life.Unwritten (types.Enum (at 0 1 20) (enum_item (name (at 0 1 26) "A") (Some (number (at 0 1 30) "1")) ∷ [])) (declarator (name (at 0 1 33) "e") None None ∷ [])) ∷ []) None) ∷ items.Decl (decl life.Unwritten (types.Named (name (at 0 1 45) "C")) (declarator (name (at 0 1 47) "h") None None ∷ [])) ∷ items.Routine (routine (head (at 0 1 50) life.Unwritten (units.Returns.Value (types.Written (types.Named (name (at 0 1 59) "C")))) (name (at 0 1 61) "f") []) [] (stmts.Statement (at 0 1 66) None (stmts.Return (Some (plain (at 0 1 73) "h"))) ∷ []) None) ∷ items.Decl (decl life.Unwritten (types.WrittenType.Vector (at 0 1 88) vector_word.Logic sign.Unwritten (Some (range (at 0 1 94) (tree.Expr.Post (root.Plain (name (at 0 1 95) "f")) (tree.Call (at 0 1 96) tree.NoExpr (tree.Member (name (at 0 1 99) "A") tree.NoSuffix))) (number (at 0 1 101) "0")))) (declarator (name (at 0 1 104) "x") None None ∷ [])) ∷ []) None ∷ []

t14_broken : broken t14 [] None ≡ Some (fault 11 0 1 95)
unfolding symbols_of word_of
t14_broken = refl

-- module t; int x, a; initial a = x'(undef); endmodule
abbrev t15 : List Description
t15 = module_ (at 0 1 1) life.Unwritten (name (at 0 1 8) "t") None [] (items.Decl (decl life.Unwritten (types.Atom (at 0 1 11) atom_word.Int sign.Unwritten) (declarator (name (at 0 1 15) "x") None None ∷ declarator (name (at 0 1 18) "a") None None ∷ [])) ∷ procedure (at 0 1 21) procedure_word.Initial (stmts.Statement (at 0 1 29) None (blocking (target (at 0 1 29) "a") None (stmts.Value (tree.Cast (cast.Named (name (at 0 1 33) "x")) (plain (at 0 1 36) "undef"))))) ∷ []) None ∷ []

t15_broken : broken t15 [] None ≡ Some (fault 11 0 1 33)
unfolding symbols_of word_of
t15_broken = refl

-- module t; localparam P = 0; int a; initial a = P'(undef); endmodule
abbrev t16 : List Description
t16 = module_ (at 0 1 1) life.Unwritten (name (at 0 1 8) "t") None [] (items.Param (param param_word.Localparam types.Unwritten (value (name (at 0 1 22) "P") (number (at 0 1 26) "0") ∷ [])) ∷ items.Decl (decl life.Unwritten (types.Atom (at 0 1 29) atom_word.Int sign.Unwritten) (declarator (name (at 0 1 33) "a") None None ∷ [])) ∷ procedure (at 0 1 36) procedure_word.Initial (stmts.Statement (at 0 1 44) None (blocking (target (at 0 1 44) "a") None (stmts.Value (tree.Cast (cast.Named (name (at 0 1 48) "P")) (plain (at 0 1 51) "undef"))))) ∷ []) None ∷ []

t16_broken : broken t16 [] None ≡ Some (fault 12 0 1 48)
unfolding symbols_of word_of
t16_broken = refl

-- module t; initial begin int k; k = 1; #1 $display("%0d", k); end initial begin int k; k = 2; end endmodule
abbrev t17 : List Description
t17 = module_ (at 0 1 1) life.Unwritten (name (at 0 1 8) "t") None [] (procedure (at 0 1 11) procedure_word.Initial (stmts.Statement (at 0 1 19) None (stmts.Block None (decl life.Unwritten (types.Atom (at 0 1 25) atom_word.Int sign.Unwritten) (declarator (name (at 0 1 29) "k") None None ∷ []) ∷ []) (statements (stmts.Statement (at 0 1 32) None (blocking (target (at 0 1 32) "k") None (stmts.Value (number (at 0 1 36) "1"))) ∷ stmts.Statement (at 0 1 39) None (stmts.After (delay (at 0 1 39) (number (at 0 1 40) "1")) (stmts.Statement (at 0 1 42) None (stmts.Call (system (at 0 1 42) "$display" (text (at 0 1 51) "%0d" ∷ plain (at 0 1 58) "k" ∷ []))))) ∷ [])) None)) ∷ procedure (at 0 1 66) procedure_word.Initial (stmts.Statement (at 0 1 74) None (stmts.Block None (decl life.Unwritten (types.Atom (at 0 1 80) atom_word.Int sign.Unwritten) (declarator (name (at 0 1 84) "k") None None ∷ []) ∷ []) (statements (stmts.Statement (at 0 1 87) None (blocking (target (at 0 1 87) "k") None (stmts.Value (number (at 0 1 91) "2"))) ∷ [])) None)) ∷ []) None ∷ []

t17_seen : seen_in (Listed []) (Listed []) (elaborated t17 [] None) 17 ≡ Ran (record { log = lines ("1" ∷ []); wave = lines ("$timescale 1ns $end" ∷ "$scope module t $end" ∷ "$upscope $end" ∷ "$enddefinitions $end" ∷ "#0" ∷ "$dumpvars" ∷ "$end" ∷ []); outcome = Done; time = 1; steps = 14; race = Some (8, at 0 1 11) })
unfolding symbols_of word_of
t17_seen = refl

-- module t; logic a, b, y, z; always_comb begin logic k; k = a; y = k; end always_comb begin logic k; k = b; z = k; end endmodule
abbrev t18 : List Description
t18 = module_ (at 0 1 1) life.Unwritten (name (at 0 1 8) "t") None [] (items.Decl (decl life.Unwritten (types.WrittenType.Vector (at 0 1 11) vector_word.Logic sign.Unwritten None) (declarator (name (at 0 1 17) "a") None None ∷ declarator (name (at 0 1 20) "b") None None ∷ declarator (name (at 0 1 23) "y") None None ∷ declarator (name (at 0 1 26) "z") None None ∷ [])) ∷ procedure (at 0 1 29) procedure_word.AlwaysComb (stmts.Statement (at 0 1 41) None (stmts.Block None (decl life.Unwritten (types.WrittenType.Vector (at 0 1 47) vector_word.Logic sign.Unwritten None) (declarator (name (at 0 1 53) "k") None None ∷ []) ∷ []) (statements (stmts.Statement (at 0 1 56) None (blocking (target (at 0 1 56) "k") None (stmts.Value (plain (at 0 1 60) "a"))) ∷ stmts.Statement (at 0 1 63) None (blocking (target (at 0 1 63) "y") None (stmts.Value (plain (at 0 1 67) "k"))) ∷ [])) None)) ∷ procedure (at 0 1 74) procedure_word.AlwaysComb (stmts.Statement (at 0 1 86) None (stmts.Block None (decl life.Unwritten (types.WrittenType.Vector (at 0 1 92) vector_word.Logic sign.Unwritten None) (declarator (name (at 0 1 98) "k") None None ∷ []) ∷ []) (statements (stmts.Statement (at 0 1 101) None (blocking (target (at 0 1 101) "k") None (stmts.Value (plain (at 0 1 105) "b"))) ∷ stmts.Statement (at 0 1 108) None (blocking (target (at 0 1 108) "z") None (stmts.Value (plain (at 0 1 112) "k"))) ∷ [])) None)) ∷ []) None ∷ []

t18_seen : seen_in (Listed []) (Listed []) (elaborated t18 [] None) 13 ≡ Ran (record { log = []; wave = lines ("$timescale 1ns $end" ∷ "$scope module t $end" ∷ "$var reg 1 ! a $end" ∷ "$var reg 1 \" b $end" ∷ "$var reg 1 # y $end" ∷ "$var reg 1 $ z $end" ∷ "$upscope $end" ∷ "$enddefinitions $end" ∷ "#0" ∷ "$dumpvars" ∷ "x!" ∷ "x\"" ∷ "x#" ∷ "x$" ∷ "$end" ∷ []); outcome = Done; time = 0; steps = 10; race = None })
unfolding symbols_of word_of
t18_seen = refl

-- module t; initial case (1) 0: begin int k; k = 1; end default: begin int k; $display("%0d", k); end endcase initial begin int k; $display("%0d", k); end endmodule
abbrev t19 : List Description
t19 = module_ (at 0 1 1) life.Unwritten (name (at 0 1 8) "t") None [] (procedure (at 0 1 11) procedure_word.Initial (stmts.Statement (at 0 1 19) None (stmts.Case case_word.Exact (number (at 0 1 25) "1") (stmts.Labels (expressions (number (at 0 1 28) "0" ∷ [])) (stmts.Statement (at 0 1 31) None (stmts.Block None (decl life.Unwritten (types.Atom (at 0 1 37) atom_word.Int sign.Unwritten) (declarator (name (at 0 1 41) "k") None None ∷ []) ∷ []) (statements (stmts.Statement (at 0 1 44) None (blocking (target (at 0 1 44) "k") None (stmts.Value (number (at 0 1 48) "1"))) ∷ [])) None)) (stmts.Default (stmts.Statement (at 0 1 64) None (stmts.Block None (decl life.Unwritten (types.Atom (at 0 1 70) atom_word.Int sign.Unwritten) (declarator (name (at 0 1 74) "k") None None ∷ []) ∷ []) (statements (stmts.Statement (at 0 1 77) None (stmts.Call (system (at 0 1 77) "$display" (text (at 0 1 86) "%0d" ∷ plain (at 0 1 93) "k" ∷ []))) ∷ [])) None)) stmts.NoCaseItem)))) ∷ procedure (at 0 1 109) procedure_word.Initial (stmts.Statement (at 0 1 117) None (stmts.Block None (decl life.Unwritten (types.Atom (at 0 1 123) atom_word.Int sign.Unwritten) (declarator (name (at 0 1 127) "k") None None ∷ []) ∷ []) (statements (stmts.Statement (at 0 1 130) None (stmts.Call (system (at 0 1 130) "$display" (text (at 0 1 139) "%0d" ∷ plain (at 0 1 146) "k" ∷ []))) ∷ [])) None)) ∷ []) None ∷ []

t19_seen : seen_in (Listed []) (Listed []) (elaborated t19 [] None) 12 ≡ Ran (record { log = lines ("0" ∷ "0" ∷ []); wave = lines ("$timescale 1ns $end" ∷ "$scope module t $end" ∷ "$upscope $end" ∷ "$enddefinitions $end" ∷ "#0" ∷ "$dumpvars" ∷ "$end" ∷ []); outcome = Done; time = 0; steps = 9; race = Some (8, at 0 1 11) })
unfolding symbols_of word_of
t19_seen = refl

-- module t; logic a; class B; virtual function void f(); a = 1; endfunction endclass class D extends B; endclass D d; always_comb d.f(); initial a = 0; endmodule
abbrev t20 : List Description
t20 = module_ (at 0 1 1) life.Unwritten (name (at 0 1 8) "t") None [] (items.Decl (decl life.Unwritten (types.WrittenType.Vector (at 0 1 11) vector_word.Logic sign.Unwritten None) (declarator (name (at 0 1 17) "a") None None ∷ [])) ∷ items.Class (class_ (at 0 1 20) false (name (at 0 1 26) "B") None (method (qualifiers false false false true) (routine (head (at 0 1 37) life.Unwritten units.Void (name (at 0 1 51) "f") []) [] (stmts.Statement (at 0 1 56) None (blocking (target (at 0 1 56) "a") None (stmts.Value (number (at 0 1 60) "1"))) ∷ []) None) ∷ []) None) ∷ items.Class (class_ (at 0 1 84) false (name (at 0 1 90) "D") (Some (name (at 0 1 100) "B")) [] None) ∷ items.Decl (decl life.Unwritten (types.Named (name (at 0 1 112) "D")) (declarator (name (at 0 1 114) "d") None None ∷ [])) ∷ procedure (at 0 1 117) procedure_word.AlwaysComb (stmts.Statement (at 0 1 129) None (stmts.Call (tree.Expr.Post (root.Plain (name (at 0 1 129) "d")) (tree.Member (name (at 0 1 131) "f") (tree.Call (at 0 1 132) tree.NoExpr tree.NoSuffix))))) ∷ procedure (at 0 1 136) procedure_word.Initial (stmts.Statement (at 0 1 144) None (blocking (target (at 0 1 144) "a") None (stmts.Value (number (at 0 1 148) "0")))) ∷ []) None ∷ []

t20_broken : broken t20 [] None ≡ Some (fault 22 0 1 144)
unfolding symbols_of word_of
t20_broken = refl

-- module t; logic clk; logic [3:0] d; clocking cb @(posedge clk); inout d; endclocking initial cb.d[0] <= 1; endmodule
abbrev t21 : List Description
t21 = module_ (at 0 1 1) life.Unwritten (name (at 0 1 8) "t") None [] (items.Decl (decl life.Unwritten (types.WrittenType.Vector (at 0 1 11) vector_word.Logic sign.Unwritten None) (declarator (name (at 0 1 17) "clk") None None ∷ [])) ∷ items.Decl (decl life.Unwritten (types.WrittenType.Vector (at 0 1 22) vector_word.Logic sign.Unwritten (Some (range (at 0 1 28) (number (at 0 1 29) "3") (number (at 0 1 31) "0")))) (declarator (name (at 0 1 34) "d") None None ∷ [])) ∷ clocking None (name (at 0 1 46) "cb") edge.Posedge (name (at 0 1 59) "clk") (units.Signals (sided direction.Inout None ∷ []) (name (at 0 1 71) "d" ∷ []) ∷ []) None ∷ procedure (at 0 1 86) procedure_word.Initial (stmts.Statement (at 0 1 94) None (nonblocking (tree.Lval.Post (root.Plain (name (at 0 1 94) "cb")) (tree.Member (name (at 0 1 97) "d") (tree.Select (at 0 1 98) (number (at 0 1 99) "0") tree.NoSuffix))) None (number (at 0 1 105) "1"))) ∷ []) None ∷ []

t21_broken : broken t21 [] None ≡ Some (fault 47 0 1 97)
unfolding symbols_of word_of
t21_broken = refl

-- module t; int m[int], k; always_comb m[0] = 1; initial void'(m.first(k)); endmodule
abbrev t22 : List Description
t22 = module_ (at 0 1 1) life.Unwritten (name (at 0 1 8) "t") None [] (items.Decl (decl life.Unwritten (types.Atom (at 0 1 11) atom_word.Int sign.Unwritten) (declarator (name (at 0 1 15) "m") (Some (stmts.Key (at 0 1 16) (types.Atom (at 0 1 17) atom_word.Int sign.Unwritten))) None ∷ declarator (name (at 0 1 23) "k") None None ∷ [])) ∷ procedure (at 0 1 26) procedure_word.AlwaysComb (stmts.Statement (at 0 1 38) None (blocking (tree.Lval.Post (root.Plain (name (at 0 1 38) "m")) (tree.Select (at 0 1 39) (number (at 0 1 40) "0") tree.NoSuffix)) None (stmts.Value (number (at 0 1 45) "1")))) ∷ procedure (at 0 1 48) procedure_word.Initial (stmts.Statement (at 0 1 56) None (stmts.Ignore (at 0 1 56) (tree.Expr.Post (root.Plain (name (at 0 1 62) "m")) (tree.Member (name (at 0 1 64) "first") (tree.Call (at 0 1 69) (expressions (plain (at 0 1 70) "k" ∷ [])) tree.NoSuffix))))) ∷ []) None ∷ []

t22_seen : seen_in (Listed []) (Listed []) (elaborated t22 [] None) 9 ≡ Ran (record { log = []; wave = lines ("$timescale 1ns $end" ∷ "$scope module t $end" ∷ "$var reg 32 ! k $end" ∷ "$upscope $end" ∷ "$enddefinitions $end" ∷ "#0" ∷ "$dumpvars" ∷ "b0 !" ∷ "$end" ∷ []); outcome = Done; time = 0; steps = 6; race = Some (10, at 0 1 15) })
unfolding symbols_of word_of
t22_seen = refl

-- module t; class C; static int q[$]; endclass always_comb C::q.push_back(1); initial C::q.push_back(2); endmodule
abbrev t23 : List Description
t23 = module_ (at 0 1 1) life.Unwritten (name (at 0 1 8) "t") None [] (items.Class (class_ (at 0 1 11) false (name (at 0 1 17) "C") None (property (qualifiers false false true false) (decl life.Unwritten (types.Atom (at 0 1 27) atom_word.Int sign.Unwritten) (declarator (name (at 0 1 31) "q") (Some (stmts.Queue (at 0 1 32))) None ∷ [])) ∷ []) None) ∷ procedure (at 0 1 46) procedure_word.AlwaysComb (stmts.Statement (at 0 1 58) None (stmts.Call (tree.Expr.Post (root.Scoped (name (at 0 1 58) "C") (name (at 0 1 61) "q")) (tree.Member (name (at 0 1 63) "push_back") (tree.Call (at 0 1 72) (expressions (number (at 0 1 73) "1" ∷ [])) tree.NoSuffix))))) ∷ procedure (at 0 1 77) procedure_word.Initial (stmts.Statement (at 0 1 85) None (stmts.Call (tree.Expr.Post (root.Scoped (name (at 0 1 85) "C") (name (at 0 1 88) "q")) (tree.Member (name (at 0 1 90) "push_back") (tree.Call (at 0 1 99) (expressions (number (at 0 1 100) "2" ∷ [])) tree.NoSuffix))))) ∷ []) None ∷ []

t23_broken : broken t23 [] None ≡ Some (fault 22 0 1 88)
unfolding symbols_of word_of
t23_broken = refl

-- typedef enum {A} e; module A; endmodule module t; endmodule
abbrev t24 : List Description
t24 = descriptions.Item (items.Typedef (typedef (types.Enum (at 0 1 9) (enum_item (name (at 0 1 15) "A") None ∷ [])) (name (at 0 1 18) "e"))) ∷ module_ (at 0 1 21) life.Unwritten (name (at 0 1 28) "A") None [] [] None ∷ module_ (at 0 1 41) life.Unwritten (name (at 0 1 48) "t") None [] [] None ∷ []

t24_broken : broken t24 [] None ≡ Some (fault 5 0 1 28)
unfolding symbols_of word_of
t24_broken = refl

-- module A; endmodule typedef enum {A} e; module A; endmodule module t; endmodule
abbrev t25 : List Description
t25 = module_ (at 0 1 1) life.Unwritten (name (at 0 1 8) "A") None [] [] None ∷ descriptions.Item (items.Typedef (typedef (types.Enum (at 0 1 29) (enum_item (name (at 0 1 35) "A") None ∷ [])) (name (at 0 1 38) "e"))) ∷ module_ (at 0 1 41) life.Unwritten (name (at 0 1 48) "A") None [] [] None ∷ module_ (at 0 1 61) life.Unwritten (name (at 0 1 68) "t") None [] [] None ∷ []

t25_broken : broken t25 [] None ≡ Some (fault 5 0 1 35)
unfolding symbols_of word_of
t25_broken = refl

-- module A; endmodule module A; endmodule module t; endmodule
abbrev t26 : List Description
t26 = module_ (at 0 1 1) life.Unwritten (name (at 0 1 8) "A") None [] [] None ∷ module_ (at 0 1 21) life.Unwritten (name (at 0 1 28) "A") None [] [] None ∷ module_ (at 0 1 41) life.Unwritten (name (at 0 1 48) "t") None [] [] None ∷ []

t26_broken : broken t26 [] None ≡ Some (fault 1 0 1 28)
unfolding symbols_of word_of
t26_broken = refl

-- module t; event e; mailbox m = new; bit b; initial begin m.put(e.triggered); $display("%0d", m.try_get(b)); end endmodule
abbrev t27 : List Description
t27 = module_ (at 0 1 1) life.Unwritten (name (at 0 1 8) "t") None [] (items.Decl (decl life.Unwritten (types.Event (at 0 1 11)) (declarator (name (at 0 1 17) "e") None None ∷ [])) ∷ items.Decl (decl life.Unwritten (types.Mailbox (at 0 1 20)) (declarator (name (at 0 1 28) "m") None (Some (stmts.New (at 0 1 32) tree.Unwritten)) ∷ [])) ∷ items.Decl (decl life.Unwritten (types.WrittenType.Vector (at 0 1 37) vector_word.Bit sign.Unwritten None) (declarator (name (at 0 1 41) "b") None None ∷ [])) ∷ procedure (at 0 1 44) procedure_word.Initial (stmts.Statement (at 0 1 52) None (stmts.Block None [] (statements (stmts.Statement (at 0 1 58) None (stmts.Call (tree.Expr.Post (root.Plain (name (at 0 1 58) "m")) (tree.Member (name (at 0 1 60) "put") (tree.Call (at 0 1 63) (expressions (tree.Expr.Post (root.Plain (name (at 0 1 64) "e")) (tree.Member (name (at 0 1 66) "triggered") tree.NoSuffix) ∷ [])) tree.NoSuffix)))) ∷ stmts.Statement (at 0 1 78) None (stmts.Call (system (at 0 1 78) "$display" (text (at 0 1 87) "%0d" ∷ tree.Expr.Post (root.Plain (name (at 0 1 94) "m")) (tree.Member (name (at 0 1 96) "try_get") (tree.Call (at 0 1 103) (expressions (plain (at 0 1 104) "b" ∷ [])) tree.NoSuffix)) ∷ []))) ∷ [])) None)) ∷ []) None ∷ []

t27_seen : seen_in (Listed []) (Listed []) (elaborated t27 [] None) 10 ≡ Ran (record { log = lines ("1" ∷ []); wave = lines ("$timescale 1ns $end" ∷ "$scope module t $end" ∷ "$var reg 1 ! b $end" ∷ "$upscope $end" ∷ "$enddefinitions $end" ∷ "#0" ∷ "$dumpvars" ∷ "0!" ∷ "$end" ∷ []); outcome = Done; time = 0; steps = 7; race = Some (10, at 0 1 17) })
unfolding symbols_of word_of
t27_seen = refl

-- module t; int A[enum {A}]; endmodule
abbrev t28 : List Description
t28 = module_ (at 0 1 1) life.Unwritten (name (at 0 1 8) "t") None [] (items.Decl (decl life.Unwritten (types.Atom (at 0 1 11) atom_word.Int sign.Unwritten) (declarator (name (at 0 1 15) "A") (Some (stmts.Key (at 0 1 16) (types.Enum (at 0 1 17) (enum_item (name (at 0 1 23) "A") None ∷ [])))) None ∷ [])) ∷ []) None ∷ []

t28_broken : broken t28 [] None ≡ Some (fault 5 0 1 23)
unfolding symbols_of word_of
t28_broken = refl

-- module t; int q[$], r[$]; always @* begin r = q; $display("run"); end initial begin #1 r.push_back(1); #1 q.push_back(2); end endmodule
abbrev t29 : List Description
t29 = module_ (at 0 1 1) life.Unwritten (name (at 0 1 8) "t") None [] (items.Decl (decl life.Unwritten (types.Atom (at 0 1 11) atom_word.Int sign.Unwritten) (declarator (name (at 0 1 15) "q") (Some (stmts.Queue (at 0 1 16))) None ∷ declarator (name (at 0 1 21) "r") (Some (stmts.Queue (at 0 1 22))) None ∷ [])) ∷ procedure (at 0 1 27) procedure_word.Always (stmts.Statement (at 0 1 34) None (stmts.On stmts.Star (stmts.Statement (at 0 1 37) None (stmts.Block None [] (statements (stmts.Statement (at 0 1 43) None (blocking (target (at 0 1 43) "r") None (stmts.Value (plain (at 0 1 47) "q"))) ∷ stmts.Statement (at 0 1 50) None (stmts.Call (system (at 0 1 50) "$display" (text (at 0 1 59) "run" ∷ []))) ∷ [])) None)))) ∷ procedure (at 0 1 71) procedure_word.Initial (stmts.Statement (at 0 1 79) None (stmts.Block None [] (statements (stmts.Statement (at 0 1 85) None (stmts.After (delay (at 0 1 85) (number (at 0 1 86) "1")) (stmts.Statement (at 0 1 88) None (stmts.Call (tree.Expr.Post (root.Plain (name (at 0 1 88) "r")) (tree.Member (name (at 0 1 90) "push_back") (tree.Call (at 0 1 99) (expressions (number (at 0 1 100) "1" ∷ [])) tree.NoSuffix)))))) ∷ stmts.Statement (at 0 1 104) None (stmts.After (delay (at 0 1 104) (number (at 0 1 105) "1")) (stmts.Statement (at 0 1 107) None (stmts.Call (tree.Expr.Post (root.Plain (name (at 0 1 107) "q")) (tree.Member (name (at 0 1 109) "push_back") (tree.Call (at 0 1 118) (expressions (number (at 0 1 119) "2" ∷ [])) tree.NoSuffix)))))) ∷ [])) None)) ∷ []) None ∷ []

t29_seen : seen_in (Listed []) (Listed []) (elaborated t29 [] None) 26 ≡ Ran (record { log = lines ("run" ∷ []); wave = lines ("$timescale 1ns $end" ∷ "$scope module t $end" ∷ "$upscope $end" ∷ "$enddefinitions $end" ∷ "#0" ∷ "$dumpvars" ∷ "$end" ∷ []); outcome = Done; time = 2; steps = 23; race = Some (10, at 0 1 15) })
unfolding symbols_of word_of
t29_seen = refl

-- module t; int q[$], a; always @* begin q[0] = a; $display("run"); end initial begin #1 q.push_back(1); #1 a = 1; end endmodule
abbrev t30 : List Description
t30 = module_ (at 0 1 1) life.Unwritten (name (at 0 1 8) "t") None [] (items.Decl (decl life.Unwritten (types.Atom (at 0 1 11) atom_word.Int sign.Unwritten) (declarator (name (at 0 1 15) "q") (Some (stmts.Queue (at 0 1 16))) None ∷ declarator (name (at 0 1 21) "a") None None ∷ [])) ∷ procedure (at 0 1 24) procedure_word.Always (stmts.Statement (at 0 1 31) None (stmts.On stmts.Star (stmts.Statement (at 0 1 34) None (stmts.Block None [] (statements (stmts.Statement (at 0 1 40) None (blocking (tree.Lval.Post (root.Plain (name (at 0 1 40) "q")) (tree.Select (at 0 1 41) (number (at 0 1 42) "0") tree.NoSuffix)) None (stmts.Value (plain (at 0 1 47) "a"))) ∷ stmts.Statement (at 0 1 50) None (stmts.Call (system (at 0 1 50) "$display" (text (at 0 1 59) "run" ∷ []))) ∷ [])) None)))) ∷ procedure (at 0 1 71) procedure_word.Initial (stmts.Statement (at 0 1 79) None (stmts.Block None [] (statements (stmts.Statement (at 0 1 85) None (stmts.After (delay (at 0 1 85) (number (at 0 1 86) "1")) (stmts.Statement (at 0 1 88) None (stmts.Call (tree.Expr.Post (root.Plain (name (at 0 1 88) "q")) (tree.Member (name (at 0 1 90) "push_back") (tree.Call (at 0 1 99) (expressions (number (at 0 1 100) "1" ∷ [])) tree.NoSuffix)))))) ∷ stmts.Statement (at 0 1 104) None (stmts.After (delay (at 0 1 104) (number (at 0 1 105) "1")) (stmts.Statement (at 0 1 107) None (blocking (target (at 0 1 107) "a") None (stmts.Value (number (at 0 1 111) "1"))))) ∷ [])) None)) ∷ []) None ∷ []

t30_seen : seen_in (Listed []) (Listed []) (elaborated t30 [] None) 26 ≡ Ran (record { log = lines ("run" ∷ []); wave = lines ("$timescale 1ns $end" ∷ "$scope module t $end" ∷ "$var reg 32 ! a $end" ∷ "$upscope $end" ∷ "$enddefinitions $end" ∷ "#0" ∷ "$dumpvars" ∷ "b0 !" ∷ "$end" ∷ "#2" ∷ "b1 !" ∷ []); outcome = Done; time = 2; steps = 23; race = Some (1, at 0 1 15) })
unfolding symbols_of word_of
t30_seen = refl

-- module t; logic [3:0] a = 0; int i; assign a[i] = 1; endmodule
abbrev t31 : List Description
t31 = module_ (at 0 1 1) life.Unwritten (name (at 0 1 8) "t") None [] (items.Decl (decl life.Unwritten (types.WrittenType.Vector (at 0 1 11) vector_word.Logic sign.Unwritten (Some (range (at 0 1 17) (number (at 0 1 18) "3") (number (at 0 1 20) "0")))) (declarator (name (at 0 1 23) "a") None (Some (stmts.Value (number (at 0 1 27) "0"))) ∷ [])) ∷ items.Decl (decl life.Unwritten (types.Atom (at 0 1 30) atom_word.Int sign.Unwritten) (declarator (name (at 0 1 34) "i") None None ∷ [])) ∷ items.Assign (assign_item (tree.Lval.Post (root.Plain (name (at 0 1 44) "a")) (tree.Select (at 0 1 45) (plain (at 0 1 46) "i") tree.NoSuffix)) (number (at 0 1 51) "1") ∷ []) ∷ []) None ∷ []

t31_broken : broken t31 [] None ≡ Some (fault 23 0 1 27)
unfolding symbols_of word_of
t31_broken = refl

-- module t; logic [3:0] a; int i; initial a = 0; assign a[i] = 1; endmodule
abbrev t32 : List Description
t32 = module_ (at 0 1 1) life.Unwritten (name (at 0 1 8) "t") None [] (items.Decl (decl life.Unwritten (types.WrittenType.Vector (at 0 1 11) vector_word.Logic sign.Unwritten (Some (range (at 0 1 17) (number (at 0 1 18) "3") (number (at 0 1 20) "0")))) (declarator (name (at 0 1 23) "a") None None ∷ [])) ∷ items.Decl (decl life.Unwritten (types.Atom (at 0 1 26) atom_word.Int sign.Unwritten) (declarator (name (at 0 1 30) "i") None None ∷ [])) ∷ procedure (at 0 1 33) procedure_word.Initial (stmts.Statement (at 0 1 41) None (blocking (target (at 0 1 41) "a") None (stmts.Value (number (at 0 1 45) "0")))) ∷ items.Assign (assign_item (tree.Lval.Post (root.Plain (name (at 0 1 55) "a")) (tree.Select (at 0 1 56) (plain (at 0 1 57) "i") tree.NoSuffix)) (number (at 0 1 62) "1") ∷ []) ∷ []) None ∷ []

t32_broken : broken t32 [] None ≡ Some (fault 20 0 1 55)
unfolding symbols_of word_of
t32_broken = refl

-- module t; initial begin automatic int a[2]; a <= 0; end endmodule
abbrev t33 : List Description
t33 = module_ (at 0 1 1) life.Unwritten (name (at 0 1 8) "t") None [] (procedure (at 0 1 11) procedure_word.Initial (stmts.Statement (at 0 1 19) None (stmts.Block None (decl life.Automatic (types.Atom (at 0 1 35) atom_word.Int sign.Unwritten) (declarator (name (at 0 1 39) "a") (Some (stmts.Size (at 0 1 40) (number (at 0 1 41) "2"))) None ∷ []) ∷ []) (statements (stmts.Statement (at 0 1 45) None (nonblocking (target (at 0 1 45) "a") None (number (at 0 1 50) "0")) ∷ [])) None)) ∷ []) None ∷ []

t33_broken : broken t33 [] None ≡ Some (fault 26 0 1 45)
unfolding symbols_of word_of
t33_broken = refl

-- module t; class A; int a[2]; endclass A c; assign c.a = 0; endmodule
abbrev t34 : List Description
t34 = module_ (at 0 1 1) life.Unwritten (name (at 0 1 8) "t") None [] (items.Class (class_ (at 0 1 11) false (name (at 0 1 17) "A") None (property unqualified (decl life.Unwritten (types.Atom (at 0 1 20) atom_word.Int sign.Unwritten) (declarator (name (at 0 1 24) "a") (Some (stmts.Size (at 0 1 25) (number (at 0 1 26) "2"))) None ∷ [])) ∷ []) None) ∷ items.Decl (decl life.Unwritten (types.Named (name (at 0 1 39) "A")) (declarator (name (at 0 1 41) "c") None None ∷ [])) ∷ items.Assign (assign_item (tree.Lval.Post (root.Plain (name (at 0 1 51) "c")) (tree.Member (name (at 0 1 53) "a") tree.NoSuffix)) (number (at 0 1 57) "0") ∷ []) ∷ []) None ∷ []

t34_broken : broken t34 [] None ≡ Some (fault 18 0 1 51)
unfolding symbols_of word_of
t34_broken = refl

-- module t; logic [3:0] d; logic c; clocking cb @(posedge c); input d; endclocking initial cb.d[undef] <= 1; endmodule
abbrev t35 : List Description
t35 = module_ (at 0 1 1) life.Unwritten (name (at 0 1 8) "t") None [] (items.Decl (decl life.Unwritten (types.WrittenType.Vector (at 0 1 11) vector_word.Logic sign.Unwritten (Some (range (at 0 1 17) (number (at 0 1 18) "3") (number (at 0 1 20) "0")))) (declarator (name (at 0 1 23) "d") None None ∷ [])) ∷ items.Decl (decl life.Unwritten (types.WrittenType.Vector (at 0 1 26) vector_word.Logic sign.Unwritten None) (declarator (name (at 0 1 32) "c") None None ∷ [])) ∷ clocking None (name (at 0 1 44) "cb") edge.Posedge (name (at 0 1 57) "c") (units.Signals (sided direction.Input None ∷ []) (name (at 0 1 67) "d" ∷ []) ∷ []) None ∷ procedure (at 0 1 82) procedure_word.Initial (stmts.Statement (at 0 1 90) None (nonblocking (tree.Lval.Post (root.Plain (name (at 0 1 90) "cb")) (tree.Member (name (at 0 1 93) "d") (tree.Select (at 0 1 94) (plain (at 0 1 95) "undef") tree.NoSuffix))) None (number (at 0 1 105) "1"))) ∷ []) None ∷ []

t35_broken : broken t35 [] None ≡ Some (fault 47 0 1 93)
unfolding symbols_of word_of
t35_broken = refl

-- module t; logic [3:0] d; logic c; clocking cb @(posedge c); inout d; endclocking initial cb.d[undef] <= 1; endmodule
abbrev t36 : List Description
t36 = module_ (at 0 1 1) life.Unwritten (name (at 0 1 8) "t") None [] (items.Decl (decl life.Unwritten (types.WrittenType.Vector (at 0 1 11) vector_word.Logic sign.Unwritten (Some (range (at 0 1 17) (number (at 0 1 18) "3") (number (at 0 1 20) "0")))) (declarator (name (at 0 1 23) "d") None None ∷ [])) ∷ items.Decl (decl life.Unwritten (types.WrittenType.Vector (at 0 1 26) vector_word.Logic sign.Unwritten None) (declarator (name (at 0 1 32) "c") None None ∷ [])) ∷ clocking None (name (at 0 1 44) "cb") edge.Posedge (name (at 0 1 57) "c") (units.Signals (sided direction.Inout None ∷ []) (name (at 0 1 67) "d" ∷ []) ∷ []) None ∷ procedure (at 0 1 82) procedure_word.Initial (stmts.Statement (at 0 1 90) None (nonblocking (tree.Lval.Post (root.Plain (name (at 0 1 90) "cb")) (tree.Member (name (at 0 1 93) "d") (tree.Select (at 0 1 94) (plain (at 0 1 95) "undef") tree.NoSuffix))) None (number (at 0 1 105) "1"))) ∷ []) None ∷ []

t36_broken : broken t36 [] None ≡ Some (fault 47 0 1 93)
unfolding symbols_of word_of
t36_broken = refl

-- module t; logic [3:0] a[2]; int i; assign a[i][undef] = 1; endmodule
abbrev t37 : List Description
t37 = module_ (at 0 1 1) life.Unwritten (name (at 0 1 8) "t") None [] (items.Decl (decl life.Unwritten (types.WrittenType.Vector (at 0 1 11) vector_word.Logic sign.Unwritten (Some (range (at 0 1 17) (number (at 0 1 18) "3") (number (at 0 1 20) "0")))) (declarator (name (at 0 1 23) "a") (Some (stmts.Size (at 0 1 24) (number (at 0 1 25) "2"))) None ∷ [])) ∷ items.Decl (decl life.Unwritten (types.Atom (at 0 1 29) atom_word.Int sign.Unwritten) (declarator (name (at 0 1 33) "i") None None ∷ [])) ∷ items.Assign (assign_item (tree.Lval.Post (root.Plain (name (at 0 1 43) "a")) (tree.Select (at 0 1 44) (plain (at 0 1 45) "i") (tree.Select (at 0 1 47) (plain (at 0 1 48) "undef") tree.NoSuffix))) (number (at 0 1 57) "1") ∷ []) ∷ []) None ∷ []

t37_broken : broken t37 [] None ≡ Some (fault 11 0 1 45)
unfolding symbols_of word_of
t37_broken = refl

-- module t; function int f(int n); return n; endfunction initial f(undef) = 1; endmodule
abbrev t38 : List Description
t38 = module_ (at 0 1 1) life.Unwritten (name (at 0 1 8) "t") None [] (items.Routine (routine (head (at 0 1 11) life.Unwritten (units.Returns.Value (types.Written (types.Atom (at 0 1 20) atom_word.Int sign.Unwritten))) (name (at 0 1 24) "f") (argument None (types.Written (types.Atom (at 0 1 26) atom_word.Int sign.Unwritten)) (name (at 0 1 30) "n") None ∷ [])) [] (stmts.Statement (at 0 1 34) None (stmts.Return (Some (plain (at 0 1 41) "n"))) ∷ []) None) ∷ procedure (at 0 1 56) procedure_word.Initial (stmts.Statement (at 0 1 64) None (blocking (tree.Lval.Post (root.Plain (name (at 0 1 64) "f")) (tree.Call (at 0 1 65) (expressions (plain (at 0 1 66) "undef" ∷ [])) tree.NoSuffix)) None (stmts.Value (number (at 0 1 75) "1")))) ∷ []) None ∷ []

t38_broken : broken t38 [] None ≡ Some (fault 18 0 1 64)
unfolding symbols_of word_of
t38_broken = refl

-- module t; task w(); endtask initial w() = 1; endmodule
abbrev t39 : List Description
t39 = module_ (at 0 1 1) life.Unwritten (name (at 0 1 8) "t") None [] (items.Routine (routine (head (at 0 1 11) life.Unwritten units.Task (name (at 0 1 16) "w") []) [] [] None) ∷ procedure (at 0 1 29) procedure_word.Initial (stmts.Statement (at 0 1 37) None (blocking (tree.Lval.Post (root.Plain (name (at 0 1 37) "w")) (tree.Call (at 0 1 38) tree.NoExpr tree.NoSuffix)) None (stmts.Value (number (at 0 1 43) "1")))) ∷ []) None ∷ []

t39_broken : broken t39 [] None ≡ Some (fault 18 0 1 37)
unfolding symbols_of word_of
t39_broken = refl

-- module t; class C; endclass C h; initial h.f(1) = 1; endmodule
abbrev t40 : List Description
t40 = module_ (at 0 1 1) life.Unwritten (name (at 0 1 8) "t") None [] (items.Class (class_ (at 0 1 11) false (name (at 0 1 17) "C") None [] None) ∷ items.Decl (decl life.Unwritten (types.Named (name (at 0 1 29) "C")) (declarator (name (at 0 1 31) "h") None None ∷ [])) ∷ procedure (at 0 1 34) procedure_word.Initial (stmts.Statement (at 0 1 42) None (blocking (tree.Lval.Post (root.Plain (name (at 0 1 42) "h")) (tree.Member (name (at 0 1 44) "f") (tree.Call (at 0 1 45) (expressions (number (at 0 1 46) "1" ∷ [])) tree.NoSuffix))) None (stmts.Value (number (at 0 1 51) "1")))) ∷ []) None ∷ []

t40_broken : broken t40 [] None ≡ Some (fault 36 0 1 44)
unfolding symbols_of word_of
t40_broken = refl

-- module t; logic a, b = 0; assign {b, a[undef]} = 1; endmodule
abbrev t41 : List Description
t41 = module_ (at 0 1 1) life.Unwritten (name (at 0 1 8) "t") None [] (items.Decl (decl life.Unwritten (types.WrittenType.Vector (at 0 1 11) vector_word.Logic sign.Unwritten None) (declarator (name (at 0 1 17) "a") None None ∷ declarator (name (at 0 1 20) "b") None (Some (stmts.Value (number (at 0 1 24) "0"))) ∷ [])) ∷ items.Assign (assign_item (tree.Lval.Join (at 0 1 34) (targets (target (at 0 1 35) "b" ∷ tree.Lval.Post (root.Plain (name (at 0 1 38) "a")) (tree.Select (at 0 1 39) (plain (at 0 1 40) "undef") tree.NoSuffix) ∷ []))) (number (at 0 1 50) "1") ∷ []) ∷ []) None ∷ []

t41_broken : broken t41 [] None ≡ Some (fault 23 0 1 24)
unfolding symbols_of word_of
t41_broken = refl

-- module t; logic a, b; assign b = 1; task w(output logic x); endtask initial w(b[undef]); endmodule
abbrev t42 : List Description
t42 = module_ (at 0 1 1) life.Unwritten (name (at 0 1 8) "t") None [] (items.Decl (decl life.Unwritten (types.WrittenType.Vector (at 0 1 11) vector_word.Logic sign.Unwritten None) (declarator (name (at 0 1 17) "a") None None ∷ declarator (name (at 0 1 20) "b") None None ∷ [])) ∷ items.Assign (assign_item (target (at 0 1 30) "b") (number (at 0 1 34) "1") ∷ []) ∷ items.Routine (routine (head (at 0 1 37) life.Unwritten units.Task (name (at 0 1 42) "w") (argument (Some direction.Output) (types.Written (types.WrittenType.Vector (at 0 1 51) vector_word.Logic sign.Unwritten None)) (name (at 0 1 57) "x") None ∷ [])) [] [] None) ∷ procedure (at 0 1 69) procedure_word.Initial (stmts.Statement (at 0 1 77) None (stmts.Call (tree.Expr.Post (root.Plain (name (at 0 1 77) "w")) (tree.Call (at 0 1 78) (expressions (tree.Expr.Post (root.Plain (name (at 0 1 79) "b")) (tree.Select (at 0 1 80) (plain (at 0 1 81) "undef") tree.NoSuffix) ∷ [])) tree.NoSuffix)))) ∷ []) None ∷ []

t42_broken : broken t42 [] None ≡ Some (fault 20 0 1 79)
unfolding symbols_of word_of
t42_broken = refl

-- module t; int q[$], r[$]; assign q = r; initial begin r.push_back(1); $display("%0d", q.size()); end endmodule
abbrev t43 : List Description
t43 = module_ (at 0 1 1) life.Unwritten (name (at 0 1 8) "t") None [] (items.Decl (decl life.Unwritten (types.Atom (at 0 1 11) atom_word.Int sign.Unwritten) (declarator (name (at 0 1 15) "q") (Some (stmts.Queue (at 0 1 16))) None ∷ declarator (name (at 0 1 21) "r") (Some (stmts.Queue (at 0 1 22))) None ∷ [])) ∷ items.Assign (assign_item (target (at 0 1 34) "q") (plain (at 0 1 38) "r") ∷ []) ∷ procedure (at 0 1 41) procedure_word.Initial (stmts.Statement (at 0 1 49) None (stmts.Block None [] (statements (stmts.Statement (at 0 1 55) None (stmts.Call (tree.Expr.Post (root.Plain (name (at 0 1 55) "r")) (tree.Member (name (at 0 1 57) "push_back") (tree.Call (at 0 1 66) (expressions (number (at 0 1 67) "1" ∷ [])) tree.NoSuffix)))) ∷ stmts.Statement (at 0 1 71) None (stmts.Call (system (at 0 1 71) "$display" (text (at 0 1 80) "%0d" ∷ tree.Expr.Post (root.Plain (name (at 0 1 87) "q")) (tree.Member (name (at 0 1 89) "size") (tree.Call (at 0 1 93) tree.NoExpr tree.NoSuffix)) ∷ []))) ∷ [])) None)) ∷ []) None ∷ []

t43_seen : seen_in (Listed []) (Listed []) (elaborated t43 [] None) 13 ≡ Ran (record { log = lines ("0" ∷ []); wave = lines ("$timescale 1ns $end" ∷ "$scope module t $end" ∷ "$upscope $end" ∷ "$enddefinitions $end" ∷ "#0" ∷ "$dumpvars" ∷ "$end" ∷ []); outcome = Done; time = 0; steps = 10; race = Some (10, at 0 1 15) })
unfolding symbols_of word_of
t43_seen = refl

-- module t; int q[$], r[$]; assign q = r; initial begin #1 r.push_back(1); #1 r.push_back(2); $display("%0d", q.size()); end endmodule
abbrev t44 : List Description
t44 = module_ (at 0 1 1) life.Unwritten (name (at 0 1 8) "t") None [] (items.Decl (decl life.Unwritten (types.Atom (at 0 1 11) atom_word.Int sign.Unwritten) (declarator (name (at 0 1 15) "q") (Some (stmts.Queue (at 0 1 16))) None ∷ declarator (name (at 0 1 21) "r") (Some (stmts.Queue (at 0 1 22))) None ∷ [])) ∷ items.Assign (assign_item (target (at 0 1 34) "q") (plain (at 0 1 38) "r") ∷ []) ∷ procedure (at 0 1 41) procedure_word.Initial (stmts.Statement (at 0 1 49) None (stmts.Block None [] (statements (stmts.Statement (at 0 1 55) None (stmts.After (delay (at 0 1 55) (number (at 0 1 56) "1")) (stmts.Statement (at 0 1 58) None (stmts.Call (tree.Expr.Post (root.Plain (name (at 0 1 58) "r")) (tree.Member (name (at 0 1 60) "push_back") (tree.Call (at 0 1 69) (expressions (number (at 0 1 70) "1" ∷ [])) tree.NoSuffix)))))) ∷ stmts.Statement (at 0 1 74) None (stmts.After (delay (at 0 1 74) (number (at 0 1 75) "1")) (stmts.Statement (at 0 1 77) None (stmts.Call (tree.Expr.Post (root.Plain (name (at 0 1 77) "r")) (tree.Member (name (at 0 1 79) "push_back") (tree.Call (at 0 1 88) (expressions (number (at 0 1 89) "2" ∷ [])) tree.NoSuffix)))))) ∷ stmts.Statement (at 0 1 93) None (stmts.Call (system (at 0 1 93) "$display" (text (at 0 1 102) "%0d" ∷ tree.Expr.Post (root.Plain (name (at 0 1 109) "q")) (tree.Member (name (at 0 1 111) "size") (tree.Call (at 0 1 115) tree.NoExpr tree.NoSuffix)) ∷ []))) ∷ [])) None)) ∷ []) None ∷ []

t44_seen : seen_in (Listed []) (Listed []) (elaborated t44 [] None) 26 ≡ Ran (record { log = lines ("1" ∷ []); wave = lines ("$timescale 1ns $end" ∷ "$scope module t $end" ∷ "$upscope $end" ∷ "$enddefinitions $end" ∷ "#0" ∷ "$dumpvars" ∷ "$end" ∷ []); outcome = Done; time = 2; steps = 23; race = Some (10, at 0 1 15) })
unfolding symbols_of word_of
t44_seen = refl

-- module t; int n; string s; function int f(); n = n + 1; return n; endfunction initial begin s = $sformatf("x", f()); $display("%s %0d", s, n); end endmodule
abbrev t45 : List Description
t45 = module_ (at 0 1 1) life.Unwritten (name (at 0 1 8) "t") None [] (items.Decl (decl life.Unwritten (types.Atom (at 0 1 11) atom_word.Int sign.Unwritten) (declarator (name (at 0 1 15) "n") None None ∷ [])) ∷ items.Decl (decl life.Unwritten (types.Text (at 0 1 18)) (declarator (name (at 0 1 25) "s") None None ∷ [])) ∷ items.Routine (routine (head (at 0 1 28) life.Unwritten (units.Returns.Value (types.Written (types.Atom (at 0 1 37) atom_word.Int sign.Unwritten))) (name (at 0 1 41) "f") []) [] (stmts.Statement (at 0 1 46) None (blocking (target (at 0 1 46) "n") None (stmts.Value (tree.Binary binary_word.Plus (at 0 1 52) (plain (at 0 1 50) "n") (number (at 0 1 54) "1")))) ∷ stmts.Statement (at 0 1 57) None (stmts.Return (Some (plain (at 0 1 64) "n"))) ∷ []) None) ∷ procedure (at 0 1 79) procedure_word.Initial (stmts.Statement (at 0 1 87) None (stmts.Block None [] (statements (stmts.Statement (at 0 1 93) None (blocking (target (at 0 1 93) "s") None (stmts.Value (system (at 0 1 97) "$sformatf" (text (at 0 1 107) "x" ∷ tree.Expr.Post (root.Plain (name (at 0 1 112) "f")) (tree.Call (at 0 1 113) tree.NoExpr tree.NoSuffix) ∷ [])))) ∷ stmts.Statement (at 0 1 118) None (stmts.Call (system (at 0 1 118) "$display" (text (at 0 1 127) "%s %0d" ∷ plain (at 0 1 137) "s" ∷ plain (at 0 1 140) "n" ∷ []))) ∷ [])) None)) ∷ []) None ∷ []

t45_seen : seen_in (Listed []) (Listed []) (elaborated t45 [] None) 13 ≡ Ran (record { log = lines ("x 1" ∷ []); wave = lines ("$timescale 1ns $end" ∷ "$scope module t $end" ∷ "$var reg 32 ! n $end" ∷ "$upscope $end" ∷ "$enddefinitions $end" ∷ "#0" ∷ "$dumpvars" ∷ "b1 !" ∷ "$end" ∷ []); outcome = Done; time = 0; steps = 10; race = Some (7, at 0 1 41) })
unfolding symbols_of word_of
t45_seen = refl

-- module t; function int f(int n); return n; endfunction string s; initial begin s = $sformatf("%0d", f(1), f(2)); $display("%s", s); end endmodule
abbrev t46 : List Description
t46 = module_ (at 0 1 1) life.Unwritten (name (at 0 1 8) "t") None [] (items.Routine (routine (head (at 0 1 11) life.Unwritten (units.Returns.Value (types.Written (types.Atom (at 0 1 20) atom_word.Int sign.Unwritten))) (name (at 0 1 24) "f") (argument None (types.Written (types.Atom (at 0 1 26) atom_word.Int sign.Unwritten)) (name (at 0 1 30) "n") None ∷ [])) [] (stmts.Statement (at 0 1 34) None (stmts.Return (Some (plain (at 0 1 41) "n"))) ∷ []) None) ∷ items.Decl (decl life.Unwritten (types.Text (at 0 1 56)) (declarator (name (at 0 1 63) "s") None None ∷ [])) ∷ procedure (at 0 1 66) procedure_word.Initial (stmts.Statement (at 0 1 74) None (stmts.Block None [] (statements (stmts.Statement (at 0 1 80) None (blocking (target (at 0 1 80) "s") None (stmts.Value (system (at 0 1 84) "$sformatf" (text (at 0 1 94) "%0d" ∷ tree.Expr.Post (root.Plain (name (at 0 1 101) "f")) (tree.Call (at 0 1 102) (expressions (number (at 0 1 103) "1" ∷ [])) tree.NoSuffix) ∷ tree.Expr.Post (root.Plain (name (at 0 1 107) "f")) (tree.Call (at 0 1 108) (expressions (number (at 0 1 109) "2" ∷ [])) tree.NoSuffix) ∷ [])))) ∷ stmts.Statement (at 0 1 114) None (stmts.Call (system (at 0 1 114) "$display" (text (at 0 1 123) "%s" ∷ plain (at 0 1 129) "s" ∷ []))) ∷ [])) None)) ∷ []) None ∷ []

t46_seen : seen_in (Listed []) (Listed []) (elaborated t46 [] None) 15 ≡ Ran (record { log = lines ("1" ∷ []); wave = lines ("$timescale 1ns $end" ∷ "$scope module t $end" ∷ "$upscope $end" ∷ "$enddefinitions $end" ∷ "#0" ∷ "$dumpvars" ∷ "$end" ∷ []); outcome = Done; time = 0; steps = 12; race = Some (7, at 0 1 24) })
unfolding symbols_of word_of
t46_seen = refl

-- module t; typedef enum {A, C = Q} e_t; localparam Q = R, R = S, S = T, T = 2; localparam e_t P = e_t'(2); localparam string s = P.name(); initial $display("%s", s); endmodule
abbrev t47 : List Description
t47 = module_ (at 0 1 1) life.Unwritten (name (at 0 1 8) "t") None [] (items.Typedef (typedef (types.Enum (at 0 1 19) (enum_item (name (at 0 1 25) "A") None ∷ enum_item (name (at 0 1 28) "C") (Some (plain (at 0 1 32) "Q")) ∷ [])) (name (at 0 1 35) "e_t")) ∷ items.Param (param param_word.Localparam types.Unwritten (value (name (at 0 1 51) "Q") (plain (at 0 1 55) "R") ∷ value (name (at 0 1 58) "R") (plain (at 0 1 62) "S") ∷ value (name (at 0 1 65) "S") (plain (at 0 1 69) "T") ∷ value (name (at 0 1 72) "T") (number (at 0 1 76) "2") ∷ [])) ∷ items.Param (param param_word.Localparam (types.Written (types.Named (name (at 0 1 90) "e_t"))) (value (name (at 0 1 94) "P") (tree.Cast (cast.Named (name (at 0 1 98) "e_t")) (number (at 0 1 103) "2")) ∷ [])) ∷ items.Param (param param_word.Localparam (types.Written (types.Text (at 0 1 118))) (value (name (at 0 1 125) "s") (tree.Expr.Post (root.Plain (name (at 0 1 129) "P")) (tree.Member (name (at 0 1 131) "name") (tree.Call (at 0 1 135) tree.NoExpr tree.NoSuffix))) ∷ [])) ∷ procedure (at 0 1 139) procedure_word.Initial (stmts.Statement (at 0 1 147) None (stmts.Call (system (at 0 1 147) "$display" (text (at 0 1 156) "%s" ∷ plain (at 0 1 162) "s" ∷ [])))) ∷ []) None ∷ []

t47_seen : seen_in (Listed []) (Listed []) (elaborated t47 [] None) 7 ≡ Ran (record { log = lines ("C" ∷ []); wave = lines ("$timescale 1ns $end" ∷ "$scope module t $end" ∷ "$upscope $end" ∷ "$enddefinitions $end" ∷ "#0" ∷ "$dumpvars" ∷ "$end" ∷ []); outcome = Done; time = 0; steps = 4; race = Some (8, at 0 1 139) })
unfolding symbols_of word_of
t47_seen = refl

-- module t; function int g(); return 1; endfunction class C; int q[$]; endclass C h; function C f(); return h; endfunction int x; initial begin h = new; h.q.push_back(5); x = g() + f().q[$]; $display("%0d", x); end endmodule
abbrev t48 : List Description
t48 = module_ (at 0 1 1) life.Unwritten (name (at 0 1 8) "t") None [] (items.Routine (routine (head (at 0 1 11) life.Unwritten (units.Returns.Value (types.Written (types.Atom (at 0 1 20) atom_word.Int sign.Unwritten))) (name (at 0 1 24) "g") []) [] (stmts.Statement (at 0 1 29) None (stmts.Return (Some (number (at 0 1 36) "1"))) ∷ []) None) ∷ items.Class (class_ (at 0 1 51) false (name (at 0 1 57) "C") None (property unqualified (decl life.Unwritten (types.Atom (at 0 1 60) atom_word.Int sign.Unwritten) (declarator (name (at 0 1 64) "q") (Some (stmts.Queue (at 0 1 65))) None ∷ [])) ∷ []) None) ∷ items.Decl (decl life.Unwritten (types.Named (name (at 0 1 79) "C")) (declarator (name (at 0 1 81) "h") None None ∷ [])) ∷ items.Routine (routine (head (at 0 1 84) life.Unwritten (units.Returns.Value (types.Written (types.Named (name (at 0 1 93) "C")))) (name (at 0 1 95) "f") []) [] (stmts.Statement (at 0 1 100) None (stmts.Return (Some (plain (at 0 1 107) "h"))) ∷ []) None) ∷ items.Decl (decl life.Unwritten (types.Atom (at 0 1 122) atom_word.Int sign.Unwritten) (declarator (name (at 0 1 126) "x") None None ∷ [])) ∷ procedure (at 0 1 129) procedure_word.Initial (stmts.Statement (at 0 1 137) None (stmts.Block None [] (statements (stmts.Statement (at 0 1 143) None (blocking (target (at 0 1 143) "h") None (stmts.New (at 0 1 147) tree.Unwritten)) ∷ stmts.Statement (at 0 1 152) None (stmts.Call (tree.Expr.Post (root.Plain (name (at 0 1 152) "h")) (tree.Member (name (at 0 1 154) "q") (tree.Member (name (at 0 1 156) "push_back") (tree.Call (at 0 1 165) (expressions (number (at 0 1 166) "5" ∷ [])) tree.NoSuffix))))) ∷ stmts.Statement (at 0 1 170) None (blocking (target (at 0 1 170) "x") None (stmts.Value (tree.Binary binary_word.Plus (at 0 1 178) (tree.Expr.Post (root.Plain (name (at 0 1 174) "g")) (tree.Call (at 0 1 175) tree.NoExpr tree.NoSuffix)) (tree.Expr.Post (root.Plain (name (at 0 1 180) "f")) (tree.Call (at 0 1 181) tree.NoExpr (tree.Member (name (at 0 1 184) "q") (tree.Select (at 0 1 185) (tree.Dollar (at 0 1 186)) tree.NoSuffix))))))) ∷ stmts.Statement (at 0 1 190) None (stmts.Call (system (at 0 1 190) "$display" (text (at 0 1 199) "%0d" ∷ plain (at 0 1 206) "x" ∷ []))) ∷ [])) None)) ∷ []) None ∷ []

t48_seen : seen_in (Listed []) (Listed []) (elaborated t48 [] None) 19 ≡ Ran (record { log = lines ("6" ∷ []); wave = lines ("$timescale 1ns $end" ∷ "$scope module t $end" ∷ "$var reg 32 ! x $end" ∷ "$upscope $end" ∷ "$enddefinitions $end" ∷ "#0" ∷ "$dumpvars" ∷ "b110 !" ∷ "$end" ∷ []); outcome = Done; time = 0; steps = 16; race = Some (7, at 0 1 24) })
unfolding symbols_of word_of
t48_seen = refl

-- module t; int a; initial case (a) "s": ; undef: ; endcase endmodule
abbrev t49 : List Description
t49 = module_ (at 0 1 1) life.Unwritten (name (at 0 1 8) "t") None [] (items.Decl (decl life.Unwritten (types.Atom (at 0 1 11) atom_word.Int sign.Unwritten) (declarator (name (at 0 1 15) "a") None None ∷ [])) ∷ procedure (at 0 1 18) procedure_word.Initial (stmts.Statement (at 0 1 26) None (stmts.Case case_word.Exact (plain (at 0 1 32) "a") (stmts.Labels (expressions (text (at 0 1 35) "s" ∷ [])) (stmts.Statement (at 0 1 40) None stmts.Null) (stmts.Labels (expressions (plain (at 0 1 42) "undef" ∷ [])) (stmts.Statement (at 0 1 49) None stmts.Null) stmts.NoCaseItem)))) ∷ []) None ∷ []

t49_broken : broken t49 [] None ≡ Some (fault 15 0 1 35)
unfolding symbols_of word_of
t49_broken = refl

-- module t; int a; initial a = {3, "s", undef}; endmodule
abbrev t50 : List Description
t50 = module_ (at 0 1 1) life.Unwritten (name (at 0 1 8) "t") None [] (items.Decl (decl life.Unwritten (types.Atom (at 0 1 11) atom_word.Int sign.Unwritten) (declarator (name (at 0 1 15) "a") None None ∷ [])) ∷ procedure (at 0 1 18) procedure_word.Initial (stmts.Statement (at 0 1 26) None (blocking (target (at 0 1 26) "a") None (stmts.Value (tree.Expr.Join (at 0 1 30) (expressions (number (at 0 1 31) "3" ∷ text (at 0 1 34) "s" ∷ plain (at 0 1 39) "undef" ∷ [])))))) ∷ []) None ∷ []

t50_broken : broken t50 [] None ≡ Some (fault 15 0 1 34)
unfolding symbols_of word_of
t50_broken = refl

-- module t; class C; endclass C h; int a; initial a = {3, "s", h}; endmodule
abbrev t51 : List Description
t51 = module_ (at 0 1 1) life.Unwritten (name (at 0 1 8) "t") None [] (items.Class (class_ (at 0 1 11) false (name (at 0 1 17) "C") None [] None) ∷ items.Decl (decl life.Unwritten (types.Named (name (at 0 1 29) "C")) (declarator (name (at 0 1 31) "h") None None ∷ [])) ∷ items.Decl (decl life.Unwritten (types.Atom (at 0 1 34) atom_word.Int sign.Unwritten) (declarator (name (at 0 1 38) "a") None None ∷ [])) ∷ procedure (at 0 1 41) procedure_word.Initial (stmts.Statement (at 0 1 49) None (blocking (target (at 0 1 49) "a") None (stmts.Value (tree.Expr.Join (at 0 1 53) (expressions (number (at 0 1 54) "3" ∷ text (at 0 1 57) "s" ∷ plain (at 0 1 62) "h" ∷ [])))))) ∷ []) None ∷ []

t51_broken : broken t51 [] None ≡ Some (fault 15 0 1 57)
unfolding symbols_of word_of
t51_broken = refl

-- module t; int a; initial a = {undef, "s", 3}; endmodule
abbrev t52 : List Description
t52 = module_ (at 0 1 1) life.Unwritten (name (at 0 1 8) "t") None [] (items.Decl (decl life.Unwritten (types.Atom (at 0 1 11) atom_word.Int sign.Unwritten) (declarator (name (at 0 1 15) "a") None None ∷ [])) ∷ procedure (at 0 1 18) procedure_word.Initial (stmts.Statement (at 0 1 26) None (blocking (target (at 0 1 26) "a") None (stmts.Value (tree.Expr.Join (at 0 1 30) (expressions (plain (at 0 1 31) "undef" ∷ text (at 0 1 38) "s" ∷ number (at 0 1 43) "3" ∷ [])))))) ∷ []) None ∷ []

t52_broken : broken t52 [] None ≡ Some (fault 6 0 1 31)
unfolding symbols_of word_of
t52_broken = refl

-- module t; logic [7:0] a; initial a = a[0:100]; endmodule
abbrev t53 : List Description
t53 = module_ (at 0 1 1) life.Unwritten (name (at 0 1 8) "t") None [] (items.Decl (decl life.Unwritten (types.WrittenType.Vector (at 0 1 11) vector_word.Logic sign.Unwritten (Some (range (at 0 1 17) (number (at 0 1 18) "7") (number (at 0 1 20) "0")))) (declarator (name (at 0 1 23) "a") None None ∷ [])) ∷ procedure (at 0 1 26) procedure_word.Initial (stmts.Statement (at 0 1 34) None (blocking (target (at 0 1 34) "a") None (stmts.Value (tree.Expr.Post (root.Plain (name (at 0 1 38) "a")) (tree.Part (at 0 1 39) part_word.Fixed (number (at 0 1 40) "0") (number (at 0 1 42) "100") tree.NoSuffix))))) ∷ []) None ∷ []

t53_broken : broken t53 [] None ≡ Some (fault 13 0 1 38)
unfolding symbols_of word_of
t53_broken = refl

-- module t; logic [7:0] a; initial a = a[0:7]; endmodule
abbrev t54 : List Description
t54 = module_ (at 0 1 1) life.Unwritten (name (at 0 1 8) "t") None [] (items.Decl (decl life.Unwritten (types.WrittenType.Vector (at 0 1 11) vector_word.Logic sign.Unwritten (Some (range (at 0 1 17) (number (at 0 1 18) "7") (number (at 0 1 20) "0")))) (declarator (name (at 0 1 23) "a") None None ∷ [])) ∷ procedure (at 0 1 26) procedure_word.Initial (stmts.Statement (at 0 1 34) None (blocking (target (at 0 1 34) "a") None (stmts.Value (tree.Expr.Post (root.Plain (name (at 0 1 38) "a")) (tree.Part (at 0 1 39) part_word.Fixed (number (at 0 1 40) "0") (number (at 0 1 42) "7") tree.NoSuffix))))) ∷ []) None ∷ []

t54_broken : broken t54 [] None ≡ Some (fault 14 0 1 39)
unfolding symbols_of word_of
t54_broken = refl

-- module t; A a; initial a.f(); class A extends U; endclass endmodule
abbrev t55 : List Description
t55 = module_ (at 0 1 1) life.Unwritten (name (at 0 1 8) "t") None [] (items.Decl (decl life.Unwritten (types.Named (name (at 0 1 11) "A")) (declarator (name (at 0 1 13) "a") None None ∷ [])) ∷ procedure (at 0 1 16) procedure_word.Initial (stmts.Statement (at 0 1 24) None (stmts.Call (tree.Expr.Post (root.Plain (name (at 0 1 24) "a")) (tree.Member (name (at 0 1 26) "f") (tree.Call (at 0 1 27) tree.NoExpr tree.NoSuffix))))) ∷ items.Class (class_ (at 0 1 31) false (name (at 0 1 37) "A") (Some (name (at 0 1 47) "U")) [] None) ∷ []) None ∷ []

t55_broken : broken t55 [] None ≡ Some (fault 6 0 1 47)
unfolding symbols_of word_of
t55_broken = refl

-- module t; class B; endclass A a; B b; initial b = a; class A extends U; endclass endmodule
abbrev t56 : List Description
t56 = module_ (at 0 1 1) life.Unwritten (name (at 0 1 8) "t") None [] (items.Class (class_ (at 0 1 11) false (name (at 0 1 17) "B") None [] None) ∷ items.Decl (decl life.Unwritten (types.Named (name (at 0 1 29) "A")) (declarator (name (at 0 1 31) "a") None None ∷ [])) ∷ items.Decl (decl life.Unwritten (types.Named (name (at 0 1 34) "B")) (declarator (name (at 0 1 36) "b") None None ∷ [])) ∷ procedure (at 0 1 39) procedure_word.Initial (stmts.Statement (at 0 1 47) None (blocking (target (at 0 1 47) "b") None (stmts.Value (plain (at 0 1 51) "a")))) ∷ items.Class (class_ (at 0 1 54) false (name (at 0 1 60) "A") (Some (name (at 0 1 70) "U")) [] None) ∷ []) None ∷ []

t56_broken : broken t56 [] None ≡ Some (fault 6 0 1 70)
unfolding symbols_of word_of
t56_broken = refl

-- module t; class B; endclass A a; B b; initial a = b; class A extends U; endclass endmodule
abbrev t57 : List Description
t57 = module_ (at 0 1 1) life.Unwritten (name (at 0 1 8) "t") None [] (items.Class (class_ (at 0 1 11) false (name (at 0 1 17) "B") None [] None) ∷ items.Decl (decl life.Unwritten (types.Named (name (at 0 1 29) "A")) (declarator (name (at 0 1 31) "a") None None ∷ [])) ∷ items.Decl (decl life.Unwritten (types.Named (name (at 0 1 34) "B")) (declarator (name (at 0 1 36) "b") None None ∷ [])) ∷ procedure (at 0 1 39) procedure_word.Initial (stmts.Statement (at 0 1 47) None (blocking (target (at 0 1 47) "a") None (stmts.Value (plain (at 0 1 51) "b")))) ∷ items.Class (class_ (at 0 1 54) false (name (at 0 1 60) "A") (Some (name (at 0 1 70) "U")) [] None) ∷ []) None ∷ []

t57_broken : broken t57 [] None ≡ Some (fault 16 0 1 51)
unfolding symbols_of word_of
t57_broken = refl

-- module t; class B; endclass A a; B b; initial b = a; class A; endclass endmodule
abbrev t58 : List Description
t58 = module_ (at 0 1 1) life.Unwritten (name (at 0 1 8) "t") None [] (items.Class (class_ (at 0 1 11) false (name (at 0 1 17) "B") None [] None) ∷ items.Decl (decl life.Unwritten (types.Named (name (at 0 1 29) "A")) (declarator (name (at 0 1 31) "a") None None ∷ [])) ∷ items.Decl (decl life.Unwritten (types.Named (name (at 0 1 34) "B")) (declarator (name (at 0 1 36) "b") None None ∷ [])) ∷ procedure (at 0 1 39) procedure_word.Initial (stmts.Statement (at 0 1 47) None (blocking (target (at 0 1 47) "b") None (stmts.Value (plain (at 0 1 51) "a")))) ∷ items.Class (class_ (at 0 1 54) false (name (at 0 1 60) "A") None [] None) ∷ []) None ∷ []

t58_broken : broken t58 [] None ≡ Some (fault 16 0 1 51)
unfolding symbols_of word_of
t58_broken = refl

-- module t; T x = new[3]; typedef logic [undef:0] T; endmodule
abbrev t59 : List Description
t59 = module_ (at 0 1 1) life.Unwritten (name (at 0 1 8) "t") None [] (items.Decl (decl life.Unwritten (types.Named (name (at 0 1 11) "T")) (declarator (name (at 0 1 13) "x") None (Some (stmts.Array (at 0 1 17) (number (at 0 1 21) "3") None)) ∷ [])) ∷ items.Typedef (typedef (types.WrittenType.Vector (at 0 1 33) vector_word.Logic sign.Unwritten (Some (range (at 0 1 39) (plain (at 0 1 40) "undef") (number (at 0 1 46) "0")))) (name (at 0 1 49) "T")) ∷ []) None ∷ []

t59_broken : broken t59 [] None ≡ Some (fault 25 0 1 17)
unfolding symbols_of word_of
t59_broken = refl

-- module t; C h; T x = new h; class C; endclass typedef logic [undef:0] T; endmodule
abbrev t60 : List Description
t60 = module_ (at 0 1 1) life.Unwritten (name (at 0 1 8) "t") None [] (items.Decl (decl life.Unwritten (types.Named (name (at 0 1 11) "C")) (declarator (name (at 0 1 13) "h") None None ∷ [])) ∷ items.Decl (decl life.Unwritten (types.Named (name (at 0 1 16) "T")) (declarator (name (at 0 1 18) "x") None (Some (stmts.Copy (at 0 1 22) (name (at 0 1 26) "h"))) ∷ [])) ∷ items.Class (class_ (at 0 1 29) false (name (at 0 1 35) "C") None [] None) ∷ items.Typedef (typedef (types.WrittenType.Vector (at 0 1 55) vector_word.Logic sign.Unwritten (Some (range (at 0 1 61) (plain (at 0 1 62) "undef") (number (at 0 1 68) "0")))) (name (at 0 1 71) "T")) ∷ []) None ∷ []

t60_broken : broken t60 [] None ≡ Some (fault 25 0 1 22)
unfolding symbols_of word_of
t60_broken = refl

-- module t; T x = new; typedef logic [undef:0] T; endmodule
abbrev t61 : List Description
t61 = module_ (at 0 1 1) life.Unwritten (name (at 0 1 8) "t") None [] (items.Decl (decl life.Unwritten (types.Named (name (at 0 1 11) "T")) (declarator (name (at 0 1 13) "x") None (Some (stmts.New (at 0 1 17) tree.Unwritten)) ∷ [])) ∷ items.Typedef (typedef (types.WrittenType.Vector (at 0 1 30) vector_word.Logic sign.Unwritten (Some (range (at 0 1 36) (plain (at 0 1 37) "undef") (number (at 0 1 43) "0")))) (name (at 0 1 46) "T")) ∷ []) None ∷ []

t61_broken : broken t61 [] None ≡ Some (fault 6 0 1 37)
unfolding symbols_of word_of
t61_broken = refl

-- module t; enum {A = B.name().len(), B} e; endmodule
abbrev t62 : List Description
t62 = module_ (at 0 1 1) life.Unwritten (name (at 0 1 8) "t") None [] (items.Decl (decl life.Unwritten (types.Enum (at 0 1 11) (enum_item (name (at 0 1 17) "A") (Some (tree.Expr.Post (root.Plain (name (at 0 1 21) "B")) (tree.Member (name (at 0 1 23) "name") (tree.Call (at 0 1 27) tree.NoExpr (tree.Member (name (at 0 1 30) "len") (tree.Call (at 0 1 33) tree.NoExpr tree.NoSuffix)))))) ∷ enum_item (name (at 0 1 37) "B") None ∷ [])) (declarator (name (at 0 1 40) "e") None None ∷ [])) ∷ []) None ∷ []

t62_broken : broken t62 [] None ≡ Some (fault 11 0 1 21)
unfolding symbols_of word_of
t62_broken = refl

-- module t; typedef enum {A = Q.len(), B} e_t; localparam e_t P = e_t'(1); localparam string Q = P.name(); endmodule
abbrev t63 : List Description
t63 = module_ (at 0 1 1) life.Unwritten (name (at 0 1 8) "t") None [] (items.Typedef (typedef (types.Enum (at 0 1 19) (enum_item (name (at 0 1 25) "A") (Some (tree.Expr.Post (root.Plain (name (at 0 1 29) "Q")) (tree.Member (name (at 0 1 31) "len") (tree.Call (at 0 1 34) tree.NoExpr tree.NoSuffix)))) ∷ enum_item (name (at 0 1 38) "B") None ∷ [])) (name (at 0 1 41) "e_t")) ∷ items.Param (param param_word.Localparam (types.Written (types.Named (name (at 0 1 57) "e_t"))) (value (name (at 0 1 61) "P") (tree.Cast (cast.Named (name (at 0 1 65) "e_t")) (number (at 0 1 70) "1")) ∷ [])) ∷ items.Param (param param_word.Localparam (types.Written (types.Text (at 0 1 85))) (value (name (at 0 1 92) "Q") (tree.Expr.Post (root.Plain (name (at 0 1 96) "P")) (tree.Member (name (at 0 1 98) "name") (tree.Call (at 0 1 102) tree.NoExpr tree.NoSuffix))) ∷ [])) ∷ []) None ∷ []

t63_broken : broken t63 [] None ≡ Some (fault 11 0 1 29)
unfolding symbols_of word_of
t63_broken = refl

-- module t; typedef enum {A, B} e_t; localparam string s = B.name(); e_t e = B; initial $display("%s %s", s, e.name()); endmodule
abbrev t64 : List Description
t64 = module_ (at 0 1 1) life.Unwritten (name (at 0 1 8) "t") None [] (items.Typedef (typedef (types.Enum (at 0 1 19) (enum_item (name (at 0 1 25) "A") None ∷ enum_item (name (at 0 1 28) "B") None ∷ [])) (name (at 0 1 31) "e_t")) ∷ items.Param (param param_word.Localparam (types.Written (types.Text (at 0 1 47))) (value (name (at 0 1 54) "s") (tree.Expr.Post (root.Plain (name (at 0 1 58) "B")) (tree.Member (name (at 0 1 60) "name") (tree.Call (at 0 1 64) tree.NoExpr tree.NoSuffix))) ∷ [])) ∷ items.Decl (decl life.Unwritten (types.Named (name (at 0 1 68) "e_t")) (declarator (name (at 0 1 72) "e") None (Some (stmts.Value (plain (at 0 1 76) "B"))) ∷ [])) ∷ procedure (at 0 1 79) procedure_word.Initial (stmts.Statement (at 0 1 87) None (stmts.Call (system (at 0 1 87) "$display" (text (at 0 1 96) "%s %s" ∷ plain (at 0 1 105) "s" ∷ tree.Expr.Post (root.Plain (name (at 0 1 108) "e")) (tree.Member (name (at 0 1 110) "name") (tree.Call (at 0 1 114) tree.NoExpr tree.NoSuffix)) ∷ [])))) ∷ []) None ∷ []

t64_seen : seen_in (Listed []) (Listed []) (elaborated t64 [] None) 7 ≡ Ran (record { log = lines ("B B" ∷ []); wave = lines ("$timescale 1ns $end" ∷ "$scope module t $end" ∷ "$var reg 32 ! e $end" ∷ "$upscope $end" ∷ "$enddefinitions $end" ∷ "#0" ∷ "$dumpvars" ∷ "b1 !" ∷ "$end" ∷ []); outcome = Done; time = 0; steps = 4; race = Some (8, at 0 1 79) })
unfolding symbols_of word_of
t64_seen = refl

-- module t; class A extends B; endclass class B extends A; endclass A a; initial a.f(); endmodule
abbrev t65 : List Description
t65 = module_ (at 0 1 1) life.Unwritten (name (at 0 1 8) "t") None [] (items.Class (class_ (at 0 1 11) false (name (at 0 1 17) "A") (Some (name (at 0 1 27) "B")) [] None) ∷ items.Class (class_ (at 0 1 39) false (name (at 0 1 45) "B") (Some (name (at 0 1 55) "A")) [] None) ∷ items.Decl (decl life.Unwritten (types.Named (name (at 0 1 67) "A")) (declarator (name (at 0 1 69) "a") None None ∷ [])) ∷ procedure (at 0 1 72) procedure_word.Initial (stmts.Statement (at 0 1 80) None (stmts.Call (tree.Expr.Post (root.Plain (name (at 0 1 80) "a")) (tree.Member (name (at 0 1 82) "f") (tree.Call (at 0 1 83) tree.NoExpr tree.NoSuffix))))) ∷ []) None ∷ []

t65_broken : broken t65 [] None ≡ Some (fault 33 0 1 27)
unfolding symbols_of word_of
t65_broken = refl

-- module t; class A; endclass class B extends U; endclass B b; A a; initial if (a == b) ; endmodule
abbrev t66 : List Description
t66 = module_ (at 0 1 1) life.Unwritten (name (at 0 1 8) "t") None [] (items.Class (class_ (at 0 1 11) false (name (at 0 1 17) "A") None [] None) ∷ items.Class (class_ (at 0 1 29) false (name (at 0 1 35) "B") (Some (name (at 0 1 45) "U")) [] None) ∷ items.Decl (decl life.Unwritten (types.Named (name (at 0 1 57) "B")) (declarator (name (at 0 1 59) "b") None None ∷ [])) ∷ items.Decl (decl life.Unwritten (types.Named (name (at 0 1 62) "A")) (declarator (name (at 0 1 64) "a") None None ∷ [])) ∷ procedure (at 0 1 67) procedure_word.Initial (stmts.Statement (at 0 1 75) None (stmts.If (tree.Binary binary_word.Equal (at 0 1 81) (plain (at 0 1 79) "a") (plain (at 0 1 84) "b")) (stmts.Statement (at 0 1 87) None stmts.Null))) ∷ []) None ∷ []

t66_broken : broken t66 [] None ≡ Some (fault 6 0 1 45)
unfolding symbols_of word_of
t66_broken = refl

-- module t; logic [3:0] a = 0; int i; initial begin for (int j = 0; j < 1; j++) begin int k; k = 1; i = i + k; end end initial for (int j = 0; j < 1; j++) begin int k; i = i + k; end endmodule
abbrev t67 : List Description
t67 = module_ (at 0 1 1) life.Unwritten (name (at 0 1 8) "t") None [] (items.Decl (decl life.Unwritten (types.WrittenType.Vector (at 0 1 11) vector_word.Logic sign.Unwritten (Some (range (at 0 1 17) (number (at 0 1 18) "3") (number (at 0 1 20) "0")))) (declarator (name (at 0 1 23) "a") None (Some (stmts.Value (number (at 0 1 27) "0"))) ∷ [])) ∷ items.Decl (decl life.Unwritten (types.Atom (at 0 1 30) atom_word.Int sign.Unwritten) (declarator (name (at 0 1 34) "i") None None ∷ [])) ∷ procedure (at 0 1 37) procedure_word.Initial (stmts.Statement (at 0 1 45) None (stmts.Block None [] (statements (stmts.Statement (at 0 1 51) None (stmts.For (stmts.Declare (types.Atom (at 0 1 56) atom_word.Int sign.Unwritten) (name (at 0 1 60) "j") (number (at 0 1 64) "0")) (tree.Binary binary_word.Less (at 0 1 69) (plain (at 0 1 67) "j") (number (at 0 1 71) "1")) (stmts.ForStep.Step (at 0 1 74) (target (at 0 1 74) "j") step_word.Increment) (stmts.Statement (at 0 1 79) None (stmts.Block None (decl life.Unwritten (types.Atom (at 0 1 85) atom_word.Int sign.Unwritten) (declarator (name (at 0 1 89) "k") None None ∷ []) ∷ []) (statements (stmts.Statement (at 0 1 92) None (blocking (target (at 0 1 92) "k") None (stmts.Value (number (at 0 1 96) "1"))) ∷ stmts.Statement (at 0 1 99) None (blocking (target (at 0 1 99) "i") None (stmts.Value (tree.Binary binary_word.Plus (at 0 1 105) (plain (at 0 1 103) "i") (plain (at 0 1 107) "k")))) ∷ [])) None))) ∷ [])) None)) ∷ procedure (at 0 1 118) procedure_word.Initial (stmts.Statement (at 0 1 126) None (stmts.For (stmts.Declare (types.Atom (at 0 1 131) atom_word.Int sign.Unwritten) (name (at 0 1 135) "j") (number (at 0 1 139) "0")) (tree.Binary binary_word.Less (at 0 1 144) (plain (at 0 1 142) "j") (number (at 0 1 146) "1")) (stmts.ForStep.Step (at 0 1 149) (target (at 0 1 149) "j") step_word.Increment) (stmts.Statement (at 0 1 154) None (stmts.Block None (decl life.Unwritten (types.Atom (at 0 1 160) atom_word.Int sign.Unwritten) (declarator (name (at 0 1 164) "k") None None ∷ []) ∷ []) (statements (stmts.Statement (at 0 1 167) None (blocking (target (at 0 1 167) "i") None (stmts.Value (tree.Binary binary_word.Plus (at 0 1 173) (plain (at 0 1 171) "i") (plain (at 0 1 175) "k")))) ∷ [])) None)))) ∷ []) None ∷ []

t67_seen : seen_in (Listed []) (Listed []) (elaborated t67 [] None) 23 ≡ Ran (record { log = []; wave = lines ("$timescale 1ns $end" ∷ "$scope module t $end" ∷ "$var reg 4 ! a [3:0] $end" ∷ "$var reg 32 \" i $end" ∷ "$upscope $end" ∷ "$enddefinitions $end" ∷ "#0" ∷ "$dumpvars" ∷ "b0 !" ∷ "b1 \"" ∷ "$end" ∷ []); outcome = Done; time = 0; steps = 20; race = Some (1, at 0 1 34) })
unfolding symbols_of word_of
t67_seen = refl

-- module t; localparam string a = b, b = a; endmodule
abbrev t68 : List Description
t68 = module_ (at 0 1 1) life.Unwritten (name (at 0 1 8) "t") None [] (items.Param (param param_word.Localparam (types.Written (types.Text (at 0 1 22))) (value (name (at 0 1 29) "a") (plain (at 0 1 33) "b") ∷ value (name (at 0 1 36) "b") (plain (at 0 1 40) "a") ∷ [])) ∷ []) None ∷ []

t68_broken : broken t68 [] None ≡ Some (fault 11 0 1 33)
unfolding symbols_of word_of
t68_broken = refl

-- module t; localparam a = {b{1'b1}}, b = a; endmodule
abbrev t69 : List Description
t69 = module_ (at 0 1 1) life.Unwritten (name (at 0 1 8) "t") None [] (items.Param (param param_word.Localparam types.Unwritten (value (name (at 0 1 22) "a") (tree.Repeat (at 0 1 26) (plain (at 0 1 27) "b") (at 0 1 28) (expressions (number (at 0 1 29) "1'b1" ∷ []))) ∷ value (name (at 0 1 37) "b") (plain (at 0 1 41) "a") ∷ [])) ∷ []) None ∷ []

t69_broken : broken t69 [] None ≡ Some (fault 11 0 1 26)
unfolding symbols_of word_of
t69_broken = refl
