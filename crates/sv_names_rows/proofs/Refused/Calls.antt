-- Texts that break a rule, or come close to it: calls, subroutines, and code that may not wait.
use Rattle.std.proofs.Common.{◌≡◌, List, [], ◌∷◌, true, false, refl}
use Rattle.std.specs.Prelude.{Some, None}
use Rattle.sv_value.specs.Vector.{symbols_of, word_of}
use Rattle.sv_flat.specs.declared.choices.Choices.TheVariants.{Listed}
use Rattle.sv_flat.specs.Directed.{Done, Spent}
use Rattle.sv_tree.specs.declared.word.BinaryWord.TheVariants as binary_word
use Rattle.sv_tree.specs.declared.word.VectorWord.TheVariants as vector_word
use Rattle.sv_tree.specs.declared.word.AtomWord.TheVariants as atom_word
use Rattle.sv_tree.specs.declared.word.Sign.TheVariants as sign
use Rattle.sv_tree.specs.declared.word.Life.TheVariants as life
use Rattle.sv_tree.specs.declared.word.JoinWord.TheVariants as join_word
use Rattle.sv_tree.specs.declared.word.EdgeWord.TheVariants as edge
use Rattle.sv_tree.specs.declared.word.ProcedureWord.TheVariants as procedure_word
use Rattle.sv_tree.specs.declared.word.Direction.TheVariants as direction
use Rattle.sv_tree.specs.declared.expr.Root.TheVariants as root
use Rattle.sv_tree.specs.Expr as tree
use Rattle.sv_tree.specs.Types as types
use Rattle.sv_tree.specs.Stmt as stmts
use Rattle.sv_tree.specs.Units as units
use Rattle.sv_tree.specs.Items as items
use Rattle.sv_tree.specs.Descriptions.{Description}
use Rattle.sv_names.specs.Design.{broken, elaborated}
use Rattle.sv_names_rows.proofs.Kit.{argument, at, blocking, class_, decl, declarator, delay, event_part, expressions, fault, head, lines, module_, name, nonblocking, number, plain, procedure, property, qualifiers, routine, seen_in, statements, system, target, text, unqualified, Ran}

-- module t; int x, y; initial x = new y; endmodule
abbrev t1 : List Description
t1 = module_ (at 0 1 1) life.Unwritten (name (at 0 1 8) "t") None [] (items.Decl (decl life.Unwritten (types.Atom (at 0 1 11) atom_word.Int sign.Unwritten) (declarator (name (at 0 1 15) "x") None None ∷ declarator (name (at 0 1 18) "y") None None ∷ [])) ∷ procedure (at 0 1 21) procedure_word.Initial (stmts.Statement (at 0 1 29) None (blocking (target (at 0 1 29) "x") None (stmts.Copy (at 0 1 33) (name (at 0 1 37) "y")))) ∷ []) None ∷ []

t1_broken : broken t1 [] None ≡ Some (fault 16 0 1 33)
unfolding symbols_of word_of
t1_broken = refl

-- module t; int d[], x; initial d = new["s"]; endmodule
abbrev t2 : List Description
t2 = module_ (at 0 1 1) life.Unwritten (name (at 0 1 8) "t") None [] (items.Decl (decl life.Unwritten (types.Atom (at 0 1 11) atom_word.Int sign.Unwritten) (declarator (name (at 0 1 15) "d") (Some (stmts.Empty (at 0 1 16))) None ∷ declarator (name (at 0 1 20) "x") None None ∷ [])) ∷ procedure (at 0 1 23) procedure_word.Initial (stmts.Statement (at 0 1 31) None (blocking (target (at 0 1 31) "d") None (stmts.Array (at 0 1 35) (text (at 0 1 39) "s") None))) ∷ []) None ∷ []

t2_broken : broken t2 [] None ≡ Some (fault 16 0 1 39)
unfolding symbols_of word_of
t2_broken = refl

-- module t; int d[], q[$]; initial d = new[3](q); endmodule
abbrev t3 : List Description
t3 = module_ (at 0 1 1) life.Unwritten (name (at 0 1 8) "t") None [] (items.Decl (decl life.Unwritten (types.Atom (at 0 1 11) atom_word.Int sign.Unwritten) (declarator (name (at 0 1 15) "d") (Some (stmts.Empty (at 0 1 16))) None ∷ declarator (name (at 0 1 20) "q") (Some (stmts.Queue (at 0 1 21))) None ∷ [])) ∷ procedure (at 0 1 26) procedure_word.Initial (stmts.Statement (at 0 1 34) None (blocking (target (at 0 1 34) "d") None (stmts.Array (at 0 1 38) (number (at 0 1 42) "3") (Some (plain (at 0 1 45) "q"))))) ∷ []) None ∷ []

t3_broken : broken t3 [] None ≡ Some (fault 16 0 1 45)
unfolding symbols_of word_of
t3_broken = refl

-- module t; int q[$]; initial q = new[3]; endmodule
abbrev t4 : List Description
t4 = module_ (at 0 1 1) life.Unwritten (name (at 0 1 8) "t") None [] (items.Decl (decl life.Unwritten (types.Atom (at 0 1 11) atom_word.Int sign.Unwritten) (declarator (name (at 0 1 15) "q") (Some (stmts.Queue (at 0 1 16))) None ∷ [])) ∷ procedure (at 0 1 21) procedure_word.Initial (stmts.Statement (at 0 1 29) None (blocking (target (at 0 1 29) "q") None (stmts.Array (at 0 1 33) (number (at 0 1 37) "3") None))) ∷ []) None ∷ []

t4_broken : broken t4 [] None ≡ Some (fault 16 0 1 33)
unfolding symbols_of word_of
t4_broken = refl

-- module t; function int f(); return 1; endfunction int x; initial x = 1 && f(); endmodule
abbrev t5 : List Description
t5 = module_ (at 0 1 1) life.Unwritten (name (at 0 1 8) "t") None [] (items.Routine (routine (head (at 0 1 11) life.Unwritten (units.Returns.Value (types.Written (types.Atom (at 0 1 20) atom_word.Int sign.Unwritten))) (name (at 0 1 24) "f") []) [] (stmts.Statement (at 0 1 29) None (stmts.Return (Some (number (at 0 1 36) "1"))) ∷ []) None) ∷ items.Decl (decl life.Unwritten (types.Atom (at 0 1 51) atom_word.Int sign.Unwritten) (declarator (name (at 0 1 55) "x") None None ∷ [])) ∷ procedure (at 0 1 58) procedure_word.Initial (stmts.Statement (at 0 1 66) None (blocking (target (at 0 1 66) "x") None (stmts.Value (tree.Binary binary_word.LogicalAnd (at 0 1 72) (number (at 0 1 70) "1") (tree.Expr.Post (root.Plain (name (at 0 1 75) "f")) (tree.Call (at 0 1 76) tree.NoExpr tree.NoSuffix)))))) ∷ []) None ∷ []

t5_broken : broken t5 [] None ≡ Some (fault 24 0 1 75)
unfolding symbols_of word_of
t5_broken = refl

-- module t; function int f(); return 1; endfunction int x; initial x = x ? f() : 2; endmodule
abbrev t6 : List Description
t6 = module_ (at 0 1 1) life.Unwritten (name (at 0 1 8) "t") None [] (items.Routine (routine (head (at 0 1 11) life.Unwritten (units.Returns.Value (types.Written (types.Atom (at 0 1 20) atom_word.Int sign.Unwritten))) (name (at 0 1 24) "f") []) [] (stmts.Statement (at 0 1 29) None (stmts.Return (Some (number (at 0 1 36) "1"))) ∷ []) None) ∷ items.Decl (decl life.Unwritten (types.Atom (at 0 1 51) atom_word.Int sign.Unwritten) (declarator (name (at 0 1 55) "x") None None ∷ [])) ∷ procedure (at 0 1 58) procedure_word.Initial (stmts.Statement (at 0 1 66) None (blocking (target (at 0 1 66) "x") None (stmts.Value (tree.Choose (plain (at 0 1 70) "x") (tree.Expr.Post (root.Plain (name (at 0 1 74) "f")) (tree.Call (at 0 1 75) tree.NoExpr tree.NoSuffix)) (number (at 0 1 80) "2"))))) ∷ []) None ∷ []

t6_broken : broken t6 [] None ≡ Some (fault 24 0 1 74)
unfolding symbols_of word_of
t6_broken = refl

-- module t; function int f(); return 1; endfunction int x; initial x = f() ? 1 : 2; endmodule
abbrev t7 : List Description
t7 = module_ (at 0 1 1) life.Unwritten (name (at 0 1 8) "t") None [] (items.Routine (routine (head (at 0 1 11) life.Unwritten (units.Returns.Value (types.Written (types.Atom (at 0 1 20) atom_word.Int sign.Unwritten))) (name (at 0 1 24) "f") []) [] (stmts.Statement (at 0 1 29) None (stmts.Return (Some (number (at 0 1 36) "1"))) ∷ []) None) ∷ items.Decl (decl life.Unwritten (types.Atom (at 0 1 51) atom_word.Int sign.Unwritten) (declarator (name (at 0 1 55) "x") None None ∷ [])) ∷ procedure (at 0 1 58) procedure_word.Initial (stmts.Statement (at 0 1 66) None (blocking (target (at 0 1 66) "x") None (stmts.Value (tree.Choose (tree.Expr.Post (root.Plain (name (at 0 1 70) "f")) (tree.Call (at 0 1 71) tree.NoExpr tree.NoSuffix)) (number (at 0 1 76) "1") (number (at 0 1 80) "2"))))) ∷ []) None ∷ []

t7_seen : seen_in (Listed []) (Listed []) (elaborated t7 [] None) 10 ≡ Ran (record { log = []; wave = lines ("$timescale 1ns $end" ∷ "$scope module t $end" ∷ "$var reg 32 ! x $end" ∷ "$upscope $end" ∷ "$enddefinitions $end" ∷ "#0" ∷ "$dumpvars" ∷ "b1 !" ∷ "$end" ∷ []); outcome = Done; time = 0; steps = 7; race = Some (7, at 0 1 24) })
unfolding symbols_of word_of
t7_seen = refl

-- module t; int q[$], x; initial x = 1 || q.pop_back(); endmodule
abbrev t8 : List Description
t8 = module_ (at 0 1 1) life.Unwritten (name (at 0 1 8) "t") None [] (items.Decl (decl life.Unwritten (types.Atom (at 0 1 11) atom_word.Int sign.Unwritten) (declarator (name (at 0 1 15) "q") (Some (stmts.Queue (at 0 1 16))) None ∷ declarator (name (at 0 1 21) "x") None None ∷ [])) ∷ procedure (at 0 1 24) procedure_word.Initial (stmts.Statement (at 0 1 32) None (blocking (target (at 0 1 32) "x") None (stmts.Value (tree.Binary binary_word.LogicalOr (at 0 1 38) (number (at 0 1 36) "1") (tree.Expr.Post (root.Plain (name (at 0 1 41) "q")) (tree.Member (name (at 0 1 43) "pop_back") (tree.Call (at 0 1 51) tree.NoExpr tree.NoSuffix))))))) ∷ []) None ∷ []

t8_broken : broken t8 [] None ≡ Some (fault 24 0 1 41)
unfolding symbols_of word_of
t8_broken = refl

-- module t; int q[$], x; initial x = 1 || q.size(); endmodule
abbrev t9 : List Description
t9 = module_ (at 0 1 1) life.Unwritten (name (at 0 1 8) "t") None [] (items.Decl (decl life.Unwritten (types.Atom (at 0 1 11) atom_word.Int sign.Unwritten) (declarator (name (at 0 1 15) "q") (Some (stmts.Queue (at 0 1 16))) None ∷ declarator (name (at 0 1 21) "x") None None ∷ [])) ∷ procedure (at 0 1 24) procedure_word.Initial (stmts.Statement (at 0 1 32) None (blocking (target (at 0 1 32) "x") None (stmts.Value (tree.Binary binary_word.LogicalOr (at 0 1 38) (number (at 0 1 36) "1") (tree.Expr.Post (root.Plain (name (at 0 1 41) "q")) (tree.Member (name (at 0 1 43) "size") (tree.Call (at 0 1 47) tree.NoExpr tree.NoSuffix))))))) ∷ []) None ∷ []

t9_seen : seen_in (Listed []) (Listed []) (elaborated t9 [] None) 7 ≡ Ran (record { log = []; wave = lines ("$timescale 1ns $end" ∷ "$scope module t $end" ∷ "$var reg 32 ! x $end" ∷ "$upscope $end" ∷ "$enddefinitions $end" ∷ "#0" ∷ "$dumpvars" ∷ "b1 !" ∷ "$end" ∷ []); outcome = Done; time = 0; steps = 4; race = Some (10, at 0 1 15) })
unfolding symbols_of word_of
t9_seen = refl

-- module t; function int f(); return 1; endfunction initial wait (f()) ; endmodule
abbrev t10 : List Description
t10 = module_ (at 0 1 1) life.Unwritten (name (at 0 1 8) "t") None [] (items.Routine (routine (head (at 0 1 11) life.Unwritten (units.Returns.Value (types.Written (types.Atom (at 0 1 20) atom_word.Int sign.Unwritten))) (name (at 0 1 24) "f") []) [] (stmts.Statement (at 0 1 29) None (stmts.Return (Some (number (at 0 1 36) "1"))) ∷ []) None) ∷ procedure (at 0 1 51) procedure_word.Initial (stmts.Statement (at 0 1 59) None (stmts.Wait (at 0 1 59) (tree.Expr.Post (root.Plain (name (at 0 1 65) "f")) (tree.Call (at 0 1 66) tree.NoExpr tree.NoSuffix)) (stmts.Statement (at 0 1 70) None stmts.Null))) ∷ []) None ∷ []

t10_broken : broken t10 [] None ≡ Some (fault 25 0 1 65)
unfolding symbols_of word_of
t10_broken = refl

-- module t; function int f(); return 1; endfunction int x = f(); endmodule
abbrev t11 : List Description
t11 = module_ (at 0 1 1) life.Unwritten (name (at 0 1 8) "t") None [] (items.Routine (routine (head (at 0 1 11) life.Unwritten (units.Returns.Value (types.Written (types.Atom (at 0 1 20) atom_word.Int sign.Unwritten))) (name (at 0 1 24) "f") []) [] (stmts.Statement (at 0 1 29) None (stmts.Return (Some (number (at 0 1 36) "1"))) ∷ []) None) ∷ items.Decl (decl life.Unwritten (types.Atom (at 0 1 51) atom_word.Int sign.Unwritten) (declarator (name (at 0 1 55) "x") None (Some (stmts.Value (tree.Expr.Post (root.Plain (name (at 0 1 59) "f")) (tree.Call (at 0 1 60) tree.NoExpr tree.NoSuffix)))) ∷ [])) ∷ []) None ∷ []

t11_broken : broken t11 [] None ≡ Some (fault 25 0 1 59)
unfolding symbols_of word_of
t11_broken = refl

-- module t; function int f(); return 1; endfunction initial $strobe("%d", f()); endmodule
abbrev t12 : List Description
t12 = module_ (at 0 1 1) life.Unwritten (name (at 0 1 8) "t") None [] (items.Routine (routine (head (at 0 1 11) life.Unwritten (units.Returns.Value (types.Written (types.Atom (at 0 1 20) atom_word.Int sign.Unwritten))) (name (at 0 1 24) "f") []) [] (stmts.Statement (at 0 1 29) None (stmts.Return (Some (number (at 0 1 36) "1"))) ∷ []) None) ∷ procedure (at 0 1 51) procedure_word.Initial (stmts.Statement (at 0 1 59) None (stmts.Call (system (at 0 1 59) "$strobe" (text (at 0 1 67) "%d" ∷ tree.Expr.Post (root.Plain (name (at 0 1 73) "f")) (tree.Call (at 0 1 74) tree.NoExpr tree.NoSuffix) ∷ [])))) ∷ []) None ∷ []

t12_broken : broken t12 [] None ≡ Some (fault 25 0 1 73)
unfolding symbols_of word_of
t12_broken = refl

-- module t; initial begin automatic int k; k <= 3; end endmodule
abbrev t13 : List Description
t13 = module_ (at 0 1 1) life.Unwritten (name (at 0 1 8) "t") None [] (procedure (at 0 1 11) procedure_word.Initial (stmts.Statement (at 0 1 19) None (stmts.Block None (decl life.Automatic (types.Atom (at 0 1 35) atom_word.Int sign.Unwritten) (declarator (name (at 0 1 39) "k") None None ∷ []) ∷ []) (statements (stmts.Statement (at 0 1 42) None (nonblocking (target (at 0 1 42) "k") None (number (at 0 1 47) "3")) ∷ [])) None)) ∷ []) None ∷ []

t13_broken : broken t13 [] None ≡ Some (fault 26 0 1 42)
unfolding symbols_of word_of
t13_broken = refl

-- module t; class A; int x; endclass A a; initial a.x <= 1; endmodule
abbrev t14 : List Description
t14 = module_ (at 0 1 1) life.Unwritten (name (at 0 1 8) "t") None [] (items.Class (class_ (at 0 1 11) false (name (at 0 1 17) "A") None (property unqualified (decl life.Unwritten (types.Atom (at 0 1 20) atom_word.Int sign.Unwritten) (declarator (name (at 0 1 24) "x") None None ∷ [])) ∷ []) None) ∷ items.Decl (decl life.Unwritten (types.Named (name (at 0 1 36) "A")) (declarator (name (at 0 1 38) "a") None None ∷ [])) ∷ procedure (at 0 1 41) procedure_word.Initial (stmts.Statement (at 0 1 49) None (nonblocking (tree.Lval.Post (root.Plain (name (at 0 1 49) "a")) (tree.Member (name (at 0 1 51) "x") tree.NoSuffix)) None (number (at 0 1 56) "1"))) ∷ []) None ∷ []

t14_broken : broken t14 [] None ≡ Some (fault 26 0 1 49)
unfolding symbols_of word_of
t14_broken = refl

-- module t; class A; static int x; endclass initial A::x <= 1; endmodule
abbrev t15 : List Description
t15 = module_ (at 0 1 1) life.Unwritten (name (at 0 1 8) "t") None [] (items.Class (class_ (at 0 1 11) false (name (at 0 1 17) "A") None (property (qualifiers false false true false) (decl life.Unwritten (types.Atom (at 0 1 27) atom_word.Int sign.Unwritten) (declarator (name (at 0 1 31) "x") None None ∷ [])) ∷ []) None) ∷ procedure (at 0 1 43) procedure_word.Initial (stmts.Statement (at 0 1 51) None (nonblocking (tree.Lval.Post (root.Scoped (name (at 0 1 51) "A") (name (at 0 1 54) "x")) tree.NoSuffix) None (number (at 0 1 59) "1"))) ∷ []) None ∷ []

t15_broken : broken t15 [] None ≡ Some (fault 26 0 1 51)
unfolding symbols_of word_of
t15_broken = refl

-- module t; initial begin automatic int k; $monitor("%d", k); end endmodule
abbrev t16 : List Description
t16 = module_ (at 0 1 1) life.Unwritten (name (at 0 1 8) "t") None [] (procedure (at 0 1 11) procedure_word.Initial (stmts.Statement (at 0 1 19) None (stmts.Block None (decl life.Automatic (types.Atom (at 0 1 35) atom_word.Int sign.Unwritten) (declarator (name (at 0 1 39) "k") None None ∷ []) ∷ []) (statements (stmts.Statement (at 0 1 42) None (stmts.Call (system (at 0 1 42) "$monitor" (text (at 0 1 51) "%d" ∷ plain (at 0 1 57) "k" ∷ []))) ∷ [])) None)) ∷ []) None ∷ []

t16_broken : broken t16 [] None ≡ Some (fault 51 0 1 57)
unfolding symbols_of word_of
t16_broken = refl

-- module t; class A; int x; endclass A a; initial $strobe("%d", a.x); endmodule
abbrev t17 : List Description
t17 = module_ (at 0 1 1) life.Unwritten (name (at 0 1 8) "t") None [] (items.Class (class_ (at 0 1 11) false (name (at 0 1 17) "A") None (property unqualified (decl life.Unwritten (types.Atom (at 0 1 20) atom_word.Int sign.Unwritten) (declarator (name (at 0 1 24) "x") None None ∷ [])) ∷ []) None) ∷ items.Decl (decl life.Unwritten (types.Named (name (at 0 1 36) "A")) (declarator (name (at 0 1 38) "a") None None ∷ [])) ∷ procedure (at 0 1 41) procedure_word.Initial (stmts.Statement (at 0 1 49) None (stmts.Call (system (at 0 1 49) "$strobe" (text (at 0 1 57) "%d" ∷ tree.Expr.Post (root.Plain (name (at 0 1 63) "a")) (tree.Member (name (at 0 1 65) "x") tree.NoSuffix) ∷ [])))) ∷ []) None ∷ []

t17_broken : broken t17 [] None ≡ Some (fault 51 0 1 65)
unfolding symbols_of word_of
t17_broken = refl

-- module t; function void f(); fork #1; join endfunction endmodule
abbrev t18 : List Description
t18 = module_ (at 0 1 1) life.Unwritten (name (at 0 1 8) "t") None [] (items.Routine (routine (head (at 0 1 11) life.Unwritten units.Void (name (at 0 1 25) "f") []) [] (stmts.Statement (at 0 1 30) None (stmts.Fork None [] (statements (stmts.Statement (at 0 1 35) None (stmts.After (delay (at 0 1 35) (number (at 0 1 36) "1")) (stmts.Statement (at 0 1 37) None stmts.Null)) ∷ [])) join_word.All None) ∷ []) None) ∷ []) None ∷ []

t18_broken : broken t18 [] None ≡ Some (fault 27 0 1 30)
unfolding symbols_of word_of
t18_broken = refl

-- module t; function void f(); fork #1; join_none endfunction endmodule
abbrev t19 : List Description
t19 = module_ (at 0 1 1) life.Unwritten (name (at 0 1 8) "t") None [] (items.Routine (routine (head (at 0 1 11) life.Unwritten units.Void (name (at 0 1 25) "f") []) [] (stmts.Statement (at 0 1 30) None (stmts.Fork None [] (statements (stmts.Statement (at 0 1 35) None (stmts.After (delay (at 0 1 35) (number (at 0 1 36) "1")) (stmts.Statement (at 0 1 37) None stmts.Null)) ∷ [])) join_word.None None) ∷ []) None) ∷ []) None ∷ []

t19_seen : seen_in (Listed []) (Listed []) (elaborated t19 [] None) 5 ≡ Ran (record { log = []; wave = lines ("$timescale 1ns $end" ∷ "$scope module t $end" ∷ "$upscope $end" ∷ "$enddefinitions $end" ∷ "#0" ∷ "$dumpvars" ∷ "$end" ∷ []); outcome = Done; time = 0; steps = 2; race = Some (10, at 0 1 30) })
unfolding symbols_of word_of
t19_seen = refl

-- module t; function void f(); wait fork; endfunction endmodule
abbrev t20 : List Description
t20 = module_ (at 0 1 1) life.Unwritten (name (at 0 1 8) "t") None [] (items.Routine (routine (head (at 0 1 11) life.Unwritten units.Void (name (at 0 1 25) "f") []) [] (stmts.Statement (at 0 1 30) None stmts.WaitFork ∷ []) None) ∷ []) None ∷ []

t20_broken : broken t20 [] None ≡ Some (fault 27 0 1 30)
unfolding symbols_of word_of
t20_broken = refl

-- module t; logic a; always_comb begin a = 1; #1; end endmodule
abbrev t21 : List Description
t21 = module_ (at 0 1 1) life.Unwritten (name (at 0 1 8) "t") None [] (items.Decl (decl life.Unwritten (types.WrittenType.Vector (at 0 1 11) vector_word.Logic sign.Unwritten None) (declarator (name (at 0 1 17) "a") None None ∷ [])) ∷ procedure (at 0 1 20) procedure_word.AlwaysComb (stmts.Statement (at 0 1 32) None (stmts.Block None [] (statements (stmts.Statement (at 0 1 38) None (blocking (target (at 0 1 38) "a") None (stmts.Value (number (at 0 1 42) "1"))) ∷ stmts.Statement (at 0 1 45) None (stmts.After (delay (at 0 1 45) (number (at 0 1 46) "1")) (stmts.Statement (at 0 1 47) None stmts.Null)) ∷ [])) None)) ∷ []) None ∷ []

t21_broken : broken t21 [] None ≡ Some (fault 27 0 1 45)
unfolding symbols_of word_of
t21_broken = refl

-- module t; logic a; always_comb fork #1; join_none endmodule
abbrev t22 : List Description
t22 = module_ (at 0 1 1) life.Unwritten (name (at 0 1 8) "t") None [] (items.Decl (decl life.Unwritten (types.WrittenType.Vector (at 0 1 11) vector_word.Logic sign.Unwritten None) (declarator (name (at 0 1 17) "a") None None ∷ [])) ∷ procedure (at 0 1 20) procedure_word.AlwaysComb (stmts.Statement (at 0 1 32) None (stmts.Fork None [] (statements (stmts.Statement (at 0 1 37) None (stmts.After (delay (at 0 1 37) (number (at 0 1 38) "1")) (stmts.Statement (at 0 1 39) None stmts.Null)) ∷ [])) join_word.None None)) ∷ []) None ∷ []

t22_broken : broken t22 [] None ≡ Some (fault 27 0 1 37)
unfolding symbols_of word_of
t22_broken = refl

-- module t; mailbox m; int x; function void f(); m.get(x); endfunction endmodule
abbrev t23 : List Description
t23 = module_ (at 0 1 1) life.Unwritten (name (at 0 1 8) "t") None [] (items.Decl (decl life.Unwritten (types.Mailbox (at 0 1 11)) (declarator (name (at 0 1 19) "m") None None ∷ [])) ∷ items.Decl (decl life.Unwritten (types.Atom (at 0 1 22) atom_word.Int sign.Unwritten) (declarator (name (at 0 1 26) "x") None None ∷ [])) ∷ items.Routine (routine (head (at 0 1 29) life.Unwritten units.Void (name (at 0 1 43) "f") []) [] (stmts.Statement (at 0 1 48) None (stmts.Call (tree.Expr.Post (root.Plain (name (at 0 1 48) "m")) (tree.Member (name (at 0 1 50) "get") (tree.Call (at 0 1 53) (expressions (plain (at 0 1 54) "x" ∷ [])) tree.NoSuffix)))) ∷ []) None) ∷ []) None ∷ []

t23_broken : broken t23 [] None ≡ Some (fault 27 0 1 48)
unfolding symbols_of word_of
t23_broken = refl

-- module t; semaphore m; function void f(); m.get(); endfunction endmodule
abbrev t24 : List Description
t24 = module_ (at 0 1 1) life.Unwritten (name (at 0 1 8) "t") None [] (items.Decl (decl life.Unwritten (types.Semaphore (at 0 1 11)) (declarator (name (at 0 1 21) "m") None None ∷ [])) ∷ items.Routine (routine (head (at 0 1 24) life.Unwritten units.Void (name (at 0 1 38) "f") []) [] (stmts.Statement (at 0 1 43) None (stmts.Call (tree.Expr.Post (root.Plain (name (at 0 1 43) "m")) (tree.Member (name (at 0 1 45) "get") (tree.Call (at 0 1 48) tree.NoExpr tree.NoSuffix)))) ∷ []) None) ∷ []) None ∷ []

t24_broken : broken t24 [] None ≡ Some (fault 27 0 1 43)
unfolding symbols_of word_of
t24_broken = refl

-- module t; logic a, c; always_ff a <= c; endmodule
abbrev t25 : List Description
t25 = module_ (at 0 1 1) life.Unwritten (name (at 0 1 8) "t") None [] (items.Decl (decl life.Unwritten (types.WrittenType.Vector (at 0 1 11) vector_word.Logic sign.Unwritten None) (declarator (name (at 0 1 17) "a") None None ∷ declarator (name (at 0 1 20) "c") None None ∷ [])) ∷ procedure (at 0 1 23) procedure_word.AlwaysFf (stmts.Statement (at 0 1 33) None (nonblocking (target (at 0 1 33) "a") None (plain (at 0 1 38) "c"))) ∷ []) None ∷ []

t25_broken : broken t25 [] None ≡ Some (fault 28 0 1 23)
unfolding symbols_of word_of
t25_broken = refl

-- module t; logic a, c; always_ff @(posedge c) begin #1 a <= 1; end endmodule
abbrev t26 : List Description
t26 = module_ (at 0 1 1) life.Unwritten (name (at 0 1 8) "t") None [] (items.Decl (decl life.Unwritten (types.WrittenType.Vector (at 0 1 11) vector_word.Logic sign.Unwritten None) (declarator (name (at 0 1 17) "a") None None ∷ declarator (name (at 0 1 20) "c") None None ∷ [])) ∷ procedure (at 0 1 23) procedure_word.AlwaysFf (stmts.Statement (at 0 1 33) None (stmts.On (stmts.Parts (event_part edge.Posedge (plain (at 0 1 43) "c") None ∷ [])) (stmts.Statement (at 0 1 46) None (stmts.Block None [] (statements (stmts.Statement (at 0 1 52) None (stmts.After (delay (at 0 1 52) (number (at 0 1 53) "1")) (stmts.Statement (at 0 1 55) None (nonblocking (target (at 0 1 55) "a") None (number (at 0 1 60) "1")))) ∷ [])) None)))) ∷ []) None ∷ []

t26_broken : broken t26 [] None ≡ Some (fault 28 0 1 23)
unfolding symbols_of word_of
t26_broken = refl

-- module t; logic a, c; always_ff @(posedge c) a <= #1 1; endmodule
abbrev t27 : List Description
t27 = module_ (at 0 1 1) life.Unwritten (name (at 0 1 8) "t") None [] (items.Decl (decl life.Unwritten (types.WrittenType.Vector (at 0 1 11) vector_word.Logic sign.Unwritten None) (declarator (name (at 0 1 17) "a") None None ∷ declarator (name (at 0 1 20) "c") None None ∷ [])) ∷ procedure (at 0 1 23) procedure_word.AlwaysFf (stmts.Statement (at 0 1 33) None (stmts.On (stmts.Parts (event_part edge.Posedge (plain (at 0 1 43) "c") None ∷ [])) (stmts.Statement (at 0 1 46) None (nonblocking (target (at 0 1 46) "a") (Some (delay (at 0 1 51) (number (at 0 1 52) "1"))) (number (at 0 1 54) "1"))))) ∷ []) None ∷ []

t27_seen : seen_in (Listed []) (Listed []) (elaborated t27 [] None) 7 ≡ Ran (record { log = []; wave = lines ("$timescale 1ns $end" ∷ "$scope module t $end" ∷ "$var reg 1 ! a $end" ∷ "$var reg 1 \" c $end" ∷ "$upscope $end" ∷ "$enddefinitions $end" ∷ "#0" ∷ "$dumpvars" ∷ "x!" ∷ "x\"" ∷ "$end" ∷ []); outcome = Done; time = 0; steps = 4; race = Some (4, at 0 1 23) })
unfolding symbols_of word_of
t27_seen = refl

-- module t; function void f(); a <= #1 1; endfunction logic a; endmodule
abbrev t28 : List Description
t28 = module_ (at 0 1 1) life.Unwritten (name (at 0 1 8) "t") None [] (items.Routine (routine (head (at 0 1 11) life.Unwritten units.Void (name (at 0 1 25) "f") []) [] (stmts.Statement (at 0 1 30) None (nonblocking (target (at 0 1 30) "a") (Some (delay (at 0 1 35) (number (at 0 1 36) "1"))) (number (at 0 1 38) "1")) ∷ []) None) ∷ items.Decl (decl life.Unwritten (types.WrittenType.Vector (at 0 1 53) vector_word.Logic sign.Unwritten None) (declarator (name (at 0 1 59) "a") None None ∷ [])) ∷ []) None ∷ []

t28_broken : broken t28 [] None ≡ Some (fault 27 0 1 35)
unfolding symbols_of word_of
t28_broken = refl

-- module t; initial while (1) fork break; join endmodule
abbrev t29 : List Description
t29 = module_ (at 0 1 1) life.Unwritten (name (at 0 1 8) "t") None [] (procedure (at 0 1 11) procedure_word.Initial (stmts.Statement (at 0 1 19) None (stmts.While (number (at 0 1 26) "1") (stmts.Statement (at 0 1 29) None (stmts.Fork None [] (statements (stmts.Statement (at 0 1 34) None stmts.Break ∷ [])) join_word.All None)))) ∷ []) None ∷ []

t29_broken : broken t29 [] None ≡ Some (fault 29 0 1 34)
unfolding symbols_of word_of
t29_broken = refl

-- module t; function int f(); fork return 1; join_none endfunction endmodule
abbrev t30 : List Description
t30 = module_ (at 0 1 1) life.Unwritten (name (at 0 1 8) "t") None [] (items.Routine (routine (head (at 0 1 11) life.Unwritten (units.Returns.Value (types.Written (types.Atom (at 0 1 20) atom_word.Int sign.Unwritten))) (name (at 0 1 24) "f") []) [] (stmts.Statement (at 0 1 29) None (stmts.Fork None [] (statements (stmts.Statement (at 0 1 34) None (stmts.Return (Some (number (at 0 1 41) "1"))) ∷ [])) join_word.None None) ∷ []) None) ∷ []) None ∷ []

t30_broken : broken t30 [] None ≡ Some (fault 29 0 1 34)
unfolding symbols_of word_of
t30_broken = refl

-- module t; function void f(); return 1; endfunction endmodule
abbrev t31 : List Description
t31 = module_ (at 0 1 1) life.Unwritten (name (at 0 1 8) "t") None [] (items.Routine (routine (head (at 0 1 11) life.Unwritten units.Void (name (at 0 1 25) "f") []) [] (stmts.Statement (at 0 1 30) None (stmts.Return (Some (number (at 0 1 37) "1"))) ∷ []) None) ∷ []) None ∷ []

t31_broken : broken t31 [] None ≡ Some (fault 30 0 1 30)
unfolding symbols_of word_of
t31_broken = refl

-- module t; task w(); return 1; endtask endmodule
abbrev t32 : List Description
t32 = module_ (at 0 1 1) life.Unwritten (name (at 0 1 8) "t") None [] (items.Routine (routine (head (at 0 1 11) life.Unwritten units.Task (name (at 0 1 16) "w") []) [] (stmts.Statement (at 0 1 21) None (stmts.Return (Some (number (at 0 1 28) "1"))) ∷ []) None) ∷ []) None ∷ []

t32_broken : broken t32 [] None ≡ Some (fault 30 0 1 21)
unfolding symbols_of word_of
t32_broken = refl

-- module t; function int f(); return "s"; endfunction endmodule
abbrev t33 : List Description
t33 = module_ (at 0 1 1) life.Unwritten (name (at 0 1 8) "t") None [] (items.Routine (routine (head (at 0 1 11) life.Unwritten (units.Returns.Value (types.Written (types.Atom (at 0 1 20) atom_word.Int sign.Unwritten))) (name (at 0 1 24) "f") []) [] (stmts.Statement (at 0 1 29) None (stmts.Return (Some (text (at 0 1 36) "s"))) ∷ []) None) ∷ []) None ∷ []

t33_broken : broken t33 [] None ≡ Some (fault 16 0 1 36)
unfolding symbols_of word_of
t33_broken = refl

-- module t; function int f(int a, b); return a; endfunction int x; initial x = f(1); endmodule
abbrev t34 : List Description
t34 = module_ (at 0 1 1) life.Unwritten (name (at 0 1 8) "t") None [] (items.Routine (routine (head (at 0 1 11) life.Unwritten (units.Returns.Value (types.Written (types.Atom (at 0 1 20) atom_word.Int sign.Unwritten))) (name (at 0 1 24) "f") (argument None (types.Written (types.Atom (at 0 1 26) atom_word.Int sign.Unwritten)) (name (at 0 1 30) "a") None ∷ argument None types.Unwritten (name (at 0 1 33) "b") None ∷ [])) [] (stmts.Statement (at 0 1 37) None (stmts.Return (Some (plain (at 0 1 44) "a"))) ∷ []) None) ∷ items.Decl (decl life.Unwritten (types.Atom (at 0 1 59) atom_word.Int sign.Unwritten) (declarator (name (at 0 1 63) "x") None None ∷ [])) ∷ procedure (at 0 1 66) procedure_word.Initial (stmts.Statement (at 0 1 74) None (blocking (target (at 0 1 74) "x") None (stmts.Value (tree.Expr.Post (root.Plain (name (at 0 1 78) "f")) (tree.Call (at 0 1 79) (expressions (number (at 0 1 80) "1" ∷ [])) tree.NoSuffix))))) ∷ []) None ∷ []

t34_broken : broken t34 [] None ≡ Some (fault 31 0 1 78)
unfolding symbols_of word_of
t34_broken = refl

-- module t; function int f(int a); return a; endfunction int x; initial x = f(1, y); endmodule
abbrev t35 : List Description
t35 = module_ (at 0 1 1) life.Unwritten (name (at 0 1 8) "t") None [] (items.Routine (routine (head (at 0 1 11) life.Unwritten (units.Returns.Value (types.Written (types.Atom (at 0 1 20) atom_word.Int sign.Unwritten))) (name (at 0 1 24) "f") (argument None (types.Written (types.Atom (at 0 1 26) atom_word.Int sign.Unwritten)) (name (at 0 1 30) "a") None ∷ [])) [] (stmts.Statement (at 0 1 34) None (stmts.Return (Some (plain (at 0 1 41) "a"))) ∷ []) None) ∷ items.Decl (decl life.Unwritten (types.Atom (at 0 1 56) atom_word.Int sign.Unwritten) (declarator (name (at 0 1 60) "x") None None ∷ [])) ∷ procedure (at 0 1 63) procedure_word.Initial (stmts.Statement (at 0 1 71) None (blocking (target (at 0 1 71) "x") None (stmts.Value (tree.Expr.Post (root.Plain (name (at 0 1 75) "f")) (tree.Call (at 0 1 76) (expressions (number (at 0 1 77) "1" ∷ plain (at 0 1 80) "y" ∷ [])) tree.NoSuffix))))) ∷ []) None ∷ []

t35_broken : broken t35 [] None ≡ Some (fault 31 0 1 75)
unfolding symbols_of word_of
t35_broken = refl

-- module t; function int f(output int a); a = 1; endfunction int x; initial x = f(3); endmodule
abbrev t36 : List Description
t36 = module_ (at 0 1 1) life.Unwritten (name (at 0 1 8) "t") None [] (items.Routine (routine (head (at 0 1 11) life.Unwritten (units.Returns.Value (types.Written (types.Atom (at 0 1 20) atom_word.Int sign.Unwritten))) (name (at 0 1 24) "f") (argument (Some direction.Output) (types.Written (types.Atom (at 0 1 33) atom_word.Int sign.Unwritten)) (name (at 0 1 37) "a") None ∷ [])) [] (stmts.Statement (at 0 1 41) None (blocking (target (at 0 1 41) "a") None (stmts.Value (number (at 0 1 45) "1"))) ∷ []) None) ∷ items.Decl (decl life.Unwritten (types.Atom (at 0 1 60) atom_word.Int sign.Unwritten) (declarator (name (at 0 1 64) "x") None None ∷ [])) ∷ procedure (at 0 1 67) procedure_word.Initial (stmts.Statement (at 0 1 75) None (blocking (target (at 0 1 75) "x") None (stmts.Value (tree.Expr.Post (root.Plain (name (at 0 1 79) "f")) (tree.Call (at 0 1 80) (expressions (number (at 0 1 81) "3" ∷ [])) tree.NoSuffix))))) ∷ []) None ∷ []

t36_broken : broken t36 [] None ≡ Some (fault 31 0 1 81)
unfolding symbols_of word_of
t36_broken = refl

-- module t; function int f(output int a); a = 1; endfunction int x; string s; initial x = f(s); endmodule
abbrev t37 : List Description
t37 = module_ (at 0 1 1) life.Unwritten (name (at 0 1 8) "t") None [] (items.Routine (routine (head (at 0 1 11) life.Unwritten (units.Returns.Value (types.Written (types.Atom (at 0 1 20) atom_word.Int sign.Unwritten))) (name (at 0 1 24) "f") (argument (Some direction.Output) (types.Written (types.Atom (at 0 1 33) atom_word.Int sign.Unwritten)) (name (at 0 1 37) "a") None ∷ [])) [] (stmts.Statement (at 0 1 41) None (blocking (target (at 0 1 41) "a") None (stmts.Value (number (at 0 1 45) "1"))) ∷ []) None) ∷ items.Decl (decl life.Unwritten (types.Atom (at 0 1 60) atom_word.Int sign.Unwritten) (declarator (name (at 0 1 64) "x") None None ∷ [])) ∷ items.Decl (decl life.Unwritten (types.Text (at 0 1 67)) (declarator (name (at 0 1 74) "s") None None ∷ [])) ∷ procedure (at 0 1 77) procedure_word.Initial (stmts.Statement (at 0 1 85) None (blocking (target (at 0 1 85) "x") None (stmts.Value (tree.Expr.Post (root.Plain (name (at 0 1 89) "f")) (tree.Call (at 0 1 90) (expressions (plain (at 0 1 91) "s" ∷ [])) tree.NoSuffix))))) ∷ []) None ∷ []

t37_broken : broken t37 [] None ≡ Some (fault 16 0 1 91)
unfolding symbols_of word_of
t37_broken = refl

-- module t; function int f(inout byte a); a = 1; endfunction int x; string s; initial x = f({s, s}); endmodule
abbrev t38 : List Description
t38 = module_ (at 0 1 1) life.Unwritten (name (at 0 1 8) "t") None [] (items.Routine (routine (head (at 0 1 11) life.Unwritten (units.Returns.Value (types.Written (types.Atom (at 0 1 20) atom_word.Int sign.Unwritten))) (name (at 0 1 24) "f") (argument (Some direction.Inout) (types.Written (types.Atom (at 0 1 32) atom_word.Byte sign.Unwritten)) (name (at 0 1 37) "a") None ∷ [])) [] (stmts.Statement (at 0 1 41) None (blocking (target (at 0 1 41) "a") None (stmts.Value (number (at 0 1 45) "1"))) ∷ []) None) ∷ items.Decl (decl life.Unwritten (types.Atom (at 0 1 60) atom_word.Int sign.Unwritten) (declarator (name (at 0 1 64) "x") None None ∷ [])) ∷ items.Decl (decl life.Unwritten (types.Text (at 0 1 67)) (declarator (name (at 0 1 74) "s") None None ∷ [])) ∷ procedure (at 0 1 77) procedure_word.Initial (stmts.Statement (at 0 1 85) None (blocking (target (at 0 1 85) "x") None (stmts.Value (tree.Expr.Post (root.Plain (name (at 0 1 89) "f")) (tree.Call (at 0 1 90) (expressions (tree.Expr.Join (at 0 1 91) (expressions (plain (at 0 1 92) "s" ∷ plain (at 0 1 95) "s" ∷ [])) ∷ [])) tree.NoSuffix))))) ∷ []) None ∷ []

t38_broken : broken t38 [] None ≡ Some (fault 15 0 1 92)
unfolding symbols_of word_of
t38_broken = refl

-- module t; function int f(int a = x); return a; endfunction int x; endmodule
abbrev t39 : List Description
t39 = module_ (at 0 1 1) life.Unwritten (name (at 0 1 8) "t") None [] (items.Routine (routine (head (at 0 1 11) life.Unwritten (units.Returns.Value (types.Written (types.Atom (at 0 1 20) atom_word.Int sign.Unwritten))) (name (at 0 1 24) "f") (argument None (types.Written (types.Atom (at 0 1 26) atom_word.Int sign.Unwritten)) (name (at 0 1 30) "a") (Some (plain (at 0 1 34) "x")) ∷ [])) [] (stmts.Statement (at 0 1 38) None (stmts.Return (Some (plain (at 0 1 45) "a"))) ∷ []) None) ∷ items.Decl (decl life.Unwritten (types.Atom (at 0 1 60) atom_word.Int sign.Unwritten) (declarator (name (at 0 1 64) "x") None None ∷ [])) ∷ []) None ∷ []

t39_broken : broken t39 [] None ≡ Some (fault 11 0 1 34)
unfolding symbols_of word_of
t39_broken = refl

-- module t; function int f(int a = "s"); return a; endfunction endmodule
abbrev t40 : List Description
t40 = module_ (at 0 1 1) life.Unwritten (name (at 0 1 8) "t") None [] (items.Routine (routine (head (at 0 1 11) life.Unwritten (units.Returns.Value (types.Written (types.Atom (at 0 1 20) atom_word.Int sign.Unwritten))) (name (at 0 1 24) "f") (argument None (types.Written (types.Atom (at 0 1 26) atom_word.Int sign.Unwritten)) (name (at 0 1 30) "a") (Some (text (at 0 1 34) "s")) ∷ [])) [] (stmts.Statement (at 0 1 40) None (stmts.Return (Some (plain (at 0 1 47) "a"))) ∷ []) None) ∷ []) None ∷ []

t40_broken : broken t40 [] None ≡ Some (fault 16 0 1 34)
unfolding symbols_of word_of
t40_broken = refl

-- module t; function void f(); endfunction int x; initial x = f(); endmodule
abbrev t41 : List Description
t41 = module_ (at 0 1 1) life.Unwritten (name (at 0 1 8) "t") None [] (items.Routine (routine (head (at 0 1 11) life.Unwritten units.Void (name (at 0 1 25) "f") []) [] [] None) ∷ items.Decl (decl life.Unwritten (types.Atom (at 0 1 42) atom_word.Int sign.Unwritten) (declarator (name (at 0 1 46) "x") None None ∷ [])) ∷ procedure (at 0 1 49) procedure_word.Initial (stmts.Statement (at 0 1 57) None (blocking (target (at 0 1 57) "x") None (stmts.Value (tree.Expr.Post (root.Plain (name (at 0 1 61) "f")) (tree.Call (at 0 1 62) tree.NoExpr tree.NoSuffix))))) ∷ []) None ∷ []

t41_broken : broken t41 [] None ≡ Some (fault 32 0 1 61)
unfolding symbols_of word_of
t41_broken = refl

-- module t; task w(); endtask int x; initial x = w(); endmodule
abbrev t42 : List Description
t42 = module_ (at 0 1 1) life.Unwritten (name (at 0 1 8) "t") None [] (items.Routine (routine (head (at 0 1 11) life.Unwritten units.Task (name (at 0 1 16) "w") []) [] [] None) ∷ items.Decl (decl life.Unwritten (types.Atom (at 0 1 29) atom_word.Int sign.Unwritten) (declarator (name (at 0 1 33) "x") None None ∷ [])) ∷ procedure (at 0 1 36) procedure_word.Initial (stmts.Statement (at 0 1 44) None (blocking (target (at 0 1 44) "x") None (stmts.Value (tree.Expr.Post (root.Plain (name (at 0 1 48) "w")) (tree.Call (at 0 1 49) tree.NoExpr tree.NoSuffix))))) ∷ []) None ∷ []

t42_broken : broken t42 [] None ≡ Some (fault 32 0 1 48)
unfolding symbols_of word_of
t42_broken = refl

-- module t; function int f(); return 1; endfunction int x; initial x = f; endmodule
abbrev t43 : List Description
t43 = module_ (at 0 1 1) life.Unwritten (name (at 0 1 8) "t") None [] (items.Routine (routine (head (at 0 1 11) life.Unwritten (units.Returns.Value (types.Written (types.Atom (at 0 1 20) atom_word.Int sign.Unwritten))) (name (at 0 1 24) "f") []) [] (stmts.Statement (at 0 1 29) None (stmts.Return (Some (number (at 0 1 36) "1"))) ∷ []) None) ∷ items.Decl (decl life.Unwritten (types.Atom (at 0 1 51) atom_word.Int sign.Unwritten) (declarator (name (at 0 1 55) "x") None None ∷ [])) ∷ procedure (at 0 1 58) procedure_word.Initial (stmts.Statement (at 0 1 66) None (blocking (target (at 0 1 66) "x") None (stmts.Value (plain (at 0 1 70) "f")))) ∷ []) None ∷ []

t43_broken : broken t43 [] None ≡ Some (fault 7 0 1 70)
unfolding symbols_of word_of
t43_broken = refl

-- module t; int x; initial x(); endmodule
abbrev t44 : List Description
t44 = module_ (at 0 1 1) life.Unwritten (name (at 0 1 8) "t") None [] (items.Decl (decl life.Unwritten (types.Atom (at 0 1 11) atom_word.Int sign.Unwritten) (declarator (name (at 0 1 15) "x") None None ∷ [])) ∷ procedure (at 0 1 18) procedure_word.Initial (stmts.Statement (at 0 1 26) None (stmts.Call (tree.Expr.Post (root.Plain (name (at 0 1 26) "x")) (tree.Call (at 0 1 27) tree.NoExpr tree.NoSuffix)))) ∷ []) None ∷ []

t44_broken : broken t44 [] None ≡ Some (fault 7 0 1 26)
unfolding symbols_of word_of
t44_broken = refl

-- module t; int x; initial x = x(); endmodule
abbrev t45 : List Description
t45 = module_ (at 0 1 1) life.Unwritten (name (at 0 1 8) "t") None [] (items.Decl (decl life.Unwritten (types.Atom (at 0 1 11) atom_word.Int sign.Unwritten) (declarator (name (at 0 1 15) "x") None None ∷ [])) ∷ procedure (at 0 1 18) procedure_word.Initial (stmts.Statement (at 0 1 26) None (blocking (target (at 0 1 26) "x") None (stmts.Value (tree.Expr.Post (root.Plain (name (at 0 1 30) "x")) (tree.Call (at 0 1 31) tree.NoExpr tree.NoSuffix))))) ∷ []) None ∷ []

t45_broken : broken t45 [] None ≡ Some (fault 7 0 1 30)
unfolding symbols_of word_of
t45_broken = refl

-- module t; function int f(); f(); return 1; endfunction initial f; endmodule
abbrev t46 : List Description
t46 = module_ (at 0 1 1) life.Unwritten (name (at 0 1 8) "t") None [] (items.Routine (routine (head (at 0 1 11) life.Unwritten (units.Returns.Value (types.Written (types.Atom (at 0 1 20) atom_word.Int sign.Unwritten))) (name (at 0 1 24) "f") []) [] (stmts.Statement (at 0 1 29) None (stmts.Call (tree.Expr.Post (root.Plain (name (at 0 1 29) "f")) (tree.Call (at 0 1 30) tree.NoExpr tree.NoSuffix))) ∷ stmts.Statement (at 0 1 34) None (stmts.Return (Some (number (at 0 1 41) "1"))) ∷ []) None) ∷ procedure (at 0 1 56) procedure_word.Initial (stmts.Statement (at 0 1 64) None (stmts.Call (plain (at 0 1 64) "f"))) ∷ []) None ∷ []

t46_seen : seen_in (Listed []) (Listed []) (elaborated t46 [] None) 120 ≡ Ran (record { log = []; wave = lines ("$timescale 1ns $end" ∷ "$scope module t $end" ∷ "$upscope $end" ∷ "$enddefinitions $end" ∷ []); outcome = Spent; time = 0; steps = 120; race = Some (7, at 0 1 24) })
unfolding symbols_of word_of
t46_seen = refl

-- module t; int a; initial a.b.c = 1; endmodule
abbrev t47 : List Description
t47 = module_ (at 0 1 1) life.Unwritten (name (at 0 1 8) "t") None [] (items.Decl (decl life.Unwritten (types.Atom (at 0 1 11) atom_word.Int sign.Unwritten) (declarator (name (at 0 1 15) "a") None None ∷ [])) ∷ procedure (at 0 1 18) procedure_word.Initial (stmts.Statement (at 0 1 26) None (blocking (tree.Lval.Post (root.Plain (name (at 0 1 26) "a")) (tree.Member (name (at 0 1 28) "b") (tree.Member (name (at 0 1 30) "c") tree.NoSuffix))) None (stmts.Value (number (at 0 1 34) "1")))) ∷ []) None ∷ []

t47_broken : broken t47 [] None ≡ Some (fault 36 0 1 28)
unfolding symbols_of word_of
t47_broken = refl
