-- Texts that break a rule, or come close to it: declarations, arrays, containers and selects.
use Rattle.std.proofs.Common.{◌≡◌, List, [], ◌∷◌, true, false, refl}
use Rattle.std.specs.Prelude.{Some, None}
use Rattle.sv_value.specs.Vector.{symbols_of, word_of}
use Rattle.sv_flat.specs.declared.choices.Choices.TheVariants.{Listed}
use Rattle.sv_flat.specs.Directed.{Done}
use Rattle.sv_tree.specs.declared.word.BinaryWord.TheVariants as binary_word
use Rattle.sv_tree.specs.declared.word.PartWord.TheVariants as part_word
use Rattle.sv_tree.specs.declared.word.VectorWord.TheVariants as vector_word
use Rattle.sv_tree.specs.declared.word.AtomWord.TheVariants as atom_word
use Rattle.sv_tree.specs.declared.word.Sign.TheVariants as sign
use Rattle.sv_tree.specs.declared.word.Life.TheVariants as life
use Rattle.sv_tree.specs.declared.word.JoinWord.TheVariants as join_word
use Rattle.sv_tree.specs.declared.word.StepWord.TheVariants as step_word
use Rattle.sv_tree.specs.declared.word.ProcedureWord.TheVariants as procedure_word
use Rattle.sv_tree.specs.declared.expr.Root.TheVariants as root
use Rattle.sv_tree.specs.Expr as tree
use Rattle.sv_tree.specs.Types as types
use Rattle.sv_tree.specs.Stmt as stmts
use Rattle.sv_tree.specs.Units as units
use Rattle.sv_tree.specs.Classes as classes
use Rattle.sv_tree.specs.Items as items
use Rattle.sv_tree.specs.Descriptions as descriptions
use Rattle.sv_tree.specs.Descriptions.{Description}
use Rattle.sv_names.specs.Design.{broken, elaborated}
use Rattle.sv_names_rows.proofs.Kit.{argument, at, blocking, class_, decl, declarator, enum_item, expressions, fault, head, lines, method, module_, name, number, plain, procedure, property, qualifiers, range, routine, seen_in, statements, target, text, typedef, unqualified, Ran}

-- module t; typedef class C; int C; endmodule
abbrev t1 : List Description
t1 = module_ (at 0 1 1) life.Unwritten (name (at 0 1 8) "t") None [] (items.Announce (name (at 0 1 25) "C") ∷ items.Decl (decl life.Unwritten (types.Atom (at 0 1 28) atom_word.Int sign.Unwritten) (declarator (name (at 0 1 32) "C") None None ∷ [])) ∷ []) None ∷ []

t1_broken : broken t1 [] None ≡ Some (fault 58 0 1 25)
unfolding symbols_of word_of
t1_broken = refl

-- module t; typedef class C; typedef class C; class C; endclass C x; endmodule
abbrev t2 : List Description
t2 = module_ (at 0 1 1) life.Unwritten (name (at 0 1 8) "t") None [] (items.Announce (name (at 0 1 25) "C") ∷ items.Announce (name (at 0 1 42) "C") ∷ items.Class (class_ (at 0 1 45) false (name (at 0 1 51) "C") None [] None) ∷ items.Decl (decl life.Unwritten (types.Named (name (at 0 1 63) "C")) (declarator (name (at 0 1 65) "x") None None ∷ [])) ∷ []) None ∷ []

t2_seen : seen_in (Listed []) (Listed []) (elaborated t2 [] None) 5 ≡ Ran (record { log = []; wave = lines ("$timescale 1ns $end" ∷ "$scope module t $end" ∷ "$upscope $end" ∷ "$enddefinitions $end" ∷ "#0" ∷ "$dumpvars" ∷ "$end" ∷ []); outcome = Done; time = 0; steps = 2; race = Some (10, at 0 1 65) })
unfolding symbols_of word_of
t2_seen = refl

-- typedef class C; module t; C x; endmodule
abbrev t3 : List Description
t3 = descriptions.Item (items.Announce (name (at 0 1 15) "C")) ∷ module_ (at 0 1 18) life.Unwritten (name (at 0 1 25) "t") None [] (items.Decl (decl life.Unwritten (types.Named (name (at 0 1 28) "C")) (declarator (name (at 0 1 30) "x") None None ∷ [])) ∷ []) None ∷ []

t3_broken : broken t3 [] None ≡ Some (fault 58 0 1 15)
unfolding symbols_of word_of
t3_broken = refl

-- module t; class C; typedef class D; endclass endmodule
abbrev t4 : List Description
t4 = module_ (at 0 1 1) life.Unwritten (name (at 0 1 8) "t") None [] (items.Class (class_ (at 0 1 11) false (name (at 0 1 17) "C") None (classes.Announce (name (at 0 1 34) "D") ∷ []) None) ∷ []) None ∷ []

t4_broken : broken t4 [] None ≡ Some (fault 58 0 1 34)
unfolding symbols_of word_of
t4_broken = refl

-- module t; class C; int a; static int a; endclass endmodule
abbrev t5 : List Description
t5 = module_ (at 0 1 1) life.Unwritten (name (at 0 1 8) "t") None [] (items.Class (class_ (at 0 1 11) false (name (at 0 1 17) "C") None (property unqualified (decl life.Unwritten (types.Atom (at 0 1 20) atom_word.Int sign.Unwritten) (declarator (name (at 0 1 24) "a") None None ∷ [])) ∷ property (qualifiers false false true false) (decl life.Unwritten (types.Atom (at 0 1 34) atom_word.Int sign.Unwritten) (declarator (name (at 0 1 38) "a") None None ∷ [])) ∷ []) None) ∷ []) None ∷ []

t5_broken : broken t5 [] None ≡ Some (fault 5 0 1 38)
unfolding symbols_of word_of
t5_broken = refl

-- module t; class C; function new(); endfunction function new(int x); endfunction endclass endmodule
abbrev t6 : List Description
t6 = module_ (at 0 1 1) life.Unwritten (name (at 0 1 8) "t") None [] (items.Class (class_ (at 0 1 11) false (name (at 0 1 17) "C") None (method unqualified (routine (head (at 0 1 20) life.Unwritten (units.Returns.Value types.Unwritten) (name (at 0 1 29) "new") []) [] [] None) ∷ method unqualified (routine (head (at 0 1 48) life.Unwritten (units.Returns.Value types.Unwritten) (name (at 0 1 57) "new") (argument None (types.Written (types.Atom (at 0 1 61) atom_word.Int sign.Unwritten)) (name (at 0 1 65) "x") None ∷ [])) [] [] None) ∷ []) None) ∷ []) None ∷ []

t6_broken : broken t6 [] None ≡ Some (fault 5 0 1 57)
unfolding symbols_of word_of
t6_broken = refl

-- module t; class C; endclass : D endmodule
abbrev t7 : List Description
t7 = module_ (at 0 1 1) life.Unwritten (name (at 0 1 8) "t") None [] (items.Class (class_ (at 0 1 11) false (name (at 0 1 17) "C") None [] (Some (name (at 0 1 31) "D"))) ∷ []) None ∷ []

t7_broken : broken t7 [] None ≡ Some (fault 5 0 1 31)
unfolding symbols_of word_of
t7_broken = refl

-- module t; function int f(int a); int a; endfunction endmodule
abbrev t8 : List Description
t8 = module_ (at 0 1 1) life.Unwritten (name (at 0 1 8) "t") None [] (items.Routine (routine (head (at 0 1 11) life.Unwritten (units.Returns.Value (types.Written (types.Atom (at 0 1 20) atom_word.Int sign.Unwritten))) (name (at 0 1 24) "f") (argument None (types.Written (types.Atom (at 0 1 26) atom_word.Int sign.Unwritten)) (name (at 0 1 30) "a") None ∷ [])) (decl life.Unwritten (types.Atom (at 0 1 34) atom_word.Int sign.Unwritten) (declarator (name (at 0 1 38) "a") None None ∷ []) ∷ []) [] None) ∷ []) None ∷ []

t8_broken : broken t8 [] None ≡ Some (fault 5 0 1 38)
unfolding symbols_of word_of
t8_broken = refl

-- module t; function int f(); endfunction : g endmodule
abbrev t9 : List Description
t9 = module_ (at 0 1 1) life.Unwritten (name (at 0 1 8) "t") None [] (items.Routine (routine (head (at 0 1 11) life.Unwritten (units.Returns.Value (types.Written (types.Atom (at 0 1 20) atom_word.Int sign.Unwritten))) (name (at 0 1 24) "f") []) [] [] (Some (name (at 0 1 43) "g"))) ∷ []) None ∷ []

t9_broken : broken t9 [] None ≡ Some (fault 5 0 1 43)
unfolding symbols_of word_of
t9_broken = refl

-- module t; task w(); begin : x end begin : x end endtask endmodule
abbrev t10 : List Description
t10 = module_ (at 0 1 1) life.Unwritten (name (at 0 1 8) "t") None [] (items.Routine (routine (head (at 0 1 11) life.Unwritten units.Task (name (at 0 1 16) "w") []) [] (stmts.Statement (at 0 1 21) None (stmts.Block (Some (name (at 0 1 29) "x")) [] stmts.NoStmt None) ∷ stmts.Statement (at 0 1 35) None (stmts.Block (Some (name (at 0 1 43) "x")) [] stmts.NoStmt None) ∷ []) None) ∷ []) None ∷ []

t10_broken : broken t10 [] None ≡ Some (fault 5 0 1 43)
unfolding symbols_of word_of
t10_broken = refl

-- module t; initial for (int i = 0; i < 2; i++) begin : i int j; int j; end endmodule
abbrev t11 : List Description
t11 = module_ (at 0 1 1) life.Unwritten (name (at 0 1 8) "t") None [] (procedure (at 0 1 11) procedure_word.Initial (stmts.Statement (at 0 1 19) None (stmts.For (stmts.Declare (types.Atom (at 0 1 24) atom_word.Int sign.Unwritten) (name (at 0 1 28) "i") (number (at 0 1 32) "0")) (tree.Binary binary_word.Less (at 0 1 37) (plain (at 0 1 35) "i") (number (at 0 1 39) "2")) (stmts.ForStep.Step (at 0 1 42) (target (at 0 1 42) "i") step_word.Increment) (stmts.Statement (at 0 1 47) None (stmts.Block (Some (name (at 0 1 55) "i")) (decl life.Unwritten (types.Atom (at 0 1 57) atom_word.Int sign.Unwritten) (declarator (name (at 0 1 61) "j") None None ∷ []) ∷ decl life.Unwritten (types.Atom (at 0 1 64) atom_word.Int sign.Unwritten) (declarator (name (at 0 1 68) "j") None None ∷ []) ∷ []) stmts.NoStmt None)))) ∷ []) None ∷ []

t11_broken : broken t11 [] None ≡ Some (fault 5 0 1 55)
unfolding symbols_of word_of
t11_broken = refl

-- module t; initial fork : f int a; int a; join_none endmodule
abbrev t12 : List Description
t12 = module_ (at 0 1 1) life.Unwritten (name (at 0 1 8) "t") None [] (procedure (at 0 1 11) procedure_word.Initial (stmts.Statement (at 0 1 19) None (stmts.Fork (Some (name (at 0 1 26) "f")) (decl life.Unwritten (types.Atom (at 0 1 28) atom_word.Int sign.Unwritten) (declarator (name (at 0 1 32) "a") None None ∷ []) ∷ decl life.Unwritten (types.Atom (at 0 1 35) atom_word.Int sign.Unwritten) (declarator (name (at 0 1 39) "a") None None ∷ []) ∷ []) stmts.NoStmt join_word.None None)) ∷ []) None ∷ []

t12_broken : broken t12 [] None ≡ Some (fault 5 0 1 39)
unfolding symbols_of word_of
t12_broken = refl

-- module t; initial begin int k = 3; end endmodule
abbrev t13 : List Description
t13 = module_ (at 0 1 1) life.Unwritten (name (at 0 1 8) "t") None [] (procedure (at 0 1 11) procedure_word.Initial (stmts.Statement (at 0 1 19) None (stmts.Block None (decl life.Unwritten (types.Atom (at 0 1 25) atom_word.Int sign.Unwritten) (declarator (name (at 0 1 29) "k") None (Some (stmts.Value (number (at 0 1 33) "3"))) ∷ []) ∷ []) stmts.NoStmt None)) ∷ []) None ∷ []

t13_broken : broken t13 [] None ≡ Some (fault 41 0 1 33)
unfolding symbols_of word_of
t13_broken = refl

-- module t; function void f(); int k = 3; endfunction endmodule
abbrev t14 : List Description
t14 = module_ (at 0 1 1) life.Unwritten (name (at 0 1 8) "t") None [] (items.Routine (routine (head (at 0 1 11) life.Unwritten units.Void (name (at 0 1 25) "f") []) (decl life.Unwritten (types.Atom (at 0 1 30) atom_word.Int sign.Unwritten) (declarator (name (at 0 1 34) "k") None (Some (stmts.Value (number (at 0 1 38) "3"))) ∷ []) ∷ []) [] None) ∷ []) None ∷ []

t14_broken : broken t14 [] None ≡ Some (fault 41 0 1 38)
unfolding symbols_of word_of
t14_broken = refl

-- module t; initial begin automatic int k = x; end endmodule
abbrev t15 : List Description
t15 = module_ (at 0 1 1) life.Unwritten (name (at 0 1 8) "t") None [] (procedure (at 0 1 11) procedure_word.Initial (stmts.Statement (at 0 1 19) None (stmts.Block None (decl life.Automatic (types.Atom (at 0 1 35) atom_word.Int sign.Unwritten) (declarator (name (at 0 1 39) "k") None (Some (stmts.Value (plain (at 0 1 43) "x"))) ∷ []) ∷ []) stmts.NoStmt None)) ∷ []) None ∷ []

t15_broken : broken t15 [] None ≡ Some (fault 6 0 1 43)
unfolding symbols_of word_of
t15_broken = refl

-- module t; initial begin static int k = f(); end function int f(); return 1; endfunction endmodule
abbrev t16 : List Description
t16 = module_ (at 0 1 1) life.Unwritten (name (at 0 1 8) "t") None [] (procedure (at 0 1 11) procedure_word.Initial (stmts.Statement (at 0 1 19) None (stmts.Block None (decl life.Static (types.Atom (at 0 1 32) atom_word.Int sign.Unwritten) (declarator (name (at 0 1 36) "k") None (Some (stmts.Value (tree.Expr.Post (root.Plain (name (at 0 1 40) "f")) (tree.Call (at 0 1 41) tree.NoExpr tree.NoSuffix)))) ∷ []) ∷ []) stmts.NoStmt None)) ∷ items.Routine (routine (head (at 0 1 49) life.Unwritten (units.Returns.Value (types.Written (types.Atom (at 0 1 58) atom_word.Int sign.Unwritten))) (name (at 0 1 62) "f") []) [] (stmts.Statement (at 0 1 67) None (stmts.Return (Some (number (at 0 1 74) "1"))) ∷ []) None) ∷ []) None ∷ []

t16_broken : broken t16 [] None ≡ Some (fault 25 0 1 40)
unfolding symbols_of word_of
t16_broken = refl

-- module t; task automatic w(int n); static int a = n; endtask initial w(1); endmodule
abbrev t17 : List Description
t17 = module_ (at 0 1 1) life.Unwritten (name (at 0 1 8) "t") None [] (items.Routine (routine (head (at 0 1 11) life.Automatic units.Task (name (at 0 1 26) "w") (argument None (types.Written (types.Atom (at 0 1 28) atom_word.Int sign.Unwritten)) (name (at 0 1 32) "n") None ∷ [])) (decl life.Static (types.Atom (at 0 1 43) atom_word.Int sign.Unwritten) (declarator (name (at 0 1 47) "a") None (Some (stmts.Value (plain (at 0 1 51) "n"))) ∷ []) ∷ []) [] None) ∷ procedure (at 0 1 62) procedure_word.Initial (stmts.Statement (at 0 1 70) None (stmts.Call (tree.Expr.Post (root.Plain (name (at 0 1 70) "w")) (tree.Call (at 0 1 71) (expressions (number (at 0 1 72) "1" ∷ [])) tree.NoSuffix)))) ∷ []) None ∷ []

t17_broken : broken t17 [] None ≡ Some (fault 7 0 1 51)
unfolding symbols_of word_of
t17_broken = refl

-- module t; int q[$]; initial q = 3; endmodule
abbrev t18 : List Description
t18 = module_ (at 0 1 1) life.Unwritten (name (at 0 1 8) "t") None [] (items.Decl (decl life.Unwritten (types.Atom (at 0 1 11) atom_word.Int sign.Unwritten) (declarator (name (at 0 1 15) "q") (Some (stmts.Queue (at 0 1 16))) None ∷ [])) ∷ procedure (at 0 1 21) procedure_word.Initial (stmts.Statement (at 0 1 29) None (blocking (target (at 0 1 29) "q") None (stmts.Value (number (at 0 1 33) "3")))) ∷ []) None ∷ []

t18_broken : broken t18 [] None ≡ Some (fault 16 0 1 33)
unfolding symbols_of word_of
t18_broken = refl

-- module t; int q[$]; string s[$]; initial q = s; endmodule
abbrev t19 : List Description
t19 = module_ (at 0 1 1) life.Unwritten (name (at 0 1 8) "t") None [] (items.Decl (decl life.Unwritten (types.Atom (at 0 1 11) atom_word.Int sign.Unwritten) (declarator (name (at 0 1 15) "q") (Some (stmts.Queue (at 0 1 16))) None ∷ [])) ∷ items.Decl (decl life.Unwritten (types.Text (at 0 1 21)) (declarator (name (at 0 1 28) "s") (Some (stmts.Queue (at 0 1 29))) None ∷ [])) ∷ procedure (at 0 1 34) procedure_word.Initial (stmts.Statement (at 0 1 42) None (blocking (target (at 0 1 42) "q") None (stmts.Value (plain (at 0 1 46) "s")))) ∷ []) None ∷ []

t19_broken : broken t19 [] None ≡ Some (fault 16 0 1 46)
unfolding symbols_of word_of
t19_broken = refl

-- module t; int q[$]; initial q[$] = "s"; endmodule
abbrev t20 : List Description
t20 = module_ (at 0 1 1) life.Unwritten (name (at 0 1 8) "t") None [] (items.Decl (decl life.Unwritten (types.Atom (at 0 1 11) atom_word.Int sign.Unwritten) (declarator (name (at 0 1 15) "q") (Some (stmts.Queue (at 0 1 16))) None ∷ [])) ∷ procedure (at 0 1 21) procedure_word.Initial (stmts.Statement (at 0 1 29) None (blocking (tree.Lval.Post (root.Plain (name (at 0 1 29) "q")) (tree.Select (at 0 1 30) (tree.Dollar (at 0 1 31)) tree.NoSuffix)) None (stmts.Value (text (at 0 1 36) "s")))) ∷ []) None ∷ []

t20_broken : broken t20 [] None ≡ Some (fault 16 0 1 36)
unfolding symbols_of word_of
t20_broken = refl

-- module t; int q[$], x; initial x = q; endmodule
abbrev t21 : List Description
t21 = module_ (at 0 1 1) life.Unwritten (name (at 0 1 8) "t") None [] (items.Decl (decl life.Unwritten (types.Atom (at 0 1 11) atom_word.Int sign.Unwritten) (declarator (name (at 0 1 15) "q") (Some (stmts.Queue (at 0 1 16))) None ∷ declarator (name (at 0 1 21) "x") None None ∷ [])) ∷ procedure (at 0 1 24) procedure_word.Initial (stmts.Statement (at 0 1 32) None (blocking (target (at 0 1 32) "x") None (stmts.Value (plain (at 0 1 36) "q")))) ∷ []) None ∷ []

t21_broken : broken t21 [] None ≡ Some (fault 42 0 1 36)
unfolding symbols_of word_of
t21_broken = refl

-- module t; int a[3]; initial a = 3; endmodule
abbrev t22 : List Description
t22 = module_ (at 0 1 1) life.Unwritten (name (at 0 1 8) "t") None [] (items.Decl (decl life.Unwritten (types.Atom (at 0 1 11) atom_word.Int sign.Unwritten) (declarator (name (at 0 1 15) "a") (Some (stmts.Size (at 0 1 16) (number (at 0 1 17) "3"))) None ∷ [])) ∷ procedure (at 0 1 21) procedure_word.Initial (stmts.Statement (at 0 1 29) None (blocking (target (at 0 1 29) "a") None (stmts.Value (number (at 0 1 33) "3")))) ∷ []) None ∷ []

t22_broken : broken t22 [] None ≡ Some (fault 42 0 1 29)
unfolding symbols_of word_of
t22_broken = refl

-- module t; int a[3], x; initial x = a; endmodule
abbrev t23 : List Description
t23 = module_ (at 0 1 1) life.Unwritten (name (at 0 1 8) "t") None [] (items.Decl (decl life.Unwritten (types.Atom (at 0 1 11) atom_word.Int sign.Unwritten) (declarator (name (at 0 1 15) "a") (Some (stmts.Size (at 0 1 16) (number (at 0 1 17) "3"))) None ∷ declarator (name (at 0 1 21) "x") None None ∷ [])) ∷ procedure (at 0 1 24) procedure_word.Initial (stmts.Statement (at 0 1 32) None (blocking (target (at 0 1 32) "x") None (stmts.Value (plain (at 0 1 36) "a")))) ∷ []) None ∷ []

t23_broken : broken t23 [] None ≡ Some (fault 42 0 1 36)
unfolding symbols_of word_of
t23_broken = refl

-- module t; int a[3] = 0; endmodule
abbrev t24 : List Description
t24 = module_ (at 0 1 1) life.Unwritten (name (at 0 1 8) "t") None [] (items.Decl (decl life.Unwritten (types.Atom (at 0 1 11) atom_word.Int sign.Unwritten) (declarator (name (at 0 1 15) "a") (Some (stmts.Size (at 0 1 16) (number (at 0 1 17) "3"))) (Some (stmts.Value (number (at 0 1 22) "0"))) ∷ [])) ∷ []) None ∷ []

t24_broken : broken t24 [] None ≡ Some (fault 42 0 1 15)
unfolding symbols_of word_of
t24_broken = refl

-- module t; int a[1'bx:2]; endmodule
abbrev t25 : List Description
t25 = module_ (at 0 1 1) life.Unwritten (name (at 0 1 8) "t") None [] (items.Decl (decl life.Unwritten (types.Atom (at 0 1 11) atom_word.Int sign.Unwritten) (declarator (name (at 0 1 15) "a") (Some (stmts.Bounds (range (at 0 1 16) (number (at 0 1 17) "1'bx") (number (at 0 1 22) "2")))) None ∷ [])) ∷ []) None ∷ []

t25_broken : broken t25 [] None ≡ Some (fault 12 0 1 17)
unfolding symbols_of word_of
t25_broken = refl

-- module t; event a[2]; endmodule
abbrev t26 : List Description
t26 = module_ (at 0 1 1) life.Unwritten (name (at 0 1 8) "t") None [] (items.Decl (decl life.Unwritten (types.Event (at 0 1 11)) (declarator (name (at 0 1 17) "a") (Some (stmts.Size (at 0 1 18) (number (at 0 1 19) "2"))) None ∷ [])) ∷ []) None ∷ []

t26_broken : broken t26 [] None ≡ Some (fault 43 0 1 11)
unfolding symbols_of word_of
t26_broken = refl

-- module t; event q[$]; endmodule
abbrev t27 : List Description
t27 = module_ (at 0 1 1) life.Unwritten (name (at 0 1 8) "t") None [] (items.Decl (decl life.Unwritten (types.Event (at 0 1 11)) (declarator (name (at 0 1 17) "q") (Some (stmts.Queue (at 0 1 18))) None ∷ [])) ∷ []) None ∷ []

t27_broken : broken t27 [] None ≡ Some (fault 43 0 1 11)
unfolding symbols_of word_of
t27_broken = refl

-- module t; int a[event]; endmodule
abbrev t28 : List Description
t28 = module_ (at 0 1 1) life.Unwritten (name (at 0 1 8) "t") None [] (items.Decl (decl life.Unwritten (types.Atom (at 0 1 11) atom_word.Int sign.Unwritten) (declarator (name (at 0 1 15) "a") (Some (stmts.Key (at 0 1 16) (types.Event (at 0 1 17)))) None ∷ [])) ∷ []) None ∷ []

t28_broken : broken t28 [] None ≡ Some (fault 43 0 1 17)
unfolding symbols_of word_of
t28_broken = refl

-- module t; class C; endclass int a[C]; endmodule
abbrev t29 : List Description
t29 = module_ (at 0 1 1) life.Unwritten (name (at 0 1 8) "t") None [] (items.Class (class_ (at 0 1 11) false (name (at 0 1 17) "C") None [] None) ∷ items.Decl (decl life.Unwritten (types.Atom (at 0 1 29) atom_word.Int sign.Unwritten) (declarator (name (at 0 1 33) "a") (Some (stmts.Dimension.Named (at 0 1 34) (name (at 0 1 35) "C"))) None ∷ [])) ∷ []) None ∷ []

t29_broken : broken t29 [] None ≡ Some (fault 43 0 1 35)
unfolding symbols_of word_of
t29_broken = refl

-- module t; typedef int w; int a[w]; initial a["x"] = 1; endmodule
abbrev t30 : List Description
t30 = module_ (at 0 1 1) life.Unwritten (name (at 0 1 8) "t") None [] (items.Typedef (typedef (types.Atom (at 0 1 19) atom_word.Int sign.Unwritten) (name (at 0 1 23) "w")) ∷ items.Decl (decl life.Unwritten (types.Atom (at 0 1 26) atom_word.Int sign.Unwritten) (declarator (name (at 0 1 30) "a") (Some (stmts.Dimension.Named (at 0 1 31) (name (at 0 1 32) "w"))) None ∷ [])) ∷ procedure (at 0 1 36) procedure_word.Initial (stmts.Statement (at 0 1 44) None (blocking (tree.Lval.Post (root.Plain (name (at 0 1 44) "a")) (tree.Select (at 0 1 45) (text (at 0 1 46) "x") tree.NoSuffix)) None (stmts.Value (number (at 0 1 53) "1")))) ∷ []) None ∷ []

t30_broken : broken t30 [] None ≡ Some (fault 42 0 1 46)
unfolding symbols_of word_of
t30_broken = refl

-- module t; int a[string]; initial a[3] = 1; endmodule
abbrev t31 : List Description
t31 = module_ (at 0 1 1) life.Unwritten (name (at 0 1 8) "t") None [] (items.Decl (decl life.Unwritten (types.Atom (at 0 1 11) atom_word.Int sign.Unwritten) (declarator (name (at 0 1 15) "a") (Some (stmts.Key (at 0 1 16) (types.Text (at 0 1 17)))) None ∷ [])) ∷ procedure (at 0 1 26) procedure_word.Initial (stmts.Statement (at 0 1 34) None (blocking (tree.Lval.Post (root.Plain (name (at 0 1 34) "a")) (tree.Select (at 0 1 35) (number (at 0 1 36) "3") tree.NoSuffix)) None (stmts.Value (number (at 0 1 41) "1")))) ∷ []) None ∷ []

t31_broken : broken t31 [] None ≡ Some (fault 42 0 1 36)
unfolding symbols_of word_of
t31_broken = refl

-- module t; typedef enum {A, B} e; int m[e]; initial begin m[A] = 1; m[1] = 2; end endmodule
abbrev t32 : List Description
t32 = module_ (at 0 1 1) life.Unwritten (name (at 0 1 8) "t") None [] (items.Typedef (typedef (types.Enum (at 0 1 19) (enum_item (name (at 0 1 25) "A") None ∷ enum_item (name (at 0 1 28) "B") None ∷ [])) (name (at 0 1 31) "e")) ∷ items.Decl (decl life.Unwritten (types.Atom (at 0 1 34) atom_word.Int sign.Unwritten) (declarator (name (at 0 1 38) "m") (Some (stmts.Dimension.Named (at 0 1 39) (name (at 0 1 40) "e"))) None ∷ [])) ∷ procedure (at 0 1 44) procedure_word.Initial (stmts.Statement (at 0 1 52) None (stmts.Block None [] (statements (stmts.Statement (at 0 1 58) None (blocking (tree.Lval.Post (root.Plain (name (at 0 1 58) "m")) (tree.Select (at 0 1 59) (plain (at 0 1 60) "A") tree.NoSuffix)) None (stmts.Value (number (at 0 1 65) "1"))) ∷ stmts.Statement (at 0 1 68) None (blocking (tree.Lval.Post (root.Plain (name (at 0 1 68) "m")) (tree.Select (at 0 1 69) (number (at 0 1 70) "1") tree.NoSuffix)) None (stmts.Value (number (at 0 1 75) "2"))) ∷ [])) None)) ∷ []) None ∷ []

t32_broken : broken t32 [] None ≡ Some (fault 17 0 1 70)
unfolding symbols_of word_of
t32_broken = refl

-- module t; int a; initial a = a[0][1]; endmodule
abbrev t33 : List Description
t33 = module_ (at 0 1 1) life.Unwritten (name (at 0 1 8) "t") None [] (items.Decl (decl life.Unwritten (types.Atom (at 0 1 11) atom_word.Int sign.Unwritten) (declarator (name (at 0 1 15) "a") None None ∷ [])) ∷ procedure (at 0 1 18) procedure_word.Initial (stmts.Statement (at 0 1 26) None (blocking (target (at 0 1 26) "a") None (stmts.Value (tree.Expr.Post (root.Plain (name (at 0 1 30) "a")) (tree.Select (at 0 1 31) (number (at 0 1 32) "0") (tree.Select (at 0 1 34) (number (at 0 1 35) "1") tree.NoSuffix)))))) ∷ []) None ∷ []

t33_broken : broken t33 [] None ≡ Some (fault 14 0 1 34)
unfolding symbols_of word_of
t33_broken = refl

-- module t; logic [7:0] a; initial a[7:4][1] = 1; endmodule
abbrev t34 : List Description
t34 = module_ (at 0 1 1) life.Unwritten (name (at 0 1 8) "t") None [] (items.Decl (decl life.Unwritten (types.WrittenType.Vector (at 0 1 11) vector_word.Logic sign.Unwritten (Some (range (at 0 1 17) (number (at 0 1 18) "7") (number (at 0 1 20) "0")))) (declarator (name (at 0 1 23) "a") None None ∷ [])) ∷ procedure (at 0 1 26) procedure_word.Initial (stmts.Statement (at 0 1 34) None (blocking (tree.Lval.Post (root.Plain (name (at 0 1 34) "a")) (tree.Part (at 0 1 35) part_word.Fixed (number (at 0 1 36) "7") (number (at 0 1 38) "4") (tree.Select (at 0 1 40) (number (at 0 1 41) "1") tree.NoSuffix))) None (stmts.Value (number (at 0 1 46) "1")))) ∷ []) None ∷ []

t34_broken : broken t34 [] None ≡ Some (fault 14 0 1 40)
unfolding symbols_of word_of
t34_broken = refl

-- module t; int q[$]; initial q[1:2] = 3; endmodule
abbrev t35 : List Description
t35 = module_ (at 0 1 1) life.Unwritten (name (at 0 1 8) "t") None [] (items.Decl (decl life.Unwritten (types.Atom (at 0 1 11) atom_word.Int sign.Unwritten) (declarator (name (at 0 1 15) "q") (Some (stmts.Queue (at 0 1 16))) None ∷ [])) ∷ procedure (at 0 1 21) procedure_word.Initial (stmts.Statement (at 0 1 29) None (blocking (tree.Lval.Post (root.Plain (name (at 0 1 29) "q")) (tree.Part (at 0 1 30) part_word.Fixed (number (at 0 1 31) "1") (number (at 0 1 33) "2") tree.NoSuffix)) None (stmts.Value (number (at 0 1 38) "3")))) ∷ []) None ∷ []

t35_broken : broken t35 [] None ≡ Some (fault 14 0 1 30)
unfolding symbols_of word_of
t35_broken = refl

-- module t; int x; initial x = $; endmodule
abbrev t36 : List Description
t36 = module_ (at 0 1 1) life.Unwritten (name (at 0 1 8) "t") None [] (items.Decl (decl life.Unwritten (types.Atom (at 0 1 11) atom_word.Int sign.Unwritten) (declarator (name (at 0 1 15) "x") None None ∷ [])) ∷ procedure (at 0 1 18) procedure_word.Initial (stmts.Statement (at 0 1 26) None (blocking (target (at 0 1 26) "x") None (stmts.Value (tree.Dollar (at 0 1 30))))) ∷ []) None ∷ []

t36_broken : broken t36 [] None ≡ Some (fault 7 0 1 30)
unfolding symbols_of word_of
t36_broken = refl

-- module t; int d[]; initial d[$] = 1; endmodule
abbrev t37 : List Description
t37 = module_ (at 0 1 1) life.Unwritten (name (at 0 1 8) "t") None [] (items.Decl (decl life.Unwritten (types.Atom (at 0 1 11) atom_word.Int sign.Unwritten) (declarator (name (at 0 1 15) "d") (Some (stmts.Empty (at 0 1 16))) None ∷ [])) ∷ procedure (at 0 1 20) procedure_word.Initial (stmts.Statement (at 0 1 28) None (blocking (tree.Lval.Post (root.Plain (name (at 0 1 28) "d")) (tree.Select (at 0 1 29) (tree.Dollar (at 0 1 30)) tree.NoSuffix)) None (stmts.Value (number (at 0 1 35) "1")))) ∷ []) None ∷ []

t37_broken : broken t37 [] None ≡ Some (fault 7 0 1 30)
unfolding symbols_of word_of
t37_broken = refl

-- module t; int q[$]; initial q[q[$]] = $; endmodule
abbrev t38 : List Description
t38 = module_ (at 0 1 1) life.Unwritten (name (at 0 1 8) "t") None [] (items.Decl (decl life.Unwritten (types.Atom (at 0 1 11) atom_word.Int sign.Unwritten) (declarator (name (at 0 1 15) "q") (Some (stmts.Queue (at 0 1 16))) None ∷ [])) ∷ procedure (at 0 1 21) procedure_word.Initial (stmts.Statement (at 0 1 29) None (blocking (tree.Lval.Post (root.Plain (name (at 0 1 29) "q")) (tree.Select (at 0 1 30) (tree.Expr.Post (root.Plain (name (at 0 1 31) "q")) (tree.Select (at 0 1 32) (tree.Dollar (at 0 1 33)) tree.NoSuffix)) tree.NoSuffix)) None (stmts.Value (tree.Dollar (at 0 1 39))))) ∷ []) None ∷ []

t38_broken : broken t38 [] None ≡ Some (fault 7 0 1 39)
unfolding symbols_of word_of
t38_broken = refl
