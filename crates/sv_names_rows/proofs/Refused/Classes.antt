-- Texts that break a rule, or come close to it: classes, their members and handles.
use Rattle.std.proofs.Common.{◌≡◌, List, [], ◌∷◌, true, false, refl}
use Rattle.std.specs.Prelude.{Some, None}
use Rattle.sv_value.specs.Vector.{symbols_of, word_of}
use Rattle.sv_value.specs.declared.place.FaultKind.TheVariants as kind
use Rattle.sv_flat.specs.declared.choices.Choices.TheVariants.{Listed}
use Rattle.sv_flat.specs.Directed.{Faulted}
use Rattle.sv_tree.specs.declared.word.BinaryWord.TheVariants as binary_word
use Rattle.sv_tree.specs.declared.word.AtomWord.TheVariants as atom_word
use Rattle.sv_tree.specs.declared.word.Sign.TheVariants as sign
use Rattle.sv_tree.specs.declared.word.Life.TheVariants as life
use Rattle.sv_tree.specs.declared.word.ProcedureWord.TheVariants as procedure_word
use Rattle.sv_tree.specs.declared.word.Direction.TheVariants as direction
use Rattle.sv_tree.specs.declared.expr.Root.TheVariants as root
use Rattle.sv_tree.specs.Expr as tree
use Rattle.sv_tree.specs.Types as types
use Rattle.sv_tree.specs.Stmt as stmts
use Rattle.sv_tree.specs.Units as units
use Rattle.sv_tree.specs.Items as items
use Rattle.sv_tree.specs.Descriptions as descriptions
use Rattle.sv_tree.specs.Descriptions.{Description}
use Rattle.sv_names.specs.Design.{broken, elaborated}
use Rattle.sv_names_rows.proofs.Kit.{argument, at, blocking, class_, decl, declarator, expressions, fault, head, lines, method, module_, name, number, plain, procedure, property, pure_method, qualifiers, routine, seen_in, system, target, unqualified, Ran}

-- module t; class C; endclass C c = new; endmodule
abbrev t1 : List Description
t1 = module_ (at 0 1 1) life.Unwritten (name (at 0 1 8) "t") None [] (items.Class (class_ (at 0 1 11) false (name (at 0 1 17) "C") None [] None) ∷ items.Decl (decl life.Unwritten (types.Named (name (at 0 1 29) "C")) (declarator (name (at 0 1 31) "c") None (Some (stmts.New (at 0 1 35) tree.Unwritten)) ∷ [])) ∷ []) None ∷ []

t1_broken : broken t1 [] None ≡ Some (fault 25 0 1 35)
unfolding symbols_of word_of
t1_broken = refl

-- module t; class C; endclass C c; initial c = new(3); endmodule
abbrev t2 : List Description
t2 = module_ (at 0 1 1) life.Unwritten (name (at 0 1 8) "t") None [] (items.Class (class_ (at 0 1 11) false (name (at 0 1 17) "C") None [] None) ∷ items.Decl (decl life.Unwritten (types.Named (name (at 0 1 29) "C")) (declarator (name (at 0 1 31) "c") None None ∷ [])) ∷ procedure (at 0 1 34) procedure_word.Initial (stmts.Statement (at 0 1 42) None (blocking (target (at 0 1 42) "c") None (stmts.New (at 0 1 46) (tree.Written (expressions (number (at 0 1 50) "3" ∷ [])))))) ∷ []) None ∷ []

t2_broken : broken t2 [] None ≡ Some (fault 31 0 1 46)
unfolding symbols_of word_of
t2_broken = refl

-- module t; class C; function new(int x); endfunction endclass C c; initial c = new; endmodule
abbrev t3 : List Description
t3 = module_ (at 0 1 1) life.Unwritten (name (at 0 1 8) "t") None [] (items.Class (class_ (at 0 1 11) false (name (at 0 1 17) "C") None (method unqualified (routine (head (at 0 1 20) life.Unwritten (units.Returns.Value types.Unwritten) (name (at 0 1 29) "new") (argument None (types.Written (types.Atom (at 0 1 33) atom_word.Int sign.Unwritten)) (name (at 0 1 37) "x") None ∷ [])) [] [] None) ∷ []) None) ∷ items.Decl (decl life.Unwritten (types.Named (name (at 0 1 62) "C")) (declarator (name (at 0 1 64) "c") None None ∷ [])) ∷ procedure (at 0 1 67) procedure_word.Initial (stmts.Statement (at 0 1 75) None (blocking (target (at 0 1 75) "c") None (stmts.New (at 0 1 79) tree.Unwritten))) ∷ []) None ∷ []

t3_broken : broken t3 [] None ≡ Some (fault 31 0 1 79)
unfolding symbols_of word_of
t3_broken = refl

-- module t; class C; local function new(); endfunction endclass C c; initial c = new; endmodule
abbrev t4 : List Description
t4 = module_ (at 0 1 1) life.Unwritten (name (at 0 1 8) "t") None [] (items.Class (class_ (at 0 1 11) false (name (at 0 1 17) "C") None (method (qualifiers true false false false) (routine (head (at 0 1 26) life.Unwritten (units.Returns.Value types.Unwritten) (name (at 0 1 35) "new") []) [] [] None) ∷ []) None) ∷ items.Decl (decl life.Unwritten (types.Named (name (at 0 1 63) "C")) (declarator (name (at 0 1 65) "c") None None ∷ [])) ∷ procedure (at 0 1 68) procedure_word.Initial (stmts.Statement (at 0 1 76) None (blocking (target (at 0 1 76) "c") None (stmts.New (at 0 1 80) tree.Unwritten))) ∷ []) None ∷ []

t4_broken : broken t4 [] None ≡ Some (fault 37 0 1 80)
unfolding symbols_of word_of
t4_broken = refl

-- module t; virtual class C; endclass C c; initial c = new; endmodule
abbrev t5 : List Description
t5 = module_ (at 0 1 1) life.Unwritten (name (at 0 1 8) "t") None [] (items.Class (class_ (at 0 1 11) true (name (at 0 1 25) "C") None [] None) ∷ items.Decl (decl life.Unwritten (types.Named (name (at 0 1 37) "C")) (declarator (name (at 0 1 39) "c") None None ∷ [])) ∷ procedure (at 0 1 42) procedure_word.Initial (stmts.Statement (at 0 1 50) None (blocking (target (at 0 1 50) "c") None (stmts.New (at 0 1 54) tree.Unwritten))) ∷ []) None ∷ []

t5_broken : broken t5 [] None ≡ Some (fault 35 0 1 54)
unfolding symbols_of word_of
t5_broken = refl

-- module t; class C; pure virtual function int f(); endclass endmodule
abbrev t6 : List Description
t6 = module_ (at 0 1 1) life.Unwritten (name (at 0 1 8) "t") None [] (items.Class (class_ (at 0 1 11) false (name (at 0 1 17) "C") None (pure_method (at 0 1 20) (head (at 0 1 33) life.Unwritten (units.Returns.Value (types.Written (types.Atom (at 0 1 42) atom_word.Int sign.Unwritten))) (name (at 0 1 46) "f") []) ∷ []) None) ∷ []) None ∷ []

t6_broken : broken t6 [] None ≡ Some (fault 35 0 1 17)
unfolding symbols_of word_of
t6_broken = refl

-- virtual class S; pure virtual function int f(); endclass class R extends S; endclass module t; endmodule
abbrev t7 : List Description
t7 = descriptions.Item (items.Class (class_ (at 0 1 1) true (name (at 0 1 15) "S") None (pure_method (at 0 1 18) (head (at 0 1 31) life.Unwritten (units.Returns.Value (types.Written (types.Atom (at 0 1 40) atom_word.Int sign.Unwritten))) (name (at 0 1 44) "f") []) ∷ []) None)) ∷ descriptions.Item (items.Class (class_ (at 0 1 58) false (name (at 0 1 64) "R") (Some (name (at 0 1 74) "S")) [] None)) ∷ module_ (at 0 1 86) life.Unwritten (name (at 0 1 93) "t") None [] [] None ∷ []

t7_broken : broken t7 [] None ≡ Some (fault 35 0 1 64)
unfolding symbols_of word_of
t7_broken = refl

-- class A; virtual function int f(int x); return 1; endfunction endclass class B extends A; virtual function int f(byte x); return 1; endfunction endclass module t; endmodule
abbrev t8 : List Description
t8 = descriptions.Item (items.Class (class_ (at 0 1 1) false (name (at 0 1 7) "A") None (method (qualifiers false false false true) (routine (head (at 0 1 18) life.Unwritten (units.Returns.Value (types.Written (types.Atom (at 0 1 27) atom_word.Int sign.Unwritten))) (name (at 0 1 31) "f") (argument None (types.Written (types.Atom (at 0 1 33) atom_word.Int sign.Unwritten)) (name (at 0 1 37) "x") None ∷ [])) [] (stmts.Statement (at 0 1 41) None (stmts.Return (Some (number (at 0 1 48) "1"))) ∷ []) None) ∷ []) None)) ∷ descriptions.Item (items.Class (class_ (at 0 1 72) false (name (at 0 1 78) "B") (Some (name (at 0 1 88) "A")) (method (qualifiers false false false true) (routine (head (at 0 1 99) life.Unwritten (units.Returns.Value (types.Written (types.Atom (at 0 1 108) atom_word.Int sign.Unwritten))) (name (at 0 1 112) "f") (argument None (types.Written (types.Atom (at 0 1 114) atom_word.Byte sign.Unwritten)) (name (at 0 1 119) "x") None ∷ [])) [] (stmts.Statement (at 0 1 123) None (stmts.Return (Some (number (at 0 1 130) "1"))) ∷ []) None) ∷ []) None)) ∷ module_ (at 0 1 154) life.Unwritten (name (at 0 1 161) "t") None [] [] None ∷ []

t8_broken : broken t8 [] None ≡ Some (fault 34 0 1 112)
unfolding symbols_of word_of
t8_broken = refl

-- class A; virtual task f(); endtask endclass class B extends A; function void f(); endfunction endclass module t; endmodule
abbrev t9 : List Description
t9 = descriptions.Item (items.Class (class_ (at 0 1 1) false (name (at 0 1 7) "A") None (method (qualifiers false false false true) (routine (head (at 0 1 18) life.Unwritten units.Task (name (at 0 1 23) "f") []) [] [] None) ∷ []) None)) ∷ descriptions.Item (items.Class (class_ (at 0 1 45) false (name (at 0 1 51) "B") (Some (name (at 0 1 61) "A")) (method unqualified (routine (head (at 0 1 64) life.Unwritten units.Void (name (at 0 1 78) "f") []) [] [] None) ∷ []) None)) ∷ module_ (at 0 1 104) life.Unwritten (name (at 0 1 111) "t") None [] [] None ∷ []

t9_broken : broken t9 [] None ≡ Some (fault 34 0 1 78)
unfolding symbols_of word_of
t9_broken = refl

-- class A; virtual function int f(output int x); endfunction endclass class B extends A; function int f(input int x); endfunction endclass module t; endmodule
abbrev t10 : List Description
t10 = descriptions.Item (items.Class (class_ (at 0 1 1) false (name (at 0 1 7) "A") None (method (qualifiers false false false true) (routine (head (at 0 1 18) life.Unwritten (units.Returns.Value (types.Written (types.Atom (at 0 1 27) atom_word.Int sign.Unwritten))) (name (at 0 1 31) "f") (argument (Some direction.Output) (types.Written (types.Atom (at 0 1 40) atom_word.Int sign.Unwritten)) (name (at 0 1 44) "x") None ∷ [])) [] [] None) ∷ []) None)) ∷ descriptions.Item (items.Class (class_ (at 0 1 69) false (name (at 0 1 75) "B") (Some (name (at 0 1 85) "A")) (method unqualified (routine (head (at 0 1 88) life.Unwritten (units.Returns.Value (types.Written (types.Atom (at 0 1 97) atom_word.Int sign.Unwritten))) (name (at 0 1 101) "f") (argument (Some direction.Input) (types.Written (types.Atom (at 0 1 109) atom_word.Int sign.Unwritten)) (name (at 0 1 113) "x") None ∷ [])) [] [] None) ∷ []) None)) ∷ module_ (at 0 1 138) life.Unwritten (name (at 0 1 145) "t") None [] [] None ∷ []

t10_broken : broken t10 [] None ≡ Some (fault 34 0 1 101)
unfolding symbols_of word_of
t10_broken = refl

-- class A extends A; endclass module t; endmodule
abbrev t11 : List Description
t11 = descriptions.Item (items.Class (class_ (at 0 1 1) false (name (at 0 1 7) "A") (Some (name (at 0 1 17) "A")) [] None)) ∷ module_ (at 0 1 29) life.Unwritten (name (at 0 1 36) "t") None [] [] None ∷ []

t11_broken : broken t11 [] None ≡ Some (fault 33 0 1 17)
unfolding symbols_of word_of
t11_broken = refl

-- class A extends B; endclass class B extends C; endclass class C extends A; endclass module t; endmodule
abbrev t12 : List Description
t12 = descriptions.Item (items.Class (class_ (at 0 1 1) false (name (at 0 1 7) "A") (Some (name (at 0 1 17) "B")) [] None)) ∷ descriptions.Item (items.Class (class_ (at 0 1 29) false (name (at 0 1 35) "B") (Some (name (at 0 1 45) "C")) [] None)) ∷ descriptions.Item (items.Class (class_ (at 0 1 57) false (name (at 0 1 63) "C") (Some (name (at 0 1 73) "A")) [] None)) ∷ module_ (at 0 1 85) life.Unwritten (name (at 0 1 92) "t") None [] [] None ∷ []

t12_broken : broken t12 [] None ≡ Some (fault 33 0 1 17)
unfolding symbols_of word_of
t12_broken = refl

-- class A extends t; endclass module t; endmodule
abbrev t13 : List Description
t13 = descriptions.Item (items.Class (class_ (at 0 1 1) false (name (at 0 1 7) "A") (Some (name (at 0 1 17) "t")) [] None)) ∷ module_ (at 0 1 29) life.Unwritten (name (at 0 1 36) "t") None [] [] None ∷ []

t13_broken : broken t13 [] None ≡ Some (fault 33 0 1 17)
unfolding symbols_of word_of
t13_broken = refl

-- class A extends Z; endclass module t; endmodule
abbrev t14 : List Description
t14 = descriptions.Item (items.Class (class_ (at 0 1 1) false (name (at 0 1 7) "A") (Some (name (at 0 1 17) "Z")) [] None)) ∷ module_ (at 0 1 29) life.Unwritten (name (at 0 1 36) "t") None [] [] None ∷ []

t14_broken : broken t14 [] None ≡ Some (fault 6 0 1 17)
unfolding symbols_of word_of
t14_broken = refl

-- module t; class A; local int x; protected int y; endclass A a; initial a.x = 1; endmodule
abbrev t15 : List Description
t15 = module_ (at 0 1 1) life.Unwritten (name (at 0 1 8) "t") None [] (items.Class (class_ (at 0 1 11) false (name (at 0 1 17) "A") None (property (qualifiers true false false false) (decl life.Unwritten (types.Atom (at 0 1 26) atom_word.Int sign.Unwritten) (declarator (name (at 0 1 30) "x") None None ∷ [])) ∷ property (qualifiers false true false false) (decl life.Unwritten (types.Atom (at 0 1 43) atom_word.Int sign.Unwritten) (declarator (name (at 0 1 47) "y") None None ∷ [])) ∷ []) None) ∷ items.Decl (decl life.Unwritten (types.Named (name (at 0 1 59) "A")) (declarator (name (at 0 1 61) "a") None None ∷ [])) ∷ procedure (at 0 1 64) procedure_word.Initial (stmts.Statement (at 0 1 72) None (blocking (tree.Lval.Post (root.Plain (name (at 0 1 72) "a")) (tree.Member (name (at 0 1 74) "x") tree.NoSuffix)) None (stmts.Value (number (at 0 1 78) "1")))) ∷ []) None ∷ []

t15_broken : broken t15 [] None ≡ Some (fault 37 0 1 74)
unfolding symbols_of word_of
t15_broken = refl

-- module t; class A; protected int y; endclass class B extends A; function void f(); y = 1; endfunction endclass B b; initial b.y = 2; endmodule
abbrev t16 : List Description
t16 = module_ (at 0 1 1) life.Unwritten (name (at 0 1 8) "t") None [] (items.Class (class_ (at 0 1 11) false (name (at 0 1 17) "A") None (property (qualifiers false true false false) (decl life.Unwritten (types.Atom (at 0 1 30) atom_word.Int sign.Unwritten) (declarator (name (at 0 1 34) "y") None None ∷ [])) ∷ []) None) ∷ items.Class (class_ (at 0 1 46) false (name (at 0 1 52) "B") (Some (name (at 0 1 62) "A")) (method unqualified (routine (head (at 0 1 65) life.Unwritten units.Void (name (at 0 1 79) "f") []) [] (stmts.Statement (at 0 1 84) None (blocking (target (at 0 1 84) "y") None (stmts.Value (number (at 0 1 88) "1"))) ∷ []) None) ∷ []) None) ∷ items.Decl (decl life.Unwritten (types.Named (name (at 0 1 112) "B")) (declarator (name (at 0 1 114) "b") None None ∷ [])) ∷ procedure (at 0 1 117) procedure_word.Initial (stmts.Statement (at 0 1 125) None (blocking (tree.Lval.Post (root.Plain (name (at 0 1 125) "b")) (tree.Member (name (at 0 1 127) "y") tree.NoSuffix)) None (stmts.Value (number (at 0 1 131) "2")))) ∷ []) None ∷ []

t16_broken : broken t16 [] None ≡ Some (fault 37 0 1 127)
unfolding symbols_of word_of
t16_broken = refl

-- module t; class A; local int x; endclass class B extends A; function void f(); x = 1; endfunction endclass endmodule
abbrev t17 : List Description
t17 = module_ (at 0 1 1) life.Unwritten (name (at 0 1 8) "t") None [] (items.Class (class_ (at 0 1 11) false (name (at 0 1 17) "A") None (property (qualifiers true false false false) (decl life.Unwritten (types.Atom (at 0 1 26) atom_word.Int sign.Unwritten) (declarator (name (at 0 1 30) "x") None None ∷ [])) ∷ []) None) ∷ items.Class (class_ (at 0 1 42) false (name (at 0 1 48) "B") (Some (name (at 0 1 58) "A")) (method unqualified (routine (head (at 0 1 61) life.Unwritten units.Void (name (at 0 1 75) "f") []) [] (stmts.Statement (at 0 1 80) None (blocking (target (at 0 1 80) "x") None (stmts.Value (number (at 0 1 84) "1"))) ∷ []) None) ∷ []) None) ∷ []) None ∷ []

t17_broken : broken t17 [] None ≡ Some (fault 37 0 1 80)
unfolding symbols_of word_of
t17_broken = refl

-- module t; class A; protected static function void f(); endfunction endclass initial A::f(); endmodule
abbrev t18 : List Description
t18 = module_ (at 0 1 1) life.Unwritten (name (at 0 1 8) "t") None [] (items.Class (class_ (at 0 1 11) false (name (at 0 1 17) "A") None (method (qualifiers false true true false) (routine (head (at 0 1 37) life.Unwritten units.Void (name (at 0 1 51) "f") []) [] [] None) ∷ []) None) ∷ procedure (at 0 1 77) procedure_word.Initial (stmts.Statement (at 0 1 85) None (stmts.Call (tree.Expr.Post (root.Scoped (name (at 0 1 85) "A") (name (at 0 1 88) "f")) (tree.Call (at 0 1 89) tree.NoExpr tree.NoSuffix)))) ∷ []) None ∷ []

t18_broken : broken t18 [] None ≡ Some (fault 37 0 1 88)
unfolding symbols_of word_of
t18_broken = refl

-- module t; class A; function void f(); super.g(); endfunction endclass endmodule
abbrev t19 : List Description
t19 = module_ (at 0 1 1) life.Unwritten (name (at 0 1 8) "t") None [] (items.Class (class_ (at 0 1 11) false (name (at 0 1 17) "A") None (method unqualified (routine (head (at 0 1 20) life.Unwritten units.Void (name (at 0 1 34) "f") []) [] (stmts.Statement (at 0 1 39) None (stmts.Call (tree.Expr.Post (root.Super (at 0 1 39) (name (at 0 1 45) "g")) (tree.Call (at 0 1 46) tree.NoExpr tree.NoSuffix))) ∷ []) None) ∷ []) None) ∷ []) None ∷ []

t19_broken : broken t19 [] None ≡ Some (fault 38 0 1 39)
unfolding symbols_of word_of
t19_broken = refl

-- module t; class A; endclass class B extends A; function void f(); super.g(); endfunction endclass endmodule
abbrev t20 : List Description
t20 = module_ (at 0 1 1) life.Unwritten (name (at 0 1 8) "t") None [] (items.Class (class_ (at 0 1 11) false (name (at 0 1 17) "A") None [] None) ∷ items.Class (class_ (at 0 1 29) false (name (at 0 1 35) "B") (Some (name (at 0 1 45) "A")) (method unqualified (routine (head (at 0 1 48) life.Unwritten units.Void (name (at 0 1 62) "f") []) [] (stmts.Statement (at 0 1 67) None (stmts.Call (tree.Expr.Post (root.Super (at 0 1 67) (name (at 0 1 73) "g")) (tree.Call (at 0 1 74) tree.NoExpr tree.NoSuffix))) ∷ []) None) ∷ []) None) ∷ []) None ∷ []

t20_broken : broken t20 [] None ≡ Some (fault 36 0 1 73)
unfolding symbols_of word_of
t20_broken = refl

-- module t; class A; function void f(); super.new(); endfunction endclass endmodule
abbrev t21 : List Description
t21 = module_ (at 0 1 1) life.Unwritten (name (at 0 1 8) "t") None [] (items.Class (class_ (at 0 1 11) false (name (at 0 1 17) "A") None (method unqualified (routine (head (at 0 1 20) life.Unwritten units.Void (name (at 0 1 34) "f") []) [] (stmts.Statement (at 0 1 39) None (stmts.Call (tree.SuperNew (at 0 1 39) (at 0 1 45) (tree.Written tree.NoExpr))) ∷ []) None) ∷ []) None) ∷ []) None ∷ []

t21_broken : broken t21 [] None ≡ Some (fault 38 0 1 39)
unfolding symbols_of word_of
t21_broken = refl

-- module t; class A; endclass class B extends A; function new(); int x; x = 1; super.new(); endfunction endclass endmodule
abbrev t22 : List Description
t22 = module_ (at 0 1 1) life.Unwritten (name (at 0 1 8) "t") None [] (items.Class (class_ (at 0 1 11) false (name (at 0 1 17) "A") None [] None) ∷ items.Class (class_ (at 0 1 29) false (name (at 0 1 35) "B") (Some (name (at 0 1 45) "A")) (method unqualified (routine (head (at 0 1 48) life.Unwritten (units.Returns.Value types.Unwritten) (name (at 0 1 57) "new") []) (decl life.Unwritten (types.Atom (at 0 1 64) atom_word.Int sign.Unwritten) (declarator (name (at 0 1 68) "x") None None ∷ []) ∷ []) (stmts.Statement (at 0 1 71) None (blocking (target (at 0 1 71) "x") None (stmts.Value (number (at 0 1 75) "1"))) ∷ stmts.Statement (at 0 1 78) None (stmts.Call (tree.SuperNew (at 0 1 78) (at 0 1 84) (tree.Written tree.NoExpr))) ∷ []) None) ∷ []) None) ∷ []) None ∷ []

t22_broken : broken t22 [] None ≡ Some (fault 38 0 1 78)
unfolding symbols_of word_of
t22_broken = refl

-- module t; class A; function new(); super.new(); endfunction endclass endmodule
abbrev t23 : List Description
t23 = module_ (at 0 1 1) life.Unwritten (name (at 0 1 8) "t") None [] (items.Class (class_ (at 0 1 11) false (name (at 0 1 17) "A") None (method unqualified (routine (head (at 0 1 20) life.Unwritten (units.Returns.Value types.Unwritten) (name (at 0 1 29) "new") []) [] (stmts.Statement (at 0 1 36) None (stmts.Call (tree.SuperNew (at 0 1 36) (at 0 1 42) (tree.Written tree.NoExpr))) ∷ []) None) ∷ []) None) ∷ []) None ∷ []

t23_broken : broken t23 [] None ≡ Some (fault 38 0 1 36)
unfolding symbols_of word_of
t23_broken = refl

-- module t; class A; int x; static function void f(); x = 1; endfunction endclass endmodule
abbrev t24 : List Description
t24 = module_ (at 0 1 1) life.Unwritten (name (at 0 1 8) "t") None [] (items.Class (class_ (at 0 1 11) false (name (at 0 1 17) "A") None (property unqualified (decl life.Unwritten (types.Atom (at 0 1 20) atom_word.Int sign.Unwritten) (declarator (name (at 0 1 24) "x") None None ∷ [])) ∷ method (qualifiers false false true false) (routine (head (at 0 1 34) life.Unwritten units.Void (name (at 0 1 48) "f") []) [] (stmts.Statement (at 0 1 53) None (blocking (target (at 0 1 53) "x") None (stmts.Value (number (at 0 1 57) "1"))) ∷ []) None) ∷ []) None) ∷ []) None ∷ []

t24_broken : broken t24 [] None ≡ Some (fault 39 0 1 53)
unfolding symbols_of word_of
t24_broken = refl

-- module t; class A; int x; static int y = x; endclass endmodule
abbrev t25 : List Description
t25 = module_ (at 0 1 1) life.Unwritten (name (at 0 1 8) "t") None [] (items.Class (class_ (at 0 1 11) false (name (at 0 1 17) "A") None (property unqualified (decl life.Unwritten (types.Atom (at 0 1 20) atom_word.Int sign.Unwritten) (declarator (name (at 0 1 24) "x") None None ∷ [])) ∷ property (qualifiers false false true false) (decl life.Unwritten (types.Atom (at 0 1 34) atom_word.Int sign.Unwritten) (declarator (name (at 0 1 38) "y") None (Some (stmts.Value (plain (at 0 1 42) "x"))) ∷ [])) ∷ []) None) ∷ []) None ∷ []

t25_broken : broken t25 [] None ≡ Some (fault 39 0 1 42)
unfolding symbols_of word_of
t25_broken = refl

-- module t; class A; int x; static function void f(); this.x = 1; endfunction endclass endmodule
abbrev t26 : List Description
t26 = module_ (at 0 1 1) life.Unwritten (name (at 0 1 8) "t") None [] (items.Class (class_ (at 0 1 11) false (name (at 0 1 17) "A") None (property unqualified (decl life.Unwritten (types.Atom (at 0 1 20) atom_word.Int sign.Unwritten) (declarator (name (at 0 1 24) "x") None None ∷ [])) ∷ method (qualifiers false false true false) (routine (head (at 0 1 34) life.Unwritten units.Void (name (at 0 1 48) "f") []) [] (stmts.Statement (at 0 1 53) None (blocking (tree.Lval.Post (root.This (at 0 1 53)) (tree.Member (name (at 0 1 58) "x") tree.NoSuffix)) None (stmts.Value (number (at 0 1 62) "1"))) ∷ []) None) ∷ []) None) ∷ []) None ∷ []

t26_broken : broken t26 [] None ≡ Some (fault 39 0 1 53)
unfolding symbols_of word_of
t26_broken = refl

-- module t; class A; int x; endclass int y; initial y = A::x; endmodule
abbrev t27 : List Description
t27 = module_ (at 0 1 1) life.Unwritten (name (at 0 1 8) "t") None [] (items.Class (class_ (at 0 1 11) false (name (at 0 1 17) "A") None (property unqualified (decl life.Unwritten (types.Atom (at 0 1 20) atom_word.Int sign.Unwritten) (declarator (name (at 0 1 24) "x") None None ∷ [])) ∷ []) None) ∷ items.Decl (decl life.Unwritten (types.Atom (at 0 1 36) atom_word.Int sign.Unwritten) (declarator (name (at 0 1 40) "y") None None ∷ [])) ∷ procedure (at 0 1 43) procedure_word.Initial (stmts.Statement (at 0 1 51) None (blocking (target (at 0 1 51) "y") None (stmts.Value (tree.Expr.Post (root.Scoped (name (at 0 1 55) "A") (name (at 0 1 58) "x")) tree.NoSuffix)))) ∷ []) None ∷ []

t27_broken : broken t27 [] None ≡ Some (fault 39 0 1 58)
unfolding symbols_of word_of
t27_broken = refl

-- module t; class A; function void f(); endfunction endclass initial A::f(); endmodule
abbrev t28 : List Description
t28 = module_ (at 0 1 1) life.Unwritten (name (at 0 1 8) "t") None [] (items.Class (class_ (at 0 1 11) false (name (at 0 1 17) "A") None (method unqualified (routine (head (at 0 1 20) life.Unwritten units.Void (name (at 0 1 34) "f") []) [] [] None) ∷ []) None) ∷ procedure (at 0 1 60) procedure_word.Initial (stmts.Statement (at 0 1 68) None (stmts.Call (tree.Expr.Post (root.Scoped (name (at 0 1 68) "A") (name (at 0 1 71) "f")) (tree.Call (at 0 1 72) tree.NoExpr tree.NoSuffix)))) ∷ []) None ∷ []

t28_broken : broken t28 [] None ≡ Some (fault 39 0 1 71)
unfolding symbols_of word_of
t28_broken = refl

-- module t; class A; endclass int y; initial y = A::x; endmodule
abbrev t29 : List Description
t29 = module_ (at 0 1 1) life.Unwritten (name (at 0 1 8) "t") None [] (items.Class (class_ (at 0 1 11) false (name (at 0 1 17) "A") None [] None) ∷ items.Decl (decl life.Unwritten (types.Atom (at 0 1 29) atom_word.Int sign.Unwritten) (declarator (name (at 0 1 33) "y") None None ∷ [])) ∷ procedure (at 0 1 36) procedure_word.Initial (stmts.Statement (at 0 1 44) None (blocking (target (at 0 1 44) "y") None (stmts.Value (tree.Expr.Post (root.Scoped (name (at 0 1 48) "A") (name (at 0 1 51) "x")) tree.NoSuffix)))) ∷ []) None ∷ []

t29_broken : broken t29 [] None ≡ Some (fault 36 0 1 51)
unfolding symbols_of word_of
t29_broken = refl

-- module t; int A, y; initial y = A::x; endmodule
abbrev t30 : List Description
t30 = module_ (at 0 1 1) life.Unwritten (name (at 0 1 8) "t") None [] (items.Decl (decl life.Unwritten (types.Atom (at 0 1 11) atom_word.Int sign.Unwritten) (declarator (name (at 0 1 15) "A") None None ∷ declarator (name (at 0 1 18) "y") None None ∷ [])) ∷ procedure (at 0 1 21) procedure_word.Initial (stmts.Statement (at 0 1 29) None (blocking (target (at 0 1 29) "y") None (stmts.Value (tree.Expr.Post (root.Scoped (name (at 0 1 33) "A") (name (at 0 1 36) "x")) tree.NoSuffix)))) ∷ []) None ∷ []

t30_broken : broken t30 [] None ≡ Some (fault 7 0 1 33)
unfolding symbols_of word_of
t30_broken = refl

-- module t; class A; function new(int x); endfunction endclass class B extends A; endclass endmodule
abbrev t31 : List Description
t31 = module_ (at 0 1 1) life.Unwritten (name (at 0 1 8) "t") None [] (items.Class (class_ (at 0 1 11) false (name (at 0 1 17) "A") None (method unqualified (routine (head (at 0 1 20) life.Unwritten (units.Returns.Value types.Unwritten) (name (at 0 1 29) "new") (argument None (types.Written (types.Atom (at 0 1 33) atom_word.Int sign.Unwritten)) (name (at 0 1 37) "x") None ∷ [])) [] [] None) ∷ []) None) ∷ items.Class (class_ (at 0 1 62) false (name (at 0 1 68) "B") (Some (name (at 0 1 78) "A")) [] None) ∷ []) None ∷ []

t31_broken : broken t31 [] None ≡ Some (fault 40 0 1 68)
unfolding symbols_of word_of
t31_broken = refl

-- module t; class A; function new(int x); endfunction endclass class B extends A; function new(); endfunction endclass endmodule
abbrev t32 : List Description
t32 = module_ (at 0 1 1) life.Unwritten (name (at 0 1 8) "t") None [] (items.Class (class_ (at 0 1 11) false (name (at 0 1 17) "A") None (method unqualified (routine (head (at 0 1 20) life.Unwritten (units.Returns.Value types.Unwritten) (name (at 0 1 29) "new") (argument None (types.Written (types.Atom (at 0 1 33) atom_word.Int sign.Unwritten)) (name (at 0 1 37) "x") None ∷ [])) [] [] None) ∷ []) None) ∷ items.Class (class_ (at 0 1 62) false (name (at 0 1 68) "B") (Some (name (at 0 1 78) "A")) (method unqualified (routine (head (at 0 1 81) life.Unwritten (units.Returns.Value types.Unwritten) (name (at 0 1 90) "new") []) [] [] None) ∷ []) None) ∷ []) None ∷ []

t32_broken : broken t32 [] None ≡ Some (fault 40 0 1 68)
unfolding symbols_of word_of
t32_broken = refl

-- module t; class A; endclass class B; endclass A a; B b; initial a = b; endmodule
abbrev t33 : List Description
t33 = module_ (at 0 1 1) life.Unwritten (name (at 0 1 8) "t") None [] (items.Class (class_ (at 0 1 11) false (name (at 0 1 17) "A") None [] None) ∷ items.Class (class_ (at 0 1 29) false (name (at 0 1 35) "B") None [] None) ∷ items.Decl (decl life.Unwritten (types.Named (name (at 0 1 47) "A")) (declarator (name (at 0 1 49) "a") None None ∷ [])) ∷ items.Decl (decl life.Unwritten (types.Named (name (at 0 1 52) "B")) (declarator (name (at 0 1 54) "b") None None ∷ [])) ∷ procedure (at 0 1 57) procedure_word.Initial (stmts.Statement (at 0 1 65) None (blocking (target (at 0 1 65) "a") None (stmts.Value (plain (at 0 1 69) "b")))) ∷ []) None ∷ []

t33_broken : broken t33 [] None ≡ Some (fault 16 0 1 69)
unfolding symbols_of word_of
t33_broken = refl

-- module t; class A; endclass class B extends A; endclass A a; B b; initial b = a; endmodule
abbrev t34 : List Description
t34 = module_ (at 0 1 1) life.Unwritten (name (at 0 1 8) "t") None [] (items.Class (class_ (at 0 1 11) false (name (at 0 1 17) "A") None [] None) ∷ items.Class (class_ (at 0 1 29) false (name (at 0 1 35) "B") (Some (name (at 0 1 45) "A")) [] None) ∷ items.Decl (decl life.Unwritten (types.Named (name (at 0 1 57) "A")) (declarator (name (at 0 1 59) "a") None None ∷ [])) ∷ items.Decl (decl life.Unwritten (types.Named (name (at 0 1 62) "B")) (declarator (name (at 0 1 64) "b") None None ∷ [])) ∷ procedure (at 0 1 67) procedure_word.Initial (stmts.Statement (at 0 1 75) None (blocking (target (at 0 1 75) "b") None (stmts.Value (plain (at 0 1 79) "a")))) ∷ []) None ∷ []

t34_broken : broken t34 [] None ≡ Some (fault 16 0 1 79)
unfolding symbols_of word_of
t34_broken = refl

-- module t; class A; endclass A a; int x; initial x = a; endmodule
abbrev t35 : List Description
t35 = module_ (at 0 1 1) life.Unwritten (name (at 0 1 8) "t") None [] (items.Class (class_ (at 0 1 11) false (name (at 0 1 17) "A") None [] None) ∷ items.Decl (decl life.Unwritten (types.Named (name (at 0 1 29) "A")) (declarator (name (at 0 1 31) "a") None None ∷ [])) ∷ items.Decl (decl life.Unwritten (types.Atom (at 0 1 34) atom_word.Int sign.Unwritten) (declarator (name (at 0 1 38) "x") None None ∷ [])) ∷ procedure (at 0 1 41) procedure_word.Initial (stmts.Statement (at 0 1 49) None (blocking (target (at 0 1 49) "x") None (stmts.Value (plain (at 0 1 53) "a")))) ∷ []) None ∷ []

t35_broken : broken t35 [] None ≡ Some (fault 16 0 1 53)
unfolding symbols_of word_of
t35_broken = refl

-- module t; class A; endclass A a; initial if (a) ; endmodule
abbrev t36 : List Description
t36 = module_ (at 0 1 1) life.Unwritten (name (at 0 1 8) "t") None [] (items.Class (class_ (at 0 1 11) false (name (at 0 1 17) "A") None [] None) ∷ items.Decl (decl life.Unwritten (types.Named (name (at 0 1 29) "A")) (declarator (name (at 0 1 31) "a") None None ∷ [])) ∷ procedure (at 0 1 34) procedure_word.Initial (stmts.Statement (at 0 1 42) None (stmts.If (plain (at 0 1 46) "a") (stmts.Statement (at 0 1 49) None stmts.Null))) ∷ []) None ∷ []

t36_broken : broken t36 [] None ≡ Some (fault 15 0 1 46)
unfolding symbols_of word_of
t36_broken = refl

-- module t; class A; endclass class B; endclass A a; B b; int x; initial x = a == b; endmodule
abbrev t37 : List Description
t37 = module_ (at 0 1 1) life.Unwritten (name (at 0 1 8) "t") None [] (items.Class (class_ (at 0 1 11) false (name (at 0 1 17) "A") None [] None) ∷ items.Class (class_ (at 0 1 29) false (name (at 0 1 35) "B") None [] None) ∷ items.Decl (decl life.Unwritten (types.Named (name (at 0 1 47) "A")) (declarator (name (at 0 1 49) "a") None None ∷ [])) ∷ items.Decl (decl life.Unwritten (types.Named (name (at 0 1 52) "B")) (declarator (name (at 0 1 54) "b") None None ∷ [])) ∷ items.Decl (decl life.Unwritten (types.Atom (at 0 1 57) atom_word.Int sign.Unwritten) (declarator (name (at 0 1 61) "x") None None ∷ [])) ∷ procedure (at 0 1 64) procedure_word.Initial (stmts.Statement (at 0 1 72) None (blocking (target (at 0 1 72) "x") None (stmts.Value (tree.Binary binary_word.Equal (at 0 1 78) (plain (at 0 1 76) "a") (plain (at 0 1 81) "b"))))) ∷ []) None ∷ []

t37_broken : broken t37 [] None ≡ Some (fault 15 0 1 81)
unfolding symbols_of word_of
t37_broken = refl

-- module t; class A; endclass A a; int x; initial x = a < null; endmodule
abbrev t38 : List Description
t38 = module_ (at 0 1 1) life.Unwritten (name (at 0 1 8) "t") None [] (items.Class (class_ (at 0 1 11) false (name (at 0 1 17) "A") None [] None) ∷ items.Decl (decl life.Unwritten (types.Named (name (at 0 1 29) "A")) (declarator (name (at 0 1 31) "a") None None ∷ [])) ∷ items.Decl (decl life.Unwritten (types.Atom (at 0 1 34) atom_word.Int sign.Unwritten) (declarator (name (at 0 1 38) "x") None None ∷ [])) ∷ procedure (at 0 1 41) procedure_word.Initial (stmts.Statement (at 0 1 49) None (blocking (target (at 0 1 49) "x") None (stmts.Value (tree.Binary binary_word.Less (at 0 1 55) (plain (at 0 1 53) "a") (tree.Null (at 0 1 57)))))) ∷ []) None ∷ []

t38_broken : broken t38 [] None ≡ Some (fault 15 0 1 53)
unfolding symbols_of word_of
t38_broken = refl

-- module t; class A; endclass A a; mailbox m; int x; initial x = a == m; endmodule
abbrev t39 : List Description
t39 = module_ (at 0 1 1) life.Unwritten (name (at 0 1 8) "t") None [] (items.Class (class_ (at 0 1 11) false (name (at 0 1 17) "A") None [] None) ∷ items.Decl (decl life.Unwritten (types.Named (name (at 0 1 29) "A")) (declarator (name (at 0 1 31) "a") None None ∷ [])) ∷ items.Decl (decl life.Unwritten (types.Mailbox (at 0 1 34)) (declarator (name (at 0 1 42) "m") None None ∷ [])) ∷ items.Decl (decl life.Unwritten (types.Atom (at 0 1 45) atom_word.Int sign.Unwritten) (declarator (name (at 0 1 49) "x") None None ∷ [])) ∷ procedure (at 0 1 52) procedure_word.Initial (stmts.Statement (at 0 1 60) None (blocking (target (at 0 1 60) "x") None (stmts.Value (tree.Binary binary_word.Equal (at 0 1 66) (plain (at 0 1 64) "a") (plain (at 0 1 69) "m"))))) ∷ []) None ∷ []

t39_broken : broken t39 [] None ≡ Some (fault 15 0 1 69)
unfolding symbols_of word_of
t39_broken = refl

-- module t; class A; endclass class B; endclass A a; B b; initial $cast(b, 3); endmodule
abbrev t40 : List Description
t40 = module_ (at 0 1 1) life.Unwritten (name (at 0 1 8) "t") None [] (items.Class (class_ (at 0 1 11) false (name (at 0 1 17) "A") None [] None) ∷ items.Class (class_ (at 0 1 29) false (name (at 0 1 35) "B") None [] None) ∷ items.Decl (decl life.Unwritten (types.Named (name (at 0 1 47) "A")) (declarator (name (at 0 1 49) "a") None None ∷ [])) ∷ items.Decl (decl life.Unwritten (types.Named (name (at 0 1 52) "B")) (declarator (name (at 0 1 54) "b") None None ∷ [])) ∷ procedure (at 0 1 57) procedure_word.Initial (stmts.Statement (at 0 1 65) None (stmts.Call (system (at 0 1 65) "$cast" (plain (at 0 1 71) "b" ∷ number (at 0 1 74) "3" ∷ [])))) ∷ []) None ∷ []

t40_broken : broken t40 [] None ≡ Some (fault 16 0 1 74)
unfolding symbols_of word_of
t40_broken = refl

-- module t; int x; class A; endclass A a; initial $cast(x, a); endmodule
abbrev t41 : List Description
t41 = module_ (at 0 1 1) life.Unwritten (name (at 0 1 8) "t") None [] (items.Decl (decl life.Unwritten (types.Atom (at 0 1 11) atom_word.Int sign.Unwritten) (declarator (name (at 0 1 15) "x") None None ∷ [])) ∷ items.Class (class_ (at 0 1 18) false (name (at 0 1 24) "A") None [] None) ∷ items.Decl (decl life.Unwritten (types.Named (name (at 0 1 36) "A")) (declarator (name (at 0 1 38) "a") None None ∷ [])) ∷ procedure (at 0 1 41) procedure_word.Initial (stmts.Statement (at 0 1 49) None (stmts.Call (system (at 0 1 49) "$cast" (plain (at 0 1 55) "x" ∷ plain (at 0 1 58) "a" ∷ [])))) ∷ []) None ∷ []

t41_broken : broken t41 [] None ≡ Some (fault 16 0 1 55)
unfolding symbols_of word_of
t41_broken = refl

-- module t; class A; endclass A a; initial a = new a; endmodule
abbrev t42 : List Description
t42 = module_ (at 0 1 1) life.Unwritten (name (at 0 1 8) "t") None [] (items.Class (class_ (at 0 1 11) false (name (at 0 1 17) "A") None [] None) ∷ items.Decl (decl life.Unwritten (types.Named (name (at 0 1 29) "A")) (declarator (name (at 0 1 31) "a") None None ∷ [])) ∷ procedure (at 0 1 34) procedure_word.Initial (stmts.Statement (at 0 1 42) None (blocking (target (at 0 1 42) "a") None (stmts.Copy (at 0 1 46) (name (at 0 1 50) "a")))) ∷ []) None ∷ []

t42_seen : seen_in (Listed []) (Listed []) (elaborated t42 [] None) 6 ≡ Ran (record { log = []; wave = lines ("$timescale 1ns $end" ∷ "$scope module t $end" ∷ "$upscope $end" ∷ "$enddefinitions $end" ∷ []); outcome = Faulted (record { kind = kind.Null; at = at 0 1 42; time = 0 }); time = 0; steps = 3; race = Some (10, at 0 1 31) })
unfolding symbols_of word_of
t42_seen = refl

-- module t; class A; endclass class B; endclass A a; B b; initial a = new b; endmodule
abbrev t43 : List Description
t43 = module_ (at 0 1 1) life.Unwritten (name (at 0 1 8) "t") None [] (items.Class (class_ (at 0 1 11) false (name (at 0 1 17) "A") None [] None) ∷ items.Class (class_ (at 0 1 29) false (name (at 0 1 35) "B") None [] None) ∷ items.Decl (decl life.Unwritten (types.Named (name (at 0 1 47) "A")) (declarator (name (at 0 1 49) "a") None None ∷ [])) ∷ items.Decl (decl life.Unwritten (types.Named (name (at 0 1 52) "B")) (declarator (name (at 0 1 54) "b") None None ∷ [])) ∷ procedure (at 0 1 57) procedure_word.Initial (stmts.Statement (at 0 1 65) None (blocking (target (at 0 1 65) "a") None (stmts.Copy (at 0 1 69) (name (at 0 1 73) "b")))) ∷ []) None ∷ []

t43_broken : broken t43 [] None ≡ Some (fault 16 0 1 69)
unfolding symbols_of word_of
t43_broken = refl
