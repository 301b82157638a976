-- Rules on classes, and on what is declared in them (E33 to E43).
use Rattle.std.proofs.Common.{◌≡◌, List, [], ◌∷◌, true, false, refl}
use Rattle.std.specs.Prelude.{Some, None}
use Rattle.sv_value.specs.Vector.{symbols_of, word_of}
use Rattle.sv_tree.specs.declared.word.AtomWord.TheVariants as atom_word
use Rattle.sv_tree.specs.declared.word.Sign.TheVariants as sign
use Rattle.sv_tree.specs.declared.word.Life.TheVariants as life
use Rattle.sv_tree.specs.declared.word.ProcedureWord.TheVariants as procedure_word
use Rattle.sv_tree.specs.declared.expr.Root.TheVariants as root
use Rattle.sv_tree.specs.Expr as tree
use Rattle.sv_tree.specs.Types as types
use Rattle.sv_tree.specs.Stmt as stmts
use Rattle.sv_tree.specs.Units as units
use Rattle.sv_tree.specs.Items as items
use Rattle.sv_tree.specs.Descriptions as descriptions
use Rattle.sv_tree.specs.Descriptions.{Description}
use Rattle.sv_names.specs.Design.{broken}
use Rattle.sv_names_rows.proofs.Kit.{argument, at, blocking, class_, decl, declarator, fault, head, method, module_, name, number, plain, procedure, property, pure_method, qualifiers, routine, target, typedef, unqualified}

-- E33: class a extends a; endclass module t; endmodule
abbrev t70 : List Description
t70 = descriptions.Item (items.Class (class_ (at 0 1 1) false (name (at 0 1 7) "a") (Some (name (at 0 1 17) "a")) [] None)) ∷ module_ (at 0 1 29) life.Unwritten (name (at 0 1 36) "t") None [] [] None ∷ []

t70_broken : broken t70 [] None ≡ Some (fault 33 0 1 17)
unfolding symbols_of word_of
t70_broken = refl

-- E33: typedef int b; class a extends b; endclass module t; endmodule
abbrev t71 : List Description
t71 = descriptions.Item (items.Typedef (typedef (types.Atom (at 0 1 9) atom_word.Int sign.Unwritten) (name (at 0 1 13) "b"))) ∷ descriptions.Item (items.Class (class_ (at 0 1 16) false (name (at 0 1 22) "a") (Some (name (at 0 1 32) "b")) [] None)) ∷ module_ (at 0 1 44) life.Unwritten (name (at 0 1 51) "t") None [] [] None ∷ []

t71_broken : broken t71 [] None ≡ Some (fault 33 0 1 32)
unfolding symbols_of word_of
t71_broken = refl

-- E34: class a; virtual function int f(); return 1; endfunction endclass class b extends a; virtual task f(); endtask endclass module t; endmodule
abbrev t72 : List Description
t72 = descriptions.Item (items.Class (class_ (at 0 1 1) false (name (at 0 1 7) "a") None (method (qualifiers false false false true) (routine (head (at 0 1 18) life.Unwritten (units.Returns.Value (types.Written (types.Atom (at 0 1 27) atom_word.Int sign.Unwritten))) (name (at 0 1 31) "f") []) [] (stmts.Statement (at 0 1 36) None (stmts.Return (Some (number (at 0 1 43) "1"))) ∷ []) None) ∷ []) None)) ∷ descriptions.Item (items.Class (class_ (at 0 1 67) false (name (at 0 1 73) "b") (Some (name (at 0 1 83) "a")) (method (qualifiers false false false true) (routine (head (at 0 1 94) life.Unwritten units.Task (name (at 0 1 99) "f") []) [] [] None) ∷ []) None)) ∷ module_ (at 0 1 121) life.Unwritten (name (at 0 1 128) "t") None [] [] None ∷ []

t72_broken : broken t72 [] None ≡ Some (fault 34 0 1 99)
unfolding symbols_of word_of
t72_broken = refl

-- E35: virtual class a; endclass module t; a x; initial x = new; endmodule
abbrev t73 : List Description
t73 = descriptions.Item (items.Class (class_ (at 0 1 1) true (name (at 0 1 15) "a") None [] None)) ∷ module_ (at 0 1 27) life.Unwritten (name (at 0 1 34) "t") None [] (items.Decl (decl life.Unwritten (types.Named (name (at 0 1 37) "a")) (declarator (name (at 0 1 39) "x") None None ∷ [])) ∷ procedure (at 0 1 42) procedure_word.Initial (stmts.Statement (at 0 1 50) None (blocking (target (at 0 1 50) "x") None (stmts.New (at 0 1 54) tree.Unwritten))) ∷ []) None ∷ []

t73_broken : broken t73 [] None ≡ Some (fault 35 0 1 54)
unfolding symbols_of word_of
t73_broken = refl

-- E35: virtual class a; pure virtual function void f(); endclass class b extends a; endclass module t; endmodule
abbrev t74 : List Description
t74 = descriptions.Item (items.Class (class_ (at 0 1 1) true (name (at 0 1 15) "a") None (pure_method (at 0 1 18) (head (at 0 1 31) life.Unwritten units.Void (name (at 0 1 45) "f") []) ∷ []) None)) ∷ descriptions.Item (items.Class (class_ (at 0 1 59) false (name (at 0 1 65) "b") (Some (name (at 0 1 75) "a")) [] None)) ∷ module_ (at 0 1 87) life.Unwritten (name (at 0 1 94) "t") None [] [] None ∷ []

t74_broken : broken t74 [] None ≡ Some (fault 35 0 1 65)
unfolding symbols_of word_of
t74_broken = refl

-- E36: class a; endclass module t; a x; initial x.y = 1; endmodule
abbrev t75 : List Description
t75 = descriptions.Item (items.Class (class_ (at 0 1 1) false (name (at 0 1 7) "a") None [] None)) ∷ module_ (at 0 1 19) life.Unwritten (name (at 0 1 26) "t") None [] (items.Decl (decl life.Unwritten (types.Named (name (at 0 1 29) "a")) (declarator (name (at 0 1 31) "x") None None ∷ [])) ∷ procedure (at 0 1 34) procedure_word.Initial (stmts.Statement (at 0 1 42) None (blocking (tree.Lval.Post (root.Plain (name (at 0 1 42) "x")) (tree.Member (name (at 0 1 44) "y") tree.NoSuffix)) None (stmts.Value (number (at 0 1 48) "1")))) ∷ []) None ∷ []

t75_broken : broken t75 [] None ≡ Some (fault 36 0 1 44)
unfolding symbols_of word_of
t75_broken = refl

-- E36: module t; int q[$]; initial q.foo(); endmodule
abbrev t76 : List Description
t76 = module_ (at 0 1 1) life.Unwritten (name (at 0 1 8) "t") None [] (items.Decl (decl life.Unwritten (types.Atom (at 0 1 11) atom_word.Int sign.Unwritten) (declarator (name (at 0 1 15) "q") (Some (stmts.Queue (at 0 1 16))) None ∷ [])) ∷ procedure (at 0 1 21) procedure_word.Initial (stmts.Statement (at 0 1 29) None (stmts.Call (tree.Expr.Post (root.Plain (name (at 0 1 29) "q")) (tree.Member (name (at 0 1 31) "foo") (tree.Call (at 0 1 34) tree.NoExpr tree.NoSuffix))))) ∷ []) None ∷ []

t76_broken : broken t76 [] None ≡ Some (fault 36 0 1 31)
unfolding symbols_of word_of
t76_broken = refl

-- E37: class a; local int p; endclass module t; a x; initial x.p = 1; endmodule
abbrev t77 : List Description
t77 = descriptions.Item (items.Class (class_ (at 0 1 1) false (name (at 0 1 7) "a") None (property (qualifiers true false false false) (decl life.Unwritten (types.Atom (at 0 1 16) atom_word.Int sign.Unwritten) (declarator (name (at 0 1 20) "p") None None ∷ [])) ∷ []) None)) ∷ module_ (at 0 1 32) life.Unwritten (name (at 0 1 39) "t") None [] (items.Decl (decl life.Unwritten (types.Named (name (at 0 1 42) "a")) (declarator (name (at 0 1 44) "x") None None ∷ [])) ∷ procedure (at 0 1 47) procedure_word.Initial (stmts.Statement (at 0 1 55) None (blocking (tree.Lval.Post (root.Plain (name (at 0 1 55) "x")) (tree.Member (name (at 0 1 57) "p") tree.NoSuffix)) None (stmts.Value (number (at 0 1 61) "1")))) ∷ []) None ∷ []

t77_broken : broken t77 [] None ≡ Some (fault 37 0 1 57)
unfolding symbols_of word_of
t77_broken = refl

-- E38: module t; initial this.x = 1; endmodule
abbrev t78 : List Description
t78 = module_ (at 0 1 1) life.Unwritten (name (at 0 1 8) "t") None [] (procedure (at 0 1 11) procedure_word.Initial (stmts.Statement (at 0 1 19) None (blocking (tree.Lval.Post (root.This (at 0 1 19)) (tree.Member (name (at 0 1 24) "x") tree.NoSuffix)) None (stmts.Value (number (at 0 1 28) "1")))) ∷ []) None ∷ []

t78_broken : broken t78 [] None ≡ Some (fault 38 0 1 19)
unfolding symbols_of word_of
t78_broken = refl

-- E38: class a; function void f(); super.new(); endfunction endclass module t; endmodule
abbrev t79 : List Description
t79 = descriptions.Item (items.Class (class_ (at 0 1 1) false (name (at 0 1 7) "a") None (method unqualified (routine (head (at 0 1 10) life.Unwritten units.Void (name (at 0 1 24) "f") []) [] (stmts.Statement (at 0 1 29) None (stmts.Call (tree.SuperNew (at 0 1 29) (at 0 1 35) (tree.Written tree.NoExpr))) ∷ []) None) ∷ []) None)) ∷ module_ (at 0 1 63) life.Unwritten (name (at 0 1 70) "t") None [] [] None ∷ []

t79_broken : broken t79 [] None ≡ Some (fault 38 0 1 29)
unfolding symbols_of word_of
t79_broken = refl

-- E39: class a; int p; static function void f(); p = 1; endfunction endclass module t; endmodule
abbrev t80 : List Description
t80 = descriptions.Item (items.Class (class_ (at 0 1 1) false (name (at 0 1 7) "a") None (property unqualified (decl life.Unwritten (types.Atom (at 0 1 10) atom_word.Int sign.Unwritten) (declarator (name (at 0 1 14) "p") None None ∷ [])) ∷ method (qualifiers false false true false) (routine (head (at 0 1 24) life.Unwritten units.Void (name (at 0 1 38) "f") []) [] (stmts.Statement (at 0 1 43) None (blocking (target (at 0 1 43) "p") None (stmts.Value (number (at 0 1 47) "1"))) ∷ []) None) ∷ []) None)) ∷ module_ (at 0 1 71) life.Unwritten (name (at 0 1 78) "t") None [] [] None ∷ []

t80_broken : broken t80 [] None ≡ Some (fault 39 0 1 43)
unfolding symbols_of word_of
t80_broken = refl

-- E40: class a; function new(int x); endfunction endclass class b extends a; endclass module t; endmodule
abbrev t81 : List Description
t81 = descriptions.Item (items.Class (class_ (at 0 1 1) false (name (at 0 1 7) "a") None (method unqualified (routine (head (at 0 1 10) life.Unwritten (units.Returns.Value types.Unwritten) (name (at 0 1 19) "new") (argument None (types.Written (types.Atom (at 0 1 23) atom_word.Int sign.Unwritten)) (name (at 0 1 27) "x") None ∷ [])) [] [] None) ∷ []) None)) ∷ descriptions.Item (items.Class (class_ (at 0 1 52) false (name (at 0 1 58) "b") (Some (name (at 0 1 68) "a")) [] None)) ∷ module_ (at 0 1 80) life.Unwritten (name (at 0 1 87) "t") None [] [] None ∷ []

t81_broken : broken t81 [] None ≡ Some (fault 40 0 1 58)
unfolding symbols_of word_of
t81_broken = refl

-- E41: module t; initial begin int a = 1; end endmodule
abbrev t82 : List Description
t82 = module_ (at 0 1 1) life.Unwritten (name (at 0 1 8) "t") None [] (procedure (at 0 1 11) procedure_word.Initial (stmts.Statement (at 0 1 19) None (stmts.Block None (decl life.Unwritten (types.Atom (at 0 1 25) atom_word.Int sign.Unwritten) (declarator (name (at 0 1 29) "a") None (Some (stmts.Value (number (at 0 1 33) "1"))) ∷ []) ∷ []) stmts.NoStmt None)) ∷ []) None ∷ []

t82_broken : broken t82 [] None ≡ Some (fault 41 0 1 33)
unfolding symbols_of word_of
t82_broken = refl

-- E42: module t; int a[3]; int b; initial b = a; endmodule
abbrev t83 : List Description
t83 = module_ (at 0 1 1) life.Unwritten (name (at 0 1 8) "t") None [] (items.Decl (decl life.Unwritten (types.Atom (at 0 1 11) atom_word.Int sign.Unwritten) (declarator (name (at 0 1 15) "a") (Some (stmts.Size (at 0 1 16) (number (at 0 1 17) "3"))) None ∷ [])) ∷ items.Decl (decl life.Unwritten (types.Atom (at 0 1 21) atom_word.Int sign.Unwritten) (declarator (name (at 0 1 25) "b") None None ∷ [])) ∷ procedure (at 0 1 28) procedure_word.Initial (stmts.Statement (at 0 1 36) None (blocking (target (at 0 1 36) "b") None (stmts.Value (plain (at 0 1 40) "a")))) ∷ []) None ∷ []

t83_broken : broken t83 [] None ≡ Some (fault 42 0 1 40)
unfolding symbols_of word_of
t83_broken = refl

-- E42: module t; int q[string]; initial q[1] = 2; endmodule
abbrev t84 : List Description
t84 = module_ (at 0 1 1) life.Unwritten (name (at 0 1 8) "t") None [] (items.Decl (decl life.Unwritten (types.Atom (at 0 1 11) atom_word.Int sign.Unwritten) (declarator (name (at 0 1 15) "q") (Some (stmts.Key (at 0 1 16) (types.Text (at 0 1 17)))) None ∷ [])) ∷ procedure (at 0 1 26) procedure_word.Initial (stmts.Statement (at 0 1 34) None (blocking (tree.Lval.Post (root.Plain (name (at 0 1 34) "q")) (tree.Select (at 0 1 35) (number (at 0 1 36) "1") tree.NoSuffix)) None (stmts.Value (number (at 0 1 41) "2")))) ∷ []) None ∷ []

t84_broken : broken t84 [] None ≡ Some (fault 42 0 1 36)
unfolding symbols_of word_of
t84_broken = refl

-- E43: module t; event e[3]; endmodule
abbrev t85 : List Description
t85 = module_ (at 0 1 1) life.Unwritten (name (at 0 1 8) "t") None [] (items.Decl (decl life.Unwritten (types.Event (at 0 1 11)) (declarator (name (at 0 1 17) "e") (Some (stmts.Size (at 0 1 18) (number (at 0 1 19) "3"))) None ∷ [])) ∷ []) None ∷ []

t85_broken : broken t85 [] None ≡ Some (fault 43 0 1 11)
unfolding symbols_of word_of
t85_broken = refl
