-- Members of classes and subroutines that depend on one another: where a cycle is told.
use Rattle.std.proofs.Common.{◌≡◌, List, [], ◌∷◌, true, false, refl}
use Rattle.std.specs.Prelude.{Some, None}
use Rattle.sv_value.specs.Vector.{symbols_of, word_of}
use Rattle.sv_tree.specs.declared.word.VectorWord.TheVariants as vector_word
use Rattle.sv_tree.specs.declared.word.AtomWord.TheVariants as atom_word
use Rattle.sv_tree.specs.declared.word.Sign.TheVariants as sign
use Rattle.sv_tree.specs.declared.word.Life.TheVariants as life
use Rattle.sv_tree.specs.declared.word.EdgeWord.TheVariants as edge
use Rattle.sv_tree.specs.declared.word.ProcedureWord.TheVariants as procedure_word
use Rattle.sv_tree.specs.declared.word.Direction.TheVariants as direction
use Rattle.sv_tree.specs.declared.word.ParamWord.TheVariants as param_word
use Rattle.sv_tree.specs.declared.expr.Root.TheVariants as root
use Rattle.sv_tree.specs.Expr as tree
use Rattle.sv_tree.specs.Types as types
use Rattle.sv_tree.specs.Stmt as stmts
use Rattle.sv_tree.specs.Units as units
use Rattle.sv_tree.specs.Classes as classes
use Rattle.sv_tree.specs.Items as items
use Rattle.sv_tree.specs.Descriptions as descriptions
use Rattle.sv_tree.specs.Descriptions.{Description}
use Rattle.sv_names.specs.Design.{broken}
use Rattle.sv_names_rows.proofs.Kit.{argument, at, blocking, class_, clocking, decl, declarator, enum_item, expressions, fault, head, method, module_, name, number, param, plain, procedure, property, qualifiers, range, routine, sided, system, target, text, typedef, unqualified, value}

-- module t; function logic [P:0] f(); endfunction localparam P = $bits(f()); endmodule
abbrev t7 : List Description
t7 = module_ (at 0 1 1) life.Unwritten (name (at 0 1 8) "t") None [] (items.Routine (routine (head (at 0 1 11) life.Unwritten (units.Returns.Value (types.Written (types.WrittenType.Vector (at 0 1 20) vector_word.Logic sign.Unwritten (Some (range (at 0 1 26) (plain (at 0 1 27) "P") (number (at 0 1 29) "0")))))) (name (at 0 1 32) "f") []) [] [] None) ∷ items.Param (param param_word.Localparam types.Unwritten (value (name (at 0 1 60) "P") (system (at 0 1 64) "$bits" (tree.Expr.Post (root.Plain (name (at 0 1 70) "f")) (tree.Call (at 0 1 71) tree.NoExpr tree.NoSuffix) ∷ [])) ∷ [])) ∷ []) None ∷ []

t7_broken : broken t7 [] None ≡ Some (fault 11 0 1 27)
unfolding symbols_of word_of
t7_broken = refl

-- module t; class C; w x; endclass typedef logic [P:0] w; localparam P = $bits(w); endmodule
abbrev t17 : List Description
t17 = module_ (at 0 1 1) life.Unwritten (name (at 0 1 8) "t") None [] (items.Class (class_ (at 0 1 11) false (name (at 0 1 17) "C") None (property unqualified (decl life.Unwritten (types.Named (name (at 0 1 20) "w")) (declarator (name (at 0 1 22) "x") None None ∷ [])) ∷ []) None) ∷ items.Typedef (typedef (types.WrittenType.Vector (at 0 1 42) vector_word.Logic sign.Unwritten (Some (range (at 0 1 48) (plain (at 0 1 49) "P") (number (at 0 1 51) "0")))) (name (at 0 1 54) "w")) ∷ items.Param (param param_word.Localparam types.Unwritten (value (name (at 0 1 68) "P") (system (at 0 1 72) "$bits" (plain (at 0 1 78) "w" ∷ [])) ∷ [])) ∷ []) None ∷ []

t17_broken : broken t17 [] None ≡ Some (fault 11 0 1 49)
unfolding symbols_of word_of
t17_broken = refl

-- module t; function logic [$bits(f()):0] f(); endfunction endmodule
abbrev t29 : List Description
t29 = module_ (at 0 1 1) life.Unwritten (name (at 0 1 8) "t") None [] (items.Routine (routine (head (at 0 1 11) life.Unwritten (units.Returns.Value (types.Written (types.WrittenType.Vector (at 0 1 20) vector_word.Logic sign.Unwritten (Some (range (at 0 1 26) (system (at 0 1 27) "$bits" (tree.Expr.Post (root.Plain (name (at 0 1 33) "f")) (tree.Call (at 0 1 34) tree.NoExpr tree.NoSuffix) ∷ [])) (number (at 0 1 38) "0")))))) (name (at 0 1 41) "f") []) [] [] None) ∷ []) None ∷ []

t29_broken : broken t29 [] None ≡ Some (fault 7 0 1 33)
unfolding symbols_of word_of
t29_broken = refl

-- module t; function int f(logic [$bits(f(1)):0] a); endfunction endmodule
abbrev t30 : List Description
t30 = module_ (at 0 1 1) life.Unwritten (name (at 0 1 8) "t") None [] (items.Routine (routine (head (at 0 1 11) life.Unwritten (units.Returns.Value (types.Written (types.Atom (at 0 1 20) atom_word.Int sign.Unwritten))) (name (at 0 1 24) "f") (argument None (types.Written (types.WrittenType.Vector (at 0 1 26) vector_word.Logic sign.Unwritten (Some (range (at 0 1 32) (system (at 0 1 33) "$bits" (tree.Expr.Post (root.Plain (name (at 0 1 39) "f")) (tree.Call (at 0 1 40) (expressions (number (at 0 1 41) "1" ∷ [])) tree.NoSuffix) ∷ [])) (number (at 0 1 45) "0"))))) (name (at 0 1 48) "a") None ∷ [])) [] [] None) ∷ []) None ∷ []

t30_broken : broken t30 [] None ≡ Some (fault 7 0 1 39)
unfolding symbols_of word_of
t30_broken = refl

-- class C; int q[$bits(q)]; endclass module t; endmodule
abbrev t43 : List Description
t43 = descriptions.Item (items.Class (class_ (at 0 1 1) false (name (at 0 1 7) "C") None (property unqualified (decl life.Unwritten (types.Atom (at 0 1 10) atom_word.Int sign.Unwritten) (declarator (name (at 0 1 14) "q") (Some (stmts.Size (at 0 1 15) (system (at 0 1 16) "$bits" (plain (at 0 1 22) "q" ∷ [])))) None ∷ [])) ∷ []) None)) ∷ module_ (at 0 1 36) life.Unwritten (name (at 0 1 43) "t") None [] [] None ∷ []

t43_broken : broken t43 [] None ≡ Some (fault 7 0 1 22)
unfolding symbols_of word_of
t43_broken = refl

-- module t; task automatic w(); logic [$bits(x):0] x; endtask endmodule
abbrev t44 : List Description
t44 = module_ (at 0 1 1) life.Unwritten (name (at 0 1 8) "t") None [] (items.Routine (routine (head (at 0 1 11) life.Automatic units.Task (name (at 0 1 26) "w") []) (decl life.Unwritten (types.WrittenType.Vector (at 0 1 31) vector_word.Logic sign.Unwritten (Some (range (at 0 1 37) (system (at 0 1 38) "$bits" (plain (at 0 1 44) "x" ∷ [])) (number (at 0 1 47) "0")))) (declarator (name (at 0 1 50) "x") None None ∷ []) ∷ []) [] None) ∷ []) None ∷ []

t44_broken : broken t44 [] None ≡ Some (fault 7 0 1 44)
unfolding symbols_of word_of
t44_broken = refl

-- class C; function int f(logic [$bits(g()):0] a); endfunction function logic [$bits(f(1)):0] g(); endfunction endclass module t; endmodule
abbrev t45 : List Description
t45 = descriptions.Item (items.Class (class_ (at 0 1 1) false (name (at 0 1 7) "C") None (method unqualified (routine (head (at 0 1 10) life.Unwritten (units.Returns.Value (types.Written (types.Atom (at 0 1 19) atom_word.Int sign.Unwritten))) (name (at 0 1 23) "f") (argument None (types.Written (types.WrittenType.Vector (at 0 1 25) vector_word.Logic sign.Unwritten (Some (range (at 0 1 31) (system (at 0 1 32) "$bits" (tree.Expr.Post (root.Plain (name (at 0 1 38) "g")) (tree.Call (at 0 1 39) tree.NoExpr tree.NoSuffix) ∷ [])) (number (at 0 1 43) "0"))))) (name (at 0 1 46) "a") None ∷ [])) [] [] None) ∷ method unqualified (routine (head (at 0 1 62) life.Unwritten (units.Returns.Value (types.Written (types.WrittenType.Vector (at 0 1 71) vector_word.Logic sign.Unwritten (Some (range (at 0 1 77) (system (at 0 1 78) "$bits" (tree.Expr.Post (root.Plain (name (at 0 1 84) "f")) (tree.Call (at 0 1 85) (expressions (number (at 0 1 86) "1" ∷ [])) tree.NoSuffix) ∷ [])) (number (at 0 1 90) "0")))))) (name (at 0 1 93) "g") []) [] [] None) ∷ []) None)) ∷ module_ (at 0 1 119) life.Unwritten (name (at 0 1 126) "t") None [] [] None ∷ []

t45_broken : broken t45 [] None ≡ Some (fault 7 0 1 38)
unfolding symbols_of word_of
t45_broken = refl

-- module t; function automatic int g(enum {A, B} x, input logic [B:0] y); return y; endfunction initial $display("%0d", g(0, 7)); endmodule
abbrev t52 : List Description
t52 = module_ (at 0 1 1) life.Unwritten (name (at 0 1 8) "t") None [] (items.Routine (routine (head (at 0 1 11) life.Automatic (units.Returns.Value (types.Written (types.Atom (at 0 1 30) atom_word.Int sign.Unwritten))) (name (at 0 1 34) "g") (argument None (types.Written (types.Enum (at 0 1 36) (enum_item (name (at 0 1 42) "A") None ∷ enum_item (name (at 0 1 45) "B") None ∷ []))) (name (at 0 1 48) "x") None ∷ argument (Some direction.Input) (types.Written (types.WrittenType.Vector (at 0 1 57) vector_word.Logic sign.Unwritten (Some (range (at 0 1 63) (plain (at 0 1 64) "B") (number (at 0 1 66) "0"))))) (name (at 0 1 69) "y") None ∷ [])) [] (stmts.Statement (at 0 1 73) None (stmts.Return (Some (plain (at 0 1 80) "y"))) ∷ []) None) ∷ procedure (at 0 1 95) procedure_word.Initial (stmts.Statement (at 0 1 103) None (stmts.Call (system (at 0 1 103) "$display" (text (at 0 1 112) "%0d" ∷ tree.Expr.Post (root.Plain (name (at 0 1 119) "g")) (tree.Call (at 0 1 120) (expressions (number (at 0 1 121) "0" ∷ number (at 0 1 124) "7" ∷ [])) tree.NoSuffix) ∷ [])))) ∷ []) None ∷ []

t52_broken : broken t52 [] None ≡ Some (fault 17 0 1 121)
unfolding symbols_of word_of
t52_broken = refl

-- module t; task s(int a, a); int a; endtask endmodule
abbrev t53 : List Description
t53 = module_ (at 0 1 1) life.Unwritten (name (at 0 1 8) "t") None [] (items.Routine (routine (head (at 0 1 11) life.Unwritten units.Task (name (at 0 1 16) "s") (argument None (types.Written (types.Atom (at 0 1 18) atom_word.Int sign.Unwritten)) (name (at 0 1 22) "a") None ∷ argument None types.Unwritten (name (at 0 1 25) "a") None ∷ [])) (decl life.Unwritten (types.Atom (at 0 1 29) atom_word.Int sign.Unwritten) (declarator (name (at 0 1 33) "a") None None ∷ []) ∷ []) [] None) ∷ []) None ∷ []

t53_broken : broken t53 [] None ≡ Some (fault 5 0 1 25)
unfolding symbols_of word_of
t53_broken = refl

-- module t; task s(int a, input enum {A} b); int A; enum {A} c; endtask endmodule
abbrev t54 : List Description
t54 = module_ (at 0 1 1) life.Unwritten (name (at 0 1 8) "t") None [] (items.Routine (routine (head (at 0 1 11) life.Unwritten units.Task (name (at 0 1 16) "s") (argument None (types.Written (types.Atom (at 0 1 18) atom_word.Int sign.Unwritten)) (name (at 0 1 22) "a") None ∷ argument (Some direction.Input) (types.Written (types.Enum (at 0 1 31) (enum_item (name (at 0 1 37) "A") None ∷ []))) (name (at 0 1 40) "b") None ∷ [])) (decl life.Unwritten (types.Atom (at 0 1 44) atom_word.Int sign.Unwritten) (declarator (name (at 0 1 48) "A") None None ∷ []) ∷ decl life.Unwritten (types.Enum (at 0 1 51) (enum_item (name (at 0 1 57) "A") None ∷ [])) (declarator (name (at 0 1 60) "c") None None ∷ []) ∷ []) [] None) ∷ []) None ∷ []

t54_broken : broken t54 [] None ≡ Some (fault 5 0 1 48)
unfolding symbols_of word_of
t54_broken = refl

-- module t; class C; static logic [P:0] s; endclass localparam P = $bits(C::s); endmodule
abbrev t63 : List Description
t63 = module_ (at 0 1 1) life.Unwritten (name (at 0 1 8) "t") None [] (items.Class (class_ (at 0 1 11) false (name (at 0 1 17) "C") None (property (qualifiers false false true false) (decl life.Unwritten (types.WrittenType.Vector (at 0 1 27) vector_word.Logic sign.Unwritten (Some (range (at 0 1 33) (plain (at 0 1 34) "P") (number (at 0 1 36) "0")))) (declarator (name (at 0 1 39) "s") None None ∷ [])) ∷ []) None) ∷ items.Param (param param_word.Localparam types.Unwritten (value (name (at 0 1 62) "P") (system (at 0 1 66) "$bits" (tree.Expr.Post (root.Scoped (name (at 0 1 72) "C") (name (at 0 1 75) "s")) tree.NoSuffix ∷ [])) ∷ [])) ∷ []) None ∷ []

t63_broken : broken t63 [] None ≡ Some (fault 11 0 1 34)
unfolding symbols_of word_of
t63_broken = refl

-- class A; static logic [$bits(B::s):0] s; endclass class B extends A; endclass module t; endmodule
abbrev t64 : List Description
t64 = descriptions.Item (items.Class (class_ (at 0 1 1) false (name (at 0 1 7) "A") None (property (qualifiers false false true false) (decl life.Unwritten (types.WrittenType.Vector (at 0 1 17) vector_word.Logic sign.Unwritten (Some (range (at 0 1 23) (system (at 0 1 24) "$bits" (tree.Expr.Post (root.Scoped (name (at 0 1 30) "B") (name (at 0 1 33) "s")) tree.NoSuffix ∷ [])) (number (at 0 1 36) "0")))) (declarator (name (at 0 1 39) "s") None None ∷ [])) ∷ []) None)) ∷ descriptions.Item (items.Class (class_ (at 0 1 51) false (name (at 0 1 57) "B") (Some (name (at 0 1 67) "A")) [] None)) ∷ module_ (at 0 1 79) life.Unwritten (name (at 0 1 86) "t") None [] [] None ∷ []

t64_broken : broken t64 [] None ≡ Some (fault 7 0 1 33)
unfolding symbols_of word_of
t64_broken = refl

-- class C; logic [$bits(x):0] x; endclass module t; endmodule
abbrev t65 : List Description
t65 = descriptions.Item (items.Class (class_ (at 0 1 1) false (name (at 0 1 7) "C") None (property unqualified (decl life.Unwritten (types.WrittenType.Vector (at 0 1 10) vector_word.Logic sign.Unwritten (Some (range (at 0 1 16) (system (at 0 1 17) "$bits" (plain (at 0 1 23) "x" ∷ [])) (number (at 0 1 26) "0")))) (declarator (name (at 0 1 29) "x") None None ∷ [])) ∷ []) None)) ∷ module_ (at 0 1 41) life.Unwritten (name (at 0 1 48) "t") None [] [] None ∷ []

t65_broken : broken t65 [] None ≡ Some (fault 7 0 1 23)
unfolding symbols_of word_of
t65_broken = refl

-- class C; C h; logic [$bits(h.x):0] x; endclass module t; endmodule
abbrev t66 : List Description
t66 = descriptions.Item (items.Class (class_ (at 0 1 1) false (name (at 0 1 7) "C") None (property unqualified (decl life.Unwritten (types.Named (name (at 0 1 10) "C")) (declarator (name (at 0 1 12) "h") None None ∷ [])) ∷ property unqualified (decl life.Unwritten (types.WrittenType.Vector (at 0 1 15) vector_word.Logic sign.Unwritten (Some (range (at 0 1 21) (system (at 0 1 22) "$bits" (tree.Expr.Post (root.Plain (name (at 0 1 28) "h")) (tree.Member (name (at 0 1 30) "x") tree.NoSuffix) ∷ [])) (number (at 0 1 33) "0")))) (declarator (name (at 0 1 36) "x") None None ∷ [])) ∷ []) None)) ∷ module_ (at 0 1 48) life.Unwritten (name (at 0 1 55) "t") None [] [] None ∷ []

t66_broken : broken t66 [] None ≡ Some (fault 39 0 1 28)
unfolding symbols_of word_of
t66_broken = refl

-- class C; C h; logic [$bits(h.y):0] x; logic [$bits(this.x):0] y; endclass module t; endmodule
abbrev t67 : List Description
t67 = descriptions.Item (items.Class (class_ (at 0 1 1) false (name (at 0 1 7) "C") None (property unqualified (decl life.Unwritten (types.Named (name (at 0 1 10) "C")) (declarator (name (at 0 1 12) "h") None None ∷ [])) ∷ property unqualified (decl life.Unwritten (types.WrittenType.Vector (at 0 1 15) vector_word.Logic sign.Unwritten (Some (range (at 0 1 21) (system (at 0 1 22) "$bits" (tree.Expr.Post (root.Plain (name (at 0 1 28) "h")) (tree.Member (name (at 0 1 30) "y") tree.NoSuffix) ∷ [])) (number (at 0 1 33) "0")))) (declarator (name (at 0 1 36) "x") None None ∷ [])) ∷ property unqualified (decl life.Unwritten (types.WrittenType.Vector (at 0 1 39) vector_word.Logic sign.Unwritten (Some (range (at 0 1 45) (system (at 0 1 46) "$bits" (tree.Expr.Post (root.This (at 0 1 52)) (tree.Member (name (at 0 1 57) "x") tree.NoSuffix) ∷ [])) (number (at 0 1 60) "0")))) (declarator (name (at 0 1 63) "y") None None ∷ [])) ∷ []) None)) ∷ module_ (at 0 1 75) life.Unwritten (name (at 0 1 82) "t") None [] [] None ∷ []

t67_broken : broken t67 [] None ≡ Some (fault 39 0 1 28)
unfolding symbols_of word_of
t67_broken = refl

-- module t; function int f(logic [$bits(f):0] a); return 0; endfunction endmodule
abbrev t74 : List Description
t74 = module_ (at 0 1 1) life.Unwritten (name (at 0 1 8) "t") None [] (items.Routine (routine (head (at 0 1 11) life.Unwritten (units.Returns.Value (types.Written (types.Atom (at 0 1 20) atom_word.Int sign.Unwritten))) (name (at 0 1 24) "f") (argument None (types.Written (types.WrittenType.Vector (at 0 1 26) vector_word.Logic sign.Unwritten (Some (range (at 0 1 32) (system (at 0 1 33) "$bits" (plain (at 0 1 39) "f" ∷ [])) (number (at 0 1 42) "0"))))) (name (at 0 1 45) "a") None ∷ [])) [] (stmts.Statement (at 0 1 49) None (stmts.Return (Some (number (at 0 1 56) "0"))) ∷ []) None) ∷ []) None ∷ []

t74_broken : broken t74 [] None ≡ Some (fault 7 0 1 39)
unfolding symbols_of word_of
t74_broken = refl

-- module t; function logic [$bits(g()):0] f(); return 1; endfunction function logic [3:0] g(); return 2; endfunction initial $display("%0d", $bits(f())); endmodule
abbrev t75 : List Description
t75 = module_ (at 0 1 1) life.Unwritten (name (at 0 1 8) "t") None [] (items.Routine (routine (head (at 0 1 11) life.Unwritten (units.Returns.Value (types.Written (types.WrittenType.Vector (at 0 1 20) vector_word.Logic sign.Unwritten (Some (range (at 0 1 26) (system (at 0 1 27) "$bits" (tree.Expr.Post (root.Plain (name (at 0 1 33) "g")) (tree.Call (at 0 1 34) tree.NoExpr tree.NoSuffix) ∷ [])) (number (at 0 1 38) "0")))))) (name (at 0 1 41) "f") []) [] (stmts.Statement (at 0 1 46) None (stmts.Return (Some (number (at 0 1 53) "1"))) ∷ []) None) ∷ items.Routine (routine (head (at 0 1 68) life.Unwritten (units.Returns.Value (types.Written (types.WrittenType.Vector (at 0 1 77) vector_word.Logic sign.Unwritten (Some (range (at 0 1 83) (number (at 0 1 84) "3") (number (at 0 1 86) "0")))))) (name (at 0 1 89) "g") []) [] (stmts.Statement (at 0 1 94) None (stmts.Return (Some (number (at 0 1 101) "2"))) ∷ []) None) ∷ procedure (at 0 1 116) procedure_word.Initial (stmts.Statement (at 0 1 124) None (stmts.Call (system (at 0 1 124) "$display" (text (at 0 1 133) "%0d" ∷ system (at 0 1 140) "$bits" (tree.Expr.Post (root.Plain (name (at 0 1 146) "f")) (tree.Call (at 0 1 147) tree.NoExpr tree.NoSuffix) ∷ []) ∷ [])))) ∷ []) None ∷ []

t75_broken : broken t75 [] None ≡ Some (fault 11 0 1 27)
unfolding symbols_of word_of
t75_broken = refl

-- module t; function logic [$bits(x):0] f(); return 1; endfunction logic [$bits(f()):0] x; endmodule
abbrev t76 : List Description
t76 = module_ (at 0 1 1) life.Unwritten (name (at 0 1 8) "t") None [] (items.Routine (routine (head (at 0 1 11) life.Unwritten (units.Returns.Value (types.Written (types.WrittenType.Vector (at 0 1 20) vector_word.Logic sign.Unwritten (Some (range (at 0 1 26) (system (at 0 1 27) "$bits" (plain (at 0 1 33) "x" ∷ [])) (number (at 0 1 36) "0")))))) (name (at 0 1 39) "f") []) [] (stmts.Statement (at 0 1 44) None (stmts.Return (Some (number (at 0 1 51) "1"))) ∷ []) None) ∷ items.Decl (decl life.Unwritten (types.WrittenType.Vector (at 0 1 66) vector_word.Logic sign.Unwritten (Some (range (at 0 1 72) (system (at 0 1 73) "$bits" (tree.Expr.Post (root.Plain (name (at 0 1 79) "f")) (tree.Call (at 0 1 80) tree.NoExpr tree.NoSuffix) ∷ [])) (number (at 0 1 84) "0")))) (declarator (name (at 0 1 87) "x") None None ∷ [])) ∷ []) None ∷ []

t76_broken : broken t76 [] None ≡ Some (fault 7 0 1 33)
unfolding symbols_of word_of
t76_broken = refl

-- module t; logic [$bits(f(y)):0] x; function logic [$bits(x):0] f(int a); return 1; endfunction endmodule
abbrev t77 : List Description
t77 = module_ (at 0 1 1) life.Unwritten (name (at 0 1 8) "t") None [] (items.Decl (decl life.Unwritten (types.WrittenType.Vector (at 0 1 11) vector_word.Logic sign.Unwritten (Some (range (at 0 1 17) (system (at 0 1 18) "$bits" (tree.Expr.Post (root.Plain (name (at 0 1 24) "f")) (tree.Call (at 0 1 25) (expressions (plain (at 0 1 26) "y" ∷ [])) tree.NoSuffix) ∷ [])) (number (at 0 1 30) "0")))) (declarator (name (at 0 1 33) "x") None None ∷ [])) ∷ items.Routine (routine (head (at 0 1 36) life.Unwritten (units.Returns.Value (types.Written (types.WrittenType.Vector (at 0 1 45) vector_word.Logic sign.Unwritten (Some (range (at 0 1 51) (system (at 0 1 52) "$bits" (plain (at 0 1 58) "x" ∷ [])) (number (at 0 1 61) "0")))))) (name (at 0 1 64) "f") (argument None (types.Written (types.Atom (at 0 1 66) atom_word.Int sign.Unwritten)) (name (at 0 1 70) "a") None ∷ [])) [] (stmts.Statement (at 0 1 74) None (stmts.Return (Some (number (at 0 1 81) "1"))) ∷ []) None) ∷ []) None ∷ []

t77_broken : broken t77 [] None ≡ Some (fault 7 0 1 24)
unfolding symbols_of word_of
t77_broken = refl

-- module t; logic c; logic [P:0] x; clocking cb @(posedge c); input x; endclocking localparam P = $bits(cb.x); endmodule
abbrev t85 : List Description
t85 = module_ (at 0 1 1) life.Unwritten (name (at 0 1 8) "t") None [] (items.Decl (decl life.Unwritten (types.WrittenType.Vector (at 0 1 11) vector_word.Logic sign.Unwritten None) (declarator (name (at 0 1 17) "c") None None ∷ [])) ∷ items.Decl (decl life.Unwritten (types.WrittenType.Vector (at 0 1 20) vector_word.Logic sign.Unwritten (Some (range (at 0 1 26) (plain (at 0 1 27) "P") (number (at 0 1 29) "0")))) (declarator (name (at 0 1 32) "x") None None ∷ [])) ∷ clocking None (name (at 0 1 44) "cb") edge.Posedge (name (at 0 1 57) "c") (units.Signals (sided direction.Input None ∷ []) (name (at 0 1 67) "x" ∷ []) ∷ []) None ∷ items.Param (param param_word.Localparam types.Unwritten (value (name (at 0 1 93) "P") (system (at 0 1 97) "$bits" (tree.Expr.Post (root.Plain (name (at 0 1 103) "cb")) (tree.Member (name (at 0 1 106) "x") tree.NoSuffix) ∷ [])) ∷ [])) ∷ []) None ∷ []

t85_broken : broken t85 [] None ≡ Some (fault 11 0 1 27)
unfolding symbols_of word_of
t85_broken = refl

-- module t; logic c; localparam P = $bits(cb.x); logic [P:0] x; clocking cb @(posedge c); input x; endclocking endmodule
abbrev t86 : List Description
t86 = module_ (at 0 1 1) life.Unwritten (name (at 0 1 8) "t") None [] (items.Decl (decl life.Unwritten (types.WrittenType.Vector (at 0 1 11) vector_word.Logic sign.Unwritten None) (declarator (name (at 0 1 17) "c") None None ∷ [])) ∷ items.Param (param param_word.Localparam types.Unwritten (value (name (at 0 1 31) "P") (system (at 0 1 35) "$bits" (tree.Expr.Post (root.Plain (name (at 0 1 41) "cb")) (tree.Member (name (at 0 1 44) "x") tree.NoSuffix) ∷ [])) ∷ [])) ∷ items.Decl (decl life.Unwritten (types.WrittenType.Vector (at 0 1 48) vector_word.Logic sign.Unwritten (Some (range (at 0 1 54) (plain (at 0 1 55) "P") (number (at 0 1 57) "0")))) (declarator (name (at 0 1 60) "x") None None ∷ [])) ∷ clocking None (name (at 0 1 72) "cb") edge.Posedge (name (at 0 1 85) "c") (units.Signals (sided direction.Input None ∷ []) (name (at 0 1 95) "x" ∷ []) ∷ []) None ∷ []) None ∷ []

t86_broken : broken t86 [] None ≡ Some (fault 7 0 1 41)
unfolding symbols_of word_of
t86_broken = refl

-- class A; static logic [$bits(B::s):0] s; endclass class B extends A; static int r[$bits(A::s)]; endclass module t; endmodule
abbrev t87 : List Description
t87 = descriptions.Item (items.Class (class_ (at 0 1 1) false (name (at 0 1 7) "A") None (property (qualifiers false false true false) (decl life.Unwritten (types.WrittenType.Vector (at 0 1 17) vector_word.Logic sign.Unwritten (Some (range (at 0 1 23) (system (at 0 1 24) "$bits" (tree.Expr.Post (root.Scoped (name (at 0 1 30) "B") (name (at 0 1 33) "s")) tree.NoSuffix ∷ [])) (number (at 0 1 36) "0")))) (declarator (name (at 0 1 39) "s") None None ∷ [])) ∷ []) None)) ∷ descriptions.Item (items.Class (class_ (at 0 1 51) false (name (at 0 1 57) "B") (Some (name (at 0 1 67) "A")) (property (qualifiers false false true false) (decl life.Unwritten (types.Atom (at 0 1 77) atom_word.Int sign.Unwritten) (declarator (name (at 0 1 81) "r") (Some (stmts.Size (at 0 1 82) (system (at 0 1 83) "$bits" (tree.Expr.Post (root.Scoped (name (at 0 1 89) "A") (name (at 0 1 92) "s")) tree.NoSuffix ∷ [])))) None ∷ [])) ∷ []) None)) ∷ module_ (at 0 1 106) life.Unwritten (name (at 0 1 113) "t") None [] [] None ∷ []

t87_broken : broken t87 [] None ≡ Some (fault 7 0 1 33)
unfolding symbols_of word_of
t87_broken = refl

-- class A; logic [$bits(r):0] s; int r; endclass class B extends A; logic [$bits(s):0] u; function new(); super.new(); $display("%0d %0d", $bits(s), $bits(super.s)); endfunction endclass module t; B b; initial b = new; endmodule
abbrev t88 : List Description
t88 = descriptions.Item (items.Class (class_ (at 0 1 1) false (name (at 0 1 7) "A") None (property unqualified (decl life.Unwritten (types.WrittenType.Vector (at 0 1 10) vector_word.Logic sign.Unwritten (Some (range (at 0 1 16) (system (at 0 1 17) "$bits" (plain (at 0 1 23) "r" ∷ [])) (number (at 0 1 26) "0")))) (declarator (name (at 0 1 29) "s") None None ∷ [])) ∷ property unqualified (decl life.Unwritten (types.Atom (at 0 1 32) atom_word.Int sign.Unwritten) (declarator (name (at 0 1 36) "r") None None ∷ [])) ∷ []) None)) ∷ descriptions.Item (items.Class (class_ (at 0 1 48) false (name (at 0 1 54) "B") (Some (name (at 0 1 64) "A")) (property unqualified (decl life.Unwritten (types.WrittenType.Vector (at 0 1 67) vector_word.Logic sign.Unwritten (Some (range (at 0 1 73) (system (at 0 1 74) "$bits" (plain (at 0 1 80) "s" ∷ [])) (number (at 0 1 83) "0")))) (declarator (name (at 0 1 86) "u") None None ∷ [])) ∷ method unqualified (routine (head (at 0 1 89) life.Unwritten (units.Returns.Value types.Unwritten) (name (at 0 1 98) "new") []) [] (stmts.Statement (at 0 1 105) None (stmts.Call (tree.SuperNew (at 0 1 105) (at 0 1 111) (tree.Written tree.NoExpr))) ∷ stmts.Statement (at 0 1 118) None (stmts.Call (system (at 0 1 118) "$display" (text (at 0 1 127) "%0d %0d" ∷ system (at 0 1 138) "$bits" (plain (at 0 1 144) "s" ∷ []) ∷ system (at 0 1 148) "$bits" (tree.Expr.Post (root.Super (at 0 1 154) (name (at 0 1 160) "s")) tree.NoSuffix ∷ []) ∷ []))) ∷ []) None) ∷ []) None)) ∷ module_ (at 0 1 186) life.Unwritten (name (at 0 1 193) "t") None [] (items.Decl (decl life.Unwritten (types.Named (name (at 0 1 196) "B")) (declarator (name (at 0 1 198) "b") None None ∷ [])) ∷ procedure (at 0 1 201) procedure_word.Initial (stmts.Statement (at 0 1 209) None (blocking (target (at 0 1 209) "b") None (stmts.New (at 0 1 213) tree.Unwritten))) ∷ []) None ∷ []

t88_broken : broken t88 [] None ≡ Some (fault 39 0 1 23)
unfolding symbols_of word_of
t88_broken = refl

-- class A; function logic [$bits(super.s):0] s(); endfunction endclass module t; endmodule
abbrev t89 : List Description
t89 = descriptions.Item (items.Class (class_ (at 0 1 1) false (name (at 0 1 7) "A") None (method unqualified (routine (head (at 0 1 10) life.Unwritten (units.Returns.Value (types.Written (types.WrittenType.Vector (at 0 1 19) vector_word.Logic sign.Unwritten (Some (range (at 0 1 25) (system (at 0 1 26) "$bits" (tree.Expr.Post (root.Super (at 0 1 32) (name (at 0 1 38) "s")) tree.NoSuffix ∷ [])) (number (at 0 1 41) "0")))))) (name (at 0 1 44) "s") []) [] [] None) ∷ []) None)) ∷ module_ (at 0 1 70) life.Unwritten (name (at 0 1 77) "t") None [] [] None ∷ []

t89_broken : broken t89 [] None ≡ Some (fault 38 0 1 32)
unfolding symbols_of word_of
t89_broken = refl

-- class C; enum {A = C::B} x; enum {B = C::A} y; endclass module t; endmodule
abbrev t90 : List Description
t90 = descriptions.Item (items.Class (class_ (at 0 1 1) false (name (at 0 1 7) "C") None (property unqualified (decl life.Unwritten (types.Enum (at 0 1 10) (enum_item (name (at 0 1 16) "A") (Some (tree.Expr.Post (root.Scoped (name (at 0 1 20) "C") (name (at 0 1 23) "B")) tree.NoSuffix)) ∷ [])) (declarator (name (at 0 1 26) "x") None None ∷ [])) ∷ property unqualified (decl life.Unwritten (types.Enum (at 0 1 29) (enum_item (name (at 0 1 35) "B") (Some (tree.Expr.Post (root.Scoped (name (at 0 1 39) "C") (name (at 0 1 42) "A")) tree.NoSuffix)) ∷ [])) (declarator (name (at 0 1 45) "y") None None ∷ [])) ∷ []) None)) ∷ module_ (at 0 1 57) life.Unwritten (name (at 0 1 64) "t") None [] [] None ∷ []

t90_broken : broken t90 [] None ≡ Some (fault 11 0 1 20)
unfolding symbols_of word_of
t90_broken = refl

-- class C; C h; enum logic [h.A:0] {A} x; endclass module t; endmodule
abbrev t91 : List Description
t91 = descriptions.Item (items.Class (class_ (at 0 1 1) false (name (at 0 1 7) "C") None (property unqualified (decl life.Unwritten (types.Named (name (at 0 1 10) "C")) (declarator (name (at 0 1 12) "h") None None ∷ [])) ∷ property unqualified (decl life.Unwritten (types.EnumOf (at 0 1 15) (types.WrittenType.Vector (at 0 1 20) vector_word.Logic sign.Unwritten (Some (range (at 0 1 26) (tree.Expr.Post (root.Plain (name (at 0 1 27) "h")) (tree.Member (name (at 0 1 29) "A") tree.NoSuffix)) (number (at 0 1 31) "0")))) (enum_item (name (at 0 1 35) "A") None ∷ [])) (declarator (name (at 0 1 38) "x") None None ∷ [])) ∷ []) None)) ∷ module_ (at 0 1 50) life.Unwritten (name (at 0 1 57) "t") None [] [] None ∷ []

t91_broken : broken t91 [] None ≡ Some (fault 39 0 1 27)
unfolding symbols_of word_of
t91_broken = refl

-- class C; typedef logic [$bits(C::s):0] w; static w s; endclass module t; endmodule
abbrev t92 : List Description
t92 = descriptions.Item (items.Class (class_ (at 0 1 1) false (name (at 0 1 7) "C") None (classes.Typedef (typedef (types.WrittenType.Vector (at 0 1 18) vector_word.Logic sign.Unwritten (Some (range (at 0 1 24) (system (at 0 1 25) "$bits" (tree.Expr.Post (root.Scoped (name (at 0 1 31) "C") (name (at 0 1 34) "s")) tree.NoSuffix ∷ [])) (number (at 0 1 37) "0")))) (name (at 0 1 40) "w")) ∷ property (qualifiers false false true false) (decl life.Unwritten (types.Named (name (at 0 1 50) "w")) (declarator (name (at 0 1 52) "s") None None ∷ [])) ∷ []) None)) ∷ module_ (at 0 1 64) life.Unwritten (name (at 0 1 71) "t") None [] [] None ∷ []

t92_broken : broken t92 [] None ≡ Some (fault 7 0 1 34)
unfolding symbols_of word_of
t92_broken = refl

-- module t; class C; static logic [$bits(C::s):0] s; endclass localparam P = $bits(C::s); logic [P:0] v; endmodule
abbrev t93 : List Description
t93 = module_ (at 0 1 1) life.Unwritten (name (at 0 1 8) "t") None [] (items.Class (class_ (at 0 1 11) false (name (at 0 1 17) "C") None (property (qualifiers false false true false) (decl life.Unwritten (types.WrittenType.Vector (at 0 1 27) vector_word.Logic sign.Unwritten (Some (range (at 0 1 33) (system (at 0 1 34) "$bits" (tree.Expr.Post (root.Scoped (name (at 0 1 40) "C") (name (at 0 1 43) "s")) tree.NoSuffix ∷ [])) (number (at 0 1 46) "0")))) (declarator (name (at 0 1 49) "s") None None ∷ [])) ∷ []) None) ∷ items.Param (param param_word.Localparam types.Unwritten (value (name (at 0 1 72) "P") (system (at 0 1 76) "$bits" (tree.Expr.Post (root.Scoped (name (at 0 1 82) "C") (name (at 0 1 85) "s")) tree.NoSuffix ∷ [])) ∷ [])) ∷ items.Decl (decl life.Unwritten (types.WrittenType.Vector (at 0 1 89) vector_word.Logic sign.Unwritten (Some (range (at 0 1 95) (plain (at 0 1 96) "P") (number (at 0 1 98) "0")))) (declarator (name (at 0 1 101) "v") None None ∷ [])) ∷ []) None ∷ []

t93_broken : broken t93 [] None ≡ Some (fault 7 0 1 43)
unfolding symbols_of word_of
t93_broken = refl
