-- Names whose declaration is of another kind than is wanted, or breaks a rule itself.
use Rattle.std.proofs.Common.{◌≡◌, List, [], ◌∷◌, false, refl}
use Rattle.std.specs.Prelude.{Some, None}
use Rattle.sv_value.specs.Vector.{symbols_of, word_of}
use Rattle.sv_tree.specs.declared.word.BinaryWord.TheVariants as binary_word
use Rattle.sv_tree.specs.declared.word.VectorWord.TheVariants as vector_word
use Rattle.sv_tree.specs.declared.word.AtomWord.TheVariants as atom_word
use Rattle.sv_tree.specs.declared.word.Sign.TheVariants as sign
use Rattle.sv_tree.specs.declared.word.Life.TheVariants as life
use Rattle.sv_tree.specs.declared.word.EdgeWord.TheVariants as edge
use Rattle.sv_tree.specs.declared.word.ProcedureWord.TheVariants as procedure_word
use Rattle.sv_tree.specs.declared.word.Direction.TheVariants as direction
use Rattle.sv_tree.specs.declared.word.PortDirection.TheVariants as port_direction
use Rattle.sv_tree.specs.declared.word.ParamWord.TheVariants as param_word
use Rattle.sv_tree.specs.declared.expr.Root.TheVariants as root
use Rattle.sv_tree.specs.declared.expr.CastType.TheVariants as cast
use Rattle.sv_tree.specs.Expr as tree
use Rattle.sv_tree.specs.Types as types
use Rattle.sv_tree.specs.Stmt as stmts
use Rattle.sv_tree.specs.Units as units
use Rattle.sv_tree.specs.Classes as classes
use Rattle.sv_tree.specs.Items as items
use Rattle.sv_tree.specs.Descriptions as descriptions
use Rattle.sv_tree.specs.Descriptions.{Description}
use Rattle.sv_names.specs.Design.{broken}
use Rattle.sv_names_rows.proofs.Kit.{argument, at, blocking, class_, clocking, decl, declarator, event_part, fault, head, instance, instances, method, module_, name, number, param, plain, port, procedure, property, routine, sided, statements, system, target, typedef, unqualified, value}

-- module t; int x; initial x = T; typedef undef T; endmodule
abbrev t1 : List Description
t1 = module_ (at 0 1 1) life.Unwritten (name (at 0 1 8) "t") None [] (items.Decl (decl life.Unwritten (types.Atom (at 0 1 11) atom_word.Int sign.Unwritten) (declarator (name (at 0 1 15) "x") None None ∷ [])) ∷ procedure (at 0 1 18) procedure_word.Initial (stmts.Statement (at 0 1 26) None (blocking (target (at 0 1 26) "x") None (stmts.Value (plain (at 0 1 30) "T")))) ∷ items.Typedef (typedef (types.Named (name (at 0 1 41) "undef")) (name (at 0 1 47) "T")) ∷ []) None ∷ []

t1_broken : broken t1 [] None ≡ Some (fault 7 0 1 30)
unfolding symbols_of word_of
t1_broken = refl

-- module t; int x; initial x = f; function undef f(); endfunction endmodule
abbrev t2 : List Description
t2 = module_ (at 0 1 1) life.Unwritten (name (at 0 1 8) "t") None [] (items.Decl (decl life.Unwritten (types.Atom (at 0 1 11) atom_word.Int sign.Unwritten) (declarator (name (at 0 1 15) "x") None None ∷ [])) ∷ procedure (at 0 1 18) procedure_word.Initial (stmts.Statement (at 0 1 26) None (blocking (target (at 0 1 26) "x") None (stmts.Value (plain (at 0 1 30) "f")))) ∷ items.Routine (routine (head (at 0 1 33) life.Unwritten (units.Returns.Value (types.Written (types.Named (name (at 0 1 42) "undef")))) (name (at 0 1 48) "f") []) [] [] None) ∷ []) None ∷ []

t2_broken : broken t2 [] None ≡ Some (fault 7 0 1 30)
unfolding symbols_of word_of
t2_broken = refl

-- module t; v y; undef v; endmodule
abbrev t3 : List Description
t3 = module_ (at 0 1 1) life.Unwritten (name (at 0 1 8) "t") None [] (items.Decl (decl life.Unwritten (types.Named (name (at 0 1 11) "v")) (declarator (name (at 0 1 13) "y") None None ∷ [])) ∷ items.Decl (decl life.Unwritten (types.Named (name (at 0 1 16) "undef")) (declarator (name (at 0 1 22) "v") None None ∷ [])) ∷ []) None ∷ []

t3_broken : broken t3 [] None ≡ Some (fault 7 0 1 11)
unfolding symbols_of word_of
t3_broken = refl

-- module t; logic c; clocking cb @(posedge c); input P; endclocking localparam P = undef; endmodule
abbrev t4 : List Description
t4 = module_ (at 0 1 1) life.Unwritten (name (at 0 1 8) "t") None [] (items.Decl (decl life.Unwritten (types.WrittenType.Vector (at 0 1 11) vector_word.Logic sign.Unwritten None) (declarator (name (at 0 1 17) "c") None None ∷ [])) ∷ clocking None (name (at 0 1 29) "cb") edge.Posedge (name (at 0 1 42) "c") (units.Signals (sided direction.Input None ∷ []) (name (at 0 1 52) "P" ∷ []) ∷ []) None ∷ items.Param (param param_word.Localparam types.Unwritten (value (name (at 0 1 78) "P") (plain (at 0 1 82) "undef") ∷ [])) ∷ []) None ∷ []

t4_broken : broken t4 [] None ≡ Some (fault 46 0 1 52)
unfolding symbols_of word_of
t4_broken = refl

-- module t; logic c; clocking cb @(posedge P); endclocking localparam P = undef; endmodule
abbrev t5 : List Description
t5 = module_ (at 0 1 1) life.Unwritten (name (at 0 1 8) "t") None [] (items.Decl (decl life.Unwritten (types.WrittenType.Vector (at 0 1 11) vector_word.Logic sign.Unwritten None) (declarator (name (at 0 1 17) "c") None None ∷ [])) ∷ clocking None (name (at 0 1 29) "cb") edge.Posedge (name (at 0 1 42) "P") [] None ∷ items.Param (param param_word.Localparam types.Unwritten (value (name (at 0 1 69) "P") (plain (at 0 1 73) "undef") ∷ [])) ∷ []) None ∷ []

t5_broken : broken t5 [] None ≡ Some (fault 45 0 1 42)
unfolding symbols_of word_of
t5_broken = refl

-- module t; int x; initial v(); undef v; endmodule
abbrev t6 : List Description
t6 = module_ (at 0 1 1) life.Unwritten (name (at 0 1 8) "t") None [] (items.Decl (decl life.Unwritten (types.Atom (at 0 1 11) atom_word.Int sign.Unwritten) (declarator (name (at 0 1 15) "x") None None ∷ [])) ∷ procedure (at 0 1 18) procedure_word.Initial (stmts.Statement (at 0 1 26) None (stmts.Call (tree.Expr.Post (root.Plain (name (at 0 1 26) "v")) (tree.Call (at 0 1 27) tree.NoExpr tree.NoSuffix)))) ∷ items.Decl (decl life.Unwritten (types.Named (name (at 0 1 31) "undef")) (declarator (name (at 0 1 37) "v") None None ∷ [])) ∷ []) None ∷ []

t6_broken : broken t6 [] None ≡ Some (fault 6 0 1 31)
unfolding symbols_of word_of
t6_broken = refl

-- module t; int x; initial x = v::s; undef v; endmodule
abbrev t7 : List Description
t7 = module_ (at 0 1 1) life.Unwritten (name (at 0 1 8) "t") None [] (items.Decl (decl life.Unwritten (types.Atom (at 0 1 11) atom_word.Int sign.Unwritten) (declarator (name (at 0 1 15) "x") None None ∷ [])) ∷ procedure (at 0 1 18) procedure_word.Initial (stmts.Statement (at 0 1 26) None (blocking (target (at 0 1 26) "x") None (stmts.Value (tree.Expr.Post (root.Scoped (name (at 0 1 30) "v") (name (at 0 1 33) "s")) tree.NoSuffix)))) ∷ items.Decl (decl life.Unwritten (types.Named (name (at 0 1 36) "undef")) (declarator (name (at 0 1 42) "v") None None ∷ [])) ∷ []) None ∷ []

t7_broken : broken t7 [] None ≡ Some (fault 7 0 1 30)
unfolding symbols_of word_of
t7_broken = refl

-- module t; initial T = 1; typedef undef T; endmodule
abbrev t8 : List Description
t8 = module_ (at 0 1 1) life.Unwritten (name (at 0 1 8) "t") None [] (procedure (at 0 1 11) procedure_word.Initial (stmts.Statement (at 0 1 19) None (blocking (target (at 0 1 19) "T") None (stmts.Value (number (at 0 1 23) "1")))) ∷ items.Typedef (typedef (types.Named (name (at 0 1 34) "undef")) (name (at 0 1 40) "T")) ∷ []) None ∷ []

t8_broken : broken t8 [] None ≡ Some (fault 7 0 1 19)
unfolding symbols_of word_of
t8_broken = refl

-- module t; initial @(T) ; typedef undef T; endmodule
abbrev t9 : List Description
t9 = module_ (at 0 1 1) life.Unwritten (name (at 0 1 8) "t") None [] (procedure (at 0 1 11) procedure_word.Initial (stmts.Statement (at 0 1 19) None (stmts.On (stmts.Parts (event_part edge.Unwritten (plain (at 0 1 21) "T") None ∷ [])) (stmts.Statement (at 0 1 24) None stmts.Null))) ∷ items.Typedef (typedef (types.Named (name (at 0 1 34) "undef")) (name (at 0 1 40) "T")) ∷ []) None ∷ []

t9_broken : broken t9 [] None ≡ Some (fault 7 0 1 21)
unfolding symbols_of word_of
t9_broken = refl

-- module t; initial T; typedef undef T; endmodule
abbrev t10 : List Description
t10 = module_ (at 0 1 1) life.Unwritten (name (at 0 1 8) "t") None [] (procedure (at 0 1 11) procedure_word.Initial (stmts.Statement (at 0 1 19) None (stmts.Call (plain (at 0 1 19) "T"))) ∷ items.Typedef (typedef (types.Named (name (at 0 1 30) "undef")) (name (at 0 1 36) "T")) ∷ []) None ∷ []

t10_broken : broken t10 [] None ≡ Some (fault 7 0 1 19)
unfolding symbols_of word_of
t10_broken = refl

-- module t; int x; initial x = T[3] + T.y; typedef undef T; endmodule
abbrev t11 : List Description
t11 = module_ (at 0 1 1) life.Unwritten (name (at 0 1 8) "t") None [] (items.Decl (decl life.Unwritten (types.Atom (at 0 1 11) atom_word.Int sign.Unwritten) (declarator (name (at 0 1 15) "x") None None ∷ [])) ∷ procedure (at 0 1 18) procedure_word.Initial (stmts.Statement (at 0 1 26) None (blocking (target (at 0 1 26) "x") None (stmts.Value (tree.Binary binary_word.Plus (at 0 1 35) (tree.Expr.Post (root.Plain (name (at 0 1 30) "T")) (tree.Select (at 0 1 31) (number (at 0 1 32) "3") tree.NoSuffix)) (tree.Expr.Post (root.Plain (name (at 0 1 37) "T")) (tree.Member (name (at 0 1 39) "y") tree.NoSuffix)))))) ∷ items.Typedef (typedef (types.Named (name (at 0 1 50) "undef")) (name (at 0 1 56) "T")) ∷ []) None ∷ []

t11_broken : broken t11 [] None ≡ Some (fault 7 0 1 30)
unfolding symbols_of word_of
t11_broken = refl

-- module t; int x; initial x = $bits(T); typedef undef T; endmodule
abbrev t12 : List Description
t12 = module_ (at 0 1 1) life.Unwritten (name (at 0 1 8) "t") None [] (items.Decl (decl life.Unwritten (types.Atom (at 0 1 11) atom_word.Int sign.Unwritten) (declarator (name (at 0 1 15) "x") None None ∷ [])) ∷ procedure (at 0 1 18) procedure_word.Initial (stmts.Statement (at 0 1 26) None (blocking (target (at 0 1 26) "x") None (stmts.Value (system (at 0 1 30) "$bits" (plain (at 0 1 36) "T" ∷ []))))) ∷ items.Typedef (typedef (types.Named (name (at 0 1 48) "undef")) (name (at 0 1 54) "T")) ∷ []) None ∷ []

t12_broken : broken t12 [] None ≡ Some (fault 6 0 1 48)
unfolding symbols_of word_of
t12_broken = refl

-- module t; P x; localparam P = undef; endmodule
abbrev t13 : List Description
t13 = module_ (at 0 1 1) life.Unwritten (name (at 0 1 8) "t") None [] (items.Decl (decl life.Unwritten (types.Named (name (at 0 1 11) "P")) (declarator (name (at 0 1 13) "x") None None ∷ [])) ∷ items.Param (param param_word.Localparam types.Unwritten (value (name (at 0 1 27) "P") (plain (at 0 1 31) "undef") ∷ [])) ∷ []) None ∷ []

t13_broken : broken t13 [] None ≡ Some (fault 7 0 1 11)
unfolding symbols_of word_of
t13_broken = refl

-- module u(input logic P); endmodule module t; u x(.P); localparam P = undef; endmodule
abbrev t14 : List Description
t14 = module_ (at 0 1 1) life.Unwritten (name (at 0 1 8) "u") None (port (Some port_direction.Input) false (types.Written (types.WrittenType.Vector (at 0 1 16) vector_word.Logic sign.Unwritten None)) (name (at 0 1 22) "P") ∷ []) [] None ∷ module_ (at 0 1 36) life.Unwritten (name (at 0 1 43) "t") None [] (instances (name (at 0 1 46) "u") [] (instance (name (at 0 1 48) "x") (units.Named (at 0 1 50) (name (at 0 1 51) "P") ∷ []) ∷ []) ∷ items.Param (param param_word.Localparam types.Unwritten (value (name (at 0 1 66) "P") (plain (at 0 1 70) "undef") ∷ [])) ∷ []) None ∷ []

t14_broken : broken t14 [] None ≡ Some (fault 9 0 1 50)
unfolding symbols_of word_of
t14_broken = refl

-- module u(input logic P); endmodule module t; u x(.*); localparam P = undef; endmodule
abbrev t15 : List Description
t15 = module_ (at 0 1 1) life.Unwritten (name (at 0 1 8) "u") None (port (Some port_direction.Input) false (types.Written (types.WrittenType.Vector (at 0 1 16) vector_word.Logic sign.Unwritten None)) (name (at 0 1 22) "P") ∷ []) [] None ∷ module_ (at 0 1 36) life.Unwritten (name (at 0 1 43) "t") None [] (instances (name (at 0 1 46) "u") [] (instance (name (at 0 1 48) "x") (units.All (at 0 1 50) ∷ []) ∷ []) ∷ items.Param (param param_word.Localparam types.Unwritten (value (name (at 0 1 66) "P") (plain (at 0 1 70) "undef") ∷ [])) ∷ []) None ∷ []

t15_broken : broken t15 [] None ≡ Some (fault 9 0 1 50)
unfolding symbols_of word_of
t15_broken = refl

-- module u(input logic P); endmodule module t; u x(.P); undef P; endmodule
abbrev t16 : List Description
t16 = module_ (at 0 1 1) life.Unwritten (name (at 0 1 8) "u") None (port (Some port_direction.Input) false (types.Written (types.WrittenType.Vector (at 0 1 16) vector_word.Logic sign.Unwritten None)) (name (at 0 1 22) "P") ∷ []) [] None ∷ module_ (at 0 1 36) life.Unwritten (name (at 0 1 43) "t") None [] (instances (name (at 0 1 46) "u") [] (instance (name (at 0 1 48) "x") (units.Named (at 0 1 50) (name (at 0 1 51) "P") ∷ []) ∷ []) ∷ items.Decl (decl life.Unwritten (types.Named (name (at 0 1 55) "undef")) (declarator (name (at 0 1 61) "P") None None ∷ [])) ∷ []) None ∷ []

t16_broken : broken t16 [] None ≡ Some (fault 6 0 1 55)
unfolding symbols_of word_of
t16_broken = refl

-- module t; f x; function undef f(); endfunction endmodule
abbrev t17 : List Description
t17 = module_ (at 0 1 1) life.Unwritten (name (at 0 1 8) "t") None [] (items.Decl (decl life.Unwritten (types.Named (name (at 0 1 11) "f")) (declarator (name (at 0 1 13) "x") None None ∷ [])) ∷ items.Routine (routine (head (at 0 1 16) life.Unwritten (units.Returns.Value (types.Written (types.Named (name (at 0 1 25) "undef")))) (name (at 0 1 31) "f") []) [] [] None) ∷ []) None ∷ []

t17_broken : broken t17 [] None ≡ Some (fault 7 0 1 11)
unfolding symbols_of word_of
t17_broken = refl

-- class C; undef x; x y; endclass module t; endmodule
abbrev t18 : List Description
t18 = descriptions.Item (items.Class (class_ (at 0 1 1) false (name (at 0 1 7) "C") None (property unqualified (decl life.Unwritten (types.Named (name (at 0 1 10) "undef")) (declarator (name (at 0 1 16) "x") None None ∷ [])) ∷ property unqualified (decl life.Unwritten (types.Named (name (at 0 1 19) "x")) (declarator (name (at 0 1 21) "y") None None ∷ [])) ∷ []) None)) ∷ module_ (at 0 1 33) life.Unwritten (name (at 0 1 40) "t") None [] [] None ∷ []

t18_broken : broken t18 [] None ≡ Some (fault 6 0 1 10)
unfolding symbols_of word_of
t18_broken = refl

-- class C; typedef undef w; function int f(); return w; endfunction endclass module t; endmodule
abbrev t19 : List Description
t19 = descriptions.Item (items.Class (class_ (at 0 1 1) false (name (at 0 1 7) "C") None (classes.Typedef (typedef (types.Named (name (at 0 1 18) "undef")) (name (at 0 1 24) "w")) ∷ method unqualified (routine (head (at 0 1 27) life.Unwritten (units.Returns.Value (types.Written (types.Atom (at 0 1 36) atom_word.Int sign.Unwritten))) (name (at 0 1 40) "f") []) [] (stmts.Statement (at 0 1 45) None (stmts.Return (Some (plain (at 0 1 52) "w"))) ∷ []) None) ∷ []) None)) ∷ module_ (at 0 1 76) life.Unwritten (name (at 0 1 83) "t") None [] [] None ∷ []

t19_broken : broken t19 [] None ≡ Some (fault 6 0 1 18)
unfolding symbols_of word_of
t19_broken = refl

-- class A; typedef undef w; endclass class B extends A; function int f(); return w; endfunction endclass module t; endmodule
abbrev t20 : List Description
t20 = descriptions.Item (items.Class (class_ (at 0 1 1) false (name (at 0 1 7) "A") None (classes.Typedef (typedef (types.Named (name (at 0 1 18) "undef")) (name (at 0 1 24) "w")) ∷ []) None)) ∷ descriptions.Item (items.Class (class_ (at 0 1 36) false (name (at 0 1 42) "B") (Some (name (at 0 1 52) "A")) (method unqualified (routine (head (at 0 1 55) life.Unwritten (units.Returns.Value (types.Written (types.Atom (at 0 1 64) atom_word.Int sign.Unwritten))) (name (at 0 1 68) "f") []) [] (stmts.Statement (at 0 1 73) None (stmts.Return (Some (plain (at 0 1 80) "w"))) ∷ []) None) ∷ []) None)) ∷ module_ (at 0 1 104) life.Unwritten (name (at 0 1 111) "t") None [] [] None ∷ []

t20_broken : broken t20 [] None ≡ Some (fault 6 0 1 18)
unfolding symbols_of word_of
t20_broken = refl

-- module t; initial begin : b int y; y = T; end typedef undef T; endmodule
abbrev t21 : List Description
t21 = module_ (at 0 1 1) life.Unwritten (name (at 0 1 8) "t") None [] (procedure (at 0 1 11) procedure_word.Initial (stmts.Statement (at 0 1 19) None (stmts.Block (Some (name (at 0 1 27) "b")) (decl life.Unwritten (types.Atom (at 0 1 29) atom_word.Int sign.Unwritten) (declarator (name (at 0 1 33) "y") None None ∷ []) ∷ []) (statements (stmts.Statement (at 0 1 36) None (blocking (target (at 0 1 36) "y") None (stmts.Value (plain (at 0 1 40) "T"))) ∷ [])) None)) ∷ items.Typedef (typedef (types.Named (name (at 0 1 55) "undef")) (name (at 0 1 61) "T")) ∷ []) None ∷ []

t21_broken : broken t21 [] None ≡ Some (fault 7 0 1 40)
unfolding symbols_of word_of
t21_broken = refl

-- module t; function int f(T a); return T; endfunction typedef undef T; endmodule
abbrev t22 : List Description
t22 = module_ (at 0 1 1) life.Unwritten (name (at 0 1 8) "t") None [] (items.Routine (routine (head (at 0 1 11) life.Unwritten (units.Returns.Value (types.Written (types.Atom (at 0 1 20) atom_word.Int sign.Unwritten))) (name (at 0 1 24) "f") (argument None (types.Written (types.Named (name (at 0 1 26) "T"))) (name (at 0 1 28) "a") None ∷ [])) [] (stmts.Statement (at 0 1 32) None (stmts.Return (Some (plain (at 0 1 39) "T"))) ∷ []) None) ∷ items.Typedef (typedef (types.Named (name (at 0 1 62) "undef")) (name (at 0 1 68) "T")) ∷ []) None ∷ []

t22_broken : broken t22 [] None ≡ Some (fault 7 0 1 39)
unfolding symbols_of word_of
t22_broken = refl

-- module t; localparam P = T; typedef undef T; endmodule
abbrev t23 : List Description
t23 = module_ (at 0 1 1) life.Unwritten (name (at 0 1 8) "t") None [] (items.Param (param param_word.Localparam types.Unwritten (value (name (at 0 1 22) "P") (plain (at 0 1 26) "T") ∷ [])) ∷ items.Typedef (typedef (types.Named (name (at 0 1 37) "undef")) (name (at 0 1 43) "T")) ∷ []) None ∷ []

t23_broken : broken t23 [] None ≡ Some (fault 7 0 1 26)
unfolding symbols_of word_of
t23_broken = refl

-- module t; initial foreach (T[i]) ; typedef undef T; endmodule
abbrev t24 : List Description
t24 = module_ (at 0 1 1) life.Unwritten (name (at 0 1 8) "t") None [] (procedure (at 0 1 11) procedure_word.Initial (stmts.Statement (at 0 1 19) None (stmts.Foreach (name (at 0 1 28) "T") (name (at 0 1 30) "i") (stmts.Statement (at 0 1 34) None stmts.Null))) ∷ items.Typedef (typedef (types.Named (name (at 0 1 44) "undef")) (name (at 0 1 50) "T")) ∷ []) None ∷ []

t24_broken : broken t24 [] None ≡ Some (fault 7 0 1 28)
unfolding symbols_of word_of
t24_broken = refl

-- module t; always_comb x = T; int x; typedef undef T; endmodule
abbrev t25 : List Description
t25 = module_ (at 0 1 1) life.Unwritten (name (at 0 1 8) "t") None [] (procedure (at 0 1 11) procedure_word.AlwaysComb (stmts.Statement (at 0 1 23) None (blocking (target (at 0 1 23) "x") None (stmts.Value (plain (at 0 1 27) "T")))) ∷ items.Decl (decl life.Unwritten (types.Atom (at 0 1 30) atom_word.Int sign.Unwritten) (declarator (name (at 0 1 34) "x") None None ∷ [])) ∷ items.Typedef (typedef (types.Named (name (at 0 1 45) "undef")) (name (at 0 1 51) "T")) ∷ []) None ∷ []

t25_broken : broken t25 [] None ≡ Some (fault 7 0 1 27)
unfolding symbols_of word_of
t25_broken = refl

-- module t; function v f(); endfunction undef v; endmodule
abbrev t26 : List Description
t26 = module_ (at 0 1 1) life.Unwritten (name (at 0 1 8) "t") None [] (items.Routine (routine (head (at 0 1 11) life.Unwritten (units.Returns.Value (types.Written (types.Named (name (at 0 1 20) "v")))) (name (at 0 1 22) "f") []) [] [] None) ∷ items.Decl (decl life.Unwritten (types.Named (name (at 0 1 39) "undef")) (declarator (name (at 0 1 45) "v") None None ∷ [])) ∷ []) None ∷ []

t26_broken : broken t26 [] None ≡ Some (fault 7 0 1 20)
unfolding symbols_of word_of
t26_broken = refl

-- module t; function undef f(); f = T; return f; endfunction typedef undef T; endmodule
abbrev t27 : List Description
t27 = module_ (at 0 1 1) life.Unwritten (name (at 0 1 8) "t") None [] (items.Routine (routine (head (at 0 1 11) life.Unwritten (units.Returns.Value (types.Written (types.Named (name (at 0 1 20) "undef")))) (name (at 0 1 26) "f") []) [] (stmts.Statement (at 0 1 31) None (blocking (target (at 0 1 31) "f") None (stmts.Value (plain (at 0 1 35) "T"))) ∷ stmts.Statement (at 0 1 38) None (stmts.Return (Some (plain (at 0 1 45) "f"))) ∷ []) None) ∷ items.Typedef (typedef (types.Named (name (at 0 1 68) "undef")) (name (at 0 1 74) "T")) ∷ []) None ∷ []

t27_broken : broken t27 [] None ≡ Some (fault 6 0 1 20)
unfolding symbols_of word_of
t27_broken = refl

-- module t; int x; initial x = $bits(T) + $bits(T[3]); typedef undef T; endmodule
abbrev t28 : List Description
t28 = module_ (at 0 1 1) life.Unwritten (name (at 0 1 8) "t") None [] (items.Decl (decl life.Unwritten (types.Atom (at 0 1 11) atom_word.Int sign.Unwritten) (declarator (name (at 0 1 15) "x") None None ∷ [])) ∷ procedure (at 0 1 18) procedure_word.Initial (stmts.Statement (at 0 1 26) None (blocking (target (at 0 1 26) "x") None (stmts.Value (tree.Binary binary_word.Plus (at 0 1 39) (system (at 0 1 30) "$bits" (plain (at 0 1 36) "T" ∷ [])) (system (at 0 1 41) "$bits" (tree.Expr.Post (root.Plain (name (at 0 1 47) "T")) (tree.Select (at 0 1 48) (number (at 0 1 49) "3") tree.NoSuffix) ∷ [])))))) ∷ items.Typedef (typedef (types.Named (name (at 0 1 62) "undef")) (name (at 0 1 68) "T")) ∷ []) None ∷ []

t28_broken : broken t28 [] None ≡ Some (fault 7 0 1 47)
unfolding symbols_of word_of
t28_broken = refl

-- module t; int x; initial x = T'(3); typedef undef T; endmodule
abbrev t29 : List Description
t29 = module_ (at 0 1 1) life.Unwritten (name (at 0 1 8) "t") None [] (items.Decl (decl life.Unwritten (types.Atom (at 0 1 11) atom_word.Int sign.Unwritten) (declarator (name (at 0 1 15) "x") None None ∷ [])) ∷ procedure (at 0 1 18) procedure_word.Initial (stmts.Statement (at 0 1 26) None (blocking (target (at 0 1 26) "x") None (stmts.Value (tree.Cast (cast.Named (name (at 0 1 30) "T")) (number (at 0 1 33) "3"))))) ∷ items.Typedef (typedef (types.Named (name (at 0 1 45) "undef")) (name (at 0 1 51) "T")) ∷ []) None ∷ []

t29_broken : broken t29 [] None ≡ Some (fault 6 0 1 45)
unfolding symbols_of word_of
t29_broken = refl

-- module t; localparam P = $bits(v); undef v; endmodule
abbrev t30 : List Description
t30 = module_ (at 0 1 1) life.Unwritten (name (at 0 1 8) "t") None [] (items.Param (param param_word.Localparam types.Unwritten (value (name (at 0 1 22) "P") (system (at 0 1 26) "$bits" (plain (at 0 1 32) "v" ∷ [])) ∷ [])) ∷ items.Decl (decl life.Unwritten (types.Named (name (at 0 1 36) "undef")) (declarator (name (at 0 1 42) "v") None None ∷ [])) ∷ []) None ∷ []

t30_broken : broken t30 [] None ≡ Some (fault 6 0 1 36)
unfolding symbols_of word_of
t30_broken = refl
