-- Rules on what files, units and scopes declare, on names, and on connections (E1 to E10).
use Rattle.std.proofs.Common.{◌≡◌, List, [], ◌∷◌, false, refl}
use Rattle.std.specs.Prelude.{Some, None, codes}
use Rattle.sv_value.specs.Vector.{symbols_of, word_of}
use Rattle.sv_tree.specs.declared.word.VectorWord.TheVariants as vector_word
use Rattle.sv_tree.specs.declared.word.AtomWord.TheVariants as atom_word
use Rattle.sv_tree.specs.declared.word.Sign.TheVariants as sign
use Rattle.sv_tree.specs.declared.word.Life.TheVariants as life
use Rattle.sv_tree.specs.declared.word.ProcedureWord.TheVariants as procedure_word
use Rattle.sv_tree.specs.declared.word.PortDirection.TheVariants as port_direction
use Rattle.sv_tree.specs.declared.word.ParamWord.TheVariants as param_word
use Rattle.sv_tree.specs.Types as types
use Rattle.sv_tree.specs.Stmt as stmts
use Rattle.sv_tree.specs.Units as units
use Rattle.sv_tree.specs.Items as items
use Rattle.sv_tree.specs.Descriptions as descriptions
use Rattle.sv_tree.specs.Descriptions.{Description}
use Rattle.sv_names.specs.Design.{broken}
use Rattle.sv_names_rows.proofs.Kit.{argument, at, blocking, class_, decl, declarator, fault, head, instance, instances, method, module_, name, number, param, plain, port, procedure, property, routine, target, typedef, unqualified, value}

-- E1: module t; endmodule module t; endmodule
abbrev t1 : List Description
t1 = module_ (at 0 1 1) life.Unwritten (name (at 0 1 8) "t") None [] [] None ∷ module_ (at 0 1 21) life.Unwritten (name (at 0 1 28) "t") None [] [] None ∷ []

t1_broken : broken t1 [] None ≡ Some (fault 1 0 1 28)
unfolding symbols_of word_of
t1_broken = refl

-- E1: typedef int a; class a; endclass module t; endmodule
abbrev t2 : List Description
t2 = descriptions.Item (items.Typedef (typedef (types.Atom (at 0 1 9) atom_word.Int sign.Unwritten) (name (at 0 1 13) "a"))) ∷ descriptions.Item (items.Class (class_ (at 0 1 16) false (name (at 0 1 22) "a") None [] None)) ∷ module_ (at 0 1 34) life.Unwritten (name (at 0 1 41) "t") None [] [] None ∷ []

t2_broken : broken t2 [] None ≡ Some (fault 1 0 1 22)
unfolding symbols_of word_of
t2_broken = refl

-- E2: module t; u x(); endmodule
abbrev t3 : List Description
t3 = module_ (at 0 1 1) life.Unwritten (name (at 0 1 8) "t") None [] (instances (name (at 0 1 11) "u") [] (instance (name (at 0 1 13) "x") [] ∷ []) ∷ []) None ∷ []

t3_broken : broken t3 [] None ≡ Some (fault 2 0 1 11)
unfolding symbols_of word_of
t3_broken = refl

-- E3: module t; a x(); endmodule module a; b y(); endmodule module b; a z(); endmodule
abbrev t4 : List Description
t4 = module_ (at 0 1 1) life.Unwritten (name (at 0 1 8) "t") None [] (instances (name (at 0 1 11) "a") [] (instance (name (at 0 1 13) "x") [] ∷ []) ∷ []) None ∷ module_ (at 0 1 28) life.Unwritten (name (at 0 1 35) "a") None [] (instances (name (at 0 1 38) "b") [] (instance (name (at 0 1 40) "y") [] ∷ []) ∷ []) None ∷ module_ (at 0 1 55) life.Unwritten (name (at 0 1 62) "b") None [] (instances (name (at 0 1 65) "a") [] (instance (name (at 0 1 67) "z") [] ∷ []) ∷ []) None ∷ []

t4_broken : broken t4 [] None ≡ Some (fault 3 0 1 65)
unfolding symbols_of word_of
t4_broken = refl

-- E4: module t; endmodule
abbrev t5 : List Description
t5 = module_ (at 0 1 1) life.Unwritten (name (at 0 1 8) "t") None [] [] None ∷ []

t5_broken : broken t5 [] (Some (codes "v")) ≡ Some (fault 4 0 1 1)
unfolding symbols_of word_of
t5_broken = refl

-- E5: module t; int a; logic b, a; endmodule
abbrev t6 : List Description
t6 = module_ (at 0 1 1) life.Unwritten (name (at 0 1 8) "t") None [] (items.Decl (decl life.Unwritten (types.Atom (at 0 1 11) atom_word.Int sign.Unwritten) (declarator (name (at 0 1 15) "a") None None ∷ [])) ∷ items.Decl (decl life.Unwritten (types.WrittenType.Vector (at 0 1 18) vector_word.Logic sign.Unwritten None) (declarator (name (at 0 1 24) "b") None None ∷ declarator (name (at 0 1 27) "a") None None ∷ [])) ∷ []) None ∷ []

t6_broken : broken t6 [] None ≡ Some (fault 5 0 1 27)
unfolding symbols_of word_of
t6_broken = refl

-- E5: module t; initial begin : x int a; end : y endmodule
abbrev t7 : List Description
t7 = module_ (at 0 1 1) life.Unwritten (name (at 0 1 8) "t") None [] (procedure (at 0 1 11) procedure_word.Initial (stmts.Statement (at 0 1 19) None (stmts.Block (Some (name (at 0 1 27) "x")) (decl life.Unwritten (types.Atom (at 0 1 29) atom_word.Int sign.Unwritten) (declarator (name (at 0 1 33) "a") None None ∷ []) ∷ []) stmts.NoStmt (Some (name (at 0 1 42) "y")))) ∷ []) None ∷ []

t7_broken : broken t7 [] None ≡ Some (fault 5 0 1 42)
unfolding symbols_of word_of
t7_broken = refl

-- E5: module t; function void f(int a, int a); endfunction endmodule
abbrev t8 : List Description
t8 = module_ (at 0 1 1) life.Unwritten (name (at 0 1 8) "t") None [] (items.Routine (routine (head (at 0 1 11) life.Unwritten units.Void (name (at 0 1 25) "f") (argument None (types.Written (types.Atom (at 0 1 27) atom_word.Int sign.Unwritten)) (name (at 0 1 31) "a") None ∷ argument None (types.Written (types.Atom (at 0 1 34) atom_word.Int sign.Unwritten)) (name (at 0 1 38) "a") None ∷ [])) [] [] None) ∷ []) None ∷ []

t8_broken : broken t8 [] None ≡ Some (fault 5 0 1 38)
unfolding symbols_of word_of
t8_broken = refl

-- E5: class c; int a; function void a(); endfunction endclass module t; endmodule
abbrev t9 : List Description
t9 = descriptions.Item (items.Class (class_ (at 0 1 1) false (name (at 0 1 7) "c") None (property unqualified (decl life.Unwritten (types.Atom (at 0 1 10) atom_word.Int sign.Unwritten) (declarator (name (at 0 1 14) "a") None None ∷ [])) ∷ method unqualified (routine (head (at 0 1 17) life.Unwritten units.Void (name (at 0 1 31) "a") []) [] [] None) ∷ []) None)) ∷ module_ (at 0 1 57) life.Unwritten (name (at 0 1 64) "t") None [] [] None ∷ []

t9_broken : broken t9 [] None ≡ Some (fault 5 0 1 31)
unfolding symbols_of word_of
t9_broken = refl

-- E5: module t; endmodule : u
abbrev t10 : List Description
t10 = module_ (at 0 1 1) life.Unwritten (name (at 0 1 8) "t") None [] [] (Some (name (at 0 1 23) "u")) ∷ []

t10_broken : broken t10 [] None ≡ Some (fault 5 0 1 23)
unfolding symbols_of word_of
t10_broken = refl

-- E6: module t; initial a = 1; endmodule
abbrev t11 : List Description
t11 = module_ (at 0 1 1) life.Unwritten (name (at 0 1 8) "t") None [] (procedure (at 0 1 11) procedure_word.Initial (stmts.Statement (at 0 1 19) None (blocking (target (at 0 1 19) "a") None (stmts.Value (number (at 0 1 23) "1")))) ∷ []) None ∷ []

t11_broken : broken t11 [] None ≡ Some (fault 6 0 1 19)
unfolding symbols_of word_of
t11_broken = refl

-- E6: module t; foo a; endmodule
abbrev t12 : List Description
t12 = module_ (at 0 1 1) life.Unwritten (name (at 0 1 8) "t") None [] (items.Decl (decl life.Unwritten (types.Named (name (at 0 1 11) "foo")) (declarator (name (at 0 1 15) "a") None None ∷ [])) ∷ []) None ∷ []

t12_broken : broken t12 [] None ≡ Some (fault 6 0 1 11)
unfolding symbols_of word_of
t12_broken = refl

-- E7: module t; typedef int q; int a; initial a = q; endmodule
abbrev t13 : List Description
t13 = module_ (at 0 1 1) life.Unwritten (name (at 0 1 8) "t") None [] (items.Typedef (typedef (types.Atom (at 0 1 19) atom_word.Int sign.Unwritten) (name (at 0 1 23) "q")) ∷ items.Decl (decl life.Unwritten (types.Atom (at 0 1 26) atom_word.Int sign.Unwritten) (declarator (name (at 0 1 30) "a") None None ∷ [])) ∷ procedure (at 0 1 33) procedure_word.Initial (stmts.Statement (at 0 1 41) None (blocking (target (at 0 1 41) "a") None (stmts.Value (plain (at 0 1 45) "q")))) ∷ []) None ∷ []

t13_broken : broken t13 [] None ≡ Some (fault 7 0 1 45)
unfolding symbols_of word_of
t13_broken = refl

-- E7: module t; int a; a b; endmodule
abbrev t14 : List Description
t14 = module_ (at 0 1 1) life.Unwritten (name (at 0 1 8) "t") None [] (items.Decl (decl life.Unwritten (types.Atom (at 0 1 11) atom_word.Int sign.Unwritten) (declarator (name (at 0 1 15) "a") None None ∷ [])) ∷ items.Decl (decl life.Unwritten (types.Named (name (at 0 1 18) "a")) (declarator (name (at 0 1 20) "b") None None ∷ [])) ∷ []) None ∷ []

t14_broken : broken t14 [] None ≡ Some (fault 7 0 1 18)
unfolding symbols_of word_of
t14_broken = refl

-- E7: module t; typedef a b; typedef b a; endmodule
abbrev t15 : List Description
t15 = module_ (at 0 1 1) life.Unwritten (name (at 0 1 8) "t") None [] (items.Typedef (typedef (types.Named (name (at 0 1 19) "a")) (name (at 0 1 21) "b")) ∷ items.Typedef (typedef (types.Named (name (at 0 1 32) "b")) (name (at 0 1 34) "a")) ∷ []) None ∷ []

t15_broken : broken t15 [] None ≡ Some (fault 7 0 1 19)
unfolding symbols_of word_of
t15_broken = refl

-- E7: module t; task w(); endtask int x; initial x; endmodule
abbrev t16 : List Description
t16 = module_ (at 0 1 1) life.Unwritten (name (at 0 1 8) "t") None [] (items.Routine (routine (head (at 0 1 11) life.Unwritten units.Task (name (at 0 1 16) "w") []) [] [] None) ∷ items.Decl (decl life.Unwritten (types.Atom (at 0 1 29) atom_word.Int sign.Unwritten) (declarator (name (at 0 1 33) "x") None None ∷ [])) ∷ procedure (at 0 1 36) procedure_word.Initial (stmts.Statement (at 0 1 44) None (stmts.Call (plain (at 0 1 44) "x"))) ∷ []) None ∷ []

t16_broken : broken t16 [] None ≡ Some (fault 7 0 1 44)
unfolding symbols_of word_of
t16_broken = refl

-- E8: module u(input logic a); endmodule module t; u x(.b(1)); endmodule
abbrev t17 : List Description
t17 = module_ (at 0 1 1) life.Unwritten (name (at 0 1 8) "u") None (port (Some port_direction.Input) false (types.Written (types.WrittenType.Vector (at 0 1 16) vector_word.Logic sign.Unwritten None)) (name (at 0 1 22) "a") ∷ []) [] None ∷ module_ (at 0 1 36) life.Unwritten (name (at 0 1 43) "t") None [] (instances (name (at 0 1 46) "u") [] (instance (name (at 0 1 48) "x") (units.Given (at 0 1 50) (name (at 0 1 51) "b") (Some (number (at 0 1 53) "1")) ∷ []) ∷ []) ∷ []) None ∷ []

t17_broken : broken t17 [] None ≡ Some (fault 8 0 1 50)
unfolding symbols_of word_of
t17_broken = refl

-- E8: module u(input logic a); endmodule module t; u x(1, 2); endmodule
abbrev t18 : List Description
t18 = module_ (at 0 1 1) life.Unwritten (name (at 0 1 8) "u") None (port (Some port_direction.Input) false (types.Written (types.WrittenType.Vector (at 0 1 16) vector_word.Logic sign.Unwritten None)) (name (at 0 1 22) "a") ∷ []) [] None ∷ module_ (at 0 1 36) life.Unwritten (name (at 0 1 43) "t") None [] (instances (name (at 0 1 46) "u") [] (instance (name (at 0 1 48) "x") (units.Connection.Value (number (at 0 1 50) "1") ∷ units.Connection.Value (number (at 0 1 53) "2") ∷ []) ∷ []) ∷ []) None ∷ []

t18_broken : broken t18 [] None ≡ Some (fault 8 0 1 53)
unfolding symbols_of word_of
t18_broken = refl

-- E8: module u(input logic a); endmodule module t; u x(.a(1), .a(0)); endmodule
abbrev t19 : List Description
t19 = module_ (at 0 1 1) life.Unwritten (name (at 0 1 8) "u") None (port (Some port_direction.Input) false (types.Written (types.WrittenType.Vector (at 0 1 16) vector_word.Logic sign.Unwritten None)) (name (at 0 1 22) "a") ∷ []) [] None ∷ module_ (at 0 1 36) life.Unwritten (name (at 0 1 43) "t") None [] (instances (name (at 0 1 46) "u") [] (instance (name (at 0 1 48) "x") (units.Given (at 0 1 50) (name (at 0 1 51) "a") (Some (number (at 0 1 53) "1")) ∷ units.Given (at 0 1 57) (name (at 0 1 58) "a") (Some (number (at 0 1 60) "0")) ∷ []) ∷ []) ∷ []) None ∷ []

t19_broken : broken t19 [] None ≡ Some (fault 8 0 1 57)
unfolding symbols_of word_of
t19_broken = refl

-- E9: module u(input logic a); endmodule module t; u x(.a); endmodule
abbrev t20 : List Description
t20 = module_ (at 0 1 1) life.Unwritten (name (at 0 1 8) "u") None (port (Some port_direction.Input) false (types.Written (types.WrittenType.Vector (at 0 1 16) vector_word.Logic sign.Unwritten None)) (name (at 0 1 22) "a") ∷ []) [] None ∷ module_ (at 0 1 36) life.Unwritten (name (at 0 1 43) "t") None [] (instances (name (at 0 1 46) "u") [] (instance (name (at 0 1 48) "x") (units.Named (at 0 1 50) (name (at 0 1 51) "a") ∷ []) ∷ []) ∷ []) None ∷ []

t20_broken : broken t20 [] None ≡ Some (fault 9 0 1 50)
unfolding symbols_of word_of
t20_broken = refl

-- E9: module u(input logic a); endmodule module t; u x(.*); endmodule
abbrev t21 : List Description
t21 = module_ (at 0 1 1) life.Unwritten (name (at 0 1 8) "u") None (port (Some port_direction.Input) false (types.Written (types.WrittenType.Vector (at 0 1 16) vector_word.Logic sign.Unwritten None)) (name (at 0 1 22) "a") ∷ []) [] None ∷ module_ (at 0 1 36) life.Unwritten (name (at 0 1 43) "t") None [] (instances (name (at 0 1 46) "u") [] (instance (name (at 0 1 48) "x") (units.All (at 0 1 50) ∷ []) ∷ []) ∷ []) None ∷ []

t21_broken : broken t21 [] None ≡ Some (fault 9 0 1 50)
unfolding symbols_of word_of
t21_broken = refl

-- E10: module u #(parameter P = 1)(); endmodule module t; u #(.Q(1)) x(); endmodule
abbrev t22 : List Description
t22 = module_ (at 0 1 1) life.Unwritten (name (at 0 1 8) "u") (Some (param param_word.Parameter types.Unwritten (value (name (at 0 1 22) "P") (number (at 0 1 26) "1") ∷ []) ∷ [])) [] [] None ∷ module_ (at 0 1 42) life.Unwritten (name (at 0 1 49) "t") None [] (instances (name (at 0 1 52) "u") (units.Given (at 0 1 56) (name (at 0 1 57) "Q") (Some (number (at 0 1 59) "1")) ∷ []) (instance (name (at 0 1 63) "x") [] ∷ []) ∷ []) None ∷ []

t22_broken : broken t22 [] None ≡ Some (fault 10 0 1 56)
unfolding symbols_of word_of
t22_broken = refl

-- E10: module u #(parameter P = 1)(); endmodule module t; u #(1, 2) x(); endmodule
abbrev t23 : List Description
t23 = module_ (at 0 1 1) life.Unwritten (name (at 0 1 8) "u") (Some (param param_word.Parameter types.Unwritten (value (name (at 0 1 22) "P") (number (at 0 1 26) "1") ∷ []) ∷ [])) [] [] None ∷ module_ (at 0 1 42) life.Unwritten (name (at 0 1 49) "t") None [] (instances (name (at 0 1 52) "u") (units.Connection.Value (number (at 0 1 56) "1") ∷ units.Connection.Value (number (at 0 1 59) "2") ∷ []) (instance (name (at 0 1 62) "x") [] ∷ []) ∷ []) None ∷ []

t23_broken : broken t23 [] None ≡ Some (fault 10 0 1 59)
unfolding symbols_of word_of
t23_broken = refl

-- module u(input logic a); endmodule module t; logic a; u x(.a); endmodule
abbrev t112 : List Description
t112 = module_ (at 0 1 1) life.Unwritten (name (at 0 1 8) "u") None (port (Some port_direction.Input) false (types.Written (types.WrittenType.Vector (at 0 1 16) vector_word.Logic sign.Unwritten None)) (name (at 0 1 22) "a") ∷ []) [] None ∷ module_ (at 0 1 36) life.Unwritten (name (at 0 1 43) "t") None [] (items.Decl (decl life.Unwritten (types.WrittenType.Vector (at 0 1 46) vector_word.Logic sign.Unwritten None) (declarator (name (at 0 1 52) "a") None None ∷ [])) ∷ instances (name (at 0 1 55) "u") [] (instance (name (at 0 1 57) "x") (units.Named (at 0 1 59) (name (at 0 1 60) "a") ∷ []) ∷ []) ∷ []) None ∷ []

t112_broken : broken t112 [] None ≡ None
unfolding symbols_of word_of
t112_broken = refl

-- E9: module u(input logic a); endmodule module t; logic b; u x(.a); endmodule
abbrev t113 : List Description
t113 = module_ (at 0 1 1) life.Unwritten (name (at 0 1 8) "u") None (port (Some port_direction.Input) false (types.Written (types.WrittenType.Vector (at 0 1 16) vector_word.Logic sign.Unwritten None)) (name (at 0 1 22) "a") ∷ []) [] None ∷ module_ (at 0 1 36) life.Unwritten (name (at 0 1 43) "t") None [] (items.Decl (decl life.Unwritten (types.WrittenType.Vector (at 0 1 46) vector_word.Logic sign.Unwritten None) (declarator (name (at 0 1 52) "b") None None ∷ [])) ∷ instances (name (at 0 1 55) "u") [] (instance (name (at 0 1 57) "x") (units.Named (at 0 1 59) (name (at 0 1 60) "a") ∷ []) ∷ []) ∷ []) None ∷ []

t113_broken : broken t113 [] None ≡ Some (fault 9 0 1 59)
unfolding symbols_of word_of
t113_broken = refl

-- E9: module u(input logic a); endmodule module t; logic b; u x(.*); endmodule
abbrev t114 : List Description
t114 = module_ (at 0 1 1) life.Unwritten (name (at 0 1 8) "u") None (port (Some port_direction.Input) false (types.Written (types.WrittenType.Vector (at 0 1 16) vector_word.Logic sign.Unwritten None)) (name (at 0 1 22) "a") ∷ []) [] None ∷ module_ (at 0 1 36) life.Unwritten (name (at 0 1 43) "t") None [] (items.Decl (decl life.Unwritten (types.WrittenType.Vector (at 0 1 46) vector_word.Logic sign.Unwritten None) (declarator (name (at 0 1 52) "b") None None ∷ [])) ∷ instances (name (at 0 1 55) "u") [] (instance (name (at 0 1 57) "x") (units.All (at 0 1 59) ∷ []) ∷ []) ∷ []) None ∷ []

t114_broken : broken t114 [] None ≡ Some (fault 9 0 1 59)
unfolding symbols_of word_of
t114_broken = refl
