-- Texts of several files, units and roots: the first rule that is broken, and where.
use Rattle.std.proofs.Common.{◌≡◌, List, [], ◌∷◌, true, false, refl}
use Rattle.std.specs.Prelude.{Some, None, codes}
use Rattle.sv_value.specs.Vector.{symbols_of, word_of}
use Rattle.sv_tree.specs.declared.word.BinaryWord.TheVariants as binary_word
use Rattle.sv_tree.specs.declared.word.VectorWord.TheVariants as vector_word
use Rattle.sv_tree.specs.declared.word.AtomWord.TheVariants as atom_word
use Rattle.sv_tree.specs.declared.word.Sign.TheVariants as sign
use Rattle.sv_tree.specs.declared.word.Life.TheVariants as life
use Rattle.sv_tree.specs.declared.word.EdgeWord.TheVariants as edge
use Rattle.sv_tree.specs.declared.word.ProcedureWord.TheVariants as procedure_word
use Rattle.sv_tree.specs.declared.word.PortDirection.TheVariants as port_direction
use Rattle.sv_tree.specs.declared.word.ParamWord.TheVariants as param_word
use Rattle.sv_tree.specs.declared.expr.Root.TheVariants as root
use Rattle.sv_tree.specs.Expr as tree
use Rattle.sv_tree.specs.Types as types
use Rattle.sv_tree.specs.Stmt as stmts
use Rattle.sv_tree.specs.Units as units
use Rattle.sv_tree.specs.Items as items
use Rattle.sv_tree.specs.Descriptions as descriptions
use Rattle.sv_tree.specs.Descriptions.{Description}
use Rattle.sv_names.specs.Design.{broken}
use Rattle.sv_names_rows.proofs.Kit.{argument, assign_item, at, blocking, class_, clocking, decl, declarator, delay, enum_item, expressions, fault, head, instance, instances, method, module_, name, number, param, plain, port, procedure, program_, property, qualifiers, range, routine, scale, statements, system, target, text, typedef, unqualified, value}

-- `timescale 1ns/1us
-- module t; endmodule
abbrev t1 : List Description
t1 = module_ (at 0 2 1) life.Unwritten (name (at 0 2 8) "t") None [] [] None ∷ []

t1_broken : broken t1 (scale 6 9 (at 0 1 1) ∷ []) None ≡ Some (fault 54 0 1 1)
unfolding symbols_of word_of
t1_broken = refl

-- `timescale 1ns/1ps
-- module t; initial #1 $display("%0t", $time); endmodule
-- ----
-- `timescale 1ns/1ns
-- module u; initial #2 $display("%0t", $time); endmodule
abbrev t4 : List Description
t4 = module_ (at 0 2 1) life.Unwritten (name (at 0 2 8) "t") None [] (procedure (at 0 2 11) procedure_word.Initial (stmts.Statement (at 0 2 19) None (stmts.After (delay (at 0 2 19) (number (at 0 2 20) "1")) (stmts.Statement (at 0 2 22) None (stmts.Call (system (at 0 2 22) "$display" (text (at 0 2 31) "%0t" ∷ tree.System (name (at 0 2 38) "$time") tree.Unwritten ∷ [])))))) ∷ []) None ∷ module_ (at 1 2 1) life.Unwritten (name (at 1 2 8) "u") None [] (procedure (at 1 2 11) procedure_word.Initial (stmts.Statement (at 1 2 19) None (stmts.After (delay (at 1 2 19) (number (at 1 2 20) "2")) (stmts.Statement (at 1 2 22) None (stmts.Call (system (at 1 2 22) "$display" (text (at 1 2 31) "%0t" ∷ tree.System (name (at 1 2 38) "$time") tree.Unwritten ∷ [])))))) ∷ []) None ∷ []

t4_broken : broken t4 (scale 6 3 (at 0 1 1) ∷ scale 6 6 (at 1 1 1) ∷ []) None ≡ Some (fault 54 1 1 1)
unfolding symbols_of word_of
t4_broken = refl

-- `timescale 1ns/1ps
-- module t; initial x = 1; endmodule
-- ----
-- `timescale 1ns/1ns
-- module u; initial #2 $display("%0t", $time); endmodule
abbrev t5 : List Description
t5 = module_ (at 0 2 1) life.Unwritten (name (at 0 2 8) "t") None [] (procedure (at 0 2 11) procedure_word.Initial (stmts.Statement (at 0 2 19) None (blocking (target (at 0 2 19) "x") None (stmts.Value (number (at 0 2 23) "1")))) ∷ []) None ∷ module_ (at 1 2 1) life.Unwritten (name (at 1 2 8) "u") None [] (procedure (at 1 2 11) procedure_word.Initial (stmts.Statement (at 1 2 19) None (stmts.After (delay (at 1 2 19) (number (at 1 2 20) "2")) (stmts.Statement (at 1 2 22) None (stmts.Call (system (at 1 2 22) "$display" (text (at 1 2 31) "%0t" ∷ tree.System (name (at 1 2 38) "$time") tree.Unwritten ∷ [])))))) ∷ []) None ∷ []

t5_broken : broken t5 (scale 6 3 (at 0 1 1) ∷ scale 6 6 (at 1 1 1) ∷ []) None ≡ Some (fault 6 0 2 19)
unfolding symbols_of word_of
t5_broken = refl

-- module t; endmodule
-- ----
-- `timescale 1ns/1us
-- module u; initial y = 2; endmodule
abbrev t6 : List Description
t6 = module_ (at 0 1 1) life.Unwritten (name (at 0 1 8) "t") None [] [] None ∷ module_ (at 1 2 1) life.Unwritten (name (at 1 2 8) "u") None [] (procedure (at 1 2 11) procedure_word.Initial (stmts.Statement (at 1 2 19) None (blocking (target (at 1 2 19) "y") None (stmts.Value (number (at 1 2 23) "2")))) ∷ []) None ∷ []

t6_broken : broken t6 (scale 6 9 (at 1 1 1) ∷ []) None ≡ Some (fault 54 1 1 1)
unfolding symbols_of word_of
t6_broken = refl

-- localparam A = B + 1;
-- ----
-- localparam B = A; module t; initial $display("%0d", A); endmodule
abbrev t10 : List Description
t10 = descriptions.Item (items.Param (param param_word.Localparam types.Unwritten (value (name (at 0 1 12) "A") (tree.Binary binary_word.Plus (at 0 1 18) (plain (at 0 1 16) "B") (number (at 0 1 20) "1")) ∷ []))) ∷ descriptions.Item (items.Param (param param_word.Localparam types.Unwritten (value (name (at 1 1 12) "B") (plain (at 1 1 16) "A") ∷ []))) ∷ module_ (at 1 1 19) life.Unwritten (name (at 1 1 26) "t") None [] (procedure (at 1 1 29) procedure_word.Initial (stmts.Statement (at 1 1 37) None (stmts.Call (system (at 1 1 37) "$display" (text (at 1 1 46) "%0d" ∷ plain (at 1 1 53) "A" ∷ [])))) ∷ []) None ∷ []

t10_broken : broken t10 [] None ≡ Some (fault 11 0 1 16)
unfolding symbols_of word_of
t10_broken = refl

-- class Q extends P; endclass
-- ----
-- class P extends Q; endclass
abbrev t13 : List Description
t13 = descriptions.Item (items.Class (class_ (at 0 1 1) false (name (at 0 1 7) "Q") (Some (name (at 0 1 17) "P")) [] None)) ∷ descriptions.Item (items.Class (class_ (at 1 1 1) false (name (at 1 1 7) "P") (Some (name (at 1 1 17) "Q")) [] None)) ∷ []

t13_broken : broken t13 [] None ≡ Some (fault 4 0 1 1)
unfolding symbols_of word_of
t13_broken = refl

-- class Q; endclass
-- ----
-- class Q; endclass
abbrev t14 : List Description
t14 = descriptions.Item (items.Class (class_ (at 0 1 1) false (name (at 0 1 7) "Q") None [] None)) ∷ descriptions.Item (items.Class (class_ (at 1 1 1) false (name (at 1 1 7) "Q") None [] None)) ∷ []

t14_broken : broken t14 [] None ≡ Some (fault 4 0 1 1)
unfolding symbols_of word_of
t14_broken = refl

-- module t; endmodule
-- ----
-- module t; endmodule
abbrev t15 : List Description
t15 = module_ (at 0 1 1) life.Unwritten (name (at 0 1 8) "t") None [] [] None ∷ module_ (at 1 1 1) life.Unwritten (name (at 1 1 8) "t") None [] [] None ∷ []

t15_broken : broken t15 [] None ≡ Some (fault 1 1 1 8)
unfolding symbols_of word_of
t15_broken = refl

-- module t; int q; int q; endmodule
-- ----
-- module u; int r; int r; endmodule
abbrev t16 : List Description
t16 = module_ (at 0 1 1) life.Unwritten (name (at 0 1 8) "t") None [] (items.Decl (decl life.Unwritten (types.Atom (at 0 1 11) atom_word.Int sign.Unwritten) (declarator (name (at 0 1 15) "q") None None ∷ [])) ∷ items.Decl (decl life.Unwritten (types.Atom (at 0 1 18) atom_word.Int sign.Unwritten) (declarator (name (at 0 1 22) "q") None None ∷ [])) ∷ []) None ∷ module_ (at 1 1 1) life.Unwritten (name (at 1 1 8) "u") None [] (items.Decl (decl life.Unwritten (types.Atom (at 1 1 11) atom_word.Int sign.Unwritten) (declarator (name (at 1 1 15) "r") None None ∷ [])) ∷ items.Decl (decl life.Unwritten (types.Atom (at 1 1 18) atom_word.Int sign.Unwritten) (declarator (name (at 1 1 22) "r") None None ∷ [])) ∷ []) None ∷ []

t16_broken : broken t16 [] None ≡ Some (fault 5 0 1 22)
unfolding symbols_of word_of
t16_broken = refl

-- module t; endmodule
-- ----
-- module u; int r; int r; endmodule
abbrev t17 : List Description
t17 = module_ (at 0 1 1) life.Unwritten (name (at 0 1 8) "t") None [] [] None ∷ module_ (at 1 1 1) life.Unwritten (name (at 1 1 8) "u") None [] (items.Decl (decl life.Unwritten (types.Atom (at 1 1 11) atom_word.Int sign.Unwritten) (declarator (name (at 1 1 15) "r") None None ∷ [])) ∷ items.Decl (decl life.Unwritten (types.Atom (at 1 1 18) atom_word.Int sign.Unwritten) (declarator (name (at 1 1 22) "r") None None ∷ [])) ∷ []) None ∷ []

t17_broken : broken t17 [] None ≡ Some (fault 5 1 1 22)
unfolding symbols_of word_of
t17_broken = refl

-- module t; endmodule
-- ----
-- function int t(); return 1; endfunction
abbrev t18 : List Description
t18 = module_ (at 0 1 1) life.Unwritten (name (at 0 1 8) "t") None [] [] None ∷ descriptions.Item (items.Routine (routine (head (at 1 1 1) life.Unwritten (units.Returns.Value (types.Written (types.Atom (at 1 1 10) atom_word.Int sign.Unwritten))) (name (at 1 1 14) "t") []) [] (stmts.Statement (at 1 1 19) None (stmts.Return (Some (number (at 1 1 26) "1"))) ∷ []) None)) ∷ []

t18_broken : broken t18 [] None ≡ Some (fault 1 1 1 14)
unfolding symbols_of word_of
t18_broken = refl

-- module t; initial x = 1; endmodule
-- ----
-- module u; u x(); endmodule
abbrev t26 : List Description
t26 = module_ (at 0 1 1) life.Unwritten (name (at 0 1 8) "t") None [] (procedure (at 0 1 11) procedure_word.Initial (stmts.Statement (at 0 1 19) None (blocking (target (at 0 1 19) "x") None (stmts.Value (number (at 0 1 23) "1")))) ∷ []) None ∷ module_ (at 1 1 1) life.Unwritten (name (at 1 1 8) "u") None [] (instances (name (at 1 1 11) "u") [] (instance (name (at 1 1 13) "x") [] ∷ []) ∷ []) None ∷ []

t26_broken : broken t26 [] (Some (codes "t")) ≡ Some (fault 6 0 1 19)
unfolding symbols_of word_of
t26_broken = refl

-- class C; endclass module t; endmodule
abbrev t28 : List Description
t28 = descriptions.Item (items.Class (class_ (at 0 1 1) false (name (at 0 1 7) "C") None [] None)) ∷ module_ (at 0 1 19) life.Unwritten (name (at 0 1 26) "t") None [] [] None ∷ []

t28_broken : broken t28 [] (Some (codes "C")) ≡ Some (fault 4 0 1 1)
unfolding symbols_of word_of
t28_broken = refl

-- module t; u x(); endmodule
-- ----
-- module u; v x(); endmodule
abbrev t29 : List Description
t29 = module_ (at 0 1 1) life.Unwritten (name (at 0 1 8) "t") None [] (instances (name (at 0 1 11) "u") [] (instance (name (at 0 1 13) "x") [] ∷ []) ∷ []) None ∷ module_ (at 1 1 1) life.Unwritten (name (at 1 1 8) "u") None [] (instances (name (at 1 1 11) "v") [] (instance (name (at 1 1 13) "x") [] ∷ []) ∷ []) None ∷ []

t29_broken : broken t29 [] None ≡ Some (fault 2 1 1 11)
unfolding symbols_of word_of
t29_broken = refl

-- module t; u x(); endmodule
-- ----
-- module u; t x(); endmodule
abbrev t30 : List Description
t30 = module_ (at 0 1 1) life.Unwritten (name (at 0 1 8) "t") None [] (instances (name (at 0 1 11) "u") [] (instance (name (at 0 1 13) "x") [] ∷ []) ∷ []) None ∷ module_ (at 1 1 1) life.Unwritten (name (at 1 1 8) "u") None [] (instances (name (at 1 1 11) "t") [] (instance (name (at 1 1 13) "x") [] ∷ []) ∷ []) None ∷ []

t30_broken : broken t30 [] None ≡ Some (fault 4 0 1 1)
unfolding symbols_of word_of
t30_broken = refl

-- module t; u x(); endmodule
-- ----
-- module u; u x(); endmodule
abbrev t31 : List Description
t31 = module_ (at 0 1 1) life.Unwritten (name (at 0 1 8) "t") None [] (instances (name (at 0 1 11) "u") [] (instance (name (at 0 1 13) "x") [] ∷ []) ∷ []) None ∷ module_ (at 1 1 1) life.Unwritten (name (at 1 1 8) "u") None [] (instances (name (at 1 1 11) "u") [] (instance (name (at 1 1 13) "x") [] ∷ []) ∷ []) None ∷ []

t31_broken : broken t31 [] None ≡ Some (fault 3 1 1 11)
unfolding symbols_of word_of
t31_broken = refl

-- module t; u #(.P(3)) x(); u #(4) y(); u z(); endmodule
-- ----
-- module u #(parameter P = 2); initial $display("%m %0d", P); endmodule
abbrev t32 : List Description
t32 = module_ (at 0 1 1) life.Unwritten (name (at 0 1 8) "t") None [] (instances (name (at 0 1 11) "u") (units.Given (at 0 1 15) (name (at 0 1 16) "P") (Some (number (at 0 1 18) "3")) ∷ []) (instance (name (at 0 1 22) "x") [] ∷ []) ∷ instances (name (at 0 1 27) "u") (units.Connection.Value (number (at 0 1 31) "4") ∷ []) (instance (name (at 0 1 34) "y") [] ∷ []) ∷ instances (name (at 0 1 39) "u") [] (instance (name (at 0 1 41) "z") [] ∷ []) ∷ []) None ∷ module_ (at 1 1 1) life.Unwritten (name (at 1 1 8) "u") (Some (param param_word.Parameter types.Unwritten (value (name (at 1 1 22) "P") (number (at 1 1 26) "2") ∷ []) ∷ [])) [] (procedure (at 1 1 30) procedure_word.Initial (stmts.Statement (at 1 1 38) None (stmts.Call (system (at 1 1 38) "$display" (text (at 1 1 47) "%m %0d" ∷ plain (at 1 1 57) "P" ∷ [])))) ∷ []) None ∷ []

t32_broken : broken t32 [] None ≡ Some (fault 50 1 1 47)
unfolding symbols_of word_of
t32_broken = refl

-- module t; u #(.Q(3)) x(); endmodule
-- ----
-- module u #(parameter P = 2); endmodule
abbrev t33 : List Description
t33 = module_ (at 0 1 1) life.Unwritten (name (at 0 1 8) "t") None [] (instances (name (at 0 1 11) "u") (units.Given (at 0 1 15) (name (at 0 1 16) "Q") (Some (number (at 0 1 18) "3")) ∷ []) (instance (name (at 0 1 22) "x") [] ∷ []) ∷ []) None ∷ module_ (at 1 1 1) life.Unwritten (name (at 1 1 8) "u") (Some (param param_word.Parameter types.Unwritten (value (name (at 1 1 22) "P") (number (at 1 1 26) "2") ∷ []) ∷ [])) [] [] None ∷ []

t33_broken : broken t33 [] None ≡ Some (fault 10 0 1 15)
unfolding symbols_of word_of
t33_broken = refl

-- module t; u x(1); endmodule
-- ----
-- module u; endmodule
abbrev t34 : List Description
t34 = module_ (at 0 1 1) life.Unwritten (name (at 0 1 8) "t") None [] (instances (name (at 0 1 11) "u") [] (instance (name (at 0 1 13) "x") (units.Connection.Value (number (at 0 1 15) "1") ∷ []) ∷ []) ∷ []) None ∷ module_ (at 1 1 1) life.Unwritten (name (at 1 1 8) "u") None [] [] None ∷ []

t34_broken : broken t34 [] None ≡ Some (fault 8 0 1 15)
unfolding symbols_of word_of
t34_broken = refl

-- module t; u x(.b(1)); endmodule
-- ----
-- module u(input a); endmodule
abbrev t35 : List Description
t35 = module_ (at 0 1 1) life.Unwritten (name (at 0 1 8) "t") None [] (instances (name (at 0 1 11) "u") [] (instance (name (at 0 1 13) "x") (units.Given (at 0 1 15) (name (at 0 1 16) "b") (Some (number (at 0 1 18) "1")) ∷ []) ∷ []) ∷ []) None ∷ module_ (at 1 1 1) life.Unwritten (name (at 1 1 8) "u") None (port (Some port_direction.Input) false types.Unwritten (name (at 1 1 16) "a") ∷ []) [] None ∷ []

t35_broken : broken t35 [] None ≡ Some (fault 8 0 1 15)
unfolding symbols_of word_of
t35_broken = refl

-- module t; u x(.a(1), .a(0)); endmodule
-- ----
-- module u(input a); endmodule
abbrev t36 : List Description
t36 = module_ (at 0 1 1) life.Unwritten (name (at 0 1 8) "t") None [] (instances (name (at 0 1 11) "u") [] (instance (name (at 0 1 13) "x") (units.Given (at 0 1 15) (name (at 0 1 16) "a") (Some (number (at 0 1 18) "1")) ∷ units.Given (at 0 1 22) (name (at 0 1 23) "a") (Some (number (at 0 1 25) "0")) ∷ []) ∷ []) ∷ []) None ∷ module_ (at 1 1 1) life.Unwritten (name (at 1 1 8) "u") None (port (Some port_direction.Input) false types.Unwritten (name (at 1 1 16) "a") ∷ []) [] None ∷ []

t36_broken : broken t36 [] None ≡ Some (fault 8 0 1 22)
unfolding symbols_of word_of
t36_broken = refl

-- module t; logic v; u x(v); initial v = 1; endmodule
-- ----
-- module u(output logic a); assign a = 1; endmodule
abbrev t37 : List Description
t37 = module_ (at 0 1 1) life.Unwritten (name (at 0 1 8) "t") None [] (items.Decl (decl life.Unwritten (types.WrittenType.Vector (at 0 1 11) vector_word.Logic sign.Unwritten None) (declarator (name (at 0 1 17) "v") None None ∷ [])) ∷ instances (name (at 0 1 20) "u") [] (instance (name (at 0 1 22) "x") (units.Connection.Value (plain (at 0 1 24) "v") ∷ []) ∷ []) ∷ procedure (at 0 1 28) procedure_word.Initial (stmts.Statement (at 0 1 36) None (blocking (target (at 0 1 36) "v") None (stmts.Value (number (at 0 1 40) "1")))) ∷ []) None ∷ module_ (at 1 1 1) life.Unwritten (name (at 1 1 8) "u") None (port (Some port_direction.Output) false (types.Written (types.WrittenType.Vector (at 1 1 17) vector_word.Logic sign.Unwritten None)) (name (at 1 1 23) "a") ∷ []) (items.Assign (assign_item (target (at 1 1 34) "a") (number (at 1 1 38) "1") ∷ []) ∷ []) None ∷ []

t37_broken : broken t37 [] None ≡ Some (fault 20 0 1 36)
unfolding symbols_of word_of
t37_broken = refl

-- class C; function new(int a); endfunction endclass
-- ----
-- class D extends C; endclass
abbrev t38 : List Description
t38 = descriptions.Item (items.Class (class_ (at 0 1 1) false (name (at 0 1 7) "C") None (method unqualified (routine (head (at 0 1 10) life.Unwritten (units.Returns.Value types.Unwritten) (name (at 0 1 19) "new") (argument None (types.Written (types.Atom (at 0 1 23) atom_word.Int sign.Unwritten)) (name (at 0 1 27) "a") None ∷ [])) [] [] None) ∷ []) None)) ∷ descriptions.Item (items.Class (class_ (at 1 1 1) false (name (at 1 1 7) "D") (Some (name (at 1 1 17) "C")) [] None)) ∷ []

t38_broken : broken t38 [] None ≡ Some (fault 4 0 1 1)
unfolding symbols_of word_of
t38_broken = refl

-- typedef class D;
-- ----
-- class D; endclass
abbrev t40 : List Description
t40 = descriptions.Item (items.Announce (name (at 0 1 15) "D")) ∷ descriptions.Item (items.Class (class_ (at 1 1 1) false (name (at 1 1 7) "D") None [] None)) ∷ []

t40_broken : broken t40 [] None ≡ Some (fault 4 0 1 1)
unfolding symbols_of word_of
t40_broken = refl

-- typedef class D; module t; D d; endmodule
-- ----
-- module D; endmodule
abbrev t41 : List Description
t41 = descriptions.Item (items.Announce (name (at 0 1 15) "D")) ∷ module_ (at 0 1 18) life.Unwritten (name (at 0 1 25) "t") None [] (items.Decl (decl life.Unwritten (types.Named (name (at 0 1 28) "D")) (declarator (name (at 0 1 30) "d") None None ∷ [])) ∷ []) None ∷ module_ (at 1 1 1) life.Unwritten (name (at 1 1 8) "D") None [] [] None ∷ []

t41_broken : broken t41 [] None ≡ Some (fault 58 0 1 15)
unfolding symbols_of word_of
t41_broken = refl

-- module t; initial $display("%0d", n); endmodule
-- ----
-- localparam m = n;
abbrev t46 : List Description
t46 = module_ (at 0 1 1) life.Unwritten (name (at 0 1 8) "t") None [] (procedure (at 0 1 11) procedure_word.Initial (stmts.Statement (at 0 1 19) None (stmts.Call (system (at 0 1 19) "$display" (text (at 0 1 28) "%0d" ∷ plain (at 0 1 35) "n" ∷ [])))) ∷ []) None ∷ descriptions.Item (items.Param (param param_word.Localparam types.Unwritten (value (name (at 1 1 12) "m") (plain (at 1 1 16) "n") ∷ []))) ∷ []

t46_broken : broken t46 [] None ≡ Some (fault 6 0 1 35)
unfolding symbols_of word_of
t46_broken = refl

-- module t; initial n = k; endmodule
-- ----
-- localparam m = 3;
abbrev t47 : List Description
t47 = module_ (at 0 1 1) life.Unwritten (name (at 0 1 8) "t") None [] (procedure (at 0 1 11) procedure_word.Initial (stmts.Statement (at 0 1 19) None (blocking (target (at 0 1 19) "n") None (stmts.Value (plain (at 0 1 23) "k")))) ∷ []) None ∷ descriptions.Item (items.Param (param param_word.Localparam types.Unwritten (value (name (at 1 1 12) "m") (number (at 1 1 16) "3") ∷ []))) ∷ []

t47_broken : broken t47 [] None ≡ Some (fault 6 0 1 19)
unfolding symbols_of word_of
t47_broken = refl

-- typedef enum {A, B} e;
-- ----
-- localparam A = 1;
abbrev t48 : List Description
t48 = descriptions.Item (items.Typedef (typedef (types.Enum (at 0 1 9) (enum_item (name (at 0 1 15) "A") None ∷ enum_item (name (at 0 1 18) "B") None ∷ [])) (name (at 0 1 21) "e"))) ∷ descriptions.Item (items.Param (param param_word.Localparam types.Unwritten (value (name (at 1 1 12) "A") (number (at 1 1 16) "1") ∷ []))) ∷ []

t48_broken : broken t48 [] None ≡ Some (fault 4 0 1 1)
unfolding symbols_of word_of
t48_broken = refl

-- typedef enum {A, B} e;
-- ----
-- typedef enum {B, C} f;
abbrev t49 : List Description
t49 = descriptions.Item (items.Typedef (typedef (types.Enum (at 0 1 9) (enum_item (name (at 0 1 15) "A") None ∷ enum_item (name (at 0 1 18) "B") None ∷ [])) (name (at 0 1 21) "e"))) ∷ descriptions.Item (items.Typedef (typedef (types.Enum (at 1 1 9) (enum_item (name (at 1 1 15) "B") None ∷ enum_item (name (at 1 1 18) "C") None ∷ [])) (name (at 1 1 21) "f"))) ∷ []

t49_broken : broken t49 [] None ≡ Some (fault 4 0 1 1)
unfolding symbols_of word_of
t49_broken = refl

-- typedef logic [$bits(v):0] w;
-- ----
-- typedef logic [$bits(w):0] v; module t; endmodule
abbrev t52 : List Description
t52 = descriptions.Item (items.Typedef (typedef (types.WrittenType.Vector (at 0 1 9) vector_word.Logic sign.Unwritten (Some (range (at 0 1 15) (system (at 0 1 16) "$bits" (plain (at 0 1 22) "v" ∷ [])) (number (at 0 1 25) "0")))) (name (at 0 1 28) "w"))) ∷ descriptions.Item (items.Typedef (typedef (types.WrittenType.Vector (at 1 1 9) vector_word.Logic sign.Unwritten (Some (range (at 1 1 15) (system (at 1 1 16) "$bits" (plain (at 1 1 22) "w" ∷ [])) (number (at 1 1 25) "0")))) (name (at 1 1 28) "v"))) ∷ module_ (at 1 1 31) life.Unwritten (name (at 1 1 38) "t") None [] [] None ∷ []

t52_broken : broken t52 [] None ≡ Some (fault 7 0 1 22)
unfolding symbols_of word_of
t52_broken = refl

-- localparam W = $bits(v);
-- ----
-- typedef logic [W:0] v; module t; endmodule
abbrev t53 : List Description
t53 = descriptions.Item (items.Param (param param_word.Localparam types.Unwritten (value (name (at 0 1 12) "W") (system (at 0 1 16) "$bits" (plain (at 0 1 22) "v" ∷ [])) ∷ []))) ∷ descriptions.Item (items.Typedef (typedef (types.WrittenType.Vector (at 1 1 9) vector_word.Logic sign.Unwritten (Some (range (at 1 1 15) (plain (at 1 1 16) "W") (number (at 1 1 18) "0")))) (name (at 1 1 21) "v"))) ∷ module_ (at 1 1 24) life.Unwritten (name (at 1 1 31) "t") None [] [] None ∷ []

t53_broken : broken t53 [] None ≡ Some (fault 7 0 1 22)
unfolding symbols_of word_of
t53_broken = refl

-- class C; local int n; endclass
-- ----
-- module t; C c; initial c.n = 5; endmodule
abbrev t55 : List Description
t55 = descriptions.Item (items.Class (class_ (at 0 1 1) false (name (at 0 1 7) "C") None (property (qualifiers true false false false) (decl life.Unwritten (types.Atom (at 0 1 16) atom_word.Int sign.Unwritten) (declarator (name (at 0 1 20) "n") None None ∷ [])) ∷ []) None)) ∷ module_ (at 1 1 1) life.Unwritten (name (at 1 1 8) "t") None [] (items.Decl (decl life.Unwritten (types.Named (name (at 1 1 11) "C")) (declarator (name (at 1 1 13) "c") None None ∷ [])) ∷ procedure (at 1 1 16) procedure_word.Initial (stmts.Statement (at 1 1 24) None (blocking (tree.Lval.Post (root.Plain (name (at 1 1 24) "c")) (tree.Member (name (at 1 1 26) "n") tree.NoSuffix)) None (stmts.Value (number (at 1 1 30) "5")))) ∷ []) None ∷ []

t55_broken : broken t55 [] None ≡ Some (fault 37 1 1 26)
unfolding symbols_of word_of
t55_broken = refl

-- module t; initial t.x = 1; endmodule
-- ----
-- module x; endmodule
abbrev t57 : List Description
t57 = module_ (at 0 1 1) life.Unwritten (name (at 0 1 8) "t") None [] (procedure (at 0 1 11) procedure_word.Initial (stmts.Statement (at 0 1 19) None (blocking (tree.Lval.Post (root.Plain (name (at 0 1 19) "t")) (tree.Member (name (at 0 1 21) "x") tree.NoSuffix)) None (stmts.Value (number (at 0 1 25) "1")))) ∷ []) None ∷ module_ (at 1 1 1) life.Unwritten (name (at 1 1 8) "x") None [] [] None ∷ []

t57_broken : broken t57 [] None ≡ Some (fault 7 0 1 19)
unfolding symbols_of word_of
t57_broken = refl

-- module a; a x(); endmodule
abbrev t59 : List Description
t59 = module_ (at 0 1 1) life.Unwritten (name (at 0 1 8) "a") None [] (instances (name (at 0 1 11) "a") [] (instance (name (at 0 1 13) "x") [] ∷ []) ∷ []) None ∷ []

t59_broken : broken t59 [] None ≡ Some (fault 4 0 1 1)
unfolding symbols_of word_of
t59_broken = refl

-- class C; endclass
abbrev t63 : List Description
t63 = descriptions.Item (items.Class (class_ (at 0 1 1) false (name (at 0 1 7) "C") None [] None)) ∷ []

t63_broken : broken t63 [] None ≡ Some (fault 4 0 1 1)
unfolding symbols_of word_of
t63_broken = refl

-- typedef int t;
abbrev t64 : List Description
t64 = descriptions.Item (items.Typedef (typedef (types.Atom (at 0 1 9) atom_word.Int sign.Unwritten) (name (at 0 1 13) "t"))) ∷ []

t64_broken : broken t64 [] None ≡ Some (fault 4 0 1 1)
unfolding symbols_of word_of
t64_broken = refl

-- module t; x y(); z w(); endmodule
abbrev t66 : List Description
t66 = module_ (at 0 1 1) life.Unwritten (name (at 0 1 8) "t") None [] (instances (name (at 0 1 11) "x") [] (instance (name (at 0 1 13) "y") [] ∷ []) ∷ instances (name (at 0 1 18) "z") [] (instance (name (at 0 1 20) "w") [] ∷ []) ∷ []) None ∷ []

t66_broken : broken t66 [] None ≡ Some (fault 2 0 1 11)
unfolding symbols_of word_of
t66_broken = refl

-- module t; C y(); endmodule class C; endclass
abbrev t67 : List Description
t67 = module_ (at 0 1 1) life.Unwritten (name (at 0 1 8) "t") None [] (instances (name (at 0 1 11) "C") [] (instance (name (at 0 1 13) "y") [] ∷ []) ∷ []) None ∷ descriptions.Item (items.Class (class_ (at 0 1 28) false (name (at 0 1 34) "C") None [] None)) ∷ []

t67_broken : broken t67 [] None ≡ Some (fault 2 0 1 11)
unfolding symbols_of word_of
t67_broken = refl

-- module t; t2 y(); endmodule typedef int t2;
abbrev t68 : List Description
t68 = module_ (at 0 1 1) life.Unwritten (name (at 0 1 8) "t") None [] (instances (name (at 0 1 11) "t2") [] (instance (name (at 0 1 14) "y") [] ∷ []) ∷ []) None ∷ descriptions.Item (items.Typedef (typedef (types.Atom (at 0 1 37) atom_word.Int sign.Unwritten) (name (at 0 1 41) "t2"))) ∷ []

t68_broken : broken t68 [] None ≡ Some (fault 2 0 1 11)
unfolding symbols_of word_of
t68_broken = refl

-- module t; f y(); endmodule function int f(); return 1; endfunction
abbrev t69 : List Description
t69 = module_ (at 0 1 1) life.Unwritten (name (at 0 1 8) "t") None [] (instances (name (at 0 1 11) "f") [] (instance (name (at 0 1 13) "y") [] ∷ []) ∷ []) None ∷ descriptions.Item (items.Routine (routine (head (at 0 1 28) life.Unwritten (units.Returns.Value (types.Written (types.Atom (at 0 1 37) atom_word.Int sign.Unwritten))) (name (at 0 1 41) "f") []) [] (stmts.Statement (at 0 1 46) None (stmts.Return (Some (number (at 0 1 53) "1"))) ∷ []) None)) ∷ []

t69_broken : broken t69 [] None ≡ Some (fault 2 0 1 11)
unfolding symbols_of word_of
t69_broken = refl

-- module u(input a, b); endmodule module t; logic c; u x(c, c, c); endmodule
abbrev t71 : List Description
t71 = module_ (at 0 1 1) life.Unwritten (name (at 0 1 8) "u") None (port (Some port_direction.Input) false types.Unwritten (name (at 0 1 16) "a") ∷ port None false types.Unwritten (name (at 0 1 19) "b") ∷ []) [] None ∷ module_ (at 0 1 33) life.Unwritten (name (at 0 1 40) "t") None [] (items.Decl (decl life.Unwritten (types.WrittenType.Vector (at 0 1 43) vector_word.Logic sign.Unwritten None) (declarator (name (at 0 1 49) "c") None None ∷ [])) ∷ instances (name (at 0 1 52) "u") [] (instance (name (at 0 1 54) "x") (units.Connection.Value (plain (at 0 1 56) "c") ∷ units.Connection.Value (plain (at 0 1 59) "c") ∷ units.Connection.Value (plain (at 0 1 62) "c") ∷ []) ∷ []) ∷ []) None ∷ []

t71_broken : broken t71 [] None ≡ Some (fault 8 0 1 62)
unfolding symbols_of word_of
t71_broken = refl

-- module u(input a, b); endmodule module t; logic c; u x(.a(c), .z(c)); endmodule
abbrev t72 : List Description
t72 = module_ (at 0 1 1) life.Unwritten (name (at 0 1 8) "u") None (port (Some port_direction.Input) false types.Unwritten (name (at 0 1 16) "a") ∷ port None false types.Unwritten (name (at 0 1 19) "b") ∷ []) [] None ∷ module_ (at 0 1 33) life.Unwritten (name (at 0 1 40) "t") None [] (items.Decl (decl life.Unwritten (types.WrittenType.Vector (at 0 1 43) vector_word.Logic sign.Unwritten None) (declarator (name (at 0 1 49) "c") None None ∷ [])) ∷ instances (name (at 0 1 52) "u") [] (instance (name (at 0 1 54) "x") (units.Given (at 0 1 56) (name (at 0 1 57) "a") (Some (plain (at 0 1 59) "c")) ∷ units.Given (at 0 1 63) (name (at 0 1 64) "z") (Some (plain (at 0 1 66) "c")) ∷ []) ∷ []) ∷ []) None ∷ []

t72_broken : broken t72 [] None ≡ Some (fault 8 0 1 63)
unfolding symbols_of word_of
t72_broken = refl

-- module u(input a, b); endmodule module t; logic c; u x(.b(c), .b(c), .z(c)); endmodule
abbrev t74 : List Description
t74 = module_ (at 0 1 1) life.Unwritten (name (at 0 1 8) "u") None (port (Some port_direction.Input) false types.Unwritten (name (at 0 1 16) "a") ∷ port None false types.Unwritten (name (at 0 1 19) "b") ∷ []) [] None ∷ module_ (at 0 1 33) life.Unwritten (name (at 0 1 40) "t") None [] (items.Decl (decl life.Unwritten (types.WrittenType.Vector (at 0 1 43) vector_word.Logic sign.Unwritten None) (declarator (name (at 0 1 49) "c") None None ∷ [])) ∷ instances (name (at 0 1 52) "u") [] (instance (name (at 0 1 54) "x") (units.Given (at 0 1 56) (name (at 0 1 57) "b") (Some (plain (at 0 1 59) "c")) ∷ units.Given (at 0 1 63) (name (at 0 1 64) "b") (Some (plain (at 0 1 66) "c")) ∷ units.Given (at 0 1 70) (name (at 0 1 71) "z") (Some (plain (at 0 1 73) "c")) ∷ []) ∷ []) ∷ []) None ∷ []

t74_broken : broken t74 [] None ≡ Some (fault 8 0 1 63)
unfolding symbols_of word_of
t74_broken = refl

-- module u #(parameter A = 1, B = 2); endmodule module t; u #(.B(2), .B(3)) x(); endmodule
abbrev t75 : List Description
t75 = module_ (at 0 1 1) life.Unwritten (name (at 0 1 8) "u") (Some (param param_word.Parameter types.Unwritten (value (name (at 0 1 22) "A") (number (at 0 1 26) "1") ∷ []) ∷ param param_word.Parameter types.Unwritten (value (name (at 0 1 29) "B") (number (at 0 1 33) "2") ∷ []) ∷ [])) [] [] None ∷ module_ (at 0 1 47) life.Unwritten (name (at 0 1 54) "t") None [] (instances (name (at 0 1 57) "u") (units.Given (at 0 1 61) (name (at 0 1 62) "B") (Some (number (at 0 1 64) "2")) ∷ units.Given (at 0 1 68) (name (at 0 1 69) "B") (Some (number (at 0 1 71) "3")) ∷ []) (instance (name (at 0 1 75) "x") [] ∷ []) ∷ []) None ∷ []

t75_broken : broken t75 [] None ≡ Some (fault 10 0 1 68)
unfolding symbols_of word_of
t75_broken = refl

-- module u #(parameter A = 1, B = 2); endmodule module t; logic v; u #(.B(v)) x(); endmodule
abbrev t76 : List Description
t76 = module_ (at 0 1 1) life.Unwritten (name (at 0 1 8) "u") (Some (param param_word.Parameter types.Unwritten (value (name (at 0 1 22) "A") (number (at 0 1 26) "1") ∷ []) ∷ param param_word.Parameter types.Unwritten (value (name (at 0 1 29) "B") (number (at 0 1 33) "2") ∷ []) ∷ [])) [] [] None ∷ module_ (at 0 1 47) life.Unwritten (name (at 0 1 54) "t") None [] (items.Decl (decl life.Unwritten (types.WrittenType.Vector (at 0 1 57) vector_word.Logic sign.Unwritten None) (declarator (name (at 0 1 63) "v") None None ∷ [])) ∷ instances (name (at 0 1 66) "u") (units.Given (at 0 1 70) (name (at 0 1 71) "B") (Some (plain (at 0 1 73) "v")) ∷ []) (instance (name (at 0 1 77) "x") [] ∷ []) ∷ []) None ∷ []

t76_broken : broken t76 [] None ≡ Some (fault 11 0 1 73)
unfolding symbols_of word_of
t76_broken = refl

-- module u #(parameter int A = 1); endmodule module t; u #("s") x(); endmodule
abbrev t78 : List Description
t78 = module_ (at 0 1 1) life.Unwritten (name (at 0 1 8) "u") (Some (param param_word.Parameter (types.Written (types.Atom (at 0 1 22) atom_word.Int sign.Unwritten)) (value (name (at 0 1 26) "A") (number (at 0 1 30) "1") ∷ []) ∷ [])) [] [] None ∷ module_ (at 0 1 44) life.Unwritten (name (at 0 1 51) "t") None [] (instances (name (at 0 1 54) "u") (units.Connection.Value (text (at 0 1 58) "s") ∷ []) (instance (name (at 0 1 63) "x") [] ∷ []) ∷ []) None ∷ []

t78_broken : broken t78 [] None ≡ Some (fault 16 0 1 58)
unfolding symbols_of word_of
t78_broken = refl

-- class A; function new(int x); endfunction endclass class B extends A; int y; endclass module t; B b; initial b = new; endmodule
abbrev t79 : List Description
t79 = descriptions.Item (items.Class (class_ (at 0 1 1) false (name (at 0 1 7) "A") None (method unqualified (routine (head (at 0 1 10) life.Unwritten (units.Returns.Value types.Unwritten) (name (at 0 1 19) "new") (argument None (types.Written (types.Atom (at 0 1 23) atom_word.Int sign.Unwritten)) (name (at 0 1 27) "x") None ∷ [])) [] [] None) ∷ []) None)) ∷ descriptions.Item (items.Class (class_ (at 0 1 52) false (name (at 0 1 58) "B") (Some (name (at 0 1 68) "A")) (property unqualified (decl life.Unwritten (types.Atom (at 0 1 71) atom_word.Int sign.Unwritten) (declarator (name (at 0 1 75) "y") None None ∷ [])) ∷ []) None)) ∷ module_ (at 0 1 87) life.Unwritten (name (at 0 1 94) "t") None [] (items.Decl (decl life.Unwritten (types.Named (name (at 0 1 97) "B")) (declarator (name (at 0 1 99) "b") None None ∷ [])) ∷ procedure (at 0 1 102) procedure_word.Initial (stmts.Statement (at 0 1 110) None (blocking (target (at 0 1 110) "b") None (stmts.New (at 0 1 114) tree.Unwritten))) ∷ []) None ∷ []

t79_broken : broken t79 [] None ≡ Some (fault 40 0 1 58)
unfolding symbols_of word_of
t79_broken = refl

-- class A; function new(int x); endfunction endclass class B extends A; function new(); endfunction endclass module t; endmodule
abbrev t81 : List Description
t81 = descriptions.Item (items.Class (class_ (at 0 1 1) false (name (at 0 1 7) "A") None (method unqualified (routine (head (at 0 1 10) life.Unwritten (units.Returns.Value types.Unwritten) (name (at 0 1 19) "new") (argument None (types.Written (types.Atom (at 0 1 23) atom_word.Int sign.Unwritten)) (name (at 0 1 27) "x") None ∷ [])) [] [] None) ∷ []) None)) ∷ descriptions.Item (items.Class (class_ (at 0 1 52) false (name (at 0 1 58) "B") (Some (name (at 0 1 68) "A")) (method unqualified (routine (head (at 0 1 71) life.Unwritten (units.Returns.Value types.Unwritten) (name (at 0 1 80) "new") []) [] [] None) ∷ []) None)) ∷ module_ (at 0 1 108) life.Unwritten (name (at 0 1 115) "t") None [] [] None ∷ []

t81_broken : broken t81 [] None ≡ Some (fault 40 0 1 58)
unfolding symbols_of word_of
t81_broken = refl

-- class A; function new(int x); endfunction endclass class B extends A; function new(); y = 1; super.new(1); endfunction int y; endclass module t; endmodule
abbrev t83 : List Description
t83 = descriptions.Item (items.Class (class_ (at 0 1 1) false (name (at 0 1 7) "A") None (method unqualified (routine (head (at 0 1 10) life.Unwritten (units.Returns.Value types.Unwritten) (name (at 0 1 19) "new") (argument None (types.Written (types.Atom (at 0 1 23) atom_word.Int sign.Unwritten)) (name (at 0 1 27) "x") None ∷ [])) [] [] None) ∷ []) None)) ∷ descriptions.Item (items.Class (class_ (at 0 1 52) false (name (at 0 1 58) "B") (Some (name (at 0 1 68) "A")) (method unqualified (routine (head (at 0 1 71) life.Unwritten (units.Returns.Value types.Unwritten) (name (at 0 1 80) "new") []) [] (stmts.Statement (at 0 1 87) None (blocking (target (at 0 1 87) "y") None (stmts.Value (number (at 0 1 91) "1"))) ∷ stmts.Statement (at 0 1 94) None (stmts.Call (tree.SuperNew (at 0 1 94) (at 0 1 100) (tree.Written (expressions (number (at 0 1 104) "1" ∷ []))))) ∷ []) None) ∷ property unqualified (decl life.Unwritten (types.Atom (at 0 1 120) atom_word.Int sign.Unwritten) (declarator (name (at 0 1 124) "y") None None ∷ [])) ∷ []) None)) ∷ module_ (at 0 1 136) life.Unwritten (name (at 0 1 143) "t") None [] [] None ∷ []

t83_broken : broken t83 [] None ≡ Some (fault 40 0 1 58)
unfolding symbols_of word_of
t83_broken = refl

-- program p; default clocking cb @(posedge c); endclocking logic c; default clocking cd @(posedge c); endclocking endprogram
abbrev t84 : List Description
t84 = program_ (at 0 1 1) life.Unwritten (name (at 0 1 9) "p") None [] (clocking (Some (at 0 1 12)) (name (at 0 1 29) "cb") edge.Posedge (name (at 0 1 42) "c") [] None ∷ items.Decl (decl life.Unwritten (types.WrittenType.Vector (at 0 1 58) vector_word.Logic sign.Unwritten None) (declarator (name (at 0 1 64) "c") None None ∷ [])) ∷ clocking (Some (at 0 1 67)) (name (at 0 1 84) "cd") edge.Posedge (name (at 0 1 97) "c") [] None ∷ []) None ∷ []

t84_broken : broken t84 [] None ≡ Some (fault 48 0 1 67)
unfolding symbols_of word_of
t84_broken = refl

-- module t; logic c; default clocking cb @(posedge c); endclocking default clocking cd @(negedge c); endclocking initial ##1 $display("x"); endmodule
abbrev t85 : List Description
t85 = module_ (at 0 1 1) life.Unwritten (name (at 0 1 8) "t") None [] (items.Decl (decl life.Unwritten (types.WrittenType.Vector (at 0 1 11) vector_word.Logic sign.Unwritten None) (declarator (name (at 0 1 17) "c") None None ∷ [])) ∷ clocking (Some (at 0 1 20)) (name (at 0 1 37) "cb") edge.Posedge (name (at 0 1 50) "c") [] None ∷ clocking (Some (at 0 1 66)) (name (at 0 1 83) "cd") edge.Negedge (name (at 0 1 96) "c") [] None ∷ procedure (at 0 1 112) procedure_word.Initial (stmts.Statement (at 0 1 120) None (stmts.Cycles (at 0 1 120) (number (at 0 1 122) "1") (stmts.Statement (at 0 1 124) None (stmts.Call (system (at 0 1 124) "$display" (text (at 0 1 133) "x" ∷ [])))))) ∷ []) None ∷ []

t85_broken : broken t85 [] None ≡ Some (fault 48 0 1 66)
unfolding symbols_of word_of
t85_broken = refl

-- module t; initial ##1 $display("x"); endmodule
abbrev t86 : List Description
t86 = module_ (at 0 1 1) life.Unwritten (name (at 0 1 8) "t") None [] (procedure (at 0 1 11) procedure_word.Initial (stmts.Statement (at 0 1 19) None (stmts.Cycles (at 0 1 19) (number (at 0 1 21) "1") (stmts.Statement (at 0 1 23) None (stmts.Call (system (at 0 1 23) "$display" (text (at 0 1 32) "x" ∷ [])))))) ∷ []) None ∷ []

t86_broken : broken t86 [] None ≡ Some (fault 48 0 1 19)
unfolding symbols_of word_of
t86_broken = refl

-- program p; initial ##2; endprogram
abbrev t87 : List Description
t87 = program_ (at 0 1 1) life.Unwritten (name (at 0 1 9) "p") None [] (procedure (at 0 1 12) procedure_word.Initial (stmts.Statement (at 0 1 20) None (stmts.Cycles (at 0 1 20) (number (at 0 1 22) "2") (stmts.Statement (at 0 1 23) None stmts.Null))) ∷ []) None ∷ []

t87_broken : broken t87 [] None ≡ Some (fault 48 0 1 20)
unfolding symbols_of word_of
t87_broken = refl

-- module t; logic c; clocking cb @(posedge c); endclocking initial ##1 $display("x"); endmodule
abbrev t88 : List Description
t88 = module_ (at 0 1 1) life.Unwritten (name (at 0 1 8) "t") None [] (items.Decl (decl life.Unwritten (types.WrittenType.Vector (at 0 1 11) vector_word.Logic sign.Unwritten None) (declarator (name (at 0 1 17) "c") None None ∷ [])) ∷ clocking None (name (at 0 1 29) "cb") edge.Posedge (name (at 0 1 42) "c") [] None ∷ procedure (at 0 1 58) procedure_word.Initial (stmts.Statement (at 0 1 66) None (stmts.Cycles (at 0 1 66) (number (at 0 1 68) "1") (stmts.Statement (at 0 1 70) None (stmts.Call (system (at 0 1 70) "$display" (text (at 0 1 79) "x" ∷ [])))))) ∷ []) None ∷ []

t88_broken : broken t88 [] None ≡ Some (fault 48 0 1 66)
unfolding symbols_of word_of
t88_broken = refl

-- module t; int v; initial begin $monitor("%0d", v); v = 1; #1 v = 2; #1 $monitoroff; v = 3; #1 $monitoron; end endmodule
abbrev t90 : List Description
t90 = module_ (at 0 1 1) life.Unwritten (name (at 0 1 8) "t") None [] (items.Decl (decl life.Unwritten (types.Atom (at 0 1 11) atom_word.Int sign.Unwritten) (declarator (name (at 0 1 15) "v") None None ∷ [])) ∷ procedure (at 0 1 18) procedure_word.Initial (stmts.Statement (at 0 1 26) None (stmts.Block None [] (statements (stmts.Statement (at 0 1 32) None (stmts.Call (system (at 0 1 32) "$monitor" (text (at 0 1 41) "%0d" ∷ plain (at 0 1 48) "v" ∷ []))) ∷ stmts.Statement (at 0 1 52) None (blocking (target (at 0 1 52) "v") None (stmts.Value (number (at 0 1 56) "1"))) ∷ stmts.Statement (at 0 1 59) None (stmts.After (delay (at 0 1 59) (number (at 0 1 60) "1")) (stmts.Statement (at 0 1 62) None (blocking (target (at 0 1 62) "v") None (stmts.Value (number (at 0 1 66) "2"))))) ∷ stmts.Statement (at 0 1 69) None (stmts.After (delay (at 0 1 69) (number (at 0 1 70) "1")) (stmts.Statement (at 0 1 72) None (stmts.Call (tree.System (name (at 0 1 72) "$monitoroff") tree.Unwritten)))) ∷ stmts.Statement (at 0 1 85) None (blocking (target (at 0 1 85) "v") None (stmts.Value (number (at 0 1 89) "3"))) ∷ stmts.Statement (at 0 1 92) None (stmts.After (delay (at 0 1 92) (number (at 0 1 93) "1")) (stmts.Statement (at 0 1 95) None (stmts.Call (tree.System (name (at 0 1 95) "$monitoron") tree.Unwritten)))) ∷ [])) None)) ∷ []) None ∷ []

t90_broken : broken t90 [] None ≡ Some (fault 55 0 1 72)
unfolding symbols_of word_of
t90_broken = refl

-- module t; int n; initial $finish(n); endmodule
abbrev t94 : List Description
t94 = module_ (at 0 1 1) life.Unwritten (name (at 0 1 8) "t") None [] (items.Decl (decl life.Unwritten (types.Atom (at 0 1 11) atom_word.Int sign.Unwritten) (declarator (name (at 0 1 15) "n") None None ∷ [])) ∷ procedure (at 0 1 18) procedure_word.Initial (stmts.Statement (at 0 1 26) None (stmts.Call (system (at 0 1 26) "$finish" (plain (at 0 1 34) "n" ∷ [])))) ∷ []) None ∷ []

t94_broken : broken t94 [] None ≡ Some (fault 11 0 1 34)
unfolding symbols_of word_of
t94_broken = refl
