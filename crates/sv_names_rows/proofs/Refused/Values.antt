-- Texts that break a rule, or come close to it: constants, enumerations and limits.
use Rattle.std.proofs.Common.{◌≡◌, List, [], ◌∷◌, true, false, refl}
use Rattle.std.specs.Prelude.{Some, None}
use Rattle.sv_value.specs.Vector.{symbols_of, word_of}
use Rattle.sv_flat.specs.declared.choices.Choices.TheVariants.{Listed}
use Rattle.sv_flat.specs.Directed.{Done}
use Rattle.sv_tree.specs.declared.word.VectorWord.TheVariants as vector_word
use Rattle.sv_tree.specs.declared.word.AtomWord.TheVariants as atom_word
use Rattle.sv_tree.specs.declared.word.Sign.TheVariants as sign
use Rattle.sv_tree.specs.declared.word.Life.TheVariants as life
use Rattle.sv_tree.specs.declared.word.EdgeWord.TheVariants as edge
use Rattle.sv_tree.specs.declared.word.ProcedureWord.TheVariants as procedure_word
use Rattle.sv_tree.specs.declared.word.Direction.TheVariants as direction
use Rattle.sv_tree.specs.declared.word.PortDirection.TheVariants as port_direction
use Rattle.sv_tree.specs.declared.word.ParamWord.TheVariants as param_word
use Rattle.sv_tree.specs.declared.expr.Root.TheVariants as root
use Rattle.sv_tree.specs.Expr as tree
use Rattle.sv_tree.specs.Types as types
use Rattle.sv_tree.specs.Stmt as stmts
use Rattle.sv_tree.specs.Units as units
use Rattle.sv_tree.specs.Items as items
use Rattle.sv_tree.specs.Descriptions as descriptions
use Rattle.sv_tree.specs.Descriptions.{Description}
use Rattle.sv_names.specs.Design.{broken, elaborated}
use Rattle.sv_names_rows.proofs.Kit.{argument, at, blocking, class_, clocking, decl, declarator, enum_item, expressions, fault, head, instance, instances, lines, method, module_, name, nonblocking, number, param, plain, port, procedure, program_, property, pure_method, qualifiers, range, routine, seen_in, sided, statements, system, target, text, typedef, unqualified, value, Ran}

-- module t; parameter string S = 3; endmodule
abbrev t1 : List Description
t1 = module_ (at 0 1 1) life.Unwritten (name (at 0 1 8) "t") None [] (items.Param (param param_word.Parameter (types.Written (types.Text (at 0 1 21))) (value (name (at 0 1 28) "S") (number (at 0 1 32) "3") ∷ [])) ∷ []) None ∷ []

t1_broken : broken t1 [] None ≡ Some (fault 16 0 1 32)
unfolding symbols_of word_of
t1_broken = refl

-- module t; parameter int S = "x"; endmodule
abbrev t2 : List Description
t2 = module_ (at 0 1 1) life.Unwritten (name (at 0 1 8) "t") None [] (items.Param (param param_word.Parameter (types.Written (types.Atom (at 0 1 21) atom_word.Int sign.Unwritten)) (value (name (at 0 1 25) "S") (text (at 0 1 29) "x") ∷ [])) ∷ []) None ∷ []

t2_broken : broken t2 [] None ≡ Some (fault 16 0 1 29)
unfolding symbols_of word_of
t2_broken = refl

-- module t; parameter S = null; endmodule
abbrev t3 : List Description
t3 = module_ (at 0 1 1) life.Unwritten (name (at 0 1 8) "t") None [] (items.Param (param param_word.Parameter types.Unwritten (value (name (at 0 1 21) "S") (tree.Null (at 0 1 25)) ∷ [])) ∷ []) None ∷ []

t3_broken : broken t3 [] None ≡ Some (fault 16 0 1 25)
unfolding symbols_of word_of
t3_broken = refl

-- module t; parameter signed S = "x"; endmodule
abbrev t4 : List Description
t4 = module_ (at 0 1 1) life.Unwritten (name (at 0 1 8) "t") None [] (items.Param (param param_word.Parameter (types.ImpliedType.Vector (at 0 1 21) sign.Signed None) (value (name (at 0 1 28) "S") (text (at 0 1 32) "x") ∷ [])) ∷ []) None ∷ []

t4_broken : broken t4 [] None ≡ Some (fault 16 0 1 32)
unfolding symbols_of word_of
t4_broken = refl

-- module t; localparam [S:0] P = 1; localparam S = P; endmodule
abbrev t5 : List Description
t5 = module_ (at 0 1 1) life.Unwritten (name (at 0 1 8) "t") None [] (items.Param (param param_word.Localparam (types.ImpliedType.Vector (at 0 1 22) sign.Unwritten (Some (range (at 0 1 22) (plain (at 0 1 23) "S") (number (at 0 1 25) "0")))) (value (name (at 0 1 28) "P") (number (at 0 1 32) "1") ∷ [])) ∷ items.Param (param param_word.Localparam types.Unwritten (value (name (at 0 1 46) "S") (plain (at 0 1 50) "P") ∷ [])) ∷ []) None ∷ []

t5_broken : broken t5 [] None ≡ Some (fault 11 0 1 23)
unfolding symbols_of word_of
t5_broken = refl

-- module t; typedef w v; typedef v w; typedef v z; z q; endmodule
abbrev t6 : List Description
t6 = module_ (at 0 1 1) life.Unwritten (name (at 0 1 8) "t") None [] (items.Typedef (typedef (types.Named (name (at 0 1 19) "w")) (name (at 0 1 21) "v")) ∷ items.Typedef (typedef (types.Named (name (at 0 1 32) "v")) (name (at 0 1 34) "w")) ∷ items.Typedef (typedef (types.Named (name (at 0 1 45) "v")) (name (at 0 1 47) "z")) ∷ items.Decl (decl life.Unwritten (types.Named (name (at 0 1 50) "z")) (declarator (name (at 0 1 52) "q") None None ∷ [])) ∷ []) None ∷ []

t6_broken : broken t6 [] None ≡ Some (fault 7 0 1 19)
unfolding symbols_of word_of
t6_broken = refl

-- module t; z q; typedef v z; typedef w v; typedef v w; endmodule
abbrev t7 : List Description
t7 = module_ (at 0 1 1) life.Unwritten (name (at 0 1 8) "t") None [] (items.Decl (decl life.Unwritten (types.Named (name (at 0 1 11) "z")) (declarator (name (at 0 1 13) "q") None None ∷ [])) ∷ items.Typedef (typedef (types.Named (name (at 0 1 24) "v")) (name (at 0 1 26) "z")) ∷ items.Typedef (typedef (types.Named (name (at 0 1 37) "w")) (name (at 0 1 39) "v")) ∷ items.Typedef (typedef (types.Named (name (at 0 1 50) "v")) (name (at 0 1 52) "w")) ∷ []) None ∷ []

t7_broken : broken t7 [] None ≡ Some (fault 7 0 1 37)
unfolding symbols_of word_of
t7_broken = refl

-- module t; enum {A = B, B = A} e; endmodule
abbrev t8 : List Description
t8 = module_ (at 0 1 1) life.Unwritten (name (at 0 1 8) "t") None [] (items.Decl (decl life.Unwritten (types.Enum (at 0 1 11) (enum_item (name (at 0 1 17) "A") (Some (plain (at 0 1 21) "B")) ∷ enum_item (name (at 0 1 24) "B") (Some (plain (at 0 1 28) "A")) ∷ [])) (declarator (name (at 0 1 31) "e") None None ∷ [])) ∷ []) None ∷ []

t8_broken : broken t8 [] None ≡ Some (fault 11 0 1 21)
unfolding symbols_of word_of
t8_broken = refl

-- module t; enum {A = C, B} e; localparam C = A; localparam D = B; endmodule
abbrev t9 : List Description
t9 = module_ (at 0 1 1) life.Unwritten (name (at 0 1 8) "t") None [] (items.Decl (decl life.Unwritten (types.Enum (at 0 1 11) (enum_item (name (at 0 1 17) "A") (Some (plain (at 0 1 21) "C")) ∷ enum_item (name (at 0 1 24) "B") None ∷ [])) (declarator (name (at 0 1 27) "e") None None ∷ [])) ∷ items.Param (param param_word.Localparam types.Unwritten (value (name (at 0 1 41) "C") (plain (at 0 1 45) "A") ∷ [])) ∷ items.Param (param param_word.Localparam types.Unwritten (value (name (at 0 1 59) "D") (plain (at 0 1 63) "B") ∷ [])) ∷ []) None ∷ []

t9_broken : broken t9 [] None ≡ Some (fault 11 0 1 21)
unfolding symbols_of word_of
t9_broken = refl

-- module t; function enum {A, A} f(); endfunction endmodule
abbrev t10 : List Description
t10 = module_ (at 0 1 1) life.Unwritten (name (at 0 1 8) "t") None [] (items.Routine (routine (head (at 0 1 11) life.Unwritten (units.Returns.Value (types.Written (types.Enum (at 0 1 20) (enum_item (name (at 0 1 26) "A") None ∷ enum_item (name (at 0 1 29) "A") None ∷ [])))) (name (at 0 1 32) "f") []) [] [] None) ∷ []) None ∷ []

t10_broken : broken t10 [] None ≡ Some (fault 5 0 1 29)
unfolding symbols_of word_of
t10_broken = refl

-- module t; initial begin enum {A = 1, B = 1} e; end endmodule
abbrev t11 : List Description
t11 = module_ (at 0 1 1) life.Unwritten (name (at 0 1 8) "t") None [] (procedure (at 0 1 11) procedure_word.Initial (stmts.Statement (at 0 1 19) None (stmts.Block None (decl life.Unwritten (types.Enum (at 0 1 25) (enum_item (name (at 0 1 31) "A") (Some (number (at 0 1 35) "1")) ∷ enum_item (name (at 0 1 38) "B") (Some (number (at 0 1 42) "1")) ∷ [])) (declarator (name (at 0 1 45) "e") None None ∷ []) ∷ []) stmts.NoStmt None)) ∷ []) None ∷ []

t11_broken : broken t11 [] None ≡ Some (fault 56 0 1 38)
unfolding symbols_of word_of
t11_broken = refl

-- module t; enum bit [1:0] {A = 3, B} e; endmodule
abbrev t12 : List Description
t12 = module_ (at 0 1 1) life.Unwritten (name (at 0 1 8) "t") None [] (items.Decl (decl life.Unwritten (types.EnumOf (at 0 1 11) (types.WrittenType.Vector (at 0 1 16) vector_word.Bit sign.Unwritten (Some (range (at 0 1 20) (number (at 0 1 21) "1") (number (at 0 1 23) "0")))) (enum_item (name (at 0 1 27) "A") (Some (number (at 0 1 31) "3")) ∷ enum_item (name (at 0 1 34) "B") None ∷ [])) (declarator (name (at 0 1 37) "e") None None ∷ [])) ∷ []) None ∷ []

t12_broken : broken t12 [] None ≡ Some (fault 56 0 1 34)
unfolding symbols_of word_of
t12_broken = refl

-- module t; enum int {A = 1'bx} e; endmodule
abbrev t13 : List Description
t13 = module_ (at 0 1 1) life.Unwritten (name (at 0 1 8) "t") None [] (items.Decl (decl life.Unwritten (types.EnumOf (at 0 1 11) (types.Atom (at 0 1 16) atom_word.Int sign.Unwritten) (enum_item (name (at 0 1 21) "A") (Some (number (at 0 1 25) "1'bx")) ∷ [])) (declarator (name (at 0 1 31) "e") None None ∷ [])) ∷ []) None ∷ []

t13_broken : broken t13 [] None ≡ Some (fault 56 0 1 21)
unfolding symbols_of word_of
t13_broken = refl

-- module t; enum logic {A = 1'bx, B} e; endmodule
abbrev t14 : List Description
t14 = module_ (at 0 1 1) life.Unwritten (name (at 0 1 8) "t") None [] (items.Decl (decl life.Unwritten (types.EnumOf (at 0 1 11) (types.WrittenType.Vector (at 0 1 16) vector_word.Logic sign.Unwritten None) (enum_item (name (at 0 1 23) "A") (Some (number (at 0 1 27) "1'bx")) ∷ enum_item (name (at 0 1 33) "B") None ∷ [])) (declarator (name (at 0 1 36) "e") None None ∷ [])) ∷ []) None ∷ []

t14_broken : broken t14 [] None ≡ Some (fault 56 0 1 33)
unfolding symbols_of word_of
t14_broken = refl

-- module t; enum {A = "s"} e; endmodule
abbrev t15 : List Description
t15 = module_ (at 0 1 1) life.Unwritten (name (at 0 1 8) "t") None [] (items.Decl (decl life.Unwritten (types.Enum (at 0 1 11) (enum_item (name (at 0 1 17) "A") (Some (text (at 0 1 21) "s")) ∷ [])) (declarator (name (at 0 1 26) "e") None None ∷ [])) ∷ []) None ∷ []

t15_broken : broken t15 [] None ≡ Some (fault 16 0 1 21)
unfolding symbols_of word_of
t15_broken = refl

-- module t; typedef enum {A} e; enum e {B} f; endmodule
abbrev t16 : List Description
t16 = module_ (at 0 1 1) life.Unwritten (name (at 0 1 8) "t") None [] (items.Typedef (typedef (types.Enum (at 0 1 19) (enum_item (name (at 0 1 25) "A") None ∷ [])) (name (at 0 1 28) "e")) ∷ items.Decl (decl life.Unwritten (types.EnumOf (at 0 1 31) (types.Named (name (at 0 1 36) "e")) (enum_item (name (at 0 1 39) "B") None ∷ [])) (declarator (name (at 0 1 42) "f") None None ∷ [])) ∷ []) None ∷ []

t16_broken : broken t16 [] None ≡ Some (fault 7 0 1 36)
unfolding symbols_of word_of
t16_broken = refl

-- module t; localparam int P = 3; initial P.x = 1; endmodule
abbrev t17 : List Description
t17 = module_ (at 0 1 1) life.Unwritten (name (at 0 1 8) "t") None [] (items.Param (param param_word.Localparam (types.Written (types.Atom (at 0 1 22) atom_word.Int sign.Unwritten)) (value (name (at 0 1 26) "P") (number (at 0 1 30) "3") ∷ [])) ∷ procedure (at 0 1 33) procedure_word.Initial (stmts.Statement (at 0 1 41) None (blocking (tree.Lval.Post (root.Plain (name (at 0 1 41) "P")) (tree.Member (name (at 0 1 43) "x") tree.NoSuffix)) None (stmts.Value (number (at 0 1 47) "1")))) ∷ []) None ∷ []

t17_broken : broken t17 [] None ≡ Some (fault 36 0 1 43)
unfolding symbols_of word_of
t17_broken = refl

-- module t; int a[4194305]; endmodule
abbrev t18 : List Description
t18 = module_ (at 0 1 1) life.Unwritten (name (at 0 1 8) "t") None [] (items.Decl (decl life.Unwritten (types.Atom (at 0 1 11) atom_word.Int sign.Unwritten) (declarator (name (at 0 1 15) "a") (Some (stmts.Size (at 0 1 16) (number (at 0 1 17) "4194305"))) None ∷ [])) ∷ []) None ∷ []

t18_broken : broken t18 [] None ≡ Some (fault 44 0 1 15)
unfolding symbols_of word_of
t18_broken = refl

-- module t; int a[4194303], b; int c[2]; initial x = 1; endmodule
abbrev t19 : List Description
t19 = module_ (at 0 1 1) life.Unwritten (name (at 0 1 8) "t") None [] (items.Decl (decl life.Unwritten (types.Atom (at 0 1 11) atom_word.Int sign.Unwritten) (declarator (name (at 0 1 15) "a") (Some (stmts.Size (at 0 1 16) (number (at 0 1 17) "4194303"))) None ∷ declarator (name (at 0 1 27) "b") None None ∷ [])) ∷ items.Decl (decl life.Unwritten (types.Atom (at 0 1 30) atom_word.Int sign.Unwritten) (declarator (name (at 0 1 34) "c") (Some (stmts.Size (at 0 1 35) (number (at 0 1 36) "2"))) None ∷ [])) ∷ procedure (at 0 1 40) procedure_word.Initial (stmts.Statement (at 0 1 48) None (blocking (target (at 0 1 48) "x") None (stmts.Value (number (at 0 1 52) "1")))) ∷ []) None ∷ []

t19_broken : broken t19 [] None ≡ Some (fault 44 0 1 34)
unfolding symbols_of word_of
t19_broken = refl

-- module t; class C; int a[4194305]; endclass endmodule
abbrev t20 : List Description
t20 = module_ (at 0 1 1) life.Unwritten (name (at 0 1 8) "t") None [] (items.Class (class_ (at 0 1 11) false (name (at 0 1 17) "C") None (property unqualified (decl life.Unwritten (types.Atom (at 0 1 20) atom_word.Int sign.Unwritten) (declarator (name (at 0 1 24) "a") (Some (stmts.Size (at 0 1 25) (number (at 0 1 26) "4194305"))) None ∷ [])) ∷ []) None) ∷ []) None ∷ []

t20_broken : broken t20 [] None ≡ Some (fault 44 0 1 24)
unfolding symbols_of word_of
t20_broken = refl

-- module t; task automatic w(); int a[4194305]; endtask endmodule
abbrev t21 : List Description
t21 = module_ (at 0 1 1) life.Unwritten (name (at 0 1 8) "t") None [] (items.Routine (routine (head (at 0 1 11) life.Automatic units.Task (name (at 0 1 26) "w") []) (decl life.Unwritten (types.Atom (at 0 1 31) atom_word.Int sign.Unwritten) (declarator (name (at 0 1 35) "a") (Some (stmts.Size (at 0 1 36) (number (at 0 1 37) "4194305"))) None ∷ []) ∷ []) [] None) ∷ []) None ∷ []

t21_broken : broken t21 [] None ≡ Some (fault 44 0 1 35)
unfolding symbols_of word_of
t21_broken = refl

-- module t; initial begin : b automatic int a[4194300]; int c[6]; end endmodule
abbrev t22 : List Description
t22 = module_ (at 0 1 1) life.Unwritten (name (at 0 1 8) "t") None [] (procedure (at 0 1 11) procedure_word.Initial (stmts.Statement (at 0 1 19) None (stmts.Block (Some (name (at 0 1 27) "b")) (decl life.Automatic (types.Atom (at 0 1 39) atom_word.Int sign.Unwritten) (declarator (name (at 0 1 43) "a") (Some (stmts.Size (at 0 1 44) (number (at 0 1 45) "4194300"))) None ∷ []) ∷ decl life.Unwritten (types.Atom (at 0 1 55) atom_word.Int sign.Unwritten) (declarator (name (at 0 1 59) "c") (Some (stmts.Size (at 0 1 60) (number (at 0 1 61) "6"))) None ∷ []) ∷ []) stmts.NoStmt None)) ∷ []) None ∷ []

t22_broken : broken t22 [] None ≡ Some (fault 44 0 1 59)
unfolding symbols_of word_of
t22_broken = refl

-- module u; int a[2097153]; endmodule module t; u x(), y(); int z; endmodule
abbrev t23 : List Description
t23 = module_ (at 0 1 1) life.Unwritten (name (at 0 1 8) "u") None [] (items.Decl (decl life.Unwritten (types.Atom (at 0 1 11) atom_word.Int sign.Unwritten) (declarator (name (at 0 1 15) "a") (Some (stmts.Size (at 0 1 16) (number (at 0 1 17) "2097153"))) None ∷ [])) ∷ []) None ∷ module_ (at 0 1 37) life.Unwritten (name (at 0 1 44) "t") None [] (instances (name (at 0 1 47) "u") [] (instance (name (at 0 1 49) "x") [] ∷ instance (name (at 0 1 54) "y") [] ∷ []) ∷ items.Decl (decl life.Unwritten (types.Atom (at 0 1 59) atom_word.Int sign.Unwritten) (declarator (name (at 0 1 63) "z") None None ∷ [])) ∷ []) None ∷ []

t23_broken : broken t23 [] None ≡ Some (fault 44 0 1 15)
unfolding symbols_of word_of
t23_broken = refl

-- virtual class S; pure virtual function int area(); endclass class R extends S; int area; virtual function int area(); return 1; endfunction endclass module t; endmodule
abbrev t24 : List Description
t24 = descriptions.Item (items.Class (class_ (at 0 1 1) true (name (at 0 1 15) "S") None (pure_method (at 0 1 18) (head (at 0 1 31) life.Unwritten (units.Returns.Value (types.Written (types.Atom (at 0 1 40) atom_word.Int sign.Unwritten))) (name (at 0 1 44) "area") []) ∷ []) None)) ∷ descriptions.Item (items.Class (class_ (at 0 1 61) false (name (at 0 1 67) "R") (Some (name (at 0 1 77) "S")) (property unqualified (decl life.Unwritten (types.Atom (at 0 1 80) atom_word.Int sign.Unwritten) (declarator (name (at 0 1 84) "area") None None ∷ [])) ∷ method (qualifiers false false false true) (routine (head (at 0 1 98) life.Unwritten (units.Returns.Value (types.Written (types.Atom (at 0 1 107) atom_word.Int sign.Unwritten))) (name (at 0 1 111) "area") []) [] (stmts.Statement (at 0 1 119) None (stmts.Return (Some (number (at 0 1 126) "1"))) ∷ []) None) ∷ []) None)) ∷ module_ (at 0 1 150) life.Unwritten (name (at 0 1 157) "t") None [] [] None ∷ []

t24_broken : broken t24 [] None ≡ Some (fault 35 0 1 67)
unfolding symbols_of word_of
t24_broken = refl

-- function automatic f f(int a); return a; endfunction module t; endmodule
abbrev t25 : List Description
t25 = descriptions.Item (items.Routine (routine (head (at 0 1 1) life.Automatic (units.Returns.Value (types.Written (types.Named (name (at 0 1 20) "f")))) (name (at 0 1 22) "f") (argument None (types.Written (types.Atom (at 0 1 24) atom_word.Int sign.Unwritten)) (name (at 0 1 28) "a") None ∷ [])) [] (stmts.Statement (at 0 1 32) None (stmts.Return (Some (plain (at 0 1 39) "a"))) ∷ []) None)) ∷ module_ (at 0 1 54) life.Unwritten (name (at 0 1 61) "t") None [] [] None ∷ []

t25_broken : broken t25 [] None ≡ Some (fault 7 0 1 20)
unfolding symbols_of word_of
t25_broken = refl

-- module t; function int g(enum {A = A} x); return 1; endfunction endmodule
abbrev t26 : List Description
t26 = module_ (at 0 1 1) life.Unwritten (name (at 0 1 8) "t") None [] (items.Routine (routine (head (at 0 1 11) life.Unwritten (units.Returns.Value (types.Written (types.Atom (at 0 1 20) atom_word.Int sign.Unwritten))) (name (at 0 1 24) "g") (argument None (types.Written (types.Enum (at 0 1 26) (enum_item (name (at 0 1 32) "A") (Some (plain (at 0 1 36) "A")) ∷ []))) (name (at 0 1 39) "x") None ∷ [])) [] (stmts.Statement (at 0 1 43) None (stmts.Return (Some (number (at 0 1 50) "1"))) ∷ []) None) ∷ []) None ∷ []

t26_broken : broken t26 [] None ≡ Some (fault 11 0 1 36)
unfolding symbols_of word_of
t26_broken = refl

-- module t; function int g(g x); return 1; endfunction endmodule
abbrev t27 : List Description
t27 = module_ (at 0 1 1) life.Unwritten (name (at 0 1 8) "t") None [] (items.Routine (routine (head (at 0 1 11) life.Unwritten (units.Returns.Value (types.Written (types.Atom (at 0 1 20) atom_word.Int sign.Unwritten))) (name (at 0 1 24) "g") (argument None (types.Written (types.Named (name (at 0 1 26) "g"))) (name (at 0 1 28) "x") None ∷ [])) [] (stmts.Statement (at 0 1 32) None (stmts.Return (Some (number (at 0 1 39) "1"))) ∷ []) None) ∷ []) None ∷ []

t27_broken : broken t27 [] None ≡ Some (fault 7 0 1 26)
unfolding symbols_of word_of
t27_broken = refl

-- module t; function int g(int g); return g; endfunction initial $display("%0d", g(4)); endmodule
abbrev t28 : List Description
t28 = module_ (at 0 1 1) life.Unwritten (name (at 0 1 8) "t") None [] (items.Routine (routine (head (at 0 1 11) life.Unwritten (units.Returns.Value (types.Written (types.Atom (at 0 1 20) atom_word.Int sign.Unwritten))) (name (at 0 1 24) "g") (argument None (types.Written (types.Atom (at 0 1 26) atom_word.Int sign.Unwritten)) (name (at 0 1 30) "g") None ∷ [])) [] (stmts.Statement (at 0 1 34) None (stmts.Return (Some (plain (at 0 1 41) "g"))) ∷ []) None) ∷ procedure (at 0 1 56) procedure_word.Initial (stmts.Statement (at 0 1 64) None (stmts.Call (system (at 0 1 64) "$display" (text (at 0 1 73) "%0d" ∷ tree.Expr.Post (root.Plain (name (at 0 1 80) "g")) (tree.Call (at 0 1 81) (expressions (number (at 0 1 82) "4" ∷ [])) tree.NoSuffix) ∷ [])))) ∷ []) None ∷ []

t28_seen : seen_in (Listed []) (Listed []) (elaborated t28 [] None) 10 ≡ Ran (record { log = lines ("4" ∷ []); wave = lines ("$timescale 1ns $end" ∷ "$scope module t $end" ∷ "$upscope $end" ∷ "$enddefinitions $end" ∷ "#0" ∷ "$dumpvars" ∷ "$end" ∷ []); outcome = Done; time = 0; steps = 7; race = Some (7, at 0 1 24) })
unfolding symbols_of word_of
t28_seen = refl

-- module t; int q[$]; initial q <= 3; endmodule
abbrev t29 : List Description
t29 = module_ (at 0 1 1) life.Unwritten (name (at 0 1 8) "t") None [] (items.Decl (decl life.Unwritten (types.Atom (at 0 1 11) atom_word.Int sign.Unwritten) (declarator (name (at 0 1 15) "q") (Some (stmts.Queue (at 0 1 16))) None ∷ [])) ∷ procedure (at 0 1 21) procedure_word.Initial (stmts.Statement (at 0 1 29) None (nonblocking (target (at 0 1 29) "q") None (number (at 0 1 34) "3"))) ∷ []) None ∷ []

t29_broken : broken t29 [] None ≡ Some (fault 42 0 1 29)
unfolding symbols_of word_of
t29_broken = refl

-- module t; task w(w x); endtask endmodule
abbrev t30 : List Description
t30 = module_ (at 0 1 1) life.Unwritten (name (at 0 1 8) "t") None [] (items.Routine (routine (head (at 0 1 11) life.Unwritten units.Task (name (at 0 1 16) "w") (argument None (types.Written (types.Named (name (at 0 1 18) "w"))) (name (at 0 1 20) "x") None ∷ [])) [] [] None) ∷ []) None ∷ []

t30_broken : broken t30 [] None ≡ Some (fault 7 0 1 18)
unfolding symbols_of word_of
t30_broken = refl

-- module t; initial begin automatic semaphore k; $monitor("%d", k); end endmodule
abbrev t31 : List Description
t31 = module_ (at 0 1 1) life.Unwritten (name (at 0 1 8) "t") None [] (procedure (at 0 1 11) procedure_word.Initial (stmts.Statement (at 0 1 19) None (stmts.Block None (decl life.Automatic (types.Semaphore (at 0 1 35)) (declarator (name (at 0 1 45) "k") None None ∷ []) ∷ []) (statements (stmts.Statement (at 0 1 48) None (stmts.Call (system (at 0 1 48) "$monitor" (text (at 0 1 57) "%d" ∷ plain (at 0 1 63) "k" ∷ []))) ∷ [])) None)) ∷ []) None ∷ []

t31_broken : broken t31 [] None ≡ Some (fault 50 0 1 63)
unfolding symbols_of word_of
t31_broken = refl

-- module t; initial begin automatic string k; $strobe("%d", k); end endmodule
abbrev t32 : List Description
t32 = module_ (at 0 1 1) life.Unwritten (name (at 0 1 8) "t") None [] (procedure (at 0 1 11) procedure_word.Initial (stmts.Statement (at 0 1 19) None (stmts.Block None (decl life.Automatic (types.Text (at 0 1 35)) (declarator (name (at 0 1 42) "k") None None ∷ []) ∷ []) (statements (stmts.Statement (at 0 1 45) None (stmts.Call (system (at 0 1 45) "$strobe" (text (at 0 1 53) "%d" ∷ plain (at 0 1 59) "k" ∷ []))) ∷ [])) None)) ∷ []) None ∷ []

t32_broken : broken t32 [] None ≡ Some (fault 50 0 1 59)
unfolding symbols_of word_of
t32_broken = refl

-- module t; initial begin automatic int k; $strobe("%d %d", k); end endmodule
abbrev t33 : List Description
t33 = module_ (at 0 1 1) life.Unwritten (name (at 0 1 8) "t") None [] (procedure (at 0 1 11) procedure_word.Initial (stmts.Statement (at 0 1 19) None (stmts.Block None (decl life.Automatic (types.Atom (at 0 1 35) atom_word.Int sign.Unwritten) (declarator (name (at 0 1 39) "k") None None ∷ []) ∷ []) (statements (stmts.Statement (at 0 1 42) None (stmts.Call (system (at 0 1 42) "$strobe" (text (at 0 1 50) "%d %d" ∷ plain (at 0 1 59) "k" ∷ []))) ∷ [])) None)) ∷ []) None ∷ []

t33_broken : broken t33 [] None ≡ Some (fault 50 0 1 50)
unfolding symbols_of word_of
t33_broken = refl

-- program p(input logic c, d, output logic [3:0] y); clocking cb @(posedge c); input d; output cb; endclocking endprogram
abbrev t34 : List Description
t34 = program_ (at 0 1 1) life.Unwritten (name (at 0 1 9) "p") None (port (Some port_direction.Input) false (types.Written (types.WrittenType.Vector (at 0 1 17) vector_word.Logic sign.Unwritten None)) (name (at 0 1 23) "c") ∷ port None false types.Unwritten (name (at 0 1 26) "d") ∷ port (Some port_direction.Output) false (types.Written (types.WrittenType.Vector (at 0 1 36) vector_word.Logic sign.Unwritten (Some (range (at 0 1 42) (number (at 0 1 43) "3") (number (at 0 1 45) "0"))))) (name (at 0 1 48) "y") ∷ []) (clocking None (name (at 0 1 61) "cb") edge.Posedge (name (at 0 1 74) "c") (units.Signals (sided direction.Input None ∷ []) (name (at 0 1 84) "d" ∷ []) ∷ units.Signals (sided direction.Output None ∷ []) (name (at 0 1 94) "cb" ∷ []) ∷ []) None ∷ []) None ∷ []

t34_broken : broken t34 [] None ≡ Some (fault 46 0 1 94)
unfolding symbols_of word_of
t34_broken = refl

-- program p(input logic c, d); clocking cb @(posedge c); input cc; endclocking clocking cc @(posedge c); input cb; endclocking endprogram
abbrev t35 : List Description
t35 = program_ (at 0 1 1) life.Unwritten (name (at 0 1 9) "p") None (port (Some port_direction.Input) false (types.Written (types.WrittenType.Vector (at 0 1 17) vector_word.Logic sign.Unwritten None)) (name (at 0 1 23) "c") ∷ port None false types.Unwritten (name (at 0 1 26) "d") ∷ []) (clocking None (name (at 0 1 39) "cb") edge.Posedge (name (at 0 1 52) "c") (units.Signals (sided direction.Input None ∷ []) (name (at 0 1 62) "cc" ∷ []) ∷ []) None ∷ clocking None (name (at 0 1 87) "cc") edge.Posedge (name (at 0 1 100) "c") (units.Signals (sided direction.Input None ∷ []) (name (at 0 1 110) "cb" ∷ []) ∷ []) None ∷ []) None ∷ []

t35_broken : broken t35 [] None ≡ Some (fault 46 0 1 62)
unfolding symbols_of word_of
t35_broken = refl

-- program p(input logic c, d); clocking cb @(cb); input d; endclocking endprogram
abbrev t36 : List Description
t36 = program_ (at 0 1 1) life.Unwritten (name (at 0 1 9) "p") None (port (Some port_direction.Input) false (types.Written (types.WrittenType.Vector (at 0 1 17) vector_word.Logic sign.Unwritten None)) (name (at 0 1 23) "c") ∷ port None false types.Unwritten (name (at 0 1 26) "d") ∷ []) (clocking None (name (at 0 1 39) "cb") edge.Unwritten (name (at 0 1 44) "cb") (units.Signals (sided direction.Input None ∷ []) (name (at 0 1 55) "d" ∷ []) ∷ []) None ∷ []) None ∷ []

t36_broken : broken t36 [] None ≡ Some (fault 45 0 1 44)
unfolding symbols_of word_of
t36_broken = refl
