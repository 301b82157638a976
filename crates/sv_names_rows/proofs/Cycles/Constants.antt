-- Types and constants that depend on one another: where a cycle is told.
use Rattle.std.proofs.Common.{◌≡◌, List, [], ◌∷◌, false, refl}
use Rattle.std.specs.Prelude.{Some, None}
use Rattle.sv_value.specs.Vector.{symbols_of, word_of}
use Rattle.sv_tree.specs.declared.word.BinaryWord.TheVariants as binary_word
use Rattle.sv_tree.specs.declared.word.VectorWord.TheVariants as vector_word
use Rattle.sv_tree.specs.declared.word.AtomWord.TheVariants as atom_word
use Rattle.sv_tree.specs.declared.word.Sign.TheVariants as sign
use Rattle.sv_tree.specs.declared.word.Life.TheVariants as life
use Rattle.sv_tree.specs.declared.word.StepWord.TheVariants as step_word
use Rattle.sv_tree.specs.declared.word.ProcedureWord.TheVariants as procedure_word
use Rattle.sv_tree.specs.declared.word.PortDirection.TheVariants as port_direction
use Rattle.sv_tree.specs.declared.word.ParamWord.TheVariants as param_word
use Rattle.sv_tree.specs.Expr as tree
use Rattle.sv_tree.specs.Types as types
use Rattle.sv_tree.specs.Stmt as stmts
use Rattle.sv_tree.specs.Units as units
use Rattle.sv_tree.specs.Items as items
use Rattle.sv_tree.specs.Descriptions as descriptions
use Rattle.sv_tree.specs.Descriptions.{Description}
use Rattle.sv_names.specs.Design.{broken}
use Rattle.sv_names_rows.proofs.Kit.{at, decl, declarator, delay, enum_item, fault, instance, instances, module_, name, nonblocking, number, param, plain, port, procedure, range, statements, system, target, typedef, value}

-- module t; logic [P:0] x; localparam P = $bits(x); endmodule
abbrev t1 : List Description
t1 = module_ (at 0 1 1) life.Unwritten (name (at 0 1 8) "t") None [] (items.Decl (decl life.Unwritten (types.WrittenType.Vector (at 0 1 11) vector_word.Logic sign.Unwritten (Some (range (at 0 1 17) (plain (at 0 1 18) "P") (number (at 0 1 20) "0")))) (declarator (name (at 0 1 23) "x") None None ∷ [])) ∷ items.Param (param param_word.Localparam types.Unwritten (value (name (at 0 1 37) "P") (system (at 0 1 41) "$bits" (plain (at 0 1 47) "x" ∷ [])) ∷ [])) ∷ []) None ∷ []

t1_broken : broken t1 [] None ≡ Some (fault 11 0 1 18)
unfolding symbols_of word_of
t1_broken = refl

-- module t; localparam P = $bits(x); logic [P:0] x; endmodule
abbrev t2 : List Description
t2 = module_ (at 0 1 1) life.Unwritten (name (at 0 1 8) "t") None [] (items.Param (param param_word.Localparam types.Unwritten (value (name (at 0 1 22) "P") (system (at 0 1 26) "$bits" (plain (at 0 1 32) "x" ∷ [])) ∷ [])) ∷ items.Decl (decl life.Unwritten (types.WrittenType.Vector (at 0 1 36) vector_word.Logic sign.Unwritten (Some (range (at 0 1 42) (plain (at 0 1 43) "P") (number (at 0 1 45) "0")))) (declarator (name (at 0 1 48) "x") None None ∷ [])) ∷ []) None ∷ []

t2_broken : broken t2 [] None ≡ Some (fault 7 0 1 32)
unfolding symbols_of word_of
t2_broken = refl

-- module t; typedef logic [P:0] w; localparam P = $bits(w); endmodule
abbrev t3 : List Description
t3 = module_ (at 0 1 1) life.Unwritten (name (at 0 1 8) "t") None [] (items.Typedef (typedef (types.WrittenType.Vector (at 0 1 19) vector_word.Logic sign.Unwritten (Some (range (at 0 1 25) (plain (at 0 1 26) "P") (number (at 0 1 28) "0")))) (name (at 0 1 31) "w")) ∷ items.Param (param param_word.Localparam types.Unwritten (value (name (at 0 1 45) "P") (system (at 0 1 49) "$bits" (plain (at 0 1 55) "w" ∷ [])) ∷ [])) ∷ []) None ∷ []

t3_broken : broken t3 [] None ≡ Some (fault 11 0 1 26)
unfolding symbols_of word_of
t3_broken = refl

-- module t; localparam P = $bits(w); typedef logic [P:0] w; endmodule
abbrev t4 : List Description
t4 = module_ (at 0 1 1) life.Unwritten (name (at 0 1 8) "t") None [] (items.Param (param param_word.Localparam types.Unwritten (value (name (at 0 1 22) "P") (system (at 0 1 26) "$bits" (plain (at 0 1 32) "w" ∷ [])) ∷ [])) ∷ items.Typedef (typedef (types.WrittenType.Vector (at 0 1 44) vector_word.Logic sign.Unwritten (Some (range (at 0 1 50) (plain (at 0 1 51) "P") (number (at 0 1 53) "0")))) (name (at 0 1 56) "w")) ∷ []) None ∷ []

t4_broken : broken t4 [] None ≡ Some (fault 7 0 1 32)
unfolding symbols_of word_of
t4_broken = refl

-- module t; typedef logic [P:0] w; localparam w P = 1; endmodule
abbrev t5 : List Description
t5 = module_ (at 0 1 1) life.Unwritten (name (at 0 1 8) "t") None [] (items.Typedef (typedef (types.WrittenType.Vector (at 0 1 19) vector_word.Logic sign.Unwritten (Some (range (at 0 1 25) (plain (at 0 1 26) "P") (number (at 0 1 28) "0")))) (name (at 0 1 31) "w")) ∷ items.Param (param param_word.Localparam (types.Written (types.Named (name (at 0 1 45) "w"))) (value (name (at 0 1 47) "P") (number (at 0 1 51) "1") ∷ [])) ∷ []) None ∷ []

t5_broken : broken t5 [] None ≡ Some (fault 11 0 1 26)
unfolding symbols_of word_of
t5_broken = refl

-- module t; localparam w P = 1; typedef logic [P:0] w; endmodule
abbrev t6 : List Description
t6 = module_ (at 0 1 1) life.Unwritten (name (at 0 1 8) "t") None [] (items.Param (param param_word.Localparam (types.Written (types.Named (name (at 0 1 22) "w"))) (value (name (at 0 1 24) "P") (number (at 0 1 28) "1") ∷ [])) ∷ items.Typedef (typedef (types.WrittenType.Vector (at 0 1 39) vector_word.Logic sign.Unwritten (Some (range (at 0 1 45) (plain (at 0 1 46) "P") (number (at 0 1 48) "0")))) (name (at 0 1 51) "w")) ∷ []) None ∷ []

t6_broken : broken t6 [] None ≡ Some (fault 7 0 1 22)
unfolding symbols_of word_of
t6_broken = refl

-- module t; enum logic [A:0] {A} e; endmodule
abbrev t8 : List Description
t8 = module_ (at 0 1 1) life.Unwritten (name (at 0 1 8) "t") None [] (items.Decl (decl life.Unwritten (types.EnumOf (at 0 1 11) (types.WrittenType.Vector (at 0 1 16) vector_word.Logic sign.Unwritten (Some (range (at 0 1 22) (plain (at 0 1 23) "A") (number (at 0 1 25) "0")))) (enum_item (name (at 0 1 29) "A") None ∷ [])) (declarator (name (at 0 1 32) "e") None None ∷ [])) ∷ []) None ∷ []

t8_broken : broken t8 [] None ≡ Some (fault 7 0 1 23)
unfolding symbols_of word_of
t8_broken = refl

-- module t; typedef enum logic [A:0] {A} w; w x; endmodule
abbrev t9 : List Description
t9 = module_ (at 0 1 1) life.Unwritten (name (at 0 1 8) "t") None [] (items.Typedef (typedef (types.EnumOf (at 0 1 19) (types.WrittenType.Vector (at 0 1 24) vector_word.Logic sign.Unwritten (Some (range (at 0 1 30) (plain (at 0 1 31) "A") (number (at 0 1 33) "0")))) (enum_item (name (at 0 1 37) "A") None ∷ [])) (name (at 0 1 40) "w")) ∷ items.Decl (decl life.Unwritten (types.Named (name (at 0 1 43) "w")) (declarator (name (at 0 1 45) "x") None None ∷ [])) ∷ []) None ∷ []

t9_broken : broken t9 [] None ≡ Some (fault 7 0 1 31)
unfolding symbols_of word_of
t9_broken = refl

-- module t; enum logic [B:0] {A, B} e; endmodule
abbrev t10 : List Description
t10 = module_ (at 0 1 1) life.Unwritten (name (at 0 1 8) "t") None [] (items.Decl (decl life.Unwritten (types.EnumOf (at 0 1 11) (types.WrittenType.Vector (at 0 1 16) vector_word.Logic sign.Unwritten (Some (range (at 0 1 22) (plain (at 0 1 23) "B") (number (at 0 1 25) "0")))) (enum_item (name (at 0 1 29) "A") None ∷ enum_item (name (at 0 1 32) "B") None ∷ [])) (declarator (name (at 0 1 35) "e") None None ∷ [])) ∷ []) None ∷ []

t10_broken : broken t10 [] None ≡ Some (fault 7 0 1 23)
unfolding symbols_of word_of
t10_broken = refl

-- module t; enum logic [B:0] {A = B} e; enum {B = A} f; endmodule
abbrev t11 : List Description
t11 = module_ (at 0 1 1) life.Unwritten (name (at 0 1 8) "t") None [] (items.Decl (decl life.Unwritten (types.EnumOf (at 0 1 11) (types.WrittenType.Vector (at 0 1 16) vector_word.Logic sign.Unwritten (Some (range (at 0 1 22) (plain (at 0 1 23) "B") (number (at 0 1 25) "0")))) (enum_item (name (at 0 1 29) "A") (Some (plain (at 0 1 33) "B")) ∷ [])) (declarator (name (at 0 1 36) "e") None None ∷ [])) ∷ items.Decl (decl life.Unwritten (types.Enum (at 0 1 39) (enum_item (name (at 0 1 45) "B") (Some (plain (at 0 1 49) "A")) ∷ [])) (declarator (name (at 0 1 52) "f") None None ∷ [])) ∷ []) None ∷ []

t11_broken : broken t11 [] None ≡ Some (fault 11 0 1 23)
unfolding symbols_of word_of
t11_broken = refl

-- module t; localparam P = A; enum logic [P:0] {A} e; endmodule
abbrev t12 : List Description
t12 = module_ (at 0 1 1) life.Unwritten (name (at 0 1 8) "t") None [] (items.Param (param param_word.Localparam types.Unwritten (value (name (at 0 1 22) "P") (plain (at 0 1 26) "A") ∷ [])) ∷ items.Decl (decl life.Unwritten (types.EnumOf (at 0 1 29) (types.WrittenType.Vector (at 0 1 34) vector_word.Logic sign.Unwritten (Some (range (at 0 1 40) (plain (at 0 1 41) "P") (number (at 0 1 43) "0")))) (enum_item (name (at 0 1 47) "A") None ∷ [])) (declarator (name (at 0 1 50) "e") None None ∷ [])) ∷ []) None ∷ []

t12_broken : broken t12 [] None ≡ Some (fault 11 0 1 26)
unfolding symbols_of word_of
t12_broken = refl

-- module t; enum logic [P:0] {A} e; localparam P = A; endmodule
abbrev t13 : List Description
t13 = module_ (at 0 1 1) life.Unwritten (name (at 0 1 8) "t") None [] (items.Decl (decl life.Unwritten (types.EnumOf (at 0 1 11) (types.WrittenType.Vector (at 0 1 16) vector_word.Logic sign.Unwritten (Some (range (at 0 1 22) (plain (at 0 1 23) "P") (number (at 0 1 25) "0")))) (enum_item (name (at 0 1 29) "A") None ∷ [])) (declarator (name (at 0 1 32) "e") None None ∷ [])) ∷ items.Param (param param_word.Localparam types.Unwritten (value (name (at 0 1 46) "P") (plain (at 0 1 50) "A") ∷ [])) ∷ []) None ∷ []

t13_broken : broken t13 [] None ≡ Some (fault 11 0 1 23)
unfolding symbols_of word_of
t13_broken = refl

-- module t; typedef enum logic [P:0] {A, B} w; localparam P = B; w x; endmodule
abbrev t14 : List Description
t14 = module_ (at 0 1 1) life.Unwritten (name (at 0 1 8) "t") None [] (items.Typedef (typedef (types.EnumOf (at 0 1 19) (types.WrittenType.Vector (at 0 1 24) vector_word.Logic sign.Unwritten (Some (range (at 0 1 30) (plain (at 0 1 31) "P") (number (at 0 1 33) "0")))) (enum_item (name (at 0 1 37) "A") None ∷ enum_item (name (at 0 1 40) "B") None ∷ [])) (name (at 0 1 43) "w")) ∷ items.Param (param param_word.Localparam types.Unwritten (value (name (at 0 1 57) "P") (plain (at 0 1 61) "B") ∷ [])) ∷ items.Decl (decl life.Unwritten (types.Named (name (at 0 1 64) "w")) (declarator (name (at 0 1 66) "x") None None ∷ [])) ∷ []) None ∷ []

t14_broken : broken t14 [] None ≡ Some (fault 11 0 1 31)
unfolding symbols_of word_of
t14_broken = refl

-- module t; localparam w P = Q; localparam Q = P; typedef logic [P:0] w; endmodule
abbrev t15 : List Description
t15 = module_ (at 0 1 1) life.Unwritten (name (at 0 1 8) "t") None [] (items.Param (param param_word.Localparam (types.Written (types.Named (name (at 0 1 22) "w"))) (value (name (at 0 1 24) "P") (plain (at 0 1 28) "Q") ∷ [])) ∷ items.Param (param param_word.Localparam types.Unwritten (value (name (at 0 1 42) "Q") (plain (at 0 1 46) "P") ∷ [])) ∷ items.Typedef (typedef (types.WrittenType.Vector (at 0 1 57) vector_word.Logic sign.Unwritten (Some (range (at 0 1 63) (plain (at 0 1 64) "P") (number (at 0 1 66) "0")))) (name (at 0 1 69) "w")) ∷ []) None ∷ []

t15_broken : broken t15 [] None ≡ Some (fault 7 0 1 22)
unfolding symbols_of word_of
t15_broken = refl

-- module t; localparam R = P; typedef logic [P:0] w; localparam w P = 1; endmodule
abbrev t16 : List Description
t16 = module_ (at 0 1 1) life.Unwritten (name (at 0 1 8) "t") None [] (items.Param (param param_word.Localparam types.Unwritten (value (name (at 0 1 22) "R") (plain (at 0 1 26) "P") ∷ [])) ∷ items.Typedef (typedef (types.WrittenType.Vector (at 0 1 37) vector_word.Logic sign.Unwritten (Some (range (at 0 1 43) (plain (at 0 1 44) "P") (number (at 0 1 46) "0")))) (name (at 0 1 49) "w")) ∷ items.Param (param param_word.Localparam (types.Written (types.Named (name (at 0 1 63) "w"))) (value (name (at 0 1 65) "P") (number (at 0 1 69) "1") ∷ [])) ∷ []) None ∷ []

t16_broken : broken t16 [] None ≡ Some (fault 11 0 1 44)
unfolding symbols_of word_of
t16_broken = refl

-- module t; localparam c = d, d = c, a = b + c, b = a; endmodule
abbrev t18 : List Description
t18 = module_ (at 0 1 1) life.Unwritten (name (at 0 1 8) "t") None [] (items.Param (param param_word.Localparam types.Unwritten (value (name (at 0 1 22) "c") (plain (at 0 1 26) "d") ∷ value (name (at 0 1 29) "d") (plain (at 0 1 33) "c") ∷ value (name (at 0 1 36) "a") (tree.Binary binary_word.Plus (at 0 1 42) (plain (at 0 1 40) "b") (plain (at 0 1 44) "c")) ∷ value (name (at 0 1 47) "b") (plain (at 0 1 51) "a") ∷ [])) ∷ []) None ∷ []

t18_broken : broken t18 [] None ≡ Some (fault 11 0 1 26)
unfolding symbols_of word_of
t18_broken = refl

-- module t; localparam a = b + c, b = a + c, c = a + b; endmodule
abbrev t19 : List Description
t19 = module_ (at 0 1 1) life.Unwritten (name (at 0 1 8) "t") None [] (items.Param (param param_word.Localparam types.Unwritten (value (name (at 0 1 22) "a") (tree.Binary binary_word.Plus (at 0 1 28) (plain (at 0 1 26) "b") (plain (at 0 1 30) "c")) ∷ value (name (at 0 1 33) "b") (tree.Binary binary_word.Plus (at 0 1 39) (plain (at 0 1 37) "a") (plain (at 0 1 41) "c")) ∷ value (name (at 0 1 44) "c") (tree.Binary binary_word.Plus (at 0 1 50) (plain (at 0 1 48) "a") (plain (at 0 1 52) "b")) ∷ [])) ∷ []) None ∷ []

t19_broken : broken t19 [] None ≡ Some (fault 11 0 1 26)
unfolding symbols_of word_of
t19_broken = refl

-- module t; localparam a = b, b = c, c = d, d = b; endmodule
abbrev t20 : List Description
t20 = module_ (at 0 1 1) life.Unwritten (name (at 0 1 8) "t") None [] (items.Param (param param_word.Localparam types.Unwritten (value (name (at 0 1 22) "a") (plain (at 0 1 26) "b") ∷ value (name (at 0 1 29) "b") (plain (at 0 1 33) "c") ∷ value (name (at 0 1 36) "c") (plain (at 0 1 40) "d") ∷ value (name (at 0 1 43) "d") (plain (at 0 1 47) "b") ∷ [])) ∷ []) None ∷ []

t20_broken : broken t20 [] None ≡ Some (fault 11 0 1 33)
unfolding symbols_of word_of
t20_broken = refl

-- module t; localparam x = a, a = b + c, b = a, c = a; endmodule
abbrev t21 : List Description
t21 = module_ (at 0 1 1) life.Unwritten (name (at 0 1 8) "t") None [] (items.Param (param param_word.Localparam types.Unwritten (value (name (at 0 1 22) "x") (plain (at 0 1 26) "a") ∷ value (name (at 0 1 29) "a") (tree.Binary binary_word.Plus (at 0 1 35) (plain (at 0 1 33) "b") (plain (at 0 1 37) "c")) ∷ value (name (at 0 1 40) "b") (plain (at 0 1 44) "a") ∷ value (name (at 0 1 47) "c") (plain (at 0 1 51) "a") ∷ [])) ∷ []) None ∷ []

t21_broken : broken t21 [] None ≡ Some (fault 11 0 1 33)
unfolding symbols_of word_of
t21_broken = refl

-- module t; typedef a b; typedef b a; typedef b c; endmodule
abbrev t22 : List Description
t22 = module_ (at 0 1 1) life.Unwritten (name (at 0 1 8) "t") None [] (items.Typedef (typedef (types.Named (name (at 0 1 19) "a")) (name (at 0 1 21) "b")) ∷ items.Typedef (typedef (types.Named (name (at 0 1 32) "b")) (name (at 0 1 34) "a")) ∷ items.Typedef (typedef (types.Named (name (at 0 1 45) "b")) (name (at 0 1 47) "c")) ∷ []) None ∷ []

t22_broken : broken t22 [] None ≡ Some (fault 7 0 1 19)
unfolding symbols_of word_of
t22_broken = refl

-- module t; typedef b c; typedef a b; typedef b a; endmodule
abbrev t23 : List Description
t23 = module_ (at 0 1 1) life.Unwritten (name (at 0 1 8) "t") None [] (items.Typedef (typedef (types.Named (name (at 0 1 19) "b")) (name (at 0 1 21) "c")) ∷ items.Typedef (typedef (types.Named (name (at 0 1 32) "a")) (name (at 0 1 34) "b")) ∷ items.Typedef (typedef (types.Named (name (at 0 1 45) "b")) (name (at 0 1 47) "a")) ∷ []) None ∷ []

t23_broken : broken t23 [] None ≡ Some (fault 7 0 1 32)
unfolding symbols_of word_of
t23_broken = refl

-- module t; typedef b a; typedef c b; typedef a c; endmodule
abbrev t24 : List Description
t24 = module_ (at 0 1 1) life.Unwritten (name (at 0 1 8) "t") None [] (items.Typedef (typedef (types.Named (name (at 0 1 19) "b")) (name (at 0 1 21) "a")) ∷ items.Typedef (typedef (types.Named (name (at 0 1 32) "c")) (name (at 0 1 34) "b")) ∷ items.Typedef (typedef (types.Named (name (at 0 1 45) "a")) (name (at 0 1 47) "c")) ∷ []) None ∷ []

t24_broken : broken t24 [] None ≡ Some (fault 7 0 1 19)
unfolding symbols_of word_of
t24_broken = refl

-- module t; typedef t t; endmodule
abbrev t25 : List Description
t25 = module_ (at 0 1 1) life.Unwritten (name (at 0 1 8) "t") None [] (items.Typedef (typedef (types.Named (name (at 0 1 19) "t")) (name (at 0 1 21) "t")) ∷ []) None ∷ []

t25_broken : broken t25 [] None ≡ Some (fault 7 0 1 19)
unfolding symbols_of word_of
t25_broken = refl

-- module t; localparam p = p; endmodule
abbrev t26 : List Description
t26 = module_ (at 0 1 1) life.Unwritten (name (at 0 1 8) "t") None [] (items.Param (param param_word.Localparam types.Unwritten (value (name (at 0 1 22) "p") (plain (at 0 1 26) "p") ∷ [])) ∷ []) None ∷ []

t26_broken : broken t26 [] None ≡ Some (fault 11 0 1 26)
unfolding symbols_of word_of
t26_broken = refl

-- module t; parameter p = p + 1; endmodule
abbrev t27 : List Description
t27 = module_ (at 0 1 1) life.Unwritten (name (at 0 1 8) "t") None [] (items.Param (param param_word.Parameter types.Unwritten (value (name (at 0 1 21) "p") (tree.Binary binary_word.Plus (at 0 1 27) (plain (at 0 1 25) "p") (number (at 0 1 29) "1")) ∷ [])) ∷ []) None ∷ []

t27_broken : broken t27 [] None ≡ Some (fault 11 0 1 25)
unfolding symbols_of word_of
t27_broken = refl

-- module t; logic [$bits(x):0] x; endmodule
abbrev t28 : List Description
t28 = module_ (at 0 1 1) life.Unwritten (name (at 0 1 8) "t") None [] (items.Decl (decl life.Unwritten (types.WrittenType.Vector (at 0 1 11) vector_word.Logic sign.Unwritten (Some (range (at 0 1 17) (system (at 0 1 18) "$bits" (plain (at 0 1 24) "x" ∷ [])) (number (at 0 1 27) "0")))) (declarator (name (at 0 1 30) "x") None None ∷ [])) ∷ []) None ∷ []

t28_broken : broken t28 [] None ≡ Some (fault 7 0 1 24)
unfolding symbols_of word_of
t28_broken = refl

-- localparam P = Q;
-- ----
-- localparam Q = R;
-- ----
-- localparam R = P; module t; endmodule
abbrev t31 : List Description
t31 = descriptions.Item (items.Param (param param_word.Localparam types.Unwritten (value (name (at 0 1 12) "P") (plain (at 0 1 16) "Q") ∷ []))) ∷ descriptions.Item (items.Param (param param_word.Localparam types.Unwritten (value (name (at 1 1 12) "Q") (plain (at 1 1 16) "R") ∷ []))) ∷ descriptions.Item (items.Param (param param_word.Localparam types.Unwritten (value (name (at 2 1 12) "R") (plain (at 2 1 16) "P") ∷ []))) ∷ module_ (at 2 1 19) life.Unwritten (name (at 2 1 26) "t") None [] [] None ∷ []

t31_broken : broken t31 [] None ≡ Some (fault 11 0 1 16)
unfolding symbols_of word_of
t31_broken = refl

-- module t; u #(.P(2)) x(); endmodule module u #(parameter P = 1, Q = R, R = Q + P); endmodule
abbrev t32 : List Description
t32 = module_ (at 0 1 1) life.Unwritten (name (at 0 1 8) "t") None [] (instances (name (at 0 1 11) "u") (units.Given (at 0 1 15) (name (at 0 1 16) "P") (Some (number (at 0 1 18) "2")) ∷ []) (instance (name (at 0 1 22) "x") [] ∷ []) ∷ []) None ∷ module_ (at 0 1 37) life.Unwritten (name (at 0 1 44) "u") (Some (param param_word.Parameter types.Unwritten (value (name (at 0 1 58) "P") (number (at 0 1 62) "1") ∷ []) ∷ param param_word.Parameter types.Unwritten (value (name (at 0 1 65) "Q") (plain (at 0 1 69) "R") ∷ []) ∷ param param_word.Parameter types.Unwritten (value (name (at 0 1 72) "R") (tree.Binary binary_word.Plus (at 0 1 78) (plain (at 0 1 76) "Q") (plain (at 0 1 80) "P")) ∷ []) ∷ [])) [] [] None ∷ []

t32_broken : broken t32 [] None ≡ Some (fault 11 0 1 69)
unfolding symbols_of word_of
t32_broken = refl

-- module t; int q[$bits(q)]; endmodule
abbrev t36 : List Description
t36 = module_ (at 0 1 1) life.Unwritten (name (at 0 1 8) "t") None [] (items.Decl (decl life.Unwritten (types.Atom (at 0 1 11) atom_word.Int sign.Unwritten) (declarator (name (at 0 1 15) "q") (Some (stmts.Size (at 0 1 16) (system (at 0 1 17) "$bits" (plain (at 0 1 23) "q" ∷ [])))) None ∷ [])) ∷ []) None ∷ []

t36_broken : broken t36 [] None ≡ Some (fault 7 0 1 23)
unfolding symbols_of word_of
t36_broken = refl

-- module t; enum {A = A} e; endmodule
abbrev t37 : List Description
t37 = module_ (at 0 1 1) life.Unwritten (name (at 0 1 8) "t") None [] (items.Decl (decl life.Unwritten (types.Enum (at 0 1 11) (enum_item (name (at 0 1 17) "A") (Some (plain (at 0 1 21) "A")) ∷ [])) (declarator (name (at 0 1 24) "e") None None ∷ [])) ∷ []) None ∷ []

t37_broken : broken t37 [] None ≡ Some (fault 11 0 1 21)
unfolding symbols_of word_of
t37_broken = refl

-- module t; enum {A, B = C, C} e; endmodule
abbrev t38 : List Description
t38 = module_ (at 0 1 1) life.Unwritten (name (at 0 1 8) "t") None [] (items.Decl (decl life.Unwritten (types.Enum (at 0 1 11) (enum_item (name (at 0 1 17) "A") None ∷ enum_item (name (at 0 1 20) "B") (Some (plain (at 0 1 24) "C")) ∷ enum_item (name (at 0 1 27) "C") None ∷ [])) (declarator (name (at 0 1 30) "e") None None ∷ [])) ∷ []) None ∷ []

t38_broken : broken t38 [] None ≡ Some (fault 11 0 1 24)
unfolding symbols_of word_of
t38_broken = refl

-- module t; enum {A = C, B, C} e; endmodule
abbrev t39 : List Description
t39 = module_ (at 0 1 1) life.Unwritten (name (at 0 1 8) "t") None [] (items.Decl (decl life.Unwritten (types.Enum (at 0 1 11) (enum_item (name (at 0 1 17) "A") (Some (plain (at 0 1 21) "C")) ∷ enum_item (name (at 0 1 24) "B") None ∷ enum_item (name (at 0 1 27) "C") None ∷ [])) (declarator (name (at 0 1 30) "e") None None ∷ [])) ∷ []) None ∷ []

t39_broken : broken t39 [] None ≡ Some (fault 11 0 1 21)
unfolding symbols_of word_of
t39_broken = refl

-- module t; initial begin : b enum logic [A:0] {A} e; end endmodule
abbrev t40 : List Description
t40 = module_ (at 0 1 1) life.Unwritten (name (at 0 1 8) "t") None [] (procedure (at 0 1 11) procedure_word.Initial (stmts.Statement (at 0 1 19) None (stmts.Block (Some (name (at 0 1 27) "b")) (decl life.Unwritten (types.EnumOf (at 0 1 29) (types.WrittenType.Vector (at 0 1 34) vector_word.Logic sign.Unwritten (Some (range (at 0 1 40) (plain (at 0 1 41) "A") (number (at 0 1 43) "0")))) (enum_item (name (at 0 1 47) "A") None ∷ [])) (declarator (name (at 0 1 50) "e") None None ∷ []) ∷ []) stmts.NoStmt None)) ∷ []) None ∷ []

t40_broken : broken t40 [] None ≡ Some (fault 7 0 1 41)
unfolding symbols_of word_of
t40_broken = refl

-- module t; initial begin : b enum {A = B, B = A} e; end endmodule
abbrev t41 : List Description
t41 = module_ (at 0 1 1) life.Unwritten (name (at 0 1 8) "t") None [] (procedure (at 0 1 11) procedure_word.Initial (stmts.Statement (at 0 1 19) None (stmts.Block (Some (name (at 0 1 27) "b")) (decl life.Unwritten (types.Enum (at 0 1 29) (enum_item (name (at 0 1 35) "A") (Some (plain (at 0 1 39) "B")) ∷ enum_item (name (at 0 1 42) "B") (Some (plain (at 0 1 46) "A")) ∷ [])) (declarator (name (at 0 1 49) "e") None None ∷ []) ∷ []) stmts.NoStmt None)) ∷ []) None ∷ []

t41_broken : broken t41 [] None ≡ Some (fault 11 0 1 39)
unfolding symbols_of word_of
t41_broken = refl

-- module t; localparam A = 1; initial begin : b enum logic [A:0] {A} e; end endmodule
abbrev t42 : List Description
t42 = module_ (at 0 1 1) life.Unwritten (name (at 0 1 8) "t") None [] (items.Param (param param_word.Localparam types.Unwritten (value (name (at 0 1 22) "A") (number (at 0 1 26) "1") ∷ [])) ∷ procedure (at 0 1 29) procedure_word.Initial (stmts.Statement (at 0 1 37) None (stmts.Block (Some (name (at 0 1 45) "b")) (decl life.Unwritten (types.EnumOf (at 0 1 47) (types.WrittenType.Vector (at 0 1 52) vector_word.Logic sign.Unwritten (Some (range (at 0 1 58) (plain (at 0 1 59) "A") (number (at 0 1 61) "0")))) (enum_item (name (at 0 1 65) "A") None ∷ [])) (declarator (name (at 0 1 68) "e") None None ∷ []) ∷ []) stmts.NoStmt None)) ∷ []) None ∷ []

t42_broken : broken t42 [] None ≡ Some (fault 7 0 1 59)
unfolding symbols_of word_of
t42_broken = refl

-- module t; localparam P = $bits(P); endmodule
abbrev t46 : List Description
t46 = module_ (at 0 1 1) life.Unwritten (name (at 0 1 8) "t") None [] (items.Param (param param_word.Localparam types.Unwritten (value (name (at 0 1 22) "P") (system (at 0 1 26) "$bits" (plain (at 0 1 32) "P" ∷ [])) ∷ [])) ∷ []) None ∷ []

t46_broken : broken t46 [] None ≡ Some (fault 11 0 1 26)
unfolding symbols_of word_of
t46_broken = refl

-- module t; localparam P = $bits(P) + P; endmodule
abbrev t47 : List Description
t47 = module_ (at 0 1 1) life.Unwritten (name (at 0 1 8) "t") None [] (items.Param (param param_word.Localparam types.Unwritten (value (name (at 0 1 22) "P") (tree.Binary binary_word.Plus (at 0 1 35) (system (at 0 1 26) "$bits" (plain (at 0 1 32) "P" ∷ [])) (plain (at 0 1 37) "P")) ∷ [])) ∷ []) None ∷ []

t47_broken : broken t47 [] None ≡ Some (fault 11 0 1 26)
unfolding symbols_of word_of
t47_broken = refl

-- module t; logic [$bits(b):0] a, b; endmodule
abbrev t48 : List Description
t48 = module_ (at 0 1 1) life.Unwritten (name (at 0 1 8) "t") None [] (items.Decl (decl life.Unwritten (types.WrittenType.Vector (at 0 1 11) vector_word.Logic sign.Unwritten (Some (range (at 0 1 17) (system (at 0 1 18) "$bits" (plain (at 0 1 24) "b" ∷ [])) (number (at 0 1 27) "0")))) (declarator (name (at 0 1 30) "a") None None ∷ declarator (name (at 0 1 33) "b") None None ∷ [])) ∷ []) None ∷ []

t48_broken : broken t48 [] None ≡ Some (fault 7 0 1 24)
unfolding symbols_of word_of
t48_broken = refl

-- module t; logic [$bits(a):0] a, b; endmodule
abbrev t49 : List Description
t49 = module_ (at 0 1 1) life.Unwritten (name (at 0 1 8) "t") None [] (items.Decl (decl life.Unwritten (types.WrittenType.Vector (at 0 1 11) vector_word.Logic sign.Unwritten (Some (range (at 0 1 17) (system (at 0 1 18) "$bits" (plain (at 0 1 24) "a" ∷ [])) (number (at 0 1 27) "0")))) (declarator (name (at 0 1 30) "a") None None ∷ declarator (name (at 0 1 33) "b") None None ∷ [])) ∷ []) None ∷ []

t49_broken : broken t49 [] None ≡ Some (fault 7 0 1 24)
unfolding symbols_of word_of
t49_broken = refl

-- module t; logic [$bits(b):0] a, c, b; endmodule
abbrev t50 : List Description
t50 = module_ (at 0 1 1) life.Unwritten (name (at 0 1 8) "t") None [] (items.Decl (decl life.Unwritten (types.WrittenType.Vector (at 0 1 11) vector_word.Logic sign.Unwritten (Some (range (at 0 1 17) (system (at 0 1 18) "$bits" (plain (at 0 1 24) "b" ∷ [])) (number (at 0 1 27) "0")))) (declarator (name (at 0 1 30) "a") None None ∷ declarator (name (at 0 1 33) "c") None None ∷ declarator (name (at 0 1 36) "b") None None ∷ [])) ∷ []) None ∷ []

t50_broken : broken t50 [] None ≡ Some (fault 7 0 1 24)
unfolding symbols_of word_of
t50_broken = refl

-- module t; localparam [c:0] a = b, b = a, c = d, d = c; endmodule
abbrev t55 : List Description
t55 = module_ (at 0 1 1) life.Unwritten (name (at 0 1 8) "t") None [] (items.Param (param param_word.Localparam (types.ImpliedType.Vector (at 0 1 22) sign.Unwritten (Some (range (at 0 1 22) (plain (at 0 1 23) "c") (number (at 0 1 25) "0")))) (value (name (at 0 1 28) "a") (plain (at 0 1 32) "b") ∷ value (name (at 0 1 35) "b") (plain (at 0 1 39) "a") ∷ value (name (at 0 1 42) "c") (plain (at 0 1 46) "d") ∷ value (name (at 0 1 49) "d") (plain (at 0 1 53) "c") ∷ [])) ∷ []) None ∷ []

t55_broken : broken t55 [] None ≡ Some (fault 11 0 1 23)
unfolding symbols_of word_of
t55_broken = refl

-- module t; typedef logic [c:0] w; typedef logic [$bits(w):0] v; localparam c = d, d = c; endmodule
abbrev t56 : List Description
t56 = module_ (at 0 1 1) life.Unwritten (name (at 0 1 8) "t") None [] (items.Typedef (typedef (types.WrittenType.Vector (at 0 1 19) vector_word.Logic sign.Unwritten (Some (range (at 0 1 25) (plain (at 0 1 26) "c") (number (at 0 1 28) "0")))) (name (at 0 1 31) "w")) ∷ items.Typedef (typedef (types.WrittenType.Vector (at 0 1 42) vector_word.Logic sign.Unwritten (Some (range (at 0 1 48) (system (at 0 1 49) "$bits" (plain (at 0 1 55) "w" ∷ [])) (number (at 0 1 58) "0")))) (name (at 0 1 61) "v")) ∷ items.Param (param param_word.Localparam types.Unwritten (value (name (at 0 1 75) "c") (plain (at 0 1 79) "d") ∷ value (name (at 0 1 82) "d") (plain (at 0 1 86) "c") ∷ [])) ∷ []) None ∷ []

t56_broken : broken t56 [] None ≡ Some (fault 11 0 1 79)
unfolding symbols_of word_of
t56_broken = refl

-- module t; typedef logic [c + $bits(v):0] w; typedef logic [$bits(w):0] v; localparam c = d, d = c; endmodule
abbrev t57 : List Description
t57 = module_ (at 0 1 1) life.Unwritten (name (at 0 1 8) "t") None [] (items.Typedef (typedef (types.WrittenType.Vector (at 0 1 19) vector_word.Logic sign.Unwritten (Some (range (at 0 1 25) (tree.Binary binary_word.Plus (at 0 1 28) (plain (at 0 1 26) "c") (system (at 0 1 30) "$bits" (plain (at 0 1 36) "v" ∷ []))) (number (at 0 1 39) "0")))) (name (at 0 1 42) "w")) ∷ items.Typedef (typedef (types.WrittenType.Vector (at 0 1 53) vector_word.Logic sign.Unwritten (Some (range (at 0 1 59) (system (at 0 1 60) "$bits" (plain (at 0 1 66) "w" ∷ [])) (number (at 0 1 69) "0")))) (name (at 0 1 72) "v")) ∷ items.Param (param param_word.Localparam types.Unwritten (value (name (at 0 1 86) "c") (plain (at 0 1 90) "d") ∷ value (name (at 0 1 93) "d") (plain (at 0 1 97) "c") ∷ [])) ∷ []) None ∷ []

t57_broken : broken t57 [] None ≡ Some (fault 7 0 1 36)
unfolding symbols_of word_of
t57_broken = refl

-- module t; enum {A = c + B, B = A} e; localparam c = d, d = c; endmodule
abbrev t58 : List Description
t58 = module_ (at 0 1 1) life.Unwritten (name (at 0 1 8) "t") None [] (items.Decl (decl life.Unwritten (types.Enum (at 0 1 11) (enum_item (name (at 0 1 17) "A") (Some (tree.Binary binary_word.Plus (at 0 1 23) (plain (at 0 1 21) "c") (plain (at 0 1 25) "B"))) ∷ enum_item (name (at 0 1 28) "B") (Some (plain (at 0 1 32) "A")) ∷ [])) (declarator (name (at 0 1 35) "e") None None ∷ [])) ∷ items.Param (param param_word.Localparam types.Unwritten (value (name (at 0 1 49) "c") (plain (at 0 1 53) "d") ∷ value (name (at 0 1 56) "d") (plain (at 0 1 60) "c") ∷ [])) ∷ []) None ∷ []

t58_broken : broken t58 [] None ≡ Some (fault 11 0 1 21)
unfolding symbols_of word_of
t58_broken = refl

-- module t; typedef logic [$bits(w):0] w; localparam a = b + $bits(w), b = a; endmodule
abbrev t59 : List Description
t59 = module_ (at 0 1 1) life.Unwritten (name (at 0 1 8) "t") None [] (items.Typedef (typedef (types.WrittenType.Vector (at 0 1 19) vector_word.Logic sign.Unwritten (Some (range (at 0 1 25) (system (at 0 1 26) "$bits" (plain (at 0 1 32) "w" ∷ [])) (number (at 0 1 35) "0")))) (name (at 0 1 38) "w")) ∷ items.Param (param param_word.Localparam types.Unwritten (value (name (at 0 1 52) "a") (tree.Binary binary_word.Plus (at 0 1 58) (plain (at 0 1 56) "b") (system (at 0 1 60) "$bits" (plain (at 0 1 66) "w" ∷ []))) ∷ value (name (at 0 1 70) "b") (plain (at 0 1 74) "a") ∷ [])) ∷ []) None ∷ []

t59_broken : broken t59 [] None ≡ Some (fault 7 0 1 32)
unfolding symbols_of word_of
t59_broken = refl

-- module t; typedef logic [$bits(w):0] w; localparam a = $bits(w) + b, b = a; endmodule
abbrev t60 : List Description
t60 = module_ (at 0 1 1) life.Unwritten (name (at 0 1 8) "t") None [] (items.Typedef (typedef (types.WrittenType.Vector (at 0 1 19) vector_word.Logic sign.Unwritten (Some (range (at 0 1 25) (system (at 0 1 26) "$bits" (plain (at 0 1 32) "w" ∷ [])) (number (at 0 1 35) "0")))) (name (at 0 1 38) "w")) ∷ items.Param (param param_word.Localparam types.Unwritten (value (name (at 0 1 52) "a") (tree.Binary binary_word.Plus (at 0 1 65) (system (at 0 1 56) "$bits" (plain (at 0 1 62) "w" ∷ [])) (plain (at 0 1 67) "b")) ∷ value (name (at 0 1 70) "b") (plain (at 0 1 74) "a") ∷ [])) ∷ []) None ∷ []

t60_broken : broken t60 [] None ≡ Some (fault 7 0 1 32)
unfolding symbols_of word_of
t60_broken = refl

-- module t; typedef logic [$bits(w):0] w; w x; localparam a = x; endmodule
abbrev t61 : List Description
t61 = module_ (at 0 1 1) life.Unwritten (name (at 0 1 8) "t") None [] (items.Typedef (typedef (types.WrittenType.Vector (at 0 1 19) vector_word.Logic sign.Unwritten (Some (range (at 0 1 25) (system (at 0 1 26) "$bits" (plain (at 0 1 32) "w" ∷ [])) (number (at 0 1 35) "0")))) (name (at 0 1 38) "w")) ∷ items.Decl (decl life.Unwritten (types.Named (name (at 0 1 41) "w")) (declarator (name (at 0 1 43) "x") None None ∷ [])) ∷ items.Param (param param_word.Localparam types.Unwritten (value (name (at 0 1 57) "a") (plain (at 0 1 61) "x") ∷ [])) ∷ []) None ∷ []

t61_broken : broken t61 [] None ≡ Some (fault 7 0 1 32)
unfolding symbols_of word_of
t61_broken = refl

-- module t(input logic [$bits(y):0] x, output logic [$bits(x):0] y); endmodule
abbrev t68 : List Description
t68 = module_ (at 0 1 1) life.Unwritten (name (at 0 1 8) "t") None (port (Some port_direction.Input) false (types.Written (types.WrittenType.Vector (at 0 1 16) vector_word.Logic sign.Unwritten (Some (range (at 0 1 22) (system (at 0 1 23) "$bits" (plain (at 0 1 29) "y" ∷ [])) (number (at 0 1 32) "0"))))) (name (at 0 1 35) "x") ∷ port (Some port_direction.Output) false (types.Written (types.WrittenType.Vector (at 0 1 45) vector_word.Logic sign.Unwritten (Some (range (at 0 1 51) (system (at 0 1 52) "$bits" (plain (at 0 1 58) "x" ∷ [])) (number (at 0 1 61) "0"))))) (name (at 0 1 64) "y") ∷ []) [] None ∷ []

t68_broken : broken t68 [] None ≡ Some (fault 7 0 1 29)
unfolding symbols_of word_of
t68_broken = refl

-- module t #(parameter P = Q, Q = R, R = Q)(input logic [P:0] x); endmodule
abbrev t69 : List Description
t69 = module_ (at 0 1 1) life.Unwritten (name (at 0 1 8) "t") (Some (param param_word.Parameter types.Unwritten (value (name (at 0 1 22) "P") (plain (at 0 1 26) "Q") ∷ []) ∷ param param_word.Parameter types.Unwritten (value (name (at 0 1 29) "Q") (plain (at 0 1 33) "R") ∷ []) ∷ param param_word.Parameter types.Unwritten (value (name (at 0 1 36) "R") (plain (at 0 1 40) "Q") ∷ []) ∷ [])) (port (Some port_direction.Input) false (types.Written (types.WrittenType.Vector (at 0 1 49) vector_word.Logic sign.Unwritten (Some (range (at 0 1 55) (plain (at 0 1 56) "P") (number (at 0 1 58) "0"))))) (name (at 0 1 61) "x") ∷ []) [] None ∷ []

t69_broken : broken t69 [] None ≡ Some (fault 11 0 1 33)
unfolding symbols_of word_of
t69_broken = refl

-- module u #(parameter P = 1)(input logic [P:0] x); endmodule module t; localparam A = B; localparam B = A; logic v; u #(.P(A)) w(v); endmodule
abbrev t70 : List Description
t70 = module_ (at 0 1 1) life.Unwritten (name (at 0 1 8) "u") (Some (param param_word.Parameter types.Unwritten (value (name (at 0 1 22) "P") (number (at 0 1 26) "1") ∷ []) ∷ [])) (port (Some port_direction.Input) false (types.Written (types.WrittenType.Vector (at 0 1 35) vector_word.Logic sign.Unwritten (Some (range (at 0 1 41) (plain (at 0 1 42) "P") (number (at 0 1 44) "0"))))) (name (at 0 1 47) "x") ∷ []) [] None ∷ module_ (at 0 1 61) life.Unwritten (name (at 0 1 68) "t") None [] (items.Param (param param_word.Localparam types.Unwritten (value (name (at 0 1 82) "A") (plain (at 0 1 86) "B") ∷ [])) ∷ items.Param (param param_word.Localparam types.Unwritten (value (name (at 0 1 100) "B") (plain (at 0 1 104) "A") ∷ [])) ∷ items.Decl (decl life.Unwritten (types.WrittenType.Vector (at 0 1 107) vector_word.Logic sign.Unwritten None) (declarator (name (at 0 1 113) "v") None None ∷ [])) ∷ instances (name (at 0 1 116) "u") (units.Given (at 0 1 120) (name (at 0 1 121) "P") (Some (plain (at 0 1 123) "A")) ∷ []) (instance (name (at 0 1 127) "w") (units.Connection.Value (plain (at 0 1 129) "v") ∷ []) ∷ []) ∷ []) None ∷ []

t70_broken : broken t70 [] None ≡ Some (fault 11 0 1 86)
unfolding symbols_of word_of
t70_broken = refl

-- module t; int q[$], r[$]; initial begin q <= #1 r; r <= q; end endmodule
abbrev t71 : List Description
t71 = module_ (at 0 1 1) life.Unwritten (name (at 0 1 8) "t") None [] (items.Decl (decl life.Unwritten (types.Atom (at 0 1 11) atom_word.Int sign.Unwritten) (declarator (name (at 0 1 15) "q") (Some (stmts.Queue (at 0 1 16))) None ∷ declarator (name (at 0 1 21) "r") (Some (stmts.Queue (at 0 1 22))) None ∷ [])) ∷ procedure (at 0 1 27) procedure_word.Initial (stmts.Statement (at 0 1 35) None (stmts.Block None [] (statements (stmts.Statement (at 0 1 41) None (nonblocking (target (at 0 1 41) "q") (Some (delay (at 0 1 46) (number (at 0 1 47) "1"))) (plain (at 0 1 49) "r")) ∷ stmts.Statement (at 0 1 52) None (nonblocking (target (at 0 1 52) "r") None (plain (at 0 1 57) "q")) ∷ [])) None)) ∷ []) None ∷ []

t71_broken : broken t71 [] None ≡ Some (fault 42 0 1 41)
unfolding symbols_of word_of
t71_broken = refl

-- module t; int a[3]; initial a <= a; endmodule
abbrev t72 : List Description
t72 = module_ (at 0 1 1) life.Unwritten (name (at 0 1 8) "t") None [] (items.Decl (decl life.Unwritten (types.Atom (at 0 1 11) atom_word.Int sign.Unwritten) (declarator (name (at 0 1 15) "a") (Some (stmts.Size (at 0 1 16) (number (at 0 1 17) "3"))) None ∷ [])) ∷ procedure (at 0 1 21) procedure_word.Initial (stmts.Statement (at 0 1 29) None (nonblocking (target (at 0 1 29) "a") None (plain (at 0 1 34) "a"))) ∷ []) None ∷ []

t72_broken : broken t72 [] None ≡ Some (fault 42 0 1 29)
unfolding symbols_of word_of
t72_broken = refl

-- module t; enum logic [P:0] {A, B = P} e; localparam P = B; endmodule
abbrev t79 : List Description
t79 = module_ (at 0 1 1) life.Unwritten (name (at 0 1 8) "t") None [] (items.Decl (decl life.Unwritten (types.EnumOf (at 0 1 11) (types.WrittenType.Vector (at 0 1 16) vector_word.Logic sign.Unwritten (Some (range (at 0 1 22) (plain (at 0 1 23) "P") (number (at 0 1 25) "0")))) (enum_item (name (at 0 1 29) "A") None ∷ enum_item (name (at 0 1 32) "B") (Some (plain (at 0 1 36) "P")) ∷ [])) (declarator (name (at 0 1 39) "e") None None ∷ [])) ∷ items.Param (param param_word.Localparam types.Unwritten (value (name (at 0 1 53) "P") (plain (at 0 1 57) "B") ∷ [])) ∷ []) None ∷ []

t79_broken : broken t79 [] None ≡ Some (fault 11 0 1 23)
unfolding symbols_of word_of
t79_broken = refl

-- module t; typedef enum {A = B, B = C, C = A} w; typedef enum {D = A} v; endmodule
abbrev t81 : List Description
t81 = module_ (at 0 1 1) life.Unwritten (name (at 0 1 8) "t") None [] (items.Typedef (typedef (types.Enum (at 0 1 19) (enum_item (name (at 0 1 25) "A") (Some (plain (at 0 1 29) "B")) ∷ enum_item (name (at 0 1 32) "B") (Some (plain (at 0 1 36) "C")) ∷ enum_item (name (at 0 1 39) "C") (Some (plain (at 0 1 43) "A")) ∷ [])) (name (at 0 1 46) "w")) ∷ items.Typedef (typedef (types.Enum (at 0 1 57) (enum_item (name (at 0 1 63) "D") (Some (plain (at 0 1 67) "A")) ∷ [])) (name (at 0 1 70) "v")) ∷ []) None ∷ []

t81_broken : broken t81 [] None ≡ Some (fault 11 0 1 29)
unfolding symbols_of word_of
t81_broken = refl

-- module t; logic a; logic [a:0] b; logic [b:0] c; endmodule
abbrev t82 : List Description
t82 = module_ (at 0 1 1) life.Unwritten (name (at 0 1 8) "t") None [] (items.Decl (decl life.Unwritten (types.WrittenType.Vector (at 0 1 11) vector_word.Logic sign.Unwritten None) (declarator (name (at 0 1 17) "a") None None ∷ [])) ∷ items.Decl (decl life.Unwritten (types.WrittenType.Vector (at 0 1 20) vector_word.Logic sign.Unwritten (Some (range (at 0 1 26) (plain (at 0 1 27) "a") (number (at 0 1 29) "0")))) (declarator (name (at 0 1 32) "b") None None ∷ [])) ∷ items.Decl (decl life.Unwritten (types.WrittenType.Vector (at 0 1 35) vector_word.Logic sign.Unwritten (Some (range (at 0 1 41) (plain (at 0 1 42) "b") (number (at 0 1 44) "0")))) (declarator (name (at 0 1 47) "c") None None ∷ [])) ∷ []) None ∷ []

t82_broken : broken t82 [] None ≡ Some (fault 11 0 1 27)
unfolding symbols_of word_of
t82_broken = refl

-- module t; initial begin : b logic [$bits(y):0] x; logic [$bits(x):0] y; end endmodule
abbrev t83 : List Description
t83 = module_ (at 0 1 1) life.Unwritten (name (at 0 1 8) "t") None [] (procedure (at 0 1 11) procedure_word.Initial (stmts.Statement (at 0 1 19) None (stmts.Block (Some (name (at 0 1 27) "b")) (decl life.Unwritten (types.WrittenType.Vector (at 0 1 29) vector_word.Logic sign.Unwritten (Some (range (at 0 1 35) (system (at 0 1 36) "$bits" (plain (at 0 1 42) "y" ∷ [])) (number (at 0 1 45) "0")))) (declarator (name (at 0 1 48) "x") None None ∷ []) ∷ decl life.Unwritten (types.WrittenType.Vector (at 0 1 51) vector_word.Logic sign.Unwritten (Some (range (at 0 1 57) (system (at 0 1 58) "$bits" (plain (at 0 1 64) "x" ∷ [])) (number (at 0 1 67) "0")))) (declarator (name (at 0 1 70) "y") None None ∷ []) ∷ []) stmts.NoStmt None)) ∷ []) None ∷ []

t83_broken : broken t83 [] None ≡ Some (fault 7 0 1 42)
unfolding symbols_of word_of
t83_broken = refl

-- module t; initial for (logic [$bits(i):0] i = 0; i < 3; i++) ; endmodule
abbrev t84 : List Description
t84 = module_ (at 0 1 1) life.Unwritten (name (at 0 1 8) "t") None [] (procedure (at 0 1 11) procedure_word.Initial (stmts.Statement (at 0 1 19) None (stmts.For (stmts.Declare (types.WrittenType.Vector (at 0 1 24) vector_word.Logic sign.Unwritten (Some (range (at 0 1 30) (system (at 0 1 31) "$bits" (plain (at 0 1 37) "i" ∷ [])) (number (at 0 1 40) "0")))) (name (at 0 1 43) "i") (number (at 0 1 47) "0")) (tree.Binary binary_word.Less (at 0 1 52) (plain (at 0 1 50) "i") (number (at 0 1 54) "3")) (stmts.ForStep.Step (at 0 1 57) (target (at 0 1 57) "i") step_word.Increment) (stmts.Statement (at 0 1 62) None stmts.Null))) ∷ []) None ∷ []

t84_broken : broken t84 [] None ≡ Some (fault 7 0 1 37)
unfolding symbols_of word_of
t84_broken = refl
