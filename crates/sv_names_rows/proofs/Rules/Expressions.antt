-- Rules on constants, types and what is driven or written (E11 to E19).
use Rattle.std.proofs.Common.{◌≡◌, List, [], ◌∷◌, false, refl}
use Rattle.std.specs.Prelude.{Some, None}
use Rattle.sv_value.specs.Vector.{symbols_of, word_of}
use Rattle.sv_tree.specs.declared.word.BinaryWord.TheVariants as binary_word
use Rattle.sv_tree.specs.declared.word.PartWord.TheVariants as part_word
use Rattle.sv_tree.specs.declared.word.VectorWord.TheVariants as vector_word
use Rattle.sv_tree.specs.declared.word.AtomWord.TheVariants as atom_word
use Rattle.sv_tree.specs.declared.word.Sign.TheVariants as sign
use Rattle.sv_tree.specs.declared.word.Life.TheVariants as life
use Rattle.sv_tree.specs.declared.word.ProcedureWord.TheVariants as procedure_word
use Rattle.sv_tree.specs.declared.word.PortDirection.TheVariants as port_direction
use Rattle.sv_tree.specs.declared.word.ParamWord.TheVariants as param_word
use Rattle.sv_tree.specs.declared.expr.Root.TheVariants as root
use Rattle.sv_tree.specs.Expr as tree
use Rattle.sv_tree.specs.Types as types
use Rattle.sv_tree.specs.Stmt as stmts
use Rattle.sv_tree.specs.Units as units
use Rattle.sv_tree.specs.Items as items
use Rattle.sv_tree.specs.Descriptions as descriptions
use Rattle.sv_tree.specs.Descriptions.{Description}
use Rattle.sv_names.specs.Design.{broken}
use Rattle.sv_names_rows.proofs.Kit.{at, blocking, class_, decl, declarator, enum_item, expressions, fault, head, module_, name, number, param, plain, port, procedure, range, routine, system, target, text, value}

-- E11: module t; int n; logic [n:0] a; endmodule
abbrev t24 : List Description
t24 = module_ (at 0 1 1) life.Unwritten (name (at 0 1 8) "t") None [] (items.Decl (decl life.Unwritten (types.Atom (at 0 1 11) atom_word.Int sign.Unwritten) (declarator (name (at 0 1 15) "n") None None ∷ [])) ∷ items.Decl (decl life.Unwritten (types.WrittenType.Vector (at 0 1 18) vector_word.Logic sign.Unwritten (Some (range (at 0 1 24) (plain (at 0 1 25) "n") (number (at 0 1 27) "0")))) (declarator (name (at 0 1 30) "a") None None ∷ [])) ∷ []) None ∷ []

t24_broken : broken t24 [] None ≡ Some (fault 11 0 1 25)
unfolding symbols_of word_of
t24_broken = refl

-- E11: module t; localparam a = b, b = a; endmodule
abbrev t25 : List Description
t25 = module_ (at 0 1 1) life.Unwritten (name (at 0 1 8) "t") None [] (items.Param (param param_word.Localparam types.Unwritten (value (name (at 0 1 22) "a") (plain (at 0 1 26) "b") ∷ value (name (at 0 1 29) "b") (plain (at 0 1 33) "a") ∷ [])) ∷ []) None ∷ []

t25_broken : broken t25 [] None ≡ Some (fault 11 0 1 26)
unfolding symbols_of word_of
t25_broken = refl

-- E11: module t; function automatic int f(); return 1; endfunction localparam a = f(); endmodule
abbrev t26 : List Description
t26 = module_ (at 0 1 1) life.Unwritten (name (at 0 1 8) "t") None [] (items.Routine (routine (head (at 0 1 11) life.Automatic (units.Returns.Value (types.Written (types.Atom (at 0 1 30) atom_word.Int sign.Unwritten))) (name (at 0 1 34) "f") []) [] (stmts.Statement (at 0 1 39) None (stmts.Return (Some (number (at 0 1 46) "1"))) ∷ []) None) ∷ items.Param (param param_word.Localparam types.Unwritten (value (name (at 0 1 72) "a") (tree.Expr.Post (root.Plain (name (at 0 1 76) "f")) (tree.Call (at 0 1 77) tree.NoExpr tree.NoSuffix)) ∷ [])) ∷ []) None ∷ []

t26_broken : broken t26 [] None ≡ Some (fault 11 0 1 76)
unfolding symbols_of word_of
t26_broken = refl

-- E12: module t; logic [1'bx:0] a; endmodule
abbrev t27 : List Description
t27 = module_ (at 0 1 1) life.Unwritten (name (at 0 1 8) "t") None [] (items.Decl (decl life.Unwritten (types.WrittenType.Vector (at 0 1 11) vector_word.Logic sign.Unwritten (Some (range (at 0 1 17) (number (at 0 1 18) "1'bx") (number (at 0 1 23) "0")))) (declarator (name (at 0 1 26) "a") None None ∷ [])) ∷ []) None ∷ []

t27_broken : broken t27 [] None ≡ Some (fault 12 0 1 18)
unfolding symbols_of word_of
t27_broken = refl

-- E12: module t; int a[0]; endmodule
abbrev t28 : List Description
t28 = module_ (at 0 1 1) life.Unwritten (name (at 0 1 8) "t") None [] (items.Decl (decl life.Unwritten (types.Atom (at 0 1 11) atom_word.Int sign.Unwritten) (declarator (name (at 0 1 15) "a") (Some (stmts.Size (at 0 1 16) (number (at 0 1 17) "0"))) None ∷ [])) ∷ []) None ∷ []

t28_broken : broken t28 [] None ≡ Some (fault 12 0 1 17)
unfolding symbols_of word_of
t28_broken = refl

-- E12: module t; logic a; initial a = {0{1'b1}}; endmodule
abbrev t29 : List Description
t29 = module_ (at 0 1 1) life.Unwritten (name (at 0 1 8) "t") None [] (items.Decl (decl life.Unwritten (types.WrittenType.Vector (at 0 1 11) vector_word.Logic sign.Unwritten None) (declarator (name (at 0 1 17) "a") None None ∷ [])) ∷ procedure (at 0 1 20) procedure_word.Initial (stmts.Statement (at 0 1 28) None (blocking (target (at 0 1 28) "a") None (stmts.Value (tree.Repeat (at 0 1 32) (number (at 0 1 33) "0") (at 0 1 34) (expressions (number (at 0 1 35) "1'b1" ∷ [])))))) ∷ []) None ∷ []

t29_broken : broken t29 [] None ≡ Some (fault 12 0 1 33)
unfolding symbols_of word_of
t29_broken = refl

-- E13: module t; logic [64:0] a; endmodule
abbrev t30 : List Description
t30 = module_ (at 0 1 1) life.Unwritten (name (at 0 1 8) "t") None [] (items.Decl (decl life.Unwritten (types.WrittenType.Vector (at 0 1 11) vector_word.Logic sign.Unwritten (Some (range (at 0 1 17) (number (at 0 1 18) "64") (number (at 0 1 21) "0")))) (declarator (name (at 0 1 24) "a") None None ∷ [])) ∷ []) None ∷ []

t30_broken : broken t30 [] None ≡ Some (fault 13 0 1 17)
unfolding symbols_of word_of
t30_broken = refl

-- E13: module t; longint a; initial a = {a, a}; endmodule
abbrev t31 : List Description
t31 = module_ (at 0 1 1) life.Unwritten (name (at 0 1 8) "t") None [] (items.Decl (decl life.Unwritten (types.Atom (at 0 1 11) atom_word.Longint sign.Unwritten) (declarator (name (at 0 1 19) "a") None None ∷ [])) ∷ procedure (at 0 1 22) procedure_word.Initial (stmts.Statement (at 0 1 30) None (blocking (target (at 0 1 30) "a") None (stmts.Value (tree.Expr.Join (at 0 1 34) (expressions (plain (at 0 1 35) "a" ∷ plain (at 0 1 38) "a" ∷ [])))))) ∷ []) None ∷ []

t31_broken : broken t31 [] None ≡ Some (fault 13 0 1 34)
unfolding symbols_of word_of
t31_broken = refl

-- E14: module t; logic [7:0] a; initial a = a[0:3]; endmodule
abbrev t32 : List Description
t32 = module_ (at 0 1 1) life.Unwritten (name (at 0 1 8) "t") None [] (items.Decl (decl life.Unwritten (types.WrittenType.Vector (at 0 1 11) vector_word.Logic sign.Unwritten (Some (range (at 0 1 17) (number (at 0 1 18) "7") (number (at 0 1 20) "0")))) (declarator (name (at 0 1 23) "a") None None ∷ [])) ∷ procedure (at 0 1 26) procedure_word.Initial (stmts.Statement (at 0 1 34) None (blocking (target (at 0 1 34) "a") None (stmts.Value (tree.Expr.Post (root.Plain (name (at 0 1 38) "a")) (tree.Part (at 0 1 39) part_word.Fixed (number (at 0 1 40) "0") (number (at 0 1 42) "3") tree.NoSuffix))))) ∷ []) None ∷ []

t32_broken : broken t32 [] None ≡ Some (fault 14 0 1 39)
unfolding symbols_of word_of
t32_broken = refl

-- E14: module t; string s; initial $display("%0d", s[0]); endmodule
abbrev t33 : List Description
t33 = module_ (at 0 1 1) life.Unwritten (name (at 0 1 8) "t") None [] (items.Decl (decl life.Unwritten (types.Text (at 0 1 11)) (declarator (name (at 0 1 18) "s") None None ∷ [])) ∷ procedure (at 0 1 21) procedure_word.Initial (stmts.Statement (at 0 1 29) None (stmts.Call (system (at 0 1 29) "$display" (text (at 0 1 38) "%0d" ∷ tree.Expr.Post (root.Plain (name (at 0 1 45) "s")) (tree.Select (at 0 1 46) (number (at 0 1 47) "0") tree.NoSuffix) ∷ [])))) ∷ []) None ∷ []

t33_broken : broken t33 [] None ≡ Some (fault 14 0 1 46)
unfolding symbols_of word_of
t33_broken = refl

-- E15: module t; string s; int a; initial a = 1 + s; endmodule
abbrev t34 : List Description
t34 = module_ (at 0 1 1) life.Unwritten (name (at 0 1 8) "t") None [] (items.Decl (decl life.Unwritten (types.Text (at 0 1 11)) (declarator (name (at 0 1 18) "s") None None ∷ [])) ∷ items.Decl (decl life.Unwritten (types.Atom (at 0 1 21) atom_word.Int sign.Unwritten) (declarator (name (at 0 1 25) "a") None None ∷ [])) ∷ procedure (at 0 1 28) procedure_word.Initial (stmts.Statement (at 0 1 36) None (blocking (target (at 0 1 36) "a") None (stmts.Value (tree.Binary binary_word.Plus (at 0 1 42) (number (at 0 1 40) "1") (plain (at 0 1 44) "s"))))) ∷ []) None ∷ []

t34_broken : broken t34 [] None ≡ Some (fault 15 0 1 44)
unfolding symbols_of word_of
t34_broken = refl

-- E16: module t; int a; initial a = "x"; endmodule
abbrev t35 : List Description
t35 = module_ (at 0 1 1) life.Unwritten (name (at 0 1 8) "t") None [] (items.Decl (decl life.Unwritten (types.Atom (at 0 1 11) atom_word.Int sign.Unwritten) (declarator (name (at 0 1 15) "a") None None ∷ [])) ∷ procedure (at 0 1 18) procedure_word.Initial (stmts.Statement (at 0 1 26) None (blocking (target (at 0 1 26) "a") None (stmts.Value (text (at 0 1 30) "x")))) ∷ []) None ∷ []

t35_broken : broken t35 [] None ≡ Some (fault 16 0 1 30)
unfolding symbols_of word_of
t35_broken = refl

-- E16: module t; string s; initial s = 3; endmodule
abbrev t36 : List Description
t36 = module_ (at 0 1 1) life.Unwritten (name (at 0 1 8) "t") None [] (items.Decl (decl life.Unwritten (types.Text (at 0 1 11)) (declarator (name (at 0 1 18) "s") None None ∷ [])) ∷ procedure (at 0 1 21) procedure_word.Initial (stmts.Statement (at 0 1 29) None (blocking (target (at 0 1 29) "s") None (stmts.Value (number (at 0 1 33) "3")))) ∷ []) None ∷ []

t36_broken : broken t36 [] None ≡ Some (fault 16 0 1 33)
unfolding symbols_of word_of
t36_broken = refl

-- E16: class a; endclass class b; endclass module t; a x; b y; initial x = y; endmodule
abbrev t37 : List Description
t37 = descriptions.Item (items.Class (class_ (at 0 1 1) false (name (at 0 1 7) "a") None [] None)) ∷ descriptions.Item (items.Class (class_ (at 0 1 19) false (name (at 0 1 25) "b") None [] None)) ∷ module_ (at 0 1 37) life.Unwritten (name (at 0 1 44) "t") None [] (items.Decl (decl life.Unwritten (types.Named (name (at 0 1 47) "a")) (declarator (name (at 0 1 49) "x") None None ∷ [])) ∷ items.Decl (decl life.Unwritten (types.Named (name (at 0 1 52) "b")) (declarator (name (at 0 1 54) "y") None None ∷ [])) ∷ procedure (at 0 1 57) procedure_word.Initial (stmts.Statement (at 0 1 65) None (blocking (target (at 0 1 65) "x") None (stmts.Value (plain (at 0 1 69) "y")))) ∷ []) None ∷ []

t37_broken : broken t37 [] None ≡ Some (fault 16 0 1 69)
unfolding symbols_of word_of
t37_broken = refl

-- E17: module t; enum {A, B} e; initial e = 1; endmodule
abbrev t38 : List Description
t38 = module_ (at 0 1 1) life.Unwritten (name (at 0 1 8) "t") None [] (items.Decl (decl life.Unwritten (types.Enum (at 0 1 11) (enum_item (name (at 0 1 17) "A") None ∷ enum_item (name (at 0 1 20) "B") None ∷ [])) (declarator (name (at 0 1 23) "e") None None ∷ [])) ∷ procedure (at 0 1 26) procedure_word.Initial (stmts.Statement (at 0 1 34) None (blocking (target (at 0 1 34) "e") None (stmts.Value (number (at 0 1 38) "1")))) ∷ []) None ∷ []

t38_broken : broken t38 [] None ≡ Some (fault 17 0 1 38)
unfolding symbols_of word_of
t38_broken = refl

-- E17: module t; enum {A, B} e; initial e = A + 1; endmodule
abbrev t39 : List Description
t39 = module_ (at 0 1 1) life.Unwritten (name (at 0 1 8) "t") None [] (items.Decl (decl life.Unwritten (types.Enum (at 0 1 11) (enum_item (name (at 0 1 17) "A") None ∷ enum_item (name (at 0 1 20) "B") None ∷ [])) (declarator (name (at 0 1 23) "e") None None ∷ [])) ∷ procedure (at 0 1 26) procedure_word.Initial (stmts.Statement (at 0 1 34) None (blocking (target (at 0 1 34) "e") None (stmts.Value (tree.Binary binary_word.Plus (at 0 1 40) (plain (at 0 1 38) "A") (number (at 0 1 42) "1"))))) ∷ []) None ∷ []

t39_broken : broken t39 [] None ≡ Some (fault 17 0 1 38)
unfolding symbols_of word_of
t39_broken = refl

-- E18: module t; int a; function int f(); return 1; endfunction initial f() = 1; endmodule
abbrev t40 : List Description
t40 = module_ (at 0 1 1) life.Unwritten (name (at 0 1 8) "t") None [] (items.Decl (decl life.Unwritten (types.Atom (at 0 1 11) atom_word.Int sign.Unwritten) (declarator (name (at 0 1 15) "a") None None ∷ [])) ∷ items.Routine (routine (head (at 0 1 18) life.Unwritten (units.Returns.Value (types.Written (types.Atom (at 0 1 27) atom_word.Int sign.Unwritten))) (name (at 0 1 31) "f") []) [] (stmts.Statement (at 0 1 36) None (stmts.Return (Some (number (at 0 1 43) "1"))) ∷ []) None) ∷ procedure (at 0 1 58) procedure_word.Initial (stmts.Statement (at 0 1 66) None (blocking (tree.Lval.Post (root.Plain (name (at 0 1 66) "f")) (tree.Call (at 0 1 67) tree.NoExpr tree.NoSuffix)) None (stmts.Value (number (at 0 1 72) "1")))) ∷ []) None ∷ []

t40_broken : broken t40 [] None ≡ Some (fault 18 0 1 66)
unfolding symbols_of word_of
t40_broken = refl

-- E19: module t(input logic a); initial a = 1; endmodule
abbrev t41 : List Description
t41 = module_ (at 0 1 1) life.Unwritten (name (at 0 1 8) "t") None (port (Some port_direction.Input) false (types.Written (types.WrittenType.Vector (at 0 1 16) vector_word.Logic sign.Unwritten None)) (name (at 0 1 22) "a") ∷ []) (procedure (at 0 1 26) procedure_word.Initial (stmts.Statement (at 0 1 34) None (blocking (target (at 0 1 34) "a") None (stmts.Value (number (at 0 1 38) "1")))) ∷ []) None ∷ []

t41_broken : broken t41 [] None ≡ Some (fault 19 0 1 34)
unfolding symbols_of word_of
t41_broken = refl

-- E19: module t; parameter P = 1; initial P = 2; endmodule
abbrev t42 : List Description
t42 = module_ (at 0 1 1) life.Unwritten (name (at 0 1 8) "t") None [] (items.Param (param param_word.Parameter types.Unwritten (value (name (at 0 1 21) "P") (number (at 0 1 25) "1") ∷ [])) ∷ procedure (at 0 1 28) procedure_word.Initial (stmts.Statement (at 0 1 36) None (blocking (target (at 0 1 36) "P") None (stmts.Value (number (at 0 1 40) "2")))) ∷ []) None ∷ []

t42_broken : broken t42 [] None ≡ Some (fault 19 0 1 36)
unfolding symbols_of word_of
t42_broken = refl
