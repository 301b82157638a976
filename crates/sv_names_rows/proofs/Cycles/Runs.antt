-- What looks like a cycle and is none: what a run shows.
use Rattle.std.proofs.Common.{◌≡◌, List, [], ◌∷◌, true, false, refl}
use Rattle.std.specs.Prelude.{Some, None}
use Rattle.sv_value.specs.Vector.{symbols_of, word_of}
use Rattle.sv_flat.specs.declared.choices.Choices.TheVariants.{Listed}
use Rattle.sv_flat.specs.Directed.{Done}
use Rattle.sv_tree.specs.declared.word.BinaryWord.TheVariants as binary_word
use Rattle.sv_tree.specs.declared.word.VectorWord.TheVariants as vector_word
use Rattle.sv_tree.specs.declared.word.AtomWord.TheVariants as atom_word
use Rattle.sv_tree.specs.declared.word.Sign.TheVariants as sign
use Rattle.sv_tree.specs.declared.word.Life.TheVariants as life
use Rattle.sv_tree.specs.declared.word.ProcedureWord.TheVariants as procedure_word
use Rattle.sv_tree.specs.declared.word.ParamWord.TheVariants as param_word
use Rattle.sv_tree.specs.declared.expr.Root.TheVariants as root
use Rattle.sv_tree.specs.Expr as tree
use Rattle.sv_tree.specs.Types as types
use Rattle.sv_tree.specs.Stmt as stmts
use Rattle.sv_tree.specs.Units as units
use Rattle.sv_tree.specs.Items as items
use Rattle.sv_tree.specs.Descriptions.{Description}
use Rattle.sv_names.specs.Design.{elaborated}
use Rattle.sv_names_rows.proofs.Kit.{argument, at, class_, decl, declarator, enum_item, expressions, head, instance, instances, lines, module_, name, number, param, plain, procedure, property, qualifiers, range, routine, seen_in, system, text, typedef, unqualified, value, Ran}

-- module t; u #(.P(2)) x(); initial $display("ok"); endmodule module u #(parameter P = Q, Q = P); endmodule
abbrev t33 : List Description
t33 = module_ (at 0 1 1) life.Unwritten (name (at 0 1 8) "t") None [] (instances (name (at 0 1 11) "u") (units.Given (at 0 1 15) (name (at 0 1 16) "P") (Some (number (at 0 1 18) "2")) ∷ []) (instance (name (at 0 1 22) "x") [] ∷ []) ∷ procedure (at 0 1 27) procedure_word.Initial (stmts.Statement (at 0 1 35) None (stmts.Call (system (at 0 1 35) "$display" (text (at 0 1 44) "ok" ∷ [])))) ∷ []) None ∷ module_ (at 0 1 61) life.Unwritten (name (at 0 1 68) "u") (Some (param param_word.Parameter types.Unwritten (value (name (at 0 1 82) "P") (plain (at 0 1 86) "Q") ∷ []) ∷ param param_word.Parameter types.Unwritten (value (name (at 0 1 89) "Q") (plain (at 0 1 93) "P") ∷ []) ∷ [])) [] [] None ∷ []

t33_seen : seen_in (Listed []) (Listed []) (elaborated t33 [] None) 7 ≡ Ran (record { log = lines ("ok" ∷ []); wave = lines ("$timescale 1ns $end" ∷ "$scope module t $end" ∷ "$scope module x $end" ∷ "$upscope $end" ∷ "$upscope $end" ∷ "$enddefinitions $end" ∷ "#0" ∷ "$dumpvars" ∷ "$end" ∷ []); outcome = Done; time = 0; steps = 4; race = Some (8, at 0 1 27) })
unfolding symbols_of word_of
t33_seen = refl

-- module t; localparam a = b + c, b = c, c = d, d = 1; logic [a:0] v; endmodule
abbrev t34 : List Description
t34 = module_ (at 0 1 1) life.Unwritten (name (at 0 1 8) "t") None [] (items.Param (param param_word.Localparam types.Unwritten (value (name (at 0 1 22) "a") (tree.Binary binary_word.Plus (at 0 1 28) (plain (at 0 1 26) "b") (plain (at 0 1 30) "c")) ∷ value (name (at 0 1 33) "b") (plain (at 0 1 37) "c") ∷ value (name (at 0 1 40) "c") (plain (at 0 1 44) "d") ∷ value (name (at 0 1 47) "d") (number (at 0 1 51) "1") ∷ [])) ∷ items.Decl (decl life.Unwritten (types.WrittenType.Vector (at 0 1 54) vector_word.Logic sign.Unwritten (Some (range (at 0 1 60) (plain (at 0 1 61) "a") (number (at 0 1 63) "0")))) (declarator (name (at 0 1 66) "v") None None ∷ [])) ∷ []) None ∷ []

t34_seen : seen_in (Listed []) (Listed []) (elaborated t34 [] None) 5 ≡ Ran (record { log = []; wave = lines ("$timescale 1ns $end" ∷ "$scope module t $end" ∷ "$var reg 3 ! v [2:0] $end" ∷ "$upscope $end" ∷ "$enddefinitions $end" ∷ "#0" ∷ "$dumpvars" ∷ "bx !" ∷ "$end" ∷ []); outcome = Done; time = 0; steps = 2; race = None })
unfolding symbols_of word_of
t34_seen = refl

-- module t; typedef logic [$bits(w):0] x; typedef logic [P:0] w; localparam P = Q; localparam Q = $bits(y); logic [R:0] y; localparam R = 2; initial $display("%0d", $bits(x)); endmodule
abbrev t35 : List Description
t35 = module_ (at 0 1 1) life.Unwritten (name (at 0 1 8) "t") None [] (items.Typedef (typedef (types.WrittenType.Vector (at 0 1 19) vector_word.Logic sign.Unwritten (Some (range (at 0 1 25) (system (at 0 1 26) "$bits" (plain (at 0 1 32) "w" ∷ [])) (number (at 0 1 35) "0")))) (name (at 0 1 38) "x")) ∷ items.Typedef (typedef (types.WrittenType.Vector (at 0 1 49) vector_word.Logic sign.Unwritten (Some (range (at 0 1 55) (plain (at 0 1 56) "P") (number (at 0 1 58) "0")))) (name (at 0 1 61) "w")) ∷ items.Param (param param_word.Localparam types.Unwritten (value (name (at 0 1 75) "P") (plain (at 0 1 79) "Q") ∷ [])) ∷ items.Param (param param_word.Localparam types.Unwritten (value (name (at 0 1 93) "Q") (system (at 0 1 97) "$bits" (plain (at 0 1 103) "y" ∷ [])) ∷ [])) ∷ items.Decl (decl life.Unwritten (types.WrittenType.Vector (at 0 1 107) vector_word.Logic sign.Unwritten (Some (range (at 0 1 113) (plain (at 0 1 114) "R") (number (at 0 1 116) "0")))) (declarator (name (at 0 1 119) "y") None None ∷ [])) ∷ items.Param (param param_word.Localparam types.Unwritten (value (name (at 0 1 133) "R") (number (at 0 1 137) "2") ∷ [])) ∷ procedure (at 0 1 140) procedure_word.Initial (stmts.Statement (at 0 1 148) None (stmts.Call (system (at 0 1 148) "$display" (text (at 0 1 157) "%0d" ∷ system (at 0 1 164) "$bits" (plain (at 0 1 170) "x" ∷ []) ∷ [])))) ∷ []) None ∷ []

t35_seen : seen_in (Listed []) (Listed []) (elaborated t35 [] None) 7 ≡ Ran (record { log = lines ("5" ∷ []); wave = lines ("$timescale 1ns $end" ∷ "$scope module t $end" ∷ "$var reg 3 ! y [2:0] $end" ∷ "$upscope $end" ∷ "$enddefinitions $end" ∷ "#0" ∷ "$dumpvars" ∷ "bx !" ∷ "$end" ∷ []); outcome = Done; time = 0; steps = 4; race = Some (8, at 0 1 140) })
unfolding symbols_of word_of
t35_seen = refl

-- module t; function int g(logic [$bits(a):0] b, logic [2:0] a); return b; endfunction initial $display("%0d", g(3, 4)); endmodule
abbrev t51 : List Description
t51 = module_ (at 0 1 1) life.Unwritten (name (at 0 1 8) "t") None [] (items.Routine (routine (head (at 0 1 11) life.Unwritten (units.Returns.Value (types.Written (types.Atom (at 0 1 20) atom_word.Int sign.Unwritten))) (name (at 0 1 24) "g") (argument None (types.Written (types.WrittenType.Vector (at 0 1 26) vector_word.Logic sign.Unwritten (Some (range (at 0 1 32) (system (at 0 1 33) "$bits" (plain (at 0 1 39) "a" ∷ [])) (number (at 0 1 42) "0"))))) (name (at 0 1 45) "b") None ∷ argument None (types.Written (types.WrittenType.Vector (at 0 1 48) vector_word.Logic sign.Unwritten (Some (range (at 0 1 54) (number (at 0 1 55) "2") (number (at 0 1 57) "0"))))) (name (at 0 1 60) "a") None ∷ [])) [] (stmts.Statement (at 0 1 64) None (stmts.Return (Some (plain (at 0 1 71) "b"))) ∷ []) None) ∷ procedure (at 0 1 86) procedure_word.Initial (stmts.Statement (at 0 1 94) None (stmts.Call (system (at 0 1 94) "$display" (text (at 0 1 103) "%0d" ∷ tree.Expr.Post (root.Plain (name (at 0 1 110) "g")) (tree.Call (at 0 1 111) (expressions (number (at 0 1 112) "3" ∷ number (at 0 1 115) "4" ∷ [])) tree.NoSuffix) ∷ [])))) ∷ []) None ∷ []

t51_seen : seen_in (Listed []) (Listed []) (elaborated t51 [] None) 10 ≡ Ran (record { log = lines ("3" ∷ []); wave = lines ("$timescale 1ns $end" ∷ "$scope module t $end" ∷ "$upscope $end" ∷ "$enddefinitions $end" ∷ "#0" ∷ "$dumpvars" ∷ "$end" ∷ []); outcome = Done; time = 0; steps = 7; race = Some (7, at 0 1 24) })
unfolding symbols_of word_of
t51_seen = refl

-- module t; class C; int q[P]; static int s; endclass localparam P = $bits(C::s); endmodule
abbrev t62 : List Description
t62 = module_ (at 0 1 1) life.Unwritten (name (at 0 1 8) "t") None [] (items.Class (class_ (at 0 1 11) false (name (at 0 1 17) "C") None (property unqualified (decl life.Unwritten (types.Atom (at 0 1 20) atom_word.Int sign.Unwritten) (declarator (name (at 0 1 24) "q") (Some (stmts.Dimension.Named (at 0 1 25) (name (at 0 1 26) "P"))) None ∷ [])) ∷ property (qualifiers false false true false) (decl life.Unwritten (types.Atom (at 0 1 37) atom_word.Int sign.Unwritten) (declarator (name (at 0 1 41) "s") None None ∷ [])) ∷ []) None) ∷ items.Param (param param_word.Localparam types.Unwritten (value (name (at 0 1 64) "P") (system (at 0 1 68) "$bits" (tree.Expr.Post (root.Scoped (name (at 0 1 74) "C") (name (at 0 1 77) "s")) tree.NoSuffix ∷ [])) ∷ [])) ∷ []) None ∷ []

t62_seen : seen_in (Listed []) (Listed []) (elaborated t62 [] None) 5 ≡ Ran (record { log = []; wave = lines ("$timescale 1ns $end" ∷ "$scope module t $end" ∷ "$upscope $end" ∷ "$enddefinitions $end" ∷ "#0" ∷ "$dumpvars" ∷ "$end" ∷ []); outcome = Done; time = 0; steps = 2; race = None })
unfolding symbols_of word_of
t62_seen = refl

-- module t; function int f(); return g(); endfunction function int g(); return f(); endfunction initial $display("x"); endmodule
abbrev t73 : List Description
t73 = module_ (at 0 1 1) life.Unwritten (name (at 0 1 8) "t") None [] (items.Routine (routine (head (at 0 1 11) life.Unwritten (units.Returns.Value (types.Written (types.Atom (at 0 1 20) atom_word.Int sign.Unwritten))) (name (at 0 1 24) "f") []) [] (stmts.Statement (at 0 1 29) None (stmts.Return (Some (tree.Expr.Post (root.Plain (name (at 0 1 36) "g")) (tree.Call (at 0 1 37) tree.NoExpr tree.NoSuffix)))) ∷ []) None) ∷ items.Routine (routine (head (at 0 1 53) life.Unwritten (units.Returns.Value (types.Written (types.Atom (at 0 1 62) atom_word.Int sign.Unwritten))) (name (at 0 1 66) "g") []) [] (stmts.Statement (at 0 1 71) None (stmts.Return (Some (tree.Expr.Post (root.Plain (name (at 0 1 78) "f")) (tree.Call (at 0 1 79) tree.NoExpr tree.NoSuffix)))) ∷ []) None) ∷ procedure (at 0 1 95) procedure_word.Initial (stmts.Statement (at 0 1 103) None (stmts.Call (system (at 0 1 103) "$display" (text (at 0 1 112) "x" ∷ [])))) ∷ []) None ∷ []

t73_seen : seen_in (Listed []) (Listed []) (elaborated t73 [] None) 7 ≡ Ran (record { log = lines ("x" ∷ []); wave = lines ("$timescale 1ns $end" ∷ "$scope module t $end" ∷ "$upscope $end" ∷ "$enddefinitions $end" ∷ "#0" ∷ "$dumpvars" ∷ "$end" ∷ []); outcome = Done; time = 0; steps = 4; race = Some (8, at 0 1 95) })
unfolding symbols_of word_of
t73_seen = refl

-- module t; enum logic [P:0] {A, B = P} e; localparam P = 1; endmodule
abbrev t78 : List Description
t78 = module_ (at 0 1 1) life.Unwritten (name (at 0 1 8) "t") None [] (items.Decl (decl life.Unwritten (types.EnumOf (at 0 1 11) (types.WrittenType.Vector (at 0 1 16) vector_word.Logic sign.Unwritten (Some (range (at 0 1 22) (plain (at 0 1 23) "P") (number (at 0 1 25) "0")))) (enum_item (name (at 0 1 29) "A") None ∷ enum_item (name (at 0 1 32) "B") (Some (plain (at 0 1 36) "P")) ∷ [])) (declarator (name (at 0 1 39) "e") None None ∷ [])) ∷ items.Param (param param_word.Localparam types.Unwritten (value (name (at 0 1 53) "P") (number (at 0 1 57) "1") ∷ [])) ∷ []) None ∷ []

t78_seen : seen_in (Listed []) (Listed []) (elaborated t78 [] None) 5 ≡ Ran (record { log = []; wave = lines ("$timescale 1ns $end" ∷ "$scope module t $end" ∷ "$var reg 2 ! e [1:0] $end" ∷ "$upscope $end" ∷ "$enddefinitions $end" ∷ "#0" ∷ "$dumpvars" ∷ "bx !" ∷ "$end" ∷ []); outcome = Done; time = 0; steps = 2; race = None })
unfolding symbols_of word_of
t78_seen = refl

-- module t; typedef enum {A = $bits(w), B} w; w x; initial $display("%0d %0d", A, B); endmodule
abbrev t80 : List Description
t80 = module_ (at 0 1 1) life.Unwritten (name (at 0 1 8) "t") None [] (items.Typedef (typedef (types.Enum (at 0 1 19) (enum_item (name (at 0 1 25) "A") (Some (system (at 0 1 29) "$bits" (plain (at 0 1 35) "w" ∷ []))) ∷ enum_item (name (at 0 1 39) "B") None ∷ [])) (name (at 0 1 42) "w")) ∷ items.Decl (decl life.Unwritten (types.Named (name (at 0 1 45) "w")) (declarator (name (at 0 1 47) "x") None None ∷ [])) ∷ procedure (at 0 1 50) procedure_word.Initial (stmts.Statement (at 0 1 58) None (stmts.Call (system (at 0 1 58) "$display" (text (at 0 1 67) "%0d %0d" ∷ plain (at 0 1 78) "A" ∷ plain (at 0 1 81) "B" ∷ [])))) ∷ []) None ∷ []

t80_seen : seen_in (Listed []) (Listed []) (elaborated t80 [] None) 7 ≡ Ran (record { log = lines ("32 33" ∷ []); wave = lines ("$timescale 1ns $end" ∷ "$scope module t $end" ∷ "$var reg 32 ! x $end" ∷ "$upscope $end" ∷ "$enddefinitions $end" ∷ "#0" ∷ "$dumpvars" ∷ "b0 !" ∷ "$end" ∷ []); outcome = Done; time = 0; steps = 4; race = Some (8, at 0 1 50) })
unfolding symbols_of word_of
t80_seen = refl
