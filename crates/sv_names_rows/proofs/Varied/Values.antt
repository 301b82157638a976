-- Texts that differ in a word or two from others: constants, enumerations and limits.
use Rattle.std.proofs.Common.{◌≡◌, List, [], ◌∷◌, true, false, refl}
use Rattle.std.specs.Prelude.{Some, None, codes}
use Rattle.sv_value.specs.Vector.{symbols_of, word_of}
use Rattle.sv_tree.specs.declared.word.UnaryWord.TheVariants as unary_word
use Rattle.sv_tree.specs.declared.word.BinaryWord.TheVariants as binary_word
use Rattle.sv_tree.specs.declared.word.PartWord.TheVariants as part_word
use Rattle.sv_tree.specs.declared.word.VectorWord.TheVariants as vector_word
use Rattle.sv_tree.specs.declared.word.AtomWord.TheVariants as atom_word
use Rattle.sv_tree.specs.declared.word.Sign.TheVariants as sign
use Rattle.sv_tree.specs.declared.word.Life.TheVariants as life
use Rattle.sv_tree.specs.declared.word.EdgeWord.TheVariants as edge
use Rattle.sv_tree.specs.declared.word.ProcedureWord.TheVariants as procedure_word
use Rattle.sv_tree.specs.declared.word.Direction.TheVariants as direction
use Rattle.sv_tree.specs.declared.word.PortDirection.TheVariants as port_direction
use Rattle.sv_tree.specs.declared.word.ParamWord.TheVariants as param_word
use Rattle.sv_tree.specs.declared.expr.Root.TheVariants as root
use Rattle.sv_tree.specs.declared.expr.CastType.TheVariants as cast
use Rattle.sv_tree.specs.Expr as tree
use Rattle.sv_tree.specs.Types as types
use Rattle.sv_tree.specs.Stmt as stmts
use Rattle.sv_tree.specs.Units as units
use Rattle.sv_tree.specs.Items as items
use Rattle.sv_tree.specs.Descriptions as descriptions
use Rattle.sv_tree.specs.Descriptions.{Description}
use Rattle.sv_names.specs.Design.{broken}
use Rattle.sv_names_rows.proofs.Kit.{assign_item, at, blocking, class_, clocking, decl, declarator, delay, enum_item, expressions, fault, head, instance, instances, method, module_, name, net, net_item, nonblocking, number, param, plain, port, procedure, program_, property, pure_method, range, routine, sided, statements, system, target, text, typedef, unqualified, value}

-- module t; logic [7:0] a; initial begin a = 8'd3 ** 2; $display("%0d %0d %0d", a, 2 ** 5, $clog2(9)); $display("%0d", $bits(a) + $bits()); end endmodule
abbrev t1 : List Description
t1 = module_ (at 0 1 1) life.Unwritten (name (at 0 1 8) "t") None [] (items.Decl (decl life.Unwritten (types.WrittenType.Vector (at 0 1 11) vector_word.Logic sign.Unwritten (Some (range (at 0 1 17) (number (at 0 1 18) "7") (number (at 0 1 20) "0")))) (declarator (name (at 0 1 23) "a") None None ∷ [])) ∷ procedure (at 0 1 26) procedure_word.Initial (stmts.Statement (at 0 1 34) None (stmts.Block None [] (statements (stmts.Statement (at 0 1 40) None (blocking (target (at 0 1 40) "a") None (stmts.Value (tree.Binary binary_word.Power (at 0 1 49) (number (at 0 1 44) "8'd3") (number (at 0 1 52) "2")))) ∷ stmts.Statement (at 0 1 55) None (stmts.Call (system (at 0 1 55) "$display" (text (at 0 1 64) "%0d %0d %0d" ∷ plain (at 0 1 79) "a" ∷ tree.Binary binary_word.Power (at 0 1 84) (number (at 0 1 82) "2") (number (at 0 1 87) "5") ∷ system (at 0 1 90) "$clog2" (number (at 0 1 97) "9" ∷ []) ∷ []))) ∷ stmts.Statement (at 0 1 102) None (stmts.Call (system (at 0 1 102) "$display" (text (at 0 1 111) "%0d" ∷ tree.Binary binary_word.Plus (at 0 1 127) (system (at 0 1 118) "$bits" (plain (at 0 1 124) "a" ∷ [])) (system (at 0 1 129) "$bits" []) ∷ []))) ∷ [])) None)) ∷ []) None ∷ []

t1_broken : broken t1 [] None ≡ Some (fault 31 0 1 129)
unfolding symbols_of word_of
t1_broken = refl

-- module t; parameter a = 1'b0, b = "s"; initial $display("%b %b", a[0], b[1:0]); endmodule
abbrev t2 : List Description
t2 = module_ (at 0 1 1) life.Unwritten (name (at 0 1 8) "t") None [] (items.Param (param param_word.Parameter types.Unwritten (value (name (at 0 1 21) "a") (number (at 0 1 25) "1'b0") ∷ value (name (at 0 1 31) "b") (text (at 0 1 35) "s") ∷ [])) ∷ procedure (at 0 1 40) procedure_word.Initial (stmts.Statement (at 0 1 48) None (stmts.Call (system (at 0 1 48) "$display" (text (at 0 1 57) "%b %b" ∷ tree.Expr.Post (root.Plain (name (at 0 1 66) "a")) (tree.Select (at 0 1 67) (number (at 0 1 68) "0") tree.NoSuffix) ∷ tree.Expr.Post (root.Plain (name (at 0 1 72) "b")) (tree.Part (at 0 1 73) part_word.Fixed (number (at 0 1 74) "1") (number (at 0 1 76) "0") tree.NoSuffix) ∷ [])))) ∷ []) None ∷ []

t2_broken : broken t2 [] None ≡ Some (fault 14 0 1 73)
unfolding symbols_of word_of
t2_broken = refl

-- module t; parameter a = 1'b0, b = '1; initial $display("%b %b", a[0], b[1:0]); endmodule
abbrev t3 : List Description
t3 = module_ (at 0 1 1) life.Unwritten (name (at 0 1 8) "t") None [] (items.Param (param param_word.Parameter types.Unwritten (value (name (at 0 1 21) "a") (number (at 0 1 25) "1'b0") ∷ value (name (at 0 1 31) "b") (number (at 0 1 35) "'1") ∷ [])) ∷ procedure (at 0 1 39) procedure_word.Initial (stmts.Statement (at 0 1 47) None (stmts.Call (system (at 0 1 47) "$display" (text (at 0 1 56) "%b %b" ∷ tree.Expr.Post (root.Plain (name (at 0 1 65) "a")) (tree.Select (at 0 1 66) (number (at 0 1 67) "0") tree.NoSuffix) ∷ tree.Expr.Post (root.Plain (name (at 0 1 71) "b")) (tree.Part (at 0 1 72) part_word.Fixed (number (at 0 1 73) "1") (number (at 0 1 75) "0") tree.NoSuffix) ∷ [])))) ∷ []) None ∷ []

t3_broken : broken t3 [] None ≡ Some (fault 14 0 1 72)
unfolding symbols_of word_of
t3_broken = refl

-- module t; logic [7:0] u = 200; byte a = 100; logic signed [3:0] s = -1; logic [3:0] x = 4'b1x0z; initial begin $display("%0d %0d %0d", 9'(u + u), int'(a + a), int'('1)); $display("%0d %0d %b %b", 1'bx'(u), 8'(s), 6'(x), 2'(x)); $display("%0d %0d", 9'(s + 4'b0), 16'(u << 1)); end endmodule
abbrev t4 : List Description
t4 = module_ (at 0 1 1) life.Unwritten (name (at 0 1 8) "t") None [] (items.Decl (decl life.Unwritten (types.WrittenType.Vector (at 0 1 11) vector_word.Logic sign.Unwritten (Some (range (at 0 1 17) (number (at 0 1 18) "7") (number (at 0 1 20) "0")))) (declarator (name (at 0 1 23) "u") None (Some (stmts.Value (number (at 0 1 27) "200"))) ∷ [])) ∷ items.Decl (decl life.Unwritten (types.Atom (at 0 1 32) atom_word.Byte sign.Unwritten) (declarator (name (at 0 1 37) "a") None (Some (stmts.Value (number (at 0 1 41) "100"))) ∷ [])) ∷ items.Decl (decl life.Unwritten (types.WrittenType.Vector (at 0 1 46) vector_word.Logic sign.Signed (Some (range (at 0 1 59) (number (at 0 1 60) "3") (number (at 0 1 62) "0")))) (declarator (name (at 0 1 65) "s") None (Some (stmts.Value (tree.Unary (at 0 1 69) unary_word.Minus (number (at 0 1 70) "1")))) ∷ [])) ∷ items.Decl (decl life.Unwritten (types.WrittenType.Vector (at 0 1 73) vector_word.Logic sign.Unwritten (Some (range (at 0 1 79) (number (at 0 1 80) "3") (number (at 0 1 82) "0")))) (declarator (name (at 0 1 85) "x") None (Some (stmts.Value (number (at 0 1 89) "4'b1x0z"))) ∷ [])) ∷ procedure (at 0 1 98) procedure_word.Initial (stmts.Statement (at 0 1 106) None (stmts.Block None [] (statements (stmts.Statement (at 0 1 112) None (stmts.Call (system (at 0 1 112) "$display" (text (at 0 1 121) "%0d %0d %0d" ∷ tree.Cast (cast.Width (at 0 1 136) (codes "9")) (tree.Binary binary_word.Plus (at 0 1 141) (plain (at 0 1 139) "u") (plain (at 0 1 143) "u")) ∷ tree.Cast (cast.Atom (at 0 1 147) atom_word.Int) (tree.Binary binary_word.Plus (at 0 1 154) (plain (at 0 1 152) "a") (plain (at 0 1 156) "a")) ∷ tree.Cast (cast.Atom (at 0 1 160) atom_word.Int) (number (at 0 1 165) "'1") ∷ []))) ∷ stmts.Statement (at 0 1 171) None (stmts.Call (system (at 0 1 171) "$display" (text (at 0 1 180) "%0d %0d %b %b" ∷ tree.Cast (cast.Width (at 0 1 197) (codes "1'bx")) (plain (at 0 1 203) "u") ∷ tree.Cast (cast.Width (at 0 1 207) (codes "8")) (plain (at 0 1 210) "s") ∷ tree.Cast (cast.Width (at 0 1 214) (codes "6")) (plain (at 0 1 217) "x") ∷ tree.Cast (cast.Width (at 0 1 221) (codes "2")) (plain (at 0 1 224) "x") ∷ []))) ∷ stmts.Statement (at 0 1 229) None (stmts.Call (system (at 0 1 229) "$display" (text (at 0 1 238) "%0d %0d" ∷ tree.Cast (cast.Width (at 0 1 249) (codes "9")) (tree.Binary binary_word.Plus (at 0 1 254) (plain (at 0 1 252) "s") (number (at 0 1 256) "4'b0")) ∷ tree.Cast (cast.Width (at 0 1 263) (codes "16")) (tree.Binary binary_word.ShiftLeft (at 0 1 269) (plain (at 0 1 267) "u") (number (at 0 1 272) "1")) ∷ []))) ∷ [])) None)) ∷ []) None ∷ []

t4_broken : broken t4 [] None ≡ Some (fault 12 0 1 197)
unfolding symbols_of word_of
t4_broken = refl

-- module t; localparam A = 9'(8'd200 + 8'd200), B = int'('1), C = 4'('1), D = byte'(8'd100 + 8'd100), E = 3'(9); typedef logic signed [1'bx:0] w; localparam w F = w'(8'd255 + 8'd1); initial $display("%0d %0d %0d %0d %0d %0d", A, B, C, D, E, F); endmodule
abbrev t5 : List Description
t5 = module_ (at 0 1 1) life.Unwritten (name (at 0 1 8) "t") None [] (items.Param (param param_word.Localparam types.Unwritten (value (name (at 0 1 22) "A") (tree.Cast (cast.Width (at 0 1 26) (codes "9")) (tree.Binary binary_word.Plus (at 0 1 36) (number (at 0 1 29) "8'd200") (number (at 0 1 38) "8'd200"))) ∷ value (name (at 0 1 47) "B") (tree.Cast (cast.Atom (at 0 1 51) atom_word.Int) (number (at 0 1 56) "'1")) ∷ value (name (at 0 1 61) "C") (tree.Cast (cast.Width (at 0 1 65) (codes "4")) (number (at 0 1 68) "'1")) ∷ value (name (at 0 1 73) "D") (tree.Cast (cast.Atom (at 0 1 77) atom_word.Byte) (tree.Binary binary_word.Plus (at 0 1 90) (number (at 0 1 83) "8'd100") (number (at 0 1 92) "8'd100"))) ∷ value (name (at 0 1 101) "E") (tree.Cast (cast.Width (at 0 1 105) (codes "3")) (number (at 0 1 108) "9")) ∷ [])) ∷ items.Typedef (typedef (types.WrittenType.Vector (at 0 1 120) vector_word.Logic sign.Signed (Some (range (at 0 1 133) (number (at 0 1 134) "1'bx") (number (at 0 1 139) "0")))) (name (at 0 1 142) "w")) ∷ items.Param (param param_word.Localparam (types.Written (types.Named (name (at 0 1 156) "w"))) (value (name (at 0 1 158) "F") (tree.Cast (cast.Named (name (at 0 1 162) "w")) (tree.Binary binary_word.Plus (at 0 1 172) (number (at 0 1 165) "8'd255") (number (at 0 1 174) "8'd1"))) ∷ [])) ∷ procedure (at 0 1 181) procedure_word.Initial (stmts.Statement (at 0 1 189) None (stmts.Call (system (at 0 1 189) "$display" (text (at 0 1 198) "%0d %0d %0d %0d %0d %0d" ∷ plain (at 0 1 225) "A" ∷ plain (at 0 1 228) "B" ∷ plain (at 0 1 231) "C" ∷ plain (at 0 1 234) "D" ∷ plain (at 0 1 237) "E" ∷ plain (at 0 1 240) "F" ∷ [])))) ∷ []) None ∷ []

t5_broken : broken t5 [] None ≡ Some (fault 12 0 1 134)
unfolding symbols_of word_of
t5_broken = refl

-- module t; localparam A = 9'(8'd200 + 8'd200), B = int'('1), C = 4'('1), D = byte'(8'd100 + 8'd100), E = 8'hff'(9); typedef logic signed [9:0] w; localparam w F = w'(8'd255 + 8'd1); initial $display("%0d %0d %0d %0d %0d %0d", A, B, C, D, E, F); endmodule
abbrev t6 : List Description
t6 = module_ (at 0 1 1) life.Unwritten (name (at 0 1 8) "t") None [] (items.Param (param param_word.Localparam types.Unwritten (value (name (at 0 1 22) "A") (tree.Cast (cast.Width (at 0 1 26) (codes "9")) (tree.Binary binary_word.Plus (at 0 1 36) (number (at 0 1 29) "8'd200") (number (at 0 1 38) "8'd200"))) ∷ value (name (at 0 1 47) "B") (tree.Cast (cast.Atom (at 0 1 51) atom_word.Int) (number (at 0 1 56) "'1")) ∷ value (name (at 0 1 61) "C") (tree.Cast (cast.Width (at 0 1 65) (codes "4")) (number (at 0 1 68) "'1")) ∷ value (name (at 0 1 73) "D") (tree.Cast (cast.Atom (at 0 1 77) atom_word.Byte) (tree.Binary binary_word.Plus (at 0 1 90) (number (at 0 1 83) "8'd100") (number (at 0 1 92) "8'd100"))) ∷ value (name (at 0 1 101) "E") (tree.Cast (cast.Width (at 0 1 105) (codes "8'hff")) (number (at 0 1 112) "9")) ∷ [])) ∷ items.Typedef (typedef (types.WrittenType.Vector (at 0 1 124) vector_word.Logic sign.Signed (Some (range (at 0 1 137) (number (at 0 1 138) "9") (number (at 0 1 140) "0")))) (name (at 0 1 143) "w")) ∷ items.Param (param param_word.Localparam (types.Written (types.Named (name (at 0 1 157) "w"))) (value (name (at 0 1 159) "F") (tree.Cast (cast.Named (name (at 0 1 163) "w")) (tree.Binary binary_word.Plus (at 0 1 173) (number (at 0 1 166) "8'd255") (number (at 0 1 175) "8'd1"))) ∷ [])) ∷ procedure (at 0 1 182) procedure_word.Initial (stmts.Statement (at 0 1 190) None (stmts.Call (system (at 0 1 190) "$display" (text (at 0 1 199) "%0d %0d %0d %0d %0d %0d" ∷ plain (at 0 1 226) "A" ∷ plain (at 0 1 229) "B" ∷ plain (at 0 1 232) "C" ∷ plain (at 0 1 235) "D" ∷ plain (at 0 1 238) "E" ∷ plain (at 0 1 241) "F" ∷ [])))) ∷ []) None ∷ []

t6_broken : broken t6 [] None ≡ Some (fault 13 0 1 105)
unfolding symbols_of word_of
t6_broken = refl

-- module t; typedef enum logic [3:0] {X = 3, Y = v} e; typedef logic [8:0] w; logic [3:0] n = 9; e v; initial begin v = e'(n + n - 6); $display("%0d %0d", v, w'(n + n)); v = e'('1); $display("%0d", v); $display("%0d", longint'(n * n)); end endmodule
abbrev t7 : List Description
t7 = module_ (at 0 1 1) life.Unwritten (name (at 0 1 8) "t") None [] (items.Typedef (typedef (types.EnumOf (at 0 1 19) (types.WrittenType.Vector (at 0 1 24) vector_word.Logic sign.Unwritten (Some (range (at 0 1 30) (number (at 0 1 31) "3") (number (at 0 1 33) "0")))) (enum_item (name (at 0 1 37) "X") (Some (number (at 0 1 41) "3")) ∷ enum_item (name (at 0 1 44) "Y") (Some (plain (at 0 1 48) "v")) ∷ [])) (name (at 0 1 51) "e")) ∷ items.Typedef (typedef (types.WrittenType.Vector (at 0 1 62) vector_word.Logic sign.Unwritten (Some (range (at 0 1 68) (number (at 0 1 69) "8") (number (at 0 1 71) "0")))) (name (at 0 1 74) "w")) ∷ items.Decl (decl life.Unwritten (types.WrittenType.Vector (at 0 1 77) vector_word.Logic sign.Unwritten (Some (range (at 0 1 83) (number (at 0 1 84) "3") (number (at 0 1 86) "0")))) (declarator (name (at 0 1 89) "n") None (Some (stmts.Value (number (at 0 1 93) "9"))) ∷ [])) ∷ items.Decl (decl life.Unwritten (types.Named (name (at 0 1 96) "e")) (declarator (name (at 0 1 98) "v") None None ∷ [])) ∷ procedure (at 0 1 101) procedure_word.Initial (stmts.Statement (at 0 1 109) None (stmts.Block None [] (statements (stmts.Statement (at 0 1 115) None (blocking (target (at 0 1 115) "v") None (stmts.Value (tree.Cast (cast.Named (name (at 0 1 119) "e")) (tree.Binary binary_word.Minus (at 0 1 128) (tree.Binary binary_word.Plus (at 0 1 124) (plain (at 0 1 122) "n") (plain (at 0 1 126) "n")) (number (at 0 1 130) "6"))))) ∷ stmts.Statement (at 0 1 134) None (stmts.Call (system (at 0 1 134) "$display" (text (at 0 1 143) "%0d %0d" ∷ plain (at 0 1 154) "v" ∷ tree.Cast (cast.Named (name (at 0 1 157) "w")) (tree.Binary binary_word.Plus (at 0 1 162) (plain (at 0 1 160) "n") (plain (at 0 1 164) "n")) ∷ []))) ∷ stmts.Statement (at 0 1 169) None (blocking (target (at 0 1 169) "v") None (stmts.Value (tree.Cast (cast.Named (name (at 0 1 173) "e")) (number (at 0 1 176) "'1")))) ∷ stmts.Statement (at 0 1 181) None (stmts.Call (system (at 0 1 181) "$display" (text (at 0 1 190) "%0d" ∷ plain (at 0 1 197) "v" ∷ []))) ∷ stmts.Statement (at 0 1 201) None (stmts.Call (system (at 0 1 201) "$display" (text (at 0 1 210) "%0d" ∷ tree.Cast (cast.Atom (at 0 1 217) atom_word.Longint) (tree.Binary binary_word.Multiply (at 0 1 228) (plain (at 0 1 226) "n") (plain (at 0 1 230) "n")) ∷ []))) ∷ [])) None)) ∷ []) None ∷ []

t7_broken : broken t7 [] None ≡ Some (fault 11 0 1 48)
unfolding symbols_of word_of
t7_broken = refl

-- module t; typedef enum logic [8'hff:0] {X = 3, Y = 12} e; typedef logic [8:0] w; logic [3:0] n = 9; e v; initial begin v = e'(n + n - 6); $display("%0d %0d", v, w'(n + n)); v = e'('1); $display("%0d", v); $display("%0d", longint'(n * n)); end endmodule
abbrev t8 : List Description
t8 = module_ (at 0 1 1) life.Unwritten (name (at 0 1 8) "t") None [] (items.Typedef (typedef (types.EnumOf (at 0 1 19) (types.WrittenType.Vector (at 0 1 24) vector_word.Logic sign.Unwritten (Some (range (at 0 1 30) (number (at 0 1 31) "8'hff") (number (at 0 1 37) "0")))) (enum_item (name (at 0 1 41) "X") (Some (number (at 0 1 45) "3")) ∷ enum_item (name (at 0 1 48) "Y") (Some (number (at 0 1 52) "12")) ∷ [])) (name (at 0 1 56) "e")) ∷ items.Typedef (typedef (types.WrittenType.Vector (at 0 1 67) vector_word.Logic sign.Unwritten (Some (range (at 0 1 73) (number (at 0 1 74) "8") (number (at 0 1 76) "0")))) (name (at 0 1 79) "w")) ∷ items.Decl (decl life.Unwritten (types.WrittenType.Vector (at 0 1 82) vector_word.Logic sign.Unwritten (Some (range (at 0 1 88) (number (at 0 1 89) "3") (number (at 0 1 91) "0")))) (declarator (name (at 0 1 94) "n") None (Some (stmts.Value (number (at 0 1 98) "9"))) ∷ [])) ∷ items.Decl (decl life.Unwritten (types.Named (name (at 0 1 101) "e")) (declarator (name (at 0 1 103) "v") None None ∷ [])) ∷ procedure (at 0 1 106) procedure_word.Initial (stmts.Statement (at 0 1 114) None (stmts.Block None [] (statements (stmts.Statement (at 0 1 120) None (blocking (target (at 0 1 120) "v") None (stmts.Value (tree.Cast (cast.Named (name (at 0 1 124) "e")) (tree.Binary binary_word.Minus (at 0 1 133) (tree.Binary binary_word.Plus (at 0 1 129) (plain (at 0 1 127) "n") (plain (at 0 1 131) "n")) (number (at 0 1 135) "6"))))) ∷ stmts.Statement (at 0 1 139) None (stmts.Call (system (at 0 1 139) "$display" (text (at 0 1 148) "%0d %0d" ∷ plain (at 0 1 159) "v" ∷ tree.Cast (cast.Named (name (at 0 1 162) "w")) (tree.Binary binary_word.Plus (at 0 1 167) (plain (at 0 1 165) "n") (plain (at 0 1 169) "n")) ∷ []))) ∷ stmts.Statement (at 0 1 174) None (blocking (target (at 0 1 174) "v") None (stmts.Value (tree.Cast (cast.Named (name (at 0 1 178) "e")) (number (at 0 1 181) "'1")))) ∷ stmts.Statement (at 0 1 186) None (stmts.Call (system (at 0 1 186) "$display" (text (at 0 1 195) "%0d" ∷ plain (at 0 1 202) "v" ∷ []))) ∷ stmts.Statement (at 0 1 206) None (stmts.Call (system (at 0 1 206) "$display" (text (at 0 1 215) "%0d" ∷ tree.Cast (cast.Atom (at 0 1 222) atom_word.Longint) (tree.Binary binary_word.Multiply (at 0 1 233) (plain (at 0 1 231) "n") (plain (at 0 1 235) "n")) ∷ []))) ∷ [])) None)) ∷ []) None ∷ []

t8_broken : broken t8 [] None ≡ Some (fault 13 0 1 30)
unfolding symbols_of word_of
t8_broken = refl

-- module t; typedef enum logic [3:0] {X = 3, Y = 12} e; typedef logic [8:0] w; logic [3:0] n = 9; e v; initial begin v = e'(n + n - 6); $display("%0d %0d", v, v'(n + n)); v = e'('1); $display("%0d", v); $display("%0d", longint'(n * n)); end endmodule
abbrev t9 : List Description
t9 = module_ (at 0 1 1) life.Unwritten (name (at 0 1 8) "t") None [] (items.Typedef (typedef (types.EnumOf (at 0 1 19) (types.WrittenType.Vector (at 0 1 24) vector_word.Logic sign.Unwritten (Some (range (at 0 1 30) (number (at 0 1 31) "3") (number (at 0 1 33) "0")))) (enum_item (name (at 0 1 37) "X") (Some (number (at 0 1 41) "3")) ∷ enum_item (name (at 0 1 44) "Y") (Some (number (at 0 1 48) "12")) ∷ [])) (name (at 0 1 52) "e")) ∷ items.Typedef (typedef (types.WrittenType.Vector (at 0 1 63) vector_word.Logic sign.Unwritten (Some (range (at 0 1 69) (number (at 0 1 70) "8") (number (at 0 1 72) "0")))) (name (at 0 1 75) "w")) ∷ items.Decl (decl life.Unwritten (types.WrittenType.Vector (at 0 1 78) vector_word.Logic sign.Unwritten (Some (range (at 0 1 84) (number (at 0 1 85) "3") (number (at 0 1 87) "0")))) (declarator (name (at 0 1 90) "n") None (Some (stmts.Value (number (at 0 1 94) "9"))) ∷ [])) ∷ items.Decl (decl life.Unwritten (types.Named (name (at 0 1 97) "e")) (declarator (name (at 0 1 99) "v") None None ∷ [])) ∷ procedure (at 0 1 102) procedure_word.Initial (stmts.Statement (at 0 1 110) None (stmts.Block None [] (statements (stmts.Statement (at 0 1 116) None (blocking (target (at 0 1 116) "v") None (stmts.Value (tree.Cast (cast.Named (name (at 0 1 120) "e")) (tree.Binary binary_word.Minus (at 0 1 129) (tree.Binary binary_word.Plus (at 0 1 125) (plain (at 0 1 123) "n") (plain (at 0 1 127) "n")) (number (at 0 1 131) "6"))))) ∷ stmts.Statement (at 0 1 135) None (stmts.Call (system (at 0 1 135) "$display" (text (at 0 1 144) "%0d %0d" ∷ plain (at 0 1 155) "v" ∷ tree.Cast (cast.Named (name (at 0 1 158) "v")) (tree.Binary binary_word.Plus (at 0 1 163) (plain (at 0 1 161) "n") (plain (at 0 1 165) "n")) ∷ []))) ∷ stmts.Statement (at 0 1 170) None (blocking (target (at 0 1 170) "v") None (stmts.Value (tree.Cast (cast.Named (name (at 0 1 174) "e")) (number (at 0 1 177) "'1")))) ∷ stmts.Statement (at 0 1 182) None (stmts.Call (system (at 0 1 182) "$display" (text (at 0 1 191) "%0d" ∷ plain (at 0 1 198) "v" ∷ []))) ∷ stmts.Statement (at 0 1 202) None (stmts.Call (system (at 0 1 202) "$display" (text (at 0 1 211) "%0d" ∷ tree.Cast (cast.Atom (at 0 1 218) atom_word.Longint) (tree.Binary binary_word.Multiply (at 0 1 229) (plain (at 0 1 227) "n") (plain (at 0 1 231) "n")) ∷ []))) ∷ [])) None)) ∷ []) None ∷ []

t9_broken : broken t9 [] None ≡ Some (fault 11 0 1 158)
unfolding symbols_of word_of
t9_broken = refl

-- module t; typedef enum logic [3:0] {X = 70, Y = 12} e; typedef logic [8:0] w; logic [3:0] n = 9; e v; initial begin v = e'(n + n - 6); $display("%0d %0d", v, w'(n + n)); v = e'('1); $display("%0d", v); $display("%0d", longint'(n * n)); end endmodule
abbrev t10 : List Description
t10 = module_ (at 0 1 1) life.Unwritten (name (at 0 1 8) "t") None [] (items.Typedef (typedef (types.EnumOf (at 0 1 19) (types.WrittenType.Vector (at 0 1 24) vector_word.Logic sign.Unwritten (Some (range (at 0 1 30) (number (at 0 1 31) "3") (number (at 0 1 33) "0")))) (enum_item (name (at 0 1 37) "X") (Some (number (at 0 1 41) "70")) ∷ enum_item (name (at 0 1 45) "Y") (Some (number (at 0 1 49) "12")) ∷ [])) (name (at 0 1 53) "e")) ∷ items.Typedef (typedef (types.WrittenType.Vector (at 0 1 64) vector_word.Logic sign.Unwritten (Some (range (at 0 1 70) (number (at 0 1 71) "8") (number (at 0 1 73) "0")))) (name (at 0 1 76) "w")) ∷ items.Decl (decl life.Unwritten (types.WrittenType.Vector (at 0 1 79) vector_word.Logic sign.Unwritten (Some (range (at 0 1 85) (number (at 0 1 86) "3") (number (at 0 1 88) "0")))) (declarator (name (at 0 1 91) "n") None (Some (stmts.Value (number (at 0 1 95) "9"))) ∷ [])) ∷ items.Decl (decl life.Unwritten (types.Named (name (at 0 1 98) "e")) (declarator (name (at 0 1 100) "v") None None ∷ [])) ∷ procedure (at 0 1 103) procedure_word.Initial (stmts.Statement (at 0 1 111) None (stmts.Block None [] (statements (stmts.Statement (at 0 1 117) None (blocking (target (at 0 1 117) "v") None (stmts.Value (tree.Cast (cast.Named (name (at 0 1 121) "e")) (tree.Binary binary_word.Minus (at 0 1 130) (tree.Binary binary_word.Plus (at 0 1 126) (plain (at 0 1 124) "n") (plain (at 0 1 128) "n")) (number (at 0 1 132) "6"))))) ∷ stmts.Statement (at 0 1 136) None (stmts.Call (system (at 0 1 136) "$display" (text (at 0 1 145) "%0d %0d" ∷ plain (at 0 1 156) "v" ∷ tree.Cast (cast.Named (name (at 0 1 159) "w")) (tree.Binary binary_word.Plus (at 0 1 164) (plain (at 0 1 162) "n") (plain (at 0 1 166) "n")) ∷ []))) ∷ stmts.Statement (at 0 1 171) None (blocking (target (at 0 1 171) "v") None (stmts.Value (tree.Cast (cast.Named (name (at 0 1 175) "e")) (number (at 0 1 178) "'1")))) ∷ stmts.Statement (at 0 1 183) None (stmts.Call (system (at 0 1 183) "$display" (text (at 0 1 192) "%0d" ∷ plain (at 0 1 199) "v" ∷ []))) ∷ stmts.Statement (at 0 1 203) None (stmts.Call (system (at 0 1 203) "$display" (text (at 0 1 212) "%0d" ∷ tree.Cast (cast.Atom (at 0 1 219) atom_word.Longint) (tree.Binary binary_word.Multiply (at 0 1 230) (plain (at 0 1 228) "n") (plain (at 0 1 232) "n")) ∷ []))) ∷ [])) None)) ∷ []) None ∷ []

t10_broken : broken t10 [] None ≡ Some (fault 56 0 1 37)
unfolding symbols_of word_of
t10_broken = refl

-- module t; logic [7:0] u = 200; wire [8:0] y = 9'(u + u) >> 1; logic [q:0] h; assign h = 9'(u + u) >> 1; logic [3:0] q[$]; initial begin q.push_back(4'(u + 8'd60)); #1 $display("%0d %0d %0d", y, h, q[0]); $display("%0d", int'(byte'(u)) + 1); end endmodule
abbrev t11 : List Description
t11 = module_ (at 0 1 1) life.Unwritten (name (at 0 1 8) "t") None [] (items.Decl (decl life.Unwritten (types.WrittenType.Vector (at 0 1 11) vector_word.Logic sign.Unwritten (Some (range (at 0 1 17) (number (at 0 1 18) "7") (number (at 0 1 20) "0")))) (declarator (name (at 0 1 23) "u") None (Some (stmts.Value (number (at 0 1 27) "200"))) ∷ [])) ∷ net (at 0 1 32) sign.Unwritten (Some (range (at 0 1 37) (number (at 0 1 38) "8") (number (at 0 1 40) "0"))) (net_item (name (at 0 1 43) "y") (Some (tree.Binary binary_word.ShiftRight (at 0 1 57) (tree.Cast (cast.Width (at 0 1 47) (codes "9")) (tree.Binary binary_word.Plus (at 0 1 52) (plain (at 0 1 50) "u") (plain (at 0 1 54) "u"))) (number (at 0 1 60) "1"))) ∷ []) ∷ items.Decl (decl life.Unwritten (types.WrittenType.Vector (at 0 1 63) vector_word.Logic sign.Unwritten (Some (range (at 0 1 69) (plain (at 0 1 70) "q") (number (at 0 1 72) "0")))) (declarator (name (at 0 1 75) "h") None None ∷ [])) ∷ items.Assign (assign_item (target (at 0 1 85) "h") (tree.Binary binary_word.ShiftRight (at 0 1 99) (tree.Cast (cast.Width (at 0 1 89) (codes "9")) (tree.Binary binary_word.Plus (at 0 1 94) (plain (at 0 1 92) "u") (plain (at 0 1 96) "u"))) (number (at 0 1 102) "1")) ∷ []) ∷ items.Decl (decl life.Unwritten (types.WrittenType.Vector (at 0 1 105) vector_word.Logic sign.Unwritten (Some (range (at 0 1 111) (number (at 0 1 112) "3") (number (at 0 1 114) "0")))) (declarator (name (at 0 1 117) "q") (Some (stmts.Queue (at 0 1 118))) None ∷ [])) ∷ procedure (at 0 1 123) procedure_word.Initial (stmts.Statement (at 0 1 131) None (stmts.Block None [] (statements (stmts.Statement (at 0 1 137) None (stmts.Call (tree.Expr.Post (root.Plain (name (at 0 1 137) "q")) (tree.Member (name (at 0 1 139) "push_back") (tree.Call (at 0 1 148) (expressions (tree.Cast (cast.Width (at 0 1 149) (codes "4")) (tree.Binary binary_word.Plus (at 0 1 154) (plain (at 0 1 152) "u") (number (at 0 1 156) "8'd60")) ∷ [])) tree.NoSuffix)))) ∷ stmts.Statement (at 0 1 165) None (stmts.After (delay (at 0 1 165) (number (at 0 1 166) "1")) (stmts.Statement (at 0 1 168) None (stmts.Call (system (at 0 1 168) "$display" (text (at 0 1 177) "%0d %0d %0d" ∷ plain (at 0 1 192) "y" ∷ plain (at 0 1 195) "h" ∷ tree.Expr.Post (root.Plain (name (at 0 1 198) "q")) (tree.Select (at 0 1 199) (number (at 0 1 200) "0") tree.NoSuffix) ∷ []))))) ∷ stmts.Statement (at 0 1 205) None (stmts.Call (system (at 0 1 205) "$display" (text (at 0 1 214) "%0d" ∷ tree.Binary binary_word.Plus (at 0 1 236) (tree.Cast (cast.Atom (at 0 1 221) atom_word.Int) (tree.Cast (cast.Atom (at 0 1 226) atom_word.Byte) (plain (at 0 1 232) "u"))) (number (at 0 1 238) "1") ∷ []))) ∷ [])) None)) ∷ []) None ∷ []

t11_broken : broken t11 [] None ≡ Some (fault 11 0 1 70)
unfolding symbols_of word_of
t11_broken = refl

-- module t; logic [7:0] u = 200; wire [8'hff:0] y = 9'(u + u) >> 1; logic [7:0] h; assign h = 9'(u + u) >> 1; logic [3:0] q[$]; initial begin q.push_back(4'(u + 8'd60)); #1 $display("%0d %0d %0d", y, h, q[0]); $display("%0d", int'(byte'(u)) + 1); end endmodule
abbrev t12 : List Description
t12 = module_ (at 0 1 1) life.Unwritten (name (at 0 1 8) "t") None [] (items.Decl (decl life.Unwritten (types.WrittenType.Vector (at 0 1 11) vector_word.Logic sign.Unwritten (Some (range (at 0 1 17) (number (at 0 1 18) "7") (number (at 0 1 20) "0")))) (declarator (name (at 0 1 23) "u") None (Some (stmts.Value (number (at 0 1 27) "200"))) ∷ [])) ∷ net (at 0 1 32) sign.Unwritten (Some (range (at 0 1 37) (number (at 0 1 38) "8'hff") (number (at 0 1 44) "0"))) (net_item (name (at 0 1 47) "y") (Some (tree.Binary binary_word.ShiftRight (at 0 1 61) (tree.Cast (cast.Width (at 0 1 51) (codes "9")) (tree.Binary binary_word.Plus (at 0 1 56) (plain (at 0 1 54) "u") (plain (at 0 1 58) "u"))) (number (at 0 1 64) "1"))) ∷ []) ∷ items.Decl (decl life.Unwritten (types.WrittenType.Vector (at 0 1 67) vector_word.Logic sign.Unwritten (Some (range (at 0 1 73) (number (at 0 1 74) "7") (number (at 0 1 76) "0")))) (declarator (name (at 0 1 79) "h") None None ∷ [])) ∷ items.Assign (assign_item (target (at 0 1 89) "h") (tree.Binary binary_word.ShiftRight (at 0 1 103) (tree.Cast (cast.Width (at 0 1 93) (codes "9")) (tree.Binary binary_word.Plus (at 0 1 98) (plain (at 0 1 96) "u") (plain (at 0 1 100) "u"))) (number (at 0 1 106) "1")) ∷ []) ∷ items.Decl (decl life.Unwritten (types.WrittenType.Vector (at 0 1 109) vector_word.Logic sign.Unwritten (Some (range (at 0 1 115) (number (at 0 1 116) "3") (number (at 0 1 118) "0")))) (declarator (name (at 0 1 121) "q") (Some (stmts.Queue (at 0 1 122))) None ∷ [])) ∷ procedure (at 0 1 127) procedure_word.Initial (stmts.Statement (at 0 1 135) None (stmts.Block None [] (statements (stmts.Statement (at 0 1 141) None (stmts.Call (tree.Expr.Post (root.Plain (name (at 0 1 141) "q")) (tree.Member (name (at 0 1 143) "push_back") (tree.Call (at 0 1 152) (expressions (tree.Cast (cast.Width (at 0 1 153) (codes "4")) (tree.Binary binary_word.Plus (at 0 1 158) (plain (at 0 1 156) "u") (number (at 0 1 160) "8'd60")) ∷ [])) tree.NoSuffix)))) ∷ stmts.Statement (at 0 1 169) None (stmts.After (delay (at 0 1 169) (number (at 0 1 170) "1")) (stmts.Statement (at 0 1 172) None (stmts.Call (system (at 0 1 172) "$display" (text (at 0 1 181) "%0d %0d %0d" ∷ plain (at 0 1 196) "y" ∷ plain (at 0 1 199) "h" ∷ tree.Expr.Post (root.Plain (name (at 0 1 202) "q")) (tree.Select (at 0 1 203) (number (at 0 1 204) "0") tree.NoSuffix) ∷ []))))) ∷ stmts.Statement (at 0 1 209) None (stmts.Call (system (at 0 1 209) "$display" (text (at 0 1 218) "%0d" ∷ tree.Binary binary_word.Plus (at 0 1 240) (tree.Cast (cast.Atom (at 0 1 225) atom_word.Int) (tree.Cast (cast.Atom (at 0 1 230) atom_word.Byte) (plain (at 0 1 236) "u"))) (number (at 0 1 242) "1") ∷ []))) ∷ [])) None)) ∷ []) None ∷ []

t12_broken : broken t12 [] None ≡ Some (fault 13 0 1 37)
unfolding symbols_of word_of
t12_broken = refl

-- module t; parameter P = 3; logic [P'(1 + 1):0] v; logic [8'hff'(3'd7 + 3'd1):0] w; string s = string'("ab"); initial $display("%0d %0d %s", $bits(v), $bits(w), s); endmodule
abbrev t13 : List Description
t13 = module_ (at 0 1 1) life.Unwritten (name (at 0 1 8) "t") None [] (items.Param (param param_word.Parameter types.Unwritten (value (name (at 0 1 21) "P") (number (at 0 1 25) "3") ∷ [])) ∷ items.Decl (decl life.Unwritten (types.WrittenType.Vector (at 0 1 28) vector_word.Logic sign.Unwritten (Some (range (at 0 1 34) (tree.Cast (cast.Named (name (at 0 1 35) "P")) (tree.Binary binary_word.Plus (at 0 1 40) (number (at 0 1 38) "1") (number (at 0 1 42) "1"))) (number (at 0 1 45) "0")))) (declarator (name (at 0 1 48) "v") None None ∷ [])) ∷ items.Decl (decl life.Unwritten (types.WrittenType.Vector (at 0 1 51) vector_word.Logic sign.Unwritten (Some (range (at 0 1 57) (tree.Cast (cast.Width (at 0 1 58) (codes "8'hff")) (tree.Binary binary_word.Plus (at 0 1 70) (number (at 0 1 65) "3'd7") (number (at 0 1 72) "3'd1"))) (number (at 0 1 78) "0")))) (declarator (name (at 0 1 81) "w") None None ∷ [])) ∷ items.Decl (decl life.Unwritten (types.Text (at 0 1 84)) (declarator (name (at 0 1 91) "s") None (Some (stmts.Value (tree.Cast (cast.Text (at 0 1 95)) (text (at 0 1 103) "ab")))) ∷ [])) ∷ procedure (at 0 1 110) procedure_word.Initial (stmts.Statement (at 0 1 118) None (stmts.Call (system (at 0 1 118) "$display" (text (at 0 1 127) "%0d %0d %s" ∷ system (at 0 1 141) "$bits" (plain (at 0 1 147) "v" ∷ []) ∷ system (at 0 1 151) "$bits" (plain (at 0 1 157) "w" ∷ []) ∷ plain (at 0 1 161) "s" ∷ [])))) ∷ []) None ∷ []

t13_broken : broken t13 [] None ≡ Some (fault 13 0 1 58)
unfolding symbols_of word_of
t13_broken = refl

-- module t; parameter P = 3; logic [P'(1 + 1):1'bx] v; logic [4'(3'd7 + 3'd1):0] w; string s = string'("ab"); initial $display("%0d %0d %s", $bits(v), $bits(w), s); endmodule
abbrev t14 : List Description
t14 = module_ (at 0 1 1) life.Unwritten (name (at 0 1 8) "t") None [] (items.Param (param param_word.Parameter types.Unwritten (value (name (at 0 1 21) "P") (number (at 0 1 25) "3") ∷ [])) ∷ items.Decl (decl life.Unwritten (types.WrittenType.Vector (at 0 1 28) vector_word.Logic sign.Unwritten (Some (range (at 0 1 34) (tree.Cast (cast.Named (name (at 0 1 35) "P")) (tree.Binary binary_word.Plus (at 0 1 40) (number (at 0 1 38) "1") (number (at 0 1 42) "1"))) (number (at 0 1 45) "1'bx")))) (declarator (name (at 0 1 51) "v") None None ∷ [])) ∷ items.Decl (decl life.Unwritten (types.WrittenType.Vector (at 0 1 54) vector_word.Logic sign.Unwritten (Some (range (at 0 1 60) (tree.Cast (cast.Width (at 0 1 61) (codes "4")) (tree.Binary binary_word.Plus (at 0 1 69) (number (at 0 1 64) "3'd7") (number (at 0 1 71) "3'd1"))) (number (at 0 1 77) "0")))) (declarator (name (at 0 1 80) "w") None None ∷ [])) ∷ items.Decl (decl life.Unwritten (types.Text (at 0 1 83)) (declarator (name (at 0 1 90) "s") None (Some (stmts.Value (tree.Cast (cast.Text (at 0 1 94)) (text (at 0 1 102) "ab")))) ∷ [])) ∷ procedure (at 0 1 109) procedure_word.Initial (stmts.Statement (at 0 1 117) None (stmts.Call (system (at 0 1 117) "$display" (text (at 0 1 126) "%0d %0d %s" ∷ system (at 0 1 140) "$bits" (plain (at 0 1 146) "v" ∷ []) ∷ system (at 0 1 150) "$bits" (plain (at 0 1 156) "w" ∷ []) ∷ plain (at 0 1 160) "s" ∷ [])))) ∷ []) None ∷ []

t14_broken : broken t14 [] None ≡ Some (fault 12 0 1 45)
unfolding symbols_of word_of
t14_broken = refl

-- module t; initial begin enum {A = 1, B = 1} A; end endmodule
abbrev t15 : List Description
t15 = module_ (at 0 1 1) life.Unwritten (name (at 0 1 8) "t") None [] (procedure (at 0 1 11) procedure_word.Initial (stmts.Statement (at 0 1 19) None (stmts.Block None (decl life.Unwritten (types.Enum (at 0 1 25) (enum_item (name (at 0 1 31) "A") (Some (number (at 0 1 35) "1")) ∷ enum_item (name (at 0 1 38) "B") (Some (number (at 0 1 42) "1")) ∷ [])) (declarator (name (at 0 1 45) "A") None None ∷ []) ∷ []) stmts.NoStmt None)) ∷ []) None ∷ []

t15_broken : broken t15 [] None ≡ Some (fault 56 0 1 38)
unfolding symbols_of word_of
t15_broken = refl

-- module t; always begin enum {A = 1, B = 1} e; end endmodule
abbrev t16 : List Description
t16 = module_ (at 0 1 1) life.Unwritten (name (at 0 1 8) "t") None [] (procedure (at 0 1 11) procedure_word.Always (stmts.Statement (at 0 1 18) None (stmts.Block None (decl life.Unwritten (types.Enum (at 0 1 24) (enum_item (name (at 0 1 30) "A") (Some (number (at 0 1 34) "1")) ∷ enum_item (name (at 0 1 37) "B") (Some (number (at 0 1 41) "1")) ∷ [])) (declarator (name (at 0 1 44) "e") None None ∷ []) ∷ []) stmts.NoStmt None)) ∷ []) None ∷ []

t16_broken : broken t16 [] None ≡ Some (fault 56 0 1 37)
unfolding symbols_of word_of
t16_broken = refl

-- module e; enum bit [1:0] {A = 3, B} e; endmodule
abbrev t17 : List Description
t17 = module_ (at 0 1 1) life.Unwritten (name (at 0 1 8) "e") None [] (items.Decl (decl life.Unwritten (types.EnumOf (at 0 1 11) (types.WrittenType.Vector (at 0 1 16) vector_word.Bit sign.Unwritten (Some (range (at 0 1 20) (number (at 0 1 21) "1") (number (at 0 1 23) "0")))) (enum_item (name (at 0 1 27) "A") (Some (number (at 0 1 31) "3")) ∷ enum_item (name (at 0 1 34) "B") None ∷ [])) (declarator (name (at 0 1 37) "e") None None ∷ [])) ∷ []) None ∷ []

t17_broken : broken t17 [] None ≡ Some (fault 56 0 1 34)
unfolding symbols_of word_of
t17_broken = refl

-- module t; enum int {A = 1'bx} t; endmodule
abbrev t18 : List Description
t18 = module_ (at 0 1 1) life.Unwritten (name (at 0 1 8) "t") None [] (items.Decl (decl life.Unwritten (types.EnumOf (at 0 1 11) (types.Atom (at 0 1 16) atom_word.Int sign.Unwritten) (enum_item (name (at 0 1 21) "A") (Some (number (at 0 1 25) "1'bx")) ∷ [])) (declarator (name (at 0 1 31) "t") None None ∷ [])) ∷ []) None ∷ []

t18_broken : broken t18 [] None ≡ Some (fault 56 0 1 21)
unfolding symbols_of word_of
t18_broken = refl

-- module t; enum int {A = '1} e; endmodule
abbrev t19 : List Description
t19 = module_ (at 0 1 1) life.Unwritten (name (at 0 1 8) "t") None [] (items.Decl (decl life.Unwritten (types.EnumOf (at 0 1 11) (types.Atom (at 0 1 16) atom_word.Int sign.Unwritten) (enum_item (name (at 0 1 21) "A") (Some (number (at 0 1 25) "'1")) ∷ [])) (declarator (name (at 0 1 29) "e") None None ∷ [])) ∷ []) None ∷ []

t19_broken : broken t19 [] None ≡ Some (fault 56 0 1 21)
unfolding symbols_of word_of
t19_broken = refl

-- module t; enum int {A = 1'bx} zz; endmodule
abbrev t20 : List Description
t20 = module_ (at 0 1 1) life.Unwritten (name (at 0 1 8) "t") None [] (items.Decl (decl life.Unwritten (types.EnumOf (at 0 1 11) (types.Atom (at 0 1 16) atom_word.Int sign.Unwritten) (enum_item (name (at 0 1 21) "A") (Some (number (at 0 1 25) "1'bx")) ∷ [])) (declarator (name (at 0 1 31) "zz") None None ∷ [])) ∷ []) None ∷ []

t20_broken : broken t20 [] None ≡ Some (fault 56 0 1 21)
unfolding symbols_of word_of
t20_broken = refl

-- module t; enum bit {A = 1'bx} e; endmodule
abbrev t21 : List Description
t21 = module_ (at 0 1 1) life.Unwritten (name (at 0 1 8) "t") None [] (items.Decl (decl life.Unwritten (types.EnumOf (at 0 1 11) (types.WrittenType.Vector (at 0 1 16) vector_word.Bit sign.Unwritten None) (enum_item (name (at 0 1 21) "A") (Some (number (at 0 1 25) "1'bx")) ∷ [])) (declarator (name (at 0 1 31) "e") None None ∷ [])) ∷ []) None ∷ []

t21_broken : broken t21 [] None ≡ Some (fault 56 0 1 21)
unfolding symbols_of word_of
t21_broken = refl

-- module t; enum logic {A = 1'bx, B} t; endmodule
abbrev t22 : List Description
t22 = module_ (at 0 1 1) life.Unwritten (name (at 0 1 8) "t") None [] (items.Decl (decl life.Unwritten (types.EnumOf (at 0 1 11) (types.WrittenType.Vector (at 0 1 16) vector_word.Logic sign.Unwritten None) (enum_item (name (at 0 1 23) "A") (Some (number (at 0 1 27) "1'bx")) ∷ enum_item (name (at 0 1 33) "B") None ∷ [])) (declarator (name (at 0 1 36) "t") None None ∷ [])) ∷ []) None ∷ []

t22_broken : broken t22 [] None ≡ Some (fault 56 0 1 33)
unfolding symbols_of word_of
t22_broken = refl

-- module zz; int a[4194304]; int b[1]; endmodule
abbrev t23 : List Description
t23 = module_ (at 0 1 1) life.Unwritten (name (at 0 1 8) "zz") None [] (items.Decl (decl life.Unwritten (types.Atom (at 0 1 12) atom_word.Int sign.Unwritten) (declarator (name (at 0 1 16) "a") (Some (stmts.Size (at 0 1 17) (number (at 0 1 18) "4194304"))) None ∷ [])) ∷ items.Decl (decl life.Unwritten (types.Atom (at 0 1 28) atom_word.Int sign.Unwritten) (declarator (name (at 0 1 32) "b") (Some (stmts.Size (at 0 1 33) (number (at 0 1 34) "1"))) None ∷ [])) ∷ []) None ∷ []

t23_broken : broken t23 [] None ≡ Some (fault 44 0 1 32)
unfolding symbols_of word_of
t23_broken = refl

-- module a; int a[4194304]; int b[1]; endmodule
abbrev t24 : List Description
t24 = module_ (at 0 1 1) life.Unwritten (name (at 0 1 8) "a") None [] (items.Decl (decl life.Unwritten (types.Atom (at 0 1 11) atom_word.Int sign.Unwritten) (declarator (name (at 0 1 15) "a") (Some (stmts.Size (at 0 1 16) (number (at 0 1 17) "4194304"))) None ∷ [])) ∷ items.Decl (decl life.Unwritten (types.Atom (at 0 1 27) atom_word.Int sign.Unwritten) (declarator (name (at 0 1 31) "b") (Some (stmts.Size (at 0 1 32) (number (at 0 1 33) "1"))) None ∷ [])) ∷ []) None ∷ []

t24_broken : broken t24 [] None ≡ Some (fault 44 0 1 31)
unfolding symbols_of word_of
t24_broken = refl

-- module t; int a[4194304]; int unsigned b[1]; endmodule
abbrev t25 : List Description
t25 = module_ (at 0 1 1) life.Unwritten (name (at 0 1 8) "t") None [] (items.Decl (decl life.Unwritten (types.Atom (at 0 1 11) atom_word.Int sign.Unwritten) (declarator (name (at 0 1 15) "a") (Some (stmts.Size (at 0 1 16) (number (at 0 1 17) "4194304"))) None ∷ [])) ∷ items.Decl (decl life.Unwritten (types.Atom (at 0 1 27) atom_word.Int sign.Unsigned) (declarator (name (at 0 1 40) "b") (Some (stmts.Size (at 0 1 41) (number (at 0 1 42) "1"))) None ∷ [])) ∷ []) None ∷ []

t25_broken : broken t25 [] None ≡ Some (fault 44 0 1 40)
unfolding symbols_of word_of
t25_broken = refl

-- module t; int unsigned a[4194305]; endmodule
abbrev t26 : List Description
t26 = module_ (at 0 1 1) life.Unwritten (name (at 0 1 8) "t") None [] (items.Decl (decl life.Unwritten (types.Atom (at 0 1 11) atom_word.Int sign.Unsigned) (declarator (name (at 0 1 24) "a") (Some (stmts.Size (at 0 1 25) (number (at 0 1 26) "4194305"))) None ∷ [])) ∷ []) None ∷ []

t26_broken : broken t26 [] None ≡ Some (fault 44 0 1 24)
unfolding symbols_of word_of
t26_broken = refl

-- module t; int t[4194305]; endmodule
abbrev t27 : List Description
t27 = module_ (at 0 1 1) life.Unwritten (name (at 0 1 8) "t") None [] (items.Decl (decl life.Unwritten (types.Atom (at 0 1 11) atom_word.Int sign.Unwritten) (declarator (name (at 0 1 15) "t") (Some (stmts.Size (at 0 1 16) (number (at 0 1 17) "4194305"))) None ∷ [])) ∷ []) None ∷ []

t27_broken : broken t27 [] None ≡ Some (fault 44 0 1 15)
unfolding symbols_of word_of
t27_broken = refl

-- module t; logic a[4194305]; endmodule
abbrev t28 : List Description
t28 = module_ (at 0 1 1) life.Unwritten (name (at 0 1 8) "t") None [] (items.Decl (decl life.Unwritten (types.WrittenType.Vector (at 0 1 11) vector_word.Logic sign.Unwritten None) (declarator (name (at 0 1 17) "a") (Some (stmts.Size (at 0 1 18) (number (at 0 1 19) "4194305"))) None ∷ [])) ∷ []) None ∷ []

t28_broken : broken t28 [] None ≡ Some (fault 44 0 1 17)
unfolding symbols_of word_of
t28_broken = refl

-- module t; int a[4194303], b; int c[2]; initial x = 8'hff; endmodule
abbrev t29 : List Description
t29 = module_ (at 0 1 1) life.Unwritten (name (at 0 1 8) "t") None [] (items.Decl (decl life.Unwritten (types.Atom (at 0 1 11) atom_word.Int sign.Unwritten) (declarator (name (at 0 1 15) "a") (Some (stmts.Size (at 0 1 16) (number (at 0 1 17) "4194303"))) None ∷ declarator (name (at 0 1 27) "b") None None ∷ [])) ∷ items.Decl (decl life.Unwritten (types.Atom (at 0 1 30) atom_word.Int sign.Unwritten) (declarator (name (at 0 1 34) "c") (Some (stmts.Size (at 0 1 35) (number (at 0 1 36) "2"))) None ∷ [])) ∷ procedure (at 0 1 40) procedure_word.Initial (stmts.Statement (at 0 1 48) None (blocking (target (at 0 1 48) "x") None (stmts.Value (number (at 0 1 52) "8'hff")))) ∷ []) None ∷ []

t29_broken : broken t29 [] None ≡ Some (fault 44 0 1 34)
unfolding symbols_of word_of
t29_broken = refl

-- module t; int a[4194303], b; int c[2]; initial x <= 1; endmodule
abbrev t30 : List Description
t30 = module_ (at 0 1 1) life.Unwritten (name (at 0 1 8) "t") None [] (items.Decl (decl life.Unwritten (types.Atom (at 0 1 11) atom_word.Int sign.Unwritten) (declarator (name (at 0 1 15) "a") (Some (stmts.Size (at 0 1 16) (number (at 0 1 17) "4194303"))) None ∷ declarator (name (at 0 1 27) "b") None None ∷ [])) ∷ items.Decl (decl life.Unwritten (types.Atom (at 0 1 30) atom_word.Int sign.Unwritten) (declarator (name (at 0 1 34) "c") (Some (stmts.Size (at 0 1 35) (number (at 0 1 36) "2"))) None ∷ [])) ∷ procedure (at 0 1 40) procedure_word.Initial (stmts.Statement (at 0 1 48) None (nonblocking (target (at 0 1 48) "x") None (number (at 0 1 53) "1"))) ∷ []) None ∷ []

t30_broken : broken t30 [] None ≡ Some (fault 44 0 1 34)
unfolding symbols_of word_of
t30_broken = refl

-- module u; int a[2097153]; endmodule module t; x x(), y(); int z; endmodule
abbrev t31 : List Description
t31 = module_ (at 0 1 1) life.Unwritten (name (at 0 1 8) "u") None [] (items.Decl (decl life.Unwritten (types.Atom (at 0 1 11) atom_word.Int sign.Unwritten) (declarator (name (at 0 1 15) "a") (Some (stmts.Size (at 0 1 16) (number (at 0 1 17) "2097153"))) None ∷ [])) ∷ []) None ∷ module_ (at 0 1 37) life.Unwritten (name (at 0 1 44) "t") None [] (instances (name (at 0 1 47) "x") [] (instance (name (at 0 1 49) "x") [] ∷ instance (name (at 0 1 54) "y") [] ∷ []) ∷ items.Decl (decl life.Unwritten (types.Atom (at 0 1 59) atom_word.Int sign.Unwritten) (declarator (name (at 0 1 63) "z") None None ∷ [])) ∷ []) None ∷ []

t31_broken : broken t31 [] None ≡ Some (fault 2 0 1 47)
unfolding symbols_of word_of
t31_broken = refl

-- virtual class S; pure virtual function int area(); endclass class R extends S; int area;  function int area(); return 1; endfunction endclass module t; endmodule
abbrev t32 : List Description
t32 = descriptions.Item (items.Class (class_ (at 0 1 1) true (name (at 0 1 15) "S") None (pure_method (at 0 1 18) (head (at 0 1 31) life.Unwritten (units.Returns.Value (types.Written (types.Atom (at 0 1 40) atom_word.Int sign.Unwritten))) (name (at 0 1 44) "area") []) ∷ []) None)) ∷ descriptions.Item (items.Class (class_ (at 0 1 61) false (name (at 0 1 67) "R") (Some (name (at 0 1 77) "S")) (property unqualified (decl life.Unwritten (types.Atom (at 0 1 80) atom_word.Int sign.Unwritten) (declarator (name (at 0 1 84) "area") None None ∷ [])) ∷ method unqualified (routine (head (at 0 1 91) life.Unwritten (units.Returns.Value (types.Written (types.Atom (at 0 1 100) atom_word.Int sign.Unwritten))) (name (at 0 1 104) "area") []) [] (stmts.Statement (at 0 1 112) None (stmts.Return (Some (number (at 0 1 119) "1"))) ∷ []) None) ∷ []) None)) ∷ module_ (at 0 1 143) life.Unwritten (name (at 0 1 150) "t") None [] [] None ∷ []

t32_broken : broken t32 [] None ≡ Some (fault 35 0 1 67)
unfolding symbols_of word_of
t32_broken = refl

-- module t; initial begin automatic logic k; $strobe("%d", k); end endmodule
abbrev t33 : List Description
t33 = module_ (at 0 1 1) life.Unwritten (name (at 0 1 8) "t") None [] (procedure (at 0 1 11) procedure_word.Initial (stmts.Statement (at 0 1 19) None (stmts.Block None (decl life.Automatic (types.WrittenType.Vector (at 0 1 35) vector_word.Logic sign.Unwritten None) (declarator (name (at 0 1 41) "k") None None ∷ []) ∷ []) (statements (stmts.Statement (at 0 1 44) None (stmts.Call (system (at 0 1 44) "$strobe" (text (at 0 1 52) "%d" ∷ plain (at 0 1 58) "k" ∷ []))) ∷ [])) None)) ∷ []) None ∷ []

t33_broken : broken t33 [] None ≡ Some (fault 51 0 1 58)
unfolding symbols_of word_of
t33_broken = refl

-- program p(input logic c, d, output logic [3:0] y); clocking cb @(posedge c); input d; input cb; endclocking endprogram
abbrev t34 : List Description
t34 = program_ (at 0 1 1) life.Unwritten (name (at 0 1 9) "p") None (port (Some port_direction.Input) false (types.Written (types.WrittenType.Vector (at 0 1 17) vector_word.Logic sign.Unwritten None)) (name (at 0 1 23) "c") ∷ port None false types.Unwritten (name (at 0 1 26) "d") ∷ port (Some port_direction.Output) false (types.Written (types.WrittenType.Vector (at 0 1 36) vector_word.Logic sign.Unwritten (Some (range (at 0 1 42) (number (at 0 1 43) "3") (number (at 0 1 45) "0"))))) (name (at 0 1 48) "y") ∷ []) (clocking None (name (at 0 1 61) "cb") edge.Posedge (name (at 0 1 74) "c") (units.Signals (sided direction.Input None ∷ []) (name (at 0 1 84) "d" ∷ []) ∷ units.Signals (sided direction.Input None ∷ []) (name (at 0 1 93) "cb" ∷ []) ∷ []) None ∷ []) None ∷ []

t34_broken : broken t34 [] None ≡ Some (fault 46 0 1 93)
unfolding symbols_of word_of
t34_broken = refl

-- program p(input logic c, d, output logic [3:'1] y); clocking cb @(posedge c); input d; output cb; endclocking endprogram
abbrev t35 : List Description
t35 = program_ (at 0 1 1) life.Unwritten (name (at 0 1 9) "p") None (port (Some port_direction.Input) false (types.Written (types.WrittenType.Vector (at 0 1 17) vector_word.Logic sign.Unwritten None)) (name (at 0 1 23) "c") ∷ port None false types.Unwritten (name (at 0 1 26) "d") ∷ port (Some port_direction.Output) false (types.Written (types.WrittenType.Vector (at 0 1 36) vector_word.Logic sign.Unwritten (Some (range (at 0 1 42) (number (at 0 1 43) "3") (number (at 0 1 45) "'1"))))) (name (at 0 1 49) "y") ∷ []) (clocking None (name (at 0 1 62) "cb") edge.Posedge (name (at 0 1 75) "c") (units.Signals (sided direction.Input None ∷ []) (name (at 0 1 85) "d" ∷ []) ∷ units.Signals (sided direction.Output None ∷ []) (name (at 0 1 95) "cb" ∷ []) ∷ []) None ∷ []) None ∷ []

t35_broken : broken t35 [] None ≡ Some (fault 46 0 1 95)
unfolding symbols_of word_of
t35_broken = refl

-- program p(input logic c, d); clocking cb @(posedge c); output cc; endclocking clocking cc @(posedge c); input cb; endclocking endprogram
abbrev t36 : List Description
t36 = program_ (at 0 1 1) life.Unwritten (name (at 0 1 9) "p") None (port (Some port_direction.Input) false (types.Written (types.WrittenType.Vector (at 0 1 17) vector_word.Logic sign.Unwritten None)) (name (at 0 1 23) "c") ∷ port None false types.Unwritten (name (at 0 1 26) "d") ∷ []) (clocking None (name (at 0 1 39) "cb") edge.Posedge (name (at 0 1 52) "c") (units.Signals (sided direction.Output None ∷ []) (name (at 0 1 63) "cc" ∷ []) ∷ []) None ∷ clocking None (name (at 0 1 88) "cc") edge.Posedge (name (at 0 1 101) "c") (units.Signals (sided direction.Input None ∷ []) (name (at 0 1 111) "cb" ∷ []) ∷ []) None ∷ []) None ∷ []

t36_broken : broken t36 [] None ≡ Some (fault 46 0 1 63)
unfolding symbols_of word_of
t36_broken = refl

-- program p(output logic c, d); clocking cb @(posedge c); input cc; endclocking clocking cc @(posedge c); input cb; endclocking endprogram
abbrev t37 : List Description
t37 = program_ (at 0 1 1) life.Unwritten (name (at 0 1 9) "p") None (port (Some port_direction.Output) false (types.Written (types.WrittenType.Vector (at 0 1 18) vector_word.Logic sign.Unwritten None)) (name (at 0 1 24) "c") ∷ port None false types.Unwritten (name (at 0 1 27) "d") ∷ []) (clocking None (name (at 0 1 40) "cb") edge.Posedge (name (at 0 1 53) "c") (units.Signals (sided direction.Input None ∷ []) (name (at 0 1 63) "cc" ∷ []) ∷ []) None ∷ clocking None (name (at 0 1 88) "cc") edge.Posedge (name (at 0 1 101) "c") (units.Signals (sided direction.Input None ∷ []) (name (at 0 1 111) "cb" ∷ []) ∷ []) None ∷ []) None ∷ []

t37_broken : broken t37 [] None ≡ Some (fault 46 0 1 63)
unfolding symbols_of word_of
t37_broken = refl

-- program p(input semaphore c, d); clocking cb @(cb); input d; endclocking endprogram
abbrev t38 : List Description
t38 = program_ (at 0 1 1) life.Unwritten (name (at 0 1 9) "p") None (port (Some port_direction.Input) false (types.Written (types.Semaphore (at 0 1 17))) (name (at 0 1 27) "c") ∷ port None false types.Unwritten (name (at 0 1 30) "d") ∷ []) (clocking None (name (at 0 1 43) "cb") edge.Unwritten (name (at 0 1 48) "cb") (units.Signals (sided direction.Input None ∷ []) (name (at 0 1 59) "d" ∷ []) ∷ []) None ∷ []) None ∷ []

t38_broken : broken t38 [] None ≡ Some (fault 45 0 1 48)
unfolding symbols_of word_of
t38_broken = refl
