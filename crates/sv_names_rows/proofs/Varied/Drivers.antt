-- Texts that differ in a word or two from others: what drives and writes signals.
use Rattle.std.proofs.Common.{◌≡◌, List, [], ◌∷◌, true, false, refl}
use Rattle.std.specs.Prelude.{Some, None}
use Rattle.sv_value.specs.Vector.{symbols_of, word_of}
use Rattle.sv_tree.specs.declared.word.UnaryWord.TheVariants as unary_word
use Rattle.sv_tree.specs.declared.word.BinaryWord.TheVariants as binary_word
use Rattle.sv_tree.specs.declared.word.VectorWord.TheVariants as vector_word
use Rattle.sv_tree.specs.declared.word.AtomWord.TheVariants as atom_word
use Rattle.sv_tree.specs.declared.word.Sign.TheVariants as sign
use Rattle.sv_tree.specs.declared.word.Life.TheVariants as life
use Rattle.sv_tree.specs.declared.word.EdgeWord.TheVariants as edge
use Rattle.sv_tree.specs.declared.word.StepWord.TheVariants as step_word
use Rattle.sv_tree.specs.declared.word.ProcedureWord.TheVariants as procedure_word
use Rattle.sv_tree.specs.declared.word.PortDirection.TheVariants as port_direction
use Rattle.sv_tree.specs.declared.expr.Root.TheVariants as root
use Rattle.sv_tree.specs.Expr as tree
use Rattle.sv_tree.specs.Types as types
use Rattle.sv_tree.specs.Stmt as stmts
use Rattle.sv_tree.specs.Units as units
use Rattle.sv_tree.specs.Items as items
use Rattle.sv_tree.specs.Descriptions as descriptions
use Rattle.sv_tree.specs.Descriptions.{Description}
use Rattle.sv_names.specs.Design.{broken}
use Rattle.sv_names_rows.proofs.Kit.{argument, assign_item, at, blocking, class_, decl, declarator, delay, enum_item, event_part, expressions, fault, head, instance, instances, method, module_, name, net, net_item, nonblocking, number, operated, plain, port, procedure, property, qualifiers, range, routine, statements, system, target, targets, text, unqualified}

-- module t; logic [3:0] a, b; logic a; always @* c = a[1] & b[0]; initial begin a = 0; b = 1; #1 a[1] = 1; #1 $display("%b", c); end endmodule
abbrev t1 : List Description
t1 = module_ (at 0 1 1) life.Unwritten (name (at 0 1 8) "t") None [] (items.Decl (decl life.Unwritten (types.WrittenType.Vector (at 0 1 11) vector_word.Logic sign.Unwritten (Some (range (at 0 1 17) (number (at 0 1 18) "3") (number (at 0 1 20) "0")))) (declarator (name (at 0 1 23) "a") None None ∷ declarator (name (at 0 1 26) "b") None None ∷ [])) ∷ items.Decl (decl life.Unwritten (types.WrittenType.Vector (at 0 1 29) vector_word.Logic sign.Unwritten None) (declarator (name (at 0 1 35) "a") None None ∷ [])) ∷ procedure (at 0 1 38) procedure_word.Always (stmts.Statement (at 0 1 45) None (stmts.On stmts.Star (stmts.Statement (at 0 1 48) None (blocking (target (at 0 1 48) "c") None (stmts.Value (tree.Binary binary_word.And (at 0 1 57) (tree.Expr.Post (root.Plain (name (at 0 1 52) "a")) (tree.Select (at 0 1 53) (number (at 0 1 54) "1") tree.NoSuffix)) (tree.Expr.Post (root.Plain (name (at 0 1 59) "b")) (tree.Select (at 0 1 60) (number (at 0 1 61) "0") tree.NoSuffix)))))))) ∷ procedure (at 0 1 65) procedure_word.Initial (stmts.Statement (at 0 1 73) None (stmts.Block None [] (statements (stmts.Statement (at 0 1 79) None (blocking (target (at 0 1 79) "a") None (stmts.Value (number (at 0 1 83) "0"))) ∷ stmts.Statement (at 0 1 86) None (blocking (target (at 0 1 86) "b") None (stmts.Value (number (at 0 1 90) "1"))) ∷ stmts.Statement (at 0 1 93) None (stmts.After (delay (at 0 1 93) (number (at 0 1 94) "1")) (stmts.Statement (at 0 1 96) None (blocking (tree.Lval.Post (root.Plain (name (at 0 1 96) "a")) (tree.Select (at 0 1 97) (number (at 0 1 98) "1") tree.NoSuffix)) None (stmts.Value (number (at 0 1 103) "1"))))) ∷ stmts.Statement (at 0 1 106) None (stmts.After (delay (at 0 1 106) (number (at 0 1 107) "1")) (stmts.Statement (at 0 1 109) None (stmts.Call (system (at 0 1 109) "$display" (text (at 0 1 118) "%b" ∷ plain (at 0 1 124) "c" ∷ []))))) ∷ [])) None)) ∷ []) None ∷ []

t1_broken : broken t1 [] None ≡ Some (fault 5 0 1 35)
unfolding symbols_of word_of
t1_broken = refl

-- module t; logic [3:0] a, b; logic c; always @* c = a[1] & c[0]; initial begin a = 0; b = 1; #1 a[1] = 1; #1 $display("%b", c); end endmodule
abbrev t2 : List Description
t2 = module_ (at 0 1 1) life.Unwritten (name (at 0 1 8) "t") None [] (items.Decl (decl life.Unwritten (types.WrittenType.Vector (at 0 1 11) vector_word.Logic sign.Unwritten (Some (range (at 0 1 17) (number (at 0 1 18) "3") (number (at 0 1 20) "0")))) (declarator (name (at 0 1 23) "a") None None ∷ declarator (name (at 0 1 26) "b") None None ∷ [])) ∷ items.Decl (decl life.Unwritten (types.WrittenType.Vector (at 0 1 29) vector_word.Logic sign.Unwritten None) (declarator (name (at 0 1 35) "c") None None ∷ [])) ∷ procedure (at 0 1 38) procedure_word.Always (stmts.Statement (at 0 1 45) None (stmts.On stmts.Star (stmts.Statement (at 0 1 48) None (blocking (target (at 0 1 48) "c") None (stmts.Value (tree.Binary binary_word.And (at 0 1 57) (tree.Expr.Post (root.Plain (name (at 0 1 52) "a")) (tree.Select (at 0 1 53) (number (at 0 1 54) "1") tree.NoSuffix)) (tree.Expr.Post (root.Plain (name (at 0 1 59) "c")) (tree.Select (at 0 1 60) (number (at 0 1 61) "0") tree.NoSuffix)))))))) ∷ procedure (at 0 1 65) procedure_word.Initial (stmts.Statement (at 0 1 73) None (stmts.Block None [] (statements (stmts.Statement (at 0 1 79) None (blocking (target (at 0 1 79) "a") None (stmts.Value (number (at 0 1 83) "0"))) ∷ stmts.Statement (at 0 1 86) None (blocking (target (at 0 1 86) "b") None (stmts.Value (number (at 0 1 90) "1"))) ∷ stmts.Statement (at 0 1 93) None (stmts.After (delay (at 0 1 93) (number (at 0 1 94) "1")) (stmts.Statement (at 0 1 96) None (blocking (tree.Lval.Post (root.Plain (name (at 0 1 96) "a")) (tree.Select (at 0 1 97) (number (at 0 1 98) "1") tree.NoSuffix)) None (stmts.Value (number (at 0 1 103) "1"))))) ∷ stmts.Statement (at 0 1 106) None (stmts.After (delay (at 0 1 106) (number (at 0 1 107) "1")) (stmts.Statement (at 0 1 109) None (stmts.Call (system (at 0 1 109) "$display" (text (at 0 1 118) "%b" ∷ plain (at 0 1 124) "c" ∷ []))))) ∷ [])) None)) ∷ []) None ∷ []

t2_broken : broken t2 [] None ≡ Some (fault 14 0 1 60)
unfolding symbols_of word_of
t2_broken = refl

-- module t; logic [3:0] a, b; logic b; always @* c = a[1] & b[0]; initial begin a = 0; b = 1; #1 a[1] = 1; #1 $display("%b", c); end endmodule
abbrev t3 : List Description
t3 = module_ (at 0 1 1) life.Unwritten (name (at 0 1 8) "t") None [] (items.Decl (decl life.Unwritten (types.WrittenType.Vector (at 0 1 11) vector_word.Logic sign.Unwritten (Some (range (at 0 1 17) (number (at 0 1 18) "3") (number (at 0 1 20) "0")))) (declarator (name (at 0 1 23) "a") None None ∷ declarator (name (at 0 1 26) "b") None None ∷ [])) ∷ items.Decl (decl life.Unwritten (types.WrittenType.Vector (at 0 1 29) vector_word.Logic sign.Unwritten None) (declarator (name (at 0 1 35) "b") None None ∷ [])) ∷ procedure (at 0 1 38) procedure_word.Always (stmts.Statement (at 0 1 45) None (stmts.On stmts.Star (stmts.Statement (at 0 1 48) None (blocking (target (at 0 1 48) "c") None (stmts.Value (tree.Binary binary_word.And (at 0 1 57) (tree.Expr.Post (root.Plain (name (at 0 1 52) "a")) (tree.Select (at 0 1 53) (number (at 0 1 54) "1") tree.NoSuffix)) (tree.Expr.Post (root.Plain (name (at 0 1 59) "b")) (tree.Select (at 0 1 60) (number (at 0 1 61) "0") tree.NoSuffix)))))))) ∷ procedure (at 0 1 65) procedure_word.Initial (stmts.Statement (at 0 1 73) None (stmts.Block None [] (statements (stmts.Statement (at 0 1 79) None (blocking (target (at 0 1 79) "a") None (stmts.Value (number (at 0 1 83) "0"))) ∷ stmts.Statement (at 0 1 86) None (blocking (target (at 0 1 86) "b") None (stmts.Value (number (at 0 1 90) "1"))) ∷ stmts.Statement (at 0 1 93) None (stmts.After (delay (at 0 1 93) (number (at 0 1 94) "1")) (stmts.Statement (at 0 1 96) None (blocking (tree.Lval.Post (root.Plain (name (at 0 1 96) "a")) (tree.Select (at 0 1 97) (number (at 0 1 98) "1") tree.NoSuffix)) None (stmts.Value (number (at 0 1 103) "1"))))) ∷ stmts.Statement (at 0 1 106) None (stmts.After (delay (at 0 1 106) (number (at 0 1 107) "1")) (stmts.Statement (at 0 1 109) None (stmts.Call (system (at 0 1 109) "$display" (text (at 0 1 118) "%b" ∷ plain (at 0 1 124) "c" ∷ []))))) ∷ [])) None)) ∷ []) None ∷ []

t3_broken : broken t3 [] None ≡ Some (fault 5 0 1 35)
unfolding symbols_of word_of
t3_broken = refl

-- module t; logic [3:0] a, b; logic c; always @* c = a[1] & b[0]; initial begin a = 0; b = 1; #1 a[null] = 1; #1 $display("%b", c); end endmodule
abbrev t4 : List Description
t4 = module_ (at 0 1 1) life.Unwritten (name (at 0 1 8) "t") None [] (items.Decl (decl life.Unwritten (types.WrittenType.Vector (at 0 1 11) vector_word.Logic sign.Unwritten (Some (range (at 0 1 17) (number (at 0 1 18) "3") (number (at 0 1 20) "0")))) (declarator (name (at 0 1 23) "a") None None ∷ declarator (name (at 0 1 26) "b") None None ∷ [])) ∷ items.Decl (decl life.Unwritten (types.WrittenType.Vector (at 0 1 29) vector_word.Logic sign.Unwritten None) (declarator (name (at 0 1 35) "c") None None ∷ [])) ∷ procedure (at 0 1 38) procedure_word.Always (stmts.Statement (at 0 1 45) None (stmts.On stmts.Star (stmts.Statement (at 0 1 48) None (blocking (target (at 0 1 48) "c") None (stmts.Value (tree.Binary binary_word.And (at 0 1 57) (tree.Expr.Post (root.Plain (name (at 0 1 52) "a")) (tree.Select (at 0 1 53) (number (at 0 1 54) "1") tree.NoSuffix)) (tree.Expr.Post (root.Plain (name (at 0 1 59) "b")) (tree.Select (at 0 1 60) (number (at 0 1 61) "0") tree.NoSuffix)))))))) ∷ procedure (at 0 1 65) procedure_word.Initial (stmts.Statement (at 0 1 73) None (stmts.Block None [] (statements (stmts.Statement (at 0 1 79) None (blocking (target (at 0 1 79) "a") None (stmts.Value (number (at 0 1 83) "0"))) ∷ stmts.Statement (at 0 1 86) None (blocking (target (at 0 1 86) "b") None (stmts.Value (number (at 0 1 90) "1"))) ∷ stmts.Statement (at 0 1 93) None (stmts.After (delay (at 0 1 93) (number (at 0 1 94) "1")) (stmts.Statement (at 0 1 96) None (blocking (tree.Lval.Post (root.Plain (name (at 0 1 96) "a")) (tree.Select (at 0 1 97) (tree.Null (at 0 1 98)) tree.NoSuffix)) None (stmts.Value (number (at 0 1 106) "1"))))) ∷ stmts.Statement (at 0 1 109) None (stmts.After (delay (at 0 1 109) (number (at 0 1 110) "1")) (stmts.Statement (at 0 1 112) None (stmts.Call (system (at 0 1 112) "$display" (text (at 0 1 121) "%b" ∷ plain (at 0 1 127) "c" ∷ []))))) ∷ [])) None)) ∷ []) None ∷ []

t4_broken : broken t4 [] None ≡ Some (fault 42 0 1 98)
unfolding symbols_of word_of
t4_broken = refl

-- module t; logic [3:0] a, b; logic c; always @* c = a[1] & b[0]; always_comb begin a = 0; b = 1; #1 a[1] = 1; #1 $display("%b", c); end endmodule
abbrev t5 : List Description
t5 = module_ (at 0 1 1) life.Unwritten (name (at 0 1 8) "t") None [] (items.Decl (decl life.Unwritten (types.WrittenType.Vector (at 0 1 11) vector_word.Logic sign.Unwritten (Some (range (at 0 1 17) (number (at 0 1 18) "3") (number (at 0 1 20) "0")))) (declarator (name (at 0 1 23) "a") None None ∷ declarator (name (at 0 1 26) "b") None None ∷ [])) ∷ items.Decl (decl life.Unwritten (types.WrittenType.Vector (at 0 1 29) vector_word.Logic sign.Unwritten None) (declarator (name (at 0 1 35) "c") None None ∷ [])) ∷ procedure (at 0 1 38) procedure_word.Always (stmts.Statement (at 0 1 45) None (stmts.On stmts.Star (stmts.Statement (at 0 1 48) None (blocking (target (at 0 1 48) "c") None (stmts.Value (tree.Binary binary_word.And (at 0 1 57) (tree.Expr.Post (root.Plain (name (at 0 1 52) "a")) (tree.Select (at 0 1 53) (number (at 0 1 54) "1") tree.NoSuffix)) (tree.Expr.Post (root.Plain (name (at 0 1 59) "b")) (tree.Select (at 0 1 60) (number (at 0 1 61) "0") tree.NoSuffix)))))))) ∷ procedure (at 0 1 65) procedure_word.AlwaysComb (stmts.Statement (at 0 1 77) None (stmts.Block None [] (statements (stmts.Statement (at 0 1 83) None (blocking (target (at 0 1 83) "a") None (stmts.Value (number (at 0 1 87) "0"))) ∷ stmts.Statement (at 0 1 90) None (blocking (target (at 0 1 90) "b") None (stmts.Value (number (at 0 1 94) "1"))) ∷ stmts.Statement (at 0 1 97) None (stmts.After (delay (at 0 1 97) (number (at 0 1 98) "1")) (stmts.Statement (at 0 1 100) None (blocking (tree.Lval.Post (root.Plain (name (at 0 1 100) "a")) (tree.Select (at 0 1 101) (number (at 0 1 102) "1") tree.NoSuffix)) None (stmts.Value (number (at 0 1 107) "1"))))) ∷ stmts.Statement (at 0 1 110) None (stmts.After (delay (at 0 1 110) (number (at 0 1 111) "1")) (stmts.Statement (at 0 1 113) None (stmts.Call (system (at 0 1 113) "$display" (text (at 0 1 122) "%b" ∷ plain (at 0 1 128) "c" ∷ []))))) ∷ [])) None)) ∷ []) None ∷ []

t5_broken : broken t5 [] None ≡ Some (fault 27 0 1 97)
unfolding symbols_of word_of
t5_broken = refl

-- module t; logic [70:0] a, b; logic c; always @* c = a[1] & b[0]; initial begin a = 0; b = 1; #1 a[1] = 1; #1 $display("%b", c); end endmodule
abbrev t6 : List Description
t6 = module_ (at 0 1 1) life.Unwritten (name (at 0 1 8) "t") None [] (items.Decl (decl life.Unwritten (types.WrittenType.Vector (at 0 1 11) vector_word.Logic sign.Unwritten (Some (range (at 0 1 17) (number (at 0 1 18) "70") (number (at 0 1 21) "0")))) (declarator (name (at 0 1 24) "a") None None ∷ declarator (name (at 0 1 27) "b") None None ∷ [])) ∷ items.Decl (decl life.Unwritten (types.WrittenType.Vector (at 0 1 30) vector_word.Logic sign.Unwritten None) (declarator (name (at 0 1 36) "c") None None ∷ [])) ∷ procedure (at 0 1 39) procedure_word.Always (stmts.Statement (at 0 1 46) None (stmts.On stmts.Star (stmts.Statement (at 0 1 49) None (blocking (target (at 0 1 49) "c") None (stmts.Value (tree.Binary binary_word.And (at 0 1 58) (tree.Expr.Post (root.Plain (name (at 0 1 53) "a")) (tree.Select (at 0 1 54) (number (at 0 1 55) "1") tree.NoSuffix)) (tree.Expr.Post (root.Plain (name (at 0 1 60) "b")) (tree.Select (at 0 1 61) (number (at 0 1 62) "0") tree.NoSuffix)))))))) ∷ procedure (at 0 1 66) procedure_word.Initial (stmts.Statement (at 0 1 74) None (stmts.Block None [] (statements (stmts.Statement (at 0 1 80) None (blocking (target (at 0 1 80) "a") None (stmts.Value (number (at 0 1 84) "0"))) ∷ stmts.Statement (at 0 1 87) None (blocking (target (at 0 1 87) "b") None (stmts.Value (number (at 0 1 91) "1"))) ∷ stmts.Statement (at 0 1 94) None (stmts.After (delay (at 0 1 94) (number (at 0 1 95) "1")) (stmts.Statement (at 0 1 97) None (blocking (tree.Lval.Post (root.Plain (name (at 0 1 97) "a")) (tree.Select (at 0 1 98) (number (at 0 1 99) "1") tree.NoSuffix)) None (stmts.Value (number (at 0 1 104) "1"))))) ∷ stmts.Statement (at 0 1 107) None (stmts.After (delay (at 0 1 107) (number (at 0 1 108) "1")) (stmts.Statement (at 0 1 110) None (stmts.Call (system (at 0 1 110) "$display" (text (at 0 1 119) "%b" ∷ plain (at 0 1 125) "c" ∷ []))))) ∷ [])) None)) ∷ []) None ∷ []

t6_broken : broken t6 [] None ≡ Some (fault 13 0 1 17)
unfolding symbols_of word_of
t6_broken = refl

-- module t; logic [3:0] a, y, z; function automatic logic [3:0] inc(logic [3:0] x); return x + z; endfunction always_comb begin y = inc(a); y[0] = 1; end always_comb begin a = 4; z = 1; #1 $display("%0d", y); z = 3; #1 $display("%0d", y); end endmodule
abbrev t7 : List Description
t7 = module_ (at 0 1 1) life.Unwritten (name (at 0 1 8) "t") None [] (items.Decl (decl life.Unwritten (types.WrittenType.Vector (at 0 1 11) vector_word.Logic sign.Unwritten (Some (range (at 0 1 17) (number (at 0 1 18) "3") (number (at 0 1 20) "0")))) (declarator (name (at 0 1 23) "a") None None ∷ declarator (name (at 0 1 26) "y") None None ∷ declarator (name (at 0 1 29) "z") None None ∷ [])) ∷ items.Routine (routine (head (at 0 1 32) life.Automatic (units.Returns.Value (types.Written (types.WrittenType.Vector (at 0 1 51) vector_word.Logic sign.Unwritten (Some (range (at 0 1 57) (number (at 0 1 58) "3") (number (at 0 1 60) "0")))))) (name (at 0 1 63) "inc") (argument None (types.Written (types.WrittenType.Vector (at 0 1 67) vector_word.Logic sign.Unwritten (Some (range (at 0 1 73) (number (at 0 1 74) "3") (number (at 0 1 76) "0"))))) (name (at 0 1 79) "x") None ∷ [])) [] (stmts.Statement (at 0 1 83) None (stmts.Return (Some (tree.Binary binary_word.Plus (at 0 1 92) (plain (at 0 1 90) "x") (plain (at 0 1 94) "z")))) ∷ []) None) ∷ procedure (at 0 1 109) procedure_word.AlwaysComb (stmts.Statement (at 0 1 121) None (stmts.Block None [] (statements (stmts.Statement (at 0 1 127) None (blocking (target (at 0 1 127) "y") None (stmts.Value (tree.Expr.Post (root.Plain (name (at 0 1 131) "inc")) (tree.Call (at 0 1 134) (expressions (plain (at 0 1 135) "a" ∷ [])) tree.NoSuffix)))) ∷ stmts.Statement (at 0 1 139) None (blocking (tree.Lval.Post (root.Plain (name (at 0 1 139) "y")) (tree.Select (at 0 1 140) (number (at 0 1 141) "0") tree.NoSuffix)) None (stmts.Value (number (at 0 1 146) "1"))) ∷ [])) None)) ∷ procedure (at 0 1 153) procedure_word.AlwaysComb (stmts.Statement (at 0 1 165) None (stmts.Block None [] (statements (stmts.Statement (at 0 1 171) None (blocking (target (at 0 1 171) "a") None (stmts.Value (number (at 0 1 175) "4"))) ∷ stmts.Statement (at 0 1 178) None (blocking (target (at 0 1 178) "z") None (stmts.Value (number (at 0 1 182) "1"))) ∷ stmts.Statement (at 0 1 185) None (stmts.After (delay (at 0 1 185) (number (at 0 1 186) "1")) (stmts.Statement (at 0 1 188) None (stmts.Call (system (at 0 1 188) "$display" (text (at 0 1 197) "%0d" ∷ plain (at 0 1 204) "y" ∷ []))))) ∷ stmts.Statement (at 0 1 208) None (blocking (target (at 0 1 208) "z") None (stmts.Value (number (at 0 1 212) "3"))) ∷ stmts.Statement (at 0 1 215) None (stmts.After (delay (at 0 1 215) (number (at 0 1 216) "1")) (stmts.Statement (at 0 1 218) None (stmts.Call (system (at 0 1 218) "$display" (text (at 0 1 227) "%0d" ∷ plain (at 0 1 234) "y" ∷ []))))) ∷ [])) None)) ∷ []) None ∷ []

t7_broken : broken t7 [] None ≡ Some (fault 27 0 1 185)
unfolding symbols_of word_of
t7_broken = refl

-- module t; logic [3:0] a, y, z; function automatic logic [3:0] inc(logic [8'hff:0] x); return x + z; endfunction always_comb begin y = inc(a); y[0] = 1; end initial begin a = 4; z = 1; #1 $display("%0d", y); z = 3; #1 $display("%0d", y); end endmodule
abbrev t8 : List Description
t8 = module_ (at 0 1 1) life.Unwritten (name (at 0 1 8) "t") None [] (items.Decl (decl life.Unwritten (types.WrittenType.Vector (at 0 1 11) vector_word.Logic sign.Unwritten (Some (range (at 0 1 17) (number (at 0 1 18) "3") (number (at 0 1 20) "0")))) (declarator (name (at 0 1 23) "a") None None ∷ declarator (name (at 0 1 26) "y") None None ∷ declarator (name (at 0 1 29) "z") None None ∷ [])) ∷ items.Routine (routine (head (at 0 1 32) life.Automatic (units.Returns.Value (types.Written (types.WrittenType.Vector (at 0 1 51) vector_word.Logic sign.Unwritten (Some (range (at 0 1 57) (number (at 0 1 58) "3") (number (at 0 1 60) "0")))))) (name (at 0 1 63) "inc") (argument None (types.Written (types.WrittenType.Vector (at 0 1 67) vector_word.Logic sign.Unwritten (Some (range (at 0 1 73) (number (at 0 1 74) "8'hff") (number (at 0 1 80) "0"))))) (name (at 0 1 83) "x") None ∷ [])) [] (stmts.Statement (at 0 1 87) None (stmts.Return (Some (tree.Binary binary_word.Plus (at 0 1 96) (plain (at 0 1 94) "x") (plain (at 0 1 98) "z")))) ∷ []) None) ∷ procedure (at 0 1 113) procedure_word.AlwaysComb (stmts.Statement (at 0 1 125) None (stmts.Block None [] (statements (stmts.Statement (at 0 1 131) None (blocking (target (at 0 1 131) "y") None (stmts.Value (tree.Expr.Post (root.Plain (name (at 0 1 135) "inc")) (tree.Call (at 0 1 138) (expressions (plain (at 0 1 139) "a" ∷ [])) tree.NoSuffix)))) ∷ stmts.Statement (at 0 1 143) None (blocking (tree.Lval.Post (root.Plain (name (at 0 1 143) "y")) (tree.Select (at 0 1 144) (number (at 0 1 145) "0") tree.NoSuffix)) None (stmts.Value (number (at 0 1 150) "1"))) ∷ [])) None)) ∷ procedure (at 0 1 157) procedure_word.Initial (stmts.Statement (at 0 1 165) None (stmts.Block None [] (statements (stmts.Statement (at 0 1 171) None (blocking (target (at 0 1 171) "a") None (stmts.Value (number (at 0 1 175) "4"))) ∷ stmts.Statement (at 0 1 178) None (blocking (target (at 0 1 178) "z") None (stmts.Value (number (at 0 1 182) "1"))) ∷ stmts.Statement (at 0 1 185) None (stmts.After (delay (at 0 1 185) (number (at 0 1 186) "1")) (stmts.Statement (at 0 1 188) None (stmts.Call (system (at 0 1 188) "$display" (text (at 0 1 197) "%0d" ∷ plain (at 0 1 204) "y" ∷ []))))) ∷ stmts.Statement (at 0 1 208) None (blocking (target (at 0 1 208) "z") None (stmts.Value (number (at 0 1 212) "3"))) ∷ stmts.Statement (at 0 1 215) None (stmts.After (delay (at 0 1 215) (number (at 0 1 216) "1")) (stmts.Statement (at 0 1 218) None (stmts.Call (system (at 0 1 218) "$display" (text (at 0 1 227) "%0d" ∷ plain (at 0 1 234) "y" ∷ []))))) ∷ [])) None)) ∷ []) None ∷ []

t8_broken : broken t8 [] None ≡ Some (fault 13 0 1 73)
unfolding symbols_of word_of
t8_broken = refl

-- module t; logic [3:0] a, y, z; function automatic logic [3:0] inc(logic [3:0] x); return x + z; endfunction always_comb begin y = inc(a); y[null] = 1; end initial begin a = 4; z = 1; #1 $display("%0d", y); z = 3; #1 $display("%0d", y); end endmodule
abbrev t9 : List Description
t9 = module_ (at 0 1 1) life.Unwritten (name (at 0 1 8) "t") None [] (items.Decl (decl life.Unwritten (types.WrittenType.Vector (at 0 1 11) vector_word.Logic sign.Unwritten (Some (range (at 0 1 17) (number (at 0 1 18) "3") (number (at 0 1 20) "0")))) (declarator (name (at 0 1 23) "a") None None ∷ declarator (name (at 0 1 26) "y") None None ∷ declarator (name (at 0 1 29) "z") None None ∷ [])) ∷ items.Routine (routine (head (at 0 1 32) life.Automatic (units.Returns.Value (types.Written (types.WrittenType.Vector (at 0 1 51) vector_word.Logic sign.Unwritten (Some (range (at 0 1 57) (number (at 0 1 58) "3") (number (at 0 1 60) "0")))))) (name (at 0 1 63) "inc") (argument None (types.Written (types.WrittenType.Vector (at 0 1 67) vector_word.Logic sign.Unwritten (Some (range (at 0 1 73) (number (at 0 1 74) "3") (number (at 0 1 76) "0"))))) (name (at 0 1 79) "x") None ∷ [])) [] (stmts.Statement (at 0 1 83) None (stmts.Return (Some (tree.Binary binary_word.Plus (at 0 1 92) (plain (at 0 1 90) "x") (plain (at 0 1 94) "z")))) ∷ []) None) ∷ procedure (at 0 1 109) procedure_word.AlwaysComb (stmts.Statement (at 0 1 121) None (stmts.Block None [] (statements (stmts.Statement (at 0 1 127) None (blocking (target (at 0 1 127) "y") None (stmts.Value (tree.Expr.Post (root.Plain (name (at 0 1 131) "inc")) (tree.Call (at 0 1 134) (expressions (plain (at 0 1 135) "a" ∷ [])) tree.NoSuffix)))) ∷ stmts.Statement (at 0 1 139) None (blocking (tree.Lval.Post (root.Plain (name (at 0 1 139) "y")) (tree.Select (at 0 1 140) (tree.Null (at 0 1 141)) tree.NoSuffix)) None (stmts.Value (number (at 0 1 149) "1"))) ∷ [])) None)) ∷ procedure (at 0 1 156) procedure_word.Initial (stmts.Statement (at 0 1 164) None (stmts.Block None [] (statements (stmts.Statement (at 0 1 170) None (blocking (target (at 0 1 170) "a") None (stmts.Value (number (at 0 1 174) "4"))) ∷ stmts.Statement (at 0 1 177) None (blocking (target (at 0 1 177) "z") None (stmts.Value (number (at 0 1 181) "1"))) ∷ stmts.Statement (at 0 1 184) None (stmts.After (delay (at 0 1 184) (number (at 0 1 185) "1")) (stmts.Statement (at 0 1 187) None (stmts.Call (system (at 0 1 187) "$display" (text (at 0 1 196) "%0d" ∷ plain (at 0 1 203) "y" ∷ []))))) ∷ stmts.Statement (at 0 1 207) None (blocking (target (at 0 1 207) "z") None (stmts.Value (number (at 0 1 211) "3"))) ∷ stmts.Statement (at 0 1 214) None (stmts.After (delay (at 0 1 214) (number (at 0 1 215) "1")) (stmts.Statement (at 0 1 217) None (stmts.Call (system (at 0 1 217) "$display" (text (at 0 1 226) "%0d" ∷ plain (at 0 1 233) "y" ∷ []))))) ∷ [])) None)) ∷ []) None ∷ []

t9_broken : broken t9 [] None ≡ Some (fault 42 0 1 141)
unfolding symbols_of word_of
t9_broken = refl

-- module t; logic [3:0] a, y, z; function automatic logic [3:0] inc(logic [3:0] x); return x + z; endfunction always_comb begin y = inc(a); a[0] = 1; end initial begin a = 4; z = 1; #1 $display("%0d", y); z = 3; #1 $display("%0d", y); end endmodule
abbrev t10 : List Description
t10 = module_ (at 0 1 1) life.Unwritten (name (at 0 1 8) "t") None [] (items.Decl (decl life.Unwritten (types.WrittenType.Vector (at 0 1 11) vector_word.Logic sign.Unwritten (Some (range (at 0 1 17) (number (at 0 1 18) "3") (number (at 0 1 20) "0")))) (declarator (name (at 0 1 23) "a") None None ∷ declarator (name (at 0 1 26) "y") None None ∷ declarator (name (at 0 1 29) "z") None None ∷ [])) ∷ items.Routine (routine (head (at 0 1 32) life.Automatic (units.Returns.Value (types.Written (types.WrittenType.Vector (at 0 1 51) vector_word.Logic sign.Unwritten (Some (range (at 0 1 57) (number (at 0 1 58) "3") (number (at 0 1 60) "0")))))) (name (at 0 1 63) "inc") (argument None (types.Written (types.WrittenType.Vector (at 0 1 67) vector_word.Logic sign.Unwritten (Some (range (at 0 1 73) (number (at 0 1 74) "3") (number (at 0 1 76) "0"))))) (name (at 0 1 79) "x") None ∷ [])) [] (stmts.Statement (at 0 1 83) None (stmts.Return (Some (tree.Binary binary_word.Plus (at 0 1 92) (plain (at 0 1 90) "x") (plain (at 0 1 94) "z")))) ∷ []) None) ∷ procedure (at 0 1 109) procedure_word.AlwaysComb (stmts.Statement (at 0 1 121) None (stmts.Block None [] (statements (stmts.Statement (at 0 1 127) None (blocking (target (at 0 1 127) "y") None (stmts.Value (tree.Expr.Post (root.Plain (name (at 0 1 131) "inc")) (tree.Call (at 0 1 134) (expressions (plain (at 0 1 135) "a" ∷ [])) tree.NoSuffix)))) ∷ stmts.Statement (at 0 1 139) None (blocking (tree.Lval.Post (root.Plain (name (at 0 1 139) "a")) (tree.Select (at 0 1 140) (number (at 0 1 141) "0") tree.NoSuffix)) None (stmts.Value (number (at 0 1 146) "1"))) ∷ [])) None)) ∷ procedure (at 0 1 153) procedure_word.Initial (stmts.Statement (at 0 1 161) None (stmts.Block None [] (statements (stmts.Statement (at 0 1 167) None (blocking (target (at 0 1 167) "a") None (stmts.Value (number (at 0 1 171) "4"))) ∷ stmts.Statement (at 0 1 174) None (blocking (target (at 0 1 174) "z") None (stmts.Value (number (at 0 1 178) "1"))) ∷ stmts.Statement (at 0 1 181) None (stmts.After (delay (at 0 1 181) (number (at 0 1 182) "1")) (stmts.Statement (at 0 1 184) None (stmts.Call (system (at 0 1 184) "$display" (text (at 0 1 193) "%0d" ∷ plain (at 0 1 200) "y" ∷ []))))) ∷ stmts.Statement (at 0 1 204) None (blocking (target (at 0 1 204) "z") None (stmts.Value (number (at 0 1 208) "3"))) ∷ stmts.Statement (at 0 1 211) None (stmts.After (delay (at 0 1 211) (number (at 0 1 212) "1")) (stmts.Statement (at 0 1 214) None (stmts.Call (system (at 0 1 214) "$display" (text (at 0 1 223) "%0d" ∷ plain (at 0 1 230) "y" ∷ []))))) ∷ [])) None)) ∷ []) None ∷ []

t10_broken : broken t10 [] None ≡ Some (fault 22 0 1 167)
unfolding symbols_of word_of
t10_broken = refl

-- module t; logic clk = 0; always #5 n = ~clk; logic [3:0] n = 0; always_ff @(posedge clk) n <= n + 1; initial begin @(posedge clk iff n == 1) $display("%0d %0t", n, $time); repeat (2) @(negedge clk); $finish; end endmodule
abbrev t11 : List Description
t11 = module_ (at 0 1 1) life.Unwritten (name (at 0 1 8) "t") None [] (items.Decl (decl life.Unwritten (types.WrittenType.Vector (at 0 1 11) vector_word.Logic sign.Unwritten None) (declarator (name (at 0 1 17) "clk") None (Some (stmts.Value (number (at 0 1 23) "0"))) ∷ [])) ∷ procedure (at 0 1 26) procedure_word.Always (stmts.Statement (at 0 1 33) None (stmts.After (delay (at 0 1 33) (number (at 0 1 34) "5")) (stmts.Statement (at 0 1 36) None (blocking (target (at 0 1 36) "n") None (stmts.Value (tree.Unary (at 0 1 40) unary_word.Invert (plain (at 0 1 41) "clk"))))))) ∷ items.Decl (decl life.Unwritten (types.WrittenType.Vector (at 0 1 46) vector_word.Logic sign.Unwritten (Some (range (at 0 1 52) (number (at 0 1 53) "3") (number (at 0 1 55) "0")))) (declarator (name (at 0 1 58) "n") None (Some (stmts.Value (number (at 0 1 62) "0"))) ∷ [])) ∷ procedure (at 0 1 65) procedure_word.AlwaysFf (stmts.Statement (at 0 1 75) None (stmts.On (stmts.Parts (event_part edge.Posedge (plain (at 0 1 85) "clk") None ∷ [])) (stmts.Statement (at 0 1 90) None (nonblocking (target (at 0 1 90) "n") None (tree.Binary binary_word.Plus (at 0 1 97) (plain (at 0 1 95) "n") (number (at 0 1 99) "1")))))) ∷ procedure (at 0 1 102) procedure_word.Initial (stmts.Statement (at 0 1 110) None (stmts.Block None [] (statements (stmts.Statement (at 0 1 116) None (stmts.On (stmts.Parts (event_part edge.Posedge (plain (at 0 1 126) "clk") (Some (tree.Binary binary_word.Equal (at 0 1 136) (plain (at 0 1 134) "n") (number (at 0 1 139) "1"))) ∷ [])) (stmts.Statement (at 0 1 142) None (stmts.Call (system (at 0 1 142) "$display" (text (at 0 1 151) "%0d %0t" ∷ plain (at 0 1 162) "n" ∷ tree.System (name (at 0 1 165) "$time") tree.Unwritten ∷ []))))) ∷ stmts.Statement (at 0 1 173) None (stmts.Repeat (number (at 0 1 181) "2") (stmts.Statement (at 0 1 184) None (stmts.On (stmts.Parts (event_part edge.Negedge (plain (at 0 1 194) "clk") None ∷ [])) (stmts.Statement (at 0 1 198) None stmts.Null)))) ∷ stmts.Statement (at 0 1 200) None (stmts.Call (tree.System (name (at 0 1 200) "$finish") tree.Unwritten)) ∷ [])) None)) ∷ []) None ∷ []

t11_broken : broken t11 [] None ≡ Some (fault 22 0 1 90)
unfolding symbols_of word_of
t11_broken = refl

-- module t; logic clk = 0; always #5 clk = ~clk; logic [3:0] n = 0; always_comb @(posedge clk) n <= n + 1; initial begin @(posedge clk iff n == 1) $display("%0d %0t", n, $time); repeat (2) @(negedge clk); $finish; end endmodule
abbrev t12 : List Description
t12 = module_ (at 0 1 1) life.Unwritten (name (at 0 1 8) "t") None [] (items.Decl (decl life.Unwritten (types.WrittenType.Vector (at 0 1 11) vector_word.Logic sign.Unwritten None) (declarator (name (at 0 1 17) "clk") None (Some (stmts.Value (number (at 0 1 23) "0"))) ∷ [])) ∷ procedure (at 0 1 26) procedure_word.Always (stmts.Statement (at 0 1 33) None (stmts.After (delay (at 0 1 33) (number (at 0 1 34) "5")) (stmts.Statement (at 0 1 36) None (blocking (target (at 0 1 36) "clk") None (stmts.Value (tree.Unary (at 0 1 42) unary_word.Invert (plain (at 0 1 43) "clk"))))))) ∷ items.Decl (decl life.Unwritten (types.WrittenType.Vector (at 0 1 48) vector_word.Logic sign.Unwritten (Some (range (at 0 1 54) (number (at 0 1 55) "3") (number (at 0 1 57) "0")))) (declarator (name (at 0 1 60) "n") None (Some (stmts.Value (number (at 0 1 64) "0"))) ∷ [])) ∷ procedure (at 0 1 67) procedure_word.AlwaysComb (stmts.Statement (at 0 1 79) None (stmts.On (stmts.Parts (event_part edge.Posedge (plain (at 0 1 89) "clk") None ∷ [])) (stmts.Statement (at 0 1 94) None (nonblocking (target (at 0 1 94) "n") None (tree.Binary binary_word.Plus (at 0 1 101) (plain (at 0 1 99) "n") (number (at 0 1 103) "1")))))) ∷ procedure (at 0 1 106) procedure_word.Initial (stmts.Statement (at 0 1 114) None (stmts.Block None [] (statements (stmts.Statement (at 0 1 120) None (stmts.On (stmts.Parts (event_part edge.Posedge (plain (at 0 1 130) "clk") (Some (tree.Binary binary_word.Equal (at 0 1 140) (plain (at 0 1 138) "n") (number (at 0 1 143) "1"))) ∷ [])) (stmts.Statement (at 0 1 146) None (stmts.Call (system (at 0 1 146) "$display" (text (at 0 1 155) "%0d %0t" ∷ plain (at 0 1 166) "n" ∷ tree.System (name (at 0 1 169) "$time") tree.Unwritten ∷ []))))) ∷ stmts.Statement (at 0 1 177) None (stmts.Repeat (number (at 0 1 185) "2") (stmts.Statement (at 0 1 188) None (stmts.On (stmts.Parts (event_part edge.Negedge (plain (at 0 1 198) "clk") None ∷ [])) (stmts.Statement (at 0 1 202) None stmts.Null)))) ∷ stmts.Statement (at 0 1 204) None (stmts.Call (tree.System (name (at 0 1 204) "$finish") tree.Unwritten)) ∷ [])) None)) ∷ []) None ∷ []

t12_broken : broken t12 [] None ≡ Some (fault 27 0 1 79)
unfolding symbols_of word_of
t12_broken = refl

-- module t; logic clk = 0; always_ff #5 clk = ~clk; logic [3:0] n = 0; always_ff @(posedge clk) n <= n + 1; initial begin @(posedge clk iff n == 1) $display("%0d %0t", n, $time); repeat (2) @(negedge clk); $finish; end endmodule
abbrev t13 : List Description
t13 = module_ (at 0 1 1) life.Unwritten (name (at 0 1 8) "t") None [] (items.Decl (decl life.Unwritten (types.WrittenType.Vector (at 0 1 11) vector_word.Logic sign.Unwritten None) (declarator (name (at 0 1 17) "clk") None (Some (stmts.Value (number (at 0 1 23) "0"))) ∷ [])) ∷ procedure (at 0 1 26) procedure_word.AlwaysFf (stmts.Statement (at 0 1 36) None (stmts.After (delay (at 0 1 36) (number (at 0 1 37) "5")) (stmts.Statement (at 0 1 39) None (blocking (target (at 0 1 39) "clk") None (stmts.Value (tree.Unary (at 0 1 45) unary_word.Invert (plain (at 0 1 46) "clk"))))))) ∷ items.Decl (decl life.Unwritten (types.WrittenType.Vector (at 0 1 51) vector_word.Logic sign.Unwritten (Some (range (at 0 1 57) (number (at 0 1 58) "3") (number (at 0 1 60) "0")))) (declarator (name (at 0 1 63) "n") None (Some (stmts.Value (number (at 0 1 67) "0"))) ∷ [])) ∷ procedure (at 0 1 70) procedure_word.AlwaysFf (stmts.Statement (at 0 1 80) None (stmts.On (stmts.Parts (event_part edge.Posedge (plain (at 0 1 90) "clk") None ∷ [])) (stmts.Statement (at 0 1 95) None (nonblocking (target (at 0 1 95) "n") None (tree.Binary binary_word.Plus (at 0 1 102) (plain (at 0 1 100) "n") (number (at 0 1 104) "1")))))) ∷ procedure (at 0 1 107) procedure_word.Initial (stmts.Statement (at 0 1 115) None (stmts.Block None [] (statements (stmts.Statement (at 0 1 121) None (stmts.On (stmts.Parts (event_part edge.Posedge (plain (at 0 1 131) "clk") (Some (tree.Binary binary_word.Equal (at 0 1 141) (plain (at 0 1 139) "n") (number (at 0 1 144) "1"))) ∷ [])) (stmts.Statement (at 0 1 147) None (stmts.Call (system (at 0 1 147) "$display" (text (at 0 1 156) "%0d %0t" ∷ plain (at 0 1 167) "n" ∷ tree.System (name (at 0 1 170) "$time") tree.Unwritten ∷ []))))) ∷ stmts.Statement (at 0 1 178) None (stmts.Repeat (number (at 0 1 186) "2") (stmts.Statement (at 0 1 189) None (stmts.On (stmts.Parts (event_part edge.Negedge (plain (at 0 1 199) "clk") None ∷ [])) (stmts.Statement (at 0 1 203) None stmts.Null)))) ∷ stmts.Statement (at 0 1 205) None (stmts.Call (tree.System (name (at 0 1 205) "$finish") tree.Unwritten)) ∷ [])) None)) ∷ []) None ∷ []

t13_broken : broken t13 [] None ≡ Some (fault 28 0 1 26)
unfolding symbols_of word_of
t13_broken = refl

-- module u(input logic [3:0] a, output logic [3:0] y); assign y = a + 1; endmodule module t; logic [3:0] p; wire [3:0] r; u x(p, r); y y(.a(r), .y()); initial begin p = 3; #1 $display("%0d %0d", r, p); end endmodule
abbrev t14 : List Description
t14 = module_ (at 0 1 1) life.Unwritten (name (at 0 1 8) "u") None (port (Some port_direction.Input) false (types.Written (types.WrittenType.Vector (at 0 1 16) vector_word.Logic sign.Unwritten (Some (range (at 0 1 22) (number (at 0 1 23) "3") (number (at 0 1 25) "0"))))) (name (at 0 1 28) "a") ∷ port (Some port_direction.Output) false (types.Written (types.WrittenType.Vector (at 0 1 38) vector_word.Logic sign.Unwritten (Some (range (at 0 1 44) (number (at 0 1 45) "3") (number (at 0 1 47) "0"))))) (name (at 0 1 50) "y") ∷ []) (items.Assign (assign_item (target (at 0 1 61) "y") (tree.Binary binary_word.Plus (at 0 1 67) (plain (at 0 1 65) "a") (number (at 0 1 69) "1")) ∷ []) ∷ []) None ∷ module_ (at 0 1 82) life.Unwritten (name (at 0 1 89) "t") None [] (items.Decl (decl life.Unwritten (types.WrittenType.Vector (at 0 1 92) vector_word.Logic sign.Unwritten (Some (range (at 0 1 98) (number (at 0 1 99) "3") (number (at 0 1 101) "0")))) (declarator (name (at 0 1 104) "p") None None ∷ [])) ∷ net (at 0 1 107) sign.Unwritten (Some (range (at 0 1 112) (number (at 0 1 113) "3") (number (at 0 1 115) "0"))) (net_item (name (at 0 1 118) "r") None ∷ []) ∷ instances (name (at 0 1 121) "u") [] (instance (name (at 0 1 123) "x") (units.Connection.Value (plain (at 0 1 125) "p") ∷ units.Connection.Value (plain (at 0 1 128) "r") ∷ []) ∷ []) ∷ instances (name (at 0 1 132) "y") [] (instance (name (at 0 1 134) "y") (units.Given (at 0 1 136) (name (at 0 1 137) "a") (Some (plain (at 0 1 139) "r")) ∷ units.Given (at 0 1 143) (name (at 0 1 144) "y") None ∷ []) ∷ []) ∷ procedure (at 0 1 150) procedure_word.Initial (stmts.Statement (at 0 1 158) None (stmts.Block None [] (statements (stmts.Statement (at 0 1 164) None (blocking (target (at 0 1 164) "p") None (stmts.Value (number (at 0 1 168) "3"))) ∷ stmts.Statement (at 0 1 171) None (stmts.After (delay (at 0 1 171) (number (at 0 1 172) "1")) (stmts.Statement (at 0 1 174) None (stmts.Call (system (at 0 1 174) "$display" (text (at 0 1 183) "%0d %0d" ∷ plain (at 0 1 194) "r" ∷ plain (at 0 1 197) "p" ∷ []))))) ∷ [])) None)) ∷ []) None ∷ []

t14_broken : broken t14 [] None ≡ Some (fault 2 0 1 132)
unfolding symbols_of word_of
t14_broken = refl

-- module u(input logic [3:0] a, output logic [3:0] y); assign y = a + 1; endmodule module t; logic [3:0] p; wire [3:0] r; u x(p, r); u y(.y(r), .y()); initial begin p = 3; #1 $display("%0d %0d", r, p); end endmodule
abbrev t15 : List Description
t15 = module_ (at 0 1 1) life.Unwritten (name (at 0 1 8) "u") None (port (Some port_direction.Input) false (types.Written (types.WrittenType.Vector (at 0 1 16) vector_word.Logic sign.Unwritten (Some (range (at 0 1 22) (number (at 0 1 23) "3") (number (at 0 1 25) "0"))))) (name (at 0 1 28) "a") ∷ port (Some port_direction.Output) false (types.Written (types.WrittenType.Vector (at 0 1 38) vector_word.Logic sign.Unwritten (Some (range (at 0 1 44) (number (at 0 1 45) "3") (number (at 0 1 47) "0"))))) (name (at 0 1 50) "y") ∷ []) (items.Assign (assign_item (target (at 0 1 61) "y") (tree.Binary binary_word.Plus (at 0 1 67) (plain (at 0 1 65) "a") (number (at 0 1 69) "1")) ∷ []) ∷ []) None ∷ module_ (at 0 1 82) life.Unwritten (name (at 0 1 89) "t") None [] (items.Decl (decl life.Unwritten (types.WrittenType.Vector (at 0 1 92) vector_word.Logic sign.Unwritten (Some (range (at 0 1 98) (number (at 0 1 99) "3") (number (at 0 1 101) "0")))) (declarator (name (at 0 1 104) "p") None None ∷ [])) ∷ net (at 0 1 107) sign.Unwritten (Some (range (at 0 1 112) (number (at 0 1 113) "3") (number (at 0 1 115) "0"))) (net_item (name (at 0 1 118) "r") None ∷ []) ∷ instances (name (at 0 1 121) "u") [] (instance (name (at 0 1 123) "x") (units.Connection.Value (plain (at 0 1 125) "p") ∷ units.Connection.Value (plain (at 0 1 128) "r") ∷ []) ∷ []) ∷ instances (name (at 0 1 132) "u") [] (instance (name (at 0 1 134) "y") (units.Given (at 0 1 136) (name (at 0 1 137) "y") (Some (plain (at 0 1 139) "r")) ∷ units.Given (at 0 1 143) (name (at 0 1 144) "y") None ∷ []) ∷ []) ∷ procedure (at 0 1 150) procedure_word.Initial (stmts.Statement (at 0 1 158) None (stmts.Block None [] (statements (stmts.Statement (at 0 1 164) None (blocking (target (at 0 1 164) "p") None (stmts.Value (number (at 0 1 168) "3"))) ∷ stmts.Statement (at 0 1 171) None (stmts.After (delay (at 0 1 171) (number (at 0 1 172) "1")) (stmts.Statement (at 0 1 174) None (stmts.Call (system (at 0 1 174) "$display" (text (at 0 1 183) "%0d %0d" ∷ plain (at 0 1 194) "r" ∷ plain (at 0 1 197) "p" ∷ []))))) ∷ [])) None)) ∷ []) None ∷ []

t15_broken : broken t15 [] None ≡ Some (fault 8 0 1 143)
unfolding symbols_of word_of
t15_broken = refl

-- module r(input logic [3:0] a, output logic [3:0] y); assign y = a + 1; endmodule module t; logic [3:0] p; wire [3:0] r; u x(p, r); u y(.a(r), .y()); initial begin p = 3; #1 $display("%0d %0d", r, p); end endmodule
abbrev t16 : List Description
t16 = module_ (at 0 1 1) life.Unwritten (name (at 0 1 8) "r") None (port (Some port_direction.Input) false (types.Written (types.WrittenType.Vector (at 0 1 16) vector_word.Logic sign.Unwritten (Some (range (at 0 1 22) (number (at 0 1 23) "3") (number (at 0 1 25) "0"))))) (name (at 0 1 28) "a") ∷ port (Some port_direction.Output) false (types.Written (types.WrittenType.Vector (at 0 1 38) vector_word.Logic sign.Unwritten (Some (range (at 0 1 44) (number (at 0 1 45) "3") (number (at 0 1 47) "0"))))) (name (at 0 1 50) "y") ∷ []) (items.Assign (assign_item (target (at 0 1 61) "y") (tree.Binary binary_word.Plus (at 0 1 67) (plain (at 0 1 65) "a") (number (at 0 1 69) "1")) ∷ []) ∷ []) None ∷ module_ (at 0 1 82) life.Unwritten (name (at 0 1 89) "t") None [] (items.Decl (decl life.Unwritten (types.WrittenType.Vector (at 0 1 92) vector_word.Logic sign.Unwritten (Some (range (at 0 1 98) (number (at 0 1 99) "3") (number (at 0 1 101) "0")))) (declarator (name (at 0 1 104) "p") None None ∷ [])) ∷ net (at 0 1 107) sign.Unwritten (Some (range (at 0 1 112) (number (at 0 1 113) "3") (number (at 0 1 115) "0"))) (net_item (name (at 0 1 118) "r") None ∷ []) ∷ instances (name (at 0 1 121) "u") [] (instance (name (at 0 1 123) "x") (units.Connection.Value (plain (at 0 1 125) "p") ∷ units.Connection.Value (plain (at 0 1 128) "r") ∷ []) ∷ []) ∷ instances (name (at 0 1 132) "u") [] (instance (name (at 0 1 134) "y") (units.Given (at 0 1 136) (name (at 0 1 137) "a") (Some (plain (at 0 1 139) "r")) ∷ units.Given (at 0 1 143) (name (at 0 1 144) "y") None ∷ []) ∷ []) ∷ procedure (at 0 1 150) procedure_word.Initial (stmts.Statement (at 0 1 158) None (stmts.Block None [] (statements (stmts.Statement (at 0 1 164) None (blocking (target (at 0 1 164) "p") None (stmts.Value (number (at 0 1 168) "3"))) ∷ stmts.Statement (at 0 1 171) None (stmts.After (delay (at 0 1 171) (number (at 0 1 172) "1")) (stmts.Statement (at 0 1 174) None (stmts.Call (system (at 0 1 174) "$display" (text (at 0 1 183) "%0d %0d" ∷ plain (at 0 1 194) "r" ∷ plain (at 0 1 197) "p" ∷ []))))) ∷ [])) None)) ∷ []) None ∷ []

t16_broken : broken t16 [] None ≡ Some (fault 2 0 1 121)
unfolding symbols_of word_of
t16_broken = refl

-- module t; wire w; logic a, b, e; assign w = e ? a : 1'bz; assign e = e ? 1'bz : b; initial begin a = 1; b = 0; e = 1; #1 $display("%b", w); e = 0; #1 $display("%b", w); end endmodule
abbrev t17 : List Description
t17 = module_ (at 0 1 1) life.Unwritten (name (at 0 1 8) "t") None [] (net (at 0 1 11) sign.Unwritten None (net_item (name (at 0 1 16) "w") None ∷ []) ∷ items.Decl (decl life.Unwritten (types.WrittenType.Vector (at 0 1 19) vector_word.Logic sign.Unwritten None) (declarator (name (at 0 1 25) "a") None None ∷ declarator (name (at 0 1 28) "b") None None ∷ declarator (name (at 0 1 31) "e") None None ∷ [])) ∷ items.Assign (assign_item (target (at 0 1 41) "w") (tree.Choose (plain (at 0 1 45) "e") (plain (at 0 1 49) "a") (number (at 0 1 53) "1'bz")) ∷ []) ∷ items.Assign (assign_item (target (at 0 1 66) "e") (tree.Choose (plain (at 0 1 70) "e") (number (at 0 1 74) "1'bz") (plain (at 0 1 81) "b")) ∷ []) ∷ procedure (at 0 1 84) procedure_word.Initial (stmts.Statement (at 0 1 92) None (stmts.Block None [] (statements (stmts.Statement (at 0 1 98) None (blocking (target (at 0 1 98) "a") None (stmts.Value (number (at 0 1 102) "1"))) ∷ stmts.Statement (at 0 1 105) None (blocking (target (at 0 1 105) "b") None (stmts.Value (number (at 0 1 109) "0"))) ∷ stmts.Statement (at 0 1 112) None (blocking (target (at 0 1 112) "e") None (stmts.Value (number (at 0 1 116) "1"))) ∷ stmts.Statement (at 0 1 119) None (stmts.After (delay (at 0 1 119) (number (at 0 1 120) "1")) (stmts.Statement (at 0 1 122) None (stmts.Call (system (at 0 1 122) "$display" (text (at 0 1 131) "%b" ∷ plain (at 0 1 137) "w" ∷ []))))) ∷ stmts.Statement (at 0 1 141) None (blocking (target (at 0 1 141) "e") None (stmts.Value (number (at 0 1 145) "0"))) ∷ stmts.Statement (at 0 1 148) None (stmts.After (delay (at 0 1 148) (number (at 0 1 149) "1")) (stmts.Statement (at 0 1 151) None (stmts.Call (system (at 0 1 151) "$display" (text (at 0 1 160) "%b" ∷ plain (at 0 1 166) "w" ∷ []))))) ∷ [])) None)) ∷ []) None ∷ []

t17_broken : broken t17 [] None ≡ Some (fault 20 0 1 112)
unfolding symbols_of word_of
t17_broken = refl

-- module zz; wire w; initial w = 1; endmodule
abbrev t18 : List Description
t18 = module_ (at 0 1 1) life.Unwritten (name (at 0 1 8) "zz") None [] (net (at 0 1 12) sign.Unwritten None (net_item (name (at 0 1 17) "w") None ∷ []) ∷ procedure (at 0 1 20) procedure_word.Initial (stmts.Statement (at 0 1 28) None (blocking (target (at 0 1 28) "w") None (stmts.Value (number (at 0 1 32) "1")))) ∷ []) None ∷ []

t18_broken : broken t18 [] None ≡ Some (fault 21 0 1 28)
unfolding symbols_of word_of
t18_broken = refl

-- module t; wire w; initial w = w; endmodule
abbrev t19 : List Description
t19 = module_ (at 0 1 1) life.Unwritten (name (at 0 1 8) "t") None [] (net (at 0 1 11) sign.Unwritten None (net_item (name (at 0 1 16) "w") None ∷ []) ∷ procedure (at 0 1 19) procedure_word.Initial (stmts.Statement (at 0 1 27) None (blocking (target (at 0 1 27) "w") None (stmts.Value (plain (at 0 1 31) "w")))) ∷ []) None ∷ []

t19_broken : broken t19 [] None ≡ Some (fault 21 0 1 27)
unfolding symbols_of word_of
t19_broken = refl

-- module t; wire w; initial w = '1; endmodule
abbrev t20 : List Description
t20 = module_ (at 0 1 1) life.Unwritten (name (at 0 1 8) "t") None [] (net (at 0 1 11) sign.Unwritten None (net_item (name (at 0 1 16) "w") None ∷ []) ∷ procedure (at 0 1 19) procedure_word.Initial (stmts.Statement (at 0 1 27) None (blocking (target (at 0 1 27) "w") None (stmts.Value (number (at 0 1 31) "'1")))) ∷ []) None ∷ []

t20_broken : broken t20 [] None ≡ Some (fault 21 0 1 27)
unfolding symbols_of word_of
t20_broken = refl

-- module t; wire [3:0] w; always w[0] <= 1; endmodule
abbrev t21 : List Description
t21 = module_ (at 0 1 1) life.Unwritten (name (at 0 1 8) "t") None [] (net (at 0 1 11) sign.Unwritten (Some (range (at 0 1 16) (number (at 0 1 17) "3") (number (at 0 1 19) "0"))) (net_item (name (at 0 1 22) "w") None ∷ []) ∷ procedure (at 0 1 25) procedure_word.Always (stmts.Statement (at 0 1 32) None (nonblocking (tree.Lval.Post (root.Plain (name (at 0 1 32) "w")) (tree.Select (at 0 1 33) (number (at 0 1 34) "0") tree.NoSuffix)) None (number (at 0 1 40) "1"))) ∷ []) None ∷ []

t21_broken : broken t21 [] None ≡ Some (fault 21 0 1 32)
unfolding symbols_of word_of
t21_broken = refl

-- module t; wire [3:0] w; initial w[0] <= 8'hff; endmodule
abbrev t22 : List Description
t22 = module_ (at 0 1 1) life.Unwritten (name (at 0 1 8) "t") None [] (net (at 0 1 11) sign.Unwritten (Some (range (at 0 1 16) (number (at 0 1 17) "3") (number (at 0 1 19) "0"))) (net_item (name (at 0 1 22) "w") None ∷ []) ∷ procedure (at 0 1 25) procedure_word.Initial (stmts.Statement (at 0 1 33) None (nonblocking (tree.Lval.Post (root.Plain (name (at 0 1 33) "w")) (tree.Select (at 0 1 34) (number (at 0 1 35) "0") tree.NoSuffix)) None (number (at 0 1 41) "8'hff"))) ∷ []) None ∷ []

t22_broken : broken t22 [] None ≡ Some (fault 21 0 1 33)
unfolding symbols_of word_of
t22_broken = refl

-- module t; wire [3:0] w; initial w[0] <= 70; endmodule
abbrev t23 : List Description
t23 = module_ (at 0 1 1) life.Unwritten (name (at 0 1 8) "t") None [] (net (at 0 1 11) sign.Unwritten (Some (range (at 0 1 16) (number (at 0 1 17) "3") (number (at 0 1 19) "0"))) (net_item (name (at 0 1 22) "w") None ∷ []) ∷ procedure (at 0 1 25) procedure_word.Initial (stmts.Statement (at 0 1 33) None (nonblocking (tree.Lval.Post (root.Plain (name (at 0 1 33) "w")) (tree.Select (at 0 1 34) (number (at 0 1 35) "0") tree.NoSuffix)) None (number (at 0 1 41) "70"))) ∷ []) None ∷ []

t23_broken : broken t23 [] None ≡ Some (fault 21 0 1 33)
unfolding symbols_of word_of
t23_broken = refl

-- module t; logic [3:0] a; int i; assign a[i] = "s"; endmodule
abbrev t24 : List Description
t24 = module_ (at 0 1 1) life.Unwritten (name (at 0 1 8) "t") None [] (items.Decl (decl life.Unwritten (types.WrittenType.Vector (at 0 1 11) vector_word.Logic sign.Unwritten (Some (range (at 0 1 17) (number (at 0 1 18) "3") (number (at 0 1 20) "0")))) (declarator (name (at 0 1 23) "a") None None ∷ [])) ∷ items.Decl (decl life.Unwritten (types.Atom (at 0 1 26) atom_word.Int sign.Unwritten) (declarator (name (at 0 1 30) "i") None None ∷ [])) ∷ items.Assign (assign_item (tree.Lval.Post (root.Plain (name (at 0 1 40) "a")) (tree.Select (at 0 1 41) (plain (at 0 1 42) "i") tree.NoSuffix)) (text (at 0 1 47) "s") ∷ []) ∷ []) None ∷ []

t24_broken : broken t24 [] None ≡ Some (fault 11 0 1 42)
unfolding symbols_of word_of
t24_broken = refl

-- module t; logic [3:0] a; int i; assign a[i] = null; endmodule
abbrev t25 : List Description
t25 = module_ (at 0 1 1) life.Unwritten (name (at 0 1 8) "t") None [] (items.Decl (decl life.Unwritten (types.WrittenType.Vector (at 0 1 11) vector_word.Logic sign.Unwritten (Some (range (at 0 1 17) (number (at 0 1 18) "3") (number (at 0 1 20) "0")))) (declarator (name (at 0 1 23) "a") None None ∷ [])) ∷ items.Decl (decl life.Unwritten (types.Atom (at 0 1 26) atom_word.Int sign.Unwritten) (declarator (name (at 0 1 30) "i") None None ∷ [])) ∷ items.Assign (assign_item (tree.Lval.Post (root.Plain (name (at 0 1 40) "a")) (tree.Select (at 0 1 41) (plain (at 0 1 42) "i") tree.NoSuffix)) (tree.Null (at 0 1 47)) ∷ []) ∷ []) None ∷ []

t25_broken : broken t25 [] None ≡ Some (fault 11 0 1 42)
unfolding symbols_of word_of
t25_broken = refl

-- module t; logic [3:0] a, b; assign {a, b} = 8'd3; initial b += 1; endmodule
abbrev t26 : List Description
t26 = module_ (at 0 1 1) life.Unwritten (name (at 0 1 8) "t") None [] (items.Decl (decl life.Unwritten (types.WrittenType.Vector (at 0 1 11) vector_word.Logic sign.Unwritten (Some (range (at 0 1 17) (number (at 0 1 18) "3") (number (at 0 1 20) "0")))) (declarator (name (at 0 1 23) "a") None None ∷ declarator (name (at 0 1 26) "b") None None ∷ [])) ∷ items.Assign (assign_item (tree.Lval.Join (at 0 1 36) (targets (target (at 0 1 37) "a" ∷ target (at 0 1 40) "b" ∷ []))) (number (at 0 1 45) "8'd3") ∷ []) ∷ procedure (at 0 1 51) procedure_word.Initial (stmts.Statement (at 0 1 59) None (stmts.Body.Operator (operated (target (at 0 1 59) "b") binary_word.Plus (number (at 0 1 64) "1")))) ∷ []) None ∷ []

t26_broken : broken t26 [] None ≡ Some (fault 20 0 1 59)
unfolding symbols_of word_of
t26_broken = refl

-- module t; logic [3:0] a, b; assign {a, b} = 1'bx; initial b = 1; endmodule
abbrev t27 : List Description
t27 = module_ (at 0 1 1) life.Unwritten (name (at 0 1 8) "t") None [] (items.Decl (decl life.Unwritten (types.WrittenType.Vector (at 0 1 11) vector_word.Logic sign.Unwritten (Some (range (at 0 1 17) (number (at 0 1 18) "3") (number (at 0 1 20) "0")))) (declarator (name (at 0 1 23) "a") None None ∷ declarator (name (at 0 1 26) "b") None None ∷ [])) ∷ items.Assign (assign_item (tree.Lval.Join (at 0 1 36) (targets (target (at 0 1 37) "a" ∷ target (at 0 1 40) "b" ∷ []))) (number (at 0 1 45) "1'bx") ∷ []) ∷ procedure (at 0 1 51) procedure_word.Initial (stmts.Statement (at 0 1 59) None (blocking (target (at 0 1 59) "b") None (stmts.Value (number (at 0 1 63) "1")))) ∷ []) None ∷ []

t27_broken : broken t27 [] None ≡ Some (fault 20 0 1 59)
unfolding symbols_of word_of
t27_broken = refl

-- module t; logic [3:0] a, b; assign {a, b} = 8'd3; initial b = null; endmodule
abbrev t28 : List Description
t28 = module_ (at 0 1 1) life.Unwritten (name (at 0 1 8) "t") None [] (items.Decl (decl life.Unwritten (types.WrittenType.Vector (at 0 1 11) vector_word.Logic sign.Unwritten (Some (range (at 0 1 17) (number (at 0 1 18) "3") (number (at 0 1 20) "0")))) (declarator (name (at 0 1 23) "a") None None ∷ declarator (name (at 0 1 26) "b") None None ∷ [])) ∷ items.Assign (assign_item (tree.Lval.Join (at 0 1 36) (targets (target (at 0 1 37) "a" ∷ target (at 0 1 40) "b" ∷ []))) (number (at 0 1 45) "8'd3") ∷ []) ∷ procedure (at 0 1 51) procedure_word.Initial (stmts.Statement (at 0 1 59) None (blocking (target (at 0 1 59) "b") None (stmts.Value (tree.Null (at 0 1 63))))) ∷ []) None ∷ []

t28_broken : broken t28 [] None ≡ Some (fault 20 0 1 59)
unfolding symbols_of word_of
t28_broken = refl

-- module t; logic [3:0] a, b; assign {a, b} = 8'd3; always_comb b = 1; endmodule
abbrev t29 : List Description
t29 = module_ (at 0 1 1) life.Unwritten (name (at 0 1 8) "t") None [] (items.Decl (decl life.Unwritten (types.WrittenType.Vector (at 0 1 11) vector_word.Logic sign.Unwritten (Some (range (at 0 1 17) (number (at 0 1 18) "3") (number (at 0 1 20) "0")))) (declarator (name (at 0 1 23) "a") None None ∷ declarator (name (at 0 1 26) "b") None None ∷ [])) ∷ items.Assign (assign_item (tree.Lval.Join (at 0 1 36) (targets (target (at 0 1 37) "a" ∷ target (at 0 1 40) "b" ∷ []))) (number (at 0 1 45) "8'd3") ∷ []) ∷ procedure (at 0 1 51) procedure_word.AlwaysComb (stmts.Statement (at 0 1 63) None (blocking (target (at 0 1 63) "b") None (stmts.Value (number (at 0 1 67) "1")))) ∷ []) None ∷ []

t29_broken : broken t29 [] None ≡ Some (fault 20 0 1 63)
unfolding symbols_of word_of
t29_broken = refl

-- module t; logic [3:0] a; assign a[0] = 8'hff; assign a[1] = 0; endmodule
abbrev t30 : List Description
t30 = module_ (at 0 1 1) life.Unwritten (name (at 0 1 8) "t") None [] (items.Decl (decl life.Unwritten (types.WrittenType.Vector (at 0 1 11) vector_word.Logic sign.Unwritten (Some (range (at 0 1 17) (number (at 0 1 18) "3") (number (at 0 1 20) "0")))) (declarator (name (at 0 1 23) "a") None None ∷ [])) ∷ items.Assign (assign_item (tree.Lval.Post (root.Plain (name (at 0 1 33) "a")) (tree.Select (at 0 1 34) (number (at 0 1 35) "0") tree.NoSuffix)) (number (at 0 1 40) "8'hff") ∷ []) ∷ items.Assign (assign_item (tree.Lval.Post (root.Plain (name (at 0 1 54) "a")) (tree.Select (at 0 1 55) (number (at 0 1 56) "1") tree.NoSuffix)) (number (at 0 1 61) "0") ∷ []) ∷ []) None ∷ []

t30_broken : broken t30 [] None ≡ Some (fault 20 0 1 54)
unfolding symbols_of word_of
t30_broken = refl

-- module t; logic [3:8'hff] a; assign a[0] = 1; assign a[1] = 0; endmodule
abbrev t31 : List Description
t31 = module_ (at 0 1 1) life.Unwritten (name (at 0 1 8) "t") None [] (items.Decl (decl life.Unwritten (types.WrittenType.Vector (at 0 1 11) vector_word.Logic sign.Unwritten (Some (range (at 0 1 17) (number (at 0 1 18) "3") (number (at 0 1 20) "8'hff")))) (declarator (name (at 0 1 27) "a") None None ∷ [])) ∷ items.Assign (assign_item (tree.Lval.Post (root.Plain (name (at 0 1 37) "a")) (tree.Select (at 0 1 38) (number (at 0 1 39) "0") tree.NoSuffix)) (number (at 0 1 44) "1") ∷ []) ∷ items.Assign (assign_item (tree.Lval.Post (root.Plain (name (at 0 1 54) "a")) (tree.Select (at 0 1 55) (number (at 0 1 56) "1") tree.NoSuffix)) (number (at 0 1 61) "0") ∷ []) ∷ []) None ∷ []

t31_broken : broken t31 [] None ≡ Some (fault 13 0 1 17)
unfolding symbols_of word_of
t31_broken = refl

-- module q; int q[$]; assign q[0] = 1; endmodule
abbrev t32 : List Description
t32 = module_ (at 0 1 1) life.Unwritten (name (at 0 1 8) "q") None [] (items.Decl (decl life.Unwritten (types.Atom (at 0 1 11) atom_word.Int sign.Unwritten) (declarator (name (at 0 1 15) "q") (Some (stmts.Queue (at 0 1 16))) None ∷ [])) ∷ items.Assign (assign_item (tree.Lval.Post (root.Plain (name (at 0 1 28) "q")) (tree.Select (at 0 1 29) (number (at 0 1 30) "0") tree.NoSuffix)) (number (at 0 1 35) "1") ∷ []) ∷ []) None ∷ []

t32_broken : broken t32 [] None ≡ Some (fault 18 0 1 28)
unfolding symbols_of word_of
t32_broken = refl

-- module zz; class A; static int x; endclass assign A::x = 1; endmodule
abbrev t33 : List Description
t33 = module_ (at 0 1 1) life.Unwritten (name (at 0 1 8) "zz") None [] (items.Class (class_ (at 0 1 12) false (name (at 0 1 18) "A") None (property (qualifiers false false true false) (decl life.Unwritten (types.Atom (at 0 1 28) atom_word.Int sign.Unwritten) (declarator (name (at 0 1 32) "x") None None ∷ [])) ∷ []) None) ∷ items.Assign (assign_item (tree.Lval.Post (root.Scoped (name (at 0 1 51) "A") (name (at 0 1 54) "x")) tree.NoSuffix) (number (at 0 1 58) "1") ∷ []) ∷ []) None ∷ []

t33_broken : broken t33 [] None ≡ Some (fault 18 0 1 51)
unfolding symbols_of word_of
t33_broken = refl

-- module t; class A; automatic int x; endclass assign A::x = 1; endmodule
abbrev t34 : List Description
t34 = module_ (at 0 1 1) life.Unwritten (name (at 0 1 8) "t") None [] (items.Class (class_ (at 0 1 11) false (name (at 0 1 17) "A") None (property unqualified (decl life.Automatic (types.Atom (at 0 1 30) atom_word.Int sign.Unwritten) (declarator (name (at 0 1 34) "x") None None ∷ [])) ∷ []) None) ∷ items.Assign (assign_item (tree.Lval.Post (root.Scoped (name (at 0 1 53) "A") (name (at 0 1 56) "x")) tree.NoSuffix) (number (at 0 1 60) "1") ∷ []) ∷ []) None ∷ []

t34_broken : broken t34 [] None ≡ Some (fault 39 0 1 56)
unfolding symbols_of word_of
t34_broken = refl

-- module t; class A; static int unsigned x; endclass assign A::x = 1; endmodule
abbrev t35 : List Description
t35 = module_ (at 0 1 1) life.Unwritten (name (at 0 1 8) "t") None [] (items.Class (class_ (at 0 1 11) false (name (at 0 1 17) "A") None (property (qualifiers false false true false) (decl life.Unwritten (types.Atom (at 0 1 27) atom_word.Int sign.Unsigned) (declarator (name (at 0 1 40) "x") None None ∷ [])) ∷ []) None) ∷ items.Assign (assign_item (tree.Lval.Post (root.Scoped (name (at 0 1 59) "A") (name (at 0 1 62) "x")) tree.NoSuffix) (number (at 0 1 66) "1") ∷ []) ∷ []) None ∷ []

t35_broken : broken t35 [] None ≡ Some (fault 18 0 1 59)
unfolding symbols_of word_of
t35_broken = refl

-- module u(output logic y); endmodule module t; logic [8'hff:0] a; u x(.y(a[0])); u z(.y(a[1])); endmodule
abbrev t36 : List Description
t36 = module_ (at 0 1 1) life.Unwritten (name (at 0 1 8) "u") None (port (Some port_direction.Output) false (types.Written (types.WrittenType.Vector (at 0 1 17) vector_word.Logic sign.Unwritten None)) (name (at 0 1 23) "y") ∷ []) [] None ∷ module_ (at 0 1 37) life.Unwritten (name (at 0 1 44) "t") None [] (items.Decl (decl life.Unwritten (types.WrittenType.Vector (at 0 1 47) vector_word.Logic sign.Unwritten (Some (range (at 0 1 53) (number (at 0 1 54) "8'hff") (number (at 0 1 60) "0")))) (declarator (name (at 0 1 63) "a") None None ∷ [])) ∷ instances (name (at 0 1 66) "u") [] (instance (name (at 0 1 68) "x") (units.Given (at 0 1 70) (name (at 0 1 71) "y") (Some (tree.Expr.Post (root.Plain (name (at 0 1 73) "a")) (tree.Select (at 0 1 74) (number (at 0 1 75) "0") tree.NoSuffix))) ∷ []) ∷ []) ∷ instances (name (at 0 1 81) "u") [] (instance (name (at 0 1 83) "z") (units.Given (at 0 1 85) (name (at 0 1 86) "y") (Some (tree.Expr.Post (root.Plain (name (at 0 1 88) "a")) (tree.Select (at 0 1 89) (number (at 0 1 90) "1") tree.NoSuffix))) ∷ []) ∷ []) ∷ []) None ∷ []

t36_broken : broken t36 [] None ≡ Some (fault 13 0 1 53)
unfolding symbols_of word_of
t36_broken = refl

-- module u(output logic y); endmodule module t; logic [0:0] a; u x(.y(a[0])); u z(.y(a[1])); endmodule
abbrev t37 : List Description
t37 = module_ (at 0 1 1) life.Unwritten (name (at 0 1 8) "u") None (port (Some port_direction.Output) false (types.Written (types.WrittenType.Vector (at 0 1 17) vector_word.Logic sign.Unwritten None)) (name (at 0 1 23) "y") ∷ []) [] None ∷ module_ (at 0 1 37) life.Unwritten (name (at 0 1 44) "t") None [] (items.Decl (decl life.Unwritten (types.WrittenType.Vector (at 0 1 47) vector_word.Logic sign.Unwritten (Some (range (at 0 1 53) (number (at 0 1 54) "0") (number (at 0 1 56) "0")))) (declarator (name (at 0 1 59) "a") None None ∷ [])) ∷ instances (name (at 0 1 62) "u") [] (instance (name (at 0 1 64) "x") (units.Given (at 0 1 66) (name (at 0 1 67) "y") (Some (tree.Expr.Post (root.Plain (name (at 0 1 69) "a")) (tree.Select (at 0 1 70) (number (at 0 1 71) "0") tree.NoSuffix))) ∷ []) ∷ []) ∷ instances (name (at 0 1 77) "u") [] (instance (name (at 0 1 79) "z") (units.Given (at 0 1 81) (name (at 0 1 82) "y") (Some (tree.Expr.Post (root.Plain (name (at 0 1 84) "a")) (tree.Select (at 0 1 85) (number (at 0 1 86) "1") tree.NoSuffix))) ∷ []) ∷ []) ∷ []) None ∷ []

t37_broken : broken t37 [] None ≡ Some (fault 20 0 1 84)
unfolding symbols_of word_of
t37_broken = refl

-- module a(output logic y); endmodule module t; logic [3:0] a; u x(.y(a[0])); u z(.y(a[1])); endmodule
abbrev t38 : List Description
t38 = module_ (at 0 1 1) life.Unwritten (name (at 0 1 8) "a") None (port (Some port_direction.Output) false (types.Written (types.WrittenType.Vector (at 0 1 17) vector_word.Logic sign.Unwritten None)) (name (at 0 1 23) "y") ∷ []) [] None ∷ module_ (at 0 1 37) life.Unwritten (name (at 0 1 44) "t") None [] (items.Decl (decl life.Unwritten (types.WrittenType.Vector (at 0 1 47) vector_word.Logic sign.Unwritten (Some (range (at 0 1 53) (number (at 0 1 54) "3") (number (at 0 1 56) "0")))) (declarator (name (at 0 1 59) "a") None None ∷ [])) ∷ instances (name (at 0 1 62) "u") [] (instance (name (at 0 1 64) "x") (units.Given (at 0 1 66) (name (at 0 1 67) "y") (Some (tree.Expr.Post (root.Plain (name (at 0 1 69) "a")) (tree.Select (at 0 1 70) (number (at 0 1 71) "0") tree.NoSuffix))) ∷ []) ∷ []) ∷ instances (name (at 0 1 77) "u") [] (instance (name (at 0 1 79) "z") (units.Given (at 0 1 81) (name (at 0 1 82) "y") (Some (tree.Expr.Post (root.Plain (name (at 0 1 84) "a")) (tree.Select (at 0 1 85) (number (at 0 1 86) "1") tree.NoSuffix))) ∷ []) ∷ []) ∷ []) None ∷ []

t38_broken : broken t38 [] None ≡ Some (fault 2 0 1 62)
unfolding symbols_of word_of
t38_broken = refl

-- module u(output logic [3:0] y); endmodule module u; string s; u x(s); endmodule
abbrev t39 : List Description
t39 = module_ (at 0 1 1) life.Unwritten (name (at 0 1 8) "u") None (port (Some port_direction.Output) false (types.Written (types.WrittenType.Vector (at 0 1 17) vector_word.Logic sign.Unwritten (Some (range (at 0 1 23) (number (at 0 1 24) "3") (number (at 0 1 26) "0"))))) (name (at 0 1 29) "y") ∷ []) [] None ∷ module_ (at 0 1 43) life.Unwritten (name (at 0 1 50) "u") None [] (items.Decl (decl life.Unwritten (types.Text (at 0 1 53)) (declarator (name (at 0 1 60) "s") None None ∷ [])) ∷ instances (name (at 0 1 63) "u") [] (instance (name (at 0 1 65) "x") (units.Connection.Value (plain (at 0 1 67) "s") ∷ []) ∷ []) ∷ []) None ∷ []

t39_broken : broken t39 [] None ≡ Some (fault 4 0 1 1)
unfolding symbols_of word_of
t39_broken = refl

-- module u(output logic [3:0] y); endmodule module t; string s; zz x(s); endmodule
abbrev t40 : List Description
t40 = module_ (at 0 1 1) life.Unwritten (name (at 0 1 8) "u") None (port (Some port_direction.Output) false (types.Written (types.WrittenType.Vector (at 0 1 17) vector_word.Logic sign.Unwritten (Some (range (at 0 1 23) (number (at 0 1 24) "3") (number (at 0 1 26) "0"))))) (name (at 0 1 29) "y") ∷ []) [] None ∷ module_ (at 0 1 43) life.Unwritten (name (at 0 1 50) "t") None [] (items.Decl (decl life.Unwritten (types.Text (at 0 1 53)) (declarator (name (at 0 1 60) "s") None None ∷ [])) ∷ instances (name (at 0 1 63) "zz") [] (instance (name (at 0 1 66) "x") (units.Connection.Value (plain (at 0 1 68) "s") ∷ []) ∷ []) ∷ []) None ∷ []

t40_broken : broken t40 [] None ≡ Some (fault 2 0 1 63)
unfolding symbols_of word_of
t40_broken = refl

-- module t; logic a; always_comb a = 1; initial @(posedge a) a <= 0; endmodule
abbrev t41 : List Description
t41 = module_ (at 0 1 1) life.Unwritten (name (at 0 1 8) "t") None [] (items.Decl (decl life.Unwritten (types.WrittenType.Vector (at 0 1 11) vector_word.Logic sign.Unwritten None) (declarator (name (at 0 1 17) "a") None None ∷ [])) ∷ procedure (at 0 1 20) procedure_word.AlwaysComb (stmts.Statement (at 0 1 32) None (blocking (target (at 0 1 32) "a") None (stmts.Value (number (at 0 1 36) "1")))) ∷ procedure (at 0 1 39) procedure_word.Initial (stmts.Statement (at 0 1 47) None (stmts.On (stmts.Parts (event_part edge.Posedge (plain (at 0 1 57) "a") None ∷ [])) (stmts.Statement (at 0 1 60) None (nonblocking (target (at 0 1 60) "a") None (number (at 0 1 65) "0"))))) ∷ []) None ∷ []

t41_broken : broken t41 [] None ≡ Some (fault 22 0 1 60)
unfolding symbols_of word_of
t41_broken = refl

-- module t; logic a; always_comb a = 1; always_ff @(posedge a) a <= 8'hff; endmodule
abbrev t42 : List Description
t42 = module_ (at 0 1 1) life.Unwritten (name (at 0 1 8) "t") None [] (items.Decl (decl life.Unwritten (types.WrittenType.Vector (at 0 1 11) vector_word.Logic sign.Unwritten None) (declarator (name (at 0 1 17) "a") None None ∷ [])) ∷ procedure (at 0 1 20) procedure_word.AlwaysComb (stmts.Statement (at 0 1 32) None (blocking (target (at 0 1 32) "a") None (stmts.Value (number (at 0 1 36) "1")))) ∷ procedure (at 0 1 39) procedure_word.AlwaysFf (stmts.Statement (at 0 1 49) None (stmts.On (stmts.Parts (event_part edge.Posedge (plain (at 0 1 59) "a") None ∷ [])) (stmts.Statement (at 0 1 62) None (nonblocking (target (at 0 1 62) "a") None (number (at 0 1 67) "8'hff"))))) ∷ []) None ∷ []

t42_broken : broken t42 [] None ≡ Some (fault 22 0 1 62)
unfolding symbols_of word_of
t42_broken = refl

-- module zz; logic a; always_comb a = 1; always_ff @(posedge a) a <= 0; endmodule
abbrev t43 : List Description
t43 = module_ (at 0 1 1) life.Unwritten (name (at 0 1 8) "zz") None [] (items.Decl (decl life.Unwritten (types.WrittenType.Vector (at 0 1 12) vector_word.Logic sign.Unwritten None) (declarator (name (at 0 1 18) "a") None None ∷ [])) ∷ procedure (at 0 1 21) procedure_word.AlwaysComb (stmts.Statement (at 0 1 33) None (blocking (target (at 0 1 33) "a") None (stmts.Value (number (at 0 1 37) "1")))) ∷ procedure (at 0 1 40) procedure_word.AlwaysFf (stmts.Statement (at 0 1 50) None (stmts.On (stmts.Parts (event_part edge.Posedge (plain (at 0 1 60) "a") None ∷ [])) (stmts.Statement (at 0 1 63) None (nonblocking (target (at 0 1 63) "a") None (number (at 0 1 68) "0"))))) ∷ []) None ∷ []

t43_broken : broken t43 [] None ≡ Some (fault 22 0 1 63)
unfolding symbols_of word_of
t43_broken = refl

-- module a; logic a; always_comb a = 1; always_ff @(posedge a) a <= 0; endmodule
abbrev t44 : List Description
t44 = module_ (at 0 1 1) life.Unwritten (name (at 0 1 8) "a") None [] (items.Decl (decl life.Unwritten (types.WrittenType.Vector (at 0 1 11) vector_word.Logic sign.Unwritten None) (declarator (name (at 0 1 17) "a") None None ∷ [])) ∷ procedure (at 0 1 20) procedure_word.AlwaysComb (stmts.Statement (at 0 1 32) None (blocking (target (at 0 1 32) "a") None (stmts.Value (number (at 0 1 36) "1")))) ∷ procedure (at 0 1 39) procedure_word.AlwaysFf (stmts.Statement (at 0 1 49) None (stmts.On (stmts.Parts (event_part edge.Posedge (plain (at 0 1 59) "a") None ∷ [])) (stmts.Statement (at 0 1 62) None (nonblocking (target (at 0 1 62) "a") None (number (at 0 1 67) "0"))))) ∷ []) None ∷ []

t44_broken : broken t44 [] None ≡ Some (fault 22 0 1 62)
unfolding symbols_of word_of
t44_broken = refl

-- module t; logic a; always_comb a <= 1; always_ff @(posedge a) a <= 0; endmodule
abbrev t45 : List Description
t45 = module_ (at 0 1 1) life.Unwritten (name (at 0 1 8) "t") None [] (items.Decl (decl life.Unwritten (types.WrittenType.Vector (at 0 1 11) vector_word.Logic sign.Unwritten None) (declarator (name (at 0 1 17) "a") None None ∷ [])) ∷ procedure (at 0 1 20) procedure_word.AlwaysComb (stmts.Statement (at 0 1 32) None (nonblocking (target (at 0 1 32) "a") None (number (at 0 1 37) "1"))) ∷ procedure (at 0 1 40) procedure_word.AlwaysFf (stmts.Statement (at 0 1 50) None (stmts.On (stmts.Parts (event_part edge.Posedge (plain (at 0 1 60) "a") None ∷ [])) (stmts.Statement (at 0 1 63) None (nonblocking (target (at 0 1 63) "a") None (number (at 0 1 68) "0"))))) ∷ []) None ∷ []

t45_broken : broken t45 [] None ≡ Some (fault 22 0 1 63)
unfolding symbols_of word_of
t45_broken = refl

-- module t; logic a; function  f(); a = 1; endfunction always_comb f(); initial f(); endmodule
abbrev t46 : List Description
t46 = module_ (at 0 1 1) life.Unwritten (name (at 0 1 8) "t") None [] (items.Decl (decl life.Unwritten (types.WrittenType.Vector (at 0 1 11) vector_word.Logic sign.Unwritten None) (declarator (name (at 0 1 17) "a") None None ∷ [])) ∷ items.Routine (routine (head (at 0 1 20) life.Unwritten (units.Returns.Value types.Unwritten) (name (at 0 1 30) "f") []) [] (stmts.Statement (at 0 1 35) None (blocking (target (at 0 1 35) "a") None (stmts.Value (number (at 0 1 39) "1"))) ∷ []) None) ∷ procedure (at 0 1 54) procedure_word.AlwaysComb (stmts.Statement (at 0 1 66) None (stmts.Call (tree.Expr.Post (root.Plain (name (at 0 1 66) "f")) (tree.Call (at 0 1 67) tree.NoExpr tree.NoSuffix)))) ∷ procedure (at 0 1 71) procedure_word.Initial (stmts.Statement (at 0 1 79) None (stmts.Call (tree.Expr.Post (root.Plain (name (at 0 1 79) "f")) (tree.Call (at 0 1 80) tree.NoExpr tree.NoSuffix)))) ∷ []) None ∷ []

t46_broken : broken t46 [] None ≡ Some (fault 22 0 1 35)
unfolding symbols_of word_of
t46_broken = refl

-- module t; ; logic a; function void f(); a = 1; endfunction always_comb f(); initial f(); endmodule
abbrev t47 : List Description
t47 = module_ (at 0 1 1) life.Unwritten (name (at 0 1 8) "t") None [] (items.Null ∷ items.Decl (decl life.Unwritten (types.WrittenType.Vector (at 0 1 13) vector_word.Logic sign.Unwritten None) (declarator (name (at 0 1 19) "a") None None ∷ [])) ∷ items.Routine (routine (head (at 0 1 22) life.Unwritten units.Void (name (at 0 1 36) "f") []) [] (stmts.Statement (at 0 1 41) None (blocking (target (at 0 1 41) "a") None (stmts.Value (number (at 0 1 45) "1"))) ∷ []) None) ∷ procedure (at 0 1 60) procedure_word.AlwaysComb (stmts.Statement (at 0 1 72) None (stmts.Call (tree.Expr.Post (root.Plain (name (at 0 1 72) "f")) (tree.Call (at 0 1 73) tree.NoExpr tree.NoSuffix)))) ∷ procedure (at 0 1 77) procedure_word.Initial (stmts.Statement (at 0 1 85) None (stmts.Call (tree.Expr.Post (root.Plain (name (at 0 1 85) "f")) (tree.Call (at 0 1 86) tree.NoExpr tree.NoSuffix)))) ∷ []) None ∷ []

t47_broken : broken t47 [] None ≡ Some (fault 22 0 1 41)
unfolding symbols_of word_of
t47_broken = refl

-- class A; virtual function void f(); endfunction endclass module t; logic a; class B extends x; virtual function void f(); a = 1; endfunction endclass A x; always_comb begin x.f(); end initial a = 0; endmodule
abbrev t48 : List Description
t48 = descriptions.Item (items.Class (class_ (at 0 1 1) false (name (at 0 1 7) "A") None (method (qualifiers false false false true) (routine (head (at 0 1 18) life.Unwritten units.Void (name (at 0 1 32) "f") []) [] [] None) ∷ []) None)) ∷ module_ (at 0 1 58) life.Unwritten (name (at 0 1 65) "t") None [] (items.Decl (decl life.Unwritten (types.WrittenType.Vector (at 0 1 68) vector_word.Logic sign.Unwritten None) (declarator (name (at 0 1 74) "a") None None ∷ [])) ∷ items.Class (class_ (at 0 1 77) false (name (at 0 1 83) "B") (Some (name (at 0 1 93) "x")) (method (qualifiers false false false true) (routine (head (at 0 1 104) life.Unwritten units.Void (name (at 0 1 118) "f") []) [] (stmts.Statement (at 0 1 123) None (blocking (target (at 0 1 123) "a") None (stmts.Value (number (at 0 1 127) "1"))) ∷ []) None) ∷ []) None) ∷ items.Decl (decl life.Unwritten (types.Named (name (at 0 1 151) "A")) (declarator (name (at 0 1 153) "x") None None ∷ [])) ∷ procedure (at 0 1 156) procedure_word.AlwaysComb (stmts.Statement (at 0 1 168) None (stmts.Block None [] (statements (stmts.Statement (at 0 1 174) None (stmts.Call (tree.Expr.Post (root.Plain (name (at 0 1 174) "x")) (tree.Member (name (at 0 1 176) "f") (tree.Call (at 0 1 177) tree.NoExpr tree.NoSuffix)))) ∷ [])) None)) ∷ procedure (at 0 1 185) procedure_word.Initial (stmts.Statement (at 0 1 193) None (blocking (target (at 0 1 193) "a") None (stmts.Value (number (at 0 1 197) "0")))) ∷ []) None ∷ []

t48_broken : broken t48 [] None ≡ Some (fault 33 0 1 93)
unfolding symbols_of word_of
t48_broken = refl

-- module t(input logic a, output  b); initial a = 1; endmodule
abbrev t49 : List Description
t49 = module_ (at 0 1 1) life.Unwritten (name (at 0 1 8) "t") None (port (Some port_direction.Input) false (types.Written (types.WrittenType.Vector (at 0 1 16) vector_word.Logic sign.Unwritten None)) (name (at 0 1 22) "a") ∷ port (Some port_direction.Output) false types.Unwritten (name (at 0 1 33) "b") ∷ []) (procedure (at 0 1 37) procedure_word.Initial (stmts.Statement (at 0 1 45) None (blocking (target (at 0 1 45) "a") None (stmts.Value (number (at 0 1 49) "1")))) ∷ []) None ∷ []

t49_broken : broken t49 [] None ≡ Some (fault 19 0 1 45)
unfolding symbols_of word_of
t49_broken = refl

-- module t(input logic a, output logic b); initial a = '1; endmodule
abbrev t50 : List Description
t50 = module_ (at 0 1 1) life.Unwritten (name (at 0 1 8) "t") None (port (Some port_direction.Input) false (types.Written (types.WrittenType.Vector (at 0 1 16) vector_word.Logic sign.Unwritten None)) (name (at 0 1 22) "a") ∷ port (Some port_direction.Output) false (types.Written (types.WrittenType.Vector (at 0 1 32) vector_word.Logic sign.Unwritten None)) (name (at 0 1 38) "b") ∷ []) (procedure (at 0 1 42) procedure_word.Initial (stmts.Statement (at 0 1 50) None (blocking (target (at 0 1 50) "a") None (stmts.Value (number (at 0 1 54) "'1")))) ∷ []) None ∷ []

t50_broken : broken t50 [] None ≡ Some (fault 19 0 1 50)
unfolding symbols_of word_of
t50_broken = refl

-- module t; enum {A, B} e; initial A = B; always_comb e++; endmodule
abbrev t51 : List Description
t51 = module_ (at 0 1 1) life.Unwritten (name (at 0 1 8) "t") None [] (items.Decl (decl life.Unwritten (types.Enum (at 0 1 11) (enum_item (name (at 0 1 17) "A") None ∷ enum_item (name (at 0 1 20) "B") None ∷ [])) (declarator (name (at 0 1 23) "e") None None ∷ [])) ∷ procedure (at 0 1 26) procedure_word.Initial (stmts.Statement (at 0 1 34) None (blocking (target (at 0 1 34) "A") None (stmts.Value (plain (at 0 1 38) "B")))) ∷ procedure (at 0 1 41) procedure_word.AlwaysComb (stmts.Statement (at 0 1 53) None (stmts.Body.Step (target (at 0 1 53) "e") step_word.Increment)) ∷ []) None ∷ []

t51_broken : broken t51 [] None ≡ Some (fault 18 0 1 34)
unfolding symbols_of word_of
t51_broken = refl

-- module t; enum {A, B} e; initial A = e; initial e++; endmodule
abbrev t52 : List Description
t52 = module_ (at 0 1 1) life.Unwritten (name (at 0 1 8) "t") None [] (items.Decl (decl life.Unwritten (types.Enum (at 0 1 11) (enum_item (name (at 0 1 17) "A") None ∷ enum_item (name (at 0 1 20) "B") None ∷ [])) (declarator (name (at 0 1 23) "e") None None ∷ [])) ∷ procedure (at 0 1 26) procedure_word.Initial (stmts.Statement (at 0 1 34) None (blocking (target (at 0 1 34) "A") None (stmts.Value (plain (at 0 1 38) "e")))) ∷ procedure (at 0 1 41) procedure_word.Initial (stmts.Statement (at 0 1 49) None (stmts.Body.Step (target (at 0 1 49) "e") step_word.Increment)) ∷ []) None ∷ []

t52_broken : broken t52 [] None ≡ Some (fault 18 0 1 34)
unfolding symbols_of word_of
t52_broken = refl

-- module t; enum {A, B} e; initial B = B; initial e++; endmodule
abbrev t53 : List Description
t53 = module_ (at 0 1 1) life.Unwritten (name (at 0 1 8) "t") None [] (items.Decl (decl life.Unwritten (types.Enum (at 0 1 11) (enum_item (name (at 0 1 17) "A") None ∷ enum_item (name (at 0 1 20) "B") None ∷ [])) (declarator (name (at 0 1 23) "e") None None ∷ [])) ∷ procedure (at 0 1 26) procedure_word.Initial (stmts.Statement (at 0 1 34) None (blocking (target (at 0 1 34) "B") None (stmts.Value (plain (at 0 1 38) "B")))) ∷ procedure (at 0 1 41) procedure_word.Initial (stmts.Statement (at 0 1 49) None (stmts.Body.Step (target (at 0 1 49) "e") step_word.Increment)) ∷ []) None ∷ []

t53_broken : broken t53 [] None ≡ Some (fault 18 0 1 34)
unfolding symbols_of word_of
t53_broken = refl

-- module t; enum {t, B} e; initial e += 1; endmodule
abbrev t54 : List Description
t54 = module_ (at 0 1 1) life.Unwritten (name (at 0 1 8) "t") None [] (items.Decl (decl life.Unwritten (types.Enum (at 0 1 11) (enum_item (name (at 0 1 17) "t") None ∷ enum_item (name (at 0 1 20) "B") None ∷ [])) (declarator (name (at 0 1 23) "e") None None ∷ [])) ∷ procedure (at 0 1 26) procedure_word.Initial (stmts.Statement (at 0 1 34) None (stmts.Body.Operator (operated (target (at 0 1 34) "e") binary_word.Plus (number (at 0 1 39) "1")))) ∷ []) None ∷ []

t54_broken : broken t54 [] None ≡ Some (fault 17 0 1 39)
unfolding symbols_of word_of
t54_broken = refl
