-- Texts that differ in a word or two from others: classes, their members and handles.
use Rattle.std.proofs.Common.{◌≡◌, List, [], ◌∷◌, true, false, refl}
use Rattle.std.specs.Prelude.{Some, None}
use Rattle.sv_value.specs.Vector.{symbols_of, word_of}
use Rattle.sv_tree.specs.declared.word.BinaryWord.TheVariants as binary_word
use Rattle.sv_tree.specs.declared.word.VectorWord.TheVariants as vector_word
use Rattle.sv_tree.specs.declared.word.AtomWord.TheVariants as atom_word
use Rattle.sv_tree.specs.declared.word.Sign.TheVariants as sign
use Rattle.sv_tree.specs.declared.word.Life.TheVariants as life
use Rattle.sv_tree.specs.declared.word.StepWord.TheVariants as step_word
use Rattle.sv_tree.specs.declared.word.ProcedureWord.TheVariants as procedure_word
use Rattle.sv_tree.specs.declared.word.Direction.TheVariants as direction
use Rattle.sv_tree.specs.declared.expr.Root.TheVariants as root
use Rattle.sv_tree.specs.Expr as tree
use Rattle.sv_tree.specs.Types as types
use Rattle.sv_tree.specs.Stmt as stmts
use Rattle.sv_tree.specs.Units as units
use Rattle.sv_tree.specs.Classes as classes
use Rattle.sv_tree.specs.Items as items
use Rattle.sv_tree.specs.Descriptions as descriptions
use Rattle.sv_tree.specs.Descriptions.{Description}
use Rattle.sv_names.specs.Design.{broken}
use Rattle.sv_names_rows.proofs.Kit.{argument, at, blocking, class_, decl, declarator, expressions, fault, head, method, module_, name, nonblocking, number, operated, plain, procedure, property, pure_method, qualifiers, routine, statements, system, target, text, unqualified}

-- module t; class C; int a[2]; int b = 7; string s[3]; function void set(int i, int v); a[i] = v; s[i] = "x"; endfunction endclass C c; initial begin c = new; c.set(1, 4); c.a[0] = c.c[1] + c.b; $display("%0d %0d %0d %s|%s", c.a[0], c.a[1], c.b, c.s[1], c.s[0]); end endmodule
abbrev t1 : List Description
t1 = module_ (at 0 1 1) life.Unwritten (name (at 0 1 8) "t") None [] (items.Class (class_ (at 0 1 11) false (name (at 0 1 17) "C") None (property unqualified (decl life.Unwritten (types.Atom (at 0 1 20) atom_word.Int sign.Unwritten) (declarator (name (at 0 1 24) "a") (Some (stmts.Size (at 0 1 25) (number (at 0 1 26) "2"))) None ∷ [])) ∷ property unqualified (decl life.Unwritten (types.Atom (at 0 1 30) atom_word.Int sign.Unwritten) (declarator (name (at 0 1 34) "b") None (Some (stmts.Value (number (at 0 1 38) "7"))) ∷ [])) ∷ property unqualified (decl life.Unwritten (types.Text (at 0 1 41)) (declarator (name (at 0 1 48) "s") (Some (stmts.Size (at 0 1 49) (number (at 0 1 50) "3"))) None ∷ [])) ∷ method unqualified (routine (head (at 0 1 54) life.Unwritten units.Void (name (at 0 1 68) "set") (argument None (types.Written (types.Atom (at 0 1 72) atom_word.Int sign.Unwritten)) (name (at 0 1 76) "i") None ∷ argument None (types.Written (types.Atom (at 0 1 79) atom_word.Int sign.Unwritten)) (name (at 0 1 83) "v") None ∷ [])) [] (stmts.Statement (at 0 1 87) None (blocking (tree.Lval.Post (root.Plain (name (at 0 1 87) "a")) (tree.Select (at 0 1 88) (plain (at 0 1 89) "i") tree.NoSuffix)) None (stmts.Value (plain (at 0 1 94) "v"))) ∷ stmts.Statement (at 0 1 97) None (blocking (tree.Lval.Post (root.Plain (name (at 0 1 97) "s")) (tree.Select (at 0 1 98) (plain (at 0 1 99) "i") tree.NoSuffix)) None (stmts.Value (text (at 0 1 104) "x"))) ∷ []) None) ∷ []) None) ∷ items.Decl (decl life.Unwritten (types.Named (name (at 0 1 130) "C")) (declarator (name (at 0 1 132) "c") None None ∷ [])) ∷ procedure (at 0 1 135) procedure_word.Initial (stmts.Statement (at 0 1 143) None (stmts.Block None [] (statements (stmts.Statement (at 0 1 149) None (blocking (target (at 0 1 149) "c") None (stmts.New (at 0 1 153) tree.Unwritten)) ∷ stmts.Statement (at 0 1 158) None (stmts.Call (tree.Expr.Post (root.Plain (name (at 0 1 158) "c")) (tree.Member (name (at 0 1 160) "set") (tree.Call (at 0 1 163) (expressions (number (at 0 1 164) "1" ∷ number (at 0 1 167) "4" ∷ [])) tree.NoSuffix)))) ∷ stmts.Statement (at 0 1 171) None (blocking (tree.Lval.Post (root.Plain (name (at 0 1 171) "c")) (tree.Member (name (at 0 1 173) "a") (tree.Select (at 0 1 174) (number (at 0 1 175) "0") tree.NoSuffix))) None (stmts.Value (tree.Binary binary_word.Plus (at 0 1 187) (tree.Expr.Post (root.Plain (name (at 0 1 180) "c")) (tree.Member (name (at 0 1 182) "c") (tree.Select (at 0 1 183) (number (at 0 1 184) "1") tree.NoSuffix))) (tree.Expr.Post (root.Plain (name (at 0 1 189) "c")) (tree.Member (name (at 0 1 191) "b") tree.NoSuffix))))) ∷ stmts.Statement (at 0 1 194) None (stmts.Call (system (at 0 1 194) "$display" (text (at 0 1 203) "%0d %0d %0d %s|%s" ∷ tree.Expr.Post (root.Plain (name (at 0 1 224) "c")) (tree.Member (name (at 0 1 226) "a") (tree.Select (at 0 1 227) (number (at 0 1 228) "0") tree.NoSuffix)) ∷ tree.Expr.Post (root.Plain (name (at 0 1 232) "c")) (tree.Member (name (at 0 1 234) "a") (tree.Select (at 0 1 235) (number (at 0 1 236) "1") tree.NoSuffix)) ∷ tree.Expr.Post (root.Plain (name (at 0 1 240) "c")) (tree.Member (name (at 0 1 242) "b") tree.NoSuffix) ∷ tree.Expr.Post (root.Plain (name (at 0 1 245) "c")) (tree.Member (name (at 0 1 247) "s") (tree.Select (at 0 1 248) (number (at 0 1 249) "1") tree.NoSuffix)) ∷ tree.Expr.Post (root.Plain (name (at 0 1 253) "c")) (tree.Member (name (at 0 1 255) "s") (tree.Select (at 0 1 256) (number (at 0 1 257) "0") tree.NoSuffix)) ∷ []))) ∷ [])) None)) ∷ []) None ∷ []

t1_broken : broken t1 [] None ≡ Some (fault 36 0 1 182)
unfolding symbols_of word_of
t1_broken = refl

-- module t; class C; int a[2]; int b = 7; string s[3]; function void set(int i, int a); a[i] = v; s[i] = "x"; endfunction endclass C c; initial begin c = new; c.set(1, 4); c.a[0] = c.a[1] + c.b; $display("%0d %0d %0d %s|%s", c.a[0], c.a[1], c.b, c.s[1], c.s[0]); end endmodule
abbrev t2 : List Description
t2 = module_ (at 0 1 1) life.Unwritten (name (at 0 1 8) "t") None [] (items.Class (class_ (at 0 1 11) false (name (at 0 1 17) "C") None (property unqualified (decl life.Unwritten (types.Atom (at 0 1 20) atom_word.Int sign.Unwritten) (declarator (name (at 0 1 24) "a") (Some (stmts.Size (at 0 1 25) (number (at 0 1 26) "2"))) None ∷ [])) ∷ property unqualified (decl life.Unwritten (types.Atom (at 0 1 30) atom_word.Int sign.Unwritten) (declarator (name (at 0 1 34) "b") None (Some (stmts.Value (number (at 0 1 38) "7"))) ∷ [])) ∷ property unqualified (decl life.Unwritten (types.Text (at 0 1 41)) (declarator (name (at 0 1 48) "s") (Some (stmts.Size (at 0 1 49) (number (at 0 1 50) "3"))) None ∷ [])) ∷ method unqualified (routine (head (at 0 1 54) life.Unwritten units.Void (name (at 0 1 68) "set") (argument None (types.Written (types.Atom (at 0 1 72) atom_word.Int sign.Unwritten)) (name (at 0 1 76) "i") None ∷ argument None (types.Written (types.Atom (at 0 1 79) atom_word.Int sign.Unwritten)) (name (at 0 1 83) "a") None ∷ [])) [] (stmts.Statement (at 0 1 87) None (blocking (tree.Lval.Post (root.Plain (name (at 0 1 87) "a")) (tree.Select (at 0 1 88) (plain (at 0 1 89) "i") tree.NoSuffix)) None (stmts.Value (plain (at 0 1 94) "v"))) ∷ stmts.Statement (at 0 1 97) None (blocking (tree.Lval.Post (root.Plain (name (at 0 1 97) "s")) (tree.Select (at 0 1 98) (plain (at 0 1 99) "i") tree.NoSuffix)) None (stmts.Value (text (at 0 1 104) "x"))) ∷ []) None) ∷ []) None) ∷ items.Decl (decl life.Unwritten (types.Named (name (at 0 1 130) "C")) (declarator (name (at 0 1 132) "c") None None ∷ [])) ∷ procedure (at 0 1 135) procedure_word.Initial (stmts.Statement (at 0 1 143) None (stmts.Block None [] (statements (stmts.Statement (at 0 1 149) None (blocking (target (at 0 1 149) "c") None (stmts.New (at 0 1 153) tree.Unwritten)) ∷ stmts.Statement (at 0 1 158) None (stmts.Call (tree.Expr.Post (root.Plain (name (at 0 1 158) "c")) (tree.Member (name (at 0 1 160) "set") (tree.Call (at 0 1 163) (expressions (number (at 0 1 164) "1" ∷ number (at 0 1 167) "4" ∷ [])) tree.NoSuffix)))) ∷ stmts.Statement (at 0 1 171) None (blocking (tree.Lval.Post (root.Plain (name (at 0 1 171) "c")) (tree.Member (name (at 0 1 173) "a") (tree.Select (at 0 1 174) (number (at 0 1 175) "0") tree.NoSuffix))) None (stmts.Value (tree.Binary binary_word.Plus (at 0 1 187) (tree.Expr.Post (root.Plain (name (at 0 1 180) "c")) (tree.Member (name (at 0 1 182) "a") (tree.Select (at 0 1 183) (number (at 0 1 184) "1") tree.NoSuffix))) (tree.Expr.Post (root.Plain (name (at 0 1 189) "c")) (tree.Member (name (at 0 1 191) "b") tree.NoSuffix))))) ∷ stmts.Statement (at 0 1 194) None (stmts.Call (system (at 0 1 194) "$display" (text (at 0 1 203) "%0d %0d %0d %s|%s" ∷ tree.Expr.Post (root.Plain (name (at 0 1 224) "c")) (tree.Member (name (at 0 1 226) "a") (tree.Select (at 0 1 227) (number (at 0 1 228) "0") tree.NoSuffix)) ∷ tree.Expr.Post (root.Plain (name (at 0 1 232) "c")) (tree.Member (name (at 0 1 234) "a") (tree.Select (at 0 1 235) (number (at 0 1 236) "1") tree.NoSuffix)) ∷ tree.Expr.Post (root.Plain (name (at 0 1 240) "c")) (tree.Member (name (at 0 1 242) "b") tree.NoSuffix) ∷ tree.Expr.Post (root.Plain (name (at 0 1 245) "c")) (tree.Member (name (at 0 1 247) "s") (tree.Select (at 0 1 248) (number (at 0 1 249) "1") tree.NoSuffix)) ∷ tree.Expr.Post (root.Plain (name (at 0 1 253) "c")) (tree.Member (name (at 0 1 255) "s") (tree.Select (at 0 1 256) (number (at 0 1 257) "0") tree.NoSuffix)) ∷ []))) ∷ [])) None)) ∷ []) None ∷ []

t2_broken : broken t2 [] None ≡ Some (fault 6 0 1 94)
unfolding symbols_of word_of
t2_broken = refl

-- module t; class C; int a[2]; int b = 7; string s[3]; function void i(int i, int v); a[i] = v; s[i] = "x"; endfunction endclass C c; initial begin c = new; c.set(1, 4); c.a[0] = c.a[1] + c.b; $display("%0d %0d %0d %s|%s", c.a[0], c.a[1], c.b, c.s[1], c.s[0]); end endmodule
abbrev t3 : List Description
t3 = module_ (at 0 1 1) life.Unwritten (name (at 0 1 8) "t") None [] (items.Class (class_ (at 0 1 11) false (name (at 0 1 17) "C") None (property unqualified (decl life.Unwritten (types.Atom (at 0 1 20) atom_word.Int sign.Unwritten) (declarator (name (at 0 1 24) "a") (Some (stmts.Size (at 0 1 25) (number (at 0 1 26) "2"))) None ∷ [])) ∷ property unqualified (decl life.Unwritten (types.Atom (at 0 1 30) atom_word.Int sign.Unwritten) (declarator (name (at 0 1 34) "b") None (Some (stmts.Value (number (at 0 1 38) "7"))) ∷ [])) ∷ property unqualified (decl life.Unwritten (types.Text (at 0 1 41)) (declarator (name (at 0 1 48) "s") (Some (stmts.Size (at 0 1 49) (number (at 0 1 50) "3"))) None ∷ [])) ∷ method unqualified (routine (head (at 0 1 54) life.Unwritten units.Void (name (at 0 1 68) "i") (argument None (types.Written (types.Atom (at 0 1 70) atom_word.Int sign.Unwritten)) (name (at 0 1 74) "i") None ∷ argument None (types.Written (types.Atom (at 0 1 77) atom_word.Int sign.Unwritten)) (name (at 0 1 81) "v") None ∷ [])) [] (stmts.Statement (at 0 1 85) None (blocking (tree.Lval.Post (root.Plain (name (at 0 1 85) "a")) (tree.Select (at 0 1 86) (plain (at 0 1 87) "i") tree.NoSuffix)) None (stmts.Value (plain (at 0 1 92) "v"))) ∷ stmts.Statement (at 0 1 95) None (blocking (tree.Lval.Post (root.Plain (name (at 0 1 95) "s")) (tree.Select (at 0 1 96) (plain (at 0 1 97) "i") tree.NoSuffix)) None (stmts.Value (text (at 0 1 102) "x"))) ∷ []) None) ∷ []) None) ∷ items.Decl (decl life.Unwritten (types.Named (name (at 0 1 128) "C")) (declarator (name (at 0 1 130) "c") None None ∷ [])) ∷ procedure (at 0 1 133) procedure_word.Initial (stmts.Statement (at 0 1 141) None (stmts.Block None [] (statements (stmts.Statement (at 0 1 147) None (blocking (target (at 0 1 147) "c") None (stmts.New (at 0 1 151) tree.Unwritten)) ∷ stmts.Statement (at 0 1 156) None (stmts.Call (tree.Expr.Post (root.Plain (name (at 0 1 156) "c")) (tree.Member (name (at 0 1 158) "set") (tree.Call (at 0 1 161) (expressions (number (at 0 1 162) "1" ∷ number (at 0 1 165) "4" ∷ [])) tree.NoSuffix)))) ∷ stmts.Statement (at 0 1 169) None (blocking (tree.Lval.Post (root.Plain (name (at 0 1 169) "c")) (tree.Member (name (at 0 1 171) "a") (tree.Select (at 0 1 172) (number (at 0 1 173) "0") tree.NoSuffix))) None (stmts.Value (tree.Binary binary_word.Plus (at 0 1 185) (tree.Expr.Post (root.Plain (name (at 0 1 178) "c")) (tree.Member (name (at 0 1 180) "a") (tree.Select (at 0 1 181) (number (at 0 1 182) "1") tree.NoSuffix))) (tree.Expr.Post (root.Plain (name (at 0 1 187) "c")) (tree.Member (name (at 0 1 189) "b") tree.NoSuffix))))) ∷ stmts.Statement (at 0 1 192) None (stmts.Call (system (at 0 1 192) "$display" (text (at 0 1 201) "%0d %0d %0d %s|%s" ∷ tree.Expr.Post (root.Plain (name (at 0 1 222) "c")) (tree.Member (name (at 0 1 224) "a") (tree.Select (at 0 1 225) (number (at 0 1 226) "0") tree.NoSuffix)) ∷ tree.Expr.Post (root.Plain (name (at 0 1 230) "c")) (tree.Member (name (at 0 1 232) "a") (tree.Select (at 0 1 233) (number (at 0 1 234) "1") tree.NoSuffix)) ∷ tree.Expr.Post (root.Plain (name (at 0 1 238) "c")) (tree.Member (name (at 0 1 240) "b") tree.NoSuffix) ∷ tree.Expr.Post (root.Plain (name (at 0 1 243) "c")) (tree.Member (name (at 0 1 245) "s") (tree.Select (at 0 1 246) (number (at 0 1 247) "1") tree.NoSuffix)) ∷ tree.Expr.Post (root.Plain (name (at 0 1 251) "c")) (tree.Member (name (at 0 1 253) "s") (tree.Select (at 0 1 254) (number (at 0 1 255) "0") tree.NoSuffix)) ∷ []))) ∷ [])) None)) ∷ []) None ∷ []

t3_broken : broken t3 [] None ≡ Some (fault 36 0 1 158)
unfolding symbols_of word_of
t3_broken = refl

-- module t; class C; int a[2]; int b = 7; string s[3]; function void set(int i, int v); a[i] = v; s[i] = "x"; endfunction endclass C c; initial begin c = new; v.set(1, 4); c.a[0] = c.a[1] + c.b; $display("%0d %0d %0d %s|%s", c.a[0], c.a[1], c.b, c.s[1], c.s[0]); end endmodule
abbrev t4 : List Description
t4 = module_ (at 0 1 1) life.Unwritten (name (at 0 1 8) "t") None [] (items.Class (class_ (at 0 1 11) false (name (at 0 1 17) "C") None (property unqualified (decl life.Unwritten (types.Atom (at 0 1 20) atom_word.Int sign.Unwritten) (declarator (name (at 0 1 24) "a") (Some (stmts.Size (at 0 1 25) (number (at 0 1 26) "2"))) None ∷ [])) ∷ property unqualified (decl life.Unwritten (types.Atom (at 0 1 30) atom_word.Int sign.Unwritten) (declarator (name (at 0 1 34) "b") None (Some (stmts.Value (number (at 0 1 38) "7"))) ∷ [])) ∷ property unqualified (decl life.Unwritten (types.Text (at 0 1 41)) (declarator (name (at 0 1 48) "s") (Some (stmts.Size (at 0 1 49) (number (at 0 1 50) "3"))) None ∷ [])) ∷ method unqualified (routine (head (at 0 1 54) life.Unwritten units.Void (name (at 0 1 68) "set") (argument None (types.Written (types.Atom (at 0 1 72) atom_word.Int sign.Unwritten)) (name (at 0 1 76) "i") None ∷ argument None (types.Written (types.Atom (at 0 1 79) atom_word.Int sign.Unwritten)) (name (at 0 1 83) "v") None ∷ [])) [] (stmts.Statement (at 0 1 87) None (blocking (tree.Lval.Post (root.Plain (name (at 0 1 87) "a")) (tree.Select (at 0 1 88) (plain (at 0 1 89) "i") tree.NoSuffix)) None (stmts.Value (plain (at 0 1 94) "v"))) ∷ stmts.Statement (at 0 1 97) None (blocking (tree.Lval.Post (root.Plain (name (at 0 1 97) "s")) (tree.Select (at 0 1 98) (plain (at 0 1 99) "i") tree.NoSuffix)) None (stmts.Value (text (at 0 1 104) "x"))) ∷ []) None) ∷ []) None) ∷ items.Decl (decl life.Unwritten (types.Named (name (at 0 1 130) "C")) (declarator (name (at 0 1 132) "c") None None ∷ [])) ∷ procedure (at 0 1 135) procedure_word.Initial (stmts.Statement (at 0 1 143) None (stmts.Block None [] (statements (stmts.Statement (at 0 1 149) None (blocking (target (at 0 1 149) "c") None (stmts.New (at 0 1 153) tree.Unwritten)) ∷ stmts.Statement (at 0 1 158) None (stmts.Call (tree.Expr.Post (root.Plain (name (at 0 1 158) "v")) (tree.Member (name (at 0 1 160) "set") (tree.Call (at 0 1 163) (expressions (number (at 0 1 164) "1" ∷ number (at 0 1 167) "4" ∷ [])) tree.NoSuffix)))) ∷ stmts.Statement (at 0 1 171) None (blocking (tree.Lval.Post (root.Plain (name (at 0 1 171) "c")) (tree.Member (name (at 0 1 173) "a") (tree.Select (at 0 1 174) (number (at 0 1 175) "0") tree.NoSuffix))) None (stmts.Value (tree.Binary binary_word.Plus (at 0 1 187) (tree.Expr.Post (root.Plain (name (at 0 1 180) "c")) (tree.Member (name (at 0 1 182) "a") (tree.Select (at 0 1 183) (number (at 0 1 184) "1") tree.NoSuffix))) (tree.Expr.Post (root.Plain (name (at 0 1 189) "c")) (tree.Member (name (at 0 1 191) "b") tree.NoSuffix))))) ∷ stmts.Statement (at 0 1 194) None (stmts.Call (system (at 0 1 194) "$display" (text (at 0 1 203) "%0d %0d %0d %s|%s" ∷ tree.Expr.Post (root.Plain (name (at 0 1 224) "c")) (tree.Member (name (at 0 1 226) "a") (tree.Select (at 0 1 227) (number (at 0 1 228) "0") tree.NoSuffix)) ∷ tree.Expr.Post (root.Plain (name (at 0 1 232) "c")) (tree.Member (name (at 0 1 234) "a") (tree.Select (at 0 1 235) (number (at 0 1 236) "1") tree.NoSuffix)) ∷ tree.Expr.Post (root.Plain (name (at 0 1 240) "c")) (tree.Member (name (at 0 1 242) "b") tree.NoSuffix) ∷ tree.Expr.Post (root.Plain (name (at 0 1 245) "c")) (tree.Member (name (at 0 1 247) "s") (tree.Select (at 0 1 248) (number (at 0 1 249) "1") tree.NoSuffix)) ∷ tree.Expr.Post (root.Plain (name (at 0 1 253) "c")) (tree.Member (name (at 0 1 255) "s") (tree.Select (at 0 1 256) (number (at 0 1 257) "0") tree.NoSuffix)) ∷ []))) ∷ [])) None)) ∷ []) None ∷ []

t4_broken : broken t4 [] None ≡ Some (fault 6 0 1 158)
unfolding symbols_of word_of
t4_broken = refl

-- module t; class C; int a[2]; int b = 7; string s[3]; function void set(int i, int v); a[i] = v; s[i] = "x"; endfunction endclass C c; initial begin c = new; c.set(1, 4); c.a[0] = c.a[1] + c.b; $display("%0d %0d %0d %s|%s", b.a[0], c.a[1], c.b, c.s[1], c.s[0]); end endmodule
abbrev t5 : List Description
t5 = module_ (at 0 1 1) life.Unwritten (name (at 0 1 8) "t") None [] (items.Class (class_ (at 0 1 11) false (name (at 0 1 17) "C") None (property unqualified (decl life.Unwritten (types.Atom (at 0 1 20) atom_word.Int sign.Unwritten) (declarator (name (at 0 1 24) "a") (Some (stmts.Size (at 0 1 25) (number (at 0 1 26) "2"))) None ∷ [])) ∷ property unqualified (decl life.Unwritten (types.Atom (at 0 1 30) atom_word.Int sign.Unwritten) (declarator (name (at 0 1 34) "b") None (Some (stmts.Value (number (at 0 1 38) "7"))) ∷ [])) ∷ property unqualified (decl life.Unwritten (types.Text (at 0 1 41)) (declarator (name (at 0 1 48) "s") (Some (stmts.Size (at 0 1 49) (number (at 0 1 50) "3"))) None ∷ [])) ∷ method unqualified (routine (head (at 0 1 54) life.Unwritten units.Void (name (at 0 1 68) "set") (argument None (types.Written (types.Atom (at 0 1 72) atom_word.Int sign.Unwritten)) (name (at 0 1 76) "i") None ∷ argument None (types.Written (types.Atom (at 0 1 79) atom_word.Int sign.Unwritten)) (name (at 0 1 83) "v") None ∷ [])) [] (stmts.Statement (at 0 1 87) None (blocking (tree.Lval.Post (root.Plain (name (at 0 1 87) "a")) (tree.Select (at 0 1 88) (plain (at 0 1 89) "i") tree.NoSuffix)) None (stmts.Value (plain (at 0 1 94) "v"))) ∷ stmts.Statement (at 0 1 97) None (blocking (tree.Lval.Post (root.Plain (name (at 0 1 97) "s")) (tree.Select (at 0 1 98) (plain (at 0 1 99) "i") tree.NoSuffix)) None (stmts.Value (text (at 0 1 104) "x"))) ∷ []) None) ∷ []) None) ∷ items.Decl (decl life.Unwritten (types.Named (name (at 0 1 130) "C")) (declarator (name (at 0 1 132) "c") None None ∷ [])) ∷ procedure (at 0 1 135) procedure_word.Initial (stmts.Statement (at 0 1 143) None (stmts.Block None [] (statements (stmts.Statement (at 0 1 149) None (blocking (target (at 0 1 149) "c") None (stmts.New (at 0 1 153) tree.Unwritten)) ∷ stmts.Statement (at 0 1 158) None (stmts.Call (tree.Expr.Post (root.Plain (name (at 0 1 158) "c")) (tree.Member (name (at 0 1 160) "set") (tree.Call (at 0 1 163) (expressions (number (at 0 1 164) "1" ∷ number (at 0 1 167) "4" ∷ [])) tree.NoSuffix)))) ∷ stmts.Statement (at 0 1 171) None (blocking (tree.Lval.Post (root.Plain (name (at 0 1 171) "c")) (tree.Member (name (at 0 1 173) "a") (tree.Select (at 0 1 174) (number (at 0 1 175) "0") tree.NoSuffix))) None (stmts.Value (tree.Binary binary_word.Plus (at 0 1 187) (tree.Expr.Post (root.Plain (name (at 0 1 180) "c")) (tree.Member (name (at 0 1 182) "a") (tree.Select (at 0 1 183) (number (at 0 1 184) "1") tree.NoSuffix))) (tree.Expr.Post (root.Plain (name (at 0 1 189) "c")) (tree.Member (name (at 0 1 191) "b") tree.NoSuffix))))) ∷ stmts.Statement (at 0 1 194) None (stmts.Call (system (at 0 1 194) "$display" (text (at 0 1 203) "%0d %0d %0d %s|%s" ∷ tree.Expr.Post (root.Plain (name (at 0 1 224) "b")) (tree.Member (name (at 0 1 226) "a") (tree.Select (at 0 1 227) (number (at 0 1 228) "0") tree.NoSuffix)) ∷ tree.Expr.Post (root.Plain (name (at 0 1 232) "c")) (tree.Member (name (at 0 1 234) "a") (tree.Select (at 0 1 235) (number (at 0 1 236) "1") tree.NoSuffix)) ∷ tree.Expr.Post (root.Plain (name (at 0 1 240) "c")) (tree.Member (name (at 0 1 242) "b") tree.NoSuffix) ∷ tree.Expr.Post (root.Plain (name (at 0 1 245) "c")) (tree.Member (name (at 0 1 247) "s") (tree.Select (at 0 1 248) (number (at 0 1 249) "1") tree.NoSuffix)) ∷ tree.Expr.Post (root.Plain (name (at 0 1 253) "c")) (tree.Member (name (at 0 1 255) "s") (tree.Select (at 0 1 256) (number (at 0 1 257) "0") tree.NoSuffix)) ∷ []))) ∷ [])) None)) ∷ []) None ∷ []

t5_broken : broken t5 [] None ≡ Some (fault 6 0 1 224)
unfolding symbols_of word_of
t5_broken = refl

-- module t; class C; int a[2]; int b = 7; string s[3]; function void set(int i, int v); a[i] = v; s[i] = "x"; endfunction endclass C c; initial begin c = new; c.set(1, 4); c.a[0] = c.a[1] + set.b; $display("%0d %0d %0d %s|%s", c.a[0], c.a[1], c.b, c.s[1], c.s[0]); end endmodule
abbrev t6 : List Description
t6 = module_ (at 0 1 1) life.Unwritten (name (at 0 1 8) "t") None [] (items.Class (class_ (at 0 1 11) false (name (at 0 1 17) "C") None (property unqualified (decl life.Unwritten (types.Atom (at 0 1 20) atom_word.Int sign.Unwritten) (declarator (name (at 0 1 24) "a") (Some (stmts.Size (at 0 1 25) (number (at 0 1 26) "2"))) None ∷ [])) ∷ property unqualified (decl life.Unwritten (types.Atom (at 0 1 30) atom_word.Int sign.Unwritten) (declarator (name (at 0 1 34) "b") None (Some (stmts.Value (number (at 0 1 38) "7"))) ∷ [])) ∷ property unqualified (decl life.Unwritten (types.Text (at 0 1 41)) (declarator (name (at 0 1 48) "s") (Some (stmts.Size (at 0 1 49) (number (at 0 1 50) "3"))) None ∷ [])) ∷ method unqualified (routine (head (at 0 1 54) life.Unwritten units.Void (name (at 0 1 68) "set") (argument None (types.Written (types.Atom (at 0 1 72) atom_word.Int sign.Unwritten)) (name (at 0 1 76) "i") None ∷ argument None (types.Written (types.Atom (at 0 1 79) atom_word.Int sign.Unwritten)) (name (at 0 1 83) "v") None ∷ [])) [] (stmts.Statement (at 0 1 87) None (blocking (tree.Lval.Post (root.Plain (name (at 0 1 87) "a")) (tree.Select (at 0 1 88) (plain (at 0 1 89) "i") tree.NoSuffix)) None (stmts.Value (plain (at 0 1 94) "v"))) ∷ stmts.Statement (at 0 1 97) None (blocking (tree.Lval.Post (root.Plain (name (at 0 1 97) "s")) (tree.Select (at 0 1 98) (plain (at 0 1 99) "i") tree.NoSuffix)) None (stmts.Value (text (at 0 1 104) "x"))) ∷ []) None) ∷ []) None) ∷ items.Decl (decl life.Unwritten (types.Named (name (at 0 1 130) "C")) (declarator (name (at 0 1 132) "c") None None ∷ [])) ∷ procedure (at 0 1 135) procedure_word.Initial (stmts.Statement (at 0 1 143) None (stmts.Block None [] (statements (stmts.Statement (at 0 1 149) None (blocking (target (at 0 1 149) "c") None (stmts.New (at 0 1 153) tree.Unwritten)) ∷ stmts.Statement (at 0 1 158) None (stmts.Call (tree.Expr.Post (root.Plain (name (at 0 1 158) "c")) (tree.Member (name (at 0 1 160) "set") (tree.Call (at 0 1 163) (expressions (number (at 0 1 164) "1" ∷ number (at 0 1 167) "4" ∷ [])) tree.NoSuffix)))) ∷ stmts.Statement (at 0 1 171) None (blocking (tree.Lval.Post (root.Plain (name (at 0 1 171) "c")) (tree.Member (name (at 0 1 173) "a") (tree.Select (at 0 1 174) (number (at 0 1 175) "0") tree.NoSuffix))) None (stmts.Value (tree.Binary binary_word.Plus (at 0 1 187) (tree.Expr.Post (root.Plain (name (at 0 1 180) "c")) (tree.Member (name (at 0 1 182) "a") (tree.Select (at 0 1 183) (number (at 0 1 184) "1") tree.NoSuffix))) (tree.Expr.Post (root.Plain (name (at 0 1 189) "set")) (tree.Member (name (at 0 1 193) "b") tree.NoSuffix))))) ∷ stmts.Statement (at 0 1 196) None (stmts.Call (system (at 0 1 196) "$display" (text (at 0 1 205) "%0d %0d %0d %s|%s" ∷ tree.Expr.Post (root.Plain (name (at 0 1 226) "c")) (tree.Member (name (at 0 1 228) "a") (tree.Select (at 0 1 229) (number (at 0 1 230) "0") tree.NoSuffix)) ∷ tree.Expr.Post (root.Plain (name (at 0 1 234) "c")) (tree.Member (name (at 0 1 236) "a") (tree.Select (at 0 1 237) (number (at 0 1 238) "1") tree.NoSuffix)) ∷ tree.Expr.Post (root.Plain (name (at 0 1 242) "c")) (tree.Member (name (at 0 1 244) "b") tree.NoSuffix) ∷ tree.Expr.Post (root.Plain (name (at 0 1 247) "c")) (tree.Member (name (at 0 1 249) "s") (tree.Select (at 0 1 250) (number (at 0 1 251) "1") tree.NoSuffix)) ∷ tree.Expr.Post (root.Plain (name (at 0 1 255) "c")) (tree.Member (name (at 0 1 257) "s") (tree.Select (at 0 1 258) (number (at 0 1 259) "0") tree.NoSuffix)) ∷ []))) ∷ [])) None)) ∷ []) None ∷ []

t6_broken : broken t6 [] None ≡ Some (fault 6 0 1 189)
unfolding symbols_of word_of
t6_broken = refl

-- module t; class C; int a[2]; int b = 7; string s[null]; function void set(int i, int v); a[i] = v; s[i] = "x"; endfunction endclass C c; initial begin c = new; c.set(1, 4); c.a[0] = c.a[1] + c.b; $display("%0d %0d %0d %s|%s", c.a[0], c.a[1], c.b, c.s[1], c.s[0]); end endmodule
abbrev t7 : List Description
t7 = module_ (at 0 1 1) life.Unwritten (name (at 0 1 8) "t") None [] (items.Class (class_ (at 0 1 11) false (name (at 0 1 17) "C") None (property unqualified (decl life.Unwritten (types.Atom (at 0 1 20) atom_word.Int sign.Unwritten) (declarator (name (at 0 1 24) "a") (Some (stmts.Size (at 0 1 25) (number (at 0 1 26) "2"))) None ∷ [])) ∷ property unqualified (decl life.Unwritten (types.Atom (at 0 1 30) atom_word.Int sign.Unwritten) (declarator (name (at 0 1 34) "b") None (Some (stmts.Value (number (at 0 1 38) "7"))) ∷ [])) ∷ property unqualified (decl life.Unwritten (types.Text (at 0 1 41)) (declarator (name (at 0 1 48) "s") (Some (stmts.Size (at 0 1 49) (tree.Null (at 0 1 50)))) None ∷ [])) ∷ method unqualified (routine (head (at 0 1 57) life.Unwritten units.Void (name (at 0 1 71) "set") (argument None (types.Written (types.Atom (at 0 1 75) atom_word.Int sign.Unwritten)) (name (at 0 1 79) "i") None ∷ argument None (types.Written (types.Atom (at 0 1 82) atom_word.Int sign.Unwritten)) (name (at 0 1 86) "v") None ∷ [])) [] (stmts.Statement (at 0 1 90) None (blocking (tree.Lval.Post (root.Plain (name (at 0 1 90) "a")) (tree.Select (at 0 1 91) (plain (at 0 1 92) "i") tree.NoSuffix)) None (stmts.Value (plain (at 0 1 97) "v"))) ∷ stmts.Statement (at 0 1 100) None (blocking (tree.Lval.Post (root.Plain (name (at 0 1 100) "s")) (tree.Select (at 0 1 101) (plain (at 0 1 102) "i") tree.NoSuffix)) None (stmts.Value (text (at 0 1 107) "x"))) ∷ []) None) ∷ []) None) ∷ items.Decl (decl life.Unwritten (types.Named (name (at 0 1 133) "C")) (declarator (name (at 0 1 135) "c") None None ∷ [])) ∷ procedure (at 0 1 138) procedure_word.Initial (stmts.Statement (at 0 1 146) None (stmts.Block None [] (statements (stmts.Statement (at 0 1 152) None (blocking (target (at 0 1 152) "c") None (stmts.New (at 0 1 156) tree.Unwritten)) ∷ stmts.Statement (at 0 1 161) None (stmts.Call (tree.Expr.Post (root.Plain (name (at 0 1 161) "c")) (tree.Member (name (at 0 1 163) "set") (tree.Call (at 0 1 166) (expressions (number (at 0 1 167) "1" ∷ number (at 0 1 170) "4" ∷ [])) tree.NoSuffix)))) ∷ stmts.Statement (at 0 1 174) None (blocking (tree.Lval.Post (root.Plain (name (at 0 1 174) "c")) (tree.Member (name (at 0 1 176) "a") (tree.Select (at 0 1 177) (number (at 0 1 178) "0") tree.NoSuffix))) None (stmts.Value (tree.Binary binary_word.Plus (at 0 1 190) (tree.Expr.Post (root.Plain (name (at 0 1 183) "c")) (tree.Member (name (at 0 1 185) "a") (tree.Select (at 0 1 186) (number (at 0 1 187) "1") tree.NoSuffix))) (tree.Expr.Post (root.Plain (name (at 0 1 192) "c")) (tree.Member (name (at 0 1 194) "b") tree.NoSuffix))))) ∷ stmts.Statement (at 0 1 197) None (stmts.Call (system (at 0 1 197) "$display" (text (at 0 1 206) "%0d %0d %0d %s|%s" ∷ tree.Expr.Post (root.Plain (name (at 0 1 227) "c")) (tree.Member (name (at 0 1 229) "a") (tree.Select (at 0 1 230) (number (at 0 1 231) "0") tree.NoSuffix)) ∷ tree.Expr.Post (root.Plain (name (at 0 1 235) "c")) (tree.Member (name (at 0 1 237) "a") (tree.Select (at 0 1 238) (number (at 0 1 239) "1") tree.NoSuffix)) ∷ tree.Expr.Post (root.Plain (name (at 0 1 243) "c")) (tree.Member (name (at 0 1 245) "b") tree.NoSuffix) ∷ tree.Expr.Post (root.Plain (name (at 0 1 248) "c")) (tree.Member (name (at 0 1 250) "s") (tree.Select (at 0 1 251) (number (at 0 1 252) "1") tree.NoSuffix)) ∷ tree.Expr.Post (root.Plain (name (at 0 1 256) "c")) (tree.Member (name (at 0 1 258) "s") (tree.Select (at 0 1 259) (number (at 0 1 260) "0") tree.NoSuffix)) ∷ []))) ∷ [])) None)) ∷ []) None ∷ []

t7_broken : broken t7 [] None ≡ Some (fault 15 0 1 50)
unfolding symbols_of word_of
t7_broken = refl

-- module t; class C; int a[2]; int b = 7; string s[3]; function void set(int i, int v); a[i] = v; s[i] = "x"; endfunction endclass c c; initial begin c = new; c.set(1, 4); c.a[0] = c.a[1] + c.b; $display("%0d %0d %0d %s|%s", c.a[0], c.a[1], c.b, c.s[1], c.s[0]); end endmodule
abbrev t8 : List Description
t8 = module_ (at 0 1 1) life.Unwritten (name (at 0 1 8) "t") None [] (items.Class (class_ (at 0 1 11) false (name (at 0 1 17) "C") None (property unqualified (decl life.Unwritten (types.Atom (at 0 1 20) atom_word.Int sign.Unwritten) (declarator (name (at 0 1 24) "a") (Some (stmts.Size (at 0 1 25) (number (at 0 1 26) "2"))) None ∷ [])) ∷ property unqualified (decl life.Unwritten (types.Atom (at 0 1 30) atom_word.Int sign.Unwritten) (declarator (name (at 0 1 34) "b") None (Some (stmts.Value (number (at 0 1 38) "7"))) ∷ [])) ∷ property unqualified (decl life.Unwritten (types.Text (at 0 1 41)) (declarator (name (at 0 1 48) "s") (Some (stmts.Size (at 0 1 49) (number (at 0 1 50) "3"))) None ∷ [])) ∷ method unqualified (routine (head (at 0 1 54) life.Unwritten units.Void (name (at 0 1 68) "set") (argument None (types.Written (types.Atom (at 0 1 72) atom_word.Int sign.Unwritten)) (name (at 0 1 76) "i") None ∷ argument None (types.Written (types.Atom (at 0 1 79) atom_word.Int sign.Unwritten)) (name (at 0 1 83) "v") None ∷ [])) [] (stmts.Statement (at 0 1 87) None (blocking (tree.Lval.Post (root.Plain (name (at 0 1 87) "a")) (tree.Select (at 0 1 88) (plain (at 0 1 89) "i") tree.NoSuffix)) None (stmts.Value (plain (at 0 1 94) "v"))) ∷ stmts.Statement (at 0 1 97) None (blocking (tree.Lval.Post (root.Plain (name (at 0 1 97) "s")) (tree.Select (at 0 1 98) (plain (at 0 1 99) "i") tree.NoSuffix)) None (stmts.Value (text (at 0 1 104) "x"))) ∷ []) None) ∷ []) None) ∷ items.Decl (decl life.Unwritten (types.Named (name (at 0 1 130) "c")) (declarator (name (at 0 1 132) "c") None None ∷ [])) ∷ procedure (at 0 1 135) procedure_word.Initial (stmts.Statement (at 0 1 143) None (stmts.Block None [] (statements (stmts.Statement (at 0 1 149) None (blocking (target (at 0 1 149) "c") None (stmts.New (at 0 1 153) tree.Unwritten)) ∷ stmts.Statement (at 0 1 158) None (stmts.Call (tree.Expr.Post (root.Plain (name (at 0 1 158) "c")) (tree.Member (name (at 0 1 160) "set") (tree.Call (at 0 1 163) (expressions (number (at 0 1 164) "1" ∷ number (at 0 1 167) "4" ∷ [])) tree.NoSuffix)))) ∷ stmts.Statement (at 0 1 171) None (blocking (tree.Lval.Post (root.Plain (name (at 0 1 171) "c")) (tree.Member (name (at 0 1 173) "a") (tree.Select (at 0 1 174) (number (at 0 1 175) "0") tree.NoSuffix))) None (stmts.Value (tree.Binary binary_word.Plus (at 0 1 187) (tree.Expr.Post (root.Plain (name (at 0 1 180) "c")) (tree.Member (name (at 0 1 182) "a") (tree.Select (at 0 1 183) (number (at 0 1 184) "1") tree.NoSuffix))) (tree.Expr.Post (root.Plain (name (at 0 1 189) "c")) (tree.Member (name (at 0 1 191) "b") tree.NoSuffix))))) ∷ stmts.Statement (at 0 1 194) None (stmts.Call (system (at 0 1 194) "$display" (text (at 0 1 203) "%0d %0d %0d %s|%s" ∷ tree.Expr.Post (root.Plain (name (at 0 1 224) "c")) (tree.Member (name (at 0 1 226) "a") (tree.Select (at 0 1 227) (number (at 0 1 228) "0") tree.NoSuffix)) ∷ tree.Expr.Post (root.Plain (name (at 0 1 232) "c")) (tree.Member (name (at 0 1 234) "a") (tree.Select (at 0 1 235) (number (at 0 1 236) "1") tree.NoSuffix)) ∷ tree.Expr.Post (root.Plain (name (at 0 1 240) "c")) (tree.Member (name (at 0 1 242) "b") tree.NoSuffix) ∷ tree.Expr.Post (root.Plain (name (at 0 1 245) "c")) (tree.Member (name (at 0 1 247) "s") (tree.Select (at 0 1 248) (number (at 0 1 249) "1") tree.NoSuffix)) ∷ tree.Expr.Post (root.Plain (name (at 0 1 253) "c")) (tree.Member (name (at 0 1 255) "s") (tree.Select (at 0 1 256) (number (at 0 1 257) "0") tree.NoSuffix)) ∷ []))) ∷ [])) None)) ∷ []) None ∷ []

t8_broken : broken t8 [] None ≡ Some (fault 7 0 1 130)
unfolding symbols_of word_of
t8_broken = refl

-- module t; class C; static int n = 3; static function int twice(int x); return 2 * x + n; endfunction int v; endclass C c; initial begin c = new; c.n <= 5; $display("%0d %0d %0d", c.n, C::n, c.twice(4)); C::n++; $display("%0d", C::twice(1)); end endmodule
abbrev t9 : List Description
t9 = module_ (at 0 1 1) life.Unwritten (name (at 0 1 8) "t") None [] (items.Class (class_ (at 0 1 11) false (name (at 0 1 17) "C") None (property (qualifiers false false true false) (decl life.Unwritten (types.Atom (at 0 1 27) atom_word.Int sign.Unwritten) (declarator (name (at 0 1 31) "n") None (Some (stmts.Value (number (at 0 1 35) "3"))) ∷ [])) ∷ method (qualifiers false false true false) (routine (head (at 0 1 45) life.Unwritten (units.Returns.Value (types.Written (types.Atom (at 0 1 54) atom_word.Int sign.Unwritten))) (name (at 0 1 58) "twice") (argument None (types.Written (types.Atom (at 0 1 64) atom_word.Int sign.Unwritten)) (name (at 0 1 68) "x") None ∷ [])) [] (stmts.Statement (at 0 1 72) None (stmts.Return (Some (tree.Binary binary_word.Plus (at 0 1 85) (tree.Binary binary_word.Multiply (at 0 1 81) (number (at 0 1 79) "2") (plain (at 0 1 83) "x")) (plain (at 0 1 87) "n")))) ∷ []) None) ∷ property unqualified (decl life.Unwritten (types.Atom (at 0 1 102) atom_word.Int sign.Unwritten) (declarator (name (at 0 1 106) "v") None None ∷ [])) ∷ []) None) ∷ items.Decl (decl life.Unwritten (types.Named (name (at 0 1 118) "C")) (declarator (name (at 0 1 120) "c") None None ∷ [])) ∷ procedure (at 0 1 123) procedure_word.Initial (stmts.Statement (at 0 1 131) None (stmts.Block None [] (statements (stmts.Statement (at 0 1 137) None (blocking (target (at 0 1 137) "c") None (stmts.New (at 0 1 141) tree.Unwritten)) ∷ stmts.Statement (at 0 1 146) None (nonblocking (tree.Lval.Post (root.Plain (name (at 0 1 146) "c")) (tree.Member (name (at 0 1 148) "n") tree.NoSuffix)) None (number (at 0 1 153) "5")) ∷ stmts.Statement (at 0 1 156) None (stmts.Call (system (at 0 1 156) "$display" (text (at 0 1 165) "%0d %0d %0d" ∷ tree.Expr.Post (root.Plain (name (at 0 1 180) "c")) (tree.Member (name (at 0 1 182) "n") tree.NoSuffix) ∷ tree.Expr.Post (root.Scoped (name (at 0 1 185) "C") (name (at 0 1 188) "n")) tree.NoSuffix ∷ tree.Expr.Post (root.Plain (name (at 0 1 191) "c")) (tree.Member (name (at 0 1 193) "twice") (tree.Call (at 0 1 198) (expressions (number (at 0 1 199) "4" ∷ [])) tree.NoSuffix)) ∷ []))) ∷ stmts.Statement (at 0 1 204) None (stmts.Body.Step (tree.Lval.Post (root.Scoped (name (at 0 1 204) "C") (name (at 0 1 207) "n")) tree.NoSuffix) step_word.Increment) ∷ stmts.Statement (at 0 1 212) None (stmts.Call (system (at 0 1 212) "$display" (text (at 0 1 221) "%0d" ∷ tree.Expr.Post (root.Scoped (name (at 0 1 228) "C") (name (at 0 1 231) "twice")) (tree.Call (at 0 1 236) (expressions (number (at 0 1 237) "1" ∷ [])) tree.NoSuffix) ∷ []))) ∷ [])) None)) ∷ []) None ∷ []

t9_broken : broken t9 [] None ≡ Some (fault 26 0 1 146)
unfolding symbols_of word_of
t9_broken = refl

-- module t; class C; static int n = 3; static function int C(int x); return 2 * x + n; endfunction int v; endclass C c; initial begin c = new; c.n = 5; $display("%0d %0d %0d", c.n, C::n, c.twice(4)); C::n++; $display("%0d", C::twice(1)); end endmodule
abbrev t10 : List Description
t10 = module_ (at 0 1 1) life.Unwritten (name (at 0 1 8) "t") None [] (items.Class (class_ (at 0 1 11) false (name (at 0 1 17) "C") None (property (qualifiers false false true false) (decl life.Unwritten (types.Atom (at 0 1 27) atom_word.Int sign.Unwritten) (declarator (name (at 0 1 31) "n") None (Some (stmts.Value (number (at 0 1 35) "3"))) ∷ [])) ∷ method (qualifiers false false true false) (routine (head (at 0 1 45) life.Unwritten (units.Returns.Value (types.Written (types.Atom (at 0 1 54) atom_word.Int sign.Unwritten))) (name (at 0 1 58) "C") (argument None (types.Written (types.Atom (at 0 1 60) atom_word.Int sign.Unwritten)) (name (at 0 1 64) "x") None ∷ [])) [] (stmts.Statement (at 0 1 68) None (stmts.Return (Some (tree.Binary binary_word.Plus (at 0 1 81) (tree.Binary binary_word.Multiply (at 0 1 77) (number (at 0 1 75) "2") (plain (at 0 1 79) "x")) (plain (at 0 1 83) "n")))) ∷ []) None) ∷ property unqualified (decl life.Unwritten (types.Atom (at 0 1 98) atom_word.Int sign.Unwritten) (declarator (name (at 0 1 102) "v") None None ∷ [])) ∷ []) None) ∷ items.Decl (decl life.Unwritten (types.Named (name (at 0 1 114) "C")) (declarator (name (at 0 1 116) "c") None None ∷ [])) ∷ procedure (at 0 1 119) procedure_word.Initial (stmts.Statement (at 0 1 127) None (stmts.Block None [] (statements (stmts.Statement (at 0 1 133) None (blocking (target (at 0 1 133) "c") None (stmts.New (at 0 1 137) tree.Unwritten)) ∷ stmts.Statement (at 0 1 142) None (blocking (tree.Lval.Post (root.Plain (name (at 0 1 142) "c")) (tree.Member (name (at 0 1 144) "n") tree.NoSuffix)) None (stmts.Value (number (at 0 1 148) "5"))) ∷ stmts.Statement (at 0 1 151) None (stmts.Call (system (at 0 1 151) "$display" (text (at 0 1 160) "%0d %0d %0d" ∷ tree.Expr.Post (root.Plain (name (at 0 1 175) "c")) (tree.Member (name (at 0 1 177) "n") tree.NoSuffix) ∷ tree.Expr.Post (root.Scoped (name (at 0 1 180) "C") (name (at 0 1 183) "n")) tree.NoSuffix ∷ tree.Expr.Post (root.Plain (name (at 0 1 186) "c")) (tree.Member (name (at 0 1 188) "twice") (tree.Call (at 0 1 193) (expressions (number (at 0 1 194) "4" ∷ [])) tree.NoSuffix)) ∷ []))) ∷ stmts.Statement (at 0 1 199) None (stmts.Body.Step (tree.Lval.Post (root.Scoped (name (at 0 1 199) "C") (name (at 0 1 202) "n")) tree.NoSuffix) step_word.Increment) ∷ stmts.Statement (at 0 1 207) None (stmts.Call (system (at 0 1 207) "$display" (text (at 0 1 216) "%0d" ∷ tree.Expr.Post (root.Scoped (name (at 0 1 223) "C") (name (at 0 1 226) "twice")) (tree.Call (at 0 1 231) (expressions (number (at 0 1 232) "1" ∷ [])) tree.NoSuffix) ∷ []))) ∷ [])) None)) ∷ []) None ∷ []

t10_broken : broken t10 [] None ≡ Some (fault 36 0 1 188)
unfolding symbols_of word_of
t10_broken = refl

-- module t; class C; static int n = 3; static function int twice(int x); return 2 * c + n; endfunction int v; endclass C c; initial begin c = new; c.n = 5; $display("%0d %0d %0d", c.n, C::n, c.twice(4)); C::n++; $display("%0d", C::twice(1)); end endmodule
abbrev t11 : List Description
t11 = module_ (at 0 1 1) life.Unwritten (name (at 0 1 8) "t") None [] (items.Class (class_ (at 0 1 11) false (name (at 0 1 17) "C") None (property (qualifiers false false true false) (decl life.Unwritten (types.Atom (at 0 1 27) atom_word.Int sign.Unwritten) (declarator (name (at 0 1 31) "n") None (Some (stmts.Value (number (at 0 1 35) "3"))) ∷ [])) ∷ method (qualifiers false false true false) (routine (head (at 0 1 45) life.Unwritten (units.Returns.Value (types.Written (types.Atom (at 0 1 54) atom_word.Int sign.Unwritten))) (name (at 0 1 58) "twice") (argument None (types.Written (types.Atom (at 0 1 64) atom_word.Int sign.Unwritten)) (name (at 0 1 68) "x") None ∷ [])) [] (stmts.Statement (at 0 1 72) None (stmts.Return (Some (tree.Binary binary_word.Plus (at 0 1 85) (tree.Binary binary_word.Multiply (at 0 1 81) (number (at 0 1 79) "2") (plain (at 0 1 83) "c")) (plain (at 0 1 87) "n")))) ∷ []) None) ∷ property unqualified (decl life.Unwritten (types.Atom (at 0 1 102) atom_word.Int sign.Unwritten) (declarator (name (at 0 1 106) "v") None None ∷ [])) ∷ []) None) ∷ items.Decl (decl life.Unwritten (types.Named (name (at 0 1 118) "C")) (declarator (name (at 0 1 120) "c") None None ∷ [])) ∷ procedure (at 0 1 123) procedure_word.Initial (stmts.Statement (at 0 1 131) None (stmts.Block None [] (statements (stmts.Statement (at 0 1 137) None (blocking (target (at 0 1 137) "c") None (stmts.New (at 0 1 141) tree.Unwritten)) ∷ stmts.Statement (at 0 1 146) None (blocking (tree.Lval.Post (root.Plain (name (at 0 1 146) "c")) (tree.Member (name (at 0 1 148) "n") tree.NoSuffix)) None (stmts.Value (number (at 0 1 152) "5"))) ∷ stmts.Statement (at 0 1 155) None (stmts.Call (system (at 0 1 155) "$display" (text (at 0 1 164) "%0d %0d %0d" ∷ tree.Expr.Post (root.Plain (name (at 0 1 179) "c")) (tree.Member (name (at 0 1 181) "n") tree.NoSuffix) ∷ tree.Expr.Post (root.Scoped (name (at 0 1 184) "C") (name (at 0 1 187) "n")) tree.NoSuffix ∷ tree.Expr.Post (root.Plain (name (at 0 1 190) "c")) (tree.Member (name (at 0 1 192) "twice") (tree.Call (at 0 1 197) (expressions (number (at 0 1 198) "4" ∷ [])) tree.NoSuffix)) ∷ []))) ∷ stmts.Statement (at 0 1 203) None (stmts.Body.Step (tree.Lval.Post (root.Scoped (name (at 0 1 203) "C") (name (at 0 1 206) "n")) tree.NoSuffix) step_word.Increment) ∷ stmts.Statement (at 0 1 211) None (stmts.Call (system (at 0 1 211) "$display" (text (at 0 1 220) "%0d" ∷ tree.Expr.Post (root.Scoped (name (at 0 1 227) "C") (name (at 0 1 230) "twice")) (tree.Call (at 0 1 235) (expressions (number (at 0 1 236) "1" ∷ [])) tree.NoSuffix) ∷ []))) ∷ [])) None)) ∷ []) None ∷ []

t11_broken : broken t11 [] None ≡ Some (fault 15 0 1 83)
unfolding symbols_of word_of
t11_broken = refl

-- module t; class C; static int n = 3; static function int twice(int x); return 2 * x + n; endfunction int v; endclass C c; initial begin c = new; c.n = 5; $display("%0d %0d %0d", c.n, C::zz, c.twice(4)); C::n++; $display("%0d", C::twice(1)); end endmodule
abbrev t12 : List Description
t12 = module_ (at 0 1 1) life.Unwritten (name (at 0 1 8) "t") None [] (items.Class (class_ (at 0 1 11) false (name (at 0 1 17) "C") None (property (qualifiers false false true false) (decl life.Unwritten (types.Atom (at 0 1 27) atom_word.Int sign.Unwritten) (declarator (name (at 0 1 31) "n") None (Some (stmts.Value (number (at 0 1 35) "3"))) ∷ [])) ∷ method (qualifiers false false true false) (routine (head (at 0 1 45) life.Unwritten (units.Returns.Value (types.Written (types.Atom (at 0 1 54) atom_word.Int sign.Unwritten))) (name (at 0 1 58) "twice") (argument None (types.Written (types.Atom (at 0 1 64) atom_word.Int sign.Unwritten)) (name (at 0 1 68) "x") None ∷ [])) [] (stmts.Statement (at 0 1 72) None (stmts.Return (Some (tree.Binary binary_word.Plus (at 0 1 85) (tree.Binary binary_word.Multiply (at 0 1 81) (number (at 0 1 79) "2") (plain (at 0 1 83) "x")) (plain (at 0 1 87) "n")))) ∷ []) None) ∷ property unqualified (decl life.Unwritten (types.Atom (at 0 1 102) atom_word.Int sign.Unwritten) (declarator (name (at 0 1 106) "v") None None ∷ [])) ∷ []) None) ∷ items.Decl (decl life.Unwritten (types.Named (name (at 0 1 118) "C")) (declarator (name (at 0 1 120) "c") None None ∷ [])) ∷ procedure (at 0 1 123) procedure_word.Initial (stmts.Statement (at 0 1 131) None (stmts.Block None [] (statements (stmts.Statement (at 0 1 137) None (blocking (target (at 0 1 137) "c") None (stmts.New (at 0 1 141) tree.Unwritten)) ∷ stmts.Statement (at 0 1 146) None (blocking (tree.Lval.Post (root.Plain (name (at 0 1 146) "c")) (tree.Member (name (at 0 1 148) "n") tree.NoSuffix)) None (stmts.Value (number (at 0 1 152) "5"))) ∷ stmts.Statement (at 0 1 155) None (stmts.Call (system (at 0 1 155) "$display" (text (at 0 1 164) "%0d %0d %0d" ∷ tree.Expr.Post (root.Plain (name (at 0 1 179) "c")) (tree.Member (name (at 0 1 181) "n") tree.NoSuffix) ∷ tree.Expr.Post (root.Scoped (name (at 0 1 184) "C") (name (at 0 1 187) "zz")) tree.NoSuffix ∷ tree.Expr.Post (root.Plain (name (at 0 1 191) "c")) (tree.Member (name (at 0 1 193) "twice") (tree.Call (at 0 1 198) (expressions (number (at 0 1 199) "4" ∷ [])) tree.NoSuffix)) ∷ []))) ∷ stmts.Statement (at 0 1 204) None (stmts.Body.Step (tree.Lval.Post (root.Scoped (name (at 0 1 204) "C") (name (at 0 1 207) "n")) tree.NoSuffix) step_word.Increment) ∷ stmts.Statement (at 0 1 212) None (stmts.Call (system (at 0 1 212) "$display" (text (at 0 1 221) "%0d" ∷ tree.Expr.Post (root.Scoped (name (at 0 1 228) "C") (name (at 0 1 231) "twice")) (tree.Call (at 0 1 236) (expressions (number (at 0 1 237) "1" ∷ [])) tree.NoSuffix) ∷ []))) ∷ [])) None)) ∷ []) None ∷ []

t12_broken : broken t12 [] None ≡ Some (fault 36 0 1 187)
unfolding symbols_of word_of
t12_broken = refl

-- module t; class C; static int n = 3; static function int twice(int x); return 2 * x + n; endfunction int v; endclass C c; initial begin c = new; c.n = 5; $display("%0d %0d %0d", c.n, C::n, c.twice(4)); C::C++; $display("%0d", C::twice(1)); end endmodule
abbrev t13 : List Description
t13 = module_ (at 0 1 1) life.Unwritten (name (at 0 1 8) "t") None [] (items.Class (class_ (at 0 1 11) false (name (at 0 1 17) "C") None (property (qualifiers false false true false) (decl life.Unwritten (types.Atom (at 0 1 27) atom_word.Int sign.Unwritten) (declarator (name (at 0 1 31) "n") None (Some (stmts.Value (number (at 0 1 35) "3"))) ∷ [])) ∷ method (qualifiers false false true false) (routine (head (at 0 1 45) life.Unwritten (units.Returns.Value (types.Written (types.Atom (at 0 1 54) atom_word.Int sign.Unwritten))) (name (at 0 1 58) "twice") (argument None (types.Written (types.Atom (at 0 1 64) atom_word.Int sign.Unwritten)) (name (at 0 1 68) "x") None ∷ [])) [] (stmts.Statement (at 0 1 72) None (stmts.Return (Some (tree.Binary binary_word.Plus (at 0 1 85) (tree.Binary binary_word.Multiply (at 0 1 81) (number (at 0 1 79) "2") (plain (at 0 1 83) "x")) (plain (at 0 1 87) "n")))) ∷ []) None) ∷ property unqualified (decl life.Unwritten (types.Atom (at 0 1 102) atom_word.Int sign.Unwritten) (declarator (name (at 0 1 106) "v") None None ∷ [])) ∷ []) None) ∷ items.Decl (decl life.Unwritten (types.Named (name (at 0 1 118) "C")) (declarator (name (at 0 1 120) "c") None None ∷ [])) ∷ procedure (at 0 1 123) procedure_word.Initial (stmts.Statement (at 0 1 131) None (stmts.Block None [] (statements (stmts.Statement (at 0 1 137) None (blocking (target (at 0 1 137) "c") None (stmts.New (at 0 1 141) tree.Unwritten)) ∷ stmts.Statement (at 0 1 146) None (blocking (tree.Lval.Post (root.Plain (name (at 0 1 146) "c")) (tree.Member (name (at 0 1 148) "n") tree.NoSuffix)) None (stmts.Value (number (at 0 1 152) "5"))) ∷ stmts.Statement (at 0 1 155) None (stmts.Call (system (at 0 1 155) "$display" (text (at 0 1 164) "%0d %0d %0d" ∷ tree.Expr.Post (root.Plain (name (at 0 1 179) "c")) (tree.Member (name (at 0 1 181) "n") tree.NoSuffix) ∷ tree.Expr.Post (root.Scoped (name (at 0 1 184) "C") (name (at 0 1 187) "n")) tree.NoSuffix ∷ tree.Expr.Post (root.Plain (name (at 0 1 190) "c")) (tree.Member (name (at 0 1 192) "twice") (tree.Call (at 0 1 197) (expressions (number (at 0 1 198) "4" ∷ [])) tree.NoSuffix)) ∷ []))) ∷ stmts.Statement (at 0 1 203) None (stmts.Body.Step (tree.Lval.Post (root.Scoped (name (at 0 1 203) "C") (name (at 0 1 206) "C")) tree.NoSuffix) step_word.Increment) ∷ stmts.Statement (at 0 1 211) None (stmts.Call (system (at 0 1 211) "$display" (text (at 0 1 220) "%0d" ∷ tree.Expr.Post (root.Scoped (name (at 0 1 227) "C") (name (at 0 1 230) "twice")) (tree.Call (at 0 1 235) (expressions (number (at 0 1 236) "1" ∷ [])) tree.NoSuffix) ∷ []))) ∷ [])) None)) ∷ []) None ∷ []

t13_broken : broken t13 [] None ≡ Some (fault 36 0 1 206)
unfolding symbols_of word_of
t13_broken = refl

-- module t; class C; static int n = 3; static function int c(int x); return 2 * x + n; endfunction int v; endclass C c; initial begin c = new; c.n = 5; $display("%0d %0d %0d", c.n, C::n, c.twice(4)); C::n++; $display("%0d", C::twice(1)); end endmodule
abbrev t14 : List Description
t14 = module_ (at 0 1 1) life.Unwritten (name (at 0 1 8) "t") None [] (items.Class (class_ (at 0 1 11) false (name (at 0 1 17) "C") None (property (qualifiers false false true false) (decl life.Unwritten (types.Atom (at 0 1 27) atom_word.Int sign.Unwritten) (declarator (name (at 0 1 31) "n") None (Some (stmts.Value (number (at 0 1 35) "3"))) ∷ [])) ∷ method (qualifiers false false true false) (routine (head (at 0 1 45) life.Unwritten (units.Returns.Value (types.Written (types.Atom (at 0 1 54) atom_word.Int sign.Unwritten))) (name (at 0 1 58) "c") (argument None (types.Written (types.Atom (at 0 1 60) atom_word.Int sign.Unwritten)) (name (at 0 1 64) "x") None ∷ [])) [] (stmts.Statement (at 0 1 68) None (stmts.Return (Some (tree.Binary binary_word.Plus (at 0 1 81) (tree.Binary binary_word.Multiply (at 0 1 77) (number (at 0 1 75) "2") (plain (at 0 1 79) "x")) (plain (at 0 1 83) "n")))) ∷ []) None) ∷ property unqualified (decl life.Unwritten (types.Atom (at 0 1 98) atom_word.Int sign.Unwritten) (declarator (name (at 0 1 102) "v") None None ∷ [])) ∷ []) None) ∷ items.Decl (decl life.Unwritten (types.Named (name (at 0 1 114) "C")) (declarator (name (at 0 1 116) "c") None None ∷ [])) ∷ procedure (at 0 1 119) procedure_word.Initial (stmts.Statement (at 0 1 127) None (stmts.Block None [] (statements (stmts.Statement (at 0 1 133) None (blocking (target (at 0 1 133) "c") None (stmts.New (at 0 1 137) tree.Unwritten)) ∷ stmts.Statement (at 0 1 142) None (blocking (tree.Lval.Post (root.Plain (name (at 0 1 142) "c")) (tree.Member (name (at 0 1 144) "n") tree.NoSuffix)) None (stmts.Value (number (at 0 1 148) "5"))) ∷ stmts.Statement (at 0 1 151) None (stmts.Call (system (at 0 1 151) "$display" (text (at 0 1 160) "%0d %0d %0d" ∷ tree.Expr.Post (root.Plain (name (at 0 1 175) "c")) (tree.Member (name (at 0 1 177) "n") tree.NoSuffix) ∷ tree.Expr.Post (root.Scoped (name (at 0 1 180) "C") (name (at 0 1 183) "n")) tree.NoSuffix ∷ tree.Expr.Post (root.Plain (name (at 0 1 186) "c")) (tree.Member (name (at 0 1 188) "twice") (tree.Call (at 0 1 193) (expressions (number (at 0 1 194) "4" ∷ [])) tree.NoSuffix)) ∷ []))) ∷ stmts.Statement (at 0 1 199) None (stmts.Body.Step (tree.Lval.Post (root.Scoped (name (at 0 1 199) "C") (name (at 0 1 202) "n")) tree.NoSuffix) step_word.Increment) ∷ stmts.Statement (at 0 1 207) None (stmts.Call (system (at 0 1 207) "$display" (text (at 0 1 216) "%0d" ∷ tree.Expr.Post (root.Scoped (name (at 0 1 223) "C") (name (at 0 1 226) "twice")) (tree.Call (at 0 1 231) (expressions (number (at 0 1 232) "1" ∷ [])) tree.NoSuffix) ∷ []))) ∷ [])) None)) ∷ []) None ∷ []

t14_broken : broken t14 [] None ≡ Some (fault 36 0 1 188)
unfolding symbols_of word_of
t14_broken = refl

-- module t; class C; static semaphore n = 3; endclass C c; initial begin $display("%0d", c.n); end endmodule
abbrev t15 : List Description
t15 = module_ (at 0 1 1) life.Unwritten (name (at 0 1 8) "t") None [] (items.Class (class_ (at 0 1 11) false (name (at 0 1 17) "C") None (property (qualifiers false false true false) (decl life.Unwritten (types.Semaphore (at 0 1 27)) (declarator (name (at 0 1 37) "n") None (Some (stmts.Value (number (at 0 1 41) "3"))) ∷ [])) ∷ []) None) ∷ items.Decl (decl life.Unwritten (types.Named (name (at 0 1 53) "C")) (declarator (name (at 0 1 55) "c") None None ∷ [])) ∷ procedure (at 0 1 58) procedure_word.Initial (stmts.Statement (at 0 1 66) None (stmts.Block None [] (statements (stmts.Statement (at 0 1 72) None (stmts.Call (system (at 0 1 72) "$display" (text (at 0 1 81) "%0d" ∷ tree.Expr.Post (root.Plain (name (at 0 1 88) "c")) (tree.Member (name (at 0 1 90) "n") tree.NoSuffix) ∷ []))) ∷ [])) None)) ∷ []) None ∷ []

t15_broken : broken t15 [] None ≡ Some (fault 16 0 1 41)
unfolding symbols_of word_of
t15_broken = refl

-- module t; class C; static int n = 3; endclass C c; initial begin $display("%0d", c.c); end endmodule
abbrev t16 : List Description
t16 = module_ (at 0 1 1) life.Unwritten (name (at 0 1 8) "t") None [] (items.Class (class_ (at 0 1 11) false (name (at 0 1 17) "C") None (property (qualifiers false false true false) (decl life.Unwritten (types.Atom (at 0 1 27) atom_word.Int sign.Unwritten) (declarator (name (at 0 1 31) "n") None (Some (stmts.Value (number (at 0 1 35) "3"))) ∷ [])) ∷ []) None) ∷ items.Decl (decl life.Unwritten (types.Named (name (at 0 1 47) "C")) (declarator (name (at 0 1 49) "c") None None ∷ [])) ∷ procedure (at 0 1 52) procedure_word.Initial (stmts.Statement (at 0 1 60) None (stmts.Block None [] (statements (stmts.Statement (at 0 1 66) None (stmts.Call (system (at 0 1 66) "$display" (text (at 0 1 75) "%0d" ∷ tree.Expr.Post (root.Plain (name (at 0 1 82) "c")) (tree.Member (name (at 0 1 84) "c") tree.NoSuffix) ∷ []))) ∷ [])) None)) ∷ []) None ∷ []

t16_broken : broken t16 [] None ≡ Some (fault 36 0 1 84)
unfolding symbols_of word_of
t16_broken = refl

-- module t; class C; static event n = 3; endclass C c; initial begin $display("%0d", c.n); end endmodule
abbrev t17 : List Description
t17 = module_ (at 0 1 1) life.Unwritten (name (at 0 1 8) "t") None [] (items.Class (class_ (at 0 1 11) false (name (at 0 1 17) "C") None (property (qualifiers false false true false) (decl life.Unwritten (types.Event (at 0 1 27)) (declarator (name (at 0 1 33) "n") None (Some (stmts.Value (number (at 0 1 37) "3"))) ∷ [])) ∷ []) None) ∷ items.Decl (decl life.Unwritten (types.Named (name (at 0 1 49) "C")) (declarator (name (at 0 1 51) "c") None None ∷ [])) ∷ procedure (at 0 1 54) procedure_word.Initial (stmts.Statement (at 0 1 62) None (stmts.Block None [] (statements (stmts.Statement (at 0 1 68) None (stmts.Call (system (at 0 1 68) "$display" (text (at 0 1 77) "%0d" ∷ tree.Expr.Post (root.Plain (name (at 0 1 84) "c")) (tree.Member (name (at 0 1 86) "n") tree.NoSuffix) ∷ []))) ∷ [])) None)) ∷ []) None ∷ []

t17_broken : broken t17 [] None ≡ Some (fault 16 0 1 37)
unfolding symbols_of word_of
t17_broken = refl

-- module t; class C; static int n = 3; endclass C c; initial begin $display("%0d", c.C); end endmodule
abbrev t18 : List Description
t18 = module_ (at 0 1 1) life.Unwritten (name (at 0 1 8) "t") None [] (items.Class (class_ (at 0 1 11) false (name (at 0 1 17) "C") None (property (qualifiers false false true false) (decl life.Unwritten (types.Atom (at 0 1 27) atom_word.Int sign.Unwritten) (declarator (name (at 0 1 31) "n") None (Some (stmts.Value (number (at 0 1 35) "3"))) ∷ [])) ∷ []) None) ∷ items.Decl (decl life.Unwritten (types.Named (name (at 0 1 47) "C")) (declarator (name (at 0 1 49) "c") None None ∷ [])) ∷ procedure (at 0 1 52) procedure_word.Initial (stmts.Statement (at 0 1 60) None (stmts.Block None [] (statements (stmts.Statement (at 0 1 66) None (stmts.Call (system (at 0 1 66) "$display" (text (at 0 1 75) "%0d" ∷ tree.Expr.Post (root.Plain (name (at 0 1 82) "c")) (tree.Member (name (at 0 1 84) "C") tree.NoSuffix) ∷ []))) ∷ [])) None)) ∷ []) None ∷ []

t18_broken : broken t18 [] None ≡ Some (fault 36 0 1 84)
unfolding symbols_of word_of
t18_broken = refl

-- module t; class C; static int n = 3; endclass C c; always_ff begin $display("%0d", c.n); end endmodule
abbrev t19 : List Description
t19 = module_ (at 0 1 1) life.Unwritten (name (at 0 1 8) "t") None [] (items.Class (class_ (at 0 1 11) false (name (at 0 1 17) "C") None (property (qualifiers false false true false) (decl life.Unwritten (types.Atom (at 0 1 27) atom_word.Int sign.Unwritten) (declarator (name (at 0 1 31) "n") None (Some (stmts.Value (number (at 0 1 35) "3"))) ∷ [])) ∷ []) None) ∷ items.Decl (decl life.Unwritten (types.Named (name (at 0 1 47) "C")) (declarator (name (at 0 1 49) "c") None None ∷ [])) ∷ procedure (at 0 1 52) procedure_word.AlwaysFf (stmts.Statement (at 0 1 62) None (stmts.Block None [] (statements (stmts.Statement (at 0 1 68) None (stmts.Call (system (at 0 1 68) "$display" (text (at 0 1 77) "%0d" ∷ tree.Expr.Post (root.Plain (name (at 0 1 84) "c")) (tree.Member (name (at 0 1 86) "n") tree.NoSuffix) ∷ []))) ∷ [])) None)) ∷ []) None ∷ []

t19_broken : broken t19 [] None ≡ Some (fault 28 0 1 52)
unfolding symbols_of word_of
t19_broken = refl

-- module t; class C; static function void f(); $display("f"); endfunction endclass c c; initial c.f(); endmodule
abbrev t20 : List Description
t20 = module_ (at 0 1 1) life.Unwritten (name (at 0 1 8) "t") None [] (items.Class (class_ (at 0 1 11) false (name (at 0 1 17) "C") None (method (qualifiers false false true false) (routine (head (at 0 1 27) life.Unwritten units.Void (name (at 0 1 41) "f") []) [] (stmts.Statement (at 0 1 46) None (stmts.Call (system (at 0 1 46) "$display" (text (at 0 1 55) "f" ∷ []))) ∷ []) None) ∷ []) None) ∷ items.Decl (decl life.Unwritten (types.Named (name (at 0 1 82) "c")) (declarator (name (at 0 1 84) "c") None None ∷ [])) ∷ procedure (at 0 1 87) procedure_word.Initial (stmts.Statement (at 0 1 95) None (stmts.Call (tree.Expr.Post (root.Plain (name (at 0 1 95) "c")) (tree.Member (name (at 0 1 97) "f") (tree.Call (at 0 1 98) tree.NoExpr tree.NoSuffix))))) ∷ []) None ∷ []

t20_broken : broken t20 [] None ≡ Some (fault 7 0 1 82)
unfolding symbols_of word_of
t20_broken = refl

-- module t; class C; static function void f(); $display("f"); endfunction endclass C c; always_ff c.f(); endmodule
abbrev t21 : List Description
t21 = module_ (at 0 1 1) life.Unwritten (name (at 0 1 8) "t") None [] (items.Class (class_ (at 0 1 11) false (name (at 0 1 17) "C") None (method (qualifiers false false true false) (routine (head (at 0 1 27) life.Unwritten units.Void (name (at 0 1 41) "f") []) [] (stmts.Statement (at 0 1 46) None (stmts.Call (system (at 0 1 46) "$display" (text (at 0 1 55) "f" ∷ []))) ∷ []) None) ∷ []) None) ∷ items.Decl (decl life.Unwritten (types.Named (name (at 0 1 82) "C")) (declarator (name (at 0 1 84) "c") None None ∷ [])) ∷ procedure (at 0 1 87) procedure_word.AlwaysFf (stmts.Statement (at 0 1 97) None (stmts.Call (tree.Expr.Post (root.Plain (name (at 0 1 97) "c")) (tree.Member (name (at 0 1 99) "f") (tree.Call (at 0 1 100) tree.NoExpr tree.NoSuffix))))) ∷ []) None ∷ []

t21_broken : broken t21 [] None ≡ Some (fault 28 0 1 87)
unfolding symbols_of word_of
t21_broken = refl

-- module t; class C; static function void f(); $display("f"); endfunction endclass C c; initial t.f(); endmodule
abbrev t22 : List Description
t22 = module_ (at 0 1 1) life.Unwritten (name (at 0 1 8) "t") None [] (items.Class (class_ (at 0 1 11) false (name (at 0 1 17) "C") None (method (qualifiers false false true false) (routine (head (at 0 1 27) life.Unwritten units.Void (name (at 0 1 41) "f") []) [] (stmts.Statement (at 0 1 46) None (stmts.Call (system (at 0 1 46) "$display" (text (at 0 1 55) "f" ∷ []))) ∷ []) None) ∷ []) None) ∷ items.Decl (decl life.Unwritten (types.Named (name (at 0 1 82) "C")) (declarator (name (at 0 1 84) "c") None None ∷ [])) ∷ procedure (at 0 1 87) procedure_word.Initial (stmts.Statement (at 0 1 95) None (stmts.Call (tree.Expr.Post (root.Plain (name (at 0 1 95) "t")) (tree.Member (name (at 0 1 97) "f") (tree.Call (at 0 1 98) tree.NoExpr tree.NoSuffix))))) ∷ []) None ∷ []

t22_broken : broken t22 [] None ≡ Some (fault 7 0 1 95)
unfolding symbols_of word_of
t22_broken = refl

-- module t; class C; protected function void f(); $display("f"); endfunction endclass C c; initial c.f(); endmodule
abbrev t23 : List Description
t23 = module_ (at 0 1 1) life.Unwritten (name (at 0 1 8) "t") None [] (items.Class (class_ (at 0 1 11) false (name (at 0 1 17) "C") None (method (qualifiers false true false false) (routine (head (at 0 1 30) life.Unwritten units.Void (name (at 0 1 44) "f") []) [] (stmts.Statement (at 0 1 49) None (stmts.Call (system (at 0 1 49) "$display" (text (at 0 1 58) "f" ∷ []))) ∷ []) None) ∷ []) None) ∷ items.Decl (decl life.Unwritten (types.Named (name (at 0 1 85) "C")) (declarator (name (at 0 1 87) "c") None None ∷ [])) ∷ procedure (at 0 1 90) procedure_word.Initial (stmts.Statement (at 0 1 98) None (stmts.Call (tree.Expr.Post (root.Plain (name (at 0 1 98) "c")) (tree.Member (name (at 0 1 100) "f") (tree.Call (at 0 1 101) tree.NoExpr tree.NoSuffix))))) ∷ []) None ∷ []

t23_broken : broken t23 [] None ≡ Some (fault 37 0 1 100)
unfolding symbols_of word_of
t23_broken = refl

-- module t; class C; local function void f(); $display("f"); endfunction endclass C c; initial c.f(); endmodule
abbrev t24 : List Description
t24 = module_ (at 0 1 1) life.Unwritten (name (at 0 1 8) "t") None [] (items.Class (class_ (at 0 1 11) false (name (at 0 1 17) "C") None (method (qualifiers true false false false) (routine (head (at 0 1 26) life.Unwritten units.Void (name (at 0 1 40) "f") []) [] (stmts.Statement (at 0 1 45) None (stmts.Call (system (at 0 1 45) "$display" (text (at 0 1 54) "f" ∷ []))) ∷ []) None) ∷ []) None) ∷ items.Decl (decl life.Unwritten (types.Named (name (at 0 1 81) "C")) (declarator (name (at 0 1 83) "c") None None ∷ [])) ∷ procedure (at 0 1 86) procedure_word.Initial (stmts.Statement (at 0 1 94) None (stmts.Call (tree.Expr.Post (root.Plain (name (at 0 1 94) "c")) (tree.Member (name (at 0 1 96) "f") (tree.Call (at 0 1 97) tree.NoExpr tree.NoSuffix))))) ∷ []) None ∷ []

t24_broken : broken t24 [] None ≡ Some (fault 37 0 1 96)
unfolding symbols_of word_of
t24_broken = refl

-- module t; class A; int x; endclass class B extends A; int y; endclass A a; B b; initial begin a = new; void'($cast(b, a)); $display("%0d", b == null); if ($cast(b, a)) $display("no"); b = new; a = b; $display("%0d", $cast(A, a)); $cast(b, a); end endmodule
abbrev t25 : List Description
t25 = module_ (at 0 1 1) life.Unwritten (name (at 0 1 8) "t") None [] (items.Class (class_ (at 0 1 11) false (name (at 0 1 17) "A") None (property unqualified (decl life.Unwritten (types.Atom (at 0 1 20) atom_word.Int sign.Unwritten) (declarator (name (at 0 1 24) "x") None None ∷ [])) ∷ []) None) ∷ items.Class (class_ (at 0 1 36) false (name (at 0 1 42) "B") (Some (name (at 0 1 52) "A")) (property unqualified (decl life.Unwritten (types.Atom (at 0 1 55) atom_word.Int sign.Unwritten) (declarator (name (at 0 1 59) "y") None None ∷ [])) ∷ []) None) ∷ items.Decl (decl life.Unwritten (types.Named (name (at 0 1 71) "A")) (declarator (name (at 0 1 73) "a") None None ∷ [])) ∷ items.Decl (decl life.Unwritten (types.Named (name (at 0 1 76) "B")) (declarator (name (at 0 1 78) "b") None None ∷ [])) ∷ procedure (at 0 1 81) procedure_word.Initial (stmts.Statement (at 0 1 89) None (stmts.Block None [] (statements (stmts.Statement (at 0 1 95) None (blocking (target (at 0 1 95) "a") None (stmts.New (at 0 1 99) tree.Unwritten)) ∷ stmts.Statement (at 0 1 104) None (stmts.Ignore (at 0 1 104) (system (at 0 1 110) "$cast" (plain (at 0 1 116) "b" ∷ plain (at 0 1 119) "a" ∷ []))) ∷ stmts.Statement (at 0 1 124) None (stmts.Call (system (at 0 1 124) "$display" (text (at 0 1 133) "%0d" ∷ tree.Binary binary_word.Equal (at 0 1 142) (plain (at 0 1 140) "b") (tree.Null (at 0 1 145)) ∷ []))) ∷ stmts.Statement (at 0 1 152) None (stmts.If (system (at 0 1 156) "$cast" (plain (at 0 1 162) "b" ∷ plain (at 0 1 165) "a" ∷ [])) (stmts.Statement (at 0 1 169) None (stmts.Call (system (at 0 1 169) "$display" (text (at 0 1 178) "no" ∷ []))))) ∷ stmts.Statement (at 0 1 185) None (blocking (target (at 0 1 185) "b") None (stmts.New (at 0 1 189) tree.Unwritten)) ∷ stmts.Statement (at 0 1 194) None (blocking (target (at 0 1 194) "a") None (stmts.Value (plain (at 0 1 198) "b"))) ∷ stmts.Statement (at 0 1 201) None (stmts.Call (system (at 0 1 201) "$display" (text (at 0 1 210) "%0d" ∷ system (at 0 1 217) "$cast" (plain (at 0 1 223) "A" ∷ plain (at 0 1 226) "a" ∷ []) ∷ []))) ∷ stmts.Statement (at 0 1 231) None (stmts.Call (system (at 0 1 231) "$cast" (plain (at 0 1 237) "b" ∷ plain (at 0 1 240) "a" ∷ []))) ∷ [])) None)) ∷ []) None ∷ []

t25_broken : broken t25 [] None ≡ Some (fault 7 0 1 223)
unfolding symbols_of word_of
t25_broken = refl

-- module t; class A; int x; endclass class B extends A; int y; endclass A a; B A; initial begin a = new; void'($cast(b, a)); $display("%0d", b == null); if ($cast(b, a)) $display("no"); b = new; a = b; $display("%0d", $cast(b, a)); $cast(b, a); end endmodule
abbrev t26 : List Description
t26 = module_ (at 0 1 1) life.Unwritten (name (at 0 1 8) "t") None [] (items.Class (class_ (at 0 1 11) false (name (at 0 1 17) "A") None (property unqualified (decl life.Unwritten (types.Atom (at 0 1 20) atom_word.Int sign.Unwritten) (declarator (name (at 0 1 24) "x") None None ∷ [])) ∷ []) None) ∷ items.Class (class_ (at 0 1 36) false (name (at 0 1 42) "B") (Some (name (at 0 1 52) "A")) (property unqualified (decl life.Unwritten (types.Atom (at 0 1 55) atom_word.Int sign.Unwritten) (declarator (name (at 0 1 59) "y") None None ∷ [])) ∷ []) None) ∷ items.Decl (decl life.Unwritten (types.Named (name (at 0 1 71) "A")) (declarator (name (at 0 1 73) "a") None None ∷ [])) ∷ items.Decl (decl life.Unwritten (types.Named (name (at 0 1 76) "B")) (declarator (name (at 0 1 78) "A") None None ∷ [])) ∷ procedure (at 0 1 81) procedure_word.Initial (stmts.Statement (at 0 1 89) None (stmts.Block None [] (statements (stmts.Statement (at 0 1 95) None (blocking (target (at 0 1 95) "a") None (stmts.New (at 0 1 99) tree.Unwritten)) ∷ stmts.Statement (at 0 1 104) None (stmts.Ignore (at 0 1 104) (system (at 0 1 110) "$cast" (plain (at 0 1 116) "b" ∷ plain (at 0 1 119) "a" ∷ []))) ∷ stmts.Statement (at 0 1 124) None (stmts.Call (system (at 0 1 124) "$display" (text (at 0 1 133) "%0d" ∷ tree.Binary binary_word.Equal (at 0 1 142) (plain (at 0 1 140) "b") (tree.Null (at 0 1 145)) ∷ []))) ∷ stmts.Statement (at 0 1 152) None (stmts.If (system (at 0 1 156) "$cast" (plain (at 0 1 162) "b" ∷ plain (at 0 1 165) "a" ∷ [])) (stmts.Statement (at 0 1 169) None (stmts.Call (system (at 0 1 169) "$display" (text (at 0 1 178) "no" ∷ []))))) ∷ stmts.Statement (at 0 1 185) None (blocking (target (at 0 1 185) "b") None (stmts.New (at 0 1 189) tree.Unwritten)) ∷ stmts.Statement (at 0 1 194) None (blocking (target (at 0 1 194) "a") None (stmts.Value (plain (at 0 1 198) "b"))) ∷ stmts.Statement (at 0 1 201) None (stmts.Call (system (at 0 1 201) "$display" (text (at 0 1 210) "%0d" ∷ system (at 0 1 217) "$cast" (plain (at 0 1 223) "b" ∷ plain (at 0 1 226) "a" ∷ []) ∷ []))) ∷ stmts.Statement (at 0 1 231) None (stmts.Call (system (at 0 1 231) "$cast" (plain (at 0 1 237) "b" ∷ plain (at 0 1 240) "a" ∷ []))) ∷ [])) None)) ∷ []) None ∷ []

t26_broken : broken t26 [] None ≡ Some (fault 5 0 1 78)
unfolding symbols_of word_of
t26_broken = refl

-- module t; class A; int x; endclass class B extends A; int y; endclass A a; B b; initial begin a = new; void'($cast(b, a)); $display("%0d", b == null); if ($cast(b, a)) $display("no"); b = new; B = b; $display("%0d", $cast(b, a)); $cast(b, a); end endmodule
abbrev t27 : List Description
t27 = module_ (at 0 1 1) life.Unwritten (name (at 0 1 8) "t") None [] (items.Class (class_ (at 0 1 11) false (name (at 0 1 17) "A") None (property unqualified (decl life.Unwritten (types.Atom (at 0 1 20) atom_word.Int sign.Unwritten) (declarator (name (at 0 1 24) "x") None None ∷ [])) ∷ []) None) ∷ items.Class (class_ (at 0 1 36) false (name (at 0 1 42) "B") (Some (name (at 0 1 52) "A")) (property unqualified (decl life.Unwritten (types.Atom (at 0 1 55) atom_word.Int sign.Unwritten) (declarator (name (at 0 1 59) "y") None None ∷ [])) ∷ []) None) ∷ items.Decl (decl life.Unwritten (types.Named (name (at 0 1 71) "A")) (declarator (name (at 0 1 73) "a") None None ∷ [])) ∷ items.Decl (decl life.Unwritten (types.Named (name (at 0 1 76) "B")) (declarator (name (at 0 1 78) "b") None None ∷ [])) ∷ procedure (at 0 1 81) procedure_word.Initial (stmts.Statement (at 0 1 89) None (stmts.Block None [] (statements (stmts.Statement (at 0 1 95) None (blocking (target (at 0 1 95) "a") None (stmts.New (at 0 1 99) tree.Unwritten)) ∷ stmts.Statement (at 0 1 104) None (stmts.Ignore (at 0 1 104) (system (at 0 1 110) "$cast" (plain (at 0 1 116) "b" ∷ plain (at 0 1 119) "a" ∷ []))) ∷ stmts.Statement (at 0 1 124) None (stmts.Call (system (at 0 1 124) "$display" (text (at 0 1 133) "%0d" ∷ tree.Binary binary_word.Equal (at 0 1 142) (plain (at 0 1 140) "b") (tree.Null (at 0 1 145)) ∷ []))) ∷ stmts.Statement (at 0 1 152) None (stmts.If (system (at 0 1 156) "$cast" (plain (at 0 1 162) "b" ∷ plain (at 0 1 165) "a" ∷ [])) (stmts.Statement (at 0 1 169) None (stmts.Call (system (at 0 1 169) "$display" (text (at 0 1 178) "no" ∷ []))))) ∷ stmts.Statement (at 0 1 185) None (blocking (target (at 0 1 185) "b") None (stmts.New (at 0 1 189) tree.Unwritten)) ∷ stmts.Statement (at 0 1 194) None (blocking (target (at 0 1 194) "B") None (stmts.Value (plain (at 0 1 198) "b"))) ∷ stmts.Statement (at 0 1 201) None (stmts.Call (system (at 0 1 201) "$display" (text (at 0 1 210) "%0d" ∷ system (at 0 1 217) "$cast" (plain (at 0 1 223) "b" ∷ plain (at 0 1 226) "a" ∷ []) ∷ []))) ∷ stmts.Statement (at 0 1 231) None (stmts.Call (system (at 0 1 231) "$cast" (plain (at 0 1 237) "b" ∷ plain (at 0 1 240) "a" ∷ []))) ∷ [])) None)) ∷ []) None ∷ []

t27_broken : broken t27 [] None ≡ Some (fault 7 0 1 194)
unfolding symbols_of word_of
t27_broken = refl

-- class P; int v; function new(int a = 2); v = a; endfunction endclass class Q extends P; int w = v + 1; function new(); super.new(5); w++; endfunction endclass module P; Q q; P p; initial begin q = new; p = new; $display("%0d %0d %0d", q.v, q.w, p.v); p = new q; $display("%0d", p.v); end endmodule
abbrev t28 : List Description
t28 = descriptions.Item (items.Class (class_ (at 0 1 1) false (name (at 0 1 7) "P") None (property unqualified (decl life.Unwritten (types.Atom (at 0 1 10) atom_word.Int sign.Unwritten) (declarator (name (at 0 1 14) "v") None None ∷ [])) ∷ method unqualified (routine (head (at 0 1 17) life.Unwritten (units.Returns.Value types.Unwritten) (name (at 0 1 26) "new") (argument None (types.Written (types.Atom (at 0 1 30) atom_word.Int sign.Unwritten)) (name (at 0 1 34) "a") (Some (number (at 0 1 38) "2")) ∷ [])) [] (stmts.Statement (at 0 1 42) None (blocking (target (at 0 1 42) "v") None (stmts.Value (plain (at 0 1 46) "a"))) ∷ []) None) ∷ []) None)) ∷ descriptions.Item (items.Class (class_ (at 0 1 70) false (name (at 0 1 76) "Q") (Some (name (at 0 1 86) "P")) (property unqualified (decl life.Unwritten (types.Atom (at 0 1 89) atom_word.Int sign.Unwritten) (declarator (name (at 0 1 93) "w") None (Some (stmts.Value (tree.Binary binary_word.Plus (at 0 1 99) (plain (at 0 1 97) "v") (number (at 0 1 101) "1")))) ∷ [])) ∷ method unqualified (routine (head (at 0 1 104) life.Unwritten (units.Returns.Value types.Unwritten) (name (at 0 1 113) "new") []) [] (stmts.Statement (at 0 1 120) None (stmts.Call (tree.SuperNew (at 0 1 120) (at 0 1 126) (tree.Written (expressions (number (at 0 1 130) "5" ∷ []))))) ∷ stmts.Statement (at 0 1 134) None (stmts.Body.Step (target (at 0 1 134) "w") step_word.Increment) ∷ []) None) ∷ []) None)) ∷ module_ (at 0 1 160) life.Unwritten (name (at 0 1 167) "P") None [] (items.Decl (decl life.Unwritten (types.Named (name (at 0 1 170) "Q")) (declarator (name (at 0 1 172) "q") None None ∷ [])) ∷ items.Decl (decl life.Unwritten (types.Named (name (at 0 1 175) "P")) (declarator (name (at 0 1 177) "p") None None ∷ [])) ∷ procedure (at 0 1 180) procedure_word.Initial (stmts.Statement (at 0 1 188) None (stmts.Block None [] (statements (stmts.Statement (at 0 1 194) None (blocking (target (at 0 1 194) "q") None (stmts.New (at 0 1 198) tree.Unwritten)) ∷ stmts.Statement (at 0 1 203) None (blocking (target (at 0 1 203) "p") None (stmts.New (at 0 1 207) tree.Unwritten)) ∷ stmts.Statement (at 0 1 212) None (stmts.Call (system (at 0 1 212) "$display" (text (at 0 1 221) "%0d %0d %0d" ∷ tree.Expr.Post (root.Plain (name (at 0 1 236) "q")) (tree.Member (name (at 0 1 238) "v") tree.NoSuffix) ∷ tree.Expr.Post (root.Plain (name (at 0 1 241) "q")) (tree.Member (name (at 0 1 243) "w") tree.NoSuffix) ∷ tree.Expr.Post (root.Plain (name (at 0 1 246) "p")) (tree.Member (name (at 0 1 248) "v") tree.NoSuffix) ∷ []))) ∷ stmts.Statement (at 0 1 252) None (blocking (target (at 0 1 252) "p") None (stmts.Copy (at 0 1 256) (name (at 0 1 260) "q"))) ∷ stmts.Statement (at 0 1 263) None (stmts.Call (system (at 0 1 263) "$display" (text (at 0 1 272) "%0d" ∷ tree.Expr.Post (root.Plain (name (at 0 1 279) "p")) (tree.Member (name (at 0 1 281) "v") tree.NoSuffix) ∷ []))) ∷ [])) None)) ∷ []) None ∷ []

t28_broken : broken t28 [] None ≡ Some (fault 1 0 1 167)
unfolding symbols_of word_of
t28_broken = refl

-- virtual class S; pure virtual function int area(); endclass class R extends S; int a; function new(int x); a = x; endfunction virtual function  area(); return a * a; endfunction endclass module t; S s; R r; initial begin r = new(3); s = r; $display("%0d", s.area()); end endmodule
abbrev t29 : List Description
t29 = descriptions.Item (items.Class (class_ (at 0 1 1) true (name (at 0 1 15) "S") None (pure_method (at 0 1 18) (head (at 0 1 31) life.Unwritten (units.Returns.Value (types.Written (types.Atom (at 0 1 40) atom_word.Int sign.Unwritten))) (name (at 0 1 44) "area") []) ∷ []) None)) ∷ descriptions.Item (items.Class (class_ (at 0 1 61) false (name (at 0 1 67) "R") (Some (name (at 0 1 77) "S")) (property unqualified (decl life.Unwritten (types.Atom (at 0 1 80) atom_word.Int sign.Unwritten) (declarator (name (at 0 1 84) "a") None None ∷ [])) ∷ method unqualified (routine (head (at 0 1 87) life.Unwritten (units.Returns.Value types.Unwritten) (name (at 0 1 96) "new") (argument None (types.Written (types.Atom (at 0 1 100) atom_word.Int sign.Unwritten)) (name (at 0 1 104) "x") None ∷ [])) [] (stmts.Statement (at 0 1 108) None (blocking (target (at 0 1 108) "a") None (stmts.Value (plain (at 0 1 112) "x"))) ∷ []) None) ∷ method (qualifiers false false false true) (routine (head (at 0 1 135) life.Unwritten (units.Returns.Value types.Unwritten) (name (at 0 1 145) "area") []) [] (stmts.Statement (at 0 1 153) None (stmts.Return (Some (tree.Binary binary_word.Multiply (at 0 1 162) (plain (at 0 1 160) "a") (plain (at 0 1 164) "a")))) ∷ []) None) ∷ []) None)) ∷ module_ (at 0 1 188) life.Unwritten (name (at 0 1 195) "t") None [] (items.Decl (decl life.Unwritten (types.Named (name (at 0 1 198) "S")) (declarator (name (at 0 1 200) "s") None None ∷ [])) ∷ items.Decl (decl life.Unwritten (types.Named (name (at 0 1 203) "R")) (declarator (name (at 0 1 205) "r") None None ∷ [])) ∷ procedure (at 0 1 208) procedure_word.Initial (stmts.Statement (at 0 1 216) None (stmts.Block None [] (statements (stmts.Statement (at 0 1 222) None (blocking (target (at 0 1 222) "r") None (stmts.New (at 0 1 226) (tree.Written (expressions (number (at 0 1 230) "3" ∷ []))))) ∷ stmts.Statement (at 0 1 234) None (blocking (target (at 0 1 234) "s") None (stmts.Value (plain (at 0 1 238) "r"))) ∷ stmts.Statement (at 0 1 241) None (stmts.Call (system (at 0 1 241) "$display" (text (at 0 1 250) "%0d" ∷ tree.Expr.Post (root.Plain (name (at 0 1 257) "s")) (tree.Member (name (at 0 1 259) "area") (tree.Call (at 0 1 263) tree.NoExpr tree.NoSuffix)) ∷ []))) ∷ [])) None)) ∷ []) None ∷ []

t29_broken : broken t29 [] None ≡ Some (fault 34 0 1 145)
unfolding symbols_of word_of
t29_broken = refl

-- virtual class S; pure virtual function int area(); endclass class R extends S; int a; function new(int x); a = x; endfunction virtual function bit area(); return a * a; endfunction endclass module t; S s; R r; initial begin r = new(3); s = r; $display("%0d", s.area()); end endmodule
abbrev t30 : List Description
t30 = descriptions.Item (items.Class (class_ (at 0 1 1) true (name (at 0 1 15) "S") None (pure_method (at 0 1 18) (head (at 0 1 31) life.Unwritten (units.Returns.Value (types.Written (types.Atom (at 0 1 40) atom_word.Int sign.Unwritten))) (name (at 0 1 44) "area") []) ∷ []) None)) ∷ descriptions.Item (items.Class (class_ (at 0 1 61) false (name (at 0 1 67) "R") (Some (name (at 0 1 77) "S")) (property unqualified (decl life.Unwritten (types.Atom (at 0 1 80) atom_word.Int sign.Unwritten) (declarator (name (at 0 1 84) "a") None None ∷ [])) ∷ method unqualified (routine (head (at 0 1 87) life.Unwritten (units.Returns.Value types.Unwritten) (name (at 0 1 96) "new") (argument None (types.Written (types.Atom (at 0 1 100) atom_word.Int sign.Unwritten)) (name (at 0 1 104) "x") None ∷ [])) [] (stmts.Statement (at 0 1 108) None (blocking (target (at 0 1 108) "a") None (stmts.Value (plain (at 0 1 112) "x"))) ∷ []) None) ∷ method (qualifiers false false false true) (routine (head (at 0 1 135) life.Unwritten (units.Returns.Value (types.Written (types.WrittenType.Vector (at 0 1 144) vector_word.Bit sign.Unwritten None))) (name (at 0 1 148) "area") []) [] (stmts.Statement (at 0 1 156) None (stmts.Return (Some (tree.Binary binary_word.Multiply (at 0 1 165) (plain (at 0 1 163) "a") (plain (at 0 1 167) "a")))) ∷ []) None) ∷ []) None)) ∷ module_ (at 0 1 191) life.Unwritten (name (at 0 1 198) "t") None [] (items.Decl (decl life.Unwritten (types.Named (name (at 0 1 201) "S")) (declarator (name (at 0 1 203) "s") None None ∷ [])) ∷ items.Decl (decl life.Unwritten (types.Named (name (at 0 1 206) "R")) (declarator (name (at 0 1 208) "r") None None ∷ [])) ∷ procedure (at 0 1 211) procedure_word.Initial (stmts.Statement (at 0 1 219) None (stmts.Block None [] (statements (stmts.Statement (at 0 1 225) None (blocking (target (at 0 1 225) "r") None (stmts.New (at 0 1 229) (tree.Written (expressions (number (at 0 1 233) "3" ∷ []))))) ∷ stmts.Statement (at 0 1 237) None (blocking (target (at 0 1 237) "s") None (stmts.Value (plain (at 0 1 241) "r"))) ∷ stmts.Statement (at 0 1 244) None (stmts.Call (system (at 0 1 244) "$display" (text (at 0 1 253) "%0d" ∷ tree.Expr.Post (root.Plain (name (at 0 1 260) "s")) (tree.Member (name (at 0 1 262) "area") (tree.Call (at 0 1 266) tree.NoExpr tree.NoSuffix)) ∷ []))) ∷ [])) None)) ∷ []) None ∷ []

t30_broken : broken t30 [] None ≡ Some (fault 34 0 1 148)
unfolding symbols_of word_of
t30_broken = refl

-- virtual class S; pure virtual function int area(); endclass class R extends S; int a; function new(int x); a <= x; endfunction virtual function int area(); return a * a; endfunction endclass module t; S s; R r; initial begin r = new(3); s = r; $display("%0d", s.area()); end endmodule
abbrev t31 : List Description
t31 = descriptions.Item (items.Class (class_ (at 0 1 1) true (name (at 0 1 15) "S") None (pure_method (at 0 1 18) (head (at 0 1 31) life.Unwritten (units.Returns.Value (types.Written (types.Atom (at 0 1 40) atom_word.Int sign.Unwritten))) (name (at 0 1 44) "area") []) ∷ []) None)) ∷ descriptions.Item (items.Class (class_ (at 0 1 61) false (name (at 0 1 67) "R") (Some (name (at 0 1 77) "S")) (property unqualified (decl life.Unwritten (types.Atom (at 0 1 80) atom_word.Int sign.Unwritten) (declarator (name (at 0 1 84) "a") None None ∷ [])) ∷ method unqualified (routine (head (at 0 1 87) life.Unwritten (units.Returns.Value types.Unwritten) (name (at 0 1 96) "new") (argument None (types.Written (types.Atom (at 0 1 100) atom_word.Int sign.Unwritten)) (name (at 0 1 104) "x") None ∷ [])) [] (stmts.Statement (at 0 1 108) None (nonblocking (target (at 0 1 108) "a") None (plain (at 0 1 113) "x")) ∷ []) None) ∷ method (qualifiers false false false true) (routine (head (at 0 1 136) life.Unwritten (units.Returns.Value (types.Written (types.Atom (at 0 1 145) atom_word.Int sign.Unwritten))) (name (at 0 1 149) "area") []) [] (stmts.Statement (at 0 1 157) None (stmts.Return (Some (tree.Binary binary_word.Multiply (at 0 1 166) (plain (at 0 1 164) "a") (plain (at 0 1 168) "a")))) ∷ []) None) ∷ []) None)) ∷ module_ (at 0 1 192) life.Unwritten (name (at 0 1 199) "t") None [] (items.Decl (decl life.Unwritten (types.Named (name (at 0 1 202) "S")) (declarator (name (at 0 1 204) "s") None None ∷ [])) ∷ items.Decl (decl life.Unwritten (types.Named (name (at 0 1 207) "R")) (declarator (name (at 0 1 209) "r") None None ∷ [])) ∷ procedure (at 0 1 212) procedure_word.Initial (stmts.Statement (at 0 1 220) None (stmts.Block None [] (statements (stmts.Statement (at 0 1 226) None (blocking (target (at 0 1 226) "r") None (stmts.New (at 0 1 230) (tree.Written (expressions (number (at 0 1 234) "3" ∷ []))))) ∷ stmts.Statement (at 0 1 238) None (blocking (target (at 0 1 238) "s") None (stmts.Value (plain (at 0 1 242) "r"))) ∷ stmts.Statement (at 0 1 245) None (stmts.Call (system (at 0 1 245) "$display" (text (at 0 1 254) "%0d" ∷ tree.Expr.Post (root.Plain (name (at 0 1 261) "s")) (tree.Member (name (at 0 1 263) "area") (tree.Call (at 0 1 267) tree.NoExpr tree.NoSuffix)) ∷ []))) ∷ [])) None)) ∷ []) None ∷ []

t31_broken : broken t31 [] None ≡ Some (fault 26 0 1 108)
unfolding symbols_of word_of
t31_broken = refl

-- module t; class N; N next; int v; function new(int x, N n); v <= x; next = n; endfunction endclass N l; int s; initial begin l = new(1, null); l = new(2, l); l = new(3, l); while (l != null) begin s += l.v; l = l.next; end $display("%0d", s); end endmodule
abbrev t32 : List Description
t32 = module_ (at 0 1 1) life.Unwritten (name (at 0 1 8) "t") None [] (items.Class (class_ (at 0 1 11) false (name (at 0 1 17) "N") None (property unqualified (decl life.Unwritten (types.Named (name (at 0 1 20) "N")) (declarator (name (at 0 1 22) "next") None None ∷ [])) ∷ property unqualified (decl life.Unwritten (types.Atom (at 0 1 28) atom_word.Int sign.Unwritten) (declarator (name (at 0 1 32) "v") None None ∷ [])) ∷ method unqualified (routine (head (at 0 1 35) life.Unwritten (units.Returns.Value types.Unwritten) (name (at 0 1 44) "new") (argument None (types.Written (types.Atom (at 0 1 48) atom_word.Int sign.Unwritten)) (name (at 0 1 52) "x") None ∷ argument None (types.Written (types.Named (name (at 0 1 55) "N"))) (name (at 0 1 57) "n") None ∷ [])) [] (stmts.Statement (at 0 1 61) None (nonblocking (target (at 0 1 61) "v") None (plain (at 0 1 66) "x")) ∷ stmts.Statement (at 0 1 69) None (blocking (target (at 0 1 69) "next") None (stmts.Value (plain (at 0 1 76) "n"))) ∷ []) None) ∷ []) None) ∷ items.Decl (decl life.Unwritten (types.Named (name (at 0 1 100) "N")) (declarator (name (at 0 1 102) "l") None None ∷ [])) ∷ items.Decl (decl life.Unwritten (types.Atom (at 0 1 105) atom_word.Int sign.Unwritten) (declarator (name (at 0 1 109) "s") None None ∷ [])) ∷ procedure (at 0 1 112) procedure_word.Initial (stmts.Statement (at 0 1 120) None (stmts.Block None [] (statements (stmts.Statement (at 0 1 126) None (blocking (target (at 0 1 126) "l") None (stmts.New (at 0 1 130) (tree.Written (expressions (number (at 0 1 134) "1" ∷ tree.Null (at 0 1 137) ∷ []))))) ∷ stmts.Statement (at 0 1 144) None (blocking (target (at 0 1 144) "l") None (stmts.New (at 0 1 148) (tree.Written (expressions (number (at 0 1 152) "2" ∷ plain (at 0 1 155) "l" ∷ []))))) ∷ stmts.Statement (at 0 1 159) None (blocking (target (at 0 1 159) "l") None (stmts.New (at 0 1 163) (tree.Written (expressions (number (at 0 1 167) "3" ∷ plain (at 0 1 170) "l" ∷ []))))) ∷ stmts.Statement (at 0 1 174) None (stmts.While (tree.Binary binary_word.NotEqual (at 0 1 183) (plain (at 0 1 181) "l") (tree.Null (at 0 1 186))) (stmts.Statement (at 0 1 192) None (stmts.Block None [] (statements (stmts.Statement (at 0 1 198) None (stmts.Body.Operator (operated (target (at 0 1 198) "s") binary_word.Plus (tree.Expr.Post (root.Plain (name (at 0 1 203) "l")) (tree.Member (name (at 0 1 205) "v") tree.NoSuffix)))) ∷ stmts.Statement (at 0 1 208) None (blocking (target (at 0 1 208) "l") None (stmts.Value (tree.Expr.Post (root.Plain (name (at 0 1 212) "l")) (tree.Member (name (at 0 1 214) "next") tree.NoSuffix)))) ∷ [])) None))) ∷ stmts.Statement (at 0 1 224) None (stmts.Call (system (at 0 1 224) "$display" (text (at 0 1 233) "%0d" ∷ plain (at 0 1 240) "s" ∷ []))) ∷ [])) None)) ∷ []) None ∷ []

t32_broken : broken t32 [] None ≡ Some (fault 26 0 1 61)
unfolding symbols_of word_of
t32_broken = refl

-- module c; class C; endclass C c = new; endmodule
abbrev t33 : List Description
t33 = module_ (at 0 1 1) life.Unwritten (name (at 0 1 8) "c") None [] (items.Class (class_ (at 0 1 11) false (name (at 0 1 17) "C") None [] None) ∷ items.Decl (decl life.Unwritten (types.Named (name (at 0 1 29) "C")) (declarator (name (at 0 1 31) "c") None (Some (stmts.New (at 0 1 35) tree.Unwritten)) ∷ [])) ∷ []) None ∷ []

t33_broken : broken t33 [] None ≡ Some (fault 25 0 1 35)
unfolding symbols_of word_of
t33_broken = refl

-- module t; class C; protected function new(); endfunction endclass C c; initial c = new; endmodule
abbrev t34 : List Description
t34 = module_ (at 0 1 1) life.Unwritten (name (at 0 1 8) "t") None [] (items.Class (class_ (at 0 1 11) false (name (at 0 1 17) "C") None (method (qualifiers false true false false) (routine (head (at 0 1 30) life.Unwritten (units.Returns.Value types.Unwritten) (name (at 0 1 39) "new") []) [] [] None) ∷ []) None) ∷ items.Decl (decl life.Unwritten (types.Named (name (at 0 1 67) "C")) (declarator (name (at 0 1 69) "c") None None ∷ [])) ∷ procedure (at 0 1 72) procedure_word.Initial (stmts.Statement (at 0 1 80) None (blocking (target (at 0 1 80) "c") None (stmts.New (at 0 1 84) tree.Unwritten))) ∷ []) None ∷ []

t34_broken : broken t34 [] None ≡ Some (fault 37 0 1 84)
unfolding symbols_of word_of
t34_broken = refl

-- module c; class C; local function new(); endfunction endclass C c; initial c = new; endmodule
abbrev t35 : List Description
t35 = module_ (at 0 1 1) life.Unwritten (name (at 0 1 8) "c") None [] (items.Class (class_ (at 0 1 11) false (name (at 0 1 17) "C") None (method (qualifiers true false false false) (routine (head (at 0 1 26) life.Unwritten (units.Returns.Value types.Unwritten) (name (at 0 1 35) "new") []) [] [] None) ∷ []) None) ∷ items.Decl (decl life.Unwritten (types.Named (name (at 0 1 63) "C")) (declarator (name (at 0 1 65) "c") None None ∷ [])) ∷ procedure (at 0 1 68) procedure_word.Initial (stmts.Statement (at 0 1 76) None (blocking (target (at 0 1 76) "c") None (stmts.New (at 0 1 80) tree.Unwritten))) ∷ []) None ∷ []

t35_broken : broken t35 [] None ≡ Some (fault 37 0 1 80)
unfolding symbols_of word_of
t35_broken = refl

-- module t; virtual class C; endclass ; C c; initial c = new; endmodule
abbrev t36 : List Description
t36 = module_ (at 0 1 1) life.Unwritten (name (at 0 1 8) "t") None [] (items.Class (class_ (at 0 1 11) true (name (at 0 1 25) "C") None [] None) ∷ items.Null ∷ items.Decl (decl life.Unwritten (types.Named (name (at 0 1 39) "C")) (declarator (name (at 0 1 41) "c") None None ∷ [])) ∷ procedure (at 0 1 44) procedure_word.Initial (stmts.Statement (at 0 1 52) None (blocking (target (at 0 1 52) "c") None (stmts.New (at 0 1 56) tree.Unwritten))) ∷ []) None ∷ []

t36_broken : broken t36 [] None ≡ Some (fault 35 0 1 56)
unfolding symbols_of word_of
t36_broken = refl

-- module t; class C; pure virtual function int unsigned f(); endclass endmodule
abbrev t37 : List Description
t37 = module_ (at 0 1 1) life.Unwritten (name (at 0 1 8) "t") None [] (items.Class (class_ (at 0 1 11) false (name (at 0 1 17) "C") None (pure_method (at 0 1 20) (head (at 0 1 33) life.Unwritten (units.Returns.Value (types.Written (types.Atom (at 0 1 42) atom_word.Int sign.Unsigned))) (name (at 0 1 55) "f") []) ∷ []) None) ∷ []) None ∷ []

t37_broken : broken t37 [] None ≡ Some (fault 35 0 1 17)
unfolding symbols_of word_of
t37_broken = refl

-- module t; class C; pure virtual function byte f(); endclass endmodule
abbrev t38 : List Description
t38 = module_ (at 0 1 1) life.Unwritten (name (at 0 1 8) "t") None [] (items.Class (class_ (at 0 1 11) false (name (at 0 1 17) "C") None (pure_method (at 0 1 20) (head (at 0 1 33) life.Unwritten (units.Returns.Value (types.Written (types.Atom (at 0 1 42) atom_word.Byte sign.Unwritten))) (name (at 0 1 47) "f") []) ∷ []) None) ∷ []) None ∷ []

t38_broken : broken t38 [] None ≡ Some (fault 35 0 1 17)
unfolding symbols_of word_of
t38_broken = refl

-- virtual class S; pure virtual function int f(); endclass class f extends S; endclass module t; endmodule
abbrev t39 : List Description
t39 = descriptions.Item (items.Class (class_ (at 0 1 1) true (name (at 0 1 15) "S") None (pure_method (at 0 1 18) (head (at 0 1 31) life.Unwritten (units.Returns.Value (types.Written (types.Atom (at 0 1 40) atom_word.Int sign.Unwritten))) (name (at 0 1 44) "f") []) ∷ []) None)) ∷ descriptions.Item (items.Class (class_ (at 0 1 58) false (name (at 0 1 64) "f") (Some (name (at 0 1 74) "S")) [] None)) ∷ module_ (at 0 1 86) life.Unwritten (name (at 0 1 93) "t") None [] [] None ∷ []

t39_broken : broken t39 [] None ≡ Some (fault 35 0 1 64)
unfolding symbols_of word_of
t39_broken = refl

-- virtual class S; pure virtual function int f(); endclass class R extends S; endclass module f; endmodule
abbrev t40 : List Description
t40 = descriptions.Item (items.Class (class_ (at 0 1 1) true (name (at 0 1 15) "S") None (pure_method (at 0 1 18) (head (at 0 1 31) life.Unwritten (units.Returns.Value (types.Written (types.Atom (at 0 1 40) atom_word.Int sign.Unwritten))) (name (at 0 1 44) "f") []) ∷ []) None)) ∷ descriptions.Item (items.Class (class_ (at 0 1 58) false (name (at 0 1 64) "R") (Some (name (at 0 1 74) "S")) [] None)) ∷ module_ (at 0 1 86) life.Unwritten (name (at 0 1 93) "f") None [] [] None ∷ []

t40_broken : broken t40 [] None ≡ Some (fault 35 0 1 64)
unfolding symbols_of word_of
t40_broken = refl

-- class A; virtual function  f(int x); return 1; endfunction endclass class B extends A; virtual function int f(byte x); return 1; endfunction endclass module t; endmodule
abbrev t41 : List Description
t41 = descriptions.Item (items.Class (class_ (at 0 1 1) false (name (at 0 1 7) "A") None (method (qualifiers false false false true) (routine (head (at 0 1 18) life.Unwritten (units.Returns.Value types.Unwritten) (name (at 0 1 28) "f") (argument None (types.Written (types.Atom (at 0 1 30) atom_word.Int sign.Unwritten)) (name (at 0 1 34) "x") None ∷ [])) [] (stmts.Statement (at 0 1 38) None (stmts.Return (Some (number (at 0 1 45) "1"))) ∷ []) None) ∷ []) None)) ∷ descriptions.Item (items.Class (class_ (at 0 1 69) false (name (at 0 1 75) "B") (Some (name (at 0 1 85) "A")) (method (qualifiers false false false true) (routine (head (at 0 1 96) life.Unwritten (units.Returns.Value (types.Written (types.Atom (at 0 1 105) atom_word.Int sign.Unwritten))) (name (at 0 1 109) "f") (argument None (types.Written (types.Atom (at 0 1 111) atom_word.Byte sign.Unwritten)) (name (at 0 1 116) "x") None ∷ [])) [] (stmts.Statement (at 0 1 120) None (stmts.Return (Some (number (at 0 1 127) "1"))) ∷ []) None) ∷ []) None)) ∷ module_ (at 0 1 151) life.Unwritten (name (at 0 1 158) "t") None [] [] None ∷ []

t41_broken : broken t41 [] None ≡ Some (fault 34 0 1 109)
unfolding symbols_of word_of
t41_broken = refl

-- class A; virtual function int f(int x); return 1; endfunction endclass class B extends A; virtual function int f(byte x); return f; endfunction endclass module t; endmodule
abbrev t42 : List Description
t42 = descriptions.Item (items.Class (class_ (at 0 1 1) false (name (at 0 1 7) "A") None (method (qualifiers false false false true) (routine (head (at 0 1 18) life.Unwritten (units.Returns.Value (types.Written (types.Atom (at 0 1 27) atom_word.Int sign.Unwritten))) (name (at 0 1 31) "f") (argument None (types.Written (types.Atom (at 0 1 33) atom_word.Int sign.Unwritten)) (name (at 0 1 37) "x") None ∷ [])) [] (stmts.Statement (at 0 1 41) None (stmts.Return (Some (number (at 0 1 48) "1"))) ∷ []) None) ∷ []) None)) ∷ descriptions.Item (items.Class (class_ (at 0 1 72) false (name (at 0 1 78) "B") (Some (name (at 0 1 88) "A")) (method (qualifiers false false false true) (routine (head (at 0 1 99) life.Unwritten (units.Returns.Value (types.Written (types.Atom (at 0 1 108) atom_word.Int sign.Unwritten))) (name (at 0 1 112) "f") (argument None (types.Written (types.Atom (at 0 1 114) atom_word.Byte sign.Unwritten)) (name (at 0 1 119) "x") None ∷ [])) [] (stmts.Statement (at 0 1 123) None (stmts.Return (Some (plain (at 0 1 130) "f"))) ∷ []) None) ∷ []) None)) ∷ module_ (at 0 1 154) life.Unwritten (name (at 0 1 161) "t") None [] [] None ∷ []

t42_broken : broken t42 [] None ≡ Some (fault 34 0 1 112)
unfolding symbols_of word_of
t42_broken = refl

-- class A; virtual function int f(int x); return ; endfunction endclass class B extends A; virtual function int f(byte x); return 1; endfunction endclass module t; endmodule
abbrev t43 : List Description
t43 = descriptions.Item (items.Class (class_ (at 0 1 1) false (name (at 0 1 7) "A") None (method (qualifiers false false false true) (routine (head (at 0 1 18) life.Unwritten (units.Returns.Value (types.Written (types.Atom (at 0 1 27) atom_word.Int sign.Unwritten))) (name (at 0 1 31) "f") (argument None (types.Written (types.Atom (at 0 1 33) atom_word.Int sign.Unwritten)) (name (at 0 1 37) "x") None ∷ [])) [] (stmts.Statement (at 0 1 41) None (stmts.Return None) ∷ []) None) ∷ []) None)) ∷ descriptions.Item (items.Class (class_ (at 0 1 71) false (name (at 0 1 77) "B") (Some (name (at 0 1 87) "A")) (method (qualifiers false false false true) (routine (head (at 0 1 98) life.Unwritten (units.Returns.Value (types.Written (types.Atom (at 0 1 107) atom_word.Int sign.Unwritten))) (name (at 0 1 111) "f") (argument None (types.Written (types.Atom (at 0 1 113) atom_word.Byte sign.Unwritten)) (name (at 0 1 118) "x") None ∷ [])) [] (stmts.Statement (at 0 1 122) None (stmts.Return (Some (number (at 0 1 129) "1"))) ∷ []) None) ∷ []) None)) ∷ module_ (at 0 1 153) life.Unwritten (name (at 0 1 160) "t") None [] [] None ∷ []

t43_broken : broken t43 [] None ≡ Some (fault 30 0 1 41)
unfolding symbols_of word_of
t43_broken = refl

-- class A; virtual function int f(output int x); endfunction endclass class B extends A; function int unsigned f(input int x); endfunction endclass module t; endmodule
abbrev t44 : List Description
t44 = descriptions.Item (items.Class (class_ (at 0 1 1) false (name (at 0 1 7) "A") None (method (qualifiers false false false true) (routine (head (at 0 1 18) life.Unwritten (units.Returns.Value (types.Written (types.Atom (at 0 1 27) atom_word.Int sign.Unwritten))) (name (at 0 1 31) "f") (argument (Some direction.Output) (types.Written (types.Atom (at 0 1 40) atom_word.Int sign.Unwritten)) (name (at 0 1 44) "x") None ∷ [])) [] [] None) ∷ []) None)) ∷ descriptions.Item (items.Class (class_ (at 0 1 69) false (name (at 0 1 75) "B") (Some (name (at 0 1 85) "A")) (method unqualified (routine (head (at 0 1 88) life.Unwritten (units.Returns.Value (types.Written (types.Atom (at 0 1 97) atom_word.Int sign.Unsigned))) (name (at 0 1 110) "f") (argument (Some direction.Input) (types.Written (types.Atom (at 0 1 118) atom_word.Int sign.Unwritten)) (name (at 0 1 122) "x") None ∷ [])) [] [] None) ∷ []) None)) ∷ module_ (at 0 1 147) life.Unwritten (name (at 0 1 154) "t") None [] [] None ∷ []

t44_broken : broken t44 [] None ≡ Some (fault 34 0 1 110)
unfolding symbols_of word_of
t44_broken = refl

-- class A; virtual function int f(output int x); endfunction endclass class B extends t; function int f(input int x); endfunction endclass module t; endmodule
abbrev t45 : List Description
t45 = descriptions.Item (items.Class (class_ (at 0 1 1) false (name (at 0 1 7) "A") None (method (qualifiers false false false true) (routine (head (at 0 1 18) life.Unwritten (units.Returns.Value (types.Written (types.Atom (at 0 1 27) atom_word.Int sign.Unwritten))) (name (at 0 1 31) "f") (argument (Some direction.Output) (types.Written (types.Atom (at 0 1 40) atom_word.Int sign.Unwritten)) (name (at 0 1 44) "x") None ∷ [])) [] [] None) ∷ []) None)) ∷ descriptions.Item (items.Class (class_ (at 0 1 69) false (name (at 0 1 75) "B") (Some (name (at 0 1 85) "t")) (method unqualified (routine (head (at 0 1 88) life.Unwritten (units.Returns.Value (types.Written (types.Atom (at 0 1 97) atom_word.Int sign.Unwritten))) (name (at 0 1 101) "f") (argument (Some direction.Input) (types.Written (types.Atom (at 0 1 109) atom_word.Int sign.Unwritten)) (name (at 0 1 113) "x") None ∷ [])) [] [] None) ∷ []) None)) ∷ module_ (at 0 1 138) life.Unwritten (name (at 0 1 145) "t") None [] [] None ∷ []

t45_broken : broken t45 [] None ≡ Some (fault 33 0 1 85)
unfolding symbols_of word_of
t45_broken = refl

-- class A; virtual function bit f(output int x); endfunction endclass class B extends A; function int f(input int x); endfunction endclass module t; endmodule
abbrev t46 : List Description
t46 = descriptions.Item (items.Class (class_ (at 0 1 1) false (name (at 0 1 7) "A") None (method (qualifiers false false false true) (routine (head (at 0 1 18) life.Unwritten (units.Returns.Value (types.Written (types.WrittenType.Vector (at 0 1 27) vector_word.Bit sign.Unwritten None))) (name (at 0 1 31) "f") (argument (Some direction.Output) (types.Written (types.Atom (at 0 1 40) atom_word.Int sign.Unwritten)) (name (at 0 1 44) "x") None ∷ [])) [] [] None) ∷ []) None)) ∷ descriptions.Item (items.Class (class_ (at 0 1 69) false (name (at 0 1 75) "B") (Some (name (at 0 1 85) "A")) (method unqualified (routine (head (at 0 1 88) life.Unwritten (units.Returns.Value (types.Written (types.Atom (at 0 1 97) atom_word.Int sign.Unwritten))) (name (at 0 1 101) "f") (argument (Some direction.Input) (types.Written (types.Atom (at 0 1 109) atom_word.Int sign.Unwritten)) (name (at 0 1 113) "x") None ∷ [])) [] [] None) ∷ []) None)) ∷ module_ (at 0 1 138) life.Unwritten (name (at 0 1 145) "t") None [] [] None ∷ []

t46_broken : broken t46 [] None ≡ Some (fault 34 0 1 101)
unfolding symbols_of word_of
t46_broken = refl

-- class A extends B; endclass class B extends B; endclass class C extends A; endclass module t; endmodule
abbrev t47 : List Description
t47 = descriptions.Item (items.Class (class_ (at 0 1 1) false (name (at 0 1 7) "A") (Some (name (at 0 1 17) "B")) [] None)) ∷ descriptions.Item (items.Class (class_ (at 0 1 29) false (name (at 0 1 35) "B") (Some (name (at 0 1 45) "B")) [] None)) ∷ descriptions.Item (items.Class (class_ (at 0 1 57) false (name (at 0 1 63) "C") (Some (name (at 0 1 73) "A")) [] None)) ∷ module_ (at 0 1 85) life.Unwritten (name (at 0 1 92) "t") None [] [] None ∷ []

t47_broken : broken t47 [] None ≡ Some (fault 33 0 1 45)
unfolding symbols_of word_of
t47_broken = refl

-- class t extends t; endclass module t; endmodule
abbrev t48 : List Description
t48 = descriptions.Item (items.Class (class_ (at 0 1 1) false (name (at 0 1 7) "t") (Some (name (at 0 1 17) "t")) [] None)) ∷ module_ (at 0 1 29) life.Unwritten (name (at 0 1 36) "t") None [] [] None ∷ []

t48_broken : broken t48 [] None ≡ Some (fault 33 0 1 17)
unfolding symbols_of word_of
t48_broken = refl

-- module t; class A; local int x; protected int y; endclass A a; initial a.x = 1'bx; endmodule
abbrev t49 : List Description
t49 = module_ (at 0 1 1) life.Unwritten (name (at 0 1 8) "t") None [] (items.Class (class_ (at 0 1 11) false (name (at 0 1 17) "A") None (property (qualifiers true false false false) (decl life.Unwritten (types.Atom (at 0 1 26) atom_word.Int sign.Unwritten) (declarator (name (at 0 1 30) "x") None None ∷ [])) ∷ property (qualifiers false true false false) (decl life.Unwritten (types.Atom (at 0 1 43) atom_word.Int sign.Unwritten) (declarator (name (at 0 1 47) "y") None None ∷ [])) ∷ []) None) ∷ items.Decl (decl life.Unwritten (types.Named (name (at 0 1 59) "A")) (declarator (name (at 0 1 61) "a") None None ∷ [])) ∷ procedure (at 0 1 64) procedure_word.Initial (stmts.Statement (at 0 1 72) None (blocking (tree.Lval.Post (root.Plain (name (at 0 1 72) "a")) (tree.Member (name (at 0 1 74) "x") tree.NoSuffix)) None (stmts.Value (number (at 0 1 78) "1'bx")))) ∷ []) None ∷ []

t49_broken : broken t49 [] None ≡ Some (fault 37 0 1 74)
unfolding symbols_of word_of
t49_broken = refl

-- module t; class A; protected int y; endclass class B extends t; function void f(); y = 1; endfunction endclass B b; initial b.y = 2; endmodule
abbrev t50 : List Description
t50 = module_ (at 0 1 1) life.Unwritten (name (at 0 1 8) "t") None [] (items.Class (class_ (at 0 1 11) false (name (at 0 1 17) "A") None (property (qualifiers false true false false) (decl life.Unwritten (types.Atom (at 0 1 30) atom_word.Int sign.Unwritten) (declarator (name (at 0 1 34) "y") None None ∷ [])) ∷ []) None) ∷ items.Class (class_ (at 0 1 46) false (name (at 0 1 52) "B") (Some (name (at 0 1 62) "t")) (method unqualified (routine (head (at 0 1 65) life.Unwritten units.Void (name (at 0 1 79) "f") []) [] (stmts.Statement (at 0 1 84) None (blocking (target (at 0 1 84) "y") None (stmts.Value (number (at 0 1 88) "1"))) ∷ []) None) ∷ []) None) ∷ items.Decl (decl life.Unwritten (types.Named (name (at 0 1 112) "B")) (declarator (name (at 0 1 114) "b") None None ∷ [])) ∷ procedure (at 0 1 117) procedure_word.Initial (stmts.Statement (at 0 1 125) None (blocking (tree.Lval.Post (root.Plain (name (at 0 1 125) "b")) (tree.Member (name (at 0 1 127) "y") tree.NoSuffix)) None (stmts.Value (number (at 0 1 131) "2")))) ∷ []) None ∷ []

t50_broken : broken t50 [] None ≡ Some (fault 33 0 1 62)
unfolding symbols_of word_of
t50_broken = refl

-- module A; class A; local int x; endclass class B extends A; function void f(); x = 1; endfunction endclass endmodule
abbrev t51 : List Description
t51 = module_ (at 0 1 1) life.Unwritten (name (at 0 1 8) "A") None [] (items.Class (class_ (at 0 1 11) false (name (at 0 1 17) "A") None (property (qualifiers true false false false) (decl life.Unwritten (types.Atom (at 0 1 26) atom_word.Int sign.Unwritten) (declarator (name (at 0 1 30) "x") None None ∷ [])) ∷ []) None) ∷ items.Class (class_ (at 0 1 42) false (name (at 0 1 48) "B") (Some (name (at 0 1 58) "A")) (method unqualified (routine (head (at 0 1 61) life.Unwritten units.Void (name (at 0 1 75) "f") []) [] (stmts.Statement (at 0 1 80) None (blocking (target (at 0 1 80) "x") None (stmts.Value (number (at 0 1 84) "1"))) ∷ []) None) ∷ []) None) ∷ []) None ∷ []

t51_broken : broken t51 [] None ≡ Some (fault 37 0 1 80)
unfolding symbols_of word_of
t51_broken = refl

-- module t; class A; local int x; endclass class zz extends A; function void f(); x = 1; endfunction endclass endmodule
abbrev t52 : List Description
t52 = module_ (at 0 1 1) life.Unwritten (name (at 0 1 8) "t") None [] (items.Class (class_ (at 0 1 11) false (name (at 0 1 17) "A") None (property (qualifiers true false false false) (decl life.Unwritten (types.Atom (at 0 1 26) atom_word.Int sign.Unwritten) (declarator (name (at 0 1 30) "x") None None ∷ [])) ∷ []) None) ∷ items.Class (class_ (at 0 1 42) false (name (at 0 1 48) "zz") (Some (name (at 0 1 59) "A")) (method unqualified (routine (head (at 0 1 62) life.Unwritten units.Void (name (at 0 1 76) "f") []) [] (stmts.Statement (at 0 1 81) None (blocking (target (at 0 1 81) "x") None (stmts.Value (number (at 0 1 85) "1"))) ∷ []) None) ∷ []) None) ∷ []) None ∷ []

t52_broken : broken t52 [] None ≡ Some (fault 37 0 1 81)
unfolding symbols_of word_of
t52_broken = refl

-- module t; initial this.x = 0; endmodule
abbrev t53 : List Description
t53 = module_ (at 0 1 1) life.Unwritten (name (at 0 1 8) "t") None [] (procedure (at 0 1 11) procedure_word.Initial (stmts.Statement (at 0 1 19) None (blocking (tree.Lval.Post (root.This (at 0 1 19)) (tree.Member (name (at 0 1 24) "x") tree.NoSuffix)) None (stmts.Value (number (at 0 1 28) "0")))) ∷ []) None ∷ []

t53_broken : broken t53 [] None ≡ Some (fault 38 0 1 19)
unfolding symbols_of word_of
t53_broken = refl

-- module t; initial this.x = 1'bx; endmodule
abbrev t54 : List Description
t54 = module_ (at 0 1 1) life.Unwritten (name (at 0 1 8) "t") None [] (procedure (at 0 1 11) procedure_word.Initial (stmts.Statement (at 0 1 19) None (blocking (tree.Lval.Post (root.This (at 0 1 19)) (tree.Member (name (at 0 1 24) "x") tree.NoSuffix)) None (stmts.Value (number (at 0 1 28) "1'bx")))) ∷ []) None ∷ []

t54_broken : broken t54 [] None ≡ Some (fault 38 0 1 19)
unfolding symbols_of word_of
t54_broken = refl

-- module t; initial this.x = 8'hff; endmodule
abbrev t55 : List Description
t55 = module_ (at 0 1 1) life.Unwritten (name (at 0 1 8) "t") None [] (procedure (at 0 1 11) procedure_word.Initial (stmts.Statement (at 0 1 19) None (blocking (tree.Lval.Post (root.This (at 0 1 19)) (tree.Member (name (at 0 1 24) "x") tree.NoSuffix)) None (stmts.Value (number (at 0 1 28) "8'hff")))) ∷ []) None ∷ []

t55_broken : broken t55 [] None ≡ Some (fault 38 0 1 19)
unfolding symbols_of word_of
t55_broken = refl

-- module t; class A; function  f(); super.new(); endfunction endclass endmodule
abbrev t56 : List Description
t56 = module_ (at 0 1 1) life.Unwritten (name (at 0 1 8) "t") None [] (items.Class (class_ (at 0 1 11) false (name (at 0 1 17) "A") None (method unqualified (routine (head (at 0 1 20) life.Unwritten (units.Returns.Value types.Unwritten) (name (at 0 1 30) "f") []) [] (stmts.Statement (at 0 1 35) None (stmts.Call (tree.SuperNew (at 0 1 35) (at 0 1 41) (tree.Written tree.NoExpr))) ∷ []) None) ∷ []) None) ∷ []) None ∷ []

t56_broken : broken t56 [] None ≡ Some (fault 38 0 1 35)
unfolding symbols_of word_of
t56_broken = refl

-- module t; class A; function void zz(); super.new(); endfunction endclass endmodule
abbrev t57 : List Description
t57 = module_ (at 0 1 1) life.Unwritten (name (at 0 1 8) "t") None [] (items.Class (class_ (at 0 1 11) false (name (at 0 1 17) "A") None (method unqualified (routine (head (at 0 1 20) life.Unwritten units.Void (name (at 0 1 34) "zz") []) [] (stmts.Statement (at 0 1 40) None (stmts.Call (tree.SuperNew (at 0 1 40) (at 0 1 46) (tree.Written tree.NoExpr))) ∷ []) None) ∷ []) None) ∷ []) None ∷ []

t57_broken : broken t57 [] None ≡ Some (fault 38 0 1 40)
unfolding symbols_of word_of
t57_broken = refl

-- module t; class A; endclass class B extends A; function new(); int x; x = '1; super.new(); endfunction endclass endmodule
abbrev t58 : List Description
t58 = module_ (at 0 1 1) life.Unwritten (name (at 0 1 8) "t") None [] (items.Class (class_ (at 0 1 11) false (name (at 0 1 17) "A") None [] None) ∷ items.Class (class_ (at 0 1 29) false (name (at 0 1 35) "B") (Some (name (at 0 1 45) "A")) (method unqualified (routine (head (at 0 1 48) life.Unwritten (units.Returns.Value types.Unwritten) (name (at 0 1 57) "new") []) (decl life.Unwritten (types.Atom (at 0 1 64) atom_word.Int sign.Unwritten) (declarator (name (at 0 1 68) "x") None None ∷ []) ∷ []) (stmts.Statement (at 0 1 71) None (blocking (target (at 0 1 71) "x") None (stmts.Value (number (at 0 1 75) "'1"))) ∷ stmts.Statement (at 0 1 79) None (stmts.Call (tree.SuperNew (at 0 1 79) (at 0 1 85) (tree.Written tree.NoExpr))) ∷ []) None) ∷ []) None) ∷ []) None ∷ []

t58_broken : broken t58 [] None ≡ Some (fault 38 0 1 79)
unfolding symbols_of word_of
t58_broken = refl

-- module t; class A; event x; static function void f(); x = 1; endfunction endclass endmodule
abbrev t59 : List Description
t59 = module_ (at 0 1 1) life.Unwritten (name (at 0 1 8) "t") None [] (items.Class (class_ (at 0 1 11) false (name (at 0 1 17) "A") None (property unqualified (decl life.Unwritten (types.Event (at 0 1 20)) (declarator (name (at 0 1 26) "x") None None ∷ [])) ∷ method (qualifiers false false true false) (routine (head (at 0 1 36) life.Unwritten units.Void (name (at 0 1 50) "f") []) [] (stmts.Statement (at 0 1 55) None (blocking (target (at 0 1 55) "x") None (stmts.Value (number (at 0 1 59) "1"))) ∷ []) None) ∷ []) None) ∷ []) None ∷ []

t59_broken : broken t59 [] None ≡ Some (fault 39 0 1 55)
unfolding symbols_of word_of
t59_broken = refl

-- module t; class A; int unsigned x; static int y = x; endclass endmodule
abbrev t60 : List Description
t60 = module_ (at 0 1 1) life.Unwritten (name (at 0 1 8) "t") None [] (items.Class (class_ (at 0 1 11) false (name (at 0 1 17) "A") None (property unqualified (decl life.Unwritten (types.Atom (at 0 1 20) atom_word.Int sign.Unsigned) (declarator (name (at 0 1 33) "x") None None ∷ [])) ∷ property (qualifiers false false true false) (decl life.Unwritten (types.Atom (at 0 1 43) atom_word.Int sign.Unwritten) (declarator (name (at 0 1 47) "y") None (Some (stmts.Value (plain (at 0 1 51) "x"))) ∷ [])) ∷ []) None) ∷ []) None ∷ []

t60_broken : broken t60 [] None ≡ Some (fault 39 0 1 51)
unfolding symbols_of word_of
t60_broken = refl

-- module t; class A; int unsigned x; static function void f(); this.x = 1; endfunction endclass endmodule
abbrev t61 : List Description
t61 = module_ (at 0 1 1) life.Unwritten (name (at 0 1 8) "t") None [] (items.Class (class_ (at 0 1 11) false (name (at 0 1 17) "A") None (property unqualified (decl life.Unwritten (types.Atom (at 0 1 20) atom_word.Int sign.Unsigned) (declarator (name (at 0 1 33) "x") None None ∷ [])) ∷ method (qualifiers false false true false) (routine (head (at 0 1 43) life.Unwritten units.Void (name (at 0 1 57) "f") []) [] (stmts.Statement (at 0 1 62) None (blocking (tree.Lval.Post (root.This (at 0 1 62)) (tree.Member (name (at 0 1 67) "x") tree.NoSuffix)) None (stmts.Value (number (at 0 1 71) "1"))) ∷ []) None) ∷ []) None) ∷ []) None ∷ []

t61_broken : broken t61 [] None ≡ Some (fault 39 0 1 62)
unfolding symbols_of word_of
t61_broken = refl

-- module f; class A; int x; static function void f(); this.x = 1; endfunction endclass endmodule
abbrev t62 : List Description
t62 = module_ (at 0 1 1) life.Unwritten (name (at 0 1 8) "f") None [] (items.Class (class_ (at 0 1 11) false (name (at 0 1 17) "A") None (property unqualified (decl life.Unwritten (types.Atom (at 0 1 20) atom_word.Int sign.Unwritten) (declarator (name (at 0 1 24) "x") None None ∷ [])) ∷ method (qualifiers false false true false) (routine (head (at 0 1 34) life.Unwritten units.Void (name (at 0 1 48) "f") []) [] (stmts.Statement (at 0 1 53) None (blocking (tree.Lval.Post (root.This (at 0 1 53)) (tree.Member (name (at 0 1 58) "x") tree.NoSuffix)) None (stmts.Value (number (at 0 1 62) "1"))) ∷ []) None) ∷ []) None) ∷ []) None ∷ []

t62_broken : broken t62 [] None ≡ Some (fault 39 0 1 53)
unfolding symbols_of word_of
t62_broken = refl

-- module f; class A; function void f(); endfunction endclass initial A::f(); endmodule
abbrev t63 : List Description
t63 = module_ (at 0 1 1) life.Unwritten (name (at 0 1 8) "f") None [] (items.Class (class_ (at 0 1 11) false (name (at 0 1 17) "A") None (method unqualified (routine (head (at 0 1 20) life.Unwritten units.Void (name (at 0 1 34) "f") []) [] [] None) ∷ []) None) ∷ procedure (at 0 1 60) procedure_word.Initial (stmts.Statement (at 0 1 68) None (stmts.Call (tree.Expr.Post (root.Scoped (name (at 0 1 68) "A") (name (at 0 1 71) "f")) (tree.Call (at 0 1 72) tree.NoExpr tree.NoSuffix)))) ∷ []) None ∷ []

t63_broken : broken t63 [] None ≡ Some (fault 39 0 1 71)
unfolding symbols_of word_of
t63_broken = refl

-- module t; class A; ; function new(int x); endfunction endclass class B extends A; endclass endmodule
abbrev t64 : List Description
t64 = module_ (at 0 1 1) life.Unwritten (name (at 0 1 8) "t") None [] (items.Class (class_ (at 0 1 11) false (name (at 0 1 17) "A") None (classes.Null ∷ method unqualified (routine (head (at 0 1 22) life.Unwritten (units.Returns.Value types.Unwritten) (name (at 0 1 31) "new") (argument None (types.Written (types.Atom (at 0 1 35) atom_word.Int sign.Unwritten)) (name (at 0 1 39) "x") None ∷ [])) [] [] None) ∷ []) None) ∷ items.Class (class_ (at 0 1 64) false (name (at 0 1 70) "B") (Some (name (at 0 1 80) "A")) [] None) ∷ []) None ∷ []

t64_broken : broken t64 [] None ≡ Some (fault 40 0 1 70)
unfolding symbols_of word_of
t64_broken = refl

-- module zz; class A; endclass A a; initial if (a) ; endmodule
abbrev t65 : List Description
t65 = module_ (at 0 1 1) life.Unwritten (name (at 0 1 8) "zz") None [] (items.Class (class_ (at 0 1 12) false (name (at 0 1 18) "A") None [] None) ∷ items.Decl (decl life.Unwritten (types.Named (name (at 0 1 30) "A")) (declarator (name (at 0 1 32) "a") None None ∷ [])) ∷ procedure (at 0 1 35) procedure_word.Initial (stmts.Statement (at 0 1 43) None (stmts.If (plain (at 0 1 47) "a") (stmts.Statement (at 0 1 50) None stmts.Null))) ∷ []) None ∷ []

t65_broken : broken t65 [] None ≡ Some (fault 15 0 1 47)
unfolding symbols_of word_of
t65_broken = refl

-- module t; class A; endclass class B; endclass A a; B b; int x; always x = a == b; endmodule
abbrev t66 : List Description
t66 = module_ (at 0 1 1) life.Unwritten (name (at 0 1 8) "t") None [] (items.Class (class_ (at 0 1 11) false (name (at 0 1 17) "A") None [] None) ∷ items.Class (class_ (at 0 1 29) false (name (at 0 1 35) "B") None [] None) ∷ items.Decl (decl life.Unwritten (types.Named (name (at 0 1 47) "A")) (declarator (name (at 0 1 49) "a") None None ∷ [])) ∷ items.Decl (decl life.Unwritten (types.Named (name (at 0 1 52) "B")) (declarator (name (at 0 1 54) "b") None None ∷ [])) ∷ items.Decl (decl life.Unwritten (types.Atom (at 0 1 57) atom_word.Int sign.Unwritten) (declarator (name (at 0 1 61) "x") None None ∷ [])) ∷ procedure (at 0 1 64) procedure_word.Always (stmts.Statement (at 0 1 71) None (blocking (target (at 0 1 71) "x") None (stmts.Value (tree.Binary binary_word.Equal (at 0 1 77) (plain (at 0 1 75) "a") (plain (at 0 1 80) "b"))))) ∷ []) None ∷ []

t66_broken : broken t66 [] None ≡ Some (fault 15 0 1 80)
unfolding symbols_of word_of
t66_broken = refl

-- module x; class A; endclass class B; endclass A a; B b; int x; initial x = a == b; endmodule
abbrev t67 : List Description
t67 = module_ (at 0 1 1) life.Unwritten (name (at 0 1 8) "x") None [] (items.Class (class_ (at 0 1 11) false (name (at 0 1 17) "A") None [] None) ∷ items.Class (class_ (at 0 1 29) false (name (at 0 1 35) "B") None [] None) ∷ items.Decl (decl life.Unwritten (types.Named (name (at 0 1 47) "A")) (declarator (name (at 0 1 49) "a") None None ∷ [])) ∷ items.Decl (decl life.Unwritten (types.Named (name (at 0 1 52) "B")) (declarator (name (at 0 1 54) "b") None None ∷ [])) ∷ items.Decl (decl life.Unwritten (types.Atom (at 0 1 57) atom_word.Int sign.Unwritten) (declarator (name (at 0 1 61) "x") None None ∷ [])) ∷ procedure (at 0 1 64) procedure_word.Initial (stmts.Statement (at 0 1 72) None (blocking (target (at 0 1 72) "x") None (stmts.Value (tree.Binary binary_word.Equal (at 0 1 78) (plain (at 0 1 76) "a") (plain (at 0 1 81) "b"))))) ∷ []) None ∷ []

t67_broken : broken t67 [] None ≡ Some (fault 15 0 1 81)
unfolding symbols_of word_of
t67_broken = refl

-- module t; class A; endclass A a; int x; initial x = a && null; endmodule
abbrev t68 : List Description
t68 = module_ (at 0 1 1) life.Unwritten (name (at 0 1 8) "t") None [] (items.Class (class_ (at 0 1 11) false (name (at 0 1 17) "A") None [] None) ∷ items.Decl (decl life.Unwritten (types.Named (name (at 0 1 29) "A")) (declarator (name (at 0 1 31) "a") None None ∷ [])) ∷ items.Decl (decl life.Unwritten (types.Atom (at 0 1 34) atom_word.Int sign.Unwritten) (declarator (name (at 0 1 38) "x") None None ∷ [])) ∷ procedure (at 0 1 41) procedure_word.Initial (stmts.Statement (at 0 1 49) None (blocking (target (at 0 1 49) "x") None (stmts.Value (tree.Binary binary_word.LogicalAnd (at 0 1 55) (plain (at 0 1 53) "a") (tree.Null (at 0 1 58)))))) ∷ []) None ∷ []

t68_broken : broken t68 [] None ≡ Some (fault 15 0 1 53)
unfolding symbols_of word_of
t68_broken = refl

-- module zz; class A; endclass A a; int x; initial x = a < null; endmodule
abbrev t69 : List Description
t69 = module_ (at 0 1 1) life.Unwritten (name (at 0 1 8) "zz") None [] (items.Class (class_ (at 0 1 12) false (name (at 0 1 18) "A") None [] None) ∷ items.Decl (decl life.Unwritten (types.Named (name (at 0 1 30) "A")) (declarator (name (at 0 1 32) "a") None None ∷ [])) ∷ items.Decl (decl life.Unwritten (types.Atom (at 0 1 35) atom_word.Int sign.Unwritten) (declarator (name (at 0 1 39) "x") None None ∷ [])) ∷ procedure (at 0 1 42) procedure_word.Initial (stmts.Statement (at 0 1 50) None (blocking (target (at 0 1 50) "x") None (stmts.Value (tree.Binary binary_word.Less (at 0 1 56) (plain (at 0 1 54) "a") (tree.Null (at 0 1 58)))))) ∷ []) None ∷ []

t69_broken : broken t69 [] None ≡ Some (fault 15 0 1 54)
unfolding symbols_of word_of
t69_broken = refl

-- module t; class A; endclass A a; int x; initial x += a < null; endmodule
abbrev t70 : List Description
t70 = module_ (at 0 1 1) life.Unwritten (name (at 0 1 8) "t") None [] (items.Class (class_ (at 0 1 11) false (name (at 0 1 17) "A") None [] None) ∷ items.Decl (decl life.Unwritten (types.Named (name (at 0 1 29) "A")) (declarator (name (at 0 1 31) "a") None None ∷ [])) ∷ items.Decl (decl life.Unwritten (types.Atom (at 0 1 34) atom_word.Int sign.Unwritten) (declarator (name (at 0 1 38) "x") None None ∷ [])) ∷ procedure (at 0 1 41) procedure_word.Initial (stmts.Statement (at 0 1 49) None (stmts.Body.Operator (operated (target (at 0 1 49) "x") binary_word.Plus (tree.Binary binary_word.Less (at 0 1 56) (plain (at 0 1 54) "a") (tree.Null (at 0 1 58)))))) ∷ []) None ∷ []

t70_broken : broken t70 [] None ≡ Some (fault 15 0 1 54)
unfolding symbols_of word_of
t70_broken = refl
