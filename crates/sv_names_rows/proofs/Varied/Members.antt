-- Texts that differ in a word or two from others: members and methods of containers, strings, events, mailboxes and semaphores.
use Rattle.std.proofs.Common.{◌≡◌, List, [], ◌∷◌, refl}
use Rattle.std.specs.Prelude.{Some, None}
use Rattle.sv_value.specs.Vector.{symbols_of, word_of}
use Rattle.sv_flat.specs.declared.choices.Choices.TheVariants.{Listed}
use Rattle.sv_flat.specs.Directed.{Done}
use Rattle.sv_tree.specs.declared.word.UnaryWord.TheVariants as unary_word
use Rattle.sv_tree.specs.declared.word.BinaryWord.TheVariants as binary_word
use Rattle.sv_tree.specs.declared.word.AtomWord.TheVariants as atom_word
use Rattle.sv_tree.specs.declared.word.Sign.TheVariants as sign
use Rattle.sv_tree.specs.declared.word.Life.TheVariants as life
use Rattle.sv_tree.specs.declared.word.StepWord.TheVariants as step_word
use Rattle.sv_tree.specs.declared.word.ProcedureWord.TheVariants as procedure_word
use Rattle.sv_tree.specs.declared.expr.Root.TheVariants as root
use Rattle.sv_tree.specs.Expr as tree
use Rattle.sv_tree.specs.Types as types
use Rattle.sv_tree.specs.Stmt as stmts
use Rattle.sv_tree.specs.Items as items
use Rattle.sv_tree.specs.Descriptions.{Description}
use Rattle.sv_names.specs.Design.{broken, elaborated}
use Rattle.sv_names_rows.proofs.Kit.{at, blocking, decl, declarator, expressions, fault, lines, module_, name, nonblocking, number, operated, plain, procedure, seen_in, statements, system, target, text, Ran}

-- module t; int q[$], r[$], d[]; initial begin q.push_back(1); q.push_back(2); r = q; q[$] = 9; d = new[3]; d[1] = 4; d = new[5](d); $display("%0d %0d %0d %0d", r[1], q[$], d.size(), d[1]); q.insert(1, 5); q.delete(0); $display("%0d %0d", q[0], d[$-1]); end endmodule
abbrev t1 : List Description
t1 = module_ (at 0 1 1) life.Unwritten (name (at 0 1 8) "t") None [] (items.Decl (decl life.Unwritten (types.Atom (at 0 1 11) atom_word.Int sign.Unwritten) (declarator (name (at 0 1 15) "q") (Some (stmts.Queue (at 0 1 16))) None ∷ declarator (name (at 0 1 21) "r") (Some (stmts.Queue (at 0 1 22))) None ∷ declarator (name (at 0 1 27) "d") (Some (stmts.Empty (at 0 1 28))) None ∷ [])) ∷ procedure (at 0 1 32) procedure_word.Initial (stmts.Statement (at 0 1 40) None (stmts.Block None [] (statements (stmts.Statement (at 0 1 46) None (stmts.Call (tree.Expr.Post (root.Plain (name (at 0 1 46) "q")) (tree.Member (name (at 0 1 48) "push_back") (tree.Call (at 0 1 57) (expressions (number (at 0 1 58) "1" ∷ [])) tree.NoSuffix)))) ∷ stmts.Statement (at 0 1 62) None (stmts.Call (tree.Expr.Post (root.Plain (name (at 0 1 62) "q")) (tree.Member (name (at 0 1 64) "push_back") (tree.Call (at 0 1 73) (expressions (number (at 0 1 74) "2" ∷ [])) tree.NoSuffix)))) ∷ stmts.Statement (at 0 1 78) None (blocking (target (at 0 1 78) "r") None (stmts.Value (plain (at 0 1 82) "q"))) ∷ stmts.Statement (at 0 1 85) None (blocking (tree.Lval.Post (root.Plain (name (at 0 1 85) "q")) (tree.Select (at 0 1 86) (tree.Dollar (at 0 1 87)) tree.NoSuffix)) None (stmts.Value (number (at 0 1 92) "9"))) ∷ stmts.Statement (at 0 1 95) None (blocking (target (at 0 1 95) "d") None (stmts.Array (at 0 1 99) (number (at 0 1 103) "3") None)) ∷ stmts.Statement (at 0 1 107) None (blocking (tree.Lval.Post (root.Plain (name (at 0 1 107) "d")) (tree.Select (at 0 1 108) (number (at 0 1 109) "1") tree.NoSuffix)) None (stmts.Value (number (at 0 1 114) "4"))) ∷ stmts.Statement (at 0 1 117) None (blocking (target (at 0 1 117) "d") None (stmts.Array (at 0 1 121) (number (at 0 1 125) "5") (Some (plain (at 0 1 128) "d")))) ∷ stmts.Statement (at 0 1 132) None (stmts.Call (system (at 0 1 132) "$display" (text (at 0 1 141) "%0d %0d %0d %0d" ∷ tree.Expr.Post (root.Plain (name (at 0 1 160) "r")) (tree.Select (at 0 1 161) (number (at 0 1 162) "1") tree.NoSuffix) ∷ tree.Expr.Post (root.Plain (name (at 0 1 166) "q")) (tree.Select (at 0 1 167) (tree.Dollar (at 0 1 168)) tree.NoSuffix) ∷ tree.Expr.Post (root.Plain (name (at 0 1 172) "d")) (tree.Member (name (at 0 1 174) "size") (tree.Call (at 0 1 178) tree.NoExpr tree.NoSuffix)) ∷ tree.Expr.Post (root.Plain (name (at 0 1 182) "d")) (tree.Select (at 0 1 183) (number (at 0 1 184) "1") tree.NoSuffix) ∷ []))) ∷ stmts.Statement (at 0 1 189) None (stmts.Call (tree.Expr.Post (root.Plain (name (at 0 1 189) "q")) (tree.Member (name (at 0 1 191) "insert") (tree.Call (at 0 1 197) (expressions (number (at 0 1 198) "1" ∷ number (at 0 1 201) "5" ∷ [])) tree.NoSuffix)))) ∷ stmts.Statement (at 0 1 205) None (stmts.Call (tree.Expr.Post (root.Plain (name (at 0 1 205) "q")) (tree.Member (name (at 0 1 207) "delete") (tree.Call (at 0 1 213) (expressions (number (at 0 1 214) "0" ∷ [])) tree.NoSuffix)))) ∷ stmts.Statement (at 0 1 218) None (stmts.Call (system (at 0 1 218) "$display" (text (at 0 1 227) "%0d %0d" ∷ tree.Expr.Post (root.Plain (name (at 0 1 238) "q")) (tree.Select (at 0 1 239) (number (at 0 1 240) "0") tree.NoSuffix) ∷ tree.Expr.Post (root.Plain (name (at 0 1 244) "d")) (tree.Select (at 0 1 245) (tree.Binary binary_word.Minus (at 0 1 247) (tree.Dollar (at 0 1 246)) (number (at 0 1 248) "1")) tree.NoSuffix) ∷ []))) ∷ [])) None)) ∷ []) None ∷ []

t1_broken : broken t1 [] None ≡ Some (fault 7 0 1 246)
unfolding symbols_of word_of
t1_broken = refl

-- module t; int q[$], r[$], d[]; initial begin q.push_back(1); q.push_back(2); r = q; q[$] = 9; d = new[3]; d[1] = 4; d = new[5](d); $display("%0d %0d %0d %0d", r[1], q[$], d.size(), d[1]); q.insert(1, 5); q.delete(0); $display("%0d %0d", q[0], q[$-null]); end endmodule
abbrev t2 : List Description
t2 = module_ (at 0 1 1) life.Unwritten (name (at 0 1 8) "t") None [] (items.Decl (decl life.Unwritten (types.Atom (at 0 1 11) atom_word.Int sign.Unwritten) (declarator (name (at 0 1 15) "q") (Some (stmts.Queue (at 0 1 16))) None ∷ declarator (name (at 0 1 21) "r") (Some (stmts.Queue (at 0 1 22))) None ∷ declarator (name (at 0 1 27) "d") (Some (stmts.Empty (at 0 1 28))) None ∷ [])) ∷ procedure (at 0 1 32) procedure_word.Initial (stmts.Statement (at 0 1 40) None (stmts.Block None [] (statements (stmts.Statement (at 0 1 46) None (stmts.Call (tree.Expr.Post (root.Plain (name (at 0 1 46) "q")) (tree.Member (name (at 0 1 48) "push_back") (tree.Call (at 0 1 57) (expressions (number (at 0 1 58) "1" ∷ [])) tree.NoSuffix)))) ∷ stmts.Statement (at 0 1 62) None (stmts.Call (tree.Expr.Post (root.Plain (name (at 0 1 62) "q")) (tree.Member (name (at 0 1 64) "push_back") (tree.Call (at 0 1 73) (expressions (number (at 0 1 74) "2" ∷ [])) tree.NoSuffix)))) ∷ stmts.Statement (at 0 1 78) None (blocking (target (at 0 1 78) "r") None (stmts.Value (plain (at 0 1 82) "q"))) ∷ stmts.Statement (at 0 1 85) None (blocking (tree.Lval.Post (root.Plain (name (at 0 1 85) "q")) (tree.Select (at 0 1 86) (tree.Dollar (at 0 1 87)) tree.NoSuffix)) None (stmts.Value (number (at 0 1 92) "9"))) ∷ stmts.Statement (at 0 1 95) None (blocking (target (at 0 1 95) "d") None (stmts.Array (at 0 1 99) (number (at 0 1 103) "3") None)) ∷ stmts.Statement (at 0 1 107) None (blocking (tree.Lval.Post (root.Plain (name (at 0 1 107) "d")) (tree.Select (at 0 1 108) (number (at 0 1 109) "1") tree.NoSuffix)) None (stmts.Value (number (at 0 1 114) "4"))) ∷ stmts.Statement (at 0 1 117) None (blocking (target (at 0 1 117) "d") None (stmts.Array (at 0 1 121) (number (at 0 1 125) "5") (Some (plain (at 0 1 128) "d")))) ∷ stmts.Statement (at 0 1 132) None (stmts.Call (system (at 0 1 132) "$display" (text (at 0 1 141) "%0d %0d %0d %0d" ∷ tree.Expr.Post (root.Plain (name (at 0 1 160) "r")) (tree.Select (at 0 1 161) (number (at 0 1 162) "1") tree.NoSuffix) ∷ tree.Expr.Post (root.Plain (name (at 0 1 166) "q")) (tree.Select (at 0 1 167) (tree.Dollar (at 0 1 168)) tree.NoSuffix) ∷ tree.Expr.Post (root.Plain (name (at 0 1 172) "d")) (tree.Member (name (at 0 1 174) "size") (tree.Call (at 0 1 178) tree.NoExpr tree.NoSuffix)) ∷ tree.Expr.Post (root.Plain (name (at 0 1 182) "d")) (tree.Select (at 0 1 183) (number (at 0 1 184) "1") tree.NoSuffix) ∷ []))) ∷ stmts.Statement (at 0 1 189) None (stmts.Call (tree.Expr.Post (root.Plain (name (at 0 1 189) "q")) (tree.Member (name (at 0 1 191) "insert") (tree.Call (at 0 1 197) (expressions (number (at 0 1 198) "1" ∷ number (at 0 1 201) "5" ∷ [])) tree.NoSuffix)))) ∷ stmts.Statement (at 0 1 205) None (stmts.Call (tree.Expr.Post (root.Plain (name (at 0 1 205) "q")) (tree.Member (name (at 0 1 207) "delete") (tree.Call (at 0 1 213) (expressions (number (at 0 1 214) "0" ∷ [])) tree.NoSuffix)))) ∷ stmts.Statement (at 0 1 218) None (stmts.Call (system (at 0 1 218) "$display" (text (at 0 1 227) "%0d %0d" ∷ tree.Expr.Post (root.Plain (name (at 0 1 238) "q")) (tree.Select (at 0 1 239) (number (at 0 1 240) "0") tree.NoSuffix) ∷ tree.Expr.Post (root.Plain (name (at 0 1 244) "q")) (tree.Select (at 0 1 245) (tree.Binary binary_word.Minus (at 0 1 247) (tree.Dollar (at 0 1 246)) (tree.Null (at 0 1 248))) tree.NoSuffix) ∷ []))) ∷ [])) None)) ∷ []) None ∷ []

t2_broken : broken t2 [] None ≡ Some (fault 15 0 1 248)
unfolding symbols_of word_of
t2_broken = refl

-- module t; int q[$], r[$], d[]; initial begin q.push_back(1); q.push_back(2); r = q; q[$] = 9; d = new[3]; d[1] = 4; d = new[5](r); $display("%0d %0d %0d %0d", r[1], q[$], d.size(), d[1]); q.insert(1, 5); q.delete(0); $display("%0d %0d", q[0], q[$-1]); end endmodule
abbrev t3 : List Description
t3 = module_ (at 0 1 1) life.Unwritten (name (at 0 1 8) "t") None [] (items.Decl (decl life.Unwritten (types.Atom (at 0 1 11) atom_word.Int sign.Unwritten) (declarator (name (at 0 1 15) "q") (Some (stmts.Queue (at 0 1 16))) None ∷ declarator (name (at 0 1 21) "r") (Some (stmts.Queue (at 0 1 22))) None ∷ declarator (name (at 0 1 27) "d") (Some (stmts.Empty (at 0 1 28))) None ∷ [])) ∷ procedure (at 0 1 32) procedure_word.Initial (stmts.Statement (at 0 1 40) None (stmts.Block None [] (statements (stmts.Statement (at 0 1 46) None (stmts.Call (tree.Expr.Post (root.Plain (name (at 0 1 46) "q")) (tree.Member (name (at 0 1 48) "push_back") (tree.Call (at 0 1 57) (expressions (number (at 0 1 58) "1" ∷ [])) tree.NoSuffix)))) ∷ stmts.Statement (at 0 1 62) None (stmts.Call (tree.Expr.Post (root.Plain (name (at 0 1 62) "q")) (tree.Member (name (at 0 1 64) "push_back") (tree.Call (at 0 1 73) (expressions (number (at 0 1 74) "2" ∷ [])) tree.NoSuffix)))) ∷ stmts.Statement (at 0 1 78) None (blocking (target (at 0 1 78) "r") None (stmts.Value (plain (at 0 1 82) "q"))) ∷ stmts.Statement (at 0 1 85) None (blocking (tree.Lval.Post (root.Plain (name (at 0 1 85) "q")) (tree.Select (at 0 1 86) (tree.Dollar (at 0 1 87)) tree.NoSuffix)) None (stmts.Value (number (at 0 1 92) "9"))) ∷ stmts.Statement (at 0 1 95) None (blocking (target (at 0 1 95) "d") None (stmts.Array (at 0 1 99) (number (at 0 1 103) "3") None)) ∷ stmts.Statement (at 0 1 107) None (blocking (tree.Lval.Post (root.Plain (name (at 0 1 107) "d")) (tree.Select (at 0 1 108) (number (at 0 1 109) "1") tree.NoSuffix)) None (stmts.Value (number (at 0 1 114) "4"))) ∷ stmts.Statement (at 0 1 117) None (blocking (target (at 0 1 117) "d") None (stmts.Array (at 0 1 121) (number (at 0 1 125) "5") (Some (plain (at 0 1 128) "r")))) ∷ stmts.Statement (at 0 1 132) None (stmts.Call (system (at 0 1 132) "$display" (text (at 0 1 141) "%0d %0d %0d %0d" ∷ tree.Expr.Post (root.Plain (name (at 0 1 160) "r")) (tree.Select (at 0 1 161) (number (at 0 1 162) "1") tree.NoSuffix) ∷ tree.Expr.Post (root.Plain (name (at 0 1 166) "q")) (tree.Select (at 0 1 167) (tree.Dollar (at 0 1 168)) tree.NoSuffix) ∷ tree.Expr.Post (root.Plain (name (at 0 1 172) "d")) (tree.Member (name (at 0 1 174) "size") (tree.Call (at 0 1 178) tree.NoExpr tree.NoSuffix)) ∷ tree.Expr.Post (root.Plain (name (at 0 1 182) "d")) (tree.Select (at 0 1 183) (number (at 0 1 184) "1") tree.NoSuffix) ∷ []))) ∷ stmts.Statement (at 0 1 189) None (stmts.Call (tree.Expr.Post (root.Plain (name (at 0 1 189) "q")) (tree.Member (name (at 0 1 191) "insert") (tree.Call (at 0 1 197) (expressions (number (at 0 1 198) "1" ∷ number (at 0 1 201) "5" ∷ [])) tree.NoSuffix)))) ∷ stmts.Statement (at 0 1 205) None (stmts.Call (tree.Expr.Post (root.Plain (name (at 0 1 205) "q")) (tree.Member (name (at 0 1 207) "delete") (tree.Call (at 0 1 213) (expressions (number (at 0 1 214) "0" ∷ [])) tree.NoSuffix)))) ∷ stmts.Statement (at 0 1 218) None (stmts.Call (system (at 0 1 218) "$display" (text (at 0 1 227) "%0d %0d" ∷ tree.Expr.Post (root.Plain (name (at 0 1 238) "q")) (tree.Select (at 0 1 239) (number (at 0 1 240) "0") tree.NoSuffix) ∷ tree.Expr.Post (root.Plain (name (at 0 1 244) "q")) (tree.Select (at 0 1 245) (tree.Binary binary_word.Minus (at 0 1 247) (tree.Dollar (at 0 1 246)) (number (at 0 1 248) "1")) tree.NoSuffix) ∷ []))) ∷ [])) None)) ∷ []) None ∷ []

t3_broken : broken t3 [] None ≡ Some (fault 16 0 1 128)
unfolding symbols_of word_of
t3_broken = refl

-- module t; int q[$], r[$], d[]; initial begin q.push_back(1); q.push_back(2); r = q; q[$] = 9; d = new[3]; d[1] = 4; d = new[5](d); $display("%0d %0d %0d %0d", r[1], q[$], d.size(), d[1]); q.insert(1, "s"); q.delete(0); $display("%0d %0d", q[0], q[$-1]); end endmodule
abbrev t4 : List Description
t4 = module_ (at 0 1 1) life.Unwritten (name (at 0 1 8) "t") None [] (items.Decl (decl life.Unwritten (types.Atom (at 0 1 11) atom_word.Int sign.Unwritten) (declarator (name (at 0 1 15) "q") (Some (stmts.Queue (at 0 1 16))) None ∷ declarator (name (at 0 1 21) "r") (Some (stmts.Queue (at 0 1 22))) None ∷ declarator (name (at 0 1 27) "d") (Some (stmts.Empty (at 0 1 28))) None ∷ [])) ∷ procedure (at 0 1 32) procedure_word.Initial (stmts.Statement (at 0 1 40) None (stmts.Block None [] (statements (stmts.Statement (at 0 1 46) None (stmts.Call (tree.Expr.Post (root.Plain (name (at 0 1 46) "q")) (tree.Member (name (at 0 1 48) "push_back") (tree.Call (at 0 1 57) (expressions (number (at 0 1 58) "1" ∷ [])) tree.NoSuffix)))) ∷ stmts.Statement (at 0 1 62) None (stmts.Call (tree.Expr.Post (root.Plain (name (at 0 1 62) "q")) (tree.Member (name (at 0 1 64) "push_back") (tree.Call (at 0 1 73) (expressions (number (at 0 1 74) "2" ∷ [])) tree.NoSuffix)))) ∷ stmts.Statement (at 0 1 78) None (blocking (target (at 0 1 78) "r") None (stmts.Value (plain (at 0 1 82) "q"))) ∷ stmts.Statement (at 0 1 85) None (blocking (tree.Lval.Post (root.Plain (name (at 0 1 85) "q")) (tree.Select (at 0 1 86) (tree.Dollar (at 0 1 87)) tree.NoSuffix)) None (stmts.Value (number (at 0 1 92) "9"))) ∷ stmts.Statement (at 0 1 95) None (blocking (target (at 0 1 95) "d") None (stmts.Array (at 0 1 99) (number (at 0 1 103) "3") None)) ∷ stmts.Statement (at 0 1 107) None (blocking (tree.Lval.Post (root.Plain (name (at 0 1 107) "d")) (tree.Select (at 0 1 108) (number (at 0 1 109) "1") tree.NoSuffix)) None (stmts.Value (number (at 0 1 114) "4"))) ∷ stmts.Statement (at 0 1 117) None (blocking (target (at 0 1 117) "d") None (stmts.Array (at 0 1 121) (number (at 0 1 125) "5") (Some (plain (at 0 1 128) "d")))) ∷ stmts.Statement (at 0 1 132) None (stmts.Call (system (at 0 1 132) "$display" (text (at 0 1 141) "%0d %0d %0d %0d" ∷ tree.Expr.Post (root.Plain (name (at 0 1 160) "r")) (tree.Select (at 0 1 161) (number (at 0 1 162) "1") tree.NoSuffix) ∷ tree.Expr.Post (root.Plain (name (at 0 1 166) "q")) (tree.Select (at 0 1 167) (tree.Dollar (at 0 1 168)) tree.NoSuffix) ∷ tree.Expr.Post (root.Plain (name (at 0 1 172) "d")) (tree.Member (name (at 0 1 174) "size") (tree.Call (at 0 1 178) tree.NoExpr tree.NoSuffix)) ∷ tree.Expr.Post (root.Plain (name (at 0 1 182) "d")) (tree.Select (at 0 1 183) (number (at 0 1 184) "1") tree.NoSuffix) ∷ []))) ∷ stmts.Statement (at 0 1 189) None (stmts.Call (tree.Expr.Post (root.Plain (name (at 0 1 189) "q")) (tree.Member (name (at 0 1 191) "insert") (tree.Call (at 0 1 197) (expressions (number (at 0 1 198) "1" ∷ text (at 0 1 201) "s" ∷ [])) tree.NoSuffix)))) ∷ stmts.Statement (at 0 1 207) None (stmts.Call (tree.Expr.Post (root.Plain (name (at 0 1 207) "q")) (tree.Member (name (at 0 1 209) "delete") (tree.Call (at 0 1 215) (expressions (number (at 0 1 216) "0" ∷ [])) tree.NoSuffix)))) ∷ stmts.Statement (at 0 1 220) None (stmts.Call (system (at 0 1 220) "$display" (text (at 0 1 229) "%0d %0d" ∷ tree.Expr.Post (root.Plain (name (at 0 1 240) "q")) (tree.Select (at 0 1 241) (number (at 0 1 242) "0") tree.NoSuffix) ∷ tree.Expr.Post (root.Plain (name (at 0 1 246) "q")) (tree.Select (at 0 1 247) (tree.Binary binary_word.Minus (at 0 1 249) (tree.Dollar (at 0 1 248)) (number (at 0 1 250) "1")) tree.NoSuffix) ∷ []))) ∷ [])) None)) ∷ []) None ∷ []

t4_broken : broken t4 [] None ≡ Some (fault 16 0 1 201)
unfolding symbols_of word_of
t4_broken = refl

-- module t; int m[string], k[int]; string s; int i; always_ff begin m["b"] = 2; m["a"] = 1; if (m.first(s)) $display("%s", s); while (m.next(s)) $display("%s", s); k[-3] = 1; k[7] = 2; void'(k.last(i)); $display("%0d %0d %0d", i, k.exists(-3), k.num()); k.delete(7); k.delete(); $display("%0d", k.num()); end endmodule
abbrev t5 : List Description
t5 = module_ (at 0 1 1) life.Unwritten (name (at 0 1 8) "t") None [] (items.Decl (decl life.Unwritten (types.Atom (at 0 1 11) atom_word.Int sign.Unwritten) (declarator (name (at 0 1 15) "m") (Some (stmts.Key (at 0 1 16) (types.Text (at 0 1 17)))) None ∷ declarator (name (at 0 1 26) "k") (Some (stmts.Key (at 0 1 27) (types.Atom (at 0 1 28) atom_word.Int sign.Unwritten))) None ∷ [])) ∷ items.Decl (decl life.Unwritten (types.Text (at 0 1 34)) (declarator (name (at 0 1 41) "s") None None ∷ [])) ∷ items.Decl (decl life.Unwritten (types.Atom (at 0 1 44) atom_word.Int sign.Unwritten) (declarator (name (at 0 1 48) "i") None None ∷ [])) ∷ procedure (at 0 1 51) procedure_word.AlwaysFf (stmts.Statement (at 0 1 61) None (stmts.Block None [] (statements (stmts.Statement (at 0 1 67) None (blocking (tree.Lval.Post (root.Plain (name (at 0 1 67) "m")) (tree.Select (at 0 1 68) (text (at 0 1 69) "b") tree.NoSuffix)) None (stmts.Value (number (at 0 1 76) "2"))) ∷ stmts.Statement (at 0 1 79) None (blocking (tree.Lval.Post (root.Plain (name (at 0 1 79) "m")) (tree.Select (at 0 1 80) (text (at 0 1 81) "a") tree.NoSuffix)) None (stmts.Value (number (at 0 1 88) "1"))) ∷ stmts.Statement (at 0 1 91) None (stmts.If (tree.Expr.Post (root.Plain (name (at 0 1 95) "m")) (tree.Member (name (at 0 1 97) "first") (tree.Call (at 0 1 102) (expressions (plain (at 0 1 103) "s" ∷ [])) tree.NoSuffix))) (stmts.Statement (at 0 1 107) None (stmts.Call (system (at 0 1 107) "$display" (text (at 0 1 116) "%s" ∷ plain (at 0 1 122) "s" ∷ []))))) ∷ stmts.Statement (at 0 1 126) None (stmts.While (tree.Expr.Post (root.Plain (name (at 0 1 133) "m")) (tree.Member (name (at 0 1 135) "next") (tree.Call (at 0 1 139) (expressions (plain (at 0 1 140) "s" ∷ [])) tree.NoSuffix))) (stmts.Statement (at 0 1 144) None (stmts.Call (system (at 0 1 144) "$display" (text (at 0 1 153) "%s" ∷ plain (at 0 1 159) "s" ∷ []))))) ∷ stmts.Statement (at 0 1 163) None (blocking (tree.Lval.Post (root.Plain (name (at 0 1 163) "k")) (tree.Select (at 0 1 164) (tree.Unary (at 0 1 165) unary_word.Minus (number (at 0 1 166) "3")) tree.NoSuffix)) None (stmts.Value (number (at 0 1 171) "1"))) ∷ stmts.Statement (at 0 1 174) None (blocking (tree.Lval.Post (root.Plain (name (at 0 1 174) "k")) (tree.Select (at 0 1 175) (number (at 0 1 176) "7") tree.NoSuffix)) None (stmts.Value (number (at 0 1 181) "2"))) ∷ stmts.Statement (at 0 1 184) None (stmts.Ignore (at 0 1 184) (tree.Expr.Post (root.Plain (name (at 0 1 190) "k")) (tree.Member (name (at 0 1 192) "last") (tree.Call (at 0 1 196) (expressions (plain (at 0 1 197) "i" ∷ [])) tree.NoSuffix)))) ∷ stmts.Statement (at 0 1 202) None (stmts.Call (system (at 0 1 202) "$display" (text (at 0 1 211) "%0d %0d %0d" ∷ plain (at 0 1 226) "i" ∷ tree.Expr.Post (root.Plain (name (at 0 1 229) "k")) (tree.Member (name (at 0 1 231) "exists") (tree.Call (at 0 1 237) (expressions (tree.Unary (at 0 1 238) unary_word.Minus (number (at 0 1 239) "3") ∷ [])) tree.NoSuffix)) ∷ tree.Expr.Post (root.Plain (name (at 0 1 243) "k")) (tree.Member (name (at 0 1 245) "num") (tree.Call (at 0 1 248) tree.NoExpr tree.NoSuffix)) ∷ []))) ∷ stmts.Statement (at 0 1 253) None (stmts.Call (tree.Expr.Post (root.Plain (name (at 0 1 253) "k")) (tree.Member (name (at 0 1 255) "delete") (tree.Call (at 0 1 261) (expressions (number (at 0 1 262) "7" ∷ [])) tree.NoSuffix)))) ∷ stmts.Statement (at 0 1 266) None (stmts.Call (tree.Expr.Post (root.Plain (name (at 0 1 266) "k")) (tree.Member (name (at 0 1 268) "delete") (tree.Call (at 0 1 274) tree.NoExpr tree.NoSuffix)))) ∷ stmts.Statement (at 0 1 278) None (stmts.Call (system (at 0 1 278) "$display" (text (at 0 1 287) "%0d" ∷ tree.Expr.Post (root.Plain (name (at 0 1 294) "k")) (tree.Member (name (at 0 1 296) "num") (tree.Call (at 0 1 299) tree.NoExpr tree.NoSuffix)) ∷ []))) ∷ [])) None)) ∷ []) None ∷ []

t5_broken : broken t5 [] None ≡ Some (fault 28 0 1 51)
unfolding symbols_of word_of
t5_broken = refl

-- module t; int q[$]; initial begin for (int i = 0; i < 4; i++) q.push_front(i); foreach (q[j]) $write("%0d,", q[q]); $write("\n"); $display("%0d %0d", q.pop_back(), q.pop_front()); end endmodule
abbrev t6 : List Description
t6 = module_ (at 0 1 1) life.Unwritten (name (at 0 1 8) "t") None [] (items.Decl (decl life.Unwritten (types.Atom (at 0 1 11) atom_word.Int sign.Unwritten) (declarator (name (at 0 1 15) "q") (Some (stmts.Queue (at 0 1 16))) None ∷ [])) ∷ procedure (at 0 1 21) procedure_word.Initial (stmts.Statement (at 0 1 29) None (stmts.Block None [] (statements (stmts.Statement (at 0 1 35) None (stmts.For (stmts.Declare (types.Atom (at 0 1 40) atom_word.Int sign.Unwritten) (name (at 0 1 44) "i") (number (at 0 1 48) "0")) (tree.Binary binary_word.Less (at 0 1 53) (plain (at 0 1 51) "i") (number (at 0 1 55) "4")) (stmts.ForStep.Step (at 0 1 58) (target (at 0 1 58) "i") step_word.Increment) (stmts.Statement (at 0 1 63) None (stmts.Call (tree.Expr.Post (root.Plain (name (at 0 1 63) "q")) (tree.Member (name (at 0 1 65) "push_front") (tree.Call (at 0 1 75) (expressions (plain (at 0 1 76) "i" ∷ [])) tree.NoSuffix)))))) ∷ stmts.Statement (at 0 1 80) None (stmts.Foreach (name (at 0 1 89) "q") (name (at 0 1 91) "j") (stmts.Statement (at 0 1 95) None (stmts.Call (system (at 0 1 95) "$write" (text (at 0 1 102) "%0d," ∷ tree.Expr.Post (root.Plain (name (at 0 1 110) "q")) (tree.Select (at 0 1 111) (plain (at 0 1 112) "q") tree.NoSuffix) ∷ []))))) ∷ stmts.Statement (at 0 1 117) None (stmts.Call (system (at 0 1 117) "$write" (text (at 0 1 124) "\\n" ∷ []))) ∷ stmts.Statement (at 0 1 131) None (stmts.Call (system (at 0 1 131) "$display" (text (at 0 1 140) "%0d %0d" ∷ tree.Expr.Post (root.Plain (name (at 0 1 151) "q")) (tree.Member (name (at 0 1 153) "pop_back") (tree.Call (at 0 1 161) tree.NoExpr tree.NoSuffix)) ∷ tree.Expr.Post (root.Plain (name (at 0 1 165) "q")) (tree.Member (name (at 0 1 167) "pop_front") (tree.Call (at 0 1 176) tree.NoExpr tree.NoSuffix)) ∷ []))) ∷ [])) None)) ∷ []) None ∷ []

t6_broken : broken t6 [] None ≡ Some (fault 42 0 1 112)
unfolding symbols_of word_of
t6_broken = refl

-- module t; int x; initial x.x = 1; endmodule
abbrev t7 : List Description
t7 = module_ (at 0 1 1) life.Unwritten (name (at 0 1 8) "t") None [] (items.Decl (decl life.Unwritten (types.Atom (at 0 1 11) atom_word.Int sign.Unwritten) (declarator (name (at 0 1 15) "x") None None ∷ [])) ∷ procedure (at 0 1 18) procedure_word.Initial (stmts.Statement (at 0 1 26) None (blocking (tree.Lval.Post (root.Plain (name (at 0 1 26) "x")) (tree.Member (name (at 0 1 28) "x") tree.NoSuffix)) None (stmts.Value (number (at 0 1 32) "1")))) ∷ []) None ∷ []

t7_broken : broken t7 [] None ≡ Some (fault 36 0 1 28)
unfolding symbols_of word_of
t7_broken = refl

-- module t; event x; initial x.y = 1; endmodule
abbrev t8 : List Description
t8 = module_ (at 0 1 1) life.Unwritten (name (at 0 1 8) "t") None [] (items.Decl (decl life.Unwritten (types.Event (at 0 1 11)) (declarator (name (at 0 1 17) "x") None None ∷ [])) ∷ procedure (at 0 1 20) procedure_word.Initial (stmts.Statement (at 0 1 28) None (blocking (tree.Lval.Post (root.Plain (name (at 0 1 28) "x")) (tree.Member (name (at 0 1 30) "y") tree.NoSuffix)) None (stmts.Value (number (at 0 1 34) "1")))) ∷ []) None ∷ []

t8_broken : broken t8 [] None ≡ Some (fault 36 0 1 30)
unfolding symbols_of word_of
t8_broken = refl

-- module foo; int q[$]; initial q.foo(); endmodule
abbrev t9 : List Description
t9 = module_ (at 0 1 1) life.Unwritten (name (at 0 1 8) "foo") None [] (items.Decl (decl life.Unwritten (types.Atom (at 0 1 13) atom_word.Int sign.Unwritten) (declarator (name (at 0 1 17) "q") (Some (stmts.Queue (at 0 1 18))) None ∷ [])) ∷ procedure (at 0 1 23) procedure_word.Initial (stmts.Statement (at 0 1 31) None (stmts.Call (tree.Expr.Post (root.Plain (name (at 0 1 31) "q")) (tree.Member (name (at 0 1 33) "foo") (tree.Call (at 0 1 36) tree.NoExpr tree.NoSuffix))))) ∷ []) None ∷ []

t9_broken : broken t9 [] None ≡ Some (fault 36 0 1 33)
unfolding symbols_of word_of
t9_broken = refl

-- module t; int unsigned q[$]; initial q.foo(); endmodule
abbrev t10 : List Description
t10 = module_ (at 0 1 1) life.Unwritten (name (at 0 1 8) "t") None [] (items.Decl (decl life.Unwritten (types.Atom (at 0 1 11) atom_word.Int sign.Unsigned) (declarator (name (at 0 1 24) "q") (Some (stmts.Queue (at 0 1 25))) None ∷ [])) ∷ procedure (at 0 1 30) procedure_word.Initial (stmts.Statement (at 0 1 38) None (stmts.Call (tree.Expr.Post (root.Plain (name (at 0 1 38) "q")) (tree.Member (name (at 0 1 40) "foo") (tree.Call (at 0 1 43) tree.NoExpr tree.NoSuffix))))) ∷ []) None ∷ []

t10_broken : broken t10 [] None ≡ Some (fault 36 0 1 40)
unfolding symbols_of word_of
t10_broken = refl

-- module t; int q[$]; initial q.zz(); endmodule
abbrev t11 : List Description
t11 = module_ (at 0 1 1) life.Unwritten (name (at 0 1 8) "t") None [] (items.Decl (decl life.Unwritten (types.Atom (at 0 1 11) atom_word.Int sign.Unwritten) (declarator (name (at 0 1 15) "q") (Some (stmts.Queue (at 0 1 16))) None ∷ [])) ∷ procedure (at 0 1 21) procedure_word.Initial (stmts.Statement (at 0 1 29) None (stmts.Call (tree.Expr.Post (root.Plain (name (at 0 1 29) "q")) (tree.Member (name (at 0 1 31) "zz") (tree.Call (at 0 1 33) tree.NoExpr tree.NoSuffix))))) ∷ []) None ∷ []

t11_broken : broken t11 [] None ≡ Some (fault 36 0 1 31)
unfolding symbols_of word_of
t11_broken = refl

-- module t; string q[$]; initial q.push_back(); endmodule
abbrev t12 : List Description
t12 = module_ (at 0 1 1) life.Unwritten (name (at 0 1 8) "t") None [] (items.Decl (decl life.Unwritten (types.Text (at 0 1 11)) (declarator (name (at 0 1 18) "q") (Some (stmts.Queue (at 0 1 19))) None ∷ [])) ∷ procedure (at 0 1 24) procedure_word.Initial (stmts.Statement (at 0 1 32) None (stmts.Call (tree.Expr.Post (root.Plain (name (at 0 1 32) "q")) (tree.Member (name (at 0 1 34) "push_back") (tree.Call (at 0 1 43) tree.NoExpr tree.NoSuffix))))) ∷ []) None ∷ []

t12_broken : broken t12 [] None ≡ Some (fault 31 0 1 32)
unfolding symbols_of word_of
t12_broken = refl

-- module t; int t[$]; initial q.push_back(); endmodule
abbrev t13 : List Description
t13 = module_ (at 0 1 1) life.Unwritten (name (at 0 1 8) "t") None [] (items.Decl (decl life.Unwritten (types.Atom (at 0 1 11) atom_word.Int sign.Unwritten) (declarator (name (at 0 1 15) "t") (Some (stmts.Queue (at 0 1 16))) None ∷ [])) ∷ procedure (at 0 1 21) procedure_word.Initial (stmts.Statement (at 0 1 29) None (stmts.Call (tree.Expr.Post (root.Plain (name (at 0 1 29) "q")) (tree.Member (name (at 0 1 31) "push_back") (tree.Call (at 0 1 40) tree.NoExpr tree.NoSuffix))))) ∷ []) None ∷ []

t13_broken : broken t13 [] None ≡ Some (fault 6 0 1 29)
unfolding symbols_of word_of
t13_broken = refl

-- module t; byte q[$]; initial q.push_back(1, 2); endmodule
abbrev t14 : List Description
t14 = module_ (at 0 1 1) life.Unwritten (name (at 0 1 8) "t") None [] (items.Decl (decl life.Unwritten (types.Atom (at 0 1 11) atom_word.Byte sign.Unwritten) (declarator (name (at 0 1 16) "q") (Some (stmts.Queue (at 0 1 17))) None ∷ [])) ∷ procedure (at 0 1 22) procedure_word.Initial (stmts.Statement (at 0 1 30) None (stmts.Call (tree.Expr.Post (root.Plain (name (at 0 1 30) "q")) (tree.Member (name (at 0 1 32) "push_back") (tree.Call (at 0 1 41) (expressions (number (at 0 1 42) "1" ∷ number (at 0 1 45) "2" ∷ [])) tree.NoSuffix))))) ∷ []) None ∷ []

t14_broken : broken t14 [] None ≡ Some (fault 31 0 1 30)
unfolding symbols_of word_of
t14_broken = refl

-- module t; int q[$]; initial q.push_back("s", 2); endmodule
abbrev t15 : List Description
t15 = module_ (at 0 1 1) life.Unwritten (name (at 0 1 8) "t") None [] (items.Decl (decl life.Unwritten (types.Atom (at 0 1 11) atom_word.Int sign.Unwritten) (declarator (name (at 0 1 15) "q") (Some (stmts.Queue (at 0 1 16))) None ∷ [])) ∷ procedure (at 0 1 21) procedure_word.Initial (stmts.Statement (at 0 1 29) None (stmts.Call (tree.Expr.Post (root.Plain (name (at 0 1 29) "q")) (tree.Member (name (at 0 1 31) "push_back") (tree.Call (at 0 1 40) (expressions (text (at 0 1 41) "s" ∷ number (at 0 1 46) "2" ∷ [])) tree.NoSuffix))))) ∷ []) None ∷ []

t15_broken : broken t15 [] None ≡ Some (fault 31 0 1 29)
unfolding symbols_of word_of
t15_broken = refl

-- module push_back; int q[$]; initial q.push_back("s"); endmodule
abbrev t16 : List Description
t16 = module_ (at 0 1 1) life.Unwritten (name (at 0 1 8) "push_back") None [] (items.Decl (decl life.Unwritten (types.Atom (at 0 1 19) atom_word.Int sign.Unwritten) (declarator (name (at 0 1 23) "q") (Some (stmts.Queue (at 0 1 24))) None ∷ [])) ∷ procedure (at 0 1 29) procedure_word.Initial (stmts.Statement (at 0 1 37) None (stmts.Call (tree.Expr.Post (root.Plain (name (at 0 1 37) "q")) (tree.Member (name (at 0 1 39) "push_back") (tree.Call (at 0 1 48) (expressions (text (at 0 1 49) "s" ∷ [])) tree.NoSuffix))))) ∷ []) None ∷ []

t16_broken : broken t16 [] None ≡ Some (fault 16 0 1 49)
unfolding symbols_of word_of
t16_broken = refl

-- module t; byte q[$]; initial q.push_back("s"); endmodule
abbrev t17 : List Description
t17 = module_ (at 0 1 1) life.Unwritten (name (at 0 1 8) "t") None [] (items.Decl (decl life.Unwritten (types.Atom (at 0 1 11) atom_word.Byte sign.Unwritten) (declarator (name (at 0 1 16) "q") (Some (stmts.Queue (at 0 1 17))) None ∷ [])) ∷ procedure (at 0 1 22) procedure_word.Initial (stmts.Statement (at 0 1 30) None (stmts.Call (tree.Expr.Post (root.Plain (name (at 0 1 30) "q")) (tree.Member (name (at 0 1 32) "push_back") (tree.Call (at 0 1 41) (expressions (text (at 0 1 42) "s" ∷ [])) tree.NoSuffix))))) ∷ []) None ∷ []

t17_broken : broken t17 [] None ≡ Some (fault 16 0 1 42)
unfolding symbols_of word_of
t17_broken = refl

-- module t; int q[$], x; initial x = q.q(1); endmodule
abbrev t18 : List Description
t18 = module_ (at 0 1 1) life.Unwritten (name (at 0 1 8) "t") None [] (items.Decl (decl life.Unwritten (types.Atom (at 0 1 11) atom_word.Int sign.Unwritten) (declarator (name (at 0 1 15) "q") (Some (stmts.Queue (at 0 1 16))) None ∷ declarator (name (at 0 1 21) "x") None None ∷ [])) ∷ procedure (at 0 1 24) procedure_word.Initial (stmts.Statement (at 0 1 32) None (blocking (target (at 0 1 32) "x") None (stmts.Value (tree.Expr.Post (root.Plain (name (at 0 1 36) "q")) (tree.Member (name (at 0 1 38) "q") (tree.Call (at 0 1 39) (expressions (number (at 0 1 40) "1" ∷ [])) tree.NoSuffix)))))) ∷ []) None ∷ []

t18_broken : broken t18 [] None ≡ Some (fault 36 0 1 38)
unfolding symbols_of word_of
t18_broken = refl

-- module t; int q[$], x; initial x += q.push_back(1); endmodule
abbrev t19 : List Description
t19 = module_ (at 0 1 1) life.Unwritten (name (at 0 1 8) "t") None [] (items.Decl (decl life.Unwritten (types.Atom (at 0 1 11) atom_word.Int sign.Unwritten) (declarator (name (at 0 1 15) "q") (Some (stmts.Queue (at 0 1 16))) None ∷ declarator (name (at 0 1 21) "x") None None ∷ [])) ∷ procedure (at 0 1 24) procedure_word.Initial (stmts.Statement (at 0 1 32) None (stmts.Body.Operator (operated (target (at 0 1 32) "x") binary_word.Plus (tree.Expr.Post (root.Plain (name (at 0 1 37) "q")) (tree.Member (name (at 0 1 39) "push_back") (tree.Call (at 0 1 48) (expressions (number (at 0 1 49) "1" ∷ [])) tree.NoSuffix)))))) ∷ []) None ∷ []

t19_broken : broken t19 [] None ≡ Some (fault 32 0 1 37)
unfolding symbols_of word_of
t19_broken = refl

-- module t; int q[$], x; initial x = q.x(1); endmodule
abbrev t20 : List Description
t20 = module_ (at 0 1 1) life.Unwritten (name (at 0 1 8) "t") None [] (items.Decl (decl life.Unwritten (types.Atom (at 0 1 11) atom_word.Int sign.Unwritten) (declarator (name (at 0 1 15) "q") (Some (stmts.Queue (at 0 1 16))) None ∷ declarator (name (at 0 1 21) "x") None None ∷ [])) ∷ procedure (at 0 1 24) procedure_word.Initial (stmts.Statement (at 0 1 32) None (blocking (target (at 0 1 32) "x") None (stmts.Value (tree.Expr.Post (root.Plain (name (at 0 1 36) "q")) (tree.Member (name (at 0 1 38) "x") (tree.Call (at 0 1 39) (expressions (number (at 0 1 40) "1" ∷ [])) tree.NoSuffix)))))) ∷ []) None ∷ []

t20_broken : broken t20 [] None ≡ Some (fault 36 0 1 38)
unfolding symbols_of word_of
t20_broken = refl

-- module t; int q[$]; always_ff q.delete("s"); endmodule
abbrev t21 : List Description
t21 = module_ (at 0 1 1) life.Unwritten (name (at 0 1 8) "t") None [] (items.Decl (decl life.Unwritten (types.Atom (at 0 1 11) atom_word.Int sign.Unwritten) (declarator (name (at 0 1 15) "q") (Some (stmts.Queue (at 0 1 16))) None ∷ [])) ∷ procedure (at 0 1 21) procedure_word.AlwaysFf (stmts.Statement (at 0 1 31) None (stmts.Call (tree.Expr.Post (root.Plain (name (at 0 1 31) "q")) (tree.Member (name (at 0 1 33) "delete") (tree.Call (at 0 1 39) (expressions (text (at 0 1 40) "s" ∷ [])) tree.NoSuffix))))) ∷ []) None ∷ []

t21_broken : broken t21 [] None ≡ Some (fault 28 0 1 21)
unfolding symbols_of word_of
t21_broken = refl

-- module t; int m[string], x; initial x = m.first(); endmodule
abbrev t22 : List Description
t22 = module_ (at 0 1 1) life.Unwritten (name (at 0 1 8) "t") None [] (items.Decl (decl life.Unwritten (types.Atom (at 0 1 11) atom_word.Int sign.Unwritten) (declarator (name (at 0 1 15) "m") (Some (stmts.Key (at 0 1 16) (types.Text (at 0 1 17)))) None ∷ declarator (name (at 0 1 26) "x") None None ∷ [])) ∷ procedure (at 0 1 29) procedure_word.Initial (stmts.Statement (at 0 1 37) None (blocking (target (at 0 1 37) "x") None (stmts.Value (tree.Expr.Post (root.Plain (name (at 0 1 41) "m")) (tree.Member (name (at 0 1 43) "first") (tree.Call (at 0 1 48) tree.NoExpr tree.NoSuffix)))))) ∷ []) None ∷ []

t22_broken : broken t22 [] None ≡ Some (fault 31 0 1 41)
unfolding symbols_of word_of
t22_broken = refl

-- module t; int m[int unsigned], x; initial x = m.exists(3); endmodule
abbrev t23 : List Description
t23 = module_ (at 0 1 1) life.Unwritten (name (at 0 1 8) "t") None [] (items.Decl (decl life.Unwritten (types.Atom (at 0 1 11) atom_word.Int sign.Unwritten) (declarator (name (at 0 1 15) "m") (Some (stmts.Key (at 0 1 16) (types.Atom (at 0 1 17) atom_word.Int sign.Unsigned))) None ∷ declarator (name (at 0 1 32) "x") None None ∷ [])) ∷ procedure (at 0 1 35) procedure_word.Initial (stmts.Statement (at 0 1 43) None (blocking (target (at 0 1 43) "x") None (stmts.Value (tree.Expr.Post (root.Plain (name (at 0 1 47) "m")) (tree.Member (name (at 0 1 49) "exists") (tree.Call (at 0 1 55) (expressions (number (at 0 1 56) "3" ∷ [])) tree.NoSuffix)))))) ∷ []) None ∷ []

t23_seen : seen_in (Listed []) (Listed []) (elaborated t23 [] None) 7 ≡ Ran (record { log = []; wave = lines ("$timescale 1ns $end" ∷ "$scope module t $end" ∷ "$var reg 32 ! x $end" ∷ "$upscope $end" ∷ "$enddefinitions $end" ∷ "#0" ∷ "$dumpvars" ∷ "b0 !" ∷ "$end" ∷ []); outcome = Done; time = 0; steps = 4; race = Some (10, at 0 1 15) })
unfolding symbols_of word_of
t23_seen = refl

-- module zz; string s; initial s.len = 3; endmodule
abbrev t24 : List Description
t24 = module_ (at 0 1 1) life.Unwritten (name (at 0 1 8) "zz") None [] (items.Decl (decl life.Unwritten (types.Text (at 0 1 12)) (declarator (name (at 0 1 19) "s") None None ∷ [])) ∷ procedure (at 0 1 22) procedure_word.Initial (stmts.Statement (at 0 1 30) None (blocking (tree.Lval.Post (root.Plain (name (at 0 1 30) "s")) (tree.Member (name (at 0 1 32) "len") tree.NoSuffix)) None (stmts.Value (number (at 0 1 38) "3")))) ∷ []) None ∷ []

t24_broken : broken t24 [] None ≡ Some (fault 18 0 1 30)
unfolding symbols_of word_of
t24_broken = refl

-- module t; string s; initial s.len <= 3; endmodule
abbrev t25 : List Description
t25 = module_ (at 0 1 1) life.Unwritten (name (at 0 1 8) "t") None [] (items.Decl (decl life.Unwritten (types.Text (at 0 1 11)) (declarator (name (at 0 1 18) "s") None None ∷ [])) ∷ procedure (at 0 1 21) procedure_word.Initial (stmts.Statement (at 0 1 29) None (nonblocking (tree.Lval.Post (root.Plain (name (at 0 1 29) "s")) (tree.Member (name (at 0 1 31) "len") tree.NoSuffix)) None (number (at 0 1 38) "3"))) ∷ []) None ∷ []

t25_broken : broken t25 [] None ≡ Some (fault 18 0 1 29)
unfolding symbols_of word_of
t25_broken = refl

-- module zz; string s; initial s = s.len(); endmodule
abbrev t26 : List Description
t26 = module_ (at 0 1 1) life.Unwritten (name (at 0 1 8) "zz") None [] (items.Decl (decl life.Unwritten (types.Text (at 0 1 12)) (declarator (name (at 0 1 19) "s") None None ∷ [])) ∷ procedure (at 0 1 22) procedure_word.Initial (stmts.Statement (at 0 1 30) None (blocking (target (at 0 1 30) "s") None (stmts.Value (tree.Expr.Post (root.Plain (name (at 0 1 34) "s")) (tree.Member (name (at 0 1 36) "len") (tree.Call (at 0 1 39) tree.NoExpr tree.NoSuffix)))))) ∷ []) None ∷ []

t26_broken : broken t26 [] None ≡ Some (fault 16 0 1 34)
unfolding symbols_of word_of
t26_broken = refl

-- module t; byte s; initial s = s.len(); endmodule
abbrev t27 : List Description
t27 = module_ (at 0 1 1) life.Unwritten (name (at 0 1 8) "t") None [] (items.Decl (decl life.Unwritten (types.Atom (at 0 1 11) atom_word.Byte sign.Unwritten) (declarator (name (at 0 1 16) "s") None None ∷ [])) ∷ procedure (at 0 1 19) procedure_word.Initial (stmts.Statement (at 0 1 27) None (blocking (target (at 0 1 27) "s") None (stmts.Value (tree.Expr.Post (root.Plain (name (at 0 1 31) "s")) (tree.Member (name (at 0 1 33) "len") (tree.Call (at 0 1 36) tree.NoExpr tree.NoSuffix)))))) ∷ []) None ∷ []

t27_broken : broken t27 [] None ≡ Some (fault 36 0 1 33)
unfolding symbols_of word_of
t27_broken = refl

-- module t; event e; initial -> e; endmodule
abbrev t28 : List Description
t28 = module_ (at 0 1 1) life.Unwritten (name (at 0 1 8) "t") None [] (items.Decl (decl life.Unwritten (types.Event (at 0 1 11)) (declarator (name (at 0 1 17) "e") None None ∷ [])) ∷ procedure (at 0 1 20) procedure_word.Initial (stmts.Statement (at 0 1 28) None (stmts.Trigger (target (at 0 1 31) "e"))) ∷ []) None ∷ []

t28_seen : seen_in (Listed []) (Listed []) (elaborated t28 [] None) 7 ≡ Ran (record { log = []; wave = lines ("$timescale 1ns $end" ∷ "$scope module t $end" ∷ "$upscope $end" ∷ "$enddefinitions $end" ∷ "#0" ∷ "$dumpvars" ∷ "$end" ∷ []); outcome = Done; time = 0; steps = 4; race = Some (10, at 0 1 17) })
unfolding symbols_of word_of
t28_seen = refl

-- module t; int e; always_comb -> e; endmodule
abbrev t29 : List Description
t29 = module_ (at 0 1 1) life.Unwritten (name (at 0 1 8) "t") None [] (items.Decl (decl life.Unwritten (types.Atom (at 0 1 11) atom_word.Int sign.Unwritten) (declarator (name (at 0 1 15) "e") None None ∷ [])) ∷ procedure (at 0 1 18) procedure_word.AlwaysComb (stmts.Statement (at 0 1 30) None (stmts.Trigger (target (at 0 1 33) "e"))) ∷ []) None ∷ []

t29_broken : broken t29 [] None ≡ Some (fault 15 0 1 33)
unfolding symbols_of word_of
t29_broken = refl

-- module t; mailbox m; int x; always_comb x = m.get(x); endmodule
abbrev t30 : List Description
t30 = module_ (at 0 1 1) life.Unwritten (name (at 0 1 8) "t") None [] (items.Decl (decl life.Unwritten (types.Mailbox (at 0 1 11)) (declarator (name (at 0 1 19) "m") None None ∷ [])) ∷ items.Decl (decl life.Unwritten (types.Atom (at 0 1 22) atom_word.Int sign.Unwritten) (declarator (name (at 0 1 26) "x") None None ∷ [])) ∷ procedure (at 0 1 29) procedure_word.AlwaysComb (stmts.Statement (at 0 1 41) None (blocking (target (at 0 1 41) "x") None (stmts.Value (tree.Expr.Post (root.Plain (name (at 0 1 45) "m")) (tree.Member (name (at 0 1 47) "get") (tree.Call (at 0 1 50) (expressions (plain (at 0 1 51) "x" ∷ [])) tree.NoSuffix)))))) ∷ []) None ∷ []

t30_broken : broken t30 [] None ≡ Some (fault 27 0 1 45)
unfolding symbols_of word_of
t30_broken = refl

-- module t ;; mailbox m; int x; initial x = m.get(x); endmodule
abbrev t31 : List Description
t31 = module_ (at 0 1 1) life.Unwritten (name (at 0 1 8) "t") None [] (items.Null ∷ items.Decl (decl life.Unwritten (types.Mailbox (at 0 1 13)) (declarator (name (at 0 1 21) "m") None None ∷ [])) ∷ items.Decl (decl life.Unwritten (types.Atom (at 0 1 24) atom_word.Int sign.Unwritten) (declarator (name (at 0 1 28) "x") None None ∷ [])) ∷ procedure (at 0 1 31) procedure_word.Initial (stmts.Statement (at 0 1 39) None (blocking (target (at 0 1 39) "x") None (stmts.Value (tree.Expr.Post (root.Plain (name (at 0 1 43) "m")) (tree.Member (name (at 0 1 45) "get") (tree.Call (at 0 1 48) (expressions (plain (at 0 1 49) "x" ∷ [])) tree.NoSuffix)))))) ∷ []) None ∷ []

t31_broken : broken t31 [] None ≡ Some (fault 32 0 1 43)
unfolding symbols_of word_of
t31_broken = refl

-- module t; mailbox #(int) m; string s; always_comb m.get(s); endmodule
abbrev t32 : List Description
t32 = module_ (at 0 1 1) life.Unwritten (name (at 0 1 8) "t") None [] (items.Decl (decl life.Unwritten (types.MailboxOf (at 0 1 11) (types.Atom (at 0 1 21) atom_word.Int sign.Unwritten)) (declarator (name (at 0 1 26) "m") None None ∷ [])) ∷ items.Decl (decl life.Unwritten (types.Text (at 0 1 29)) (declarator (name (at 0 1 36) "s") None None ∷ [])) ∷ procedure (at 0 1 39) procedure_word.AlwaysComb (stmts.Statement (at 0 1 51) None (stmts.Call (tree.Expr.Post (root.Plain (name (at 0 1 51) "m")) (tree.Member (name (at 0 1 53) "get") (tree.Call (at 0 1 56) (expressions (plain (at 0 1 57) "s" ∷ [])) tree.NoSuffix))))) ∷ []) None ∷ []

t32_broken : broken t32 [] None ≡ Some (fault 27 0 1 51)
unfolding symbols_of word_of
t32_broken = refl

-- module t; mailbox m; always_comb m.get(3); endmodule
abbrev t33 : List Description
t33 = module_ (at 0 1 1) life.Unwritten (name (at 0 1 8) "t") None [] (items.Decl (decl life.Unwritten (types.Mailbox (at 0 1 11)) (declarator (name (at 0 1 19) "m") None None ∷ [])) ∷ procedure (at 0 1 22) procedure_word.AlwaysComb (stmts.Statement (at 0 1 34) None (stmts.Call (tree.Expr.Post (root.Plain (name (at 0 1 34) "m")) (tree.Member (name (at 0 1 36) "get") (tree.Call (at 0 1 39) (expressions (number (at 0 1 40) "3" ∷ [])) tree.NoSuffix))))) ∷ []) None ∷ []

t33_broken : broken t33 [] None ≡ Some (fault 27 0 1 34)
unfolding symbols_of word_of
t33_broken = refl

-- module m; mailbox m; initial m.get(3); endmodule
abbrev t34 : List Description
t34 = module_ (at 0 1 1) life.Unwritten (name (at 0 1 8) "m") None [] (items.Decl (decl life.Unwritten (types.Mailbox (at 0 1 11)) (declarator (name (at 0 1 19) "m") None None ∷ [])) ∷ procedure (at 0 1 22) procedure_word.Initial (stmts.Statement (at 0 1 30) None (stmts.Call (tree.Expr.Post (root.Plain (name (at 0 1 30) "m")) (tree.Member (name (at 0 1 32) "get") (tree.Call (at 0 1 35) (expressions (number (at 0 1 36) "3" ∷ [])) tree.NoSuffix))))) ∷ []) None ∷ []

t34_broken : broken t34 [] None ≡ Some (fault 31 0 1 36)
unfolding symbols_of word_of
t34_broken = refl

-- module t; mailbox m; event e; initial m.put(); endmodule
abbrev t35 : List Description
t35 = module_ (at 0 1 1) life.Unwritten (name (at 0 1 8) "t") None [] (items.Decl (decl life.Unwritten (types.Mailbox (at 0 1 11)) (declarator (name (at 0 1 19) "m") None None ∷ [])) ∷ items.Decl (decl life.Unwritten (types.Event (at 0 1 22)) (declarator (name (at 0 1 28) "e") None None ∷ [])) ∷ procedure (at 0 1 31) procedure_word.Initial (stmts.Statement (at 0 1 39) None (stmts.Call (tree.Expr.Post (root.Plain (name (at 0 1 39) "m")) (tree.Member (name (at 0 1 41) "put") (tree.Call (at 0 1 44) tree.NoExpr tree.NoSuffix))))) ∷ []) None ∷ []

t35_broken : broken t35 [] None ≡ Some (fault 31 0 1 39)
unfolding symbols_of word_of
t35_broken = refl

-- module t; semaphore s; initial s.get(1'bx, 2); endmodule
abbrev t36 : List Description
t36 = module_ (at 0 1 1) life.Unwritten (name (at 0 1 8) "t") None [] (items.Decl (decl life.Unwritten (types.Semaphore (at 0 1 11)) (declarator (name (at 0 1 21) "s") None None ∷ [])) ∷ procedure (at 0 1 24) procedure_word.Initial (stmts.Statement (at 0 1 32) None (stmts.Call (tree.Expr.Post (root.Plain (name (at 0 1 32) "s")) (tree.Member (name (at 0 1 34) "get") (tree.Call (at 0 1 37) (expressions (number (at 0 1 38) "1'bx" ∷ number (at 0 1 44) "2" ∷ [])) tree.NoSuffix))))) ∷ []) None ∷ []

t36_broken : broken t36 [] None ≡ Some (fault 31 0 1 32)
unfolding symbols_of word_of
t36_broken = refl

-- module t; semaphore s; initial s.get(1, zz); endmodule
abbrev t37 : List Description
t37 = module_ (at 0 1 1) life.Unwritten (name (at 0 1 8) "t") None [] (items.Decl (decl life.Unwritten (types.Semaphore (at 0 1 11)) (declarator (name (at 0 1 21) "s") None None ∷ [])) ∷ procedure (at 0 1 24) procedure_word.Initial (stmts.Statement (at 0 1 32) None (stmts.Call (tree.Expr.Post (root.Plain (name (at 0 1 32) "s")) (tree.Member (name (at 0 1 34) "get") (tree.Call (at 0 1 37) (expressions (number (at 0 1 38) "1" ∷ plain (at 0 1 41) "zz" ∷ [])) tree.NoSuffix))))) ∷ []) None ∷ []

t37_broken : broken t37 [] None ≡ Some (fault 31 0 1 32)
unfolding symbols_of word_of
t37_broken = refl
