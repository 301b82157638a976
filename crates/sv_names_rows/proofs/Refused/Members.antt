-- Texts that break a rule, or come close to it: members and methods of containers, strings, events, mailboxes and semaphores.
use Rattle.std.proofs.Common.{◌≡◌, List, [], ◌∷◌, refl}
use Rattle.std.specs.Prelude.{Some, None}
use Rattle.sv_value.specs.Vector.{symbols_of, word_of}
use Rattle.sv_tree.specs.declared.word.AtomWord.TheVariants as atom_word
use Rattle.sv_tree.specs.declared.word.Sign.TheVariants as sign
use Rattle.sv_tree.specs.declared.word.Life.TheVariants as life
use Rattle.sv_tree.specs.declared.word.ProcedureWord.TheVariants as procedure_word
use Rattle.sv_tree.specs.declared.expr.Root.TheVariants as root
use Rattle.sv_tree.specs.Expr as tree
use Rattle.sv_tree.specs.Types as types
use Rattle.sv_tree.specs.Stmt as stmts
use Rattle.sv_tree.specs.Items as items
use Rattle.sv_tree.specs.Descriptions.{Description}
use Rattle.sv_names.specs.Design.{broken}
use Rattle.sv_names_rows.proofs.Kit.{at, blocking, decl, declarator, enum_item, expressions, fault, module_, name, number, plain, procedure, target, text, typedef}

-- module t; int x; initial x.y = 1; endmodule
abbrev t1 : List Description
t1 = module_ (at 0 1 1) life.Unwritten (name (at 0 1 8) "t") None [] (items.Decl (decl life.Unwritten (types.Atom (at 0 1 11) atom_word.Int sign.Unwritten) (declarator (name (at 0 1 15) "x") None None ∷ [])) ∷ procedure (at 0 1 18) procedure_word.Initial (stmts.Statement (at 0 1 26) None (blocking (tree.Lval.Post (root.Plain (name (at 0 1 26) "x")) (tree.Member (name (at 0 1 28) "y") tree.NoSuffix)) None (stmts.Value (number (at 0 1 32) "1")))) ∷ []) None ∷ []

t1_broken : broken t1 [] None ≡ Some (fault 36 0 1 28)
unfolding symbols_of word_of
t1_broken = refl

-- module t; int q[$]; initial q.push_back(); endmodule
abbrev t2 : List Description
t2 = module_ (at 0 1 1) life.Unwritten (name (at 0 1 8) "t") None [] (items.Decl (decl life.Unwritten (types.Atom (at 0 1 11) atom_word.Int sign.Unwritten) (declarator (name (at 0 1 15) "q") (Some (stmts.Queue (at 0 1 16))) None ∷ [])) ∷ procedure (at 0 1 21) procedure_word.Initial (stmts.Statement (at 0 1 29) None (stmts.Call (tree.Expr.Post (root.Plain (name (at 0 1 29) "q")) (tree.Member (name (at 0 1 31) "push_back") (tree.Call (at 0 1 40) tree.NoExpr tree.NoSuffix))))) ∷ []) None ∷ []

t2_broken : broken t2 [] None ≡ Some (fault 31 0 1 29)
unfolding symbols_of word_of
t2_broken = refl

-- module t; int q[$]; initial q.push_back(1, 2); endmodule
abbrev t3 : List Description
t3 = module_ (at 0 1 1) life.Unwritten (name (at 0 1 8) "t") None [] (items.Decl (decl life.Unwritten (types.Atom (at 0 1 11) atom_word.Int sign.Unwritten) (declarator (name (at 0 1 15) "q") (Some (stmts.Queue (at 0 1 16))) None ∷ [])) ∷ procedure (at 0 1 21) procedure_word.Initial (stmts.Statement (at 0 1 29) None (stmts.Call (tree.Expr.Post (root.Plain (name (at 0 1 29) "q")) (tree.Member (name (at 0 1 31) "push_back") (tree.Call (at 0 1 40) (expressions (number (at 0 1 41) "1" ∷ number (at 0 1 44) "2" ∷ [])) tree.NoSuffix))))) ∷ []) None ∷ []

t3_broken : broken t3 [] None ≡ Some (fault 31 0 1 29)
unfolding symbols_of word_of
t3_broken = refl

-- module t; int q[$]; initial q.push_back("s"); endmodule
abbrev t4 : List Description
t4 = module_ (at 0 1 1) life.Unwritten (name (at 0 1 8) "t") None [] (items.Decl (decl life.Unwritten (types.Atom (at 0 1 11) atom_word.Int sign.Unwritten) (declarator (name (at 0 1 15) "q") (Some (stmts.Queue (at 0 1 16))) None ∷ [])) ∷ procedure (at 0 1 21) procedure_word.Initial (stmts.Statement (at 0 1 29) None (stmts.Call (tree.Expr.Post (root.Plain (name (at 0 1 29) "q")) (tree.Member (name (at 0 1 31) "push_back") (tree.Call (at 0 1 40) (expressions (text (at 0 1 41) "s" ∷ [])) tree.NoSuffix))))) ∷ []) None ∷ []

t4_broken : broken t4 [] None ≡ Some (fault 16 0 1 41)
unfolding symbols_of word_of
t4_broken = refl

-- module t; int q[$], x; initial x = q.push_back(1); endmodule
abbrev t5 : List Description
t5 = module_ (at 0 1 1) life.Unwritten (name (at 0 1 8) "t") None [] (items.Decl (decl life.Unwritten (types.Atom (at 0 1 11) atom_word.Int sign.Unwritten) (declarator (name (at 0 1 15) "q") (Some (stmts.Queue (at 0 1 16))) None ∷ declarator (name (at 0 1 21) "x") None None ∷ [])) ∷ procedure (at 0 1 24) procedure_word.Initial (stmts.Statement (at 0 1 32) None (blocking (target (at 0 1 32) "x") None (stmts.Value (tree.Expr.Post (root.Plain (name (at 0 1 36) "q")) (tree.Member (name (at 0 1 38) "push_back") (tree.Call (at 0 1 47) (expressions (number (at 0 1 48) "1" ∷ [])) tree.NoSuffix)))))) ∷ []) None ∷ []

t5_broken : broken t5 [] None ≡ Some (fault 32 0 1 36)
unfolding symbols_of word_of
t5_broken = refl

-- module t; int q[$]; initial q.delete("s"); endmodule
abbrev t6 : List Description
t6 = module_ (at 0 1 1) life.Unwritten (name (at 0 1 8) "t") None [] (items.Decl (decl life.Unwritten (types.Atom (at 0 1 11) atom_word.Int sign.Unwritten) (declarator (name (at 0 1 15) "q") (Some (stmts.Queue (at 0 1 16))) None ∷ [])) ∷ procedure (at 0 1 21) procedure_word.Initial (stmts.Statement (at 0 1 29) None (stmts.Call (tree.Expr.Post (root.Plain (name (at 0 1 29) "q")) (tree.Member (name (at 0 1 31) "delete") (tree.Call (at 0 1 37) (expressions (text (at 0 1 38) "s" ∷ [])) tree.NoSuffix))))) ∷ []) None ∷ []

t6_broken : broken t6 [] None ≡ Some (fault 42 0 1 38)
unfolding symbols_of word_of
t6_broken = refl

-- module t; int q[$]; initial q.insert("s", 1); endmodule
abbrev t7 : List Description
t7 = module_ (at 0 1 1) life.Unwritten (name (at 0 1 8) "t") None [] (items.Decl (decl life.Unwritten (types.Atom (at 0 1 11) atom_word.Int sign.Unwritten) (declarator (name (at 0 1 15) "q") (Some (stmts.Queue (at 0 1 16))) None ∷ [])) ∷ procedure (at 0 1 21) procedure_word.Initial (stmts.Statement (at 0 1 29) None (stmts.Call (tree.Expr.Post (root.Plain (name (at 0 1 29) "q")) (tree.Member (name (at 0 1 31) "insert") (tree.Call (at 0 1 37) (expressions (text (at 0 1 38) "s" ∷ number (at 0 1 43) "1" ∷ [])) tree.NoSuffix))))) ∷ []) None ∷ []

t7_broken : broken t7 [] None ≡ Some (fault 42 0 1 38)
unfolding symbols_of word_of
t7_broken = refl

-- module t; int m[string], x; initial x = m.first(x); endmodule
abbrev t8 : List Description
t8 = module_ (at 0 1 1) life.Unwritten (name (at 0 1 8) "t") None [] (items.Decl (decl life.Unwritten (types.Atom (at 0 1 11) atom_word.Int sign.Unwritten) (declarator (name (at 0 1 15) "m") (Some (stmts.Key (at 0 1 16) (types.Text (at 0 1 17)))) None ∷ declarator (name (at 0 1 26) "x") None None ∷ [])) ∷ procedure (at 0 1 29) procedure_word.Initial (stmts.Statement (at 0 1 37) None (blocking (target (at 0 1 37) "x") None (stmts.Value (tree.Expr.Post (root.Plain (name (at 0 1 41) "m")) (tree.Member (name (at 0 1 43) "first") (tree.Call (at 0 1 48) (expressions (plain (at 0 1 49) "x" ∷ [])) tree.NoSuffix)))))) ∷ []) None ∷ []

t8_broken : broken t8 [] None ≡ Some (fault 16 0 1 49)
unfolding symbols_of word_of
t8_broken = refl

-- module t; int m[string], x; initial x = m.exists(3); endmodule
abbrev t9 : List Description
t9 = module_ (at 0 1 1) life.Unwritten (name (at 0 1 8) "t") None [] (items.Decl (decl life.Unwritten (types.Atom (at 0 1 11) atom_word.Int sign.Unwritten) (declarator (name (at 0 1 15) "m") (Some (stmts.Key (at 0 1 16) (types.Text (at 0 1 17)))) None ∷ declarator (name (at 0 1 26) "x") None None ∷ [])) ∷ procedure (at 0 1 29) procedure_word.Initial (stmts.Statement (at 0 1 37) None (blocking (target (at 0 1 37) "x") None (stmts.Value (tree.Expr.Post (root.Plain (name (at 0 1 41) "m")) (tree.Member (name (at 0 1 43) "exists") (tree.Call (at 0 1 49) (expressions (number (at 0 1 50) "3" ∷ [])) tree.NoSuffix)))))) ∷ []) None ∷ []

t9_broken : broken t9 [] None ≡ Some (fault 42 0 1 50)
unfolding symbols_of word_of
t9_broken = refl

-- module t; string s; initial s.len = 3; endmodule
abbrev t10 : List Description
t10 = module_ (at 0 1 1) life.Unwritten (name (at 0 1 8) "t") None [] (items.Decl (decl life.Unwritten (types.Text (at 0 1 11)) (declarator (name (at 0 1 18) "s") None None ∷ [])) ∷ procedure (at 0 1 21) procedure_word.Initial (stmts.Statement (at 0 1 29) None (blocking (tree.Lval.Post (root.Plain (name (at 0 1 29) "s")) (tree.Member (name (at 0 1 31) "len") tree.NoSuffix)) None (stmts.Value (number (at 0 1 37) "3")))) ∷ []) None ∷ []

t10_broken : broken t10 [] None ≡ Some (fault 18 0 1 29)
unfolding symbols_of word_of
t10_broken = refl

-- module t; string s; initial s = s.len(); endmodule
abbrev t11 : List Description
t11 = module_ (at 0 1 1) life.Unwritten (name (at 0 1 8) "t") None [] (items.Decl (decl life.Unwritten (types.Text (at 0 1 11)) (declarator (name (at 0 1 18) "s") None None ∷ [])) ∷ procedure (at 0 1 21) procedure_word.Initial (stmts.Statement (at 0 1 29) None (blocking (target (at 0 1 29) "s") None (stmts.Value (tree.Expr.Post (root.Plain (name (at 0 1 33) "s")) (tree.Member (name (at 0 1 35) "len") (tree.Call (at 0 1 38) tree.NoExpr tree.NoSuffix)))))) ∷ []) None ∷ []

t11_broken : broken t11 [] None ≡ Some (fault 16 0 1 33)
unfolding symbols_of word_of
t11_broken = refl

-- module t; event e; int x; initial x = e; endmodule
abbrev t12 : List Description
t12 = module_ (at 0 1 1) life.Unwritten (name (at 0 1 8) "t") None [] (items.Decl (decl life.Unwritten (types.Event (at 0 1 11)) (declarator (name (at 0 1 17) "e") None None ∷ [])) ∷ items.Decl (decl life.Unwritten (types.Atom (at 0 1 20) atom_word.Int sign.Unwritten) (declarator (name (at 0 1 24) "x") None None ∷ [])) ∷ procedure (at 0 1 27) procedure_word.Initial (stmts.Statement (at 0 1 35) None (blocking (target (at 0 1 35) "x") None (stmts.Value (plain (at 0 1 39) "e")))) ∷ []) None ∷ []

t12_broken : broken t12 [] None ≡ Some (fault 16 0 1 39)
unfolding symbols_of word_of
t12_broken = refl

-- module t; event e, f; initial e = f; endmodule
abbrev t13 : List Description
t13 = module_ (at 0 1 1) life.Unwritten (name (at 0 1 8) "t") None [] (items.Decl (decl life.Unwritten (types.Event (at 0 1 11)) (declarator (name (at 0 1 17) "e") None None ∷ declarator (name (at 0 1 20) "f") None None ∷ [])) ∷ procedure (at 0 1 23) procedure_word.Initial (stmts.Statement (at 0 1 31) None (blocking (target (at 0 1 31) "e") None (stmts.Value (plain (at 0 1 35) "f")))) ∷ []) None ∷ []

t13_broken : broken t13 [] None ≡ Some (fault 16 0 1 35)
unfolding symbols_of word_of
t13_broken = refl

-- module t; event e; initial -> x; endmodule
abbrev t14 : List Description
t14 = module_ (at 0 1 1) life.Unwritten (name (at 0 1 8) "t") None [] (items.Decl (decl life.Unwritten (types.Event (at 0 1 11)) (declarator (name (at 0 1 17) "e") None None ∷ [])) ∷ procedure (at 0 1 20) procedure_word.Initial (stmts.Statement (at 0 1 28) None (stmts.Trigger (target (at 0 1 31) "x"))) ∷ []) None ∷ []

t14_broken : broken t14 [] None ≡ Some (fault 6 0 1 31)
unfolding symbols_of word_of
t14_broken = refl

-- module t; int e; initial -> e; endmodule
abbrev t15 : List Description
t15 = module_ (at 0 1 1) life.Unwritten (name (at 0 1 8) "t") None [] (items.Decl (decl life.Unwritten (types.Atom (at 0 1 11) atom_word.Int sign.Unwritten) (declarator (name (at 0 1 15) "e") None None ∷ [])) ∷ procedure (at 0 1 18) procedure_word.Initial (stmts.Statement (at 0 1 26) None (stmts.Trigger (target (at 0 1 29) "e"))) ∷ []) None ∷ []

t15_broken : broken t15 [] None ≡ Some (fault 15 0 1 29)
unfolding symbols_of word_of
t15_broken = refl

-- module t; event e[2]; initial -> e; endmodule
abbrev t16 : List Description
t16 = module_ (at 0 1 1) life.Unwritten (name (at 0 1 8) "t") None [] (items.Decl (decl life.Unwritten (types.Event (at 0 1 11)) (declarator (name (at 0 1 17) "e") (Some (stmts.Size (at 0 1 18) (number (at 0 1 19) "2"))) None ∷ [])) ∷ procedure (at 0 1 23) procedure_word.Initial (stmts.Statement (at 0 1 31) None (stmts.Trigger (target (at 0 1 34) "e"))) ∷ []) None ∷ []

t16_broken : broken t16 [] None ≡ Some (fault 43 0 1 11)
unfolding symbols_of word_of
t16_broken = refl

-- module t; mailbox m; int x; initial x = m.get(x); endmodule
abbrev t17 : List Description
t17 = module_ (at 0 1 1) life.Unwritten (name (at 0 1 8) "t") None [] (items.Decl (decl life.Unwritten (types.Mailbox (at 0 1 11)) (declarator (name (at 0 1 19) "m") None None ∷ [])) ∷ items.Decl (decl life.Unwritten (types.Atom (at 0 1 22) atom_word.Int sign.Unwritten) (declarator (name (at 0 1 26) "x") None None ∷ [])) ∷ procedure (at 0 1 29) procedure_word.Initial (stmts.Statement (at 0 1 37) None (blocking (target (at 0 1 37) "x") None (stmts.Value (tree.Expr.Post (root.Plain (name (at 0 1 41) "m")) (tree.Member (name (at 0 1 43) "get") (tree.Call (at 0 1 46) (expressions (plain (at 0 1 47) "x" ∷ [])) tree.NoSuffix)))))) ∷ []) None ∷ []

t17_broken : broken t17 [] None ≡ Some (fault 32 0 1 41)
unfolding symbols_of word_of
t17_broken = refl

-- module t; mailbox #(int) m; string s; initial m.get(s); endmodule
abbrev t18 : List Description
t18 = module_ (at 0 1 1) life.Unwritten (name (at 0 1 8) "t") None [] (items.Decl (decl life.Unwritten (types.MailboxOf (at 0 1 11) (types.Atom (at 0 1 21) atom_word.Int sign.Unwritten)) (declarator (name (at 0 1 26) "m") None None ∷ [])) ∷ items.Decl (decl life.Unwritten (types.Text (at 0 1 29)) (declarator (name (at 0 1 36) "s") None None ∷ [])) ∷ procedure (at 0 1 39) procedure_word.Initial (stmts.Statement (at 0 1 47) None (stmts.Call (tree.Expr.Post (root.Plain (name (at 0 1 47) "m")) (tree.Member (name (at 0 1 49) "get") (tree.Call (at 0 1 52) (expressions (plain (at 0 1 53) "s" ∷ [])) tree.NoSuffix))))) ∷ []) None ∷ []

t18_broken : broken t18 [] None ≡ Some (fault 16 0 1 53)
unfolding symbols_of word_of
t18_broken = refl

-- module t; mailbox #(int) m; byte s; initial m.try_get(s); endmodule
abbrev t19 : List Description
t19 = module_ (at 0 1 1) life.Unwritten (name (at 0 1 8) "t") None [] (items.Decl (decl life.Unwritten (types.MailboxOf (at 0 1 11) (types.Atom (at 0 1 21) atom_word.Int sign.Unwritten)) (declarator (name (at 0 1 26) "m") None None ∷ [])) ∷ items.Decl (decl life.Unwritten (types.Atom (at 0 1 29) atom_word.Byte sign.Unwritten) (declarator (name (at 0 1 34) "s") None None ∷ [])) ∷ procedure (at 0 1 37) procedure_word.Initial (stmts.Statement (at 0 1 45) None (stmts.Call (tree.Expr.Post (root.Plain (name (at 0 1 45) "m")) (tree.Member (name (at 0 1 47) "try_get") (tree.Call (at 0 1 54) (expressions (plain (at 0 1 55) "s" ∷ [])) tree.NoSuffix))))) ∷ []) None ∷ []

t19_broken : broken t19 [] None ≡ Some (fault 16 0 1 55)
unfolding symbols_of word_of
t19_broken = refl

-- module t; mailbox #(int) m; initial m.put("s"); endmodule
abbrev t20 : List Description
t20 = module_ (at 0 1 1) life.Unwritten (name (at 0 1 8) "t") None [] (items.Decl (decl life.Unwritten (types.MailboxOf (at 0 1 11) (types.Atom (at 0 1 21) atom_word.Int sign.Unwritten)) (declarator (name (at 0 1 26) "m") None None ∷ [])) ∷ procedure (at 0 1 29) procedure_word.Initial (stmts.Statement (at 0 1 37) None (stmts.Call (tree.Expr.Post (root.Plain (name (at 0 1 37) "m")) (tree.Member (name (at 0 1 39) "put") (tree.Call (at 0 1 42) (expressions (text (at 0 1 43) "s" ∷ [])) tree.NoSuffix))))) ∷ []) None ∷ []

t20_broken : broken t20 [] None ≡ Some (fault 16 0 1 43)
unfolding symbols_of word_of
t20_broken = refl

-- module t; typedef enum {A} e; mailbox #(e) m; int x; initial m.get(x); endmodule
abbrev t21 : List Description
t21 = module_ (at 0 1 1) life.Unwritten (name (at 0 1 8) "t") None [] (items.Typedef (typedef (types.Enum (at 0 1 19) (enum_item (name (at 0 1 25) "A") None ∷ [])) (name (at 0 1 28) "e")) ∷ items.Decl (decl life.Unwritten (types.MailboxOf (at 0 1 31) (types.Named (name (at 0 1 41) "e"))) (declarator (name (at 0 1 44) "m") None None ∷ [])) ∷ items.Decl (decl life.Unwritten (types.Atom (at 0 1 47) atom_word.Int sign.Unwritten) (declarator (name (at 0 1 51) "x") None None ∷ [])) ∷ procedure (at 0 1 54) procedure_word.Initial (stmts.Statement (at 0 1 62) None (stmts.Call (tree.Expr.Post (root.Plain (name (at 0 1 62) "m")) (tree.Member (name (at 0 1 64) "get") (tree.Call (at 0 1 67) (expressions (plain (at 0 1 68) "x" ∷ [])) tree.NoSuffix))))) ∷ []) None ∷ []

t21_broken : broken t21 [] None ≡ Some (fault 16 0 1 68)
unfolding symbols_of word_of
t21_broken = refl

-- module t; typedef enum {A} e; mailbox #(int) m; e x; initial m.get(x); endmodule
abbrev t22 : List Description
t22 = module_ (at 0 1 1) life.Unwritten (name (at 0 1 8) "t") None [] (items.Typedef (typedef (types.Enum (at 0 1 19) (enum_item (name (at 0 1 25) "A") None ∷ [])) (name (at 0 1 28) "e")) ∷ items.Decl (decl life.Unwritten (types.MailboxOf (at 0 1 31) (types.Atom (at 0 1 41) atom_word.Int sign.Unwritten)) (declarator (name (at 0 1 46) "m") None None ∷ [])) ∷ items.Decl (decl life.Unwritten (types.Named (name (at 0 1 49) "e")) (declarator (name (at 0 1 51) "x") None None ∷ [])) ∷ procedure (at 0 1 54) procedure_word.Initial (stmts.Statement (at 0 1 62) None (stmts.Call (tree.Expr.Post (root.Plain (name (at 0 1 62) "m")) (tree.Member (name (at 0 1 64) "get") (tree.Call (at 0 1 67) (expressions (plain (at 0 1 68) "x" ∷ [])) tree.NoSuffix))))) ∷ []) None ∷ []

t22_broken : broken t22 [] None ≡ Some (fault 17 0 1 68)
unfolding symbols_of word_of
t22_broken = refl

-- module t; mailbox m; initial m.get(3); endmodule
abbrev t23 : List Description
t23 = module_ (at 0 1 1) life.Unwritten (name (at 0 1 8) "t") None [] (items.Decl (decl life.Unwritten (types.Mailbox (at 0 1 11)) (declarator (name (at 0 1 19) "m") None None ∷ [])) ∷ procedure (at 0 1 22) procedure_word.Initial (stmts.Statement (at 0 1 30) None (stmts.Call (tree.Expr.Post (root.Plain (name (at 0 1 30) "m")) (tree.Member (name (at 0 1 32) "get") (tree.Call (at 0 1 35) (expressions (number (at 0 1 36) "3" ∷ [])) tree.NoSuffix))))) ∷ []) None ∷ []

t23_broken : broken t23 [] None ≡ Some (fault 31 0 1 36)
unfolding symbols_of word_of
t23_broken = refl

-- module t; mailbox m; event e; initial m.put(e); endmodule
abbrev t24 : List Description
t24 = module_ (at 0 1 1) life.Unwritten (name (at 0 1 8) "t") None [] (items.Decl (decl life.Unwritten (types.Mailbox (at 0 1 11)) (declarator (name (at 0 1 19) "m") None None ∷ [])) ∷ items.Decl (decl life.Unwritten (types.Event (at 0 1 22)) (declarator (name (at 0 1 28) "e") None None ∷ [])) ∷ procedure (at 0 1 31) procedure_word.Initial (stmts.Statement (at 0 1 39) None (stmts.Call (tree.Expr.Post (root.Plain (name (at 0 1 39) "m")) (tree.Member (name (at 0 1 41) "put") (tree.Call (at 0 1 44) (expressions (plain (at 0 1 45) "e" ∷ [])) tree.NoSuffix))))) ∷ []) None ∷ []

t24_broken : broken t24 [] None ≡ Some (fault 16 0 1 45)
unfolding symbols_of word_of
t24_broken = refl

-- module t; semaphore s; initial s.put("x"); endmodule
abbrev t25 : List Description
t25 = module_ (at 0 1 1) life.Unwritten (name (at 0 1 8) "t") None [] (items.Decl (decl life.Unwritten (types.Semaphore (at 0 1 11)) (declarator (name (at 0 1 21) "s") None None ∷ [])) ∷ procedure (at 0 1 24) procedure_word.Initial (stmts.Statement (at 0 1 32) None (stmts.Call (tree.Expr.Post (root.Plain (name (at 0 1 32) "s")) (tree.Member (name (at 0 1 34) "put") (tree.Call (at 0 1 37) (expressions (text (at 0 1 38) "x" ∷ [])) tree.NoSuffix))))) ∷ []) None ∷ []

t25_broken : broken t25 [] None ≡ Some (fault 16 0 1 38)
unfolding symbols_of word_of
t25_broken = refl

-- module t; semaphore s; initial s.get(1, 2); endmodule
abbrev t26 : List Description
t26 = module_ (at 0 1 1) life.Unwritten (name (at 0 1 8) "t") None [] (items.Decl (decl life.Unwritten (types.Semaphore (at 0 1 11)) (declarator (name (at 0 1 21) "s") None None ∷ [])) ∷ procedure (at 0 1 24) procedure_word.Initial (stmts.Statement (at 0 1 32) None (stmts.Call (tree.Expr.Post (root.Plain (name (at 0 1 32) "s")) (tree.Member (name (at 0 1 34) "get") (tree.Call (at 0 1 37) (expressions (number (at 0 1 38) "1" ∷ number (at 0 1 41) "2" ∷ [])) tree.NoSuffix))))) ∷ []) None ∷ []

t26_broken : broken t26 [] None ≡ Some (fault 31 0 1 32)
unfolding symbols_of word_of
t26_broken = refl

-- module t; mailbox m = new(1, 2); endmodule
abbrev t27 : List Description
t27 = module_ (at 0 1 1) life.Unwritten (name (at 0 1 8) "t") None [] (items.Decl (decl life.Unwritten (types.Mailbox (at 0 1 11)) (declarator (name (at 0 1 19) "m") None (Some (stmts.New (at 0 1 23) (tree.Written (expressions (number (at 0 1 27) "1" ∷ number (at 0 1 30) "2" ∷ []))))) ∷ [])) ∷ []) None ∷ []

t27_broken : broken t27 [] None ≡ Some (fault 31 0 1 23)
unfolding symbols_of word_of
t27_broken = refl

-- module t; mailbox m = new("s"); endmodule
abbrev t28 : List Description
t28 = module_ (at 0 1 1) life.Unwritten (name (at 0 1 8) "t") None [] (items.Decl (decl life.Unwritten (types.Mailbox (at 0 1 11)) (declarator (name (at 0 1 19) "m") None (Some (stmts.New (at 0 1 23) (tree.Written (expressions (text (at 0 1 27) "s" ∷ []))))) ∷ [])) ∷ []) None ∷ []

t28_broken : broken t28 [] None ≡ Some (fault 16 0 1 27)
unfolding symbols_of word_of
t28_broken = refl

-- module t; int m = new; endmodule
abbrev t29 : List Description
t29 = module_ (at 0 1 1) life.Unwritten (name (at 0 1 8) "t") None [] (items.Decl (decl life.Unwritten (types.Atom (at 0 1 11) atom_word.Int sign.Unwritten) (declarator (name (at 0 1 15) "m") None (Some (stmts.New (at 0 1 19) tree.Unwritten)) ∷ [])) ∷ []) None ∷ []

t29_broken : broken t29 [] None ≡ Some (fault 16 0 1 19)
unfolding symbols_of word_of
t29_broken = refl
