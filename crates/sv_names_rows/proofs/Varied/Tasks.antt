-- Texts that differ in a word or two from others: system tasks, statements and event controls.
use Rattle.std.proofs.Common.{◌≡◌, List, [], ◌∷◌, refl}
use Rattle.std.specs.Prelude.{Some, None}
use Rattle.sv_value.specs.Vector.{symbols_of, word_of}
use Rattle.sv_tree.specs.declared.word.UnaryWord.TheVariants as unary_word
use Rattle.sv_tree.specs.declared.word.BinaryWord.TheVariants as binary_word
use Rattle.sv_tree.specs.declared.word.VectorWord.TheVariants as vector_word
use Rattle.sv_tree.specs.declared.word.AtomWord.TheVariants as atom_word
use Rattle.sv_tree.specs.declared.word.Sign.TheVariants as sign
use Rattle.sv_tree.specs.declared.word.Life.TheVariants as life
use Rattle.sv_tree.specs.declared.word.JoinWord.TheVariants as join_word
use Rattle.sv_tree.specs.declared.word.ProcedureWord.TheVariants as procedure_word
use Rattle.sv_tree.specs.declared.expr.Root.TheVariants as root
use Rattle.sv_tree.specs.Expr as tree
use Rattle.sv_tree.specs.Types as types
use Rattle.sv_tree.specs.Stmt as stmts
use Rattle.sv_tree.specs.Items as items
use Rattle.sv_tree.specs.Descriptions as descriptions
use Rattle.sv_tree.specs.Descriptions.{Description}
use Rattle.sv_names.specs.Design.{broken}
use Rattle.sv_names_rows.proofs.Kit.{at, blocking, decl, declarator, delay, expressions, fault, module_, name, number, plain, procedure, statements, system, target, text}

-- module t; initial begin : b static int n = 4; automatic int m = n ** 1; begin int k; k = m; $display("%0d %0d", n, k); end end endmodule
abbrev t1 : List Description
t1 = module_ (at 0 1 1) life.Unwritten (name (at 0 1 8) "t") None [] (procedure (at 0 1 11) procedure_word.Initial (stmts.Statement (at 0 1 19) None (stmts.Block (Some (name (at 0 1 27) "b")) (decl life.Static (types.Atom (at 0 1 36) atom_word.Int sign.Unwritten) (declarator (name (at 0 1 40) "n") None (Some (stmts.Value (number (at 0 1 44) "4"))) ∷ []) ∷ decl life.Automatic (types.Atom (at 0 1 57) atom_word.Int sign.Unwritten) (declarator (name (at 0 1 61) "m") None (Some (stmts.Value (tree.Binary binary_word.Power (at 0 1 67) (plain (at 0 1 65) "n") (number (at 0 1 70) "1")))) ∷ []) ∷ []) (statements (stmts.Statement (at 0 1 73) None (stmts.Block None (decl life.Unwritten (types.Atom (at 0 1 79) atom_word.Int sign.Unwritten) (declarator (name (at 0 1 83) "k") None None ∷ []) ∷ []) (statements (stmts.Statement (at 0 1 86) None (blocking (target (at 0 1 86) "k") None (stmts.Value (plain (at 0 1 90) "m"))) ∷ stmts.Statement (at 0 1 93) None (stmts.Call (system (at 0 1 93) "$display" (text (at 0 1 102) "%0d %0d" ∷ plain (at 0 1 113) "n" ∷ plain (at 0 1 116) "k" ∷ []))) ∷ [])) None) ∷ [])) None)) ∷ []) None ∷ []

t1_broken : broken t1 [] None ≡ Some (fault 53 0 1 67)
unfolding symbols_of word_of
t1_broken = refl

-- module t; initial begin : b static int n = 4; automatic int n = n + 1; begin int k; k = m; $display("%0d %0d", n, k); end end endmodule
abbrev t2 : List Description
t2 = module_ (at 0 1 1) life.Unwritten (name (at 0 1 8) "t") None [] (procedure (at 0 1 11) procedure_word.Initial (stmts.Statement (at 0 1 19) None (stmts.Block (Some (name (at 0 1 27) "b")) (decl life.Static (types.Atom (at 0 1 36) atom_word.Int sign.Unwritten) (declarator (name (at 0 1 40) "n") None (Some (stmts.Value (number (at 0 1 44) "4"))) ∷ []) ∷ decl life.Automatic (types.Atom (at 0 1 57) atom_word.Int sign.Unwritten) (declarator (name (at 0 1 61) "n") None (Some (stmts.Value (tree.Binary binary_word.Plus (at 0 1 67) (plain (at 0 1 65) "n") (number (at 0 1 69) "1")))) ∷ []) ∷ []) (statements (stmts.Statement (at 0 1 72) None (stmts.Block None (decl life.Unwritten (types.Atom (at 0 1 78) atom_word.Int sign.Unwritten) (declarator (name (at 0 1 82) "k") None None ∷ []) ∷ []) (statements (stmts.Statement (at 0 1 85) None (blocking (target (at 0 1 85) "k") None (stmts.Value (plain (at 0 1 89) "m"))) ∷ stmts.Statement (at 0 1 92) None (stmts.Call (system (at 0 1 92) "$display" (text (at 0 1 101) "%0d %0d" ∷ plain (at 0 1 112) "n" ∷ plain (at 0 1 115) "k" ∷ []))) ∷ [])) None) ∷ [])) None)) ∷ []) None ∷ []

t2_broken : broken t2 [] None ≡ Some (fault 5 0 1 61)
unfolding symbols_of word_of
t2_broken = refl

-- module t; string s; always_ff begin s = $sformatf("%0d-%s-%h", 12, "ab", 8'hfe); $display("%s %0d", s, s.len()); s = {s, "!"}; $display("%s", {2{s}}); end endmodule
abbrev t3 : List Description
t3 = module_ (at 0 1 1) life.Unwritten (name (at 0 1 8) "t") None [] (items.Decl (decl life.Unwritten (types.Text (at 0 1 11)) (declarator (name (at 0 1 18) "s") None None ∷ [])) ∷ procedure (at 0 1 21) procedure_word.AlwaysFf (stmts.Statement (at 0 1 31) None (stmts.Block None [] (statements (stmts.Statement (at 0 1 37) None (blocking (target (at 0 1 37) "s") None (stmts.Value (system (at 0 1 41) "$sformatf" (text (at 0 1 51) "%0d-%s-%h" ∷ number (at 0 1 64) "12" ∷ text (at 0 1 68) "ab" ∷ number (at 0 1 74) "8'hfe" ∷ [])))) ∷ stmts.Statement (at 0 1 82) None (stmts.Call (system (at 0 1 82) "$display" (text (at 0 1 91) "%s %0d" ∷ plain (at 0 1 101) "s" ∷ tree.Expr.Post (root.Plain (name (at 0 1 104) "s")) (tree.Member (name (at 0 1 106) "len") (tree.Call (at 0 1 109) tree.NoExpr tree.NoSuffix)) ∷ []))) ∷ stmts.Statement (at 0 1 114) None (blocking (target (at 0 1 114) "s") None (stmts.Value (tree.Expr.Join (at 0 1 118) (expressions (plain (at 0 1 119) "s" ∷ text (at 0 1 122) "!" ∷ []))))) ∷ stmts.Statement (at 0 1 128) None (stmts.Call (system (at 0 1 128) "$display" (text (at 0 1 137) "%s" ∷ tree.Repeat (at 0 1 143) (number (at 0 1 144) "2") (at 0 1 145) (expressions (plain (at 0 1 146) "s" ∷ [])) ∷ []))) ∷ [])) None)) ∷ []) None ∷ []

t3_broken : broken t3 [] None ≡ Some (fault 28 0 1 21)
unfolding symbols_of word_of
t3_broken = refl

-- module t; semaphore s = new(1); always_ff begin s.get(); $display("a"); #2 s.put(); end initial begin #1 s.get(1); $display("b %0t", $time); if (!s.try_get(1)) $display("c"); end endmodule
abbrev t4 : List Description
t4 = module_ (at 0 1 1) life.Unwritten (name (at 0 1 8) "t") None [] (items.Decl (decl life.Unwritten (types.Semaphore (at 0 1 11)) (declarator (name (at 0 1 21) "s") None (Some (stmts.New (at 0 1 25) (tree.Written (expressions (number (at 0 1 29) "1" ∷ []))))) ∷ [])) ∷ procedure (at 0 1 33) procedure_word.AlwaysFf (stmts.Statement (at 0 1 43) None (stmts.Block None [] (statements (stmts.Statement (at 0 1 49) None (stmts.Call (tree.Expr.Post (root.Plain (name (at 0 1 49) "s")) (tree.Member (name (at 0 1 51) "get") (tree.Call (at 0 1 54) tree.NoExpr tree.NoSuffix)))) ∷ stmts.Statement (at 0 1 58) None (stmts.Call (system (at 0 1 58) "$display" (text (at 0 1 67) "a" ∷ []))) ∷ stmts.Statement (at 0 1 73) None (stmts.After (delay (at 0 1 73) (number (at 0 1 74) "2")) (stmts.Statement (at 0 1 76) None (stmts.Call (tree.Expr.Post (root.Plain (name (at 0 1 76) "s")) (tree.Member (name (at 0 1 78) "put") (tree.Call (at 0 1 81) tree.NoExpr tree.NoSuffix)))))) ∷ [])) None)) ∷ procedure (at 0 1 89) procedure_word.Initial (stmts.Statement (at 0 1 97) None (stmts.Block None [] (statements (stmts.Statement (at 0 1 103) None (stmts.After (delay (at 0 1 103) (number (at 0 1 104) "1")) (stmts.Statement (at 0 1 106) None (stmts.Call (tree.Expr.Post (root.Plain (name (at 0 1 106) "s")) (tree.Member (name (at 0 1 108) "get") (tree.Call (at 0 1 111) (expressions (number (at 0 1 112) "1" ∷ [])) tree.NoSuffix)))))) ∷ stmts.Statement (at 0 1 116) None (stmts.Call (system (at 0 1 116) "$display" (text (at 0 1 125) "b %0t" ∷ tree.System (name (at 0 1 134) "$time") tree.Unwritten ∷ []))) ∷ stmts.Statement (at 0 1 142) None (stmts.If (tree.Unary (at 0 1 146) unary_word.Not (tree.Expr.Post (root.Plain (name (at 0 1 147) "s")) (tree.Member (name (at 0 1 149) "try_get") (tree.Call (at 0 1 156) (expressions (number (at 0 1 157) "1" ∷ [])) tree.NoSuffix)))) (stmts.Statement (at 0 1 161) None (stmts.Call (system (at 0 1 161) "$display" (text (at 0 1 170) "c" ∷ []))))) ∷ [])) None)) ∷ []) None ∷ []

t4_broken : broken t4 [] None ≡ Some (fault 28 0 1 33)
unfolding symbols_of word_of
t4_broken = refl

-- module t; semaphore s = new(1); always_comb begin s.get(); $display("a"); #2 s.put(); end initial begin #1 s.get(1); $display("b %0t", $time); if (!s.try_get(1)) $display("c"); end endmodule
abbrev t5 : List Description
t5 = module_ (at 0 1 1) life.Unwritten (name (at 0 1 8) "t") None [] (items.Decl (decl life.Unwritten (types.Semaphore (at 0 1 11)) (declarator (name (at 0 1 21) "s") None (Some (stmts.New (at 0 1 25) (tree.Written (expressions (number (at 0 1 29) "1" ∷ []))))) ∷ [])) ∷ procedure (at 0 1 33) procedure_word.AlwaysComb (stmts.Statement (at 0 1 45) None (stmts.Block None [] (statements (stmts.Statement (at 0 1 51) None (stmts.Call (tree.Expr.Post (root.Plain (name (at 0 1 51) "s")) (tree.Member (name (at 0 1 53) "get") (tree.Call (at 0 1 56) tree.NoExpr tree.NoSuffix)))) ∷ stmts.Statement (at 0 1 60) None (stmts.Call (system (at 0 1 60) "$display" (text (at 0 1 69) "a" ∷ []))) ∷ stmts.Statement (at 0 1 75) None (stmts.After (delay (at 0 1 75) (number (at 0 1 76) "2")) (stmts.Statement (at 0 1 78) None (stmts.Call (tree.Expr.Post (root.Plain (name (at 0 1 78) "s")) (tree.Member (name (at 0 1 80) "put") (tree.Call (at 0 1 83) tree.NoExpr tree.NoSuffix)))))) ∷ [])) None)) ∷ procedure (at 0 1 91) procedure_word.Initial (stmts.Statement (at 0 1 99) None (stmts.Block None [] (statements (stmts.Statement (at 0 1 105) None (stmts.After (delay (at 0 1 105) (number (at 0 1 106) "1")) (stmts.Statement (at 0 1 108) None (stmts.Call (tree.Expr.Post (root.Plain (name (at 0 1 108) "s")) (tree.Member (name (at 0 1 110) "get") (tree.Call (at 0 1 113) (expressions (number (at 0 1 114) "1" ∷ [])) tree.NoSuffix)))))) ∷ stmts.Statement (at 0 1 118) None (stmts.Call (system (at 0 1 118) "$display" (text (at 0 1 127) "b %0t" ∷ tree.System (name (at 0 1 136) "$time") tree.Unwritten ∷ []))) ∷ stmts.Statement (at 0 1 144) None (stmts.If (tree.Unary (at 0 1 148) unary_word.Not (tree.Expr.Post (root.Plain (name (at 0 1 149) "s")) (tree.Member (name (at 0 1 151) "try_get") (tree.Call (at 0 1 158) (expressions (number (at 0 1 159) "1" ∷ [])) tree.NoSuffix)))) (stmts.Statement (at 0 1 163) None (stmts.Call (system (at 0 1 163) "$display" (text (at 0 1 172) "c" ∷ []))))) ∷ [])) None)) ∷ []) None ∷ []

t5_broken : broken t5 [] None ≡ Some (fault 27 0 1 51)
unfolding symbols_of word_of
t5_broken = refl

-- module t; initial fork begin #2 $display("2"); end begin #1 $display("1"); end join initial begin fork : f  int k = 3; #k $display("k"); join_none wait fork; $display("w"); end endmodule
abbrev t6 : List Description
t6 = module_ (at 0 1 1) life.Unwritten (name (at 0 1 8) "t") None [] (procedure (at 0 1 11) procedure_word.Initial (stmts.Statement (at 0 1 19) None (stmts.Fork None [] (statements (stmts.Statement (at 0 1 24) None (stmts.Block None [] (statements (stmts.Statement (at 0 1 30) None (stmts.After (delay (at 0 1 30) (number (at 0 1 31) "2")) (stmts.Statement (at 0 1 33) None (stmts.Call (system (at 0 1 33) "$display" (text (at 0 1 42) "2" ∷ []))))) ∷ [])) None) ∷ stmts.Statement (at 0 1 52) None (stmts.Block None [] (statements (stmts.Statement (at 0 1 58) None (stmts.After (delay (at 0 1 58) (number (at 0 1 59) "1")) (stmts.Statement (at 0 1 61) None (stmts.Call (system (at 0 1 61) "$display" (text (at 0 1 70) "1" ∷ []))))) ∷ [])) None) ∷ [])) join_word.All None)) ∷ procedure (at 0 1 85) procedure_word.Initial (stmts.Statement (at 0 1 93) None (stmts.Block None [] (statements (stmts.Statement (at 0 1 99) None (stmts.Fork (Some (name (at 0 1 106) "f")) (decl life.Unwritten (types.Atom (at 0 1 109) atom_word.Int sign.Unwritten) (declarator (name (at 0 1 113) "k") None (Some (stmts.Value (number (at 0 1 117) "3"))) ∷ []) ∷ []) (statements (stmts.Statement (at 0 1 120) None (stmts.After (delay (at 0 1 120) (plain (at 0 1 121) "k")) (stmts.Statement (at 0 1 123) None (stmts.Call (system (at 0 1 123) "$display" (text (at 0 1 132) "k" ∷ []))))) ∷ [])) join_word.None None) ∷ stmts.Statement (at 0 1 148) None stmts.WaitFork ∷ stmts.Statement (at 0 1 159) None (stmts.Call (system (at 0 1 159) "$display" (text (at 0 1 168) "w" ∷ []))) ∷ [])) None)) ∷ []) None ∷ []

t6_broken : broken t6 [] None ≡ Some (fault 41 0 1 117)
unfolding symbols_of word_of
t6_broken = refl

-- module t; always_comb begin #1 $display("x"); #1 $finish; end endmodule
abbrev t7 : List Description
t7 = module_ (at 0 1 1) life.Unwritten (name (at 0 1 8) "t") None [] (procedure (at 0 1 11) procedure_word.AlwaysComb (stmts.Statement (at 0 1 23) None (stmts.Block None [] (statements (stmts.Statement (at 0 1 29) None (stmts.After (delay (at 0 1 29) (number (at 0 1 30) "1")) (stmts.Statement (at 0 1 32) None (stmts.Call (system (at 0 1 32) "$display" (text (at 0 1 41) "x" ∷ []))))) ∷ stmts.Statement (at 0 1 47) None (stmts.After (delay (at 0 1 47) (number (at 0 1 48) "1")) (stmts.Statement (at 0 1 50) None (stmts.Call (tree.System (name (at 0 1 50) "$finish") tree.Unwritten)))) ∷ [])) None)) ∷ []) None ∷ []

t7_broken : broken t7 [] None ≡ Some (fault 27 0 1 29)
unfolding symbols_of word_of
t7_broken = refl

-- module t; always_comb $exit; endmodule
abbrev t8 : List Description
t8 = module_ (at 0 1 1) life.Unwritten (name (at 0 1 8) "t") None [] (procedure (at 0 1 11) procedure_word.AlwaysComb (stmts.Statement (at 0 1 23) None (stmts.Call (tree.System (name (at 0 1 23) "$exit") tree.Unwritten))) ∷ []) None ∷ []

t8_broken : broken t8 [] None ≡ Some (fault 49 0 1 23)
unfolding symbols_of word_of
t8_broken = refl

-- module zz; initial $display("%"); endmodule
abbrev t9 : List Description
t9 = module_ (at 0 1 1) life.Unwritten (name (at 0 1 8) "zz") None [] (procedure (at 0 1 12) procedure_word.Initial (stmts.Statement (at 0 1 20) None (stmts.Call (system (at 0 1 20) "$display" (text (at 0 1 29) "%" ∷ [])))) ∷ []) None ∷ []

t9_broken : broken t9 [] None ≡ Some (fault 50 0 1 29)
unfolding symbols_of word_of
t9_broken = refl

-- module t; always_comb $display("%"); endmodule
abbrev t10 : List Description
t10 = module_ (at 0 1 1) life.Unwritten (name (at 0 1 8) "t") None [] (procedure (at 0 1 11) procedure_word.AlwaysComb (stmts.Statement (at 0 1 23) None (stmts.Call (system (at 0 1 23) "$display" (text (at 0 1 32) "%" ∷ [])))) ∷ []) None ∷ []

t10_broken : broken t10 [] None ≡ Some (fault 50 0 1 32)
unfolding symbols_of word_of
t10_broken = refl

-- module t; always $display("%s", 1); endmodule
abbrev t11 : List Description
t11 = module_ (at 0 1 1) life.Unwritten (name (at 0 1 8) "t") None [] (procedure (at 0 1 11) procedure_word.Always (stmts.Statement (at 0 1 18) None (stmts.Call (system (at 0 1 18) "$display" (text (at 0 1 27) "%s" ∷ number (at 0 1 33) "1" ∷ [])))) ∷ []) None ∷ []

t11_broken : broken t11 [] None ≡ Some (fault 50 0 1 33)
unfolding symbols_of word_of
t11_broken = refl

-- module t; initial $display("%s", 0); endmodule
abbrev t12 : List Description
t12 = module_ (at 0 1 1) life.Unwritten (name (at 0 1 8) "t") None [] (procedure (at 0 1 11) procedure_word.Initial (stmts.Statement (at 0 1 19) None (stmts.Call (system (at 0 1 19) "$display" (text (at 0 1 28) "%s" ∷ number (at 0 1 34) "0" ∷ [])))) ∷ []) None ∷ []

t12_broken : broken t12 [] None ≡ Some (fault 50 0 1 34)
unfolding symbols_of word_of
t12_broken = refl

-- module zz; initial $display("%d"); endmodule
abbrev t13 : List Description
t13 = module_ (at 0 1 1) life.Unwritten (name (at 0 1 8) "zz") None [] (procedure (at 0 1 12) procedure_word.Initial (stmts.Statement (at 0 1 20) None (stmts.Call (system (at 0 1 20) "$display" (text (at 0 1 29) "%d" ∷ [])))) ∷ []) None ∷ []

t13_broken : broken t13 [] None ≡ Some (fault 50 0 1 29)
unfolding symbols_of word_of
t13_broken = refl

-- module t; event s, f; initial s = $sformatf(f); endmodule
abbrev t14 : List Description
t14 = module_ (at 0 1 1) life.Unwritten (name (at 0 1 8) "t") None [] (items.Decl (decl life.Unwritten (types.Event (at 0 1 11)) (declarator (name (at 0 1 17) "s") None None ∷ declarator (name (at 0 1 20) "f") None None ∷ [])) ∷ procedure (at 0 1 23) procedure_word.Initial (stmts.Statement (at 0 1 31) None (blocking (target (at 0 1 31) "s") None (stmts.Value (system (at 0 1 35) "$sformatf" (plain (at 0 1 45) "f" ∷ []))))) ∷ []) None ∷ []

t14_broken : broken t14 [] None ≡ Some (fault 50 0 1 45)
unfolding symbols_of word_of
t14_broken = refl

-- module t; string s, f; initial f = $sformatf(f); endmodule
abbrev t15 : List Description
t15 = module_ (at 0 1 1) life.Unwritten (name (at 0 1 8) "t") None [] (items.Decl (decl life.Unwritten (types.Text (at 0 1 11)) (declarator (name (at 0 1 18) "s") None None ∷ declarator (name (at 0 1 21) "f") None None ∷ [])) ∷ procedure (at 0 1 24) procedure_word.Initial (stmts.Statement (at 0 1 32) None (blocking (target (at 0 1 32) "f") None (stmts.Value (system (at 0 1 36) "$sformatf" (plain (at 0 1 46) "f" ∷ []))))) ∷ []) None ∷ []

t15_broken : broken t15 [] None ≡ Some (fault 50 0 1 46)
unfolding symbols_of word_of
t15_broken = refl

-- module t; logic x; initial x = $display("x"); endmodule
abbrev t16 : List Description
t16 = module_ (at 0 1 1) life.Unwritten (name (at 0 1 8) "t") None [] (items.Decl (decl life.Unwritten (types.WrittenType.Vector (at 0 1 11) vector_word.Logic sign.Unwritten None) (declarator (name (at 0 1 17) "x") None None ∷ [])) ∷ procedure (at 0 1 20) procedure_word.Initial (stmts.Statement (at 0 1 28) None (blocking (target (at 0 1 28) "x") None (stmts.Value (system (at 0 1 32) "$display" (text (at 0 1 41) "x" ∷ []))))) ∷ []) None ∷ []

t16_broken : broken t16 [] None ≡ Some (fault 32 0 1 32)
unfolding symbols_of word_of
t16_broken = refl

-- module t; int x; initial x = $display("x"); endmodule ;
abbrev t17 : List Description
t17 = module_ (at 0 1 1) life.Unwritten (name (at 0 1 8) "t") None [] (items.Decl (decl life.Unwritten (types.Atom (at 0 1 11) atom_word.Int sign.Unwritten) (declarator (name (at 0 1 15) "x") None None ∷ [])) ∷ procedure (at 0 1 18) procedure_word.Initial (stmts.Statement (at 0 1 26) None (blocking (target (at 0 1 26) "x") None (stmts.Value (system (at 0 1 30) "$display" (text (at 0 1 39) "x" ∷ []))))) ∷ []) None ∷ descriptions.Item items.Null ∷ []

t17_broken : broken t17 [] None ≡ Some (fault 32 0 1 30)
unfolding symbols_of word_of
t17_broken = refl

-- module x; int x; initial x = $foo(y); endmodule
abbrev t18 : List Description
t18 = module_ (at 0 1 1) life.Unwritten (name (at 0 1 8) "x") None [] (items.Decl (decl life.Unwritten (types.Atom (at 0 1 11) atom_word.Int sign.Unwritten) (declarator (name (at 0 1 15) "x") None None ∷ [])) ∷ procedure (at 0 1 18) procedure_word.Initial (stmts.Statement (at 0 1 26) None (blocking (target (at 0 1 26) "x") None (stmts.Value (system (at 0 1 30) "$foo" (plain (at 0 1 35) "y" ∷ []))))) ∷ []) None ∷ []

t18_broken : broken t18 [] None ≡ Some (fault 55 0 1 30)
unfolding symbols_of word_of
t18_broken = refl

-- module zz; int x; initial x = $foo(y); endmodule
abbrev t19 : List Description
t19 = module_ (at 0 1 1) life.Unwritten (name (at 0 1 8) "zz") None [] (items.Decl (decl life.Unwritten (types.Atom (at 0 1 12) atom_word.Int sign.Unwritten) (declarator (name (at 0 1 16) "x") None None ∷ [])) ∷ procedure (at 0 1 19) procedure_word.Initial (stmts.Statement (at 0 1 27) None (blocking (target (at 0 1 27) "x") None (stmts.Value (system (at 0 1 31) "$foo" (plain (at 0 1 36) "y" ∷ []))))) ∷ []) None ∷ []

t19_broken : broken t19 [] None ≡ Some (fault 55 0 1 31)
unfolding symbols_of word_of
t19_broken = refl

-- module t; int x; initial x = $foo(); endmodule
abbrev t20 : List Description
t20 = module_ (at 0 1 1) life.Unwritten (name (at 0 1 8) "t") None [] (items.Decl (decl life.Unwritten (types.Atom (at 0 1 11) atom_word.Int sign.Unwritten) (declarator (name (at 0 1 15) "x") None None ∷ [])) ∷ procedure (at 0 1 18) procedure_word.Initial (stmts.Statement (at 0 1 26) None (blocking (target (at 0 1 26) "x") None (stmts.Value (system (at 0 1 30) "$foo" [])))) ∷ []) None ∷ []

t20_broken : broken t20 [] None ≡ Some (fault 55 0 1 30)
unfolding symbols_of word_of
t20_broken = refl

-- module t; initial $finish(8'hff); endmodule
abbrev t21 : List Description
t21 = module_ (at 0 1 1) life.Unwritten (name (at 0 1 8) "t") None [] (procedure (at 0 1 11) procedure_word.Initial (stmts.Statement (at 0 1 19) None (stmts.Call (system (at 0 1 19) "$finish" (number (at 0 1 27) "8'hff" ∷ [])))) ∷ []) None ∷ []

t21_broken : broken t21 [] None ≡ Some (fault 12 0 1 27)
unfolding symbols_of word_of
t21_broken = refl

-- module t; int n; always $finish(n); endmodule
abbrev t22 : List Description
t22 = module_ (at 0 1 1) life.Unwritten (name (at 0 1 8) "t") None [] (items.Decl (decl life.Unwritten (types.Atom (at 0 1 11) atom_word.Int sign.Unwritten) (declarator (name (at 0 1 15) "n") None None ∷ [])) ∷ procedure (at 0 1 18) procedure_word.Always (stmts.Statement (at 0 1 25) None (stmts.Call (system (at 0 1 25) "$finish" (plain (at 0 1 33) "n" ∷ [])))) ∷ []) None ∷ []

t22_broken : broken t22 [] None ≡ Some (fault 11 0 1 33)
unfolding symbols_of word_of
t22_broken = refl
