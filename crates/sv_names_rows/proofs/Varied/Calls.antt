-- Texts that differ in a word or two from others: calls, subroutines, and code that may not wait.
use Rattle.std.proofs.Common.{◌≡◌, List, [], ◌∷◌, true, false, refl}
use Rattle.std.specs.Prelude.{Some, None}
use Rattle.sv_value.specs.Vector.{symbols_of, word_of}
use Rattle.sv_tree.specs.declared.word.BinaryWord.TheVariants as binary_word
use Rattle.sv_tree.specs.declared.word.VectorWord.TheVariants as vector_word
use Rattle.sv_tree.specs.declared.word.AtomWord.TheVariants as atom_word
use Rattle.sv_tree.specs.declared.word.Sign.TheVariants as sign
use Rattle.sv_tree.specs.declared.word.Life.TheVariants as life
use Rattle.sv_tree.specs.declared.word.JoinWord.TheVariants as join_word
use Rattle.sv_tree.specs.declared.word.ProcedureWord.TheVariants as procedure_word
use Rattle.sv_tree.specs.declared.word.Direction.TheVariants as direction
use Rattle.sv_tree.specs.declared.word.ParamWord.TheVariants as param_word
use Rattle.sv_tree.specs.declared.expr.Root.TheVariants as root
use Rattle.sv_tree.specs.Expr as tree
use Rattle.sv_tree.specs.Types as types
use Rattle.sv_tree.specs.Stmt as stmts
use Rattle.sv_tree.specs.Units as units
use Rattle.sv_tree.specs.Items as items
use Rattle.sv_tree.specs.Descriptions as descriptions
use Rattle.sv_tree.specs.Descriptions.{Description}
use Rattle.sv_names.specs.Design.{broken}
use Rattle.sv_names_rows.proofs.Kit.{argument, at, blocking, class_, decl, declarator, delay, expressions, fault, head, module_, name, nonblocking, number, operated, param, plain, procedure, property, qualifiers, range, routine, statements, system, target, text, typedef, unqualified, value}

-- module t; function int f(int n); f = n; if (n > 1) f = n * f(n ** 1); endfunction initial $display("%0d", f(4)); endmodule
abbrev t1 : List Description
t1 = module_ (at 0 1 1) life.Unwritten (name (at 0 1 8) "t") None [] (items.Routine (routine (head (at 0 1 11) life.Unwritten (units.Returns.Value (types.Written (types.Atom (at 0 1 20) atom_word.Int sign.Unwritten))) (name (at 0 1 24) "f") (argument None (types.Written (types.Atom (at 0 1 26) atom_word.Int sign.Unwritten)) (name (at 0 1 30) "n") None ∷ [])) [] (stmts.Statement (at 0 1 34) None (blocking (target (at 0 1 34) "f") None (stmts.Value (plain (at 0 1 38) "n"))) ∷ stmts.Statement (at 0 1 41) None (stmts.If (tree.Binary binary_word.Greater (at 0 1 47) (plain (at 0 1 45) "n") (number (at 0 1 49) "1")) (stmts.Statement (at 0 1 52) None (blocking (target (at 0 1 52) "f") None (stmts.Value (tree.Binary binary_word.Multiply (at 0 1 58) (plain (at 0 1 56) "n") (tree.Expr.Post (root.Plain (name (at 0 1 60) "f")) (tree.Call (at 0 1 61) (expressions (tree.Binary binary_word.Power (at 0 1 64) (plain (at 0 1 62) "n") (number (at 0 1 67) "1") ∷ [])) tree.NoSuffix))))))) ∷ []) None) ∷ procedure (at 0 1 83) procedure_word.Initial (stmts.Statement (at 0 1 91) None (stmts.Call (system (at 0 1 91) "$display" (text (at 0 1 100) "%0d" ∷ tree.Expr.Post (root.Plain (name (at 0 1 107) "f")) (tree.Call (at 0 1 108) (expressions (number (at 0 1 109) "4" ∷ [])) tree.NoSuffix) ∷ [])))) ∷ []) None ∷ []

t1_broken : broken t1 [] None ≡ Some (fault 53 0 1 64)
unfolding symbols_of word_of
t1_broken = refl

-- module t; function int f(int n); f  n; if (n > 1) f = n * f(n - 1); endfunction initial $display("%0d", f(4)); endmodule
abbrev t2 : List Description
t2 = module_ (at 0 1 1) life.Unwritten (name (at 0 1 8) "t") None [] (items.Routine (routine (head (at 0 1 11) life.Unwritten (units.Returns.Value (types.Written (types.Atom (at 0 1 20) atom_word.Int sign.Unwritten))) (name (at 0 1 24) "f") (argument None (types.Written (types.Atom (at 0 1 26) atom_word.Int sign.Unwritten)) (name (at 0 1 30) "n") None ∷ [])) (decl life.Unwritten (types.Named (name (at 0 1 34) "f")) (declarator (name (at 0 1 37) "n") None None ∷ []) ∷ []) (stmts.Statement (at 0 1 40) None (stmts.If (tree.Binary binary_word.Greater (at 0 1 46) (plain (at 0 1 44) "n") (number (at 0 1 48) "1")) (stmts.Statement (at 0 1 51) None (blocking (target (at 0 1 51) "f") None (stmts.Value (tree.Binary binary_word.Multiply (at 0 1 57) (plain (at 0 1 55) "n") (tree.Expr.Post (root.Plain (name (at 0 1 59) "f")) (tree.Call (at 0 1 60) (expressions (tree.Binary binary_word.Minus (at 0 1 63) (plain (at 0 1 61) "n") (number (at 0 1 65) "1") ∷ [])) tree.NoSuffix))))))) ∷ []) None) ∷ procedure (at 0 1 81) procedure_word.Initial (stmts.Statement (at 0 1 89) None (stmts.Call (system (at 0 1 89) "$display" (text (at 0 1 98) "%0d" ∷ tree.Expr.Post (root.Plain (name (at 0 1 105) "f")) (tree.Call (at 0 1 106) (expressions (number (at 0 1 107) "4" ∷ [])) tree.NoSuffix) ∷ [])))) ∷ []) None ∷ []

t2_broken : broken t2 [] None ≡ Some (fault 7 0 1 34)
unfolding symbols_of word_of
t2_broken = refl

-- module t; function int f(int n); f = n; if (n > 1) f = n || f(n - 1); endfunction initial $display("%0d", f(4)); endmodule
abbrev t3 : List Description
t3 = module_ (at 0 1 1) life.Unwritten (name (at 0 1 8) "t") None [] (items.Routine (routine (head (at 0 1 11) life.Unwritten (units.Returns.Value (types.Written (types.Atom (at 0 1 20) atom_word.Int sign.Unwritten))) (name (at 0 1 24) "f") (argument None (types.Written (types.Atom (at 0 1 26) atom_word.Int sign.Unwritten)) (name (at 0 1 30) "n") None ∷ [])) [] (stmts.Statement (at 0 1 34) None (blocking (target (at 0 1 34) "f") None (stmts.Value (plain (at 0 1 38) "n"))) ∷ stmts.Statement (at 0 1 41) None (stmts.If (tree.Binary binary_word.Greater (at 0 1 47) (plain (at 0 1 45) "n") (number (at 0 1 49) "1")) (stmts.Statement (at 0 1 52) None (blocking (target (at 0 1 52) "f") None (stmts.Value (tree.Binary binary_word.LogicalOr (at 0 1 58) (plain (at 0 1 56) "n") (tree.Expr.Post (root.Plain (name (at 0 1 61) "f")) (tree.Call (at 0 1 62) (expressions (tree.Binary binary_word.Minus (at 0 1 65) (plain (at 0 1 63) "n") (number (at 0 1 67) "1") ∷ [])) tree.NoSuffix))))))) ∷ []) None) ∷ procedure (at 0 1 83) procedure_word.Initial (stmts.Statement (at 0 1 91) None (stmts.Call (system (at 0 1 91) "$display" (text (at 0 1 100) "%0d" ∷ tree.Expr.Post (root.Plain (name (at 0 1 107) "f")) (tree.Call (at 0 1 108) (expressions (number (at 0 1 109) "4" ∷ [])) tree.NoSuffix) ∷ [])))) ∷ []) None ∷ []

t3_broken : broken t3 [] None ≡ Some (fault 24 0 1 61)
unfolding symbols_of word_of
t3_broken = refl

-- module t; function automatic int f(int n); f = n; if (n > 1) f <= n * f(n - 1); endfunction initial $display("%0d", f(4)); endmodule
abbrev t4 : List Description
t4 = module_ (at 0 1 1) life.Unwritten (name (at 0 1 8) "t") None [] (items.Routine (routine (head (at 0 1 11) life.Automatic (units.Returns.Value (types.Written (types.Atom (at 0 1 30) atom_word.Int sign.Unwritten))) (name (at 0 1 34) "f") (argument None (types.Written (types.Atom (at 0 1 36) atom_word.Int sign.Unwritten)) (name (at 0 1 40) "n") None ∷ [])) [] (stmts.Statement (at 0 1 44) None (blocking (target (at 0 1 44) "f") None (stmts.Value (plain (at 0 1 48) "n"))) ∷ stmts.Statement (at 0 1 51) None (stmts.If (tree.Binary binary_word.Greater (at 0 1 57) (plain (at 0 1 55) "n") (number (at 0 1 59) "1")) (stmts.Statement (at 0 1 62) None (nonblocking (target (at 0 1 62) "f") None (tree.Binary binary_word.Multiply (at 0 1 69) (plain (at 0 1 67) "n") (tree.Expr.Post (root.Plain (name (at 0 1 71) "f")) (tree.Call (at 0 1 72) (expressions (tree.Binary binary_word.Minus (at 0 1 75) (plain (at 0 1 73) "n") (number (at 0 1 77) "1") ∷ [])) tree.NoSuffix)))))) ∷ []) None) ∷ procedure (at 0 1 93) procedure_word.Initial (stmts.Statement (at 0 1 101) None (stmts.Call (system (at 0 1 101) "$display" (text (at 0 1 110) "%0d" ∷ tree.Expr.Post (root.Plain (name (at 0 1 117) "f")) (tree.Call (at 0 1 118) (expressions (number (at 0 1 119) "4" ∷ [])) tree.NoSuffix) ∷ [])))) ∷ []) None ∷ []

t4_broken : broken t4 [] None ≡ Some (fault 26 0 1 62)
unfolding symbols_of word_of
t4_broken = refl

-- module t; function automatic int f(int n); f = n; if (n > 1) f = n ** f(n - 1); endfunction initial $display("%0d", f(4)); endmodule
abbrev t5 : List Description
t5 = module_ (at 0 1 1) life.Unwritten (name (at 0 1 8) "t") None [] (items.Routine (routine (head (at 0 1 11) life.Automatic (units.Returns.Value (types.Written (types.Atom (at 0 1 30) atom_word.Int sign.Unwritten))) (name (at 0 1 34) "f") (argument None (types.Written (types.Atom (at 0 1 36) atom_word.Int sign.Unwritten)) (name (at 0 1 40) "n") None ∷ [])) [] (stmts.Statement (at 0 1 44) None (blocking (target (at 0 1 44) "f") None (stmts.Value (plain (at 0 1 48) "n"))) ∷ stmts.Statement (at 0 1 51) None (stmts.If (tree.Binary binary_word.Greater (at 0 1 57) (plain (at 0 1 55) "n") (number (at 0 1 59) "1")) (stmts.Statement (at 0 1 62) None (blocking (target (at 0 1 62) "f") None (stmts.Value (tree.Binary binary_word.Power (at 0 1 68) (plain (at 0 1 66) "n") (tree.Expr.Post (root.Plain (name (at 0 1 71) "f")) (tree.Call (at 0 1 72) (expressions (tree.Binary binary_word.Minus (at 0 1 75) (plain (at 0 1 73) "n") (number (at 0 1 77) "1") ∷ [])) tree.NoSuffix))))))) ∷ []) None) ∷ procedure (at 0 1 93) procedure_word.Initial (stmts.Statement (at 0 1 101) None (stmts.Call (system (at 0 1 101) "$display" (text (at 0 1 110) "%0d" ∷ tree.Expr.Post (root.Plain (name (at 0 1 117) "f")) (tree.Call (at 0 1 118) (expressions (number (at 0 1 119) "4" ∷ [])) tree.NoSuffix) ∷ [])))) ∷ []) None ∷ []

t5_broken : broken t5 [] None ≡ Some (fault 53 0 1 68)
unfolding symbols_of word_of
t5_broken = refl

-- module t; function automatic int sum(input int a, b = 3, output int c); c = a - b; return a + b; endfunction int x, x; initial begin x = sum(7, 2, y) + 1; $display("%0d %0d", x, y); end endmodule
abbrev t6 : List Description
t6 = module_ (at 0 1 1) life.Unwritten (name (at 0 1 8) "t") None [] (items.Routine (routine (head (at 0 1 11) life.Automatic (units.Returns.Value (types.Written (types.Atom (at 0 1 30) atom_word.Int sign.Unwritten))) (name (at 0 1 34) "sum") (argument (Some direction.Input) (types.Written (types.Atom (at 0 1 44) atom_word.Int sign.Unwritten)) (name (at 0 1 48) "a") None ∷ argument None types.Unwritten (name (at 0 1 51) "b") (Some (number (at 0 1 55) "3")) ∷ argument (Some direction.Output) (types.Written (types.Atom (at 0 1 65) atom_word.Int sign.Unwritten)) (name (at 0 1 69) "c") None ∷ [])) [] (stmts.Statement (at 0 1 73) None (blocking (target (at 0 1 73) "c") None (stmts.Value (tree.Binary binary_word.Minus (at 0 1 79) (plain (at 0 1 77) "a") (plain (at 0 1 81) "b")))) ∷ stmts.Statement (at 0 1 84) None (stmts.Return (Some (tree.Binary binary_word.Plus (at 0 1 93) (plain (at 0 1 91) "a") (plain (at 0 1 95) "b")))) ∷ []) None) ∷ items.Decl (decl life.Unwritten (types.Atom (at 0 1 110) atom_word.Int sign.Unwritten) (declarator (name (at 0 1 114) "x") None None ∷ declarator (name (at 0 1 117) "x") None None ∷ [])) ∷ procedure (at 0 1 120) procedure_word.Initial (stmts.Statement (at 0 1 128) None (stmts.Block None [] (statements (stmts.Statement (at 0 1 134) None (blocking (target (at 0 1 134) "x") None (stmts.Value (tree.Binary binary_word.Plus (at 0 1 151) (tree.Expr.Post (root.Plain (name (at 0 1 138) "sum")) (tree.Call (at 0 1 141) (expressions (number (at 0 1 142) "7" ∷ number (at 0 1 145) "2" ∷ plain (at 0 1 148) "y" ∷ [])) tree.NoSuffix)) (number (at 0 1 153) "1")))) ∷ stmts.Statement (at 0 1 156) None (stmts.Call (system (at 0 1 156) "$display" (text (at 0 1 165) "%0d %0d" ∷ plain (at 0 1 176) "x" ∷ plain (at 0 1 179) "y" ∷ []))) ∷ [])) None)) ∷ []) None ∷ []

t6_broken : broken t6 [] None ≡ Some (fault 5 0 1 117)
unfolding symbols_of word_of
t6_broken = refl

-- module t; function automatic int sum(input int a, b = 3, output int a); c = a - b; return a + b; endfunction int x, y; initial begin x = sum(7, 2, y) + 1; $display("%0d %0d", x, y); end endmodule
abbrev t7 : List Description
t7 = module_ (at 0 1 1) life.Unwritten (name (at 0 1 8) "t") None [] (items.Routine (routine (head (at 0 1 11) life.Automatic (units.Returns.Value (types.Written (types.Atom (at 0 1 30) atom_word.Int sign.Unwritten))) (name (at 0 1 34) "sum") (argument (Some direction.Input) (types.Written (types.Atom (at 0 1 44) atom_word.Int sign.Unwritten)) (name (at 0 1 48) "a") None ∷ argument None types.Unwritten (name (at 0 1 51) "b") (Some (number (at 0 1 55) "3")) ∷ argument (Some direction.Output) (types.Written (types.Atom (at 0 1 65) atom_word.Int sign.Unwritten)) (name (at 0 1 69) "a") None ∷ [])) [] (stmts.Statement (at 0 1 73) None (blocking (target (at 0 1 73) "c") None (stmts.Value (tree.Binary binary_word.Minus (at 0 1 79) (plain (at 0 1 77) "a") (plain (at 0 1 81) "b")))) ∷ stmts.Statement (at 0 1 84) None (stmts.Return (Some (tree.Binary binary_word.Plus (at 0 1 93) (plain (at 0 1 91) "a") (plain (at 0 1 95) "b")))) ∷ []) None) ∷ items.Decl (decl life.Unwritten (types.Atom (at 0 1 110) atom_word.Int sign.Unwritten) (declarator (name (at 0 1 114) "x") None None ∷ declarator (name (at 0 1 117) "y") None None ∷ [])) ∷ procedure (at 0 1 120) procedure_word.Initial (stmts.Statement (at 0 1 128) None (stmts.Block None [] (statements (stmts.Statement (at 0 1 134) None (blocking (target (at 0 1 134) "x") None (stmts.Value (tree.Binary binary_word.Plus (at 0 1 151) (tree.Expr.Post (root.Plain (name (at 0 1 138) "sum")) (tree.Call (at 0 1 141) (expressions (number (at 0 1 142) "7" ∷ number (at 0 1 145) "2" ∷ plain (at 0 1 148) "y" ∷ [])) tree.NoSuffix)) (number (at 0 1 153) "1")))) ∷ stmts.Statement (at 0 1 156) None (stmts.Call (system (at 0 1 156) "$display" (text (at 0 1 165) "%0d %0d" ∷ plain (at 0 1 176) "x" ∷ plain (at 0 1 179) "y" ∷ []))) ∷ [])) None)) ∷ []) None ∷ []

t7_broken : broken t7 [] None ≡ Some (fault 5 0 1 69)
unfolding symbols_of word_of
t7_broken = refl

-- module t; function automatic int sum(output int a, b = 3, output int c); c = a - b; return a + b; endfunction int x, y; initial begin x = sum(7, 2, y) + 1; $display("%0d %0d", x, y); end endmodule
abbrev t8 : List Description
t8 = module_ (at 0 1 1) life.Unwritten (name (at 0 1 8) "t") None [] (items.Routine (routine (head (at 0 1 11) life.Automatic (units.Returns.Value (types.Written (types.Atom (at 0 1 30) atom_word.Int sign.Unwritten))) (name (at 0 1 34) "sum") (argument (Some direction.Output) (types.Written (types.Atom (at 0 1 45) atom_word.Int sign.Unwritten)) (name (at 0 1 49) "a") None ∷ argument None types.Unwritten (name (at 0 1 52) "b") (Some (number (at 0 1 56) "3")) ∷ argument (Some direction.Output) (types.Written (types.Atom (at 0 1 66) atom_word.Int sign.Unwritten)) (name (at 0 1 70) "c") None ∷ [])) [] (stmts.Statement (at 0 1 74) None (blocking (target (at 0 1 74) "c") None (stmts.Value (tree.Binary binary_word.Minus (at 0 1 80) (plain (at 0 1 78) "a") (plain (at 0 1 82) "b")))) ∷ stmts.Statement (at 0 1 85) None (stmts.Return (Some (tree.Binary binary_word.Plus (at 0 1 94) (plain (at 0 1 92) "a") (plain (at 0 1 96) "b")))) ∷ []) None) ∷ items.Decl (decl life.Unwritten (types.Atom (at 0 1 111) atom_word.Int sign.Unwritten) (declarator (name (at 0 1 115) "x") None None ∷ declarator (name (at 0 1 118) "y") None None ∷ [])) ∷ procedure (at 0 1 121) procedure_word.Initial (stmts.Statement (at 0 1 129) None (stmts.Block None [] (statements (stmts.Statement (at 0 1 135) None (blocking (target (at 0 1 135) "x") None (stmts.Value (tree.Binary binary_word.Plus (at 0 1 152) (tree.Expr.Post (root.Plain (name (at 0 1 139) "sum")) (tree.Call (at 0 1 142) (expressions (number (at 0 1 143) "7" ∷ number (at 0 1 146) "2" ∷ plain (at 0 1 149) "y" ∷ [])) tree.NoSuffix)) (number (at 0 1 154) "1")))) ∷ stmts.Statement (at 0 1 157) None (stmts.Call (system (at 0 1 157) "$display" (text (at 0 1 166) "%0d %0d" ∷ plain (at 0 1 177) "x" ∷ plain (at 0 1 180) "y" ∷ []))) ∷ [])) None)) ∷ []) None ∷ []

t8_broken : broken t8 [] None ≡ Some (fault 31 0 1 143)
unfolding symbols_of word_of
t8_broken = refl

-- module t; task automatic swap(inout int a, b); int t; t = a; a = b; b = t; endtask int x = 1, y = 2; always_ff begin swap(x, y); $display("%0d %0d", x, y); end endmodule
abbrev t9 : List Description
t9 = module_ (at 0 1 1) life.Unwritten (name (at 0 1 8) "t") None [] (items.Routine (routine (head (at 0 1 11) life.Automatic units.Task (name (at 0 1 26) "swap") (argument (Some direction.Inout) (types.Written (types.Atom (at 0 1 37) atom_word.Int sign.Unwritten)) (name (at 0 1 41) "a") None ∷ argument None types.Unwritten (name (at 0 1 44) "b") None ∷ [])) (decl life.Unwritten (types.Atom (at 0 1 48) atom_word.Int sign.Unwritten) (declarator (name (at 0 1 52) "t") None None ∷ []) ∷ []) (stmts.Statement (at 0 1 55) None (blocking (target (at 0 1 55) "t") None (stmts.Value (plain (at 0 1 59) "a"))) ∷ stmts.Statement (at 0 1 62) None (blocking (target (at 0 1 62) "a") None (stmts.Value (plain (at 0 1 66) "b"))) ∷ stmts.Statement (at 0 1 69) None (blocking (target (at 0 1 69) "b") None (stmts.Value (plain (at 0 1 73) "t"))) ∷ []) None) ∷ items.Decl (decl life.Unwritten (types.Atom (at 0 1 84) atom_word.Int sign.Unwritten) (declarator (name (at 0 1 88) "x") None (Some (stmts.Value (number (at 0 1 92) "1"))) ∷ declarator (name (at 0 1 95) "y") None (Some (stmts.Value (number (at 0 1 99) "2"))) ∷ [])) ∷ procedure (at 0 1 102) procedure_word.AlwaysFf (stmts.Statement (at 0 1 112) None (stmts.Block None [] (statements (stmts.Statement (at 0 1 118) None (stmts.Call (tree.Expr.Post (root.Plain (name (at 0 1 118) "swap")) (tree.Call (at 0 1 122) (expressions (plain (at 0 1 123) "x" ∷ plain (at 0 1 126) "y" ∷ [])) tree.NoSuffix))) ∷ stmts.Statement (at 0 1 130) None (stmts.Call (system (at 0 1 130) "$display" (text (at 0 1 139) "%0d %0d" ∷ plain (at 0 1 150) "x" ∷ plain (at 0 1 153) "y" ∷ []))) ∷ [])) None)) ∷ []) None ∷ []

t9_broken : broken t9 [] None ≡ Some (fault 28 0 1 102)
unfolding symbols_of word_of
t9_broken = refl

-- module t; task automatic swap(inout semaphore a, b); int t; t = a; a = b; b = t; endtask int x = 1, y = 2; initial begin swap(x, y); $display("%0d %0d", x, y); end endmodule
abbrev t10 : List Description
t10 = module_ (at 0 1 1) life.Unwritten (name (at 0 1 8) "t") None [] (items.Routine (routine (head (at 0 1 11) life.Automatic units.Task (name (at 0 1 26) "swap") (argument (Some direction.Inout) (types.Written (types.Semaphore (at 0 1 37))) (name (at 0 1 47) "a") None ∷ argument None types.Unwritten (name (at 0 1 50) "b") None ∷ [])) (decl life.Unwritten (types.Atom (at 0 1 54) atom_word.Int sign.Unwritten) (declarator (name (at 0 1 58) "t") None None ∷ []) ∷ []) (stmts.Statement (at 0 1 61) None (blocking (target (at 0 1 61) "t") None (stmts.Value (plain (at 0 1 65) "a"))) ∷ stmts.Statement (at 0 1 68) None (blocking (target (at 0 1 68) "a") None (stmts.Value (plain (at 0 1 72) "b"))) ∷ stmts.Statement (at 0 1 75) None (blocking (target (at 0 1 75) "b") None (stmts.Value (plain (at 0 1 79) "t"))) ∷ []) None) ∷ items.Decl (decl life.Unwritten (types.Atom (at 0 1 90) atom_word.Int sign.Unwritten) (declarator (name (at 0 1 94) "x") None (Some (stmts.Value (number (at 0 1 98) "1"))) ∷ declarator (name (at 0 1 101) "y") None (Some (stmts.Value (number (at 0 1 105) "2"))) ∷ [])) ∷ procedure (at 0 1 108) procedure_word.Initial (stmts.Statement (at 0 1 116) None (stmts.Block None [] (statements (stmts.Statement (at 0 1 122) None (stmts.Call (tree.Expr.Post (root.Plain (name (at 0 1 122) "swap")) (tree.Call (at 0 1 126) (expressions (plain (at 0 1 127) "x" ∷ plain (at 0 1 130) "y" ∷ [])) tree.NoSuffix))) ∷ stmts.Statement (at 0 1 134) None (stmts.Call (system (at 0 1 134) "$display" (text (at 0 1 143) "%0d %0d" ∷ plain (at 0 1 154) "x" ∷ plain (at 0 1 157) "y" ∷ []))) ∷ [])) None)) ∷ []) None ∷ []

t10_broken : broken t10 [] None ≡ Some (fault 16 0 1 65)
unfolding symbols_of word_of
t10_broken = refl

-- module t; task automatic swap(inout int a, b); int a; t = a; a = b; b = t; endtask int x = 1, y = 2; initial begin swap(x, y); $display("%0d %0d", x, y); end endmodule
abbrev t11 : List Description
t11 = module_ (at 0 1 1) life.Unwritten (name (at 0 1 8) "t") None [] (items.Routine (routine (head (at 0 1 11) life.Automatic units.Task (name (at 0 1 26) "swap") (argument (Some direction.Inout) (types.Written (types.Atom (at 0 1 37) atom_word.Int sign.Unwritten)) (name (at 0 1 41) "a") None ∷ argument None types.Unwritten (name (at 0 1 44) "b") None ∷ [])) (decl life.Unwritten (types.Atom (at 0 1 48) atom_word.Int sign.Unwritten) (declarator (name (at 0 1 52) "a") None None ∷ []) ∷ []) (stmts.Statement (at 0 1 55) None (blocking (target (at 0 1 55) "t") None (stmts.Value (plain (at 0 1 59) "a"))) ∷ stmts.Statement (at 0 1 62) None (blocking (target (at 0 1 62) "a") None (stmts.Value (plain (at 0 1 66) "b"))) ∷ stmts.Statement (at 0 1 69) None (blocking (target (at 0 1 69) "b") None (stmts.Value (plain (at 0 1 73) "t"))) ∷ []) None) ∷ items.Decl (decl life.Unwritten (types.Atom (at 0 1 84) atom_word.Int sign.Unwritten) (declarator (name (at 0 1 88) "x") None (Some (stmts.Value (number (at 0 1 92) "1"))) ∷ declarator (name (at 0 1 95) "y") None (Some (stmts.Value (number (at 0 1 99) "2"))) ∷ [])) ∷ procedure (at 0 1 102) procedure_word.Initial (stmts.Statement (at 0 1 110) None (stmts.Block None [] (statements (stmts.Statement (at 0 1 116) None (stmts.Call (tree.Expr.Post (root.Plain (name (at 0 1 116) "swap")) (tree.Call (at 0 1 120) (expressions (plain (at 0 1 121) "x" ∷ plain (at 0 1 124) "y" ∷ [])) tree.NoSuffix))) ∷ stmts.Statement (at 0 1 128) None (stmts.Call (system (at 0 1 128) "$display" (text (at 0 1 137) "%0d %0d" ∷ plain (at 0 1 148) "x" ∷ plain (at 0 1 151) "y" ∷ []))) ∷ [])) None)) ∷ []) None ∷ []

t11_broken : broken t11 [] None ≡ Some (fault 5 0 1 52)
unfolding symbols_of word_of
t11_broken = refl

-- module t; task automatic swap(inout int a, b); int t; t = a; a = b; b = t; endtask int x = 1, swap = 2; initial begin swap(x, y); $display("%0d %0d", x, y); end endmodule
abbrev t12 : List Description
t12 = module_ (at 0 1 1) life.Unwritten (name (at 0 1 8) "t") None [] (items.Routine (routine (head (at 0 1 11) life.Automatic units.Task (name (at 0 1 26) "swap") (argument (Some direction.Inout) (types.Written (types.Atom (at 0 1 37) atom_word.Int sign.Unwritten)) (name (at 0 1 41) "a") None ∷ argument None types.Unwritten (name (at 0 1 44) "b") None ∷ [])) (decl life.Unwritten (types.Atom (at 0 1 48) atom_word.Int sign.Unwritten) (declarator (name (at 0 1 52) "t") None None ∷ []) ∷ []) (stmts.Statement (at 0 1 55) None (blocking (target (at 0 1 55) "t") None (stmts.Value (plain (at 0 1 59) "a"))) ∷ stmts.Statement (at 0 1 62) None (blocking (target (at 0 1 62) "a") None (stmts.Value (plain (at 0 1 66) "b"))) ∷ stmts.Statement (at 0 1 69) None (blocking (target (at 0 1 69) "b") None (stmts.Value (plain (at 0 1 73) "t"))) ∷ []) None) ∷ items.Decl (decl life.Unwritten (types.Atom (at 0 1 84) atom_word.Int sign.Unwritten) (declarator (name (at 0 1 88) "x") None (Some (stmts.Value (number (at 0 1 92) "1"))) ∷ declarator (name (at 0 1 95) "swap") None (Some (stmts.Value (number (at 0 1 102) "2"))) ∷ [])) ∷ procedure (at 0 1 105) procedure_word.Initial (stmts.Statement (at 0 1 113) None (stmts.Block None [] (statements (stmts.Statement (at 0 1 119) None (stmts.Call (tree.Expr.Post (root.Plain (name (at 0 1 119) "swap")) (tree.Call (at 0 1 123) (expressions (plain (at 0 1 124) "x" ∷ plain (at 0 1 127) "y" ∷ [])) tree.NoSuffix))) ∷ stmts.Statement (at 0 1 131) None (stmts.Call (system (at 0 1 131) "$display" (text (at 0 1 140) "%0d %0d" ∷ plain (at 0 1 151) "x" ∷ plain (at 0 1 154) "y" ∷ []))) ∷ [])) None)) ∷ []) None ∷ []

t12_broken : broken t12 [] None ≡ Some (fault 5 0 1 95)
unfolding symbols_of word_of
t12_broken = refl

-- module t; int i; task automatic w(output int x); i = 1; x <= 5; endtask int a[2]; initial begin w(a[i]); $display("%0d %0d", a[0], a[1]); end endmodule
abbrev t13 : List Description
t13 = module_ (at 0 1 1) life.Unwritten (name (at 0 1 8) "t") None [] (items.Decl (decl life.Unwritten (types.Atom (at 0 1 11) atom_word.Int sign.Unwritten) (declarator (name (at 0 1 15) "i") None None ∷ [])) ∷ items.Routine (routine (head (at 0 1 18) life.Automatic units.Task (name (at 0 1 33) "w") (argument (Some direction.Output) (types.Written (types.Atom (at 0 1 42) atom_word.Int sign.Unwritten)) (name (at 0 1 46) "x") None ∷ [])) [] (stmts.Statement (at 0 1 50) None (blocking (target (at 0 1 50) "i") None (stmts.Value (number (at 0 1 54) "1"))) ∷ stmts.Statement (at 0 1 57) None (nonblocking (target (at 0 1 57) "x") None (number (at 0 1 62) "5")) ∷ []) None) ∷ items.Decl (decl life.Unwritten (types.Atom (at 0 1 73) atom_word.Int sign.Unwritten) (declarator (name (at 0 1 77) "a") (Some (stmts.Size (at 0 1 78) (number (at 0 1 79) "2"))) None ∷ [])) ∷ procedure (at 0 1 83) procedure_word.Initial (stmts.Statement (at 0 1 91) None (stmts.Block None [] (statements (stmts.Statement (at 0 1 97) None (stmts.Call (tree.Expr.Post (root.Plain (name (at 0 1 97) "w")) (tree.Call (at 0 1 98) (expressions (tree.Expr.Post (root.Plain (name (at 0 1 99) "a")) (tree.Select (at 0 1 100) (plain (at 0 1 101) "i") tree.NoSuffix) ∷ [])) tree.NoSuffix))) ∷ stmts.Statement (at 0 1 106) None (stmts.Call (system (at 0 1 106) "$display" (text (at 0 1 115) "%0d %0d" ∷ tree.Expr.Post (root.Plain (name (at 0 1 126) "a")) (tree.Select (at 0 1 127) (number (at 0 1 128) "0") tree.NoSuffix) ∷ tree.Expr.Post (root.Plain (name (at 0 1 132) "a")) (tree.Select (at 0 1 133) (number (at 0 1 134) "1") tree.NoSuffix) ∷ []))) ∷ [])) None)) ∷ []) None ∷ []

t13_broken : broken t13 [] None ≡ Some (fault 26 0 1 57)
unfolding symbols_of word_of
t13_broken = refl

-- module t; int i; task automatic w(output int x); i = 1; x = 5; endtask int a[2]; initial begin w(a[a]); $display("%0d %0d", a[0], a[1]); end endmodule
abbrev t14 : List Description
t14 = module_ (at 0 1 1) life.Unwritten (name (at 0 1 8) "t") None [] (items.Decl (decl life.Unwritten (types.Atom (at 0 1 11) atom_word.Int sign.Unwritten) (declarator (name (at 0 1 15) "i") None None ∷ [])) ∷ items.Routine (routine (head (at 0 1 18) life.Automatic units.Task (name (at 0 1 33) "w") (argument (Some direction.Output) (types.Written (types.Atom (at 0 1 42) atom_word.Int sign.Unwritten)) (name (at 0 1 46) "x") None ∷ [])) [] (stmts.Statement (at 0 1 50) None (blocking (target (at 0 1 50) "i") None (stmts.Value (number (at 0 1 54) "1"))) ∷ stmts.Statement (at 0 1 57) None (blocking (target (at 0 1 57) "x") None (stmts.Value (number (at 0 1 61) "5"))) ∷ []) None) ∷ items.Decl (decl life.Unwritten (types.Atom (at 0 1 72) atom_word.Int sign.Unwritten) (declarator (name (at 0 1 76) "a") (Some (stmts.Size (at 0 1 77) (number (at 0 1 78) "2"))) None ∷ [])) ∷ procedure (at 0 1 82) procedure_word.Initial (stmts.Statement (at 0 1 90) None (stmts.Block None [] (statements (stmts.Statement (at 0 1 96) None (stmts.Call (tree.Expr.Post (root.Plain (name (at 0 1 96) "w")) (tree.Call (at 0 1 97) (expressions (tree.Expr.Post (root.Plain (name (at 0 1 98) "a")) (tree.Select (at 0 1 99) (plain (at 0 1 100) "a") tree.NoSuffix) ∷ [])) tree.NoSuffix))) ∷ stmts.Statement (at 0 1 105) None (stmts.Call (system (at 0 1 105) "$display" (text (at 0 1 114) "%0d %0d" ∷ tree.Expr.Post (root.Plain (name (at 0 1 125) "a")) (tree.Select (at 0 1 126) (number (at 0 1 127) "0") tree.NoSuffix) ∷ tree.Expr.Post (root.Plain (name (at 0 1 131) "a")) (tree.Select (at 0 1 132) (number (at 0 1 133) "1") tree.NoSuffix) ∷ []))) ∷ [])) None)) ∷ []) None ∷ []

t14_broken : broken t14 [] None ≡ Some (fault 42 0 1 100)
unfolding symbols_of word_of
t14_broken = refl

-- module t; int i; task automatic w(output int x); i = 1; x = 5; endtask int a[2]; initial begin w(a[i]); $display("%0d %0d", a[0], a[null]); end endmodule
abbrev t15 : List Description
t15 = module_ (at 0 1 1) life.Unwritten (name (at 0 1 8) "t") None [] (items.Decl (decl life.Unwritten (types.Atom (at 0 1 11) atom_word.Int sign.Unwritten) (declarator (name (at 0 1 15) "i") None None ∷ [])) ∷ items.Routine (routine (head (at 0 1 18) life.Automatic units.Task (name (at 0 1 33) "w") (argument (Some direction.Output) (types.Written (types.Atom (at 0 1 42) atom_word.Int sign.Unwritten)) (name (at 0 1 46) "x") None ∷ [])) [] (stmts.Statement (at 0 1 50) None (blocking (target (at 0 1 50) "i") None (stmts.Value (number (at 0 1 54) "1"))) ∷ stmts.Statement (at 0 1 57) None (blocking (target (at 0 1 57) "x") None (stmts.Value (number (at 0 1 61) "5"))) ∷ []) None) ∷ items.Decl (decl life.Unwritten (types.Atom (at 0 1 72) atom_word.Int sign.Unwritten) (declarator (name (at 0 1 76) "a") (Some (stmts.Size (at 0 1 77) (number (at 0 1 78) "2"))) None ∷ [])) ∷ procedure (at 0 1 82) procedure_word.Initial (stmts.Statement (at 0 1 90) None (stmts.Block None [] (statements (stmts.Statement (at 0 1 96) None (stmts.Call (tree.Expr.Post (root.Plain (name (at 0 1 96) "w")) (tree.Call (at 0 1 97) (expressions (tree.Expr.Post (root.Plain (name (at 0 1 98) "a")) (tree.Select (at 0 1 99) (plain (at 0 1 100) "i") tree.NoSuffix) ∷ [])) tree.NoSuffix))) ∷ stmts.Statement (at 0 1 105) None (stmts.Call (system (at 0 1 105) "$display" (text (at 0 1 114) "%0d %0d" ∷ tree.Expr.Post (root.Plain (name (at 0 1 125) "a")) (tree.Select (at 0 1 126) (number (at 0 1 127) "0") tree.NoSuffix) ∷ tree.Expr.Post (root.Plain (name (at 0 1 131) "a")) (tree.Select (at 0 1 132) (tree.Null (at 0 1 133)) tree.NoSuffix) ∷ []))) ∷ [])) None)) ∷ []) None ∷ []

t15_broken : broken t15 [] None ≡ Some (fault 42 0 1 133)
unfolding symbols_of word_of
t15_broken = refl

-- module t; int i; task automatic w(output int x); i = 1; a = 5; endtask int a[2]; initial begin w(a[i]); $display("%0d %0d", a[0], a[1]); end endmodule
abbrev t16 : List Description
t16 = module_ (at 0 1 1) life.Unwritten (name (at 0 1 8) "t") None [] (items.Decl (decl life.Unwritten (types.Atom (at 0 1 11) atom_word.Int sign.Unwritten) (declarator (name (at 0 1 15) "i") None None ∷ [])) ∷ items.Routine (routine (head (at 0 1 18) life.Automatic units.Task (name (at 0 1 33) "w") (argument (Some direction.Output) (types.Written (types.Atom (at 0 1 42) atom_word.Int sign.Unwritten)) (name (at 0 1 46) "x") None ∷ [])) [] (stmts.Statement (at 0 1 50) None (blocking (target (at 0 1 50) "i") None (stmts.Value (number (at 0 1 54) "1"))) ∷ stmts.Statement (at 0 1 57) None (blocking (target (at 0 1 57) "a") None (stmts.Value (number (at 0 1 61) "5"))) ∷ []) None) ∷ items.Decl (decl life.Unwritten (types.Atom (at 0 1 72) atom_word.Int sign.Unwritten) (declarator (name (at 0 1 76) "a") (Some (stmts.Size (at 0 1 77) (number (at 0 1 78) "2"))) None ∷ [])) ∷ procedure (at 0 1 82) procedure_word.Initial (stmts.Statement (at 0 1 90) None (stmts.Block None [] (statements (stmts.Statement (at 0 1 96) None (stmts.Call (tree.Expr.Post (root.Plain (name (at 0 1 96) "w")) (tree.Call (at 0 1 97) (expressions (tree.Expr.Post (root.Plain (name (at 0 1 98) "a")) (tree.Select (at 0 1 99) (plain (at 0 1 100) "i") tree.NoSuffix) ∷ [])) tree.NoSuffix))) ∷ stmts.Statement (at 0 1 105) None (stmts.Call (system (at 0 1 105) "$display" (text (at 0 1 114) "%0d %0d" ∷ tree.Expr.Post (root.Plain (name (at 0 1 125) "a")) (tree.Select (at 0 1 126) (number (at 0 1 127) "0") tree.NoSuffix) ∷ tree.Expr.Post (root.Plain (name (at 0 1 131) "a")) (tree.Select (at 0 1 132) (number (at 0 1 133) "1") tree.NoSuffix) ∷ []))) ∷ [])) None)) ∷ []) None ∷ []

t16_broken : broken t16 [] None ≡ Some (fault 42 0 1 57)
unfolding symbols_of word_of
t16_broken = refl

-- typedef logic [3:70] nib; parameter int K = 5; function automatic nib add(nib a, nib b); return a + b + K; endfunction module t; nib x; initial begin x = add(3, 4); $display("%0d", x); end endmodule
abbrev t17 : List Description
t17 = descriptions.Item (items.Typedef (typedef (types.WrittenType.Vector (at 0 1 9) vector_word.Logic sign.Unwritten (Some (range (at 0 1 15) (number (at 0 1 16) "3") (number (at 0 1 18) "70")))) (name (at 0 1 22) "nib"))) ∷ descriptions.Item (items.Param (param param_word.Parameter (types.Written (types.Atom (at 0 1 37) atom_word.Int sign.Unwritten)) (value (name (at 0 1 41) "K") (number (at 0 1 45) "5") ∷ []))) ∷ descriptions.Item (items.Routine (routine (head (at 0 1 48) life.Automatic (units.Returns.Value (types.Written (types.Named (name (at 0 1 67) "nib")))) (name (at 0 1 71) "add") (argument None (types.Written (types.Named (name (at 0 1 75) "nib"))) (name (at 0 1 79) "a") None ∷ argument None (types.Written (types.Named (name (at 0 1 82) "nib"))) (name (at 0 1 86) "b") None ∷ [])) [] (stmts.Statement (at 0 1 90) None (stmts.Return (Some (tree.Binary binary_word.Plus (at 0 1 103) (tree.Binary binary_word.Plus (at 0 1 99) (plain (at 0 1 97) "a") (plain (at 0 1 101) "b")) (plain (at 0 1 105) "K")))) ∷ []) None)) ∷ module_ (at 0 1 120) life.Unwritten (name (at 0 1 127) "t") None [] (items.Decl (decl life.Unwritten (types.Named (name (at 0 1 130) "nib")) (declarator (name (at 0 1 134) "x") None None ∷ [])) ∷ procedure (at 0 1 137) procedure_word.Initial (stmts.Statement (at 0 1 145) None (stmts.Block None [] (statements (stmts.Statement (at 0 1 151) None (blocking (target (at 0 1 151) "x") None (stmts.Value (tree.Expr.Post (root.Plain (name (at 0 1 155) "add")) (tree.Call (at 0 1 158) (expressions (number (at 0 1 159) "3" ∷ number (at 0 1 162) "4" ∷ [])) tree.NoSuffix)))) ∷ stmts.Statement (at 0 1 166) None (stmts.Call (system (at 0 1 166) "$display" (text (at 0 1 175) "%0d" ∷ plain (at 0 1 182) "x" ∷ []))) ∷ [])) None)) ∷ []) None ∷ []

t17_broken : broken t17 [] None ≡ Some (fault 13 0 1 15)
unfolding symbols_of word_of
t17_broken = refl

-- module t; int unsigned d[] = new[3]; endmodule
abbrev t18 : List Description
t18 = module_ (at 0 1 1) life.Unwritten (name (at 0 1 8) "t") None [] (items.Decl (decl life.Unwritten (types.Atom (at 0 1 11) atom_word.Int sign.Unsigned) (declarator (name (at 0 1 24) "d") (Some (stmts.Empty (at 0 1 25))) (Some (stmts.Array (at 0 1 30) (number (at 0 1 34) "3") None)) ∷ [])) ∷ []) None ∷ []

t18_broken : broken t18 [] None ≡ Some (fault 25 0 1 30)
unfolding symbols_of word_of
t18_broken = refl

-- module t; int d[] = new["s"]; endmodule
abbrev t19 : List Description
t19 = module_ (at 0 1 1) life.Unwritten (name (at 0 1 8) "t") None [] (items.Decl (decl life.Unwritten (types.Atom (at 0 1 11) atom_word.Int sign.Unwritten) (declarator (name (at 0 1 15) "d") (Some (stmts.Empty (at 0 1 16))) (Some (stmts.Array (at 0 1 21) (text (at 0 1 25) "s") None)) ∷ [])) ∷ []) None ∷ []

t19_broken : broken t19 [] None ≡ Some (fault 25 0 1 21)
unfolding symbols_of word_of
t19_broken = refl

-- module t; function  f(); return 1; endfunction int x; initial x = 1 && f(); endmodule
abbrev t20 : List Description
t20 = module_ (at 0 1 1) life.Unwritten (name (at 0 1 8) "t") None [] (items.Routine (routine (head (at 0 1 11) life.Unwritten (units.Returns.Value types.Unwritten) (name (at 0 1 21) "f") []) [] (stmts.Statement (at 0 1 26) None (stmts.Return (Some (number (at 0 1 33) "1"))) ∷ []) None) ∷ items.Decl (decl life.Unwritten (types.Atom (at 0 1 48) atom_word.Int sign.Unwritten) (declarator (name (at 0 1 52) "x") None None ∷ [])) ∷ procedure (at 0 1 55) procedure_word.Initial (stmts.Statement (at 0 1 63) None (blocking (target (at 0 1 63) "x") None (stmts.Value (tree.Binary binary_word.LogicalAnd (at 0 1 69) (number (at 0 1 67) "1") (tree.Expr.Post (root.Plain (name (at 0 1 72) "f")) (tree.Call (at 0 1 73) tree.NoExpr tree.NoSuffix)))))) ∷ []) None ∷ []

t20_broken : broken t20 [] None ≡ Some (fault 24 0 1 72)
unfolding symbols_of word_of
t20_broken = refl

-- module t; function int f(); return 1; endfunction int x; initial x = x ? f() : '1; endmodule
abbrev t21 : List Description
t21 = module_ (at 0 1 1) life.Unwritten (name (at 0 1 8) "t") None [] (items.Routine (routine (head (at 0 1 11) life.Unwritten (units.Returns.Value (types.Written (types.Atom (at 0 1 20) atom_word.Int sign.Unwritten))) (name (at 0 1 24) "f") []) [] (stmts.Statement (at 0 1 29) None (stmts.Return (Some (number (at 0 1 36) "1"))) ∷ []) None) ∷ items.Decl (decl life.Unwritten (types.Atom (at 0 1 51) atom_word.Int sign.Unwritten) (declarator (name (at 0 1 55) "x") None None ∷ [])) ∷ procedure (at 0 1 58) procedure_word.Initial (stmts.Statement (at 0 1 66) None (blocking (target (at 0 1 66) "x") None (stmts.Value (tree.Choose (plain (at 0 1 70) "x") (tree.Expr.Post (root.Plain (name (at 0 1 74) "f")) (tree.Call (at 0 1 75) tree.NoExpr tree.NoSuffix)) (number (at 0 1 80) "'1"))))) ∷ []) None ∷ []

t21_broken : broken t21 [] None ≡ Some (fault 24 0 1 74)
unfolding symbols_of word_of
t21_broken = refl

-- module t; logic q[$], x; initial x = 1 || q.pop_back(); endmodule
abbrev t22 : List Description
t22 = module_ (at 0 1 1) life.Unwritten (name (at 0 1 8) "t") None [] (items.Decl (decl life.Unwritten (types.WrittenType.Vector (at 0 1 11) vector_word.Logic sign.Unwritten None) (declarator (name (at 0 1 17) "q") (Some (stmts.Queue (at 0 1 18))) None ∷ declarator (name (at 0 1 23) "x") None None ∷ [])) ∷ procedure (at 0 1 26) procedure_word.Initial (stmts.Statement (at 0 1 34) None (blocking (target (at 0 1 34) "x") None (stmts.Value (tree.Binary binary_word.LogicalOr (at 0 1 40) (number (at 0 1 38) "1") (tree.Expr.Post (root.Plain (name (at 0 1 43) "q")) (tree.Member (name (at 0 1 45) "pop_back") (tree.Call (at 0 1 53) tree.NoExpr tree.NoSuffix))))))) ∷ []) None ∷ []

t22_broken : broken t22 [] None ≡ Some (fault 24 0 1 43)
unfolding symbols_of word_of
t22_broken = refl

-- module t; byte q[$], x; initial x = 1 || q.pop_back(); endmodule
abbrev t23 : List Description
t23 = module_ (at 0 1 1) life.Unwritten (name (at 0 1 8) "t") None [] (items.Decl (decl life.Unwritten (types.Atom (at 0 1 11) atom_word.Byte sign.Unwritten) (declarator (name (at 0 1 16) "q") (Some (stmts.Queue (at 0 1 17))) None ∷ declarator (name (at 0 1 22) "x") None None ∷ [])) ∷ procedure (at 0 1 25) procedure_word.Initial (stmts.Statement (at 0 1 33) None (blocking (target (at 0 1 33) "x") None (stmts.Value (tree.Binary binary_word.LogicalOr (at 0 1 39) (number (at 0 1 37) "1") (tree.Expr.Post (root.Plain (name (at 0 1 42) "q")) (tree.Member (name (at 0 1 44) "pop_back") (tree.Call (at 0 1 52) tree.NoExpr tree.NoSuffix))))))) ∷ []) None ∷ []

t23_broken : broken t23 [] None ≡ Some (fault 24 0 1 42)
unfolding symbols_of word_of
t23_broken = refl

-- module t; int q[$], x; initial x = 70 || q.pop_back(); endmodule
abbrev t24 : List Description
t24 = module_ (at 0 1 1) life.Unwritten (name (at 0 1 8) "t") None [] (items.Decl (decl life.Unwritten (types.Atom (at 0 1 11) atom_word.Int sign.Unwritten) (declarator (name (at 0 1 15) "q") (Some (stmts.Queue (at 0 1 16))) None ∷ declarator (name (at 0 1 21) "x") None None ∷ [])) ∷ procedure (at 0 1 24) procedure_word.Initial (stmts.Statement (at 0 1 32) None (blocking (target (at 0 1 32) "x") None (stmts.Value (tree.Binary binary_word.LogicalOr (at 0 1 39) (number (at 0 1 36) "70") (tree.Expr.Post (root.Plain (name (at 0 1 42) "q")) (tree.Member (name (at 0 1 44) "pop_back") (tree.Call (at 0 1 52) tree.NoExpr tree.NoSuffix))))))) ∷ []) None ∷ []

t24_broken : broken t24 [] None ≡ Some (fault 24 0 1 42)
unfolding symbols_of word_of
t24_broken = refl

-- module t; ; function int f(); return 1; endfunction initial wait (f()) ; endmodule
abbrev t25 : List Description
t25 = module_ (at 0 1 1) life.Unwritten (name (at 0 1 8) "t") None [] (items.Null ∷ items.Routine (routine (head (at 0 1 13) life.Unwritten (units.Returns.Value (types.Written (types.Atom (at 0 1 22) atom_word.Int sign.Unwritten))) (name (at 0 1 26) "f") []) [] (stmts.Statement (at 0 1 31) None (stmts.Return (Some (number (at 0 1 38) "1"))) ∷ []) None) ∷ procedure (at 0 1 53) procedure_word.Initial (stmts.Statement (at 0 1 61) None (stmts.Wait (at 0 1 61) (tree.Expr.Post (root.Plain (name (at 0 1 67) "f")) (tree.Call (at 0 1 68) tree.NoExpr tree.NoSuffix)) (stmts.Statement (at 0 1 72) None stmts.Null))) ∷ []) None ∷ []

t25_broken : broken t25 [] None ≡ Some (fault 25 0 1 67)
unfolding symbols_of word_of
t25_broken = refl

-- module t; function int f(); return 8'hff; endfunction int x = f(); endmodule
abbrev t26 : List Description
t26 = module_ (at 0 1 1) life.Unwritten (name (at 0 1 8) "t") None [] (items.Routine (routine (head (at 0 1 11) life.Unwritten (units.Returns.Value (types.Written (types.Atom (at 0 1 20) atom_word.Int sign.Unwritten))) (name (at 0 1 24) "f") []) [] (stmts.Statement (at 0 1 29) None (stmts.Return (Some (number (at 0 1 36) "8'hff"))) ∷ []) None) ∷ items.Decl (decl life.Unwritten (types.Atom (at 0 1 55) atom_word.Int sign.Unwritten) (declarator (name (at 0 1 59) "x") None (Some (stmts.Value (tree.Expr.Post (root.Plain (name (at 0 1 63) "f")) (tree.Call (at 0 1 64) tree.NoExpr tree.NoSuffix)))) ∷ [])) ∷ []) None ∷ []

t26_broken : broken t26 [] None ≡ Some (fault 25 0 1 63)
unfolding symbols_of word_of
t26_broken = refl

-- module t; function int f(); return x; endfunction int x = f(); endmodule
abbrev t27 : List Description
t27 = module_ (at 0 1 1) life.Unwritten (name (at 0 1 8) "t") None [] (items.Routine (routine (head (at 0 1 11) life.Unwritten (units.Returns.Value (types.Written (types.Atom (at 0 1 20) atom_word.Int sign.Unwritten))) (name (at 0 1 24) "f") []) [] (stmts.Statement (at 0 1 29) None (stmts.Return (Some (plain (at 0 1 36) "x"))) ∷ []) None) ∷ items.Decl (decl life.Unwritten (types.Atom (at 0 1 51) atom_word.Int sign.Unwritten) (declarator (name (at 0 1 55) "x") None (Some (stmts.Value (tree.Expr.Post (root.Plain (name (at 0 1 59) "f")) (tree.Call (at 0 1 60) tree.NoExpr tree.NoSuffix)))) ∷ [])) ∷ []) None ∷ []

t27_broken : broken t27 [] None ≡ Some (fault 25 0 1 59)
unfolding symbols_of word_of
t27_broken = refl

-- module t; initial begin automatic int k; k <= '1; end endmodule
abbrev t28 : List Description
t28 = module_ (at 0 1 1) life.Unwritten (name (at 0 1 8) "t") None [] (procedure (at 0 1 11) procedure_word.Initial (stmts.Statement (at 0 1 19) None (stmts.Block None (decl life.Automatic (types.Atom (at 0 1 35) atom_word.Int sign.Unwritten) (declarator (name (at 0 1 39) "k") None None ∷ []) ∷ []) (statements (stmts.Statement (at 0 1 42) None (nonblocking (target (at 0 1 42) "k") None (number (at 0 1 47) "'1")) ∷ [])) None)) ∷ []) None ∷ []

t28_broken : broken t28 [] None ≡ Some (fault 26 0 1 42)
unfolding symbols_of word_of
t28_broken = refl

-- module t; initial begin automatic int k; k <= 70; end endmodule
abbrev t29 : List Description
t29 = module_ (at 0 1 1) life.Unwritten (name (at 0 1 8) "t") None [] (procedure (at 0 1 11) procedure_word.Initial (stmts.Statement (at 0 1 19) None (stmts.Block None (decl life.Automatic (types.Atom (at 0 1 35) atom_word.Int sign.Unwritten) (declarator (name (at 0 1 39) "k") None None ∷ []) ∷ []) (statements (stmts.Statement (at 0 1 42) None (nonblocking (target (at 0 1 42) "k") None (number (at 0 1 47) "70")) ∷ [])) None)) ∷ []) None ∷ []

t29_broken : broken t29 [] None ≡ Some (fault 26 0 1 42)
unfolding symbols_of word_of
t29_broken = refl

-- module t; initial begin automatic string k; k <= 3; end endmodule
abbrev t30 : List Description
t30 = module_ (at 0 1 1) life.Unwritten (name (at 0 1 8) "t") None [] (procedure (at 0 1 11) procedure_word.Initial (stmts.Statement (at 0 1 19) None (stmts.Block None (decl life.Automatic (types.Text (at 0 1 35)) (declarator (name (at 0 1 42) "k") None None ∷ []) ∷ []) (statements (stmts.Statement (at 0 1 45) None (nonblocking (target (at 0 1 45) "k") None (number (at 0 1 50) "3")) ∷ [])) None)) ∷ []) None ∷ []

t30_broken : broken t30 [] None ≡ Some (fault 26 0 1 45)
unfolding symbols_of word_of
t30_broken = refl

-- module t; initial begin automatic int k; k <= null; end endmodule
abbrev t31 : List Description
t31 = module_ (at 0 1 1) life.Unwritten (name (at 0 1 8) "t") None [] (procedure (at 0 1 11) procedure_word.Initial (stmts.Statement (at 0 1 19) None (stmts.Block None (decl life.Automatic (types.Atom (at 0 1 35) atom_word.Int sign.Unwritten) (declarator (name (at 0 1 39) "k") None None ∷ []) ∷ []) (statements (stmts.Statement (at 0 1 42) None (nonblocking (target (at 0 1 42) "k") None (tree.Null (at 0 1 47))) ∷ [])) None)) ∷ []) None ∷ []

t31_broken : broken t31 [] None ≡ Some (fault 26 0 1 42)
unfolding symbols_of word_of
t31_broken = refl

-- module t; class A; int x; endclass A a; initial a.x <= 70; endmodule
abbrev t32 : List Description
t32 = module_ (at 0 1 1) life.Unwritten (name (at 0 1 8) "t") None [] (items.Class (class_ (at 0 1 11) false (name (at 0 1 17) "A") None (property unqualified (decl life.Unwritten (types.Atom (at 0 1 20) atom_word.Int sign.Unwritten) (declarator (name (at 0 1 24) "x") None None ∷ [])) ∷ []) None) ∷ items.Decl (decl life.Unwritten (types.Named (name (at 0 1 36) "A")) (declarator (name (at 0 1 38) "a") None None ∷ [])) ∷ procedure (at 0 1 41) procedure_word.Initial (stmts.Statement (at 0 1 49) None (nonblocking (tree.Lval.Post (root.Plain (name (at 0 1 49) "a")) (tree.Member (name (at 0 1 51) "x") tree.NoSuffix)) None (number (at 0 1 56) "70"))) ∷ []) None ∷ []

t32_broken : broken t32 [] None ≡ Some (fault 26 0 1 49)
unfolding symbols_of word_of
t32_broken = refl

-- module A; class A; int x; endclass A a; initial a.x <= 1; endmodule
abbrev t33 : List Description
t33 = module_ (at 0 1 1) life.Unwritten (name (at 0 1 8) "A") None [] (items.Class (class_ (at 0 1 11) false (name (at 0 1 17) "A") None (property unqualified (decl life.Unwritten (types.Atom (at 0 1 20) atom_word.Int sign.Unwritten) (declarator (name (at 0 1 24) "x") None None ∷ [])) ∷ []) None) ∷ items.Decl (decl life.Unwritten (types.Named (name (at 0 1 36) "A")) (declarator (name (at 0 1 38) "a") None None ∷ [])) ∷ procedure (at 0 1 41) procedure_word.Initial (stmts.Statement (at 0 1 49) None (nonblocking (tree.Lval.Post (root.Plain (name (at 0 1 49) "a")) (tree.Member (name (at 0 1 51) "x") tree.NoSuffix)) None (number (at 0 1 56) "1"))) ∷ []) None ∷ []

t33_broken : broken t33 [] None ≡ Some (fault 26 0 1 49)
unfolding symbols_of word_of
t33_broken = refl

-- module zz; class A; static int x; endclass initial A::x <= 1; endmodule
abbrev t34 : List Description
t34 = module_ (at 0 1 1) life.Unwritten (name (at 0 1 8) "zz") None [] (items.Class (class_ (at 0 1 12) false (name (at 0 1 18) "A") None (property (qualifiers false false true false) (decl life.Unwritten (types.Atom (at 0 1 28) atom_word.Int sign.Unwritten) (declarator (name (at 0 1 32) "x") None None ∷ [])) ∷ []) None) ∷ procedure (at 0 1 44) procedure_word.Initial (stmts.Statement (at 0 1 52) None (nonblocking (tree.Lval.Post (root.Scoped (name (at 0 1 52) "A") (name (at 0 1 55) "x")) tree.NoSuffix) None (number (at 0 1 60) "1"))) ∷ []) None ∷ []

t34_broken : broken t34 [] None ≡ Some (fault 26 0 1 52)
unfolding symbols_of word_of
t34_broken = refl

-- module zz; initial begin automatic int k; $monitor("%d", k); end endmodule
abbrev t35 : List Description
t35 = module_ (at 0 1 1) life.Unwritten (name (at 0 1 8) "zz") None [] (procedure (at 0 1 12) procedure_word.Initial (stmts.Statement (at 0 1 20) None (stmts.Block None (decl life.Automatic (types.Atom (at 0 1 36) atom_word.Int sign.Unwritten) (declarator (name (at 0 1 40) "k") None None ∷ []) ∷ []) (statements (stmts.Statement (at 0 1 43) None (stmts.Call (system (at 0 1 43) "$monitor" (text (at 0 1 52) "%d" ∷ plain (at 0 1 58) "k" ∷ []))) ∷ [])) None)) ∷ []) None ∷ []

t35_broken : broken t35 [] None ≡ Some (fault 51 0 1 58)
unfolding symbols_of word_of
t35_broken = refl

-- module k; initial begin automatic int k; $monitor("%d", k); end endmodule
abbrev t36 : List Description
t36 = module_ (at 0 1 1) life.Unwritten (name (at 0 1 8) "k") None [] (procedure (at 0 1 11) procedure_word.Initial (stmts.Statement (at 0 1 19) None (stmts.Block None (decl life.Automatic (types.Atom (at 0 1 35) atom_word.Int sign.Unwritten) (declarator (name (at 0 1 39) "k") None None ∷ []) ∷ []) (statements (stmts.Statement (at 0 1 42) None (stmts.Call (system (at 0 1 42) "$monitor" (text (at 0 1 51) "%d" ∷ plain (at 0 1 57) "k" ∷ []))) ∷ [])) None)) ∷ []) None ∷ []

t36_broken : broken t36 [] None ≡ Some (fault 51 0 1 57)
unfolding symbols_of word_of
t36_broken = refl

-- module x; class A; int x; endclass A a; initial $strobe("%d", a.x); endmodule
abbrev t37 : List Description
t37 = module_ (at 0 1 1) life.Unwritten (name (at 0 1 8) "x") None [] (items.Class (class_ (at 0 1 11) false (name (at 0 1 17) "A") None (property unqualified (decl life.Unwritten (types.Atom (at 0 1 20) atom_word.Int sign.Unwritten) (declarator (name (at 0 1 24) "x") None None ∷ [])) ∷ []) None) ∷ items.Decl (decl life.Unwritten (types.Named (name (at 0 1 36) "A")) (declarator (name (at 0 1 38) "a") None None ∷ [])) ∷ procedure (at 0 1 41) procedure_word.Initial (stmts.Statement (at 0 1 49) None (stmts.Call (system (at 0 1 49) "$strobe" (text (at 0 1 57) "%d" ∷ tree.Expr.Post (root.Plain (name (at 0 1 63) "a")) (tree.Member (name (at 0 1 65) "x") tree.NoSuffix) ∷ [])))) ∷ []) None ∷ []

t37_broken : broken t37 [] None ≡ Some (fault 51 0 1 65)
unfolding symbols_of word_of
t37_broken = refl

-- module t; function void f(); #70; endfunction endmodule
abbrev t38 : List Description
t38 = module_ (at 0 1 1) life.Unwritten (name (at 0 1 8) "t") None [] (items.Routine (routine (head (at 0 1 11) life.Unwritten units.Void (name (at 0 1 25) "f") []) [] (stmts.Statement (at 0 1 30) None (stmts.After (delay (at 0 1 30) (number (at 0 1 31) "70")) (stmts.Statement (at 0 1 33) None stmts.Null)) ∷ []) None) ∷ []) None ∷ []

t38_broken : broken t38 [] None ≡ Some (fault 27 0 1 30)
unfolding symbols_of word_of
t38_broken = refl

-- module a; logic a; always_comb begin a = 1; #1; end endmodule
abbrev t39 : List Description
t39 = module_ (at 0 1 1) life.Unwritten (name (at 0 1 8) "a") None [] (items.Decl (decl life.Unwritten (types.WrittenType.Vector (at 0 1 11) vector_word.Logic sign.Unwritten None) (declarator (name (at 0 1 17) "a") None None ∷ [])) ∷ procedure (at 0 1 20) procedure_word.AlwaysComb (stmts.Statement (at 0 1 32) None (stmts.Block None [] (statements (stmts.Statement (at 0 1 38) None (blocking (target (at 0 1 38) "a") None (stmts.Value (number (at 0 1 42) "1"))) ∷ stmts.Statement (at 0 1 45) None (stmts.After (delay (at 0 1 45) (number (at 0 1 46) "1")) (stmts.Statement (at 0 1 47) None stmts.Null)) ∷ [])) None)) ∷ []) None ∷ []

t39_broken : broken t39 [] None ≡ Some (fault 27 0 1 45)
unfolding symbols_of word_of
t39_broken = refl

-- module t; logic a; always_comb begin a = 1; #0; end endmodule
abbrev t40 : List Description
t40 = module_ (at 0 1 1) life.Unwritten (name (at 0 1 8) "t") None [] (items.Decl (decl life.Unwritten (types.WrittenType.Vector (at 0 1 11) vector_word.Logic sign.Unwritten None) (declarator (name (at 0 1 17) "a") None None ∷ [])) ∷ procedure (at 0 1 20) procedure_word.AlwaysComb (stmts.Statement (at 0 1 32) None (stmts.Block None [] (statements (stmts.Statement (at 0 1 38) None (blocking (target (at 0 1 38) "a") None (stmts.Value (number (at 0 1 42) "1"))) ∷ stmts.Statement (at 0 1 45) None (stmts.After (delay (at 0 1 45) (number (at 0 1 46) "0")) (stmts.Statement (at 0 1 47) None stmts.Null)) ∷ [])) None)) ∷ []) None ∷ []

t40_broken : broken t40 [] None ≡ Some (fault 27 0 1 45)
unfolding symbols_of word_of
t40_broken = refl

-- module zz; logic a; always_comb begin a = 1; #1; end endmodule
abbrev t41 : List Description
t41 = module_ (at 0 1 1) life.Unwritten (name (at 0 1 8) "zz") None [] (items.Decl (decl life.Unwritten (types.WrittenType.Vector (at 0 1 12) vector_word.Logic sign.Unwritten None) (declarator (name (at 0 1 18) "a") None None ∷ [])) ∷ procedure (at 0 1 21) procedure_word.AlwaysComb (stmts.Statement (at 0 1 33) None (stmts.Block None [] (statements (stmts.Statement (at 0 1 39) None (blocking (target (at 0 1 39) "a") None (stmts.Value (number (at 0 1 43) "1"))) ∷ stmts.Statement (at 0 1 46) None (stmts.After (delay (at 0 1 46) (number (at 0 1 47) "1")) (stmts.Statement (at 0 1 48) None stmts.Null)) ∷ [])) None)) ∷ []) None ∷ []

t41_broken : broken t41 [] None ≡ Some (fault 27 0 1 46)
unfolding symbols_of word_of
t41_broken = refl

-- module t; string a; always_comb fork #1; join_none endmodule
abbrev t42 : List Description
t42 = module_ (at 0 1 1) life.Unwritten (name (at 0 1 8) "t") None [] (items.Decl (decl life.Unwritten (types.Text (at 0 1 11)) (declarator (name (at 0 1 18) "a") None None ∷ [])) ∷ procedure (at 0 1 21) procedure_word.AlwaysComb (stmts.Statement (at 0 1 33) None (stmts.Fork None [] (statements (stmts.Statement (at 0 1 38) None (stmts.After (delay (at 0 1 38) (number (at 0 1 39) "1")) (stmts.Statement (at 0 1 40) None stmts.Null)) ∷ [])) join_word.None None)) ∷ []) None ∷ []

t42_broken : broken t42 [] None ≡ Some (fault 27 0 1 38)
unfolding symbols_of word_of
t42_broken = refl

-- module zz; initial break; endmodule
abbrev t43 : List Description
t43 = module_ (at 0 1 1) life.Unwritten (name (at 0 1 8) "zz") None [] (procedure (at 0 1 12) procedure_word.Initial (stmts.Statement (at 0 1 20) None stmts.Break) ∷ []) None ∷ []

t43_broken : broken t43 [] None ≡ Some (fault 29 0 1 20)
unfolding symbols_of word_of
t43_broken = refl

-- module t; initial while (1) fork return; join endmodule
abbrev t44 : List Description
t44 = module_ (at 0 1 1) life.Unwritten (name (at 0 1 8) "t") None [] (procedure (at 0 1 11) procedure_word.Initial (stmts.Statement (at 0 1 19) None (stmts.While (number (at 0 1 26) "1") (stmts.Statement (at 0 1 29) None (stmts.Fork None [] (statements (stmts.Statement (at 0 1 34) None (stmts.Return None) ∷ [])) join_word.All None)))) ∷ []) None ∷ []

t44_broken : broken t44 [] None ≡ Some (fault 29 0 1 34)
unfolding symbols_of word_of
t44_broken = refl

-- module t; initial while (8'hff) fork break; join endmodule
abbrev t45 : List Description
t45 = module_ (at 0 1 1) life.Unwritten (name (at 0 1 8) "t") None [] (procedure (at 0 1 11) procedure_word.Initial (stmts.Statement (at 0 1 19) None (stmts.While (number (at 0 1 26) "8'hff") (stmts.Statement (at 0 1 33) None (stmts.Fork None [] (statements (stmts.Statement (at 0 1 38) None stmts.Break ∷ [])) join_word.All None)))) ∷ []) None ∷ []

t45_broken : broken t45 [] None ≡ Some (fault 29 0 1 38)
unfolding symbols_of word_of
t45_broken = refl

-- module t; function int t(); fork return 1; join_none endfunction endmodule
abbrev t46 : List Description
t46 = module_ (at 0 1 1) life.Unwritten (name (at 0 1 8) "t") None [] (items.Routine (routine (head (at 0 1 11) life.Unwritten (units.Returns.Value (types.Written (types.Atom (at 0 1 20) atom_word.Int sign.Unwritten))) (name (at 0 1 24) "t") []) [] (stmts.Statement (at 0 1 29) None (stmts.Fork None [] (statements (stmts.Statement (at 0 1 34) None (stmts.Return (Some (number (at 0 1 41) "1"))) ∷ [])) join_word.None None) ∷ []) None) ∷ []) None ∷ []

t46_broken : broken t46 [] None ≡ Some (fault 29 0 1 34)
unfolding symbols_of word_of
t46_broken = refl

-- module zz; function int f(); fork return 1; join_none endfunction endmodule
abbrev t47 : List Description
t47 = module_ (at 0 1 1) life.Unwritten (name (at 0 1 8) "zz") None [] (items.Routine (routine (head (at 0 1 12) life.Unwritten (units.Returns.Value (types.Written (types.Atom (at 0 1 21) atom_word.Int sign.Unwritten))) (name (at 0 1 25) "f") []) [] (stmts.Statement (at 0 1 30) None (stmts.Fork None [] (statements (stmts.Statement (at 0 1 35) None (stmts.Return (Some (number (at 0 1 42) "1"))) ∷ [])) join_word.None None) ∷ []) None) ∷ []) None ∷ []

t47_broken : broken t47 [] None ≡ Some (fault 29 0 1 35)
unfolding symbols_of word_of
t47_broken = refl

-- module t; function byte f(); fork return 1; join_none endfunction endmodule
abbrev t48 : List Description
t48 = module_ (at 0 1 1) life.Unwritten (name (at 0 1 8) "t") None [] (items.Routine (routine (head (at 0 1 11) life.Unwritten (units.Returns.Value (types.Written (types.Atom (at 0 1 20) atom_word.Byte sign.Unwritten))) (name (at 0 1 25) "f") []) [] (stmts.Statement (at 0 1 30) None (stmts.Fork None [] (statements (stmts.Statement (at 0 1 35) None (stmts.Return (Some (number (at 0 1 42) "1"))) ∷ [])) join_word.None None) ∷ []) None) ∷ []) None ∷ []

t48_broken : broken t48 [] None ≡ Some (fault 29 0 1 35)
unfolding symbols_of word_of
t48_broken = refl

-- module t; function int t(); return; endfunction endmodule
abbrev t49 : List Description
t49 = module_ (at 0 1 1) life.Unwritten (name (at 0 1 8) "t") None [] (items.Routine (routine (head (at 0 1 11) life.Unwritten (units.Returns.Value (types.Written (types.Atom (at 0 1 20) atom_word.Int sign.Unwritten))) (name (at 0 1 24) "t") []) [] (stmts.Statement (at 0 1 29) None (stmts.Return None) ∷ []) None) ∷ []) None ∷ []

t49_broken : broken t49 [] None ≡ Some (fault 30 0 1 29)
unfolding symbols_of word_of
t49_broken = refl

-- module t; function void f(); return 0; endfunction endmodule
abbrev t50 : List Description
t50 = module_ (at 0 1 1) life.Unwritten (name (at 0 1 8) "t") None [] (items.Routine (routine (head (at 0 1 11) life.Unwritten units.Void (name (at 0 1 25) "f") []) [] (stmts.Statement (at 0 1 30) None (stmts.Return (Some (number (at 0 1 37) "0"))) ∷ []) None) ∷ []) None ∷ []

t50_broken : broken t50 [] None ≡ Some (fault 30 0 1 30)
unfolding symbols_of word_of
t50_broken = refl

-- module t; function int zz(int a = x); return a; endfunction int x; endmodule
abbrev t51 : List Description
t51 = module_ (at 0 1 1) life.Unwritten (name (at 0 1 8) "t") None [] (items.Routine (routine (head (at 0 1 11) life.Unwritten (units.Returns.Value (types.Written (types.Atom (at 0 1 20) atom_word.Int sign.Unwritten))) (name (at 0 1 24) "zz") (argument None (types.Written (types.Atom (at 0 1 27) atom_word.Int sign.Unwritten)) (name (at 0 1 31) "a") (Some (plain (at 0 1 35) "x")) ∷ [])) [] (stmts.Statement (at 0 1 39) None (stmts.Return (Some (plain (at 0 1 46) "a"))) ∷ []) None) ∷ items.Decl (decl life.Unwritten (types.Atom (at 0 1 61) atom_word.Int sign.Unwritten) (declarator (name (at 0 1 65) "x") None None ∷ [])) ∷ []) None ∷ []

t51_broken : broken t51 [] None ≡ Some (fault 11 0 1 35)
unfolding symbols_of word_of
t51_broken = refl

-- module a; function int f(int a = x); return a; endfunction int x; endmodule
abbrev t52 : List Description
t52 = module_ (at 0 1 1) life.Unwritten (name (at 0 1 8) "a") None [] (items.Routine (routine (head (at 0 1 11) life.Unwritten (units.Returns.Value (types.Written (types.Atom (at 0 1 20) atom_word.Int sign.Unwritten))) (name (at 0 1 24) "f") (argument None (types.Written (types.Atom (at 0 1 26) atom_word.Int sign.Unwritten)) (name (at 0 1 30) "a") (Some (plain (at 0 1 34) "x")) ∷ [])) [] (stmts.Statement (at 0 1 38) None (stmts.Return (Some (plain (at 0 1 45) "a"))) ∷ []) None) ∷ items.Decl (decl life.Unwritten (types.Atom (at 0 1 60) atom_word.Int sign.Unwritten) (declarator (name (at 0 1 64) "x") None None ∷ [])) ∷ []) None ∷ []

t52_broken : broken t52 [] None ≡ Some (fault 11 0 1 34)
unfolding symbols_of word_of
t52_broken = refl

-- module t; function void f(); endfunction int x; initial x += f(); endmodule
abbrev t53 : List Description
t53 = module_ (at 0 1 1) life.Unwritten (name (at 0 1 8) "t") None [] (items.Routine (routine (head (at 0 1 11) life.Unwritten units.Void (name (at 0 1 25) "f") []) [] [] None) ∷ items.Decl (decl life.Unwritten (types.Atom (at 0 1 42) atom_word.Int sign.Unwritten) (declarator (name (at 0 1 46) "x") None None ∷ [])) ∷ procedure (at 0 1 49) procedure_word.Initial (stmts.Statement (at 0 1 57) None (stmts.Body.Operator (operated (target (at 0 1 57) "x") binary_word.Plus (tree.Expr.Post (root.Plain (name (at 0 1 62) "f")) (tree.Call (at 0 1 63) tree.NoExpr tree.NoSuffix))))) ∷ []) None ∷ []

t53_broken : broken t53 [] None ≡ Some (fault 32 0 1 62)
unfolding symbols_of word_of
t53_broken = refl

-- module t; function void f(); endfunction int x; initial x <= f(); endmodule
abbrev t54 : List Description
t54 = module_ (at 0 1 1) life.Unwritten (name (at 0 1 8) "t") None [] (items.Routine (routine (head (at 0 1 11) life.Unwritten units.Void (name (at 0 1 25) "f") []) [] [] None) ∷ items.Decl (decl life.Unwritten (types.Atom (at 0 1 42) atom_word.Int sign.Unwritten) (declarator (name (at 0 1 46) "x") None None ∷ [])) ∷ procedure (at 0 1 49) procedure_word.Initial (stmts.Statement (at 0 1 57) None (nonblocking (target (at 0 1 57) "x") None (tree.Expr.Post (root.Plain (name (at 0 1 62) "f")) (tree.Call (at 0 1 63) tree.NoExpr tree.NoSuffix)))) ∷ []) None ∷ []

t54_broken : broken t54 [] None ≡ Some (fault 32 0 1 62)
unfolding symbols_of word_of
t54_broken = refl

-- module t; task w(); endtask int x; initial x += w(); endmodule
abbrev t55 : List Description
t55 = module_ (at 0 1 1) life.Unwritten (name (at 0 1 8) "t") None [] (items.Routine (routine (head (at 0 1 11) life.Unwritten units.Task (name (at 0 1 16) "w") []) [] [] None) ∷ items.Decl (decl life.Unwritten (types.Atom (at 0 1 29) atom_word.Int sign.Unwritten) (declarator (name (at 0 1 33) "x") None None ∷ [])) ∷ procedure (at 0 1 36) procedure_word.Initial (stmts.Statement (at 0 1 44) None (stmts.Body.Operator (operated (target (at 0 1 44) "x") binary_word.Plus (tree.Expr.Post (root.Plain (name (at 0 1 49) "w")) (tree.Call (at 0 1 50) tree.NoExpr tree.NoSuffix))))) ∷ []) None ∷ []

t55_broken : broken t55 [] None ≡ Some (fault 32 0 1 49)
unfolding symbols_of word_of
t55_broken = refl
