-- Arrays and their items, in texts that differ in a word or two from others: the first rule that is broken, or what a run shows.
use Rattle.std.proofs.Common.{◌≡◌, List, [], ◌∷◌, refl}
use Rattle.std.specs.Prelude.{Some, None}
use Rattle.sv_value.specs.Vector.{symbols_of, word_of}
use Rattle.sv_flat.specs.declared.choices.Choices.TheVariants.{Listed}
use Rattle.sv_flat.specs.Directed.{Done}
use Rattle.sv_tree.specs.declared.word.BinaryWord.TheVariants as binary_word
use Rattle.sv_tree.specs.declared.word.PartWord.TheVariants as part_word
use Rattle.sv_tree.specs.declared.word.VectorWord.TheVariants as vector_word
use Rattle.sv_tree.specs.declared.word.AtomWord.TheVariants as atom_word
use Rattle.sv_tree.specs.declared.word.Sign.TheVariants as sign
use Rattle.sv_tree.specs.declared.word.Life.TheVariants as life
use Rattle.sv_tree.specs.declared.word.ProcedureWord.TheVariants as procedure_word
use Rattle.sv_tree.specs.declared.expr.Root.TheVariants as root
use Rattle.sv_tree.specs.Expr as tree
use Rattle.sv_tree.specs.Types as types
use Rattle.sv_tree.specs.Stmt as stmts
use Rattle.sv_tree.specs.Units as units
use Rattle.sv_tree.specs.Items as items
use Rattle.sv_tree.specs.Descriptions.{Description}
use Rattle.sv_names.specs.Design.{broken, elaborated}
use Rattle.sv_names_rows.proofs.Kit.{at, blocking, decl, declarator, enum_item, fault, head, lines, module_, name, nonblocking, number, operated, plain, procedure, range, routine, seen_in, statements, system, target, text, typedef, Ran}

-- module t; initial begin int f[3:null]; f[2] = 5; f[0] = 1; foreach (f[i]) $display("%0d %0d", i, f[i]); end endmodule
abbrev t1 : List Description
t1 = module_ (at 0 1 1) life.Unwritten (name (at 0 1 8) "t") None [] (procedure (at 0 1 11) procedure_word.Initial (stmts.Statement (at 0 1 19) None (stmts.Block None (decl life.Unwritten (types.Atom (at 0 1 25) atom_word.Int sign.Unwritten) (declarator (name (at 0 1 29) "f") (Some (stmts.Bounds (range (at 0 1 30) (number (at 0 1 31) "3") (tree.Null (at 0 1 33))))) None ∷ []) ∷ []) (statements (stmts.Statement (at 0 1 40) None (blocking (tree.Lval.Post (root.Plain (name (at 0 1 40) "f")) (tree.Select (at 0 1 41) (number (at 0 1 42) "2") tree.NoSuffix)) None (stmts.Value (number (at 0 1 47) "5"))) ∷ stmts.Statement (at 0 1 50) None (blocking (tree.Lval.Post (root.Plain (name (at 0 1 50) "f")) (tree.Select (at 0 1 51) (number (at 0 1 52) "0") tree.NoSuffix)) None (stmts.Value (number (at 0 1 57) "1"))) ∷ stmts.Statement (at 0 1 60) None (stmts.Foreach (name (at 0 1 69) "f") (name (at 0 1 71) "i") (stmts.Statement (at 0 1 75) None (stmts.Call (system (at 0 1 75) "$display" (text (at 0 1 84) "%0d %0d" ∷ plain (at 0 1 95) "i" ∷ tree.Expr.Post (root.Plain (name (at 0 1 98) "f")) (tree.Select (at 0 1 99) (plain (at 0 1 100) "i") tree.NoSuffix) ∷ []))))) ∷ [])) None)) ∷ []) None ∷ []

t1_broken : broken t1 [] None ≡ Some (fault 15 0 1 33)
unfolding symbols_of word_of
t1_broken = refl

-- module t; initial begin int f[3:0]; i[2] = 5; f[0] = 1; foreach (f[i]) $display("%0d %0d", i, f[i]); end endmodule
abbrev t2 : List Description
t2 = module_ (at 0 1 1) life.Unwritten (name (at 0 1 8) "t") None [] (procedure (at 0 1 11) procedure_word.Initial (stmts.Statement (at 0 1 19) None (stmts.Block None (decl life.Unwritten (types.Atom (at 0 1 25) atom_word.Int sign.Unwritten) (declarator (name (at 0 1 29) "f") (Some (stmts.Bounds (range (at 0 1 30) (number (at 0 1 31) "3") (number (at 0 1 33) "0")))) None ∷ []) ∷ []) (statements (stmts.Statement (at 0 1 37) None (blocking (tree.Lval.Post (root.Plain (name (at 0 1 37) "i")) (tree.Select (at 0 1 38) (number (at 0 1 39) "2") tree.NoSuffix)) None (stmts.Value (number (at 0 1 44) "5"))) ∷ stmts.Statement (at 0 1 47) None (blocking (tree.Lval.Post (root.Plain (name (at 0 1 47) "f")) (tree.Select (at 0 1 48) (number (at 0 1 49) "0") tree.NoSuffix)) None (stmts.Value (number (at 0 1 54) "1"))) ∷ stmts.Statement (at 0 1 57) None (stmts.Foreach (name (at 0 1 66) "f") (name (at 0 1 68) "i") (stmts.Statement (at 0 1 72) None (stmts.Call (system (at 0 1 72) "$display" (text (at 0 1 81) "%0d %0d" ∷ plain (at 0 1 92) "i" ∷ tree.Expr.Post (root.Plain (name (at 0 1 95) "f")) (tree.Select (at 0 1 96) (plain (at 0 1 97) "i") tree.NoSuffix) ∷ []))))) ∷ [])) None)) ∷ []) None ∷ []

t2_broken : broken t2 [] None ≡ Some (fault 6 0 1 37)
unfolding symbols_of word_of
t2_broken = refl

-- module i; initial begin int f[3:0]; f[2] = 5; f[0] = 1; foreach (f[i]) $display("%0d %0d", i, f[i]); end endmodule
abbrev t3 : List Description
t3 = module_ (at 0 1 1) life.Unwritten (name (at 0 1 8) "i") None [] (procedure (at 0 1 11) procedure_word.Initial (stmts.Statement (at 0 1 19) None (stmts.Block None (decl life.Unwritten (types.Atom (at 0 1 25) atom_word.Int sign.Unwritten) (declarator (name (at 0 1 29) "f") (Some (stmts.Bounds (range (at 0 1 30) (number (at 0 1 31) "3") (number (at 0 1 33) "0")))) None ∷ []) ∷ []) (statements (stmts.Statement (at 0 1 37) None (blocking (tree.Lval.Post (root.Plain (name (at 0 1 37) "f")) (tree.Select (at 0 1 38) (number (at 0 1 39) "2") tree.NoSuffix)) None (stmts.Value (number (at 0 1 44) "5"))) ∷ stmts.Statement (at 0 1 47) None (blocking (tree.Lval.Post (root.Plain (name (at 0 1 47) "f")) (tree.Select (at 0 1 48) (number (at 0 1 49) "0") tree.NoSuffix)) None (stmts.Value (number (at 0 1 54) "1"))) ∷ stmts.Statement (at 0 1 57) None (stmts.Foreach (name (at 0 1 66) "f") (name (at 0 1 68) "i") (stmts.Statement (at 0 1 72) None (stmts.Call (system (at 0 1 72) "$display" (text (at 0 1 81) "%0d %0d" ∷ plain (at 0 1 92) "i" ∷ tree.Expr.Post (root.Plain (name (at 0 1 95) "f")) (tree.Select (at 0 1 96) (plain (at 0 1 97) "i") tree.NoSuffix) ∷ []))))) ∷ [])) None)) ∷ []) None ∷ []

t3_seen : seen_in (Listed []) (Listed []) (elaborated t3 [] None) 18 ≡ Ran (record { log = lines ("3 0" ∷ "2 5" ∷ "1 0" ∷ "0 1" ∷ []); wave = lines ("$timescale 1ns $end" ∷ "$scope module i $end" ∷ "$upscope $end" ∷ "$enddefinitions $end" ∷ "#0" ∷ "$dumpvars" ∷ "$end" ∷ []); outcome = Done; time = 0; steps = 15; race = Some (8, at 0 1 11) })
unfolding symbols_of word_of
t3_seen = refl

-- module t; initial begin int f[3:0]; f[2] = 5; f[0] = null; foreach (f[i]) $display("%0d %0d", i, f[i]); end endmodule
abbrev t4 : List Description
t4 = module_ (at 0 1 1) life.Unwritten (name (at 0 1 8) "t") None [] (procedure (at 0 1 11) procedure_word.Initial (stmts.Statement (at 0 1 19) None (stmts.Block None (decl life.Unwritten (types.Atom (at 0 1 25) atom_word.Int sign.Unwritten) (declarator (name (at 0 1 29) "f") (Some (stmts.Bounds (range (at 0 1 30) (number (at 0 1 31) "3") (number (at 0 1 33) "0")))) None ∷ []) ∷ []) (statements (stmts.Statement (at 0 1 37) None (blocking (tree.Lval.Post (root.Plain (name (at 0 1 37) "f")) (tree.Select (at 0 1 38) (number (at 0 1 39) "2") tree.NoSuffix)) None (stmts.Value (number (at 0 1 44) "5"))) ∷ stmts.Statement (at 0 1 47) None (blocking (tree.Lval.Post (root.Plain (name (at 0 1 47) "f")) (tree.Select (at 0 1 48) (number (at 0 1 49) "0") tree.NoSuffix)) None (stmts.Value (tree.Null (at 0 1 54)))) ∷ stmts.Statement (at 0 1 60) None (stmts.Foreach (name (at 0 1 69) "f") (name (at 0 1 71) "i") (stmts.Statement (at 0 1 75) None (stmts.Call (system (at 0 1 75) "$display" (text (at 0 1 84) "%0d %0d" ∷ plain (at 0 1 95) "i" ∷ tree.Expr.Post (root.Plain (name (at 0 1 98) "f")) (tree.Select (at 0 1 99) (plain (at 0 1 100) "i") tree.NoSuffix) ∷ []))))) ∷ [])) None)) ∷ []) None ∷ []

t4_broken : broken t4 [] None ≡ Some (fault 16 0 1 54)
unfolding symbols_of word_of
t4_broken = refl

-- module t; initial begin int f[3:0]; f[2] = 5; f[0] = 1; foreach (f[i]) $display("%0d %0d", i, f[zz]); end endmodule
abbrev t5 : List Description
t5 = module_ (at 0 1 1) life.Unwritten (name (at 0 1 8) "t") None [] (procedure (at 0 1 11) procedure_word.Initial (stmts.Statement (at 0 1 19) None (stmts.Block None (decl life.Unwritten (types.Atom (at 0 1 25) atom_word.Int sign.Unwritten) (declarator (name (at 0 1 29) "f") (Some (stmts.Bounds (range (at 0 1 30) (number (at 0 1 31) "3") (number (at 0 1 33) "0")))) None ∷ []) ∷ []) (statements (stmts.Statement (at 0 1 37) None (blocking (tree.Lval.Post (root.Plain (name (at 0 1 37) "f")) (tree.Select (at 0 1 38) (number (at 0 1 39) "2") tree.NoSuffix)) None (stmts.Value (number (at 0 1 44) "5"))) ∷ stmts.Statement (at 0 1 47) None (blocking (tree.Lval.Post (root.Plain (name (at 0 1 47) "f")) (tree.Select (at 0 1 48) (number (at 0 1 49) "0") tree.NoSuffix)) None (stmts.Value (number (at 0 1 54) "1"))) ∷ stmts.Statement (at 0 1 57) None (stmts.Foreach (name (at 0 1 66) "f") (name (at 0 1 68) "i") (stmts.Statement (at 0 1 72) None (stmts.Call (system (at 0 1 72) "$display" (text (at 0 1 81) "%0d %0d" ∷ plain (at 0 1 92) "i" ∷ tree.Expr.Post (root.Plain (name (at 0 1 95) "f")) (tree.Select (at 0 1 96) (plain (at 0 1 97) "zz") tree.NoSuffix) ∷ []))))) ∷ [])) None)) ∷ []) None ∷ []

t5_broken : broken t5 [] None ≡ Some (fault 6 0 1 97)
unfolding symbols_of word_of
t5_broken = refl

-- module t; initial begin int f[3:"s"]; f[2] = 5; f[0] = 1; foreach (f[i]) $display("%0d %0d", i, f[i]); end endmodule
abbrev t6 : List Description
t6 = module_ (at 0 1 1) life.Unwritten (name (at 0 1 8) "t") None [] (procedure (at 0 1 11) procedure_word.Initial (stmts.Statement (at 0 1 19) None (stmts.Block None (decl life.Unwritten (types.Atom (at 0 1 25) atom_word.Int sign.Unwritten) (declarator (name (at 0 1 29) "f") (Some (stmts.Bounds (range (at 0 1 30) (number (at 0 1 31) "3") (text (at 0 1 33) "s")))) None ∷ []) ∷ []) (statements (stmts.Statement (at 0 1 39) None (blocking (tree.Lval.Post (root.Plain (name (at 0 1 39) "f")) (tree.Select (at 0 1 40) (number (at 0 1 41) "2") tree.NoSuffix)) None (stmts.Value (number (at 0 1 46) "5"))) ∷ stmts.Statement (at 0 1 49) None (blocking (tree.Lval.Post (root.Plain (name (at 0 1 49) "f")) (tree.Select (at 0 1 50) (number (at 0 1 51) "0") tree.NoSuffix)) None (stmts.Value (number (at 0 1 56) "1"))) ∷ stmts.Statement (at 0 1 59) None (stmts.Foreach (name (at 0 1 68) "f") (name (at 0 1 70) "i") (stmts.Statement (at 0 1 74) None (stmts.Call (system (at 0 1 74) "$display" (text (at 0 1 83) "%0d %0d" ∷ plain (at 0 1 94) "i" ∷ tree.Expr.Post (root.Plain (name (at 0 1 97) "f")) (tree.Select (at 0 1 98) (plain (at 0 1 99) "i") tree.NoSuffix) ∷ []))))) ∷ [])) None)) ∷ []) None ∷ []

t6_broken : broken t6 [] None ≡ Some (fault 15 0 1 33)
unfolding symbols_of word_of
t6_broken = refl

-- module t; initial begin int f[3:0]; f[2] = 5; f[0] = 1; foreach (f[i]) $display("%0d %0d", zz, f[i]); end endmodule
abbrev t7 : List Description
t7 = module_ (at 0 1 1) life.Unwritten (name (at 0 1 8) "t") None [] (procedure (at 0 1 11) procedure_word.Initial (stmts.Statement (at 0 1 19) None (stmts.Block None (decl life.Unwritten (types.Atom (at 0 1 25) atom_word.Int sign.Unwritten) (declarator (name (at 0 1 29) "f") (Some (stmts.Bounds (range (at 0 1 30) (number (at 0 1 31) "3") (number (at 0 1 33) "0")))) None ∷ []) ∷ []) (statements (stmts.Statement (at 0 1 37) None (blocking (tree.Lval.Post (root.Plain (name (at 0 1 37) "f")) (tree.Select (at 0 1 38) (number (at 0 1 39) "2") tree.NoSuffix)) None (stmts.Value (number (at 0 1 44) "5"))) ∷ stmts.Statement (at 0 1 47) None (blocking (tree.Lval.Post (root.Plain (name (at 0 1 47) "f")) (tree.Select (at 0 1 48) (number (at 0 1 49) "0") tree.NoSuffix)) None (stmts.Value (number (at 0 1 54) "1"))) ∷ stmts.Statement (at 0 1 57) None (stmts.Foreach (name (at 0 1 66) "f") (name (at 0 1 68) "i") (stmts.Statement (at 0 1 72) None (stmts.Call (system (at 0 1 72) "$display" (text (at 0 1 81) "%0d %0d" ∷ plain (at 0 1 92) "zz" ∷ tree.Expr.Post (root.Plain (name (at 0 1 96) "f")) (tree.Select (at 0 1 97) (plain (at 0 1 98) "i") tree.NoSuffix) ∷ []))))) ∷ [])) None)) ∷ []) None ∷ []

t7_broken : broken t7 [] None ≡ Some (fault 6 0 1 92)
unfolding symbols_of word_of
t7_broken = refl

-- module t; initial begin int f[3:0]; f[2] = 5; f[70] = 1; foreach (f[i]) $display("%0d %0d", i, f[i]); end endmodule
abbrev t8 : List Description
t8 = module_ (at 0 1 1) life.Unwritten (name (at 0 1 8) "t") None [] (procedure (at 0 1 11) procedure_word.Initial (stmts.Statement (at 0 1 19) None (stmts.Block None (decl life.Unwritten (types.Atom (at 0 1 25) atom_word.Int sign.Unwritten) (declarator (name (at 0 1 29) "f") (Some (stmts.Bounds (range (at 0 1 30) (number (at 0 1 31) "3") (number (at 0 1 33) "0")))) None ∷ []) ∷ []) (statements (stmts.Statement (at 0 1 37) None (blocking (tree.Lval.Post (root.Plain (name (at 0 1 37) "f")) (tree.Select (at 0 1 38) (number (at 0 1 39) "2") tree.NoSuffix)) None (stmts.Value (number (at 0 1 44) "5"))) ∷ stmts.Statement (at 0 1 47) None (blocking (tree.Lval.Post (root.Plain (name (at 0 1 47) "f")) (tree.Select (at 0 1 48) (number (at 0 1 49) "70") tree.NoSuffix)) None (stmts.Value (number (at 0 1 55) "1"))) ∷ stmts.Statement (at 0 1 58) None (stmts.Foreach (name (at 0 1 67) "f") (name (at 0 1 69) "i") (stmts.Statement (at 0 1 73) None (stmts.Call (system (at 0 1 73) "$display" (text (at 0 1 82) "%0d %0d" ∷ plain (at 0 1 93) "i" ∷ tree.Expr.Post (root.Plain (name (at 0 1 96) "f")) (tree.Select (at 0 1 97) (plain (at 0 1 98) "i") tree.NoSuffix) ∷ []))))) ∷ [])) None)) ∷ []) None ∷ []

t8_seen : seen_in (Listed []) (Listed []) (elaborated t8 [] None) 18 ≡ Ran (record { log = lines ("3 0" ∷ "2 5" ∷ "1 0" ∷ "0 0" ∷ []); wave = lines ("$timescale 1ns $end" ∷ "$scope module t $end" ∷ "$upscope $end" ∷ "$enddefinitions $end" ∷ "#0" ∷ "$dumpvars" ∷ "$end" ∷ []); outcome = Done; time = 0; steps = 15; race = Some (8, at 0 1 11) })
unfolding symbols_of word_of
t8_seen = refl

-- module t; initial begin int f[3:0]; f[2] = 5; f[0] = 1; foreach (f[f]) $display("%0d %0d", i, f[i]); end endmodule
abbrev t9 : List Description
t9 = module_ (at 0 1 1) life.Unwritten (name (at 0 1 8) "t") None [] (procedure (at 0 1 11) procedure_word.Initial (stmts.Statement (at 0 1 19) None (stmts.Block None (decl life.Unwritten (types.Atom (at 0 1 25) atom_word.Int sign.Unwritten) (declarator (name (at 0 1 29) "f") (Some (stmts.Bounds (range (at 0 1 30) (number (at 0 1 31) "3") (number (at 0 1 33) "0")))) None ∷ []) ∷ []) (statements (stmts.Statement (at 0 1 37) None (blocking (tree.Lval.Post (root.Plain (name (at 0 1 37) "f")) (tree.Select (at 0 1 38) (number (at 0 1 39) "2") tree.NoSuffix)) None (stmts.Value (number (at 0 1 44) "5"))) ∷ stmts.Statement (at 0 1 47) None (blocking (tree.Lval.Post (root.Plain (name (at 0 1 47) "f")) (tree.Select (at 0 1 48) (number (at 0 1 49) "0") tree.NoSuffix)) None (stmts.Value (number (at 0 1 54) "1"))) ∷ stmts.Statement (at 0 1 57) None (stmts.Foreach (name (at 0 1 66) "f") (name (at 0 1 68) "f") (stmts.Statement (at 0 1 72) None (stmts.Call (system (at 0 1 72) "$display" (text (at 0 1 81) "%0d %0d" ∷ plain (at 0 1 92) "i" ∷ tree.Expr.Post (root.Plain (name (at 0 1 95) "f")) (tree.Select (at 0 1 96) (plain (at 0 1 97) "i") tree.NoSuffix) ∷ []))))) ∷ [])) None)) ∷ []) None ∷ []

t9_broken : broken t9 [] None ≡ Some (fault 6 0 1 92)
unfolding symbols_of word_of
t9_broken = refl

-- module t; always_comb begin int f[3:0]; f[2] = 5; f[0] = 1; foreach (f[i]) $display("%0d %0d", i, f[i]); end endmodule
abbrev t10 : List Description
t10 = module_ (at 0 1 1) life.Unwritten (name (at 0 1 8) "t") None [] (procedure (at 0 1 11) procedure_word.AlwaysComb (stmts.Statement (at 0 1 23) None (stmts.Block None (decl life.Unwritten (types.Atom (at 0 1 29) atom_word.Int sign.Unwritten) (declarator (name (at 0 1 33) "f") (Some (stmts.Bounds (range (at 0 1 34) (number (at 0 1 35) "3") (number (at 0 1 37) "0")))) None ∷ []) ∷ []) (statements (stmts.Statement (at 0 1 41) None (blocking (tree.Lval.Post (root.Plain (name (at 0 1 41) "f")) (tree.Select (at 0 1 42) (number (at 0 1 43) "2") tree.NoSuffix)) None (stmts.Value (number (at 0 1 48) "5"))) ∷ stmts.Statement (at 0 1 51) None (blocking (tree.Lval.Post (root.Plain (name (at 0 1 51) "f")) (tree.Select (at 0 1 52) (number (at 0 1 53) "0") tree.NoSuffix)) None (stmts.Value (number (at 0 1 58) "1"))) ∷ stmts.Statement (at 0 1 61) None (stmts.Foreach (name (at 0 1 70) "f") (name (at 0 1 72) "i") (stmts.Statement (at 0 1 76) None (stmts.Call (system (at 0 1 76) "$display" (text (at 0 1 85) "%0d %0d" ∷ plain (at 0 1 96) "i" ∷ tree.Expr.Post (root.Plain (name (at 0 1 99) "f")) (tree.Select (at 0 1 100) (plain (at 0 1 101) "i") tree.NoSuffix) ∷ []))))) ∷ [])) None)) ∷ []) None ∷ []

t10_seen : seen_in (Listed []) (Listed []) (elaborated t10 [] None) 18 ≡ Ran (record { log = lines ("3 0" ∷ "2 5" ∷ "1 0" ∷ "0 1" ∷ []); wave = lines ("$timescale 1ns $end" ∷ "$scope module t $end" ∷ "$upscope $end" ∷ "$enddefinitions $end" ∷ "#0" ∷ "$dumpvars" ∷ "$end" ∷ []); outcome = Done; time = 0; steps = 15; race = Some (5, at 0 1 11) })
unfolding symbols_of word_of
t10_seen = refl

-- module t; initial begin int f[3:0]; f[2] = 5; f[0] = 1; foreach (f[i]) $display("%0d %0d", i, f[f]); end endmodule
abbrev t11 : List Description
t11 = module_ (at 0 1 1) life.Unwritten (name (at 0 1 8) "t") None [] (procedure (at 0 1 11) procedure_word.Initial (stmts.Statement (at 0 1 19) None (stmts.Block None (decl life.Unwritten (types.Atom (at 0 1 25) atom_word.Int sign.Unwritten) (declarator (name (at 0 1 29) "f") (Some (stmts.Bounds (range (at 0 1 30) (number (at 0 1 31) "3") (number (at 0 1 33) "0")))) None ∷ []) ∷ []) (statements (stmts.Statement (at 0 1 37) None (blocking (tree.Lval.Post (root.Plain (name (at 0 1 37) "f")) (tree.Select (at 0 1 38) (number (at 0 1 39) "2") tree.NoSuffix)) None (stmts.Value (number (at 0 1 44) "5"))) ∷ stmts.Statement (at 0 1 47) None (blocking (tree.Lval.Post (root.Plain (name (at 0 1 47) "f")) (tree.Select (at 0 1 48) (number (at 0 1 49) "0") tree.NoSuffix)) None (stmts.Value (number (at 0 1 54) "1"))) ∷ stmts.Statement (at 0 1 57) None (stmts.Foreach (name (at 0 1 66) "f") (name (at 0 1 68) "i") (stmts.Statement (at 0 1 72) None (stmts.Call (system (at 0 1 72) "$display" (text (at 0 1 81) "%0d %0d" ∷ plain (at 0 1 92) "i" ∷ tree.Expr.Post (root.Plain (name (at 0 1 95) "f")) (tree.Select (at 0 1 96) (plain (at 0 1 97) "f") tree.NoSuffix) ∷ []))))) ∷ [])) None)) ∷ []) None ∷ []

t11_broken : broken t11 [] None ≡ Some (fault 42 0 1 97)
unfolding symbols_of word_of
t11_broken = refl

-- module t; task automatic w(); int f[4]; logic [7:1'bx] g[1:2]; f[1] = 3; g[2][3:0] = 4'd9; f[f[1] - 2] += 4; $display("%0d %0d %b", f[1], f[7], g[2]); endtask initial w(); endmodule
abbrev t12 : List Description
t12 = module_ (at 0 1 1) life.Unwritten (name (at 0 1 8) "t") None [] (items.Routine (routine (head (at 0 1 11) life.Automatic units.Task (name (at 0 1 26) "w") []) (decl life.Unwritten (types.Atom (at 0 1 31) atom_word.Int sign.Unwritten) (declarator (name (at 0 1 35) "f") (Some (stmts.Size (at 0 1 36) (number (at 0 1 37) "4"))) None ∷ []) ∷ decl life.Unwritten (types.WrittenType.Vector (at 0 1 41) vector_word.Logic sign.Unwritten (Some (range (at 0 1 47) (number (at 0 1 48) "7") (number (at 0 1 50) "1'bx")))) (declarator (name (at 0 1 56) "g") (Some (stmts.Bounds (range (at 0 1 57) (number (at 0 1 58) "1") (number (at 0 1 60) "2")))) None ∷ []) ∷ []) (stmts.Statement (at 0 1 64) None (blocking (tree.Lval.Post (root.Plain (name (at 0 1 64) "f")) (tree.Select (at 0 1 65) (number (at 0 1 66) "1") tree.NoSuffix)) None (stmts.Value (number (at 0 1 71) "3"))) ∷ stmts.Statement (at 0 1 74) None (blocking (tree.Lval.Post (root.Plain (name (at 0 1 74) "g")) (tree.Select (at 0 1 75) (number (at 0 1 76) "2") (tree.Part (at 0 1 78) part_word.Fixed (number (at 0 1 79) "3") (number (at 0 1 81) "0") tree.NoSuffix))) None (stmts.Value (number (at 0 1 86) "4'd9"))) ∷ stmts.Statement (at 0 1 92) None (stmts.Body.Operator (operated (tree.Lval.Post (root.Plain (name (at 0 1 92) "f")) (tree.Select (at 0 1 93) (tree.Binary binary_word.Minus (at 0 1 99) (tree.Expr.Post (root.Plain (name (at 0 1 94) "f")) (tree.Select (at 0 1 95) (number (at 0 1 96) "1") tree.NoSuffix)) (number (at 0 1 101) "2")) tree.NoSuffix)) binary_word.Plus (number (at 0 1 107) "4"))) ∷ stmts.Statement (at 0 1 110) None (stmts.Call (system (at 0 1 110) "$display" (text (at 0 1 119) "%0d %0d %b" ∷ tree.Expr.Post (root.Plain (name (at 0 1 133) "f")) (tree.Select (at 0 1 134) (number (at 0 1 135) "1") tree.NoSuffix) ∷ tree.Expr.Post (root.Plain (name (at 0 1 139) "f")) (tree.Select (at 0 1 140) (number (at 0 1 141) "7") tree.NoSuffix) ∷ tree.Expr.Post (root.Plain (name (at 0 1 145) "g")) (tree.Select (at 0 1 146) (number (at 0 1 147) "2") tree.NoSuffix) ∷ []))) ∷ []) None) ∷ procedure (at 0 1 160) procedure_word.Initial (stmts.Statement (at 0 1 168) None (stmts.Call (tree.Expr.Post (root.Plain (name (at 0 1 168) "w")) (tree.Call (at 0 1 169) tree.NoExpr tree.NoSuffix)))) ∷ []) None ∷ []

t12_broken : broken t12 [] None ≡ Some (fault 12 0 1 50)
unfolding symbols_of word_of
t12_broken = refl

-- module w; task automatic w(); int f[4]; logic [7:0] g[1:2]; f[1] = 3; g[2][3:0] = 4'd9; f[f[1] - 2] += 4; $display("%0d %0d %b", f[1], f[7], g[2]); endtask initial w(); endmodule
abbrev t13 : List Description
t13 = module_ (at 0 1 1) life.Unwritten (name (at 0 1 8) "w") None [] (items.Routine (routine (head (at 0 1 11) life.Automatic units.Task (name (at 0 1 26) "w") []) (decl life.Unwritten (types.Atom (at 0 1 31) atom_word.Int sign.Unwritten) (declarator (name (at 0 1 35) "f") (Some (stmts.Size (at 0 1 36) (number (at 0 1 37) "4"))) None ∷ []) ∷ decl life.Unwritten (types.WrittenType.Vector (at 0 1 41) vector_word.Logic sign.Unwritten (Some (range (at 0 1 47) (number (at 0 1 48) "7") (number (at 0 1 50) "0")))) (declarator (name (at 0 1 53) "g") (Some (stmts.Bounds (range (at 0 1 54) (number (at 0 1 55) "1") (number (at 0 1 57) "2")))) None ∷ []) ∷ []) (stmts.Statement (at 0 1 61) None (blocking (tree.Lval.Post (root.Plain (name (at 0 1 61) "f")) (tree.Select (at 0 1 62) (number (at 0 1 63) "1") tree.NoSuffix)) None (stmts.Value (number (at 0 1 68) "3"))) ∷ stmts.Statement (at 0 1 71) None (blocking (tree.Lval.Post (root.Plain (name (at 0 1 71) "g")) (tree.Select (at 0 1 72) (number (at 0 1 73) "2") (tree.Part (at 0 1 75) part_word.Fixed (number (at 0 1 76) "3") (number (at 0 1 78) "0") tree.NoSuffix))) None (stmts.Value (number (at 0 1 83) "4'd9"))) ∷ stmts.Statement (at 0 1 89) None (stmts.Body.Operator (operated (tree.Lval.Post (root.Plain (name (at 0 1 89) "f")) (tree.Select (at 0 1 90) (tree.Binary binary_word.Minus (at 0 1 96) (tree.Expr.Post (root.Plain (name (at 0 1 91) "f")) (tree.Select (at 0 1 92) (number (at 0 1 93) "1") tree.NoSuffix)) (number (at 0 1 98) "2")) tree.NoSuffix)) binary_word.Plus (number (at 0 1 104) "4"))) ∷ stmts.Statement (at 0 1 107) None (stmts.Call (system (at 0 1 107) "$display" (text (at 0 1 116) "%0d %0d %b" ∷ tree.Expr.Post (root.Plain (name (at 0 1 130) "f")) (tree.Select (at 0 1 131) (number (at 0 1 132) "1") tree.NoSuffix) ∷ tree.Expr.Post (root.Plain (name (at 0 1 136) "f")) (tree.Select (at 0 1 137) (number (at 0 1 138) "7") tree.NoSuffix) ∷ tree.Expr.Post (root.Plain (name (at 0 1 142) "g")) (tree.Select (at 0 1 143) (number (at 0 1 144) "2") tree.NoSuffix) ∷ []))) ∷ []) None) ∷ procedure (at 0 1 157) procedure_word.Initial (stmts.Statement (at 0 1 165) None (stmts.Call (tree.Expr.Post (root.Plain (name (at 0 1 165) "w")) (tree.Call (at 0 1 166) tree.NoExpr tree.NoSuffix)))) ∷ []) None ∷ []

t13_seen : seen_in (Listed []) (Listed []) (elaborated t13 [] None) 12 ≡ Ran (record { log = lines ("7 0 xxxx1001" ∷ []); wave = lines ("$timescale 1ns $end" ∷ "$scope module w $end" ∷ "$upscope $end" ∷ "$enddefinitions $end" ∷ "#0" ∷ "$dumpvars" ∷ "$end" ∷ []); outcome = Done; time = 0; steps = 9; race = Some (8, at 0 1 157) })
unfolding symbols_of word_of
t13_seen = refl

-- module t; task automatic w(); byte f[4]; logic [7:0] g[1:2]; f[1] = 3; g[2][3:0] = 4'd9; f[f[1] - 2] += 4; $display("%0d %0d %b", f[1], f[7], g[2]); endtask initial w(); endmodule
abbrev t14 : List Description
t14 = module_ (at 0 1 1) life.Unwritten (name (at 0 1 8) "t") None [] (items.Routine (routine (head (at 0 1 11) life.Automatic units.Task (name (at 0 1 26) "w") []) (decl life.Unwritten (types.Atom (at 0 1 31) atom_word.Byte sign.Unwritten) (declarator (name (at 0 1 36) "f") (Some (stmts.Size (at 0 1 37) (number (at 0 1 38) "4"))) None ∷ []) ∷ decl life.Unwritten (types.WrittenType.Vector (at 0 1 42) vector_word.Logic sign.Unwritten (Some (range (at 0 1 48) (number (at 0 1 49) "7") (number (at 0 1 51) "0")))) (declarator (name (at 0 1 54) "g") (Some (stmts.Bounds (range (at 0 1 55) (number (at 0 1 56) "1") (number (at 0 1 58) "2")))) None ∷ []) ∷ []) (stmts.Statement (at 0 1 62) None (blocking (tree.Lval.Post (root.Plain (name (at 0 1 62) "f")) (tree.Select (at 0 1 63) (number (at 0 1 64) "1") tree.NoSuffix)) None (stmts.Value (number (at 0 1 69) "3"))) ∷ stmts.Statement (at 0 1 72) None (blocking (tree.Lval.Post (root.Plain (name (at 0 1 72) "g")) (tree.Select (at 0 1 73) (number (at 0 1 74) "2") (tree.Part (at 0 1 76) part_word.Fixed (number (at 0 1 77) "3") (number (at 0 1 79) "0") tree.NoSuffix))) None (stmts.Value (number (at 0 1 84) "4'd9"))) ∷ stmts.Statement (at 0 1 90) None (stmts.Body.Operator (operated (tree.Lval.Post (root.Plain (name (at 0 1 90) "f")) (tree.Select (at 0 1 91) (tree.Binary binary_word.Minus (at 0 1 97) (tree.Expr.Post (root.Plain (name (at 0 1 92) "f")) (tree.Select (at 0 1 93) (number (at 0 1 94) "1") tree.NoSuffix)) (number (at 0 1 99) "2")) tree.NoSuffix)) binary_word.Plus (number (at 0 1 105) "4"))) ∷ stmts.Statement (at 0 1 108) None (stmts.Call (system (at 0 1 108) "$display" (text (at 0 1 117) "%0d %0d %b" ∷ tree.Expr.Post (root.Plain (name (at 0 1 131) "f")) (tree.Select (at 0 1 132) (number (at 0 1 133) "1") tree.NoSuffix) ∷ tree.Expr.Post (root.Plain (name (at 0 1 137) "f")) (tree.Select (at 0 1 138) (number (at 0 1 139) "7") tree.NoSuffix) ∷ tree.Expr.Post (root.Plain (name (at 0 1 143) "g")) (tree.Select (at 0 1 144) (number (at 0 1 145) "2") tree.NoSuffix) ∷ []))) ∷ []) None) ∷ procedure (at 0 1 158) procedure_word.Initial (stmts.Statement (at 0 1 166) None (stmts.Call (tree.Expr.Post (root.Plain (name (at 0 1 166) "w")) (tree.Call (at 0 1 167) tree.NoExpr tree.NoSuffix)))) ∷ []) None ∷ []

t14_seen : seen_in (Listed []) (Listed []) (elaborated t14 [] None) 12 ≡ Ran (record { log = lines ("7 0 xxxx1001" ∷ []); wave = lines ("$timescale 1ns $end" ∷ "$scope module t $end" ∷ "$upscope $end" ∷ "$enddefinitions $end" ∷ "#0" ∷ "$dumpvars" ∷ "$end" ∷ []); outcome = Done; time = 0; steps = 9; race = Some (8, at 0 1 158) })
unfolding symbols_of word_of
t14_seen = refl

-- module t; task automatic w(); int f[4]; logic [7:0] g["s":2]; f[1] = 3; g[2][3:0] = 4'd9; f[f[1] - 2] += 4; $display("%0d %0d %b", f[1], f[7], g[2]); endtask initial w(); endmodule
abbrev t15 : List Description
t15 = module_ (at 0 1 1) life.Unwritten (name (at 0 1 8) "t") None [] (items.Routine (routine (head (at 0 1 11) life.Automatic units.Task (name (at 0 1 26) "w") []) (decl life.Unwritten (types.Atom (at 0 1 31) atom_word.Int sign.Unwritten) (declarator (name (at 0 1 35) "f") (Some (stmts.Size (at 0 1 36) (number (at 0 1 37) "4"))) None ∷ []) ∷ decl life.Unwritten (types.WrittenType.Vector (at 0 1 41) vector_word.Logic sign.Unwritten (Some (range (at 0 1 47) (number (at 0 1 48) "7") (number (at 0 1 50) "0")))) (declarator (name (at 0 1 53) "g") (Some (stmts.Bounds (range (at 0 1 54) (text (at 0 1 55) "s") (number (at 0 1 59) "2")))) None ∷ []) ∷ []) (stmts.Statement (at 0 1 63) None (blocking (tree.Lval.Post (root.Plain (name (at 0 1 63) "f")) (tree.Select (at 0 1 64) (number (at 0 1 65) "1") tree.NoSuffix)) None (stmts.Value (number (at 0 1 70) "3"))) ∷ stmts.Statement (at 0 1 73) None (blocking (tree.Lval.Post (root.Plain (name (at 0 1 73) "g")) (tree.Select (at 0 1 74) (number (at 0 1 75) "2") (tree.Part (at 0 1 77) part_word.Fixed (number (at 0 1 78) "3") (number (at 0 1 80) "0") tree.NoSuffix))) None (stmts.Value (number (at 0 1 85) "4'd9"))) ∷ stmts.Statement (at 0 1 91) None (stmts.Body.Operator (operated (tree.Lval.Post (root.Plain (name (at 0 1 91) "f")) (tree.Select (at 0 1 92) (tree.Binary binary_word.Minus (at 0 1 98) (tree.Expr.Post (root.Plain (name (at 0 1 93) "f")) (tree.Select (at 0 1 94) (number (at 0 1 95) "1") tree.NoSuffix)) (number (at 0 1 100) "2")) tree.NoSuffix)) binary_word.Plus (number (at 0 1 106) "4"))) ∷ stmts.Statement (at 0 1 109) None (stmts.Call (system (at 0 1 109) "$display" (text (at 0 1 118) "%0d %0d %b" ∷ tree.Expr.Post (root.Plain (name (at 0 1 132) "f")) (tree.Select (at 0 1 133) (number (at 0 1 134) "1") tree.NoSuffix) ∷ tree.Expr.Post (root.Plain (name (at 0 1 138) "f")) (tree.Select (at 0 1 139) (number (at 0 1 140) "7") tree.NoSuffix) ∷ tree.Expr.Post (root.Plain (name (at 0 1 144) "g")) (tree.Select (at 0 1 145) (number (at 0 1 146) "2") tree.NoSuffix) ∷ []))) ∷ []) None) ∷ procedure (at 0 1 159) procedure_word.Initial (stmts.Statement (at 0 1 167) None (stmts.Call (tree.Expr.Post (root.Plain (name (at 0 1 167) "w")) (tree.Call (at 0 1 168) tree.NoExpr tree.NoSuffix)))) ∷ []) None ∷ []

t15_broken : broken t15 [] None ≡ Some (fault 15 0 1 55)
unfolding symbols_of word_of
t15_broken = refl

-- module t; task automatic w(); int f[4]; logic [7:0] g[1:2]; f[1] = 3; g[2][f:0] = 4'd9; f[f[1] - 2] += 4; $display("%0d %0d %b", f[1], f[7], g[2]); endtask initial w(); endmodule
abbrev t16 : List Description
t16 = module_ (at 0 1 1) life.Unwritten (name (at 0 1 8) "t") None [] (items.Routine (routine (head (at 0 1 11) life.Automatic units.Task (name (at 0 1 26) "w") []) (decl life.Unwritten (types.Atom (at 0 1 31) atom_word.Int sign.Unwritten) (declarator (name (at 0 1 35) "f") (Some (stmts.Size (at 0 1 36) (number (at 0 1 37) "4"))) None ∷ []) ∷ decl life.Unwritten (types.WrittenType.Vector (at 0 1 41) vector_word.Logic sign.Unwritten (Some (range (at 0 1 47) (number (at 0 1 48) "7") (number (at 0 1 50) "0")))) (declarator (name (at 0 1 53) "g") (Some (stmts.Bounds (range (at 0 1 54) (number (at 0 1 55) "1") (number (at 0 1 57) "2")))) None ∷ []) ∷ []) (stmts.Statement (at 0 1 61) None (blocking (tree.Lval.Post (root.Plain (name (at 0 1 61) "f")) (tree.Select (at 0 1 62) (number (at 0 1 63) "1") tree.NoSuffix)) None (stmts.Value (number (at 0 1 68) "3"))) ∷ stmts.Statement (at 0 1 71) None (blocking (tree.Lval.Post (root.Plain (name (at 0 1 71) "g")) (tree.Select (at 0 1 72) (number (at 0 1 73) "2") (tree.Part (at 0 1 75) part_word.Fixed (plain (at 0 1 76) "f") (number (at 0 1 78) "0") tree.NoSuffix))) None (stmts.Value (number (at 0 1 83) "4'd9"))) ∷ stmts.Statement (at 0 1 89) None (stmts.Body.Operator (operated (tree.Lval.Post (root.Plain (name (at 0 1 89) "f")) (tree.Select (at 0 1 90) (tree.Binary binary_word.Minus (at 0 1 96) (tree.Expr.Post (root.Plain (name (at 0 1 91) "f")) (tree.Select (at 0 1 92) (number (at 0 1 93) "1") tree.NoSuffix)) (number (at 0 1 98) "2")) tree.NoSuffix)) binary_word.Plus (number (at 0 1 104) "4"))) ∷ stmts.Statement (at 0 1 107) None (stmts.Call (system (at 0 1 107) "$display" (text (at 0 1 116) "%0d %0d %b" ∷ tree.Expr.Post (root.Plain (name (at 0 1 130) "f")) (tree.Select (at 0 1 131) (number (at 0 1 132) "1") tree.NoSuffix) ∷ tree.Expr.Post (root.Plain (name (at 0 1 136) "f")) (tree.Select (at 0 1 137) (number (at 0 1 138) "7") tree.NoSuffix) ∷ tree.Expr.Post (root.Plain (name (at 0 1 142) "g")) (tree.Select (at 0 1 143) (number (at 0 1 144) "2") tree.NoSuffix) ∷ []))) ∷ []) None) ∷ procedure (at 0 1 157) procedure_word.Initial (stmts.Statement (at 0 1 165) None (stmts.Call (tree.Expr.Post (root.Plain (name (at 0 1 165) "w")) (tree.Call (at 0 1 166) tree.NoExpr tree.NoSuffix)))) ∷ []) None ∷ []

t16_broken : broken t16 [] None ≡ Some (fault 11 0 1 76)
unfolding symbols_of word_of
t16_broken = refl

-- module t; task automatic w(); int f[4]; logic [7:0] g[1:2]; f[1] = 3; g[70][3:0] = 4'd9; f[f[1] - 2] += 4; $display("%0d %0d %b", f[1], f[7], g[2]); endtask initial w(); endmodule
abbrev t17 : List Description
t17 = module_ (at 0 1 1) life.Unwritten (name (at 0 1 8) "t") None [] (items.Routine (routine (head (at 0 1 11) life.Automatic units.Task (name (at 0 1 26) "w") []) (decl life.Unwritten (types.Atom (at 0 1 31) atom_word.Int sign.Unwritten) (declarator (name (at 0 1 35) "f") (Some (stmts.Size (at 0 1 36) (number (at 0 1 37) "4"))) None ∷ []) ∷ decl life.Unwritten (types.WrittenType.Vector (at 0 1 41) vector_word.Logic sign.Unwritten (Some (range (at 0 1 47) (number (at 0 1 48) "7") (number (at 0 1 50) "0")))) (declarator (name (at 0 1 53) "g") (Some (stmts.Bounds (range (at 0 1 54) (number (at 0 1 55) "1") (number (at 0 1 57) "2")))) None ∷ []) ∷ []) (stmts.Statement (at 0 1 61) None (blocking (tree.Lval.Post (root.Plain (name (at 0 1 61) "f")) (tree.Select (at 0 1 62) (number (at 0 1 63) "1") tree.NoSuffix)) None (stmts.Value (number (at 0 1 68) "3"))) ∷ stmts.Statement (at 0 1 71) None (blocking (tree.Lval.Post (root.Plain (name (at 0 1 71) "g")) (tree.Select (at 0 1 72) (number (at 0 1 73) "70") (tree.Part (at 0 1 76) part_word.Fixed (number (at 0 1 77) "3") (number (at 0 1 79) "0") tree.NoSuffix))) None (stmts.Value (number (at 0 1 84) "4'd9"))) ∷ stmts.Statement (at 0 1 90) None (stmts.Body.Operator (operated (tree.Lval.Post (root.Plain (name (at 0 1 90) "f")) (tree.Select (at 0 1 91) (tree.Binary binary_word.Minus (at 0 1 97) (tree.Expr.Post (root.Plain (name (at 0 1 92) "f")) (tree.Select (at 0 1 93) (number (at 0 1 94) "1") tree.NoSuffix)) (number (at 0 1 99) "2")) tree.NoSuffix)) binary_word.Plus (number (at 0 1 105) "4"))) ∷ stmts.Statement (at 0 1 108) None (stmts.Call (system (at 0 1 108) "$display" (text (at 0 1 117) "%0d %0d %b" ∷ tree.Expr.Post (root.Plain (name (at 0 1 131) "f")) (tree.Select (at 0 1 132) (number (at 0 1 133) "1") tree.NoSuffix) ∷ tree.Expr.Post (root.Plain (name (at 0 1 137) "f")) (tree.Select (at 0 1 138) (number (at 0 1 139) "7") tree.NoSuffix) ∷ tree.Expr.Post (root.Plain (name (at 0 1 143) "g")) (tree.Select (at 0 1 144) (number (at 0 1 145) "2") tree.NoSuffix) ∷ []))) ∷ []) None) ∷ procedure (at 0 1 158) procedure_word.Initial (stmts.Statement (at 0 1 166) None (stmts.Call (tree.Expr.Post (root.Plain (name (at 0 1 166) "w")) (tree.Call (at 0 1 167) tree.NoExpr tree.NoSuffix)))) ∷ []) None ∷ []

t17_seen : seen_in (Listed []) (Listed []) (elaborated t17 [] None) 12 ≡ Ran (record { log = lines ("7 0 xxxxxxxx" ∷ []); wave = lines ("$timescale 1ns $end" ∷ "$scope module t $end" ∷ "$upscope $end" ∷ "$enddefinitions $end" ∷ "#0" ∷ "$dumpvars" ∷ "$end" ∷ []); outcome = Done; time = 0; steps = 9; race = Some (8, at 0 1 158) })
unfolding symbols_of word_of
t17_seen = refl

-- module t; task automatic w(); int f[4]; logic [7:0] g[1:70]; f[1] = 3; g[2][3:0] = 4'd9; f[f[1] - 2] += 4; $display("%0d %0d %b", f[1], f[7], g[2]); endtask initial w(); endmodule
abbrev t18 : List Description
t18 = module_ (at 0 1 1) life.Unwritten (name (at 0 1 8) "t") None [] (items.Routine (routine (head (at 0 1 11) life.Automatic units.Task (name (at 0 1 26) "w") []) (decl life.Unwritten (types.Atom (at 0 1 31) atom_word.Int sign.Unwritten) (declarator (name (at 0 1 35) "f") (Some (stmts.Size (at 0 1 36) (number (at 0 1 37) "4"))) None ∷ []) ∷ decl life.Unwritten (types.WrittenType.Vector (at 0 1 41) vector_word.Logic sign.Unwritten (Some (range (at 0 1 47) (number (at 0 1 48) "7") (number (at 0 1 50) "0")))) (declarator (name (at 0 1 53) "g") (Some (stmts.Bounds (range (at 0 1 54) (number (at 0 1 55) "1") (number (at 0 1 57) "70")))) None ∷ []) ∷ []) (stmts.Statement (at 0 1 62) None (blocking (tree.Lval.Post (root.Plain (name (at 0 1 62) "f")) (tree.Select (at 0 1 63) (number (at 0 1 64) "1") tree.NoSuffix)) None (stmts.Value (number (at 0 1 69) "3"))) ∷ stmts.Statement (at 0 1 72) None (blocking (tree.Lval.Post (root.Plain (name (at 0 1 72) "g")) (tree.Select (at 0 1 73) (number (at 0 1 74) "2") (tree.Part (at 0 1 76) part_word.Fixed (number (at 0 1 77) "3") (number (at 0 1 79) "0") tree.NoSuffix))) None (stmts.Value (number (at 0 1 84) "4'd9"))) ∷ stmts.Statement (at 0 1 90) None (stmts.Body.Operator (operated (tree.Lval.Post (root.Plain (name (at 0 1 90) "f")) (tree.Select (at 0 1 91) (tree.Binary binary_word.Minus (at 0 1 97) (tree.Expr.Post (root.Plain (name (at 0 1 92) "f")) (tree.Select (at 0 1 93) (number (at 0 1 94) "1") tree.NoSuffix)) (number (at 0 1 99) "2")) tree.NoSuffix)) binary_word.Plus (number (at 0 1 105) "4"))) ∷ stmts.Statement (at 0 1 108) None (stmts.Call (system (at 0 1 108) "$display" (text (at 0 1 117) "%0d %0d %b" ∷ tree.Expr.Post (root.Plain (name (at 0 1 131) "f")) (tree.Select (at 0 1 132) (number (at 0 1 133) "1") tree.NoSuffix) ∷ tree.Expr.Post (root.Plain (name (at 0 1 137) "f")) (tree.Select (at 0 1 138) (number (at 0 1 139) "7") tree.NoSuffix) ∷ tree.Expr.Post (root.Plain (name (at 0 1 143) "g")) (tree.Select (at 0 1 144) (number (at 0 1 145) "2") tree.NoSuffix) ∷ []))) ∷ []) None) ∷ procedure (at 0 1 158) procedure_word.Initial (stmts.Statement (at 0 1 166) None (stmts.Call (tree.Expr.Post (root.Plain (name (at 0 1 166) "w")) (tree.Call (at 0 1 167) tree.NoExpr tree.NoSuffix)))) ∷ []) None ∷ []

t18_seen : seen_in (Listed []) (Listed []) (elaborated t18 [] None) 12 ≡ Ran (record { log = lines ("7 0 xxxx1001" ∷ []); wave = lines ("$timescale 1ns $end" ∷ "$scope module t $end" ∷ "$upscope $end" ∷ "$enddefinitions $end" ∷ "#0" ∷ "$dumpvars" ∷ "$end" ∷ []); outcome = Done; time = 0; steps = 9; race = Some (8, at 0 1 158) })
unfolding symbols_of word_of
t18_seen = refl

-- module t; task automatic w(); semaphore f[4]; logic [7:0] g[1:2]; f[1] = 3; g[2][3:0] = 4'd9; f[f[1] - 2] += 4; $display("%0d %0d %b", f[1], f[7], g[2]); endtask initial w(); endmodule
abbrev t19 : List Description
t19 = module_ (at 0 1 1) life.Unwritten (name (at 0 1 8) "t") None [] (items.Routine (routine (head (at 0 1 11) life.Automatic units.Task (name (at 0 1 26) "w") []) (decl life.Unwritten (types.Semaphore (at 0 1 31)) (declarator (name (at 0 1 41) "f") (Some (stmts.Size (at 0 1 42) (number (at 0 1 43) "4"))) None ∷ []) ∷ decl life.Unwritten (types.WrittenType.Vector (at 0 1 47) vector_word.Logic sign.Unwritten (Some (range (at 0 1 53) (number (at 0 1 54) "7") (number (at 0 1 56) "0")))) (declarator (name (at 0 1 59) "g") (Some (stmts.Bounds (range (at 0 1 60) (number (at 0 1 61) "1") (number (at 0 1 63) "2")))) None ∷ []) ∷ []) (stmts.Statement (at 0 1 67) None (blocking (tree.Lval.Post (root.Plain (name (at 0 1 67) "f")) (tree.Select (at 0 1 68) (number (at 0 1 69) "1") tree.NoSuffix)) None (stmts.Value (number (at 0 1 74) "3"))) ∷ stmts.Statement (at 0 1 77) None (blocking (tree.Lval.Post (root.Plain (name (at 0 1 77) "g")) (tree.Select (at 0 1 78) (number (at 0 1 79) "2") (tree.Part (at 0 1 81) part_word.Fixed (number (at 0 1 82) "3") (number (at 0 1 84) "0") tree.NoSuffix))) None (stmts.Value (number (at 0 1 89) "4'd9"))) ∷ stmts.Statement (at 0 1 95) None (stmts.Body.Operator (operated (tree.Lval.Post (root.Plain (name (at 0 1 95) "f")) (tree.Select (at 0 1 96) (tree.Binary binary_word.Minus (at 0 1 102) (tree.Expr.Post (root.Plain (name (at 0 1 97) "f")) (tree.Select (at 0 1 98) (number (at 0 1 99) "1") tree.NoSuffix)) (number (at 0 1 104) "2")) tree.NoSuffix)) binary_word.Plus (number (at 0 1 110) "4"))) ∷ stmts.Statement (at 0 1 113) None (stmts.Call (system (at 0 1 113) "$display" (text (at 0 1 122) "%0d %0d %b" ∷ tree.Expr.Post (root.Plain (name (at 0 1 136) "f")) (tree.Select (at 0 1 137) (number (at 0 1 138) "1") tree.NoSuffix) ∷ tree.Expr.Post (root.Plain (name (at 0 1 142) "f")) (tree.Select (at 0 1 143) (number (at 0 1 144) "7") tree.NoSuffix) ∷ tree.Expr.Post (root.Plain (name (at 0 1 148) "g")) (tree.Select (at 0 1 149) (number (at 0 1 150) "2") tree.NoSuffix) ∷ []))) ∷ []) None) ∷ procedure (at 0 1 163) procedure_word.Initial (stmts.Statement (at 0 1 171) None (stmts.Call (tree.Expr.Post (root.Plain (name (at 0 1 171) "w")) (tree.Call (at 0 1 172) tree.NoExpr tree.NoSuffix)))) ∷ []) None ∷ []

t19_broken : broken t19 [] None ≡ Some (fault 43 0 1 31)
unfolding symbols_of word_of
t19_broken = refl

-- module t; task automatic w(); int f[4]; logic [7:0] g[1:2]; f[1] = 3; g[2][3:0] = 4'd9; f[f[1] - 2] += null; $display("%0d %0d %b", f[1], f[7], g[2]); endtask initial w(); endmodule
abbrev t20 : List Description
t20 = module_ (at 0 1 1) life.Unwritten (name (at 0 1 8) "t") None [] (items.Routine (routine (head (at 0 1 11) life.Automatic units.Task (name (at 0 1 26) "w") []) (decl life.Unwritten (types.Atom (at 0 1 31) atom_word.Int sign.Unwritten) (declarator (name (at 0 1 35) "f") (Some (stmts.Size (at 0 1 36) (number (at 0 1 37) "4"))) None ∷ []) ∷ decl life.Unwritten (types.WrittenType.Vector (at 0 1 41) vector_word.Logic sign.Unwritten (Some (range (at 0 1 47) (number (at 0 1 48) "7") (number (at 0 1 50) "0")))) (declarator (name (at 0 1 53) "g") (Some (stmts.Bounds (range (at 0 1 54) (number (at 0 1 55) "1") (number (at 0 1 57) "2")))) None ∷ []) ∷ []) (stmts.Statement (at 0 1 61) None (blocking (tree.Lval.Post (root.Plain (name (at 0 1 61) "f")) (tree.Select (at 0 1 62) (number (at 0 1 63) "1") tree.NoSuffix)) None (stmts.Value (number (at 0 1 68) "3"))) ∷ stmts.Statement (at 0 1 71) None (blocking (tree.Lval.Post (root.Plain (name (at 0 1 71) "g")) (tree.Select (at 0 1 72) (number (at 0 1 73) "2") (tree.Part (at 0 1 75) part_word.Fixed (number (at 0 1 76) "3") (number (at 0 1 78) "0") tree.NoSuffix))) None (stmts.Value (number (at 0 1 83) "4'd9"))) ∷ stmts.Statement (at 0 1 89) None (stmts.Body.Operator (operated (tree.Lval.Post (root.Plain (name (at 0 1 89) "f")) (tree.Select (at 0 1 90) (tree.Binary binary_word.Minus (at 0 1 96) (tree.Expr.Post (root.Plain (name (at 0 1 91) "f")) (tree.Select (at 0 1 92) (number (at 0 1 93) "1") tree.NoSuffix)) (number (at 0 1 98) "2")) tree.NoSuffix)) binary_word.Plus (tree.Null (at 0 1 104)))) ∷ stmts.Statement (at 0 1 110) None (stmts.Call (system (at 0 1 110) "$display" (text (at 0 1 119) "%0d %0d %b" ∷ tree.Expr.Post (root.Plain (name (at 0 1 133) "f")) (tree.Select (at 0 1 134) (number (at 0 1 135) "1") tree.NoSuffix) ∷ tree.Expr.Post (root.Plain (name (at 0 1 139) "f")) (tree.Select (at 0 1 140) (number (at 0 1 141) "7") tree.NoSuffix) ∷ tree.Expr.Post (root.Plain (name (at 0 1 145) "g")) (tree.Select (at 0 1 146) (number (at 0 1 147) "2") tree.NoSuffix) ∷ []))) ∷ []) None) ∷ procedure (at 0 1 160) procedure_word.Initial (stmts.Statement (at 0 1 168) None (stmts.Call (tree.Expr.Post (root.Plain (name (at 0 1 168) "w")) (tree.Call (at 0 1 169) tree.NoExpr tree.NoSuffix)))) ∷ []) None ∷ []

t20_broken : broken t20 [] None ≡ Some (fault 15 0 1 104)
unfolding symbols_of word_of
t20_broken = refl

-- module t; task automatic w(); int f[4]; logic [7:0] g[1:2]; f[1] = 3; w[2][3:0] = 4'd9; f[f[1] - 2] += 4; $display("%0d %0d %b", f[1], f[7], g[2]); endtask initial w(); endmodule
abbrev t21 : List Description
t21 = module_ (at 0 1 1) life.Unwritten (name (at 0 1 8) "t") None [] (items.Routine (routine (head (at 0 1 11) life.Automatic units.Task (name (at 0 1 26) "w") []) (decl life.Unwritten (types.Atom (at 0 1 31) atom_word.Int sign.Unwritten) (declarator (name (at 0 1 35) "f") (Some (stmts.Size (at 0 1 36) (number (at 0 1 37) "4"))) None ∷ []) ∷ decl life.Unwritten (types.WrittenType.Vector (at 0 1 41) vector_word.Logic sign.Unwritten (Some (range (at 0 1 47) (number (at 0 1 48) "7") (number (at 0 1 50) "0")))) (declarator (name (at 0 1 53) "g") (Some (stmts.Bounds (range (at 0 1 54) (number (at 0 1 55) "1") (number (at 0 1 57) "2")))) None ∷ []) ∷ []) (stmts.Statement (at 0 1 61) None (blocking (tree.Lval.Post (root.Plain (name (at 0 1 61) "f")) (tree.Select (at 0 1 62) (number (at 0 1 63) "1") tree.NoSuffix)) None (stmts.Value (number (at 0 1 68) "3"))) ∷ stmts.Statement (at 0 1 71) None (blocking (tree.Lval.Post (root.Plain (name (at 0 1 71) "w")) (tree.Select (at 0 1 72) (number (at 0 1 73) "2") (tree.Part (at 0 1 75) part_word.Fixed (number (at 0 1 76) "3") (number (at 0 1 78) "0") tree.NoSuffix))) None (stmts.Value (number (at 0 1 83) "4'd9"))) ∷ stmts.Statement (at 0 1 89) None (stmts.Body.Operator (operated (tree.Lval.Post (root.Plain (name (at 0 1 89) "f")) (tree.Select (at 0 1 90) (tree.Binary binary_word.Minus (at 0 1 96) (tree.Expr.Post (root.Plain (name (at 0 1 91) "f")) (tree.Select (at 0 1 92) (number (at 0 1 93) "1") tree.NoSuffix)) (number (at 0 1 98) "2")) tree.NoSuffix)) binary_word.Plus (number (at 0 1 104) "4"))) ∷ stmts.Statement (at 0 1 107) None (stmts.Call (system (at 0 1 107) "$display" (text (at 0 1 116) "%0d %0d %b" ∷ tree.Expr.Post (root.Plain (name (at 0 1 130) "f")) (tree.Select (at 0 1 131) (number (at 0 1 132) "1") tree.NoSuffix) ∷ tree.Expr.Post (root.Plain (name (at 0 1 136) "f")) (tree.Select (at 0 1 137) (number (at 0 1 138) "7") tree.NoSuffix) ∷ tree.Expr.Post (root.Plain (name (at 0 1 142) "g")) (tree.Select (at 0 1 143) (number (at 0 1 144) "2") tree.NoSuffix) ∷ []))) ∷ []) None) ∷ procedure (at 0 1 157) procedure_word.Initial (stmts.Statement (at 0 1 165) None (stmts.Call (tree.Expr.Post (root.Plain (name (at 0 1 165) "w")) (tree.Call (at 0 1 166) tree.NoExpr tree.NoSuffix)))) ∷ []) None ∷ []

t21_broken : broken t21 [] None ≡ Some (fault 32 0 1 71)
unfolding symbols_of word_of
t21_broken = refl

-- module t; task automatic w(); int f[4]; logic [7:0] g[1:2]; f[1] = 3; g[2][3:0] = 4'd9; f[f[1] - 0] += 4; $display("%0d %0d %b", f[1], f[7], g[2]); endtask initial w(); endmodule
abbrev t22 : List Description
t22 = module_ (at 0 1 1) life.Unwritten (name (at 0 1 8) "t") None [] (items.Routine (routine (head (at 0 1 11) life.Automatic units.Task (name (at 0 1 26) "w") []) (decl life.Unwritten (types.Atom (at 0 1 31) atom_word.Int sign.Unwritten) (declarator (name (at 0 1 35) "f") (Some (stmts.Size (at 0 1 36) (number (at 0 1 37) "4"))) None ∷ []) ∷ decl life.Unwritten (types.WrittenType.Vector (at 0 1 41) vector_word.Logic sign.Unwritten (Some (range (at 0 1 47) (number (at 0 1 48) "7") (number (at 0 1 50) "0")))) (declarator (name (at 0 1 53) "g") (Some (stmts.Bounds (range (at 0 1 54) (number (at 0 1 55) "1") (number (at 0 1 57) "2")))) None ∷ []) ∷ []) (stmts.Statement (at 0 1 61) None (blocking (tree.Lval.Post (root.Plain (name (at 0 1 61) "f")) (tree.Select (at 0 1 62) (number (at 0 1 63) "1") tree.NoSuffix)) None (stmts.Value (number (at 0 1 68) "3"))) ∷ stmts.Statement (at 0 1 71) None (blocking (tree.Lval.Post (root.Plain (name (at 0 1 71) "g")) (tree.Select (at 0 1 72) (number (at 0 1 73) "2") (tree.Part (at 0 1 75) part_word.Fixed (number (at 0 1 76) "3") (number (at 0 1 78) "0") tree.NoSuffix))) None (stmts.Value (number (at 0 1 83) "4'd9"))) ∷ stmts.Statement (at 0 1 89) None (stmts.Body.Operator (operated (tree.Lval.Post (root.Plain (name (at 0 1 89) "f")) (tree.Select (at 0 1 90) (tree.Binary binary_word.Minus (at 0 1 96) (tree.Expr.Post (root.Plain (name (at 0 1 91) "f")) (tree.Select (at 0 1 92) (number (at 0 1 93) "1") tree.NoSuffix)) (number (at 0 1 98) "0")) tree.NoSuffix)) binary_word.Plus (number (at 0 1 104) "4"))) ∷ stmts.Statement (at 0 1 107) None (stmts.Call (system (at 0 1 107) "$display" (text (at 0 1 116) "%0d %0d %b" ∷ tree.Expr.Post (root.Plain (name (at 0 1 130) "f")) (tree.Select (at 0 1 131) (number (at 0 1 132) "1") tree.NoSuffix) ∷ tree.Expr.Post (root.Plain (name (at 0 1 136) "f")) (tree.Select (at 0 1 137) (number (at 0 1 138) "7") tree.NoSuffix) ∷ tree.Expr.Post (root.Plain (name (at 0 1 142) "g")) (tree.Select (at 0 1 143) (number (at 0 1 144) "2") tree.NoSuffix) ∷ []))) ∷ []) None) ∷ procedure (at 0 1 157) procedure_word.Initial (stmts.Statement (at 0 1 165) None (stmts.Call (tree.Expr.Post (root.Plain (name (at 0 1 165) "w")) (tree.Call (at 0 1 166) tree.NoExpr tree.NoSuffix)))) ∷ []) None ∷ []

t22_seen : seen_in (Listed []) (Listed []) (elaborated t22 [] None) 12 ≡ Ran (record { log = lines ("3 0 xxxx1001" ∷ []); wave = lines ("$timescale 1ns $end" ∷ "$scope module t $end" ∷ "$upscope $end" ∷ "$enddefinitions $end" ∷ "#0" ∷ "$dumpvars" ∷ "$end" ∷ []); outcome = Done; time = 0; steps = 9; race = Some (8, at 0 1 157) })
unfolding symbols_of word_of
t22_seen = refl

-- module t; int q[$]; initial q = 1'bx; endmodule
abbrev t63 : List Description
t63 = module_ (at 0 1 1) life.Unwritten (name (at 0 1 8) "t") None [] (items.Decl (decl life.Unwritten (types.Atom (at 0 1 11) atom_word.Int sign.Unwritten) (declarator (name (at 0 1 15) "q") (Some (stmts.Queue (at 0 1 16))) None ∷ [])) ∷ procedure (at 0 1 21) procedure_word.Initial (stmts.Statement (at 0 1 29) None (blocking (target (at 0 1 29) "q") None (stmts.Value (number (at 0 1 33) "1'bx")))) ∷ []) None ∷ []

t63_broken : broken t63 [] None ≡ Some (fault 16 0 1 33)
unfolding symbols_of word_of
t63_broken = refl

-- module t; int q[$]; string s[$]; initial q = q; endmodule
abbrev t64 : List Description
t64 = module_ (at 0 1 1) life.Unwritten (name (at 0 1 8) "t") None [] (items.Decl (decl life.Unwritten (types.Atom (at 0 1 11) atom_word.Int sign.Unwritten) (declarator (name (at 0 1 15) "q") (Some (stmts.Queue (at 0 1 16))) None ∷ [])) ∷ items.Decl (decl life.Unwritten (types.Text (at 0 1 21)) (declarator (name (at 0 1 28) "s") (Some (stmts.Queue (at 0 1 29))) None ∷ [])) ∷ procedure (at 0 1 34) procedure_word.Initial (stmts.Statement (at 0 1 42) None (blocking (target (at 0 1 42) "q") None (stmts.Value (plain (at 0 1 46) "q")))) ∷ []) None ∷ []

t64_seen : seen_in (Listed []) (Listed []) (elaborated t64 [] None) 7 ≡ Ran (record { log = []; wave = lines ("$timescale 1ns $end" ∷ "$scope module t $end" ∷ "$upscope $end" ∷ "$enddefinitions $end" ∷ "#0" ∷ "$dumpvars" ∷ "$end" ∷ []); outcome = Done; time = 0; steps = 4; race = Some (10, at 0 1 15) })
unfolding symbols_of word_of
t64_seen = refl

-- module t; int q[$]; always q[$] = "s"; endmodule
abbrev t65 : List Description
t65 = module_ (at 0 1 1) life.Unwritten (name (at 0 1 8) "t") None [] (items.Decl (decl life.Unwritten (types.Atom (at 0 1 11) atom_word.Int sign.Unwritten) (declarator (name (at 0 1 15) "q") (Some (stmts.Queue (at 0 1 16))) None ∷ [])) ∷ procedure (at 0 1 21) procedure_word.Always (stmts.Statement (at 0 1 28) None (blocking (tree.Lval.Post (root.Plain (name (at 0 1 28) "q")) (tree.Select (at 0 1 29) (tree.Dollar (at 0 1 30)) tree.NoSuffix)) None (stmts.Value (text (at 0 1 35) "s")))) ∷ []) None ∷ []

t65_broken : broken t65 [] None ≡ Some (fault 16 0 1 35)
unfolding symbols_of word_of
t65_broken = refl

-- module t; int q[$], x; initial x <= q; endmodule
abbrev t66 : List Description
t66 = module_ (at 0 1 1) life.Unwritten (name (at 0 1 8) "t") None [] (items.Decl (decl life.Unwritten (types.Atom (at 0 1 11) atom_word.Int sign.Unwritten) (declarator (name (at 0 1 15) "q") (Some (stmts.Queue (at 0 1 16))) None ∷ declarator (name (at 0 1 21) "x") None None ∷ [])) ∷ procedure (at 0 1 24) procedure_word.Initial (stmts.Statement (at 0 1 32) None (nonblocking (target (at 0 1 32) "x") None (plain (at 0 1 37) "q"))) ∷ []) None ∷ []

t66_broken : broken t66 [] None ≡ Some (fault 42 0 1 37)
unfolding symbols_of word_of
t66_broken = refl

-- module t; byte q[$], x; initial x = q; endmodule
abbrev t67 : List Description
t67 = module_ (at 0 1 1) life.Unwritten (name (at 0 1 8) "t") None [] (items.Decl (decl life.Unwritten (types.Atom (at 0 1 11) atom_word.Byte sign.Unwritten) (declarator (name (at 0 1 16) "q") (Some (stmts.Queue (at 0 1 17))) None ∷ declarator (name (at 0 1 22) "x") None None ∷ [])) ∷ procedure (at 0 1 25) procedure_word.Initial (stmts.Statement (at 0 1 33) None (blocking (target (at 0 1 33) "x") None (stmts.Value (plain (at 0 1 37) "q")))) ∷ []) None ∷ []

t67_broken : broken t67 [] None ≡ Some (fault 42 0 1 37)
unfolding symbols_of word_of
t67_broken = refl

-- module t; int a[3]; initial a = "s"; endmodule
abbrev t68 : List Description
t68 = module_ (at 0 1 1) life.Unwritten (name (at 0 1 8) "t") None [] (items.Decl (decl life.Unwritten (types.Atom (at 0 1 11) atom_word.Int sign.Unwritten) (declarator (name (at 0 1 15) "a") (Some (stmts.Size (at 0 1 16) (number (at 0 1 17) "3"))) None ∷ [])) ∷ procedure (at 0 1 21) procedure_word.Initial (stmts.Statement (at 0 1 29) None (blocking (target (at 0 1 29) "a") None (stmts.Value (text (at 0 1 33) "s")))) ∷ []) None ∷ []

t68_broken : broken t68 [] None ≡ Some (fault 42 0 1 29)
unfolding symbols_of word_of
t68_broken = refl

-- module t; int unsigned a[3]; initial a = 3; endmodule
abbrev t69 : List Description
t69 = module_ (at 0 1 1) life.Unwritten (name (at 0 1 8) "t") None [] (items.Decl (decl life.Unwritten (types.Atom (at 0 1 11) atom_word.Int sign.Unsigned) (declarator (name (at 0 1 24) "a") (Some (stmts.Size (at 0 1 25) (number (at 0 1 26) "3"))) None ∷ [])) ∷ procedure (at 0 1 30) procedure_word.Initial (stmts.Statement (at 0 1 38) None (blocking (target (at 0 1 38) "a") None (stmts.Value (number (at 0 1 42) "3")))) ∷ []) None ∷ []

t69_broken : broken t69 [] None ≡ Some (fault 42 0 1 38)
unfolding symbols_of word_of
t69_broken = refl

-- module a; int a[3]; initial a = 3; endmodule
abbrev t70 : List Description
t70 = module_ (at 0 1 1) life.Unwritten (name (at 0 1 8) "a") None [] (items.Decl (decl life.Unwritten (types.Atom (at 0 1 11) atom_word.Int sign.Unwritten) (declarator (name (at 0 1 15) "a") (Some (stmts.Size (at 0 1 16) (number (at 0 1 17) "3"))) None ∷ [])) ∷ procedure (at 0 1 21) procedure_word.Initial (stmts.Statement (at 0 1 29) None (blocking (target (at 0 1 29) "a") None (stmts.Value (number (at 0 1 33) "3")))) ∷ []) None ∷ []

t70_broken : broken t70 [] None ≡ Some (fault 42 0 1 29)
unfolding symbols_of word_of
t70_broken = refl

-- module t; int t[3], x; initial x = a; endmodule
abbrev t71 : List Description
t71 = module_ (at 0 1 1) life.Unwritten (name (at 0 1 8) "t") None [] (items.Decl (decl life.Unwritten (types.Atom (at 0 1 11) atom_word.Int sign.Unwritten) (declarator (name (at 0 1 15) "t") (Some (stmts.Size (at 0 1 16) (number (at 0 1 17) "3"))) None ∷ declarator (name (at 0 1 21) "x") None None ∷ [])) ∷ procedure (at 0 1 24) procedure_word.Initial (stmts.Statement (at 0 1 32) None (blocking (target (at 0 1 32) "x") None (stmts.Value (plain (at 0 1 36) "a")))) ∷ []) None ∷ []

t71_broken : broken t71 [] None ≡ Some (fault 6 0 1 36)
unfolding symbols_of word_of
t71_broken = refl

-- module t; bit a[3], x; initial x = a; endmodule
abbrev t72 : List Description
t72 = module_ (at 0 1 1) life.Unwritten (name (at 0 1 8) "t") None [] (items.Decl (decl life.Unwritten (types.WrittenType.Vector (at 0 1 11) vector_word.Bit sign.Unwritten None) (declarator (name (at 0 1 15) "a") (Some (stmts.Size (at 0 1 16) (number (at 0 1 17) "3"))) None ∷ declarator (name (at 0 1 21) "x") None None ∷ [])) ∷ procedure (at 0 1 24) procedure_word.Initial (stmts.Statement (at 0 1 32) None (blocking (target (at 0 1 32) "x") None (stmts.Value (plain (at 0 1 36) "a")))) ∷ []) None ∷ []

t72_broken : broken t72 [] None ≡ Some (fault 42 0 1 36)
unfolding symbols_of word_of
t72_broken = refl

-- module a; int a[3], x; initial x = a; endmodule
abbrev t73 : List Description
t73 = module_ (at 0 1 1) life.Unwritten (name (at 0 1 8) "a") None [] (items.Decl (decl life.Unwritten (types.Atom (at 0 1 11) atom_word.Int sign.Unwritten) (declarator (name (at 0 1 15) "a") (Some (stmts.Size (at 0 1 16) (number (at 0 1 17) "3"))) None ∷ declarator (name (at 0 1 21) "x") None None ∷ [])) ∷ procedure (at 0 1 24) procedure_word.Initial (stmts.Statement (at 0 1 32) None (blocking (target (at 0 1 32) "x") None (stmts.Value (plain (at 0 1 36) "a")))) ∷ []) None ∷ []

t73_broken : broken t73 [] None ≡ Some (fault 42 0 1 36)
unfolding symbols_of word_of
t73_broken = refl

-- module x; int a[3], x; initial x = a; endmodule
abbrev t74 : List Description
t74 = module_ (at 0 1 1) life.Unwritten (name (at 0 1 8) "x") None [] (items.Decl (decl life.Unwritten (types.Atom (at 0 1 11) atom_word.Int sign.Unwritten) (declarator (name (at 0 1 15) "a") (Some (stmts.Size (at 0 1 16) (number (at 0 1 17) "3"))) None ∷ declarator (name (at 0 1 21) "x") None None ∷ [])) ∷ procedure (at 0 1 24) procedure_word.Initial (stmts.Statement (at 0 1 32) None (blocking (target (at 0 1 32) "x") None (stmts.Value (plain (at 0 1 36) "a")))) ∷ []) None ∷ []

t74_broken : broken t74 [] None ≡ Some (fault 42 0 1 36)
unfolding symbols_of word_of
t74_broken = refl

-- module t; semaphore a[3] = 0; endmodule
abbrev t75 : List Description
t75 = module_ (at 0 1 1) life.Unwritten (name (at 0 1 8) "t") None [] (items.Decl (decl life.Unwritten (types.Semaphore (at 0 1 11)) (declarator (name (at 0 1 21) "a") (Some (stmts.Size (at 0 1 22) (number (at 0 1 23) "3"))) (Some (stmts.Value (number (at 0 1 28) "0"))) ∷ [])) ∷ []) None ∷ []

t75_broken : broken t75 [] None ≡ Some (fault 43 0 1 11)
unfolding symbols_of word_of
t75_broken = refl

-- module t; string a[0]; endmodule
abbrev t76 : List Description
t76 = module_ (at 0 1 1) life.Unwritten (name (at 0 1 8) "t") None [] (items.Decl (decl life.Unwritten (types.Text (at 0 1 11)) (declarator (name (at 0 1 18) "a") (Some (stmts.Size (at 0 1 19) (number (at 0 1 20) "0"))) None ∷ [])) ∷ []) None ∷ []

t76_broken : broken t76 [] None ≡ Some (fault 12 0 1 20)
unfolding symbols_of word_of
t76_broken = refl

-- module t; int a[zz:2]; endmodule
abbrev t77 : List Description
t77 = module_ (at 0 1 1) life.Unwritten (name (at 0 1 8) "t") None [] (items.Decl (decl life.Unwritten (types.Atom (at 0 1 11) atom_word.Int sign.Unwritten) (declarator (name (at 0 1 15) "a") (Some (stmts.Bounds (range (at 0 1 16) (plain (at 0 1 17) "zz") (number (at 0 1 20) "2")))) None ∷ [])) ∷ []) None ∷ []

t77_broken : broken t77 [] None ≡ Some (fault 6 0 1 17)
unfolding symbols_of word_of
t77_broken = refl

-- module t; int zz[1'bx:2]; endmodule
abbrev t78 : List Description
t78 = module_ (at 0 1 1) life.Unwritten (name (at 0 1 8) "t") None [] (items.Decl (decl life.Unwritten (types.Atom (at 0 1 11) atom_word.Int sign.Unwritten) (declarator (name (at 0 1 15) "zz") (Some (stmts.Bounds (range (at 0 1 17) (number (at 0 1 18) "1'bx") (number (at 0 1 23) "2")))) None ∷ [])) ∷ []) None ∷ []

t78_broken : broken t78 [] None ≡ Some (fault 12 0 1 18)
unfolding symbols_of word_of
t78_broken = refl

-- module t; int a[1'bx:zz]; endmodule
abbrev t79 : List Description
t79 = module_ (at 0 1 1) life.Unwritten (name (at 0 1 8) "t") None [] (items.Decl (decl life.Unwritten (types.Atom (at 0 1 11) atom_word.Int sign.Unwritten) (declarator (name (at 0 1 15) "a") (Some (stmts.Bounds (range (at 0 1 16) (number (at 0 1 17) "1'bx") (plain (at 0 1 22) "zz")))) None ∷ [])) ∷ []) None ∷ []

t79_broken : broken t79 [] None ≡ Some (fault 12 0 1 17)
unfolding symbols_of word_of
t79_broken = refl

-- module t; int a[1'bx:"s"]; endmodule
abbrev t80 : List Description
t80 = module_ (at 0 1 1) life.Unwritten (name (at 0 1 8) "t") None [] (items.Decl (decl life.Unwritten (types.Atom (at 0 1 11) atom_word.Int sign.Unwritten) (declarator (name (at 0 1 15) "a") (Some (stmts.Bounds (range (at 0 1 16) (number (at 0 1 17) "1'bx") (text (at 0 1 22) "s")))) None ∷ [])) ∷ []) None ∷ []

t80_broken : broken t80 [] None ≡ Some (fault 12 0 1 17)
unfolding symbols_of word_of
t80_broken = refl

-- module t; ; event a[2]; endmodule
abbrev t81 : List Description
t81 = module_ (at 0 1 1) life.Unwritten (name (at 0 1 8) "t") None [] (items.Null ∷ items.Decl (decl life.Unwritten (types.Event (at 0 1 13)) (declarator (name (at 0 1 19) "a") (Some (stmts.Size (at 0 1 20) (number (at 0 1 21) "2"))) None ∷ [])) ∷ []) None ∷ []

t81_broken : broken t81 [] None ≡ Some (fault 43 0 1 13)
unfolding symbols_of word_of
t81_broken = refl

-- module a; event a[2]; endmodule
abbrev t82 : List Description
t82 = module_ (at 0 1 1) life.Unwritten (name (at 0 1 8) "a") None [] (items.Decl (decl life.Unwritten (types.Event (at 0 1 11)) (declarator (name (at 0 1 17) "a") (Some (stmts.Size (at 0 1 18) (number (at 0 1 19) "2"))) None ∷ [])) ∷ []) None ∷ []

t82_broken : broken t82 [] None ≡ Some (fault 43 0 1 11)
unfolding symbols_of word_of
t82_broken = refl

-- module t; event zz[2]; endmodule
abbrev t83 : List Description
t83 = module_ (at 0 1 1) life.Unwritten (name (at 0 1 8) "t") None [] (items.Decl (decl life.Unwritten (types.Event (at 0 1 11)) (declarator (name (at 0 1 17) "zz") (Some (stmts.Size (at 0 1 19) (number (at 0 1 20) "2"))) None ∷ [])) ∷ []) None ∷ []

t83_broken : broken t83 [] None ≡ Some (fault 43 0 1 11)
unfolding symbols_of word_of
t83_broken = refl

-- module t; logic a[2]; endmodule
abbrev t84 : List Description
t84 = module_ (at 0 1 1) life.Unwritten (name (at 0 1 8) "t") None [] (items.Decl (decl life.Unwritten (types.WrittenType.Vector (at 0 1 11) vector_word.Logic sign.Unwritten None) (declarator (name (at 0 1 17) "a") (Some (stmts.Size (at 0 1 18) (number (at 0 1 19) "2"))) None ∷ [])) ∷ []) None ∷ []

t84_seen : seen_in (Listed []) (Listed []) (elaborated t84 [] None) 5 ≡ Ran (record { log = []; wave = lines ("$timescale 1ns $end" ∷ "$scope module t $end" ∷ "$upscope $end" ∷ "$enddefinitions $end" ∷ "#0" ∷ "$dumpvars" ∷ "$end" ∷ []); outcome = Done; time = 0; steps = 2; race = None })
unfolding symbols_of word_of
t84_seen = refl

-- module t; event t[$]; endmodule
abbrev t85 : List Description
t85 = module_ (at 0 1 1) life.Unwritten (name (at 0 1 8) "t") None [] (items.Decl (decl life.Unwritten (types.Event (at 0 1 11)) (declarator (name (at 0 1 17) "t") (Some (stmts.Queue (at 0 1 18))) None ∷ [])) ∷ []) None ∷ []

t85_broken : broken t85 [] None ≡ Some (fault 43 0 1 11)
unfolding symbols_of word_of
t85_broken = refl

-- module t; int unsigned a[event]; endmodule
abbrev t89 : List Description
t89 = module_ (at 0 1 1) life.Unwritten (name (at 0 1 8) "t") None [] (items.Decl (decl life.Unwritten (types.Atom (at 0 1 11) atom_word.Int sign.Unsigned) (declarator (name (at 0 1 24) "a") (Some (stmts.Key (at 0 1 25) (types.Event (at 0 1 26)))) None ∷ [])) ∷ []) None ∷ []

t89_broken : broken t89 [] None ≡ Some (fault 43 0 1 26)
unfolding symbols_of word_of
t89_broken = refl

-- module t;  int w; int a[w]; initial a["x"] = 1; endmodule
abbrev t90 : List Description
t90 = module_ (at 0 1 1) life.Unwritten (name (at 0 1 8) "t") None [] (items.Decl (decl life.Unwritten (types.Atom (at 0 1 12) atom_word.Int sign.Unwritten) (declarator (name (at 0 1 16) "w") None None ∷ [])) ∷ items.Decl (decl life.Unwritten (types.Atom (at 0 1 19) atom_word.Int sign.Unwritten) (declarator (name (at 0 1 23) "a") (Some (stmts.Dimension.Named (at 0 1 24) (name (at 0 1 25) "w"))) None ∷ [])) ∷ procedure (at 0 1 29) procedure_word.Initial (stmts.Statement (at 0 1 37) None (blocking (tree.Lval.Post (root.Plain (name (at 0 1 37) "a")) (tree.Select (at 0 1 38) (text (at 0 1 39) "x") tree.NoSuffix)) None (stmts.Value (number (at 0 1 46) "1")))) ∷ []) None ∷ []

t90_broken : broken t90 [] None ≡ Some (fault 11 0 1 25)
unfolding symbols_of word_of
t90_broken = refl

-- module t; typedef int w; int a[w]; always_ff a["x"] = 1; endmodule
abbrev t91 : List Description
t91 = module_ (at 0 1 1) life.Unwritten (name (at 0 1 8) "t") None [] (items.Typedef (typedef (types.Atom (at 0 1 19) atom_word.Int sign.Unwritten) (name (at 0 1 23) "w")) ∷ items.Decl (decl life.Unwritten (types.Atom (at 0 1 26) atom_word.Int sign.Unwritten) (declarator (name (at 0 1 30) "a") (Some (stmts.Dimension.Named (at 0 1 31) (name (at 0 1 32) "w"))) None ∷ [])) ∷ procedure (at 0 1 36) procedure_word.AlwaysFf (stmts.Statement (at 0 1 46) None (blocking (tree.Lval.Post (root.Plain (name (at 0 1 46) "a")) (tree.Select (at 0 1 47) (text (at 0 1 48) "x") tree.NoSuffix)) None (stmts.Value (number (at 0 1 55) "1")))) ∷ []) None ∷ []

t91_broken : broken t91 [] None ≡ Some (fault 28 0 1 36)
unfolding symbols_of word_of
t91_broken = refl

-- module t; int a[string]; always_ff a[3] = 1; endmodule
abbrev t92 : List Description
t92 = module_ (at 0 1 1) life.Unwritten (name (at 0 1 8) "t") None [] (items.Decl (decl life.Unwritten (types.Atom (at 0 1 11) atom_word.Int sign.Unwritten) (declarator (name (at 0 1 15) "a") (Some (stmts.Key (at 0 1 16) (types.Text (at 0 1 17)))) None ∷ [])) ∷ procedure (at 0 1 26) procedure_word.AlwaysFf (stmts.Statement (at 0 1 36) None (blocking (tree.Lval.Post (root.Plain (name (at 0 1 36) "a")) (tree.Select (at 0 1 37) (number (at 0 1 38) "3") tree.NoSuffix)) None (stmts.Value (number (at 0 1 43) "1")))) ∷ []) None ∷ []

t92_broken : broken t92 [] None ≡ Some (fault 28 0 1 26)
unfolding symbols_of word_of
t92_broken = refl

-- module t; typedef enum {A, B} e; int m[m]; initial begin m[A] = 1; m[1] = 2; end endmodule
abbrev t93 : List Description
t93 = module_ (at 0 1 1) life.Unwritten (name (at 0 1 8) "t") None [] (items.Typedef (typedef (types.Enum (at 0 1 19) (enum_item (name (at 0 1 25) "A") None ∷ enum_item (name (at 0 1 28) "B") None ∷ [])) (name (at 0 1 31) "e")) ∷ items.Decl (decl life.Unwritten (types.Atom (at 0 1 34) atom_word.Int sign.Unwritten) (declarator (name (at 0 1 38) "m") (Some (stmts.Dimension.Named (at 0 1 39) (name (at 0 1 40) "m"))) None ∷ [])) ∷ procedure (at 0 1 44) procedure_word.Initial (stmts.Statement (at 0 1 52) None (stmts.Block None [] (statements (stmts.Statement (at 0 1 58) None (blocking (tree.Lval.Post (root.Plain (name (at 0 1 58) "m")) (tree.Select (at 0 1 59) (plain (at 0 1 60) "A") tree.NoSuffix)) None (stmts.Value (number (at 0 1 65) "1"))) ∷ stmts.Statement (at 0 1 68) None (blocking (tree.Lval.Post (root.Plain (name (at 0 1 68) "m")) (tree.Select (at 0 1 69) (number (at 0 1 70) "1") tree.NoSuffix)) None (stmts.Value (number (at 0 1 75) "2"))) ∷ [])) None)) ∷ []) None ∷ []

t93_broken : broken t93 [] None ≡ Some (fault 7 0 1 40)
unfolding symbols_of word_of
t93_broken = refl

-- module t; typedef enum {A, B} e; string m[e]; initial begin m[A] = 1; m[1] = 2; end endmodule
abbrev t94 : List Description
t94 = module_ (at 0 1 1) life.Unwritten (name (at 0 1 8) "t") None [] (items.Typedef (typedef (types.Enum (at 0 1 19) (enum_item (name (at 0 1 25) "A") None ∷ enum_item (name (at 0 1 28) "B") None ∷ [])) (name (at 0 1 31) "e")) ∷ items.Decl (decl life.Unwritten (types.Text (at 0 1 34)) (declarator (name (at 0 1 41) "m") (Some (stmts.Dimension.Named (at 0 1 42) (name (at 0 1 43) "e"))) None ∷ [])) ∷ procedure (at 0 1 47) procedure_word.Initial (stmts.Statement (at 0 1 55) None (stmts.Block None [] (statements (stmts.Statement (at 0 1 61) None (blocking (tree.Lval.Post (root.Plain (name (at 0 1 61) "m")) (tree.Select (at 0 1 62) (plain (at 0 1 63) "A") tree.NoSuffix)) None (stmts.Value (number (at 0 1 68) "1"))) ∷ stmts.Statement (at 0 1 71) None (blocking (tree.Lval.Post (root.Plain (name (at 0 1 71) "m")) (tree.Select (at 0 1 72) (number (at 0 1 73) "1") tree.NoSuffix)) None (stmts.Value (number (at 0 1 78) "2"))) ∷ [])) None)) ∷ []) None ∷ []

t94_broken : broken t94 [] None ≡ Some (fault 16 0 1 68)
unfolding symbols_of word_of
t94_broken = refl

-- module t; int a; always_ff a = a[0][1]; endmodule
abbrev t95 : List Description
t95 = module_ (at 0 1 1) life.Unwritten (name (at 0 1 8) "t") None [] (items.Decl (decl life.Unwritten (types.Atom (at 0 1 11) atom_word.Int sign.Unwritten) (declarator (name (at 0 1 15) "a") None None ∷ [])) ∷ procedure (at 0 1 18) procedure_word.AlwaysFf (stmts.Statement (at 0 1 28) None (blocking (target (at 0 1 28) "a") None (stmts.Value (tree.Expr.Post (root.Plain (name (at 0 1 32) "a")) (tree.Select (at 0 1 33) (number (at 0 1 34) "0") (tree.Select (at 0 1 36) (number (at 0 1 37) "1") tree.NoSuffix)))))) ∷ []) None ∷ []

t95_broken : broken t95 [] None ≡ Some (fault 28 0 1 18)
unfolding symbols_of word_of
t95_broken = refl

-- module t; byte a; initial a = a[0][1]; endmodule
abbrev t96 : List Description
t96 = module_ (at 0 1 1) life.Unwritten (name (at 0 1 8) "t") None [] (items.Decl (decl life.Unwritten (types.Atom (at 0 1 11) atom_word.Byte sign.Unwritten) (declarator (name (at 0 1 16) "a") None None ∷ [])) ∷ procedure (at 0 1 19) procedure_word.Initial (stmts.Statement (at 0 1 27) None (blocking (target (at 0 1 27) "a") None (stmts.Value (tree.Expr.Post (root.Plain (name (at 0 1 31) "a")) (tree.Select (at 0 1 32) (number (at 0 1 33) "0") (tree.Select (at 0 1 35) (number (at 0 1 36) "1") tree.NoSuffix)))))) ∷ []) None ∷ []

t96_broken : broken t96 [] None ≡ Some (fault 14 0 1 35)
unfolding symbols_of word_of
t96_broken = refl

-- module a; int a; initial a = a[0][1]; endmodule
abbrev t97 : List Description
t97 = module_ (at 0 1 1) life.Unwritten (name (at 0 1 8) "a") None [] (items.Decl (decl life.Unwritten (types.Atom (at 0 1 11) atom_word.Int sign.Unwritten) (declarator (name (at 0 1 15) "a") None None ∷ [])) ∷ procedure (at 0 1 18) procedure_word.Initial (stmts.Statement (at 0 1 26) None (blocking (target (at 0 1 26) "a") None (stmts.Value (tree.Expr.Post (root.Plain (name (at 0 1 30) "a")) (tree.Select (at 0 1 31) (number (at 0 1 32) "0") (tree.Select (at 0 1 34) (number (at 0 1 35) "1") tree.NoSuffix)))))) ∷ []) None ∷ []

t97_broken : broken t97 [] None ≡ Some (fault 14 0 1 34)
unfolding symbols_of word_of
t97_broken = refl

-- module t; int a; initial t = a[0][1]; endmodule
abbrev t98 : List Description
t98 = module_ (at 0 1 1) life.Unwritten (name (at 0 1 8) "t") None [] (items.Decl (decl life.Unwritten (types.Atom (at 0 1 11) atom_word.Int sign.Unwritten) (declarator (name (at 0 1 15) "a") None None ∷ [])) ∷ procedure (at 0 1 18) procedure_word.Initial (stmts.Statement (at 0 1 26) None (blocking (target (at 0 1 26) "t") None (stmts.Value (tree.Expr.Post (root.Plain (name (at 0 1 30) "a")) (tree.Select (at 0 1 31) (number (at 0 1 32) "0") (tree.Select (at 0 1 34) (number (at 0 1 35) "1") tree.NoSuffix)))))) ∷ []) None ∷ []

t98_broken : broken t98 [] None ≡ Some (fault 7 0 1 26)
unfolding symbols_of word_of
t98_broken = refl

-- module t; int a; initial a = a[0][1'bx]; endmodule
abbrev t99 : List Description
t99 = module_ (at 0 1 1) life.Unwritten (name (at 0 1 8) "t") None [] (items.Decl (decl life.Unwritten (types.Atom (at 0 1 11) atom_word.Int sign.Unwritten) (declarator (name (at 0 1 15) "a") None None ∷ [])) ∷ procedure (at 0 1 18) procedure_word.Initial (stmts.Statement (at 0 1 26) None (blocking (target (at 0 1 26) "a") None (stmts.Value (tree.Expr.Post (root.Plain (name (at 0 1 30) "a")) (tree.Select (at 0 1 31) (number (at 0 1 32) "0") (tree.Select (at 0 1 34) (number (at 0 1 35) "1'bx") tree.NoSuffix)))))) ∷ []) None ∷ []

t99_broken : broken t99 [] None ≡ Some (fault 14 0 1 34)
unfolding symbols_of word_of
t99_broken = refl

-- module t; logic [0:0] a; initial a[7:4][1] = 1; endmodule
abbrev t100 : List Description
t100 = module_ (at 0 1 1) life.Unwritten (name (at 0 1 8) "t") None [] (items.Decl (decl life.Unwritten (types.WrittenType.Vector (at 0 1 11) vector_word.Logic sign.Unwritten (Some (range (at 0 1 17) (number (at 0 1 18) "0") (number (at 0 1 20) "0")))) (declarator (name (at 0 1 23) "a") None None ∷ [])) ∷ procedure (at 0 1 26) procedure_word.Initial (stmts.Statement (at 0 1 34) None (blocking (tree.Lval.Post (root.Plain (name (at 0 1 34) "a")) (tree.Part (at 0 1 35) part_word.Fixed (number (at 0 1 36) "7") (number (at 0 1 38) "4") (tree.Select (at 0 1 40) (number (at 0 1 41) "1") tree.NoSuffix))) None (stmts.Value (number (at 0 1 46) "1")))) ∷ []) None ∷ []

t100_broken : broken t100 [] None ≡ Some (fault 14 0 1 40)
unfolding symbols_of word_of
t100_broken = refl

-- module t; logic [7:0] a; initial a[7:4][1] <= 1; endmodule
abbrev t101 : List Description
t101 = module_ (at 0 1 1) life.Unwritten (name (at 0 1 8) "t") None [] (items.Decl (decl life.Unwritten (types.WrittenType.Vector (at 0 1 11) vector_word.Logic sign.Unwritten (Some (range (at 0 1 17) (number (at 0 1 18) "7") (number (at 0 1 20) "0")))) (declarator (name (at 0 1 23) "a") None None ∷ [])) ∷ procedure (at 0 1 26) procedure_word.Initial (stmts.Statement (at 0 1 34) None (nonblocking (tree.Lval.Post (root.Plain (name (at 0 1 34) "a")) (tree.Part (at 0 1 35) part_word.Fixed (number (at 0 1 36) "7") (number (at 0 1 38) "4") (tree.Select (at 0 1 40) (number (at 0 1 41) "1") tree.NoSuffix))) None (number (at 0 1 47) "1"))) ∷ []) None ∷ []

t101_broken : broken t101 [] None ≡ Some (fault 14 0 1 40)
unfolding symbols_of word_of
t101_broken = refl

-- module t; string q[$]; initial q[1:2] = 3; endmodule
abbrev t102 : List Description
t102 = module_ (at 0 1 1) life.Unwritten (name (at 0 1 8) "t") None [] (items.Decl (decl life.Unwritten (types.Text (at 0 1 11)) (declarator (name (at 0 1 18) "q") (Some (stmts.Queue (at 0 1 19))) None ∷ [])) ∷ procedure (at 0 1 24) procedure_word.Initial (stmts.Statement (at 0 1 32) None (blocking (tree.Lval.Post (root.Plain (name (at 0 1 32) "q")) (tree.Part (at 0 1 33) part_word.Fixed (number (at 0 1 34) "1") (number (at 0 1 36) "2") tree.NoSuffix)) None (stmts.Value (number (at 0 1 41) "3")))) ∷ []) None ∷ []

t102_broken : broken t102 [] None ≡ Some (fault 14 0 1 33)
unfolding symbols_of word_of
t102_broken = refl

-- module t; int q[$]; initial q[1: initial2] = 3; endmodule
abbrev t103 : List Description
t103 = module_ (at 0 1 1) life.Unwritten (name (at 0 1 8) "t") None [] (items.Decl (decl life.Unwritten (types.Atom (at 0 1 11) atom_word.Int sign.Unwritten) (declarator (name (at 0 1 15) "q") (Some (stmts.Queue (at 0 1 16))) None ∷ [])) ∷ procedure (at 0 1 21) procedure_word.Initial (stmts.Statement (at 0 1 29) None (blocking (tree.Lval.Post (root.Plain (name (at 0 1 29) "q")) (tree.Part (at 0 1 30) part_word.Fixed (number (at 0 1 31) "1") (plain (at 0 1 34) "initial2") tree.NoSuffix)) None (stmts.Value (number (at 0 1 46) "3")))) ∷ []) None ∷ []

t103_broken : broken t103 [] None ≡ Some (fault 14 0 1 30)
unfolding symbols_of word_of
t103_broken = refl

-- module t; int d[]; initial zz[$] = 1; endmodule
abbrev t105 : List Description
t105 = module_ (at 0 1 1) life.Unwritten (name (at 0 1 8) "t") None [] (items.Decl (decl life.Unwritten (types.Atom (at 0 1 11) atom_word.Int sign.Unwritten) (declarator (name (at 0 1 15) "d") (Some (stmts.Empty (at 0 1 16))) None ∷ [])) ∷ procedure (at 0 1 20) procedure_word.Initial (stmts.Statement (at 0 1 28) None (blocking (tree.Lval.Post (root.Plain (name (at 0 1 28) "zz")) (tree.Select (at 0 1 30) (tree.Dollar (at 0 1 31)) tree.NoSuffix)) None (stmts.Value (number (at 0 1 36) "1")))) ∷ []) None ∷ []

t105_broken : broken t105 [] None ≡ Some (fault 6 0 1 28)
unfolding symbols_of word_of
t105_broken = refl
