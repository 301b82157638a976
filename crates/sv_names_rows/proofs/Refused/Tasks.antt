-- Texts that break a rule, or come close to it: system tasks, statements and event controls.
use Rattle.std.proofs.Common.{◌≡◌, List, [], ◌∷◌, refl}
use Rattle.std.specs.Prelude.{Some, None}
use Rattle.sv_value.specs.Vector.{symbols_of, word_of}
use Rattle.sv_flat.specs.declared.choices.Choices.TheVariants.{Listed}
use Rattle.sv_flat.specs.Directed.{Done}
use Rattle.sv_tree.specs.declared.word.AtomWord.TheVariants as atom_word
use Rattle.sv_tree.specs.declared.word.Sign.TheVariants as sign
use Rattle.sv_tree.specs.declared.word.Life.TheVariants as life
use Rattle.sv_tree.specs.declared.word.CaseWord.TheVariants as case_word
use Rattle.sv_tree.specs.declared.word.EdgeWord.TheVariants as edge
use Rattle.sv_tree.specs.declared.word.ProcedureWord.TheVariants as procedure_word
use Rattle.sv_tree.specs.declared.expr.Root.TheVariants as root
use Rattle.sv_tree.specs.Expr as tree
use Rattle.sv_tree.specs.Types as types
use Rattle.sv_tree.specs.Stmt as stmts
use Rattle.sv_tree.specs.Items as items
use Rattle.sv_tree.specs.Descriptions.{Description}
use Rattle.sv_names.specs.Design.{broken, elaborated}
use Rattle.sv_names_rows.proofs.Kit.{at, blocking, decl, declarator, delay, event_part, expressions, fault, lines, module_, name, number, plain, procedure, seen_in, system, target, text, Ran}

-- module t; initial $display("%"); endmodule
abbrev t1 : List Description
t1 = module_ (at 0 1 1) life.Unwritten (name (at 0 1 8) "t") None [] (procedure (at 0 1 11) procedure_word.Initial (stmts.Statement (at 0 1 19) None (stmts.Call (system (at 0 1 19) "$display" (text (at 0 1 28) "%" ∷ [])))) ∷ []) None ∷ []

t1_broken : broken t1 [] None ≡ Some (fault 50 0 1 28)
unfolding symbols_of word_of
t1_broken = refl

-- module t; initial $display("%1000d", 1); endmodule
abbrev t2 : List Description
t2 = module_ (at 0 1 1) life.Unwritten (name (at 0 1 8) "t") None [] (procedure (at 0 1 11) procedure_word.Initial (stmts.Statement (at 0 1 19) None (stmts.Call (system (at 0 1 19) "$display" (text (at 0 1 28) "%1000d" ∷ number (at 0 1 38) "1" ∷ [])))) ∷ []) None ∷ []

t2_broken : broken t2 [] None ≡ Some (fault 50 0 1 28)
unfolding symbols_of word_of
t2_broken = refl

-- module t; initial $display("%s", 1); endmodule
abbrev t3 : List Description
t3 = module_ (at 0 1 1) life.Unwritten (name (at 0 1 8) "t") None [] (procedure (at 0 1 11) procedure_word.Initial (stmts.Statement (at 0 1 19) None (stmts.Call (system (at 0 1 19) "$display" (text (at 0 1 28) "%s" ∷ number (at 0 1 34) "1" ∷ [])))) ∷ []) None ∷ []

t3_broken : broken t3 [] None ≡ Some (fault 50 0 1 34)
unfolding symbols_of word_of
t3_broken = refl

-- module t; event e; initial $display(e); endmodule
abbrev t4 : List Description
t4 = module_ (at 0 1 1) life.Unwritten (name (at 0 1 8) "t") None [] (items.Decl (decl life.Unwritten (types.Event (at 0 1 11)) (declarator (name (at 0 1 17) "e") None None ∷ [])) ∷ procedure (at 0 1 20) procedure_word.Initial (stmts.Statement (at 0 1 28) None (stmts.Call (system (at 0 1 28) "$display" (plain (at 0 1 37) "e" ∷ [])))) ∷ []) None ∷ []

t4_broken : broken t4 [] None ≡ Some (fault 50 0 1 37)
unfolding symbols_of word_of
t4_broken = refl

-- module t; int q[$]; initial $display(q); endmodule
abbrev t5 : List Description
t5 = module_ (at 0 1 1) life.Unwritten (name (at 0 1 8) "t") None [] (items.Decl (decl life.Unwritten (types.Atom (at 0 1 11) atom_word.Int sign.Unwritten) (declarator (name (at 0 1 15) "q") (Some (stmts.Queue (at 0 1 16))) None ∷ [])) ∷ procedure (at 0 1 21) procedure_word.Initial (stmts.Statement (at 0 1 29) None (stmts.Call (system (at 0 1 29) "$display" (plain (at 0 1 38) "q" ∷ [])))) ∷ []) None ∷ []

t5_broken : broken t5 [] None ≡ Some (fault 42 0 1 38)
unfolding symbols_of word_of
t5_broken = refl

-- module t; string s, f; initial s = $sformatf(f); endmodule
abbrev t6 : List Description
t6 = module_ (at 0 1 1) life.Unwritten (name (at 0 1 8) "t") None [] (items.Decl (decl life.Unwritten (types.Text (at 0 1 11)) (declarator (name (at 0 1 18) "s") None None ∷ declarator (name (at 0 1 21) "f") None None ∷ [])) ∷ procedure (at 0 1 24) procedure_word.Initial (stmts.Statement (at 0 1 32) None (blocking (target (at 0 1 32) "s") None (stmts.Value (system (at 0 1 36) "$sformatf" (plain (at 0 1 46) "f" ∷ []))))) ∷ []) None ∷ []

t6_broken : broken t6 [] None ≡ Some (fault 50 0 1 46)
unfolding symbols_of word_of
t6_broken = refl

-- module t; string s, f; initial s = $sformatf(); endmodule
abbrev t7 : List Description
t7 = module_ (at 0 1 1) life.Unwritten (name (at 0 1 8) "t") None [] (items.Decl (decl life.Unwritten (types.Text (at 0 1 11)) (declarator (name (at 0 1 18) "s") None None ∷ declarator (name (at 0 1 21) "f") None None ∷ [])) ∷ procedure (at 0 1 24) procedure_word.Initial (stmts.Statement (at 0 1 32) None (blocking (target (at 0 1 32) "s") None (stmts.Value (system (at 0 1 36) "$sformatf" [])))) ∷ []) None ∷ []

t7_broken : broken t7 [] None ≡ Some (fault 50 0 1 36)
unfolding symbols_of word_of
t7_broken = refl

-- module t; string s; initial s = $sformatf("%d", "x"); endmodule
abbrev t8 : List Description
t8 = module_ (at 0 1 1) life.Unwritten (name (at 0 1 8) "t") None [] (items.Decl (decl life.Unwritten (types.Text (at 0 1 11)) (declarator (name (at 0 1 18) "s") None None ∷ [])) ∷ procedure (at 0 1 21) procedure_word.Initial (stmts.Statement (at 0 1 29) None (blocking (target (at 0 1 29) "s") None (stmts.Value (system (at 0 1 33) "$sformatf" (text (at 0 1 43) "%d" ∷ text (at 0 1 49) "x" ∷ []))))) ∷ []) None ∷ []

t8_broken : broken t8 [] None ≡ Some (fault 50 0 1 49)
unfolding symbols_of word_of
t8_broken = refl

-- module t; initial $time; endmodule
abbrev t9 : List Description
t9 = module_ (at 0 1 1) life.Unwritten (name (at 0 1 8) "t") None [] (procedure (at 0 1 11) procedure_word.Initial (stmts.Statement (at 0 1 19) None (stmts.Call (tree.System (name (at 0 1 19) "$time") tree.Unwritten))) ∷ []) None ∷ []

t9_seen : seen_in (Listed []) (Listed []) (elaborated t9 [] None) 7 ≡ Ran (record { log = []; wave = lines ("$timescale 1ns $end" ∷ "$scope module t $end" ∷ "$upscope $end" ∷ "$enddefinitions $end" ∷ "#0" ∷ "$dumpvars" ∷ "$end" ∷ []); outcome = Done; time = 0; steps = 4; race = Some (8, at 0 1 11) })
unfolding symbols_of word_of
t9_seen = refl

-- module t; int x; initial x = $display("x"); endmodule
abbrev t10 : List Description
t10 = module_ (at 0 1 1) life.Unwritten (name (at 0 1 8) "t") None [] (items.Decl (decl life.Unwritten (types.Atom (at 0 1 11) atom_word.Int sign.Unwritten) (declarator (name (at 0 1 15) "x") None None ∷ [])) ∷ procedure (at 0 1 18) procedure_word.Initial (stmts.Statement (at 0 1 26) None (blocking (target (at 0 1 26) "x") None (stmts.Value (system (at 0 1 30) "$display" (text (at 0 1 39) "x" ∷ []))))) ∷ []) None ∷ []

t10_broken : broken t10 [] None ≡ Some (fault 32 0 1 30)
unfolding symbols_of word_of
t10_broken = refl

-- module t; int x; initial x = $bits(); endmodule
abbrev t11 : List Description
t11 = module_ (at 0 1 1) life.Unwritten (name (at 0 1 8) "t") None [] (items.Decl (decl life.Unwritten (types.Atom (at 0 1 11) atom_word.Int sign.Unwritten) (declarator (name (at 0 1 15) "x") None None ∷ [])) ∷ procedure (at 0 1 18) procedure_word.Initial (stmts.Statement (at 0 1 26) None (blocking (target (at 0 1 26) "x") None (stmts.Value (system (at 0 1 30) "$bits" [])))) ∷ []) None ∷ []

t11_broken : broken t11 [] None ≡ Some (fault 31 0 1 30)
unfolding symbols_of word_of
t11_broken = refl

-- module t; int x; initial x = $clog2("s"); endmodule
abbrev t12 : List Description
t12 = module_ (at 0 1 1) life.Unwritten (name (at 0 1 8) "t") None [] (items.Decl (decl life.Unwritten (types.Atom (at 0 1 11) atom_word.Int sign.Unwritten) (declarator (name (at 0 1 15) "x") None None ∷ [])) ∷ procedure (at 0 1 18) procedure_word.Initial (stmts.Statement (at 0 1 26) None (blocking (target (at 0 1 26) "x") None (stmts.Value (system (at 0 1 30) "$clog2" (text (at 0 1 37) "s" ∷ []))))) ∷ []) None ∷ []

t12_broken : broken t12 [] None ≡ Some (fault 15 0 1 37)
unfolding symbols_of word_of
t12_broken = refl

-- module t; int x; initial x = $foo(y); endmodule
abbrev t13 : List Description
t13 = module_ (at 0 1 1) life.Unwritten (name (at 0 1 8) "t") None [] (items.Decl (decl life.Unwritten (types.Atom (at 0 1 11) atom_word.Int sign.Unwritten) (declarator (name (at 0 1 15) "x") None None ∷ [])) ∷ procedure (at 0 1 18) procedure_word.Initial (stmts.Statement (at 0 1 26) None (blocking (target (at 0 1 26) "x") None (stmts.Value (system (at 0 1 30) "$foo" (plain (at 0 1 35) "y" ∷ []))))) ∷ []) None ∷ []

t13_broken : broken t13 [] None ≡ Some (fault 55 0 1 30)
unfolding symbols_of word_of
t13_broken = refl

-- module t; initial $finish(1, 2); endmodule
abbrev t14 : List Description
t14 = module_ (at 0 1 1) life.Unwritten (name (at 0 1 8) "t") None [] (procedure (at 0 1 11) procedure_word.Initial (stmts.Statement (at 0 1 19) None (stmts.Call (system (at 0 1 19) "$finish" (number (at 0 1 27) "1" ∷ number (at 0 1 30) "2" ∷ [])))) ∷ []) None ∷ []

t14_broken : broken t14 [] None ≡ Some (fault 31 0 1 19)
unfolding symbols_of word_of
t14_broken = refl

-- module t; int x; initial foreach (x[i]) ; endmodule
abbrev t15 : List Description
t15 = module_ (at 0 1 1) life.Unwritten (name (at 0 1 8) "t") None [] (items.Decl (decl life.Unwritten (types.Atom (at 0 1 11) atom_word.Int sign.Unwritten) (declarator (name (at 0 1 15) "x") None None ∷ [])) ∷ procedure (at 0 1 18) procedure_word.Initial (stmts.Statement (at 0 1 26) None (stmts.Foreach (name (at 0 1 35) "x") (name (at 0 1 37) "i") (stmts.Statement (at 0 1 41) None stmts.Null))) ∷ []) None ∷ []

t15_broken : broken t15 [] None ≡ Some (fault 7 0 1 35)
unfolding symbols_of word_of
t15_broken = refl

-- module t; initial foreach (q[i]) ; endmodule
abbrev t16 : List Description
t16 = module_ (at 0 1 1) life.Unwritten (name (at 0 1 8) "t") None [] (procedure (at 0 1 11) procedure_word.Initial (stmts.Statement (at 0 1 19) None (stmts.Foreach (name (at 0 1 28) "q") (name (at 0 1 30) "i") (stmts.Statement (at 0 1 34) None stmts.Null))) ∷ []) None ∷ []

t16_broken : broken t16 [] None ≡ Some (fault 6 0 1 28)
unfolding symbols_of word_of
t16_broken = refl

-- module t; int q[$]; initial foreach (q[i]) i.x = 1; endmodule
abbrev t17 : List Description
t17 = module_ (at 0 1 1) life.Unwritten (name (at 0 1 8) "t") None [] (items.Decl (decl life.Unwritten (types.Atom (at 0 1 11) atom_word.Int sign.Unwritten) (declarator (name (at 0 1 15) "q") (Some (stmts.Queue (at 0 1 16))) None ∷ [])) ∷ procedure (at 0 1 21) procedure_word.Initial (stmts.Statement (at 0 1 29) None (stmts.Foreach (name (at 0 1 38) "q") (name (at 0 1 40) "i") (stmts.Statement (at 0 1 44) None (blocking (tree.Lval.Post (root.Plain (name (at 0 1 44) "i")) (tree.Member (name (at 0 1 46) "x") tree.NoSuffix)) None (stmts.Value (number (at 0 1 50) "1")))))) ∷ []) None ∷ []

t17_broken : broken t17 [] None ≡ Some (fault 36 0 1 46)
unfolding symbols_of word_of
t17_broken = refl

-- module t; string s; initial repeat (s) ; endmodule
abbrev t18 : List Description
t18 = module_ (at 0 1 1) life.Unwritten (name (at 0 1 8) "t") None [] (items.Decl (decl life.Unwritten (types.Text (at 0 1 11)) (declarator (name (at 0 1 18) "s") None None ∷ [])) ∷ procedure (at 0 1 21) procedure_word.Initial (stmts.Statement (at 0 1 29) None (stmts.Repeat (plain (at 0 1 37) "s") (stmts.Statement (at 0 1 40) None stmts.Null))) ∷ []) None ∷ []

t18_broken : broken t18 [] None ≡ Some (fault 15 0 1 37)
unfolding symbols_of word_of
t18_broken = refl

-- module t; string s; initial #s ; endmodule
abbrev t19 : List Description
t19 = module_ (at 0 1 1) life.Unwritten (name (at 0 1 8) "t") None [] (items.Decl (decl life.Unwritten (types.Text (at 0 1 11)) (declarator (name (at 0 1 18) "s") None None ∷ [])) ∷ procedure (at 0 1 21) procedure_word.Initial (stmts.Statement (at 0 1 29) None (stmts.After (delay (at 0 1 29) (plain (at 0 1 30) "s")) (stmts.Statement (at 0 1 32) None stmts.Null))) ∷ []) None ∷ []

t19_broken : broken t19 [] None ≡ Some (fault 15 0 1 30)
unfolding symbols_of word_of
t19_broken = refl

-- module t; string s; initial case (s) 1: ; endcase endmodule
abbrev t20 : List Description
t20 = module_ (at 0 1 1) life.Unwritten (name (at 0 1 8) "t") None [] (items.Decl (decl life.Unwritten (types.Text (at 0 1 11)) (declarator (name (at 0 1 18) "s") None None ∷ [])) ∷ procedure (at 0 1 21) procedure_word.Initial (stmts.Statement (at 0 1 29) None (stmts.Case case_word.Exact (plain (at 0 1 35) "s") (stmts.Labels (expressions (number (at 0 1 38) "1" ∷ [])) (stmts.Statement (at 0 1 41) None stmts.Null) stmts.NoCaseItem))) ∷ []) None ∷ []

t20_broken : broken t20 [] None ≡ Some (fault 15 0 1 38)
unfolding symbols_of word_of
t20_broken = refl

-- module t; event s; initial case (s) 1: ; endcase endmodule
abbrev t21 : List Description
t21 = module_ (at 0 1 1) life.Unwritten (name (at 0 1 8) "t") None [] (items.Decl (decl life.Unwritten (types.Event (at 0 1 11)) (declarator (name (at 0 1 17) "s") None None ∷ [])) ∷ procedure (at 0 1 20) procedure_word.Initial (stmts.Statement (at 0 1 28) None (stmts.Case case_word.Exact (plain (at 0 1 34) "s") (stmts.Labels (expressions (number (at 0 1 37) "1" ∷ [])) (stmts.Statement (at 0 1 40) None stmts.Null) stmts.NoCaseItem))) ∷ []) None ∷ []

t21_broken : broken t21 [] None ≡ Some (fault 15 0 1 34)
unfolding symbols_of word_of
t21_broken = refl

-- module t; int q[$]; initial case (q) 1: ; endcase endmodule
abbrev t22 : List Description
t22 = module_ (at 0 1 1) life.Unwritten (name (at 0 1 8) "t") None [] (items.Decl (decl life.Unwritten (types.Atom (at 0 1 11) atom_word.Int sign.Unwritten) (declarator (name (at 0 1 15) "q") (Some (stmts.Queue (at 0 1 16))) None ∷ [])) ∷ procedure (at 0 1 21) procedure_word.Initial (stmts.Statement (at 0 1 29) None (stmts.Case case_word.Exact (plain (at 0 1 35) "q") (stmts.Labels (expressions (number (at 0 1 38) "1" ∷ [])) (stmts.Statement (at 0 1 41) None stmts.Null) stmts.NoCaseItem))) ∷ []) None ∷ []

t22_broken : broken t22 [] None ≡ Some (fault 42 0 1 35)
unfolding symbols_of word_of
t22_broken = refl

-- module t; int q[$]; initial case (1) q: ; endcase endmodule
abbrev t23 : List Description
t23 = module_ (at 0 1 1) life.Unwritten (name (at 0 1 8) "t") None [] (items.Decl (decl life.Unwritten (types.Atom (at 0 1 11) atom_word.Int sign.Unwritten) (declarator (name (at 0 1 15) "q") (Some (stmts.Queue (at 0 1 16))) None ∷ [])) ∷ procedure (at 0 1 21) procedure_word.Initial (stmts.Statement (at 0 1 29) None (stmts.Case case_word.Exact (number (at 0 1 35) "1") (stmts.Labels (expressions (plain (at 0 1 38) "q" ∷ [])) (stmts.Statement (at 0 1 41) None stmts.Null) stmts.NoCaseItem))) ∷ []) None ∷ []

t23_broken : broken t23 [] None ≡ Some (fault 42 0 1 38)
unfolding symbols_of word_of
t23_broken = refl

-- module t; string s; initial @(posedge s) ; endmodule
abbrev t24 : List Description
t24 = module_ (at 0 1 1) life.Unwritten (name (at 0 1 8) "t") None [] (items.Decl (decl life.Unwritten (types.Text (at 0 1 11)) (declarator (name (at 0 1 18) "s") None None ∷ [])) ∷ procedure (at 0 1 21) procedure_word.Initial (stmts.Statement (at 0 1 29) None (stmts.On (stmts.Parts (event_part edge.Posedge (plain (at 0 1 39) "s") None ∷ [])) (stmts.Statement (at 0 1 42) None stmts.Null))) ∷ []) None ∷ []

t24_broken : broken t24 [] None ≡ Some (fault 15 0 1 39)
unfolding symbols_of word_of
t24_broken = refl

-- module t; event s; initial @(posedge s) ; endmodule
abbrev t25 : List Description
t25 = module_ (at 0 1 1) life.Unwritten (name (at 0 1 8) "t") None [] (items.Decl (decl life.Unwritten (types.Event (at 0 1 11)) (declarator (name (at 0 1 17) "s") None None ∷ [])) ∷ procedure (at 0 1 20) procedure_word.Initial (stmts.Statement (at 0 1 28) None (stmts.On (stmts.Parts (event_part edge.Posedge (plain (at 0 1 38) "s") None ∷ [])) (stmts.Statement (at 0 1 41) None stmts.Null))) ∷ []) None ∷ []

t25_broken : broken t25 [] None ≡ Some (fault 15 0 1 38)
unfolding symbols_of word_of
t25_broken = refl

-- module t; int q[$]; initial @(q) ; endmodule
abbrev t26 : List Description
t26 = module_ (at 0 1 1) life.Unwritten (name (at 0 1 8) "t") None [] (items.Decl (decl life.Unwritten (types.Atom (at 0 1 11) atom_word.Int sign.Unwritten) (declarator (name (at 0 1 15) "q") (Some (stmts.Queue (at 0 1 16))) None ∷ [])) ∷ procedure (at 0 1 21) procedure_word.Initial (stmts.Statement (at 0 1 29) None (stmts.On (stmts.Parts (event_part edge.Unwritten (plain (at 0 1 31) "q") None ∷ [])) (stmts.Statement (at 0 1 34) None stmts.Null))) ∷ []) None ∷ []

t26_broken : broken t26 [] None ≡ Some (fault 42 0 1 31)
unfolding symbols_of word_of
t26_broken = refl
