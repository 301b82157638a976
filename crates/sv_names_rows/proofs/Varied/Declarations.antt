-- Declarations, in texts that differ in a word or two from others: the first rule that is broken, or what a run shows.
use Rattle.std.proofs.Common.{◌≡◌, List, [], ◌∷◌, true, false, refl}
use Rattle.std.specs.Prelude.{Some, None}
use Rattle.sv_value.specs.Vector.{symbols_of, word_of}
use Rattle.sv_flat.specs.declared.choices.Choices.TheVariants.{Listed}
use Rattle.sv_flat.specs.Directed.{Done}
use Rattle.sv_tree.specs.declared.word.BinaryWord.TheVariants as binary_word
use Rattle.sv_tree.specs.declared.word.VectorWord.TheVariants as vector_word
use Rattle.sv_tree.specs.declared.word.AtomWord.TheVariants as atom_word
use Rattle.sv_tree.specs.declared.word.Sign.TheVariants as sign
use Rattle.sv_tree.specs.declared.word.Life.TheVariants as life
use Rattle.sv_tree.specs.declared.word.JoinWord.TheVariants as join_word
use Rattle.sv_tree.specs.declared.word.StepWord.TheVariants as step_word
use Rattle.sv_tree.specs.declared.word.ProcedureWord.TheVariants as procedure_word
use Rattle.sv_tree.specs.declared.expr.Root.TheVariants as root
use Rattle.sv_tree.specs.Expr as tree
use Rattle.sv_tree.specs.Types as types
use Rattle.sv_tree.specs.Stmt as stmts
use Rattle.sv_tree.specs.Units as units
use Rattle.sv_tree.specs.Classes as classes
use Rattle.sv_tree.specs.Items as items
use Rattle.sv_tree.specs.Descriptions as descriptions
use Rattle.sv_tree.specs.Descriptions.{Description}
use Rattle.sv_names.specs.Design.{broken, elaborated}
use Rattle.sv_names_rows.proofs.Kit.{argument, at, blocking, class_, decl, declarator, expressions, fault, head, lines, method, module_, name, number, plain, procedure, property, qualifiers, routine, seen_in, statements, system, target, text, typedef, unqualified, Ran}

-- module t; mailbox #(string) m = new; string x; initial begin m.put("hi"); m.peek(x); $display("%s %0d", m, m.num()); m.get(x); $display("%0d", m.try_get(x)); end endmodule
abbrev t23 : List Description
t23 = module_ (at 0 1 1) life.Unwritten (name (at 0 1 8) "t") None [] (items.Decl (decl life.Unwritten (types.MailboxOf (at 0 1 11) (types.Text (at 0 1 21))) (declarator (name (at 0 1 29) "m") None (Some (stmts.New (at 0 1 33) tree.Unwritten)) ∷ [])) ∷ items.Decl (decl life.Unwritten (types.Text (at 0 1 38)) (declarator (name (at 0 1 45) "x") None None ∷ [])) ∷ procedure (at 0 1 48) procedure_word.Initial (stmts.Statement (at 0 1 56) None (stmts.Block None [] (statements (stmts.Statement (at 0 1 62) None (stmts.Call (tree.Expr.Post (root.Plain (name (at 0 1 62) "m")) (tree.Member (name (at 0 1 64) "put") (tree.Call (at 0 1 67) (expressions (text (at 0 1 68) "hi" ∷ [])) tree.NoSuffix)))) ∷ stmts.Statement (at 0 1 75) None (stmts.Call (tree.Expr.Post (root.Plain (name (at 0 1 75) "m")) (tree.Member (name (at 0 1 77) "peek") (tree.Call (at 0 1 81) (expressions (plain (at 0 1 82) "x" ∷ [])) tree.NoSuffix)))) ∷ stmts.Statement (at 0 1 86) None (stmts.Call (system (at 0 1 86) "$display" (text (at 0 1 95) "%s %0d" ∷ plain (at 0 1 105) "m" ∷ tree.Expr.Post (root.Plain (name (at 0 1 108) "m")) (tree.Member (name (at 0 1 110) "num") (tree.Call (at 0 1 113) tree.NoExpr tree.NoSuffix)) ∷ []))) ∷ stmts.Statement (at 0 1 118) None (stmts.Call (tree.Expr.Post (root.Plain (name (at 0 1 118) "m")) (tree.Member (name (at 0 1 120) "get") (tree.Call (at 0 1 123) (expressions (plain (at 0 1 124) "x" ∷ [])) tree.NoSuffix)))) ∷ stmts.Statement (at 0 1 128) None (stmts.Call (system (at 0 1 128) "$display" (text (at 0 1 137) "%0d" ∷ tree.Expr.Post (root.Plain (name (at 0 1 144) "m")) (tree.Member (name (at 0 1 146) "try_get") (tree.Call (at 0 1 153) (expressions (plain (at 0 1 154) "x" ∷ [])) tree.NoSuffix)) ∷ []))) ∷ [])) None)) ∷ []) None ∷ []

t23_broken : broken t23 [] None ≡ Some (fault 50 0 1 105)
unfolding symbols_of word_of
t23_broken = refl

-- module t; typedef class C; event C; endmodule
abbrev t24 : List Description
t24 = module_ (at 0 1 1) life.Unwritten (name (at 0 1 8) "t") None [] (items.Announce (name (at 0 1 25) "C") ∷ items.Decl (decl life.Unwritten (types.Event (at 0 1 28)) (declarator (name (at 0 1 34) "C") None None ∷ [])) ∷ []) None ∷ []

t24_broken : broken t24 [] None ≡ Some (fault 58 0 1 25)
unfolding symbols_of word_of
t24_broken = refl

-- module t; typedef class C; int t; endmodule
abbrev t25 : List Description
t25 = module_ (at 0 1 1) life.Unwritten (name (at 0 1 8) "t") None [] (items.Announce (name (at 0 1 25) "C") ∷ items.Decl (decl life.Unwritten (types.Atom (at 0 1 28) atom_word.Int sign.Unwritten) (declarator (name (at 0 1 32) "t") None None ∷ [])) ∷ []) None ∷ []

t25_broken : broken t25 [] None ≡ Some (fault 58 0 1 25)
unfolding symbols_of word_of
t25_broken = refl

-- module t; typedef class zz; int C; endmodule
abbrev t26 : List Description
t26 = module_ (at 0 1 1) life.Unwritten (name (at 0 1 8) "t") None [] (items.Announce (name (at 0 1 25) "zz") ∷ items.Decl (decl life.Unwritten (types.Atom (at 0 1 29) atom_word.Int sign.Unwritten) (declarator (name (at 0 1 33) "C") None None ∷ [])) ∷ []) None ∷ []

t26_broken : broken t26 [] None ≡ Some (fault 58 0 1 25)
unfolding symbols_of word_of
t26_broken = refl

-- module C; typedef class C; typedef class C; class C; endclass C x; endmodule
abbrev t27 : List Description
t27 = module_ (at 0 1 1) life.Unwritten (name (at 0 1 8) "C") None [] (items.Announce (name (at 0 1 25) "C") ∷ items.Announce (name (at 0 1 42) "C") ∷ items.Class (class_ (at 0 1 45) false (name (at 0 1 51) "C") None [] None) ∷ items.Decl (decl life.Unwritten (types.Named (name (at 0 1 63) "C")) (declarator (name (at 0 1 65) "x") None None ∷ [])) ∷ []) None ∷ []

t27_seen : seen_in (Listed []) (Listed []) (elaborated t27 [] None) 5 ≡ Ran (record { log = []; wave = lines ("$timescale 1ns $end" ∷ "$scope module C $end" ∷ "$upscope $end" ∷ "$enddefinitions $end" ∷ "#0" ∷ "$dumpvars" ∷ "$end" ∷ []); outcome = Done; time = 0; steps = 2; race = Some (10, at 0 1 65) })
unfolding symbols_of word_of
t27_seen = refl

-- module t; typedef class C; typedef class C; class C; endclass C C; endmodule
abbrev t28 : List Description
t28 = module_ (at 0 1 1) life.Unwritten (name (at 0 1 8) "t") None [] (items.Announce (name (at 0 1 25) "C") ∷ items.Announce (name (at 0 1 42) "C") ∷ items.Class (class_ (at 0 1 45) false (name (at 0 1 51) "C") None [] None) ∷ items.Decl (decl life.Unwritten (types.Named (name (at 0 1 63) "C")) (declarator (name (at 0 1 65) "C") None None ∷ [])) ∷ []) None ∷ []

t28_broken : broken t28 [] None ≡ Some (fault 5 0 1 65)
unfolding symbols_of word_of
t28_broken = refl

-- typedef class C; module x; C x; endmodule
abbrev t29 : List Description
t29 = descriptions.Item (items.Announce (name (at 0 1 15) "C")) ∷ module_ (at 0 1 18) life.Unwritten (name (at 0 1 25) "x") None [] (items.Decl (decl life.Unwritten (types.Named (name (at 0 1 28) "C")) (declarator (name (at 0 1 30) "x") None None ∷ [])) ∷ []) None ∷ []

t29_broken : broken t29 [] None ≡ Some (fault 58 0 1 15)
unfolding symbols_of word_of
t29_broken = refl

-- typedef class t; module t; C x; endmodule
abbrev t30 : List Description
t30 = descriptions.Item (items.Announce (name (at 0 1 15) "t")) ∷ module_ (at 0 1 18) life.Unwritten (name (at 0 1 25) "t") None [] (items.Decl (decl life.Unwritten (types.Named (name (at 0 1 28) "C")) (declarator (name (at 0 1 30) "x") None None ∷ [])) ∷ []) None ∷ []

t30_broken : broken t30 [] None ≡ Some (fault 58 0 1 15)
unfolding symbols_of word_of
t30_broken = refl

-- typedef class C; module t; C C; endmodule
abbrev t31 : List Description
t31 = descriptions.Item (items.Announce (name (at 0 1 15) "C")) ∷ module_ (at 0 1 18) life.Unwritten (name (at 0 1 25) "t") None [] (items.Decl (decl life.Unwritten (types.Named (name (at 0 1 28) "C")) (declarator (name (at 0 1 30) "C") None None ∷ [])) ∷ []) None ∷ []

t31_broken : broken t31 [] None ≡ Some (fault 58 0 1 15)
unfolding symbols_of word_of
t31_broken = refl

-- module t; class C; typedef class C; endclass endmodule
abbrev t32 : List Description
t32 = module_ (at 0 1 1) life.Unwritten (name (at 0 1 8) "t") None [] (items.Class (class_ (at 0 1 11) false (name (at 0 1 17) "C") None (classes.Announce (name (at 0 1 34) "C") ∷ []) None) ∷ []) None ∷ []

t32_broken : broken t32 [] None ≡ Some (fault 58 0 1 34)
unfolding symbols_of word_of
t32_broken = refl

-- module C; class C; typedef class D; endclass endmodule
abbrev t33 : List Description
t33 = module_ (at 0 1 1) life.Unwritten (name (at 0 1 8) "C") None [] (items.Class (class_ (at 0 1 11) false (name (at 0 1 17) "C") None (classes.Announce (name (at 0 1 34) "D") ∷ []) None) ∷ []) None ∷ []

t33_broken : broken t33 [] None ≡ Some (fault 58 0 1 34)
unfolding symbols_of word_of
t33_broken = refl

-- module zz; class C; int a; static int a; endclass endmodule
abbrev t34 : List Description
t34 = module_ (at 0 1 1) life.Unwritten (name (at 0 1 8) "zz") None [] (items.Class (class_ (at 0 1 12) false (name (at 0 1 18) "C") None (property unqualified (decl life.Unwritten (types.Atom (at 0 1 21) atom_word.Int sign.Unwritten) (declarator (name (at 0 1 25) "a") None None ∷ [])) ∷ property (qualifiers false false true false) (decl life.Unwritten (types.Atom (at 0 1 35) atom_word.Int sign.Unwritten) (declarator (name (at 0 1 39) "a") None None ∷ [])) ∷ []) None) ∷ []) None ∷ []

t34_broken : broken t34 [] None ≡ Some (fault 5 0 1 39)
unfolding symbols_of word_of
t34_broken = refl

-- module t; class C; int a; protected int a; endclass endmodule
abbrev t35 : List Description
t35 = module_ (at 0 1 1) life.Unwritten (name (at 0 1 8) "t") None [] (items.Class (class_ (at 0 1 11) false (name (at 0 1 17) "C") None (property unqualified (decl life.Unwritten (types.Atom (at 0 1 20) atom_word.Int sign.Unwritten) (declarator (name (at 0 1 24) "a") None None ∷ [])) ∷ property (qualifiers false true false false) (decl life.Unwritten (types.Atom (at 0 1 37) atom_word.Int sign.Unwritten) (declarator (name (at 0 1 41) "a") None None ∷ [])) ∷ []) None) ∷ []) None ∷ []

t35_broken : broken t35 [] None ≡ Some (fault 5 0 1 41)
unfolding symbols_of word_of
t35_broken = refl

-- module t; class C; function new(); endfunction function new(int C); endfunction endclass endmodule
abbrev t36 : List Description
t36 = module_ (at 0 1 1) life.Unwritten (name (at 0 1 8) "t") None [] (items.Class (class_ (at 0 1 11) false (name (at 0 1 17) "C") None (method unqualified (routine (head (at 0 1 20) life.Unwritten (units.Returns.Value types.Unwritten) (name (at 0 1 29) "new") []) [] [] None) ∷ method unqualified (routine (head (at 0 1 48) life.Unwritten (units.Returns.Value types.Unwritten) (name (at 0 1 57) "new") (argument None (types.Written (types.Atom (at 0 1 61) atom_word.Int sign.Unwritten)) (name (at 0 1 65) "C") None ∷ [])) [] [] None) ∷ []) None) ∷ []) None ∷ []

t36_broken : broken t36 [] None ≡ Some (fault 5 0 1 57)
unfolding symbols_of word_of
t36_broken = refl

-- module t; class C; function new(); endfunction function new(byte x); endfunction endclass endmodule
abbrev t37 : List Description
t37 = module_ (at 0 1 1) life.Unwritten (name (at 0 1 8) "t") None [] (items.Class (class_ (at 0 1 11) false (name (at 0 1 17) "C") None (method unqualified (routine (head (at 0 1 20) life.Unwritten (units.Returns.Value types.Unwritten) (name (at 0 1 29) "new") []) [] [] None) ∷ method unqualified (routine (head (at 0 1 48) life.Unwritten (units.Returns.Value types.Unwritten) (name (at 0 1 57) "new") (argument None (types.Written (types.Atom (at 0 1 61) atom_word.Byte sign.Unwritten)) (name (at 0 1 66) "x") None ∷ [])) [] [] None) ∷ []) None) ∷ []) None ∷ []

t37_broken : broken t37 [] None ≡ Some (fault 5 0 1 57)
unfolding symbols_of word_of
t37_broken = refl

-- module t; class C; function new(); endfunction function new(semaphore x); endfunction endclass endmodule
abbrev t38 : List Description
t38 = module_ (at 0 1 1) life.Unwritten (name (at 0 1 8) "t") None [] (items.Class (class_ (at 0 1 11) false (name (at 0 1 17) "C") None (method unqualified (routine (head (at 0 1 20) life.Unwritten (units.Returns.Value types.Unwritten) (name (at 0 1 29) "new") []) [] [] None) ∷ method unqualified (routine (head (at 0 1 48) life.Unwritten (units.Returns.Value types.Unwritten) (name (at 0 1 57) "new") (argument None (types.Written (types.Semaphore (at 0 1 61))) (name (at 0 1 71) "x") None ∷ [])) [] [] None) ∷ []) None) ∷ []) None ∷ []

t38_broken : broken t38 [] None ≡ Some (fault 5 0 1 57)
unfolding symbols_of word_of
t38_broken = refl

-- module D; class C; endclass : D endmodule
abbrev t39 : List Description
t39 = module_ (at 0 1 1) life.Unwritten (name (at 0 1 8) "D") None [] (items.Class (class_ (at 0 1 11) false (name (at 0 1 17) "C") None [] (Some (name (at 0 1 31) "D"))) ∷ []) None ∷ []

t39_broken : broken t39 [] None ≡ Some (fault 5 0 1 31)
unfolding symbols_of word_of
t39_broken = refl

-- module t; class C; ; endclass : D endmodule
abbrev t40 : List Description
t40 = module_ (at 0 1 1) life.Unwritten (name (at 0 1 8) "t") None [] (items.Class (class_ (at 0 1 11) false (name (at 0 1 17) "C") None (classes.Null ∷ []) (Some (name (at 0 1 33) "D"))) ∷ []) None ∷ []

t40_broken : broken t40 [] None ≡ Some (fault 5 0 1 33)
unfolding symbols_of word_of
t40_broken = refl

-- module t; function int f(int a); int zz; endfunction endmodule
abbrev t41 : List Description
t41 = module_ (at 0 1 1) life.Unwritten (name (at 0 1 8) "t") None [] (items.Routine (routine (head (at 0 1 11) life.Unwritten (units.Returns.Value (types.Written (types.Atom (at 0 1 20) atom_word.Int sign.Unwritten))) (name (at 0 1 24) "f") (argument None (types.Written (types.Atom (at 0 1 26) atom_word.Int sign.Unwritten)) (name (at 0 1 30) "a") None ∷ [])) (decl life.Unwritten (types.Atom (at 0 1 34) atom_word.Int sign.Unwritten) (declarator (name (at 0 1 38) "zz") None None ∷ []) ∷ []) [] None) ∷ []) None ∷ []

t41_seen : seen_in (Listed []) (Listed []) (elaborated t41 [] None) 5 ≡ Ran (record { log = []; wave = lines ("$timescale 1ns $end" ∷ "$scope module t $end" ∷ "$upscope $end" ∷ "$enddefinitions $end" ∷ "#0" ∷ "$dumpvars" ∷ "$end" ∷ []); outcome = Done; time = 0; steps = 2; race = None })
unfolding symbols_of word_of
t41_seen = refl

-- module t; task w(); begin : x end begin : t end endtask endmodule
abbrev t42 : List Description
t42 = module_ (at 0 1 1) life.Unwritten (name (at 0 1 8) "t") None [] (items.Routine (routine (head (at 0 1 11) life.Unwritten units.Task (name (at 0 1 16) "w") []) [] (stmts.Statement (at 0 1 21) None (stmts.Block (Some (name (at 0 1 29) "x")) [] stmts.NoStmt None) ∷ stmts.Statement (at 0 1 35) None (stmts.Block (Some (name (at 0 1 43) "t")) [] stmts.NoStmt None) ∷ []) None) ∷ []) None ∷ []

t42_seen : seen_in (Listed []) (Listed []) (elaborated t42 [] None) 5 ≡ Ran (record { log = []; wave = lines ("$timescale 1ns $end" ∷ "$scope module t $end" ∷ "$upscope $end" ∷ "$enddefinitions $end" ∷ "#0" ∷ "$dumpvars" ∷ "$end" ∷ []); outcome = Done; time = 0; steps = 2; race = None })
unfolding symbols_of word_of
t42_seen = refl

-- module t; always_ff for (int i = 0; i < 2; i++) begin : i int j; int j; end endmodule
abbrev t43 : List Description
t43 = module_ (at 0 1 1) life.Unwritten (name (at 0 1 8) "t") None [] (procedure (at 0 1 11) procedure_word.AlwaysFf (stmts.Statement (at 0 1 21) None (stmts.For (stmts.Declare (types.Atom (at 0 1 26) atom_word.Int sign.Unwritten) (name (at 0 1 30) "i") (number (at 0 1 34) "0")) (tree.Binary binary_word.Less (at 0 1 39) (plain (at 0 1 37) "i") (number (at 0 1 41) "2")) (stmts.ForStep.Step (at 0 1 44) (target (at 0 1 44) "i") step_word.Increment) (stmts.Statement (at 0 1 49) None (stmts.Block (Some (name (at 0 1 57) "i")) (decl life.Unwritten (types.Atom (at 0 1 59) atom_word.Int sign.Unwritten) (declarator (name (at 0 1 63) "j") None None ∷ []) ∷ decl life.Unwritten (types.Atom (at 0 1 66) atom_word.Int sign.Unwritten) (declarator (name (at 0 1 70) "j") None None ∷ []) ∷ []) stmts.NoStmt None)))) ∷ []) None ∷ []

t43_broken : broken t43 [] None ≡ Some (fault 28 0 1 11)
unfolding symbols_of word_of
t43_broken = refl

-- module t; initial fork : f int a;  a; join_none endmodule
abbrev t44 : List Description
t44 = module_ (at 0 1 1) life.Unwritten (name (at 0 1 8) "t") None [] (procedure (at 0 1 11) procedure_word.Initial (stmts.Statement (at 0 1 19) None (stmts.Fork (Some (name (at 0 1 26) "f")) (decl life.Unwritten (types.Atom (at 0 1 28) atom_word.Int sign.Unwritten) (declarator (name (at 0 1 32) "a") None None ∷ []) ∷ []) (statements (stmts.Statement (at 0 1 36) None (stmts.Call (plain (at 0 1 36) "a")) ∷ [])) join_word.None None)) ∷ []) None ∷ []

t44_broken : broken t44 [] None ≡ Some (fault 7 0 1 36)
unfolding symbols_of word_of
t44_broken = refl

-- module t; initial begin int k = "s"; end endmodule
abbrev t45 : List Description
t45 = module_ (at 0 1 1) life.Unwritten (name (at 0 1 8) "t") None [] (procedure (at 0 1 11) procedure_word.Initial (stmts.Statement (at 0 1 19) None (stmts.Block None (decl life.Unwritten (types.Atom (at 0 1 25) atom_word.Int sign.Unwritten) (declarator (name (at 0 1 29) "k") None (Some (stmts.Value (text (at 0 1 33) "s"))) ∷ []) ∷ []) stmts.NoStmt None)) ∷ []) None ∷ []

t45_broken : broken t45 [] None ≡ Some (fault 16 0 1 33)
unfolding symbols_of word_of
t45_broken = refl

-- module t; initial begin bit k = 3; end endmodule
abbrev t46 : List Description
t46 = module_ (at 0 1 1) life.Unwritten (name (at 0 1 8) "t") None [] (procedure (at 0 1 11) procedure_word.Initial (stmts.Statement (at 0 1 19) None (stmts.Block None (decl life.Unwritten (types.WrittenType.Vector (at 0 1 25) vector_word.Bit sign.Unwritten None) (declarator (name (at 0 1 29) "k") None (Some (stmts.Value (number (at 0 1 33) "3"))) ∷ []) ∷ []) stmts.NoStmt None)) ∷ []) None ∷ []

t46_broken : broken t46 [] None ≡ Some (fault 41 0 1 33)
unfolding symbols_of word_of
t46_broken = refl

-- module t; initial begin int t = 3; end endmodule
abbrev t47 : List Description
t47 = module_ (at 0 1 1) life.Unwritten (name (at 0 1 8) "t") None [] (procedure (at 0 1 11) procedure_word.Initial (stmts.Statement (at 0 1 19) None (stmts.Block None (decl life.Unwritten (types.Atom (at 0 1 25) atom_word.Int sign.Unwritten) (declarator (name (at 0 1 29) "t") None (Some (stmts.Value (number (at 0 1 33) "3"))) ∷ []) ∷ []) stmts.NoStmt None)) ∷ []) None ∷ []

t47_broken : broken t47 [] None ≡ Some (fault 41 0 1 33)
unfolding symbols_of word_of
t47_broken = refl

-- module t; initial begin  k = 3; end endmodule
abbrev t48 : List Description
t48 = module_ (at 0 1 1) life.Unwritten (name (at 0 1 8) "t") None [] (procedure (at 0 1 11) procedure_word.Initial (stmts.Statement (at 0 1 19) None (stmts.Block None [] (statements (stmts.Statement (at 0 1 26) None (blocking (target (at 0 1 26) "k") None (stmts.Value (number (at 0 1 30) "3"))) ∷ [])) None)) ∷ []) None ∷ []

t48_broken : broken t48 [] None ≡ Some (fault 6 0 1 26)
unfolding symbols_of word_of
t48_broken = refl

-- module t; function  f(); int k = 3; endfunction endmodule
abbrev t49 : List Description
t49 = module_ (at 0 1 1) life.Unwritten (name (at 0 1 8) "t") None [] (items.Routine (routine (head (at 0 1 11) life.Unwritten (units.Returns.Value types.Unwritten) (name (at 0 1 21) "f") []) (decl life.Unwritten (types.Atom (at 0 1 26) atom_word.Int sign.Unwritten) (declarator (name (at 0 1 30) "k") None (Some (stmts.Value (number (at 0 1 34) "3"))) ∷ []) ∷ []) [] None) ∷ []) None ∷ []

t49_broken : broken t49 [] None ≡ Some (fault 41 0 1 34)
unfolding symbols_of word_of
t49_broken = refl

-- module t; function void f(); event k = 3; endfunction endmodule
abbrev t50 : List Description
t50 = module_ (at 0 1 1) life.Unwritten (name (at 0 1 8) "t") None [] (items.Routine (routine (head (at 0 1 11) life.Unwritten units.Void (name (at 0 1 25) "f") []) (decl life.Unwritten (types.Event (at 0 1 30)) (declarator (name (at 0 1 36) "k") None (Some (stmts.Value (number (at 0 1 40) "3"))) ∷ []) ∷ []) [] None) ∷ []) None ∷ []

t50_broken : broken t50 [] None ≡ Some (fault 16 0 1 40)
unfolding symbols_of word_of
t50_broken = refl

-- module k; function void f(); int k = 3; endfunction endmodule
abbrev t51 : List Description
t51 = module_ (at 0 1 1) life.Unwritten (name (at 0 1 8) "k") None [] (items.Routine (routine (head (at 0 1 11) life.Unwritten units.Void (name (at 0 1 25) "f") []) (decl life.Unwritten (types.Atom (at 0 1 30) atom_word.Int sign.Unwritten) (declarator (name (at 0 1 34) "k") None (Some (stmts.Value (number (at 0 1 38) "3"))) ∷ []) ∷ []) [] None) ∷ []) None ∷ []

t51_broken : broken t51 [] None ≡ Some (fault 41 0 1 38)
unfolding symbols_of word_of
t51_broken = refl

-- module t; ; initial begin automatic int k = x; end endmodule
abbrev t52 : List Description
t52 = module_ (at 0 1 1) life.Unwritten (name (at 0 1 8) "t") None [] (items.Null ∷ procedure (at 0 1 13) procedure_word.Initial (stmts.Statement (at 0 1 21) None (stmts.Block None (decl life.Automatic (types.Atom (at 0 1 37) atom_word.Int sign.Unwritten) (declarator (name (at 0 1 41) "k") None (Some (stmts.Value (plain (at 0 1 45) "x"))) ∷ []) ∷ []) stmts.NoStmt None)) ∷ []) None ∷ []

t52_broken : broken t52 [] None ≡ Some (fault 6 0 1 45)
unfolding symbols_of word_of
t52_broken = refl

-- module t; initial begin automatic int k = t; end endmodule
abbrev t53 : List Description
t53 = module_ (at 0 1 1) life.Unwritten (name (at 0 1 8) "t") None [] (procedure (at 0 1 11) procedure_word.Initial (stmts.Statement (at 0 1 19) None (stmts.Block None (decl life.Automatic (types.Atom (at 0 1 35) atom_word.Int sign.Unwritten) (declarator (name (at 0 1 39) "k") None (Some (stmts.Value (plain (at 0 1 43) "t"))) ∷ []) ∷ []) stmts.NoStmt None)) ∷ []) None ∷ []

t53_broken : broken t53 [] None ≡ Some (fault 7 0 1 43)
unfolding symbols_of word_of
t53_broken = refl

-- module t; initial begin automatic bit k = x; end endmodule
abbrev t54 : List Description
t54 = module_ (at 0 1 1) life.Unwritten (name (at 0 1 8) "t") None [] (procedure (at 0 1 11) procedure_word.Initial (stmts.Statement (at 0 1 19) None (stmts.Block None (decl life.Automatic (types.WrittenType.Vector (at 0 1 35) vector_word.Bit sign.Unwritten None) (declarator (name (at 0 1 39) "k") None (Some (stmts.Value (plain (at 0 1 43) "x"))) ∷ []) ∷ []) stmts.NoStmt None)) ∷ []) None ∷ []

t54_broken : broken t54 [] None ≡ Some (fault 6 0 1 43)
unfolding symbols_of word_of
t54_broken = refl

-- module x; initial begin automatic int k = x; end endmodule
abbrev t55 : List Description
t55 = module_ (at 0 1 1) life.Unwritten (name (at 0 1 8) "x") None [] (procedure (at 0 1 11) procedure_word.Initial (stmts.Statement (at 0 1 19) None (stmts.Block None (decl life.Automatic (types.Atom (at 0 1 35) atom_word.Int sign.Unwritten) (declarator (name (at 0 1 39) "k") None (Some (stmts.Value (plain (at 0 1 43) "x"))) ∷ []) ∷ []) stmts.NoStmt None)) ∷ []) None ∷ []

t55_broken : broken t55 [] None ≡ Some (fault 7 0 1 43)
unfolding symbols_of word_of
t55_broken = refl

-- module t; initial begin automatic byte k = x; end endmodule
abbrev t56 : List Description
t56 = module_ (at 0 1 1) life.Unwritten (name (at 0 1 8) "t") None [] (procedure (at 0 1 11) procedure_word.Initial (stmts.Statement (at 0 1 19) None (stmts.Block None (decl life.Automatic (types.Atom (at 0 1 35) atom_word.Byte sign.Unwritten) (declarator (name (at 0 1 40) "k") None (Some (stmts.Value (plain (at 0 1 44) "x"))) ∷ []) ∷ []) stmts.NoStmt None)) ∷ []) None ∷ []

t56_broken : broken t56 [] None ≡ Some (fault 6 0 1 44)
unfolding symbols_of word_of
t56_broken = refl

-- module t; always_ff begin static int k = f(); end function int f(); return 1; endfunction endmodule
abbrev t57 : List Description
t57 = module_ (at 0 1 1) life.Unwritten (name (at 0 1 8) "t") None [] (procedure (at 0 1 11) procedure_word.AlwaysFf (stmts.Statement (at 0 1 21) None (stmts.Block None (decl life.Static (types.Atom (at 0 1 34) atom_word.Int sign.Unwritten) (declarator (name (at 0 1 38) "k") None (Some (stmts.Value (tree.Expr.Post (root.Plain (name (at 0 1 42) "f")) (tree.Call (at 0 1 43) tree.NoExpr tree.NoSuffix)))) ∷ []) ∷ []) stmts.NoStmt None)) ∷ items.Routine (routine (head (at 0 1 51) life.Unwritten (units.Returns.Value (types.Written (types.Atom (at 0 1 60) atom_word.Int sign.Unwritten))) (name (at 0 1 64) "f") []) [] (stmts.Statement (at 0 1 69) None (stmts.Return (Some (number (at 0 1 76) "1"))) ∷ []) None) ∷ []) None ∷ []

t57_broken : broken t57 [] None ≡ Some (fault 28 0 1 11)
unfolding symbols_of word_of
t57_broken = refl

-- module t; always begin static int k = f(); end function int f(); return 1; endfunction endmodule
abbrev t58 : List Description
t58 = module_ (at 0 1 1) life.Unwritten (name (at 0 1 8) "t") None [] (procedure (at 0 1 11) procedure_word.Always (stmts.Statement (at 0 1 18) None (stmts.Block None (decl life.Static (types.Atom (at 0 1 31) atom_word.Int sign.Unwritten) (declarator (name (at 0 1 35) "k") None (Some (stmts.Value (tree.Expr.Post (root.Plain (name (at 0 1 39) "f")) (tree.Call (at 0 1 40) tree.NoExpr tree.NoSuffix)))) ∷ []) ∷ []) stmts.NoStmt None)) ∷ items.Routine (routine (head (at 0 1 48) life.Unwritten (units.Returns.Value (types.Written (types.Atom (at 0 1 57) atom_word.Int sign.Unwritten))) (name (at 0 1 61) "f") []) [] (stmts.Statement (at 0 1 66) None (stmts.Return (Some (number (at 0 1 73) "1"))) ∷ []) None) ∷ []) None ∷ []

t58_broken : broken t58 [] None ≡ Some (fault 25 0 1 39)
unfolding symbols_of word_of
t58_broken = refl

-- module t; initial begin static int f = f(); end function int f(); return 1; endfunction endmodule
abbrev t59 : List Description
t59 = module_ (at 0 1 1) life.Unwritten (name (at 0 1 8) "t") None [] (procedure (at 0 1 11) procedure_word.Initial (stmts.Statement (at 0 1 19) None (stmts.Block None (decl life.Static (types.Atom (at 0 1 32) atom_word.Int sign.Unwritten) (declarator (name (at 0 1 36) "f") None (Some (stmts.Value (tree.Expr.Post (root.Plain (name (at 0 1 40) "f")) (tree.Call (at 0 1 41) tree.NoExpr tree.NoSuffix)))) ∷ []) ∷ []) stmts.NoStmt None)) ∷ items.Routine (routine (head (at 0 1 49) life.Unwritten (units.Returns.Value (types.Written (types.Atom (at 0 1 58) atom_word.Int sign.Unwritten))) (name (at 0 1 62) "f") []) [] (stmts.Statement (at 0 1 67) None (stmts.Return (Some (number (at 0 1 74) "1"))) ∷ []) None) ∷ []) None ∷ []

t59_broken : broken t59 [] None ≡ Some (fault 7 0 1 40)
unfolding symbols_of word_of
t59_broken = refl

-- module t; initial begin static int k = f(); end function  f(); return 1; endfunction endmodule
abbrev t60 : List Description
t60 = module_ (at 0 1 1) life.Unwritten (name (at 0 1 8) "t") None [] (procedure (at 0 1 11) procedure_word.Initial (stmts.Statement (at 0 1 19) None (stmts.Block None (decl life.Static (types.Atom (at 0 1 32) atom_word.Int sign.Unwritten) (declarator (name (at 0 1 36) "k") None (Some (stmts.Value (tree.Expr.Post (root.Plain (name (at 0 1 40) "f")) (tree.Call (at 0 1 41) tree.NoExpr tree.NoSuffix)))) ∷ []) ∷ []) stmts.NoStmt None)) ∷ items.Routine (routine (head (at 0 1 49) life.Unwritten (units.Returns.Value types.Unwritten) (name (at 0 1 59) "f") []) [] (stmts.Statement (at 0 1 64) None (stmts.Return (Some (number (at 0 1 71) "1"))) ∷ []) None) ∷ []) None ∷ []

t60_broken : broken t60 [] None ≡ Some (fault 25 0 1 40)
unfolding symbols_of word_of
t60_broken = refl

-- module zz; task automatic w(int n); static int a = n; endtask initial w(1); endmodule
abbrev t61 : List Description
t61 = module_ (at 0 1 1) life.Unwritten (name (at 0 1 8) "zz") None [] (items.Routine (routine (head (at 0 1 12) life.Automatic units.Task (name (at 0 1 27) "w") (argument None (types.Written (types.Atom (at 0 1 29) atom_word.Int sign.Unwritten)) (name (at 0 1 33) "n") None ∷ [])) (decl life.Static (types.Atom (at 0 1 44) atom_word.Int sign.Unwritten) (declarator (name (at 0 1 48) "a") None (Some (stmts.Value (plain (at 0 1 52) "n"))) ∷ []) ∷ []) [] None) ∷ procedure (at 0 1 63) procedure_word.Initial (stmts.Statement (at 0 1 71) None (stmts.Call (tree.Expr.Post (root.Plain (name (at 0 1 71) "w")) (tree.Call (at 0 1 72) (expressions (number (at 0 1 73) "1" ∷ [])) tree.NoSuffix)))) ∷ []) None ∷ []

t61_broken : broken t61 [] None ≡ Some (fault 7 0 1 52)
unfolding symbols_of word_of
t61_broken = refl

-- module t; task automatic w(string n); static int a = n; endtask initial w(1); endmodule
abbrev t62 : List Description
t62 = module_ (at 0 1 1) life.Unwritten (name (at 0 1 8) "t") None [] (items.Routine (routine (head (at 0 1 11) life.Automatic units.Task (name (at 0 1 26) "w") (argument None (types.Written (types.Text (at 0 1 28))) (name (at 0 1 35) "n") None ∷ [])) (decl life.Static (types.Atom (at 0 1 46) atom_word.Int sign.Unwritten) (declarator (name (at 0 1 50) "a") None (Some (stmts.Value (plain (at 0 1 54) "n"))) ∷ []) ∷ []) [] None) ∷ procedure (at 0 1 65) procedure_word.Initial (stmts.Statement (at 0 1 73) None (stmts.Call (tree.Expr.Post (root.Plain (name (at 0 1 73) "w")) (tree.Call (at 0 1 74) (expressions (number (at 0 1 75) "1" ∷ [])) tree.NoSuffix)))) ∷ []) None ∷ []

t62_broken : broken t62 [] None ≡ Some (fault 7 0 1 54)
unfolding symbols_of word_of
t62_broken = refl

-- module t; mailbox #(string) m; endmodule
abbrev t86 : List Description
t86 = module_ (at 0 1 1) life.Unwritten (name (at 0 1 8) "t") None [] (items.Decl (decl life.Unwritten (types.MailboxOf (at 0 1 11) (types.Text (at 0 1 21))) (declarator (name (at 0 1 29) "m") None None ∷ [])) ∷ []) None ∷ []

t86_seen : seen_in (Listed []) (Listed []) (elaborated t86 [] None) 5 ≡ Ran (record { log = []; wave = lines ("$timescale 1ns $end" ∷ "$scope module t $end" ∷ "$upscope $end" ∷ "$enddefinitions $end" ∷ "#0" ∷ "$dumpvars" ∷ "$end" ∷ []); outcome = Done; time = 0; steps = 2; race = Some (10, at 0 1 29) })
unfolding symbols_of word_of
t86_seen = refl

-- module m; mailbox #(event) m; endmodule
abbrev t87 : List Description
t87 = module_ (at 0 1 1) life.Unwritten (name (at 0 1 8) "m") None [] (items.Decl (decl life.Unwritten (types.MailboxOf (at 0 1 11) (types.Event (at 0 1 21))) (declarator (name (at 0 1 28) "m") None None ∷ [])) ∷ []) None ∷ []

t87_broken : broken t87 [] None ≡ Some (fault 43 0 1 21)
unfolding symbols_of word_of
t87_broken = refl

-- module t; mailbox #(semaphore) m; endmodule
abbrev t88 : List Description
t88 = module_ (at 0 1 1) life.Unwritten (name (at 0 1 8) "t") None [] (items.Decl (decl life.Unwritten (types.MailboxOf (at 0 1 11) (types.Semaphore (at 0 1 21))) (declarator (name (at 0 1 32) "m") None None ∷ [])) ∷ []) None ∷ []

t88_broken : broken t88 [] None ≡ Some (fault 43 0 1 21)
unfolding symbols_of word_of
t88_broken = refl

-- module t; int x; always_ff x = $; endmodule
abbrev t104 : List Description
t104 = module_ (at 0 1 1) life.Unwritten (name (at 0 1 8) "t") None [] (items.Decl (decl life.Unwritten (types.Atom (at 0 1 11) atom_word.Int sign.Unwritten) (declarator (name (at 0 1 15) "x") None None ∷ [])) ∷ procedure (at 0 1 18) procedure_word.AlwaysFf (stmts.Statement (at 0 1 28) None (blocking (target (at 0 1 28) "x") None (stmts.Value (tree.Dollar (at 0 1 32))))) ∷ []) None ∷ []

t104_broken : broken t104 [] None ≡ Some (fault 28 0 1 18)
unfolding symbols_of word_of
t104_broken = refl
