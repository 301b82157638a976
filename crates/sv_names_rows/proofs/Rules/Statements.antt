-- Rules on writers, processes, calls and statements (E20 to E32).
use Rattle.std.proofs.Common.{◌≡◌, List, [], ◌∷◌, false, refl}
use Rattle.std.specs.Prelude.{Some, None}
use Rattle.sv_value.specs.Vector.{symbols_of, word_of}
use Rattle.sv_tree.specs.declared.word.BinaryWord.TheVariants as binary_word
use Rattle.sv_tree.specs.declared.word.VectorWord.TheVariants as vector_word
use Rattle.sv_tree.specs.declared.word.AtomWord.TheVariants as atom_word
use Rattle.sv_tree.specs.declared.word.Sign.TheVariants as sign
use Rattle.sv_tree.specs.declared.word.Life.TheVariants as life
use Rattle.sv_tree.specs.declared.word.JoinWord.TheVariants as join_word
use Rattle.sv_tree.specs.declared.word.EdgeWord.TheVariants as edge
use Rattle.sv_tree.specs.declared.word.ProcedureWord.TheVariants as procedure_word
use Rattle.sv_tree.specs.declared.word.Direction.TheVariants as direction
use Rattle.sv_tree.specs.declared.expr.Root.TheVariants as root
use Rattle.sv_tree.specs.Expr as tree
use Rattle.sv_tree.specs.Types as types
use Rattle.sv_tree.specs.Stmt as stmts
use Rattle.sv_tree.specs.Units as units
use Rattle.sv_tree.specs.Items as items
use Rattle.sv_tree.specs.Descriptions as descriptions
use Rattle.sv_tree.specs.Descriptions.{Description}
use Rattle.sv_names.specs.Design.{broken}
use Rattle.sv_names_rows.proofs.Kit.{argument, assign_item, at, blocking, class_, decl, declarator, delay, event_part, expressions, fault, head, method, module_, name, net, net_item, nonblocking, number, plain, procedure, property, routine, statements, system, target, text, unqualified}

-- E20: module t; logic a, b; assign a = b; initial a = 1; endmodule
abbrev t43 : List Description
t43 = module_ (at 0 1 1) life.Unwritten (name (at 0 1 8) "t") None [] (items.Decl (decl life.Unwritten (types.WrittenType.Vector (at 0 1 11) vector_word.Logic sign.Unwritten None) (declarator (name (at 0 1 17) "a") None None ∷ declarator (name (at 0 1 20) "b") None None ∷ [])) ∷ items.Assign (assign_item (target (at 0 1 30) "a") (plain (at 0 1 34) "b") ∷ []) ∷ procedure (at 0 1 37) procedure_word.Initial (stmts.Statement (at 0 1 45) None (blocking (target (at 0 1 45) "a") None (stmts.Value (number (at 0 1 49) "1")))) ∷ []) None ∷ []

t43_broken : broken t43 [] None ≡ Some (fault 20 0 1 45)
unfolding symbols_of word_of
t43_broken = refl

-- E20: module t; logic a, b; assign a[0] = b; endmodule
abbrev t44 : List Description
t44 = module_ (at 0 1 1) life.Unwritten (name (at 0 1 8) "t") None [] (items.Decl (decl life.Unwritten (types.WrittenType.Vector (at 0 1 11) vector_word.Logic sign.Unwritten None) (declarator (name (at 0 1 17) "a") None None ∷ declarator (name (at 0 1 20) "b") None None ∷ [])) ∷ items.Assign (assign_item (tree.Lval.Post (root.Plain (name (at 0 1 30) "a")) (tree.Select (at 0 1 31) (number (at 0 1 32) "0") tree.NoSuffix)) (plain (at 0 1 37) "b") ∷ []) ∷ []) None ∷ []

t44_broken : broken t44 [] None ≡ Some (fault 14 0 1 31)
unfolding symbols_of word_of
t44_broken = refl

-- E21: module t; wire w; initial w = 1; endmodule
abbrev t45 : List Description
t45 = module_ (at 0 1 1) life.Unwritten (name (at 0 1 8) "t") None [] (net (at 0 1 11) sign.Unwritten None (net_item (name (at 0 1 16) "w") None ∷ []) ∷ procedure (at 0 1 19) procedure_word.Initial (stmts.Statement (at 0 1 27) None (blocking (target (at 0 1 27) "w") None (stmts.Value (number (at 0 1 31) "1")))) ∷ []) None ∷ []

t45_broken : broken t45 [] None ≡ Some (fault 21 0 1 27)
unfolding symbols_of word_of
t45_broken = refl

-- E22: module t; logic a, b; always_comb a = b; initial a = 1; endmodule
abbrev t46 : List Description
t46 = module_ (at 0 1 1) life.Unwritten (name (at 0 1 8) "t") None [] (items.Decl (decl life.Unwritten (types.WrittenType.Vector (at 0 1 11) vector_word.Logic sign.Unwritten None) (declarator (name (at 0 1 17) "a") None None ∷ declarator (name (at 0 1 20) "b") None None ∷ [])) ∷ procedure (at 0 1 23) procedure_word.AlwaysComb (stmts.Statement (at 0 1 35) None (blocking (target (at 0 1 35) "a") None (stmts.Value (plain (at 0 1 39) "b")))) ∷ procedure (at 0 1 42) procedure_word.Initial (stmts.Statement (at 0 1 50) None (blocking (target (at 0 1 50) "a") None (stmts.Value (number (at 0 1 54) "1")))) ∷ []) None ∷ []

t46_broken : broken t46 [] None ≡ Some (fault 22 0 1 50)
unfolding symbols_of word_of
t46_broken = refl

-- E23: module t; logic a = 0, b; assign a = b; endmodule
abbrev t47 : List Description
t47 = module_ (at 0 1 1) life.Unwritten (name (at 0 1 8) "t") None [] (items.Decl (decl life.Unwritten (types.WrittenType.Vector (at 0 1 11) vector_word.Logic sign.Unwritten None) (declarator (name (at 0 1 17) "a") None (Some (stmts.Value (number (at 0 1 21) "0"))) ∷ declarator (name (at 0 1 24) "b") None None ∷ [])) ∷ items.Assign (assign_item (target (at 0 1 34) "a") (plain (at 0 1 38) "b") ∷ []) ∷ []) None ∷ []

t47_broken : broken t47 [] None ≡ Some (fault 23 0 1 21)
unfolding symbols_of word_of
t47_broken = refl

-- E24: module t; function int f(); return 1; endfunction initial if (1 && f()) ; endmodule
abbrev t48 : List Description
t48 = module_ (at 0 1 1) life.Unwritten (name (at 0 1 8) "t") None [] (items.Routine (routine (head (at 0 1 11) life.Unwritten (units.Returns.Value (types.Written (types.Atom (at 0 1 20) atom_word.Int sign.Unwritten))) (name (at 0 1 24) "f") []) [] (stmts.Statement (at 0 1 29) None (stmts.Return (Some (number (at 0 1 36) "1"))) ∷ []) None) ∷ procedure (at 0 1 51) procedure_word.Initial (stmts.Statement (at 0 1 59) None (stmts.If (tree.Binary binary_word.LogicalAnd (at 0 1 65) (number (at 0 1 63) "1") (tree.Expr.Post (root.Plain (name (at 0 1 68) "f")) (tree.Call (at 0 1 69) tree.NoExpr tree.NoSuffix))) (stmts.Statement (at 0 1 73) None stmts.Null))) ∷ []) None ∷ []

t48_broken : broken t48 [] None ≡ Some (fault 24 0 1 68)
unfolding symbols_of word_of
t48_broken = refl

-- E24: module t; function int f(); return 1; endfunction int a; initial a = 1 ? f() : 2; endmodule
abbrev t49 : List Description
t49 = module_ (at 0 1 1) life.Unwritten (name (at 0 1 8) "t") None [] (items.Routine (routine (head (at 0 1 11) life.Unwritten (units.Returns.Value (types.Written (types.Atom (at 0 1 20) atom_word.Int sign.Unwritten))) (name (at 0 1 24) "f") []) [] (stmts.Statement (at 0 1 29) None (stmts.Return (Some (number (at 0 1 36) "1"))) ∷ []) None) ∷ items.Decl (decl life.Unwritten (types.Atom (at 0 1 51) atom_word.Int sign.Unwritten) (declarator (name (at 0 1 55) "a") None None ∷ [])) ∷ procedure (at 0 1 58) procedure_word.Initial (stmts.Statement (at 0 1 66) None (blocking (target (at 0 1 66) "a") None (stmts.Value (tree.Choose (number (at 0 1 70) "1") (tree.Expr.Post (root.Plain (name (at 0 1 74) "f")) (tree.Call (at 0 1 75) tree.NoExpr tree.NoSuffix)) (number (at 0 1 80) "2"))))) ∷ []) None ∷ []

t49_broken : broken t49 [] None ≡ Some (fault 24 0 1 74)
unfolding symbols_of word_of
t49_broken = refl

-- E25: module t; function int f(); return 1; endfunction initial @(f()) ; endmodule
abbrev t50 : List Description
t50 = module_ (at 0 1 1) life.Unwritten (name (at 0 1 8) "t") None [] (items.Routine (routine (head (at 0 1 11) life.Unwritten (units.Returns.Value (types.Written (types.Atom (at 0 1 20) atom_word.Int sign.Unwritten))) (name (at 0 1 24) "f") []) [] (stmts.Statement (at 0 1 29) None (stmts.Return (Some (number (at 0 1 36) "1"))) ∷ []) None) ∷ procedure (at 0 1 51) procedure_word.Initial (stmts.Statement (at 0 1 59) None (stmts.On (stmts.Parts (event_part edge.Unwritten (tree.Expr.Post (root.Plain (name (at 0 1 61) "f")) (tree.Call (at 0 1 62) tree.NoExpr tree.NoSuffix)) None ∷ [])) (stmts.Statement (at 0 1 66) None stmts.Null))) ∷ []) None ∷ []

t50_broken : broken t50 [] None ≡ Some (fault 25 0 1 61)
unfolding symbols_of word_of
t50_broken = refl

-- E25: module t; function int f(); return 1; endfunction int a = f(); endmodule
abbrev t51 : List Description
t51 = module_ (at 0 1 1) life.Unwritten (name (at 0 1 8) "t") None [] (items.Routine (routine (head (at 0 1 11) life.Unwritten (units.Returns.Value (types.Written (types.Atom (at 0 1 20) atom_word.Int sign.Unwritten))) (name (at 0 1 24) "f") []) [] (stmts.Statement (at 0 1 29) None (stmts.Return (Some (number (at 0 1 36) "1"))) ∷ []) None) ∷ items.Decl (decl life.Unwritten (types.Atom (at 0 1 51) atom_word.Int sign.Unwritten) (declarator (name (at 0 1 55) "a") None (Some (stmts.Value (tree.Expr.Post (root.Plain (name (at 0 1 59) "f")) (tree.Call (at 0 1 60) tree.NoExpr tree.NoSuffix)))) ∷ [])) ∷ []) None ∷ []

t51_broken : broken t51 [] None ≡ Some (fault 25 0 1 59)
unfolding symbols_of word_of
t51_broken = refl

-- E25: class c; endclass module t; c a = new; endmodule
abbrev t52 : List Description
t52 = descriptions.Item (items.Class (class_ (at 0 1 1) false (name (at 0 1 7) "c") None [] None)) ∷ module_ (at 0 1 19) life.Unwritten (name (at 0 1 26) "t") None [] (items.Decl (decl life.Unwritten (types.Named (name (at 0 1 29) "c")) (declarator (name (at 0 1 31) "a") None (Some (stmts.New (at 0 1 35) tree.Unwritten)) ∷ [])) ∷ []) None ∷ []

t52_broken : broken t52 [] None ≡ Some (fault 25 0 1 35)
unfolding symbols_of word_of
t52_broken = refl

-- E25: module t; int q[$]; initial $strobe("%0d", q.pop_back()); endmodule
abbrev t53 : List Description
t53 = module_ (at 0 1 1) life.Unwritten (name (at 0 1 8) "t") None [] (items.Decl (decl life.Unwritten (types.Atom (at 0 1 11) atom_word.Int sign.Unwritten) (declarator (name (at 0 1 15) "q") (Some (stmts.Queue (at 0 1 16))) None ∷ [])) ∷ procedure (at 0 1 21) procedure_word.Initial (stmts.Statement (at 0 1 29) None (stmts.Call (system (at 0 1 29) "$strobe" (text (at 0 1 37) "%0d" ∷ tree.Expr.Post (root.Plain (name (at 0 1 44) "q")) (tree.Member (name (at 0 1 46) "pop_back") (tree.Call (at 0 1 54) tree.NoExpr tree.NoSuffix)) ∷ [])))) ∷ []) None ∷ []

t53_broken : broken t53 [] None ≡ Some (fault 25 0 1 44)
unfolding symbols_of word_of
t53_broken = refl

-- E26: module t; initial begin automatic int a; a <= 1; end endmodule
abbrev t54 : List Description
t54 = module_ (at 0 1 1) life.Unwritten (name (at 0 1 8) "t") None [] (procedure (at 0 1 11) procedure_word.Initial (stmts.Statement (at 0 1 19) None (stmts.Block None (decl life.Automatic (types.Atom (at 0 1 35) atom_word.Int sign.Unwritten) (declarator (name (at 0 1 39) "a") None None ∷ []) ∷ []) (statements (stmts.Statement (at 0 1 42) None (nonblocking (target (at 0 1 42) "a") None (number (at 0 1 47) "1")) ∷ [])) None)) ∷ []) None ∷ []

t54_broken : broken t54 [] None ≡ Some (fault 26 0 1 42)
unfolding symbols_of word_of
t54_broken = refl

-- E26: class c; int p; function void f(); p <= 1; endfunction endclass module t; endmodule
abbrev t55 : List Description
t55 = descriptions.Item (items.Class (class_ (at 0 1 1) false (name (at 0 1 7) "c") None (property unqualified (decl life.Unwritten (types.Atom (at 0 1 10) atom_word.Int sign.Unwritten) (declarator (name (at 0 1 14) "p") None None ∷ [])) ∷ method unqualified (routine (head (at 0 1 17) life.Unwritten units.Void (name (at 0 1 31) "f") []) [] (stmts.Statement (at 0 1 36) None (nonblocking (target (at 0 1 36) "p") None (number (at 0 1 41) "1")) ∷ []) None) ∷ []) None)) ∷ module_ (at 0 1 65) life.Unwritten (name (at 0 1 72) "t") None [] [] None ∷ []

t55_broken : broken t55 [] None ≡ Some (fault 26 0 1 36)
unfolding symbols_of word_of
t55_broken = refl

-- E26: module t; int q[$]; initial q[0] <= 1; endmodule
abbrev t56 : List Description
t56 = module_ (at 0 1 1) life.Unwritten (name (at 0 1 8) "t") None [] (items.Decl (decl life.Unwritten (types.Atom (at 0 1 11) atom_word.Int sign.Unwritten) (declarator (name (at 0 1 15) "q") (Some (stmts.Queue (at 0 1 16))) None ∷ [])) ∷ procedure (at 0 1 21) procedure_word.Initial (stmts.Statement (at 0 1 29) None (nonblocking (tree.Lval.Post (root.Plain (name (at 0 1 29) "q")) (tree.Select (at 0 1 30) (number (at 0 1 31) "0") tree.NoSuffix)) None (number (at 0 1 37) "1"))) ∷ []) None ∷ []

t56_broken : broken t56 [] None ≡ Some (fault 26 0 1 29)
unfolding symbols_of word_of
t56_broken = refl

-- E27: module t; function void f(); #1; endfunction endmodule
abbrev t57 : List Description
t57 = module_ (at 0 1 1) life.Unwritten (name (at 0 1 8) "t") None [] (items.Routine (routine (head (at 0 1 11) life.Unwritten units.Void (name (at 0 1 25) "f") []) [] (stmts.Statement (at 0 1 30) None (stmts.After (delay (at 0 1 30) (number (at 0 1 31) "1")) (stmts.Statement (at 0 1 32) None stmts.Null)) ∷ []) None) ∷ []) None ∷ []

t57_broken : broken t57 [] None ≡ Some (fault 27 0 1 30)
unfolding symbols_of word_of
t57_broken = refl

-- E27: module t; logic a; always_comb begin a = 1; wait (a); end endmodule
abbrev t58 : List Description
t58 = module_ (at 0 1 1) life.Unwritten (name (at 0 1 8) "t") None [] (items.Decl (decl life.Unwritten (types.WrittenType.Vector (at 0 1 11) vector_word.Logic sign.Unwritten None) (declarator (name (at 0 1 17) "a") None None ∷ [])) ∷ procedure (at 0 1 20) procedure_word.AlwaysComb (stmts.Statement (at 0 1 32) None (stmts.Block None [] (statements (stmts.Statement (at 0 1 38) None (blocking (target (at 0 1 38) "a") None (stmts.Value (number (at 0 1 42) "1"))) ∷ stmts.Statement (at 0 1 45) None (stmts.Wait (at 0 1 45) (plain (at 0 1 51) "a") (stmts.Statement (at 0 1 53) None stmts.Null)) ∷ [])) None)) ∷ []) None ∷ []

t58_broken : broken t58 [] None ≡ Some (fault 27 0 1 45)
unfolding symbols_of word_of
t58_broken = refl

-- E27: module t; task w(); endtask function void f(); w(); endfunction endmodule
abbrev t59 : List Description
t59 = module_ (at 0 1 1) life.Unwritten (name (at 0 1 8) "t") None [] (items.Routine (routine (head (at 0 1 11) life.Unwritten units.Task (name (at 0 1 16) "w") []) [] [] None) ∷ items.Routine (routine (head (at 0 1 29) life.Unwritten units.Void (name (at 0 1 43) "f") []) [] (stmts.Statement (at 0 1 48) None (stmts.Call (tree.Expr.Post (root.Plain (name (at 0 1 48) "w")) (tree.Call (at 0 1 49) tree.NoExpr tree.NoSuffix))) ∷ []) None) ∷ []) None ∷ []

t59_broken : broken t59 [] None ≡ Some (fault 27 0 1 48)
unfolding symbols_of word_of
t59_broken = refl

-- E28: module t; logic a, c; always_ff a <= 1; endmodule
abbrev t60 : List Description
t60 = module_ (at 0 1 1) life.Unwritten (name (at 0 1 8) "t") None [] (items.Decl (decl life.Unwritten (types.WrittenType.Vector (at 0 1 11) vector_word.Logic sign.Unwritten None) (declarator (name (at 0 1 17) "a") None None ∷ declarator (name (at 0 1 20) "c") None None ∷ [])) ∷ procedure (at 0 1 23) procedure_word.AlwaysFf (stmts.Statement (at 0 1 33) None (nonblocking (target (at 0 1 33) "a") None (number (at 0 1 38) "1"))) ∷ []) None ∷ []

t60_broken : broken t60 [] None ≡ Some (fault 28 0 1 23)
unfolding symbols_of word_of
t60_broken = refl

-- E28: module t; logic a, c; always_ff @(posedge c) begin #1; a <= 1; end endmodule
abbrev t61 : List Description
t61 = module_ (at 0 1 1) life.Unwritten (name (at 0 1 8) "t") None [] (items.Decl (decl life.Unwritten (types.WrittenType.Vector (at 0 1 11) vector_word.Logic sign.Unwritten None) (declarator (name (at 0 1 17) "a") None None ∷ declarator (name (at 0 1 20) "c") None None ∷ [])) ∷ procedure (at 0 1 23) procedure_word.AlwaysFf (stmts.Statement (at 0 1 33) None (stmts.On (stmts.Parts (event_part edge.Posedge (plain (at 0 1 43) "c") None ∷ [])) (stmts.Statement (at 0 1 46) None (stmts.Block None [] (statements (stmts.Statement (at 0 1 52) None (stmts.After (delay (at 0 1 52) (number (at 0 1 53) "1")) (stmts.Statement (at 0 1 54) None stmts.Null)) ∷ stmts.Statement (at 0 1 56) None (nonblocking (target (at 0 1 56) "a") None (number (at 0 1 61) "1")) ∷ [])) None)))) ∷ []) None ∷ []

t61_broken : broken t61 [] None ≡ Some (fault 28 0 1 23)
unfolding symbols_of word_of
t61_broken = refl

-- E29: module t; initial return; endmodule
abbrev t62 : List Description
t62 = module_ (at 0 1 1) life.Unwritten (name (at 0 1 8) "t") None [] (procedure (at 0 1 11) procedure_word.Initial (stmts.Statement (at 0 1 19) None (stmts.Return None)) ∷ []) None ∷ []

t62_broken : broken t62 [] None ≡ Some (fault 29 0 1 19)
unfolding symbols_of word_of
t62_broken = refl

-- E29: module t; initial break; endmodule
abbrev t63 : List Description
t63 = module_ (at 0 1 1) life.Unwritten (name (at 0 1 8) "t") None [] (procedure (at 0 1 11) procedure_word.Initial (stmts.Statement (at 0 1 19) None stmts.Break) ∷ []) None ∷ []

t63_broken : broken t63 [] None ≡ Some (fault 29 0 1 19)
unfolding symbols_of word_of
t63_broken = refl

-- E29: module t; initial forever fork break; join endmodule
abbrev t64 : List Description
t64 = module_ (at 0 1 1) life.Unwritten (name (at 0 1 8) "t") None [] (procedure (at 0 1 11) procedure_word.Initial (stmts.Statement (at 0 1 19) None (stmts.Forever (stmts.Statement (at 0 1 27) None (stmts.Fork None [] (statements (stmts.Statement (at 0 1 32) None stmts.Break ∷ [])) join_word.All None)))) ∷ []) None ∷ []

t64_broken : broken t64 [] None ≡ Some (fault 29 0 1 32)
unfolding symbols_of word_of
t64_broken = refl

-- E30: module t; function int f(); return; endfunction endmodule
abbrev t65 : List Description
t65 = module_ (at 0 1 1) life.Unwritten (name (at 0 1 8) "t") None [] (items.Routine (routine (head (at 0 1 11) life.Unwritten (units.Returns.Value (types.Written (types.Atom (at 0 1 20) atom_word.Int sign.Unwritten))) (name (at 0 1 24) "f") []) [] (stmts.Statement (at 0 1 29) None (stmts.Return None) ∷ []) None) ∷ []) None ∷ []

t65_broken : broken t65 [] None ≡ Some (fault 30 0 1 29)
unfolding symbols_of word_of
t65_broken = refl

-- E30: module t; task f(); return 1; endtask endmodule
abbrev t66 : List Description
t66 = module_ (at 0 1 1) life.Unwritten (name (at 0 1 8) "t") None [] (items.Routine (routine (head (at 0 1 11) life.Unwritten units.Task (name (at 0 1 16) "f") []) [] (stmts.Statement (at 0 1 21) None (stmts.Return (Some (number (at 0 1 28) "1"))) ∷ []) None) ∷ []) None ∷ []

t66_broken : broken t66 [] None ≡ Some (fault 30 0 1 21)
unfolding symbols_of word_of
t66_broken = refl

-- E31: module t; function int f(int a); return a; endfunction initial $display("%0d", f()); endmodule
abbrev t67 : List Description
t67 = module_ (at 0 1 1) life.Unwritten (name (at 0 1 8) "t") None [] (items.Routine (routine (head (at 0 1 11) life.Unwritten (units.Returns.Value (types.Written (types.Atom (at 0 1 20) atom_word.Int sign.Unwritten))) (name (at 0 1 24) "f") (argument None (types.Written (types.Atom (at 0 1 26) atom_word.Int sign.Unwritten)) (name (at 0 1 30) "a") None ∷ [])) [] (stmts.Statement (at 0 1 34) None (stmts.Return (Some (plain (at 0 1 41) "a"))) ∷ []) None) ∷ procedure (at 0 1 56) procedure_word.Initial (stmts.Statement (at 0 1 64) None (stmts.Call (system (at 0 1 64) "$display" (text (at 0 1 73) "%0d" ∷ tree.Expr.Post (root.Plain (name (at 0 1 80) "f")) (tree.Call (at 0 1 81) tree.NoExpr tree.NoSuffix) ∷ [])))) ∷ []) None ∷ []

t67_broken : broken t67 [] None ≡ Some (fault 31 0 1 80)
unfolding symbols_of word_of
t67_broken = refl

-- E31: module t; task f(output int a); endtask initial f(1); endmodule
abbrev t68 : List Description
t68 = module_ (at 0 1 1) life.Unwritten (name (at 0 1 8) "t") None [] (items.Routine (routine (head (at 0 1 11) life.Unwritten units.Task (name (at 0 1 16) "f") (argument (Some direction.Output) (types.Written (types.Atom (at 0 1 25) atom_word.Int sign.Unwritten)) (name (at 0 1 29) "a") None ∷ [])) [] [] None) ∷ procedure (at 0 1 41) procedure_word.Initial (stmts.Statement (at 0 1 49) None (stmts.Call (tree.Expr.Post (root.Plain (name (at 0 1 49) "f")) (tree.Call (at 0 1 50) (expressions (number (at 0 1 51) "1" ∷ [])) tree.NoSuffix)))) ∷ []) None ∷ []

t68_broken : broken t68 [] None ≡ Some (fault 31 0 1 51)
unfolding symbols_of word_of
t68_broken = refl

-- E32: module t; task w(); endtask int a; initial a = w(); endmodule
abbrev t69 : List Description
t69 = module_ (at 0 1 1) life.Unwritten (name (at 0 1 8) "t") None [] (items.Routine (routine (head (at 0 1 11) life.Unwritten units.Task (name (at 0 1 16) "w") []) [] [] None) ∷ items.Decl (decl life.Unwritten (types.Atom (at 0 1 29) atom_word.Int sign.Unwritten) (declarator (name (at 0 1 33) "a") None None ∷ [])) ∷ procedure (at 0 1 36) procedure_word.Initial (stmts.Statement (at 0 1 44) None (blocking (target (at 0 1 44) "a") None (stmts.Value (tree.Expr.Post (root.Plain (name (at 0 1 48) "w")) (tree.Call (at 0 1 49) tree.NoExpr tree.NoSuffix))))) ∷ []) None ∷ []

t69_broken : broken t69 [] None ≡ Some (fault 32 0 1 48)
unfolding symbols_of word_of
t69_broken = refl
