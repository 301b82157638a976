-- Texts at the edges of the forms and the rules: the first rule that is broken, and where.
use Rattle.std.proofs.Common.{◌≡◌, List, [], ◌∷◌, true, false, refl}
use Rattle.std.specs.Prelude.{Some, None, codes}
use Rattle.sv_value.specs.Vector.{symbols_of, word_of}
use Rattle.sv_tree.specs.declared.word.BinaryWord.TheVariants as binary_word
use Rattle.sv_tree.specs.declared.word.PartWord.TheVariants as part_word
use Rattle.sv_tree.specs.declared.word.VectorWord.TheVariants as vector_word
use Rattle.sv_tree.specs.declared.word.AtomWord.TheVariants as atom_word
use Rattle.sv_tree.specs.declared.word.Sign.TheVariants as sign
use Rattle.sv_tree.specs.declared.word.Life.TheVariants as life
use Rattle.sv_tree.specs.declared.word.EdgeWord.TheVariants as edge
use Rattle.sv_tree.specs.declared.word.StepWord.TheVariants as step_word
use Rattle.sv_tree.specs.declared.word.ProcedureWord.TheVariants as procedure_word
use Rattle.sv_tree.specs.declared.word.Direction.TheVariants as direction
use Rattle.sv_tree.specs.declared.word.PortDirection.TheVariants as port_direction
use Rattle.sv_tree.specs.declared.word.ParamWord.TheVariants as param_word
use Rattle.sv_tree.specs.declared.expr.Root.TheVariants as root
use Rattle.sv_tree.specs.declared.expr.CastType.TheVariants as cast
use Rattle.sv_tree.specs.Expr as tree
use Rattle.sv_tree.specs.Types as types
use Rattle.sv_tree.specs.Stmt as stmts
use Rattle.sv_tree.specs.Units as units
use Rattle.sv_tree.specs.Items as items
use Rattle.sv_tree.specs.Descriptions as descriptions
use Rattle.sv_tree.specs.Descriptions.{Description}
use Rattle.sv_names.specs.Design.{broken}
use Rattle.sv_names_rows.proofs.Kit.{argument, assign_item, at, blocking, class_, clocking, decl, declarator, delay, enum_item, event_part, expressions, fault, head, method, module_, name, net, net_item, nonblocking, number, param, plain, port, procedure, program_, property, qualifiers, range, routine, sided, statements, system, target, text, typedef, unqualified, value}

-- module t; initial #1_0ns ; endmodule
abbrev t21 : List Description
t21 = module_ (at 0 1 1) life.Unwritten (name (at 0 1 8) "t") None [] (procedure (at 0 1 11) procedure_word.Initial (stmts.Statement (at 0 1 19) None (stmts.After (delay (at 0 1 19) (number (at 0 1 20) "1_0")) (stmts.Statement (at 0 1 23) None (stmts.Call (plain (at 0 1 23) "ns"))))) ∷ []) None ∷ []

t21_broken : broken t21 [] None ≡ Some (fault 6 0 1 23)
unfolding symbols_of word_of
t21_broken = refl

-- class A extends B; endclass module t;  endmodule
abbrev t26 : List Description
t26 = descriptions.Item (items.Class (class_ (at 0 1 1) false (name (at 0 1 7) "A") (Some (name (at 0 1 17) "B")) [] None)) ∷ module_ (at 0 1 29) life.Unwritten (name (at 0 1 36) "t") None [] [] None ∷ []

t26_broken : broken t26 [] None ≡ Some (fault 6 0 1 17)
unfolding symbols_of word_of
t26_broken = refl

-- module t; logic c; clocking cb @(c); input x; endclocking endmodule
abbrev t27 : List Description
t27 = module_ (at 0 1 1) life.Unwritten (name (at 0 1 8) "t") None [] (items.Decl (decl life.Unwritten (types.WrittenType.Vector (at 0 1 11) vector_word.Logic sign.Unwritten None) (declarator (name (at 0 1 17) "c") None None ∷ [])) ∷ clocking None (name (at 0 1 29) "cb") edge.Unwritten (name (at 0 1 34) "c") (units.Signals (sided direction.Input None ∷ []) (name (at 0 1 44) "x" ∷ []) ∷ []) None ∷ []) None ∷ []

t27_broken : broken t27 [] None ≡ Some (fault 6 0 1 44)
unfolding symbols_of word_of
t27_broken = refl

-- module t; enum {A} e; initial A = A; endmodule
abbrev t28 : List Description
t28 = module_ (at 0 1 1) life.Unwritten (name (at 0 1 8) "t") None [] (items.Decl (decl life.Unwritten (types.Enum (at 0 1 11) (enum_item (name (at 0 1 17) "A") None ∷ [])) (declarator (name (at 0 1 20) "e") None None ∷ [])) ∷ procedure (at 0 1 23) procedure_word.Initial (stmts.Statement (at 0 1 31) None (blocking (target (at 0 1 31) "A") None (stmts.Value (plain (at 0 1 35) "A")))) ∷ []) None ∷ []

t28_broken : broken t28 [] None ≡ Some (fault 18 0 1 31)
unfolding symbols_of word_of
t28_broken = refl

-- module t; typedef int i; clocking cb @(i); endclocking endmodule
abbrev t29 : List Description
t29 = module_ (at 0 1 1) life.Unwritten (name (at 0 1 8) "t") None [] (items.Typedef (typedef (types.Atom (at 0 1 19) atom_word.Int sign.Unwritten) (name (at 0 1 23) "i")) ∷ clocking None (name (at 0 1 35) "cb") edge.Unwritten (name (at 0 1 40) "i") [] None ∷ []) None ∷ []

t29_broken : broken t29 [] None ≡ Some (fault 45 0 1 40)
unfolding symbols_of word_of
t29_broken = refl

-- module t; logic a; assign a = 1; initial begin a = 0; end endmodule
abbrev t35 : List Description
t35 = module_ (at 0 1 1) life.Unwritten (name (at 0 1 8) "t") None [] (items.Decl (decl life.Unwritten (types.WrittenType.Vector (at 0 1 11) vector_word.Logic sign.Unwritten None) (declarator (name (at 0 1 17) "a") None None ∷ [])) ∷ items.Assign (assign_item (target (at 0 1 27) "a") (number (at 0 1 31) "1") ∷ []) ∷ procedure (at 0 1 34) procedure_word.Initial (stmts.Statement (at 0 1 42) None (stmts.Block None [] (statements (stmts.Statement (at 0 1 48) None (blocking (target (at 0 1 48) "a") None (stmts.Value (number (at 0 1 52) "0"))) ∷ [])) None)) ∷ []) None ∷ []

t35_broken : broken t35 [] None ≡ Some (fault 20 0 1 48)
unfolding symbols_of word_of
t35_broken = refl

-- module t; logic a; function void f(); a <= #1 0; endfunction endmodule
abbrev t36 : List Description
t36 = module_ (at 0 1 1) life.Unwritten (name (at 0 1 8) "t") None [] (items.Decl (decl life.Unwritten (types.WrittenType.Vector (at 0 1 11) vector_word.Logic sign.Unwritten None) (declarator (name (at 0 1 17) "a") None None ∷ [])) ∷ items.Routine (routine (head (at 0 1 20) life.Unwritten units.Void (name (at 0 1 34) "f") []) [] (stmts.Statement (at 0 1 39) None (nonblocking (target (at 0 1 39) "a") (Some (delay (at 0 1 44) (number (at 0 1 45) "1"))) (number (at 0 1 47) "0")) ∷ []) None) ∷ []) None ∷ []

t36_broken : broken t36 [] None ≡ Some (fault 27 0 1 44)
unfolding symbols_of word_of
t36_broken = refl

-- module t; logic a, c; always_ff @(posedge c) begin #1 ; a <= 1; end endmodule
abbrev t37 : List Description
t37 = module_ (at 0 1 1) life.Unwritten (name (at 0 1 8) "t") None [] (items.Decl (decl life.Unwritten (types.WrittenType.Vector (at 0 1 11) vector_word.Logic sign.Unwritten None) (declarator (name (at 0 1 17) "a") None None ∷ declarator (name (at 0 1 20) "c") None None ∷ [])) ∷ procedure (at 0 1 23) procedure_word.AlwaysFf (stmts.Statement (at 0 1 33) None (stmts.On (stmts.Parts (event_part edge.Posedge (plain (at 0 1 43) "c") None ∷ [])) (stmts.Statement (at 0 1 46) None (stmts.Block None [] (statements (stmts.Statement (at 0 1 52) None (stmts.After (delay (at 0 1 52) (number (at 0 1 53) "1")) (stmts.Statement (at 0 1 55) None stmts.Null)) ∷ stmts.Statement (at 0 1 57) None (nonblocking (target (at 0 1 57) "a") None (number (at 0 1 62) "1")) ∷ [])) None)))) ∷ []) None ∷ []

t37_broken : broken t37 [] None ≡ Some (fault 28 0 1 23)
unfolding symbols_of word_of
t37_broken = refl

-- module t; task w(); endtask initial void'(w()); endmodule
abbrev t38 : List Description
t38 = module_ (at 0 1 1) life.Unwritten (name (at 0 1 8) "t") None [] (items.Routine (routine (head (at 0 1 11) life.Unwritten units.Task (name (at 0 1 16) "w") []) [] [] None) ∷ procedure (at 0 1 29) procedure_word.Initial (stmts.Statement (at 0 1 37) None (stmts.Ignore (at 0 1 37) (tree.Expr.Post (root.Plain (name (at 0 1 43) "w")) (tree.Call (at 0 1 44) tree.NoExpr tree.NoSuffix)))) ∷ []) None ∷ []

t38_broken : broken t38 [] None ≡ Some (fault 32 0 1 43)
unfolding symbols_of word_of
t38_broken = refl

-- module t; logic a; initial $display("%b", a[0]); endmodule
abbrev t39 : List Description
t39 = module_ (at 0 1 1) life.Unwritten (name (at 0 1 8) "t") None [] (items.Decl (decl life.Unwritten (types.WrittenType.Vector (at 0 1 11) vector_word.Logic sign.Unwritten None) (declarator (name (at 0 1 17) "a") None None ∷ [])) ∷ procedure (at 0 1 20) procedure_word.Initial (stmts.Statement (at 0 1 28) None (stmts.Call (system (at 0 1 28) "$display" (text (at 0 1 37) "%b" ∷ tree.Expr.Post (root.Plain (name (at 0 1 43) "a")) (tree.Select (at 0 1 44) (number (at 0 1 45) "0") tree.NoSuffix) ∷ [])))) ∷ []) None ∷ []

t39_broken : broken t39 [] None ≡ Some (fault 14 0 1 44)
unfolding symbols_of word_of
t39_broken = refl

-- module t; bit [7:0] a = 8'h90; initial $display("%b", a[7:4][0]); endmodule
abbrev t40 : List Description
t40 = module_ (at 0 1 1) life.Unwritten (name (at 0 1 8) "t") None [] (items.Decl (decl life.Unwritten (types.WrittenType.Vector (at 0 1 11) vector_word.Bit sign.Unwritten (Some (range (at 0 1 15) (number (at 0 1 16) "7") (number (at 0 1 18) "0")))) (declarator (name (at 0 1 21) "a") None (Some (stmts.Value (number (at 0 1 25) "8'h90"))) ∷ [])) ∷ procedure (at 0 1 32) procedure_word.Initial (stmts.Statement (at 0 1 40) None (stmts.Call (system (at 0 1 40) "$display" (text (at 0 1 49) "%b" ∷ tree.Expr.Post (root.Plain (name (at 0 1 55) "a")) (tree.Part (at 0 1 56) part_word.Fixed (number (at 0 1 57) "7") (number (at 0 1 59) "4") (tree.Select (at 0 1 61) (number (at 0 1 62) "0") tree.NoSuffix)) ∷ [])))) ∷ []) None ∷ []

t40_broken : broken t40 [] None ≡ Some (fault 14 0 1 61)
unfolding symbols_of word_of
t40_broken = refl

-- module t; int a; initial a = 0'(a); endmodule
abbrev t41 : List Description
t41 = module_ (at 0 1 1) life.Unwritten (name (at 0 1 8) "t") None [] (items.Decl (decl life.Unwritten (types.Atom (at 0 1 11) atom_word.Int sign.Unwritten) (declarator (name (at 0 1 15) "a") None None ∷ [])) ∷ procedure (at 0 1 18) procedure_word.Initial (stmts.Statement (at 0 1 26) None (blocking (target (at 0 1 26) "a") None (stmts.Value (tree.Cast (cast.Width (at 0 1 30) (codes "0")) (plain (at 0 1 33) "a"))))) ∷ []) None ∷ []

t41_broken : broken t41 [] None ≡ Some (fault 12 0 1 30)
unfolding symbols_of word_of
t41_broken = refl

-- module t; int a; initial a = 65'(a); endmodule
abbrev t42 : List Description
t42 = module_ (at 0 1 1) life.Unwritten (name (at 0 1 8) "t") None [] (items.Decl (decl life.Unwritten (types.Atom (at 0 1 11) atom_word.Int sign.Unwritten) (declarator (name (at 0 1 15) "a") None None ∷ [])) ∷ procedure (at 0 1 18) procedure_word.Initial (stmts.Statement (at 0 1 26) None (blocking (target (at 0 1 26) "a") None (stmts.Value (tree.Cast (cast.Width (at 0 1 30) (codes "65")) (plain (at 0 1 34) "a"))))) ∷ []) None ∷ []

t42_broken : broken t42 [] None ≡ Some (fault 13 0 1 30)
unfolding symbols_of word_of
t42_broken = refl

-- module t; int a; initial a = $; endmodule
abbrev t43 : List Description
t43 = module_ (at 0 1 1) life.Unwritten (name (at 0 1 8) "t") None [] (items.Decl (decl life.Unwritten (types.Atom (at 0 1 11) atom_word.Int sign.Unwritten) (declarator (name (at 0 1 15) "a") None None ∷ [])) ∷ procedure (at 0 1 18) procedure_word.Initial (stmts.Statement (at 0 1 26) None (blocking (target (at 0 1 26) "a") None (stmts.Value (tree.Dollar (at 0 1 30))))) ∷ []) None ∷ []

t43_broken : broken t43 [] None ≡ Some (fault 7 0 1 30)
unfolding symbols_of word_of
t43_broken = refl

-- module t; string s; initial if (s) ; endmodule
abbrev t44 : List Description
t44 = module_ (at 0 1 1) life.Unwritten (name (at 0 1 8) "t") None [] (items.Decl (decl life.Unwritten (types.Text (at 0 1 11)) (declarator (name (at 0 1 18) "s") None None ∷ [])) ∷ procedure (at 0 1 21) procedure_word.Initial (stmts.Statement (at 0 1 29) None (stmts.If (plain (at 0 1 33) "s") (stmts.Statement (at 0 1 36) None stmts.Null))) ∷ []) None ∷ []

t44_broken : broken t44 [] None ≡ Some (fault 15 0 1 33)
unfolding symbols_of word_of
t44_broken = refl

-- module t; event a, b; initial a = b; endmodule
abbrev t46 : List Description
t46 = module_ (at 0 1 1) life.Unwritten (name (at 0 1 8) "t") None [] (items.Decl (decl life.Unwritten (types.Event (at 0 1 11)) (declarator (name (at 0 1 17) "a") None None ∷ declarator (name (at 0 1 20) "b") None None ∷ [])) ∷ procedure (at 0 1 23) procedure_word.Initial (stmts.Statement (at 0 1 31) None (blocking (target (at 0 1 31) "a") None (stmts.Value (plain (at 0 1 35) "b")))) ∷ []) None ∷ []

t46_broken : broken t46 [] None ≡ Some (fault 16 0 1 35)
unfolding symbols_of word_of
t46_broken = refl

-- module t; int q[$], d[]; initial q = d; endmodule
abbrev t47 : List Description
t47 = module_ (at 0 1 1) life.Unwritten (name (at 0 1 8) "t") None [] (items.Decl (decl life.Unwritten (types.Atom (at 0 1 11) atom_word.Int sign.Unwritten) (declarator (name (at 0 1 15) "q") (Some (stmts.Queue (at 0 1 16))) None ∷ declarator (name (at 0 1 21) "d") (Some (stmts.Empty (at 0 1 22))) None ∷ [])) ∷ procedure (at 0 1 26) procedure_word.Initial (stmts.Statement (at 0 1 34) None (blocking (target (at 0 1 34) "q") None (stmts.Value (plain (at 0 1 38) "d")))) ∷ []) None ∷ []

t47_broken : broken t47 [] None ≡ Some (fault 16 0 1 38)
unfolding symbols_of word_of
t47_broken = refl

-- module t; mailbox #(event) m; endmodule
abbrev t48 : List Description
t48 = module_ (at 0 1 1) life.Unwritten (name (at 0 1 8) "t") None [] (items.Decl (decl life.Unwritten (types.MailboxOf (at 0 1 11) (types.Event (at 0 1 21))) (declarator (name (at 0 1 28) "m") None None ∷ [])) ∷ []) None ∷ []

t48_broken : broken t48 [] None ≡ Some (fault 43 0 1 21)
unfolding symbols_of word_of
t48_broken = refl

-- module t; mailbox #(int) m = new(); byte v; initial m.get(v); endmodule
abbrev t49 : List Description
t49 = module_ (at 0 1 1) life.Unwritten (name (at 0 1 8) "t") None [] (items.Decl (decl life.Unwritten (types.MailboxOf (at 0 1 11) (types.Atom (at 0 1 21) atom_word.Int sign.Unwritten)) (declarator (name (at 0 1 26) "m") None (Some (stmts.New (at 0 1 30) (tree.Written tree.NoExpr))) ∷ [])) ∷ items.Decl (decl life.Unwritten (types.Atom (at 0 1 37) atom_word.Byte sign.Unwritten) (declarator (name (at 0 1 42) "v") None None ∷ [])) ∷ procedure (at 0 1 45) procedure_word.Initial (stmts.Statement (at 0 1 53) None (stmts.Call (tree.Expr.Post (root.Plain (name (at 0 1 53) "m")) (tree.Member (name (at 0 1 55) "get") (tree.Call (at 0 1 58) (expressions (plain (at 0 1 59) "v" ∷ [])) tree.NoSuffix))))) ∷ []) None ∷ []

t49_broken : broken t49 [] None ≡ Some (fault 16 0 1 59)
unfolding symbols_of word_of
t49_broken = refl

-- module t; int m[int]; byte k; initial void'(m.first(k)); endmodule
abbrev t51 : List Description
t51 = module_ (at 0 1 1) life.Unwritten (name (at 0 1 8) "t") None [] (items.Decl (decl life.Unwritten (types.Atom (at 0 1 11) atom_word.Int sign.Unwritten) (declarator (name (at 0 1 15) "m") (Some (stmts.Key (at 0 1 16) (types.Atom (at 0 1 17) atom_word.Int sign.Unwritten))) None ∷ [])) ∷ items.Decl (decl life.Unwritten (types.Atom (at 0 1 23) atom_word.Byte sign.Unwritten) (declarator (name (at 0 1 28) "k") None None ∷ [])) ∷ procedure (at 0 1 31) procedure_word.Initial (stmts.Statement (at 0 1 39) None (stmts.Ignore (at 0 1 39) (tree.Expr.Post (root.Plain (name (at 0 1 45) "m")) (tree.Member (name (at 0 1 47) "first") (tree.Call (at 0 1 52) (expressions (plain (at 0 1 53) "k" ∷ [])) tree.NoSuffix))))) ∷ []) None ∷ []

t51_broken : broken t51 [] None ≡ Some (fault 16 0 1 53)
unfolding symbols_of word_of
t51_broken = refl

-- module t; logic c; clocking cb @(c); endclocking initial $display("%b", cb.x); endmodule
abbrev t53 : List Description
t53 = module_ (at 0 1 1) life.Unwritten (name (at 0 1 8) "t") None [] (items.Decl (decl life.Unwritten (types.WrittenType.Vector (at 0 1 11) vector_word.Logic sign.Unwritten None) (declarator (name (at 0 1 17) "c") None None ∷ [])) ∷ clocking None (name (at 0 1 29) "cb") edge.Unwritten (name (at 0 1 34) "c") [] None ∷ procedure (at 0 1 50) procedure_word.Initial (stmts.Statement (at 0 1 58) None (stmts.Call (system (at 0 1 58) "$display" (text (at 0 1 67) "%b" ∷ tree.Expr.Post (root.Plain (name (at 0 1 73) "cb")) (tree.Member (name (at 0 1 76) "x") tree.NoSuffix) ∷ [])))) ∷ []) None ∷ []

t53_broken : broken t53 [] None ≡ Some (fault 36 0 1 76)
unfolding symbols_of word_of
t53_broken = refl

-- class A; int x; static function void f(); this.x = 1; endfunction endclass module t;  endmodule
abbrev t54 : List Description
t54 = descriptions.Item (items.Class (class_ (at 0 1 1) false (name (at 0 1 7) "A") None (property unqualified (decl life.Unwritten (types.Atom (at 0 1 10) atom_word.Int sign.Unwritten) (declarator (name (at 0 1 14) "x") None None ∷ [])) ∷ method (qualifiers false false true false) (routine (head (at 0 1 24) life.Unwritten units.Void (name (at 0 1 38) "f") []) [] (stmts.Statement (at 0 1 43) None (blocking (tree.Lval.Post (root.This (at 0 1 43)) (tree.Member (name (at 0 1 48) "x") tree.NoSuffix)) None (stmts.Value (number (at 0 1 52) "1"))) ∷ []) None) ∷ []) None)) ∷ module_ (at 0 1 76) life.Unwritten (name (at 0 1 83) "t") None [] [] None ∷ []

t54_broken : broken t54 [] None ≡ Some (fault 39 0 1 43)
unfolding symbols_of word_of
t54_broken = refl

-- module t; initial $finish(3); endmodule
abbrev t55 : List Description
t55 = module_ (at 0 1 1) life.Unwritten (name (at 0 1 8) "t") None [] (procedure (at 0 1 11) procedure_word.Initial (stmts.Statement (at 0 1 19) None (stmts.Call (system (at 0 1 19) "$finish" (number (at 0 1 27) "3" ∷ [])))) ∷ []) None ∷ []

t55_broken : broken t55 [] None ≡ Some (fault 12 0 1 27)
unfolding symbols_of word_of
t55_broken = refl

-- module t; function int f(); return 3; endfunction initial $display("%0d", f); endmodule
abbrev t59 : List Description
t59 = module_ (at 0 1 1) life.Unwritten (name (at 0 1 8) "t") None [] (items.Routine (routine (head (at 0 1 11) life.Unwritten (units.Returns.Value (types.Written (types.Atom (at 0 1 20) atom_word.Int sign.Unwritten))) (name (at 0 1 24) "f") []) [] (stmts.Statement (at 0 1 29) None (stmts.Return (Some (number (at 0 1 36) "3"))) ∷ []) None) ∷ procedure (at 0 1 51) procedure_word.Initial (stmts.Statement (at 0 1 59) None (stmts.Call (system (at 0 1 59) "$display" (text (at 0 1 68) "%0d" ∷ plain (at 0 1 75) "f" ∷ [])))) ∷ []) None ∷ []

t59_broken : broken t59 [] None ≡ Some (fault 7 0 1 75)
unfolding symbols_of word_of
t59_broken = refl

-- module t; task automatic w(int n); static int a = n; endtask endmodule
abbrev t61 : List Description
t61 = module_ (at 0 1 1) life.Unwritten (name (at 0 1 8) "t") None [] (items.Routine (routine (head (at 0 1 11) life.Automatic units.Task (name (at 0 1 26) "w") (argument None (types.Written (types.Atom (at 0 1 28) atom_word.Int sign.Unwritten)) (name (at 0 1 32) "n") None ∷ [])) (decl life.Static (types.Atom (at 0 1 43) atom_word.Int sign.Unwritten) (declarator (name (at 0 1 47) "a") None (Some (stmts.Value (plain (at 0 1 51) "n"))) ∷ []) ∷ []) [] None) ∷ []) None ∷ []

t61_broken : broken t61 [] None ≡ Some (fault 7 0 1 51)
unfolding symbols_of word_of
t61_broken = refl

-- module t; localparam r = p; localparam p = q, q = p; endmodule
abbrev t63 : List Description
t63 = module_ (at 0 1 1) life.Unwritten (name (at 0 1 8) "t") None [] (items.Param (param param_word.Localparam types.Unwritten (value (name (at 0 1 22) "r") (plain (at 0 1 26) "p") ∷ [])) ∷ items.Param (param param_word.Localparam types.Unwritten (value (name (at 0 1 40) "p") (plain (at 0 1 44) "q") ∷ value (name (at 0 1 47) "q") (plain (at 0 1 51) "p") ∷ [])) ∷ []) None ∷ []

t63_broken : broken t63 [] None ≡ Some (fault 11 0 1 44)
unfolding symbols_of word_of
t63_broken = refl

-- module t; localparam a = b + c, b = a, c = d, d = c; endmodule
abbrev t64 : List Description
t64 = module_ (at 0 1 1) life.Unwritten (name (at 0 1 8) "t") None [] (items.Param (param param_word.Localparam types.Unwritten (value (name (at 0 1 22) "a") (tree.Binary binary_word.Plus (at 0 1 28) (plain (at 0 1 26) "b") (plain (at 0 1 30) "c")) ∷ value (name (at 0 1 33) "b") (plain (at 0 1 37) "a") ∷ value (name (at 0 1 40) "c") (plain (at 0 1 44) "d") ∷ value (name (at 0 1 47) "d") (plain (at 0 1 51) "c") ∷ [])) ∷ []) None ∷ []

t64_broken : broken t64 [] None ≡ Some (fault 11 0 1 26)
unfolding symbols_of word_of
t64_broken = refl

-- module t; typedef logic [$bits(x):0] w; w x; endmodule
abbrev t65 : List Description
t65 = module_ (at 0 1 1) life.Unwritten (name (at 0 1 8) "t") None [] (items.Typedef (typedef (types.WrittenType.Vector (at 0 1 19) vector_word.Logic sign.Unwritten (Some (range (at 0 1 25) (system (at 0 1 26) "$bits" (plain (at 0 1 32) "x" ∷ [])) (number (at 0 1 35) "0")))) (name (at 0 1 38) "w")) ∷ items.Decl (decl life.Unwritten (types.Named (name (at 0 1 41) "w")) (declarator (name (at 0 1 43) "x") None None ∷ [])) ∷ []) None ∷ []

t65_broken : broken t65 [] None ≡ Some (fault 7 0 1 32)
unfolding symbols_of word_of
t65_broken = refl

-- module t; localparam P = $bits(f()); function logic [P:0] f(); endfunction endmodule
abbrev t66 : List Description
t66 = module_ (at 0 1 1) life.Unwritten (name (at 0 1 8) "t") None [] (items.Param (param param_word.Localparam types.Unwritten (value (name (at 0 1 22) "P") (system (at 0 1 26) "$bits" (tree.Expr.Post (root.Plain (name (at 0 1 32) "f")) (tree.Call (at 0 1 33) tree.NoExpr tree.NoSuffix) ∷ [])) ∷ [])) ∷ items.Routine (routine (head (at 0 1 38) life.Unwritten (units.Returns.Value (types.Written (types.WrittenType.Vector (at 0 1 47) vector_word.Logic sign.Unwritten (Some (range (at 0 1 53) (plain (at 0 1 54) "P") (number (at 0 1 56) "0")))))) (name (at 0 1 59) "f") []) [] [] None) ∷ []) None ∷ []

t66_broken : broken t66 [] None ≡ Some (fault 7 0 1 32)
unfolding symbols_of word_of
t66_broken = refl

-- module t; int q[$], r[$]; initial q <= r; endmodule
abbrev t68 : List Description
t68 = module_ (at 0 1 1) life.Unwritten (name (at 0 1 8) "t") None [] (items.Decl (decl life.Unwritten (types.Atom (at 0 1 11) atom_word.Int sign.Unwritten) (declarator (name (at 0 1 15) "q") (Some (stmts.Queue (at 0 1 16))) None ∷ declarator (name (at 0 1 21) "r") (Some (stmts.Queue (at 0 1 22))) None ∷ [])) ∷ procedure (at 0 1 27) procedure_word.Initial (stmts.Statement (at 0 1 35) None (nonblocking (target (at 0 1 35) "q") None (plain (at 0 1 40) "r"))) ∷ []) None ∷ []

t68_broken : broken t68 [] None ≡ Some (fault 42 0 1 35)
unfolding symbols_of word_of
t68_broken = refl

-- program p(input logic c, d); clocking cb @(posedge c); input d; output d; endclocking endprogram module t;  endmodule
abbrev t69 : List Description
t69 = program_ (at 0 1 1) life.Unwritten (name (at 0 1 9) "p") None (port (Some port_direction.Input) false (types.Written (types.WrittenType.Vector (at 0 1 17) vector_word.Logic sign.Unwritten None)) (name (at 0 1 23) "c") ∷ port None false types.Unwritten (name (at 0 1 26) "d") ∷ []) (clocking None (name (at 0 1 39) "cb") edge.Posedge (name (at 0 1 52) "c") (units.Signals (sided direction.Input None ∷ []) (name (at 0 1 62) "d" ∷ []) ∷ units.Signals (sided direction.Output None ∷ []) (name (at 0 1 72) "d" ∷ []) ∷ []) None ∷ []) None ∷ module_ (at 0 1 98) life.Unwritten (name (at 0 1 105) "t") None [] [] None ∷ []

t69_broken : broken t69 [] None ≡ Some (fault 19 0 1 72)
unfolding symbols_of word_of
t69_broken = refl

-- module t; logic [1:0] a; logic b; always_comb a[0] = b; always_comb a[1] = b; endmodule
abbrev t72 : List Description
t72 = module_ (at 0 1 1) life.Unwritten (name (at 0 1 8) "t") None [] (items.Decl (decl life.Unwritten (types.WrittenType.Vector (at 0 1 11) vector_word.Logic sign.Unwritten (Some (range (at 0 1 17) (number (at 0 1 18) "1") (number (at 0 1 20) "0")))) (declarator (name (at 0 1 23) "a") None None ∷ [])) ∷ items.Decl (decl life.Unwritten (types.WrittenType.Vector (at 0 1 26) vector_word.Logic sign.Unwritten None) (declarator (name (at 0 1 32) "b") None None ∷ [])) ∷ procedure (at 0 1 35) procedure_word.AlwaysComb (stmts.Statement (at 0 1 47) None (blocking (tree.Lval.Post (root.Plain (name (at 0 1 47) "a")) (tree.Select (at 0 1 48) (number (at 0 1 49) "0") tree.NoSuffix)) None (stmts.Value (plain (at 0 1 54) "b")))) ∷ procedure (at 0 1 57) procedure_word.AlwaysComb (stmts.Statement (at 0 1 69) None (blocking (tree.Lval.Post (root.Plain (name (at 0 1 69) "a")) (tree.Select (at 0 1 70) (number (at 0 1 71) "1") tree.NoSuffix)) None (stmts.Value (plain (at 0 1 76) "b")))) ∷ []) None ∷ []

t72_broken : broken t72 [] None ≡ Some (fault 22 0 1 69)
unfolding symbols_of word_of
t72_broken = refl

-- module t; int a; initial a = "s" + undef; endmodule
abbrev t74 : List Description
t74 = module_ (at 0 1 1) life.Unwritten (name (at 0 1 8) "t") None [] (items.Decl (decl life.Unwritten (types.Atom (at 0 1 11) atom_word.Int sign.Unwritten) (declarator (name (at 0 1 15) "a") None None ∷ [])) ∷ procedure (at 0 1 18) procedure_word.Initial (stmts.Statement (at 0 1 26) None (blocking (target (at 0 1 26) "a") None (stmts.Value (tree.Binary binary_word.Plus (at 0 1 34) (text (at 0 1 30) "s") (plain (at 0 1 36) "undef"))))) ∷ []) None ∷ []

t74_broken : broken t74 [] None ≡ Some (fault 15 0 1 30)
unfolding symbols_of word_of
t74_broken = refl

-- module t; initial for (int i = 0; i < 3; i++) begin int k = 3; end endmodule
abbrev t76 : List Description
t76 = module_ (at 0 1 1) life.Unwritten (name (at 0 1 8) "t") None [] (procedure (at 0 1 11) procedure_word.Initial (stmts.Statement (at 0 1 19) None (stmts.For (stmts.Declare (types.Atom (at 0 1 24) atom_word.Int sign.Unwritten) (name (at 0 1 28) "i") (number (at 0 1 32) "0")) (tree.Binary binary_word.Less (at 0 1 37) (plain (at 0 1 35) "i") (number (at 0 1 39) "3")) (stmts.ForStep.Step (at 0 1 42) (target (at 0 1 42) "i") step_word.Increment) (stmts.Statement (at 0 1 47) None (stmts.Block None (decl life.Unwritten (types.Atom (at 0 1 53) atom_word.Int sign.Unwritten) (declarator (name (at 0 1 57) "k") None (Some (stmts.Value (number (at 0 1 61) "3"))) ∷ []) ∷ []) stmts.NoStmt None)))) ∷ []) None ∷ []

t76_broken : broken t76 [] None ≡ Some (fault 41 0 1 61)
unfolding symbols_of word_of
t76_broken = refl

-- module t; wire [3:0] w; initial w[undef] = 1; endmodule
abbrev t77 : List Description
t77 = module_ (at 0 1 1) life.Unwritten (name (at 0 1 8) "t") None [] (net (at 0 1 11) sign.Unwritten (Some (range (at 0 1 16) (number (at 0 1 17) "3") (number (at 0 1 19) "0"))) (net_item (name (at 0 1 22) "w") None ∷ []) ∷ procedure (at 0 1 25) procedure_word.Initial (stmts.Statement (at 0 1 33) None (blocking (tree.Lval.Post (root.Plain (name (at 0 1 33) "w")) (tree.Select (at 0 1 34) (plain (at 0 1 35) "undef") tree.NoSuffix)) None (stmts.Value (number (at 0 1 44) "1")))) ∷ []) None ∷ []

t77_broken : broken t77 [] None ≡ Some (fault 21 0 1 33)
unfolding symbols_of word_of
t77_broken = refl

-- module t; parameter P = 3; initial P[undef] = 1; endmodule
abbrev t78 : List Description
t78 = module_ (at 0 1 1) life.Unwritten (name (at 0 1 8) "t") None [] (items.Param (param param_word.Parameter types.Unwritten (value (name (at 0 1 21) "P") (number (at 0 1 25) "3") ∷ [])) ∷ procedure (at 0 1 28) procedure_word.Initial (stmts.Statement (at 0 1 36) None (blocking (tree.Lval.Post (root.Plain (name (at 0 1 36) "P")) (tree.Select (at 0 1 37) (plain (at 0 1 38) "undef") tree.NoSuffix)) None (stmts.Value (number (at 0 1 47) "1")))) ∷ []) None ∷ []

t78_broken : broken t78 [] None ≡ Some (fault 19 0 1 36)
unfolding symbols_of word_of
t78_broken = refl

-- module t; int q[$]; initial q[undef] <= 1; endmodule
abbrev t79 : List Description
t79 = module_ (at 0 1 1) life.Unwritten (name (at 0 1 8) "t") None [] (items.Decl (decl life.Unwritten (types.Atom (at 0 1 11) atom_word.Int sign.Unwritten) (declarator (name (at 0 1 15) "q") (Some (stmts.Queue (at 0 1 16))) None ∷ [])) ∷ procedure (at 0 1 21) procedure_word.Initial (stmts.Statement (at 0 1 29) None (nonblocking (tree.Lval.Post (root.Plain (name (at 0 1 29) "q")) (tree.Select (at 0 1 30) (plain (at 0 1 31) "undef") tree.NoSuffix)) None (number (at 0 1 41) "1"))) ∷ []) None ∷ []

t79_broken : broken t79 [] None ≡ Some (fault 26 0 1 29)
unfolding symbols_of word_of
t79_broken = refl

-- module t; function int f(int a); int n; n = a; return n; endfunction int x, y, u, v; always_comb x = f(u); always_comb y = f(v); endmodule
abbrev t81 : List Description
t81 = module_ (at 0 1 1) life.Unwritten (name (at 0 1 8) "t") None [] (items.Routine (routine (head (at 0 1 11) life.Unwritten (units.Returns.Value (types.Written (types.Atom (at 0 1 20) atom_word.Int sign.Unwritten))) (name (at 0 1 24) "f") (argument None (types.Written (types.Atom (at 0 1 26) atom_word.Int sign.Unwritten)) (name (at 0 1 30) "a") None ∷ [])) (decl life.Unwritten (types.Atom (at 0 1 34) atom_word.Int sign.Unwritten) (declarator (name (at 0 1 38) "n") None None ∷ []) ∷ []) (stmts.Statement (at 0 1 41) None (blocking (target (at 0 1 41) "n") None (stmts.Value (plain (at 0 1 45) "a"))) ∷ stmts.Statement (at 0 1 48) None (stmts.Return (Some (plain (at 0 1 55) "n"))) ∷ []) None) ∷ items.Decl (decl life.Unwritten (types.Atom (at 0 1 70) atom_word.Int sign.Unwritten) (declarator (name (at 0 1 74) "x") None None ∷ declarator (name (at 0 1 77) "y") None None ∷ declarator (name (at 0 1 80) "u") None None ∷ declarator (name (at 0 1 83) "v") None None ∷ [])) ∷ procedure (at 0 1 86) procedure_word.AlwaysComb (stmts.Statement (at 0 1 98) None (blocking (target (at 0 1 98) "x") None (stmts.Value (tree.Expr.Post (root.Plain (name (at 0 1 102) "f")) (tree.Call (at 0 1 103) (expressions (plain (at 0 1 104) "u" ∷ [])) tree.NoSuffix))))) ∷ procedure (at 0 1 108) procedure_word.AlwaysComb (stmts.Statement (at 0 1 120) None (blocking (target (at 0 1 120) "y") None (stmts.Value (tree.Expr.Post (root.Plain (name (at 0 1 124) "f")) (tree.Call (at 0 1 125) (expressions (plain (at 0 1 126) "v" ∷ [])) tree.NoSuffix))))) ∷ []) None ∷ []

t81_broken : broken t81 [] None ≡ Some (fault 22 0 1 41)
unfolding symbols_of word_of
t81_broken = refl

-- module t; int d[] = new[3]; endmodule
abbrev t82 : List Description
t82 = module_ (at 0 1 1) life.Unwritten (name (at 0 1 8) "t") None [] (items.Decl (decl life.Unwritten (types.Atom (at 0 1 11) atom_word.Int sign.Unwritten) (declarator (name (at 0 1 15) "d") (Some (stmts.Empty (at 0 1 16))) (Some (stmts.Array (at 0 1 21) (number (at 0 1 25) "3") None)) ∷ [])) ∷ []) None ∷ []

t82_broken : broken t82 [] None ≡ Some (fault 25 0 1 21)
unfolding symbols_of word_of
t82_broken = refl

-- module t; string s; initial foreach (s[i]) ; endmodule
abbrev t85 : List Description
t85 = module_ (at 0 1 1) life.Unwritten (name (at 0 1 8) "t") None [] (items.Decl (decl life.Unwritten (types.Text (at 0 1 11)) (declarator (name (at 0 1 18) "s") None None ∷ [])) ∷ procedure (at 0 1 21) procedure_word.Initial (stmts.Statement (at 0 1 29) None (stmts.Foreach (name (at 0 1 38) "s") (name (at 0 1 40) "i") (stmts.Statement (at 0 1 44) None stmts.Null))) ∷ []) None ∷ []

t85_broken : broken t85 [] None ≡ Some (fault 7 0 1 38)
unfolding symbols_of word_of
t85_broken = refl

-- module t; initial $display("%05d", 3); endmodule
abbrev t87 : List Description
t87 = module_ (at 0 1 1) life.Unwritten (name (at 0 1 8) "t") None [] (procedure (at 0 1 11) procedure_word.Initial (stmts.Statement (at 0 1 19) None (stmts.Call (system (at 0 1 19) "$display" (text (at 0 1 28) "%05d" ∷ number (at 0 1 36) "3" ∷ [])))) ∷ []) None ∷ []

t87_broken : broken t87 [] None ≡ Some (fault 50 0 1 28)
unfolding symbols_of word_of
t87_broken = refl

-- module t; int q[$], r[$]; initial q = #1 r; endmodule
abbrev t98 : List Description
t98 = module_ (at 0 1 1) life.Unwritten (name (at 0 1 8) "t") None [] (items.Decl (decl life.Unwritten (types.Atom (at 0 1 11) atom_word.Int sign.Unwritten) (declarator (name (at 0 1 15) "q") (Some (stmts.Queue (at 0 1 16))) None ∷ declarator (name (at 0 1 21) "r") (Some (stmts.Queue (at 0 1 22))) None ∷ [])) ∷ procedure (at 0 1 27) procedure_word.Initial (stmts.Statement (at 0 1 35) None (blocking (target (at 0 1 35) "q") (Some (delay (at 0 1 39) (number (at 0 1 40) "1"))) (stmts.Value (plain (at 0 1 42) "r")))) ∷ []) None ∷ []

t98_broken : broken t98 [] None ≡ Some (fault 42 0 1 35)
unfolding symbols_of word_of
t98_broken = refl
