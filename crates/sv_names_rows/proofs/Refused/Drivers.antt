-- Texts that break a rule, or come close to it: what drives and writes signals.
use Rattle.std.proofs.Common.{◌≡◌, List, [], ◌∷◌, true, false, refl}
use Rattle.std.specs.Prelude.{Some, None}
use Rattle.sv_value.specs.Vector.{symbols_of, word_of}
use Rattle.sv_tree.specs.declared.word.BinaryWord.TheVariants as binary_word
use Rattle.sv_tree.specs.declared.word.VectorWord.TheVariants as vector_word
use Rattle.sv_tree.specs.declared.word.AtomWord.TheVariants as atom_word
use Rattle.sv_tree.specs.declared.word.Sign.TheVariants as sign
use Rattle.sv_tree.specs.declared.word.Life.TheVariants as life
use Rattle.sv_tree.specs.declared.word.EdgeWord.TheVariants as edge
use Rattle.sv_tree.specs.declared.word.StepWord.TheVariants as step_word
use Rattle.sv_tree.specs.declared.word.ProcedureWord.TheVariants as procedure_word
use Rattle.sv_tree.specs.declared.word.PortDirection.TheVariants as port_direction
use Rattle.sv_tree.specs.declared.word.ParamWord.TheVariants as param_word
use Rattle.sv_tree.specs.declared.expr.Root.TheVariants as root
use Rattle.sv_tree.specs.Expr as tree
use Rattle.sv_tree.specs.Types as types
use Rattle.sv_tree.specs.Stmt as stmts
use Rattle.sv_tree.specs.Units as units
use Rattle.sv_tree.specs.Items as items
use Rattle.sv_tree.specs.Descriptions as descriptions
use Rattle.sv_tree.specs.Descriptions.{Description}
use Rattle.sv_names.specs.Design.{broken}
use Rattle.sv_names_rows.proofs.Kit.{assign_item, at, blocking, class_, decl, declarator, enum_item, event_part, fault, head, instance, instances, method, module_, name, net, net_item, nonblocking, number, operated, param, plain, port, procedure, property, qualifiers, range, routine, statements, target, targets, unqualified, value}

-- module t; wire [3:0] w; initial w[0] <= 1; endmodule
abbrev t1 : List Description
t1 = module_ (at 0 1 1) life.Unwritten (name (at 0 1 8) "t") None [] (net (at 0 1 11) sign.Unwritten (Some (range (at 0 1 16) (number (at 0 1 17) "3") (number (at 0 1 19) "0"))) (net_item (name (at 0 1 22) "w") None ∷ []) ∷ procedure (at 0 1 25) procedure_word.Initial (stmts.Statement (at 0 1 33) None (nonblocking (tree.Lval.Post (root.Plain (name (at 0 1 33) "w")) (tree.Select (at 0 1 34) (number (at 0 1 35) "0") tree.NoSuffix)) None (number (at 0 1 41) "1"))) ∷ []) None ∷ []

t1_broken : broken t1 [] None ≡ Some (fault 21 0 1 33)
unfolding symbols_of word_of
t1_broken = refl

-- module t; logic [3:0] a; int i; assign a[i] = 1; endmodule
abbrev t2 : List Description
t2 = module_ (at 0 1 1) life.Unwritten (name (at 0 1 8) "t") None [] (items.Decl (decl life.Unwritten (types.WrittenType.Vector (at 0 1 11) vector_word.Logic sign.Unwritten (Some (range (at 0 1 17) (number (at 0 1 18) "3") (number (at 0 1 20) "0")))) (declarator (name (at 0 1 23) "a") None None ∷ [])) ∷ items.Decl (decl life.Unwritten (types.Atom (at 0 1 26) atom_word.Int sign.Unwritten) (declarator (name (at 0 1 30) "i") None None ∷ [])) ∷ items.Assign (assign_item (tree.Lval.Post (root.Plain (name (at 0 1 40) "a")) (tree.Select (at 0 1 41) (plain (at 0 1 42) "i") tree.NoSuffix)) (number (at 0 1 47) "1") ∷ []) ∷ []) None ∷ []

t2_broken : broken t2 [] None ≡ Some (fault 11 0 1 42)
unfolding symbols_of word_of
t2_broken = refl

-- module t; logic [3:0] a, b; assign {a, b} = 8'd3; initial b = 1; endmodule
abbrev t3 : List Description
t3 = module_ (at 0 1 1) life.Unwritten (name (at 0 1 8) "t") None [] (items.Decl (decl life.Unwritten (types.WrittenType.Vector (at 0 1 11) vector_word.Logic sign.Unwritten (Some (range (at 0 1 17) (number (at 0 1 18) "3") (number (at 0 1 20) "0")))) (declarator (name (at 0 1 23) "a") None None ∷ declarator (name (at 0 1 26) "b") None None ∷ [])) ∷ items.Assign (assign_item (tree.Lval.Join (at 0 1 36) (targets (target (at 0 1 37) "a" ∷ target (at 0 1 40) "b" ∷ []))) (number (at 0 1 45) "8'd3") ∷ []) ∷ procedure (at 0 1 51) procedure_word.Initial (stmts.Statement (at 0 1 59) None (blocking (target (at 0 1 59) "b") None (stmts.Value (number (at 0 1 63) "1")))) ∷ []) None ∷ []

t3_broken : broken t3 [] None ≡ Some (fault 20 0 1 59)
unfolding symbols_of word_of
t3_broken = refl

-- module t; logic [3:0] a; assign a[0] = 1; assign a[1] = 0; endmodule
abbrev t4 : List Description
t4 = module_ (at 0 1 1) life.Unwritten (name (at 0 1 8) "t") None [] (items.Decl (decl life.Unwritten (types.WrittenType.Vector (at 0 1 11) vector_word.Logic sign.Unwritten (Some (range (at 0 1 17) (number (at 0 1 18) "3") (number (at 0 1 20) "0")))) (declarator (name (at 0 1 23) "a") None None ∷ [])) ∷ items.Assign (assign_item (tree.Lval.Post (root.Plain (name (at 0 1 33) "a")) (tree.Select (at 0 1 34) (number (at 0 1 35) "0") tree.NoSuffix)) (number (at 0 1 40) "1") ∷ []) ∷ items.Assign (assign_item (tree.Lval.Post (root.Plain (name (at 0 1 50) "a")) (tree.Select (at 0 1 51) (number (at 0 1 52) "1") tree.NoSuffix)) (number (at 0 1 57) "0") ∷ []) ∷ []) None ∷ []

t4_broken : broken t4 [] None ≡ Some (fault 20 0 1 50)
unfolding symbols_of word_of
t4_broken = refl

-- module t; int q[$]; assign q[0] = 1; endmodule
abbrev t5 : List Description
t5 = module_ (at 0 1 1) life.Unwritten (name (at 0 1 8) "t") None [] (items.Decl (decl life.Unwritten (types.Atom (at 0 1 11) atom_word.Int sign.Unwritten) (declarator (name (at 0 1 15) "q") (Some (stmts.Queue (at 0 1 16))) None ∷ [])) ∷ items.Assign (assign_item (tree.Lval.Post (root.Plain (name (at 0 1 28) "q")) (tree.Select (at 0 1 29) (number (at 0 1 30) "0") tree.NoSuffix)) (number (at 0 1 35) "1") ∷ []) ∷ []) None ∷ []

t5_broken : broken t5 [] None ≡ Some (fault 18 0 1 28)
unfolding symbols_of word_of
t5_broken = refl

-- module t; class A; static int x; endclass assign A::x = 1; endmodule
abbrev t6 : List Description
t6 = module_ (at 0 1 1) life.Unwritten (name (at 0 1 8) "t") None [] (items.Class (class_ (at 0 1 11) false (name (at 0 1 17) "A") None (property (qualifiers false false true false) (decl life.Unwritten (types.Atom (at 0 1 27) atom_word.Int sign.Unwritten) (declarator (name (at 0 1 31) "x") None None ∷ [])) ∷ []) None) ∷ items.Assign (assign_item (tree.Lval.Post (root.Scoped (name (at 0 1 50) "A") (name (at 0 1 53) "x")) tree.NoSuffix) (number (at 0 1 57) "1") ∷ []) ∷ []) None ∷ []

t6_broken : broken t6 [] None ≡ Some (fault 18 0 1 50)
unfolding symbols_of word_of
t6_broken = refl

-- module u(output logic y); endmodule module t; logic [3:0] a; int i; u x(.y(a[i])); endmodule
abbrev t7 : List Description
t7 = module_ (at 0 1 1) life.Unwritten (name (at 0 1 8) "u") None (port (Some port_direction.Output) false (types.Written (types.WrittenType.Vector (at 0 1 17) vector_word.Logic sign.Unwritten None)) (name (at 0 1 23) "y") ∷ []) [] None ∷ module_ (at 0 1 37) life.Unwritten (name (at 0 1 44) "t") None [] (items.Decl (decl life.Unwritten (types.WrittenType.Vector (at 0 1 47) vector_word.Logic sign.Unwritten (Some (range (at 0 1 53) (number (at 0 1 54) "3") (number (at 0 1 56) "0")))) (declarator (name (at 0 1 59) "a") None None ∷ [])) ∷ items.Decl (decl life.Unwritten (types.Atom (at 0 1 62) atom_word.Int sign.Unwritten) (declarator (name (at 0 1 66) "i") None None ∷ [])) ∷ instances (name (at 0 1 69) "u") [] (instance (name (at 0 1 71) "x") (units.Given (at 0 1 73) (name (at 0 1 74) "y") (Some (tree.Expr.Post (root.Plain (name (at 0 1 76) "a")) (tree.Select (at 0 1 77) (plain (at 0 1 78) "i") tree.NoSuffix))) ∷ []) ∷ []) ∷ []) None ∷ []

t7_broken : broken t7 [] None ≡ Some (fault 11 0 1 78)
unfolding symbols_of word_of
t7_broken = refl

-- module u(output logic y); endmodule module t; logic [3:0] a; u x(.y(a[0])); u z(.y(a[1])); endmodule
abbrev t8 : List Description
t8 = module_ (at 0 1 1) life.Unwritten (name (at 0 1 8) "u") None (port (Some port_direction.Output) false (types.Written (types.WrittenType.Vector (at 0 1 17) vector_word.Logic sign.Unwritten None)) (name (at 0 1 23) "y") ∷ []) [] None ∷ module_ (at 0 1 37) life.Unwritten (name (at 0 1 44) "t") None [] (items.Decl (decl life.Unwritten (types.WrittenType.Vector (at 0 1 47) vector_word.Logic sign.Unwritten (Some (range (at 0 1 53) (number (at 0 1 54) "3") (number (at 0 1 56) "0")))) (declarator (name (at 0 1 59) "a") None None ∷ [])) ∷ instances (name (at 0 1 62) "u") [] (instance (name (at 0 1 64) "x") (units.Given (at 0 1 66) (name (at 0 1 67) "y") (Some (tree.Expr.Post (root.Plain (name (at 0 1 69) "a")) (tree.Select (at 0 1 70) (number (at 0 1 71) "0") tree.NoSuffix))) ∷ []) ∷ []) ∷ instances (name (at 0 1 77) "u") [] (instance (name (at 0 1 79) "z") (units.Given (at 0 1 81) (name (at 0 1 82) "y") (Some (tree.Expr.Post (root.Plain (name (at 0 1 84) "a")) (tree.Select (at 0 1 85) (number (at 0 1 86) "1") tree.NoSuffix))) ∷ []) ∷ []) ∷ []) None ∷ []

t8_broken : broken t8 [] None ≡ Some (fault 20 0 1 84)
unfolding symbols_of word_of
t8_broken = refl

-- module u(output logic [3:0] y); endmodule module t; string s; u x(s); endmodule
abbrev t9 : List Description
t9 = module_ (at 0 1 1) life.Unwritten (name (at 0 1 8) "u") None (port (Some port_direction.Output) false (types.Written (types.WrittenType.Vector (at 0 1 17) vector_word.Logic sign.Unwritten (Some (range (at 0 1 23) (number (at 0 1 24) "3") (number (at 0 1 26) "0"))))) (name (at 0 1 29) "y") ∷ []) [] None ∷ module_ (at 0 1 43) life.Unwritten (name (at 0 1 50) "t") None [] (items.Decl (decl life.Unwritten (types.Text (at 0 1 53)) (declarator (name (at 0 1 60) "s") None None ∷ [])) ∷ instances (name (at 0 1 63) "u") [] (instance (name (at 0 1 65) "x") (units.Connection.Value (plain (at 0 1 67) "s") ∷ []) ∷ []) ∷ []) None ∷ []

t9_broken : broken t9 [] None ≡ Some (fault 16 0 1 67)
unfolding symbols_of word_of
t9_broken = refl

-- module u(output string y); endmodule module t; logic [3:0] s; u x(s); endmodule
abbrev t10 : List Description
t10 = module_ (at 0 1 1) life.Unwritten (name (at 0 1 8) "u") None (port (Some port_direction.Output) false (types.Written (types.Text (at 0 1 17))) (name (at 0 1 24) "y") ∷ []) [] None ∷ module_ (at 0 1 38) life.Unwritten (name (at 0 1 45) "t") None [] (items.Decl (decl life.Unwritten (types.WrittenType.Vector (at 0 1 48) vector_word.Logic sign.Unwritten (Some (range (at 0 1 54) (number (at 0 1 55) "3") (number (at 0 1 57) "0")))) (declarator (name (at 0 1 60) "s") None None ∷ [])) ∷ instances (name (at 0 1 63) "u") [] (instance (name (at 0 1 65) "x") (units.Connection.Value (plain (at 0 1 67) "s") ∷ []) ∷ []) ∷ []) None ∷ []

t10_broken : broken t10 [] None ≡ Some (fault 16 0 1 67)
unfolding symbols_of word_of
t10_broken = refl

-- module u(input string y); endmodule module t; logic [3:0] s; u x(s); endmodule
abbrev t11 : List Description
t11 = module_ (at 0 1 1) life.Unwritten (name (at 0 1 8) "u") None (port (Some port_direction.Input) false (types.Written (types.Text (at 0 1 16))) (name (at 0 1 23) "y") ∷ []) [] None ∷ module_ (at 0 1 37) life.Unwritten (name (at 0 1 44) "t") None [] (items.Decl (decl life.Unwritten (types.WrittenType.Vector (at 0 1 47) vector_word.Logic sign.Unwritten (Some (range (at 0 1 53) (number (at 0 1 54) "3") (number (at 0 1 56) "0")))) (declarator (name (at 0 1 59) "s") None None ∷ [])) ∷ instances (name (at 0 1 62) "u") [] (instance (name (at 0 1 64) "x") (units.Connection.Value (plain (at 0 1 66) "s") ∷ []) ∷ []) ∷ []) None ∷ []

t11_broken : broken t11 [] None ≡ Some (fault 16 0 1 66)
unfolding symbols_of word_of
t11_broken = refl

-- module t; logic a; always_comb a = 1; always_ff @(posedge a) a <= 0; endmodule
abbrev t12 : List Description
t12 = module_ (at 0 1 1) life.Unwritten (name (at 0 1 8) "t") None [] (items.Decl (decl life.Unwritten (types.WrittenType.Vector (at 0 1 11) vector_word.Logic sign.Unwritten None) (declarator (name (at 0 1 17) "a") None None ∷ [])) ∷ procedure (at 0 1 20) procedure_word.AlwaysComb (stmts.Statement (at 0 1 32) None (blocking (target (at 0 1 32) "a") None (stmts.Value (number (at 0 1 36) "1")))) ∷ procedure (at 0 1 39) procedure_word.AlwaysFf (stmts.Statement (at 0 1 49) None (stmts.On (stmts.Parts (event_part edge.Posedge (plain (at 0 1 59) "a") None ∷ [])) (stmts.Statement (at 0 1 62) None (nonblocking (target (at 0 1 62) "a") None (number (at 0 1 67) "0"))))) ∷ []) None ∷ []

t12_broken : broken t12 [] None ≡ Some (fault 22 0 1 62)
unfolding symbols_of word_of
t12_broken = refl

-- module t; logic a; function void f(); a = 1; endfunction always_comb f(); initial f(); endmodule
abbrev t13 : List Description
t13 = module_ (at 0 1 1) life.Unwritten (name (at 0 1 8) "t") None [] (items.Decl (decl life.Unwritten (types.WrittenType.Vector (at 0 1 11) vector_word.Logic sign.Unwritten None) (declarator (name (at 0 1 17) "a") None None ∷ [])) ∷ items.Routine (routine (head (at 0 1 20) life.Unwritten units.Void (name (at 0 1 34) "f") []) [] (stmts.Statement (at 0 1 39) None (blocking (target (at 0 1 39) "a") None (stmts.Value (number (at 0 1 43) "1"))) ∷ []) None) ∷ procedure (at 0 1 58) procedure_word.AlwaysComb (stmts.Statement (at 0 1 70) None (stmts.Call (tree.Expr.Post (root.Plain (name (at 0 1 70) "f")) (tree.Call (at 0 1 71) tree.NoExpr tree.NoSuffix)))) ∷ procedure (at 0 1 75) procedure_word.Initial (stmts.Statement (at 0 1 83) None (stmts.Call (tree.Expr.Post (root.Plain (name (at 0 1 83) "f")) (tree.Call (at 0 1 84) tree.NoExpr tree.NoSuffix)))) ∷ []) None ∷ []

t13_broken : broken t13 [] None ≡ Some (fault 22 0 1 39)
unfolding symbols_of word_of
t13_broken = refl

-- module t; logic a; task w(); a = 1; endtask always_comb a = 0; initial w(); endmodule
abbrev t14 : List Description
t14 = module_ (at 0 1 1) life.Unwritten (name (at 0 1 8) "t") None [] (items.Decl (decl life.Unwritten (types.WrittenType.Vector (at 0 1 11) vector_word.Logic sign.Unwritten None) (declarator (name (at 0 1 17) "a") None None ∷ [])) ∷ items.Routine (routine (head (at 0 1 20) life.Unwritten units.Task (name (at 0 1 25) "w") []) [] (stmts.Statement (at 0 1 30) None (blocking (target (at 0 1 30) "a") None (stmts.Value (number (at 0 1 34) "1"))) ∷ []) None) ∷ procedure (at 0 1 45) procedure_word.AlwaysComb (stmts.Statement (at 0 1 57) None (blocking (target (at 0 1 57) "a") None (stmts.Value (number (at 0 1 61) "0")))) ∷ procedure (at 0 1 64) procedure_word.Initial (stmts.Statement (at 0 1 72) None (stmts.Call (tree.Expr.Post (root.Plain (name (at 0 1 72) "w")) (tree.Call (at 0 1 73) tree.NoExpr tree.NoSuffix)))) ∷ []) None ∷ []

t14_broken : broken t14 [] None ≡ Some (fault 22 0 1 57)
unfolding symbols_of word_of
t14_broken = refl

-- module t; logic a; function void f(); a = 1; endfunction assign a = 0; endmodule
abbrev t15 : List Description
t15 = module_ (at 0 1 1) life.Unwritten (name (at 0 1 8) "t") None [] (items.Decl (decl life.Unwritten (types.WrittenType.Vector (at 0 1 11) vector_word.Logic sign.Unwritten None) (declarator (name (at 0 1 17) "a") None None ∷ [])) ∷ items.Routine (routine (head (at 0 1 20) life.Unwritten units.Void (name (at 0 1 34) "f") []) [] (stmts.Statement (at 0 1 39) None (blocking (target (at 0 1 39) "a") None (stmts.Value (number (at 0 1 43) "1"))) ∷ []) None) ∷ items.Assign (assign_item (target (at 0 1 65) "a") (number (at 0 1 69) "0") ∷ []) ∷ []) None ∷ []

t15_broken : broken t15 [] None ≡ Some (fault 20 0 1 65)
unfolding symbols_of word_of
t15_broken = refl

-- class A; virtual function void f(); endfunction endclass module t; logic a; class B extends A; virtual function void f(); a = 1; endfunction endclass A x; always_comb begin x.f(); end initial a = 0; endmodule
abbrev t16 : List Description
t16 = descriptions.Item (items.Class (class_ (at 0 1 1) false (name (at 0 1 7) "A") None (method (qualifiers false false false true) (routine (head (at 0 1 18) life.Unwritten units.Void (name (at 0 1 32) "f") []) [] [] None) ∷ []) None)) ∷ module_ (at 0 1 58) life.Unwritten (name (at 0 1 65) "t") None [] (items.Decl (decl life.Unwritten (types.WrittenType.Vector (at 0 1 68) vector_word.Logic sign.Unwritten None) (declarator (name (at 0 1 74) "a") None None ∷ [])) ∷ items.Class (class_ (at 0 1 77) false (name (at 0 1 83) "B") (Some (name (at 0 1 93) "A")) (method (qualifiers false false false true) (routine (head (at 0 1 104) life.Unwritten units.Void (name (at 0 1 118) "f") []) [] (stmts.Statement (at 0 1 123) None (blocking (target (at 0 1 123) "a") None (stmts.Value (number (at 0 1 127) "1"))) ∷ []) None) ∷ []) None) ∷ items.Decl (decl life.Unwritten (types.Named (name (at 0 1 151) "A")) (declarator (name (at 0 1 153) "x") None None ∷ [])) ∷ procedure (at 0 1 156) procedure_word.AlwaysComb (stmts.Statement (at 0 1 168) None (stmts.Block None [] (statements (stmts.Statement (at 0 1 174) None (stmts.Call (tree.Expr.Post (root.Plain (name (at 0 1 174) "x")) (tree.Member (name (at 0 1 176) "f") (tree.Call (at 0 1 177) tree.NoExpr tree.NoSuffix)))) ∷ [])) None)) ∷ procedure (at 0 1 185) procedure_word.Initial (stmts.Statement (at 0 1 193) None (blocking (target (at 0 1 193) "a") None (stmts.Value (number (at 0 1 197) "0")))) ∷ []) None ∷ []

t16_broken : broken t16 [] None ≡ Some (fault 22 0 1 193)
unfolding symbols_of word_of
t16_broken = refl

-- module t; logic a; class B; function new(); a = 1; endfunction endclass B x; always_comb a = 0; initial x = new; endmodule
abbrev t17 : List Description
t17 = module_ (at 0 1 1) life.Unwritten (name (at 0 1 8) "t") None [] (items.Decl (decl life.Unwritten (types.WrittenType.Vector (at 0 1 11) vector_word.Logic sign.Unwritten None) (declarator (name (at 0 1 17) "a") None None ∷ [])) ∷ items.Class (class_ (at 0 1 20) false (name (at 0 1 26) "B") None (method unqualified (routine (head (at 0 1 29) life.Unwritten (units.Returns.Value types.Unwritten) (name (at 0 1 38) "new") []) [] (stmts.Statement (at 0 1 45) None (blocking (target (at 0 1 45) "a") None (stmts.Value (number (at 0 1 49) "1"))) ∷ []) None) ∷ []) None) ∷ items.Decl (decl life.Unwritten (types.Named (name (at 0 1 73) "B")) (declarator (name (at 0 1 75) "x") None None ∷ [])) ∷ procedure (at 0 1 78) procedure_word.AlwaysComb (stmts.Statement (at 0 1 90) None (blocking (target (at 0 1 90) "a") None (stmts.Value (number (at 0 1 94) "0")))) ∷ procedure (at 0 1 97) procedure_word.Initial (stmts.Statement (at 0 1 105) None (blocking (target (at 0 1 105) "x") None (stmts.New (at 0 1 109) tree.Unwritten))) ∷ []) None ∷ []

t17_broken : broken t17 [] None ≡ Some (fault 22 0 1 90)
unfolding symbols_of word_of
t17_broken = refl

-- module t; logic a; class B; int z = g(); function int g(); a = 1; return 1; endfunction endclass B x; always_comb a = 0; initial x = new; endmodule
abbrev t18 : List Description
t18 = module_ (at 0 1 1) life.Unwritten (name (at 0 1 8) "t") None [] (items.Decl (decl life.Unwritten (types.WrittenType.Vector (at 0 1 11) vector_word.Logic sign.Unwritten None) (declarator (name (at 0 1 17) "a") None None ∷ [])) ∷ items.Class (class_ (at 0 1 20) false (name (at 0 1 26) "B") None (property unqualified (decl life.Unwritten (types.Atom (at 0 1 29) atom_word.Int sign.Unwritten) (declarator (name (at 0 1 33) "z") None (Some (stmts.Value (tree.Expr.Post (root.Plain (name (at 0 1 37) "g")) (tree.Call (at 0 1 38) tree.NoExpr tree.NoSuffix)))) ∷ [])) ∷ method unqualified (routine (head (at 0 1 42) life.Unwritten (units.Returns.Value (types.Written (types.Atom (at 0 1 51) atom_word.Int sign.Unwritten))) (name (at 0 1 55) "g") []) [] (stmts.Statement (at 0 1 60) None (blocking (target (at 0 1 60) "a") None (stmts.Value (number (at 0 1 64) "1"))) ∷ stmts.Statement (at 0 1 67) None (stmts.Return (Some (number (at 0 1 74) "1"))) ∷ []) None) ∷ []) None) ∷ items.Decl (decl life.Unwritten (types.Named (name (at 0 1 98) "B")) (declarator (name (at 0 1 100) "x") None None ∷ [])) ∷ procedure (at 0 1 103) procedure_word.AlwaysComb (stmts.Statement (at 0 1 115) None (blocking (target (at 0 1 115) "a") None (stmts.Value (number (at 0 1 119) "0")))) ∷ procedure (at 0 1 122) procedure_word.Initial (stmts.Statement (at 0 1 130) None (blocking (target (at 0 1 130) "x") None (stmts.New (at 0 1 134) tree.Unwritten))) ∷ []) None ∷ []

t18_broken : broken t18 [] None ≡ Some (fault 22 0 1 115)
unfolding symbols_of word_of
t18_broken = refl

-- module t(input logic a, output logic b); initial a = 1; endmodule
abbrev t19 : List Description
t19 = module_ (at 0 1 1) life.Unwritten (name (at 0 1 8) "t") None (port (Some port_direction.Input) false (types.Written (types.WrittenType.Vector (at 0 1 16) vector_word.Logic sign.Unwritten None)) (name (at 0 1 22) "a") ∷ port (Some port_direction.Output) false (types.Written (types.WrittenType.Vector (at 0 1 32) vector_word.Logic sign.Unwritten None)) (name (at 0 1 38) "b") ∷ []) (procedure (at 0 1 42) procedure_word.Initial (stmts.Statement (at 0 1 50) None (blocking (target (at 0 1 50) "a") None (stmts.Value (number (at 0 1 54) "1")))) ∷ []) None ∷ []

t19_broken : broken t19 [] None ≡ Some (fault 19 0 1 50)
unfolding symbols_of word_of
t19_broken = refl

-- module t #(parameter P = 1)(); initial P = 2; initial P++; endmodule
abbrev t20 : List Description
t20 = module_ (at 0 1 1) life.Unwritten (name (at 0 1 8) "t") (Some (param param_word.Parameter types.Unwritten (value (name (at 0 1 22) "P") (number (at 0 1 26) "1") ∷ []) ∷ [])) [] (procedure (at 0 1 32) procedure_word.Initial (stmts.Statement (at 0 1 40) None (blocking (target (at 0 1 40) "P") None (stmts.Value (number (at 0 1 44) "2")))) ∷ procedure (at 0 1 47) procedure_word.Initial (stmts.Statement (at 0 1 55) None (stmts.Body.Step (target (at 0 1 55) "P") step_word.Increment)) ∷ []) None ∷ []

t20_broken : broken t20 [] None ≡ Some (fault 19 0 1 40)
unfolding symbols_of word_of
t20_broken = refl

-- module t; enum {A, B} e; initial A = B; initial e++; endmodule
abbrev t21 : List Description
t21 = module_ (at 0 1 1) life.Unwritten (name (at 0 1 8) "t") None [] (items.Decl (decl life.Unwritten (types.Enum (at 0 1 11) (enum_item (name (at 0 1 17) "A") None ∷ enum_item (name (at 0 1 20) "B") None ∷ [])) (declarator (name (at 0 1 23) "e") None None ∷ [])) ∷ procedure (at 0 1 26) procedure_word.Initial (stmts.Statement (at 0 1 34) None (blocking (target (at 0 1 34) "A") None (stmts.Value (plain (at 0 1 38) "B")))) ∷ procedure (at 0 1 41) procedure_word.Initial (stmts.Statement (at 0 1 49) None (stmts.Body.Step (target (at 0 1 49) "e") step_word.Increment)) ∷ []) None ∷ []

t21_broken : broken t21 [] None ≡ Some (fault 18 0 1 34)
unfolding symbols_of word_of
t21_broken = refl

-- module t; enum {A, B} e; initial e += 1; endmodule
abbrev t22 : List Description
t22 = module_ (at 0 1 1) life.Unwritten (name (at 0 1 8) "t") None [] (items.Decl (decl life.Unwritten (types.Enum (at 0 1 11) (enum_item (name (at 0 1 17) "A") None ∷ enum_item (name (at 0 1 20) "B") None ∷ [])) (declarator (name (at 0 1 23) "e") None None ∷ [])) ∷ procedure (at 0 1 26) procedure_word.Initial (stmts.Statement (at 0 1 34) None (stmts.Body.Operator (operated (target (at 0 1 34) "e") binary_word.Plus (number (at 0 1 39) "1")))) ∷ []) None ∷ []

t22_broken : broken t22 [] None ≡ Some (fault 17 0 1 39)
unfolding symbols_of word_of
t22_broken = refl

-- module t; string s; initial s++; endmodule
abbrev t23 : List Description
t23 = module_ (at 0 1 1) life.Unwritten (name (at 0 1 8) "t") None [] (items.Decl (decl life.Unwritten (types.Text (at 0 1 11)) (declarator (name (at 0 1 18) "s") None None ∷ [])) ∷ procedure (at 0 1 21) procedure_word.Initial (stmts.Statement (at 0 1 29) None (stmts.Body.Step (target (at 0 1 29) "s") step_word.Increment)) ∷ []) None ∷ []

t23_broken : broken t23 [] None ≡ Some (fault 15 0 1 29)
unfolding symbols_of word_of
t23_broken = refl

-- module t; string s; initial s += 1; endmodule
abbrev t24 : List Description
t24 = module_ (at 0 1 1) life.Unwritten (name (at 0 1 8) "t") None [] (items.Decl (decl life.Unwritten (types.Text (at 0 1 11)) (declarator (name (at 0 1 18) "s") None None ∷ [])) ∷ procedure (at 0 1 21) procedure_word.Initial (stmts.Statement (at 0 1 29) None (stmts.Body.Operator (operated (target (at 0 1 29) "s") binary_word.Plus (number (at 0 1 34) "1")))) ∷ []) None ∷ []

t24_broken : broken t24 [] None ≡ Some (fault 15 0 1 29)
unfolding symbols_of word_of
t24_broken = refl
