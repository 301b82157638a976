-- Texts that break a rule, or come close to it: clocking blocks.
use Rattle.std.proofs.Common.{◌≡◌, List, [], ◌∷◌, false, refl}
use Rattle.std.specs.Prelude.{Some, None}
use Rattle.sv_value.specs.Vector.{symbols_of, word_of}
use Rattle.sv_tree.specs.declared.word.UnaryWord.TheVariants as unary_word
use Rattle.sv_tree.specs.declared.word.VectorWord.TheVariants as vector_word
use Rattle.sv_tree.specs.declared.word.AtomWord.TheVariants as atom_word
use Rattle.sv_tree.specs.declared.word.Sign.TheVariants as sign
use Rattle.sv_tree.specs.declared.word.Life.TheVariants as life
use Rattle.sv_tree.specs.declared.word.EdgeWord.TheVariants as edge
use Rattle.sv_tree.specs.declared.word.ProcedureWord.TheVariants as procedure_word
use Rattle.sv_tree.specs.declared.word.Direction.TheVariants as direction
use Rattle.sv_tree.specs.declared.word.PortDirection.TheVariants as port_direction
use Rattle.sv_tree.specs.declared.expr.Root.TheVariants as root
use Rattle.sv_tree.specs.Expr as tree
use Rattle.sv_tree.specs.Types as types
use Rattle.sv_tree.specs.Stmt as stmts
use Rattle.sv_tree.specs.Units as units
use Rattle.sv_tree.specs.Items as items
use Rattle.sv_tree.specs.Descriptions.{Description}
use Rattle.sv_names.specs.Design.{broken}
use Rattle.sv_names_rows.proofs.Kit.{assign_item, at, blocking, clocking, decl, declarator, delay, event_part, fault, module_, name, nonblocking, number, plain, port, procedure, program_, range, sided, statements, target}

-- program p(input logic c, d, output logic [3:0] y); clocking cb @(posedge c); input d; output y; endclocking initial begin cb.y = 1; end endprogram
abbrev t1 : List Description
t1 = program_ (at 0 1 1) life.Unwritten (name (at 0 1 9) "p") None (port (Some port_direction.Input) false (types.Written (types.WrittenType.Vector (at 0 1 17) vector_word.Logic sign.Unwritten None)) (name (at 0 1 23) "c") ∷ port None false types.Unwritten (name (at 0 1 26) "d") ∷ port (Some port_direction.Output) false (types.Written (types.WrittenType.Vector (at 0 1 36) vector_word.Logic sign.Unwritten (Some (range (at 0 1 42) (number (at 0 1 43) "3") (number (at 0 1 45) "0"))))) (name (at 0 1 48) "y") ∷ []) (clocking None (name (at 0 1 61) "cb") edge.Posedge (name (at 0 1 74) "c") (units.Signals (sided direction.Input None ∷ []) (name (at 0 1 84) "d" ∷ []) ∷ units.Signals (sided direction.Output None ∷ []) (name (at 0 1 94) "y" ∷ []) ∷ []) None ∷ procedure (at 0 1 109) procedure_word.Initial (stmts.Statement (at 0 1 117) None (stmts.Block None [] (statements (stmts.Statement (at 0 1 123) None (blocking (tree.Lval.Post (root.Plain (name (at 0 1 123) "cb")) (tree.Member (name (at 0 1 126) "y") tree.NoSuffix)) None (stmts.Value (number (at 0 1 130) "1"))) ∷ [])) None)) ∷ []) None ∷ []

t1_broken : broken t1 [] None ≡ Some (fault 47 0 1 126)
unfolding symbols_of word_of
t1_broken = refl

-- program p(input logic c, d, output logic [3:0] y); clocking cb @(posedge c); input d; output y; endclocking initial begin cb.y[0] <= 1; end endprogram
abbrev t2 : List Description
t2 = program_ (at 0 1 1) life.Unwritten (name (at 0 1 9) "p") None (port (Some port_direction.Input) false (types.Written (types.WrittenType.Vector (at 0 1 17) vector_word.Logic sign.Unwritten None)) (name (at 0 1 23) "c") ∷ port None false types.Unwritten (name (at 0 1 26) "d") ∷ port (Some port_direction.Output) false (types.Written (types.WrittenType.Vector (at 0 1 36) vector_word.Logic sign.Unwritten (Some (range (at 0 1 42) (number (at 0 1 43) "3") (number (at 0 1 45) "0"))))) (name (at 0 1 48) "y") ∷ []) (clocking None (name (at 0 1 61) "cb") edge.Posedge (name (at 0 1 74) "c") (units.Signals (sided direction.Input None ∷ []) (name (at 0 1 84) "d" ∷ []) ∷ units.Signals (sided direction.Output None ∷ []) (name (at 0 1 94) "y" ∷ []) ∷ []) None ∷ procedure (at 0 1 109) procedure_word.Initial (stmts.Statement (at 0 1 117) None (stmts.Block None [] (statements (stmts.Statement (at 0 1 123) None (nonblocking (tree.Lval.Post (root.Plain (name (at 0 1 123) "cb")) (tree.Member (name (at 0 1 126) "y") (tree.Select (at 0 1 127) (number (at 0 1 128) "0") tree.NoSuffix))) None (number (at 0 1 134) "1")) ∷ [])) None)) ∷ []) None ∷ []

t2_broken : broken t2 [] None ≡ Some (fault 47 0 1 126)
unfolding symbols_of word_of
t2_broken = refl

-- program p(input logic c, d, output logic [3:0] y); clocking cb @(posedge c); input d; output y; endclocking initial begin cb.y <= #1 1; end endprogram
abbrev t3 : List Description
t3 = program_ (at 0 1 1) life.Unwritten (name (at 0 1 9) "p") None (port (Some port_direction.Input) false (types.Written (types.WrittenType.Vector (at 0 1 17) vector_word.Logic sign.Unwritten None)) (name (at 0 1 23) "c") ∷ port None false types.Unwritten (name (at 0 1 26) "d") ∷ port (Some port_direction.Output) false (types.Written (types.WrittenType.Vector (at 0 1 36) vector_word.Logic sign.Unwritten (Some (range (at 0 1 42) (number (at 0 1 43) "3") (number (at 0 1 45) "0"))))) (name (at 0 1 48) "y") ∷ []) (clocking None (name (at 0 1 61) "cb") edge.Posedge (name (at 0 1 74) "c") (units.Signals (sided direction.Input None ∷ []) (name (at 0 1 84) "d" ∷ []) ∷ units.Signals (sided direction.Output None ∷ []) (name (at 0 1 94) "y" ∷ []) ∷ []) None ∷ procedure (at 0 1 109) procedure_word.Initial (stmts.Statement (at 0 1 117) None (stmts.Block None [] (statements (stmts.Statement (at 0 1 123) None (nonblocking (tree.Lval.Post (root.Plain (name (at 0 1 123) "cb")) (tree.Member (name (at 0 1 126) "y") tree.NoSuffix)) (Some (delay (at 0 1 131) (number (at 0 1 132) "1"))) (number (at 0 1 134) "1")) ∷ [])) None)) ∷ []) None ∷ []

t3_broken : broken t3 [] None ≡ Some (fault 47 0 1 126)
unfolding symbols_of word_of
t3_broken = refl

-- program p(input logic c, d, output logic [3:0] y); clocking cb @(posedge c); input d; output y; endclocking initial begin cb.d <= 1; end endprogram
abbrev t4 : List Description
t4 = program_ (at 0 1 1) life.Unwritten (name (at 0 1 9) "p") None (port (Some port_direction.Input) false (types.Written (types.WrittenType.Vector (at 0 1 17) vector_word.Logic sign.Unwritten None)) (name (at 0 1 23) "c") ∷ port None false types.Unwritten (name (at 0 1 26) "d") ∷ port (Some port_direction.Output) false (types.Written (types.WrittenType.Vector (at 0 1 36) vector_word.Logic sign.Unwritten (Some (range (at 0 1 42) (number (at 0 1 43) "3") (number (at 0 1 45) "0"))))) (name (at 0 1 48) "y") ∷ []) (clocking None (name (at 0 1 61) "cb") edge.Posedge (name (at 0 1 74) "c") (units.Signals (sided direction.Input None ∷ []) (name (at 0 1 84) "d" ∷ []) ∷ units.Signals (sided direction.Output None ∷ []) (name (at 0 1 94) "y" ∷ []) ∷ []) None ∷ procedure (at 0 1 109) procedure_word.Initial (stmts.Statement (at 0 1 117) None (stmts.Block None [] (statements (stmts.Statement (at 0 1 123) None (nonblocking (tree.Lval.Post (root.Plain (name (at 0 1 123) "cb")) (tree.Member (name (at 0 1 126) "d") tree.NoSuffix)) None (number (at 0 1 131) "1")) ∷ [])) None)) ∷ []) None ∷ []

t4_broken : broken t4 [] None ≡ Some (fault 47 0 1 126)
unfolding symbols_of word_of
t4_broken = refl

-- program p(input logic c, d, output logic [3:0] y); clocking cb @(posedge c); input d; output y; endclocking int x; initial x = cb.y; endprogram
abbrev t5 : List Description
t5 = program_ (at 0 1 1) life.Unwritten (name (at 0 1 9) "p") None (port (Some port_direction.Input) false (types.Written (types.WrittenType.Vector (at 0 1 17) vector_word.Logic sign.Unwritten None)) (name (at 0 1 23) "c") ∷ port None false types.Unwritten (name (at 0 1 26) "d") ∷ port (Some port_direction.Output) false (types.Written (types.WrittenType.Vector (at 0 1 36) vector_word.Logic sign.Unwritten (Some (range (at 0 1 42) (number (at 0 1 43) "3") (number (at 0 1 45) "0"))))) (name (at 0 1 48) "y") ∷ []) (clocking None (name (at 0 1 61) "cb") edge.Posedge (name (at 0 1 74) "c") (units.Signals (sided direction.Input None ∷ []) (name (at 0 1 84) "d" ∷ []) ∷ units.Signals (sided direction.Output None ∷ []) (name (at 0 1 94) "y" ∷ []) ∷ []) None ∷ items.Decl (decl life.Unwritten (types.Atom (at 0 1 109) atom_word.Int sign.Unwritten) (declarator (name (at 0 1 113) "x") None None ∷ [])) ∷ procedure (at 0 1 116) procedure_word.Initial (stmts.Statement (at 0 1 124) None (blocking (target (at 0 1 124) "x") None (stmts.Value (tree.Expr.Post (root.Plain (name (at 0 1 128) "cb")) (tree.Member (name (at 0 1 131) "y") tree.NoSuffix))))) ∷ []) None ∷ []

t5_broken : broken t5 [] None ≡ Some (fault 47 0 1 131)
unfolding symbols_of word_of
t5_broken = refl

-- program p(input logic c, d, output logic [3:0] y); clocking cb @(posedge c); input d; output y; endclocking int x; initial x = cb.z; endprogram
abbrev t6 : List Description
t6 = program_ (at 0 1 1) life.Unwritten (name (at 0 1 9) "p") None (port (Some port_direction.Input) false (types.Written (types.WrittenType.Vector (at 0 1 17) vector_word.Logic sign.Unwritten None)) (name (at 0 1 23) "c") ∷ port None false types.Unwritten (name (at 0 1 26) "d") ∷ port (Some port_direction.Output) false (types.Written (types.WrittenType.Vector (at 0 1 36) vector_word.Logic sign.Unwritten (Some (range (at 0 1 42) (number (at 0 1 43) "3") (number (at 0 1 45) "0"))))) (name (at 0 1 48) "y") ∷ []) (clocking None (name (at 0 1 61) "cb") edge.Posedge (name (at 0 1 74) "c") (units.Signals (sided direction.Input None ∷ []) (name (at 0 1 84) "d" ∷ []) ∷ units.Signals (sided direction.Output None ∷ []) (name (at 0 1 94) "y" ∷ []) ∷ []) None ∷ items.Decl (decl life.Unwritten (types.Atom (at 0 1 109) atom_word.Int sign.Unwritten) (declarator (name (at 0 1 113) "x") None None ∷ [])) ∷ procedure (at 0 1 116) procedure_word.Initial (stmts.Statement (at 0 1 124) None (blocking (target (at 0 1 124) "x") None (stmts.Value (tree.Expr.Post (root.Plain (name (at 0 1 128) "cb")) (tree.Member (name (at 0 1 131) "z") tree.NoSuffix))))) ∷ []) None ∷ []

t6_broken : broken t6 [] None ≡ Some (fault 36 0 1 131)
unfolding symbols_of word_of
t6_broken = refl

-- program p(input logic c, d, output logic [3:0] y); clocking cb @(posedge c); input d; output d; endclocking endprogram
abbrev t7 : List Description
t7 = program_ (at 0 1 1) life.Unwritten (name (at 0 1 9) "p") None (port (Some port_direction.Input) false (types.Written (types.WrittenType.Vector (at 0 1 17) vector_word.Logic sign.Unwritten None)) (name (at 0 1 23) "c") ∷ port None false types.Unwritten (name (at 0 1 26) "d") ∷ port (Some port_direction.Output) false (types.Written (types.WrittenType.Vector (at 0 1 36) vector_word.Logic sign.Unwritten (Some (range (at 0 1 42) (number (at 0 1 43) "3") (number (at 0 1 45) "0"))))) (name (at 0 1 48) "y") ∷ []) (clocking None (name (at 0 1 61) "cb") edge.Posedge (name (at 0 1 74) "c") (units.Signals (sided direction.Input None ∷ []) (name (at 0 1 84) "d" ∷ []) ∷ units.Signals (sided direction.Output None ∷ []) (name (at 0 1 94) "d" ∷ []) ∷ []) None ∷ []) None ∷ []

t7_broken : broken t7 [] None ≡ Some (fault 19 0 1 94)
unfolding symbols_of word_of
t7_broken = refl

-- program p(input logic c, d, output logic [3:0] y); clocking cb @(posedge c); output d; endclocking endprogram
abbrev t8 : List Description
t8 = program_ (at 0 1 1) life.Unwritten (name (at 0 1 9) "p") None (port (Some port_direction.Input) false (types.Written (types.WrittenType.Vector (at 0 1 17) vector_word.Logic sign.Unwritten None)) (name (at 0 1 23) "c") ∷ port None false types.Unwritten (name (at 0 1 26) "d") ∷ port (Some port_direction.Output) false (types.Written (types.WrittenType.Vector (at 0 1 36) vector_word.Logic sign.Unwritten (Some (range (at 0 1 42) (number (at 0 1 43) "3") (number (at 0 1 45) "0"))))) (name (at 0 1 48) "y") ∷ []) (clocking None (name (at 0 1 61) "cb") edge.Posedge (name (at 0 1 74) "c") (units.Signals (sided direction.Output None ∷ []) (name (at 0 1 85) "d" ∷ []) ∷ []) None ∷ []) None ∷ []

t8_broken : broken t8 [] None ≡ Some (fault 19 0 1 85)
unfolding symbols_of word_of
t8_broken = refl

-- program p(input logic c, d, output logic [3:0] y); clocking cb @(posedge y); input d; endclocking endprogram
abbrev t9 : List Description
t9 = program_ (at 0 1 1) life.Unwritten (name (at 0 1 9) "p") None (port (Some port_direction.Input) false (types.Written (types.WrittenType.Vector (at 0 1 17) vector_word.Logic sign.Unwritten None)) (name (at 0 1 23) "c") ∷ port None false types.Unwritten (name (at 0 1 26) "d") ∷ port (Some port_direction.Output) false (types.Written (types.WrittenType.Vector (at 0 1 36) vector_word.Logic sign.Unwritten (Some (range (at 0 1 42) (number (at 0 1 43) "3") (number (at 0 1 45) "0"))))) (name (at 0 1 48) "y") ∷ []) (clocking None (name (at 0 1 61) "cb") edge.Posedge (name (at 0 1 74) "y") (units.Signals (sided direction.Input None ∷ []) (name (at 0 1 84) "d" ∷ []) ∷ []) None ∷ []) None ∷ []

t9_broken : broken t9 [] None ≡ Some (fault 45 0 1 74)
unfolding symbols_of word_of
t9_broken = refl

-- program p(input logic c, d, output logic [3:0] y); clocking cb @(posedge c); input q; endclocking endprogram
abbrev t10 : List Description
t10 = program_ (at 0 1 1) life.Unwritten (name (at 0 1 9) "p") None (port (Some port_direction.Input) false (types.Written (types.WrittenType.Vector (at 0 1 17) vector_word.Logic sign.Unwritten None)) (name (at 0 1 23) "c") ∷ port None false types.Unwritten (name (at 0 1 26) "d") ∷ port (Some port_direction.Output) false (types.Written (types.WrittenType.Vector (at 0 1 36) vector_word.Logic sign.Unwritten (Some (range (at 0 1 42) (number (at 0 1 43) "3") (number (at 0 1 45) "0"))))) (name (at 0 1 48) "y") ∷ []) (clocking None (name (at 0 1 61) "cb") edge.Posedge (name (at 0 1 74) "c") (units.Signals (sided direction.Input None ∷ []) (name (at 0 1 84) "q" ∷ []) ∷ []) None ∷ []) None ∷ []

t10_broken : broken t10 [] None ≡ Some (fault 6 0 1 84)
unfolding symbols_of word_of
t10_broken = refl

-- program p(input logic c, d, output logic [3:0] y); string s; clocking cb @(posedge c); input s; endclocking endprogram
abbrev t11 : List Description
t11 = program_ (at 0 1 1) life.Unwritten (name (at 0 1 9) "p") None (port (Some port_direction.Input) false (types.Written (types.WrittenType.Vector (at 0 1 17) vector_word.Logic sign.Unwritten None)) (name (at 0 1 23) "c") ∷ port None false types.Unwritten (name (at 0 1 26) "d") ∷ port (Some port_direction.Output) false (types.Written (types.WrittenType.Vector (at 0 1 36) vector_word.Logic sign.Unwritten (Some (range (at 0 1 42) (number (at 0 1 43) "3") (number (at 0 1 45) "0"))))) (name (at 0 1 48) "y") ∷ []) (items.Decl (decl life.Unwritten (types.Text (at 0 1 52)) (declarator (name (at 0 1 59) "s") None None ∷ [])) ∷ clocking None (name (at 0 1 71) "cb") edge.Posedge (name (at 0 1 84) "c") (units.Signals (sided direction.Input None ∷ []) (name (at 0 1 94) "s" ∷ []) ∷ []) None ∷ []) None ∷ []

t11_broken : broken t11 [] None ≡ Some (fault 46 0 1 94)
unfolding symbols_of word_of
t11_broken = refl

-- program p(input logic c, d, output logic [3:0] y); clocking cb @(posedge c); input #2000000 d; endclocking endprogram
abbrev t12 : List Description
t12 = program_ (at 0 1 1) life.Unwritten (name (at 0 1 9) "p") None (port (Some port_direction.Input) false (types.Written (types.WrittenType.Vector (at 0 1 17) vector_word.Logic sign.Unwritten None)) (name (at 0 1 23) "c") ∷ port None false types.Unwritten (name (at 0 1 26) "d") ∷ port (Some port_direction.Output) false (types.Written (types.WrittenType.Vector (at 0 1 36) vector_word.Logic sign.Unwritten (Some (range (at 0 1 42) (number (at 0 1 43) "3") (number (at 0 1 45) "0"))))) (name (at 0 1 48) "y") ∷ []) (clocking None (name (at 0 1 61) "cb") edge.Posedge (name (at 0 1 74) "c") (units.Signals (sided direction.Input (Some (units.Amount (at 0 1 84) (number (at 0 1 85) "2000000"))) ∷ []) (name (at 0 1 93) "d" ∷ []) ∷ []) None ∷ []) None ∷ []

t12_broken : broken t12 [] None ≡ Some (fault 57 0 1 84)
unfolding symbols_of word_of
t12_broken = refl

-- program p(input logic c, d, output logic [3:0] y); clocking cb @(posedge c); input #(-1) d; endclocking endprogram
abbrev t13 : List Description
t13 = program_ (at 0 1 1) life.Unwritten (name (at 0 1 9) "p") None (port (Some port_direction.Input) false (types.Written (types.WrittenType.Vector (at 0 1 17) vector_word.Logic sign.Unwritten None)) (name (at 0 1 23) "c") ∷ port None false types.Unwritten (name (at 0 1 26) "d") ∷ port (Some port_direction.Output) false (types.Written (types.WrittenType.Vector (at 0 1 36) vector_word.Logic sign.Unwritten (Some (range (at 0 1 42) (number (at 0 1 43) "3") (number (at 0 1 45) "0"))))) (name (at 0 1 48) "y") ∷ []) (clocking None (name (at 0 1 61) "cb") edge.Posedge (name (at 0 1 74) "c") (units.Signals (sided direction.Input (Some (units.Amount (at 0 1 84) (tree.Group (at 0 1 85) (tree.Unary (at 0 1 86) unary_word.Minus (number (at 0 1 87) "1"))))) ∷ []) (name (at 0 1 90) "d" ∷ []) ∷ []) None ∷ []) None ∷ []

t13_broken : broken t13 [] None ≡ Some (fault 12 0 1 86)
unfolding symbols_of word_of
t13_broken = refl

-- program p(input logic c, d, output logic [3:0] y); int n; clocking cb @(posedge c); input #n d; endclocking endprogram
abbrev t14 : List Description
t14 = program_ (at 0 1 1) life.Unwritten (name (at 0 1 9) "p") None (port (Some port_direction.Input) false (types.Written (types.WrittenType.Vector (at 0 1 17) vector_word.Logic sign.Unwritten None)) (name (at 0 1 23) "c") ∷ port None false types.Unwritten (name (at 0 1 26) "d") ∷ port (Some port_direction.Output) false (types.Written (types.WrittenType.Vector (at 0 1 36) vector_word.Logic sign.Unwritten (Some (range (at 0 1 42) (number (at 0 1 43) "3") (number (at 0 1 45) "0"))))) (name (at 0 1 48) "y") ∷ []) (items.Decl (decl life.Unwritten (types.Atom (at 0 1 52) atom_word.Int sign.Unwritten) (declarator (name (at 0 1 56) "n") None None ∷ [])) ∷ clocking None (name (at 0 1 68) "cb") edge.Posedge (name (at 0 1 81) "c") (units.Signals (sided direction.Input (Some (units.Amount (at 0 1 91) (plain (at 0 1 92) "n"))) ∷ []) (name (at 0 1 94) "d" ∷ []) ∷ []) None ∷ []) None ∷ []

t14_broken : broken t14 [] None ≡ Some (fault 11 0 1 92)
unfolding symbols_of word_of
t14_broken = refl

-- program p(input logic c, d, output logic [3:0] y); clocking cb @(posedge c); input d; endclocking initial @(posedge cb) ; endprogram
abbrev t15 : List Description
t15 = program_ (at 0 1 1) life.Unwritten (name (at 0 1 9) "p") None (port (Some port_direction.Input) false (types.Written (types.WrittenType.Vector (at 0 1 17) vector_word.Logic sign.Unwritten None)) (name (at 0 1 23) "c") ∷ port None false types.Unwritten (name (at 0 1 26) "d") ∷ port (Some port_direction.Output) false (types.Written (types.WrittenType.Vector (at 0 1 36) vector_word.Logic sign.Unwritten (Some (range (at 0 1 42) (number (at 0 1 43) "3") (number (at 0 1 45) "0"))))) (name (at 0 1 48) "y") ∷ []) (clocking None (name (at 0 1 61) "cb") edge.Posedge (name (at 0 1 74) "c") (units.Signals (sided direction.Input None ∷ []) (name (at 0 1 84) "d" ∷ []) ∷ []) None ∷ procedure (at 0 1 99) procedure_word.Initial (stmts.Statement (at 0 1 107) None (stmts.On (stmts.Parts (event_part edge.Posedge (plain (at 0 1 117) "cb") None ∷ [])) (stmts.Statement (at 0 1 121) None stmts.Null))) ∷ []) None ∷ []

t15_broken : broken t15 [] None ≡ Some (fault 7 0 1 117)
unfolding symbols_of word_of
t15_broken = refl

-- program p(input logic c, d, output logic [3:0] y); clocking cb @(posedge c); input d; endclocking initial @(cb iff d) ; endprogram
abbrev t16 : List Description
t16 = program_ (at 0 1 1) life.Unwritten (name (at 0 1 9) "p") None (port (Some port_direction.Input) false (types.Written (types.WrittenType.Vector (at 0 1 17) vector_word.Logic sign.Unwritten None)) (name (at 0 1 23) "c") ∷ port None false types.Unwritten (name (at 0 1 26) "d") ∷ port (Some port_direction.Output) false (types.Written (types.WrittenType.Vector (at 0 1 36) vector_word.Logic sign.Unwritten (Some (range (at 0 1 42) (number (at 0 1 43) "3") (number (at 0 1 45) "0"))))) (name (at 0 1 48) "y") ∷ []) (clocking None (name (at 0 1 61) "cb") edge.Posedge (name (at 0 1 74) "c") (units.Signals (sided direction.Input None ∷ []) (name (at 0 1 84) "d" ∷ []) ∷ []) None ∷ procedure (at 0 1 99) procedure_word.Initial (stmts.Statement (at 0 1 107) None (stmts.On (stmts.Parts (event_part edge.Unwritten (plain (at 0 1 109) "cb") (Some (plain (at 0 1 116) "d")) ∷ [])) (stmts.Statement (at 0 1 119) None stmts.Null))) ∷ []) None ∷ []

t16_broken : broken t16 [] None ≡ Some (fault 7 0 1 109)
unfolding symbols_of word_of
t16_broken = refl

-- program p(input logic c, d, output logic [3:0] y); clocking cb @(posedge c); input d; endclocking initial ##1; endprogram
abbrev t17 : List Description
t17 = program_ (at 0 1 1) life.Unwritten (name (at 0 1 9) "p") None (port (Some port_direction.Input) false (types.Written (types.WrittenType.Vector (at 0 1 17) vector_word.Logic sign.Unwritten None)) (name (at 0 1 23) "c") ∷ port None false types.Unwritten (name (at 0 1 26) "d") ∷ port (Some port_direction.Output) false (types.Written (types.WrittenType.Vector (at 0 1 36) vector_word.Logic sign.Unwritten (Some (range (at 0 1 42) (number (at 0 1 43) "3") (number (at 0 1 45) "0"))))) (name (at 0 1 48) "y") ∷ []) (clocking None (name (at 0 1 61) "cb") edge.Posedge (name (at 0 1 74) "c") (units.Signals (sided direction.Input None ∷ []) (name (at 0 1 84) "d" ∷ []) ∷ []) None ∷ procedure (at 0 1 99) procedure_word.Initial (stmts.Statement (at 0 1 107) None (stmts.Cycles (at 0 1 107) (number (at 0 1 109) "1") (stmts.Statement (at 0 1 110) None stmts.Null))) ∷ []) None ∷ []

t17_broken : broken t17 [] None ≡ Some (fault 48 0 1 107)
unfolding symbols_of word_of
t17_broken = refl

-- program p(input logic c, d, output logic [3:0] y); default clocking cb @(posedge c); input d; endclocking default clocking cb; endprogram
abbrev t18 : List Description
t18 = program_ (at 0 1 1) life.Unwritten (name (at 0 1 9) "p") None (port (Some port_direction.Input) false (types.Written (types.WrittenType.Vector (at 0 1 17) vector_word.Logic sign.Unwritten None)) (name (at 0 1 23) "c") ∷ port None false types.Unwritten (name (at 0 1 26) "d") ∷ port (Some port_direction.Output) false (types.Written (types.WrittenType.Vector (at 0 1 36) vector_word.Logic sign.Unwritten (Some (range (at 0 1 42) (number (at 0 1 43) "3") (number (at 0 1 45) "0"))))) (name (at 0 1 48) "y") ∷ []) (clocking (Some (at 0 1 52)) (name (at 0 1 69) "cb") edge.Posedge (name (at 0 1 82) "c") (units.Signals (sided direction.Input None ∷ []) (name (at 0 1 92) "d" ∷ []) ∷ []) None ∷ items.DefaultClocking (at 0 1 107) (name (at 0 1 124) "cb") ∷ []) None ∷ []

t18_broken : broken t18 [] None ≡ Some (fault 48 0 1 107)
unfolding symbols_of word_of
t18_broken = refl

-- program p(input logic c, d, output logic [3:0] y); default clocking d; endprogram
abbrev t19 : List Description
t19 = program_ (at 0 1 1) life.Unwritten (name (at 0 1 9) "p") None (port (Some port_direction.Input) false (types.Written (types.WrittenType.Vector (at 0 1 17) vector_word.Logic sign.Unwritten None)) (name (at 0 1 23) "c") ∷ port None false types.Unwritten (name (at 0 1 26) "d") ∷ port (Some port_direction.Output) false (types.Written (types.WrittenType.Vector (at 0 1 36) vector_word.Logic sign.Unwritten (Some (range (at 0 1 42) (number (at 0 1 43) "3") (number (at 0 1 45) "0"))))) (name (at 0 1 48) "y") ∷ []) (items.DefaultClocking (at 0 1 52) (name (at 0 1 69) "d") ∷ []) None ∷ []

t19_broken : broken t19 [] None ≡ Some (fault 7 0 1 69)
unfolding symbols_of word_of
t19_broken = refl

-- program p(input logic c, d, output logic [3:0] y); default clocking q; endprogram
abbrev t20 : List Description
t20 = program_ (at 0 1 1) life.Unwritten (name (at 0 1 9) "p") None (port (Some port_direction.Input) false (types.Written (types.WrittenType.Vector (at 0 1 17) vector_word.Logic sign.Unwritten None)) (name (at 0 1 23) "c") ∷ port None false types.Unwritten (name (at 0 1 26) "d") ∷ port (Some port_direction.Output) false (types.Written (types.WrittenType.Vector (at 0 1 36) vector_word.Logic sign.Unwritten (Some (range (at 0 1 42) (number (at 0 1 43) "3") (number (at 0 1 45) "0"))))) (name (at 0 1 48) "y") ∷ []) (items.DefaultClocking (at 0 1 52) (name (at 0 1 69) "q") ∷ []) None ∷ []

t20_broken : broken t20 [] None ≡ Some (fault 6 0 1 69)
unfolding symbols_of word_of
t20_broken = refl

-- module t; logic y, c; clocking cb @(posedge c); output y; endclocking assign y = 1; endmodule
abbrev t21 : List Description
t21 = module_ (at 0 1 1) life.Unwritten (name (at 0 1 8) "t") None [] (items.Decl (decl life.Unwritten (types.WrittenType.Vector (at 0 1 11) vector_word.Logic sign.Unwritten None) (declarator (name (at 0 1 17) "y") None None ∷ declarator (name (at 0 1 20) "c") None None ∷ [])) ∷ clocking None (name (at 0 1 32) "cb") edge.Posedge (name (at 0 1 45) "c") (units.Signals (sided direction.Output None ∷ []) (name (at 0 1 56) "y" ∷ []) ∷ []) None ∷ items.Assign (assign_item (target (at 0 1 78) "y") (number (at 0 1 82) "1") ∷ []) ∷ []) None ∷ []

t21_broken : broken t21 [] None ≡ Some (fault 20 0 1 78)
unfolding symbols_of word_of
t21_broken = refl

-- program p(input logic c, d); clocking cb @(posedge c); input d; endclocking : x endprogram
abbrev t22 : List Description
t22 = program_ (at 0 1 1) life.Unwritten (name (at 0 1 9) "p") None (port (Some port_direction.Input) false (types.Written (types.WrittenType.Vector (at 0 1 17) vector_word.Logic sign.Unwritten None)) (name (at 0 1 23) "c") ∷ port None false types.Unwritten (name (at 0 1 26) "d") ∷ []) (clocking None (name (at 0 1 39) "cb") edge.Posedge (name (at 0 1 52) "c") (units.Signals (sided direction.Input None ∷ []) (name (at 0 1 62) "d" ∷ []) ∷ []) (Some (name (at 0 1 79) "x")) ∷ []) None ∷ []

t22_broken : broken t22 [] None ≡ Some (fault 5 0 1 79)
unfolding symbols_of word_of
t22_broken = refl
