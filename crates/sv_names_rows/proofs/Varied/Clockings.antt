-- Texts that differ in a word or two from others: clocking blocks.
use Rattle.std.proofs.Common.{◌≡◌, List, [], ◌∷◌, false, refl}
use Rattle.std.specs.Prelude.{Some, None}
use Rattle.sv_value.specs.Vector.{symbols_of, word_of}
use Rattle.sv_tree.specs.declared.word.UnaryWord.TheVariants as unary_word
use Rattle.sv_tree.specs.declared.word.VectorWord.TheVariants as vector_word
use Rattle.sv_tree.specs.declared.word.AtomWord.TheVariants as atom_word
use Rattle.sv_tree.specs.declared.word.Sign.TheVariants as sign
use Rattle.sv_tree.specs.declared.word.Life.TheVariants as life
use Rattle.sv_tree.specs.declared.word.EdgeWord.TheVariants as edge
use Rattle.sv_tree.specs.declared.word.ProcedureWord.TheVariants as procedure_word
use Rattle.sv_tree.specs.declared.word.Direction.TheVariants as direction
use Rattle.sv_tree.specs.declared.word.PortDirection.TheVariants as port_direction
use Rattle.sv_tree.specs.declared.expr.Root.TheVariants as root
use Rattle.sv_tree.specs.Expr as tree
use Rattle.sv_tree.specs.Types as types
use Rattle.sv_tree.specs.Stmt as stmts
use Rattle.sv_tree.specs.Units as units
use Rattle.sv_tree.specs.Items as items
use Rattle.sv_tree.specs.Descriptions.{Description}
use Rattle.sv_names.specs.Design.{broken}
use Rattle.sv_names_rows.proofs.Kit.{assign_item, at, blocking, clocking, decl, declarator, delay, event_part, fault, module_, name, nonblocking, number, plain, port, procedure, program_, range, sided, statements, target}

-- program p(output logic c, d, output logic [3:0] y); clocking cb @(posedge c); input d; output y; endclocking initial begin cb.y = 1; end endprogram
abbrev t1 : List Description
t1 = program_ (at 0 1 1) life.Unwritten (name (at 0 1 9) "p") None (port (Some port_direction.Output) false (types.Written (types.WrittenType.Vector (at 0 1 18) vector_word.Logic sign.Unwritten None)) (name (at 0 1 24) "c") ∷ port None false types.Unwritten (name (at 0 1 27) "d") ∷ port (Some port_direction.Output) false (types.Written (types.WrittenType.Vector (at 0 1 37) vector_word.Logic sign.Unwritten (Some (range (at 0 1 43) (number (at 0 1 44) "3") (number (at 0 1 46) "0"))))) (name (at 0 1 49) "y") ∷ []) (clocking None (name (at 0 1 62) "cb") edge.Posedge (name (at 0 1 75) "c") (units.Signals (sided direction.Input None ∷ []) (name (at 0 1 85) "d" ∷ []) ∷ units.Signals (sided direction.Output None ∷ []) (name (at 0 1 95) "y" ∷ []) ∷ []) None ∷ procedure (at 0 1 110) procedure_word.Initial (stmts.Statement (at 0 1 118) None (stmts.Block None [] (statements (stmts.Statement (at 0 1 124) None (blocking (tree.Lval.Post (root.Plain (name (at 0 1 124) "cb")) (tree.Member (name (at 0 1 127) "y") tree.NoSuffix)) None (stmts.Value (number (at 0 1 131) "1"))) ∷ [])) None)) ∷ []) None ∷ []

t1_broken : broken t1 [] None ≡ Some (fault 47 0 1 127)
unfolding symbols_of word_of
t1_broken = refl

-- program p(output logic c, d, output logic [3:0] y); clocking cb @(posedge c); input d; output y; endclocking initial begin cb.y[0] <= 1; end endprogram
abbrev t2 : List Description
t2 = program_ (at 0 1 1) life.Unwritten (name (at 0 1 9) "p") None (port (Some port_direction.Output) false (types.Written (types.WrittenType.Vector (at 0 1 18) vector_word.Logic sign.Unwritten None)) (name (at 0 1 24) "c") ∷ port None false types.Unwritten (name (at 0 1 27) "d") ∷ port (Some port_direction.Output) false (types.Written (types.WrittenType.Vector (at 0 1 37) vector_word.Logic sign.Unwritten (Some (range (at 0 1 43) (number (at 0 1 44) "3") (number (at 0 1 46) "0"))))) (name (at 0 1 49) "y") ∷ []) (clocking None (name (at 0 1 62) "cb") edge.Posedge (name (at 0 1 75) "c") (units.Signals (sided direction.Input None ∷ []) (name (at 0 1 85) "d" ∷ []) ∷ units.Signals (sided direction.Output None ∷ []) (name (at 0 1 95) "y" ∷ []) ∷ []) None ∷ procedure (at 0 1 110) procedure_word.Initial (stmts.Statement (at 0 1 118) None (stmts.Block None [] (statements (stmts.Statement (at 0 1 124) None (nonblocking (tree.Lval.Post (root.Plain (name (at 0 1 124) "cb")) (tree.Member (name (at 0 1 127) "y") (tree.Select (at 0 1 128) (number (at 0 1 129) "0") tree.NoSuffix))) None (number (at 0 1 135) "1")) ∷ [])) None)) ∷ []) None ∷ []

t2_broken : broken t2 [] None ≡ Some (fault 47 0 1 127)
unfolding symbols_of word_of
t2_broken = refl

-- program p(input logic c, d, output logic [3:0] y); clocking cb @(posedge c); input d; output d; endclocking initial begin cb.y <= #1 1; end endprogram
abbrev t3 : List Description
t3 = program_ (at 0 1 1) life.Unwritten (name (at 0 1 9) "p") None (port (Some port_direction.Input) false (types.Written (types.WrittenType.Vector (at 0 1 17) vector_word.Logic sign.Unwritten None)) (name (at 0 1 23) "c") ∷ port None false types.Unwritten (name (at 0 1 26) "d") ∷ port (Some port_direction.Output) false (types.Written (types.WrittenType.Vector (at 0 1 36) vector_word.Logic sign.Unwritten (Some (range (at 0 1 42) (number (at 0 1 43) "3") (number (at 0 1 45) "0"))))) (name (at 0 1 48) "y") ∷ []) (clocking None (name (at 0 1 61) "cb") edge.Posedge (name (at 0 1 74) "c") (units.Signals (sided direction.Input None ∷ []) (name (at 0 1 84) "d" ∷ []) ∷ units.Signals (sided direction.Output None ∷ []) (name (at 0 1 94) "d" ∷ []) ∷ []) None ∷ procedure (at 0 1 109) procedure_word.Initial (stmts.Statement (at 0 1 117) None (stmts.Block None [] (statements (stmts.Statement (at 0 1 123) None (nonblocking (tree.Lval.Post (root.Plain (name (at 0 1 123) "cb")) (tree.Member (name (at 0 1 126) "y") tree.NoSuffix)) (Some (delay (at 0 1 131) (number (at 0 1 132) "1"))) (number (at 0 1 134) "1")) ∷ [])) None)) ∷ []) None ∷ []

t3_broken : broken t3 [] None ≡ Some (fault 19 0 1 94)
unfolding symbols_of word_of
t3_broken = refl

-- program p(output logic c, d, output logic [3:0] y); clocking cb @(posedge c); input d; output y; endclocking initial begin cb.y <= #1 1; end endprogram
abbrev t4 : List Description
t4 = program_ (at 0 1 1) life.Unwritten (name (at 0 1 9) "p") None (port (Some port_direction.Output) false (types.Written (types.WrittenType.Vector (at 0 1 18) vector_word.Logic sign.Unwritten None)) (name (at 0 1 24) "c") ∷ port None false types.Unwritten (name (at 0 1 27) "d") ∷ port (Some port_direction.Output) false (types.Written (types.WrittenType.Vector (at 0 1 37) vector_word.Logic sign.Unwritten (Some (range (at 0 1 43) (number (at 0 1 44) "3") (number (at 0 1 46) "0"))))) (name (at 0 1 49) "y") ∷ []) (clocking None (name (at 0 1 62) "cb") edge.Posedge (name (at 0 1 75) "c") (units.Signals (sided direction.Input None ∷ []) (name (at 0 1 85) "d" ∷ []) ∷ units.Signals (sided direction.Output None ∷ []) (name (at 0 1 95) "y" ∷ []) ∷ []) None ∷ procedure (at 0 1 110) procedure_word.Initial (stmts.Statement (at 0 1 118) None (stmts.Block None [] (statements (stmts.Statement (at 0 1 124) None (nonblocking (tree.Lval.Post (root.Plain (name (at 0 1 124) "cb")) (tree.Member (name (at 0 1 127) "y") tree.NoSuffix)) (Some (delay (at 0 1 132) (number (at 0 1 133) "1"))) (number (at 0 1 135) "1")) ∷ [])) None)) ∷ []) None ∷ []

t4_broken : broken t4 [] None ≡ Some (fault 47 0 1 127)
unfolding symbols_of word_of
t4_broken = refl

-- program p(input logic c, d, output logic [3:0] y); clocking cb @(posedge p); input d; output y; endclocking initial begin cb.y <= #1 1; end endprogram
abbrev t5 : List Description
t5 = program_ (at 0 1 1) life.Unwritten (name (at 0 1 9) "p") None (port (Some port_direction.Input) false (types.Written (types.WrittenType.Vector (at 0 1 17) vector_word.Logic sign.Unwritten None)) (name (at 0 1 23) "c") ∷ port None false types.Unwritten (name (at 0 1 26) "d") ∷ port (Some port_direction.Output) false (types.Written (types.WrittenType.Vector (at 0 1 36) vector_word.Logic sign.Unwritten (Some (range (at 0 1 42) (number (at 0 1 43) "3") (number (at 0 1 45) "0"))))) (name (at 0 1 48) "y") ∷ []) (clocking None (name (at 0 1 61) "cb") edge.Posedge (name (at 0 1 74) "p") (units.Signals (sided direction.Input None ∷ []) (name (at 0 1 84) "d" ∷ []) ∷ units.Signals (sided direction.Output None ∷ []) (name (at 0 1 94) "y" ∷ []) ∷ []) None ∷ procedure (at 0 1 109) procedure_word.Initial (stmts.Statement (at 0 1 117) None (stmts.Block None [] (statements (stmts.Statement (at 0 1 123) None (nonblocking (tree.Lval.Post (root.Plain (name (at 0 1 123) "cb")) (tree.Member (name (at 0 1 126) "y") tree.NoSuffix)) (Some (delay (at 0 1 131) (number (at 0 1 132) "1"))) (number (at 0 1 134) "1")) ∷ [])) None)) ∷ []) None ∷ []

t5_broken : broken t5 [] None ≡ Some (fault 45 0 1 74)
unfolding symbols_of word_of
t5_broken = refl

-- program p(input logic c, d, input logic [3:0] y); clocking cb @(posedge c); input d; output y; endclocking initial begin cb.d <= 1; end endprogram
abbrev t6 : List Description
t6 = program_ (at 0 1 1) life.Unwritten (name (at 0 1 9) "p") None (port (Some port_direction.Input) false (types.Written (types.WrittenType.Vector (at 0 1 17) vector_word.Logic sign.Unwritten None)) (name (at 0 1 23) "c") ∷ port None false types.Unwritten (name (at 0 1 26) "d") ∷ port (Some port_direction.Input) false (types.Written (types.WrittenType.Vector (at 0 1 35) vector_word.Logic sign.Unwritten (Some (range (at 0 1 41) (number (at 0 1 42) "3") (number (at 0 1 44) "0"))))) (name (at 0 1 47) "y") ∷ []) (clocking None (name (at 0 1 60) "cb") edge.Posedge (name (at 0 1 73) "c") (units.Signals (sided direction.Input None ∷ []) (name (at 0 1 83) "d" ∷ []) ∷ units.Signals (sided direction.Output None ∷ []) (name (at 0 1 93) "y" ∷ []) ∷ []) None ∷ procedure (at 0 1 108) procedure_word.Initial (stmts.Statement (at 0 1 116) None (stmts.Block None [] (statements (stmts.Statement (at 0 1 122) None (nonblocking (tree.Lval.Post (root.Plain (name (at 0 1 122) "cb")) (tree.Member (name (at 0 1 125) "d") tree.NoSuffix)) None (number (at 0 1 130) "1")) ∷ [])) None)) ∷ []) None ∷ []

t6_broken : broken t6 [] None ≡ Some (fault 19 0 1 93)
unfolding symbols_of word_of
t6_broken = refl

-- program p(output logic c, d, output logic [3:0] y); clocking cb @(posedge c); input d; output y; endclocking int x; initial x = cb.y; endprogram
abbrev t7 : List Description
t7 = program_ (at 0 1 1) life.Unwritten (name (at 0 1 9) "p") None (port (Some port_direction.Output) false (types.Written (types.WrittenType.Vector (at 0 1 18) vector_word.Logic sign.Unwritten None)) (name (at 0 1 24) "c") ∷ port None false types.Unwritten (name (at 0 1 27) "d") ∷ port (Some port_direction.Output) false (types.Written (types.WrittenType.Vector (at 0 1 37) vector_word.Logic sign.Unwritten (Some (range (at 0 1 43) (number (at 0 1 44) "3") (number (at 0 1 46) "0"))))) (name (at 0 1 49) "y") ∷ []) (clocking None (name (at 0 1 62) "cb") edge.Posedge (name (at 0 1 75) "c") (units.Signals (sided direction.Input None ∷ []) (name (at 0 1 85) "d" ∷ []) ∷ units.Signals (sided direction.Output None ∷ []) (name (at 0 1 95) "y" ∷ []) ∷ []) None ∷ items.Decl (decl life.Unwritten (types.Atom (at 0 1 110) atom_word.Int sign.Unwritten) (declarator (name (at 0 1 114) "x") None None ∷ [])) ∷ procedure (at 0 1 117) procedure_word.Initial (stmts.Statement (at 0 1 125) None (blocking (target (at 0 1 125) "x") None (stmts.Value (tree.Expr.Post (root.Plain (name (at 0 1 129) "cb")) (tree.Member (name (at 0 1 132) "y") tree.NoSuffix))))) ∷ []) None ∷ []

t7_broken : broken t7 [] None ≡ Some (fault 47 0 1 132)
unfolding symbols_of word_of
t7_broken = refl

-- program p(input logic c, d, output logic [3:70] y); clocking cb @(posedge c); input d; output y; endclocking int x; initial x = cb.y; endprogram
abbrev t8 : List Description
t8 = program_ (at 0 1 1) life.Unwritten (name (at 0 1 9) "p") None (port (Some port_direction.Input) false (types.Written (types.WrittenType.Vector (at 0 1 17) vector_word.Logic sign.Unwritten None)) (name (at 0 1 23) "c") ∷ port None false types.Unwritten (name (at 0 1 26) "d") ∷ port (Some port_direction.Output) false (types.Written (types.WrittenType.Vector (at 0 1 36) vector_word.Logic sign.Unwritten (Some (range (at 0 1 42) (number (at 0 1 43) "3") (number (at 0 1 45) "70"))))) (name (at 0 1 49) "y") ∷ []) (clocking None (name (at 0 1 62) "cb") edge.Posedge (name (at 0 1 75) "c") (units.Signals (sided direction.Input None ∷ []) (name (at 0 1 85) "d" ∷ []) ∷ units.Signals (sided direction.Output None ∷ []) (name (at 0 1 95) "y" ∷ []) ∷ []) None ∷ items.Decl (decl life.Unwritten (types.Atom (at 0 1 110) atom_word.Int sign.Unwritten) (declarator (name (at 0 1 114) "x") None None ∷ [])) ∷ procedure (at 0 1 117) procedure_word.Initial (stmts.Statement (at 0 1 125) None (blocking (target (at 0 1 125) "x") None (stmts.Value (tree.Expr.Post (root.Plain (name (at 0 1 129) "cb")) (tree.Member (name (at 0 1 132) "y") tree.NoSuffix))))) ∷ []) None ∷ []

t8_broken : broken t8 [] None ≡ Some (fault 13 0 1 42)
unfolding symbols_of word_of
t8_broken = refl

-- program p(input logic c, d, output logic [3:0] y); clocking cb @( c); input d; output y; endclocking int x; initial x = cb.y; endprogram
abbrev t9 : List Description
t9 = program_ (at 0 1 1) life.Unwritten (name (at 0 1 9) "p") None (port (Some port_direction.Input) false (types.Written (types.WrittenType.Vector (at 0 1 17) vector_word.Logic sign.Unwritten None)) (name (at 0 1 23) "c") ∷ port None false types.Unwritten (name (at 0 1 26) "d") ∷ port (Some port_direction.Output) false (types.Written (types.WrittenType.Vector (at 0 1 36) vector_word.Logic sign.Unwritten (Some (range (at 0 1 42) (number (at 0 1 43) "3") (number (at 0 1 45) "0"))))) (name (at 0 1 48) "y") ∷ []) (clocking None (name (at 0 1 61) "cb") edge.Unwritten (name (at 0 1 67) "c") (units.Signals (sided direction.Input None ∷ []) (name (at 0 1 77) "d" ∷ []) ∷ units.Signals (sided direction.Output None ∷ []) (name (at 0 1 87) "y" ∷ []) ∷ []) None ∷ items.Decl (decl life.Unwritten (types.Atom (at 0 1 102) atom_word.Int sign.Unwritten) (declarator (name (at 0 1 106) "x") None None ∷ [])) ∷ procedure (at 0 1 109) procedure_word.Initial (stmts.Statement (at 0 1 117) None (blocking (target (at 0 1 117) "x") None (stmts.Value (tree.Expr.Post (root.Plain (name (at 0 1 121) "cb")) (tree.Member (name (at 0 1 124) "y") tree.NoSuffix))))) ∷ []) None ∷ []

t9_broken : broken t9 [] None ≡ Some (fault 47 0 1 124)
unfolding symbols_of word_of
t9_broken = refl

-- program p(input logic c, d, output logic [3:0] y); clocking cb @(posedge c); input d; input d; endclocking endprogram
abbrev t10 : List Description
t10 = program_ (at 0 1 1) life.Unwritten (name (at 0 1 9) "p") None (port (Some port_direction.Input) false (types.Written (types.WrittenType.Vector (at 0 1 17) vector_word.Logic sign.Unwritten None)) (name (at 0 1 23) "c") ∷ port None false types.Unwritten (name (at 0 1 26) "d") ∷ port (Some port_direction.Output) false (types.Written (types.WrittenType.Vector (at 0 1 36) vector_word.Logic sign.Unwritten (Some (range (at 0 1 42) (number (at 0 1 43) "3") (number (at 0 1 45) "0"))))) (name (at 0 1 48) "y") ∷ []) (clocking None (name (at 0 1 61) "cb") edge.Posedge (name (at 0 1 74) "c") (units.Signals (sided direction.Input None ∷ []) (name (at 0 1 84) "d" ∷ []) ∷ units.Signals (sided direction.Input None ∷ []) (name (at 0 1 93) "d" ∷ []) ∷ []) None ∷ []) None ∷ []

t10_broken : broken t10 [] None ≡ Some (fault 46 0 1 93)
unfolding symbols_of word_of
t10_broken = refl

-- program p(input logic c, d, output logic [3:70] y); clocking cb @(posedge c); output d; endclocking endprogram
abbrev t11 : List Description
t11 = program_ (at 0 1 1) life.Unwritten (name (at 0 1 9) "p") None (port (Some port_direction.Input) false (types.Written (types.WrittenType.Vector (at 0 1 17) vector_word.Logic sign.Unwritten None)) (name (at 0 1 23) "c") ∷ port None false types.Unwritten (name (at 0 1 26) "d") ∷ port (Some port_direction.Output) false (types.Written (types.WrittenType.Vector (at 0 1 36) vector_word.Logic sign.Unwritten (Some (range (at 0 1 42) (number (at 0 1 43) "3") (number (at 0 1 45) "70"))))) (name (at 0 1 49) "y") ∷ []) (clocking None (name (at 0 1 62) "cb") edge.Posedge (name (at 0 1 75) "c") (units.Signals (sided direction.Output None ∷ []) (name (at 0 1 86) "d" ∷ []) ∷ []) None ∷ []) None ∷ []

t11_broken : broken t11 [] None ≡ Some (fault 13 0 1 42)
unfolding symbols_of word_of
t11_broken = refl

-- program p(input logic c, d, output logic [3:1'bx] y); clocking cb @(posedge c); output d; endclocking endprogram
abbrev t12 : List Description
t12 = program_ (at 0 1 1) life.Unwritten (name (at 0 1 9) "p") None (port (Some port_direction.Input) false (types.Written (types.WrittenType.Vector (at 0 1 17) vector_word.Logic sign.Unwritten None)) (name (at 0 1 23) "c") ∷ port None false types.Unwritten (name (at 0 1 26) "d") ∷ port (Some port_direction.Output) false (types.Written (types.WrittenType.Vector (at 0 1 36) vector_word.Logic sign.Unwritten (Some (range (at 0 1 42) (number (at 0 1 43) "3") (number (at 0 1 45) "1'bx"))))) (name (at 0 1 51) "y") ∷ []) (clocking None (name (at 0 1 64) "cb") edge.Posedge (name (at 0 1 77) "c") (units.Signals (sided direction.Output None ∷ []) (name (at 0 1 88) "d" ∷ []) ∷ []) None ∷ []) None ∷ []

t12_broken : broken t12 [] None ≡ Some (fault 12 0 1 45)
unfolding symbols_of word_of
t12_broken = refl

-- program p(input logic c, d, output logic [1'bx:0] y); clocking cb @(posedge c); output d; endclocking endprogram
abbrev t13 : List Description
t13 = program_ (at 0 1 1) life.Unwritten (name (at 0 1 9) "p") None (port (Some port_direction.Input) false (types.Written (types.WrittenType.Vector (at 0 1 17) vector_word.Logic sign.Unwritten None)) (name (at 0 1 23) "c") ∷ port None false types.Unwritten (name (at 0 1 26) "d") ∷ port (Some port_direction.Output) false (types.Written (types.WrittenType.Vector (at 0 1 36) vector_word.Logic sign.Unwritten (Some (range (at 0 1 42) (number (at 0 1 43) "1'bx") (number (at 0 1 48) "0"))))) (name (at 0 1 51) "y") ∷ []) (clocking None (name (at 0 1 64) "cb") edge.Posedge (name (at 0 1 77) "c") (units.Signals (sided direction.Output None ∷ []) (name (at 0 1 88) "d" ∷ []) ∷ []) None ∷ []) None ∷ []

t13_broken : broken t13 [] None ≡ Some (fault 12 0 1 43)
unfolding symbols_of word_of
t13_broken = refl

-- program c(input logic c, d, output logic [3:0] y); clocking cb @(posedge c); output d; endclocking endprogram
abbrev t14 : List Description
t14 = program_ (at 0 1 1) life.Unwritten (name (at 0 1 9) "c") None (port (Some port_direction.Input) false (types.Written (types.WrittenType.Vector (at 0 1 17) vector_word.Logic sign.Unwritten None)) (name (at 0 1 23) "c") ∷ port None false types.Unwritten (name (at 0 1 26) "d") ∷ port (Some port_direction.Output) false (types.Written (types.WrittenType.Vector (at 0 1 36) vector_word.Logic sign.Unwritten (Some (range (at 0 1 42) (number (at 0 1 43) "3") (number (at 0 1 45) "0"))))) (name (at 0 1 48) "y") ∷ []) (clocking None (name (at 0 1 61) "cb") edge.Posedge (name (at 0 1 74) "c") (units.Signals (sided direction.Output None ∷ []) (name (at 0 1 85) "d" ∷ []) ∷ []) None ∷ []) None ∷ []

t14_broken : broken t14 [] None ≡ Some (fault 19 0 1 85)
unfolding symbols_of word_of
t14_broken = refl

-- program p(input logic c, d, output logic [3:0] y); clocking cb @( y); input d; endclocking endprogram
abbrev t15 : List Description
t15 = program_ (at 0 1 1) life.Unwritten (name (at 0 1 9) "p") None (port (Some port_direction.Input) false (types.Written (types.WrittenType.Vector (at 0 1 17) vector_word.Logic sign.Unwritten None)) (name (at 0 1 23) "c") ∷ port None false types.Unwritten (name (at 0 1 26) "d") ∷ port (Some port_direction.Output) false (types.Written (types.WrittenType.Vector (at 0 1 36) vector_word.Logic sign.Unwritten (Some (range (at 0 1 42) (number (at 0 1 43) "3") (number (at 0 1 45) "0"))))) (name (at 0 1 48) "y") ∷ []) (clocking None (name (at 0 1 61) "cb") edge.Unwritten (name (at 0 1 67) "y") (units.Signals (sided direction.Input None ∷ []) (name (at 0 1 77) "d" ∷ []) ∷ []) None ∷ []) None ∷ []

t15_broken : broken t15 [] None ≡ Some (fault 45 0 1 67)
unfolding symbols_of word_of
t15_broken = refl

-- program d(input logic c, d, output logic [3:0] y); clocking cb @(posedge y); input d; endclocking endprogram
abbrev t16 : List Description
t16 = program_ (at 0 1 1) life.Unwritten (name (at 0 1 9) "d") None (port (Some port_direction.Input) false (types.Written (types.WrittenType.Vector (at 0 1 17) vector_word.Logic sign.Unwritten None)) (name (at 0 1 23) "c") ∷ port None false types.Unwritten (name (at 0 1 26) "d") ∷ port (Some port_direction.Output) false (types.Written (types.WrittenType.Vector (at 0 1 36) vector_word.Logic sign.Unwritten (Some (range (at 0 1 42) (number (at 0 1 43) "3") (number (at 0 1 45) "0"))))) (name (at 0 1 48) "y") ∷ []) (clocking None (name (at 0 1 61) "cb") edge.Posedge (name (at 0 1 74) "y") (units.Signals (sided direction.Input None ∷ []) (name (at 0 1 84) "d" ∷ []) ∷ []) None ∷ []) None ∷ []

t16_broken : broken t16 [] None ≡ Some (fault 45 0 1 74)
unfolding symbols_of word_of
t16_broken = refl

-- program p(input logic c, d, output logic [3:70] y); clocking cb @(posedge c); input q; endclocking endprogram
abbrev t17 : List Description
t17 = program_ (at 0 1 1) life.Unwritten (name (at 0 1 9) "p") None (port (Some port_direction.Input) false (types.Written (types.WrittenType.Vector (at 0 1 17) vector_word.Logic sign.Unwritten None)) (name (at 0 1 23) "c") ∷ port None false types.Unwritten (name (at 0 1 26) "d") ∷ port (Some port_direction.Output) false (types.Written (types.WrittenType.Vector (at 0 1 36) vector_word.Logic sign.Unwritten (Some (range (at 0 1 42) (number (at 0 1 43) "3") (number (at 0 1 45) "70"))))) (name (at 0 1 49) "y") ∷ []) (clocking None (name (at 0 1 62) "cb") edge.Posedge (name (at 0 1 75) "c") (units.Signals (sided direction.Input None ∷ []) (name (at 0 1 85) "q" ∷ []) ∷ []) None ∷ []) None ∷ []

t17_broken : broken t17 [] None ≡ Some (fault 13 0 1 42)
unfolding symbols_of word_of
t17_broken = refl

-- program p(input logic c, d, output logic [3:0] y); clocking cb @(posedge p); input q; endclocking endprogram
abbrev t18 : List Description
t18 = program_ (at 0 1 1) life.Unwritten (name (at 0 1 9) "p") None (port (Some port_direction.Input) false (types.Written (types.WrittenType.Vector (at 0 1 17) vector_word.Logic sign.Unwritten None)) (name (at 0 1 23) "c") ∷ port None false types.Unwritten (name (at 0 1 26) "d") ∷ port (Some port_direction.Output) false (types.Written (types.WrittenType.Vector (at 0 1 36) vector_word.Logic sign.Unwritten (Some (range (at 0 1 42) (number (at 0 1 43) "3") (number (at 0 1 45) "0"))))) (name (at 0 1 48) "y") ∷ []) (clocking None (name (at 0 1 61) "cb") edge.Posedge (name (at 0 1 74) "p") (units.Signals (sided direction.Input None ∷ []) (name (at 0 1 84) "q" ∷ []) ∷ []) None ∷ []) None ∷ []

t18_broken : broken t18 [] None ≡ Some (fault 45 0 1 74)
unfolding symbols_of word_of
t18_broken = refl

-- program s(input logic c, d, output logic [3:0] y); string s; clocking cb @(posedge c); input s; endclocking endprogram
abbrev t19 : List Description
t19 = program_ (at 0 1 1) life.Unwritten (name (at 0 1 9) "s") None (port (Some port_direction.Input) false (types.Written (types.WrittenType.Vector (at 0 1 17) vector_word.Logic sign.Unwritten None)) (name (at 0 1 23) "c") ∷ port None false types.Unwritten (name (at 0 1 26) "d") ∷ port (Some port_direction.Output) false (types.Written (types.WrittenType.Vector (at 0 1 36) vector_word.Logic sign.Unwritten (Some (range (at 0 1 42) (number (at 0 1 43) "3") (number (at 0 1 45) "0"))))) (name (at 0 1 48) "y") ∷ []) (items.Decl (decl life.Unwritten (types.Text (at 0 1 52)) (declarator (name (at 0 1 59) "s") None None ∷ [])) ∷ clocking None (name (at 0 1 71) "cb") edge.Posedge (name (at 0 1 84) "c") (units.Signals (sided direction.Input None ∷ []) (name (at 0 1 94) "s" ∷ []) ∷ []) None ∷ []) None ∷ []

t19_broken : broken t19 [] None ≡ Some (fault 46 0 1 94)
unfolding symbols_of word_of
t19_broken = refl

-- program p(input logic c, d, output logic [3:0] p); clocking cb @(posedge c); input #2000000 d; endclocking endprogram
abbrev t20 : List Description
t20 = program_ (at 0 1 1) life.Unwritten (name (at 0 1 9) "p") None (port (Some port_direction.Input) false (types.Written (types.WrittenType.Vector (at 0 1 17) vector_word.Logic sign.Unwritten None)) (name (at 0 1 23) "c") ∷ port None false types.Unwritten (name (at 0 1 26) "d") ∷ port (Some port_direction.Output) false (types.Written (types.WrittenType.Vector (at 0 1 36) vector_word.Logic sign.Unwritten (Some (range (at 0 1 42) (number (at 0 1 43) "3") (number (at 0 1 45) "0"))))) (name (at 0 1 48) "p") ∷ []) (clocking None (name (at 0 1 61) "cb") edge.Posedge (name (at 0 1 74) "c") (units.Signals (sided direction.Input (Some (units.Amount (at 0 1 84) (number (at 0 1 85) "2000000"))) ∷ []) (name (at 0 1 93) "d" ∷ []) ∷ []) None ∷ []) None ∷ []

t20_broken : broken t20 [] None ≡ Some (fault 57 0 1 84)
unfolding symbols_of word_of
t20_broken = refl

-- program p(input  c, d, output logic [3:0] y); clocking cb @(posedge c); input #2000000 d; endclocking endprogram
abbrev t21 : List Description
t21 = program_ (at 0 1 1) life.Unwritten (name (at 0 1 9) "p") None (port (Some port_direction.Input) false types.Unwritten (name (at 0 1 18) "c") ∷ port None false types.Unwritten (name (at 0 1 21) "d") ∷ port (Some port_direction.Output) false (types.Written (types.WrittenType.Vector (at 0 1 31) vector_word.Logic sign.Unwritten (Some (range (at 0 1 37) (number (at 0 1 38) "3") (number (at 0 1 40) "0"))))) (name (at 0 1 43) "y") ∷ []) (clocking None (name (at 0 1 56) "cb") edge.Posedge (name (at 0 1 69) "c") (units.Signals (sided direction.Input (Some (units.Amount (at 0 1 79) (number (at 0 1 80) "2000000"))) ∷ []) (name (at 0 1 88) "d" ∷ []) ∷ []) None ∷ []) None ∷ []

t21_broken : broken t21 [] None ≡ Some (fault 57 0 1 79)
unfolding symbols_of word_of
t21_broken = refl

-- program p(input logic c, d, input logic [3:0] y); clocking cb @(posedge c); input #2000000 d; endclocking endprogram
abbrev t22 : List Description
t22 = program_ (at 0 1 1) life.Unwritten (name (at 0 1 9) "p") None (port (Some port_direction.Input) false (types.Written (types.WrittenType.Vector (at 0 1 17) vector_word.Logic sign.Unwritten None)) (name (at 0 1 23) "c") ∷ port None false types.Unwritten (name (at 0 1 26) "d") ∷ port (Some port_direction.Input) false (types.Written (types.WrittenType.Vector (at 0 1 35) vector_word.Logic sign.Unwritten (Some (range (at 0 1 41) (number (at 0 1 42) "3") (number (at 0 1 44) "0"))))) (name (at 0 1 47) "y") ∷ []) (clocking None (name (at 0 1 60) "cb") edge.Posedge (name (at 0 1 73) "c") (units.Signals (sided direction.Input (Some (units.Amount (at 0 1 83) (number (at 0 1 84) "2000000"))) ∷ []) (name (at 0 1 92) "d" ∷ []) ∷ []) None ∷ []) None ∷ []

t22_broken : broken t22 [] None ≡ Some (fault 57 0 1 83)
unfolding symbols_of word_of
t22_broken = refl

-- program p(input semaphore c, d, output logic [3:0] y); clocking cb @(posedge c); input #(-1) d; endclocking endprogram
abbrev t23 : List Description
t23 = program_ (at 0 1 1) life.Unwritten (name (at 0 1 9) "p") None (port (Some port_direction.Input) false (types.Written (types.Semaphore (at 0 1 17))) (name (at 0 1 27) "c") ∷ port None false types.Unwritten (name (at 0 1 30) "d") ∷ port (Some port_direction.Output) false (types.Written (types.WrittenType.Vector (at 0 1 40) vector_word.Logic sign.Unwritten (Some (range (at 0 1 46) (number (at 0 1 47) "3") (number (at 0 1 49) "0"))))) (name (at 0 1 52) "y") ∷ []) (clocking None (name (at 0 1 65) "cb") edge.Posedge (name (at 0 1 78) "c") (units.Signals (sided direction.Input (Some (units.Amount (at 0 1 88) (tree.Group (at 0 1 89) (tree.Unary (at 0 1 90) unary_word.Minus (number (at 0 1 91) "1"))))) ∷ []) (name (at 0 1 94) "d" ∷ []) ∷ []) None ∷ []) None ∷ []

t23_broken : broken t23 [] None ≡ Some (fault 45 0 1 78)
unfolding symbols_of word_of
t23_broken = refl

-- program p(input logic c, d, output logic [3:0] y); int n; clocking cb @(posedge n); input #n d; endclocking endprogram
abbrev t24 : List Description
t24 = program_ (at 0 1 1) life.Unwritten (name (at 0 1 9) "p") None (port (Some port_direction.Input) false (types.Written (types.WrittenType.Vector (at 0 1 17) vector_word.Logic sign.Unwritten None)) (name (at 0 1 23) "c") ∷ port None false types.Unwritten (name (at 0 1 26) "d") ∷ port (Some port_direction.Output) false (types.Written (types.WrittenType.Vector (at 0 1 36) vector_word.Logic sign.Unwritten (Some (range (at 0 1 42) (number (at 0 1 43) "3") (number (at 0 1 45) "0"))))) (name (at 0 1 48) "y") ∷ []) (items.Decl (decl life.Unwritten (types.Atom (at 0 1 52) atom_word.Int sign.Unwritten) (declarator (name (at 0 1 56) "n") None None ∷ [])) ∷ clocking None (name (at 0 1 68) "cb") edge.Posedge (name (at 0 1 81) "n") (units.Signals (sided direction.Input (Some (units.Amount (at 0 1 91) (plain (at 0 1 92) "n"))) ∷ []) (name (at 0 1 94) "d" ∷ []) ∷ []) None ∷ []) None ∷ []

t24_broken : broken t24 [] None ≡ Some (fault 45 0 1 81)
unfolding symbols_of word_of
t24_broken = refl

-- program p(input logic c, d, output logic [1'bx:0] y); int n; clocking cb @(posedge c); input #n d; endclocking endprogram
abbrev t25 : List Description
t25 = program_ (at 0 1 1) life.Unwritten (name (at 0 1 9) "p") None (port (Some port_direction.Input) false (types.Written (types.WrittenType.Vector (at 0 1 17) vector_word.Logic sign.Unwritten None)) (name (at 0 1 23) "c") ∷ port None false types.Unwritten (name (at 0 1 26) "d") ∷ port (Some port_direction.Output) false (types.Written (types.WrittenType.Vector (at 0 1 36) vector_word.Logic sign.Unwritten (Some (range (at 0 1 42) (number (at 0 1 43) "1'bx") (number (at 0 1 48) "0"))))) (name (at 0 1 51) "y") ∷ []) (items.Decl (decl life.Unwritten (types.Atom (at 0 1 55) atom_word.Int sign.Unwritten) (declarator (name (at 0 1 59) "n") None None ∷ [])) ∷ clocking None (name (at 0 1 71) "cb") edge.Posedge (name (at 0 1 84) "c") (units.Signals (sided direction.Input (Some (units.Amount (at 0 1 94) (plain (at 0 1 95) "n"))) ∷ []) (name (at 0 1 97) "d" ∷ []) ∷ []) None ∷ []) None ∷ []

t25_broken : broken t25 [] None ≡ Some (fault 12 0 1 43)
unfolding symbols_of word_of
t25_broken = refl

-- program p(input logic c, d, output logic [3:0] y); int n; clocking cb @(posedge c); input #y d; endclocking endprogram
abbrev t26 : List Description
t26 = program_ (at 0 1 1) life.Unwritten (name (at 0 1 9) "p") None (port (Some port_direction.Input) false (types.Written (types.WrittenType.Vector (at 0 1 17) vector_word.Logic sign.Unwritten None)) (name (at 0 1 23) "c") ∷ port None false types.Unwritten (name (at 0 1 26) "d") ∷ port (Some port_direction.Output) false (types.Written (types.WrittenType.Vector (at 0 1 36) vector_word.Logic sign.Unwritten (Some (range (at 0 1 42) (number (at 0 1 43) "3") (number (at 0 1 45) "0"))))) (name (at 0 1 48) "y") ∷ []) (items.Decl (decl life.Unwritten (types.Atom (at 0 1 52) atom_word.Int sign.Unwritten) (declarator (name (at 0 1 56) "n") None None ∷ [])) ∷ clocking None (name (at 0 1 68) "cb") edge.Posedge (name (at 0 1 81) "c") (units.Signals (sided direction.Input (Some (units.Amount (at 0 1 91) (plain (at 0 1 92) "y"))) ∷ []) (name (at 0 1 94) "d" ∷ []) ∷ []) None ∷ []) None ∷ []

t26_broken : broken t26 [] None ≡ Some (fault 11 0 1 92)
unfolding symbols_of word_of
t26_broken = refl

-- program zz(input logic c, d, output logic [3:0] y); int n; clocking cb @(posedge c); input #n d; endclocking endprogram
abbrev t27 : List Description
t27 = program_ (at 0 1 1) life.Unwritten (name (at 0 1 9) "zz") None (port (Some port_direction.Input) false (types.Written (types.WrittenType.Vector (at 0 1 18) vector_word.Logic sign.Unwritten None)) (name (at 0 1 24) "c") ∷ port None false types.Unwritten (name (at 0 1 27) "d") ∷ port (Some port_direction.Output) false (types.Written (types.WrittenType.Vector (at 0 1 37) vector_word.Logic sign.Unwritten (Some (range (at 0 1 43) (number (at 0 1 44) "3") (number (at 0 1 46) "0"))))) (name (at 0 1 49) "y") ∷ []) (items.Decl (decl life.Unwritten (types.Atom (at 0 1 53) atom_word.Int sign.Unwritten) (declarator (name (at 0 1 57) "n") None None ∷ [])) ∷ clocking None (name (at 0 1 69) "cb") edge.Posedge (name (at 0 1 82) "c") (units.Signals (sided direction.Input (Some (units.Amount (at 0 1 92) (plain (at 0 1 93) "n"))) ∷ []) (name (at 0 1 95) "d" ∷ []) ∷ []) None ∷ []) None ∷ []

t27_broken : broken t27 [] None ≡ Some (fault 11 0 1 93)
unfolding symbols_of word_of
t27_broken = refl

-- program p(input logic c, d, output logic [3:0] y); clocking cb @(posedge c); output d; endclocking initial @(cb iff d) ; endprogram
abbrev t28 : List Description
t28 = program_ (at 0 1 1) life.Unwritten (name (at 0 1 9) "p") None (port (Some port_direction.Input) false (types.Written (types.WrittenType.Vector (at 0 1 17) vector_word.Logic sign.Unwritten None)) (name (at 0 1 23) "c") ∷ port None false types.Unwritten (name (at 0 1 26) "d") ∷ port (Some port_direction.Output) false (types.Written (types.WrittenType.Vector (at 0 1 36) vector_word.Logic sign.Unwritten (Some (range (at 0 1 42) (number (at 0 1 43) "3") (number (at 0 1 45) "0"))))) (name (at 0 1 48) "y") ∷ []) (clocking None (name (at 0 1 61) "cb") edge.Posedge (name (at 0 1 74) "c") (units.Signals (sided direction.Output None ∷ []) (name (at 0 1 85) "d" ∷ []) ∷ []) None ∷ procedure (at 0 1 100) procedure_word.Initial (stmts.Statement (at 0 1 108) None (stmts.On (stmts.Parts (event_part edge.Unwritten (plain (at 0 1 110) "cb") (Some (plain (at 0 1 117) "d")) ∷ [])) (stmts.Statement (at 0 1 120) None stmts.Null))) ∷ []) None ∷ []

t28_broken : broken t28 [] None ≡ Some (fault 19 0 1 85)
unfolding symbols_of word_of
t28_broken = refl

-- program p(input logic c, d, output logic [3:0] y); clocking cb @(posedge c); input p; endclocking initial ##1; endprogram
abbrev t29 : List Description
t29 = program_ (at 0 1 1) life.Unwritten (name (at 0 1 9) "p") None (port (Some port_direction.Input) false (types.Written (types.WrittenType.Vector (at 0 1 17) vector_word.Logic sign.Unwritten None)) (name (at 0 1 23) "c") ∷ port None false types.Unwritten (name (at 0 1 26) "d") ∷ port (Some port_direction.Output) false (types.Written (types.WrittenType.Vector (at 0 1 36) vector_word.Logic sign.Unwritten (Some (range (at 0 1 42) (number (at 0 1 43) "3") (number (at 0 1 45) "0"))))) (name (at 0 1 48) "y") ∷ []) (clocking None (name (at 0 1 61) "cb") edge.Posedge (name (at 0 1 74) "c") (units.Signals (sided direction.Input None ∷ []) (name (at 0 1 84) "p" ∷ []) ∷ []) None ∷ procedure (at 0 1 99) procedure_word.Initial (stmts.Statement (at 0 1 107) None (stmts.Cycles (at 0 1 107) (number (at 0 1 109) "1") (stmts.Statement (at 0 1 110) None stmts.Null))) ∷ []) None ∷ []

t29_broken : broken t29 [] None ≡ Some (fault 46 0 1 84)
unfolding symbols_of word_of
t29_broken = refl

-- program p(input logic c, d, output logic [3:0] y); clocking cb @(posedge c); output d; endclocking initial ##1; endprogram
abbrev t30 : List Description
t30 = program_ (at 0 1 1) life.Unwritten (name (at 0 1 9) "p") None (port (Some port_direction.Input) false (types.Written (types.WrittenType.Vector (at 0 1 17) vector_word.Logic sign.Unwritten None)) (name (at 0 1 23) "c") ∷ port None false types.Unwritten (name (at 0 1 26) "d") ∷ port (Some port_direction.Output) false (types.Written (types.WrittenType.Vector (at 0 1 36) vector_word.Logic sign.Unwritten (Some (range (at 0 1 42) (number (at 0 1 43) "3") (number (at 0 1 45) "0"))))) (name (at 0 1 48) "y") ∷ []) (clocking None (name (at 0 1 61) "cb") edge.Posedge (name (at 0 1 74) "c") (units.Signals (sided direction.Output None ∷ []) (name (at 0 1 85) "d" ∷ []) ∷ []) None ∷ procedure (at 0 1 100) procedure_word.Initial (stmts.Statement (at 0 1 108) None (stmts.Cycles (at 0 1 108) (number (at 0 1 110) "1") (stmts.Statement (at 0 1 111) None stmts.Null))) ∷ []) None ∷ []

t30_broken : broken t30 [] None ≡ Some (fault 19 0 1 85)
unfolding symbols_of word_of
t30_broken = refl

-- program p(input logic c, d, output logic [70:0] y); default clocking cb @(posedge c); input d; endclocking default clocking cb; endprogram
abbrev t31 : List Description
t31 = program_ (at 0 1 1) life.Unwritten (name (at 0 1 9) "p") None (port (Some port_direction.Input) false (types.Written (types.WrittenType.Vector (at 0 1 17) vector_word.Logic sign.Unwritten None)) (name (at 0 1 23) "c") ∷ port None false types.Unwritten (name (at 0 1 26) "d") ∷ port (Some port_direction.Output) false (types.Written (types.WrittenType.Vector (at 0 1 36) vector_word.Logic sign.Unwritten (Some (range (at 0 1 42) (number (at 0 1 43) "70") (number (at 0 1 46) "0"))))) (name (at 0 1 49) "y") ∷ []) (clocking (Some (at 0 1 53)) (name (at 0 1 70) "cb") edge.Posedge (name (at 0 1 83) "c") (units.Signals (sided direction.Input None ∷ []) (name (at 0 1 93) "d" ∷ []) ∷ []) None ∷ items.DefaultClocking (at 0 1 108) (name (at 0 1 125) "cb") ∷ []) None ∷ []

t31_broken : broken t31 [] None ≡ Some (fault 13 0 1 42)
unfolding symbols_of word_of
t31_broken = refl

-- program p(input logic c, d, output logic [3:0] y); default clocking cb @(posedge c); output d; endclocking default clocking cb; endprogram
abbrev t32 : List Description
t32 = program_ (at 0 1 1) life.Unwritten (name (at 0 1 9) "p") None (port (Some port_direction.Input) false (types.Written (types.WrittenType.Vector (at 0 1 17) vector_word.Logic sign.Unwritten None)) (name (at 0 1 23) "c") ∷ port None false types.Unwritten (name (at 0 1 26) "d") ∷ port (Some port_direction.Output) false (types.Written (types.WrittenType.Vector (at 0 1 36) vector_word.Logic sign.Unwritten (Some (range (at 0 1 42) (number (at 0 1 43) "3") (number (at 0 1 45) "0"))))) (name (at 0 1 48) "y") ∷ []) (clocking (Some (at 0 1 52)) (name (at 0 1 69) "cb") edge.Posedge (name (at 0 1 82) "c") (units.Signals (sided direction.Output None ∷ []) (name (at 0 1 93) "d" ∷ []) ∷ []) None ∷ items.DefaultClocking (at 0 1 108) (name (at 0 1 125) "cb") ∷ []) None ∷ []

t32_broken : broken t32 [] None ≡ Some (fault 19 0 1 93)
unfolding symbols_of word_of
t32_broken = refl

-- program p(input logic c, d, input logic [3:0] y); default clocking cb @(posedge c); input d; endclocking default clocking cb; endprogram
abbrev t33 : List Description
t33 = program_ (at 0 1 1) life.Unwritten (name (at 0 1 9) "p") None (port (Some port_direction.Input) false (types.Written (types.WrittenType.Vector (at 0 1 17) vector_word.Logic sign.Unwritten None)) (name (at 0 1 23) "c") ∷ port None false types.Unwritten (name (at 0 1 26) "d") ∷ port (Some port_direction.Input) false (types.Written (types.WrittenType.Vector (at 0 1 35) vector_word.Logic sign.Unwritten (Some (range (at 0 1 41) (number (at 0 1 42) "3") (number (at 0 1 44) "0"))))) (name (at 0 1 47) "y") ∷ []) (clocking (Some (at 0 1 51)) (name (at 0 1 68) "cb") edge.Posedge (name (at 0 1 81) "c") (units.Signals (sided direction.Input None ∷ []) (name (at 0 1 91) "d" ∷ []) ∷ []) None ∷ items.DefaultClocking (at 0 1 106) (name (at 0 1 123) "cb") ∷ []) None ∷ []

t33_broken : broken t33 [] None ≡ Some (fault 48 0 1 106)
unfolding symbols_of word_of
t33_broken = refl

-- module y; logic y, c; clocking cb @(posedge c); output y; endclocking assign y = 1; endmodule
abbrev t34 : List Description
t34 = module_ (at 0 1 1) life.Unwritten (name (at 0 1 8) "y") None [] (items.Decl (decl life.Unwritten (types.WrittenType.Vector (at 0 1 11) vector_word.Logic sign.Unwritten None) (declarator (name (at 0 1 17) "y") None None ∷ declarator (name (at 0 1 20) "c") None None ∷ [])) ∷ clocking None (name (at 0 1 32) "cb") edge.Posedge (name (at 0 1 45) "c") (units.Signals (sided direction.Output None ∷ []) (name (at 0 1 56) "y" ∷ []) ∷ []) None ∷ items.Assign (assign_item (target (at 0 1 78) "y") (number (at 0 1 82) "1") ∷ []) ∷ []) None ∷ []

t34_broken : broken t34 [] None ≡ Some (fault 20 0 1 78)
unfolding symbols_of word_of
t34_broken = refl
