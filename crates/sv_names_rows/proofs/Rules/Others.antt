-- Rules on limits, clocking blocks, programs, printing and time (E44 to E58).
use Rattle.std.proofs.Common.{◌≡◌, List, [], ◌∷◌, refl}
use Rattle.std.specs.Prelude.{Some, None, codes}
use Rattle.sv_value.specs.Vector.{symbols_of, word_of}
use Rattle.sv_tree.specs.declared.word.UnaryWord.TheVariants as unary_word
use Rattle.sv_tree.specs.declared.word.BinaryWord.TheVariants as binary_word
use Rattle.sv_tree.specs.declared.word.VectorWord.TheVariants as vector_word
use Rattle.sv_tree.specs.declared.word.AtomWord.TheVariants as atom_word
use Rattle.sv_tree.specs.declared.word.Sign.TheVariants as sign
use Rattle.sv_tree.specs.declared.word.Life.TheVariants as life
use Rattle.sv_tree.specs.declared.word.EdgeWord.TheVariants as edge
use Rattle.sv_tree.specs.declared.word.ProcedureWord.TheVariants as procedure_word
use Rattle.sv_tree.specs.declared.word.Direction.TheVariants as direction
use Rattle.sv_tree.specs.declared.expr.Root.TheVariants as root
use Rattle.sv_tree.specs.Expr as tree
use Rattle.sv_tree.specs.Types as types
use Rattle.sv_tree.specs.Stmt as stmts
use Rattle.sv_tree.specs.Units as units
use Rattle.sv_tree.specs.Items as items
use Rattle.sv_tree.specs.Descriptions as descriptions
use Rattle.sv_tree.specs.Descriptions.{Description}
use Rattle.sv_names.specs.Design.{broken}
use Rattle.sv_names_rows.proofs.Kit.{at, blocking, clocking, decl, declarator, delay, enum_item, fault, module_, name, nonblocking, number, plain, procedure, range, scale, sided, statements, system, target, text, typedef}

-- E44: module t; int a[4194304]; int b[1]; endmodule
abbrev t86 : List Description
t86 = module_ (at 0 1 1) life.Unwritten (name (at 0 1 8) "t") None [] (items.Decl (decl life.Unwritten (types.Atom (at 0 1 11) atom_word.Int sign.Unwritten) (declarator (name (at 0 1 15) "a") (Some (stmts.Size (at 0 1 16) (number (at 0 1 17) "4194304"))) None ∷ [])) ∷ items.Decl (decl life.Unwritten (types.Atom (at 0 1 27) atom_word.Int sign.Unwritten) (declarator (name (at 0 1 31) "b") (Some (stmts.Size (at 0 1 32) (number (at 0 1 33) "1"))) None ∷ [])) ∷ []) None ∷ []

t86_broken : broken t86 [] None ≡ Some (fault 44 0 1 31)
unfolding symbols_of word_of
t86_broken = refl

-- E45: module t; logic [1:0] c; clocking cb @(posedge c); endclocking endmodule
abbrev t87 : List Description
t87 = module_ (at 0 1 1) life.Unwritten (name (at 0 1 8) "t") None [] (items.Decl (decl life.Unwritten (types.WrittenType.Vector (at 0 1 11) vector_word.Logic sign.Unwritten (Some (range (at 0 1 17) (number (at 0 1 18) "1") (number (at 0 1 20) "0")))) (declarator (name (at 0 1 23) "c") None None ∷ [])) ∷ clocking None (name (at 0 1 35) "cb") edge.Posedge (name (at 0 1 48) "c") [] None ∷ []) None ∷ []

t87_broken : broken t87 [] None ≡ Some (fault 45 0 1 48)
unfolding symbols_of word_of
t87_broken = refl

-- E46: module t; logic c; string s; clocking cb @(posedge c); input s; endclocking endmodule
abbrev t88 : List Description
t88 = module_ (at 0 1 1) life.Unwritten (name (at 0 1 8) "t") None [] (items.Decl (decl life.Unwritten (types.WrittenType.Vector (at 0 1 11) vector_word.Logic sign.Unwritten None) (declarator (name (at 0 1 17) "c") None None ∷ [])) ∷ items.Decl (decl life.Unwritten (types.Text (at 0 1 20)) (declarator (name (at 0 1 27) "s") None None ∷ [])) ∷ clocking None (name (at 0 1 39) "cb") edge.Posedge (name (at 0 1 52) "c") (units.Signals (sided direction.Input None ∷ []) (name (at 0 1 62) "s" ∷ []) ∷ []) None ∷ []) None ∷ []

t88_broken : broken t88 [] None ≡ Some (fault 46 0 1 62)
unfolding symbols_of word_of
t88_broken = refl

-- E46: module t; logic c; logic s; clocking cb @(posedge c); input s, s; endclocking endmodule
abbrev t89 : List Description
t89 = module_ (at 0 1 1) life.Unwritten (name (at 0 1 8) "t") None [] (items.Decl (decl life.Unwritten (types.WrittenType.Vector (at 0 1 11) vector_word.Logic sign.Unwritten None) (declarator (name (at 0 1 17) "c") None None ∷ [])) ∷ items.Decl (decl life.Unwritten (types.WrittenType.Vector (at 0 1 20) vector_word.Logic sign.Unwritten None) (declarator (name (at 0 1 26) "s") None None ∷ [])) ∷ clocking None (name (at 0 1 38) "cb") edge.Posedge (name (at 0 1 51) "c") (units.Signals (sided direction.Input None ∷ []) (name (at 0 1 61) "s" ∷ name (at 0 1 64) "s" ∷ []) ∷ []) None ∷ []) None ∷ []

t89_broken : broken t89 [] None ≡ Some (fault 46 0 1 64)
unfolding symbols_of word_of
t89_broken = refl

-- E47: module t; logic c, s; clocking cb @(posedge c); input s; endclocking initial cb.s <= 1; endmodule
abbrev t90 : List Description
t90 = module_ (at 0 1 1) life.Unwritten (name (at 0 1 8) "t") None [] (items.Decl (decl life.Unwritten (types.WrittenType.Vector (at 0 1 11) vector_word.Logic sign.Unwritten None) (declarator (name (at 0 1 17) "c") None None ∷ declarator (name (at 0 1 20) "s") None None ∷ [])) ∷ clocking None (name (at 0 1 32) "cb") edge.Posedge (name (at 0 1 45) "c") (units.Signals (sided direction.Input None ∷ []) (name (at 0 1 55) "s" ∷ []) ∷ []) None ∷ procedure (at 0 1 70) procedure_word.Initial (stmts.Statement (at 0 1 78) None (nonblocking (tree.Lval.Post (root.Plain (name (at 0 1 78) "cb")) (tree.Member (name (at 0 1 81) "s") tree.NoSuffix)) None (number (at 0 1 86) "1"))) ∷ []) None ∷ []

t90_broken : broken t90 [] None ≡ Some (fault 47 0 1 81)
unfolding symbols_of word_of
t90_broken = refl

-- E47: module t; logic c, s; clocking cb @(posedge c); output s; endclocking initial $display("%b", cb.s); endmodule
abbrev t91 : List Description
t91 = module_ (at 0 1 1) life.Unwritten (name (at 0 1 8) "t") None [] (items.Decl (decl life.Unwritten (types.WrittenType.Vector (at 0 1 11) vector_word.Logic sign.Unwritten None) (declarator (name (at 0 1 17) "c") None None ∷ declarator (name (at 0 1 20) "s") None None ∷ [])) ∷ clocking None (name (at 0 1 32) "cb") edge.Posedge (name (at 0 1 45) "c") (units.Signals (sided direction.Output None ∷ []) (name (at 0 1 56) "s" ∷ []) ∷ []) None ∷ procedure (at 0 1 71) procedure_word.Initial (stmts.Statement (at 0 1 79) None (stmts.Call (system (at 0 1 79) "$display" (text (at 0 1 88) "%b" ∷ tree.Expr.Post (root.Plain (name (at 0 1 94) "cb")) (tree.Member (name (at 0 1 97) "s") tree.NoSuffix) ∷ [])))) ∷ []) None ∷ []

t91_broken : broken t91 [] None ≡ Some (fault 47 0 1 97)
unfolding symbols_of word_of
t91_broken = refl

-- E47: module t; logic c, s; clocking cb @(posedge c); output s; endclocking initial cb.s = 1; endmodule
abbrev t92 : List Description
t92 = module_ (at 0 1 1) life.Unwritten (name (at 0 1 8) "t") None [] (items.Decl (decl life.Unwritten (types.WrittenType.Vector (at 0 1 11) vector_word.Logic sign.Unwritten None) (declarator (name (at 0 1 17) "c") None None ∷ declarator (name (at 0 1 20) "s") None None ∷ [])) ∷ clocking None (name (at 0 1 32) "cb") edge.Posedge (name (at 0 1 45) "c") (units.Signals (sided direction.Output None ∷ []) (name (at 0 1 56) "s" ∷ []) ∷ []) None ∷ procedure (at 0 1 71) procedure_word.Initial (stmts.Statement (at 0 1 79) None (blocking (tree.Lval.Post (root.Plain (name (at 0 1 79) "cb")) (tree.Member (name (at 0 1 82) "s") tree.NoSuffix)) None (stmts.Value (number (at 0 1 86) "1")))) ∷ []) None ∷ []

t92_broken : broken t92 [] None ≡ Some (fault 47 0 1 82)
unfolding symbols_of word_of
t92_broken = refl

-- E48: module t; initial ##1; endmodule
abbrev t93 : List Description
t93 = module_ (at 0 1 1) life.Unwritten (name (at 0 1 8) "t") None [] (procedure (at 0 1 11) procedure_word.Initial (stmts.Statement (at 0 1 19) None (stmts.Cycles (at 0 1 19) (number (at 0 1 21) "1") (stmts.Statement (at 0 1 22) None stmts.Null))) ∷ []) None ∷ []

t93_broken : broken t93 [] None ≡ Some (fault 48 0 1 19)
unfolding symbols_of word_of
t93_broken = refl

-- E48: module t; logic c; default clocking a @(c); endclocking default clocking b @(c); endclocking endmodule
abbrev t94 : List Description
t94 = module_ (at 0 1 1) life.Unwritten (name (at 0 1 8) "t") None [] (items.Decl (decl life.Unwritten (types.WrittenType.Vector (at 0 1 11) vector_word.Logic sign.Unwritten None) (declarator (name (at 0 1 17) "c") None None ∷ [])) ∷ clocking (Some (at 0 1 20)) (name (at 0 1 37) "a") edge.Unwritten (name (at 0 1 41) "c") [] None ∷ clocking (Some (at 0 1 57)) (name (at 0 1 74) "b") edge.Unwritten (name (at 0 1 78) "c") [] None ∷ []) None ∷ []

t94_broken : broken t94 [] None ≡ Some (fault 48 0 1 57)
unfolding symbols_of word_of
t94_broken = refl

-- E49: module t; initial $exit; endmodule
abbrev t95 : List Description
t95 = module_ (at 0 1 1) life.Unwritten (name (at 0 1 8) "t") None [] (procedure (at 0 1 11) procedure_word.Initial (stmts.Statement (at 0 1 19) None (stmts.Call (tree.System (name (at 0 1 19) "$exit") tree.Unwritten))) ∷ []) None ∷ []

t95_broken : broken t95 [] None ≡ Some (fault 49 0 1 19)
unfolding symbols_of word_of
t95_broken = refl

-- E50: module t; initial $display("%q"); endmodule
abbrev t96 : List Description
t96 = module_ (at 0 1 1) life.Unwritten (name (at 0 1 8) "t") None [] (procedure (at 0 1 11) procedure_word.Initial (stmts.Statement (at 0 1 19) None (stmts.Call (system (at 0 1 19) "$display" (text (at 0 1 28) "%q" ∷ [])))) ∷ []) None ∷ []

t96_broken : broken t96 [] None ≡ Some (fault 50 0 1 28)
unfolding symbols_of word_of
t96_broken = refl

-- E50: module t; initial $display("%d"); endmodule
abbrev t97 : List Description
t97 = module_ (at 0 1 1) life.Unwritten (name (at 0 1 8) "t") None [] (procedure (at 0 1 11) procedure_word.Initial (stmts.Statement (at 0 1 19) None (stmts.Call (system (at 0 1 19) "$display" (text (at 0 1 28) "%d" ∷ [])))) ∷ []) None ∷ []

t97_broken : broken t97 [] None ≡ Some (fault 50 0 1 28)
unfolding symbols_of word_of
t97_broken = refl

-- E50: module t; initial $display("%d", "x"); endmodule
abbrev t98 : List Description
t98 = module_ (at 0 1 1) life.Unwritten (name (at 0 1 8) "t") None [] (procedure (at 0 1 11) procedure_word.Initial (stmts.Statement (at 0 1 19) None (stmts.Call (system (at 0 1 19) "$display" (text (at 0 1 28) "%d" ∷ text (at 0 1 34) "x" ∷ [])))) ∷ []) None ∷ []

t98_broken : broken t98 [] None ≡ Some (fault 50 0 1 34)
unfolding symbols_of word_of
t98_broken = refl

-- E50: module t; string s; initial s = $sformatf(); endmodule
abbrev t99 : List Description
t99 = module_ (at 0 1 1) life.Unwritten (name (at 0 1 8) "t") None [] (items.Decl (decl life.Unwritten (types.Text (at 0 1 11)) (declarator (name (at 0 1 18) "s") None None ∷ [])) ∷ procedure (at 0 1 21) procedure_word.Initial (stmts.Statement (at 0 1 29) None (blocking (target (at 0 1 29) "s") None (stmts.Value (system (at 0 1 33) "$sformatf" [])))) ∷ []) None ∷ []

t99_broken : broken t99 [] None ≡ Some (fault 50 0 1 33)
unfolding symbols_of word_of
t99_broken = refl

-- E50: module t; string s; initial s = $sformatf(s); endmodule
abbrev t100 : List Description
t100 = module_ (at 0 1 1) life.Unwritten (name (at 0 1 8) "t") None [] (items.Decl (decl life.Unwritten (types.Text (at 0 1 11)) (declarator (name (at 0 1 18) "s") None None ∷ [])) ∷ procedure (at 0 1 21) procedure_word.Initial (stmts.Statement (at 0 1 29) None (blocking (target (at 0 1 29) "s") None (stmts.Value (system (at 0 1 33) "$sformatf" (plain (at 0 1 43) "s" ∷ []))))) ∷ []) None ∷ []

t100_broken : broken t100 [] None ≡ Some (fault 50 0 1 43)
unfolding symbols_of word_of
t100_broken = refl

-- E51: module t; initial begin automatic int a; $strobe("%d", a); end endmodule
abbrev t101 : List Description
t101 = module_ (at 0 1 1) life.Unwritten (name (at 0 1 8) "t") None [] (procedure (at 0 1 11) procedure_word.Initial (stmts.Statement (at 0 1 19) None (stmts.Block None (decl life.Automatic (types.Atom (at 0 1 35) atom_word.Int sign.Unwritten) (declarator (name (at 0 1 39) "a") None None ∷ []) ∷ []) (statements (stmts.Statement (at 0 1 42) None (stmts.Call (system (at 0 1 42) "$strobe" (text (at 0 1 50) "%d" ∷ plain (at 0 1 56) "a" ∷ []))) ∷ [])) None)) ∷ []) None ∷ []

t101_broken : broken t101 [] None ≡ Some (fault 51 0 1 56)
unfolding symbols_of word_of
t101_broken = refl

-- E51: module t; int q[$]; initial $strobe("%d", q[0]); endmodule
abbrev t102 : List Description
t102 = module_ (at 0 1 1) life.Unwritten (name (at 0 1 8) "t") None [] (items.Decl (decl life.Unwritten (types.Atom (at 0 1 11) atom_word.Int sign.Unwritten) (declarator (name (at 0 1 15) "q") (Some (stmts.Queue (at 0 1 16))) None ∷ [])) ∷ procedure (at 0 1 21) procedure_word.Initial (stmts.Statement (at 0 1 29) None (stmts.Call (system (at 0 1 29) "$strobe" (text (at 0 1 37) "%d" ∷ tree.Expr.Post (root.Plain (name (at 0 1 43) "q")) (tree.Select (at 0 1 44) (number (at 0 1 45) "0") tree.NoSuffix) ∷ [])))) ∷ []) None ∷ []

t102_broken : broken t102 [] None ≡ Some (fault 51 0 1 43)
unfolding symbols_of word_of
t102_broken = refl

-- E52: module t; initial #1ps ; endmodule
abbrev t103 : List Description
t103 = module_ (at 0 1 1) life.Unwritten (name (at 0 1 8) "t") None [] (procedure (at 0 1 11) procedure_word.Initial (stmts.Statement (at 0 1 19) None (stmts.After (delay (at 0 1 19) (tree.Time (at 0 1 20) (codes "1ps"))) (stmts.Statement (at 0 1 24) None stmts.Null))) ∷ []) None ∷ []

t103_broken : broken t103 [] None ≡ Some (fault 52 0 1 20)
unfolding symbols_of word_of
t103_broken = refl

-- E53: module t; int a; initial a = a ** 2; endmodule
abbrev t104 : List Description
t104 = module_ (at 0 1 1) life.Unwritten (name (at 0 1 8) "t") None [] (items.Decl (decl life.Unwritten (types.Atom (at 0 1 11) atom_word.Int sign.Unwritten) (declarator (name (at 0 1 15) "a") None None ∷ [])) ∷ procedure (at 0 1 18) procedure_word.Initial (stmts.Statement (at 0 1 26) None (blocking (target (at 0 1 26) "a") None (stmts.Value (tree.Binary binary_word.Power (at 0 1 32) (plain (at 0 1 30) "a") (number (at 0 1 35) "2"))))) ∷ []) None ∷ []

t104_broken : broken t104 [] None ≡ Some (fault 53 0 1 32)
unfolding symbols_of word_of
t104_broken = refl

-- E53: module t; int a = 2 ** -1; endmodule
abbrev t105 : List Description
t105 = module_ (at 0 1 1) life.Unwritten (name (at 0 1 8) "t") None [] (items.Decl (decl life.Unwritten (types.Atom (at 0 1 11) atom_word.Int sign.Unwritten) (declarator (name (at 0 1 15) "a") None (Some (stmts.Value (tree.Binary binary_word.Power (at 0 1 21) (number (at 0 1 19) "2") (tree.Unary (at 0 1 24) unary_word.Minus (number (at 0 1 25) "1"))))) ∷ [])) ∷ []) None ∷ []

t105_broken : broken t105 [] None ≡ Some (fault 53 0 1 21)
unfolding symbols_of word_of
t105_broken = refl

-- E54: `timescale 1ns/1ns
-- `timescale 1ns/1ps
-- module t; endmodule
abbrev t106 : List Description
t106 = module_ (at 0 3 1) life.Unwritten (name (at 0 3 8) "t") None [] [] None ∷ []

t106_broken : broken t106 (scale 6 6 (at 0 1 1) ∷ scale 6 3 (at 0 2 1) ∷ []) None ≡ Some (fault 54 0 2 1)
unfolding symbols_of word_of
t106_broken = refl

-- E55: module t; initial $foo; endmodule
abbrev t107 : List Description
t107 = module_ (at 0 1 1) life.Unwritten (name (at 0 1 8) "t") None [] (procedure (at 0 1 11) procedure_word.Initial (stmts.Statement (at 0 1 19) None (stmts.Call (tree.System (name (at 0 1 19) "$foo") tree.Unwritten))) ∷ []) None ∷ []

t107_broken : broken t107 [] None ≡ Some (fault 55 0 1 19)
unfolding symbols_of word_of
t107_broken = refl

-- E56: module t; enum {A = 1, B = 1} e; endmodule
abbrev t108 : List Description
t108 = module_ (at 0 1 1) life.Unwritten (name (at 0 1 8) "t") None [] (items.Decl (decl life.Unwritten (types.Enum (at 0 1 11) (enum_item (name (at 0 1 17) "A") (Some (number (at 0 1 21) "1")) ∷ enum_item (name (at 0 1 24) "B") (Some (number (at 0 1 28) "1")) ∷ [])) (declarator (name (at 0 1 31) "e") None None ∷ [])) ∷ []) None ∷ []

t108_broken : broken t108 [] None ≡ Some (fault 56 0 1 24)
unfolding symbols_of word_of
t108_broken = refl

-- E56: module t; enum bit {A, B, C} e; endmodule
abbrev t109 : List Description
t109 = module_ (at 0 1 1) life.Unwritten (name (at 0 1 8) "t") None [] (items.Decl (decl life.Unwritten (types.EnumOf (at 0 1 11) (types.WrittenType.Vector (at 0 1 16) vector_word.Bit sign.Unwritten None) (enum_item (name (at 0 1 21) "A") None ∷ enum_item (name (at 0 1 24) "B") None ∷ enum_item (name (at 0 1 27) "C") None ∷ [])) (declarator (name (at 0 1 30) "e") None None ∷ [])) ∷ []) None ∷ []

t109_broken : broken t109 [] None ≡ Some (fault 56 0 1 27)
unfolding symbols_of word_of
t109_broken = refl

-- E57: module t; logic c, s; clocking cb @(c); input #1048577 s; endclocking endmodule
abbrev t110 : List Description
t110 = module_ (at 0 1 1) life.Unwritten (name (at 0 1 8) "t") None [] (items.Decl (decl life.Unwritten (types.WrittenType.Vector (at 0 1 11) vector_word.Logic sign.Unwritten None) (declarator (name (at 0 1 17) "c") None None ∷ declarator (name (at 0 1 20) "s") None None ∷ [])) ∷ clocking None (name (at 0 1 32) "cb") edge.Unwritten (name (at 0 1 37) "c") (units.Signals (sided direction.Input (Some (units.Amount (at 0 1 47) (number (at 0 1 48) "1048577"))) ∷ []) (name (at 0 1 56) "s" ∷ []) ∷ []) None ∷ []) None ∷ []

t110_broken : broken t110 [] None ≡ Some (fault 57 0 1 47)
unfolding symbols_of word_of
t110_broken = refl

-- E58: typedef class c; module t; endmodule
abbrev t111 : List Description
t111 = descriptions.Item (items.Announce (name (at 0 1 15) "c")) ∷ module_ (at 0 1 18) life.Unwritten (name (at 0 1 25) "t") None [] [] None ∷ []

t111_broken : broken t111 [] None ≡ Some (fault 58 0 1 15)
unfolding symbols_of word_of
t111_broken = refl

-- module t; initial #1ns ; endmodule
abbrev t115 : List Description
t115 = module_ (at 0 1 1) life.Unwritten (name (at 0 1 8) "t") None [] (procedure (at 0 1 11) procedure_word.Initial (stmts.Statement (at 0 1 19) None (stmts.After (delay (at 0 1 19) (tree.Time (at 0 1 20) (codes "1ns"))) (stmts.Statement (at 0 1 24) None stmts.Null))) ∷ []) None ∷ []

t115_broken : broken t115 [] None ≡ None
unfolding symbols_of word_of
t115_broken = refl

-- E52: module t; initial #1fs ; endmodule
abbrev t116 : List Description
t116 = module_ (at 0 1 1) life.Unwritten (name (at 0 1 8) "t") None [] (procedure (at 0 1 11) procedure_word.Initial (stmts.Statement (at 0 1 19) None (stmts.After (delay (at 0 1 19) (tree.Time (at 0 1 20) (codes "1fs"))) (stmts.Statement (at 0 1 24) None stmts.Null))) ∷ []) None ∷ []

t116_broken : broken t116 [] None ≡ Some (fault 52 0 1 20)
unfolding symbols_of word_of
t116_broken = refl

-- E52: module t; initial #999ps ; endmodule
abbrev t117 : List Description
t117 = module_ (at 0 1 1) life.Unwritten (name (at 0 1 8) "t") None [] (procedure (at 0 1 11) procedure_word.Initial (stmts.Statement (at 0 1 19) None (stmts.After (delay (at 0 1 19) (tree.Time (at 0 1 20) (codes "999ps"))) (stmts.Statement (at 0 1 26) None stmts.Null))) ∷ []) None ∷ []

t117_broken : broken t117 [] None ≡ Some (fault 52 0 1 20)
unfolding symbols_of word_of
t117_broken = refl

-- E52: module t; initial #1500ps ; endmodule
abbrev t118 : List Description
t118 = module_ (at 0 1 1) life.Unwritten (name (at 0 1 8) "t") None [] (procedure (at 0 1 11) procedure_word.Initial (stmts.Statement (at 0 1 19) None (stmts.After (delay (at 0 1 19) (tree.Time (at 0 1 20) (codes "1500ps"))) (stmts.Statement (at 0 1 27) None stmts.Null))) ∷ []) None ∷ []

t118_broken : broken t118 [] None ≡ Some (fault 52 0 1 20)
unfolding symbols_of word_of
t118_broken = refl

-- module t; initial #9223372036854775807ns ; endmodule
abbrev t119 : List Description
t119 = module_ (at 0 1 1) life.Unwritten (name (at 0 1 8) "t") None [] (procedure (at 0 1 11) procedure_word.Initial (stmts.Statement (at 0 1 19) None (stmts.After (delay (at 0 1 19) (tree.Time (at 0 1 20) (codes "9223372036854775807ns"))) (stmts.Statement (at 0 1 42) None stmts.Null))) ∷ []) None ∷ []

t119_broken : broken t119 [] None ≡ None
unfolding symbols_of word_of
t119_broken = refl

-- E52: module t; initial #9223372036854775808ns ; endmodule
abbrev t120 : List Description
t120 = module_ (at 0 1 1) life.Unwritten (name (at 0 1 8) "t") None [] (procedure (at 0 1 11) procedure_word.Initial (stmts.Statement (at 0 1 19) None (stmts.After (delay (at 0 1 19) (tree.Time (at 0 1 20) (codes "9223372036854775808ns"))) (stmts.Statement (at 0 1 42) None stmts.Null))) ∷ []) None ∷ []

t120_broken : broken t120 [] None ≡ Some (fault 52 0 1 20)
unfolding symbols_of word_of
t120_broken = refl
