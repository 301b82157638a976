-- Texts of each form of the language: what a run of the flat design shows.
use Rattle.std.proofs.Common.{◌≡◌, List, [], ◌∷◌, true, false, refl}
use Rattle.std.specs.Prelude.{Some, None, codes}
use Rattle.sv_value.specs.Vector.{symbols_of, word_of}
use Rattle.sv_value.specs.declared.place.FaultKind.TheVariants as kind
use Rattle.sv_flat.specs.declared.choices.Choices.TheVariants.{Listed}
use Rattle.sv_flat.specs.Directed.{Done, Faulted}
use Rattle.sv_tree.specs.declared.word.UnaryWord.TheVariants as unary_word
use Rattle.sv_tree.specs.declared.word.BinaryWord.TheVariants as binary_word
use Rattle.sv_tree.specs.declared.word.PartWord.TheVariants as part_word
use Rattle.sv_tree.specs.declared.word.VectorWord.TheVariants as vector_word
use Rattle.sv_tree.specs.declared.word.AtomWord.TheVariants as atom_word
use Rattle.sv_tree.specs.declared.word.Sign.TheVariants as sign
use Rattle.sv_tree.specs.declared.word.Life.TheVariants as life
use Rattle.sv_tree.specs.declared.word.CaseWord.TheVariants as case_word
use Rattle.sv_tree.specs.declared.word.JoinWord.TheVariants as join_word
use Rattle.sv_tree.specs.declared.word.EdgeWord.TheVariants as edge
use Rattle.sv_tree.specs.declared.word.StepWord.TheVariants as step_word
use Rattle.sv_tree.specs.declared.word.ProcedureWord.TheVariants as procedure_word
use Rattle.sv_tree.specs.declared.word.Direction.TheVariants as direction
use Rattle.sv_tree.specs.declared.word.PortDirection.TheVariants as port_direction
use Rattle.sv_tree.specs.declared.word.ParamWord.TheVariants as param_word
use Rattle.sv_tree.specs.declared.expr.Root.TheVariants as root
use Rattle.sv_tree.specs.declared.expr.CastType.TheVariants as cast
use Rattle.sv_tree.specs.Expr as tree
use Rattle.sv_tree.specs.Types as types
use Rattle.sv_tree.specs.Stmt as stmts
use Rattle.sv_tree.specs.Units as units
use Rattle.sv_tree.specs.Items as items
use Rattle.sv_tree.specs.Descriptions as descriptions
use Rattle.sv_tree.specs.Descriptions.{Description}
use Rattle.sv_names.specs.Design.{elaborated}
use Rattle.sv_names_rows.proofs.Kit.{argument, assign_item, at, blocking, class_, decl, declarator, delay, enum_item, event_part, expressions, head, instance, instances, lines, method, module_, name, net, net_item, nonblocking, number, operated, param, plain, port, procedure, program_, property, pure_method, qualifiers, range, routine, seen_in, statements, system, target, targets, text, typedef, unqualified, value, Ran}

-- module t; initial begin int f[3:0]; f[2] = 5; f[0] = 1; foreach (f[i]) $display("%0d %0d", i, f[i]); end endmodule
abbrev t1 : List Description
t1 = module_ (at 0 1 1) life.Unwritten (name (at 0 1 8) "t") None [] (procedure (at 0 1 11) procedure_word.Initial (stmts.Statement (at 0 1 19) None (stmts.Block None (decl life.Unwritten (types.Atom (at 0 1 25) atom_word.Int sign.Unwritten) (declarator (name (at 0 1 29) "f") (Some (stmts.Bounds (range (at 0 1 30) (number (at 0 1 31) "3") (number (at 0 1 33) "0")))) None ∷ []) ∷ []) (statements (stmts.Statement (at 0 1 37) None (blocking (tree.Lval.Post (root.Plain (name (at 0 1 37) "f")) (tree.Select (at 0 1 38) (number (at 0 1 39) "2") tree.NoSuffix)) None (stmts.Value (number (at 0 1 44) "5"))) ∷ stmts.Statement (at 0 1 47) None (blocking (tree.Lval.Post (root.Plain (name (at 0 1 47) "f")) (tree.Select (at 0 1 48) (number (at 0 1 49) "0") tree.NoSuffix)) None (stmts.Value (number (at 0 1 54) "1"))) ∷ stmts.Statement (at 0 1 57) None (stmts.Foreach (name (at 0 1 66) "f") (name (at 0 1 68) "i") (stmts.Statement (at 0 1 72) None (stmts.Call (system (at 0 1 72) "$display" (text (at 0 1 81) "%0d %0d" ∷ plain (at 0 1 92) "i" ∷ tree.Expr.Post (root.Plain (name (at 0 1 95) "f")) (tree.Select (at 0 1 96) (plain (at 0 1 97) "i") tree.NoSuffix) ∷ []))))) ∷ [])) None)) ∷ []) None ∷ []

t1_seen : seen_in (Listed []) (Listed []) (elaborated t1 [] None) 18 ≡ Ran (record { log = lines ("3 0" ∷ "2 5" ∷ "1 0" ∷ "0 1" ∷ []); wave = lines ("$timescale 1ns $end" ∷ "$scope module t $end" ∷ "$upscope $end" ∷ "$enddefinitions $end" ∷ "#0" ∷ "$dumpvars" ∷ "$end" ∷ []); outcome = Done; time = 0; steps = 15; race = Some (8, at 0 1 11) })
unfolding symbols_of word_of
t1_seen = refl

-- module t; task automatic w(); int f[4]; logic [7:0] g[1:2]; f[1] = 3; g[2][3:0] = 4'd9; f[f[1] - 2] += 4; $display("%0d %0d %b", f[1], f[7], g[2]); endtask initial w(); endmodule
abbrev t2 : List Description
t2 = module_ (at 0 1 1) life.Unwritten (name (at 0 1 8) "t") None [] (items.Routine (routine (head (at 0 1 11) life.Automatic units.Task (name (at 0 1 26) "w") []) (decl life.Unwritten (types.Atom (at 0 1 31) atom_word.Int sign.Unwritten) (declarator (name (at 0 1 35) "f") (Some (stmts.Size (at 0 1 36) (number (at 0 1 37) "4"))) None ∷ []) ∷ decl life.Unwritten (types.WrittenType.Vector (at 0 1 41) vector_word.Logic sign.Unwritten (Some (range (at 0 1 47) (number (at 0 1 48) "7") (number (at 0 1 50) "0")))) (declarator (name (at 0 1 53) "g") (Some (stmts.Bounds (range (at 0 1 54) (number (at 0 1 55) "1") (number (at 0 1 57) "2")))) None ∷ []) ∷ []) (stmts.Statement (at 0 1 61) None (blocking (tree.Lval.Post (root.Plain (name (at 0 1 61) "f")) (tree.Select (at 0 1 62) (number (at 0 1 63) "1") tree.NoSuffix)) None (stmts.Value (number (at 0 1 68) "3"))) ∷ stmts.Statement (at 0 1 71) None (blocking (tree.Lval.Post (root.Plain (name (at 0 1 71) "g")) (tree.Select (at 0 1 72) (number (at 0 1 73) "2") (tree.Part (at 0 1 75) part_word.Fixed (number (at 0 1 76) "3") (number (at 0 1 78) "0") tree.NoSuffix))) None (stmts.Value (number (at 0 1 83) "4'd9"))) ∷ stmts.Statement (at 0 1 89) None (stmts.Body.Operator (operated (tree.Lval.Post (root.Plain (name (at 0 1 89) "f")) (tree.Select (at 0 1 90) (tree.Binary binary_word.Minus (at 0 1 96) (tree.Expr.Post (root.Plain (name (at 0 1 91) "f")) (tree.Select (at 0 1 92) (number (at 0 1 93) "1") tree.NoSuffix)) (number (at 0 1 98) "2")) tree.NoSuffix)) binary_word.Plus (number (at 0 1 104) "4"))) ∷ stmts.Statement (at 0 1 107) None (stmts.Call (system (at 0 1 107) "$display" (text (at 0 1 116) "%0d %0d %b" ∷ tree.Expr.Post (root.Plain (name (at 0 1 130) "f")) (tree.Select (at 0 1 131) (number (at 0 1 132) "1") tree.NoSuffix) ∷ tree.Expr.Post (root.Plain (name (at 0 1 136) "f")) (tree.Select (at 0 1 137) (number (at 0 1 138) "7") tree.NoSuffix) ∷ tree.Expr.Post (root.Plain (name (at 0 1 142) "g")) (tree.Select (at 0 1 143) (number (at 0 1 144) "2") tree.NoSuffix) ∷ []))) ∷ []) None) ∷ procedure (at 0 1 157) procedure_word.Initial (stmts.Statement (at 0 1 165) None (stmts.Call (tree.Expr.Post (root.Plain (name (at 0 1 165) "w")) (tree.Call (at 0 1 166) tree.NoExpr tree.NoSuffix)))) ∷ []) None ∷ []

t2_seen : seen_in (Listed []) (Listed []) (elaborated t2 [] None) 12 ≡ Ran (record { log = lines ("7 0 xxxx1001" ∷ []); wave = lines ("$timescale 1ns $end" ∷ "$scope module t $end" ∷ "$upscope $end" ∷ "$enddefinitions $end" ∷ "#0" ∷ "$dumpvars" ∷ "$end" ∷ []); outcome = Done; time = 0; steps = 9; race = Some (8, at 0 1 157) })
unfolding symbols_of word_of
t2_seen = refl

-- module t; class C; int a[2]; int b = 7; string s[3]; function void set(int i, int v); a[i] = v; s[i] = "x"; endfunction endclass C c; initial begin c = new; c.set(1, 4); c.a[0] = c.a[1] + c.b; $display("%0d %0d %0d %s|%s", c.a[0], c.a[1], c.b, c.s[1], c.s[0]); end endmodule
abbrev t3 : List Description
t3 = module_ (at 0 1 1) life.Unwritten (name (at 0 1 8) "t") None [] (items.Class (class_ (at 0 1 11) false (name (at 0 1 17) "C") None (property unqualified (decl life.Unwritten (types.Atom (at 0 1 20) atom_word.Int sign.Unwritten) (declarator (name (at 0 1 24) "a") (Some (stmts.Size (at 0 1 25) (number (at 0 1 26) "2"))) None ∷ [])) ∷ property unqualified (decl life.Unwritten (types.Atom (at 0 1 30) atom_word.Int sign.Unwritten) (declarator (name (at 0 1 34) "b") None (Some (stmts.Value (number (at 0 1 38) "7"))) ∷ [])) ∷ property unqualified (decl life.Unwritten (types.Text (at 0 1 41)) (declarator (name (at 0 1 48) "s") (Some (stmts.Size (at 0 1 49) (number (at 0 1 50) "3"))) None ∷ [])) ∷ method unqualified (routine (head (at 0 1 54) life.Unwritten units.Void (name (at 0 1 68) "set") (argument None (types.Written (types.Atom (at 0 1 72) atom_word.Int sign.Unwritten)) (name (at 0 1 76) "i") None ∷ argument None (types.Written (types.Atom (at 0 1 79) atom_word.Int sign.Unwritten)) (name (at 0 1 83) "v") None ∷ [])) [] (stmts.Statement (at 0 1 87) None (blocking (tree.Lval.Post (root.Plain (name (at 0 1 87) "a")) (tree.Select (at 0 1 88) (plain (at 0 1 89) "i") tree.NoSuffix)) None (stmts.Value (plain (at 0 1 94) "v"))) ∷ stmts.Statement (at 0 1 97) None (blocking (tree.Lval.Post (root.Plain (name (at 0 1 97) "s")) (tree.Select (at 0 1 98) (plain (at 0 1 99) "i") tree.NoSuffix)) None (stmts.Value (text (at 0 1 104) "x"))) ∷ []) None) ∷ []) None) ∷ items.Decl (decl life.Unwritten (types.Named (name (at 0 1 130) "C")) (declarator (name (at 0 1 132) "c") None None ∷ [])) ∷ procedure (at 0 1 135) procedure_word.Initial (stmts.Statement (at 0 1 143) None (stmts.Block None [] (statements (stmts.Statement (at 0 1 149) None (blocking (target (at 0 1 149) "c") None (stmts.New (at 0 1 153) tree.Unwritten)) ∷ stmts.Statement (at 0 1 158) None (stmts.Call (tree.Expr.Post (root.Plain (name (at 0 1 158) "c")) (tree.Member (name (at 0 1 160) "set") (tree.Call (at 0 1 163) (expressions (number (at 0 1 164) "1" ∷ number (at 0 1 167) "4" ∷ [])) tree.NoSuffix)))) ∷ stmts.Statement (at 0 1 171) None (blocking (tree.Lval.Post (root.Plain (name (at 0 1 171) "c")) (tree.Member (name (at 0 1 173) "a") (tree.Select (at 0 1 174) (number (at 0 1 175) "0") tree.NoSuffix))) None (stmts.Value (tree.Binary binary_word.Plus (at 0 1 187) (tree.Expr.Post (root.Plain (name (at 0 1 180) "c")) (tree.Member (name (at 0 1 182) "a") (tree.Select (at 0 1 183) (number (at 0 1 184) "1") tree.NoSuffix))) (tree.Expr.Post (root.Plain (name (at 0 1 189) "c")) (tree.Member (name (at 0 1 191) "b") tree.NoSuffix))))) ∷ stmts.Statement (at 0 1 194) None (stmts.Call (system (at 0 1 194) "$display" (text (at 0 1 203) "%0d %0d %0d %s|%s" ∷ tree.Expr.Post (root.Plain (name (at 0 1 224) "c")) (tree.Member (name (at 0 1 226) "a") (tree.Select (at 0 1 227) (number (at 0 1 228) "0") tree.NoSuffix)) ∷ tree.Expr.Post (root.Plain (name (at 0 1 232) "c")) (tree.Member (name (at 0 1 234) "a") (tree.Select (at 0 1 235) (number (at 0 1 236) "1") tree.NoSuffix)) ∷ tree.Expr.Post (root.Plain (name (at 0 1 240) "c")) (tree.Member (name (at 0 1 242) "b") tree.NoSuffix) ∷ tree.Expr.Post (root.Plain (name (at 0 1 245) "c")) (tree.Member (name (at 0 1 247) "s") (tree.Select (at 0 1 248) (number (at 0 1 249) "1") tree.NoSuffix)) ∷ tree.Expr.Post (root.Plain (name (at 0 1 253) "c")) (tree.Member (name (at 0 1 255) "s") (tree.Select (at 0 1 256) (number (at 0 1 257) "0") tree.NoSuffix)) ∷ []))) ∷ [])) None)) ∷ []) None ∷ []

t3_seen : seen_in (Listed []) (Listed []) (elaborated t3 [] None) 17 ≡ Ran (record { log = lines ("11 4 7 x|" ∷ []); wave = lines ("$timescale 1ns $end" ∷ "$scope module t $end" ∷ "$upscope $end" ∷ "$enddefinitions $end" ∷ "#0" ∷ "$dumpvars" ∷ "$end" ∷ []); outcome = Done; time = 0; steps = 14; race = Some (7, at 0 1 68) })
unfolding symbols_of word_of
t3_seen = refl

-- module t; class C; static int n = 3; static function int twice(int x); return 2 * x + n; endfunction int v; endclass C c; initial begin c = new; c.n = 5; $display("%0d %0d %0d", c.n, C::n, c.twice(4)); C::n++; $display("%0d", C::twice(1)); end endmodule
abbrev t4 : List Description
t4 = module_ (at 0 1 1) life.Unwritten (name (at 0 1 8) "t") None [] (items.Class (class_ (at 0 1 11) false (name (at 0 1 17) "C") None (property (qualifiers false false true false) (decl life.Unwritten (types.Atom (at 0 1 27) atom_word.Int sign.Unwritten) (declarator (name (at 0 1 31) "n") None (Some (stmts.Value (number (at 0 1 35) "3"))) ∷ [])) ∷ method (qualifiers false false true false) (routine (head (at 0 1 45) life.Unwritten (units.Returns.Value (types.Written (types.Atom (at 0 1 54) atom_word.Int sign.Unwritten))) (name (at 0 1 58) "twice") (argument None (types.Written (types.Atom (at 0 1 64) atom_word.Int sign.Unwritten)) (name (at 0 1 68) "x") None ∷ [])) [] (stmts.Statement (at 0 1 72) None (stmts.Return (Some (tree.Binary binary_word.Plus (at 0 1 85) (tree.Binary binary_word.Multiply (at 0 1 81) (number (at 0 1 79) "2") (plain (at 0 1 83) "x")) (plain (at 0 1 87) "n")))) ∷ []) None) ∷ property unqualified (decl life.Unwritten (types.Atom (at 0 1 102) atom_word.Int sign.Unwritten) (declarator (name (at 0 1 106) "v") None None ∷ [])) ∷ []) None) ∷ items.Decl (decl life.Unwritten (types.Named (name (at 0 1 118) "C")) (declarator (name (at 0 1 120) "c") None None ∷ [])) ∷ procedure (at 0 1 123) procedure_word.Initial (stmts.Statement (at 0 1 131) None (stmts.Block None [] (statements (stmts.Statement (at 0 1 137) None (blocking (target (at 0 1 137) "c") None (stmts.New (at 0 1 141) tree.Unwritten)) ∷ stmts.Statement (at 0 1 146) None (blocking (tree.Lval.Post (root.Plain (name (at 0 1 146) "c")) (tree.Member (name (at 0 1 148) "n") tree.NoSuffix)) None (stmts.Value (number (at 0 1 152) "5"))) ∷ stmts.Statement (at 0 1 155) None (stmts.Call (system (at 0 1 155) "$display" (text (at 0 1 164) "%0d %0d %0d" ∷ tree.Expr.Post (root.Plain (name (at 0 1 179) "c")) (tree.Member (name (at 0 1 181) "n") tree.NoSuffix) ∷ tree.Expr.Post (root.Scoped (name (at 0 1 184) "C") (name (at 0 1 187) "n")) tree.NoSuffix ∷ tree.Expr.Post (root.Plain (name (at 0 1 190) "c")) (tree.Member (name (at 0 1 192) "twice") (tree.Call (at 0 1 197) (expressions (number (at 0 1 198) "4" ∷ [])) tree.NoSuffix)) ∷ []))) ∷ stmts.Statement (at 0 1 203) None (stmts.Body.Step (tree.Lval.Post (root.Scoped (name (at 0 1 203) "C") (name (at 0 1 206) "n")) tree.NoSuffix) step_word.Increment) ∷ stmts.Statement (at 0 1 211) None (stmts.Call (system (at 0 1 211) "$display" (text (at 0 1 220) "%0d" ∷ tree.Expr.Post (root.Scoped (name (at 0 1 227) "C") (name (at 0 1 230) "twice")) (tree.Call (at 0 1 235) (expressions (number (at 0 1 236) "1" ∷ [])) tree.NoSuffix) ∷ []))) ∷ [])) None)) ∷ []) None ∷ []

t4_seen : seen_in (Listed []) (Listed []) (elaborated t4 [] None) 20 ≡ Ran (record { log = lines ("5 5 13" ∷ "8" ∷ []); wave = lines ("$timescale 1ns $end" ∷ "$scope module t $end" ∷ "$upscope $end" ∷ "$enddefinitions $end" ∷ "#0" ∷ "$dumpvars" ∷ "$end" ∷ []); outcome = Done; time = 0; steps = 17; race = Some (7, at 0 1 58) })
unfolding symbols_of word_of
t4_seen = refl

-- module t; class C; static int n = 3; endclass C c; initial begin $display("%0d", c.n); end endmodule
abbrev t5 : List Description
t5 = module_ (at 0 1 1) life.Unwritten (name (at 0 1 8) "t") None [] (items.Class (class_ (at 0 1 11) false (name (at 0 1 17) "C") None (property (qualifiers false false true false) (decl life.Unwritten (types.Atom (at 0 1 27) atom_word.Int sign.Unwritten) (declarator (name (at 0 1 31) "n") None (Some (stmts.Value (number (at 0 1 35) "3"))) ∷ [])) ∷ []) None) ∷ items.Decl (decl life.Unwritten (types.Named (name (at 0 1 47) "C")) (declarator (name (at 0 1 49) "c") None None ∷ [])) ∷ procedure (at 0 1 52) procedure_word.Initial (stmts.Statement (at 0 1 60) None (stmts.Block None [] (statements (stmts.Statement (at 0 1 66) None (stmts.Call (system (at 0 1 66) "$display" (text (at 0 1 75) "%0d" ∷ tree.Expr.Post (root.Plain (name (at 0 1 82) "c")) (tree.Member (name (at 0 1 84) "n") tree.NoSuffix) ∷ []))) ∷ [])) None)) ∷ []) None ∷ []

t5_seen : seen_in (Listed []) (Listed []) (elaborated t5 [] None) 7 ≡ Ran (record { log = []; wave = lines ("$timescale 1ns $end" ∷ "$scope module t $end" ∷ "$upscope $end" ∷ "$enddefinitions $end" ∷ []); outcome = Faulted (record { kind = kind.Null; at = at 0 1 66; time = 0 }); time = 0; steps = 4; race = Some (10, at 0 1 49) })
unfolding symbols_of word_of
t5_seen = refl

-- module t; class C; static function void f(); $display("f"); endfunction endclass C c; initial c.f(); endmodule
abbrev t6 : List Description
t6 = module_ (at 0 1 1) life.Unwritten (name (at 0 1 8) "t") None [] (items.Class (class_ (at 0 1 11) false (name (at 0 1 17) "C") None (method (qualifiers false false true false) (routine (head (at 0 1 27) life.Unwritten units.Void (name (at 0 1 41) "f") []) [] (stmts.Statement (at 0 1 46) None (stmts.Call (system (at 0 1 46) "$display" (text (at 0 1 55) "f" ∷ []))) ∷ []) None) ∷ []) None) ∷ items.Decl (decl life.Unwritten (types.Named (name (at 0 1 82) "C")) (declarator (name (at 0 1 84) "c") None None ∷ [])) ∷ procedure (at 0 1 87) procedure_word.Initial (stmts.Statement (at 0 1 95) None (stmts.Call (tree.Expr.Post (root.Plain (name (at 0 1 95) "c")) (tree.Member (name (at 0 1 97) "f") (tree.Call (at 0 1 98) tree.NoExpr tree.NoSuffix))))) ∷ []) None ∷ []

t6_seen : seen_in (Listed []) (Listed []) (elaborated t6 [] None) 6 ≡ Ran (record { log = []; wave = lines ("$timescale 1ns $end" ∷ "$scope module t $end" ∷ "$upscope $end" ∷ "$enddefinitions $end" ∷ []); outcome = Faulted (record { kind = kind.Null; at = at 0 1 95; time = 0 }); time = 0; steps = 3; race = Some (10, at 0 1 84) })
unfolding symbols_of word_of
t6_seen = refl

-- module t; class A; int x; endclass class B extends A; int y; endclass A a; B b; initial begin a = new; void'($cast(b, a)); $display("%0d", b == null); if ($cast(b, a)) $display("no"); b = new; a = b; $display("%0d", $cast(b, a)); $cast(b, a); end endmodule
abbrev t7 : List Description
t7 = module_ (at 0 1 1) life.Unwritten (name (at 0 1 8) "t") None [] (items.Class (class_ (at 0 1 11) false (name (at 0 1 17) "A") None (property unqualified (decl life.Unwritten (types.Atom (at 0 1 20) atom_word.Int sign.Unwritten) (declarator (name (at 0 1 24) "x") None None ∷ [])) ∷ []) None) ∷ items.Class (class_ (at 0 1 36) false (name (at 0 1 42) "B") (Some (name (at 0 1 52) "A")) (property unqualified (decl life.Unwritten (types.Atom (at 0 1 55) atom_word.Int sign.Unwritten) (declarator (name (at 0 1 59) "y") None None ∷ [])) ∷ []) None) ∷ items.Decl (decl life.Unwritten (types.Named (name (at 0 1 71) "A")) (declarator (name (at 0 1 73) "a") None None ∷ [])) ∷ items.Decl (decl life.Unwritten (types.Named (name (at 0 1 76) "B")) (declarator (name (at 0 1 78) "b") None None ∷ [])) ∷ procedure (at 0 1 81) procedure_word.Initial (stmts.Statement (at 0 1 89) None (stmts.Block None [] (statements (stmts.Statement (at 0 1 95) None (blocking (target (at 0 1 95) "a") None (stmts.New (at 0 1 99) tree.Unwritten)) ∷ stmts.Statement (at 0 1 104) None (stmts.Ignore (at 0 1 104) (system (at 0 1 110) "$cast" (plain (at 0 1 116) "b" ∷ plain (at 0 1 119) "a" ∷ []))) ∷ stmts.Statement (at 0 1 124) None (stmts.Call (system (at 0 1 124) "$display" (text (at 0 1 133) "%0d" ∷ tree.Binary binary_word.Equal (at 0 1 142) (plain (at 0 1 140) "b") (tree.Null (at 0 1 145)) ∷ []))) ∷ stmts.Statement (at 0 1 152) None (stmts.If (system (at 0 1 156) "$cast" (plain (at 0 1 162) "b" ∷ plain (at 0 1 165) "a" ∷ [])) (stmts.Statement (at 0 1 169) None (stmts.Call (system (at 0 1 169) "$display" (text (at 0 1 178) "no" ∷ []))))) ∷ stmts.Statement (at 0 1 185) None (blocking (target (at 0 1 185) "b") None (stmts.New (at 0 1 189) tree.Unwritten)) ∷ stmts.Statement (at 0 1 194) None (blocking (target (at 0 1 194) "a") None (stmts.Value (plain (at 0 1 198) "b"))) ∷ stmts.Statement (at 0 1 201) None (stmts.Call (system (at 0 1 201) "$display" (text (at 0 1 210) "%0d" ∷ system (at 0 1 217) "$cast" (plain (at 0 1 223) "b" ∷ plain (at 0 1 226) "a" ∷ []) ∷ []))) ∷ stmts.Statement (at 0 1 231) None (stmts.Call (system (at 0 1 231) "$cast" (plain (at 0 1 237) "b" ∷ plain (at 0 1 240) "a" ∷ []))) ∷ [])) None)) ∷ []) None ∷ []

t7_seen : seen_in (Listed []) (Listed []) (elaborated t7 [] None) 23 ≡ Ran (record { log = lines ("1" ∷ "1" ∷ []); wave = lines ("$timescale 1ns $end" ∷ "$scope module t $end" ∷ "$upscope $end" ∷ "$enddefinitions $end" ∷ "#0" ∷ "$dumpvars" ∷ "$end" ∷ []); outcome = Done; time = 0; steps = 20; race = Some (10, at 0 1 73) })
unfolding symbols_of word_of
t7_seen = refl

-- module t; int q[$]; mailbox m = new(2); initial begin q.push_back(1); q.size(); m.num(); void'(q.size()); $display("%0d", q.size()); end endmodule
abbrev t8 : List Description
t8 = module_ (at 0 1 1) life.Unwritten (name (at 0 1 8) "t") None [] (items.Decl (decl life.Unwritten (types.Atom (at 0 1 11) atom_word.Int sign.Unwritten) (declarator (name (at 0 1 15) "q") (Some (stmts.Queue (at 0 1 16))) None ∷ [])) ∷ items.Decl (decl life.Unwritten (types.Mailbox (at 0 1 21)) (declarator (name (at 0 1 29) "m") None (Some (stmts.New (at 0 1 33) (tree.Written (expressions (number (at 0 1 37) "2" ∷ []))))) ∷ [])) ∷ procedure (at 0 1 41) procedure_word.Initial (stmts.Statement (at 0 1 49) None (stmts.Block None [] (statements (stmts.Statement (at 0 1 55) None (stmts.Call (tree.Expr.Post (root.Plain (name (at 0 1 55) "q")) (tree.Member (name (at 0 1 57) "push_back") (tree.Call (at 0 1 66) (expressions (number (at 0 1 67) "1" ∷ [])) tree.NoSuffix)))) ∷ stmts.Statement (at 0 1 71) None (stmts.Call (tree.Expr.Post (root.Plain (name (at 0 1 71) "q")) (tree.Member (name (at 0 1 73) "size") (tree.Call (at 0 1 77) tree.NoExpr tree.NoSuffix)))) ∷ stmts.Statement (at 0 1 81) None (stmts.Call (tree.Expr.Post (root.Plain (name (at 0 1 81) "m")) (tree.Member (name (at 0 1 83) "num") (tree.Call (at 0 1 86) tree.NoExpr tree.NoSuffix)))) ∷ stmts.Statement (at 0 1 90) None (stmts.Ignore (at 0 1 90) (tree.Expr.Post (root.Plain (name (at 0 1 96) "q")) (tree.Member (name (at 0 1 98) "size") (tree.Call (at 0 1 102) tree.NoExpr tree.NoSuffix)))) ∷ stmts.Statement (at 0 1 107) None (stmts.Call (system (at 0 1 107) "$display" (text (at 0 1 116) "%0d" ∷ tree.Expr.Post (root.Plain (name (at 0 1 123) "q")) (tree.Member (name (at 0 1 125) "size") (tree.Call (at 0 1 129) tree.NoExpr tree.NoSuffix)) ∷ []))) ∷ [])) None)) ∷ []) None ∷ []

t8_seen : seen_in (Listed []) (Listed []) (elaborated t8 [] None) 12 ≡ Ran (record { log = lines ("1" ∷ []); wave = lines ("$timescale 1ns $end" ∷ "$scope module t $end" ∷ "$upscope $end" ∷ "$enddefinitions $end" ∷ "#0" ∷ "$dumpvars" ∷ "$end" ∷ []); outcome = Done; time = 0; steps = 9; race = Some (10, at 0 1 15) })
unfolding symbols_of word_of
t8_seen = refl

-- module t; int q[$], r[$], d[]; initial begin q.push_back(1); q.push_back(2); r = q; q[$] = 9; d = new[3]; d[1] = 4; d = new[5](d); $display("%0d %0d %0d %0d", r[1], q[$], d.size(), d[1]); q.insert(1, 5); q.delete(0); $display("%0d %0d", q[0], q[$-1]); end endmodule
abbrev t9 : List Description
t9 = module_ (at 0 1 1) life.Unwritten (name (at 0 1 8) "t") None [] (items.Decl (decl life.Unwritten (types.Atom (at 0 1 11) atom_word.Int sign.Unwritten) (declarator (name (at 0 1 15) "q") (Some (stmts.Queue (at 0 1 16))) None ∷ declarator (name (at 0 1 21) "r") (Some (stmts.Queue (at 0 1 22))) None ∷ declarator (name (at 0 1 27) "d") (Some (stmts.Empty (at 0 1 28))) None ∷ [])) ∷ procedure (at 0 1 32) procedure_word.Initial (stmts.Statement (at 0 1 40) None (stmts.Block None [] (statements (stmts.Statement (at 0 1 46) None (stmts.Call (tree.Expr.Post (root.Plain (name (at 0 1 46) "q")) (tree.Member (name (at 0 1 48) "push_back") (tree.Call (at 0 1 57) (expressions (number (at 0 1 58) "1" ∷ [])) tree.NoSuffix)))) ∷ stmts.Statement (at 0 1 62) None (stmts.Call (tree.Expr.Post (root.Plain (name (at 0 1 62) "q")) (tree.Member (name (at 0 1 64) "push_back") (tree.Call (at 0 1 73) (expressions (number (at 0 1 74) "2" ∷ [])) tree.NoSuffix)))) ∷ stmts.Statement (at 0 1 78) None (blocking (target (at 0 1 78) "r") None (stmts.Value (plain (at 0 1 82) "q"))) ∷ stmts.Statement (at 0 1 85) None (blocking (tree.Lval.Post (root.Plain (name (at 0 1 85) "q")) (tree.Select (at 0 1 86) (tree.Dollar (at 0 1 87)) tree.NoSuffix)) None (stmts.Value (number (at 0 1 92) "9"))) ∷ stmts.Statement (at 0 1 95) None (blocking (target (at 0 1 95) "d") None (stmts.Array (at 0 1 99) (number (at 0 1 103) "3") None)) ∷ stmts.Statement (at 0 1 107) None (blocking (tree.Lval.Post (root.Plain (name (at 0 1 107) "d")) (tree.Select (at 0 1 108) (number (at 0 1 109) "1") tree.NoSuffix)) None (stmts.Value (number (at 0 1 114) "4"))) ∷ stmts.Statement (at 0 1 117) None (blocking (target (at 0 1 117) "d") None (stmts.Array (at 0 1 121) (number (at 0 1 125) "5") (Some (plain (at 0 1 128) "d")))) ∷ stmts.Statement (at 0 1 132) None (stmts.Call (system (at 0 1 132) "$display" (text (at 0 1 141) "%0d %0d %0d %0d" ∷ tree.Expr.Post (root.Plain (name (at 0 1 160) "r")) (tree.Select (at 0 1 161) (number (at 0 1 162) "1") tree.NoSuffix) ∷ tree.Expr.Post (root.Plain (name (at 0 1 166) "q")) (tree.Select (at 0 1 167) (tree.Dollar (at 0 1 168)) tree.NoSuffix) ∷ tree.Expr.Post (root.Plain (name (at 0 1 172) "d")) (tree.Member (name (at 0 1 174) "size") (tree.Call (at 0 1 178) tree.NoExpr tree.NoSuffix)) ∷ tree.Expr.Post (root.Plain (name (at 0 1 182) "d")) (tree.Select (at 0 1 183) (number (at 0 1 184) "1") tree.NoSuffix) ∷ []))) ∷ stmts.Statement (at 0 1 189) None (stmts.Call (tree.Expr.Post (root.Plain (name (at 0 1 189) "q")) (tree.Member (name (at 0 1 191) "insert") (tree.Call (at 0 1 197) (expressions (number (at 0 1 198) "1" ∷ number (at 0 1 201) "5" ∷ [])) tree.NoSuffix)))) ∷ stmts.Statement (at 0 1 205) None (stmts.Call (tree.Expr.Post (root.Plain (name (at 0 1 205) "q")) (tree.Member (name (at 0 1 207) "delete") (tree.Call (at 0 1 213) (expressions (number (at 0 1 214) "0" ∷ [])) tree.NoSuffix)))) ∷ stmts.Statement (at 0 1 218) None (stmts.Call (system (at 0 1 218) "$display" (text (at 0 1 227) "%0d %0d" ∷ tree.Expr.Post (root.Plain (name (at 0 1 238) "q")) (tree.Select (at 0 1 239) (number (at 0 1 240) "0") tree.NoSuffix) ∷ tree.Expr.Post (root.Plain (name (at 0 1 244) "q")) (tree.Select (at 0 1 245) (tree.Binary binary_word.Minus (at 0 1 247) (tree.Dollar (at 0 1 246)) (number (at 0 1 248) "1")) tree.NoSuffix) ∷ []))) ∷ [])) None)) ∷ []) None ∷ []

t9_seen : seen_in (Listed []) (Listed []) (elaborated t9 [] None) 18 ≡ Ran (record { log = lines ("2 9 5 4" ∷ "5 5" ∷ []); wave = lines ("$timescale 1ns $end" ∷ "$scope module t $end" ∷ "$upscope $end" ∷ "$enddefinitions $end" ∷ "#0" ∷ "$dumpvars" ∷ "$end" ∷ []); outcome = Done; time = 0; steps = 15; race = Some (10, at 0 1 15) })
unfolding symbols_of word_of
t9_seen = refl

-- module t; int m[string], k[int]; string s; int i; initial begin m["b"] = 2; m["a"] = 1; if (m.first(s)) $display("%s", s); while (m.next(s)) $display("%s", s); k[-3] = 1; k[7] = 2; void'(k.last(i)); $display("%0d %0d %0d", i, k.exists(-3), k.num()); k.delete(7); k.delete(); $display("%0d", k.num()); end endmodule
abbrev t10 : List Description
t10 = module_ (at 0 1 1) life.Unwritten (name (at 0 1 8) "t") None [] (items.Decl (decl life.Unwritten (types.Atom (at 0 1 11) atom_word.Int sign.Unwritten) (declarator (name (at 0 1 15) "m") (Some (stmts.Key (at 0 1 16) (types.Text (at 0 1 17)))) None ∷ declarator (name (at 0 1 26) "k") (Some (stmts.Key (at 0 1 27) (types.Atom (at 0 1 28) atom_word.Int sign.Unwritten))) None ∷ [])) ∷ items.Decl (decl life.Unwritten (types.Text (at 0 1 34)) (declarator (name (at 0 1 41) "s") None None ∷ [])) ∷ items.Decl (decl life.Unwritten (types.Atom (at 0 1 44) atom_word.Int sign.Unwritten) (declarator (name (at 0 1 48) "i") None None ∷ [])) ∷ procedure (at 0 1 51) procedure_word.Initial (stmts.Statement (at 0 1 59) None (stmts.Block None [] (statements (stmts.Statement (at 0 1 65) None (blocking (tree.Lval.Post (root.Plain (name (at 0 1 65) "m")) (tree.Select (at 0 1 66) (text (at 0 1 67) "b") tree.NoSuffix)) None (stmts.Value (number (at 0 1 74) "2"))) ∷ stmts.Statement (at 0 1 77) None (blocking (tree.Lval.Post (root.Plain (name (at 0 1 77) "m")) (tree.Select (at 0 1 78) (text (at 0 1 79) "a") tree.NoSuffix)) None (stmts.Value (number (at 0 1 86) "1"))) ∷ stmts.Statement (at 0 1 89) None (stmts.If (tree.Expr.Post (root.Plain (name (at 0 1 93) "m")) (tree.Member (name (at 0 1 95) "first") (tree.Call (at 0 1 100) (expressions (plain (at 0 1 101) "s" ∷ [])) tree.NoSuffix))) (stmts.Statement (at 0 1 105) None (stmts.Call (system (at 0 1 105) "$display" (text (at 0 1 114) "%s" ∷ plain (at 0 1 120) "s" ∷ []))))) ∷ stmts.Statement (at 0 1 124) None (stmts.While (tree.Expr.Post (root.Plain (name (at 0 1 131) "m")) (tree.Member (name (at 0 1 133) "next") (tree.Call (at 0 1 137) (expressions (plain (at 0 1 138) "s" ∷ [])) tree.NoSuffix))) (stmts.Statement (at 0 1 142) None (stmts.Call (system (at 0 1 142) "$display" (text (at 0 1 151) "%s" ∷ plain (at 0 1 157) "s" ∷ []))))) ∷ stmts.Statement (at 0 1 161) None (blocking (tree.Lval.Post (root.Plain (name (at 0 1 161) "k")) (tree.Select (at 0 1 162) (tree.Unary (at 0 1 163) unary_word.Minus (number (at 0 1 164) "3")) tree.NoSuffix)) None (stmts.Value (number (at 0 1 169) "1"))) ∷ stmts.Statement (at 0 1 172) None (blocking (tree.Lval.Post (root.Plain (name (at 0 1 172) "k")) (tree.Select (at 0 1 173) (number (at 0 1 174) "7") tree.NoSuffix)) None (stmts.Value (number (at 0 1 179) "2"))) ∷ stmts.Statement (at 0 1 182) None (stmts.Ignore (at 0 1 182) (tree.Expr.Post (root.Plain (name (at 0 1 188) "k")) (tree.Member (name (at 0 1 190) "last") (tree.Call (at 0 1 194) (expressions (plain (at 0 1 195) "i" ∷ [])) tree.NoSuffix)))) ∷ stmts.Statement (at 0 1 200) None (stmts.Call (system (at 0 1 200) "$display" (text (at 0 1 209) "%0d %0d %0d" ∷ plain (at 0 1 224) "i" ∷ tree.Expr.Post (root.Plain (name (at 0 1 227) "k")) (tree.Member (name (at 0 1 229) "exists") (tree.Call (at 0 1 235) (expressions (tree.Unary (at 0 1 236) unary_word.Minus (number (at 0 1 237) "3") ∷ [])) tree.NoSuffix)) ∷ tree.Expr.Post (root.Plain (name (at 0 1 241) "k")) (tree.Member (name (at 0 1 243) "num") (tree.Call (at 0 1 246) tree.NoExpr tree.NoSuffix)) ∷ []))) ∷ stmts.Statement (at 0 1 251) None (stmts.Call (tree.Expr.Post (root.Plain (name (at 0 1 251) "k")) (tree.Member (name (at 0 1 253) "delete") (tree.Call (at 0 1 259) (expressions (number (at 0 1 260) "7" ∷ [])) tree.NoSuffix)))) ∷ stmts.Statement (at 0 1 264) None (stmts.Call (tree.Expr.Post (root.Plain (name (at 0 1 264) "k")) (tree.Member (name (at 0 1 266) "delete") (tree.Call (at 0 1 272) tree.NoExpr tree.NoSuffix)))) ∷ stmts.Statement (at 0 1 276) None (stmts.Call (system (at 0 1 276) "$display" (text (at 0 1 285) "%0d" ∷ tree.Expr.Post (root.Plain (name (at 0 1 292) "k")) (tree.Member (name (at 0 1 294) "num") (tree.Call (at 0 1 297) tree.NoExpr tree.NoSuffix)) ∷ []))) ∷ [])) None)) ∷ []) None ∷ []

t10_seen : seen_in (Listed []) (Listed []) (elaborated t10 [] None) 24 ≡ Ran (record { log = lines ("a" ∷ "b" ∷ "7 1 2" ∷ "0" ∷ []); wave = lines ("$timescale 1ns $end" ∷ "$scope module t $end" ∷ "$var reg 32 ! i $end" ∷ "$upscope $end" ∷ "$enddefinitions $end" ∷ "#0" ∷ "$dumpvars" ∷ "b111 !" ∷ "$end" ∷ []); outcome = Done; time = 0; steps = 21; race = Some (10, at 0 1 15) })
unfolding symbols_of word_of
t10_seen = refl

-- module t; function int f(int n); f = n; if (n > 1) f = n * f(n - 1); endfunction initial $display("%0d", f(4)); endmodule
abbrev t11 : List Description
t11 = module_ (at 0 1 1) life.Unwritten (name (at 0 1 8) "t") None [] (items.Routine (routine (head (at 0 1 11) life.Unwritten (units.Returns.Value (types.Written (types.Atom (at 0 1 20) atom_word.Int sign.Unwritten))) (name (at 0 1 24) "f") (argument None (types.Written (types.Atom (at 0 1 26) atom_word.Int sign.Unwritten)) (name (at 0 1 30) "n") None ∷ [])) [] (stmts.Statement (at 0 1 34) None (blocking (target (at 0 1 34) "f") None (stmts.Value (plain (at 0 1 38) "n"))) ∷ stmts.Statement (at 0 1 41) None (stmts.If (tree.Binary binary_word.Greater (at 0 1 47) (plain (at 0 1 45) "n") (number (at 0 1 49) "1")) (stmts.Statement (at 0 1 52) None (blocking (target (at 0 1 52) "f") None (stmts.Value (tree.Binary binary_word.Multiply (at 0 1 58) (plain (at 0 1 56) "n") (tree.Expr.Post (root.Plain (name (at 0 1 60) "f")) (tree.Call (at 0 1 61) (expressions (tree.Binary binary_word.Minus (at 0 1 64) (plain (at 0 1 62) "n") (number (at 0 1 66) "1") ∷ [])) tree.NoSuffix))))))) ∷ []) None) ∷ procedure (at 0 1 82) procedure_word.Initial (stmts.Statement (at 0 1 90) None (stmts.Call (system (at 0 1 90) "$display" (text (at 0 1 99) "%0d" ∷ tree.Expr.Post (root.Plain (name (at 0 1 106) "f")) (tree.Call (at 0 1 107) (expressions (number (at 0 1 108) "4" ∷ [])) tree.NoSuffix) ∷ [])))) ∷ []) None ∷ []

t11_seen : seen_in (Listed []) (Listed []) (elaborated t11 [] None) 26 ≡ Ran (record { log = lines ("1" ∷ []); wave = lines ("$timescale 1ns $end" ∷ "$scope module t $end" ∷ "$upscope $end" ∷ "$enddefinitions $end" ∷ "#0" ∷ "$dumpvars" ∷ "$end" ∷ []); outcome = Done; time = 0; steps = 23; race = Some (7, at 0 1 24) })
unfolding symbols_of word_of
t11_seen = refl

-- module t; function automatic int f(int n); f = n; if (n > 1) f = n * f(n - 1); endfunction initial $display("%0d", f(4)); endmodule
abbrev t12 : List Description
t12 = module_ (at 0 1 1) life.Unwritten (name (at 0 1 8) "t") None [] (items.Routine (routine (head (at 0 1 11) life.Automatic (units.Returns.Value (types.Written (types.Atom (at 0 1 30) atom_word.Int sign.Unwritten))) (name (at 0 1 34) "f") (argument None (types.Written (types.Atom (at 0 1 36) atom_word.Int sign.Unwritten)) (name (at 0 1 40) "n") None ∷ [])) [] (stmts.Statement (at 0 1 44) None (blocking (target (at 0 1 44) "f") None (stmts.Value (plain (at 0 1 48) "n"))) ∷ stmts.Statement (at 0 1 51) None (stmts.If (tree.Binary binary_word.Greater (at 0 1 57) (plain (at 0 1 55) "n") (number (at 0 1 59) "1")) (stmts.Statement (at 0 1 62) None (blocking (target (at 0 1 62) "f") None (stmts.Value (tree.Binary binary_word.Multiply (at 0 1 68) (plain (at 0 1 66) "n") (tree.Expr.Post (root.Plain (name (at 0 1 70) "f")) (tree.Call (at 0 1 71) (expressions (tree.Binary binary_word.Minus (at 0 1 74) (plain (at 0 1 72) "n") (number (at 0 1 76) "1") ∷ [])) tree.NoSuffix))))))) ∷ []) None) ∷ procedure (at 0 1 92) procedure_word.Initial (stmts.Statement (at 0 1 100) None (stmts.Call (system (at 0 1 100) "$display" (text (at 0 1 109) "%0d" ∷ tree.Expr.Post (root.Plain (name (at 0 1 116) "f")) (tree.Call (at 0 1 117) (expressions (number (at 0 1 118) "4" ∷ [])) tree.NoSuffix) ∷ [])))) ∷ []) None ∷ []

t12_seen : seen_in (Listed []) (Listed []) (elaborated t12 [] None) 26 ≡ Ran (record { log = lines ("24" ∷ []); wave = lines ("$timescale 1ns $end" ∷ "$scope module t $end" ∷ "$upscope $end" ∷ "$enddefinitions $end" ∷ "#0" ∷ "$dumpvars" ∷ "$end" ∷ []); outcome = Done; time = 0; steps = 23; race = Some (7, at 0 1 34) })
unfolding symbols_of word_of
t12_seen = refl

-- module t; function automatic int sum(input int a, b = 3, output int c); c = a - b; return a + b; endfunction int x, y; initial begin x = sum(7, 2, y) + 1; $display("%0d %0d", x, y); end endmodule
abbrev t13 : List Description
t13 = module_ (at 0 1 1) life.Unwritten (name (at 0 1 8) "t") None [] (items.Routine (routine (head (at 0 1 11) life.Automatic (units.Returns.Value (types.Written (types.Atom (at 0 1 30) atom_word.Int sign.Unwritten))) (name (at 0 1 34) "sum") (argument (Some direction.Input) (types.Written (types.Atom (at 0 1 44) atom_word.Int sign.Unwritten)) (name (at 0 1 48) "a") None ∷ argument None types.Unwritten (name (at 0 1 51) "b") (Some (number (at 0 1 55) "3")) ∷ argument (Some direction.Output) (types.Written (types.Atom (at 0 1 65) atom_word.Int sign.Unwritten)) (name (at 0 1 69) "c") None ∷ [])) [] (stmts.Statement (at 0 1 73) None (blocking (target (at 0 1 73) "c") None (stmts.Value (tree.Binary binary_word.Minus (at 0 1 79) (plain (at 0 1 77) "a") (plain (at 0 1 81) "b")))) ∷ stmts.Statement (at 0 1 84) None (stmts.Return (Some (tree.Binary binary_word.Plus (at 0 1 93) (plain (at 0 1 91) "a") (plain (at 0 1 95) "b")))) ∷ []) None) ∷ items.Decl (decl life.Unwritten (types.Atom (at 0 1 110) atom_word.Int sign.Unwritten) (declarator (name (at 0 1 114) "x") None None ∷ declarator (name (at 0 1 117) "y") None None ∷ [])) ∷ procedure (at 0 1 120) procedure_word.Initial (stmts.Statement (at 0 1 128) None (stmts.Block None [] (statements (stmts.Statement (at 0 1 134) None (blocking (target (at 0 1 134) "x") None (stmts.Value (tree.Binary binary_word.Plus (at 0 1 151) (tree.Expr.Post (root.Plain (name (at 0 1 138) "sum")) (tree.Call (at 0 1 141) (expressions (number (at 0 1 142) "7" ∷ number (at 0 1 145) "2" ∷ plain (at 0 1 148) "y" ∷ [])) tree.NoSuffix)) (number (at 0 1 153) "1")))) ∷ stmts.Statement (at 0 1 156) None (stmts.Call (system (at 0 1 156) "$display" (text (at 0 1 165) "%0d %0d" ∷ plain (at 0 1 176) "x" ∷ plain (at 0 1 179) "y" ∷ []))) ∷ [])) None)) ∷ []) None ∷ []

t13_seen : seen_in (Listed []) (Listed []) (elaborated t13 [] None) 13 ≡ Ran (record { log = lines ("10 5" ∷ []); wave = lines ("$timescale 1ns $end" ∷ "$scope module t $end" ∷ "$var reg 32 ! x $end" ∷ "$var reg 32 \" y $end" ∷ "$upscope $end" ∷ "$enddefinitions $end" ∷ "#0" ∷ "$dumpvars" ∷ "b1010 !" ∷ "b101 \"" ∷ "$end" ∷ []); outcome = Done; time = 0; steps = 10; race = Some (7, at 0 1 34) })
unfolding symbols_of word_of
t13_seen = refl

-- module t; task automatic swap(inout int a, b); int t; t = a; a = b; b = t; endtask int x = 1, y = 2; initial begin swap(x, y); $display("%0d %0d", x, y); end endmodule
abbrev t14 : List Description
t14 = module_ (at 0 1 1) life.Unwritten (name (at 0 1 8) "t") None [] (items.Routine (routine (head (at 0 1 11) life.Automatic units.Task (name (at 0 1 26) "swap") (argument (Some direction.Inout) (types.Written (types.Atom (at 0 1 37) atom_word.Int sign.Unwritten)) (name (at 0 1 41) "a") None ∷ argument None types.Unwritten (name (at 0 1 44) "b") None ∷ [])) (decl life.Unwritten (types.Atom (at 0 1 48) atom_word.Int sign.Unwritten) (declarator (name (at 0 1 52) "t") None None ∷ []) ∷ []) (stmts.Statement (at 0 1 55) None (blocking (target (at 0 1 55) "t") None (stmts.Value (plain (at 0 1 59) "a"))) ∷ stmts.Statement (at 0 1 62) None (blocking (target (at 0 1 62) "a") None (stmts.Value (plain (at 0 1 66) "b"))) ∷ stmts.Statement (at 0 1 69) None (blocking (target (at 0 1 69) "b") None (stmts.Value (plain (at 0 1 73) "t"))) ∷ []) None) ∷ items.Decl (decl life.Unwritten (types.Atom (at 0 1 84) atom_word.Int sign.Unwritten) (declarator (name (at 0 1 88) "x") None (Some (stmts.Value (number (at 0 1 92) "1"))) ∷ declarator (name (at 0 1 95) "y") None (Some (stmts.Value (number (at 0 1 99) "2"))) ∷ [])) ∷ procedure (at 0 1 102) procedure_word.Initial (stmts.Statement (at 0 1 110) None (stmts.Block None [] (statements (stmts.Statement (at 0 1 116) None (stmts.Call (tree.Expr.Post (root.Plain (name (at 0 1 116) "swap")) (tree.Call (at 0 1 120) (expressions (plain (at 0 1 121) "x" ∷ plain (at 0 1 124) "y" ∷ [])) tree.NoSuffix))) ∷ stmts.Statement (at 0 1 128) None (stmts.Call (system (at 0 1 128) "$display" (text (at 0 1 137) "%0d %0d" ∷ plain (at 0 1 148) "x" ∷ plain (at 0 1 151) "y" ∷ []))) ∷ [])) None)) ∷ []) None ∷ []

t14_seen : seen_in (Listed []) (Listed []) (elaborated t14 [] None) 13 ≡ Ran (record { log = lines ("2 1" ∷ []); wave = lines ("$timescale 1ns $end" ∷ "$scope module t $end" ∷ "$var reg 32 ! x $end" ∷ "$var reg 32 \" y $end" ∷ "$upscope $end" ∷ "$enddefinitions $end" ∷ "#0" ∷ "$dumpvars" ∷ "b10 !" ∷ "b1 \"" ∷ "$end" ∷ []); outcome = Done; time = 0; steps = 10; race = Some (8, at 0 1 102) })
unfolding symbols_of word_of
t14_seen = refl

-- module t; int i; task automatic w(output int x); i = 1; x = 5; endtask int a[2]; initial begin w(a[i]); $display("%0d %0d", a[0], a[1]); end endmodule
abbrev t15 : List Description
t15 = module_ (at 0 1 1) life.Unwritten (name (at 0 1 8) "t") None [] (items.Decl (decl life.Unwritten (types.Atom (at 0 1 11) atom_word.Int sign.Unwritten) (declarator (name (at 0 1 15) "i") None None ∷ [])) ∷ items.Routine (routine (head (at 0 1 18) life.Automatic units.Task (name (at 0 1 33) "w") (argument (Some direction.Output) (types.Written (types.Atom (at 0 1 42) atom_word.Int sign.Unwritten)) (name (at 0 1 46) "x") None ∷ [])) [] (stmts.Statement (at 0 1 50) None (blocking (target (at 0 1 50) "i") None (stmts.Value (number (at 0 1 54) "1"))) ∷ stmts.Statement (at 0 1 57) None (blocking (target (at 0 1 57) "x") None (stmts.Value (number (at 0 1 61) "5"))) ∷ []) None) ∷ items.Decl (decl life.Unwritten (types.Atom (at 0 1 72) atom_word.Int sign.Unwritten) (declarator (name (at 0 1 76) "a") (Some (stmts.Size (at 0 1 77) (number (at 0 1 78) "2"))) None ∷ [])) ∷ procedure (at 0 1 82) procedure_word.Initial (stmts.Statement (at 0 1 90) None (stmts.Block None [] (statements (stmts.Statement (at 0 1 96) None (stmts.Call (tree.Expr.Post (root.Plain (name (at 0 1 96) "w")) (tree.Call (at 0 1 97) (expressions (tree.Expr.Post (root.Plain (name (at 0 1 98) "a")) (tree.Select (at 0 1 99) (plain (at 0 1 100) "i") tree.NoSuffix) ∷ [])) tree.NoSuffix))) ∷ stmts.Statement (at 0 1 105) None (stmts.Call (system (at 0 1 105) "$display" (text (at 0 1 114) "%0d %0d" ∷ tree.Expr.Post (root.Plain (name (at 0 1 125) "a")) (tree.Select (at 0 1 126) (number (at 0 1 127) "0") tree.NoSuffix) ∷ tree.Expr.Post (root.Plain (name (at 0 1 131) "a")) (tree.Select (at 0 1 132) (number (at 0 1 133) "1") tree.NoSuffix) ∷ []))) ∷ [])) None)) ∷ []) None ∷ []

t15_seen : seen_in (Listed []) (Listed []) (elaborated t15 [] None) 12 ≡ Ran (record { log = lines ("0 5" ∷ []); wave = lines ("$timescale 1ns $end" ∷ "$scope module t $end" ∷ "$var reg 32 ! i $end" ∷ "$upscope $end" ∷ "$enddefinitions $end" ∷ "#0" ∷ "$dumpvars" ∷ "b1 !" ∷ "$end" ∷ []); outcome = Done; time = 0; steps = 9; race = Some (8, at 0 1 82) })
unfolding symbols_of word_of
t15_seen = refl

-- module t; initial begin : b static int n = 4; automatic int m = n + 1; begin int k; k = m; $display("%0d %0d", n, k); end end endmodule
abbrev t16 : List Description
t16 = module_ (at 0 1 1) life.Unwritten (name (at 0 1 8) "t") None [] (procedure (at 0 1 11) procedure_word.Initial (stmts.Statement (at 0 1 19) None (stmts.Block (Some (name (at 0 1 27) "b")) (decl life.Static (types.Atom (at 0 1 36) atom_word.Int sign.Unwritten) (declarator (name (at 0 1 40) "n") None (Some (stmts.Value (number (at 0 1 44) "4"))) ∷ []) ∷ decl life.Automatic (types.Atom (at 0 1 57) atom_word.Int sign.Unwritten) (declarator (name (at 0 1 61) "m") None (Some (stmts.Value (tree.Binary binary_word.Plus (at 0 1 67) (plain (at 0 1 65) "n") (number (at 0 1 69) "1")))) ∷ []) ∷ []) (statements (stmts.Statement (at 0 1 72) None (stmts.Block None (decl life.Unwritten (types.Atom (at 0 1 78) atom_word.Int sign.Unwritten) (declarator (name (at 0 1 82) "k") None None ∷ []) ∷ []) (statements (stmts.Statement (at 0 1 85) None (blocking (target (at 0 1 85) "k") None (stmts.Value (plain (at 0 1 89) "m"))) ∷ stmts.Statement (at 0 1 92) None (stmts.Call (system (at 0 1 92) "$display" (text (at 0 1 101) "%0d %0d" ∷ plain (at 0 1 112) "n" ∷ plain (at 0 1 115) "k" ∷ []))) ∷ [])) None) ∷ [])) None)) ∷ []) None ∷ []

t16_seen : seen_in (Listed []) (Listed []) (elaborated t16 [] None) 11 ≡ Ran (record { log = lines ("4 5" ∷ []); wave = lines ("$timescale 1ns $end" ∷ "$scope module t $end" ∷ "$upscope $end" ∷ "$enddefinitions $end" ∷ "#0" ∷ "$dumpvars" ∷ "$end" ∷ []); outcome = Done; time = 0; steps = 8; race = Some (8, at 0 1 11) })
unfolding symbols_of word_of
t16_seen = refl

-- module t; initial for (int i = 0; i < 3; i++) begin int k; k = k + 1; $display("%0d %0d", i, k); if (i == 1) continue; if (k > 2) break; end endmodule
abbrev t17 : List Description
t17 = module_ (at 0 1 1) life.Unwritten (name (at 0 1 8) "t") None [] (procedure (at 0 1 11) procedure_word.Initial (stmts.Statement (at 0 1 19) None (stmts.For (stmts.Declare (types.Atom (at 0 1 24) atom_word.Int sign.Unwritten) (name (at 0 1 28) "i") (number (at 0 1 32) "0")) (tree.Binary binary_word.Less (at 0 1 37) (plain (at 0 1 35) "i") (number (at 0 1 39) "3")) (stmts.ForStep.Step (at 0 1 42) (target (at 0 1 42) "i") step_word.Increment) (stmts.Statement (at 0 1 47) None (stmts.Block None (decl life.Unwritten (types.Atom (at 0 1 53) atom_word.Int sign.Unwritten) (declarator (name (at 0 1 57) "k") None None ∷ []) ∷ []) (statements (stmts.Statement (at 0 1 60) None (blocking (target (at 0 1 60) "k") None (stmts.Value (tree.Binary binary_word.Plus (at 0 1 66) (plain (at 0 1 64) "k") (number (at 0 1 68) "1")))) ∷ stmts.Statement (at 0 1 71) None (stmts.Call (system (at 0 1 71) "$display" (text (at 0 1 80) "%0d %0d" ∷ plain (at 0 1 91) "i" ∷ plain (at 0 1 94) "k" ∷ []))) ∷ stmts.Statement (at 0 1 98) None (stmts.If (tree.Binary binary_word.Equal (at 0 1 104) (plain (at 0 1 102) "i") (number (at 0 1 107) "1")) (stmts.Statement (at 0 1 110) None stmts.Continue)) ∷ stmts.Statement (at 0 1 120) None (stmts.If (tree.Binary binary_word.Greater (at 0 1 126) (plain (at 0 1 124) "k") (number (at 0 1 128) "2")) (stmts.Statement (at 0 1 131) None stmts.Break)) ∷ [])) None)))) ∷ []) None ∷ []

t17_seen : seen_in (Listed []) (Listed []) (elaborated t17 [] None) 29 ≡ Ran (record { log = lines ("0 1" ∷ "1 2" ∷ "2 3" ∷ []); wave = lines ("$timescale 1ns $end" ∷ "$scope module t $end" ∷ "$upscope $end" ∷ "$enddefinitions $end" ∷ "#0" ∷ "$dumpvars" ∷ "$end" ∷ []); outcome = Done; time = 0; steps = 26; race = Some (8, at 0 1 11) })
unfolding symbols_of word_of
t17_seen = refl

-- module t; logic [3:0] a, b; logic c; always @* c = a[1] & b[0]; initial begin a = 0; b = 1; #1 a[1] = 1; #1 $display("%b", c); end endmodule
abbrev t18 : List Description
t18 = module_ (at 0 1 1) life.Unwritten (name (at 0 1 8) "t") None [] (items.Decl (decl life.Unwritten (types.WrittenType.Vector (at 0 1 11) vector_word.Logic sign.Unwritten (Some (range (at 0 1 17) (number (at 0 1 18) "3") (number (at 0 1 20) "0")))) (declarator (name (at 0 1 23) "a") None None ∷ declarator (name (at 0 1 26) "b") None None ∷ [])) ∷ items.Decl (decl life.Unwritten (types.WrittenType.Vector (at 0 1 29) vector_word.Logic sign.Unwritten None) (declarator (name (at 0 1 35) "c") None None ∷ [])) ∷ procedure (at 0 1 38) procedure_word.Always (stmts.Statement (at 0 1 45) None (stmts.On stmts.Star (stmts.Statement (at 0 1 48) None (blocking (target (at 0 1 48) "c") None (stmts.Value (tree.Binary binary_word.And (at 0 1 57) (tree.Expr.Post (root.Plain (name (at 0 1 52) "a")) (tree.Select (at 0 1 53) (number (at 0 1 54) "1") tree.NoSuffix)) (tree.Expr.Post (root.Plain (name (at 0 1 59) "b")) (tree.Select (at 0 1 60) (number (at 0 1 61) "0") tree.NoSuffix)))))))) ∷ procedure (at 0 1 65) procedure_word.Initial (stmts.Statement (at 0 1 73) None (stmts.Block None [] (statements (stmts.Statement (at 0 1 79) None (blocking (target (at 0 1 79) "a") None (stmts.Value (number (at 0 1 83) "0"))) ∷ stmts.Statement (at 0 1 86) None (blocking (target (at 0 1 86) "b") None (stmts.Value (number (at 0 1 90) "1"))) ∷ stmts.Statement (at 0 1 93) None (stmts.After (delay (at 0 1 93) (number (at 0 1 94) "1")) (stmts.Statement (at 0 1 96) None (blocking (tree.Lval.Post (root.Plain (name (at 0 1 96) "a")) (tree.Select (at 0 1 97) (number (at 0 1 98) "1") tree.NoSuffix)) None (stmts.Value (number (at 0 1 103) "1"))))) ∷ stmts.Statement (at 0 1 106) None (stmts.After (delay (at 0 1 106) (number (at 0 1 107) "1")) (stmts.Statement (at 0 1 109) None (stmts.Call (system (at 0 1 109) "$display" (text (at 0 1 118) "%b" ∷ plain (at 0 1 124) "c" ∷ []))))) ∷ [])) None)) ∷ []) None ∷ []

t18_seen : seen_in (Listed []) (Listed []) (elaborated t18 [] None) 29 ≡ Ran (record { log = lines ("1" ∷ []); wave = lines ("$timescale 1ns $end" ∷ "$scope module t $end" ∷ "$var reg 4 ! a [3:0] $end" ∷ "$var reg 4 \" b [3:0] $end" ∷ "$var reg 1 # c $end" ∷ "$upscope $end" ∷ "$enddefinitions $end" ∷ "#0" ∷ "$dumpvars" ∷ "b0 !" ∷ "b1 \"" ∷ "0#" ∷ "$end" ∷ "#1" ∷ "b10 !" ∷ "1#" ∷ []); outcome = Done; time = 2; steps = 26; race = Some (8, at 0 1 38) })
unfolding symbols_of word_of
t18_seen = refl

-- module t; logic [3:0] a, y, z; function automatic logic [3:0] inc(logic [3:0] x); return x + z; endfunction always_comb begin y = inc(a); y[0] = 1; end initial begin a = 4; z = 1; #1 $display("%0d", y); z = 3; #1 $display("%0d", y); end endmodule
abbrev t19 : List Description
t19 = module_ (at 0 1 1) life.Unwritten (name (at 0 1 8) "t") None [] (items.Decl (decl life.Unwritten (types.WrittenType.Vector (at 0 1 11) vector_word.Logic sign.Unwritten (Some (range (at 0 1 17) (number (at 0 1 18) "3") (number (at 0 1 20) "0")))) (declarator (name (at 0 1 23) "a") None None ∷ declarator (name (at 0 1 26) "y") None None ∷ declarator (name (at 0 1 29) "z") None None ∷ [])) ∷ items.Routine (routine (head (at 0 1 32) life.Automatic (units.Returns.Value (types.Written (types.WrittenType.Vector (at 0 1 51) vector_word.Logic sign.Unwritten (Some (range (at 0 1 57) (number (at 0 1 58) "3") (number (at 0 1 60) "0")))))) (name (at 0 1 63) "inc") (argument None (types.Written (types.WrittenType.Vector (at 0 1 67) vector_word.Logic sign.Unwritten (Some (range (at 0 1 73) (number (at 0 1 74) "3") (number (at 0 1 76) "0"))))) (name (at 0 1 79) "x") None ∷ [])) [] (stmts.Statement (at 0 1 83) None (stmts.Return (Some (tree.Binary binary_word.Plus (at 0 1 92) (plain (at 0 1 90) "x") (plain (at 0 1 94) "z")))) ∷ []) None) ∷ procedure (at 0 1 109) procedure_word.AlwaysComb (stmts.Statement (at 0 1 121) None (stmts.Block None [] (statements (stmts.Statement (at 0 1 127) None (blocking (target (at 0 1 127) "y") None (stmts.Value (tree.Expr.Post (root.Plain (name (at 0 1 131) "inc")) (tree.Call (at 0 1 134) (expressions (plain (at 0 1 135) "a" ∷ [])) tree.NoSuffix)))) ∷ stmts.Statement (at 0 1 139) None (blocking (tree.Lval.Post (root.Plain (name (at 0 1 139) "y")) (tree.Select (at 0 1 140) (number (at 0 1 141) "0") tree.NoSuffix)) None (stmts.Value (number (at 0 1 146) "1"))) ∷ [])) None)) ∷ procedure (at 0 1 153) procedure_word.Initial (stmts.Statement (at 0 1 161) None (stmts.Block None [] (statements (stmts.Statement (at 0 1 167) None (blocking (target (at 0 1 167) "a") None (stmts.Value (number (at 0 1 171) "4"))) ∷ stmts.Statement (at 0 1 174) None (blocking (target (at 0 1 174) "z") None (stmts.Value (number (at 0 1 178) "1"))) ∷ stmts.Statement (at 0 1 181) None (stmts.After (delay (at 0 1 181) (number (at 0 1 182) "1")) (stmts.Statement (at 0 1 184) None (stmts.Call (system (at 0 1 184) "$display" (text (at 0 1 193) "%0d" ∷ plain (at 0 1 200) "y" ∷ []))))) ∷ stmts.Statement (at 0 1 204) None (blocking (target (at 0 1 204) "z") None (stmts.Value (number (at 0 1 208) "3"))) ∷ stmts.Statement (at 0 1 211) None (stmts.After (delay (at 0 1 211) (number (at 0 1 212) "1")) (stmts.Statement (at 0 1 214) None (stmts.Call (system (at 0 1 214) "$display" (text (at 0 1 223) "%0d" ∷ plain (at 0 1 230) "y" ∷ []))))) ∷ [])) None)) ∷ []) None ∷ []

t19_seen : seen_in (Listed []) (Listed []) (elaborated t19 [] None) 36 ≡ Ran (record { log = lines ("5" ∷ "7" ∷ []); wave = lines ("$timescale 1ns $end" ∷ "$scope module t $end" ∷ "$var reg 4 ! a [3:0] $end" ∷ "$var reg 4 \" y [3:0] $end" ∷ "$var reg 4 # z [3:0] $end" ∷ "$upscope $end" ∷ "$enddefinitions $end" ∷ "#0" ∷ "$dumpvars" ∷ "b100 !" ∷ "b101 \"" ∷ "b1 #" ∷ "$end" ∷ "#1" ∷ "b111 \"" ∷ "b11 #" ∷ []); outcome = Done; time = 2; steps = 33; race = Some (7, at 0 1 63) })
unfolding symbols_of word_of
t19_seen = refl

-- module t; event e; initial begin #1 -> e; end initial begin @e $display("e %0t", $time); wait (e.triggered) $display("t"); end endmodule
abbrev t20 : List Description
t20 = module_ (at 0 1 1) life.Unwritten (name (at 0 1 8) "t") None [] (items.Decl (decl life.Unwritten (types.Event (at 0 1 11)) (declarator (name (at 0 1 17) "e") None None ∷ [])) ∷ procedure (at 0 1 20) procedure_word.Initial (stmts.Statement (at 0 1 28) None (stmts.Block None [] (statements (stmts.Statement (at 0 1 34) None (stmts.After (delay (at 0 1 34) (number (at 0 1 35) "1")) (stmts.Statement (at 0 1 37) None (stmts.Trigger (target (at 0 1 40) "e")))) ∷ [])) None)) ∷ procedure (at 0 1 47) procedure_word.Initial (stmts.Statement (at 0 1 55) None (stmts.Block None [] (statements (stmts.Statement (at 0 1 61) None (stmts.On (stmts.Event.Named (name (at 0 1 62) "e")) (stmts.Statement (at 0 1 64) None (stmts.Call (system (at 0 1 64) "$display" (text (at 0 1 73) "e %0t" ∷ tree.System (name (at 0 1 82) "$time") tree.Unwritten ∷ []))))) ∷ stmts.Statement (at 0 1 90) None (stmts.Wait (at 0 1 90) (tree.Expr.Post (root.Plain (name (at 0 1 96) "e")) (tree.Member (name (at 0 1 98) "triggered") tree.NoSuffix)) (stmts.Statement (at 0 1 109) None (stmts.Call (system (at 0 1 109) "$display" (text (at 0 1 118) "t" ∷ []))))) ∷ [])) None)) ∷ []) None ∷ []

t20_seen : seen_in (Listed []) (Listed []) (elaborated t20 [] None) 20 ≡ Ran (record { log = lines ("e 1" ∷ "t" ∷ []); wave = lines ("$timescale 1ns $end" ∷ "$scope module t $end" ∷ "$upscope $end" ∷ "$enddefinitions $end" ∷ "#0" ∷ "$dumpvars" ∷ "$end" ∷ []); outcome = Done; time = 1; steps = 17; race = Some (10, at 0 1 17) })
unfolding symbols_of word_of
t20_seen = refl

-- module t; typedef enum {RED, GREEN = 4, BLUE} c; c x; initial begin x = GREEN; $display("%s %0d", x.name(), x); x = BLUE; $display("%s", x.name); x = c'(9); $display("[%s]", x.name()); end endmodule
abbrev t21 : List Description
t21 = module_ (at 0 1 1) life.Unwritten (name (at 0 1 8) "t") None [] (items.Typedef (typedef (types.Enum (at 0 1 19) (enum_item (name (at 0 1 25) "RED") None ∷ enum_item (name (at 0 1 30) "GREEN") (Some (number (at 0 1 38) "4")) ∷ enum_item (name (at 0 1 41) "BLUE") None ∷ [])) (name (at 0 1 47) "c")) ∷ items.Decl (decl life.Unwritten (types.Named (name (at 0 1 50) "c")) (declarator (name (at 0 1 52) "x") None None ∷ [])) ∷ procedure (at 0 1 55) procedure_word.Initial (stmts.Statement (at 0 1 63) None (stmts.Block None [] (statements (stmts.Statement (at 0 1 69) None (blocking (target (at 0 1 69) "x") None (stmts.Value (plain (at 0 1 73) "GREEN"))) ∷ stmts.Statement (at 0 1 80) None (stmts.Call (system (at 0 1 80) "$display" (text (at 0 1 89) "%s %0d" ∷ tree.Expr.Post (root.Plain (name (at 0 1 99) "x")) (tree.Member (name (at 0 1 101) "name") (tree.Call (at 0 1 105) tree.NoExpr tree.NoSuffix)) ∷ plain (at 0 1 109) "x" ∷ []))) ∷ stmts.Statement (at 0 1 113) None (blocking (target (at 0 1 113) "x") None (stmts.Value (plain (at 0 1 117) "BLUE"))) ∷ stmts.Statement (at 0 1 123) None (stmts.Call (system (at 0 1 123) "$display" (text (at 0 1 132) "%s" ∷ tree.Expr.Post (root.Plain (name (at 0 1 138) "x")) (tree.Member (name (at 0 1 140) "name") tree.NoSuffix) ∷ []))) ∷ stmts.Statement (at 0 1 147) None (blocking (target (at 0 1 147) "x") None (stmts.Value (tree.Cast (cast.Named (name (at 0 1 151) "c")) (number (at 0 1 154) "9")))) ∷ stmts.Statement (at 0 1 158) None (stmts.Call (system (at 0 1 158) "$display" (text (at 0 1 167) "[%s]" ∷ tree.Expr.Post (root.Plain (name (at 0 1 175) "x")) (tree.Member (name (at 0 1 177) "name") (tree.Call (at 0 1 181) tree.NoExpr tree.NoSuffix)) ∷ []))) ∷ [])) None)) ∷ []) None ∷ []

t21_seen : seen_in (Listed []) (Listed []) (elaborated t21 [] None) 13 ≡ Ran (record { log = lines ("GREEN 4" ∷ "BLUE" ∷ "[]" ∷ []); wave = lines ("$timescale 1ns $end" ∷ "$scope module t $end" ∷ "$var reg 32 ! x $end" ∷ "$upscope $end" ∷ "$enddefinitions $end" ∷ "#0" ∷ "$dumpvars" ∷ "b1001 !" ∷ "$end" ∷ []); outcome = Done; time = 0; steps = 10; race = Some (8, at 0 1 55) })
unfolding symbols_of word_of
t21_seen = refl

-- module t; string s; initial begin s = $sformatf("%0d-%s-%h", 12, "ab", 8'hfe); $display("%s %0d", s, s.len()); s = {s, "!"}; $display("%s", {2{s}}); end endmodule
abbrev t22 : List Description
t22 = module_ (at 0 1 1) life.Unwritten (name (at 0 1 8) "t") None [] (items.Decl (decl life.Unwritten (types.Text (at 0 1 11)) (declarator (name (at 0 1 18) "s") None None ∷ [])) ∷ procedure (at 0 1 21) procedure_word.Initial (stmts.Statement (at 0 1 29) None (stmts.Block None [] (statements (stmts.Statement (at 0 1 35) None (blocking (target (at 0 1 35) "s") None (stmts.Value (system (at 0 1 39) "$sformatf" (text (at 0 1 49) "%0d-%s-%h" ∷ number (at 0 1 62) "12" ∷ text (at 0 1 66) "ab" ∷ number (at 0 1 72) "8'hfe" ∷ [])))) ∷ stmts.Statement (at 0 1 80) None (stmts.Call (system (at 0 1 80) "$display" (text (at 0 1 89) "%s %0d" ∷ plain (at 0 1 99) "s" ∷ tree.Expr.Post (root.Plain (name (at 0 1 102) "s")) (tree.Member (name (at 0 1 104) "len") (tree.Call (at 0 1 107) tree.NoExpr tree.NoSuffix)) ∷ []))) ∷ stmts.Statement (at 0 1 112) None (blocking (target (at 0 1 112) "s") None (stmts.Value (tree.Expr.Join (at 0 1 116) (expressions (plain (at 0 1 117) "s" ∷ text (at 0 1 120) "!" ∷ []))))) ∷ stmts.Statement (at 0 1 126) None (stmts.Call (system (at 0 1 126) "$display" (text (at 0 1 135) "%s" ∷ tree.Repeat (at 0 1 141) (number (at 0 1 142) "2") (at 0 1 143) (expressions (plain (at 0 1 144) "s" ∷ [])) ∷ []))) ∷ [])) None)) ∷ []) None ∷ []

t22_seen : seen_in (Listed []) (Listed []) (elaborated t22 [] None) 11 ≡ Ran (record { log = lines ("12-ab-fe 8" ∷ "12-ab-fe!12-ab-fe!" ∷ []); wave = lines ("$timescale 1ns $end" ∷ "$scope module t $end" ∷ "$upscope $end" ∷ "$enddefinitions $end" ∷ "#0" ∷ "$dumpvars" ∷ "$end" ∷ []); outcome = Done; time = 0; steps = 8; race = Some (8, at 0 1 21) })
unfolding symbols_of word_of
t22_seen = refl

-- module t; logic [15:0] w; initial begin w = 4'd3 ** 2; $display("%0d", w); w = 2'd3 ** 3; $display("%0d", w); end endmodule
abbrev t23 : List Description
t23 = module_ (at 0 1 1) life.Unwritten (name (at 0 1 8) "t") None [] (items.Decl (decl life.Unwritten (types.WrittenType.Vector (at 0 1 11) vector_word.Logic sign.Unwritten (Some (range (at 0 1 17) (number (at 0 1 18) "15") (number (at 0 1 21) "0")))) (declarator (name (at 0 1 24) "w") None None ∷ [])) ∷ procedure (at 0 1 27) procedure_word.Initial (stmts.Statement (at 0 1 35) None (stmts.Block None [] (statements (stmts.Statement (at 0 1 41) None (blocking (target (at 0 1 41) "w") None (stmts.Value (tree.Binary binary_word.Power (at 0 1 50) (number (at 0 1 45) "4'd3") (number (at 0 1 53) "2")))) ∷ stmts.Statement (at 0 1 56) None (stmts.Call (system (at 0 1 56) "$display" (text (at 0 1 65) "%0d" ∷ plain (at 0 1 72) "w" ∷ []))) ∷ stmts.Statement (at 0 1 76) None (blocking (target (at 0 1 76) "w") None (stmts.Value (tree.Binary binary_word.Power (at 0 1 85) (number (at 0 1 80) "2'd3") (number (at 0 1 88) "3")))) ∷ stmts.Statement (at 0 1 91) None (stmts.Call (system (at 0 1 91) "$display" (text (at 0 1 100) "%0d" ∷ plain (at 0 1 107) "w" ∷ []))) ∷ [])) None)) ∷ []) None ∷ []

t23_seen : seen_in (Listed []) (Listed []) (elaborated t23 [] None) 11 ≡ Ran (record { log = lines ("9" ∷ "27" ∷ []); wave = lines ("$timescale 1ns $end" ∷ "$scope module t $end" ∷ "$var reg 16 ! w [15:0] $end" ∷ "$upscope $end" ∷ "$enddefinitions $end" ∷ "#0" ∷ "$dumpvars" ∷ "b11011 !" ∷ "$end" ∷ []); outcome = Done; time = 0; steps = 8; race = Some (8, at 0 1 27) })
unfolding symbols_of word_of
t23_seen = refl

-- module t; logic a; initial begin a = #3 1; $display("%0t", $time); a <= #2 0; #3 $display("%b", a); end endmodule
abbrev t24 : List Description
t24 = module_ (at 0 1 1) life.Unwritten (name (at 0 1 8) "t") None [] (items.Decl (decl life.Unwritten (types.WrittenType.Vector (at 0 1 11) vector_word.Logic sign.Unwritten None) (declarator (name (at 0 1 17) "a") None None ∷ [])) ∷ procedure (at 0 1 20) procedure_word.Initial (stmts.Statement (at 0 1 28) None (stmts.Block None [] (statements (stmts.Statement (at 0 1 34) None (blocking (target (at 0 1 34) "a") (Some (delay (at 0 1 38) (number (at 0 1 39) "3"))) (stmts.Value (number (at 0 1 41) "1"))) ∷ stmts.Statement (at 0 1 44) None (stmts.Call (system (at 0 1 44) "$display" (text (at 0 1 53) "%0t" ∷ tree.System (name (at 0 1 60) "$time") tree.Unwritten ∷ []))) ∷ stmts.Statement (at 0 1 68) None (nonblocking (target (at 0 1 68) "a") (Some (delay (at 0 1 73) (number (at 0 1 74) "2"))) (number (at 0 1 76) "0")) ∷ stmts.Statement (at 0 1 79) None (stmts.After (delay (at 0 1 79) (number (at 0 1 80) "3")) (stmts.Statement (at 0 1 82) None (stmts.Call (system (at 0 1 82) "$display" (text (at 0 1 91) "%b" ∷ plain (at 0 1 97) "a" ∷ []))))) ∷ [])) None)) ∷ []) None ∷ []

t24_seen : seen_in (Listed []) (Listed []) (elaborated t24 [] None) 26 ≡ Ran (record { log = lines ("3" ∷ "0" ∷ []); wave = lines ("$timescale 1ns $end" ∷ "$scope module t $end" ∷ "$var reg 1 ! a $end" ∷ "$upscope $end" ∷ "$enddefinitions $end" ∷ "#0" ∷ "$dumpvars" ∷ "x!" ∷ "$end" ∷ "#3" ∷ "1!" ∷ "#5" ∷ "0!" ∷ []); outcome = Done; time = 6; steps = 23; race = Some (8, at 0 1 20) })
unfolding symbols_of word_of
t24_seen = refl

-- module t; int a, b; initial begin {a[3:0], b} = {4'd5, 32'd6}; $display("%0d %0d", a, b); a[1 +: 2] = 3; b++; --a; a <<= 1; $display("%0d %0d", a, b); end endmodule
abbrev t25 : List Description
t25 = module_ (at 0 1 1) life.Unwritten (name (at 0 1 8) "t") None [] (items.Decl (decl life.Unwritten (types.Atom (at 0 1 11) atom_word.Int sign.Unwritten) (declarator (name (at 0 1 15) "a") None None ∷ declarator (name (at 0 1 18) "b") None None ∷ [])) ∷ procedure (at 0 1 21) procedure_word.Initial (stmts.Statement (at 0 1 29) None (stmts.Block None [] (statements (stmts.Statement (at 0 1 35) None (blocking (tree.Lval.Join (at 0 1 35) (targets (tree.Lval.Post (root.Plain (name (at 0 1 36) "a")) (tree.Part (at 0 1 37) part_word.Fixed (number (at 0 1 38) "3") (number (at 0 1 40) "0") tree.NoSuffix) ∷ target (at 0 1 44) "b" ∷ []))) None (stmts.Value (tree.Expr.Join (at 0 1 49) (expressions (number (at 0 1 50) "4'd5" ∷ number (at 0 1 56) "32'd6" ∷ []))))) ∷ stmts.Statement (at 0 1 64) None (stmts.Call (system (at 0 1 64) "$display" (text (at 0 1 73) "%0d %0d" ∷ plain (at 0 1 84) "a" ∷ plain (at 0 1 87) "b" ∷ []))) ∷ stmts.Statement (at 0 1 91) None (blocking (tree.Lval.Post (root.Plain (name (at 0 1 91) "a")) (tree.Part (at 0 1 92) part_word.Up (number (at 0 1 93) "1") (number (at 0 1 98) "2") tree.NoSuffix)) None (stmts.Value (number (at 0 1 103) "3"))) ∷ stmts.Statement (at 0 1 106) None (stmts.Body.Step (target (at 0 1 106) "b") step_word.Increment) ∷ stmts.Statement (at 0 1 111) None (stmts.Body.Step (target (at 0 1 113) "a") step_word.Decrement) ∷ stmts.Statement (at 0 1 116) None (stmts.Body.Operator (operated (target (at 0 1 116) "a") binary_word.ShiftLeft (number (at 0 1 122) "1"))) ∷ stmts.Statement (at 0 1 125) None (stmts.Call (system (at 0 1 125) "$display" (text (at 0 1 134) "%0d %0d" ∷ plain (at 0 1 145) "a" ∷ plain (at 0 1 148) "b" ∷ []))) ∷ [])) None)) ∷ []) None ∷ []

t25_seen : seen_in (Listed []) (Listed []) (elaborated t25 [] None) 14 ≡ Ran (record { log = lines ("5 6" ∷ "12 7" ∷ []); wave = lines ("$timescale 1ns $end" ∷ "$scope module t $end" ∷ "$var reg 32 ! a $end" ∷ "$var reg 32 \" b $end" ∷ "$upscope $end" ∷ "$enddefinitions $end" ∷ "#0" ∷ "$dumpvars" ∷ "b1100 !" ∷ "b111 \"" ∷ "$end" ∷ []); outcome = Done; time = 0; steps = 11; race = Some (8, at 0 1 21) })
unfolding symbols_of word_of
t25_seen = refl

-- module t; semaphore s = new(1); initial begin s.get(); $display("a"); #2 s.put(); end initial begin #1 s.get(1); $display("b %0t", $time); if (!s.try_get(1)) $display("c"); end endmodule
abbrev t26 : List Description
t26 = module_ (at 0 1 1) life.Unwritten (name (at 0 1 8) "t") None [] (items.Decl (decl life.Unwritten (types.Semaphore (at 0 1 11)) (declarator (name (at 0 1 21) "s") None (Some (stmts.New (at 0 1 25) (tree.Written (expressions (number (at 0 1 29) "1" ∷ []))))) ∷ [])) ∷ procedure (at 0 1 33) procedure_word.Initial (stmts.Statement (at 0 1 41) None (stmts.Block None [] (statements (stmts.Statement (at 0 1 47) None (stmts.Call (tree.Expr.Post (root.Plain (name (at 0 1 47) "s")) (tree.Member (name (at 0 1 49) "get") (tree.Call (at 0 1 52) tree.NoExpr tree.NoSuffix)))) ∷ stmts.Statement (at 0 1 56) None (stmts.Call (system (at 0 1 56) "$display" (text (at 0 1 65) "a" ∷ []))) ∷ stmts.Statement (at 0 1 71) None (stmts.After (delay (at 0 1 71) (number (at 0 1 72) "2")) (stmts.Statement (at 0 1 74) None (stmts.Call (tree.Expr.Post (root.Plain (name (at 0 1 74) "s")) (tree.Member (name (at 0 1 76) "put") (tree.Call (at 0 1 79) tree.NoExpr tree.NoSuffix)))))) ∷ [])) None)) ∷ procedure (at 0 1 87) procedure_word.Initial (stmts.Statement (at 0 1 95) None (stmts.Block None [] (statements (stmts.Statement (at 0 1 101) None (stmts.After (delay (at 0 1 101) (number (at 0 1 102) "1")) (stmts.Statement (at 0 1 104) None (stmts.Call (tree.Expr.Post (root.Plain (name (at 0 1 104) "s")) (tree.Member (name (at 0 1 106) "get") (tree.Call (at 0 1 109) (expressions (number (at 0 1 110) "1" ∷ [])) tree.NoSuffix)))))) ∷ stmts.Statement (at 0 1 114) None (stmts.Call (system (at 0 1 114) "$display" (text (at 0 1 123) "b %0t" ∷ tree.System (name (at 0 1 132) "$time") tree.Unwritten ∷ []))) ∷ stmts.Statement (at 0 1 140) None (stmts.If (tree.Unary (at 0 1 144) unary_word.Not (tree.Expr.Post (root.Plain (name (at 0 1 145) "s")) (tree.Member (name (at 0 1 147) "try_get") (tree.Call (at 0 1 154) (expressions (number (at 0 1 155) "1" ∷ [])) tree.NoSuffix)))) (stmts.Statement (at 0 1 159) None (stmts.Call (system (at 0 1 159) "$display" (text (at 0 1 168) "c" ∷ []))))) ∷ [])) None)) ∷ []) None ∷ []

t26_seen : seen_in (Listed []) (Listed []) (elaborated t26 [] None) 28 ≡ Ran (record { log = lines ("a" ∷ "b 2" ∷ "c" ∷ []); wave = lines ("$timescale 1ns $end" ∷ "$scope module t $end" ∷ "$upscope $end" ∷ "$enddefinitions $end" ∷ "#0" ∷ "$dumpvars" ∷ "$end" ∷ []); outcome = Done; time = 2; steps = 25; race = Some (10, at 0 1 21) })
unfolding symbols_of word_of
t26_seen = refl

-- module t; mailbox #(string) m = new; string x; initial begin m.put("hi"); m.peek(x); $display("%s %0d", x, m.num()); m.get(x); $display("%0d", m.try_get(x)); end endmodule
abbrev t27 : List Description
t27 = module_ (at 0 1 1) life.Unwritten (name (at 0 1 8) "t") None [] (items.Decl (decl life.Unwritten (types.MailboxOf (at 0 1 11) (types.Text (at 0 1 21))) (declarator (name (at 0 1 29) "m") None (Some (stmts.New (at 0 1 33) tree.Unwritten)) ∷ [])) ∷ items.Decl (decl life.Unwritten (types.Text (at 0 1 38)) (declarator (name (at 0 1 45) "x") None None ∷ [])) ∷ procedure (at 0 1 48) procedure_word.Initial (stmts.Statement (at 0 1 56) None (stmts.Block None [] (statements (stmts.Statement (at 0 1 62) None (stmts.Call (tree.Expr.Post (root.Plain (name (at 0 1 62) "m")) (tree.Member (name (at 0 1 64) "put") (tree.Call (at 0 1 67) (expressions (text (at 0 1 68) "hi" ∷ [])) tree.NoSuffix)))) ∷ stmts.Statement (at 0 1 75) None (stmts.Call (tree.Expr.Post (root.Plain (name (at 0 1 75) "m")) (tree.Member (name (at 0 1 77) "peek") (tree.Call (at 0 1 81) (expressions (plain (at 0 1 82) "x" ∷ [])) tree.NoSuffix)))) ∷ stmts.Statement (at 0 1 86) None (stmts.Call (system (at 0 1 86) "$display" (text (at 0 1 95) "%s %0d" ∷ plain (at 0 1 105) "x" ∷ tree.Expr.Post (root.Plain (name (at 0 1 108) "m")) (tree.Member (name (at 0 1 110) "num") (tree.Call (at 0 1 113) tree.NoExpr tree.NoSuffix)) ∷ []))) ∷ stmts.Statement (at 0 1 118) None (stmts.Call (tree.Expr.Post (root.Plain (name (at 0 1 118) "m")) (tree.Member (name (at 0 1 120) "get") (tree.Call (at 0 1 123) (expressions (plain (at 0 1 124) "x" ∷ [])) tree.NoSuffix)))) ∷ stmts.Statement (at 0 1 128) None (stmts.Call (system (at 0 1 128) "$display" (text (at 0 1 137) "%0d" ∷ tree.Expr.Post (root.Plain (name (at 0 1 144) "m")) (tree.Member (name (at 0 1 146) "try_get") (tree.Call (at 0 1 153) (expressions (plain (at 0 1 154) "x" ∷ [])) tree.NoSuffix)) ∷ []))) ∷ [])) None)) ∷ []) None ∷ []

t27_seen : seen_in (Listed []) (Listed []) (elaborated t27 [] None) 13 ≡ Ran (record { log = lines ("hi 1" ∷ "0" ∷ []); wave = lines ("$timescale 1ns $end" ∷ "$scope module t $end" ∷ "$upscope $end" ∷ "$enddefinitions $end" ∷ "#0" ∷ "$dumpvars" ∷ "$end" ∷ []); outcome = Done; time = 0; steps = 10; race = Some (10, at 0 1 29) })
unfolding symbols_of word_of
t27_seen = refl

-- class P; int v; function new(int a = 2); v = a; endfunction endclass class Q extends P; int w = v + 1; function new(); super.new(5); w++; endfunction endclass module t; Q q; P p; initial begin q = new; p = new; $display("%0d %0d %0d", q.v, q.w, p.v); p = new q; $display("%0d", p.v); end endmodule
abbrev t28 : List Description
t28 = descriptions.Item (items.Class (class_ (at 0 1 1) false (name (at 0 1 7) "P") None (property unqualified (decl life.Unwritten (types.Atom (at 0 1 10) atom_word.Int sign.Unwritten) (declarator (name (at 0 1 14) "v") None None ∷ [])) ∷ method unqualified (routine (head (at 0 1 17) life.Unwritten (units.Returns.Value types.Unwritten) (name (at 0 1 26) "new") (argument None (types.Written (types.Atom (at 0 1 30) atom_word.Int sign.Unwritten)) (name (at 0 1 34) "a") (Some (number (at 0 1 38) "2")) ∷ [])) [] (stmts.Statement (at 0 1 42) None (blocking (target (at 0 1 42) "v") None (stmts.Value (plain (at 0 1 46) "a"))) ∷ []) None) ∷ []) None)) ∷ descriptions.Item (items.Class (class_ (at 0 1 70) false (name (at 0 1 76) "Q") (Some (name (at 0 1 86) "P")) (property unqualified (decl life.Unwritten (types.Atom (at 0 1 89) atom_word.Int sign.Unwritten) (declarator (name (at 0 1 93) "w") None (Some (stmts.Value (tree.Binary binary_word.Plus (at 0 1 99) (plain (at 0 1 97) "v") (number (at 0 1 101) "1")))) ∷ [])) ∷ method unqualified (routine (head (at 0 1 104) life.Unwritten (units.Returns.Value types.Unwritten) (name (at 0 1 113) "new") []) [] (stmts.Statement (at 0 1 120) None (stmts.Call (tree.SuperNew (at 0 1 120) (at 0 1 126) (tree.Written (expressions (number (at 0 1 130) "5" ∷ []))))) ∷ stmts.Statement (at 0 1 134) None (stmts.Body.Step (target (at 0 1 134) "w") step_word.Increment) ∷ []) None) ∷ []) None)) ∷ module_ (at 0 1 160) life.Unwritten (name (at 0 1 167) "t") None [] (items.Decl (decl life.Unwritten (types.Named (name (at 0 1 170) "Q")) (declarator (name (at 0 1 172) "q") None None ∷ [])) ∷ items.Decl (decl life.Unwritten (types.Named (name (at 0 1 175) "P")) (declarator (name (at 0 1 177) "p") None None ∷ [])) ∷ procedure (at 0 1 180) procedure_word.Initial (stmts.Statement (at 0 1 188) None (stmts.Block None [] (statements (stmts.Statement (at 0 1 194) None (blocking (target (at 0 1 194) "q") None (stmts.New (at 0 1 198) tree.Unwritten)) ∷ stmts.Statement (at 0 1 203) None (blocking (target (at 0 1 203) "p") None (stmts.New (at 0 1 207) tree.Unwritten)) ∷ stmts.Statement (at 0 1 212) None (stmts.Call (system (at 0 1 212) "$display" (text (at 0 1 221) "%0d %0d %0d" ∷ tree.Expr.Post (root.Plain (name (at 0 1 236) "q")) (tree.Member (name (at 0 1 238) "v") tree.NoSuffix) ∷ tree.Expr.Post (root.Plain (name (at 0 1 241) "q")) (tree.Member (name (at 0 1 243) "w") tree.NoSuffix) ∷ tree.Expr.Post (root.Plain (name (at 0 1 246) "p")) (tree.Member (name (at 0 1 248) "v") tree.NoSuffix) ∷ []))) ∷ stmts.Statement (at 0 1 252) None (blocking (target (at 0 1 252) "p") None (stmts.Copy (at 0 1 256) (name (at 0 1 260) "q"))) ∷ stmts.Statement (at 0 1 263) None (stmts.Call (system (at 0 1 263) "$display" (text (at 0 1 272) "%0d" ∷ tree.Expr.Post (root.Plain (name (at 0 1 279) "p")) (tree.Member (name (at 0 1 281) "v") tree.NoSuffix) ∷ []))) ∷ [])) None)) ∷ []) None ∷ []

t28_seen : seen_in (Listed []) (Listed []) (elaborated t28 [] None) 23 ≡ Ran (record { log = lines ("5 7 2" ∷ "5" ∷ []); wave = lines ("$timescale 1ns $end" ∷ "$scope module t $end" ∷ "$upscope $end" ∷ "$enddefinitions $end" ∷ "#0" ∷ "$dumpvars" ∷ "$end" ∷ []); outcome = Done; time = 0; steps = 20; race = Some (10, at 0 1 172) })
unfolding symbols_of word_of
t28_seen = refl

-- class P; virtual function string n(); return "P"; endfunction function string m(); return {n(), "!"}; endfunction endclass class Q extends P; virtual function string n(); return {super.n(), "Q"}; endfunction endclass module t; P p; Q q; initial begin q = new; p = q; $display("%s %s", p.n(), p.m());  end endmodule
abbrev t29 : List Description
t29 = descriptions.Item (items.Class (class_ (at 0 1 1) false (name (at 0 1 7) "P") None (method (qualifiers false false false true) (routine (head (at 0 1 18) life.Unwritten (units.Returns.Value (types.Written (types.Text (at 0 1 27)))) (name (at 0 1 34) "n") []) [] (stmts.Statement (at 0 1 39) None (stmts.Return (Some (text (at 0 1 46) "P"))) ∷ []) None) ∷ method unqualified (routine (head (at 0 1 63) life.Unwritten (units.Returns.Value (types.Written (types.Text (at 0 1 72)))) (name (at 0 1 79) "m") []) [] (stmts.Statement (at 0 1 84) None (stmts.Return (Some (tree.Expr.Join (at 0 1 91) (expressions (tree.Expr.Post (root.Plain (name (at 0 1 92) "n")) (tree.Call (at 0 1 93) tree.NoExpr tree.NoSuffix) ∷ text (at 0 1 97) "!" ∷ []))))) ∷ []) None) ∷ []) None)) ∷ descriptions.Item (items.Class (class_ (at 0 1 124) false (name (at 0 1 130) "Q") (Some (name (at 0 1 140) "P")) (method (qualifiers false false false true) (routine (head (at 0 1 151) life.Unwritten (units.Returns.Value (types.Written (types.Text (at 0 1 160)))) (name (at 0 1 167) "n") []) [] (stmts.Statement (at 0 1 172) None (stmts.Return (Some (tree.Expr.Join (at 0 1 179) (expressions (tree.Expr.Post (root.Super (at 0 1 180) (name (at 0 1 186) "n")) (tree.Call (at 0 1 187) tree.NoExpr tree.NoSuffix) ∷ text (at 0 1 191) "Q" ∷ []))))) ∷ []) None) ∷ []) None)) ∷ module_ (at 0 1 218) life.Unwritten (name (at 0 1 225) "t") None [] (items.Decl (decl life.Unwritten (types.Named (name (at 0 1 228) "P")) (declarator (name (at 0 1 230) "p") None None ∷ [])) ∷ items.Decl (decl life.Unwritten (types.Named (name (at 0 1 233) "Q")) (declarator (name (at 0 1 235) "q") None None ∷ [])) ∷ procedure (at 0 1 238) procedure_word.Initial (stmts.Statement (at 0 1 246) None (stmts.Block None [] (statements (stmts.Statement (at 0 1 252) None (blocking (target (at 0 1 252) "q") None (stmts.New (at 0 1 256) tree.Unwritten)) ∷ stmts.Statement (at 0 1 261) None (blocking (target (at 0 1 261) "p") None (stmts.Value (plain (at 0 1 265) "q"))) ∷ stmts.Statement (at 0 1 268) None (stmts.Call (system (at 0 1 268) "$display" (text (at 0 1 277) "%s %s" ∷ tree.Expr.Post (root.Plain (name (at 0 1 286) "p")) (tree.Member (name (at 0 1 288) "n") (tree.Call (at 0 1 289) tree.NoExpr tree.NoSuffix)) ∷ tree.Expr.Post (root.Plain (name (at 0 1 293) "p")) (tree.Member (name (at 0 1 295) "m") (tree.Call (at 0 1 296) tree.NoExpr tree.NoSuffix)) ∷ []))) ∷ [])) None)) ∷ []) None ∷ []

t29_seen : seen_in (Listed []) (Listed []) (elaborated t29 [] None) 29 ≡ Ran (record { log = lines ("PQ PQ!" ∷ []); wave = lines ("$timescale 1ns $end" ∷ "$scope module t $end" ∷ "$upscope $end" ∷ "$enddefinitions $end" ∷ "#0" ∷ "$dumpvars" ∷ "$end" ∷ []); outcome = Done; time = 0; steps = 26; race = Some (10, at 0 1 230) })
unfolding symbols_of word_of
t29_seen = refl

-- virtual class S; pure virtual function int area(); endclass class R extends S; int a; function new(int x); a = x; endfunction virtual function int area(); return a * a; endfunction endclass module t; S s; R r; initial begin r = new(3); s = r; $display("%0d", s.area()); end endmodule
abbrev t30 : List Description
t30 = descriptions.Item (items.Class (class_ (at 0 1 1) true (name (at 0 1 15) "S") None (pure_method (at 0 1 18) (head (at 0 1 31) life.Unwritten (units.Returns.Value (types.Written (types.Atom (at 0 1 40) atom_word.Int sign.Unwritten))) (name (at 0 1 44) "area") []) ∷ []) None)) ∷ descriptions.Item (items.Class (class_ (at 0 1 61) false (name (at 0 1 67) "R") (Some (name (at 0 1 77) "S")) (property unqualified (decl life.Unwritten (types.Atom (at 0 1 80) atom_word.Int sign.Unwritten) (declarator (name (at 0 1 84) "a") None None ∷ [])) ∷ method unqualified (routine (head (at 0 1 87) life.Unwritten (units.Returns.Value types.Unwritten) (name (at 0 1 96) "new") (argument None (types.Written (types.Atom (at 0 1 100) atom_word.Int sign.Unwritten)) (name (at 0 1 104) "x") None ∷ [])) [] (stmts.Statement (at 0 1 108) None (blocking (target (at 0 1 108) "a") None (stmts.Value (plain (at 0 1 112) "x"))) ∷ []) None) ∷ method (qualifiers false false false true) (routine (head (at 0 1 135) life.Unwritten (units.Returns.Value (types.Written (types.Atom (at 0 1 144) atom_word.Int sign.Unwritten))) (name (at 0 1 148) "area") []) [] (stmts.Statement (at 0 1 156) None (stmts.Return (Some (tree.Binary binary_word.Multiply (at 0 1 165) (plain (at 0 1 163) "a") (plain (at 0 1 167) "a")))) ∷ []) None) ∷ []) None)) ∷ module_ (at 0 1 191) life.Unwritten (name (at 0 1 198) "t") None [] (items.Decl (decl life.Unwritten (types.Named (name (at 0 1 201) "S")) (declarator (name (at 0 1 203) "s") None None ∷ [])) ∷ items.Decl (decl life.Unwritten (types.Named (name (at 0 1 206) "R")) (declarator (name (at 0 1 208) "r") None None ∷ [])) ∷ procedure (at 0 1 211) procedure_word.Initial (stmts.Statement (at 0 1 219) None (stmts.Block None [] (statements (stmts.Statement (at 0 1 225) None (blocking (target (at 0 1 225) "r") None (stmts.New (at 0 1 229) (tree.Written (expressions (number (at 0 1 233) "3" ∷ []))))) ∷ stmts.Statement (at 0 1 237) None (blocking (target (at 0 1 237) "s") None (stmts.Value (plain (at 0 1 241) "r"))) ∷ stmts.Statement (at 0 1 244) None (stmts.Call (system (at 0 1 244) "$display" (text (at 0 1 253) "%0d" ∷ tree.Expr.Post (root.Plain (name (at 0 1 260) "s")) (tree.Member (name (at 0 1 262) "area") (tree.Call (at 0 1 266) tree.NoExpr tree.NoSuffix)) ∷ []))) ∷ [])) None)) ∷ []) None ∷ []

t30_seen : seen_in (Listed []) (Listed []) (elaborated t30 [] None) 18 ≡ Ran (record { log = lines ("9" ∷ []); wave = lines ("$timescale 1ns $end" ∷ "$scope module t $end" ∷ "$upscope $end" ∷ "$enddefinitions $end" ∷ "#0" ∷ "$dumpvars" ∷ "$end" ∷ []); outcome = Done; time = 0; steps = 15; race = Some (7, at 0 1 148) })
unfolding symbols_of word_of
t30_seen = refl

-- module t; class N; N next; int v; function new(int x, N n); v = x; next = n; endfunction endclass N l; int s; initial begin l = new(1, null); l = new(2, l); l = new(3, l); while (l != null) begin s += l.v; l = l.next; end $display("%0d", s); end endmodule
abbrev t31 : List Description
t31 = module_ (at 0 1 1) life.Unwritten (name (at 0 1 8) "t") None [] (items.Class (class_ (at 0 1 11) false (name (at 0 1 17) "N") None (property unqualified (decl life.Unwritten (types.Named (name (at 0 1 20) "N")) (declarator (name (at 0 1 22) "next") None None ∷ [])) ∷ property unqualified (decl life.Unwritten (types.Atom (at 0 1 28) atom_word.Int sign.Unwritten) (declarator (name (at 0 1 32) "v") None None ∷ [])) ∷ method unqualified (routine (head (at 0 1 35) life.Unwritten (units.Returns.Value types.Unwritten) (name (at 0 1 44) "new") (argument None (types.Written (types.Atom (at 0 1 48) atom_word.Int sign.Unwritten)) (name (at 0 1 52) "x") None ∷ argument None (types.Written (types.Named (name (at 0 1 55) "N"))) (name (at 0 1 57) "n") None ∷ [])) [] (stmts.Statement (at 0 1 61) None (blocking (target (at 0 1 61) "v") None (stmts.Value (plain (at 0 1 65) "x"))) ∷ stmts.Statement (at 0 1 68) None (blocking (target (at 0 1 68) "next") None (stmts.Value (plain (at 0 1 75) "n"))) ∷ []) None) ∷ []) None) ∷ items.Decl (decl life.Unwritten (types.Named (name (at 0 1 99) "N")) (declarator (name (at 0 1 101) "l") None None ∷ [])) ∷ items.Decl (decl life.Unwritten (types.Atom (at 0 1 104) atom_word.Int sign.Unwritten) (declarator (name (at 0 1 108) "s") None None ∷ [])) ∷ procedure (at 0 1 111) procedure_word.Initial (stmts.Statement (at 0 1 119) None (stmts.Block None [] (statements (stmts.Statement (at 0 1 125) None (blocking (target (at 0 1 125) "l") None (stmts.New (at 0 1 129) (tree.Written (expressions (number (at 0 1 133) "1" ∷ tree.Null (at 0 1 136) ∷ []))))) ∷ stmts.Statement (at 0 1 143) None (blocking (target (at 0 1 143) "l") None (stmts.New (at 0 1 147) (tree.Written (expressions (number (at 0 1 151) "2" ∷ plain (at 0 1 154) "l" ∷ []))))) ∷ stmts.Statement (at 0 1 158) None (blocking (target (at 0 1 158) "l") None (stmts.New (at 0 1 162) (tree.Written (expressions (number (at 0 1 166) "3" ∷ plain (at 0 1 169) "l" ∷ []))))) ∷ stmts.Statement (at 0 1 173) None (stmts.While (tree.Binary binary_word.NotEqual (at 0 1 182) (plain (at 0 1 180) "l") (tree.Null (at 0 1 185))) (stmts.Statement (at 0 1 191) None (stmts.Block None [] (statements (stmts.Statement (at 0 1 197) None (stmts.Body.Operator (operated (target (at 0 1 197) "s") binary_word.Plus (tree.Expr.Post (root.Plain (name (at 0 1 202) "l")) (tree.Member (name (at 0 1 204) "v") tree.NoSuffix)))) ∷ stmts.Statement (at 0 1 207) None (blocking (target (at 0 1 207) "l") None (stmts.Value (tree.Expr.Post (root.Plain (name (at 0 1 211) "l")) (tree.Member (name (at 0 1 213) "next") tree.NoSuffix)))) ∷ [])) None))) ∷ stmts.Statement (at 0 1 223) None (stmts.Call (system (at 0 1 223) "$display" (text (at 0 1 232) "%0d" ∷ plain (at 0 1 239) "s" ∷ []))) ∷ [])) None)) ∷ []) None ∷ []

t31_seen : seen_in (Listed []) (Listed []) (elaborated t31 [] None) 36 ≡ Ran (record { log = lines ("6" ∷ []); wave = lines ("$timescale 1ns $end" ∷ "$scope module t $end" ∷ "$var reg 32 ! s $end" ∷ "$upscope $end" ∷ "$enddefinitions $end" ∷ "#0" ∷ "$dumpvars" ∷ "b110 !" ∷ "$end" ∷ []); outcome = Done; time = 0; steps = 33; race = Some (10, at 0 1 22) })
unfolding symbols_of word_of
t31_seen = refl

-- module t; logic clk = 0; always #5 clk = ~clk; logic [3:0] n = 0; always_ff @(posedge clk) n <= n + 1; initial begin @(posedge clk iff n == 1) $display("%0d %0t", n, $time); repeat (2) @(negedge clk); $finish; end endmodule
abbrev t32 : List Description
t32 = module_ (at 0 1 1) life.Unwritten (name (at 0 1 8) "t") None [] (items.Decl (decl life.Unwritten (types.WrittenType.Vector (at 0 1 11) vector_word.Logic sign.Unwritten None) (declarator (name (at 0 1 17) "clk") None (Some (stmts.Value (number (at 0 1 23) "0"))) ∷ [])) ∷ procedure (at 0 1 26) procedure_word.Always (stmts.Statement (at 0 1 33) None (stmts.After (delay (at 0 1 33) (number (at 0 1 34) "5")) (stmts.Statement (at 0 1 36) None (blocking (target (at 0 1 36) "clk") None (stmts.Value (tree.Unary (at 0 1 42) unary_word.Invert (plain (at 0 1 43) "clk"))))))) ∷ items.Decl (decl life.Unwritten (types.WrittenType.Vector (at 0 1 48) vector_word.Logic sign.Unwritten (Some (range (at 0 1 54) (number (at 0 1 55) "3") (number (at 0 1 57) "0")))) (declarator (name (at 0 1 60) "n") None (Some (stmts.Value (number (at 0 1 64) "0"))) ∷ [])) ∷ procedure (at 0 1 67) procedure_word.AlwaysFf (stmts.Statement (at 0 1 77) None (stmts.On (stmts.Parts (event_part edge.Posedge (plain (at 0 1 87) "clk") None ∷ [])) (stmts.Statement (at 0 1 92) None (nonblocking (target (at 0 1 92) "n") None (tree.Binary binary_word.Plus (at 0 1 99) (plain (at 0 1 97) "n") (number (at 0 1 101) "1")))))) ∷ procedure (at 0 1 104) procedure_word.Initial (stmts.Statement (at 0 1 112) None (stmts.Block None [] (statements (stmts.Statement (at 0 1 118) None (stmts.On (stmts.Parts (event_part edge.Posedge (plain (at 0 1 128) "clk") (Some (tree.Binary binary_word.Equal (at 0 1 138) (plain (at 0 1 136) "n") (number (at 0 1 141) "1"))) ∷ [])) (stmts.Statement (at 0 1 144) None (stmts.Call (system (at 0 1 144) "$display" (text (at 0 1 153) "%0d %0t" ∷ plain (at 0 1 164) "n" ∷ tree.System (name (at 0 1 167) "$time") tree.Unwritten ∷ []))))) ∷ stmts.Statement (at 0 1 175) None (stmts.Repeat (number (at 0 1 183) "2") (stmts.Statement (at 0 1 186) None (stmts.On (stmts.Parts (event_part edge.Negedge (plain (at 0 1 196) "clk") None ∷ [])) (stmts.Statement (at 0 1 200) None stmts.Null)))) ∷ stmts.Statement (at 0 1 202) None (stmts.Call (tree.System (name (at 0 1 202) "$finish") tree.Unwritten)) ∷ [])) None)) ∷ []) None ∷ []

t32_seen : seen_in (Listed []) (Listed []) (elaborated t32 [] None) 75 ≡ Ran (record { log = lines ("1 15" ∷ []); wave = lines ("$timescale 1ns $end" ∷ "$scope module t $end" ∷ "$var reg 1 ! clk $end" ∷ "$var reg 4 \" n [3:0] $end" ∷ "$upscope $end" ∷ "$enddefinitions $end" ∷ "#0" ∷ "$dumpvars" ∷ "0!" ∷ "b0 \"" ∷ "$end" ∷ "#5" ∷ "1!" ∷ "b1 \"" ∷ "#10" ∷ "0!" ∷ "#15" ∷ "1!" ∷ "b10 \"" ∷ "#20" ∷ "0!" ∷ "#25" ∷ "1!" ∷ "b11 \"" ∷ "#30" ∷ "0!" ∷ []); outcome = Done; time = 30; steps = 72; race = Some (8, at 0 1 104) })
unfolding symbols_of word_of
t32_seen = refl

-- module t; initial fork begin #2 $display("2"); end begin #1 $display("1"); end join initial begin fork : f automatic int k = 3; #k $display("k"); join_none wait fork; $display("w"); end endmodule
abbrev t33 : List Description
t33 = module_ (at 0 1 1) life.Unwritten (name (at 0 1 8) "t") None [] (procedure (at 0 1 11) procedure_word.Initial (stmts.Statement (at 0 1 19) None (stmts.Fork None [] (statements (stmts.Statement (at 0 1 24) None (stmts.Block None [] (statements (stmts.Statement (at 0 1 30) None (stmts.After (delay (at 0 1 30) (number (at 0 1 31) "2")) (stmts.Statement (at 0 1 33) None (stmts.Call (system (at 0 1 33) "$display" (text (at 0 1 42) "2" ∷ []))))) ∷ [])) None) ∷ stmts.Statement (at 0 1 52) None (stmts.Block None [] (statements (stmts.Statement (at 0 1 58) None (stmts.After (delay (at 0 1 58) (number (at 0 1 59) "1")) (stmts.Statement (at 0 1 61) None (stmts.Call (system (at 0 1 61) "$display" (text (at 0 1 70) "1" ∷ []))))) ∷ [])) None) ∷ [])) join_word.All None)) ∷ procedure (at 0 1 85) procedure_word.Initial (stmts.Statement (at 0 1 93) None (stmts.Block None [] (statements (stmts.Statement (at 0 1 99) None (stmts.Fork (Some (name (at 0 1 106) "f")) (decl life.Automatic (types.Atom (at 0 1 118) atom_word.Int sign.Unwritten) (declarator (name (at 0 1 122) "k") None (Some (stmts.Value (number (at 0 1 126) "3"))) ∷ []) ∷ []) (statements (stmts.Statement (at 0 1 129) None (stmts.After (delay (at 0 1 129) (plain (at 0 1 130) "k")) (stmts.Statement (at 0 1 132) None (stmts.Call (system (at 0 1 132) "$display" (text (at 0 1 141) "k" ∷ []))))) ∷ [])) join_word.None None) ∷ stmts.Statement (at 0 1 157) None stmts.WaitFork ∷ stmts.Statement (at 0 1 168) None (stmts.Call (system (at 0 1 168) "$display" (text (at 0 1 177) "w" ∷ []))) ∷ [])) None)) ∷ []) None ∷ []

t33_seen : seen_in (Listed []) (Listed []) (elaborated t33 [] None) 40 ≡ Ran (record { log = lines ("1" ∷ "2" ∷ "k" ∷ "w" ∷ []); wave = lines ("$timescale 1ns $end" ∷ "$scope module t $end" ∷ "$upscope $end" ∷ "$enddefinitions $end" ∷ "#0" ∷ "$dumpvars" ∷ "$end" ∷ []); outcome = Done; time = 3; steps = 37; race = Some (8, at 0 1 11) })
unfolding symbols_of word_of
t33_seen = refl

-- module u(input logic [3:0] a, output logic [3:0] y); assign y = a + 1; endmodule module t; logic [3:0] p; wire [3:0] r; u x(p, r); u y(.a(r), .y()); initial begin p = 3; #1 $display("%0d %0d", r, p); end endmodule
abbrev t34 : List Description
t34 = module_ (at 0 1 1) life.Unwritten (name (at 0 1 8) "u") None (port (Some port_direction.Input) false (types.Written (types.WrittenType.Vector (at 0 1 16) vector_word.Logic sign.Unwritten (Some (range (at 0 1 22) (number (at 0 1 23) "3") (number (at 0 1 25) "0"))))) (name (at 0 1 28) "a") ∷ port (Some port_direction.Output) false (types.Written (types.WrittenType.Vector (at 0 1 38) vector_word.Logic sign.Unwritten (Some (range (at 0 1 44) (number (at 0 1 45) "3") (number (at 0 1 47) "0"))))) (name (at 0 1 50) "y") ∷ []) (items.Assign (assign_item (target (at 0 1 61) "y") (tree.Binary binary_word.Plus (at 0 1 67) (plain (at 0 1 65) "a") (number (at 0 1 69) "1")) ∷ []) ∷ []) None ∷ module_ (at 0 1 82) life.Unwritten (name (at 0 1 89) "t") None [] (items.Decl (decl life.Unwritten (types.WrittenType.Vector (at 0 1 92) vector_word.Logic sign.Unwritten (Some (range (at 0 1 98) (number (at 0 1 99) "3") (number (at 0 1 101) "0")))) (declarator (name (at 0 1 104) "p") None None ∷ [])) ∷ net (at 0 1 107) sign.Unwritten (Some (range (at 0 1 112) (number (at 0 1 113) "3") (number (at 0 1 115) "0"))) (net_item (name (at 0 1 118) "r") None ∷ []) ∷ instances (name (at 0 1 121) "u") [] (instance (name (at 0 1 123) "x") (units.Connection.Value (plain (at 0 1 125) "p") ∷ units.Connection.Value (plain (at 0 1 128) "r") ∷ []) ∷ []) ∷ instances (name (at 0 1 132) "u") [] (instance (name (at 0 1 134) "y") (units.Given (at 0 1 136) (name (at 0 1 137) "a") (Some (plain (at 0 1 139) "r")) ∷ units.Given (at 0 1 143) (name (at 0 1 144) "y") None ∷ []) ∷ []) ∷ procedure (at 0 1 150) procedure_word.Initial (stmts.Statement (at 0 1 158) None (stmts.Block None [] (statements (stmts.Statement (at 0 1 164) None (blocking (target (at 0 1 164) "p") None (stmts.Value (number (at 0 1 168) "3"))) ∷ stmts.Statement (at 0 1 171) None (stmts.After (delay (at 0 1 171) (number (at 0 1 172) "1")) (stmts.Statement (at 0 1 174) None (stmts.Call (system (at 0 1 174) "$display" (text (at 0 1 183) "%0d %0d" ∷ plain (at 0 1 194) "r" ∷ plain (at 0 1 197) "p" ∷ []))))) ∷ [])) None)) ∷ []) None ∷ []

t34_seen : seen_in (Listed []) (Listed []) (elaborated t34 [] None) 34 ≡ Ran (record { log = lines ("4 3" ∷ []); wave = lines ("$timescale 1ns $end" ∷ "$scope module t $end" ∷ "$var reg 4 ! p [3:0] $end" ∷ "$var wire 4 \" r [3:0] $end" ∷ "$scope module x $end" ∷ "$var wire 4 # a [3:0] $end" ∷ "$var reg 4 $ y [3:0] $end" ∷ "$upscope $end" ∷ "$scope module y $end" ∷ "$var wire 4 % a [3:0] $end" ∷ "$var reg 4 & y [3:0] $end" ∷ "$upscope $end" ∷ "$upscope $end" ∷ "$enddefinitions $end" ∷ "#0" ∷ "$dumpvars" ∷ "b11 !" ∷ "b100 \"" ∷ "b11 #" ∷ "b100 $" ∷ "b100 %" ∷ "b101 &" ∷ "$end" ∷ []); outcome = Done; time = 1; steps = 31; race = Some (8, at 0 1 150) })
unfolding symbols_of word_of
t34_seen = refl

-- typedef logic [3:0] nib; parameter int K = 5; function automatic nib add(nib a, nib b); return a + b + K; endfunction module t; nib x; initial begin x = add(3, 4); $display("%0d", x); end endmodule
abbrev t35 : List Description
t35 = descriptions.Item (items.Typedef (typedef (types.WrittenType.Vector (at 0 1 9) vector_word.Logic sign.Unwritten (Some (range (at 0 1 15) (number (at 0 1 16) "3") (number (at 0 1 18) "0")))) (name (at 0 1 21) "nib"))) ∷ descriptions.Item (items.Param (param param_word.Parameter (types.Written (types.Atom (at 0 1 36) atom_word.Int sign.Unwritten)) (value (name (at 0 1 40) "K") (number (at 0 1 44) "5") ∷ []))) ∷ descriptions.Item (items.Routine (routine (head (at 0 1 47) life.Automatic (units.Returns.Value (types.Written (types.Named (name (at 0 1 66) "nib")))) (name (at 0 1 70) "add") (argument None (types.Written (types.Named (name (at 0 1 74) "nib"))) (name (at 0 1 78) "a") None ∷ argument None (types.Written (types.Named (name (at 0 1 81) "nib"))) (name (at 0 1 85) "b") None ∷ [])) [] (stmts.Statement (at 0 1 89) None (stmts.Return (Some (tree.Binary binary_word.Plus (at 0 1 102) (tree.Binary binary_word.Plus (at 0 1 98) (plain (at 0 1 96) "a") (plain (at 0 1 100) "b")) (plain (at 0 1 104) "K")))) ∷ []) None)) ∷ module_ (at 0 1 119) life.Unwritten (name (at 0 1 126) "t") None [] (items.Decl (decl life.Unwritten (types.Named (name (at 0 1 129) "nib")) (declarator (name (at 0 1 133) "x") None None ∷ [])) ∷ procedure (at 0 1 136) procedure_word.Initial (stmts.Statement (at 0 1 144) None (stmts.Block None [] (statements (stmts.Statement (at 0 1 150) None (blocking (target (at 0 1 150) "x") None (stmts.Value (tree.Expr.Post (root.Plain (name (at 0 1 154) "add")) (tree.Call (at 0 1 157) (expressions (number (at 0 1 158) "3" ∷ number (at 0 1 161) "4" ∷ [])) tree.NoSuffix)))) ∷ stmts.Statement (at 0 1 165) None (stmts.Call (system (at 0 1 165) "$display" (text (at 0 1 174) "%0d" ∷ plain (at 0 1 181) "x" ∷ []))) ∷ [])) None)) ∷ []) None ∷ []

t35_seen : seen_in (Listed []) (Listed []) (elaborated t35 [] None) 12 ≡ Ran (record { log = lines ("12" ∷ []); wave = lines ("$timescale 1ns $end" ∷ "$scope module t $end" ∷ "$var reg 4 ! x [3:0] $end" ∷ "$upscope $end" ∷ "$enddefinitions $end" ∷ "#0" ∷ "$dumpvars" ∷ "b1100 !" ∷ "$end" ∷ []); outcome = Done; time = 0; steps = 9; race = Some (8, at 0 1 136) })
unfolding symbols_of word_of
t35_seen = refl

-- program p; initial begin $display("p"); #1 $exit; $display("no"); end initial #5 $display("late"); endprogram
abbrev t36 : List Description
t36 = program_ (at 0 1 1) life.Unwritten (name (at 0 1 9) "p") None [] (procedure (at 0 1 12) procedure_word.Initial (stmts.Statement (at 0 1 20) None (stmts.Block None [] (statements (stmts.Statement (at 0 1 26) None (stmts.Call (system (at 0 1 26) "$display" (text (at 0 1 35) "p" ∷ []))) ∷ stmts.Statement (at 0 1 41) None (stmts.After (delay (at 0 1 41) (number (at 0 1 42) "1")) (stmts.Statement (at 0 1 44) None (stmts.Call (tree.System (name (at 0 1 44) "$exit") tree.Unwritten)))) ∷ stmts.Statement (at 0 1 51) None (stmts.Call (system (at 0 1 51) "$display" (text (at 0 1 60) "no" ∷ []))) ∷ [])) None)) ∷ procedure (at 0 1 71) procedure_word.Initial (stmts.Statement (at 0 1 79) None (stmts.After (delay (at 0 1 79) (number (at 0 1 80) "5")) (stmts.Statement (at 0 1 82) None (stmts.Call (system (at 0 1 82) "$display" (text (at 0 1 91) "late" ∷ [])))))) ∷ []) None ∷ []

t36_seen : seen_in (Listed []) (Listed []) (elaborated t36 [] None) 16 ≡ Ran (record { log = lines ("p" ∷ []); wave = lines ("$timescale 1ns $end" ∷ "$scope module p $end" ∷ "$upscope $end" ∷ "$enddefinitions $end" ∷ "#0" ∷ "$dumpvars" ∷ "$end" ∷ []); outcome = Done; time = 1; steps = 13; race = None })
unfolding symbols_of word_of
t36_seen = refl

-- module t; always begin #1 $display("x"); #1 $finish; end endmodule
abbrev t37 : List Description
t37 = module_ (at 0 1 1) life.Unwritten (name (at 0 1 8) "t") None [] (procedure (at 0 1 11) procedure_word.Always (stmts.Statement (at 0 1 18) None (stmts.Block None [] (statements (stmts.Statement (at 0 1 24) None (stmts.After (delay (at 0 1 24) (number (at 0 1 25) "1")) (stmts.Statement (at 0 1 27) None (stmts.Call (system (at 0 1 27) "$display" (text (at 0 1 36) "x" ∷ []))))) ∷ stmts.Statement (at 0 1 42) None (stmts.After (delay (at 0 1 42) (number (at 0 1 43) "1")) (stmts.Statement (at 0 1 45) None (stmts.Call (tree.System (name (at 0 1 45) "$finish") tree.Unwritten)))) ∷ [])) None)) ∷ []) None ∷ []

t37_seen : seen_in (Listed []) (Listed []) (elaborated t37 [] None) 19 ≡ Ran (record { log = lines ("x" ∷ []); wave = lines ("$timescale 1ns $end" ∷ "$scope module t $end" ∷ "$upscope $end" ∷ "$enddefinitions $end" ∷ "#0" ∷ "$dumpvars" ∷ "$end" ∷ []); outcome = Done; time = 2; steps = 16; race = Some (8, at 0 1 11) })
unfolding symbols_of word_of
t37_seen = refl

-- module t; logic [7:0] v; initial begin casez (8'b1010_0000) 8'b1???_????: $display("a"); default: $display("b"); endcase case (v) 8'hxx: $display("x"); endcase case ("ab") "ab", "c": $display("s"); endcase end endmodule
abbrev t38 : List Description
t38 = module_ (at 0 1 1) life.Unwritten (name (at 0 1 8) "t") None [] (items.Decl (decl life.Unwritten (types.WrittenType.Vector (at 0 1 11) vector_word.Logic sign.Unwritten (Some (range (at 0 1 17) (number (at 0 1 18) "7") (number (at 0 1 20) "0")))) (declarator (name (at 0 1 23) "v") None None ∷ [])) ∷ procedure (at 0 1 26) procedure_word.Initial (stmts.Statement (at 0 1 34) None (stmts.Block None [] (statements (stmts.Statement (at 0 1 40) None (stmts.Case case_word.Z (number (at 0 1 47) "8'b1010_0000") (stmts.Labels (expressions (number (at 0 1 61) "8'b1???_????" ∷ [])) (stmts.Statement (at 0 1 75) None (stmts.Call (system (at 0 1 75) "$display" (text (at 0 1 84) "a" ∷ [])))) (stmts.Default (stmts.Statement (at 0 1 99) None (stmts.Call (system (at 0 1 99) "$display" (text (at 0 1 108) "b" ∷ [])))) stmts.NoCaseItem))) ∷ stmts.Statement (at 0 1 122) None (stmts.Case case_word.Exact (plain (at 0 1 128) "v") (stmts.Labels (expressions (number (at 0 1 131) "8'hxx" ∷ [])) (stmts.Statement (at 0 1 138) None (stmts.Call (system (at 0 1 138) "$display" (text (at 0 1 147) "x" ∷ [])))) stmts.NoCaseItem)) ∷ stmts.Statement (at 0 1 161) None (stmts.Case case_word.Exact (text (at 0 1 167) "ab") (stmts.Labels (expressions (text (at 0 1 173) "ab" ∷ text (at 0 1 179) "c" ∷ [])) (stmts.Statement (at 0 1 184) None (stmts.Call (system (at 0 1 184) "$display" (text (at 0 1 193) "s" ∷ [])))) stmts.NoCaseItem)) ∷ [])) None)) ∷ []) None ∷ []

t38_seen : seen_in (Listed []) (Listed []) (elaborated t38 [] None) 13 ≡ Ran (record { log = lines ("a" ∷ "x" ∷ "s" ∷ []); wave = lines ("$timescale 1ns $end" ∷ "$scope module t $end" ∷ "$var reg 8 ! v [7:0] $end" ∷ "$upscope $end" ∷ "$enddefinitions $end" ∷ "#0" ∷ "$dumpvars" ∷ "bx !" ∷ "$end" ∷ []); outcome = Done; time = 0; steps = 10; race = Some (8, at 0 1 26) })
unfolding symbols_of word_of
t38_seen = refl

-- module t; int x; initial begin do begin x++; end while (x < 3); $display("%0d", x); forever begin if (x > 5) break; x += 2; end $display("%0d", x); end endmodule
abbrev t39 : List Description
t39 = module_ (at 0 1 1) life.Unwritten (name (at 0 1 8) "t") None [] (items.Decl (decl life.Unwritten (types.Atom (at 0 1 11) atom_word.Int sign.Unwritten) (declarator (name (at 0 1 15) "x") None None ∷ [])) ∷ procedure (at 0 1 18) procedure_word.Initial (stmts.Statement (at 0 1 26) None (stmts.Block None [] (statements (stmts.Statement (at 0 1 32) None (stmts.Do (stmts.Statement (at 0 1 35) None (stmts.Block None [] (statements (stmts.Statement (at 0 1 41) None (stmts.Body.Step (target (at 0 1 41) "x") step_word.Increment) ∷ [])) None)) (tree.Binary binary_word.Less (at 0 1 59) (plain (at 0 1 57) "x") (number (at 0 1 61) "3"))) ∷ stmts.Statement (at 0 1 65) None (stmts.Call (system (at 0 1 65) "$display" (text (at 0 1 74) "%0d" ∷ plain (at 0 1 81) "x" ∷ []))) ∷ stmts.Statement (at 0 1 85) None (stmts.Forever (stmts.Statement (at 0 1 93) None (stmts.Block None [] (statements (stmts.Statement (at 0 1 99) None (stmts.If (tree.Binary binary_word.Greater (at 0 1 105) (plain (at 0 1 103) "x") (number (at 0 1 107) "5")) (stmts.Statement (at 0 1 110) None stmts.Break)) ∷ stmts.Statement (at 0 1 117) None (stmts.Body.Operator (operated (target (at 0 1 117) "x") binary_word.Plus (number (at 0 1 122) "2"))) ∷ [])) None))) ∷ stmts.Statement (at 0 1 129) None (stmts.Call (system (at 0 1 129) "$display" (text (at 0 1 138) "%0d" ∷ plain (at 0 1 145) "x" ∷ []))) ∷ [])) None)) ∷ []) None ∷ []

t39_seen : seen_in (Listed []) (Listed []) (elaborated t39 [] None) 31 ≡ Ran (record { log = lines ("3" ∷ "7" ∷ []); wave = lines ("$timescale 1ns $end" ∷ "$scope module t $end" ∷ "$var reg 32 ! x $end" ∷ "$upscope $end" ∷ "$enddefinitions $end" ∷ "#0" ∷ "$dumpvars" ∷ "b111 !" ∷ "$end" ∷ []); outcome = Done; time = 0; steps = 28; race = Some (8, at 0 1 18) })
unfolding symbols_of word_of
t39_seen = refl

-- module t; wire w; logic a, b, e; assign w = e ? a : 1'bz; assign w = e ? 1'bz : b; initial begin a = 1; b = 0; e = 1; #1 $display("%b", w); e = 0; #1 $display("%b", w); end endmodule
abbrev t40 : List Description
t40 = module_ (at 0 1 1) life.Unwritten (name (at 0 1 8) "t") None [] (net (at 0 1 11) sign.Unwritten None (net_item (name (at 0 1 16) "w") None ∷ []) ∷ items.Decl (decl life.Unwritten (types.WrittenType.Vector (at 0 1 19) vector_word.Logic sign.Unwritten None) (declarator (name (at 0 1 25) "a") None None ∷ declarator (name (at 0 1 28) "b") None None ∷ declarator (name (at 0 1 31) "e") None None ∷ [])) ∷ items.Assign (assign_item (target (at 0 1 41) "w") (tree.Choose (plain (at 0 1 45) "e") (plain (at 0 1 49) "a") (number (at 0 1 53) "1'bz")) ∷ []) ∷ items.Assign (assign_item (target (at 0 1 66) "w") (tree.Choose (plain (at 0 1 70) "e") (number (at 0 1 74) "1'bz") (plain (at 0 1 81) "b")) ∷ []) ∷ procedure (at 0 1 84) procedure_word.Initial (stmts.Statement (at 0 1 92) None (stmts.Block None [] (statements (stmts.Statement (at 0 1 98) None (blocking (target (at 0 1 98) "a") None (stmts.Value (number (at 0 1 102) "1"))) ∷ stmts.Statement (at 0 1 105) None (blocking (target (at 0 1 105) "b") None (stmts.Value (number (at 0 1 109) "0"))) ∷ stmts.Statement (at 0 1 112) None (blocking (target (at 0 1 112) "e") None (stmts.Value (number (at 0 1 116) "1"))) ∷ stmts.Statement (at 0 1 119) None (stmts.After (delay (at 0 1 119) (number (at 0 1 120) "1")) (stmts.Statement (at 0 1 122) None (stmts.Call (system (at 0 1 122) "$display" (text (at 0 1 131) "%b" ∷ plain (at 0 1 137) "w" ∷ []))))) ∷ stmts.Statement (at 0 1 141) None (blocking (target (at 0 1 141) "e") None (stmts.Value (number (at 0 1 145) "0"))) ∷ stmts.Statement (at 0 1 148) None (stmts.After (delay (at 0 1 148) (number (at 0 1 149) "1")) (stmts.Statement (at 0 1 151) None (stmts.Call (system (at 0 1 151) "$display" (text (at 0 1 160) "%b" ∷ plain (at 0 1 166) "w" ∷ []))))) ∷ [])) None)) ∷ []) None ∷ []

t40_seen : seen_in (Listed []) (Listed []) (elaborated t40 [] None) 35 ≡ Ran (record { log = lines ("1" ∷ "0" ∷ []); wave = lines ("$timescale 1ns $end" ∷ "$scope module t $end" ∷ "$var wire 1 ! w $end" ∷ "$var reg 1 \" a $end" ∷ "$var reg 1 # b $end" ∷ "$var reg 1 $ e $end" ∷ "$upscope $end" ∷ "$enddefinitions $end" ∷ "#0" ∷ "$dumpvars" ∷ "1!" ∷ "1\"" ∷ "0#" ∷ "1$" ∷ "$end" ∷ "#1" ∷ "0!" ∷ "0$" ∷ []); outcome = Done; time = 2; steps = 32; race = Some (1, at 0 1 16) })
unfolding symbols_of word_of
t40_seen = refl

-- module t; int a[3], s; initial begin foreach (a[i]) a[i] = i * i; foreach (a[i]) s += a[i]; $display("%0d", s); end endmodule
abbrev t41 : List Description
t41 = module_ (at 0 1 1) life.Unwritten (name (at 0 1 8) "t") None [] (items.Decl (decl life.Unwritten (types.Atom (at 0 1 11) atom_word.Int sign.Unwritten) (declarator (name (at 0 1 15) "a") (Some (stmts.Size (at 0 1 16) (number (at 0 1 17) "3"))) None ∷ declarator (name (at 0 1 21) "s") None None ∷ [])) ∷ procedure (at 0 1 24) procedure_word.Initial (stmts.Statement (at 0 1 32) None (stmts.Block None [] (statements (stmts.Statement (at 0 1 38) None (stmts.Foreach (name (at 0 1 47) "a") (name (at 0 1 49) "i") (stmts.Statement (at 0 1 53) None (blocking (tree.Lval.Post (root.Plain (name (at 0 1 53) "a")) (tree.Select (at 0 1 54) (plain (at 0 1 55) "i") tree.NoSuffix)) None (stmts.Value (tree.Binary binary_word.Multiply (at 0 1 62) (plain (at 0 1 60) "i") (plain (at 0 1 64) "i")))))) ∷ stmts.Statement (at 0 1 67) None (stmts.Foreach (name (at 0 1 76) "a") (name (at 0 1 78) "i") (stmts.Statement (at 0 1 82) None (stmts.Body.Operator (operated (target (at 0 1 82) "s") binary_word.Plus (tree.Expr.Post (root.Plain (name (at 0 1 87) "a")) (tree.Select (at 0 1 88) (plain (at 0 1 89) "i") tree.NoSuffix)))))) ∷ stmts.Statement (at 0 1 93) None (stmts.Call (system (at 0 1 93) "$display" (text (at 0 1 102) "%0d" ∷ plain (at 0 1 109) "s" ∷ []))) ∷ [])) None)) ∷ []) None ∷ []

t41_seen : seen_in (Listed []) (Listed []) (elaborated t41 [] None) 22 ≡ Ran (record { log = lines ("5" ∷ []); wave = lines ("$timescale 1ns $end" ∷ "$scope module t $end" ∷ "$var reg 32 ! s $end" ∷ "$upscope $end" ∷ "$enddefinitions $end" ∷ "#0" ∷ "$dumpvars" ∷ "b101 !" ∷ "$end" ∷ []); outcome = Done; time = 0; steps = 19; race = Some (8, at 0 1 24) })
unfolding symbols_of word_of
t41_seen = refl

-- module t; int q[$]; initial begin for (int i = 0; i < 4; i++) q.push_front(i); foreach (q[j]) $write("%0d,", q[j]); $write("\n"); $display("%0d %0d", q.pop_back(), q.pop_front()); end endmodule
abbrev t42 : List Description
t42 = module_ (at 0 1 1) life.Unwritten (name (at 0 1 8) "t") None [] (items.Decl (decl life.Unwritten (types.Atom (at 0 1 11) atom_word.Int sign.Unwritten) (declarator (name (at 0 1 15) "q") (Some (stmts.Queue (at 0 1 16))) None ∷ [])) ∷ procedure (at 0 1 21) procedure_word.Initial (stmts.Statement (at 0 1 29) None (stmts.Block None [] (statements (stmts.Statement (at 0 1 35) None (stmts.For (stmts.Declare (types.Atom (at 0 1 40) atom_word.Int sign.Unwritten) (name (at 0 1 44) "i") (number (at 0 1 48) "0")) (tree.Binary binary_word.Less (at 0 1 53) (plain (at 0 1 51) "i") (number (at 0 1 55) "4")) (stmts.ForStep.Step (at 0 1 58) (target (at 0 1 58) "i") step_word.Increment) (stmts.Statement (at 0 1 63) None (stmts.Call (tree.Expr.Post (root.Plain (name (at 0 1 63) "q")) (tree.Member (name (at 0 1 65) "push_front") (tree.Call (at 0 1 75) (expressions (plain (at 0 1 76) "i" ∷ [])) tree.NoSuffix)))))) ∷ stmts.Statement (at 0 1 80) None (stmts.Foreach (name (at 0 1 89) "q") (name (at 0 1 91) "j") (stmts.Statement (at 0 1 95) None (stmts.Call (system (at 0 1 95) "$write" (text (at 0 1 102) "%0d," ∷ tree.Expr.Post (root.Plain (name (at 0 1 110) "q")) (tree.Select (at 0 1 111) (plain (at 0 1 112) "j") tree.NoSuffix) ∷ []))))) ∷ stmts.Statement (at 0 1 117) None (stmts.Call (system (at 0 1 117) "$write" (text (at 0 1 124) "\\n" ∷ []))) ∷ stmts.Statement (at 0 1 131) None (stmts.Call (system (at 0 1 131) "$display" (text (at 0 1 140) "%0d %0d" ∷ tree.Expr.Post (root.Plain (name (at 0 1 151) "q")) (tree.Member (name (at 0 1 153) "pop_back") (tree.Call (at 0 1 161) tree.NoExpr tree.NoSuffix)) ∷ tree.Expr.Post (root.Plain (name (at 0 1 165) "q")) (tree.Member (name (at 0 1 167) "pop_front") (tree.Call (at 0 1 176) tree.NoExpr tree.NoSuffix)) ∷ []))) ∷ [])) None)) ∷ []) None ∷ []

t42_seen : seen_in (Listed []) (Listed []) (elaborated t42 [] None) 35 ≡ Ran (record { log = lines ("3,2,1,0," ∷ "0 3" ∷ []); wave = lines ("$timescale 1ns $end" ∷ "$scope module t $end" ∷ "$upscope $end" ∷ "$enddefinitions $end" ∷ "#0" ∷ "$dumpvars" ∷ "$end" ∷ []); outcome = Done; time = 0; steps = 32; race = Some (10, at 0 1 15) })
unfolding symbols_of word_of
t42_seen = refl

-- module t; logic [1:0] m; int w; initial for (int i = 0; i < 4; i++) begin m = i; case (m) 0: w = 1; 1, 3: w = 2; default: w = 3; endcase $display("%0d", w); end endmodule
abbrev t43 : List Description
t43 = module_ (at 0 1 1) life.Unwritten (name (at 0 1 8) "t") None [] (items.Decl (decl life.Unwritten (types.WrittenType.Vector (at 0 1 11) vector_word.Logic sign.Unwritten (Some (range (at 0 1 17) (number (at 0 1 18) "1") (number (at 0 1 20) "0")))) (declarator (name (at 0 1 23) "m") None None ∷ [])) ∷ items.Decl (decl life.Unwritten (types.Atom (at 0 1 26) atom_word.Int sign.Unwritten) (declarator (name (at 0 1 30) "w") None None ∷ [])) ∷ procedure (at 0 1 33) procedure_word.Initial (stmts.Statement (at 0 1 41) None (stmts.For (stmts.Declare (types.Atom (at 0 1 46) atom_word.Int sign.Unwritten) (name (at 0 1 50) "i") (number (at 0 1 54) "0")) (tree.Binary binary_word.Less (at 0 1 59) (plain (at 0 1 57) "i") (number (at 0 1 61) "4")) (stmts.ForStep.Step (at 0 1 64) (target (at 0 1 64) "i") step_word.Increment) (stmts.Statement (at 0 1 69) None (stmts.Block None [] (statements (stmts.Statement (at 0 1 75) None (blocking (target (at 0 1 75) "m") None (stmts.Value (plain (at 0 1 79) "i"))) ∷ stmts.Statement (at 0 1 82) None (stmts.Case case_word.Exact (plain (at 0 1 88) "m") (stmts.Labels (expressions (number (at 0 1 91) "0" ∷ [])) (stmts.Statement (at 0 1 94) None (blocking (target (at 0 1 94) "w") None (stmts.Value (number (at 0 1 98) "1")))) (stmts.Labels (expressions (number (at 0 1 101) "1" ∷ number (at 0 1 104) "3" ∷ [])) (stmts.Statement (at 0 1 107) None (blocking (target (at 0 1 107) "w") None (stmts.Value (number (at 0 1 111) "2")))) (stmts.Default (stmts.Statement (at 0 1 123) None (blocking (target (at 0 1 123) "w") None (stmts.Value (number (at 0 1 127) "3")))) stmts.NoCaseItem)))) ∷ stmts.Statement (at 0 1 138) None (stmts.Call (system (at 0 1 138) "$display" (text (at 0 1 147) "%0d" ∷ plain (at 0 1 154) "w" ∷ []))) ∷ [])) None)))) ∷ []) None ∷ []

t43_seen : seen_in (Listed []) (Listed []) (elaborated t43 [] None) 37 ≡ Ran (record { log = lines ("1" ∷ "2" ∷ "3" ∷ "2" ∷ []); wave = lines ("$timescale 1ns $end" ∷ "$scope module t $end" ∷ "$var reg 2 ! m [1:0] $end" ∷ "$var reg 32 \" w $end" ∷ "$upscope $end" ∷ "$enddefinitions $end" ∷ "#0" ∷ "$dumpvars" ∷ "b11 !" ∷ "b10 \"" ∷ "$end" ∷ []); outcome = Done; time = 0; steps = 34; race = Some (8, at 0 1 33) })
unfolding symbols_of word_of
t43_seen = refl

-- module t; logic signed [3:0] a = -1; initial begin case (a) 15: $display("15"); -1: $display("-1"); default: $display("no"); endcase case (4'hf) a: $display("a"); endcase end endmodule
abbrev t44 : List Description
t44 = module_ (at 0 1 1) life.Unwritten (name (at 0 1 8) "t") None [] (items.Decl (decl life.Unwritten (types.WrittenType.Vector (at 0 1 11) vector_word.Logic sign.Signed (Some (range (at 0 1 24) (number (at 0 1 25) "3") (number (at 0 1 27) "0")))) (declarator (name (at 0 1 30) "a") None (Some (stmts.Value (tree.Unary (at 0 1 34) unary_word.Minus (number (at 0 1 35) "1")))) ∷ [])) ∷ procedure (at 0 1 38) procedure_word.Initial (stmts.Statement (at 0 1 46) None (stmts.Block None [] (statements (stmts.Statement (at 0 1 52) None (stmts.Case case_word.Exact (plain (at 0 1 58) "a") (stmts.Labels (expressions (number (at 0 1 61) "15" ∷ [])) (stmts.Statement (at 0 1 65) None (stmts.Call (system (at 0 1 65) "$display" (text (at 0 1 74) "15" ∷ [])))) (stmts.Labels (expressions (tree.Unary (at 0 1 81) unary_word.Minus (number (at 0 1 82) "1") ∷ [])) (stmts.Statement (at 0 1 85) None (stmts.Call (system (at 0 1 85) "$display" (text (at 0 1 94) "-1" ∷ [])))) (stmts.Default (stmts.Statement (at 0 1 110) None (stmts.Call (system (at 0 1 110) "$display" (text (at 0 1 119) "no" ∷ [])))) stmts.NoCaseItem)))) ∷ stmts.Statement (at 0 1 134) None (stmts.Case case_word.Exact (number (at 0 1 140) "4'hf") (stmts.Labels (expressions (plain (at 0 1 146) "a" ∷ [])) (stmts.Statement (at 0 1 149) None (stmts.Call (system (at 0 1 149) "$display" (text (at 0 1 158) "a" ∷ [])))) stmts.NoCaseItem)) ∷ [])) None)) ∷ []) None ∷ []

t44_seen : seen_in (Listed []) (Listed []) (elaborated t44 [] None) 11 ≡ Ran (record { log = lines ("-1" ∷ "a" ∷ []); wave = lines ("$timescale 1ns $end" ∷ "$scope module t $end" ∷ "$var reg 4 ! a [3:0] $end" ∷ "$upscope $end" ∷ "$enddefinitions $end" ∷ "#0" ∷ "$dumpvars" ∷ "b1111 !" ∷ "$end" ∷ []); outcome = Done; time = 0; steps = 8; race = Some (8, at 0 1 38) })
unfolding symbols_of word_of
t44_seen = refl

-- module t; parameter a = 1'b0, b = 3; initial $display("%b %b", a[0], b[1:0]); endmodule
abbrev t45 : List Description
t45 = module_ (at 0 1 1) life.Unwritten (name (at 0 1 8) "t") None [] (items.Param (param param_word.Parameter types.Unwritten (value (name (at 0 1 21) "a") (number (at 0 1 25) "1'b0") ∷ value (name (at 0 1 31) "b") (number (at 0 1 35) "3") ∷ [])) ∷ procedure (at 0 1 38) procedure_word.Initial (stmts.Statement (at 0 1 46) None (stmts.Call (system (at 0 1 46) "$display" (text (at 0 1 55) "%b %b" ∷ tree.Expr.Post (root.Plain (name (at 0 1 64) "a")) (tree.Select (at 0 1 65) (number (at 0 1 66) "0") tree.NoSuffix) ∷ tree.Expr.Post (root.Plain (name (at 0 1 70) "b")) (tree.Part (at 0 1 71) part_word.Fixed (number (at 0 1 72) "1") (number (at 0 1 74) "0") tree.NoSuffix) ∷ [])))) ∷ []) None ∷ []

t45_seen : seen_in (Listed []) (Listed []) (elaborated t45 [] None) 7 ≡ Ran (record { log = lines ("0 11" ∷ []); wave = lines ("$timescale 1ns $end" ∷ "$scope module t $end" ∷ "$upscope $end" ∷ "$enddefinitions $end" ∷ "#0" ∷ "$dumpvars" ∷ "$end" ∷ []); outcome = Done; time = 0; steps = 4; race = Some (8, at 0 1 38) })
unfolding symbols_of word_of
t45_seen = refl

-- module t; logic [7:0] u = 200; byte a = 100; logic signed [3:0] s = -1; logic [3:0] x = 4'b1x0z; initial begin $display("%0d %0d %0d", 9'(u + u), int'(a + a), int'('1)); $display("%0d %0d %b %b", 4'(u), 8'(s), 6'(x), 2'(x)); $display("%0d %0d", 9'(s + 4'b0), 16'(u << 1)); end endmodule
abbrev t46 : List Description
t46 = module_ (at 0 1 1) life.Unwritten (name (at 0 1 8) "t") None [] (items.Decl (decl life.Unwritten (types.WrittenType.Vector (at 0 1 11) vector_word.Logic sign.Unwritten (Some (range (at 0 1 17) (number (at 0 1 18) "7") (number (at 0 1 20) "0")))) (declarator (name (at 0 1 23) "u") None (Some (stmts.Value (number (at 0 1 27) "200"))) ∷ [])) ∷ items.Decl (decl life.Unwritten (types.Atom (at 0 1 32) atom_word.Byte sign.Unwritten) (declarator (name (at 0 1 37) "a") None (Some (stmts.Value (number (at 0 1 41) "100"))) ∷ [])) ∷ items.Decl (decl life.Unwritten (types.WrittenType.Vector (at 0 1 46) vector_word.Logic sign.Signed (Some (range (at 0 1 59) (number (at 0 1 60) "3") (number (at 0 1 62) "0")))) (declarator (name (at 0 1 65) "s") None (Some (stmts.Value (tree.Unary (at 0 1 69) unary_word.Minus (number (at 0 1 70) "1")))) ∷ [])) ∷ items.Decl (decl life.Unwritten (types.WrittenType.Vector (at 0 1 73) vector_word.Logic sign.Unwritten (Some (range (at 0 1 79) (number (at 0 1 80) "3") (number (at 0 1 82) "0")))) (declarator (name (at 0 1 85) "x") None (Some (stmts.Value (number (at 0 1 89) "4'b1x0z"))) ∷ [])) ∷ procedure (at 0 1 98) procedure_word.Initial (stmts.Statement (at 0 1 106) None (stmts.Block None [] (statements (stmts.Statement (at 0 1 112) None (stmts.Call (system (at 0 1 112) "$display" (text (at 0 1 121) "%0d %0d %0d" ∷ tree.Cast (cast.Width (at 0 1 136) (codes "9")) (tree.Binary binary_word.Plus (at 0 1 141) (plain (at 0 1 139) "u") (plain (at 0 1 143) "u")) ∷ tree.Cast (cast.Atom (at 0 1 147) atom_word.Int) (tree.Binary binary_word.Plus (at 0 1 154) (plain (at 0 1 152) "a") (plain (at 0 1 156) "a")) ∷ tree.Cast (cast.Atom (at 0 1 160) atom_word.Int) (number (at 0 1 165) "'1") ∷ []))) ∷ stmts.Statement (at 0 1 171) None (stmts.Call (system (at 0 1 171) "$display" (text (at 0 1 180) "%0d %0d %b %b" ∷ tree.Cast (cast.Width (at 0 1 197) (codes "4")) (plain (at 0 1 200) "u") ∷ tree.Cast (cast.Width (at 0 1 204) (codes "8")) (plain (at 0 1 207) "s") ∷ tree.Cast (cast.Width (at 0 1 211) (codes "6")) (plain (at 0 1 214) "x") ∷ tree.Cast (cast.Width (at 0 1 218) (codes "2")) (plain (at 0 1 221) "x") ∷ []))) ∷ stmts.Statement (at 0 1 226) None (stmts.Call (system (at 0 1 226) "$display" (text (at 0 1 235) "%0d %0d" ∷ tree.Cast (cast.Width (at 0 1 246) (codes "9")) (tree.Binary binary_word.Plus (at 0 1 251) (plain (at 0 1 249) "s") (number (at 0 1 253) "4'b0")) ∷ tree.Cast (cast.Width (at 0 1 260) (codes "16")) (tree.Binary binary_word.ShiftLeft (at 0 1 266) (plain (at 0 1 264) "u") (number (at 0 1 269) "1")) ∷ []))) ∷ [])) None)) ∷ []) None ∷ []

t46_seen : seen_in (Listed []) (Listed []) (elaborated t46 [] None) 10 ≡ Ran (record { log = lines ("400 200 -1" ∷ "8 -1 001x0z 0z" ∷ "15 400" ∷ []); wave = lines ("$timescale 1ns $end" ∷ "$scope module t $end" ∷ "$var reg 8 ! u [7:0] $end" ∷ "$var reg 8 \" a $end" ∷ "$var reg 4 # s [3:0] $end" ∷ "$var reg 4 $ x [3:0] $end" ∷ "$upscope $end" ∷ "$enddefinitions $end" ∷ "#0" ∷ "$dumpvars" ∷ "b11001000 !" ∷ "b1100100 \"" ∷ "b1111 #" ∷ "b1x0z $" ∷ "$end" ∷ []); outcome = Done; time = 0; steps = 7; race = Some (8, at 0 1 98) })
unfolding symbols_of word_of
t46_seen = refl

-- module t; localparam A = 9'(8'd200 + 8'd200), B = int'('1), C = 4'('1), D = byte'(8'd100 + 8'd100), E = 3'(9); typedef logic signed [9:0] w; localparam w F = w'(8'd255 + 8'd1); initial $display("%0d %0d %0d %0d %0d %0d", A, B, C, D, E, F); endmodule
abbrev t47 : List Description
t47 = module_ (at 0 1 1) life.Unwritten (name (at 0 1 8) "t") None [] (items.Param (param param_word.Localparam types.Unwritten (value (name (at 0 1 22) "A") (tree.Cast (cast.Width (at 0 1 26) (codes "9")) (tree.Binary binary_word.Plus (at 0 1 36) (number (at 0 1 29) "8'd200") (number (at 0 1 38) "8'd200"))) ∷ value (name (at 0 1 47) "B") (tree.Cast (cast.Atom (at 0 1 51) atom_word.Int) (number (at 0 1 56) "'1")) ∷ value (name (at 0 1 61) "C") (tree.Cast (cast.Width (at 0 1 65) (codes "4")) (number (at 0 1 68) "'1")) ∷ value (name (at 0 1 73) "D") (tree.Cast (cast.Atom (at 0 1 77) atom_word.Byte) (tree.Binary binary_word.Plus (at 0 1 90) (number (at 0 1 83) "8'd100") (number (at 0 1 92) "8'd100"))) ∷ value (name (at 0 1 101) "E") (tree.Cast (cast.Width (at 0 1 105) (codes "3")) (number (at 0 1 108) "9")) ∷ [])) ∷ items.Typedef (typedef (types.WrittenType.Vector (at 0 1 120) vector_word.Logic sign.Signed (Some (range (at 0 1 133) (number (at 0 1 134) "9") (number (at 0 1 136) "0")))) (name (at 0 1 139) "w")) ∷ items.Param (param param_word.Localparam (types.Written (types.Named (name (at 0 1 153) "w"))) (value (name (at 0 1 155) "F") (tree.Cast (cast.Named (name (at 0 1 159) "w")) (tree.Binary binary_word.Plus (at 0 1 169) (number (at 0 1 162) "8'd255") (number (at 0 1 171) "8'd1"))) ∷ [])) ∷ procedure (at 0 1 178) procedure_word.Initial (stmts.Statement (at 0 1 186) None (stmts.Call (system (at 0 1 186) "$display" (text (at 0 1 195) "%0d %0d %0d %0d %0d %0d" ∷ plain (at 0 1 222) "A" ∷ plain (at 0 1 225) "B" ∷ plain (at 0 1 228) "C" ∷ plain (at 0 1 231) "D" ∷ plain (at 0 1 234) "E" ∷ plain (at 0 1 237) "F" ∷ [])))) ∷ []) None ∷ []

t47_seen : seen_in (Listed []) (Listed []) (elaborated t47 [] None) 7 ≡ Ran (record { log = lines ("400 -1 15 -56 1 256" ∷ []); wave = lines ("$timescale 1ns $end" ∷ "$scope module t $end" ∷ "$upscope $end" ∷ "$enddefinitions $end" ∷ "#0" ∷ "$dumpvars" ∷ "$end" ∷ []); outcome = Done; time = 0; steps = 4; race = Some (8, at 0 1 178) })
unfolding symbols_of word_of
t47_seen = refl

-- module t; typedef enum logic [3:0] {X = 3, Y = 12} e; typedef logic [8:0] w; logic [3:0] n = 9; e v; initial begin v = e'(n + n - 6); $display("%0d %0d", v, w'(n + n)); v = e'('1); $display("%0d", v); $display("%0d", longint'(n * n)); end endmodule
abbrev t48 : List Description
t48 = module_ (at 0 1 1) life.Unwritten (name (at 0 1 8) "t") None [] (items.Typedef (typedef (types.EnumOf (at 0 1 19) (types.WrittenType.Vector (at 0 1 24) vector_word.Logic sign.Unwritten (Some (range (at 0 1 30) (number (at 0 1 31) "3") (number (at 0 1 33) "0")))) (enum_item (name (at 0 1 37) "X") (Some (number (at 0 1 41) "3")) ∷ enum_item (name (at 0 1 44) "Y") (Some (number (at 0 1 48) "12")) ∷ [])) (name (at 0 1 52) "e")) ∷ items.Typedef (typedef (types.WrittenType.Vector (at 0 1 63) vector_word.Logic sign.Unwritten (Some (range (at 0 1 69) (number (at 0 1 70) "8") (number (at 0 1 72) "0")))) (name (at 0 1 75) "w")) ∷ items.Decl (decl life.Unwritten (types.WrittenType.Vector (at 0 1 78) vector_word.Logic sign.Unwritten (Some (range (at 0 1 84) (number (at 0 1 85) "3") (number (at 0 1 87) "0")))) (declarator (name (at 0 1 90) "n") None (Some (stmts.Value (number (at 0 1 94) "9"))) ∷ [])) ∷ items.Decl (decl life.Unwritten (types.Named (name (at 0 1 97) "e")) (declarator (name (at 0 1 99) "v") None None ∷ [])) ∷ procedure (at 0 1 102) procedure_word.Initial (stmts.Statement (at 0 1 110) None (stmts.Block None [] (statements (stmts.Statement (at 0 1 116) None (blocking (target (at 0 1 116) "v") None (stmts.Value (tree.Cast (cast.Named (name (at 0 1 120) "e")) (tree.Binary binary_word.Minus (at 0 1 129) (tree.Binary binary_word.Plus (at 0 1 125) (plain (at 0 1 123) "n") (plain (at 0 1 127) "n")) (number (at 0 1 131) "6"))))) ∷ stmts.Statement (at 0 1 135) None (stmts.Call (system (at 0 1 135) "$display" (text (at 0 1 144) "%0d %0d" ∷ plain (at 0 1 155) "v" ∷ tree.Cast (cast.Named (name (at 0 1 158) "w")) (tree.Binary binary_word.Plus (at 0 1 163) (plain (at 0 1 161) "n") (plain (at 0 1 165) "n")) ∷ []))) ∷ stmts.Statement (at 0 1 170) None (blocking (target (at 0 1 170) "v") None (stmts.Value (tree.Cast (cast.Named (name (at 0 1 174) "e")) (number (at 0 1 177) "'1")))) ∷ stmts.Statement (at 0 1 182) None (stmts.Call (system (at 0 1 182) "$display" (text (at 0 1 191) "%0d" ∷ plain (at 0 1 198) "v" ∷ []))) ∷ stmts.Statement (at 0 1 202) None (stmts.Call (system (at 0 1 202) "$display" (text (at 0 1 211) "%0d" ∷ tree.Cast (cast.Atom (at 0 1 218) atom_word.Longint) (tree.Binary binary_word.Multiply (at 0 1 229) (plain (at 0 1 227) "n") (plain (at 0 1 231) "n")) ∷ []))) ∷ [])) None)) ∷ []) None ∷ []

t48_seen : seen_in (Listed []) (Listed []) (elaborated t48 [] None) 12 ≡ Ran (record { log = lines ("12 18" ∷ "15" ∷ "81" ∷ []); wave = lines ("$timescale 1ns $end" ∷ "$scope module t $end" ∷ "$var reg 4 ! n [3:0] $end" ∷ "$var reg 4 \" v [3:0] $end" ∷ "$upscope $end" ∷ "$enddefinitions $end" ∷ "#0" ∷ "$dumpvars" ∷ "b1001 !" ∷ "b1111 \"" ∷ "$end" ∷ []); outcome = Done; time = 0; steps = 9; race = Some (8, at 0 1 102) })
unfolding symbols_of word_of
t48_seen = refl

-- module t; function automatic byte f(byte n); return n; endfunction logic c = 1; initial begin $display("%0d %0d", int'(f(100) + f(100)), int'(f(c ? -1 : 3) & 8'd255)); $display("%b %0d", 5'(~4'd0), 5'(-4'sd8)); $display("%0d %0d", shortint'(8'd16 ** 2), bit'(2'd1 + 2'd1)); end endmodule
abbrev t49 : List Description
t49 = module_ (at 0 1 1) life.Unwritten (name (at 0 1 8) "t") None [] (items.Routine (routine (head (at 0 1 11) life.Automatic (units.Returns.Value (types.Written (types.Atom (at 0 1 30) atom_word.Byte sign.Unwritten))) (name (at 0 1 35) "f") (argument None (types.Written (types.Atom (at 0 1 37) atom_word.Byte sign.Unwritten)) (name (at 0 1 42) "n") None ∷ [])) [] (stmts.Statement (at 0 1 46) None (stmts.Return (Some (plain (at 0 1 53) "n"))) ∷ []) None) ∷ items.Decl (decl life.Unwritten (types.WrittenType.Vector (at 0 1 68) vector_word.Logic sign.Unwritten None) (declarator (name (at 0 1 74) "c") None (Some (stmts.Value (number (at 0 1 78) "1"))) ∷ [])) ∷ procedure (at 0 1 81) procedure_word.Initial (stmts.Statement (at 0 1 89) None (stmts.Block None [] (statements (stmts.Statement (at 0 1 95) None (stmts.Call (system (at 0 1 95) "$display" (text (at 0 1 104) "%0d %0d" ∷ tree.Cast (cast.Atom (at 0 1 115) atom_word.Int) (tree.Binary binary_word.Plus (at 0 1 127) (tree.Expr.Post (root.Plain (name (at 0 1 120) "f")) (tree.Call (at 0 1 121) (expressions (number (at 0 1 122) "100" ∷ [])) tree.NoSuffix)) (tree.Expr.Post (root.Plain (name (at 0 1 129) "f")) (tree.Call (at 0 1 130) (expressions (number (at 0 1 131) "100" ∷ [])) tree.NoSuffix))) ∷ tree.Cast (cast.Atom (at 0 1 138) atom_word.Int) (tree.Binary binary_word.And (at 0 1 157) (tree.Expr.Post (root.Plain (name (at 0 1 143) "f")) (tree.Call (at 0 1 144) (expressions (tree.Choose (plain (at 0 1 145) "c") (tree.Unary (at 0 1 149) unary_word.Minus (number (at 0 1 150) "1")) (number (at 0 1 154) "3") ∷ [])) tree.NoSuffix)) (number (at 0 1 159) "8'd255")) ∷ []))) ∷ stmts.Statement (at 0 1 169) None (stmts.Call (system (at 0 1 169) "$display" (text (at 0 1 178) "%b %0d" ∷ tree.Cast (cast.Width (at 0 1 188) (codes "5")) (tree.Unary (at 0 1 191) unary_word.Invert (number (at 0 1 192) "4'd0")) ∷ tree.Cast (cast.Width (at 0 1 199) (codes "5")) (tree.Unary (at 0 1 202) unary_word.Minus (number (at 0 1 203) "4'sd8")) ∷ []))) ∷ stmts.Statement (at 0 1 212) None (stmts.Call (system (at 0 1 212) "$display" (text (at 0 1 221) "%0d %0d" ∷ tree.Cast (cast.Atom (at 0 1 232) atom_word.Shortint) (tree.Binary binary_word.Power (at 0 1 248) (number (at 0 1 242) "8'd16") (number (at 0 1 251) "2")) ∷ tree.Cast (cast.Vector (at 0 1 255) vector_word.Bit) (tree.Binary binary_word.Plus (at 0 1 265) (number (at 0 1 260) "2'd1") (number (at 0 1 267) "2'd1")) ∷ []))) ∷ [])) None)) ∷ []) None ∷ []

t49_seen : seen_in (Listed []) (Listed []) (elaborated t49 [] None) 19 ≡ Ran (record { log = lines ("200 255" ∷ "11111 8" ∷ "256 0" ∷ []); wave = lines ("$timescale 1ns $end" ∷ "$scope module t $end" ∷ "$var reg 1 ! c $end" ∷ "$upscope $end" ∷ "$enddefinitions $end" ∷ "#0" ∷ "$dumpvars" ∷ "1!" ∷ "$end" ∷ []); outcome = Done; time = 0; steps = 16; race = Some (8, at 0 1 81) })
unfolding symbols_of word_of
t49_seen = refl

-- module t; logic [7:0] u = 200; wire [8:0] y = 9'(u + u) >> 1; logic [7:0] h; assign h = 9'(u + u) >> 1; logic [3:0] q[$]; initial begin q.push_back(4'(u + 8'd60)); #1 $display("%0d %0d %0d", y, h, q[0]); $display("%0d", int'(byte'(u)) + 1); end endmodule
abbrev t50 : List Description
t50 = module_ (at 0 1 1) life.Unwritten (name (at 0 1 8) "t") None [] (items.Decl (decl life.Unwritten (types.WrittenType.Vector (at 0 1 11) vector_word.Logic sign.Unwritten (Some (range (at 0 1 17) (number (at 0 1 18) "7") (number (at 0 1 20) "0")))) (declarator (name (at 0 1 23) "u") None (Some (stmts.Value (number (at 0 1 27) "200"))) ∷ [])) ∷ net (at 0 1 32) sign.Unwritten (Some (range (at 0 1 37) (number (at 0 1 38) "8") (number (at 0 1 40) "0"))) (net_item (name (at 0 1 43) "y") (Some (tree.Binary binary_word.ShiftRight (at 0 1 57) (tree.Cast (cast.Width (at 0 1 47) (codes "9")) (tree.Binary binary_word.Plus (at 0 1 52) (plain (at 0 1 50) "u") (plain (at 0 1 54) "u"))) (number (at 0 1 60) "1"))) ∷ []) ∷ items.Decl (decl life.Unwritten (types.WrittenType.Vector (at 0 1 63) vector_word.Logic sign.Unwritten (Some (range (at 0 1 69) (number (at 0 1 70) "7") (number (at 0 1 72) "0")))) (declarator (name (at 0 1 75) "h") None None ∷ [])) ∷ items.Assign (assign_item (target (at 0 1 85) "h") (tree.Binary binary_word.ShiftRight (at 0 1 99) (tree.Cast (cast.Width (at 0 1 89) (codes "9")) (tree.Binary binary_word.Plus (at 0 1 94) (plain (at 0 1 92) "u") (plain (at 0 1 96) "u"))) (number (at 0 1 102) "1")) ∷ []) ∷ items.Decl (decl life.Unwritten (types.WrittenType.Vector (at 0 1 105) vector_word.Logic sign.Unwritten (Some (range (at 0 1 111) (number (at 0 1 112) "3") (number (at 0 1 114) "0")))) (declarator (name (at 0 1 117) "q") (Some (stmts.Queue (at 0 1 118))) None ∷ [])) ∷ procedure (at 0 1 123) procedure_word.Initial (stmts.Statement (at 0 1 131) None (stmts.Block None [] (statements (stmts.Statement (at 0 1 137) None (stmts.Call (tree.Expr.Post (root.Plain (name (at 0 1 137) "q")) (tree.Member (name (at 0 1 139) "push_back") (tree.Call (at 0 1 148) (expressions (tree.Cast (cast.Width (at 0 1 149) (codes "4")) (tree.Binary binary_word.Plus (at 0 1 154) (plain (at 0 1 152) "u") (number (at 0 1 156) "8'd60")) ∷ [])) tree.NoSuffix)))) ∷ stmts.Statement (at 0 1 165) None (stmts.After (delay (at 0 1 165) (number (at 0 1 166) "1")) (stmts.Statement (at 0 1 168) None (stmts.Call (system (at 0 1 168) "$display" (text (at 0 1 177) "%0d %0d %0d" ∷ plain (at 0 1 192) "y" ∷ plain (at 0 1 195) "h" ∷ tree.Expr.Post (root.Plain (name (at 0 1 198) "q")) (tree.Select (at 0 1 199) (number (at 0 1 200) "0") tree.NoSuffix) ∷ []))))) ∷ stmts.Statement (at 0 1 205) None (stmts.Call (system (at 0 1 205) "$display" (text (at 0 1 214) "%0d" ∷ tree.Binary binary_word.Plus (at 0 1 236) (tree.Cast (cast.Atom (at 0 1 221) atom_word.Int) (tree.Cast (cast.Atom (at 0 1 226) atom_word.Byte) (plain (at 0 1 232) "u"))) (number (at 0 1 238) "1") ∷ []))) ∷ [])) None)) ∷ []) None ∷ []

t50_seen : seen_in (Listed []) (Listed []) (elaborated t50 [] None) 19 ≡ Ran (record { log = lines ("200 200 4" ∷ "-55" ∷ []); wave = lines ("$timescale 1ns $end" ∷ "$scope module t $end" ∷ "$var reg 8 ! u [7:0] $end" ∷ "$var wire 9 \" y [8:0] $end" ∷ "$var reg 8 # h [7:0] $end" ∷ "$upscope $end" ∷ "$enddefinitions $end" ∷ "#0" ∷ "$dumpvars" ∷ "b11001000 !" ∷ "b11001000 \"" ∷ "b11001000 #" ∷ "$end" ∷ []); outcome = Done; time = 1; steps = 16; race = Some (10, at 0 1 117) })
unfolding symbols_of word_of
t50_seen = refl

-- module t; parameter P = 3; logic [P'(1 + 1):0] v; logic [4'(3'd7 + 3'd1):0] w; string s = string'("ab"); initial $display("%0d %0d %s", $bits(v), $bits(w), s); endmodule
abbrev t51 : List Description
t51 = module_ (at 0 1 1) life.Unwritten (name (at 0 1 8) "t") None [] (items.Param (param param_word.Parameter types.Unwritten (value (name (at 0 1 21) "P") (number (at 0 1 25) "3") ∷ [])) ∷ items.Decl (decl life.Unwritten (types.WrittenType.Vector (at 0 1 28) vector_word.Logic sign.Unwritten (Some (range (at 0 1 34) (tree.Cast (cast.Named (name (at 0 1 35) "P")) (tree.Binary binary_word.Plus (at 0 1 40) (number (at 0 1 38) "1") (number (at 0 1 42) "1"))) (number (at 0 1 45) "0")))) (declarator (name (at 0 1 48) "v") None None ∷ [])) ∷ items.Decl (decl life.Unwritten (types.WrittenType.Vector (at 0 1 51) vector_word.Logic sign.Unwritten (Some (range (at 0 1 57) (tree.Cast (cast.Width (at 0 1 58) (codes "4")) (tree.Binary binary_word.Plus (at 0 1 66) (number (at 0 1 61) "3'd7") (number (at 0 1 68) "3'd1"))) (number (at 0 1 74) "0")))) (declarator (name (at 0 1 77) "w") None None ∷ [])) ∷ items.Decl (decl life.Unwritten (types.Text (at 0 1 80)) (declarator (name (at 0 1 87) "s") None (Some (stmts.Value (tree.Cast (cast.Text (at 0 1 91)) (text (at 0 1 99) "ab")))) ∷ [])) ∷ procedure (at 0 1 106) procedure_word.Initial (stmts.Statement (at 0 1 114) None (stmts.Call (system (at 0 1 114) "$display" (text (at 0 1 123) "%0d %0d %s" ∷ system (at 0 1 137) "$bits" (plain (at 0 1 143) "v" ∷ []) ∷ system (at 0 1 147) "$bits" (plain (at 0 1 153) "w" ∷ []) ∷ plain (at 0 1 157) "s" ∷ [])))) ∷ []) None ∷ []

t51_seen : seen_in (Listed []) (Listed []) (elaborated t51 [] None) 7 ≡ Ran (record { log = lines ("3 9 ab" ∷ []); wave = lines ("$timescale 1ns $end" ∷ "$scope module t $end" ∷ "$var reg 3 ! v [2:0] $end" ∷ "$var reg 9 \" w [8:0] $end" ∷ "$upscope $end" ∷ "$enddefinitions $end" ∷ "#0" ∷ "$dumpvars" ∷ "bx !" ∷ "bx \"" ∷ "$end" ∷ []); outcome = Done; time = 0; steps = 4; race = Some (8, at 0 1 106) })
unfolding symbols_of word_of
t51_seen = refl
