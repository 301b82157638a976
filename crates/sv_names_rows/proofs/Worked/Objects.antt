-- Whole programs with classes, mailboxes, semaphores and program blocks: what a run of the flat design shows.
use Rattle.std.proofs.Common.{◌≡◌, List, [], ◌∷◌, true, false, refl}
use Rattle.std.specs.Prelude.{Some, None}
use Rattle.sv_value.specs.Vector.{symbols_of, word_of}
use Rattle.sv_value.specs.declared.place.FaultKind.TheVariants as kind
use Rattle.sv_flat.specs.declared.choices.Choices.TheVariants.{Drawn, Listed}
use Rattle.sv_flat.specs.Directed.{Done, Faulted, Spent}
use Rattle.sv_tree.specs.declared.word.UnaryWord.TheVariants as unary_word
use Rattle.sv_tree.specs.declared.word.BinaryWord.TheVariants as binary_word
use Rattle.sv_tree.specs.declared.word.VectorWord.TheVariants as vector_word
use Rattle.sv_tree.specs.declared.word.AtomWord.TheVariants as atom_word
use Rattle.sv_tree.specs.declared.word.Sign.TheVariants as sign
use Rattle.sv_tree.specs.declared.word.Life.TheVariants as life
use Rattle.sv_tree.specs.declared.word.JoinWord.TheVariants as join_word
use Rattle.sv_tree.specs.declared.word.EdgeWord.TheVariants as edge
use Rattle.sv_tree.specs.declared.word.StepWord.TheVariants as step_word
use Rattle.sv_tree.specs.declared.word.ProcedureWord.TheVariants as procedure_word
use Rattle.sv_tree.specs.declared.word.Direction.TheVariants as direction
use Rattle.sv_tree.specs.declared.word.PortDirection.TheVariants as port_direction
use Rattle.sv_tree.specs.declared.word.ParamWord.TheVariants as param_word
use Rattle.sv_tree.specs.declared.expr.Root.TheVariants as root
use Rattle.sv_tree.specs.Expr as tree
use Rattle.sv_tree.specs.Types as types
use Rattle.sv_tree.specs.Stmt as stmts
use Rattle.sv_tree.specs.Units as units
use Rattle.sv_tree.specs.Items as items
use Rattle.sv_tree.specs.Descriptions as descriptions
use Rattle.sv_tree.specs.Descriptions.{Description}
use Rattle.sv_names.specs.Design.{broken, elaborated}
use Rattle.sv_names_rows.proofs.Kit.{argument, at, blocking, class_, clocking, decl, declarator, delay, event_part, expressions, fault, head, instance, instances, lines, method, module_, name, nonblocking, number, param, plain, port, procedure, program_, property, qualifiers, range, routine, seen_in, sided, statements, system, target, text, unqualified, value, Ran}

-- module top;
--   logic clk = 0;
--   always #5 clk = ~clk;
--   logic [7:0] q = 0;
--   always_ff @(posedge clk) q <= q + 1;
--   test t(.clk, .q);
-- endmodule
-- program test(input logic clk, input logic [7:0] q);
--   clocking cb @(posedge clk);
--     input q;
--   endclocking
--   initial repeat (2) begin
--     @(cb);
--     $display("%0t %0d", $time, cb.q);
--   end
-- endprogram
abbrev t11 : List Description
t11 = module_ (at 0 1 1) life.Unwritten (name (at 0 1 8) "top") None [] (items.Decl (decl life.Unwritten (types.WrittenType.Vector (at 0 2 3) vector_word.Logic sign.Unwritten None) (declarator (name (at 0 2 9) "clk") None (Some (stmts.Value (number (at 0 2 15) "0"))) ∷ [])) ∷ procedure (at 0 3 3) procedure_word.Always (stmts.Statement (at 0 3 10) None (stmts.After (delay (at 0 3 10) (number (at 0 3 11) "5")) (stmts.Statement (at 0 3 13) None (blocking (target (at 0 3 13) "clk") None (stmts.Value (tree.Unary (at 0 3 19) unary_word.Invert (plain (at 0 3 20) "clk"))))))) ∷ items.Decl (decl life.Unwritten (types.WrittenType.Vector (at 0 4 3) vector_word.Logic sign.Unwritten (Some (range (at 0 4 9) (number (at 0 4 10) "7") (number (at 0 4 12) "0")))) (declarator (name (at 0 4 15) "q") None (Some (stmts.Value (number (at 0 4 19) "0"))) ∷ [])) ∷ procedure (at 0 5 3) procedure_word.AlwaysFf (stmts.Statement (at 0 5 13) None (stmts.On (stmts.Parts (event_part edge.Posedge (plain (at 0 5 23) "clk") None ∷ [])) (stmts.Statement (at 0 5 28) None (nonblocking (target (at 0 5 28) "q") None (tree.Binary binary_word.Plus (at 0 5 35) (plain (at 0 5 33) "q") (number (at 0 5 37) "1")))))) ∷ instances (name (at 0 6 3) "test") [] (instance (name (at 0 6 8) "t") (units.Named (at 0 6 10) (name (at 0 6 11) "clk") ∷ units.Named (at 0 6 16) (name (at 0 6 17) "q") ∷ []) ∷ []) ∷ []) None ∷ program_ (at 0 8 1) life.Unwritten (name (at 0 8 9) "test") None (port (Some port_direction.Input) false (types.Written (types.WrittenType.Vector (at 0 8 20) vector_word.Logic sign.Unwritten None)) (name (at 0 8 26) "clk") ∷ port (Some port_direction.Input) false (types.Written (types.WrittenType.Vector (at 0 8 37) vector_word.Logic sign.Unwritten (Some (range (at 0 8 43) (number (at 0 8 44) "7") (number (at 0 8 46) "0"))))) (name (at 0 8 49) "q") ∷ []) (clocking None (name (at 0 9 12) "cb") edge.Posedge (name (at 0 9 25) "clk") (units.Signals (sided direction.Input None ∷ []) (name (at 0 10 11) "q" ∷ []) ∷ []) None ∷ procedure (at 0 12 3) procedure_word.Initial (stmts.Statement (at 0 12 11) None (stmts.Repeat (number (at 0 12 19) "2") (stmts.Statement (at 0 12 22) None (stmts.Block None [] (statements (stmts.Statement (at 0 13 5) None (stmts.On (stmts.Parts (event_part edge.Unwritten (plain (at 0 13 7) "cb") None ∷ [])) (stmts.Statement (at 0 13 10) None stmts.Null)) ∷ stmts.Statement (at 0 14 5) None (stmts.Call (system (at 0 14 5) "$display" (text (at 0 14 14) "%0t %0d" ∷ tree.System (name (at 0 14 25) "$time") tree.Unwritten ∷ tree.Expr.Post (root.Plain (name (at 0 14 32) "cb")) (tree.Member (name (at 0 14 35) "q") tree.NoSuffix) ∷ []))) ∷ [])) None)))) ∷ []) None ∷ []

t11_seen : seen_in (Listed []) (Listed []) (elaborated t11 [] None) 69 ≡ Ran (record { log = lines ("5 0" ∷ "15 1" ∷ []); wave = lines ("$timescale 1ns $end" ∷ "$scope module top $end" ∷ "$var reg 1 ! clk $end" ∷ "$var reg 8 \" q [7:0] $end" ∷ "$scope module t $end" ∷ "$var wire 1 # clk $end" ∷ "$var wire 8 $ q [7:0] $end" ∷ "$upscope $end" ∷ "$upscope $end" ∷ "$enddefinitions $end" ∷ "#0" ∷ "$dumpvars" ∷ "0!" ∷ "b0 \"" ∷ "0#" ∷ "b0 $" ∷ "$end" ∷ "#5" ∷ "1!" ∷ "b1 \"" ∷ "1#" ∷ "b1 $" ∷ "#10" ∷ "0!" ∷ "0#" ∷ "#15" ∷ "1!" ∷ "b10 \"" ∷ "1#" ∷ "b10 $" ∷ []); outcome = Done; time = 15; steps = 66; race = None })
unfolding symbols_of word_of
t11_seen = refl

-- module top;
--   logic clk = 0;
--   always #5 clk = ~clk;
--   logic [7:0] q = 0;
--   always_ff @(posedge clk) q <= q + 1;
--   test t(.clk, .q);
-- endmodule
-- program test(input logic clk, input logic [7:0] q);
--   clocking cb @(posedge clk);
--     input #0 q;
--   endclocking
--   initial repeat (2) begin
--     @(cb);
--     $display("%0t %0d", $time, cb.q);
--   end
-- endprogram
abbrev t12 : List Description
t12 = module_ (at 0 1 1) life.Unwritten (name (at 0 1 8) "top") None [] (items.Decl (decl life.Unwritten (types.WrittenType.Vector (at 0 2 3) vector_word.Logic sign.Unwritten None) (declarator (name (at 0 2 9) "clk") None (Some (stmts.Value (number (at 0 2 15) "0"))) ∷ [])) ∷ procedure (at 0 3 3) procedure_word.Always (stmts.Statement (at 0 3 10) None (stmts.After (delay (at 0 3 10) (number (at 0 3 11) "5")) (stmts.Statement (at 0 3 13) None (blocking (target (at 0 3 13) "clk") None (stmts.Value (tree.Unary (at 0 3 19) unary_word.Invert (plain (at 0 3 20) "clk"))))))) ∷ items.Decl (decl life.Unwritten (types.WrittenType.Vector (at 0 4 3) vector_word.Logic sign.Unwritten (Some (range (at 0 4 9) (number (at 0 4 10) "7") (number (at 0 4 12) "0")))) (declarator (name (at 0 4 15) "q") None (Some (stmts.Value (number (at 0 4 19) "0"))) ∷ [])) ∷ procedure (at 0 5 3) procedure_word.AlwaysFf (stmts.Statement (at 0 5 13) None (stmts.On (stmts.Parts (event_part edge.Posedge (plain (at 0 5 23) "clk") None ∷ [])) (stmts.Statement (at 0 5 28) None (nonblocking (target (at 0 5 28) "q") None (tree.Binary binary_word.Plus (at 0 5 35) (plain (at 0 5 33) "q") (number (at 0 5 37) "1")))))) ∷ instances (name (at 0 6 3) "test") [] (instance (name (at 0 6 8) "t") (units.Named (at 0 6 10) (name (at 0 6 11) "clk") ∷ units.Named (at 0 6 16) (name (at 0 6 17) "q") ∷ []) ∷ []) ∷ []) None ∷ program_ (at 0 8 1) life.Unwritten (name (at 0 8 9) "test") None (port (Some port_direction.Input) false (types.Written (types.WrittenType.Vector (at 0 8 20) vector_word.Logic sign.Unwritten None)) (name (at 0 8 26) "clk") ∷ port (Some port_direction.Input) false (types.Written (types.WrittenType.Vector (at 0 8 37) vector_word.Logic sign.Unwritten (Some (range (at 0 8 43) (number (at 0 8 44) "7") (number (at 0 8 46) "0"))))) (name (at 0 8 49) "q") ∷ []) (clocking None (name (at 0 9 12) "cb") edge.Posedge (name (at 0 9 25) "clk") (units.Signals (sided direction.Input (Some (units.Amount (at 0 10 11) (number (at 0 10 12) "0"))) ∷ []) (name (at 0 10 14) "q" ∷ []) ∷ []) None ∷ procedure (at 0 12 3) procedure_word.Initial (stmts.Statement (at 0 12 11) None (stmts.Repeat (number (at 0 12 19) "2") (stmts.Statement (at 0 12 22) None (stmts.Block None [] (statements (stmts.Statement (at 0 13 5) None (stmts.On (stmts.Parts (event_part edge.Unwritten (plain (at 0 13 7) "cb") None ∷ [])) (stmts.Statement (at 0 13 10) None stmts.Null)) ∷ stmts.Statement (at 0 14 5) None (stmts.Call (system (at 0 14 5) "$display" (text (at 0 14 14) "%0t %0d" ∷ tree.System (name (at 0 14 25) "$time") tree.Unwritten ∷ tree.Expr.Post (root.Plain (name (at 0 14 32) "cb")) (tree.Member (name (at 0 14 35) "q") tree.NoSuffix) ∷ []))) ∷ [])) None)))) ∷ []) None ∷ []

t12_seen : seen_in (Listed []) (Listed []) (elaborated t12 [] None) 69 ≡ Ran (record { log = lines ("5 1" ∷ "15 2" ∷ []); wave = lines ("$timescale 1ns $end" ∷ "$scope module top $end" ∷ "$var reg 1 ! clk $end" ∷ "$var reg 8 \" q [7:0] $end" ∷ "$scope module t $end" ∷ "$var wire 1 # clk $end" ∷ "$var wire 8 $ q [7:0] $end" ∷ "$upscope $end" ∷ "$upscope $end" ∷ "$enddefinitions $end" ∷ "#0" ∷ "$dumpvars" ∷ "0!" ∷ "b0 \"" ∷ "0#" ∷ "b0 $" ∷ "$end" ∷ "#5" ∷ "1!" ∷ "b1 \"" ∷ "1#" ∷ "b1 $" ∷ "#10" ∷ "0!" ∷ "0#" ∷ "#15" ∷ "1!" ∷ "b10 \"" ∷ "1#" ∷ "b10 $" ∷ []); outcome = Done; time = 15; steps = 66; race = None })
unfolding symbols_of word_of
t12_seen = refl

-- module top;
--   logic clk = 0;
--   always #5 clk = ~clk;
--   logic d, q;
--   always_ff @(posedge clk) q <= d;
--   always @(d) $display("%0t %b", $time, d);
--   always @(q) $display("%0t %b", $time, q);
--   test t(.clk, .d);
-- endmodule
-- program test(input logic clk, output logic d);
--   clocking cb @(posedge clk);
--     output d;
--   endclocking
--   initial begin
--     #7 cb.d <= 1;
--     #30;
--   end
-- endprogram
abbrev t13 : List Description
t13 = module_ (at 0 1 1) life.Unwritten (name (at 0 1 8) "top") None [] (items.Decl (decl life.Unwritten (types.WrittenType.Vector (at 0 2 3) vector_word.Logic sign.Unwritten None) (declarator (name (at 0 2 9) "clk") None (Some (stmts.Value (number (at 0 2 15) "0"))) ∷ [])) ∷ procedure (at 0 3 3) procedure_word.Always (stmts.Statement (at 0 3 10) None (stmts.After (delay (at 0 3 10) (number (at 0 3 11) "5")) (stmts.Statement (at 0 3 13) None (blocking (target (at 0 3 13) "clk") None (stmts.Value (tree.Unary (at 0 3 19) unary_word.Invert (plain (at 0 3 20) "clk"))))))) ∷ items.Decl (decl life.Unwritten (types.WrittenType.Vector (at 0 4 3) vector_word.Logic sign.Unwritten None) (declarator (name (at 0 4 9) "d") None None ∷ declarator (name (at 0 4 12) "q") None None ∷ [])) ∷ procedure (at 0 5 3) procedure_word.AlwaysFf (stmts.Statement (at 0 5 13) None (stmts.On (stmts.Parts (event_part edge.Posedge (plain (at 0 5 23) "clk") None ∷ [])) (stmts.Statement (at 0 5 28) None (nonblocking (target (at 0 5 28) "q") None (plain (at 0 5 33) "d"))))) ∷ procedure (at 0 6 3) procedure_word.Always (stmts.Statement (at 0 6 10) None (stmts.On (stmts.Parts (event_part edge.Unwritten (plain (at 0 6 12) "d") None ∷ [])) (stmts.Statement (at 0 6 15) None (stmts.Call (system (at 0 6 15) "$display" (text (at 0 6 24) "%0t %b" ∷ tree.System (name (at 0 6 34) "$time") tree.Unwritten ∷ plain (at 0 6 41) "d" ∷ [])))))) ∷ procedure (at 0 7 3) procedure_word.Always (stmts.Statement (at 0 7 10) None (stmts.On (stmts.Parts (event_part edge.Unwritten (plain (at 0 7 12) "q") None ∷ [])) (stmts.Statement (at 0 7 15) None (stmts.Call (system (at 0 7 15) "$display" (text (at 0 7 24) "%0t %b" ∷ tree.System (name (at 0 7 34) "$time") tree.Unwritten ∷ plain (at 0 7 41) "q" ∷ [])))))) ∷ instances (name (at 0 8 3) "test") [] (instance (name (at 0 8 8) "t") (units.Named (at 0 8 10) (name (at 0 8 11) "clk") ∷ units.Named (at 0 8 16) (name (at 0 8 17) "d") ∷ []) ∷ []) ∷ []) None ∷ program_ (at 0 10 1) life.Unwritten (name (at 0 10 9) "test") None (port (Some port_direction.Input) false (types.Written (types.WrittenType.Vector (at 0 10 20) vector_word.Logic sign.Unwritten None)) (name (at 0 10 26) "clk") ∷ port (Some port_direction.Output) false (types.Written (types.WrittenType.Vector (at 0 10 38) vector_word.Logic sign.Unwritten None)) (name (at 0 10 44) "d") ∷ []) (clocking None (name (at 0 11 12) "cb") edge.Posedge (name (at 0 11 25) "clk") (units.Signals (sided direction.Output None ∷ []) (name (at 0 12 12) "d" ∷ []) ∷ []) None ∷ procedure (at 0 14 3) procedure_word.Initial (stmts.Statement (at 0 14 11) None (stmts.Block None [] (statements (stmts.Statement (at 0 15 5) None (stmts.After (delay (at 0 15 5) (number (at 0 15 6) "7")) (stmts.Statement (at 0 15 8) None (nonblocking (tree.Lval.Post (root.Plain (name (at 0 15 8) "cb")) (tree.Member (name (at 0 15 11) "d") tree.NoSuffix)) None (number (at 0 15 16) "1")))) ∷ stmts.Statement (at 0 16 5) None (stmts.After (delay (at 0 16 5) (number (at 0 16 6) "30")) (stmts.Statement (at 0 16 8) None stmts.Null)) ∷ [])) None)) ∷ []) None ∷ []

t13_seen : seen_in (Listed []) (Listed []) (elaborated t13 [] None) 120 ≡ Ran (record { log = lines ("15 1" ∷ "25 1" ∷ []); wave = lines ("$timescale 1ns $end" ∷ "$scope module top $end" ∷ "$var reg 1 ! clk $end" ∷ "$var reg 1 \" d $end" ∷ "$var reg 1 # q $end" ∷ "$scope module t $end" ∷ "$var wire 1 $ clk $end" ∷ "$var reg 1 % d $end" ∷ "$upscope $end" ∷ "$upscope $end" ∷ "$enddefinitions $end" ∷ "#0" ∷ "$dumpvars" ∷ "0!" ∷ "x\"" ∷ "x#" ∷ "0$" ∷ "x%" ∷ "$end" ∷ "#5" ∷ "1!" ∷ "1$" ∷ "#10" ∷ "0!" ∷ "0$" ∷ "#15" ∷ "1!" ∷ "1\"" ∷ "1$" ∷ "1%" ∷ "#20" ∷ "0!" ∷ "0$" ∷ "#25" ∷ "1!" ∷ "1#" ∷ "1$" ∷ "#30" ∷ "0!" ∷ "0$" ∷ "#35" ∷ "1!" ∷ "1$" ∷ []); outcome = Spent; time = 37; steps = 120; race = Some (8, at 0 6 3) })
unfolding symbols_of word_of
t13_seen = refl

-- class B;
--   virtual function void v(); $display("B"); endfunction
--   function void w(); $display("B"); endfunction
-- endclass
-- class D extends B;
--   virtual function void v(); $display("D"); endfunction
--   function void w(); $display("D"); endfunction
-- endclass
-- module t;
--   D d; B b;
--   initial begin d = new; b = d; b.v(); b.w(); end
-- endmodule
abbrev t16 : List Description
t16 = descriptions.Item (items.Class (class_ (at 0 1 1) false (name (at 0 1 7) "B") None (method (qualifiers false false false true) (routine (head (at 0 2 11) life.Unwritten units.Void (name (at 0 2 25) "v") []) [] (stmts.Statement (at 0 2 30) None (stmts.Call (system (at 0 2 30) "$display" (text (at 0 2 39) "B" ∷ []))) ∷ []) None) ∷ method unqualified (routine (head (at 0 3 3) life.Unwritten units.Void (name (at 0 3 17) "w") []) [] (stmts.Statement (at 0 3 22) None (stmts.Call (system (at 0 3 22) "$display" (text (at 0 3 31) "B" ∷ []))) ∷ []) None) ∷ []) None)) ∷ descriptions.Item (items.Class (class_ (at 0 5 1) false (name (at 0 5 7) "D") (Some (name (at 0 5 17) "B")) (method (qualifiers false false false true) (routine (head (at 0 6 11) life.Unwritten units.Void (name (at 0 6 25) "v") []) [] (stmts.Statement (at 0 6 30) None (stmts.Call (system (at 0 6 30) "$display" (text (at 0 6 39) "D" ∷ []))) ∷ []) None) ∷ method unqualified (routine (head (at 0 7 3) life.Unwritten units.Void (name (at 0 7 17) "w") []) [] (stmts.Statement (at 0 7 22) None (stmts.Call (system (at 0 7 22) "$display" (text (at 0 7 31) "D" ∷ []))) ∷ []) None) ∷ []) None)) ∷ module_ (at 0 9 1) life.Unwritten (name (at 0 9 8) "t") None [] (items.Decl (decl life.Unwritten (types.Named (name (at 0 10 3) "D")) (declarator (name (at 0 10 5) "d") None None ∷ [])) ∷ items.Decl (decl life.Unwritten (types.Named (name (at 0 10 8) "B")) (declarator (name (at 0 10 10) "b") None None ∷ [])) ∷ procedure (at 0 11 3) procedure_word.Initial (stmts.Statement (at 0 11 11) None (stmts.Block None [] (statements (stmts.Statement (at 0 11 17) None (blocking (target (at 0 11 17) "d") None (stmts.New (at 0 11 21) tree.Unwritten)) ∷ stmts.Statement (at 0 11 26) None (blocking (target (at 0 11 26) "b") None (stmts.Value (plain (at 0 11 30) "d"))) ∷ stmts.Statement (at 0 11 33) None (stmts.Call (tree.Expr.Post (root.Plain (name (at 0 11 33) "b")) (tree.Member (name (at 0 11 35) "v") (tree.Call (at 0 11 36) tree.NoExpr tree.NoSuffix)))) ∷ stmts.Statement (at 0 11 40) None (stmts.Call (tree.Expr.Post (root.Plain (name (at 0 11 40) "b")) (tree.Member (name (at 0 11 42) "w") (tree.Call (at 0 11 43) tree.NoExpr tree.NoSuffix)))) ∷ [])) None)) ∷ []) None ∷ []

t16_seen : seen_in (Listed []) (Listed []) (elaborated t16 [] None) 19 ≡ Ran (record { log = lines ("D" ∷ "B" ∷ []); wave = lines ("$timescale 1ns $end" ∷ "$scope module t $end" ∷ "$upscope $end" ∷ "$enddefinitions $end" ∷ "#0" ∷ "$dumpvars" ∷ "$end" ∷ []); outcome = Done; time = 0; steps = 16; race = Some (10, at 0 10 5) })
unfolding symbols_of word_of
t16_seen = refl

-- class B; function void f(); endfunction endclass
-- module t; initial begin B p;
-- p.f(); end endmodule
abbrev t17 : List Description
t17 = descriptions.Item (items.Class (class_ (at 0 1 1) false (name (at 0 1 7) "B") None (method unqualified (routine (head (at 0 1 10) life.Unwritten units.Void (name (at 0 1 24) "f") []) [] [] None) ∷ []) None)) ∷ module_ (at 0 2 1) life.Unwritten (name (at 0 2 8) "t") None [] (procedure (at 0 2 11) procedure_word.Initial (stmts.Statement (at 0 2 19) None (stmts.Block None (decl life.Unwritten (types.Named (name (at 0 2 25) "B")) (declarator (name (at 0 2 27) "p") None None ∷ []) ∷ []) (statements (stmts.Statement (at 0 3 1) None (stmts.Call (tree.Expr.Post (root.Plain (name (at 0 3 1) "p")) (tree.Member (name (at 0 3 3) "f") (tree.Call (at 0 3 4) tree.NoExpr tree.NoSuffix)))) ∷ [])) None)) ∷ []) None ∷ []

t17_seen : seen_in (Listed []) (Listed []) (elaborated t17 [] None) 7 ≡ Ran (record { log = []; wave = lines ("$timescale 1ns $end" ∷ "$scope module t $end" ∷ "$upscope $end" ∷ "$enddefinitions $end" ∷ []); outcome = Faulted (record { kind = kind.Null; at = at 0 3 1; time = 0 }); time = 0; steps = 4; race = Some (8, at 0 2 11) })
unfolding symbols_of word_of
t17_seen = refl

-- module t; mailbox #(int) m = new(1); int v; initial begin m.put(1); $display("p1 %0t",$time); m.put(2); $display("p2 %0t",$time); end initial begin #5 m.get(v); $display("g %0d %0t",v,$time); m.get(v); $display("g %0d",v); $display("t %0d",m.try_get(v)); end endmodule
abbrev t18 : List Description
t18 = module_ (at 0 1 1) life.Unwritten (name (at 0 1 8) "t") None [] (items.Decl (decl life.Unwritten (types.MailboxOf (at 0 1 11) (types.Atom (at 0 1 21) atom_word.Int sign.Unwritten)) (declarator (name (at 0 1 26) "m") None (Some (stmts.New (at 0 1 30) (tree.Written (expressions (number (at 0 1 34) "1" ∷ []))))) ∷ [])) ∷ items.Decl (decl life.Unwritten (types.Atom (at 0 1 38) atom_word.Int sign.Unwritten) (declarator (name (at 0 1 42) "v") None None ∷ [])) ∷ procedure (at 0 1 45) procedure_word.Initial (stmts.Statement (at 0 1 53) None (stmts.Block None [] (statements (stmts.Statement (at 0 1 59) None (stmts.Call (tree.Expr.Post (root.Plain (name (at 0 1 59) "m")) (tree.Member (name (at 0 1 61) "put") (tree.Call (at 0 1 64) (expressions (number (at 0 1 65) "1" ∷ [])) tree.NoSuffix)))) ∷ stmts.Statement (at 0 1 69) None (stmts.Call (system (at 0 1 69) "$display" (text (at 0 1 78) "p1 %0t" ∷ tree.System (name (at 0 1 87) "$time") tree.Unwritten ∷ []))) ∷ stmts.Statement (at 0 1 95) None (stmts.Call (tree.Expr.Post (root.Plain (name (at 0 1 95) "m")) (tree.Member (name (at 0 1 97) "put") (tree.Call (at 0 1 100) (expressions (number (at 0 1 101) "2" ∷ [])) tree.NoSuffix)))) ∷ stmts.Statement (at 0 1 105) None (stmts.Call (system (at 0 1 105) "$display" (text (at 0 1 114) "p2 %0t" ∷ tree.System (name (at 0 1 123) "$time") tree.Unwritten ∷ []))) ∷ [])) None)) ∷ procedure (at 0 1 135) procedure_word.Initial (stmts.Statement (at 0 1 143) None (stmts.Block None [] (statements (stmts.Statement (at 0 1 149) None (stmts.After (delay (at 0 1 149) (number (at 0 1 150) "5")) (stmts.Statement (at 0 1 152) None (stmts.Call (tree.Expr.Post (root.Plain (name (at 0 1 152) "m")) (tree.Member (name (at 0 1 154) "get") (tree.Call (at 0 1 157) (expressions (plain (at 0 1 158) "v" ∷ [])) tree.NoSuffix)))))) ∷ stmts.Statement (at 0 1 162) None (stmts.Call (system (at 0 1 162) "$display" (text (at 0 1 171) "g %0d %0t" ∷ plain (at 0 1 183) "v" ∷ tree.System (name (at 0 1 185) "$time") tree.Unwritten ∷ []))) ∷ stmts.Statement (at 0 1 193) None (stmts.Call (tree.Expr.Post (root.Plain (name (at 0 1 193) "m")) (tree.Member (name (at 0 1 195) "get") (tree.Call (at 0 1 198) (expressions (plain (at 0 1 199) "v" ∷ [])) tree.NoSuffix)))) ∷ stmts.Statement (at 0 1 203) None (stmts.Call (system (at 0 1 203) "$display" (text (at 0 1 212) "g %0d" ∷ plain (at 0 1 220) "v" ∷ []))) ∷ stmts.Statement (at 0 1 224) None (stmts.Call (system (at 0 1 224) "$display" (text (at 0 1 233) "t %0d" ∷ tree.Expr.Post (root.Plain (name (at 0 1 241) "m")) (tree.Member (name (at 0 1 243) "try_get") (tree.Call (at 0 1 250) (expressions (plain (at 0 1 251) "v" ∷ [])) tree.NoSuffix)) ∷ []))) ∷ [])) None)) ∷ []) None ∷ []

t18_seen : seen_in (Listed []) (Listed []) (elaborated t18 [] None) 25 ≡ Ran (record { log = lines ("p1 0" ∷ "g 1 5" ∷ "g 2" ∷ "t 0" ∷ "p2 5" ∷ []); wave = lines ("$timescale 1ns $end" ∷ "$scope module t $end" ∷ "$var reg 32 ! v $end" ∷ "$upscope $end" ∷ "$enddefinitions $end" ∷ "#0" ∷ "$dumpvars" ∷ "b0 !" ∷ "$end" ∷ "#5" ∷ "b10 !" ∷ []); outcome = Done; time = 5; steps = 22; race = Some (10, at 0 1 26) })
unfolding symbols_of word_of
t18_seen = refl

-- module t; semaphore s = new(0); initial begin s.get(2); $display("A %0t",$time); end initial begin s.get(1); $display("B"); end initial begin #1 s.put(1); #1 s.put(1); end endmodule
abbrev t19 : List Description
t19 = module_ (at 0 1 1) life.Unwritten (name (at 0 1 8) "t") None [] (items.Decl (decl life.Unwritten (types.Semaphore (at 0 1 11)) (declarator (name (at 0 1 21) "s") None (Some (stmts.New (at 0 1 25) (tree.Written (expressions (number (at 0 1 29) "0" ∷ []))))) ∷ [])) ∷ procedure (at 0 1 33) procedure_word.Initial (stmts.Statement (at 0 1 41) None (stmts.Block None [] (statements (stmts.Statement (at 0 1 47) None (stmts.Call (tree.Expr.Post (root.Plain (name (at 0 1 47) "s")) (tree.Member (name (at 0 1 49) "get") (tree.Call (at 0 1 52) (expressions (number (at 0 1 53) "2" ∷ [])) tree.NoSuffix)))) ∷ stmts.Statement (at 0 1 57) None (stmts.Call (system (at 0 1 57) "$display" (text (at 0 1 66) "A %0t" ∷ tree.System (name (at 0 1 74) "$time") tree.Unwritten ∷ []))) ∷ [])) None)) ∷ procedure (at 0 1 86) procedure_word.Initial (stmts.Statement (at 0 1 94) None (stmts.Block None [] (statements (stmts.Statement (at 0 1 100) None (stmts.Call (tree.Expr.Post (root.Plain (name (at 0 1 100) "s")) (tree.Member (name (at 0 1 102) "get") (tree.Call (at 0 1 105) (expressions (number (at 0 1 106) "1" ∷ [])) tree.NoSuffix)))) ∷ stmts.Statement (at 0 1 110) None (stmts.Call (system (at 0 1 110) "$display" (text (at 0 1 119) "B" ∷ []))) ∷ [])) None)) ∷ procedure (at 0 1 129) procedure_word.Initial (stmts.Statement (at 0 1 137) None (stmts.Block None [] (statements (stmts.Statement (at 0 1 143) None (stmts.After (delay (at 0 1 143) (number (at 0 1 144) "1")) (stmts.Statement (at 0 1 146) None (stmts.Call (tree.Expr.Post (root.Plain (name (at 0 1 146) "s")) (tree.Member (name (at 0 1 148) "put") (tree.Call (at 0 1 151) (expressions (number (at 0 1 152) "1" ∷ [])) tree.NoSuffix)))))) ∷ stmts.Statement (at 0 1 156) None (stmts.After (delay (at 0 1 156) (number (at 0 1 157) "1")) (stmts.Statement (at 0 1 159) None (stmts.Call (tree.Expr.Post (root.Plain (name (at 0 1 159) "s")) (tree.Member (name (at 0 1 161) "put") (tree.Call (at 0 1 164) (expressions (number (at 0 1 165) "1" ∷ [])) tree.NoSuffix)))))) ∷ [])) None)) ∷ []) None ∷ []

t19_seen : seen_in (Listed []) (Listed []) (elaborated t19 [] None) 27 ≡ Ran (record { log = lines ("A 2" ∷ []); wave = lines ("$timescale 1ns $end" ∷ "$scope module t $end" ∷ "$upscope $end" ∷ "$enddefinitions $end" ∷ "#0" ∷ "$dumpvars" ∷ "$end" ∷ []); outcome = Done; time = 2; steps = 24; race = Some (10, at 0 1 21) })
unfolding symbols_of word_of
t19_seen = refl

-- module add(input logic clk, input logic [7:0] a, b, output logic [8:0] s);
--   always_ff @(posedge clk) s <= a + b;
-- endmodule
-- module top;
--   logic clk = 0;
--   always #5 clk = ~clk;
--   logic [7:0] a, b;
--   logic [8:0] s;
--   add u(.*);
--   test t(.*);
-- endmodule
-- program test(input logic clk, output logic [7:0] a, b, input logic [8:0] s);
--   clocking cb @(posedge clk);
--     input s;
--     output a, b;
--   endclocking
--   class Item;
--     int a, b;
--     function new(int x, int y); a = x; b = y; endfunction
--     virtual function int sum(); return a + b; endfunction
--   endclass
--   class Gen;
--     mailbox #(Item) m;
--     function new(mailbox #(Item) x); m = x; endfunction
--     task run();
--       Item t;
--       for (int i = 0; i < 3; i++) begin
--         t = new(100 * i, 60 + i);
--         m.put(t);
--       end
--     endtask
--   endclass
--   class Drv;
--     mailbox #(Item) m, e;
--     function new(mailbox #(Item) x, mailbox #(Item) y); m = x; e = y; endfunction
--     task run();
--       Item t;
--       forever begin
--         m.get(t);
--         @(cb);
--         cb.a <= t.a;
--         cb.b <= t.b;
--         e.put(t);
--       end
--     endtask
--   endclass
--   class Sb;
--     mailbox #(Item) e;
--     function new(mailbox #(Item) x); e = x; endfunction
--     task run();
--       Item t;
--       e.get(t);
--       repeat (2) @(cb);
--       for (int i = 0; i < 3; i++) begin
--         $display("%0t %0d %s", $time, cb.s, cb.s == t.sum() ? "ok" : "bad");
--         if (i < 2) begin e.get(t); @(cb); end
--       end
--     endtask
--   endclass
--   mailbox #(Item) m = new(), e = new();
--   Gen g; Drv d; Sb k;
--   initial begin
--     g = new(m); d = new(m, e); k = new(e);
--     fork g.run(); d.run(); join_none
--     k.run();
--   end
-- endprogram
abbrev t23 : List Description
t23 = module_ (at 0 1 1) life.Unwritten (name (at 0 1 8) "add") None (port (Some port_direction.Input) false (types.Written (types.WrittenType.Vector (at 0 1 18) vector_word.Logic sign.Unwritten None)) (name (at 0 1 24) "clk") ∷ port (Some port_direction.Input) false (types.Written (types.WrittenType.Vector (at 0 1 35) vector_word.Logic sign.Unwritten (Some (range (at 0 1 41) (number (at 0 1 42) "7") (number (at 0 1 44) "0"))))) (name (at 0 1 47) "a") ∷ port None false types.Unwritten (name (at 0 1 50) "b") ∷ port (Some port_direction.Output) false (types.Written (types.WrittenType.Vector (at 0 1 60) vector_word.Logic sign.Unwritten (Some (range (at 0 1 66) (number (at 0 1 67) "8") (number (at 0 1 69) "0"))))) (name (at 0 1 72) "s") ∷ []) (procedure (at 0 2 3) procedure_word.AlwaysFf (stmts.Statement (at 0 2 13) None (stmts.On (stmts.Parts (event_part edge.Posedge (plain (at 0 2 23) "clk") None ∷ [])) (stmts.Statement (at 0 2 28) None (nonblocking (target (at 0 2 28) "s") None (tree.Binary binary_word.Plus (at 0 2 35) (plain (at 0 2 33) "a") (plain (at 0 2 37) "b")))))) ∷ []) None ∷ module_ (at 0 4 1) life.Unwritten (name (at 0 4 8) "top") None [] (items.Decl (decl life.Unwritten (types.WrittenType.Vector (at 0 5 3) vector_word.Logic sign.Unwritten None) (declarator (name (at 0 5 9) "clk") None (Some (stmts.Value (number (at 0 5 15) "0"))) ∷ [])) ∷ procedure (at 0 6 3) procedure_word.Always (stmts.Statement (at 0 6 10) None (stmts.After (delay (at 0 6 10) (number (at 0 6 11) "5")) (stmts.Statement (at 0 6 13) None (blocking (target (at 0 6 13) "clk") None (stmts.Value (tree.Unary (at 0 6 19) unary_word.Invert (plain (at 0 6 20) "clk"))))))) ∷ items.Decl (decl life.Unwritten (types.WrittenType.Vector (at 0 7 3) vector_word.Logic sign.Unwritten (Some (range (at 0 7 9) (number (at 0 7 10) "7") (number (at 0 7 12) "0")))) (declarator (name (at 0 7 15) "a") None None ∷ declarator (name (at 0 7 18) "b") None None ∷ [])) ∷ items.Decl (decl life.Unwritten (types.WrittenType.Vector (at 0 8 3) vector_word.Logic sign.Unwritten (Some (range (at 0 8 9) (number (at 0 8 10) "8") (number (at 0 8 12) "0")))) (declarator (name (at 0 8 15) "s") None None ∷ [])) ∷ instances (name (at 0 9 3) "add") [] (instance (name (at 0 9 7) "u") (units.All (at 0 9 9) ∷ []) ∷ []) ∷ instances (name (at 0 10 3) "test") [] (instance (name (at 0 10 8) "t") (units.All (at 0 10 10) ∷ []) ∷ []) ∷ []) None ∷ program_ (at 0 12 1) life.Unwritten (name (at 0 12 9) "test") None (port (Some port_direction.Input) false (types.Written (types.WrittenType.Vector (at 0 12 20) vector_word.Logic sign.Unwritten None)) (name (at 0 12 26) "clk") ∷ port (Some port_direction.Output) false (types.Written (types.WrittenType.Vector (at 0 12 38) vector_word.Logic sign.Unwritten (Some (range (at 0 12 44) (number (at 0 12 45) "7") (number (at 0 12 47) "0"))))) (name (at 0 12 50) "a") ∷ port None false types.Unwritten (name (at 0 12 53) "b") ∷ port (Some port_direction.Input) false (types.Written (types.WrittenType.Vector (at 0 12 62) vector_word.Logic sign.Unwritten (Some (range (at 0 12 68) (number (at 0 12 69) "8") (number (at 0 12 71) "0"))))) (name (at 0 12 74) "s") ∷ []) (clocking None (name (at 0 13 12) "cb") edge.Posedge (name (at 0 13 25) "clk") (units.Signals (sided direction.Input None ∷ []) (name (at 0 14 11) "s" ∷ []) ∷ units.Signals (sided direction.Output None ∷ []) (name (at 0 15 12) "a" ∷ name (at 0 15 15) "b" ∷ []) ∷ []) None ∷ items.Class (class_ (at 0 17 3) false (name (at 0 17 9) "Item") None (property unqualified (decl life.Unwritten (types.Atom (at 0 18 5) atom_word.Int sign.Unwritten) (declarator (name (at 0 18 9) "a") None None ∷ declarator (name (at 0 18 12) "b") None None ∷ [])) ∷ method unqualified (routine (head (at 0 19 5) life.Unwritten (units.Returns.Value types.Unwritten) (name (at 0 19 14) "new") (argument None (types.Written (types.Atom (at 0 19 18) atom_word.Int sign.Unwritten)) (name (at 0 19 22) "x") None ∷ argument None (types.Written (types.Atom (at 0 19 25) atom_word.Int sign.Unwritten)) (name (at 0 19 29) "y") None ∷ [])) [] (stmts.Statement (at 0 19 33) None (blocking (target (at 0 19 33) "a") None (stmts.Value (plain (at 0 19 37) "x"))) ∷ stmts.Statement (at 0 19 40) None (blocking (target (at 0 19 40) "b") None (stmts.Value (plain (at 0 19 44) "y"))) ∷ []) None) ∷ method (qualifiers false false false true) (routine (head (at 0 20 13) life.Unwritten (units.Returns.Value (types.Written (types.Atom (at 0 20 22) atom_word.Int sign.Unwritten))) (name (at 0 20 26) "sum") []) [] (stmts.Statement (at 0 20 33) None (stmts.Return (Some (tree.Binary binary_word.Plus (at 0 20 42) (plain (at 0 20 40) "a") (plain (at 0 20 44) "b")))) ∷ []) None) ∷ []) None) ∷ items.Class (class_ (at 0 22 3) false (name (at 0 22 9) "Gen") None (property unqualified (decl life.Unwritten (types.MailboxOf (at 0 23 5) (types.Named (name (at 0 23 15) "Item"))) (declarator (name (at 0 23 21) "m") None None ∷ [])) ∷ method unqualified (routine (head (at 0 24 5) life.Unwritten (units.Returns.Value types.Unwritten) (name (at 0 24 14) "new") (argument None (types.Written (types.MailboxOf (at 0 24 18) (types.Named (name (at 0 24 28) "Item")))) (name (at 0 24 34) "x") None ∷ [])) [] (stmts.Statement (at 0 24 38) None (blocking (target (at 0 24 38) "m") None (stmts.Value (plain (at 0 24 42) "x"))) ∷ []) None) ∷ method unqualified (routine (head (at 0 25 5) life.Unwritten units.Task (name (at 0 25 10) "run") []) (decl life.Unwritten (types.Named (name (at 0 26 7) "Item")) (declarator (name (at 0 26 12) "t") None None ∷ []) ∷ []) (stmts.Statement (at 0 27 7) None (stmts.For (stmts.Declare (types.Atom (at 0 27 12) atom_word.Int sign.Unwritten) (name (at 0 27 16) "i") (number (at 0 27 20) "0")) (tree.Binary binary_word.Less (at 0 27 25) (plain (at 0 27 23) "i") (number (at 0 27 27) "3")) (stmts.ForStep.Step (at 0 27 30) (target (at 0 27 30) "i") step_word.Increment) (stmts.Statement (at 0 27 35) None (stmts.Block None [] (statements (stmts.Statement (at 0 28 9) None (blocking (target (at 0 28 9) "t") None (stmts.New (at 0 28 13) (tree.Written (expressions (tree.Binary binary_word.Multiply (at 0 28 21) (number (at 0 28 17) "100") (plain (at 0 28 23) "i") ∷ tree.Binary binary_word.Plus (at 0 28 29) (number (at 0 28 26) "60") (plain (at 0 28 31) "i") ∷ []))))) ∷ stmts.Statement (at 0 29 9) None (stmts.Call (tree.Expr.Post (root.Plain (name (at 0 29 9) "m")) (tree.Member (name (at 0 29 11) "put") (tree.Call (at 0 29 14) (expressions (plain (at 0 29 15) "t" ∷ [])) tree.NoSuffix)))) ∷ [])) None))) ∷ []) None) ∷ []) None) ∷ items.Class (class_ (at 0 33 3) false (name (at 0 33 9) "Drv") None (property unqualified (decl life.Unwritten (types.MailboxOf (at 0 34 5) (types.Named (name (at 0 34 15) "Item"))) (declarator (name (at 0 34 21) "m") None None ∷ declarator (name (at 0 34 24) "e") None None ∷ [])) ∷ method unqualified (routine (head (at 0 35 5) life.Unwritten (units.Returns.Value types.Unwritten) (name (at 0 35 14) "new") (argument None (types.Written (types.MailboxOf (at 0 35 18) (types.Named (name (at 0 35 28) "Item")))) (name (at 0 35 34) "x") None ∷ argument None (types.Written (types.MailboxOf (at 0 35 37) (types.Named (name (at 0 35 47) "Item")))) (name (at 0 35 53) "y") None ∷ [])) [] (stmts.Statement (at 0 35 57) None (blocking (target (at 0 35 57) "m") None (stmts.Value (plain (at 0 35 61) "x"))) ∷ stmts.Statement (at 0 35 64) None (blocking (target (at 0 35 64) "e") None (stmts.Value (plain (at 0 35 68) "y"))) ∷ []) None) ∷ method unqualified (routine (head (at 0 36 5) life.Unwritten units.Task (name (at 0 36 10) "run") []) (decl life.Unwritten (types.Named (name (at 0 37 7) "Item")) (declarator (name (at 0 37 12) "t") None None ∷ []) ∷ []) (stmts.Statement (at 0 38 7) None (stmts.Forever (stmts.Statement (at 0 38 15) None (stmts.Block None [] (statements (stmts.Statement (at 0 39 9) None (stmts.Call (tree.Expr.Post (root.Plain (name (at 0 39 9) "m")) (tree.Member (name (at 0 39 11) "get") (tree.Call (at 0 39 14) (expressions (plain (at 0 39 15) "t" ∷ [])) tree.NoSuffix)))) ∷ stmts.Statement (at 0 40 9) None (stmts.On (stmts.Parts (event_part edge.Unwritten (plain (at 0 40 11) "cb") None ∷ [])) (stmts.Statement (at 0 40 14) None stmts.Null)) ∷ stmts.Statement (at 0 41 9) None (nonblocking (tree.Lval.Post (root.Plain (name (at 0 41 9) "cb")) (tree.Member (name (at 0 41 12) "a") tree.NoSuffix)) None (tree.Expr.Post (root.Plain (name (at 0 41 17) "t")) (tree.Member (name (at 0 41 19) "a") tree.NoSuffix))) ∷ stmts.Statement (at 0 42 9) None (nonblocking (tree.Lval.Post (root.Plain (name (at 0 42 9) "cb")) (tree.Member (name (at 0 42 12) "b") tree.NoSuffix)) None (tree.Expr.Post (root.Plain (name (at 0 42 17) "t")) (tree.Member (name (at 0 42 19) "b") tree.NoSuffix))) ∷ stmts.Statement (at 0 43 9) None (stmts.Call (tree.Expr.Post (root.Plain (name (at 0 43 9) "e")) (tree.Member (name (at 0 43 11) "put") (tree.Call (at 0 43 14) (expressions (plain (at 0 43 15) "t" ∷ [])) tree.NoSuffix)))) ∷ [])) None))) ∷ []) None) ∷ []) None) ∷ items.Class (class_ (at 0 47 3) false (name (at 0 47 9) "Sb") None (property unqualified (decl life.Unwritten (types.MailboxOf (at 0 48 5) (types.Named (name (at 0 48 15) "Item"))) (declarator (name (at 0 48 21) "e") None None ∷ [])) ∷ method unqualified (routine (head (at 0 49 5) life.Unwritten (units.Returns.Value types.Unwritten) (name (at 0 49 14) "new") (argument None (types.Written (types.MailboxOf (at 0 49 18) (types.Named (name (at 0 49 28) "Item")))) (name (at 0 49 34) "x") None ∷ [])) [] (stmts.Statement (at 0 49 38) None (blocking (target (at 0 49 38) "e") None (stmts.Value (plain (at 0 49 42) "x"))) ∷ []) None) ∷ method unqualified (routine (head (at 0 50 5) life.Unwritten units.Task (name (at 0 50 10) "run") []) (decl life.Unwritten (types.Named (name (at 0 51 7) "Item")) (declarator (name (at 0 51 12) "t") None None ∷ []) ∷ []) (stmts.Statement (at 0 52 7) None (stmts.Call (tree.Expr.Post (root.Plain (name (at 0 52 7) "e")) (tree.Member (name (at 0 52 9) "get") (tree.Call (at 0 52 12) (expressions (plain (at 0 52 13) "t" ∷ [])) tree.NoSuffix)))) ∷ stmts.Statement (at 0 53 7) None (stmts.Repeat (number (at 0 53 15) "2") (stmts.Statement (at 0 53 18) None (stmts.On (stmts.Parts (event_part edge.Unwritten (plain (at 0 53 20) "cb") None ∷ [])) (stmts.Statement (at 0 53 23) None stmts.Null)))) ∷ stmts.Statement (at 0 54 7) None (stmts.For (stmts.Declare (types.Atom (at 0 54 12) atom_word.Int sign.Unwritten) (name (at 0 54 16) "i") (number (at 0 54 20) "0")) (tree.Binary binary_word.Less (at 0 54 25) (plain (at 0 54 23) "i") (number (at 0 54 27) "3")) (stmts.ForStep.Step (at 0 54 30) (target (at 0 54 30) "i") step_word.Increment) (stmts.Statement (at 0 54 35) None (stmts.Block None [] (statements (stmts.Statement (at 0 55 9) None (stmts.Call (system (at 0 55 9) "$display" (text (at 0 55 18) "%0t %0d %s" ∷ tree.System (name (at 0 55 32) "$time") tree.Unwritten ∷ tree.Expr.Post (root.Plain (name (at 0 55 39) "cb")) (tree.Member (name (at 0 55 42) "s") tree.NoSuffix) ∷ tree.Choose (tree.Binary binary_word.Equal (at 0 55 50) (tree.Expr.Post (root.Plain (name (at 0 55 45) "cb")) (tree.Member (name (at 0 55 48) "s") tree.NoSuffix)) (tree.Expr.Post (root.Plain (name (at 0 55 53) "t")) (tree.Member (name (at 0 55 55) "sum") (tree.Call (at 0 55 58) tree.NoExpr tree.NoSuffix)))) (text (at 0 55 63) "ok") (text (at 0 55 70) "bad") ∷ []))) ∷ stmts.Statement (at 0 56 9) None (stmts.If (tree.Binary binary_word.Less (at 0 56 15) (plain (at 0 56 13) "i") (number (at 0 56 17) "2")) (stmts.Statement (at 0 56 20) None (stmts.Block None [] (statements (stmts.Statement (at 0 56 26) None (stmts.Call (tree.Expr.Post (root.Plain (name (at 0 56 26) "e")) (tree.Member (name (at 0 56 28) "get") (tree.Call (at 0 56 31) (expressions (plain (at 0 56 32) "t" ∷ [])) tree.NoSuffix)))) ∷ stmts.Statement (at 0 56 36) None (stmts.On (stmts.Parts (event_part edge.Unwritten (plain (at 0 56 38) "cb") None ∷ [])) (stmts.Statement (at 0 56 41) None stmts.Null)) ∷ [])) None))) ∷ [])) None))) ∷ []) None) ∷ []) None) ∷ items.Decl (decl life.Unwritten (types.MailboxOf (at 0 60 3) (types.Named (name (at 0 60 13) "Item"))) (declarator (name (at 0 60 19) "m") None (Some (stmts.New (at 0 60 23) (tree.Written tree.NoExpr))) ∷ declarator (name (at 0 60 30) "e") None (Some (stmts.New (at 0 60 34) (tree.Written tree.NoExpr))) ∷ [])) ∷ items.Decl (decl life.Unwritten (types.Named (name (at 0 61 3) "Gen")) (declarator (name (at 0 61 7) "g") None None ∷ [])) ∷ items.Decl (decl life.Unwritten (types.Named (name (at 0 61 10) "Drv")) (declarator (name (at 0 61 14) "d") None None ∷ [])) ∷ items.Decl (decl life.Unwritten (types.Named (name (at 0 61 17) "Sb")) (declarator (name (at 0 61 20) "k") None None ∷ [])) ∷ procedure (at 0 62 3) procedure_word.Initial (stmts.Statement (at 0 62 11) None (stmts.Block None [] (statements (stmts.Statement (at 0 63 5) None (blocking (target (at 0 63 5) "g") None (stmts.New (at 0 63 9) (tree.Written (expressions (plain (at 0 63 13) "m" ∷ []))))) ∷ stmts.Statement (at 0 63 17) None (blocking (target (at 0 63 17) "d") None (stmts.New (at 0 63 21) (tree.Written (expressions (plain (at 0 63 25) "m" ∷ plain (at 0 63 28) "e" ∷ []))))) ∷ stmts.Statement (at 0 63 32) None (blocking (target (at 0 63 32) "k") None (stmts.New (at 0 63 36) (tree.Written (expressions (plain (at 0 63 40) "e" ∷ []))))) ∷ stmts.Statement (at 0 64 5) None (stmts.Fork None [] (statements (stmts.Statement (at 0 64 10) None (stmts.Call (tree.Expr.Post (root.Plain (name (at 0 64 10) "g")) (tree.Member (name (at 0 64 12) "run") (tree.Call (at 0 64 15) tree.NoExpr tree.NoSuffix)))) ∷ stmts.Statement (at 0 64 19) None (stmts.Call (tree.Expr.Post (root.Plain (name (at 0 64 19) "d")) (tree.Member (name (at 0 64 21) "run") (tree.Call (at 0 64 24) tree.NoExpr tree.NoSuffix)))) ∷ [])) join_word.None None) ∷ stmts.Statement (at 0 65 5) None (stmts.Call (tree.Expr.Post (root.Plain (name (at 0 65 5) "k")) (tree.Member (name (at 0 65 7) "run") (tree.Call (at 0 65 10) tree.NoExpr tree.NoSuffix)))) ∷ [])) None)) ∷ []) None ∷ []

t23_seen : seen_in (Listed []) (Listed []) (elaborated t23 [] None) 120 ≡ Ran (record { log = []; wave = lines ("$timescale 1ns $end" ∷ "$scope module top $end" ∷ "$var reg 1 ! clk $end" ∷ "$var reg 8 \" a [7:0] $end" ∷ "$var reg 8 # b [7:0] $end" ∷ "$var reg 9 $ s [8:0] $end" ∷ "$scope module u $end" ∷ "$var wire 1 % clk $end" ∷ "$var wire 8 & a [7:0] $end" ∷ "$var wire 8 ' b [7:0] $end" ∷ "$var reg 9 ( s [8:0] $end" ∷ "$upscope $end" ∷ "$scope module t $end" ∷ "$var wire 1 ) clk $end" ∷ "$var reg 8 * a [7:0] $end" ∷ "$var reg 8 + b [7:0] $end" ∷ "$var wire 9 , s [8:0] $end" ∷ "$upscope $end" ∷ "$upscope $end" ∷ "$enddefinitions $end" ∷ "#0" ∷ "$dumpvars" ∷ "0!" ∷ "bx \"" ∷ "bx #" ∷ "bx $" ∷ "0%" ∷ "bx &" ∷ "bx '" ∷ "bx (" ∷ "0)" ∷ "bx *" ∷ "bx +" ∷ "bx ," ∷ "$end" ∷ "#5" ∷ "1!" ∷ "b0 \"" ∷ "b111100 #" ∷ "1%" ∷ "b0 &" ∷ "b111100 '" ∷ "1)" ∷ "b0 *" ∷ "b111100 +" ∷ []); outcome = Spent; time = 5; steps = 120; race = None })
unfolding symbols_of word_of
t23_seen = refl

t23_seen_2 : seen_in (Listed (1 ∷ 2 ∷ 3 ∷ [])) (Listed []) (elaborated t23 [] None) 120 ≡ Ran (record { log = []; wave = lines ("$timescale 1ns $end" ∷ "$scope module top $end" ∷ "$var reg 1 ! clk $end" ∷ "$var reg 8 \" a [7:0] $end" ∷ "$var reg 8 # b [7:0] $end" ∷ "$var reg 9 $ s [8:0] $end" ∷ "$scope module u $end" ∷ "$var wire 1 % clk $end" ∷ "$var wire 8 & a [7:0] $end" ∷ "$var wire 8 ' b [7:0] $end" ∷ "$var reg 9 ( s [8:0] $end" ∷ "$upscope $end" ∷ "$scope module t $end" ∷ "$var wire 1 ) clk $end" ∷ "$var reg 8 * a [7:0] $end" ∷ "$var reg 8 + b [7:0] $end" ∷ "$var wire 9 , s [8:0] $end" ∷ "$upscope $end" ∷ "$upscope $end" ∷ "$enddefinitions $end" ∷ "#0" ∷ "$dumpvars" ∷ "0!" ∷ "bx \"" ∷ "bx #" ∷ "bx $" ∷ "0%" ∷ "bx &" ∷ "bx '" ∷ "bx (" ∷ "0)" ∷ "bx *" ∷ "bx +" ∷ "bx ," ∷ "$end" ∷ "#5" ∷ "1!" ∷ "b0 \"" ∷ "b111100 #" ∷ "1%" ∷ "b0 &" ∷ "b111100 '" ∷ "1)" ∷ "b0 *" ∷ "b111100 +" ∷ []); outcome = Spent; time = 5; steps = 120; race = None })
unfolding symbols_of word_of
t23_seen_2 = refl

t23_seen_3 : seen_in (Drawn 7) (Listed []) (elaborated t23 [] None) 120 ≡ Ran (record { log = []; wave = lines ("$timescale 1ns $end" ∷ "$scope module top $end" ∷ "$var reg 1 ! clk $end" ∷ "$var reg 8 \" a [7:0] $end" ∷ "$var reg 8 # b [7:0] $end" ∷ "$var reg 9 $ s [8:0] $end" ∷ "$scope module u $end" ∷ "$var wire 1 % clk $end" ∷ "$var wire 8 & a [7:0] $end" ∷ "$var wire 8 ' b [7:0] $end" ∷ "$var reg 9 ( s [8:0] $end" ∷ "$upscope $end" ∷ "$scope module t $end" ∷ "$var wire 1 ) clk $end" ∷ "$var reg 8 * a [7:0] $end" ∷ "$var reg 8 + b [7:0] $end" ∷ "$var wire 9 , s [8:0] $end" ∷ "$upscope $end" ∷ "$upscope $end" ∷ "$enddefinitions $end" ∷ "#0" ∷ "$dumpvars" ∷ "0!" ∷ "bx \"" ∷ "bx #" ∷ "bx $" ∷ "0%" ∷ "bx &" ∷ "bx '" ∷ "bx (" ∷ "0)" ∷ "bx *" ∷ "bx +" ∷ "bx ," ∷ "$end" ∷ "#5" ∷ "1!" ∷ "b0 \"" ∷ "b111100 #" ∷ "1%" ∷ "b0 &" ∷ "b111100 '" ∷ "1)" ∷ "b0 *" ∷ "b111100 +" ∷ []); outcome = Spent; time = 5; steps = 120; race = None })
unfolding symbols_of word_of
t23_seen_3 = refl

-- module stage #(parameter int K = 1)(input logic clk, input logic [15:0] d, output logic [15:0] q);
-- always_ff @(posedge clk) q <= d + K;
-- endmodule
-- module top;
-- logic clk = 0;
-- always #5 clk = ~clk;
-- logic [15:0] w0;
-- logic [15:0] w1;
-- stage #(.K(1)) s1(.clk(clk), .d(w0), .q(w1));
-- test t(.clk(clk), .d(w0), .q(w1));
-- endmodule
-- program test(input logic clk, output logic [15:0] d, input logic [15:0] q);
-- clocking cb @(posedge clk);
-- input q;
-- output d;
-- endclocking
-- initial for (int i = 0; i < 5; i++) begin
-- @(cb);
-- cb.d <= i;
-- $display("%0t %0d", $time, cb.q);
-- end
-- endprogram
abbrev t30 : List Description
t30 = module_ (at 0 1 1) life.Unwritten (name (at 0 1 8) "stage") (Some (param param_word.Parameter (types.Written (types.Atom (at 0 1 26) atom_word.Int sign.Unwritten)) (value (name (at 0 1 30) "K") (number (at 0 1 34) "1") ∷ []) ∷ [])) (port (Some port_direction.Input) false (types.Written (types.WrittenType.Vector (at 0 1 43) vector_word.Logic sign.Unwritten None)) (name (at 0 1 49) "clk") ∷ port (Some port_direction.Input) false (types.Written (types.WrittenType.Vector (at 0 1 60) vector_word.Logic sign.Unwritten (Some (range (at 0 1 66) (number (at 0 1 67) "15") (number (at 0 1 70) "0"))))) (name (at 0 1 73) "d") ∷ port (Some port_direction.Output) false (types.Written (types.WrittenType.Vector (at 0 1 83) vector_word.Logic sign.Unwritten (Some (range (at 0 1 89) (number (at 0 1 90) "15") (number (at 0 1 93) "0"))))) (name (at 0 1 96) "q") ∷ []) (procedure (at 0 2 1) procedure_word.AlwaysFf (stmts.Statement (at 0 2 11) None (stmts.On (stmts.Parts (event_part edge.Posedge (plain (at 0 2 21) "clk") None ∷ [])) (stmts.Statement (at 0 2 26) None (nonblocking (target (at 0 2 26) "q") None (tree.Binary binary_word.Plus (at 0 2 33) (plain (at 0 2 31) "d") (plain (at 0 2 35) "K")))))) ∷ []) None ∷ module_ (at 0 4 1) life.Unwritten (name (at 0 4 8) "top") None [] (items.Decl (decl life.Unwritten (types.WrittenType.Vector (at 0 5 1) vector_word.Logic sign.Unwritten None) (declarator (name (at 0 5 7) "clk") None (Some (stmts.Value (number (at 0 5 13) "0"))) ∷ [])) ∷ procedure (at 0 6 1) procedure_word.Always (stmts.Statement (at 0 6 8) None (stmts.After (delay (at 0 6 8) (number (at 0 6 9) "5")) (stmts.Statement (at 0 6 11) None (blocking (target (at 0 6 11) "clk") None (stmts.Value (tree.Unary (at 0 6 17) unary_word.Invert (plain (at 0 6 18) "clk"))))))) ∷ items.Decl (decl life.Unwritten (types.WrittenType.Vector (at 0 7 1) vector_word.Logic sign.Unwritten (Some (range (at 0 7 7) (number (at 0 7 8) "15") (number (at 0 7 11) "0")))) (declarator (name (at 0 7 14) "w0") None None ∷ [])) ∷ items.Decl (decl life.Unwritten (types.WrittenType.Vector (at 0 8 1) vector_word.Logic sign.Unwritten (Some (range (at 0 8 7) (number (at 0 8 8) "15") (number (at 0 8 11) "0")))) (declarator (name (at 0 8 14) "w1") None None ∷ [])) ∷ instances (name (at 0 9 1) "stage") (units.Given (at 0 9 9) (name (at 0 9 10) "K") (Some (number (at 0 9 12) "1")) ∷ []) (instance (name (at 0 9 16) "s1") (units.Given (at 0 9 19) (name (at 0 9 20) "clk") (Some (plain (at 0 9 24) "clk")) ∷ units.Given (at 0 9 30) (name (at 0 9 31) "d") (Some (plain (at 0 9 33) "w0")) ∷ units.Given (at 0 9 38) (name (at 0 9 39) "q") (Some (plain (at 0 9 41) "w1")) ∷ []) ∷ []) ∷ instances (name (at 0 10 1) "test") [] (instance (name (at 0 10 6) "t") (units.Given (at 0 10 8) (name (at 0 10 9) "clk") (Some (plain (at 0 10 13) "clk")) ∷ units.Given (at 0 10 19) (name (at 0 10 20) "d") (Some (plain (at 0 10 22) "w0")) ∷ units.Given (at 0 10 27) (name (at 0 10 28) "q") (Some (plain (at 0 10 30) "w1")) ∷ []) ∷ []) ∷ []) None ∷ program_ (at 0 12 1) life.Unwritten (name (at 0 12 9) "test") None (port (Some port_direction.Input) false (types.Written (types.WrittenType.Vector (at 0 12 20) vector_word.Logic sign.Unwritten None)) (name (at 0 12 26) "clk") ∷ port (Some port_direction.Output) false (types.Written (types.WrittenType.Vector (at 0 12 38) vector_word.Logic sign.Unwritten (Some (range (at 0 12 44) (number (at 0 12 45) "15") (number (at 0 12 48) "0"))))) (name (at 0 12 51) "d") ∷ port (Some port_direction.Input) false (types.Written (types.WrittenType.Vector (at 0 12 60) vector_word.Logic sign.Unwritten (Some (range (at 0 12 66) (number (at 0 12 67) "15") (number (at 0 12 70) "0"))))) (name (at 0 12 73) "q") ∷ []) (clocking None (name (at 0 13 10) "cb") edge.Posedge (name (at 0 13 23) "clk") (units.Signals (sided direction.Input None ∷ []) (name (at 0 14 7) "q" ∷ []) ∷ units.Signals (sided direction.Output None ∷ []) (name (at 0 15 8) "d" ∷ []) ∷ []) None ∷ procedure (at 0 17 1) procedure_word.Initial (stmts.Statement (at 0 17 9) None (stmts.For (stmts.Declare (types.Atom (at 0 17 14) atom_word.Int sign.Unwritten) (name (at 0 17 18) "i") (number (at 0 17 22) "0")) (tree.Binary binary_word.Less (at 0 17 27) (plain (at 0 17 25) "i") (number (at 0 17 29) "5")) (stmts.ForStep.Step (at 0 17 32) (target (at 0 17 32) "i") step_word.Increment) (stmts.Statement (at 0 17 37) None (stmts.Block None [] (statements (stmts.Statement (at 0 18 1) None (stmts.On (stmts.Parts (event_part edge.Unwritten (plain (at 0 18 3) "cb") None ∷ [])) (stmts.Statement (at 0 18 6) None stmts.Null)) ∷ stmts.Statement (at 0 19 1) None (nonblocking (tree.Lval.Post (root.Plain (name (at 0 19 1) "cb")) (tree.Member (name (at 0 19 4) "d") tree.NoSuffix)) None (plain (at 0 19 9) "i")) ∷ stmts.Statement (at 0 20 1) None (stmts.Call (system (at 0 20 1) "$display" (text (at 0 20 10) "%0t %0d" ∷ tree.System (name (at 0 20 21) "$time") tree.Unwritten ∷ tree.Expr.Post (root.Plain (name (at 0 20 28) "cb")) (tree.Member (name (at 0 20 31) "q") tree.NoSuffix) ∷ []))) ∷ [])) None)))) ∷ []) None ∷ []

t30_seen : seen_in (Listed []) (Listed []) (elaborated t30 [] None) 120 ≡ Ran (record { log = lines ("5 x" ∷ "15 x" ∷ []); wave = lines ("$timescale 1ns $end" ∷ "$scope module top $end" ∷ "$var reg 1 ! clk $end" ∷ "$var reg 16 \" w0 [15:0] $end" ∷ "$var reg 16 # w1 [15:0] $end" ∷ "$scope module s1 $end" ∷ "$var wire 1 $ clk $end" ∷ "$var wire 16 % d [15:0] $end" ∷ "$var reg 16 & q [15:0] $end" ∷ "$upscope $end" ∷ "$scope module t $end" ∷ "$var wire 1 ' clk $end" ∷ "$var reg 16 ( d [15:0] $end" ∷ "$var wire 16 ) q [15:0] $end" ∷ "$upscope $end" ∷ "$upscope $end" ∷ "$enddefinitions $end" ∷ "#0" ∷ "$dumpvars" ∷ "0!" ∷ "bx \"" ∷ "bx #" ∷ "0$" ∷ "bx %" ∷ "bx &" ∷ "0'" ∷ "bx (" ∷ "bx )" ∷ "$end" ∷ "#5" ∷ "1!" ∷ "b0 \"" ∷ "1$" ∷ "b0 %" ∷ "1'" ∷ "b0 (" ∷ "#10" ∷ "0!" ∷ "0$" ∷ "0'" ∷ "#15" ∷ "1!" ∷ "b1 \"" ∷ "b1 #" ∷ "1$" ∷ "b1 %" ∷ "b1 &" ∷ "1'" ∷ "b1 (" ∷ "b1 )" ∷ "#20" ∷ "0!" ∷ "0$" ∷ "0'" ∷ []); outcome = Spent; time = 25; steps = 120; race = None })
unfolding symbols_of word_of
t30_seen = refl

--
abbrev t31 : List Description
t31 = []

t31_broken : broken t31 [] None ≡ Some (fault 4 0 1 1)
unfolding symbols_of word_of
t31_broken = refl

-- class B;
--   virtual function void v(); $display("B"); endfunction
--   function void w(); $display("B"); endfunction
-- endclass
-- class D extends B;
--   virtual function void v(); $display("D"); endfunction
--   function void w(); $display("D"); endfunction
-- endclass
-- module t; B b; D d; initial begin b = new; $display("%0d", $cast(d, b)); end endmodule
abbrev t39 : List Description
t39 = descriptions.Item (items.Class (class_ (at 0 1 1) false (name (at 0 1 7) "B") None (method (qualifiers false false false true) (routine (head (at 0 2 11) life.Unwritten units.Void (name (at 0 2 25) "v") []) [] (stmts.Statement (at 0 2 30) None (stmts.Call (system (at 0 2 30) "$display" (text (at 0 2 39) "B" ∷ []))) ∷ []) None) ∷ method unqualified (routine (head (at 0 3 3) life.Unwritten units.Void (name (at 0 3 17) "w") []) [] (stmts.Statement (at 0 3 22) None (stmts.Call (system (at 0 3 22) "$display" (text (at 0 3 31) "B" ∷ []))) ∷ []) None) ∷ []) None)) ∷ descriptions.Item (items.Class (class_ (at 0 5 1) false (name (at 0 5 7) "D") (Some (name (at 0 5 17) "B")) (method (qualifiers false false false true) (routine (head (at 0 6 11) life.Unwritten units.Void (name (at 0 6 25) "v") []) [] (stmts.Statement (at 0 6 30) None (stmts.Call (system (at 0 6 30) "$display" (text (at 0 6 39) "D" ∷ []))) ∷ []) None) ∷ method unqualified (routine (head (at 0 7 3) life.Unwritten units.Void (name (at 0 7 17) "w") []) [] (stmts.Statement (at 0 7 22) None (stmts.Call (system (at 0 7 22) "$display" (text (at 0 7 31) "D" ∷ []))) ∷ []) None) ∷ []) None)) ∷ module_ (at 0 9 1) life.Unwritten (name (at 0 9 8) "t") None [] (items.Decl (decl life.Unwritten (types.Named (name (at 0 9 11) "B")) (declarator (name (at 0 9 13) "b") None None ∷ [])) ∷ items.Decl (decl life.Unwritten (types.Named (name (at 0 9 16) "D")) (declarator (name (at 0 9 18) "d") None None ∷ [])) ∷ procedure (at 0 9 21) procedure_word.Initial (stmts.Statement (at 0 9 29) None (stmts.Block None [] (statements (stmts.Statement (at 0 9 35) None (blocking (target (at 0 9 35) "b") None (stmts.New (at 0 9 39) tree.Unwritten)) ∷ stmts.Statement (at 0 9 44) None (stmts.Call (system (at 0 9 44) "$display" (text (at 0 9 53) "%0d" ∷ system (at 0 9 60) "$cast" (plain (at 0 9 66) "d" ∷ plain (at 0 9 69) "b" ∷ []) ∷ []))) ∷ [])) None)) ∷ []) None ∷ []

t39_seen : seen_in (Listed []) (Listed []) (elaborated t39 [] None) 12 ≡ Ran (record { log = lines ("0" ∷ []); wave = lines ("$timescale 1ns $end" ∷ "$scope module t $end" ∷ "$upscope $end" ∷ "$enddefinitions $end" ∷ "#0" ∷ "$dumpvars" ∷ "$end" ∷ []); outcome = Done; time = 0; steps = 9; race = Some (10, at 0 9 13) })
unfolding symbols_of word_of
t39_seen = refl

-- program p(input logic a); initial $display("%b", a); endprogram
abbrev t44 : List Description
t44 = program_ (at 0 1 1) life.Unwritten (name (at 0 1 9) "p") None (port (Some port_direction.Input) false (types.Written (types.WrittenType.Vector (at 0 1 17) vector_word.Logic sign.Unwritten None)) (name (at 0 1 23) "a") ∷ []) (procedure (at 0 1 27) procedure_word.Initial (stmts.Statement (at 0 1 35) None (stmts.Call (system (at 0 1 35) "$display" (text (at 0 1 44) "%b" ∷ plain (at 0 1 50) "a" ∷ [])))) ∷ []) None ∷ []

t44_seen : seen_in (Listed []) (Listed []) (elaborated t44 [] None) 7 ≡ Ran (record { log = lines ("z" ∷ []); wave = lines ("$timescale 1ns $end" ∷ "$scope module p $end" ∷ "$var wire 1 ! a $end" ∷ "$upscope $end" ∷ "$enddefinitions $end" ∷ "#0" ∷ "$dumpvars" ∷ "z!" ∷ "$end" ∷ []); outcome = Done; time = 0; steps = 4; race = Some (9, at 0 1 50) })
unfolding symbols_of word_of
t44_seen = refl

-- module stage #(parameter int K = 1)(input logic clk, input logic [15:0] d, output logic [15:0] q);
-- always_ff @(posedge clk) q <= d + K;
-- endmodule
-- module top;
-- logic clk = 0;
-- always #5 clk = ~clk;
-- logic [15:0] w0;
-- logic [15:0] w1;
-- logic [15:0] w2;
-- logic [15:0] w3;
-- stage #(.K(1)) s1(.clk(clk), .d(w0), .q(w1));
-- stage #(.K(1)) s2(.clk(clk), .d(w1), .q(w2));
-- stage #(.K(1)) s3(.clk(clk), .d(w2), .q(w3));
-- test t(.clk(clk), .d(w0), .q(w3));
-- endmodule
-- program test(input logic clk, output logic [15:0] d, input logic [15:0] q);
-- clocking cb @(posedge clk);
-- input q;
-- output d;
-- endclocking
-- initial for (int i = 0; i < 7; i++) begin
-- @(cb);
-- cb.d <= i;
-- $display("%0t %0d", $time, cb.q);
-- end
-- endprogram
abbrev t46 : List Description
t46 = module_ (at 0 1 1) life.Unwritten (name (at 0 1 8) "stage") (Some (param param_word.Parameter (types.Written (types.Atom (at 0 1 26) atom_word.Int sign.Unwritten)) (value (name (at 0 1 30) "K") (number (at 0 1 34) "1") ∷ []) ∷ [])) (port (Some port_direction.Input) false (types.Written (types.WrittenType.Vector (at 0 1 43) vector_word.Logic sign.Unwritten None)) (name (at 0 1 49) "clk") ∷ port (Some port_direction.Input) false (types.Written (types.WrittenType.Vector (at 0 1 60) vector_word.Logic sign.Unwritten (Some (range (at 0 1 66) (number (at 0 1 67) "15") (number (at 0 1 70) "0"))))) (name (at 0 1 73) "d") ∷ port (Some port_direction.Output) false (types.Written (types.WrittenType.Vector (at 0 1 83) vector_word.Logic sign.Unwritten (Some (range (at 0 1 89) (number (at 0 1 90) "15") (number (at 0 1 93) "0"))))) (name (at 0 1 96) "q") ∷ []) (procedure (at 0 2 1) procedure_word.AlwaysFf (stmts.Statement (at 0 2 11) None (stmts.On (stmts.Parts (event_part edge.Posedge (plain (at 0 2 21) "clk") None ∷ [])) (stmts.Statement (at 0 2 26) None (nonblocking (target (at 0 2 26) "q") None (tree.Binary binary_word.Plus (at 0 2 33) (plain (at 0 2 31) "d") (plain (at 0 2 35) "K")))))) ∷ []) None ∷ module_ (at 0 4 1) life.Unwritten (name (at 0 4 8) "top") None [] (items.Decl (decl life.Unwritten (types.WrittenType.Vector (at 0 5 1) vector_word.Logic sign.Unwritten None) (declarator (name (at 0 5 7) "clk") None (Some (stmts.Value (number (at 0 5 13) "0"))) ∷ [])) ∷ procedure (at 0 6 1) procedure_word.Always (stmts.Statement (at 0 6 8) None (stmts.After (delay (at 0 6 8) (number (at 0 6 9) "5")) (stmts.Statement (at 0 6 11) None (blocking (target (at 0 6 11) "clk") None (stmts.Value (tree.Unary (at 0 6 17) unary_word.Invert (plain (at 0 6 18) "clk"))))))) ∷ items.Decl (decl life.Unwritten (types.WrittenType.Vector (at 0 7 1) vector_word.Logic sign.Unwritten (Some (range (at 0 7 7) (number (at 0 7 8) "15") (number (at 0 7 11) "0")))) (declarator (name (at 0 7 14) "w0") None None ∷ [])) ∷ items.Decl (decl life.Unwritten (types.WrittenType.Vector (at 0 8 1) vector_word.Logic sign.Unwritten (Some (range (at 0 8 7) (number (at 0 8 8) "15") (number (at 0 8 11) "0")))) (declarator (name (at 0 8 14) "w1") None None ∷ [])) ∷ items.Decl (decl life.Unwritten (types.WrittenType.Vector (at 0 9 1) vector_word.Logic sign.Unwritten (Some (range (at 0 9 7) (number (at 0 9 8) "15") (number (at 0 9 11) "0")))) (declarator (name (at 0 9 14) "w2") None None ∷ [])) ∷ items.Decl (decl life.Unwritten (types.WrittenType.Vector (at 0 10 1) vector_word.Logic sign.Unwritten (Some (range (at 0 10 7) (number (at 0 10 8) "15") (number (at 0 10 11) "0")))) (declarator (name (at 0 10 14) "w3") None None ∷ [])) ∷ instances (name (at 0 11 1) "stage") (units.Given (at 0 11 9) (name (at 0 11 10) "K") (Some (number (at 0 11 12) "1")) ∷ []) (instance (name (at 0 11 16) "s1") (units.Given (at 0 11 19) (name (at 0 11 20) "clk") (Some (plain (at 0 11 24) "clk")) ∷ units.Given (at 0 11 30) (name (at 0 11 31) "d") (Some (plain (at 0 11 33) "w0")) ∷ units.Given (at 0 11 38) (name (at 0 11 39) "q") (Some (plain (at 0 11 41) "w1")) ∷ []) ∷ []) ∷ instances (name (at 0 12 1) "stage") (units.Given (at 0 12 9) (name (at 0 12 10) "K") (Some (number (at 0 12 12) "1")) ∷ []) (instance (name (at 0 12 16) "s2") (units.Given (at 0 12 19) (name (at 0 12 20) "clk") (Some (plain (at 0 12 24) "clk")) ∷ units.Given (at 0 12 30) (name (at 0 12 31) "d") (Some (plain (at 0 12 33) "w1")) ∷ units.Given (at 0 12 38) (name (at 0 12 39) "q") (Some (plain (at 0 12 41) "w2")) ∷ []) ∷ []) ∷ instances (name (at 0 13 1) "stage") (units.Given (at 0 13 9) (name (at 0 13 10) "K") (Some (number (at 0 13 12) "1")) ∷ []) (instance (name (at 0 13 16) "s3") (units.Given (at 0 13 19) (name (at 0 13 20) "clk") (Some (plain (at 0 13 24) "clk")) ∷ units.Given (at 0 13 30) (name (at 0 13 31) "d") (Some (plain (at 0 13 33) "w2")) ∷ units.Given (at 0 13 38) (name (at 0 13 39) "q") (Some (plain (at 0 13 41) "w3")) ∷ []) ∷ []) ∷ instances (name (at 0 14 1) "test") [] (instance (name (at 0 14 6) "t") (units.Given (at 0 14 8) (name (at 0 14 9) "clk") (Some (plain (at 0 14 13) "clk")) ∷ units.Given (at 0 14 19) (name (at 0 14 20) "d") (Some (plain (at 0 14 22) "w0")) ∷ units.Given (at 0 14 27) (name (at 0 14 28) "q") (Some (plain (at 0 14 30) "w3")) ∷ []) ∷ []) ∷ []) None ∷ program_ (at 0 16 1) life.Unwritten (name (at 0 16 9) "test") None (port (Some port_direction.Input) false (types.Written (types.WrittenType.Vector (at 0 16 20) vector_word.Logic sign.Unwritten None)) (name (at 0 16 26) "clk") ∷ port (Some port_direction.Output) false (types.Written (types.WrittenType.Vector (at 0 16 38) vector_word.Logic sign.Unwritten (Some (range (at 0 16 44) (number (at 0 16 45) "15") (number (at 0 16 48) "0"))))) (name (at 0 16 51) "d") ∷ port (Some port_direction.Input) false (types.Written (types.WrittenType.Vector (at 0 16 60) vector_word.Logic sign.Unwritten (Some (range (at 0 16 66) (number (at 0 16 67) "15") (number (at 0 16 70) "0"))))) (name (at 0 16 73) "q") ∷ []) (clocking None (name (at 0 17 10) "cb") edge.Posedge (name (at 0 17 23) "clk") (units.Signals (sided direction.Input None ∷ []) (name (at 0 18 7) "q" ∷ []) ∷ units.Signals (sided direction.Output None ∷ []) (name (at 0 19 8) "d" ∷ []) ∷ []) None ∷ procedure (at 0 21 1) procedure_word.Initial (stmts.Statement (at 0 21 9) None (stmts.For (stmts.Declare (types.Atom (at 0 21 14) atom_word.Int sign.Unwritten) (name (at 0 21 18) "i") (number (at 0 21 22) "0")) (tree.Binary binary_word.Less (at 0 21 27) (plain (at 0 21 25) "i") (number (at 0 21 29) "7")) (stmts.ForStep.Step (at 0 21 32) (target (at 0 21 32) "i") step_word.Increment) (stmts.Statement (at 0 21 37) None (stmts.Block None [] (statements (stmts.Statement (at 0 22 1) None (stmts.On (stmts.Parts (event_part edge.Unwritten (plain (at 0 22 3) "cb") None ∷ [])) (stmts.Statement (at 0 22 6) None stmts.Null)) ∷ stmts.Statement (at 0 23 1) None (nonblocking (tree.Lval.Post (root.Plain (name (at 0 23 1) "cb")) (tree.Member (name (at 0 23 4) "d") tree.NoSuffix)) None (plain (at 0 23 9) "i")) ∷ stmts.Statement (at 0 24 1) None (stmts.Call (system (at 0 24 1) "$display" (text (at 0 24 10) "%0t %0d" ∷ tree.System (name (at 0 24 21) "$time") tree.Unwritten ∷ tree.Expr.Post (root.Plain (name (at 0 24 28) "cb")) (tree.Member (name (at 0 24 31) "q") tree.NoSuffix) ∷ []))) ∷ [])) None)))) ∷ []) None ∷ []

t46_seen : seen_in (Listed []) (Listed []) (elaborated t46 [] None) 120 ≡ Ran (record { log = lines ("5 x" ∷ []); wave = lines ("$timescale 1ns $end" ∷ "$scope module top $end" ∷ "$var reg 1 ! clk $end" ∷ "$var reg 16 \" w0 [15:0] $end" ∷ "$var reg 16 # w1 [15:0] $end" ∷ "$var reg 16 $ w2 [15:0] $end" ∷ "$var reg 16 % w3 [15:0] $end" ∷ "$scope module s1 $end" ∷ "$var wire 1 & clk $end" ∷ "$var wire 16 ' d [15:0] $end" ∷ "$var reg 16 ( q [15:0] $end" ∷ "$upscope $end" ∷ "$scope module s2 $end" ∷ "$var wire 1 ) clk $end" ∷ "$var wire 16 * d [15:0] $end" ∷ "$var reg 16 + q [15:0] $end" ∷ "$upscope $end" ∷ "$scope module s3 $end" ∷ "$var wire 1 , clk $end" ∷ "$var wire 16 - d [15:0] $end" ∷ "$var reg 16 . q [15:0] $end" ∷ "$upscope $end" ∷ "$scope module t $end" ∷ "$var wire 1 / clk $end" ∷ "$var reg 16 0 d [15:0] $end" ∷ "$var wire 16 1 q [15:0] $end" ∷ "$upscope $end" ∷ "$upscope $end" ∷ "$enddefinitions $end" ∷ "#0" ∷ "$dumpvars" ∷ "0!" ∷ "bx \"" ∷ "bx #" ∷ "bx $" ∷ "bx %" ∷ "0&" ∷ "bx '" ∷ "bx (" ∷ "0)" ∷ "bx *" ∷ "bx +" ∷ "0," ∷ "bx -" ∷ "bx ." ∷ "0/" ∷ "bx 0" ∷ "bx 1" ∷ "$end" ∷ "#5" ∷ "1!" ∷ "b0 \"" ∷ "1&" ∷ "b0 '" ∷ "1)" ∷ "1," ∷ "1/" ∷ "b0 0" ∷ "#10" ∷ "0!" ∷ "0&" ∷ "0)" ∷ "0," ∷ "0/" ∷ []); outcome = Spent; time = 15; steps = 120; race = None })
unfolding symbols_of word_of
t46_seen = refl

-- module top; logic clk = 0; always #5 clk = ~clk; logic rst; logic [7:0] q; initial begin rst <= 1; #12 rst <= 0; end always_ff @(posedge clk) if (rst) q <= 0; else q <= q + 1; test t(.clk, .q); endmodule
-- program test(input logic clk, input logic [7:0] q);
--   clocking cb @(posedge clk);
--     input q;
--   endclocking
--   initial repeat (2) begin
--     @(cb);
--     $display("%0t %0d", $time, cb.q);
--   end
-- endprogram
abbrev t52 : List Description
t52 = module_ (at 0 1 1) life.Unwritten (name (at 0 1 8) "top") None [] (items.Decl (decl life.Unwritten (types.WrittenType.Vector (at 0 1 13) vector_word.Logic sign.Unwritten None) (declarator (name (at 0 1 19) "clk") None (Some (stmts.Value (number (at 0 1 25) "0"))) ∷ [])) ∷ procedure (at 0 1 28) procedure_word.Always (stmts.Statement (at 0 1 35) None (stmts.After (delay (at 0 1 35) (number (at 0 1 36) "5")) (stmts.Statement (at 0 1 38) None (blocking (target (at 0 1 38) "clk") None (stmts.Value (tree.Unary (at 0 1 44) unary_word.Invert (plain (at 0 1 45) "clk"))))))) ∷ items.Decl (decl life.Unwritten (types.WrittenType.Vector (at 0 1 50) vector_word.Logic sign.Unwritten None) (declarator (name (at 0 1 56) "rst") None None ∷ [])) ∷ items.Decl (decl life.Unwritten (types.WrittenType.Vector (at 0 1 61) vector_word.Logic sign.Unwritten (Some (range (at 0 1 67) (number (at 0 1 68) "7") (number (at 0 1 70) "0")))) (declarator (name (at 0 1 73) "q") None None ∷ [])) ∷ procedure (at 0 1 76) procedure_word.Initial (stmts.Statement (at 0 1 84) None (stmts.Block None [] (statements (stmts.Statement (at 0 1 90) None (nonblocking (target (at 0 1 90) "rst") None (number (at 0 1 97) "1")) ∷ stmts.Statement (at 0 1 100) None (stmts.After (delay (at 0 1 100) (number (at 0 1 101) "12")) (stmts.Statement (at 0 1 104) None (nonblocking (target (at 0 1 104) "rst") None (number (at 0 1 111) "0")))) ∷ [])) None)) ∷ procedure (at 0 1 118) procedure_word.AlwaysFf (stmts.Statement (at 0 1 128) None (stmts.On (stmts.Parts (event_part edge.Posedge (plain (at 0 1 138) "clk") None ∷ [])) (stmts.Statement (at 0 1 143) None (stmts.IfElse (plain (at 0 1 147) "rst") (stmts.Statement (at 0 1 152) None (nonblocking (target (at 0 1 152) "q") None (number (at 0 1 157) "0"))) (stmts.Statement (at 0 1 165) None (nonblocking (target (at 0 1 165) "q") None (tree.Binary binary_word.Plus (at 0 1 172) (plain (at 0 1 170) "q") (number (at 0 1 174) "1")))))))) ∷ instances (name (at 0 1 177) "test") [] (instance (name (at 0 1 182) "t") (units.Named (at 0 1 184) (name (at 0 1 185) "clk") ∷ units.Named (at 0 1 190) (name (at 0 1 191) "q") ∷ []) ∷ []) ∷ []) None ∷ program_ (at 0 2 1) life.Unwritten (name (at 0 2 9) "test") None (port (Some port_direction.Input) false (types.Written (types.WrittenType.Vector (at 0 2 20) vector_word.Logic sign.Unwritten None)) (name (at 0 2 26) "clk") ∷ port (Some port_direction.Input) false (types.Written (types.WrittenType.Vector (at 0 2 37) vector_word.Logic sign.Unwritten (Some (range (at 0 2 43) (number (at 0 2 44) "7") (number (at 0 2 46) "0"))))) (name (at 0 2 49) "q") ∷ []) (clocking None (name (at 0 3 12) "cb") edge.Posedge (name (at 0 3 25) "clk") (units.Signals (sided direction.Input None ∷ []) (name (at 0 4 11) "q" ∷ []) ∷ []) None ∷ procedure (at 0 6 3) procedure_word.Initial (stmts.Statement (at 0 6 11) None (stmts.Repeat (number (at 0 6 19) "2") (stmts.Statement (at 0 6 22) None (stmts.Block None [] (statements (stmts.Statement (at 0 7 5) None (stmts.On (stmts.Parts (event_part edge.Unwritten (plain (at 0 7 7) "cb") None ∷ [])) (stmts.Statement (at 0 7 10) None stmts.Null)) ∷ stmts.Statement (at 0 8 5) None (stmts.Call (system (at 0 8 5) "$display" (text (at 0 8 14) "%0t %0d" ∷ tree.System (name (at 0 8 25) "$time") tree.Unwritten ∷ tree.Expr.Post (root.Plain (name (at 0 8 32) "cb")) (tree.Member (name (at 0 8 35) "q") tree.NoSuffix) ∷ []))) ∷ [])) None)))) ∷ []) None ∷ []

t52_seen : seen_in (Listed []) (Listed []) (elaborated t52 [] None) 84 ≡ Ran (record { log = lines ("5 x" ∷ "15 0" ∷ []); wave = lines ("$timescale 1ns $end" ∷ "$scope module top $end" ∷ "$var reg 1 ! clk $end" ∷ "$var reg 1 \" rst $end" ∷ "$var reg 8 # q [7:0] $end" ∷ "$scope module t $end" ∷ "$var wire 1 $ clk $end" ∷ "$var wire 8 % q [7:0] $end" ∷ "$upscope $end" ∷ "$upscope $end" ∷ "$enddefinitions $end" ∷ "#0" ∷ "$dumpvars" ∷ "0!" ∷ "1\"" ∷ "bx #" ∷ "0$" ∷ "bx %" ∷ "$end" ∷ "#5" ∷ "1!" ∷ "b0 #" ∷ "1$" ∷ "b0 %" ∷ "#10" ∷ "0!" ∷ "0$" ∷ "#12" ∷ "0\"" ∷ "#15" ∷ "1!" ∷ "b1 #" ∷ "1$" ∷ "b1 %" ∷ []); outcome = Done; time = 15; steps = 81; race = Some (8, at 0 1 76) })
unfolding symbols_of word_of
t52_seen = refl

-- module top; logic clk = 0; always #5 clk = ~clk; logic rst; logic [7:0] q; initial begin rst = 1; #12 rst <= 0; end always_ff @(posedge clk) if (rst) q <= 0; else q <= q + 1; test t(.clk, .q); endmodule
-- program test(input logic clk, input logic [7:0] q);
--   clocking cb @(posedge clk);
--     input q;
--   endclocking
--   initial repeat (2) begin
--     @(cb);
--     $display("%0t %0d", $time, cb.q);
--   end
-- endprogram
abbrev t53 : List Description
t53 = module_ (at 0 1 1) life.Unwritten (name (at 0 1 8) "top") None [] (items.Decl (decl life.Unwritten (types.WrittenType.Vector (at 0 1 13) vector_word.Logic sign.Unwritten None) (declarator (name (at 0 1 19) "clk") None (Some (stmts.Value (number (at 0 1 25) "0"))) ∷ [])) ∷ procedure (at 0 1 28) procedure_word.Always (stmts.Statement (at 0 1 35) None (stmts.After (delay (at 0 1 35) (number (at 0 1 36) "5")) (stmts.Statement (at 0 1 38) None (blocking (target (at 0 1 38) "clk") None (stmts.Value (tree.Unary (at 0 1 44) unary_word.Invert (plain (at 0 1 45) "clk"))))))) ∷ items.Decl (decl life.Unwritten (types.WrittenType.Vector (at 0 1 50) vector_word.Logic sign.Unwritten None) (declarator (name (at 0 1 56) "rst") None None ∷ [])) ∷ items.Decl (decl life.Unwritten (types.WrittenType.Vector (at 0 1 61) vector_word.Logic sign.Unwritten (Some (range (at 0 1 67) (number (at 0 1 68) "7") (number (at 0 1 70) "0")))) (declarator (name (at 0 1 73) "q") None None ∷ [])) ∷ procedure (at 0 1 76) procedure_word.Initial (stmts.Statement (at 0 1 84) None (stmts.Block None [] (statements (stmts.Statement (at 0 1 90) None (blocking (target (at 0 1 90) "rst") None (stmts.Value (number (at 0 1 96) "1"))) ∷ stmts.Statement (at 0 1 99) None (stmts.After (delay (at 0 1 99) (number (at 0 1 100) "12")) (stmts.Statement (at 0 1 103) None (nonblocking (target (at 0 1 103) "rst") None (number (at 0 1 110) "0")))) ∷ [])) None)) ∷ procedure (at 0 1 117) procedure_word.AlwaysFf (stmts.Statement (at 0 1 127) None (stmts.On (stmts.Parts (event_part edge.Posedge (plain (at 0 1 137) "clk") None ∷ [])) (stmts.Statement (at 0 1 142) None (stmts.IfElse (plain (at 0 1 146) "rst") (stmts.Statement (at 0 1 151) None (nonblocking (target (at 0 1 151) "q") None (number (at 0 1 156) "0"))) (stmts.Statement (at 0 1 164) None (nonblocking (target (at 0 1 164) "q") None (tree.Binary binary_word.Plus (at 0 1 171) (plain (at 0 1 169) "q") (number (at 0 1 173) "1")))))))) ∷ instances (name (at 0 1 176) "test") [] (instance (name (at 0 1 181) "t") (units.Named (at 0 1 183) (name (at 0 1 184) "clk") ∷ units.Named (at 0 1 189) (name (at 0 1 190) "q") ∷ []) ∷ []) ∷ []) None ∷ program_ (at 0 2 1) life.Unwritten (name (at 0 2 9) "test") None (port (Some port_direction.Input) false (types.Written (types.WrittenType.Vector (at 0 2 20) vector_word.Logic sign.Unwritten None)) (name (at 0 2 26) "clk") ∷ port (Some port_direction.Input) false (types.Written (types.WrittenType.Vector (at 0 2 37) vector_word.Logic sign.Unwritten (Some (range (at 0 2 43) (number (at 0 2 44) "7") (number (at 0 2 46) "0"))))) (name (at 0 2 49) "q") ∷ []) (clocking None (name (at 0 3 12) "cb") edge.Posedge (name (at 0 3 25) "clk") (units.Signals (sided direction.Input None ∷ []) (name (at 0 4 11) "q" ∷ []) ∷ []) None ∷ procedure (at 0 6 3) procedure_word.Initial (stmts.Statement (at 0 6 11) None (stmts.Repeat (number (at 0 6 19) "2") (stmts.Statement (at 0 6 22) None (stmts.Block None [] (statements (stmts.Statement (at 0 7 5) None (stmts.On (stmts.Parts (event_part edge.Unwritten (plain (at 0 7 7) "cb") None ∷ [])) (stmts.Statement (at 0 7 10) None stmts.Null)) ∷ stmts.Statement (at 0 8 5) None (stmts.Call (system (at 0 8 5) "$display" (text (at 0 8 14) "%0t %0d" ∷ tree.System (name (at 0 8 25) "$time") tree.Unwritten ∷ tree.Expr.Post (root.Plain (name (at 0 8 32) "cb")) (tree.Member (name (at 0 8 35) "q") tree.NoSuffix) ∷ []))) ∷ [])) None)))) ∷ []) None ∷ []

t53_seen : seen_in (Listed []) (Listed []) (elaborated t53 [] None) 82 ≡ Ran (record { log = lines ("5 x" ∷ "15 0" ∷ []); wave = lines ("$timescale 1ns $end" ∷ "$scope module top $end" ∷ "$var reg 1 ! clk $end" ∷ "$var reg 1 \" rst $end" ∷ "$var reg 8 # q [7:0] $end" ∷ "$scope module t $end" ∷ "$var wire 1 $ clk $end" ∷ "$var wire 8 % q [7:0] $end" ∷ "$upscope $end" ∷ "$upscope $end" ∷ "$enddefinitions $end" ∷ "#0" ∷ "$dumpvars" ∷ "0!" ∷ "1\"" ∷ "bx #" ∷ "0$" ∷ "bx %" ∷ "$end" ∷ "#5" ∷ "1!" ∷ "b0 #" ∷ "1$" ∷ "b0 %" ∷ "#10" ∷ "0!" ∷ "0$" ∷ "#12" ∷ "0\"" ∷ "#15" ∷ "1!" ∷ "b1 #" ∷ "1$" ∷ "b1 %" ∷ []); outcome = Done; time = 15; steps = 79; race = Some (8, at 0 1 76) })
unfolding symbols_of word_of
t53_seen = refl
