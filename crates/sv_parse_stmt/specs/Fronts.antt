-- What is left to be read of a statement after the part before its first inner statement (IEEE 1800-2017, A.6.4).
use Rattle.std.specs.Prelude.{◌≡◌, ℕ, List, ◌++◌, map, Option, Result, Ok, Err}
use Rattle.sv_value.specs.declared.place.Place.{Place}
use Rattle.sv_grammar.specs.Tokens.{Tok}
use Rattle.sv_grammar.specs.Language.{Miss, Out}
use Rattle.sv_grammar.specs.Reading.{◌>>=◌}
use Rattle.sv_grammar.specs.Code.Code.{Rep}
use Rattle.sv_tree.specs.declared.kind.Kind.TheVariants as k
use Rattle.sv_tree.specs.declared.word.Name.{Name}
use Rattle.sv_tree.specs.declared.word.CaseWord.{CaseWord}
use Rattle.sv_tree.specs.declared.statement.Decl.{Decl}
use Rattle.sv_tree.specs.Codes.{toks}
use Rattle.sv_tree.specs.Expr as tree
use Rattle.sv_tree.specs.Stmt as stmts
use Rattle.sv_tree.specs.View.{expr}
use Rattle.sv_tree.specs.StmtView as view
use Rattle.sv_tree.specs.Forms.{Placed, ◌▸◌, ◌◂◌, in_parentheses, label, stacked, statement, tok, word}
use Rattle.sv_tree.specs.ExprGrammar as expressions
use Rattle.sv_tree.specs.StmtGrammar as grammar
use Rattle.sv_tree.specs.StmtGrammar.{BlockItem, Declared, Made}
use Rattle.sv_tree.specs.Grammar.{reads}
use Rattle.sv_parse.specs.Outcome.{Fails}
use Rattle.sv_parse.specs.declared.tokens.ReadError.{ReadError}
use Rattle.sv_parse_type.specs.Applied.{applied}
use Rattle.sv_parse_stmt.specs.declared.front.Placed.{Placed as Form}
use Rattle.sv_parse_stmt.specs.declared.front.Head.{Head}
use Rattle.sv_parse_stmt.specs.declared.front.Head.TheVariants as head
use Rattle.sv_parse_stmt.specs.declared.front.BlockWord.{BlockWord}
use Rattle.sv_parse_stmt.specs.declared.front.BlockWord.TheVariants as block_word
use Rattle.sv_parse_stmt.specs.declared.front.BlockHead.{BlockHead}
use Rattle.sv_parse_stmt.specs.declared.front.Front.{Front}
use Rattle.sv_parse_stmt.specs.declared.front.Front.TheVariants as front

-- a form at its place
abbrev pub placed : Form → Placed
placed p = grammar.placed p.at (view.body p.body)

-- a form of a head and its statement, and the end of it (A.6.5 and A.6.8)
abbrev pub headed : ℕ → Place → Head → stmts.Stmt × List Tok → Out Placed
headed d at (head.For f e l) s = Ok (grammar.placed at (stmts.For (view.for_init f.value) (expr e) (view.for_step l.value) s.0), s.1)
headed d at (head.While e) s = Ok (grammar.placed at (stmts.While (expr e) s.0), s.1)
headed d at head.Do s = reads d (k.While ▸ in_parentheses expressions.expr ◂ k.Semicolon) s.1 >>= λ e. Ok (grammar.placed at (stmts.Do s.0 e.0), e.1)
headed d at (head.Repeat e) s = Ok (grammar.placed at (stmts.Repeat (expr e) s.0), s.1)
headed d at head.Forever s = Ok (grammar.placed at (stmts.Forever s.0), s.1)
headed d at (head.Foreach a i) s = Ok (grammar.placed at (stmts.Foreach a i s.0), s.1)
headed d at (head.After t) s = Ok (grammar.placed at (stmts.After (view.delay t) s.0), s.1)
headed d at (head.On e) s = Ok (grammar.placed at (stmts.On (view.event e) s.0), s.1)
headed d at (head.Cycles e) s = Ok (grammar.placed at (stmts.Cycles at (expr e) s.0), s.1)
headed d at (head.Wait e) s = Ok (grammar.placed at (stmts.Wait at (expr e) s.0), s.1)

-- the items of a block, after these declarations (A.6.3)
abbrev pub after_decls : List Decl → List stmts.Stmt → List BlockItem
after_decls ds ss = map Declared (map view.decl ds) ++ map Made ss

-- the end of a block, after its items (A.6.3)
abbrev pub ended : BlockWord → Place → Option Name → List BlockItem → List Tok → Out Placed
ended block_word.Begin at n is ts = reads 0 (k.End ▸ label) ts >>= λ e. Ok (grammar.placed at (grammar.block_of n (is, e.0)), e.1)
ended block_word.Fork at n is ts = reads 0 (word grammar.join_words) ts >>= λ j. reads 0 label j.1 >>= λ e. Ok (grammar.placed at (grammar.fork_of n (is, j.0, e.0)), e.1)

-- a block of these statements, and its end (A.6.3)
abbrev pub block_ended : BlockHead → List stmts.Stmt × List Tok → Out Placed
block_ended b ss = ended b.word b.at b.name (after_decls b.decls.items ss.0) ss.1

-- a "case" of these items, and its end (A.6.7)
abbrev pub case_ended : Place → CaseWord → tree.Expr → List (stmts.CaseItems → stmts.CaseItems) × List Tok → Out Placed
case_ended at w e is = reads 0 (tok k.Endcase) is.1 >>= λ t. Ok (grammar.placed at (stmts.Case w e (stacked stmts.NoCaseItem is.0)), t.1)

-- an "if" of what was read after its condition (A.6.6)
abbrev pub chosen_by : Place → tree.Expr → (tree.Expr → stmts.Body) × List Tok → Out Placed
chosen_by at e f = Ok (grammar.placed at (f.0 e), f.1)

-- a body that was read, at its place
abbrev pub at_place : Place → Out stmts.Body → Out Placed
at_place at o = o >>= λ b. Ok (grammar.placed at b.0, b.1)

-- what is read of the rest
abbrev pub remaining : ℕ → Front → Out Placed
remaining d (front.Whole p rest) = Ok (placed p, toks rest.now)
remaining d (front.Head at h rest) = reads d statement (toks rest.now) >>= headed d at h
remaining d (front.Block b rest) = reads d (Rep statement) (toks rest.now) >>= block_ended b
remaining d (front.If at e rest) = at_place at (applied (expr e) (reads d grammar.if_rest (toks rest.now)))
remaining d (front.Case at w e rest) = reads d (Rep grammar.case_item) (toks rest.now) >>= case_ended at w (expr e)

-- all fails where a part fails, and is f of it where it is read
abbrev pub Follows : {A B : Type 0} → (A × List Tok → Out B) → Out A → Out B → Type 0
Follows f part all = ((m : Miss) → part ≡ Err m → all ≡ Err m) × ((y : _) → part ≡ Ok y → all ≡ f y)

-- all is read with the rest
abbrev pub Remains : ℕ → Front → Out Placed → Type 0
Remains d (front.Whole p rest) all = all ≡ Ok (placed p, toks rest.now)
Remains d (front.Head at h rest) all = Follows (headed d at h) (reads d statement (toks rest.now)) all
Remains d (front.Block b rest) all = Follows (block_ended b) (reads d (Rep statement) (toks rest.now)) all
Remains d (front.If at e rest) all = Follows (chosen_by at (expr e)) (reads d grammar.if_rest (toks rest.now)) all
Remains d (front.Case at w e rest) all = Follows (case_ended at w (expr e)) (reads d (Rep grammar.case_item) (toks rest.now)) all

-- the front of a statement was read, or reading it failed
abbrev pub Begun : ℕ → Result Front ReadError → Out Placed → Type 0
Begun d (Ok f) all = Remains d f all
Begun d (Err e) all = Fails e all

-- the front of a statement was read, and all is read with the rest; or reading it failed
abbrev pub Fronts : ℕ → Result Front ReadError → Out Placed → Type 0
Fronts d (Ok f) all = all ≡ remaining d f
Fronts d (Err e) all = Fails e all
