-- Labels of statements, and items of a "case" (IEEE 1800-2017, A.6.4 and A.6.7).
use Rattle.std.specs.Prelude.{◌≡◌, ℕ, List, Option, Result, Ok, Err}
use Rattle.std.specs.Borrow.{Bor}
use Rattle.sv_grammar.specs.Tokens.{Tok}
use Rattle.sv_grammar.specs.Language.{Out}
use Rattle.sv_grammar.specs.Reading.{◌>>=◌}
use Rattle.sv_tree.specs.declared.token.Token.{Token}
use Rattle.sv_tree.specs.declared.word.Name.{Name}
use Rattle.sv_tree.specs.Codes.{toks}
use Rattle.sv_tree.specs.Stmt as stmts
use Rattle.sv_tree.specs.View.{expr_list}
use Rattle.sv_tree.specs.Forms.{Placed, statement}
use Rattle.sv_tree.specs.StmtGrammar as grammar
use Rattle.sv_tree.specs.Grammar.{reads}
use Rattle.sv_parse.specs.Outcome.{Fails}
use Rattle.sv_parse.specs.declared.tokens.ReadError.{ReadError}
use Rattle.sv_parse_stmt.specs.Fronts.{Follows}
use Rattle.sv_parse_stmt.specs.declared.cases.CaseItemHead.{CaseItemHead}
use Rattle.sv_parse_stmt.specs.declared.cases.CaseItemHead.TheVariants as case_item_head

-- a form that was read, with its label or without one
abbrev pub labelled : Option Name → Out Placed → Out stmts.Stmt
labelled n o = o >>= λ p. Ok (stmts.Statement p.0.at n p.0.body, p.1)

-- a label was read, or there is none, and the form after it is left; or reading failed
abbrev pub Labels : Result (Option Name × Bor (List Token)) ReadError → List Tok → Type 0
Labels (Ok x) ts = (d : ℕ) → reads d grammar.stmt ts ≡ labelled x.0 (reads d grammar.body (toks x.1.now))
Labels (Err e) ts = (d : ℕ) → Fails e (reads d grammar.stmt ts)

-- an item of a "case" with its statement
abbrev pub with_stmt : CaseItemHead → stmts.Stmt → stmts.CaseItems → stmts.CaseItems
with_stmt (case_item_head.Labels es) s rest = stmts.Labels (expr_list es.items) s rest
with_stmt case_item_head.Default s rest = stmts.Default s rest

-- what stands before the statement of an item of a "case" was read, and the statement is left; or reading failed
abbrev pub Heads : ℕ → Result (CaseItemHead × Bor (List Token)) ReadError → Out (stmts.CaseItems → stmts.CaseItems) → Type 0
Heads d (Ok x) all = Follows (λ s. Ok (with_stmt x.0 s.0, s.1)) (reads d statement (toks x.1.now)) all
Heads d (Err e) all = Fails e all
