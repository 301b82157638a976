-- Forms that hold statements, by their first inner statement.
use Rattle.std.proofs.Common.{◌≡◌, ℕ, ◌<◌, true, false, List, [], ◌∷◌, Ok, Err, refl, ap, ◌∙◌}
use Rattle.sv_grammar.specs.Tokens.{Tok, next, mem}
use Rattle.sv_grammar.specs.Language.{TooDeep, Out}
use Rattle.sv_grammar.specs.Reading.{◌>>=◌, one_of}
use Rattle.sv_grammar.specs.Code.Code.{Map, Rep}
use Rattle.sv_tree.specs.declared.kind.Kind.TheVariants as k
use Rattle.sv_tree.specs.declared.word.CaseWord.{CaseWord}
use Rattle.sv_tree.specs.declared.word.CaseWord.TheVariants as case_word
use Rattle.sv_tree.specs.Codes.{code}
use Rattle.sv_tree.specs.Expr as tree
use Rattle.sv_tree.specs.Stmt as stmts
use Rattle.sv_tree.specs.Forms.{Placed, tok, word, kinds_of, chosen, pair, ◌▸◌, ◌◂◌, in_parentheses, stacked, statement}
use Rattle.sv_tree.specs.ExprGrammar.{expr}
use Rattle.sv_tree.specs.StmtGrammar.{placed, case_item, case_rest, case_words, case_, do_rest, do_, wait_rest, wait}
use Rattle.sv_tree.specs.Grammar.{reads}
use Rattle.sv_tree.proofs.KnownExprs as exprs
use Rattle.sv_parse_type.specs.Applied.{applied}
use Rattle.sv_parse_stmt.specs.Fronts.{case_ended, headed}
use Rattle.sv_parse_stmt.specs.declared.front.Head.TheVariants as head
use Rattle.sv_parse_stmt.proofs.KindLaws.{is_one, reach_one}
use Rattle.sv_parse_stmt.proofs.Shapes.{made, beside, pair_applied, pair_is, then_is, triple_is}

-- ---- do

pub do_is : (d : ℕ) (ts : List Tok) → reads d do_ ts ≡ (one_of (code k.Do ∷ []) ts >>= λ t. reads d statement t.1 >>= headed d t.0.at head.Do)
unfolding do_ do_rest
do_is d ts = pair_is (λ t b. placed t.at b) (tok k.Do) do_rest d ts ∙ go (one_of (code k.Do ∷ []) ts)
  where
    ended : (at : _) (s : stmts.Stmt) (o : Out tree.Expr) → made (placed at) (made (stmts.Do s) o) ≡ (o >>= λ e. Ok (placed at (stmts.Do s e.0), e.1))
    ended at s (Ok e) = refl
    ended at s (Err m) = refl

    next_one : (at : _) (o : Out stmts.Stmt) → made (placed at) (o >>= λ s. made (stmts.Do s.0) (reads d (k.While ▸ in_parentheses expr ◂ k.Semicolon) s.1)) ≡ (o >>= headed d at head.Do)
    next_one at (Ok s) = ended at s.0 (reads d (k.While ▸ in_parentheses expr ◂ k.Semicolon) s.1)
    next_one at (Err m) = refl

    go : (o : Out Tok) → (o >>= λ t. made (placed t.0.at) (reads d do_rest t.1)) ≡ (o >>= λ t. reads d statement t.1 >>= headed d t.0.at head.Do)
    go (Ok t) = ap (λ o. made (placed t.0.at) o) (pair_is stmts.Do statement (k.While ▸ in_parentheses expr ◂ k.Semicolon) d t.1) ∙ next_one t.0.at (reads d statement t.1)
    go (Err m) = refl

-- ---- case

pub case_is : (d : ℕ) (ts : List Tok) → reads d case_ ts ≡ (one_of (kinds_of case_words) ts >>= λ t. reads d (in_parentheses expr) t.1 >>= λ e. reads d (Rep case_item) e.1 >>= case_ended t.0.at (chosen case_word.X case_words t.0.code) e.0)
unfolding case_ case_rest
case_is d ts = triple_is (λ t e is. placed t.at (stmts.Case (chosen case_word.X case_words t.code) e is)) (word case_words) (in_parentheses expr) case_rest d ts ∙ go (one_of (kinds_of case_words) ts)
  where
    stack : Out (List (stmts.CaseItems → stmts.CaseItems)) → Out stmts.CaseItems
    stack o = made (stacked stmts.NoCaseItem) o

    last : (at : _) (w : CaseWord) (e : tree.Expr) (is : stmts.CaseItems) (o : Out Tok) → made (λ z. placed at (stmts.Case w e z)) (made (λ p. p.0) (beside is o)) ≡ (o >>= λ t. Ok (placed at (stmts.Case w e is), t.1))
    last at w e is (Ok t) = refl
    last at w e is (Err m) = refl

    ended : (at : _) (w : CaseWord) (e : tree.Expr) (o : Out (List (stmts.CaseItems → stmts.CaseItems))) → made (λ z. placed at (stmts.Case w e z)) (made (λ p. p.0) (stack o >>= λ x. beside x.0 (one_of (code k.Endcase ∷ []) x.1))) ≡ (o >>= case_ended at w e)
    ended at w e (Ok is) = last at w e (stacked stmts.NoCaseItem is.0) (one_of (code k.Endcase ∷ []) is.1)
    ended at w e (Err m) = refl

    second : (t : Tok) (o : Out tree.Expr) → (o >>= λ e. made (λ z. placed t.at (stmts.Case (chosen case_word.X case_words t.code) e.0 z)) (reads d case_rest e.1)) ≡ (o >>= λ e. reads d (Rep case_item) e.1 >>= case_ended t.at (chosen case_word.X case_words t.code) e.0)
    second t (Ok e) = ended t.at (chosen case_word.X case_words t.code) e.0 (reads d (Rep case_item) e.1)
    second t (Err m) = refl

    go : (o : Out Tok) → (o >>= λ t. reads d (in_parentheses expr) t.1 >>= λ e. made (λ z. placed t.0.at (stmts.Case (chosen case_word.X case_words t.0.code) e.0 z)) (reads d case_rest e.1)) ≡ (o >>= λ t. reads d (in_parentheses expr) t.1 >>= λ e. reads d (Rep case_item) e.1 >>= case_ended t.0.at (chosen case_word.X case_words t.0.code) e.0)
    go (Ok t) = second t.0 (reads d (in_parentheses expr) t.1)
    go (Err m) = refl

-- ---- wait

pub wait_is : (d : ℕ) (ts : List Tok) → reads d wait ts ≡ (one_of (code k.Wait ∷ []) ts >>= λ t. applied t.0 (reads d wait_rest t.1))
unfolding wait
wait_is d ts = then_is (tok k.Wait) wait_rest d ts

pub wait_fork : (d : ℕ) (ts : List Tok) → mem (next ts).code (code k.LeftParenthesis ∷ []) ≡ false → reads d wait_rest ts ≡ reads d (Map (λ u t. placed t.at stmts.WaitFork) (k.Fork ▸ tok k.Semicolon)) ts
unfolding wait_rest
wait_fork d ts h = rw h refl

pub wait_deep : (d : ℕ) (t : Tok) (ts : List Tok) → d ≡ 0 → mem (next ts).code (code k.LeftParenthesis ∷ []) ≡ true → applied t (reads d wait_rest ts) ≡ Err (TooDeep ts)
unfolding wait_rest
wait_deep d t ts none h = rw (none, is_one (next ts).code (code k.LeftParenthesis) h, exprs.expr_known.low_is) refl

enclosed : (d : ℕ) (ts : List Tok) → 0 < d → mem (next ts).code (code k.LeftParenthesis ∷ []) ≡ true → reads d wait_rest ts ≡ reads d (pair (λ e s t. placed t.at (stmts.Wait t.at e s)) (in_parentheses expr) statement) ts
unfolding wait_rest
enclosed d ts some h = rw (is_one (next ts).code (code k.LeftParenthesis) h, exprs.expr_known.low_is, reach_one d some) refl

pub wait_enclosed : (d : ℕ) (t : Tok) (ts : List Tok) → 0 < d → mem (next ts).code (code k.LeftParenthesis ∷ []) ≡ true → applied t (reads d wait_rest ts) ≡ (reads d (in_parentheses expr) ts >>= λ e. reads d statement e.1 >>= λ s. Ok (placed t.at (stmts.Wait t.at e.0 s.0), s.1))
wait_enclosed d t ts some h = ap (applied t) (enclosed d ts some h) ∙ pair_applied {R = Tok} {S = Placed} (λ e s w. placed w.at (stmts.Wait w.at e s)) t (in_parentheses expr) statement d ts
