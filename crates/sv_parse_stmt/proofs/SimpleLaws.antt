-- Forms that hold no statement: assignments and calls that begin with "this", "super" or a brace.
use Rattle.std.proofs.Common.{◌≡◌, ℕ, true, false, List, [], ◌∷◌, Ok, Err, refl, ap, ◌∙◌}
use Rattle.sv_grammar.specs.Tokens.{Tok, next, mem}
use Rattle.sv_grammar.specs.Language.{Out}
use Rattle.sv_grammar.specs.Reading.{◌>>=◌, one_of}
use Rattle.sv_tree.specs.declared.kind.Kind.TheVariants as k
use Rattle.sv_tree.specs.declared.word.Name.{Name}
use Rattle.sv_tree.specs.declared.expr.Root.{Root}
use Rattle.sv_tree.specs.declared.expr.Root.TheVariants as root
use Rattle.sv_tree.specs.Codes.{code}
use Rattle.sv_tree.specs.Expr as tree
use Rattle.sv_tree.specs.Stmt as stmts
use Rattle.sv_tree.specs.Forms.{Placed, tok, ◌◂◌, pair, triple, name}
use Rattle.sv_tree.specs.ExprGrammar.{suffixes, this_post, targets, maybe_actuals}
use Rattle.sv_tree.specs.StmtGrammar.{placed, place_of_target, post_end, assign_end, this_statement, targets_statement, super_statement, super_rest}
use Rattle.sv_tree.specs.Grammar.{reads}
use Rattle.sv_tree.proofs.KnownExprs as exprs
use Rattle.sv_tree.proofs.KnownStmts as known
use Rattle.sv_parse_type.specs.Applied.{applied}
use Rattle.sv_parse_stmt.proofs.KindLaws.{is_one}
use Rattle.sv_parse_stmt.proofs.Shapes.{made, beside, pair_applied, pair_is, then_is, triple_applied}

-- a body that is applied to what stands before it, at a place
at_place : {A : Type 0} (at : _) (a : A) (o : Out (A → stmts.Body)) → made (λ f. placed at (f a)) o ≡ (applied a o >>= λ b. Ok (placed at b.0, b.1))
at_place at a (Ok f) = refl
at_place at a (Err m) = refl

pub this_is : (d : ℕ) (ts : List Tok) → reads d this_statement ts ≡ (one_of (code k.This ∷ []) ts >>= λ t. reads d suffixes t.1 >>= λ s. applied (root.This t.0.at, s.0) (reads d post_end s.1) >>= λ b. Ok (placed t.0.at b.0, b.1))
unfolding this_statement this_post
this_is d ts =
    pair_is (λ (p : Root × tree.Suffixes) f. placed (tree.place_of_root p.0) (f p)) this_post post_end d ts
    ∙ ap (λ o. o >>= λ p. made (λ f. placed (tree.place_of_root p.0.0) (f p.0)) (reads d post_end p.1)) (pair_is (λ t s. (root.This t.at, s)) (tok k.This) suffixes d ts)
    ∙ go (one_of (code k.This ∷ []) ts)
  where
    ended : Out (Root × tree.Suffixes) → Out Placed
    ended o = o >>= λ p. made (λ f. placed (tree.place_of_root p.0.0) (f p.0)) (reads d post_end p.1)

    second : (t : Tok) (o : Out tree.Suffixes) → ended (made (λ s. (root.This t.at, s)) o) ≡ (o >>= λ s. applied (root.This t.at, s.0) (reads d post_end s.1) >>= λ b. Ok (placed t.at b.0, b.1))
    second t (Ok s) = at_place t.at (root.This t.at, s.0) (reads d post_end s.1)
    second t (Err m) = refl

    go : (o : Out Tok) → ended (o >>= λ t. made (λ s. (root.This t.0.at, s)) (reads d suffixes t.1)) ≡ (o >>= λ t. reads d suffixes t.1 >>= λ s. applied (root.This t.0.at, s.0) (reads d post_end s.1) >>= λ b. Ok (placed t.0.at b.0, b.1))
    go (Ok t) = second t.0 (reads d suffixes t.1)
    go (Err m) = refl

pub targets_is : (d : ℕ) (ts : List Tok) → reads d targets_statement ts ≡ (reads d targets ts >>= λ l. applied l.0 (reads d assign_end l.1) >>= λ b. Ok (placed (place_of_target l.0) b.0, b.1))
unfolding targets_statement
targets_is d ts = pair_is (λ (l : tree.Lval) f. placed (place_of_target l) (f l)) targets assign_end d ts ∙ go (reads d targets ts)
  where
    go : (o : Out tree.Lval) → (o >>= λ l. made (λ f. placed (place_of_target l.0) (f l.0)) (reads d assign_end l.1)) ≡ (o >>= λ l. applied l.0 (reads d assign_end l.1) >>= λ b. Ok (placed (place_of_target l.0) b.0, b.1))
    go (Ok l) = at_place (place_of_target l.0) l.0 (reads d assign_end l.1)
    go (Err m) = refl

-- ---- super

pub super_is : (d : ℕ) (ts : List Tok) → reads d super_statement ts ≡ (one_of (code k.Super ∷ []) ts >>= λ t. one_of (code k.Dot ∷ []) t.1 >>= λ u. applied t.0 (reads d super_rest u.1))
unfolding super_statement
super_is d ts = then_is (tok k.Super ◂ k.Dot) super_rest d ts ∙ go (one_of (code k.Super ∷ []) ts)
  where
    second : (t : Tok) (o : Out Tok) → (made (λ p. p.0) (beside t o) >>= λ x. applied x.0 (reads d super_rest x.1)) ≡ (o >>= λ u. applied t (reads d super_rest u.1))
    second t (Ok u) = refl
    second t (Err m) = refl

    go : (o : Out Tok) → (made (λ p. p.0) (o >>= λ t. beside t.0 (one_of (code k.Dot ∷ []) t.1)) >>= λ x. applied x.0 (reads d super_rest x.1)) ≡ (o >>= λ t. one_of (code k.Dot ∷ []) t.1 >>= λ u. applied t.0 (reads d super_rest u.1))
    go (Ok t) = second t.0 (one_of (code k.Dot ∷ []) t.1)
    go (Err m) = refl

new_rest : (d : ℕ) (ts : List Tok) → mem (next ts).code (code k.New ∷ []) ≡ true → reads d super_rest ts ≡ reads d (pair (λ w a t. placed t.at (stmts.Call (tree.SuperNew t.at w.at a))) (tok k.New) (maybe_actuals ◂ k.Semicolon)) ts
unfolding super_rest
new_rest d ts h = rw (is_one (next ts).code (code k.New) h) refl

member_rest : (d : ℕ) (ts : List Tok) → mem (next ts).code (code k.New ∷ []) ≡ false → reads d super_rest ts ≡ reads d (triple (λ n s f t. placed t.at (f (root.Super t.at n, s))) name suffixes post_end) ts
unfolding super_rest
member_rest d ts h = rw (h, exprs.suffixes_known.low_is, known.post_end_known.low_is) refl

pub super_new : (d : ℕ) (t : Tok) (ts : List Tok) → mem (next ts).code (code k.New ∷ []) ≡ true
    → applied t (reads d super_rest ts) ≡ (one_of (code k.New ∷ []) ts >>= λ w. reads d maybe_actuals w.1 >>= λ a. one_of (code k.Semicolon ∷ []) a.1 >>= λ s. Ok (placed t.at (stmts.Call (tree.SuperNew t.at w.0.at a.0)), s.1))
super_new d t ts h =
    ap (applied t) (new_rest d ts h)
    ∙ pair_applied {R = Tok} {S = Placed} (λ w a t. placed t.at (stmts.Call (tree.SuperNew t.at w.at a))) t (tok k.New) (maybe_actuals ◂ k.Semicolon) d ts
    ∙ go (one_of (code k.New ∷ []) ts)
  where
    third : (w : Tok) (a : tree.Actuals) (o : Out Tok) → made (λ y. placed t.at (stmts.Call (tree.SuperNew t.at w.at y))) (made (λ p. p.0) (beside a o)) ≡ (o >>= λ s. Ok (placed t.at (stmts.Call (tree.SuperNew t.at w.at a)), s.1))
    third w a (Ok s) = refl
    third w a (Err m) = refl

    second : (w : Tok) (o : Out tree.Actuals) → made (λ y. placed t.at (stmts.Call (tree.SuperNew t.at w.at y))) (made (λ p. p.0) (o >>= λ a. beside a.0 (one_of (code k.Semicolon ∷ []) a.1))) ≡ (o >>= λ a. one_of (code k.Semicolon ∷ []) a.1 >>= λ s. Ok (placed t.at (stmts.Call (tree.SuperNew t.at w.at a.0)), s.1))
    second w (Ok a) = third w a.0 (one_of (code k.Semicolon ∷ []) a.1)
    second w (Err m) = refl

    go : (o : Out Tok) → (o >>= λ w. made (λ y. placed t.at (stmts.Call (tree.SuperNew t.at w.0.at y))) (reads d (maybe_actuals ◂ k.Semicolon) w.1)) ≡ (o >>= λ w. reads d maybe_actuals w.1 >>= λ a. one_of (code k.Semicolon ∷ []) a.1 >>= λ s. Ok (placed t.at (stmts.Call (tree.SuperNew t.at w.0.at a.0)), s.1))
    go (Ok w) = second w.0 (reads d maybe_actuals w.1)
    go (Err m) = refl

pub super_member : (d : ℕ) (t : Tok) (ts : List Tok) → mem (next ts).code (code k.New ∷ []) ≡ false
    → applied t (reads d super_rest ts) ≡ (reads d name ts >>= λ n. reads d suffixes n.1 >>= λ s. applied (root.Super t.at n.0, s.0) (reads d post_end s.1) >>= λ b. Ok (placed t.at b.0, b.1))
super_member d t ts h =
    ap (applied t) (member_rest d ts h)
    ∙ triple_applied {R = Tok} {S = Placed} (λ n s f t. placed t.at (f (root.Super t.at n, s))) t name suffixes post_end d ts
    ∙ go (reads d name ts)
  where
    ended : (n : Name) (o : Out tree.Suffixes) → (o >>= λ s. made (λ f. placed t.at (f (root.Super t.at n, s.0))) (reads d post_end s.1)) ≡ (o >>= λ s. applied (root.Super t.at n, s.0) (reads d post_end s.1) >>= λ b. Ok (placed t.at b.0, b.1))
    ended n (Ok s) = at_place t.at (root.Super t.at n, s.0) (reads d post_end s.1)
    ended n (Err m) = refl

    go : (o : Out Name) → (o >>= λ n. reads d (pair (λ s f. placed t.at (f (root.Super t.at n.0, s))) suffixes post_end) n.1) ≡ (o >>= λ n. reads d suffixes n.1 >>= λ s. applied (root.Super t.at n.0, s.0) (reads d post_end s.1) >>= λ b. Ok (placed t.at b.0, b.1))
    go (Ok n) = pair_is (λ s (f : Root × tree.Suffixes → stmts.Body). placed t.at (f (root.Super t.at n.0, s))) suffixes post_end d n.1 ∙ ended n.0 (reads d suffixes n.1)
    go (Err m) = refl
