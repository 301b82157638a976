-- What an operand is once the rest of it is read.
use Rattle.std.proofs.Common.{◌≡◌, ℕ, ◌+◌, List, [], ◌∷◌, Ok, Err, refl, subst}
use Rattle.sv_grammar.specs.Tokens.{Tok}
use Rattle.sv_grammar.specs.Language.{TooDeep, Unexpected, Out}
use Rattle.sv_grammar.specs.Reading.{◌>>=◌, one_of}
use Rattle.sv_tree.specs.declared.kind.Kind.TheVariants as k
use Rattle.sv_grammar.specs.Code.Code.{Map}
use Rattle.sv_tree.specs.declared.expr.CastType.{CastType}
use Rattle.sv_tree.specs.declared.expr.Root.{Root}
use Rattle.sv_tree.specs.Codes.{code, toks}
use Rattle.sv_tree.specs.Expr as tree
use Rattle.sv_tree.specs.Forms.{Expression}
use Rattle.sv_tree.specs.Grammar.{reads}
use Rattle.sv_tree.specs.ExprGrammar.{cast, closed, expr, maybe_actuals, suffixes}
use Rattle.sv_parse.specs.Outcome.{Fails}
use Rattle.sv_parse.specs.declared.tokens.ReadError.{ReadError}
use Rattle.sv_parse.specs.declared.tokens.ReadError.TheVariants as errors
use Rattle.sv_parse_expr.specs.Fronts.{Fits, Follows, Remains, bracketed, called}
use Rattle.sv_parse_expr.specs.declared.fronts.Front.{Front}
use Rattle.sv_parse_expr.specs.declared.fronts.Front.TheVariants as front
use Rattle.sv_parse_expr.specs.declared.fronts.Opening.{Opening}
use Rattle.sv_parse_expr.specs.declared.fronts.Callee.{Callee}
use Rattle.sv_parse_expr.proofs.Budgets.{inner_at}
use Rattle.sv_parse_expr.proofs.Outcomes.{made, beside, row, fails_after}

-- what fails in a part fails in the whole
follows_fails : {A B : Type 0} (f : A → B) (part : Out A) (all : Out B) (e : ReadError) → Follows f part all → Fails e part → Fails e all
follows_fails f part all errors.Memory h g = tt
follows_fails f part all (errors.TooDeep rest) h g = h.0 (TooDeep (toks rest.now)) g
follows_fails f part all (errors.Unexpected rest) h g = h.0 (Unexpected (toks rest.now)) g

-- an expression and its bracket
closed_is : (d inner : ℕ) → inner + 1 ≡ d → (ts : List Tok) → reads d closed ts ≡ (reads inner expr ts >>= λ x. one_of (code k.RightParenthesis ∷ []) x.1 >>= λ t. Ok (x.0, t.1))
unfolding closed
closed_is d inner is ts = rw (inner_at d inner is Expression ts) (go (reads inner expr ts))
  where
    ended : (e : tree.Expr) (o : Out Tok) → made (λ p. p.0) (beside e o) ≡ (o >>= λ t. Ok (e, t.1))
    ended e (Ok t) = refl
    ended e (Err m) = refl

    go : (o : Out tree.Expr) → made (λ p. p.0) (row o (λ r. one_of (code k.RightParenthesis ∷ []) r)) ≡ (o >>= λ x. one_of (code k.RightParenthesis ∷ []) x.1 >>= λ t. Ok (x.0, t.1))
    go (Ok x) = ended x.0 (one_of (code k.RightParenthesis ∷ []) x.1)
    go (Err m) = refl

-- a cast, after its type
pub cast_is : (to : CastType) (d inner : ℕ) → inner + 1 ≡ d → (ts : List Tok) → reads d (Map (λ e. tree.Cast to e) cast) ts ≡ (one_of (code k.Apostrophe ∷ []) ts >>= λ a. one_of (code k.LeftParenthesis ∷ []) a.1 >>= λ b. reads inner expr b.1 >>= λ x. one_of (code k.RightParenthesis ∷ []) x.1 >>= λ t. Ok (tree.Cast to x.0, t.1))
unfolding cast
cast_is to d inner is ts = quote_ (one_of (code k.Apostrophe ∷ []) ts)
  where
    close : (a b : Tok) (e : tree.Expr) (o : Out Tok) → made (λ (e : tree.Expr). tree.Cast to e) (made (λ (p : Tok × tree.Expr). p.1) (beside a (made (λ (p : Tok × tree.Expr). p.1) (beside b (o >>= λ t. Ok (e, t.1)))))) ≡ (o >>= λ t. Ok (tree.Cast to e, t.1))
    close a b e (Ok t) = refl
    close a b e (Err m) = refl

    inside : (a b : Tok) (o : Out tree.Expr) → made (λ (e : tree.Expr). tree.Cast to e) (made (λ (p : Tok × tree.Expr). p.1) (beside a (made (λ (p : Tok × tree.Expr). p.1) (beside b (o >>= λ x. one_of (code k.RightParenthesis ∷ []) x.1 >>= λ t. Ok (x.0, t.1)))))) ≡ (o >>= λ x. one_of (code k.RightParenthesis ∷ []) x.1 >>= λ t. Ok (tree.Cast to x.0, t.1))
    inside a b (Ok x) = close a b x.0 (one_of (code k.RightParenthesis ∷ []) x.1)
    inside a b (Err m) = refl

    open_ : (a : Tok) (o : Out Tok) → made (λ (e : tree.Expr). tree.Cast to e) (made (λ (p : Tok × tree.Expr). p.1) (beside a (made (λ (p : Tok × tree.Expr). p.1) (row o (λ r. reads d closed r))))) ≡ (o >>= λ b. reads inner expr b.1 >>= λ x. one_of (code k.RightParenthesis ∷ []) x.1 >>= λ t. Ok (tree.Cast to x.0, t.1))
    open_ a (Ok b) = rw (closed_is d inner is b.1) (inside a b.0 (reads inner expr b.1))
    open_ a (Err m) = refl

    quote_ : (o : Out Tok) → made (λ (e : tree.Expr). tree.Cast to e) (made (λ (p : Tok × tree.Expr). p.1) (row o (λ q. made (λ (p : Tok × tree.Expr). p.1) (row (one_of (code k.LeftParenthesis ∷ []) q) (λ r. reads d closed r))))) ≡ (o >>= λ a. one_of (code k.LeftParenthesis ∷ []) a.1 >>= λ b. reads inner expr b.1 >>= λ x. one_of (code k.RightParenthesis ∷ []) x.1 >>= λ t. Ok (tree.Cast to x.0, t.1))
    quote_ (Ok a) = open_ a.0 (one_of (code k.LeftParenthesis ∷ []) a.1)
    quote_ (Err m) = refl

module _ (d : ℕ) (f : Front) (o : Opening) (inner : ℕ) (ts : List Tok) (all : Out tree.Expr) (is : f ≡ front.Bracket o inner) (left : Remains d f ts all) (fits : Fits d f) where
  deeper : inner + 1 ≡ d
  deeper = (subst (Fits d) is fits).0

  bracket_follows : Follows (bracketed o) (reads inner expr ts >>= λ x. one_of (code k.RightParenthesis ∷ []) x.1 >>= λ t. Ok (x.0, t.1)) all
  bracket_follows = subst (λ p. Follows (bracketed o) p all) (closed_is d inner deeper ts) (subst (λ g. Remains d g ts all) is left)

  pub bracket_fails : (e : ReadError) → Fails e (reads inner expr ts) → Fails e all
  bracket_fails e g = follows_fails (bracketed o) (reads inner expr ts >>= λ x. one_of (code k.RightParenthesis ∷ []) x.1 >>= λ t. Ok (x.0, t.1)) all e bracket_follows (fails_after e (reads inner expr ts) (λ x. one_of (code k.RightParenthesis ∷ []) x.1 >>= λ t. Ok (x.0, t.1)) g)

  pub bracket_open : (x : tree.Expr × List Tok) (e : ReadError) → reads inner expr ts ≡ Ok x → Fails e (one_of (code k.RightParenthesis ∷ []) x.1) → Fails e all
  bracket_open x e r g = follows_fails (bracketed o) (reads inner expr ts >>= λ x. one_of (code k.RightParenthesis ∷ []) x.1 >>= λ t. Ok (x.0, t.1)) all e bracket_follows (rw r (fails_after e (one_of (code k.RightParenthesis ∷ []) x.1) (λ t. Ok (x.0, t.1)) g))

  pub bracket_read : (x : tree.Expr × List Tok) (t : Tok × List Tok) → reads inner expr ts ≡ Ok x → one_of (code k.RightParenthesis ∷ []) x.1 ≡ Ok t → all ≡ Ok (bracketed o x.0, t.1)
  bracket_read x t r g = bracket_follows.1 (x.0, t.1) (rw (r, g) refl)

module _ (d : ℕ) (f : Front) (ts : List Tok) (all : Out tree.Expr) (left : Remains d f ts all) where
  pub call_read : (c : Callee) (y : tree.Actuals × List Tok) → f ≡ front.Call c → reads d maybe_actuals ts ≡ Ok y → all ≡ Ok (called c y.0, y.1)
  call_read c y is r = (subst (λ g. Remains d g ts all) is left).1 y r

  pub call_fails : (c : Callee) (e : ReadError) → f ≡ front.Call c → Fails e (reads d maybe_actuals ts) → Fails e all
  call_fails c e is g = follows_fails (called c) (reads d maybe_actuals ts) all e (subst (λ g. Remains d g ts all) is left) g

  pub post_read : (q : Root) (y : tree.Suffixes × List Tok) → f ≡ front.Post q → reads d suffixes ts ≡ Ok y → all ≡ Ok (tree.Expr.Post q y.0, y.1)
  post_read q y is r = (subst (λ g. Remains d g ts all) is left).1 y r

  pub post_fails : (q : Root) (e : ReadError) → f ≡ front.Post q → Fails e (reads d suffixes ts) → Fails e all
  post_fails q e is g = follows_fails (tree.Expr.Post q) (reads d suffixes ts) all e (subst (λ g. Remains d g ts all) is left) g
