-- What stands in braces: a concatenation or a replication.
use Rattle.std.proofs.Common.{◌≡◌, ℕ, ◌+◌, true, false, List, [], ◌∷◌, Ok, Err, refl, ◌∙◌}
use Rattle.sv_grammar.specs.Tokens.{Tok, next, mem}
use Rattle.sv_grammar.specs.Language.{TooDeep, Out}
use Rattle.sv_grammar.specs.Reading.{◌>>=◌, one_of}
use Rattle.sv_grammar.specs.Code.{list_from}
use Rattle.sv_grammar.specs.Code.Code.{Inner, Map, Alt, Rep}
use Rattle.sv_tree.specs.declared.kind.Kind.TheVariants as k
use Rattle.sv_tree.specs.Codes.{code}
use Rattle.sv_tree.specs.Expr as tree
use Rattle.sv_tree.specs.Forms.{C, Expression, Repeated, Bracketed, comma, commas, exprs, list}
use Rattle.sv_tree.specs.Grammar.{reads}
use Rattle.sv_tree.specs.ExprGrammar.{braces, comma_expr, expr, inner_exprs, repeated}
use Rattle.sv_parse.specs.Outcome.{Fails}
use Rattle.sv_parse.specs.Parts.{from}
use Rattle.sv_parse.specs.declared.tokens.ReadError.{ReadError}
use Rattle.sv_parse_expr.proofs.Budgets.{inner_at, reach_two, reach_not_two}
use Rattle.sv_parse_expr.proofs.Lists.{inner_commas, inner_exprs_of}
use Rattle.sv_parse_expr.proofs.Outcomes.{made, beside, row, fails_after}

-- what a concatenation, and what a replication, makes of the brace and the first expression
abbrev Ending : Type 0
Ending = Tok → tree.Expr → tree.Expr

abbrev join : List tree.Expr → Ending
join es t e = tree.Expr.Join t.at (tree.AndExpr e (exprs es))

abbrev repeat : Bracketed → Ending
repeat b t e = tree.Repeat t.at e b.at b.list

-- what follows the first expression
abbrev ending : C Ending
ending = Alt (Map repeat (Inner Repeated)) (Map join (Rep comma_expr))

-- the brace at the end
abbrev ended : Tok → tree.Expr → Out Ending → Out tree.Expr
ended t e o = o >>= λ f. one_of (code k.RightBrace ∷ []) f.1 >>= λ c. Ok (f.0 t e, c.1)

-- expressions in braces, at the first
abbrev enclosed : Tok × List tree.Expr → Bracketed
enclosed p = record { at = p.0.at; list = exprs p.1 }

module _ (d inner : ℕ) (is : inner + 1 ≡ d) (ts : List Tok) where
  braces_are : reads d braces ts ≡ (one_of (code k.LeftBrace ∷ []) ts >>= λ t. reads inner expr t.1 >>= λ x. ended t.0 x.0 (reads d ending x.1))
  unfolding braces
  braces_are = go (one_of (code k.LeftBrace ∷ []) ts)
    where
      close : (t : Tok) (e : tree.Expr) (f : Ending) (o : Out Tok) → made (λ (p : Tok × (tree.Expr × Ending)). p.1.1 p.0 p.1.0) (beside t (beside e (made (λ p. p.0) (beside f o)))) ≡ (o >>= λ c. Ok (f t e, c.1))
      close t e f (Ok c) = refl
      close t e f (Err m) = refl

      end : (t : Tok) (e : tree.Expr) (o : Out Ending) → made (λ (p : Tok × (tree.Expr × Ending)). p.1.1 p.0 p.1.0) (beside t (beside e (made (λ p. p.0) (row o (λ q. one_of (code k.RightBrace ∷ []) q))))) ≡ ended t e o
      end t e (Ok f) = close t e f.0 (one_of (code k.RightBrace ∷ []) f.1)
      end t e (Err m) = refl

      first : (t : Tok) (o : Out tree.Expr) → made (λ (p : Tok × (tree.Expr × Ending)). p.1.1 p.0 p.1.0) (beside t (row o (λ s. made (λ p. p.0) (row (reads d ending s) (λ q. one_of (code k.RightBrace ∷ []) q))))) ≡ (o >>= λ x. ended t x.0 (reads d ending x.1))
      first t (Ok x) = end t x.0 (reads d ending x.1)
      first t (Err m) = refl

      go : (o : Out Tok) → made (λ (p : Tok × (tree.Expr × Ending)). p.1.1 p.0 p.1.0) (row o (λ r. row (reads d (Inner Expression) r) (λ s. made (λ p. p.0) (row (reads d ending s) (λ q. one_of (code k.RightBrace ∷ []) q))))) ≡ (o >>= λ t. reads inner expr t.1 >>= λ x. ended t.0 x.0 (reads d ending x.1))
      go (Ok t) = rw (inner_at d inner is Expression t.1) (first t.0 (reads inner expr t.1))
      go (Err m) = refl

  -- ---- after the brace

  pub braces_first : (t : Tok × List Tok) (e : ReadError) → one_of (code k.LeftBrace ∷ []) ts ≡ Ok t → Fails e (reads inner expr t.1) → Fails e (reads d braces ts)
  braces_first t e h g = rw (braces_are, h) (fails_after e (reads inner expr t.1) (λ x. ended t.0 x.0 (reads d ending x.1)) g)

  module _ (t : Tok × List Tok) (x : tree.Expr × List Tok) (opened : one_of (code k.LeftBrace ∷ []) ts ≡ Ok t) (first : reads inner expr t.1 ≡ Ok x) where
    braces_end : reads d braces ts ≡ ended t.0 x.0 (reads d ending x.1)
    braces_end = rw (braces_are, opened, first) refl

    -- a concatenation
    pub braces_join : mem (next x.1).code (code k.LeftBrace ∷ []) ≡ false → reads d braces ts ≡ (from (comma expr) inner (x.0 ∷ []) x.1 >>= λ es. one_of (code k.RightBrace ∷ []) es.1 >>= λ c. Ok (tree.Expr.Join t.0.at (exprs es.0), c.1))
    unfolding comma_expr list_from
    braces_join h = braces_end ∙ rw (h, inner_commas Expression d inner is refl x.1) (go (reads inner (commas expr) x.1))
      where
        go : (o : Out (List tree.Expr)) → ended t.0 x.0 (made join o) ≡ (made (λ es. x.0 ∷ es) o >>= λ es. one_of (code k.RightBrace ∷ []) es.1 >>= λ c. Ok (tree.Expr.Join t.0.at (exprs es.0), c.1))
        go (Ok es) = refl
        go (Err m) = refl

    -- a replication
    pub braces_deep : mem (next x.1).code (code k.LeftBrace ∷ []) ≡ true → inner ≡ 0 → reads d braces ts ≡ Err (TooDeep x.1)
    braces_deep h none = braces_end ∙ rw (h, reach_not_two d inner is none) refl

    pub braces_repeat : mem (next x.1).code (code k.LeftBrace ∷ []) ≡ true → (innermost : ℕ) → innermost + 1 ≡ inner → reads d braces ts ≡ (reads (innermost + 1) repeated x.1 >>= λ b. one_of (code k.RightBrace ∷ []) b.1 >>= λ c. Ok (tree.Repeat t.0.at x.0 b.0.at b.0.list, c.1))
    braces_repeat h innermost fits = braces_end ∙ rw (h, reach_two d inner innermost is fits, inner_at d inner is Repeated x.1, fits) (go (reads inner repeated x.1))
      where
        go : (o : Out Bracketed) → ended t.0 x.0 (made repeat o) ≡ (o >>= λ b. one_of (code k.RightBrace ∷ []) b.1 >>= λ c. Ok (tree.Repeat t.0.at x.0 b.0.at b.0.list, c.1))
        go (Ok b) = refl
        go (Err m) = refl

-- what is repeated, in its braces
pub repeated_is : (e : ℕ) (ts : List Tok) → reads (e + 1) repeated ts ≡ (one_of (code k.LeftBrace ∷ []) ts >>= λ t. reads e (list expr) t.1 >>= λ es. one_of (code k.RightBrace ∷ []) es.1 >>= λ c. Ok (record { at = t.0.at; list = exprs es.0 }, c.1))
unfolding repeated
repeated_is e ts = go (one_of (code k.LeftBrace ∷ []) ts)
  where
    close : (t : Tok) (es : List tree.Expr) (o : Out Tok) → made enclosed (beside t (made (λ p. p.0) (beside es o))) ≡ (o >>= λ c. Ok (record { at = t.at; list = exprs es }, c.1))
    close t es (Ok c) = refl
    close t es (Err m) = refl

    items : (t : Tok) (o : Out (List tree.Expr)) → made enclosed (beside t (made (λ p. p.0) (row o (λ r. one_of (code k.RightBrace ∷ []) r)))) ≡ (o >>= λ es. one_of (code k.RightBrace ∷ []) es.1 >>= λ c. Ok (record { at = t.at; list = exprs es.0 }, c.1))
    items t (Ok es) = close t es.0 (one_of (code k.RightBrace ∷ []) es.1)
    items t (Err m) = refl

    go : (o : Out Tok) → made enclosed (row o (λ r. made (λ p. p.0) (row (reads (e + 1) inner_exprs r) (λ s. one_of (code k.RightBrace ∷ []) s)))) ≡ (o >>= λ t. reads e (list expr) t.1 >>= λ es. one_of (code k.RightBrace ∷ []) es.1 >>= λ c. Ok (record { at = t.0.at; list = exprs es.0 }, c.1))
    go (Ok t) = rw (inner_exprs_of e t.1) (items t.0 (reads e (list expr) t.1))
    go (Err m) = refl
