-- Statements by what stands at their front: a name, a label, or neither.
use Rattle.std.proofs.Common.{◌≡◌, ℕ, Bool, true, false, ◌&&◌, List, [], ◌∷◌, Some, None, drop, Ok, Err, refl, ap, sym, ◌∙◌}
use Rattle.sv_grammar.specs.Tokens.{Tok, next, mem}
use Rattle.sv_grammar.specs.Language.{Out}
use Rattle.sv_grammar.specs.Reading.{◌>>=◌, one_of}
use Rattle.sv_grammar.specs.Code.Code.{Map}
use Rattle.sv_tree.specs.declared.kind.Kind.TheVariants as k
use Rattle.sv_tree.specs.declared.word.Name.{Name}
use Rattle.sv_tree.specs.Codes.{code}
use Rattle.sv_tree.specs.Stmt as stmts
use Rattle.sv_tree.specs.Forms.{Placed, tok, ◌▸◌, then_, name_of}
use Rattle.sv_tree.specs.StmtGrammar.{placed, unlabelled, named_body, named_rest, unnamed, body, named_statement, stmt}
use Rattle.sv_tree.specs.Grammar.{reads}
use Rattle.sv_tree.proofs.KnownStmts as known
use Rattle.sv_parse_type.specs.Applied.{applied}
use Rattle.sv_parse_stmt.specs.Statements.{labelled}
use Rattle.sv_parse_stmt.proofs.KindLaws.{is_one}
use Rattle.sv_parse_stmt.proofs.Shapes.{made, beside, pair_is, then_is}

-- ---- the choices

module _ (d : ℕ) (ts : List Tok) where
  stmt_then : mem (next ts).code (code k.Name ∷ []) ≡ true → reads d stmt ts ≡ reads d (then_ (tok k.Name) named_statement) ts
  unfolding stmt
  stmt_then h = rw (is_one (next ts).code (code k.Name) h, known.named_statement_known.low_is) refl

  pub stmt_named : mem (next ts).code (code k.Name ∷ []) ≡ true → reads d stmt ts ≡ (one_of (code k.Name ∷ []) ts >>= λ t. applied t.0 (reads d named_statement t.1))
  stmt_named h = stmt_then h ∙ then_is (tok k.Name) named_statement d ts

  pub stmt_unnamed : mem (next ts).code (code k.Name ∷ []) ≡ false → reads d stmt ts ≡ (reads d unnamed ts >>= λ p. Ok (unlabelled p.0, p.1))
  unfolding stmt
  stmt_unnamed h = rw (h, known.unnamed_known.low_is) refl

  label_rest : mem (next ts).code (code k.Colon ∷ []) ≡ true → reads d named_statement ts ≡ reads d (Map (λ p t. stmts.Statement p.at (Some (name_of t)) p.body) (k.Colon ▸ body)) ts
  unfolding named_statement
  label_rest h = rw (is_one (next ts).code (code k.Colon) h, known.body_known.low_is) refl

  plain_rest : mem (next ts).code (code k.Colon ∷ []) ≡ false → reads d named_statement ts ≡ reads d (Map (λ f t. stmts.Statement t.at None (f (name_of t))) named_rest) ts
  unfolding named_statement
  plain_rest h = rw (h, known.named_rest_known.low_is) refl

  with_name : mem (next ts).code (code k.Name ∷ []) ≡ true → reads d body ts ≡ reads d named_body ts
  unfolding body
  with_name h = rw (is_one (next ts).code (code k.Name) h, known.named_rest_known.low_is) refl

  pub body_unnamed : mem (next ts).code (code k.Name ∷ []) ≡ false → reads d body ts ≡ reads d unnamed ts
  unfolding body
  body_unnamed h = rw (h, known.unnamed_known.low_is) refl

  pub body_named : mem (next ts).code (code k.Name ∷ []) ≡ true → reads d body ts ≡ (one_of (code k.Name ∷ []) ts >>= λ t. applied (name_of t.0) (reads d named_rest t.1) >>= λ b. Ok (placed t.0.at b.0, b.1))
  body_named h = with_name h ∙ pair_is (λ (t : Tok) (f : Name → stmts.Body). placed t.at (f (name_of t))) (tok k.Name) named_rest d ts ∙ go (one_of (code k.Name ∷ []) ts)
    where
      ended : (t : Tok) (o : Out (Name → stmts.Body)) → made (λ f. placed t.at (f (name_of t))) o ≡ (applied (name_of t) o >>= λ b. Ok (placed t.at b.0, b.1))
      ended t (Ok x) = refl
      ended t (Err m) = refl

      go : (o : Out Tok) → (o >>= λ t. made (λ f. placed t.0.at (f (name_of t.0))) (reads d named_rest t.1)) ≡ (o >>= λ t. applied (name_of t.0) (reads d named_rest t.1) >>= λ b. Ok (placed t.0.at b.0, b.1))
      go (Ok t) = ended t.0 (reads d named_rest t.1)
      go (Err m) = refl

-- ---- labels

-- a label, and a form after it
pub stmt_labelled : (d : ℕ) (ts : List Tok) → (mem (next ts).code (code k.Name ∷ []) && mem (next (drop 1 ts)).code (code k.Colon ∷ [])) ≡ true
    → reads d stmt ts ≡ (one_of (code k.Name ∷ []) ts >>= λ t. one_of (code k.Colon ∷ []) t.1 >>= λ c. labelled (Some (name_of t.0)) (reads d body c.1))
stmt_labelled d [] h = absurd cc
stmt_labelled d (t ∷ us) h = go (mem t.code (code k.Name ∷ [])) refl (mem (next us).code (code k.Colon ∷ [])) refl h
  where
    read_name : mem t.code (code k.Name ∷ []) ≡ true → one_of (code k.Name ∷ []) (t ∷ us) ≡ Ok (t, us)
    read_name e = rw e refl

    ended : (c : Tok) (o : Out Placed) → applied t (made (λ p w. stmts.Statement p.at (Some (name_of w)) p.body) (made (λ p. p.1) (beside c o))) ≡ labelled (Some (name_of t)) o
    ended c (Ok p) = refl
    ended c (Err m) = refl

    third : (o : Out Tok) → applied t (made (λ p w. stmts.Statement p.at (Some (name_of w)) p.body) (made (λ p. p.1) (o >>= λ c. beside c.0 (reads d body c.1)))) ≡ (o >>= λ c. labelled (Some (name_of t)) (reads d body c.1))
    third (Ok c) = ended c.0 (reads d body c.1)
    third (Err m) = refl

    go : (a : Bool) → mem t.code (code k.Name ∷ []) ≡ a → (b : Bool) → mem (next us).code (code k.Colon ∷ []) ≡ b → (a && b) ≡ true
        → reads d stmt (t ∷ us) ≡ (one_of (code k.Name ∷ []) (t ∷ us) >>= λ t. one_of (code k.Colon ∷ []) t.1 >>= λ c. labelled (Some (name_of t.0)) (reads d body c.1))
    go true e true f p = stmt_named d (t ∷ us) e ∙ rw (read_name e) (ap (applied t) (label_rest d us f) ∙ third (one_of (code k.Colon ∷ []) us))
    go true e false f p = absurd cc
    go false e b f p = absurd cc

-- no label: a form alone
pub stmt_plain : (d : ℕ) (ts : List Tok) → (mem (next ts).code (code k.Name ∷ []) && mem (next (drop 1 ts)).code (code k.Colon ∷ [])) ≡ false → reads d stmt ts ≡ labelled None (reads d body ts)
stmt_plain d [] h = stmt_unnamed d [] refl ∙ ap (labelled None) (sym (body_unnamed d [] refl))
stmt_plain d (t ∷ us) h = go (mem t.code (code k.Name ∷ [])) refl (mem (next us).code (code k.Colon ∷ [])) refl h
  where
    read_name : mem t.code (code k.Name ∷ []) ≡ true → one_of (code k.Name ∷ []) (t ∷ us) ≡ Ok (t, us)
    read_name e = rw e refl

    ended : (o : Out (Name → stmts.Body)) → applied t (made (λ f w. stmts.Statement w.at None (f (name_of w))) o) ≡ labelled None (applied (name_of t) o >>= λ b. Ok (placed t.at b.0, b.1))
    ended (Ok f) = refl
    ended (Err m) = refl

    go : (a : Bool) → mem t.code (code k.Name ∷ []) ≡ a → (b : Bool) → mem (next us).code (code k.Colon ∷ []) ≡ b → (a && b) ≡ false → reads d stmt (t ∷ us) ≡ labelled None (reads d body (t ∷ us))
    go true e true f p = absurd cc
    go true e false f p = stmt_named d (t ∷ us) e ∙ rw (body_named d (t ∷ us) e, read_name e) (ap (applied t) (plain_rest d us f) ∙ ended (reads d named_rest us))
    go false e b f p = stmt_unnamed d (t ∷ us) e ∙ ap (labelled None) (sym (body_unnamed d (t ∷ us) e))
