-- The parts of a "for": what each begins with.
use Rattle.std.proofs.Common.{◌≡◌, ℕ, Bool, true, false, cond, ◌==◌, List, [], ◌∷◌, Ok, Err, refl, ◌∙◌}
use Rattle.sv_value.specs.declared.place.Place.{Place}
use Rattle.sv_grammar.specs.Tokens.{Tok, next, mem}
use Rattle.sv_grammar.specs.Language.{Unexpected, Out}
use Rattle.sv_grammar.specs.Reading.{◌>>=◌, either}
use Rattle.sv_grammar.specs.Code.{info, least, reach}
use Rattle.sv_grammar.specs.Code.Code.{Map}
use Rattle.sv_tree.specs.declared.kind.Kind.TheVariants as k
use Rattle.sv_tree.specs.declared.expr.Root.{Root}
use Rattle.sv_tree.specs.Codes.{code}
use Rattle.sv_tree.specs.Expr as tree
use Rattle.sv_tree.specs.Stmt as stmts
use Rattle.sv_tree.specs.Types as types
use Rattle.sv_tree.specs.Forms.{Production, Value, ◌▸◌, pair, triple, then_, name, word, kinds_of}
use Rattle.sv_tree.specs.ExprGrammar.{expr, lval, post, targets, this_post, super_post, suffixes, scoped, named_root}
use Rattle.sv_tree.specs.TypeGrammar.{word_type}
use Rattle.sv_tree.specs.StmtGrammar.{for_init, for_init_rest, unnamed_lval, for_step, for_step_rest, for_step_before, place_of_target, assign_words, operated, step_words, step_word_of}
use Rattle.sv_tree.specs.Grammar.{heads, need, reads}
use Rattle.sv_tree.proofs.KnownExprs as exprs
use Rattle.sv_tree.proofs.KnownTypes as of_types
use Rattle.sv_tree.proofs.KnownStmts as known
use Rattle.sv_parse_type.specs.Applied.{applied}
use Rattle.sv_parse_type.specs.Begins.{word_type_first}
use Rattle.sv_parse_stmt.specs.Begins.{lval_first}
use Rattle.sv_parse_stmt.proofs.KindLaws.{is_one, is_other}
use Rattle.sv_parse_stmt.proofs.Shapes.{made, pair_is, then_is}

-- three alternatives, the first two of them together
grouped : (t s : Bool) (x y : Out (Root × tree.Suffixes)) (z : Out tree.Lval) → cond (cond t true (cond s true false)) (made (λ p. tree.Lval.Post p.0 p.1) (cond (cond t true false) x y)) z ≡ cond (cond t true false) (made (λ p. tree.Lval.Post p.0 p.1) x) (cond (cond s true false) (made (λ p. tree.Lval.Post p.0 p.1) y) z)
grouped true s x y z = refl
grouped false true x y z = refl
grouped false false x y z = refl

module _ (d : ℕ) (ts : List Tok) where
  -- ---- the last part

  pub step_assign : mem (next ts).code (code k.Equals ∷ []) ≡ true → reads d for_step_rest ts ≡ reads d (Map (λ e l at. stmts.ForStep.Assign l e) (k.Equals ▸ expr)) ts
  unfolding for_step_rest
  step_assign h = rw (is_one (next ts).code (code k.Equals) h, exprs.expr_known.low_is) refl

  pub step_operator : mem (next ts).code (code k.Equals ∷ []) ≡ false → mem (next ts).code (kinds_of assign_words) ≡ true → reads d for_step_rest ts ≡ reads d (pair (λ t e l at. stmts.ForStep.Operator (operated l t e)) (word assign_words) expr) ts
  unfolding for_step_rest
  step_operator h g = rw (h, g, exprs.expr_known.low_is) refl

  pub step_word : mem (next ts).code (code k.Equals ∷ []) ≡ false → mem (next ts).code (kinds_of assign_words) ≡ false → reads d for_step_rest ts ≡ reads d (Map (λ t l at. stmts.ForStep.Step at l (step_word_of t)) (word step_words)) ts
  unfolding for_step_rest
  step_word h g = rw (h, g, exprs.expr_known.low_is) refl

  pub step_before : mem (next ts).code lval_first ≡ false → reads d for_step ts ≡ reads d (pair (λ t l. stmts.ForStep.Step t.at l (step_word_of t)) (word step_words) lval) ts
  unfolding for_step for_step_before
  step_before h = rw (exprs.lval_known.info_is, h, exprs.lval_known.low_is) refl

  -- a target, and what follows it
  stepped : mem (next ts).code lval_first ≡ true → reads d for_step ts ≡ reads d (pair (λ l f. f l (place_of_target l)) lval for_step_rest) ts
  unfolding for_step
  stepped h = rw (exprs.lval_known.info_is, h, exprs.lval_known.low_is, known.for_step_rest_known.low_is) refl

  pub step_after : mem (next ts).code lval_first ≡ true → reads d for_step ts ≡ (reads d lval ts >>= λ l. applied (place_of_target l.0) (applied l.0 (reads d for_step_rest l.1)))
  step_after h = stepped h ∙ pair_is (λ l (f : tree.Lval → Place → stmts.ForStep). f l (place_of_target l)) lval for_step_rest d ts ∙ go (reads d lval ts)
    where
      ended : (l : tree.Lval) (o : Out (tree.Lval → Place → stmts.ForStep)) → made (λ y. y l (place_of_target l)) o ≡ applied (place_of_target l) (applied l o)
      ended l (Ok x) = refl
      ended l (Err m) = refl

      go : (o : Out tree.Lval) → (o >>= λ x. made (λ y. y x.0 (place_of_target x.0)) (reads d for_step_rest x.1)) ≡ (o >>= λ l. applied (place_of_target l.0) (applied l.0 (reads d for_step_rest l.1)))
      go (Ok x) = ended x.0 (reads d for_step_rest x.1)
      go (Err m) = refl

  -- ---- the first part

  pub init_declares : mem (next ts).code (code k.Name ∷ []) ≡ true → reads d for_init_rest ts ≡ reads d (pair (λ n e t. stmts.Declare (types.Named t) n e) name (k.Equals ▸ expr)) ts
  unfolding for_init_rest
  init_declares h = rw (is_one (next ts).code (code k.Name) h, exprs.expr_known.low_is) refl

  pub init_assigns : mem (next ts).code (code k.Name ∷ []) ≡ false → reads d for_init_rest ts ≡ reads d (triple (λ m s e n. stmts.ForInit.Assign (tree.Lval.Post (named_root n m) s) e) scoped suffixes (k.Equals ▸ expr)) ts
  unfolding for_init_rest
  init_assigns h = rw (h, exprs.expr_known.low_is, exprs.suffixes_known.low_is) refl

  begins_named : mem (next ts).code (code k.Name ∷ []) ≡ true → reads d for_init ts ≡ reads d (then_ name for_init_rest) ts
  unfolding for_init
  begins_named h = rw (is_one (next ts).code (code k.Name) h, known.for_init_rest_known.low_is) refl

  pub init_named : mem (next ts).code (code k.Name ∷ []) ≡ true → reads d for_init ts ≡ (reads d name ts >>= λ n. applied n.0 (reads d for_init_rest n.1))
  init_named h = begins_named h ∙ then_is name for_init_rest d ts

  pub init_typed : mem (next ts).code (code k.Name ∷ []) ≡ false → mem (next ts).code word_type_first ≡ true → reads d for_init ts ≡ reads d (triple stmts.Declare word_type name (k.Equals ▸ expr)) ts
  unfolding for_init
  init_typed h g = rw (h, of_types.word_type_known.info_is, g, of_types.word_type_known.low_is, exprs.expr_known.low_is) refl

  -- a target that begins with no name
  no_name : mem (next ts).code (code k.Name ∷ []) ≡ false → reads d lval ts ≡ reads d unnamed_lval ts
  unfolding lval post unnamed_lval
  no_name h = rw (exprs.named_post_known.info_is, exprs.this_post_known.info_is, exprs.super_post_known.info_is, exprs.named_post_known.low_is, exprs.this_post_known.low_is, exprs.super_post_known.low_is, is_other (next ts).code (code k.Name) h)
      (grouped ((next ts).code == code k.This) ((next ts).code == code k.Super) (reads d this_post ts) (reads d super_post ts) (either [] false (λ r. Err (Unexpected r)) (info Production Value heads need targets).first (reach (least Production Value heads need targets) d) (reads d targets) ts))

  assigned : mem (next ts).code (code k.Name ∷ []) ≡ false → mem (next ts).code word_type_first ≡ false → reads d for_init ts ≡ reads d (pair stmts.ForInit.Assign unnamed_lval (k.Equals ▸ expr)) ts
  unfolding for_init
  assigned h g = rw (h, of_types.word_type_known.info_is, g, of_types.word_type_known.low_is, exprs.expr_known.low_is, known.unnamed_lval_known.low_is) refl

  pub init_target : mem (next ts).code (code k.Name ∷ []) ≡ false → mem (next ts).code word_type_first ≡ false → reads d for_init ts ≡ reads d (pair stmts.ForInit.Assign lval (k.Equals ▸ expr)) ts
  init_target h g = assigned h g ∙ rw (no_name h) refl
