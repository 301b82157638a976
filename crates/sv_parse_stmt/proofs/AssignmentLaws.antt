-- Assignments: what each begins with, and what is made of its target.
use Rattle.std.proofs.Common.{◌≡◌, ℕ, true, false, List, [], ◌∷◌, ap, refl, ◌∙◌}
use Rattle.sv_grammar.specs.Tokens.{Tok, next, mem}
use Rattle.sv_grammar.specs.Reading.{◌>>=◌}
use Rattle.sv_grammar.specs.Info.{Info}
use Rattle.sv_grammar.specs.Code.{info}
use Rattle.sv_grammar.specs.Code.Code.{Map}
use Rattle.sv_tree.specs.declared.kind.Kind.TheVariants as k
use Rattle.sv_tree.specs.declared.expr.Root.{Root}
use Rattle.sv_tree.specs.declared.word.Name.{Name}
use Rattle.sv_tree.specs.Codes.{code}
use Rattle.sv_tree.specs.Expr as tree
use Rattle.sv_tree.specs.Stmt as stmts
use Rattle.sv_tree.specs.Forms.{Production, Value, tok, kinds_of}
use Rattle.sv_tree.specs.ExprGrammar.{suffixes, scoped, named_root}
use Rattle.sv_tree.specs.StmtGrammar.{blocking_rest, nonblocking_rest, operator_rest, step_after, assign_end, post_end, named_rest, assign_words}
use Rattle.sv_tree.specs.Grammar.{heads, need, reads}
use Rattle.sv_tree.proofs.KnownStmts as known
use Rattle.sv_parse_type.specs.Applied.{applied}
use Rattle.sv_parse_stmt.specs.Begins.{assignment_first}
use Rattle.sv_parse_stmt.proofs.Shapes.{applied_made, pair_is, triple_applied}

begins_blocking : (info Production Value heads need blocking_rest).first ≡ code k.Equals ∷ []
begins_blocking = ap (λ (i : Info). i.first) known.blocking_rest_known.info_is

begins_nonblocking : (info Production Value heads need nonblocking_rest).first ≡ code k.LessEquals ∷ []
begins_nonblocking = ap (λ (i : Info). i.first) known.nonblocking_rest_known.info_is

begins_operator : (info Production Value heads need operator_rest).first ≡ kinds_of assign_words
begins_operator = ap (λ (i : Info). i.first) known.operator_rest_known.info_is

module _ (d : ℕ) (ts : List Tok) where
  pub end_blocking : mem (next ts).code (code k.Equals ∷ []) ≡ true → reads d assign_end ts ≡ reads d blocking_rest ts
  unfolding assign_end
  end_blocking h = rw (begins_blocking, h, known.blocking_rest_known.low_is) refl

  pub end_nonblocking : mem (next ts).code (code k.Equals ∷ []) ≡ false → mem (next ts).code (code k.LessEquals ∷ []) ≡ true → reads d assign_end ts ≡ reads d nonblocking_rest ts
  unfolding assign_end
  end_nonblocking h g = rw (begins_blocking, h, known.nonblocking_rest_known.low_is, begins_nonblocking, g) refl

  pub end_operator : mem (next ts).code (code k.Equals ∷ []) ≡ false → mem (next ts).code (code k.LessEquals ∷ []) ≡ false → mem (next ts).code (kinds_of assign_words) ≡ true → reads d assign_end ts ≡ reads d operator_rest ts
  unfolding assign_end
  end_operator h g f = rw (begins_blocking, h, known.nonblocking_rest_known.low_is, begins_nonblocking, g, known.operator_rest_known.low_is, begins_operator, f) refl

  pub end_step : mem (next ts).code (code k.Equals ∷ []) ≡ false → mem (next ts).code (code k.LessEquals ∷ []) ≡ false → mem (next ts).code (kinds_of assign_words) ≡ false → reads d assign_end ts ≡ reads d step_after ts
  unfolding assign_end
  end_step h g f = rw (begins_blocking, h, known.nonblocking_rest_known.low_is, begins_nonblocking, g, known.operator_rest_known.low_is, begins_operator, f, known.step_after_known.low_is) refl

  pub post_call : mem (next ts).code assignment_first ≡ false → reads d post_end ts ≡ reads d (Map (λ t p. stmts.Call (tree.Expr.Post p.0 p.1)) (tok k.Semicolon)) ts
  unfolding post_end
  post_call h = rw (known.assign_end_known.info_is, h) refl

  pub post_assign : (r : Root) (s : tree.Suffixes) → mem (next ts).code assignment_first ≡ true → applied (r, s) (reads d post_end ts) ≡ applied (tree.Lval.Post r s) (reads d assign_end ts)
  unfolding post_end
  post_assign r s h = rw (known.assign_end_known.info_is, known.assign_end_known.low_is, h) (applied_made (r, s) (λ (f : tree.Lval → stmts.Body) p. f (tree.Lval.Post p.0 p.1)) (reads d assign_end ts))

  pub named_rest_is : (n : Name) → applied n (reads d named_rest ts) ≡ (reads d scoped ts >>= λ m. reads d suffixes m.1 >>= λ s. applied (named_root n m.0, s.0) (reads d post_end s.1))
  unfolding named_rest
  named_rest_is n =
      triple_applied (λ m s (f : Root × tree.Suffixes → stmts.Body) (q : Name). f (named_root q m, s)) n scoped suffixes post_end d ts
      ∙ (λ i. reads d scoped ts >>= λ m. pair_is (λ s (f : Root × tree.Suffixes → stmts.Body). f (named_root n m.0, s)) suffixes post_end d m.1 i)
