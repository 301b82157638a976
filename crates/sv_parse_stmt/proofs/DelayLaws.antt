-- Delays: what each begins with.
use Rattle.std.proofs.Common.{◌≡◌, ℕ, true, false, List, [], ◌∷◌, refl}
use Rattle.sv_grammar.specs.Tokens.{Tok, next, mem}
use Rattle.sv_grammar.specs.Code.Code.{Map}
use Rattle.sv_parse_stmt.proofs.KindLaws.{is_one}
use Rattle.sv_tree.specs.declared.kind.Kind.TheVariants as k
use Rattle.sv_tree.specs.declared.expr.Root.TheVariants as root
use Rattle.sv_tree.specs.Codes.{code}
use Rattle.sv_tree.specs.Expr as tree
use Rattle.sv_tree.specs.Forms.{tok, name}
use Rattle.sv_tree.specs.StmtGrammar.{enclosed, amount, cycles_amount}
use Rattle.sv_tree.specs.Grammar.{reads}
use Rattle.sv_tree.proofs.KnownStmts.{enclosed_known}

module _ (d : ℕ) (ts : List Tok) where
  pub cycles_number : mem (next ts).code (code k.Number ∷ []) ≡ true → reads d cycles_amount ts ≡ reads d (Map (λ t. tree.Number t.at t.text) (tok k.Number)) ts
  unfolding cycles_amount
  cycles_number h = rw (is_one (next ts).code (code k.Number) h) refl

  pub cycles_named : mem (next ts).code (code k.Name ∷ []) ≡ true → reads d cycles_amount ts ≡ reads d (Map (λ n. tree.Expr.Post (root.Plain n) tree.NoSuffix) name) ts
  unfolding cycles_amount
  cycles_named h = rw (is_one (next ts).code (code k.Name) h) refl

  pub cycles_enclosed : mem (next ts).code (code k.Number ∷ []) ≡ false → mem (next ts).code (code k.Name ∷ []) ≡ false → reads d cycles_amount ts ≡ reads d enclosed ts
  unfolding cycles_amount
  cycles_enclosed h g = rw (h, g, enclosed_known.low_is) refl

  pub amount_time : mem (next ts).code (code k.TimeLiteral ∷ []) ≡ true → reads d amount ts ≡ reads d (Map (λ t. tree.Time t.at t.text) (tok k.TimeLiteral)) ts
  unfolding amount
  amount_time h = rw (is_one (next ts).code (code k.TimeLiteral) h) refl

  pub amount_cycles : mem (next ts).code (code k.TimeLiteral ∷ []) ≡ false → reads d amount ts ≡ reads d cycles_amount ts
  unfolding amount cycles_amount
  amount_cycles h = rw h refl
