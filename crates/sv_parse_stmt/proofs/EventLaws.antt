-- Event controls: what each begins with.
use Rattle.std.proofs.Common.{◌≡◌, ℕ, true, false, List, [], ◌∷◌, refl}
use Rattle.sv_grammar.specs.Tokens.{Tok, next, mem}
use Rattle.sv_grammar.specs.Code.Code.{Map, Rep}
use Rattle.sv_tree.specs.declared.kind.Kind.TheVariants as k
use Rattle.sv_tree.specs.Codes.{code}
use Rattle.sv_tree.specs.Stmt as stmts
use Rattle.sv_tree.specs.Forms.{tok, name, pair, ◌▸◌, ◌◂◌}
use Rattle.sv_tree.specs.StmtGrammar.{event_part, next_event_part, event_parts, event_list, event}
use Rattle.sv_tree.specs.Grammar.{reads}
use Rattle.sv_tree.proofs.KnownStmts.{event_parts_known, event_list_known}
use Rattle.sv_parse_stmt.proofs.KindLaws.{is_one}

module _ (d : ℕ) (ts : List Tok) where
  pub list_star : mem (next ts).code (code k.Star ∷ []) ≡ true → reads d event_list ts ≡ reads d (Map (λ t. stmts.Star) (tok k.Star ◂ k.RightParenthesis)) ts
  unfolding event_list
  list_star h = rw (is_one (next ts).code (code k.Star) h) refl

  pub list_parts : mem (next ts).code (code k.Star ∷ []) ≡ false → reads d event_list ts ≡ reads d (Map stmts.Parts (pair (λ p ps. p ∷ ps) event_part (Rep next_event_part) ◂ k.RightParenthesis)) ts
  unfolding event_list event_parts
  list_parts h = rw (h, event_parts_known.low_is) refl

  pub event_named : mem (next ts).code (code k.Name ∷ []) ≡ true → reads d event ts ≡ reads d (Map stmts.Event.Named name) ts
  unfolding event
  event_named h = rw (is_one (next ts).code (code k.Name) h) refl

  pub event_star : mem (next ts).code (code k.Star ∷ []) ≡ true → reads d event ts ≡ reads d (Map (λ t. stmts.Star) (tok k.Star)) ts
  unfolding event
  event_star h = rw (is_one (next ts).code (code k.Star) h) refl

  pub event_listed : mem (next ts).code (code k.Name ∷ []) ≡ false → mem (next ts).code (code k.Star ∷ []) ≡ false → reads d event ts ≡ reads d (k.LeftParenthesis ▸ event_list) ts
  unfolding event
  event_listed h g = rw (h, g, event_list_known.low_is) refl
