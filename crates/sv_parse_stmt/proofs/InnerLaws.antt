-- A statement inside something.
use Rattle.std.proofs.Common.{◌≡◌, ℕ, ◌+◌, ◌-◌, List, Err, refl, ◌∙◌, arith}
use Rattle.sv_grammar.specs.Tokens.{Tok}
use Rattle.sv_grammar.specs.Language.{Unexpected}
use Rattle.sv_tree.specs.Forms.{Statement, statement}
use Rattle.sv_tree.specs.StmtGrammar.{stmt}
use Rattle.sv_tree.specs.Grammar.{reads}
use Rattle.sv_tree.proofs.Good.{inner_is}

pub inner_none : (d : ℕ) (ts : List Tok) → d ≡ 0 → reads d statement ts ≡ Err (Unexpected ts)
inner_none d ts none = rw none refl

pub inner_stmt : (inner d : ℕ) (ts : List Tok) → inner + 1 ≡ d → reads d statement ts ≡ reads inner stmt ts
inner_stmt inner d ts is = inner_is d (omega arith) Statement ts ∙ (let less : d - 1 ≡ inner = omega arith in rw less refl)
