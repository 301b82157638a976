-- What is made of a function that was read.
use Rattle.std.specs.Prelude.{ℕ, List, Result, Ok}
use Rattle.std.specs.Borrow.{Bor}
use Rattle.sv_grammar.specs.Language.{Out}
use Rattle.sv_grammar.specs.Reading.{◌>>=◌}
use Rattle.sv_tree.specs.Codes.{toks}
use Rattle.sv_tree.specs.declared.token.Token.{Token}
use Rattle.sv_tree.specs.Forms.{C}
use Rattle.sv_tree.specs.Grammar.{reads}
use Rattle.sv_parse.specs.Outcome.{Gives}
use Rattle.sv_parse.specs.declared.tokens.ReadError.{ReadError}

-- what was read, applied to what stood before it
abbrev pub applied : {A B : Type 0} → A → Out (A → B) → Out B
applied a o = o >>= λ f. Ok (f.0 a, f.1)

-- the same as Reads, of a production that takes in what stood before it
abbrev pub ReadsAfter : {X A Y : Type 0} → (X → Y) → A → ℕ → C (A → Y) → List Token → Result (X × Bor (List Token)) ReadError → Type 0
ReadsAfter view a d c ts result = Gives (λ x. (view x.0, toks x.1.now)) result (applied a (reads d c (toks ts)))
