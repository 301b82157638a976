-- What is answered of a production that takes in what stood before it.
use Rattle.std.specs.Prelude.{ℕ, List, Result}
use Rattle.std.specs.Borrow.{Bor}
use Rattle.sv_tree.specs.Codes.{toks}
use Rattle.sv_tree.specs.declared.token.Token.{Token}
use Rattle.sv_tree.specs.Forms.{C}
use Rattle.sv_tree.specs.Grammar.{reads}
use Rattle.sv_parse.specs.Outcome.{Gives}
use Rattle.sv_parse.specs.declared.tokens.ReadError.{ReadError}
use Rattle.sv_parse_type.specs.Applied.{applied}

-- the same as ReadsAfter, of a production that takes in two things
abbrev pub ReadsAfterTwo : {X A B Y : Type 0} → (X → Y) → A → B → ℕ → C (A → B → Y) → List Token → Result (X × Bor (List Token)) ReadError → Type 0
ReadsAfterTwo view a b d c ts result = Gives (λ x. (view x.0, toks x.1.now)) result (applied b (applied a (reads d c (toks ts))))
