-- What a reader answers about the tokens from a place on (own).
use Rattle.std.specs.Prelude.{◌≡◌, ℕ, ◌≤◌, List, length, drop, Result, Ok, Err}
use Rattle.sv_grammar.specs.Tokens.{Tok, next}
use Rattle.sv_grammar.specs.Language.{Lang, Reads, IsTooDeep, IsUnexpected}
use Rattle.sv_tree.specs.Codes.{toks}
use Rattle.sv_parse.specs.declared.tokens.ReadError.{ReadError}
use Rattle.sv_parse.specs.declared.tokens.ReadError.TheVariants as errors
use Rattle.sv_parse.specs.declared.fault.SyntaxFault.{SyntaxFault}
use Rattle.sv_parse.specs.declared.fault.SyntaxFault.TheVariants as faults
use Rattle.sv_parse.specs.declared.fault.SyntaxKind.TheVariants as kinds

-- a tree, read up to a place
pub record ReadsTo {Y : Type 0} (l : ℕ → Lang Y) (d : ℕ) (ts : List Tok) (from : ℕ) (y : Y) (end : ℕ) : Type 0 where
  pub after : from ≤ end
  pub within : end ≤ length ts
  pub reads : Reads l d (drop from ts) y (drop end ts)

-- a tree with the place after it, or the first token with which no text goes on, with the reason; or memory ran out
abbrev pub Tells : {X Y : Type 0} → (X → Y) → (ℕ → Lang Y) → ℕ → List Tok → ℕ → Result (X × ℕ) SyntaxFault → Type 0
Tells view l d ts from (Ok x) = ReadsTo l d ts from (view x.0) x.1
Tells view l d ts from (Err faults.Memory) = Unit {0}
Tells view l d ts from (Err (faults.Bad at kinds.Depth)) = (rest : List Tok) × (at ≡ (next rest).at) × IsTooDeep l d (drop from ts) rest
Tells view l d ts from (Err (faults.Bad at kinds.Unexpected)) = (rest : List Tok) × (at ≡ (next rest).at) × IsUnexpected l d (drop from ts) rest

-- a fault names what stopped a reader
abbrev pub Names : ReadError → SyntaxFault → Type 0
Names errors.Memory fault = fault ≡ faults.Memory
Names (errors.TooDeep rest) fault = fault ≡ faults.Bad (next (toks rest.now)).at kinds.Depth
Names (errors.Unexpected rest) fault = fault ≡ faults.Bad (next (toks rest.now)).at kinds.Unexpected
