-- What is answered about the tokens of a file (own).
use Rattle.std.specs.Prelude.{◌≡◌, ℕ, List, Result, Ok, Err, Vec}
use Rattle.std.specs.Global.{Global}
use Rattle.sv_value.specs.declared.place.Place.{Place}
use Rattle.sv_grammar.specs.Tokens.{Tok, next}
use Rattle.sv_grammar.specs.Language.{IsTooDeep, IsUnexpected}
use Rattle.sv_tree.specs.declared.unit.Description.{Description}
use Rattle.sv_tree.specs.Descriptions as descriptions
use Rattle.sv_tree.specs.Grammar.{texts_of}
use Rattle.sv_tree.specs.UnitGrammar.{file}
use Rattle.sv_tree.specs.UnitView.{description}
use Rattle.sv_parse.specs.Outcome.{seen}
use Rattle.sv_parse.specs.declared.fault.SyntaxFault.{SyntaxFault}
use Rattle.sv_parse.specs.declared.fault.SyntaxFault.TheVariants as faults
use Rattle.sv_parse.specs.declared.fault.SyntaxKind.{SyntaxKind}
use Rattle.sv_parse.specs.declared.fault.SyntaxKind.TheVariants as kinds

-- these descriptions are answered, unless memory ran out
abbrev pub AnswersUnits : List descriptions.Description → Result (Vec Description Global) SyntaxFault → Type 0
AnswersUnits ds (Ok v) = seen description v ≡ ds
AnswersUnits ds (Err faults.Memory) = Unit {0}
AnswersUnits ds (Err (faults.Bad at kind)) = ⊥

-- the tokens are no file of this depth: here stands the first token with which none goes on, or with which only deeper ones do
abbrev pub IsFault : ℕ → List Tok → Place → SyntaxKind → Type 0
IsFault d ts at kinds.Depth = (rest : List Tok) × (at ≡ (next rest).at) × IsTooDeep (texts_of file) d ts rest
IsFault d ts at kinds.Unexpected = (rest : List Tok) × (at ≡ (next rest).at) × IsUnexpected (texts_of file) d ts rest

-- a fault is told as it is
abbrev pub TellsFault : ℕ → List Tok → Result (Vec Description Global) SyntaxFault → Type 0
TellsFault d ts (Ok v) = Unit {0}
TellsFault d ts (Err faults.Memory) = Unit {0}
TellsFault d ts (Err (faults.Bad at kind)) = IsFault d ts at kind
