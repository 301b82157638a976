-- The texts that are read, and their designs.
use Rattle.std.specs.Prelude.{◌≡◌, ℕ, ◌+◌, List, [], ◌∷◌, ◌++◌, length, map, sum_by, Vec, Option, Some, codes, ◌⊎◌}
use Rattle.std.specs.Global.{Global}
use Rattle.sv_value.specs.declared.place.Place.{Place}
use Rattle.sv_grammar.specs.Language.{Reads}
use Rattle.sv_tree.specs.declared.token.Token.{Token}
use Rattle.sv_tree.specs.declared.token.Timescale.{Timescale}
use Rattle.sv_tree.specs.declared.token.Refused.{Refused}
use Rattle.sv_tree.specs.declared.token.Refused.TheVariants as refused
use Rattle.sv_tree.specs.Lexing.{Lexes, lex_fault, scales}
use Rattle.sv_tree.specs.Codes.{toks}
use Rattle.sv_tree.specs.Depth.{most_depth}
use Rattle.sv_tree.specs.Grammar.{texts_of}
use Rattle.sv_tree.specs.Descriptions.{Description}
use Rattle.sv_tree.specs.UnitGrammar as grammar
use Rattle.sv_parse.specs.declared.fault.SyntaxKind.{SyntaxKind}
use Rattle.sv_parse.specs.declared.fault.SyntaxKind.TheVariants as syntax
use Rattle.sv_parse.specs.declared.fault.SyntaxFault.{SyntaxFault}
use Rattle.sv_parse.specs.declared.fault.SyntaxFault.TheVariants as syntax_fault
use Rattle.sv_lex.specs.declared.lexer.LexFault.{LexFault}
use Rattle.sv_lex.specs.declared.lexer.LexFault.TheVariants as lexical_fault
use Rattle.sv_parse_unit.specs.Files.{IsFault}
use Rattle.sv_flat.specs.declared.design.Parts.{Parts}
use Rattle.sv_built.specs.Built.{IsBuilt}
use Rattle.sv_simulate.specs.declared.front.FrontFault.{FrontFault}
use Rattle.sv_simulate.specs.declared.front.FrontFault.TheVariants as front
use Rattle.sv_names.specs.declared.checked.Checked.TheVariants.{Good, Broken}
use Rattle.sv_names.specs.declared.refusal.Refusal.{Refusal}
use Rattle.sv_names.specs.declared.refusal.Refusal.TheVariants.{Rule, Memory}
use Rattle.sv_names.specs.Design.{elaborated}

-- the bytes of each text
abbrev pub contents : List (Vec ℕ Global) → List (List ℕ)
contents texts = map (λ v. v.items) texts

-- how many bytes texts have together
abbrev pub bytes_of : List (List ℕ) → ℕ
bytes_of texts = sum_by length texts

-- ---- one file

-- the text of the file with this number has tokens, and they spell these units
pub record IsParsed (file : ℕ) (text : List ℕ) (us : List Description) : Type 0 where
  pub tokens : List Token
  pub lexes : Lexes file text tokens
  pub spells : Reads (texts_of grammar.file) most_depth (toks tokens) us []

-- it has tokens, and they are no file: here stands the first with which no file goes on, or with which only deeper ones do
pub record IsMisspelled (file : ℕ) (text : List ℕ) (at : Place) (kind : SyntaxKind) : Type 0 where
  pub tokens : List Token
  pub lexes : Lexes file text tokens
  pub fault : IsFault most_depth (toks tokens) at kind

-- why it spells no units
abbrev pub IsUnread : (file : ℕ) → (text : List ℕ) → FrontFault → Type 0
IsUnread file text (front.Lexical at kind) = lex_fault file text ≡ Some (kind, at)
IsUnread file text (front.Syntax at kind) = IsMisspelled file text at kind
IsUnread file text front.Memory = Unit {0}
IsUnread file text fault = ⊥

-- ---- files with numbers from this one on

-- they spell these units, one file after another
abbrev pub AreParsed : (file : ℕ) → (texts : List (List ℕ)) → List Description → Type 0
AreParsed file [] us = us ≡ []
AreParsed file (text ∷ texts) us =
    (first others : List Description) × IsParsed file text first × AreParsed (file + 1) texts others × (us ≡ first ++ others)

-- their time scales
abbrev pub scales_of : (file : ℕ) → (texts : List (List ℕ)) → List Timescale
scales_of file [] = []
scales_of file (text ∷ texts) = scales file text ++ scales_of (file + 1) texts

-- why the first of them that spells no units spells none
abbrev pub FirstUnread : (file : ℕ) → (texts : List (List ℕ)) → FrontFault → Type 0
FirstUnread file [] fault = ⊥
FirstUnread file (text ∷ texts) fault =
    IsUnread file text fault ⊎ ((us : List Description) × IsParsed file text us × FirstUnread (file + 1) texts fault)

-- ---- all files

-- the texts break no rule under this root, and this is their design, which is one that runs today
pub record IsSource (texts : List (List ℕ)) (top : Option (List ℕ)) (d : Parts) : Type 0 where
  pub units : List Description
  pub parsed : AreParsed 0 texts units
  pub design : elaborated units (scales_of 0 texts) top ≡ Good d
  pub built : IsBuilt d

-- the texts are files, and this is the first rule that they break under this root
pub record IsBroken (texts : List (List ℕ)) (top : Option (List ℕ)) (rule : ℕ) (at : Place) : Type 0 where
  pub units : List Description
  pub parsed : AreParsed 0 texts units
  pub fault : elaborated units (scales_of 0 texts) top ≡ Broken (record { at = at; rule = rule })

-- the texts are files that break no rule under this root, and their design has forms that do not run today
pub record IsOther (texts : List (List ℕ)) (top : Option (List ℕ)) : Type 0 where
  pub units : List Description
  pub parsed : AreParsed 0 texts units
  pub parts : Parts
  pub design : elaborated units (scales_of 0 texts) top ≡ Good parts
  pub other : IsBuilt parts → ⊥

-- why texts have no design under this root
abbrev pub Explains : (texts : List (List ℕ)) → (top : Option (List ℕ)) → FrontFault → Type 0
Explains texts top (front.Lexical at kind) = FirstUnread 0 texts (front.Lexical at kind)
Explains texts top (front.Syntax at kind) = FirstUnread 0 texts (front.Syntax at kind)
Explains texts top (front.Rule n at) = IsBroken texts top n at
Explains texts top front.NotYet = IsOther texts top
Explains texts top front.Memory = Unit {0}

-- what a lexical fault is called
abbrev pub refusal_text : Refused → List ℕ
refusal_text refused.BadByte = codes "bad byte"
refusal_text refused.OpenText = codes "open text"
refusal_text refused.OpenComment = codes "open comment"
refusal_text refused.Literal = codes "bad literal"
refusal_text refused.TooManyTokens = codes "too many tokens"
refusal_text refused.Directive = codes "bad directive"

-- what a syntax fault is called
abbrev pub syntax_text : SyntaxKind → List ℕ
syntax_text syntax.Unexpected = codes "unexpected token"
syntax_text syntax.Depth = codes "too deep"

-- ---- by what is spelled

-- units, with time scales and under this root, have this design, which is one that runs today
pub record IsDesign (ts : List Timescale) (us : List Description) (top : Option (List ℕ)) (d : Parts) : Type 0 where
  pub design : elaborated us ts top ≡ Good d
  pub built : IsBuilt d

-- why units have no design under this root
abbrev pub Declines : List Timescale → List Description → (top : Option (List ℕ)) → FrontFault → Type 0
Declines ts us top (front.Rule n at) = elaborated us ts top ≡ Broken (record { at = at; rule = n })
Declines ts us top front.NotYet = (d : Parts) × (elaborated us ts top ≡ Good d) × (IsBuilt d → ⊥)
Declines ts us top front.Memory = Unit {0}
Declines ts us top fault = ⊥

-- a fault of the lexer, as one of a file
abbrev pub of_lexical : LexFault → FrontFault
of_lexical lexical_fault.Memory = front.Memory
of_lexical (lexical_fault.Bad at kind) = front.Lexical at kind

-- a fault of the parser, as one of a file
abbrev pub of_syntax : SyntaxFault → FrontFault
of_syntax syntax_fault.Memory = front.Memory
of_syntax (syntax_fault.Bad at kind) = front.Syntax at kind

-- a rule that is broken, as a fault of a file
abbrev pub of_refusal : Refusal → FrontFault
of_refusal (Rule n at) = front.Rule n at
of_refusal Memory = front.Memory
