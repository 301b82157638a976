-- What a reader of lists and of optional parts has to know of the part that it reads.
use Rattle.std.specs.Prelude.{◌≡◌, ℕ, Bool, true, false, List, [], ◌∷◌, Option, Some, None}
use Rattle.sv_grammar.specs.Tokens.{Tok, disjoint, mem, next}
use Rattle.sv_grammar.specs.Language.{Out}
use Rattle.sv_grammar.specs.Code.{fine, info, least, list_from}
use Rattle.sv_tree.specs.declared.kind.Kind.TheVariants as k
use Rattle.sv_tree.specs.Codes.{code}
use Rattle.sv_tree.specs.Forms.{Production, Value, C}
use Rattle.sv_tree.specs.Grammar.{heads, need, table}

-- one token of look-ahead tells a part: these kinds begin it; it is not empty, and need not be deep
pub record IsKnown {A : Type 0} (c : C A) (first : List ℕ) : Type 0 where
  pub passes : fine Production Value heads need c ≡ true
  pub begins : (info Production Value heads need c).first ≡ first
  pub some : (info Production Value heads need c).null ≡ false
  pub kinds : mem 0 first ≡ false
  pub low : least Production Value heads need c ≡ 0

-- parts may stand in a list with commas between them: none goes on with a comma
abbrev pub IsListed : {A : Type 0} → C A → Type 0
IsListed c = disjoint (info Production Value heads need c).cont (code k.Comma ∷ []) ≡ true

-- parts may follow one another: none goes on with what begins one
abbrev pub IsRepeated : {A : Type 0} → C A → Type 0
IsRepeated c = disjoint (info Production Value heads need c).cont (info Production Value heads need c).first ≡ true

-- any number of parts, after those before
abbrev pub from : {A : Type 0} → C A → ℕ → List A → List Tok → Out (List A)
from c d prefix ts = list_from Production Value heads need table c d prefix ts

-- the next token, where it is there
abbrev pub if_next : Bool → List Tok → Option Tok
if_next true ts = Some (next ts)
if_next false ts = None
