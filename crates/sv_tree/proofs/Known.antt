-- What is known of a production, so that what reads it need not look into it.
use Rattle.std.proofs.Common.{◌≡◌, ℕ, Bool, true, List}
use Rattle.sv_grammar.specs.Code.{fine, info, least}
use Rattle.sv_tree.specs.Forms.{Production, Value, C}
use Rattle.sv_tree.specs.Grammar.{heads, need}

-- first: the kinds that begin it. null: whether it has an empty text. low: the least depth of its trees
pub record IsKnown {A : Type 0} (c : C A) (first : List ℕ) (null : Bool) (low : ℕ) : Type 0 where
  pub passes : fine Production Value heads need c ≡ true
  pub info_is : info Production Value heads need c ≡ record { first = first; cont = (info Production Value heads need c).cont; null = null }
  pub low_is : least Production Value heads need c ≡ low
