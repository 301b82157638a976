-- What begins the parts of expressions (IEEE 1800-2017, A.8).
use Rattle.std.specs.Prelude.{ℕ, List, [], ◌∷◌}
use Rattle.sv_tree.specs.declared.kind.Kind.TheVariants as k
use Rattle.sv_tree.specs.Forms.{codes_of}

-- what begins a member, arguments or a select
abbrev pub suffix_first : List ℕ
suffix_first = codes_of (k.Dot ∷ k.LeftParenthesis ∷ k.LeftBracket ∷ [])

-- what begins a name with what follows it
abbrev pub post_first : List ℕ
post_first = codes_of (k.Name ∷ k.This ∷ k.Super ∷ [])

-- what begins a cast to the type of a word
abbrev pub cast_first : List ℕ
cast_first = codes_of (k.Bit ∷ k.Logic ∷ k.Reg ∷ k.Byte ∷ k.Shortint ∷ k.Int ∷ k.Longint ∷ k.Integer ∷ k.Time ∷ k.String ∷ k.Event ∷ k.Semaphore ∷ k.Mailbox ∷ [])
