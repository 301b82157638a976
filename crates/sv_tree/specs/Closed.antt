-- Where the tokens of a text end (own).
use Rattle.std.specs.Prelude.{◌≡◌, List, [], ◌∷◌}
use Rattle.sv_grammar.specs.Tokens.{Tok}
use Rattle.sv_tree.specs.declared.kind.Kind.TheVariants as k
use Rattle.sv_tree.specs.Codes.{code}

-- the last token, and no other, is the end
abbrev pub IsClosed : List Tok → Type 0
IsClosed [] = ⊥
IsClosed (t ∷ []) = t.code ≡ code k.EndOfText
IsClosed (t ∷ u ∷ ts) = (t.code ≡ code k.EndOfText → ⊥) × IsClosed (u ∷ ts)
