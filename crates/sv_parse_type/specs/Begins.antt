-- The kinds that begin types, dimensions and declarations (IEEE 1800-2017, A.2).
use Rattle.std.specs.Prelude.{ℕ, List, [], ◌∷◌, ◌++◌}
use Rattle.sv_tree.specs.declared.kind.Kind.TheVariants as k
use Rattle.sv_tree.specs.Forms.{codes_of, kinds_of}
use Rattle.sv_tree.specs.ExprGrammar.{vector_words, atom_words}
use Rattle.sv_tree.specs.TypeGrammar.{life_words}
use Rattle.sv_tree.specs.Grammar.{type_words}

-- what begins a type that a word begins (A.2.2.1)
abbrev pub word_type_first : List ℕ
word_type_first = kinds_of vector_words ++ kinds_of atom_words ++ codes_of (k.String ∷ k.Event ∷ k.Semaphore ∷ k.Mailbox ∷ k.Enum ∷ [])

-- what begins a type (A.2.2.1)
abbrev pub type_first : List ℕ
type_first = codes_of (k.Name ∷ type_words)

-- what begins a declaration, but for a name (A.2.1.3)
abbrev pub word_decl_first : List ℕ
word_decl_first = kinds_of life_words ++ codes_of (k.Var ∷ []) ++ word_type_first
