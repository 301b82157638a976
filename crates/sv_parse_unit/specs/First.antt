-- The kinds that begin parts of files (IEEE 1800-2017, A.1 to A.2).
use Rattle.std.specs.Prelude.{ℕ, List, [], ◌∷◌, ◌++◌}
use Rattle.sv_tree.specs.declared.kind.Kind.TheVariants as k
use Rattle.sv_tree.specs.Forms.{codes_of, kinds_of}
use Rattle.sv_tree.specs.TypeGrammar.{sign_words}
use Rattle.sv_tree.specs.UnitGrammar.{argument_directions, net_words, param_words, port_directions, procedure_words, qualifier_words}
use Rattle.sv_tree.specs.Grammar.{expr_first}
use Rattle.sv_parse_type.specs.Begins.{word_decl_first, word_type_first}

-- what begins a type that is no name, or a part of one (A.2.2.1)
abbrev pub implied_first : List ℕ
implied_first = word_type_first ++ kinds_of sign_words ++ codes_of (k.LeftBracket ∷ [])

-- what begins a parameter of a design element (A.1.3)
abbrev pub element_param_first : List ℕ
element_param_first = codes_of (k.Parameter ∷ []) ++ implied_first ++ codes_of (k.Name ∷ [])

-- what begins a port behind the first (A.1.3)
abbrev pub next_port_first : List ℕ
next_port_first = kinds_of port_directions ++ codes_of (k.Name ∷ [])

-- what begins an argument of a subroutine (A.2.7)
abbrev pub argument_first : List ℕ
argument_first = kinds_of argument_directions ++ implied_first ++ codes_of (k.Name ∷ [])

-- what begins an amount of time (A.2.2.3)
abbrev pub amount_first : List ℕ
amount_first = codes_of (k.Number ∷ k.TimeLiteral ∷ k.Name ∷ k.LeftParenthesis ∷ [])

-- what begins an item of a clocking block (A.6.11)
abbrev pub clocking_item_first : List ℕ
clocking_item_first = codes_of (k.Default ∷ []) ++ kinds_of argument_directions

-- what begins a declaration in a class (A.1.9)
abbrev pub class_decl_first : List ℕ
class_decl_first = codes_of (k.Automatic ∷ k.Var ∷ []) ++ word_type_first ++ codes_of (k.Name ∷ [])

-- the qualifiers of an item of a class (A.1.9)
abbrev pub qualifier_first : List ℕ
qualifier_first = codes_of qualifier_words

-- what begins an item of a class (A.1.9)
abbrev pub class_item_first : List ℕ
class_item_first = codes_of (k.Pure ∷ k.Typedef ∷ k.Semicolon ∷ []) ++ qualifier_first ++ class_decl_first ++ codes_of (k.Function ∷ k.Task ∷ [])

-- what begins a connection of a port (A.4.1.1)
abbrev pub connection_first : List ℕ
connection_first = codes_of (k.Dot ∷ k.DotStar ∷ []) ++ expr_first

-- what begins a target (A.8.5)
abbrev pub target_first : List ℕ
target_first = codes_of (k.Name ∷ k.This ∷ k.Super ∷ k.LeftBrace ∷ [])

-- what begins an item that stands in modules, in programs and outside both (A.1.4, A.1.7)
abbrev pub named_items_first : List ℕ
named_items_first = codes_of (k.Typedef ∷ k.Virtual ∷ k.Class ∷ []) ++ kinds_of param_words ++ codes_of (k.Function ∷ k.Task ∷ [])

-- what begins an item that stands in modules and in programs, but for a name (A.1.4, A.1.7)
abbrev pub common_first : List ℕ
common_first = word_decl_first ++ named_items_first ++ codes_of (k.Clocking ∷ k.Default ∷ k.Initial ∷ k.Semicolon ∷ [])

-- what begins an item of a program (A.1.7)
abbrev pub program_item_first : List ℕ
program_item_first = common_first ++ codes_of (k.Name ∷ [])

-- what begins an item of a module (A.1.4)
abbrev pub module_item_first : List ℕ
module_item_first = common_first ++ codes_of net_words ++ codes_of (k.Assign ∷ []) ++ kinds_of procedure_words ++ codes_of (k.Name ∷ [])

-- what begins a description (A.1.2)
abbrev pub description_first : List ℕ
description_first = codes_of (k.Module ∷ k.Program ∷ []) ++ named_items_first ++ codes_of (k.Semicolon ∷ [])
