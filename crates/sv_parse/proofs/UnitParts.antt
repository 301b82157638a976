-- What is known of the parts of files: the kinds that begin them, and that they may stand in lists or follow one another.
use Rattle.std.proofs.Common.{◌≡◌, ℕ, Bool, true, false, ◌&&◌, List, [], ◌∷◌, ◌++◌, refl, ap}
use Rattle.sv_grammar.specs.Tokens.{disjoint, mem}
use Rattle.sv_grammar.specs.Info.{Info}
use Rattle.sv_grammar.specs.Code.{fine, info, no}
use Rattle.sv_grammar.specs.Code.Code.{Rep}
use Rattle.sv_tree.specs.declared.kind.Kind.TheVariants as k
use Rattle.sv_tree.specs.Codes.{code}
use Rattle.sv_tree.specs.Forms.{Production, Value, C, codes_of, commas, kinds_of}
use Rattle.sv_tree.specs.Grammar.{heads, need, expr_first}
use Rattle.sv_tree.specs.ExprGrammar.{vector_words, atom_words}
use Rattle.sv_tree.specs.TypeGrammar.{sign_words, life_words, unnamed_implied}
use Rattle.sv_tree.specs.UnitGrammar.{param_words, port_directions, argument_directions, net_words, procedure_words, qualifier_words, param_item, element_param, next_port, argument, skew, default_skew, output_side, clocking_item, class_decl, class_item, named_items, common, program_item, connection, instance, net_item, assign_item, module_item, description}
use Rattle.sv_tree.proofs.Known as tree
use Rattle.sv_tree.proofs.KnownTypes as types
use Rattle.sv_tree.proofs.KnownItems as items
use Rattle.sv_parse.specs.Parts.{IsKnown, IsListed, IsRepeated}

-- ---- what is known of any part

known : {A : Type 0} {c : C A} {first : List ℕ} → tree.IsKnown c first false 0 → mem 0 first ≡ false → IsKnown c first
known is kinds = record {
  passes = is.passes;
  begins = ap (λ (i : Info). i.first) is.info_is;
  some = ap (λ (i : Info). i.null) is.info_is;
  kinds = kinds;
  low = is.low_is;
}

both_true : (a b : Bool) → (a && b) ≡ true → a ≡ true
both_true true b h = refl
both_true false b h = h

listed : {A : Type 0} {c : C A} {first : List ℕ} → tree.IsKnown c first false 0 → fine Production Value heads need (commas c) ≡ true → IsListed c
listed {c = c} is passes =
    let some : (info Production Value heads need c).null ≡ false = ap (λ (i : Info). i.null) is.info_is in
    both_true (disjoint (info Production Value heads need c).cont (code k.Comma ∷ [])) true (rw (is.passes, some) at passes)

repeated : {A : Type 0} {c : C A} {first : List ℕ} → tree.IsKnown c first false 0 → fine Production Value heads need (Rep c) ≡ true → IsRepeated c
repeated {c = c} is passes =
    let some : (info Production Value heads need c).null ≡ false = ap (λ (i : Info). i.null) is.info_is in
    both_true (disjoint (info Production Value heads need c).cont (info Production Value heads need c).first) (no (mem 0 (info Production Value heads need c).first)) (rw (is.passes, some) at passes)

-- ---- types, parameters and ports

-- what begins a type that a word begins
abbrev word_type_first : List ℕ
word_type_first = kinds_of vector_words ++ kinds_of atom_words ++ codes_of (k.String ∷ k.Event ∷ k.Semaphore ∷ k.Mailbox ∷ k.Enum ∷ [])

-- what begins a type that is no name, or a part of one
abbrev implied_first : List ℕ
implied_first = word_type_first ++ kinds_of sign_words ++ codes_of (k.LeftBracket ∷ [])

pub implied_known : IsKnown unnamed_implied implied_first
implied_known = known types.unnamed_implied_known refl

pub param_item_known : IsKnown param_item (codes_of (k.Name ∷ []))
param_item_known = known items.param_item_known refl

pub param_item_listed : IsListed param_item
param_item_listed = listed items.param_item_known items.param_item_commas

pub element_param_known : IsKnown element_param (codes_of (k.Parameter ∷ []) ++ implied_first ++ codes_of (k.Name ∷ []))
element_param_known = known items.element_param_known refl

pub element_param_listed : IsListed element_param
element_param_listed = listed items.element_param_known items.element_param_commas

pub next_port_known : IsKnown next_port (kinds_of port_directions ++ codes_of (k.Name ∷ []))
next_port_known = known items.next_port_known refl

pub next_port_listed : IsListed next_port
next_port_listed = listed items.next_port_known items.next_port_commas

-- ---- subroutines

pub argument_known : IsKnown argument (kinds_of argument_directions ++ implied_first ++ codes_of (k.Name ∷ []))
argument_known = known items.argument_known refl

pub argument_listed : IsListed argument
argument_listed = listed items.argument_known items.argument_commas

-- ---- clocking blocks

pub skew_known : IsKnown skew (codes_of (k.Hash ∷ []))
skew_known = known items.skew_known refl

pub default_skew_known : IsKnown default_skew (kinds_of port_directions)
default_skew_known = known items.default_skew_known refl

pub default_skew_repeated : IsRepeated default_skew
default_skew_repeated = repeated items.default_skew_known items.default_skew_list

pub output_side_known : IsKnown output_side (codes_of (k.Output ∷ []))
output_side_known = known items.output_side_known refl

pub clocking_item_known : IsKnown clocking_item (codes_of (k.Default ∷ []) ++ kinds_of argument_directions)
clocking_item_known = known items.clocking_item_known refl

pub clocking_item_repeated : IsRepeated clocking_item
clocking_item_repeated = repeated items.clocking_item_known items.clocking_item_list

-- ---- classes

-- what begins a declaration in a class
abbrev class_decl_first : List ℕ
class_decl_first = codes_of (k.Automatic ∷ k.Var ∷ []) ++ word_type_first ++ codes_of (k.Name ∷ [])

pub class_decl_known : IsKnown class_decl class_decl_first
class_decl_known = known items.class_decl_known refl

pub class_item_known : IsKnown class_item (codes_of (k.Pure ∷ k.Typedef ∷ k.Semicolon ∷ qualifier_words) ++ class_decl_first ++ codes_of (k.Function ∷ k.Task ∷ []))
class_item_known = known items.class_item_known refl

pub class_item_repeated : IsRepeated class_item
class_item_repeated = repeated items.class_item_known items.class_item_list

-- ---- items

-- what begins an item that stands in modules, in programs and outside both
abbrev named_items_first : List ℕ
named_items_first = codes_of (k.Typedef ∷ k.Virtual ∷ k.Class ∷ []) ++ kinds_of param_words ++ codes_of (k.Function ∷ k.Task ∷ [])

-- what begins an item that stands in modules and in programs, but for a name
abbrev common_first : List ℕ
common_first = (kinds_of life_words ++ codes_of (k.Var ∷ []) ++ word_type_first) ++ named_items_first ++ codes_of (k.Clocking ∷ k.Default ∷ k.Initial ∷ k.Semicolon ∷ [])

pub named_items_known : IsKnown named_items named_items_first
named_items_known = known items.named_items_known refl

pub common_known : IsKnown common common_first
common_known = known items.common_known refl

pub program_item_known : IsKnown program_item (common_first ++ codes_of (k.Name ∷ []))
program_item_known = known items.program_item_known refl

pub program_item_repeated : IsRepeated program_item
program_item_repeated = repeated items.program_item_known items.program_item_list

pub connection_known : IsKnown connection (codes_of (k.Dot ∷ k.DotStar ∷ []) ++ expr_first)
connection_known = known items.connection_known refl

pub connection_listed : IsListed connection
connection_listed = listed items.connection_known items.connection_commas

pub instance_known : IsKnown instance (codes_of (k.Name ∷ []))
instance_known = known items.instance_known refl

pub instance_listed : IsListed instance
instance_listed = listed items.instance_known items.instance_commas

pub net_item_known : IsKnown net_item (codes_of (k.Name ∷ []))
net_item_known = known items.net_item_known refl

pub net_item_listed : IsListed net_item
net_item_listed = listed items.net_item_known items.net_item_commas

pub assign_item_known : IsKnown assign_item (codes_of (k.Name ∷ k.This ∷ k.Super ∷ k.LeftBrace ∷ []))
assign_item_known = known items.assign_item_known refl

pub assign_item_listed : IsListed assign_item
assign_item_listed = listed items.assign_item_known items.assign_item_commas

pub module_item_known : IsKnown module_item (common_first ++ codes_of net_words ++ codes_of (k.Assign ∷ []) ++ kinds_of procedure_words ++ codes_of (k.Name ∷ []))
module_item_known = known items.module_item_known refl

pub module_item_repeated : IsRepeated module_item
module_item_repeated = repeated items.module_item_known items.module_item_list

-- ---- descriptions

pub description_known : IsKnown description (codes_of (k.Module ∷ k.Program ∷ []) ++ named_items_first ++ codes_of (k.Semicolon ∷ []))
description_known = known items.description_known refl

pub description_repeated : IsRepeated description
description_repeated = repeated items.description_known items.description_list
