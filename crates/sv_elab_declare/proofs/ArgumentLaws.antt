-- Arguments as declarations.
use Rattle.std.proofs.Common.{◌≡◌, Bool, List, [], ◌∷◌, ◌++◌, Option, Some, None, map, refl, ap, ◌∙◌, append_assoc}
use Rattle.sv_tree.specs.declared.word.Direction.TheVariants as direction
use Rattle.sv_elab_scope.specs.declared.declared.Entry.{Entry}
use Rattle.sv_elab_scope.specs.Views.{entry_in}
use Rattle.sv_elab_declare.specs.Added.{Added, argument_names, arguments_after, type_before}
use Rattle.sv_elab_declare.proofs.AddedLaws.{turn_added}
use Rattle.sv_tree.specs.declared.word.Direction.{Direction}
use Rattle.sv_tree.specs.Types.{ImpliedType}
use Rattle.sv_tree.specs.Units.{Argument}
use Rattle.sv_names.specs.Entries as entries
use Rattle.sv_names.specs.Entries.{argument_entries, taken_from, items_in_implied, type_or, has_direction, direction_or}

-- the direction of the argument before does not decide what is declared
pub any_direction : (auto : Bool) (d e : Direction) (t : ImpliedType) (as' : List Argument)
    → argument_entries auto (taken_from d t as') ≡ argument_entries auto (taken_from e t as')
any_direction auto d e t [] = refl
any_direction auto d e t (a ∷ as') =
    ap (λ es. items_in_implied a.of ++ entries.entry a.name (entries.An_argument (type_or (has_direction a.direction) t a.of) auto) ∷ es)
    (any_direction auto (direction_or d a.direction) (direction_or e a.direction) (type_or (has_direction a.direction) t a.of) as')

-- an argument and those behind it
rest_taken : (auto : Bool) (before : Option ImpliedType) (a : Argument) (as' : List Argument) (t : ImpliedType)
    → t ≡ type_or (has_direction a.direction) (type_before before) a.of
    → argument_names auto t a ++ arguments_after auto (Some t) as' ≡ arguments_after auto before (a ∷ as')
rest_taken auto before a as' t is =
    append_assoc (items_in_implied a.of) (entries.entry a.name (entries.An_argument t auto) ∷ []) (arguments_after auto (Some t) as')
    ∙ (λ i. items_in_implied a.of ++ entries.entry a.name (entries.An_argument (is i) auto) ∷ argument_entries auto (taken_from direction.Input (is i) as'))
    ∙ ap (λ l. items_in_implied a.of ++ entries.entry a.name (entries.An_argument (type_or (has_direction a.direction) (type_before before) a.of) auto) ∷ l)
    (any_direction auto direction.Input (direction_or direction.Input a.direction) (type_or (has_direction a.direction) (type_before before) a.of) as')

-- a turn appends an argument
pub turn_taken : (auto : Bool) (before : Option ImpliedType) (a : Argument) (as' : List Argument) (t : ImpliedType) (es fs : List Entry)
    → Added es fs (argument_names auto t a) → t ≡ type_or (has_direction a.direction) (type_before before) a.of
    → map entry_in fs ++ arguments_after auto (Some t) as' ≡ map entry_in es ++ arguments_after auto before (a ∷ as')
turn_taken auto before a as' t es fs added is =
    turn_added es fs (argument_names auto t a) (arguments_after auto (Some t) as') added
    ∙ ap (λ l. map entry_in es ++ l) (rest_taken auto before a as' t is)
