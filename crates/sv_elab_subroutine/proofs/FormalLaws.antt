-- Arguments, one after the other.
use Rattle.std.proofs.Common.{◌≡◌, List, [], ◌∷◌, ◌++◌, Option, refl, sym, ap, ◌∙◌, append_assoc, append-nil}
use Rattle.sv_flat.specs.declared.class.Formal.{Formal}
use Rattle.sv_tree.specs.declared.word.Direction.{Direction}
use Rattle.sv_tree.specs.declared.word.Direction.TheVariants as direction
use Rattle.sv_tree.specs.Types as types
use Rattle.sv_tree.specs.Types.{ImpliedType}
use Rattle.sv_tree.specs.Units.{Argument}
use Rattle.sv_names.specs.declared.scope.Scope.{Scope}
use Rattle.sv_names.specs.Entries.{taken_from, type_or, has_direction, direction_or}
use Rattle.sv_names.specs.Named.{Around, in_known}
use Rattle.sv_names.specs.Subroutines.{argument_formals, formal_known, way_of, object_formal}
use Rattle.sv_elab_subroutine.specs.Formals.{formals_in, formals_after}

-- the type of the argument before does not decide which variable an argument is
any-type : (ar : Around) (s : Scope) (d : Direction) (t u : ImpliedType) (as' : List Argument)
    → argument_formals ar s (taken_from d t as') ≡ argument_formals ar s (taken_from d u as')
any-type ar s d t u [] = refl
any-type ar s d t u (a ∷ as') =
    ap (λ fs. formal_known ar (way_of (direction_or d a.direction)) (in_known 0 0 a.name.text s.known) ++ fs)
    (any-type ar s (direction_or d a.direction) (type_or (has_direction a.direction) t a.of) (type_or (has_direction a.direction) u a.of) as')

-- a turn appends an argument
pub turn_formal : (ar : Around) (s : Scope) (d e : Direction) (a : Argument) (as' : List Argument) (fs gs : List Formal) (f : Option Formal)
    → gs ≡ fs ++ formals_in f → formals_in f ≡ formal_known ar (way_of e) (in_known 0 0 a.name.text s.known) → e ≡ direction_or d a.direction
    → gs ++ formals_after ar s e as' ≡ fs ++ formals_after ar s d (a ∷ as')
turn_formal ar s d e a as' fs gs f pushed is direction =
    ap (λ l. l ++ formals_after ar s e as') pushed
    ∙ append_assoc fs (formals_in f) (formals_after ar s e as')
    ∙ ap (λ l. fs ++ (l ++ formals_after ar s e as')) is
    ∙ ap (λ x. fs ++ (formal_known ar (way_of x) (in_known 0 0 a.name.text s.known) ++ formals_after ar s x as')) direction
    ∙ ap (λ l. fs ++ (formal_known ar (way_of (direction_or d a.direction)) (in_known 0 0 a.name.text s.known) ++ l))
    (any-type ar s (direction_or d a.direction) types.Unwritten (type_or (has_direction a.direction) types.Unwritten a.of) as')

-- before the first turn the object is there
pub first_formals : (ar : Around) (s : Scope) (as' : List Argument) (none fs : List Formal) (f : Option Formal)
    → none ≡ [] → fs ≡ none ++ formals_in f → formals_in f ≡ object_formal ar s
    → fs ++ formals_after ar s direction.Input as' ≡ object_formal ar s ++ argument_formals ar s (taken_from direction.Input types.Unwritten as')
first_formals ar s as' none fs f empty pushed is =
    ap (λ l. l ++ formals_after ar s direction.Input as') (pushed ∙ ap (λ l. l ++ formals_in f) empty ∙ is)

-- after the last turn all are there
pub all_formals : (fs gs : List Formal) → fs ++ [] ≡ gs → fs ≡ gs
all_formals fs gs is = sym (append-nil fs) ∙ is
