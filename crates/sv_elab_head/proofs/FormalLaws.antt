-- Arguments, one after the other.
use Rattle.std.proofs.Common.{◌≡◌, List, [], ◌∷◌, ◌++◌, Option, map, sym, ap, ◌∙◌, append_assoc, append-nil}
use Rattle.sv_tree.specs.declared.word.Direction.{Direction}
use Rattle.sv_tree.specs.Types.{ImpliedType}
use Rattle.sv_tree.specs.Units.{Argument}
use Rattle.sv_names.specs.declared.named.Formal.{Formal}
use Rattle.sv_names.specs.Entries.{Taken, taken_from, type_or, has_direction, direction_or}
use Rattle.sv_elab_declare.specs.Added.{type_before}
use Rattle.sv_elab_head.specs.Formals.{taken_as}

-- a turn appends an argument
pub turn_formal : (f : Taken → Formal) (d e : Direction) (before : Option ImpliedType) (t : ImpliedType) (a : Argument) (as' : List Argument)
    (fs gs : List Formal) (x : Formal) → gs ≡ fs ++ x ∷ [] → x ≡ f (taken_as e t a) → e ≡ direction_or d a.direction
    → t ≡ type_or (has_direction a.direction) (type_before before) a.of
    → gs ++ map f (taken_from e t as') ≡ fs ++ map f (taken_from d (type_before before) (a ∷ as'))
turn_formal f d e before t a as' fs gs x pushed made way like =
    ap (λ l. l ++ map f (taken_from e t as')) pushed
    ∙ append_assoc fs (x ∷ []) (map f (taken_from e t as'))
    ∙ ap (λ y. fs ++ (y ∷ map f (taken_from e t as'))) made
    ∙ (λ i. fs ++ (f (taken_as (way i) (like i) a) ∷ map f (taken_from (way i) (like i) as')))

-- after the last turn all are there
pub all_formals : (fs gs : List Formal) → fs ++ [] ≡ gs → fs ≡ gs
all_formals fs gs is = sym (append-nil fs) ∙ is
