-- What the parts of a statement add to the routines and objects of the design (IEEE 1800-2017, 9.3 and 12).
use Rattle.std.specs.Prelude.{◌≡◌, Bool, true, false, List, [], ◌∷◌, map, Result, Ok, Err}
use Rattle.sv_value.specs.declared.place.Place.{Place}
use Rattle.sv_value.specs.declared.number.RoutineId.{RoutineId}
use Rattle.sv_flat.specs.declared.class.Routine.{Routine}
use Rattle.sv_flat.specs.declared.object.DataType.{DataType}
use Rattle.sv_flat.specs.declared.object.Object.{Object}
use Rattle.sv_tree.specs.declared.statement.Stmt.{Stmt}
use Rattle.sv_names.specs.declared.checked.Checked.{Checked}
use Rattle.sv_names.specs.declared.checked.Checked.TheVariants.{Good}
use Rattle.sv_names.specs.declared.hoisted.Hoisted.{Hoisted}
use Rattle.sv_names.specs.declared.refusal.Refusal.{Refusal}
use Rattle.sv_names.specs.Code.{Numbered, Code, as_routine, followed, in_order}
use Rattle.sv_names.specs.Emits.{Made}
use Rattle.sv_names.specs.Given.{Fails}
use Rattle.sv_names.specs.Statements.{place_from}

-- the place of a statement: its first token, which can be a label
abbrev pub place_of : Stmt → Place
place_of s = place_from s.at s.label

-- ---- what is added

-- what is made of the parts that stand for a value, or the first rule that they break; or memory ran out
abbrev pub EmitsOf :
    {A B : Type 0} → (A → Numbered B) → (routines new_routines : List Routine) → (objects new_objects : List Object)
    → Result B Refusal → Checked A → Type 0
EmitsOf {A = A} f rs rs' os os' (Ok y) c = (x : A) × (c ≡ Good x) × Made rs rs' os os' y (f x)
EmitsOf f rs rs' os os' (Err e) c = Fails e c

-- a routine of its own for the statements of a part
abbrev pub EmitsRoutine :
    Place → (routines new_routines : List Routine) → (objects new_objects : List Object) → Result RoutineId Refusal
    → Checked Code → Type 0
EmitsRoutine at rs rs' os os' r c = EmitsOf (as_routine at) rs rs' os os' r c

-- the routines of two parts, the second behind the first
abbrev pub two_routines : Place → Code × Code → Numbered (RoutineId × RoutineId)
two_routines at p = followed (λ a b. (a, b)) (as_routine at p.0) (as_routine at p.1)

-- the same of two parts that can break rules
abbrev pub EmitsTwo :
    Place → (routines new_routines : List Routine) → (objects new_objects : List Object)
    → Result (RoutineId × RoutineId) Refusal → Checked (Code × Code) → Type 0
EmitsTwo at rs rs' os os' r c = EmitsOf (two_routines at) rs rs' os os' r c

-- the routines of parts, one after the other
abbrev pub routines_of : Place → List Code → Numbered (List RoutineId)
routines_of at cs = in_order (map (λ c. as_routine at c) cs)

-- ---- hidden variables

-- whether there are hidden variables
abbrev pub some_hidden : List DataType → Bool
some_hidden [] = false
some_hidden (t ∷ ts) = true

-- whether a part of a statement has hidden variables, which make an activation
abbrev pub has_hidden : {A : Type 0} → Result (Hoisted A) Refusal → Bool
has_hidden (Ok h) = some_hidden h.hidden
has_hidden (Err e) = false
