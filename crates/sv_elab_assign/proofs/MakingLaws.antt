-- What mailboxes and semaphores are made with.
use Rattle.std.proofs.Common.{◌≡◌, ◌<◌, ◌≤◌, List, [], ◌∷◌, length, Option, refl, arith}
use Rattle.sv_value.specs.declared.place.Place.{Place}
use Rattle.sv_flat.specs.Expr as flat
use Rattle.sv_names.specs.declared.argument.Arg.{Arg}
use Rattle.sv_names.specs.declared.checked.Fault.{Fault}
use Rattle.sv_names.specs.declared.checked.Checked.{Checked}
use Rattle.sv_names.specs.declared.checked.Checked.TheVariants.{Good, Broken}
use Rattle.sv_names.specs.declared.hoisted.Hoisted.{Hoisted}
use Rattle.sv_names.specs.Arguments.{values_stand}
use Rattle.sv_names.specs.Assignments.{bound_given}
use Rattle.sv_names.specs.Checked.{◌▷◌, broken_at, ◌where_also◌}
use Rattle.sv_names.specs.Named.{Around}
use Rattle.sv_elab_assign.specs.Making.{first_of, at_most_one, number_or_nothing}

-- ---- how many arguments

pub several_given : (at : Place) (as' : List Arg) → 1 < length as' → (broken_at 31 at where_also values_stand as') ≡ at_most_one at as'
several_given at [] h = absurd (omega arith)
several_given at (a ∷ []) h = absurd (omega arith)
several_given at (a ∷ b ∷ as') h = refl

pub few_given : (at : Place) (as' : List Arg) → length as' ≤ 1 → Good (first_of as') ≡ at_most_one at as'
few_given at [] h = refl
few_given at (a ∷ []) h = refl
few_given at (a ∷ b ∷ as') h = absurd (omega arith)

-- what is told of several
told_of_several : (ar : Around) (f : Fault) (r : Checked (Unit {0}))
    → let none : Checked (Option Arg) = Broken f in
    let code : Checked (Hoisted flat.Expr) = Broken f in
    ((none where_also r) ▷ number_or_nothing ar) ≡ code where_also r
told_of_several ar f (Good u) = refl
told_of_several ar f (Broken g) = refl

pub bound_is : (ar : Around) (at : Place) (as' : List Arg) → (at_most_one at as' ▷ number_or_nothing ar) ≡ bound_given ar at as'
bound_is ar at [] = refl
bound_is ar at (a ∷ []) = refl
bound_is ar at (a ∷ b ∷ as') = told_of_several ar (record { at = at; rule = 31 }) (values_stand (a ∷ b ∷ as'))
