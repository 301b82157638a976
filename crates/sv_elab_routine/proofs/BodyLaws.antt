-- The routine of a subroutine over its statements.
use Rattle.std.proofs.Common.{◌≡◌, ◌∙◌, List, ◌++◌, Some, refl, ap, append_assoc}
use Rattle.sv_value.specs.declared.place.Place.{Place}
use Rattle.sv_flat.specs.declared.class.Routine.{Routine}
use Rattle.sv_flat.specs.declared.class.Subroutine.{Subroutine}
use Rattle.sv_flat.specs.declared.object.Object.{Object}
use Rattle.sv_flat.specs.declared.stmt.Stmt.{Stmt}
use Rattle.sv_names.specs.declared.checked.Checked.{Checked}
use Rattle.sv_names.specs.declared.checked.Checked.TheVariants.{Good, Broken}
use Rattle.sv_names.specs.Checked.{given, ◌where_also◌}
use Rattle.sv_names.specs.Code.{Code, with_objects}
use Rattle.sv_names.specs.Emits.{Made}
use Rattle.sv_names.specs.Subroutines.{routine_at}

-- its own objects come first
pub routine_made : (at : Place) (s : Subroutine) (rs rs' : List Routine) (os own os' : List Object) (ss : List Stmt) (c : Code)
    → Made rs rs' (os ++ own) os' ss c
    → Made rs rs' os os' (record { at = at; body = ss; subroutine = Some s }) (routine_at at s (with_objects own c))
routine_made at s rs rs' os own os' ss c m =
    let with_body : List Stmt → Routine = λ b. record { at = at; body = b; subroutine = Some s } in
    record { value = ap with_body m.value; added = m.added; declared = m.declared ∙ append_assoc os own c.objects }

-- one word after another
pub given_twice : {A B C : Type 0} (f : A → B) (g : B → C) (x : Checked A) → given (λ a. g (f a)) x ≡ given g (given f x)
given_twice f g (Good a) = refl
given_twice f g (Broken e) = refl

-- a rule guards what is made of a value as it guards the value
pub given_guarded : {A B : Type 0} (f : A → B) (x : Checked A) (y : Checked (Unit {0}))
    → (given f x where_also y) ≡ given f (x where_also y)
given_guarded f (Good a) (Good u) = refl
given_guarded f (Good a) (Broken g) = refl
given_guarded f (Broken e) (Good u) = refl
given_guarded f (Broken e) (Broken g) = refl
