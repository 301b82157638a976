-- What a `foreach` adds.
use Rattle.std.proofs.Common.{rules, ◌≡◌, refl, List, ap, sym, subst}
use Rattle.sv_value.specs.declared.place.Place.{Place}
use Rattle.sv_value.specs.declared.number.RoutineId.{RoutineId}
use Rattle.sv_flat.specs.declared.class.Routine.{Routine}
use Rattle.sv_flat.specs.declared.object.Object.{Object}
use Rattle.sv_names.specs.declared.scope.Scope.{Scope}
use Rattle.sv_names.specs.declared.ty.Ty.{Ty}
use Rattle.sv_names.specs.declared.ty.Ty.TheVariants as ty
use Rattle.sv_names.specs.declared.typed.Typed.{Typed}
use Rattle.sv_names.specs.Code.{Code, Numbered, as_routine, changed}
use Rattle.sv_names.specs.Emits.{Made}
use Rattle.sv_names.specs.Named.{Around}
use Rattle.sv_names.specs.Statements.{foreach_code}
use Rattle.sv_elab_flow.specs.Foreach.{walk}

-- a part with another value
changed_made : {A B : Type 0} (h : A → B) (rs rs' : List Routine) (os os' : List Object) (a : A) (f : Numbered A) → Made rs rs' os os' a f
    → Made rs rs' os os' (h a) (changed h f)
changed_made h rs rs' os os' a f m = record { value = ap h m.value; added = m.added; declared = m.declared }

-- a walk of any type is one over the routine of its body
walk_by_type : (ar : Around) (at : Place) (s : Scope) (t : Typed) (c : Code) (u : Ty) → t.ty ≡ u
    → foreach_code ar at s t c ≡ changed (λ r. walk ar at t r) (as_routine at c)
walk_by_type ar at s t c (ty.Vector i b w) is = search rules
walk_by_type ar at s t c (ty.Enum p e i b w) is = search rules
walk_by_type ar at s t c ty.Text is = search rules
walk_by_type ar at s t c ty.Event is = search rules
walk_by_type ar at s t c (ty.Class p) is = search rules
walk_by_type ar at s t c ty.Semaphore is = search rules
walk_by_type ar at s t c ty.Mailbox is = search rules
walk_by_type ar at s t c (ty.MailboxOf e) is = search rules
walk_by_type ar at s t c (ty.Queue e) is = search rules
walk_by_type ar at s t c (ty.Dynamic e) is = search rules
walk_by_type ar at s t c (ty.Assoc k e) is = search rules
walk_by_type ar at s t c (ty.Fixed b e) is = search rules
walk_by_type ar at s t c ty.Null is = search rules
walk_by_type ar at s t c ty.Nothing is = search rules

walk_is : (ar : Around) (at : Place) (s : Scope) (t : Typed) (c : Code)
    → foreach_code ar at s t c ≡ changed (λ r. walk ar at t r) (as_routine at c)
walk_is ar at s t c = walk_by_type ar at s t c t.ty refl

-- what it adds
pub walk_made : (ar : Around) (at : Place) (s : Scope) (rs rs' : List Routine) (os os' : List Object) (t : Typed) (r : RoutineId) (c : Code)
    → Made rs rs' os os' r (as_routine at c) → Made rs rs' os os' (walk ar at t r) (foreach_code ar at s t c)
walk_made ar at s rs rs' os os' t r c m =
    subst (λ (f : Code). Made rs rs' os os' (walk ar at t r) f) (sym (walk_is ar at s t c))
    (changed_made (λ i. walk ar at t i) rs rs' os os' r (as_routine at c) m)
