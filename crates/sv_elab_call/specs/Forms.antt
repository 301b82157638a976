-- What is called, form by form (IEEE 1800-2017, 8.6, 8.10, 8.20 and 13).
use Rattle.std.specs.Prelude.{Bool, List, ◌∷◌, Option, Some, None}
use Rattle.sv_value.specs.declared.place.Place.{Place}
use Rattle.sv_flat.specs.declared.call.Argument.{Argument}
use Rattle.sv_flat.specs.declared.call.CallForm.{CallForm}
use Rattle.sv_flat.specs.declared.call.CallForm.TheVariants as call
use Rattle.sv_flat.specs.Expr as flat
use Rattle.sv_names.specs.declared.argument.Arg.{Arg}
use Rattle.sv_names.specs.declared.checked.Checked.{Checked}
use Rattle.sv_names.specs.declared.hoisted.Hoisted.{Hoisted}
use Rattle.sv_names.specs.declared.method.Called.{Called}
use Rattle.sv_names.specs.declared.method.Called.TheVariants as called
use Rattle.sv_names.specs.declared.named.Callee.{Callee}
use Rattle.sv_names.specs.declared.typed.Typed.{Typed}
use Rattle.sv_names.specs.Calls.{slot_of, object_argument, call_form, arguments}
use Rattle.sv_names.specs.Checked.{both, given}
use Rattle.sv_names.specs.Hoisted.{mapped, paired}
use Rattle.sv_names.specs.Named.{Around}
use Rattle.sv_names.specs.Types.{Path}

-- the method that is named
abbrev pub named_method : Around → Callee → flat.Expr → List Argument → CallForm
named_method ar c o as' = call.Routine (ar.numbers.subroutine c.path) (Some o) (object_argument o ∷ as')

-- a virtual method, by the class of its object
abbrev pub virtual_method : Around → Callee → Path → flat.Expr → List Argument → CallForm
virtual_method ar c p o as' = call.Method (ar.numbers.class p) (slot_of ar p c.name.text) (object_argument o ∷ as')

-- a subroutine that is called for no object
abbrev pub free_form : Around → Callee → Hoisted (List Argument) → Hoisted CallForm
free_form ar c as' = mapped (call.Routine (ar.numbers.subroutine c.path) None) as'

-- a static method, which is named through an object
abbrev pub static_form : Around → Callee → Hoisted flat.Expr → Hoisted (List Argument) → Hoisted CallForm
static_form ar c o as' = paired (λ x xs. call.Routine (ar.numbers.subroutine c.path) (Some x) xs) o as'

-- a call, but for the rules on where it stands
abbrev pub routine_called : Around → Place → Callee → Option Typed → Bool → List Arg → Checked Called
routine_called ar at c o direct as' =
    given (λ p. called.Call (call_form ar c o direct p.0) p.1) (both (arguments ar at c.formals as') c.result)
