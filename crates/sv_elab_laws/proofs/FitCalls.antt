-- What calls give runs as their types.
use Rattle.std.proofs.Common.{Bool, false, List, [], ◌∷◌, Option, refl, sym, subst}
use Rattle.sv_value.specs.declared.place.Place.{Place}
use Rattle.sv_flat.specs.declared.call.Argument.{Argument}
use Rattle.sv_flat.specs.declared.call.CallForm.{CallForm}
use Rattle.sv_flat.specs.declared.expr.NamedItem.{NamedItem}
use Rattle.sv_flat.specs.Expr as flat
use Rattle.sv_names.specs.declared.argument.Arg.{Arg}
use Rattle.sv_names.specs.declared.checked.Checked.{Checked}
use Rattle.sv_names.specs.declared.checked.Checked.TheVariants.{Good, Broken}
use Rattle.sv_names.specs.declared.hoisted.Hoisted.{Hoisted}
use Rattle.sv_names.specs.declared.method.Action.{Action}
use Rattle.sv_names.specs.declared.method.Action.TheVariants as action
use Rattle.sv_names.specs.declared.method.Called.{Called}
use Rattle.sv_names.specs.declared.method.Called.TheVariants as called
use Rattle.sv_names.specs.declared.method.Method.{Method}
use Rattle.sv_names.specs.declared.method.Outcome.{Outcome}
use Rattle.sv_names.specs.declared.named.Callee.{Callee}
use Rattle.sv_names.specs.declared.ty.Ty.{Ty}
use Rattle.sv_names.specs.declared.ty.Ty.TheVariants.{Text, Nothing}
use Rattle.sv_names.specs.declared.typed.Typed.{Typed}
use Rattle.sv_names.specs.Calls.{call_stands, enum_items, one_arg, with_value, arguments, subroutine_called, size_expr, exists_expr, acted, method_called, cast_called, as_value}
use Rattle.sv_names.specs.Arguments.{value_of_arg, values_stand}
use Rattle.sv_names.specs.Checked.{both, given, ◌▷◌, broken_at, ◌where_also◌}
use Rattle.sv_names.specs.Hoisted.{mapped, paired}
use Rattle.sv_names.specs.Methods.{type_given}
use Rattle.sv_names.specs.Named.{Around}
use Rattle.sv_names.specs.Types.{int_type}
use Rattle.sv_names.specs.Values.{alone, value_typed}
use Rattle.sv_elab_laws.specs.Fits.{Enums, IsType, RunsAs, Runs, Fits, Keeps, CalleeFits}
use Rattle.sv_elab_laws.proofs.Kept.{keeps_given, each_then, each_given, keeps_both, keeps_also}
use Rattle.sv_elab_laws.proofs.FitMethods.{Triggers, MethodFits}
use Rattle.sv_elab_laws.proofs.FitTypes.{variable_runs}

-- what a call is
abbrev pub CalledFits : Enums → Called → Type 0
CalledFits enums (called.Call f t) = IsType enums t
CalledFits enums (called.Operator t) = Fits enums t

-- the size of a container, and whether it has a key
pub size_runs : (q : flat.Expr) → RunsAs int_type (size_expr q)
size_runs (flat.Field p t e) = record { width = refl; sign = refl }
size_runs q = record { width = refl; sign = refl }

exists_runs : (q i : flat.Expr) → RunsAs int_type (exists_expr q i)
exists_runs (flat.Field p t e) i = record { width = refl; sign = refl }
exists_runs q i = record { width = refl; sign = refl }

module _ (enums : Enums) where
  -- ---- subroutines

  any : {A : Type 0} (c : Checked A) → Keeps (λ (x : A). Unit {0}) c
  any (Good x) = tt
  any (Broken f) = tt

  pub value_fits : (ar : Around) (at : Place) (c : Called) → CalledFits enums c → Fits enums (as_value ar at c)
  value_fits ar at (called.Call f t) h = record { is_type = h; runs = variable_runs ar.numbers t _ refl refl tt }
  value_fits ar at (called.Operator t) h = h

  pub subroutine_fits : (ar : Around) (at : Place) (v : Bool) (c : Callee) (o : Option Typed) (direct : Bool) (as' : List Arg) → CalleeFits enums c
      → Keeps (CalledFits enums) (subroutine_called ar at v c o direct as')
  subroutine_fits ar at v c o direct as' h =
      keeps_also (CalledFits enums) _ _ (keeps_also (CalledFits enums) _ _ (keeps_also (CalledFits enums) _ _
      (keeps_given (λ (p : List (Hoisted Argument) × Ty). Unit {0} × IsType enums p.1) (CalledFits enums) _ (both (arguments ar at c.formals as') c.result)
      (keeps_both (λ x. Unit {0}) (IsType enums) (arguments ar at c.formals as') c.result (any (arguments ar at c.formals as')) h) (λ p f. f.1))))

  -- ---- methods of the language

  one_fits : (as' : List Arg) (go : Arg → Checked Called) → ((a : Arg) → Keeps (CalledFits enums) (go a)) → Keeps (CalledFits enums) (one_arg as' go)
  one_fits [] go h = tt
  one_fits (a ∷ as') go h = h a

  -- a call that is made of its arguments
  call_fits : {A : Type 0} (f : A → Hoisted CallForm) (c : Checked A) (t : Ty) → IsType enums t → Keeps (CalledFits enums) (given (λ x. called.Call (f x) t) c)
  call_fits f c t h = each_given (CalledFits enums) (λ x. called.Call (f x) t) c (λ x. h)

  with_fits : (a : Arg) (go : Typed → Checked (Hoisted CallForm)) (t : Ty) → IsType enums t → Keeps (CalledFits enums) (with_value a go t)
  with_fits a go t h = each_given (CalledFits enums) (λ (f : Hoisted CallForm). called.Call f t) (value_of_arg a ▷ go) (λ f. h)

  acted_fits : (ar : Around) (pe : Place) (act : Action) (g : Outcome) (c : Typed) (as' : List Arg) → IsType enums (type_given g) → Triggers act g
      → Keeps (CalledFits enums) (acted ar pe act g c as')
  acted_fits ar pe (action.Push e) g c as' h k = one_fits as' _ (λ a. with_fits a _ Nothing tt)
  acted_fits ar pe (action.Pop e) g c as' h k = h
  acted_fits ar pe action.Insert g c (i ∷ a ∷ as') h k = call_fits _ _ Nothing tt
  acted_fits ar pe action.Insert g c as' h k = tt
  acted_fits ar pe action.Delete g c [] h k = tt
  acted_fits ar pe action.Delete g c (a ∷ as') h k = with_fits a _ Nothing tt
  acted_fits ar pe action.Size g c as' h k = record { is_type = tt; runs = size_runs c.code.value }
  acted_fits ar pe action.Exists g c as' h k =
      one_fits as' _
      (λ a. each_given (CalledFits enums) (λ (e : Hoisted flat.Expr). called.Operator (value_typed int_type pe false (paired exists_expr c.code e))) _
      (λ e. record { is_type = tt; runs = exists_runs c.code.value e.value }))
  acted_fits ar pe (action.Walk w) g c as' h k = one_fits as' _ (λ a. call_fits _ _ int_type tt)
  acted_fits ar pe (action.Put waits) g m as' h k = one_fits as' _ (λ a. with_fits a _ (type_given g) h)
  acted_fits ar pe (action.Get peeks waits) g m as' h k = one_fits as' _ (λ a. call_fits _ _ (type_given g) h)
  acted_fits ar pe action.Messages g m as' h k = record { is_type = tt; runs = record { width = refl; sign = refl } }
  acted_fits ar pe action.PutKeys g s as' h k = call_fits _ _ Nothing tt
  acted_fits ar pe (action.GetKeys waits) g s as' h k = call_fits _ _ (type_given g) h
  acted_fits ar pe action.Name g e as' h k =
      each_given (CalledFits enums)
      (λ (items : List NamedItem). called.Operator (value_typed Text pe e.is_constant (mapped (flat.Name items) (alone e)))) (enum_items ar e.ty)
      (λ items. record { is_type = tt; runs = record { width = refl; sign = refl } })
  acted_fits ar pe action.Length g t as' h k = record { is_type = tt; runs = record { width = refl; sign = refl } }
  acted_fits ar pe action.Triggered g e as' h k =
      record { is_type = h; runs = subst (λ (t : Ty). Runs t (flat.Triggered e.code.value)) (sym k) (record { width = refl; sign = refl }) }

  pub language_fits : (ar : Around) (at : Place) (v : Bool) (m : Method) (o : Typed) (as' : List Arg) → MethodFits enums m
      → Keeps (CalledFits enums) (method_called ar at v m o as')
  language_fits ar at v m o as' h = each_then (CalledFits enums) _ _ (λ u. acted_fits ar at m.action m.gives o as' h.0 h.1)

  -- ---- `$cast`

  pub cast_call_fits : (ar : Around) (answers : Bool) (at : Place) (as' : List Arg) → Keeps (CalledFits enums) (cast_called ar answers at as')
  cast_call_fits ar answers at (a ∷ b ∷ []) = keeps_also (CalledFits enums) _ _ (each_given (CalledFits enums) (λ f. called.Call f int_type) _ (λ f. tt))
  cast_call_fits ar answers at as' =
      keeps_also (CalledFits enums) (broken_at 31 at where_also values_stand as') (call_stands ar at)
      (keeps_also (CalledFits enums) (broken_at 31 at) (values_stand as') tt)
