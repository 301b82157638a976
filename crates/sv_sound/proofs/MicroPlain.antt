-- The effects of each step of a built design are plain.
use Rattle.std.proofs.Common.{ℕ, zero, suc, ◌≡◌, arith, List, [], ◌∷◌, ◌++◌, Option, None, Some, Bool, true, false, cond, refl, subst, sym, slice_get}
use Rattle.std.specs.Prelude.{Result, Ok, Err, IfOk, nat_lt, nat_le, if◌then◌else◌, option_map, unwrap_or, ◌+◌, ◌^◌}
use Rattle.std.specs.List.{AllByRecursion}
use Rattle.sv_value.specs.declared.number.ProcessId.{ProcessId}
use Rattle.sv_value.specs.declared.number.ObjId.{ObjId}
use Rattle.sv_value.specs.declared.number.RoutineId.{RoutineId}
use Rattle.sv_value.specs.declared.place.Place.{Place}
use Rattle.sv_value.specs.declared.place.FaultKind.{FaultKind}
use Rattle.sv_value.specs.declared.place.FaultKind.TheVariants as fault
use Rattle.sv_value.specs.declared.val.Val.{Val}
use Rattle.sv_value.specs.declared.val.Val.TheVariants as val
use Rattle.sv_value.specs.declared.val.Message.{Message}
use Rattle.sv_value.specs.declared.schedule.Range.{Range}
use Rattle.sv_value.specs.declared.schedule.Job.{Job}
use Rattle.sv_value.specs.declared.schedule.Job.TheVariants as job
use Rattle.sv_value.specs.Vector.{vector}
use Rattle.sv_value.specs.Operators.{is_true, integer_symbols}
use Rattle.sv_flat.specs.declared.object.Bounds.{Bounds}
use Rattle.sv_flat.specs.declared.object.Declared.{Declared}
use Rattle.sv_flat.specs.declared.process.Edge.TheVariants as edge
use Rattle.sv_flat.specs.declared.process.Watch.TheVariants.{On}
use Rattle.sv_flat.specs.declared.class.Variable.{Variable}
use Rattle.sv_flat.specs.declared.class.Variable.TheVariants as variable
use Rattle.sv_flat.specs.declared.class.Formal.{Formal}
use Rattle.sv_flat.specs.declared.class.Subroutine.{Subroutine}
use Rattle.sv_flat.specs.declared.call.Argument.{Argument}
use Rattle.sv_flat.specs.declared.call.Call.{Call}
use Rattle.sv_flat.specs.declared.call.CallForm.{CallForm}
use Rattle.sv_flat.specs.declared.call.CallForm.TheVariants as call
use Rattle.sv_flat.specs.declared.stmt.Stmt.{Stmt}
use Rattle.sv_flat.specs.declared.stmt.Form.{Form}
use Rattle.sv_flat.specs.declared.stmt.Form.TheVariants as form
use Rattle.sv_flat.specs.declared.stmt.PrintKind.TheVariants as print
use Rattle.sv_flat.specs.declared.stmt.JoinKind.{JoinKind}
use Rattle.sv_flat.specs.declared.target.Lvalue.{Lvalue}
use Rattle.sv_flat.specs.declared.target.Base.{Base}
use Rattle.sv_flat.specs.declared.target.Base.TheVariants as base
use Rattle.sv_flat.specs.declared.design.Parts.{Parts}
use Rattle.sv_flat.specs.Expr.{Expr}
use Rattle.sv_flat.specs.Eval.{value_of, vector_in, with_result, element_count}
use Rattle.sv_flat.specs.State.{Name, View}
use Rattle.sv_flat.specs.Targets.{Placed, based, cell_at, variable_at, element_at, looked_through, range_of, spot_of, spots_of, target_values}
use Rattle.sv_flat.specs.Process.{ProcessState, Todo, Leave, Output, Return, Do, Turn, Turns, Put, Walk, Walk_elements, Start_children, Spot, Variable_of, Effect, Enter, Write, Suspend, Resume_at, Update_at, Spawn, End_descendants, Print_text, Keep_print, Finish_run, End, Watches, types_of, body_in, optional_body_in, routine_of}
use Rattle.sv_flat.specs.Statements.{executed, returned, branch, printed, scheduled_for, spawn, forked}
use Rattle.sv_flat.specs.Statements.Shared.{Effects, Site, goes_on, waits, ending, from_result, value_in, values_of, written, updates_for, assigned, fails, count_of, result_write}
use Rattle.sv_flat.specs.Statements.Loops.{turned, body_first, done_first, repeated, inside, entered_with, element_turn, element_index, int_type, name_or}
use Rattle.sv_flat.specs.Statements.Jumps.{after_break, after_continue, after_return, open_calls, step_of}
use Rattle.sv_flat.specs.Statements.Calls.{called}
use Rattle.sv_flat.specs.Statements.Routines.{variable_spot, variable_value, argument_write, argument_writes, output, outputs_of, needs_activation, callee_name, activation_entered, own_write, returns_to, subroutine_called, of_subroutine, copied_out, given_value, left}
use Rattle.sv_flat.specs.Statements.Delays.{ticks_of, at_moment, delayed}
use Rattle.sv_flat.specs.Statements.Events.{frozen}
use Rattle.sv_flat.specs.Statements.Matching.{chosen_item}
use Rattle.sv_flat.specs.Micro.{Looks, micro, run_first, statement_run, element_on, site, first_site}
use Rattle.sv_built.specs.Built.{IsBuiltType, IsBuiltExpr, IsBuiltWatch, IsBuiltVariable, IsBuiltTarget, IsBuiltBase, IsBuilt, IsBuiltOutput, IsBuiltArgument, IsBuiltCallForm, IsBuiltCall, IsBuiltForm, IsBuiltSubroutine, IsBuiltStmt}
use Rattle.sv_sound.specs.Sound.{IsPlainOutput, IsPlainTodo, IsPlainSpot, IsPlainEffect}
use Rattle.sv_sound.proofs.Weights.{all_append, all_at}
use Rattle.sv_sound.proofs.Waits.{frozen_built, all_frozen_built}
use Rattle.sv_sound.proofs.Plain.{body_plain, optional_body_plain, routine_built}

-- all of these are plain
abbrev ArePlainEffects : Effects → Type 0
ArePlainEffects es = AllByRecursion IsPlainEffect es

abbrev ArePlainTodos : List Todo → Type 0
ArePlainTodos ts = AllByRecursion IsPlainTodo ts

one_plain : (e : Effect) → IsPlainEffect e → ArePlainEffects (e ∷ [])
one_plain e h = (h, tt)

-- ---- the end of a statement

ending_plain : (rest : List Todo) → ArePlainEffects (ending rest)
ending_plain [] = (tt, tt)
ending_plain (t ∷ ts) = tt

goes_plain : (rest : List Todo) → ArePlainTodos rest → (es : Effects) → ArePlainEffects es → ArePlainEffects (goes_on rest es)
goes_plain rest h es k = (h, all_append IsPlainEffect es (ending rest) k (ending_plain rest))

from_plain : {A : Type 0} (r : Result A FaultKind) (P : A → Type 0) (go : A → Effects) → IfOk r P → ((x : A) → P x → ArePlainEffects (go x)) → ArePlainEffects (from_result r go)
from_plain (Ok x) P go h k = k x h
from_plain (Err e) P go h k = (tt, tt)

value_plain : (e : Expr) (v : View) (go : Val → Effects) → ((x : Val) → ArePlainEffects (go x)) → ArePlainEffects (value_in e v go)
value_plain e v go k = by_value (value_of e v)
  where
    by_value : (r : Result Val FaultKind) → ArePlainEffects (from_result r go)
    by_value (Ok x) = k x
    by_value (Err f) = (tt, tt)

-- ---- targets

abbrev IsPlainPlaced : Placed → Type 0
IsPlainPlaced f = (r : Option Range) → IsPlainSpot (f r)

cell_plain : (o : ObjId) (i : Option ℕ) → IsPlainPlaced (cell_at o i)
cell_plain o None r = tt
cell_plain o (Some i) r = tt

variable_plain : (n : Option Name) (i : Option ℕ) → IsPlainPlaced (variable_at n i)
variable_plain None i r = tt
variable_plain (Some n) None r = tt
variable_plain (Some n) (Some i) r = tt

with_plain : {A B : Type 0} (x : Result A FaultKind) (go : A → Result B FaultKind) (P : B → Type 0) → ((a : A) → IfOk (go a) P) → IfOk (with_result x go) P
with_plain (Ok a) go P h = h a
with_plain (Err k) go P h = tt

based_plain : (b : Base) → IsBuiltBase b → (v : View) → IfOk (based b v) IsPlainPlaced
based_plain (base.Object o) h v = λ r. tt
based_plain (base.Driver o n) h v = λ r. tt
based_plain (base.Element o b i) h v = with_plain (value_of i v) _ IsPlainPlaced (λ x. cell_plain o (element_at b x))
based_plain (base.Local up i) h v = variable_plain (v.name up) (Some i)
based_plain (base.LocalElement up p b i) h v = with_plain (value_of i v) _ IsPlainPlaced (λ x. variable_plain (v.name up) (option_map (λ n. p + n) (element_at b x)))
based_plain b h v = absurd h

spot_plain : (l : Lvalue) → IsBuiltTarget l → (v : View) → IfOk (spot_of l v) IsPlainSpot
spot_plain l h v =
    subst (λ t. IfOk (looked_through t v (with_result (based l.base v) (λ place. with_result (range_of l.part v) (λ r. Ok (place r))))) IsPlainSpot) (sym h.plainly)
    (by_base (based l.base v) (based_plain l.base h.base v))
  where
    by_base : (b : Result Placed FaultKind) → IfOk b IsPlainPlaced → IfOk (with_result b (λ place. with_result (range_of l.part v) (λ r. Ok (place r)))) IsPlainSpot
    by_base (Ok f) k = with_plain (range_of l.part v) (λ r. Ok (f r)) IsPlainSpot (λ r. k r)
    by_base (Err e) k = tt

spots_plain : (ls : List Lvalue) → AllByRecursion IsBuiltTarget ls → (v : View) → IfOk (spots_of ls v) (AllByRecursion IsPlainSpot)
spots_plain [] h v = tt
spots_plain (l ∷ ls) h v = by_spot (spot_of l v) (spot_plain l h.0 v) (spots_of ls v) (spots_plain ls h.1 v)
  where
    by_spot : (s : Result Spot FaultKind) → IfOk s IsPlainSpot → (ss : Result (List Spot) FaultKind) → IfOk ss (AllByRecursion IsPlainSpot)
        → IfOk (with_result s (λ s. with_result ss (λ ss. Ok (s ∷ ss)))) (AllByRecursion IsPlainSpot)
    by_spot (Ok s) k (Ok ss) j = (k, j)
    by_spot (Ok s) k (Err e) j = tt
    by_spot (Err e) k ss j = tt

written_plain : (ss : List Spot) → AllByRecursion IsPlainSpot ss → (vs : List Val) → ArePlainEffects (written ss vs)
written_plain [] h vs = tt
written_plain (s ∷ ss) h [] = tt
written_plain (s ∷ ss) h (v ∷ vs) = (h.0, written_plain ss h.1 vs)

-- ---- delays

moment_plain : (n : ℕ) (v : View) (go : ℕ → Effects) → ((t : ℕ) → ArePlainEffects (go t)) → ArePlainEffects (at_moment n v go)
moment_plain n v go k = by_test (nat_lt (v.now + n) (2 ^ 63))
  where
    by_test : (b : Bool) → ArePlainEffects (cond b (go (v.now + n)) (fails Rattle.sv_value.specs.declared.place.FaultKind.TheVariants.Time))
    by_test true = k (v.now + n)
    by_test false = (tt, tt)

delayed_plain : (n : ℕ) (v : View) → ArePlainEffects (delayed n v)
delayed_plain zero v = (tt, tt)
delayed_plain (suc n) v = moment_plain (suc n) v (λ t. Resume_at t ∷ []) (λ t. one_plain (Resume_at t) tt)

-- ---- jumps and loops

module _ (d : Parts) (b : IsBuilt d) where
  break_plain : (ts : List Todo) → ArePlainTodos ts → ArePlainTodos (after_break ts)
  break_plain [] h = tt
  break_plain (Turn l scope ∷ rest) h = h.1
  break_plain (Turns at n r scope ∷ rest) h = h.1
  break_plain (Walk s i outer scope ∷ rest) h = h.1
  break_plain (Walk_elements s n scope ∷ rest) h = h.1
  break_plain (Do s cs outer hidden ∷ rest) h = break_plain rest h.1
  break_plain (Leave at r ∷ rest) h = break_plain rest h.1
  break_plain (Start_children at cs j scope ∷ rest) h = break_plain rest h.1
  break_plain (Put at ts x scope ∷ rest) h = break_plain rest h.1
  break_plain (t ∷ rest) h = absurd h.0

  continue_plain : (ts : List Todo) → ArePlainTodos ts → ArePlainTodos (after_continue d ts)
  continue_plain [] h = tt
  continue_plain (Turn l scope ∷ rest) h =
      all_append IsPlainTodo (optional_body_in d (step_of l.form) scope) (Turn l scope ∷ rest) (optional_body_plain d b (step_of l.form) scope) h
  continue_plain (Turns at n r scope ∷ rest) h = h
  continue_plain (Walk s i outer scope ∷ rest) h = h
  continue_plain (Walk_elements s n scope ∷ rest) h = h
  continue_plain (Do s cs outer hidden ∷ rest) h = continue_plain rest h.1
  continue_plain (Leave at r ∷ rest) h = continue_plain rest h.1
  continue_plain (Start_children at cs j scope ∷ rest) h = continue_plain rest h.1
  continue_plain (Put at ts x scope ∷ rest) h = continue_plain rest h.1
  continue_plain (t ∷ rest) h = absurd h.0

  return_plain : (ts : List Todo) → ArePlainTodos ts → ArePlainTodos (after_return ts)
  return_plain [] h = tt
  return_plain (Leave at r ∷ rest) h = h
  return_plain (Turn l scope ∷ rest) h = return_plain rest h.1
  return_plain (Start_children at cs j scope ∷ rest) h = return_plain rest h.1
  return_plain (Turns at n r scope ∷ rest) h = return_plain rest h.1
  return_plain (Walk_elements s n scope ∷ rest) h = return_plain rest h.1
  return_plain (Do s cs outer hidden ∷ rest) h = return_plain rest h.1
  return_plain (Put at ts x scope ∷ rest) h = return_plain rest h.1
  return_plain (t ∷ rest) h = absurd h.0

  turned_plain : (s : Stmt) → IsBuiltStmt s → (body : RoutineId) (step : Option RoutineId) (scope : Option Name) (rest : List Todo) → ArePlainTodos rest → ArePlainTodos (turned d s body step scope rest)
  turned_plain s h body step scope rest k =
      all_append IsPlainTodo (body_in d body scope ++ optional_body_in d step scope) (Turn s scope ∷ rest)
      (all_append IsPlainTodo (body_in d body scope) (optional_body_in d step scope) (body_plain d b body scope) (optional_body_plain d b step scope)) (h, k)

  first_plain : (s : Stmt) → IsBuiltStmt s → (f : Form) (scope : Option Name) (rest : List Todo) → ArePlainTodos rest → ArePlainTodos (body_first d s f scope rest)
  first_plain s h (form.While c body step) scope rest k = turned_plain s h body step scope rest k
  first_plain s h f scope rest k = k

  done_plain : (again : RoutineId) (o : Option Stmt) → slice_get (routine_of d again).body 0 ≡ o → (scope : Option Name) (rest : List Todo) → ArePlainTodos rest → ArePlainTodos (done_first d o scope rest)
  done_plain again None e scope rest k = k
  done_plain again (Some s) e scope rest k = first_plain s (all_at IsBuiltStmt (routine_of d again).body 0 s e (routine_built d b again).body) s.form scope rest k

  repeated_plain : (at : Place) (n : ℕ) (body : RoutineId) (scope : Option Name) (rest : List Todo) → ArePlainTodos rest → ArePlainEffects (repeated d at n body scope rest)
  repeated_plain at zero body scope rest k = goes_plain rest k [] tt
  repeated_plain at (suc n) body scope rest k =
      goes_plain (body_in d body scope ++ Turns at n body scope ∷ rest) (all_append IsPlainTodo (body_in d body scope) (Turns at n body scope ∷ rest) (body_plain d b body scope) (tt, k)) [] tt

  branch_plain : (y : Bool) (x : RoutineId) (n : Option RoutineId) (scope : Option Name) → ArePlainTodos (branch d y x n scope)
  branch_plain true x n scope = body_plain d b x scope
  branch_plain false x n scope = optional_body_plain d b n scope

  -- ---- activations

  types_built : (vs : List Declared) → AllByRecursion IsBuiltVariable vs → AllByRecursion IsBuiltType (types_of vs)
  types_built [] h = tt
  types_built (v ∷ vs) h = (h.0, types_built vs h.1)

  entered_plain : (vs : List Declared) → AllByRecursion IsBuiltVariable vs → (outer : Option Name) → ArePlainEffects (entered_with vs outer)
  entered_plain [] h outer = tt
  entered_plain (v ∷ vs) h outer = ((h.0, types_built vs h.1), tt)

  -- a turn of a `foreach` of a fixed array
  element_plain : (s : Stmt) → IsBuiltStmt s → (r : Bounds) (body : RoutineId) (n : ℕ) (scope : Name) (rest : List Todo) → ArePlainTodos rest → (before : Effects) → ArePlainEffects before
      → ArePlainEffects (element_turn d s r body n scope rest before)
  element_plain s h r body n scope rest k before e = by_test (nat_lt n (element_count r))
    where
      first : Effect
      first = Write (Variable_of scope 0 None) (val.Bits (vector true (integer_symbols 32 (element_index r n))))

      turn : List Todo
      turn = body_in d body (Some scope) ++ Walk_elements s (n + 1) (Some scope) ∷ rest

      by_test : (y : Bool) → ArePlainEffects (cond y (goes_on turn (before ++ first ∷ [])) (goes_on rest before))
      by_test true =
          goes_plain turn (all_append IsPlainTodo (body_in d body (Some scope)) (Walk_elements s (n + 1) (Some scope) ∷ rest) (body_plain d b body (Some scope)) (h, k))
          (before ++ first ∷ []) (all_append IsPlainEffect before (first ∷ []) e (tt, tt))
      by_test false = goes_plain rest k before e

  -- the index of a walk is an `int`
  int_built : IsBuiltType int_type
  int_built = (omega arith, omega arith)

  -- ---- forks

  spawn_plain : (cs : List RoutineId) (j : JoinKind) (scope : Option Name) (rest : List Todo) → ArePlainTodos rest → (before : Effects) → ArePlainEffects before
      → ArePlainEffects (spawn cs j scope rest before)
  spawn_plain cs j scope rest k before e =
      (k, all_append IsPlainEffect before (Spawn cs scope j ∷ ending rest) e (tt, ending_plain rest))

  forked_plain : (here : Site) → ArePlainTodos here.rest → (r : Option RoutineId) (cs : List RoutineId) (j : JoinKind) (scope : Option Name) (before : Effects) → ArePlainEffects before
      → ArePlainEffects (forked d here r cs j scope before)
  forked_plain here k None cs j scope before e = spawn_plain cs j scope here.rest k before e
  forked_plain here k (Some r) cs j scope before e =
      goes_plain (body_in d r scope ++ Start_children here.at cs j scope ∷ here.rest)
      (all_append IsPlainTodo (body_in d r scope) (Start_children here.at cs j scope ∷ here.rest) (body_plain d b r scope) (tt, k)) before e

  -- ---- calls

  variable_spot_plain : (x : Variable) (callee : Option Name) → IsPlainSpot (variable_spot x callee)
  variable_spot_plain (variable.Object o) callee = tt
  variable_spot_plain (variable.Local i) None = tt
  variable_spot_plain (variable.Local i) (Some n) = tt

  argument_plain : (f : Formal) (e : Option Expr) (v : View) (callee : Option Name) → IfOk (argument_write f e v callee) ArePlainEffects
  argument_plain f None v callee = tt
  argument_plain f (Some e) v callee = with_plain (value_of e v) _ ArePlainEffects (λ x. (variable_spot_plain f.variable callee, tt))

  -- the inputs
  arguments_plain : (fs : List Formal) (as' : List Argument) (v : View) (callee : Option Name) → IfOk (argument_writes fs as' v callee) ArePlainEffects
  arguments_plain [] as' v callee = tt
  arguments_plain (f ∷ fs) [] v callee = tt
  arguments_plain (f ∷ fs) (a ∷ as') v callee = by_results (argument_write f a.value v callee) (argument_plain f a.value v callee) (argument_writes fs as' v callee) (arguments_plain fs as' v callee)
    where
      by_results : (r : Result Effects FaultKind) → IfOk r ArePlainEffects → (rs : Result Effects FaultKind) → IfOk rs ArePlainEffects
          → IfOk (with_result r (λ w. with_result rs (λ ws. Ok (w ++ ws)))) ArePlainEffects
      by_results (Ok w) h (Ok ws) k = all_append IsPlainEffect w ws h k
      by_results (Ok w) h (Err e) k = tt
      by_results (Err e) h rs k = tt

  -- the outputs
  output_plain : (x : Variable) (ts : Option (List Lvalue)) → IsBuiltOutput ts → AllByRecursion IsPlainOutput (output x ts)
  output_plain x None h = tt
  output_plain x (Some ts) h = (h, tt)

  outputs_plain : (fs : List Formal) (as' : List Argument) → AllByRecursion IsBuiltArgument as' → AllByRecursion IsPlainOutput (outputs_of fs as')
  outputs_plain [] as' h = tt
  outputs_plain (f ∷ fs) [] h = tt
  outputs_plain (f ∷ fs) (a ∷ as') h =
      all_append IsPlainOutput (output f.variable a.targets) (outputs_of fs as') (output_plain f.variable a.targets h.0.output) (outputs_plain fs as' h.1)

  activation_plain : (u : Subroutine) → AllByRecursion IsBuiltVariable u.locals → ArePlainEffects (activation_entered u)
  activation_plain u h = by_test (needs_activation u)
    where
      by_test : (y : Bool) → ArePlainEffects (if y then Enter (types_of u.locals) None ∷ [] else [])
      by_test true = (types_built u.locals h, tt)
      by_test false = tt

  -- the activation, the inputs and the body
  subroutine_plain : (here : Site) → ArePlainTodos here.rest → (r : RoutineId) (as' : List Argument) → AllByRecursion IsBuiltArgument as' → (u : Subroutine) → AllByRecursion IsBuiltVariable u.locals
      → ArePlainEffects (subroutine_called d here r as' None [] u)
  subroutine_plain here k r as' h u l = by_depth (nat_le 1000 (open_calls here.rest))
    where
      callee : Option Name
      callee = callee_name u here.next

      left_to_run : List Todo
      left_to_run = body_in d r callee ++ Leave here.at (returns_to here u as' None) ∷ here.rest

      left_plain : ArePlainTodos left_to_run
      left_plain = all_append IsPlainTodo (body_in d r callee) (Leave here.at (returns_to here u as' None) ∷ here.rest) (body_plain d b r callee) (outputs_plain u.formals as' h, k)

      by_depth : (y : Bool) → ArePlainEffects (if y then fails fault.Depth else from_result (argument_writes u.formals as' here.view callee) (λ ws. goes_on left_to_run ([] ++ activation_entered u ++ own_write None u.formals callee ++ ws)))
      by_depth true = (tt, tt)
      by_depth false =
          from_plain (argument_writes u.formals as' here.view callee) ArePlainEffects _ (arguments_plain u.formals as' here.view callee)
          (λ ws w.
          goes_plain left_to_run left_plain ([] ++ activation_entered u ++ own_write None u.formals callee ++ ws)
          (all_append IsPlainEffect (activation_entered u ++ own_write None u.formals callee) ws (all_append IsPlainEffect (activation_entered u) [] (activation_plain u l) tt) w))

  routine_plain : (here : Site) → ArePlainTodos here.rest → (r : RoutineId) (as' : List Argument) → AllByRecursion IsBuiltArgument as' → (o : Option Subroutine) → IsBuiltSubroutine o
      → ArePlainEffects (of_subroutine d here r as' None [] o)
  routine_plain here k r as' h None l = goes_plain here.rest k [] tt
  routine_plain here k r as' h (Some u) l = subroutine_plain here k r as' h u l

  called_plain : (p : ProcessId) (here : Site) → ArePlainTodos here.rest → (c : CallForm) → IsBuiltCallForm c → ArePlainEffects (called d p here c)
  called_plain p here k (call.Routine r None as') h = routine_plain here k r as' h (routine_of d r).subroutine (routine_built d b r).subroutine
  called_plain p here k c h = absurd h

  -- the end of a call
  result_plain : (i : Option ℕ) (scope : Option Name) (x : Val) → ArePlainEffects (result_write i scope x)
  result_plain None scope x = tt
  result_plain (Some i) None x = tt
  result_plain (Some i) (Some n) x = (tt, tt)

  copied_plain : (os : List Output) → AllByRecursion IsPlainOutput os → (callee caller : View) → IfOk (copied_out os callee caller) ArePlainEffects
  copied_plain [] h callee caller = tt
  copied_plain (o ∷ os) h callee caller = by_results (spots_of o.targets caller) (spots_plain o.targets h.0 caller) (copied_out os callee caller) (copied_plain os h.1 callee caller)
    where
      xs : List Val
      xs = target_values o.targets (variable_value o.formal callee)

      by_results : (r : Result (List Spot) FaultKind) → IfOk r (AllByRecursion IsPlainSpot) → (rs : Result Effects FaultKind) → IfOk rs ArePlainEffects
          → IfOk (with_result r (λ ss. with_result rs (λ ws. Ok (written ss xs ++ ws)))) ArePlainEffects
      by_results (Ok ss) h (Ok ws) k = all_append IsPlainEffect (written ss xs) ws (written_plain ss h xs) k
      by_results (Ok ss) h (Err e) k = tt
      by_results (Err e) h rs k = tt

  left_plain : (r : Return) → AllByRecursion IsPlainOutput r.outputs → (callee caller : View) (rest : List Todo) → ArePlainTodos rest → ArePlainEffects (left r callee caller rest)
  left_plain r h callee caller rest k =
      let x = given_value r.given callee in
      from_plain (copied_out r.outputs callee caller) ArePlainEffects _ (copied_plain r.outputs h callee caller)
      (λ ws w. goes_plain rest k (ws ++ result_write r.hidden r.caller x) (all_append IsPlainEffect ws (result_write r.hidden r.caller x) w (result_plain r.hidden r.caller x)))

  -- ---- each form

  module _ (look : Looks) (p : ProcessId) (name : Name) (s : Stmt) (built : IsBuiltStmt s) (outer scope : Option Name) (rest : List Todo) (k : ArePlainTodos rest) where
    abbrev here : Site
    here = site d look p name s.at scope rest

    behind : (ts : List Todo) → ArePlainTodos ts → ArePlainEffects (goes_on (ts ++ rest) [])
    behind ts h = goes_plain (ts ++ rest) (all_append IsPlainTodo ts rest h k) [] tt

    schedules : (ts : List Lvalue) (x : Val) (n : ℕ) (ss : List Spot) → ArePlainEffects (scheduled_for here ts x n ss)
    schedules ts x n ss =
        let j : Job = job.Update (updates_for ss (target_values ts x)) in
        moment_plain n here.view (λ t. goes_on rest (Update_at t j ∷ [])) (λ t. goes_plain rest k (Update_at t j ∷ []) (one_plain (Update_at t j) tt))

    texts : (r : Result Val FaultKind) → ArePlainEffects (from_result r (λ x. goes_on rest (Print_text (Rattle.sv_flat.specs.Eval.text_in x) ∷ [])))
    texts (Ok x) = goes_plain rest k (Print_text (Rattle.sv_flat.specs.Eval.text_in x) ∷ []) (one_plain (Print_text (Rattle.sv_flat.specs.Eval.text_in x)) tt)
    texts (Err e) = (tt, tt)

    prints : (r : Result (List Val) FaultKind) (ps : List Rattle.sv_value.specs.declared.operator.Piece.Piece) → ArePlainEffects (from_result r (λ xs. printed here ps xs))
    prints (Ok xs) ps = texts _
    prints (Err e) ps = (tt, tt)

    chosen : (r : Result (Option RoutineId) FaultKind) → ArePlainEffects (from_result r (λ r. goes_on (optional_body_in d r outer ++ rest) []))
    chosen (Ok r) = behind (optional_body_in d r outer) (optional_body_plain d b r outer)
    chosen (Err e) = (tt, tt)

    tested : (y : Bool) (body : RoutineId) (step : Option RoutineId) → ArePlainEffects (goes_on (cond y (turned d s body step outer rest) rest) [])
    tested true body step = goes_plain _ (turned_plain s built body step outer rest k) [] tt
    tested false body step = goes_plain rest k [] tt

    waited : (y : Bool) (e : Expr) → IsBuiltExpr e → ArePlainEffects (cond y (goes_on rest []) (waits (Do s [] outer None ∷ rest) (Suspend (Watches (On (frozen e here.view) edge.Change None ∷ []) scope) ∷ [])))
    waited true e h = goes_plain rest k [] tt
    waited false e h = (((built, tt), k), (((tt, subst IsBuiltExpr (sym (frozen_built e h here.view)) h, tt), tt), tt))

    returns : (ts : List Lvalue) → AllByRecursion IsBuiltTarget ts → (e : Option Expr) → ArePlainEffects (returned here ts e)
    returns ts h None = goes_plain (after_return rest) (return_plain rest k) [] tt
    returns ts h (Some e) =
        from_plain (spots_of ts here.view) (AllByRecursion IsPlainSpot) _ (spots_plain ts h here.view)
        (λ ss j. value_plain e here.view _ (λ x. goes_plain (after_return rest) (return_plain rest k) _ (written_plain ss j (target_values ts x))))

    form_plain : (m : Form) → IsBuiltForm m → ArePlainEffects (executed d p s m outer here)
    form_plain form.Null h = goes_plain rest k [] tt
    form_plain (form.Block vs body) h =
        let at : Option Name = inside vs outer name in
        goes_plain (body_in d body at ++ rest) (all_append IsPlainTodo (body_in d body at) rest (body_plain d b body at) k) (entered_with vs outer) (entered_plain vs h outer)
    form_plain (form.Assign ts e) h =
        from_plain (spots_of ts here.view) (AllByRecursion IsPlainSpot) _ (spots_plain ts h.0 here.view)
        (λ ss j. value_plain e here.view _ (λ x. goes_plain rest k _ (written_plain ss j (target_values ts x))))
    form_plain (form.AssignAfter ts e delay in_ticks) h =
        value_plain delay here.view _ (λ n. value_plain e here.view _ (λ x. ((h.0, k), delayed_plain (ticks_of in_ticks (vector_in n) here.view) here.view)))
    form_plain (form.Nonblocking ts e None in_ticks) h =
        from_plain (spots_of ts here.view) (AllByRecursion IsPlainSpot) _ (spots_plain ts h.0 here.view)
        (λ ss j. value_plain e here.view _ (λ x. schedules ts x 0 ss))
    form_plain (form.Nonblocking ts e (Some delay) in_ticks) h =
        value_plain delay here.view _ (λ n. value_plain e here.view _ (λ x.
        from_plain (spots_of ts here.view) (AllByRecursion IsPlainSpot) _ (spots_plain ts h.0 here.view)
        (λ ss j. schedules ts x (ticks_of in_ticks (vector_in n) here.view) ss)))
    form_plain (form.If e x n) h = value_plain e here.view _ (λ y. behind (branch d (is_true (vector_in y)) x n outer) (branch_plain (is_true (vector_in y)) x n outer))
    form_plain (form.Case m e items other) h = value_plain e here.view _ (λ x. chosen (chosen_item m x items other here.view))
    form_plain (form.While e body step) h = value_plain e here.view _ (λ x. tested (is_true (vector_in x)) body step)
    form_plain (form.Do again) h = goes_plain _ (done_plain again (slice_get (routine_of d again).body 0) refl outer rest k) [] tt
    form_plain (form.Repeat e body) h = value_plain e here.view _ (λ x. repeated_plain s.at (unwrap_or (count_of (vector_in x)) 0) body outer rest k)
    form_plain (form.Forever body) h = goes_plain _ (turned_plain s built body None outer rest k) [] tt
    form_plain (form.ForeachElement r body) h = element_plain s built r body 0 name rest k (Enter (int_type ∷ []) outer ∷ []) ((int_built, tt), tt)
    form_plain form.Break h = goes_plain _ (break_plain rest k) [] tt
    form_plain form.Continue h = goes_plain _ (continue_plain rest k) [] tt
    form_plain (form.Return ts e) h = returns ts h.0 e
    form_plain (form.Call c) h = called_plain p (record here { hidden = c.result }) k c.form h
    form_plain (form.Evaluate e) h = value_plain e here.view _ (λ x. goes_plain rest k [] tt)
    form_plain (form.Delay e in_ticks) h = value_plain e here.view _ (λ n. (k, delayed_plain (ticks_of in_ticks (vector_in n) here.view) here.view))
    form_plain (form.At ws) h = (k, (subst (AllByRecursion IsBuiltWatch) (sym (all_frozen_built here.view ws h)) h, tt))
    form_plain (form.Wait e) h = value_plain e here.view _ (λ x. waited (is_true (vector_in x)) e h)
    form_plain (form.Fork vs initializers children join) h = forked_plain here k initializers children join (inside vs outer name) (entered_with vs outer) (entered_plain vs h outer)
    form_plain form.WaitFork h = (k, (tt, ending_plain rest))
    form_plain form.DisableFork h = goes_plain rest k (End_descendants ∷ []) (one_plain End_descendants tt)
    form_plain (form.Print print.Now ps es) h = prints (values_of es here.view) ps
    form_plain (form.Print print.Strobe ps es) h = goes_plain rest k (Keep_print print.Strobe ps es ∷ []) (one_plain (Keep_print print.Strobe ps es) tt)
    form_plain (form.Print print.Monitor ps es) h = absurd h.0
    form_plain form.Finish h = goes_plain rest k (Finish_run ∷ []) (one_plain Finish_run tt)
    form_plain m h = absurd h

  -- ---- the next step

  put_plain : (ts : List Lvalue) → AllByRecursion IsBuiltTarget ts → (x : Val) (v : View) (rest : List Todo) → ArePlainTodos rest → ArePlainEffects (assigned ts x v (λ ws. goes_on rest ws))
  put_plain ts h x v rest k =
      from_plain (spots_of ts v) (AllByRecursion IsPlainSpot) _ (spots_plain ts h v) (λ ss j. goes_plain rest k _ (written_plain ss j (target_values ts x)))

  -- a statement with the calls that it has still to make
  run_plain : (look : Looks) (p : ProcessId) (name : Name) (s : Stmt) → IsBuiltStmt s → (cs : List Call) → AllByRecursion IsBuiltCall cs → (outer hidden : Option Name) (rest : List Todo)
      → ArePlainTodos rest → ArePlainEffects (statement_run d look p name s cs outer hidden rest)
  run_plain look p name s h [] c outer None rest k = form_plain look p name s h outer outer rest k s.form h.built
  run_plain look p name s h [] c outer (Some n) rest k = form_plain look p name s h outer (Some n) rest k s.form h.built
  run_plain look p name s h (x ∷ cs) c outer None rest k =
      (h.hidden, called_plain p (first_site d look p name s.at outer x.result (Do s cs outer (Some name) ∷ rest)) ((h, c.1), k) x.form c.0)
  run_plain look p name s h (x ∷ cs) c outer (Some n) rest k =
      called_plain p (record (site d look p name s.at (Some n) (Do s cs outer (Some n) ∷ rest)) { hidden = x.result }) ((h, c.1), k) x.form c.0

  on_plain : (look : Looks) (p : ProcessId) (name : Name) (s : Stmt) → IsBuiltStmt s → (f : Form) (n : ℕ) (scope : Option Name) (rest : List Todo) → ArePlainTodos rest
      → ArePlainEffects (element_on d look p name s f n scope rest)
  on_plain look p name s h (form.ForeachElement r body) n scope rest k = element_plain s h r body n (name_or name scope) rest k [] tt
  on_plain look p name s h f n scope rest k = goes_plain rest k [] tt

  todos_micro : (look : Looks) (p : ProcessId) (name : Name) (handed : Option Message) (ts : List Todo) → ArePlainTodos ts → ArePlainEffects (run_first d look p name handed ts)
  todos_micro look p name handed [] h = one_plain End tt
  todos_micro look p name handed (Do s cs outer hidden ∷ rest) h = run_plain look p name s h.0.0 cs h.0.1 outer hidden rest h.1
  todos_micro look p name handed (Turn s scope ∷ rest) h = run_plain look p name s h.0 s.calls h.0.calls scope None rest h.1
  todos_micro look p name handed (Leave at r ∷ rest) h = left_plain r h.0 (look r.callee) (look r.caller) rest h.1
  todos_micro look p name handed (Turns at n r scope ∷ rest) h = repeated_plain at n r scope rest h.1
  todos_micro look p name handed (Walk_elements s n scope ∷ rest) h = on_plain look p name s h.0 s.form n scope rest h.1
  todos_micro look p name handed (Start_children at cs j scope ∷ rest) h = spawn_plain cs j scope rest h.1 [] tt
  todos_micro look p name handed (Put at ts x scope ∷ rest) h = put_plain ts h.0 x (look scope) rest h.1
  todos_micro look p name handed (t ∷ rest) h = absurd h.0

  pub micro_plain : (look : Looks) (p : ProcessId) (q : ProcessState) → AllByRecursion IsPlainTodo q.rest → AllByRecursion IsPlainEffect (micro d look p q)
  micro_plain look p q h = todos_micro look p (record { process = p; place = q.made }) q.handed q.rest h
