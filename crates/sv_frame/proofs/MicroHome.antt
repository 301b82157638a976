-- What a step leaves to run stands in the bodies of the side where what was left to run does: bodies, jumps, loops, forks and calls; calls of methods are not among these yet.
use Rattle.std.proofs.Common.{ℕ, zero, suc, ◌≡◌, ◌+◌, List, [], ◌∷◌, ◌++◌, Option, None, Some, Bool, true, false, cond, refl, map, inl, inr, slice_get}
use Rattle.std.specs.Prelude.{Result, Ok, Err, IfOk, flat_map, if◌then◌else◌, nat_lt, nat_le, ◌^◌}
use Rattle.std.specs.List.{AllByRecursion}
use Rattle.sv_value.specs.declared.number.ProcessId.{ProcessId}
use Rattle.sv_value.specs.declared.number.RoutineId.{RoutineId}
use Rattle.sv_value.specs.declared.number.Key.{Key}
use Rattle.sv_value.specs.declared.place.Place.{Place}
use Rattle.sv_value.specs.declared.place.FaultKind.{FaultKind}
use Rattle.sv_value.specs.declared.place.FaultKind.TheVariants as fault
use Rattle.sv_value.specs.declared.val.Val.{Val}
use Rattle.sv_value.specs.declared.val.Index.{Index}
use Rattle.sv_value.specs.declared.schedule.Side.{Side}
use Rattle.sv_value.specs.declared.operator.CaseKind.{CaseKind}
use Rattle.sv_value.specs.declared.val.Val.TheVariants as val
use Rattle.sv_value.specs.Vector.{vector}
use Rattle.sv_value.specs.Operators.{integer_symbols}
use Rattle.sv_value.specs.Containers.{Container as Contents}
use Rattle.sv_flat.specs.declared.object.Bounds.{Bounds}
use Rattle.sv_flat.specs.declared.object.Declared.{Declared}
use Rattle.sv_flat.specs.declared.class.Variable.{Variable}
use Rattle.sv_flat.specs.declared.class.Formal.{Formal}
use Rattle.sv_flat.specs.declared.class.Subroutine.{Subroutine}
use Rattle.sv_flat.specs.declared.call.Argument.{Argument}
use Rattle.sv_flat.specs.declared.call.CallForm.{CallForm}
use Rattle.sv_flat.specs.declared.call.CallForm.TheVariants as call
use Rattle.sv_flat.specs.declared.stmt.CaseItem.{CaseItem}
use Rattle.sv_flat.specs.declared.stmt.Stmt.{Stmt}
use Rattle.sv_flat.specs.declared.stmt.Form.{Form}
use Rattle.sv_flat.specs.declared.stmt.Form.TheVariants as form
use Rattle.sv_flat.specs.declared.stmt.JoinKind.{JoinKind}
use Rattle.sv_flat.specs.declared.target.Container.{Container}
use Rattle.sv_flat.specs.declared.target.Lvalue.{Lvalue}
use Rattle.sv_flat.specs.declared.design.Parts.{Parts}
use Rattle.sv_flat.specs.Expr.{Expr}
use Rattle.sv_flat.specs.State.{View, Name}
use Rattle.sv_flat.specs.Eval.{value_of, element_count, with_result}
use Rattle.sv_flat.specs.Names.{call_exprs, argument_exprs, target_exprs, optional_targets, form_calls, call_routines, inner_routines, forked, optional}
use Rattle.sv_flat.specs.Targets.{with_reference, spots_of, target_values, as_type}
use Rattle.sv_flat.specs.Process.{Todo, Do, Turn, Turns, Walk, Walk_elements, Start_children, Leave, Output, Return, Held, Spot, Variable_of, Effect, Remain, Enter, Write, Resume_at, Spawn, types_of, routine_of, body_in, optional_body_in}
use Rattle.sv_flat.specs.Statements.{spawn, forked as forked_effects, with_items}
use Rattle.sv_flat.specs.Statements.Shared.{Effects, Site, from_result, ending, goes_on, value_in, written, counted, fails, result_write, with_through}
use Rattle.sv_flat.specs.Statements.Containers.{with_container, items_in, key_value}
use Rattle.sv_flat.specs.Statements.Delays.{at_moment, delayed}
use Rattle.sv_flat.specs.Statements.Events.{queued}
use Rattle.sv_flat.specs.Statements.Jumps.{after_break, after_continue, after_return, open_calls, step_of}
use Rattle.sv_flat.specs.Statements.Calls.{called}
use Rattle.sv_flat.specs.Statements.Routines.{variable_spot, variable_value, argument_write, argument_writes, output, outputs_of, result_given, needs_activation, callee_name, activation_entered, own_write, returns_to, subroutine_called, of_subroutine, routine_called, copied_out, given_value, left}
use Rattle.sv_flat.specs.Statements.Loops.{turned, body_first, done_first, repeated, inside, entered_with, walk_turn, element_turn, element_index}
use Rattle.sv_flat.specs.Statements.Matching.{chosen_item, any_label}
use Rattle.sv_frame.proofs.Ways.{IsIn, in_left, in_right, in_flat_map}
use Rattle.sv_frame.proofs.Paths.{IsStartOf, IsRoutineOf, IsStmtOf, IsVariableNamed, start_of_side, inner_of_side, formal_named}
use Rattle.sv_frame.proofs.Scopes.{IsScope}
use Rattle.sv_frame.proofs.Home.{IsHome, IsHomeOutput, IsHomeGiven, AreNamed, all_in}

-- ---- what is shown here

-- a call of a subroutine that is not virtual
abbrev pub IsFramedCall : CallForm → Type 0
IsFramedCall (call.Routine r e as') = Unit {0}
IsFramedCall c = ⊥

-- all forms but other calls
abbrev pub IsFramedForm : Form → Type 0
IsFramedForm (form.Call c) = IsFramedCall c.form
IsFramedForm f = Unit {0}

-- what is left to run of such forms and calls
abbrev pub IsFramedTodo : Todo → Type 0
IsFramedTodo (Do t cs outer hidden) = IsFramedForm t.form × AllByRecursion (λ c. IsFramedCall c.form) cs
IsFramedTodo (Turn t scope) = IsFramedForm t.form × AllByRecursion (λ c. IsFramedCall c.form) t.calls
IsFramedTodo t = Unit {0}

-- an effect that leaves nothing to run that does not stand in the bodies of the side
abbrev pub IsHomeEffect : Parts → List Side → Side → Effect → Type 0
IsHomeEffect d ss s (Remain rest) = AllByRecursion (IsHome d ss s) rest
IsHomeEffect d ss s (Enter ts around) = IsScope ss s around
IsHomeEffect d ss s (Spawn rs scope k) = AllByRecursion (IsRoutineOf d s) rs × IsScope ss s scope
IsHomeEffect d ss s e = Unit {0}

-- ---- lists

pub both : {A : Type 0} (P : A → Type 0) (xs ys : List A) → AllByRecursion P xs → AllByRecursion P ys → AllByRecursion P (xs ++ ys)
both P [] ys h k = k
both P (x ∷ xs) ys h k = (h.0, both P xs ys h.1 k)

module _ (d : Parts) (ss : List Side) (s : Side) where
  abbrev pub AtHome : List Todo → Type 0
  AtHome ts = AllByRecursion (IsHome d ss s) ts

  abbrev pub HomeEffects : Effects → Type 0
  HomeEffects es = AllByRecursion (IsHomeEffect d ss s) es

  -- ---- the end of a statement

  pub ending_home : (rest : List Todo) → HomeEffects (ending rest)
  ending_home [] = (tt, tt)
  ending_home (t ∷ ts) = tt

  pub goes_home : (rest : List Todo) → AtHome rest → (es : Effects) → HomeEffects es → HomeEffects (goes_on rest es)
  goes_home rest h es k = (h, both (IsHomeEffect d ss s) es (ending rest) k (ending_home rest))

  pub from_home : {A : Type 0} (r : Result A FaultKind) (go : A → Effects) → ((x : A) → HomeEffects (go x)) → HomeEffects (from_result r go)
  from_home (Ok x) go k = k x
  from_home (Err e) go k = (tt, tt)

  pub value_home : (e : Expr) (v : View) (go : Val → Effects) → ((x : Val) → HomeEffects (go x)) → HomeEffects (value_in e v go)
  value_home e v go k = from_home (value_of e v) go k

  pub written_home : (ss : List Spot) (vs : List Val) → HomeEffects (written ss vs)
  written_home [] vs = tt
  written_home (x ∷ ss) [] = tt
  written_home (x ∷ ss) (v ∷ vs) = (tt, written_home ss vs)

  pub moment_home : (n : ℕ) (v : View) (go : ℕ → Effects) → ((t : ℕ) → HomeEffects (go t)) → HomeEffects (at_moment n v go)
  moment_home n v go k = by_test (nat_lt (v.now + n) (2 ^ 63))
    where
      by_test : (b : Bool) → HomeEffects (cond b (go (v.now + n)) (fails fault.Time))
      by_test true = k (v.now + n)
      by_test false = (tt, tt)

  pub delayed_home : (n : ℕ) (v : View) → HomeEffects (delayed n v)
  delayed_home zero v = (tt, tt)
  delayed_home (suc n) v = moment_home (suc n) v (λ t. Resume_at t ∷ []) (λ t. (tt, tt))

  pub counted_home : (o : Option ℕ) (go : ℕ → Effects) → ((n : ℕ) → HomeEffects (go n)) → HomeEffects (counted o go)
  counted_home None go k = (tt, tt)
  counted_home (Some n) go k = k n

  pub queued_home : (o : Option Key) → HomeEffects (queued o)
  queued_home None = (tt, tt)
  queued_home (Some k) = (tt, (tt, tt))

  pub entered_home : (ts : List Declared) (outer : Option Name) → IsScope ss s outer → HomeEffects (entered_with ts outer)
  entered_home [] outer j = tt
  entered_home (t ∷ ts) outer j = (j, tt)

  pub inside_scope : (ts : List Declared) (outer : Option Name) (n : Name) → IsScope ss s outer → IsScope ss s (Some n) → IsScope ss s (inside ts outer n)
  inside_scope [] outer n j k = j
  inside_scope (t ∷ ts) outer n j k = k

  pub container_home : (c : Container) (v : View) (go : Held → Contents → Effects) → ((h : Held) (q : Contents) → HomeEffects (go h q)) → HomeEffects (with_container c v go)
  container_home c v go k = from_home _ _ (λ h. k h _)

  pub items_home : (c : Option Container) (v : View) (go : List Val → Effects) → ((xs : List Val) → HomeEffects (go xs)) → HomeEffects (with_items c v go)
  items_home None v go k = k []
  items_home (Some c) v go k = container_home c v _ (λ h q. k (items_in q))

  -- ---- bodies

  stmts_home : (r : RoutineId) → IsRoutineOf d s r → (scope : Option Name) → IsScope ss s scope → (ts : List Stmt) → AllByRecursion (λ t. IsIn t (routine_of d r).body) ts
      → AtHome (map (λ t. Do t t.calls scope None) ts)
  stmts_home r h scope j [] k = tt
  stmts_home r h scope j (t ∷ ts) k = ((record { routine = r; of_side = h; within = k.0 }, all_in t.calls, j, tt), stmts_home r h scope j ts k.1)

  pub body_home : (r : RoutineId) → IsRoutineOf d s r → (scope : Option Name) → IsScope ss s scope → AtHome (body_in d r scope)
  body_home r h scope j = stmts_home r h scope j (routine_of d r).body (all_in (routine_of d r).body)

  -- a routine of the side, if there is one
  abbrev pub IsOptional : Option RoutineId → Type 0
  IsOptional None = Unit {0}
  IsOptional (Some r) = IsRoutineOf d s r

  pub optional_home : (o : Option RoutineId) → IsOptional o → (scope : Option Name) → IsScope ss s scope → AtHome (optional_body_in d o scope)
  optional_home None h scope j = tt
  optional_home (Some r) h scope j = body_home r h scope j

  -- the routines that stand in a form are of the side
  abbrev pub Inner : Form → Type 0
  Inner f = (x : RoutineId) → IsIn x (inner_routines f ++ forked f) → IsRoutineOf d s x

  pub inner : (t : Stmt) → IsStmtOf d s t → Inner t.form
  inner t h x i = inner_of_side d s t h x i

  pub step_home : (f : Form) → Inner f → IsOptional (step_of f)
  step_home (form.While c b None) h = tt
  step_home (form.While c b (Some r)) h = h r (inr (inl refl))
  step_home f h = tt

  -- ---- forks

  pub spawn_home : (cs : List RoutineId) → AllByRecursion (IsRoutineOf d s) cs → (j : JoinKind) (scope : Option Name) → IsScope ss s scope → (rest : List Todo) → AtHome rest → (before : Effects) → HomeEffects before
      → HomeEffects (spawn cs j scope rest before)
  spawn_home cs h j scope l rest k before e = (k, both (IsHomeEffect d ss s) before (Spawn cs scope j ∷ ending rest) e ((h, l), ending_home rest))

  children_home : (cs : List RoutineId) → ((x : RoutineId) → IsIn x cs → IsRoutineOf d s x) → AllByRecursion (IsRoutineOf d s) cs
  children_home [] h = tt
  children_home (c ∷ cs) h = (h c (inl refl), children_home cs (λ x i. h x (inr i)))

  pub fork_home : (here : Site) → AtHome here.rest → (r : Option RoutineId) (cs : List RoutineId) → ((x : RoutineId) → IsIn x (optional r ++ cs) → IsRoutineOf d s x) → (j : JoinKind)
      → (scope : Option Name) → IsScope ss s scope → (before : Effects) → HomeEffects before → HomeEffects (forked_effects d here r cs j scope before)
  fork_home here k None cs h j scope l before e = spawn_home cs (children_home cs h) j scope l here.rest k before e
  fork_home here k (Some r) cs h j scope l before e =
      goes_home (body_in d r scope ++ Start_children here.at cs j scope ∷ here.rest)
      (both (IsHome d ss s) (body_in d r scope) (Start_children here.at cs j scope ∷ here.rest) (body_home r (h r (inl refl)) scope l) ((children_home cs (λ x i. h x (inr i)), l), k)) before e

  -- ---- jumps

  pub break_home : (ts : List Todo) → AtHome ts → AtHome (after_break ts)
  break_home [] h = tt
  break_home (Turn l scope ∷ rest) h = h.1
  break_home (Turns at n r scope ∷ rest) h = h.1
  break_home (Walk t i outer scope ∷ rest) h = h.1
  break_home (Walk_elements t n scope ∷ rest) h = h.1
  break_home (t ∷ rest) h = break_home rest h.1

  pub continue_home : (ts : List Todo) → AtHome ts → AtHome (after_continue d ts)
  continue_home [] h = tt
  continue_home (Turn l scope ∷ rest) h =
      both (IsHome d ss s) (optional_body_in d (step_of l.form) scope) (Turn l scope ∷ rest) (optional_home (step_of l.form) (step_home l.form (inner l h.0.0)) scope h.0.1) h
  continue_home (Turns at n r scope ∷ rest) h = h
  continue_home (Walk t i outer scope ∷ rest) h = h
  continue_home (Walk_elements t n scope ∷ rest) h = h
  continue_home (t ∷ rest) h = continue_home rest h.1

  pub return_home : (ts : List Todo) → AtHome ts → AtHome (after_return ts)
  return_home [] h = tt
  return_home (Leave at r ∷ rest) h = h
  return_home (t ∷ rest) h = return_home rest h.1

  -- ---- loops

  pub turned_home : (t : Stmt) → IsStmtOf d s t → (body : RoutineId) → IsRoutineOf d s body → (step : Option RoutineId) → IsOptional step → (scope : Option Name)
      → IsScope ss s scope → (rest : List Todo) → AtHome rest
      → AtHome (turned d t body step scope rest)
  turned_home t h body b step o scope j rest k =
      both (IsHome d ss s) (body_in d body scope ++ optional_body_in d step scope) (Turn t scope ∷ rest)
      (both (IsHome d ss s) (body_in d body scope) (optional_body_in d step scope) (body_home body b scope j) (optional_home step o scope j)) ((h, j), k)

  first_home : (t : Stmt) → IsStmtOf d s t → (f : Form) → Inner f → (scope : Option Name) → IsScope ss s scope → (rest : List Todo) → AtHome rest → AtHome (body_first d t f scope rest)
  first_home t h (form.While c body step) i scope j rest k = turned_home t h body (i body (inl refl)) step (step_home (form.While c body step) i) scope j rest k
  first_home t h f i scope j rest k = k

  pub done_home : (again : RoutineId) → IsRoutineOf d s again → (scope : Option Name) → IsScope ss s scope → (rest : List Todo) → AtHome rest
      → AtHome (done_first d (slice_get (routine_of d again).body 0) scope rest)
  done_home again h scope j rest k = by_first (routine_of d again).body (all_in (routine_of d again).body)
    where
      by_first : (ts : List Stmt) → AllByRecursion (λ t. IsIn t (routine_of d again).body) ts → AtHome (done_first d (slice_get ts 0) scope rest)
      by_first [] i = k
      by_first (t ∷ ts) i =
          let at : IsStmtOf d s t = record { routine = again; of_side = h; within = i.0 } in
          first_home t at t.form (inner t at) scope j rest k

  pub repeated_home : (at : Place) (n : ℕ) (body : RoutineId) → IsRoutineOf d s body → (scope : Option Name) → IsScope ss s scope → (rest : List Todo) → AtHome rest
      → HomeEffects (repeated d at n body scope rest)
  repeated_home at zero body b scope j rest k = goes_home rest k [] tt
  repeated_home at (suc n) body b scope j rest k =
      goes_home (body_in d body scope ++ Turns at n body scope ∷ rest) (both (IsHome d ss s) (body_in d body scope) (Turns at n body scope ∷ rest) (body_home body b scope j) ((b, j), k)) [] tt

  pub walk_home : (t : Stmt) → IsStmtOf d s t → (body : RoutineId) → IsRoutineOf d s body → (i : Option Index) (outer : Option Name) → IsScope ss s outer → (scope : Name)
      → IsScope ss s (Some scope)
      → (rest : List Todo) → AtHome rest → (before : Effects) → HomeEffects before → HomeEffects (walk_turn d t body i outer scope rest before)
  walk_home t h body b None outer j scope l rest k before p = goes_home rest k before p
  walk_home t h body b (Some i) outer j scope l rest k before p =
      goes_home (body_in d body (Some scope) ++ Walk t i outer (Some scope) ∷ rest)
      (both (IsHome d ss s) (body_in d body (Some scope)) (Walk t i outer (Some scope) ∷ rest) (body_home body b (Some scope) l) ((h, j, l), k))
      (before ++ Write (Variable_of scope 0 None) (key_value i) ∷ []) (both (IsHomeEffect d ss s) before _ p (tt, tt))

  pub element_home : (t : Stmt) → IsStmtOf d s t → (b : Bounds) (body : RoutineId) → IsRoutineOf d s body → (n : ℕ) (scope : Name) → IsScope ss s (Some scope) → (rest : List Todo) → AtHome rest
      → (before : Effects) → HomeEffects before → HomeEffects (element_turn d t b body n scope rest before)
  element_home t h b body r n scope j rest k before p = by_test (nat_lt n (element_count b))
    where
      write : Effect
      write = Write (Variable_of scope 0 None) (val.Bits (vector true (integer_symbols 32 (element_index b n))))

      by_test : (y : Bool) → HomeEffects (cond y (goes_on (body_in d body (Some scope) ++ Walk_elements t (n + 1) (Some scope) ∷ rest) (before ++ write ∷ [])) (goes_on rest before))
      by_test true =
          goes_home (body_in d body (Some scope) ++ Walk_elements t (n + 1) (Some scope) ∷ rest)
          (both (IsHome d ss s) (body_in d body (Some scope)) (Walk_elements t (n + 1) (Some scope) ∷ rest) (body_home body r (Some scope) j) ((h, j), k))
          (before ++ write ∷ []) (both (IsHomeEffect d ss s) before (write ∷ []) p (tt, tt))
      by_test false = goes_home rest k before p

  -- ---- `case`

  abbrev pub OnChosen : Result (Option RoutineId) FaultKind → Type 0
  OnChosen (Ok o) = IsOptional o
  OnChosen (Err k) = Unit {0}

  pub chosen_home : (m : CaseKind) (x : Val) (items : List CaseItem) (other : Option RoutineId) (v : View)
      → ((r : RoutineId) → IsIn r (map (λ a. a.body) items ++ optional other) → IsRoutineOf d s r) → OnChosen (chosen_item m x items other v)
  chosen_home m x [] None v h = tt
  chosen_home m x [] (Some r) v h = h r (inl refl)
  chosen_home m x (a ∷ items) other v h = by_label (any_label m x a.labels v) (chosen_home m x items other v (λ r i. h r (inr i)))
    where
      by_label : (l : Result Bool FaultKind) → OnChosen (chosen_item m x items other v)
          → OnChosen (with_result l (λ hit. if hit then Ok (Some a.body) else chosen_item m x items other v))
      by_label (Ok true) k = h a.body (inl refl)
      by_label (Ok false) k = k
      by_label (Err e) k = tt

  -- ---- calls

  -- the routines that a call runs are of the side
  abbrev pub StartsOf : CallForm → Type 0
  StartsOf c = (x : RoutineId) → IsIn x (call_routines d c) → IsStartOf d s x

  -- and those of the call that a form is
  abbrev pub Starts : Form → Type 0
  Starts f = (c : CallForm) → IsIn c (form_calls f) → StartsOf c

  with_home : {A : Type 0} (r : Result A FaultKind) (P : A → Type 0) (go : A → Effects) → IfOk r P → ((x : A) → P x → HomeEffects (go x)) → HomeEffects (from_result r go)
  with_home (Ok x) P go h k = k x h
  with_home (Err e) P go h k = (tt, tt)

  argument_home : (f : Formal) (e : Option Expr) (v : View) (callee : Option Name) → IfOk (argument_write f e v callee) HomeEffects
  argument_home f None v callee = tt
  argument_home f (Some e) v callee = by_value (value_of e v)
    where
      by_value : (r : Result Val FaultKind) → IfOk (with_result r (λ x. Ok (Write (variable_spot f.variable callee) (as_type f.ty x) ∷ []))) HomeEffects
      by_value (Ok x) = (tt, tt)
      by_value (Err k) = tt

  arguments_home : (fs : List Formal) (as' : List Argument) (v : View) (callee : Option Name) → IfOk (argument_writes fs as' v callee) HomeEffects
  arguments_home [] as' v callee = tt
  arguments_home (f ∷ fs) [] v callee = tt
  arguments_home (f ∷ fs) (a ∷ as') v callee = by_results (argument_write f a.value v callee) (argument_home f a.value v callee) (argument_writes fs as' v callee) (arguments_home fs as' v callee)
    where
      by_results : (r : Result Effects FaultKind) → IfOk r HomeEffects → (rs : Result Effects FaultKind) → IfOk rs HomeEffects
          → IfOk (with_result r (λ w. with_result rs (λ ws. Ok (w ++ ws)))) HomeEffects
      by_results (Ok w) h (Ok ws) k = both (IsHomeEffect d ss s) w ws h k
      by_results (Ok w) h (Err e) k = tt
      by_results (Err e) h rs k = tt

  -- what the outputs name
  output_home : (x : Variable) → IsVariableNamed d s x → (ts : Option (List Lvalue)) → AreNamed d s (target_exprs (optional_targets ts)) → AllByRecursion (IsHomeOutput d s) (output x ts)
  output_home x h None k = tt
  output_home x h (Some ts) k = ((h, k), tt)

  outputs_home : (fs : List Formal) → ((f : Formal) → IsIn f fs → IsVariableNamed d s f.variable) → (as' : List Argument) → ((a : Argument) → IsIn a as' → AreNamed d s (argument_exprs a))
      → AllByRecursion (IsHomeOutput d s) (outputs_of fs as')
  outputs_home [] h as' k = tt
  outputs_home (f ∷ fs) h [] k = tt
  outputs_home (f ∷ fs) h (a ∷ as') k =
      both (IsHomeOutput d s) (output f.variable a.targets) (outputs_of fs as')
      (output_home f.variable (h f (inl refl)) a.targets (λ e i. k a (inl refl) e (in_right e (optional a.value) (target_exprs (optional_targets a.targets)) i)))
      (outputs_home fs (λ g i. h g (inr i)) as' (λ b i. k b (inr i)))

  result_home : (o : Option Formal) → ((f : Formal) → IsIn f (optional o) → IsVariableNamed d s f.variable) → IsHomeGiven d s (result_given o)
  result_home None h = tt
  result_home (Some f) h = h f (inl refl)

  activation_home : (u : Subroutine) → HomeEffects (activation_entered u)
  activation_home u = by_test (needs_activation u)
    where
      by_test : (y : Bool) → HomeEffects (if y then Enter (types_of u.locals) None ∷ [] else [])
      by_test true = (tt, tt)
      by_test false = tt

  callee_scope : (u : Subroutine) (n : Name) → IsScope ss s (Some n) → IsScope ss s (callee_name u n)
  callee_scope u n h = by_test (needs_activation u)
    where
      by_test : (y : Bool) → IsScope ss s (if y then Some n else None)
      by_test true = h
      by_test false = tt

  subroutine_home : (here : Site) → IsScope ss s here.scope → IsScope ss s (Some here.next) → AtHome here.rest → (r : RoutineId) → IsStartOf d s r
      → (as' : List Argument) → ((a : Argument) → IsIn a as' → AreNamed d s (argument_exprs a)) → (u : Subroutine) → (routine_of d r).subroutine ≡ Some u
      → HomeEffects (subroutine_called d here r as' None [] u)
  subroutine_home here js jn k r h as' n u is = by_depth (nat_le 1000 (open_calls here.rest))
    where
      callee : Option Name
      callee = callee_name u here.next

      jc : IsScope ss s callee
      jc = callee_scope u here.next jn

      named : (f : Formal) → IsIn f (u.formals ++ optional u.result) → IsVariableNamed d s f.variable
      named = formal_named d s r h u is

      left_to_run : List Todo
      left_to_run = body_in d r callee ++ Leave here.at (returns_to here u as' None) ∷ here.rest

      left_home : AtHome left_to_run
      left_home =
          both (IsHome d ss s) (body_in d r callee) (Leave here.at (returns_to here u as' None) ∷ here.rest) (body_home r (start_of_side d s r h) callee jc) (
            (
              outputs_home u.formals (λ f i. named f (in_left f u.formals (optional u.result) i)) as' n,
              result_home u.result (λ f i. named f (in_right f u.formals (optional u.result) i)),
              jc,
              js,
            ),
            k,
          )

      by_depth : (y : Bool)
          → HomeEffects (if y then fails fault.Depth else from_result (argument_writes u.formals as' here.view callee) (λ ws. goes_on left_to_run ([] ++ activation_entered u ++ own_write None u.formals callee ++ ws)))
      by_depth true = (tt, tt)
      by_depth false =
          with_home (argument_writes u.formals as' here.view callee) HomeEffects _ (arguments_home u.formals as' here.view callee)
          (λ ws w.
          goes_home left_to_run left_home ([] ++ activation_entered u ++ own_write None u.formals callee ++ ws)
          (both (IsHomeEffect d ss s) (activation_entered u ++ own_write None u.formals callee) ws (both (IsHomeEffect d ss s) (activation_entered u) [] (activation_home u) tt) w))

  routine_home : (here : Site) → IsScope ss s here.scope → IsScope ss s (Some here.next) → AtHome here.rest → (r : RoutineId) → IsStartOf d s r
      → (as' : List Argument) → ((a : Argument) → IsIn a as' → AreNamed d s (argument_exprs a)) → HomeEffects (routine_called d here r as' None [])
  routine_home here js jn k r h as' n = by_subroutine (routine_of d r).subroutine refl
    where
      by_subroutine : (o : Option Subroutine) → (routine_of d r).subroutine ≡ o → HomeEffects (of_subroutine d here r as' None [] o)
      by_subroutine None e = goes_home here.rest k [] tt
      by_subroutine (Some u) e = subroutine_home here js jn k r h as' n u e

  through_home : (e : Option Expr) (v : View) (es : Effects) → HomeEffects es → HomeEffects (with_through e v es)
  through_home None v es h = h
  through_home (Some e) v es h = from_home (with_reference e v (λ k. Ok k)) _ (λ k. h)

  pub called_home : (p : ProcessId) (here : Site) → IsScope ss s here.scope → IsScope ss s (Some here.next) → AtHome here.rest → (c : CallForm) → IsFramedCall c → StartsOf c
      → AreNamed d s (call_exprs c) → HomeEffects (called d p here c)
  called_home p here js jn k (call.Routine r e as') f g n =
      through_home e here.view (routine_called d here r as' None [])
      (routine_home here js jn k r (g r (inl refl)) as' (λ a i x j. n x (in_right x (optional e) (flat_map argument_exprs as') (in_flat_map argument_exprs a x as' i j))))
  called_home p here js jn k c f g n = absurd f

  -- the end of a call
  given_home : (i : Option ℕ) (scope : Option Name) (x : Val) → HomeEffects (result_write i scope x)
  given_home None scope x = tt
  given_home (Some i) None x = tt
  given_home (Some i) (Some n) x = (tt, tt)

  copied_home : (os : List Output) (callee caller : View) → IfOk (copied_out os callee caller) HomeEffects
  copied_home [] callee caller = tt
  copied_home (o ∷ os) callee caller = by_results (spots_of o.targets caller) (copied_out os callee caller) (copied_home os callee caller)
    where
      xs : List Val
      xs = target_values o.targets (variable_value o.formal callee)

      by_results : (r : Result (List Spot) FaultKind) (rs : Result Effects FaultKind) → IfOk rs HomeEffects → IfOk (with_result r (λ ss. with_result rs (λ ws. Ok (written ss xs ++ ws)))) HomeEffects
      by_results (Ok us) (Ok ws) k = both (IsHomeEffect d ss s) (written us xs) ws (written_home us xs) k
      by_results (Ok us) (Err e) k = tt
      by_results (Err e) rs k = tt

  pub left_home : (r : Return) (callee caller : View) (rest : List Todo) → AtHome rest → HomeEffects (left r callee caller rest)
  left_home r callee caller rest k =
      let x = given_value r.given callee in
      with_home (copied_out r.outputs callee caller) HomeEffects _ (copied_home r.outputs callee caller)
      (λ ws w. goes_home rest k (ws ++ result_write r.hidden r.caller x) (both (IsHomeEffect d ss s) ws (result_write r.hidden r.caller x) w (given_home r.hidden r.caller x)))
