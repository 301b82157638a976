-- Each form of a statement, and so each step, leaves to run what stands in the bodies of the side.
use Rattle.std.proofs.Common.{ℕ, ◌≡◌, List, [], ◌∷◌, ◌++◌, Option, None, Some, Bool, true, false, cond, refl, map, inl, inr, slice_get}
use Rattle.std.specs.Prelude.{Result, Ok, Err, unwrap_or, ◌==◌}
use Rattle.std.specs.List.{AllByRecursion}
use Rattle.sv_value.specs.declared.number.ProcessId.{ProcessId}
use Rattle.sv_value.specs.declared.number.RoutineId.{RoutineId}
use Rattle.sv_value.specs.declared.place.FaultKind.{FaultKind}
use Rattle.sv_value.specs.declared.place.FaultKind.TheVariants as fault
use Rattle.sv_value.specs.declared.val.Val.{Val}
use Rattle.sv_value.specs.declared.val.Index.{Index}
use Rattle.sv_value.specs.declared.val.Message.{Message}
use Rattle.sv_value.specs.declared.val.Wanted.{Wanted}
use Rattle.sv_value.specs.declared.schedule.Side.{Side}
use Rattle.sv_value.specs.declared.schedule.Job.TheVariants as job
use Rattle.sv_value.specs.Digits.{rendered}
use Rattle.sv_value.specs.Operators.{is_true}
use Rattle.sv_value.specs.Containers.{Items, resized_to}
use Rattle.sv_flat.specs.declared.process.Edge.TheVariants as edge
use Rattle.sv_flat.specs.declared.process.Watch.TheVariants.{On, Updates}
use Rattle.sv_flat.specs.declared.call.Call.{Call}
use Rattle.sv_flat.specs.declared.stmt.Stmt.{Stmt}
use Rattle.sv_flat.specs.declared.stmt.Form.{Form}
use Rattle.sv_flat.specs.declared.stmt.Form.TheVariants as form
use Rattle.sv_flat.specs.declared.stmt.PrintKind.TheVariants as print
use Rattle.sv_flat.specs.declared.target.Lvalue.{Lvalue}
use Rattle.sv_flat.specs.declared.design.Parts.{Parts}
use Rattle.sv_flat.specs.Expr.{Expr}
use Rattle.sv_flat.specs.State.{View, Name, initial_of}
use Rattle.sv_flat.specs.Eval.{value_of, vector_in, text, text_in, key_in}
use Rattle.sv_flat.specs.Names.{form_exprs, optional}
use Rattle.sv_flat.specs.Targets.{with_reference, spots_of, target_values}
use Rattle.sv_flat.specs.Process.{Todo, Do, Turn, Turns, Walk, Walk_elements, Start_children, Leave, Receive, Put, Spot, Enter, Contain, Suspend, Watches, Update_at, Trigger_event, Drive_output, End_descendants, Print_text, Keep_print, Finish_run, ProcessState, body_in, optional_body_in}
use Rattle.sv_flat.specs.Statements.{executed, branch, returned, scheduled_for}
use Rattle.sv_flat.specs.Statements.Shared.{Effects, Site, from_result, goes_on, waits, values_of, written, assigned, count_of, updates_for, fails}
use Rattle.sv_flat.specs.Statements.Delays.{ticks_of}
use Rattle.sv_flat.specs.Statements.Events.{frozen}
use Rattle.sv_flat.specs.Statements.Jumps.{after_break, after_continue, after_return}
use Rattle.sv_flat.specs.Statements.Loops.{turned, inside, entered_with, int_type, next_index, name_or}
use Rattle.sv_flat.specs.Statements.Matching.{chosen_item}
use Rattle.sv_flat.specs.Statements.Synchronization.{fits, received}
use Rattle.sv_flat.specs.Micro.{Looks, micro, run_first, statement_run, site, first_site, walked_on, element_on}
use Rattle.sv_frame.proofs.Ways.{IsIn, in_left}
use Rattle.sv_frame.proofs.Paths.{IsRoutineOf, IsStmtOf}
use Rattle.sv_frame.proofs.Scopes.{IsScope}
use Rattle.sv_frame.proofs.Home.{IsHome, AreNamed, form_named, call_named, stmt_starts, form_starts, all_in}
use Rattle.sv_frame.proofs.MicroHome.{IsFramedCall, IsFramedForm, IsFramedTodo, IsHomeEffect, both, goes_home, from_home, value_home, written_home, moment_home, delayed_home, counted_home, queued_home, entered_home, inside_scope, container_home, items_home, body_home, optional_home, IsOptional, Inner, inner, step_home, break_home, continue_home, return_home, turned_home, done_home, repeated_home, walk_home, element_home, OnChosen, chosen_home, Starts, called_home, left_home, fork_home, spawn_home, ending_home}

module _ (d : Parts) (rs : List Side) (s : Side) where
  abbrev AtHome : List Todo → Type 0
  AtHome ts = AllByRecursion (IsHome d rs s) ts

  abbrev HomeEffects : Effects → Type 0
  HomeEffects es = AllByRecursion (IsHomeEffect d rs s) es

  -- ---- each form

  module _ (p : ProcessId) (t : Stmt) (at : IsStmtOf d s t) (outer : Option Name) (jo : IsScope rs s outer) (here : Site) (js : IsScope rs s here.scope) (jn : IsScope rs s (Some here.next)) (k : AtHome here.rest) where
    before_rest : (ts : List Todo) → AtHome ts → (es : Effects) → HomeEffects es → HomeEffects (goes_on (ts ++ here.rest) es)
    before_rest ts h es e = goes_home d rs s (ts ++ here.rest) (both (IsHome d rs s) ts here.rest h k) es e

    on : (es : Effects) → HomeEffects es → HomeEffects (goes_on here.rest es)
    on es h = goes_home d rs s here.rest k es h

    writes : (ts : List Lvalue) (x : Val) (ss : List Spot) → HomeEffects (goes_on here.rest (written ss (target_values ts x)))
    writes ts x ss = on (written ss (target_values ts x)) (written_home d rs s ss (target_values ts x))

    schedules : (ts : List Lvalue) (x : Val) (n : ℕ) (ss : List Spot) → HomeEffects (scheduled_for here ts x n ss)
    schedules ts x n ss = moment_home d rs s n here.view (λ m. goes_on here.rest (Update_at m (job.Update (updates_for ss (target_values ts x))) ∷ [])) (λ m. on (Update_at m (job.Update (updates_for ss (target_values ts x))) ∷ []) (tt, tt))

    branches : (y : Bool) (a : RoutineId) (b : Option RoutineId) → IsRoutineOf d s a → IsOptional d rs s b → AtHome (branch d y a b outer)
    branches true a b h o = body_home d rs s a h outer jo
    branches false a b h o = optional_home d rs s b o outer jo

    chosen : (r : Result (Option RoutineId) FaultKind) → OnChosen d rs s r → HomeEffects (from_result r (λ r. goes_on (optional_body_in d r outer ++ here.rest) []))
    chosen (Ok o) h = before_rest (optional_body_in d o outer) (optional_home d rs s o h outer jo) [] tt
    chosen (Err e) h = (tt, tt)

    tested : (y : Bool) (body : RoutineId) (step : Option RoutineId) → IsRoutineOf d s body → IsOptional d rs s step
        → HomeEffects (goes_on (cond y (turned d t body step outer here.rest) here.rest) [])
    tested true body step b o = goes_home d rs s _ (turned_home d rs s t at body b step o outer jo here.rest k) [] tt
    tested false body step b o = on [] tt

    waited : (y : Bool) (e : Expr) → HomeEffects (cond y (goes_on here.rest []) (waits (Do t [] outer None ∷ here.rest) (Suspend (Watches (On (frozen e here.view) edge.Change None ∷ []) here.scope) ∷ [])))
    waited true e = on [] tt
    waited false e = (((at, tt, jo, tt), k), (tt, tt))

    cycled : (y : Bool) (n : ℕ) (es : Effects) → HomeEffects es → HomeEffects (cond y (fails fault.Count) (waits here.rest es))
    cycled true n es h = (tt, tt)
    cycled false n es h = (k, h)

    -- without an else branch
    other_branch : (e : Expr) (a : RoutineId) (b : Option RoutineId) → Inner d rs s (form.If e a b) → IsOptional d rs s b
    other_branch e a None i = tt
    other_branch e a (Some r) i = i r (inr (inl refl))

    returns : (ts : List Lvalue) (e : Option Expr) → HomeEffects (returned here ts e)
    returns ts None = goes_home d rs s (after_return here.rest) (return_home d rs s here.rest k) [] tt
    returns ts (Some e) = from_home d rs s (spots_of ts here.view) _ (λ ss. value_home d rs s e here.view _ (λ x. goes_home d rs s (after_return here.rest) (return_home d rs s here.rest k) _ (written_home d rs s ss (target_values ts x))))

    form_home : (m : Form) → IsFramedForm m → Inner d rs s m → AreNamed d s (form_exprs m) → Starts d rs s m → HomeEffects (executed d p t m outer here)
    form_home form.Null f i n g = on [] tt
    form_home (form.Block ts body) f i n g = before_rest (body_in d body (inside ts outer here.next)) (body_home d rs s body (i body (inl refl)) (inside ts outer here.next) (inside_scope d rs s ts outer here.next jo jn)) (entered_with ts outer) (entered_home d rs s ts outer jo)
    form_home (form.Assign ts e) f i n g = from_home d rs s (spots_of ts here.view) _ (λ ss. value_home d rs s e here.view _ (λ x. writes ts x ss))
    form_home (form.AssignAfter ts e delay in_ticks) f i n g =
        value_home d rs s delay here.view _ (λ m. value_home d rs s e here.view _ (λ x. (((λ a j. n a (inr (inr j)), js), k), delayed_home d rs s (ticks_of in_ticks (vector_in m) here.view) here.view)))
    form_home (form.Nonblocking ts e None in_ticks) f i n g = from_home d rs s (spots_of ts here.view) _ (λ ss. value_home d rs s e here.view _ (λ x. schedules ts x 0 ss))
    form_home (form.Nonblocking ts e (Some delay) in_ticks) f i n g =
        value_home d rs s delay here.view _ (λ m. value_home d rs s e here.view _ (λ x. from_home d rs s (spots_of ts here.view) _ (λ ss. schedules ts x (ticks_of in_ticks (vector_in m) here.view) ss)))
    form_home (form.If e a b) f i n g =
        value_home d rs s e here.view _ (λ x. before_rest (branch d (is_true (vector_in x)) a b outer) (branches (is_true (vector_in x)) a b (i a (inl refl)) (other_branch e a b i)) [] tt)
    form_home (form.Case m e items other) f i n g =
        value_home d rs s e here.view _ (λ x. chosen (chosen_item m x items other here.view) (chosen_home d rs s m x items other here.view (λ r j. i r (in_left r (map (λ a. a.body) items ++ optional other) [] j))))
    form_home (form.While e body step) f i n g = value_home d rs s e here.view _ (λ x. tested (is_true (vector_in x)) body step (i body (inl refl)) (step_home d rs s (form.While e body step) i))
    form_home (form.Do again) f i n g = goes_home d rs s _ (done_home d rs s again (i again (inl refl)) outer jo here.rest k) [] tt
    form_home (form.Repeat e body) f i n g = value_home d rs s e here.view _ (λ x. repeated_home d rs s here.at (unwrap_or (count_of (vector_in x)) 0) body (i body (inl refl)) outer jo here.rest k)
    form_home (form.Forever body) f i n g = goes_home d rs s _ (turned_home d rs s t at body (i body (inl refl)) None tt outer jo here.rest k) [] tt
    form_home (form.Foreach c ty body) f i n g =
        container_home d rs s c here.view _ (λ h q. walk_home d rs s t at body (i body (inl refl)) (next_index q None) outer jo here.next jn here.rest k (Enter (ty ∷ []) outer ∷ []) (jo, tt))
    form_home (form.ForeachElement b body) f i n g = element_home d rs s t at b body (i body (inl refl)) 0 here.next jn here.rest k (Enter (int_type ∷ []) outer ∷ []) (jo, tt)
    form_home form.Break f i n g = goes_home d rs s (after_break here.rest) (break_home d rs s here.rest k) [] tt
    form_home form.Continue f i n g = goes_home d rs s (after_continue d here.rest) (continue_home d rs s here.rest k) [] tt
    form_home (form.Return ts e) f i n g = returns ts e
    form_home (form.Call c) f i n g = called_home d rs s p (record here { hidden = c.result }) js jn k c.form f (g c.form (inl refl)) n
    form_home (form.Evaluate e) f i n g = value_home d rs s e here.view _ (λ x. on [] tt)
    form_home (form.Delay e in_ticks) f i n g = value_home d rs s e here.view _ (λ m. (k, delayed_home d rs s (ticks_of in_ticks (vector_in m) here.view) here.view))
    form_home (form.At ws) f i n g = (k, (tt, tt))
    form_home (form.AtEvent e) f i n g = (k, queued_home d rs s (key_in (value_of e here.view)))
    form_home (form.Cycles c e) f i n g =
        value_home d rs s e here.view _ (λ x. counted_home d rs s (count_of (vector_in x)) _ (λ m. cycled (m == 0) m (Suspend (Watches (Updates c m ∷ []) here.scope) ∷ []) (tt, tt)))
    form_home (form.Wait e) f i n g = value_home d rs s e here.view _ (λ x. waited (is_true (vector_in x)) e)
    form_home (form.Fork ts initializers children join) f i n g =
        fork_home d rs s here k initializers children i join (inside ts outer here.next) (inside_scope d rs s ts outer here.next jo jn) (entered_with ts outer) (entered_home d rs s ts outer jo)
    form_home form.WaitFork f i n g = (k, (tt, ending_home d rs s here.rest))
    form_home form.DisableFork f i n g = on (End_descendants ∷ []) (tt, tt)
    form_home (form.Trigger e) f i n g = from_home d rs s (with_reference e here.view (λ key. Ok key)) (λ key. goes_on here.rest (Trigger_event key ∷ [])) (λ key. on (Trigger_event key ∷ []) (tt, tt))
    form_home (form.Drive c signal e) f i n g = value_home d rs s e here.view _ (λ x. on (Drive_output c signal (vector_in x) ∷ []) (tt, tt))
    form_home (form.Print print.Now pieces es) f i n g =
        from_home d rs s (values_of es here.view) _ (λ xs. from_home d rs s (text (rendered here.view.unit pieces xs)) _ (λ x. on (Print_text (text_in x) ∷ []) (tt, tt)))
    form_home (form.Print print.Strobe pieces es) f i n g = on (Keep_print print.Strobe pieces es ∷ []) (tt, tt)
    form_home (form.Print print.Monitor pieces es) f i n g = on (Keep_print print.Monitor pieces es ∷ []) (tt, tt)
    form_home (form.CopyContainer c source) f i n g =
        container_home d rs s c here.view _ (λ h old. container_home d rs s source here.view (λ m q. goes_on here.rest (Contain h q ∷ [])) (λ m q. on (Contain h q ∷ []) (tt, tt)))
    form_home (form.Resize c e source ty) f i n g =
        container_home d rs s c here.view _ (λ h q. value_home d rs s e here.view _ (λ x. items_home d rs s source here.view _ (λ old.
        counted_home d rs s (count_of (vector_in x)) (λ m. goes_on here.rest (Contain h (Items false (resized_to m (initial_of ty) old)) ∷ [])) (λ m.
        on (Contain h (Items false (resized_to m (initial_of ty) old)) ∷ []) (tt, tt)))))
    form_home form.Finish f i n g = on (Finish_run ∷ []) (tt, tt)
    form_home form.Exit f i n g = (k, (tt, tt))

  -- ---- the next step

  module _ (look : Looks) (p : ProcessId) (name : Name) (jn : IsScope rs s (Some name)) where
    run_home : (t : Stmt) → IsStmtOf d s t → IsFramedForm t.form → (cs : List Call) → AllByRecursion (λ c. IsIn c t.calls) cs → AllByRecursion (λ c. IsFramedCall c.form) cs
        → (outer hidden : Option Name) → IsScope rs s outer → IsScope rs s hidden → (rest : List Todo) → AtHome rest → HomeEffects (statement_run d look p name t cs outer hidden rest)
    run_home t h f [] i c outer None j l rest k = form_home p t h outer j (site d look p name t.at outer rest) j jn k t.form f (inner d rs s t h) (form_named d s t h) (form_starts d s t h)
    run_home t h f [] i c outer (Some n) j l rest k = form_home p t h outer j (site d look p name t.at (Some n) rest) l jn k t.form f (inner d rs s t h) (form_named d s t h) (form_starts d s t h)
    run_home t h f (x ∷ cs) i c outer None j l rest k =
        (j, called_home d rs s p (first_site d look p name t.at outer x.result (Do t cs outer (Some name) ∷ rest)) jn jn ((h, i.1, j, jn), k) x.form c.0 (stmt_starts d s t h x i.0) (call_named d s t h x i.0))
    run_home t h f (x ∷ cs) i c outer (Some n) j l rest k =
        called_home d rs s p (record (site d look p name t.at (Some n) (Do t cs outer (Some n) ∷ rest)) { hidden = x.result }) l jn ((h, i.1, j, l), k) x.form c.0 (stmt_starts d s t h x i.0)
        (call_named d s t h x i.0)

    walk_scope : (scope : Option Name) → IsScope rs s scope → IsScope rs s (Some (name_or name scope))
    walk_scope None h = jn
    walk_scope (Some n) h = h

    walked_home : (t : Stmt) → IsStmtOf d s t → (f : Form) → Inner d rs s f → (i : Index) (outer scope : Option Name) → IsScope rs s outer → IsScope rs s scope → (rest : List Todo)
        → AtHome rest → HomeEffects (walked_on d look p name t f i outer scope rest)
    walked_home t h (form.Foreach c ty body) j i outer scope o l rest k =
        container_home d rs s c (look outer) _ (λ m q. walk_home d rs s t h body (j body (inl refl)) (next_index q (Some i)) outer o (name_or name scope) (walk_scope scope l) rest k [] tt)
    walked_home t h f j i outer scope o l rest k = goes_home d rs s rest k [] tt

    elements_home : (t : Stmt) → IsStmtOf d s t → (f : Form) → Inner d rs s f → (n : ℕ) (scope : Option Name) → IsScope rs s scope → (rest : List Todo) → AtHome rest
        → HomeEffects (element_on d look p name t f n scope rest)
    elements_home t h (form.ForeachElement b body) j n scope l rest k = element_home d rs s t h b body (j body (inl refl)) n (name_or name scope) (walk_scope scope l) rest k [] tt
    elements_home t h f j n scope l rest k = goes_home d rs s rest k [] tt

    assigned_home : (ts : List Lvalue) (x : Val) (v : View) (rest : List Todo) → AtHome rest → HomeEffects (assigned ts x v (λ ws. goes_on rest ws))
    assigned_home ts x v rest k = from_home d rs s (spots_of ts v) _ (λ ss. goes_home d rs s rest k _ (written_home d rs s ss (target_values ts x)))

    received_home : (ts : List Lvalue) (w : Wanted) (m : Message) (v : View) (rest : List Todo) → AtHome rest → HomeEffects (received ts w m v (λ ws. goes_on rest ws))
    received_home ts w m v rest k = by_test (fits w m.written)
      where
        by_test : (b : Bool) → HomeEffects (cond b (assigned ts m.value v (λ ws. goes_on rest ws)) (fails fault.MessageType))
        by_test true = assigned_home ts m.value v rest k
        by_test false = (tt, tt)

    first_of : (handed : Option Message) (ts : List Todo) → AtHome ts → AllByRecursion IsFramedTodo ts → HomeEffects (run_first d look p name handed ts)
    first_of m [] h f = (tt, tt)
    first_of m (Do t cs outer hidden ∷ rest) h f = run_home t h.0.0 f.0.0 cs h.0.1 f.0.1 outer hidden h.0.2 h.0.3 rest h.1
    first_of m (Turn t scope ∷ rest) h f = run_home t h.0.0 f.0.0 t.calls (all_in t.calls) f.0.1 scope None h.0.1 tt rest h.1
    first_of m (Turns at n b scope ∷ rest) h f = repeated_home d rs s at n b h.0.0 scope h.0.1 rest h.1
    first_of m (Walk t i outer scope ∷ rest) h f = walked_home t h.0.0 t.form (inner d rs s t h.0.0) i outer scope h.0.1 h.0.2 rest h.1
    first_of m (Walk_elements t n scope ∷ rest) h f = elements_home t h.0.0 t.form (inner d rs s t h.0.0) n scope h.0.1 rest h.1
    first_of m (Start_children at cs j scope ∷ rest) h f = spawn_home d rs s cs h.0.0 j scope h.0.1 rest h.1 [] tt
    first_of m (Leave at r ∷ rest) h f = left_home d rs s r (look r.callee) (look r.caller) rest h.1
    first_of None (Receive at ts w scope ∷ rest) h f = goes_home d rs s rest h.1 [] tt
    first_of (Some m) (Receive at ts w scope ∷ rest) h f = received_home ts w m (look scope) rest h.1
    first_of m (Put at ts x scope ∷ rest) h f = assigned_home ts x (look scope) rest h.1

  -- the effects of the next step
  pub micro_home : (look : Looks) (p : ProcessId) (q : ProcessState) → slice_get rs p.0 ≡ Some s → AllByRecursion (IsHome d rs s) q.rest → AllByRecursion IsFramedTodo q.rest
      → AllByRecursion (IsHomeEffect d rs s) (micro d look p q)
  micro_home look p q mine h f = first_of look p (record { process = p; place = q.made }) mine q.handed q.rest h f
