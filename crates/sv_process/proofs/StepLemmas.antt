-- What comes first of all that is left.
use Rattle.std.proofs.Common.{ℕ, ◌≡◌, ◌+◌, Bool, List, [], ◌∷◌, ◌++◌, Option, None, Some, zero, suc, refl, ap, subst, sym, ◌∙◌, arith, drop}
use Rattle.std.specs.Prelude.{Result, slice_get, slice_index_or, unwrap_or}
use Rattle.std.specs.List.{AllByRecursion}
use Rattle.sv_value.specs.declared.number.RoutineId.{RoutineId}
use Rattle.sv_value.specs.declared.val.Val.{Val}
use Rattle.sv_value.specs.declared.place.Place.{Place}
use Rattle.sv_value.specs.declared.val.Message.{Message}
use Rattle.sv_flat.specs.declared.call.Argument.{Argument}
use Rattle.sv_flat.specs.declared.call.Call.{Call}
use Rattle.sv_flat.specs.declared.call.CallForm.TheVariants as call
use Rattle.sv_flat.specs.declared.class.Routine.{Routine}
use Rattle.sv_flat.specs.declared.class.Subroutine.{Subroutine}
use Rattle.sv_flat.specs.declared.object.Bounds.{Bounds}
use Rattle.sv_flat.specs.declared.object.Declared.{Declared}
use Rattle.sv_flat.specs.declared.stmt.JoinKind.{JoinKind}
use Rattle.sv_flat.specs.declared.stmt.Form.TheVariants as form
use Rattle.sv_flat.specs.declared.target.Lvalue.{Lvalue}
use Rattle.sv_flat.specs.Expr.{Expr}
use Rattle.sv_flat.specs.Micro.{Looks, element_on, just_inside, run_first, statement_run, place_of_step}
use Rattle.sv_flat.specs.Statements.{spawn}
use Rattle.sv_flat.specs.Statements.Calls.{called}
use Rattle.sv_flat.specs.Statements.Jumps.{open_calls}
use Rattle.sv_flat.specs.Statements.Routines.{left}
use Rattle.sv_flat.specs.Statements.Loops.{element_turn, name_or, repeated}
use Rattle.sv_flat.specs.Statements.Shared.{Effects, from_result}
use Rattle.sv_flat.specs.Targets.{spots_of}
use Rattle.sv_built.specs.declared.entered.Entered.TheVariants as entered
use Rattle.sv_built.specs.declared.position.Position.{Position}
use Rattle.sv_built.specs.Entered.{types_at, types_hidden}
use Rattle.sv_built.specs.Built.{IsBuilt, IsBuiltStmt, IsBuiltForm, IsBuiltRoutine}
use Rattle.sv_built.specs.Positions.{body_of, stmt_at}
use Rattle.sv_stack.specs.declared.frames.Frame.TheVariants as frame
use Rattle.sv_process.specs.declared.calls.Site.{Site as Own_site}
use Rattle.sv_stack.specs.Calls.{call_in, left_after, return_of, seen_from, site_of}
use Rattle.sv_stack.specs.Frames.{IsFirst}
use Rattle.sv_value.specs.declared.number.ProcessId.{ProcessId}
use Rattle.sv_flat.specs.declared.design.Parts.{Parts}
use Rattle.sv_flat.specs.declared.stmt.Stmt.{Stmt}
use Rattle.sv_flat.specs.State.{View, Name}
use Rattle.sv_flat.specs.Process.{Todo, Do, Enter, no_routine, no_place, routine_of}
use Rattle.sv_eval.specs.declared.stopped.Stopped.{Stopped}
use Rattle.sv_stack.specs.declared.effect.Effect.{Effect as Own_effect}
use Rattle.sv_stack.specs.declared.frames.Frame.{Frame}
use Rattle.sv_stack.specs.declared.went.Went.{Went}
use Rattle.sv_stack.specs.Effects.{Leaves, Does, effects_of}
use Rattle.sv_process.specs.Parts.{stmt_run, writes}

-- ---- what is built of a design is built of its statements

routine_built : (rs : List Routine) (n : ℕ) → AllByRecursion IsBuiltRoutine rs → AllByRecursion IsBuiltStmt (slice_index_or rs n no_routine).body
routine_built [] n h = tt
routine_built (r ∷ rs) zero h = h.0.body
routine_built (r ∷ rs) (suc n) h = routine_built rs n h.1

each_built : (ss : List Stmt) (n : ℕ) (s : Stmt) → AllByRecursion IsBuiltStmt ss → slice_get ss n ≡ Some s → IsBuiltStmt s
each_built [] n s h g = absurd (cc)
each_built (t ∷ ss) zero s h g = subst IsBuiltStmt (the_same g) h.0
  where
    the_same : {a b : Stmt} → Some a ≡ Some b → a ≡ b
    the_same h = cc
each_built (t ∷ ss) (suc n) s h g = each_built ss n s h.1 g

pub stmt_built : (d : Parts) (p : Position) (s : Stmt) → IsBuilt d → stmt_at d p ≡ Some s → IsBuiltStmt s
stmt_built d p s h at = each_built (body_of d p.routine) p.place s (routine_built d.routines p.routine.0 h.each_routine) at

pub form_built : (d : Parts) (p : Position) (s : Stmt) → IsBuilt d → stmt_at d p ≡ Some s → IsBuiltForm s.form
form_built d p s h at = (stmt_built d p s h at).built

-- ---- the calls before a statement

call_same : {a b : Call} → Some a ≡ Some b → a ≡ b
call_same h = cc

-- the call that is made next, and those after it
calls_from : (n : ℕ) (cs : List Call) (c : Call) → slice_get cs n ≡ Some c → drop n cs ≡ c ∷ drop (n + 1) cs
calls_from n [] c g = absurd (cc)
calls_from zero (b ∷ cs) c g = ap (λ a. a ∷ cs) (call_same g)
calls_from (suc n) (b ∷ cs) c g = calls_from n cs c g ∙ ap (λ k. c ∷ drop k (b ∷ cs)) (more n)
  where
    more : (n : ℕ) → suc (n + 1) ≡ suc n + 1
    more n = omega arith

-- no call is left
no_calls_from : (n : ℕ) (cs : List Call) → slice_get cs n ≡ None → drop n cs ≡ []
no_calls_from zero [] g = refl
no_calls_from (suc n) [] g = refl
no_calls_from zero (c ∷ cs) g = cc
no_calls_from (suc n) (c ∷ cs) g = no_calls_from n cs g

-- a statement whose calls were made does what its form says
pub form_first : {A : Type 0} (d : Parts) (l : Looks) (p : ProcessId) (next : Name) (s : Stmt) (n : ℕ) (outer hidden scope : Option Name) (v : View) (rest : List Todo)
    (r : Result A Stopped) (fs : List Frame) (es : List Own_effect) → slice_get s.calls n ≡ None → scope ≡ seen_from outer hidden → l scope ≡ v
    → Does d r fs es (stmt_run d p next outer scope v s s.form rest) → Does d r fs es (statement_run d l p next s (drop n s.calls) outer hidden rest)
form_first d l p next s n outer hidden scope v rest r fs es none from see h =
    subst (λ cs. Does d r fs es (statement_run d l p next s cs outer hidden rest)) (sym (no_calls_from n s.calls none))
    (by_hidden hidden from)
  where
    by_hidden : (hidden : Option Name) → scope ≡ seen_from outer hidden → Does d r fs es (statement_run d l p next s [] outer hidden rest)
    by_hidden None from =
        subst (λ k. Does d r fs es (stmt_run d p next outer k (l k) s s.form rest)) from (subst (λ w. Does d r fs es (stmt_run d p next outer scope w s s.form rest)) (sym see) h)
    by_hidden (Some m) from =
        subst (λ k. Does d r fs es (stmt_run d p next outer k (l k) s s.form rest)) from (subst (λ w. Does d r fs es (stmt_run d p next outer scope w s s.form rest)) (sym see) h)

-- another call before a statement
pub next_call : {A : Type 0} (d : Parts) (l : Looks) (p : ProcessId) (next : Name) (at : Position) (s : Stmt) (c : Call) (n : ℕ) (outer : Option Name) (m : Name) (v : View)
    (rest : List Todo) (r : Result A Stopped) (fs : List Frame) (es : List Own_effect) → stmt_at d at ≡ Some s → slice_get s.calls n ≡ Some c → l (Some m) ≡ v
    → Does d r fs es (called d p (site_of s c v (Some m) next (left_after (stmt_at d at) (Some n) outer (Some m) ++ rest)) c.form)
    → Does d r fs es (statement_run d l p next s (drop n s.calls) outer (Some m) rest)
next_call d l p next at s c n outer m v rest r fs es here number see h =
    subst (λ cs. Does d r fs es (statement_run d l p next s cs outer (Some m) rest)) (sym (calls_from n s.calls c number))
    (subst (λ w. Does d r fs es (called d p (site_of s c w (Some m) next (Do s (drop (n + 1) s.calls) outer (Some m) ∷ rest)) c.form)) (sym see)
    (subst (λ o. Does d r fs es (called d p (site_of s c v (Some m) next (left_after o (Some n) outer (Some m) ++ rest)) c.form)) here h))

-- the first call before a statement, inside the activation that is made for it
first_made : (d : Parts) (l : Looks) (p : ProcessId) (next : Name) (at : Position) (s : Stmt) (c : Call) (n : ℕ) (outer : Option Name) (v : View) (rest : List Todo)
    (w : Went) (fs : List Frame) (es : List Own_effect) → stmt_at d at ≡ Some s → slice_get s.calls n ≡ Some c → l outer ≡ v
    → Enter (types_at d (entered.Hidden at)) outer
    ∷ called d p (site_of s c (just_inside next v) (Some next) (record next { place = next.place + 1 }) (left_after (stmt_at d at) (Some n) outer (Some next) ++ rest)) c.form
    ≡ effects_of d w fs es
    → statement_run d l p next s (drop n s.calls) outer None rest ≡ effects_of d w fs es
first_made d l p next at s c n outer v rest w fs es here number see told =
    ap (λ cs. statement_run d l p next s cs outer None rest) (calls_from n s.calls c number)
    ∙ (λ i. Enter (types_hidden (sym here i)) outer
    ∷ called d p (site_of s c (just_inside next (see i)) (Some next) (record next { place = next.place + 1 }) (left_after (sym here i) (Some n) outer (Some next) ++ rest)) c.form)
    ∙ told

pub first_call : {A : Type 0} (d : Parts) (l : Looks) (p : ProcessId) (next : Name) (at : Position) (site : Own_site) (s : Stmt) (c : Call) (n : ℕ) (outer : Option Name) (v : View)
    (rest : List Todo) (r : Result A Stopped) (w : Went) (fs : List Frame) (es told_es : List Own_effect)
    → site ≡ record { at = at; number = Some n; outer = outer; caller = Some next; next = record next { place = next.place + 1 } }
    → stmt_at d at ≡ Some s → slice_get s.calls n ≡ Some c → l outer ≡ v
    → ((all : Effects) → Does d r fs es all → Enter (types_at d (entered.Hidden at)) site.outer ∷ all ≡ effects_of d w fs told_es)
    → Does d r fs es (called d p (site_of s c (just_inside next v) site.caller site.next (left_after (stmt_at d site.at) site.number site.outer site.caller ++ rest)) c.form)
    → statement_run d l p next s (drop n s.calls) outer None rest ≡ effects_of d w fs told_es
first_call d l p next at site s c n outer v rest r w fs es told_es is here number see told h =
    first_made d l p next at s c n outer v rest w fs told_es here number see
    (subst (λ (t : Own_site). Enter (types_at d (entered.Hidden at)) t.outer
    ∷ called d p (site_of s c (just_inside next v) t.caller t.next (left_after (stmt_at d t.at) t.number t.outer t.caller ++ rest)) c.form ≡ effects_of d w fs told_es) is
    (told (called d p (site_of s c (just_inside next v) site.caller site.next (left_after (stmt_at d site.at) site.number site.outer site.caller ++ rest)) c.form) h))

-- ---- what comes first

pub stmt_first : (d : Parts) (l : Looks) (p : ProcessId) (next : Name) (handed : Option Message) (at : Position) (scope : Option Name) (s : Stmt) (ts : List Todo)
    → stmt_at d at ≡ Some s → IsFirst d (frame.Rest at scope) ts → run_first d l p next handed ts ≡ statement_run d l p next s (drop 0 s.calls) scope None (drop 1 ts)
stmt_first d l p next handed at scope s ts here comes = ap (run_first d l p next handed) (comes s here)

pub stmt_no_end : (d : Parts) (at : Position) (scope : Option Name) (s : Stmt) (ts : List Todo) → stmt_at d at ≡ Some s → IsFirst d (frame.Rest at scope) ts
    → open_calls (drop 1 ts) ≡ open_calls ts
stmt_no_end d at scope s ts here comes = sym (ap open_calls (comes s here))

pub loop_first : (d : Parts) (l : Looks) (p : ProcessId) (next : Name) (handed : Option Message) (at : Position) (scope : Option Name) (s : Stmt) (ts : List Todo)
    → stmt_at d at ≡ Some s → IsFirst d (frame.Loop at scope) ts → run_first d l p next handed ts ≡ statement_run d l p next s (drop 0 s.calls) scope None (drop 1 ts)
loop_first d l p next handed at scope s ts here comes = ap (run_first d l p next handed) (comes s here)

pub loop_no_end : (d : Parts) (at : Position) (scope : Option Name) (s : Stmt) (ts : List Todo) → stmt_at d at ≡ Some s → IsFirst d (frame.Loop at scope) ts
    → open_calls (drop 1 ts) ≡ open_calls ts
loop_no_end d at scope s ts here comes = sym (ap open_calls (comes s here))

pub called_first : (d : Parts) (l : Looks) (p : ProcessId) (next : Name) (handed : Option Message) (at : Position) (n : ℕ) (outer hidden : Option Name) (s : Stmt) (ts : List Todo)
    → stmt_at d at ≡ Some s → IsFirst d (frame.Called at n outer hidden) ts
    → run_first d l p next handed ts ≡ statement_run d l p next s (drop n s.calls) outer hidden (drop 1 ts)
called_first d l p next handed at n outer hidden s ts here comes = ap (run_first d l p next handed) (comes s here)

pub called_no_end : (d : Parts) (at : Position) (n : ℕ) (outer hidden : Option Name) (s : Stmt) (ts : List Todo) → stmt_at d at ≡ Some s
    → IsFirst d (frame.Called at n outer hidden) ts → open_calls (drop 1 ts) ≡ open_calls ts
called_no_end d at n outer hidden s ts here comes = sym (ap open_calls (comes s here))

pub end_first : (d : Parts) (l : Looks) (p : ProcessId) (next : Name) (handed : Option Message) (at : Position) (n : Option ℕ) (callee caller : Option Name) (s : Stmt) (c : Call)
    (r : RoutineId) (as' : List Argument) (u : Subroutine) (inner outer : View) (ts : List Todo)
    → stmt_at d at ≡ Some s → call_in s n ≡ Some c → c.form ≡ call.Routine r None as' → (routine_of d r).subroutine ≡ Some u
    → IsFirst d (frame.Leave at n callee caller) ts → l callee ≡ inner → l caller ≡ outer
    → run_first d l p next handed ts ≡ left (return_of u as' c.result callee caller) inner outer (drop 1 ts)
end_first d l p next handed at n callee caller s c r as' u inner outer ts here number is found comes see saw =
    ap (run_first d l p next handed) (comes s c r as' u here number is found) ∙ (λ i. left (return_of u as' c.result callee caller) (see i) (saw i) (drop 1 ts))

pub turns_first : (d : Parts) (l : Looks) (p : ProcessId) (next : Name) (handed : Option Message) (at : Position) (n : ℕ) (scope : Option Name) (s : Stmt) (e : Expr) (body : RoutineId)
    (ts : List Todo) (fs : List Frame) (es : List Own_effect)
    → stmt_at d at ≡ Some s → s.form ≡ form.Repeat e body → IsFirst d (frame.Turns at n scope) ts
    → Leaves d fs es (repeated d s.at n body scope (drop 1 ts)) → Leaves d fs es (run_first d l p next handed ts)
turns_first d l p next handed at n scope s e body ts fs es here is comes h =
    subst (λ us. Leaves d fs es (run_first d l p next handed us)) (sym (comes s e body here is)) h

-- the next element of a walk
pub elements_first : (d : Parts) (l : Looks) (p : ProcessId) (next name : Name) (handed : Option Message) (at : Position) (n : ℕ) (scope : Option Name) (s : Stmt)
    (b : Bounds) (body : RoutineId) (ts : List Todo) (fs : List Frame) (es : List Own_effect)
    → stmt_at d at ≡ Some s → s.form ≡ form.ForeachElement b body → IsFirst d (frame.Elements at n scope) ts → name ≡ name_or next scope
    → Leaves d fs es (element_turn d s b body n name (drop 1 ts) []) → Leaves d fs es (run_first d l p next handed ts)
elements_first d l p next name handed at n scope s b body ts fs es here is comes named h =
    subst (λ us. Leaves d fs es (run_first d l p next handed us)) (sym (comes s here))
    (subst (λ f. Leaves d fs es (element_on d l p next s f n scope (drop 1 ts))) (sym is)
    (subst (λ m. Leaves d fs es (element_turn d s b body n m (drop 1 ts) [])) named h))

pub put_first : (d : Parts) (l : Looks) (p : ProcessId) (next : Name) (handed : Option Message) (scope : Option Name) (v : View) (at : Position) (x : Val) (s : Stmt)
    (to : List Lvalue) (e delay : Expr) (in_ticks : Bool) (ts : List Todo) {A : Type 0} (r : Result A Stopped) (fs : List Frame) (es : List Own_effect)
    → stmt_at d at ≡ Some s → s.form ≡ form.AssignAfter to e delay in_ticks → l scope ≡ v → IsFirst d (frame.Put at x scope) ts
    → Does d r fs es (from_result (spots_of to v) (λ ss. writes (drop 1 ts) to ss x)) → Does d r fs es (run_first d l p next handed ts)
put_first d l p next handed scope v at x s to e delay in_ticks ts r fs es here is see comes h =
    subst (λ us. Does d r fs es (run_first d l p next handed us)) (sym (comes s to e delay in_ticks here is))
    (subst (λ w. Does d r fs es (from_result (spots_of to w) (λ ss. writes (drop 1 ts) to ss x))) (sym see) h)

-- the children of a fork
pub children_first : (d : Parts) (l : Looks) (p : ProcessId) (next : Name) (handed : Option Message) (at : Position) (scope : Option Name) (s : Stmt) (vs : List Declared)
    (initializers : Option RoutineId) (children : List RoutineId) (join : JoinKind) (ts : List Todo) (fs : List Frame) (es : List Own_effect)
    → stmt_at d at ≡ Some s → s.form ≡ form.Fork vs initializers children join → IsFirst d (frame.Children at scope) ts
    → Leaves d fs es (spawn children join scope (drop 1 ts) []) → Leaves d fs es (run_first d l p next handed ts)
children_first d l p next handed at scope s vs initializers children join ts fs es here is comes h =
    subst (λ us. Leaves d fs es (run_first d l p next handed us)) (sym (comes s vs initializers children join here is)) h

-- ---- the place of what comes first

-- the place of the first
abbrev pub place_first : List Todo → Place
place_first ts = unwrap_or (place_of_step ts) no_place

pub place_of_stmt : (d : Parts) (at : Position) (scope : Option Name) (s : Stmt) (ts : List Todo) → stmt_at d at ≡ Some s → IsFirst d (frame.Rest at scope) ts → s.at ≡ place_first ts
place_of_stmt d at scope s ts here comes = sym (ap place_first (comes s here))

pub place_of_loop : (d : Parts) (at : Position) (scope : Option Name) (s : Stmt) (ts : List Todo) → stmt_at d at ≡ Some s → IsFirst d (frame.Loop at scope) ts → s.at ≡ place_first ts
place_of_loop d at scope s ts here comes = sym (ap place_first (comes s here))

pub place_of_turns : (d : Parts) (at : Position) (n : ℕ) (scope : Option Name) (s : Stmt) (e : Expr) (body : RoutineId) (ts : List Todo)
    → stmt_at d at ≡ Some s → s.form ≡ form.Repeat e body → IsFirst d (frame.Turns at n scope) ts → s.at ≡ place_first ts
place_of_turns d at n scope s e body ts here is comes = sym (ap place_first (comes s e body here is))

pub place_of_elements : (d : Parts) (at : Position) (n : ℕ) (scope : Option Name) (s : Stmt) (ts : List Todo) → stmt_at d at ≡ Some s
    → IsFirst d (frame.Elements at n scope) ts → s.at ≡ place_first ts
place_of_elements d at n scope s ts here comes = sym (ap place_first (comes s here))

pub place_of_put : (d : Parts) (at : Position) (x : Val) (scope : Option Name) (s : Stmt) (to : List Lvalue) (e delay : Expr) (in_ticks : Bool) (ts : List Todo)
    → stmt_at d at ≡ Some s → s.form ≡ form.AssignAfter to e delay in_ticks → IsFirst d (frame.Put at x scope) ts → s.at ≡ place_first ts
place_of_put d at x scope s to e delay in_ticks ts here is comes = sym (ap place_first (comes s to e delay in_ticks here is))

pub place_of_children : (d : Parts) (at : Position) (scope : Option Name) (s : Stmt) (vs : List Declared) (initializers : Option RoutineId) (children : List RoutineId)
    (join : JoinKind) (ts : List Todo)
    → stmt_at d at ≡ Some s → s.form ≡ form.Fork vs initializers children join → IsFirst d (frame.Children at scope) ts → s.at ≡ place_first ts
place_of_children d at scope s vs initializers children join ts here is comes = sym (ap place_first (comes s vs initializers children join here is))

pub place_of_called : (d : Parts) (at : Position) (n : ℕ) (outer hidden : Option Name) (s : Stmt) (ts : List Todo) → stmt_at d at ≡ Some s
    → IsFirst d (frame.Called at n outer hidden) ts → s.at ≡ place_first ts
place_of_called d at n outer hidden s ts here comes = sym (ap place_first (comes s here))

pub place_of_end : (d : Parts) (at : Position) (n : Option ℕ) (callee caller : Option Name) (s : Stmt) (c : Call) (r : RoutineId) (as' : List Argument) (u : Subroutine)
    (ts : List Todo) → stmt_at d at ≡ Some s → call_in s n ≡ Some c → c.form ≡ call.Routine r None as' → (routine_of d r).subroutine ≡ Some u
    → IsFirst d (frame.Leave at n callee caller) ts → s.at ≡ place_first ts
place_of_end d at n callee caller s c r as' u ts here number is found comes = sym (ap place_first (comes s c r as' u here number is found))
