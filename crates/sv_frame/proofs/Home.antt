-- What a process has still to run stands in the bodies of its side, so its next step reads what the side names.
use Rattle.std.proofs.Common.{ℕ, zero, suc, ◌≡◌, ◌<◌, List, [], ◌∷◌, Option, None, Some, refl, ap, sym, ◌∙◌, arith, length, map, inl, inr}
use Rattle.std.specs.Prelude.{slice_index_or, unwrap_or}
use Rattle.std.specs.List.{AllByRecursion}
use Rattle.std.proofs.lemmas.Option.{unwrap_or-slice_get}
use Rattle.sv_value.specs.declared.number.ObjId.{ObjId}
use Rattle.sv_value.specs.declared.number.RoutineId.{RoutineId}
use Rattle.sv_value.specs.declared.schedule.Side.{Side}
use Rattle.sv_flat.specs.declared.class.Variable.{Variable}
use Rattle.sv_flat.specs.declared.class.Variable.TheVariants as variable
use Rattle.sv_flat.specs.declared.stmt.Stmt.{Stmt}
use Rattle.sv_flat.specs.declared.stmt.Form.{Form}
use Rattle.sv_flat.specs.declared.stmt.Form.TheVariants as form
use Rattle.sv_flat.specs.declared.call.Call.{Call}
use Rattle.sv_flat.specs.declared.call.CallForm.{CallForm}
use Rattle.sv_flat.specs.declared.design.Parts.{Parts}
use Rattle.sv_flat.specs.Expr.{Expr}
use Rattle.sv_flat.specs.State.{Name, Stored, Elements, element_of, variable_of, name_in}
use Rattle.sv_flat.specs.Names.{Naming, expr_reads, call_exprs, form_exprs, target_exprs, call_routines, form_calls}
use Rattle.sv_flat.specs.Process.{Todo, Do, Turn, Turns, Walk, Walk_elements, Start_children, Leave, Receive, Put, Output, Given, Nothing, Of_variable, Made}
use Rattle.sv_flat.specs.Config.{Config, seen}
use Rattle.sv_flat.specs.Laws.{SameReach, IsNamed}
use Rattle.sv_flat.proofs.SameReads.{Agrees}
use Rattle.sv_flat.proofs.SameSteps.{AllAgree, SameView}
use Rattle.sv_frame.proofs.Scopes.{sides, IsScope, IsEnclosed, out_same}
use Rattle.sv_frame.proofs.Heads.{SameHead, SameVariable, SameOutputs, SameGiven, stmt_names, walk_names, seen_by}
use Rattle.sv_frame.proofs.Ways.{IsIn, in_left, in_right, in_flat_map, in_map}
use Rattle.sv_frame.proofs.Paths.{IsStartOf, IsRoutineOf, IsStmtOf, IsVariableNamed, called_of_side, stmt_named}

-- ---- what is left to run

-- what these expressions read is named by the side
abbrev pub AreNamed : Parts → Side → List Expr → Type 0
AreNamed d s es = (e : Expr) → IsIn e es → (n : Naming) → IsIn n (expr_reads e) → IsNamed d s n.object

-- an output of a call that the side names
abbrev pub IsHomeOutput : Parts → Side → Output → Type 0
IsHomeOutput d s o = IsVariableNamed d s o.formal × AreNamed d s (target_exprs o.targets)

-- what a call gives is a variable that the side names
abbrev pub IsHomeGiven : Parts → Side → Given → Type 0
IsHomeGiven d s (Of_variable x) = IsVariableNamed d s x
IsHomeGiven d s Nothing = Unit {0}
IsHomeGiven d s (Made x) = Unit {0}

-- something left to run that stands in a body of the side, in a scope of the side
abbrev pub IsHome : Parts → List Side → Side → Todo → Type 0
IsHome d ss s (Do t cs outer hidden) = IsStmtOf d s t × AllByRecursion (λ c. IsIn c t.calls) cs × IsScope ss s outer × IsScope ss s hidden
IsHome d ss s (Turn t scope) = IsStmtOf d s t × IsScope ss s scope
IsHome d ss s (Turns at n b scope) = IsRoutineOf d s b × IsScope ss s scope
IsHome d ss s (Walk t i outer scope) = IsStmtOf d s t × IsScope ss s outer × IsScope ss s scope
IsHome d ss s (Walk_elements t n scope) = IsStmtOf d s t × IsScope ss s scope
IsHome d ss s (Start_children at cs j scope) = AllByRecursion (IsRoutineOf d s) cs × IsScope ss s scope
IsHome d ss s (Leave at r) = AllByRecursion (IsHomeOutput d s) r.outputs × IsHomeGiven d s r.given × IsScope ss s r.callee × IsScope ss s r.caller
IsHome d ss s (Receive at ts w scope) = AreNamed d s (target_exprs ts) × IsScope ss s scope
IsHome d ss s (Put at ts x scope) = AreNamed d s (target_exprs ts) × IsScope ss s scope

-- ---- what a statement names

pub form_named : (d : Parts) (s : Side) (t : Stmt) → IsStmtOf d s t → AreNamed d s (form_exprs t.form)
form_named d s t h e i n k = stmt_named d s t h e (in_right e _ (form_exprs t.form) i) n k

pub call_named : (d : Parts) (s : Side) (t : Stmt) → IsStmtOf d s t → (c : Call) → IsIn c t.calls → AreNamed d s (call_exprs c.form)
call_named d s t h c j e i n k =
    stmt_named d s t h e (in_left e _ (form_exprs t.form) (in_flat_map (λ c. call_exprs c.form) c e t.calls j i)) n k

next_named : (d : Parts) (s : Side) (t : Stmt) → IsStmtOf d s t → (cs : List Call) → AllByRecursion (λ c. IsIn c t.calls) cs → AreNamed d s (stmt_names t.form cs)
next_named d s t h [] k = form_named d s t h
next_named d s t h (c ∷ cs) k = call_named d s t h c k.0

walk_named : (d : Parts) (s : Side) (t : Stmt) → IsStmtOf d s t → AreNamed d s (walk_names t.form)
walk_named d s t h = by_form t.form (form_named d s t h)
  where
    by_form : (f : Form) → AreNamed d s (form_exprs f) → AreNamed d s (walk_names f)
    by_form (form.Foreach c ty body) k = k
    by_form f k = λ e i. absurd i

-- what the calls of a statement run
pub stmt_starts : (d : Parts) (s : Side) (t : Stmt) → IsStmtOf d s t → (c : Call) → IsIn c t.calls → (x : RoutineId) → IsIn x (call_routines d c.form) → IsStartOf d s x
stmt_starts d s t h c i = called_of_side d s t h c.form (in_left c.form (map (λ c. c.form) t.calls) (form_calls t.form) (in_map (λ c. c.form) c t.calls i))

-- and the statement itself
pub form_starts : (d : Parts) (s : Side) (t : Stmt) → IsStmtOf d s t → (c : CallForm) → IsIn c (form_calls t.form) → (x : RoutineId) → IsIn x (call_routines d c) → IsStartOf d s x
form_starts d s t h c i = called_of_side d s t h c (in_right c (map (λ c. c.form) t.calls) (form_calls t.form) i)

more_in : {A : Type 0} (y : A) (ys xs : List A) → AllByRecursion (λ x. IsIn x ys) xs → AllByRecursion (λ x. IsIn x (y ∷ ys)) xs
more_in y ys [] h = tt
more_in y ys (x ∷ xs) h = (inr h.0, more_in y ys xs h.1)

pub all_in : {A : Type 0} (xs : List A) → AllByRecursion (λ x. IsIn x xs) xs
all_in [] = tt
all_in (x ∷ xs) = (inl refl, more_in x xs xs (all_in xs))

-- ---- what two configurations with equal reach show of it

in_of : {A : Type 0} (xs : List A) (x : A) (k : ℕ) → k < length xs → slice_index_or xs k x ≡ x → IsIn x xs
in_of [] x k l e = absurd (omega (arith, l))
in_of (y ∷ xs) x zero l e = inl (sym e)
in_of (y ∷ xs) x (suc k) l e = inr (in_of xs x k (omega (arith, l)) e)

module _ (d : Parts) (s : Side) (c e : Config) (r : SameReach d s c e) (ss : List Side) (are : sides c.processes ≡ ss) (around : AllByRecursion (IsEnclosed ss) c.activations) where
  object_same : (o : ObjId) → IsNamed d s o → (seen d c None).object o ≡ (seen d e None).object o
  object_same o h =
      let none : Stored = Elements [] in
      let same : slice_index_or c.store o.0 none ≡ slice_index_or e.store o.0 none =
      sym (unwrap_or-slice_get c.store o.0 none) ∙ ap (λ v. unwrap_or v none) (r.objects o h) ∙ unwrap_or-slice_get e.store o.0 none in
      λ i k. element_of (same i) k

  variables_same : (n : Option Name) → IsScope ss s n → (seen d c n).variable ≡ (seen d e n).variable
  variables_same n h = λ i up k. variable_of (out_same d s c e r ss are around up n h i) k

  names_same : (n : Option Name) → IsScope ss s n → (seen d c n).name ≡ (seen d e n).name
  names_same n h = λ i up. name_in (out_same d s c e r ss are around up n h i)

  expr_agrees : (n : Option Name) → IsScope ss s n → (a : Expr) → ((m : Naming) → IsIn m (expr_reads a) → IsNamed d s m.object) → Agrees (expr_reads a) (seen d c n) (seen d e n)
  expr_agrees n j a h = record {
    object = λ m k. object_same m.object (h m (in_of (expr_reads a) m k.0 k.1 k.2));
    variable = variables_same n j;
    name = names_same n j;
    heap = r.heap;
    now = r.time;
    unit = refl;
  }

  all_agree : (n : Option Name) → IsScope ss s n → (es : List Expr) → AreNamed d s es → AllAgree es (seen d c n) (seen d e n)
  all_agree n j [] h = tt
  all_agree n j (a ∷ es) h = (expr_agrees n j a (h a (inl refl)), all_agree n j es (λ b i. h b (inr i)))

  view_same : (es : List Expr) → AreNamed d s es → (n : Option Name) → IsScope ss s n → SameView es (seen d c n) (seen d e n)
  view_same es h n j = record {
    named = all_agree n j es h;
    name = names_same n j;
    unit = refl;
    heap = r.heap;
    now = r.time;
  }

  seen_scope : (outer hidden : Option Name) → IsScope ss s outer → IsScope ss s hidden → IsScope ss s (seen_by outer hidden)
  seen_scope outer None h k = h
  seen_scope outer (Some n) h k = k

  -- the looks agree on a variable of a subroutine
  variable_seen : (x : Variable) → IsVariableNamed d s x → (n : Option Name) → IsScope ss s n → SameVariable x n (seen d c) (seen d e)
  variable_seen (variable.Object o) h n j = object_same o h
  variable_seen (variable.Local i) h n j = variables_same n j

  outputs_seen : (os : List Output) → AllByRecursion (IsHomeOutput d s) os → (n m : Option Name) → IsScope ss s n → IsScope ss s m → SameOutputs os n m (seen d c) (seen d e)
  outputs_seen [] h n m j k = tt
  outputs_seen (o ∷ os) h n m j k = (variable_seen o.formal h.0.0 n j, all_agree m k (target_exprs o.targets) h.0.1, outputs_seen os h.1 n m j k)

  given_seen : (g : Given) → IsHomeGiven d s g → (n : Option Name) → IsScope ss s n → SameGiven g n (seen d c) (seen d e)
  given_seen (Of_variable x) h n j = variable_seen x h n j
  given_seen Nothing h n j = tt
  given_seen (Made x) h n j = tt

  -- the looks agree on what the head of the rest names
  pub head_same : (rest : List Todo) → AllByRecursion (IsHome d ss s) rest → SameHead rest (seen d c) (seen d e)
  head_same [] h = tt
  head_same (Do t cs outer hidden ∷ rest) h = view_same (stmt_names t.form cs) (next_named d s t h.0.0 cs h.0.1) (seen_by outer hidden) (seen_scope outer hidden h.0.2 h.0.3)
  head_same (Turn t scope ∷ rest) h = view_same (stmt_names t.form t.calls) (next_named d s t h.0.0 t.calls (all_in t.calls)) scope h.0.1
  head_same (Turns at n b scope ∷ rest) h = tt
  head_same (Walk t k outer scope ∷ rest) h = view_same (walk_names t.form) (walk_named d s t h.0.0) outer h.0.1
  head_same (Walk_elements t n scope ∷ rest) h = tt
  head_same (Start_children at cs j scope ∷ rest) h = tt
  head_same (Leave at l ∷ rest) h = (names_same l.caller h.0.3, outputs_seen l.outputs h.0.0 l.callee l.caller h.0.2 h.0.3, given_seen l.given h.0.1 l.callee h.0.2)
  head_same (Receive at ts w scope ∷ rest) h = view_same (target_exprs ts) h.0.0 scope h.0.1
  head_same (Put at ts x scope ∷ rest) h = view_same (target_exprs ts) h.0.0 scope h.0.1
