-- The effects of a process's next step depend only on the objects that the head of what it has still to run names, in the scopes that it sees.
use Rattle.std.proofs.Common.{◌≡◌, ℕ, List, [], ◌∷◌, ◌++◌, Option, Some, None, refl, ap}
use Rattle.std.specs.Prelude.{Ok}
use Rattle.sv_value.specs.declared.number.ProcessId.{ProcessId}
use Rattle.sv_value.specs.declared.val.Index.{Index}
use Rattle.sv_value.specs.declared.val.Message.{Message}
use Rattle.sv_flat.specs.declared.class.Variable.{Variable}
use Rattle.sv_flat.specs.declared.class.Variable.TheVariants as variable
use Rattle.sv_flat.specs.declared.stmt.Stmt.{Stmt}
use Rattle.sv_flat.specs.declared.call.Call.{Call}
use Rattle.sv_flat.specs.declared.stmt.Form.{Form}
use Rattle.sv_flat.specs.declared.stmt.Form.TheVariants as form
use Rattle.sv_flat.specs.declared.design.Parts.{Parts}
use Rattle.sv_flat.specs.Expr.{Expr}
use Rattle.sv_flat.specs.State.{View, Name}
use Rattle.sv_flat.specs.Names.{form_exprs, call_exprs, target_exprs, container_exprs}
use Rattle.sv_flat.specs.Eval.{with_result}
use Rattle.sv_flat.specs.Targets.{target_values}
use Rattle.sv_flat.specs.Process.{Todo, Do, Turn, Turns, Walk, Walk_elements, Start_children, Leave, Receive, Put, Output, Given, Nothing, Of_variable, Made, Effect, ProcessState, Enter}
use Rattle.sv_value.specs.Containers.{Container as Contents}
use Rattle.sv_flat.specs.Process.{Held}
use Rattle.sv_flat.specs.Statements.Loops.{walk_turn, next_index, name_or}
use Rattle.sv_flat.specs.Statements.Shared.{from_result, goes_on, written, result_write}
use Rattle.sv_flat.specs.Statements.Routines.{copied_out, given_value, variable_value}
use Rattle.sv_flat.specs.Micro.{Looks, micro, run_first, statement_run, site, first_site, just_inside, variable_inside, name_inside, walked_on, element_on}
use Rattle.sv_flat.proofs.SameSteps.{AllAgree, SameView, called_same, executed_same, spots_same, container_same, received_same}

-- ---- just inside a new activation

inside_agrees : (n : Name) (es : List Expr) (v u : View) → v.name ≡ u.name → AllAgree es v u → AllAgree es (just_inside n v) (just_inside n u)
inside_agrees n [] v u e h = tt
inside_agrees n (x ∷ es) v u e h = (
  record { object = h.0.object; variable = ap variable_inside h.0.variable; name = ap (name_inside n) h.0.name; heap = h.0.heap; now = h.0.now; unit = h.0.unit },
  inside_agrees n es v u e h.1,
)

inside_same : (n : Name) (es : List Expr) (v u : View) → SameView es v u → SameView es (just_inside n v) (just_inside n u)
inside_same n es v u h = record {
  named = inside_agrees n es v u h.name h.named;
  name = ap (name_inside n) h.name;
  unit = h.unit;
  heap = h.heap;
  now = h.now;
}

-- ---- what the head of the rest names

-- two looks that agree on a variable of a subroutine
abbrev pub SameVariable : Variable → Option Name → Looks → Looks → Type 0
SameVariable (variable.Object o) callee look face = (look callee).object o ≡ (face callee).object o
SameVariable (variable.Local i) callee look face = (look callee).variable ≡ (face callee).variable

abbrev pub SameOutputs : List Output → Option Name → Option Name → Looks → Looks → Type 0
SameOutputs [] callee caller look face = Unit {0}
SameOutputs (o ∷ os) callee caller look face =
    SameVariable o.formal callee look face × AllAgree (target_exprs o.targets) (look caller) (face caller) × SameOutputs os callee caller look face

abbrev pub SameGiven : Given → Option Name → Looks → Looks → Type 0
SameGiven (Of_variable x) callee look face = SameVariable x callee look face
SameGiven Nothing callee look face = Unit {0}
SameGiven (Made x) callee look face = Unit {0}

-- the expressions of the call that comes next, or of the statement
abbrev pub stmt_names : Form → List Call → List Expr
stmt_names f [] = form_exprs f
stmt_names f (c ∷ cs) = call_exprs c.form

-- the container of a walk
abbrev pub walk_names : Form → List Expr
walk_names (form.Foreach c t body) = container_exprs c
walk_names f = []

-- what a scope sees agrees on the names of these expressions
abbrev pub SameLook : List Expr → Option Name → Looks → Looks → Type 0
SameLook es n look face = SameView es (look n) (face n)

-- what a statement sees: its hidden variables, once they are there, and all around them
abbrev pub seen_by : (outer hidden : Option Name) → Option Name
seen_by outer None = outer
seen_by outer (Some n) = Some n

-- two looks that agree on what the head names
abbrev pub SameHead : List Todo → Looks → Looks → Type 0
SameHead [] look face = Unit {0}
SameHead (Do s cs outer hidden ∷ rest) look face = SameLook (stmt_names s.form cs) (seen_by outer hidden) look face
SameHead (Turn s scope ∷ rest) look face = SameLook (stmt_names s.form s.calls) scope look face
SameHead (Turns at n body scope ∷ rest) look face = Unit {0}
SameHead (Walk s i outer scope ∷ rest) look face = SameLook (walk_names s.form) outer look face
SameHead (Walk_elements s n scope ∷ rest) look face = Unit {0}
SameHead (Start_children at cs j scope ∷ rest) look face = Unit {0}
SameHead (Leave at r ∷ rest) look face =
    ((look r.caller).name ≡ (face r.caller).name) × SameOutputs r.outputs r.callee r.caller look face × SameGiven r.given r.callee look face
SameHead (Receive at ts w scope ∷ rest) look face = SameLook (target_exprs ts) scope look face
SameHead (Put at ts x scope ∷ rest) look face = SameLook (target_exprs ts) scope look face

module _ (d : Parts) (look face : Looks) (p : ProcessId) (next : Name) where
  run_same : (s : Stmt) (cs : List Call) (outer hidden : Option Name) (rest : List Todo) → SameLook (stmt_names s.form cs) (seen_by outer hidden) look face
      → statement_run d look p next s cs outer hidden rest ≡ statement_run d face p next s cs outer hidden rest
  run_same s [] outer None rest h = executed_same d p (site d look p next s.at outer rest) (look outer) (face outer) s s.form outer h
  run_same s [] outer (Some n) rest h = executed_same d p (site d look p next s.at (Some n) rest) (look (Some n)) (face (Some n)) s s.form outer h
  run_same s (c ∷ cs) outer (Some n) rest h =
      called_same d p (record (site d look p next s.at (Some n) (Do s cs outer (Some n) ∷ rest)) { hidden = c.result }) (look (Some n)) (face (Some n)) c.form h
  run_same s (c ∷ cs) outer None rest h =
      λ i. Enter s.hidden outer
      ∷ called_same d p (first_site d look p next s.at outer c.result (Do s cs outer (Some next) ∷ rest)) (just_inside next (look outer)) (just_inside next (face outer)) c.form
      (inside_same next (call_exprs c.form) (look outer) (face outer) h) i

  variable_same : (x : Variable) (callee : Option Name) → SameVariable x callee look face → variable_value x (look callee) ≡ variable_value x (face callee)
  variable_same (variable.Object o) callee h = λ i. h i 0
  variable_same (variable.Local k) callee h = λ i. h i 0 k

  outputs_same : (os : List Output) (callee caller : Option Name) → (look caller).name ≡ (face caller).name → SameOutputs os callee caller look face
      → copied_out os (look callee) (look caller) ≡ copied_out os (face callee) (face caller)
  outputs_same [] callee caller e h = refl
  outputs_same (o ∷ os) callee caller e h =
      λ i. with_result (spots_same o.targets (look caller) (face caller) e h.1 i) (λ ss.
      with_result (outputs_same os callee caller e h.2 i) (λ ws.
      Ok (written ss (target_values o.targets (variable_same o.formal callee h.0 i)) ++ ws)))

  given_same : (g : Given) (callee : Option Name) → SameGiven g callee look face → given_value g (look callee) ≡ given_value g (face callee)
  given_same Nothing callee h = refl
  given_same (Of_variable x) callee h = variable_same x callee h
  given_same (Made x) callee h = refl

  walk_same : (s : Stmt) (f : Form) (k : Index) (outer scope : Option Name) (rest : List Todo) → SameLook (walk_names f) outer look face
      → walked_on d look p next s f k outer scope rest ≡ walked_on d face p next s f k outer scope rest
  walk_same s (form.Foreach c t body) k outer scope rest h =
      container_same c (look outer) (face outer) turn turn (λ q b. refl) h.named.0 h.heap
    where
      turn : Held → Contents → List Effect
      turn q b = walk_turn d s body (next_index b (Some k)) outer (name_or next scope) rest []
  walk_same s f k outer scope rest h = refl

  element_same : (s : Stmt) (f : Form) (n : ℕ) (scope : Option Name) (rest : List Todo)
      → element_on d look p next s f n scope rest ≡ element_on d face p next s f n scope rest
  element_same s (form.ForeachElement b body) n scope rest = refl
  element_same s f n scope rest = refl

  pub first_same : (handed : Option Message) (rest : List Todo) → SameHead rest look face → run_first d look p next handed rest ≡ run_first d face p next handed rest
  first_same m [] h = refl
  first_same m (Do s cs outer hidden ∷ rest) h = run_same s cs outer hidden rest h
  first_same m (Turn s scope ∷ rest) h = run_same s s.calls scope None rest h
  first_same m (Turns at n body scope ∷ rest) h = refl
  first_same m (Walk s k outer scope ∷ rest) h = walk_same s s.form k outer scope rest h
  first_same m (Walk_elements s n scope ∷ rest) h = element_same s s.form n scope rest
  first_same m (Start_children at cs j scope ∷ rest) h = refl
  first_same m (Leave at r ∷ rest) h =
      λ i. from_result (outputs_same r.outputs r.callee r.caller h.0 h.1 i) (λ ws.
      goes_on rest (ws ++ result_write r.hidden r.caller (given_same r.given r.callee h.2 i)))
  first_same None (Receive at ts w scope ∷ rest) h = refl
  first_same (Some m) (Receive at ts w scope ∷ rest) h =
      received_same ts w m (look scope) (face scope) (λ ws. goes_on rest ws) h.name h.named
  first_same m (Put at ts x scope ∷ rest) h =
      λ i. from_result (spots_same ts (look scope) (face scope) h.name h.named i) (λ ss. goes_on rest (written ss (target_values ts x)))

-- the effects of the next step
pub micro_same : (d : Parts) (look face : Looks) (p : ProcessId) (q : ProcessState) → SameHead q.rest look face → micro d look p q ≡ micro d face p q
micro_same d look face p q h = first_same d look face p (record { process = p; place = q.made }) q.handed q.rest h
