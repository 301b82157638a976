-- What the entries of the stack of a process stand for.
use Rattle.std.specs.Prelude.{ℕ, ◌≡◌, ◌+◌, Bool, true, false, List, [], ◌∷◌, ◌++◌, Option, None, Some, drop, map}
use Rattle.sv_value.specs.declared.place.Place.{Place}
use Rattle.sv_value.specs.declared.number.RoutineId.{RoutineId}
use Rattle.sv_value.specs.declared.val.Val.{Val}
use Rattle.sv_flat.specs.declared.target.Lvalue.{Lvalue}
use Rattle.sv_flat.specs.declared.stmt.Stmt.{Stmt}
use Rattle.sv_flat.specs.declared.stmt.Form.{Form}
use Rattle.sv_flat.specs.declared.stmt.Form.TheVariants as form
use Rattle.sv_flat.specs.declared.call.Argument.{Argument}
use Rattle.sv_flat.specs.declared.call.Call.{Call}
use Rattle.sv_flat.specs.declared.call.CallForm.TheVariants as call
use Rattle.sv_flat.specs.declared.class.Subroutine.{Subroutine}
use Rattle.sv_flat.specs.declared.object.Declared.{Declared}
use Rattle.sv_flat.specs.declared.stmt.JoinKind.{JoinKind}
use Rattle.sv_flat.specs.declared.design.Parts.{Parts}
use Rattle.sv_flat.specs.Expr.{Expr}
use Rattle.sv_flat.specs.State.{View, Name}
use Rattle.sv_flat.specs.Micro.{Looks}
use Rattle.sv_flat.specs.Process.{Todo, Do, Turn, Turns, Walk_elements, Start_children, Leave, Put, routine_of}
use Rattle.sv_flat.specs.Statements.Jumps.{step_of}
use Rattle.sv_built.specs.declared.position.Position.{Position}
use Rattle.sv_built.specs.Positions.{body_of, stmt_at}
use Rattle.sv_stack.specs.Calls.{call_in, called_at, end_at, return_of, seen_from}
use Rattle.sv_stack.specs.declared.frames.Frame.{Frame}
use Rattle.sv_stack.specs.declared.frames.Frame.TheVariants as frame

-- a statement with all of its calls, to run in a scope
abbrev pub to_do : (scope : Option Name) → Stmt → Todo
to_do scope s = Do s s.calls scope None

-- the statements of a routine from a place on
abbrev pub rest_at : Parts → Position → (scope : Option Name) → List Todo
rest_at d p scope = map (to_do scope) (drop p.place (body_of d p.routine))

-- the next test of a loop
abbrev pub turn_at : Option Stmt → (scope : Option Name) → List Todo
turn_at None scope = []
turn_at (Some s) scope = Turn s scope ∷ []

-- so many turns of a `repeat`
abbrev pub turns_of : Place → Form → ℕ → (scope : Option Name) → List Todo
turns_of at (form.Repeat e body) n scope = Turns at n body scope ∷ []
turns_of at f n scope = []

-- so many turns of the `repeat` that stands somewhere
abbrev pub turns_at : Option Stmt → ℕ → (scope : Option Name) → List Todo
turns_at None n scope = []
turns_at (Some s) n scope = turns_of s.at s.form n scope

-- the walk of a `foreach` of a fixed array, after so many elements
abbrev pub elements_at : Option Stmt → ℕ → (scope : Option Name) → List Todo
elements_at None n scope = []
elements_at (Some s) n scope = Walk_elements s n scope ∷ []

-- what is left of an `a = #d e`
abbrev pub put_of : Place → Form → Val → (scope : Option Name) → List Todo
put_of at (form.AssignAfter ts e delay in_ticks) x scope = Put at ts x scope ∷ []
put_of at f x scope = []

-- what is left of the `a = #d e` that stands somewhere
abbrev pub put_at : Option Stmt → Val → (scope : Option Name) → List Todo
put_at None x scope = []
put_at (Some s) x scope = put_of s.at s.form x scope

-- the children of a fork whose initializers have run
abbrev pub children_of : Place → Form → (scope : Option Name) → List Todo
children_of at (form.Fork ts initializers children join) scope = Start_children at children join scope ∷ []
children_of at f scope = []

-- those of the fork that stands somewhere
abbrev pub children_at : Option Stmt → (scope : Option Name) → List Todo
children_at None scope = []
children_at (Some s) scope = children_of s.at s.form scope

-- what an entry stands for
abbrev pub todos_in : Parts → Frame → List Todo
todos_in d (frame.Rest p scope) = rest_at d p scope
todos_in d (frame.Loop p scope) = turn_at (stmt_at d p) scope
todos_in d (frame.Turns p n scope) = turns_at (stmt_at d p) n scope
todos_in d (frame.Elements p n scope) = elements_at (stmt_at d p) n scope
todos_in d (frame.Put p x scope) = put_at (stmt_at d p) x scope
todos_in d (frame.Children p scope) = children_at (stmt_at d p) scope
todos_in d (frame.Called p n outer hidden) = called_at (stmt_at d p) n outer hidden
todos_in d (frame.Leave p n callee caller) = end_at d (stmt_at d p) n callee caller

-- the scope in which the statements of an entry run
abbrev pub scope_in : Frame → Option Name
scope_in (frame.Rest p scope) = scope
scope_in (frame.Loop p scope) = scope
scope_in (frame.Turns p n scope) = scope
scope_in (frame.Elements p n scope) = scope
scope_in (frame.Put p x scope) = scope
scope_in (frame.Children p scope) = scope
scope_in (frame.Called p n outer hidden) = seen_from outer hidden
scope_in (frame.Leave p n callee caller) = callee

-- what a stack stands for, innermost first
abbrev pub todos_of : Parts → List Frame → List Todo
todos_of d [] = []
todos_of d (f ∷ fs) = todos_in d f ++ todos_of d fs

-- whether something is left
abbrev pub is_more : List Todo → Bool
is_more [] = false
is_more (t ∷ ts) = true

-- whether an entry is the rest of a routine
abbrev pub is_rest : Frame → Bool
is_rest (frame.Rest p scope) = true
is_rest f = false

-- the rest from the next place on; all else as it is
abbrev pub passed_in : Frame → Frame
passed_in (frame.Rest p scope) = frame.Rest (record { routine = p.routine; place = p.place + 1 }) scope
passed_in f = f

-- whether the rest of a routine comes first
abbrev pub begins_with_rest : List Frame → Bool
begins_with_rest [] = false
begins_with_rest (f ∷ fs) = is_rest f

-- and from its next place on
abbrev pub passed : List Frame → List Frame
passed [] = []
passed (f ∷ fs) = passed_in f ∷ fs

-- something is left of the first entry
abbrev pub IsSettled : Parts → List Frame → Type 0
IsSettled d [] = Unit {0}
IsSettled d (f ∷ fs) = is_more (todos_in d f) ≡ true

-- this entry comes first of all that is left
abbrev pub IsFirst : Parts → Frame → List Todo → Type 0
IsFirst d (frame.Rest p scope) ts = (s : Stmt) → stmt_at d p ≡ Some s → ts ≡ to_do scope s ∷ drop 1 ts
IsFirst d (frame.Loop p scope) ts = (s : Stmt) → stmt_at d p ≡ Some s → ts ≡ Turn s scope ∷ drop 1 ts
IsFirst d (frame.Turns p n scope) ts =
    (s : Stmt) (e : Expr) (body : RoutineId) → stmt_at d p ≡ Some s → s.form ≡ form.Repeat e body → ts ≡ Turns s.at n body scope ∷ drop 1 ts
IsFirst d (frame.Elements p n scope) ts = (s : Stmt) → stmt_at d p ≡ Some s → ts ≡ Walk_elements s n scope ∷ drop 1 ts
IsFirst d (frame.Put p x scope) ts =
    (s : Stmt) (to : List Lvalue) (e delay : Expr) (in_ticks : Bool) → stmt_at d p ≡ Some s → s.form ≡ form.AssignAfter to e delay in_ticks
    → ts ≡ Put s.at to x scope ∷ drop 1 ts
IsFirst d (frame.Children p scope) ts =
    (s : Stmt) (vs : List Declared) (initializers : Option RoutineId) (children : List RoutineId) (join : JoinKind) → stmt_at d p ≡ Some s
    → s.form ≡ form.Fork vs initializers children join → ts ≡ Start_children s.at children join scope ∷ drop 1 ts
IsFirst d (frame.Called p n outer hidden) ts = (s : Stmt) → stmt_at d p ≡ Some s → ts ≡ Do s (drop n s.calls) outer hidden ∷ drop 1 ts
IsFirst d (frame.Leave p n callee caller) ts =
    (s : Stmt) (c : Call) (r : RoutineId) (as' : List Argument) (u : Subroutine) → stmt_at d p ≡ Some s → call_in s n ≡ Some c
    → c.form ≡ call.Routine r None as' → (routine_of d r).subroutine ≡ Some u → ts ≡ Leave s.at (return_of u as' c.result callee caller) ∷ drop 1 ts

-- ---- scopes

-- each scope sees this
abbrev pub SeesAll : Looks → (Option Name → View) → Type 0
SeesAll look v = (scope : Option Name) → look scope ≡ v scope

-- ---- loops

-- whether an entry is that of a loop
abbrev pub is_turn : Parts → Frame → Bool
is_turn d (frame.Rest p scope) = false
is_turn d (frame.Loop p scope) = is_more (turn_at (stmt_at d p) scope)
is_turn d (frame.Turns p n scope) = is_more (turns_at (stmt_at d p) n scope)
is_turn d (frame.Elements p n scope) = is_more (elements_at (stmt_at d p) n scope)
is_turn d (frame.Put p x scope) = false
is_turn d (frame.Children p scope) = false
is_turn d (frame.Called p n outer hidden) = false
is_turn d (frame.Leave p n callee caller) = false

-- what the loop that stands somewhere does after its body
abbrev pub step_at : Option Stmt → Option RoutineId
step_at None = None
step_at (Some s) = step_of s.form

-- what the loop of an entry does after its body
abbrev pub step_in : Parts → Frame → Option RoutineId
step_in d (frame.Loop p scope) = step_at (stmt_at d p)
step_in d f = None

-- ---- calls

-- whether an entry is the end of a call
abbrev pub is_end : Parts → Frame → Bool
is_end d (frame.Leave p n callee caller) = is_more (end_at d (stmt_at d p) n callee caller)
is_end d f = false

-- one for an entry that ends a call, whether or not the call stands there
abbrev pub ends_in : Frame → ℕ
ends_in (frame.Leave p n callee caller) = 1
ends_in f = 0

-- how many entries end calls
abbrev pub ends_of : List Frame → ℕ
ends_of [] = 0
ends_of (f ∷ fs) = ends_in f + ends_of fs
