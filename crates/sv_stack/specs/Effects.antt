-- The effects of a step, as the definitions have them.
use Rattle.std.specs.Prelude.{◌≡◌, Bool, true, false, List, [], ◌∷◌, ◌++◌, Option, None, Some, Result, Ok, Err, map}
use Rattle.sv_value.specs.declared.place.FaultKind.{FaultKind}
use Rattle.sv_flat.specs.declared.stmt.Stmt.{Stmt}
use Rattle.sv_flat.specs.declared.stmt.Form.{Form}
use Rattle.sv_flat.specs.declared.stmt.Form.TheVariants as form
use Rattle.sv_flat.specs.declared.stmt.PrintKind.TheVariants as print
use Rattle.sv_flat.specs.declared.stmt.JoinKind.TheVariants as join
use Rattle.sv_flat.specs.declared.design.Parts.{Parts}
use Rattle.sv_flat.specs.State.{Name}
use Rattle.sv_flat.specs.Eval.{with_result}
use Rattle.sv_flat.specs.Process.{Remain, Enter, Write, Suspend, Resume_at, Update_at, Spawn, Await_children, End_descendants, Print_text, Keep_print, Finish_run, End, Fail}
use Rattle.sv_flat.specs.Process.{Effect, Turn_in_slot, Watches}
use Rattle.sv_flat.specs.Statements.Shared.{Effects, fails}
use Rattle.sv_built.specs.Entered.{types_at}
use Rattle.sv_built.specs.Positions.{stmt_at}
use Rattle.sv_built.specs.Waits.{watches_at}
use Rattle.sv_eval.specs.declared.stopped.Stopped.{Stopped}
use Rattle.sv_eval.specs.declared.stopped.Stopped.TheVariants.{Memory, Fault}
use Rattle.sv_stack.specs.declared.effect.Effect.{Effect as Own_effect}
use Rattle.sv_stack.specs.declared.effect.Effect.TheVariants as effect
use Rattle.sv_stack.specs.declared.frames.Frame.{Frame}
use Rattle.sv_stack.specs.declared.went.Went.{Went}
use Rattle.sv_stack.specs.declared.went.Went.TheVariants as went
use Rattle.sv_stack.specs.Frames.{todos_of}
use Rattle.sv_assign.specs.Places.{Stops, spot_in}

-- what a `$strobe` prints as the slot ends
abbrev pub strobe_of : Form → Effect
strobe_of (form.Print k pieces es) = Keep_print print.Strobe pieces es
strobe_of f = Keep_print print.Strobe [] []

-- what the `$strobe` that stands somewhere prints
abbrev pub strobe_at : Option Stmt → Effect
strobe_at None = Keep_print print.Strobe [] []
strobe_at (Some s) = strobe_of s.form

-- the children of a fork
abbrev pub spawn_of : Form → (scope : Option Name) → Effect
spawn_of (form.Fork ts initializers children join) scope = Spawn children scope join
spawn_of f scope = Spawn [] scope join.None

-- those of the fork that stands somewhere
abbrev pub spawn_at : Option Stmt → (scope : Option Name) → Effect
spawn_at None scope = Spawn [] scope join.None
spawn_at (Some s) scope = spawn_of s.form scope

-- an effect
abbrev pub effect_in : Parts → Own_effect → Effect
effect_in d (effect.Write s x) = Write (spot_in s) x
effect_in d (effect.Enter e around) = Enter (types_at d e) around
effect_in d effect.Turn = Suspend Turn_in_slot
effect_in d (effect.Watch w scope) = Suspend (Watches (watches_at d w) scope)
effect_in d (effect.ResumeAt t) = Resume_at t
effect_in d (effect.UpdateAt t j) = Update_at t j
effect_in d (effect.Spawn p scope) = spawn_at (stmt_at d p) scope
effect_in d effect.AwaitChildren = Await_children
effect_in d effect.EndDescendants = End_descendants
effect_in d (effect.Print t) = Print_text t
effect_in d (effect.Strobe p) = strobe_at (stmt_at d p)
effect_in d effect.Finish = Finish_run
effect_in d effect.End = End
effect_in d (effect.Fail k) = Fail k

-- effects
abbrev pub effects_in : Parts → List Own_effect → Effects
effects_in d es = map (effect_in d) es

-- the effects of a step, by what is left then
abbrev pub effects_of : Parts → Went → List Frame → List Own_effect → Effects
effects_of d went.On fs es = Remain (todos_of d fs) ∷ effects_in d es
effects_of d went.Held fs es = effects_in d es
effects_of d (went.Entered e around) fs es = Enter (types_at d e) around ∷ Remain (todos_of d fs) ∷ effects_in d es
effects_of d (went.EnteredHeld e around) fs es = Enter (types_at d e) around ∷ effects_in d es

-- whether a step left all as it was
abbrev pub is_held : Went → Bool
is_held went.On = false
is_held went.Held = true
is_held (went.Entered e around) = false
is_held (went.EnteredHeld e around) = true

-- a step leaves these entries, and does these effects
abbrev pub Leaves : Parts → List Frame → List Own_effect → Effects → Type 0
Leaves d fs es all = all ≡ Remain (todos_of d fs) ∷ effects_in d es

-- a step is stopped by this fault, or for want of memory
abbrev pub IsStopped : Stopped → Effects → Type 0
IsStopped (Fault k) all = all ≡ fails k
IsStopped Memory all = Unit {0}

-- a step leaves these entries, and does these effects, or it is stopped
abbrev pub Does : {A : Type 0} → Parts → Result A Stopped → List Frame → List Own_effect → Effects → Type 0
Does d (Ok x) fs es all = Leaves d fs es all
Does d (Err e) fs es all = IsStopped e all

-- what stopped a step is a fault
abbrev pub OnFault : Stopped → Type 0 → Type 0
OnFault (Fault k) P = P
OnFault Memory P = Unit {0}

-- where a fault is met, the entries are as they were
abbrev pub IsKept : {A : Type 0} → Result A Stopped → (old new : List Frame) → Type 0
IsKept (Ok x) old new = Unit {0}
IsKept (Err e) old new = OnFault e (new ≡ old)

-- ---- effects behind others

-- effects, unless a fault is met, behind others
abbrev pub behind : Effects → Result Effects FaultKind → Result Effects FaultKind
behind before r = with_result r (λ more. Ok (before ++ more))

-- these effects were put behind the others, or this fault is met, or memory ran out
abbrev pub Puts : {A : Type 0} → Parts → Result A Stopped → (old new : List Own_effect) → Result Effects FaultKind → Type 0
Puts d (Ok x) old new r = behind (effects_in d old) r ≡ Ok (effects_in d new)
Puts d (Err e) old new r = Stops e r
