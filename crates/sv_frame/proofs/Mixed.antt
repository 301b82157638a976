-- The law is false of a design that no text gives: its program has a process on the Active side, whose end no process of the Reactive side can see.
use Rattle.std.proofs.Common.{ℕ, ◌≡◌, true, false, [], ◌∷◌, List, refl, ap, subst, sym, ◌∙◌, map, filter, inl, inr}
use Rattle.std.specs.Prelude.{◌⊎◌, Bool, Option, Some, None, slice_get, is_some}
use Rattle.sv_value.specs.declared.number.ProcessId.{ProcessId}
use Rattle.sv_value.specs.declared.place.Place.{Place}
use Rattle.sv_value.specs.declared.place.RunFault.{RunFault}
use Rattle.sv_value.specs.declared.val.Plain.{Plain}
use Rattle.sv_value.specs.declared.val.Plain.TheVariants as plain
use Rattle.sv_value.specs.declared.schedule.Side.{Side}
use Rattle.sv_value.specs.declared.schedule.Side.TheVariants.{Active, Reactive}
use Rattle.sv_value.specs.Vector.{vector, symbols_of, word_of}
use Rattle.sv_flat.specs.declared.choices.Choices.TheVariants.{Listed}
use Rattle.sv_flat.specs.declared.object.ObjectKind.TheVariants as kind
use Rattle.sv_flat.specs.declared.object.DataType.TheVariants as type
use Rattle.sv_flat.specs.declared.object.Home.TheVariants as home
use Rattle.sv_flat.specs.declared.process.Process.{Process}
use Rattle.sv_flat.specs.declared.process.ProcessKind.TheVariants as process
use Rattle.sv_flat.specs.declared.class.Routine.{Routine}
use Rattle.sv_flat.specs.declared.stmt.Form.{Form}
use Rattle.sv_flat.specs.declared.stmt.Form.TheVariants as form
use Rattle.sv_flat.specs.declared.target.Base.TheVariants as base
use Rattle.sv_flat.specs.declared.design.Parts.{Parts}
use Rattle.sv_flat.specs.Expr as expr
use Rattle.sv_flat.specs.State.{Store, Elements, Activation, Heap}
use Rattle.sv_flat.specs.Opening.{empty_world}
use Rattle.sv_flat.specs.Process.{ProcessState, Do, Running}
use Rattle.sv_value.specs.declared.word.Sym.TheVariants.{One}
use Rattle.sv_value.specs.declared.val.Val.TheVariants as val
use Rattle.sv_flat.specs.Config.{Config, Clock, Strobe, Monitor, side_of}
use Rattle.sv_flat.specs.Steps.{IsLegal}
use Rattle.sv_flat.specs.Directed.{directed}
use Rattle.sv_flat.specs.Laws.{IsReached, on_side, of_side, strobe_of, SameReach, MeetsActivations, SameStep, Frames, Frame, step_before_wakes}
use Rattle.sv_flat.proofs.Opens.{directed_legal, ends_directed}

abbrev here : Place
here = record { file = 0; line = 1; col = 1 }

abbrev one_bit : Plain
one_bit = plain.Integral (record { width = 1; signed = false; four_state = false })

-- `bit x;`, read and written
abbrev x : expr.Expr
x = expr.Object here (record { 0 = 0 }) (type.Plain one_bit)

abbrev x_is : expr.Expr → Form
x_is e = form.Assign (record { at = here; through = None; base = base.Object (record { 0 = 0 }); part = None; ty = type.Plain one_bit } ∷ []) e

abbrev body : Form → Routine
body f = record { at = here; body = record { at = here; hidden = []; calls = []; form = f } ∷ []; subroutine = None }

abbrev initial : Side → Option ℕ → ℕ → Process
initial s program n = record { at = here; path = []; kind = process.Initial; side = s; program = program; body = record { 0 = n }; watched = [] }

-- a program with `initial #x;` on the Active side and `initial ;` on the Reactive one, and a module with `initial x = 1;`
abbrev mixed : Parts
mixed = record {
  objects =
      record {
        at = here;
        path = [];
        kind = kind.Variable;
        ty = type.Plain one_bit;
        array = None;
        range = None;
        home = home.Module;
        is_port = false;
        is_property = false;
        is_traced = true;
        initial = None;
      }
      ∷ [];
  processes = initial Active (Some 0) 0 ∷ initial Reactive (Some 0) 1 ∷ initial Active None 2 ∷ [];
  classes = [];
  routines = body (form.Delay x true) ∷ body form.Null ∷ body (x_is (expr.Literal (vector false (symbols_of 1 1 0)) None)) ∷ [];
  clockings = [];
  instances = [];
  scale = record { unit = 6; precision = 6 };
}

-- after so many steps of the run that these numbers direct
abbrev reached_by : List ℕ → ℕ → Config
reached_by ns n = directed mixed (Listed ns) (Listed []) n

is_reached : (ns : List ℕ) (n : ℕ) → IsReached mixed (reached_by ns n)
is_reached ns n =
    let h = ends_directed mixed (Listed ns) (Listed []) n in
    (h.0, subst (IsLegal mixed) h.1 (directed_legal mixed (Listed ns) (Listed []) n))

-- the process of the Active side was first and has ended, or was second and waits
abbrev over : Config
over = reached_by [] 9

abbrev waiting : Config
waiting = reached_by (1 ∷ []) 6

abbrev second : ProcessId
second = record { 0 = 1 }

-- `x` is 1
abbrev ones : Store
ones = Elements (val.Bits (vector false (One ∷ [])) ∷ []) ∷ []

-- the process of the Reactive side is to do its null statement
abbrev running : ProcessState
running = record {
  side = Reactive;
  program = Some 0;
  parent = None;
  latest = Running;
  rest = Do (record { at = here; hidden = []; calls = []; form = form.Null }) [] None None ∷ [];
  made = 0;
  was_taken = true;
  handed = None;
}

over_store : over.store ≡ ones
unfolding symbols_of word_of
over_store = refl

waiting_store : waiting.store ≡ ones
unfolding symbols_of word_of
waiting_store = refl

-- what the Reactive side sees, but for the store
abbrev Seen : Type 0
Seen = ℕ × List (Option ProcessState) × List Activation × Heap × List Clock × List Strobe × Option Monitor

abbrev seen_parts : Config → Seen
seen_parts c = (c.time, map (on_side Reactive) c.processes, filter (of_side Reactive c) c.activations, c.heap, c.clocks, filter (strobe_of Reactive) c.strobes, c.monitor)

abbrev shown : Seen
shown = (0, None ∷ Some running ∷ None ∷ [], [], empty_world.heap, [], [], None)

over_seen : seen_parts over ≡ shown
unfolding symbols_of word_of
over_seen = refl

waiting_seen : seen_parts waiting ≡ shown
unfolding symbols_of word_of
waiting_seen = refl

same_reach : SameReach mixed Reactive over waiting
same_reach =
    let same : seen_parts over ≡ seen_parts waiting = over_seen ∙ sym waiting_seen in
    record {
      time = ap (λ (v : Seen). v.0) same;
      processes = ap (λ (v : Seen). v.1) same;
      activations = ap (λ (v : Seen). v.2) same;
      heap = ap (λ (v : Seen). v.3) same;
      clocks = ap (λ (v : Seen). v.4) same;
      strobes = ap (λ (v : Seen). v.5) same;
      monitor = ap (λ (v : Seen). v.6) same;
      objects = λ o n. ap (λ (s : Store). slice_get s o.0) (over_store ∙ sym waiting_store);
    }

-- whether it runs, meets a fault, or `$finish` ran
abbrev Standing : Type 0
Standing = Option ProcessId × Option RunFault × Bool

abbrev standing_parts : Config → Standing
standing_parts c = (c.running, c.fault, c.finishing)

over_runs : standing_parts over ≡ (Some second, None, false)
unfolding symbols_of word_of
over_runs = refl

waiting_runs : standing_parts waiting ≡ (Some second, None, false)
unfolding symbols_of word_of
waiting_runs = refl

over_side : side_of over second ≡ Reactive
unfolding symbols_of word_of
over_side = refl

-- at its end the program is over in the one, and not in the other
over_ends : standing_parts (step_before_wakes mixed second over) ≡ (None, None, true)
unfolding symbols_of word_of
over_ends = refl

waiting_ends : standing_parts (step_before_wakes mixed second waiting) ≡ (None, None, false)
unfolding symbols_of word_of
waiting_ends = refl

-- so the law does not hold of all designs
pub not_of_all : Frame → ⊥
not_of_all frame = by_outcome (frames.outcome)
  where
    frames : Frames mixed second over waiting
    frames =
        frame mixed second over waiting (is_reached [] 9) (is_reached (1 ∷ []) 6)
        (record { running = ap (λ (v : Standing). v.0) over_runs; going = ap (λ (v : Standing). is_some v.1) over_runs })
        (record { running = ap (λ (v : Standing). v.0) waiting_runs; going = ap (λ (v : Standing). is_some v.1) waiting_runs })
        (subst (λ s. SameReach mixed s over waiting) (sym over_side) same_reach)

    no_fault : (c : Config) → c.fault ≡ None → MeetsActivations c → ⊥
    no_fault c e m = let z : Some m.0 ≡ None = sym m.1 ∙ e in absurd (cc)

    by_outcome : MeetsActivations (step_before_wakes mixed second over) ⊎ (MeetsActivations (step_before_wakes mixed second waiting)
        ⊎ SameStep mixed (side_of over second) over waiting (step_before_wakes mixed second over) (step_before_wakes mixed second waiting)) → ⊥
    by_outcome (inl m) = no_fault (step_before_wakes mixed second over) (ap (λ (v : Standing). v.1) over_ends) m
    by_outcome (inr (inl m)) = no_fault (step_before_wakes mixed second waiting) (ap (λ (v : Standing). v.1) waiting_ends) m
    by_outcome (inr (inr m)) =
        let before : over.finishing ≡ waiting.finishing = ap (λ (v : Standing). v.2) (over_runs ∙ sym waiting_runs) in
        let z : true ≡ false = sym (ap (λ (v : Standing). v.2) over_ends) ∙ m.finishing before ∙ ap (λ (v : Standing). v.2) waiting_ends in
        absurd (cc)
