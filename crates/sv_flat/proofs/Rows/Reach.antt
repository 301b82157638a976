-- Equal reach alone does not give equal steps: two configurations that no run comes to.
use Rattle.std.proofs.Common.{ℕ, ◌≡◌, true, [], ◌∷◌, List, refl, ap, arith}
use Rattle.std.specs.Prelude.{Some, None}
use Rattle.sv_value.specs.declared.val.Val.TheVariants as val
use Rattle.sv_value.specs.declared.schedule.Side.{Side}
use Rattle.sv_value.specs.declared.schedule.Side.TheVariants.{Active, Reactive}
use Rattle.sv_value.specs.declared.schedule.Phase.TheVariants.{Open}
use Rattle.sv_value.specs.Vector.{vector, symbols_of, word_of}
use Rattle.sv_flat.specs.declared.object.DataType.TheVariants as type
use Rattle.sv_flat.specs.declared.design.Parts.{Parts}
use Rattle.sv_flat.specs.Expr as expr
use Rattle.sv_flat.specs.State.{Name}
use Rattle.sv_flat.specs.Process.{ProcessState, Todo, Do, Running, Effect, Remain, Print_text}
use Rattle.sv_flat.specs.Config.{Config}
use Rattle.sv_flat.specs.Opening.{opening}
use Rattle.sv_flat.specs.Laws.{SameReach, DoesStep, Frames}
use Rattle.sv_flat.proofs.Rows.Kit.{stmt, design, display, int, of, dec}

-- an activation of the first process
abbrev name : Name
name = record { process = record { 0 = 0 }; place = 0 }

-- a process of a side with something left to run
abbrev process : Side → List Todo → ProcessState
process s rest =
    record { side = s; program = None; parent = None; latest = Running; rest = rest; made = 1; was_taken = true; handed = None }

-- `$display("%0d", x);` of a variable of that activation
abbrev printing : Todo
printing = Do (stmt (display (dec ∷ []) (expr.Local 0 0 (type.Plain (of int)) ∷ []))) [] (Some name) None

abbrev nothing : Parts
nothing = design [] [] []

-- a process of a program prints a variable of a process of a module, whose value is this number
abbrev seeing : ℕ → Config
seeing n =
    record (opening nothing) {
      phase = Open;
      running = Some (record { 0 = 1 });
      world = record (opening nothing).world {
        activations = record { name = name; around = None; values = val.Bits (vector true (symbols_of 32 n 0)) ∷ [] } ∷ [];
      };
      processes = process Active [] ∷ process Reactive (printing ∷ []) ∷ [];
    }

-- what the process of the program reaches is the same
same_reach : SameReach nothing Reactive (seeing 1) (seeing 2)
same_reach = record {
  time = refl;
  processes = refl;
  activations = refl;
  heap = refl;
  clocks = refl;
  strobes = refl;
  monitor = refl;
  objects = λ o n. refl;
}

does_step : (n : ℕ) → DoesStep (record { 0 = 1 }) (seeing n)
does_step n = record { running = refl; going = refl }

-- but its steps differ: one prints 1, the other 2
printed : List Effect → ℕ
printed (Remain rest ∷ Print_text (digit ∷ rest_of_text) ∷ es) = digit
printed es = 0

not_framed : Frames nothing (record { 0 = 1 }) (seeing 1) (seeing 2) → ⊥
unfolding symbols_of word_of printed
not_framed f =
    let same : 49 ≡ 50 = ap printed f.effects in
    absurd (omega (arith, same))
