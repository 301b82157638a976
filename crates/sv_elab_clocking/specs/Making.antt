-- What functions that make signals and clocking blocks answer, against their definitions.
use Rattle.std.specs.Prelude.{◌≡◌, List, ◌++◌, flat_map, Result, Ok, Err}
use Rattle.sv_flat.specs.declared.clocking.Clocking.{Clocking}
use Rattle.sv_flat.specs.declared.clocking.Signal.{Signal}
use Rattle.sv_flat.specs.declared.object.Object.{Object}
use Rattle.sv_names.specs.declared.checked.Checked.{Checked}
use Rattle.sv_names.specs.declared.checked.Checked.TheVariants.{Good}
use Rattle.sv_names.specs.declared.refusal.Refusal.{Refusal}
use Rattle.sv_names.specs.Clockings.{MadeSignal, MadeClocking, driver_of, signals_after}
use Rattle.sv_names.specs.Given.{Fails}
use Rattle.sv_names.specs.Types.{Path}

-- the nets that signals drive
abbrev pub nets_of : List MadeSignal → List Path
nets_of ms = flat_map (λ m. m.drives) ms

-- a signal behind these drivers, and its own behind them
pub record IsSignal (before before' : List Path) (s : Signal) (m : MadeSignal) : Type 0 where
  pub value : s ≡ m.signal (driver_of before m.drives)
  pub drives : before' ≡ before ++ m.drives

-- a signal, or the first rule that is broken; or memory ran out
abbrev pub EmitsSignal : (before before' : List Path) → Result Signal Refusal → Checked MadeSignal → Type 0
EmitsSignal b b' (Ok s) c = (m : MadeSignal) × (c ≡ Good m) × IsSignal b b' s m
EmitsSignal b b' (Err e) c = Fails e c

-- signals behind others, and their drivers behind those before
pub record AreSignals (before before' : List Path) (list list' : List Signal) (ms : List MadeSignal) : Type 0 where
  pub added : list' ≡ list ++ signals_after before ms
  pub drives : before' ≡ before ++ nets_of ms

-- signals are appended, or the first rule that is broken is told; or memory ran out
abbrev pub AddsSignals :
    (before before' : List Path) → (list list' : List Signal) → Result (Unit {0}) Refusal → Checked (List MadeSignal) → Type 0
AddsSignals b b' xs xs' (Ok u) c = (ms : List MadeSignal) × (c ≡ Good ms) × AreSignals b b' xs xs' ms
AddsSignals b b' xs xs' (Err e) c = Fails e c

-- a clocking block behind these drivers, with its own, and its samples behind the objects
pub record IsClocking (before before' : List Path) (objects objects' : List Object) (x : Clocking) (m : MadeClocking) : Type 0 where
  pub value : x ≡ m.clocking before
  pub drives : before' ≡ before ++ m.drives
  pub samples : objects' ≡ objects ++ m.samples

-- a clocking block, or the first rule that is broken; or memory ran out
abbrev pub EmitsClocking :
    (before before' : List Path) → (objects objects' : List Object) → Result Clocking Refusal → Checked MadeClocking → Type 0
EmitsClocking b b' os os' (Ok x) c = (m : MadeClocking) × (c ≡ Good m) × IsClocking b b' os os' x m
EmitsClocking b b' os os' (Err e) c = Fails e c
