-- What functions append that give objects and processes, against their definitions.
use Rattle.std.specs.Prelude.{◌≡◌, List, ◌++◌, Result, Ok, Err}
use Rattle.sv_flat.specs.declared.class.Routine.{Routine}
use Rattle.sv_flat.specs.declared.object.Object.{Object}
use Rattle.sv_flat.specs.declared.process.Process.{Process}
use Rattle.sv_names.specs.declared.checked.Checked.{Checked}
use Rattle.sv_names.specs.declared.checked.Checked.TheVariants.{Good}
use Rattle.sv_names.specs.declared.refusal.Refusal.{Refusal}
use Rattle.sv_names.specs.Connections.{Made}
use Rattle.sv_names.specs.Design.{SoFar, with_each, with_process}
use Rattle.sv_names.specs.Given.{Fails, first_of}
use Rattle.sv_names.specs.Types.{Path}

-- objects behind others, or the first rule that is broken; or memory ran out
abbrev pub AddsObjects : (objects objects' : List Object) → Result (Unit {0}) Refusal → Checked (List Object) → Type 0
AddsObjects os os' (Ok u) c = (xs : List Object) × (c ≡ Good xs) × (os' ≡ os ++ xs)
AddsObjects os os' (Err e) c = Fails e c

-- processes behind others, with their routines and their drivers
pub record AreProcesses (ps ps' : List Process) (routines routines' : List Routine) (before before' : List Path) (ms : List Made)
    : Type 0 where
  pub added : (x : SoFar) → x.processes ≡ ps → x.routines ≡ routines → x.drives ≡ before
      → with_each with_process x ms ≡ record x { processes = ps'; routines = routines'; drives = before' }

-- processes are appended, or the first rule that is broken is told; or memory ran out
abbrev pub AddsProcesses :
    (ps ps' : List Process) → (routines routines' : List Routine) → (before before' : List Path) → Result (Unit {0}) Refusal
    → Checked (List Made) → Type 0
AddsProcesses ps ps' rs rs' b b' (Ok u) c = (ms : List Made) × (c ≡ Good ms) × AreProcesses ps ps' rs rs' b b' ms
AddsProcesses ps ps' rs rs' b b' (Err e) c = Fails e c

-- what two parts answer together
abbrev pub sooner : Result (Unit {0}) Refusal → Result (Unit {0}) Refusal → Result (Unit {0}) Refusal
sooner (Ok u) b = b
sooner (Err e) (Ok u) = Err e
sooner (Err e) (Err f) = Err (first_of e f)
