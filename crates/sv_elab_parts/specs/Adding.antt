-- What stands so far of a design, and what an item adds to it.
use Rattle.std.specs.Prelude.{◌≡◌, List, [], ◌∷◌, ◌++◌, map, Result, Ok, Err}
use Rattle.sv_names.specs.declared.checked.Checked.{Checked}
use Rattle.sv_names.specs.declared.checked.Checked.TheVariants.{Good}
use Rattle.sv_names.specs.declared.refusal.Refusal.{Refusal}
use Rattle.sv_names.specs.Checked.{both, given}
use Rattle.sv_names.specs.Design as design
use Rattle.sv_names.specs.Given.{Fails}
use Rattle.sv_names.specs.Items.{GivenParts}
use Rattle.sv_names.specs.Types.{Path}
use Rattle.sv_elab_parts.specs.declared.so_far.SoFar.{SoFar}

-- what stands so far
abbrev pub so_far_in : SoFar → design.SoFar
so_far_in x =
    record {
      objects = x.objects;
      samples = x.samples;
      processes = x.processes;
      classes = x.classes;
      subroutines = x.subroutines;
      routines = x.routines;
      clockings = x.clockings;
      drives = x.drives;
    }

-- the paths of the subroutines and clocking blocks of an item
abbrev pub subroutine_paths_of : GivenParts → List Path
subroutine_paths_of g = map (λ m. m.path) g.subroutines

abbrev pub clocking_paths_of : GivenParts → List Path
clocking_paths_of g = map (λ m. m.path) g.clockings

-- the parts of an item stand behind those before, and their paths
pub record Adds (x x' : SoFar) (g : GivenParts) : Type 0 where
  pub so_far : so_far_in x' ≡ design.with_given (so_far_in x) g
  pub classes : x'.class_paths ≡ x.class_paths ++ g.class_paths
  pub subroutines : x'.subroutine_paths ≡ x.subroutine_paths ++ subroutine_paths_of g
  pub clockings : x'.clocking_paths ≡ x.clocking_paths ++ clocking_paths_of g

-- an item adds its parts, or the first rule that it breaks is told; or memory ran out
abbrev pub Adding : (x x' : SoFar) → Result (Unit {0}) Refusal → Checked GivenParts → Type 0
Adding x x' (Ok u) c = (g : GivenParts) × (c ≡ Good g) × Adds x x' g
Adding x x' (Err e) c = Fails e c

-- the parts of items, one after another
abbrev pub AddsAll : (x x' : SoFar) → List GivenParts → Type 0
AddsAll x x' [] = x' ≡ x
AddsAll x x' (g ∷ gs) = (y : SoFar) × Adds x y g × AddsAll y x' gs

-- items add their parts, or the first rule that they break is told; or memory ran out
abbrev pub AddingAll : (x x' : SoFar) → Result (Unit {0}) Refusal → Checked (List GivenParts) → Type 0
AddingAll x x' (Ok u) c = (gs : List GivenParts) × (c ≡ Good gs) × AddsAll x x' gs
AddingAll x x' (Err e) c = Fails e c

-- one more behind others
abbrev pub behind : Checked (List GivenParts) → Checked GivenParts → Checked (List GivenParts)
behind xs x = given (λ p. p.0 ++ p.1 ∷ []) (both xs x)
