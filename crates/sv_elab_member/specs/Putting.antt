-- What the parts of a class add to what stands so far of a design.
use Rattle.std.specs.Prelude.{◌≡◌, List, [], ◌∷◌, ◌++◌, Result, Ok, Err}
use Rattle.sv_flat.specs.declared.object.Object.{Object}
use Rattle.sv_names.specs.declared.checked.Checked.{Checked}
use Rattle.sv_names.specs.declared.checked.Checked.TheVariants.{Good}
use Rattle.sv_names.specs.declared.refusal.Refusal.{Refusal}
use Rattle.sv_names.specs.Design as design
use Rattle.sv_names.specs.Given.{Fails}
use Rattle.sv_names.specs.Subroutines.{MadeSubroutine}
use Rattle.sv_elab_parts.specs.declared.so_far.SoFar.{SoFar}
use Rattle.sv_elab_parts.specs.Adding.{so_far_in}

-- ---- objects

-- objects stand behind others, or the first rule that is broken is told; or memory ran out
abbrev pub Placing : (os os' : List Object) → Result (Unit {0}) Refusal → Checked (List Object) → Type 0
Placing os os' (Ok u) c = (xs : List Object) × (c ≡ Good xs) × (os' ≡ os ++ xs)
Placing os os' (Err e) c = Fails e c

-- ---- subroutines

-- a subroutine with the objects that it adds
abbrev pub with_routine : design.SoFar → MadeSubroutine → design.SoFar
with_routine s m = record (design.with_subroutine s m) { objects = s.objects ++ m.routine.objects }

-- it stands behind the subroutines before, and its path
pub record Puts (x x' : SoFar) (m : MadeSubroutine) : Type 0 where
  pub so_far : so_far_in x' ≡ with_routine (so_far_in x) m
  pub subroutines : x'.subroutine_paths ≡ x.subroutine_paths ++ m.path ∷ []
  pub classes : x'.class_paths ≡ x.class_paths
  pub clockings : x'.clocking_paths ≡ x.clocking_paths

-- subroutines, one after another
abbrev pub PutsAll : (x x' : SoFar) → List MadeSubroutine → Type 0
PutsAll x x' [] = x' ≡ x
PutsAll x x' (m ∷ ms) = (y : SoFar) × Puts x y m × PutsAll y x' ms

-- subroutines stand there, or the first rule that they break is told; or memory ran out
abbrev pub Putting : (x x' : SoFar) → Result (Unit {0}) Refusal → Checked (List MadeSubroutine) → Type 0
Putting x x' (Ok u) c = (ms : List MadeSubroutine) × (c ≡ Good ms) × PutsAll x x' ms
Putting x x' (Err e) c = Fails e c
