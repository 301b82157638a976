-- What all items give, as it stands so far.
use Rattle.std.proofs.Common.{◌≡◌, ◌∙◌, ℕ, List, [], ◌∷◌, ◌++◌, map, refl, sym, ap, append-nil, append_assoc}
use Rattle.std.specs.Prelude.{flat_map}
use Rattle.std.proofs.lemmas.Grind.{flat_map-append}
use Rattle.std.proofs.lemmas.List.{map-append}
use Rattle.sv_flat.specs.declared.object.Object.{Object}
use Rattle.sv_names.specs.Clockings.{MadeClocking}
use Rattle.sv_names.specs.Connections.{Made}
use Rattle.sv_names.specs.Design.{SoFar, all_parts, none_so_far, with_each, with_given, with_clocking, with_process, with_subroutine}
use Rattle.sv_names.specs.Items.{GivenParts}
use Rattle.sv_names.specs.Subroutines.{MadeSubroutine}
use Rattle.sv_names.specs.Types.{Path}
use Rattle.sv_elab_parts.specs.declared.so_far.SoFar as code
use Rattle.sv_elab_parts.specs.Adding.{AddsAll, so_far_in}
use Rattle.sv_elab_whole.specs.Collected.{IsGiven}

-- ---- objects and samples

objects_subroutines : (s : SoFar) (ms : List MadeSubroutine) → (with_each with_subroutine s ms).objects ≡ s.objects
objects_subroutines s [] = refl
objects_subroutines s (m ∷ ms) = objects_subroutines (with_subroutine s m) ms

objects_processes : (s : SoFar) (ms : List Made) → (with_each with_process s ms).objects ≡ s.objects
objects_processes s [] = refl
objects_processes s (m ∷ ms) = objects_processes (with_process s m) ms

objects_clockings : (s : SoFar) (ms : List MadeClocking) → (with_each with_clocking s ms).objects ≡ s.objects
objects_clockings s [] = refl
objects_clockings s (m ∷ ms) = objects_clockings (with_clocking s m) ms

samples_subroutines : (s : SoFar) (ms : List MadeSubroutine) → (with_each with_subroutine s ms).samples ≡ s.samples
samples_subroutines s [] = refl
samples_subroutines s (m ∷ ms) = samples_subroutines (with_subroutine s m) ms

samples_processes : (s : SoFar) (ms : List Made) → (with_each with_process s ms).samples ≡ s.samples
samples_processes s [] = refl
samples_processes s (m ∷ ms) = samples_processes (with_process s m) ms

samples_clockings : (s : SoFar) (ms : List MadeClocking) → (with_each with_clocking s ms).samples ≡ s.samples ++ flat_map (λ m. m.samples) ms
samples_clockings s [] = sym (append-nil s.samples)
samples_clockings s (m ∷ ms) =
    samples_clockings (with_clocking s m) ms ∙ append_assoc s.samples m.samples (flat_map (λ m. m.samples) ms)

-- what an item gives before its subroutines
abbrev first_parts : SoFar → GivenParts → SoFar
first_parts s g = record s { objects = s.objects ++ g.objects; classes = s.classes ++ g.classes }

objects_one : (s : SoFar) (g : GivenParts) → (with_given s g).objects ≡ s.objects ++ g.objects
objects_one s g =
    objects_clockings (with_each with_process (with_each with_subroutine (first_parts s g) g.subroutines) g.processes) g.clockings
    ∙ objects_processes (with_each with_subroutine (first_parts s g) g.subroutines) g.processes
    ∙ objects_subroutines (first_parts s g) g.subroutines

samples_one : (s : SoFar) (g : GivenParts) → (with_given s g).samples ≡ s.samples ++ flat_map (λ m. m.samples) g.clockings
samples_one s g =
    let before : SoFar = with_each with_process (with_each with_subroutine (first_parts s g) g.subroutines) g.processes in
    samples_clockings before g.clockings
    ∙ ap (λ (os : List Object). os ++ flat_map (λ m. m.samples) g.clockings)
    (samples_processes (with_each with_subroutine (first_parts s g) g.subroutines) g.processes
    ∙ samples_subroutines (first_parts s g) g.subroutines)

objects_all : (s : SoFar) (gs : List GivenParts) → (with_each with_given s gs).objects ≡ s.objects ++ flat_map (λ g. g.objects) gs
objects_all s [] = sym (append-nil s.objects)
objects_all s (g ∷ gs) =
    objects_all (with_given s g) gs ∙ ap (λ (os : List Object). os ++ flat_map (λ g. g.objects) gs) (objects_one s g)
    ∙ append_assoc s.objects g.objects (flat_map (λ g. g.objects) gs)

samples_all : (s : SoFar) (gs : List GivenParts)
    → (with_each with_given s gs).samples ≡ s.samples ++ flat_map (λ m. m.samples) (flat_map (λ g. g.clockings) gs)
samples_all s [] = sym (append-nil s.samples)
samples_all s (g ∷ gs) =
    let rest : List Object = flat_map (λ m. m.samples) (flat_map (λ g. g.clockings) gs) in
    samples_all (with_given s g) gs ∙ ap (λ (os : List Object). os ++ rest) (samples_one s g)
    ∙ append_assoc s.samples (flat_map (λ m. m.samples) g.clockings) rest
    ∙ ap (λ (os : List Object). s.samples ++ os) (sym (flat_map-append (λ (m : MadeClocking). m.samples) g.clockings (flat_map (λ g. g.clockings) gs)))

pub objects_given : (n : ℕ) (x : code.SoFar) (gs : List GivenParts) → IsGiven n x gs → x.objects ≡ (all_parts gs).objects
objects_given n x gs given = ap (λ (s : SoFar). s.objects) given.so_far ∙ objects_all (none_so_far n) gs

pub samples_given : (n : ℕ) (x : code.SoFar) (gs : List GivenParts) → IsGiven n x gs
    → x.samples ≡ flat_map (λ m. m.samples) (all_parts gs).clockings
samples_given n x gs given = ap (λ (s : SoFar). s.samples) given.so_far ∙ samples_all (none_so_far n) gs

-- ---- all items

adds_so_far : (x y : code.SoFar) (gs : List GivenParts) → AddsAll x y gs → so_far_in y ≡ with_each with_given (so_far_in x) gs
adds_so_far x y [] is = ap so_far_in is
adds_so_far x y (g ∷ gs) (z, first, rest) =
    adds_so_far z y gs rest ∙ ap (λ (s : SoFar). with_each with_given s gs) first.so_far

adds_classes : (x y : code.SoFar) (gs : List GivenParts) → AddsAll x y gs → y.class_paths ≡ x.class_paths ++ flat_map (λ g. g.class_paths) gs
adds_classes x y [] is = ap (λ (z : code.SoFar). z.class_paths) is ∙ sym (append-nil x.class_paths)
adds_classes x y (g ∷ gs) (z, first, rest) =
    adds_classes z y gs rest ∙ ap (λ (ps : List Path). ps ++ flat_map (λ g. g.class_paths) gs) first.classes
    ∙ append_assoc x.class_paths g.class_paths (flat_map (λ g. g.class_paths) gs)

adds_subroutines : (x y : code.SoFar) (gs : List GivenParts) → AddsAll x y gs
    → y.subroutine_paths ≡ x.subroutine_paths ++ map (λ m. m.path) (flat_map (λ g. g.subroutines) gs)
adds_subroutines x y [] is = ap (λ (z : code.SoFar). z.subroutine_paths) is ∙ sym (append-nil x.subroutine_paths)
adds_subroutines x y (g ∷ gs) (z, first, rest) =
    let more : List MadeSubroutine = flat_map (λ g. g.subroutines) gs in
    adds_subroutines z y gs rest ∙ ap (λ (ps : List Path). ps ++ map (λ m. m.path) more) first.subroutines
    ∙ append_assoc x.subroutine_paths (map (λ m. m.path) g.subroutines) (map (λ m. m.path) more)
    ∙ ap (λ (ps : List Path). x.subroutine_paths ++ ps) (sym (map-append (λ (m : MadeSubroutine). m.path) g.subroutines more))

adds_clockings : (x y : code.SoFar) (gs : List GivenParts) → AddsAll x y gs
    → y.clocking_paths ≡ x.clocking_paths ++ map (λ m. m.path) (flat_map (λ g. g.clockings) gs)
adds_clockings x y [] is = ap (λ (z : code.SoFar). z.clocking_paths) is ∙ sym (append-nil x.clocking_paths)
adds_clockings x y (g ∷ gs) (z, first, rest) =
    let more : List MadeClocking = flat_map (λ g. g.clockings) gs in
    adds_clockings z y gs rest ∙ ap (λ (ps : List Path). ps ++ map (λ m. m.path) more) first.clockings
    ∙ append_assoc x.clocking_paths (map (λ m. m.path) g.clockings) (map (λ m. m.path) more)
    ∙ ap (λ (ps : List Path). x.clocking_paths ++ ps) (sym (map-append (λ (m : MadeClocking). m.path) g.clockings more))

-- all items, behind so many places
pub all_given : (n : ℕ) (x y : code.SoFar) (gs : List GivenParts) → so_far_in x ≡ none_so_far n → x.class_paths ≡ [] → x.subroutine_paths ≡ []
    → x.clocking_paths ≡ [] → AddsAll x y gs → IsGiven n y gs
all_given n x y gs none classes subroutines clockings adds =
    record {
      so_far = adds_so_far x y gs adds ∙ ap (λ (s : SoFar). with_each with_given s gs) none;
      classes = adds_classes x y gs adds ∙ ap (λ (ps : List Path). ps ++ flat_map (λ g. g.class_paths) gs) classes;
      subroutines =
          adds_subroutines x y gs adds ∙ ap (λ (ps : List Path). ps ++ map (λ m. m.path) (flat_map (λ g. g.subroutines) gs)) subroutines;
      clockings =
          adds_clockings x y gs adds ∙ ap (λ (ps : List Path). ps ++ map (λ m. m.path) (flat_map (λ g. g.clockings) gs)) clockings;
    }
