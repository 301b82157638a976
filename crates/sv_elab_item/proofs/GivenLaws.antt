-- What objects, processes and clocking blocks add.
use Rattle.std.proofs.Common.{◌≡◌, ◌∙◌, List, [], ◌∷◌, ◌++◌, Result, Ok, Err, refl, sym, ap, append-nil}
use Rattle.std.specs.Prelude.{flat_map}
use Rattle.sv_flat.specs.declared.class.Routine.{Routine}
use Rattle.sv_flat.specs.declared.clocking.Clocking.{Clocking}
use Rattle.sv_flat.specs.declared.object.Object.{Object}
use Rattle.sv_flat.specs.declared.process.Process.{Process}
use Rattle.sv_tree.specs.Units as tree
use Rattle.sv_names.specs.declared.checked.Checked.{Checked}
use Rattle.sv_names.specs.declared.checked.Checked.TheVariants.{Good, Broken}
use Rattle.sv_names.specs.declared.refusal.Refusal.{Refusal}
use Rattle.sv_names.specs.Checked.{given}
use Rattle.sv_names.specs.Classes.{joined}
use Rattle.sv_names.specs.Clockings.{MadeClocking, clocking_of}
use Rattle.sv_names.specs.Connections.{Made}
use Rattle.sv_names.specs.Items.{GivenParts, nothing}
use Rattle.sv_names.specs.Named.{Around}
use Rattle.sv_names.specs.Types.{Path}
use Rattle.sv_elab_parts.specs.declared.so_far.SoFar.{SoFar}
use Rattle.sv_elab_parts.specs.Adding.{Adds, Adding, so_far_in}
use Rattle.sv_elab_clocking.specs.Making.{IsClocking}
use Rattle.sv_elab_plain.specs.Adding.{AddsObjects, AreProcesses, AddsProcesses, sooner}
use Rattle.sv_elab_plain.specs.Parts.{only_objects, only_processes, objects_and_processes}
use Rattle.sv_elab_plain.proofs.CheckedLaws.{good_given, good_where, fails_given, fails_left, fails_right, fails_both}

-- ---- objects

objects_are : (x : SoFar) (os' : List Object) (xs : List Object) → os' ≡ x.objects ++ xs
    → Adds x (record x { objects = os' }) (record nothing { objects = xs })
objects_are x os' xs is =
    record {
      so_far = λ i. record (so_far_in x) { objects = is i; classes = sym (append-nil x.classes) i };
      classes = sym (append-nil x.class_paths);
      subroutines = sym (append-nil x.subroutine_paths);
      clockings = sym (append-nil x.clocking_paths);
    }

pub objects_given : (x : SoFar) (os' : List Object) (r : Result (Unit {0}) Refusal) (c : Checked (List Object)) → AddsObjects x.objects os' r c
    → Adding x (record x { objects = os' }) r (only_objects c)
objects_given x os' (Ok u) c (xs, good, is) =
    (record nothing { objects = xs }, ap only_objects good, objects_are x os' xs is)
objects_given x os' (Err e) c fails = fails_given (λ (os : List Object). record nothing { objects = os }) c e fails

-- ---- processes

module _ (x : SoFar) (ps' : List Process) (rs' : List Routine) (ds' : List Path) where
  processes_are : (ms : List Made) → AreProcesses x.processes ps' x.routines rs' x.drives ds' ms
      → Adds x (record x { processes = ps'; routines = rs'; drives = ds' }) (record nothing { processes = ms })
  processes_are ms is =
      let s : _ = record (so_far_in x) { objects = x.objects ++ []; classes = x.classes ++ [] } in
      record {
        so_far =
            (λ i. record (so_far_in x) {
              objects = sym (append-nil x.objects) i;
              classes = sym (append-nil x.classes) i;
              processes = ps';
              routines = rs';
              drives = ds';
            })
            ∙ sym (is.added s refl refl refl);
        classes = sym (append-nil x.class_paths);
        subroutines = sym (append-nil x.subroutine_paths);
        clockings = sym (append-nil x.clocking_paths);
      }

  pub processes_given : (r : Result (Unit {0}) Refusal) (c : Checked (List Made))
      → AddsProcesses x.processes ps' x.routines rs' x.drives ds' r c
      → Adding x (record x { processes = ps'; routines = rs'; drives = ds' }) r (only_processes c)
  processes_given (Ok u) c (ms, good, is) = (record nothing { processes = ms }, ap only_processes good, processes_are ms is)
  processes_given (Err e) c fails = fails_given (λ (ms : List Made). record nothing { processes = ms }) c e fails

-- ---- objects and processes

module _ (x : SoFar) (os' : List Object) (ps' : List Process) (rs' : List Routine) (ds' : List Path) where
  both_are : (xs : List Object) (ms : List Made) → os' ≡ x.objects ++ xs → AreProcesses x.processes ps' x.routines rs' x.drives ds' ms
      → Adds x (record x { objects = os'; processes = ps'; routines = rs'; drives = ds' }) (record nothing { objects = xs; processes = ms })
  both_are xs ms objects is =
      let s : _ = record (so_far_in x) { objects = x.objects ++ xs; classes = x.classes ++ [] } in
      record {
        so_far =
            (λ i. record (so_far_in x) {
              objects = objects i;
              classes = sym (append-nil x.classes) i;
              processes = ps';
              routines = rs';
              drives = ds';
            })
            ∙ sym (is.added s refl refl refl);
        classes = sym (append-nil x.class_paths);
        subroutines = sym (append-nil x.subroutine_paths);
        clockings = sym (append-nil x.clocking_paths);
      }

  abbrev parts_of : List Object × List Made → GivenParts
  parts_of p = record nothing { objects = p.0; processes = p.1 }

  pub both_given : (a b : Result (Unit {0}) Refusal) (c : Checked (List Object)) (d : Checked (List Made)) → AddsObjects x.objects os' a c
      → AddsProcesses x.processes ps' x.routines rs' x.drives ds' b d
      → Adding x (record x { objects = os'; processes = ps'; routines = rs'; drives = ds' }) (sooner a b) (objects_and_processes c d)
  both_given (Ok u) (Ok v) c d (xs, good, is) (ms, fine, are) = (
    parts_of (xs, ms),
    ap (λ (z : Checked (List Object)). objects_and_processes z d) good ∙ ap (λ (z : Checked (List Made)). objects_and_processes (Good xs) z) fine,
    both_are xs ms is are,
  )
  both_given (Ok u) (Err f) c d (xs, good, is) fails = fails_right parts_of xs c d f good fails
  both_given (Err e) (Ok v) c d fails (ms, fine, are) = fails_left parts_of c ms d e fails fine
  both_given (Err e) (Err f) c d fails falls = fails_both parts_of c d e f fails falls

-- ---- clocking blocks

-- the path of a clocking block
pub clocking_path : (ar : Around) (p : Path) (b : tree.ClockingBlock) (m : MadeClocking) → clocking_of ar p b ≡ Good m → m.path ≡ p
clocking_path ar p b m is =
    ap (λ (y : MadeClocking). y.path) (good_given _ _ m (good_where _ _ m (good_where _ _ m (good_where _ _ m is)))).2

pub clocking_added : (x : SoFar) (m : MadeClocking) (p : Path) (k : Clocking) (ds' : List Path) (os' : List Object) → p ≡ m.path
    → IsClocking x.drives ds' x.samples os' k m
    → Adds x (record x {
      samples = os';
      drives = ds';
      clockings = x.clockings ++ k ∷ [];
      clocking_paths = x.clocking_paths ++ p ∷ [];
    }) (record nothing { clockings = m ∷ [] })
clocking_added x m p k ds' os' path is =
    record {
      so_far = λ i. record (so_far_in x) {
        objects = sym (append-nil x.objects) i;
        classes = sym (append-nil x.classes) i;
        samples = is.samples i;
        clockings = x.clockings ++ is.value i ∷ [];
        drives = is.drives i;
      };
      classes = sym (append-nil x.class_paths);
      subroutines = sym (append-nil x.subroutine_paths);
      clockings = ap (λ (q : Path). x.clocking_paths ++ q ∷ []) path;
    }

-- ---- port connections

-- one list of parts after another
pub links_are : (c : Checked (List (List Made))) → only_processes (joined c) ≡ given (λ ms. record nothing { processes = flat_map (λ m. m) ms }) c
links_are (Good ms) = refl
links_are (Broken f) = refl
