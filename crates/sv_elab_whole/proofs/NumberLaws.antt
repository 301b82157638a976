-- The numbers of parts are the positions of their paths.
use Rattle.std.proofs.Common.{◌≡◌, ◌∙◌, ℕ, suc, List, [], ◌∷◌, ◌++◌, if◌then◌else◌, map, refl, sym, ap, append-nil}
use Rattle.std.specs.Prelude.{◌||◌, ◌-◌, ◌^◌, min, flat_map}
use Rattle.sv_value.specs.declared.number.ClassId.{ClassId}
use Rattle.sv_tree.specs.Descriptions.{Description}
use Rattle.sv_names.specs.declared.around.ClassInfo.{ClassInfo}
use Rattle.sv_names.specs.declared.numbers.Numbers.{Numbers}
use Rattle.sv_names.specs.Design.{no_numbers, derived_ids, program_paths, all_parts, paths_of, foreseen, instance_of}
use Rattle.sv_names.specs.Instances.{Walked}
use Rattle.sv_names.specs.Items.{GivenParts}
use Rattle.sv_names.specs.Named.{in_line, line_of, is_derived}
use Rattle.sv_names.specs.Types.{Path, same_path, position_of}
use Rattle.sv_names.specs.Views.{numbers_in, stands_in, derived_in}
use Rattle.sv_elab_parts.specs.declared.so_far.SoFar.{SoFar}
use Rattle.sv_elab_whole.specs.Collected.{IsGiven}
use Rattle.sv_elab_whole.specs.Numbering.{IsForeseen, line_paths, numbers_by, paths_so_far}
use Rattle.sv_elab_whole.proofs.GivenLaws.{objects_given, samples_given}

-- a path in the line of a class
stands_are : (p : Path) (ks : List ClassInfo) → stands_in p (map (λ k. k.path) ks) ≡ in_line p ks
stands_are p [] = refl
stands_are p (k ∷ ks) = ap (λ b. same_path k.path p || b) (stands_are p ks)

-- the numbers of the classes that are derived from one
derived_are : (n : ℕ) (ks : List ClassInfo) (p : Path) (qs : List Path) → derived_in n p (map (line_paths ks) qs) ≡ derived_ids n ks p qs
derived_are n ks p [] = refl
derived_are n ks p (q ∷ qs) =
    let rest : List ClassId = derived_in (suc n) p (map (line_paths ks) qs) in
    ap (λ b. if b then record { 0 = n } ∷ rest else rest) (stands_are p (line_of ks q))
    ∙ ap (λ (l : List ClassId). if is_derived ks q p then record { 0 = n } ∷ l else l) (derived_are (suc n) ks p qs)

-- over empty lists no part has a number
pub none_are : (n : Numbers) → n.objects ≡ [] → n.classes ≡ [] → n.lines ≡ [] → n.subroutines ≡ [] → n.clockings ≡ [] → n.programs ≡ []
    → numbers_in n ≡ no_numbers
none_are n objects classes lines subroutines clockings programs = λ i.
    record {
      object = λ p. record { 0 = position_of 0 p (objects i) };
      class = λ p. record { 0 = position_of 0 p (classes i) };
      derived = λ p. derived_in 0 p (lines i);
      subroutine = λ p. record { 0 = position_of 0 p (subroutines i) };
      clocking = λ p. record { 0 = position_of 0 p (clockings i) };
      program = λ p. min (position_of 0 p (programs i)) (2 ^ 32 - 1);
    }

-- the numbers of the code are those of the definition
pub numbers_are : (n : Numbers) (ks : List ClassInfo) (ps : List Path) (x : SoFar)
    → n.objects ≡ map (λ o. o.path) x.objects ++ map (λ o. o.path) x.samples → n.classes ≡ x.class_paths
    → n.lines ≡ map (line_paths ks) x.class_paths → n.subroutines ≡ x.subroutine_paths → n.clockings ≡ x.clocking_paths → n.programs ≡ ps
    → numbers_in n ≡ numbers_by ks ps (paths_so_far x)
numbers_are n ks ps x objects classes lines subroutines clockings programs = λ i.
    record {
      object = λ p. record { 0 = position_of 0 p (objects i) };
      class = λ p. record { 0 = position_of 0 p (classes i) };
      derived = λ p. (ap (derived_in 0 p) lines ∙ derived_are 0 ks p x.class_paths) i;
      subroutine = λ p. record { 0 = position_of 0 p (subroutines i) };
      clocking = λ p. record { 0 = position_of 0 p (clockings i) };
      program = λ p. min (position_of 0 p (programs i)) (2 ^ 32 - 1);
    }

-- what stands so far has the paths that the definition gives its parts
pub paths_given : (n : ℕ) (x : SoFar) (gs : List GivenParts) → IsGiven n x gs → paths_so_far x ≡ paths_of (all_parts gs)
paths_given n x gs given = λ i.
    record {
      objects = map (λ o. o.path) (objects_given n x gs given i);
      samples = map (λ o. o.path) (samples_given n x gs given i);
      classes = given.classes i;
      subroutines = given.subroutines i;
      clockings = given.clockings i;
    }

-- the numbers of the code over the paths that are foreseen
pub foreseen_are : (us : List Description) (ws : List Walked) (n : Numbers) → n.objects ≡ (foreseen us ws).objects → n.classes ≡ [] → n.lines ≡ []
    → n.subroutines ≡ (foreseen us ws).subroutines → n.clockings ≡ [] → n.programs ≡ program_paths (flat_map instance_of ws)
    → IsForeseen us ws n
foreseen_are us ws n objects classes lines subroutines clockings programs =
    record {
      objects = objects;
      subroutines = subroutines;
      numbers =
          λ ks i.
          record {
            object = λ p. record { 0 = position_of 0 p ((objects ∙ sym (append-nil (foreseen us ws).objects)) i) };
            class = λ p. record { 0 = position_of 0 p (classes i) };
            derived = λ p. derived_in 0 p (lines i);
            subroutine = λ p. record { 0 = position_of 0 p (subroutines i) };
            clocking = λ p. record { 0 = position_of 0 p (clockings i) };
            program = λ p. min (position_of 0 p (programs i)) (2 ^ 32 - 1);
          };
    }
