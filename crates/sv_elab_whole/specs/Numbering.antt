-- The numbers of parts, by their paths.
use Rattle.std.specs.Prelude.{◌≡◌, List, [], ◌++◌, ◌-◌, ◌^◌, flat_map, map, min}
use Rattle.sv_tree.specs.Descriptions.{Description}
use Rattle.sv_names.specs.declared.around.ClassInfo.{ClassInfo}
use Rattle.sv_names.specs.declared.numbers.Numbers as code
use Rattle.sv_names.specs.Design.{Paths, derived_ids, foreseen, instance_of, numbers_of}
use Rattle.sv_names.specs.Instances.{Walked}
use Rattle.sv_names.specs.Named.{line_of}
use Rattle.sv_names.specs.Types.{Path, Numbers, position_of}
use Rattle.sv_names.specs.Views.{numbers_in}
use Rattle.sv_elab_parts.specs.declared.so_far.SoFar.{SoFar}

-- the paths of a class and of its bases
abbrev pub line_paths : List ClassInfo → Path → List Path
line_paths ks p = map (λ k. k.path) (line_of ks p)

-- the paths of the parts that stand so far
abbrev pub paths_so_far : SoFar → Paths
paths_so_far x =
    record {
      objects = map (λ o. o.path) x.objects;
      samples = map (λ o. o.path) x.samples;
      classes = x.class_paths;
      subroutines = x.subroutine_paths;
      clockings = x.clocking_paths;
    }

-- those of objects and subroutines, where there is nothing else
abbrev pub plain_paths : (objects subroutines : List Path) → Paths
plain_paths os rs = record { objects = os; samples = []; classes = []; subroutines = rs; clockings = [] }

-- the number of a part is the position of its path
abbrev pub numbers_by : List ClassInfo → (programs : List Path) → Paths → Numbers
numbers_by ks qs ps =
    record {
      object = λ p. record { 0 = position_of 0 p (ps.objects ++ ps.samples) };
      class = λ p. record { 0 = position_of 0 p ps.classes };
      derived = λ p. derived_ids 0 ks p ps.classes;
      subroutine = λ p. record { 0 = position_of 0 p ps.subroutines };
      clocking = λ p. record { 0 = position_of 0 p ps.clockings };
      program = λ p. min (position_of 0 p qs) (2 ^ 32 - 1);
    }

-- the numbers of the parts that are foreseen, whatever classes there are
pub record IsForeseen (us : List Description) (ws : List Walked) (n : code.Numbers) : Type 0 where
  pub objects : n.objects ≡ (foreseen us ws).objects
  pub subroutines : n.subroutines ≡ (foreseen us ws).subroutines
  pub numbers : (ks : List ClassInfo) → numbers_in n ≡ numbers_of (flat_map instance_of ws) ks (foreseen us ws)
