-- Elaboration, step by step.
use Rattle.std.specs.Prelude.{ℕ, List, Option, flat_map}
use Rattle.sv_flat.specs.declared.design.Parts.{Parts}
use Rattle.sv_flat.specs.declared.design.Scale.{Scale}
use Rattle.sv_tree.specs.Descriptions.{Description}
use Rattle.sv_names.specs.declared.checked.Checked.{Checked}
use Rattle.sv_names.specs.Design as design
use Rattle.sv_names.specs.Groups.{Group}
use Rattle.sv_names.specs.Instances.{Walked, file_group}
use Rattle.sv_names.specs.Items.{GivenParts}
use Rattle.sv_names.specs.Types.{Numbers}

-- the paths of all that is given
abbrev pub paths : List GivenParts → design.Paths
paths gs = design.paths_of (design.all_parts gs)

-- the numbers of what is given
abbrev pub numbers_over : Group → List Walked → List GivenParts → Numbers
numbers_over g ws gs = design.numbers_of (flat_map design.instance_of ws) (design.class_infos g ws) (paths gs)

-- the design of what is given with the numbers that are foreseen
abbrev pub numbered_well : Scale → List Description → Group → List Walked → List GivenParts → Checked Parts
numbered_well s us g ws gs = design.numbered_well s us g ws (design.foreseen us ws) gs

-- the design over the scope of the files
abbrev pub with_files : Scale → List Description → Option (List ℕ) → Checked Parts
with_files s us top = design.with_files s us top (file_group design.no_numbers s us)
