-- Instances of the flat design, and the scope of the files.
use Rattle.std.specs.Prelude.{List, [], ◌∷◌}
use Rattle.sv_flat.specs.declared.design.Instance.{Instance}
use Rattle.sv_tree.specs.Descriptions.{Description}
use Rattle.sv_names.specs.Groups.{Group, settled_group}
use Rattle.sv_names.specs.Instances.{file_entries, file_heads}
use Rattle.sv_names.specs.Named.{Around}
use Rattle.sv_elab_walk.specs.declared.instance.Inst.{Inst}

-- an instance of the flat design
abbrev pub instance_in : Inst → List Instance
instance_in i = record { path = i.path; is_program = i.unit.is_program } ∷ []

-- the scope of the files, where this stands around them
abbrev pub settled_files : Around → List Description → Group
settled_files ar us = settled_group ar [] (file_entries us) (file_heads us)
