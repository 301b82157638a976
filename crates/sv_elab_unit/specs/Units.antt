-- An index of modules and programs by their names (own).
use Rattle.std.specs.Prelude.{◌≡◌, ℕ, List, option_map, Vec}
use Rattle.std.specs.BTreeMap.{BTreeMap}
use Rattle.sv_names.specs.Instances as instances
use Rattle.sv_names.specs.Index.{at_name}
use Rattle.sv_elab_unit.specs.declared.definitions.Definition.{Definition}
use Rattle.sv_elab_unit.specs.Definitions.{definition_in}

-- an index finds the first unit of each name
abbrev pub Finds : {A : Type 0} → BTreeMap (Vec ℕ A) Definition → List instances.Definition → Type 0
Finds first us = (x : List ℕ) → option_map definition_in (at_name x first) ≡ instances.first_named x us
