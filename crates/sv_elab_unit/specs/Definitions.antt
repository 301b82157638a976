-- Modules and programs as the code has them.
use Rattle.std.specs.Prelude.{ℕ, true, false, List, Option, Some, None, map}
use Rattle.std.specs.Borrow.{Bor}
use Rattle.sv_tree.specs.Descriptions as tree
use Rattle.sv_tree.specs.UnitView.{design_element}
use Rattle.sv_names.specs.Instances as instances
use Rattle.sv_elab_unit.specs.declared.definitions.Definition.{Definition}

-- a module or a program
abbrev pub definition_in : Definition → instances.Definition
definition_in u = record { is_program = u.is_program; element = design_element u.element.now }

-- the module or program that a description is
abbrev pub definition_of : tree.Description → Option instances.Definition
definition_of (tree.Module e) = Some (record { is_program = false; element = e })
definition_of (tree.Program e) = Some (record { is_program = true; element = e })
definition_of (tree.Item i) = None

-- names that are held as references
abbrev pub names_in : List (Bor (List ℕ)) → List (List ℕ)
names_in ns = map (λ n. n.now) ns
