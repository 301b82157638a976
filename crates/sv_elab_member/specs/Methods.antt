-- The methods and the constructor of a class, in steps (IEEE 1800-2017, 8.6 and 8.7).
use Rattle.std.specs.Prelude.{List, [], ◌∷◌, Some}
use Rattle.sv_tree.specs.Classes as tree_class
use Rattle.sv_tree.specs.Units.{Method}
use Rattle.sv_names.specs.declared.around.ClassInfo.{ClassInfo}
use Rattle.sv_names.specs.declared.checked.Checked.{Checked}
use Rattle.sv_names.specs.Checked.{each, given}
use Rattle.sv_names.specs.Classes.{joined, method_of, constructor_of}
use Rattle.sv_names.specs.Named.{Around}
use Rattle.sv_names.specs.Subroutines.{MadeSubroutine, made_subroutine, nothing_before}

-- one subroutine
abbrev pub alone : MadeSubroutine → List MadeSubroutine
alone m = m ∷ []

-- a method with its body
abbrev pub method_made : Around → ClassInfo → Method → Checked (List MadeSubroutine)
method_made ar k m = given alone (made_subroutine ar k.path (Some k.path) m m.routine.stmts nothing_before)

-- all methods
abbrev pub all_methods : Around → ClassInfo → List tree_class.ClassItem → Checked (List MadeSubroutine)
all_methods ar k is = joined (each (method_of ar k) is)

-- the constructor
abbrev pub constructor_alone : Around → ClassInfo → List tree_class.ClassItem → Checked (List MadeSubroutine)
constructor_alone ar k is = given alone (constructor_of ar k is is)
