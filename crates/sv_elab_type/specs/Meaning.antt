-- What declarations stand for, each by itself (IEEE 1800-2017, 6, 7, 8 and 23.2.2).
use Rattle.std.specs.Prelude.{ℕ, Bool, List, [], ◌∷◌, ◌++◌}
use Rattle.sv_tree.specs.declared.word.Name.{Name}
use Rattle.sv_names.specs.declared.checked.Checked.{Checked}
use Rattle.sv_names.specs.declared.named.Named.{Named}
use Rattle.sv_names.specs.declared.named.Named.TheVariants.{Variable, Local, Property, StaticProperty}
use Rattle.sv_names.specs.declared.ty.Ty.{Ty}
use Rattle.sv_names.specs.Declarations.{value_of_entry}
use Rattle.sv_names.specs.Entries.{Entry}
use Rattle.sv_names.specs.Named.{Around}
use Rattle.sv_names.specs.Types.{Path}
use Rattle.sv_elab_scope.specs.declared.declared.Storage.{Storage}
use Rattle.sv_elab_scope.specs.declared.declared.Storage.TheVariants as storage

-- a name in the scope with this path
abbrev pub within : Path → List ℕ → Path
within p x = p ++ x ∷ []

-- what declarations stand for, each by itself
abbrev pub alone : Bool → Around → Path → Entry → Checked Named
alone l ar p e = value_of_entry ar p e e.what

-- a variable, by what holds it
abbrev pub held_by : Path → Storage → Name → Ty → Named
held_by p storage.Static n = Variable (within p n.text)
held_by p storage.Activation n = Local 0 0
held_by p (storage.Object k g) n = Property k.now g n
held_by p (storage.Class k g) n = StaticProperty k.now g (within p n.text)
