-- Variables, by what holds them.
use Rattle.std.proofs.Common.{◌≡◌, Option, refl}
use Rattle.sv_tree.specs.Types.{WrittenType}
use Rattle.sv_tree.specs.Stmt.{Dimension}
use Rattle.sv_names.specs.Checked.{given}
use Rattle.sv_names.specs.Declarations.{declared_type, value_of_entry}
use Rattle.sv_names.specs.Entries.{Entry}
use Rattle.sv_names.specs.Named.{Around}
use Rattle.sv_names.specs.Types.{Path}
use Rattle.sv_elab_scope.specs.declared.declared.Storage.{Storage}
use Rattle.sv_elab_scope.specs.declared.declared.Storage.TheVariants as storage
use Rattle.sv_elab_scope.specs.Views.{variable_in}
use Rattle.sv_elab_type.specs.Meaning.{held_by}

-- what a variable stands for
pub held_is : (ar : Around) (p : Path) (e : Entry) (s : Storage) (w : WrittenType) (d : Option Dimension)
    → given (held_by p s e.name) (declared_type ar p w d) ≡ value_of_entry ar p e (variable_in s w d)
held_is ar p e storage.Static w d = refl
held_is ar p e storage.Activation w d = refl
held_is ar p e (storage.Object k g) w d = refl
held_is ar p e (storage.Class k g) w d = refl
