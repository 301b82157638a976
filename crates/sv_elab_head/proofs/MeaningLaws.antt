-- What declarations of a unit stand for.
use Rattle.std.proofs.Common.{◌≡◌, Bool, true, false, Option, refl}
use Rattle.sv_tree.specs.Types.{WrittenType}
use Rattle.sv_tree.specs.Stmt.{Dimension}
use Rattle.sv_tree.specs.Units.{Method}
use Rattle.sv_names.specs.Declarations.{value_of_entry}
use Rattle.sv_names.specs.Entries.{Entry}
use Rattle.sv_names.specs.Named.{Around}
use Rattle.sv_names.specs.Scopes.{callee_within, head_of, value_of_any}
use Rattle.sv_names.specs.Types.{Path}
use Rattle.sv_elab_scope.specs.declared.declared.Storage.{Storage}
use Rattle.sv_elab_scope.specs.declared.declared.Storage.TheVariants as storage
use Rattle.sv_elab_scope.specs.Views.{variable_in}
use Rattle.sv_elab_head.specs.Heads.{subroutine_at}

-- the head in a round or after all, over its scope
pub head_is : (l : Bool) (ar : Around) (p : Path) (is_pure : Bool) (k : Option Path) (m : Method)
    → callee_within ar (subroutine_at l ar p k m) is_pure k m ≡ head_of l ar p is_pure k m
head_is true ar p is_pure k m = refl
head_is false ar p is_pure k m = refl

-- a variable stands for what it is by itself
pub variable_alone : (l : Bool) (ar : Around) (p : Path) (e : Entry) (s : Storage) (w : WrittenType) (d : Option Dimension)
    → value_of_entry ar p e (variable_in s w d) ≡ value_of_any l ar p e (variable_in s w d)
variable_alone l ar p e storage.Static w d = refl
variable_alone l ar p e storage.Activation w d = refl
variable_alone l ar p e (storage.Object k g) w d = refl
variable_alone l ar p e (storage.Class k g) w d = refl
