-- What the declarations of a scope break.
use Rattle.std.proofs.Common.{◌≡◌, List, [], refl}
use Rattle.sv_names.specs.declared.scope.Scope.{Scope}
use Rattle.sv_names.specs.Blocks.{scope_stands}
use Rattle.sv_names.specs.Checked.{◌where_also◌}
use Rattle.sv_names.specs.Entries.{Entry, twice}
use Rattle.sv_names.specs.Scopes.{known_stand}
use Rattle.sv_elab_scope.specs.Repeated.{of_rule}

-- E5, and the rules of each declaration
pub scope_is : (s : Scope) (es : List Entry) → (twice (of_rule 5) [] es where_also known_stand s.known) ≡ scope_stands s es
scope_is s es = refl
