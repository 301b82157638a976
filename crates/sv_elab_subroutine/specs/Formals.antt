-- Arguments of subroutines, by the variables that they are (IEEE 1800-2017, 13.3 and 13.5).
use Rattle.std.specs.Prelude.{List, [], ◌∷◌, Option, Some, None}
use Rattle.sv_flat.specs.declared.class.Formal.{Formal}
use Rattle.sv_tree.specs.declared.word.Direction.{Direction}
use Rattle.sv_tree.specs.Types as types
use Rattle.sv_tree.specs.Units.{Argument}
use Rattle.sv_names.specs.declared.scope.Scope.{Scope}
use Rattle.sv_names.specs.Entries.{taken_from}
use Rattle.sv_names.specs.Named.{Around}
use Rattle.sv_names.specs.Subroutines.{argument_formals}

-- an argument, where it is one
abbrev pub formals_in : Option Formal → List Formal
formals_in None = []
formals_in (Some f) = f ∷ []

-- the arguments behind one of this direction
abbrev pub formals_after : Around → Scope → Direction → List Argument → List Formal
formals_after ar s d as' = argument_formals ar s (taken_from d types.Unwritten as')
