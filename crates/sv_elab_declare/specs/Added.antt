-- Names that are appended to those of a scope.
use Rattle.std.specs.Prelude.{◌≡◌, Bool, List, [], ◌∷◌, ◌++◌, Option, Some, None, map, option_map}
use Rattle.sv_tree.specs.declared.word.Direction.TheVariants as direction
use Rattle.sv_tree.specs.Types as types
use Rattle.sv_tree.specs.Types.{WrittenType, ImpliedType}
use Rattle.sv_tree.specs.Units.{Argument, Method}
use Rattle.sv_tree.specs.Stmt.{Decl, Declarator}
use Rattle.sv_tree.specs.UnitView.{routine}
use Rattle.sv_names.specs.Types.{Path}
use Rattle.sv_names.specs.Entries as entries
use Rattle.sv_elab_scope.specs.declared.declared.Storage.{Storage}
use Rattle.sv_elab_scope.specs.declared.declared.DeclaredRoutine.{DeclaredRoutine}
use Rattle.sv_elab_scope.specs.declared.declared.Entry.{Entry}
use Rattle.sv_elab_scope.specs.Views.{entry_in, variable_in}

-- the names of a scope are those from before, and these behind them
abbrev pub Added : List Entry → List Entry → List entries.Entry → Type 0
Added before after names = map entry_in after ≡ map entry_in before ++ names

-- a name of a declaration, held so, and the items in its dimension
abbrev pub declarator_names : Storage → WrittenType → Declarator → List entries.Entry
declarator_names h w x = entries.entry x.name (variable_in h w x.dimension) ∷ entries.items_in_dimension x.dimension

-- what a declaration declares where each of its names is held so
abbrev pub held_entries : Storage → Decl → List entries.Entry
held_entries h d = entries.items_in d.of ++ entries.declarator_entries (variable_in h) d.of d.names

-- an argument of this type, and the items in the type that is written for it
abbrev pub argument_names : Bool → ImpliedType → Argument → List entries.Entry
argument_names auto t a = entries.items_in_implied a.of ++ entries.entry a.name (entries.An_argument t auto) ∷ []

-- the type of the argument before
abbrev pub type_before : Option ImpliedType → ImpliedType
type_before None = types.Unwritten
type_before (Some t) = t

-- the arguments behind one of this type, or all of a head
abbrev pub arguments_after : Bool → Option ImpliedType → List Argument → List entries.Entry
arguments_after auto before as' = entries.argument_entries auto (entries.taken_from direction.Input (type_before before) as')

-- the class of a method
abbrev pub class_of : DeclaredRoutine → Option Path
class_of d = option_map (λ p. p.now) d.class

-- a subroutine with the words before it
abbrev pub method_of : DeclaredRoutine → Method
method_of d = record { qualifiers = d.qualifiers; routine = routine d.routine.now }
