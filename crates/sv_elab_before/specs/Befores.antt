-- What stands before the statements of a subroutine (IEEE 1800-2017, 8.7 and 8.15).
use Rattle.std.specs.Prelude.{true, map}
use Rattle.sv_tree.specs.UnitView.{class_item}
use Rattle.sv_names.specs.declared.around.Returns.TheVariants.{NoValue}
use Rattle.sv_names.specs.declared.scope.Scope.{Scope}
use Rattle.sv_names.specs.Named.{Around}
use Rattle.sv_names.specs.Subroutines as subroutines
use Rattle.sv_names.specs.Subroutines.{nothing_before, constructor_before, in_body}
use Rattle.sv_elab_before.specs.declared.befores.Before.{Before}
use Rattle.sv_elab_before.specs.declared.befores.Before.TheVariants as before
use Rattle.sv_elab_before.specs.Supers.{opening_in}

-- what stands there
abbrev pub before_in : Around → Before → subroutines.Before
before_in ar before.Nothing = nothing_before
before_in ar (before.Construction k is at o) = constructor_before ar k.now (map class_item is.now) at (opening_in o)

-- in a constructor with this scope
abbrev pub construction : Around → Scope → Around
construction ar s = in_body ar s true true true NoValue
