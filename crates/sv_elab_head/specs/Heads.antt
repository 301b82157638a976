-- The scope of a subroutine over what it declares, in the rounds of its unit or after them (IEEE 1800-2017, 13.3, 13.4 and 23.9).
use Rattle.std.specs.Prelude.{Bool, true, false, ◌||◌, List, [], ◌∷◌, ◌++◌, Option}
use Rattle.sv_tree.specs.declared.class.Qualifiers.{Qualifiers}
use Rattle.sv_tree.specs.Units.{Head, Method, Routine}
use Rattle.sv_names.specs.declared.scope.Scope.{Scope}
use Rattle.sv_names.specs.Entries.{Entry, subroutine_is_automatic}
use Rattle.sv_names.specs.Named.{Around}
use Rattle.sv_names.specs.Scopes.{settled_scope, first_scope, makes_activation, all_entries}
use Rattle.sv_names.specs.Types.{Path}

-- a subroutine with the words before it
abbrev pub method_with : Qualifiers → Routine → Method
method_with q r = record { qualifiers = q; routine = r }

-- whether a call makes an activation
abbrev pub enters : Bool → Option Path → Head → List Entry → Bool
enters usual k h es = subroutine_is_automatic usual k h || makes_activation es

-- a scope, after all rounds or before
abbrev pub scope_at : (is_last : Bool) → Around → Path → Option Path → Bool → List Entry → Scope
scope_at true ar p k e es = settled_scope ar p k e es
scope_at false ar p k e es = first_scope ar p k e es

-- the scope of a subroutine with this head over what it declares; `s` is the path of what declares it
abbrev pub scope_over : (is_last : Bool) → Around → Path → Option Path → Head → List Entry → Scope
scope_over l ar s k h es = scope_at l ar (s ++ h.name.text ∷ []) k (enters ar.is_automatic k h es) es

-- the scope of a subroutine
abbrev pub subroutine_at : (is_last : Bool) → Around → Path → Option Path → Method → Scope
subroutine_at l ar s k m = scope_over l ar s k m.routine.head (all_entries ar k m)
