-- Which declarations need which others directly.
use Rattle.std.specs.Prelude.{Bool, false, List, [], ◌∷◌, Option, Some, None}
use Rattle.sv_names.specs.declared.checked.Checked.{Checked}
use Rattle.sv_names.specs.declared.named.Named.{Named}
use Rattle.sv_names.specs.Types.{Path}
use Rattle.sv_names.specs.Named.{Around}
use Rattle.sv_names.specs.Rounds.{does_wait}
use Rattle.sv_names.specs.Groups.{Group}
use Rattle.sv_elab_scope.specs.declared.declared.Entry.{Entry}
use Rattle.sv_elab_scope.specs.declared.ids.RowId.{RowId}
use Rattle.sv_elab_scope.specs.declared.loops.Needed.{Needed}
use Rattle.sv_elab_scope.specs.Settling.{Meant, evaluated}
use Rattle.sv_elab_scope.specs.Ids.{ids_from}
use Rattle.sv_elab_scope.specs.Changes.{Others, changed}

-- whether a declaration was evaluated, and waits
abbrev pub is_waiting : Option (Checked Named) → Bool
is_waiting None = false
is_waiting (Some c) = does_wait c

-- the same of the declarations of a scope
abbrev pub still_at : List (Option (Checked Named)) → List Bool
still_at [] = []
still_at (v ∷ vs) = is_waiting v ∷ still_at vs

-- of several scopes
abbrev pub still_in : List (List (Option (Checked Named))) → List (List Bool)
still_in [] = []
still_in (vs ∷ vss) = still_at vs ∷ still_in vss

-- those that waited, and wait still over what is known
abbrev pub waiting_over : Meant → Around → Path → List (List Entry) → List (List Bool) → Group → List RowId
waiting_over meant ar p ess mss g = ids_from 0 ess (still_in (evaluated meant false ar p ess mss g))

-- each of several, with those that wait where all others are tried
abbrev pub needed_from : Meant → Around → Path → List (List Entry) → List (List Bool) → List RowId → Group → List Needed
needed_from meant ar p ess mss [] g = []
needed_from meant ar p ess mss (x ∷ xs) g =
    record { one = x; by = waiting_over meant ar p ess mss (changed (Others x) ess mss g) }
    ∷ needed_from meant ar p ess mss xs (changed (Others x) ess mss g)

-- the group with the values that they were tried with last
abbrev pub left_over : List (List Entry) → List (List Bool) → List RowId → Group → Group
left_over ess mss [] g = g
left_over ess mss (x ∷ xs) g = left_over ess mss xs (changed (Others x) ess mss g)
