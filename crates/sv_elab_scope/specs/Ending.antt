-- The end of the rounds: what waits needs itself, or something that does.
use Rattle.std.specs.Prelude.{Bool, true, false, List, [], ◌∷◌, Option, Some, None, nat_lt}
use Rattle.sv_names.specs.declared.checked.Checked.{Checked}
use Rattle.sv_names.specs.declared.named.Named.{Named}
use Rattle.sv_names.specs.Types.{Path}
use Rattle.sv_names.specs.Named.{Around}
use Rattle.sv_names.specs.Rounds as rounds
use Rattle.sv_names.specs.Rounds.{constant_place}
use Rattle.sv_names.specs.Groups.{Group}
use Rattle.sv_elab_scope.specs.declared.declared.Entry.{Entry}
use Rattle.sv_elab_scope.specs.declared.ids.RowId.{RowId}
use Rattle.sv_elab_scope.specs.declared.loops.Needed.{Needed}
use Rattle.sv_elab_scope.specs.Views.{entry_in}
use Rattle.sv_elab_scope.specs.Rows.{all_known, all_rows, group_over}
use Rattle.sv_elab_scope.specs.Settling.{Meant, prepare_over, evaluated_by, evaluated, group_with, marks_in, waiting_group, group_known}
use Rattle.sv_elab_scope.specs.Ids.{ids_from, among_from}
use Rattle.sv_elab_scope.specs.Changes.{Among, Waiting, Unsettled, changed}
use Rattle.sv_elab_scope.specs.Loops.{in_loops}
use Rattle.sv_elab_scope.specs.Needs.{needed_from, left_over}

-- ---- what callers see

-- a group with all that it declares
abbrev pub settled_group : Meant → Around → Path → List (List Entry) → Group → Group
settled_group meant ar p ess g =
    group_over g
    (rounds.settled (prepare_over ar g) (evaluated_by meant false p) (evaluated_by meant true p) (all_rows ess g))

-- a group with what is known of it after the rounds
abbrev pub first_group : Meant → Around → Path → List (List Entry) → Group → Group
first_group meant ar p ess g =
    group_over g (rounds.known_rows (prepare_over ar g) (evaluated_by meant false p) (all_rows ess g))

-- ---- the same in place

-- what is told of a declaration that was evaluated
abbrev pub told_of : Entry → Option (Checked Named) → Option (Checked Named)
told_of e None = None
told_of e (Some c) = Some (rounds.needs_itself (constant_place (entry_in e)) c)

-- of the declarations of a scope
abbrev pub told_at : List Entry → List (Option (Checked Named)) → List (Option (Checked Named))
told_at es [] = []
told_at [] (v ∷ vs) = []
told_at (e ∷ es) (v ∷ vs) = told_of e v ∷ told_at es vs

-- of several scopes
abbrev pub told_in : List (List Entry) → List (List (Option (Checked Named))) → List (List (Option (Checked Named)))
told_in ess [] = []
told_in [] (vs ∷ vss) = []
told_in (es ∷ more) (vs ∷ vss) = told_at es vs ∷ told_in more vss

-- what is told of some that need themselves, over what is known, and the others as they were
abbrev pub told_over : Meant → Around → Path → List (List Entry) → List (List Bool) → List RowId → Group → Group
told_over meant ar p ess mss is g =
    group_with (changed Waiting ess mss g) (told_in ess (evaluated meant false ar p ess (among_from is 0 ess) g))

-- what needs itself, where all that do are tried
abbrev pub looped : Meant → Around → Path → List (List Entry) → List (List Bool) → List RowId → Group → Group
looped meant ar p ess mss is g =
    told_over meant ar p ess mss is (group_known meant false ar p ess (changed (Among is) ess mss g))

-- what waits after all
abbrev pub none_waits : List (List Entry) → Group → Group
none_waits ess g = changed Unsettled ess (marks_in (all_known g)) g

-- those that need themselves
abbrev pub loops_of : List Needed → List RowId
loops_of ns = in_loops ns ns

-- the end, over which declarations wait, and over what the trials left
abbrev pub ended_over : Meant → Around → Path → List (List Entry) → List (List Bool) → List RowId → Group → Group
ended_over meant ar p ess mss is g =
    none_waits ess (group_known meant true ar p ess (looped meant ar p ess mss is g))

-- the end of the rounds
abbrev pub ended : Meant → Around → Path → List (List Entry) → List (List Bool) → Group → Group
ended meant ar p ess mss g =
    ended_over meant ar p ess mss (loops_of (needed_from meant ar p ess mss (ids_from 0 ess mss) g))
    (left_over ess mss (ids_from 0 ess mss) g)

-- the end, where something waits
abbrev pub ended_if : Bool → Meant → Around → Path → List (List Entry) → Group → Group
ended_if true meant ar p ess g = ended meant ar p ess (marks_in (all_known g)) g
ended_if false meant ar p ess g = g

-- a group after its rounds
abbrev pub ended_group : Meant → Around → Path → List (List Entry) → Group → Group
ended_group meant ar p ess g = ended_if (nat_lt 0 (waiting_group g)) meant ar p ess g
