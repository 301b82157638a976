-- Declarations that need themselves, by where they stand.
use Rattle.std.specs.Prelude.{ℕ, zero, suc, Bool, List, [], ◌∷◌, ◌++◌, length, if◌then◌else◌}
use Rattle.sv_elab_scope.specs.declared.ids.RowId.{RowId}
use Rattle.sv_elab_scope.specs.declared.loops.Needed.{Needed}
use Rattle.sv_elab_scope.specs.Ids.{among_id, id_if}

-- with one more, unless it is one of them
abbrev pub with_one : RowId → List RowId → List RowId
with_one x found = if among_id x found then found else x ∷ found

-- both, each once
abbrev pub with_new : List RowId → List RowId → List RowId
with_new [] found = found
with_new (x ∷ xs) found = with_new xs (with_one x found)

-- with those that need one, where it is one of them
abbrev pub with_needed : Needed → List RowId → List RowId
with_needed n found = if among_id n.one found then with_new n.by found else found

-- with those that need one of them
abbrev pub grown : List Needed → List RowId → List RowId
grown [] found = found
grown (n ∷ ns) found = grown ns (with_needed n found)

-- with those that need one of them, through any number of others
abbrev pub reached : List Needed → ℕ → List RowId → List RowId
reached ns zero found = found
reached ns (suc k) found = reached ns k (grown ns found)

-- whether one needs itself
abbrev pub is_in_loop : List Needed → Needed → Bool
is_in_loop all n = among_id n.one (reached all (length all) n.by)

-- those that need themselves
abbrev pub in_loops : List Needed → List Needed → List RowId
in_loops all [] = []
in_loops all (n ∷ ns) = id_if (is_in_loop all n) n.one ++ in_loops all ns
