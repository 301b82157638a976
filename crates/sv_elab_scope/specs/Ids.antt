-- Declarations by the scope that they stand in and the place of their name.
use Rattle.std.specs.Prelude.{ℕ, suc, Bool, false, ◌&&◌, ◌||◌, List, [], ◌∷◌, ◌++◌, if◌then◌else◌, ◌==◌}
use Rattle.sv_names.specs.Checked.{same_place}
use Rattle.sv_names.specs.Rounds.{Row}
use Rattle.sv_elab_scope.specs.declared.declared.Entry.{Entry}
use Rattle.sv_elab_scope.specs.declared.ids.RowId.{RowId}

-- whether two declarations are one
abbrev pub same_id : RowId → RowId → Bool
same_id a b = (a.home == b.home) && same_place a.at b.at

-- whether a declaration is one of several
abbrev pub among_id : RowId → List RowId → Bool
among_id x [] = false
among_id x (y ∷ ys) = same_id x y || among_id x ys

-- a row by where it stands
abbrev pub id_of : Row → RowId
id_of r = record { home = r.home; at = r.entry.name.at }

-- a declaration by where it stands
abbrev pub id_at : ℕ → Entry → RowId
id_at h e = record { home = h; at = e.name.now.at }

-- a declaration, if it is sought
abbrev pub id_if : Bool → RowId → List RowId
id_if b x = if b then x ∷ [] else []

-- the marked declarations of a scope
abbrev pub ids_at : ℕ → List Entry → List Bool → List RowId
ids_at h [] ms = []
ids_at h (e ∷ es) [] = []
ids_at h (e ∷ es) (m ∷ ms) = id_if m (id_at h e) ++ ids_at h es ms

-- those of several scopes, numbered from here on
abbrev pub ids_from : ℕ → List (List Entry) → List (List Bool) → List RowId
ids_from h [] mss = []
ids_from h (es ∷ more) [] = []
ids_from h (es ∷ more) (ms ∷ mss) = ids_at h es ms ++ ids_from (suc h) more mss

-- which declarations of a scope are some of several
abbrev pub among_at : List RowId → ℕ → List Entry → List Bool
among_at is h [] = []
among_at is h (e ∷ es) = among_id (id_at h e) is ∷ among_at is h es

-- of several scopes, numbered from here on
abbrev pub among_from : List RowId → ℕ → List (List Entry) → List (List Bool)
among_from is h [] = []
among_from is h (es ∷ more) = among_at is h es ∷ among_from is (suc h) more
