-- Other values of the declarations that waited, while it is sought which of them need themselves.
use Rattle.std.specs.Prelude.{ℕ, suc, Bool, true, false, not, ◌&&◌, List, [], ◌∷◌, Option, Some, None}
use Rattle.sv_names.specs.declared.checked.Checked.{Checked}
use Rattle.sv_names.specs.declared.named.Named.{Named}
use Rattle.sv_names.specs.Checked.{broken_at}
use Rattle.sv_names.specs.Rounds.{waits, tried_value, constant_place}
use Rattle.sv_names.specs.Groups.{Group}
use Rattle.sv_elab_scope.specs.declared.declared.Entry.{Entry}
use Rattle.sv_elab_scope.specs.declared.ids.RowId.{RowId}
use Rattle.sv_elab_scope.specs.declared.changes.Change as code
use Rattle.sv_elab_scope.specs.declared.changes.Change.TheVariants as variants
use Rattle.sv_elab_scope.specs.Views.{entry_in}
use Rattle.sv_elab_scope.specs.Settling.{group_with}
use Rattle.sv_elab_scope.specs.Ids.{same_id, among_id, id_at}

-- what becomes of the declarations that waited
pub data Change : Type 0 where
  -- all but this one are tried
  Others : RowId → Change
  -- these are tried
  Among : List RowId → Change
  Waiting : Change
  -- E7: all are broken
  Unsettled : Change

-- what becomes of them, without references
abbrev pub change_in : code.Change → Change
change_in (variants.Others x) = Others x
change_in (variants.Among is) = Among is.now
change_in variants.Waiting = Waiting
change_in variants.Unsettled = Unsettled

-- a declaration is tried, or waits where it waited
abbrev pub tried_or : Bool → Entry → Bool → Option (Checked Named)
tried_or true e m = Some (tried_value (constant_place (entry_in e)))
tried_or false e true = Some waits
tried_or false e false = None

-- a declaration that waited breaks E7
abbrev pub broken_if : Entry → Bool → Option (Checked Named)
broken_if e true = Some (broken_at 7 e.name.now.at)
broken_if e false = None

-- the new value of a declaration, where it has one
abbrev pub change_of : Change → ℕ → Entry → Bool → Option (Checked Named)
change_of (Others y) h e m = tried_or (m && not (same_id y (id_at h e))) e m
change_of (Among is) h e m = tried_or (among_id (id_at h e) is) e m
change_of Waiting h e m = tried_or false e m
change_of Unsettled h e m = broken_if e m

-- the same of the declarations of a scope
abbrev pub changes_at : Change → ℕ → List Entry → List Bool → List (Option (Checked Named))
changes_at c h [] ms = []
changes_at c h (e ∷ es) [] = []
changes_at c h (e ∷ es) (m ∷ ms) = change_of c h e m ∷ changes_at c h es ms

-- of several scopes, numbered from here on
abbrev pub changes_from : Change → ℕ → List (List Entry) → List (List Bool) → List (List (Option (Checked Named)))
changes_from c h [] mss = []
changes_from c h (es ∷ more) [] = []
changes_from c h (es ∷ more) (ms ∷ mss) = changes_at c h es ms ∷ changes_from c (suc h) more mss

-- a group with other values of the declarations that waited
abbrev pub changed : Change → List (List Entry) → List (List Bool) → Group → Group
changed c ess mss g = group_with g (changes_from c 0 ess mss)
