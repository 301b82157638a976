-- What a unit and its classes declare, each in a list of its own, without announcements of classes.
use Rattle.std.specs.Prelude.{◌≡◌, ℕ, List, [], ◌∷◌, ◌++◌, map}
use Rattle.sv_names.specs.Entries as entries
use Rattle.sv_names.specs.Entries.{class_entries}
use Rattle.sv_names.specs.Groups.{Head}
use Rattle.sv_names.specs.Rounds.{rows_of}
use Rattle.sv_elab_scope.specs.declared.declared.Entry.{Entry}
use Rattle.sv_elab_scope.specs.Rows.{rows_at}
use Rattle.sv_elab_scope.specs.Starting.{all_waiting}

-- a list has what is to be settled of these declarations
abbrev pub Keeps : List Entry → List entries.Entry → Type 0
Keeps kept es = (h : ℕ) → rows_at h kept (all_waiting kept) ≡ rows_of h es

-- so it is of each list
abbrev pub AllKeep : List (List Entry) → List (List entries.Entry) → Type 0
AllKeep [] [] = Unit {0}
AllKeep [] (es ∷ ess) = ⊥
AllKeep (kept ∷ lists) [] = ⊥
AllKeep (kept ∷ lists) (es ∷ ess) = Keeps kept es × AllKeep lists ess

-- what the classes declare
abbrev pub members_of : List Head → List (List entries.Entry)
members_of hs = map (λ h. class_entries h.path h.tree) hs

-- what lists keep of the declarations of all classes, by what those to come keep
abbrev pub KeepsWith : List (List Entry) → List (List entries.Entry) → List Head → Type 0
KeepsWith lists ess left = (more : List (List Entry)) → AllKeep more (members_of left) → AllKeep (lists ++ more) ess
