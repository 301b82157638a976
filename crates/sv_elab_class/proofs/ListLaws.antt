-- Lists of declarations that are to be settled, one after the other.
use Rattle.std.proofs.Common.{◌≡◌, ℕ, List, [], ◌∷◌, ◌++◌, map, refl, sym, ap, subst, ◌∙◌, append_assoc, append-nil}
use Rattle.sv_names.specs.Entries as entries
use Rattle.sv_names.specs.Entries.{class_entries}
use Rattle.sv_names.specs.Groups.{Head}
use Rattle.sv_names.specs.Rounds.{rows_of}
use Rattle.sv_elab_scope.specs.declared.declared.Entry.{Entry}
use Rattle.sv_elab_scope.specs.Views.{entry_in}
use Rattle.sv_elab_scope.specs.Rows.{rows_at}
use Rattle.sv_elab_scope.specs.Starting.{without_announcements, all_waiting}
use Rattle.sv_elab_scope.proofs.StartLaws.{rows-waiting}
use Rattle.sv_elab_declare.specs.Added.{Added}
use Rattle.sv_elab_class.specs.Lists.{Keeps, AllKeep, members_of, KeepsWith}

-- without announcements, these declarations are to be settled
pub keeps_these : (es kept : List Entry) → kept ≡ without_announcements es → Keeps kept (map entry_in es)
keeps_these es kept is = subst (λ (x : List Entry). Keeps x (map entry_in es)) (sym is) (λ h. sym (rows-waiting h es))

-- so are those that were appended to none
pub keeps_added : (none es kept : List Entry) (names : List entries.Entry) → none ≡ [] → Added none es names → Keeps kept (map entry_in es) → Keeps kept names
keeps_added none es kept names is added keeps =
    subst (λ (x : List entries.Entry). Keeps kept x) (added ∙ ap (λ x. map entry_in x ++ names) is) keeps

-- the declarations of the scope itself
pub keep_own : (own : List Entry) (none lists : List (List Entry)) (es : List entries.Entry) (hs : List Head)
    → none ≡ [] → lists ≡ none ++ own ∷ [] → Keeps own es → KeepsWith lists (es ∷ members_of hs) hs
keep_own own none lists es hs empty is keeps more rest =
    subst (λ (x : List (List Entry)). AllKeep (x ++ more) (es ∷ members_of hs)) (sym (is ∙ ap (λ x. x ++ own ∷ []) empty)) (keeps, rest)

-- those of one class
pub keep_turn : (lists more : List (List Entry)) (members : List Entry) (ess : List (List entries.Entry)) (h : Head) (hs : List Head)
    → KeepsWith lists ess (h ∷ hs) → more ≡ lists ++ members ∷ [] → Keeps members (class_entries h.path h.tree) → KeepsWith more ess hs
keep_turn lists more members ess h hs before is keeps others rest =
    subst (λ (x : List (List Entry)). AllKeep x ess)
    (sym (append_assoc lists (members ∷ []) others) ∙ ap (λ x. x ++ others) (sym is)) (before (members ∷ others) (keeps, rest))

-- those of all
pub keep_all : (lists : List (List Entry)) (ess : List (List entries.Entry)) → KeepsWith lists ess [] → AllKeep lists ess
keep_all lists ess before = subst (λ (x : List (List Entry)). AllKeep x ess) (append-nil lists) (before [] tt)
