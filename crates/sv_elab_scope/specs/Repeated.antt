-- Names that are declared twice, in the order in which code goes through them.
use Rattle.std.specs.Prelude.{◌≡◌, ℕ, Bool, false, ◌||◌, List, [], ◌∷◌}
use Rattle.sv_names.specs.Entries as names
use Rattle.sv_names.specs.Index.{has_name}
use Rattle.sv_names.specs.Types.{same_bytes}
use Rattle.sv_names.specs.declared.name_set.NameSet.{NameSet}
use Rattle.sv_elab_scope.specs.declared.declared.Entry.{Entry}
use Rattle.sv_elab_scope.specs.declared.repeated.Sort.{Sort}
use Rattle.sv_elab_scope.specs.declared.repeated.Sort.TheVariants.{Announcement, Class, Other}
use Rattle.sv_elab_scope.specs.Views.{entry_in}

-- how a name clashes with another one
abbrev pub sort_in : Sort → names.Sort
sort_in Announcement = names.Announces
sort_in Class = names.Is_class
sort_in Other = names.Is_other

-- whether a declaration clashes with what was seen
abbrev pub clash_of : Entry → List (List ℕ × names.Sort) → Bool
clash_of e seen = names.clashes e.name.now.text (names.sort_of (entry_in e).what) seen

-- a declaration that was seen
abbrev pub seen_of : Entry → List (List ℕ × names.Sort)
seen_of e = (e.name.now.text, names.sort_of (entry_in e).what) ∷ []

-- those that were seen, the first one first
abbrev pub seen_in : List Entry → List (List ℕ × names.Sort)
seen_in [] = []
seen_in (e ∷ es) = (e.name.now.text, names.sort_of (entry_in e).what) ∷ seen_in es

-- whether one of them has a name
abbrev pub is_named : List ℕ → List Entry → Bool
is_named x [] = false
is_named x (e ∷ es) = same_bytes x e.name.now.text || is_named x es

-- a set has their names
abbrev pub HasNames : NameSet → List Entry → Type 0
HasNames s es = (x : List ℕ) → has_name s x ≡ is_named x es

-- the rule that each declaration breaks
abbrev pub of_rule : ℕ → names.Entry → ℕ
of_rule n e = n
