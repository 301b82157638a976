-- What the scope of a subroutine declares, put together.
use Rattle.std.proofs.Common.{◌≡◌, true, List, [], ◌∷◌, ◌++◌, Some, map, sym, ap, ◌∙◌, append-nil}
use Rattle.sv_tree.specs.declared.word.Name.{Name}
use Rattle.sv_tree.specs.Units.{Head}
use Rattle.sv_names.specs.Entries as entries
use Rattle.sv_names.specs.Entries.{entry, this_name, The_object_of, items_in_implied, result_type, argument_entries, taken, subroutine_entries, pure_method}
use Rattle.sv_names.specs.Types.{Path}
use Rattle.sv_elab_scope.specs.declared.declared.Entry.{Entry}
use Rattle.sv_elab_scope.specs.Views.{entry_in}
use Rattle.sv_elab_declare.specs.Added.{Added}
use Rattle.sv_elab_declare.proofs.AddedLaws.{added_both}

-- what is appended to nothing is all
pub all_named : (es fs : List Entry) (xs : List entries.Entry) → es ≡ [] → Added es fs xs → map entry_in fs ≡ xs
all_named es fs xs empty added = added ∙ ap (λ l. map entry_in l ++ xs) empty

-- the object, the items and the arguments are all that a pure method declares
pub pure_named : (k : Path) (h : Head) (this : Name) (es fs gs hs : List Entry) → this ≡ this_name h.name.at → es ≡ []
    → Added es fs (entry this (The_object_of k) ∷ []) → Added fs gs (items_in_implied (result_type h))
    → Added gs hs (argument_entries true (taken h)) → map entry_in hs ≡ subroutine_entries true (Some k) (pure_method h)
pure_named k h this es fs gs hs is empty object items arguments =
    let rest = items_in_implied (result_type h) ++ argument_entries true (taken h) in
    all_named es hs (entry this (The_object_of k) ∷ rest) empty
    (added_both es fs hs (entry this (The_object_of k) ∷ []) rest object
    (added_both fs gs hs (items_in_implied (result_type h)) (argument_entries true (taken h)) items arguments))
    ∙ (λ i. entry (is i) (The_object_of k) ∷ (sym (append-nil rest) ∙ sym (append-nil (rest ++ []))) i)
