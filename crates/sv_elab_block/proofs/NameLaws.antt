-- The names of a scope, from none on.
use Rattle.std.proofs.Common.{◌≡◌, ◌∙◌, List, [], ◌∷◌, ◌++◌, map, ap}
use Rattle.sv_names.specs.Entries as entries
use Rattle.sv_elab_scope.specs.declared.declared.Entry.{Entry}
use Rattle.sv_elab_scope.specs.Views.{entry_in}
use Rattle.sv_elab_declare.specs.Added.{Added}
use Rattle.sv_elab_declare.proofs.AddedLaws.{added_both, added_after}

-- some names alone
all_named : (es fs : List Entry) (xs : List entries.Entry) → es ≡ [] → Added es fs xs → map entry_in fs ≡ xs
all_named es fs xs none a = a ∙ ap (λ (l : List Entry). map entry_in l ++ xs) none

-- some names, and then others
pub both_named : (es fs gs : List Entry) (xs ys : List entries.Entry) → es ≡ [] → Added es fs xs → Added fs gs ys
    → map entry_in gs ≡ xs ++ ys
both_named es fs gs xs ys none a b = all_named es gs (xs ++ ys) none (added_both es fs gs xs ys a b)

-- one name, and then others
pub one_named : (es fs gs : List Entry) (e : Entry) (ys : List entries.Entry) → es ≡ [] → fs ≡ es ++ e ∷ [] → Added fs gs ys
    → map entry_in gs ≡ entry_in e ∷ ys
one_named es fs gs e ys none is b = all_named es gs (entry_in e ∷ ys) none (added_after es fs gs e ys is b)

-- some names, one more, and then others
pub loop_named : (es fs gs hs : List Entry) (e : Entry) (xs ys : List entries.Entry) → es ≡ [] → Added es fs xs → gs ≡ fs ++ e ∷ []
    → Added gs hs ys → map entry_in hs ≡ xs ++ entry_in e ∷ ys
loop_named es fs gs hs e xs ys none a is b = both_named es fs hs xs (entry_in e ∷ ys) none a (added_after fs gs hs e ys is b)
