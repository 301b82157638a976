-- How appended names are put together.
use Rattle.std.proofs.Common.{◌≡◌, List, [], ◌∷◌, ◌++◌, map, refl, sym, ap, ◌∙◌, append_assoc, append-nil}
use Rattle.sv_names.specs.Entries as entries
use Rattle.sv_elab_scope.specs.declared.declared.Entry.{Entry}
use Rattle.sv_elab_scope.specs.Views.{entry_in}
use Rattle.sv_elab_declare.specs.Added.{Added}

map-joined : (xs ys : List Entry) → map entry_in (xs ++ ys) ≡ map entry_in xs ++ map entry_in ys
map-joined [] ys = refl
map-joined (x ∷ xs) ys = ap (λ es. entry_in x ∷ es) (map-joined xs ys)

-- nothing is appended
pub added_none : (es : List Entry) → Added es es []
added_none es = sym (append-nil (map entry_in es))

-- one name is appended
pub added_one : (es fs : List Entry) (e : Entry) → fs ≡ es ++ e ∷ [] → Added es fs (entry_in e ∷ [])
added_one es fs e is = ap (map entry_in) is ∙ map-joined es (e ∷ [])

-- some are appended, and then others
pub added_both : (es fs gs : List Entry) (xs ys : List entries.Entry) → Added es fs xs → Added fs gs ys → Added es gs (xs ++ ys)
added_both es fs gs xs ys a b = b ∙ ap (λ l. l ++ ys) a ∙ append_assoc (map entry_in es) xs ys

-- one name is appended, and then others
pub added_after : (es fs gs : List Entry) (e : Entry) (ys : List entries.Entry)
    → fs ≡ es ++ e ∷ [] → Added fs gs ys → Added es gs (entry_in e ∷ ys)
added_after es fs gs e ys is b = added_both es fs gs (entry_in e ∷ []) ys (added_one es fs e is) b

-- some are appended, and then one name
pub added_before : (es fs gs : List Entry) (e : Entry) (xs : List entries.Entry)
    → Added es fs xs → gs ≡ fs ++ e ∷ [] → Added es gs (xs ++ entry_in e ∷ [])
added_before es fs gs e xs a is = added_both es fs gs xs (entry_in e ∷ []) a (added_one fs gs e is)

-- what is appended in a turn is what the rest begins with
pub turn_added : (es fs : List Entry) (xs ys : List entries.Entry) → Added es fs xs → map entry_in fs ++ ys ≡ map entry_in es ++ (xs ++ ys)
turn_added es fs xs ys a = ap (λ l. l ++ ys) a ∙ append_assoc (map entry_in es) xs ys

-- the last turn has appended all
pub all_added : (es fs : List Entry) (xs : List entries.Entry) → map entry_in fs ++ [] ≡ map entry_in es ++ xs → Added es fs xs
all_added es fs xs is = sym (append-nil (map entry_in fs)) ∙ is
