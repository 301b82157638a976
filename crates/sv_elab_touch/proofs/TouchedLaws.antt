-- How touches are put behind others.
use Rattle.std.proofs.Common.{◌≡◌, ℕ, ◌+◌, ◌<◌, List, [], ◌∷◌, ◌++◌, map, length, drop, get_or, sym, ap, ◌∙◌, append_assoc, append-nil}
use Rattle.std.specs.Prelude.{Result, Ok, Err, OnOk}
use Rattle.std.proofs.lemmas.List.{map-append, drop_more}
use Rattle.sv_names.specs.Writers as writers
use Rattle.sv_elab_writers.specs.declared.touch.Touch.{Touch}
use Rattle.sv_elab_writers.specs.Views.{touch_in}
use Rattle.sv_elab_touch.specs.Touched.{Touched}

-- nothing is put behind
pub touched_none : (ts : List Touch) → Touched ts ts []
touched_none ts = sym (append-nil (map touch_in ts))

-- one touch is put behind
pub touched_one : (ts us : List Touch) (t : Touch) → us ≡ ts ++ t ∷ [] → Touched ts us (touch_in t ∷ [])
touched_one ts us t is = ap (map touch_in) is ∙ map-append touch_in ts (t ∷ [])

-- some are put behind, and then others
pub touched_both : (ts us vs : List Touch) (xs ys : List writers.Touch) → Touched ts us xs → Touched us vs ys → Touched ts vs (xs ++ ys)
touched_both ts us vs xs ys a b = b ∙ ap (λ l. l ++ ys) a ∙ append_assoc (map touch_in ts) xs ys

-- one is put behind, and then others
pub touched_first : (ts us vs : List Touch) (x : writers.Touch) (ys : List writers.Touch)
    → Touched ts us (x ∷ []) → Touched us vs ys → Touched ts vs (x ∷ ys)
touched_first ts us vs x ys a b = touched_both ts us vs (x ∷ []) ys a b

-- what is put behind in a turn is what the rest begins with
pub turn_touched : (ts us : List Touch) (xs ys : List writers.Touch) → Touched ts us xs → map touch_in us ++ ys ≡ map touch_in ts ++ (xs ++ ys)
turn_touched ts us xs ys a = ap (λ l. l ++ ys) a ∙ append_assoc (map touch_in ts) xs ys

-- the last turn has put all behind
pub all_touched : (ts us : List Touch) (xs : List writers.Touch) → map touch_in us ++ [] ≡ map touch_in ts ++ xs → Touched ts us xs
all_touched ts us xs is = sym (append-nil (map touch_in us)) ∙ is

-- a list from one of its items on
pub left_from : {A : Type 0} (xs : List A) (i : ℕ) (x : A) → i < length xs → get_or xs i x ≡ x → drop i xs ≡ x ∷ drop (i + 1) xs
left_from xs i x within is = drop_more xs i x within ∙ ap (λ y. y ∷ drop (i + 1) xs) is

-- a turn of a loop over a list, where one item and those behind it are put together so
pub item_turn : {A : Type 0} (go : List A → List writers.Touch) (all : List A) (i : ℕ) (x : A) (ts us : List Touch) (xs : List writers.Touch)
    → i < length all → get_or all i x ≡ x → go (x ∷ drop (i + 1) all) ≡ xs ++ go (drop (i + 1) all) → Touched ts us xs
    → map touch_in us ++ go (drop (i + 1) all) ≡ map touch_in ts ++ go (drop i all)
item_turn go all i x ts us xs within is first added =
    turn_touched ts us xs (go (drop (i + 1) all)) added
    ∙ ap (λ l. map touch_in ts ++ l) (sym first ∙ ap go (sym (left_from all i x within is)))

-- what an answer is, and what follows of it
pub ok_given : {A E : Type 0} (r : Result A E) (P Q : Type 0) → (P → Q) → OnOk r P → OnOk r Q
ok_given (Ok x) P Q go h = go h
ok_given (Err e) P Q go h = h
