-- Lists of parts that loops put together, each of which may break a rule.
use Rattle.std.proofs.Common.{◌≡◌, ◌∙◌, ℕ, ◌+◌, ◌<◌, ◌≤◌, List, [], ◌∷◌, length, drop, get_or, map, refl, sym, ap}
use Rattle.std.proofs.lemmas.List.{drop_all}
use Rattle.sv_names.specs.declared.checked.Checked.{Checked}
use Rattle.sv_names.specs.declared.checked.Checked.TheVariants.{Good, Broken}
use Rattle.sv_names.specs.Checked.{given, each, put_before}
use Rattle.sv_names.specs.Classes.{joined as flattened}
use Rattle.sv_names.specs.Joined.{joined}
use Rattle.sv_names.proofs.Joined.{joined_grouped, joined_last}
use Rattle.sv_elab_flow.proofs.Left.{first_left}

-- lists of one part, and those behind it
flattened_cons : {B : Type 0} (x : Checked (List B)) (xs : Checked (List (List B))) → flattened (put_before x xs) ≡ joined x (flattened xs)
flattened_cons (Good x) (Good xs) = refl
flattened_cons (Good x) (Broken g) = refl
flattened_cons (Broken f) (Good xs) = refl
flattened_cons (Broken f) (Broken g) = refl

-- one part, and those behind it
single_cons : {B : Type 0} (x : Checked B) (xs : Checked (List B)) → put_before x xs ≡ joined (given (λ b. b ∷ []) x) xs
single_cons (Good x) (Good xs) = refl
single_cons (Good x) (Broken g) = refl
single_cons (Broken f) (Good xs) = refl
single_cons (Broken f) (Broken g) = refl

-- one part further
pub part_next : {A B : Type 0} (f : A → Checked (List B)) (go : List A → Checked (List B)) → ((x : A) (xs : List A) → go (x ∷ xs) ≡ joined (f x) (go xs))
    → (xs : List A) (i : ℕ) (x : A) (c whole : Checked (List B)) → i < length xs → get_or xs i x ≡ x
    → joined c (go (drop i xs)) ≡ whole → joined (joined c (f x)) (go (drop (i + 1) xs)) ≡ whole
part_next f go step xs i x c whole within is so_far =
    joined_grouped c (f x) (go (drop (i + 1) xs))
    ∙ ap (joined c) (sym (ap go (first_left xs i x within is) ∙ step x (drop (i + 1) xs)))
    ∙ so_far

-- all parts
pub parts_all : {A B : Type 0} (go : List A → Checked (List B)) → go [] ≡ Good [] → (xs : List A) (i : ℕ) (c whole : Checked (List B)) → length xs ≤ i
    → joined c (go (drop i xs)) ≡ whole → c ≡ whole
parts_all go none xs i c whole past so_far = sym (joined_last c) ∙ ap (joined c) (sym (ap go (drop_all i xs past) ∙ none)) ∙ so_far

-- ---- parts that give lists

pub lists_next : {T A B : Type 0} (f : A → Checked (List B)) (v : T → A) (xs : List T) (i : ℕ) (x : T) (c whole : Checked (List B)) → i < length xs
    → get_or xs i x ≡ x → joined c (flattened (each f (map v (drop i xs)))) ≡ whole
    → joined (joined c (f (v x))) (flattened (each f (map v (drop (i + 1) xs)))) ≡ whole
lists_next {T = T} f v =
    part_next (λ (x : T). f (v x)) (λ (xs : List T). flattened (each f (map v xs)))
    (λ x xs. flattened_cons (f (v x)) (each f (map v xs)))

pub lists_all : {T A B : Type 0} (f : A → Checked (List B)) (v : T → A) (xs : List T) (i : ℕ) (c whole : Checked (List B)) → length xs ≤ i
    → joined c (flattened (each f (map v (drop i xs)))) ≡ whole → c ≡ whole
lists_all {T = T} f v = parts_all (λ (xs : List T). flattened (each f (map v xs))) refl

-- ---- parts that give one value

pub values_next : {T A B : Type 0} (f : A → Checked B) (v : T → A) (xs : List T) (i : ℕ) (x : T) (c whole : Checked (List B)) → i < length xs
    → get_or xs i x ≡ x → joined c (each f (map v (drop i xs))) ≡ whole
    → joined (joined c (given (λ b. b ∷ []) (f (v x)))) (each f (map v (drop (i + 1) xs))) ≡ whole
values_next {T = T} f v =
    part_next (λ (x : T). given (λ b. b ∷ []) (f (v x))) (λ (xs : List T). each f (map v xs))
    (λ x xs. single_cons (f (v x)) (each f (map v xs)))

pub values_all : {T A B : Type 0} (f : A → Checked B) (v : T → A) (xs : List T) (i : ℕ) (c whole : Checked (List B)) → length xs ≤ i
    → joined c (each f (map v (drop i xs))) ≡ whole → c ≡ whole
values_all {T = T} f v = parts_all (λ (xs : List T). each f (map v xs)) refl
