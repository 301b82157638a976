-- Each activation is found by its name.
use Rattle.std.proofs.Common.{◌≡◌, ℕ, zero, suc, List, [], ◌∷◌, ◌++◌, Option, Some, None, Bool, true, false, length, replicate, slice_get, slice_set, ◌⊎◌, inl, inr, ⊎_elim, refl, sym, ap, ◌∙◌, arith}
use Rattle.std.specs.Prelude.{◌&&◌, ◌==◌, if◌then◌else◌}
use Rattle.std.proofs.lemmas.Bool.{cases_eq}
use Rattle.std.proofs.lemmas.Bool.Decides.{nat_tests}
use Rattle.sv_value.specs.declared.number.ProcessId.{ProcessId}
use Rattle.sv_value.specs.declared.schedule.Range.{Range}
use Rattle.sv_value.specs.declared.val.Val.{Val}
use Rattle.sv_flat.specs.State.{Activation, Name, activation, same_name}
use Rattle.sv_flat.specs.Effects.Writes.{changed_at, value_over, variable_over}
use Rattle.sv_arena.specs.Table.{IsFound, names_of, place_in, place_of}
use Rattle.sv_arena.proofs.PlaceLaws.{some_same, none_some, get_front, get_last, get_split, get_set, get_set-other}

-- ---- names

both_true : (a b : Bool) → (a && b) ≡ true → (a ≡ true) × (b ≡ true)
both_true true true h = (refl, refl)
both_true true false h = absurd (cc)
both_true false b h = absurd (cc)

numbers_same : (m n : ℕ) → (m == n) ≡ true → m ≡ n
numbers_same m n h = grind (arith, nat_tests)

number_same : (n : ℕ) → (n == n) ≡ true
number_same n = grind (arith, nat_tests)

-- the name of an activation by its process and its place
abbrev pub named_by : ProcessId → ℕ → Name
named_by p i = record { process = p; place = i }

name_is : (p q : ProcessId) (i j : ℕ) → p.0 ≡ q.0 → i ≡ j → named_by p i ≡ named_by q j
name_is p q i j e f = λ k. named_by (record { 0 = e k }) (f k)

-- two names of one activation are the same
same_name-is : (a b : Name) → same_name a b ≡ true → a ≡ b
same_name-is a b h =
    let both = both_true (a.process.0 == b.process.0) (a.place == b.place) h in
    name_is a.process b.process a.place b.place (numbers_same a.process.0 b.process.0 both.0) (numbers_same a.place b.place both.1)

same_name-self : (a : Name) → same_name a a ≡ true
same_name-self a = λ i. both (number_same a.process.0 i) (number_same a.place i)
  where
    both : Bool → Bool → Bool
    both a b = a && b

-- by whether two names are the same
by_names : (a b : Name) → (same_name a b ≡ true) ⊎ (same_name a b ≡ false)
by_names a b = by_test (same_name a b)
  where
    by_test : (t : Bool) → (t ≡ true) ⊎ (t ≡ false)
    by_test true = inl refl
    by_test false = inr refl

if_true : {A : Type 0} (t : Bool) (x y : A) → t ≡ true → (if t then x else y) ≡ x
if_true t x y h = ap (λ b. if b then x else y) h

if_false : {A : Type 0} (t : Bool) (x y : A) → t ≡ false → (if t then x else y) ≡ y
if_false t x y h = ap (λ b. if b then x else y) h

-- ---- the activation with a name

-- no activation has the name
pub record IsUnnamed (as' : List Activation) (n : Name) : Type 0 where
  pub none : (k : ℕ) → slice_get (names_of as') k ≡ Some n → ⊥

-- the activation at a place has the name, and no other one
pub record IsNamed (as' : List Activation) (n : Name) (k : ℕ) : Type 0 where
  pub here : slice_get (names_of as') k ≡ Some n
  pub alone : (j : ℕ) → slice_get (names_of as') j ≡ Some n → j ≡ k

-- those behind the first one
unnamed_rest : (a : Activation) (rest : List Activation) (n : Name) → IsUnnamed (a ∷ rest) n → IsUnnamed rest n
unnamed_rest a rest n h = record { none = λ k g. h.none (suc k) g }

unnamed_first : (a : Activation) (rest : List Activation) (n : Name) → IsUnnamed (a ∷ rest) n → same_name a.name n ≡ false
unnamed_first a rest n h = ⊎_elim (λ t. absurd (h.none zero (ap Some (same_name-is a.name n t)))) (λ t. t) (by_names a.name n)

named_rest : (a : Activation) (rest : List Activation) (n : Name) (k : ℕ) → IsNamed (a ∷ rest) n (suc k) → IsNamed rest n k
named_rest a rest n k h = record { here = h.here; alone = λ j g. less j k (h.alone (suc j) g) }
  where
    less : (j k : ℕ) → suc j ≡ suc k → j ≡ k
    less j k e = omega (arith, e)

named_first : (a : Activation) (rest : List Activation) (n : Name) → IsNamed (a ∷ rest) n zero → same_name a.name n ≡ true
named_first a rest n h = ap (λ m. same_name m n) (some_same h.here) ∙ same_name-self n

named_past : (a : Activation) (rest : List Activation) (n : Name) (k : ℕ) → IsNamed (a ∷ rest) n (suc k) → same_name a.name n ≡ false
named_past a rest n k h =
    ⊎_elim (λ t. absurd (apart k (h.alone zero (ap Some (same_name-is a.name n t))))) (λ t. t) (by_names a.name n)
  where
    apart : (k : ℕ) → zero ≡ suc k → ⊥
    apart k e = omega (arith, e)

pub unnamed_is : (as' : List Activation) (n : Name) → IsUnnamed as' n → None ≡ activation as' n
unnamed_is [] n h = refl
unnamed_is (a ∷ rest) n h =
    unnamed_is rest n (unnamed_rest a rest n h) ∙ sym (if_false (same_name a.name n) (Some a) (activation rest n) (unnamed_first a rest n h))

pub named_is : (as' : List Activation) (n : Name) (k : ℕ) → IsNamed as' n k → slice_get as' k ≡ activation as' n
named_is [] n k h = none_some h.here
named_is (a ∷ rest) n zero h = sym (if_true (same_name a.name n) (Some a) (activation rest n) (named_first a rest n h))
named_is (a ∷ rest) n (suc k) h =
    named_is rest n k (named_rest a rest n k h) ∙ sym (if_false (same_name a.name n) (Some a) (activation rest n) (named_past a rest n k h))

-- ---- what the table tells

pub told_unnamed : (as' : List Activation) (rows : List (List ℕ)) (n : Name) → IsFound (names_of as') rows → None ≡ place_of rows n → IsUnnamed as' n
told_unnamed as' rows n h e = record { none = λ k g. none_some (e ∙ h.found k n g) }

pub told_named : (as' : List Activation) (rows : List (List ℕ)) (n : Name) (k : ℕ) → IsFound (names_of as') rows → Some k ≡ place_of rows n → IsNamed as' n k
told_named as' rows n k h e = record { here = h.named n k (sym e); alone = λ j g. some_same (sym (h.found j n g) ∙ sym e) }

-- the activation with a name, by the table
pub found_none : (as' : List Activation) (rows : List (List ℕ)) (n : Name) → IsFound (names_of as') rows → None ≡ place_of rows n → None ≡ activation as' n
found_none as' rows n h e = unnamed_is as' n (told_unnamed as' rows n h e)

pub found_some : (as' : List Activation) (rows : List (List ℕ)) (n : Name) (k : ℕ) → IsFound (names_of as') rows → Some k ≡ place_of rows n
    → slice_get as' k ≡ activation as' n
found_some as' rows n k h e = named_is as' n k (told_named as' rows n k h e)

-- ---- a variable that is written

-- an activation with a variable written over
abbrev pub activation_over : ℕ → Option Range → Val → Activation → Activation
activation_over i r x a = record a { values = changed_at a.values i (λ v. value_over v r x) }

pub over_none : (as' : List Activation) (n : Name) (i : ℕ) (r : Option Range) (x : Val) → IsUnnamed as' n → as' ≡ variable_over n i r x as'
over_none [] n i r x h = refl
over_none (a ∷ rest) n i r x h =
    ap (λ bs. a ∷ bs) (over_none rest n i r x (unnamed_rest a rest n h))
    ∙ sym (if_false (same_name a.name n) (activation_over i r x a ∷ rest) (a ∷ variable_over n i r x rest) (unnamed_first a rest n h))

pub over_one : (as' : List Activation) (n : Name) (k i : ℕ) (r : Option Range) (x : Val) (a : Activation) → IsNamed as' n k → slice_get as' k ≡ Some a
    → slice_set as' k (activation_over i r x a) ≡ variable_over n i r x as'
over_one [] n k i r x a h g = none_some g
over_one (b ∷ rest) n zero i r x a h g =
    ap (λ c. activation_over i r x c ∷ rest) (sym (some_same g))
    ∙ sym (if_true (same_name b.name n) (activation_over i r x b ∷ rest) (b ∷ variable_over n i r x rest) (named_first b rest n h))
over_one (b ∷ rest) n (suc k) i r x a h g =
    ap (λ bs. b ∷ bs) (over_one rest n k i r x a (named_rest b rest n k h) g)
    ∙ sym (if_false (same_name b.name n) (activation_over i r x b ∷ rest) (b ∷ variable_over n i r x rest) (named_past b rest n k h))

-- ---- an activation more

-- what was found is found
place_more : (rows : List (List ℕ)) (p : ProcessId) (row : List ℕ) (k : ℕ) (m : Name) (j : ℕ) → slice_get rows p.0 ≡ Some row → place_of rows m ≡ Some j
    → place_of (slice_set rows p.0 (row ++ k ∷ [])) m ≡ Some j
place_more rows p row k m j here is = ⊎_elim same other (cases_eq m.process.0 p.0)
  where
    same : m.process.0 ≡ p.0 → place_of (slice_set rows p.0 (row ++ k ∷ [])) m ≡ Some j
    same e =
        ap (λ o. place_in o m.place) (ap (slice_get (slice_set rows p.0 (row ++ k ∷ []))) e ∙ get_set rows p.0 row (row ++ k ∷ []) here)
        ∙ get_front row (k ∷ []) m.place j (ap (λ o. place_in o m.place) (sym here ∙ ap (slice_get rows) (sym e)) ∙ is)

    other : (m.process.0 ≡ p.0 → ⊥) → place_of (slice_set rows p.0 (row ++ k ∷ [])) m ≡ Some j
    other h = ap (λ o. place_in o m.place) (get_set-other rows p.0 m.process.0 (row ++ k ∷ []) h) ∙ is

-- the new one is found
place_new : (rows : List (List ℕ)) (p : ProcessId) (row : List ℕ) (k : ℕ) → slice_get rows p.0 ≡ Some row
    → place_of (slice_set rows p.0 (row ++ k ∷ [])) (named_by p (length row)) ≡ Some k
place_new rows p row k here = ap (λ o. place_in o (length row)) (get_set rows p.0 row (row ++ k ∷ []) here) ∙ get_last row k

-- what is found was found, or is the new one
place_split : (rows : List (List ℕ)) (p : ProcessId) (row : List ℕ) (k : ℕ) (m : Name) (j : ℕ) → slice_get rows p.0 ≡ Some row
    → place_of (slice_set rows p.0 (row ++ k ∷ [])) m ≡ Some j
    → (place_of rows m ≡ Some j) ⊎ ((named_by p (length row) ≡ m) × (k ≡ j))
place_split rows p row k m j here is = ⊎_elim same other (cases_eq m.process.0 p.0)
  where
    same : m.process.0 ≡ p.0 → (place_of rows m ≡ Some j) ⊎ ((named_by p (length row) ≡ m) × (k ≡ j))
    same e =
        ⊎_elim (λ g. inl (ap (λ o. place_in o m.place) (ap (slice_get rows) e ∙ here) ∙ g)) (λ g. inr (name_is p m.process (length row) m.place (sym e) (sym g.0), g.1))
        (get_split row k m.place j
        (ap (λ o. place_in o m.place) (sym (ap (slice_get (slice_set rows p.0 (row ++ k ∷ []))) e ∙ get_set rows p.0 row (row ++ k ∷ []) here)) ∙ is))

    other : (m.process.0 ≡ p.0 → ⊥) → (place_of rows m ≡ Some j) ⊎ ((named_by p (length row) ≡ m) × (k ≡ j))
    other h = inl (ap (λ o. place_in o m.place) (sym (get_set-other rows p.0 m.process.0 (row ++ k ∷ []) h)) ∙ is)

-- all are found then
pub found_more : (names : List Name) (rows : List (List ℕ)) (p : ProcessId) (row : List ℕ) → IsFound names rows → slice_get rows p.0 ≡ Some row
    → IsFound (names ++ named_by p (length row) ∷ []) (slice_set rows p.0 (row ++ length names ∷ []))
found_more names rows p row h here = record { found = found; named = named }
  where
    new : Name
    new = named_by p (length row)

    found : (k : ℕ) (n : Name) → slice_get (names ++ new ∷ []) k ≡ Some n → place_of (slice_set rows p.0 (row ++ length names ∷ [])) n ≡ Some k
    found k n g =
        ⊎_elim (λ old. place_more rows p row (length names) n k here (h.found k n old))
        (λ last. ap (place_of (slice_set rows p.0 (row ++ length names ∷ []))) (sym last.1) ∙ place_new rows p row (length names) here ∙ ap Some (sym last.0))
        (get_split names new k n g)

    named : (n : Name) (k : ℕ) → place_of (slice_set rows p.0 (row ++ length names ∷ [])) n ≡ Some k → slice_get (names ++ new ∷ []) k ≡ Some n
    named n k g =
        ⊎_elim (λ old. get_front names (new ∷ []) k n (h.named n k old))
        (λ last. ap (slice_get (names ++ new ∷ [])) (sym last.1) ∙ get_last names new ∙ ap Some last.0)
        (place_split rows p row (length names) n k here g)

-- no activation is found in empty rows
pub found_empty : (n : ℕ) → IsFound [] (replicate n [])
found_empty n = record { found = λ k m g. none_some g; named = λ m k g. none_some (empty n m.process.0 m.place ∙ g) }
  where
    empty : (n i j : ℕ) → None ≡ place_in (slice_get (replicate n []) i) j
    empty zero i j = refl
    empty (suc n) zero j = refl
    empty (suc n) (suc i) j = empty n i j
