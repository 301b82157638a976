-- What the activations and their table become.
use Rattle.std.proofs.Common.{◌≡◌, ℕ, zero, suc, ◌+◌, ◌-◌, ◌<◌, ◌≤◌, List, [], ◌∷◌, ◌++◌, Option, Some, None, length, length-append, map, replicate, slice_get, slice_set, get_or, refl, sym, ap, subst, ◌∙◌, arith}
use Rattle.std.specs.Prelude.{option_and_then, slice_index_or}
use Rattle.sv_value.specs.declared.number.ProcessId.{ProcessId}
use Rattle.sv_value.specs.declared.schedule.Range.{Range}
use Rattle.sv_value.specs.declared.val.Val.{Val}
use Rattle.sv_flat.specs.State.{Activation, Name, activation, activation_out}
use Rattle.sv_flat.specs.Effects.Writes.{variable_over}
use Rattle.sv_arena.specs.Made.{Made, entered, next_name, with_process}
use Rattle.sv_arena.specs.Table.{IsFound, names_of, lengths_of, place_in, place_of}
use Rattle.sv_arena.proofs.PlaceLaws.{some_same, get_is, get_map, get_or-is, get_within, map_set, map_set-any}
use Rattle.sv_arena.proofs.TableLaws.{activation_over, found_more, named_by, over_none, over_one, told_named, told_unnamed}

-- what is seen of the fields
abbrev pub made_in : List Activation → List (List ℕ) → Made
made_in as' rows = record { activations = as'; made = lengths_of rows }

-- ---- lists

length_map : {A B : Type 0} (f : A → B) (xs : List A) → length (map f xs) ≡ length xs
length_map f [] = refl
length_map f (x ∷ xs) = ap suc (length_map f xs)

map_push : {A B : Type 0} (f : A → B) (xs : List A) (x : A) → map f (xs ++ x ∷ []) ≡ map f xs ++ f x ∷ []
map_push f [] x = refl
map_push f (z ∷ xs) x = ap (λ ys. f z ∷ ys) (map_push f xs x)

set_same : {A : Type 0} (xs : List A) (k : ℕ) (x : A) → slice_get xs k ≡ Some x → slice_set xs k x ≡ xs
set_same [] k x h = refl
set_same (z ∷ xs) zero x h = ap (λ y. y ∷ xs) (sym (some_same h))
set_same (z ∷ xs) (suc k) x h = ap (λ ys. z ∷ ys) (set_same xs k x h)

pub lengths_empty : (n : ℕ) → lengths_of (replicate n []) ≡ replicate n 0
lengths_empty zero = refl
lengths_empty (suc n) = ap (λ ns. 0 ∷ ns) (lengths_empty n)

-- ---- the row of a process

pub row_is : (rows : List (List ℕ)) (as' : List Activation) (m : Made) (p : ProcessId) (row : List ℕ) → made_in as' rows ≡ m → p.0 < length m.made
    → row ≡ get_or rows p.0 row → slice_get rows p.0 ≡ Some row
row_is rows as' m p row e h is = get_is rows p.0 row (within (subst (λ (n : Made). p.0 < length n.made) (sym e) h)) is
  where
    within : p.0 < length (lengths_of rows) → p.0 < length rows
    within h = let same : length (lengths_of rows) ≡ length rows = length_map (λ r. length r) rows in omega (arith, h, same)

-- ---- an activation more

next_is : (rows : List (List ℕ)) (as' : List Activation) (m : Made) (p : ProcessId) (row : List ℕ) → made_in as' rows ≡ m → slice_get rows p.0 ≡ Some row
    → next_name m p ≡ named_by p (length row)
next_is rows as' m p row e here =
    ap (λ (n : Made). next_name n p) (sym e) ∙ ap (named_by p) (get_or-is (lengths_of rows) p.0 (length row) 0 (get_map (λ r. length r) rows p.0 row here))

pub found_entered : (rows : List (List ℕ)) (as' bs : List Activation) (m : Made) (p : ProcessId) (row more : List ℕ) (a : Activation) → IsFound (names_of as') rows
    → made_in as' rows ≡ m → slice_get rows p.0 ≡ Some row → a.name ≡ next_name m p → bs ≡ as' ++ a ∷ [] → more ≡ row ++ length as' ∷ []
    → IsFound (names_of bs) (slice_set rows p.0 more)
found_entered rows as' bs m p row more a h e here name is place =
    subst (λ (ns : List Name). IsFound ns (slice_set rows p.0 more)) (sym names)
    (subst (λ (r : List ℕ). IsFound (names_of as' ++ named_by p (length row) ∷ []) (slice_set rows p.0 r)) (sym row_more)
    (found_more (names_of as') rows p row h here))
  where
    names : names_of bs ≡ names_of as' ++ named_by p (length row) ∷ []
    names =
        ap names_of is ∙ map_push (λ (b : Activation). b.name) as' a
        ∙ ap (λ (n : Name). names_of as' ++ n ∷ []) (name ∙ next_is rows as' m p row e here)

    row_more : more ≡ row ++ length (names_of as') ∷ []
    row_more = place ∙ ap (λ k. row ++ k ∷ []) (sym (length_map (λ (b : Activation). b.name) as'))

pub entered_is : (rows : List (List ℕ)) (as' bs : List Activation) (m : Made) (p : ProcessId) (row more : List ℕ) (name : Name) (around : Option Name) (values : List Val)
    → made_in as' rows ≡ m → slice_get rows p.0 ≡ Some row → name ≡ next_name m p → bs ≡ as' ++ record { name = name; around = around; values = values } ∷ []
    → more ≡ row ++ length as' ∷ [] → made_in bs (slice_set rows p.0 more) ≡ entered m p around values
entered_is rows as' bs m p row more name around values e here named is place =
    (λ i. record { activations = all i; made = lengths i }) ∙ ap (λ (n : Made). entered n p around values) e
  where
    own : name ≡ next_name (made_in as' rows) p
    own = named ∙ ap (λ (n : Made). next_name n p) (sym e)

    all : bs ≡ as' ++ record { name = next_name (made_in as' rows) p; around = around; values = values } ∷ []
    all = is ∙ ap (λ (n : Name). as' ++ record { name = n; around = around; values = values } ∷ []) own

    one_more : length more ≡ slice_index_or (lengths_of rows) p.0 0 + 1
    one_more =
        ap (λ r. length r) place ∙ length-append row (length as' ∷ [])
        ∙ ap (λ k. k + 1) (sym (get_or-is (lengths_of rows) p.0 (length row) 0 (get_map (λ r. length r) rows p.0 row here)))

    lengths : lengths_of (slice_set rows p.0 more) ≡ slice_set (lengths_of rows) p.0 (slice_index_or (lengths_of rows) p.0 0 + 1)
    lengths = map_set-any (λ r. length r) rows p.0 more ∙ ap (slice_set (lengths_of rows) p.0) one_more

-- nothing happened
pub found_same : (rows : List (List ℕ)) (as' bs : List Activation) (p : ProcessId) (row same : List ℕ) → IsFound (names_of as') rows → slice_get rows p.0 ≡ Some row
    → bs ≡ as' → same ≡ row → IsFound (names_of bs) (slice_set rows p.0 same)
found_same rows as' bs p row same h here is e =
    subst (λ (cs : List Activation). IsFound (names_of cs) (slice_set rows p.0 same)) (sym is)
    (subst (IsFound (names_of as')) (sym (ap (slice_set rows p.0) e ∙ set_same rows p.0 row here)) h)

pub made_same : (rows : List (List ℕ)) (as' bs : List Activation) (m : Made) (p : ProcessId) (row same : List ℕ) → made_in as' rows ≡ m → slice_get rows p.0 ≡ Some row
    → bs ≡ as' → same ≡ row → made_in bs (slice_set rows p.0 same) ≡ m
made_same rows as' bs m p row same e here is f =
    (λ i. made_in (is i) ((ap (slice_set rows p.0) f ∙ set_same rows p.0 row here) i)) ∙ e

-- ---- a variable that is written

pub place_within : (as' : List Activation) (rows : List (List ℕ)) (n : Name) (k : ℕ) → IsFound (names_of as') rows → Some k ≡ place_of rows n → k < length as'
place_within as' rows n k h e =
    let inside : k < length (names_of as') = get_within (names_of as') k n (told_named as' rows n k h e).here in
    let same : length (names_of as') ≡ length as' = length_map (λ (b : Activation). b.name) as' in
    omega (arith, inside, same)

pub found_written : (as' : List Activation) (rows : List (List ℕ)) (k i : ℕ) (r : Option Range) (x : Val) (a b : Activation) → IsFound (names_of as') rows
    → slice_get as' k ≡ Some a → b ≡ activation_over i r x a → IsFound (names_of (slice_set as' k b)) rows
found_written as' rows k i r x a b h here is =
    subst (λ (ns : List Name). IsFound ns rows) (sym (map_set (λ (c : Activation). c.name) as' k a b here (ap (λ (c : Activation). c.name) is))) h

pub made_written : (as' : List Activation) (rows : List (List ℕ)) (m : Made) (n : Name) (k i : ℕ) (r : Option Range) (x : Val) (a b : Activation) → IsFound (names_of as') rows
    → made_in as' rows ≡ m → Some k ≡ place_of rows n → slice_get as' k ≡ Some a → b ≡ activation_over i r x a
    → made_in (slice_set as' k b) rows ≡ record m { activations = variable_over n i r x m.activations }
made_written as' rows m n k i r x a b h e place here is =
    ap (λ (cs : List Activation). made_in cs rows) (ap (slice_set as' k) is ∙ over_one as' n k i r x a (told_named as' rows n k h place) here)
    ∙ ap (λ (o : Made). record o { activations = variable_over n i r x o.activations }) e

pub made_unwritten : (as' : List Activation) (rows : List (List ℕ)) (m : Made) (n : Name) (i : ℕ) (r : Option Range) (x : Val) → IsFound (names_of as') rows
    → made_in as' rows ≡ m → None ≡ place_of rows n → m ≡ record m { activations = variable_over n i r x m.activations }
made_unwritten as' rows m n i r x h e place =
    sym e ∙ ap (λ (cs : List Activation). made_in cs rows) (over_none as' n i r x (told_unnamed as' rows n h place))
    ∙ ap (λ (o : Made). record o { activations = variable_over n i r x o.activations }) e

-- ---- further out

-- an activation around another one
pub out_step : (as' : List Activation) (up i : ℕ) (n : Name) (a : Activation) (around : Name) → i < up → activation as' n ≡ Some a → a.around ≡ Some around
    → activation_out as' (up - i) (Some n) ≡ activation_out as' (up - (i + 1)) (Some around)
out_step as' up i n a around h is e =
    ap (λ k. activation_out as' k (Some n)) (less up i h)
    ∙ ap (λ o. option_and_then (λ b. activation_out as' (up - (i + 1)) b.around) o) is ∙ ap (activation_out as' (up - (i + 1))) e
  where
    less : (up i : ℕ) → i < up → up - i ≡ suc (up - (i + 1))
    less up i h = omega arith

-- no activation with the name
pub out_unnamed : (as' : List Activation) (k : ℕ) (n : Name) → activation as' n ≡ None → activation_out as' k (Some n) ≡ None
out_unnamed as' zero n is = is
out_unnamed as' (suc k) n is = ap (λ o. option_and_then (λ a. activation_out as' k a.around) o) is

-- nothing is around it
pub out_outermost : (as' : List Activation) (up i : ℕ) (n : Name) (a : Activation) → i < up → activation as' n ≡ Some a → a.around ≡ None
    → activation_out as' (up - i) (Some n) ≡ None
out_outermost as' up i n a h is e =
    ap (λ k. activation_out as' k (Some n)) (less up i h)
    ∙ ap (λ o. option_and_then (λ b. activation_out as' (up - (i + 1)) b.around) o) is ∙ ap (activation_out as' (up - (i + 1))) e ∙ out_none (up - (i + 1))
  where
    less : (up i : ℕ) → i < up → up - i ≡ suc (up - (i + 1))
    less up i h = omega arith

    out_none : (k : ℕ) → activation_out as' k None ≡ None
    out_none zero = refl
    out_none (suc k) = refl

-- outside of all activations
pub out_of_none : (as' : List Activation) (k : ℕ) → None ≡ activation_out as' k None
out_of_none as' zero = refl
out_of_none as' (suc k) = refl

-- far enough out
pub out_here : (as' : List Activation) (up i : ℕ) (n : Name) → up ≤ i → activation_out as' (up - i) (Some n) ≡ activation as' n
out_here as' up i n h = ap (λ k. activation_out as' k (Some n)) (no_more up i h)
  where
    no_more : (up i : ℕ) → up ≤ i → up - i ≡ zero
    no_more up i h = omega arith

-- ---- no activation yet

pub made_empty : (as' : List Activation) (rows : List (List ℕ)) (n k : ℕ) → as' ≡ [] → rows ≡ replicate k [] → n ≤ k → k ≤ n
    → made_in as' rows ≡ record { activations = []; made = replicate n 0 }
made_empty as' rows n k none is low high =
    (λ i. record { activations = none i; made = (ap lengths_of is ∙ lengths_empty k ∙ ap (λ j. replicate j 0) same) i })
  where
    same : k ≡ n
    same = omega (arith, low, high)

-- ---- a process more

-- what is found is what was found
place_wider : (rows : List (List ℕ)) (p i : ℕ) → place_in (slice_get (rows ++ [] ∷ []) p) i ≡ place_in (slice_get rows p) i
place_wider [] zero i = refl
place_wider [] (suc p) i = refl
place_wider (r ∷ rows) zero i = refl
place_wider (r ∷ rows) (suc p) i = place_wider rows p i

pub found_wider : (names : List Name) (rows wider : List (List ℕ)) (row : List ℕ) → IsFound names rows → row ≡ [] → wider ≡ rows ++ row ∷ [] → IsFound names wider
found_wider names rows wider row h none is =
    subst (IsFound names) (sym (is ∙ ap (λ (r : List ℕ). rows ++ r ∷ []) none))
    (record {
      found = λ k n g. place_wider rows n.process.0 n.place ∙ h.found k n g;
      named = λ n k g. h.named n k (sym (place_wider rows n.process.0 n.place) ∙ g);
    })

pub made_wider : (as' : List Activation) (rows wider : List (List ℕ)) (row : List ℕ) (m : Made) → made_in as' rows ≡ m → row ≡ [] → wider ≡ rows ++ row ∷ []
    → made_in as' wider ≡ with_process m
made_wider as' rows wider row m e none is =
    ap (made_in as') (is ∙ ap (λ (r : List ℕ). rows ++ r ∷ []) none)
    ∙ ap (λ (ns : List ℕ). record { activations = as'; made = ns }) (map_push (λ r. length r) rows [])
    ∙ ap with_process e
