-- What is seen before and after a change (IEEE 1800-2017, 9.4.2).
use Rattle.std.proofs.Common.{◌≡◌, ℕ, zero, suc, Bool, true, false, List, [], ◌∷◌, Option, None, Some, refl, sym, ap, ◌∙◌, arith}
use Rattle.std.specs.Prelude.{◌&&◌, ◌==◌, if◌then◌else◌, option_and_then, option_map, slice_index_or}
use Rattle.std.proofs.lemmas.Bool.{and_from, eq-eqb, false_from_ne_true}
use Rattle.std.proofs.lemmas.Bool.Decides.{nat_tests}
use Rattle.sv_value.specs.declared.number.ObjId.{ObjId}
use Rattle.sv_value.specs.declared.val.Val.{Val}
use Rattle.sv_value.specs.declared.schedule.Range.{Range}
use Rattle.sv_flat.specs.State.{Activation, Name, Store, activation, activation_out, name_in, no_value, same_name, value_at, variable_of}
use Rattle.sv_flat.specs.Effects.Writes.{changed_at, value_over, variable_over}
use Rattle.sv_store.specs.declared.change.Overwritten.{Overwritten}
use Rattle.sv_store.specs.Overwrites.{object_before}
use Rattle.sv_assign.specs.Seen.{Of_object, Of_variable, variable_before, view_in, view_before}

-- what is seen before a write of an object is the store as it was
pub view_before-is : (w : Overwritten) (old new : Store) (as' : List Activation) (now unit : ℕ) (scope : Option Name)
    → ((o : ObjId) (j : ℕ) → value_at old o j ≡ object_before w new o j) → view_before (Of_object w) new as' now unit scope ≡ view_in old as' now unit scope
view_before-is w old new as' now unit scope told = λ i. record (view_in new as' now unit scope) { object = λ o j. sym (told o j) i }

-- two stores of the same values are seen alike
pub view_in-same : (old new : Store) (as' : List Activation) (now unit : ℕ) (scope : Option Name) → ((o : ObjId) (j : ℕ) → value_at new o j ≡ value_at old o j)
    → view_in new as' now unit scope ≡ view_in old as' now unit scope
view_in-same old new as' now unit scope same = λ i. record (view_in new as' now unit scope) { object = λ o j. same o j i }

-- ---- names

same_name-is : (a b : Name) → same_name a b ≡ true → a ≡ b
same_name-is a b h = by_tests (a.process.0 == b.process.0) (a.place == b.place) refl refl h
  where
    by_tests : (s t : Bool) → (a.process.0 == b.process.0) ≡ s → (a.place == b.place) ≡ t → (s && t) ≡ true → a ≡ b
    by_tests true true e f h =
        let process : a.process.0 ≡ b.process.0 = grind (arith, nat_tests) in
        let place : a.place ≡ b.place = grind (arith, nat_tests) in
        λ i. record { process = record { 0 = process i }; place = place i }
    by_tests true false e f h = absurd (cc)
    by_tests false t e f h = absurd (cc)

same_name-self : (a : Name) → same_name a a ≡ true
same_name-self a = and_from (a.process.0 == a.process.0) (a.place == a.place) (eq-eqb a.process.0 a.process.0 refl) (eq-eqb a.place a.place refl)

-- of two names one is this one, and the other not
other_names : (a n m : Name) → same_name a n ≡ true → same_name a m ≡ false → same_name m n ≡ false
other_names a n m e f = false_from_ne_true (same_name m n) differ
  where
    differ : same_name m n ≡ true → ⊥
    differ h =
        let same : a ≡ m = same_name-is a n e ∙ sym (same_name-is m n h) in
        let z : true ≡ false = sym (same_name-self a) ∙ ap (same_name a) same ∙ f in
        cc

-- an activation that is found has the name
found_name : (as' : List Activation) (m : Name) (a : Activation) → activation as' m ≡ Some a → a.name ≡ m
found_name [] m a h = absurd (cc)
found_name (b ∷ rest) m a h = by_test (same_name b.name m) refl h (found_name rest m a)
  where
    by_test : (t : Bool) → same_name b.name m ≡ t → (if t then Some b else activation rest m) ≡ Some a → (activation rest m ≡ Some a → a.name ≡ m) → a.name ≡ m
    by_test true e h more = (let same : b ≡ a = cc in ap (λ (c : Activation). c.name) (sym same) ∙ same_name-is b.name m e)
    by_test false e h more = more h

-- ---- a write of a variable

-- an element of a list, where another one was changed
changed_other : (vs : List Val) (p i : ℕ) (f : Val → Val) (d : Val) → (i == p) ≡ false → slice_index_or (changed_at vs p f) i d ≡ slice_index_or vs i d
changed_other [] p i f d h = refl
changed_other (v ∷ vs) zero zero f d h = absurd (cc)
changed_other (v ∷ vs) zero (suc i) f d h = refl
changed_other (v ∷ vs) (suc p) zero f d h = refl
changed_other (v ∷ vs) (suc p) (suc i) f d h = changed_other vs p i f d (grind (arith, nat_tests))

module _ (n : Name) (p : ℕ) (r : Option Range) (x : Val) where
  -- an activation, with its variable at that place written over
  abbrev changed : Activation → Activation
  changed a = record a { values = changed_at a.values p (λ v. value_over v r x) }

  -- the same of the one with the name, and any other as it was
  abbrev written : Activation → Activation
  written a = if same_name a.name n then changed a else a

  written_name : (a : Activation) → (written a).name ≡ a.name
  written_name a = by_test (same_name a.name n)
    where
      by_test : (t : Bool) → (if t then changed a else a).name ≡ a.name
      by_test true = refl
      by_test false = refl

  written_around : (a : Activation) → (written a).around ≡ a.around
  written_around a = by_test (same_name a.name n)
    where
      by_test : (t : Bool) → (if t then changed a else a).around ≡ a.around
      by_test true = refl
      by_test false = refl

  written_other : (a : Activation) → same_name a.name n ≡ false → written a ≡ a
  written_other a e = ap (λ (t : Bool). if t then changed a else a) e

  written_this : (a : Activation) → same_name a.name n ≡ true → written a ≡ changed a
  written_this a e = ap (λ (t : Bool). if t then changed a else a) e

  -- one that is found by another name is as it was
  found_other : (o : Option Activation) (m : Name) → ((a : Activation) → o ≡ Some a → a.name ≡ m) → same_name m n ≡ false → o ≡ option_map written o
  found_other None m h e = refl
  found_other (Some a) m h e = ap (λ (b : Activation). Some b) (sym (written_other a (ap (λ (k : Name). same_name k n) (h a refl) ∙ e)))

  -- the activation with a name, after the write
  activation_written : (as' : List Activation) (m : Name) → activation (variable_over n p r x as') m ≡ option_map written (activation as' m)
  activation_written [] m = refl
  activation_written (a ∷ rest) m = by_tests (same_name a.name n) (same_name a.name m) refl refl (activation_written rest m)
    where
      by_tests : (t s : Bool) → same_name a.name n ≡ t → same_name a.name m ≡ s → activation (variable_over n p r x rest) m ≡ option_map written (activation rest m)
          → activation (if t then changed a ∷ rest else a ∷ variable_over n p r x rest) m ≡ option_map written (if s then Some a else activation rest m)
      by_tests true true e f more =
          ap (λ (b : Bool). if b then Some (changed a) else activation rest m) f ∙ ap (λ (b : Activation). Some b) (sym (written_this a e))
      by_tests true false e f more =
          ap (λ (b : Bool). if b then Some (changed a) else activation rest m) f
          ∙ found_other (activation rest m) m (λ b h. found_name rest m b h) (other_names a.name n m e f)
      by_tests false true e f more =
          ap (λ (b : Bool). if b then Some a else activation (variable_over n p r x rest) m) f ∙ ap (λ (b : Activation). Some b) (sym (written_other a e))
      by_tests false false e f more = ap (λ (b : Bool). if b then Some a else activation (variable_over n p r x rest) m) f ∙ more

  -- the same so many levels further out
  out_written : (up : ℕ) (as' : List Activation) (scope : Option Name)
      → activation_out (variable_over n p r x as') up scope ≡ option_map written (activation_out as' up scope)
  out_written up as' None = refl
  out_written zero as' (Some m) = activation_written as' m
  out_written (suc up) as' (Some m) = ap (option_and_then further) (activation_written as' m) ∙ by_found (activation as' m) (out_written up as')
    where
      further : Activation → Option Activation
      further a = activation_out (variable_over n p r x as') up a.around

      by_found : (o : Option Activation) → ((q : Option Name) → activation_out (variable_over n p r x as') up q ≡ option_map written (activation_out as' up q))
          → option_and_then further (option_map written o) ≡ option_map written (option_and_then (λ a. activation_out as' up a.around) o)
      by_found None more = refl
      by_found (Some a) more = ap (activation_out (variable_over n p r x as') up) (written_around a) ∙ more a.around

  name_told : (o : Option Activation) → name_in (option_map written o) ≡ name_in o
  name_told None = refl
  name_told (Some a) = ap (λ (m : Name). Some m) (written_name a)

  -- its variables, from what stands now and the old value
  variable_told : (o : Option Activation) (i : ℕ) (old : Val) → ((a : Activation) → o ≡ Some a → a.name ≡ n → old ≡ variable_of o p)
      → variable_before n p old (option_map written o) i ≡ variable_of o i
  variable_told None i old h = refl
  variable_told (Some a) i old h = by_tests (same_name a.name n) (i == p) refl refl
    where
      by_tests : (t s : Bool) → same_name a.name n ≡ t → (i == p) ≡ s
          → (if same_name (if t then changed a else a).name n && s then old else slice_index_or (if t then changed a else a).values i no_value) ≡ slice_index_or a.values i no_value
      by_tests true true e f =
          let this : i ≡ p = grind (arith, nat_tests) in
          ap (λ (b : Bool). if b && true then old else slice_index_or (changed a).values i no_value) e ∙ h a refl (same_name-is a.name n e)
          ∙ ap (λ (k : ℕ). slice_index_or a.values k no_value) (sym this)
      by_tests true false e f =
          ap (λ (b : Bool). if b && false then old else slice_index_or (changed a).values i no_value) e
          ∙ changed_other a.values p i (λ v. value_over v r x) no_value f
      by_tests false s e f = ap (λ (b : Bool). if b && s then old else slice_index_or a.values i no_value) e

-- an activation that is found so many levels further out is the one with its name
out_found : (up : ℕ) (as' : List Activation) (scope : Option Name) (a : Activation) → activation_out as' up scope ≡ Some a → activation as' a.name ≡ Some a
out_found up as' None a h = absurd (cc)
out_found zero as' (Some m) a h = ap (activation as') (found_name as' m a h) ∙ h
out_found (suc up) as' (Some m) a h = by_found (activation as' m) h (λ q. out_found up as' q a)
  where
    by_found : (o : Option Activation) → option_and_then (λ b. activation_out as' up b.around) o ≡ Some a
        → ((q : Option Name) → activation_out as' up q ≡ Some a → activation as' a.name ≡ Some a) → activation as' a.name ≡ Some a
    by_found None h more = absurd (cc)
    by_found (Some b) h more = more b.around h

-- what is seen before a write of a variable is what stood
pub variable_before-is : (n : Name) (p : ℕ) (r : Option Range) (x old : Val) (s : Store) (as' : List Activation) (now unit : ℕ) (scope : Option Name)
    → old ≡ variable_of (activation as' n) p → view_before (Of_variable n p old) s (variable_over n p r x as') now unit scope ≡ view_in s as' now unit scope
variable_before-is n p r x old s as' now unit scope is =
    λ j. record (view_in s as' now unit scope) { variable = λ up i. variable up i j; name = λ up. named up j }
  where
    here : (up : ℕ) → Option Activation
    here up = activation_out as' up scope

    named : (up : ℕ) → name_in (activation_out (variable_over n p r x as') up scope) ≡ name_in (here up)
    named up = ap name_in (out_written n p r x up as' scope) ∙ name_told n p r x (here up)

    known : (up : ℕ) (a : Activation) → here up ≡ Some a → a.name ≡ n → old ≡ variable_of (here up) p
    known up a h e =
        is ∙ ap (λ (m : Name). variable_of (activation as' m) p) (sym e) ∙ ap (λ (o : Option Activation). variable_of o p) (out_found up as' scope a h ∙ sym h)

    variable : (up i : ℕ) → variable_before n p old (activation_out (variable_over n p r x as') up scope) i ≡ variable_of (here up) i
    variable up i =
        ap (λ (o : Option Activation). variable_before n p old o i) (out_written n p r x up as' scope) ∙ variable_told n p r x (here up) i old (known up)
