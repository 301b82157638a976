-- Processes with their parents and their children, where one of them changes or comes.
use Rattle.std.proofs.Common.{ℕ, zero, suc, ◌≡◌, ◌+◌, ◌<◌, ◌≤◌, List, [], ◌∷◌, ◌++◌, Option, None, Some, Bool, true, false, refl, ap, subst, sym, ◌∙◌, arith, length, slice_get, slice_set, inl, inr}
use Rattle.std.specs.Prelude.{◌⊎◌, ◌^◌, ◌&&◌, ◌||◌, ◌==◌, if◌then◌else◌}
use Rattle.std.specs.List.{AllByRecursion, list_all, list_any}
use Rattle.std.proofs.lemmas.Bool.Decides.{nat_tests}
use Rattle.sv_value.specs.declared.number.ProcessId.{ProcessId}
use Rattle.sv_value.specs.declared.schedule.Side.{Side}
use Rattle.sv_value.specs.declared.schedule.Range.{Range}
use Rattle.sv_value.specs.declared.val.Val.{Val}
use Rattle.sv_flat.specs.State.{Name, Activation, same_name}
use Rattle.sv_flat.specs.Effects.Writes.{variable_over, changed_at, value_over}
use Rattle.sv_flat.specs.Process
use Rattle.sv_flat.specs.Process.{ProcessState, Status, Ready, Running, Waiting, Moment, Turn_in_slot, Watches, Children, Queue, Start}
use Rattle.sv_flat.specs.Config.{side_in, state_test}
use Rattle.sv_flat.specs.Effects.Ends.{is_ended, parent_in}
use Rattle.sv_sound.specs.Sound.{IsMadeBy, is_parked, is_over_among, is_complete, IsChild, AreChildren, IsUnder, IsRelated, AreRelated}
use Rattle.sv_sound.proofs.Weights.{within}

some_same : {A : Type 0} {a b : A} → Some a ≡ Some b → a ≡ b
some_same h = cc

-- ---- lists

pub length_set : {A : Type 0} (xs : List A) (i : ℕ) (v : A) → length (slice_set xs i v) ≡ length xs
length_set [] i v = refl
length_set (x ∷ xs) zero v = refl
length_set (x ∷ xs) (suc i) v = ap suc (length_set xs i v)

-- what stands at a number where one was changed
pub found_in : {A : Type 0} (xs : List A) (i j : ℕ) (v x : A) → slice_get (slice_set xs i v) j ≡ Some x → (slice_get xs j ≡ Some x) ⊎ ((j ≡ i) × (v ≡ x))
found_in [] i j v x h = absurd (cc)
found_in (y ∷ xs) zero zero v x h = inr (refl, some_same h)
found_in (y ∷ xs) zero (suc j) v x h = inl h
found_in (y ∷ xs) (suc i) zero v x h = inl h
found_in (y ∷ xs) (suc i) (suc j) v x h = by_place (found_in xs i j v x h)
  where
    by_place : (slice_get xs j ≡ Some x) ⊎ ((j ≡ i) × (v ≡ x)) → (slice_get xs j ≡ Some x) ⊎ ((suc j ≡ suc i) × (v ≡ x))
    by_place (inl e) = inl e
    by_place (inr e) = inr (ap suc e.0, e.1)

-- what is told of each place stays where it does of the one that changes
pub told_set : {A B : Type 0} (g : Option A → B) (xs : List A) (i j : ℕ) (x v : A) → slice_get xs i ≡ Some x → g (Some v) ≡ g (Some x)
    → g (slice_get (slice_set xs i v) j) ≡ g (slice_get xs j)
told_set g [] i j x v e h = absurd (cc)
told_set g (y ∷ xs) zero zero x v e h = h ∙ ap g (sym e)
told_set g (y ∷ xs) zero (suc j) x v e h = refl
told_set g (y ∷ xs) (suc i) zero x v e h = refl
told_set g (y ∷ xs) (suc i) (suc j) x v e h = told_set g xs i j x v e h

-- a test that one passes only where it did passes nowhere else
pub tested_set : {A : Type 0} (g : Option A → Bool) (xs : List A) (i j : ℕ) (x v : A) → slice_get xs i ≡ Some x → (g (Some v) ≡ true → g (Some x) ≡ true)
    → g (slice_get (slice_set xs i v) j) ≡ true → g (slice_get xs j) ≡ true
tested_set g [] i j x v e h k = absurd (cc)
tested_set g (y ∷ xs) zero zero x v e h k = ap g e ∙ h k
tested_set g (y ∷ xs) zero (suc j) x v e h k = k
tested_set g (y ∷ xs) (suc i) zero x v e h k = k
tested_set g (y ∷ xs) (suc i) (suc j) x v e h k = tested_set g xs i j x v e h k

-- what stands at a number where one was added
pub found_more : {A : Type 0} (xs : List A) (j : ℕ) (v x : A) → slice_get (xs ++ v ∷ []) j ≡ Some x → (slice_get xs j ≡ Some x) ⊎ ((j ≡ length xs) × (v ≡ x))
found_more [] zero v x h = inr (refl, some_same h)
found_more [] (suc j) v x h = absurd (cc)
found_more (y ∷ xs) zero v x h = inl h
found_more (y ∷ xs) (suc j) v x h = by_place (found_more xs j v x h)
  where
    by_place : (slice_get xs j ≡ Some x) ⊎ ((j ≡ length xs) × (v ≡ x)) → (slice_get xs j ≡ Some x) ⊎ ((suc j ≡ suc (length xs)) × (v ≡ x))
    by_place (inl e) = inl e
    by_place (inr e) = inr (ap suc e.0, e.1)

pub get_before : {A : Type 0} (xs : List A) (j : ℕ) (v : A) → j < length xs → slice_get (xs ++ v ∷ []) j ≡ slice_get xs j
get_before [] j v h = absurd (omega (arith, h))
get_before (x ∷ xs) zero v h = refl
get_before (x ∷ xs) (suc j) v h = get_before xs j v (omega (arith, h))

pub get_last : {A : Type 0} (xs : List A) (v : A) → slice_get (xs ++ v ∷ []) (length xs) ≡ Some v
get_last [] v = refl
get_last (x ∷ xs) v = get_last xs v

pub get_none : {A : Type 0} (xs : List A) (j : ℕ) → length xs ≤ j → slice_get xs j ≡ None
get_none [] j h = refl
get_none (x ∷ xs) zero h = absurd (omega (arith, h))
get_none (x ∷ xs) (suc j) h = get_none xs j (omega (arith, h))

-- ---- tests of lists

and_left : (a b : Bool) → (a && b) ≡ true → a ≡ true
and_left true b h = refl
and_left false b h = absurd (cc)

-- where one of two tests holds less often, it does not hold of all where the other does not
less_all : {A : Type 0} (f g : A → Bool) → ((x : A) → f x ≡ true → g x ≡ true) → (xs : List A) → list_all g xs ≡ false → list_all f xs ≡ false
less_all f g h [] k = absurd (cc)
less_all f g h (x ∷ xs) k = by_tests (f x) (g x) (h x) (less_all f g h xs) k
  where
    by_tests : (a b : Bool) → (a ≡ true → b ≡ true) → (list_all g xs ≡ false → list_all f xs ≡ false) → (b && list_all g xs) ≡ false → (a && list_all f xs) ≡ false
    by_tests false b l i e = refl
    by_tests true true l i e = i e
    by_tests true false l i e = absurd (let z : false ≡ true = l refl in cc)

less_any : {A : Type 0} (f g : A → Bool) → ((x : A) → f x ≡ true → g x ≡ true) → (xs : List A) → list_any g xs ≡ false → list_any f xs ≡ false
less_any f g h [] k = k
less_any f g h (x ∷ xs) k = by_tests (f x) (g x) (h x) (less_any f g h xs) k
  where
    by_tests : (a b : Bool) → (a ≡ true → b ≡ true) → (list_any g xs ≡ false → list_any f xs ≡ false) → (b || list_any g xs) ≡ false → (a || list_any f xs) ≡ false
    by_tests false false l i e = i e
    by_tests false true l i e = absurd (cc)
    by_tests true true l i e = absurd (cc)
    by_tests true false l i e = absurd (let z : false ≡ true = l refl in cc)

-- two tests that tell the same of all these
pub same_all : {A : Type 0} (P : A → Type 0) (f g : A → Bool) → ((x : A) → P x → f x ≡ g x) → (xs : List A) → AllByRecursion P xs → list_all f xs ≡ list_all g xs
same_all P f g h [] k = refl
same_all P f g h (x ∷ xs) k = λ i. h x k.0 i && same_all P f g h xs k.1 i

pub same_any : {A : Type 0} (P : A → Type 0) (f g : A → Bool) → ((x : A) → P x → f x ≡ g x) → (xs : List A) → AllByRecursion P xs → list_any f xs ≡ list_any g xs
same_any P f g h [] k = refl
same_any P f g h (x ∷ xs) k = λ i. h x k.0 i || same_any P f g h xs k.1 i

pub all_to : {A : Type 0} (P Q : A → Type 0) → ((x : A) → P x → Q x) → (xs : List A) → AllByRecursion P xs → AllByRecursion Q xs
all_to P Q h [] k = tt
all_to P Q h (x ∷ xs) k = (h x k.0, all_to P Q h xs k.1)

-- ---- activations of processes that there are

pub made_set : (qs : List ProcessState) (i : ℕ) (v : ProcessState) (as' : List Activation) → AllByRecursion (IsMadeBy qs) as' → AllByRecursion (IsMadeBy (slice_set qs i v)) as'
made_set qs i v as' h = all_to (IsMadeBy qs) (IsMadeBy (slice_set qs i v)) (λ a l. let e = length_set qs i v in omega (arith, e, l)) as' h

pub length_more : (qs : List ProcessState) (v : ProcessState) → length (qs ++ v ∷ []) ≡ length qs + 1
length_more [] v = refl
length_more (q ∷ qs) v = let e = length_more qs v in omega (arith, e)

pub made_more : (qs : List ProcessState) (v : ProcessState) (as' : List Activation) → AllByRecursion (IsMadeBy qs) as' → AllByRecursion (IsMadeBy (qs ++ v ∷ [])) as'
made_more qs v as' h = all_to (IsMadeBy qs) (IsMadeBy (qs ++ v ∷ [])) (λ a l. let e = length_more qs v in omega (arith, e, l)) as' h

-- a write to a variable leaves them as they are
pub made_over : (qs : List ProcessState) (n : Name) (i : ℕ) (r : Option Range) (x : Val) (as' : List Activation) → AllByRecursion (IsMadeBy qs) as' → AllByRecursion (IsMadeBy qs) (variable_over n i r x as')
made_over qs n i r x [] h = tt
made_over qs n i r x (a ∷ as') h = by_name (same_name a.name n) (made_over qs n i r x as' h.1)
  where
    by_name : (y : Bool) → AllByRecursion (IsMadeBy qs) (variable_over n i r x as')
        → AllByRecursion (IsMadeBy qs) (if y then record a { values = changed_at a.values i (λ v. value_over v r x) } ∷ as' else a ∷ variable_over n i r x as')
    by_name true k = (h.0, h.1)
    by_name false k = (h.0, k)

-- ---- a process that waits for no children

abbrev pub is_joining : Status → Bool
is_joining (Waiting (Children all ps)) = true
is_joining s = false

pub no_children : (qs : List ProcessState) (p : ProcessId) (s : Status) → is_joining s ≡ false → AreChildren qs p s × (is_complete qs s ≡ false)
no_children qs p (Waiting (Children all ps)) h = absurd (cc)
no_children qs p (Waiting (Watches ws scope)) h = (tt, refl)
no_children qs p (Waiting Start) h = (tt, refl)
no_children qs p (Waiting Moment) h = (tt, refl)
no_children qs p (Waiting Turn_in_slot) h = (tt, refl)
no_children qs p (Waiting Queue) h = (tt, refl)
no_children qs p Ready h = (tt, refl)
no_children qs p Running h = (tt, refl)
no_children qs p Process.Ended h = (tt, refl)

-- one that is not parked waits for none
pub not_joining : (s : Status) → is_parked s ≡ false → is_joining s ≡ false
not_joining (Waiting (Children all ps)) h = absurd (cc)
not_joining (Waiting (Watches ws scope)) h = refl
not_joining (Waiting Start) h = refl
not_joining (Waiting Moment) h = refl
not_joining (Waiting Turn_in_slot) h = refl
not_joining (Waiting Queue) h = refl
not_joining Ready h = refl
not_joining Running h = refl
not_joining Process.Ended h = refl

-- ---- what leaves parents and children as they are, and ends none

pub record Keeps (qs rs : List ProcessState) : Type 0 where
  pub child : (p r : ProcessId) → IsChild qs p r → IsChild rs p r
  pub sides : (i : ℕ) → i < length qs → side_in (slice_get rs i) ≡ side_in (slice_get qs i)
  pub over : (r : ProcessId) → is_over_among rs r ≡ true → is_over_among qs r ≡ true

module _ (qs rs : List ProcessState) (k : Keeps qs rs) where
  complete_kept : (s : Status) → is_complete qs s ≡ false → is_complete rs s ≡ false
  complete_kept (Waiting (Children true ps)) h = less_all (is_over_among rs) (is_over_among qs) k.over ps h
  complete_kept (Waiting (Children false ps)) h = less_any (is_over_among rs) (is_over_among qs) k.over ps h
  complete_kept (Waiting (Watches ws scope)) h = refl
  complete_kept (Waiting Start) h = refl
  complete_kept (Waiting Moment) h = refl
  complete_kept (Waiting Turn_in_slot) h = refl
  complete_kept (Waiting Queue) h = refl
  complete_kept Ready h = refl
  complete_kept Running h = refl
  complete_kept Process.Ended h = refl

  pub children_kept : (p : ProcessId) (s : Status) → AreChildren qs p s → AreChildren rs p s
  children_kept p (Waiting (Children all ps)) h = all_to (IsChild qs p) (IsChild rs p) (k.child p) ps h
  children_kept p s h = tt

  under_kept : (p : ProcessId) → p.0 < length qs → (s : Side) (o : Option ProcessId) → IsUnder qs p s o → IsUnder rs p s o
  under_kept p l s None h = tt
  under_kept p l s (Some r) h = (h.0, k.sides r.0 (let m = h.0 in omega (arith, m, l)) ∙ h.1)

  pub related_kept : (p : ProcessId) (q : ProcessState) → p.0 < length qs → IsRelated qs p q → IsRelated rs p q
  related_kept p q l h = record { parent = under_kept p l q.side q.parent h.parent; children = children_kept p q.latest h.children; waits = complete_kept q.latest h.waits }

-- ---- one comes into another state

module _ (qs : List ProcessState) (k : AreRelated qs) (p : ProcessId) (q : ProcessState) (is : slice_get qs p.0 ≡ Some q) (v : ProcessState) (side : v.side ≡ q.side) (parent : v.parent ≡ q.parent) where
  abbrev pub rs : List ProcessState
  rs = slice_set qs p.0 v

  child_set : (a r : ProcessId) → IsChild qs a r → IsChild rs a r
  child_set a r h l = told_set parent_in qs p.0 r.0 q v is parent ∙ h l

  sides_set : (i : ℕ) → side_in (slice_get rs i) ≡ side_in (slice_get qs i)
  sides_set i = told_set side_in qs p.0 i q v is side

  set_keeps : (is_ended v.latest ≡ true → is_ended q.latest ≡ true) → Keeps qs rs
  set_keeps o = record {
    child = child_set;
    sides = λ i l. sides_set i;
    over = λ r e. tested_set (state_test (λ q. is_ended q.latest)) qs p.0 r.0 q v is o e;
  }

  -- it is not over where it was not, and waits for no children that it did not wait for
  pub related_set : (is_ended v.latest ≡ true → is_ended q.latest ≡ true) → AreChildren qs p v.latest × (is_complete qs v.latest ≡ false) → AreRelated rs
  related_set o w =
      let n = set_keeps o in
      let new : IsRelated qs p v = record {
        parent = subst (λ o. IsUnder qs p v.side o) (sym parent) (subst (λ s. IsUnder qs p s q.parent) (sym side) (k.each p q is).parent);
        children = w.0;
        waits = w.1;
      } in
      record {
        few = (let l = length_set qs p.0 v in let f = k.few in omega (arith, l, f));
        each = λ r s e. by_place r s (found_in qs p.0 r.0 v s e) n new;
      }
    where
      by_place : (r : ProcessId) (s : ProcessState) → (slice_get qs r.0 ≡ Some s) ⊎ ((r.0 ≡ p.0) × (v ≡ s)) → Keeps qs rs → IsRelated qs p v → IsRelated rs r s
      by_place r s (inl e) n new = related_kept qs rs n r s (within qs r.0 s e) (k.each r s e)
      by_place r s (inr e) n new =
          let same : p ≡ r = λ i. record { 0 = sym e.0 i } in
          subst (λ s. IsRelated rs r s) e.1 (subst (λ r. IsRelated rs r v) same (related_kept qs rs n p v (within qs p.0 q is) new))

-- ---- a child more

module _ (qs : List ProcessState) (k : AreRelated qs) (p : ProcessId) (q : ProcessState) (is : slice_get qs p.0 ≡ Some q) (v : ProcessState) (side : v.side ≡ q.side) (parent : v.parent ≡ Some p) (ready : v.latest ≡ Ready) where
  abbrev pub more : List ProcessState
  more = qs ++ v ∷ []

  parents_before : (a : ProcessId) (i : ℕ) → parent_in (slice_get qs i) ≡ Some a → i < length qs
  parents_before a i h = by_state (slice_get qs i) refl h
    where
      by_state : (o : Option ProcessState) → slice_get qs i ≡ o → parent_in o ≡ Some a → i < length qs
      by_state None e h = absurd (cc)
      by_state (Some s) e h = within qs i s e

  more_keeps : Keeps qs more
  more_keeps = record {
    child = λ a r h l. ap parent_in (get_before qs r.0 v (parents_before a r.0 (h l))) ∙ h l;
    sides = λ i l. ap side_in (get_before qs i v l);
    over = λ r e. by_state r (slice_get more r.0) refl e;
  }
    where
      by_state : (r : ProcessId) (o : Option ProcessState) → slice_get more r.0 ≡ o → state_test (λ q. is_ended q.latest) o ≡ true → is_over_among qs r ≡ true
      by_state r None e h = absurd (cc)
      by_state r (Some s) e h = by_place (found_more qs r.0 v s e)
        where
          by_place : (slice_get qs r.0 ≡ Some s) ⊎ ((r.0 ≡ length qs) × (v ≡ s)) → is_over_among qs r ≡ true
          by_place (inl f) = ap (state_test (λ q. is_ended q.latest)) f ∙ h
          by_place (inr f) = let z : false ≡ true = sym (ap is_ended ready) ∙ ap (λ (u : ProcessState). is_ended u.latest) f.1 ∙ h in absurd (cc)

  pub related_more : length qs < 2 ^ 18 → AreRelated more
  related_more l = record {
    few = (let e = length_more qs v in omega (arith, l, e));
    each = λ r s e. by_place r s (found_more qs r.0 v s e);
  }
    where
      before : p.0 < length qs
      before = within qs p.0 q is

      of_new : (r : ProcessId) → r.0 ≡ length qs → IsRelated more r v
      of_new r e =
          let w = no_children more r v.latest (ap is_joining ready) in
          record {
            parent = subst (λ o. IsUnder more r v.side o) (sym parent) (let b = before in omega (arith, b, e), ap side_in (get_before qs p.0 v before ∙ is) ∙ sym side);
            children = w.0;
            waits = w.1;
          }

      by_place : (r : ProcessId) (s : ProcessState) → (slice_get qs r.0 ≡ Some s) ⊎ ((r.0 ≡ length qs) × (v ≡ s)) → IsRelated more r s
      by_place r s (inl e) = related_kept qs more more_keeps r s (within qs r.0 s e) (k.each r s e)
      by_place r s (inr e) = subst (λ s. IsRelated more r s) e.1 (of_new r e.0)

-- ---- one is over

module _ (qs : List ProcessState) (k : AreRelated qs) (p : ProcessId) (q : ProcessState) (is : slice_get qs p.0 ≡ Some q) (v : ProcessState) (side : v.side ≡ q.side) (parent : v.parent ≡ q.parent) where
  abbrev pub over : List ProcessState
  over = slice_set qs p.0 v

  -- a join of another than its parent is complete only where it was
  pub complete_still : (a : ProcessId) (s : ProcessState) → slice_get qs a.0 ≡ Some s → (q.parent ≡ Some a → ⊥) → is_complete over s.latest ≡ false
  complete_still a s e apart = by_status s.latest (k.each a s e).children (k.each a s e).waits
    where
      few : p.0 < 2 ^ 18
      few = let l = within qs p.0 q is in let f = k.few in omega (arith, l, f)

      same_over : (r : ProcessId) → IsChild qs a r → is_over_among over r ≡ is_over_among qs r
      same_over r c = by_test (p.0 == r.0) refl
        where
          by_test : (b : Bool) → (p.0 == r.0) ≡ b → is_over_among over r ≡ is_over_among qs r
          by_test true t =
              let same : p.0 ≡ r.0 = grind (arith, nat_tests) in
              absurd (apart (ap parent_in (sym is) ∙ ap (λ n. parent_in (slice_get qs n)) same ∙ c (let f = few in omega (arith, f, same))))
          by_test false t = ap (state_test (λ q. is_ended q.latest)) (other qs p.0 r.0 (λ e. let z : true ≡ false = sym (self p.0 r.0 e) ∙ t in absurd (cc)))
            where
              self : (m n : ℕ) → m ≡ n → (m == n) ≡ true
              self m n e = grind (arith, nat_tests)

              other : (xs : List ProcessState) (i j : ℕ) → (i ≡ j → ⊥) → slice_get (slice_set xs i v) j ≡ slice_get xs j
              other [] i j h = refl
              other (x ∷ xs) zero zero h = absurd (h refl)
              other (x ∷ xs) zero (suc j) h = refl
              other (x ∷ xs) (suc i) zero h = refl
              other (x ∷ xs) (suc i) (suc j) h = other xs i j (λ e. h (ap suc e))

      by_status : (l : Status) → AreChildren qs a l → is_complete qs l ≡ false → is_complete over l ≡ false
      by_status (Waiting (Children true ps)) c h = same_all (IsChild qs a) (is_over_among over) (is_over_among qs) same_over ps c ∙ h
      by_status (Waiting (Children false ps)) c h = same_any (IsChild qs a) (is_over_among over) (is_over_among qs) same_over ps c ∙ h
      by_status l c h = h

  -- where the join of its parent is not complete, all are as they shall be
  pub related_over : is_joining v.latest ≡ false → ((a : ProcessId) (s : ProcessState) → q.parent ≡ Some a → slice_get qs a.0 ≡ Some s → is_complete over s.latest ≡ false) → AreRelated over
  related_over n h = record {
    few = (let l = length_set qs p.0 v in let f = k.few in omega (arith, l, f));
    each = λ r s e. by_place r s (found_in qs p.0 r.0 v s e);
  }
    where
      under : (r : ProcessId) (s : Side) (o : Option ProcessId) → IsUnder qs r s o → IsUnder over r s o
      under r s None u = tt
      under r s (Some a) u = (u.0, told_set side_in qs p.0 a.0 q v is side ∙ u.1)

      children : (r : ProcessId) (l : Status) → AreChildren qs r l → AreChildren over r l
      children r (Waiting (Children all ps)) c = all_to (IsChild qs r) (IsChild over r) (λ x y m. told_set parent_in qs p.0 x.0 q v is parent ∙ y m) ps c
      children r l c = tt

      by_parent : (r : ProcessId) (s : ProcessState) → slice_get qs r.0 ≡ Some s → (o : Option ProcessId) → q.parent ≡ o → is_complete over s.latest ≡ false
      by_parent r s e None f = complete_still r s e (λ g. let z : None ≡ Some r = sym f ∙ g in absurd (cc))
      by_parent r s e (Some a) f = by_test (a.0 == r.0) refl
        where
          by_test : (b : Bool) → (a.0 == r.0) ≡ b → is_complete over s.latest ≡ false
          by_test true t =
              let same : a.0 ≡ r.0 = grind (arith, nat_tests) in
              h a s f (ap (slice_get qs) same ∙ e)
          by_test false t =
              complete_still r s e (λ g.
              let same : a ≡ r = some_same (sym f ∙ g) in
              let z : (r.0 == r.0) ≡ false = ap (λ (x : ProcessId). x.0 == r.0) (sym same) ∙ t in
              absurd (self r.0 z))
            where
              self : (m : ℕ) → (m == m) ≡ false → ⊥
              self m e = grind (arith, nat_tests)

      by_place : (r : ProcessId) (s : ProcessState) → (slice_get qs r.0 ≡ Some s) ⊎ ((r.0 ≡ p.0) × (v ≡ s)) → IsRelated over r s
      by_place r s (inl e) =
          let m = k.each r s e in
          record { parent = under r s.side s.parent m.parent; children = children r s.latest m.children; waits = by_parent r s e q.parent refl }
      by_place r s (inr e) =
          let w = no_children over r s.latest (ap (λ (u : ProcessState). is_joining u.latest) (sym e.1) ∙ n) in
          let old : IsUnder qs p q.side q.parent = (k.each p q is).parent in
          let same : p ≡ r = λ i. record { 0 = sym e.0 i } in
          let here : IsUnder over r v.side v.parent =
          under r v.side v.parent (subst (λ x. IsUnder qs x v.side v.parent) same (subst (λ o. IsUnder qs p v.side o) (sym parent) (subst (λ s. IsUnder qs p s q.parent) (sym side) old))) in
          record { parent = subst (λ (u : ProcessState). IsUnder over r u.side u.parent) e.1 here; children = w.0; waits = w.1 }
