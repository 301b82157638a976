-- Who descends from a process, and what a tree of processes keeps when these are over.
use Rattle.std.proofs.Common.{◌≡◌, ℕ, zero, suc, ◌<◌, ◌≤◌, Bool, true, false, List, [], ◌∷◌, Option, Some, None, length, slice_get, refl, sym, ap, ◌∙◌, arith, ◌⊎◌, inl, inr}
use Rattle.std.specs.Prelude.{◌==◌, ◌||◌, ◌&&◌, not}
use Rattle.sv_value.specs.declared.number.ProcessId.{ProcessId}
use Rattle.sv_flat.specs.Effects.{is_in}
use Rattle.sv_flat.specs.Effects.Ends.{is_running}
use Rattle.sv_fork.specs.Tree.{Join, Member, IsTree, all_ended_in, descendants_in, descends_in, ended_in, is_over_in, join_in, joins_in, member_test, parent_of}
use Rattle.sv_fork.proofs.PlaceLaws.{some_same, none_some, both, not_true, by_option, get_within}
use Rattle.sv_fork.proofs.NumberLaws.{filter_has, filter_passed, other_number, same_number}
use Rattle.sv_fork.proofs.TreeLaws.{joins_same, parent_there, over_one, length-changed, ended_one, got_ended}

-- ---- who descends

-- enough is enough
fuel_enough : (ms : List Member) (p : ProcessId) → IsTree ms → (a b : ℕ) (q : ProcessId) → q.0 < a → q.0 < b → descends_in a ms (Some q) p ≡ descends_in b ms (Some q) p
fuel_enough ms p t zero b q l m = absurd (omega arith)
fuel_enough ms p t (suc a) zero q l m = absurd (omega arith)
fuel_enough ms p t (suc a) (suc b) q l m = ap (λ c. is_running (parent_of (slice_get ms q.0)) p || c) (of_member (fuel_enough ms p t a b) (by_option (slice_get ms q.0)))
  where
    none_left : (n : ℕ) → descends_in n ms None p ≡ false
    none_left zero = refl
    none_left (suc n) = refl

    of_parent : ((r : ProcessId) → r.0 < a → r.0 < b → descends_in a ms (Some r) p ≡ descends_in b ms (Some r) p) → (o : Option ProcessId) (n : Member) → slice_get ms q.0 ≡ Some n → n.parent ≡ o
        → descends_in a ms o p ≡ descends_in b ms o p
    of_parent less None n here up = none_left a ∙ sym (none_left b)
    of_parent less (Some r) n here up =
        let below : r.0 < q.0 = t.parents q.0 n r here up in
        less r (omega (arith, below, l)) (omega (arith, below, m))

    of_member : ((r : ProcessId) → r.0 < a → r.0 < b → descends_in a ms (Some r) p ≡ descends_in b ms (Some r) p) → ((n : Member) × (slice_get ms q.0 ≡ Some n)) ⊎ (slice_get ms q.0 ≡ None)
        → descends_in a ms (parent_of (slice_get ms q.0)) p ≡ descends_in b ms (parent_of (slice_get ms q.0)) p
    of_member less (inr g) = ap (λ o. descends_in a ms (parent_of o) p) g ∙ none_left a ∙ sym (ap (λ o. descends_in b ms (parent_of o) p) g ∙ none_left b)
    of_member less (inl g) =
        ap (λ o. descends_in a ms (parent_of o) p) g.1 ∙ of_parent less g.0.parent g.0 g.1 refl ∙ sym (ap (λ o. descends_in b ms (parent_of o) p) g.1)

-- a process descends from its parent, and from those from which that one descends
pub descends_step : (ms : List Member) (p c q : ProcessId) → IsTree ms → parent_of (slice_get ms c.0) ≡ Some q
    → descends_in (length ms) ms (Some c) p ≡ ((q.0 == p.0) || descends_in (length ms) ms (Some q) p)
descends_step ms p c q t is = of_fuel (length ms) refl
  where
    there : (m : Member) × (slice_get ms c.0 ≡ Some m)
    there = parent_there ms c.0 q is

    below : q.0 < c.0
    below = t.parents c.0 there.0 q there.1 (sym (ap parent_of there.1) ∙ is)

    of_fuel : (n : ℕ) → length ms ≡ n → descends_in n ms (Some c) p ≡ ((q.0 == p.0) || descends_in n ms (Some q) p)
    of_fuel zero e = (let within : c.0 < length ms = get_within ms c.0 there.0 there.1 in absurd (omega (arith, e, within)))
    of_fuel (suc n) e =
        let within : c.0 < length ms = get_within ms c.0 there.0 there.1 in
        ap (λ o. is_running o p || descends_in n ms o p) is
        ∙ ap (λ b. (q.0 == p.0) || b) (fuel_enough ms p t n (suc n) q (omega (arith, e, within, below)) (omega (arith, e, within, below)))

-- one that no process forked
pub descends_not : (ms : List Member) (p : ProcessId) (c : ProcessId) → parent_of (slice_get ms c.0) ≡ None → descends_in (length ms) ms (Some c) p ≡ false
descends_not ms p c is = of_fuel (length ms)
  where
    none_left : (n : ℕ) → descends_in n ms None p ≡ false
    none_left zero = refl
    none_left (suc n) = refl

    of_fuel : (n : ℕ) → descends_in n ms (Some c) p ≡ false
    of_fuel zero = refl
    of_fuel (suc n) = ap (λ o. is_running o p || descends_in n ms o p) is ∙ none_left n

-- who has no greater number descends from none
pub descends_low : (ms : List Member) (p : ProcessId) → IsTree ms → (a : ℕ) (q : ProcessId) → q.0 ≤ p.0 → descends_in a ms (Some q) p ≡ false
descends_low ms p t zero q l = refl
descends_low ms p t (suc a) q l = of_parent (descends_low ms p t a) (parent_of (slice_get ms q.0)) refl
  where
    of_parent : ((r : ProcessId) → r.0 ≤ p.0 → descends_in a ms (Some r) p ≡ false) → (o : Option ProcessId) → parent_of (slice_get ms q.0) ≡ o
        → (is_running o p || descends_in a ms o p) ≡ false
    of_parent later None is = none_left a
      where
        none_left : (n : ℕ) → descends_in n ms None p ≡ false
        none_left zero = refl
        none_left (suc n) = refl
    of_parent later (Some r) is =
        let there = parent_there ms q.0 r is in
        let below : r.0 < q.0 = t.parents q.0 there.0 r there.1 (sym (ap parent_of there.1) ∙ is) in
        ap (λ b. b || descends_in a ms (Some r) p) (other_number r.0 p.0 (λ e. omega (arith, below, l, e))) ∙ later r (omega (arith, below, l))

-- ---- all living descendants are over

pub got_all : (ps : List ProcessId) (ms : List Member) (q : ℕ) → slice_get (all_ended_in ps ms) q ≡ ended_one (is_in (record { 0 = q }) ps) (slice_get ms q)
got_all [] ms q = refl
got_all (p ∷ ps) ms q = got_all ps (ended_in p ms) q ∙ ap (ended_one (is_in (record { 0 = q }) ps)) (got_ended ms p q) ∙ twice (is_in (record { 0 = q }) ps) (q == p.0) (slice_get ms q)
  where
    twice : (a b : Bool) (o : Option Member) → ended_one a (ended_one b o) ≡ ended_one (b || a) o
    twice true true (Some m) = refl
    twice true true None = refl
    twice true false o = refl
    twice false true o = refl
    twice false false o = refl

pub length-all_ended : (ps : List ProcessId) (ms : List Member) → length (all_ended_in ps ms) ≡ length ms
length-all_ended [] ms = refl
length-all_ended (p ∷ ps) ms = length-all_ended ps (ended_in p ms) ∙ length-changed ms over_one p

-- the parents are those that they were
parent_all : (ps : List ProcessId) (ms : List Member) (q : ℕ) → parent_of (slice_get (all_ended_in ps ms) q) ≡ parent_of (slice_get ms q)
parent_all ps ms q = ap parent_of (got_all ps ms q) ∙ of_member (is_in (record { 0 = q }) ps) (slice_get ms q)
  where
    of_member : (b : Bool) (o : Option Member) → parent_of (ended_one b o) ≡ parent_of o
    of_member true (Some m) = refl
    of_member true None = refl
    of_member false o = refl

-- the children of one that waits are no living descendants of a process where it is none, and is not the process itself
child_over : (ms : List Member) (p : ProcessId) (q : ℕ) (n : Member) (j : Join) (c : ProcessId) → IsTree ms → join_in (slice_get ms p.0) ≡ None → slice_get ms q ≡ Some n
    → n.join ≡ Some j → parent_of (slice_get ms c.0) ≡ Some (record { 0 = q }) → is_in (record { 0 = q }) (descendants_in ms p) ≡ false → is_in c (descendants_in ms p) ≡ true → ⊥
child_over ms p q n j c t idle here join parent past h = of_step (q == p.0) refl (sym step ∙ descends)
  where
    fuel : ℕ
    fuel = length ms

    test : ProcessId → Bool
    test r = member_test (λ m. descends_in fuel ms (Some r) p && not m.over) (slice_get ms r.0)

    first_true : (o : Option Member) (a : Bool) → member_test (λ m. a && not m.over) o ≡ true → a ≡ true
    first_true None a g = both g refl
    first_true (Some m) true g = refl
    first_true (Some m) false g = both g refl

    descends : descends_in fuel ms (Some c) p ≡ true
    descends = first_true (slice_get ms c.0) (descends_in fuel ms (Some c) p) (filter_passed test 0 ms c h)

    step : descends_in fuel ms (Some c) p ≡ ((q == p.0) || descends_in fuel ms (Some (record { 0 = q })) p)
    step = descends_step ms p c (record { 0 = q }) t parent

    -- it would be over
    living : descends_in fuel ms (Some (record { 0 = q })) p ≡ true → test (record { 0 = q }) ≡ true
    living g =
        ap (member_test (λ m. descends_in fuel ms (Some (record { 0 = q })) p && not m.over)) here
        ∙ (λ i. g i && not (t.over q n j here join i))

    of_step : (b : Bool) → (q == p.0) ≡ b → (b || descends_in fuel ms (Some (record { 0 = q })) p) ≡ true → ⊥
    of_step true e g = none_some (sym (sym (ap join_in (ap (slice_get ms) (sym (same_number q p.0 e)) ∙ here) ∙ join) ∙ idle))
    of_step false e g =
        let within : q < length ms = get_within ms q n here in
        both (filter_has test 0 ms (record { 0 = q }) (omega arith) (omega (arith, within)) (living g)) past

-- all living descendants of a process that waits for none are over
pub tree_all : (ms : List Member) (p : ProcessId) → IsTree ms → join_in (slice_get ms p.0) ≡ None → IsTree (all_ended_in (descendants_in ms p) ms)
tree_all ms p t idle = record { parents = parents; over = over; children = children; waiting = waiting }
  where
    ps : List ProcessId
    ps = descendants_in ms p

    us : List Member
    us = all_ended_in ps ms

    -- what stood there
    was : (q : ℕ) (n : Member) → slice_get us q ≡ Some n → (m : Member) × (slice_get ms q ≡ Some m) × (n.parent ≡ m.parent) × ((j : Join) → n.join ≡ Some j → (n ≡ m) × (is_in (record { 0 = q }) ps ≡ false))
    was q n h = of_both (is_in (record { 0 = q }) ps) refl (slice_get ms q) refl (sym (got_all ps ms q) ∙ h)
      where
        of_both : (b : Bool) → is_in (record { 0 = q }) ps ≡ b → (o : Option Member) → slice_get ms q ≡ o → ended_one b o ≡ Some n
            → (m : Member) × (slice_get ms q ≡ Some m) × (n.parent ≡ m.parent) × ((j : Join) → n.join ≡ Some j → (n ≡ m) × (is_in (record { 0 = q }) ps ≡ false))
        of_both true e None is g = none_some g
        of_both true e (Some m) is g =
            (m, is, sym (ap (λ (k : Member). k.parent) (some_same g)), λ j f. none_some (ap (λ (k : Member). k.join) (some_same g) ∙ f))
        of_both false e None is g = none_some g
        of_both false e (Some m) is g = (m, is, sym (ap (λ (k : Member). k.parent) (some_same g)), λ j f. (sym (some_same g), e))

    parents : (q : ℕ) (n : Member) (r : ProcessId) → slice_get us q ≡ Some n → n.parent ≡ Some r → r.0 < q
    parents q n r h e = (let w = was q n h in t.parents q w.0 r w.1 (sym w.2 ∙ e))

    over : (q : ℕ) (n : Member) (j : Join) → slice_get us q ≡ Some n → n.join ≡ Some j → n.over ≡ false
    over q n j h e =
        let w = was q n h in
        t.over q n j (w.1 ∙ ap Some (sym (w.3 j e).0)) e

    children : (q : ℕ) (n : Member) (j : Join) (c : ProcessId) → slice_get us q ≡ Some n → n.join ≡ Some j → is_in c j.children ≡ true
        → parent_of (slice_get us c.0) ≡ Some (record { 0 = q })
    children q n j c h e k =
        let w = was q n h in
        parent_all ps ms c.0 ∙ t.children q n j c (w.1 ∙ ap Some (sym (w.3 j e).0)) e k

    waiting : (q : ℕ) (n : Member) → slice_get us q ≡ Some n → joins_in us n.join ≡ false
    waiting q n h = of_join n.join refl
      where
        of_join : (o : Option Join) → n.join ≡ o → joins_in us o ≡ false
        of_join None e = refl
        of_join (Some j) e = joins_same us ms j same ∙ sym (ap (joins_in ms) e) ∙ t.waiting q n here
          where
            w : (m : Member) × (slice_get ms q ≡ Some m) × (n.parent ≡ m.parent) × ((j : Join) → n.join ≡ Some j → (n ≡ m) × (is_in (record { 0 = q }) ps ≡ false))
            w = was q n h

            here : slice_get ms q ≡ Some n
            here = w.1 ∙ ap Some (sym (w.3 j e).0)

            -- a living descendant with this parent: the parent is the process, or one that would be over
            never : (c : ProcessId) → is_in c j.children ≡ true → is_in c ps ≡ true → ⊥
            never c k g = child_over ms p q n j c t idle here e (t.children q n j c here e k) (w.3 j e).1 g

            same : (c : ProcessId) → is_in c j.children ≡ true → is_over_in us c ≡ is_over_in ms c
            same c k =
                ap (member_test (λ m. m.over)) (got_all ps ms c.0
                ∙ ap (λ b. ended_one b (slice_get ms c.0)) (not_true (is_in c ps) (never c k)))
