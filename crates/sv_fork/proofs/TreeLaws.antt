-- What a tree of processes keeps when a process begins, waits, or is over.
use Rattle.std.proofs.Common.{◌≡◌, ◌≢◌, ℕ, suc, ◌<◌, ◌≤◌, Bool, true, false, cond, List, [], ◌∷◌, ◌++◌, Option, Some, None, length, slice_get, slice_set, refl, sym, ap, ◌∙◌, subst, arith, ◌⊎◌, inl, inr, ⊎_elim}
use Rattle.std.specs.Prelude.{◌==◌, ◌||◌, ◌&&◌, not, is_some}
use Rattle.std.specs.List.{list_any, list_all}
use Rattle.std.proofs.lemmas.Bool.{cases_eq}
use Rattle.sv_value.specs.declared.number.ProcessId.{ProcessId}
use Rattle.sv_value.specs.declared.schedule.Side.{Side}
use Rattle.sv_flat.specs.Effects.{is_in}
use Rattle.sv_flat.specs.Effects.Ends.{is_running}
use Rattle.sv_fork.specs.Tree.{Join, Member, IsTree, awaiting_in, changed_in, child_in, ended_in, is_awaited, is_awaited_by, is_living_child, is_over_in, join_in, joins_in, member_test, parent_of, with_root}
use Rattle.sv_fork.specs.Living.{OverLess}
use Rattle.sv_fork.proofs.PlaceLaws.{some_same, none_some, both, by_option, get_front, get_split, get_set, get_set-other, get_past, get_there, get_within, length-set}
use Rattle.sv_fork.proofs.NumberLaws.{all_less, all_passed, all_same, any_less, any_same, number_same, same_number}

-- ---- a changed process

pub changed_is : (ms : List Member) (f : Member → Member) (p : ProcessId) (m x : Member) → slice_get ms p.0 ≡ Some m → x ≡ f m
    → slice_set ms p.0 x ≡ changed_in (slice_get ms p.0) f p ms
changed_is ms f p m x here is = ap (slice_set ms p.0) is ∙ sym (ap (λ o. changed_in o f p ms) here)

pub changed_past : (ms : List Member) (f : Member → Member) (p : ProcessId) → length ms ≤ p.0 → ms ≡ changed_in (slice_get ms p.0) f p ms
changed_past ms f p h = sym (ap (λ o. changed_in o f p ms) (get_past ms p.0 h))

-- ---- joins

pub joins_less : (us ms : List Member) (o : Option Join) → OverLess us ms → joins_in ms o ≡ false → joins_in us o ≡ false
joins_less us ms None h e = refl
joins_less us ms (Some j) h e = of_kind j.all e
  where
    of_kind : (b : Bool) → cond b (list_all (is_over_in ms) j.children) (list_any (is_over_in ms) j.children) ≡ false
        → cond b (list_all (is_over_in us) j.children) (list_any (is_over_in us) j.children) ≡ false
    of_kind true e = all_less (is_over_in us) (is_over_in ms) j.children h.each e
    of_kind false e = any_less (is_over_in us) (is_over_in ms) j.children h.each e

-- a join whose children stand as they did
pub joins_same : (us ms : List Member) (j : Join) → ((c : ProcessId) → is_in c j.children ≡ true → is_over_in us c ≡ is_over_in ms c) → joins_in us (Some j) ≡ joins_in ms (Some j)
joins_same us ms j h = λ i. cond j.all (all_same (is_over_in us) (is_over_in ms) j.children h i) (any_same (is_over_in us) (is_over_in ms) j.children h i)

-- ---- a process more

pub parent_there : (ms : List Member) (c : ℕ) (p : ProcessId) → parent_of (slice_get ms c) ≡ Some p → (m : Member) × (slice_get ms c ≡ Some m)
parent_there ms c p h = of_cases (by_option (slice_get ms c))
  where
    of_cases : ((m : Member) × (slice_get ms c ≡ Some m)) ⊎ (slice_get ms c ≡ None) → (m : Member) × (slice_get ms c ≡ Some m)
    of_cases (inl g) = g
    of_cases (inr g) = none_some (sym (ap parent_of g) ∙ h)

pub over_more : (ms : List Member) (x : Member) → x.over ≡ false → OverLess (ms ++ x ∷ []) ms
over_more ms x h = record { each = each }
  where
    each : (c : ProcessId) → is_over_in (ms ++ x ∷ []) c ≡ true → is_over_in ms c ≡ true
    each c e = of_cases (by_option (slice_get (ms ++ x ∷ []) c.0))
      where
        of_split : (m : Member) → slice_get (ms ++ x ∷ []) c.0 ≡ Some m → (slice_get ms c.0 ≡ Some m) ⊎ ((c.0 ≡ length ms) × (x ≡ m)) → is_over_in ms c ≡ true
        of_split m g (inl k) = ap (member_test (λ n. n.over)) (k ∙ sym g) ∙ e
        of_split m g (inr k) = both (sym (ap (member_test (λ n. n.over)) (g ∙ ap Some (sym k.1))) ∙ e) h

        of_cases : ((m : Member) × (slice_get (ms ++ x ∷ []) c.0 ≡ Some m)) ⊎ (slice_get (ms ++ x ∷ []) c.0 ≡ None) → is_over_in ms c ≡ true
        of_cases (inl g) = of_split g.0 g.1 (get_split ms x c.0 g.0 g.1)
        of_cases (inr g) = both e (ap (member_test (λ n. n.over)) g)

pub tree_none : IsTree []
tree_none =
    record {
      parents = λ q m p h e. none_some h;
      over = λ q m j h e. none_some h;
      children = λ q m j c h e k. none_some h;
      waiting = λ q m h. none_some h;
    }

pub tree_more : (ms : List Member) (x : Member) → IsTree ms → x.over ≡ false → x.join ≡ None → ((p : ProcessId) → x.parent ≡ Some p → p.0 < length ms) → IsTree (ms ++ x ∷ [])
tree_more ms x t lives none below = record { parents = parents; over = over; children = children; waiting = waiting }
  where
    parents : (q : ℕ) (m : Member) (p : ProcessId) → slice_get (ms ++ x ∷ []) q ≡ Some m → m.parent ≡ Some p → p.0 < q
    parents q m p h e = of_split (get_split ms x q m h)
      where
        of_split : (slice_get ms q ≡ Some m) ⊎ ((q ≡ length ms) × (x ≡ m)) → p.0 < q
        of_split (inl g) = t.parents q m p g e
        of_split (inr g) = subst (λ (n : ℕ). p.0 < n) (sym g.0) (below p (ap (λ (n : Member). n.parent) g.1 ∙ e))

    over : (q : ℕ) (m : Member) (j : Join) → slice_get (ms ++ x ∷ []) q ≡ Some m → m.join ≡ Some j → m.over ≡ false
    over q m j h e = of_split (get_split ms x q m h)
      where
        of_split : (slice_get ms q ≡ Some m) ⊎ ((q ≡ length ms) × (x ≡ m)) → m.over ≡ false
        of_split (inl g) = t.over q m j g e
        of_split (inr g) = none_some (sym none ∙ ap (λ (n : Member). n.join) g.1 ∙ e)

    children : (q : ℕ) (m : Member) (j : Join) (c : ProcessId) → slice_get (ms ++ x ∷ []) q ≡ Some m → m.join ≡ Some j → is_in c j.children ≡ true
        → parent_of (slice_get (ms ++ x ∷ []) c.0) ≡ Some (record { 0 = q })
    children q m j c h e k = of_split (get_split ms x q m h)
      where
        of_split : (slice_get ms q ≡ Some m) ⊎ ((q ≡ length ms) × (x ≡ m)) → parent_of (slice_get (ms ++ x ∷ []) c.0) ≡ Some (record { 0 = q })
        of_split (inl g) =
            let is = t.children q m j c g e k in
            let there = parent_there ms c.0 (record { 0 = q }) is in
            ap parent_of (get_front ms (x ∷ []) c.0 there.0 there.1 ∙ sym there.1) ∙ is
        of_split (inr g) = none_some (sym none ∙ ap (λ (n : Member). n.join) g.1 ∙ e)

    waiting : (q : ℕ) (m : Member) → slice_get (ms ++ x ∷ []) q ≡ Some m → joins_in (ms ++ x ∷ []) m.join ≡ false
    waiting q m h = of_split (get_split ms x q m h)
      where
        of_split : (slice_get ms q ≡ Some m) ⊎ ((q ≡ length ms) × (x ≡ m)) → joins_in (ms ++ x ∷ []) m.join ≡ false
        of_split (inl g) = joins_less (ms ++ x ∷ []) ms m.join (over_more ms x lives) (t.waiting q m g)
        of_split (inr g) = ap (joins_in (ms ++ x ∷ [])) (sym (ap (λ (n : Member). n.join) g.1) ∙ none)

pub tree_root : (ms : List Member) (s : Side) → IsTree ms → IsTree (with_root s ms)
tree_root ms s t = tree_more ms (record { side = s; parent = None; over = false; join = None }) t refl refl (λ p e. none_some e)

pub tree_child : (ms : List Member) (p : ProcessId) (m : Member) → IsTree ms → p.0 < length ms → IsTree (ms ++ child_in p m ∷ [])
tree_child ms p m t h = tree_more ms (child_in p m) t refl refl (λ q e. subst (λ (r : ProcessId). r.0 < length ms) (some_same e) h)

-- ---- a process in whose place another one stands

-- what is kept, but for the joins that are complete
pub record Kin (ms : List Member) : Type 0 where
  pub parents : (q : ℕ) (m : Member) (p : ProcessId) → slice_get ms q ≡ Some m → m.parent ≡ Some p → p.0 < q
  pub over : (q : ℕ) (m : Member) (j : Join) → slice_get ms q ≡ Some m → m.join ≡ Some j → m.over ≡ false
  pub children : (q : ℕ) (m : Member) (j : Join) (c : ProcessId) → slice_get ms q ≡ Some m → m.join ≡ Some j → is_in c j.children ≡ true
      → parent_of (slice_get ms c.0) ≡ Some (record { 0 = q })

pub kin_of : (ms : List Member) → IsTree ms → Kin ms
kin_of ms t = record { parents = t.parents; over = t.over; children = t.children }

pub tree_by : (ms : List Member) → Kin ms → ((q : ℕ) (m : Member) → slice_get ms q ≡ Some m → joins_in ms m.join ≡ false) → IsTree ms
tree_by ms k waits = record { parents = k.parents; over = k.over; children = k.children; waiting = waits }

-- what stands at a place then
pub set_split : (ms : List Member) (p : ProcessId) (m x : Member) (q : ℕ) (n : Member) → slice_get ms p.0 ≡ Some m → slice_get (slice_set ms p.0 x) q ≡ Some n
    → ((q ≡ p.0) × (x ≡ n)) ⊎ ((q ≡ p.0 → ⊥) × (slice_get ms q ≡ Some n))
set_split ms p m x q n here h = ⊎_elim same other (cases_eq q p.0)
  where
    same : q ≡ p.0 → ((q ≡ p.0) × (x ≡ n)) ⊎ ((q ≡ p.0 → ⊥) × (slice_get ms q ≡ Some n))
    same e = inl (e, some_same (sym (get_set ms p.0 m x here) ∙ ap (slice_get (slice_set ms p.0 x)) (sym e) ∙ h))

    other : (q ≡ p.0 → ⊥) → ((q ≡ p.0) × (x ≡ n)) ⊎ ((q ≡ p.0 → ⊥) × (slice_get ms q ≡ Some n))
    other g = inr (g, sym (get_set-other ms p.0 q x g) ∙ h)

-- the parents are those that they were
parent_set : (ms : List Member) (p : ProcessId) (m x : Member) (c : ℕ) → slice_get ms p.0 ≡ Some m → x.parent ≡ m.parent
    → parent_of (slice_get (slice_set ms p.0 x) c) ≡ parent_of (slice_get ms c)
parent_set ms p m x c here e = ⊎_elim same other (cases_eq c p.0)
  where
    same : c ≡ p.0 → parent_of (slice_get (slice_set ms p.0 x) c) ≡ parent_of (slice_get ms c)
    same g =
        ap parent_of (ap (slice_get (slice_set ms p.0 x)) g ∙ get_set ms p.0 m x here) ∙ e
        ∙ sym (ap parent_of (ap (slice_get ms) g ∙ here))

    other : (c ≡ p.0 → ⊥) → parent_of (slice_get (slice_set ms p.0 x) c) ≡ parent_of (slice_get ms c)
    other g = ap parent_of (get_set-other ms p.0 c x g)

-- who is over, but for the process
pub over_other : (ms : List Member) (p : ProcessId) (x : Member) (c : ProcessId) → (c.0 ≡ p.0 → ⊥) → is_over_in (slice_set ms p.0 x) c ≡ is_over_in ms c
over_other ms p x c g = ap (member_test (λ n. n.over)) (get_set-other ms p.0 c.0 x g)

over_here : (ms : List Member) (p : ProcessId) (m x : Member) (c : ProcessId) → slice_get ms p.0 ≡ Some m → c.0 ≡ p.0 → is_over_in (slice_set ms p.0 x) c ≡ x.over
over_here ms p m x c here g = ap (member_test (λ n. n.over)) (ap (slice_get (slice_set ms p.0 x)) g ∙ get_set ms p.0 m x here)

-- one that is not over then
pub over_set : (ms : List Member) (p : ProcessId) (m x : Member) → slice_get ms p.0 ≡ Some m → x.over ≡ false → OverLess (slice_set ms p.0 x) ms
over_set ms p m x here lives = record { each = λ c e. ⊎_elim (λ g. both e (over_here ms p m x c here g ∙ lives)) (λ g. sym (over_other ms p x c g) ∙ e) (cases_eq c.0 p.0) }

pub kin_set : (ms : List Member) (p : ProcessId) (m x : Member) → Kin ms → slice_get ms p.0 ≡ Some m → x.parent ≡ m.parent
    → ((j : Join) → x.join ≡ Some j → x.over ≡ false)
    → ((j : Join) (c : ProcessId) → x.join ≡ Some j → is_in c j.children ≡ true → parent_of (slice_get ms c.0) ≡ Some p)
    → Kin (slice_set ms p.0 x)
kin_set ms p m x t here same lives own = record { parents = parents; over = over; children = children }
  where
    parents : (q : ℕ) (n : Member) (r : ProcessId) → slice_get (slice_set ms p.0 x) q ≡ Some n → n.parent ≡ Some r → r.0 < q
    parents q n r h e = of_split (set_split ms p m x q n here h)
      where
        of_split : ((q ≡ p.0) × (x ≡ n)) ⊎ ((q ≡ p.0 → ⊥) × (slice_get ms q ≡ Some n)) → r.0 < q
        of_split (inl g) = t.parents q m r (ap (slice_get ms) g.0 ∙ here) (sym same ∙ ap (λ (k : Member). k.parent) g.1 ∙ e)
        of_split (inr g) = t.parents q n r g.1 e

    over : (q : ℕ) (n : Member) (j : Join) → slice_get (slice_set ms p.0 x) q ≡ Some n → n.join ≡ Some j → n.over ≡ false
    over q n j h e = of_split (set_split ms p m x q n here h)
      where
        of_split : ((q ≡ p.0) × (x ≡ n)) ⊎ ((q ≡ p.0 → ⊥) × (slice_get ms q ≡ Some n)) → n.over ≡ false
        of_split (inl g) = sym (ap (λ (k : Member). k.over) g.1) ∙ lives j (ap (λ (k : Member). k.join) g.1 ∙ e)
        of_split (inr g) = t.over q n j g.1 e

    children : (q : ℕ) (n : Member) (j : Join) (c : ProcessId) → slice_get (slice_set ms p.0 x) q ≡ Some n → n.join ≡ Some j → is_in c j.children ≡ true
        → parent_of (slice_get (slice_set ms p.0 x) c.0) ≡ Some (record { 0 = q })
    children q n j c h e k = parent_set ms p m x c.0 here same ∙ of_split (set_split ms p m x q n here h)
      where
        of_split : ((q ≡ p.0) × (x ≡ n)) ⊎ ((q ≡ p.0 → ⊥) × (slice_get ms q ≡ Some n)) → parent_of (slice_get ms c.0) ≡ Some (record { 0 = q })
        of_split (inl g) = own j c (ap (λ (l : Member). l.join) g.1 ∙ e) k ∙ (λ i. Some (record { 0 = sym g.0 i }))
        of_split (inr g) = t.children q n j c g.1 e k

pub tree_set : (ms : List Member) (p : ProcessId) (m x : Member) → IsTree ms → slice_get ms p.0 ≡ Some m → x.parent ≡ m.parent
    → ((j : Join) → x.join ≡ Some j → x.over ≡ false)
    → ((j : Join) (c : ProcessId) → x.join ≡ Some j → is_in c j.children ≡ true → parent_of (slice_get ms c.0) ≡ Some p)
    → ((q : ℕ) (n : Member) → slice_get (slice_set ms p.0 x) q ≡ Some n → joins_in (slice_set ms p.0 x) n.join ≡ false)
    → IsTree (slice_set ms p.0 x)
tree_set ms p m x t here same lives own waits = tree_by (slice_set ms p.0 x) (kin_set ms p m x (kin_of ms t) here same lives own) waits

-- ---- a process waits

-- who passes a test of living processes is not over
pub tested_over : (f : Member → Bool) (o : Option Member) → member_test (λ m. f m && not m.over) o ≡ true → member_test (λ m. m.over) o ≡ false
tested_over f None e = both e refl
tested_over f (Some m) e = of_both (f m) m.over e
  where
    of_both : (a b : Bool) → (a && not b) ≡ true → b ≡ false
    of_both true false e = refl
    of_both true true e = sym e
    of_both false b e = both e refl

-- a living child is not over, and its parent is this
pub living_over : (ms : List Member) (p c : ProcessId) → is_living_child ms p c ≡ true → is_over_in ms c ≡ false
living_over ms p c h = tested_over (λ m. is_running m.parent p) (slice_get ms c.0) h

living_parent : (ms : List Member) (p c : ProcessId) → is_living_child ms p c ≡ true → parent_of (slice_get ms c.0) ≡ Some p
living_parent ms p c h = of_member (slice_get ms c.0) h
  where
    of_parent : (o : Option ProcessId) (b : Bool) → (is_running o p && b) ≡ true → o ≡ Some p
    of_parent None b e = both e refl
    of_parent (Some q) b e = of_number (q.0 == p.0) refl e
      where
        of_number : (a : Bool) → (q.0 == p.0) ≡ a → (a && b) ≡ true → Some q ≡ Some p
        of_number true g e = λ i. Some (record { 0 = same_number q.0 p.0 g i })
        of_number false g e = both e refl

    of_member : (o : Option Member) → member_test (λ m. is_running m.parent p && not m.over) o ≡ true → parent_of o ≡ Some p
    of_member None e = both e refl
    of_member (Some m) e = of_parent m.parent (not m.over) e

-- none of living children is over
none_over : (ms : List Member) (p : ProcessId) (cs : List ProcessId) → list_all (is_living_child ms p) cs ≡ true → list_any (is_over_in ms) cs ≡ false
none_over ms p [] h = refl
none_over ms p (c ∷ cs) h = of_first (none_over ms p cs) (is_living_child ms p c) refl h
  where
    of_first : (list_all (is_living_child ms p) cs ≡ true → list_any (is_over_in ms) cs ≡ false) → (a : Bool) → is_living_child ms p c ≡ a → (a && list_all (is_living_child ms p) cs) ≡ true → (is_over_in ms c || list_any (is_over_in ms) cs) ≡ false
    of_first later true e g = ap (λ b. b || list_any (is_over_in ms) cs) (living_over ms p c e) ∙ later g
    of_first later false e g = both g refl

-- a join of living children is not complete
fresh_join : (ms : List Member) (p : ProcessId) (all : Bool) (cs : List ProcessId) → cs ≢ [] → list_all (is_living_child ms p) cs ≡ true
    → joins_in ms (Some (record { all = all; children = cs })) ≡ false
fresh_join ms p all [] some h = absurd (some refl)
fresh_join ms p false (c ∷ cs) some h = none_over ms p (c ∷ cs) h
fresh_join ms p true (c ∷ cs) some h = of_first (is_living_child ms p c) refl h
  where
    of_first : (a : Bool) → is_living_child ms p c ≡ a → (a && list_all (is_living_child ms p) cs) ≡ true → (is_over_in ms c && list_all (is_over_in ms) cs) ≡ false
    of_first true e g = ap (λ b. b && list_all (is_over_in ms) cs) (living_over ms p c e)
    of_first false e g = both g refl

-- a process that has a living child is one of these
waiter_there : (ms : List Member) (p : ProcessId) (cs : List ProcessId) → IsTree ms → cs ≢ [] → list_all (is_living_child ms p) cs ≡ true → (m : Member) × (slice_get ms p.0 ≡ Some m)
waiter_there ms p [] t some h = absurd (some refl)
waiter_there ms p (c ∷ cs) t some h =
    let here = living_parent ms p c (all_passed (is_living_child ms p) (c ∷ cs) c h (first c cs)) in
    let there = parent_there ms c.0 p here in
    let below : p.0 < c.0 = t.parents c.0 there.0 p there.1 (sym (ap parent_of there.1) ∙ here) in
    let within : c.0 < length ms = get_within ms c.0 there.0 there.1 in
    get_there ms p.0 (omega (arith, below, within))
  where
    first : (c : ProcessId) (cs : List ProcessId) → is_in c (c ∷ cs) ≡ true
    first c cs = ap (λ b. b || is_in c cs) (number_same c.0)

pub tree_waits : (ms : List Member) (p : ProcessId) (j : Join) → IsTree ms → j.children ≢ [] → list_all (is_living_child ms p) j.children ≡ true → IsTree (awaiting_in p j ms)
tree_waits ms p j t some h = subst IsTree (changed_is ms (λ m. record m { over = false; join = Some j }) p m x here refl) (tree_set ms p m x t here refl (λ k e. refl) own waits)
  where
    m : Member
    m = (waiter_there ms p j.children t some h).0

    here : slice_get ms p.0 ≡ Some m
    here = (waiter_there ms p j.children t some h).1

    x : Member
    x = record m { over = false; join = Some j }

    own : (k : Join) (c : ProcessId) → Some j ≡ Some k → is_in c k.children ≡ true → parent_of (slice_get ms c.0) ≡ Some p
    own k c e g = living_parent ms p c (all_passed (is_living_child ms p) j.children c h (ap (λ (i : Join). is_in c i.children) (some_same e) ∙ g))

    waits : (q : ℕ) (n : Member) → slice_get (slice_set ms p.0 x) q ≡ Some n → joins_in (slice_set ms p.0 x) n.join ≡ false
    waits q n e = joins_less (slice_set ms p.0 x) ms n.join (over_set ms p m x here refl) (of_split (set_split ms p m x q n here e))
      where
        of_split : ((q ≡ p.0) × (x ≡ n)) ⊎ ((q ≡ p.0 → ⊥) × (slice_get ms q ≡ Some n)) → joins_in ms n.join ≡ false
        of_split (inl g) = ap (λ (k : Member). joins_in ms k.join) (sym g.1) ∙ fresh_join ms p j.all j.children some h
        of_split (inr g) = t.waiting q n g.1

-- ---- a process is over

-- a process that is over
abbrev pub over_one : Member → Member
over_one m = record m { over = true; join = None }

-- one that waits for no children
abbrev pub ready_one : Member → Member
ready_one m = record m { over = false; join = None }

-- the joins of all but the parent are as they were
pub ended_joins : (ms : List Member) (p : ProcessId) (m : Member) → IsTree ms → slice_get ms p.0 ≡ Some m
    → (q : ℕ) (n : Member) → (m.parent ≡ Some (record { 0 = q }) → ⊥) → slice_get (slice_set ms p.0 (over_one m)) q ≡ Some n
    → joins_in (slice_set ms p.0 (over_one m)) n.join ≡ false
ended_joins ms p m t here q n other e = of_split (set_split ms p m (over_one m) q n here e)
  where
    us : List Member
    us = slice_set ms p.0 (over_one m)

    of_join : (o : Option Join) → n.join ≡ o → slice_get ms q ≡ Some n → joins_in us o ≡ false
    of_join None is g = refl
    of_join (Some j) is g = joins_same us ms j same ∙ sym (ap (joins_in ms) is) ∙ t.waiting q n g
      where
        same : (c : ProcessId) → is_in c j.children ≡ true → is_over_in us c ≡ is_over_in ms c
        same c k = over_other ms p (over_one m) c (λ (d : c.0 ≡ p.0). other (sym (ap parent_of (ap (slice_get ms) d ∙ here)) ∙ t.children q n j c g is k))

    of_split : ((q ≡ p.0) × (over_one m ≡ n)) ⊎ ((q ≡ p.0 → ⊥) × (slice_get ms q ≡ Some n)) → joins_in us n.join ≡ false
    of_split (inl g) = ap (λ (k : Member). joins_in us k.join) (sym g.1)
    of_split (inr g) = of_join n.join refl g.1

-- where no join is complete then, all is kept
pub tree_over : (ms : List Member) (p : ProcessId) (m : Member) → IsTree ms → slice_get ms p.0 ≡ Some m
    → ((q : ℕ) (n : Member) → slice_get (slice_set ms p.0 (over_one m)) q ≡ Some n → joins_in (slice_set ms p.0 (over_one m)) n.join ≡ false)
    → IsTree (slice_set ms p.0 (over_one m))
tree_over ms p m t here waits = tree_set ms p m (over_one m) t here refl (λ j e. none_some e) (λ j c e k. none_some e) waits

-- a parent that waits for children has them
pub awaited_not : (ms : List Member) (r : ProcessId) (n : Member) → is_awaited_by ms (Some r) ≡ false → slice_get ms r.0 ≡ Some n → n.join ≡ None
awaited_not ms r n h e = of_join n.join (sym (ap (λ o. is_some (join_in o)) e) ∙ h)
  where
    of_join : (o : Option Join) → is_some o ≡ false → o ≡ None
    of_join None g = refl
    of_join (Some j) g = both refl g

pub tree_ends : (ms : List Member) (p : ProcessId) → IsTree ms → is_awaited ms p ≡ false → IsTree (ended_in p ms)
tree_ends ms p t h = of_cases (by_option (slice_get ms p.0))
  where
    of_cases : ((m : Member) × (slice_get ms p.0 ≡ Some m)) ⊎ (slice_get ms p.0 ≡ None) → IsTree (ended_in p ms)
    of_cases (inr g) = subst (λ (o : Option Member). IsTree (changed_in o over_one p ms)) (sym g) t
    of_cases (inl g) = subst IsTree (changed_is ms over_one p m (over_one m) here refl) (tree_over ms p m t here waits)
      where
        m : Member
        m = g.0

        here : slice_get ms p.0 ≡ Some m
        here = g.1

        us : List Member
        us = slice_set ms p.0 (over_one m)

        waits : (q : ℕ) (n : Member) → slice_get us q ≡ Some n → joins_in us n.join ≡ false
        waits q n e = of_parent m.parent refl
          where
            of_parent : (o : Option ProcessId) → m.parent ≡ o → joins_in us n.join ≡ false
            of_parent None is = ended_joins ms p m t here q n (λ k. none_some (sym is ∙ k)) e
            of_parent (Some r) is = ⊎_elim parent other (cases_eq q r.0)
              where
                other : (q ≡ r.0 → ⊥) → joins_in us n.join ≡ false
                other d = ended_joins ms p m t here q n (λ k. d (ap (λ (s : ProcessId). s.0) (some_same (sym k ∙ is)))) e

                idle : is_awaited_by ms (Some r) ≡ false
                idle = ap (is_awaited_by ms) (sym is ∙ ap parent_of (sym here)) ∙ h

                parent : q ≡ r.0 → joins_in us n.join ≡ false
                parent d = of_split (set_split ms p m (over_one m) q n here e)
                  where
                    of_split : ((q ≡ p.0) × (over_one m ≡ n)) ⊎ ((q ≡ p.0 → ⊥) × (slice_get ms q ≡ Some n)) → joins_in us n.join ≡ false
                    of_split (inl k) = ap (λ (l : Member). joins_in us l.join) (sym k.1)
                    of_split (inr k) = ap (joins_in us) (awaited_not ms r n idle (ap (slice_get ms) (sym d) ∙ k.1))

-- what became of a process
abbrev pub ended_one : Bool → Option Member → Option Member
ended_one true (Some m) = Some (over_one m)
ended_one true None = None
ended_one false o = o

pub got_ended : (ms : List Member) (p : ProcessId) (q : ℕ) → slice_get (ended_in p ms) q ≡ ended_one (q == p.0) (slice_get ms q)
got_ended ms p q = of_cases (by_option (slice_get ms p.0))
  where
    past : (b : Bool) → (q == p.0) ≡ b → slice_get ms p.0 ≡ None → slice_get ms q ≡ ended_one b (slice_get ms q)
    past false e g = refl
    past true e g = none ∙ sym (ap (ended_one true) none)
      where
        none : slice_get ms q ≡ None
        none = ap (slice_get ms) (same_number q p.0 e) ∙ g

    there : (m : Member) → slice_get ms p.0 ≡ Some m → (b : Bool) → (q == p.0) ≡ b → slice_get (slice_set ms p.0 (over_one m)) q ≡ ended_one b (slice_get ms q)
    there m g true e =
        ap (slice_get (slice_set ms p.0 (over_one m))) (same_number q p.0 e) ∙ get_set ms p.0 m (over_one m) g
        ∙ sym (ap (ended_one true) (ap (slice_get ms) (same_number q p.0 e) ∙ g))
    there m g false e = get_set-other ms p.0 q (over_one m) (λ d. both (ap (λ k. q == k) (sym d) ∙ number_same q) e)

    of_cases : ((m : Member) × (slice_get ms p.0 ≡ Some m)) ⊎ (slice_get ms p.0 ≡ None) → slice_get (ended_in p ms) q ≡ ended_one (q == p.0) (slice_get ms q)
    of_cases (inr g) = ap (λ o. slice_get (changed_in o over_one p ms) q) g ∙ past (q == p.0) refl g
    of_cases (inl g) = ap (λ o. slice_get (changed_in o over_one p ms) q) g.1 ∙ there g.0 g.1 (q == p.0) refl

-- who was over is over still
pub over_ended : (ms : List Member) (p : ProcessId) → OverLess ms (ended_in p ms)
over_ended ms p = record { each = λ c e. ap (member_test (λ n. n.over)) (got_ended ms p c.0) ∙ of_member (c.0 == p.0) (slice_get ms c.0) e }
  where
    of_member : (b : Bool) (o : Option Member) → member_test (λ n. n.over) o ≡ true → member_test (λ n. n.over) (ended_one b o) ≡ true
    of_member true None e = e
    of_member true (Some m) e = refl
    of_member false o e = e

-- ---- how many there are

pub length-changed : (ms : List Member) (f : Member → Member) (p : ProcessId) → length (changed_in (slice_get ms p.0) f p ms) ≡ length ms
length-changed ms f p = of_member (slice_get ms p.0)
  where
    of_member : (o : Option Member) → length (changed_in o f p ms) ≡ length ms
    of_member None = refl
    of_member (Some m) = length-set ms p.0 (f m)

pub few_then : (ms vs us : List Member) (n : ℕ) → vs ≡ us → length us ≡ length ms → length ms ≤ n → length vs ≤ n
few_then ms vs us n e same few = subst (λ (k : ℕ). k ≤ n) (sym (ap (λ (xs : List Member). length xs) e ∙ same)) few

pub length-waits : (p : ProcessId) (j : Join) (ms : List Member) → length (awaiting_in p j ms) ≡ length ms
length-waits p j ms = length-changed ms (λ m. record m { over = false; join = Some j }) p

pub length-ends : (p : ProcessId) (ms : List Member) → length (ended_in p ms) ≡ length ms
length-ends p ms = length-changed ms over_one p

pub length-more : (ms : List Member) (x : Member) → length (ms ++ x ∷ []) ≡ suc (length ms)
length-more [] x = refl
length-more (m ∷ ms) x = ap suc (length-more ms x)

-- ---- a process goes on

pub length-goes : (p : ProcessId) (ms : List Member) → length (changed_in (slice_get ms p.0) ready_one p ms) ≡ length ms
length-goes p ms = length-changed ms ready_one p

pub tree_goes : (ms : List Member) (p : ProcessId) → IsTree ms → IsTree (changed_in (slice_get ms p.0) ready_one p ms)
tree_goes ms p t = of_cases (by_option (slice_get ms p.0))
  where
    of_cases : ((m : Member) × (slice_get ms p.0 ≡ Some m)) ⊎ (slice_get ms p.0 ≡ None) → IsTree (changed_in (slice_get ms p.0) ready_one p ms)
    of_cases (inr g) = subst (λ o. IsTree (changed_in o ready_one p ms)) (sym g) t
    of_cases (inl g) =
        subst (λ o. IsTree (changed_in o ready_one p ms)) (sym g.1)
        (tree_set ms p g.0 (ready_one g.0) t g.1 refl (λ j e. refl) (λ j c e. none_some e) waits)
      where
        vs : List Member
        vs = slice_set ms p.0 (ready_one g.0)

        waits : (q : ℕ) (n : Member) → slice_get vs q ≡ Some n → joins_in vs n.join ≡ false
        waits q n e = of_split (set_split ms p g.0 (ready_one g.0) q n g.1 e)
          where
            of_split : ((q ≡ p.0) × (ready_one g.0 ≡ n)) ⊎ ((q ≡ p.0 → ⊥) × (slice_get ms q ≡ Some n)) → joins_in vs n.join ≡ false
            of_split (inl d) = ap (λ (l : Member). joins_in vs l.join) (sym d.1)
            of_split (inr d) = joins_less vs ms n.join (over_set ms p g.0 (ready_one g.0) g.1 refl) (t.waiting q n d.1)
