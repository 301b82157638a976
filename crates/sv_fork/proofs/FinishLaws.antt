-- What a tree of processes keeps when a process is over and its parent goes on.
use Rattle.std.proofs.Common.{◌≡◌, ℕ, ◌<◌, Bool, true, false, List, [], ◌∷◌, Option, Some, None, length, slice_get, slice_set, refl, sym, ap, ◌∙◌, subst, arith, ◌⊎◌, inl, inr, ⊎_elim}
use Rattle.std.proofs.lemmas.Bool.{cases_eq}
use Rattle.sv_value.specs.declared.number.ProcessId.{ProcessId}
use Rattle.sv_fork.specs.Living.{OverLess}
use Rattle.sv_fork.specs.Tree.{Join, Member, IsTree, all_ready_in, changed_in, ended_in, is_over_in, join_in, joined_in, joins_in, listed, member_test, parent_of, ready_in}
use Rattle.sv_fork.proofs.PlaceLaws.{some_same, none_some, both, by_option, get_set, get_within}
use Rattle.sv_fork.proofs.NumberLaws.{filter_none, filter_one}
use Rattle.sv_fork.proofs.TreeLaws.{changed_is, joins_less, Kin, kin_of, tree_by, set_split, over_set, kin_set, over_one, ready_one, ended_joins, over_ended, tree_over}
use Rattle.sv_fork.proofs.LivingLaws.{over_changed}

-- ---- a process is over, and its parent goes on

-- nobody's join is complete
pub joined_none : (us : List Member) → ((q : ℕ) (n : Member) → slice_get us q ≡ Some n → joins_in us n.join ≡ false) → joined_in us ≡ []
joined_none us h = filter_none (λ p. member_test (λ m. joins_in us m.join) (slice_get us p.0)) 0 us none
  where
    none : (p : ProcessId) → member_test (λ m. joins_in us m.join) (slice_get us p.0) ≡ false
    none p = of_cases (by_option (slice_get us p.0))
      where
        of_cases : ((m : Member) × (slice_get us p.0 ≡ Some m)) ⊎ (slice_get us p.0 ≡ None) → member_test (λ m. joins_in us m.join) (slice_get us p.0) ≡ false
        of_cases (inl g) = ap (member_test (λ m. joins_in us m.join)) g.1 ∙ h p.0 g.0 g.1
        of_cases (inr g) = ap (member_test (λ m. joins_in us m.join)) g

-- the join of one alone is complete
pub joined_one : (us : List Member) (r : ProcessId) → joins_in us (join_in (slice_get us r.0)) ≡ true
    → ((q : ℕ) (n : Member) → (q ≡ r.0 → ⊥) → slice_get us q ≡ Some n → joins_in us n.join ≡ false) → joined_in us ≡ r ∷ []
joined_one us r is h = of_member (by_option (slice_get us r.0))
  where
    t : ProcessId → Bool
    t p = member_test (λ m. joins_in us m.join) (slice_get us p.0)

    none : (p : ProcessId) → (p.0 ≡ r.0 → ⊥) → t p ≡ false
    none p d = of_cases (by_option (slice_get us p.0))
      where
        of_cases : ((m : Member) × (slice_get us p.0 ≡ Some m)) ⊎ (slice_get us p.0 ≡ None) → t p ≡ false
        of_cases (inl g) = ap (member_test (λ m. joins_in us m.join)) g.1 ∙ h p.0 g.0 d g.1
        of_cases (inr g) = ap (member_test (λ m. joins_in us m.join)) g

    of_member : ((m : Member) × (slice_get us r.0 ≡ Some m)) ⊎ (slice_get us r.0 ≡ None) → joined_in us ≡ r ∷ []
    of_member (inr g) = both (sym (ap (λ o. joins_in us (join_in o)) g) ∙ is) refl
    of_member (inl g) =
        let within : r.0 < length us = get_within us r.0 g.0 g.1 in
        filter_one t 0 us r (omega arith) (omega (arith, within)) (ap (member_test (λ m. joins_in us m.join)) g.1 ∙ sym (ap (λ o. joins_in us (join_in o)) g.1) ∙ is) none

-- what a process that is over leaves
pub record Finished (ms : List Member) (p : ProcessId) (o : Option ProcessId) : Type 0 where
  pub joined : joined_in (ended_in p ms) ≡ listed o
  pub tree : IsTree (all_ready_in (listed o) (ended_in p ms))
  pub over : OverLess ms (all_ready_in (listed o) (ended_in p ms))

-- nothing is left to wait for
finished_still : (ms : List Member) (p : ProcessId) (us : List Member) → ended_in p ms ≡ us → IsTree us → Finished ms p None
finished_still ms p us is t = record { joined = ap joined_in is ∙ joined_none us t.waiting; tree = subst IsTree (sym is) t; over = over_ended ms p }

-- there is no such process, or none that forked it
pub finished_none : (ms : List Member) (p : ProcessId) → IsTree ms → None ≡ parent_of (slice_get (ended_in p ms) p.0) → Finished ms p None
finished_none ms p t h = of_cases (by_option (slice_get ms p.0))
  where
    of_cases : ((m : Member) × (slice_get ms p.0 ≡ Some m)) ⊎ (slice_get ms p.0 ≡ None) → Finished ms p None
    of_cases (inr g) = finished_still ms p ms (ap (λ o. changed_in o over_one p ms) g) t
    of_cases (inl g) = finished_still ms p us (sym is) (tree_over ms p m t here (λ q n e. ended_joins ms p m t here q n (λ k. none_some (none ∙ k)) e))
      where
        m : Member
        m = g.0

        here : slice_get ms p.0 ≡ Some m
        here = g.1

        us : List Member
        us = slice_set ms p.0 (over_one m)

        is : us ≡ ended_in p ms
        is = changed_is ms over_one p m (over_one m) here refl

        none : None ≡ m.parent
        none = h ∙ ap (λ (vs : List Member). parent_of (slice_get vs p.0)) (sym is) ∙ ap parent_of (get_set ms p.0 m (over_one m) here)

-- the parent, of which a test tells whether its join is complete
pub record HasParent (ms : List Member) (p r : ProcessId) : Type 0 where
  pub member : Member
  pub here : slice_get ms p.0 ≡ Some member
  pub parent : member.parent ≡ Some r

has_parent : (ms : List Member) (p r : ProcessId) → Some r ≡ parent_of (slice_get (ended_in p ms) p.0) → HasParent ms p r
has_parent ms p r h = of_cases (by_option (slice_get ms p.0))
  where
    of_cases : ((m : Member) × (slice_get ms p.0 ≡ Some m)) ⊎ (slice_get ms p.0 ≡ None) → HasParent ms p r
    of_cases (inr g) = none_some (sym (h ∙ ap (λ o. parent_of (slice_get (changed_in o over_one p ms) p.0)) g ∙ ap parent_of g))
    of_cases (inl g) =
        record {
          member = g.0;
          here = g.1;
          parent =
              sym (h ∙ ap (λ (vs : List Member). parent_of (slice_get vs p.0)) (sym (changed_is ms over_one p g.0 (over_one g.0) g.1 refl))
              ∙ ap parent_of (get_set ms p.0 g.0 (over_one g.0) g.1));
        }

module _ (ms : List Member) (p r : ProcessId) (t : IsTree ms) (h : Some r ≡ parent_of (slice_get (ended_in p ms) p.0)) where
  abbrev known : HasParent ms p r
  known = has_parent ms p r h

  abbrev left : List Member
  left = slice_set ms p.0 (over_one known.member)

  left_is : left ≡ ended_in p ms
  left_is = changed_is ms over_one p known.member (over_one known.member) known.here refl

  others : (q : ℕ) (n : Member) → (q ≡ r.0 → ⊥) → slice_get left q ≡ Some n → joins_in left n.join ≡ false
  others q n d e = ended_joins ms p known.member t known.here q n (λ l. d (ap (λ (s : ProcessId). s.0) (some_same (sym l ∙ known.parent)))) e

  pub finished_not : false ≡ joins_in (ended_in p ms) (join_in (slice_get (ended_in p ms) r.0)) → Finished ms p None
  finished_not still = finished_still ms p left (sym left_is) (tree_over ms p known.member t known.here waits)
    where
      waits : (q : ℕ) (n : Member) → slice_get left q ≡ Some n → joins_in left n.join ≡ false
      waits q n e = ⊎_elim parent (λ d. others q n d e) (cases_eq q r.0)
        where
          parent : q ≡ r.0 → joins_in left n.join ≡ false
          parent d =
              ap (λ o. joins_in left (join_in o)) (sym e ∙ ap (slice_get left) d)
              ∙ ap (λ (vs : List Member). joins_in vs (join_in (slice_get vs r.0))) left_is ∙ sym still

  pub finished_one : true ≡ joins_in (ended_in p ms) (join_in (slice_get (ended_in p ms) r.0)) → Finished ms p (Some r)
  finished_one done =
      record {
        joined = ap joined_in (sym left_is) ∙ joined_one left r complete others;
        tree = subst (λ (vs : List Member). IsTree (ready_in r vs)) left_is (of_cases (by_option (slice_get left r.0)));
        over = record { each = λ c e. (over_changed (ended_in p ms) ready_one r lives).each c ((over_ended ms p).each c e) };
      }
    where
      complete : joins_in left (join_in (slice_get left r.0)) ≡ true
      complete = ap (λ (vs : List Member). joins_in vs (join_in (slice_get vs r.0))) left_is ∙ sym done

      kin : Kin left
      kin = kin_set ms p known.member (over_one known.member) (kin_of ms t) known.here refl (λ j e. none_some e) (λ j c e l. none_some e)

      -- who waits is not over
      lives_one : (o : Option Member) → slice_get left r.0 ≡ o → joins_in left (join_in o) ≡ true → member_test (λ m. m.over) o ≡ false
      lives_one None g e = refl
      lives_one (Some n) g e = of_join n.join refl e
        where
          of_join : (j : Option Join) → n.join ≡ j → joins_in left j ≡ true → n.over ≡ false
          of_join None is e = both e refl
          of_join (Some j) is e = kin.over r.0 n j g is

      lives : is_over_in (ended_in p ms) r ≡ false
      lives = ap (λ (vs : List Member). is_over_in vs r) (sym left_is) ∙ lives_one (slice_get left r.0) refl complete

      of_cases : ((n : Member) × (slice_get left r.0 ≡ Some n)) ⊎ (slice_get left r.0 ≡ None) → IsTree (ready_in r left)
      of_cases (inr g) = both complete (ap (λ o. joins_in left (join_in o)) g)
      of_cases (inl g) = subst IsTree (changed_is left ready_one r n (ready_one n) g.1 refl) (tree_by vs more waits)
        where
          n : Member
          n = g.0

          vs : List Member
          vs = slice_set left r.0 (ready_one n)

          more : Kin vs
          more = kin_set left r n (ready_one n) kin g.1 refl (λ j e. none_some e) (λ j c e l. none_some e)

          waits : (q : ℕ) (o : Member) → slice_get vs q ≡ Some o → joins_in vs o.join ≡ false
          waits q o e = of_split (set_split left r n (ready_one n) q o g.1 e)
            where
              of_split : ((q ≡ r.0) × (ready_one n ≡ o)) ⊎ ((q ≡ r.0 → ⊥) × (slice_get left q ≡ Some o)) → joins_in vs o.join ≡ false
              of_split (inl d) = ap (λ (l : Member). joins_in vs l.join) (sym d.1)
              of_split (inr d) = joins_less vs left o.join (over_set left r n (ready_one n) g.1 refl) (others q o d.0 d.1)

-- ---- the same of what was read

pub told_none : (ms vs ws : List Member) (p : ProcessId) (o : Option ProcessId) → IsTree ms → vs ≡ ended_in p ms → ws ≡ vs → o ≡ parent_of (slice_get ws p.0) → o ≡ None → Finished ms p None
told_none ms vs ws p o t ends read parent none = finished_none ms p t (sym none ∙ parent ∙ ap (λ (xs : List Member). parent_of (slice_get xs p.0)) (read ∙ ends))

pub told_not : (ms vs ws xs : List Member) (p r : ProcessId) (o : Option ProcessId) (b : Bool) → IsTree ms → vs ≡ ended_in p ms → ws ≡ vs → o ≡ parent_of (slice_get ws p.0) → o ≡ Some r
    → xs ≡ vs → b ≡ joins_in xs (join_in (slice_get xs r.0)) → b ≡ false → Finished ms p None
told_not ms vs ws xs p r o b t ends read parent some also test still =
    finished_not ms p r t (sym some ∙ parent ∙ ap (λ (ys : List Member). parent_of (slice_get ys p.0)) (read ∙ ends))
    (sym still ∙ test ∙ ap (λ (ys : List Member). joins_in ys (join_in (slice_get ys r.0))) (also ∙ ends))

pub told_one : (ms vs ws xs : List Member) (p r : ProcessId) (o : Option ProcessId) (b : Bool) → IsTree ms → vs ≡ ended_in p ms → ws ≡ vs → o ≡ parent_of (slice_get ws p.0) → o ≡ Some r
    → xs ≡ vs → b ≡ joins_in xs (join_in (slice_get xs r.0)) → b ≡ true → Finished ms p (Some r)
told_one ms vs ws xs p r o b t ends read parent some also test done =
    finished_one ms p r t (sym some ∙ parent ∙ ap (λ (ys : List Member). parent_of (slice_get ys p.0)) (read ∙ ends))
    (sym done ∙ test ∙ ap (λ (ys : List Member). joins_in ys (join_in (slice_get ys r.0))) (also ∙ ends))
