-- Where all living processes are found.
use Rattle.std.proofs.Common.{◌≡◌, ℕ, ◌+◌, Bool, true, false, cond, List, [], ◌∷◌, ◌++◌, Option, Some, None, length, filter, slice_get, refl, sym, ap, ◌∙◌, subst, arith, ◌⊎◌, inl, inr, ⊎_elim}
use Rattle.std.specs.Prelude.{◌&&◌, not}
use Rattle.std.proofs.lemmas.Bool.{cases_eq}
use Rattle.std.proofs.lemmas.List.Elements.{filter-append}
use Rattle.sv_value.specs.declared.number.ProcessId.{ProcessId}
use Rattle.sv_flat.specs.Config.{numbered_from}
use Rattle.sv_fork.specs.Tree.{Member, changed_in, is_over_in, member_test}
use Rattle.sv_fork.specs.Living.{HasLiving, ListsLiving, Living, OverLess, left_of}
use Rattle.sv_fork.proofs.PlaceLaws.{both, not_true, by_option, get_front}
use Rattle.sv_fork.proofs.TreeLaws.{length-changed, over_more, over_other}

-- ---- a test that follows from another one

filter_both : (t u : ProcessId → Bool) (ps : List ProcessId) → ((p : ProcessId) → t p ≡ true → u p ≡ true) → filter t (filter u ps) ≡ filter t ps
filter_both t u [] h = refl
filter_both t u (p ∷ ps) h = of_test (filter_both t u ps h) (u p) refl
  where
    of_test : filter t (filter u ps) ≡ filter t ps → (b : Bool) → u p ≡ b → filter t (cond b (p ∷ filter u ps) (filter u ps)) ≡ filter t (p ∷ ps)
    of_test later true e = ap (λ qs. cond (t p) (p ∷ qs) qs) later
    of_test later false e = later ∙ sym (ap (λ b. cond b (p ∷ filter t ps) (filter t ps)) (not_true (t p) (λ g. both (h p g) e)))

-- who passes a test of living processes is found among those that are listed
pub found : (t : ProcessId → Bool) (ms : List Member) (ps : List ProcessId) → ListsLiving ms ps → ((p : ProcessId) → t p ≡ true → is_over_in ms p ≡ false)
    → filter t ps ≡ filter t (numbered_from 0 ms)
found t ms ps l h = sym (left ps) ∙ ap (filter t) l.left ∙ left (numbered_from 0 ms)
  where
    left : (qs : List ProcessId) → filter t (left_of ms qs) ≡ filter t qs
    left qs = filter_both t (λ p. not (is_over_in ms p)) qs (λ p g. ap not (h p g))

-- ---- more processes are over

numbers_same : {A B : Type 0} (n : ℕ) (xs : List A) (ys : List B) → length xs ≡ length ys → numbered_from n xs ≡ numbered_from n ys
numbers_same n [] [] e = refl
numbers_same n [] (y ∷ ys) e = absurd (omega (arith, e))
numbers_same n (x ∷ xs) [] e = absurd (omega (arith, e))
numbers_same n (x ∷ xs) (y ∷ ys) e = ap (λ ps. record { 0 = n } ∷ ps) (numbers_same (n + 1) xs ys (omega (arith, e)))

lists_less : (ms us : List Member) (ps : List ProcessId) → OverLess ms us → length us ≡ length ms → ListsLiving ms ps → ListsLiving us ps
lists_less ms us ps o same l = record { left = found test ms ps l was ∙ ap (filter test) (numbers_same 0 ms us (sym same)) }
  where
    test : ProcessId → Bool
    test p = not (is_over_in us p)

    was : (p : ProcessId) → test p ≡ true → is_over_in ms p ≡ false
    was p g = not_true (is_over_in ms p) (λ k. both g (ap not (o.each p k)))

living_less : (ms us : List Member) (l : Living) → OverLess ms us → length us ≡ length ms → HasLiving ms l → HasLiving us l
living_less ms us l o same h = record { lists = λ g. lists_less ms us l.listed o same (h.lists g) }

-- ---- a process that may have been over lives

and_both : (a b : Bool) → (a && b) ≡ true → (a ≡ true) × (b ≡ true)
and_both true true e = (refl, refl)
and_both true false e = both e refl
and_both false b e = both e refl

pub over_changed : (ms : List Member) (f : Member → Member) (p : ProcessId) → is_over_in ms p ≡ false → OverLess ms (changed_in (slice_get ms p.0) f p ms)
over_changed ms f p lives = record { each = each }
  where
    each : (c : ProcessId) → is_over_in ms c ≡ true → is_over_in (changed_in (slice_get ms p.0) f p ms) c ≡ true
    each c e = ⊎_elim same other (cases_eq c.0 p.0)
      where
        same : c.0 ≡ p.0 → is_over_in (changed_in (slice_get ms p.0) f p ms) c ≡ true
        same d = both (ap (λ n. member_test (λ m. m.over) (slice_get ms n)) (sym d) ∙ e) lives

        other : (c.0 ≡ p.0 → ⊥) → is_over_in (changed_in (slice_get ms p.0) f p ms) c ≡ true
        other d = of_member (slice_get ms p.0)
          where
            of_member : (o : Option Member) → is_over_in (changed_in o f p ms) c ≡ true
            of_member None = e
            of_member (Some m) = over_other ms p (f m) c d ∙ e

living_revived : (ms : List Member) (f : Member → Member) (p : ProcessId) (l : Living) → HasLiving ms l
    → HasLiving (changed_in (slice_get ms p.0) f p ms) (record l { complete = l.complete && not (is_over_in ms p) })
living_revived ms f p l h = record { lists = lists }
  where
    lists : (l.complete && not (is_over_in ms p)) ≡ true → ListsLiving (changed_in (slice_get ms p.0) f p ms) l.listed
    lists g =
        let known = and_both l.complete (not (is_over_in ms p)) g in
        let lives = not_true (is_over_in ms p) (λ e. both known.1 (ap not e)) in
        lists_less ms (changed_in (slice_get ms p.0) f p ms) l.listed (over_changed ms f p lives) (length-changed ms f p) (h.lists known.0)

-- ---- a process more

numbers_more : (n : ℕ) (ms : List Member) (m : Member) (p : ProcessId) → p.0 ≡ n + length ms → numbered_from n (ms ++ m ∷ []) ≡ numbered_from n ms ++ p ∷ []
numbers_more n [] m p e = (let same : n ≡ p.0 = omega (arith, e) in λ i. record { 0 = same i } ∷ [])
numbers_more n (x ∷ ms) m p e = ap (λ ps. record { 0 = n } ∷ ps) (numbers_more (n + 1) ms m p (omega (arith, e)))

over_same : (ms : List Member) (m : Member) → m.over ≡ false → (p : ProcessId) → is_over_in (ms ++ m ∷ []) p ≡ is_over_in ms p
over_same ms m lives p = of_cases (by_option (slice_get ms p.0))
  where
    of_cases : ((x : Member) × (slice_get ms p.0 ≡ Some x)) ⊎ (slice_get ms p.0 ≡ None) → is_over_in (ms ++ m ∷ []) p ≡ is_over_in ms p
    of_cases (inl g) = ap (member_test (λ x. x.over)) (get_front ms (m ∷ []) p.0 g.0 g.1 ∙ sym g.1)
    of_cases (inr g) =
        let none : is_over_in ms p ≡ false = ap (member_test (λ x. x.over)) g in
        not_true (is_over_in (ms ++ m ∷ []) p) (λ k. both ((over_more ms m lives).each p k) none) ∙ sym none

lists_more : (ms : List Member) (m : Member) (ps : List ProcessId) (p : ProcessId) → p.0 ≡ length ms → m.over ≡ false → ListsLiving ms ps
    → ListsLiving (ms ++ m ∷ []) (ps ++ p ∷ [])
lists_more ms m ps p last lives l =
    record { left = front ps ∙ ap (λ qs. qs ++ left_of us (p ∷ [])) l.left ∙ sym (front all) ∙ ap (left_of us) (sym (numbers_more 0 ms m p (omega (arith, last)))) }
  where
    us : List Member
    us = ms ++ m ∷ []

    all : List ProcessId
    all = numbered_from 0 ms

    front : (qs : List ProcessId) → left_of us (qs ++ p ∷ []) ≡ left_of ms qs ++ left_of us (p ∷ [])
    front qs =
        filter-append (λ q. not (is_over_in us q)) qs (p ∷ [])
        ∙ (λ i. filter (λ q. not (over_same ms m lives q i)) qs ++ left_of us (p ∷ []))

-- where there is memory for it
pub list_more : (l : Living) (p : ProcessId) (ok : Bool) (ps : List ProcessId) → ps ≡ cond ok (l.listed ++ p ∷ []) l.listed → (l.complete && ok) ≡ true
    → record { listed = ps; complete = l.complete && ok } ≡ record l { listed = l.listed ++ p ∷ [] }
list_more l p true ps is g = (let known = and_both l.complete true g in λ i. record { listed = is i; complete = (g ∙ sym known.0) i })
list_more l p false ps is g = both (and_both l.complete false g).1 refl

pub living_more : (ms us : List Member) (m : Member) (l k : Living) (p : ProcessId) → us ≡ ms ++ m ∷ [] → p.0 ≡ length ms → m.over ≡ false
    → (k.complete ≡ true → k ≡ record l { listed = l.listed ++ p ∷ [] }) → HasLiving ms l → HasLiving us k
living_more ms us m l k p new last lives is h = subst (λ xs. HasLiving xs k) (sym new) (record { lists = lists })
  where
    lists : k.complete ≡ true → ListsLiving (ms ++ m ∷ []) k.listed
    lists g =
        subst (λ (n : Living). ListsLiving (ms ++ m ∷ []) n.listed) (sym (is g))
        (lists_more ms m l.listed p last lives (h.lists (sym (ap (λ (n : Living). n.complete) (is g)) ∙ g)))

-- ---- the list is made anew

-- without those that are over
pub living_left : (ms : List Member) (l : Living) (ps : List ProcessId) → ps ≡ left_of ms l.listed → HasLiving ms l → HasLiving ms (record l { listed = ps })
living_left ms l ps is h = record { lists = λ g. record { left = ap (left_of ms) is ∙ filter_both test test l.listed (λ p k. k) ∙ (h.lists g).left } }
  where
    test : ProcessId → Bool
    test p = not (is_over_in ms p)

-- ---- the same of what was read

pub revived : (ms us vs : List Member) (f : Member → Member) (p : ProcessId) (l k : Living) → us ≡ ms → k ≡ record l { complete = l.complete && not (is_over_in us p) }
    → vs ≡ changed_in (slice_get ms p.0) f p ms → HasLiving ms l → HasLiving vs k
revived ms us vs f p l k read new is h =
    let same = new ∙ ap (λ (xs : List Member). record l { complete = l.complete && not (is_over_in xs p) }) read in
    subst (λ xs. HasLiving xs k) (sym is) (subst (HasLiving (changed_in (slice_get ms p.0) f p ms)) (sym same) (living_revived ms f p l h))

pub lost : (ms us vs : List Member) (l k : Living) → us ≡ vs → OverLess ms vs → length vs ≡ length ms → HasLiving ms l → (HasLiving us l → HasLiving us k) → HasLiving vs k
lost ms us vs l k read o same h kept = subst (λ xs. HasLiving xs k) read (kept (subst (λ xs. HasLiving xs l) (sym read) (living_less ms vs l o same h)))
