-- How the rings and the map keep the future.
use Rattle.std.proofs.Common.{ℕ, ◌≡◌, ◌+◌, ◌-◌, ◌*◌, ◌/◌, ◌%◌, ◌<◌, ◌≤◌, List, [], ◌∷◌, None, Some, refl, ap, sym, ◌∙◌, arith, inl, inr, ◌⊎◌, subst, length}
use Rattle.std.specs.Prelude.{Option, max, IfSome, IfNone, ◌==◌, filter, get_or, set}
use Rattle.std.proofs.lemmas.Bool.{cases_eq, cases_lt}
use Rattle.std.proofs.lemmas.List.{get_or-set_same, get_or-set_other, get_or_default, length-set}
use Rattle.std.proofs.lemmas.Nat.{mod_below}
use Rattle.std.proofs.Math.Nat.{mod-add-div', add-mod-mod, le-max_left, le-max_right}
use Rattle.sv_value.specs.declared.number.ProcessId.{ProcessId}
use Rattle.sv_value.specs.declared.schedule.Event.{Event}
use Rattle.sv_flat.specs.Steps.{least_time}
use Rattle.sv_flat.specs.Effects.Ends.{not_due_to}
use Rattle.sv_sched.specs.Future.{first_at, without_first_at, due_at}
use Rattle.sv_sched.specs.Rings.{time_of_first, queued, left_in, ring_at, IsKept, IsFirstNear}
use Rattle.sv_sched.proofs.FutureLemmas.{AllFrom-least_time}
use Rattle.sv_sched.proofs.DueLemmas.{first_is, first_time_is, left_is, other_left, filter-filter, none_before, least_due, least_is, none_is}

-- ---- places

-- of 256 moments each has its own ring
apart : (last t u : ℕ) → last ≤ t → t < last + 256 → last ≤ u → u < last + 256 → t % 256 ≡ u % 256 → t ≡ u
apart last t u a b c d e =
    let f : t % 256 + t / 256 * 256 ≡ t = mod-add-div' t 256 in
    let g : u % 256 + u / 256 * 256 ≡ u = mod-add-div' u 256 in
    omega (arith, f, g)

is_place : (t n : ℕ) → n ≡ 256 → t % 256 < n
is_place t n h = let b : t % 256 < 256 = mod_below t 256 (omega arith) in omega (arith, b)

set_here : (rings : List (List Event)) (t u : ℕ) (es : List Event) → length rings ≡ 256 → u ≡ t → ring_at (set rings (t % 256) es) u ≡ es
set_here rings t u es n s = ap (λ (v : ℕ). get_or (set rings (t % 256) es) (v % 256) []) s ∙ get_or-set_same rings (t % 256) es [] (is_place t (length rings) n)

set_there : (rings : List (List Event)) (t u : ℕ) (es : List Event) → (u % 256 ≡ t % 256 → ⊥) → ring_at (set rings (t % 256) es) u ≡ ring_at rings u
set_there rings t u es n = get_or-set_other rings (t % 256) (u % 256) es [] n

-- ---- queues

queued_none : (es : List Event) → queued es ≡ None → es ≡ []
queued_none [] h = refl
queued_none (e ∷ es) h = absurd (cc)

differ : {e : Event} {es : List Event} → e ∷ es ≡ [] → ⊥
differ h = cc

queued_some : (es q : List Event) → queued es ≡ Some q → q ≡ es
queued_some [] q h = absurd (cc)
queued_some (e ∷ es) q h = cc

left_queued : (p : ProcessId) (es : List Event) → left_in p (queued es) ≡ queued (filter (not_due_to p) es)
left_queued p [] = refl
left_queued p (e ∷ es) = refl

not_both : {q : List Event} {o : Option (List Event)} → o ≡ Some q → o ≡ None → ⊥
not_both h n = cc

-- ---- what is kept

pub kept_popped : (rings : List (List Event)) (latest : ℕ) (later : ℕ → Option (List Event)) (t : ℕ) (es : List Event) (e : Event) (rest : List Event) → IsKept rings latest later t es
    → ring_at rings t ≡ e ∷ rest → IsKept (set rings (t % 256) rest) latest later t (without_first_at t es)
kept_popped rings latest later t es e rest k r = record {
  count = length-set rings (t % 256) rest ∙ k.count;
  past = λ u h. other_left t u es (λ s. omega arith) ∙ k.past u h;
  near = λ u h i. at u h i (cases_eq u t);
  beyond = λ u h i l. empty u h i l (cases_eq u t);
  far = λ u h. k.far u h ∙ ap queued (sym (other_left t u es (λ s. omega arith)));
  only_far = k.only_far;
}
  where
    due : due_at t es ≡ e ∷ rest
    due = sym (k.near t (omega arith) (omega arith)) ∙ r

    empty : (u : ℕ) → t ≤ u → u < t + 256 → latest < u → (u ≡ t) ⊎ (u ≡ t → ⊥) → ring_at (set rings (t % 256) rest) u ≡ []
    empty u h i l (inl s) = absurd (differ (sym r ∙ ap (λ (v : ℕ). ring_at rings v) (sym s) ∙ k.beyond u h i l))
    empty u h i l (inr o) = set_there rings t u rest (λ s. o (apart t u t h i (omega arith) (omega arith) s)) ∙ k.beyond u h i l

    at : (u : ℕ) → t ≤ u → u < t + 256 → (u ≡ t) ⊎ (u ≡ t → ⊥) → ring_at (set rings (t % 256) rest) u ≡ due_at u (without_first_at t es)
    at u h i (inl s) =
        set_here rings t u rest k.count s ∙ sym (left_is t es e rest due) ∙ ap (λ (v : ℕ). due_at v (without_first_at t es)) (sym s)
    at u h i (inr o) =
        set_there rings t u rest (λ s. o (apart t u t h i (omega arith) (omega arith) s)) ∙ k.near u h i ∙ sym (other_left t u es o)

pub kept_left : (p : ProcessId) (rings less : List (List Event)) (latest : ℕ) (later after : ℕ → Option (List Event)) (last : ℕ) (es : List Event) → IsKept rings latest later last es
    → length less ≡ length rings → ((i : ℕ) → get_or less i [] ≡ filter (not_due_to p) (get_or rings i [])) → ((t : ℕ) → after t ≡ left_in p (later t))
    → IsKept less latest after last (filter (not_due_to p) es)
kept_left p rings less latest later after last es k n r l = record {
  count = n ∙ k.count;
  past = λ t h. due t ∙ ap (filter (not_due_to p)) (k.past t h);
  near = λ t h i. r (t % 256) ∙ ap (filter (not_due_to p)) (k.near t h i) ∙ sym (due t);
  beyond = λ t h i b. r (t % 256) ∙ ap (filter (not_due_to p)) (k.beyond t h i b);
  far = λ t h. l t ∙ ap (left_in p) (k.far t h) ∙ left_queued p (due_at t es) ∙ ap queued (sym (due t));
  only_far = λ t h. l t ∙ ap (left_in p) (k.only_far t h);
}
  where
    due : (t : ℕ) → due_at t (filter (not_due_to p) es) ≡ filter (not_due_to p) (due_at t es)
    due t = filter-filter (not_due_to p) (λ (e : Event). e.time == t) es

-- ---- what comes first

pub least_near : (rings : List (List Event)) (latest : ℕ) (later : ℕ → Option (List Event)) (last t : ℕ) (es : List Event) → IsKept rings latest later last es → IsFirstNear rings last t
    → least_time es ≡ Some t
least_near rings latest later last t es k f = by_ring (ring_at rings f.moment) (k.near f.moment f.from f.within) f.first
  where
    nothing : (u : ℕ) → u < f.moment → (u < last) ⊎ (last ≤ u) → due_at u es ≡ []
    nothing u h (inl b) = k.past u b
    nothing u h (inr b) = sym (k.near u b (let w = f.within in omega (arith, w))) ∙ f.before u b h

    by_ring : (fs : List Event) → fs ≡ due_at f.moment es → time_of_first fs ≡ Some t → least_time es ≡ Some t
    by_ring [] d s = absurd (cc)
    by_ring (e ∷ fs) d s =
        least_is f.moment es e fs (sym d) (λ u h. nothing u h (cases_lt u last)) ∙ ap Some (sym (first_time_is f.moment es e fs (sym d))) ∙ s

pub least_later : (rings : List (List Event)) (latest : ℕ) (later : ℕ → Option (List Event)) (last t : ℕ) (es : List Event) → IsKept rings latest later last es
    → ((u : ℕ) → last ≤ u → u < last + 256 → ring_at rings u ≡ []) → (later t ≡ None → ⊥) → ((u : ℕ) → u < t → later u ≡ None) → least_time es ≡ Some t
least_later rings latest later last t es k r some least = by_due (due_at t es) refl (cases_lt t (last + 256))
  where
    nothing : (u : ℕ) → u < t → (u < last) ⊎ (last ≤ u) → (u < last + 256) ⊎ (last + 256 ≤ u) → due_at u es ≡ []
    nothing u h (inl b) n = k.past u b
    nothing u h (inr b) (inl n) = sym (k.near u b n) ∙ r u b n
    nothing u h (inr b) (inr n) = queued_none (due_at u es) (sym (k.far u n) ∙ least u h)

    by_due : (fs : List Event) → due_at t es ≡ fs → (t < last + 256) ⊎ (last + 256 ≤ t) → least_time es ≡ Some t
    by_due fs d (inl n) = absurd (some (k.only_far t n))
    by_due [] d (inr n) = absurd (some (k.far t n ∙ ap queued d))
    by_due (e ∷ fs) d (inr n) = least_is t es e fs d (λ u h. nothing u h (cases_lt u last) (cases_lt u (last + 256)))

pub least_none : (rings : List (List Event)) (latest : ℕ) (later : ℕ → Option (List Event)) (last : ℕ) (es : List Event) → IsKept rings latest later last es
    → ((u : ℕ) → last ≤ u → u < last + 256 → ring_at rings u ≡ []) → ((u : ℕ) → later u ≡ None) → least_time es ≡ None
least_none rings latest later last es k r l = ap least_time (none_is es (λ u. nothing u (cases_lt u last) (cases_lt u (last + 256))))
  where
    nothing : (u : ℕ) → (u < last) ⊎ (last ≤ u) → (u < last + 256) ⊎ (last + 256 ≤ u) → due_at u es ≡ []
    nothing u (inl b) n = k.past u b
    nothing u (inr b) (inl n) = sym (k.near u b n) ∙ r u b n
    nothing u (inr b) (inr n) = queued_none (due_at u es) (sym (k.far u n) ∙ l u)

-- ---- queues of the map come into the rings

-- the moments from the least time on, of which some may stand in the map yet
pub record IsComing (rings : List (List Event)) (latest : ℕ) (later : ℕ → Option (List Event)) (time : ℕ) (events : List Event) : Type 0 where
  pub count : length rings ≡ 256
  pub past : (u : ℕ) → u < time → due_at u events ≡ []
  pub gone : (u : ℕ) → u < time → later u ≡ None
  pub near : (u : ℕ) → time ≤ u → u < time + 256 → later u ≡ None → ring_at rings u ≡ due_at u events
  pub coming : (u : ℕ) (q : List Event) → time ≤ u → u < time + 256 → later u ≡ Some q → q ≡ due_at u events
  pub beyond : (u : ℕ) → time ≤ u → u < time + 256 → latest < u → ring_at rings u ≡ []
  pub far : (u : ℕ) → time + 256 ≤ u → later u ≡ queued (due_at u events)

pub coming_first : (rings : List (List Event)) (latest : ℕ) (later : ℕ → Option (List Event)) (last t : ℕ) (es : List Event) → IsKept rings latest later last es
    → least_time es ≡ Some t → IsComing rings latest later t es
coming_first rings latest later last t es k l = record {
  count = k.count;
  past = past;
  gone = λ u h. gone u h (cases_lt u (last + 256));
  near = λ u h i n. near u h i n (cases_lt u (last + 256));
  coming = λ u q h i s. coming u q s (cases_lt u (last + 256));
  beyond = λ u h i l. beyond u h i l (cases_lt u (last + 256));
  far = λ u h. k.far u (let o = from in omega (arith, o));
}
  where
    past : (u : ℕ) → u < t → due_at u es ≡ []
    past u h = none_before t u es (AllFrom-least_time t es l) h

    from : last ≤ t
    from = not_before (cases_lt t last)
      where
        not_before : (t < last) ⊎ (last ≤ t) → last ≤ t
        not_before (inl h) = absurd (least_due t es l (k.past t h))
        not_before (inr h) = h

    gone : (u : ℕ) → u < t → (u < last + 256) ⊎ (last + 256 ≤ u) → later u ≡ None
    gone u h (inl n) = k.only_far u n
    gone u h (inr n) = k.far u n ∙ ap queued (past u h)

    -- the ring of a moment that was far is empty, as that of a moment that is over
    before : (u : ℕ) → t ≤ u → u < t + 256 → last + 256 ≤ u → ring_at rings u ≡ []
    before u h i b =
        let w : ℕ = last + (u - last) % 256 in
        let whole : last + (u - last) ≡ u = omega arith in
        let same : w % 256 ≡ u % 256 = add-mod-mod last (u - last) 256 ∙ ap (λ (v : ℕ). v % 256) whole in
        let below : (u - last) % 256 < 256 = mod_below (u - last) 256 (omega arith) in
        let parts : (u - last) % 256 + (u - last) / 256 * 256 ≡ u - last = mod-add-div' (u - last) 256 in
        let over : w < t = omega (arith, below, parts) in
        let since : last ≤ w = omega arith in
        let within : w < last + 256 = omega (arith, below) in
        ap (λ (j : ℕ). get_or rings j []) (sym same) ∙ k.near w since within ∙ past w over

    beyond : (u : ℕ) → t ≤ u → u < t + 256 → latest < u → (u < last + 256) ⊎ (last + 256 ≤ u) → ring_at rings u ≡ []
    beyond u h i l (inl b) = k.beyond u (let o = from in omega (arith, o)) b l
    beyond u h i l (inr b) = before u h i b

    near : (u : ℕ) → t ≤ u → u < t + 256 → later u ≡ None → (u < last + 256) ⊎ (last + 256 ≤ u) → ring_at rings u ≡ due_at u es
    near u h i n (inl b) = k.near u (let o = from in omega (arith, o)) b
    near u h i n (inr b) = before u h i b ∙ sym (queued_none (due_at u es) (sym (k.far u b) ∙ n))

    coming : (u : ℕ) (q : List Event) → later u ≡ Some q → (u < last + 256) ⊎ (last + 256 ≤ u) → q ≡ due_at u es
    coming u q s (inl b) = absurd (not_both s (k.only_far u b))
    coming u q s (inr b) = queued_some (due_at u es) q (sym (k.far u b) ∙ s)

pub coming_next : (rings : List (List Event)) (latest : ℕ) (later after : ℕ → Option (List Event)) (t m : ℕ) (q : List Event) (es : List Event) → IsComing rings latest later t es
    → m < t + 256 → later m ≡ Some q → after m ≡ None → ((u : ℕ) → (u ≡ m → ⊥) → after u ≡ later u) → IsComing (set rings (m % 256) q) (max latest m) after t es
coming_next rings latest later after t m q es k below here left others = record {
  count = length-set rings (m % 256) q ∙ k.count;
  past = k.past;
  gone = λ u h. others u (λ s. let o = from in omega (arith, o)) ∙ k.gone u h;
  near = λ u h i n. near u h i n (cases_eq u m);
  coming = λ u r h i s. coming u r h i s (cases_eq u m);
  beyond = λ u h i l. beyond u h i l;
  far = λ u h. others u (λ s. omega arith) ∙ k.far u h;
}
  where
    from : t ≤ m
    from = not_before (cases_lt m t)
      where
        not_before : (m < t) ⊎ (t ≤ m) → t ≤ m
        not_before (inl h) = absurd (not_both here (k.gone m h))
        not_before (inr h) = h

    near : (u : ℕ) → t ≤ u → u < t + 256 → after u ≡ None → (u ≡ m) ⊎ (u ≡ m → ⊥) → ring_at (set rings (m % 256) q) u ≡ due_at u es
    near u h i n (inl s) = set_here rings m u q k.count s ∙ k.coming m q from below here ∙ ap (λ (v : ℕ). due_at v es) (sym s)
    near u h i n (inr o) = set_there rings m u q (λ s. o (apart t u m h i from below s)) ∙ k.near u h i (sym (others u o) ∙ n)

    beyond : (u : ℕ) → t ≤ u → u < t + 256 → max latest m < u → ring_at (set rings (m % 256) q) u ≡ []
    beyond u h i l =
        let a = le-max_left latest m in
        let b = le-max_right latest m in
        set_there rings m u q (λ s. let e = apart t u m h i from below s in omega (arith, b, e)) ∙ k.beyond u h i (omega (arith, a))

    coming : (u : ℕ) (r : List Event) → t ≤ u → u < t + 256 → after u ≡ Some r → (u ≡ m) ⊎ (u ≡ m → ⊥) → r ≡ due_at u es
    coming u r h i s (inl e) = absurd (not_both (ap after (sym e) ∙ s) left)
    coming u r h i s (inr o) = k.coming u r h i (sym (others u o) ∙ s)

pub coming_last : (rings : List (List Event)) (latest : ℕ) (later : ℕ → Option (List Event)) (t : ℕ) (es : List Event) → IsComing rings latest later t es
    → ((u : ℕ) → u < t + 256 → later u ≡ None) → IsKept rings latest later t es
coming_last rings latest later t es k n = record {
  count = k.count;
  past = k.past;
  near = λ u h i. k.near u h i (n u i);
  beyond = k.beyond;
  far = k.far;
  only_far = n;
}

-- ---- the walks along the rings

-- what `rings[place]` gives
pub read_ring : (rings : List (List Event)) (place t : ℕ) (ring : List Event) → length rings ≡ 256 → place ≡ t % 256 → get_or rings place ring ≡ ring → ring_at rings t ≡ ring
read_ring rings place t ring n is got =
    let within : t % 256 < length rings = is_place t (length rings) n in
    ap (λ (j : ℕ). get_or rings j []) (sym is) ∙ get_or_default rings place [] ring (omega (arith, within, is)) ∙ got

pub found_near : (rings : List (List Event)) (last ticks t : ℕ) → ticks < 256 → ((u : ℕ) → last ≤ u → u < last + ticks → ring_at rings u ≡ [])
    → time_of_first (ring_at rings (last + ticks)) ≡ Some t → IsFirstNear rings last t
found_near rings last ticks t below passed first = record { moment = last + ticks; from = omega arith; within = omega arith; first = first; before = passed }

-- ---- what is given out

pub later_first : (rings : List (List Event)) (latest : ℕ) (later : ℕ → Option (List Event)) (last : ℕ) (es : List Event) (first : Option ℕ) → IsKept rings latest later last es
    → ((u : ℕ) → last ≤ u → u < last + 256 → ring_at rings u ≡ []) → IfSome first (λ t. later t ≡ None → ⊥) → IfSome first (λ t. (u : ℕ) → u < t → later u ≡ None)
    → IfNone first ((u : ℕ) → later u ≡ None) → first ≡ least_time es
later_first rings latest later last es None k r there least none = sym (least_none rings latest later last es k r none)
later_first rings latest later last es (Some t) k r there least none = sym (least_later rings latest later last t es k r there least)

pub kept_some : (rings : List (List Event)) (latest : ℕ) (later : ℕ → Option (List Event)) (t : ℕ) (es : List Event) → IsKept rings latest later t es → least_time es ≡ Some t
    → ring_at rings t ≡ [] → ⊥
kept_some rings latest later t es k l n = least_due t es l (sym (k.near t (omega arith) (omega arith)) ∙ n)

pub given_due : (rings : List (List Event)) (latest : ℕ) (later : ℕ → Option (List Event)) (t : ℕ) (es : List Event) (e : Event) (rest : List Event) → IsKept rings latest later t es
    → ring_at rings t ≡ e ∷ rest → due_at t es ≡ e ∷ rest
given_due rings latest later t es e rest k r = sym (k.near t (omega arith) (omega arith)) ∙ r

pub kept_given : (rings next : List (List Event)) (latest : ℕ) (later : ℕ → Option (List Event)) (t : ℕ) (es fewer : List Event) (e : Event) → IsKept rings latest later t es
    → ring_at rings t ≡ e ∷ ring_at next t → next ≡ set rings (t % 256) (ring_at next t) → fewer ≡ without_first_at e.time es → IsKept next latest later t fewer
kept_given rings next latest later t es fewer e k r s f =
    let time : e.time ≡ t = first_time_is t es e (ring_at next t) (given_due rings latest later t es e (ring_at next t) k r) in
    let left : fewer ≡ without_first_at t es = f ∙ ap (λ (u : ℕ). without_first_at u es) time in
    subst (λ (rs : List (List Event)). IsKept rs latest later t fewer) (sym s)
    (subst (λ (fs : List Event). IsKept (set rings (t % 256) (ring_at next t)) latest later t fs) (sym left) (kept_popped rings latest later t es e (ring_at next t) k r))

pub first_given : (t : ℕ) (es : List Event) (e : Event) (rest : List Event) → due_at t es ≡ e ∷ rest → least_time es ≡ Some t
    → (least_time es ≡ Some e.time) × (first_at e.time es ≡ Some e)
first_given t es e rest d l =
    let time : e.time ≡ t = first_time_is t es e rest d in
    (l ∙ ap Some (sym time), ap (λ (u : ℕ). first_at u es) time ∙ first_is t es e rest d)
