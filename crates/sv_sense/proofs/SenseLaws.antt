-- What is kept covers what is waited for.
use Rattle.std.proofs.Common.{◌≡◌, ℕ, zero, suc, ◌<◌, Bool, true, false, List, [], ◌∷◌, ◌++◌, Option, None, Some, refl, sym, ap, ◌∙◌, subst, arith, length, map, inl, inr}
use Rattle.std.proofs.lemmas.Bool.{cases_eq}
use Rattle.std.specs.Prelude.{slice_index_or, slice_set, if◌then◌else◌, ◌⊎◌, OnOk, Result, Ok, Err}
use Rattle.sv_value.specs.declared.number.ProcessId.{ProcessId}
use Rattle.sv_flat.specs.declared.design.Parts.{Parts}
use Rattle.sv_flat.specs.declared.process.Process.{Process}
use Rattle.sv_flat.specs.Effects.{is_in}
use Rattle.sv_flat.specs.State.{Name, no_value}
use Rattle.sv_built.specs.Built.{IsBuilt}
use Rattle.sv_built.specs.declared.wait.Wait.{Wait}
use Rattle.sv_assign.specs.Seen.{Change, Of_object, Of_variable}
use Rattle.sv_sense.specs.declared.waiter.Waiter.{Waiter}
use Rattle.sv_sense.specs.Objects.{wait_objects}
use Rattle.sv_sense.specs.Watchers.{Ascends, Grows, from_on}
use Rattle.sv_sense.specs.Wakes.{Scenes, fires_at, wait_of, waits_after, woken_from, tried, woken_of}
use Rattle.sv_sense.specs.Sensed.{Sensed, IsFound, AllFound, Covers, hearers}
use Rattle.sv_sense.proofs.RegisterLaws.{grows_self, registered_on, length-set_at}
use Rattle.sv_sense.proofs.WatcherLaws.{in_all}
use Rattle.sv_sense.proofs.ChangeLaws.{SeesSame, IsChange}
use Rattle.sv_sense.proofs.HeardLaws.{heard, not_static}
use Rattle.sv_sense.proofs.TryLaws.{all_left, all_woken}

-- ---- lists of waits

none_waits : {A : Type 0} (ps : List Process) (i : ℕ) (a : A) → slice_index_or (map (λ p. None) ps) i None ≡ Some a → ⊥
none_waits [] i a h = cc
none_waits (p ∷ ps) zero a h = cc
none_waits (p ∷ ps) (suc i) a h = none_waits ps i a h

length-none : {A : Type 0} (ws : List (Option A)) (ps : List Process) → ws ≡ map (λ p. None) ps → length ws ≡ length ps
length-none [] [] h = refl
length-none [] (p ∷ ps) h = absurd (cc)
length-none (w ∷ ws) [] h = absurd (cc)
length-none (w ∷ ws) (p ∷ ps) h = ap suc (length-none ws ps (cc))

set_cases : {A : Type 0} (ws : List (Option A)) (i j : ℕ) (x : Option A) (a : A) → slice_index_or (slice_set ws i x) j None ≡ Some a
    → ((j ≡ i) × (x ≡ Some a)) ⊎ (slice_index_or ws j None ≡ Some a)
set_cases [] i j x a h = inr h
set_cases (v ∷ ws) zero zero x a h = inl (refl, h)
set_cases (v ∷ ws) zero (suc j) x a h = inr h
set_cases (v ∷ ws) (suc i) zero x a h = inr h
set_cases (v ∷ ws) (suc i) (suc j) x a h =
    elim (set_cases ws i j x a h) [ inl b ↦ inl (ap suc b.0, b.1) | inr c ↦ inr c ]

still_waits : (t : Option Waiter → Bool) (ws : List (Option Waiter)) (i : ℕ) (w : Waiter) → slice_index_or (waits_after t ws) i None ≡ Some w → slice_index_or ws i None ≡ Some w
still_waits t [] i w h = h
still_waits t (v ∷ ws) zero w h = by_test (t v) h
  where
    by_test : (b : Bool) → (if b then None else v) ≡ Some w → v ≡ Some w
    by_test true h = absurd (cc)
    by_test false h = h
still_waits t (v ∷ ws) (suc i) w h = still_waits t ws i w h

pub length-after : (t : Option Waiter → Bool) (ws : List (Option Waiter)) → length (waits_after t ws) ≡ length ws
length-after t [] = refl
length-after t (w ∷ ws) = ap suc (length-after t ws)

-- the one that is added waits for nothing
none_added : {A : Type 0} (ws : List (Option A)) (i : ℕ) (a : A) → slice_index_or (ws ++ None ∷ []) i None ≡ Some a → slice_index_or ws i None ≡ Some a
none_added [] zero a h = h
none_added [] (suc i) a h = h
none_added (v ∷ ws) zero a h = h
none_added (v ∷ ws) (suc i) a h = none_added ws i a h

length-added : {A : Type 0} (ws : List (Option A)) → length (ws ++ None ∷ []) ≡ suc (length ws)
length-added [] = refl
length-added (w ∷ ws) = ap suc (length-added ws)

-- ---- who is found stays so

-- a list has lost no process
pub record AllGrow (before after : List ProcessId) : Type 0 where
  pub kept : (p : ProcessId) → is_in p before ≡ true → is_in p after ≡ true

-- no list of watchers has lost a process
pub record Grown (s u : Sensed) : Type 0 where
  pub watchers : Grows s.watchers u.watchers
  pub scoped : AllGrow s.scoped u.scoped
  pub all : AllGrow s.all u.all

wider_watchers : (ls : List (List ProcessId)) (i : ℕ) (before after : List ProcessId) (p : ProcessId) → AllGrow before after → is_in p (slice_index_or ls i before) ≡ true
    → is_in p (slice_index_or ls i after) ≡ true
wider_watchers [] i before after p g h = g.kept p h
wider_watchers (l ∷ ls) zero before after p g h = h
wider_watchers (l ∷ ls) (suc i) before after p g h = wider_watchers ls i before after p g h

pub found_on : (d : Parts) (p : ProcessId) (w : Wait) (s u : Sensed) → Grown s u → IsFound d p w s → IsFound d p w u
found_on d p w s u g f = record {
  objects =
      registered_on p (wait_objects d w) s.watchers u.watchers u.all g.watchers
      (record { each = λ o among. wider_watchers s.watchers o.0 s.all u.all p g.all (f.objects.each o among) });
  variables = λ h. g.scoped.kept p (f.variables h);
}

module _ {A : Type 0} (wait : A → Wait) (d : Parts) where
  all_none : (s : Sensed) (ws : List (Option A)) → ws ≡ map (λ p. None) d.processes → AllFound wait d ws s
  all_none s ws is = record { each = λ p a h. absurd (none_waits d.processes p.0 a (ap (λ (us : List (Option A)). slice_index_or us p.0 None) (sym is) ∙ h)) }

  all_on : (s u : Sensed) (ws : List (Option A)) → Grown s u → AllFound wait d ws s → AllFound wait d ws u
  all_on s u ws g h = record { each = λ p a e. found_on d p (wait a) s u g (h.each p a e) }

  all_set : (s : Sensed) (ws : List (Option A)) (p : ProcessId) (a : A) → AllFound wait d ws s → IsFound d p (wait a) s → AllFound wait d (slice_set ws p.0 (Some a)) s
  all_set s ws p a h f = record { each = λ q b e. by_case q b (set_cases ws p.0 q.0 (Some a) b e) }
    where
      by_case : (q : ProcessId) (b : A) → ((q.0 ≡ p.0) × (Some a ≡ Some b)) ⊎ (wait_of q ws ≡ Some b) → IsFound d q (wait b) s
      by_case q b (inl c) =
          let same : a ≡ b = cc (c.1) in
          subst (λ (x : A). IsFound d q (wait x) s) same (subst (λ (x : ProcessId). IsFound d x (wait a) s) (λ i. record { 0 = sym c.0 i }) f)
      by_case q b (inr c) = h.each q b c

  all_forgot : (s : Sensed) (ws : List (Option A)) (p : ProcessId) → AllFound wait d ws s → AllFound wait d (slice_set ws p.0 None) s
  all_forgot s ws p h = record { each = λ q b e. by_case q b (set_cases ws p.0 q.0 None b e) }
    where
      by_case : (q : ProcessId) (b : A) → ((q.0 ≡ p.0) × (None ≡ Some b)) ⊎ (wait_of q ws ≡ Some b) → IsFound d q (wait b) s
      by_case q b (inl c) = absurd (cc (c.1))
      by_case q b (inr c) = h.each q b c

  all_added : (s : Sensed) (ws : List (Option A)) → AllFound wait d ws s → AllFound wait d (ws ++ None ∷ []) s
  all_added s ws h = record { each = λ p a e. h.each p a (none_added ws p.0 a e) }

-- ---- the whole

pub covers_none : (d : Parts) (s : Sensed) → s.waits ≡ map (λ p. None) d.processes → s.known ≡ map (λ p. None) d.processes → s.all ≡ from_on 0 (length d.processes) → Covers d s
covers_none d s ws ks as' =
    let waits : length s.waits ≡ length d.processes = length-none s.waits d.processes ws in
    let known : length s.known ≡ length d.processes = length-none s.known d.processes ks in
    record {
      known_count = omega (arith, waits, known);
      everyone = λ p h. ap (is_in p) as' ∙ in_all 0 (length d.processes) p (omega arith) (omega (arith, h, waits));
      waiting = all_none (λ w. w.wait) d s s.waits ws;
      registered = all_none (λ w. w) d s s.known ks;
    }

-- the same lists of watchers
pub same_lists : (s u : Sensed) → u.watchers ≡ s.watchers → u.scoped ≡ s.scoped → u.all ≡ s.all → Grown s u
same_lists s u watchers scoped all = record {
  watchers = subst (Grows s.watchers) (sym watchers) (grows_self s.watchers);
  scoped = subst (AllGrow s.scoped) (sym scoped) (record { kept = λ p h. h });
  all = subst (AllGrow s.all) (sym all) (record { kept = λ p h. h });
}

-- the same waits
pub covers_grown : (d : Parts) (s u : Sensed) → Covers d s → Grown s u → u.waits ≡ s.waits → u.known ≡ s.known → Covers d u
covers_grown d s u c g waits known =
    let few = c.known_count in
    let as_many = ap length waits in
    let as_known = ap length known in
    record {
      known_count = omega (arith, few, as_many, as_known);
      everyone = λ p h. g.all.kept p (c.everyone p (omega (arith, h, as_many)));
      waiting = subst (λ (ws : List (Option Waiter)). AllFound (λ w. w.wait) d ws u) (sym waits) (all_on (λ w. w.wait) d s u s.waits g c.waiting);
      registered = subst (λ (ws : List (Option Wait)). AllFound (λ w. w) d ws u) (sym known) (all_on (λ w. w) d s u s.known g c.registered);
    }

-- a process is registered
pub covers_known : (d : Parts) (s u : Sensed) (p : ProcessId) (w : Wait) → Covers d s → Grown s u → IsFound d p w u → u.waits ≡ s.waits
    → u.known ≡ slice_set s.known p.0 (Some w) → Covers d u
covers_known d s u p w c g f waits known =
    let few = c.known_count in
    let as_many = ap length waits in
    let as_known : length u.known ≡ length s.known = ap length known ∙ length-set_at s.known p.0 (Some w) in
    record {
      known_count = omega (arith, few, as_many, as_known);
      everyone = λ q h. g.all.kept q (c.everyone q (omega (arith, h, as_many)));
      waiting = subst (λ (ws : List (Option Waiter)). AllFound (λ w. w.wait) d ws u) (sym waits) (all_on (λ w. w.wait) d s u s.waits g c.waiting);
      registered =
          subst (λ (ws : List (Option Wait)). AllFound (λ w. w) d ws u) (sym known)
          (all_set (λ w. w) d u s.known p w (all_on (λ w. w) d s u s.known g c.registered) f);
    }

-- other waits of as many processes
covers_waits : (d : Parts) (s u : Sensed) → Covers d s → Grown s u → length u.waits ≡ length s.waits → u.known ≡ s.known → AllFound (λ w. w.wait) d u.waits s → Covers d u
covers_waits d s u c g same known f =
    let few = c.known_count in
    let as_known = ap length known in
    record {
      known_count = omega (arith, few, same, as_known);
      everyone = λ p h. g.all.kept p (c.everyone p (omega (arith, h, same)));
      waiting = all_on (λ w. w.wait) d s u u.waits g f;
      registered = subst (λ (ws : List (Option Wait)). AllFound (λ w. w) d ws u) (sym known) (all_on (λ w. w) d s u s.known g c.registered);
    }

-- a process waits
pub covers_wait : (d : Parts) (s u : Sensed) (p : ProcessId) (w : Waiter) → Covers d s → IsFound d p w.wait s → u ≡ record s { waits = slice_set s.waits p.0 (Some w) } → Covers d u
covers_wait d s u p w c f is =
    covers_waits d s u c (same_lists s u (ap (λ (x : Sensed). x.watchers) is) (ap (λ (x : Sensed). x.scoped) is) (ap (λ (x : Sensed). x.all) is))
    (ap (λ (x : Sensed). length x.waits) is ∙ length-set_at s.waits p.0 (Some w)) (ap (λ (x : Sensed). x.known) is)
    (subst (λ (x : Sensed). AllFound (λ w. w.wait) d x.waits s) (sym is) (all_set (λ w. w.wait) d s s.waits p w c.waiting f))

-- a process waits no longer
pub covers_forgot : (d : Parts) (s u : Sensed) (p : ProcessId) → Covers d s → u ≡ record s { waits = slice_set s.waits p.0 None } → Covers d u
covers_forgot d s u p c is =
    covers_waits d s u c (same_lists s u (ap (λ (x : Sensed). x.watchers) is) (ap (λ (x : Sensed). x.scoped) is) (ap (λ (x : Sensed). x.all) is))
    (ap (λ (x : Sensed). length x.waits) is ∙ length-set_at s.waits p.0 None) (ap (λ (x : Sensed). x.known) is)
    (subst (λ (x : Sensed). AllFound (λ w. w.wait) d x.waits s) (sym is) (all_forgot (λ w. w.wait) d s s.waits p c.waiting))

-- some are woken
pub covers_left : (d : Parts) (s u : Sensed) (t : Option Waiter → Bool) → Covers d s → u ≡ record s { waits = waits_after t s.waits } → Covers d u
covers_left d s u t c is =
    covers_waits d s u c (same_lists s u (ap (λ (x : Sensed). x.watchers) is) (ap (λ (x : Sensed). x.scoped) is) (ap (λ (x : Sensed). x.all) is))
    (ap (λ (x : Sensed). length x.waits) is ∙ length-after t s.waits) (ap (λ (x : Sensed). x.known) is)
    (subst (λ (x : Sensed). AllFound (λ w. w.wait) d x.waits s) (sym is) (record { each = λ p w h. c.waiting.each p w (still_waits t s.waits p.0 w h) }))

-- ---- a process more

-- as many waits, and one more that is known
pub covers_known_more : (d : Parts) (s u : Sensed) → Covers d s → Grown s u → u.waits ≡ s.waits → u.known ≡ s.known ++ None ∷ [] → Covers d u
covers_known_more d s u c g waits known =
    let few = c.known_count in
    let as_many = ap length waits in
    let more : length u.known ≡ suc (length s.known) = ap length known ∙ length-added s.known in
    record {
      known_count = omega (arith, few, as_many, more);
      everyone = λ p h. g.all.kept p (c.everyone p (omega (arith, h, as_many)));
      waiting = subst (λ (ws : List (Option Waiter)). AllFound (λ w. w.wait) d ws u) (sym waits) (all_on (λ w. w.wait) d s u s.waits g c.waiting);
      registered =
          subst (λ (ws : List (Option Wait)). AllFound (λ w. w) d ws u) (sym known)
          (all_on (λ w. w) d s u (s.known ++ None ∷ []) g (all_added (λ w. w) d s s.known c.registered));
    }

-- a process more, which all those that watch have
pub covers_more : (d : Parts) (s u : Sensed) (p : ProcessId) → Covers d s → Grown s u → is_in p u.all ≡ true → p.0 ≡ length s.waits → u.waits ≡ s.waits ++ None ∷ []
    → u.known ≡ s.known ++ None ∷ [] → Covers d u
covers_more d s u p c g new number waits known =
    let few = c.known_count in
    let more : length u.waits ≡ suc (length s.waits) = ap length waits ∙ length-added s.waits in
    let more_known : length u.known ≡ suc (length s.known) = ap length known ∙ length-added s.known in
    record {
      known_count = omega (arith, few, more, more_known);
      everyone = λ q h. one q h (cases_eq q.0 p.0);
      waiting =
          subst (λ (ws : List (Option Waiter)). AllFound (λ w. w.wait) d ws u) (sym waits)
          (all_on (λ w. w.wait) d s u (s.waits ++ None ∷ []) g (all_added (λ w. w.wait) d s s.waits c.waiting));
      registered =
          subst (λ (ws : List (Option Wait)). AllFound (λ w. w) d ws u) (sym known)
          (all_on (λ w. w) d s u (s.known ++ None ∷ []) g (all_added (λ w. w) d s s.known c.registered));
    }
  where
    one : (q : ProcessId) → q.0 < length u.waits → (q.0 ≡ p.0) ⊎ (q.0 ≡ p.0 → ⊥) → is_in q u.all ≡ true
    one q h (inl e) = ap (λ (n : ℕ). is_in (record { 0 = n }) u.all) e ∙ new
    one q h (inr e) = g.all.kept q (c.everyone q (below q.0 (length s.waits) (length u.waits) p.0 h (ap length waits ∙ length-added s.waits) number e))
      where
        below : (a n m b : ℕ) → a < m → m ≡ suc n → b ≡ n → (a ≡ b → ⊥) → a < n
        below a n m b h e f k = omega (arith, h, e, f, k)

-- ---- a change

-- who is woken is among those that may be woken
told : (d : Parts) (s : Sensed) → IsBuilt d → Covers d s → (k : Change) (old new : Scenes) → IsChange k old new
    → (p : ProcessId) → fires_at d old new (wait_of p s.waits) ≡ true → is_in p (hearers s k) ≡ true
told d s b c k old new change p h = by_wait (wait_of p s.waits) refl
  where
    found : (k : Change) → IsChange k old new → (w : Waiter) → IsFound d p w.wait s → fires_at d old new (Some w) ≡ true → is_in p (hearers s k) ≡ true
    found (Of_object o) change w f h = f.objects.each o.object (heard d b o.object (old w.scope) (new w.scope) (change w.scope) w.wait h)
    found (Of_variable n i x) change w f h = f.variables (not_static d b (old w.scope) (new w.scope) (change w.scope) w.wait h)

    by_wait : (x : Option Waiter) → wait_of p s.waits ≡ x → is_in p (hearers s k) ≡ true
    by_wait None e = (let z : false ≡ true = ap (fires_at d old new) (sym e) ∙ h in cc)
    by_wait (Some w) e = found k change w (c.waiting.each p w e) (ap (fires_at d old new) (sym e) ∙ h)

module _ (d : Parts) (s : Sensed) (b : IsBuilt d) (c : Covers d s) (k : Change) (old new : Scenes) (change : IsChange k old new) (qs : List ProcessId) (is : qs ≡ hearers s k) (a : Ascends 0 qs) where
  those : (p : ProcessId) → fires_at d old new (wait_of p s.waits) ≡ true → is_in p qs ≡ true
  those p h = ap (is_in p) is ∙ told d s b c k old new change p h

  pub fired_left : tried (fires_at d old new) qs s.waits ≡ waits_after (fires_at d old new) s.waits
  fired_left = all_left (fires_at d old new) refl s.waits qs a those

  pub fired_woken : woken_of (fires_at d old new) qs s.waits ≡ woken_from (fires_at d old new) 0 s.waits
  fired_woken = all_woken (fires_at d old new) refl s.waits qs a those

-- where none may watch variables of activations, none is woken while all objects stay as they are
pub none_hear : (d : Parts) → IsBuilt d → (s : Sensed) → Covers d s → s.scoped ≡ [] → (old new : Scenes) → ((scope : Option Name) → SeesSame (old scope) (new scope))
    → (waits_after (fires_at d old new) s.waits ≡ s.waits) × (woken_from (fires_at d old new) 0 s.waits ≡ [])
none_hear d b s c none old new same = (sym (all_left (fires_at d old new) refl s.waits [] tt nobody), sym (all_woken (fires_at d old new) refl s.waits [] tt nobody))
  where
    nobody : (p : ProcessId) → fires_at d old new (wait_of p s.waits) ≡ true → is_in p [] ≡ true
    nobody p h =
        ap (is_in p) (sym none)
        ∙ told d s b c (Of_variable (record { process = p; place = 0 }) 0 no_value) old new same p h

-- what follows where there is an answer
pub ok_given : {A E : Type 0} (r : Result A E) (P Q : Type 0) → (P → Q) → OnOk r P → OnOk r Q
ok_given (Ok x) P Q go h = go h
ok_given (Err e) P Q go h = h
