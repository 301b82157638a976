-- A change, as the machine and as the configuration tell it.
use Rattle.std.proofs.Common.{ℕ, suc, ◌≡◌, ◌+◌, Bool, true, false, List, [], ◌∷◌, Option, None, Some, refl, ap, sym, ◌∙◌, arith, map, slice_get}
use Rattle.std.specs.Prelude.{◌||◌, ◌&&◌, not, if◌then◌else◌}
use Rattle.std.specs.List.{AllByRecursion}
use Rattle.sv_value.specs.declared.number.ProcessId.{ProcessId}
use Rattle.sv_value.specs.Regions.{Regions, ready_in, front_of}
use Rattle.sv_flat.specs.declared.process.Process.{Process}
use Rattle.sv_flat.specs.declared.design.Parts.{Parts}
use Rattle.sv_flat.specs.State.{World, View, Name}
use Rattle.sv_flat.specs.Process
use Rattle.sv_flat.specs.Process.{Status, Ready, Running, Waiting, Moment, Turn_in_slot, Watches, Children, Queue, Start, ProcessState}
use Rattle.sv_flat.specs.Config.{Config, unit_ticks, seen, starts}
use Rattle.sv_flat.specs.Effects.Ends.{is_ended}
use Rattle.sv_flat.specs.Woken.{Changed, some_fires, is_woken}
use Rattle.sv_built.specs.Waits.{watches_at}
use Rattle.sv_sound.specs.Sound.{IsSound, pending_count}
use Rattle.sv_sound.specs.After.{with_values}
use Rattle.sv_sound.proofs.Wakes.{states_after, regions_after, woken_in}
use Rattle.sv_fork.specs.Tree.{Member, join_of, member_of}
use Rattle.sv_assign.specs.Seen.{view_in}
use Rattle.sv_sense.specs.declared.waiter.Waiter.{Waiter}
use Rattle.sv_sense.specs.Wakes.{Scenes, woken_from, waits_after}
use Rattle.sv_machine.specs.Waits.{Awaited, awaited, awaited_at, awaited_by}
use Rattle.sv_machine.specs.Machine.{rest_of, was_taken, made_of}
use Rattle.sv_machine.specs.Wakes.{side_at, all_ready}

-- ---- what is seen

-- in a run without a heap, the store and the activations are all that is seen
pub seen_is : (d : Parts) (c : Config) → IsSound d c → (scope : Option Name) → seen d c scope ≡ view_in c.store c.activations c.time (unit_ticks d.scale) scope
seen_is d c h scope = λ i. seen d (record c { world = record c.world { heap = h.no_heap i } }) scope

-- ---- one process

-- a test of what is kept of a wait, that is one of the watches as its scope sees them
pub record Tests (d : Parts) (t : Option Waiter → Bool) (old new : Scenes) : Type 0 where
  pub none : t None ≡ false
  pub some : (w : Waiter) → t (Some w) ≡ some_fires (watches_at d w.wait) Changed (old w.scope) (new w.scope)

awaited_none : (d : Parts) (c : Config) (v : World) (x : Status) → awaited x ≡ None → (q : ProcessState) → q.latest ≡ x → woken_in d c v 0 q ≡ false
awaited_none d c v x h q e = ap (λ (x : Status). woken_in d c v 0 (record q { latest = x })) e ∙ by_status x h
  where
    by_status : (x : Status) → awaited x ≡ None → woken_in d c v 0 (record q { latest = x }) ≡ false
    by_status Ready h = refl
    by_status Running h = refl
    by_status Process.Ended h = refl
    by_status (Waiting Moment) h = refl
    by_status (Waiting Turn_in_slot) h = refl
    by_status (Waiting (Watches ws scope)) h = absurd (cc)
    by_status (Waiting (Children all ps)) h = refl
    by_status (Waiting Queue) h = refl
    by_status (Waiting Start) h = refl

-- what waits for a change waits for these watches, seen from this scope
pub awaited_some : (a : Awaited) (x : Status) → awaited x ≡ Some a → x ≡ Waiting (Watches a.watches a.scope)
awaited_some a Ready h = absurd (cc)
awaited_some a Running h = absurd (cc)
awaited_some a Process.Ended h = absurd (cc)
awaited_some a (Waiting Moment) h = absurd (cc)
awaited_some a (Waiting Turn_in_slot) h = absurd (cc)
awaited_some a (Waiting (Watches ws scope)) h =
    let b : Awaited = record { watches = ws; scope = scope } in
    let e : b ≡ a = cc in
    λ i. Waiting (Watches (e i).watches (e i).scope)
awaited_some a (Waiting (Children all ps)) h = absurd (cc)
awaited_some a (Waiting Queue) h = absurd (cc)
awaited_some a (Waiting Start) h = absurd (cc)

-- what the values are in all scopes, before and after
pub record Sees (d : Parts) (c : Config) (v : World) (old new : Scenes) : Type 0 where
  pub before : (scope : Option Name) → seen d c scope ≡ old scope
  pub after : (scope : Option Name) → seen d (with_values v c) scope ≡ new scope

module _ (d : Parts) (c : Config) (v : World) (old new : Scenes) (sees : Sees d c v old new) (t : Option Waiter → Bool) (h : Tests d t old new) where
  pub one_agrees : (n : ℕ) (q : ProcessState) (w : Option Waiter) → awaited_at d w ≡ awaited_by q → woken_in d c v n q ≡ t w
  one_agrees n q None e = awaited_none d c v q.latest (sym e) q refl ∙ sym h.none
  one_agrees n q (Some w) e =
      ap (λ (x : Status). woken_in d c v n (record q { latest = x })) (awaited_some (record { watches = watches_at d w.wait; scope = w.scope }) q.latest (sym e))
      ∙ (λ i. some_fires (watches_at d w.wait) Changed (sees.before w.scope i) (sees.after w.scope i)) ∙ sym (h.some w)

  pub waits_agree : (n : ℕ) (qs : List ProcessState) (ws : List (Option Waiter)) → map (awaited_at d) ws ≡ map awaited_by qs
      → map (awaited_at d) (waits_after t ws) ≡ map awaited_by (states_after (woken_in d c v) n qs)
  waits_agree n [] [] e = refl
  waits_agree n [] (w ∷ ws) e = absurd (cc)
  waits_agree n (q ∷ qs) [] e = absurd (cc)
  waits_agree n (q ∷ qs) (w ∷ ws) e =
      let first : awaited_at d w ≡ awaited_by q = cc in
      let rest : map (awaited_at d) ws ≡ map awaited_by qs = cc in
      let same = one_agrees n q w first in
      let z = waits_agree (n + 1) qs ws rest in
      by_test (t w) refl (woken_in d c v n q) same first z
    where
      by_test : (b : Bool) → t w ≡ b → (a : Bool) → a ≡ t w → awaited_at d w ≡ awaited_by q → map (awaited_at d) (waits_after t ws) ≡ map awaited_by (states_after (woken_in d c v) (n + 1) qs)
          → awaited_at d (if t w then None else w) ∷ map (awaited_at d) (waits_after t ws)
          ≡ awaited_by (if a then record q { latest = Ready } else q) ∷ map awaited_by (states_after (woken_in d c v) (n + 1) qs)
      by_test true e true g f z = ap (λ (b : Bool). awaited_at d (if b then None else w) ∷ map (awaited_at d) (waits_after t ws)) e ∙ ap (λ (xs : List (Option Awaited)). None ∷ xs) z
      by_test true e false g f z = absurd (cc)
      by_test false e true g f z = absurd (cc)
      by_test false e false g f z =
          ap (λ (b : Bool). awaited_at d (if b then None else w) ∷ map (awaited_at d) (waits_after t ws)) e ∙ (λ i. f i ∷ z i)

  pub regions_agree : (ms : List Member) (n : ℕ) (qs : List ProcessState) (ws : List (Option Waiter)) → map (awaited_at d) ws ≡ map awaited_by qs
      → ((i : ℕ) (q : ProcessState) → slice_get qs i ≡ Some q → q.side ≡ side_at ms (record { 0 = n + i })) → (r : Regions)
      → all_ready ms (woken_from t n ws) r ≡ regions_after (woken_in d c v) n qs r
  regions_agree ms n [] [] e g r = refl
  regions_agree ms n [] (w ∷ ws) e g r = absurd (cc)
  regions_agree ms n (q ∷ qs) [] e g r = absurd (cc)
  regions_agree ms n (q ∷ qs) (w ∷ ws) e g r =
      let first : awaited_at d w ≡ awaited_by q = cc in
      let rest : map (awaited_at d) ws ≡ map awaited_by qs = cc in
      let same = one_agrees n q w first in
      let z : n + 0 ≡ n = omega arith in
      let side : q.side ≡ side_at ms (record { 0 = n }) = g 0 q refl ∙ ap (λ m. side_at ms (record { 0 = m })) z in
      let later : (i : ℕ) (x : ProcessState) → slice_get qs i ≡ Some x → x.side ≡ side_at ms (record { 0 = n + 1 + i }) =
      λ i x f. (let y : n + suc i ≡ n + 1 + i = omega arith in g (suc i) x f ∙ ap (λ m. side_at ms (record { 0 = m })) y) in
      by_test (t w) refl (woken_in d c v n q) same side (regions_agree ms (n + 1) qs ws rest later)
    where
      p : ProcessId
      p = record { 0 = n }

      by_test : (b : Bool) → t w ≡ b → (a : Bool) → a ≡ t w → q.side ≡ side_at ms p
          → ((r : Regions) → all_ready ms (woken_from t (n + 1) ws) r ≡ regions_after (woken_in d c v) (n + 1) qs r)
          → all_ready ms (if t w then p ∷ woken_from t (n + 1) ws else woken_from t (n + 1) ws) r
          ≡ regions_after (woken_in d c v) (n + 1) qs (if a then ready_in (front_of q.side) p r else r)
      by_test true e true g f z =
          ap (λ (b : Bool). all_ready ms (if b then p ∷ woken_from t (n + 1) ws else woken_from t (n + 1) ws) r) e
          ∙ z (ready_in (front_of (side_at ms p)) p r) ∙ ap (λ x. regions_after (woken_in d c v) (n + 1) qs (ready_in (front_of x) p r)) (sym f)
      by_test true e false g f z = absurd (cc)
      by_test false e true g f z = absurd (cc)
      by_test false e false g f z = ap (λ (b : Bool). all_ready ms (if b then p ∷ woken_from t (n + 1) ws else woken_from t (n + 1) ws) r) e ∙ z r

-- ---- what stays of the processes

pub rest_stays : (t : ℕ → ProcessState → Bool) (n : ℕ) (qs : List ProcessState) → map rest_of (states_after t n qs) ≡ map rest_of qs
rest_stays t n [] = refl
rest_stays t n (q ∷ qs) = λ i. first (t n q) i ∷ rest_stays t (n + 1) qs i
  where
    first : (b : Bool) → rest_of (if b then record q { latest = Ready } else q) ≡ rest_of q
    first true = refl
    first false = refl

pub taken_stays : (t : ℕ → ProcessState → Bool) (n : ℕ) (qs : List ProcessState) → map was_taken (states_after t n qs) ≡ map was_taken qs
taken_stays t n [] = refl
taken_stays t n (q ∷ qs) = λ i. first (t n q) i ∷ taken_stays t (n + 1) qs i
  where
    first : (b : Bool) → was_taken (if b then record q { latest = Ready } else q) ≡ was_taken q
    first true = refl
    first false = refl

pub made_stays : (t : ℕ → ProcessState → Bool) (n : ℕ) (qs : List ProcessState) → map made_of (states_after t n qs) ≡ map made_of qs
made_stays t n [] = refl
made_stays t n (q ∷ qs) = λ i. first (t n q) i ∷ made_stays t (n + 1) qs i
  where
    first : (b : Bool) → made_of (if b then record q { latest = Ready } else q) ≡ made_of q
    first true = refl
    first false = refl

-- where those for whom the test holds wait for no children and are not over, so does the tree
pub family_stays : (t : ℕ → ProcessState → Bool) (n : ℕ) (qs : List ProcessState)
    → ((i : ℕ) (q : ProcessState) → slice_get qs i ≡ Some q → t (n + i) q ≡ true → (is_ended q.latest ≡ false) × (join_of q.latest ≡ None))
    → map member_of (states_after t n qs) ≡ map member_of qs
family_stays t n [] h = refl
family_stays t n (q ∷ qs) h =
    λ i. first (t n q) (λ e. (let z : n + 0 ≡ n = omega arith in h 0 q refl (ap (λ m. t m q) z ∙ e))) i
    ∷ family_stays t (n + 1) qs (λ j r g e. (let z : n + suc j ≡ n + 1 + j = omega arith in h (suc j) r g (ap (λ m. t m r) z ∙ e))) i
  where
    first : (b : Bool) → (b ≡ true → (is_ended q.latest ≡ false) × (join_of q.latest ≡ None)) → member_of (if b then record q { latest = Ready } else q) ≡ member_of q
    first true k = λ i. record { side = q.side; parent = q.parent; over = sym (k refl).0 i; join = sym (k refl).1 i }
    first false k = refl

-- whom a change wakes is not over, and waits for no children
pub woken_waits : (d : Parts) (c : Config) (v : World) (n : ℕ) (q : ProcessState) → woken_in d c v n q ≡ true → (is_ended q.latest ≡ false) × (join_of q.latest ≡ None)
woken_waits d c v n q = by_status q.latest
  where
    by_status : (x : Status) → woken_in d c v n (record q { latest = x }) ≡ true → (is_ended x ≡ false) × (join_of x ≡ None)
    by_status Ready h = absurd (cc)
    by_status Running h = absurd (cc)
    by_status Process.Ended h = absurd (cc)
    by_status (Waiting Moment) h = absurd (cc)
    by_status (Waiting Turn_in_slot) h = absurd (cc)
    by_status (Waiting (Watches ws scope)) h = (refl, refl)
    by_status (Waiting (Children all ps)) h = absurd (cc)
    by_status (Waiting Queue) h = absurd (cc)
    by_status (Waiting Start) h = absurd (cc)

-- the count of starters follows from who was taken
pub pending_by_taken : (fs : List Process) (qs us : List ProcessState) → map was_taken us ≡ map was_taken qs → pending_count fs us ≡ pending_count fs qs
pending_by_taken [] [] [] e = refl
pending_by_taken [] [] (u ∷ us) e = refl
pending_by_taken [] (q ∷ qs) [] e = refl
pending_by_taken [] (q ∷ qs) (u ∷ us) e = refl
pending_by_taken (f ∷ fs) [] [] e = refl
pending_by_taken (f ∷ fs) [] (u ∷ us) e = absurd (cc)
pending_by_taken (f ∷ fs) (q ∷ qs) [] e = absurd (cc)
pending_by_taken (f ∷ fs) (q ∷ qs) (u ∷ us) e =
    let first : u.was_taken ≡ q.was_taken = cc in
    let rest : map was_taken us ≡ map was_taken qs = cc in
    λ i. (if starts f && not (first i) then 1 else 0) + pending_by_taken fs qs us rest i
