-- What a change leaves: the new values, and the processes that it wakes.
use Rattle.std.proofs.Common.{ℕ, zero, suc, ◌≡◌, ◌≢◌, ◌+◌, List, [], ◌∷◌, Option, None, Some, Bool, true, false, cond, refl, ap, sym, ◌∙◌, arith, slice_get, slice_set, ◌++◌, length}
use Rattle.std.specs.Prelude.{Ok, ◌&&◌, ◌||◌, ◌==◌, filter, if◌then◌else◌}
use Rattle.std.proofs.lemmas.Bool.{eq-eqb}
use Rattle.std.proofs.lemmas.Bool.Decides.{nat_tests}
use Rattle.std.proofs.lemmas.List.{length-append}
use Rattle.sv_value.specs.declared.number.ProcessId.{ProcessId}
use Rattle.sv_value.specs.declared.place.Place.{Place}
use Rattle.sv_value.specs.declared.val.Val.{Val}
use Rattle.sv_value.specs.Regions.{Regions, ready_in, front_of}
use Rattle.sv_flat.specs.declared.clocking.Clocking.{Clocking}
use Rattle.sv_flat.specs.declared.design.Parts.{Parts}
use Rattle.sv_flat.specs.State.{World, view_of}
use Rattle.sv_flat.specs.Process
use Rattle.sv_flat.specs.Process.{ProcessState, Status, Ready, Running, Waiting, Moment, Turn_in_slot, Watches, Children, Queue, Start, Spot, Cell}
use Rattle.sv_flat.specs.Config.{Config, seen, unit_ticks, process_at, set_at, numbered_from, numbers_of, state_test, made_ready, all_made_ready, side_in}
use Rattle.sv_flat.specs.Woken.{Occurrence, Changed, some_fires, wakes, is_woken, woken}
use Rattle.sv_flat.specs.Effects.{write_occurred, after_write, after_change, clocks_from, is_in}
use Rattle.sv_flat.specs.Effects.Writes.{wrote}
use Rattle.sv_sound.specs.Sound.{is_parked, IsCell, AreAwaited}
use Rattle.sv_sound.specs.After.{with_values, changed_in, changed_to, store_after}
use Rattle.sv_sound.proofs.Waits.{quiet}

-- ---- those that an effect wakes

same_process : (p q : ProcessId) → (p.0 == q.0) ≡ true → p ≡ q
same_process p q h = let e : p.0 ≡ q.0 = grind (arith, nat_tests) in λ i. record { 0 = e i }

head_in : (p : ProcessId) (ps : List ProcessId) → is_in p (p ∷ ps) ≡ true
head_in p ps = ap (λ b. b || is_in p ps) (eq-eqb p.0 p.0 refl)

tail_in : (b : Bool) (p : ProcessId) (ps : List ProcessId) → is_in p ps ≡ true → (b || is_in p ps) ≡ true
tail_in true p ps h = refl
tail_in false p ps h = h

in_filter : (f : ProcessId → Bool) (p : ProcessId) (ps : List ProcessId) → is_in p (filter f ps) ≡ (is_in p ps && f p)
in_filter f p [] = refl
in_filter f p (x ∷ xs) = by_test (p.0 == x.0) refl (f x) refl (in_filter f p xs)
  where
    by_test : (b : Bool) → (p.0 == x.0) ≡ b → (g : Bool) → f x ≡ g → is_in p (filter f xs) ≡ (is_in p xs && f p)
        → is_in p (cond g (x ∷ filter f xs) (filter f xs)) ≡ (((p.0 == x.0) || is_in p xs) && f p)
    by_test true e true g i = ap (λ b. b || is_in p (filter f xs)) e ∙ sym (ap (λ b. (b || is_in p xs) && f p) e ∙ ap f (same_process p x e) ∙ g)
    by_test true e false g i =
        let no : f p ≡ false = ap f (same_process p x e) ∙ g in
        i ∙ ap (λ b. is_in p xs && b) no ∙ never (is_in p xs) ∙ sym (ap (λ b. (b || is_in p xs) && f p) e ∙ no)
      where
        never : (b : Bool) → (b && false) ≡ false
        never true = refl
        never false = refl
    by_test false e true g i = ap (λ b. b || is_in p (filter f xs)) e ∙ i ∙ sym (ap (λ b. (b || is_in p xs) && f p) e)
    by_test false e false g i = i ∙ sym (ap (λ b. (b || is_in p xs) && f p) e)

own_within : (f : ProcessId → Bool) (all ps : List ProcessId) → ((p : ProcessId) → is_in p ps ≡ true → is_in p all ≡ true)
    → filter (λ p. is_in p (filter f all)) ps ≡ filter f ps
own_within f all [] h = refl
own_within f all (x ∷ xs) h =
    let test : ProcessId → Bool = λ p. is_in p (filter f all) in
    ap (λ b. cond b (x ∷ filter test xs) (filter test xs)) (in_filter f x all ∙ ap (λ b. b && f x) (h x (head_in x xs)))
    ∙ ap (λ (ys : List ProcessId). cond (f x) (x ∷ ys) ys) (own_within f all xs (λ p k. h p (tail_in (p.0 == x.0) p xs k)))

-- those that the change wakes, asked among all
pub woken_within : (d : Parts) (old new : Config) → filter (λ p. is_in p (woken d Changed old new)) (numbers_of old) ≡ woken d Changed old new
woken_within d old new = own_within (λ p. state_test (is_woken d Changed old new) (process_at old p)) (numbers_of old) (numbers_of old) (λ p k. k)

-- ---- wakes change processes and regions alone

pub only_wakes : (ps : List ProcessId) (c : Config) → all_made_ready ps c ≡ record c { processes = (all_made_ready ps c).processes; regions = (all_made_ready ps c).regions }
only_wakes [] c = refl
only_wakes (p ∷ ps) c = only_wakes ps (made_ready p c)

pub slice_get-set_same : {A : Type 0} (xs : List A) (i : ℕ) (v x : A) → slice_get xs i ≡ Some x → slice_get (slice_set xs i v) i ≡ Some v
slice_get-set_same [] i v x h = absurd (cc)
slice_get-set_same (y ∷ xs) zero v x h = refl
slice_get-set_same (y ∷ xs) (suc i) v x h = slice_get-set_same xs i v x h

pub slice_set-set : {A : Type 0} (xs : List A) (i : ℕ) (u v : A) → slice_set (slice_set xs i u) i v ≡ slice_set xs i v
slice_set-set [] i u v = refl
slice_set-set (y ∷ xs) zero u v = refl
slice_set-set (y ∷ xs) (suc i) u v = ap (λ ys. y ∷ ys) (slice_set-set xs i u v)

pub slice_get-set_other : {A : Type 0} (xs : List A) (i j : ℕ) (v : A) → j ≢ i → slice_get (slice_set xs i v) j ≡ slice_get xs j
slice_get-set_other [] i j v h = refl
slice_get-set_other (x ∷ xs) zero zero v h = absurd (h refl)
slice_get-set_other (x ∷ xs) zero (suc j) v h = refl
slice_get-set_other (x ∷ xs) (suc i) zero v h = refl
slice_get-set_other (x ∷ xs) (suc i) (suc j) v h = slice_get-set_other xs i j v (λ e. h (ap suc e))

pub other_process : (q p : ProcessId) (c : Config) → p.0 ≢ q.0 → process_at (made_ready q c) p ≡ process_at c p
other_process q p c h = by_state (process_at c q)
  where
    by_state : (o : Option ProcessState) → slice_get (set_at o (λ s. record s { latest = Ready }) q c.processes) p.0 ≡ slice_get c.processes p.0
    by_state None = refl
    by_state (Some s) = slice_get-set_other c.processes q.0 p.0 (record s { latest = Ready }) h

-- a process for which the test does not hold stays as it is
pub kept_process : {A : Type 0} (f : ProcessId → Bool) (n : ℕ) (xs : List A) (c : Config) (p : ProcessId) → f p ≡ false
    → process_at (all_made_ready (filter f (numbered_from n xs)) c) p ≡ process_at c p
kept_process f n [] c p h = refl
kept_process f n (x ∷ xs) c p h = by_test (f (record { 0 = n })) refl (λ e. kept_process f (n + 1) xs e p h)
  where
    by_test : (b : Bool) → f (record { 0 = n }) ≡ b → ((e : Config) → process_at (all_made_ready (filter f (numbered_from (n + 1) xs)) e) p ≡ process_at e p)
        → process_at (all_made_ready (cond b (record { 0 = n } ∷ filter f (numbered_from (n + 1) xs)) (filter f (numbered_from (n + 1) xs))) c) p ≡ process_at c p
    by_test true e i =
        let other : p.0 ≢ n = λ k. (let z : true ≡ false = sym e ∙ ap f (λ i. record { 0 = sym k i }) ∙ h in cc) in
        i (made_ready (record { 0 = n }) c) ∙ other_process (record { 0 = n }) p c other
    by_test false e i = i c

-- ---- who is woken waits for a change

pub not_wakes : (d : Parts) (o : Occurrence) (old new : Config) (s : Status) → is_parked s ≡ false → wakes d o old new s ≡ false
not_wakes d o old new Ready h = refl
not_wakes d o old new Running h = refl
not_wakes d o old new Process.Ended h = refl
not_wakes d o old new (Waiting Moment) h = refl
not_wakes d o old new (Waiting Turn_in_slot) h = refl
not_wakes d o old new (Waiting (Watches ws scope)) h = absurd (cc)
not_wakes d o old new (Waiting (Children all ps)) h = refl
not_wakes d o old new (Waiting Queue) h = refl
not_wakes d o old new (Waiting Start) h = refl

-- ---- where nothing changed nobody is woken

-- whoever waits for event expressions waits for built ones
pub record AwaitBuilt (c : Config) : Type 0 where
  pub at : (p : ProcessId) (q : ProcessState) → process_at c p ≡ Some q → AreAwaited q.latest

none_wakes : (d : Parts) (old new : Config) → new.world ≡ old.world → new.time ≡ old.time → (s : Status) → AreAwaited s → wakes d Changed old new s ≡ false
none_wakes d old new e t (Waiting (Watches ws scope)) h =
    (λ i. some_fires ws Changed (seen d old scope) (view_of (e i) (t i) (unit_ticks d.scale) scope)) ∙ quiet ws h (seen d old scope)
none_wakes d old new e t s h = refl

none_kept : (f : ProcessId → Bool) (ps : List ProcessId) → ((p : ProcessId) → f p ≡ false) → filter f ps ≡ []
none_kept f [] h = refl
none_kept f (p ∷ ps) h = ap (λ b. cond b (p ∷ filter f ps) (filter f ps)) (h p) ∙ none_kept f ps h

pub none_woken : (d : Parts) (old new : Config) → new.world ≡ old.world → new.time ≡ old.time → AwaitBuilt old → woken d Changed old new ≡ []
none_woken d old new e t h = none_kept _ (numbers_of old) (λ p. by_state p (process_at old p) refl)
  where
    by_state : (p : ProcessId) (o : Option ProcessState) → process_at old p ≡ o → state_test (is_woken d Changed old new) o ≡ false
    by_state p None is = refl
    by_state p (Some q) is = none_wakes d old new e t q.latest (h.at p q is)

-- ---- a write of a design without clocking blocks

wrote_is : (s : Spot) → IsCell s → (x : Val) (w : World) → wrote s x w ≡ Ok (record w { store = store_after s x w.store })
wrote_is (Cell o i r) h x w = refl
wrote_is Process.Nowhere h x w = refl
wrote_is s h x w = absurd h

pub change_is : (d : Parts) → d.clockings ≡ [] → (c : Config) (w : World)
    → after_change d (woken d Changed c (with_values w c)) c (with_values w c) ≡ changed_in d w c
change_is d none c w =
    let new = with_values w c in
    ap (λ (ks : List Clocking). all_made_ready (woken d Changed c new) (record new { regions = clocks_from 0 ks c new c.regions })) none

pub write_is : (d : Parts) → d.clockings ≡ [] → (at : Place) (s : Spot) → IsCell s → (x : Val) (c : Config)
    → write_occurred d at s x c ≡ changed_to d (store_after s x c.store) c
write_is d none at s h x c = ap (after_write d at c) (wrote_is s h x c.world) ∙ change_is d none c (record c.world { store = store_after s x c.store })

module _ (d : Parts) (w : World) (c : Config) where
  -- but for the values, the processes and the regions all stays
  pub change_keeps : changed_in d w c ≡ record (with_values w c) { processes = (changed_in d w c).processes; regions = (changed_in d w c).regions }
  change_keeps = only_wakes (woken d Changed c (with_values w c)) (with_values w c)

  -- a process that is not parked stays as it is
  pub change_passes : (p : ProcessId) (q : ProcessState) → process_at c p ≡ Some q → is_parked q.latest ≡ false → process_at (changed_in d w c) p ≡ Some q
  change_passes p q is calm =
      let new = with_values w c in
      let test : ProcessId → Bool = λ p. state_test (is_woken d Changed c new) (process_at c p) in
      kept_process test 0 c.processes new p (ap (state_test (is_woken d Changed c new)) is ∙ not_wakes d Changed c new q.latest calm) ∙ is

-- ---- those that pass a test of their numbers and states

-- they become ready
abbrev pub states_after : (ℕ → ProcessState → Bool) → ℕ → List ProcessState → List ProcessState
states_after t n [] = []
states_after t n (q ∷ qs) = (if t n q then record q { latest = Ready } else q) ∷ states_after t (n + 1) qs

-- and stand in the regions, by number
abbrev pub regions_after : (ℕ → ProcessState → Bool) → ℕ → List ProcessState → Regions → Regions
regions_after t n [] r = r
regions_after t n (q ∷ qs) r = regions_after t (n + 1) qs (if t n q then ready_in (front_of q.side) (record { 0 = n }) r else r)

get-append : {A : Type 0} (xs : List A) (y : A) (ys : List A) → slice_get (xs ++ y ∷ ys) (length xs) ≡ Some y
get-append [] y ys = refl
get-append (x ∷ xs) y ys = get-append xs y ys

set-append : {A : Type 0} (xs : List A) (y z : A) (ys : List A) → slice_set (xs ++ y ∷ ys) (length xs) z ≡ xs ++ z ∷ ys
set-append [] y z ys = refl
set-append (x ∷ xs) y z ys = ap (λ (us : List _). x ∷ us) (set-append xs y z ys)

more-append : {A : Type 0} (xs : List A) (y : A) (ys : List A) → xs ++ y ∷ ys ≡ (xs ++ y ∷ []) ++ ys
more-append [] y ys = refl
more-append (x ∷ xs) y ys = ap (λ (us : List _). x ∷ us) (more-append xs y ys)

-- a test of processes by number that is one of their numbers and states
pub record TestsStates (f : ProcessId → Bool) (t : ℕ → ProcessState → Bool) (n : ℕ) (qs : List ProcessState) : Type 0 where
  pub at : (i : ℕ) (q : ProcessState) → slice_get qs i ≡ Some q → f (record { 0 = n + i }) ≡ t (n + i) q

woken_from : (f : ProcessId → Bool) (t : ℕ → ProcessState → Bool) (c : Config) (pre qs : List ProcessState) (n : ℕ) (r : Regions) → n ≡ length pre → TestsStates f t n qs
    → all_made_ready (filter f (numbered_from n qs)) (record c { processes = pre ++ qs; regions = r })
    ≡ record c { processes = pre ++ states_after t n qs; regions = regions_after t n qs r }
woken_from f t c pre [] n r e h = refl
woken_from f t c pre (q ∷ qs) n r e h = by_test (f (record { 0 = n })) refl (woken_from f t c (pre ++ q ∷ []) qs (n + 1)) (woken_from f t c (pre ++ record q { latest = Ready } ∷ []) qs (n + 1))
  where
    p : ProcessId
    p = record { 0 = n }

    v : ProcessState
    v = record q { latest = Ready }

    first : f p ≡ t n q
    first = (let z : n ≡ n + 0 = omega arith in ap (λ m. f (record { 0 = m })) z ∙ h.at 0 q refl ∙ ap (λ m. t m q) (sym z))

    later : TestsStates f t (n + 1) qs
    later = record { at = λ i x g. (let z : n + 1 + i ≡ n + suc i = omega arith in ap (λ m. f (record { 0 = m })) z ∙ h.at (suc i) x g ∙ ap (λ m. t m x) (sym z)) }

    longer : (x : ProcessState) → n + 1 ≡ length (pre ++ x ∷ [])
    longer x = let z = length-append pre (x ∷ []) in omega (arith, e, z)

    rest : List ProcessId
    rest = filter f (numbered_from (n + 1) qs)

    here : List ProcessState → Regions → Config
    here us rs = record c { processes = us; regions = rs }

    readied : made_ready p (here (pre ++ q ∷ qs) r) ≡ here (pre ++ v ∷ qs) (ready_in (front_of q.side) p r)
    readied =
        let is : slice_get (pre ++ q ∷ qs) n ≡ Some q = ap (slice_get (pre ++ q ∷ qs)) e ∙ get-append pre q qs in
        ap (λ o. here (set_at o (λ s. record s { latest = Ready }) p (pre ++ q ∷ qs)) (ready_in (front_of (side_in o)) p r)) is
        ∙ ap (λ m. here (slice_set (pre ++ q ∷ qs) m v) (ready_in (front_of q.side) p r)) e
        ∙ ap (λ (us : List ProcessState). here us (ready_in (front_of q.side) p r)) (set-append pre q v qs)

    Goes : ProcessState → Type 0
    Goes x = (rs : Regions) → n + 1 ≡ length (pre ++ x ∷ []) → TestsStates f t (n + 1) qs
        → all_made_ready rest (here ((pre ++ x ∷ []) ++ qs) rs) ≡ here ((pre ++ x ∷ []) ++ states_after t (n + 1) qs) (regions_after t (n + 1) qs rs)

    goes : (x : ProcessState) (rs : Regions) → Goes x → all_made_ready rest (here (pre ++ x ∷ qs) rs) ≡ here (pre ++ x ∷ states_after t (n + 1) qs) (regions_after t (n + 1) qs rs)
    goes x rs i =
        ap (λ (us : List ProcessState). all_made_ready rest (here us rs)) (more-append pre x qs) ∙ i rs (longer x) later
        ∙ ap (λ (us : List ProcessState). here us (regions_after t (n + 1) qs rs)) (sym (more-append pre x (states_after t (n + 1) qs)))

    whole : Bool → Config
    whole b = here (pre ++ (if b then v else q) ∷ states_after t (n + 1) qs) (regions_after t (n + 1) qs (if b then ready_in (front_of q.side) p r else r))

    by_test : (b : Bool) → f p ≡ b → Goes q → Goes v → all_made_ready (cond b (p ∷ rest) rest) (here (pre ++ q ∷ qs) r) ≡ whole (t n q)
    by_test true g i j = ap (all_made_ready rest) readied ∙ goes v (ready_in (front_of q.side) p r) j ∙ ap whole (sym g ∙ first)
    by_test false g i j = goes q r i ∙ ap whole (sym g ∙ first)

-- all for which a test by number holds that is one of their numbers and states
pub readied_are : (f : ProcessId → Bool) (t : ℕ → ProcessState → Bool) (c : Config) → TestsStates f t 0 c.processes
    → all_made_ready (filter f (numbers_of c)) c ≡ record c { processes = states_after t 0 c.processes; regions = regions_after t 0 c.processes c.regions }
readied_are f t c h = woken_from f t c [] c.processes 0 c.regions refl h

-- whether a change to these values wakes a process in a state
abbrev pub woken_in : Parts → Config → World → ℕ → ProcessState → Bool
woken_in d c w n q = is_woken d Changed c (with_values w c) q

-- a change, by what it makes of each process
pub change_states : (d : Parts) (w : World) (c : Config)
    → changed_in d w c
    ≡ record (with_values w c) { processes = states_after (woken_in d c w) 0 c.processes; regions = regions_after (woken_in d c w) 0 c.processes c.regions }
change_states d w c =
    let new = with_values w c in
    let f : ProcessId → Bool = λ p. state_test (is_woken d Changed c new) (process_at c p) in
    let h : TestsStates f (woken_in d c w) 0 c.processes =
    record { at = λ i q e. (let z : 0 + i ≡ i = omega arith in ap (λ m. f (record { 0 = m })) z ∙ ap (state_test (is_woken d Changed c new)) e) } in
    woken_from f (woken_in d c w) new [] c.processes 0 c.regions refl h
