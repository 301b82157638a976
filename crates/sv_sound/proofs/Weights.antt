-- Lists all of whose items keep something, and what the processes in them weigh.
use Rattle.std.proofs.Common.{ℕ, zero, suc, ◌≡◌, ◌+◌, ◌<◌, ◌≤◌, List, [], ◌∷◌, ◌++◌, Some, Bool, true, false, cond, refl, ap, subst, sym, ◌∙◌, arith, length, slice_get, slice_set, map, get_or}
use Rattle.std.specs.Prelude.{not, filter, remove, sum_by, ◌==◌, slice_index_or, if◌then◌else◌}
use Rattle.std.specs.List.{AllByRecursion, Contains}
use Rattle.std.proofs.lemmas.Bool.Decides.{nat_tests}
use Rattle.std.proofs.lemmas.List.Filters.{sum_by-filter_both}
use Rattle.std.proofs.lemmas.List.Sums.{sum_by-cons, sum_by-append, sum_by-remove}
use Rattle.sv_value.specs.declared.number.ProcessId.{ProcessId}
use Rattle.sv_value.specs.declared.schedule.Event.{Event}
use Rattle.sv_value.specs.declared.schedule.Due.{Due}
use Rattle.sv_value.specs.declared.schedule.Due.TheVariants.{Resume, Work}
use Rattle.sv_value.specs.Waiting.{is_not}
use Rattle.sv_value.specs.declared.schedule.Region.{Region}
use Rattle.sv_value.specs.declared.schedule.Region.TheVariants as region
use Rattle.sv_value.specs.declared.schedule.Side.{Side}
use Rattle.sv_value.specs.declared.schedule.Side.TheVariants.{Active, Reactive}
use Rattle.sv_value.specs.declared.schedule.Job.{Job}
use Rattle.sv_value.specs.declared.schedule.Job.TheVariants.{Update, Clock}
use Rattle.sv_value.specs.Regions.{Regions, Set, set_of, with_set, standing, ready_in, job_in, due_in, moved, regions_without, set_without}
use Rattle.sv_flat.specs.Config.{numbered_from}
use Rattle.sv_flat.specs.Effects.Ends.{not_due_to}
use Rattle.sv_flat.specs.Process.{ProcessState}
use Rattle.sv_sound.specs.Sound.{weight_of_event, weight_of_due, is_parked, parked_weight, weight_of_all}

module _ {X : Type 0} (P : X → Type 0) where
  pub all_append : (xs ys : List X) → AllByRecursion P xs → AllByRecursion P ys → AllByRecursion P (xs ++ ys)
  all_append [] ys h k = k
  all_append (x ∷ xs) ys h k = (h.0, all_append xs ys h.1 k)

  pub all_set : (xs : List X) (i : ℕ) (v : X) → P v → AllByRecursion P xs → AllByRecursion P (slice_set xs i v)
  all_set [] i v p h = tt
  all_set (x ∷ xs) zero v p h = (p, h.1)
  all_set (x ∷ xs) (suc i) v p h = (h.0, all_set xs i v p h.1)

  pub all_filter : (p : X → Bool) (xs : List X) → AllByRecursion P xs → AllByRecursion P (filter p xs)
  all_filter p [] h = tt
  all_filter p (x ∷ xs) h = kept (p x) (all_filter p xs h.1)
    where
      kept : (b : Bool) → AllByRecursion P (filter p xs) → AllByRecursion P (cond b (x ∷ filter p xs) (filter p xs))
      kept true k = (h.0, k)
      kept false k = k

  pub all_at : (xs : List X) (i : ℕ) (v : X) → slice_get xs i ≡ Some v → AllByRecursion P xs → P v
  all_at [] i v e h = absurd (cc)
  all_at (x ∷ xs) zero v e h = subst P (same e) h.0
    where
      same : {a b : X} → Some a ≡ Some b → a ≡ b
      same h = cc
  all_at (x ∷ xs) (suc i) v e h = all_at xs i v e h.1

  pub all_index_or : (xs : List X) (i : ℕ) (v : X) → P v → AllByRecursion P xs → P (slice_index_or xs i v)
  all_index_or [] i v p h = p
  all_index_or (x ∷ xs) zero v p h = h.0
  all_index_or (x ∷ xs) (suc i) v p h = all_index_or xs i v p h.1

pub there : {X : Type 0} (xs : List X) (i : ℕ) → i < length xs → (x : X) × (slice_get xs i ≡ Some x)
there [] i h = absurd (omega arith)
there (x ∷ xs) zero h = (x, refl)
there (x ∷ xs) (suc i) h = there xs i (omega arith)

pub within : {X : Type 0} (xs : List X) (i : ℕ) (x : X) → slice_get xs i ≡ Some x → i < length xs
within [] i x e = absurd (cc)
within (y ∷ xs) zero x e = omega arith
within (y ∷ xs) (suc i) x e = omega (arith, within xs i x e)

same_some : {X : Type 0} {a b : X} → Some a ≡ Some b → a ≡ b
same_some h = cc

pub got : {X : Type 0} (xs : List X) (i : ℕ) (x d : X) → slice_get xs i ≡ Some x → get_or xs i d ≡ x
got [] i x d e = absurd (cc)
got (y ∷ xs) zero x d e = same_some e
got (y ∷ xs) (suc i) x d e = got xs i x d e

pub removed_weight : {X : Type 0} (w : X → ℕ) (xs : List X) (i : ℕ) (x : X) → slice_get xs i ≡ Some x → sum_by w (remove xs i) + w x ≡ sum_by w xs
removed_weight w xs i x e = ap (λ u. sum_by w (remove xs i) + w u) (sym (got xs i x x e)) ∙ sum_by-remove w xs i x (within xs i x e)

pub filtered_weight : {X : Type 0} (w : X → ℕ) (f : X → Bool) (xs : List X) → sum_by w (filter f xs) ≤ sum_by w xs
filtered_weight w f xs = let e = sum_by-filter_both f (λ x. not (f x)) (λ x. refl) w xs in omega (arith, e)

pub pushed_weight : {X : Type 0} (w : X → ℕ) (xs : List X) (x : X) → sum_by w (xs ++ x ∷ []) ≡ sum_by w xs + w x
pushed_weight w xs x = let e = sum_by-append w xs (x ∷ []) in let f = sum_by-cons w x [] in let z : sum_by w [] ≡ 0 = refl in omega (arith, e, f, z)

-- ---- the weight of one process

abbrev pub one : ProcessId → ProcessId → ℕ
one p q = if p.0 == q.0 then 1 else 0

pub one_self : (p : ProcessId) → one p p ≡ 1
one_self p = grind (arith, nat_tests)

pub none_below : {A : Type 0} (p : ProcessId) (n : ℕ) (xs : List A) → p.0 < n → sum_by (one p) (numbered_from n xs) ≡ 0
none_below p n [] h = refl
none_below p n (x ∷ xs) h =
    let e = sum_by-cons (one p) (record { 0 = n }) (numbered_from (n + 1) xs) in
    let z : one p (record { 0 = n }) ≡ 0 = grind (arith, nat_tests) in
    omega (arith, e, z, none_below p (n + 1) xs (omega arith))

pub once : {A : Type 0} (p : ProcessId) (n : ℕ) (xs : List A) → sum_by (one p) (numbered_from n xs) ≤ 1
once p n [] = omega arith
once p n (x ∷ xs) = go (p.0 == n) refl (once p (n + 1) xs)
  where
    go : (b : Bool) → (p.0 == n) ≡ b → sum_by (one p) (numbered_from (n + 1) xs) ≤ 1 → sum_by (one p) (numbered_from n (x ∷ xs)) ≤ 1
    go true e i =
        let s = sum_by-cons (one p) (record { 0 = n }) (numbered_from (n + 1) xs) in
        let z : one p (record { 0 = n }) ≡ 1 = ap (λ b. cond b 1 0) e in
        let l : p.0 < n + 1 = grind (arith, nat_tests) in
        omega (arith, s, z, none_below p (n + 1) xs l)
    go false e i =
        let s = sum_by-cons (one p) (record { 0 = n }) (numbered_from (n + 1) xs) in
        let z : one p (record { 0 = n }) ≡ 0 = ap (λ b. cond b 1 0) e in
        omega (arith, s, z, i)

pub known_of : {A : Type 0} (p : ProcessId) (n : ℕ) (xs : List A) → 0 < sum_by (one p) (numbered_from n xs) → p.0 < n + length xs
known_of p n [] h = let z : sum_by (one p) [] ≡ 0 = refl in absurd (omega (arith, z, h))
known_of p n (x ∷ xs) h = go (p.0 == n) refl (λ k. known_of p (n + 1) xs k)
  where
    go : (b : Bool) → (p.0 == n) ≡ b → (0 < sum_by (one p) (numbered_from (n + 1) xs) → p.0 < n + 1 + length xs) → p.0 < n + length (x ∷ xs)
    go true e i = let l : p.0 ≡ n = grind (arith, nat_tests) in omega (arith, l)
    go false e i =
        let s = sum_by-cons (one p) (record { 0 = n }) (numbered_from (n + 1) xs) in
        let z : one p (record { 0 = n }) ≡ 0 = ap (λ b. cond b 1 0) e in
        omega (arith, i (omega (arith, s, z, h)))

pub absent : (p : ProcessId) (qs : List ProcessId) → sum_by (one p) qs ≡ 0 → filter (is_not p) qs ≡ qs
absent p [] h = refl
absent p (q ∷ qs) h = go (p.0 == q.0) refl (λ k. absent p qs k)
  where
    s : sum_by (one p) (q ∷ qs) ≡ one p q + sum_by (one p) qs
    s = sum_by-cons (one p) q qs

    go : (b : Bool) → (p.0 == q.0) ≡ b → (sum_by (one p) qs ≡ 0 → filter (is_not p) qs ≡ qs) → (if not b then q ∷ filter (is_not p) qs else filter (is_not p) qs) ≡ q ∷ qs
    go true e i = let z : one p q ≡ 1 = ap (λ b. cond b 1 0) e in absurd (omega (arith, s, z, h))
    go false e i = ap (λ (u : List ProcessId). q ∷ u) (i (omega (arith, s, h)))

pub absent_later : (p : ProcessId) (es : List Event) → sum_by (weight_of_event (one p)) es ≡ 0 → filter (not_due_to p) es ≡ es
absent_later p [] h = refl
absent_later p (e ∷ es) h = go e.due refl (λ k. absent_later p es k)
  where
    s : sum_by (weight_of_event (one p)) (e ∷ es) ≡ weight_of_event (one p) e + sum_by (weight_of_event (one p)) es
    s = sum_by-cons (weight_of_event (one p)) e es

    by_test : (q : ProcessId) (b : Bool) → (sum_by (weight_of_event (one p)) es ≡ 0 → filter (not_due_to p) es ≡ es) → (p.0 == q.0) ≡ b → e.due ≡ Resume q → (if not b then e ∷ filter (not_due_to p) es else filter (not_due_to p) es) ≡ e ∷ es
    by_test q true i t f = let z : weight_of_due (one p) e.due ≡ 1 = ap (weight_of_due (one p)) f ∙ ap (λ b. cond b 1 0) t in absurd (omega (arith, s, z, h))
    by_test q false i t f = ap (λ (u : List Event). e ∷ u) (i (omega (arith, s, h)))

    go : (due : Due) → e.due ≡ due → (sum_by (weight_of_event (one p)) es ≡ 0 → filter (not_due_to p) es ≡ es) → filter (not_due_to p) (e ∷ es) ≡ e ∷ es
    go (Resume q) f i = ap (λ (x : Due). if not_due_to p (record e { due = x }) then e ∷ filter (not_due_to p) es else filter (not_due_to p) es) f ∙ by_test q (p.0 == q.0) i refl f
    go (Work j) f i = ap (λ (x : Due). if not_due_to p (record e { due = x }) then e ∷ filter (not_due_to p) es else filter (not_due_to p) es) f ∙ ap (λ (u : List Event). e ∷ u) (i (omega (arith, s, h)))

-- ---- where a list is mapped

pub map_at : {X Y : Type 0} (f : X → Y) (xs : List X) (i : ℕ) (x : X) → slice_get xs i ≡ Some x → slice_get (map f xs) i ≡ Some (f x)
map_at f [] i x e = absurd (cc)
map_at f (y ∷ xs) zero x e = ap (λ z. Some (f z)) (same_some e)
map_at f (y ∷ xs) (suc i) x e = map_at f xs i x e

pub map_set_same : {X Y : Type 0} (f : X → Y) (xs : List X) (i : ℕ) (x y : X) → slice_get xs i ≡ Some x → f y ≡ f x → map f (slice_set xs i y) ≡ map f xs
map_set_same f [] i x y e h = refl
map_set_same f (z ∷ xs) zero x y e h = ap (λ v. v ∷ map f xs) (h ∙ ap f (sym (same_some e)))
map_set_same f (z ∷ xs) (suc i) x y e h = ap (λ v. f z ∷ v) (map_set_same f xs i x y e h)

-- ---- the weight of what stands in the regions

pub standing_weight : (w : ProcessId → ℕ) (r : Regions) → sum_by w (standing r) ≡ sum_by w r.active.ready + sum_by w r.active.idle + sum_by w r.reactive.ready + sum_by w r.reactive.idle
standing_weight w r =
    let a = sum_by-append w (r.active.ready ++ r.active.idle ++ r.reactive.ready) r.reactive.idle in
    let b = sum_by-append w (r.active.ready ++ r.active.idle) r.reactive.ready in
    let c = sum_by-append w r.active.ready r.active.idle in
    omega (arith, a, b, c)

pub ready_weight : (w : ProcessId → ℕ) (g : Region) (p : ProcessId) (r : Regions) → sum_by w (standing (ready_in g p r)) ≤ sum_by w (standing r) + w p
ready_weight w g p r = by_region g
  where
    old : sum_by w (standing r) ≡ sum_by w r.active.ready + sum_by w r.active.idle + sum_by w r.reactive.ready + sum_by w r.reactive.idle
    old = standing_weight w r

    by_region : (g : Region) → sum_by w (standing (ready_in g p r)) ≤ sum_by w (standing r) + w p
    by_region region.Active = let n = standing_weight w (ready_in region.Active p r) in let e = pushed_weight w r.active.ready p in omega (arith, n, e, old)
    by_region region.Inactive = let n = standing_weight w (ready_in region.Inactive p r) in let e = pushed_weight w r.active.idle p in omega (arith, n, e, old)
    by_region region.Reactive = let n = standing_weight w (ready_in region.Reactive p r) in let e = pushed_weight w r.reactive.ready p in omega (arith, n, e, old)
    by_region region.ReInactive = let n = standing_weight w (ready_in region.ReInactive p r) in let e = pushed_weight w r.reactive.idle p in omega (arith, n, e, old)
    by_region region.Nba = omega arith
    by_region region.Observed = omega arith
    by_region region.ReNba = omega arith

pub job_weight : (w : ProcessId → ℕ) (g : Region) (j : Job) (r : Regions) → sum_by w (standing (job_in g j r)) ≡ sum_by w (standing r)
job_weight w region.Nba j r = refl
job_weight w region.Observed (Clock k) r = refl
job_weight w region.Observed (Update us) r = refl
job_weight w region.ReNba j r = refl
job_weight w region.Active j r = refl
job_weight w region.Inactive j r = refl
job_weight w region.Reactive j r = refl
job_weight w region.ReInactive j r = refl

pub due_weight : (w : ProcessId → ℕ) (g : Region) (x : Due) (r : Regions) → sum_by w (standing (due_in g x r)) ≤ sum_by w (standing r) + weight_of_due w x
due_weight w g (Resume p) r = ready_weight w g p r
due_weight w g (Work j) r = let e = job_weight w g j r in omega (arith, e)

-- ---- those that are parked

-- another state of one process: what waits on each side counts
pub parked_swap : (w : ProcessId → ℕ) (n : ℕ) (qs : List ProcessState) (i : ℕ) (p : ProcessId) (q v : ProcessState) → slice_get qs i ≡ Some q → p.0 ≡ n + i
    → parked_weight w n (slice_set qs i v) + (if is_parked q.latest then w p else 0) ≡ parked_weight w n qs + (if is_parked v.latest then w p else 0)
parked_swap w n [] i p q v e h = absurd (cc)
parked_swap w n (x ∷ qs) zero p q v e h =
    let k : n ≡ p.0 = omega (arith, h) in
    let first : (s : ProcessState) → (if is_parked s.latest then w (record { 0 = n }) else 0) ≡ (if is_parked s.latest then w p else 0) =
    λ s i. if is_parked s.latest then w (record { 0 = k i }) else 0 in
    let a = first v in
    let b = first x ∙ ap (λ (s : ProcessState). if is_parked s.latest then w p else 0) (same_some e) in
    omega (arith, a, b)
parked_swap w n (x ∷ qs) (suc i) p q v e h = let k = parked_swap w (n + 1) qs i p q v e (omega (arith, h)) in omega (arith, k)

-- a process that goes on waiting or not waiting weighs the same
pub parked_still : (w : ProcessId → ℕ) (qs : List ProcessState) (p : ProcessId) (q v : ProcessState) → slice_get qs p.0 ≡ Some q → is_parked v.latest ≡ is_parked q.latest
    → parked_weight w 0 (slice_set qs p.0 v) ≡ parked_weight w 0 qs
parked_still w qs p q v e h =
    let k = parked_swap w 0 qs p.0 p q v e (omega arith) in
    let a = ap (λ (b : Bool). if b then w p else 0) h in
    omega (arith, k, a)

-- one that begins to wait
pub parked_begun : (w : ProcessId → ℕ) (qs : List ProcessState) (p : ProcessId) (q v : ProcessState) → slice_get qs p.0 ≡ Some q → is_parked q.latest ≡ false → is_parked v.latest ≡ true
    → parked_weight w 0 (slice_set qs p.0 v) ≡ parked_weight w 0 qs + w p
parked_begun w qs p q v e h g =
    let k = parked_swap w 0 qs p.0 p q v e (omega arith) in
    let a = ap (λ (b : Bool). if b then w p else 0) h in
    let b = ap (λ (b : Bool). if b then w p else 0) g in
    omega (arith, k, a, b)

-- one that no longer waits
pub parked_done : (w : ProcessId → ℕ) (qs : List ProcessState) (p : ProcessId) (q v : ProcessState) → slice_get qs p.0 ≡ Some q → is_parked q.latest ≡ true → is_parked v.latest ≡ false
    → parked_weight w 0 (slice_set qs p.0 v) + w p ≡ parked_weight w 0 qs
parked_done w qs p q v e h g =
    let k = parked_swap w 0 qs p.0 p q v e (omega arith) in
    let a = ap (λ (b : Bool). if b then w p else 0) h in
    let b = ap (λ (b : Bool). if b then w p else 0) g in
    omega (arith, k, a, b)

-- one that does not wait now
pub parked_less : (w : ProcessId → ℕ) (qs : List ProcessState) (p : ProcessId) (q v : ProcessState) → slice_get qs p.0 ≡ Some q → is_parked v.latest ≡ false
    → parked_weight w 0 (slice_set qs p.0 v) ≤ parked_weight w 0 qs
parked_less w qs p q v e g =
    let k = parked_swap w 0 qs p.0 p q v e (omega arith) in
    let b = ap (λ (b : Bool). if b then w p else 0) g in
    omega (arith, k, b)

-- one more that does not wait
pub parked_more : (w : ProcessId → ℕ) (n : ℕ) (qs : List ProcessState) (v : ProcessState) → is_parked v.latest ≡ false → parked_weight w n (qs ++ v ∷ []) ≡ parked_weight w n qs
parked_more w n [] v g = let b = ap (λ (b : Bool). if b then w (record { 0 = n }) else 0) g in omega (arith, b)
parked_more w n (q ∷ qs) v g = let k = parked_more w (n + 1) qs v g in omega (arith, k)

-- ---- the weight of all

numbered_set : {A : Type 0} (n : ℕ) (xs : List A) (i : ℕ) (v : A) → numbered_from n (slice_set xs i v) ≡ numbered_from n xs
numbered_set n [] i v = refl
numbered_set n (x ∷ xs) zero v = refl
numbered_set n (x ∷ xs) (suc i) v = ap (λ (ps : List ProcessId). record { 0 = n } ∷ ps) (numbered_set (n + 1) xs i v)

pub all_still : {A : Type 0} (w : ProcessId → ℕ) (xs : List A) (i : ℕ) (v : A) → weight_of_all w (slice_set xs i v) ≡ weight_of_all w xs
all_still w xs i v = ap (sum_by w) (numbered_set 0 xs i v)

all_from : {A : Type 0} (w : ProcessId → ℕ) (n : ℕ) (xs : List A) (v : A) → sum_by w (numbered_from n (xs ++ v ∷ [])) ≡ sum_by w (numbered_from n xs) + w (record { 0 = n + length xs })
all_from w n [] v =
    let a = sum_by-cons w (record { 0 = n }) [] in
    let z : n ≡ n + 0 = omega arith in
    let b : w (record { 0 = n }) ≡ w (record { 0 = n + 0 }) = ap (λ m. w (record { 0 = m })) z in
    omega (arith, a, b)
all_from w n (x ∷ xs) v =
    let a = sum_by-cons w (record { 0 = n }) (numbered_from (n + 1) (xs ++ v ∷ [])) in
    let b = sum_by-cons w (record { 0 = n }) (numbered_from (n + 1) xs) in
    let z : n + 1 + length xs ≡ n + suc (length xs) = omega arith in
    let e : w (record { 0 = n + 1 + length xs }) ≡ w (record { 0 = n + suc (length xs) }) = ap (λ m. w (record { 0 = m })) z in
    omega (arith, a, b, e, all_from w (n + 1) xs v)

pub all_more : {A : Type 0} (w : ProcessId → ℕ) (xs : List A) (v : A) → weight_of_all w (xs ++ v ∷ []) ≡ weight_of_all w xs + w (record { 0 = length xs })
all_more w xs v = all_from w 0 xs v ∙ (let z : 0 + length xs ≡ length xs = omega arith in ap (λ m. weight_of_all w xs + w (record { 0 = m })) z)

-- none is parked
pub none_parked : (w : ProcessId → ℕ) (n : ℕ) (qs : List ProcessState) → AllByRecursion (λ q. is_parked q.latest ≡ false) qs → parked_weight w n qs ≡ 0
none_parked w n [] h = refl
none_parked w n (q ∷ qs) h =
    let a = ap (λ (b : Bool). if b then w (record { 0 = n }) else 0) h.0 in
    let k = none_parked w (n + 1) qs h.1 in
    omega (arith, a, k)

-- without one of them
pub without_weight : (w : ProcessId → ℕ) (p : ProcessId) (r : Regions) → sum_by w (standing (regions_without p r)) ≤ sum_by w (standing r)
without_weight w p r =
    let n = standing_weight w (regions_without p r) in
    let o = standing_weight w r in
    let a = filtered_weight w (is_not p) r.active.ready in
    let b = filtered_weight w (is_not p) r.active.idle in
    let c = filtered_weight w (is_not p) r.reactive.ready in
    let d = filtered_weight w (is_not p) r.reactive.idle in
    omega (arith, n, o, a, b, c, d)

-- of those of one set
abbrev pub set_weight : (ProcessId → ℕ) → Set → ℕ
set_weight w s = sum_by w s.ready + sum_by w s.idle

pub with_set_weight : (w : ProcessId → ℕ) (s : Side) (x : Set) (r : Regions) → sum_by w (standing (with_set s x r)) + set_weight w (set_of s r) ≡ sum_by w (standing r) + set_weight w x
with_set_weight w Active x r = let n = standing_weight w (with_set Active x r) in let o = standing_weight w r in omega (arith, n, o)
with_set_weight w Reactive x r = let n = standing_weight w (with_set Reactive x r) in let o = standing_weight w r in omega (arith, n, o)

pub moved_weight : (w : ProcessId → ℕ) (s : Set) → set_weight w (moved s) ≤ set_weight w s
moved_weight w s = by_lists s.idle s.updates
  where
    none : sum_by w [] ≡ 0
    none = refl

    by_lists : (ps : List ProcessId) (js : List Job) → set_weight w (moved (record s { idle = ps; updates = js })) ≤ set_weight w (record s { idle = ps; updates = js })
    by_lists [] [] = omega arith
    by_lists [] (j ∷ js) = omega arith
    by_lists (p ∷ ps) js = omega (arith, none)

-- who weighs nothing stands nowhere
pub regions_absent : (p : ProcessId) (r : Regions) → sum_by (one p) (standing r) ≡ 0 → regions_without p r ≡ r
regions_absent p r h =
    let e = standing_weight (one p) r in
    let a = absent p r.active.ready (omega (arith, e, h)) in
    let b = absent p r.active.idle (omega (arith, e, h)) in
    let c = absent p r.reactive.ready (omega (arith, e, h)) in
    let d = absent p r.reactive.idle (omega (arith, e, h)) in
    ap (λ (ps : List ProcessId). record { active = record r.active { ready = ps; idle = filter (is_not p) r.active.idle }; reactive = set_without p r.reactive }) a
    ∙ ap (λ (ps : List ProcessId). record { active = record r.active { idle = ps }; reactive = set_without p r.reactive }) b
    ∙ ap (λ (ps : List ProcessId). record { active = r.active; reactive = record r.reactive { ready = ps; idle = filter (is_not p) r.reactive.idle } }) c
    ∙ ap (λ (ps : List ProcessId). record { active = r.active; reactive = record r.reactive { idle = ps } }) d

pub not_contained : (p : ProcessId) (qs : List ProcessId) → sum_by (one p) qs ≡ 0 → Contains qs p → ⊥
not_contained p [] h c = absurd (let l = c.1 in omega (arith, l))
not_contained p (q ∷ qs) h c = by_place (λ z d. not_contained p qs z d) c.0 c.1 c.2
  where
    s : sum_by (one p) (q ∷ qs) ≡ one p q + sum_by (one p) qs
    s = sum_by-cons (one p) q qs

    by_place : (sum_by (one p) qs ≡ 0 → Contains qs p → ⊥) → (k : ℕ) → k < length (q ∷ qs) → slice_index_or (q ∷ qs) k p ≡ p → ⊥
    by_place i zero l e = let o : one p q ≡ 1 = ap (one p) e ∙ one_self p in absurd (omega (arith, s, o, h))
    by_place i (suc k) l e = i (omega (arith, s, h)) (k, omega (arith, l), e)

-- of two tests that do not both hold
pub apart_weight : {X : Type 0} (w : X → ℕ) (f g : X → Bool) → ((x : X) → f x ≡ true → g x ≡ false) → (xs : List X) → sum_by w (filter f xs) + sum_by w (filter g xs) ≤ sum_by w xs
apart_weight w f g h [] = let z : sum_by w [] ≡ 0 = refl in omega (arith, z)
apart_weight {X} w f g h (x ∷ xs) = by_tests (apart_weight w f g h xs) (f x) (g x) (h x)
  where
    s : sum_by w (x ∷ xs) ≡ w x + sum_by w xs
    s = sum_by-cons w x xs

    by_tests : sum_by w (filter f xs) + sum_by w (filter g xs) ≤ sum_by w xs → (a b : Bool) → (a ≡ true → b ≡ false) → sum_by w (cond a (x ∷ filter f xs) (filter f xs)) + sum_by w (cond b (x ∷ filter g xs) (filter g xs)) ≤ sum_by w (x ∷ xs)
    by_tests i true true k = absurd (let e : true ≡ false = k refl in cc)
    by_tests i true false k = let a = sum_by-cons w x (filter f xs) in omega (arith, a, i, s)
    by_tests i false true k = let a = sum_by-cons w x (filter g xs) in omega (arith, a, i, s)
    by_tests i false false k = omega (arith, i, s)
