-- The processes of a side, by number, where one of them changes.
use Rattle.std.proofs.Common.{ℕ, zero, suc, ◌≡◌, List, [], ◌∷◌, Option, None, Some, Bool, true, false, cond, refl, ap, sym, ◌∙◌, map, slice_get, slice_set}
use Rattle.std.specs.Prelude.{filter, option_map, if◌then◌else◌}
use Rattle.std.proofs.lemmas.Option.{slice_get-map}
use Rattle.sv_value.specs.declared.number.ProcessId.{ProcessId}
use Rattle.sv_value.specs.declared.schedule.Side.{Side}
use Rattle.sv_value.specs.declared.schedule.Side.TheVariants.{Active, Reactive}
use Rattle.sv_value.specs.Regions.{same_side}
use Rattle.sv_flat.specs.State.{Activation}
use Rattle.sv_flat.specs.Process.{ProcessState}
use Rattle.sv_flat.specs.Config.{Config, process_at, set_at, with_process, side_in, side_of}
use Rattle.sv_flat.specs.Effects.Writes.{changed_at}
use Rattle.sv_flat.specs.Steps.{other}
use Rattle.sv_flat.specs.Laws.{on_side, of_side}

some_same : {A : Type 0} {a b : A} → Some a ≡ Some b → a ≡ b
some_same h = cc

-- ---- lists

-- what a changed place holds
abbrev got : {A : Type 0} → ℕ → ℕ → (A → A) → Option A → Option A
got k m f None = None
got zero zero f (Some x) = Some (f x)
got zero (suc m) f (Some x) = Some x
got (suc k) zero f (Some x) = Some x
got (suc k) (suc m) f (Some x) = got k m f (Some x)

got_later : {A : Type 0} (k m : ℕ) (f : A → A) (o : Option A) → got k m f o ≡ got (suc k) (suc m) f o
got_later k m f None = refl
got_later k m f (Some x) = refl

got_other : {A : Type 0} (m : ℕ) (f : A → A) (o : Option A) → o ≡ got zero (suc m) f o
got_other m f None = refl
got_other m f (Some x) = refl

slice_get-changed_at : {A : Type 0} (xs : List A) (k m : ℕ) (f : A → A) → slice_get (changed_at xs k f) m ≡ got k m f (slice_get xs m)
slice_get-changed_at [] k m f = refl
slice_get-changed_at (x ∷ xs) zero zero f = refl
slice_get-changed_at (x ∷ xs) zero (suc m) f = got_other m f (slice_get xs m)
slice_get-changed_at (x ∷ xs) (suc k) zero f = refl
slice_get-changed_at (x ∷ xs) (suc k) (suc m) f = slice_get-changed_at xs k m f ∙ got_later k m f (slice_get xs m)

-- two lists that agree at a place agree there after the same change
pub changed_same : {A : Type 0} (xs ys : List A) (k m : ℕ) (f : A → A) → slice_get xs m ≡ slice_get ys m → slice_get (changed_at xs k f) m ≡ slice_get (changed_at ys k f) m
changed_same xs ys k m f h = slice_get-changed_at xs k m f ∙ ap (got k m f) h ∙ sym (slice_get-changed_at ys k m f)

-- ---- the processes of a side

-- a change that leaves a process on its side
abbrev pub KeepsSide : (ProcessState → ProcessState) → Type 0
KeepsSide f = (q : ProcessState) → (f q).side ≡ q.side

module _ (s : Side) (f : ProcessState → ProcessState) (k : KeepsSide f) where
  one_masked : (q : ProcessState) → on_side s (f q) ≡ option_map f (on_side s q)
  one_masked q = ap (λ t. if same_side s t then Some (f q) else None) (k q) ∙ by_test (same_side s q.side)
    where
      by_test : (b : Bool) → cond b (Some (f q)) None ≡ option_map f (cond b (Some q) None)
      by_test true = refl
      by_test false = refl

  some_masked : (ps : List ProcessState) (i : ℕ) (q : ProcessState) → slice_get ps i ≡ Some q
      → map (on_side s) (slice_set ps i (f q)) ≡ changed_at (map (on_side s) ps) i (option_map f)
  some_masked [] i q h = absurd (cc)
  some_masked (x ∷ ps) zero q h =
      ap (λ o. o ∷ map (on_side s) ps) (one_masked q ∙ ap (λ q. option_map f (on_side s q)) (sym (some_same h)))
  some_masked (x ∷ ps) (suc i) q h = ap (λ (qs : List (Option ProcessState)). on_side s x ∷ qs) (some_masked ps i q h)

  none_masked : (ps : List ProcessState) (i : ℕ) → slice_get ps i ≡ None → map (on_side s) ps ≡ changed_at (map (on_side s) ps) i (option_map f)
  none_masked [] i h = refl
  none_masked (x ∷ ps) zero h = absurd (cc)
  none_masked (x ∷ ps) (suc i) h = ap (λ (qs : List (Option ProcessState)). on_side s x ∷ qs) (none_masked ps i h)

  set_masked : (p : ProcessId) (ps : List ProcessState) (o : Option ProcessState) → slice_get ps p.0 ≡ o
      → map (on_side s) (set_at o f p ps) ≡ changed_at (map (on_side s) ps) p.0 (option_map f)
  set_masked p ps None h = none_masked ps p.0 h
  set_masked p ps (Some q) h = some_masked ps p.0 q h

  -- the processes of the side, where one changes
  pub masked : (p : ProcessId) (c : Config) → map (on_side s) (with_process p f c).processes ≡ changed_at (map (on_side s) c.processes) p.0 (option_map f)
  masked p c = set_masked p c.processes (process_at c p) refl

-- ---- sides

module _ (f : ProcessState → ProcessState) (k : KeepsSide f) where
  one_side : (ps : List ProcessState) (i j : ℕ) (q : ProcessState) → slice_get ps i ≡ Some q → side_in (slice_get (slice_set ps i (f q)) j) ≡ side_in (slice_get ps j)
  one_side [] i j q h = refl
  one_side (x ∷ ps) zero zero q h = k q ∙ ap (λ (q : ProcessState). q.side) (sym (some_same h))
  one_side (x ∷ ps) zero (suc j) q h = refl
  one_side (x ∷ ps) (suc i) zero q h = refl
  one_side (x ∷ ps) (suc i) (suc j) q h = one_side ps i j q h

  any_side : (p : ProcessId) (ps : List ProcessState) (j : ℕ) (o : Option ProcessState) → slice_get ps p.0 ≡ o → side_in (slice_get (set_at o f p ps) j) ≡ side_in (slice_get ps j)
  any_side p ps j None h = refl
  any_side p ps j (Some q) h = one_side ps p.0 j q h

  pub kept_side : (p r : ProcessId) (c : Config) → side_of (with_process p f c) r ≡ side_of c r
  kept_side p r c = any_side p c.processes r.0 (process_at c p) refl

-- where the sides of processes stay, the activations of a side do
pub same_of_side : (s : Side) (c e : Config) → ((r : ProcessId) → side_of c r ≡ side_of e r) → (xs : List Activation) → filter (of_side s c) xs ≡ filter (of_side s e) xs
same_of_side s c e h xs = λ i. filter (λ a. same_side s (h a.name.process i)) xs

-- ---- what the processes of a side tell

-- the side of what stands at a number
abbrev side_back : Side → Option (Option ProcessState) → Side
side_back s None = Active
side_back s (Some None) = other s
side_back s (Some (Some q)) = q.side

state_side : (s t : Side) (q : ProcessState) → q.side ≡ t → q.side ≡ side_back s (Some (on_side s q))
state_side Active Active q e = sym (ap (λ t. side_back Active (Some (if same_side Active t then Some q else None))) e)
state_side Active Reactive q e = e ∙ sym (ap (λ t. side_back Active (Some (if same_side Active t then Some q else None))) e)
state_side Reactive Active q e = e ∙ sym (ap (λ t. side_back Reactive (Some (if same_side Reactive t then Some q else None))) e)
state_side Reactive Reactive q e = sym (ap (λ t. side_back Reactive (Some (if same_side Reactive t then Some q else None))) e)

side_told : (s : Side) (o : Option ProcessState) → side_in o ≡ side_back s (option_map (on_side s) o)
side_told s None = refl
side_told s (Some q) = state_side s q.side q refl

-- the state of what stands at a number, where it is of the side
abbrev state_back : Option (Option ProcessState) → Option ProcessState
state_back None = None
state_back (Some o) = o

pub same_self : (s : Side) → same_side s s ≡ true
same_self Active = refl
same_self Reactive = refl

state_told : (s : Side) (o : Option ProcessState) → side_in o ≡ s → o ≡ state_back (option_map (on_side s) o)
state_told s None h = refl
state_told s (Some q) h = sym (ap (λ t. if same_side s t then Some q else None) h ∙ ap (λ b. if b then Some q else None) (same_self s))

module _ (s : Side) (ps qs : List ProcessState) (h : map (on_side s) ps ≡ map (on_side s) qs) where
  told_same : (i : ℕ) → option_map (on_side s) (slice_get ps i) ≡ option_map (on_side s) (slice_get qs i)
  told_same i = sym (slice_get-map (on_side s) ps i) ∙ ap (λ (xs : List (Option ProcessState)). slice_get xs i) h ∙ slice_get-map (on_side s) qs i

  -- the sides of all processes
  pub sides_same : (i : ℕ) → side_in (slice_get ps i) ≡ side_in (slice_get qs i)
  sides_same i = side_told s (slice_get ps i) ∙ ap (side_back s) (told_same i) ∙ sym (side_told s (slice_get qs i))

  -- and each process of this side
  pub states_same : (i : ℕ) → side_in (slice_get ps i) ≡ s → slice_get ps i ≡ slice_get qs i
  states_same i e = state_told s (slice_get ps i) e ∙ ap state_back (told_same i) ∙ sym (state_told s (slice_get qs i) (sym (sides_same i) ∙ e))
