-- Processes that become ready, one behind the other.
use Rattle.std.proofs.Common.{ℕ, zero, suc, ◌≡◌, ◌+◌, ◌<◌, ◌≤◌, ◌^◌, List, [], ◌∷◌, refl, ap, subst, sym, ◌∙◌, arith, length, drop}
use Rattle.std.specs.Prelude.{sum_by, get_or}
use Rattle.std.specs.List.{AllByRecursion, Contains}
use Rattle.std.proofs.lemmas.List.{drop_more}
use Rattle.std.proofs.lemmas.List.Sums.{sum_by-cons}
use Rattle.sv_value.specs.declared.number.ProcessId.{ProcessId}
use Rattle.sv_value.specs.declared.schedule.Side.{Side}
use Rattle.sv_value.specs.declared.schedule.Side.TheVariants.{Active, Reactive}
use Rattle.sv_value.specs.Regions.{Regions, ready_in, front_of, standing}
use Rattle.sv_sched.specs.Lists.{HoldsProcesses}
use Rattle.sv_fork.specs.Tree.{Member}
use Rattle.sv_sound.specs.Sound.{weight_of_all}
use Rattle.sv_sound.proofs.Weights.{one, one_self, once, not_contained, ready_weight}
use Rattle.sv_sound.proofs.Room.{ones, all_count, count_processes}
use Rattle.sv_machine.specs.Wakes.{IsKnown, side_at, all_ready}

-- these processes may become ready
pub record MayReady (ms : List Member) (ps : List ProcessId) (r : Regions) : Type 0 where
  pub known : AllByRecursion (IsKnown (length ms)) ps
  pub weights : (w : ProcessId → ℕ) → sum_by w (standing r) + sum_by w ps ≤ weight_of_all w ms

pub holds_front : (s : Side) → HoldsProcesses (front_of s)
holds_front Active = tt
holds_front Reactive = tt

module _ (ms : List Member) (p : ProcessId) (ps : List ProcessId) (r : Regions) (h : MayReady ms (p ∷ ps) r) where
  pub may_absent : ¬ Contains (standing r) p
  may_absent c =
      let w = h.weights (one p) in
      let s = sum_by-cons (one p) p ps in
      let o = one_self p in
      let m = once p 0 ms in
      not_contained p (standing r) (omega (arith, w, s, o, m)) c

  pub may_more : MayReady ms ps (ready_in (front_of (side_at ms p)) p r)
  may_more = record {
    known = h.known.1;
    weights = λ w. (let a = h.weights w in let s = sum_by-cons w p ps in let b = ready_weight w (front_of (side_at ms p)) p r in omega (arith, a, s, b));
  }

pub may_few : (ms : List Member) (ps : List ProcessId) (r : Regions) → MayReady ms ps r → length ms ≤ 2 ^ 18 → length (standing r) < 2 ^ 31
may_few ms ps r h few =
    let w = h.weights ones in
    let a = all_count ms in
    let c = count_processes (standing r) in
    omega (arith, w, a, c, few)

-- one of the processes of a list, and those behind it
pub next_is : (ps : List ProcessId) (i : ℕ) (p : ProcessId) → i < length ps → get_or ps i p ≡ p → drop i ps ≡ p ∷ drop (i + 1) ps
next_is ps i p l e = drop_more ps i p l ∙ ap (λ (q : ProcessId). q ∷ drop (i + 1) ps) e

-- so far, of a list of processes that become ready
pub record SoFar (ms : List Member) (ps : List ProcessId) (old : Regions) (i : ℕ) (r : Regions) : Type 0 where
  pub may : MayReady ms (drop i ps) r
  pub ready : all_ready ms (drop i ps) r ≡ all_ready ms ps old

module _ (ms : List Member) (ps : List ProcessId) (old : Regions) (i : ℕ) (r : Regions) (h : SoFar ms ps old i r) (p : ProcessId) (l : i < length ps) (e : get_or ps i p ≡ p) where
  first_may : MayReady ms (p ∷ drop (i + 1) ps) r
  first_may = subst (λ qs. MayReady ms qs r) (next_is ps i p l e) h.may

  pub next_known : p.0 < length ms
  next_known = first_may.known.0

  pub next_absent : Contains (standing r) p → ⊥
  next_absent = may_absent ms p (drop (i + 1) ps) r first_may

  pub next_so_far : SoFar ms ps old (i + 1) (ready_in (front_of (side_at ms p)) p r)
  next_so_far = record {
    may = may_more ms p (drop (i + 1) ps) r first_may;
    ready = sym (ap (λ qs. all_ready ms qs r) (next_is ps i p l e)) ∙ h.ready;
  }

nothing : (ps : List ProcessId) (i : ℕ) → length ps ≤ i → drop i ps ≡ []
nothing [] zero l = refl
nothing [] (suc i) l = refl
nothing (p ∷ ps) zero l = absurd (omega (arith, l))
nothing (p ∷ ps) (suc i) l = nothing ps i (omega (arith, l))

pub all_so_far : (ms : List Member) (ps : List ProcessId) (old : Regions) (i : ℕ) (r : Regions) → SoFar ms ps old i r → length ps ≤ i → r ≡ all_ready ms ps old
all_so_far ms ps old i r h l = sym (ap (λ qs. all_ready ms qs r) (nothing ps i l)) ∙ h.ready
