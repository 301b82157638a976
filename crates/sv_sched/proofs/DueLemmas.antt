-- What is due at a moment, and what comes first.
use Rattle.std.proofs.Common.{ℕ, ◌≡◌, ◌<◌, ◌≤◌, List, [], ◌∷◌, None, Some, Bool, refl, ap, sym, ◌∙◌, arith, inl, inr, ◌⊎◌}
use Rattle.std.specs.Prelude.{filter}
use Rattle.std.proofs.lemmas.Bool.Decides.{nat_tests}
use Rattle.std.proofs.lemmas.Bool.{cases_lt}
use Rattle.std.proofs.Math.Nat.{le_antisymm}
use Rattle.sv_value.specs.declared.schedule.Event.{Event}
use Rattle.sv_flat.specs.Steps.{least_time, least_from}
use Rattle.sv_sched.specs.Future.{first_at, without_first_at, due_at}
use Rattle.sv_sched.proofs.FutureLemmas.{AllFrom, AllFrom-least_time, never_missing, first_time, due_at-first}

differ : {e : Event} {es : List Event} → e ∷ es ≡ [] → ⊥
differ h = cc

due_here : (t : ℕ) (e : Event) (es : List Event) → e.time ≡ t → due_at t (e ∷ es) ≡ e ∷ due_at t es
due_here t e es h = grind (arith, nat_tests)

due_passed : (t : ℕ) (e : Event) (es : List Event) → (e.time ≡ t → ⊥) → due_at t (e ∷ es) ≡ due_at t es
due_passed t e es h = grind (arith, nat_tests)

-- ---- an event less

pub first_is : (t : ℕ) (es : List Event) (e : Event) (rest : List Event) → due_at t es ≡ e ∷ rest → first_at t es ≡ Some e
first_is t [] e rest h = absurd (cc)
first_is t (f ∷ es) e rest h = grind (arith, nat_tests, first_is t es e rest)

pub first_time_is : (t : ℕ) (es : List Event) (e : Event) (rest : List Event) → due_at t es ≡ e ∷ rest → e.time ≡ t
first_time_is t es e rest h = first_time t es e (first_is t es e rest h)

tails : {e : Event} {es fs : List Event} → e ∷ es ≡ e ∷ fs → es ≡ fs
tails h = cc

pub left_is : (t : ℕ) (es : List Event) (e : Event) (rest : List Event) → due_at t es ≡ e ∷ rest → due_at t (without_first_at t es) ≡ rest
left_is t es e rest h = tails (sym (due_at-first t es e (first_is t es e rest h)) ∙ h)

pub other_left : (t u : ℕ) (es : List Event) → (u ≡ t → ⊥) → due_at u (without_first_at t es) ≡ due_at u es
other_left t u [] h = refl
other_left t u (f ∷ es) h = grind (arith, nat_tests, other_left t u es h)

-- two filters stand in either order
pub filter-filter : (p q : Event → Bool) (es : List Event) → filter q (filter p es) ≡ filter p (filter q es)
filter-filter p q [] = refl
filter-filter p q (e ∷ es) = grind (arith, filter-filter p q es)

-- ---- the least time

pub none_before : (t u : ℕ) (es : List Event) → AllFrom t es → u < t → due_at u es ≡ []
none_before t u [] a h = refl
none_before t u (e ∷ es) a h = due_passed u e es (λ s. omega (arith, a.0)) ∙ none_before t u es a.1 h

none_first : (t : ℕ) (es : List Event) → due_at t es ≡ [] → first_at t es ≡ None
none_first t [] h = refl
none_first t (f ∷ es) h = grind (arith, nat_tests, none_first t es)

-- something is due at the least time
pub least_due : (t : ℕ) (es : List Event) → least_time es ≡ Some t → due_at t es ≡ [] → ⊥
least_due t es l h = never_missing es t l (none_first t es h)

-- where something is due, and nothing before
pub least_is : (t : ℕ) (es : List Event) (e : Event) (rest : List Event) → due_at t es ≡ e ∷ rest → ((u : ℕ) → u < t → due_at u es ≡ []) → least_time es ≡ Some t
least_is t [] e rest d n = absurd (cc)
least_is t (f ∷ es) e rest d n = ap Some (le_antisymm (not_after (cases_lt t m)) (not_before (cases_lt m t)))
  where
    m : ℕ
    m = least_from f.time es

    not_after : (t < m) ⊎ (m ≤ t) → m ≤ t
    not_after (inl h) = absurd (differ (sym d ∙ none_before m t (f ∷ es) (AllFrom-least_time m (f ∷ es) refl) h))
    not_after (inr h) = h

    not_before : (m < t) ⊎ (t ≤ m) → t ≤ m
    not_before (inl h) = absurd (least_due m (f ∷ es) refl (n m h))
    not_before (inr h) = h

-- where nothing is due at any time, there is nothing
pub none_is : (es : List Event) → ((t : ℕ) → due_at t es ≡ []) → es ≡ []
none_is [] h = refl
none_is (e ∷ es) h = absurd (differ (sym (due_here e.time e es refl) ∙ h e.time))
