-- Processes that are taken, and the `always_comb` that become ready after the last starter.
use Rattle.std.proofs.Common.{ℕ, zero, suc, ◌≡◌, ◌+◌, ◌<◌, ◌≤◌, Bool, true, false, List, [], ◌∷◌, ◌++◌, Option, None, Some, refl, ap, sym, ◌∙◌, arith, length, drop, slice_get}
use Rattle.std.specs.Prelude.{get_or, if◌then◌else◌}
use Rattle.std.proofs.lemmas.List.{drop_more}
use mathlib.Core.List.{append_assoc}
use Rattle.sv_value.specs.declared.number.ProcessId.{ProcessId}
use Rattle.sv_flat.specs.declared.process.Process.{Process}
use Rattle.sv_sound.proofs.Weights.{got, within}
use Rattle.sv_machine.specs.Starts.{held_at, held_from, is_held}

-- ---- lists of those

held_none : (n : ℕ) (fs : List Process) → held_from n fs [] ≡ []
held_none n [] = refl
held_none n (f ∷ fs) = refl

drop_none : (ts : List Bool) (n : ℕ) → slice_get ts n ≡ None → drop n ts ≡ []
drop_none [] zero e = refl
drop_none [] (suc n) e = refl
drop_none (t ∷ ts) zero e = absurd (cc)
drop_none (t ∷ ts) (suc n) e = drop_none ts n e

drop_past : (ts : List Bool) (n : ℕ) → slice_get ts n ≡ None → drop (n + 1) ts ≡ []
drop_past ts n e = drop_none ts (n + 1) (past ts n e)
  where
    past : (ts : List Bool) (n : ℕ) → slice_get ts n ≡ None → slice_get ts (n + 1) ≡ None
    past [] n e = refl
    past (t ∷ ts) zero e = absurd (cc)
    past (t ∷ ts) (suc n) e = (let z : suc n + 1 ≡ suc (n + 1) = omega arith in ap (slice_get (t ∷ ts)) z ∙ past ts n e)

-- one process further
pub held_next : (n : ℕ) (fs : List Process) (ts : List Bool) (f : Process) → n < length fs → get_or fs n f ≡ f
    → held_from n (drop n fs) (drop n ts)
    ≡ (if is_held f (slice_get ts n) then record { 0 = n } ∷ held_from (n + 1) (drop (n + 1) fs) (drop (n + 1) ts) else held_from (n + 1) (drop (n + 1) fs) (drop (n + 1) ts))
held_next n fs ts f l e = ap (λ (gs : List Process). held_from n gs (drop n ts)) first ∙ by_taken (slice_get ts n) refl
  where
    first : drop n fs ≡ f ∷ drop (n + 1) fs
    first = drop_more fs n f l ∙ ap (λ (g : Process). g ∷ drop (n + 1) fs) e

    by_taken : (o : Option Bool) → slice_get ts n ≡ o → held_from n (f ∷ drop (n + 1) fs) (drop n ts)
        ≡ (if is_held f (slice_get ts n) then record { 0 = n } ∷ held_from (n + 1) (drop (n + 1) fs) (drop (n + 1) ts) else held_from (n + 1) (drop (n + 1) fs) (drop (n + 1) ts))
    by_taken None g =
        ap (held_from n (f ∷ drop (n + 1) fs)) (drop_none ts n g)
        ∙ sym (ap (λ o. if is_held f o then record { 0 = n } ∷ held_from (n + 1) (drop (n + 1) fs) (drop (n + 1) ts) else held_from (n + 1) (drop (n + 1) fs) (drop (n + 1) ts)) g
        ∙ ap (held_from (n + 1) (drop (n + 1) fs)) (drop_past ts n g) ∙ held_none (n + 1) (drop (n + 1) fs))
    by_taken (Some t) g =
        ap (held_from n (f ∷ drop (n + 1) fs)) (drop_more ts n t (within ts n t g) ∙ ap (λ (u : Bool). u ∷ drop (n + 1) ts) (got ts n t t g))
        ∙ sym (ap (λ o. if is_held f o then record { 0 = n } ∷ held_from (n + 1) (drop (n + 1) fs) (drop (n + 1) ts) else held_from (n + 1) (drop (n + 1) fs) (drop (n + 1) ts)) g)

pub held_more : (us vs : List ProcessId) (n : ℕ) (f : Process) (t : Option Bool) (rest all : List ProcessId) → vs ≡ us ++ held_at n f t
    → us ++ (if is_held f t then record { 0 = n } ∷ rest else rest) ≡ all → vs ++ rest ≡ all
held_more us vs n f t rest all e h = ap (λ (xs : List ProcessId). xs ++ rest) e ∙ append_assoc us (held_at n f t) rest ∙ ap (λ (xs : List ProcessId). us ++ xs) (by_test (is_held f t)) ∙ h
  where
    by_test : (b : Bool) → (if b then record { 0 = n } ∷ [] else []) ++ rest ≡ (if b then record { 0 = n } ∷ rest else rest)
    by_test true = refl
    by_test false = refl

past_all : (fs : List Process) (n : ℕ) → length fs ≤ n → drop n fs ≡ []
past_all [] zero l = refl
past_all [] (suc n) l = refl
past_all (f ∷ fs) zero l = absurd (omega (arith, l))
past_all (f ∷ fs) (suc n) l = past_all fs n (omega (arith, l))

nothing_more : (us : List ProcessId) → us ++ [] ≡ us
nothing_more [] = refl
nothing_more (u ∷ us) = λ i. u ∷ nothing_more us i

pub held_all : (us : List ProcessId) (fs : List Process) (ts : List Bool) (n : ℕ) → length fs ≤ n → us ++ held_from n (drop n fs) (drop n ts) ≡ held_from 0 fs ts → us ≡ held_from 0 fs ts
held_all us fs ts n l h = sym (nothing_more us) ∙ ap (λ (gs : List Process). us ++ held_from n gs (drop n ts)) (sym (past_all fs n l)) ∙ h
