-- Walks, one after another.
use Rattle.std.proofs.Common.{◌≡◌, ℕ, suc, List, [], ◌∷◌, ◌++◌, Option, Some, None, refl, sym, ap, ◌∙◌, append_assoc, append-nil}
use Rattle.sv_value.specs.declared.place.Place.{Place}
use Rattle.sv_names.specs.Instances as instances
use Rattle.sv_names.specs.Instances.{Walk, Walked, with_rest, go_on, and_then, stays, meets, counted}
use Rattle.sv_elab_walk.specs.Frames.{goes_on}

-- what is walked before, in two parts
rest_twice : (ws vs : List Walked) (p : List Walked × Option ℕ) → with_rest (ws ++ vs) p ≡ with_rest ws (with_rest vs p)
rest_twice ws vs p = ap (λ (xs : List Walked). (xs, p.1)) (append_assoc ws vs p.0)

-- what is walked before, and two walks
pub rest_before : (ws : List Walked) (p : List Walked × Option ℕ) (go : Walk) → go_on (with_rest ws p) go ≡ with_rest ws (go_on p go)
rest_before ws (vs, None) go = refl
rest_before ws (vs, Some n) go = rest_twice ws vs (go n)

-- three walks
pub then_then : (p : List Walked × Option ℕ) (b c : Walk) → go_on (go_on p b) c ≡ go_on p (and_then b c)
then_then (ws, None) b c = refl
then_then (ws, Some n) b c = rest_before ws (b n) c

-- nothing after a walk
pub then_stays : (p : List Walked × Option ℕ) → go_on p stays ≡ p
then_stays (ws, None) = refl
then_stays (ws, Some n) = ap (λ (xs : List Walked). (xs, Some n)) (append-nil ws)

-- one thing is met first
pub meets_first : (ws : List Walked) (n : ℕ) (w : Walked) (a : Walk) → goes_on (ws ++ w ∷ []) n a ≡ goes_on ws n (meets w a)
unfolding goes_on
meets_first ws n w a = rest_twice ws (w ∷ []) (a n)

-- what is met first comes before what follows
pub meets_then : (ws : List Walked) (n : ℕ) (w : Walked) (a b : Walk)
    → goes_on (ws ++ w ∷ []) n (and_then a b) ≡ goes_on ws n (and_then (meets w a) b)
unfolding goes_on
meets_then ws n w a b = rest_twice ws (w ∷ []) (and_then a b n) ∙ ap (with_rest ws) (sym (rest_before (w ∷ []) (a n) b))

-- a walk in three parts
pub parts_then : (ws : List Walked) (n : ℕ) (a b c : Walk)
    → goes_on ws n (and_then a (and_then b c)) ≡ goes_on ws n (and_then (and_then a b) c)
unfolding goes_on
parts_then ws n a b c = ap (with_rest ws) (sym (then_then (a n) b c))

-- a walk in three parts, however they are joined
pub parts_joined : (a b c : Walk) → and_then (and_then a b) c ≡ and_then a (and_then b c)
parts_joined a b c = λ i n. then_then (a n) b c i

-- nothing before a walk
pub stays_then : (ws : List Walked) (n : ℕ) (a : Walk) → goes_on ws n a ≡ goes_on ws n (and_then stays a)
unfolding goes_on
stays_then ws n a = refl

-- an instance that is within the limit
pub counted_then : (ws : List Walked) (n : ℕ) (at : Place) (a b : Walk)
    → goes_on ws n (and_then a b) ≡ goes_on ws (suc n) (and_then (counted at a) b)
unfolding goes_on
counted_then ws n at a b = refl

-- the instance that passes the limit
pub passed_then : (ws : List Walked) (at : Place) (a b : Walk)
    → (ws ++ instances.Pass at ∷ [], None) ≡ goes_on ws 0 (and_then (counted at a) b)
unfolding goes_on
passed_then ws at a b = refl

-- nothing is left
pub all_left : (ws : List Walked) (n : ℕ) → (ws, Some n) ≡ goes_on ws n stays
unfolding goes_on
all_left ws n = ap (λ (xs : List Walked). (xs, Some n)) (sym (append-nil ws))
