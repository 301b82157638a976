-- Time literals in ticks.
use Rattle.std.proofs.Common.{◌≡◌, ℕ, suc, ◌+◌, ◌-◌, ◌*◌, ◌/◌, ◌%◌, ◌^◌, ◌<◌, ◌≤◌, min, Bool, true, false, List, [], ◌∷◌, length, take, drop, get_or, refl, sym, ap, ◌∙◌, arith, cond, Option, Some, None, eqb, ⊎_elim, add-one, drop-cons, mul_assoc, mul-div_cancel, div-add-mod', le-mul_of_pos_right, le-div_iff_mul-le, mul-le-mul_left, pow-add, lit<}
use Rattle.std.specs.Prelude.{not, nat_le, ◌==◌, ◌||◌, if◌then◌else◌}
use Rattle.std.specs.List.{prefix_len}
use Rattle.std.proofs.Math.Nat.{one-le-pow, pow-le-pow_right, mul-div-mul_right}
use Rattle.std.proofs.lemmas.List.{drop_all}
use Rattle.std.proofs.lemmas.Bool.{cond-true, cond-false, eq-eqb, ne_eqb}
use Rattle.std.proofs.lemmas.Bool.Decides.{nat_tests, eqb_tells}
use Rattle.sv_value.specs.declared.place.Place.{Place}
use Rattle.sv_value.specs.Vector.{symbols_of}
use Rattle.sv_value.proofs.Words.{symbols_of-mod}
use Rattle.sv_flat.specs.declared.design.Scale.{Scale}
use Rattle.sv_names.specs.declared.checked.Checked.TheVariants.{Good}
use Rattle.sv_names.specs.Checked.{unless, broken_at}
use Rattle.sv_names.specs.Literals.{is_digit, decimal_from, leading_digits, power_of_unit, femtoseconds}
use Rattle.sv_names.specs.Operators.{ticks_in}
use Rattle.sv_elab_operator.specs.Times.{few, whole_ticks}

-- ---- digits

-- a byte before those that are told
one_before : (b : Bool) (c : ℕ) (cs : List ℕ) (k : ℕ) (told : List ℕ × List ℕ) → told ≡ (take k cs, drop k cs)
    → ◌≡◌ {A = List ℕ × List ℕ} (cond {A = List ℕ × List ℕ} b (c ∷ told.0, told.1) ([], c ∷ cs)) (take (cond b (1 + k) 0) (c ∷ cs), drop (cond b (1 + k) 0) (c ∷ cs))
one_before true c cs k told h =
    let more : suc k ≡ 1 + k = omega arith in
    ap (λ (p : List ℕ × List ℕ). (c ∷ p.0, p.1)) h ∙ ap (λ (m : ℕ). (take m (c ∷ cs), drop m (c ∷ cs))) more
one_before false c cs k told h = refl

-- the leading digits by their number
leading_is : (t : List ℕ) → leading_digits t ≡ (take (prefix_len is_digit t) t, drop (prefix_len is_digit t) t)
leading_is [] = refl
leading_is (c ∷ cs) = one_before (is_digit c) c cs (prefix_len is_digit cs) (leading_digits cs) (leading_is cs)

-- a number that is cut goes on as a number that is not
cut_kept : (m : ℕ) (cs : List ℕ) (n : ℕ) → min (decimal_from (min n m) cs) m ≡ min (decimal_from n cs) m
cut_kept m [] n = omega arith
cut_kept m (c ∷ cs) n =
    let same : min (10 * min n m + (c - 48)) m ≡ min (10 * n + (c - 48)) m = omega arith in
    sym (cut_kept m cs (10 * min n m + (c - 48))) ∙ ap (λ (k : ℕ). min (decimal_from k cs) m) same ∙ cut_kept m cs (10 * n + (c - 48))

-- one digit more
pub next_digit : (m : ℕ) (cs : List ℕ) (i n k total : ℕ) → i < length cs → k ≡ min (10 * n + (get_or cs i 0 - 48)) m
    → min (decimal_from n (drop i cs)) m ≡ total → min (decimal_from k (drop (i + 1) cs)) m ≡ total
next_digit m cs i n k total h e so_far =
    ap (λ (j : ℕ). min (decimal_from j (drop (i + 1) cs)) m) e ∙ cut_kept m (drop (i + 1) cs) (10 * n + (get_or cs i 0 - 48))
    ∙ ap (λ (j : ℕ). min (decimal_from (10 * n + (get_or cs i 0 - 48)) (drop j cs)) m) (add-one i)
    ∙ sym (ap (λ (ds : List ℕ). min (decimal_from n ds) m) (drop-cons cs i 0 h)) ∙ so_far

-- all digits
pub all_digits : (m : ℕ) (cs : List ℕ) (i n total : ℕ) → length cs ≤ i → n ≤ m → min (decimal_from n (drop i cs)) m ≡ total → n ≡ total
all_digits m cs i n total h kept so_far =
    let whole : n ≡ min n m = omega arith in
    whole ∙ ap (λ (ds : List ℕ). min (decimal_from n ds) m) (sym (drop_all i cs h)) ∙ so_far

-- what a literal stands for, by its digits and its unit
pub digits_are : (t digits rest : List ℕ) (k : ℕ) → k ≡ prefix_len is_digit t → digits ≡ take k t → rest ≡ drop k t
    → femtoseconds t ≡ decimal_from 0 digits * 10 ^ power_of_unit rest
digits_are t digits rest k h d r =
    ap (λ (p : List ℕ × List ℕ). decimal_from 0 p.0 * 10 ^ power_of_unit p.1) (leading_is t)
    ∙ ap (λ (m : ℕ). decimal_from 0 (take m t) * 10 ^ power_of_unit (drop m t)) (sym h)
    ∙ (λ i. decimal_from 0 (sym d i) * 10 ^ power_of_unit (sym r i))

-- ---- ticks

-- a power of ten is above 0
pub ten_positive : (k : ℕ) → 1 ≤ 10 ^ k
ten_positive k = one-le-pow k 10 (lit< tt)

-- a number that is not cut
pub kept_whole : (d m n : ℕ) → n ≡ min d m → n < m → n ≡ d
kept_whole d m n e h = omega arith

-- as many ticks as are too many
pub none_of_many : (n : ℕ) → 2 ^ 63 ≤ n → None ≡ few n
none_of_many n h = sym (cond-true (nat_le (2 ^ 63) n) None (Some n) (grind (arith, nat_tests)))

-- a number of units that is too great is one of ticks too
pub too_many : (d m n k : ℕ) → n ≡ min d m → 2 ^ 63 ≤ n → None ≡ few (d * 10 ^ k)
too_many d m n k e h =
    let below : n ≤ d = omega arith in
    let more : d ≤ d * 10 ^ k = le-mul_of_pos_right d (ten_positive k) in
    none_of_many (d * 10 ^ k) (omega (arith, below, more, h))

-- so many whole parts of a power of ten
whole_is : (m p : ℕ) → few m ≡ whole_ticks (m * 10 ^ p) p
whole_is m p =
    sym (ap (λ (n : ℕ). if not (n * 10 ^ p == m * 10 ^ p) then None else few n) (mul-div_cancel m (ten_positive p))
    ∙ cond-false (not (m * 10 ^ p == m * 10 ^ p)) None (few m) (ap not (eq-eqb (m * 10 ^ p) (m * 10 ^ p) refl)))

-- ticks that are finer than the unit
pub finer : (d u p : ℕ) → p ≤ u → few (d * 10 ^ (u - p)) ≡ whole_ticks (d * 10 ^ u) p
finer d u p h =
    let parts : (u - p) + p ≡ u = omega arith in
    whole_is (d * 10 ^ (u - p)) p
    ∙ ap (λ (t : ℕ). whole_ticks t p) (mul_assoc d (10 ^ (u - p)) (10 ^ p) ∙ ap (λ (n : ℕ). d * n) (sym (pow-add 10 (u - p) p)) ∙ ap (λ (n : ℕ). d * 10 ^ n) parts)

-- a test of two products by one factor
scaled_test : (a b u : ℕ) → 1 ≤ u → (a * u == b * u) ≡ (a == b)
scaled_test a b u h =
    ⊎_elim
    (λ (e : (eqb a b ≡ true) × (a ≡ b)). eq-eqb (a * u) (b * u) (ap (λ (n : ℕ). n * u) e.1) ∙ sym e.0)
    (λ (e : (eqb a b ≡ false) × (a ≡ b → ⊥)). ne_eqb (a * u) (b * u)
    (λ f. e.1 (sym (mul-div_cancel a h) ∙ ap (λ (n : ℕ). n / u) f ∙ mul-div_cancel b h)) ∙ sym e.0)
    (eqb_tells a b)

-- a time and its tick by one factor
scaled : (d k u q : ℕ) → q ≡ k * u → 1 ≤ u
    → (if not ((d / k) * k == d) then None else few (d / k)) ≡ (if not ((d * u / q) * q == d * u) then None else few (d * u / q))
scaled d k u q e h =
    let test : ((d / k) * (k * u) == d * u) ≡ ((d / k) * k == d) =
    ap (λ (n : ℕ). n == d * u) (sym (mul_assoc (d / k) k u)) ∙ scaled_test ((d / k) * k) d u h in
    ap (λ (b : Bool). if not b then None else few (d / k)) (sym test)
    ∙ ap (λ (n : ℕ). if not (n * (k * u) == d * u) then None else few n) (sym (mul-div-mul_right d k h))
    ∙ ap (λ (n : ℕ). if not ((d * u / n) * n == d * u) then None else few (d * u / n)) (sym e)

-- ticks that are coarser than the unit
pub coarser : (d u p : ℕ) → u < p → whole_ticks d (p - u) ≡ whole_ticks (d * 10 ^ u) p
coarser d u p h =
    let parts : p ≡ (p - u) + u = omega arith in
    scaled d (10 ^ (p - u)) (10 ^ u) (10 ^ p) (ap (λ (n : ℕ). 10 ^ n) parts ∙ pow-add 10 (p - u) u) (ten_positive u)

-- a time that is a whole number of ticks
pub is_whole : (d k p : ℕ) → p ≡ 10 ^ k → d % p ≡ 0 → few (d / p) ≡ whole_ticks d k
is_whole d k p e h =
    let parts : d / p * p + d % p ≡ d = div-add-mod' d p in
    let whole : d / p * p ≡ d = omega (arith, parts, h) in
    sym (cond-false (not ((d / p) * p == d)) None (few (d / p)) (ap not (eq-eqb (d / p * p) d whole)))
    ∙ ap (λ (n : ℕ). if not ((d / n) * n == d) then None else few (d / n)) e

-- a time that is none
pub is_no_whole : (d k p : ℕ) → p ≡ 10 ^ k → (d % p ≡ 0 → ⊥) → None ≡ whole_ticks d k
is_no_whole d k p e h =
    let parts : d / p * p + d % p ≡ d = div-add-mod' d p in
    sym (cond-true (not ((d / p) * p == d)) None (few (d / p)) (ap not (ne_eqb (d / p * p) d (λ f. h (omega (arith, parts, f))))))
    ∙ ap (λ (n : ℕ). if not ((d / n) * n == d) then None else few (d / n)) e

-- one value in any case
in_any_case : (b : Bool) (t : Option ℕ) → t ≡ cond b t t
in_any_case true t = refl
in_any_case false t = refl

-- a time that is too long in every precision
pub passes : (d m n k : ℕ) → n ≡ min d m → m ≤ n → 2 ^ 63 * 10 ^ 17 ≤ m → k ≤ 17 → None ≡ whole_ticks d k
passes d m n k e h top within =
    let power : 10 ^ k ≤ 10 ^ 17 = pow-le-pow_right (lit< tt) within in
    let product : 2 ^ 63 * 10 ^ k ≤ 2 ^ 63 * 10 ^ 17 = mul-le-mul_left (2 ^ 63) power in
    let long : 2 ^ 63 * 10 ^ k ≤ d = omega (arith, product, top, e, h) in
    in_any_case (not ((d / 10 ^ k) * 10 ^ k == d)) None
    ∙ ap (λ (t : Option ℕ). cond (not ((d / 10 ^ k) * 10 ^ k == d)) None t) (none_of_many (d / 10 ^ k) ((le-div_iff_mul-le (ten_positive k)).1 long))

-- ---- E52

-- one test after the other
by_tests : (a b : Bool) (n : ℕ) (at : Place) → cond (a || b) (broken_at 52 at) (Good n) ≡ unless 52 at (cond a None (cond b None (Some n)))
by_tests true b n at = refl
by_tests false true n at = refl
by_tests false false n at = refl

told : (s : Scale) (at : Place) (t : List ℕ) → ticks_in s at t ≡ unless 52 at (whole_ticks (femtoseconds t) s.precision)
told s at t =
    let n : ℕ = femtoseconds t / 10 ^ s.precision in
    by_tests (not (n * 10 ^ s.precision == femtoseconds t)) (nat_le (2 ^ 63) n) n at

-- a whole number of ticks, or none
pub told_whole : (s : Scale) (at : Place) (t : List ℕ) (n : ℕ) → Some n ≡ whole_ticks (femtoseconds t) s.precision → ticks_in s at t ≡ Good n
told_whole s at t n h = told s at t ∙ ap (unless 52 at) (sym h)

pub told_none : (s : Scale) (at : Place) (t : List ℕ) → None ≡ whole_ticks (femtoseconds t) s.precision → ticks_in s at t ≡ broken_at 52 at
told_none s at t h = told s at t ∙ ap (unless 52 at) (sym h)

-- ---- units

-- the low 64 bits
pub low_bits : (n : ℕ) → symbols_of 64 (n % 2 ^ 64) 0 ≡ symbols_of 64 n 0
low_bits n = sym (symbols_of-mod 64 n 0)
