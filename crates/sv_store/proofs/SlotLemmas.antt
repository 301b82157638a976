-- Places of lists, and vectors of z.
use Rattle.std.proofs.Common.{◌≡◌, ℕ, zero, suc, ◌-◌, ◌^◌, ◌<◌, ◌≤◌, length, List, [], ◌∷◌, replicate, get_or, slice_get, Some, subst, Bool, true, false, cond, refl, sym, ap, ◌∙◌, arith, slice_set}
use Rattle.std.proofs.lemmas.Nat.Bits.{bit_at_ones, bit_at-zero}
use Rattle.std.specs.Prelude.{if◌then◌else◌, ◌==◌, Result, Ok, Err, OnOk}
use Rattle.std.specs.List.{AllByRecursion}
use Rattle.std.proofs.lemmas.Bool.Decides.{nat_tests}
use Rattle.sv_value.specs.declared.val.Val.{Val}
use Rattle.sv_flat.specs.State.{no_value}
use Rattle.sv_value.specs.declared.word.Sym.TheVariants.{Zero, Z}
use Rattle.sv_value.specs.Vector.{symbols_of}
use Rattle.sv_value.proofs.Words.{replicate-symbols_of, symbol_cong}
use Rattle.sv_flat.specs.Effects.Writes.{changed_at}

-- ---- places

-- a place that is set is a changed place
pub set-changed_at : {A : Type 0} (xs : List A) (i : ℕ) (f : A → A) (x y : A) → x ≡ get_or xs i x → y ≡ f x → slice_set xs i y ≡ changed_at xs i f
set-changed_at [] i f x y is e = refl
set-changed_at (z ∷ xs) zero f x y is e = ap (λ w. w ∷ xs) (e ∙ ap f is)
set-changed_at (z ∷ xs) (suc i) f x y is e = ap (λ zs. z ∷ zs) (set-changed_at xs i f x y is e)

-- the same, whatever stood there
pub set-changed_to : {A : Type 0} (xs : List A) (i : ℕ) (y : A) → slice_set xs i y ≡ changed_at xs i (λ _. y)
set-changed_to [] i y = refl
set-changed_to (z ∷ xs) zero y = refl
set-changed_to (z ∷ xs) (suc i) y = ap (λ zs. z ∷ zs) (set-changed_to xs i y)

-- ---- words of one symbol

pub all_z-words : (w full : ℕ) → w ≤ full → symbols_of w (2 ^ full - 1) (2 ^ full - 1) ≡ replicate w Z
all_z-words w full h =
    sym (replicate-symbols_of Z w (2 ^ full - 1) (2 ^ full - 1) (λ i p. symbol_cong (sym (bit_at_ones full i (omega arith))) (sym (bit_at_ones full i (omega arith)))))

pub all_zero-words : (w : ℕ) → symbols_of w 0 0 ≡ replicate w Zero
all_zero-words w = sym (replicate-symbols_of Zero w 0 0 (λ i p. symbol_cong (sym (bit_at-zero i)) (sym (bit_at-zero i))))

-- ---- changed places

-- behind the end nothing changes
pub changed_at-past : {A : Type 0} (xs : List A) (i : ℕ) (f : A → A) → length xs ≤ i → xs ≡ changed_at xs i f
changed_at-past [] i f h = refl
changed_at-past (x ∷ xs) zero f h = absurd (omega arith)
changed_at-past (x ∷ xs) (suc i) f h = ap (λ ys. x ∷ ys) (changed_at-past xs i f (omega arith))

-- a value that stays
pub changed_at-same : {A : Type 0} (xs : List A) (i : ℕ) (f : A → A) (x : A) → x ≡ get_or xs i x → f x ≡ x → xs ≡ changed_at xs i f
changed_at-same [] i f x is e = refl
changed_at-same (y ∷ xs) zero f x is e = ap (λ z. z ∷ xs) (sym is ∙ sym e ∙ ap f is)
changed_at-same (y ∷ xs) (suc i) f x is e = ap (λ ys. y ∷ ys) (changed_at-same xs i f x is e)

-- two changes that agree where they are made
pub changed_at-agree : {A : Type 0} (xs : List A) (i : ℕ) (f g : A → A) (x : A) → x ≡ get_or xs i x → f x ≡ g x → changed_at xs i f ≡ changed_at xs i g
changed_at-agree [] i f g x is e = refl
changed_at-agree (y ∷ xs) zero f g x is e = ap (λ z. z ∷ xs) (sym (ap f is) ∙ e ∙ ap g is)
changed_at-agree (y ∷ xs) (suc i) f g x is e = ap (λ ys. y ∷ ys) (changed_at-agree xs i f g x is e)

-- any other place
pub changed_at-other : {A : Type 0} (xs : List A) (i j : ℕ) (f : A → A) (d : A) → (j ≡ i → ⊥) → get_or (changed_at xs i f) j d ≡ get_or xs j d
changed_at-other [] i j f d h = refl
changed_at-other (x ∷ xs) zero zero f d h = absurd (h refl)
changed_at-other (x ∷ xs) zero (suc j) f d h = refl
changed_at-other (x ∷ xs) (suc i) zero f d h = refl
changed_at-other (x ∷ xs) (suc i) (suc j) f d h = changed_at-other xs i j f d (λ e. h (ap suc e))

-- the place itself
pub changed_at-at : {A : Type 0} (xs : List A) (i : ℕ) (y d : A) → i < length xs → get_or (changed_at xs i (λ _. y)) i d ≡ y
changed_at-at [] i y d h = absurd (omega arith)
changed_at-at (x ∷ xs) zero y d h = refl
changed_at-at (x ∷ xs) (suc i) y d h = changed_at-at xs i y d (omega arith)

-- ---- what holds for each item

-- it holds for the item at a place
pub all_at : {A : Type 0} (P : A → Type 0) (xs : List A) (i : ℕ) (v : A) → slice_get xs i ≡ Some v → AllByRecursion P xs → P v
all_at P [] i v e h = absurd (cc)
all_at P (x ∷ xs) zero v e h = let same : x ≡ v = cc in subst P same h.0
all_at P (x ∷ xs) (suc i) v e h = all_at P xs i v e h.1

pub length-changed_at : {A : Type 0} (xs : List A) (i : ℕ) (f : A → A) → length (changed_at xs i f) ≡ length xs
length-changed_at [] i f = refl
length-changed_at (x ∷ xs) zero f = refl
length-changed_at (x ∷ xs) (suc i) f = ap suc (length-changed_at xs i f)

-- ---- what was overwritten

-- a value that is written over the same one
pub put_same : (xs : List Val) (i : ℕ) (y : Val) (j : ℕ) → get_or xs i no_value ≡ y → get_or (changed_at xs i (λ _. y)) j no_value ≡ get_or xs j no_value
put_same [] i y j e = refl
put_same (x ∷ xs) zero y zero e = sym e
put_same (x ∷ xs) zero y (suc j) e = refl
put_same (x ∷ xs) (suc i) y zero e = refl
put_same (x ∷ xs) (suc i) y (suc j) e = put_same xs i y j e

by_test : {A : Type 0} (b : Bool) (x y z : A) → (b ≡ true → x ≡ y) → (b ≡ false → x ≡ z) → x ≡ cond b y z
by_test true x y z p q = p refl
by_test false x y z p q = q refl

-- the values before a write, from those after it
pub put_over : (xs : List Val) (i : ℕ) (y : Val) (j : ℕ) → get_or xs j no_value ≡ (if j == i then get_or xs i no_value else get_or (changed_at xs i (λ _. y)) j no_value)
put_over xs i y j =
    by_test (j == i) (get_or xs j no_value) (get_or xs i no_value) (get_or (changed_at xs i (λ _. y)) j no_value)
    (λ e. let same : j ≡ i = grind (arith, nat_tests) in ap (λ (k : ℕ). get_or xs k no_value) same)
    (λ e. sym (changed_at-other xs i j (λ _. y) no_value (λ same. grind (arith, nat_tests))))

-- what follows for an `Ok`
pub if_ok : {T E : Type 0} {P Q : Type 0} (r : Result T E) → (P → Q) → OnOk r P → OnOk r Q
if_ok (Ok x) f h = f h
if_ok (Err e) f h = tt

-- an item that is there, whatever stands behind the end
pub get_or-any : {A : Type 0} (xs : List A) (i : ℕ) (x d : A) → i < length xs → x ≡ get_or xs i x → x ≡ get_or xs i d
get_or-any [] i x d h e = absurd (omega arith)
get_or-any (y ∷ xs) zero x d h e = e
get_or-any (y ∷ xs) (suc i) x d h e = get_or-any xs i x d (omega arith) e
