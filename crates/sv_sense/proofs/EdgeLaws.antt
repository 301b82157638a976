-- Which values make an edge.
use Rattle.std.proofs.Common.{◌≡◌, ℕ, Bool, true, false, List, [], ◌∷◌, Some, Ok, Err, Option, None, refl, ap, sym, ◌∙◌, subst}
use Rattle.std.specs.Prelude.{◌↔◌, IsTrue, ◌&&◌, not, slice_get}
use Rattle.std.proofs.lemmas.Bool.{eq-eqb, false_from_ne_true, and_from}
use Rattle.sv_value.specs.declared.number.Key.{Key}
use Rattle.sv_value.specs.declared.place.FaultKind.{FaultKind}
use Rattle.sv_value.specs.declared.word.Sym.{Sym}
use Rattle.sv_value.specs.declared.word.Sym.TheVariants.{Zero, One, X, Z}
use Rattle.sv_value.specs.declared.val.Val.{Val}
use Rattle.sv_value.specs.declared.val.Val.TheVariants as val
use Rattle.sv_value.specs.Operators.{all_same, same_symbol, is_true, one_bit, bit_of}
use Rattle.sv_value.specs.Vector.{Vector}
use Rattle.sv_flat.specs.declared.process.Edge.{Edge}
use Rattle.sv_flat.specs.declared.process.Edge.TheVariants as edge
use Rattle.sv_flat.specs.Eval.{Valued, same_reference, same_bytes}
use Rattle.sv_flat.specs.Woken.{both_make, makes, same_values, least_symbol, rises, falls}

-- ---- tests

-- a test as a vector is true where it holds
pub test_is : (b : Bool) → is_true (one_bit (bit_of b)) ≡ b
test_is true = refl
test_is false = refl

pub same_texts : (a b : List ℕ) → same_bytes a b ≡ same_values (val.Text a) (val.Text b)
same_texts a b = sym (test_is (same_bytes a b))

-- ---- the least bit

pub least_is : (v : Vector) (s : Sym) → slice_get v.symbols 0 ≡ Some s → s ≡ least_symbol (val.Bits v)
least_is v s e = by_list v.symbols e
  where
    by_list : (xs : List Sym) → slice_get xs 0 ≡ Some s → s ≡ least_symbol (val.Bits (record { signed = false; symbols = xs }))
    by_list [] e = cc
    by_list (x ∷ xs) e = cc

-- ---- equal symbols

same_symbol_is : (s t : Sym) → same_symbol s t ≡ true → s ≡ t
same_symbol_is Zero Zero h = refl
same_symbol_is One One h = refl
same_symbol_is X X h = refl
same_symbol_is Z Z h = refl
same_symbol_is s t h = absurd (cc)

same_self : (s : Sym) → same_symbol s s ≡ true
same_self Zero = refl
same_self One = refl
same_self X = refl
same_self Z = refl

pub all_same_self : (xs : List Sym) → all_same xs xs ≡ true
all_same_self [] = refl
all_same_self (s ∷ xs) = and_from (same_symbol s s) (all_same xs xs) (same_self s) (all_same_self xs)

all_same_is : (xs ys : List Sym) → all_same xs ys ≡ true → xs ≡ ys
all_same_is [] [] h = refl
all_same_is (x ∷ xs) (y ∷ ys) h = by_first (same_symbol x y) refl h (all_same_is xs ys)
  where
    by_first : (b : Bool) → same_symbol x y ≡ b → (b && all_same xs ys) ≡ true → (all_same xs ys ≡ true → xs ≡ ys) → x ∷ xs ≡ y ∷ ys
    by_first true e k rest = λ i. same_symbol_is x y e i ∷ rest k i
    by_first false e k rest = absurd (cc)
all_same_is [] (y ∷ ys) h = absurd (cc)
all_same_is (x ∷ xs) [] h = absurd (cc)

-- by a test of equal lists
pub same_symbols : (b : Bool) (xs ys : List Sym) → (IsTrue b ↔ (xs ≡ ys)) → b ≡ all_same xs ys
same_symbols true xs ys h = sym (subst (λ (zs : List Sym). all_same xs zs ≡ true) (h.0 refl) (all_same_self xs))
same_symbols false xs ys h = sym (false_from_ne_true (all_same xs ys) (λ e. differ (h.1 (all_same_is xs ys e))))
  where
    differ : false ≡ true → ⊥
    differ e = cc

-- ---- a value and the same value make no edge

same_bytes_self : (xs : List ℕ) → same_bytes xs xs ≡ true
same_bytes_self [] = refl
same_bytes_self (x ∷ xs) = and_from _ (same_bytes xs xs) (eq-eqb x x refl) (same_bytes_self xs)

same_reference_self : (k : Option Key) → same_reference k k ≡ true
same_reference_self None = refl
same_reference_self (Some k) = eq-eqb k.0 k.0 refl

same_values_self : (x : Val) → same_values x x ≡ true
same_values_self (val.Bits v) = all_same_self v.symbols
same_values_self (val.Text t) = test_is (same_bytes t t) ∙ same_bytes_self t
same_values_self (val.Object k) = test_is (same_reference k k) ∙ same_reference_self k
same_values_self (val.Event k) = test_is (same_reference (Some k) (Some k)) ∙ same_reference_self (Some k)

rises_self : (s : Sym) → rises s s ≡ false
rises_self Zero = refl
rises_self One = refl
rises_self X = refl
rises_self Z = refl

falls_self : (s : Sym) → falls s s ≡ false
falls_self Zero = refl
falls_self One = refl
falls_self X = refl
falls_self Z = refl

makes_self : (g : Edge) (x : Val) → makes g x x ≡ false
makes_self edge.Change x = ap not (same_values_self x)
makes_self edge.Posedge x = rises_self (least_symbol x)
makes_self edge.Negedge x = falls_self (least_symbol x)
makes_self edge.Trigger x = refl

-- a value, or a fault, and the same again
pub both_make_self : (g : Edge) (x : Valued) → both_make g x x ≡ false
both_make_self g (Ok x) = makes_self g x
both_make_self g (Err k) = refl

-- ---- values after which there is no edge

rises_to_zero : (s : Sym) → rises s Zero ≡ false
rises_to_zero Zero = refl
rises_to_zero One = refl
rises_to_zero X = refl
rises_to_zero Z = refl

falls_to_one : (s : Sym) → falls s One ≡ false
falls_to_one Zero = refl
falls_to_one One = refl
falls_to_one X = refl
falls_to_one Z = refl

pub never_rises : (t : Valued) (x : Val) → least_symbol x ≡ Zero → both_make edge.Posedge t (Ok x) ≡ false
never_rises (Ok y) x h = ap (rises (least_symbol y)) h ∙ rises_to_zero (least_symbol y)
never_rises (Err k) x h = refl

pub never_falls : (t : Valued) (x : Val) → least_symbol x ≡ One → both_make edge.Negedge t (Ok x) ≡ false
never_falls (Ok y) x h = ap (falls (least_symbol y)) h ∙ falls_to_one (least_symbol y)
never_falls (Err k) x h = refl

pub never_faults : (g : Edge) (t : Valued) (k : FaultKind) → both_make g t (Err k) ≡ false
never_faults g (Ok y) k = refl
never_faults g (Err j) k = refl
