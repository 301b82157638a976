-- Texts that are repeated, texts that are compared, and names of items.
use Rattle.std.proofs.Common.{◌≡◌, ℕ, zero, suc, ◌+◌, ◌*◌, ◌^◌, ◌<◌, ◌≤◌, Bool, true, false, List, [], ◌∷◌, ◌++◌, length, drop, get_or, refl, sym, ap, ◌∙◌, subst, arith, append_assoc, Ok, Err, cond, add-one, zero-mul, suc-mul, drop-cons}
use Rattle.std.specs.Prelude.{◌↔◌, IsTrue, ◌==◌, ◌&&◌, ◌||◌, nat_lt}
use Rattle.std.specs.Ordering.{is_lt, ordering_then, nat_cmp}
use Rattle.std.specs.Cmp.Lexicographic.{slice_cmp}
use Rattle.std.specs.declared.cmp.Ordering.{Ordering}
use Rattle.std.specs.declared.cmp.Ordering.TheVariants.{Less, Equal, Greater}
use Rattle.std.proofs.lemmas.List.{length-append, append-nil, nil_from_length}
use Rattle.std.proofs.lemmas.Bool.{and_from, and_right, eqb-true, eq-eqb, false_from_ne_true, cond-false, cond-true}
use Rattle.std.proofs.lemmas.Bool.Decides.{nat_tests}
use Rattle.sv_value.specs.declared.word.Sym.{Sym}
use Rattle.sv_value.specs.declared.val.Val.TheVariants as val
use Rattle.sv_value.specs.declared.place.FaultKind.TheVariants.{Length}
use Rattle.sv_value.specs.Vector.{Vector}
use Rattle.sv_value.specs.Containers.{texts_below}
use Rattle.sv_value.specs.Operators.{all_same, same_symbol}
use Rattle.sv_flat.specs.declared.expr.NamedItem.{NamedItem}
use Rattle.sv_flat.specs.Eval.{texts, text, same_bytes, name_of, repeated}

-- ---- copies

-- no copy of no byte has a byte
no_bytes : (n : ℕ) → texts n [] ≡ []
no_bytes zero = refl
no_bytes (suc n) = no_bytes n

pub no_texts : (n : ℕ) (t u : List ℕ) → length t ≡ 0 → u ≡ [] → text (texts n t) ≡ Ok (val.Text u)
no_texts n t u h e =
    ap (λ (s : List ℕ). text (texts n s)) (nil_from_length t h) ∙ ap text (no_bytes n) ∙ ap (λ (s : List ℕ). Ok (val.Text s)) (sym e)

-- the last copy may come first
turned : (n : ℕ) (t : List ℕ) → texts n t ++ t ≡ t ++ texts n t
turned zero t = sym (append-nil t)
turned (suc n) t = append_assoc t (texts n t) t ∙ ap (λ (u : List ℕ). t ++ u) (turned n t)

-- one copy more
pub texts_more : (n : ℕ) (t : List ℕ) → texts n t ++ t ≡ texts (n + 1) t
texts_more n t = turned n t ∙ ap (λ (m : ℕ). texts m t) (sym (add-one n))

-- how long copies are
length-texts : (n : ℕ) (t : List ℕ) → length (texts n t) ≡ n * length t
length-texts zero t = sym (zero-mul (length t))
length-texts (suc n) t =
    let e : suc n * length t ≡ n * length t + length t = suc-mul n (length t) in
    let f : length (texts n t) ≡ n * length t = length-texts n t in
    length-append t (texts n t) ∙ omega (arith, e, f)

-- a text that is too long
long_text : (t : List ℕ) → 2 ^ 16 ≤ length t → text t ≡ Err Length
long_text t h = cond-false (nat_lt (length t) (2 ^ 16)) (Ok (val.Text t)) (Err Length) (grind (arith, nat_tests))

pub too_many_texts : (n m : ℕ) (t : List ℕ) → m ≡ n * length t → 2 ^ 16 ≤ m → text (texts n t) ≡ Err Length
too_many_texts n m t e h = long_text (texts n t) (subst (λ (k : ℕ). 2 ^ 16 ≤ k) (e ∙ sym (length-texts n t)) h)

-- ---- comparisons

-- both of two tests
first_of : (a b : Bool) → (a && b) ≡ true → a ≡ true
first_of true b h = refl
first_of false b h = h

second_of : (a b : Bool) → (a && b) ≡ true → b ≡ true
second_of true b h = h
second_of false b h = cc

-- texts that the test takes for one are one
one_text : (xs ys : List ℕ) → same_bytes xs ys ≡ true → xs ≡ ys
one_text [] [] h = refl
one_text [] (y ∷ ys) h = cc
one_text (x ∷ xs) [] h = cc
one_text (x ∷ xs) (y ∷ ys) h =
    λ i. eqb-true x y (first_of (x == y) (same_bytes xs ys) h) i ∷ one_text xs ys (second_of (x == y) (same_bytes xs ys) h) i

same_text : (xs : List ℕ) → same_bytes xs xs ≡ true
same_text [] = refl
same_text (x ∷ xs) = and_from (x == x) (same_bytes xs xs) (eq-eqb x x refl) (same_text xs)

-- equal texts are one text
pub same_is : (b : Bool) (xs ys : List ℕ) → (IsTrue b ↔ (xs ≡ ys)) → b ≡ same_bytes xs ys
same_is true xs ys h = sym (subst (λ (zs : List ℕ). same_bytes xs zs ≡ true) (h.0 refl) (same_text xs))
same_is false xs ys h = sym (false_from_ne_true (same_bytes xs ys) (λ e. no (h.1 (one_text xs ys e))))
  where
    no : false ≡ true → ⊥
    no e = cc

-- the order of the first bytes, and then of the others
by_first : (p q : Bool) (r : Ordering) → is_lt (ordering_then (cond p Less (cond q Equal Greater)) r) ≡ (p || (q && is_lt r))
by_first true q r = refl
by_first false true r = refl
by_first false false r = refl

-- the order of bytes, as a comparison tells it
pub below_is : (xs ys : List ℕ) → is_lt (slice_cmp nat_cmp xs ys) ≡ texts_below xs ys
below_is [] [] = refl
below_is [] (y ∷ ys) = refl
below_is (x ∷ xs) [] = refl
below_is (x ∷ xs) (y ∷ ys) =
    by_first (nat_lt x y) (x == y) (slice_cmp nat_cmp xs ys) ∙ ap (λ (b : Bool). nat_lt x y || ((x == y) && b)) (below_is xs ys)

-- vectors of different lengths are not the same
pub other_lengths : (xs ys : List Sym) → (length xs ≡ length ys → ⊥) → false ≡ all_same xs ys
other_lengths [] [] h = absurd (h refl)
other_lengths [] (y ∷ ys) h = refl
other_lengths (x ∷ xs) [] h = refl
other_lengths (x ∷ xs) (y ∷ ys) h = sym (and_right (same_symbol x y) (all_same xs ys) (sym (other_lengths xs ys (λ e. h (ap suc e)))))

-- ---- names of items

-- an item that has the value
pub name_found : (ns : List NamedItem) (k : ℕ) (n : NamedItem) (v : Vector) → k < length ns → n ≡ get_or ns k n
    → name_of ns v ≡ name_of (drop k ns) v → all_same n.value.symbols v.symbols ≡ true → n.name ≡ name_of ns v
name_found ns k n v h at so_far same =
    sym (so_far ∙ ap (λ (ms : List NamedItem). name_of ms v) (drop-cons ns k n h ∙ ap (λ (m : NamedItem). m ∷ drop (suc k) ns) (sym at))
    ∙ cond-true (all_same n.value.symbols v.symbols) n.name (name_of (drop (suc k) ns) v) same)

-- an item that has another value
pub name_passed : (ns : List NamedItem) (k : ℕ) (n : NamedItem) (v : Vector) → k < length ns → n ≡ get_or ns k n
    → name_of ns v ≡ name_of (drop k ns) v → all_same n.value.symbols v.symbols ≡ false → name_of ns v ≡ name_of (drop (k + 1) ns) v
name_passed ns k n v h at so_far other =
    so_far ∙ ap (λ (ms : List NamedItem). name_of ms v) (drop-cons ns k n h ∙ ap (λ (m : NamedItem). m ∷ drop (suc k) ns) (sym at))
    ∙ cond-false (all_same n.value.symbols v.symbols) n.name (name_of (drop (suc k) ns) v) other
    ∙ ap (λ (m : ℕ). name_of (drop m ns) v) (sym (add-one k))

-- ---- vectors that are repeated

-- the last copy may come first
turned_copies : (n : ℕ) (xs : List Sym) → repeated n xs ++ xs ≡ xs ++ repeated n xs
turned_copies zero xs = sym (append-nil xs)
turned_copies (suc n) xs = append_assoc xs (repeated n xs) xs ∙ ap (λ (ys : List Sym). xs ++ ys) (turned_copies n xs)

-- one copy
pub one_copy : (xs : List Sym) → xs ≡ repeated 1 xs
one_copy xs = sym (append-nil xs)

-- one copy more
pub one_more_copy : (n : ℕ) (xs ys : List Sym) → ys ≡ repeated n xs → ys ++ xs ≡ repeated (n + 1) xs
one_more_copy n xs ys h = ap (λ (zs : List Sym). zs ++ xs) h ∙ turned_copies n xs ∙ ap (λ (m : ℕ). repeated m xs) (sym (add-one n))
