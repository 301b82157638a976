-- How operands are put behind others.
use Rattle.std.proofs.Common.{◌≡◌, ℕ, Bool, false, List, [], ◌∷◌, ◌++◌, sym, ap, ◌∙◌, append_assoc, append-nil}
use Rattle.std.specs.Prelude.{flat_map, if◌then◌else◌, Result, Ok, Err, OnOk}
use Rattle.std.proofs.lemmas.Grind.{flat_map-append}
use Rattle.sv_value.specs.declared.val.Plain.{Plain}
use Rattle.sv_flat.specs.declared.object.Bounds.{Bounds}
use Rattle.sv_flat.specs.Expr.{Expr, LocalElement}
use Rattle.sv_names.specs.Watched.{operands, is_literal, from_outside, all_elements}
use Rattle.sv_elab_watch.specs.Reading.{Added, Read}

-- nothing is read
pub added_none : (es : List Expr) → Added es es []
added_none es = sym (append-nil es)

-- nothing is read behind it
pub added_last : (a b xs : List Expr) → Added a b xs → Added a b (xs ++ [])
added_last a b xs is = is ∙ ap (λ l. a ++ l) (sym (append-nil xs))

-- some are put behind, and then others
pub added_both : (a b c xs ys : List Expr) → Added a b xs → Added b c ys → Added a c (xs ++ ys)
added_both a b c xs ys p q = q ∙ ap (λ l. l ++ ys) p ∙ append_assoc a xs ys

-- what some expressions read, and then what others read
pub read_both : (d : ℕ) (a b c xs ys : List Expr) → Read d a b xs → Read d b c ys → Read d a c (xs ++ ys)
read_both d a b c xs ys p q =
    added_both a b c (flat_map (operands d) xs) (flat_map (operands d) ys) p q
    ∙ ap (λ l. a ++ l) (sym (flat_map-append (operands d) xs ys))

-- what some expressions read, and nothing behind
pub read_only : (d : ℕ) (a b xs : List Expr) → Read d a b xs → Read d a b (xs ++ [])
read_only d a b xs is = is ∙ ap (λ l. a ++ flat_map (operands d) l) (sym (append-nil xs))

-- what is put behind in a turn is what the rest begins with
pub turn_added : (a b xs ys : List Expr) → Added a b xs → b ++ ys ≡ a ++ (xs ++ ys)
turn_added a b xs ys p = ap (λ l. l ++ ys) p ∙ append_assoc a xs ys

-- the last turn has put all behind
pub all_added : (a b xs : List Expr) → b ++ [] ≡ a ++ xs → Added a b xs
all_added a b xs is = sym (append-nil b) ∙ is

-- a turn of a loop over a list, where one item and those behind it are read so
pub turn_of : {A : Type 0} (go : List A → List Expr) (es : List Expr) (left rest : List A) (x : A) (a b : List Expr)
    → left ≡ x ∷ rest → go (x ∷ rest) ≡ es ++ go rest → Added a b es → b ++ go rest ≡ a ++ go left
turn_of go es left rest x a b all first added =
    turn_added a b es (go rest) added ∙ ap (λ l. a ++ l) (sym first ∙ ap go (sym all))

-- the same where the expressions of one item and of those behind it are read so
pub turn_read : {A : Type 0} (go : List A → List Expr) (es : List Expr) (d : ℕ) (left rest : List A) (x : A) (a b : List Expr)
    → left ≡ x ∷ rest → go (x ∷ rest) ≡ es ++ go rest → Read d a b es
    → b ++ flat_map (operands d) (go rest) ≡ a ++ flat_map (operands d) (go left)
turn_read go es d left rest x a b all first added =
    turn_added a b (flat_map (operands d) es) (flat_map (operands d) (go rest)) added
    ∙ ap (λ l. a ++ l) (sym (flat_map-append (operands d) es (go rest)))
    ∙ ap (λ xs. a ++ flat_map (operands d) xs) (sym first ∙ ap go (sym all))

-- an array in an activation, and what its index reads
pub array_read : (d u p : ℕ) (b : Bounds) (t : Plain) (i : Expr) (x y z : List Expr) → is_literal i ≡ false
    → Added x y (flat_map (from_outside d) (all_elements b (LocalElement u p b t))) → Added y z (operands d i)
    → Added x z (operands d (LocalElement u p b t i))
array_read d u p b t i x y z some array index =
    added_both x y z (flat_map (from_outside d) (all_elements b (LocalElement u p b t))) (operands d i) array index
    ∙ ap (λ (q : Bool). x ++ (if q then from_outside d (LocalElement u p b t i)
    else flat_map (from_outside d) (all_elements b (LocalElement u p b t)) ++ operands d i)) (sym some)

-- what an answer is, and what follows of it
pub ok_given : {A E : Type 0} (r : Result A E) (P Q : Type 0) → (P → Q) → OnOk r P → OnOk r Q
ok_given (Ok x) P Q go h = go h
ok_given (Err e) P Q go h = h
