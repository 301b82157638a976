-- What is printed, one part after another.
use Rattle.std.proofs.Common.{ℕ, zero, suc, ◌≡◌, ◌≤◌, Bool, true, false, List, [], ◌∷◌, length, Option, Some, None, refl, sym, ap, subst, ◌∙◌, append_assoc, append-nil, arith}
use Rattle.std.specs.Prelude.{if◌then◌else◌}
use Rattle.sv_value.specs.declared.place.Place.{Place}
use Rattle.sv_value.specs.declared.operator.Piece.{Piece}
use Rattle.sv_value.specs.declared.operator.Piece.TheVariants as piece
use Rattle.sv_names.specs.declared.argument.Arg.{Arg}
use Rattle.sv_names.specs.declared.checked.Fault.{Fault}
use Rattle.sv_names.specs.declared.checked.Checked.{Checked}
use Rattle.sv_names.specs.declared.checked.Checked.TheVariants.{Good, Broken}
use Rattle.sv_names.specs.Checked.{comes_before, broken_at}
use Rattle.sv_names.specs.Formats.{Printed, and_then, filled, rest_after, by_itself, format_of_arg, shown_first, printed, all_printed}
use Rattle.sv_names.proofs.Earlier.{earlier_assoc}
use Rattle.sv_elab_print.specs.Printing.{part_filled, left_behind, shown_alone, behind_shown}

-- ---- how it is grouped

pub then_grouped : (a b c : Checked Printed) → and_then (and_then a b) c ≡ and_then a (and_then b c)
then_grouped (Good p) (Good q) (Good r) = λ i. Good (append_assoc p.0 q.0 r.0 i, append_assoc p.1 q.1 r.1 i)
then_grouped (Good p) (Good q) (Broken h) = refl
then_grouped (Good p) (Broken g) (Good r) = refl
then_grouped (Good p) (Broken g) (Broken h) = refl
then_grouped (Broken f) (Good q) (Good r) = refl
then_grouped (Broken f) (Good q) (Broken h) = refl
then_grouped (Broken f) (Broken g) (Good r) = refl
then_grouped (Broken f) (Broken g) (Broken h) = ap Broken (earlier_assoc f g h)

-- nothing stands behind
pub then_last : (a : Checked Printed) → and_then a (Good ([], [])) ≡ a
then_last (Good p) = λ i. Good (append-nil p.0 i, append-nil p.1 i)
then_last (Broken f) = refl

-- nothing stands before
pub then_first : (a : Checked Printed) → and_then (Good ([], [])) a ≡ a
then_first (Good p) = refl
then_first (Broken f) = refl

-- ---- the parts of a format

-- one fault twice
one_of_two : (b : Bool) (f : Fault) → (if b then f else f) ≡ f
one_of_two true f = refl
one_of_two false f = refl

-- behind a field for which no argument is left nothing breaks an earlier rule
none_left : (at : Place) (ss : List Piece) → and_then (broken_at 50 at) (filled at ss []) ≡ broken_at 50 at
none_left at [] = refl
none_left at (piece.Plain w ∷ ss) =
    sym (then_grouped (broken_at 50 at) (Good (piece.Plain w ∷ [], [])) (filled at ss [])) ∙ none_left at ss
none_left at (piece.Field f p ∷ ss) =
    let fault : Fault = record { at = at; rule = 50 } in ap Broken (one_of_two (comes_before fault fault) fault)

-- one part, and those behind it
part_first : (at : Place) (s : Piece) (ss : List Piece) (args : List Arg)
    → and_then (part_filled at s args) (filled at ss (left_behind s args)) ≡ filled at (s ∷ ss) args
part_first at (piece.Plain w) ss args = refl
part_first at (piece.Field f p) ss [] = none_left at ss
part_first at (piece.Field f p) ss (a ∷ args) = refl

none_rest : (ss : List Piece) → rest_after ss [] ≡ []
none_rest [] = refl
none_rest (piece.Plain w ∷ ss) = none_rest ss
none_rest (piece.Field f p ∷ ss) = refl

-- what one part and those behind it leave
rest_first : (s : Piece) (ss : List Piece) (args : List Arg) → rest_after ss (left_behind s args) ≡ rest_after (s ∷ ss) args
rest_first (piece.Plain w) ss args = refl
rest_first (piece.Field f p) ss [] = none_rest ss
rest_first (piece.Field f p) ss (a ∷ args) = refl

pub rest_step : (s : Piece) (ss : List Piece) (args left : List Arg) → left ≡ left_behind s args → rest_after ss left ≡ rest_after (s ∷ ss) args
rest_step s ss args left l = ap (rest_after ss) l ∙ rest_first s ss args

-- one more part behind what is printed
pub part_step : (at : Place) (c done : Checked Printed) (s : Piece) (ss : List Piece) (args left : List Arg)
    → c ≡ and_then done (part_filled at s args) → left ≡ left_behind s args
    → and_then c (filled at ss left) ≡ and_then done (filled at (s ∷ ss) args)
part_step at c done s ss args left h l =
    (λ i. and_then (h i) (filled at ss (l i)))
    ∙ then_grouped done (part_filled at s args) (filled at ss (left_behind s args))
    ∙ ap (and_then done) (part_first at s ss args)

-- ---- arguments that no field takes

rest_shorter : (ss : List Piece) (args : List Arg) → length (rest_after ss args) ≤ length args
rest_shorter [] args = omega arith
rest_shorter (piece.Plain w ∷ ss) args = rest_shorter ss args
rest_shorter (piece.Field f p ∷ ss) [] = omega arith
rest_shorter (piece.Field f p ∷ ss) (a ∷ args) = let shorter : length (rest_after ss args) ≤ length args = rest_shorter ss args in omega (arith, shorter)

-- only fewer arguments follow
shown_same : (a : Arg) (args : List Arg) (f : Option (Option (List Piece))) (go to : List Arg → Checked Printed)
    → ((rest : List Arg) → length rest ≤ length args → go rest ≡ to rest) → shown_first a args f go ≡ shown_first a args f to
shown_same a args None go to h = ap (and_then (by_itself a)) (h args (omega arith))
shown_same a args (Some None) go to h = ap (and_then (broken_at 50 a.at)) (h args (omega arith))
shown_same a args (Some (Some ss)) go to h = ap (and_then (filled a.at ss args)) (h (rest_after ss args) (rest_shorter ss args))

-- as many steps as there are arguments are enough
enough : (k m : ℕ) (args : List Arg) → length args ≤ k → length args ≤ m → printed k args ≡ printed m args
enough zero zero [] h l = refl
enough zero (suc m) [] h l = refl
enough (suc k) zero [] h l = refl
enough (suc k) (suc m) [] h l = refl
enough zero m (a ∷ args) h l = absurd (omega (arith, h))
enough (suc k) zero (a ∷ args) h l = absurd (omega (arith, l))
enough (suc k) (suc m) (a ∷ args) h l =
    shown_same a args (format_of_arg a) (printed k) (printed m)
    (λ rest s. enough k m rest (omega (arith, s, h)) (omega (arith, s, l)))

shown_is : (a : Arg) (args : List Arg) (f : Option (Option (List Piece))) (go : List Arg → Checked Printed)
    → shown_first a args f go ≡ and_then (shown_alone a args f) (go (behind_shown args f))
shown_is a args None go = refl
shown_is a args (Some None) go = refl
shown_is a args (Some (Some ss)) go = refl

-- one argument, and those behind it
one_shown : (a : Arg) (args : List Arg)
    → and_then (shown_alone a args (format_of_arg a)) (all_printed (behind_shown args (format_of_arg a))) ≡ all_printed (a ∷ args)
one_shown a args =
    sym (shown_is a args (format_of_arg a) all_printed)
    ∙ shown_same a args (format_of_arg a) all_printed (printed (length args))
    (λ rest s. enough (length rest) (length args) rest (omega arith) s)

pub shown_step : (c done : Checked Printed) (a : Arg) (args left : List Arg) (f : Option (Option (List Piece))) → f ≡ format_of_arg a
    → c ≡ and_then done (shown_alone a args f) → left ≡ behind_shown args f
    → and_then c (all_printed left) ≡ and_then done (all_printed (a ∷ args))
shown_step c done a args left f e h l =
    let own : Option (Option (List Piece)) = format_of_arg a in
    (λ i. and_then ((h ∙ ap (λ (g : Option (Option (List Piece))). and_then done (shown_alone a args g)) e) i) (all_printed ((l ∙ ap (behind_shown args) e) i)))
    ∙ then_grouped done (shown_alone a args own) (all_printed (behind_shown args own))
    ∙ ap (and_then done) (one_shown a args)

-- none of the arguments behind it is new
shown_shorter : (args : List Arg) (f : Option (Option (List Piece))) → length (behind_shown args f) ≤ length args
shown_shorter args None = omega arith
shown_shorter args (Some None) = omega arith
shown_shorter args (Some (Some ss)) = rest_shorter ss args

pub shown_fewer : (args left : List Arg) (f : Option (Option (List Piece))) → left ≡ behind_shown args f → length left ≤ length args
shown_fewer args left f l = subst (λ (as' : List Arg). length as' ≤ length args) (sym l) (shown_shorter args f)
