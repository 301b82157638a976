-- What a change of a vector tells of a part of it.
use Rattle.std.proofs.Common.{◌≡◌, ◌≢◌, ℕ, ℤ, pos, ◌+◌, ◌-◌, ◌≤◌, Bool, false, List, Option, None, Some, Ok, Err, refl, ap, sym, ◌∙◌, length, take, drop, arith}
use Rattle.std.proofs.lemmas.List.{length-drop, length-take, take_all}
use Rattle.sv_value.specs.declared.number.ObjId.{ObjId}
use Rattle.sv_value.specs.declared.place.Place.{Place}
use Rattle.sv_value.specs.declared.val.Integral.{Integral}
use Rattle.sv_value.specs.declared.val.Val.{Val}
use Rattle.sv_value.specs.declared.val.Val.TheVariants as val
use Rattle.sv_value.specs.declared.word.Sym.{Sym}
use Rattle.sv_value.specs.Vector.{Vector, extended, unsigned}
use Rattle.sv_flat.specs.declared.process.Edge.{Edge}
use Rattle.sv_flat.specs.Expr.{Expr, Literal, Select}
use Rattle.sv_flat.specs.Eval.{Valued, bits, fitted, known_index, selected, symbols_from, value_of, vector_in, with_result}
use Rattle.sv_flat.specs.State.{View}
use Rattle.sv_flat.specs.Woken.{Changed, fired, both_make, makes}
use Rattle.sv_eval.proofs.SelectLaws.{from_inside}
use Rattle.sv_eval.proofs.VectorLaws.{extended_cut, own_context}
use Rattle.sv_sense.specs.declared.transition.Transition.{Transition}
use Rattle.sv_sense.specs.Told.{BeginsAt, IsSeen, lowest_place}
use Rattle.sv_sense.proofs.EdgeLaws.{both_make_self}
use Rattle.sv_sense.proofs.TransitionLaws.{at_object, by_values, in_own_width, itself, whole}

-- ---- the index

-- a number that is written
pub written : (o : ℤ) (f : Bool) (x : Vector) (n : ℕ) (view : View) → lowest_place o f (known_index x) ≡ Some (pos n) → BeginsAt o f (value_of (Literal x None) view) n
written o f x n view h = ap (λ (y : Vector). lowest_place o f (known_index y)) (sym (own_context x (length x.symbols) x.signed refl refl)) ∙ h

-- the select begins at that place
by_place : (w : ℕ) (o : ℤ) (f : Bool) (outside : Sym) (v : Vector) (i : Option ℤ) (n : ℕ) → lowest_place o f i ≡ Some (pos n)
    → selected w o f outside v i ≡ unsigned (symbols_from outside v.symbols (pos n) w)
by_place w o f outside v None n h = absurd (cc)
by_place w o f outside v (Some i) n h = ap (λ (z : ℤ). unsigned (symbols_from outside v.symbols z w)) (cc)

by_index : (w : ℕ) (o : ℤ) (f : Bool) (outside : Sym) (x : Val) (y : Valued) (n : ℕ) → BeginsAt o f y n
    → with_result y (λ z. bits w false (selected w o f outside (vector_in x) (known_index (vector_in z))))
    ≡ bits w false (unsigned (symbols_from outside (vector_in x).symbols (pos n) w))
by_index w o f outside x (Ok y) n h = ap (bits w false) (by_place w o f outside (vector_in x) (known_index (vector_in y)) n h)
by_index w o f outside x (Err k) n h = absurd h

-- ---- a part of an object

-- its value
part_value : (w : ℕ) (o : ℤ) (f : Bool) (outside : Sym) (at : Place) (object : ObjId) (ty : Integral) (index : Expr) (n : ℕ) (view : View) → BeginsAt o f (value_of index view) n
    → value_of (Select w o f outside (whole at object ty) index) view
    ≡ bits w false (unsigned (symbols_from outside (vector_in (fitted ty.width ty.signed (view.object object 0))).symbols (pos n) w))
part_value w o f outside at object ty index n view h =
    by_index w o f outside (fitted ty.width ty.signed (view.object object 0)) (value_of index view) n h

-- of an object that has not changed
pub other_part : (t : Transition) (old new : View) → IsSeen t old new → (object : ObjId) → object.0 ≢ t.object.0
    → (w : ℕ) (o : ℤ) (f : Bool) (outside : Sym) (g : Edge) (at : Place) (ty : Integral) (index : Expr) (n : ℕ)
    → BeginsAt o f (value_of index old) n → BeginsAt o f (value_of index new) n
    → false ≡ fired g (Select w o f outside (whole at object ty) index) Changed old new
other_part t old new h object other w o f outside g at ty index n a b =
    let part : Val → Valued = λ x. bits w false (unsigned (symbols_from outside (vector_in (fitted ty.width ty.signed x)).symbols (pos n) w)) in
    let was = part_value w o f outside at object ty index n old a in
    let is = part_value w o f outside at object ty index n new b in
    let same : part (old.object object 0) ≡ part (new.object object 0) = ap part (h.others object other) in
    sym (by_values g (Select w o f outside (whole at object ty) index) old new refl
    ∙ (λ i. both_make g ((was ∙ same) i) (is i)) ∙ both_make_self g (part (new.object object 0)))

-- the symbols that lie in the vector
inside : (outside : Sym) (xs : List Sym) (n w : ℕ) → n + w ≤ length xs → symbols_from outside xs (pos n) w ≡ take w (drop n xs)
inside outside xs n w h =
    sym (from_inside outside xs n w (length xs - n) refl)
    ∙ ap (extended w outside) (take_all (length xs - n) (drop n xs) (simp length-drop (omega arith)))
    ∙ sym (extended_cut w outside (drop n xs) (simp length-drop (omega arith)))

as_many : (xs : List Sym) (n w : ℕ) → n + w ≤ length xs → length (take w (drop n xs)) ≡ w
as_many xs n w h = simp (length-take, length-drop) (omega arith)

-- of the vector of the object that has changed
part_of : (w : ℕ) (o : ℤ) (f : Bool) (outside : Sym) (at : Place) (object : ObjId) (ty : Integral) (index : Expr) (n : ℕ) (view : View) → BeginsAt o f (value_of index view) n
    → (v : Vector) → view.object object 0 ≡ val.Bits v → length v.symbols ≡ ty.width → n + w ≤ ty.width
    → value_of (Select w o f outside (whole at object ty) index) view ≡ Ok (val.Bits (unsigned (take w (drop n v.symbols))))
part_of w o f outside at object ty index n view h v is width fits =
    let low : n + w ≤ length v.symbols = omega (arith, width, fits) in
    part_value w o f outside at object ty index n view h
    ∙ ap (λ (x : Val). bits w false (unsigned (symbols_from outside (vector_in x).symbols (pos n) w))) (itself (view.object object 0) v ty.width ty.signed width is)
    ∙ ap (λ (xs : List Sym). bits w false (unsigned xs)) (inside outside v.symbols n w low)
    ∙ ap (λ (x : Vector). Ok (val.Bits x)) (in_own_width (unsigned (take w (drop n v.symbols))) w false (as_many v.symbols n w low))

pub same_part : (t : Transition) (old new : View) → IsSeen t old new → (object : ObjId) → object.0 ≡ t.object.0
    → (w : ℕ) (o : ℤ) (f : Bool) (outside : Sym) (g : Edge) (at : Place) (ty : Integral) (index : Expr) (n : ℕ)
    → BeginsAt o f (value_of index old) n → BeginsAt o f (value_of index new) n
    → length t.before.symbols ≡ ty.width → length t.after.symbols ≡ ty.width → n + w ≤ ty.width
    → makes g (val.Bits (unsigned (take w (drop n t.before.symbols)))) (val.Bits (unsigned (take w (drop n t.after.symbols))))
    ≡ fired g (Select w o f outside (whole at object ty) index) Changed old new
same_part t old new h object e w o f outside g at ty index n a b before after fits =
    let was = part_of w o f outside at object ty index n old a t.before (at_object object t.object e old.object ∙ h.before) before fits in
    let is = part_of w o f outside at object ty index n new b t.after (at_object object t.object e new.object ∙ h.after) after fits in
    sym (by_values g (Select w o f outside (whole at object ty) index) old new refl ∙ (λ i. both_make g (was i) (is i)))
