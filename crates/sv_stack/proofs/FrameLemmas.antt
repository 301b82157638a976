-- What a stack stands for, by its first entry.
use Rattle.std.proofs.Common.{ℕ, ◌≡◌, ◌+◌, ◌-◌, ◌<◌, zero, suc, List, [], ◌∷◌, ◌++◌, Option, None, Some, true, false, refl, ap, subst, sym, ◌∙◌, arith, length, drop, map, reverse, length-append, inl, inr}
use Rattle.std.specs.Prelude.{slice_get, nat_lt, IfSome, IfNone}
use Rattle.std.proofs.lemmas.List.{append-nil, get_or_push, reverse-append, drop_more}
use Rattle.std.proofs.lemmas.Bool.Decides.{nat_tests}
use Rattle.std.proofs.lemmas.Option.{slice_get-get_or, slice_get_cases}
use Rattle.sv_flat.specs.declared.design.Parts.{Parts}
use Rattle.sv_value.specs.declared.number.RoutineId.{RoutineId}
use Rattle.sv_value.specs.declared.place.Place.{Place}
use Rattle.sv_value.specs.declared.val.Val.{Val}
use Rattle.sv_flat.specs.declared.call.Argument.{Argument}
use Rattle.sv_flat.specs.declared.call.Call.{Call}
use Rattle.sv_flat.specs.declared.call.CallForm.{CallForm}
use Rattle.sv_flat.specs.declared.call.CallForm.TheVariants as call
use Rattle.sv_flat.specs.declared.class.Subroutine.{Subroutine}
use Rattle.sv_flat.specs.declared.stmt.Stmt.{Stmt}
use Rattle.sv_flat.specs.declared.stmt.Form.{Form}
use Rattle.sv_flat.specs.declared.stmt.Form.TheVariants as form
use Rattle.sv_flat.specs.State.{Name}
use Rattle.sv_flat.specs.Process.{Todo, Turn, Turns, Walk_elements, Put, Start_children, body_in, Do, Leave, routine_of}
use Rattle.sv_built.specs.declared.position.Position.{Position}
use Rattle.sv_built.specs.Positions.{body_of, stmt_at}
use Rattle.sv_stack.specs.declared.frames.Frame.{Frame}
use Rattle.sv_stack.specs.declared.frames.Frame.TheVariants as frame
use Rattle.sv_stack.specs.Calls.{call_in, called_at, end_at, end_of_call, end_of_form, end_of_routine, return_of}
use Rattle.sv_stack.specs.Frames.{to_do, rest_at, turn_at, turns_of, turns_at, elements_at, put_of, put_at, children_of, children_at, todos_in, todos_of, is_more, IsSettled, IsFirst}

some_same : {a b : Frame} → Some a ≡ Some b → a ≡ b
some_same h = cc

-- a list that is not empty has a last element
pub last_of : (x : Frame) (xs : List Frame) → (front : List Frame) × (last : Frame) × (x ∷ xs ≡ front ++ last ∷ [])
last_of x [] = ([], x, refl)
last_of x (y ∷ ys) = let r = last_of y ys in (x ∷ r.0, r.1, ap (λ u. x ∷ u) r.2)

slice_get-last : (fs : List Frame) (f : Frame) → slice_get (fs ++ f ∷ []) (length (fs ++ f ∷ []) - 1) ≡ Some f
slice_get-last fs f =
    let n : length (fs ++ f ∷ []) ≡ length fs + 1 = length-append fs (f ∷ []) in
    let k : length (fs ++ f ∷ []) - 1 ≡ length fs = omega arith in
    ap (slice_get (fs ++ f ∷ [])) k ∙ slice_get-get_or (fs ++ f ∷ []) (length fs) f (omega arith) ∙ ap Some (get_or_push fs f f (length fs) refl)

-- the last entry comes first in what a stack stands for
pub last_first : (xs : List Frame) (f : Frame) → slice_get xs (length xs - 1) ≡ Some f → reverse xs ≡ f ∷ drop 1 (reverse xs)
last_first [] f h = cc
last_first (x ∷ xs) f h =
    let l = last_of x xs in
    let same : l.1 ≡ f = some_same (sym (slice_get-last l.0 l.1) ∙ ap (λ u. slice_get u (length u - 1)) (sym l.2) ∙ h) in
    let split : x ∷ xs ≡ l.0 ++ f ∷ [] = l.2 ∙ ap (λ u. l.0 ++ u ∷ []) same in
    subst (λ u. reverse u ≡ f ∷ drop 1 (reverse u)) (sym split) (pushed l.0 f)
  where
    pushed : (fs : List Frame) (f : Frame) → reverse (fs ++ f ∷ []) ≡ f ∷ drop 1 (reverse (fs ++ f ∷ []))
    pushed fs f = let e : reverse (fs ++ f ∷ []) ≡ f ∷ reverse fs = reverse-append fs (f ∷ []) in e ∙ ap (λ u. f ∷ drop 1 u) (sym e)

-- what was pushed comes first
pub push_first : (xs : List Frame) (f : Frame) → reverse (xs ++ f ∷ []) ≡ f ∷ reverse xs
push_first xs f = reverse-append xs (f ∷ [])

no_first : (f : Frame) (us : List Frame) → [] ≡ f ∷ us → ⊥
no_first f us h = cc

first_same : {a b : Frame} {us vs : List Frame} → a ∷ us ≡ b ∷ vs → a ≡ b
first_same h = cc

-- an entry of which nothing is left may go
pub popped_same : (d : Parts) (xs ys : List Frame) (o : Option Frame) (top : Frame) → xs ≡ top ∷ drop 1 xs → IfSome o (λ f. xs ≡ f ∷ ys)
    → IfNone o ((xs ≡ []) × (ys ≡ [])) → is_more (todos_in d top) ≡ false → todos_of d ys ≡ todos_of d xs
popped_same d xs ys None top e some none done = absurd (no_first top (drop 1 xs) (sym none.0 ∙ e))
popped_same d xs ys (Some f) top e some none done =
    let same : f ≡ top = first_same (sym some ∙ e) in
    let gone : todos_in d f ≡ [] = nothing (todos_in d f) (ap (λ u. is_more (todos_in d u)) same ∙ done) in
    sym (ap (todos_of d) some ∙ ap (λ u. u ++ todos_of d ys) gone)
  where
    nothing : (ts : List Todo) → is_more ts ≡ false → ts ≡ []
    nothing [] h = refl
    nothing (t ∷ ts) h = cc

-- where there is a first entry, fewer are left without it
pub popped_fewer : (xs ys : List Frame) (o : Option Frame) (top : Frame) → xs ≡ top ∷ drop 1 xs → IfNone o ((xs ≡ []) × (ys ≡ []))
    → IfSome o (λ f. length ys < length xs) → length ys < length xs
popped_fewer xs ys None top e none fewer = absurd (no_first top (drop 1 xs) (sym none.0 ∙ e))
popped_fewer xs ys (Some f) top e none fewer = fewer

-- something is left of the first entry
pub settled_first : (d : Parts) (xs : List Frame) (f : Frame) → xs ≡ f ∷ drop 1 xs → is_more (todos_in d f) ≡ true → IsSettled d xs
settled_first d xs f e h = subst (IsSettled d) (sym e) h

pub settled_none : (d : Parts) (xs : List Frame) → xs ≡ [] → IsSettled d xs
settled_none d xs e = subst (IsSettled d) (sym e) tt

-- ---- what comes first

-- whether statements are left from a place on
pub more_rest : (n : ℕ) (xs : List Stmt) (scope : Option Name) → nat_lt n (length xs) ≡ is_more (map (to_do scope) (drop n xs))
more_rest n [] scope = none_left n
  where
    none_left : (n : ℕ) → nat_lt n 0 ≡ is_more (map (to_do scope) (drop n []))
    none_left zero = refl
    none_left (suc n) = grind (arith, nat_tests)
more_rest zero (x ∷ xs) scope = first_is (length xs)
  where
    first_is : (n : ℕ) → nat_lt 0 (suc n) ≡ true
    first_is n = grind (arith, nat_tests)
more_rest (suc n) (x ∷ xs) scope = one_less n (length xs) ∙ more_rest n xs scope
  where
    one_less : (n m : ℕ) → nat_lt (suc n) (suc m) ≡ nat_lt n m
    one_less n m = grind (arith, nat_tests)

-- the statement at a place comes first of those from there on
stmts_from : (n : ℕ) (xs : List Stmt) (s : Stmt) → slice_get xs n ≡ Some s → drop n xs ≡ s ∷ drop (n + 1) xs
stmts_from n xs s g =
    elim (slice_get_cases xs n).1 [
      | inl w ↦ let e : w.0 ≡ s = stmt_same (sym w.2 ∙ g) in drop_more xs n w.0 w.1 ∙ ap (λ u. u ∷ drop (n + 1) xs) (w.3 ∙ e)
      | inr w ↦ absurd (no_stmt (sym w.1 ∙ g))
    ]
  where
    stmt_same : {a b : Stmt} → Some a ≡ Some b → a ≡ b
    stmt_same h = cc

    no_stmt : {b : Stmt} → None ≡ Some b → ⊥
    no_stmt h = cc

-- what comes first of all comes first of what is left
first_of_all : (ts us : List Todo) (t : Todo) → ts ≡ t ∷ us → (vs : List Todo) → ts ++ vs ≡ t ∷ drop 1 (ts ++ vs)
first_of_all ts us t e vs = subst (λ u. u ++ vs ≡ t ∷ drop 1 (u ++ vs)) (sym e) refl

-- the same by the entry that comes first
by_entry : (d : Parts) (xs : List Frame) (f : Frame) (t : Todo) (us : List Todo) → xs ≡ f ∷ drop 1 xs → todos_in d f ≡ t ∷ us
    → todos_of d xs ≡ t ∷ drop 1 (todos_of d xs)
by_entry d xs f t us g e =
    subst (λ u. todos_of d u ≡ t ∷ drop 1 (todos_of d u)) (sym g) (first_of_all (todos_in d f) us t e (todos_of d (drop 1 xs)))

-- the end of a call, by what is called
pub end_is : (d : Parts) (p : Position) (n : Option ℕ) (s : Stmt) (c : Call) (r : RoutineId) (as' : List Argument) (u : Subroutine) (callee caller : Option Name)
    → stmt_at d p ≡ Some s → call_in s n ≡ Some c → c.form ≡ call.Routine r None as' → (routine_of d r).subroutine ≡ Some u
    → end_at d (stmt_at d p) n callee caller ≡ Leave s.at (return_of u as' c.result callee caller) ∷ []
end_is d p n s c r as' u callee caller at number is found =
    ap (λ o. end_at d o n callee caller) at ∙ ap (λ o. end_of_call d s.at o callee caller) number
    ∙ ap (λ f. end_of_form d s.at c.result f callee caller) is ∙ ap (λ o. end_of_routine s.at c.result as' callee caller o) found

-- the first entry comes first
pub first_entry : (d : Parts) (xs : List Frame) (f : Frame) → xs ≡ f ∷ drop 1 xs → IsFirst d f (todos_of d xs)
first_entry d xs (frame.Rest p scope) g = λ s at.
    by_entry d xs (frame.Rest p scope) (to_do scope s) (map (to_do scope) (drop (p.place + 1) (body_of d p.routine))) g
    (ap (map (to_do scope)) (stmts_from p.place (body_of d p.routine) s at))
first_entry d xs (frame.Loop p scope) g = λ s at. by_entry d xs (frame.Loop p scope) (Turn s scope) [] g (ap (λ o. turn_at o scope) at)
first_entry d xs (frame.Turns p n scope) g = λ s e body at is.
    by_entry d xs (frame.Turns p n scope) (Turns s.at n body scope) [] g (ap (λ o. turns_at o n scope) at ∙ ap (λ f. turns_of s.at f n scope) is)
first_entry d xs (frame.Elements p n scope) g = λ s at. by_entry d xs (frame.Elements p n scope) (Walk_elements s n scope) [] g (ap (λ o. elements_at o n scope) at)
first_entry d xs (frame.Put p x scope) g = λ s to e delay t at is.
    by_entry d xs (frame.Put p x scope) (Put s.at to x scope) [] g (ap (λ o. put_at o x scope) at ∙ ap (λ f. put_of s.at f x scope) is)
first_entry d xs (frame.Children p scope) g = λ s vs initializers children join at is.
    by_entry d xs (frame.Children p scope) (Start_children s.at children join scope) [] g (ap (λ o. children_at o scope) at ∙ ap (λ f. children_of s.at f scope) is)
first_entry d xs (frame.Called p n outer hidden) g = λ s at.
    by_entry d xs (frame.Called p n outer hidden) (Do s (drop n s.calls) outer hidden) [] g (ap (λ o. called_at o n outer hidden) at)
first_entry d xs (frame.Leave p n callee caller) g = λ s c r as' u at number is found.
    by_entry d xs (frame.Leave p n callee caller) (Leave s.at (return_of u as' c.result callee caller)) [] g
    (end_is d p n s c r as' u callee caller at number is found)

-- where there is no entry
pub no_entry : (xs : List Frame) → length xs ≡ 0 → reverse xs ≡ []
no_entry [] h = refl
no_entry (x ∷ xs) h = absurd (omega arith)

-- ---- what is left after it

-- an entry of one thing
left_one : (d : Parts) (xs ys : List Frame) (f : Frame) → xs ≡ f ∷ ys → ((ts : List Todo) → ts ≡ drop 1 (todos_in d f ++ ts))
    → todos_of d ys ≡ drop 1 (todos_of d xs)
left_one d xs ys f e one = one (todos_of d ys) ∙ sym (ap (λ (u : List Frame). drop 1 (todos_of d u)) e)

-- the entry that comes first has something left
settled_top : (d : Parts) (xs ys : List Frame) (f : Frame) → xs ≡ f ∷ ys → IsSettled d xs → is_more (todos_in d f) ≡ true
settled_top d xs ys f e h = subst (IsSettled d) e h

-- the statements of a routine, from the next place on
pub left_rest : (d : Parts) (xs ys : List Frame) (p : Position) (scope : Option Name) → xs ≡ frame.Rest p scope ∷ ys → IsSettled d xs
    → todos_of d (frame.Rest (record { routine = p.routine; place = p.place + 1 }) scope ∷ ys) ≡ drop 1 (todos_of d xs)
left_rest d xs ys p scope e h =
    let more : is_more (rest_at d p scope) ≡ true = settled_top d xs ys (frame.Rest p scope) e h in
    let lt : nat_lt p.place (length (body_of d p.routine)) ≡ true = more_rest p.place (body_of d p.routine) scope ∙ more in
    one_less p.place (body_of d p.routine) (below p.place (length (body_of d p.routine)) lt) (todos_of d ys)
    ∙ sym (ap (λ (u : List Frame). drop 1 (todos_of d u)) e)
  where
    below : (n m : ℕ) → nat_lt n m ≡ true → n < m
    below n m h = grind (arith, nat_tests)

    one_less : (n : ℕ) (ss : List Stmt) → n < length ss → (ts : List Todo) → map (to_do scope) (drop (n + 1) ss) ++ ts ≡ drop 1 (map (to_do scope) (drop n ss) ++ ts)
    one_less n [] h ts = absurd (omega arith)
    one_less zero (s ∷ ss) h ts = refl
    one_less (suc n) (s ∷ ss) h ts =
        let e : suc n + 1 ≡ suc (n + 1) = omega arith in
        ap (λ k. map (to_do scope) (drop k (s ∷ ss)) ++ ts) e ∙ one_less n ss (omega arith) ts

pub left_loop : (d : Parts) (xs ys : List Frame) (p : Position) (scope : Option Name) → xs ≡ frame.Loop p scope ∷ ys → IsSettled d xs
    → todos_of d ys ≡ drop 1 (todos_of d xs)
left_loop d xs ys p scope e h = left_one d xs ys (frame.Loop p scope) e (by_stmt (stmt_at d p) (settled_top d xs ys (frame.Loop p scope) e h))
  where
    by_stmt : (o : Option Stmt) → is_more (turn_at o scope) ≡ true → (ts : List Todo) → ts ≡ drop 1 (turn_at o scope ++ ts)
    by_stmt None h ts = cc
    by_stmt (Some s) h ts = refl

pub left_turns : (d : Parts) (xs ys : List Frame) (p : Position) (n : ℕ) (scope : Option Name) → xs ≡ frame.Turns p n scope ∷ ys
    → IsSettled d xs → todos_of d ys ≡ drop 1 (todos_of d xs)
left_turns d xs ys p n scope e h = left_one d xs ys (frame.Turns p n scope) e (by_stmt (stmt_at d p) (settled_top d xs ys (frame.Turns p n scope) e h))
  where
    by_form : (at : Place) (f : Form) → is_more (turns_of at f n scope) ≡ true → (ts : List Todo) → ts ≡ drop 1 (turns_of at f n scope ++ ts)
    by_form at (form.Repeat e body) h ts = refl
    by_form at f h ts = cc

    by_stmt : (o : Option Stmt) → is_more (turns_at o n scope) ≡ true → (ts : List Todo) → ts ≡ drop 1 (turns_at o n scope ++ ts)
    by_stmt None h ts = cc
    by_stmt (Some s) h ts = by_form s.at s.form h ts

pub left_elements : (d : Parts) (xs ys : List Frame) (p : Position) (n : ℕ) (scope : Option Name) → xs ≡ frame.Elements p n scope ∷ ys
    → IsSettled d xs → todos_of d ys ≡ drop 1 (todos_of d xs)
left_elements d xs ys p n scope e h =
    left_one d xs ys (frame.Elements p n scope) e (by_stmt (stmt_at d p) (settled_top d xs ys (frame.Elements p n scope) e h))
  where
    by_stmt : (o : Option Stmt) → is_more (elements_at o n scope) ≡ true → (ts : List Todo) → ts ≡ drop 1 (elements_at o n scope ++ ts)
    by_stmt None h ts = cc
    by_stmt (Some s) h ts = refl

pub left_put : (d : Parts) (xs ys : List Frame) (p : Position) (x : Val) (scope : Option Name) → xs ≡ frame.Put p x scope ∷ ys
    → IsSettled d xs → todos_of d ys ≡ drop 1 (todos_of d xs)
left_put d xs ys p x scope e h = left_one d xs ys (frame.Put p x scope) e (by_stmt (stmt_at d p) (settled_top d xs ys (frame.Put p x scope) e h))
  where
    by_form : (at : Place) (f : Form) → is_more (put_of at f x scope) ≡ true → (ts : List Todo) → ts ≡ drop 1 (put_of at f x scope ++ ts)
    by_form at (form.AssignAfter to e delay in_ticks) h ts = refl
    by_form at f h ts = cc

    by_stmt : (o : Option Stmt) → is_more (put_at o x scope) ≡ true → (ts : List Todo) → ts ≡ drop 1 (put_at o x scope ++ ts)
    by_stmt None h ts = cc
    by_stmt (Some s) h ts = by_form s.at s.form h ts

pub left_children : (d : Parts) (xs ys : List Frame) (p : Position) (scope : Option Name) → xs ≡ frame.Children p scope ∷ ys
    → IsSettled d xs → todos_of d ys ≡ drop 1 (todos_of d xs)
left_children d xs ys p scope e h = left_one d xs ys (frame.Children p scope) e (by_stmt (stmt_at d p) (settled_top d xs ys (frame.Children p scope) e h))
  where
    by_form : (at : Place) (f : Form) → is_more (children_of at f scope) ≡ true → (ts : List Todo) → ts ≡ drop 1 (children_of at f scope ++ ts)
    by_form at (form.Fork vs initializers children join) h ts = refl
    by_form at f h ts = cc

    by_stmt : (o : Option Stmt) → is_more (children_at o scope) ≡ true → (ts : List Todo) → ts ≡ drop 1 (children_at o scope ++ ts)
    by_stmt None h ts = cc
    by_stmt (Some s) h ts = by_form s.at s.form h ts

pub left_called : (d : Parts) (xs ys : List Frame) (p : Position) (n : ℕ) (outer hidden : Option Name) → xs ≡ frame.Called p n outer hidden ∷ ys
    → IsSettled d xs → todos_of d ys ≡ drop 1 (todos_of d xs)
left_called d xs ys p n outer hidden e h =
    left_one d xs ys (frame.Called p n outer hidden) e (by_stmt (stmt_at d p) (settled_top d xs ys (frame.Called p n outer hidden) e h))
  where
    by_stmt : (o : Option Stmt) → is_more (called_at o n outer hidden) ≡ true → (ts : List Todo) → ts ≡ drop 1 (called_at o n outer hidden ++ ts)
    by_stmt None h ts = cc
    by_stmt (Some s) h ts = refl

one_end : (d : Parts) (o : Option Stmt) (n : Option ℕ) (callee caller : Option Name) → is_more (end_at d o n callee caller) ≡ true → (ts : List Todo)
    → ts ≡ drop 1 (end_at d o n callee caller ++ ts)
one_end d None n callee caller h ts = cc
one_end d (Some s) n callee caller h ts = by_call (call_in s n) h
  where
    by_routine : (at : Place) (hidden : Option ℕ) (as' : List Argument) (u : Option Subroutine) → is_more (end_of_routine at hidden as' callee caller u) ≡ true
        → ts ≡ drop 1 (end_of_routine at hidden as' callee caller u ++ ts)
    by_routine at hidden as' None h = cc
    by_routine at hidden as' (Some u) h = refl

    by_form : (at : Place) (hidden : Option ℕ) (f : CallForm) → is_more (end_of_form d at hidden f callee caller) ≡ true
        → ts ≡ drop 1 (end_of_form d at hidden f callee caller ++ ts)
    by_form at hidden (call.Routine r None as') h = by_routine at hidden as' (routine_of d r).subroutine h
    by_form at hidden f h = cc

    by_call : (c : Option Call) → is_more (end_of_call d s.at c callee caller) ≡ true → ts ≡ drop 1 (end_of_call d s.at c callee caller ++ ts)
    by_call None h = cc
    by_call (Some c) h = by_form s.at c.result c.form h

pub left_end : (d : Parts) (xs ys : List Frame) (p : Position) (n : Option ℕ) (callee caller : Option Name) → xs ≡ frame.Leave p n callee caller ∷ ys
    → IsSettled d xs → todos_of d ys ≡ drop 1 (todos_of d xs)
left_end d xs ys p n callee caller e h =
    left_one d xs ys (frame.Leave p n callee caller) e (one_end d (stmt_at d p) n callee caller (settled_top d xs ys (frame.Leave p n callee caller) e h))

-- whether something is left, by the first entry
pub more_left : (d : Parts) (xs : List Frame) (f : Frame) → xs ≡ f ∷ drop 1 xs → IsSettled d xs → is_more (todos_of d xs) ≡ true
more_left d xs f e h =
    ap (λ (u : List Frame). is_more (todos_of d u)) e ∙ more_in (todos_in d f) (todos_of d (drop 1 xs)) (settled_top d xs (drop 1 xs) f e h)
  where
    more_in : (ts us : List Todo) → is_more ts ≡ true → is_more (ts ++ us) ≡ true
    more_in [] us h = cc
    more_in (t ∷ ts) us h = refl

pub none_left : (d : Parts) (xs : List Frame) → xs ≡ [] → is_more (todos_of d xs) ≡ false
none_left d xs e = ap (λ (u : List Frame). is_more (todos_of d u)) e

-- ---- the beginning of a routine

pub begun : (d : Parts) (r : RoutineId) (scope : Option Name) (fs : List Frame) → fs ≡ frame.Rest (record { routine = r; place = 0 }) scope ∷ []
    → todos_of d fs ≡ body_in d r scope
begun d r scope fs e = ap (todos_of d) e ∙ append-nil (body_in d r scope)
