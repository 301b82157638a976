-- What parts of a statement add, one after the other.
use Rattle.std.proofs.Common.{None, Result, Ok, Err, ◌≡◌, ℕ, ◌+◌, List, [], ◌∷◌, ◌++◌, length, ap, sym, subst, ◌∙◌, refl, append-nil, append_assoc, length-append}
use Rattle.std.specs.Prelude.{IfOk, IfErr}
use Rattle.sv_value.specs.declared.place.Place.{Place}
use Rattle.sv_value.specs.declared.number.RoutineId.{RoutineId}
use Rattle.sv_flat.specs.declared.class.Routine.{Routine}
use Rattle.sv_flat.specs.declared.object.Object.{Object}
use Rattle.sv_flat.specs.declared.stmt.Stmt.{Stmt}
use Rattle.sv_names.specs.Code.{Numbered, Code, just, followed, as_routine, ◌>>◌}
use Rattle.sv_names.specs.Checked.{given}
use Rattle.sv_names.specs.Emits.{Made, Emits}
use Rattle.sv_names.specs.declared.checked.Checked.{Checked}
use Rattle.sv_names.specs.declared.refusal.Refusal.{Refusal}
use Rattle.sv_names.specs.declared.refusal.Refusal.TheVariants.{Rule, Memory}
use Rattle.sv_names.specs.Given.{Fails}
use Rattle.sv_names.specs.Joined.{put_behind}
use Rattle.sv_elab_flow.specs.Parts.{EmitsOf, EmitsRoutine, routines_of}
use Rattle.sv_elab_flow.proofs.Grouped.{routines_snoc}

-- what adds nothing
pub none_added : {A : Type 0} (rs : List Routine) (os : List Object) (a : A) → Made rs rs os os a (just a)
none_added rs os a = record { value = refl; added = sym (append-nil rs); declared = sym (append-nil os) }

-- how many routines stand after the first part
pub count_after : {A : Type 0} (rs rs' : List Routine) (os os' : List Object) (a : A) (f : Numbered A)
    → Made rs rs' os os' a f → length rs' ≡ length rs + length (f.make (length rs)).1
count_after rs rs' os os' a f m = ap length m.added ∙ length-append rs ((f.make (length rs)).1)

-- one part after another
pub followed_made : {A B C : Type 0} (h : A → B → C) (rs rs' rs'' : List Routine) (os os' os'' : List Object) (a : A) (b : B)
    (f : Numbered A) (g : Numbered B) → Made rs rs' os os' a f → Made rs' rs'' os' os'' b g → Made rs rs'' os os'' (h a b) (followed h f g)
followed_made {A = A} {B = B} {C = C} h rs rs' rs'' os os' os'' a b f g m n =
    let here : length rs' ≡ length rs + length (f.make (length rs)).1 = count_after rs rs' os os' a f m in
    let value_of : ℕ → B = λ k. (g.make k).0 in
    let added_by : ℕ → List Routine = λ k. rs' ++ (g.make k).1 in
    let behind : List Routine → List Routine = λ l. l ++ (g.make (length rs + length (f.make (length rs)).1)).1 in
    let objects_behind : List Object → List Object = λ l. l ++ g.objects in
    record {
      value = λ i. h (m.value i) ((n.value ∙ ap value_of here) i);
      added = n.added ∙ ap added_by here ∙ ap behind m.added ∙ append_assoc rs ((f.make (length rs)).1) ((g.make (length rs + length (f.make (length rs)).1)).1);
      declared = n.declared ∙ ap objects_behind m.declared ∙ append_assoc os f.objects g.objects;
    }

-- a statement before others
pub then_made : (rs rs' : List Routine) (os os' : List Object) (s : Stmt) (ss : List Stmt) (c : Code)
    → Made rs rs' os os' ss c → Made rs rs' os os' (s ∷ ss) (just (s ∷ []) >> c)
then_made rs rs' os os' s ss c m =
    let h : List Stmt → List Stmt → List Stmt = λ a b. a ++ b in
    followed_made h rs rs rs' os os os' (s ∷ []) ss (just (s ∷ [])) c (none_added rs os (s ∷ [])) m

-- statements, and then further ones
pub sequence_made : (rs rs' rs'' : List Routine) (os os' os'' : List Object) (ss ts : List Stmt) (c d : Code)
    → Made rs rs' os os' ss c → Made rs' rs'' os' os'' ts d → Made rs rs'' os os'' (ss ++ ts) (c >> d)
sequence_made rs rs' rs'' os os' os'' ss ts c d m n =
    let h : List Stmt → List Stmt → List Stmt = λ a b. a ++ b in
    followed_made h rs rs' rs'' os os' os'' ss ts c d m n

-- a routine behind what it holds
pub routine_made : (at : Place) (rs rs' : List Routine) (os os' : List Object) (ss : List Stmt) (c : Code) → Made rs rs' os os' ss c
    → Made rs (rs' ++ record { at = at; body = ss; subroutine = None } ∷ []) os os' (record { 0 = length rs' }) (as_routine at c)
routine_made at rs rs' os os' ss c m =
    let here : length rs' ≡ length rs + length (c.make (length rs)).1 = count_after rs rs' os os' ss c m in
    let numbered : ℕ → RoutineId = λ k. record { 0 = k } in
    let holding : List Stmt → Routine = λ b. record { at = at; body = b; subroutine = None } in
    let behind : List Routine → List Routine = λ l. l ++ holding ss ∷ [] in
    let with_body : List Stmt → List Routine = λ b. rs ++ ((c.make (length rs)).1 ++ holding b ∷ []) in
    record {
      value = ap numbered here;
      added = ap behind m.added ∙ append_assoc rs ((c.make (length rs)).1) (holding ss ∷ []) ∙ ap with_body m.value;
      declared = m.declared;
    }

-- a routine behind others
pub next_made : (at : Place) (rs rs' rs'' : List Routine) (os os' os'' : List Object) (ids : List RoutineId) (r : RoutineId)
    (cs : List Code) (c : Code) → Made rs rs' os os' ids (routines_of at cs) → Made rs' rs'' os' os'' r (as_routine at c)
    → Made rs rs'' os os'' (ids ++ r ∷ []) (routines_of at (cs ++ c ∷ []))
next_made at rs rs' rs'' os os' os'' ids r cs c m n =
    let h : List RoutineId → RoutineId → List RoutineId = λ as' a. as' ++ a ∷ [] in
    subst (λ (f : Numbered (List RoutineId)). Made rs rs'' os os'' (ids ++ r ∷ []) f) (sym (routines_snoc at cs c))
    (followed_made h rs rs' rs'' os os' os'' ids r (routines_of at cs) (as_routine at c) m n)

-- the same of parts that can break rules, where memory suffices for both
pub next_emitted : (at : Place) (rs rs' rs'' : List Routine) (os os' os'' : List Object) (ids : List RoutineId) (next : RoutineId)
    (xs : Checked (List Code)) (x : Checked Code) (r : Result (List RoutineId) Refusal) → IfOk r (λ all. all ≡ ids ++ next ∷ [])
    → IfErr r (λ e. e ≡ Memory) → EmitsOf (routines_of at) rs rs' os os' (Ok ids) xs → EmitsRoutine at rs' rs'' os' os'' (Ok next) x
    → EmitsOf (routines_of at) rs rs'' os os'' r (put_behind xs x)
next_emitted at rs rs' rs'' os os' os'' ids next xs x (Ok all) is none e f =
    let whole : List RoutineId → Type 0 = λ as'. Made rs rs'' os os'' as' (routines_of at (e.0 ++ f.0 ∷ [])) in (
      e.0 ++ f.0 ∷ [],
      (λ i. put_behind (e.1 i) (f.1 i)),
      subst whole (sym is) (next_made at rs rs' rs'' os os' os'' ids next e.0 f.0 e.2 f.2),
    )
next_emitted at rs rs' rs'' os os' os'' ids next xs x (Err g) is none e f =
    let fails : Refusal → Type 0 = λ h. Fails h (put_behind xs x) in
    subst fails (sym none) tt

-- routines of parts as a part of its own
pub emitted_of : (at : Place) (rs rs' : List Routine) (os os' : List Object) (r : Result (List RoutineId) Refusal) (xs : Checked (List Code))
    → EmitsOf (routines_of at) rs rs' os os' r xs → Emits rs rs' os os' r (given (routines_of at) xs)
emitted_of at rs rs' os os' (Ok ids) xs e = (routines_of at e.0, ap (given (routines_of at)) e.1, e.2)
emitted_of at rs rs' os os' (Err (Rule n p)) xs e = ap (given (routines_of at)) e
emitted_of at rs rs' os os' (Err Memory) xs e = tt
