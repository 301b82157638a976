-- Parts one after the other do not depend on how they are grouped.
use Rattle.std.proofs.Common.{arith, ◌≡◌, ℕ, ◌+◌, List, [], ◌∷◌, ◌++◌, length, ap, sym, ◌∙◌, refl, append-nil, append_assoc, length-append}
use Rattle.std.proofs.Math.Nat.{add-zero}
use Rattle.sv_value.specs.declared.place.Place.{Place}
use Rattle.sv_value.specs.declared.number.RoutineId.{RoutineId}
use Rattle.sv_flat.specs.declared.class.Routine.{Routine}
use Rattle.sv_flat.specs.declared.stmt.Stmt.{Stmt}
use Rattle.sv_names.specs.declared.checked.Checked.{Checked}
use Rattle.sv_names.specs.declared.checked.Checked.TheVariants.{Good, Broken}
use Rattle.sv_names.specs.Blocks.{in_sequence}
use Rattle.sv_names.specs.Code.{Numbered, Code, empty, followed, as_routine, ◌>>◌}
use Rattle.sv_names.proofs.Earlier.{earlier_assoc}
use Rattle.sv_elab_flow.specs.Parts.{routines_of}

-- ---- numbered parts

-- how many routines two lists have
counted : (n : ℕ) (p q : List Routine) → n + length p + length q ≡ n + length (p ++ q)
counted n p q = omega (arith, length-append p q)

-- three parts
pub followed_twice : {A B C D E F : Type 0} (h : A → E → F) (k : B → C → E) (h' : D → C → F) (k' : A → B → D)
    → ((x : A) (y : B) (z : C) → h x (k y z) ≡ h' (k' x y) z) → (a : Numbered A) (b : Numbered B) (c : Numbered C)
    → followed h a (followed k b c) ≡ followed h' (followed k' a b) c
followed_twice {A = A} {B = B} {C = C} {D = D} {F = F} h k h' k' same a b c =
    let p : ℕ → A × List Routine = λ n. a.make n in
    let q : ℕ → B × List Routine = λ n. b.make (n + length (p n).1) in
    let r : ℕ → C × List Routine = λ n. c.make (n + length (p n).1 + length (q n).1) in
    let here : (n : ℕ) → n + length (p n).1 + length (q n).1 ≡ n + length ((p n).1 ++ (q n).1) = λ n. counted n (p n).1 (q n).1 in
    let value : (n : ℕ) → h (p n).0 (k (q n).0 (r n).0) ≡ h' (k' (p n).0 (q n).0) (c.make (n + length ((p n).1 ++ (q n).1))).0 =
    λ n. same (p n).0 (q n).0 (r n).0 ∙ ap (λ (m : ℕ). h' (k' (p n).0 (q n).0) (c.make m).0) (here n) in
    let added : (n : ℕ) → (p n).1 ++ ((q n).1 ++ (r n).1) ≡ ((p n).1 ++ (q n).1) ++ (c.make (n + length ((p n).1 ++ (q n).1))).1 =
    λ n. sym (append_assoc (p n).1 (q n).1 (r n).1) ∙ ap (λ (m : ℕ). ((p n).1 ++ (q n).1) ++ (c.make m).1) (here n) in
    λ i. record { objects = sym (append_assoc a.objects b.objects c.objects) i; make = λ n. (value n i, added n i) }

-- ---- statements

-- no statement before others
pub empty_first : (c : Code) → empty >> c ≡ c
empty_first c = λ i. record { objects = c.objects; make = λ n. c.make (add-zero n i) }

-- no statement behind others
pub empty_last : (c : Code) → c >> empty ≡ c
empty_last c =
    λ i. record { objects = append-nil c.objects i; make = λ n. (append-nil (c.make n).0 i, append-nil (c.make n).1 i) }

-- statements, and further ones, and further ones
pub sequence_grouped : (a b c : Code) → (a >> b) >> c ≡ a >> (b >> c)
sequence_grouped a b c =
    let h : List Stmt → List Stmt → List Stmt = λ x y. x ++ y in
    sym (followed_twice h h h h (λ x y z. sym (append_assoc x y z)) a b c)

-- none before what may break a rule
pub none_first : (x : Checked Code) → in_sequence (Good empty) x ≡ x
none_first (Good c) = ap Good (empty_first c)
none_first (Broken f) = refl

-- none behind it
pub none_last : (x : Checked Code) → in_sequence x (Good empty) ≡ x
none_last (Good c) = ap Good (empty_last c)
none_last (Broken f) = refl

-- three that may break rules
pub in_sequence_grouped : (x y z : Checked Code) → in_sequence (in_sequence x y) z ≡ in_sequence x (in_sequence y z)
in_sequence_grouped (Good a) (Good b) (Good c) = ap Good (sequence_grouped a b c)
in_sequence_grouped (Good a) (Good b) (Broken h) = refl
in_sequence_grouped (Good a) (Broken g) (Good c) = refl
in_sequence_grouped (Good a) (Broken g) (Broken h) = refl
in_sequence_grouped (Broken f) (Good b) (Good c) = refl
in_sequence_grouped (Broken f) (Good b) (Broken h) = refl
in_sequence_grouped (Broken f) (Broken g) (Good c) = refl
in_sequence_grouped (Broken f) (Broken g) (Broken h) = ap Broken (earlier_assoc f g h)

-- ---- routines

-- the routine of a part behind those of others
pub routines_snoc : (at : Place) (cs : List Code) (c : Code)
    → routines_of at (cs ++ c ∷ []) ≡ followed (λ ids r. ids ++ r ∷ []) (routines_of at cs) (as_routine at c)
routines_snoc at [] c =
    let made : ℕ → RoutineId × List Routine = λ n. (as_routine at c).make n in
    λ i. record {
      objects = append-nil c.objects i;
      make = λ n. ((made (sym (add-zero n) i)).0 ∷ [], (append-nil (made n).1 ∙ ap (λ (m : ℕ). (made m).1) (sym (add-zero n))) i);
    }
routines_snoc at (d ∷ ds) c =
    let first : RoutineId → List RoutineId → List RoutineId = λ a as'. a ∷ as' in
    let last : List RoutineId → RoutineId → List RoutineId = λ as' a. as' ++ a ∷ [] in
    ap (followed first (as_routine at d)) (routines_snoc at ds c)
    ∙ followed_twice first last last first (λ x y z. refl) (as_routine at d) (routines_of at ds) (as_routine at c)
