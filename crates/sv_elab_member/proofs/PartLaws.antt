-- All parts of a class, behind what stands so far.
use Rattle.std.proofs.Common.{◌≡◌, ◌∙◌, List, [], ◌∷◌, ◌++◌, map, refl, sym, ap, append_assoc, append-nil}
use Rattle.std.specs.Prelude.{flat_map}
use Rattle.sv_flat.specs.declared.class.Class.{Class}
use Rattle.sv_flat.specs.declared.object.Object.{Object}
use Rattle.sv_names.specs.declared.checked.Checked.{Checked}
use Rattle.sv_names.specs.declared.checked.Checked.TheVariants.{Good, Broken}
use Rattle.sv_names.specs.Checked.{both, given, ◌where_also◌}
use Rattle.sv_names.specs.Classes.{ClassParts}
use Rattle.sv_names.specs.Design as design
use Rattle.sv_names.specs.Design.{with_each, with_subroutine}
use Rattle.sv_names.specs.Items.{class_given}
use Rattle.sv_names.specs.Joined as lists
use Rattle.sv_names.specs.Subroutines.{MadeSubroutine}
use Rattle.sv_names.specs.Types.{Path}
use Rattle.sv_elab_parts.specs.declared.so_far.SoFar.{SoFar}
use Rattle.sv_elab_parts.specs.Adding.{Adds, so_far_in}
use Rattle.sv_elab_member.specs.Methods.{alone}
use Rattle.sv_elab_member.specs.Parts.{parts_of, given_by}
use Rattle.sv_elab_member.specs.Putting.{PutsAll}

-- ---- subroutines and all else

-- subroutines one after another
abbrev with_all : design.SoFar → List MadeSubroutine → design.SoFar
with_all s ms = with_each with_subroutine s ms

-- they change neither objects nor classes
all_apart : (s : design.SoFar) (os : List Object) (ks : List Class) (ms : List MadeSubroutine)
    → with_all (record s { objects = os; classes = ks }) ms ≡ record (with_all s ms) { objects = os; classes = ks }
all_apart s os ks [] = refl
all_apart s os ks (m ∷ ms) = all_apart (with_subroutine s m) os ks ms

-- the objects that they add
abbrev objects_in : List MadeSubroutine → List Object
objects_in ms = flat_map (λ m. m.routine.objects) ms

-- subroutines that stand behind others with their objects
abbrev with_objects_of : design.SoFar → List MadeSubroutine → design.SoFar
with_objects_of s ms = record (with_all s ms) { objects = s.objects ++ objects_in ms; classes = s.classes }

all_put : (x y : SoFar) (ms : List MadeSubroutine) → PutsAll x y ms → so_far_in y ≡ with_objects_of (so_far_in x) ms
all_put x y [] is = ap so_far_in is ∙ (λ i. record (so_far_in x) { objects = sym (append-nil x.objects) i })
all_put x y (m ∷ ms) (z, put, rest) =
    let s = so_far_in x in
    let first = s.objects ++ m.routine.objects in
    let here : design.SoFar → design.SoFar = λ t. record t { objects = first ++ objects_in ms; classes = s.classes } in
    all_put z y ms rest ∙ ap (λ (t : design.SoFar). with_objects_of t ms) put.so_far
    ∙ ap here (all_apart (with_subroutine s m) first s.classes ms)
    ∙ ap (λ (os : List Object). record (with_all s (m ∷ ms)) { objects = os; classes = s.classes })
    (append_assoc s.objects m.routine.objects (objects_in ms))

-- their paths
all_paths : (x y : SoFar) (ms : List MadeSubroutine) → PutsAll x y ms → y.subroutine_paths ≡ x.subroutine_paths ++ map (λ m. m.path) ms
all_paths x y [] is = ap (λ (s : SoFar). s.subroutine_paths) is ∙ sym (append-nil x.subroutine_paths)
all_paths x y (m ∷ ms) (z, put, rest) =
    all_paths z y ms rest ∙ ap (λ (ps : List Path). ps ++ map (λ n. n.path) ms) put.subroutines
    ∙ append_assoc x.subroutine_paths (m.path ∷ []) (map (λ n. n.path) ms)

-- no other paths
all_classes : (x y : SoFar) (ms : List MadeSubroutine) → PutsAll x y ms → y.class_paths ≡ x.class_paths
all_classes x y [] is = ap (λ (s : SoFar). s.class_paths) is
all_classes x y (m ∷ ms) (z, put, rest) = all_classes z y ms rest ∙ put.classes

all_clockings : (x y : SoFar) (ms : List MadeSubroutine) → PutsAll x y ms → y.clocking_paths ≡ x.clocking_paths
all_clockings x y [] is = ap (λ (s : SoFar). s.clocking_paths) is
all_clockings x y (m ∷ ms) (z, put, rest) = all_clockings z y ms rest ∙ put.clockings

-- ---- a class

-- its objects, its subroutines, and then it itself
pub class_added : (a b c d : SoFar) (p q : Path) (k : Class) (os : List Object) (ms : List MadeSubroutine)
    → b ≡ record a { objects = b.objects } → b.objects ≡ a.objects ++ os → PutsAll b c ms → q ≡ p
    → d ≡ record c { classes = c.classes ++ k ∷ []; class_paths = c.class_paths ++ q ∷ [] }
    → Adds a d (class_given p (parts_of k (os, ms)))
class_added a b c d p q k os ms objects placed put same is =
    let s = so_far_in a in
    let all = a.objects ++ (os ++ objects_in ms) in
    let with_class : design.SoFar → design.SoFar = λ t. record t { classes = t.classes ++ k ∷ [] } in
    let start : b ≡ record a { objects = a.objects ++ os } = objects ∙ ap (λ (l : List Object). record a { objects = l }) placed in
    let grouped = (a.objects ++ os) ++ objects_in ms in
    let before : so_far_in c ≡ record (with_all s ms) { objects = grouped; classes = a.classes } =
    all_put b c ms put ∙ ap (λ (t : SoFar). with_objects_of (so_far_in t) ms) start
    ∙ ap (λ (t : design.SoFar). record t { objects = grouped; classes = a.classes }) (all_apart s (a.objects ++ os) a.classes ms) in
    record {
      so_far = ap so_far_in is ∙ ap with_class before
          ∙ ap (λ (l : List Object). record (with_all s ms) { objects = l; classes = a.classes ++ k ∷ [] }) (append_assoc a.objects os (objects_in ms))
          ∙ sym (all_apart s all (a.classes ++ k ∷ []) ms);
      classes = ap (λ (t : SoFar). t.class_paths) is
          ∙ (λ i. (all_classes b c ms put ∙ ap (λ (t : SoFar). t.class_paths) start) i ++ same i ∷ []);
      subroutines = ap (λ (t : SoFar). t.subroutine_paths) is ∙ all_paths b c ms put
          ∙ ap (λ (t : SoFar). t.subroutine_paths ++ map (λ m. m.path) ms) start;
      clockings = ap (λ (t : SoFar). t.clocking_paths) is ∙ all_clockings b c ms put ∙ ap (λ (t : SoFar). t.clocking_paths) start
          ∙ sym (append-nil a.clocking_paths);
    }

-- ---- the parts

-- one subroutine before others, as parts of a class
abbrev class_with : Class → List Object × (MadeSubroutine × List MadeSubroutine) → ClassParts
class_with k p = record { objects = p.0; subroutines = p.1.0 ∷ p.1.1; class = k }

-- a class by its parts
by_parts : (p : Path) (k : Class) (os : Checked (List Object)) (m : Checked MadeSubroutine) (ms : Checked (List MadeSubroutine))
    → given_by p k os (lists.joined (given alone m) ms) ≡ given (class_given p) (given (class_with k) (both os (both m ms)))
by_parts p k (Good os) (Good m) (Good ms) = refl
by_parts p k (Good os) (Good m) (Broken g) = refl
by_parts p k (Good os) (Broken f) (Good ms) = refl
by_parts p k (Good os) (Broken f) (Broken g) = refl
by_parts p k (Broken e) (Good m) (Good ms) = refl
by_parts p k (Broken e) (Good m) (Broken g) = refl
by_parts p k (Broken e) (Broken f) (Good ms) = refl
by_parts p k (Broken e) (Broken f) (Broken g) = refl

-- a rule guards what is made of a value as it guards the value
given_guarded : {A B : Type 0} (f : A → B) (x : Checked A) (y : Checked (Unit {0})) → (given f x where_also y) ≡ given f (x where_also y)
given_guarded f (Good a) (Good u) = refl
given_guarded f (Good a) (Broken g) = refl
given_guarded f (Broken e) (Good u) = refl
given_guarded f (Broken e) (Broken g) = refl

-- the same with the rules on it
pub parts_are : (p : Path) (k : Class) (os : Checked (List Object)) (m : Checked MadeSubroutine) (ms : Checked (List MadeSubroutine))
    (g : Checked (Unit {0})) → (given_by p k os (lists.joined (given alone m) ms) where_also g)
    ≡ given (class_given p) (given (class_with k) (both os (both m ms)) where_also g)
parts_are p k os m ms g = ap (λ x. x where_also g) (by_parts p k os m ms) ∙ given_guarded (class_given p) (given (class_with k) (both os (both m ms))) g
