-- An event expression that does not read an object is not fired by a change of it, and a static one by no change of a variable of an activation.
use Rattle.std.proofs.Common.{◌≡◌, ℕ, zero, suc, ◌<◌, Bool, true, false, List, [], ◌∷◌, refl, sym, ap, ◌∙◌, arith, length}
use Rattle.std.specs.Prelude.{Contains, slice_index_or, ◌==◌, ◌||◌, ◌&&◌}
use Rattle.std.specs.List.{AllByRecursion}
use Rattle.std.proofs.lemmas.Bool.{eq-eqb}
use Rattle.std.proofs.lemmas.List.Folds.{list_any-append}
use Rattle.sv_value.specs.declared.number.ObjId.{ObjId}
use Rattle.sv_flat.specs.declared.design.Parts.{Parts}
use Rattle.sv_flat.specs.declared.process.Edge.{Edge}
use Rattle.sv_flat.specs.declared.process.Watch.{Watch}
use Rattle.sv_flat.specs.declared.process.Watch.TheVariants.{On, Updates}
use Rattle.sv_flat.specs.Expr.{Expr, Literal, Text, Object, Element, Select, Unary, Binary, Choose, Join, Repeat, Convert, Widen, Time, Length, Log2, Name as Name_form, Printed}
use Rattle.sv_flat.specs.Names.{Naming, expr_reads}
use Rattle.sv_flat.specs.State.{View}
use Rattle.sv_flat.specs.Eval.{eval, value_of, width_of, is_signed, binary_value}
use Rattle.sv_flat.specs.Woken.{Changed, fired, both_make, allowed, watch_fires, some_fires}
use Rattle.sv_flat.proofs.SameReads.{Agrees, eval_reads}
use Rattle.sv_built.specs.declared.wait.Wait.{Wait}
use Rattle.sv_built.specs.Built.{IsBuilt, IsBuiltExpr, IsBuiltWatch}
use Rattle.sv_built.specs.Waits.{watches_at}
use Rattle.sv_sense.specs.Objects.{objects_named, expr_objects, watch_objects, watches_objects, wait_objects, is_among}
use Rattle.sv_sense.specs.Scoped.{IsStaticExpr, IsStaticWatch, IsStaticWait}
use Rattle.sv_sense.proofs.ChangeLaws.{SameBut, SeesSame}
use Rattle.sv_sense.proofs.EdgeLaws.{both_make_self}
use Rattle.sv_sense.proofs.FireLaws.{fired_is}
use Rattle.sv_sense.proofs.BuiltLaws.{wait_built}

-- ---- which objects are named

or_right : (a b : Bool) → b ≡ true → (a || b) ≡ true
or_right true b h = refl
or_right false b h = h

left_false : (a b : Bool) → (a || b) ≡ false → a ≡ false
left_false true b h = h
left_false false b h = refl

right_false : (a b : Bool) → (a || b) ≡ false → b ≡ false
right_false true b h = absurd (cc)
right_false false b h = h

named_at : (o : ObjId) (ns : List Naming) (k : ℕ) (n : Naming) → k < length ns → slice_index_or ns k n ≡ n → o.0 ≡ n.object.0 → is_among o (objects_named ns) ≡ true
named_at o [] k n l e h = absurd (omega arith)
named_at o (m ∷ ns) zero n l e h =
    (let z : o.0 ≡ m.object.0 = h ∙ ap (λ (n : Naming). n.object.0) (sym e) in
    ap (λ b. b || is_among o (objects_named ns)) (eq-eqb o.0 m.object.0 z))
named_at o (m ∷ ns) (suc k) n l e h = or_right (o.0 == m.object.0) (is_among o (objects_named ns)) (named_at o ns k n (omega arith) e h)

-- ---- values that are the same

agrees : (o : ObjId) (old new : View) → SameBut o old new → (ns : List Naming) → is_among o (objects_named ns) ≡ false → Agrees ns old new
agrees o old new s ns h = record {
  object = λ n c. s.object n.object (λ e. other n c e);
  variable = s.variable;
  name = s.name;
  heap = s.heap;
  now = s.now;
  unit = s.unit;
}
  where
    other : (n : Naming) → Contains ns n → n.object.0 ≡ o.0 → ⊥
    other n c e = (let z : is_among o (objects_named ns) ≡ true = named_at o ns c.0 n c.1 c.2 (sym e) in let y : true ≡ false = sym z ∙ h in cc)

same_value : (o : ObjId) (old new : View) → SameBut o old new → (e : Expr) → is_among o (expr_objects e) ≡ false → value_of e old ≡ value_of e new
same_value o old new s e h = eval_reads e (width_of e) (is_signed e) old new (agrees o old new s (expr_reads e) h)

-- ---- what does not fire

not_fired : (o : ObjId) (old new : View) → SameBut o old new → (g : Edge) (e : Expr) → IsBuiltExpr e → is_among o (expr_objects e) ≡ false → fired g e Changed old new ≡ false
not_fired o old new s g e b h =
    fired_is g e b old new ∙ ap (λ x. both_make g x (value_of e new)) (same_value o old new s e h) ∙ both_make_self g (value_of e new)

not_watched : (o : ObjId) (old new : View) → SameBut o old new → (w : Watch) → IsBuiltWatch w → is_among o (watch_objects w) ≡ false → watch_fires w Changed old new ≡ false
not_watched o old new s (On e g c) b h = ap (λ (f : Bool). f && allowed c new) (not_fired o old new s g e b.1 h)
not_watched o old new s (Updates k n) b h = refl

none_fires : (o : ObjId) (old new : View) → SameBut o old new → (ws : List Watch) → AllByRecursion IsBuiltWatch ws → is_among o (watches_objects ws) ≡ false → some_fires ws Changed old new ≡ false
none_fires o old new s [] b h = refl
none_fires o old new s (w ∷ ws) b h =
    let both : (is_among o (watch_objects w) || is_among o (watches_objects ws)) ≡ false = sym (list_any-append (λ p. o.0 == p.0) (watch_objects w) (watches_objects ws)) ∙ h in
    let first = not_watched o old new s w b.0 (left_false (is_among o (watch_objects w)) (is_among o (watches_objects ws)) both) in
    let rest = none_fires o old new s ws b.1 (right_false (is_among o (watch_objects w)) (is_among o (watches_objects ws)) both) in
    ap (λ (f : Bool). f || some_fires ws Changed old new) first ∙ rest

-- who is woken reads the object that changed
pub heard : (d : Parts) → IsBuilt d → (o : ObjId) (old new : View) → SameBut o old new → (w : Wait) → some_fires (watches_at d w) Changed old new ≡ true
    → is_among o (wait_objects d w) ≡ true
heard d b o old new s w h = by_test (is_among o (wait_objects d w)) refl
  where
    by_test : (t : Bool) → is_among o (wait_objects d w) ≡ t → t ≡ true
    by_test true e = refl
    by_test false e = (let z : true ≡ false = sym h ∙ none_fires o old new s (watches_at d w) (wait_built d b w) e in cc)

-- ---- what is static

static_same : (e : Expr) → IsStaticExpr e → (w : ℕ) (s : Bool) (v u : View) → SeesSame v u → eval e w s v ≡ eval e w s u
static_same (Literal x f) b w s v u h = refl
static_same (Text t) b w s v u h = refl
static_same (Object at o t) b w s v u h = rw h.object refl
static_same (Element at o r t i) b w s v u h = rw (static_same i b (width_of i) (is_signed i) v u h, h.object) refl
static_same (Select n o f outside a i) b w s v u h = rw (static_same a b.0 (width_of a) (is_signed a) v u h, static_same i b.1 (width_of i) (is_signed i) v u h) refl
static_same (Unary op a) b w s v u h = rw (static_same a b w s v u h, static_same a b (width_of a) (is_signed a) v u h) refl
static_same (Binary op a c) b w s v u h =
    λ i. binary_value op w s (width_of a) (is_signed a) (width_of c) (is_signed c) (λ n t. static_same a b.0 n t v u h i) (λ n t. static_same c b.1 n t v u h i)
static_same (Choose c a e) b w s v u h =
    rw (static_same c b.0 (width_of c) (is_signed c) v u h, static_same a b.1 w s v u h, static_same e b.2 w s v u h) refl
static_same (Join a c) b w s v u h = rw (static_same a b.0 (width_of a) (is_signed a) v u h, static_same c b.1 (width_of c) (is_signed c) v u h) refl
static_same (Repeat n a) b w s v u h = rw (static_same a b (width_of a) (is_signed a) v u h) refl
static_same (Convert t a) b w s v u h = rw (static_same a b (width_of a) (is_signed a) v u h) refl
static_same (Widen n t a) b w s v u h = static_same a b w s v u h
static_same (Time at) b w s v u h = rw (h.now, h.unit) refl
static_same (Length a) b w s v u h = rw (static_same a b 0 false v u h) refl
static_same (Log2 a) b w s v u h = rw (static_same a b (width_of a) (is_signed a) v u h) refl
static_same (Name_form is a) b w s v u h = rw (static_same a b (width_of a) (is_signed a) v u h) refl
static_same (Printed f p a) b w s v u h = rw (static_same a b (width_of a) (is_signed a) v u h, h.unit) refl
static_same e b w s v u h = absurd b

static_calm : (g : Edge) (e : Expr) → IsBuiltExpr e → IsStaticExpr e → (old new : View) → SeesSame old new → fired g e Changed old new ≡ false
static_calm g e b static old new same =
    fired_is g e b old new ∙ ap (λ x. both_make g x (value_of e new)) (static_same e static (width_of e) (is_signed e) old new same) ∙ both_make_self g (value_of e new)

-- where no object changed, what is static does not fire
statics_calm : (ws : List Watch) → AllByRecursion IsBuiltWatch ws → AllByRecursion IsStaticWatch ws → (old new : View) → SeesSame old new → some_fires ws Changed old new ≡ false
statics_calm [] b static old new same = refl
statics_calm (On e g c ∷ ws) b static old new same =
    ap (λ (f : Bool). (f && allowed c new) || some_fires ws Changed old new) (static_calm g e b.0.1 static.0 old new same) ∙ statics_calm ws b.1 static.1 old new same
statics_calm (Updates k n ∷ ws) b static old new same = absurd b.0

-- so who is woken does not wait for what is static
pub not_static : (d : Parts) → IsBuilt d → (old new : View) → SeesSame old new → (w : Wait) → some_fires (watches_at d w) Changed old new ≡ true → IsStaticWait d w → ⊥
not_static d b old new same w h static = (let z : true ≡ false = sym h ∙ statics_calm (watches_at d w) (wait_built d b w) static old new same in cc)
