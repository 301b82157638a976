-- What a change of a vector tells.
use Rattle.std.proofs.Common.{◌≡◌, ◌≢◌, ℕ, Bool, true, false, Option, None, Ok, refl, ap, sym, ◌∙◌, subst, length}
use Rattle.std.specs.Prelude.{◌==◌, ◌||◌, if◌then◌else◌, slice_index_or, IfSome}
use Rattle.std.proofs.lemmas.Bool.{eq-eqb}
use Rattle.sv_value.specs.declared.number.ObjId.{ObjId}
use Rattle.sv_value.specs.declared.place.Place.{Place}
use Rattle.sv_value.specs.declared.val.Integral.{Integral}
use Rattle.sv_value.specs.declared.val.Plain.TheVariants as plain
use Rattle.sv_value.specs.declared.val.Val.{Val}
use Rattle.sv_value.specs.declared.val.Val.TheVariants as val
use Rattle.sv_value.specs.Containers.{Container}
use Rattle.sv_value.specs.Vector.{Vector, vector}
use Rattle.sv_flat.specs.declared.object.DataType.TheVariants as type
use Rattle.sv_flat.specs.declared.process.Edge.{Edge}
use Rattle.sv_flat.specs.declared.process.Edge.TheVariants as edge
use Rattle.sv_flat.specs.Expr.{Expr, Object}
use Rattle.sv_flat.specs.Eval.{fitted, in_context, value_of}
use Rattle.sv_flat.specs.State.{Elements, Name, Net, Store, Stored, View, no_value, value_at}
use Rattle.sv_store.specs.Objects.{stored_at}
use Rattle.sv_flat.specs.Woken.{Changed, fired, both_make, content_of, contents_differ, makes}
use Rattle.sv_store.specs.declared.change.Overwritten.{Overwritten}
use Rattle.sv_store.specs.Overwrites.{held_before, object_before, value_before}
use Rattle.sv_assign.specs.declared.seen.Before.{Before}
use Rattle.sv_assign.specs.Seen.{Change, Of_object, change_in, view_before, view_in}
use Rattle.sv_eval.proofs.VectorLaws.{own_context}
use Rattle.sv_sense.specs.declared.transition.Transition.{Transition}
use Rattle.sv_sense.specs.Told.{IsSeen, IsTold}
use Rattle.sv_sense.proofs.ChangeLaws.{object_changed}
use Rattle.sv_sense.proofs.EdgeLaws.{both_make_self}
use Rattle.sv_sense.proofs.FireLaws.{or_false, no_trigger}

-- ---- the name of an object

-- an object with a vector
abbrev pub whole : Place → ObjId → Integral → Expr
whole at o t = Object at o (type.Plain (plain.Integral t))

-- what names no container fires by its values alone
pub by_values : (g : Edge) (e : Expr) (old new : View) → content_of e old ≡ None → fired g e Changed old new ≡ both_make g (value_of e old) (value_of e new)
by_values edge.Change e old new h =
    ap (λ (k : Option Container). both_make edge.Change (value_of e old) (value_of e new) || contents_differ k (content_of e new)) h
    ∙ or_false (both_make edge.Change (value_of e old) (value_of e new))
by_values edge.Posedge e old new h = refl
by_values edge.Negedge e old new h = refl
by_values edge.Trigger e old new h = no_trigger (value_of e old) (value_of e new)

-- one that has not changed
pub other_object : (t : Transition) (old new : View) → IsSeen t old new → (o : ObjId) → o.0 ≢ t.object.0
    → (g : Edge) (at : Place) (ty : Integral) → false ≡ fired g (whole at o ty) Changed old new
other_object t old new h o n g at ty =
    let same : value_of (whole at o ty) old ≡ value_of (whole at o ty) new = ap (λ (x : Val). Ok (fitted ty.width ty.signed x)) (h.others o n) in
    sym (by_values g (whole at o ty) old new refl ∙ ap (λ x. both_make g x (value_of (whole at o ty) new)) same ∙ both_make_self g (value_of (whole at o ty) new))

-- a vector in a context of its own width has the same symbols
pub in_own_width : (v : Vector) (w : ℕ) (s : Bool) → length v.symbols ≡ w → in_context w s v ≡ vector s v.symbols
in_own_width v w s width = sym (own_context (vector s v.symbols) w s width refl)

-- an edge is one of the symbols
makes_by_symbols : (g : Edge) (v u : Vector) (s : Bool) → makes g (val.Bits (vector s v.symbols)) (val.Bits (vector s u.symbols)) ≡ makes g (val.Bits v) (val.Bits u)
makes_by_symbols edge.Change v u s = refl
makes_by_symbols edge.Posedge v u s = refl
makes_by_symbols edge.Negedge v u s = refl
makes_by_symbols edge.Trigger v u s = refl

-- the vector of the one that has changed, as its name gives it
pub itself : (x : Val) (v : Vector) (w : ℕ) (s : Bool) → length v.symbols ≡ w → x ≡ val.Bits v → fitted w s x ≡ val.Bits (vector s v.symbols)
itself x v w s width is = ap (fitted w s) is ∙ ap val.Bits (in_own_width v w s width)

pub at_object : (o p : ObjId) → o.0 ≡ p.0 → (f : ObjId → ℕ → Val) → f o 0 ≡ f p 0
at_object o p e f = λ i. f (record { 0 = e i }) 0

pub same_object : (t : Transition) (old new : View) → IsSeen t old new → (o : ObjId) → o.0 ≡ t.object.0
    → (g : Edge) (at : Place) (ty : Integral) → length t.before.symbols ≡ ty.width → length t.after.symbols ≡ ty.width
    → makes g (val.Bits t.before) (val.Bits t.after) ≡ fired g (whole at o ty) Changed old new
same_object t old new h o e g at ty b a =
    let was = itself (old.object o 0) t.before ty.width ty.signed b (at_object o t.object e old.object ∙ h.before) in
    let is = itself (new.object o 0) t.after ty.width ty.signed a (at_object o t.object e new.object ∙ h.after) in
    sym (by_values g (whole at o ty) old new refl ∙ (λ i. makes g (was i) (is i)) ∙ makes_by_symbols g t.before t.after ty.signed)

-- ---- what has changed

-- the first element, or a net, held what was overwritten
pub first_before : (w : Overwritten) (s : Store) → w.element ≡ 0 → w.old ≡ value_before w s 0
first_before w s e = by_stored (stored_at s w.object)
  where
    by_stored : (x : Stored) → w.old ≡ held_before x w.element w.old 0
    by_stored (Elements vs) = sym (ap (λ (n : ℕ). if 0 == n then w.old else slice_index_or vs 0 no_value) e)
    by_stored (Net width drivers) = refl

seen_of : (w : Overwritten) (b : Before) (t : Transition) → t.object ≡ w.object → val.Bits t.before ≡ value_before w b.store.now 0 → val.Bits t.after ≡ value_at b.store.now w.object 0
    → (scope : Option Name)
    → IsSeen t (view_before (Of_object w) b.store.now b.activations.now.activations b.time b.unit scope) (view_in b.store.now b.activations.now.activations b.time b.unit scope)
seen_of w b t e before after scope =
    let s = b.store.now in
    let itself : (w.object.0 == w.object.0) ≡ true = eq-eqb w.object.0 w.object.0 refl in
    let changed = object_changed w s b.activations.now.activations b.time b.unit scope in
    record {
      before =
          ap (λ (o : ObjId). object_before w s o 0) e
          ∙ ap (λ (c : Bool). if c then value_before w s 0 else value_at s w.object 0) itself
          ∙ sym before;
      after = ap (λ (o : ObjId). value_at s o 0) e ∙ sym after;
      others = λ o n. ap (λ (f : ℕ → Val). f 0) (changed.object o (λ z. n (z ∙ ap (λ (p : ObjId). p.0) (sym e))));
    }

pub told : (b : Before) (w : Overwritten) (r : Option Transition) → change_in b.change.now ≡ Of_object w → IfSome r (λ t. t.object ≡ w.object)
    → IfSome r (λ t. val.Bits t.before ≡ value_before w b.store.now 0) → IfSome r (λ t. val.Bits t.after ≡ value_at b.store.now w.object 0) → IsTold r b
told b w r k e before after t is =
    let here = λ (P : Transition → Type 0) (h : IfSome r P). subst (λ (o : Option Transition). IfSome o P) is h in
    subst
    (λ (c : Change). (scope : Option Name)
    → IsSeen t (view_before c b.store.now b.activations.now.activations b.time b.unit scope) (view_in b.store.now b.activations.now.activations b.time b.unit scope))
    (sym k) (seen_of w b t (here (λ t. t.object ≡ w.object) e) (here (λ t. val.Bits t.before ≡ value_before w b.store.now 0) before)
    (here (λ t. val.Bits t.after ≡ value_at b.store.now w.object 0) after))
