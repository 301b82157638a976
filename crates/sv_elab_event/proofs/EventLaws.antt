-- What event expressions stand for, and how they are watched.
use Rattle.std.proofs.Common.{◌≡◌, Bool, true, false, List, [], ◌∷◌, Option, Some, None, refl, sym, ap, ◌∙◌, if◌then◌else◌}
use Rattle.std.specs.Prelude.{not, ◌&&◌}
use Rattle.sv_value.specs.declared.place.Place.{Place}
use Rattle.sv_flat.specs.declared.process.Edge.{Edge}
use Rattle.sv_flat.specs.declared.process.Edge.TheVariants as edge
use Rattle.sv_flat.specs.declared.process.Watch.{Watch}
use Rattle.sv_flat.specs.declared.process.Watch.TheVariants as watch
use Rattle.sv_flat.specs.Expr as flat
use Rattle.sv_tree.specs.declared.word.EdgeWord.{EdgeWord}
use Rattle.sv_tree.specs.Expr as tree
use Rattle.sv_tree.specs.Expr.{place_of}
use Rattle.sv_tree.specs.Stmt.{EventPart}
use Rattle.sv_names.specs.declared.checked.Checked.{Checked}
use Rattle.sv_names.specs.declared.checked.Checked.TheVariants.{Good, Broken}
use Rattle.sv_names.specs.declared.hoisted.Hoisted.{Hoisted}
use Rattle.sv_names.specs.declared.typed.Typed.{Typed}
use Rattle.sv_names.specs.Checked.{both, ◌▷◌, given, broken_at, put_before}
use Rattle.sv_names.specs.Events.{Event, On_value, On_block, event_thing, event_in, has_edge, edge_of, watch_form, watch_value, watch_event, watch_of, at_form}
use Rattle.sv_names.specs.Expressions.{expr}
use Rattle.sv_names.specs.Joined.{joined}
use Rattle.sv_names.specs.Named.{Around}
use Rattle.sv_names.specs.Things.{Thing, A_value, A_subroutine, A_method, Its_result, A_block, The_signal, A_type, thing_value}
use Rattle.sv_names.specs.Types.{is_event, is_integral}
use Rattle.sv_names.specs.Values.{alone, one_item}
use Rattle.sv_names.proofs.Joined.{joined_first, joined_last}
use Rattle.sv_elab_event.specs.Occasions.{is_block, is_name, item_watched, value_watch, occasion_watch, condition_in, watch_given, lone_event, form_of}

-- a clocking block is an event
pub block_event : (ar : Around) (pe : Place) (th : Thing) → is_block th ≡ true → event_thing ar pe th ≡ Good (On_block th)
block_event ar pe (A_block p ss at) is = refl
block_event ar pe (A_value t) is = absurd (cc)
block_event ar pe (A_subroutine c o direct at) is = absurd (cc)
block_event ar pe (A_method m o at) is = absurd (cc)
block_event ar pe (Its_result c o v at) is = absurd (cc)
block_event ar pe (The_signal b i s at) is = absurd (cc)
block_event ar pe (A_type t at) is = absurd (cc)

-- all else is a value
pub value_event : (ar : Around) (pe : Place) (th : Thing) → is_block th ≡ false → event_thing ar pe th ≡ given On_value (thing_value ar pe th)
value_event ar pe (A_block p ss at) is = absurd (cc)
value_event ar pe (A_value t) is = refl
value_event ar pe (A_subroutine c o direct at) is = refl
value_event ar pe (A_method m o at) is = refl
value_event ar pe (Its_result c o v at) is = refl
value_event ar pe (The_signal b i s at) is = refl
value_event ar pe (A_type t at) is = refl

-- what is no name is a value
pub plain_event : (ar : Around) (e : tree.Expr) (x : Checked Event) → is_name e ≡ false → x ≡ given On_value (expr ar e) → x ≡ event_in ar e
plain_event ar (tree.Post r s) x other is = absurd (cc)
plain_event ar e x other is = is

-- ---- values

-- the change of an item
item_is : (g : EdgeWord) (at : Place) (c : Option (Hoisted flat.Expr)) (x : Typed)
    → given (λ (q : Edge × Hoisted flat.Expr). watch_form q.0 q.1 c) (item_watched g at x)
    ≡ (if is_event x.ty then (if has_edge g then broken_at 15 at else Good (watch_form edge.Trigger x.code c))
    else (if has_edge g && not (is_integral x.ty) then broken_at 15 at else Good (watch_form (edge_of g) (alone x) c)))
item_is g at c x = by (is_event x.ty) (has_edge g) (has_edge g && not (is_integral x.ty))
  where
    by : (e h k : Bool)
        → given (λ (q : Edge × Hoisted flat.Expr). watch_form q.0 q.1 c) (if e then (if h then broken_at 15 at else Good (edge.Trigger, x.code))
        else (if k then broken_at 15 at else Good (edge_of g, alone x)))
        ≡ (if e then (if h then broken_at 15 at else Good (watch_form edge.Trigger x.code c))
        else (if k then broken_at 15 at else Good (watch_form (edge_of g) (alone x) c)))
    by true true k = refl
    by true false k = refl
    by false h true = refl
    by false h false = refl

-- the change of a value
value_is : (p : EventPart) (c : Option (Hoisted flat.Expr)) (t : Typed) → value_watch p.edge (place_of p.expr) c t ≡ watch_value p c t
value_is p c t = by (one_item t)
  where
    by : (y : Checked Typed) → given (λ (q : Edge × Hoisted flat.Expr). watch_form q.0 q.1 c) (y ▷ item_watched p.edge (place_of p.expr))
        ≡ (y ▷ (λ x. if is_event x.ty then (if has_edge p.edge then broken_at 15 (place_of p.expr) else Good (watch_form edge.Trigger x.code c))
        else (if has_edge p.edge && not (is_integral x.ty) then broken_at 15 (place_of p.expr)
        else Good (watch_form (edge_of p.edge) (alone x) c))))
    by (Good x) = item_is p.edge (place_of p.expr) c x
    by (Broken f) = refl

-- what is waited for
occasion_is : (ar : Around) (p : EventPart) (c : Option (Hoisted flat.Expr)) (e : Event)
    → occasion_watch ar p.edge (place_of p.expr) p.condition c e ≡ watch_event ar p c e
occasion_is ar p c (On_value t) = value_is p c t
occasion_is ar p c (On_block (A_block b ss at)) = refl
occasion_is ar p c (On_block (A_value t)) = refl
occasion_is ar p c (On_block (A_subroutine k o direct at)) = refl
occasion_is ar p c (On_block (A_method m o at)) = refl
occasion_is ar p c (On_block (Its_result k o v at)) = refl
occasion_is ar p c (On_block (The_signal b i s at)) = refl
occasion_is ar p c (On_block (A_type t at)) = refl

-- an event expression with its `iff`
pub part_is : (ar : Around) (p : EventPart) → watch_given ar p.edge (place_of p.expr) p.condition (event_in ar p.expr) ≡ watch_of ar p
part_is ar p = by (both (event_in ar p.expr) (condition_in ar p.condition))
  where
    by : (z : Checked (Event × Option (Hoisted flat.Expr)))
        → (z ▷ (λ q. occasion_watch ar p.edge (place_of p.expr) p.condition q.1 q.0)) ≡ (z ▷ (λ q. watch_event ar p q.1 q.0))
    by (Good q) = occasion_is ar p q.1 q.0
    by (Broken f) = refl

-- one part alone, in a list
pub one_joined : {A : Type 0} (e : List A) (c : Checked (List A)) (x y : Checked A) → e ≡ [] → y ≡ x
    → ((ys : Checked (List A)) → joined c ys ≡ joined (Good e) (put_before y ys)) → c ≡ put_before x (Good [])
one_joined {A = A} e c x y none is step =
    sym (joined_last c) ∙ step (Good [])
    ∙ ap (λ (l : List A). joined (Good l) (put_before y (Good []))) none
    ∙ joined_first (put_before y (Good []))
    ∙ ap (λ (z : Checked A). put_before z (Good [])) is

-- ---- forms

-- one named event, or all that is watched
pub form_is : (ws : List Watch) → form_of (lone_event ws) ws ≡ at_form ws
form_is [] = refl
form_is (watch.Updates k n ∷ ws) = refl
form_is (watch.On e edge.Change c ∷ ws) = refl
form_is (watch.On e edge.Posedge c ∷ ws) = refl
form_is (watch.On e edge.Negedge c ∷ ws) = refl
form_is (watch.On e edge.Trigger (Some c) ∷ ws) = refl
form_is (watch.On e edge.Trigger None ∷ []) = refl
form_is (watch.On e edge.Trigger None ∷ w ∷ ws) = refl
