-- Whether a built event expression fires.
use Rattle.std.proofs.Common.{◌≡◌, Bool, true, false, [], ◌∷◌, Option, None, Ok, Err, refl, ap, sym, ◌∙◌}
use Rattle.std.specs.Prelude.{◌||◌, ◌&&◌}
use Rattle.sv_value.specs.Containers.{Container}
use Rattle.sv_flat.specs.declared.object.DataType.TheVariants as type
use Rattle.sv_flat.specs.declared.process.Edge.{Edge}
use Rattle.sv_flat.specs.declared.process.Edge.TheVariants as edge
use Rattle.sv_flat.specs.declared.process.Watch.TheVariants.{On}
use Rattle.sv_flat.specs.Expr.{Expr, Object, Local, Field, Static}
use Rattle.sv_flat.specs.Eval.{Valued, value_of}
use Rattle.sv_flat.specs.State.{View}
use Rattle.sv_flat.specs.Woken.{Changed, fired, both_make, content_of, contents_differ, some_fires}
use Rattle.sv_built.specs.Built.{IsBuiltExpr}

-- a built expression names no container
content_none : (e : Expr) → IsBuiltExpr e → (v : View) → content_of e v ≡ None
content_none (Object at o (type.Plain t)) h v = refl
content_none (Object at o t) h v = absurd h
content_none (Local u p (type.Plain t)) h v = refl
content_none (Local u p t) h v = absurd h
content_none (Field p t e) h v = absurd h
content_none (Static r m) h v = absurd h
content_none e h v = refl

pub or_false : (b : Bool) → (b || false) ≡ b
or_false true = refl
or_false false = refl

and_true : (b : Bool) → (b && true) ≡ b
and_true true = refl
and_true false = refl

pub no_trigger : (x y : Valued) → false ≡ both_make edge.Trigger x y
no_trigger (Ok x) (Ok y) = refl
no_trigger (Ok x) (Err k) = refl
no_trigger (Err k) y = refl

-- it fires by its values alone
pub fired_is : (g : Edge) (e : Expr) → IsBuiltExpr e → (old new : View) → fired g e Changed old new ≡ both_make g (value_of e old) (value_of e new)
fired_is edge.Change e h old new =
    ap (λ (k : Option Container). both_make edge.Change (value_of e old) (value_of e new) || contents_differ k (content_of e new)) (content_none e h old)
    ∙ or_false (both_make edge.Change (value_of e old) (value_of e new))
fired_is edge.Posedge e h old new = refl
fired_is edge.Negedge e h old new = refl
fired_is edge.Trigger e h old new = no_trigger (value_of e old) (value_of e new)

-- the only event expression is a change, and has no `iff`
pub only_change : (e : Expr) (old new : View) → fired edge.Change e Changed old new ≡ some_fires (On e edge.Change None ∷ []) Changed old new
only_change e old new = sym (or_false (fired edge.Change e Changed old new && true) ∙ and_true (fired edge.Change e Changed old new))
