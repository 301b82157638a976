-- Where nothing changed no built event expression fires, and a process waits for such expressions as they are written.
use Rattle.std.proofs.Common.{◌≡◌, List, [], ◌∷◌, None, Some, false, Ok, Err, refl, ap, ◌∙◌}
use Rattle.std.specs.Prelude.{◌&&◌, ◌||◌}
use Rattle.std.specs.List.{AllByRecursion}
use Rattle.sv_flat.specs.declared.object.DataType.TheVariants as type
use Rattle.sv_flat.specs.declared.process.Edge.{Edge}
use Rattle.sv_flat.specs.declared.process.Edge.TheVariants.{Change, Posedge, Negedge, Trigger}
use Rattle.sv_flat.specs.declared.process.Watch.{Watch}
use Rattle.sv_flat.specs.declared.process.Watch.TheVariants.{On, Updates}
use Rattle.sv_flat.specs.Expr.{Expr, Literal, Text, Object, Element, Local, LocalElement, Field, Static, Select, Unary, Binary, Choose, Join, Repeat, Convert, Widen, Time, Length, Log2, Name as Name_form, Printed}
use Rattle.sv_flat.specs.State.{View}
use Rattle.sv_flat.specs.Eval.{Valued, value_of}
use Rattle.sv_flat.specs.Statements.Events.{frozen, frozen_watch, frozen_watches}
use Rattle.sv_flat.specs.Woken.{Changed, fired, both_make, content_of, contents_differ, allowed, some_fires}
use Rattle.sv_built.specs.Built.{IsBuiltExpr, IsBuiltEdge, IsBuiltWatch}
use Rattle.sv_sound.proofs.Edges.{makes_none}

-- ---- where nothing changed

-- a built expression names no container
content_none : (e : Expr) → IsBuiltExpr e → (v : View) → content_of e v ≡ None
content_none (Object at o (type.Plain t)) b v = refl
content_none (Object at o t) b v = absurd b
content_none (Local up p (type.Plain t)) b v = refl
content_none (Local up p t) b v = absurd b
content_none (Field p t e) b v = absurd b
content_none (Static r m) b v = absurd b
content_none e b v = refl

both_quiet : (g : Edge) (x : Valued) → both_make g x x ≡ false
both_quiet g (Ok x) = makes_none g x
both_quiet g (Err k) = refl

fired_quiet : (g : Edge) → IsBuiltEdge g → (e : Expr) → IsBuiltExpr e → (v : View) → fired g e Changed v v ≡ false
fired_quiet Trigger a e b v = absurd a
fired_quiet Change a e b v =
    ap (λ c. both_make Change (value_of e v) (value_of e v) || contents_differ c (content_of e v)) (content_none e b v)
    ∙ ap (λ y. y || false) (both_quiet Change (value_of e v))
fired_quiet Posedge a e b v = both_quiet Posedge (value_of e v)
fired_quiet Negedge a e b v = both_quiet Negedge (value_of e v)

-- what is seen stays, so none of these fires
pub quiet : (ws : List Watch) → AllByRecursion IsBuiltWatch ws → (v : View) → some_fires ws Changed v v ≡ false
quiet [] b v = refl
quiet (On e g c ∷ ws) b v = ap (λ y. (y && allowed c v) || some_fires ws Changed v v) (fired_quiet g b.0.0 e b.0.1 v) ∙ quiet ws b.1 v
quiet (Updates k n ∷ ws) b v = absurd b.0

-- ---- no reference stands before a dot

pub frozen_built : (e : Expr) → IsBuiltExpr e → (v : View) → frozen e v ≡ e
frozen_built (Literal x f) b v = refl
frozen_built (Text t) b v = refl
frozen_built (Object at o t) b v = refl
frozen_built (Element at o r t i) b v = λ j. Element at o r t (frozen_built i b v j)
frozen_built (Local up p t) b v = refl
frozen_built (LocalElement up p r t i) b v = λ j. LocalElement up p r t (frozen_built i b v j)
frozen_built (Select n o f outside a i) b v = λ j. Select n o f outside (frozen_built a b.0 v j) (frozen_built i b.1 v j)
frozen_built (Unary op a) b v = λ j. Unary op (frozen_built a b v j)
frozen_built (Binary op a c) b v = λ j. Binary op (frozen_built a b.0 v j) (frozen_built c b.1 v j)
frozen_built (Choose c a e) b v = λ j. Choose (frozen_built c b.0 v j) (frozen_built a b.1 v j) (frozen_built e b.2 v j)
frozen_built (Join a c) b v = λ j. Join (frozen_built a b.0 v j) (frozen_built c b.1 v j)
frozen_built (Repeat n a) b v = λ j. Repeat n (frozen_built a b v j)
frozen_built (Convert t a) b v = λ j. Convert t (frozen_built a b v j)
frozen_built (Widen n t a) b v = λ j. Widen n t (frozen_built a b v j)
frozen_built (Time at) b v = refl
frozen_built (Length a) b v = λ j. Length (frozen_built a b v j)
frozen_built (Log2 a) b v = λ j. Log2 (frozen_built a b v j)
frozen_built (Name_form is a) b v = λ j. Name_form is (frozen_built a b v j)
frozen_built (Printed f p a) b v = λ j. Printed f p (frozen_built a b v j)
frozen_built e b v = absurd b

one_frozen_built : (v : View) (w : Watch) → IsBuiltWatch w → frozen_watch v w ≡ w
one_frozen_built v (On e g None) b = λ j. On (frozen_built e b.1 v j) g None
one_frozen_built v (On e g (Some c)) b = λ j. On (frozen_built e b.1 v j) g (Some (frozen_built c b.2 v j))
one_frozen_built v (Updates k n) b = absurd b

pub all_frozen_built : (v : View) (ws : List Watch) → AllByRecursion IsBuiltWatch ws → frozen_watches ws v ≡ ws
all_frozen_built v [] b = refl
all_frozen_built v (w ∷ ws) b = λ j. one_frozen_built v w b.0 j ∷ all_frozen_built v ws b.1 j
