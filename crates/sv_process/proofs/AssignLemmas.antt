-- What assignments write.
use Rattle.std.proofs.Common.{◌≡◌, Bool, List, [], ◌∷◌, ◌++◌, Option, Some, refl, ap, subst, sym, ◌∙◌, arith, length}
use Rattle.std.specs.Prelude.{Ok, Err}
use Rattle.std.proofs.lemmas.List.{append_assoc, map-append}
use Rattle.sv_value.specs.declared.place.FaultKind.{FaultKind}
use Rattle.sv_value.specs.declared.val.Val.{Val}
use Rattle.sv_flat.specs.declared.target.Lvalue.{Lvalue}
use Rattle.sv_flat.specs.declared.stmt.Stmt.{Stmt}
use Rattle.sv_flat.specs.declared.stmt.Form.TheVariants as form
use Rattle.sv_flat.specs.declared.design.Parts.{Parts}
use Rattle.sv_flat.specs.Expr.{Expr}
use Rattle.sv_flat.specs.State.{View, Name}
use Rattle.sv_flat.specs.Eval.{value_of, vector_in, with_result}
use Rattle.sv_flat.specs.Process.{Todo, Put, Spot, Write}
use Rattle.sv_flat.specs.Statements.Delays.{delayed, ticks_of}
use Rattle.sv_flat.specs.Statements.Shared.{Effects, goes_on, waits, value_in, from_result, fails, computed, written}
use Rattle.sv_flat.specs.Targets.{spot_of, spots_of, target_values, converted, target_width}
use Rattle.sv_assign.specs.declared.spot.Spot.{Spot as Own_spot}
use Rattle.sv_assign.specs.Places.{spot_in, spots_in}
use Rattle.sv_built.specs.declared.position.Position.{Position}
use Rattle.sv_built.specs.Positions.{stmt_at}
use Rattle.sv_stack.specs.declared.effect.Effect.{Effect as Own_effect}
use Rattle.sv_stack.specs.declared.effect.Effect.TheVariants as effect
use Rattle.sv_stack.specs.declared.frames.Frame.{Frame}
use Rattle.sv_stack.specs.Frames.{put_of, put_at}
use Rattle.sv_stack.specs.Effects.{effect_in, effects_in, Leaves}
use Rattle.sv_process.specs.Parts.{writes}

-- ---- writes

-- one effect more
pub one_more : (d : Parts) (es more : List Own_effect) (f : Own_effect) → more ≡ es ++ f ∷ [] → effects_in d more ≡ effects_in d es ++ effect_in d f ∷ []
one_more d es more f e = ap (effects_in d) e ∙ map-append (effect_in d) es (f ∷ [])

pub first_written : (d : Parts) (es more : List Own_effect) (ts us : List Own_spot) (vs ws : List Val) (t : Own_spot) (x : Val)
    → ts ≡ t ∷ us → vs ≡ x ∷ ws → more ≡ es ++ effect.Write t x ∷ []
    → effects_in d more ++ written (spots_in us) ws ≡ effects_in d es ++ written (spots_in ts) vs
first_written d es more ts us vs ws t x e f g =
    ap (λ u. u ++ written (spots_in us) ws) (one_more d es more (effect.Write t x) g)
    ∙ append_assoc (effects_in d es) (Write (spot_in t) x ∷ []) (written (spots_in us) ws)
    ∙ sym (λ i. effects_in d es ++ written (spots_in (e i)) (f i))

pub without_places : (ts : List Own_spot) (vs : List Val) → length ts ≡ 0 → written (spots_in ts) vs ≡ []
without_places [] vs h = refl
without_places (t ∷ ts) vs h = absurd (omega arith)

pub without_values : (ts : List Own_spot) (vs : List Val) → length vs ≡ 0 → written (spots_in ts) vs ≡ []
without_values [] vs h = refl
without_values (t ∷ ts) [] h = refl
without_values (t ∷ ts) (v ∷ vs) h = absurd (omega arith)

pub wrote_all : (d : Parts) (fs : List Frame) (es out : List Own_effect) (rest : List Todo) (ts : List Lvalue) (ps : List Own_spot) (vs : List Val) (x : Val) (old : List Own_effect)
    → old ≡ [] → vs ≡ target_values ts x → effects_in d out ≡ effects_in d old ++ written (spots_in ps) vs
    → Leaves d fs es (goes_on rest (effects_in d out)) → Leaves d fs es (writes rest ts (spots_in ps) x)
wrote_all d fs es out rest ts ps vs x old none values all h =
    subst (λ us. Leaves d fs es (goes_on rest us)) (all ∙ ap (λ u. effects_in d u ++ written (spots_in ps) vs) none ∙ ap (written (spots_in ps)) values) h

pub wrote_one : (d : Parts) (fs : List Frame) (es out : List Own_effect) (rest : List Todo) (l : Lvalue) (t : Own_spot) (y x : Val) (old : List Own_effect)
    → old ≡ [] → y ≡ converted l.ty (target_width l) x → out ≡ old ++ effect.Write t y ∷ []
    → Leaves d fs es (goes_on rest (effects_in d out)) → Leaves d fs es (writes rest (l ∷ []) (spot_in t ∷ []) x)
wrote_one d fs es out rest l t y x old none value one h =
    subst (λ us. Leaves d fs es (goes_on rest us))
    (one_more d old out (effect.Write t y) one ∙ ap (λ u. effects_in d u ++ Write (spot_in t) y ∷ []) none ∙ ap (λ z. Write (spot_in t) z ∷ []) value) h

-- ---- targets and then the value

pub one_place : (l : Lvalue) (v : View) (s : Spot) → spot_of l v ≡ Ok s → spots_of (l ∷ []) v ≡ Ok (s ∷ [])
one_place l v s e = ap (λ r. with_result r (λ s. with_result (spots_of [] v) (λ ss. Ok (s ∷ ss)))) e

pub no_place : (l : Lvalue) (v : View) (k : FaultKind) → spot_of l v ≡ Err k → spots_of (l ∷ []) v ≡ Err k
no_place l v k e = ap (λ r. with_result r (λ s. with_result (spots_of [] v) (λ ss. Ok (s ∷ ss)))) e

pub computed_is : (d : Parts) (fs : List Frame) (es : List Own_effect) (mid rest : List Todo) (ts : List Lvalue) (e : Expr) (v : View) (ss : List Spot) (x : Val)
    → spots_of ts v ≡ Ok ss → value_of e v ≡ Ok x → mid ≡ rest → Leaves d fs es (writes mid ts ss x)
    → Leaves d fs es (computed ts e v (λ us y. writes rest ts us y))
computed_is d fs es mid rest ts e v ss x places value left h =
    subst (Leaves d fs es) (sym (ap (λ r. from_result r (λ us. value_in e v (λ y. writes rest ts us y))) places
    ∙ ap (λ r. from_result r (λ y. writes rest ts ss y)) value)) (subst (λ us. Leaves d fs es (writes us ts ss x)) left h)

pub computed_no_place : (ts : List Lvalue) (e : Expr) (v : View) (k : FaultKind) (go : List Spot → Val → Effects)
    → spots_of ts v ≡ Err k → computed ts e v go ≡ fails k
computed_no_place ts e v k go places = ap (λ r. from_result r (λ us. value_in e v (go us))) places

pub computed_no_value : (ts : List Lvalue) (e : Expr) (v : View) (k : FaultKind) (go : List Spot → Val → Effects) (ss : List Spot)
    → spots_of ts v ≡ Ok ss → value_of e v ≡ Err k → computed ts e v go ≡ fails k
computed_no_value ts e v k go ss places value =
    ap (λ r. from_result r (λ us. value_in e v (go us))) places ∙ ap (λ r. from_result r (go ss)) value

-- ---- `a = #d e`

pub put_off : (d : Parts) (fs : List Frame) (es : List Own_effect) (mid rest : List Todo) (p : Position) (s : Stmt) (ts : List Lvalue) (e delay : Expr)
    (in_ticks : Bool) (scope : Option Name) (v : View) (n x : Val) (f : Own_effect)
    → stmt_at d p ≡ Some s → s.form ≡ form.AssignAfter ts e delay in_ticks → value_of delay v ≡ Ok n → value_of e v ≡ Ok x
    → delayed (ticks_of in_ticks (vector_in n) v) v ≡ effect_in d f ∷ [] → mid ≡ rest
    → Leaves d fs es (waits (put_at (stmt_at d p) x scope ++ mid) (effect_in d f ∷ []))
    → Leaves d fs es (value_in delay v (λ n. value_in e v (λ x. waits (Put s.at ts x scope ∷ rest) (delayed (ticks_of in_ticks (vector_in n) v) v))))
put_off d fs es mid rest p s ts e delay in_ticks scope v n x f at is amount value does left h =
    let kept : put_at (stmt_at d p) x scope ≡ Put s.at ts x scope ∷ [] = ap (λ o. put_at o x scope) at ∙ ap (λ g. put_of s.at g x scope) is in
    subst (Leaves d fs es) (sym (ap (λ r. from_result r (λ n. value_in e v (λ x. waits (Put s.at ts x scope ∷ rest) (delayed (ticks_of in_ticks (vector_in n) v) v)))) amount
    ∙ ap (λ r. from_result r (λ x. waits (Put s.at ts x scope ∷ rest) (delayed (ticks_of in_ticks (vector_in n) v) v))) value
    ∙ ap (waits (Put s.at ts x scope ∷ rest)) does))
    (subst (λ us. Leaves d fs es (waits us (effect_in d f ∷ []))) (λ i. kept i ++ left i) h)

pub put_is : (d : Parts) (fs : List Frame) (es : List Own_effect) (mid rest : List Todo) (ts : List Lvalue) (v : View) (ss : List Spot) (x : Val)
    → spots_of ts v ≡ Ok ss → mid ≡ rest → Leaves d fs es (writes mid ts ss x)
    → Leaves d fs es (from_result (spots_of ts v) (λ us. writes rest ts us x))
put_is d fs es mid rest ts v ss x places left h =
    subst (Leaves d fs es) (sym (ap (λ r. from_result r (λ us. writes rest ts us x)) places)) (subst (λ us. Leaves d fs es (writes us ts ss x)) left h)

pub put_no_place : (ts : List Lvalue) (v : View) (k : FaultKind) (go : List Spot → Effects) → spots_of ts v ≡ Err k → from_result (spots_of ts v) go ≡ fails k
put_no_place ts v k go places = ap (λ r. from_result r go) places
