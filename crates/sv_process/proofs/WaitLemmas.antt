-- What a process waits for.
use Rattle.std.proofs.Common.{ℕ, ◌≡◌, ◌+◌, ◌<◌, ◌^◌, zero, suc, Bool, List, [], ◌∷◌, Option, None, Some, true, false, length, drop, ◌++◌, refl, ap, subst, sym, ◌∙◌, arith}
use Rattle.std.specs.Prelude.{if◌then◌else◌, nat_lt, option_map, Ok}
use Rattle.std.specs.List.{AllByRecursion}
use Rattle.sv_value.specs.declared.place.FaultKind.TheVariants as fault
use Rattle.sv_value.specs.declared.val.Val.{Val}
use Rattle.sv_value.specs.Operators.{is_true}
use Rattle.sv_flat.specs.declared.process.Edge.TheVariants.{Change}
use Rattle.sv_flat.specs.declared.process.Watch.{Watch}
use Rattle.sv_flat.specs.declared.process.Watch.TheVariants.{On}
use Rattle.sv_flat.specs.declared.call.Call.{Call}
use Rattle.sv_flat.specs.declared.stmt.Stmt.{Stmt}
use Rattle.sv_flat.specs.declared.stmt.Form.TheVariants as form
use Rattle.sv_flat.specs.declared.design.Parts.{Parts}
use Rattle.sv_flat.specs.Expr.{Expr, Literal, Text, Object, Element, Local, LocalElement, Select, Unary, Binary, Choose, Join, Repeat, Convert, Widen, Time, Length, Log2, Name, Printed}
use Rattle.sv_flat.specs.State.{View, Name as Name_of}
use Rattle.sv_flat.specs.Eval.{value_of, vector_in}
use Rattle.sv_flat.specs.Process.{Todo, Do, Suspend, Watches, Effect}
use Rattle.sv_flat.specs.Statements.Delays.{delayed, ticks_of}
use Rattle.sv_flat.specs.Statements.Events.{frozen, frozen_watch, frozen_watches}
use Rattle.sv_flat.specs.Statements.Shared.{goes_on, waits, value_in, from_result}
use Rattle.sv_built.specs.declared.position.Position.{Position}
use Rattle.sv_built.specs.declared.wait.Wait.TheVariants as wait
use Rattle.sv_built.specs.Built.{IsBuiltExpr, IsBuiltOptional, IsBuiltWatch}
use Rattle.sv_built.specs.Positions.{stmt_at}
use Rattle.sv_built.specs.Waits.{control_of, condition_of, in_stmt, watches_at}
use Rattle.sv_stack.specs.declared.effect.Effect.{Effect as Own_effect}
use Rattle.sv_stack.specs.declared.effect.Effect.TheVariants as effect
use Rattle.sv_stack.specs.declared.frames.Frame.{Frame}
use Rattle.sv_stack.specs.declared.frames.Frame.TheVariants as frame
use Rattle.sv_stack.specs.Calls.{called_at}
use Rattle.sv_stack.specs.Frames.{todos_of}
use Rattle.sv_stack.specs.Effects.{effect_in, Leaves}

-- ---- delays

pub no_ticks : (d : Parts) (n : ℕ) (v : View) → n ≡ 0 → delayed n v ≡ effect_in d effect.Turn ∷ []
no_ticks d n v e = ap (λ k. delayed k v) e

the_same : {a b : ℕ} → Some a ≡ Some b → a ≡ b
the_same h = cc

pub some_ticks : (d : Parts) (n t : ℕ) (v : View) → 0 < n → Some t ≡ (if nat_lt (v.now + n) (2 ^ 63) then Some (v.now + n) else None)
    → delayed n v ≡ effect_in d (effect.ResumeAt t) ∷ []
some_ticks d zero t v more h = absurd (omega arith)
some_ticks d (suc k) t v more h = by_test (nat_lt (v.now + suc k) (2 ^ 63)) h
  where
    by_test : (b : Bool) → Some t ≡ (if b then Some (v.now + suc k) else None)
        → (if b then effect_in d (effect.ResumeAt (v.now + suc k)) ∷ [] else effect_in d (effect.Fail fault.Time) ∷ []) ≡ effect_in d (effect.ResumeAt t) ∷ []
    by_test true h = ap (λ m. effect_in d (effect.ResumeAt m) ∷ []) (sym (the_same h))
    by_test false h = cc

pub too_many_ticks : (d : Parts) (n : ℕ) (v : View) → 0 < n → None ≡ (if nat_lt (v.now + n) (2 ^ 63) then Some (v.now + n) else None)
    → delayed n v ≡ effect_in d (effect.Fail fault.Time) ∷ []
too_many_ticks d zero v more h = absurd (omega arith)
too_many_ticks d (suc k) v more h = by_test (nat_lt (v.now + suc k) (2 ^ 63)) h
  where
    by_test : (b : Bool) → None ≡ (if b then Some (v.now + suc k) else None)
        → (if b then effect_in d (effect.ResumeAt (v.now + suc k)) ∷ [] else effect_in d (effect.Fail fault.Time) ∷ []) ≡ effect_in d (effect.Fail fault.Time) ∷ []
    by_test true h = cc
    by_test false h = refl

-- what a delay does for its amount
pub delayed_by : (d : Parts) (fs : List Frame) (es : List Own_effect) (mid rest : List Todo) (e : Expr) (v : View) (x : Val) (in_ticks : Bool) (f : Own_effect)
    → value_of e v ≡ Ok x → delayed (ticks_of in_ticks (vector_in x) v) v ≡ effect_in d f ∷ [] → mid ≡ rest
    → Leaves d fs es (waits mid (effect_in d f ∷ []))
    → Leaves d fs es (value_in e v (λ n. waits rest (delayed (ticks_of in_ticks (vector_in n) v) v)))
delayed_by d fs es mid rest e v x in_ticks f valued does left h =
    subst (Leaves d fs es) (sym (ap (λ r. from_result r (λ n. waits rest (delayed (ticks_of in_ticks (vector_in n) v) v))) valued
    ∙ ap (λ us. waits rest us) does)) (subst (λ us. Leaves d fs es (waits us (effect_in d f ∷ []))) left h)

-- ---- what reads nothing on the heap is as it is written

pub frozen_same : (e : Expr) (v : View) → IsBuiltExpr e → frozen e v ≡ e
frozen_same (Literal x f) v h = refl
frozen_same (Text b) v h = refl
frozen_same (Object at o t) v h = refl
frozen_same (Element at o b t i) v h = ap (λ j. Element at o b t j) (frozen_same i v h)
frozen_same (Local up p t) v h = refl
frozen_same (LocalElement up p b t i) v h = ap (λ j. LocalElement up p b t j) (frozen_same i v h)
frozen_same (Select w o f x a i) v h = let p = frozen_same a v h.0 in let q = frozen_same i v h.1 in λ k. Select w o f x (p k) (q k)
frozen_same (Unary op a) v h = ap (λ b. Unary op b) (frozen_same a v h)
frozen_same (Binary op a b) v h = let p = frozen_same a v h.0 in let q = frozen_same b v h.1 in λ k. Binary op (p k) (q k)
frozen_same (Choose c a b) v h =
    let p = frozen_same c v h.0 in let q = frozen_same a v h.1 in let r = frozen_same b v h.2 in λ k. Choose (p k) (q k) (r k)
frozen_same (Join a b) v h = let p = frozen_same a v h.0 in let q = frozen_same b v h.1 in λ k. Join (p k) (q k)
frozen_same (Repeat n a) v h = ap (λ b. Repeat n b) (frozen_same a v h)
frozen_same (Convert t a) v h = ap (λ b. Convert t b) (frozen_same a v h)
frozen_same (Widen n s a) v h = ap (λ b. Widen n s b) (frozen_same a v h)
frozen_same (Time at) v h = refl
frozen_same (Length a) v h = ap (λ b. Length b) (frozen_same a v h)
frozen_same (Log2 a) v h = ap (λ b. Log2 b) (frozen_same a v h)
frozen_same (Name is a) v h = ap (λ b. Name is b) (frozen_same a v h)
frozen_same (Printed f p a) v h = ap (λ b. Printed f p b) (frozen_same a v h)
frozen_same e v h = absurd h

frozen_optional : (c : Option Expr) (v : View) → IsBuiltOptional c → option_map (λ a. frozen a v) c ≡ c
frozen_optional None v h = refl
frozen_optional (Some e) v h = ap Some (frozen_same e v h)

frozen_one : (w : Watch) (v : View) → IsBuiltWatch w → frozen_watch v w ≡ w
frozen_one (On e g c) v h = let p = frozen_same e v h.1 in let q = frozen_optional c v h.2 in λ k. On (p k) g (q k)
frozen_one w v h = absurd h

pub frozen_all : (ws : List Watch) (v : View) → AllByRecursion IsBuiltWatch ws → frozen_watches ws v ≡ ws
frozen_all [] v h = refl
frozen_all (w ∷ ws) v h = let p = frozen_one w v h.0 in let q = frozen_all ws v h.1 in λ k. p k ∷ q k

-- an event control waits for its event expressions as they are written
pub as_written : (d : Parts) (fs : List Frame) (es : List Own_effect) (mid ts : List Todo) (p : Position) (s : Stmt) (ws : List Watch) (scope : Option Name_of) (v : View)
    → stmt_at d p ≡ Some s → s.form ≡ form.At ws → AllByRecursion IsBuiltWatch ws → mid ≡ ts
    → Leaves d fs es (waits mid (effect_in d (effect.Watch (wait.Control p) scope) ∷ []))
    → Leaves d fs es (waits ts (Suspend (Watches (frozen_watches ws v) scope) ∷ []))
as_written d fs es mid ts p s ws scope v at is built left h =
    let here : watches_at d (wait.Control p) ≡ frozen_watches ws v = ap (in_stmt control_of) at ∙ ap control_of is ∙ sym (frozen_all ws v built) in
    subst (λ us. Leaves d fs es (waits ts (Suspend (Watches us scope) ∷ []))) here
    (subst (λ us. Leaves d fs es (waits us (effect_in d (effect.Watch (wait.Control p) scope) ∷ []))) left h)

-- ---- `wait`

-- what a `wait` does for a value
abbrev pub waited : Stmt → Expr → (outer scope : Option Name_of) → View → List Todo → Val → List Effect
waited s e outer scope v rest x =
    if is_true (vector_in x) then goes_on rest []
    else waits (Do s [] outer None ∷ rest) (Suspend (Watches (On (frozen e v) Change None ∷ []) scope) ∷ [])

-- the same by whether it is true
abbrev pub waited_by : Bool → Stmt → Expr → (outer scope : Option Name_of) → View → List Todo → List Effect
waited_by b s e outer scope v rest =
    if b then goes_on rest [] else waits (Do s [] outer None ∷ rest) (Suspend (Watches (On (frozen e v) Change None ∷ []) scope) ∷ [])

pub holds : (d : Parts) (fs : List Frame) (es : List Own_effect) (mid rest : List Todo) (s : Stmt) (e : Expr) (outer scope : Option Name_of) (v : View) (x : Val)
    → value_of e v ≡ Ok x → is_true (vector_in x) ≡ true → mid ≡ rest → Leaves d fs es (goes_on mid [])
    → Leaves d fs es (value_in e v (waited s e outer scope v rest))
holds d fs es mid rest s e outer scope v x is true_is left g =
    subst (Leaves d fs es) (sym (ap (λ r. from_result r (waited s e outer scope v rest)) is ∙ ap (λ (b : Bool). waited_by b s e outer scope v rest) true_is))
    (subst (λ us. Leaves d fs es (goes_on us [])) left g)

-- no call is left
all_made : (cs : List Call) → drop (length cs) cs ≡ []
all_made [] = refl
all_made (c ∷ cs) = all_made cs

pub waits_on : (d : Parts) (fs mid left : List Frame) (es : List Own_effect) (rest : List Todo) (p : Position) (s : Stmt) (e : Expr) (outer scope : Option Name_of) (v : View)
    (x : Val) (n : ℕ) → stmt_at d p ≡ Some s → s.form ≡ form.Wait e → IsBuiltExpr e → n ≡ length s.calls → todos_of d left ≡ rest → mid ≡ frame.Called p n outer None ∷ left
    → value_of e v ≡ Ok x → is_true (vector_in x) ≡ false → Leaves d fs es (waits (todos_of d mid) (effect_in d (effect.Watch (wait.Condition p) scope) ∷ []))
    → Leaves d fs es (value_in e v (waited s e outer scope v rest))
waits_on d fs mid left es rest p s e outer scope v x n at is built count rests pushed valued false_is h =
    let here : watches_at d (wait.Condition p) ≡ On (frozen e v) Change None ∷ [] =
    ap (in_stmt condition_of) at ∙ ap condition_of is ∙ ap (λ a. On a Change None ∷ []) (sym (frozen_same e v built)) in
    let all : todos_of d mid ≡ Do s [] outer None ∷ rest =
    ap (todos_of d) pushed ∙ ap (λ o. called_at o n outer None ++ todos_of d left) at
    ∙ ap (λ cs. Do s cs outer None ∷ todos_of d left) (ap (λ k. drop k s.calls) count ∙ all_made s.calls) ∙ ap (λ us. Do s [] outer None ∷ us) rests in
    subst (Leaves d fs es) (sym (ap (λ r. from_result r (waited s e outer scope v rest)) valued ∙ ap (λ (b : Bool). waited_by b s e outer scope v rest) false_is))
    (subst (λ us. Leaves d fs es (waits us (Suspend (Watches (On (frozen e v) Change None ∷ []) scope) ∷ []))) all
    (subst (λ ws. Leaves d fs es (waits (todos_of d mid) (Suspend (Watches ws scope) ∷ []))) here h))
