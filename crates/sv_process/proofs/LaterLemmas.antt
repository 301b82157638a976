-- What nonblocking assignments schedule.
use Rattle.std.proofs.Common.{ℕ, ◌≡◌, ◌+◌, ◌^◌, Bool, List, [], ◌∷◌, ◌++◌, true, false, refl, ap, subst, sym, ◌∙◌, arith, length}
use Rattle.std.specs.Prelude.{Ok, Err, nat_lt, if◌then◌else◌}
use Rattle.std.proofs.lemmas.List.{append_assoc}
use Rattle.sv_value.specs.declared.place.FaultKind.{FaultKind}
use Rattle.sv_value.specs.declared.place.FaultKind.TheVariants as fault
use Rattle.sv_value.specs.declared.val.Val.{Val}
use Rattle.sv_value.specs.declared.schedule.Update.{Update}
use Rattle.sv_value.specs.declared.schedule.Job.TheVariants as job
use Rattle.sv_flat.specs.declared.target.Lvalue.{Lvalue}
use Rattle.sv_flat.specs.declared.design.Parts.{Parts}
use Rattle.sv_flat.specs.Expr.{Expr}
use Rattle.sv_flat.specs.State.{View}
use Rattle.sv_flat.specs.Eval.{value_of, vector_in, with_result}
use Rattle.sv_flat.specs.Process.{Todo, Spot, Update_at}
use Rattle.sv_flat.specs.Statements.Delays.{ticks_of}
use Rattle.sv_flat.specs.Statements.Shared.{Effects, goes_on, value_in, from_result, fails, computed, updates_for}
use Rattle.sv_flat.specs.Targets.{spot_of, spots_of, target_values}
use Rattle.sv_assign.specs.declared.spot.Spot.{Spot as Own_spot}
use Rattle.sv_assign.specs.declared.spot.Spot.TheVariants as spot
use Rattle.sv_assign.specs.Places.{spot_in, spots_in}
use Rattle.sv_stack.specs.declared.effect.Effect.{Effect as Own_effect}
use Rattle.sv_stack.specs.declared.effect.Effect.TheVariants as effect
use Rattle.sv_stack.specs.declared.frames.Frame.{Frame}
use Rattle.sv_eval.specs.declared.stopped.Stopped.{Stopped}
use Rattle.sv_eval.specs.declared.stopped.Stopped.TheVariants.{Memory, Fault}
use Rattle.sv_stack.specs.Effects.{effect_in, Leaves, IsStopped}
use Rattle.sv_process.specs.Parts.{updates, Reaches}

-- ---- updates

-- the first update, and the others
one_then : (t : Own_spot) (x : Val) (ss : List Spot) (vs : List Val) → updates_for (spot_in t ∷ ss) (x ∷ vs) ≡ updates_for (spot_in t ∷ []) (x ∷ []) ++ updates_for ss vs
one_then (spot.Cell t) x ss vs = refl
one_then (spot.Variable n i r) x ss vs = refl
one_then spot.Nowhere x ss vs = refl

pub first_updated : (us more : List Update) (ts rest : List Own_spot) (vs ws : List Val) (t : Own_spot) (x : Val)
    → ts ≡ t ∷ rest → vs ≡ x ∷ ws → more ≡ us ++ updates_for (spot_in t ∷ []) (x ∷ [])
    → more ++ updates_for (spots_in rest) ws ≡ us ++ updates_for (spots_in ts) vs
first_updated us more ts rest vs ws t x e f g =
    ap (λ u. u ++ updates_for (spots_in rest) ws) g ∙ append_assoc us (updates_for (spot_in t ∷ []) (x ∷ [])) (updates_for (spots_in rest) ws)
    ∙ ap (λ u. us ++ u) (sym (one_then t x (spots_in rest) ws)) ∙ sym (λ i. us ++ updates_for (spots_in (e i)) (f i))

pub without_places : (ts : List Own_spot) (vs : List Val) → length ts ≡ 0 → updates_for (spots_in ts) vs ≡ []
without_places [] vs h = refl
without_places (t ∷ ts) vs h = absurd (omega arith)

pub without_values : (ts : List Own_spot) (vs : List Val) → length vs ≡ 0 → updates_for (spots_in ts) vs ≡ []
without_values [] vs h = refl
without_values (t ∷ ts) [] h = no_update (spot_in t) (spots_in ts)
  where
    no_update : (s : Spot) (ss : List Spot) → updates_for (s ∷ ss) [] ≡ []
    no_update s ss = refl
without_values (t ∷ ts) (v ∷ vs) h = absurd (omega arith)

-- ---- the moment

pub at_time : (v : View) (n t : ℕ) (rest : List Todo) (ts : List Lvalue) (x : Val) (ss : List Spot) → t ≡ v.now + n → nat_lt (v.now + n) (2 ^ 63) ≡ true
    → updates v rest ts x n ss ≡ goes_on rest (Update_at t (job.Update (updates_for ss (target_values ts x))) ∷ [])
at_time v n t rest ts x ss e h =
    ap (λ b. if b then goes_on rest (Update_at (v.now + n) (job.Update (updates_for ss (target_values ts x))) ∷ []) else fails fault.Time) h
    ∙ ap (λ m. goes_on rest (Update_at m (job.Update (updates_for ss (target_values ts x))) ∷ [])) (sym e)

pub too_late : (v : View) (n : ℕ) (rest : List Todo) (ts : List Lvalue) (x : Val) (ss : List Spot) → nat_lt (v.now + n) (2 ^ 63) ≡ false
    → updates v rest ts x n ss ≡ fails fault.Time
too_late v n rest ts x ss h =
    ap (λ b. if b then goes_on rest (Update_at (v.now + n) (job.Update (updates_for ss (target_values ts x))) ∷ []) else fails fault.Time) h

-- what the code leaves is what the definition says
left_is : (d : Parts) (fs : List Frame) (es : List Own_effect) (mid rest : List Todo) (v : View) (n t : ℕ) (ts : List Lvalue) (x : Val) (ss : List Spot) (us : List Update)
    → t ≡ v.now + n → nat_lt (v.now + n) (2 ^ 63) ≡ true → us ≡ updates_for ss (target_values ts x) → mid ≡ rest
    → Leaves d fs es (goes_on mid (effect_in d (effect.UpdateAt t (job.Update us)) ∷ [])) → Leaves d fs es (updates v rest ts x n ss)
left_is d fs es mid rest v n t ts x ss us e h list left g =
    subst (Leaves d fs es) (sym (at_time v n t rest ts x ss e h))
    (subst (λ ws. Leaves d fs es (goes_on rest (Update_at t (job.Update ws) ∷ []))) list
    (subst (λ ws. Leaves d fs es (goes_on ws (Update_at t (job.Update us) ∷ []))) left g))

-- ---- without a delay

pub one_place : (l : Lvalue) (v : View) (s : Spot) → spot_of l v ≡ Ok s → spots_of (l ∷ []) v ≡ Ok (s ∷ [])
one_place l v s e = ap (λ r. with_result r (λ s. with_result (spots_of [] v) (λ ss. Ok (s ∷ ss)))) e

pub no_place : (l : Lvalue) (v : View) (k : FaultKind) → spot_of l v ≡ Err k → spots_of (l ∷ []) v ≡ Err k
no_place l v k e = ap (λ r. with_result r (λ s. with_result (spots_of [] v) (λ ss. Ok (s ∷ ss)))) e

computed_gives : (ts : List Lvalue) (e : Expr) (v : View) (go : List Spot → Val → Effects) (ss : List Spot) (x : Val)
    → spots_of ts v ≡ Ok ss → value_of e v ≡ Ok x → computed ts e v go ≡ go ss x
computed_gives ts e v go ss x places value =
    ap (λ r. from_result r (λ us. value_in e v (go us))) places ∙ ap (λ r. from_result r (go ss)) value

pub computed_no_place : (ts : List Lvalue) (e : Expr) (v : View) (k : FaultKind) (go : List Spot → Val → Effects)
    → spots_of ts v ≡ Err k → computed ts e v go ≡ fails k
computed_no_place ts e v k go places = ap (λ r. from_result r (λ us. value_in e v (go us))) places

pub computed_no_value : (ts : List Lvalue) (e : Expr) (v : View) (k : FaultKind) (go : List Spot → Val → Effects) (ss : List Spot)
    → spots_of ts v ≡ Ok ss → value_of e v ≡ Err k → computed ts e v go ≡ fails k
computed_no_value ts e v k go ss places value =
    ap (λ r. from_result r (λ us. value_in e v (go us))) places ∙ ap (λ r. from_result r (go ss)) value

pub computed_too_late : (ts : List Lvalue) (e : Expr) (v : View) (k : FaultKind) (rest : List Todo) (n : ℕ) (ss : List Spot) (x : Val)
    → spots_of ts v ≡ Ok ss → value_of e v ≡ Ok x → (k ≡ fault.Time) × (nat_lt (v.now + n) (2 ^ 63) ≡ false)
    → computed ts e v (λ us y. updates v rest ts y n us) ≡ fails k
computed_too_late ts e v k rest n ss x places value h =
    computed_gives ts e v (λ us y. updates v rest ts y n us) ss x places value ∙ too_late v n rest ts x ss h.1 ∙ ap fails (sym h.0)

pub computed_is : (d : Parts) (fs : List Frame) (es : List Own_effect) (mid rest : List Todo) (v : View) (n t : ℕ) (ts : List Lvalue) (e : Expr) (ss : List Spot) (x : Val) (us : List Update)
    → spots_of ts v ≡ Ok ss → value_of e v ≡ Ok x → (t ≡ v.now + n) × (nat_lt (v.now + n) (2 ^ 63) ≡ true) → us ≡ updates_for ss (target_values ts x) → mid ≡ rest
    → Leaves d fs es (goes_on mid (effect_in d (effect.UpdateAt t (job.Update us)) ∷ []))
    → Leaves d fs es (computed ts e v (λ us y. updates v rest ts y n us))
computed_is d fs es mid rest v n t ts e ss x us places value h list left g =
    subst (Leaves d fs es) (sym (computed_gives ts e v (λ us y. updates v rest ts y n us) ss x places value))
    (left_is d fs es mid rest v n t ts x ss us h.0 h.1 list left g)

-- ---- after a delay

-- what such an assignment does
abbrev pub after_delay : List Todo → List Lvalue → Expr → Expr → Bool → View → Effects
after_delay rest ts e delay in_ticks v =
    value_in delay v (λ n. value_in e v (λ x. from_result (spots_of ts v) (updates v rest ts x (ticks_of in_ticks (vector_in n) v))))

delayed_gives : (rest : List Todo) (ts : List Lvalue) (e delay : Expr) (in_ticks : Bool) (v : View) (n x : Val) → value_of delay v ≡ Ok n → value_of e v ≡ Ok x
    → after_delay rest ts e delay in_ticks v ≡ from_result (spots_of ts v) (updates v rest ts x (ticks_of in_ticks (vector_in n) v))
delayed_gives rest ts e delay in_ticks v n x amount value =
    ap (λ r. from_result r (λ n. value_in e v (λ x. from_result (spots_of ts v) (updates v rest ts x (ticks_of in_ticks (vector_in n) v))))) amount
    ∙ ap (λ r. from_result r (λ x. from_result (spots_of ts v) (updates v rest ts x (ticks_of in_ticks (vector_in n) v)))) value

pub delayed_no_amount : (rest : List Todo) (ts : List Lvalue) (e delay : Expr) (in_ticks : Bool) (v : View) (k : FaultKind) → value_of delay v ≡ Err k
    → after_delay rest ts e delay in_ticks v ≡ fails k
delayed_no_amount rest ts e delay in_ticks v k amount =
    ap (λ r. from_result r (λ n. value_in e v (λ x. from_result (spots_of ts v) (updates v rest ts x (ticks_of in_ticks (vector_in n) v))))) amount

pub delayed_no_value : (rest : List Todo) (ts : List Lvalue) (e delay : Expr) (in_ticks : Bool) (v : View) (k : FaultKind) (n : Val)
    → value_of delay v ≡ Ok n → value_of e v ≡ Err k → after_delay rest ts e delay in_ticks v ≡ fails k
delayed_no_value rest ts e delay in_ticks v k n amount value =
    ap (λ r. from_result r (λ n. value_in e v (λ x. from_result (spots_of ts v) (updates v rest ts x (ticks_of in_ticks (vector_in n) v))))) amount
    ∙ ap (λ r. from_result r (λ x. from_result (spots_of ts v) (updates v rest ts x (ticks_of in_ticks (vector_in n) v)))) value

pub delayed_no_place : (rest : List Todo) (ts : List Lvalue) (e delay : Expr) (in_ticks : Bool) (v : View) (k : FaultKind) (n x : Val)
    → value_of delay v ≡ Ok n → value_of e v ≡ Ok x → spots_of ts v ≡ Err k → after_delay rest ts e delay in_ticks v ≡ fails k
delayed_no_place rest ts e delay in_ticks v k n x amount value places =
    delayed_gives rest ts e delay in_ticks v n x amount value ∙ ap (λ r. from_result r (updates v rest ts x (ticks_of in_ticks (vector_in n) v))) places

pub delayed_too_late : (rest : List Todo) (ts : List Lvalue) (e delay : Expr) (in_ticks : Bool) (v : View) (k : FaultKind) (n x : Val) (ss : List Spot) (m : ℕ)
    → value_of delay v ≡ Ok n → value_of e v ≡ Ok x → spots_of ts v ≡ Ok ss → m ≡ ticks_of in_ticks (vector_in n) v
    → (k ≡ fault.Time) × (nat_lt (v.now + m) (2 ^ 63) ≡ false) → after_delay rest ts e delay in_ticks v ≡ fails k
delayed_too_late rest ts e delay in_ticks v k n x ss m amount value places ticks h =
    delayed_gives rest ts e delay in_ticks v n x amount value ∙ ap (λ r. from_result r (updates v rest ts x (ticks_of in_ticks (vector_in n) v))) places
    ∙ ap (λ j. updates v rest ts x j ss) (sym ticks) ∙ too_late v m rest ts x ss h.1 ∙ ap fails (sym h.0)

pub stopped_late : (f : Stopped) (rest : List Todo) (ts : List Lvalue) (e delay : Expr) (in_ticks : Bool) (v : View) (n x : Val) (ss : List Spot) (m : ℕ)
    → value_of delay v ≡ Ok n → value_of e v ≡ Ok x → spots_of ts v ≡ Ok ss → m ≡ ticks_of in_ticks (vector_in n) v
    → Reaches (Err f) v m → IsStopped f (after_delay rest ts e delay in_ticks v)
stopped_late (Fault k) rest ts e delay in_ticks v n x ss m amount value places ticks h =
    delayed_too_late rest ts e delay in_ticks v k n x ss m amount value places ticks h
stopped_late Memory rest ts e delay in_ticks v n x ss m amount value places ticks h = tt

pub delayed_is : (d : Parts) (fs : List Frame) (es : List Own_effect) (mid rest : List Todo) (ts : List Lvalue) (e delay : Expr) (in_ticks : Bool) (v : View)
    (n x : Val) (ss : List Spot) (m t : ℕ) (us : List Update)
    → value_of delay v ≡ Ok n → value_of e v ≡ Ok x → spots_of ts v ≡ Ok ss → m ≡ ticks_of in_ticks (vector_in n) v
    → (t ≡ v.now + m) × (nat_lt (v.now + m) (2 ^ 63) ≡ true) → us ≡ updates_for ss (target_values ts x) → mid ≡ rest
    → Leaves d fs es (goes_on mid (effect_in d (effect.UpdateAt t (job.Update us)) ∷ [])) → Leaves d fs es (after_delay rest ts e delay in_ticks v)
delayed_is d fs es mid rest ts e delay in_ticks v n x ss m t us amount value places ticks h list left g =
    subst (Leaves d fs es) (sym (delayed_gives rest ts e delay in_ticks v n x amount value
    ∙ ap (λ r. from_result r (updates v rest ts x (ticks_of in_ticks (vector_in n) v))) places ∙ ap (λ j. updates v rest ts x j ss) (sym ticks)))
    (left_is d fs es mid rest v m t ts x ss us h.0 h.1 list left g)
