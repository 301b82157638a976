-- Forks: their children start at once, or behind their initializers.
use Rattle.std.proofs.Common.{◌≡◌, ◌<◌, List, [], ◌∷◌, ◌++◌, Option, None, Some, length, ap, subst, refl, ◌∙◌, arith}
use Rattle.std.proofs.lemmas.List.{map-append}
use Rattle.sv_value.specs.declared.number.RoutineId.{RoutineId}
use Rattle.sv_flat.specs.declared.object.Declared.{Declared}
use Rattle.sv_flat.specs.declared.stmt.JoinKind.{JoinKind}
use Rattle.sv_flat.specs.declared.stmt.Stmt.{Stmt}
use Rattle.sv_flat.specs.declared.stmt.Form.TheVariants as form
use Rattle.sv_flat.specs.declared.design.Parts.{Parts}
use Rattle.sv_flat.specs.State.{Name, View}
use Rattle.sv_flat.specs.Process.{Todo, Effect, Enter, Remain, Spawn, Start_children, body_in, types_of}
use Rattle.sv_flat.specs.Statements.{forked, spawn}
use Rattle.sv_flat.specs.Statements.Shared.{Effects, Site, ending, goes_on}
use Rattle.sv_built.specs.declared.entered.Entered.TheVariants as entered
use Rattle.sv_built.specs.declared.position.Position.{Position}
use Rattle.sv_built.specs.Entered.{types_at, types_of_block, types_of_form}
use Rattle.sv_built.specs.Positions.{stmt_at}
use Rattle.sv_stack.specs.declared.effect.Effect.{Effect as Own_effect}
use Rattle.sv_stack.specs.declared.effect.Effect.TheVariants as effect
use Rattle.sv_stack.specs.declared.frames.Frame.{Frame}
use Rattle.sv_stack.specs.declared.frames.Frame.TheVariants as frame
use Rattle.sv_stack.specs.Frames.{children_at, children_of, todos_of}
use Rattle.sv_stack.specs.Effects.{effect_in, effects_in, spawn_at, spawn_of, Leaves}
use Rattle.sv_process.specs.Parts.{fork_run, fork_starts, site_at}

-- the children that start
spawn_is : (d : Parts) (p : Position) (s : Stmt) (vs : List Declared) (initializers : Option RoutineId) (children : List RoutineId) (join : JoinKind) (scope : Option Name)
    → stmt_at d p ≡ Some s → s.form ≡ form.Fork vs initializers children join → effect_in d (effect.Spawn p scope) ≡ Spawn children scope join
spawn_is d p s vs initializers children join scope at is = ap (λ o. spawn_at o scope) at ∙ ap (λ f. spawn_of f scope) is

append_one : (xs ys : Effects) (e : Effect) → (xs ++ e ∷ []) ++ ys ≡ xs ++ e ∷ ys
append_one [] ys e = refl
append_one (x ∷ xs) ys e = ap (λ zs. x ∷ zs) (append_one xs ys e)

-- children that start at once
pub spawned_behind : (d : Parts) (fs : List Frame) (before mid es : List Own_effect) (p : Position) (s : Stmt) (vs : List Declared) (children : List RoutineId) (join : JoinKind)
    (scope : Option Name) (rest : List Todo) → stmt_at d p ≡ Some s → s.form ≡ form.Fork vs None children join → mid ≡ before ++ effect.Spawn p scope ∷ []
    → Leaves d fs es (goes_on rest (effects_in d mid)) → Leaves d fs es (fork_starts d s.at None children join scope (effects_in d before) rest)
spawned_behind d fs before mid es p s vs children join scope rest at is new h = subst (Leaves d fs es) same h
  where
    spawns : effects_in d mid ≡ effects_in d before ++ Spawn children scope join ∷ []
    spawns =
        ap (effects_in d) new ∙ map-append (effect_in d) before (effect.Spawn p scope ∷ [])
        ∙ ap (λ e. effects_in d before ++ e ∷ []) (spawn_is d p s vs None children join scope at is)

    same : goes_on rest (effects_in d mid) ≡ spawn children join scope rest (effects_in d before)
    same = ap (goes_on rest) spawns ∙ ap (λ es. Remain rest ∷ es) (append_one (effects_in d before) (ending rest) (Spawn children scope join))

-- children that start behind their initializers
pub started_behind : (d : Parts) (fs mid left : List Frame) (before es : List Own_effect) (p : Position) (s : Stmt) (vs : List Declared) (r : RoutineId) (children : List RoutineId)
    (join : JoinKind) (scope : Option Name) → stmt_at d p ≡ Some s → s.form ≡ form.Fork vs (Some r) children join
    → mid ≡ frame.Rest (record { routine = r; place = 0 }) scope ∷ frame.Children p scope ∷ left
    → Leaves d fs es (goes_on (todos_of d mid) (effects_in d before)) → Leaves d fs es (fork_starts d s.at (Some r) children join scope (effects_in d before) (todos_of d left))
started_behind d fs mid left before es p s vs r children join scope at is new h = subst (λ ts. Leaves d fs es (goes_on ts (effects_in d before))) same h
  where
    starts : children_at (stmt_at d p) scope ≡ Start_children s.at children join scope ∷ []
    starts = ap (λ o. children_at o scope) at ∙ ap (λ f. children_of s.at f scope) is

    same : todos_of d mid ≡ body_in d r scope ++ Start_children s.at children join scope ∷ todos_of d left
    same = ap (todos_of d) new ∙ ap (λ ts. body_in d r scope ++ (ts ++ todos_of d left)) starts

-- the same as the definition has it
fork_is : (d : Parts) (here : Site) (initializers : Option RoutineId) (children : List RoutineId) (join : JoinKind) (scope : Option Name) (before : Effects)
    → fork_starts d here.at initializers children join scope before here.rest ≡ forked d here initializers children join scope before
fork_is d here None children join scope before = refl
fork_is d here (Some r) children join scope before = refl

-- a fork that declares nothing
pub without_variables : (d : Parts) (fs : List Frame) (before es : List Own_effect) (s : Stmt) (v : View) (vs : List Declared) (initializers : Option RoutineId)
    (children : List RoutineId) (join : JoinKind) (outer scope : Option Name) (next : Name) (rest : List Todo)
    → length vs ≡ 0 → before ≡ [] → Leaves d fs es (fork_starts d s.at initializers children join outer (effects_in d before) rest)
    → Leaves d fs es (fork_run d (site_at s v scope next rest) outer vs initializers children join)
without_variables d fs before es s v [] initializers children join outer scope next rest none first h =
    subst (Leaves d fs es)
    (ap (λ xs. fork_starts d s.at initializers children join outer (effects_in d xs) rest) first ∙ fork_is d (site_at s v scope next rest) initializers children join outer []) h
without_variables d fs before es s v (x ∷ vs) initializers children join outer scope next rest none first h = absurd (omega arith)

-- a fork with an activation
pub with_variables : (d : Parts) (fs : List Frame) (before mid es : List Own_effect) (p : Position) (s : Stmt) (v : View) (vs : List Declared) (initializers : Option RoutineId)
    (children : List RoutineId) (join : JoinKind) (outer scope : Option Name) (next : Name) (rest : List Todo)
    → stmt_at d p ≡ Some s → s.form ≡ form.Fork vs initializers children join → 0 < length vs → before ≡ [] → mid ≡ before ++ effect.Enter (entered.Block p) outer ∷ []
    → Leaves d fs es (fork_starts d s.at initializers children join (Some next) (effects_in d mid) rest)
    → Leaves d fs es (fork_run d (site_at s v scope next rest) outer vs initializers children join)
with_variables d fs before mid es p s v [] initializers children join outer scope next rest at is some first new h = absurd (omega arith)
with_variables d fs before mid es p s v (x ∷ vs) initializers children join outer scope next rest at is some first new h =
    let types : types_at d (entered.Block p) ≡ types_of (x ∷ vs) = ap types_of_block at ∙ ap types_of_form is in
    let enters : effects_in d mid ≡ Enter (types_of (x ∷ vs)) outer ∷ [] =
    ap (effects_in d) (new ∙ ap (λ xs. xs ++ effect.Enter (entered.Block p) outer ∷ []) first) ∙ ap (λ ts. Enter ts outer ∷ []) types in
    subst (Leaves d fs es)
    (ap (λ bs. fork_starts d s.at initializers children join (Some next) bs rest) enters
    ∙ fork_is d (site_at s v scope next rest) initializers children join (Some next) (Enter (types_of (x ∷ vs)) outer ∷ [])) h

-- children whose initializers have run
pub spawned_here : (d : Parts) (fs : List Frame) (es : List Own_effect) (p : Position) (s : Stmt) (vs : List Declared) (initializers : Option RoutineId)
    (children : List RoutineId) (join : JoinKind) (scope : Option Name) (rest : List Todo) → stmt_at d p ≡ Some s → s.form ≡ form.Fork vs initializers children join
    → Leaves d fs es (goes_on rest (effect_in d (effect.Spawn p scope) ∷ [])) → Leaves d fs es (spawn children join scope rest [])
spawned_here d fs es p s vs initializers children join scope rest at is h =
    subst (λ e. Leaves d fs es (goes_on rest (e ∷ []))) (spawn_is d p s vs initializers children join scope at is) h
