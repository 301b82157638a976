-- Blocks with variables, and without.
use Rattle.std.proofs.Common.{◌≡◌, ◌<◌, List, [], ◌∷◌, ◌++◌, Option, Some, length, ap, subst, ◌∙◌, arith}
use Rattle.sv_value.specs.declared.number.RoutineId.{RoutineId}
use Rattle.sv_flat.specs.declared.object.Declared.{Declared}
use Rattle.sv_flat.specs.declared.stmt.Stmt.{Stmt}
use Rattle.sv_flat.specs.declared.stmt.Form.TheVariants as form
use Rattle.sv_flat.specs.declared.design.Parts.{Parts}
use Rattle.sv_flat.specs.State.{Name}
use Rattle.sv_flat.specs.Process.{Todo, Enter, body_in, types_of}
use Rattle.sv_flat.specs.Statements.Loops.{entered_with, inside}
use Rattle.sv_flat.specs.Statements.Shared.{goes_on}
use Rattle.sv_built.specs.declared.entered.Entered.TheVariants as entered
use Rattle.sv_built.specs.declared.position.Position.{Position}
use Rattle.sv_built.specs.Entered.{types_at, types_of_block, types_of_form}
use Rattle.sv_built.specs.Positions.{stmt_at}
use Rattle.sv_stack.specs.declared.effect.Effect.{Effect as Own_effect}
use Rattle.sv_stack.specs.declared.effect.Effect.TheVariants as effect
use Rattle.sv_stack.specs.declared.frames.Frame.{Frame}
use Rattle.sv_stack.specs.Effects.{effect_in, Leaves}

-- a block that declares nothing
pub without_variables : (d : Parts) (fs : List Frame) (es : List Own_effect) (ls : List Declared) (body : RoutineId) (outer : Option Name) (next : Name) (rest : List Todo)
    → length ls ≡ 0 → Leaves d fs es (goes_on (body_in d body outer ++ rest) [])
    → Leaves d fs es (goes_on (body_in d body (inside ls outer next) ++ rest) (entered_with ls outer))
without_variables d fs es [] body outer next rest none h = h
without_variables d fs es (l ∷ ls) body outer next rest none h = absurd (omega arith)

-- a block with an activation
pub with_variables : (d : Parts) (fs : List Frame) (es : List Own_effect) (p : Position) (s : Stmt) (ls : List Declared) (body : RoutineId) (outer : Option Name)
    (next : Name) (rest : List Todo)
    → stmt_at d p ≡ Some s → s.form ≡ form.Block ls body → 0 < length ls
    → Leaves d fs es (goes_on (body_in d body (Some next) ++ rest) (effect_in d (effect.Enter (entered.Block p) outer) ∷ []))
    → Leaves d fs es (goes_on (body_in d body (inside ls outer next) ++ rest) (entered_with ls outer))
with_variables d fs es p s [] body outer next rest at is some h = absurd (omega arith)
with_variables d fs es p s (l ∷ ls) body outer next rest at is some h =
    let types : types_at d (entered.Block p) ≡ types_of (l ∷ ls) = ap types_of_block at ∙ ap types_of_form is in
    subst (λ ts. Leaves d fs es (goes_on (body_in d body (Some next) ++ rest) (Enter ts outer ∷ []))) types h
