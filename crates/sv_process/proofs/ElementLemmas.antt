-- Turns of a `foreach` of a fixed array.
use Rattle.std.proofs.Common.{ℕ, ◌≡◌, ◌+◌, List, [], ◌∷◌, ◌++◌, None, Some, Bool, true, false, ap, subst, sym, ◌∙◌}
use Rattle.std.specs.Prelude.{if◌then◌else◌, nat_lt}
use Rattle.std.proofs.lemmas.List.{map-append}
use Rattle.sv_value.specs.declared.number.RoutineId.{RoutineId}
use Rattle.sv_value.specs.declared.val.Val.TheVariants as val
use Rattle.sv_value.specs.Vector.{Vector, vector}
use Rattle.sv_value.specs.Operators.{integer_symbols}
use Rattle.sv_flat.specs.declared.object.Bounds.{Bounds}
use Rattle.sv_flat.specs.declared.stmt.Stmt.{Stmt}
use Rattle.sv_flat.specs.declared.design.Parts.{Parts}
use Rattle.sv_flat.specs.Eval.{element_count}
use Rattle.sv_flat.specs.State.{Name}
use Rattle.sv_flat.specs.Process.{Todo, Walk_elements, Write, Variable_of, body_in}
use Rattle.sv_flat.specs.Statements.Loops.{element_index, element_turn}
use Rattle.sv_flat.specs.Statements.Shared.{Effects, goes_on}
use Rattle.sv_built.specs.declared.position.Position.{Position}
use Rattle.sv_built.specs.Positions.{stmt_at}
use Rattle.sv_assign.specs.declared.spot.Spot.TheVariants as spot
use Rattle.sv_stack.specs.declared.effect.Effect.{Effect as Own_effect}
use Rattle.sv_stack.specs.declared.effect.Effect.TheVariants as effect
use Rattle.sv_stack.specs.declared.frames.Frame.{Frame}
use Rattle.sv_stack.specs.Frames.{elements_at}
use Rattle.sv_stack.specs.Effects.{effect_in, effects_in, Leaves}

-- what a walk does, by whether an element is left
turn_by : (d : Parts) (s : Stmt) (b : Bounds) (body : RoutineId) (n : ℕ) (name : Name) (rest : List Todo) (before : Effects) (t : Bool) → nat_lt n (element_count b) ≡ t
    → element_turn d s b body n name rest before
    ≡ (if t then goes_on (body_in d body (Some name) ++ Walk_elements s (n + 1) (Some name) ∷ rest)
    (before ++ Write (Variable_of name 0 None) (val.Bits (vector true (integer_symbols 32 (element_index b n)))) ∷ [])
    else goes_on rest before)
turn_by d s b body n name rest before t is =
    ap (λ u. if u then goes_on (body_in d body (Some name) ++ Walk_elements s (n + 1) (Some name) ∷ rest)
    (before ++ Write (Variable_of name 0 None) (val.Bits (vector true (integer_symbols 32 (element_index b n)))) ∷ [])
    else goes_on rest before) is

-- no element is left
pub no_element : (d : Parts) (fs : List Frame) (es : List Own_effect) (s : Stmt) (b : Bounds) (body : RoutineId) (n : ℕ) (name : Name) (rest : List Todo) (before : Effects)
    → nat_lt n (element_count b) ≡ false → Leaves d fs es (goes_on rest before) → Leaves d fs es (element_turn d s b body n name rest before)
no_element d fs es s b body n name rest before is h = subst (Leaves d fs es) (sym (turn_by d s b body n name rest before false is)) h

-- one element more
pub one_element : (d : Parts) (fs : List Frame) (es old out : List Own_effect) (p : Position) (s : Stmt) (b : Bounds) (body : RoutineId) (n m : ℕ) (name : Name)
    (rest : List Todo) (index : Vector)
    → stmt_at d p ≡ Some s → nat_lt n (element_count b) ≡ true → m ≡ n + 1 → index ≡ vector true (integer_symbols 32 (element_index b n))
    → out ≡ old ++ effect.Write (spot.Variable name 0 None) (val.Bits index) ∷ []
    → Leaves d fs es (goes_on (body_in d body (Some name) ++ (elements_at (stmt_at d p) m (Some name) ++ rest)) (effects_in d out))
    → Leaves d fs es (element_turn d s b body n name rest (effects_in d old))
one_element d fs es old out p s b body n m name rest index at is next indexed put h =
    subst (Leaves d fs es) (sym (turn_by d s b body n name rest (effects_in d old) true is))
    (subst (Leaves d fs es) (λ i. goes_on (body_in d body (Some name) ++ (walk i ++ rest)) (effects i)) h)
  where
    walk : elements_at (stmt_at d p) m (Some name) ≡ Walk_elements s (n + 1) (Some name) ∷ []
    walk = ap (λ o. elements_at o m (Some name)) at ∙ ap (λ k. Walk_elements s k (Some name) ∷ []) next

    effects : effects_in d out ≡ effects_in d old ++ Write (Variable_of name 0 None) (val.Bits (vector true (integer_symbols 32 (element_index b n)))) ∷ []
    effects =
        ap (effects_in d) put ∙ map-append (effect_in d) old (effect.Write (spot.Variable name 0 None) (val.Bits index) ∷ [])
        ∙ ap (λ v. effects_in d old ++ Write (Variable_of name 0 None) (val.Bits v) ∷ []) indexed
