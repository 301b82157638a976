-- The end of a statement.
use Rattle.std.proofs.Common.{◌≡◌, List, [], ◌∷◌, ◌++◌, true, false, refl, ap, sym, ◌∙◌}
use Rattle.std.proofs.lemmas.List.{append-nil, map-append}
use Rattle.sv_flat.specs.declared.design.Parts.{Parts}
use Rattle.sv_flat.specs.Process.{Todo, Remain}
use Rattle.sv_flat.specs.Statements.Shared.{ending, goes_on}
use Rattle.sv_stack.specs.declared.effect.Effect.{Effect as Own_effect}
use Rattle.sv_stack.specs.declared.effect.Effect.TheVariants as effect
use Rattle.sv_stack.specs.declared.frames.Frame.{Frame}
use Rattle.sv_stack.specs.Frames.{todos_of, is_more}
use Rattle.sv_stack.specs.Effects.{effect_in, effects_in, Leaves}

-- where something is left, nothing is added
pub not_ended : (d : Parts) (fs : List Frame) (es : List Own_effect) (ts : List Todo) → todos_of d fs ≡ ts → is_more (todos_of d fs) ≡ true
    → Leaves d fs es (goes_on ts (effects_in d es))
not_ended d fs es ts e h =
    sym (ap (λ us. goes_on us (effects_in d es)) e) ∙ ap (λ u. Remain (todos_of d fs) ∷ effects_in d es ++ u) (no_end (todos_of d fs) h)
    ∙ ap (λ u. Remain (todos_of d fs) ∷ u) (append-nil (effects_in d es))
  where
    no_end : (ts : List Todo) → is_more ts ≡ true → ending ts ≡ []
    no_end [] h = cc
    no_end (t ∷ ts) h = refl

-- where nothing is left, the process is at its end
pub ended : (d : Parts) (fs : List Frame) (es fin : List Own_effect) (ts : List Todo) → todos_of d fs ≡ ts → is_more (todos_of d fs) ≡ false
    → fin ≡ es ++ effect.End ∷ [] → Leaves d fs fin (goes_on ts (effects_in d es))
ended d fs es fin ts e h g =
    sym (ap (λ us. goes_on us (effects_in d es)) e) ∙ ap (λ u. Remain (todos_of d fs) ∷ effects_in d es ++ u) (an_end (todos_of d fs) h)
    ∙ ap (λ u. Remain (todos_of d fs) ∷ u) (sym (ap (effects_in d) g ∙ map-append (effect_in d) es (effect.End ∷ [])))
  where
    an_end : (ts : List Todo) → is_more ts ≡ false → ending ts ≡ effects_in d (effect.End ∷ [])
    an_end [] h = refl
    an_end (t ∷ ts) h = cc
