-- Turns of a `repeat`.
use Rattle.std.proofs.Common.{ℕ, ◌≡◌, ◌-◌, ◌<◌, zero, suc, List, [], ◌∷◌, ◌++◌, Option, None, Some, true, false, refl, ap, subst, sym, ◌∙◌, arith}
use Rattle.std.specs.Prelude.{if◌then◌else◌, Bool, ℤ, pos, unwrap_or}
use Rattle.sv_value.specs.declared.place.Place.{Place}
use Rattle.sv_value.specs.declared.number.RoutineId.{RoutineId}
use Rattle.sv_value.specs.Vector.{Vector, is_known}
use Rattle.sv_value.specs.Operators.{integer}
use Rattle.sv_value.specs.Containers.{natural}
use Rattle.sv_flat.specs.declared.stmt.Stmt.{Stmt}
use Rattle.sv_flat.specs.declared.stmt.Form.TheVariants as form
use Rattle.sv_flat.specs.declared.design.Parts.{Parts}
use Rattle.sv_flat.specs.Expr.{Expr}
use Rattle.sv_flat.specs.Eval.{known_index}
use Rattle.sv_flat.specs.State.{Name}
use Rattle.sv_flat.specs.Process.{Todo, Turns, body_in}
use Rattle.sv_flat.specs.Statements.Loops.{repeated}
use Rattle.sv_flat.specs.Statements.Shared.{goes_on, count_of}
use Rattle.sv_built.specs.declared.position.Position.{Position}
use Rattle.sv_built.specs.Positions.{stmt_at}
use Rattle.sv_stack.specs.declared.effect.Effect.{Effect as Own_effect}
use Rattle.sv_stack.specs.declared.frames.Frame.{Frame}
use Rattle.sv_stack.specs.Frames.{turns_of, turns_at, todos_of}
use Rattle.sv_stack.specs.Effects.{Leaves}

-- no turn is left
pub no_turn : (d : Parts) (at : Place) (n : ℕ) (body : RoutineId) (scope : Option Name) (ts : List Todo) (fs : List Frame) (es : List Own_effect) → n ≡ 0
    → Leaves d fs es (goes_on ts []) → Leaves d fs es (repeated d at n body scope ts)
no_turn d at n body scope ts fs es e h = subst (λ k. Leaves d fs es (repeated d at k body scope ts)) (sym e) h

-- one turn more
pub one_turn : (d : Parts) (p : Position) (s : Stmt) (e : Expr) (body : RoutineId) (n : ℕ) (scope : Option Name) (old mid fs : List Frame) (es : List Own_effect)
    → stmt_at d p ≡ Some s → s.form ≡ form.Repeat e body → 0 < n
    → todos_of d mid ≡ body_in d body scope ++ (turns_at (stmt_at d p) (n - 1) scope ++ todos_of d old)
    → Leaves d fs es (goes_on (todos_of d mid) []) → Leaves d fs es (repeated d s.at n body scope (todos_of d old))
one_turn d p s e body zero scope old mid fs es at is more g h = absurd (omega arith)
one_turn d p s e body (suc k) scope old mid fs es at is more g h =
    let less : suc k - 1 ≡ k = omega arith in
    let turn : turns_at (stmt_at d p) (suc k - 1) scope ≡ Turns s.at k body scope ∷ [] =
    ap (λ n. turns_at (stmt_at d p) n scope) less ∙ ap (λ o. turns_at o k scope) at ∙ ap (λ f. turns_of s.at f k scope) is in
    subst (λ ts. Leaves d fs es (goes_on ts [])) (g ∙ ap (λ u. body_in d body scope ++ (u ++ todos_of d old)) turn) h

-- ---- how many turns

pub counted : (v : Vector) (z : ℤ) (n : ℕ) → known_index v ≡ Some z → z ≡ pos n → n ≡ unwrap_or (count_of v) 0
counted v z n h e = by_symbols (is_known v.symbols) refl h
  where
    by_symbols : (b : Bool) → is_known v.symbols ≡ b → (if b then Some (integer v) else None) ≡ Some z
        → n ≡ unwrap_or (if b then natural (integer v) else None) 0
    by_symbols true k g = sym (ap (λ u. unwrap_or (natural u) 0) (the_same g ∙ e))
      where
        the_same : {a b : ℤ} → Some a ≡ Some b → a ≡ b
        the_same h = cc
    by_symbols false k g = cc

pub unknown : (v : Vector) → known_index v ≡ None → 0 ≡ unwrap_or (count_of v) 0
unknown v h = by_symbols (is_known v.symbols) refl h
  where
    by_symbols : (b : Bool) → is_known v.symbols ≡ b → (if b then Some (integer v) else None) ≡ None
        → 0 ≡ unwrap_or (if b then natural (integer v) else None) 0
    by_symbols true k g = cc
    by_symbols false k g = refl
