-- The operands that are of objects.
use Rattle.std.proofs.Common.{◌≡◌, ℕ, ◌+◌, Bool, true, false, List, [], ◌∷◌, ◌++◌, length, map, refl, sym, ap, ◌∙◌, append_assoc, append-nil, if◌then◌else◌}
use Rattle.std.specs.Prelude.{filter}
use Rattle.sv_flat.specs.declared.process.Watch.{Watch}
use Rattle.sv_flat.specs.declared.class.Routine.{Routine}
use Rattle.sv_flat.specs.declared.stmt.Stmt.{Stmt}
use Rattle.sv_flat.specs.Expr.{Expr}
use Rattle.sv_names.specs.Connections.{is_of_object, watched_by}
use Rattle.sv_names.specs.Watched.{operands_of, body_from, on_change}

-- nothing is kept
pub none_kept : (es : List Expr) → es ≡ es ++ []
none_kept es = sym (append-nil es)

-- the first operand, and those behind it
first_kept : (e : Expr) (es : List Expr)
    → (if is_of_object e then e ∷ [] else []) ++ filter is_of_object es ≡ filter is_of_object (e ∷ es)
first_kept e es = by (is_of_object e)
  where
    by : (b : Bool) → (if b then e ∷ [] else []) ++ filter is_of_object es ≡ (if b then e ∷ filter is_of_object es else filter is_of_object es)
    by true = refl
    by false = refl

-- a turn of a loop over operands
pub kept_turn : (all rest kept kept' : List Expr) (e : Expr) → all ≡ e ∷ rest → kept' ≡ kept ++ (if is_of_object e then e ∷ [] else [])
    → kept' ++ filter is_of_object rest ≡ kept ++ filter is_of_object all
kept_turn all rest kept kept' e is put =
    ap (λ l. l ++ filter is_of_object rest) put
    ∙ append_assoc kept (if is_of_object e then e ∷ [] else []) (filter is_of_object rest)
    ∙ ap (λ l. kept ++ l) (first_kept e rest ∙ ap (filter is_of_object) (sym is))

-- what a process watches
pub watched_is : (n : ℕ) (added : List Routine) (ss : List Stmt) (es os : List Expr) (ws : List Watch) → added ≡ []
    → es ≡ operands_of (body_from 0 added) (length added + 1) 0 ss → os ≡ filter is_of_object es → ws ≡ map on_change os
    → ws ≡ watched_by n (ss, [])
watched_is n added ss es os ws none read objects is =
    let without : es ≡ operands_of (body_from n []) 1 0 ss =
    read ∙ ap (λ (rs : List Routine). operands_of (body_from 0 rs) (length rs + 1) 0 ss) none in
    is ∙ ap (map on_change) (objects ∙ ap (filter is_of_object) without)
