-- How routines are put behind others.
use Rattle.std.proofs.Common.{◌≡◌, List, [], ◌∷◌, ◌++◌, sym, ap, ◌∙◌, append_assoc, append-nil}
use Rattle.sv_value.specs.declared.number.RoutineId.{RoutineId}

-- none is put behind
pub none_behind : (rs : List RoutineId) → rs ≡ rs ++ []
none_behind rs = sym (append-nil rs)

-- some are put behind, and then others
pub both_behind : (a b c xs ys : List RoutineId) → b ≡ a ++ xs → c ≡ b ++ ys → c ≡ a ++ (xs ++ ys)
both_behind a b c xs ys p q = q ∙ ap (λ l. l ++ ys) p ∙ append_assoc a xs ys

-- one is put behind, then others, and no children of a fork
pub first_behind : (a b c ys : List RoutineId) (r : RoutineId) → b ≡ a ++ r ∷ [] → c ≡ b ++ ys → c ≡ a ++ (r ∷ (ys ++ []))
first_behind a b c ys r p q =
    both_behind a b c (r ∷ []) ys p q ∙ ap (λ l. a ++ (r ∷ l)) (sym (append-nil ys))

-- and no children of a fork
pub no_children : (a b xs : List RoutineId) → b ≡ a ++ xs → b ≡ a ++ (xs ++ [])
no_children a b xs is = is ∙ ap (λ l. a ++ l) (sym (append-nil xs))

-- what is put behind in a turn is what the rest begins with
pub turn_behind : (a b ys : List RoutineId) (r : RoutineId) → b ≡ a ++ r ∷ [] → b ++ ys ≡ a ++ (r ∷ ys)
turn_behind a b ys r is = ap (λ l. l ++ ys) is ∙ append_assoc a (r ∷ []) ys

-- the last turn has put all behind
pub all_behind : (a b xs : List RoutineId) → b ++ [] ≡ a ++ xs → b ≡ a ++ xs
all_behind a b xs is = sym (append-nil b) ∙ is
