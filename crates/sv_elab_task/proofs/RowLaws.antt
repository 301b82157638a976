-- Values with their calls, one behind another.
use Rattle.std.proofs.Common.{◌≡◌, List, [], ◌∷◌, ◌++◌, refl, append_assoc, append-nil}
use Rattle.sv_flat.specs.Expr as flat
use Rattle.sv_names.specs.declared.hoisted.Hoisted.{Hoisted}
use Rattle.sv_names.specs.Hoisted.{pure, paired, in_row}

-- one row behind another
abbrev pub both_rows : Hoisted (List flat.Expr) → Hoisted (List flat.Expr) → Hoisted (List flat.Expr)
both_rows as' bs = paired (λ xs ys. xs ++ ys) as' bs

-- a part behind a row stands before what follows
pub row_next : (row : Hoisted (List flat.Expr)) (x : Hoisted flat.Expr) (xs : List (Hoisted flat.Expr))
    → both_rows (paired (λ ys y. ys ++ y ∷ []) row x) (in_row xs) ≡ both_rows row (in_row (x ∷ xs))
row_next row x xs =
    λ i. record {
      hidden = append_assoc row.hidden x.hidden (in_row xs).hidden i;
      calls = append_assoc row.calls x.calls (in_row xs).calls i;
      value = append_assoc row.value (x.value ∷ []) (in_row xs).value i;
    }

-- nothing stands before
pub row_first : (row : Hoisted (List flat.Expr)) → both_rows (pure []) row ≡ row
row_first row = refl

-- nothing stands behind
pub row_last : (row : Hoisted (List flat.Expr)) → both_rows row (pure []) ≡ row
row_last row = λ i. record { hidden = append-nil row.hidden i; calls = append-nil row.calls i; value = append-nil row.value i }
