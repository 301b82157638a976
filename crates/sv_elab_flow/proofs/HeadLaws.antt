-- Rows of labels, one behind another.
use Rattle.std.proofs.Common.{◌≡◌, ◌∙◌, List, [], ◌∷◌, ◌++◌, refl, sym, ap, append_assoc, append-nil}
use Rattle.sv_flat.specs.declared.context.Context.{Context}
use Rattle.sv_names.specs.declared.hoisted.Hoisted.{Hoisted}
use Rattle.sv_names.specs.Cases.{Placed}
use Rattle.sv_names.specs.Hoisted.{pure, paired, in_row}
use Rattle.sv_names.specs.Types.{width_of_type, sign_of_type}
use Rattle.std.specs.Prelude.{max, ◌&&◌}
use Rattle.sv_elab_flow.specs.Heads.{with_labels, both_rows}

-- labels, and then further ones
pub with_more : (c : Context) (ps qs : List Placed) → with_labels (with_labels c ps) qs ≡ with_labels c (ps ++ qs)
with_more c [] qs = refl
with_more c (p ∷ ps) qs = with_more (record { width = max c.width (width_of_type p.1.ty); signed = c.signed && sign_of_type p.1.ty }) ps qs

-- a part behind a row stands before what follows
pub row_next : {A : Type 0} (row : Hoisted (List A)) (x : Hoisted A) (xs : List (Hoisted A))
    → both_rows (paired (λ ys y. ys ++ y ∷ []) row x) (in_row xs) ≡ both_rows row (in_row (x ∷ xs))
row_next row x xs =
    λ i. record {
      hidden = append_assoc row.hidden x.hidden (in_row xs).hidden i;
      calls = append_assoc row.calls x.calls (in_row xs).calls i;
      value = append_assoc row.value (x.value ∷ []) (in_row xs).value i;
    }

-- nothing stands before
pub row_first : {A : Type 0} (row : Hoisted (List A)) → both_rows (pure []) row ≡ row
row_first row = refl

-- nothing stands behind
pub row_last : {A : Type 0} (row : Hoisted (List A)) → both_rows row (pure []) ≡ row
row_last row = λ i. record { hidden = append-nil row.hidden i; calls = append-nil row.calls i; value = append-nil row.value i }

-- where nothing is left
pub row_rest : {A : Type 0} (row : Hoisted (List A)) (rest : List (Hoisted A)) (whole : Hoisted (List A)) → rest ≡ []
    → both_rows row (in_row rest) ≡ whole → row ≡ whole
row_rest {A = A} row rest whole nothing so_far =
    sym (row_last row) ∙ sym (ap (λ (xs : List (Hoisted A)). both_rows row (in_row xs)) nothing) ∙ so_far
