-- The routines of the items of a `case`, item by item.
use Rattle.std.proofs.Common.{arith, ◌≡◌, ◌∙◌, ◌<◌, List, [], ◌∷◌, ◌++◌, Option, None, length, refl, sym, ap, append-nil}
use Rattle.std.proofs.lemmas.List.{nil_from_length}
use Rattle.sv_value.specs.declared.number.RoutineId.{RoutineId}
use Rattle.sv_flat.specs.Expr as flat
use Rattle.sv_tree.specs.Stmt as tree
use Rattle.sv_names.specs.Cases.{with_labels, default_in, items_of}
use Rattle.sv_elab_flow.specs.CaseSteps.{or_later}

-- ---- the items with labels

-- where no routines are left, none has labels
pub labelled_none : (is : tree.CaseItems) → with_labels is [] ≡ []
labelled_none tree.NoCaseItem = refl
labelled_none (tree.Labels es x rest) = refl
labelled_none (tree.Default x rest) = refl

-- where no routines are left
pub labelled_end : (ids whole : List RoutineId) (is : tree.CaseItems) (rs : List RoutineId) → length rs < 1 → ids ++ with_labels is rs ≡ whole
    → ids ≡ whole
labelled_end ids whole is rs short so_far =
    let gone : rs ≡ [] = nil_from_length rs (omega (arith, short)) in
    sym (append-nil ids) ∙ sym (ap (λ (qs : List RoutineId). ids ++ qs) (ap (with_labels is) gone ∙ labelled_none is)) ∙ so_far

-- ---- the default

-- where no routines are left, none is a default
pub default_none : (is : tree.CaseItems) → default_in is [] ≡ None
default_none tree.NoCaseItem = refl
default_none (tree.Labels es x rest) = refl
default_none (tree.Default x rest) = refl

-- where no routines are left
pub default_end : (default whole : Option RoutineId) (is : tree.CaseItems) (rs : List RoutineId) → length rs < 1
    → or_later default (default_in is rs) ≡ whole → default ≡ whole
default_end default whole is rs short so_far =
    let gone : rs ≡ [] = nil_from_length rs (omega (arith, short)) in
    sym (ap (or_later default) (ap (default_in is) gone ∙ default_none is)) ∙ so_far

-- ---- the items of the flat design

-- where no labels are left, or no routines
pub items_none : (ls : List (List flat.Expr)) → items_of ls [] ≡ []
items_none [] = refl
items_none (l ∷ ls) = refl
