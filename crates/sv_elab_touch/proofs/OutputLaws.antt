-- The targets among arguments, one after another.
use Rattle.std.proofs.Common.{◌≡◌, ℕ, ◌+◌, ◌<◌, List, [], ◌∷◌, ◌++◌, map, length, drop, get_or, refl, sym, ◌∙◌}
use Rattle.sv_tree.specs.declared.expr.Expr.{Expr}
use Rattle.sv_tree.specs.Expr as tree
use Rattle.sv_tree.specs.View.{expr, expr_list}
use Rattle.sv_names.specs.declared.named.Formal.{Formal}
use Rattle.sv_names.specs.Named.{Around}
use Rattle.sv_names.specs.Writers.{output_touches}
use Rattle.sv_elab_writers.specs.declared.touch.Touch.{Touch}
use Rattle.sv_elab_writers.specs.Views.{touch_in}
use Rattle.sv_elab_touch.specs.Touched.{Touched, output_touch}
use Rattle.sv_elab_touch.proofs.TouchedLaws.{turn_touched, left_from}

-- without arguments
pub no_arguments : (ar : Around) (fs : List Formal) → output_touches ar fs tree.NoExpr ≡ []
no_arguments ar [] = refl
no_arguments ar (f ∷ fs) = refl

-- a turn appends an argument
pub output_turn : (ar : Around) (fs rest : List Formal) (f : Formal) (all : List Expr) (i : ℕ) (x : Expr) (ts us : List Touch)
    → fs ≡ f ∷ rest → i < length all → get_or all i x ≡ x → Touched ts us (output_touch ar f (expr x))
    → map touch_in us ++ output_touches ar rest (expr_list (drop (i + 1) all))
    ≡ map touch_in ts ++ output_touches ar fs (expr_list (drop i all))
output_turn ar fs rest f all i x ts us first within is added =
    turn_touched ts us (output_touch ar f (expr x)) (output_touches ar rest (expr_list (drop (i + 1) all))) added
    ∙ (λ j. map touch_in ts ++ output_touches ar (sym first j) (expr_list (sym (left_from all i x within is) j)))
