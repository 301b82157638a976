-- `case`, its subject and its labels (IEEE 1800-2017, 12.5).
use Rattle.std.specs.Prelude.{ℕ, ◌+◌, Bool, true, false, ◌&&◌, ◌||◌, List, [], ◌∷◌, ◌++◌, Option, Some, None, if◌then◌else◌, map, max, length}
use Rattle.sv_value.specs.declared.place.Place.{Place}
use Rattle.sv_value.specs.declared.number.RoutineId.{RoutineId}
use Rattle.sv_value.specs.declared.operator.CaseKind.{CaseKind}
use Rattle.sv_value.specs.declared.operator.CaseKind.TheVariants as case_kind
use Rattle.sv_flat.specs.declared.stmt.CaseItem.{CaseItem}
use Rattle.sv_flat.specs.declared.stmt.Form.TheVariants as form
use Rattle.sv_flat.specs.Expr as flat
use Rattle.sv_tree.specs.declared.word.CaseWord.{CaseWord}
use Rattle.sv_tree.specs.declared.word.CaseWord.TheVariants as case_word
use Rattle.sv_tree.specs.Expr as tree
use Rattle.sv_tree.specs.Expr.{place_of}
use Rattle.sv_tree.specs.Stmt as tree_stmt
use Rattle.sv_tree.specs.Stmt.{CaseItems}
use Rattle.sv_names.specs.declared.checked.Checked.{Checked}
use Rattle.sv_names.specs.declared.checked.Checked.TheVariants.{Good, Broken}
use Rattle.sv_names.specs.declared.ty.Ty.{Ty}
use Rattle.sv_names.specs.declared.hoisted.Hoisted.{Hoisted}
use Rattle.sv_names.specs.declared.typed.Typed.{Typed}
use Rattle.sv_names.specs.Checked.{both, ◌▷◌, given, broken_at, only, also_broken}
use Rattle.sv_names.specs.Types.{is_integral, is_text, is_reference, width_of_type, sign_of_type}
use Rattle.sv_names.specs.Hoisted.{mapped, paired, in_row}
use Rattle.sv_names.specs.Named.{Around, in_turn, behind}
use Rattle.sv_names.specs.Values.{alone, folded, one_item, common_reference}
use Rattle.sv_names.specs.Expressions.{expr}
use Rattle.sv_names.specs.Code.{Code, as_routine, over, in_order}

-- ---- labels

-- a label, where it stands
abbrev pub Placed : Type 0
Placed = Place × Typed

-- E15: whether a `case` can compare two types
abbrev pub compares : Around → Ty → Ty → Bool
compares ar t u =
    (is_integral t && is_integral u) || (is_text t && is_text u)
    || (is_reference t && is_reference u && is_there (common_reference ar.classes t u))
  where
    is_there : Option Ty → Bool
    is_there None = false
    is_there (Some x) = true

-- E42, E15: what a `case` can be on
abbrev pub may_be_subject : Place → Typed → Checked Typed
may_be_subject at t =
    one_item t ▷ (λ x. if is_integral x.ty || is_text x.ty || is_reference x.ty then Good x else broken_at 15 at)

-- the type of the subject, where it breaks no rule
abbrev pub subject_type : Checked Typed → Option Ty
subject_type (Good t) = Some t.ty
subject_type (Broken f) = None

-- E42, E15: a label has a type that the `case` compares with that of its subject
abbrev pub label_of : Around → Option Ty → Place → Typed → Checked Typed
label_of ar None at x = one_item x
label_of ar (Some t) at x = one_item x ▷ (λ y. if compares ar t y.ty then Good y else broken_at 15 at)

-- the labels of an item
abbrev pub labels_in : Around → Option Ty → tree.Exprs → Checked (List Placed)
labels_in ar t tree.NoExpr = Good []
labels_in ar t (tree.AndExpr e es) =
    in_turn (expr ar e) (λ x n.
    given (λ p. (place_of e, p.0) ∷ p.1) (both (x ▷ label_of ar t (place_of e)) (labels_in (behind n ar) t es)))

-- which bits are ignored: of `case`, `casez` or `casex` (12.5.1)
abbrev pub case_of : CaseWord → CaseKind
case_of case_word.Exact = case_kind.Exact
case_of case_word.Z = case_kind.Z
case_of case_word.X = case_kind.X

-- ---- items

-- the labels of an item, None of the default
abbrev pub Labels : Type 0
Labels = Option (List Placed)

-- how many hidden variables labels take
abbrev pub hidden_of_labels : List Placed → ℕ
hidden_of_labels [] = 0
hidden_of_labels (p ∷ ps) = length p.1.code.hidden + hidden_of_labels ps

-- the labels of an item, and those behind it
abbrev pub and_labels : Checked (List Placed) → (ℕ → Checked (List Labels)) → Checked (List Labels)
and_labels (Good ps) go = given (λ ls. Some ps ∷ ls) (go (hidden_of_labels ps))
and_labels (Broken f) go = also_broken f (only (go 0))

-- the labels of each item
abbrev pub all_labels : Around → Option Ty → CaseItems → Checked (List Labels)
all_labels ar t tree_stmt.NoCaseItem = Good []
all_labels ar t (tree_stmt.Labels es x rest) = and_labels (labels_in ar t es) (λ n. all_labels (behind n ar) t rest)
all_labels ar t (tree_stmt.Default x rest) = given (λ ls. None ∷ ls) (all_labels ar t rest)

-- the width in which all are compared
abbrev pub widest : ℕ → List Placed → ℕ
widest w [] = w
widest w (p ∷ ps) = widest (max w (width_of_type p.1.ty)) ps

-- whether all are signed
abbrev pub all_signed : Bool → List Placed → Bool
all_signed s [] = s
all_signed s (p ∷ ps) = all_signed (s && sign_of_type p.1.ty) ps

-- all labels, in order
abbrev pub labels_of : List Labels → List Placed
labels_of [] = []
labels_of (None ∷ ls) = labels_of ls
labels_of (Some ps ∷ ls) = ps ++ labels_of ls

-- a number in the width and sign of the whole
abbrev pub compared_as : ℕ → Bool → Typed → Hoisted flat.Expr
compared_as w s t =
    if is_integral t.ty then folded t.is_constant t.ty (mapped (flat.Widen w s) t.code) else alone t

-- the labels of each item, in the flat design
abbrev pub labelled : (Typed → Hoisted flat.Expr) → List Labels → List (Hoisted (List flat.Expr))
labelled f [] = []
labelled f (None ∷ ls) = labelled f ls
labelled f (Some ps ∷ ls) = in_row (map (λ p. f p.1) ps) ∷ labelled f ls

-- the statements of the items with labels
abbrev pub with_labels : CaseItems → List RoutineId → List RoutineId
with_labels (tree_stmt.Labels es x rest) (r ∷ rs) = r ∷ with_labels rest rs
with_labels (tree_stmt.Default x rest) (r ∷ rs) = with_labels rest rs
with_labels is rs = []

-- a default, where no later one is
abbrev pub or_earlier : Option RoutineId → RoutineId → Option RoutineId
or_earlier None r = Some r
or_earlier (Some q) r = Some q

-- the last default
abbrev pub default_in : CaseItems → List RoutineId → Option RoutineId
default_in (tree_stmt.Labels es x rest) (r ∷ rs) = default_in rest rs
default_in (tree_stmt.Default x rest) (r ∷ rs) = or_earlier (default_in rest rs) r
default_in is rs = None

-- the items of the flat design: labels with their statements
abbrev pub items_of : List (List flat.Expr) → List RoutineId → List CaseItem
items_of [] rs = []
items_of (l ∷ ls) [] = []
items_of (l ∷ ls) (r ∷ rs) = record { labels = l; body = r } ∷ items_of ls rs

-- ---- the whole

-- the subject of a `case` and its labels, in the width of the widest, signed where all are
abbrev pub Heads : Type 0
Heads = flat.Expr × List (List flat.Expr)

-- all are compared alike
abbrev pub heads_of : Typed → List Labels → Hoisted Heads
heads_of x ls =
    let f : Typed → Hoisted flat.Expr =
    compared_as (widest (width_of_type x.ty) (labels_of ls)) (all_signed (sign_of_type x.ty) (labels_of ls)) in
    paired (λ e es. (e, es)) (f x) (in_row (labelled f ls))

-- the labels beside the subject
abbrev pub with_labels_in : Around → Checked Typed → CaseItems → Checked (Hoisted Heads)
with_labels_in ar x is = given (λ p. heads_of p.0 p.1) (both x (all_labels ar (subject_type x) is))

-- the subject and the labels of a `case`
abbrev pub case_heads : Around → tree.Expr → CaseItems → Checked (Hoisted Heads)
case_heads ar e is =
    in_turn (expr ar e) (λ x n. with_labels_in (behind n ar) (x ▷ may_be_subject (place_of e)) is)

-- a `case` of the flat design
abbrev pub case_code : Place → CaseWord → CaseItems → Hoisted Heads → List Code → Code
case_code at w is h cs =
    over at (mapped (λ p rs. form.Case (case_of w) p.0 (items_of p.1 (with_labels is rs)) (default_in is rs)) h)
    (in_order (map (λ c. as_routine at c) cs))
