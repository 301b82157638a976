-- The labels of a `case`, one by one.
use Rattle.std.proofs.Common.{◌≡◌, ◌∙◌, ℕ, ◌+◌, ◌<◌, List, [], ◌∷◌, Option, Some, None, length, drop, get_or, refl, sym, ap}
use Rattle.sv_value.specs.declared.place.Place.{Place}
use Rattle.sv_tree.specs.declared.expr.Expr.{Expr}
use Rattle.sv_tree.specs.declared.statement.CaseItem.{CaseItem, Labels', Default'}
use Rattle.sv_tree.specs.Expr as tree
use Rattle.sv_tree.specs.Expr.{place_of}
use Rattle.sv_tree.specs.Stmt as tree_stmt
use Rattle.sv_tree.specs.StmtView.{case_item, case_item_list}
use Rattle.sv_tree.specs.View.{expr, expr_list}
use Rattle.sv_names.specs.declared.checked.Checked.{Checked}
use Rattle.sv_names.specs.declared.checked.Checked.TheVariants.{Good, Broken}
use Rattle.sv_names.specs.declared.ty.Ty.{Ty}
use Rattle.sv_names.specs.declared.typed.Typed.{Typed}
use Rattle.sv_names.specs.Cases.{Placed, Labels, label_of, labels_in, all_labels, and_labels, hidden_of_labels}
use Rattle.sv_names.specs.Checked.{both, given, put_before, ◌▷◌, also_broken, only}
use Rattle.sv_names.specs.Expressions as expressions
use Rattle.sv_names.specs.Joined.{joined}
use Rattle.sv_names.specs.Named.{Around, behind, hidden_in}
use Rattle.sv_names.specs.Targets.{hidden_of_spots}
use Rattle.sv_elab_flow.specs.Labels as labels
use Rattle.sv_elab_flow.proofs.Left.{first_left}

-- ---- the labels of an item

-- a label with its place before others
placed_before : (at : Place) (x : Checked Typed) (xs : Checked (List Placed))
    → given (λ p. (at, p.0) ∷ p.1) (both x xs) ≡ put_before (given (labels.placed at) x) xs
placed_before at (Good t) (Good xs) = refl
placed_before at (Good t) (Broken g) = refl
placed_before at (Broken f) (Good xs) = refl
placed_before at (Broken f) (Broken g) = refl

-- one label further
pub labels_next : (ar next : Around) (t : Option Ty) (es : List Expr) (i : ℕ) (e : Expr) (at : Place) (x : Checked Typed) (label : Checked Placed)
    (done done' whole : Checked (List Placed)) → i < length es → get_or es i e ≡ e → at ≡ place_of (expr e) → x ≡ expressions.expr ar (expr e)
    → next ≡ behind (hidden_in x) ar → label ≡ given (labels.placed at) (x ▷ label_of ar t at)
    → ((ys : Checked (List Placed)) → joined done' ys ≡ joined done (put_before label ys))
    → joined done (labels_in ar t (expr_list (drop i es))) ≡ whole → joined done' (labels_in next t (expr_list (drop (i + 1) es))) ≡ whole
labels_next ar next t es i e at x label done done' whole within is of_place of_value of_next of_label step so_far =
    let rest : tree.Exprs = expr_list (drop (i + 1) es) in
    let here : Place → Checked Typed → Checked (List Placed) =
    λ p y. joined done (put_before (given (labels.placed p) (y ▷ label_of ar t p)) (labels_in (behind (hidden_in y) ar) t rest)) in
    step (labels_in next t rest)
    ∙ ap (λ (j : Around). joined done (put_before label (labels_in j t rest))) of_next
    ∙ ap (λ (l : Checked Placed). joined done (put_before l (labels_in (behind (hidden_in x) ar) t rest))) of_label
    ∙ (λ k. here (of_place k) (of_value k))
    ∙ sym (ap (joined done) (placed_before (place_of (expr e)) (expressions.expr ar (expr e) ▷ label_of ar t (place_of (expr e))) (labels_in (behind (hidden_in (expressions.expr ar (expr e))) ar) t rest)))
    ∙ sym (ap (λ (ys : List Expr). joined done (labels_in ar t (expr_list ys))) (first_left es i e within is)) ∙ so_far

-- ---- the labels of all items

-- labels before others
given_before : (a : Labels) (ys : Checked (List Labels)) → given (λ ls. a ∷ ls) ys ≡ put_before (Good a) ys
given_before a (Good ls) = refl
given_before a (Broken f) = refl

broken_before : (f : _) (ys : Checked (List Labels)) → also_broken f (only ys) ≡ put_before (Broken f) ys
broken_before f (Good ls) = refl
broken_before f (Broken g) = refl

labels_before : (c : Checked (List Placed)) (go : ℕ → Checked (List Labels))
    → and_labels c go ≡ put_before (given labels.some c) (go (labels.hidden_in (given labels.some c)))
labels_before (Good ps) go = given_before (Some ps) (go (hidden_of_labels ps))
labels_before (Broken f) go = broken_before f (go 0)

-- an item before others
item_before : (ar : Around) (t : Option Ty) (x : CaseItem) (rest : tree_stmt.CaseItems)
    → all_labels ar t (case_item x rest)
    ≡ put_before (labels.item_labels ar t (case_item x rest)) (all_labels (labels.behind_item ar (case_item x rest) (labels.item_labels ar t (case_item x rest))) t rest)
item_before ar t (Labels' es p at l b) rest = labels_before (labels_in ar t (expr_list es.items)) (λ n. all_labels (behind n ar) t rest)
item_before ar t (Default' p at l b) rest = given_before None (all_labels ar t rest)

-- one item further
pub items_next : (ar next : Around) (t : Option Ty) (xs : List CaseItem) (i : ℕ) (x : CaseItem) (list : Checked Labels)
    (done done' whole : Checked (List Labels)) → i < length xs → get_or xs i x ≡ x
    → ((rest : tree_stmt.CaseItems) → list ≡ labels.item_labels ar t (case_item x rest))
    → ((rest : tree_stmt.CaseItems) → next ≡ labels.behind_item ar (case_item x rest) list)
    → ((ys : Checked (List Labels)) → joined done' ys ≡ joined done (put_before list ys))
    → joined done (all_labels ar t (case_item_list (drop i xs))) ≡ whole → joined done' (all_labels next t (case_item_list (drop (i + 1) xs))) ≡ whole
items_next ar next t xs i x list done done' whole within is of_list of_next step so_far =
    let rest : tree_stmt.CaseItems = case_item_list (drop (i + 1) xs) in
    step (all_labels next t rest)
    ∙ ap (λ (j : Around). joined done (put_before list (all_labels j t rest))) (of_next rest)
    ∙ ap (λ (l : Checked Labels). joined done (put_before l (all_labels (labels.behind_item ar (case_item x rest) l) t rest))) (of_list rest)
    ∙ sym (ap (joined done) (item_before ar t x rest))
    ∙ sym (ap (λ (ys : List CaseItem). joined done (all_labels ar t (case_item_list ys))) (first_left xs i x within is)) ∙ so_far
