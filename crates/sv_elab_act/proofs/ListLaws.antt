-- Statements one after another, each behind the scopes of those before.
use Rattle.std.proofs.Common.{◌≡◌, ◌∙◌, ℕ, ◌+◌, ◌<◌, ◌≤◌, List, ◌++◌, map, length, drop, get_or, sym, ap, append-nil}
use Rattle.std.proofs.Math.Nat.{add-zero}
use Rattle.std.proofs.lemmas.List.{drop_all}
use Rattle.sv_tree.specs.declared.statement.Stmt.{Stmt}
use Rattle.sv_tree.specs.declared.statement.CaseItem.{CaseItem, Labels', Default'}
use Rattle.sv_tree.specs.Stmt as tree_stmt
use Rattle.sv_tree.specs.StmtView as view
use Rattle.sv_tree.specs.View.{expr_list}
use Rattle.sv_names.specs.Blocks.{scopes_made, scopes_of_items, after_scopes}
use Rattle.sv_names.specs.Named.{Around}
use Rattle.sv_names.specs.Writers as writers
use Rattle.sv_names.specs.Writers.{exprs_touches, stmt_touches, stmts_touches, items_touches}
use Rattle.sv_elab_writers.specs.declared.touch.Touch.{Touch}
use Rattle.sv_elab_writers.specs.Views.{touch_in}
use Rattle.sv_elab_touch.specs.Touched.{Touched}
use Rattle.sv_elab_touch.proofs.TouchedLaws.{turn_touched, left_from}
use Rattle.sv_elab_act.specs.Acts.{item_touches}

-- ---- statements

-- one statement further
pub stmts_turn : (ar next : Around) (xs : List Stmt) (i : ℕ) (x : Stmt) (ts us : List Touch) (whole : List writers.Touch)
    → i < length xs → get_or xs i x ≡ x → next ≡ after_scopes (scopes_made (view.stmt x)) ar
    → Touched ts us (stmt_touches ar (view.stmt x))
    → map touch_in ts ++ stmts_touches ar (view.stmt_list (drop i xs)) ≡ whole
    → map touch_in us ++ stmts_touches next (view.stmt_list (drop (i + 1) xs)) ≡ whole
stmts_turn ar next xs i x ts us whole within is of_next added so_far =
    let rest : tree_stmt.Stmts = view.stmt_list (drop (i + 1) xs) in
    ap (λ (j : Around). map touch_in us ++ stmts_touches j rest) of_next
    ∙ turn_touched ts us (stmt_touches ar (view.stmt x)) (stmts_touches (after_scopes (scopes_made (view.stmt x)) ar) rest) added
    ∙ ap (λ (ys : List Stmt). map touch_in ts ++ stmts_touches ar (view.stmt_list ys)) (sym (left_from xs i x within is))
    ∙ so_far

-- all statements
pub stmts_end : (ar : Around) (xs : List Stmt) (i : ℕ) (us : List Touch) (whole : List writers.Touch) → length xs ≤ i
    → map touch_in us ++ stmts_touches ar (view.stmt_list (drop i xs)) ≡ whole → map touch_in us ≡ whole
stmts_end ar xs i us whole end so_far =
    sym (append-nil (map touch_in us))
    ∙ ap (λ (ys : List Stmt). map touch_in us ++ stmts_touches ar (view.stmt_list ys)) (sym (drop_all i xs end)) ∙ so_far

-- ---- the items of a `case`

-- an item before others
item_first : (ar : Around) (x : CaseItem) (rest : tree_stmt.CaseItems)
    → items_touches ar (view.case_item x rest)
    ≡ item_touches ar (view.case_item x tree_stmt.NoCaseItem)
    ++ items_touches (after_scopes (scopes_of_items (view.case_item x tree_stmt.NoCaseItem)) ar) rest
item_first ar (Labels' es p at l b) rest =
    let s : tree_stmt.Stmt = tree_stmt.Statement at l (view.body b) in
    let first : List writers.Touch = exprs_touches ar (expr_list es.items) ++ stmt_touches ar s in
    ap (λ (n : ℕ). first ++ items_touches (after_scopes n ar) rest) (sym (add-zero (scopes_made s)))
item_first ar (Default' p at l b) rest =
    let s : tree_stmt.Stmt = tree_stmt.Statement at l (view.body b) in
    ap (λ (n : ℕ). stmt_touches ar s ++ items_touches (after_scopes n ar) rest) (sym (add-zero (scopes_made s)))

-- one item further
pub items_turn : (ar next : Around) (xs : List CaseItem) (i : ℕ) (x : CaseItem) (ts us : List Touch) (whole : List writers.Touch)
    → i < length xs → get_or xs i x ≡ x → next ≡ after_scopes (scopes_of_items (view.case_item x tree_stmt.NoCaseItem)) ar
    → Touched ts us (item_touches ar (view.case_item x tree_stmt.NoCaseItem))
    → map touch_in ts ++ items_touches ar (view.case_item_list (drop i xs)) ≡ whole
    → map touch_in us ++ items_touches next (view.case_item_list (drop (i + 1) xs)) ≡ whole
items_turn ar next xs i x ts us whole within is of_next added so_far =
    let rest : tree_stmt.CaseItems = view.case_item_list (drop (i + 1) xs) in
    let none : tree_stmt.CaseItems = view.case_item x tree_stmt.NoCaseItem in
    ap (λ (j : Around). map touch_in us ++ items_touches j rest) of_next
    ∙ turn_touched ts us (item_touches ar none) (items_touches (after_scopes (scopes_of_items none) ar) rest) added
    ∙ ap (λ (l : List writers.Touch). map touch_in ts ++ l) (sym (item_first ar x rest))
    ∙ ap (λ (ys : List CaseItem). map touch_in ts ++ items_touches ar (view.case_item_list ys)) (sym (left_from xs i x within is))
    ∙ so_far

-- all items
pub items_end : (ar : Around) (xs : List CaseItem) (i : ℕ) (us : List Touch) (whole : List writers.Touch) → length xs ≤ i
    → map touch_in us ++ items_touches ar (view.case_item_list (drop i xs)) ≡ whole → map touch_in us ≡ whole
items_end ar xs i us whole end so_far =
    sym (append-nil (map touch_in us))
    ∙ ap (λ (ys : List CaseItem). map touch_in us ++ items_touches ar (view.case_item_list ys)) (sym (drop_all i xs end)) ∙ so_far
