-- Lists of statements, one statement after another, and a `for` in its scope.
use Rattle.std.proofs.Common.{◌≡◌, ◌∙◌, ℕ, ◌+◌, ◌<◌, ◌≤◌, List, length, drop, get_or, refl, sym, ap}
use Rattle.std.proofs.Math.Nat.{add-zero}
use Rattle.std.proofs.lemmas.List.{drop_all}
use Rattle.sv_value.specs.declared.place.Place.{Place}
use Rattle.sv_tree.specs.declared.word.Name.{Name}
use Rattle.sv_tree.specs.declared.statement.Stmt.{Stmt}
use Rattle.sv_tree.specs.declared.statement.CaseItem.{CaseItem, Labels', Default'}
use Rattle.sv_tree.specs.Expr as tree
use Rattle.sv_tree.specs.Stmt as tree_stmt
use Rattle.sv_tree.specs.Stmt.{ForStep}
use Rattle.sv_tree.specs.StmtView as view
use Rattle.sv_names.specs.declared.checked.Checked.{Checked}
use Rattle.sv_names.specs.declared.checked.Checked.TheVariants.{Good, Broken}
use Rattle.sv_names.specs.declared.scope.Scope.{Scope}
use Rattle.sv_names.specs.Blocks.{scopes_made, scopes_of_items, after_scopes, in_sequence, inside, scope_stands}
use Rattle.sv_names.specs.Checked.{both, given, put_before, ◌where_also◌}
use Rattle.sv_names.specs.Code.{Code, locals_of}
use Rattle.sv_names.specs.Entries.{Entry}
use Rattle.sv_names.specs.Joined.{joined, put_behind}
use Rattle.sv_names.specs.Named.{Around}
use Rattle.sv_names.specs.Statements as statements
use Rattle.sv_names.specs.Statements.{stmts, children, items, condition, in_loop, step_code, child_before}
use Rattle.sv_names.proofs.Joined.{next_joined, joined_last}
use Rattle.sv_elab_flow.specs.Fors.{first_value}
use Rattle.sv_elab_stmt.specs.Lists.{codes, item_code, for_in}
use Rattle.sv_elab_flow.specs.Parts.{routines_of}
use Rattle.sv_elab_stmt.proofs.ForLaws.{first_given}
use Rattle.sv_elab_flow.proofs.Grouped.{in_sequence_grouped, none_last}
use Rattle.sv_elab_flow.proofs.Left.{first_left}

-- ---- statements in sequence

-- one statement further
pub stmts_next : (ar next : Around) (xs : List Stmt) (i : ℕ) (x : Stmt) (c whole : Checked Code) → i < length xs → get_or xs i x ≡ x
    → next ≡ after_scopes (scopes_made (view.stmt x)) ar → in_sequence c (stmts ar (view.stmt_list (drop i xs))) ≡ whole
    → in_sequence (in_sequence c (statements.stmt ar (view.stmt x))) (stmts next (view.stmt_list (drop (i + 1) xs))) ≡ whole
stmts_next ar next xs i x c whole within is of_next so_far =
    let rest : tree_stmt.Stmts = view.stmt_list (drop (i + 1) xs) in
    in_sequence_grouped c (statements.stmt ar (view.stmt x)) (stmts next rest)
    ∙ ap (λ (j : Around). in_sequence c (in_sequence (statements.stmt ar (view.stmt x)) (stmts j rest))) of_next
    ∙ sym (ap (λ (ys : List Stmt). in_sequence c (stmts ar (view.stmt_list ys))) (first_left xs i x within is)) ∙ so_far

-- all statements
pub stmts_all : (ar : Around) (xs : List Stmt) (i : ℕ) (c whole : Checked Code) → length xs ≤ i
    → in_sequence c (stmts ar (view.stmt_list (drop i xs))) ≡ whole → c ≡ whole
stmts_all ar xs i c whole end so_far =
    sym (none_last c) ∙ sym (ap (λ (ys : List Stmt). in_sequence c (stmts ar (view.stmt_list ys))) (drop_all i xs end)) ∙ so_far

-- ---- the children of a fork

-- one child further
pub codes_next : (ar next : Around) (xs : List Stmt) (i : ℕ) (x : Stmt) (c whole : Checked (List Code)) → i < length xs → get_or xs i x ≡ x
    → next ≡ after_scopes (scopes_made (view.stmt x)) ar → joined c (codes ar (view.stmt_list (drop i xs))) ≡ whole
    → joined (put_behind c (statements.stmt ar (view.stmt x))) (codes next (view.stmt_list (drop (i + 1) xs))) ≡ whole
codes_next ar next xs i x c whole within is of_next so_far =
    let rest : tree_stmt.Stmts = view.stmt_list (drop (i + 1) xs) in
    next_joined c (statements.stmt ar (view.stmt x)) (codes next rest)
    ∙ ap (λ (j : Around). joined c (put_before (statements.stmt ar (view.stmt x)) (codes j rest))) of_next
    ∙ sym (ap (λ (ys : List Stmt). joined c (codes ar (view.stmt_list ys))) (first_left xs i x within is)) ∙ so_far

-- all children
pub codes_all : (ar : Around) (xs : List Stmt) (i : ℕ) (c whole : Checked (List Code)) → length xs ≤ i
    → joined c (codes ar (view.stmt_list (drop i xs))) ≡ whole → c ≡ whole
codes_all ar xs i c whole end so_far =
    sym (joined_last c) ∙ sym (ap (λ (ys : List Stmt). joined c (codes ar (view.stmt_list ys))) (drop_all i xs end)) ∙ so_far

-- a child before others
child_routines : (at : Place) (x : Checked Code) (xs : Checked (List Code))
    → child_before at x (given (routines_of at) xs) ≡ given (routines_of at) (put_before x xs)
child_routines at (Good c) (Good cs) = refl
child_routines at (Good c) (Broken g) = refl
child_routines at (Broken f) (Good cs) = refl
child_routines at (Broken f) (Broken g) = refl

-- the children are the routines of the statements
pub children_are : (ar : Around) (at : Place) (xs : tree_stmt.Stmts) → children ar at xs ≡ given (routines_of at) (codes ar xs)
children_are ar at tree_stmt.NoStmt = refl
children_are ar at (tree_stmt.AndStmt x xs) =
    let next : Around = after_scopes (scopes_made x) ar in
    ap (child_before at (statements.stmt ar x)) (children_are next at xs) ∙ child_routines at (statements.stmt ar x) (codes next xs)

-- ---- the items of a `case`

-- an item before others
item_first : (ar : Around) (x : CaseItem) (rest : tree_stmt.CaseItems)
    → items ar (view.case_item x rest)
    ≡ put_before (item_code ar (view.case_item x tree_stmt.NoCaseItem)) (items (after_scopes (scopes_of_items (view.case_item x tree_stmt.NoCaseItem)) ar) rest)
item_first ar (Labels' es p at l b) rest =
    let s : tree_stmt.Stmt = tree_stmt.Statement at l (view.body b) in
    ap (λ (n : ℕ). put_before (statements.stmt ar s) (items (after_scopes n ar) rest)) (sym (add-zero (scopes_made s)))
item_first ar (Default' p at l b) rest =
    let s : tree_stmt.Stmt = tree_stmt.Statement at l (view.body b) in
    ap (λ (n : ℕ). put_before (statements.stmt ar s) (items (after_scopes n ar) rest)) (sym (add-zero (scopes_made s)))

-- one item further
pub items_next : (ar next : Around) (xs : List CaseItem) (i : ℕ) (x : CaseItem) (c whole : Checked (List Code)) → i < length xs → get_or xs i x ≡ x
    → next ≡ after_scopes (scopes_of_items (view.case_item x tree_stmt.NoCaseItem)) ar → joined c (items ar (view.case_item_list (drop i xs))) ≡ whole
    → joined (put_behind c (item_code ar (view.case_item x tree_stmt.NoCaseItem))) (items next (view.case_item_list (drop (i + 1) xs))) ≡ whole
items_next ar next xs i x c whole within is of_next so_far =
    let rest : tree_stmt.CaseItems = view.case_item_list (drop (i + 1) xs) in
    let one : Checked Code = item_code ar (view.case_item x tree_stmt.NoCaseItem) in
    next_joined c one (items next rest)
    ∙ ap (λ (j : Around). joined c (put_before one (items j rest))) of_next
    ∙ sym (ap (joined c) (item_first ar x rest))
    ∙ sym (ap (λ (ys : List CaseItem). joined c (items ar (view.case_item_list ys))) (first_left xs i x within is)) ∙ so_far

-- all items
pub items_all : (ar : Around) (xs : List CaseItem) (i : ℕ) (c whole : Checked (List Code)) → length xs ≤ i
    → joined c (items ar (view.case_item_list (drop i xs))) ≡ whole → c ≡ whole
items_all ar xs i c whole end so_far =
    sym (joined_last c) ∙ sym (ap (λ (ys : List CaseItem). joined c (items ar (view.case_item_list ys))) (drop_all i xs end)) ∙ so_far

-- ---- a `for` in its scope

-- its first assignment is one statement
pub for_in_is : (ar : Around) (at : Place) (z : Scope) (es : List Entry) (n : Name) (v e : tree.Expr) (l : ForStep) (s : tree_stmt.Stmt)
    → for_in ar at z n v e l s where_also scope_stands z es ≡ statements.for_in ar at z es n v e l (λ i. statements.stmt i s)
for_in_is ar at z es n v e l s =
    let i : Around = inside z ar in
    ap (λ (y : Checked Code). y where_also scope_stands z es)
    (sym (first_given at (locals_of ar.numbers z) (first_value i at n v) (condition i e) (both (statements.stmt (in_loop i) s) (step_code i at l))))
