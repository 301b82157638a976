use Rattle.std.proofs.Common.{◌≡◌, ◌∙◌, ◌++◌, map, ap, sym, subst}
use Rattle.std.specs.Prelude.{OnOk}
use Rattle.sv_tree.specs.Stmt as tree
use Rattle.sv_tree.specs.StmtView as view
use Rattle.sv_tree.specs.View as tree_view
use Rattle.sv_names.specs.declared.scope.Scope.{Scope}
use Rattle.sv_names.specs.Blocks as blocks
use Rattle.sv_names.specs.Statements as statements
use Rattle.sv_names.specs.Views.{around_in}
use Rattle.sv_names.specs.Writers as writers
use Rattle.sv_elab_touch.specs.Touched.{Touched}
use Rattle.sv_elab_touch.proofs.TouchedLaws.{ok_given, touched_both}
use Rattle.sv_elab_act.specs.Acts as acts
use Rattle.sv_elab_act.proofs.ListLaws.{stmts_turn, items_turn}
use Rattle.sv_elab_act.proofs.Sizes.{case_is, block_is, fork_is}
use Rattle.sv_elab_act.proofs.statement.+stmt.Goals as goal

-- ---- lists

pub add_stmts-loop-x-preserved : goal.add_stmts-loop-x-preserved
add_stmts-loop-x-preserved t c =
    stmts_turn (around_in c.loop-x.place) (around_in c.after-place.result) c.args.list.now c.loop-x.x-index c.x-item.result c.loop-x.touches
    c.add_stmt.new.touches _ c.loop-x-test.true (sym c.x-item.is) c.after-place.ensures c.in_ok-add_stmt.ensures c.loop-x.invariant

pub add_items-loop-x-preserved : goal.add_items-loop-x-preserved
add_items-loop-x-preserved t c =
    items_turn (around_in c.loop-x.place) (around_in c.after_item-place.result) c.args.list.now c.loop-x.x-index c.x-item.result c.loop-x.touches
    c.add_item.new.touches _ c.loop-x-test.true (sym c.x-item.is) c.after_item-place.ensures c.in_ok-add_item.ensures c.loop-x.invariant

-- ---- the table

pub add_stmt-returns-in_ok-add_expr-in-Case : goal.add_stmt-returns-in_ok-add_expr-in-Case
add_stmt-returns-in_ok-add_expr-in-Case t c =
    let ar = around_in c.args.around.now in
    let list = view.case_item_list c.as_slice.result.now in
    let subject = writers.expr_touches ar (tree_view.expr c.in-Case.subject) in
    let at_body : tree.Body → Type 0 = λ b. OnOk c.add_items.result (Touched c.args.touches.now c.add_items.new.touches (writers.body_touches ar c.args.s.now.label b)) in
    let path : view.body c.args.s.now.body ≡ tree.Case c.in-Case.word (tree_view.expr c.in-Case.subject) list =
    ap view.body c.in-Case.is ∙ case_is c.in-Case.word c.in-Case.subject c.in-Case.items
    ∙ ap (λ xs. tree.Case c.in-Case.word (tree_view.expr c.in-Case.subject) (view.case_item_list xs)) (sym c.as_slice.ensures.value) in
    subst at_body (sym path)
    (ok_given c.add_items.result (Touched c.add_expr-in-Case.new.touches c.add_items.new.touches (writers.items_touches ar list))
    (Touched c.args.touches.now c.add_items.new.touches (subject ++ writers.items_touches ar list))
    (λ added. touched_both c.args.touches.now c.add_expr-in-Case.new.touches c.add_items.new.touches subject (writers.items_touches ar list) c.in_ok-add_expr-in-Case.ensures added)
    c.add_items.ensures)

-- ---- statements with a scope

pub add_scoped-returns-in_ok-scope-in-Block : goal.add_scoped-returns-in_ok-scope-in-Block
add_scoped-returns-in_ok-scope-in-Block t c =
    let ar = around_in c.args.around.now in
    let ds = map view.decl c.as_slice-decls.result.now in
    let xs = view.stmt_list c.as_slice-list.result.now in
    let at_body : tree.Body → Type 0 = λ b. OnOk c.add_block.result (Touched c.args.touches.now c.add_block.new.touches (writers.body_touches ar c.args.s.now.label b)) in
    let with_scope : Scope → Type 0 = λ z. OnOk c.add_block.result (Touched c.args.touches.now c.add_block.new.touches (acts.block_touches (blocks.inside z ar) ds xs)) in
    let scope : Scope = blocks.inner_scope ar (blocks.first_name c.in-Block.name c.args.s.now.label) (statements.block_entries ar ds xs) in
    let decls : c.in-Block.decls.items ≡ c.as_slice-decls.result.now = sym c.as_slice-decls.ensures.value in
    let list : c.in-Block.stmts.items ≡ c.as_slice-list.result.now = sym c.as_slice-list.ensures.value in
    let path : view.body c.args.s.now.body ≡ tree.Block c.in-Block.name ds xs c.in-Block.label =
    ap view.body c.in-Block.is ∙ block_is c.in-Block.name c.in-Block.decls c.in-Block.stmts c.in-Block.label
    ∙ (λ i. tree.Block c.in-Block.name (map view.decl (decls i)) (view.stmt_list (list i)) c.in-Block.label) in
    subst at_body (sym path) (subst with_scope {y = scope} c.in_ok-scope-in-Block.ensures c.add_block.ensures)

pub add_scoped-returns-in_ok-scope-in-Fork : goal.add_scoped-returns-in_ok-scope-in-Fork
add_scoped-returns-in_ok-scope-in-Fork t c =
    let ar = around_in c.args.around.now in
    let ds = map view.decl c.as_slice-decls-in-Fork.result.now in
    let xs = view.stmt_list c.as_slice-list-in-Fork.result.now in
    let at_body : tree.Body → Type 0 = λ b. OnOk c.add_block-in-Fork.result (Touched c.args.touches.now c.add_block-in-Fork.new.touches (writers.body_touches ar c.args.s.now.label b)) in
    let with_scope : Scope → Type 0 = λ z. OnOk c.add_block-in-Fork.result (Touched c.args.touches.now c.add_block-in-Fork.new.touches (acts.block_touches (blocks.inside z ar) ds xs)) in
    let scope : Scope = blocks.inner_scope ar (blocks.first_name c.in-Fork.name c.args.s.now.label) (statements.block_entries ar ds xs) in
    let decls : c.in-Fork.decls.items ≡ c.as_slice-decls-in-Fork.result.now = sym c.as_slice-decls-in-Fork.ensures.value in
    let list : c.in-Fork.stmts.items ≡ c.as_slice-list-in-Fork.result.now = sym c.as_slice-list-in-Fork.ensures.value in
    let path : view.body c.args.s.now.body ≡ tree.Fork c.in-Fork.name ds xs c.in-Fork.join c.in-Fork.label =
    ap view.body c.in-Fork.is ∙ fork_is c.in-Fork.name c.in-Fork.decls c.in-Fork.stmts c.in-Fork.join c.in-Fork.label
    ∙ (λ i. tree.Fork c.in-Fork.name (map view.decl (decls i)) (view.stmt_list (list i)) c.in-Fork.join c.in-Fork.label) in
    subst at_body (sym path) (subst with_scope {y = scope} c.in_ok-scope-in-Fork.ensures c.add_block-in-Fork.ensures)
