use Rattle.std.proofs.Common.{rules, ◌≡◌, ◌∙◌, List, [], map, ap, sym, subst, refl}
use Rattle.sv_value.specs.declared.number.RoutineId.{RoutineId}
use Rattle.sv_value.specs.declared.place.Place.{Place}
use Rattle.sv_flat.specs.declared.object.Declared.{Declared}
use Rattle.sv_tree.specs.declared.statement.Body.{the_lemmas}
use Rattle.sv_tree.specs.declared.statement.CaseItem.{CaseItem}
use Rattle.sv_tree.specs.declared.statement.Stmt.{Stmt}
use Rattle.sv_tree.specs.Stmt as tree
use Rattle.sv_tree.specs.StmtView as view
use Rattle.sv_tree.specs.View as tree_view
use Rattle.sv_names.specs.declared.checked.Checked.{Checked}
use Rattle.sv_names.specs.declared.checked.Checked.TheVariants.{Good}
use Rattle.sv_names.specs.declared.scope.Scope.{Scope}
use Rattle.sv_names.specs.Blocks as blocks
use Rattle.sv_names.specs.Checked.{both, given, ◌where_also◌}
use Rattle.sv_names.specs.Code.{Numbered, Code, empty}
use Rattle.sv_names.specs.Emits.{Emits}
use Rattle.sv_names.specs.Given.{Gives}
use Rattle.sv_names.specs.Joined.{put_behind}
use Rattle.sv_names.specs.Named.{Around, raised}
use Rattle.sv_names.specs.Cases.{case_heads}
use Rattle.sv_names.specs.Statements as statements
use Rattle.sv_names.specs.Views.{around_in}
use Rattle.sv_names.proofs.Joined.{joined_first}
use Rattle.sv_elab_flow.specs.Forks.{fork_parts}
use Rattle.sv_elab_flow.specs.Fors as fors
use Rattle.sv_elab_stmt.specs.Lists as lists
use Rattle.sv_elab_flow.specs.Parts.{EmitsOf, place_of, routines_of}
use Rattle.sv_elab_flow.proofs.Added.{emitted_of}
use Rattle.sv_elab_flow.proofs.ForkLaws.{steady_decls}
use Rattle.sv_elab_flow.proofs.Grouped.{none_first}
use Rattle.sv_elab_stmt.proofs.ListLaws.{stmts_next, stmts_all, codes_next, codes_all, children_are, items_next, items_all, for_in_is}
use Rattle.sv_elab_stmt.proofs.Sizes.{case_is, block_is, fork_is}
use Rattle.sv_elab_stmt.proofs.statement.+stmt.Goals as goal

-- ---- lists

pub stmts-loop-x-init : goal.stmts-loop-x-init
stmts-loop-x-init t c = (
  Good empty,
  c.nothing-done.ensures c.args.routines.now c.args.objects.now,
  none_first (statements.stmts (around_in c.args.around.now) (view.stmt_list c.args.list.now)),
)

pub stmts-loop-x-preserved : goal.stmts-loop-x-preserved
stmts-loop-x-preserved t c =
    let ar = around_in c.loop-x.place in
    let whole = statements.stmts (around_in c.args.around.now) (view.stmt_list c.args.list.now) in
    let before = c.loop-x.invariant.0 in (
      blocks.in_sequence before (statements.stmt ar (view.stmt c.x-item.result)),
      c.in_sequence-done.ensures c.args.routines.now c.loop-x.routines c.stmt-one.new.routines c.args.objects.now c.loop-x.objects c.stmt-one.new.objects
          before (statements.stmt ar (view.stmt c.x-item.result)) c.loop-x.invariant.1 c.stmt-one.ensures,
      stmts_next ar (around_in c.after-place.result) c.args.list.now c.loop-x.x-index c.x-item.result before whole c.loop-x-test.true (sym c.x-item.is)
          c.after-place.ensures c.loop-x.invariant.2,
    )

pub stmts-returns : goal.stmts-returns
stmts-returns t c =
    let whole = statements.stmts (around_in c.args.around.now) (view.stmt_list c.args.list.now) in
    let emitted : Checked Code → Type 0 = λ w. Emits c.args.routines.now c.loop-x.routines c.args.objects.now c.loop-x.objects c.loop-x.done w in
    subst emitted (stmts_all (around_in c.loop-x.place) c.args.list.now c.loop-x.x-index c.loop-x.invariant.0 whole c.loop-x-test.false c.loop-x.invariant.2)
    c.loop-x.invariant.1

pub children-loop-x-init : goal.children-loop-x-init
children-loop-x-init t c = (
  Good [],
  c.no_routine-done.ensures (place_of c.args.whole.now) c.args.routines.now c.args.objects.now,
  joined_first (lists.codes (around_in c.args.around.now) (view.stmt_list c.args.list.now)),
)

pub children-loop-x-preserved : goal.children-loop-x-preserved
children-loop-x-preserved t c =
    let ar = around_in c.loop-x.place in
    let whole = lists.codes (around_in c.args.around.now) (view.stmt_list c.args.list.now) in
    let before = c.loop-x.invariant.0 in (
      put_behind before (statements.stmt ar (view.stmt c.x-item.result)),
      c.and_routine-done.ensures (place_of c.args.whole.now) c.args.routines.now c.loop-x.routines c.branch-one.new.routines c.args.objects.now c.loop-x.objects
          c.branch-one.new.objects before (statements.stmt ar (view.stmt c.x-item.result)) c.loop-x.invariant.1 c.branch-one.ensures,
      codes_next ar (around_in c.after-place.result) c.args.list.now c.loop-x.x-index c.x-item.result before whole c.loop-x-test.true (sym c.x-item.is)
          c.after-place.ensures c.loop-x.invariant.2,
    )

pub children-returns : goal.children-returns
children-returns t c =
    let ar = around_in c.args.around.now in
    let at = place_of c.args.whole.now in
    let xs = view.stmt_list c.args.list.now in
    let emitted : Checked (List Code) → Type 0 = λ w. Emits c.args.routines.now c.loop-x.routines c.args.objects.now c.loop-x.objects c.loop-x.done (given (routines_of at) w) in
    let made : emitted c.loop-x.invariant.0 =
    emitted_of at c.args.routines.now c.loop-x.routines c.args.objects.now c.loop-x.objects c.loop-x.done c.loop-x.invariant.0 c.loop-x.invariant.1 in
    subst (λ (w : Checked (Numbered (List RoutineId))). Emits c.args.routines.now c.loop-x.routines c.args.objects.now c.loop-x.objects c.loop-x.done w) (sym (children_are ar at xs))
    (subst emitted (codes_all (around_in c.loop-x.place) c.args.list.now c.loop-x.x-index c.loop-x.invariant.0 (lists.codes ar xs) c.loop-x-test.false c.loop-x.invariant.2) made)

pub items-loop-x-init : goal.items-loop-x-init
items-loop-x-init t c = (
  Good [],
  c.no_routine-done.ensures (place_of c.args.whole.now) c.args.routines.now c.args.objects.now,
  joined_first (statements.items (around_in c.args.around.now) (view.case_item_list c.args.list.now)),
)

pub items-loop-x-preserved : goal.items-loop-x-preserved
items-loop-x-preserved t c =
    let ar = around_in c.loop-x.place in
    let whole = statements.items (around_in c.args.around.now) (view.case_item_list c.args.list.now) in
    let before = c.loop-x.invariant.0 in
    let one = lists.item_code ar (view.case_item c.x-item.result tree.NoCaseItem) in (
      put_behind before one,
      c.and_routine-done.ensures (place_of c.args.whole.now) c.args.routines.now c.loop-x.routines c.item-one.new.routines c.args.objects.now c.loop-x.objects
          c.item-one.new.objects before one c.loop-x.invariant.1 c.item-one.ensures,
      items_next ar (around_in c.after_item-place.result) c.args.list.now c.loop-x.x-index c.x-item.result before whole c.loop-x-test.true (sym c.x-item.is)
          c.after_item-place.ensures c.loop-x.invariant.2,
    )

pub items-returns : goal.items-returns
items-returns t c =
    let whole = statements.items (around_in c.args.around.now) (view.case_item_list c.args.list.now) in
    let emitted : Checked (List Code) → Type 0 = λ w. EmitsOf (routines_of (place_of c.args.whole.now)) c.args.routines.now c.loop-x.routines c.args.objects.now c.loop-x.objects c.loop-x.done w in
    subst emitted (items_all (around_in c.loop-x.place) c.args.list.now c.loop-x.x-index c.loop-x.invariant.0 whole c.loop-x-test.false c.loop-x.invariant.2)
    c.loop-x.invariant.1

-- ---- statements over others

pub stmt-returns-in-Case : goal.stmt-returns-in-Case
stmt-returns-in-Case t c =
    let ar = around_in c.args.around.now in
    let rs = c.args.routines.now in
    let rs' = c.items-bodies.new.routines in
    let os = c.args.objects.now in
    let os' = c.items-bodies.new.objects in
    let list = c.as_slice-list.result.now in
    let at_body : tree.Body → Type 0 = λ b. Emits rs rs' os os' c.case_made.result (statements.body ar c.args.s.now.at c.args.s.now.label b) in
    let with_items : List CaseItem → tree.Body = λ xs. tree.Case c.in-Case.word (tree_view.expr c.in-Case.subject) (view.case_item_list xs) in
    let path : view.body c.args.s.now.body ≡ with_items list =
    ap view.body c.in-Case.is ∙ case_is c.in-Case.word c.in-Case.subject c.in-Case.list ∙ ap with_items (sym c.as_slice-list.ensures.value) in
    let made : at_body (with_items list) =
    c.case_made.ensures rs rs' os os' (raised ar (λ i. case_heads i (tree_view.expr c.in-Case.subject) (view.case_item_list list)))
    (statements.items ar (view.case_item_list list)) c.case_heads-heads.ensures c.items-bodies.ensures in
    subst at_body (sym path) made

pub waiting_statement-returns-in-Cycles : goal.waiting_statement-returns-in-Cycles
waiting_statement-returns-in-Cycles t c =
    let rs = c.args.routines.now in
    let rs' = c.stmt-body-in-Cycles.new.routines in
    let os = c.args.objects.now in
    let os' = c.stmt-body-in-Cycles.new.objects in
    let at_body : tree.Body → Type 0 = λ b. Emits rs rs' os os' c.guarded_code-in-Cycles.result (statements.body (around_in c.args.around.now) c.args.s.now.at c.args.s.now.label b) in
    let with_stmt : Stmt → tree.Body = λ x. tree.Cycles c.in-Cycles.at (tree_view.expr c.in-Cycles.amount) (view.stmt x) in
    let made : at_body (with_stmt c.deref-in-Cycles.result.now) =
    c.guarded_code-in-Cycles.ensures rs rs' os os' _ _ (c.then-in-Cycles.ensures rs rs' os os' _ _ c.cycles-control.ensures c.stmt-body-in-Cycles.ensures) c.may_wait_here-in-Cycles.ensures in
    subst at_body (sym (ap view.body c.in-Cycles.is ∙ ap with_stmt (sym c.deref-in-Cycles.ensures))) made

-- ---- blocks and forks

pub block_statement-returns-in-Block : goal.block_statement-returns-in-Block
block_statement-returns-in-Block t c =
    let rs = c.args.routines.now in
    let rs' = c.block_in-block.new.routines in
    let os = c.args.objects.now in
    let os' = c.block_in-block.new.objects in
    let at_body : tree.Body → Type 0 = λ b. Emits rs rs' os os' c.guarded_code.result (statements.body (around_in c.args.around.now) c.args.s.now.at c.args.s.now.label b) in
    let decls : c.in-Block.decls.items ≡ c.as_slice-decls.result.now = sym c.as_slice-decls.ensures.value in
    let list : c.in-Block.list.items ≡ c.as_slice-list.result.now = sym c.as_slice-list.ensures.value in
    let path : view.body c.args.s.now.body ≡ tree.Block c.in-Block.name (map view.decl c.as_slice-decls.result.now) (view.stmt_list c.as_slice-list.result.now) c.in-Block.label =
    ap view.body c.in-Block.is ∙ block_is c.in-Block.name c.in-Block.decls c.in-Block.list c.in-Block.label
    ∙ (λ i. tree.Block c.in-Block.name (map view.decl (decls i)) (view.stmt_list (list i)) c.in-Block.label) in
    subst at_body (sym path) (c.guarded_code.ensures rs rs' os os' _ _ c.block_in-block.ensures c.end_label.ensures)

pub block_statement-returns-in-Fork : goal.block_statement-returns-in-Fork
block_statement-returns-in-Fork t c =
    let rs = c.args.routines.now in
    let rs' = c.fork_in-fork.new.routines in
    let os = c.args.objects.now in
    let os' = c.fork_in-fork.new.objects in
    let at_body : tree.Body → Type 0 = λ b. Emits rs rs' os os' c.guarded_code-in-Fork.result (statements.body (around_in c.args.around.now) c.args.s.now.at c.args.s.now.label b) in
    let decls : c.in-Fork.decls.items ≡ c.as_slice-decls-in-Fork.result.now = sym c.as_slice-decls-in-Fork.ensures.value in
    let list : c.in-Fork.list.items ≡ c.as_slice-list-in-Fork.result.now = sym c.as_slice-list-in-Fork.ensures.value in
    let path : view.body c.args.s.now.body ≡ tree.Fork c.in-Fork.name (map view.decl c.as_slice-decls-in-Fork.result.now) (view.stmt_list c.as_slice-list-in-Fork.result.now) c.in-Fork.join c.in-Fork.label =
    ap view.body c.in-Fork.is ∙ fork_is c.in-Fork.name c.in-Fork.decls c.in-Fork.list c.in-Fork.join c.in-Fork.label
    ∙ (λ i. tree.Fork c.in-Fork.name (map view.decl (decls i)) (view.stmt_list (list i)) c.in-Fork.join c.in-Fork.label) in
    subst at_body (sym path)
    (c.guarded_code-in-Fork.ensures rs rs' os os' _ _ (c.guarded_code-labelled.ensures rs rs' os os' _ _ c.fork_in-fork.ensures c.end_label-in-Fork.ensures) c.fork_stands.ensures)

pub block_in-returns : goal.block_in-returns
block_in-returns t c =
    let ar = around_in c.args.around.now in
    let ds = map view.decl c.args.decls.now in
    let xs = view.stmt_list c.args.list.now in
    let rs = c.args.routines.now in
    let rs' = c.routine.new.routines in
    let os = c.args.objects.now in
    let os' = c.block_body-body.new.objects in
    let scope : Scope = c.in_ok-scope.scope in
    let at = place_of c.args.s.now in
    let entries = statements.block_entries ar ds xs in
    let body = lists.block_body (blocks.inside scope ar) ds xs in
    let with_locals : List Declared → Type 0 = λ ls. Emits rs rs' os os' c.guarded_code.result (statements.block_given at ls body where_also blocks.scope_stands scope entries) in
    let with_scope : Scope → Type 0 = λ z. Emits rs rs' os os' c.guarded_code.result (statements.block_in ar at z entries ds (λ i. statements.stmts i xs)) in
    let made : with_locals c.in_ok-locals.locals =
    c.guarded_code.ensures rs rs' os os' _ _ (c.block-held.ensures rs rs' os os' body (c.routine.ensures rs os os' body c.block_body-body.ensures)) c.block_stands.ensures in
    subst with_scope c.in_ok-scope.ensures.ok (subst with_locals c.in_ok-locals.ensures.ok made)

pub block_body-returns : goal.block_body-returns
block_body-returns t c =
    let rs = c.args.routines.now in
    let rs' = c.stmts-rest.new.routines in
    let os = c.args.objects.now in
    let os' = c.stmts-rest.new.objects in
    let ds = map view.decl c.args.decls.now in
    let xs = view.stmt_list c.args.list.now in
    let place : around_in c.inside-inner.result ≡ blocks.inside c.args.scope.now (around_in c.args.around.now) = search rules in
    let at_place : Around → Type 0 = λ i. Emits rs rs' os os' c.in_sequence.result (lists.block_body i ds xs) in
    let made : at_place (around_in c.inside-inner.result) =
    c.in_sequence.ensures rs rs rs' os c.declarations-first.new.objects os' _ _ (c.declarations-first.ensures rs) c.stmts-rest.ensures in
    subst at_place place made

pub fork_in-returns : goal.fork_in-returns
fork_in-returns t c =
    let ar = around_in c.args.around.now in
    let ds = map view.decl c.args.decls.now in
    let xs = view.stmt_list c.args.list.now in
    let rs = c.args.routines.now in
    let rs' = c.fork_body-made.new.routines in
    let os = c.args.objects.now in
    let os' = c.fork_body-made.new.objects in
    let scope : Scope = c.in_ok-scope.scope in
    let at = place_of c.args.s.now in
    let entries = statements.block_entries ar ds xs in
    let parts = lists.fork_body (blocks.inside scope ar) at ds xs in
    let with_locals : List Declared → Type 0 = λ ls. Emits rs rs' os os' c.guarded_code.result (given (λ p. statements.fork_code at ls c.args.join p.0 p.1) parts where_also blocks.scope_stands scope entries) in
    let with_scope : Scope → Type 0 = λ z. Emits rs rs' os os' c.guarded_code.result (statements.fork_in ar at z entries ds c.args.join (λ i. statements.children i at xs)) in
    let made : with_locals c.in_ok-locals.locals =
    c.guarded_code.ensures rs rs' os os' _ _ (c.fork-held.ensures rs rs' os os' parts c.fork_body-made.ensures) c.block_stands.ensures in
    subst with_scope c.in_ok-scope.ensures.ok (subst with_locals c.in_ok-locals.ensures.ok made)

pub fork_body-returns : goal.fork_body-returns
fork_body-returns t c =
    let rs = c.args.routines.now in
    let rs' = c.first_routine-initializers.new.routines in
    let rs'' = c.children-rest.new.routines in
    let os = c.args.objects.now in
    let os' = c.declarations-first.new.objects in
    let os'' = c.children-rest.new.objects in
    let at = place_of c.args.s.now in
    let ds = map view.decl c.args.decls.now in
    let xs = view.stmt_list c.args.list.now in
    let i = around_in c.inside-inner.result in
    let first = blocks.decls_code i ds in
    let place : i ≡ blocks.inside c.args.scope.now (around_in c.args.around.now) = search rules in
    let in_place : Around → Type 0 = λ k. EmitsOf (fork_parts at) rs rs'' os os'' c.fork_parts.result (both first (statements.children k at xs)) in
    let at_place : Around → Type 0 = λ j. EmitsOf (fork_parts at) rs rs'' os os'' c.fork_parts.result (lists.fork_body j at ds xs) in
    let made : in_place (around_in c.in_fork-place.result) =
    c.fork_parts.ensures at rs rs' rs'' os os' os'' first (statements.children (around_in c.in_fork-place.result) at xs)
    (c.first_routine-initializers.ensures rs os os' first (steady_decls i ds) (c.declarations-first.ensures rs)) c.children-rest.ensures in
    subst at_place place (subst in_place (c.in_fork-place.ensures refl) made)

-- ---- loops with a scope

pub scoped_loop-returns-in_ok-scope-in-Declare : goal.scoped_loop-returns-in_ok-scope-in-Declare
scoped_loop-returns-in_ok-scope-in-Declare t c =
    let ar = around_in c.args.around.now in
    let rs = c.args.routines.now in
    let rs' = c.for_in-held.new.routines in
    let os = c.args.objects.now in
    let os' = c.for_in-held.new.objects in
    let at = place_of c.args.s.now in
    let w = view.type c.in-Declare.of in
    let n = c.in-Declare.name in
    let v = tree_view.expr c.in-Declare.value in
    let e = tree_view.expr c.in-For.condition in
    let l = view.for_step c.deref-step.result.now in
    let x = view.stmt c.deref-body.result.now in
    let entries = statements.for_entries w n x in
    let scope : Scope = c.in_ok-scope-in-Declare.scope in
    let at_body : tree.Body → Type 0 = λ b. Emits rs rs' os os' c.guarded_code.result (statements.body ar c.args.s.now.at c.args.s.now.label b) in
    let with_scope : Scope → Type 0 = λ z. Emits rs rs' os os' c.guarded_code.result (statements.for_in ar at z entries n v e l (λ i. statements.stmt i x)) in
    let path : view.body c.args.s.now.body ≡ tree.For (tree.Declare w n v) e l x = search (rules, the_lemmas) in
    let made : with_scope scope =
    subst (λ (y : Checked Code). Emits rs rs' os os' c.guarded_code.result y) (for_in_is ar at scope entries n v e l x)
    (c.guarded_code.ensures rs rs' os os' _ _ c.for_in-held.ensures c.for_stands.ensures) in
    subst at_body (sym path) (subst with_scope c.in_ok-scope-in-Declare.ensures.ok made)

pub scoped_loop-returns-in-Assign : goal.scoped_loop-returns-in-Assign
scoped_loop-returns-in-Assign t c =
    let ar = around_in c.args.around.now in
    let rs = c.args.routines.now in
    let rs' = c.for_from.new.routines in
    let os = c.args.objects.now in
    let os' = c.for_from.new.objects in
    let at = place_of c.args.s.now in
    let target = view.lval c.in-Assign.target in
    let v = tree_view.expr c.in-Assign.value in
    let e = tree_view.expr c.in-For.condition in
    let l = view.for_step c.deref-step.result.now in
    let x = view.stmt c.deref-body.result.now in
    let at_body : tree.Body → Type 0 = λ b. Emits rs rs' os os' c.for_from.result (statements.body ar c.args.s.now.at c.args.s.now.label b) in
    let with_locals : List Declared → Type 0 = λ ls. Emits rs rs' os os' c.for_from.result (lists.for_from ar at ls (fors.value_assigned ar target v) e l x) in
    let path : view.body c.args.s.now.body ≡ tree.For (tree.ForInit.Assign target v) e l x = search (rules, the_lemmas) in
    subst at_body (sym path) (subst with_locals c.new-none.ensures (c.for_from.ensures (fors.value_assigned ar target v) c.assign_value-first.ensures))

pub for_in-returns : goal.for_in-returns
for_in-returns t c =
    let ar = around_in c.args.around.now in
    let rs = c.args.routines.now in
    let rs' = c.for_from.new.routines in
    let os = c.args.objects.now in
    let os' = c.for_from.new.objects in
    let at = place_of c.args.s.now in
    let n = c.args.name.now in
    let v = tree_view.expr c.args.value.now in
    let e = tree_view.expr c.args.test.now in
    let l = view.for_step c.args.step.now in
    let x = view.stmt c.args.body.now in
    let i = around_in c.inside-inner.result in
    let place : i ≡ blocks.inside c.args.scope.now ar = search rules in
    let first : Gives c.first_value-first.result (fors.first_value i at n v) =
    subst (λ (p : Place). Gives c.first_value-first.result (fors.first_value i p n v)) c.place.ensures c.first_value-first.ensures in
    let with_locals : List Declared → Type 0 = λ ls. Emits rs rs' os os' c.for_from.result (fors.for_inside (blocks.inside c.args.scope.now ar) at ls n v e l (λ j. statements.stmt j x)) in
    let at_place : Around → Type 0 = λ j. Emits rs rs' os os' c.for_from.result (fors.for_inside j at c.in_ok-locals.locals n v e l (λ k. statements.stmt k x)) in
    subst with_locals c.in_ok-locals.ensures.ok (subst at_place place (c.for_from.ensures (fors.first_value i at n v) first))

pub foreach_in-returns : goal.foreach_in-returns
foreach_in-returns t c =
    let ar = around_in c.args.around.now in
    let rs = c.args.routines.now in
    let rs' = c.branch-turn.new.routines in
    let os = c.args.objects.now in
    let os' = c.branch-turn.new.objects in
    let x = view.stmt c.args.body.now in
    let at = place_of c.args.s.now in
    let inner : around_in c.inside-inner.result ≡ blocks.inside c.args.scope.now ar = search rules in
    let place : around_in c.in_loop.result ≡ statements.in_loop (blocks.inside c.args.scope.now ar) = c.in_loop.ensures ∙ ap statements.in_loop inner in
    let at_place : Around → Type 0 = λ j. Emits rs rs' os os' c.foreach_loop.result (given (λ p. statements.foreach_code ar at c.args.scope.now p.0 p.1) (both c.args.walked (statements.stmt j x))) in
    subst at_place place
    (c.foreach_loop.ensures rs rs' os os' c.args.scope.now c.args.walked (statements.stmt (around_in c.in_loop.result) x) c.answer.ensures c.branch-turn.ensures)
