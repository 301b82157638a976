use Rattle.std.proofs.Common.{rules, arith, ◌≤◌, ◌-◌, ◌^◌, sym}
use Rattle.sv_tree.specs.StmtView.{case_items_are}
use Rattle.sv_tree.specs.declared.statement.Body.{the_lemmas}
use Rattle.sv_elab_flow.proofs.ScopeLaws.{scopes_next, scopes_whole}
use Rattle.sv_elab_flow.proofs.scopes.+scopes.Goals as goal

pub scopes_made-returns-in-Case : goal.scopes_made-returns-in-Case
scopes_made-returns-in-Case t c = search (rules, the_lemmas, case_items_are)

pub scopes_of-loop-item-preserved : goal.scopes_of-loop-item-preserved
scopes_of-loop-item-preserved t c =
    let small : c.saturating_add-made.result ≤ 2 ^ 32 - 1 = omega (arith, c.saturating_add-made.ensures) in (
      small,
      scopes_next (2 ^ 32 - 1) c.args.items.now c.loop-item.item-index c.loop-item.made c.saturating_add-made.result c.scopes_of_item.result _
          c.item-item.result c.loop-item-test.true (sym c.item-item.is) c.scopes_of_item.ensures c.saturating_add-made.ensures c.loop-item.invariant.1,
    )

pub scopes_of-returns : goal.scopes_of-returns
scopes_of-returns t c =
    scopes_whole (2 ^ 32 - 1) c.args.items.now c.loop-item.item-index c.loop-item.made _ c.loop-item-test.false c.loop-item.invariant.0
    c.loop-item.invariant.1
