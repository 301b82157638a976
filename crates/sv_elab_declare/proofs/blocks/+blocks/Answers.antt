use Rattle.std.proofs.Common.{rules, ◌∙◌, sym}
use Rattle.sv_tree.specs.StmtView.{case_items_are}
use Rattle.sv_tree.specs.declared.statement.Body.{the_lemmas}
use Rattle.sv_elab_declare.proofs.BlockLaws.{item_turn}
use Rattle.sv_elab_declare.proofs.blocks.+blocks.Goals as goal

pub add_blocks-returns-in-Case : goal.add_blocks-returns-in-Case
add_blocks-returns-in-Case t c = search (rules, the_lemmas, case_items_are)

pub add_case_blocks-loop-item-preserved : goal.add_case_blocks-loop-item-preserved
add_case_blocks-loop-item-preserved t c =
    item_turn c.args.items.now c.loop-item.item-index c.item-item.result c.loop-item.names c.add_item_blocks.new.names c.loop-item-test.true
    (sym c.item-item.is) c.in_ok-add_item_blocks.ensures
    ∙ c.loop-item.invariant
