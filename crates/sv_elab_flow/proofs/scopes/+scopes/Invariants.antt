use Rattle.std.proofs.Common.{◌≡◌, ◌-◌, ◌^◌, ◌+◌, ◌≤◌, min, drop}
use Rattle.sv_tree.specs.StmtView as view
use Rattle.sv_names.specs.Blocks as blocks
use Rattle.sv_elab_flow.proofs.scopes.+scopes.Given as goal

abbrev pub invariant-scopes_of-loop-item : goal.invariant-scopes_of-loop-item
invariant-scopes_of-loop-item l =
    (l.made ≤ 2 ^ 32 - 1)
    × (min (l.made + blocks.scopes_of_items (view.case_item_list (drop l.item-index l.items))) (2 ^ 32 - 1)
    ≡ min (blocks.scopes_of_items (view.case_item_list l.items)) (2 ^ 32 - 1))
