use Rattle.std.proofs.Common.{◌≡◌, ◌++◌, drop, map}
use Rattle.sv_tree.specs.StmtView.{enum_item}
use Rattle.sv_elab_type.specs.Waiting.{waiting_items}
use Rattle.sv_elab_type.proofs.enums.waiting_items.Given as goal

abbrev pub invariant-loop-item : goal.invariant-loop-item
invariant-loop-item l = l.known ++ waiting_items (map enum_item (drop l.item-index l.items)) ≡ waiting_items (map enum_item l.items)
