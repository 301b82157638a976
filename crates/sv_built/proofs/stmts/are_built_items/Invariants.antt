use Rattle.std.proofs.Common.{◌↔◌, drop}
use Rattle.std.specs.List.{AllByRecursion}
use Rattle.sv_built.specs.Built.{IsBuiltItem}
use Rattle.sv_built.proofs.stmts.are_built_items.Given as goal

-- the rest decides
abbrev pub invariant-loop-item : goal.invariant-loop-item
invariant-loop-item l = AllByRecursion IsBuiltItem l.items ↔ AllByRecursion IsBuiltItem (drop l.item-index l.items)
