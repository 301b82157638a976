use Rattle.std.proofs.Common.{◌≡◌, ◌++◌, map, length, option_map, None}
use Rattle.sv_tree.specs.View.{expr}
use Rattle.sv_tree.specs.StmtView.{type, enum_item}
use Rattle.sv_names.specs.Entries.{items_from}
use Rattle.sv_elab_scope.specs.Views.{entry_in}
use Rattle.sv_elab_declare.proofs.types.add_enum_items.Given as goal

abbrev pub invariant-loop-left : goal.invariant-loop-left
invariant-loop-left l =
    map entry_in l.names ++ items_from (type l.ty) (option_map (λ e. expr e.now) l.start) l.steps (map enum_item l.left)
    ≡ map entry_in l.initial.names ++ items_from (type l.ty) None 0 (map enum_item l.items)

abbrev pub decreases-loop-left : goal.decreases-loop-left
decreases-loop-left l = length l.left
