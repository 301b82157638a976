use Rattle.std.proofs.Common.{◌≡◌, ◌++◌, drop}
use Rattle.sv_tree.specs.StmtView.{lval_list}
use Rattle.sv_names.specs.Expressions.{targets_in, as_exprs}
use Rattle.sv_names.specs.Views.{around_in}
use Rattle.sv_elab_write.proofs.targets.+target.Given as goal

abbrev pub invariant-targets_in-loop-item : goal.invariant-targets_in-loop-item
invariant-targets_in-loop-item l =
    l.done.items ++ targets_in l.how (around_in l.place) (as_exprs (lval_list (drop l.item-index l.items)))
    ≡ targets_in l.how (around_in l.around) (as_exprs (lval_list l.items))
