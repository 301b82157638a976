use Rattle.std.proofs.Common.{◌≡◌, ◌++◌, map, length, option_map}
use Rattle.sv_tree.specs.StmtView.{implied}
use Rattle.sv_tree.specs.UnitView.{argument, head}
use Rattle.sv_names.specs.Entries.{argument_entries, taken}
use Rattle.sv_elab_scope.specs.Views.{entry_in}
use Rattle.sv_elab_declare.specs.Added.{arguments_after}
use Rattle.sv_elab_declare.proofs.arguments.add_arguments.Given as goal

abbrev pub invariant-loop-left : goal.invariant-loop-left
invariant-loop-left l =
    map entry_in l.names ++ arguments_after l.is_automatic (option_map (λ t. implied t.now) l.before) (map argument l.left)
    ≡ map entry_in l.initial.names ++ argument_entries l.is_automatic (taken (head l.of))

abbrev pub decreases-loop-left : goal.decreases-loop-left
decreases-loop-left l = length l.left
