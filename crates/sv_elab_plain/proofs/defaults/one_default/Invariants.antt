use Rattle.std.proofs.Common.{◌≡◌, map, length}
use Rattle.std.specs.Prelude.{flat_map}
use Rattle.sv_tree.specs.UnitView.{item}
use Rattle.sv_names.specs.Items.{at_most_one, default_words}
use Rattle.sv_elab_plain.specs.Parts.{at_most_behind}
use Rattle.sv_elab_plain.proofs.defaults.one_default.Given as goal

abbrev pub invariant-loop-left : goal.invariant-loop-left
invariant-loop-left l =
    at_most_behind l.has_one (flat_map default_words (map item l.left)) ≡ at_most_one (flat_map default_words (map item l.all))

abbrev pub decreases-loop-left : goal.decreases-loop-left
decreases-loop-left l = length l.left
