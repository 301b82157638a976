use Rattle.std.proofs.Common.{◌≡◌, List, drop, map}
use Rattle.sv_flat.specs.declared.class.Routine.{Routine}
use Rattle.sv_flat.specs.declared.object.Object.{Object}
use Rattle.sv_tree.specs.UnitView.{class_item}
use Rattle.sv_names.specs.declared.checked.Checked.{Checked}
use Rattle.sv_names.specs.Blocks.{in_sequence}
use Rattle.sv_names.specs.Code.{Code}
use Rattle.sv_names.specs.Emits.{Emits}
use Rattle.sv_names.specs.Subroutines.{initializers}
use Rattle.sv_names.specs.Views.{around_in}
use Rattle.sv_elab_before.proofs.properties.initializers.Given as goal

abbrev pub invariant-loop-item : goal.invariant-loop-item
invariant-loop-item l =
    (c : Checked Code) × ((rs : List Routine) (os : List Object) → Emits rs rs os os l.done c)
    × (in_sequence c (initializers (around_in l.around) l.class (map class_item (drop l.item-index l.items)))
    ≡ initializers (around_in l.around) l.class (map class_item l.items))
