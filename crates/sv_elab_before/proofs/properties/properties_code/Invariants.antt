use Rattle.std.proofs.Common.{◌≡◌, List, drop, map}
use Rattle.sv_flat.specs.declared.class.Routine.{Routine}
use Rattle.sv_flat.specs.declared.object.Object.{Object}
use Rattle.sv_tree.specs.StmtView.{declarator}
use Rattle.sv_names.specs.declared.checked.Checked.{Checked}
use Rattle.sv_names.specs.Blocks.{in_sequence}
use Rattle.sv_names.specs.Code.{Code}
use Rattle.sv_names.specs.Emits.{Emits}
use Rattle.sv_names.specs.Subroutines.{properties_code}
use Rattle.sv_names.specs.Views.{around_in}
use Rattle.sv_elab_before.proofs.properties.properties_code.Given as goal

abbrev pub invariant-loop-one : goal.invariant-loop-one
invariant-loop-one l =
    (c : Checked Code) × ((rs : List Routine) (os : List Object) → Emits rs rs os os l.done c)
    × (in_sequence c (properties_code (around_in l.around) l.class (map declarator (drop l.one-index l.names)))
    ≡ properties_code (around_in l.around) l.class (map declarator l.names))
