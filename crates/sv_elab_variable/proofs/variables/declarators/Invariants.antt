use Rattle.std.proofs.Common.{◌≡◌, List, drop, map}
use Rattle.sv_flat.specs.declared.class.Routine.{Routine}
use Rattle.sv_tree.specs.StmtView as view
use Rattle.sv_names.specs.declared.checked.Checked.{Checked}
use Rattle.sv_names.specs.Blocks.{declarators_code, in_sequence}
use Rattle.sv_names.specs.Code.{Code}
use Rattle.sv_names.specs.Emits.{Emits}
use Rattle.sv_names.specs.Views.{around_in}
use Rattle.sv_elab_variable.proofs.variables.declarators.Given as goal

abbrev pub invariant-loop-one : goal.invariant-loop-one
invariant-loop-one l =
    (c : Checked Code) × ((rs : List Routine) → Emits rs rs l.fn.objects l.objects l.done c)
    × (in_sequence c (declarators_code (around_in l.around) l.life (map view.declarator (drop l.one-index l.names)))
    ≡ declarators_code (around_in l.around) l.life (map view.declarator l.names))
