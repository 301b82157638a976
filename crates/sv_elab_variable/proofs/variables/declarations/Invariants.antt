use Rattle.std.proofs.Common.{◌≡◌, List, drop, map}
use Rattle.sv_flat.specs.declared.class.Routine.{Routine}
use Rattle.sv_tree.specs.StmtView as view
use Rattle.sv_names.specs.declared.checked.Checked.{Checked}
use Rattle.sv_names.specs.Blocks.{decls_code, in_sequence}
use Rattle.sv_names.specs.Code.{Code}
use Rattle.sv_names.specs.Emits.{Emits}
use Rattle.sv_names.specs.Views.{around_in}
use Rattle.sv_elab_variable.proofs.variables.declarations.Given as goal

abbrev pub invariant-loop-one : goal.invariant-loop-one
invariant-loop-one l =
    (c : Checked Code) × ((rs : List Routine) → Emits rs rs l.fn.objects l.objects l.done c)
    × (in_sequence c (decls_code (around_in l.around) (map view.decl (drop l.one-index l.declared)))
    ≡ decls_code (around_in l.around) (map view.decl l.declared))
