use Rattle.std.proofs.Common.{◌≡◌, drop}
use Rattle.sv_tree.specs.StmtView as view
use Rattle.sv_names.specs.Cases as cases
use Rattle.sv_elab_flow.specs.CaseSteps as steps
use Rattle.sv_elab_flow.proofs.case.default_in.Given as goal

abbrev pub invariant-loop-item : goal.invariant-loop-item
invariant-loop-item l =
    steps.or_later l.default (cases.default_in (view.case_item_list (drop l.item-index l.items)) l.rest)
    ≡ cases.default_in (view.case_item_list l.items) l.bodies
