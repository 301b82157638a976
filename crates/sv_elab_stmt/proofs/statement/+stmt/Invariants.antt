use Rattle.std.proofs.Common.{◌≡◌, List, drop}
use Rattle.sv_tree.specs.StmtView as view
use Rattle.sv_names.specs.declared.checked.Checked.{Checked}
use Rattle.sv_names.specs.Blocks.{in_sequence}
use Rattle.sv_names.specs.Code.{Code}
use Rattle.sv_names.specs.Emits.{Emits}
use Rattle.sv_names.specs.Joined.{joined}
use Rattle.sv_names.specs.Statements as statements
use Rattle.sv_names.specs.Views.{around_in}
use Rattle.sv_elab_stmt.specs.Lists as lists
use Rattle.sv_elab_flow.specs.Parts.{EmitsOf, place_of, routines_of}
use Rattle.sv_elab_stmt.proofs.statement.+stmt.Given as goal

abbrev pub invariant-stmts-loop-x : goal.invariant-stmts-loop-x
invariant-stmts-loop-x l =
    (c : Checked Code) × Emits l.fn.routines l.routines l.fn.objects l.objects l.done c
    × (in_sequence c (statements.stmts (around_in l.place) (view.stmt_list (drop l.x-index l.list)))
    ≡ statements.stmts (around_in l.around) (view.stmt_list l.list))

abbrev pub invariant-children-loop-x : goal.invariant-children-loop-x
invariant-children-loop-x l =
    (c : Checked (List Code)) × EmitsOf (routines_of (place_of l.whole)) l.fn.routines l.routines l.fn.objects l.objects l.done c
    × (joined c (lists.codes (around_in l.place) (view.stmt_list (drop l.x-index l.list)))
    ≡ lists.codes (around_in l.around) (view.stmt_list l.list))

abbrev pub invariant-items-loop-x : goal.invariant-items-loop-x
invariant-items-loop-x l =
    (c : Checked (List Code)) × EmitsOf (routines_of (place_of l.whole)) l.fn.routines l.routines l.fn.objects l.objects l.done c
    × (joined c (statements.items (around_in l.place) (view.case_item_list (drop l.x-index l.list)))
    ≡ statements.items (around_in l.around) (view.case_item_list l.list))
