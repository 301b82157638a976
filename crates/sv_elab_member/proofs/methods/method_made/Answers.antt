-- The routine of the method stands behind the others, by the name of the method in its class.
use Rattle.std.proofs.Common.{◌∙◌, Ok, Some, sym, subst}
use Rattle.sv_tree.specs.UnitView.{method}
use Rattle.sv_names.specs.declared.checked.Checked.{Checked}
use Rattle.sv_names.specs.Checked.{given}
use Rattle.sv_names.specs.Given.{Fails}
use Rattle.sv_names.specs.Subroutines.{MadeSubroutine, made_subroutine, nothing_before}
use Rattle.sv_names.specs.Types.{Path}
use Rattle.sv_names.specs.Views.{around_in}
use Rattle.sv_elab_member.specs.Methods.{alone}
use Rattle.sv_elab_member.specs.Putting.{Putting}
use Rattle.sv_elab_member.proofs.MethodLaws.{fails_alone, method_path, put_given}
use Rattle.sv_elab_member.proofs.methods.method_made.Goals as goal

pub returns-in_ok-add_subroutine-in-Ok : goal.returns-in_ok-add_subroutine-in-Ok
returns-in_ok-add_subroutine-in-Ok c =
    let ar = around_in c.args.around.now in
    let m = method c.args.of.now in
    let made : Path → Checked MadeSubroutine = λ p. made_subroutine ar p (Some p) m m.routine.stmts nothing_before in
    let here = c.as_slice-path.result.now in
    let x = c.args.so_far.now in
    let z = c.add_subroutine.new.self in
    subst (λ (p : Path). Putting x z (Ok tt) (given alone (made p))) c.as_slice-path.ensures
    (put_given (made here) x z c.in_ok-own.own c.routine_made-routine.new.routines c.routine_made-routine.new.objects c.in-Ok.routine
    (λ n is. method_path ar here (Some here) m m.routine.stmts nothing_before n is ∙ sym c.in_ok-own.ensures) c.in-Ok.ensures
    c.in_ok-add_subroutine-in-Ok.ensures)

pub returns-in-Err : goal.returns-in-Err
returns-in-Err c =
    let ar = around_in c.args.around.now in
    let m = method c.args.of.now in
    let made : Path → Checked MadeSubroutine = λ p. made_subroutine ar p (Some p) m m.routine.stmts nothing_before in
    subst (λ (p : Path). Fails c.in-Err.e (given alone (made p))) c.as_slice-path.ensures
    (fails_alone c.in-Err.e (made c.as_slice-path.result.now) c.in-Err.ensures)
