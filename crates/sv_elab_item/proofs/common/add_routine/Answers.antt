-- A subroutine stands behind the others.
use Rattle.std.proofs.Common.{◌∙◌, None, sym, ap, subst}
use Rattle.sv_tree.specs.UnitView.{routine}
use Rattle.sv_names.specs.Checked.{given}
use Rattle.sv_names.specs.Entries.{plain_routine}
use Rattle.sv_names.specs.Emits.{Made}
use Rattle.sv_names.specs.Items.{subroutine_made}
use Rattle.sv_names.specs.Subroutines.{MadeSubroutine, made_subroutine, nothing_before}
use Rattle.sv_names.specs.Views.{around_in}
use Rattle.sv_elab_parts.specs.Adding.{Adds}
use Rattle.sv_elab_plain.proofs.CheckedLaws.{good_given, fails_again}
use Rattle.sv_elab_plain.proofs.CommonLaws.{made_path, subroutine_added}
use Rattle.sv_elab_item.proofs.common.add_routine.Goals as goal

pub returns-in_ok-add_subroutine-in-Ok : goal.returns-in_ok-add_subroutine-in-Ok
returns-in_ok-add_subroutine-in-Ok c =
    let x = c.args.so_far.now in
    let ar = around_in c.args.around.now in
    let p = c.args.path.now in
    let r = routine c.args.of.now in
    let rs' = c.routine_made.new.routines in
    let os' = c.routine_made.new.objects in
    let whole = made_subroutine ar p None (plain_routine r) r.stmts nothing_before in
    let code = c.in-Ok.ensures in
    let part = good_given (λ (m : MadeSubroutine). m.routine) whole code.0 code.1 in
    let m = part.0 in
    let path = c.in_ok-own.ensures ∙ sym (made_path ar p None (plain_routine r) r.stmts nothing_before m part.1) in
    let made = subst (λ n. Made x.routines rs' x.objects os' c.in-Ok.routine n) part.2 code.2 in (
      subroutine_made m,
      ap (given subroutine_made) part.1,
      subst (λ y. Adds x y (subroutine_made m)) (sym c.in_ok-add_subroutine-in-Ok.ensures)
          (subroutine_added x m c.in_ok-own.own c.in-Ok.routine rs' os' path made),
    )

pub returns-in-Err : goal.returns-in-Err
returns-in-Err c =
    let r = routine c.args.of.now in
    fails_again (λ (m : MadeSubroutine). m.routine) subroutine_made
    (made_subroutine (around_in c.args.around.now) c.args.path.now None (plain_routine r) r.stmts nothing_before) c.in-Err.e c.in-Err.ensures
