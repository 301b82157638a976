-- The rules on the declarations guard the subroutine.
use Rattle.std.proofs.Common.{subst}
use Rattle.sv_flat.specs.declared.class.Routine.{Routine}
use Rattle.sv_tree.specs.StmtView as view
use Rattle.sv_names.specs.declared.checked.Checked.{Checked}
use Rattle.sv_names.specs.Code.{Numbered}
use Rattle.sv_names.specs.Emits.{Emits}
use Rattle.sv_names.specs.Views.{around_in}
use Rattle.sv_elab_declare.specs.Added.{class_of, method_of}
use Rattle.sv_elab_before.specs.Befores.{before_in}
use Rattle.sv_elab_routine.proofs.MadeLaws.{made_guarded}
use Rattle.sv_elab_routine.proofs.routines.made_over.Goals as goal

pub returns : goal.returns
returns c = λ same.
    let ar = around_in c.args.around.now in
    let k = class_of c.args.of.now in
    let m = method_of c.args.of.now in
    let xs = view.stmt_list c.args.list.now in
    let rs = c.args.routines.now in
    let os = c.args.objects.now in
    let rs' = c.over_scope-made.new.routines in
    let os' = c.over_scope-made.new.objects in
    subst (λ (x : Checked (Numbered Routine)). Emits rs rs' os os' c.guarded_routine.result x)
    (made_guarded ar c.args.scope c.args.callee k m xs (before_in ar c.args.before))
    (c.guarded_routine.ensures rs rs' os os' _ _ (c.over_scope-made.ensures same) c.routine_stands-guard.ensures)
