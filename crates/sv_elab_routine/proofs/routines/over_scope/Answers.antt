-- The subroutine in its scope.
use Rattle.std.proofs.Common.{◌∙◌, map, not, refl, subst}
use Rattle.sv_flat.specs.declared.class.Routine.{Routine}
use Rattle.sv_tree.specs.StmtView as view
use Rattle.sv_names.specs.declared.checked.Checked.{Checked}
use Rattle.sv_names.specs.Code.{Numbered}
use Rattle.sv_names.specs.Emits.{Emits}
use Rattle.sv_names.specs.Views.{around_in}
use Rattle.sv_elab_declare.specs.Added.{class_of, method_of}
use Rattle.sv_elab_routine.specs.declared.bodies.Manner.{Manner}
use Rattle.sv_elab_before.specs.Befores.{before_in}
use Rattle.sv_elab_routine.specs.Bodies.{routine_within}
use Rattle.sv_elab_routine.proofs.MadeLaws.{made_within}
use Rattle.sv_elab_routine.proofs.routines.over_scope.Goals as goal

pub returns : goal.returns
returns c = λ same.
    let ar = around_in c.args.around.now in
    let k = class_of c.args.of.now in
    let m = method_of c.args.of.now in
    let xs = view.stmt_list c.args.list.now in
    let before = before_in ar c.args.before in
    let t = c.in_ok-scope.scope in
    let r = c.in_ok-returns.returns in
    let w : Manner = record {
      is_automatic = c.is_automatic_subroutine.result;
      has_object = not c.args.callee.is_static;
      may_wait = c.args.callee.is_task;
    } in
    subst
    (λ (x : Checked (Numbered Routine)).
    Emits c.args.routines.now c.routine_within.new.routines c.args.objects.now c.routine_within.new.objects c.routine_within.result x)
    ((λ i. routine_within ar t w r m.routine.head (map view.decl (c.as_slice-declared.ensures.value i)) xs before)
    ∙ made_within ar c.args.scope c.args.callee k m xs before t w r c.has_result-has_result.result same c.is_automatic_subroutine.ensures refl refl
    c.has_result-has_result.ensures c.in_ok-returns.ensures c.in_ok-scope.ensures) c.routine_within.ensures
