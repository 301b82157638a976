-- The objects of arguments and result come first.
use Rattle.std.proofs.Common.{List, map, subst}
use Rattle.sv_flat.specs.declared.class.Subroutine.{Subroutine}
use Rattle.sv_flat.specs.declared.object.Object.{Object}
use Rattle.sv_tree.specs.StmtView as view
use Rattle.sv_tree.specs.UnitView.{head}
use Rattle.sv_names.specs.Checked.{given}
use Rattle.sv_names.specs.Code.{Code, with_objects}
use Rattle.sv_names.specs.Emits.{Emits}
use Rattle.sv_names.specs.Subroutines.{routine_at}
use Rattle.sv_names.specs.Views.{around_in}
use Rattle.sv_elab_before.specs.Befores.{before_in}
use Rattle.sv_elab_routine.specs.Bodies.{body_code}
use Rattle.sv_elab_before.specs.Objects.{own_objects}
use Rattle.sv_elab_routine.proofs.bodies.routine_inside.Goals as goal

pub returns : goal.returns
returns c =
    let i = around_in c.args.inner.now in
    let h = head c.args.of.now in
    let rs = c.args.routines.now in
    let os = c.args.objects.now in
    let rs' = c.body_made-body.new.routines in
    let os' = c.body_made-body.new.objects in
    let own = own_objects i c.args.scope.now h in
    let code = body_code i (before_in (around_in c.args.around.now) c.args.before) (map view.decl c.args.declared.now) (view.stmt_list c.args.list.now) in
    let body = subst (λ (l : List Object). Emits rs rs' l os' c.body_made-body.result code) c.in_ok-add_objects.ensures c.body_made-body.ensures in
    subst
    (λ (s : Subroutine).
    Emits rs rs' os os' c.routine_with.result (given (λ (x : Code). routine_at h.name.at s (with_objects own x)) code))
    c.in_ok-subroutine.ensures.ok (c.routine_with.ensures rs rs' os own os' code body)
