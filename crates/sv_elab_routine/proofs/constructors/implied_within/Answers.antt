-- No object is added, and the statements stand in the scope.
use Rattle.std.proofs.Common.{◌≡◌, ◌∙◌, List, [], ◌++◌, map, ap, subst, append-nil}
use Rattle.sv_flat.specs.declared.class.Routine.{Routine}
use Rattle.sv_flat.specs.declared.object.Object.{Object}
use Rattle.sv_tree.specs.UnitView.{class_item}
use Rattle.sv_names.specs.declared.checked.Checked.{Checked}
use Rattle.sv_names.specs.Checked.{given}
use Rattle.sv_names.specs.Code.{Code, Numbered}
use Rattle.sv_names.specs.Emits.{Emits}
use Rattle.sv_names.specs.Subroutines.{No_super, constructor_before, routine_at}
use Rattle.sv_names.specs.Views.{around_in}
use Rattle.sv_elab_before.specs.Befores.{construction}
use Rattle.sv_elab_routine.proofs.constructors.implied_within.Goals as goal

pub returns : goal.returns
returns c = λ rs os.
    let ar = around_in c.args.around.now in
    let k = c.args.class.now in
    let items = map class_item c.args.items.now in
    let at = k.name.at in
    let sub = c.in_ok-subroutine.subroutine in
    let here : around_in c.in_body-inner.result ≡ construction ar c.args.scope.now =
    c.in_body-inner.ensures c.args.scope.now c.as_slice-path.ensures (ap (map (λ s. s.now)) c.as_slice.ensures.value ∙ c.in_ok-scopes.ensures.ok) in
    let code = constructor_before ar k items at No_super (around_in c.in_body-inner.result) in
    let made = subst (λ (o : List Object). Emits rs rs os o c.routine_with.result (given (λ (x : Code). routine_at at sub x) code)) (append-nil os)
    (c.routine_with.ensures rs rs os [] (os ++ []) code (c.constructor_before-body.ensures rs (os ++ []))) in
    subst (λ (x : Checked (Numbered Routine)). Emits rs rs os os c.routine_with.result x)
    (λ i. given (λ (x : Code). routine_at at (c.in_ok-subroutine.ensures.ok i) x) (constructor_before ar k items at No_super (here i))) made
