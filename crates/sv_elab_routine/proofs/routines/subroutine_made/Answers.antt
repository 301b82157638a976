-- The head and the scope are those of the subroutine.
use Rattle.std.proofs.Common.{◌∙◌, false, ap, subst}
use Rattle.sv_flat.specs.declared.class.Routine.{Routine}
use Rattle.sv_tree.specs.StmtView as view
use Rattle.sv_names.specs.declared.checked.Checked.{Checked}
use Rattle.sv_names.specs.declared.named.Callee.{Callee}
use Rattle.sv_names.specs.declared.scope.Scope.{Scope}
use Rattle.sv_names.specs.Code.{Numbered}
use Rattle.sv_names.specs.Emits.{Emits}
use Rattle.sv_names.specs.Scopes.{callee_within}
use Rattle.sv_names.specs.Subroutines.{made_over}
use Rattle.sv_names.specs.Views.{around_in}
use Rattle.sv_elab_declare.specs.Added.{class_of, method_of}
use Rattle.sv_elab_before.specs.Befores.{before_in}
use Rattle.sv_elab_routine.specs.Made.{routine_of}
use Rattle.sv_elab_routine.proofs.routines.subroutine_made.Goals as goal

pub returns : goal.returns
returns c =
    let ar = around_in c.args.around.now in
    let k = class_of c.args.of.now in
    let m = method_of c.args.of.now in
    let xs = view.stmt_list c.args.list.now in
    let before = before_in ar c.args.before in
    let callee = c.in_ok-callee.ensures ∙ ap (λ (s : Scope). callee_within ar s false k m) c.in_ok-scope.ensures in
    subst
    (λ (x : Checked (Numbered Routine)).
    Emits c.args.routines.now c.made_over.new.routines c.args.objects.now c.made_over.new.objects c.made_over.result x)
    (λ i. routine_of (made_over ar (c.in_ok-scope.ensures i) (callee i) k m xs before))
    (c.made_over.ensures (ap (λ (x : Callee). x.class) c.in_ok-callee.ensures))
