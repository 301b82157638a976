-- The scope that was settled is that of the subroutine.
use Rattle.std.proofs.Common.{◌≡◌, ◌∙◌, map, refl, sym, ap, subst}
use Rattle.std.specs.Prelude.{IfOk}
use Rattle.sv_tree.specs.UnitView.{head}
use Rattle.sv_names.specs.declared.scope.Scope.{Scope}
use Rattle.sv_names.specs.Views.{around_in}
use Rattle.sv_elab_scope.specs.Stages.{is_last}
use Rattle.sv_elab_scope.specs.Views.{entry_in}
use Rattle.sv_elab_declare.specs.Alone.{class_in}
use Rattle.sv_elab_head.specs.Heads.{enters, scope_at}
use Rattle.sv_elab_head.proofs.scopes.scope_over.Goals as goal

pub returns-in-Rounds : goal.returns-in-Rounds
returns-in-Rounds c =
    let ar = around_in c.args.around.now in
    let k = class_in c.args.class in
    let h = head c.args.of.now in
    let own = c.as_slice-2.ensures ∙ c.in_ok-own.ensures in
    let made = c.enters-enters.ensures ∙ ap (λ ns. enters ar.is_automatic k h (map entry_in ns)) c.as_slice.ensures in
    subst (λ (x : Scope). IfOk c.first_scope.result (λ s. s ≡ x))
    (λ i. scope_at (is_last (sym c.in-Rounds.is i)) ar (own i) k (made i) (map entry_in c.args.names)) (c.first_scope.ensures refl)

pub returns : goal.returns
returns c =
    let ar = around_in c.args.around.now in
    let k = class_in c.args.class in
    let h = head c.args.of.now in
    let own = c.as_slice-2.ensures ∙ c.in_ok-own.ensures in
    let made = c.enters-enters.ensures ∙ ap (λ ns. enters ar.is_automatic k h (map entry_in ns)) c.as_slice.ensures in
    subst (λ (x : Scope). IfOk c.settled_scope.result (λ s. s ≡ x))
    (λ i. scope_at (is_last (sym c.in-End.is i)) ar (own i) k (made i) (map entry_in c.args.names)) (c.settled_scope.ensures refl)
