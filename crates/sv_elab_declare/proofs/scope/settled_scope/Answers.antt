use Rattle.std.proofs.Common.{◌∙◌, ◌++◌, ◌∷◌, [], ap}
use Rattle.sv_elab_scope.specs.Starting.{all_waiting}
use Rattle.sv_names.specs.Views.{around_in}
use Rattle.sv_elab_scope.specs.Rows.{group_in}
use Rattle.sv_elab_declare.specs.Alone.{group_alone}
use Rattle.sv_elab_declare.proofs.AloneLaws.{scope_settled}
use Rattle.sv_elab_declare.proofs.scope.settled_scope.Goals as goal

pub returns : goal.returns
returns g c = λ is.
    scope_settled g.M.Means.meant (around_in c.args.around.now) c.args.head.now c.args.names c.in_ok-kept.kept c.as_slice-2.result.now
    (group_in c.in_ok-group.group) (group_in c.in_ok-group-2.group) is c.in_ok-kept.ensures
    (c.as_slice-2.ensures ∙ c.in_ok-push.ensures.ok ∙ ap (λ l. l ++ c.in_ok-kept.kept ∷ []) c.new-lists.ensures)
    (c.in_ok-group.ensures ∙ ap (λ x. group_alone c.args.head.now (all_waiting x)) c.as_slice.ensures) c.in_ok-group-2.ensures
