-- What is settled is all that the pure method declares.
use Rattle.std.proofs.Common.{◌≡◌, List, Some, subst}
use Rattle.std.specs.Prelude.{IfOk}
use Rattle.sv_tree.specs.UnitView.{head}
use Rattle.sv_names.specs.Entries.{Entry}
use Rattle.sv_names.specs.Views.{around_in}
use Rattle.sv_elab_scope.specs.Stages.{is_last}
use Rattle.sv_elab_head.specs.Heads.{scope_over}
use Rattle.sv_elab_head.proofs.scopes.pure_scope.Goals as goal

pub returns : goal.returns
returns c =
    subst (λ (es : List Entry). IfOk c.scope_over.result (λ s. s
    ≡ scope_over (is_last c.args.stage) (around_in c.args.around.now) c.args.path.now (Some c.args.class.now) (head c.args.of.now) es))
    (c.in_ok-names.ensures c.in_ok-this.ensures) c.scope_over.ensures
