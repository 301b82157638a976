-- The head of a pure method over its scope is that of the definition.
use Rattle.std.proofs.Common.{true, Some, ◌∙◌, ap}
use Rattle.sv_tree.specs.UnitView.{head}
use Rattle.sv_names.specs.declared.named.Named.TheVariants.{Subroutine}
use Rattle.sv_names.specs.declared.scope.Scope.{Scope}
use Rattle.sv_names.specs.Entries.{pure_method}
use Rattle.sv_names.specs.Scopes.{callee_within}
use Rattle.sv_names.specs.Views.{around_in}
use Rattle.sv_elab_scope.specs.Stages.{is_last}
use Rattle.sv_elab_head.proofs.MeaningLaws.{head_is}
use Rattle.sv_elab_head.proofs.meaning.pure_named.Goals as goal

pub returns : goal.returns
returns c =
    let ar = around_in c.args.around.now in
    let k = Some c.args.of.now.class.now in
    let m = pure_method (head c.args.of.now.head.now) in
    ap Subroutine
    (c.in_ok-kept.ensures ∙ c.in_ok-callee.ensures ∙ ap (λ (s : Scope). callee_within ar s true k m) c.in_ok-scope.ensures
    ∙ head_is (is_last c.args.stage) ar c.args.path.now true k m)
