-- The head of a subroutine over its scope is that of the definition.
use Rattle.std.proofs.Common.{false, ◌∙◌, ap}
use Rattle.sv_names.specs.declared.named.Named.TheVariants.{Subroutine}
use Rattle.sv_names.specs.declared.scope.Scope.{Scope}
use Rattle.sv_names.specs.Scopes.{callee_within}
use Rattle.sv_names.specs.Views.{around_in}
use Rattle.sv_elab_scope.specs.Stages.{is_last}
use Rattle.sv_elab_declare.specs.Added.{class_of, method_of}
use Rattle.sv_elab_head.proofs.MeaningLaws.{head_is}
use Rattle.sv_elab_head.proofs.meaning.routine_named.Goals as goal

pub returns : goal.returns
returns c =
    let ar = around_in c.args.around.now in
    let k = class_of c.args.of.now in
    let m = method_of c.args.of.now in
    ap Subroutine
    (c.in_ok-kept.ensures ∙ c.in_ok-callee.ensures ∙ ap (λ (s : Scope). callee_within ar s false k m) c.in_ok-scope.ensures
    ∙ head_is (is_last c.args.stage) ar c.args.path.now false k m)
