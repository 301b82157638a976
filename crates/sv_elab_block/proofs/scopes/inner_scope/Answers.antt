use Rattle.std.proofs.Common.{◌∙◌, map, option_map, ap, refl}
use Rattle.sv_names.specs.Scopes.{makes_activation}
use Rattle.sv_names.specs.Views.{around_in}
use Rattle.sv_elab_scope.specs.Views.{entry_in}
use Rattle.sv_elab_block.proofs.ScopeLaws.{scope_settled}
use Rattle.sv_elab_block.proofs.scopes.inner_scope.Goals as goal

pub returns : goal.returns
returns c =
    scope_settled (around_in c.args.around.now) (option_map (λ n. n.now) c.args.name) c.as_slice.result.now c.makes_activation.result
    (map entry_in c.args.names) c.in_ok-scope.scope (c.as_slice.ensures ∙ c.in_ok-path.ensures)
    (c.makes_activation.ensures ∙ ap (λ es. makes_activation (map entry_in es)) c.as_slice-2.ensures) (c.in_ok-scope.ensures refl)
