use Rattle.std.proofs.Common.{◌∙◌, List, map, ap, subst}
use Rattle.sv_names.specs.Blocks.{scope_stands}
use Rattle.sv_names.specs.Entries.{Entry}
use Rattle.sv_names.specs.Given.{Gives}
use Rattle.sv_elab_scope.specs.Views.{entry_in}
use Rattle.sv_elab_block.proofs.stands.block_stands.Goals as goal

pub returns : goal.returns
returns c =
    subst (λ (es : List Entry). Gives c.scope_stands.result (scope_stands c.args.scope.now es))
    (ap (map entry_in) c.as_slice.ensures ∙ c.in_ok-names.ensures) c.scope_stands.ensures
