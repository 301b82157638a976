use Rattle.std.proofs.Common.{◌∙◌, ◌∷◌, List, map, ap, subst}
use Rattle.sv_tree.specs.StmtView as view
use Rattle.sv_names.specs.declared.checked.Checked.{Checked}
use Rattle.sv_names.specs.declared.ty.Ty.{Ty}
use Rattle.sv_names.specs.Blocks.{scope_stands}
use Rattle.sv_names.specs.Entries.{Entry, entry, blocks, A_given}
use Rattle.sv_names.specs.Given.{Gives}
use Rattle.sv_elab_scope.specs.Views.{entry_in}
use Rattle.sv_elab_block.proofs.stands.foreach_stands.Goals as goal

pub returns : goal.returns
returns c =
    subst (λ (es : List Entry). Gives c.scope_stands.result (scope_stands c.args.scope.now es))
    (ap (map entry_in) c.as_slice.ensures ∙ c.in_ok-names.ensures
    ∙ ap (λ (t : Checked Ty). entry c.args.index.now (A_given t) ∷ blocks (view.stmt c.args.body.now)) c.in_ok-ty.ensures)
    c.scope_stands.ensures
