-- The value of one connection.
use Rattle.std.proofs.Common.{◌∷◌, [], ap, ◌∙◌, sym}
use Rattle.sv_tree.specs.UnitView.{connection}
use Rattle.sv_names.specs.Instances as instances
use Rattle.sv_names.specs.Views.{around_in}
use Rattle.sv_elab_unit.specs.Definitions.{names_in}
use Rattle.sv_elab_walk.proofs.givens.given_by.Goals as goal

pub returns-in_ok-value-in-Named : goal.returns-in_ok-value-in-Named
returns-in_ok-value-in-Named c =
    c.in_ok-value-in-Named.ensures
    ∙ ap (λ x. instances.givens_from (around_in c.args.around.now) (names_in c.args.names.now) c.args.place (connection x ∷ []))
    (sym c.in-Named.is)
