-- The descriptions are those that are found by their names.
use Rattle.std.proofs.Common.{List, map, option_map, subst}
use Rattle.sv_tree.specs.declared.unit.Description.{Description}
use Rattle.sv_tree.specs.UnitView.{description}
use Rattle.sv_names.specs.Design.{elaborated}
use Rattle.sv_names.specs.Given.{Gives}
use Rattle.sv_elab_design.proofs.elaborating.elaborate.Goals as goal

pub returns : goal.returns
returns c =
    subst (λ (ds : List Description). Gives c.elaborated.result (elaborated (map description ds) c.args.scales.now
    (option_map (λ x. x.now) c.args.top))) c.in_ok-units.ensures c.elaborated.ensures
