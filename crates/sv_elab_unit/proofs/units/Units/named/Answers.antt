use Rattle.std.proofs.Common.{List, map, option_map, ap, ◌∙◌}
use Rattle.sv_tree.specs.UnitView.{description}
use Rattle.sv_tree.specs.declared.unit.Description.{Description}
use Rattle.sv_names.specs.Instances.{definition_named}
use Rattle.sv_elab_unit.specs.Definitions.{definition_in}
use Rattle.sv_elab_unit.proofs.units.Units.named.Goals as goal

pub returns-in-None : goal.returns-in-None
returns-in-None c =
    ap (option_map definition_in) c.in-None.ensures.value ∙ c.self.invariant c.args.name.now
    ∙ ap (λ (ds : List Description). definition_named c.args.name.now (map description ds)) c.self.view_is

pub returns-in-Some : goal.returns-in-Some
returns-in-Some c =
    ap (option_map definition_in) c.in-Some.ensures.value ∙ c.self.invariant c.args.name.now
    ∙ ap (λ (ds : List Description). definition_named c.args.name.now (map description ds)) c.self.view_is
