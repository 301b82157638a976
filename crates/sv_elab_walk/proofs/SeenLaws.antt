-- What is seen in an instance.
use Rattle.std.proofs.Common.{◌≡◌, List, ap, ◌∙◌}
use Rattle.sv_tree.specs.Descriptions.{Description}
use Rattle.sv_names.specs.declared.around.Around as code_around
use Rattle.sv_names.specs.Instances.{Inst, around_unit, within_inst}
use Rattle.sv_names.specs.Named.{Around}
use Rattle.sv_names.specs.Views.{around_in}
use Rattle.sv_elab_walk.specs.Seeing.{SeesAs}

-- what stands around the items of an instance is what stands around its unit, with what is seen in it
pub within_unit : (us : List Description) (files : Around) (i : Inst) (outer seen : code_around.Around)
    → around_in outer ≡ around_unit us files i.unit i.path → seen ≡ record outer { scopes = seen.scopes; classes = seen.classes }
    → SeesAs seen.scopes.now seen.classes.now files i.group → around_in seen ≡ within_inst us files i
within_unit us files i outer seen unit same sees =
    ap around_in same ∙ (λ j. record (unit j) { scopes = sees.0 j; classes = sees.1 j })
