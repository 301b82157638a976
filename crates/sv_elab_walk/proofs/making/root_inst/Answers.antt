-- A root.
use Rattle.std.proofs.Common.{[], ap, ◌∙◌}
use Rattle.sv_names.specs.Instances.{name_of, inst_of}
use Rattle.sv_names.specs.Types.{Path}
use Rattle.sv_elab_unit.specs.Definitions.{definition_in}
use Rattle.sv_elab_walk.specs.Grounds.{units_in, files_in}
use Rattle.sv_elab_walk.proofs.making.root_inst.Goals as goal

pub returns : goal.returns
returns c =
    let d = definition_in c.args.unit in
    c.in_ok-inst.ensures
    ∙ ap (λ (p : Path). inst_of (units_in c.args.ground.now) (files_in c.args.ground.now) p [] (name_of d).at d []) c.in_ok-path.ensures
