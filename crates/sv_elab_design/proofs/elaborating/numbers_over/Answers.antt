-- The numbers are the positions of the paths.
use Rattle.std.proofs.Common.{◌∙◌, map, ap}
use Rattle.std.specs.Prelude.{flat_map}
use Rattle.sv_names.specs.Design.{class_infos, instance_of}
use Rattle.sv_elab_scope.specs.Rows.{group_in}
use Rattle.sv_elab_walk.specs.Insts.{walked_in}
use Rattle.sv_elab_whole.specs.Numbering.{numbers_by, paths_so_far}
use Rattle.sv_elab_whole.proofs.NumberLaws.{paths_given}
use Rattle.sv_elab_design.proofs.elaborating.numbers_over.Goals as goal

pub returns : goal.returns
returns c = λ n gs given.
    let ws = map walked_in c.args.walked.now in
    let classes = ap (map (λ k. k.now)) c.as_slice.ensures.value ∙ c.in_ok-classes.ensures in
    c.in_ok-numbers.ensures
    ∙ (λ j. numbers_by (classes j) (c.in_ok-programs.ensures j) (paths_given n c.args.first gs given j))
