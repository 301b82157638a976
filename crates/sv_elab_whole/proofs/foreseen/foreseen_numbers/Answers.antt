-- The numbers over the paths that are foreseen.
use Rattle.std.proofs.Common.{◌∙◌, map}
use Rattle.sv_tree.specs.UnitView.{description}
use Rattle.sv_elab_walk.specs.Insts.{walked_in}
use Rattle.sv_elab_whole.proofs.NumberLaws.{foreseen_are}
use Rattle.sv_elab_whole.proofs.foreseen.foreseen_numbers.Goals as goal

pub returns : goal.returns
returns c =
    foreseen_are (map description c.args.units.now) (map walked_in c.args.walked.now)
    record {
      objects = c.in_ok-new.field-0;
      classes = c.in_ok-new-2.field-0;
      lines = c.new-4.result;
      subroutines = c.in_ok-new-3.field-0;
      clockings = c.in_ok-new-4.field-0;
      programs = c.in_ok-new-5.field-0;
    }
    (c.in_ok-new.ensures ∙ c.in_ok-foreseen_objects.ensures) (c.in_ok-new-2.ensures ∙ c.new-2.ensures) c.new-4.ensures
    (c.in_ok-new-3.ensures ∙ c.in_ok-foreseen_subroutines.ensures) (c.in_ok-new-4.ensures ∙ c.new-6.ensures)
    (c.in_ok-new-5.ensures ∙ c.in_ok-programs_in.ensures)
