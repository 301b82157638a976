-- No numbers over empty lists.
use Rattle.std.proofs.Common.{◌∙◌}
use Rattle.sv_elab_whole.proofs.NumberLaws.{none_are}
use Rattle.sv_elab_whole.proofs.numbering.no_numbers.Goals as goal

pub returns : goal.returns
returns c =
    none_are
    record {
      objects = c.in_ok-new.field-0;
      classes = c.in_ok-new-2.field-0;
      lines = c.new-5.result;
      subroutines = c.in_ok-new-3.field-0;
      clockings = c.in_ok-new-4.field-0;
      programs = c.in_ok-new-5.field-0;
    }
    (c.in_ok-new.ensures ∙ c.new.ensures) (c.in_ok-new-2.ensures ∙ c.new-3.ensures) c.new-5.ensures (c.in_ok-new-3.ensures ∙ c.new-6.ensures)
    (c.in_ok-new-4.ensures ∙ c.new-8.ensures) (c.in_ok-new-5.ensures ∙ c.new-10.ensures)
