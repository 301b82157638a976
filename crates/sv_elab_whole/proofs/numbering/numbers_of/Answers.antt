-- The numbers over the lists of paths.
use Rattle.std.proofs.Common.{rules, map, ◌∙◌}
use Rattle.sv_elab_whole.proofs.NumberLaws.{numbers_are}
use Rattle.sv_elab_whole.proofs.numbering.numbers_of.Goals as goal

pub returns : goal.returns
returns c =
    numbers_are
    record {
      objects = c.in_ok-new.field-0;
      classes = c.in_ok-new-2.field-0;
      lines = c.lines.inside.items.items;
      subroutines = c.in_ok-new-3.field-0;
      clockings = c.in_ok-new-4.field-0;
      programs = c.in_ok-new-5.field-0;
    }
    (map (λ k. k.now) c.args.classes.now) c.args.programs c.args.so_far (c.in_ok-new.ensures ∙ c.in_ok-objects.ensures) c.in_ok-new-2.ensures
    (search rules) c.in_ok-new-3.ensures c.in_ok-new-4.ensures c.in_ok-new-5.ensures
