use Rattle.std.proofs.Common.{◌≡◌, Some}
use Rattle.sv_names.specs.Expressions.{more_spots, all_spots}
use Rattle.sv_elab_step.proofs.spots.all_spots.Given as goal

abbrev pub invariant-loop-part : goal.invariant-loop-part
invariant-loop-part l = more_spots (Some l.list) (all_spots l.part-iterator.rest.items) ≡ all_spots l.fn.parts.items
