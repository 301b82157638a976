use Rattle.std.proofs.Common.{◌≡◌, ◌++◌, drop}
use Rattle.sv_names.specs.Views.{derived_in}
use Rattle.sv_names.proofs.part_numbers.derived_in.Given as goal

abbrev pub invariant-loop-number : goal.invariant-loop-number
invariant-loop-number l = l.found ++ derived_in l.number l.path (drop l.number l.lines) ≡ derived_in 0 l.path l.lines
