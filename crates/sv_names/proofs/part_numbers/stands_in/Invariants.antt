use Rattle.std.proofs.Common.{◌≡◌, drop}
use Rattle.sv_names.specs.Views.{stands_in}
use Rattle.sv_names.proofs.part_numbers.stands_in.Given as goal

abbrev pub invariant-loop-one : goal.invariant-loop-one
invariant-loop-one l = stands_in l.path (drop l.one-index l.line) ≡ stands_in l.path l.line
