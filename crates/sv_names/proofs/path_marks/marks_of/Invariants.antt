use Rattle.std.proofs.Common.{take}
use Rattle.sv_names.specs.Marks.{Marks, marks_of}
use Rattle.sv_names.proofs.path_marks.marks_of.Given as goal

abbrev pub invariant-loop-position : goal.invariant-loop-position
invariant-loop-position l = Marks l.index (marks_of (take l.position l.paths))
