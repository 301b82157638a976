use Rattle.std.proofs.Common.{◌≡◌, drop}
use Rattle.sv_names.specs.Marks.{with_path}
use Rattle.sv_names.proofs.path_marks.mark_of.Given as goal

abbrev pub invariant-loop-name : goal.invariant-loop-name
invariant-loop-name l = with_path l.mark (drop l.name-index l.path) ≡ with_path 0 l.path
