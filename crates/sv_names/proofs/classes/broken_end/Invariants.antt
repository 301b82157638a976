use Rattle.std.proofs.Common.{◌≡◌, map, option_map}
use Rattle.sv_names.specs.Named.{line_of, broken_end}
use Rattle.sv_names.specs.Lines.{up_from}
use Rattle.sv_names.proofs.classes.broken_end.Given as goal

abbrev pub invariant-loop-left : goal.invariant-loop-left
invariant-loop-left l =
    broken_end (up_from l.left (map (λ k. k.now) l.classes) (option_map (λ k. k.now) l.next))
    ≡ broken_end (line_of (map (λ k. k.now) l.classes) l.path)

abbrev pub decreases-loop-left : goal.decreases-loop-left
decreases-loop-left l = l.left
