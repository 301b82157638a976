use Rattle.std.proofs.Common.{◌≡◌, map, option_map}
use Rattle.sv_names.specs.Named.{in_line, is_derived}
use Rattle.sv_names.specs.Lines.{up_from}
use Rattle.sv_names.proofs.classes.is_derived.Given as goal

abbrev pub invariant-loop-left : goal.invariant-loop-left
invariant-loop-left l =
    in_line l.base (up_from l.left (map (λ k. k.now) l.classes) (option_map (λ k. k.now) l.next))
    ≡ is_derived (map (λ k. k.now) l.classes) l.path l.base

abbrev pub decreases-loop-left : goal.decreases-loop-left
decreases-loop-left l = l.left
