use Rattle.std.proofs.Common.{◌≡◌, ◌+◌, ◌-◌, ◌^◌, ◌<◌, min, map, option_map}
use Rattle.sv_names.specs.Named.{of_bases}
use Rattle.sv_names.specs.Lines.{up_from}
use Rattle.sv_names.proofs.members.of_bases.Given as goal

abbrev pub invariant-loop-left : goal.invariant-loop-left
invariant-loop-left l =
    (l.size < 2 ^ 32)
    × (min (l.size + of_bases (up_from l.left (map (λ k. k.now) l.classes) (option_map (λ k. k.now) l.next))) (2 ^ 32 - 1)
    ≡ min (of_bases (up_from l.initial.left (map (λ k. k.now) l.classes) (option_map (λ k. k.now) l.initial.next))) (2 ^ 32 - 1))

abbrev pub decreases-loop-left : goal.decreases-loop-left
decreases-loop-left l = l.left
