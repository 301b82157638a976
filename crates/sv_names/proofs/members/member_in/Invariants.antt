use Rattle.std.proofs.Common.{◌≡◌, map, option_map}
use Rattle.sv_names.specs.Named.{member_in}
use Rattle.sv_names.specs.Lines.{up_from}
use Rattle.sv_names.proofs.members.member_in.Given as goal

abbrev pub invariant-loop-left : goal.invariant-loop-left
invariant-loop-left l =
    member_in l.name (up_from l.left (map (λ k. k.now) l.classes) (option_map (λ k. k.now) l.next))
    ≡ member_in l.name (up_from l.initial.left (map (λ k. k.now) l.classes) (option_map (λ k. k.now) l.initial.next))

abbrev pub decreases-loop-left : goal.decreases-loop-left
decreases-loop-left l = l.left
