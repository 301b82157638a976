use Rattle.std.proofs.Common.{◌≡◌, ◌++◌, drop, map}
use Rattle.sv_elab_class.specs.Heads.{head_in}
use Rattle.sv_elab_class.specs.Infos.{infos_waiting}
use Rattle.sv_elab_class.proofs.infos.infos_waiting.Given as goal

abbrev pub invariant-loop-head : goal.invariant-loop-head
invariant-loop-head l =
    l.infos ++ infos_waiting (map (λ k. k.now) l.outer) (map head_in l.heads) (map head_in (drop l.head-index l.heads)) l.members
    ≡ infos_waiting (map (λ k. k.now) l.outer) (map head_in l.heads) (map head_in l.heads) l.lists
