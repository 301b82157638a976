use Rattle.std.proofs.Common.{◌≡◌, List, true, subst, sym}
use Rattle.std.specs.List.{list_all}
use Rattle.sv_value.specs.declared.number.ProcessId.{ProcessId}
use Rattle.sv_flat.specs.Effects.Ends.{living_children}
use Rattle.sv_flat.specs.Effects.Scheduling.{awaiting}
use Rattle.sv_fork.specs.Tree.{is_living_child}
use Rattle.sv_fork.proofs.ConfigLaws.{children_live}
use Rattle.sv_machine.specs.declared.machine.Machine.{Machine}
use Rattle.sv_machine.specs.Machine.{Tracks}
use Rattle.sv_machine.proofs.EffectLaws.{state_is}
use Rattle.sv_machine.proofs.ForkLaws.{await_tracks}
use Rattle.sv_machine.proofs.forks.await_children.Goals as goal

pub await_all-requires : goal.await_all-requires
await_all-requires c =
    let ms = c.args.machine.now.tree in
    let p = c.args.process in
    record { living = subst (λ (ps : List ProcessId). list_all (is_living_child ms p) ps ≡ true) (sym c.in_ok-children.ensures) (children_live ms p) }

pub returns-clause-ok : goal.returns-clause-ok
returns-clause-ok c = λ e h.
    let d = c.args.design.now in
    let m = c.args.machine.now in
    let p = c.args.process in
    let q = state_is d m e h p c.requires.running in
    subst (λ (x : Machine). Tracks d x (awaiting p (living_children e p) e)) (sym c.await_all.ensures)
    (await_tracks d m e h p c.requires.running q.0 q.1 c.in_ok-children.children.items c.in_ok-children.ensures)
