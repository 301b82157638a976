use Rattle.std.proofs.Common.{rules, ◌≡◌, ◌∙◌, ◌++◌, List, true, ap, length}
use Rattle.std.specs.Prelude.{IsNone, is_some}
use Rattle.sv_value.specs.declared.number.ProcessId.{ProcessId}
use Rattle.sv_flat.specs.Effects.Scheduling.{children_from}
use Rattle.sv_machine.proofs.ForkLaws.{spawn_fails, spawn_waits}
use Rattle.sv_machine.proofs.forks.spawn.Goals as goal

pub returns-then-is_some-clause-ok : goal.returns-then-is_some-clause-ok
returns-then-is_some-clause-ok c =
    let n = c.start_all.new.machine in
    let met : is_some n.fault ≡ true = search rules in
    spawn_fails c.args.design.now c.requires.built c.args.at c.args.machine.now c.args.process c.requires.running c.args.routines.now c.args.scope c.args.join n
    c.in_ok-start_all.ensures.starts met

pub returns-clause-ok : goal.returns-clause-ok
returns-clause-ok c =
    let m = c.args.machine.now in
    let n = c.start_all.new.machine in
    let rs = c.args.routines.now in
    let none : IsNone n.fault = search rules in
    let those = (c.in_ok-start_all.ensures.children none).all ∙ ap (λ (ps : List ProcessId). ps ++ children_from (length m.tree) rs) c.new-children.ensures.items in
    spawn_waits c.args.design.now c.requires.built c.args.at m c.args.process c.requires.running rs c.args.scope c.args.join n
    c.in_ok-start_all.ensures.starts none c.join_as.new.machine c.start_all.new.children.items those c.join_as.ensures
