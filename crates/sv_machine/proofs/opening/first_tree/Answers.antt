use Rattle.std.proofs.Common.{rules, ◌≡◌, ◌∙◌, List, ap, arith}
use Rattle.std.specs.Prelude.{get_or}
use Rattle.sv_flat.specs.declared.process.Process.{Process}
use Rattle.sv_fork.specs.Tree.{Member, with_root}
use Rattle.sv_machine.proofs.OpeningProcesses.{family_more, family_so_far}
use Rattle.sv_machine.proofs.opening.first_tree.Goals as goal

pub add_root-requires : goal.add_root-requires
add_root-requires c =
    let n = family_so_far c.args.processes.now c.loop-process.process-index c.loop-process.tree (omega arith) c.loop-process.invariant in
    let few = c.requires in
    omega (arith, n, few)

pub loop-process-preserved : goal.loop-process-preserved
loop-process-preserved c =
    let fs = c.args.processes.now in
    let i = c.loop-process.process-index in
    let f : Process = c.process-item.result in
    let e : get_or fs i f ≡ f = search rules in
    c.in_ok-add_root.ensures.ok ∙ ap (λ (ms : List Member). with_root f.side ms) c.loop-process.invariant ∙ family_more fs i f (omega arith) e
