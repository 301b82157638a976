use Rattle.sv_kernel.proofs.DueLemmas.{room, once_only, each_holds}
use Rattle.sv_kernel.proofs.future.next_time.Goals as goal

pub release-requires-clause-plain : goal.release-requires-clause-plain
release-requires-clause-plain c = each_holds c.args.design.now c.requires.built c.args.machine.now c.requires.steady.at

pub release-requires-clause-once : goal.release-requires-clause-once
release-requires-clause-once c = once_only c.args.design.now c.requires.built c.args.machine.now c.requires.steady.at

pub release-requires-clause-few : goal.release-requires-clause-few
release-requires-clause-few c = room c.args.design.now c.requires.built c.args.machine.now c.requires.steady.at
