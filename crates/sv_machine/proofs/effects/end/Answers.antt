use Rattle.std.proofs.Common.{rules, ◌<◌, length}
use Rattle.sv_machine.proofs.OccurLaws.{runs_framed, runs_sensed, runs_alone}
use Rattle.sv_machine.proofs.EndLaws.{first_there}
use Rattle.sv_machine.proofs.effects.end.Goals as goal

pub end_first-requires-clause-known : goal.end_first-requires-clause-known
end_first-requires-clause-known c = runs_framed c.args.design.now c.args.machine.now c.requires.at c.args.process c.requires.running

pub end_first-requires-clause-waits : goal.end_first-requires-clause-waits
end_first-requires-clause-waits c = runs_sensed c.args.design.now c.args.machine.now c.requires.at c.args.process c.requires.running

pub end_first-requires-clause-alone : goal.end_first-requires-clause-alone
end_first-requires-clause-alone c =
    let d = c.args.design.now in
    let l : c.args.process.0 < length d.processes = search rules in
    let f = first_there d c.args.process l in
    runs_alone d c.args.machine.now c.requires.at c.args.process c.requires.running f.0 f.1
