use Rattle.sv_flat.specs.Config.{first_process}
use Rattle.sv_sense.proofs.ObjectLaws.{no_item, no_process}
use Rattle.sv_sense.proofs.objects.add_watched.Goals as goal

pub returns-in-None : goal.returns-in-None
returns-in-None c =
    let d = c.args.design.now in
    let p = c.args.process in
    no_process c.args.list.now (first_process d p)
    (no_item d.processes c.processes.result.now p.0 c.processes.ensures.processes c.in-None.ensures.lookup.0)
