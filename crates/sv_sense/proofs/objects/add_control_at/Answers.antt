use Rattle.sv_flat.specs.Process.{routine_of}
use Rattle.sv_built.specs.Positions.{stmt_at}
use Rattle.sv_built.specs.Waits.{control_of}
use Rattle.sv_sense.proofs.ObjectLaws.{no_item, no_stmt}
use Rattle.sv_sense.proofs.objects.add_control_at.Goals as goal

pub returns-in-None : goal.returns-in-None
returns-in-None c =
    let at = c.args.at in
    no_stmt c.args.list.now control_of (stmt_at c.args.design.now at)
    (no_item (routine_of c.args.design.now at.routine).body c.body.result.now at.place c.body.ensures c.in-None.ensures.lookup.0)
