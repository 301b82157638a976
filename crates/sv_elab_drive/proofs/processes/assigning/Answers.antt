use Rattle.std.proofs.Common.{length, ap, ◌∙◌}
use Rattle.sv_names.specs.Views.{around_in}
use Rattle.sv_elab_drive.proofs.ProcessLaws.{process_is, routine_is}
use Rattle.sv_elab_drive.proofs.processes.assigning.Goals as goal

pub returns-clause-ok : goal.returns-clause-ok
returns-clause-ok c =
    let n = length c.args.routines.now in
    process_is (around_in c.args.around.now) c.args.at c.args.kind c.args.form n c.in_ok-path.path (length c.as_slice-2.result.now)
    c.as_slice.result.now c.in_ok-watched.watched c.in_ok-path.ensures (ap length c.as_slice-2.ensures)
    (c.as_slice.ensures ∙ c.in_ok-body.ensures.ok) (c.in_ok-watched.ensures.ok n)

pub returns-clause-added : goal.returns-clause-added
returns-clause-added c =
    routine_is (around_in c.args.around.now) c.args.at c.args.kind c.args.form c.args.routines.now c.push.new.self c.in_ok-body.body
    c.in_ok-body.ensures.ok c.in_ok-push.ensures.ok
