use Rattle.std.proofs.Common.{◌≡◌, None, Some, refl}
use Rattle.sv_flat.specs.declared.stmt.Stmt.{Stmt}
use Rattle.sv_flat.specs.Process.{routine_of}
use Rattle.sv_built.specs.Positions.{stmt_at}
use Rattle.sv_machine.proofs.ForkLaws.{fork_as, fork_none, fork_other, stmt_is, stmt_none}
use Rattle.sv_machine.proofs.forks.fork.Goals as goal

pub returns-in_default : goal.returns-in_default
returns-in_default c =
    let d = c.args.design.now in
    let m = c.args.machine.now in
    let p = c.args.process in
    let at = c.args.position in
    let s : Stmt = c.in-Some.stmt.now in
    let there : stmt_at d at ≡ Some s =
    stmt_is (routine_of d at.routine).body c.body.result.now at.place s c.body.ensures c.in-Some.ensures.lookup.3.0 c.in-Some.ensures.lookup.1 in
    record {
      ok = fork_as d c.args.at m m p c.args.scope (stmt_at d at) s s.form there refl (fork_other d c.args.at m p c.args.scope s.form c.in_default.not-Fork);
      moment = record { time = refl; executed = refl };
    }

pub returns-in-None-clause-ok : goal.returns-in-None-clause-ok
returns-in-None-clause-ok c =
    let d = c.args.design.now in
    let at = c.args.position in
    let none : stmt_at d at ≡ None = stmt_none (routine_of d at.routine).body c.body.result.now at.place c.body.ensures c.in-None.ensures.lookup.0 in
    fork_none d c.args.at c.args.machine.now c.args.process c.args.scope (stmt_at d at) none
