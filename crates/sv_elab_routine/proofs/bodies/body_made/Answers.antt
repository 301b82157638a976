-- What stands before, then declarations, then statements.
use Rattle.sv_elab_routine.proofs.bodies.body_made.Goals as goal

pub returns : goal.returns
returns c =
    let rs = c.args.routines.now in
    let os = c.args.objects.now in
    let rs' = c.stmts-own.new.routines in
    let os' = c.stmts-own.new.objects in
    c.in_sequence-2.ensures rs rs rs' os os os' _ _ (c.before_made-earlier.ensures rs os)
    (c.in_sequence.ensures rs rs rs' os c.declarations-values.new.objects os' _ _ (c.declarations-values.ensures rs) c.stmts-own.ensures)
