use Rattle.sv_process.proofs.StepLemmas.{form_built}
use Rattle.sv_process.proofs.statement.run_stmt.Goals as goal

pub run_form-ran-requires-clause-built : goal.run_form-ran-requires-clause-built
run_form-ran-requires-clause-built c = form_built c.args.design.now c.args.at c.args.stmt.now c.requires.built c.requires.at
