use Rattle.std.proofs.Common.{sym, subst}
use Rattle.sv_tree.specs.declared.statement.ForStep.{ForStep}
use Rattle.sv_tree.specs.StmtView as view
use Rattle.sv_names.specs.Given.{Gives}
use Rattle.sv_names.specs.Views.{around_in}
use Rattle.sv_elab_flow.specs.Fors as fors
use Rattle.sv_elab_stmt.proofs.fors.step_form.Goals as goal

pub returns-in-Step : goal.returns-in-Step
returns-in-Step c =
    let at_step : ForStep → Type 0 = λ l. Gives c.stepped.result (fors.step_form (around_in c.args.around.now) (view.for_step l)) in
    subst at_step (sym c.in-Step.is) c.stepped.ensures
