use Rattle.std.proofs.Common.{List, subst}
use Rattle.std.proofs.lemmas.Result.{on_ok_weaker}
use Rattle.sv_flat.specs.Steps.{statement_ran}
use Rattle.std.specs.Prelude.{Some}
use Rattle.sv_machine.specs.declared.line.Line.{Line}
use Rattle.sv_machine.specs.Machine.{AddsLines}
use Rattle.sv_kernel.proofs.StepLemmas.{lines_are}
use Rattle.sv_kernel.proofs.slot.step_running.Goals as goal

pub returns-clause-lines : goal.returns-clause-lines
returns-clause-lines c =
    let d = c.args.design.now in
    let m = c.args.machine.now in
    let ls = c.run_statement.new.lines.items in
    on_ok_weaker c.run_statement.result
    (λ h. lines_are d m (statement_ran d (Some c.args.process)) ls (subst (λ (before : List Line). AddsLines d m (statement_ran d (Some c.args.process)) before ls) c.requires.empty h))
    c.run_statement.ensures.lines
