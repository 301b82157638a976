use Rattle.std.proofs.Common.{rules, ◌≡◌}
use Rattle.sv_simulate.proofs.SaidLemmas.{prefix_of_run, whole_records, fresh}
use Rattle.sv_simulate.proofs.run.run_design.Goals as goal

pub returns-clause-put : goal.returns-clause-put
returns-clause-put g c =
    let k = c.in_ok-kernel.kernel in
    let new : k ≡ fresh c.args.active c.args.design = search rules in
    prefix_of_run c.args.active c.args.design c.args.steps k c.run-end.new.self (g.O.Sink.bytes c.args.out.now) (g.O.Sink.bytes c.run-end.new.out) new
    c.run-end.ensures.same c.run-end.ensures.steps.1 c.run-end.ensures.prefix

pub returns-clause-only_cause : goal.returns-clause-only_cause
returns-clause-only_cause g c = λ h. c.run-end.ensures.only_cause (c.closing_of.ensures.no_other h)

pub returns-clause-memory : goal.returns-clause-memory
returns-clause-memory g c = λ h.
    let k = c.in_ok-kernel.kernel in
    let new : k ≡ fresh c.args.active c.args.design = search rules in
    whole_records c.args.active c.args.design c.args.steps k c.run-end.new.self (g.O.Sink.bytes c.args.out.now) (g.O.Sink.bytes c.run-end.new.out) new
    c.run-end.ensures.same c.run-end.ensures.steps c.run-end.result.outcome (c.closing_of.ensures.no_other (λ e. cc)) c.run-end.ensures.records c.run-end.ensures.log
