use Rattle.std.proofs.Common.{rules, ◌≡◌, ◌∙◌, ap, sym, arith, get_or}
use Rattle.sv_value.specs.declared.number.ProcessId.{ProcessId}
use Rattle.sv_machine.specs.Opening.{first_ready}
use Rattle.sv_machine.proofs.OpeningRegions.{all_more, not_there, few_there}
use Rattle.sv_machine.proofs.opening.first_regions.Goals as goal

pub first_ready-requires-clause-absent : goal.first_ready-requires-clause-absent
first_ready-requires-clause-absent c = not_there c.args.has_starters c.loop-number.regions c.args.processes.now c.loop-number.number c.loop-number.invariant (omega arith)

pub first_ready-requires-clause-few : goal.first_ready-requires-clause-few
first_ready-requires-clause-few c = few_there c.args.has_starters c.loop-number.regions c.args.processes.now c.loop-number.number c.loop-number.invariant (omega arith) c.requires

pub loop-number-preserved : goal.loop-number-preserved
loop-number-preserved c =
    let process : ProcessId = record { 0 = c.loop-number.number } in
    let x = c.index-processes-number.result in
    let is : get_or c.args.processes.now c.loop-number.number x ≡ x = search rules in
    c.in_ok-first_ready.ensures
    ∙ ap (first_ready c.args.has_starters x process) c.loop-number.invariant
    ∙ sym (all_more c.args.has_starters c.args.processes.now c.loop-number.number x c.loop-number-test.true is)
