use Rattle.std.proofs.Common.{◌∙◌, sym, arith}
use Rattle.sv_machine.proofs.OpeningProcesses.{one_counted, none_counted}
use Rattle.sv_machine.proofs.opening.starter_count.Goals as goal
use Rattle.sv_machine.proofs.opening.starter_count.Goals.{then-is_starter, else-is_starter}

pub loop-process-preserved : goal.loop-process-preserved
loop-process-preserved c =
    let fs = c.args.processes.now in
    let i = c.loop-process.process-index in
    let x = c.process-item.result in
    let n = c.loop-process.count in
    let m = c.if-is_starter.count in
    elim c.if-is_starter.branch [
      | then-is_starter w ↦ (one_counted fs i x c.loop-process-test.true (sym c.process-item.is) n m (sym c.is_starter.ensures ∙ w.if-is_starter.true) w.count-is c.loop-process.invariant.0, omega arith)
      | else-is_starter w ↦ (none_counted fs i x c.loop-process-test.true (sym c.process-item.is) n m (sym c.is_starter.ensures ∙ w.if-is_starter.false) w.count-is c.loop-process.invariant.0, omega arith)
    ]
