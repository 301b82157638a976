use Rattle.std.proofs.Common.{rules, ◌≡◌, ◌∙◌, ap}
use Rattle.sv_eval.specs.declared.stopped.Stopped.TheVariants.{Fault}
use Rattle.sv_flat.specs.Config.{unit_ticks}
use Rattle.sv_machine.proofs.StrobeLemmas.{line_printed, fault_met, stopped}
use Rattle.sv_machine.proofs.strobes.print_strobe.Goals as goal

pub returns-in_ok-push-in-Ok : goal.returns-in_ok-push-in-Ok
returns-in_ok-push-in-Ok c =
    let d = c.args.design.now in
    let s = c.strobe_at-strobe in
    line_printed d c.args.machine.now c.args.kept c.args.lines.now.items c.push.new.self.items c.unit_ticks.result s.result.pieces.now s.result.values.now c.in-Ok.text
    (c.unit_ticks.ensures ∙ ap unit_ticks c.scale.ensures) s.ensures.pieces s.ensures.values c.in-Ok.ensures c.in_ok-push-in-Ok.ensures.items

pub returns-in-Err-Fault : goal.returns-in-Err-Fault
returns-in-Err-Fault c =
    let d = c.args.design.now in
    let s = c.strobe_at-strobe in
    let is : c.in-Err-Fault.field-0 ≡ Fault c.in-Err-Fault.kind = search rules in
    fault_met d c.args.machine.now c.args.kept c.args.lines.now.items c.unit_ticks.result s.result.pieces.now s.result.values.now s.result.at c.in-Err-Fault.kind _
    c.in-Err-Fault.kind-is
    (c.unit_ticks.ensures ∙ ap unit_ticks c.scale.ensures) s.ensures.pieces s.ensures.values s.ensures.at (stopped c.in-Err-Fault.field-0 c.in-Err-Fault.kind _ is c.in-Err-Fault.ensures)
