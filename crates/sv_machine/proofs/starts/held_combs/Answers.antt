use Rattle.std.proofs.Common.{rules, ◌≡◌, ◌∙◌, ◌++◌, ◌+◌, ap, sym, arith, drop, slice_get}
use Rattle.std.specs.Prelude.{get_or}
use Rattle.sv_flat.specs.declared.process.Process.{Process}
use Rattle.sv_machine.specs.Starts.{held_from}
use Rattle.sv_machine.proofs.StartLaws.{held_next, held_more}
use Rattle.sv_machine.proofs.starts.held_combs.Goals as goal

pub loop-number-preserved : goal.loop-number-preserved
loop-number-preserved c =
    let fs = c.args.processes.now in
    let ts = c.args.taken.now in
    let n = c.loop-number.number in
    let us = c.loop-number.held.items in
    let f : Process = c.index-processes-number.result in
    let e : get_or fs n f ≡ f = search rules in
    held_more us c.add_if_held.new.held.items n f (slice_get ts n) (held_from (n + 1) (drop (n + 1) fs) (drop (n + 1) ts)) (held_from 0 fs ts) c.in_ok-add_if_held.ensures
    (ap (λ xs. us ++ xs) (sym (held_next n fs ts f (omega arith) e)) ∙ c.loop-number.invariant)
