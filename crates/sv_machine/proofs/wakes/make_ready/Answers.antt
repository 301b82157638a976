use Rattle.std.proofs.Common.{rules, ◌≡◌, ◌∙◌, ◌+◌, ap, subst, sym, arith, drop, slice_index_or}
use Rattle.std.specs.Prelude.{get_or}
use Rattle.sv_value.specs.declared.number.ProcessId.{ProcessId}
use Rattle.sv_value.specs.declared.schedule.Region.{Region}
use Rattle.sv_value.specs.Regions.{ready_in, front_of}
use Rattle.sv_machine.proofs.ReadyLaws.{SoFar, next_absent, next_known, next_so_far, may_few}
use Rattle.sv_machine.proofs.wakes.make_ready.Goals as goal

pub side-side-requires : goal.side-side-requires
side-side-requires c =
    let ps = c.args.processes.now in
    let i = c.loop-process.process-index in
    let p : ProcessId = slice_index_or ps i (record { 0 = 0 }) in
    let e : get_or ps i p ≡ p = search rules in
    next_known c.args.tree.now ps c.args.regions.now i c.loop-process.regions c.loop-process.invariant p (omega arith) e

pub ready-requires-clause-absent : goal.ready-requires-clause-absent
ready-requires-clause-absent c =
    let ps = c.args.processes.now in
    let i = c.loop-process.process-index in
    let p : ProcessId = slice_index_or ps i (record { 0 = 0 }) in
    let e : get_or ps i p ≡ p = search rules in
    next_absent c.args.tree.now ps c.args.regions.now i c.loop-process.regions c.loop-process.invariant p (omega arith) e

pub ready-requires-clause-few : goal.ready-requires-clause-few
ready-requires-clause-few c = may_few c.args.tree.now (drop c.loop-process.process-index c.args.processes.now) c.loop-process.regions c.loop-process.invariant.may c.requires.few

pub loop-process-preserved : goal.loop-process-preserved
loop-process-preserved c =
    let ms = c.args.tree.now in
    let ps = c.args.processes.now in
    let i = c.loop-process.process-index in
    let r = c.loop-process.regions in
    let p : ProcessId = slice_index_or ps i (record { 0 = 0 }) in
    let e : get_or ps i p ≡ p = search rules in
    let h : SoFar ms ps c.args.regions.now i r = c.loop-process.invariant in
    subst (SoFar ms ps c.args.regions.now (i + 1))
    (sym (c.in_ok-ready.ensures.ok ∙ ap (λ (g : Region). ready_in g p r) c.front_region.ensures ∙ ap (λ s. ready_in (front_of s) p r) c.side-side.ensures))
    (next_so_far ms ps c.args.regions.now i r h p (omega arith) e)
