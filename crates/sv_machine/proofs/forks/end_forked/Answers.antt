use Rattle.std.proofs.Common.{rules, ◌∙◌, List, None, Some, refl, ap, arith, length, map, slice_get, slice_set}
use Rattle.std.specs.Vec.{with_item}
use Rattle.sv_value.specs.declared.schedule.Region.{Region}
use Rattle.sv_value.specs.Regions.{ready_in}
use Rattle.sv_fork.specs.Tree.{Member, ended_in, side_of}
use Rattle.sv_stack.specs.declared.frames.Frame.{Frame}
use Rattle.sv_stack.specs.Frames.{todos_of}
use Rattle.sv_sense.proofs.SenseLaws.{ok_given}
use Rattle.sv_machine.specs.declared.machine.Machine.{Machine}
use Rattle.sv_machine.proofs.EndLaws.{left_with}
use Rattle.sv_machine.proofs.EndedLaws.{forked_alone, forked_tells, told_absent, told_known, told_length}
use Rattle.sv_machine.proofs.OccurLaws.{few_stand, runs_framed}
use Rattle.sv_machine.proofs.forks.end_forked.Goals as goal

pub index_mut-requires : goal.index_mut-requires
index_mut-requires c = let k = runs_framed c.args.design.now c.args.machine.now c.requires.at c.args.process c.requires.running in search rules

pub side-side-requires : goal.side-side-requires
side-side-requires c =
    let m = c.args.machine.now in
    let p = c.args.process in
    let a = c.in-Some.parent in
    let k = told_known c.args.design.now m p c.requires.running (Some a) c.in-Some.ensures.joined c.requires.at a refl in
    let n = ap (λ (ms : List Member). length ms) c.in-Some.ensures.new ∙ told_length m.tree p a in
    omega (arith, k, n)

pub ready-requires-clause-absent : goal.ready-requires-clause-absent
ready-requires-clause-absent c =
    let a = c.in-Some.parent in
    told_absent c.args.design.now c.args.machine.now c.args.process c.requires.running (Some a) c.in-Some.ensures.joined c.requires.at a refl

pub ready-requires-clause-few : goal.ready-requires-clause-few
ready-requires-clause-few c = few_stand c.args.design.now c.args.machine.now c.requires.at

pub returns-in-Some-clause-ok : goal.returns-in-Some-clause-ok
returns-in-Some-clause-ok c =
    let d = c.args.design.now in
    let m = c.args.machine.now in
    let p = c.args.process in
    let a = c.in-Some.parent in
    let n : Machine = record m { running = None; tree = ended_in p m.tree; processes = with_item m.processes p.0 c.clear.new.self } in
    let l : Machine = record n { tree = c.finish.new.self; regions = c.ready.new.self } in
    ok_given c.ready.result _ _ (λ g e h. forked_tells d m p c.requires.running (Some a) c.in-Some.ensures.joined e h n l a c.side-side.result refl
    (record {
      is = refl;
      left = record { remaining = left_with d m.processes.items p.0 c.clear.new.self ∙ ap (λ (x : List Frame). slice_set (map (todos_of d) m.processes.items) p.0 (todos_of d x)) c.clear.ensures };
    })
    (c.side-side.ensures ∙ ap (λ (ms : List Member). side_of (slice_get ms a.0)) c.in-Some.ensures.new)
    (λ i. record n { tree = c.in-Some.ensures.new i; regions = (g ∙ ap (λ (r : Region). ready_in r a m.regions) c.front_region.ensures) i })) c.ready.ensures.ok

pub returns-in-None-clause-ok : goal.returns-in-None-clause-ok
returns-in-None-clause-ok c = λ e h.
    let d = c.args.design.now in
    let m = c.args.machine.now in
    let p = c.args.process in
    forked_alone d m p c.requires.running None c.in-None.ensures.joined e h _ refl (record {
      is = λ i. record m { running = None; tree = c.in-None.ensures.new i; processes = with_item m.processes p.0 c.clear.new.self };
      left = record { remaining = left_with d m.processes.items p.0 c.clear.new.self ∙ ap (λ (x : List Frame). slice_set (map (todos_of d) m.processes.items) p.0 (todos_of d x)) c.clear.ensures };
    })
