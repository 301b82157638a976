use Rattle.std.proofs.Common.{rules, ◌≡◌, ◌∙◌, ◌-◌, List, Option, Some, ap, subst, sym, arith, drop, take, length, slice_index_or}
use Rattle.sv_value.specs.declared.number.ProcessId.{ProcessId}
use Rattle.sv_value.specs.declared.number.RoutineId.{RoutineId}
use Rattle.sv_sense.proofs.SenseLaws.{ok_given}
use Rattle.sv_machine.specs.declared.machine.Machine.{Machine}
use Rattle.sv_machine.specs.Machine.{IsAt}
use Rattle.sv_machine.specs.Forks.{ChildrenOf, HasChild, Starts, StartsOne}
use Rattle.sv_machine.proofs.FamilyLaws.{split_first}
use Rattle.sv_machine.proofs.OccurLaws.{few_stand, runs_known}
use Rattle.sv_machine.proofs.ForkLaws.{child_at, children_more, fresh_absent, starts_more}
use Rattle.sv_machine.proofs.forks.+start_all.Goals as goal

pub start-requires-clause-known : goal.start-requires-clause-known
start-requires-clause-known t c = runs_known c.args.design.now c.args.machine.now c.requires.at c.args.process c.requires.running

pub start-requires-clause-absent : goal.start-requires-clause-absent
start-requires-clause-absent t c = fresh_absent c.args.design.now c.args.machine.now c.requires.at

pub start-requires-clause-few : goal.start-requires-clause-few
start-requires-clause-few t c = few_stand c.args.design.now c.args.machine.now c.requires.at

pub start_all-requires : goal.start_all-requires
start_all-requires t c =
    let d = c.args.design.now in
    let m = c.args.machine.now in
    let n = c.start.new.machine in
    let p = c.args.process in
    let rs = c.args.routines.now in
    let s : RoutineId = slice_index_or rs 0 (record { 0 = 0 }) in
    let scope = c.args.scope.now in
    let has : HasChild d p s scope c.in-Some.child m n = subst (λ (o : Option ProcessId). StartsOne d c.args.at p s scope o m n) c.in-Some.is c.in_ok-child-in-len1-up.ensures.starts in
    let at : IsAt d n = child_at d c.requires.built c.args.at m p c.requires.running scope s (take (length rs - 1) (drop 1 rs)) n c.in-Some.child has c.requires.at in
    let running : n.running ≡ Some p = ap (λ (x : Machine). x.running) has.is ∙ c.requires.running in
    search rules

pub returns-in_ok-push-in-len1-up-clause-starts : goal.returns-in_ok-push-in-len1-up-clause-starts
returns-in_ok-push-in-len1-up-clause-starts t c =
    let d = c.args.design.now in
    let m = c.args.machine.now in
    let n = c.start.new.machine in
    let p = c.args.process in
    let rs = c.args.routines.now in
    let s : RoutineId = slice_index_or rs 0 (record { 0 = 0 }) in
    let scope = c.args.scope.now in
    let l = c.in-len1-up.len_at_least in
    let has : HasChild d p s scope c.in-Some.child m n = subst (λ (o : Option ProcessId). StartsOne d c.args.at p s scope o m n) c.in-Some.is c.in_ok-child-in-len1-up.ensures.starts in
    ok_given c.start_all.result _ _
    (λ g. subst (λ (qs : List RoutineId). Starts d c.args.at p qs scope m c.start_all.new.machine) (sym (split_first rs (record { 0 = 0 }) (omega (arith, l))))
    (starts_more d c.requires.built c.args.at m p c.requires.running scope s (take (length rs - 1) (drop 1 rs)) n c.start_all.new.machine c.in-Some.child has g)) c.start_all.ensures.starts

pub returns-in_ok-push-in-len1-up-clause-children : goal.returns-in_ok-push-in-len1-up-clause-children
returns-in_ok-push-in-len1-up-clause-children t c =
    let d = c.args.design.now in
    let m = c.args.machine.now in
    let n = c.start.new.machine in
    let p = c.args.process in
    let rs = c.args.routines.now in
    let s : RoutineId = slice_index_or rs 0 (record { 0 = 0 }) in
    let scope = c.args.scope.now in
    let l = c.in-len1-up.len_at_least in
    let has : HasChild d p s scope c.in-Some.child m n = subst (λ (o : Option ProcessId). StartsOne d c.args.at p s scope o m n) c.in-Some.is c.in_ok-child-in-len1-up.ensures.starts in
    ok_given c.start_all.result _ _
    (λ g z. subst (λ (qs : List RoutineId). ChildrenOf p qs c.args.children.now.items c.start_all.new.children.items m c.start_all.new.machine) (sym (split_first rs (record { 0 = 0 }) (omega (arith, l))))
    (children_more d p s (take (length rs - 1) (drop 1 rs)) scope c.in-Some.child c.args.children.now.items c.push.new.self.items c.start_all.new.children.items m n c.start_all.new.machine
    (runs_known d m c.requires.at p c.requires.running) has c.in_ok-push-in-len1-up.ensures.items (g z))) c.start_all.ensures.children
