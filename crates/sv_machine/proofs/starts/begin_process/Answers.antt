use Rattle.std.proofs.Common.{rules, ◌≡◌, ◌∙◌, ◌<◌, ◌-◌, List, Bool, true, false, Some, refl, ap, subst, sym, arith, length, slice_set}
use Rattle.std.specs.Prelude.{get_or, sum_by}
use Rattle.std.specs.List.{AllByRecursion}
use Rattle.std.specs.Vec.{with_item}
use Rattle.sv_value.specs.declared.number.ProcessId.{ProcessId}
use Rattle.sv_sound.proofs.Weights.{got}
use Rattle.sv_fork.specs.Tree as tree
use Rattle.sv_fork.specs.Tree.{Member}
use Rattle.sv_sound.specs.Sound.{weight_of_all}
use Rattle.sv_sense.proofs.SenseLaws.{ok_given}
use Rattle.sv_machine.specs.declared.machine.Machine.{Machine}
use Rattle.sv_machine.specs.Starts.{held_from}
use Rattle.sv_machine.specs.Wakes.{IsKnown, all_ready}
use Rattle.sv_machine.proofs.BeginLaws.{taken_state, is_known, taken_is, then_few, then_known, begins_again, begins_other, starter_counts, begins_starter, held_room, begins_last}
use Rattle.sv_machine.proofs.starts.begin_process.Goals as goal

pub index-requires : goal.index-requires
index-requires c =
    let t = c.requires.taking in
    let o : c.args.process.0 < length c.args.machine.now.taken.items = is_known c.args.design.now c.args.machine.now c.args.process t.config t.place t.takes in
    search rules

pub returns-then-index-clause-begins : goal.returns-then-index-clause-begins
returns-then-index-clause-begins c =
    let d = c.args.design.now in
    let m = c.args.machine.now in
    let p = c.args.process in
    let x : Bool = c.index.result.now in
    let g : get_or m.taken.items p.0 x ≡ true = search rules in
    λ e place h.
    let q = taken_state d m p e place h in
    let w : q.0.was_taken ≡ true = sym (got m.taken.items p.0 q.0.was_taken x (taken_is d m p e place h q.0 q.1)) ∙ g in
    begins_again d m p e place h q.0 q.1 w (record m { running = Some p; tree = c.go_on.new.self }) (λ i. record m { running = Some p; tree = c.go_on.ensures i })

pub index_mut-requires : goal.index_mut-requires
index_mut-requires c =
    let t = c.requires.taking in
    let o : c.args.process.0 < length c.args.machine.now.taken.items = is_known c.args.design.now c.args.machine.now c.args.process t.config t.place t.takes in
    search rules

pub returns-then-not-starts_first-clause-begins : goal.returns-then-not-starts_first-clause-begins
returns-then-not-starts_first-clause-begins c =
    let d = c.args.design.now in
    let m = c.args.machine.now in
    let p = c.args.process in
    let no : c.starts_first.result ≡ false = search rules in
    λ e place h.
    let q = taken_state d m p e place h in
    begins_other d m p e place h q.0 q.1 (sym c.starts_first.ensures ∙ no) (record m { running = Some p; tree = c.go_on.new.self; taken = with_item m.taken p.0 true })
    (λ i. record m { running = Some p; tree = c.go_on.ensures i; taken = with_item m.taken p.0 true }) refl

pub overflow_sub-machine : goal.overflow_sub-machine
overflow_sub-machine c =
    let d = c.args.design.now in
    let m = c.args.machine.now in
    let p = c.args.process in
    let x : Bool = c.index.result.now in
    let o : get_or m.taken.items p.0 x ≡ false = search rules in
    let yes : c.starts_first.result ≡ true = search rules in
    let e = c.requires.taking.config in
    let place = c.requires.taking.place in
    let h = c.requires.taking.takes in
    let q = taken_state d m p e place h in
    let t : q.0.was_taken ≡ false = sym (got m.taken.items p.0 q.0.was_taken x (taken_is d m p e place h q.0 q.1)) ∙ o in
    let k = starter_counts d m p e place h q.0 q.1 (sym c.starts_first.ensures ∙ yes) t in
    omega (arith, k)

pub returns-then-machine-gt0-clause-begins : goal.returns-then-machine-gt0-clause-begins
returns-then-machine-gt0-clause-begins c =
    let d = c.args.design.now in
    let m = c.args.machine.now in
    let p = c.args.process in
    let x : Bool = c.index.result.now in
    let o : get_or m.taken.items p.0 x ≡ false = search rules in
    let yes : c.starts_first.result ≡ true = search rules in
    let n : Machine = record m { running = Some p; tree = c.go_on.new.self; taken = with_item m.taken p.0 true; starters = m.starters - 1 } in
    let l : 0 < m.starters - 1 = search rules in
    λ e place h.
    let q = taken_state d m p e place h in
    let w = sym c.starts_first.ensures ∙ yes in
    let t : q.0.was_taken ≡ false = sym (got m.taken.items p.0 q.0.was_taken x (taken_is d m p e place h q.0 q.1)) ∙ o in
    let k = starter_counts d m p e place h q.0 q.1 w t in
    begins_starter d m p e place h q.0 q.1 w t n (λ i. record n { tree = c.go_on.ensures i }) refl (omega (arith, k)) l

pub make_ready-requires-clause-known : goal.make_ready-requires-clause-known
make_ready-requires-clause-known c =
    let d = c.args.design.now in
    let m = c.args.machine.now in
    let p = c.args.process in
    let all : c.deref-2.result.now ≡ held_from 0 d.processes (slice_set m.taken.items p.0 true) = search rules in
    let e = c.requires.taking.config in
    let place = c.requires.taking.place in
    let h = c.requires.taking.takes in
    let q = taken_state d m p e place h in
    subst (λ (ms : List Member). AllByRecursion (IsKnown (length ms)) c.deref-2.result.now) (sym c.go_on.ensures)
    (subst (λ (ps : List ProcessId). AllByRecursion (IsKnown (length (tree.ready_in p m.tree))) ps) (sym all) (then_known d m p e place h q.0 q.1 (slice_set m.taken.items p.0 true)))

pub make_ready-requires-clause-few : goal.make_ready-requires-clause-few
make_ready-requires-clause-few c =
    let d = c.args.design.now in
    let m = c.args.machine.now in
    let p = c.args.process in
    let e = c.requires.taking.config in
    let place = c.requires.taking.place in
    let h = c.requires.taking.takes in
    let q = taken_state d m p e place h in
    let f = then_few d m p e place h q.0 q.1 in
    let n = ap (λ (ms : List Member). length ms) c.go_on.ensures in
    omega (arith, f, n)

pub make_ready-requires-clause-weights : goal.make_ready-requires-clause-weights
make_ready-requires-clause-weights c =
    let d = c.args.design.now in
    let m = c.args.machine.now in
    let p = c.args.process in
    let x : Bool = c.index.result.now in
    let o : get_or m.taken.items p.0 x ≡ false = search rules in
    let yes : c.starts_first.result ≡ true = search rules in
    let all : c.deref-2.result.now ≡ held_from 0 d.processes (slice_set m.taken.items p.0 true) = search rules in
    let e = c.requires.taking.config in
    let place = c.requires.taking.place in
    let h = c.requires.taking.takes in
    let q = taken_state d m p e place h in
    let t : q.0.was_taken ≡ false = sym (got m.taken.items p.0 q.0.was_taken x (taken_is d m p e place h q.0 q.1)) ∙ o in
    λ u. (let k = held_room d m p e place h q.0 q.1 (sym c.starts_first.ensures ∙ yes) t u in
    let s = ap (sum_by u) all in
    let n = ap (λ (ms : List Member). weight_of_all u ms) c.go_on.ensures in
    omega (arith, k, s, n))

pub returns-clause-begins : goal.returns-clause-begins
returns-clause-begins c =
    let d = c.args.design.now in
    let m = c.args.machine.now in
    let p = c.args.process in
    let x : Bool = c.index.result.now in
    let o : get_or m.taken.items p.0 x ≡ false = search rules in
    let yes : c.starts_first.result ≡ true = search rules in
    let all : c.deref-2.result.now ≡ held_from 0 d.processes (slice_set m.taken.items p.0 true) = search rules in
    let n : Machine = record m { running = Some p; tree = c.go_on.new.self; taken = with_item m.taken p.0 true; starters = m.starters - 1; regions = c.make_ready.new.regions } in
    let l : m.starters - 1 ≡ 0 = search rules in
    ok_given c.make_ready.result _ _ (λ r e place h.
    let q = taken_state d m p e place h in
    let w = sym c.starts_first.ensures ∙ yes in
    let t : q.0.was_taken ≡ false = sym (got m.taken.items p.0 q.0.was_taken x (taken_is d m p e place h q.0 q.1)) ∙ o in
    let k = starter_counts d m p e place h q.0 q.1 w t in
    begins_last d m p e place h q.0 q.1 w t n (λ i. record n { tree = c.go_on.ensures i }) refl (omega (arith, k)) l
    (r ∙ (λ i. all_ready (c.go_on.ensures i) (all i) m.regions))) c.make_ready.ensures
