use Rattle.std.proofs.Common.{rules, ◌≡◌, ◌∙◌, ℕ, false, ap, refl, subst}
use Rattle.sv_value.specs.declared.val.Val.{Val}
use Rattle.sv_flat.specs.Config.{unit_ticks}
use Rattle.sv_flat.specs.State.{activation, variable_of}
use Rattle.sv_arena.specs.Made.{Made}
use Rattle.sv_assign.specs.Seen.{Of_variable, view_before, view_in}
use Rattle.sv_sense.specs.Wakes.{Scenes}
use Rattle.sv_sense.proofs.SenseLaws.{ok_given}
use Rattle.sv_machine.specs.declared.machine.Machine.{Machine}
use Rattle.sv_machine.specs.Wakes.{Wakes}
use Rattle.sv_machine.proofs.WriteLaws.{at_covers, varied_calm, varied_wakes, wake_count, wake_few, wake_room}
use Rattle.sv_machine.proofs.writes.vary.Goals as goal

pub wake-requires-clause-weights : goal.wake-requires-clause-weights
wake-requires-clause-weights c = wake_room c.args.design.now c.args.machine.now c.requires.at

pub wake-requires-clause-count : goal.wake-requires-clause-count
wake-requires-clause-count c = wake_count c.args.design.now c.args.machine.now c.requires.at

pub wake-requires-clause-few : goal.wake-requires-clause-few
wake-requires-clause-few c = wake_few c.args.design.now c.args.machine.now c.requires.at

pub returns-then-not-has_scoped-clause-ok : goal.returns-then-not-has_scoped-clause-ok
returns-then-not-has_scoped-clause-ok c =
    let d = c.args.design.now in
    let m = c.args.machine.now in
    let n : Machine = record m { activations = c.write.new.self } in
    let none : c.has_scoped.result ≡ false = search rules in
    varied_calm d m n c.args.name c.args.variable c.args.part c.args.value c.requires.built (λ i. record m { activations = c.write.ensures i }) refl refl
    (c.has_scoped.ensures none) (at_covers d m c.requires.at)

pub returns-clause-ok : goal.returns-clause-ok
returns-clause-ok c =
    let d = c.args.design.now in
    let m = c.args.machine.now in
    let v = c.args.name in
    let i = c.args.variable in
    let n : Machine = record m { activations = c.write-2.new.self; sense = c.wake.new.sense; regions = c.wake.new.regions } in
    let old : Val = c.in_ok-old.old in
    let then : ℕ → Made → Scenes = λ u a scope. view_before (Of_variable v i old) m.store a.activations m.time u scope in
    let now : ℕ → Made → Scenes = λ u a scope. view_in m.store a.activations m.time u scope in
    let wakes : ℕ → Made → Type 0 = λ u a. Wakes d m.tree (then u a) (now u a) m.sense m.regions n.sense n.regions in
    ok_given c.wake.result _ _
    (λ h. varied_wakes d m n v i c.args.part c.args.value (λ j. record n { activations = c.write-2.ensures j }) old
    (c.in_ok-old.ensures ∙ ap (variable_of (activation m.activations.activations v)) c.from.ensures)
    (subst (wakes (unit_ticks d.scale)) c.write-2.ensures (subst (λ u. wakes u c.write-2.new.self) (c.unit_ticks.ensures ∙ ap unit_ticks c.scale.ensures) h)))
    c.wake.ensures
