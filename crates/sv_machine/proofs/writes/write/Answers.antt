use Rattle.std.proofs.Common.{◌≡◌, ◌∙◌, ℕ, ap, refl, subst}
use Rattle.std.specs.Prelude.{Option, IfSome, IfNone}
use Rattle.sv_value.specs.declared.number.ObjId.{ObjId}
use Rattle.sv_flat.specs.State.{value_at}
use Rattle.sv_flat.specs.Config.{unit_ticks}
use Rattle.sv_store.specs.declared.change.Overwritten.{Overwritten}
use Rattle.sv_store.specs.Overwrites.{object_before}
use Rattle.sv_assign.specs.Seen.{Of_object, view_before, view_in}
use Rattle.sv_sense.specs.Wakes.{Scenes}
use Rattle.sv_sense.proofs.SenseLaws.{ok_given}
use Rattle.sv_machine.specs.Wakes.{Wakes}
use Rattle.sv_machine.specs.declared.machine.Machine.{Machine}
use Rattle.sv_machine.proofs.WriteLaws.{wake_count, wake_few, wake_room, wrote_some, wrote_none}
use Rattle.sv_machine.proofs.writes.write.Goals as goal

pub wake-requires-clause-weights : goal.wake-requires-clause-weights
wake-requires-clause-weights c = wake_room c.args.design.now c.args.machine.now c.requires.at

pub wake-requires-clause-count : goal.wake-requires-clause-count
wake-requires-clause-count c = wake_count c.args.design.now c.args.machine.now c.requires.at

pub wake-requires-clause-few : goal.wake-requires-clause-few
wake-requires-clause-few c = wake_few c.args.design.now c.args.machine.now c.requires.at

pub returns-in-None-clause-ok : goal.returns-in-None-clause-ok
returns-in-None-clause-ok c =
    let m = c.args.machine.now in
    let n : Machine = record m { store = c.overwrite.new.store } in
    let told : (o : ObjId) (j : ℕ) → value_at n.store o j ≡ value_at m.store o j =
    subst (λ (r : Option Overwritten). IfNone r ((o : ObjId) (j : ℕ) → value_at n.store o j ≡ value_at m.store o j)) c.in-None.is c.in_ok-overwrite.ensures.none in
    wrote_none c.args.design.now c.requires.built m n c.args.target c.args.value (record { is = refl; wrote = c.in_ok-overwrite.ensures.wrote }) told refl refl

pub returns-in-Some-clause-ok : goal.returns-in-Some-clause-ok
returns-in-Some-clause-ok c =
    let d = c.args.design.now in
    let m = c.args.machine.now in
    let n : Machine = record m { store = c.overwrite.new.store; sense = c.wake.new.sense; regions = c.wake.new.regions } in
    let told : (o : ObjId) (j : ℕ) → value_at m.store o j ≡ object_before c.in-Some.overwritten n.store o j =
    subst (λ (r : Option Overwritten). IfSome r (λ w. (o : ObjId) (j : ℕ) → value_at m.store o j ≡ object_before w n.store o j)) c.in-Some.is c.in_ok-overwrite.ensures.some in
    let then : ℕ → Scenes = λ u scope. view_before (Of_object c.in-Some.overwritten) n.store m.activations.activations m.time u scope in
    let now : ℕ → Scenes = λ u scope. view_in n.store m.activations.activations m.time u scope in
    let wakes : ℕ → Type 0 = λ u. Wakes d m.tree (then u) (now u) m.sense m.regions n.sense n.regions in
    ok_given c.wake.result _ _
    (λ h. wrote_some d c.requires.built m n c.args.target c.args.value (record { is = refl; wrote = c.in_ok-overwrite.ensures.wrote }) c.in-Some.overwritten told
    (subst wakes (c.unit_ticks.ensures ∙ ap unit_ticks c.scale.ensures) h))
    c.wake.ensures
