use Rattle.std.proofs.Common.{◌≡◌, Some, refl, subst, sym, true}
use Rattle.std.specs.Prelude.{OnOk}
use Rattle.sv_flat.specs.Effects.{occurred}
use Rattle.std.specs.List.{AllByRecursion}
use Rattle.sv_built.specs.Built.{IsBuiltType}
use Rattle.sv_built.specs.Entered.{types_at}
use Rattle.sv_built.specs.Positions.{stmt_at}
use Rattle.sv_sound.specs.Sound.{IsPlainEffect}
use Rattle.sv_sense.proofs.SenseLaws.{ok_given}
use Rattle.sv_stack.specs.declared.effect.Effect.{Effect as Own_effect}
use Rattle.sv_stack.specs.Effects.{effect_in}
use Rattle.sv_machine.specs.declared.machine.Machine.{Machine}
use Rattle.sv_machine.specs.declared.machine.Kept.{Kept}
use Rattle.sv_machine.specs.declared.line.Line.{Line}
use Rattle.sv_machine.specs.Machine.{Does}
use Rattle.sv_machine.specs.Wakes.{side_at}
use Rattle.sv_machine.proofs.OccurLaws.{runs_known, runs_made, enter_does, runs_absent, few_stand, turn_does, print_does, strobe_does, fork_does, await_does, disable_does, finish_does, fail_does}
use Rattle.sv_machine.proofs.effects.occur_rarely.Goals as goal

pub side-side-requires : goal.side-side-requires
side-side-requires c = runs_known c.args.design.now c.args.machine.now c.requires.at c.args.process c.requires.running

pub turn-requires-clause-absent : goal.turn-requires-clause-absent
turn-requires-clause-absent c = runs_absent c.args.design.now c.args.machine.now c.requires.at c.args.process c.requires.running

pub turn-requires-clause-few : goal.turn-requires-clause-few
turn-requires-clause-few c = few_stand c.args.design.now c.args.machine.now c.requires.at

pub enter-requires-clause-known : goal.enter-requires-clause-known
enter-requires-clause-known c = runs_made c.args.design.now c.args.machine.now c.requires.at c.args.process c.requires.running

pub enter-requires-clause-built : goal.enter-requires-clause-built
enter-requires-clause-built c = subst (λ (e : Own_effect). IsPlainEffect (effect_in c.args.design.now e)) c.in-Enter.is c.requires.plain

pub returns-in-Enter-clause-ok : goal.returns-in-Enter-clause-ok
returns-in-Enter-clause-ok c =
    let d = c.args.design.now in
    let ls = c.args.lines.now.items in
    let m = c.args.machine.now in
    let plain : AllByRecursion IsBuiltType (types_at d c.in-Enter.entered) = subst (λ (e : Own_effect). IsPlainEffect (effect_in d e)) c.in-Enter.is c.requires.plain in
    subst (λ (e : Own_effect). OnOk c.enter.result (Does d m c.enter.new.machine (occurred d c.args.at c.args.process (effect_in d e)) ls ls)) (sym c.in-Enter.is)
    (ok_given c.enter.result _ _
    (λ h. enter_does d c.requires.built c.args.at c.args.process m c.enter.new.machine c.requires.running ls (types_at d c.in-Enter.entered) c.in-Enter.around plain h) c.enter.ensures.ok)

pub returns-in-Turn-clause-ok : goal.returns-in-Turn-clause-ok
returns-in-Turn-clause-ok c =
    let d = c.args.design.now in
    let ls = c.args.lines.now.items in
    let m = c.args.machine.now in
    let p = c.args.process in
    let s : c.side-side.result ≡ side_at m.tree p = c.side-side.ensures in
    subst (λ (e : Own_effect). OnOk c.turn.result (Does d m c.turn.new.machine (occurred d c.args.at p (effect_in d e)) ls ls)) (sym c.in-Turn.is)
    (ok_given c.turn.result _ _ (λ h. turn_does d c.requires.built c.args.at p m c.turn.new.machine c.requires.running ls _ s h) c.turn.ensures.ok)

pub returns-in-Print-clause-ok : goal.returns-in-Print-clause-ok
returns-in-Print-clause-ok c =
    let d = c.args.design.now in
    let ls = c.args.lines.now.items in
    let after = c.push.new.self.items in
    let m = c.args.machine.now in
    let p = c.args.process in
    let s : c.side-side.result ≡ side_at m.tree p = c.side-side.ensures in
    let l : Line = record { side = c.side-side.result; text = c.in-Print.text } in
    subst (λ (e : Own_effect). Does d m m (occurred d c.args.at p (effect_in d e)) ls after) (sym c.in-Print.is)
    (print_does d c.requires.built c.args.at p m m c.requires.running ls c.in-Print.text l after refl c.in_ok-push-in-Print.ensures.items s refl)

pub returns-in-Strobe-clause-ok : goal.returns-in-Strobe-clause-ok
returns-in-Strobe-clause-ok c =
    let d = c.args.design.now in
    let ls = c.args.lines.now.items in
    let m = c.args.machine.now in
    let n : Machine = record m { strobes = c.push-in-Strobe.new.self } in
    let p = c.args.process in
    let s : c.side-side.result ≡ side_at m.tree p = c.side-side.ensures in
    let k : Kept = record { side = c.side-side.result; at = c.args.at; position = c.in-Strobe.position } in
    subst (λ (e : Own_effect). Does d m n (occurred d c.args.at p (effect_in d e)) ls ls) (sym c.in-Strobe.is)
    (strobe_does d c.requires.built c.args.at p m n c.requires.running ls k refl c.in_ok-push-in-Strobe.ensures.items s refl)

pub returns-in-Finish-clause-ok : goal.returns-in-Finish-clause-ok
returns-in-Finish-clause-ok c =
    let d = c.args.design.now in
    let ls = c.args.lines.now.items in
    let m = c.args.machine.now in
    let n : Machine = record m { finishing = true } in
    subst (λ (e : Own_effect). Does d m n (occurred d c.args.at c.args.process (effect_in d e)) ls ls) (sym c.in-Finish.is)
    (finish_does d c.requires.built c.args.at c.args.process m n c.requires.running ls refl)

pub returns-in-Fail-clause-ok : goal.returns-in-Fail-clause-ok
returns-in-Fail-clause-ok c =
    let d = c.args.design.now in
    let ls = c.args.lines.now.items in
    let m = c.args.machine.now in
    let n : Machine = record m { fault = Some (record { kind = c.in-Fail.kind; at = c.args.at; time = m.time }) } in
    subst (λ (e : Own_effect). Does d m n (occurred d c.args.at c.args.process (effect_in d e)) ls ls) (sym c.in-Fail.is)
    (fail_does d c.requires.built c.args.at c.args.process m n c.requires.running ls c.in-Fail.kind refl)

pub returns-in-Spawn-clause-ok : goal.returns-in-Spawn-clause-ok
returns-in-Spawn-clause-ok c =
    let d = c.args.design.now in
    let ls = c.args.lines.now.items in
    let m = c.args.machine.now in
    subst (λ (e : Own_effect). OnOk c.fork.result (Does d m c.fork.new.machine (occurred d c.args.at c.args.process (effect_in d e)) ls ls)) (sym c.in-Spawn.is)
    (ok_given c.fork.result _ _ (λ h. fork_does d c.requires.built c.args.at c.args.process m c.fork.new.machine c.requires.running ls (stmt_at d c.in-Spawn.position) c.in-Spawn.scope h) c.fork.ensures.ok)

pub returns-in-AwaitChildren-clause-ok : goal.returns-in-AwaitChildren-clause-ok
returns-in-AwaitChildren-clause-ok c =
    let d = c.args.design.now in
    let ls = c.args.lines.now.items in
    let m = c.args.machine.now in
    subst (λ (e : Own_effect). OnOk c.await_children.result (Does d m c.await_children.new.machine (occurred d c.args.at c.args.process (effect_in d e)) ls ls)) (sym c.in-AwaitChildren.is)
    (ok_given c.await_children.result _ _ (λ h. await_does d c.requires.built c.args.at c.args.process m c.await_children.new.machine c.requires.running ls h) c.await_children.ensures.ok)

pub returns-in-EndDescendants-clause-ok : goal.returns-in-EndDescendants-clause-ok
returns-in-EndDescendants-clause-ok c =
    let d = c.args.design.now in
    let ls = c.args.lines.now.items in
    let m = c.args.machine.now in
    subst (λ (e : Own_effect). OnOk c.end_descendants.result (Does d m c.end_descendants.new.machine (occurred d c.args.at c.args.process (effect_in d e)) ls ls)) (sym c.in-EndDescendants.is)
    (ok_given c.end_descendants.result _ _ (λ h. disable_does d c.requires.built c.args.at c.args.process m c.end_descendants.new.machine c.requires.running ls h) c.end_descendants.ensures.ok)
