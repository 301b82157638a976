use Rattle.std.proofs.Common.{◌≡◌, subst, sym}
use Rattle.std.specs.Prelude.{OnOk}
use Rattle.sv_flat.specs.Effects.{occurred}
use Rattle.sv_assign.specs.Places.{spot_in}
use Rattle.sv_sound.specs.Sound.{IsPlainEffect, IsPlainSpot}
use Rattle.sv_sense.proofs.SenseLaws.{ok_given}
use Rattle.sv_stack.specs.declared.effect.Effect.{Effect as Own_effect}
use Rattle.sv_stack.specs.Effects.{effect_in}
use Rattle.sv_machine.specs.Machine.{Does}
use Rattle.sv_machine.specs.Wakes.{side_at}
use Rattle.sv_machine.proofs.EndLaws.{both_given}
use Rattle.sv_machine.proofs.OccurLaws.{runs_known, runs_sensed, write_does, watch_does, resume_does, update_does, end_does}
use Rattle.sv_machine.proofs.effects.occur.Goals as goal

pub side-side-requires : goal.side-side-requires
side-side-requires c = runs_known c.args.design.now c.args.machine.now c.requires.at c.args.process c.requires.running

pub watch-requires-clause-known : goal.watch-requires-clause-known
watch-requires-clause-known c = runs_sensed c.args.design.now c.args.machine.now c.requires.at c.args.process c.requires.running

pub returns-in-Write-clause-ok : goal.returns-in-Write-clause-ok
returns-in-Write-clause-ok c =
    let d = c.args.design.now in
    let ls = c.args.lines.now.items in
    let m = c.args.machine.now in
    let plain : IsPlainSpot (spot_in c.in-Write.spot) = subst (λ (e : Own_effect). IsPlainEffect (effect_in d e)) c.in-Write.is c.requires.plain in
    subst (λ (e : Own_effect). OnOk c.assign.result (Does d m c.assign.new.machine (occurred d c.args.at c.args.process (effect_in d e)) ls ls)) (sym c.in-Write.is)
    (ok_given c.assign.result _ _ (λ h. write_does d c.requires.built c.args.at c.args.process m c.assign.new.machine c.requires.running ls (spot_in c.in-Write.spot) plain c.in-Write.value h) c.assign.ensures.ok)

pub returns-in-Watch-clause-ok : goal.returns-in-Watch-clause-ok
returns-in-Watch-clause-ok c =
    let d = c.args.design.now in
    let ls = c.args.lines.now.items in
    let m = c.args.machine.now in
    let p = c.args.process in
    subst (λ (e : Own_effect). OnOk c.watch.result (Does d m c.watch.new.machine (occurred d c.args.at p (effect_in d e)) ls ls)) (sym c.in-Watch.is)
    (ok_given c.watch.result _ _ (λ h. watch_does d c.requires.built c.args.at p m c.watch.new.machine c.requires.running ls (record { wait = c.in-Watch.wait; scope = c.in-Watch.scope }) h) c.watch.ensures.ok)

pub returns-in-ResumeAt-clause-ok : goal.returns-in-ResumeAt-clause-ok
returns-in-ResumeAt-clause-ok c =
    let d = c.args.design.now in
    let ls = c.args.lines.now.items in
    let m = c.args.machine.now in
    let p = c.args.process in
    let s : c.side-side.result ≡ side_at m.tree p = c.side-side.ensures in
    subst (λ (e : Own_effect). OnOk c.resume_at.result (Does d m c.resume_at.new.machine (occurred d c.args.at p (effect_in d e)) ls ls)) (sym c.in-ResumeAt.is)
    (ok_given c.resume_at.result _ _ (λ h. resume_does d c.requires.built c.args.at p m c.resume_at.new.machine c.requires.running ls _ c.in-ResumeAt.time s h) c.resume_at.ensures.ok)

pub returns-in-UpdateAt-clause-ok : goal.returns-in-UpdateAt-clause-ok
returns-in-UpdateAt-clause-ok c =
    let d = c.args.design.now in
    let ls = c.args.lines.now.items in
    let m = c.args.machine.now in
    let p = c.args.process in
    let s : c.side-side.result ≡ side_at m.tree p = c.side-side.ensures in
    subst (λ (e : Own_effect). OnOk c.update_at.result (Does d m c.update_at.new.machine (occurred d c.args.at p (effect_in d e)) ls ls)) (sym c.in-UpdateAt.is)
    (ok_given c.update_at.result _ _ (λ h. update_does d c.requires.built c.args.at p m c.update_at.new.machine c.requires.running ls _ c.in-UpdateAt.time c.in-UpdateAt.job s h) c.update_at.ensures.ok)

pub returns-in-End-clause-ok : goal.returns-in-End-clause-ok
returns-in-End-clause-ok c =
    let d = c.args.design.now in
    let ls = c.args.lines.now.items in
    let m = c.args.machine.now in
    let p = c.args.process in
    subst (λ (e : Own_effect). OnOk c.end.result (Does d m c.end.new.machine (occurred d c.args.at p (effect_in d e)) ls ls)) (sym c.in-End.is)
    (both_given c.end.result _ _ _ (λ f g. end_does d c.requires.built c.args.at p m c.end.new.machine c.requires.running ls f g) c.end.ensures.first c.end.ensures.forked)
