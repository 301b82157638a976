use Rattle.std.proofs.Common.{rules, ◌≡◌, ◌∙◌, ◌∷◌, ◌++◌, List, [], true, false, refl, ap, subst, sym}
use Rattle.std.specs.Prelude.{reverse, IsNone, is_some}
use Rattle.std.specs.List.{AllByRecursion}
use Rattle.sv_flat.specs.Effects.{all_occurred}
use Rattle.sv_sound.specs.Sound.{IsPlainEffect}
use Rattle.sv_stack.specs.declared.effect.Effect.{Effect as Own_effect}
use Rattle.sv_stack.specs.Effects.{effects_in}
use Rattle.sv_machine.specs.Machine.{IsAt, Does}
use Rattle.sv_machine.proofs.StepLaws.{reverse_last, nothing_does, last_does, more_does, at_after}
use Rattle.sv_machine.proofs.statements.occur_all.Goals as goal

pub loop-effect-init : goal.loop-effect-init
loop-effect-init c = (c.requires.at, c.requires.running, c.requires.plain, (λ n last h. h), record { time = refl; executed = refl })

pub occur-requires-clause-at : goal.occur-requires-clause-at
occur-requires-clause-at c = c.loop-effect.invariant.0

pub occur-requires-clause-running : goal.occur-requires-clause-running
occur-requires-clause-running c = c.loop-effect.invariant.1

pub occur-requires-clause-plain : goal.occur-requires-clause-plain
occur-requires-clause-plain c =
    let d = c.args.design.now in
    let x : Own_effect = c.in-Some.effect in
    let es = c.loop-effect.effects.items in
    let us = c.pop.new.self.items in
    let last : es ≡ us ++ x ∷ [] = search rules in
    let is : reverse es ≡ x ∷ reverse us = ap (reverse {A = Own_effect}) last ∙ reverse_last us x in
    let plain : AllByRecursion IsPlainEffect (effects_in d (x ∷ reverse us)) = subst (λ (es : List Own_effect). AllByRecursion IsPlainEffect (effects_in d es)) is c.loop-effect.invariant.2 in
    plain.0

pub returns-then-not-goes_on-clause-ok : goal.returns-then-not-goes_on-clause-ok
returns-then-not-goes_on-clause-ok c =
    let d = c.args.design.now in
    let m = c.loop-effect.machine in
    let n = c.occur.new.machine in
    let x : Own_effect = c.in-Some.effect in
    let es = c.loop-effect.effects.items in
    let us = c.pop.new.self.items in
    let last : es ≡ us ++ x ∷ [] = search rules in
    let is : reverse es ≡ x ∷ reverse us = ap (reverse {A = Own_effect}) last ∙ reverse_last us x in
    let plain : AllByRecursion IsPlainEffect (effects_in d (x ∷ reverse us)) = subst (λ (es : List Own_effect). AllByRecursion IsPlainEffect (effects_in d es)) is c.loop-effect.invariant.2 in
    let no : c.goes_on.result ≡ false = search rules in
    c.loop-effect.invariant.3 n c.occur.new.lines.items
    (subst (λ (es : List Own_effect). Does d m n (all_occurred d c.args.at c.args.process (effects_in d es)) c.loop-effect.lines.items c.occur.new.lines.items) (sym is)
    (last_does d c.requires.built c.args.at c.args.process m n c.loop-effect.invariant.1 _ plain.0 c.loop-effect.lines.items c.occur.new.lines.items c.in_ok-occur.ensures.ok
    c.goes_on.result c.goes_on.ensures no (effects_in d (reverse us))))

pub loop-effect-preserved : goal.loop-effect-preserved
loop-effect-preserved c =
    let d = c.args.design.now in
    let m = c.loop-effect.machine in
    let n = c.occur.new.machine in
    let x : Own_effect = c.in-Some.effect in
    let es = c.loop-effect.effects.items in
    let us = c.pop.new.self.items in
    let last : es ≡ us ++ x ∷ [] = search rules in
    let is : reverse es ≡ x ∷ reverse us = ap (reverse {A = Own_effect}) last ∙ reverse_last us x in
    let plain : AllByRecursion IsPlainEffect (effects_in d (x ∷ reverse us)) = subst (λ (es : List Own_effect). AllByRecursion IsPlainEffect (effects_in d es)) is c.loop-effect.invariant.2 in
    let go : c.goes_on.result ≡ true = search rules in
    let both = c.goes_on.ensures.0 go in
    let none : IsNone n.fault = ap is_some both.1 in
    let at : IsAt d n =
    at_after d c.requires.built c.args.at c.args.process m n c.loop-effect.invariant.1 _ plain.0 c.loop-effect.lines.items c.occur.new.lines.items c.in_ok-occur.ensures.ok none c.loop-effect.invariant.0 in (
      at,
      both.0,
      plain.1,
      (λ l ls h. c.loop-effect.invariant.3 l ls
          (subst (λ (es : List Own_effect). Does d m l (all_occurred d c.args.at c.args.process (effects_in d es)) c.loop-effect.lines.items ls) (sym is)
          (more_does d c.requires.built c.args.at c.args.process m n c.loop-effect.invariant.1 _ plain.0 c.loop-effect.lines.items c.occur.new.lines.items c.in_ok-occur.ensures.ok
          l (effects_in d (reverse us)) ls none h))),
      record { time = c.occur.ensures.moment.time ∙ c.loop-effect.invariant.4.time; executed = c.occur.ensures.moment.executed ∙ c.loop-effect.invariant.4.executed },
    )

pub returns-clause-ok : goal.returns-clause-ok
returns-clause-ok c =
    let d = c.args.design.now in
    let m = c.loop-effect.machine in
    let es = c.loop-effect.effects.items in
    let none : es ≡ [] = search rules in
    c.loop-effect.invariant.3 m c.loop-effect.lines.items
    (subst (λ (es : List Own_effect). Does d m m (all_occurred d c.args.at c.args.process (effects_in d (reverse es))) c.loop-effect.lines.items c.loop-effect.lines.items) (sym none)
    (nothing_does d c.args.at c.args.process m c.loop-effect.lines.items))
