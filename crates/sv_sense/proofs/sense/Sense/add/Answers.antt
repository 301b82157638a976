use Rattle.std.proofs.Common.{rules, ◌≡◌, ◌∙◌, ◌∷◌, ◌++◌, [], None, List, Option, ap, subst, arith, length}
use Rattle.sv_value.specs.declared.number.ProcessId.{ProcessId}
use Rattle.sv_built.specs.declared.wait.Wait.{Wait}
use Rattle.sv_sense.specs.declared.waiter.Waiter.{Waiter}
use Rattle.sv_sense.specs.Sensed.{Sensed}
use Rattle.sv_sense.proofs.RegisterLaws.{grows_self}
use Rattle.sv_sense.proofs.SenseLaws.{AllGrow, Grown, covers_grown, covers_known_more, covers_more}
use Rattle.sv_sense.proofs.sense.Sense.add.Goals as goal

-- all are more, and the other lists as they were
grown : (s i : Sensed) (all : List ProcessId) (ws : List (Option Waiter)) (ks : List (Option Wait)) → i ≡ s → AllGrow i.all all → Grown s (record i { waits = ws; known = ks; all = all })
grown s i all ws ks is g =
    subst (λ (x : Sensed). Grown x (record i { waits = ws; known = ks; all = all })) is (record { watchers = grows_self i.watchers; scoped = record { kept = λ p h. h }; all = g })

pub returns-in_err-add-clause-covers : goal.returns-in_err-add-clause-covers
returns-in_err-add-clause-covers c = λ d covers.
    let i = c.self.inside in
    covers_grown d c.args.self.now _ covers (grown c.args.self.now _ c.add.new.self i.waits.items i.known.items c.self.view_is (record { kept = c.add.ensures.kept }))
    (ap (λ (s : Sensed). s.waits) c.self.view_is) (ap (λ (s : Sensed). s.known) c.self.view_is)

pub returns-in_err-push-clause-covers : goal.returns-in_err-push-clause-covers
returns-in_err-push-clause-covers c = λ d covers.
    let i = c.self.inside in
    let known : c.push.new.self.items ≡ i.known.items = search rules in
    covers_grown d c.args.self.now _ covers
    (grown c.args.self.now _ c.add.new.self i.waits.items c.push.new.self.items c.self.view_is (record { kept = c.add.ensures.kept }))
    (ap (λ (s : Sensed). s.waits) c.self.view_is) (known ∙ ap (λ (s : Sensed). s.known) c.self.view_is)

pub returns-in_err-add_nobody-clause-covers : goal.returns-in_err-add_nobody-clause-covers
returns-in_err-add_nobody-clause-covers c = λ d covers.
    let i = c.self.inside in
    let known : c.push.new.self.items ≡ i.known.items ++ None ∷ [] = search rules in
    let waits : c.add_nobody.new.waits.items ≡ i.waits.items = search rules in
    covers_known_more d c.args.self.now _ covers
    (grown c.args.self.now _ c.add.new.self c.add_nobody.new.waits.items c.push.new.self.items c.self.view_is (record { kept = c.add.ensures.kept }))
    (waits ∙ ap (λ (s : Sensed). s.waits) c.self.view_is) (known ∙ ap (λ (s : Sensed). s.known ++ None ∷ []) c.self.view_is)

pub returns-clause-covers : goal.returns-clause-covers
returns-clause-covers c = λ d covers.
    let i = c.self.inside in
    let known : c.push.new.self.items ≡ i.known.items ++ None ∷ [] = search rules in
    let waits : c.add_nobody.new.waits.items ≡ i.waits.items ++ None ∷ [] = search rules in
    let count = ap (λ (s : Sensed). length s.waits) c.self.view_is in
    covers_more d c.args.self.now _ _ covers
    (grown c.args.self.now _ c.add.new.self c.add_nobody.new.waits.items c.push.new.self.items c.self.view_is (record { kept = c.add.ensures.kept }))
    c.in_ok-add.ensures.ok (omega (arith, count))
    (waits ∙ ap (λ (s : Sensed). s.waits ++ None ∷ []) c.self.view_is) (known ∙ ap (λ (s : Sensed). s.known ++ None ∷ []) c.self.view_is)
