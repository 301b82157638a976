use Rattle.std.proofs.Common.{◌≡◌, ◌∙◌, true, List, Option, Some, ap, subst}
use Rattle.std.specs.Prelude.{slice_set}
use Rattle.sv_value.specs.declared.number.ObjId.{ObjId}
use Rattle.sv_value.specs.declared.number.ProcessId.{ProcessId}
use Rattle.sv_built.specs.declared.wait.Wait.{Wait}
use Rattle.sv_flat.specs.Effects.{is_in}
use Rattle.sv_sense.specs.Objects.{wait_objects}
use Rattle.sv_sense.specs.Watchers.{Grows, Registered}
use Rattle.sv_sense.specs.Sensed.{Sensed}
use Rattle.sv_sense.proofs.SenseLaws.{AllGrow, Grown, covers_grown, covers_known}
use Rattle.sv_sense.proofs.sense.Sense.learn.Goals as goal

-- the lists of watchers have grown, and all processes are the same
grown : (s i : Sensed) (ls : List (List ProcessId)) (scoped : List ProcessId) (ks : List (Option Wait)) → i ≡ s → Grows i.watchers ls → AllGrow i.scoped scoped
    → Grown s (record i { known = ks; watchers = ls; scoped = scoped })
grown s i ls scoped ks is g h =
    subst (λ (x : Sensed). Grown x (record i { known = ks; watchers = ls; scoped = scoped })) is (record { watchers = g; scoped = h; all = record { kept = λ p k. k } })

pub returns-then-knows-clause-ok : goal.returns-then-knows-clause-ok
returns-then-knows-clause-ok c = c.requires.covers.registered.each c.args.process c.args.wait (c.knows.ensures c.if-knows.true)

pub returns-in_err-register-clause-covers : goal.returns-in_err-register-clause-covers
returns-in_err-register-clause-covers c =
    let i = c.self.inside in
    covers_grown c.args.design.now c.args.self.now _ c.requires.covers
    (grown c.args.self.now _ c.register.new.lists.items i.scoped i.known.items c.self.view_is c.register.ensures.grows (record { kept = λ p k. k }))
    (ap (λ (s : Sensed). s.waits) c.self.view_is) (ap (λ (s : Sensed). s.known) c.self.view_is)

pub returns-in_err-register_scoped-clause-covers : goal.returns-in_err-register_scoped-clause-covers
returns-in_err-register_scoped-clause-covers c =
    let i = c.self.inside in
    covers_grown c.args.design.now c.args.self.now _ c.requires.covers
    (grown c.args.self.now _ c.register.new.lists.items c.register_scoped.new.scoped i.known.items c.self.view_is c.register.ensures.grows (record { kept = c.register_scoped.ensures.kept }))
    (ap (λ (s : Sensed). s.waits) c.self.view_is) (ap (λ (s : Sensed). s.known) c.self.view_is)

pub returns-clause-ok : goal.returns-clause-ok
returns-clause-ok c =
    let d = c.args.design.now in
    let p = c.args.process in
    let w = c.args.wait in
    let everyone : is_in p c.self.inside.all ≡ true = ap (λ (s : Sensed). is_in p s.all) c.self.view_is ∙ c.requires.covers.everyone p c.requires.known in
    let those : c.as_slice.result.now ≡ wait_objects d w = c.as_slice.ensures ∙ c.in_ok-objects.ensures in
    record {
      objects = subst (λ (os : List ObjId). Registered p os c.register.new.lists.items c.self.inside.all) those (c.in_ok-register.ensures.ok c.self.inside.all everyone);
      variables = c.in_ok-register_scoped.ensures.ok;
    }

pub returns-clause-covers : goal.returns-clause-covers
returns-clause-covers c =
    let i = c.self.inside in
    covers_known c.args.design.now c.args.self.now _ c.args.process c.args.wait c.requires.covers
    (grown c.args.self.now _ c.register.new.lists.items c.register_scoped.new.scoped (slice_set i.known.items c.args.process.0 (Some c.args.wait)) c.self.view_is c.register.ensures.grows
    (record { kept = c.register_scoped.ensures.kept }))
    (returns-clause-ok c) (ap (λ (s : Sensed). s.waits) c.self.view_is) (ap (λ (s : Sensed). slice_set s.known c.args.process.0 (Some c.args.wait)) c.self.view_is)
