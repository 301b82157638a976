use Rattle.std.proofs.Common.{◌≡◌, ◌∙◌, ◌++◌, List, Option, ap}
use Rattle.sv_value.specs.declared.number.ProcessId.{ProcessId}
use Rattle.sv_assign.specs.Seen.{change_in}
use Rattle.sv_sense.specs.declared.waiter.Waiter.{Waiter}
use Rattle.sv_sense.specs.Wakes.{fires_at, scenes_before, scenes_after, tried, waits_after, woken_from, woken_of}
use Rattle.sv_sense.specs.Sensed.{Sensed, Covers, hearers, hearers_in}
use Rattle.sv_sense.proofs.ChangeLaws.{is_change}
use Rattle.sv_sense.proofs.SenseLaws.{covers_left, fired_left, fired_woken, ok_given}
use Rattle.sv_sense.proofs.sense.Sense.fire.Goals as goal

pub returns-clause-woken : goal.returns-clause-woken
returns-clause-woken c =
    let d = c.args.design.now in
    let s = c.args.self.now in
    let b = c.args.before.now in
    let t = fires_at d (scenes_before b) (scenes_after b) in
    let i = c.self.inside in
    let qs = c.hearers-hearers.result.now in
    let is : qs ≡ hearers s (change_in b.change.now) =
    c.hearers-hearers.ensures.items ∙ ap (λ (ls : List (List ProcessId)). hearers_in ls i.scoped i.all (change_in b.change.now)) c.as_slice.ensures.value
    ∙ ap (λ (s : Sensed). hearers s (change_in b.change.now)) c.self.view_is in
    ok_given c.try_all.result (c.try_all.new.woken.items ≡ c.args.woken.now.items ++ woken_of t qs i.waits.items) (c.try_all.new.woken.items ≡ woken_from t 0 s.waits)
    (λ h. h ∙ ap (λ (ps : List ProcessId). ps ++ woken_of t qs i.waits.items) c.requires.nobody ∙ ap (λ (s : Sensed). woken_of t qs s.waits) c.self.view_is
    ∙ fired_woken d s c.requires.built c.requires.covers (change_in b.change.now) (scenes_before b) (scenes_after b) (is_change b) qs is c.hearers-hearers.ensures.ascends)
    c.try_all.ensures.woken

pub returns-clause-left : goal.returns-clause-left
returns-clause-left c =
    let d = c.args.design.now in
    let s = c.args.self.now in
    let b = c.args.before.now in
    let t = fires_at d (scenes_before b) (scenes_after b) in
    let i = c.self.inside in
    let qs = c.hearers-hearers.result.now in
    let is : qs ≡ hearers s (change_in b.change.now) =
    c.hearers-hearers.ensures.items ∙ ap (λ (ls : List (List ProcessId)). hearers_in ls i.scoped i.all (change_in b.change.now)) c.as_slice.ensures.value
    ∙ ap (λ (s : Sensed). hearers s (change_in b.change.now)) c.self.view_is in
    ok_given c.try_all.result (c.try_all.new.waits.items ≡ tried t qs i.waits.items) (c.try_all.new.waits.items ≡ waits_after t s.waits)
    (λ h. h ∙ ap (λ (s : Sensed). tried t qs s.waits) c.self.view_is
    ∙ fired_left d s c.requires.built c.requires.covers (change_in b.change.now) (scenes_before b) (scenes_after b) (is_change b) qs is c.hearers-hearers.ensures.ascends)
    c.try_all.ensures.waits

pub returns-clause-covers : goal.returns-clause-covers
returns-clause-covers c =
    let d = c.args.design.now in
    let s = c.args.self.now in
    let b = c.args.before.now in
    let t = fires_at d (scenes_before b) (scenes_after b) in
    let i = c.self.inside in
    let u : List (Option Waiter) → Sensed = λ ws. record { waits = ws; known = i.known.items; watchers = i.watchers.items; scoped = i.scoped; all = i.all } in
    ok_given c.try_all.result (c.try_all.new.waits.items ≡ waits_after t s.waits) (Covers d (u c.try_all.new.waits.items))
    (λ h. covers_left d s (u c.try_all.new.waits.items) t c.requires.covers
    (ap u h ∙ ap (λ (m : Sensed). record m { waits = waits_after t s.waits }) c.self.view_is))
    (returns-clause-left c)
