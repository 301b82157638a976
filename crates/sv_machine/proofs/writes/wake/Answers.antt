use Rattle.std.proofs.Common.{◌≡◌, ◌∙◌, Bool, List, Option, ap, subst, sym, refl, arith, length}
use Rattle.std.specs.Prelude.{sum_by}
use Rattle.std.specs.List.{AllByRecursion}
use Rattle.sv_value.specs.declared.number.ProcessId.{ProcessId}
use Rattle.sv_sense.specs.declared.waiter.Waiter.{Waiter}
use Rattle.sv_sense.specs.Wakes.{fires_at, scenes_before, scenes_after, woken_from}
use Rattle.sv_sense.proofs.SenseLaws.{ok_given}
use Rattle.sv_machine.specs.Wakes.{IsKnown, all_ready}
use Rattle.sv_machine.proofs.WriteLaws.{woken_known, woken_weight}
use Rattle.sv_machine.proofs.writes.wake.Goals as goal

pub make_ready-done-requires-clause-known : goal.make_ready-done-requires-clause-known
make_ready-done-requires-clause-known c =
    let d = c.args.design.now in
    let t : Option Waiter → Bool = fires_at d (scenes_before c.args.before.now) (scenes_after c.args.before.now) in
    let e : c.deref.result.now ≡ woken_from t 0 c.args.sense.now.waits = c.deref.ensures.value ∙ c.in_ok-fire.ensures.woken in
    let n = c.requires.count in
    subst (λ (ps : List ProcessId). AllByRecursion (IsKnown (length c.args.tree.now)) ps) (sym e) (woken_known t 0 (length c.args.tree.now) c.args.sense.now.waits (omega (arith, n)))

pub make_ready-done-requires-clause-weights : goal.make_ready-done-requires-clause-weights
make_ready-done-requires-clause-weights c = λ w.
    let d = c.args.design.now in
    let t : Option Waiter → Bool = fires_at d (scenes_before c.args.before.now) (scenes_after c.args.before.now) in
    let e : c.deref.result.now ≡ woken_from t 0 c.args.sense.now.waits = c.deref.ensures.value ∙ c.in_ok-fire.ensures.woken in
    let s = ap (sum_by w) e in
    let k = woken_weight t refl w 0 c.args.sense.now.waits in
    let l = c.requires.weights w in
    omega (arith, s, k, l)

pub returns : goal.returns
returns c =
    let d = c.args.design.now in
    let t : Option Waiter → Bool = fires_at d (scenes_before c.args.before.now) (scenes_after c.args.before.now) in
    let e : c.deref.result.now ≡ woken_from t 0 c.args.sense.now.waits = c.deref.ensures.value ∙ c.in_ok-fire.ensures.woken in
    ok_given c.make_ready-done.result _ _ (λ h. record {
      waits = c.in_ok-fire.ensures.left;
      regions = h ∙ ap (λ (ps : List ProcessId). all_ready c.args.tree.now ps c.args.regions.now) e;
      covers = c.in_ok-fire.ensures.covers;
    }) c.make_ready-done.ensures
