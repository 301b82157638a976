use Rattle.std.proofs.Common.{◌≡◌, List, map, option_map, Bor, arith, ap}
use Rattle.sv_names.specs.declared.around.ClassInfo.{ClassInfo}
use Rattle.sv_names.specs.Named.{of_bases, all_properties}
use Rattle.sv_names.proofs.MemberLemmas.{ended, out, onward}
use Rattle.sv_names.proofs.members.of_bases.Goals as goal

pub returns-in_default : goal.returns-in_default
returns-in_default c =
    let ks : List ClassInfo = map (λ k. k.now) c.args.classes.now in
    omega (arith, c.loop-left.invariant, ended of_bases c.loop-left.left ks c.loop-left.next c.in_default.is)

pub loop-left-preserved : goal.loop-left-preserved
loop-left-preserved c =
    let ks : List ClassInfo = map (λ k. k.now) c.args.classes.now in
    let e = onward of_bases c.loop-left.left ks c.loop-left.next c.in-Some.nearest _ c.in-Some.is c.loop-left-test.true c.base_in-next.ensures in
    let own : all_properties c.as_slice.result.now ≡ all_properties c.in-Some.nearest.now.scope.known = ap all_properties c.as_slice.ensures in
    (omega (arith, c.saturating_add-size.ensures), omega (arith, c.loop-left.invariant, e, own, c.all_properties.ensures, c.saturating_add-size.ensures))

pub returns : goal.returns
returns c =
    let ks : List ClassInfo = map (λ k. k.now) c.args.classes.now in
    omega (arith, c.loop-left.invariant, out of_bases c.loop-left.left ks (option_map (λ (k : Bor ClassInfo). k.now) c.loop-left.next) (omega (arith, c.loop-left-test.false)))
