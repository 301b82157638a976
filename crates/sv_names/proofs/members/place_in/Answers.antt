use Rattle.std.proofs.Common.{◌≡◌, ℕ, List, length, map, arith, ◌∙◌, ap}
use Rattle.sv_names.specs.declared.around.ClassInfo.{ClassInfo}
use Rattle.sv_names.specs.Named.{properties_before, before_in_line}
use Rattle.sv_names.proofs.MemberLemmas.{begun, onward}
use Rattle.sv_names.proofs.members.place_in.Goals as goal

pub returns : goal.returns
returns c =
    let ks : List ClassInfo = map (λ k. k.now) c.args.classes.now in
    let f : List ClassInfo → ℕ = before_in_line c.args.name.now in
    let whole = onward f (length c.args.classes.now) ks c.class_in.result c.in-Some.nearest _ c.in-Some.is (omega (arith, c.if-left-eq0.false)) c.base_in.ensures
    ∙ begun f c.args.classes.now c.args.class.now _ c.class_in.ensures in
    let own : properties_before c.args.name.now c.as_slice.result.now ≡ properties_before c.args.name.now c.in-Some.nearest.now.scope.known =
    ap (properties_before c.args.name.now) c.as_slice.ensures in
    omega (arith, whole, own, c.properties_before-own.ensures, c.of_bases.ensures, c.saturating_add.ensures)
