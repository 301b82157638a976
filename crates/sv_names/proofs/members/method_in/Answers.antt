use Rattle.std.proofs.Common.{List, map, option_map, Bor, arith, sym, refl, ◌-◌, ◌∙◌}
use Rattle.sv_names.specs.declared.around.ClassInfo.{ClassInfo}
use Rattle.sv_names.specs.Named.{method_in}
use Rattle.sv_names.specs.Lines.{base_in, up_from}
use Rattle.sv_names.proofs.MemberLemmas.{begun, ended, out, onward}
use Rattle.sv_names.proofs.members.method_in.Goals as goal

pub returns-in_default : goal.returns-in_default
returns-in_default c =
    let ks : List ClassInfo = map (λ k. k.now) c.args.classes.now in
    ended (method_in c.args.name.now) c.loop-left.left ks c.loop-left.next c.in_default.is
    ∙ c.loop-left.invariant ∙ begun (method_in c.args.name.now) c.args.classes.now c.args.class.now _ c.class_in-next.ensures

pub returns-in-Some-own_method : goal.returns-in-Some-own_method
returns-in-Some-own_method c =
    let ks : List ClassInfo = map (λ k. k.now) c.args.classes.now in
    let k : ClassInfo = c.in-Some.nearest.now in
    sym (c.in-Some-own_method.ensures (up_from (c.loop-left.left - 1) ks (base_in ks k)))
    ∙ onward (method_in c.args.name.now) c.loop-left.left ks c.loop-left.next c.in-Some.nearest (base_in ks k) c.in-Some.is c.loop-left-test.true refl
    ∙ c.loop-left.invariant ∙ begun (method_in c.args.name.now) c.args.classes.now c.args.class.now _ c.class_in-next.ensures

pub loop-left-preserved : goal.loop-left-preserved
loop-left-preserved c =
    let ks : List ClassInfo = map (λ k. k.now) c.args.classes.now in
    sym (c.in-None.ensures (up_from (c.loop-left.left - 1) ks (option_map (λ (k : Bor ClassInfo). k.now) c.base_in-next.result)))
    ∙ onward (method_in c.args.name.now) c.loop-left.left ks c.loop-left.next c.in-Some.nearest _ c.in-Some.is c.loop-left-test.true c.base_in-next.ensures
    ∙ c.loop-left.invariant

pub returns : goal.returns
returns c =
    let ks : List ClassInfo = map (λ k. k.now) c.args.classes.now in
    out (method_in c.args.name.now) c.loop-left.left ks _ (omega (arith, c.loop-left-test.false))
    ∙ c.loop-left.invariant ∙ begun (method_in c.args.name.now) c.args.classes.now c.args.class.now _ c.class_in-next.ensures
