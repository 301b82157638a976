use Rattle.std.proofs.Common.{rules, ◌≡◌, ◌∙◌, None, Some}
use Rattle.sv_flat.specs.Classes.{class_of}
use Rattle.sv_elab_comb.proofs.ClassLaws.{found_none, one_above}
use Rattle.sv_elab_comb.proofs.classes.is_derived.Goals as goal

pub returns-in_default : goal.returns-in_default
returns-in_default c =
    let none : None ≡ (class_of c.args.parts.now c.loop-left.next).base = search rules in
    found_none c.args.parts.now c.args.base c.loop-left.left c.loop-left.next c.loop-left-test.true (search rules) none
    ∙ c.loop-left.invariant

pub loop-left-preserved : goal.loop-left-preserved
loop-left-preserved c =
    let some : Some c.in-Some.above ≡ (class_of c.args.parts.now c.loop-left.next).base = search rules in
    one_above c.args.parts.now c.args.base c.loop-left.left c.loop-left.next c.in-Some.above c.loop-left-test.true (search rules) some
    ∙ c.loop-left.invariant
