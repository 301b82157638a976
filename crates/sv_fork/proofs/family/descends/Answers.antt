use Rattle.std.proofs.Common.{◌≡◌, ◌∙◌, sym, ap, arith, Some, false, length}
use Rattle.std.specs.Prelude.{◌==◌, ◌||◌}
use Rattle.sv_fork.specs.Tree.{descends_in}
use Rattle.sv_fork.proofs.NumberLaws.{other_number}
use Rattle.sv_fork.proofs.DescentLaws.{descends_low, descends_not, descends_step}
use Rattle.sv_fork.proofs.family.descends.Goals as goal

pub returns-in_default : goal.returns-in_default
returns-in_default c =
    sym (descends_not c.args.members.now c.args.process c.loop-below.below (sym c.parent_of.ensures ∙ c.in_default.is)) ∙ c.loop-below.invariant

pub loop-below-preserved : goal.loop-below-preserved
loop-below-preserved c =
    let ms = c.args.members.now in
    let p = c.args.process in
    let q = c.in-Some.parent in
    let other : (q.0 == p.0) ≡ false = other_number q.0 p.0 c.if-parent-process.false in
    sym (descends_step ms p c.loop-below.below q c.requires (sym c.parent_of.ensures ∙ c.in-Some.is) ∙ ap (λ b. b || descends_in (length ms) ms (Some q) p) other)
    ∙ c.loop-below.invariant

pub returns : goal.returns
returns c =
    sym (descends_low c.args.members.now c.args.process c.requires (length c.args.members.now) c.loop-below.below (omega arith)) ∙ c.loop-below.invariant
