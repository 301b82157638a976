-- The instance that comes next.
use Rattle.std.proofs.Common.{◌≡◌, ◌+◌, ◌<◌, List, Option, map, sym, ap, ◌∙◌, subst, append-nil, arith}
use Rattle.std.specs.Prelude.{IfNone}
use Rattle.sv_tree.specs.UnitView.{description}
use Rattle.sv_elab_walk.specs.declared.frames.Frame.{Frame}
use Rattle.sv_elab_walk.specs.declared.frames.Next.{Next}
use Rattle.sv_elab_walk.specs.Insts.{all_walked}
use Rattle.sv_elab_walk.specs.Frames.{goes_on, behind, next_walk, turns, turns_in}
use Rattle.sv_elab_walk.proofs.FrameLaws.{none_next, last_taken, turns_last}
use Rattle.sv_elab_walk.proofs.steps.advance.Goals as goal

pub returns-in-Some-2-clause-met : goal.returns-in-Some-2-clause-met
returns-in-Some-2-clause-met c files n last =
    let us = map description c.args.units.now in
    let rest = behind us files c.turn.new.frames.items last in
    ap (λ (x : Option Next). goes_on (all_walked c.turn.new.walked) n (next_walk us files x rest)) (sym c.in-Some-2.is)
    ∙ c.in_ok-next.ensures.met files n last
    ∙ last_taken us files (all_walked c.loop-frame.walked) n c.pop.new.self.items c.loop-frame.frames.items c.in-Some.frame last
    c.in-Some.ensures.items
    ∙ c.loop-frame.invariant files n last

pub loop-frame-smaller : goal.loop-frame-smaller
loop-frame-smaller c =
    let before = ap turns c.in-Some.ensures.items ∙ turns_last c.pop.new.self.items c.in-Some.frame in
    let fewer = subst (λ (x : Option Next). IfNone x (turns c.turn.new.frames.items < turns c.pop.new.self.items + turns_in c.in-Some.frame)) c.in-None.is
    c.in_ok-next.ensures.fewer in
    omega (arith, before, fewer)

pub loop-frame-preserved : goal.loop-frame-preserved
loop-frame-preserved c files n last =
    let us = map description c.args.units.now in
    let rest = behind us files c.turn.new.frames.items last in
    sym (none_next us files (all_walked c.turn.new.walked) n rest)
    ∙ ap (λ (x : Option Next). goes_on (all_walked c.turn.new.walked) n (next_walk us files x rest)) (sym c.in-None.is)
    ∙ c.in_ok-next.ensures.met files n last
    ∙ last_taken us files (all_walked c.loop-frame.walked) n c.pop.new.self.items c.loop-frame.frames.items c.in-Some.frame last
    c.in-Some.ensures.items
    ∙ c.loop-frame.invariant files n last

pub returns-clause-met : goal.returns-clause-met
returns-clause-met c files n last =
    let us = map description c.args.units.now in
    let same : c.pop.new.self.items ≡ c.loop-frame.frames.items =
    sym (c.in_default.ensures.items ∙ append-nil c.pop.new.self.items) in
    none_next us files (all_walked c.loop-frame.walked) n (behind us files c.pop.new.self.items last)
    ∙ ap (λ (fs : List Frame). goes_on (all_walked c.loop-frame.walked) n (behind us files fs last)) same
    ∙ c.loop-frame.invariant files n last
