-- One instance with all that stands in it.
use Rattle.std.proofs.Common.{◌≡◌, [], ◌-◌, suc, List, Option, None, refl, sym, ap, ◌∙◌, subst, arith}
use Rattle.std.specs.Prelude.{IfNone}
use Rattle.sv_names.specs.Instances.{stays, and_then, walk}
use Rattle.sv_elab_walk.specs.declared.frames.Frame.{Frame}
use Rattle.sv_elab_walk.specs.declared.frames.Next.{Next}
use Rattle.sv_elab_walk.specs.Insts.{inst_in, all_walked}
use Rattle.sv_elab_walk.specs.Grounds.{units_in, files_in}
use Rattle.sv_elab_walk.specs.Frames.{goes_on, behind, next_walk}
use Rattle.sv_elab_walk.proofs.FrameLaws.{alone, all_behind, next_passes}
use Rattle.sv_elab_walk.proofs.walk.walk_inst.Goals as goal

pub loop-frames-init : goal.loop-frames-init
loop-frames-init c =
    let us = units_in c.args.ground.now in
    let files = files_in c.args.ground.now in
    let ws = all_walked c.args.walked.now in
    c.in_ok-enter.ensures us files c.args.limit stays
    ∙ (λ i. goes_on ws c.args.limit (and_then (walk us files c.args.most (inst_in (c.in_ok-root.ensures.ok i)))
    (behind us files (c.new-frames.ensures.items i) stays)))
    ∙ alone us files ws c.args.limit (walk us files c.args.most (inst_in c.args.inst))

pub returns-then-left-eq0 : goal.returns-then-left-eq0
returns-then-left-eq0 c =
    let us = units_in c.args.ground.now in
    let files = files_in c.args.ground.now in
    let ws = all_walked c.advance.new.walked in
    let rest = behind us files c.advance.new.frames.items stays in
    next_passes us files c.advance.new.walked c.push.new.self _ c.in-Some.next c.in_ok-push.ensures.ok refl rest
    ∙ (λ i. goes_on ws (sym c.if-left-eq0.true i) (next_walk us files (sym c.in-Some.is i) rest))
    ∙ c.in_ok-next.ensures.met files c.loop-frames.left stays
    ∙ c.loop-frames.invariant

pub loop-frames-preserved : goal.loop-frames-preserved
loop-frames-preserved c =
    let us = units_in c.args.ground.now in
    let files = files_in c.args.ground.now in
    let ws = all_walked c.advance.new.walked in
    let rest = behind us files c.advance.new.frames.items stays in
    let left : suc (c.loop-frames.left - 1) ≡ c.loop-frames.left = omega (arith, c.if-left-eq0.false) in
    c.in_ok-enter_next.ensures (c.loop-frames.left - 1) stays
    ∙ (λ i. goes_on ws (left i) (next_walk us files (sym c.in-Some.is i) rest))
    ∙ c.in_ok-next.ensures.met files c.loop-frames.left stays
    ∙ c.loop-frames.invariant

pub returns : goal.returns
returns c =
    let us = units_in c.args.ground.now in
    let files = files_in c.args.ground.now in
    let ws = all_walked c.advance.new.walked in
    let none : c.advance.new.frames.items ≡ [] =
    subst (λ (x : Option Next). IfNone x (c.advance.new.frames.items ≡ [])) c.in_default.is c.in_ok-next.ensures.none in
    let rest = behind us files c.advance.new.frames.items stays in
    all_behind us files ws c.loop-frames.left
    ∙ ap (λ (fs : List Frame). goes_on ws c.loop-frames.left (next_walk us files None (behind us files fs stays))) (sym none)
    ∙ ap (λ (x : Option Next). goes_on ws c.loop-frames.left (next_walk us files x rest)) (sym c.in_default.is)
    ∙ c.in_ok-next.ensures.met files c.loop-frames.left stays
    ∙ c.loop-frames.invariant
