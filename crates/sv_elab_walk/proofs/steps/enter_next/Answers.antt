-- An instance in another.
use Rattle.std.proofs.Common.{rules, ◌≡◌, map, ap, ◌∙◌}
use Rattle.sv_tree.specs.UnitView.{connection, instance}
use Rattle.sv_names.specs.Instances as instances
use Rattle.sv_names.specs.Instances.{child}
use Rattle.sv_elab_unit.specs.Definitions.{definition_in}
use Rattle.sv_elab_walk.specs.declared.instance.Inst.{Inst}
use Rattle.sv_elab_walk.specs.Grounds.{units_in, files_in}
use Rattle.sv_elab_walk.specs.Insts.{inst_in}
use Rattle.sv_elab_walk.proofs.FrameLaws.{next_entered}
use Rattle.sv_elab_walk.proofs.steps.enter_next.Goals as goal

pub returns : goal.returns
returns c n last =
    let us = units_in c.args.ground.now in
    let files = files_in c.args.ground.now in
    let x = c.args.next in
    let made = c.in_ok-inst.ensures ∙ ap (λ (y : Inst). child us files (inst_in y) (definition_in x.unit) (map connection x.params.now)
    (instance x.one.now)) c.deref.ensures in
    let same : c.in_ok-clone.field-0.value ≡ c.in_ok-inner.inner.value = search rules in
    let inner : c.in_ok-inner.inner.value ≡ c.in_ok-inst.inst = c.in_ok-inner.ensures.ok in
    c.in_ok-enter.ensures us files n last
    ∙ next_entered us files c.args.walked.now c.push.new.self _ c.args.frames.now.items x c.in_ok-inner.inner.value c.in_ok-push.ensures.ok
    (λ i. instances.Connect (inst_in x.of.value) (inst_in (same i)) (map connection (c.as_slice.ensures.value i)))
    (ap inst_in inner ∙ made) n last
