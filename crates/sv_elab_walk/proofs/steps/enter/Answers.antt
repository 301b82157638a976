-- An instance that is entered.
use Rattle.std.proofs.Common.{rules, ◌≡◌, ◌-◌, suc, refl, ap, ◌∙◌, arith}
use Rattle.sv_names.specs.Instances as instances
use Rattle.sv_elab_walk.specs.Insts.{inst_in}
use Rattle.sv_elab_walk.specs.declared.instance.Inst.{Inst}
use Rattle.sv_elab_walk.proofs.FrameLaws.{entered}
use Rattle.sv_elab_walk.proofs.steps.enter.Goals as goal

pub returns : goal.returns
returns c units files n last =
    let levels : c.args.most ≡ suc (c.args.most - 1) = omega (arith, c.if-most-eq0.false) in
    let same : c.in_ok-clone.field-0.value ≡ c.args.inst.value = search rules in
    entered units files c.args.walked.now c.push.new.self _ c.args.frames.now.items c.push-2.new.self.items _ c.args.inst.value c.args.most
    c.in_ok-push.ensures.ok (ap (λ x. instances.Enter (inst_in x)) same) c.in_ok-push-2.ensures.items levels refl refl refl
    (c.as_slice.ensures.value ∙ ap (λ (x : Inst). x.unit.element.now.items.items) c.deref.ensures) n last
