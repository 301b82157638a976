-- An item that is met.
use Rattle.std.proofs.Common.{rules, ◌≡◌, map, length, refl, ap, ◌∙◌, arith}
use Rattle.sv_tree.specs.UnitView.{description, item}
use Rattle.sv_names.specs.Instances.{Meet}
use Rattle.sv_elab_walk.specs.Insts.{inst_in}
use Rattle.sv_elab_walk.specs.Frames.{turns}
use Rattle.sv_elab_walk.specs.declared.instance.Inst.{Inst}
use Rattle.sv_elab_walk.proofs.FrameLaws.{item_met, turns_last}
use Rattle.sv_elab_walk.proofs.steps.meet_item.Goals as goal

pub returns-clause-met : goal.returns-clause-met
returns-clause-met c files n last =
    let same : c.in_ok-clone.field-0.value ≡ c.args.frame.of.value = search rules in
    item_met (map description c.args.units.now) files c.args.walked.now c.push.new.self _ c.args.frames.now.items c.push-2.new.self.items
    c.args.frame _ c.deref.result.now c.args.one.now c.args.rest.now c.in_ok-push.ensures.ok
    (ap (λ (x : Inst). Meet (inst_in x) c.args.frame.before (item c.args.one.now)) same) c.in_ok-push-2.ensures.items c.requires.none
    c.requires.first refl refl refl c.in_ok-after.ensures c.deref.ensures c.instances_of-next.ensures n last

pub returns-clause-fewer : goal.returns-clause-fewer
returns-clause-fewer c =
    let more = ap turns c.in_ok-push-2.ensures.items ∙ turns_last c.args.frames.now.items _ in
    let items = ap length c.requires.first in
    omega (arith, more, items)
