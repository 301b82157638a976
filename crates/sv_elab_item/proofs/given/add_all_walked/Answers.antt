-- One step after another.
use Rattle.std.proofs.Common.{List, map, refl, sym, subst}
use Rattle.sv_tree.specs.UnitView.{description}
use Rattle.sv_names.specs.declared.checked.Checked.{Checked}
use Rattle.sv_names.specs.Items.{GivenParts, walked_parts}
use Rattle.sv_names.specs.Joined.{joined}
use Rattle.sv_names.specs.Views.{around_in}
use Rattle.sv_elab_parts.specs.Adding.{AddingAll, behind}
use Rattle.sv_elab_walk.specs.Insts.{walked_in}
use Rattle.sv_elab_item.specs.Given.{walked_given}
use Rattle.sv_elab_plain.proofs.EachLaws.{values_all}
use Rattle.sv_elab_item.proofs.GivenListLaws.{steps_next}
use Rattle.sv_elab_item.proofs.given.add_all_walked.Goals as goal

pub loop-step-init : goal.loop-step-init
loop-step-init c = λ start b adding. (b, adding, refl)

pub loop-step-preserved : goal.loop-step-preserved
loop-step-preserved c = λ start b adding.
    let us = map description c.args.units.now in
    let ar = around_in c.args.files.now in
    let kept = c.loop-step.invariant start b adding in
    let next = walked_parts us ar (walked_in c.step-item.result) in (
      behind kept.0 next,
      c.and_adding-done.ensures start c.loop-step.so_far c.add_walked-next.new.so_far kept.0 next kept.1 c.add_walked-next.ensures,
      steps_next (walked_parts us ar) walked_in c.args.all.now c.loop-step.step-index c.step-item.result kept.0
          (joined b (walked_given us ar (map walked_in c.args.all.now))) c.loop-step-test.true (sym c.step-item.is) kept.2,
    )

pub returns : goal.returns
returns c = λ start b adding.
    let us = map description c.args.units.now in
    let ar = around_in c.args.files.now in
    let kept = c.loop-step.invariant start b adding in
    subst (λ (w : Checked (List GivenParts)). AddingAll start c.loop-step.so_far c.loop-step.done w)
    (values_all (walked_parts us ar) walked_in c.args.all.now c.loop-step.step-index kept.0
    (joined b (walked_given us ar (map walked_in c.args.all.now))) c.loop-step-test.false kept.2)
    kept.1
