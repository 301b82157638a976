use Rattle.std.proofs.Common.{codes, subst, ap, ◌∙◌}
use Rattle.sv_value.specs.declared.place.Place.{Place}
use Rattle.sv_tree.specs.declared.word.BinaryWord.{BinaryWord}
use Rattle.sv_names.specs.declared.checked.Checked.TheVariants.{Good}
use Rattle.sv_names.specs.Assignments.{place_of_lval, updated}
use Rattle.sv_names.specs.Given.{Gives}
use Rattle.sv_names.specs.Operators.{literal_typed}
use Rattle.sv_names.specs.Views.{around_in}
use Rattle.sv_elab_assign.proofs.updates.step.Goals as goal

pub returns : goal.returns
returns c l place h =
    let ar = around_in c.args.around.now in
    let one = λ (q : Place). Good (literal_typed q (codes "1")) in
    subst (λ (w : BinaryWord). Gives c.update.result (updated ar l w (place_of_lval l) (λ i. one (place_of_lval l)))) c.step_word.ensures
    (subst (λ (q : Place). Gives c.update.result (updated ar l c.step_word.result q (λ i. one (place_of_lval l)))) place
    (c.update.ensures l (λ i. one (place_of_lval l)) place h (c.in_ok-one.ensures.ok (one c.args.at) c.number.ensures ∙ ap one place)))
