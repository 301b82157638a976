use Rattle.std.proofs.Common.{List, refl, subst, ap, ◌∙◌}
use Rattle.sv_flat.specs.declared.stmt.Form.{Form}
use Rattle.sv_names.specs.declared.checked.Checked.{Checked}
use Rattle.sv_names.specs.declared.checked.Checked.TheVariants.{Good}
use Rattle.sv_names.specs.declared.hoisted.Hoisted.{Hoisted}
use Rattle.sv_names.specs.Given.{Gives}
use Rattle.sv_names.specs.Targets.{Spot, lvalues, type_of_target}
use Rattle.sv_names.specs.Views.{around_in}
use Rattle.sv_elab_assign.proofs.WholeLaws.{operated_is}
use Rattle.sv_elab_assign.proofs.updates.read_and_written.Goals as goal

pub returns-in-Ok : goal.returns-in-Ok
returns-in-Ok c =
    let ar = around_in c.args.around.now in
    let read = c.in_ok-read.read in
    subst (λ (x : Checked (Hoisted Form)). Gives c.written_back.result x)
    (operated_is ar c.args.left c.args.right c.args.word c.args.spots c.args.value read c.in-Ok.t c.in_ok-to.to c.in_ok-targets.targets
    (c.in_ok-to.ensures.ok ∙ ap type_of_target c.as_slice.ensures)
    (c.in_ok-targets.ensures.ok ∙ ap (λ (ss : List Spot). (lvalues ar ss).value) c.as_slice-2.ensures)
    c.in_ok-read.ensures.ok
    (c.in-Ok.ensures ar (Good read) c.args.value refl refl c.answer-operand.ensures))
    c.written_back.ensures
