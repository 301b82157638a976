use Rattle.std.proofs.Common.{subst}
use Rattle.sv_tree.specs.View.{actuals}
use Rattle.sv_names.specs.Checked.{only}
use Rattle.sv_names.specs.Given.{Gives}
use Rattle.sv_names.specs.Named.{Around}
use Rattle.sv_names.specs.Views.{around_in}
use Rattle.sv_elab_task.specs.Tasks.{line, lasting, without_calls}
use Rattle.sv_elab_task.proofs.prints.print_later.Goals as goal

pub returns : goal.returns
returns c =
    let ar = around_in c.args.around.now in
    let a = actuals c.args.actuals.now in
    let form : Gives c.print_line-form.result (line c.args.kind (lasting ar) a) =
    subst (λ (i : Around). Gives c.print_line-form.result (line c.args.kind i a)) c.lasting.ensures c.print_line-form.ensures in
    let whole : Gives c.print_line.result (line c.args.kind (without_calls ar) a) =
    subst (λ (i : Around). Gives c.print_line.result (line c.args.kind i a)) c.without_calls.ensures c.print_line.ensures in
    c.where_also.ensures (line c.args.kind (lasting ar) a) (only (line c.args.kind (without_calls ar) a)) form
    (c.only-whole.ensures (line c.args.kind (without_calls ar) a) whole)
