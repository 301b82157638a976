use Rattle.std.proofs.Common.{◌∙◌, List, ap}
use Rattle.sv_names.specs.Assignments.{made}
use Rattle.sv_names.specs.Targets.{Spot}
use Rattle.sv_names.specs.Views.{around_in}
use Rattle.sv_elab_variable.proofs.openings.object_opening.Goals as goal

pub returns : goal.returns
returns c = λ other.
    let ar = around_in c.args.around.now in
    c.object_at_opening.ensures ar c.args.at c.args.ty.now c.args.args other
    (c.in_ok-object.ensures.ok (made ar c.args.place c.as_slice.result.now c.args.args c.args.ty.now) c.made.ensures
    ∙ ap (λ (ss : List Spot). made ar c.args.place ss c.args.args c.args.ty.now) (c.as_slice.ensures ∙ c.in_ok-spots.ensures.ok))
