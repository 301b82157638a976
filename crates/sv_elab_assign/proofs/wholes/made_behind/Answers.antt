use Rattle.std.proofs.Common.{◌≡◌, List, subst, ap, ◌∙◌}
use Rattle.sv_names.specs.Assignments.{not_late}
use Rattle.sv_names.specs.Given.{Gives}
use Rattle.sv_names.specs.Named.{Around}
use Rattle.sv_names.specs.Targets.{Spot}
use Rattle.sv_names.specs.Views.{around_in}
use Rattle.sv_elab_assign.specs.Amounts.{amount_if}
use Rattle.sv_elab_assign.specs.Places.{behind_parts}
use Rattle.sv_elab_assign.specs.Wholes.{made_for}
use Rattle.sv_elab_assign.proofs.wholes.made_behind.Goals as goal

pub returns : goal.returns
returns c =
    let ar = around_in c.args.around.now in
    let d = amount_if c.args.amount in
    let ss = c.args.spots in
    let inner : around_in c.behind_parts-inner.result ≡ behind_parts ar ss d =
    c.behind_parts-inner.ensures ∙ ap (λ (qs : List Spot). behind_parts ar qs d) c.as_slice.ensures in
    let form : Gives c.made_for.result (made_for (behind_parts ar ss d) d c.args.at ss c.args.made) =
    subst (λ (r : Around). Gives c.made_for.result (made_for r d c.args.at ss c.args.made)) inner c.made_for.ensures in
    let late : Gives c.not_late-late.result (not_late d ss) =
    subst (λ (qs : List Spot). Gives c.not_late-late.result (not_late d qs)) c.as_slice-2.ensures c.not_late-late.ensures in
    c.where_also.ensures (made_for (behind_parts ar ss d) d c.args.at ss c.args.made) (not_late d ss) form late
