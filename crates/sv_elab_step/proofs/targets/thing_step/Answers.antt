use Rattle.std.proofs.Common.{◌≡◌, List, Option, IfOk, subst, ap, ◌∙◌}
use Rattle.sv_names.specs.declared.checked.Checked.{Checked}
use Rattle.sv_names.specs.declared.checked.Checked.TheVariants.{Good}
use Rattle.sv_names.specs.declared.checked.Fault.{Fault}
use Rattle.sv_names.specs.declared.typed.Typed.{Typed}
use Rattle.sv_names.specs.Expressions.{as_target, or_before}
use Rattle.sv_names.specs.Targets.{Spot}
use Rattle.sv_names.specs.Views.{around_in}
use Rattle.sv_elab_name.specs.Things.{thing_in}
use Rattle.sv_elab_step.specs.Before.{or_else, spot_step}
use Rattle.sv_elab_step.proofs.BeforeLaws.{target_is}
use Rattle.sv_elab_step.proofs.targets.thing_step.Goals as goal

pub returns-clause-ok : goal.returns-clause-ok
returns-clause-ok c =
    let ar = around_in c.args.around.now in
    let h = c.args.how in
    let at = c.args.place in
    let th = thing_in c.args.thing in
    let before = c.args.before.now in
    let whole = as_target ar (Good th) in
    subst (λ (w : Checked (List Spot)). IfOk c.spot_step.result (λ s. s ≡ w))
    (ap (λ (t : Option Typed). spot_step h at c.no_target-no_target.result t before) c.in_ok-target.ensures.ok
    ∙ ap (λ (f : Fault). spot_step h at f whole before) c.no_target-no_target.ensures
    ∙ ap (λ (s : Checked (List Spot)). or_before h at s (λ _. or_else before whole)) (target_is ar h at th))
    c.spot_step.ensures.ok
