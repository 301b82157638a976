use Rattle.std.proofs.Common.{List, Option, sym, subst, ◌∙◌}
use Rattle.sv_tree.specs.View as view
use Rattle.sv_names.specs.declared.checked.Checked.{Checked}
use Rattle.sv_names.specs.Checked.{given}
use Rattle.sv_names.specs.Connections.{output_link, port_thing, port_known}
use Rattle.sv_names.specs.Given.{Fails}
use Rattle.sv_names.specs.Targets.{Spot}
use Rattle.sv_names.specs.Views.{around_in}
use Rattle.sv_elab_drive.specs.Making.{EmitsProcess}
use Rattle.sv_elab_unit.specs.Ports.{port_in}
use Rattle.sv_elab_connect.proofs.ports.output_link.Goals as goal

pub returns-in-None : goal.returns-in-None
returns-in-None c inst scope =
    subst (λ (o : Option (Checked (List Spot))). Fails c.no_target.result
    (output_link (around_in c.args.around.now) inst (port_in c.args.link.port.now) c.args.link.at (view.expr c.args.e.now) o))
    (sym c.in-None.is ∙ c.in_ok-target.ensures.ok) c.no_target.ensures

pub returns-in-Some : goal.returns-in-Some
returns-in-Some c inst scope =
    let ar = around_in c.args.around.now in
    subst (λ (o : Option (Checked (List Spot))). EmitsProcess c.args.before.now c.continuous.new.before c.args.routines.now c.continuous.new.routines
    c.continuous.result (output_link ar inst (port_in c.args.link.port.now) c.args.link.at (view.expr c.args.e.now) o))
    (sym c.in-Some.is ∙ c.in_ok-target.ensures.ok)
    (c.continuous.ensures c.in-Some.target (given (port_thing ar c.args.link.at) (port_known inst (port_in c.args.link.port.now)))
    c.answer-spots.ensures (c.port_value-value.ensures inst scope))
