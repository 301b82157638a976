use Rattle.std.proofs.Common.{[], ◌∷◌}
use Rattle.sv_tree.specs.View as view
use Rattle.sv_names.specs.Checked.{given}
use Rattle.sv_names.specs.Connections.{port_thing, port_known}
use Rattle.sv_names.specs.Expressions.{expr}
use Rattle.sv_names.specs.Views.{around_in}
use Rattle.sv_elab_unit.specs.Ports.{port_in}
use Rattle.sv_elab_connect.proofs.ports.input_link.Goals as goal

pub returns : goal.returns
returns c inst scope =
    let ar = around_in c.args.around.now in
    c.continuous.ensures
    (given (λ n. (c.args.link.at, port_thing ar c.args.link.at n) ∷ []) (port_known inst (port_in c.args.link.port.now)))
    (expr ar (view.expr c.args.e.now)) (c.port_target-target.ensures inst scope) c.expr-value.ensures
