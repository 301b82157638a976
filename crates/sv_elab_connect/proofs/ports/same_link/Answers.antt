use Rattle.std.proofs.Common.{subst}
use Rattle.sv_tree.specs.Expr as tree
use Rattle.sv_names.specs.Connections.{link}
use Rattle.sv_names.specs.Views.{around_in}
use Rattle.sv_elab_drive.specs.Making.{EmitsProcess}
use Rattle.sv_elab_unit.specs.Ports.{port_in}
use Rattle.sv_elab_connect.proofs.ports.same_link.Goals as goal

pub returns : goal.returns
returns c inst scope =
    subst (λ (e : tree.Expr). EmitsProcess c.args.before.now c.link_to.new.before c.args.routines.now c.link_to.new.routines c.link_to.result
    (link (around_in c.args.around.now) inst (port_in c.args.link.port.now) c.args.link.at e))
    c.in_ok-e.ensures (c.link_to.ensures inst scope)
