use Rattle.std.proofs.Common.{Option, subst}
use Rattle.sv_names.specs.Connections.{Linked, link_of}
use Rattle.sv_names.specs.Views.{around_in}
use Rattle.sv_elab_drive.specs.Making.{EmitsAny}
use Rattle.sv_elab_unit.specs.Ports.{port_in}
use Rattle.sv_elab_connect.proofs.ports.port_link.Goals as goal

pub returns : goal.returns
returns c inst scope names =
    subst (λ (l : Option Linked). EmitsAny c.args.before.now c.link_of.new.before c.args.routines.now c.link_of.new.routines c.link_of.result
    (link_of (around_in c.args.around.now) inst (port_in c.args.port.now) l))
    (c.in_ok-linked.ensures inst.unit.element names) (c.link_of.ensures inst scope)
