-- Ports as the code has them.
use Rattle.sv_tree.specs.StmtView.{implied}
use Rattle.sv_names.specs.Instances as instances
use Rattle.sv_elab_unit.specs.declared.ports.PortInfo.{PortInfo}

-- a port with what it takes from those before
abbrev pub port_in : PortInfo → instances.PortInfo
port_in p =
    record { name = p.name.now; is_input = p.is_input; is_wire = p.is_wire; type = implied p.ty.now; has_type = p.has_type }
