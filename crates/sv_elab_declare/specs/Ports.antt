-- Ports, each behind the one before.
use Rattle.std.specs.Prelude.{◌≡◌, Bool, List, [], ◌∷◌, ◌++◌, Option, Some, None, if◌then◌else◌, flat_map, is_some}
use Rattle.sv_tree.specs.declared.word.PortDirection.{PortDirection}
use Rattle.sv_tree.specs.StmtView.{implied}
use Rattle.sv_tree.specs.Units.{Port}
use Rattle.sv_names.specs.Entries as entries
use Rattle.sv_names.specs.Instances.{port_entry, ports_from, is_input_word}
use Rattle.sv_elab_declare.specs.declared.ports.PortType.{PortType}

-- what a port takes from its own direction, or from the port before
abbrev pub after_port : PortType → Port → PortType → Type 0
after_port before p t = of_direction p.direction
  where
    of_direction : Option PortDirection → Type 0
    of_direction None = t ≡ before
    of_direction (Some d) = (t.is_input ≡ is_input_word d) × (t.is_wire ≡ p.is_net) × (implied t.ty.now ≡ p.of)

-- a port that is this, and the items in the type that is written for it
abbrev pub port_names : Port → PortType → List entries.Entry
port_names p t =
    (if is_some p.direction then entries.items_in_implied p.of else [])
    ++ entries.entry p.name (entries.A_port t.is_input t.is_wire (implied t.ty.now)) ∷ []

-- the ports behind one that is this
abbrev pub ports_after : PortType → List Port → List entries.Entry
ports_after t ps = flat_map port_entry (ports_from t.is_input t.is_wire (implied t.ty.now) ps)
