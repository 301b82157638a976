-- Ports as declarations, one after the other.
use Rattle.std.proofs.Common.{◌≡◌, Bool, true, false, List, [], ◌∷◌, ◌++◌, Option, Some, None, map, refl, sym, ap, subst, ◌∙◌, append_assoc, if◌then◌else◌}
use Rattle.std.specs.Prelude.{flat_map}
use Rattle.sv_tree.specs.declared.word.Name.{Name}
use Rattle.sv_tree.specs.declared.word.PortDirection.{PortDirection}
use Rattle.sv_tree.specs.StmtView.{implied}
use Rattle.sv_tree.specs.Types.{ImpliedType}
use Rattle.sv_tree.specs.Units.{Port}
use Rattle.sv_names.specs.Entries as entries
use Rattle.sv_names.specs.Instances.{port_entry, ports_from, is_input_word}
use Rattle.sv_elab_scope.specs.declared.declared.Entry.{Entry}
use Rattle.sv_elab_scope.specs.Views.{entry_in}
use Rattle.sv_elab_declare.specs.Added.{Added}
use Rattle.sv_elab_declare.specs.declared.ports.PortType.{PortType}
use Rattle.sv_elab_declare.specs.Ports.{after_port, port_names, ports_after}
use Rattle.sv_elab_declare.proofs.AddedLaws.{turn_added}

-- a port by its direction
abbrev port_of : Option PortDirection → Bool → ImpliedType → Name → Port
port_of d w t n = record { direction = d; is_net = w; of = t; name = n }

-- a port and those behind it
rest_of_ports : (before t : PortType) (d : Option PortDirection) (w : Bool) (u : ImpliedType) (n : Name) (ps : List Port)
    → after_port before (port_of d w u n) t
    → port_names (port_of d w u n) t ++ ports_after t ps ≡ ports_after before (port_of d w u n ∷ ps)
rest_of_ports before t None w u n ps is =
    ap (λ (x : PortType). port_names (port_of None w u n) x ++ ports_after x ps) is
rest_of_ports before t (Some d) w u n ps is =
    λ i. (entries.items_in_implied u ++ entries.entry n (entries.A_port (is.0 i) (is.1 i) (is.2 i)) ∷ [])
    ++ flat_map port_entry (ports_from (is.0 i) (is.1 i) (is.2 i) ps)

-- a turn appends a port
pub turn_ports : (before t : PortType) (p : Port) (ps : List Port) (es fs : List Entry)
    → Added es fs (port_names p t) → after_port before p t
    → map entry_in fs ++ ports_after t ps ≡ map entry_in es ++ ports_after before (p ∷ ps)
turn_ports before t p ps es fs added is =
    turn_added es fs (port_names p t) (ports_after t ps) added
    ∙ ap (λ l. map entry_in es ++ l) (rest_of_ports before t p.direction p.is_net p.of p.name ps is)
