-- What a clocking block breaks, in parts (IEEE 1800-2017, 14.3).
use Rattle.std.specs.Prelude.{List, [], Some}
use Rattle.sv_flat.specs.declared.clocking.Clocking.{Clocking}
use Rattle.sv_flat.specs.declared.clocking.Signal.{Signal}
use Rattle.sv_tree.specs.Units.{ClockingItem, ClockingBlock}
use Rattle.sv_names.specs.declared.checked.Checked.{Checked}
use Rattle.sv_names.specs.Blocks.{end_label}
use Rattle.sv_names.specs.Checked.{both, ◌▷◌, ◌where_also◌, only}
use Rattle.sv_names.specs.Clockings.{MadeSignal, defaults, usual_skews, signals_of, signals_differ, side_of}
use Rattle.sv_names.specs.Events.{edge_of}
use Rattle.sv_names.specs.Named.{Around}
use Rattle.sv_names.specs.Types.{Path}
use Rattle.sv_elab_clocking.specs.Names.{items_names}

-- the signals, with the skews that the block makes usual
abbrev pub signals_usual : Around → Path → List ClockingItem → Checked (List MadeSignal)
signals_usual ar p is =
    (defaults ar usual_skews is ▷ (λ k. signals_of ar p k is)) where_also only (signals_of ar p usual_skews is)

-- E46, E5: a signal stands twice, or the end label is another name
abbrev pub names_stand : ClockingBlock → Checked (Unit {0})
names_stand b = signals_differ [] (items_names b.items) where_also end_label (Some b.name) b.label

-- an event and signals, where names break nothing
abbrev pub whole : Checked Path → Checked (List MadeSignal) → Checked (Unit {0}) → Checked (Path × List MadeSignal)
whole p x y = both p x where_also y

-- a block over its event and its signals
abbrev pub block_over : Around → ClockingBlock → Path → List Signal → Clocking
block_over ar b event ss =
    record {
      at = b.name.at;
      side = side_of ar.is_program;
      event = ar.numbers.object event;
      event_at = b.event.at;
      edge = edge_of b.edge;
      signals = ss;
    }
