-- The names of signals.
use Rattle.std.specs.Prelude.{List, flat_map}
use Rattle.sv_tree.specs.declared.word.Name.{Name}
use Rattle.sv_tree.specs.Units.{ClockingItem}
use Rattle.sv_names.specs.Clockings.{names_in}

-- those of all items
abbrev pub items_names : List ClockingItem → List Name
items_names is = flat_map names_in is
