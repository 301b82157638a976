-- The items of an enum whose type is not known yet (IEEE 1800-2017, 6.19).
use Rattle.std.specs.Prelude.{List, map, Option, Some, None, false, ℕ}
use Rattle.sv_flat.specs.declared.object.Bounds.{Bounds}
use Rattle.sv_tree.specs.Types.{EnumItem}
use Rattle.sv_names.specs.declared.named.Known.{Known}
use Rattle.sv_names.specs.declared.named.Kind.TheVariants.{Parameter as Of_parameter}
use Rattle.sv_names.specs.declared.scope.Scope.{Scope}
use Rattle.sv_names.specs.Checked.{broken_at}
use Rattle.sv_names.specs.Named.{nowhere_yet}
use Rattle.sv_names.specs.Types.{Path, whole}

-- an item that has no value yet
abbrev pub waiting_item : EnumItem → Known
waiting_item i = record { name = i.name; kind = Of_parameter; value = broken_at 7 nowhere_yet }

-- those of an enum
abbrev pub waiting_items : List EnumItem → List Known
waiting_items is = map waiting_item is

-- the scope that has them
abbrev pub waiting_scope : Path → List EnumItem → Scope
waiting_scope p is = record { path = p; class = None; enters = false; known = waiting_items is }

-- the bounds by which the bits of an enum are selected
abbrev pub bounds_or_whole : Option Bounds → ℕ → Option Bounds
bounds_or_whole None w = whole w
bounds_or_whole (Some b) w = Some b
