-- What declarations break, one by one.
use Rattle.std.specs.Prelude.{Option, Some, None}
use Rattle.sv_names.specs.declared.checked.Checked.{Checked}
use Rattle.sv_names.specs.declared.named.Formal.{Formal}
use Rattle.sv_names.specs.declared.named.Known.{Known}
use Rattle.sv_names.specs.declared.typed.Typed.{Typed}
use Rattle.sv_names.specs.Checked.{fine, only, ◌where_also◌}
use Rattle.sv_names.specs.Scopes.{name_stands}

-- a default
abbrev pub default_stands : Option (Checked Typed) → Checked (Unit {0})
default_stands None = fine
default_stands (Some d) = only d

-- an argument
abbrev pub formal_stands : Formal → Checked (Unit {0})
formal_stands f = only f.ty where_also default_stands f.default

-- a declaration
abbrev pub known_stands : Known → Checked (Unit {0})
known_stands k = name_stands k.value
