-- What the arguments of a subroutine break (IEEE 1800-2017, 13.5).
use Rattle.std.specs.Prelude.{Option, Some, None}
use Rattle.sv_names.specs.declared.checked.Checked.{Checked}
use Rattle.sv_names.specs.declared.named.Formal.{Formal}
use Rattle.sv_names.specs.declared.typed.Typed.{Typed}
use Rattle.sv_names.specs.Checked.{only, fine, ◌where_also◌}

-- what a default breaks
abbrev pub default_stands : Option (Checked Typed) → Checked (Unit {0})
default_stands None = fine
default_stands (Some d) = only d

-- what an argument breaks
abbrev pub formal_stands : Formal → Checked (Unit {0})
formal_stands f = only f.ty where_also default_stands f.default
