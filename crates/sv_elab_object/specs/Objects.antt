-- The objects of static variables, in steps.
use Rattle.std.specs.Prelude.{Bool, Option, None, if◌then◌else◌}
use Rattle.sv_flat.specs.declared.object.Bounds.{Bounds}

-- bounds, where they are written
abbrev pub written : Option Bounds → Bool → Option Bounds
written b w = if w then b else None
