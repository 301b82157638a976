-- A variable that is given its first value (IEEE 1800-2017, 6.21).
use Rattle.std.specs.Prelude.{List, [], ◌∷◌, Option, Some, None, if◌then◌else◌}
use Rattle.sv_value.specs.declared.place.Place.{Place}
use Rattle.sv_names.specs.declared.checked.Checked.{Checked}
use Rattle.sv_names.specs.declared.checked.Checked.TheVariants.{Good}
use Rattle.sv_names.specs.declared.typed.Typed.{Typed}
use Rattle.sv_names.specs.Checked.{broken_at}
use Rattle.sv_names.specs.Targets.{Spot}
use Rattle.sv_names.specs.Types.{is_fixed}

-- E42: no fixed array is given one
abbrev pub initialized : Place → Typed → Checked (List Spot)
initialized at t = if is_fixed t.ty then broken_at 42 at else Good ((at, t) ∷ [])

-- E7: what is no variable
abbrev pub spot_of : Place → Option Typed → Checked (List Spot)
spot_of at None = broken_at 7 at
spot_of at (Some t) = initialized at t
