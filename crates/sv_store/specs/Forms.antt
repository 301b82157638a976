-- How what an object holds is kept.
use Rattle.std.specs.Prelude.{◌≡◌, ◌≤◌, ℕ, List}
use Rattle.std.specs.List.{AllByRecursion}
use Rattle.sv_value.specs.Vector.{Vector, widest}
use Rattle.sv_flat.specs.State.{Stored, Elements, Net, net_value}
use Rattle.sv_store.specs.declared.slot.Form.{Form}
use Rattle.sv_store.specs.declared.slot.Form.TheVariants as form
use Rattle.sv_store.specs.Objects.{IsWide}

-- what is held
abbrev pub stored_in : Form → Stored
stored_in (form.Elements vs) = Elements vs.items
stored_in (form.Net width drivers value) = Net width drivers.items

-- the value that is kept beside the drivers of a net is theirs
pub record IsResolved (width : ℕ) (drivers : List Vector) (value : Vector) : Type 0 where
  pub at_least_one : 1 ≤ width
  pub fits : width ≤ widest
  pub each_wide : AllByRecursion (IsWide width) drivers
  pub resolved : value ≡ net_value width drivers

-- the same of a net; of a variable nothing
abbrev pub IsKept : Form → Type 0
IsKept (form.Elements vs) = Unit {0}
IsKept (form.Net width drivers value) = IsResolved width drivers.items value
