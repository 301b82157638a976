-- Targets that drive nets.
use Rattle.std.specs.Prelude.{ℕ, List, [], ◌∷◌, Option, Some, None, if◌then◌else◌}
use Rattle.sv_flat.specs.declared.target.Base.{Base}
use Rattle.sv_names.specs.declared.typed.Target.{Target}
use Rattle.sv_names.specs.declared.typed.Typed.{Typed}
use Rattle.sv_names.specs.Clockings.{times_in}
use Rattle.sv_names.specs.Connections.{net_driven, nets_driven, as_driver}
use Rattle.sv_names.specs.Targets.{Spot}
use Rattle.sv_names.specs.Types.{Path, is_container}

-- a path that may be left out, as a list
abbrev pub paths_of : Option Path → List Path
paths_of None = []
paths_of (Some p) = p ∷ []

-- the nets that a process drives which writes this target
abbrev pub nets_of : List Spot → List Path
nets_of (s ∷ []) = if is_container s.1.ty then [] else nets_driven [] (s ∷ [])
nets_of ss = nets_driven [] ss

-- what is written to, by its driver where it is a net
abbrev pub driven_base : List Path → List Path → Base → Base
driven_base before [] b = b
driven_base before (p ∷ ps) b = as_driver (times_in p before) b

-- a target that is the driver of this number
abbrev pub as_numbered : ℕ → Target → Target
as_numbered k t = record t { base = as_driver k t.base }

-- the same expression, which writes to this
abbrev pub with_base : Base → Typed → Typed
with_base b t = record t { target = record t.target { base = b } }

-- a part of a target, which drives its net behind these drivers
abbrev pub driving : List Path → Spot → Spot
driving before s = (s.0, with_base (driven_base before (net_driven s) s.1.target.base) s.1)
