-- The table of the subroutines by their paths (own).
use Rattle.std.specs.Prelude.{List, map}
use Rattle.sv_names.specs.Types.{Path}
use Rattle.sv_elab_writers.specs.declared.rows.Row.{Row}

-- the paths of the subroutines
abbrev pub paths_of : List Row → List Path
paths_of rs = map (λ r. r.path.now) rs
