-- How often paths stand in a list, by their marks (own).
use Rattle.std.specs.Prelude.{◌≡◌, ℕ, ◌+◌, List, Option, Some, None, if◌then◌else◌}
use Rattle.std.specs.Ordering.{nat_cmp}
use Rattle.std.specs.BTreeMap.{BTreeMap, get}
use Rattle.sv_names.specs.Clockings.{times_in}
use Rattle.sv_names.specs.Marks.{with_path}
use Rattle.sv_names.specs.Types.{Path, same_path}
use Rattle.sv_elab_drives.specs.declared.counts.Counted.{Counted}

-- how often a path is counted at its mark
abbrev pub times_at : Path → Option Counted → ℕ
times_at p None = 0
times_at p (Some c) = if same_path p c.net then c.times else 0

-- each path of a list is counted at its mark, or stands among the others
abbrev pub CountsOf : BTreeMap ℕ Counted → List Path → List Path → Type 0
CountsOf counts others ps = (p : Path) → times_at p (get nat_cmp counts (with_path 0 p)) + times_in p others ≡ times_in p ps
