-- What may come due.
use Rattle.sv_value.specs.declared.schedule.Region.{Region}
use Rattle.sv_value.specs.declared.schedule.Due.{Due}
use Rattle.sv_value.specs.declared.schedule.Due.TheVariants.{Resume, Work}
use Rattle.sv_value.specs.declared.schedule.Event.{Event}
use Rattle.sv_sched.specs.Lists.{HoldsProcesses, HoldsJob}

-- a region may take what is due
abbrev pub HoldsDue : Region → Due → Type 0
HoldsDue g (Resume p) = HoldsProcesses g
HoldsDue g (Work j) = HoldsJob g j

-- a scheduled item comes into a region that may take it
pub record HoldsEvent (e : Event) : Type 0 where
  pub due : HoldsDue e.region e.due
