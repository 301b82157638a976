-- Among which processes all living ones are found (own).
use Rattle.std.specs.Prelude.{◌≡◌, Bool, true, not, List, filter}
use Rattle.sv_value.specs.declared.number.ProcessId.{ProcessId}
use Rattle.sv_flat.specs.Config.{numbered_from}
use Rattle.sv_fork.specs.Tree.{Member, is_over_in}

-- a list of processes, and whether it tells of all living ones
pub record Living : Type 0 where
  pub listed : List ProcessId
  pub complete : Bool

-- those of some processes that are not over
abbrev pub left_of : List Member → List ProcessId → List ProcessId
left_of ms ps = filter (λ p. not (is_over_in ms p)) ps

-- all processes by number, but for some that are over
pub record ListsLiving (ms : List Member) (ps : List ProcessId) : Type 0 where
  pub left : left_of ms ps ≡ left_of ms (numbered_from 0 ms)

-- all living processes are listed, where the list tells of all
pub record HasLiving (ms : List Member) (l : Living) : Type 0 where
  pub lists : l.complete ≡ true → ListsLiving ms l.listed

-- who is over in one list is over in another one
pub record OverLess (us ms : List Member) : Type 0 where
  pub each : (c : ProcessId) → is_over_in us c ≡ true → is_over_in ms c ≡ true
