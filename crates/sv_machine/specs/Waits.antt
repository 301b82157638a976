-- What processes wait for a change of (IEEE 1800-2017, 9.4.2 and 9.4.3).
use Rattle.std.specs.Prelude.{List, Option, None, Some}
use Rattle.sv_flat.specs.declared.process.Watch.{Watch}
use Rattle.sv_flat.specs.declared.design.Parts.{Parts}
use Rattle.sv_flat.specs.State.{Name}
use Rattle.sv_flat.specs.Process.{Status, Waiting, Watches, ProcessState}
use Rattle.sv_built.specs.Waits.{watches_at}
use Rattle.sv_sense.specs.declared.waiter.Waiter.{Waiter}

-- event expressions of which one must fire, and the scope in which they are seen
pub record Awaited : Type 0 where
  pub watches : List Watch
  pub scope : Option Name

-- what a status waits for, where it is a change
abbrev pub awaited : Status → Option Awaited
awaited (Waiting (Watches ws scope)) = Some (record { watches = ws; scope = scope })
awaited s = None

-- what a process waits for
abbrev pub awaited_by : ProcessState → Option Awaited
awaited_by q = awaited q.latest

-- what the code keeps of it
abbrev pub awaited_at : Parts → Option Waiter → Option Awaited
awaited_at d None = None
awaited_at d (Some w) = Some (record { watches = watches_at d w.wait; scope = w.scope })
