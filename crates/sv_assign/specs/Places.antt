-- Places as the code keeps them, and answers against the definition (IEEE 1800-2017, 10.4 and 11.5).
use Rattle.std.specs.Prelude.{◌≡◌, List, map, Result, Ok, Err}
use Rattle.sv_value.specs.declared.place.FaultKind.{FaultKind}
use Rattle.sv_flat.specs.Process.{Spot, Cell, Variable_of, Nowhere}
use Rattle.sv_flat.specs.Targets.{Placed}
use Rattle.sv_eval.specs.declared.stopped.Stopped.{Stopped}
use Rattle.sv_eval.specs.declared.stopped.Stopped.TheVariants.{Memory, Fault}
use Rattle.sv_assign.specs.declared.spot.Spot.{Spot as Own_spot}
use Rattle.sv_assign.specs.declared.spot.Spot.TheVariants as spot
use Rattle.sv_assign.specs.declared.spot.Whole.{Whole}
use Rattle.sv_assign.specs.declared.spot.Whole.TheVariants as whole

-- this fault is met, or memory ran out
abbrev pub Stops : {B : Type 0} → Stopped → Result B FaultKind → Type 0
Stops (Fault k) r = r ≡ Err k
Stops Memory r = Unit {0}

-- an answer that is seen like this is the defined one, or memory ran out
abbrev pub Answers : {A B : Type 0} → (A → B) → Result A Stopped → Result B FaultKind → Type 0
Answers view (Ok x) r = r ≡ Ok (view x)
Answers view (Err e) r = Stops e r

-- the place that is written
abbrev pub spot_in : Own_spot → Spot
spot_in (spot.Cell t) = Cell t.object t.element t.part
spot_in (spot.Variable n i r) = Variable_of n i r
spot_in spot.Nowhere = Nowhere

-- the places that are written
abbrev pub spots_in : List Own_spot → List Spot
spots_in ss = map spot_in ss

-- a place before its part
abbrev pub placed_in : Whole → Placed
placed_in (whole.Cell o i) r = Cell o i r
placed_in (whole.Variable n i) r = Variable_of n i r
placed_in whole.Nowhere r = Nowhere
