-- The parts of an opening (IEEE 1800-2017, 4.3, 6.8 and 9.2.2.2).
use Rattle.std.specs.Prelude.{ℕ, ◌+◌, Bool, false, ◌&&◌, List, [], ◌∷◌, None, if◌then◌else◌}
use Rattle.sv_value.specs.declared.number.ObjId.{ObjId}
use Rattle.sv_value.specs.declared.number.ProcessId.{ProcessId}
use Rattle.sv_value.specs.declared.schedule.Side.{Side}
use Rattle.sv_value.specs.declared.schedule.Side.TheVariants.{Active, Reactive}
use Rattle.sv_value.specs.Regions.{Regions, empty_set, same_side, ready_in, front_of}
use Rattle.sv_flat.specs.declared.object.Object.{Object}
use Rattle.sv_flat.specs.declared.process.Process.{Process}
use Rattle.sv_flat.specs.declared.design.Parts.{Parts}
use Rattle.sv_flat.specs.Config.{starts}
use Rattle.sv_flat.specs.State.{Store}
use Rattle.sv_flat.specs.Opening.{initializer_run, first_status, is_ready}
use Rattle.sv_fork.specs.Tree.{Member}
use Rattle.sv_assign.specs.Seen.{world_in}

-- what the initializer of an object makes of a store
abbrev pub store_initialized : Parts → ObjId → Object → Store → Store
store_initialized d n o s = (initializer_run d n o o.initial (world_in s [])).store

-- a process that the design begins with
abbrev pub first_member : Process → Member
first_member f = record { side = f.side; parent = None; over = false; join = None }

-- how many starters there are
abbrev pub starter_count : List Process → ℕ
starter_count [] = 0
starter_count (f ∷ fs) = (if starts f then 1 else 0) + starter_count fs

-- whether a process is ready at the opening: an `always_comb` is where there are no starters
abbrev pub is_first : Bool → Process → Bool
is_first has_starters f = is_ready (first_status has_starters f)

-- the processes of a side that are ready, from a number on
abbrev pub numbers_on : Bool → Side → ℕ → List Process → List ProcessId
numbers_on has_starters s n [] = []
numbers_on has_starters s n (f ∷ fs) =
    if same_side s f.side && is_first has_starters f
    then record { 0 = n } ∷ numbers_on has_starters s (n + 1) fs
    else numbers_on has_starters s (n + 1) fs

-- those processes, each on its side
abbrev pub first_regions : Bool → List Process → Regions
first_regions has_starters fs =
    record {
      active = record empty_set { ready = numbers_on has_starters Active 0 fs };
      reactive = record empty_set { ready = numbers_on has_starters Reactive 0 fs };
    }

-- one process more
abbrev pub first_ready : Bool → Process → ProcessId → Regions → Regions
first_ready has_starters f p r = if is_first has_starters f then ready_in (front_of f.side) p r else r
