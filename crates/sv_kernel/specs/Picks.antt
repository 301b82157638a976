-- Which side acts, and what the lists of choices pick there (IEEE 1800-2017, 4.7).
use Rattle.std.specs.Prelude.{ℕ, ◌≡◌, false, not, ◌&&◌, ◌+◌, nat_lt, is_none, if◌then◌else◌}
use Rattle.sv_value.specs.declared.schedule.Side.{Side}
use Rattle.sv_value.specs.declared.schedule.Side.TheVariants.{Active, Reactive}
use Rattle.sv_value.specs.Regions.{Set, set_of, is_bare, pickable, job_count}
use Rattle.sv_flat.specs.declared.choices.Choices.{Choices}
use Rattle.sv_flat.specs.declared.design.Parts.{Parts}
use Rattle.sv_flat.specs.Config.{Config}
use Rattle.sv_flat.specs.Steps.{other, after, effect, front, acting}
use Rattle.sv_flat.specs.Directed.{place_among, kind_at, place_on, kind_in_slot}
use Rattle.sv_machine.specs.declared.machine.Machine.{Machine}

-- the side whose set acts
abbrev pub acting_side : Machine → Side
acting_side m =
    if is_bare (set_of m.executed m.regions) && not (is_bare (set_of (other m.executed) m.regions)) && is_none m.running
    then other m.executed else m.executed

-- the regions of that side
abbrev pub acting_set : Machine → Set
acting_set m = set_of (acting_side m) m.regions

-- a region of the side moves into the front: nothing is to be picked, and the side is not bare
pub record IsMoving (s : Set) : Type 0 where
  pub none_open : pickable s ≡ 0
  pub some_left : is_bare s ≡ false

-- the list of choices of a side
abbrev pub choices_of : Side → Choices → Choices → Choices
choices_of Active a r = a
choices_of Reactive a r = r

-- how many numbers of the list of a side were used
abbrev pub used_in : Side → Machine → ℕ
used_in Active m = m.used_active
used_in Reactive m = m.used_reactive

-- so many more numbers of that list are used
abbrev pub with_used : Side → ℕ → Machine → Machine
with_used Active n m = record m { used_active = m.used_active + n }
with_used Reactive n m = record m { used_reactive = m.used_reactive + n }

-- how many numbers a pick among so many uses
abbrev pub numbers_for : ℕ → ℕ
numbers_for count = if nat_lt count 2 then 0 else 1

-- the place that the list of a side picks
abbrev pub place_for : Side → Choices → Choices → Machine → ℕ → ℕ
place_for s a r m count = place_among (choices_of s a r) (used_in s m) count

-- the pick of the lists
abbrev pub picked : Parts → Choices → Choices → Config → Config
picked d a r c = after d c (kind_at (job_count (front c)) (place_on (acting c) a r c))

-- a step of a slot in which no process runs
abbrev pub idled : Parts → Choices → Choices → Config → Config
idled d a r c = after d c (kind_in_slot a r c)

-- what is at a place of the front is taken, before the step is counted
abbrev pub taken_from : Parts → ℕ → Config → Config
taken_from d place c = effect d c (kind_at (job_count (front c)) place)

-- the numbers that were used are still the same
pub record SameNumbers (m n : Machine) : Type 0 where
  pub active : n.used_active ≡ m.used_active
  pub reactive : n.used_reactive ≡ m.used_reactive
