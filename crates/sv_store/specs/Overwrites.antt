-- What a write overwrote (IEEE 1800-2017, 4.3 and 9.4.2): from it and the values that stand now, those that stood before.
use Rattle.std.specs.Prelude.{◌≡◌, ℕ, ◌==◌, if◌then◌else◌, slice_index_or}
use Rattle.sv_value.specs.declared.number.ObjId.{ObjId}
use Rattle.sv_value.specs.declared.val.Val.{Val}
use Rattle.sv_flat.specs.State.{Store, Stored, Elements, Net, element_of, no_value, value_at}
use Rattle.sv_store.specs.declared.change.Overwritten.{Overwritten}
use Rattle.sv_store.specs.Objects.{stored_at}

-- what an element of an object held before its element i, or a driver, was written over this old value
abbrev pub held_before : Stored → ℕ → Val → ℕ → Val
held_before (Elements vs) i old j = if j == i then old else slice_index_or vs j no_value
held_before (Net width drivers) i old j = old

-- the value of an element of the object that was overwritten, before the write
abbrev pub value_before : Overwritten → Store → ℕ → Val
value_before w s j = held_before (stored_at s w.object) w.element w.old j

-- the value of an element of any object, before the write
abbrev pub object_before : Overwritten → Store → ObjId → ℕ → Val
object_before w s o j = if o.0 == w.object.0 then value_before w s j else value_at s o j

-- every element is as it was
abbrev pub IsSame : (old new : Stored) → Type 0
IsSame old new = (j : ℕ) → element_of new j ≡ element_of old j

-- the elements that were are told by this old value of the one that was written
abbrev pub IsOver : (old new : Stored) → ℕ → Val → Type 0
IsOver old new i v = (j : ℕ) → element_of old j ≡ held_before new i v j
