-- What the calls of a store ask of an object (IEEE 1800-2017, 6.5 and 6.8).
use Rattle.std.specs.Prelude.{◌≡◌, ◌<◌, ℕ, [], length, slice_index_or}
use Rattle.sv_value.specs.declared.number.ObjId.{ObjId}
use Rattle.sv_value.specs.declared.val.Val.{Val}
use Rattle.sv_value.specs.declared.val.Val.TheVariants as val
use Rattle.sv_value.specs.Vector.{Vector}
use Rattle.sv_flat.specs.State.{Store, Stored, Elements, Net}

-- what an object holds; an object that is not there holds nothing
abbrev pub stored_at : Store → ObjId → Stored
stored_at s o = slice_index_or s o.0 (Elements [])

-- the value is a vector
abbrev pub IsBits : Val → Type 0
IsBits (val.Bits v) = Unit {0}
IsBits _ = ⊥

-- a vector of this width
abbrev pub IsWide : ℕ → Vector → Type 0
IsWide width v = length v.symbols ≡ width

-- a variable with an element of this number
abbrev pub HasElement : Stored → ℕ → Type 0
HasElement (Elements vs) i = i < length vs
HasElement (Net width drivers) i = ⊥

-- a net with a driver of this number, which may give a vector of this width
abbrev pub HasDriver : Stored → ℕ → ℕ → Type 0
HasDriver (Elements vs) i w = ⊥
HasDriver (Net width drivers) i w = (i < length drivers) × (w ≡ width)
