-- What expressions see of a store and of activations, and what they saw before a change (IEEE 1800-2017, 6.5, 6.21 and 9.4.2).
use Rattle.std.specs.Prelude.{ℕ, Bool, false, ◌&&◌, ◌==◌, if◌then◌else◌, List, Option, None, Some}
use Rattle.sv_value.specs.declared.val.Val.{Val}
use Rattle.sv_flat.specs.State.{Activation, Name, Store, World, View, activation_out, name_in, same_name, variable_of, view_of}
use Rattle.sv_flat.specs.Opening.{empty_world}
use Rattle.sv_store.specs.declared.change.Overwritten.{Overwritten}
use Rattle.sv_store.specs.Overwrites.{object_before}
use Rattle.sv_assign.specs.declared.change.Change as code
use Rattle.sv_assign.specs.declared.change.Change.TheVariants as variants

-- a world of a store and of activations: nothing else was made yet
abbrev pub world_in : Store → List Activation → World
world_in s as' = record empty_world { store = s; activations = as' }

-- what is seen of them from a scope at a time
abbrev pub view_in : Store → List Activation → (now unit : ℕ) → (scope : Option Name) → View
view_in s as' now unit scope = view_of (world_in s as') now unit scope

-- ---- before a change

-- what was changed, with what was there before
pub data Change : Type 0 where
  -- an element of an object, or a driver of a net
  Of_object : Overwritten → Change
  -- the variable at this place of the activation with this name
  Of_variable : Name → ℕ → Val → Change

-- a change, without references
abbrev pub change_in : code.Change → Change
change_in (variants.Object w) = Of_object w.now
change_in (variants.Variable n p x) = Of_variable n p x.now

-- the name of an activation, if there is one, is this one
abbrev pub is_name : Option Name → Name → Bool
is_name None n = false
is_name (Some m) n = same_name m n

-- a variable of an activation, before a variable of the one with this name was written over this old value
abbrev pub variable_before : Name → ℕ → Val → Option Activation → ℕ → Val
variable_before n p x a i = if is_name (name_in a) n && (i == p) then x else variable_of a i

-- what is seen before a change
abbrev pub view_before : Change → Store → List Activation → (now unit : ℕ) → (scope : Option Name) → View
view_before (Of_object w) s as' now unit scope = record (view_in s as' now unit scope) { object = object_before w s }
view_before (Of_variable n p x) s as' now unit scope =
    record (view_in s as' now unit scope) { variable = λ up i. variable_before n p x (activation_out as' up scope) i }
