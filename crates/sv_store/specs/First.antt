-- What the objects of a design hold first (IEEE 1800-2017, 6.6.1 and 6.8).
use Rattle.std.specs.Prelude.{◌<◌, ◌^◌, List, map}
use Rattle.sv_value.specs.declared.val.Plain.TheVariants as plain
use Rattle.sv_flat.specs.declared.object.DataType.{DataType}
use Rattle.sv_flat.specs.declared.object.DataType.TheVariants as type
use Rattle.sv_flat.specs.declared.object.Object.{Object}
use Rattle.sv_flat.specs.declared.object.ObjectKind.{ObjectKind}
use Rattle.sv_flat.specs.declared.object.ObjectKind.TheVariants as kind
use Rattle.sv_flat.specs.State.{Store, first_value}
use Rattle.sv_flat.specs.Contexts.{IsWidth}
use Rattle.sv_flat.specs.Eval.{type_width}
use Rattle.sv_flat.specs.Opening.{stored, elements_of}

-- what the objects hold before any initializer runs
abbrev pub first_store : List Object → Store
first_store os = map (λ o. stored o (first_value o.ty)) os

-- a type whose vectors have such a width
abbrev pub HasWidth : DataType → Type 0
HasWidth (type.Plain (plain.Integral t)) = IsWidth t.width
HasWidth t = Unit {0}

-- a net is of such a type
abbrev pub FitsKind : ObjectKind → DataType → Type 0
FitsKind (kind.Net n) t = IsWidth (type_width t)
FitsKind k t = HasWidth t

-- an object that a store can hold: its elements are numbered in 32 bits, and its vectors have a width
pub record IsStorable (o : Object) : Type 0 where
  pub few : elements_of o.array < 2 ^ 32
  pub width : FitsKind o.kind o.ty
