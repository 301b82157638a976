-- Classes as they are written (IEEE 1800-2017, A.1.2 and A.1.9).
use Rattle.std.specs.Prelude.{Bool, List, Option}
use Rattle.sv_value.specs.declared.place.Place.{Place}
use Rattle.sv_tree.specs.declared.word.Name.{Name}
use Rattle.sv_tree.specs.Units as units

-- an item of a class
pub data ClassItem : Type 0 where
  Property : units.Property → ClassItem
  Method : units.Method → ClassItem
  Pure : units.PureMethod → ClassItem
  Typedef : units.Typedef → ClassItem
  Announce : Name → ClassItem
  Null : ClassItem

-- a class
pub record Class : Type 0 where
  pub at : Place
  pub is_virtual : Bool
  pub name : Name
  pub base : Option Name
  pub items : List ClassItem
  pub label : Option Name
