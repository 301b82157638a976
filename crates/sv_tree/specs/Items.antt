-- The items of modules and programs, and those outside both, as they are written (IEEE 1800-2017, A.1.4 and A.1.7).
use Rattle.std.specs.Prelude.{List, Option}
use Rattle.sv_value.specs.declared.place.Place.{Place}
use Rattle.sv_tree.specs.declared.word.Life.{Life}
use Rattle.sv_tree.specs.declared.word.Name.{Name}
use Rattle.sv_tree.specs.Stmt as stmts
use Rattle.sv_tree.specs.Units as units
use Rattle.sv_tree.specs.Classes as classes

-- an item
pub data Item : Type 0 where
  Net : units.NetDecl → Item
  Assign : List units.AssignItem → Item
  Instances : units.Instances → Item
  Procedure : units.Procedure → Item
  Decl : stmts.Decl → Item
  Typedef : units.Typedef → Item
  Announce : Name → Item
  Class : classes.Class → Item
  Param : units.Param → Item
  Routine : units.Routine → Item
  Clocking : units.ClockingBlock → Item
  DefaultClocking : (at : Place) → Name → Item
  Null : Item

-- a design element, from its word to its end
pub record DesignElement : Type 0 where
  pub at : Place
  pub life : Life
  pub name : Name
  pub params : Option (List units.Param)
  pub ports : List units.Port
  pub items : List Item
  pub label : Option Name
