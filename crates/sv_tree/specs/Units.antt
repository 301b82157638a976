-- What the items of modules, programs and classes consist of, as it is written (IEEE 1800-2017, A.1 to A.2 and A.6.11).
use Rattle.std.specs.Prelude.{Bool, List, Option}
use Rattle.sv_value.specs.declared.place.Place.{Place}
use Rattle.sv_tree.specs.declared.word.Name.{Name}
use Rattle.sv_tree.specs.declared.word.Life.{Life}
use Rattle.sv_tree.specs.declared.word.Sign.{Sign}
use Rattle.sv_tree.specs.declared.word.ParamWord.{ParamWord}
use Rattle.sv_tree.specs.declared.word.PortDirection.{PortDirection}
use Rattle.sv_tree.specs.declared.word.Direction.{Direction}
use Rattle.sv_tree.specs.declared.word.EdgeWord.{EdgeWord}
use Rattle.sv_tree.specs.declared.word.ProcedureWord.{ProcedureWord}
use Rattle.sv_tree.specs.declared.class.Qualifiers.{Qualifiers}
use Rattle.sv_tree.specs.Expr.{Expr, Lval}
use Rattle.sv_tree.specs.Types.{WrittenType, ImpliedType, Range}
use Rattle.sv_tree.specs.Stmt.{Decl, Stmt, Stmts}

-- ---- parameters, ports, connections

-- a parameter and its value
pub record ParamItem : Type 0 where
  pub name : Name
  pub value : Expr

-- parameters of one type
pub record Param : Type 0 where
  pub word : ParamWord
  pub of : ImpliedType
  pub names : List ParamItem

-- a port
pub record Port : Type 0 where
  pub direction : Option PortDirection
  pub is_net : Bool
  pub of : ImpliedType
  pub name : Name

-- a connection of a port, or a value of a parameter
pub data Connection : Type 0 where
  Value : Expr → Connection
  Named : (at : Place) → Name → Connection
  Given : (at : Place) → (name : Name) → (value : Option Expr) → Connection
  All : (at : Place) → Connection

-- an instance
pub record Instance : Type 0 where
  pub name : Name
  pub connections : List Connection

-- instances of one module or program, with the values of its parameters
pub record Instances : Type 0 where
  pub of : Name
  pub params : List Connection
  pub list : List Instance

-- ---- subroutines and types

-- an argument of a subroutine
pub record Argument : Type 0 where
  pub direction : Option Direction
  pub of : ImpliedType
  pub name : Name
  pub default : Option Expr

-- what a subroutine is and gives
pub data Returns : Type 0 where
  Task : Returns
  Void : Returns
  Value : ImpliedType → Returns

-- the head of a subroutine
pub record Head : Type 0 where
  pub at : Place
  pub life : Life
  pub returns : Returns
  pub name : Name
  pub arguments : List Argument

-- a subroutine
pub record Routine : Type 0 where
  pub head : Head
  pub decls : List Decl
  pub stmts : Stmts
  pub label : Option Name

-- a name for a type
pub record Typedef : Type 0 where
  pub of : WrittenType
  pub name : Name

-- ---- members of classes

-- a declaration in a class
pub record Property : Type 0 where
  pub qualifiers : Qualifiers
  pub decl : Decl

-- a subroutine in a class
pub record Method : Type 0 where
  pub qualifiers : Qualifiers
  pub routine : Routine

-- a method that classes derived from this one have
pub record PureMethod : Type 0 where
  pub at : Place
  pub head : Head

-- ---- clocking blocks

-- a skew
pub data Skew : Type 0 where
  OneStep : (at : Place) → Skew
  Amount : (at : Place) → Expr → Skew

-- a direction of clocking signals, with its skew
pub record Sided : Type 0 where
  pub direction : Direction
  pub skew : Option Skew

-- an item of a clocking block
pub data ClockingItem : Type 0 where
  Default : List Sided → ClockingItem
  Signals : List Sided → List Name → ClockingItem

-- a clocking block
pub record ClockingBlock : Type 0 where
  pub default : Option Place
  pub name : Name
  pub edge : EdgeWord
  pub event : Name
  pub items : List ClockingItem
  pub label : Option Name

-- ---- nets and processes

-- a net, and the expression that drives it
pub record NetItem : Type 0 where
  pub name : Name
  pub value : Option Expr

-- nets of one type
pub record NetDecl : Type 0 where
  pub at : Place
  pub sign : Sign
  pub range : Option Range
  pub names : List NetItem

-- a continuous assignment
pub record AssignItem : Type 0 where
  pub target : Lval
  pub value : Expr

-- a structured procedure
pub record Procedure : Type 0 where
  pub at : Place
  pub word : ProcedureWord
  pub body : Stmt
