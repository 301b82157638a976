-- Types as they are written (IEEE 1800-2017, A.2.2).
use Rattle.std.specs.Prelude.{List, Option}
use Rattle.sv_value.specs.declared.place.Place.{Place}
use Rattle.sv_tree.specs.declared.word.Name.{Name}
use Rattle.sv_tree.specs.declared.word.Sign.{Sign}
use Rattle.sv_tree.specs.declared.word.VectorWord.{VectorWord}
use Rattle.sv_tree.specs.declared.word.AtomWord.{AtomWord}
use Rattle.sv_tree.specs.Expr.{Expr}

-- "[" left ":" right "]", at "["
pub record Range : Type 0 where
  pub at : Place
  pub left : Expr
  pub right : Expr

-- an item of an enumeration
pub record EnumItem : Type 0 where
  pub name : Name
  pub value : Option Expr

-- a type
pub data WrittenType : Type 0 where
  Vector : (at : Place) → (word : VectorWord) → (sign : Sign) → (range : Option Range) → WrittenType
  Atom : (at : Place) → (word : AtomWord) → (sign : Sign) → WrittenType
  Text : (at : Place) → WrittenType
  Event : (at : Place) → WrittenType
  Semaphore : (at : Place) → WrittenType
  Mailbox : (at : Place) → WrittenType
  MailboxOf : (at : Place) → WrittenType → WrittenType
  Named : Name → WrittenType
  Enum : (at : Place) → List EnumItem → WrittenType
  EnumOf : (at : Place) → (base : WrittenType) → (items : List EnumItem) → WrittenType

-- a type that may be left out
pub data ImpliedType : Type 0 where
  Unwritten : ImpliedType
  Vector : (at : Place) → (sign : Sign) → (range : Option Range) → ImpliedType
  Written : WrittenType → ImpliedType
