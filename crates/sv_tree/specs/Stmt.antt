-- Statements and declarations as they are written (IEEE 1800-2017, A.2.4 to A.2.8 and A.6).
use Rattle.std.specs.Prelude.{List, Option}
use Rattle.sv_value.specs.declared.place.Place.{Place}
use Rattle.sv_tree.specs.declared.word.Name.{Name}
use Rattle.sv_tree.specs.declared.word.Life.{Life}
use Rattle.sv_tree.specs.declared.word.BinaryWord.{BinaryWord}
use Rattle.sv_tree.specs.declared.word.CaseWord.{CaseWord}
use Rattle.sv_tree.specs.declared.word.JoinWord.{JoinWord}
use Rattle.sv_tree.specs.declared.word.EdgeWord.{EdgeWord}
use Rattle.sv_tree.specs.declared.word.StepWord.{StepWord}
use Rattle.sv_tree.specs.Expr.{Expr, Exprs, Actuals, Lval}
use Rattle.sv_tree.specs.Types.{WrittenType, Range}

-- ---- declarations

-- a dimension
pub data Dimension : Type 0 where
  Empty : (at : Place) → Dimension
  Size : (at : Place) → Expr → Dimension
  Bounds : Range → Dimension
  Queue : (at : Place) → Dimension
  Key : (at : Place) → WrittenType → Dimension
  Named : (at : Place) → Name → Dimension

-- the value of a declaration or an assignment
pub data Init : Type 0 where
  Value : Expr → Init
  New : (at : Place) → Actuals → Init
  Copy : (at : Place) → Name → Init
  Array : (at : Place) → (size : Expr) → (source : Option Expr) → Init

-- a name that is declared
pub record Declarator : Type 0 where
  pub name : Name
  pub dimension : Option Dimension
  pub init : Option Init

-- a declaration
pub record Decl : Type 0 where
  pub life : Life
  pub of : WrittenType
  pub names : List Declarator

-- ---- parts of statements

-- "#" and what follows it
pub record Delay : Type 0 where
  pub at : Place
  pub amount : Expr

-- an expression with its edge and its condition
pub record EventPart : Type 0 where
  pub edge : EdgeWord
  pub expr : Expr
  pub condition : Option Expr

-- what an event control waits for
pub data Event : Type 0 where
  Named : Name → Event
  Star : Event
  Parts : List EventPart → Event

-- target "=" [delay] value
pub record BlockingAssignment : Type 0 where
  pub target : Lval
  pub delay : Option Delay
  pub value : Init

-- target "<=" [delay] value
pub record NonblockingAssignment : Type 0 where
  pub target : Lval
  pub delay : Option Delay
  pub value : Expr

-- target aop value
pub record OperatorAssignment : Type 0 where
  pub target : Lval
  pub word : BinaryWord
  pub value : Expr

-- the first part of a "for"
pub data ForInit : Type 0 where
  Declare : (of : WrittenType) → (name : Name) → (value : Expr) → ForInit
  Assign : Lval → Expr → ForInit

-- the last part of a "for"
pub data ForStep : Type 0 where
  Assign : Lval → Expr → ForStep
  Operator : OperatorAssignment → ForStep
  Step : (at : Place) → (target : Lval) → (word : StepWord) → ForStep

-- ---- statements

mutual
  pub data Stmt : Type 0 where
    Statement : (at : Place) → (label : Option Name) → (body : Body) → Stmt

  pub data Stmts : Type 0 where
    NoStmt : Stmts
    AndStmt : Stmt → Stmts → Stmts

  pub data CaseItems : Type 0 where
    NoCaseItem : CaseItems
    Labels : Exprs → Stmt → CaseItems → CaseItems
    Default : Stmt → CaseItems → CaseItems

  pub data Body : Type 0 where
    Null : Body
    Block : (name : Option Name) → (decls : List Decl) → (stmts : Stmts) → (label : Option Name) → Body
    Fork : (name : Option Name) → (decls : List Decl) → (stmts : Stmts) → (join : JoinWord) → (label : Option Name) → Body
    Blocking : BlockingAssignment → Body
    Nonblocking : NonblockingAssignment → Body
    Operator : OperatorAssignment → Body
    Step : Lval → StepWord → Body
    Call : Expr → Body
    Ignore : (at : Place) → Expr → Body
    If : Expr → Stmt → Body
    IfElse : (condition : Expr) → (yes : Stmt) → (no : Stmt) → Body
    Case : (word : CaseWord) → (subject : Expr) → (items : CaseItems) → Body
    For : (init : ForInit) → (condition : Expr) → (step : ForStep) → (body : Stmt) → Body
    While : Expr → Stmt → Body
    Do : Stmt → Expr → Body
    Repeat : Expr → Stmt → Body
    Forever : Stmt → Body
    Foreach : (array : Name) → (index : Name) → (body : Stmt) → Body
    After : Delay → Stmt → Body
    On : Event → Stmt → Body
    Cycles : (at : Place) → (amount : Expr) → (body : Stmt) → Body
    Wait : (at : Place) → (condition : Expr) → (body : Stmt) → Body
    WaitFork : Body
    DisableFork : Body
    Trigger : Lval → Body
    Break : Body
    Continue : Body
    Return : Option Expr → Body
