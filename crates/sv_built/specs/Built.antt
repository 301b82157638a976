-- What is built so far: the forms that a design may have for the kernel to run it (own). Later this is only widened.
use Rattle.std.specs.Prelude.{ℕ, ◌≡◌, ◌<◌, ◌≤◌, ◌^◌, List, [], ◌∷◌, Option, None, Some, length, slice_get}
use Rattle.std.specs.List.{AllByRecursion}
use Rattle.sv_value.specs.declared.val.Plain.{Plain}
use Rattle.sv_value.specs.declared.val.Plain.TheVariants as plain
use Rattle.sv_flat.specs.declared.object.Object.{Object as Declared_object}
use Rattle.sv_flat.specs.declared.object.Declared.{Declared}
use Rattle.sv_flat.specs.declared.object.ObjectKind.{ObjectKind}
use Rattle.sv_flat.specs.declared.object.ObjectKind.TheVariants as kind
use Rattle.sv_flat.specs.declared.object.DataType.{DataType}
use Rattle.sv_flat.specs.declared.object.DataType.TheVariants as type
use Rattle.sv_flat.specs.declared.object.Initial.{Initial}
use Rattle.sv_flat.specs.declared.object.Initial.TheVariants as initial
use Rattle.sv_flat.specs.declared.process.Process.{Process}
use Rattle.sv_flat.specs.declared.process.Edge.{Edge}
use Rattle.sv_flat.specs.declared.process.Edge.TheVariants as edge
use Rattle.sv_flat.specs.declared.process.Watch.{Watch}
use Rattle.sv_flat.specs.declared.process.Watch.TheVariants.{On}
use Rattle.sv_flat.specs.declared.class.Formal.{Formal}
use Rattle.sv_flat.specs.declared.class.Subroutine.{Subroutine}
use Rattle.sv_flat.specs.declared.class.Routine.{Routine}
use Rattle.sv_flat.specs.declared.call.Argument.{Argument}
use Rattle.sv_flat.specs.declared.call.Call.{Call}
use Rattle.sv_flat.specs.declared.call.CallForm.{CallForm}
use Rattle.sv_flat.specs.declared.call.CallForm.TheVariants as call
use Rattle.sv_flat.specs.declared.stmt.Stmt.{Stmt}
use Rattle.sv_flat.specs.declared.stmt.CaseItem.{CaseItem}
use Rattle.sv_flat.specs.declared.stmt.Form.{Form}
use Rattle.sv_flat.specs.declared.stmt.Form.TheVariants as form
use Rattle.sv_flat.specs.declared.target.Lvalue.{Lvalue}
use Rattle.sv_flat.specs.declared.target.Part.{Part}
use Rattle.sv_flat.specs.declared.target.Base.{Base}
use Rattle.sv_flat.specs.declared.target.Base.TheVariants as base
use Rattle.sv_flat.specs.declared.stmt.PrintKind.{PrintKind}
use Rattle.sv_flat.specs.declared.stmt.PrintKind.TheVariants as print
use Rattle.sv_flat.specs.declared.design.Parts.{Parts}
use Rattle.sv_flat.specs.Contexts.{IsWidth}
use Rattle.sv_flat.specs.Expr.{Expr, Literal, Text, Object, Element, Local, LocalElement, Select, Unary, Binary, Choose, Join, Repeat, Convert, Widen, Time, Length, Log2, Name, Printed}
use Rattle.sv_flat.specs.Opening.{elements_of}

-- ---- expressions: what reads objects and the variables of activations, and not the heap

-- a vector or a string
abbrev pub IsBuiltPlain : Plain → Type 0
IsBuiltPlain (plain.Integral t) = IsWidth t.width
IsBuiltPlain plain.Text = Unit {0}
IsBuiltPlain _ = ⊥

-- the same of a type
abbrev pub IsBuiltType : DataType → Type 0
IsBuiltType (type.Plain t) = IsBuiltPlain t
IsBuiltType _ = ⊥

-- an expression of literals, objects, variables, elements, selects and operators
abbrev pub IsBuiltExpr : Expr → Type 0
IsBuiltExpr (Literal v f) = Unit {0}
IsBuiltExpr (Text b) = Unit {0}
IsBuiltExpr (Object at o t) = IsBuiltType t
IsBuiltExpr (Element at o b t i) = IsBuiltExpr i
IsBuiltExpr (Local up p t) = IsBuiltType t
IsBuiltExpr (LocalElement up p b t i) = IsBuiltExpr i
IsBuiltExpr (Select w o f x a i) = IsBuiltExpr a × IsBuiltExpr i
IsBuiltExpr (Unary op a) = IsBuiltExpr a
IsBuiltExpr (Binary op a b) = IsBuiltExpr a × IsBuiltExpr b
IsBuiltExpr (Choose c a b) = IsBuiltExpr c × IsBuiltExpr a × IsBuiltExpr b
IsBuiltExpr (Join a b) = IsBuiltExpr a × IsBuiltExpr b
IsBuiltExpr (Repeat n a) = IsBuiltExpr a
IsBuiltExpr (Convert t a) = IsBuiltExpr a
IsBuiltExpr (Widen n s a) = IsBuiltExpr a
IsBuiltExpr (Time at) = Unit {0}
IsBuiltExpr (Length a) = IsBuiltExpr a
IsBuiltExpr (Log2 a) = IsBuiltExpr a
IsBuiltExpr (Name is a) = IsBuiltExpr a
IsBuiltExpr (Printed f p a) = IsBuiltExpr a
IsBuiltExpr _ = ⊥

-- such an expression, if there is one
abbrev pub IsBuiltOptional : Option Expr → Type 0
IsBuiltOptional None = Unit {0}
IsBuiltOptional (Some e) = IsBuiltExpr e

-- ---- objects

-- a variable, the result of a static function, or a net of vectors
abbrev pub IsBuiltKind : ObjectKind → DataType → Type 0
IsBuiltKind kind.Variable t = Unit {0}
IsBuiltKind kind.Result t = Unit {0}
IsBuiltKind (kind.Net n) (type.Plain (plain.Integral t)) = Unit {0}
IsBuiltKind _ _ = ⊥

-- an initial value that is computed
abbrev pub IsBuiltInitial : Option Initial → Type 0
IsBuiltInitial None = Unit {0}
IsBuiltInitial (Some (initial.Value e)) = IsBuiltExpr e
IsBuiltInitial _ = ⊥

-- an object of vectors or strings, with fewer than 2 ^ 32 elements
pub record IsBuiltObject (o : Declared_object) : Type 0 where
  pub kind : IsBuiltKind o.kind o.ty
  pub ty : IsBuiltType o.ty
  pub few : elements_of o.array < 2 ^ 32
  pub initial : IsBuiltInitial o.initial

-- ---- targets and event expressions

-- an object, a driver of a net, a variable of an activation, or an element
abbrev pub IsBuiltBase : Base → Type 0
IsBuiltBase (base.Object o) = Unit {0}
IsBuiltBase (base.Driver o n) = Unit {0}
IsBuiltBase (base.Element o b i) = IsBuiltExpr i
IsBuiltBase (base.Local up p) = Unit {0}
IsBuiltBase (base.LocalElement up p b i) = IsBuiltExpr i
IsBuiltBase _ = ⊥

-- a part, if there is one
abbrev pub IsBuiltPart : Option Part → Type 0
IsBuiltPart None = Unit {0}
IsBuiltPart (Some p) = IsBuiltExpr p.index

-- a target that no reference leads to
pub record IsBuiltTarget (l : Lvalue) : Type 0 where
  pub plainly : l.through ≡ None
  pub base : IsBuiltBase l.base
  pub part : IsBuiltPart l.part

-- a change of a value
abbrev pub IsBuiltEdge : Edge → Type 0
IsBuiltEdge edge.Trigger = ⊥
IsBuiltEdge _ = Unit {0}

-- an event expression, with an `iff` or without
abbrev pub IsBuiltWatch : Watch → Type 0
IsBuiltWatch (On e g c) = IsBuiltEdge g × IsBuiltExpr e × IsBuiltOptional c
IsBuiltWatch _ = ⊥

-- ---- calls

-- the targets of an output, if it is one
abbrev pub IsBuiltOutput : Option (List Lvalue) → Type 0
IsBuiltOutput None = Unit {0}
IsBuiltOutput (Some ts) = AllByRecursion IsBuiltTarget ts

-- an argument of a call
pub record IsBuiltArgument (a : Argument) : Type 0 where
  pub value : IsBuiltOptional a.value
  pub output : IsBuiltOutput a.targets

-- a task or a function that no reference leads to
abbrev pub IsBuiltCallForm : CallForm → Type 0
IsBuiltCallForm (call.Routine r None as') = AllByRecursion IsBuiltArgument as'
IsBuiltCallForm _ = ⊥

-- a call that runs
abbrev pub IsBuiltCall : Call → Type 0
IsBuiltCall c = IsBuiltCallForm c.form

-- ---- statements

-- an item of a `case`
pub record IsBuiltItem (i : CaseItem) : Type 0 where
  pub labels : AllByRecursion IsBuiltExpr i.labels

-- all prints but `$monitor`
abbrev pub IsBuiltKindOfPrint : PrintKind → Type 0
IsBuiltKindOfPrint print.Now = Unit {0}
IsBuiltKindOfPrint print.Strobe = Unit {0}
IsBuiltKindOfPrint print.Monitor = ⊥

-- a variable of an activation, of vectors or strings
abbrev pub IsBuiltVariable : Declared → Type 0
IsBuiltVariable v = IsBuiltType v.ty

-- a form that runs
abbrev pub IsBuiltForm : Form → Type 0
IsBuiltForm form.Null = Unit {0}
IsBuiltForm (form.Block vs body) = AllByRecursion IsBuiltVariable vs
IsBuiltForm (form.Assign ts e) = AllByRecursion IsBuiltTarget ts × IsBuiltExpr e
IsBuiltForm (form.AssignAfter ts e delay in_ticks) = AllByRecursion IsBuiltTarget ts × IsBuiltExpr e × IsBuiltExpr delay
IsBuiltForm (form.Nonblocking ts e delay in_ticks) = AllByRecursion IsBuiltTarget ts × IsBuiltExpr e × IsBuiltOptional delay
IsBuiltForm (form.If e a b) = IsBuiltExpr e
IsBuiltForm (form.Case k e items other) = IsBuiltExpr e × AllByRecursion IsBuiltItem items
IsBuiltForm (form.While e body step) = IsBuiltExpr e
IsBuiltForm (form.Do again) = Unit {0}
IsBuiltForm (form.Repeat e body) = IsBuiltExpr e
IsBuiltForm (form.Forever body) = Unit {0}
IsBuiltForm (form.ForeachElement b body) = Unit {0}
IsBuiltForm form.Break = Unit {0}
IsBuiltForm form.Continue = Unit {0}
IsBuiltForm (form.Return ts e) = AllByRecursion IsBuiltTarget ts × IsBuiltOptional e
IsBuiltForm (form.Call c) = IsBuiltCall c
IsBuiltForm (form.Evaluate e) = IsBuiltExpr e
IsBuiltForm (form.Delay e in_ticks) = IsBuiltExpr e
IsBuiltForm (form.At ws) = AllByRecursion IsBuiltWatch ws
IsBuiltForm (form.Wait e) = IsBuiltExpr e
IsBuiltForm (form.Fork ts initializers children join) = AllByRecursion IsBuiltVariable ts
IsBuiltForm form.WaitFork = Unit {0}
IsBuiltForm form.DisableFork = Unit {0}
IsBuiltForm (form.Print k ps es) = IsBuiltKindOfPrint k × AllByRecursion IsBuiltExpr es
IsBuiltForm form.Finish = Unit {0}
IsBuiltForm _ = ⊥

-- a statement of such a form, with calls that run before it, whose results are vectors or strings
pub record IsBuiltStmt (s : Stmt) : Type 0 where
  pub hidden : AllByRecursion IsBuiltType s.hidden
  pub calls : AllByRecursion IsBuiltCall s.calls
  pub built : IsBuiltForm s.form

-- the variables of a subroutine, if it is one
abbrev pub IsBuiltSubroutine : Option Subroutine → Type 0
IsBuiltSubroutine None = Unit {0}
IsBuiltSubroutine (Some s) = AllByRecursion IsBuiltVariable s.locals

-- a routine of such statements
pub record IsBuiltRoutine (r : Routine) : Type 0 where
  pub body : AllByRecursion IsBuiltStmt r.body
  pub subroutine : IsBuiltSubroutine r.subroutine

-- ---- designs

-- a process of a module
pub record IsBuiltProcess (f : Process) : Type 0 where
  pub of_module : f.program ≡ None
  pub watched : AllByRecursion IsBuiltWatch f.watched

-- a design that runs
pub record IsBuilt (d : Parts) : Type 0 where
  pub no_clockings : d.clockings ≡ []
  pub each_object : AllByRecursion IsBuiltObject d.objects
  pub each_process : AllByRecursion IsBuiltProcess d.processes
  pub each_routine : AllByRecursion IsBuiltRoutine d.routines
  pub few_processes : length d.processes < 2 ^ 18
  -- a unit has at most 10 ^ 17 femtoseconds
  pub unit : d.scale.unit ≤ 17
