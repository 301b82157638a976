-- What is waited for that reads no variable of an activation, so that all scopes see the same of it (IEEE 1800-2017, 6.21 and 9.4.2).
use Rattle.std.specs.List.{AllByRecursion}
use Rattle.sv_flat.specs.declared.design.Parts.{Parts}
use Rattle.sv_flat.specs.declared.process.Watch.{Watch}
use Rattle.sv_flat.specs.declared.process.Watch.TheVariants.{On, Updates}
use Rattle.sv_flat.specs.Expr.{Expr, Literal, Text, Object, Element, Select, Unary, Binary, Choose, Join, Repeat, Convert, Widen, Time, Length, Log2, Name, Printed}
use Rattle.sv_built.specs.declared.wait.Wait.{Wait}
use Rattle.sv_built.specs.Waits.{watches_at}

-- an expression that reads objects and the time alone: no variable of an activation, and not the heap
abbrev pub IsStaticExpr : Expr → Type 0
IsStaticExpr (Literal v f) = Unit {0}
IsStaticExpr (Text b) = Unit {0}
IsStaticExpr (Object at o t) = Unit {0}
IsStaticExpr (Element at o b t i) = IsStaticExpr i
IsStaticExpr (Select w o f x a i) = IsStaticExpr a × IsStaticExpr i
IsStaticExpr (Unary op a) = IsStaticExpr a
IsStaticExpr (Binary op a b) = IsStaticExpr a × IsStaticExpr b
IsStaticExpr (Choose c a b) = IsStaticExpr c × IsStaticExpr a × IsStaticExpr b
IsStaticExpr (Join a b) = IsStaticExpr a × IsStaticExpr b
IsStaticExpr (Repeat n a) = IsStaticExpr a
IsStaticExpr (Convert t a) = IsStaticExpr a
IsStaticExpr (Widen n s a) = IsStaticExpr a
IsStaticExpr (Time at) = Unit {0}
IsStaticExpr (Length a) = IsStaticExpr a
IsStaticExpr (Log2 a) = IsStaticExpr a
IsStaticExpr (Name is a) = IsStaticExpr a
IsStaticExpr (Printed f p a) = IsStaticExpr a
IsStaticExpr _ = ⊥

-- an event expression of such an expression; its `iff` does not matter, of which no change fires it
abbrev pub IsStaticWatch : Watch → Type 0
IsStaticWatch (On e g c) = IsStaticExpr e
IsStaticWatch (Updates k n) = Unit {0}

-- what is waited for is static: no change of a variable of an activation fires it
abbrev pub IsStaticWait : Parts → Wait → Type 0
IsStaticWait d w = AllByRecursion IsStaticWatch (watches_at d w)
