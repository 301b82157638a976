-- What is found to be read, behind what was found before.
use Rattle.std.specs.Prelude.{◌≡◌, ℕ, ◌-◌, List, ◌++◌, flat_map, Option, Some, None, if◌then◌else◌, nat_lt}
use Rattle.sv_value.specs.declared.number.RoutineId.{RoutineId}
use Rattle.sv_flat.specs.declared.stmt.Stmt.{Stmt}
use Rattle.sv_flat.specs.declared.stmt.Form.{Form}
use Rattle.sv_flat.specs.declared.target.Base.{Base}
use Rattle.sv_flat.specs.declared.target.Lvalue.{Lvalue}
use Rattle.sv_flat.specs.Expr as flat
use Rattle.sv_flat.specs.Names.{optional, base_exprs, part_exprs, inner_routines, forked}
use Rattle.sv_names.specs.Watched.{operands, operands_of, base_read}
use Rattle.sv_elab_watch.specs.declared.arrays.Array.{Array}
use Rattle.sv_elab_watch.specs.declared.arrays.Array.TheVariants as array
use Rattle.sv_elab_watch.specs.declared.targets.Extent.{Extent}
use Rattle.sv_elab_watch.specs.declared.targets.Extent.TheVariants as extent

-- operands that are put behind others
abbrev pub Added : List flat.Expr → List flat.Expr → List flat.Expr → Type 0
Added before after es = after ≡ before ++ es

-- what expressions read, from outside so many activations, behind other operands
abbrev pub Read : ℕ → List flat.Expr → List flat.Expr → List flat.Expr → Type 0
Read d before after es = after ≡ before ++ flat_map (operands d) es

-- by how many levels an activation is further out than so many, where it is
abbrev pub up_outside : ℕ → ℕ → Option ℕ
up_outside d u = if nat_lt u d then None else Some (u - d)

-- an element of an array, by its index
abbrev pub element : Array → flat.Expr → flat.Expr
element (array.Object at o b t) = flat.Element at o b t
element (array.Local u p b t) = flat.LocalElement u p b t

-- what is read of that which a target begins with
abbrev pub base_of : Extent → Base → List flat.Expr
base_of extent.Whole b = base_exprs b
base_of extent.Changed b = base_read b

-- what is read of a target
abbrev pub target_of : Extent → Lvalue → List flat.Expr
target_of k l = optional l.through ++ base_of k l.base ++ part_exprs l.part

-- what is read of targets
abbrev pub targets_of : Extent → List Lvalue → List flat.Expr
targets_of k ts = flat_map (λ l. optional l.through ++ base_of k l.base ++ part_exprs l.part) ts

-- what routines read, so many levels deep
abbrev pub routines_read : (RoutineId → List Stmt) → ℕ → ℕ → List RoutineId → List flat.Expr
routines_read body k d rs = flat_map (λ r. operands_of body k d (body r)) rs

-- the routines that stand in a form
abbrev pub routines_in : Form → List RoutineId
routines_in f = inner_routines f ++ forked f
