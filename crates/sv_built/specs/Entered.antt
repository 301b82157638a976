-- Which variables an activation has (IEEE 1800-2017, 6.21, 12.7.3 and 13.3).
use Rattle.std.specs.Prelude.{List, [], ◌∷◌, Option, None, Some}
use Rattle.sv_value.specs.declared.number.RoutineId.{RoutineId}
use Rattle.sv_flat.specs.declared.object.DataType.{DataType}
use Rattle.sv_flat.specs.declared.class.Subroutine.{Subroutine}
use Rattle.sv_flat.specs.declared.stmt.Stmt.{Stmt}
use Rattle.sv_flat.specs.declared.stmt.Form.{Form}
use Rattle.sv_flat.specs.declared.stmt.Form.TheVariants as form
use Rattle.sv_flat.specs.declared.design.Parts.{Parts}
use Rattle.sv_flat.specs.Process.{types_of, routine_of}
use Rattle.sv_flat.specs.Statements.Loops.{int_type}
use Rattle.sv_built.specs.declared.entered.Entered.{Entered}
use Rattle.sv_built.specs.declared.entered.Entered.TheVariants as entered
use Rattle.sv_built.specs.Positions.{stmt_at}

-- the variables that a block or a fork declares
abbrev pub types_of_form : Form → List DataType
types_of_form (form.Block vs body) = types_of vs
types_of_form (form.Fork vs initializers children join) = types_of vs
types_of_form f = []

-- those of the statement at a position
abbrev pub types_of_block : Option Stmt → List DataType
types_of_block None = []
types_of_block (Some s) = types_of_form s.form

-- the hidden variables of a statement
abbrev pub types_hidden : Option Stmt → List DataType
types_hidden None = []
types_hidden (Some s) = s.hidden

-- the variables of a subroutine
abbrev pub types_of_call : Option Subroutine → List DataType
types_of_call None = []
types_of_call (Some s) = types_of s.locals

-- the types of the variables of an activation
abbrev pub types_at : Parts → Entered → List DataType
types_at d (entered.Block p) = types_of_block (stmt_at d p)
types_at d entered.Index = int_type ∷ []
types_at d (entered.Hidden p) = types_hidden (stmt_at d p)
types_at d (entered.Call r) = types_of_call (routine_of d r).subroutine
