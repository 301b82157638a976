-- Positions of statements in a flat design.
use Rattle.std.specs.Prelude.{List, Option, slice_get}
use Rattle.sv_value.specs.declared.number.RoutineId.{RoutineId}
use Rattle.sv_flat.specs.declared.stmt.Stmt.{Stmt}
use Rattle.sv_flat.specs.declared.design.Parts.{Parts}
use Rattle.sv_flat.specs.Process.{routine_of}
use Rattle.sv_built.specs.declared.position.Position.{Position}

-- the statements of a routine
abbrev pub body_of : Parts → RoutineId → List Stmt
body_of d r = (routine_of d r).body

-- the statement at a position, if there is one
abbrev pub stmt_at : Parts → Position → Option Stmt
stmt_at d p = slice_get (body_of d p.routine) p.place
