-- Statements with all that stand in them, and whom they run.
use Rattle.std.specs.Prelude.{◌≡◌, ℕ, List, [], ◌∷◌, ◌++◌, map, flat_map, if◌then◌else◌}
use Rattle.std.specs.Borrow.{Bor}
use Rattle.sv_value.specs.declared.number.ClassId.{ClassId}
use Rattle.sv_value.specs.declared.number.RoutineId.{RoutineId}
use Rattle.sv_flat.specs.declared.class.Class.{Class}
use Rattle.sv_flat.specs.declared.design.Parts.{Parts}
use Rattle.sv_flat.specs.declared.stmt.Stmt.{Stmt}
use Rattle.sv_flat.specs.Classes.{is_derived}
use Rattle.sv_flat.specs.Names.{inner_routines, forked, stmts_with_forks, call_routines, stmt_calls, called_in, with_new, method_in}

-- statements that are put behind others
abbrev pub Found : List (Bor Stmt) → List (Bor Stmt) → List Stmt → Type 0
Found before after ss = map (λ s. s.now) after ≡ map (λ s. s.now) before ++ ss

-- statements, each with those that stand in it, so many levels deep
abbrev pub stmts_in : ℕ → Parts → List Stmt → List Stmt
stmts_in k d ss = flat_map (λ s. s ∷ flat_map (stmts_with_forks k d) (inner_routines s.form ++ forked s.form)) ss

-- the subroutines that a statement runs
abbrev pub run_by : Parts → Stmt → List RoutineId
run_by d s = flat_map (call_routines d) (stmt_calls s)

-- the method in a slot of a class with this number, where the class is derived from another one
abbrev pub overriding : Parts → ClassId → ℕ → ℕ → Class → List RoutineId
overriding d k slot n c = if is_derived d (record { 0 = n }) k then method_in slot c else []

-- the routines that are reached in one more call
abbrev pub reached_once : Parts → List RoutineId → List RoutineId
reached_once d rs = with_new rs (flat_map (called_in d) rs)
