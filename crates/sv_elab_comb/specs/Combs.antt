-- What one `always_comb` watches, in the steps in which it is found.
use Rattle.std.specs.Prelude.{◌+◌, Bool, not, ◌&&◌, List, [], ◌∷◌, length, Option, Some, None, flat_map}
use Rattle.sv_value.specs.declared.number.RoutineId.{RoutineId}
use Rattle.sv_flat.specs.declared.design.Parts.{Parts}
use Rattle.sv_flat.specs.declared.process.Process.{Process}
use Rattle.sv_flat.specs.declared.process.ProcessKind.{ProcessKind}
use Rattle.sv_flat.specs.declared.process.ProcessKind.TheVariants as process_kind
use Rattle.sv_flat.specs.declared.process.Watch.{Watch}
use Rattle.sv_flat.specs.declared.stmt.Stmt.{Stmt}
use Rattle.sv_flat.specs.declared.target.Lvalue.{Lvalue}
use Rattle.sv_flat.specs.Expr.{Expr}
use Rattle.sv_flat.specs.Process.{routine_of}
use Rattle.sv_names.specs.Design.{is_outer, comb_watches}
use Rattle.sv_names.specs.Watched.{Span, operands_of, targets_of, object_of}
use Rattle.sv_elab_comb.specs.Spans.{is_covered}

-- the statements of a routine
abbrev pub body_of : Parts → RoutineId → List Stmt
body_of d r = (routine_of d r).body

-- what routines read
abbrev pub read_in : Parts → List RoutineId → List Expr
read_in d rs = flat_map (λ r. operands_of (body_of d) (length d.routines + 1) 0 (body_of d r)) rs

-- the targets in routines
abbrev pub written_in : Parts → List RoutineId → List Lvalue
written_in d rs = flat_map (λ r. targets_of (body_of d) (length d.routines + 1) (body_of d r)) rs

-- whether an operand is watched, where this is written
abbrev pub is_watched : Parts → List Span → Expr → Bool
is_watched d ss e = is_outer d (object_of e) && not (is_covered ss e)

-- what a process watches now, where it is an `always_comb`
abbrev pub new_watches : Parts → Process → Option (List Watch)
new_watches d p = by p.kind
  where
    by : ProcessKind → Option (List Watch)
    by process_kind.AlwaysComb = Some (comb_watches d p)
    by k = None

-- a process that watches this, where it is told
abbrev pub watching_these : Process → Option (List Watch) → Process
watching_these p None = p
watching_these p (Some ws) = record p { watched = ws }

-- the first of what is told
abbrev pub first_of : List (Option (List Watch)) → Option (List Watch)
first_of [] = None
first_of (w ∷ ws) = w

-- what is told behind it
abbrev pub behind_first : List (Option (List Watch)) → List (Option (List Watch))
behind_first [] = []
behind_first (w ∷ ws) = ws

-- processes, each of which watches what is told
abbrev pub all_watching : List Process → List (Option (List Watch)) → List Process
all_watching [] ws = []
all_watching (p ∷ ps) ws = watching_these p (first_of ws) ∷ all_watching ps (behind_first ws)
