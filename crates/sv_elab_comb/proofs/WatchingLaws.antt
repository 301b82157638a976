-- Processes with what they watch.
use Rattle.std.proofs.Common.{◌≡◌, ℕ, List, [], ◌∷◌, Option, map, refl}
use Rattle.sv_value.specs.declared.number.RoutineId.{RoutineId}
use Rattle.sv_value.specs.declared.place.Place.{Place}
use Rattle.sv_value.specs.declared.schedule.Side.{Side}
use Rattle.sv_flat.specs.declared.design.Parts.{Parts}
use Rattle.sv_flat.specs.declared.process.Process.{Process}
use Rattle.sv_flat.specs.declared.process.ProcessKind.{ProcessKind}
use Rattle.sv_flat.specs.declared.process.ProcessKind.TheVariants as process_kind
use Rattle.sv_flat.specs.declared.process.Watch.{Watch}
use Rattle.sv_names.specs.Design.{with_watches}
use Rattle.sv_elab_comb.specs.Combs.{new_watches, watching_these, all_watching}

-- a process of any kind
one_watching : (d : Parts) (at : Place) (path : List (List ℕ)) (side : Side) (program : Option ℕ) (body : RoutineId) (watched : List Watch)
    → (k : ProcessKind)
    → watching_these (record { at = at; path = path; kind = k; side = side; program = program; body = body; watched = watched })
    (new_watches d (record { at = at; path = path; kind = k; side = side; program = program; body = body; watched = watched }))
    ≡ with_watches d (record { at = at; path = path; kind = k; side = side; program = program; body = body; watched = watched })
one_watching d at path side program body watched process_kind.Initial = refl
one_watching d at path side program body watched process_kind.Always = refl
one_watching d at path side program body watched process_kind.AlwaysComb = refl
one_watching d at path side program body watched process_kind.AlwaysFf = refl
one_watching d at path side program body watched process_kind.Assign = refl
one_watching d at path side program body watched process_kind.Port = refl

-- every process watches what it shall
pub all_watching_is : (d : Parts) (ps : List Process) → all_watching ps (map (new_watches d) ps) ≡ map (with_watches d) ps
all_watching_is d [] = refl
all_watching_is d (p ∷ ps) =
    λ i. one_watching d p.at p.path p.side p.program p.body p.watched p.kind i ∷ all_watching_is d ps i
