-- Bodies of built designs, and regions whose jobs are updates.
use Rattle.std.proofs.Common.{◌≡◌, List, [], ◌∷◌, Option, None, Some, refl, subst, sym, ◌∙◌, map}
use Rattle.std.specs.List.{AllByRecursion}
use Rattle.sv_value.specs.declared.number.ProcessId.{ProcessId}
use Rattle.sv_value.specs.declared.number.RoutineId.{RoutineId}
use Rattle.sv_value.specs.declared.schedule.Side.{Side}
use Rattle.sv_value.specs.declared.schedule.Side.TheVariants.{Active, Reactive}
use Rattle.sv_value.specs.declared.schedule.Job.{Job}
use Rattle.sv_value.specs.declared.schedule.Due.{Due}
use Rattle.sv_value.specs.declared.schedule.Due.TheVariants.{Resume, Work}
use Rattle.sv_value.specs.declared.schedule.Region.{Region}
use Rattle.sv_value.specs.declared.schedule.Region.TheVariants as region
use Rattle.sv_value.specs.Regions.{Set, Regions, set_of, with_set, ready_in, job_in, due_in, moved, front_of, updates_of}
use Rattle.sv_flat.specs.declared.stmt.Stmt.{Stmt}
use Rattle.sv_flat.specs.declared.design.Parts.{Parts}
use Rattle.sv_flat.specs.State.{Name}
use Rattle.sv_flat.specs.Process.{Do, routine_of, body_in, optional_body_in}
use Rattle.sv_built.specs.Built.{IsBuilt, IsBuiltStmt, IsBuiltRoutine}
use Rattle.sv_sound.specs.Sound.{IsPlainTodo, IsPlainJob, IsDue, IsPlainSet, ArePlain}
use Rattle.sv_sound.proofs.Weights.{all_append, all_index_or}

-- ---- bodies

pub todos_plain : (ss : List Stmt) → AllByRecursion IsBuiltStmt ss → (scope : Option Name) → AllByRecursion IsPlainTodo (map (λ s. Do s s.calls scope None) ss)
todos_plain [] h scope = tt
todos_plain (s ∷ ss) h scope = ((h.0, h.0.calls), todos_plain ss h.1 scope)

pub routine_built : (d : Parts) → IsBuilt d → (r : RoutineId) → IsBuiltRoutine (routine_of d r)
routine_built d b r = all_index_or IsBuiltRoutine d.routines r.0 _ (record { body = tt; subroutine = tt }) b.each_routine

pub body_plain : (d : Parts) → IsBuilt d → (r : RoutineId) (scope : Option Name) → AllByRecursion IsPlainTodo (body_in d r scope)
body_plain d b r scope = todos_plain (routine_of d r).body (routine_built d b r).body scope

pub optional_body_plain : (d : Parts) → IsBuilt d → (r : Option RoutineId) (scope : Option Name) → AllByRecursion IsPlainTodo (optional_body_in d r scope)
optional_body_plain d b None scope = tt
optional_body_plain d b (Some r) scope = body_plain d b r scope

-- ---- regions

pub plain_of : (s : Side) (r : Regions) → ArePlain r → IsPlainSet (set_of s r)
plain_of Active r h = h.active
plain_of Reactive r h = h.reactive

pub plain_with : (s : Side) (x : Set) (r : Regions) → IsPlainSet x → ArePlain r → ArePlain (with_set s x r)
plain_with Active x r h k = record { active = h; reactive = k.reactive }
plain_with Reactive x r h k = record { active = k.active; reactive = h }

pub same_jobs : (x y : Set) → y.jobs ≡ x.jobs → y.updates ≡ x.updates → y.clocks ≡ x.clocks → IsPlainSet x → IsPlainSet y
same_jobs x y j u c h = record { jobs = subst (AllByRecursion IsPlainJob) (sym j) h.jobs; updates = subst (AllByRecursion IsPlainJob) (sym u) h.updates; clocks = c ∙ h.clocks }

pub plain_ready : (g : Region) (p : ProcessId) (r : Regions) → ArePlain r → ArePlain (ready_in g p r)
plain_ready region.Active p r h = record { active = same_jobs r.active _ refl refl refl h.active; reactive = h.reactive }
plain_ready region.Inactive p r h = record { active = same_jobs r.active _ refl refl refl h.active; reactive = h.reactive }
plain_ready region.Reactive p r h = record { active = h.active; reactive = same_jobs r.reactive _ refl refl refl h.reactive }
plain_ready region.ReInactive p r h = record { active = h.active; reactive = same_jobs r.reactive _ refl refl refl h.reactive }
plain_ready region.Nba p r h = h
plain_ready region.Observed p r h = h
plain_ready region.ReNba p r h = h

-- a job that comes where updates stand
pub plain_job : (s : Side) (j : Job) (r : Regions) → IsPlainJob j → ArePlain r → ArePlain (job_in (updates_of s) j r)
plain_job Active j r i h = record {
  active = record { jobs = h.active.jobs; updates = all_append IsPlainJob r.active.updates (j ∷ []) h.active.updates (i, tt); clocks = h.active.clocks };
  reactive = h.reactive;
}
plain_job Reactive j r i h = record {
  active = h.active;
  reactive = record { jobs = h.reactive.jobs; updates = all_append IsPlainJob r.reactive.updates (j ∷ []) h.reactive.updates (i, tt); clocks = h.reactive.clocks };
}

pub plain_due : (g : Region) (x : Due) (r : Regions) → IsDue g x → ArePlain r → ArePlain (due_in g x r)
plain_due region.Active (Resume p) r i h = plain_ready region.Active p r h
plain_due region.Reactive (Resume p) r i h = plain_ready region.Reactive p r h
plain_due region.Nba (Work j) r i h = plain_job Active j r i h
plain_due region.ReNba (Work j) r i h = plain_job Reactive j r i h
plain_due g x r i h = absurd i

pub plain_moved : (s : Set) → IsPlainSet s → IsPlainSet (moved s)
plain_moved s h = by_lists s.idle s.updates h
  where
    by_lists : (ps : List ProcessId) (js : List Job) → IsPlainSet (record s { idle = ps; updates = js }) → IsPlainSet (moved (record s { idle = ps; updates = js }))
    by_lists [] [] h = record { jobs = subst (AllByRecursion IsPlainJob) (sym h.clocks) tt; updates = tt; clocks = refl }
    by_lists [] (j ∷ js) h = record { jobs = h.updates; updates = tt; clocks = h.clocks }
    by_lists (p ∷ ps) js h = record { jobs = h.jobs; updates = h.updates; clocks = h.clocks }

pub plain_later : (s : Side) (p : ProcessId) → IsDue (front_of s) (Resume p)
plain_later Active p = tt
plain_later Reactive p = tt

pub plain_update : (s : Side) (j : Job) → IsPlainJob j → IsDue (updates_of s) (Work j)
plain_update Active j h = h
plain_update Reactive j h = h
