-- Whom a change wakes (IEEE 1800-2017, 9.4.2): of the processes that wait, by number, those for whose wait a test holds.
use Rattle.std.specs.Prelude.{ℕ, ◌+◌, Bool, false, List, [], ◌∷◌, ◌++◌, Option, None, Some, slice_index_or, slice_set, if◌then◌else◌}
use Rattle.sv_value.specs.declared.number.ProcessId.{ProcessId}
use Rattle.sv_flat.specs.declared.design.Parts.{Parts}
use Rattle.sv_flat.specs.State.{Name, View}
use Rattle.sv_flat.specs.Woken.{Changed, some_fires}
use Rattle.sv_built.specs.Waits.{watches_at}
use Rattle.sv_assign.specs.declared.seen.Before.{Before}
use Rattle.sv_assign.specs.Seen.{change_in, view_before, view_in}
use Rattle.sv_sense.specs.declared.waiter.Waiter.{Waiter}

-- what each scope sees
abbrev pub Scenes : Type 0
Scenes = Option Name → View

-- what each scope saw before a change
abbrev pub scenes_before : Before → Scenes
scenes_before b = λ scope. view_before (change_in b.change.now) b.store.now b.activations.now.activations b.time b.unit scope

-- what each scope sees after it
abbrev pub scenes_after : Before → Scenes
scenes_after b = λ scope. view_in b.store.now b.activations.now.activations b.time b.unit scope

-- whether a change fires what is waited for, as it is seen in the scope of the process that waits
abbrev pub fires_at : Parts → (old new : Scenes) → Option Waiter → Bool
fires_at d old new None = false
fires_at d old new (Some w) = some_fires (watches_at d w.wait) Changed (old w.scope) (new w.scope)

-- the processes that a test of their waits wakes, from a number on
abbrev pub woken_from : (Option Waiter → Bool) → ℕ → List (Option Waiter) → List ProcessId
woken_from t n [] = []
woken_from t n (w ∷ ws) = if t w then record { 0 = n } ∷ woken_from t (n + 1) ws else woken_from t (n + 1) ws

-- who is woken no longer waits
abbrev pub waits_after : (Option Waiter → Bool) → List (Option Waiter) → List (Option Waiter)
waits_after t [] = []
waits_after t (w ∷ ws) = (if t w then None else w) ∷ waits_after t ws

-- ---- the same, process by process

-- what stands in a list for a process
abbrev pub wait_of : {A : Type 0} → ProcessId → List (Option A) → Option A
wait_of p ws = slice_index_or ws p.0 None

-- the waits when one process was tried
abbrev pub tried_one : (Option Waiter → Bool) → ProcessId → List (Option Waiter) → List (Option Waiter)
tried_one t p ws = if t (wait_of p ws) then slice_set ws p.0 None else ws

-- that process, if it is woken
abbrev pub woken_one : (Option Waiter → Bool) → ProcessId → List (Option Waiter) → List ProcessId
woken_one t p ws = if t (wait_of p ws) then p ∷ [] else []

-- the waits when these processes were tried
abbrev pub tried : (Option Waiter → Bool) → List ProcessId → List (Option Waiter) → List (Option Waiter)
tried t [] ws = ws
tried t (p ∷ ps) ws = tried t ps (tried_one t p ws)

-- those of them that are woken
abbrev pub woken_of : (Option Waiter → Bool) → List ProcessId → List (Option Waiter) → List ProcessId
woken_of t [] ws = []
woken_of t (p ∷ ps) ws = woken_one t p ws ++ woken_of t ps (tried_one t p ws)
