-- How the future is kept: the moments from the last on in rings, each later one in a map (IEEE 1800-2017, 4.4).
use Rattle.std.specs.Prelude.{ℕ, ◌≡◌, ◌+◌, ◌%◌, ◌<◌, ◌≤◌, List, [], ◌∷◌, length, filter, get_or, Option, None, Some, min}
use Rattle.sv_value.specs.declared.number.ProcessId.{ProcessId}
use Rattle.sv_value.specs.declared.schedule.Event.{Event}
use Rattle.sv_flat.specs.Effects.Ends.{not_due_to}
use Rattle.sv_sched.specs.Future.{due_at}

-- the time of the first event
abbrev pub time_of_first : List Event → Option ℕ
time_of_first [] = None
time_of_first (e ∷ es) = Some e.time

-- the first of moments to which this one comes
abbrev pub with_moment : Option ℕ → ℕ → ℕ
with_moment None t = t
with_moment (Some u) t = min u t

-- the events that a queue of the map has, if there is one
abbrev pub in_queue : Option (List Event) → List Event
in_queue None = []
in_queue (Some es) = es

-- events as a queue of the map, which is never empty
abbrev pub queued : List Event → Option (List Event)
queued [] = None
queued (e ∷ es) = Some (e ∷ es)

-- what a queue of the map has after a process has ended
abbrev pub left_in : ProcessId → Option (List Event) → Option (List Event)
left_in p None = None
left_in p (Some es) = queued (filter (not_due_to p) es)

-- what is in the ring of a moment
abbrev pub ring_at : List (List Event) → ℕ → List Event
ring_at rings t = get_or rings (t % 256) []

-- 256 moments from the last on stand in the rings, and those after them in the map, each with what is due then;
-- the rings after the latest moment that came into one are empty
pub record IsKept (rings : List (List Event)) (latest : ℕ) (later : ℕ → Option (List Event)) (last : ℕ) (events : List Event) : Type 0 where
  pub count : length rings ≡ 256
  pub past : (t : ℕ) → t < last → due_at t events ≡ []
  pub near : (t : ℕ) → last ≤ t → t < last + 256 → ring_at rings t ≡ due_at t events
  pub beyond : (t : ℕ) → last ≤ t → t < last + 256 → latest < t → ring_at rings t ≡ []
  pub far : (t : ℕ) → last + 256 ≤ t → later t ≡ queued (due_at t events)
  pub only_far : (t : ℕ) → t < last + 256 → later t ≡ None

-- this is the time of the first event in the first ring that is not empty
pub record IsFirstNear (rings : List (List Event)) (last time : ℕ) : Type 0 where
  pub moment : ℕ
  pub from : last ≤ moment
  pub within : moment < last + 256
  pub first : time_of_first (ring_at rings moment) ≡ Some time
  pub before : (t : ℕ) → last ≤ t → t < moment → ring_at rings t ≡ []
