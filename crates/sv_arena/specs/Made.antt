-- The activations of a run, and how many each process made (IEEE 1800-2017, 6.21).
use Rattle.std.specs.Prelude.{ℕ, ◌+◌, List, [], ◌∷◌, ◌++◌, Option, slice_index_or, slice_set}
use Rattle.sv_value.specs.declared.number.ProcessId.{ProcessId}
use Rattle.sv_value.specs.declared.val.Val.{Val}
use Rattle.sv_flat.specs.State.{Activation, Name}

-- the activations in the order in which they were made, and how many each process made
pub record Made : Type 0 where
  pub activations : List Activation
  -- by process number
  pub made : List ℕ

-- the name that the next activation of a process gets
abbrev pub next_name : Made → ProcessId → Name
next_name m p = record { process = p; place = slice_index_or m.made p.0 0 }

-- a process more, which made none yet
abbrev pub with_process : Made → Made
with_process m = record m { made = m.made ++ 0 ∷ [] }

-- an activation more
abbrev pub entered : Made → ProcessId → (around : Option Name) → List Val → Made
entered m p around values =
    record {
      activations = m.activations ++ record { name = next_name m p; around = around; values = values } ∷ [];
      made = slice_set m.made p.0 (slice_index_or m.made p.0 0 + 1);
    }
