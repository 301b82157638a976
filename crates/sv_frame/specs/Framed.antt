-- What a process does depends only on what it can see, in all runs of a design (own).
use Rattle.sv_value.specs.declared.number.ProcessId.{ProcessId}
use Rattle.sv_flat.specs.declared.design.Parts.{Parts}
use Rattle.sv_flat.specs.Config.{Config, side_of}
use Rattle.sv_flat.specs.Laws.{IsReached, DoesStep, SameReach, Frames}

-- equal reach gives equal steps, in all runs of this design
abbrev pub IsFramed : Parts → Type 0
IsFramed d =
    (p : ProcessId) (c e : Config) → IsReached d c → IsReached d e → DoesStep p c → DoesStep p e → SameReach d (side_of c p) c e → Frames d p c e
