use Rattle.std.proofs.Common.{◌≡◌, ◌++◌, length}
use Rattle.sv_flat.specs.declared.design.Parts.{Parts}
use Rattle.sv_flat.specs.Statements.Shared.{written}
use Rattle.sv_assign.specs.Places.{spots_in}
use Rattle.sv_stack.specs.Effects.{effects_in}
use Rattle.sv_process.proofs.assigns.write_all.Given as goal

-- what is written, and what is still to be written
abbrev pub invariant-loop-out : goal.invariant-loop-out
invariant-loop-out l = (d : Parts) → effects_in d l.out.items ++ written (spots_in l.places.items) l.values.items
    ≡ effects_in d l.initial.out.items ++ written (spots_in l.initial.places.items) l.initial.values.items

abbrev pub decreases-loop-out : goal.decreases-loop-out
decreases-loop-out l = length l.places.items
