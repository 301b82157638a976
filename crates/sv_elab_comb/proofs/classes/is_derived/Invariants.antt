use Rattle.std.proofs.Common.{◌≡◌, ◌+◌, Some}
use Rattle.sv_flat.specs.Classes.{derived_within, is_derived}
use Rattle.sv_elab_comb.proofs.classes.is_derived.Given as goal

abbrev pub invariant-loop-left : goal.invariant-loop-left
invariant-loop-left l = derived_within (l.left + 1) l.parts (Some l.next) l.base ≡ is_derived l.parts l.fn.class l.base

abbrev pub decreases-loop-left : goal.decreases-loop-left
decreases-loop-left l = l.left
