use Rattle.std.proofs.Common.{◌≡◌, vec_len}
use Rattle.sv_elab_operator.specs.Concatenations.{joined_before}
use Rattle.sv_elab_operator.proofs.concatenations.joined_before.Given as goal

abbrev pub invariant-loop-part : goal.invariant-loop-part
invariant-loop-part l = joined_before l.parts.items l.whole ≡ joined_before l.initial.parts.items l.initial.whole

abbrev pub decreases-loop-part : goal.decreases-loop-part
decreases-loop-part l = vec_len l.parts
