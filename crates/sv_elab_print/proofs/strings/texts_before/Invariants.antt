use Rattle.std.proofs.Common.{◌≡◌, vec_len}
use Rattle.sv_elab_print.specs.Printing.{texts_before}
use Rattle.sv_elab_print.proofs.strings.texts_before.Given as goal

abbrev pub invariant-loop-high : goal.invariant-loop-high
invariant-loop-high l = texts_before l.left.items l.whole ≡ texts_before l.initial.left.items l.initial.whole

abbrev pub decreases-loop-high : goal.decreases-loop-high
decreases-loop-high l = vec_len l.left
