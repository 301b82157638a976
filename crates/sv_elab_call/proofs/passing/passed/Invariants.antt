use Rattle.std.proofs.Common.{◌≡◌, drop}
use Rattle.std.specs.Vec.Iter.{into_iter_items}
use Rattle.sv_names.specs.Joined.{joined}
use Rattle.sv_names.specs.Views.{around_in}
use Rattle.sv_elab_call.specs.Passing.{passed}
use Rattle.sv_elab_call.proofs.passing.passed.Given as goal

abbrev pub invariant-loop-formal : goal.invariant-loop-formal
invariant-loop-formal l =
    joined l.list (passed (around_in l.around) l.at (drop l.formal-index l.formals) (into_iter_items l.args))
    ≡ passed (around_in l.around) l.at l.formals (into_iter_items l.initial.args)
