use Rattle.std.proofs.Common.{◌≡◌, ◌++◌}
use Rattle.sv_names.specs.Cases as cases
use Rattle.sv_elab_flow.proofs.case.items_of.Given as goal

abbrev pub invariant-loop-labels : goal.invariant-loop-labels
invariant-loop-labels l = l.items ++ cases.items_of l.labels-iterator.rest.items l.rest ≡ cases.items_of l.fn.labels l.fn.bodies
