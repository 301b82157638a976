use Rattle.std.proofs.Common.{◌≡◌, drop}
use Rattle.sv_flat.specs.Statements.Matching.{any_label}
use Rattle.sv_process.proofs.cases.some_label.Given as goal

abbrev pub invariant-loop-label : goal.invariant-loop-label
invariant-loop-label g l =
    any_label l.kind l.fn.x l.labels (g.V.Values.view l.fn.values) ≡ any_label l.kind l.fn.x (drop l.label-index l.labels) (g.V.Values.view l.fn.values)
