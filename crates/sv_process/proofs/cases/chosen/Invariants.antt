use Rattle.std.proofs.Common.{◌≡◌, drop}
use Rattle.sv_flat.specs.Statements.Matching.{chosen_item}
use Rattle.sv_process.proofs.cases.chosen.Given as goal

abbrev pub invariant-loop-item : goal.invariant-loop-item
invariant-loop-item g l =
    chosen_item l.kind l.fn.x l.items l.default (g.V.Values.view l.fn.values)
    ≡ chosen_item l.kind l.fn.x (drop l.item-index l.items) l.default (g.V.Values.view l.fn.values)
