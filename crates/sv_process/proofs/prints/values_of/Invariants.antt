use Rattle.std.proofs.Common.{◌≡◌, drop}
use Rattle.sv_flat.specs.Statements.Shared.{values_of}
use Rattle.sv_process.proofs.PrintLemmas.{behind}
use Rattle.sv_process.proofs.prints.values_of.Given as goal

-- what was read comes before the rest
abbrev pub invariant-loop-expr : goal.invariant-loop-expr
invariant-loop-expr g l =
    values_of l.exprs (g.V.Values.view l.fn.values) ≡ behind l.all.items (values_of (drop l.expr-index l.exprs) (g.V.Values.view l.fn.values))
