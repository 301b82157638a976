use Rattle.std.proofs.Common.{◌≡◌, ◌++◌, map}
use Rattle.sv_names.specs.Watched.{on_change}
use Rattle.sv_elab_watch.proofs.statements.on_changes.Given as goal

abbrev pub invariant-loop-expr : goal.invariant-loop-expr
invariant-loop-expr l = l.watches ++ map on_change l.expr-iterator.rest.items ≡ map on_change l.fn.operands
