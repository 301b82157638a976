use Rattle.std.proofs.Common.{◌≡◌, List, [], ◌++◌, map, sym, ap, ◌∙◌, append-nil}
use Rattle.std.proofs.lemmas.List.{nil_from_length}
use Rattle.sv_flat.specs.Expr.{Expr}
use Rattle.sv_names.specs.Watched.{on_change}
use Rattle.sv_elab_watch.proofs.statements.on_changes.Goals as goal

pub returns : goal.returns
returns c =
    let nothing : c.loop-expr.expr-iterator.rest.items ≡ [] =
    nil_from_length c.loop-expr.expr-iterator.rest.items (sym c.loop-expr.expr-iterator.rest.ok.0 ∙ c.in-None.ensures.steps.0) in
    sym (append-nil c.loop-expr.watches)
    ∙ sym (ap (λ (es : List Expr). c.loop-expr.watches ++ map on_change es) nothing)
    ∙ c.loop-expr.invariant
