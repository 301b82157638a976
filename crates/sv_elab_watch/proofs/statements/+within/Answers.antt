use Rattle.std.proofs.Common.{◌∷◌, ◌∙◌, length, sym, ap}
use Rattle.std.specs.List.{between}
use Rattle.std.proofs.lemmas.Slice.{first_rest}
use Rattle.sv_names.specs.Watched.{body_from}
use Rattle.sv_elab_watch.proofs.StatementLaws.{statement_turn}
use Rattle.sv_elab_watch.proofs.statements.+within.Goals as goal

pub add_statements-loop-left-preserved : goal.add_statements-loop-left-preserved
add_statements-loop-left-preserved t c =
    let rest = between 1 (length c.loop-left.left.now) c.loop-left.left.now in
    let all = first_rest c.loop-left.left.now c.one-item.result c.in-len1-up.len_at_least ∙ ap (λ p. p ∷ rest) (sym c.one-item.is) in
    statement_turn (body_from c.args.first c.args.added.now) c.args.levels c.args.depth c.loop-left.left.now rest c.one-item.result
    c.loop-left.list c.add_own.new.list c.add_inner.new.list all c.in_ok-add_own.ensures c.in_ok-add_inner.ensures
    ∙ c.loop-left.invariant
