-- One declaration after another.
use Rattle.std.proofs.Common.{sym, ap, ◌∙◌}
use Rattle.sv_names.specs.Checked.{rule}
use Rattle.sv_elab_scope.proofs.RepeatLaws.{one_more}
use Rattle.sv_elab_scope.proofs.repeated.twice_among_few.Goals as goal

pub loop-position-preserved : goal.loop-position-preserved
loop-position-preserved c =
    let e = c.index-entries-position.result in
    one_more c.args.number c.args.entries.now c.loop-position.position e c.loop-position.guards c.rule.result c.and_guard-guards.result
    c.loop-position-test.true (sym c.index-entries-position.is) c.and_guard-guards.ensures
    (c.rule.ensures ∙ ap (rule c.args.number e.name.now.at) c.clashes-is_broken.ensures)
    ∙ c.loop-position.invariant
