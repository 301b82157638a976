use Rattle.std.proofs.Common.{map, sym, ap, ◌∙◌}
use Rattle.sv_names.specs.Checked.{rule, ◌where_also◌}
use Rattle.sv_names.specs.Writers.{not_initialized, some}
use Rattle.sv_elab_writers.specs.Laws.{continues}
use Rattle.sv_elab_writers.specs.Views.{write_in, initialized_in}
use Rattle.sv_elab_writers.proofs.ClashLaws.{one_more}
use Rattle.sv_elab_writers.proofs.clashes.none_continued.Goals as goal

pub loop-one-preserved : goal.loop-one-preserved
loop-one-preserved c =
    one_more (not_initialized (map write_in c.args.writes.now)) initialized_in c.args.variables.now c.loop-one.one-index c.one-item.result
    c.loop-one.guards c.and_guard-guards.result c.loop-one-test.true (sym c.one-item.is)
    (c.and_guard-guards.ensures
    ∙ ap (λ r. c.loop-one.guards where_also r) (c.rule.ensures ∙ ap (rule 23 c.one-item.result.at)
    (c.is_written_continuously-is_broken.ensures (map write_in c.args.writes.now) c.in_ok-marked.ensures ∙ ap (λ p. some (continues p) (map write_in c.args.writes.now)) c.as_slice.ensures)))
    ∙ c.loop-one.invariant
