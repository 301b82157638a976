use Rattle.std.proofs.Common.{map, sym, ap, ◌∙◌}
use Rattle.sv_names.specs.Checked.{◌where_also◌}
use Rattle.sv_elab_writers.specs.Views.{write_in}
use Rattle.sv_elab_writers.specs.Laws.{stands}
use Rattle.sv_elab_writers.proofs.ClashLaws.{one_more}
use Rattle.sv_elab_writers.proofs.clashes.each_stands.Goals as goal

pub loop-w-preserved : goal.loop-w-preserved
loop-w-preserved c =
    one_more (stands c.args.law (map write_in c.args.writes.now)) write_in c.args.writes.now c.loop-w.w-index c.w-item.result c.loop-w.guards
    c.and_guard-guards.result c.loop-w-test.true (sym c.w-item.is)
    (c.and_guard-guards.ensures ∙ ap (λ r. c.loop-w.guards where_also r)
    (c.stands.ensures (map write_in c.args.writes.now) c.in_ok-all.ensures c.in_ok-strict.ensures))
    ∙ c.loop-w.invariant
