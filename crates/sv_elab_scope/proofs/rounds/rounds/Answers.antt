-- A round that goes on leaves one round less to be done; else it was the last one.
use Rattle.std.proofs.Common.{rules, ◌-◌, arith, ◌∙◌}
use Rattle.sv_names.specs.Views.{around_in}
use Rattle.sv_elab_scope.specs.Rows.{group_in}
use Rattle.sv_elab_scope.specs.Stages.{is_last}
use Rattle.sv_elab_scope.proofs.RoundsLaws.{going-on, ending}
use Rattle.sv_elab_scope.proofs.rounds.rounds.Goals as goal

pub loop-left-preserved : goal.loop-left-preserved
loop-left-preserved g c = record {
  counted = c.waiting-after.ensures;
  so_far =
      going-on g.M.Means.meant (is_last c.args.stage) (around_in c.args.around.now) c.args.path.now c.args.entries.now
      c.loop-left.left (c.loop-left.left - 1) c.loop-left.before c.waiting-after.result (group_in c.loop-left.group) (group_in c.in_ok-group.group) c.goes_on.result
      (omega arith) c.loop-left.invariant.counted c.in_ok-group.ensures c.waiting-after.ensures c.goes_on.ensures (search rules)
      ∙ c.loop-left.invariant.so_far;
}

pub returns-then-not-goes_on : goal.returns-then-not-goes_on
returns-then-not-goes_on g c =
    ending g.M.Means.meant (is_last c.args.stage) (around_in c.args.around.now) c.args.path.now c.args.entries.now
    c.loop-left.left (c.loop-left.left - 1) c.loop-left.before c.waiting-after.result (group_in c.loop-left.group) (group_in c.in_ok-group.group) c.goes_on.result
    (omega arith) c.loop-left.invariant.counted c.in_ok-group.ensures c.waiting-after.ensures c.goes_on.ensures (search rules)
    ∙ c.loop-left.invariant.so_far
