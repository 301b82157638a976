-- One time scale after another.
use Rattle.std.proofs.Common.{◌∙◌}
use Rattle.sv_names.specs.Design.{differs}
use Rattle.sv_elab_whole.proofs.ScaleLaws.{turn_guard}
use Rattle.sv_elab_whole.proofs.scales.all_agree.Goals as goal

pub loop-left-preserved : goal.loop-left-preserved
loop-left-preserved c =
    turn_guard (differs c.args.first) c.loop-left.left.now _ c.loop-left.guards c.agrees.result c.and_guard-guards.result
    c.in-len1-up.len_at_least c.and_guard-guards.ensures c.agrees.ensures
    ∙ c.loop-left.invariant
