-- One time scale after another.
use Rattle.std.proofs.Common.{◌∙◌, nat_lt}
use Rattle.sv_names.specs.Checked.{rule}
use Rattle.sv_elab_whole.proofs.ScaleLaws.{turn_guard}
use Rattle.sv_elab_whole.proofs.scales.precisions_stand.Goals as goal

pub loop-left-preserved : goal.loop-left-preserved
loop-left-preserved c =
    turn_guard (λ t. rule 54 t.at (nat_lt t.unit t.precision)) c.loop-left.left.now _ c.loop-left.guards c.precision_stands.result
    c.and_guard-guards.result c.in-len1-up.len_at_least c.and_guard-guards.ensures c.precision_stands.ensures
    ∙ c.loop-left.invariant
