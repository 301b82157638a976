use Rattle.std.proofs.Common.{◌∙◌, length, sym, ap}
use Rattle.sv_elab_comb.proofs.ReachedLaws.{one_round, last_round}
use Rattle.sv_elab_comb.proofs.reached.reached_from.Goals as goal

pub loop-left-preserved : goal.loop-left-preserved
loop-left-preserved c =
    one_round c.loop-left.left c.args.parts.now c.loop-left.ids c.add_round.new.ids c.loop-left-test.true c.in_ok-add_round.ensures
    ∙ c.loop-left.invariant

pub returns-then-as_slice-before : goal.returns-then-as_slice-before
returns-then-as_slice-before c =
    last_round c.loop-left.left c.args.parts.now c.loop-left.ids c.add_round.new.ids c.in_ok-add_round.ensures
    (ap length (sym c.as_slice.ensures) ∙ c.if-as_slice-before.true ∙ ap length c.as_slice-before.ensures)
    ∙ c.loop-left.invariant
