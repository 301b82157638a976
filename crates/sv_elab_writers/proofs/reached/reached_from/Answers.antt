use Rattle.std.proofs.Common.{◌∙◌, Bor, map, length, sym, ap}
use Rattle.sv_names.specs.declared.around.ClassInfo.{ClassInfo}
use Rattle.sv_elab_writers.specs.Views.{row_in}
use Rattle.sv_elab_writers.proofs.ReachedLaws.{one_round, last_round}
use Rattle.sv_elab_writers.proofs.reached.reached_from.Goals as goal

pub loop-left-preserved : goal.loop-left-preserved
loop-left-preserved c =
    one_round c.loop-left.left (map (λ (k : Bor ClassInfo). k.now) c.args.classes.now) (map row_in c.args.table.now) c.loop-left.paths c.add_round.new.paths c.loop-left-test.true
    c.in_ok-add_round.ensures
    ∙ c.loop-left.invariant

pub returns-then-as_slice-before : goal.returns-then-as_slice-before
returns-then-as_slice-before c =
    last_round c.loop-left.left (map (λ (k : Bor ClassInfo). k.now) c.args.classes.now) (map row_in c.args.table.now) c.loop-left.paths c.add_round.new.paths c.in_ok-add_round.ensures
    (ap length (sym c.as_slice.ensures) ∙ c.if-as_slice-before.true ∙ ap length c.as_slice-before.ensures)
    ∙ c.loop-left.invariant
