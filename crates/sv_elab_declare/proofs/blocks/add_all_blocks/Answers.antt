use Rattle.std.proofs.Common.{◌∙◌, sym}
use Rattle.sv_elab_declare.proofs.BlockLaws.{stmt_turn}
use Rattle.sv_elab_declare.proofs.blocks.add_all_blocks.Goals as goal

pub loop-one-preserved : goal.loop-one-preserved
loop-one-preserved c =
    stmt_turn c.args.all.now c.loop-one.one-index c.one-item.result c.loop-one.names c.add_blocks.new.names c.loop-one-test.true
    (sym c.one-item.is) c.in_ok-add_blocks.ensures
    ∙ c.loop-one.invariant
