use Rattle.sv_flat.specs.Effects.Writes.{stored_over}
use Rattle.sv_assign.proofs.WriteLaws.{all_told, all_same}
use Rattle.sv_assign.proofs.writes.overwrite.Goals as goal

pub returns-clause-some : goal.returns-clause-some
returns-clause-some c =
    all_told c.args.store.now c.write.new.self c.args.target.object (stored_over c.args.target.element c.args.target.part c.args.value) c.write.result
    c.write.ensures.new c.write.ensures.object c.write.ensures.some

pub returns-clause-none : goal.returns-clause-none
returns-clause-none c =
    all_same c.args.store.now c.write.new.self c.args.target.object (stored_over c.args.target.element c.args.target.part c.args.value) c.write.result
    c.write.ensures.new c.write.ensures.none
