use Rattle.std.proofs.Common.{sym, ◌∙◌}
use Rattle.sv_elab_unit.proofs.UnitLaws.{stays, grows}
use Rattle.sv_elab_unit.proofs.units.add_unit.Goals as goal

pub returns-then-contains_key : goal.returns-then-contains_key
returns-then-contains_key c us is =
    stays c.args.first.now us c.args.unit c.bytes-name.result.now c.bytes-name.ensures is (sym c.contains_key.ensures ∙ c.if-contains_key.true)

pub returns : goal.returns
returns c us is =
    grows c.args.first.now us c.args.unit c.bytes-name.result.now c.bytes-name.ensures is c.insert.new.self c.in_ok-key.key
    c.in_ok-key.ensures.items (sym c.contains_key.ensures ∙ c.if-contains_key.false) c.in_ok-insert.ensures.updates
