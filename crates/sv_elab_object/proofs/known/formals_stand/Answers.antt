use Rattle.std.proofs.Common.{◌+◌, ◌∙◌, drop, sym, ap}
use Rattle.sv_names.specs.declared.checked.Checked.{Checked}
use Rattle.sv_names.specs.Checked.{all, ◌where_also◌}
use Rattle.sv_elab_object.specs.Known.{formal_stands}
use Rattle.sv_elab_object.proofs.KnownLaws.{guards_first, all_next, all_done}
use Rattle.sv_elab_object.proofs.known.formals_stand.Goals as goal

pub loop-formal-init : goal.loop-formal-init
loop-formal-init c = guards_first (all formal_stands c.args.formals.now)

pub loop-formal-preserved : goal.loop-formal-preserved
loop-formal-preserved c =
    all_next formal_stands c.args.formals.now c.loop-formal.formal-index c.formal-item.result c.loop-formal.guards c.and_guard-guards.result
    c.formal_stands.result (all formal_stands c.args.formals.now) c.loop-formal-test.true (sym c.formal-item.is) c.and_guard-guards.ensures
    c.formal_stands.ensures c.loop-formal.invariant

pub returns : goal.returns
returns c =
    all_done formal_stands c.args.formals.now c.loop-formal.formal-index c.loop-formal.guards (all formal_stands c.args.formals.now)
    c.loop-formal-test.false c.loop-formal.invariant
