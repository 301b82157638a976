use Rattle.std.proofs.Common.{◌+◌, ◌∙◌, drop, sym, ap}
use Rattle.sv_names.specs.declared.checked.Checked.{Checked}
use Rattle.sv_names.specs.Checked.{all, ◌where_also◌}
use Rattle.sv_elab_object.specs.Known.{known_stands}
use Rattle.sv_elab_object.proofs.KnownLaws.{guards_first, all_next, all_done}
use Rattle.sv_elab_object.proofs.known.names_stand.Goals as goal

pub loop-one-init : goal.loop-one-init
loop-one-init c = guards_first (all known_stands c.args.known.now)

pub loop-one-preserved : goal.loop-one-preserved
loop-one-preserved c =
    all_next known_stands c.args.known.now c.loop-one.one-index c.one-item.result c.loop-one.guards c.and_guard-guards.result
    c.name_stands.result (all known_stands c.args.known.now) c.loop-one-test.true (sym c.one-item.is) c.and_guard-guards.ensures
    c.name_stands.ensures c.loop-one.invariant

pub returns : goal.returns
returns c =
    all_done known_stands c.args.known.now c.loop-one.one-index c.loop-one.guards (all known_stands c.args.known.now)
    c.loop-one-test.false c.loop-one.invariant
