-- One instance after another.
use Rattle.std.proofs.Common.{◌∷◌, ◌∙◌, map, length, sym, ap}
use Rattle.std.specs.List.{between}
use Rattle.std.proofs.lemmas.Slice.{first_rest}
use Rattle.sv_tree.specs.Units as tree
use Rattle.sv_tree.specs.UnitView.{instance}
use Rattle.sv_names.specs.declared.checked.Checked.{Checked}
use Rattle.sv_names.specs.Checked.{all, ◌where_also◌}
use Rattle.sv_names.specs.Connections.{connections_stand}
use Rattle.sv_names.specs.Views.{around_in}
use Rattle.sv_elab_plain.proofs.CheckedLaws.{turn_guard}
use Rattle.sv_elab_plain.proofs.instances.ports_alone.Goals as goal

pub loop-left-preserved : goal.loop-left-preserved
loop-left-preserved c =
    let ar = around_in c.args.around.now in
    let rules : tree.Instance → Checked (Unit {0}) = λ x. connections_stand ar x.connections in
    let rest = between 1 (length c.loop-left.left.now) c.loop-left.left.now in
    let whole = first_rest c.loop-left.left.now c.one-item.result c.in-len1-up.len_at_least ∙ ap (λ p. p ∷ rest) (sym c.one-item.is) in
    turn_guard rules (instance c.one-item.result) (map instance rest) c.loop-left.guards c.in_ok-alone.alone c.and_guard-guards.result
    c.and_guard-guards.ensures (c.in_ok-alone.ensures.ok (rules (instance c.one-item.result)) c.instance_alone.ensures)
    ∙ ap (λ xs. c.loop-left.guards where_also all rules (map instance xs)) (sym whole)
    ∙ c.loop-left.invariant
