use Rattle.std.proofs.Common.{◌≡◌, ◌∷◌, ◌++◌, ◌∙◌, map, length, sym, ap}
use Rattle.std.specs.List.{between}
use Rattle.std.proofs.lemmas.Slice.{first_rest}
use Rattle.sv_tree.specs.UnitView.{port}
use Rattle.sv_elab_scope.specs.Views.{entry_in}
use Rattle.sv_elab_declare.specs.Ports.{ports_after}
use Rattle.sv_elab_declare.proofs.PortLaws.{turn_ports}
use Rattle.sv_elab_declare.proofs.ports.add_ports.Goals as goal

pub loop-left-preserved : goal.loop-left-preserved
loop-left-preserved c =
    let rest = between 1 (length c.loop-left.left.now) c.loop-left.left.now in
    let all = first_rest c.loop-left.left.now c.one-item.result c.in-len1-up.len_at_least ∙ ap (λ p. p ∷ rest) (sym c.one-item.is) in
    turn_ports c.loop-left.before c.port_type-ty.result (port c.one-item.result) (map port rest) c.loop-left.names c.add_port.new.names
    c.in_ok-add_port.ensures c.port_type-ty.ensures
    ∙ ap (λ ps. map entry_in c.loop-left.names ++ ports_after c.loop-left.before (map port ps)) (sym all)
    ∙ c.loop-left.invariant
