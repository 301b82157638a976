use Rattle.std.proofs.Common.{◌≡◌, true, false, List, ◌++◌, ◌∙◌, map, length, sym, ap, append-nil, arith}
use Rattle.std.proofs.lemmas.List.{nil_from_length}
use Rattle.sv_tree.specs.declared.unit.Port.{Port}
use Rattle.sv_tree.specs.Types.{Unwritten}
use Rattle.sv_tree.specs.UnitView.{port}
use Rattle.sv_elab_unit.specs.Definitions.{names_in}
use Rattle.sv_elab_unit.proofs.ListLaws.{port_texts}
use Rattle.sv_elab_unit.proofs.ports.port_names.Goals as goal

pub returns : goal.returns
returns c =
    let none : length c.loop-left.left.now ≡ 0 = omega (arith, c.in_default.len_below) in
    let nothing = nil_from_length c.loop-left.left.now none in
    sym (append-nil (names_in c.loop-left.list))
    ∙ sym (ap (λ (ps : List Port). names_in c.loop-left.list ++ map (λ p. p.name.text) (map port ps)) nothing)
    ∙ c.loop-left.invariant
    ∙ sym (port_texts true false Unwritten (map port c.args.of.now.ports.items))
