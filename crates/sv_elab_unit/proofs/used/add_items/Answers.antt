use Rattle.std.proofs.Common.{◌≡◌, List, ◌∷◌, ◌∙◌, map, length, sym, ap, arith}
use Rattle.std.specs.List.{between}
use Rattle.std.specs.Prelude.{flat_map, ◌||◌}
use Rattle.std.proofs.lemmas.List.{nil_from_length}
use Rattle.std.proofs.lemmas.Slice.{first_rest}
use Rattle.sv_tree.specs.declared.unit.Item.{Item}
use Rattle.sv_tree.specs.UnitView.{item}
use Rattle.sv_names.specs.Index.{has_name}
use Rattle.sv_names.specs.Instances.{used_names}
use Rattle.sv_names.specs.Types.{among}
use Rattle.sv_elab_unit.proofs.UsedLaws.{adds_turn}
use Rattle.sv_elab_unit.proofs.used.add_items.Goals as goal

pub loop-left-preserved : goal.loop-left-preserved
loop-left-preserved c x =
    let rest = between 1 (length c.loop-left.left.now) c.loop-left.left.now in
    let all = first_rest c.loop-left.left.now c.one-item.result c.in-len1-up.len_at_least ∙ ap (λ p. p ∷ rest) (sym c.one-item.is) in
    adds_turn c.loop-left.used c.add_item.new.used (used_names (item c.one-item.result)) (flat_map used_names (map item rest)) c.in_ok-add_item.ensures x
    ∙ ap (λ (is : List Item). among x (flat_map used_names (map item is)) || has_name c.loop-left.used x) (sym all)
    ∙ c.loop-left.invariant x

pub returns : goal.returns
returns c x =
    let none : length c.loop-left.left.now ≡ 0 = omega (arith, c.in_default.len_below) in
    let nothing = nil_from_length c.loop-left.left.now none in
    sym (ap (λ (is : List Item). among x (flat_map used_names (map item is)) || has_name c.loop-left.used x) nothing)
    ∙ c.loop-left.invariant x
