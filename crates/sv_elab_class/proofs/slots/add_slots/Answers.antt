-- One item after another.
use Rattle.std.proofs.Common.{◌≡◌, ◌∷◌, ◌∙◌, map, length, sym, ap}
use Rattle.std.specs.List.{between}
use Rattle.std.proofs.lemmas.Slice.{first_rest}
use Rattle.sv_tree.specs.UnitView.{class_item}
use Rattle.sv_names.specs.Groups.{slots_over}
use Rattle.sv_elab_class.proofs.slots.add_slots.Goals as goal

pub loop-left-preserved : goal.loop-left-preserved
loop-left-preserved c =
    let rest = between 1 (length c.loop-left.left.now) c.loop-left.left.now in
    let whole = first_rest c.loop-left.left.now c.one-item.result c.in-len1-up.len_at_least ∙ ap (λ p. p ∷ rest) (sym c.one-item.is) in
    ap (λ ss. slots_over ss (map class_item rest)) c.in_ok-add_virtual.ensures
    ∙ ap (λ is. slots_over c.loop-left.slots (map class_item is)) (sym whole)
    ∙ c.loop-left.invariant
