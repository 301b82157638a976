-- One argument after another.
use Rattle.std.proofs.Common.{◌∷◌, ◌∙◌, length, sym, ap}
use Rattle.std.specs.List.{between}
use Rattle.std.proofs.lemmas.Slice.{first_rest}
use Rattle.sv_names.specs.Checked.{all, ◌where_also◌}
use Rattle.sv_elab_head.specs.Standing.{formal_stands}
use Rattle.sv_elab_head.proofs.StandLaws.{turn_guard}
use Rattle.sv_elab_head.proofs.stands.callee_stands.Goals as goal

pub loop-left-preserved : goal.loop-left-preserved
loop-left-preserved c =
    let rest = between 1 (length c.loop-left.left.now) c.loop-left.left.now in
    let whole = first_rest c.loop-left.left.now c.one-item.result c.in-len1-up.len_at_least ∙ ap (λ p. p ∷ rest) (sym c.one-item.is) in
    turn_guard formal_stands c.one-item.result rest c.loop-left.guards c.formal_stands.result c.and_guard-guards.result
    c.and_guard-guards.ensures c.formal_stands.ensures
    ∙ ap (λ fs. c.loop-left.guards where_also all formal_stands fs) (sym whole)
    ∙ c.loop-left.invariant
