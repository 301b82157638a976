-- One class after another.
use Rattle.std.proofs.Common.{◌≡◌, ◌∷◌, ◌∙◌, map, length, sym, ap}
use Rattle.std.specs.List.{between}
use Rattle.std.proofs.lemmas.Slice.{first_rest}
use Rattle.sv_names.specs.Checked.{all, ◌where_also◌}
use Rattle.sv_names.specs.Groups.{base_rules}
use Rattle.sv_elab_class.specs.Heads.{head_in}
use Rattle.sv_elab_class.proofs.GuardLaws.{turn_guard}
use Rattle.sv_elab_class.proofs.lines.bases_stand.Goals as goal

pub loop-left-preserved : goal.loop-left-preserved
loop-left-preserved c =
    let rules = base_rules (map head_in c.args.heads.now) in
    let rest = between 1 (length c.loop-left.left.now) c.loop-left.left.now in
    let whole = first_rest c.loop-left.left.now c.one-item.result c.in-len1-up.len_at_least ∙ ap (λ p. p ∷ rest) (sym c.one-item.is) in
    turn_guard rules (head_in c.one-item.result) (map head_in rest) c.loop-left.guards c.base_rules.result c.and_guard-guards.result
    c.and_guard-guards.ensures c.base_rules.ensures
    ∙ ap (λ hs. c.loop-left.guards where_also all rules (map head_in hs)) (sym whole)
    ∙ c.loop-left.invariant
