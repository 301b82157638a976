-- One announcement after another.
use Rattle.std.proofs.Common.{◌≡◌, ◌∷◌, ◌∙◌, map, length, sym, ap}
use Rattle.std.specs.List.{between}
use Rattle.std.proofs.lemmas.Slice.{first_rest}
use Rattle.sv_names.specs.Checked.{all, ◌where_also◌}
use Rattle.sv_names.specs.Classes.{announced}
use Rattle.sv_elab_scope.specs.Views.{entry_in}
use Rattle.sv_elab_class.proofs.GuardLaws.{turn_guard}
use Rattle.sv_elab_class.proofs.announced.announcements_stand.Goals as goal

pub loop-left-preserved : goal.loop-left-preserved
loop-left-preserved c =
    let rules = announced (map entry_in c.args.entries.now) in
    let rest = between 1 (length c.loop-left.left.now) c.loop-left.left.now in
    let whole = first_rest c.loop-left.left.now c.one-item.result c.in-len1-up.len_at_least ∙ ap (λ p. p ∷ rest) (sym c.one-item.is) in
    turn_guard rules (entry_in c.one-item.result) (map entry_in rest) c.loop-left.guards c.announced.result c.and_guard-guards.result
    c.and_guard-guards.ensures c.announced.ensures
    ∙ ap (λ es. c.loop-left.guards where_also all rules (map entry_in es)) (sym whole)
    ∙ c.loop-left.invariant
