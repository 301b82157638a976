-- One member after another.
use Rattle.std.proofs.Common.{◌≡◌, ◌∷◌, ◌∙◌, length, sym, ap}
use Rattle.std.specs.List.{between}
use Rattle.std.proofs.lemmas.Slice.{first_rest}
use Rattle.sv_names.specs.Checked.{all, ◌where_also◌}
use Rattle.sv_names.specs.Classes.{override_stands}
use Rattle.sv_names.specs.Views.{around_in}
use Rattle.sv_elab_declare.specs.Alone.{class_in}
use Rattle.sv_elab_class.proofs.GuardLaws.{turn_guard}
use Rattle.sv_elab_class.proofs.overrides.overrides_stand.Goals as goal

pub loop-left-preserved : goal.loop-left-preserved
loop-left-preserved c =
    let rules = override_stands (around_in c.args.around.now) (class_in c.args.base) in
    let rest = between 1 (length c.loop-left.left.now) c.loop-left.left.now in
    let whole = first_rest c.loop-left.left.now c.one-item.result c.in-len1-up.len_at_least ∙ ap (λ p. p ∷ rest) (sym c.one-item.is) in
    turn_guard rules c.one-item.result rest c.loop-left.guards c.override_stands.result c.and_guard-guards.result
    c.and_guard-guards.ensures c.override_stands.ensures
    ∙ ap (λ ms. c.loop-left.guards where_also all rules ms) (sym whole)
    ∙ c.loop-left.invariant
