use Rattle.std.proofs.Common.{◌≡◌, List, ◌∷◌, ◌∙◌, map, length, sym, ap, arith}
use Rattle.std.specs.List.{between}
use Rattle.std.proofs.lemmas.List.{nil_from_length}
use Rattle.std.proofs.lemmas.Slice.{first_rest}
use Rattle.sv_tree.specs.declared.unit.Description.{Description}
use Rattle.sv_tree.specs.UnitView.{description}
use Rattle.sv_names.specs.Instances.{definitions}
use Rattle.sv_elab_unit.specs.Definitions.{definition_in}
use Rattle.sv_elab_unit.specs.Roots.{roots_behind}
use Rattle.sv_elab_unit.proofs.RootLaws.{roots_end}
use Rattle.sv_elab_unit.proofs.tops.unused.Goals as goal

pub loop-left-preserved : goal.loop-left-preserved
loop-left-preserved c =
    let rest = between 1 (length c.loop-left.left.now) c.loop-left.left.now in
    let all = first_rest c.loop-left.left.now c.one-item.result c.in-len1-up.len_at_least ∙ ap (λ p. p ∷ rest) (sym c.one-item.is) in
    c.in_ok-add_description.ensures (map description rest)
    ∙ ap (λ (ds : List Description). roots_behind c.in_ok-used.used c.loop-left.seen (map definition_in c.loop-left.list)
    (definitions (map description ds))) (sym all)
    ∙ c.loop-left.invariant

pub returns : goal.returns
returns c =
    let kept = map definition_in c.loop-left.list in
    let none : length c.loop-left.left.now ≡ 0 = omega (arith, c.in_default.len_below) in
    let nothing = nil_from_length c.loop-left.left.now none in
    sym (roots_end c.in_ok-used.used c.loop-left.seen kept)
    ∙ sym (ap (λ (ds : List Description). roots_behind c.in_ok-used.used c.loop-left.seen kept (definitions (map description ds))) nothing)
    ∙ c.loop-left.invariant
