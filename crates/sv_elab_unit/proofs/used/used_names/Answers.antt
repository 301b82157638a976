use Rattle.std.proofs.Common.{◌≡◌, List, ◌∷◌, ◌∙◌, map, length, sym, ap, arith}
use Rattle.std.specs.List.{between}
use Rattle.std.specs.Prelude.{◌||◌}
use Rattle.std.proofs.lemmas.List.{nil_from_length}
use Rattle.std.proofs.lemmas.Slice.{first_rest}
use Rattle.sv_tree.specs.declared.unit.Description.{Description}
use Rattle.sv_tree.specs.UnitView.{description}
use Rattle.sv_names.specs.Index.{has_name}
use Rattle.sv_names.specs.Instances.{all_used}
use Rattle.sv_names.specs.Types.{among}
use Rattle.sv_elab_unit.proofs.UsedLaws.{or_false}
use Rattle.sv_elab_unit.proofs.used.used_names.Goals as goal

pub loop-left-init : goal.loop-left-init
loop-left-init c x =
    ap (λ b. among x (all_used (map description c.args.all.now)) || b) (c.new-used.ensures x) ∙ sym (or_false (among x (all_used (map description c.args.all.now))))

pub loop-left-preserved : goal.loop-left-preserved
loop-left-preserved c x =
    let rest = between 1 (length c.loop-left.left.now) c.loop-left.left.now in
    let all = first_rest c.loop-left.left.now c.one-item.result c.in-len1-up.len_at_least ∙ ap (λ p. p ∷ rest) (sym c.one-item.is) in
    c.in_ok-add_description.ensures (map description rest) x
    ∙ ap (λ (ds : List Description). among x (all_used (map description ds)) || has_name c.loop-left.used x) (sym all)
    ∙ c.loop-left.invariant x

pub returns : goal.returns
returns c x =
    let none : length c.loop-left.left.now ≡ 0 = omega (arith, c.in_default.len_below) in
    let nothing = nil_from_length c.loop-left.left.now none in
    sym (ap (λ (ds : List Description). among x (all_used (map description ds)) || has_name c.loop-left.used x) nothing)
    ∙ c.loop-left.invariant x
