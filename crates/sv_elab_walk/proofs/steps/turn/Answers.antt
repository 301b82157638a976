-- A turn at an instance.
use Rattle.std.proofs.Common.{rules, ◌≡◌, ◌∷◌, map, length, refl, sym, ap, ◌∙◌, arith}
use Rattle.std.specs.List.{between}
use Rattle.std.proofs.lemmas.List.{nil_from_length}
use Rattle.std.proofs.lemmas.Slice.{first_rest}
use Rattle.sv_tree.specs.UnitView.{description}
use Rattle.sv_elab_walk.specs.Insts.{all_walked}
use Rattle.sv_elab_walk.specs.Frames.{behind}
use Rattle.sv_elab_walk.proofs.FrameLaws.{none_next, comes_next, nothing_left}
use Rattle.sv_elab_walk.proofs.steps.turn.Goals as goal

pub returns-in-len1-up-items-clause-met : goal.returns-in-len1-up-items-clause-met
returns-in-len1-up-items-clause-met c files n last =
    let us = map description c.args.units.now in
    none_next us files (all_walked c.meet_item.new.walked) n (behind us files c.meet_item.new.frames.items last)
    ∙ c.in_ok-meet_item-in-len1-up-items.ensures.met files n last

pub returns-in-len1-up-clause-met : goal.returns-in-len1-up-clause-met
returns-in-len1-up-clause-met c files n last =
    let rest = between 1 (length c.args.frame.list.now) c.args.frame.list.now in
    let list = first_rest c.args.frame.list.now c.one-item-2.result c.in-len1-up.len_at_least ∙ ap (λ p. p ∷ rest) (sym c.one-item-2.is) in
    let same : c.in_ok-clone-in-len1-up.field-0.value ≡ c.args.frame.of.value = search rules in
    comes_next (map description c.args.units.now) files c.args.walked.now c.args.frames.now.items c.push.new.self.items c.args.frame _ _ rest
    c.in_ok-push-in-len1-up.ensures.items list same refl refl refl refl refl n last

pub returns-clause-met : goal.returns-clause-met
returns-clause-met c files n last =
    let list : length c.args.frame.list.now ≡ 0 = omega (arith, c.in-empty.len_below) in
    let items : length c.args.frame.items.now ≡ 0 = omega (arith, c.in-empty-items.len_below) in
    nothing_left (map description c.args.units.now) files c.args.walked.now c.args.frames.now.items c.args.frame
    (nil_from_length c.args.frame.list.now list) (nil_from_length c.args.frame.items.now items) n last
