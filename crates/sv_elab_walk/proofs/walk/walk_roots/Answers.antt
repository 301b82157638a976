-- One root after another.
use Rattle.std.proofs.Common.{◌≡◌, ◌∷◌, ◌-◌, suc, List, map, length, refl, sym, ap, ◌∙◌, arith}
use Rattle.std.specs.List.{between}
use Rattle.std.proofs.lemmas.List.{nil_from_length}
use Rattle.std.proofs.lemmas.Slice.{first_rest}
use Rattle.sv_names.specs.Instances.{roots_walk}
use Rattle.sv_elab_unit.specs.Definitions.{definition_in}
use Rattle.sv_elab_unit.specs.declared.definitions.Definition.{Definition}
use Rattle.sv_elab_walk.specs.declared.instance.Walked as code_walked
use Rattle.sv_elab_walk.specs.Insts.{inst_in, all_walked}
use Rattle.sv_elab_walk.specs.Grounds.{units_in, files_in}
use Rattle.sv_elab_walk.specs.Frames.{goes_on}
use Rattle.sv_elab_walk.proofs.RootLaws.{roots_begin, root_walked, root_ended, root_passes, roots_end}
use Rattle.sv_elab_walk.proofs.walk.walk_roots.Goals as goal

pub loop-left-init : goal.loop-left-init
loop-left-init c =
    let all = roots_walk (units_in c.args.ground.now) (files_in c.args.ground.now) c.args.most (map definition_in c.args.all.now) in
    ap (λ (ws : List code_walked.Walked). goes_on (all_walked ws) c.args.limit all) c.new-walked.ensures ∙ roots_begin c.args.limit all

pub returns-then-allowed-eq0 : goal.returns-then-allowed-eq0
returns-then-allowed-eq0 c =
    let us = units_in c.args.ground.now in
    let files = files_in c.args.ground.now in
    let rest = between 1 (length c.loop-left.left.now) c.loop-left.left.now in
    let all = first_rest c.loop-left.left.now c.one-item.result c.in-len1-up.len_at_least ∙ ap (λ p. p ∷ rest) (sym c.one-item.is) in
    ap (λ p. p.0)
    (root_passes us files c.args.most c.loop-left.walked c.push.new.self _ (definition_in c.one-item.result) (map definition_in rest)
    c.in_ok-push.ensures.ok refl
    ∙ (λ i. goes_on (all_walked c.loop-left.walked) (sym c.if-allowed-eq0.true i)
    (roots_walk us files c.args.most (map definition_in (sym all i))))
    ∙ c.loop-left.invariant)

pub returns-in_default-2 : goal.returns-in_default-2
returns-in_default-2 c =
    let us = units_in c.args.ground.now in
    let files = files_in c.args.ground.now in
    let rest = between 1 (length c.loop-left.left.now) c.loop-left.left.now in
    let all = first_rest c.loop-left.left.now c.one-item.result c.in-len1-up.len_at_least ∙ ap (λ p. p ∷ rest) (sym c.one-item.is) in
    let left : suc (c.loop-left.allowed - 1) ≡ c.loop-left.allowed = omega (arith, c.if-allowed-eq0.false) in
    ap (λ p. p.0)
    (root_ended us files c.args.most (all_walked c.loop-left.walked) (all_walked c.walk_inst.new.walked) (c.loop-left.allowed - 1)
    c.in_ok-after.field-0 (definition_in c.one-item.result) (map definition_in rest) (inst_in c.in_ok-root.root) c.in_ok-root.ensures
    c.in_ok-after.ensures c.in_default-2.is
    ∙ (λ i. goes_on (all_walked c.loop-left.walked) (left i) (roots_walk us files c.args.most (map definition_in (sym all i))))
    ∙ c.loop-left.invariant)

pub loop-left-preserved : goal.loop-left-preserved
loop-left-preserved c =
    let us = units_in c.args.ground.now in
    let files = files_in c.args.ground.now in
    let rest = between 1 (length c.loop-left.left.now) c.loop-left.left.now in
    let all = first_rest c.loop-left.left.now c.one-item.result c.in-len1-up.len_at_least ∙ ap (λ p. p ∷ rest) (sym c.one-item.is) in
    let left : suc (c.loop-left.allowed - 1) ≡ c.loop-left.allowed = omega (arith, c.if-allowed-eq0.false) in
    root_walked us files c.args.most (all_walked c.loop-left.walked) (all_walked c.walk_inst.new.walked) (c.loop-left.allowed - 1)
    c.in-Some.after c.in_ok-after.field-0 (definition_in c.one-item.result) (map definition_in rest) (inst_in c.in_ok-root.root)
    c.in_ok-root.ensures c.in_ok-after.ensures c.in-Some.is
    ∙ (λ i. goes_on (all_walked c.loop-left.walked) (left i) (roots_walk us files c.args.most (map definition_in (sym all i))))
    ∙ c.loop-left.invariant

pub returns : goal.returns
returns c =
    let us = units_in c.args.ground.now in
    let files = files_in c.args.ground.now in
    let none : length c.loop-left.left.now ≡ 0 = omega (arith, c.in_default.len_below) in
    let nothing = nil_from_length c.loop-left.left.now none in
    ap (λ p. p.0)
    (roots_end us files c.args.most (all_walked c.loop-left.walked) c.loop-left.allowed
    ∙ ap (λ (ds : List Definition). goes_on (all_walked c.loop-left.walked) c.loop-left.allowed
    (roots_walk us files c.args.most (map definition_in ds))) (sym nothing)
    ∙ c.loop-left.invariant)
