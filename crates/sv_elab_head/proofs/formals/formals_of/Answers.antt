-- One argument after another.
use Rattle.std.proofs.Common.{◌∷◌, ◌++◌, ◌∙◌, map, length, option_map, sym, ap}
use Rattle.std.specs.List.{between}
use Rattle.std.proofs.lemmas.Slice.{first_rest}
use Rattle.sv_tree.specs.StmtView.{implied}
use Rattle.sv_tree.specs.UnitView.{argument}
use Rattle.sv_names.specs.Entries.{taken_from}
use Rattle.sv_names.specs.Views.{around_in}
use Rattle.sv_elab_declare.specs.Added.{type_before}
use Rattle.sv_elab_head.specs.Formals.{formal_within}
use Rattle.sv_elab_head.proofs.FormalLaws.{turn_formal}
use Rattle.sv_elab_head.proofs.formals.formals_of.Goals as goal

pub loop-left-preserved : goal.loop-left-preserved
loop-left-preserved c =
    let f = formal_within (around_in c.args.around.now) c.args.scope.now in
    let before = option_map (λ t. implied t.now) c.loop-left.before in
    let rest = between 1 (length c.loop-left.left.now) c.loop-left.left.now in
    let all = first_rest c.loop-left.left.now c.one-item.result c.in-len1-up.len_at_least ∙ ap (λ p. p ∷ rest) (sym c.one-item.is) in
    turn_formal f c.loop-left.direction c.direction_or-direction.result before (implied c.type_of-ty.result.now) (argument c.one-item.result)
    (map argument rest) c.loop-left.list c.push.new.self c.in_ok-formal.formal c.in_ok-push.ensures.ok c.in_ok-formal.ensures
    c.direction_or-direction.ensures c.type_of-ty.ensures
    ∙ ap (λ as'. c.loop-left.list ++ map f (taken_from c.loop-left.direction (type_before before) (map argument as'))) (sym all)
    ∙ c.loop-left.invariant
