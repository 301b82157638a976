use Rattle.std.proofs.Common.{◌≡◌, ◌∷◌, ◌++◌, ◌∙◌, map, length, option_map, sym, ap}
use Rattle.std.specs.List.{between}
use Rattle.std.proofs.lemmas.Slice.{first_rest}
use Rattle.sv_tree.specs.StmtView.{implied}
use Rattle.sv_tree.specs.UnitView.{argument}
use Rattle.sv_elab_scope.specs.Views.{entry_in}
use Rattle.sv_elab_declare.specs.Added.{arguments_after}
use Rattle.sv_elab_declare.proofs.ArgumentLaws.{turn_taken}
use Rattle.sv_elab_declare.proofs.arguments.add_arguments.Goals as goal

pub loop-left-preserved : goal.loop-left-preserved
loop-left-preserved c =
    let before = option_map (λ t. implied t.now) c.loop-left.before in
    let rest = between 1 (length c.loop-left.left.now) c.loop-left.left.now in
    let all = first_rest c.loop-left.left.now c.one-item.result c.in-len1-up.len_at_least ∙ ap (λ a. a ∷ rest) (sym c.one-item.is) in
    turn_taken c.args.is_automatic before (argument c.one-item.result) (map argument rest) (implied c.type_of-ty.result.now) c.loop-left.names
    c.add_argument.new.names c.in_ok-add_argument.ensures c.type_of-ty.ensures
    ∙ ap (λ as'. map entry_in c.loop-left.names ++ arguments_after c.args.is_automatic before (map argument as')) (sym all)
    ∙ c.loop-left.invariant
