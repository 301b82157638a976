-- One argument after another.
use Rattle.std.proofs.Common.{◌∷◌, ◌++◌, ◌∙◌, map, length, sym, ap}
use Rattle.std.specs.List.{between}
use Rattle.std.proofs.lemmas.Slice.{first_rest}
use Rattle.sv_tree.specs.UnitView.{argument}
use Rattle.sv_names.specs.Named.{in_known}
use Rattle.sv_names.specs.Subroutines.{formal_known}
use Rattle.sv_names.specs.Views.{around_in}
use Rattle.sv_elab_subroutine.specs.Formals.{formals_after}
use Rattle.sv_elab_subroutine.proofs.FormalLaws.{turn_formal}
use Rattle.sv_elab_subroutine.proofs.formals.formals_of.Goals as goal

pub loop-left-preserved : goal.loop-left-preserved
loop-left-preserved c =
    let ar = around_in c.args.around.now in
    let s = c.args.scope.now in
    let rest = between 1 (length c.loop-left.left.now) c.loop-left.left.now in
    let all = first_rest c.loop-left.left.now c.one-item.result c.in-len1-up.len_at_least ∙ ap (λ p. p ∷ rest) (sym c.one-item.is) in
    turn_formal ar s c.loop-left.direction c.direction_or-direction.result (argument c.one-item.result) (map argument rest) c.loop-left.formals
    c.push_formal-in-len1-up.new.formals c.formal_called-formal.result c.in_ok-push_formal-2.ensures
    (c.formal_called-formal.ensures ∙ (λ i. formal_known ar (c.way_of.ensures i) (in_known 0 0 (c.bytes.ensures i) s.known)))
    c.direction_or-direction.ensures
    ∙ ap (λ as'. c.loop-left.formals ++ formals_after ar s c.loop-left.direction (map argument as')) (sym all)
    ∙ c.loop-left.invariant
